-- What is written for a buffer or a type is a message.
use Rattle.std.proofs.Common.{◌≡◌, ℕ, ◌<◌, ◌^◌, List, ◌++◌, length, Option, Some, refl, sym, ap, ◌∙◌, arith}
use Rattle.std.specs.Option.{option_map}
use Rattle.std.specs.Int.{w32, w64, to_le_bytes}
use Rattle.std.proofs.lemmas.Nat.{from_le_bytes-to_le_bytes_4, from_le_bytes-to_le_bytes_8}
use Rattle.vortex_flat.specs.Numbers.{little_endian, number}
use Rattle.vortex_flat.specs.Table.{table_at, field_in}
use Rattle.vortex_flat.specs.Layout.{low_first, whole_of, layout_of}
use Rattle.vortex_flat.specs.Tree.{one, eight, Tree, table, SlotTrees, no_slots, number_slot, target_slot}
use Rattle.vortex_flat.proofs.NumbersLemmas.{spell_4, spell_8}
use Rattle.vortex_prelude.specs.Chain.{◌>>=◌}
use Rattle.vortex_schema.specs.TypeTree.{tree_of_type}
use Rattle.vortex_schema.proofs.Laid.{bounded_laid, laid_in}
use Rattle.vortex_dtype.specs.DTypes.{term_of}
use Rattle.vortex_stream.specs.Header.{Content, buffer_content, type_content, kind_number, Header, message_table_of, content_at, header_of}
use Rattle.vortex_stream.specs.Stream.{IsMessage}
use Rattle.vortex_stream.specs.declared.kind.MessageKind.{MessageKind}
use Rattle.vortex_stream.specs.declared.kind.MessageKind.TheVariants.{Buffer, DType}
use Rattle.vortex_stream.specs.declared.schema.TheConstants.{VERSION}
use Rattle.vortex_ipc.specs.declared.encoder.EncoderMessage.{EncoderMessage}
use Rattle.vortex_ipc.specs.declared.encoder.EncoderMessage.TheVariants as given
use Rattle.vortex_ipc.specs.Encoding.{FitsHeader, IsReadAs, encoded, header_tree, with_body, with_length}
use Rattle.vortex_ipc.proofs.Heads.{header_laid, laid_short}

-- ---- numbers

low_1 : (n : ℕ) → n < 256 → little_endian (low_first 1 n) ≡ n
low_1 n lt = omega (arith, lt)

low_4 : (n : ℕ) → n < 2 ^ 32 → little_endian (to_le_bytes w32 n) ≡ n
low_4 n lt = spell_4 (to_le_bytes w32 n) refl ∙ from_le_bytes-to_le_bytes_4 n lt

low_8 : (n : ℕ) → n < 2 ^ 64 → little_endian (to_le_bytes w64 n) ≡ n
low_8 n lt = spell_8 (to_le_bytes w64 n) refl ∙ from_le_bytes-to_le_bytes_8 n lt

-- ---- headers

abbrev pub says : Content → ℕ → Header
says content size = record { content = content; body_size = size }

-- the header of a kind whose table has these slots
abbrev pub header_with : MessageKind → SlotTrees → ℕ → Tree
header_with kind slots size = table (number_slot one VERSION (number_slot one (kind_number kind) (target_slot (table slots) (number_slot eight size no_slots))))

buffer_reads : (exponent size : ℕ) → header_of (whole_of (header_with Buffer (number_slot one exponent no_slots) size)) ≡ Some (says (buffer_content (little_endian (low_first 1 exponent))) (little_endian (to_le_bytes w64 size)))
unfolding number table_at field_in message_table_of content_at header_of
buffer_reads exponent size = refl

type_reads : (size : ℕ) → header_of (whole_of (header_with DType no_slots size)) ≡ Some (says type_content (little_endian (to_le_bytes w64 size)))
unfolding number table_at field_in message_table_of content_at header_of
type_reads size = refl

buffer_header : (exponent size : ℕ) → exponent < 256 → size < 2 ^ 64 → header_of (whole_of (header_with Buffer (number_slot one exponent no_slots) size)) ≡ Some (says (buffer_content exponent) size)
buffer_header exponent size small short =
    buffer_reads exponent size
    ∙ ap (λ n. Some (says (buffer_content n) (little_endian (to_le_bytes w64 size)))) (low_1 exponent small)
    ∙ ap (λ n. Some (says (buffer_content exponent) n)) (low_8 size short)

type_header : (size : ℕ) → size < 2 ^ 64 → header_of (whole_of (header_with DType no_slots size)) ≡ Some (says type_content size)
type_header size short = type_reads size ∙ ap (λ n. Some (says type_content n)) (low_8 size short)

-- ---- messages

some_bytes : (xs ys : List ℕ) → Some xs ≡ Some ys → ys ≡ xs
some_bytes xs ys e = cc

framed : (m : EncoderMessage) (content : Content) (body bytes rest : List ℕ) → header_of (whole_of (header_tree m (length body))) ≡ Some (says content (length body)) → with_body m body ≡ Some bytes → IsMessage (bytes ++ rest) content body rest
framed m content body bytes rest reads e =
    let header : List ℕ = whole_of (header_tree m (length body)) in
    let laid : layout_of (header_tree m (length body)) ≡ Some header = header_laid m (length body) in
    let whole : with_body m body ≡ Some (with_length header ++ body) = ap (λ (o : Option (List ℕ)). option_map (λ h. h ++ body) (option_map with_length o)) laid in
    let is : bytes ≡ with_length header ++ body = some_bytes (with_length header ++ body) bytes (sym whole ∙ e) in
    record {
      prefix = to_le_bytes w32 (length header);
      header = header;
      parts = ap (λ (xs : List ℕ). xs ++ rest) is;
      prefix_len = refl;
      header_len = low_4 (length header) (laid_short (header_tree m (length body)) header laid);
      header_is = reads;
    }

-- what is encoded has the body that was found
at_body : (m : EncoderMessage) (found : Option (List ℕ)) (body bytes : List ℕ) → found ≡ Some body → found >>= with_body m ≡ Some bytes → with_body m body ≡ Some bytes
at_body m found body bytes e f = sym (ap (λ (o : Option (List ℕ)). o >>= with_body m) e) ∙ f

pub read_as : (m : EncoderMessage) (bytes rest : List ℕ) → FitsHeader m → encoded m ≡ Some bytes → IsReadAs m (bytes ++ rest) rest
read_as (given.Buffer b) bytes rest fits e =
    framed (given.Buffer b) (buffer_content b.now.exponent) b.now.bytes bytes rest (buffer_header b.now.exponent (length b.now.bytes) fits.0 fits.1) e
read_as (given.DType t) bytes rest bounded e =
    let tree : Tree = tree_of_type (term_of t.now) in
    let laid : layout_of tree ≡ Some (whole_of tree) = bounded_laid (term_of t.now) bounded in
    let lt = laid_short tree (whole_of tree) laid in
    let message = framed (given.DType t) type_content (whole_of tree) bytes rest (type_header (length (whole_of tree)) (omega (arith, lt))) (at_body (given.DType t) (layout_of tree) (whole_of tree) bytes laid e) in
    (whole_of tree, message, laid_in (term_of t.now) (whole_of tree) bounded laid)
