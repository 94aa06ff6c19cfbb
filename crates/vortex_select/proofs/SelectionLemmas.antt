-- From what was read to what is written.
use Rattle.std.proofs.Common.{◌≡◌, ℕ, ◌+◌, ◌*◌, ◌/◌, ◌^◌, ◌<◌, ◌≤◌, List, [], ◌∷◌, ◌++◌, length, take, filter, ℤ, zero, suc, inl, inr, ◌⊎◌, Option, Some, None, refl, sym, ap, subst, ◌∙◌, append_assoc, append-nil, length-append, arith}
use Rattle.std.specs.Prelude.{IfSome, sum_by, slice_get}
use Rattle.std.proofs.Math.Seq.{take-length}
use Rattle.std.specs.Ordering.{int_cmp}
use Rattle.std.proofs.lemmas.List.{map-append, length-map, take-append-le}
use Rattle.std.proofs.lemmas.List.Sums.{sum_by-append}
use Rattle.vortex_stream.specs.Header.{Content, array_content, type_content}
use Rattle.vortex_stream.specs.Stream.{IsMessage, AreArrays}
use Rattle.vortex_stream.proofs.StreamLemmas.{message_bytes, message_append, arrays_append, one_array}
use Rattle.std.specs.Io.KnownBytes.{Appends, Keeps}
use Rattle.vortex_select.specs.Column.{ColumnType, i64_column, i64_values, IsPrimitiveArray}
use Rattle.vortex_select.specs.Layout.{type_message, array_message, body_end, AreLaidOut}
use Rattle.vortex_select.specs.inner.KeptRows.{kept_region}
use Rattle.vortex_value.specs.Operator.{bears}
use Rattle.vortex_select.specs.Selection.{selected, counts_of}
use Rattle.vortex_select.specs.inner.Decoding.{after_type_of, primitive_array_of}
use Rattle.vortex_select.specs.Report.{no_counts}
use Rattle.vortex_select.specs.Theorem.{IsColumnStream, Selects, BeginsWith, SelectsPart}
use Rattle.vortex_select.specs.inner.Prefixes.{IsPrefix, ArePrefixes, IsMade, IsLastWithin, Reaches}
use Rattle.vortex_select.specs.declared.report.RowCounts.{RowCounts}
use Rattle.vortex_select.specs.declared.whole_output.Prefix.{Prefix}
use Rattle.vortex_select.specs.declared.words.Query.{Query}
use Rattle.vortex_select.proofs.Framing.{after_type_found}
use Rattle.vortex_select.proofs.ArrayFound.{array_found}
use Rattle.vortex_select.proofs.ArrayMessage.{primitive_names, array_stands}
use Rattle.vortex_select.proofs.KeptRows.{kept_short, kept_values, length-values}
use Rattle.vortex_select.proofs.TypeMessage.{type_body, type_message_is, type_body_is}

-- What is done so far of an input's messages of arrays: those at its prefix are read, and their selected rows are
-- written behind the message of the type.
pub record Progress (query : Query) (start rest out : List ℕ) (counts : RowCounts) (prefixes : List Prefix) : Type 0 where
  pub prefix : List ℕ
  pub tail : List ℕ
  pub arrays : List (List ℤ)
  pub parts : start ≡ prefix ++ rest
  pub read : AreArrays IsPrimitiveArray i64_column prefix arrays
  pub out_is : out ≡ type_message ++ tail
  pub written : AreArrays IsPrimitiveArray i64_column tail (selected query arrays)
  pub laid_out : AreLaidOut tail (selected query arrays)
  pub counts_are : counts ≡ counts_of arrays (selected query arrays)
  pub prefixes_are : ArePrefixes query i64_column arrays out 1 prefixes
  pub all : length prefixes ≡ length arrays
  pub few : counts.arrays ≤ length prefix
  pub read_bound : counts.read ≤ 2 ^ 32 * counts.arrays
  pub kept_bound : counts.kept ≤ counts.read

pub progress_start : (query : Query) (start : List ℕ) → Progress query start start type_message no_counts []
progress_start query start = record {
  prefix = [];
  tail = [];
  arrays = [];
  parts = refl;
  read = refl;
  out_is = refl;
  written = refl;
  laid_out = refl;
  counts_are = refl;
  prefixes_are = tt;
  all = refl;
  few = omega arith;
  read_bound = omega arith;
  kept_bound = omega arith;
}

-- the counts with one array more
abbrev pub counted : RowCounts → ℕ → ℕ → RowCounts
counted counts read kept = record { arrays = counts.arrays + 1; read = counts.read + read; kept = counts.kept + kept }

counts_more : (arrays kept : List (List ℤ)) (a k : List ℤ) → counted (counts_of arrays kept) (length a) (length k) ≡ counts_of (arrays ++ a ∷ []) (kept ++ k ∷ [])
counts_more arrays kept a k =
    let arrays_are : length arrays + 1 ≡ length (arrays ++ a ∷ []) = omega (arith, length-append arrays (a ∷ [])) in
    let read_is : sum_by length arrays + length a ≡ sum_by length (arrays ++ a ∷ []) = omega (arith, sum_by-append length arrays (a ∷ [])) in
    let kept_is : sum_by length kept + length k ≡ sum_by length (kept ++ k ∷ []) = omega (arith, sum_by-append length kept (k ∷ [])) in
    ap (λ n. let c : RowCounts = record { arrays = n; read = sum_by length arrays + length a; kept = sum_by length kept + length k } in c) arrays_are
    ∙ ap (λ n. let c : RowCounts = record { arrays = length (arrays ++ a ∷ []); read = n; kept = sum_by length kept + length k } in c) read_is
    ∙ ap (λ n. let c : RowCounts = record { arrays = length (arrays ++ a ∷ []); read = sum_by length (arrays ++ a ∷ []); kept = n } in c) kept_is

-- a message has a byte at least
own_long : (own body : List ℕ) (content : Content) → IsMessage own content body [] → 1 ≤ length own
own_long own body content m = omega (arith, ap length m.parts, length-append m.prefix m.header, length-append (m.prefix ++ m.header) body, length-append (m.prefix ++ m.header ++ body) [], m.prefix_len)

-- the output so far stands for the rows so far
out_stands : (query : Query) (out tail : List ℕ) (kept : List (List ℤ)) → out ≡ type_message ++ tail → AreArrays IsPrimitiveArray i64_column tail kept → IsColumnStream out i64_column kept
out_stands query out tail kept e h =
    let laid : IsMessage (type_message ++ tail) type_content type_body ([] ++ tail) = message_append type_message type_content type_body [] tail type_message_is in
    let whole : IsColumnStream (type_message ++ tail) i64_column kept = record { body = type_body; rest = tail; message = laid; is_type = type_body_is; are_arrays = h } in
    subst (λ (l : List ℕ). IsColumnStream l i64_column kept) (sym e) whole

length-selected : (query : Query) (arrays : List (List ℤ)) → length (selected query arrays) ≡ length arrays
length-selected query arrays = length-map arrays (filter (λ row. bears query.operator (int_cmp row query.constant)))

selected-append : (query : Query) (arrays : List (List ℤ)) (rows : List ℤ) → selected query (arrays ++ rows ∷ []) ≡ selected query arrays ++ filter (λ row. bears query.operator (int_cmp row query.constant)) rows ∷ []
selected-append query arrays rows = map-append (filter (λ row. bears query.operator (int_cmp row query.constant))) arrays (rows ∷ [])

-- a prefix stays one when another array is written
prefix_stays : (query : Query) (arrays : List (List ℤ)) (rows : List ℤ) (out more : List ℕ) (n : ℕ) (prefix : Prefix) → n ≤ length arrays → IsPrefix query i64_column arrays out n prefix → IsPrefix query i64_column (arrays ++ rows ∷ []) (out ++ more) n prefix
prefix_stays query arrays rows out more n prefix le h =
    let kept = selected query arrays in
    let few : n ≤ length kept = omega (arith, length-selected query arrays) in
    let same_kept : take n (selected query (arrays ++ rows ∷ [])) ≡ take n kept = ap (take n) (selected-append query arrays rows) ∙ take-append-le n kept (filter (λ row. bears query.operator (int_cmp row query.constant)) rows ∷ []) few in
    let same_arrays : take n (arrays ++ rows ∷ []) ≡ take n arrays = take-append-le n arrays (rows ∷ []) le in
    let same_out : take prefix.end (out ++ more) ≡ take prefix.end out = take-append-le prefix.end out more h.within in
    record {
      within = omega (arith, h.within, length-append out more);
      stands = subst (λ (l : List ℕ). IsColumnStream l i64_column (take n (selected query (arrays ++ rows ∷ [])))) (sym same_out) (subst (λ (l : List (List ℤ)). IsColumnStream (take prefix.end out) i64_column l) (sym same_kept) h.stands);
      counts_are = h.counts_are ∙ sym (ap (λ a. counts_of a (take n (selected query (arrays ++ rows ∷ [])))) same_arrays ∙ ap (counts_of (take n arrays)) same_kept);
    }

prefixes_more : (query : Query) (arrays : List (List ℤ)) (rows : List ℤ) (out more : List ℕ) (n : ℕ) (prefixes : List Prefix) (prefix : Prefix) → n + length prefixes ≡ length arrays + 1
    → ArePrefixes query i64_column arrays out n prefixes → IsPrefix query i64_column (arrays ++ rows ∷ []) (out ++ more) (length arrays + 1) prefix
    → ArePrefixes query i64_column (arrays ++ rows ∷ []) (out ++ more) n (prefixes ++ prefix ∷ [])
prefixes_more query arrays rows out more n [] prefix e h new =
    let same : length arrays + 1 ≡ n = omega arith in
    (subst (λ k. IsPrefix query i64_column (arrays ++ rows ∷ []) (out ++ more) k prefix) same new, tt)
prefixes_more query arrays rows out more n (f ∷ prefixes) prefix e h new =
    (prefix_stays query arrays rows out more n f (omega arith) h.0, prefixes_more query arrays rows out more (suc n) prefixes prefix (omega arith) h.1 new)

-- the prefix of all that is written so far
whole_prefix : (query : Query) (arrays : List (List ℤ)) (out : List ℕ) (counts : RowCounts) (n len : ℕ) → IsColumnStream out i64_column (selected query arrays) → counts ≡ counts_of arrays (selected query arrays) → n ≡ length arrays → len ≡ length out
    → IsPrefix query i64_column arrays out n (record { end = len; counts = counts })
whole_prefix query arrays out counts n len stands e same long =
    let all_out : take len out ≡ out = ap (λ j. take j out) long ∙ take-length out in
    let all_arrays : take n arrays ≡ arrays = ap (λ j. take j arrays) same ∙ take-length arrays in
    let n_kept : n ≡ length (selected query arrays) = omega (arith, length-selected query arrays) in
    let all_kept : take n (selected query arrays) ≡ selected query arrays = ap (λ j. take j (selected query arrays)) n_kept ∙ take-length (selected query arrays) in
    record {
      within = omega arith;
      stands = subst (λ (l : List ℕ). IsColumnStream l i64_column (take n (selected query arrays))) (sym all_out) (subst (λ (l : List (List ℤ)). IsColumnStream out i64_column l) (sym all_kept) stands);
      counts_are = e ∙ sym (ap (λ a. counts_of a (take n (selected query arrays))) all_arrays ∙ ap (counts_of arrays) all_kept);
    }

-- one array more is laid out
laid_more : (bytes region : List ℕ) (arrays : List (List ℤ)) (rows : List ℤ) → AreLaidOut bytes arrays → length region ≡ 8 * length rows → i64_values (length rows) region ≡ rows → AreLaidOut (bytes ++ array_message region) (arrays ++ rows ∷ [])
laid_more bytes region [] rows h len values =
    (region, [], ap (λ (l : List ℕ). l ++ array_message region) h ∙ sym (append-nil (array_message region)), len, values, refl)
laid_more bytes region (first ∷ arrays) rows h len values =
    (h.0, h.1 ++ array_message region, ap (λ (l : List ℕ). l ++ array_message region) h.2 ∙ append_assoc (array_message h.0) h.1 (array_message region), h.3, h.4, laid_more h.1 region arrays rows h.5 len values)

pub progress_more : (query : Query) (start rest out : List ℕ) (counts : RowCounts) (prefixes : List Prefix) (p : List ℕ × List ℕ) (len : ℕ) → Progress query start rest out counts prefixes → primitive_array_of rest ≡ Some p → length p.0 < 2 ^ 32
    → len ≡ length (out ++ array_message (kept_region query p.0))
    → Progress query start p.1 (out ++ array_message (kept_region query p.0)) (counted counts (length p.0 / 8) (length (kept_region query p.0) / 8))
    (prefixes ++ record { end = len; counts = counted counts (length p.0 / 8) (length (kept_region query p.0) / 8) } ∷ [])
progress_more query start rest out counts prefixes p len so_far found short len_is =
    let f = array_found rest p found in
    let rows = i64_values f.count p.0 in
    let k = kept_values query p.0 f.count f.len in
    let region = kept_region query p.0 in
    let region_short : length region < 2 ^ 32 = omega (arith, kept_short query p.0) in
    let stands = array_stands region k.kept region_short k.len in
    let own = message_bytes rest (array_content f.count f.names) f.body p.1 f.message in
    let kept_rows = filter (λ row. bears query.operator (int_cmp row query.constant)) rows in
    let in_one = one_array IsPrimitiveArray i64_column own.own f.count f.names f.body rows own.message f.array in
    let out_one : AreArrays IsPrimitiveArray i64_column (array_message region) (kept_rows ∷ []) = subst (λ (l : List ℤ). AreArrays IsPrimitiveArray i64_column (array_message region) (l ∷ [])) k.values (one_array IsPrimitiveArray i64_column (array_message region) k.kept primitive_names (region ++ body_end (length region)) (i64_values k.kept region) stands.message stands.array) in
    let selected_more : selected query so_far.arrays ++ kept_rows ∷ [] ≡ selected query (so_far.arrays ++ rows ∷ []) = sym (map-append (filter (λ row. bears query.operator (int_cmp row query.constant))) so_far.arrays (rows ∷ [])) in
    let read_n : length p.0 / 8 ≡ length rows = omega (arith, length-values f.count p.0, f.len) in
    let kept_n : length region / 8 ≡ length kept_rows = omega (arith, k.len, length-values k.kept region, ap length k.values) in
    let arrays = so_far.arrays ++ rows ∷ [] in
    let out_is : out ++ array_message region ≡ type_message ++ (so_far.tail ++ array_message region) = ap (λ (l : List ℕ). l ++ array_message region) so_far.out_is ∙ append_assoc type_message so_far.tail (array_message region) in
    let written : AreArrays IsPrimitiveArray i64_column (so_far.tail ++ array_message region) (selected query arrays) = subst (AreArrays IsPrimitiveArray i64_column (so_far.tail ++ array_message region)) selected_more (arrays_append IsPrimitiveArray i64_column so_far.tail (array_message region) (selected query so_far.arrays) (kept_rows ∷ []) so_far.written out_one) in
    let n_kept : length kept_rows ≡ k.kept = sym (ap length k.values) ∙ length-values k.kept region in
    let laid_len : length region ≡ 8 * length kept_rows = omega (arith, k.len, n_kept) in
    let laid_values : i64_values (length kept_rows) region ≡ kept_rows = ap (λ j. i64_values j region) n_kept ∙ k.values in
    let laid_out : AreLaidOut (so_far.tail ++ array_message region) (selected query arrays) = subst (AreLaidOut (so_far.tail ++ array_message region)) selected_more (laid_more so_far.tail region (selected query so_far.arrays) kept_rows so_far.laid_out laid_len laid_values) in
    let counts_are : counted counts (length p.0 / 8) (length region / 8) ≡ counts_of arrays (selected query arrays) = ap (λ c. counted c (length p.0 / 8) (length region / 8)) so_far.counts_are ∙ ap (λ n. counted (counts_of so_far.arrays (selected query so_far.arrays)) n (length region / 8)) read_n ∙ ap (counted (counts_of so_far.arrays (selected query so_far.arrays)) (length rows)) kept_n ∙ counts_more so_far.arrays (selected query so_far.arrays) rows kept_rows ∙ ap (counts_of arrays) selected_more in
    let n : length so_far.arrays + 1 ≡ length arrays = omega (arith, length-append so_far.arrays (rows ∷ [])) in
    let prefix = whole_prefix query arrays (out ++ array_message region) (counted counts (length p.0 / 8) (length region / 8)) (length so_far.arrays + 1) len (out_stands query (out ++ array_message region) (so_far.tail ++ array_message region) (selected query arrays) out_is written) counts_are n len_is in
    record {
      prefix = so_far.prefix ++ own.own;
      tail = so_far.tail ++ array_message region;
      arrays = so_far.arrays ++ rows ∷ [];
      parts = so_far.parts ∙ ap (λ (l : List ℕ). so_far.prefix ++ l) own.parts ∙ sym (append_assoc so_far.prefix own.own p.1);
      read = arrays_append IsPrimitiveArray i64_column so_far.prefix own.own so_far.arrays (rows ∷ []) so_far.read in_one;
      out_is = out_is;
      written = written;
      laid_out = laid_out;
      counts_are = counts_are;
      prefixes_are = prefixes_more query so_far.arrays rows out (array_message region) 1 prefixes (record { end = len; counts = counted counts (length p.0 / 8) (length region / 8) }) (omega (arith, so_far.all)) so_far.prefixes_are prefix;
      all = omega (arith, so_far.all, length-append prefixes (let new : Prefix = record { end = len; counts = counted counts (length p.0 / 8) (length region / 8) } in new ∷ []), n);
      few = omega (arith, so_far.few, length-append so_far.prefix own.own, own_long own.own f.body (array_content f.count f.names) own.message);
      read_bound = omega (arith, so_far.read_bound);
      kept_bound = omega (arith, so_far.kept_bound, kept_short query p.0);
    }

-- what follows a message is shorter than its bytes
pub rest_shorter : (rest : List ℕ) (p : List ℕ × List ℕ) → primitive_array_of rest ≡ Some p → length p.1 < length rest
rest_shorter rest p found =
    let f = array_found rest p found in
    let own = message_bytes rest (array_content f.count f.names) f.body p.1 f.message in
    omega (arith, own_long own.own f.body (array_content f.count f.names) own.message, ap length own.parts, length-append own.own p.1)

-- what follows the message of the type is no longer than the input
pub after_type_shorter : (input rest : List ℕ) → after_type_of input ≡ Some rest → length rest ≤ length input
after_type_shorter input rest e =
    let a = after_type_found input rest e in
    let own = message_bytes input type_content a.body rest a.message in
    omega (arith, ap length own.parts, length-append own.own rest)

-- once nothing is left, the whole is done
pub progress_end : (query : Query) (input start rest out : List ℕ) (counts : RowCounts) (prefixes : List Prefix) → after_type_of input ≡ Some start → rest ≡ [] → Progress query start rest out counts prefixes → IsMade query input out counts prefixes
progress_end query input start rest out counts prefixes e none so_far =
    let a = after_type_found input start e in
    let whole : start ≡ so_far.prefix = so_far.parts ∙ ap (λ (l : List ℕ). so_far.prefix ++ l) none ∙ append-nil so_far.prefix in
    record {
      column = i64_column;
      arrays = so_far.arrays;
      read = record { body = a.body; rest = start; message = a.message; is_type = a.column; are_arrays = subst (λ (l : List ℕ). AreArrays IsPrimitiveArray i64_column l so_far.arrays) (sym whole) so_far.read };
      written = out_stands query out so_far.tail (selected query so_far.arrays) so_far.out_is so_far.written;
      laid_out = (so_far.tail, so_far.out_is, so_far.laid_out);
      counts_are = so_far.counts_are;
      prefixes_are = so_far.prefixes_are;
      all = so_far.all;
    }

-- ---- what was written

pub made_selects : (query : Query) (input output : List ℕ) (counts : RowCounts) (prefixes : List Prefix) → IsMade query input output counts prefixes → Selects query input output counts
made_selects query input output counts prefixes m = record { column = m.column; arrays = m.arrays; read = m.read; written = m.written; laid_out = m.laid_out; counts_are = m.counts_are }

-- the prefix at a place
prefix_at : (query : Query) (column : ColumnType) (arrays : List (List ℤ)) (output : List ℕ) (n i : ℕ) (prefixes : List Prefix) (prefix : Prefix) → ArePrefixes query column arrays output n prefixes → slice_get prefixes i ≡ Some prefix → IsPrefix query column arrays output (n + i) prefix
prefix_at query column arrays output n i [] prefix h e = absurd cc
prefix_at query column arrays output n zero (f ∷ prefixes) prefix h e =
    let same : f ≡ prefix = cc in
    let here : n ≡ n + 0 = omega arith in
    subst (λ k. IsPrefix query column arrays output k prefix) here (subst (IsPrefix query column arrays output n) same h.0)
prefix_at query column arrays output n (suc i) (f ∷ prefixes) prefix h e =
    let next : suc n + i ≡ n + suc i = omega arith in
    subst (λ k. IsPrefix query column arrays output k prefix) next (prefix_at query column arrays output (suc n) i prefixes prefix h.1 e)

last_reached : (query : Query) (column : ColumnType) (arrays : List (List ℤ)) (output part : List ℕ) (prefixes : List Prefix) (whole bytes : ℕ) (counts : RowCounts) → bytes ≡ length part → ArePrefixes query column arrays output 1 prefixes → IsLastWithin prefixes bytes whole counts
    → ((whole ≡ 0) ⊎ ((len : ℕ) × (len ≤ length part) × BeginsWith output column (take whole (selected query arrays)) len)) × (counts ≡ counts_of (take whole arrays) (take whole (selected query arrays)))
last_reached query column arrays output part prefixes zero bytes counts long h last = (inl refl, last)
last_reached query column arrays output part prefixes (suc i) bytes counts long h last =
    let f = prefix_at query column arrays output 1 i prefixes last.0 h last.1 in
    let n : 1 + i ≡ suc i = omega arith in
    let prefix = subst (λ k. IsPrefix query column arrays output k last.0) n f in
    (inr (last.0.end, omega (arith, last.2), record { within = prefix.within; stands = prefix.stands }), last.3 ∙ prefix.counts_are)

pub part_of : (query : Query) (input output part more : List ℕ) (bytes : ℕ) (counts kept : RowCounts) (prefixes : List Prefix) → IsMade query input output counts prefixes → bytes ≡ length part → output ≡ part ++ more → Reaches prefixes bytes kept → SelectsPart query input part kept
part_of query input output part more bytes counts kept prefixes m long e r =
    let last = last_reached query m.column m.arrays output part prefixes r.whole bytes kept long m.prefixes_are r.last in
    record {
      column = m.column;
      arrays = m.arrays;
      output = output;
      more = more;
      whole = r.whole;
      read = m.read;
      written = m.written;
      laid_out = m.laid_out;
      parts = e;
      reached = last.0;
      no_more = elim r.next [
        | inl all ↦ inl (all ∙ m.all)
        | inr next ↦
            (let f = prefix_at query m.column m.arrays output 1 r.whole prefixes next.0 m.prefixes_are next.1 in
            let n : 1 + r.whole ≡ suc r.whole = omega arith in
            let prefix = subst (λ k. IsPrefix query m.column m.arrays output k next.0) n f in
            inr (next.0.end, omega (arith, next.2), record { within = prefix.within; stands = prefix.stands }))
      ];
      counts_are = last.1;
    }

-- all was written, and the flush failed
pub all_of : (query : Query) (input output : List ℕ) (counts : RowCounts) (prefixes : List Prefix) → IsMade query input output counts prefixes → SelectsPart query input output counts
all_of query input output counts prefixes m =
    let n = length m.arrays in
    let kept = selected query m.arrays in
    let n_kept : n ≡ length kept = sym (length-selected query m.arrays) in
    let all_arrays : take n m.arrays ≡ m.arrays = take-length m.arrays in
    let all_kept : take n kept ≡ kept = ap (λ j. take j kept) n_kept ∙ take-length kept in
    record {
      column = m.column;
      arrays = m.arrays;
      output = output;
      more = [];
      whole = n;
      read = m.read;
      written = m.written;
      laid_out = m.laid_out;
      parts = sym (append-nil output);
      reached = inr (
        length output,
        omega arith,
        record {
          within = omega arith;
          stands = subst (λ (l : List ℕ). IsColumnStream l m.column (take n kept)) (sym (take-length output)) (subst (λ (l : List (List ℤ)). IsColumnStream output m.column l) (sym all_kept) m.written);
        },
      );
      no_more = inl refl;
      counts_are = m.counts_are ∙ sym (ap (λ a. counts_of a (take n kept)) all_arrays ∙ ap (counts_of m.arrays) all_kept);
    }

-- what holds of the bytes that were read holds of those that the source had
pub of_source : (P : List ℕ → Type 0) (known : Option (List ℕ)) (input : List ℕ) → IfSome known (λ bytes. input ≡ bytes) → P input → IfSome known P
of_source P None input e h = tt
of_source P (Some bytes) input e h = subst P e h

-- what was appended stays where a flush keeps it
pub Appends-kept : (a b c : Option (List ℕ)) (bytes : List ℕ) → Appends a b bytes → Keeps b c → Appends a c bytes
Appends-kept None b c bytes p q = tt
Appends-kept (Some x) None c bytes p q = absurd p
Appends-kept (Some x) (Some y) None bytes p q = absurd q
Appends-kept (Some x) (Some y) (Some z) bytes p q = q ∙ p
