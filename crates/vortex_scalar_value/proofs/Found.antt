-- What a reader finds is the value of the message.
use Rattle.std.proofs.Common.{◌≡◌, ℕ, zero, suc, ◌≤◌, List, [], ◌∷◌, Some, None, pos, refl, ap, subst, arith}
use Rattle.std.specs.Str.{is_utf8}
use Rattle.std.proofs.lemmas.Str.{IsUtf8-from_is_utf8}
use Rattle.vortex_prelude.specs.Chain.{◌>>=◌}
use Rattle.vortex_wire.specs.Field.{Content, Varint, Eight, Bytes, Four, Field}
use Rattle.vortex_wire.specs.Message.{only_field, truth}
use Rattle.vortex_wire.specs.Inside.{bytes_fields}
use Rattle.vortex_terms.specs.Term.{unsigned_64, signed_64}
use Rattle.vortex_scalar_value.specs.Value.{ValueTerm, null_value, truth_value, whole_value, bytes_value, text_value, list_value, ValueTerms, no_values, value, value_levels, values_levels}
use Rattle.vortex_scalar_value.specs.ValueMessage.{from_zigzag, IsMember, IsValueMessage, AreValueMessages}
use Rattle.vortex_scalar_value.specs.Reading.{Reader, varint_value, values_in, list_in, text_in, inside_value, member_value, member_in, value_of_message, value_in}
use Rattle.vortex_scalar_value.specs.declared.schema.TheConstants.{FIRST_MEMBER, LAST_MEMBER, NULL, BOOL, INT64, UINT64, STRING, BYTES, LIST, LIST_VALUES}
use Rattle.vortex_scalar_value.proofs.Options.{bound, flat, some_is, not_some, chosen, guarded}

-- the message is of this value, which has so many levels at most
pub record IsFound (n : ℕ) (b : List ℕ) (v : ValueTerm) : Type 0 where
  pub stands : IsValueMessage b v
  pub few_levels : value_levels v ≤ n

-- the reader finds only such
abbrev pub Finds : ℕ → Reader → Type 0
Finds n read = (b : List ℕ) (v : ValueTerm) → read b ≡ Some v → IsFound n b v

-- these are messages of the values
record AreFound (n : ℕ) (parts : List (List ℕ)) (vs : ValueTerms) : Type 0 where
  pub stand : AreValueMessages parts vs
  pub few_levels : values_levels vs ≤ n

one_more : (n : ℕ) (part : List ℕ) (parts : List (List ℕ)) (v : ValueTerm) (vs : ValueTerms) → IsFound n part v → AreFound n parts vs → AreFound n (part ∷ parts) (value v vs)
one_more n part parts v vs first others = record { stand = (first.stands, others.stand); few_levels = omega (arith, first.few_levels, others.few_levels) }

values_found : (n : ℕ) (read : Reader) → Finds n read → (parts : List (List ℕ)) (vs : ValueTerms) → values_in read parts ≡ Some vs → AreFound n parts vs
unfolding values_in
values_found n read finds [] vs e = subst (AreFound n []) (some_is no_values vs e) (record { stand = tt; few_levels = omega arith })
values_found n read finds (part ∷ parts) vs e =
    let first = bound (read part) (λ first. values_in read parts >>= λ others. Some (value first others)) vs e in
    let others = bound (values_in read parts) (λ others. Some (value first.0 others)) vs first.2 in
    subst (AreFound n (part ∷ parts)) (some_is (value first.0 others.0) vs others.2)
    (one_more n part parts first.0 others.0 (finds part first.0 first.1) (values_found n read finds parts others.0 others.1))

-- ---- members

member_is : (b : List ℕ) (number wanted : ℕ) (content : Content) → number ≡ wanted → IsMember b number content → IsMember b wanted content
member_is b number wanted content e h = subst (λ k. IsMember b k content) e h

found_as : (n : ℕ) (b : List ℕ) (v w : ValueTerm) → Some v ≡ Some w → IsValueMessage b v → value_levels v ≤ n → IsFound n b w
found_as n b v w e stands few = subst (IsFound n b) (some_is v w e) (record { stands = stands; few_levels = few })

varint_found : (n : ℕ) (b : List ℕ) (number k : ℕ) (v : ValueTerm) → IsMember b number (Varint k) → varint_value number k ≡ Some v → IsFound (suc n) b v
varint_found n b number k v h e =
    let at : (wanted : ℕ) → number ≡ wanted → IsMember b wanted (Varint k) = λ wanted same. member_is b number wanted (Varint k) same h in
    chosen number NULL (Some null_value) _ v (λ s f. found_as (suc n) b null_value v f (k, at NULL s) (omega arith)) (λ e.
    chosen number BOOL (Some (truth_value (truth k))) _ v (λ s f. found_as (suc n) b (truth_value (truth k)) v f (k, at BOOL s, refl) (omega arith)) (λ e.
    chosen number INT64 (Some (whole_value signed_64 (from_zigzag k))) _ v (λ s f. found_as (suc n) b (whole_value signed_64 (from_zigzag k)) v f (k, at INT64 s, refl) (omega arith)) (λ e.
    chosen number UINT64 (Some (whole_value unsigned_64 (pos k))) None v (λ s f. found_as (suc n) b (whole_value unsigned_64 (pos k)) v f (k, at UINT64 s, refl) (omega arith)) (λ e. not_some v e) e) e) e) e

list_found : (n : ℕ) (read : Reader) → Finds n read → (b body : List ℕ) (v : ValueTerm) → IsMember b LIST (Bytes body) → list_in read body ≡ Some v → IsFound (suc n) b v
unfolding list_in
list_found n read finds b body v h e =
    let parts = bound (bytes_fields LIST_VALUES body) (λ parts. values_in read parts >>= λ values. Some (list_value values)) v e in
    let values = bound (values_in read parts.0) (λ values. Some (list_value values)) v parts.2 in
    let found = values_found n read finds parts.0 values.0 values.1 in
    found_as (suc n) b (list_value values.0) v values.2 (body, parts.0, h, parts.1, found.stand) (omega (arith, found.few_levels))

inside_found : (n : ℕ) (read : Reader) → Finds n read → (b : List ℕ) (number : ℕ) (bs : List ℕ) (v : ValueTerm) → IsMember b number (Bytes bs) → inside_value read number bs ≡ Some v → IsFound (suc n) b v
inside_found n read finds b number bs v h e =
    let at : (wanted : ℕ) → number ≡ wanted → IsMember b wanted (Bytes bs) = λ wanted same. member_is b number wanted (Bytes bs) same h in
    chosen number STRING (text_in bs) _ v (λ s f. let g = guarded (is_utf8 bs) (text_value bs) v f in
    found_as (suc n) b (text_value bs) v (ap Some g.1) (at STRING s, IsUtf8-from_is_utf8 bs g.0) (omega arith)) (λ e.
    chosen number BYTES (Some (bytes_value bs)) _ v (λ s f. found_as (suc n) b (bytes_value bs) v f (at BYTES s) (omega arith)) (λ e.
    chosen number LIST (list_in read bs) None v (λ s f. list_found n read finds b bs v (at LIST s) f) (λ e. not_some v e) e) e) e

member_found : (n : ℕ) (read : Reader) → Finds n read → (b : List ℕ) (number : ℕ) (content : Content) (v : ValueTerm) → IsMember b number content → member_value read number content ≡ Some v → IsFound (suc n) b v
member_found n read finds b number (Varint k) v h e = varint_found n b number k v h e
member_found n read finds b number (Eight k) v h e = not_some v e
member_found n read finds b number (Bytes bs) v h e = inside_found n read finds b number bs v h e
member_found n read finds b number (Four k) v h e = not_some v e

pub member_in-is : (b : List ℕ) (f : Field) → member_in b ≡ Some f → only_field FIRST_MEMBER LAST_MEMBER b ≡ Some (Some f)
unfolding member_in
member_in-is b f e = flat (only_field FIRST_MEMBER LAST_MEMBER b) f e

message_found : (n : ℕ) (read : Reader) → Finds n read → Finds (suc n) (value_of_message read)
unfolding value_of_message
message_found n read finds b v e =
    let f = bound (member_in b) (λ member. member_value read member.number member.content) v e in
    member_found n read finds b f.0.number f.0.content v (member_in-is b f.0 f.1) f.2

pub value_found : (n : ℕ) → Finds n (value_in n)
unfolding value_in
value_found zero b v e = not_some v e
value_found (suc n) b v e = message_found n (value_in n) (value_found n) b v e
