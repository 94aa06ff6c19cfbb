-- What is found in bytes is bytes.
use Rattle.std.proofs.Common.{◌≡◌, ℕ, zero, suc, ◌+◌, ◌-◌, ◌*◌, ◌/◌, ◌%◌, ◌^◌, ◌<◌, Bool, ltb, eqb, List, [], ◌∷◌, length, take, drop, Option, Some, None, ap, subst, ◌∙◌, inl, inr}
use Rattle.std.specs.Prelude.{filter, IfSome}
use Rattle.std.specs.List.{All, last_or}
use Rattle.std.specs.Int.{w32, w64, from_le_bytes}
use Rattle.std.proofs.lemmas.Bool.{lt-ltb, le-ltb, cases_lt, cases_Bool}
use Rattle.std.proofs.lemmas.Option.{some_pair_parts, none-some}
use Rattle.std.proofs.lemmas.List.Elements.{All-take, All-drop}
use Rattle.vortex_prelude.specs.Chain.{◌>>=◌}
use Rattle.vortex_wire.specs.Varint.{groups_at, varint_at}
use Rattle.vortex_wire.specs.Field.{Content, Varint, Eight, Bytes, Four, Field, bytes_at, content_at, field_number, field_at, fields_in, fields_of}
use Rattle.vortex_wire.specs.Message.{is_member, lone, only_field}
use Rattle.vortex_wire.specs.Inside.{bytes_in, each_bytes, bytes_fields, optional_bytes, the_one, message}
use Rattle.vortex_wire.proofs.Options.{bound, guarded, is_same}

abbrev pub AreBytes : List ℕ → Type 0
AreBytes bs = All (λ b. b < 256) bs

-- what a field holds is bytes
abbrev pub HoldsBytes : Content → Type 0
HoldsBytes c = (xs : List ℕ) → bytes_in c ≡ Some xs → AreBytes xs

abbrev pub AllHoldBytes : List Field → Type 0
AllHoldBytes [] = Unit {0}
AllHoldBytes (f ∷ fields) = HoldsBytes f.content × AllHoldBytes fields

abbrev pub AllBytes : List (List ℕ) → Type 0
AllBytes [] = Unit {0}
AllBytes (x ∷ xs) = AreBytes x × AllBytes xs

tail_bytes : (b : ℕ) (bytes : List ℕ) → AreBytes (b ∷ bytes) → AreBytes bytes
tail_bytes b bytes h = All-drop (λ b. b < 256) 1 (b ∷ bytes) h

groups_bytes : (k : ℕ) (bytes : List ℕ) (x : ℕ × List ℕ) → groups_at k bytes ≡ Some x → AreBytes bytes → AreBytes x.1
unfolding groups_at
groups_bytes zero bytes x e h = absurd (none-some x e)
groups_bytes (suc k) [] x e h = absurd (none-some x e)
groups_bytes (suc k) (b ∷ bytes) x e h = elim (cases_lt b 128) [
  | inl small ↦
      let parts = some_pair_parts b x.0 bytes x.1 (rw (lt-ltb b 128 small) at e) in
      subst AreBytes parts.1 (tail_bytes b bytes h)
  | inr large ↦
      let later : (groups_at k bytes >>= λ high. Some (b - 128 + 128 * high.0, high.1)) ≡ Some x = rw (le-ltb b 128 large) at e in
      let y = bound (groups_at k bytes) (λ high. Some (b - 128 + 128 * high.0, high.1)) x later in
      let parts = some_pair_parts (b - 128 + 128 * y.0.0) x.0 y.0.1 x.1 y.2 in
      subst AreBytes parts.1 (groups_bytes k bytes y.0 y.1 (tail_bytes b bytes h))
]

varint_bytes : (bytes : List ℕ) (x : ℕ × List ℕ) → varint_at bytes ≡ Some x → AreBytes bytes → AreBytes x.1
unfolding varint_at
varint_bytes bytes x e h =
    let y = bound (groups_at 10 bytes) _ x e in
    let same = guarded (ltb y.0.0 (2 ^ 64)) y.0 x y.2 in
    groups_bytes 10 bytes x (y.1 ∙ ap Some same.1) h

parted_bytes : (n : ℕ) (bytes : List ℕ) (x : List ℕ × List ℕ) → bytes_at n bytes ≡ Some x → AreBytes bytes → AreBytes x.0 × AreBytes x.1
unfolding bytes_at
parted_bytes n bytes x e h = elim (cases_lt (length bytes) n) [
  | inl short ↦ absurd (none-some x (rw (lt-ltb (length bytes) n short) at e))
  | inr long ↦
      let parts = some_pair_parts (take n bytes) x.0 (drop n bytes) x.1 (rw (le-ltb (length bytes) n long) at e) in
      (subst AreBytes parts.0 (All-take (λ b. b < 256) n bytes h), subst AreBytes parts.1 (All-drop (λ b. b < 256) n bytes h))
]

holds_varint : (n : ℕ) → HoldsBytes (Varint n)
holds_varint n xs e = absurd (none-some xs e)

holds_eight : (n : ℕ) → HoldsBytes (Eight n)
holds_eight n xs e = absurd (none-some xs e)

holds_four : (n : ℕ) → HoldsBytes (Four n)
holds_four n xs e = absurd (none-some xs e)

holds_bytes : (x : List ℕ) → AreBytes x → HoldsBytes (Bytes x)
holds_bytes x h xs e = subst AreBytes (is_same x xs e) h

content_bytes : (wire_type : ℕ) (bytes : List ℕ) (x : Content × List ℕ) → content_at wire_type bytes ≡ Some x → AreBytes bytes → HoldsBytes x.0 × AreBytes x.1
unfolding content_at
content_bytes zero bytes x e h =
    let y = bound (varint_at bytes) _ x e in
    let parts = some_pair_parts (Varint y.0.0) x.0 y.0.1 x.1 y.2 in
    (subst HoldsBytes parts.0 (holds_varint y.0.0), subst AreBytes parts.1 (varint_bytes bytes y.0 y.1 h))
content_bytes (suc zero) bytes x e h =
    let y = bound (bytes_at 8 bytes) _ x e in
    let parts = some_pair_parts (Eight (from_le_bytes w64 y.0.0)) x.0 y.0.1 x.1 y.2 in
    (subst HoldsBytes parts.0 (holds_eight (from_le_bytes w64 y.0.0)), subst AreBytes parts.1 (parted_bytes 8 bytes y.0 y.1 h).1)
content_bytes (suc (suc zero)) bytes x e h =
    let y = bound (varint_at bytes) _ x e in
    let z = bound (bytes_at y.0.0 y.0.1) _ x y.2 in
    let parts = some_pair_parts (Bytes z.0.0) x.0 z.0.1 x.1 z.2 in
    let text = parted_bytes y.0.0 y.0.1 z.0 z.1 (varint_bytes bytes y.0 y.1 h) in
    (subst HoldsBytes parts.0 (holds_bytes z.0.0 text.0), subst AreBytes parts.1 text.1)
content_bytes (suc (suc (suc zero))) bytes x e h = absurd (none-some x e)
content_bytes (suc (suc (suc (suc zero)))) bytes x e h = absurd (none-some x e)
content_bytes (suc (suc (suc (suc (suc zero))))) bytes x e h =
    let y = bound (bytes_at 4 bytes) _ x e in
    let parts = some_pair_parts (Four (from_le_bytes w32 y.0.0)) x.0 y.0.1 x.1 y.2 in
    (subst HoldsBytes parts.0 (holds_four (from_le_bytes w32 y.0.0)), subst AreBytes parts.1 (parted_bytes 4 bytes y.0 y.1 h).1)
content_bytes (suc (suc (suc (suc (suc (suc n)))))) bytes x e h = absurd (none-some x e)

field_bytes : (bytes : List ℕ) (x : Field × List ℕ) → field_at bytes ≡ Some x → AreBytes bytes → HoldsBytes x.0.content × AreBytes x.1
unfolding field_at
field_bytes bytes x e h =
    let key = bound (varint_at bytes) _ x e in
    let number = bound (field_number (key.0.0 / 8)) _ x key.2 in
    let content = bound (content_at (key.0.0 % 8) key.0.1) _ x number.2 in
    let held = content_bytes (key.0.0 % 8) key.0.1 content.0 content.1 (varint_bytes bytes key.0 key.1 h) in
    let parts = some_pair_parts (record { number = number.0; content = content.0.0 }) x.0 content.0.1 x.1 content.2 in
    (subst (λ (f : Field). HoldsBytes f.content) parts.0 held.0, subst AreBytes parts.1 held.1)

fields_bytes : (most : ℕ) (bytes : List ℕ) (fields : List Field) → fields_in most bytes ≡ Some fields → AreBytes bytes → AllHoldBytes fields
unfolding fields_in
fields_bytes most [] fields e h = subst AllHoldBytes (is_same [] fields e) tt
fields_bytes zero (b ∷ bytes) fields e h = absurd (none-some fields e)
fields_bytes (suc most) (b ∷ bytes) fields e h =
    let first = bound (field_at (b ∷ bytes)) _ fields e in
    let others = bound (fields_in most first.0.1) _ fields first.2 in
    let held = field_bytes (b ∷ bytes) first.0 first.1 h in
    subst AllHoldBytes (is_same (first.0.0 ∷ others.0) fields others.2) (held.0, fields_bytes most first.0.1 others.0 others.1 held.1)

filtered : (p : Field → Bool) (fields : List Field) → AllHoldBytes fields → AllHoldBytes (filter p fields)
filtered p [] h = tt
filtered p (f ∷ fields) h = elim (cases_Bool (p f)) [
  | inl passes ↦ rw passes (h.0, filtered p fields h.1)
  | inr fails ↦ rw fails (filtered p fields h.1)
]

each_held : (fields : List Field) (xs : List (List ℕ)) → each_bytes fields ≡ Some xs → AllHoldBytes fields → AllBytes xs
unfolding each_bytes
each_held [] xs e h = subst AllBytes (is_same [] xs e) tt
each_held (f ∷ fields) xs e h =
    let first = bound (bytes_in f.content) _ xs e in
    let others = bound (each_bytes fields) _ xs first.2 in
    subst AllBytes (is_same (first.0 ∷ others.0) xs others.2) (h.0 first.0 first.1, each_held fields others.0 others.1 h.1)

-- the bytes in fields of bytes
pub fields_are_bytes : (number : ℕ) (b : List ℕ) (xs : List (List ℕ)) → bytes_fields number b ≡ Some xs → AreBytes b → AllBytes xs
unfolding bytes_fields fields_of
fields_are_bytes number b xs e h =
    let fields = bound (fields_in (length b) b) _ xs e in
    each_held (filter (λ f. eqb f.number number) fields.0) xs fields.2 (filtered (λ f. eqb f.number number) fields.0 (fields_bytes (length b) b fields.0 fields.1 h))

the_one_bytes : (xs : List (List ℕ)) (x : List ℕ) → the_one xs ≡ Some x → AllBytes xs → AreBytes x
the_one_bytes [] x e h = absurd (none-some x e)
the_one_bytes (y ∷ []) x e h = subst AreBytes (is_same y x e) h.0
the_one_bytes (y ∷ z ∷ xs) x e h = absurd (none-some x e)

pub message_is_bytes : (number : ℕ) (b x : List ℕ) → message number b ≡ Some x → AreBytes b → AreBytes x
unfolding message
message_is_bytes number b x e h =
    let xs = bound (bytes_fields number b) the_one x e in
    the_one_bytes xs.0 x xs.2 (fields_are_bytes number b xs.0 xs.1 h)

last_bytes : (before : Option (List ℕ)) (xs : List (List ℕ)) → IfSome before AreBytes → AllBytes xs → IfSome (last_or before xs) AreBytes
last_bytes before [] h k = h
last_bytes before (x ∷ xs) h k = last_bytes (Some x) xs k.0 k.1

pub optional_is_bytes : (number : ℕ) (b : List ℕ) (m : Option (List ℕ)) → optional_bytes number b ≡ Some m → AreBytes b → IfSome m AreBytes
unfolding optional_bytes
optional_is_bytes number b m e h =
    let xs = bound (bytes_fields number b) (λ found. Some (last_or None found)) m e in
    subst (λ o. IfSome o AreBytes) (is_same (last_or None xs.0) m xs.2) (last_bytes None xs.0 tt (fields_are_bytes number b xs.0 xs.1 h))

lone_bytes : (fields : List Field) (f : Field) → lone fields ≡ Some (Some f) → AllHoldBytes fields → HoldsBytes f.content
lone_bytes [] f e h = absurd (none-some f (is_same None (Some f) e))
lone_bytes (g ∷ []) f e h = subst (λ (f : Field). HoldsBytes f.content) (is_same g f (is_same (Some g) (Some f) e)) h.0
lone_bytes (g ∷ k ∷ fields) f e h = absurd (none-some (Some f) e)

pub only_field_bytes : (first last : ℕ) (b : List ℕ) (f : Field) → only_field first last b ≡ Some (Some f) → AreBytes b → HoldsBytes f.content
unfolding only_field fields_of
only_field_bytes first last b f e h =
    let fields = bound (fields_in (length b) b) _ (Some f) e in
    lone_bytes (filter (is_member first last) fields.0) f fields.2 (filtered (is_member first last) fields.0 (fields_bytes (length b) b fields.0 fields.1 h))
