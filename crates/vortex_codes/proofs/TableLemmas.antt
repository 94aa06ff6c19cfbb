-- The index of a table as codes are added.
use Rattle.std.proofs.Common.{◌≡◌, ◌≢◌, ℕ, zero, suc, ◌+◌, ◌-◌, ◌^◌, ◌<◌, inl, inr, Bool, true}
use Rattle.std.proofs.Common.{true≢false, Option, Some, None, Vec, Global, BTreeMap, List, [], ◌∷◌}
use Rattle.std.proofs.Common.{◌++◌, replicate, length, get_or, refl, ap, sym, subst, ◌∙◌, arith}
use Rattle.std.proofs.lemmas.Bool.{cases_eq}
use Rattle.std.proofs.lemmas.List.{length-replicate}
use Rattle.std.proofs.lemmas.List.Folds.{sum_by-replicate}
use Rattle.vortex_codes.specs.Keys.{Key, key_at, keys_of, key_bytes, null_after, same_key}
use Rattle.vortex_codes.specs.Slots.{Taken, Walked, IsPlaced, IsFilled, free_one, free_count}
use Rattle.vortex_codes.specs.Table.{start_of, IsIndex, IsParted, IsApart, IsTable, IsFound}
use Rattle.vortex_codes.proofs.KeyLemmas.{same_key-Decides, key_before, key_end, count'}
use Rattle.vortex_codes.proofs.KeyLemmas.{parted_more, apart_more, keys_more}
use Rattle.vortex_codes.proofs.PlaceLemmas.{none_key}
use Rattle.vortex_codes.specs.Places.{place_of}
use Rattle.std.specs.Bool.{Decides}
use Rattle.vortex_codes.proofs.SlotLemmas.{missed}

taken_more : (old new : List ℕ) (filler a b : ℕ) → IsFilled old new filler → Taken old a b → Taken new a b
taken_more old new filler a b f t q l u z = by (get_or old q 0) refl
  where
    by : (s : ℕ) → get_or old q 0 ≡ s → ⊥
    by zero e = t q l u e
    by (suc c) e = let kept = f.keeps q c e in omega (arith, kept, z)

placed_more : (old new : List ℕ) (filler start code : ℕ) → IsFilled old new filler → IsPlaced old start code → IsPlaced new start code
placed_more old new filler start code f p = record {
  at = p.at;
  within = rw f.same_length p.within;
  holds = f.keeps p.at code p.holds;
  reached = elim p.reached [ inl r ↦ inl (r.0, taken_more old new filler start p.at f r.1) | inr r ↦ inr (rw f.same_length (taken_more old new filler start (length old) f r.0), taken_more old new filler 0 p.at f r.1) ];
}

pub index_more : {K : Type 0} (hash : K → ℕ) (key : ℕ → K) (n : ℕ) (old new : List ℕ)
    → IsIndex hash key n old → IsFilled old new n → free_count new + 1 ≡ free_count old
    → IsPlaced new (start_of (length new) (hash (key n))) n → IsIndex hash key (n + 1) new
index_more hash key n old new i f less p = record {
  room = omega (arith, i.room, f.same_length, less);
  codes = λ q c e. elim (f.only q c e) [ inl h ↦ (let below = i.codes q c h in omega (arith, below)) | inr h ↦ omega (arith, h) ];
  placed = λ c l. elim (cases_eq c n) [
    | inl h ↦ subst (λ k. IsPlaced new (start_of (length new) (hash (key k))) k) (sym h) p
    | inr h ↦ rw f.same_length (placed_more old new n (start_of (length old) (hash (key c))) c f (i.placed c (omega arith)))
  ];
}

none_there : (n q c : ℕ) → get_or (replicate n 0) q 0 ≡ suc c → ⊥
none_there zero q c e = omega (arith, e)
none_there (suc n) zero c e = omega (arith, e)
none_there (suc n) (suc q) c e = none_there n q c e

pub index_none : {K : Type 0} (hash : K → ℕ) (key : ℕ → K) (n : ℕ) (slots : List ℕ) → slots ≡ replicate n 0 → IsIndex hash key 0 slots
index_none hash key n slots e = subst (λ s. IsIndex hash key 0 s) (sym e) (record {
  room = omega (arith, sum_by-replicate free_one n 0, length-replicate {A = ℕ} n 0);
  codes = λ q c h. absurd (none_there n q c h);
  placed = λ c l. absurd (omega arith);
})

-- where the code says that it is put
pub placed_at : {K : Type 0} (hash : K → ℕ) (slots : List ℕ) (start code len h : ℕ) (key found : K) → IsPlaced slots start code → start ≡ start_of len h → length slots ≡ len → h ≡ hash found → found ≡ key → IsPlaced slots (start_of (length slots) (hash key)) code
placed_at hash slots start code len h key found p e l f k = subst (λ s. IsPlaced slots s code) (e ∙ ap (start_of len) (f ∙ ap hash k) ∙ ap (λ n. start_of n (hash key)) (sym l)) p

-- ---- what a walk finds

module _ {K : Type 0} (same : K → K → Bool) (decides : (a b : K) → Decides (same a b) (a ≡ b)) (hash : K → ℕ) (at_code : ℕ → K) (count : ℕ) (slots : List ℕ) (index : IsIndex hash at_code count slots) (key : K) where
  abbrev finds : ℕ → Bool
  finds c = same (at_code c) key

  pub absent_key : (h start at : ℕ) → h ≡ hash key → start ≡ start_of (length slots) h → Walked finds slots start at → (at < length slots → get_or slots at 0 ≡ 0) → (c : ℕ) → c < count → at_code c ≡ key → ⊥
  absent_key h start at f e w z c l k =
      let p = subst (λ s. IsPlaced slots s c) (ap (λ j. start_of (length slots) (hash j)) k ∙ sym (e ∙ ap (start_of (length slots)) f)) (index.placed c l) in
      true≢false (sym ((decides (at_code c) key).1 k) ∙ missed finds slots start at c w z p)

  pub found_key : (at s : ℕ) → s ≡ get_or slots at 0 → s ≢ 0 → ((c : ℕ) → get_or slots at 0 ≡ suc c → finds c ≡ true) → (s - 1 < count) × (at_code (s - 1) ≡ key)
  found_key at zero e n w = absurd (n refl)
  found_key at (suc c) e n w = let one : suc c - 1 ≡ c = omega arith in rw one (index.codes at c (sym e), (decides (at_code c) key).0 (w c (sym e)))

-- an index does not tell keys apart that are the same below its count
pub index_same : {K : Type 0} (hash : K → ℕ) (key key' : ℕ → K) (n : ℕ) (slots : List ℕ) → ((c : ℕ) → c < n → key' c ≡ key c) → IsIndex hash key n slots → IsIndex hash key' n slots
index_same hash key key' n slots e i = record {
  room = i.room;
  codes = i.codes;
  placed = λ c l. subst (λ k. IsPlaced slots (start_of (length slots) (hash k)) c) (sym (e c l)) (i.placed c l);
}

-- ---- a table with one key more

module _ (hash : Key → ℕ) (bytes offsets : List ℕ) (null : ℕ) (slots : List ℕ) (t : IsTable hash bytes offsets null slots) (key : Key) (none : place_of same_key key (keys_of bytes offsets null) ≡ None) where
  gone : (c : ℕ) → c < length offsets - 1 → key_at bytes offsets null c ≡ key → ⊥
  gone = none_key same_key same_key-Decides (key_at bytes offsets null) (length offsets - 1) key none

  pub table_more : (bytes' offsets' : List ℕ) (null' code : ℕ) (slots' : List ℕ) → bytes' ≡ bytes ++ key_bytes key → offsets' ≡ offsets ++ (length bytes + length (key_bytes key)) ∷ [] → code ≡ length offsets - 1 → null' ≡ null_after key null code
      → length bytes + length (key_bytes key) < 2 ^ 32 → length offsets + 1 < 2 ^ 32 → IsFilled slots slots' code → free_count slots' + 1 ≡ free_count slots
      → IsPlaced slots' (start_of (length slots') (hash key)) code
      → IsTable hash bytes' offsets' null' slots' × (keys_of bytes' offsets' null' ≡ keys_of bytes offsets null ++ key ∷ [])
  table_more bytes' offsets' null' code slots' b o m n s f filled less placed =
      let p = t.parted in
      let last = length offsets - 1 in
      let key' = key_at (bytes ++ key_bytes key) (offsets ++ (length bytes + length (key_bytes key)) ∷ []) (null_after key null last) in
      let there = subst (λ k. IsPlaced slots' (start_of (length slots') (hash k)) last) (sym (key_end bytes offsets null p key gone last (omega (arith, p.some)))) (subst (IsPlaced slots' (start_of (length slots') (hash key))) m placed) in
      rw (b, o, n, m) (
        record {
          parted = parted_more bytes offsets null p key gone s f;
          apart = apart_more bytes offsets null p key gone t.apart;
          index = subst (λ k. IsIndex hash key' k slots') (sym (count' bytes offsets null p key gone)) (index_more hash key' last slots slots' (index_same hash (key_at bytes offsets null) key' last slots (key_before bytes offsets null p key gone) t.index) (subst (IsFilled slots slots') m filled) less there);
        },
        keys_more bytes offsets null p key gone,
      )

-- ---- a table whose keys are found in either way

module _ (hash : Key → ℕ) (bytes offsets : List ℕ) (null : ℕ) (slots : List ℕ) where
  pub found_parted : (ordered : Option (BTreeMap (Vec ℕ Global) ℕ)) → IsFound hash bytes offsets null slots ordered → IsParted bytes offsets null
  found_parted None t = t.parted
  found_parted (Some codes) t = t.parted

  pub found_apart : (ordered : Option (BTreeMap (Vec ℕ Global) ℕ)) → IsFound hash bytes offsets null slots ordered → IsApart (key_at bytes offsets null) (length offsets - 1)
  found_apart None t = t.apart
  found_apart (Some codes) t = t.apart
