-- Codes in the order of their keys.
use Rattle.std.proofs.Common.{◌≡◌, ◌==◌, ℕ, suc, ◌+◌, ◌-◌, ◌^◌, ◌<◌, inl, inr, Bool, true, false}
use Rattle.std.proofs.Common.{true≢false, cond, Option, Some, None, List, [], ◌∷◌, ◌++◌, length}
use Rattle.std.proofs.Common.{get_or, refl, ap, sym, ◌∙◌, subst, arith, Vec, Global, BTreeMap}
use Rattle.std.specs.Cmp.{both_ways}
use Rattle.std.specs.Cmp.Lexicographic.{slice_cmp}
use Rattle.std.specs.declared.cmp.Ordering.{Ordering}
use Rattle.std.specs.declared.cmp.Ordering.TheVariants.{Less, Equal, Greater}
use Rattle.std.specs.Ordering.{nat_cmp, is_eq, match_ordering}
use Rattle.std.specs.List.{slice_range}
use Rattle.std.specs.Map.{lookup}
use Rattle.std.specs.BTreeMap.{insert_entry}
use Rattle.std.specs.Str.{bytes_eq}
use Rattle.std.proofs.lemmas.Bool.{cases_lt, eqb-true, eq-eqb}
use Rattle.std.proofs.lemmas.Map.Text.{is_eq-slice_cmp}
use Rattle.std.proofs.lemmas.Slice.Eq.{bytes_eq-Decides}
use Rattle.vortex_codes.specs.Places.{place_of}
use Rattle.vortex_codes.specs.Keys.{Key, same_key, key_bytes, null_after, key_at, keys_of}
use Rattle.vortex_codes.specs.Table.{IsParted, IsApart, code_in_order, IsOrder, IsTree}
use Rattle.vortex_codes.proofs.KeyLemmas.{same_key-Decides, key_before, key_end, count'}
use Rattle.vortex_codes.proofs.KeyLemmas.{parted_more, apart_more, keys_more}
use Rattle.vortex_codes.proofs.PlaceLemmas.{placed_key, unplaced_key, none_key}

-- ---- a map from bytes, with one more

abbrev Owned : Type 0
Owned = Vec ℕ Global

abbrev at : List ℕ → Owned → Bool
at bs k = is_eq (slice_cmp nat_cmp bs k.items)

at_is : (bs : List ℕ) (k : Owned) → at bs k ≡ bytes_eq k.items bs
at_is bs k = is_eq-slice_cmp bs k.items ∙ both_ways (bytes_eq bs k.items) (bytes_eq k.items bs) (λ e. (bytes_eq-Decides k.items bs).1 (sym ((bytes_eq-Decides bs k.items).0 e))) (λ e. (bytes_eq-Decides bs k.items).1 (sym ((bytes_eq-Decides k.items bs).0 e)))

abbrev owned_cmp : Owned → Owned → Ordering
owned_cmp a b = slice_cmp nat_cmp a.items b.items

same_items : (a b : Owned) (o : Ordering) → owned_cmp a b ≡ o → is_eq o ≡ true → a.items ≡ b.items
same_items a b o e t = (bytes_eq-Decides a.items b.items).0 (sym (is_eq-slice_cmp a.items b.items) ∙ ap is_eq e ∙ t)

pub lookup_insert : (bs : List ℕ) (es : List (Owned × ℕ)) (k : Owned) (v : ℕ) → lookup (at bs) (insert_entry owned_cmp es k v) ≡ cond (bytes_eq k.items bs) (Some v) (lookup (at bs) es)
lookup_insert bs [] k v = ap (λ b. cond b (Some v) None) (at_is bs k)
lookup_insert bs (e ∷ es) k v = by (owned_cmp k e.0) refl (lookup_insert bs es k v)
  where
    here : (b : Bool) (o : Option ℕ) → cond b (Some v) o ≡ cond b (Some v) (cond b (Some e.1) o)
    here true o = refl
    here false o = refl

    apart : (a b : Bool) (o : Option ℕ) → (a ≡ true → b ≡ true → ⊥) → cond a (Some e.1) (cond b (Some v) o) ≡ cond b (Some v) (cond a (Some e.1) o)
    apart true true o h = absurd (h refl refl)
    apart true false o h = refl
    apart false b o h = refl

    unequal : owned_cmp k e.0 ≡ Greater → at bs e.0 ≡ true → bytes_eq k.items bs ≡ true → ⊥
    unequal g t u =
        let one = (bytes_eq-Decides k.items bs).0 u in
        let two = (bytes_eq-Decides e.0.items bs).0 (sym (at_is bs e.0) ∙ t) in
        true≢false (sym ((bytes_eq-Decides k.items e.0.items).1 (one ∙ sym two)) ∙ sym (is_eq-slice_cmp k.items e.0.items) ∙ ap is_eq g)

    by : (o : Ordering) → owned_cmp k e.0 ≡ o → lookup (at bs) (insert_entry owned_cmp es k v) ≡ cond (bytes_eq k.items bs) (Some v) (lookup (at bs) es)
        → lookup (at bs) (match_ordering o ((k, v) ∷ e ∷ es) ((e.0, v) ∷ es) (e ∷ insert_entry owned_cmp es k v)) ≡ cond (bytes_eq k.items bs) (Some v) (lookup (at bs) (e ∷ es))
    by Less c r = ap (λ b. cond b (Some v) (lookup (at bs) (e ∷ es))) (at_is bs k)
    by Equal c r = let same = at_is bs e.0 ∙ ap (λ xs. bytes_eq xs bs) (sym (same_items k e.0 Equal c refl)) in rw same (here (bytes_eq k.items bs) (lookup (at bs) es))
    by Greater c r = ap (λ o. cond (at bs e.0) (Some e.1) o) r ∙ apart (at bs e.0) (bytes_eq k.items bs) (lookup (at bs) es) (unequal c)

pub inserted : (codes codes' : BTreeMap Owned ℕ) (owned : Owned) (v : ℕ) (k : Key) (piece : List ℕ) → codes'.entries ≡ insert_entry owned_cmp codes.entries owned v → k ≡ Some piece → owned.items ≡ piece
    → (bs : List ℕ) → code_in_order codes' bs ≡ cond (same_key k (Some bs)) (Some v) (code_in_order codes bs)
inserted codes codes' owned v k piece e i o bs =
    ap (lookup (at bs)) e ∙ lookup_insert bs codes.entries owned v ∙ ap (λ xs. cond (bytes_eq xs bs) (Some v) (code_in_order codes bs)) o ∙ ap (λ q. cond (same_key q (Some bs)) (Some v) (code_in_order codes bs)) (sym i)

-- ---- the codes below a count

no_code : {c : ℕ} → None ≡ Some c → ⊥
no_code e = cc

pub order_none : (key : ℕ → Key) (codes : BTreeMap Owned ℕ) → codes.entries ≡ [] → IsOrder key 0 codes
order_none key codes e = record {
  found = λ bs c h. absurd (no_code (sym (ap (lookup (at bs)) e) ∙ h));
  there = λ bs c l. absurd (omega arith);
}

pub order_same : (key key' : ℕ → Key) (n : ℕ) (codes : BTreeMap Owned ℕ) → ((c : ℕ) → c < n → key' c ≡ key c) → IsOrder key n codes → IsOrder key' n codes
order_same key key' n codes e o = record {
  found = λ bs c h. let f = o.found bs c h in (f.0, e c f.0 ∙ f.1);
  there = λ bs c l h. o.there bs c l (sym (e c l) ∙ h);
}

pub order_stays : (key : ℕ → Key) (n : ℕ) (codes codes' : BTreeMap Owned ℕ) → codes'.entries ≡ codes.entries → IsOrder key n codes → IsOrder key n codes'
order_stays key n codes codes' e o = record {
  found = λ bs c h. o.found bs c (ap (lookup (at bs)) (sym e) ∙ h);
  there = λ bs c l h. ap (lookup (at bs)) e ∙ o.there bs c l h;
}

some_is : (a b : ℕ) → Some a ≡ Some b → a ≡ b
some_is a b e = cc

pub order_more : (key : ℕ → Key) (n : ℕ) (codes codes' : BTreeMap Owned ℕ) (k : Key) (code : ℕ) → IsOrder key n codes → ((bs : List ℕ) → code_in_order codes' bs ≡ cond (same_key k (Some bs)) (Some code) (code_in_order codes bs)) → code ≡ n → k ≡ key n
    → ((c : ℕ) → c < n → key c ≡ key n → ⊥) → IsOrder key (n + 1) codes'
order_more key n codes codes' k code o i m e absent = record {
  found = λ bs c h. found bs c (same_key k (Some bs)) refl (sym (i bs) ∙ h);
  there = λ bs c l h. i bs ∙ there bs c l h (same_key k (Some bs)) refl;
}
  where
    found : (bs : List ℕ) (c : ℕ) (b : Bool) → same_key k (Some bs) ≡ b → cond b (Some code) (code_in_order codes bs) ≡ Some c → (c < n + 1) × (key c ≡ Some bs)
    found bs c true s h = let same : c ≡ n = sym (some_is code c h) ∙ m in (omega (arith, same), ap key same ∙ sym e ∙ (same_key-Decides k (Some bs)).0 s)
    found bs c false s h = let f = o.found bs c h in (omega (arith, f.0), f.1)

    there : (bs : List ℕ) (c : ℕ) → c < n + 1 → key c ≡ Some bs → (b : Bool) → same_key k (Some bs) ≡ b → cond b (Some code) (code_in_order codes bs) ≡ Some c
    there bs c l h true s = elim (cases_lt c n) [ inl u ↦ absurd (absent c u (h ∙ sym ((same_key-Decides k (Some bs)).0 s) ∙ e)) | inr u ↦ ap (λ x. Some x) (let same : code ≡ c = omega (arith, m, l) in same) ]
    there bs c l h false s = elim (cases_lt c n) [ inl u ↦ o.there bs c u h | inr u ↦ absurd (let same : c ≡ n = omega (arith, l) in true≢false (sym ((same_key-Decides k (Some bs)).1 (e ∙ ap key (sym same) ∙ h)) ∙ s)) ]

-- ---- what is found

module _ (bytes offsets : List ℕ) (null : ℕ) (codes : BTreeMap Owned ℕ) (t : IsTree bytes offsets null codes) where
  some_apart : {bs : List ℕ} → Some bs ≡ None → ⊥
  some_apart e = cc

  none_at_null : key_at bytes offsets null null ≡ None
  none_at_null = rw (eq-eqb null null refl) refl

  pub tree_found : (k : Key) (bs : List ℕ) → k ≡ Some bs → code_in_order codes bs ≡ place_of same_key k (keys_of bytes offsets null)
  tree_found k bs i = by (code_in_order codes bs) refl ∙ ap (λ q. place_of same_key q (keys_of bytes offsets null)) (sym i)
    where
      by : (o : Option ℕ) → code_in_order codes bs ≡ o → o ≡ place_of same_key (Some bs) (keys_of bytes offsets null)
      by None e = unplaced_key same_key same_key-Decides _ _ _ (λ c l k. no_code (sym e ∙ t.order.there bs c l k))
      by (Some c) e = let f = t.order.found bs c e in placed_key same_key same_key-Decides _ _ _ _ t.apart f.0 f.1

  null_here : (c : ℕ) → key_at bytes offsets null c ≡ None → c ≡ null
  null_here c e = by (c == null) refl e
    where
      by : (b : Bool) → (c == null) ≡ b → key_at bytes offsets null c ≡ None → c ≡ null
      by true s k = eqb-true c null s
      by false s k = absurd (some_apart (ap (λ b. cond b None (Some (slice_range bytes (get_or offsets c 0) (get_or offsets (suc c) 0)))) (sym s) ∙ k))

  pub tree_null : (k : Key) → k ≡ None → null < length offsets - 1 → Some null ≡ place_of same_key k (keys_of bytes offsets null)
  tree_null k i l = placed_key same_key same_key-Decides _ _ _ _ t.apart l (none_at_null ∙ sym i)

  pub tree_no_null : (k : Key) → k ≡ None → (null < length offsets - 1 → ⊥) → None ≡ place_of same_key k (keys_of bytes offsets null)
  tree_no_null k i h = unplaced_key same_key same_key-Decides _ _ _ (λ c l e. h (subst (λ j. j < length offsets - 1) (null_here c (e ∙ i)) l))

  -- ---- one key more

  module _ (key : Key) (none : place_of same_key key (keys_of bytes offsets null) ≡ None) where
    gone : (c : ℕ) → c < length offsets - 1 → key_at bytes offsets null c ≡ key → ⊥
    gone = none_key same_key same_key-Decides (key_at bytes offsets null) (length offsets - 1) key none

    pub tree_more : (bytes' offsets' : List ℕ) (null' code : ℕ) (codes' : BTreeMap Owned ℕ) → bytes' ≡ bytes ++ key_bytes key → offsets' ≡ offsets ++ (length bytes + length (key_bytes key)) ∷ [] → code ≡ length offsets - 1 → null' ≡ null_after key null code
        → length bytes + length (key_bytes key) < 2 ^ 32 → length offsets + 1 < 2 ^ 32 → ((bs : List ℕ) → code_in_order codes' bs ≡ cond (same_key key (Some bs)) (Some code) (code_in_order codes bs))
        → IsTree bytes' offsets' null' codes' × (keys_of bytes' offsets' null' ≡ keys_of bytes offsets null ++ key ∷ [])
    tree_more bytes' offsets' null' code codes' b o m n s f i =
        let p = t.parted in
        let last = length offsets - 1 in
        let k' = key_at (bytes ++ key_bytes key) (offsets ++ (length bytes + length (key_bytes key)) ∷ []) (null_after key null last) in
        let end : k' last ≡ key = key_end bytes offsets null p key gone last (omega (arith, p.some)) in
        rw (b, o, n, m) (
          record {
            parted = parted_more bytes offsets null p key gone s f;
            apart = apart_more bytes offsets null p key gone t.apart;
            order = subst (λ k. IsOrder k' k codes') (sym (count' bytes offsets null p key gone)) (order_more k' last codes codes' key code (order_same (key_at bytes offsets null) k' last codes (key_before bytes offsets null p key gone) t.order) i m (sym end) (λ c l e. gone c l (sym (key_before bytes offsets null p key gone c l) ∙ e ∙ end)));
          },
          keys_more bytes offsets null p key gone,
        )

pub order_tree : (bytes offsets : List ℕ) (null : ℕ) (codes : BTreeMap Owned ℕ) (n : ℕ) → IsParted bytes offsets null → IsApart (key_at bytes offsets null) (length offsets - 1) → IsOrder (key_at bytes offsets null) n codes → n ≡ length offsets - 1 → IsTree bytes offsets null codes
order_tree bytes offsets null codes n p a o e = record { parted = p; apart = a; order = subst (λ k. IsOrder (key_at bytes offsets null) k codes) e o }

-- the same table, where the map has the entries that it had
pub tree_stays : (bytes offsets bytes' offsets' : List ℕ) (null : ℕ) (codes codes' : BTreeMap Owned ℕ) → IsTree bytes offsets null codes → bytes' ≡ bytes → offsets' ≡ offsets → codes'.entries ≡ codes.entries → IsTree bytes' offsets' null codes'
tree_stays bytes offsets bytes' offsets' null codes codes' t b o e = rw (b, o) (record { parted = t.parted; apart = t.apart; order = order_stays (key_at bytes offsets null) (length offsets - 1) codes codes' e t.order })
