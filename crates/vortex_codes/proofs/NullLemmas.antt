-- Where null stands among keys in one buffer.
use Rattle.std.proofs.Common.{◌≡◌, ◌==◌, ◌≢◌, ℕ, suc, ◌-◌, ◌^◌, inl, inr, Bool, true, false}
use Rattle.std.proofs.Common.{cond, Some, None, List, length, get_or, refl, ap, sym, ◌∙◌, arith}
use Rattle.std.specs.List.{slice_range}
use Rattle.std.proofs.lemmas.Bool.{eqb-true, eq-eqb}
use Rattle.vortex_codes.specs.Keys.{key_at, keys_of, same_key}
use Rattle.vortex_codes.specs.Places.{place_of}
use Rattle.vortex_codes.specs.Table.{IsParted, IsApart}
use Rattle.vortex_codes.proofs.KeyLemmas.{same_key-Decides}
use Rattle.vortex_codes.proofs.PlaceLemmas.{placed_key, unplaced_key}

apart_eq : (a b : ℕ) → a ≢ b → (a == b) ≡ false
apart_eq a b h = by (a == b) refl
  where
    by : (x : Bool) → (a == b) ≡ x → (a == b) ≡ false
    by true e = absurd (h (eqb-true a b e))
    by false e = e

module _ (bytes offsets : List ℕ) (null : ℕ) where
  some_apart : {bs : List ℕ} → Some bs ≡ None → ⊥
  some_apart e = cc

  null_there : key_at bytes offsets null null ≡ None
  null_there = rw (eq-eqb null null refl) refl

  null_here : (c : ℕ) → key_at bytes offsets null c ≡ None → c ≡ null
  null_here c e = by (c == null) refl e
    where
      by : (b : Bool) → (c == null) ≡ b → key_at bytes offsets null c ≡ None → c ≡ null
      by true s k = eqb-true c null s
      by false s k = absurd (some_apart (ap (λ b. cond b None (Some (slice_range bytes (get_or offsets c 0) (get_or offsets (suc c) 0)))) (sym s) ∙ k))

  pub null_placed : (most : ℕ) → most ≡ 2 ^ 32 - 1 → IsParted bytes offsets null → IsApart (key_at bytes offsets null) (length offsets - 1)
      → cond (null == most) None (Some null) ≡ place_of same_key None (keys_of bytes offsets null)
  null_placed most m p a = elim p.null_code [
    | inl u ↦ ap (λ b. cond b None (Some null)) (apart_eq null most (λ e. absurd (omega (arith, e, m, u, p.few)))) ∙ placed_key same_key same_key-Decides _ _ _ _ a (omega (arith, u)) null_there
    | inr u ↦ ap (λ b. cond b None (Some null)) (eq-eqb null most (u ∙ sym m)) ∙ unplaced_key same_key same_key-Decides _ _ _ (λ c l e. let h = null_here c e in omega (arith, h, l, u, p.few))
  ]
