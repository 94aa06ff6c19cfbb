-- Types in a buffer.
use Rattle.std.proofs.Common.{◌≡◌, ℕ, List, Option, Some, None, refl, ap, subst}
use Rattle.std.specs.Prelude.{IsSome, unwrap_or}
use Rattle.std.specs.Option.{option_map}
use Rattle.vortex_flat.specs.Table.{TableShape, root_at}
use Rattle.vortex_flat.specs.Targets.{TableView, table_view, root_place}
use Rattle.vortex_terms.specs.Term.{Term, null}
use Rattle.vortex_terms.specs.Types.{Bounded, IsBytes}
use Rattle.vortex_schema.specs.Reading.{bounded_type_at}
use Rattle.vortex_schema.specs.TypeAt.{IsTypeAt, IsTypeIn}
use Rattle.vortex_types.specs.Standing.{StandsAt}
use Rattle.vortex_types.proofs.ReadTypes as read

-- ---- roots

pub root_there : (b : List ℕ) (v : TableView) → option_map (λ (t : TableShape). table_view b t.place) (root_at b) ≡ Some v → root_place b ≡ Some v.place
root_there b v e = by (root_at b) e
  where
    by : (o : Option TableShape) → option_map (λ (t : TableShape). table_view b t.place) o ≡ Some v → option_map (λ (t : TableShape). t.place) o ≡ Some v.place
    by None e = absurd (cc)
    by (Some t) e = let same : table_view b t.place ≡ v = cc in ap (λ (w : TableView). Some w.place) same

pub no_root : (b : List ℕ) → option_map (λ (t : TableShape). table_view b t.place) (root_at b) ≡ None → root_place b ≡ None
no_root b e = by (root_at b) e
  where
    by : (o : Option TableShape) → option_map (λ (t : TableShape). table_view b t.place) o ≡ None → option_map (λ (t : TableShape). t.place) o ≡ None
    by None e = refl
    by (Some t) e = absurd (cc)

two_places : (o : Option ℕ) (p q : ℕ) → o ≡ Some p → o ≡ Some q → q ≡ p
two_places o p q e h = cc

no_place : (o : Option ℕ) (p : ℕ) → o ≡ None → o ≡ Some p → ⊥
no_place o p e h = absurd (cc)

pub in_root : (b : List ℕ) (p : ℕ) (t : Term) → root_place b ≡ Some p → StandsAt b p t → IsTypeIn b t
in_root b p t e h = (p, e, h.0, h.1)

pub not_in_root : (b : List ℕ) (p : ℕ) (t : Term) → root_place b ≡ Some p → ((u : Term) → StandsAt b p u → ⊥) → IsTypeIn b t → ⊥
not_in_root b p t e none h = none t (subst (λ q. IsTypeAt b q t) (two_places (root_place b) p h.0 e h.1) h.2, h.3)

pub no_type_in : (b : List ℕ) (t : Term) → root_place b ≡ None → IsTypeIn b t → ⊥
no_type_in b t e h = no_place (root_place b) h.0 e h.1

-- ---- places

pub known_at : (b : List ℕ) (p : ℕ) → IsBytes b → IsSome (bounded_type_at b p) → IsTypeAt b p (unwrap_or (bounded_type_at b p) null)
known_at b p bytes h = read.known_at b p bytes h

pub known_bounded : (b : List ℕ) (p : ℕ) → IsBytes b → IsSome (bounded_type_at b p) → Bounded (unwrap_or (bounded_type_at b p) null)
known_bounded b p bytes h = read.known_bounded b p bytes h

pub known_term : (b : List ℕ) (p : ℕ) (t : Term) → bounded_type_at b p ≡ Some t → t ≡ unwrap_or (bounded_type_at b p) null
known_term b p t e = read.known_term b p t e
