use Rattle.std.specs.Prelude.{◌<◌, ◌≤◌, ◌≡◌, Bool, true, false, ℕ, None, if◌then◌else◌, nat_le, refl}
use Rattle.std.proofs.Common.{ap, leb-true, le-leb, arith}
use Rattle.vortex_flat.specs.Targets.{text_element}
use Rattle.vortex_prelude.specs.Elements.{elements}
use Rattle.vortex_stream.proofs.schema.names_are_few.Goals as goal

above : (n : ℕ) → 65536 < n → nat_le n 65536 ≡ false
above n h = by (nat_le n 65536) refl
  where
    by : (b : Bool) → nat_le n 65536 ≡ b → b ≡ false
    by true e = let le : n ≤ 65536 = leb-true n 65536 e in absurd (omega arith)
    by false e = refl

pub returns-clause-names : goal.returns-clause-names
returns-clause-names c = λ b v h. ap (λ t. if t then elements (text_element b v) 0 v.count else None) (le-leb v.count 65536 h)

pub returns-clause-too_many : goal.returns-clause-too_many
returns-clause-too_many c = λ b v h. ap (λ t. if t then elements (text_element b v) 0 v.count else None) (above v.count h)
