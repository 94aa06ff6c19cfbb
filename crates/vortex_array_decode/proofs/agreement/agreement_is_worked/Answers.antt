use Rattle.std.proofs.Common.{inl, inr, refl, arith}
use Rattle.vortex_array_decode.proofs.Agreements.{no_mask, numbers_differ, truths_differ}
use Rattle.vortex_array_decode.proofs.agreement.agreement_is_worked.Goals as goal

pub returns-clause-fields : goal.returns-clause-fields
returns-clause-fields c = (refl, refl, ((refl, refl, inl refl), ((refl, refl, inl refl), inr refl)))

pub returns-clause-no_mask : goal.returns-clause-no_mask
returns-clause-no_mask c = (refl, refl, ((refl, refl, inl refl), ((refl, refl, inl refl), inl refl)))

pub returns-clause-other_rows : goal.returns-clause-other_rows
returns-clause-other_rows c = λ h. omega (arith, h.1)

pub returns-clause-field_rows : goal.returns-clause-field_rows
returns-clause-field_rows c = λ h. omega (arith, h.2.0.1)

pub returns-clause-other_encoding : goal.returns-clause-other_encoding
returns-clause-other_encoding c = λ h. numbers_differ h.2.0.0

pub returns-clause-other_order : goal.returns-clause-other_order
returns-clause-other_order c = λ h. truths_differ h.2.0.0

pub returns-clause-fewer : goal.returns-clause-fewer
returns-clause-fewer c = λ h. h.2.1

pub returns-clause-more : goal.returns-clause-more
returns-clause-more c = λ h. no_mask 2 2 h.2.1.1

pub returns-clause-elements : goal.returns-clause-elements
returns-clause-elements c = λ m. (refl, refl, ((refl, tt, inl refl), inl refl))

pub returns-clause-list_rows : goal.returns-clause-list_rows
returns-clause-list_rows c = λ m h. omega (arith, h.1)

pub returns-clause-other_elements : goal.returns-clause-other_elements
returns-clause-other_elements c = λ m h. numbers_differ h.2.0.0

pub returns-clause-below : goal.returns-clause-below
returns-clause-below c = λ m k. (refl, refl, ((refl, tt, ((refl, tt, inl refl), inl refl)), inl refl))

pub returns-clause-fixed : goal.returns-clause-fixed
returns-clause-fixed c = (refl, refl, ((refl, refl, inl refl), inl refl))

pub returns-clause-fixed_rows : goal.returns-clause-fixed_rows
returns-clause-fixed_rows c = λ h. omega (arith, h.2.0.1)
