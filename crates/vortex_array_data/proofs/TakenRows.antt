-- Why rows at places are not taken.
use Rattle.std.proofs.Common.{inl, inr, List, sym, subst, Bor, ℕ, length}
use Rattle.vortex_terms.specs.Row.{null_row}
use Rattle.vortex_array_data.specs.Column.{Column}
use Rattle.vortex_array_data.specs.Taken.{HoldsMuch, RefusesTake}
use Rattle.vortex_array_data.specs.declared.error.ArrayError.{ArrayError}
use Rattle.vortex_array_data.specs.declared.pick_rows.Picks.TheVariants.{Places}
use Rattle.vortex_array_data.specs.inner.PickedPlaces.{ColumnMuch, RefusesPick}
use Rattle.vortex_array_data.proofs.PickLaws.{Below}
use Rattle.vortex_array_data.proofs.PickPlaces.{picked-taken}

pub take_refused : (ps : Bor (List ℕ)) (c : Column) (e : ArrayError) → Below (length c.rows) ps.now → RefusesPick (Places ps) (ColumnMuch c) e
    → RefusesTake ps.now c.dtype c.rows e
take_refused ps c e b (inl h) = inl h
take_refused ps c e b (inr h) =
    inr (h.0, (h.1.0, subst (HoldsMuch c.dtype) (sym (picked-taken ps.now c.rows null_row b)) h.1.1))
