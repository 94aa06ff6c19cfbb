use Rattle.std.specs.Prelude.{refl}
use Rattle.vortex_node_rows.specs.Buffers.{one_buffer}
use Rattle.vortex_node_rows.specs.Leaves.{numbers_of, truths_of}
use Rattle.vortex_node_rows.specs.RowsOf.{encoded_rows, mask_in, masked_rows, rows_of, structs}
use Rattle.vortex_number.specs.Format.{number_of_le_bytes}
use Rattle.vortex_node_rows.proofs.worked.masks_are_worked.Goals as goal

pub returns-clause-under_nullable : goal.returns-clause-under_nullable
unfolding rows_of encoded_rows masked_rows mask_in one_buffer numbers_of truths_of number_of_le_bytes
returns-clause-under_nullable c = refl

pub returns-clause-no_mask : goal.returns-clause-no_mask
unfolding rows_of encoded_rows masked_rows mask_in one_buffer numbers_of truths_of number_of_le_bytes
returns-clause-no_mask c = refl

pub returns-clause-under_other : goal.returns-clause-under_other
unfolding rows_of encoded_rows masked_rows mask_in one_buffer numbers_of truths_of number_of_le_bytes
returns-clause-under_other c = refl

pub returns-clause-two : goal.returns-clause-two
unfolding rows_of encoded_rows masked_rows mask_in one_buffer numbers_of truths_of number_of_le_bytes
returns-clause-two c = refl

pub returns-clause-nullable : goal.returns-clause-nullable
unfolding rows_of encoded_rows masked_rows mask_in one_buffer numbers_of truths_of number_of_le_bytes
returns-clause-nullable c = refl

pub returns-clause-of_structs : goal.returns-clause-of_structs
unfolding rows_of encoded_rows masked_rows mask_in one_buffer structs numbers_of truths_of number_of_le_bytes
returns-clause-of_structs c = refl
