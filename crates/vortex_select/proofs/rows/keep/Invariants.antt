use Rattle.std.proofs.Common.{◌≡◌, ◌≤◌, length, take, filter}
use Rattle.vortex_select.specs.inner.KeptRows.{keeps}
use Rattle.vortex_select.proofs.rows.keep.Given as goal

-- the front of the block is what is kept so far
abbrev pub invariant-loop-row : goal.invariant-loop-row
invariant-loop-row l = record {
  kept : take l.count l.block ≡ filter (keeps l.query) (take l.row-index l.rows);
  bound : l.count ≤ l.row-index;
  long : length l.block ≡ length l.initial.block;
}
