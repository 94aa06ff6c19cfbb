-- How large the layout of a tree is, as the code keeps it.
use Rattle.std.specs.Prelude.{◌≡◌, min}
use Rattle.vortex_flat.specs.declared.extent.Extent.{Extent}
use Rattle.vortex_flat.specs.declared.width_counts.WidthCounts.{WidthCounts}
use Rattle.vortex_flat.specs.declared.extent.TheConstants.{LIMIT}
use Rattle.vortex_flat.specs.Tree.{one, two, four, eight, Tree, SlotTrees, Trees}
use Rattle.vortex_flat.specs.Layout.{count_of, size_of, targets_size, trees_size, tables_fit, targets_fit, trees_fit}

-- the size, up to 2 ^ 32, and whether each table is small enough
pub record Measures (e : Extent) (t : Tree) : Type 0 where
  pub size : e.size ≡ min (size_of t) LIMIT
  pub fits : e.fits ≡ tables_fit t

-- the size of all that hangs on slots, up to 2 ^ 32, and whether each table of it is small enough
pub record MeasuresTargets (e : Extent) (s : SlotTrees) : Type 0 where
  pub size : e.size ≡ min (targets_size s) LIMIT
  pub fits : e.fits ≡ targets_fit s

-- the size of all that a vector leads to, up to 2 ^ 32, and whether its tables are small enough
pub record MeasuresTrees (e : Extent) (ts : Trees) : Type 0 where
  pub size : e.size ≡ min (trees_size ts) LIMIT
  pub fits : e.fits ≡ trees_fit ts

-- how many slots have each width
pub record Counted (c : WidthCounts) (s : SlotTrees) : Type 0 where
  pub eights : c.eights ≡ count_of eight s
  pub fours : c.fours ≡ count_of four s
  pub twos : c.twos ≡ count_of two s
  pub ones : c.ones ≡ count_of one s
