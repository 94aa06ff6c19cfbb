use Rattle.std.proofs.Common.{◌≤◌, length}
use Rattle.vortex_select.proofs.Complete.{ArePrimitiveArrays}
use Rattle.vortex_select.proofs.SelectionLemmas.{Progress}
use Rattle.vortex_select.proofs.whole_output.output_for.Given as goal

abbrev pub invariant-loop-rest : goal.invariant-loop-rest
invariant-loop-rest l = record {
  progress : Progress l.query l.initial.rest l.rest l.bytes.items l.counts l.prefixes.items;
  short : length l.initial.rest ≤ length l.input;
  behind : ArePrimitiveArrays l.initial.rest → ArePrimitiveArrays l.rest;
}

abbrev pub decreases-loop-rest : goal.decreases-loop-rest
decreases-loop-rest l = length l.rest
