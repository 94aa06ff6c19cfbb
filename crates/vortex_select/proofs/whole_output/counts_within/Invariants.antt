use Rattle.vortex_select.specs.inner.Prefixes.{IsLastWithin}
use Rattle.vortex_select.proofs.whole_output.counts_within.Given as goal

-- the prefixes so far end within the bytes
abbrev pub invariant-loop-prefix : goal.invariant-loop-prefix
invariant-loop-prefix l = IsLastWithin l.prefixes l.bytes l.prefix-index l.counts
