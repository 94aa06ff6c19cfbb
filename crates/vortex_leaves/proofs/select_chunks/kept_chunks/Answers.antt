use Rattle.std.proofs.Common.{◌≡◌, ◌/◌, ◌∙◌, List, ℕ, length, ap, subst}
use Rattle.std.specs.Prelude.{IfOk}
use Rattle.std.specs.List.{flat_map}
use Rattle.std.specs.Simd.{first_chunks}
use Rattle.vortex_mask.specs.Truths.{kept}
use Rattle.vortex_leaves.proofs.Chunks.{chunk_count}
use Rattle.vortex_leaves.proofs.select_chunks.kept_chunks.Goals as goal

pub returns : goal.returns
returns g c =
    let many : length c.args.bytes.now / g.row.N ≡ length c.args.mask.now = chunk_count (length c.args.bytes.now) (length c.args.mask.now) g.row.N c.requires.exact c.requires.some in
    let all : c.as_chunks.result.0.now ≡ first_chunks g.row.N (length c.args.mask.now) c.args.bytes.now = c.as_chunks.ensures.front ∙ ap (λ j. first_chunks g.row.N j c.args.bytes.now) many in
    subst (λ (cs : List (List ℕ)). IfOk c.kept_rows.result (λ v. v.items ≡ flat_map (λ c. c) (kept c.args.mask.now cs))) all c.kept_rows.ensures
