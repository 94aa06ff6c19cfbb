use Rattle.std.proofs.Common.{◌≡◌, ℕ, List, Option, Some, None, sym, ap, subst, ◌∙◌}
use Rattle.std.specs.Prelude.{IsSome, is_some}
use Rattle.std.specs.Option.{option_copied, option_flatten, option_map}
use Rattle.vortex_flat.specs.Targets.{table_field, table_view}
use Rattle.vortex_terms.specs.Term.{extension}
use Rattle.vortex_schema.specs.declared.schema.TheConstants.{EXTENSION_STORAGE}
use Rattle.vortex_schema.specs.Reading.{bounded_type_at, extension_at}
use Rattle.vortex_schema.specs.Views.{term_at}
use Rattle.vortex_schema.specs.inner.InPlace.{found_in, in_place, inside}
use Rattle.vortex_schema.proofs.InPlace.{extension_in_place, place_same}
use Rattle.vortex_schema.proofs.Options.{some_same}
use Rattle.vortex_schema.proofs.node.extension_node.Goals as goal

none_or_some : (b : List ℕ) (o : Option ℕ) (r : ℕ) → o ≡ Some r → option_map (table_view b) o ≡ None → ⊥
none_or_some b None r e h = cc
none_or_some b (Some s) r e h = cc

pub returns-in_err-storage : goal.returns-in_err-storage
returns-in_err-storage c =
    let b = c.args.body.now.buffer in
    let q = c.args.body.now.place in
    let stands = subst (λ (l : List ℕ). IsSome (extension_at l (in_place l) inside q)) (sym c.requires.buffer) c.requires.stands in
    let here = extension_in_place b q c.in_ok-id.id.now (option_copied c.in_ok-metadata.metadata) c.in_ok-id.ensures c.in_ok-metadata.ensures stands in
    absurd (none_or_some b (option_flatten (table_field b q EXTENSION_STORAGE)) here.place here.place_is c.in_err-storage.ensures.1)

pub part-requires-clause-stands : goal.part-requires-clause-stands
part-requires-clause-stands c =
    let b = c.args.body.now.buffer in
    let q = c.args.body.now.place in
    let stands = subst (λ (l : List ℕ). IsSome (extension_at l (in_place l) inside q)) (sym c.requires.buffer) c.requires.stands in
    let here = extension_in_place b q c.in_ok-id.id.now (option_copied c.in_ok-metadata.metadata) c.in_ok-id.ensures c.in_ok-metadata.ensures stands in
    let place = place_same b (option_flatten (table_field b q EXTENSION_STORAGE)) here.place c.in_ok-storage.storage here.place_is c.in_ok-storage.ensures in
    ap is_some (ap (λ l. bounded_type_at l c.in_ok-storage.storage.place) (sym c.requires.buffer) ∙ ap (bounded_type_at b) place ∙ here.storage_is)

pub returns : goal.returns
returns c =
    let b = c.args.body.now.buffer in
    let q = c.args.body.now.place in
    let stands = subst (λ (l : List ℕ). IsSome (extension_at l (in_place l) inside q)) (sym c.requires.buffer) c.requires.stands in
    let here = extension_in_place b q c.in_ok-id.id.now (option_copied c.in_ok-metadata.metadata) c.in_ok-id.ensures c.in_ok-metadata.ensures stands in
    let place = place_same b (option_flatten (table_field b q EXTENSION_STORAGE)) here.place c.in_ok-storage.storage here.place_is c.in_ok-storage.ensures in
    let found = ap (λ l. bounded_type_at l c.in_ok-storage.storage.place) (sym c.requires.buffer) ∙ ap (bounded_type_at b) place ∙ here.storage_is in
    let same = some_same (bounded_type_at c.args.bytes.now c.in_ok-storage.storage.place) here.storage (term_at c.part.result) found c.part.ensures in
    ap (λ l. found_in (extension_at l (in_place l) inside q)) (sym c.requires.buffer) ∙ here.whole_is ∙ ap (λ t. Some (extension c.in_ok-id.id.now t (option_copied c.in_ok-metadata.metadata))) same
