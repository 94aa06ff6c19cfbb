use Rattle.std.proofs.lemmas.List.Elements.{All-from_recursion}
use Rattle.vortex_terms.specs.TermLaws.{IsSmaller, part_types-smaller, part_types-legal, part_types-bounded, part_at-bounded, part_at-smaller}
use Rattle.vortex_terms.specs.Types.{part_types, Legal, Bounded}
use Rattle.vortex_terms.proofs.types.parts_are_smaller.Goals as goal

pub returns-clause-fewer_nodes : goal.returns-clause-fewer_nodes
returns-clause-fewer_nodes c = λ t k d h. (All-from_recursion (λ u. IsSmaller u t) (part_types t) (part_types-smaller t) k d h).nodes_fall

pub returns-clause-fewer_levels : goal.returns-clause-fewer_levels
returns-clause-fewer_levels c = λ t k d h. (All-from_recursion (λ u. IsSmaller u t) (part_types t) (part_types-smaller t) k d h).levels_fall

pub returns-clause-no_more_text : goal.returns-clause-no_more_text
returns-clause-no_more_text c = λ t k d h. (All-from_recursion (λ u. IsSmaller u t) (part_types t) (part_types-smaller t) k d h).no_more_text

pub returns-clause-lighter : goal.returns-clause-lighter
returns-clause-lighter c = λ t k d h. (All-from_recursion (λ u. IsSmaller u t) (part_types t) (part_types-smaller t) k d h).weight_falls

pub returns-clause-legal : goal.returns-clause-legal
returns-clause-legal c = λ t h. All-from_recursion Legal (part_types t) (part_types-legal t h)

pub returns-clause-bounded : goal.returns-clause-bounded
returns-clause-bounded c = λ t b. All-from_recursion Bounded (part_types t) (part_types-bounded t b)

pub returns-clause-at_a_place : goal.returns-clause-at_a_place
returns-clause-at_a_place c = λ t i u b e. (part_at-bounded t i u b e, (part_at-smaller t i u e).levels_fall)
