use Rattle.std.proofs.Common.{◌≡◌, ◌++◌, sym, subst, ◌∙◌, rules}
use Rattle.std.specs.Prelude.{codes, string_bytes}
use Rattle.std.specs.Int.{w64}
use Rattle.std.proofs.lemmas.Int.{to_z-of_z}
use Rattle.vortex_select.specs.Words.{operator_word, IsInteger}
use Rattle.vortex_select.proofs.WordsLemmas.{four_words, if_none, four_alike, fourth_alike}
use Rattle.vortex_select.proofs.words.query_of.Goals as goal

pub returns-clause-found : goal.returns-clause-found
returns-clause-found c =
    let verb : string_bytes c.verb-item.result ≡ codes "select" = search rules in
    let path : string_bytes c.path-item.result ≡ codes "." = search rules in
    let operator : string_bytes c.operator-item.result ≡ operator_word c.in_ok-operator.operator = sym c.as_str-2.ensures.value ∙ c.in_ok-operator.ensures.found in
    let constant = c.in_ok-constant.ensures.found in
    let literal : string_bytes c.literal-item.result ≡ codes "i64:" ++ constant.0 = sym c.as_str-3.ensures.value ∙ constant.1 in
    let words = four_words c.args.words.now c.verb-item.result c.path-item.result c.operator-item.result c.literal-item.result c.in-len4.len_at_least c.in-len4.len_below c.verb-item.is c.path-item.is c.operator-item.is c.literal-item.is in
    record {
      literal = constant.0;
      words_are = words ∙ four_alike _ _ _ _ _ _ _ _ verb path operator literal;
      constant = subst (IsInteger constant.0) (sym (to_z-of_z w64 c.in_ok-constant.constant constant.2.in_range)) constant.2;
    }

pub returns-in_err-constant-clause-none : goal.returns-in_err-constant-clause-none
returns-in_err-constant-clause-none c =
    let words = four_words c.args.words.now c.verb-item.result c.path-item.result c.operator-item.result c.literal-item.result c.in-len4.len_at_least c.in-len4.len_below c.verb-item.is c.path-item.is c.operator-item.is c.literal-item.is in
    if_none c.from_residual-in_err-constant.result _ (λ q h.
    c.in_err-constant.ensures.none h.literal q.constant (c.as_str-3.ensures.value ∙ fourth_alike (sym words ∙ h.words_are)) h.constant)
