-- Sources of a value, as they are appended.
use Rattle.std.proofs.Common.{◌≡◌, ℕ, List, ◌++◌, map, filter, sym, ap, ◌∙◌, append_assoc}
use Rattle.std.proofs.lemmas.List.{map-append}
use Rattle.pc_word.specs.declared.item.Operand.{Operand}
use Rattle.pc_word.specs.declared.item.Operand.TheVariants.{Name}
use Rattle.pc_certified.specs.Facts.{Fact}
use Rattle.pc_matching.specs.FactsAfter.{that}
use Rattle.pc_settling.specs.Remaining.{own_source, is_of_operand, sources_of, have_value_of}

-- a literal's own value, and what facts say
pub both_sources : (name : ℕ) (operand : Operand) (facts old middle new : List Fact) → middle ≡ old ++ have_value_of name (own_source operand)
    → new ≡ middle ++ have_value_of name (map (λ (fact : Fact). fact.source) (filter (is_of_operand operand) facts))
    → new ≡ old ++ have_value_of name (sources_of operand facts)
both_sources name operand facts old middle new first second =
    let own = have_value_of name (own_source operand) in
    let listed = map (λ (fact : Fact). fact.source) (filter (is_of_operand operand) facts) in
    second ∙ ap (λ (l : List Fact). l ++ have_value_of name listed) first ∙ append_assoc old own (have_value_of name listed)
    ∙ ap (λ (l : List Fact). old ++ l) (sym (map-append (λ (source : Operand). that source (Name name)) (own_source operand) listed))

pub ruleset sources = (both_sources)
