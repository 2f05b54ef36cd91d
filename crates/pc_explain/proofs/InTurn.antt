-- Explaining choices one after the other.
use Rattle.std.proofs.Common.{◌≡◌, ℕ, ◌+◌, ◌<◌, ◌≤◌, List, [], ◌∷◌, ◌++◌, length, drop, Option, Some, None, sym, ◌∙◌, ap, subst, append_assoc, append-nil}
use Rattle.std.specs.Prelude.{slice_index_or}
use Rattle.std.proofs.lemmas.List.{drop_all, drop_more, map-append}
use Rattle.pc_word.specs.declared.item.Extent.{Extent}
use Rattle.pc_word.specs.declared.item.Limits.{Limits}
use Rattle.pc_flow.specs.FlowGraph.{FlowGraph}
use Rattle.pc_table.specs.Table.{Table}
use Rattle.pc_compile.specs.declared.choice.Choice.{Choice}
use Rattle.pc_explain.specs.declared.explanation.LoopExplanation.{LoopExplanation}
use Rattle.pc_explain.specs.Explained.{Explanation, explanation_in, explanations_in, line_asked, IsExplained, AreExplained, none_left, passed_over, explained}

module _ (flow : FlowGraph) (table : Table) (limits : Limits) (extent : Extent) (asked : Option ℕ) (choices : List Choice) where
  -- explanations of the choices from a place on, after those that were made, explain all choices
  abbrev pub GoesOn : (at : ℕ) → List LoopExplanation → Type 0
  GoesOn at made = (rest : List Explanation) → AreExplained flow table limits extent asked (drop at choices) rest
      → AreExplained flow table limits extent asked choices (explanations_in made ++ rest)

  module _ (at : ℕ) (choice : Choice) (made : List LoopExplanation) (within : at < length choices) (is : choice ≡ slice_index_or choices at choice)
      (so_far : GoesOn at made) where
    -- a choice, and those after it, are those from its place on
    from_here : (rest : List Explanation) → AreExplained flow table limits extent asked (choice ∷ drop (at + 1) choices) rest
        → AreExplained flow table limits extent asked (drop at choices) rest
    from_here rest told =
        subst (λ (left : List Choice). AreExplained flow table limits extent asked left rest)
        (sym (drop_more choices at choice within ∙ ap (λ (it : Choice). it ∷ drop (at + 1) choices) (sym is))) told

    pub goes_past : line_asked table asked choice.region ≡ None → GoesOn (at + 1) made
    goes_past none rest told = so_far rest (from_here rest (passed_over none told))

    pub goes_with : (line : ℕ) (one : LoopExplanation) → line_asked table asked choice.region ≡ Some line
        → IsExplained flow table limits extent line choice (explanation_in one) → GoesOn (at + 1) (made ++ one ∷ [])
    goes_with line one some tells rest told =
        subst (λ (all : List Explanation). AreExplained flow table limits extent asked choices all)
        (sym (ap (λ (all : List Explanation). all ++ rest) (map-append explanation_in made (one ∷ []))
        ∙ append_assoc (explanations_in made) (explanation_in one ∷ []) rest))
        (so_far (explanation_in one ∷ rest) (from_here (explanation_in one ∷ rest) (explained some tells told)))

  -- where no choice is left, the explanations that were made are those of all
  pub all_told : (at : ℕ) (made : List LoopExplanation) → length choices ≤ at → GoesOn at made
      → AreExplained flow table limits extent asked choices (explanations_in made)
  all_told at made past so_far =
      subst (λ (all : List Explanation). AreExplained flow table limits extent asked choices all) (append-nil (explanations_in made))
      (so_far [] (subst (λ (left : List Choice). AreExplained flow table limits extent asked left []) (sym (drop_all at choices past)) none_left))
