-- Of each state each name is told once at most.
use Rattle.std.proofs.Common.{◌⊎◌, inl, inr, ◌≡◌, refl, sym, ap, ◌∙◌, subst, ℕ, zero, suc, ◌<◌, List, [], ◌∷◌, ◌++◌, length, map, Bool, true, false, ◌||◌, cond, nat_eq, arith}
use Rattle.std.specs.Prelude.{Option, Some, None, slice_get}
use Rattle.std.specs.List.{list_any, IsDistinct}
use Rattle.std.proofs.lemmas.Bool.Decides.{nat_tests}
use Rattle.std.proofs.lemmas.List.{map-append}
use Rattle.std.proofs.lemmas.Cmp.{nat_eq_equiv}
use Rattle.std.proofs.lemmas.Map.Keys.{IsDistinct-push}
use Rattle.pc_word.specs.Items.{dest_of}
use Rattle.pc_word.specs.Row.{Row, Then, Either, At_leaf}
use Rattle.pc_word.specs.declared.item.Operand.{Operand}
use Rattle.pc_flow.specs.FlowGraph.{FlowGraph}
use Rattle.pc_automaton.specs.declared.automaton.AutomatonLeaf.{AutomatonLeaf}
use Rattle.pc_automaton.specs.Automaton.{AutomatonState}
use Rattle.pc_told.specs.Tellings.{Telling, Tells_item, Tells_test, Tells_leaf}
use Rattle.pc_variables.specs.declared.holding.Holding.{Holding}
use Rattle.pc_variables.specs.Holdings.{is_held, with_name, if_scalar, assigned_by, with_assigned, with_own, arguments_to, scalar_behind}
use Rattle.pc_variables.specs.Holdings.{with_passed, entered_by, entered, parameters_held, holdings_of, and_state, and_states}
use Rattle.pc_variables.specs.Laws.{EachNameOnce}
use Rattle.pc_variables.proofs.Grounds.{pushed_at}

abbrev names : List Holding → List ℕ
names holdings = map (λ holding. holding.name) holdings

abbrev AreOnce : List Holding → Type 0
AreOnce holdings = IsDistinct nat_eq (names holdings)

-- a name that is not held is not among them
not_among : (holdings : List Holding) (name : ℕ) → is_held holdings name ≡ false → list_any (nat_eq name) (names holdings) ≡ false
not_among [] name h = refl
not_among (first ∷ others) name h = by (nat_eq first.name name) refl h (not_among others name)
  where
    by : (t : Bool) → nat_eq first.name name ≡ t → (t || is_held others name) ≡ false → (is_held others name ≡ false → list_any (nat_eq name) (names others) ≡ false)
        → (nat_eq name first.name || list_any (nat_eq name) (names others)) ≡ false
    by true e h rest = absurd (cc)
    by false e h rest = let other : nat_eq name first.name ≡ false = grind (arith, nat_tests) in (λ i. other i || rest h i)

name_once : (holdings : List Holding) (name scalar : Option ℕ) → AreOnce holdings → AreOnce (with_name holdings name scalar)
name_once holdings None scalar once = once
name_once holdings (Some name) None once = once
name_once holdings (Some name) (Some scalar) once = by (is_held holdings name) refl
  where
    by : (t : Bool) → is_held holdings name ≡ t → AreOnce (cond t holdings (holdings ++ record { name = name; scalar = scalar } ∷ []))
    by true e = once
    by false e =
        subst (IsDistinct nat_eq) (sym (map-append (λ holding. holding.name) holdings (record { name = name; scalar = scalar } ∷ [])))
        (IsDistinct-push nat_eq_equiv (names holdings) name once (not_among holdings name e))

row_once : (flow : FlowGraph) (row : Row AutomatonLeaf) (telling : Telling) (holdings : List Holding) → AreOnce holdings → AreOnce (with_assigned flow row telling holdings)
row_once flow (Then item rest) (Tells_item iteration origin told next) holdings once =
    row_once flow rest next _ (name_once holdings (dest_of item) (assigned_by flow origin) once)
row_once flow (Either on yes_row no_row) (Tells_test iteration origin told one other) holdings once =
    row_once flow no_row other _ (row_once flow yes_row one holdings once)
row_once flow (Then item rest) (Tells_test iteration origin told one other) holdings once = once
row_once flow (Then item rest) (Tells_leaf advance) holdings once = once
row_once flow (Either on yes_row no_row) (Tells_item iteration origin told next) holdings once = once
row_once flow (Either on yes_row no_row) (Tells_leaf advance) holdings once = once
row_once flow (At_leaf leaf) (Tells_item iteration origin told next) holdings once = once
row_once flow (At_leaf leaf) (Tells_test iteration origin told one other) holdings once = once
row_once flow (At_leaf leaf) (Tells_leaf advance) holdings once = once

own_once : (parameters : List ℕ) (holdings : List Holding) → AreOnce holdings → AreOnce (with_own parameters holdings)
own_once [] holdings once = once
own_once (parameter ∷ parameters) holdings once = own_once parameters _ (name_once holdings (Some parameter) (if_scalar parameter) once)

passed_once : (passing : List Holding) (parameters : List ℕ) (arguments : List Operand) (holdings : List Holding) → AreOnce holdings
    → AreOnce (with_passed passing parameters arguments holdings)
passed_once passing [] [] holdings once = once
passed_once passing [] (argument ∷ arguments) holdings once = once
passed_once passing (parameter ∷ parameters) [] holdings once = once
passed_once passing (parameter ∷ parameters) (argument ∷ arguments) holdings once =
    passed_once passing parameters arguments _ (name_once holdings (Some parameter) (scalar_behind passing (Some argument)) once)

entered_once : (earlier : List (List Holding)) (states : List AutomatonState) (number : ℕ) (parameters : List ℕ) (holdings : List Holding) → AreOnce holdings
    → AreOnce (entered earlier states number parameters holdings)
entered_once [] [] number parameters holdings once = once
entered_once [] (state ∷ states) number parameters holdings once = once
entered_once (passing ∷ earlier) [] number parameters holdings once = once
entered_once (passing ∷ earlier) (state ∷ states) number parameters holdings once =
    by (arguments_to number state.row) (entered_once earlier states number parameters holdings once)
  where
    by : (found : Option (List Operand)) → AreOnce (entered earlier states number parameters holdings)
        → AreOnce (entered_by passing found parameters holdings (entered earlier states number parameters holdings))
    by None others = others
    by (Some arguments) others = passed_once passing parameters arguments holdings once

parameters_once : (states : List AutomatonState) (earlier : List (List Holding)) (parameters : List ℕ) → AreOnce (parameters_held states earlier parameters)
unfolding IsDistinct
parameters_once states [] parameters = own_once parameters [] tt
parameters_once states (first ∷ earlier) parameters = entered_once (first ∷ earlier) states (length (first ∷ earlier)) parameters [] tt

module _ (flow : FlowGraph) (states : List AutomatonState) where
  abbrev EachOnce : List (List Holding) → Type 0
  EachOnce earlier = (number : ℕ) (holdings : List Holding) → slice_get earlier number ≡ Some holdings → AreOnce holdings

  state_once : (earlier : List (List Holding)) (state : Option AutomatonState) (telling : Telling) → EachOnce earlier → EachOnce (and_state flow states earlier state telling)
  state_once earlier None telling once number holdings is = once number holdings is
  state_once earlier (Some state) telling once number holdings is = by (pushed_at earlier (holdings_of flow states earlier state telling) number holdings is)
    where
      by : (slice_get earlier number ≡ Some holdings) ⊎ ((length earlier ≡ number) × (holdings_of flow states earlier state telling ≡ holdings)) → AreOnce holdings
      by (inl before) = once number holdings before
      by (inr (at, same)) = subst AreOnce same (row_once flow state.row telling _ (parameters_once states earlier state.parameters))

  states_once : (tellings : List Telling) (earlier : List (List Holding)) → EachOnce earlier → EachOnce (and_states flow states tellings earlier)
  states_once [] earlier once = once
  states_once (telling ∷ tellings) earlier once =
      states_once tellings _ (state_once earlier (slice_get states (length earlier)) telling once)

pub once : EachNameOnce
once flow states tellings number holdings is = states_once flow states tellings [] (λ other found none. absurd (cc)) number holdings is
