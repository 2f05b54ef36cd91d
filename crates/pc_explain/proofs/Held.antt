-- What the names of states hold is told of each state.
use Rattle.std.proofs.Common.{◌≡◌, refl, ℕ, zero, suc, ◌+◌, ◌<◌, ◌≤◌, List, [], ◌∷◌, ◌++◌, length, arith}
use Rattle.std.specs.Prelude.{Option, Some, None, slice_get}
use Rattle.std.proofs.lemmas.List.{length_push}
use Rattle.pc_flow.specs.FlowGraph.{FlowGraph}
use Rattle.pc_automaton.specs.Automaton.{AutomatonState}
use Rattle.pc_told.specs.Tellings.{Telling}
use Rattle.pc_variables.specs.declared.holding.Holding.{Holding}
use Rattle.pc_variables.specs.Holdings.{holdings_of, and_state, and_states, variables_of}

-- something stands at each place within a list
stands_within : {X : Type 0} (xs : List X) (at : ℕ) → at < length xs → slice_get xs at ≡ None → ⊥
stands_within [] at within none = absurd (omega arith)
stands_within (x ∷ xs) zero within none = absurd (cc)
stands_within (x ∷ xs) (suc at) within none = stands_within xs at (omega arith) none

module _ (flow : FlowGraph) (states : List AutomatonState) where
  -- each telling adds what one state more holds
  and_each : (tellings : List Telling) (earlier : List (List Holding)) → length earlier + length tellings ≤ length states
      → length (and_states flow states tellings earlier) ≡ length earlier + length tellings
  and_each [] earlier few = omega arith
  and_each (telling ∷ tellings) earlier few = by (slice_get states (length earlier)) refl (λ more fewer. and_each tellings more fewer)
    where
      by : (found : Option AutomatonState) → slice_get states (length earlier) ≡ found
          → ((more : List (List Holding)) → length more + length tellings ≤ length states
          → length (and_states flow states tellings more) ≡ length more + length tellings)
          → length (and_states flow states tellings (and_state flow states earlier found telling)) ≡ length earlier + suc (length tellings)
      by None none go_on = absurd (stands_within states (length earlier) (omega (arith, few)) none)
      by (Some state) there go_on =
          let last = holdings_of flow states earlier state telling in
          let longer = length_push earlier last in
          let all = go_on (earlier ++ last ∷ []) (omega (arith, few, longer)) in
          omega (arith, longer, all)

  -- so as many are told as there are states
  pub as_many_hold : (tellings : List Telling) → length tellings ≡ length states → length (variables_of flow states tellings) ≡ length states
  as_many_hold tellings same = let all = and_each tellings [] (omega (arith, same)) in omega (arith, all, same)
