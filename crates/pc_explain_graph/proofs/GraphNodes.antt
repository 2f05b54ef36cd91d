-- A graph has a node for each state.
use Rattle.std.proofs.Common.{◌≡◌, ℕ, zero, suc, ◌+◌, List, [], ◌∷◌, ◌++◌, codes, Option, Some, sym, subst, arith}
use Rattle.std.specs.Prelude.{Contains, slice_get}
use Rattle.std.proofs.lemmas.List.Elements.{Contains-append_left, Contains-append_right, Contains-push}
use Rattle.pc_word.specs.declared.item.Limits.{Limits}
use Rattle.pc_explain.specs.Explained.{LoopSchedule, Explanation}
use Rattle.pc_explain.specs.EachState.{StateExplanation, naming_of, explained_states, each_state}
use Rattle.pc_explain.specs.Legends.{SourceLegend}
use Rattle.pc_explain_graph.specs.Graph.{node_start, heading_cell, row_table, state_node, cluster_start, cluster_label}
use Rattle.pc_explain_graph.specs.Graph.{loop_nodes, loop_edges, loop_graph, loops_graph, no_loop_label, graph_start}
use Rattle.pc_explain_graph.specs.Laws.{GraphsHaveANodeForEachState}

-- the first line of a list is in it
first_of : (x : List ℕ) (rest : List (List ℕ)) → Contains (x ∷ rest) x
first_of x rest = Contains-append_left (x ∷ []) rest x (Contains-push [] x)

-- what is shown of a state is among what is shown of all
state_among : (shown : ℕ → StateExplanation → List (List ℕ)) (x : List ℕ) (from number : ℕ) (states : List StateExplanation) (state : StateExplanation)
    → slice_get states number ≡ Some state → Contains (shown (from + number) state) x → Contains (each_state shown from states) x
state_among shown x from number [] state here has = absurd (cc)
state_among shown x from zero (top ∷ states) state here has =
    let same : top ≡ state = (cc) in
    let none : from + 0 ≡ from = omega arith in
    Contains-append_left (shown from top) (each_state shown (suc from) states) x
    (subst (λ (n : ℕ). Contains (shown n top) x) none
    (subst (λ (it : StateExplanation). Contains (shown (from + 0) it) x) (sym same) has))
state_among shown x from (suc number) (top ∷ states) state here has =
    let next : from + suc number ≡ suc from + number = omega arith in
    Contains-append_right (shown from top) (each_state shown (suc from) states) x
    (state_among shown x (suc from) number states state here (subst (λ (n : ℕ). Contains (shown n state) x) next has))

module _ (limits : Limits) (legend : SourceLegend) where
  -- so it is of loops
  loop_among : (x : List ℕ) (from cluster : ℕ) (explanations : List Explanation) (it : Explanation) → slice_get explanations cluster ≡ Some it
      → Contains (loop_graph limits legend (from + cluster) it) x → Contains (loops_graph limits legend from explanations) x
  loop_among x from cluster [] it there has = absurd (cc)
  loop_among x from zero (first ∷ rest) it there has =
      let same : first ≡ it = (cc) in
      let none : from + 0 ≡ from = omega arith in
      Contains-append_left (loop_graph limits legend from first) (loops_graph limits legend (suc from) rest) x
      (subst (λ (n : ℕ). Contains (loop_graph limits legend n first) x) none
      (subst (λ (one : Explanation). Contains (loop_graph limits legend (from + 0) one) x) (sym same) has))
  loop_among x from (suc cluster) (first ∷ rest) it there has =
      let next : from + suc cluster ≡ suc from + cluster = omega arith in
      Contains-append_right (loop_graph limits legend from first) (loops_graph limits legend (suc from) rest) x
      (loop_among x (suc from) cluster rest it there (subst (λ (n : ℕ). Contains (loop_graph limits legend n it) x) next has))

  -- the node of a state is in its loop
  node_among : (cluster number : ℕ) (it : Explanation) (schedule : LoopSchedule) (state : StateExplanation) → it.schedule ≡ Some schedule
      → slice_get (explained_states schedule) number ≡ Some state → Contains (loop_graph limits legend cluster it) (node_start cluster number)
  node_among cluster number it schedule state scheduled here =
      let x = node_start cluster number in
      let nodes = loop_nodes limits legend it.region cluster it.schedule in
      let shown = state_node limits legend it.region cluster in
      let naming = naming_of legend state in
      let same : number ≡ 0 + number = omega arith in
      Contains-append_right (cluster_start cluster ∷ cluster_label it.region it.notes ∷ []) (nodes ++ (codes "    }" ∷ loop_edges it.region cluster it.schedule)) x
      (Contains-append_left nodes (codes "    }" ∷ loop_edges it.region cluster it.schedule) x
      (subst (λ (one : Option LoopSchedule). Contains (loop_nodes limits legend it.region cluster one) x) (sym scheduled)
      (state_among shown x 0 number (explained_states schedule) state here
      (subst (λ (n : ℕ). Contains (shown n state) x) same (first_of x (heading_cell limits naming number state.state ∷ row_table it.region naming state))))))

pub nodes_there : GraphsHaveANodeForEachState
nodes_there limits legend asked explanations cluster number has =
    let x = node_start cluster number in
    let loops = loops_graph limits legend 0 explanations in
    let same : cluster ≡ 0 + cluster = omega arith in
    Contains-append_right graph_start (no_loop_label asked explanations ++ (loops ++ codes "}" ∷ [])) x
    (Contains-append_right (no_loop_label asked explanations) (loops ++ codes "}" ∷ []) x
    (Contains-append_left loops (codes "}" ∷ []) x
    (loop_among limits legend x 0 cluster explanations has.it has.there
    (subst (λ (n : ℕ). Contains (loop_graph limits legend n has.it) x) same
    (node_among limits legend cluster number has.it has.schedule has.state has.scheduled has.here)))))
