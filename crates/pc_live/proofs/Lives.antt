-- Where every read counts, the sets that a backward analysis finds are those of live variables.
use Rattle.std.proofs.Common.{◌≡◌, inl, inr, ℕ, ◌<◌, Bool, true, not, ◌&&◌, List, Option, Some, refl, sym, ◌∙◌, ap}
use Rattle.std.specs.Prelude.{slice_get}
use Rattle.pc_word.proofs.Truth.{and_true, and_made, not_true, or_true, or_first, or_second}
use Rattle.pc_word.specs.declared.item.Item.{Item}
use Rattle.pc_flow.specs.declared.node.FlowNode.{FlowNode}
use Rattle.pc_flow.specs.declared.node.FlowNode.TheVariants.{Op, Test, Stop, Trap}
use Rattle.pc_flow.specs.FlowGraph.{FlowGraph, variables}
use Rattle.pc_live.specs.declared.variable_set.VariableSet.{VariableSet}
use Rattle.pc_live.specs.Live.{node_reads, node_writes, IsLive, Read_here, Read_later}
use Rattle.pc_live.specs.Liveness.{member, set_at, IsLivenessOf}
use Rattle.pc_live.specs.Backward.{behind, reads_counted, needs, needs_of, IsClosed, IsSolution}
use Rattle.pc_live.proofs.Logic.{place_within}
use Rattle.pc_live.proofs.Rounds.{behind_some, some_behind, built_holds}

-- every read counts
abbrev every : VariableSet → Item → Bool
every after item = true

all_count : (sets : List VariableSet) (node : FlowNode) (variable : ℕ) → reads_counted every sets node variable ≡ node_reads node variable
all_count sets (Op item to) variable = refl
all_count sets (Test on on_yes on_no turn) variable = refl
all_count sets Stop variable = refl
all_count sets (Trap kind line) variable = refl

-- what a node needs is live there
node_live : (flow : FlowGraph) (sets : List VariableSet) (at variable : ℕ) (node : FlowNode)
    → ((k x : ℕ) → x < variables → member (set_at sets k) x ≡ true → IsLive flow x k)
    → variable < variables → slice_get flow.nodes at ≡ Some node → needs every sets node variable ≡ true → IsLive flow variable at
node_live flow sets at variable node sound small there h =
    elim (or_true (reads_counted every sets node variable) (not (node_writes node variable) && behind sets node variable) h) [
      | inl reads ↦ Read_here there (sym (all_count sets node variable) ∙ reads)
      | inr later ↦
          let both = and_true (not (node_writes node variable)) (behind sets node variable) later in
          let some = behind_some sets node variable both.1 in
          Read_later there (not_true (node_writes node variable) both.0) some.leads (sound some.next variable small some.has)
    ]

-- sets that lack nothing hold all that is live
has_live : (flow : FlowGraph) (sets : List VariableSet) (variable at : ℕ) → IsClosed every flow sets → variable < variables
    → IsLive flow variable at → member (set_at sets at) variable ≡ true
has_live flow sets variable at closed small (Read_here {node = node} there reads) =
    (closed at (place_within flow.nodes at node there)).lacks_none variable small
    (ap (λ (o : Option FlowNode). needs_of every sets o variable) there
    ∙ or_first (reads_counted every sets node variable) (not (node_writes node variable) && behind sets node variable) (all_count sets node variable ∙ reads))
has_live flow sets variable at closed small (Read_later {next = next} {node = node} there passed leads later) =
    let open_way : not (node_writes node variable) ≡ true = ap not passed in
    let has : behind sets node variable ≡ true = some_behind sets node variable next leads (has_live flow sets variable next closed small later) in
    (closed at (place_within flow.nodes at node there)).lacks_none variable small
    (ap (λ (o : Option FlowNode). needs_of every sets o variable) there
    ∙ or_second (reads_counted every sets node variable) (not (node_writes node variable) && behind sets node variable)
    (and_made (not (node_writes node variable)) (behind sets node variable) open_way has))

-- so they are the liveness
pub solution_exact : (flow : FlowGraph) (sets : List VariableSet) → IsSolution every flow sets → IsLivenessOf flow sets
solution_exact flow sets solution = record {
  as_many = solution.as_many;
  exact = λ at variable there small. (
    λ h. built_holds every flow (λ x k. IsLive flow x k) (node_live flow) sets solution.built at variable small h,
    λ live. has_live flow sets variable at solution.closed small live,
  );
}
