-- Where one unit of a graph leads to.
use Rattle.std.proofs.Common.{◌≡◌, ℕ, ◌<◌, Bool, true, false, List, [], ◌∷◌, Option, Some, None, sym, ◌∙◌, ap, subst}
use Rattle.std.specs.Prelude.{ℤ, if◌then◌else◌, slice_get, slice_index}
use Rattle.pc_word.specs.declared.item.Item.{Item}
use Rattle.pc_word.specs.declared.item.MachineFault.{MachineFault}
use Rattle.pc_word.specs.Word.{holds}
use Rattle.pc_word.specs.Run.{Step, Goes, Stops}
use Rattle.pc_word.specs.State.{State}
use Rattle.pc_word.specs.Items.{operand_value}
use Rattle.pc_word.specs.Commit.{fault_of}
use Rattle.pc_word.specs.Row.{commit_of}
use Rattle.pc_flow.specs.declared.node.FlowNode.{FlowNode}
use Rattle.pc_flow.specs.declared.node.FlowNode.TheVariants.{Op, Test, Stop, Trap}
use Rattle.pc_flow.specs.FlowGraph.{FlowGraph, IsTarget, Descends, NodeFits, IsFlow, tested_loop}
use Rattle.pc_flow.specs.FlowRun.{FlowState, step_after_item, run_node, flow_step}

-- the state that a step goes on to
abbrev next_node : Step FlowState → ℕ → ℕ
next_node (Goes out next) other = next.node
next_node (Stops out end) other = other

-- the node after an item, by the fault that it has
item_leads : (lengths : List ℕ) (item : Item) (to : ℕ) (s : State) (fault : Option MachineFault) (out : List ℤ) (next : FlowState)
    → step_after_item (commit_of lengths s (item ∷ []) to fault) ≡ Goes out next → next.node ≡ to
item_leads lengths item to s (Some fault) out next e = absurd (cc)
item_leads lengths item to s None out next e = sym (ap (λ (x : Step FlowState). next_node x 0) e)

-- the side that a test takes
test_leads : (b : Bool) (on_yes on_no : ℕ) (s : State) (out : List ℤ) (next : FlowState)
    → Goes [] (record { node = if b then on_yes else on_no; state = s }) ≡ Goes out next → next.node ≡ (if b then on_yes else on_no)
test_leads b on_yes on_no s out next e = sym (ap (λ (x : Step FlowState). next_node x 0) e)

-- what holds of both sides holds of the one that is taken
one_of : (P : ℕ → Type 0) (b : Bool) (on_yes on_no : ℕ) → P on_yes → P on_no → P (if b then on_yes else on_no)
one_of P true on_yes on_no h k = h
one_of P false on_yes on_no h k = k

-- where a unit leads to, and how its rank stands to that of the node
abbrev pub LeadsOn : FlowGraph → ℕ → FlowNode → ℕ → Type 0
LeadsOn flow from node to =
    IsTarget flow to × ((tested_loop node ≡ None) → slice_index flow.ranks to < slice_index flow.ranks from)

descends_on : (flow : FlowGraph) (from : ℕ) (node : FlowNode) (to : ℕ) → Descends flow from to → LeadsOn flow from node to
descends_on flow from node to h = (h.target, λ e. h.lower)

-- one unit of a node that fits
pub unit_leads : (flow : FlowGraph) (from : ℕ) (node : FlowNode) (s : State) (out : List ℤ) (next : FlowState)
    → NodeFits flow from node → run_node flow.arrays s (Some node) ≡ Goes out next → LeadsOn flow from node next.node
unit_leads flow from (Op item to) s out next fits e =
    subst (LeadsOn flow from (Op item to)) (sym (item_leads flow.arrays item to s (fault_of flow.arrays s (item ∷ [])) out next e))
    (descends_on flow from (Op item to) to fits.1)
unit_leads flow from (Test on on_yes on_no None) s out next fits e =
    subst (LeadsOn flow from (Test on on_yes on_no None)) (sym (test_leads (holds (operand_value s.names on)) on_yes on_no s out next e))
    (one_of (LeadsOn flow from (Test on on_yes on_no None)) (holds (operand_value s.names on)) on_yes on_no
    (descends_on flow from (Test on on_yes on_no None) on_yes fits.1.0) (descends_on flow from (Test on on_yes on_no None) on_no fits.1.1))
unit_leads flow from (Test on on_yes on_no (Some turn)) s out next fits e =
    subst (LeadsOn flow from (Test on on_yes on_no (Some turn))) (sym (test_leads (holds (operand_value s.names on)) on_yes on_no s out next e))
    (one_of (LeadsOn flow from (Test on on_yes on_no (Some turn))) (holds (operand_value s.names on)) on_yes on_no
    (fits.1.0, λ none. absurd (cc)) (fits.1.1, λ none. absurd (cc)))
unit_leads flow from Stop s out next fits e = absurd (cc)
unit_leads flow from (Trap kind line) s out next fits e = absurd (cc)

-- the same of one unit of a graph
pub step_leads : (flow : FlowGraph) (here next : FlowState) (out : List ℤ) (node : FlowNode)
    → IsFlow flow → slice_get flow.nodes here.node ≡ Some node → flow_step flow here ≡ Goes out next → LeadsOn flow here.node node next.node
step_leads flow here next out node is there e =
    unit_leads flow here.node node here.state out next (is.nodes_fit here.node node there)
    (ap (run_node flow.arrays here.state) (sym there) ∙ e)
