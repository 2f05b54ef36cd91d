-- Trees that are cut, node by node, and the regions that they name.
use Rattle.std.proofs.Common.{◌≡◌, ◌⊎◌, inl, inr, ℕ, zero, suc, ◌-◌, ◌≤◌, Bool, false, List, [], ◌∷◌, ◌++◌, length, Option, Some, refl, sym, ◌∙◌, ap, subst, arith}
use Rattle.std.specs.Prelude.{slice_get}
use Rattle.pc_word.specs.declared.item.Item.{Item}
use Rattle.pc_word.specs.declared.item.Operand.{Operand}
use Rattle.pc_word.specs.declared.item.TrapKind.{TrapKind}
use Rattle.pc_flow.specs.declared.node.FlowNode.TheVariants.{Op, Test, Stop, Trap}
use Rattle.pc_flow.specs.FlowGraph.{FlowGraph}
use Rattle.pc_live.proofs.Logic.{place_within}
use Rattle.pc_table.specs.Table.{TableTree, Does, Asks, Next, Stops_here, Traps_here}
use Rattle.pc_regions.specs.Cut.{IsTreeOf, An_item, A_test, A_stop, A_trap, Taken, Not_taken, AreMet, None_met, Known, Met}
use Rattle.pc_regions.specs.models.Numbered.{Numbered, Meets, KeepsPlaces}
use Rattle.pc_regions.specs.models.Marks.{mark_at, IsMarked}
use Rattle.pc_regions.specs.models.Cutting.{TreeFor, BehindFor, Names}
use Rattle.pc_regions.proofs.Reaching.{item_leads, test_leads, meets_keeps}
use Rattle.pc_word.proofs.Places.{length_more}

-- ---- numbers that are named

-- names after others
met_both : (known mid after : ℕ) (one other : List ℕ) → AreMet known one mid → AreMet mid other after → AreMet known (one ++ other) after
met_both known mid after _ other None_met h = h
met_both known mid after _ other (Known {region} {names} less rest) h = Known less (met_both known mid after names other rest h)
met_both known mid after _ other (Met {names} rest) h = Met (met_both (suc known) mid after names other rest h)

pub names_both : (one other : List ℕ) (old mid new : Numbered) → Names one old mid → Names other mid new → Names (one ++ other) old new
names_both one other old mid new first second = record {
  as_many_nodes = second.as_many_nodes ∙ first.as_many_nodes;
  keeps = λ place at there. second.keeps place at (first.keeps place at there);
  met = met_both (length old.order) (length mid.order) (length new.order) one other first.met second.met;
}

pub names_none : (it : Numbered) → Names [] it it
names_none it = record { as_many_nodes = refl; keeps = λ place at there. there; met = None_met }

-- the number of a node
pub names_one : (old new : Numbered) (node number : ℕ) → Meets old new node number → Names (number ∷ []) old new
names_one old new node number meets = record {
  as_many_nodes = meets.as_many_nodes;
  keeps = meets_keeps old new node number meets;
  met = elim meets.grown [
    | inl same ↦
        let there = place_within old.order number node (subst (λ (order : List ℕ). slice_get order number ≡ Some node) same meets.there) in
        subst (λ (n : ℕ). AreMet (length old.order) (number ∷ []) n) (ap (λ (l : List ℕ). length l) (sym same)) (Known there None_met)
    | inr more ↦
        let longer : suc (length old.order) ≡ length new.order = sym (ap (λ (l : List ℕ). length l) more.0 ∙ length_more old.order node) in
        subst (λ (n : ℕ). AreMet (length old.order) (n ∷ []) (length new.order)) (sym more.1)
        (subst (λ (n : ℕ). AreMet (length old.order) (length old.order ∷ []) n) longer (Met None_met))
  ];
}

-- ---- the tree of a node, by what it is

module _ (flow : FlowGraph) (marks : List Bool) (order : List ℕ) (room at : ℕ) (some : 1 ≤ room) where
  -- what holds with room for one node more
  with_room : (tree : TableTree) (left : ℕ) (final : List ℕ) → IsTreeOf flow (IsMarked marks) final (suc (room - 1)) at tree left
      → IsTreeOf flow (IsMarked marks) final room at tree left
  with_room tree left final is =
      let same : suc (room - 1) ≡ room = omega (arith, some) in subst (λ (n : ℕ). IsTreeOf flow (IsMarked marks) final n at tree left) same is

  pub item_tree : (item : Item) (next left : ℕ) (rest : TableTree) → slice_get flow.nodes at ≡ Some (Op item next)
      → BehindFor flow marks order (room - 1) next rest left → TreeFor flow marks order room at (Does at item rest) left
  item_tree item next left rest here behind final keeps = with_room (Does at item rest) left final (An_item here (behind final keeps))

  pub stop_tree : slice_get flow.nodes at ≡ Some Stop → TreeFor flow marks order room at Stops_here (room - 1)
  stop_tree here final keeps = with_room Stops_here (room - 1) final (A_stop here)

  pub trap_tree : (kind : TrapKind) (line : ℕ) → slice_get flow.nodes at ≡ Some (Trap kind line) → TreeFor flow marks order room at (Traps_here kind line) (room - 1)
  trap_tree kind line here final keeps = with_room (Traps_here kind line) (room - 1) final (A_trap here)

pub test_tree : (flow : FlowGraph) (marks : List Bool) (mid order : List ℕ) (room at : ℕ) (on : Operand) (yes_side no_side between left : ℕ) (turn : Option ℕ) (on_yes on_no : TableTree)
    → 1 ≤ room → slice_get flow.nodes at ≡ Some (Test on yes_side no_side turn) → BehindFor flow marks mid (room - 1) yes_side on_yes between → KeepsPlaces mid order
    → BehindFor flow marks order between no_side on_no left → TreeFor flow marks order room at (Asks at on on_yes on_no) left
test_tree flow marks mid order room at on yes_side no_side between left turn on_yes on_no some here one later other final keeps =
    with_room flow marks order room at some (Asks at on on_yes on_no) left final
    (A_test here (one final (λ place node there. keeps place node (later place node there))) (other final keeps))

pub ruleset trees = (item_leads, test_leads, item_tree, test_tree, stop_tree, trap_tree, names_both, names_none)

-- ---- what stands after an edge

-- a node that is taken
pub taken_behind : (flow : FlowGraph) (marks : List Bool) (order : List ℕ) (room to left : ℕ) (tree : TableTree) → mark_at marks to ≡ false
    → TreeFor flow marks order room to tree left → BehindFor flow marks order room to tree left
taken_behind flow marks order room to left tree unmarked is final keeps = Taken (λ marked. (cc)) (is final keeps)

-- a node that is not
pub named_behind : (flow : FlowGraph) (marks : List Bool) (order : List ℕ) (room to number : ℕ) → IsMarked marks to ⊎ (room ≡ zero)
    → slice_get order number ≡ Some to → BehindFor flow marks order room to (Next number) room
named_behind flow marks order room to number head there final keeps = Not_taken head (keeps number to there)

pub ruleset edges = (taken_behind, named_behind, names_one)
