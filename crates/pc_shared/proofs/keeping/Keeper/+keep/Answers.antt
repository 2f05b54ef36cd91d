use Rattle.std.proofs.Common.{ℕ, subst, sym}
use Rattle.pc_window.specs.declared.tree.WindowTree.{WindowTree}
use Rattle.pc_shared.specs.declared.store.Store.{Store}
use Rattle.pc_shared.specs.NodeTree.{nodes_in, count_places}
use Rattle.pc_shared.specs.Unfolding.{Becomes}
use Rattle.pc_shared.proofs.Kept.{kept_step, kept_test, kept_node, kept_exit, kept_stop, kept_trap}
use Rattle.pc_shared.proofs.keeping.Keeper.+keep.Goals as goal

-- a tree was kept
abbrev IsKept : Store → Store → ℕ → WindowTree → Type 0
IsKept old new id tree = Becomes old new (count_places (nodes_in tree)) id (nodes_in tree)

pub returns-in_ok-id-in-Step : goal.returns-in_ok-id-in-Step
returns-in_ok-id-in-Step t c =
    subst (IsKept c.args.self.now.store c.keep_node.new.self.store c.in_ok-id-in-Step.id) (sym c.in-Step.is)
    (kept_step _ _ _ _ _ _ _ _ _ _ (subst (IsKept _ _ _) c.deref.ensures c.in_ok-rest-in-Step.ensures)
    c.in_ok-id-in-Step.ensures.extends c.in_ok-id-in-Step.ensures.kept)

pub returns-in_ok-id-in-Test : goal.returns-in_ok-id-in-Test
returns-in_ok-id-in-Test t c =
    subst (IsKept c.args.self.now.store c.keep_node-in-Test.new.self.store c.in_ok-id-in-Test.id) (sym c.in-Test.is)
    (kept_test _ _ _ _ _ _ _ _ _ _ _ _ _ _ (subst (IsKept _ _ _) c.deref-in-Test.ensures c.in_ok-yes-in-Test.ensures)
    (subst (IsKept _ _ _) c.deref-in-Test-2.ensures c.in_ok-no-in-Test.ensures)
    c.in_ok-id-in-Test.ensures.extends c.in_ok-id-in-Test.ensures.kept)

pub returns-in_ok-id-in-Node : goal.returns-in_ok-id-in-Node
returns-in_ok-id-in-Node t c =
    subst (IsKept c.args.self.now.store c.keep_node-in-Node.new.self.store c.in_ok-id-in-Node.id) (sym c.in-Node.is)
    (kept_node _ _ _ _ _ _ _ (subst (IsKept _ _ _) c.deref-in-Node.ensures c.in_ok-below-in-Node.ensures)
    c.in_ok-id-in-Node.ensures.extends c.in_ok-id-in-Node.ensures.kept)

pub returns-in_ok-id-in-Exit : goal.returns-in_ok-id-in-Exit
returns-in_ok-id-in-Exit t c =
    subst (IsKept c.args.self.now.store c.keep_node-in-Exit.new.self.store c.in_ok-id-in-Exit.id) (sym c.in-Exit.is)
    (kept_exit _ _ _ _ _ _ _ _ c.in_ok-homes-in-Exit.ensures.extends c.in_ok-homes-in-Exit.ensures.kept
    c.in_ok-id-in-Exit.ensures.extends c.in_ok-id-in-Exit.ensures.kept)

pub returns-in_ok-id-in-Stop : goal.returns-in_ok-id-in-Stop
returns-in_ok-id-in-Stop t c =
    subst (IsKept c.args.self.now.store c.keep_node-in-Stop.new.self.store c.in_ok-id-in-Stop.id) (sym c.in-Stop.is)
    (kept_stop _ _ _ c.in_ok-id-in-Stop.ensures.extends c.in_ok-id-in-Stop.ensures.kept)

pub returns-in_ok-id-in-Trap : goal.returns-in_ok-id-in-Trap
returns-in_ok-id-in-Trap t c =
    subst (IsKept c.args.self.now.store c.keep_node-in-Trap.new.self.store c.in_ok-id-in-Trap.id) (sym c.in-Trap.is)
    (kept_trap _ _ _ _ _ c.in_ok-id-in-Trap.ensures.extends c.in_ok-id-in-Trap.ensures.kept)
