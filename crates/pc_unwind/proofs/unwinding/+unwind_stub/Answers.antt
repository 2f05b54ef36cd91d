use Rattle.std.proofs.Common.{◌≡◌, sym, ap, subst, arith}
use Rattle.std.specs.Prelude.{◌<◌, true, None}
use Rattle.std.proofs.lemmas.Result.{IfOk-weaker}
use Rattle.pc_table.specs.StoredTable.{table_of}
use Rattle.pc_window.specs.Tree.{Tree, Exit, tree_size}
use Rattle.pc_window.specs.Opening.{Grafted}
use Rattle.pc_window.specs.Unwinding.{least_inside, Unwinds}
use Rattle.pc_window.specs.StoredWindow.{tree_in}
use Rattle.pc_unwind.specs.models.Named.{StubsAreThere}
use Rattle.pc_window.specs.There.{StubIsThere}
use Rattle.pc_unwind.specs.models.Remaining.{stub_steps}
use Rattle.pc_unwind.specs.models.Walking.{most_root_tag, with_growth, MayReplace, ReplacesStub, MayReplaceStub, RootStaysAtMost}
use Rattle.pc_window.specs.declared.tree.WindowTree.TheVariants as stored
use Rattle.pc_unwind.proofs.WalkSteps.{replaced_there, replaced_room, replaced_steps, replaced_root}
use Rattle.pc_unwind.proofs.TagWalks.{unwinds_out, unwinds_large, unwinds_stub, unwinds_none}
use Rattle.pc_unwind.proofs.unwinding.+unwind_stub.Goals as goal

pub returns-then-not-is_inside-clause-unwinds : goal.returns-then-not-is_inside-clause-unwinds
returns-then-not-is_inside-clause-unwinds t c =
    let stub = Exit c.in-Exit.region c.in-Exit.tag c.in-Exit.homes in
    let here : stub ≡ tree_in c.args.tree.now = sym (ap tree_in c.in-Exit.is) in
    subst (λ (tree : Tree). Unwinds (table_of c.args.table.now) c.args.inside c.args.number (with_growth tree c.args.growth.now) (with_growth stub c.args.growth.now)) here
    (unwinds_out (table_of c.args.table.now) c.args.inside c.args.number c.in-Exit.region c.in-Exit.tag c.in-Exit.homes _ (sym c.if-not-is_inside.ensures))

pub returns-in-Stop-clause-unwinds : goal.returns-in-Stop-clause-unwinds
returns-in-Stop-clause-unwinds t c =
    unwinds_none (table_of c.args.table.now) c.args.inside c.args.number (tree_in c.args.tree.now) _
    (ap (λ (tree : Tree). least_inside (table_of c.args.table.now) c.args.inside tree) (ap tree_in c.in-Stop.is))

pub returns-in-Trap-clause-unwinds : goal.returns-in-Trap-clause-unwinds
returns-in-Trap-clause-unwinds t c =
    unwinds_none (table_of c.args.table.now) c.args.inside c.args.number (tree_in c.args.tree.now) _
    (ap (λ (tree : Tree). least_inside (table_of c.args.table.now) c.args.inside tree) (ap tree_in c.in-Trap.is))

pub unwind_stub-requires : goal.unwind_stub-requires
unwind_stub-requires t c =
    let table = table_of c.args.table.now in
    let homes = c.in-Exit.homes in
    let whole : Exit c.in-Exit.region c.in-Exit.tag homes ≡ tree_in c.args.tree.now = sym (ap tree_in c.in-Exit.is) in
    let done : ReplacesStub table c.args.inside true c.in-Exit.tag c.in-Exit.region homes c.args.growth.now c.replace_stub.new.tree c.replace_stub.new.growth =
    subst (MayReplaceStub table c.args.inside true (stored.Exit c.in-Exit.region c.in-Exit.tag homes) c.args.growth.now c.replace_stub.new.tree c.replace_stub.new.growth)
    c.if-not-replaced.false c.in_ok-replaced-in-Exit.ensures in
    let none = ap tree_size whole in
    let size = c.requires.size in
    let stub : StubIsThere table c.in-Exit.region homes = subst (StubsAreThere table) (sym whole) c.requires.stubs in
    let root : RootStaysAtMost table most_root_tag (Exit c.in-Exit.region c.in-Exit.tag homes) = subst (RootStaysAtMost table most_root_tag) (sym whole) c.requires.root in
    let steps = ap (stub_steps table) whole in
    let fewer = replaced_steps c.args.table.now c.args.inside c.in-Exit.tag c.in-Exit.region homes stub c.args.growth.now c.replace_stub.new.growth
    done.tree done.replaces in
    let left = ap (stub_steps table) done.same in
    let more = ap tree_size done.same in
    let grown = done.replaces.size in
    let measure : stub_steps table (tree_in c.args.tree.now) ≡ t = c.decreases in
    let falls : stub_steps table (tree_in c.replace_stub.new.tree) < t = omega arith in (
      falls,
      (
        c.requires.several,
        (
          c.requires.number,
          (
            done.nodes,
            (
              subst (StubsAreThere table) (sym done.same)
                  (replaced_there c.args.table.now c.args.inside c.in-Exit.tag c.in-Exit.region homes stub c.args.growth.now c.replace_stub.new.growth
                  done.tree done.replaces),
              (
                replaced_room c.args.table.now c.args.inside c.in-Exit.tag c.in-Exit.region homes stub c.args.growth.now c.replace_stub.new.growth
                    done.tree done.replaces c.requires.room,
                (
                  omega arith,
                  subst (RootStaysAtMost table most_root_tag) (sym done.same)
                      (replaced_root c.args.table.now c.args.inside c.in-Exit.tag c.in-Exit.region homes stub c.args.growth.now
                      c.replace_stub.new.growth done.tree done.replaces most_root_tag root),
                ),
              ),
            ),
          ),
        ),
      ),
    )

pub returns-else-not-replaced-clause-unwinds : goal.returns-else-not-replaced-clause-unwinds
returns-else-not-replaced-clause-unwinds t c =
    let table = table_of c.args.table.now in
    let homes = c.in-Exit.homes in
    let whole : Exit c.in-Exit.region c.in-Exit.tag homes ≡ tree_in c.args.tree.now = sym (ap tree_in c.in-Exit.is) in
    let done : ReplacesStub table c.args.inside true c.in-Exit.tag c.in-Exit.region homes c.args.growth.now c.replace_stub.new.tree c.replace_stub.new.growth =
    subst (MayReplaceStub table c.args.inside true (stored.Exit c.in-Exit.region c.in-Exit.tag homes) c.args.growth.now c.replace_stub.new.tree c.replace_stub.new.growth)
    c.if-not-replaced.false c.in_ok-replaced-in-Exit.ensures in
    let none = ap tree_size whole in
    let size = c.requires.size in
    let later : Grafted = with_growth (tree_in c.unwind_stub.new.tree) c.unwind_stub.new.growth in
    IfOk-weaker c.unwind_stub.result _ _
    (λ done_all u.
    subst (λ (tree : Tree). Unwinds table c.args.inside c.args.number (with_growth tree c.args.growth.now) later) whole
    (unwinds_stub table c.args.inside c.args.number c.requires.several c.in-Exit.region c.in-Exit.tag homes c.args.growth.now c.replace_stub.new.growth done.tree
    (sym c.if-not-is_inside.ensures) done.replaces (omega arith) later
    (subst (λ (tree : Tree). Unwinds table c.args.inside c.args.number (with_growth tree c.replace_stub.new.growth) later) done.same u)))
    c.unwind_stub.ensures.unwinds

pub returns-then-not-replaced-clause-unwinds : goal.returns-then-not-replaced-clause-unwinds
returns-then-not-replaced-clause-unwinds t c =
    let table = table_of c.args.table.now in
    let homes = c.in-Exit.homes in
    let whole : Exit c.in-Exit.region c.in-Exit.tag homes ≡ tree_in c.args.tree.now = sym (ap tree_in c.in-Exit.is) in
    let refused : MayReplace table c.args.inside c.in-Exit.tag c.in-Exit.region homes c.args.growth.now c.replace_stub.new.growth None
    × (c.replace_stub.new.tree ≡ stored.Exit c.in-Exit.region c.in-Exit.tag homes) =
    subst (MayReplaceStub table c.args.inside true (stored.Exit c.in-Exit.region c.in-Exit.tag homes) c.args.growth.now c.replace_stub.new.tree c.replace_stub.new.growth)
    c.if-not-replaced.true c.in_ok-replaced-in-Exit.ensures in
    let none = ap tree_size whole in
    let size = c.requires.size in
    subst (λ (tree : Tree). Unwinds table c.args.inside c.args.number (with_growth tree c.args.growth.now) (with_growth (tree_in c.replace_stub.new.tree) c.replace_stub.new.growth)) whole
    (subst (λ (tree : Tree). Unwinds table c.args.inside c.args.number (with_growth (Exit c.in-Exit.region c.in-Exit.tag homes) c.args.growth.now)
    (with_growth tree c.replace_stub.new.growth)) (sym (ap tree_in refused.1))
    (unwinds_large table c.args.inside c.args.number c.in-Exit.region c.in-Exit.tag homes c.args.growth.now c.replace_stub.new.growth (sym c.if-not-is_inside.ensures) refused.0 (omega arith)))
