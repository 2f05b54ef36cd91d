use Rattle.std.proofs.Common.{rules, ℕ, ◌≡◌, ◌∙◌, sym, ap, subst, arith}
use Rattle.std.proofs.lemmas.Result.{IfOk-weaker}
use Rattle.pc_table.specs.StoredTable.{table_of}
use Rattle.pc_window.specs.Tree.{Tree, Pending, Undecided, Exit, tree_size}
use Rattle.pc_window.specs.StoredWindow.{tree_in}
use Rattle.pc_unwind.specs.models.Remaining.{walk_steps}
use Rattle.pc_window.specs.declared.tree.WindowTree.TheVariants as stored
use Rattle.pc_unwind.specs.models.Walking.{MayReplaceStub, ReplacesStub, Walks}
use Rattle.pc_unwind.specs.models.Named.{StubsAreThere}
use Rattle.pc_window.specs.There.{StubIsThere}
use Rattle.pc_unwind.proofs.WalkSteps.{part_falls, other_fits, replaced_there, replaced_room, replaced_falls}
use Rattle.pc_unwind.proofs.Walks.{walks_item, walks_yes, walks_both, walks_on}
use Rattle.pc_unwind.proofs.walking.+walk.Goals as goal

pub walk-requires : goal.walk-requires
walk-requires t c =
    let steps = ap (walk_steps (table_of c.args.table.now)) c.in-Step.is in (
      part_falls c.args.table.now c.args.growth.now.size c.args.growth.now.size t c.args.tree.now c.deref_mut.result.now c.in-Step.rest.value
          c.decreases (omega arith) c.deref_mut.ensures.value (omega arith),
      search rules,
    )

pub walk-requires-in-Test : goal.walk-requires-in-Test
walk-requires-in-Test t c =
    let steps = ap (walk_steps (table_of c.args.table.now)) c.in-Test.is in (
      part_falls c.args.table.now c.args.growth.now.size c.args.growth.now.size t c.args.tree.now c.deref_mut-in-Test.result.now c.in-Test.yes.value
          c.decreases (omega arith) c.deref_mut-in-Test.ensures.value (omega arith),
      search rules,
    )

pub walk-requires-in-Test-2 : goal.walk-requires-in-Test-2
walk-requires-in-Test-2 t c =
    let steps = ap (walk_steps (table_of c.args.table.now)) c.in-Test.is in
    let more = c.in_ok-full-in-Test.ensures.more in
    let size = ap tree_size (ap tree_in c.in-Test.is) in
    let one = ap tree_size (ap tree_in c.deref_mut-in-Test.ensures.value) in
    let two = ap tree_size (ap tree_in c.deref_mut-in-Test-2.ensures.value) in
    let part = c.requires.part in
    let fits =
    other_fits c.args.table.now c.args.inside c.args.tag (tree_in c.deref_mut-in-Test.result.now) (tree_in c.walk-in-Test.new.tree)
    (tree_in c.deref_mut-in-Test-2.result.now) c.args.growth.now c.walk-in-Test.new.growth c.in_ok-full-in-Test.full c.in_ok-full-in-Test.ensures.walks (omega arith) in (
      part_falls c.args.table.now c.args.growth.now.size c.walk-in-Test.new.growth.size t c.args.tree.now c.deref_mut-in-Test-2.result.now c.in-Test.no.value
          c.decreases more c.deref_mut-in-Test-2.ensures.value (omega arith),
      (c.requires.tag, (search rules, (search rules, (c.in_ok-full-in-Test.ensures.room, fits)))),
    )

pub returns-in-Step-clause-walks : goal.returns-in-Step-clause-walks
returns-in-Step-clause-walks t c =
    let part = sym (ap tree_in c.deref_mut.ensures.value) in
    let whole = sym (ap tree_in c.in-Step.is ∙ ap (λ (tree : Tree). Pending c.in-Step.tag c.in-Step.origin c.in-Step.item tree) part) in
    IfOk-weaker c.walk.result _ _
    (λ full walks.
    walks_item (table_of c.args.table.now) c.args.inside c.args.tag c.in-Step.tag c.in-Step.origin c.in-Step.item _ _ _ c.args.growth.now c.walk.new.growth full whole walks)
    c.walk.ensures.walks

pub returns-then-full-clause-walks : goal.returns-then-full-clause-walks
returns-then-full-clause-walks t c =
    let part = sym (ap tree_in c.deref_mut-in-Test.ensures.value) in
    let whole = sym (ap tree_in c.in-Test.is ∙ ap (λ (tree : Tree). Undecided c.in-Test.tag c.in-Test.origin c.in-Test.on tree (tree_in c.in-Test.no.value)) part) in
    walks_yes (table_of c.args.table.now) c.args.inside c.args.tag c.in-Test.tag c.in-Test.origin c.in-Test.on _ _ _ _ c.args.growth.now c.walk-in-Test.new.growth whole
    (subst (Walks (table_of c.args.table.now) c.args.inside c.args.tag (tree_in c.deref_mut-in-Test.result.now) c.args.growth.now (tree_in c.walk-in-Test.new.tree) c.walk-in-Test.new.growth)
    c.if-full.true c.in_ok-full-in-Test.ensures.walks)

pub returns-else-full-clause-walks : goal.returns-else-full-clause-walks
returns-else-full-clause-walks t c =
    let part = sym (ap tree_in c.deref_mut-in-Test.ensures.value) in
    let other = sym (ap tree_in c.deref_mut-in-Test-2.ensures.value) in
    let whole = sym (ap tree_in c.in-Test.is ∙ (λ i. Undecided c.in-Test.tag c.in-Test.origin c.in-Test.on (part i) (other i))) in
    let first =
    subst (Walks (table_of c.args.table.now) c.args.inside c.args.tag (tree_in c.deref_mut-in-Test.result.now) c.args.growth.now (tree_in c.walk-in-Test.new.tree) c.walk-in-Test.new.growth)
    c.if-full.false c.in_ok-full-in-Test.ensures.walks in
    IfOk-weaker c.walk-in-Test-2.result _ _
    (λ full walks.
    walks_both (table_of c.args.table.now) c.args.inside c.args.tag c.in-Test.tag c.in-Test.origin c.in-Test.on _ _ _ _ _ c.args.growth.now c.walk-in-Test.new.growth
    c.walk-in-Test-2.new.growth full whole first walks)
    c.walk-in-Test-2.ensures.walks

pub walk-requires-in-Exit : goal.walk-requires-in-Exit
walk-requires-in-Exit t c =
    let table = table_of c.args.table.now in
    let homes = c.in-Exit.homes in
    let whole : Exit c.in-Exit.region c.args.tag homes ≡ tree_in c.args.tree.now =
    ap (λ (tag : ℕ). Exit c.in-Exit.region tag homes) (sym c.if-at-tag.false) ∙ sym (ap tree_in c.in-Exit.is) in
    let done : ReplacesStub table c.args.inside c.args.at_root c.args.tag c.in-Exit.region homes c.args.growth.now c.replace_stub.new.tree c.replace_stub.new.growth =
    subst (λ (tag : ℕ). ReplacesStub table c.args.inside c.args.at_root tag c.in-Exit.region homes c.args.growth.now c.replace_stub.new.tree c.replace_stub.new.growth) c.if-at-tag.false
    (subst (MayReplaceStub table c.args.inside c.args.at_root (stored.Exit c.in-Exit.region c.in-Exit.at homes) c.args.growth.now c.replace_stub.new.tree c.replace_stub.new.growth)
    c.if-not-replaced.false c.in_ok-replaced-in-Exit.ensures) in
    let stub : StubIsThere table c.in-Exit.region homes = subst (StubsAreThere table) (sym whole) c.requires.stubs in
    let steps = ap (walk_steps table) c.in-Exit.is in
    let size = ap tree_size done.same in
    let grown = done.replaces.size in (
      replaced_falls c.args.table.now c.args.inside c.args.tag c.in-Exit.region homes stub c.args.growth.now c.replace_stub.new.growth done.tree done.replaces
          t c.args.tree.now c.replace_stub.new.tree c.decreases (omega arith) done.same,
      (
        c.requires.tag,
        (
          done.nodes,
          (
            subst (StubsAreThere table) (sym done.same)
                (replaced_there c.args.table.now c.args.inside c.args.tag c.in-Exit.region homes stub c.args.growth.now c.replace_stub.new.growth
                done.tree done.replaces),
            (
              replaced_room c.args.table.now c.args.inside c.args.tag c.in-Exit.region homes stub c.args.growth.now c.replace_stub.new.growth
                  done.tree done.replaces c.requires.room,
              omega arith,
            ),
          ),
        ),
      ),
    )

pub returns-else-not-replaced-clause-walks : goal.returns-else-not-replaced-clause-walks
returns-else-not-replaced-clause-walks t c =
    let table = table_of c.args.table.now in
    let homes = c.in-Exit.homes in
    let whole : Exit c.in-Exit.region c.args.tag homes ≡ tree_in c.args.tree.now =
    ap (λ (tag : ℕ). Exit c.in-Exit.region tag homes) (sym c.if-at-tag.false) ∙ sym (ap tree_in c.in-Exit.is) in
    let done : ReplacesStub table c.args.inside c.args.at_root c.args.tag c.in-Exit.region homes c.args.growth.now c.replace_stub.new.tree c.replace_stub.new.growth =
    subst (λ (tag : ℕ). ReplacesStub table c.args.inside c.args.at_root tag c.in-Exit.region homes c.args.growth.now c.replace_stub.new.tree c.replace_stub.new.growth) c.if-at-tag.false
    (subst (MayReplaceStub table c.args.inside c.args.at_root (stored.Exit c.in-Exit.region c.in-Exit.at homes) c.args.growth.now c.replace_stub.new.tree c.replace_stub.new.growth)
    c.if-not-replaced.false c.in_ok-replaced-in-Exit.ensures) in
    IfOk-weaker c.walk-in-Exit.result _ _
    (λ full walks.
    walks_on table c.args.inside c.args.tag c.in-Exit.region homes c.args.growth.now c.replace_stub.new.growth c.walk-in-Exit.new.growth done.tree (tree_in c.args.tree.now)
    (tree_in c.replace_stub.new.tree) (tree_in c.walk-in-Exit.new.tree) full whole (sym c.if-not-is_inside.ensures) done.replaces done.same walks)
    c.walk-in-Exit.ensures.walks
