use Rattle.std.proofs.Common.{arith, ◌||◌, OnOk, sym, ◌∙◌, ap, subst}
use Rattle.pc_window.specs.Rebasing.{is_in}
use Rattle.pc_automaton.specs.declared.automaton.AutomatonLeaf.{AutomatonLeaf}
use Rattle.pc_word.specs.declared.row_tree.RowTree.{RowTree}
use Rattle.pc_assign.specs.Uses.{row_uses}
use Rattle.pc_assign.specs.models.Choosing.{member, used_holds, IsChosen, AreChosen}
use Rattle.pc_assign.proofs.Chosen.{leaf_given, none_given, one_given, sides_given}
use Rattle.pc_assign.proofs.definitions.+define.Goals as goal
use Rattle.pc_word.specs.StoredRow.{row_in}

pub with-requires : goal.with-requires
with-requires t c = omega (arith, c.choose-register.ensures.most, c.requires.fits)

pub returns-in_ok-push-in-Some : goal.returns-in_ok-push-in-Some
returns-in_ok-push-in-Some t c =
    let parameters = c.args.held.now.parameters.now in
    let held = c.args.held.now.registers.now in
    one_given c.args.held.now.scratch parameters held (member c.args.above) (member c.with.result) c.choose-register.result
    c.args.registers.now c.push.new.self c.define.new.registers c.define.result
    (ap (row_in (λ leaf. leaf)) c.in-Step.is) (sym c.dest.ensures ∙ c.in-Some.is)
    (subst (λ (rest : RowTree AutomatonLeaf).
    IsChosen c.args.held.now.scratch (λ other. is_in other held || member c.args.above other)
    (λ other. used_holds (row_uses (row_in (λ leaf. leaf) rest)) parameters held other || member c.args.above other) c.choose-register.result)
    c.deref.ensures c.choose-register.ensures.chosen)
    c.with.ensures c.in_ok-push-in-Some.ensures.ok
    (subst (λ (rest : RowTree AutomatonLeaf).
    OnOk c.define.result (AreChosen c.args.held.now.scratch parameters held (member c.with.result) (row_in (λ leaf. leaf) rest) c.push.new.self c.define.new.registers))
    c.deref-in-Some.ensures c.define.ensures)

pub returns-in-None : goal.returns-in-None
returns-in-None t c =
    let parameters = c.args.held.now.parameters.now in
    let held = c.args.held.now.registers.now in
    none_given c.args.held.now.scratch parameters held (member c.args.above) c.args.registers.now c.define-in-None.new.registers c.define-in-None.result
    (ap (row_in (λ leaf. leaf)) c.in-Step.is) (sym c.dest.ensures ∙ c.in-None.is)
    (subst (λ (rest : RowTree AutomatonLeaf).
    OnOk c.define-in-None.result (AreChosen c.args.held.now.scratch parameters held (member c.args.above)
    (row_in (λ leaf. leaf) rest) c.args.registers.now c.define-in-None.new.registers))
    c.deref-in-None.ensures c.define-in-None.ensures)

pub returns-in_ok-define-in-Test : goal.returns-in_ok-define-in-Test
returns-in_ok-define-in-Test t c =
    let parameters = c.args.held.now.parameters.now in
    let held = c.args.held.now.registers.now in
    sides_given c.args.held.now.scratch parameters held (member c.args.above)
    c.args.registers.now c.define-in-Test.new.registers c.define-in-Test-2.new.registers c.define-in-Test-2.result
    (ap (row_in (λ leaf. leaf)) c.in-Test.is)
    (subst (λ (side : RowTree AutomatonLeaf).
    AreChosen c.args.held.now.scratch parameters held (member c.args.above) (row_in (λ leaf. leaf) side) c.args.registers.now c.define-in-Test.new.registers)
    c.deref-in-Test.ensures c.in_ok-define-in-Test.ensures)
    (subst (λ (side : RowTree AutomatonLeaf).
    OnOk c.define-in-Test-2.result (AreChosen c.args.held.now.scratch parameters held (member c.args.above)
    (row_in (λ leaf. leaf) side) c.define-in-Test.new.registers c.define-in-Test-2.new.registers))
    c.deref-in-Test-2.ensures c.define-in-Test-2.ensures)

pub returns-in-Leaf : goal.returns-in-Leaf
returns-in-Leaf t c =
    leaf_given c.args.held.now.scratch c.args.held.now.parameters.now c.args.held.now.registers.now (member c.args.above) _ _ c.args.registers.now
    (ap (row_in (λ leaf. leaf)) c.in-Leaf.is)
