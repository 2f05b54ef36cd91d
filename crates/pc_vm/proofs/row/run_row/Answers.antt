use Rattle.std.proofs.Common.{◌≡◌, ◌∙◌, List, length, None, ap, sym}
use Rattle.std.specs.Prelude.{ℤ}
use Rattle.pc_machine.specs.MachineCode.{row_of}
use Rattle.pc_word.specs.Row.{path_of}
use Rattle.pc_vm.specs.Contents.{names_of, state_of}
use Rattle.pc_vm.specs.models.Made.{lengths_of}
use Rattle.pc_vm.specs.models.Planned.{planned_fault}
use Rattle.pc_vm.proofs.Results.{plan-is, row-faults, row-commits, plan-registers, plan-inside}
use Rattle.pc_vm.proofs.Rows.{path_runnable}
use Rattle.pc_vm.proofs.Plans.{length-written, lengths-stored}
use Rattle.pc_vm.proofs.row.run_row.Goals as goal

pub returns-in-Some-clause-step : goal.returns-in-Some-clause-step
returns-in-Some-clause-step c =
    let held = c.args.values.now in
    let row = row_of c.args.tree.now in
    let is = plan-is row held c.args.pending.now c.plan-leaf.new.pending c.plan-leaf.ensures.planned c.requires.empty in
    row-faults row held c.plan-leaf.new.pending c.some_left.result c.in-Some.fault is c.some_left.ensures c.in-Some.ensures

pub commit-printed-requires-clause-writes : goal.commit-printed-requires-clause-writes
commit-printed-requires-clause-writes c =
    let held = c.args.values.now in
    let row = row_of c.args.tree.now in
    let is = plan-is row held c.args.pending.now c.plan-leaf.new.pending c.plan-leaf.ensures.planned c.requires.empty in
    plan-registers (lengths_of held.cells) (state_of held) (length held.cells) (path_of (names_of held.registers) row) c.plan-leaf.new.pending is
    (path_runnable (length held.cells) (names_of held.registers) row c.requires.row)

pub commit-printed-requires-clause-stores : goal.commit-printed-requires-clause-stores
commit-printed-requires-clause-stores c =
    let held = c.args.values.now in
    let row = row_of c.args.tree.now in
    let is = plan-is row held c.args.pending.now c.plan-leaf.new.pending c.plan-leaf.ensures.planned c.requires.empty in
    plan-inside (lengths_of held.cells) (state_of held) (path_of (names_of held.registers) row) c.plan-leaf.new.pending is

pub returns-clause-step : goal.returns-clause-step
returns-clause-step c =
    let held = c.args.values.now in
    let row = row_of c.args.tree.now in
    let is = plan-is row held c.args.pending.now c.plan-leaf.new.pending c.plan-leaf.ensures.planned c.requires.empty in
    let none : None ≡ planned_fault c.plan-leaf.new.pending c.some_left.result = sym c.in_default.is ∙ c.fault.ensures in
    row-commits row held c.commit-printed.new.values c.plan-leaf.new.pending c.some_left.result c.commit-printed.result _ c.requires.registers
    (path_runnable (length held.cells) (names_of held.registers) row c.requires.row) c.requires.one_effect is c.some_left.ensures none c.plan-leaf.ensures.leaf
    c.commit-printed.ensures.printed c.commit-printed.ensures.registers c.commit-printed.ensures.cells c.commit-printed.ensures.input

pub returns-clause-registers : goal.returns-clause-registers
returns-clause-registers c =
    ap (λ (rs : List ℤ). length rs) c.commit-printed.ensures.registers ∙ length-written c.plan-leaf.new.pending.writes c.args.values.now.registers ∙ c.requires.registers

pub returns-clause-lengths : goal.returns-clause-lengths
returns-clause-lengths c =
    ap (λ (cs : List (List ℤ)). lengths_of cs) c.commit-printed.ensures.cells ∙ lengths-stored c.plan-leaf.new.pending.stores c.args.values.now.cells
