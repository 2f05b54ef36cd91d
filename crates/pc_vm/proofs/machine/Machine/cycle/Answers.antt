use Rattle.std.proofs.Common.{◌≡◌, ◌∙◌, ℕ, List, length, false, ap, sym, subst}
use Rattle.std.proofs.lemmas.List.{length-map}
use Rattle.pc_machine.specs.MachineCode.{row_of, code_of}
use Rattle.pc_machine.specs.MachineRun.{machine_step}
use Rattle.pc_vm.specs.Contents.{names_of, state_of}
use Rattle.pc_vm.specs.models.Made.{lengths_of}
use Rattle.pc_vm.specs.models.RowResult.{IsRunnable}
use Rattle.pc_vm.specs.Standing.{Standing, here_of, IsStep}
use Rattle.pc_vm.proofs.Rows.{row-at, code-runnable, code-short, code-one_effect}
use Rattle.pc_vm.proofs.Steps.{step-faults, step-done, leads-within}
use Rattle.pc_vm.proofs.machine.Machine.cycle.Goals as goal

pub run_row-requires-clause-row : goal.run_row-requires-clause-row
run_row-requires-clause-row c =
    let code = c.self.inside.code in
    let cells = c.self.inside.values.cells in
    let tree = c.index-as_slice-self.result in
    let as_many : length code.arrays ≡ length cells = sym (ap (λ (ls : List ℕ). length ls) c.self.invariant.lengths) ∙ length-map cells length in
    subst (λ (n : ℕ). IsRunnable n (row_of tree)) as_many
    (code-runnable (code_of code) c.self.inside.row (row_of tree) c.self.invariant.well
    (row-at code.rows c.as_slice.result.now c.self.inside.row tree c.as_slice.ensures c.self.invariant.row c.index-as_slice-self.is))

pub run_row-requires-clause-short : goal.run_row-requires-clause-short
run_row-requires-clause-short c =
    let code = c.self.inside.code in
    let tree = c.index-as_slice-self.result in
    code-short (code_of code) c.self.inside.row (row_of tree) c.self.invariant.well
    (row-at code.rows c.as_slice.result.now c.self.inside.row tree c.as_slice.ensures c.self.invariant.row c.index-as_slice-self.is)

pub run_row-requires-clause-one_effect : goal.run_row-requires-clause-one_effect
run_row-requires-clause-one_effect c =
    let code = c.self.inside.code in
    let tree = c.index-as_slice-self.result in
    code-one_effect (code_of code) c.self.inside.row (row_of tree) (names_of c.self.inside.values.registers) c.self.invariant.well
    (row-at code.rows c.as_slice.result.now c.self.inside.row tree c.as_slice.ensures c.self.invariant.row c.index-as_slice-self.is)

pub follow-requires : goal.follow-requires
follow-requires c =
    let code = c.self.inside.code in
    let held = c.self.inside.values in
    let tree = c.index-as_slice-self.result in
    leads-within code c.self.inside.row (row_of tree) (state_of held) c.in-Done.leaf _ (state_of c.run_row.new.values) (lengths_of held.cells) c.self.invariant.well
    (row-at code.rows c.as_slice.result.now c.self.inside.row tree c.as_slice.ensures c.self.invariant.row c.index-as_slice-self.is) c.in-Done.ensures.step

pub returns-in-Faulted-clause-step : goal.returns-in-Faulted-clause-step
returns-in-Faulted-clause-step c =
    let inside = c.self.inside in
    let tree = c.index-as_slice-self.result in
    let standing : Standing = record { code = inside.code; row = inside.row; held = inside.values; over = inside.over } in
    subst (λ (s : Standing). IsStep c.stop.result c.stop.new.self (machine_step (code_of s.code) (here_of s))) c.self.view_is
    (step-faults standing (row_of tree) c.in-Faulted.fault c.stop.result c.stop.new.self
    (row-at inside.code.rows c.as_slice.result.now inside.row tree c.as_slice.ensures c.self.invariant.row c.index-as_slice-self.is)
    c.self.invariant.lengths c.in-Faulted.ensures.step c.stop.ensures.event (ap (λ (s : Standing). s.over) c.stop.ensures.over))

pub returns-in-Done-clause-step : goal.returns-in-Done-clause-step
returns-in-Done-clause-step c =
    let inside = c.self.inside in
    let tree = c.index-as_slice-self.result in
    let standing : Standing = record { code = inside.code; row = inside.row; held = inside.values; over = inside.over } in
    let after : Standing = record { code = inside.code; row = inside.row; held = c.run_row.new.values; over = inside.over } in
    let going : inside.over ≡ false = ap (λ (s : Standing). s.over) c.self.view_is ∙ c.requires in
    subst (λ (s : Standing). IsStep c.follow.result c.follow.new.self (machine_step (code_of s.code) (here_of s))) c.self.view_is
    (step-done standing after (row_of tree) c.in-Done.printed c.in-Done.leaf c.follow.result c.follow.new.self
    (row-at inside.code.rows c.as_slice.result.now inside.row tree c.as_slice.ensures c.self.invariant.row c.index-as_slice-self.is)
    c.self.invariant.lengths c.in-Done.ensures.step going c.follow.ensures.event c.follow.ensures.moved)
