use Rattle.std.proofs.Common.{◌≡◌, ◌∙◌, ℕ, List, length, refl, ap, sym, subst}
use Rattle.std.proofs.lemmas.List.{length-map}
use Rattle.pc_machine.specs.MachineCode.{row_of, code_of}
use Rattle.pc_vm.specs.declared.exit.Exit.{Exit}
use Rattle.pc_vm.specs.Exits.{IsExit}
use Rattle.pc_vm.specs.models.RowResult.{IsRunnable}
use Rattle.pc_vm.specs.Standing.{Standing, here_of}
use Rattle.pc_vm.proofs.Exits.{code-few_leaves, is_exit}
use Rattle.pc_vm.proofs.Rows.{row-at, code-runnable}
use Rattle.pc_vm.proofs.machine.Machine.exit.Goals as goal

pub exit_number-requires-clause-row : goal.exit_number-requires-clause-row
exit_number-requires-clause-row c =
    let code = c.self.inside.code in
    let cells = c.self.inside.values.cells in
    let tree = c.index-as_slice-self.result in
    let as_many : length code.arrays ≡ length cells = sym (ap (λ (ls : List ℕ). length ls) c.self.invariant.lengths) ∙ length-map cells length in
    subst (λ (n : ℕ). IsRunnable n (row_of tree)) as_many
    (code-runnable (code_of code) c.self.inside.row (row_of tree) c.self.invariant.well
    (row-at code.rows c.as_slice.result.now c.self.inside.row tree c.as_slice.ensures c.self.invariant.row c.index-as_slice-self.is))

pub exit_number-requires-clause-few : goal.exit_number-requires-clause-few
exit_number-requires-clause-few c =
    let code = c.self.inside.code in
    let tree = c.index-as_slice-self.result in
    code-few_leaves (code_of code) c.self.inside.row (row_of tree) c.self.invariant.well
    (row-at code.rows c.as_slice.result.now c.self.inside.row tree c.as_slice.ensures c.self.invariant.row c.index-as_slice-self.is)

pub returns : goal.returns
returns c =
    let inside = c.self.inside in
    let tree = c.index-as_slice-self.result in
    let standing : Standing = record { code = inside.code; row = inside.row; held = inside.values; over = inside.over } in
    let exit : Exit = record { row = inside.row; leaf = c.exit_number.result } in
    subst (λ (s : Standing). IsExit (code_of s.code) (here_of s) exit) c.self.view_is
    (is_exit standing (row_of tree) exit
    (row-at inside.code.rows c.as_slice.result.now inside.row tree c.as_slice.ensures c.self.invariant.row c.index-as_slice-self.is)
    refl c.exit_number.ensures.number)
