use Rattle.std.proofs.Common.{rules, ◌≡◌, Err, ◌∙◌, ap}
use Rattle.pc_machine.specs.MachineCode.{row_of}
use Rattle.pc_machine.proofs.Checks.{item-stops, item-goes_on, yes-stops, yes-goes_on}
use Rattle.pc_machine.proofs.check.Bounds.+row.Goals as goal

pub returns-in_err-counts-in-Step : goal.returns-in_err-counts-in-Step
returns-in_err-counts-in-Step t c =
    let is_err : c.from_residual.result ≡ Err c.in_err-counts-in-Step.field-0.0 = search rules in
    is_err ∙ item-stops _ _ _ _ _ _ _ (ap row_of c.in-Step.is) c.in_err-counts-in-Step.ensures

pub returns-in_ok-counts-in-Step : goal.returns-in_ok-counts-in-Step
returns-in_ok-counts-in-Step t c =
    c.row.ensures ∙ item-goes_on _ _ _ _ _ _ _ _ _ (ap row_of c.in-Step.is) c.in_ok-counts-in-Step.ensures c.below.ensures (ap row_of c.deref.ensures)

pub returns-in_err-counts-in-Test-2 : goal.returns-in_err-counts-in-Test-2
returns-in_err-counts-in-Test-2 t c =
    let is_err : c.from_residual-in_err-counts-in-Test-2.result ≡ Err c.in_err-counts-in-Test-2.field-0.0 = search rules in
    is_err ∙ yes-stops _ _ _ _ _ _ _ _ _ _ (ap row_of c.in-Test.is) c.in_ok-counts-in-Test.ensures (ap row_of c.deref-in-Test.ensures) c.in_err-counts-in-Test-2.ensures

pub returns-in_ok-counts-in-Test-2 : goal.returns-in_ok-counts-in-Test-2
returns-in_ok-counts-in-Test-2 t c =
    c.row-in-Test-2.ensures
    ∙ yes-goes_on _ _ _ _ _ _ _ _ _ _ _ (ap row_of c.in-Test.is) c.in_ok-counts-in-Test.ensures (ap row_of c.deref-in-Test.ensures)
    c.in_ok-counts-in-Test-2.ensures (ap row_of c.deref-in-Test-2.ensures)
