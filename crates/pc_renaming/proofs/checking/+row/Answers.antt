use Rattle.std.proofs.Common.{rules, ap, refl, subst, sym, ℕ, Bool, length}
use Rattle.pc_machine.specs.Registers.{most_registers}
use Rattle.pc_renaming.specs.Writes.{RowWritesBelow}
use Rattle.pc_renaming.proofs.Choices.{marked_goes, marked_stays}
use Rattle.pc_renaming.proofs.Going.{stays_on, goes_on}
use Rattle.pc_machine.specs.MachineCode.{row_of}
use Rattle.pc_renaming.specs.ItemRenames.{OperandRenames}
use Rattle.pc_renaming.specs.Witness.{renaming_of}
use Rattle.pc_renaming.specs.RowRenames.{RowRenames}
use Rattle.pc_renaming.specs.models.Wanted.{MadeIsWritten}
use Rattle.pc_renaming.specs.models.Tables.{homes_in, kept_in, written_in}
use Rattle.pc_renaming.proofs.Checked.{row_both_sides}
use Rattle.pc_renaming.proofs.checking.+row.Goals as goal

pub returns-else-not-row-clause-renames : goal.returns-else-not-row-clause-renames
returns-else-not-row-clause-renames t c =
    let same : OperandRenames c.args.registers (homes_in c.args.homes.now) c.in-Test.on c.in-Test-new.one = search rules in
    let on_yes = c.if-not-row.ensures.renames refl in
    let on_yes_now = rw (c.deref-in-Test-new.ensures, c.deref-in-Test-new-2.ensures) at on_yes in
    λ e.
    let on_no = c.row-in-Test-new-2.ensures.renames e in
    let on_no_now = rw (c.deref-in-Test-new-3.ensures, c.deref-in-Test-new-4.ensures) at on_no in
    row_both_sides c.args.told.now (homes_in c.args.homes.now) (kept_in c.args.path.now) (written_in c.args.path.now) c.args.registers
    c.args.old.now c.args.new.now c.in-Test.yes.value c.in-Test.no.value c.in-Test-new.other_yes.value c.in-Test-new.other_no.value
    c.in-Test.on c.in-Test-new.one (ap row_of c.in-Test.is) (ap row_of c.in-Test-new.is) same on_yes_now on_no_now

pub returns-in-Step-new-clause-exact : goal.returns-in-Step-new-clause-exact
returns-in-Step-new-clause-exact t c registers within marked does =
    let row = subst (λ tree. RowWritesBelow most_registers (row_of tree)) c.in-Step.is within in
    let stays = rw c.in-Some.is at c.beside.ensures.stays in
    let old_is = ap row_of c.in-Step.is in
    let new_is = ap row_of c.in-Step-new.is in
    let both = rw old_is at does in
    c.row.ensures.exact registers (rw c.deref.ensures row.1) (marked_stays stays.stays marked)
    (rw (c.deref.ensures, c.deref-in-Step-new.ensures) (stays_on stays (row_of c.in-Step.next.value) c.in-Step-new.item (row_of c.in-Step-new.rest.value) new_is both))

pub returns-in-Some-gone-clause-exact : goal.returns-in-Some-gone-clause-exact
returns-in-Some-gone-clause-exact t c registers within marked does =
    let row = subst (λ tree. RowWritesBelow most_registers (row_of tree)) c.in-Step.is within in
    let never = rw c.in-None.is at (c.beside.ensures.never registers row.0 marked) in
    let goes = rw c.in-Some-gone.is at c.gone.ensures.goes in
    let same = rw c.in-Some-gone.is at c.gone.ensures.written in
    let old_is = ap row_of c.in-Step.is in
    let both = rw old_is at does in
    let row_marked = subst (λ (w : ℕ → Bool). MadeIsWritten (kept_in c.in-Some-gone.below) w) (sym same) (marked_goes goes.goes marked) in
    c.row-in-Some-gone.ensures.exact registers (rw c.deref-in-Some-gone.ensures row.1) row_marked
    (rw c.deref-in-Some-gone.ensures (subst (λ (w : ℕ → Bool). RowRenames c.args.registers (length c.args.told.now) (renaming_of c.args.told.now) (homes_in c.args.homes.now)
    (kept_in c.in-Some-gone.below) w (row_of c.in-Step.next.value) (row_of c.args.new.now)) (sym same) (goes_on goes never both)))
