use Rattle.std.proofs.Common.{ℕ, ◌+◌, sym, ap, subst}
use Rattle.pc_table.specs.StoredTable.{table_of}
use Rattle.pc_compile.specs.models.Giving.{IsGiven}
use Rattle.pc_compile.proofs.FormsGiven.{given_packed, given_plain}
use Rattle.pc_compile.proofs.giving.packed_or_plain.Goals as goal

pub returns-in-Fits : goal.returns-in-Fits
returns-in-Fits c extent passed =
    subst (IsGiven (table_of c.args.table.now) c.args.limits extent c.args.region c.args.others) (sym c.given_as_automaton.ensures)
    (given_packed (table_of c.args.table.now) c.args.limits extent c.args.region c.args.others c.args.causes passed c.in_ok-automaton.field-0
    c.in_ok-automaton.ensures c.in-Fits.automaton c.in-Fits.registers c.in-Fits.bytes c.in-Fits.is)

pub returns-in_ok-tell-in-Refused : goal.returns-in_ok-tell-in-Refused
returns-in_ok-tell-in-Refused c extent passed =
    given_plain (table_of c.args.table.now) c.args.limits extent c.args.region c.args.others c.args.causes passed c.in_ok-automaton.field-0
    c.in_ok-automaton.ensures c.tell.new.causes c.in-Refused.cause (c.args.others + c.args.plain) c.in_ok-tell-in-Refused.ensures c.in-Refused.is
    (ap (λ (n : ℕ). c.args.others + n) c.requires.counted) c.requires.short
