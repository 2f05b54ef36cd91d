use Rattle.std.proofs.Common.{ap, ◌∙◌, sym}
use Rattle.pc_check.specs.declared.slot.Slot.TheVariants as slot
use Rattle.pc_check.specs.Names.{Scope, with_scalar}
use Rattle.pc_check.specs.models.View.{names_of}
use Rattle.pc_check.proofs.ScopeLaws.{entries_with_new}
use Rattle.pc_check.proofs.scopes.Scopes.declare_scalar.Goals as goal

-- the name goes last in the innermost scope
pub returns-clause-declared : goal.returns-clause-declared
returns-clause-declared c =
    let before = names_of c.args.self.now in
    let entries = c.in_ok-insert.ensures.entries
    ∙ entries_with_new c.args.self.now.innermost c.args.symbol (slot.Scalar c.args.self.now.scalars)
    (sym c.contains_key.ensures ∙ c.if-contains_key.false) in
    ap (λ (scope : Scope). record (with_scalar before c.args.symbol) { innermost = scope }) entries
