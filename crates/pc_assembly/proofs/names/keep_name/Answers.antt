use Rattle.std.proofs.Common.{◌∙◌, sym, ap, not, is_some}
use Rattle.pc_assembly.proofs.TableLaws.{name_kept}
use Rattle.pc_assembly.proofs.names.keep_name.Goals as goal

-- the name goes last
pub returns-in_ok-insert-clause-names : goal.returns-in_ok-insert-clause-names
returns-in_ok-insert-clause-names c =
    let absent = ap is_some (sym c.row_named.ensures) ∙ c.is_none.ensures ∙ ap not c.if-is_none.true in
    name_kept c.args.names.now c.insert.new.self c.args.name c.args.row absent c.in_ok-insert.ensures.entries
