use Rattle.std.proofs.Common.{sym, ◌∙◌}
use Rattle.pc_window.specs.StoredWindow.{forms_in}
use Rattle.pc_window.proofs.Touching.{exchanged}
use Rattle.pc_window.proofs.names.NameTable.no_dependence.Goals as goal

pub returns-in-Some-of_item : goal.returns-in-Some-of_item
returns-in-Some-of_item c =
    exchanged (forms_in c.args.self.now.forms) c.args.first c.args.second c.in-Some.one c.in-Some-of_item.other c.are_independent.result
    (sym c.of_item.ensures ∙ c.in-Some.is) (sym c.of_item-in-Some.ensures ∙ c.in-Some-of_item.is) c.are_independent.ensures
