use Rattle.std.proofs.Common.{rules, ◌≡◌}
use Rattle.pc_window.specs.StoredWindow.{forms_in}
use Rattle.pc_window.proofs.Touching.{stores_before}
use Rattle.pc_window.proofs.names.NameTable.may_touch_behind.Goals as goal

pub returns-then-first : goal.returns-then-first
returns-then-first c =
    let same : c.args.first.array ≡ c.args.second.array = search rules in
    stores_before (forms_in c.args.self.now.forms) c.args.first c.args.second c.never_equal.result same c.never_equal.ensures c.if-first.true
