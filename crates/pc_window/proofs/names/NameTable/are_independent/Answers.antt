use Rattle.std.proofs.Common.{rules, ◌≡◌}
use Rattle.pc_window.specs.StoredWindow.{forms_in}
use Rattle.pc_window.proofs.Touching.{first_stores, second_stores}
use Rattle.pc_window.proofs.names.NameTable.are_independent.Goals as goal

pub returns-then-first : goal.returns-then-first
returns-then-first c =
    let same : c.args.first.array ≡ c.args.second.array = search rules in
    first_stores (forms_in c.args.self.now.forms) c.args.first c.args.second c.never_equal.result same c.never_equal.ensures c.if-first.true

pub returns-then-second : goal.returns-then-second
returns-then-second c =
    let same : c.args.first.array ≡ c.args.second.array = search rules in
    second_stores (forms_in c.args.self.now.forms) c.args.first c.args.second c.never_equal-then-second.result same c.never_equal-then-second.ensures c.if-first.false c.if-second.true
