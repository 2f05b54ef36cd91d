use Rattle.std.proofs.Common.{rules}
use Rattle.pc_shared.proofs.PlainWindows.{is_plain}
use Rattle.pc_shared.proofs.window.SharedWindow.to_window.Goals as goal

pub returns : goal.returns
returns c = is_plain c.args.self.now c.in_ok-tree.tree c.in_ok-forms.forms (search rules) (search rules)
