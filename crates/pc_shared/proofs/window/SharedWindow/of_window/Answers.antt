use Rattle.std.proofs.Common.{length}
use Rattle.pc_window.specs.StoredWindow.{forms_in}
use Rattle.pc_shared.proofs.PlainWindows.{same_front}
use Rattle.pc_shared.proofs.window.SharedWindow.of_window.Goals as goal

pub returns-clause-window : goal.returns-clause-window
returns-clause-window c =
    let w = c.args.window in
    let same = same_front _ w.tree c.in_ok-store.ensures.tree in
    λ i. record {
      front = same i;
      forms = forms_in w.names.forms;
      next = length w.names.forms;
      next_variable = w.names.next_variable;
      limits = w.limits;
      inside = w.inside;
    }
