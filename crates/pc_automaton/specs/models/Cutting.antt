-- What the windows that are left have of the window that is cut.
use Rattle.std.specs.Prelude.{ℕ, Option}
use Rattle.pc_word.specs.declared.item.Limits.{Limits}
use Rattle.pc_window.specs.Tree.{Unfinished, Stop_exit}
use Rattle.pc_window.specs.Opening.{Supply}
use Rattle.pc_window.specs.WindowRun.{Window}

-- a window of these names without items and tests
abbrev pub bare_window : Supply → Limits → Option ℕ → Window
bare_window names limits inside = record {
  front = Unfinished Stop_exit;
  forms = names.forms;
  next = names.next;
  next_variable = names.next_variable;
  limits = limits;
  inside = inside;
}
