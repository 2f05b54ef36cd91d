-- The next name and form variable are new, and stay so.
use Rattle.std.proofs.Common.{◌≡◌, ℕ, ◌<◌, ◌≤◌, refl, sym, subst, arith}
use Rattle.std.specs.Prelude.{Bool, true, false}
use Rattle.pc_window.specs.Tree.{whole}
use Rattle.pc_window.specs.WindowRun.{Window, supply_of}
use Rattle.pc_window.specs.Opening.{Supply}
use Rattle.pc_window.specs.Filled.{Jump}
use Rattle.pc_window.specs.Ready.{HasFresh}
use Rattle.pc_window.proofs.Proper.{StaysNew, tree_new, without_new, given_next}

-- the next name and form variable are new to a window
pub fresh_names : (known : ℕ → Bool) (w : Window) → ((x : ℕ) → known x ≡ true → x < w.next) → StaysNew w → HasFresh known w
fresh_names known w below h = record {
  unknown = elim (known w.next) as (λ b. known w.next ≡ b → b ≡ false) [
    | false ↦ λ e. refl
    | true ↦ λ e. absurd (let less = below w.next e in omega arith)
  ] refl;
  unwritten = tree_new w.next (whole w.front) h.names_below;
  without = λ x. without_new w.next_variable (w.forms x).terms (h.forms_below.form x);
}

-- and later names are not before
pub next_grows : (known : ℕ → Bool) (w v : Window) → Jump known w v → w.next ≤ v.next
next_grows known w v jump = subst (λ (n : Supply). w.next ≤ n.next) (sym jump.names) (given_next (supply_of w) jump.new jump.comes)
