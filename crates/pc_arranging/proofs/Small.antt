-- Whether a window is not too large.
use Rattle.std.proofs.Common.{◌≡◌, ◌↔◌, ℕ, ◌+◌, ◌<◌, ◌≤◌, ◌^◌, true, false, length, sym, ap, arith}
use Rattle.pc_word.proofs.Truth.{fails_here, holds_here}
use Rattle.pc_window.specs.declared.window.Window.{Window as StoredWindow}
use Rattle.pc_window.specs.Tree.{whole, tree_size}
use Rattle.pc_window.specs.StoredWindow.{tree_in, front_in, window_in}
use Rattle.pc_window.proofs.WindowsStored.{whole_in}
use Rattle.pc_arranging.specs.Arranging.{IsSmall}

module _ (w : StoredWindow) where
  same_size : tree_size (whole (front_in w.tree)) ≡ tree_size (tree_in w.tree)
  same_size = ap tree_size (whole_in w.tree)

  pub too_many_parts : (n : ℕ) → n ≤ tree_size (tree_in w.tree) → 4096 < n → (false ≡ true) ↔ IsSmall (window_in w)
  too_many_parts n within more = fails_here (IsSmall (window_in w)) (λ h. let s = h.size in let same = same_size in absurd (omega arith))

  pub too_many_names : 1073741824 < length w.names.forms → (false ≡ true) ↔ IsSmall (window_in w)
  too_many_names more = fails_here (IsSmall (window_in w)) (λ h. let s = h.names in absurd (omega arith))

  pub too_many_variables : 1073741824 < w.names.next_variable → (false ≡ true) ↔ IsSmall (window_in w)
  too_many_variables more = fails_here (IsSmall (window_in w)) (λ h. let s = h.variables in absurd (omega arith))

  pub small_enough : (n : ℕ) → (n < 4097 → n ≡ tree_size (tree_in w.tree)) → n ≤ 4096 → length w.names.forms ≤ 1073741824
      → w.names.next_variable ≤ 1073741824 → (true ≡ true) ↔ IsSmall (window_in w)
  small_enough n exact most names variables =
      let s = exact (omega arith) in let same = same_size in
      holds_here (IsSmall (window_in w)) (record { size = omega arith; names = omega arith; variables = omega arith })

pub ruleset telling = (too_many_parts, too_many_names, too_many_variables, small_enough)
