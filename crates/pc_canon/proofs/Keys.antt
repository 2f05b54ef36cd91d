-- Windows have one key exactly where they are equal up to a shift.
use Rattle.std.proofs.Common.{◌≡◌, ℕ, List, sym, ◌∙◌, ap}
use Rattle.std.specs.Prelude.{◌↔◌, Bool, true}
use Rattle.std.specs.Bool.{Decides}
use Rattle.pc_window.specs.WindowRun.{Window}
use Rattle.pc_canon.specs.Shift.{ShiftedBy, Shifted}
use Rattle.pc_canon.specs.Bytes.{bytes_of}
use Rattle.pc_canon.specs.Canonical.{Canonical, parameter_pairs}
use Rattle.pc_canon.specs.Key.{canonical_numbers, key_of}
use Rattle.pc_canon.proofs.Codes.{same_key}
use Rattle.pc_canon.proofs.FormsKept.{forms_kept}
use Rattle.pc_canon.proofs.FormsTell.{forms_tell}

pub keys_pair : (w v : Window) → key_of w ≡ key_of v → ShiftedBy (parameter_pairs w v) w v
keys_pair w v e = forms_tell w v (same_key w v e)

pub keys_tell : (w v : Window) → (key_of w ≡ key_of v) ↔ Shifted w v
keys_tell w v = ((λ e. (parameter_pairs w v, keys_pair w v e)), (λ h. ap (λ (c : Canonical). bytes_of (canonical_numbers c)) (forms_kept w v h)))

-- so a comparison of keys tells it
pub compared_keys : (w v : Window) (xs ys : List ℕ) (same : Bool) → Decides same (xs ≡ ys) → xs ≡ key_of w → ys ≡ key_of v → (same ≡ true) ↔ Shifted w v
compared_keys w v xs ys same tells one other =
    ((λ is. (keys_tell w v).0 (sym one ∙ tells.0 is ∙ other)), (λ shifted. tells.1 (one ∙ (keys_tell w v).1 shifted ∙ sym other)))
