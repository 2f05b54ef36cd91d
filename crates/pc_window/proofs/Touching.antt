-- When what two items touch may be exchanged.
use Rattle.std.proofs.Common.{◌≡◌, ◌↔◌, ℕ, Bool, true, false, Option, Some, sym, ◌∙◌, ap, subst}
use Rattle.std.specs.Prelude.{◌||◌}
use Rattle.pc_word.specs.declared.item.Item.{Item}
use Rattle.pc_word.proofs.Truth.{same_fact}
use Rattle.pc_linear.specs.Form.{Form}
use Rattle.pc_linear.specs.Equality.{NeverEqual}
use Rattle.pc_window.specs.declared.conflict.Touch.{Touch}
use Rattle.pc_window.specs.Hold.{operand_form}
use Rattle.pc_window.specs.Conflict.{touch_of, NoDependence, NoStoreDependence}

module _ (forms : ℕ → Form) (a b : Touch) (c : Bool) (same : a.array ≡ b.array) (iff : (c ≡ true) ↔ NeverEqual (operand_form forms a.index) (operand_form forms b.index)) where
  -- where the first stores
  pub first_stores : a.stores ≡ true → (c ≡ true) ↔ NoDependence forms (Some a) (Some b)
  first_stores s = same_fact c _ (NoDependence forms (Some a) (Some b)) (λ h e t. h) (λ h. h same (ap (λ (d : Bool). d || b.stores) s)) iff

  -- where the second does
  pub second_stores : a.stores ≡ false → b.stores ≡ true → (c ≡ true) ↔ NoDependence forms (Some a) (Some b)
  second_stores n s = same_fact c _ (NoDependence forms (Some a) (Some b)) (λ h e t. h) (λ h. h same (ap (λ (d : Bool). d || b.stores) n ∙ s)) iff

  pub stores_before : a.stores ≡ true → (c ≡ true) ↔ NoStoreDependence forms (Some a) (Some b)
  stores_before s = same_fact c _ (NoStoreDependence forms (Some a) (Some b)) (λ h e t. h) (λ h. h same s) iff

module _ (forms : ℕ → Form) (x y : Item) (a b : Touch) (c : Bool) (at_x : touch_of x ≡ Some a) (at_y : touch_of y ≡ Some b) where
  -- the items touch these
  pub exchanged : (c ≡ true) ↔ NoDependence forms (Some a) (Some b) → (c ≡ true) ↔ NoDependence forms (touch_of x) (touch_of y)
  exchanged iff =
      subst (λ (t : Option Touch). (c ≡ true) ↔ NoDependence forms t (touch_of y)) (sym at_x)
      (subst (λ (t : Option Touch). (c ≡ true) ↔ NoDependence forms (Some a) t) (sym at_y) iff)

  pub behind : (c ≡ true) ↔ NoStoreDependence forms (Some a) (Some b) → (c ≡ true) ↔ NoStoreDependence forms (touch_of x) (touch_of y)
  behind iff =
      subst (λ (t : Option Touch). (c ≡ true) ↔ NoStoreDependence forms t (touch_of y)) (sym at_x)
      (subst (λ (t : Option Touch). (c ≡ true) ↔ NoStoreDependence forms (Some a) t) (sym at_y) iff)
