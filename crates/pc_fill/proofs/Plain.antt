-- Plain items: they may pass whatever stands above them, and whatever stands below may pass them.
use Rattle.std.proofs.Common.{◌≡◌, ◌∙◌, ℕ, Bool, true}
use Rattle.std.proofs.Common.{false, Option, Some, None, refl, sym, ap, subst}
use Rattle.std.specs.Prelude.{◌&&◌}
use Rattle.pc_word.specs.declared.item.Item.{Item}
use Rattle.pc_word.specs.declared.item.Item.TheVariants.{Bin, Copy, Load, Store, Print, Read, More}
use Rattle.pc_word.specs.Items.{is_effect, only_computes}
use Rattle.pc_linear.specs.Form.{Form}
use Rattle.pc_window.specs.declared.conflict.Touch.{Touch}
use Rattle.pc_window.specs.Conflict.{touch_of, NoDependence, NoStoreDependence, NoConflict, MayFollow}
use Rattle.pc_window.specs.Ready.{MayStandBehind}
use Rattle.pc_fill.specs.declared.path.Path.{Path}
use Rattle.pc_fill.specs.declared.path.Path.TheVariants as path
use Rattle.pc_fill.specs.models.Path.{is_plain, MayComeAlong, LeadsOn}
use Rattle.pc_fill.specs.models.Places.{MayPass}

-- ---- plain items

pub record Plain (x : Item) : Type 0 where
  touches : touch_of x ≡ None
  effect : is_effect x ≡ false
  quiet : only_computes x ≡ true

pub plain : (x : Item) → is_plain x ≡ true → Plain x
plain (Bin op dest left right) e = record { touches = refl; effect = refl; quiet = refl }
plain (Copy dest from) e = record { touches = refl; effect = refl; quiet = refl }
plain (Load dest array index) e = absurd (cc)
plain (Store array index value) e = absurd (cc)
plain (Print value) e = absurd (cc)
plain (Read dest) e = absurd (cc)
plain (More dest) e = absurd (cc)

and_false : (b : Bool) → (b && false) ≡ false
and_false true = refl
and_false false = refl

module _ (forms : ℕ → Form) where
  behind_touch : (touch : Option Touch) → NoDependence forms touch None
  behind_touch None = tt
  behind_touch (Some touch) = tt

  follows_touch : (touch : Option Touch) → NoStoreDependence forms touch None
  follows_touch None = tt
  follows_touch (Some touch) = tt

  -- whatever stands above, a plain item may pass it
  plain_rises : (y x : Item) → Plain x → NoConflict forms y x
  plain_rises y x h = record {
    no_dependence = subst (NoDependence forms (touch_of y)) (sym h.touches) (behind_touch (touch_of y));
    one_effect = ap (λ (b : Bool). is_effect y && b) h.effect ∙ and_false (is_effect y);
  }

  plain_follows : (y x : Item) → Plain x → MayFollow forms y x
  plain_follows y x h = record {
    no_store_dependence = subst (NoStoreDependence forms (touch_of y)) (sym h.touches) (follows_touch (touch_of y));
    one_effect = ap (λ (b : Bool). is_effect y && b) h.effect ∙ and_false (is_effect y);
  }

  pub plain_comes : (x : Item) → Plain x → (way : Path) → MayComeAlong forms way (Some x)
  plain_comes x h path.Root = tt
  plain_comes x h (path.Issued' y p above) = (plain_follows y x h, plain_comes x h above)
  plain_comes x h (path.Chosen' side p above) = plain_comes x h above
  plain_comes x h (path.Passed' y p above) = (plain_rises y x h, plain_comes x h above)
  plain_comes x h (path.Crossed' side p above) = (h.quiet, plain_comes x h above)

  -- whatever stands below, it may pass a plain item
  plain_passed : (y : Item) → Plain y → (what : Option Item) → MayPass forms y what
  plain_passed y h None = tt
  plain_passed y h (Some x) = record {
    no_dependence = subst (λ (t : Option Touch). NoDependence forms t (touch_of x)) (sym h.touches) tt;
    one_effect = ap (λ (b : Bool). b && is_effect x) h.effect;
  }

  plain_stands : (y : Item) → Plain y → (what : Option Item) → MayStandBehind forms y what
  plain_stands y h None = tt
  plain_stands y h (Some x) = record {
    no_store_dependence = subst (λ (t : Option Touch). NoStoreDependence forms t (touch_of x)) (sym h.touches) tt;
    one_effect = ap (λ (b : Bool). b && is_effect x) h.effect;
  }

pub passed_plain : (forms : ℕ → Form) (y : Item) (above : Path) → is_plain y ≡ true → LeadsOn forms (MayPass forms y) above above
passed_plain forms y above e what = (λ h. (plain_passed forms y (plain y e) what, h), λ h. h.1)

pub issued_plain : (forms : ℕ → Form) (y : Item) (above : Path) → is_plain y ≡ true → LeadsOn forms (MayStandBehind forms y) above above
issued_plain forms y above e what = (λ h. (plain_stands forms y (plain y e) what, h), λ h. h.1)
