-- What is known of an item whose move is not refused.
use Rattle.std.proofs.Common.{◌≡◌, ℕ, Bool, true, false, List, [], ◌∷◌, Option, Some, None, refl, sym, ◌∙◌, ap, subst}
use Rattle.std.specs.Prelude.{◌||◌, ◌&&◌, not, if◌then◌else◌}
use Rattle.std.specs.List.{list_any, AllByRecursion}
use Rattle.pc_word.specs.declared.item.Item.{Item}
use Rattle.pc_word.specs.declared.item.Operand.{Operand}
use Rattle.pc_word.specs.declared.item.Operand.TheVariants.{Name, Lit}
use Rattle.pc_word.specs.Items.{dest_of, operands_of, is_effect, only_computes}
use Rattle.pc_word.specs.Commit.{writes}
use Rattle.pc_linear.specs.Form.{Form}
use Rattle.pc_window.specs.declared.conflict.Touch.{Touch}
use Rattle.pc_window.specs.Conflict.{touch_of}
use Rattle.pc_window.proofs.Readiness.{Alike}
use Rattle.pc_moveop.specs.Climbing.{Passed, Passed_item, Passed_test, defines, first_defined, MayPass, FirstConflict, No_conflict, Passes_test, Passes_item, Conflicts, is_test, has_effect}
use Rattle.pc_moveop.specs.Refusing.{refused_first, depends_on, out_of_order, first_refusal}
use Rattle.pc_moveop.specs.declared.error.MoveError.{MoveError}
use Rattle.pc_moveop.specs.declared.error.MoveError.TheVariants.{EffectAboveTest, EffectOrder}

-- ---- the way is clear

-- an operand is not what an item defines
abbrev pub NotDefined : Item → Operand → Type 0
NotDefined y (Name x) = writes (dest_of y) x ≡ false
NotDefined y (Lit value) = Unit {0}

-- what an item may pass: none of its operands is defined there, there is no conflict, and not a second effect
pub record ClearItem (forms : ℕ → Form) (x : Item) (finished : Bool) (y : Item) : Type 0 where
  pub reads : AllByRecursion (NotDefined y) (operands_of x)
  pub order : MayPass forms finished (touch_of y) (touch_of x)
  pub one_effect : (is_effect y && is_effect x) ≡ false

abbrev pub Clear : (ℕ → Form) → Item → Passed → Type 0
Clear forms x (Passed_item finished origin y) = ClearItem forms x finished y
Clear forms x Passed_test = only_computes x ≡ true

abbrev pub ClearWay : (ℕ → Form) → Item → List Passed → Type 0
ClearWay forms x way = AllByRecursion (Clear forms x) way

-- ---- it is clear where nothing is refused

pub first_item : (finished : Bool) (origin : ℕ) (y : Item) (way : List Passed) (os : List Operand) → first_defined os (Passed_item finished origin y ∷ way) ≡ None
    → AllByRecursion (NotDefined y) os × (first_defined os way ≡ None)
first_item finished origin y way [] e = (tt, refl)
first_item finished origin y way (Lit v ∷ os) e = let h = first_item finished origin y way os e in ((tt, h.0), h.1)
first_item finished origin y way (Name x ∷ os) e = by_tests (writes (dest_of y) x) (list_any (defines x) way) refl refl (first_item finished origin y way os) e
  where
    by_tests : (a b : Bool) → writes (dest_of y) x ≡ a → list_any (defines x) way ≡ b
        → (first_defined os (Passed_item finished origin y ∷ way) ≡ None → AllByRecursion (NotDefined y) os × (first_defined os way ≡ None))
        → (if a || b then Some x else first_defined os (Passed_item finished origin y ∷ way)) ≡ None
        → AllByRecursion (NotDefined y) (Name x ∷ os) × ((if list_any (defines x) way then Some x else first_defined os way) ≡ None)
    by_tests true b p q rest e = absurd (cc)
    by_tests false true p q rest e = absurd (cc)
    by_tests false false p q rest e = let h = rest e in ((p, h.0), rw q h.1)

first_test : (way : List Passed) (os : List Operand) → first_defined os (Passed_test ∷ way) ≡ first_defined os way
first_test way [] = refl
first_test way (Lit v ∷ os) = first_test way os
first_test way (Name x ∷ os) = ap (λ (r : Option ℕ). if list_any (defines x) way then Some x else r) (first_test way os)

both_false : (a b c : Bool) → ((a || b) && c) ≡ false → ((a && c) ≡ false) × ((b && c) ≡ false)
both_false false b c e = (refl, e)
both_false true false c e = (e, refl)
both_false true true c e = (e, e)

is_not : (b : Bool) → not b ≡ false → b ≡ true
is_not true e = refl
is_not false e = absurd (cc)

pub clear_way : (forms : ℕ → Form) (x : Item) (way : List Passed) (conflict : Option ℕ)
    → FirstConflict forms x way conflict → conflict ≡ None → first_defined (operands_of x) way ≡ None
    → (list_any is_test way && not (only_computes x)) ≡ false → (list_any has_effect way && is_effect x) ≡ false → ClearWay forms x way
clear_way forms x way conflict No_conflict none defined crosses effect = tt
clear_way forms x way conflict (Passes_test rest found first) none defined crosses effect = (
  is_not (only_computes x) crosses,
  clear_way forms x rest found first none (sym (first_test rest (operands_of x))
      ∙ defined) (ap (λ (b : Bool). list_any is_test rest && b) crosses ∙ and_false (list_any is_test rest)) effect,
)
  where
    and_false : (b : Bool) → (b && false) ≡ false
    and_false true = refl
    and_false false = refl
clear_way forms x way conflict (Passes_item finished origin y rest found may first) none defined crosses effect =
    let d = first_item finished origin y rest (operands_of x) defined in
    let e = both_false (is_effect y) (list_any has_effect rest) (is_effect x) effect in
    (record { reads = d.0; order = may; one_effect = e.0 }, clear_way forms x rest found first none d.1 crosses e.1)
clear_way forms x way conflict (Conflicts finished origin y rest no_way) none defined crosses effect = absurd (cc)

-- ---- nothing is refused

pub both_none : (a b : Option MoveError) → refused_first a b ≡ None → (a ≡ None) × (b ≡ None)
both_none None b e = (refl, e)
both_none (Some why) b e = absurd (cc)

pub no_name : (d : Option ℕ) → depends_on d ≡ None → d ≡ None
no_name None e = refl
no_name (Some x) e = absurd (cc)

no_origin : (d : Option ℕ) → out_of_order d ≡ None → d ≡ None
no_origin None e = refl
no_origin (Some x) e = absurd (cc)

no_test : (b : Bool) (why : MoveError) → (if b then Some why else None) ≡ None → b ≡ false
no_test true why e = absurd (cc)
no_test false why e = refl

pub way_not_refused : (forms : ℕ → Form) (x : Item) (way : List Passed) (conflict : Option ℕ) → FirstConflict forms x way conflict
    → first_refusal (first_defined (operands_of x) way) conflict (list_any is_test way) (list_any has_effect way) x ≡ None → ClearWay forms x way
way_not_refused forms x way conflict first e =
    let a = both_none (depends_on (first_defined (operands_of x) way)) _ e in
    let b = both_none (out_of_order conflict) _ a.1 in
    let c = both_none (if list_any is_test way && not (only_computes x) then Some EffectAboveTest else None) _ b.1 in
    clear_way forms x way conflict first (no_origin conflict b.0) (no_name (first_defined (operands_of x) way) a.0)
    (no_test (list_any is_test way && not (only_computes x)) EffectAboveTest c.0) (no_test (list_any has_effect way && is_effect x) EffectOrder c.1)

-- ---- another name changes nothing

pub clear_alike : (forms : ℕ → Form) (x z : Item) → Alike x z → (way : List Passed) → ClearWay forms x way → ClearWay forms z way
clear_alike forms x z a [] h = tt
clear_alike forms x z a (Passed_test ∷ way) h = (a.quiet ∙ h.0, clear_alike forms x z a way h.1)
clear_alike forms x z a (Passed_item finished origin y ∷ way) h = (
  record {
    reads = subst (λ (os : List Operand). AllByRecursion (NotDefined y) os) (sym a.operands) h.0.reads;
    order = subst (λ (t : Option Touch). MayPass forms finished (touch_of y) t) (sym a.touch) h.0.order;
    one_effect = ap (λ (b : Bool). is_effect y && b) a.effect ∙ h.0.one_effect;
  },
  clear_alike forms x z a way h.1,
)
