-- What is told of an item on its way up.
use Rattle.std.proofs.Common.{◌≡◌, ◌↔◌, ℕ, Bool, true, false, List, [], ◌∷◌, Option, Some, None, refl, sym, ◌∙◌, ap, subst}
use Rattle.std.specs.Prelude.{◌||◌, slice_get}
use Rattle.pc_word.specs.declared.item.Item.{Item}
use Rattle.pc_word.specs.declared.item.Operand.{Operand}
use Rattle.pc_word.specs.declared.item.Operand.TheVariants.{Name, Lit}
use Rattle.pc_word.specs.Items.{operands_of, is_effect}
use Rattle.pc_linear.specs.Form.{Form}
use Rattle.pc_window.specs.Conflict.{touch_of}
use Rattle.pc_moveop.specs.Climbing.{defines_operand, Passed, Passed_item, Passed_test, Mover, passing, MayPass, FirstConflict, No_conflict, Passes_test, Passes_item, Conflicts}
use Rattle.pc_moveop.specs.models.Climbs.{Finds}
use Rattle.pc_moveop.specs.declared.climbing.Climb.{Climb}

-- it has passed nothing
pub started : (forms : ℕ → Form) (tag origin : ℕ) (item : Item) → Finds forms (Some (record { tag = tag; origin = origin; item = item; way = [] }))
    (Some (record { tag = tag; origin = origin; item = item; first_defined = false; second_defined = false; conflict = None; crosses = false; effect = false }))
started forms tag origin item = record {
  is = record { tag = refl; origin = refl; item = refl; first = refl; second = refl; conflict = No_conflict; crosses = refl; effect = refl };
}

-- no test defines an operand
no_test : (o : Option Operand) (rest : Bool) → rest ≡ (defines_operand o Passed_test || rest)
no_test None rest = refl
no_test (Some (Name x)) rest = refl
no_test (Some (Lit v)) rest = refl

-- it has passed a test
pub tested : (forms : ℕ → Form) (m : Option Mover) (c : Climb) → Finds forms m (Some c) → Finds forms (passing Passed_test m) (Some (record c { crosses = true }))
tested forms (Some m) c found =
    let h = found.is in
    record {
      is = record {
        tag = h.tag;
        origin = h.origin;
        item = h.item;
        first = h.first ∙ no_test (slice_get (operands_of m.item) 0) _;
        second = h.second ∙ no_test (slice_get (operands_of m.item) 1) _;
        conflict = Passes_test m.way c.conflict h.conflict;
        crosses = refl;
        effect = h.effect;
      };
    }
tested forms None c found = absurd (found.is)

-- the first conflict, once an item may pass another, or may not
pub passes : (forms : ℕ → Form) (finished : Bool) (origin : ℕ) (above x : Item) (may : Bool) (found : Option ℕ) → (may ≡ true) ↔ MayPass forms finished (touch_of above) (touch_of x)
    → may ≡ true → (way : List Passed) → FirstConflict forms x way found → FirstConflict forms x (Passed_item finished origin above ∷ way) found
passes forms finished origin above x may found iff is way first = Passes_item finished origin above way found (iff.0 is) first

pub conflicts : (forms : ℕ → Form) (finished : Bool) (origin : ℕ) (above x : Item) (may : Bool) (found : Option ℕ) → (may ≡ true) ↔ MayPass forms finished (touch_of above) (touch_of x)
    → may ≡ false → (way : List Passed) → FirstConflict forms x way found → FirstConflict forms x (Passed_item finished origin above ∷ way) (Some origin)
conflicts forms finished origin above x may found iff is way first = Conflicts finished origin above way (λ h. let e : may ≡ true = iff.1 h in cc)

-- it has passed an item
pub passed : (forms : ℕ → Form) (m : Option Mover) (c : Climb) (finished : Bool) (origin : ℕ) (above : Item) (first second effect : Bool) (conflict : Option ℕ)
    → first ≡ (defines_operand (slice_get (operands_of c.item) 0) (Passed_item finished origin above) || c.first_defined)
    → second ≡ (defines_operand (slice_get (operands_of c.item) 1) (Passed_item finished origin above) || c.second_defined)
    → ((way : List Passed) → FirstConflict forms c.item way c.conflict → FirstConflict forms c.item (Passed_item finished origin above ∷ way) conflict)
    → effect ≡ (is_effect above || c.effect) → Finds forms m (Some c)
    → Finds forms (passing (Passed_item finished origin above) m) (Some (record c { first_defined = first; second_defined = second; conflict = conflict; effect = effect }))
passed forms (Some m) c finished origin above first second effect conflict is_first is_second is_conflict is_so found =
    let h = found.is in
    let what = Passed_item finished origin above in
    record {
      is = record {
        tag = h.tag;
        origin = h.origin;
        item = h.item;
        first = is_first ∙ (λ i. defines_operand (slice_get (operands_of (h.item i)) 0) what || h.first i);
        second = is_second ∙ (λ i. defines_operand (slice_get (operands_of (h.item i)) 1) what || h.second i);
        conflict = subst (λ (x : Item). FirstConflict forms x (what ∷ m.way) conflict) h.item
            (is_conflict m.way (subst (λ (x : Item). FirstConflict forms x m.way c.conflict) (sym h.item) h.conflict));
        crosses = h.crosses;
        effect = is_so ∙ ap (λ (b : Bool). is_effect above || b) h.effect;
      };
    }
passed forms None c finished origin above first second effect conflict is_first is_second is_conflict is_so found = absurd (found.is)

-- there is none
pub none_passed : (forms : ℕ → Form) (what : Passed) (m : Option Mover) → Finds forms m None → Finds forms (passing what m) None
none_passed forms what None found = found
none_passed forms what (Some m) found = absurd (found.is)

pub none_found : (forms : ℕ → Form) → Finds forms None None
none_found forms = record { is = tt }

pub ruleset climbs = (started, tested, passed)

pub ruleset conflicting = (passes, conflicts)

pub ruleset searches = (none_passed, none_found)
