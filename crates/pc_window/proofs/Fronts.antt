-- What comes into the front leaves it as it must be: it does not hang on itself, and it keeps the limits.
use Rattle.std.proofs.Common.{◌≡◌, ℕ, ◌+◌, ◌<◌, ◌≤◌, Bool, true, false, Option, Some, None, refl, sym, subst, arith}
use Rattle.std.specs.Prelude.{if◌then◌else◌}
use Rattle.pc_word.specs.declared.item.Item.{Item}
use Rattle.pc_word.specs.declared.item.Item.TheVariants.{Bin, Copy, Load, Store, Print, Read, More}
use Rattle.pc_word.specs.declared.item.Limits.{Limits}
use Rattle.pc_word.specs.declared.item.Operand.{Operand}
use Rattle.pc_word.specs.declared.item.Operand.TheVariants.{Name, Lit}
use Rattle.pc_word.specs.Items.{is_memory, reads}
use Rattle.pc_window.specs.Tree.{Front, Issued, Split, Unfinished}
use Rattle.pc_linear.specs.Form.{Form}
use Rattle.pc_linear.specs.Equality.{NeverEqual}
use Rattle.pc_window.specs.Hold.{operand_form}
use Rattle.pc_window.specs.Names.{IsKnown, ReadsKnown}
use Rattle.pc_window.specs.declared.conflict.Touch.{Touch}
use Rattle.pc_window.specs.Conflict.{touch_of, NoStoreDependence, MayFollow}
use Rattle.pc_window.specs.Jump.{MayComeBehind, EntersFront, Lands, Lands_renamed, Lands_test, Lands_once, Behind_item, On_yes, On_no}
use Rattle.pc_window.specs.Filled.{AllItems, Independent, item_count, memory_count, test_count, HasSpace, WithinLimits}
use Rattle.pc_window.proofs.Undisturbed.{new-known}
use Rattle.pc_window.proofs.Entering.{entered_forms}
use Rattle.pc_window.proofs.Scopes.{enters_new}

-- ---- the front does not hang on itself

-- forms of known names alone matter
abbrev pub SameKnownForms : (ℕ → Bool) → (ℕ → Form) → (ℕ → Form) → Type 0
SameKnownForms known forms forms' = (x : ℕ) → known x ≡ true → forms' x ≡ forms x

pub operand_form_same : (known : ℕ → Bool) (forms forms' : ℕ → Form) → SameKnownForms known forms forms' → (o : Operand) → IsKnown known o → operand_form forms' o ≡ operand_form forms o
operand_form_same known forms forms' same (Name x) is = same x is
operand_form_same known forms forms' same (Lit value) is = refl

-- the index that an item touches is known
abbrev pub TouchKnown : (ℕ → Bool) → Option Touch → Type 0
TouchKnown known (Some touch) = IsKnown known touch.index
TouchKnown known None = Unit {0}

pub touch_known : (known : ℕ → Bool) (x : Item) → ReadsKnown known x → TouchKnown known (touch_of x)
touch_known known (Bin op d l r) h = tt
touch_known known (Copy d f) h = tt
touch_known known (Load d a i) h = h.0
touch_known known (Store a i v) h = h.0
touch_known known (Print v) h = tt
touch_known known (Read d) h = tt
touch_known known (More d) h = tt

pub store_dependence_same : (known : ℕ → Bool) (forms forms' : ℕ → Form) → SameKnownForms known forms forms' → (a b : Option Touch) → TouchKnown known a → TouchKnown known b
    → NoStoreDependence forms a b → NoStoreDependence forms' a b
store_dependence_same known forms forms' same (Some a) (Some b) ha hb h = λ arrays stores.
    subst (λ (f : Form). NeverEqual f (operand_form forms' b.index)) (sym (operand_form_same known forms forms' same a.index ha))
    (subst (λ (f : Form). NeverEqual (operand_form forms a.index) f) (sym (operand_form_same known forms forms' same b.index hb)) (h arrays stores))
store_dependence_same known forms forms' same (Some a) None ha hb h = tt
store_dependence_same known forms forms' same None b ha hb h = tt

follows_same : (known : ℕ → Bool) (forms forms' : ℕ → Form) → SameKnownForms known forms forms' → (y x : Item)
    → ReadsKnown known y → ReadsKnown known x → MayFollow forms y x → MayFollow forms' y x
follows_same known forms forms' same y x hy hx h = record {
  no_store_dependence = store_dependence_same known forms forms' same (touch_of y) (touch_of x) (touch_known known y hy) (touch_known known x hx) h.no_store_dependence;
  one_effect = h.one_effect;
}

-- what each item is, where two things hold of each
all_items_both : (P Q R : Item → Type 0) → ((x : Item) → P x → Q x → R x) → (front : Front) → AllItems P front → AllItems Q front → AllItems R front
all_items_both P Q R f (Issued t o x rest) p q = (f x p.0 q.0, all_items_both P Q R f rest p.1 q.1)
all_items_both P Q R f (Split t o on yes_side no_side) p q = (all_items_both P Q R f yes_side p.0 q.0, all_items_both P Q R f no_side p.1 q.1)
all_items_both P Q R f (Unfinished rest) p q = tt

independent_reads : (forms : ℕ → Form) (known : ℕ → Bool) (front : Front) → Independent forms known front → AllItems (ReadsKnown known) front
independent_reads forms known (Issued t o x rest) h = (h.0, independent_reads forms known rest h.2)
independent_reads forms known (Split t o on p q) h = (independent_reads forms known p h.1, independent_reads forms known q h.2)
independent_reads forms known (Unfinished rest) h = tt

all_follow_same : (known : ℕ → Bool) (forms forms' : ℕ → Form) → SameKnownForms known forms forms'
    → (y : Item) → ReadsKnown known y → (front : Front) → AllItems (ReadsKnown known) front
    → AllItems (MayFollow forms y) front → AllItems (MayFollow forms' y) front
all_follow_same known forms forms' same y hy front reads h =
    all_items_both (ReadsKnown known) (MayFollow forms y) (MayFollow forms' y) (λ x r f. follows_same known forms forms' same y x hy r f) front reads h

independent_same : (known : ℕ → Bool) (forms forms' : ℕ → Form) → SameKnownForms known forms forms' → (front : Front) → Independent forms known front → Independent forms' known front
independent_same known forms forms' same (Issued t o x rest) h =
    (h.0, all_follow_same known forms forms' same x h.0 rest (independent_reads forms known rest h.2) h.1, independent_same known forms forms' same rest h.2)
independent_same known forms forms' same (Split t o on p q) h = (h.0, independent_same known forms forms' same p h.1, independent_same known forms forms' same q h.2)
independent_same known forms forms' same (Unfinished rest) h = tt

-- what holds of each item and of what comes holds of each item afterwards
abbrev pub ComesWith : (Item → Type 0) → Option Item → Type 0
ComesWith P (Some x) = P x
ComesWith P None = Unit {0}

all_entered : (P : Item → Type 0) (known : ℕ → Bool) (forms forms' : ℕ → Form) (new : Option ℕ) (comes : Option Item) (from to : Front)
    → EntersFront known forms forms' new comes from to → ComesWith P comes → AllItems P from → AllItems P to
all_entered P known forms forms' new comes from to (Lands tag origin x t left reads isnew none same rises) c h = (c, tt)
all_entered P known forms forms' new comes from to (Lands_renamed tag origin name stood t left reads isnew is gives rises) c h = (c, tt)
all_entered P known forms forms' new comes from to (Lands_test tag origin on t p q reads none same divides) c h = (tt, tt)
all_entered P known forms forms' new comes from to (Lands_once t o on tag origin tag' origin' name stood other c1 c2 p q l m equal reads isnew is gives rises rises') c h = (c, (tt, tt))
all_entered P known forms forms' new comes from to (Behind_item t o y co rest rest' may apart enters) c h = (h.0, all_entered P known forms forms' new co rest rest' enters c h.1)
all_entered P known forms forms' new comes from to (On_yes t o on co p q p' apart enters) c h = (all_entered P known forms forms' new co p p' enters c h.0, h.1)
all_entered P known forms forms' new comes from to (On_no t o on co p q q' apart enters) c h = (h.0, all_entered P known forms forms' new co q q' enters c h.1)

comes_follow : (forms : ℕ → Form) (y : Item) (comes : Option Item) → MayComeBehind forms y comes → ComesWith (MayFollow forms y) comes
comes_follow forms y (Some x) may = may.0
comes_follow forms y None may = tt

known_forms : (known : ℕ → Bool) (forms forms' : ℕ → Form) (new : Option ℕ) (comes : Option Item) (from to : Front)
    → EntersFront known forms forms' new comes from to → SameKnownForms known forms forms'
known_forms known forms forms' new comes from to enters x is =
    entered_forms known forms forms' new comes from to enters x (new-known known new x (enters_new known forms forms' new comes from to enters).1 is)

pub independent_entered : (known : ℕ → Bool) (forms forms' : ℕ → Form) (new : Option ℕ) (comes : Option Item) (from to : Front)
    → EntersFront known forms forms' new comes from to → Independent forms known from → Independent forms' known to
independent_entered known forms forms' new comes from to (Lands tag origin x t left reads isnew none same rises) h = (reads, tt, tt)
independent_entered known forms forms' new comes from to (Lands_renamed tag origin name stood t left reads isnew is gives rises) h = (reads, tt, tt)
independent_entered known forms forms' new comes from to (Lands_test tag origin on t p q reads none same divides) h = (reads, tt, tt)
independent_entered known forms forms' new comes from to (Lands_once t o on tag origin tag' origin' name stood other c c' p q l m equal reads isnew is gives rises rises') h =
    (reads, (tt, tt), (h.0, tt, tt))
independent_entered known forms forms' new comes from to (Behind_item t o y c rest rest' may apart enters) h =
    let below : Independent forms' known rest' = independent_entered known forms forms' new c rest rest' enters h.2 in (
      h.0,
      all_follow_same known forms forms' (known_forms known forms forms' new c rest rest' enters) y h.0 rest' (independent_reads forms' known rest' below)
          (all_entered (MayFollow forms y) known forms forms' new c rest rest' enters (comes_follow forms y c may) h.1),
      below,
    )
independent_entered known forms forms' new comes from to (On_yes t o on c p q p' apart enters) h =
    (h.0, independent_entered known forms forms' new c p p' enters h.1, independent_same known forms forms' (known_forms known forms forms' new c p p' enters) q h.2)
independent_entered known forms forms' new comes from to (On_no t o on c p q q' apart enters) h =
    (h.0, independent_same known forms forms' (known_forms known forms forms' new c q q' enters) p h.1, independent_entered known forms forms' new c q q' enters h.2)

-- ---- the limits

-- what comes is counted once
abbrev pub one_item : Option Item → ℕ
one_item (Some x) = 1
one_item None = 0

abbrev pub one_memory : Option Item → ℕ
one_memory (Some x) = if is_memory x then 1 else 0
one_memory None = 0

abbrev pub one_test : Option Item → ℕ
one_test (Some x) = 0
one_test None = 1

pub counted : (known : ℕ → Bool) (forms forms' : ℕ → Form) (new : Option ℕ) (comes : Option Item) (from to : Front)
    → EntersFront known forms forms' new comes from to
    → (item_count to ≡ one_item comes + item_count from) × (memory_count to ≡ one_memory comes + memory_count from) × (test_count to ≡ one_test comes + test_count from)
counted known forms forms' new comes from to (Lands tag origin x t left reads isnew none same rises) = (refl, refl, refl)
counted known forms forms' new comes from to (Lands_renamed tag origin name stood t left reads isnew is gives rises) = (refl, refl, refl)
counted known forms forms' new comes from to (Lands_test tag origin on t p q reads none same divides) = (refl, refl, refl)
counted known forms forms' new comes from to (Lands_once t o on tag origin tag' origin' name stood other c c' p q l m equal reads isnew is gives rises rises') = (refl, refl, refl)
counted known forms forms' new comes from to (Behind_item t o y c rest rest' may apart enters) =
    let h = counted known forms forms' new c rest rest' enters in
    let a = h.0 in let b = h.1 in
    (omega arith, omega arith, h.2)
counted known forms forms' new comes from to (On_yes t o on c p q p' apart enters) =
    let h = counted known forms forms' new c p p' enters in
    let a = h.0 in let b = h.1 in let d = h.2 in
    (omega arith, omega arith, omega arith)
counted known forms forms' new comes from to (On_no t o on c p q q' apart enters) =
    let h = counted known forms forms' new c q q' enters in
    let a = h.0 in let b = h.1 in let d = h.2 in
    (omega arith, omega arith, omega arith)

within_more : (limits : Limits) (comes : Option Item) (from to : Front) → HasSpace limits comes from → WithinLimits limits from
    → item_count to ≡ one_item comes + item_count from → memory_count to ≡ one_memory comes + memory_count from
    → test_count to ≡ one_test comes + test_count from → WithinLimits limits to
within_more limits (Some x) from to room within a b c = record {
  items = let r = room.0 in omega arith;
  memory = elim (is_memory x) as (λ m. (m ≡ true → memory_count from < limits.mem) → memory_count to ≡ (if m then 1 else 0) + memory_count from → memory_count to ≤ limits.mem) [
    | true ↦ λ r e. (let h = r refl in omega arith)
    | false ↦ λ r e. (let h = within.memory in omega arith)
  ] room.1 b;
  tests = let h = within.tests in omega arith;
}
within_more limits None from to room within a b c = record {
  items = let h = within.items in omega arith;
  memory = let h = within.memory in omega arith;
  tests = omega arith;
}

pub within_entered : (known : ℕ → Bool) (forms forms' : ℕ → Form) (new : Option ℕ) (limits : Limits) (comes : Option Item) (from to : Front)
    → EntersFront known forms forms' new comes from to → HasSpace limits comes from → WithinLimits limits from → WithinLimits limits to
within_entered known forms forms' new limits comes from to enters room within =
    let h = counted known forms forms' new comes from to enters in
    within_more limits comes from to room within h.0 h.1 h.2
