-- An item or test that comes into the front keeps the walk and its forms.
use Rattle.std.proofs.Common.{◌≡◌, ℕ, Bool, true, false, List, [], ◌∷◌, ◌++◌, Option, Some, None, refl, sym, ◌∙◌, ap, subst, arith}
use Rattle.std.specs.Prelude.{IfSome, ℤ, ◌+ℤ◌, ◌*ℤ◌, if◌then◌else◌, nat_eq}
use Rattle.std.specs.List.{AllByRecursion}
use Rattle.std.specs.Int.{w32, int_wrap}
use Rattle.std.proofs.lemmas.Bool.{eq-eqb}
use Rattle.pc_word.specs.declared.item.Item.{Item}
use Rattle.pc_word.specs.declared.item.Item.TheVariants.{Bin, Copy, Load, Store, Print, Read, More}
use Rattle.pc_word.specs.declared.item.Operand.{Operand}
use Rattle.pc_word.specs.declared.item.Operand.TheVariants.{Name, Lit}
use Rattle.pc_word.specs.declared.item.MachineFault.{MachineFault}
use Rattle.pc_word.specs.Word.{holds, word_apply}
use Rattle.pc_word.specs.Run.{Begins}
use Rattle.pc_word.proofs.Runs.{Begins-refl, Begins-after}
use Rattle.pc_word.specs.State.{State}
use Rattle.pc_word.specs.Items.{operand_value, dest_of, value_of, operands_of, reads}
use Rattle.pc_word.specs.Commit.{prints_of, fault_of, writes}
use Rattle.pc_word.proofs.Lists.{all_imply}
use Rattle.pc_window.specs.Tree.{Tree, Pending, Undecided, Front, Split, Unfinished, whole}
use Rattle.pc_window.specs.Walk.{Walked, IsWhole, printing, unless_fault, after_item, walk}
use Rattle.pc_window.proofs.Shown.{walk_length, behind_length, front_shown, shown}
use Rattle.pc_linear.specs.declared.term.Term.{Term}
use Rattle.pc_linear.specs.Form.{Form, says, sum_of, Means}
use Rattle.pc_linear.specs.Combine.{variable_form}
use Rattle.pc_window.specs.Hold.{operand_form, DefinedMeans, Side, DefinedHold, KnownHold}
use Rattle.pc_window.specs.Names.{IsKnown, ReadsKnown, IsNew, and_dest, Scoped, NotWritten}
use Rattle.pc_window.specs.Jump.{combined, Without, NewForm, GivesForm, MayComeBehind, EntersFront, Lands, Lands_renamed, Lands_test, Lands_once, Behind_item, On_yes, On_no}
use Rattle.pc_window.specs.Opening.{changed}
use Rattle.pc_linear.proofs.Forms.{combine_means, variable_means}
use Rattle.pc_window.proofs.Undisturbed.{operand-form, operand-after}
use Rattle.pc_window.proofs.Rising.{SameForms, SameBut, Still, still_at_test, writes_carried, forms_carried, known_forms_after, new_to_both, whole_below, risen, kept_form, divided}
use Rattle.pc_word.specs.Naming.{with_dest}
use Rattle.pc_word.proofs.Truth.{or_second}

-- ---- the form of a new name

-- what `combine` gives is a form of what an item writes
combined-fits : (lengths : List ℕ) (known : ℕ → Bool) (σ : ℕ → ℤ) (forms : ℕ → Form) (s : State) → KnownHold known σ forms s → (x : Item) → ReadsKnown known x
    → (f : Form) → combined forms x ≡ Some f → Means σ f (value_of lengths s x)
combined-fits lengths known σ forms s holds (Bin op d l r) reads f is =
    subst (λ (o : Option Form). IfSome o (λ h. Means σ h (word_apply op (operand_value s.names l) (operand_value s.names r)))) is
    (combine_means σ op (operand_form forms l) (operand_form forms r) (operand_value s.names l) (operand_value s.names r)
    (operand-form known σ forms s holds l reads.0) (operand-form known σ forms s holds r reads.1.0))
combined-fits lengths known σ forms s holds (Copy d from) reads f is = absurd (cc)
combined-fits lengths known σ forms s holds (Load d a i) reads f is = absurd (cc)
combined-fits lengths known σ forms s holds (Store a i v) reads f is = absurd (cc)
combined-fits lengths known σ forms s holds (Print v) reads f is = absurd (cc)
combined-fits lengths known σ forms s holds (Read d) reads f is = absurd (cc)
combined-fits lengths known σ forms s holds (More d) reads f is = absurd (cc)

-- values of form variables in which one has another value
abbrev pub with_variable : (ℕ → ℤ) → ℕ → ℤ → ℕ → ℤ
with_variable σ v a u = if nat_eq v u then a else σ u

without-sum : (σ : ℕ → ℤ) (v : ℕ) (a : ℤ) (terms : List Term) → AllByRecursion (λ term. nat_eq v term.variable ≡ false) terms
    → sum_of (with_variable σ v a) terms ≡ sum_of σ terms
without-sum σ v a [] h = refl
without-sum σ v a (term ∷ terms) h =
    ap (λ (b : Bool). (term.factor *ℤ (if b then a else σ term.variable)) +ℤ sum_of (with_variable σ v a) terms) h.0
    ∙ ap (λ (z : ℤ). (term.factor *ℤ σ term.variable) +ℤ z) (without-sum σ v a terms h.1)

-- a form without the variable means what it meant
without-means : (σ : ℕ → ℤ) (v : ℕ) (a : ℤ) (form : Form) (value : ℤ) → Without v form → Means σ form value → Means (with_variable σ v a) form value
without-means σ v a form value h m = by_terms form.terms h m
  where
    by_terms : (terms : List Term) → AllByRecursion (λ term. nat_eq v term.variable ≡ false) terms → says σ terms form.constant value → says (with_variable σ v a) terms form.constant value
    by_terms [] h m = m
    by_terms (t ∷ ts) h m = m ∙ ap (λ (z : ℤ). int_wrap w32 (z +ℤ form.constant)) (sym (without-sum σ v a (t ∷ ts) h))

-- and the variable alone has the new one
variable-value : (σ : ℕ → ℤ) (v : ℕ) (a : ℤ) → Means (with_variable σ v a) (variable_form v) a
variable-value σ v a = variable_means (with_variable σ v a) v a (ap (λ (b : Bool). if b then a else σ v) (eq-eqb v v refl))

-- values of the form variables with which a new name has the value of its form
pub record Given (lengths : List ℕ) (σ : ℕ → ℤ) (forms forms' : ℕ → Form) (x : Item) (new : Option ℕ) (s : State) : Type 0 where
  pub values : ℕ → ℤ
  pub same_forms : SameForms new σ forms values forms'
  pub writes_form : DefinedMeans values forms' (dest_of x) (value_of lengths s x)

other_form : (forms : ℕ → Form) (name : ℕ) (form : Form) (y : ℕ) → nat_eq name y ≡ false → changed forms name form y ≡ forms y
other_form forms name form y e = ap (λ (b : Bool). if b then form else forms y) e

own_form : (forms : ℕ → Form) (name : ℕ) (form : Form) → changed forms name form name ≡ form
own_form forms name form = ap (λ (b : Bool). if b then form else forms name) (eq-eqb name name refl)

given : (lengths : List ℕ) (known : ℕ → Bool) (σ : ℕ → ℤ) (forms forms' : ℕ → Form) (s : State) → KnownHold known σ forms s → (x : Item) → ReadsKnown known x
    → (new : Option ℕ) → new ≡ dest_of x → GivesForm forms forms' x new → Given lengths σ forms forms' x new s
given lengths known σ forms forms' s holds x reads None is gives = record {
  values = σ;
  same_forms = λ y e v m. subst (λ (f : ℕ → Form). Means σ (f y) v) (sym gives) m;
  writes_form = subst (λ (d : Option ℕ). DefinedMeans σ forms' d (value_of lengths s x)) is tt;
}
given lengths known σ forms forms' s holds x reads (Some name) is gives =
    by_form (combined forms x) refl gives.1
  where
    place : (σ' : ℕ → ℤ) → Means σ' gives.0 (value_of lengths s x) → DefinedMeans σ' forms' (dest_of x) (value_of lengths s x)
    place σ' h = subst (λ (d : Option ℕ). DefinedMeans σ' forms' d (value_of lengths s x)) is
        (subst (λ (f : Form). Means σ' f (value_of lengths s x)) (sym (ap (λ (f : ℕ → Form). f name) gives.2 ∙ own_form forms name gives.0)) h)

    by_form : (c : Option Form) → combined forms x ≡ c → NewForm forms c gives.0 → Given lengths σ forms forms' x (Some name) s
    by_form (Some f) e new = record {
      values = σ;
      same_forms = λ y d v m. subst (λ (f : Form). Means σ f v) (sym (ap (λ (g : ℕ → Form). g y) gives.2 ∙ other_form forms name gives.0 y d)) m;
      writes_form = place σ (subst (λ (g : Form). Means σ g (value_of lengths s x)) (sym new) (combined-fits lengths known σ forms s holds x reads f e));
    }
    by_form None e new = record {
      values = with_variable σ new.0 (value_of lengths s x);
      same_forms = λ y d v m. subst (λ (f : Form). Means (with_variable σ new.0 (value_of lengths s x)) f v) (sym (ap (λ (g : ℕ → Form). g y) gives.2 ∙ other_form forms name gives.0 y d))
          (without-means σ new.0 (value_of lengths s x) (forms y) v (new.2 y) m);
      writes_form = place (with_variable σ new.0 (value_of lengths s x))
          (subst (λ (g : Form). Means (with_variable σ new.0 (value_of lengths s x)) g (value_of lengths s x)) (sym new.1) (variable-value σ new.0 (value_of lengths s x)));
    }

-- ---- the front

-- names known before the window are known on the way down its front
abbrev pub Within : (ℕ → Bool) → (ℕ → Bool) → Type 0
Within base known = (x : ℕ) → base x ≡ true → known x ≡ true

pub known_within : (base known : ℕ → Bool) → Within base known → (o : Operand) → IsKnown base o → IsKnown known o
known_within base known within (Name x) is = within x is
known_within base known within (Lit value) is = tt

pub reads_within : (base known : ℕ → Bool) → Within base known → (x : Item) → ReadsKnown base x → ReadsKnown known x
reads_within base known within x h = all_imply (IsKnown base) (IsKnown known) (operands_of x) (known_within base known within) h

-- what comes writes a name that is not known
abbrev pub NewTo : (ℕ → Bool) → Option Item → Type 0
NewTo known (Some x) = IsNew known (dest_of x)
NewTo known None = Unit {0}

pub new_below : (forms : ℕ → Form) (known : ℕ → Bool) (y : Item) (comes : Option Item) → MayComeBehind forms y comes → NewTo known comes → NewTo (and_dest known y) comes
new_below forms known y (Some x) may new = new_to_both known y (dest_of x) new may.1
new_below forms known y None may new = tt

-- all forms but that of the new name are the same
new_forms_of : (forms forms' : ℕ → Form) (x : Item) (new : Option ℕ) → GivesForm forms forms' x new
    → (y : ℕ) → writes new y ≡ false → forms' y ≡ forms y
new_forms_of forms forms' x None gives y d = ap (λ (f : ℕ → Form). f y) gives
new_forms_of forms forms' x (Some name) gives y d = ap (λ (g : ℕ → Form). g y) gives.2 ∙ other_form forms name gives.0 y d

pub entered_forms : (base : ℕ → Bool) (forms forms' : ℕ → Form) (new : Option ℕ) (comes : Option Item) (from to : Front)
    → EntersFront base forms forms' new comes from to → (y : ℕ) → writes new y ≡ false → forms' y ≡ forms y
entered_forms base forms forms' new comes from to (Lands tag origin x t left reads isnew none same rises) y d = ap (λ (f : ℕ → Form). f y) same
entered_forms base forms forms' new comes from to (Lands_renamed tag origin name stood t left reads isnew is gives rises) y d = new_forms_of forms forms' (with_dest name stood) new gives y d
entered_forms base forms forms' new comes from to (Lands_test tag origin on t p q reads none same divides) y d = ap (λ (f : ℕ → Form). f y) same
entered_forms base forms forms' new comes from to (Lands_once t o on tag origin tag' origin' name stood other c c' p q l m equal reads isnew is gives rises rises') y d =
    new_forms_of forms forms' (with_dest name stood) new gives y d
entered_forms base forms forms' new comes from to (Behind_item t o z c rest rest' may apart enters) y d = entered_forms base forms forms' new c rest rest' enters y d
entered_forms base forms forms' new comes from to (On_yes t o on c p q p' apart enters) y d = entered_forms base forms forms' new c p p' enters y d
entered_forms base forms forms' new comes from to (On_no t o on c p q q' apart enters) y d = entered_forms base forms forms' new c q q' enters y d

-- what is known of a window before something comes into its front
pub record Stands (lengths : List ℕ) (base known : ℕ → Bool) (σ : ℕ → ℤ) (forms : ℕ → Form) (comes : Option Item) (from : Front) (s : State) : Type 0 where
  pub within : Within base known
  pub scoped : Scoped known (whole from)
  pub new : NewTo known comes
  pub of_known : KnownHold known σ forms s
  pub defines : DefinedHold σ forms lengths (whole from) s

-- and afterwards: the walk, the forms for some values of the form variables, and how much of the walk is unfinished
pub record Outcome (σ : ℕ → ℤ) (forms forms' : ℕ → Form) (new : Option ℕ) (before now : Walked) (defines : (ℕ → ℤ)
    → Type 0) (length length' : ℕ) (prints prints' : ℕ → List ℤ) : Type 0 where
  pub values : ℕ → ℤ
  pub same_forms : SameForms new σ forms values forms'
  pub still : Still before now (defines values) length length' prints prints'

abbrev pub Entered : List ℕ → (ℕ → ℤ) → (ℕ → Form) → (ℕ → Form) → Option ℕ → Front → Front → State → Type 0
Entered lengths σ forms forms' new from to s =
    Outcome σ forms forms' new (walk lengths (whole from) s) (walk lengths (whole to) s) (λ values. DefinedHold values forms' lengths (whole to) s)
    (behind_length lengths from s) (behind_length lengths to s) (front_shown lengths from s) (front_shown lengths to s)

-- on both sides of a test
pub outcome_at_test : (σ : ℕ → ℤ) (forms forms' : ℕ → Form) (new : Option ℕ) (b : Bool) (wy wn wy' wn' : Walked) (Dy Dn : Type 0) (Dy' Dn' : (ℕ → ℤ) → Type 0)
    (ly ln ly' ln' : ℕ) (py pn py' pn' : ℕ → List ℤ)
    → (IsWhole wy → Dy → Outcome σ forms forms' new wy wy' Dy' ly ly' py py') → (IsWhole wn → Dn → Outcome σ forms forms' new wn wn' Dn' ln ln' pn pn')
    → IsWhole (if b then wy else wn) → Side b Dy Dn
    → Outcome σ forms forms' new (if b then wy else wn) (if b then wy' else wn') (λ v. Side b (Dy' v) (Dn' v)) (if b then ly else ln) (if b then ly' else ln')
    (λ n. if b then py n else pn n) (λ n. if b then py' n else pn' n)
outcome_at_test σ forms forms' new true wy wn wy' wn' Dy Dn Dy' Dn' ly ln ly' ln' py pn py' pn' f g ok h =
    let k = f ok h in record {
      values = k.values;
      same_forms = k.same_forms;
      still =
          record { same = k.still.same; defines = k.still.defines; no_longer = k.still.no_longer; no_later = k.still.no_later };
    }
outcome_at_test σ forms forms' new false wy wn wy' wn' Dy Dn Dy' Dn' ly ln ly' ln' py pn py' pn' f g ok h =
    let k = g ok h in record {
      values = k.values;
      same_forms = k.same_forms;
      still =
          record { same = k.still.same; defines = k.still.defines; no_longer = k.still.no_longer; no_later = k.still.no_later };
    }

-- the side of a test where nothing comes
untouched : (lengths : List ℕ) (σ : ℕ → ℤ) (forms forms' : ℕ → Form) (new : Option ℕ) (side : Front) (s : State) → SameForms new σ forms σ forms' → NotWritten new (whole side)
    → DefinedHold σ forms lengths (whole side) s → Entered lengths σ forms forms' new side side s
untouched lengths σ forms forms' new side s same apart d =
    record {
      values = σ;
      same_forms = same;
      still = record {
        same =
            refl;
        defines = forms_carried lengths new σ forms σ forms' same (whole side) s apart d;
        no_longer = omega arith;
        no_later = λ n. Begins-refl _;
      };
    }

-- an item has the name that it has
pub same_as : (x : Item) → SameBut x x
same_as (Bin op d l r) = record { name = d; is = refl }
same_as (Copy d f) = record { name = d; is = refl }
same_as (Load d a i) = record { name = d; is = refl }
same_as (Store a i v) = record { name = 0; is = refl }
same_as (Print v) = record { name = 0; is = refl }
same_as (Read d) = record { name = d; is = refl }
same_as (More d) = record { name = d; is = refl }

-- the forms of a window in which nothing gets a new name
same_forms_all : (lengths : List ℕ) (σ : ℕ → ℤ) (forms forms' : ℕ → Form) (tree : Tree) (s : State)
    → forms' ≡ forms → DefinedHold σ forms lengths tree s → DefinedHold σ forms' lengths tree s
same_forms_all lengths σ forms forms' tree s same h = subst (λ (f : ℕ → Form). DefinedHold σ f lengths tree s) (sym same) h

-- an item before both sides of a test
item_before_test : (f : Option MachineFault) (p : List ℤ) (b : Bool) (v w : Walked)
    → unless_fault f (printing p (if b then v else w)) ≡ (if b then unless_fault f (printing p v) else unless_fault f (printing p w))
item_before_test f p true v w = refl
item_before_test f p false v w = refl

prints_before_test : (p : List ℤ) (b : Bool) (xs ys : List ℤ) → (if b then p ++ xs else p ++ ys) ≡ p ++ (if b then xs else ys)
prints_before_test p true xs ys = refl
prints_before_test p false xs ys = refl

pub entered : (lengths : List ℕ) (base : ℕ → Bool) (σ : ℕ → ℤ) (forms forms' : ℕ → Form) (new : Option ℕ) (known : ℕ → Bool) (comes : Option Item) (from to : Front) (s : State)
    → EntersFront base forms forms' new comes from to → Stands lengths base known σ forms comes from s → IsWhole (walk lengths (whole from) s)
    → Entered lengths σ forms forms' new from to s
entered lengths base σ forms forms' new known comes from to s (Lands tag origin x t left reads isnew none same rises) h ok =
    let w = risen lengths σ forms σ forms tag origin x x known false t left s rises
    (record { scoped = h.scoped; reads = reads_within base known h.within x reads; new = h.new; same_but = same_as x; same_forms = λ y d v m. m; of_known = h.of_known; defines = h.defines }) ok in
    record {
      values = σ;
      same_forms = λ y d v m. subst (λ (f : ℕ → Form). Means σ (f y) v) (sym same) m;
      still = record {
        same = w.same;
        defines = same_forms_all lengths σ forms forms' (Pending tag origin x left) s same
            (kept_form lengths σ forms tag origin x known false t left s rises refl h.scoped (reads_within base known h.within x reads) h.of_known h.defines, w.defines);
        no_longer = w.no_longer;
        no_later = w.no_later;
      };
    }
entered lengths base σ forms forms' new known comes from to s (Lands_renamed tag origin name stood t left reads isnew is gives rises) h ok =
    let x = with_dest name stood in
    let g : Given lengths σ forms forms' x new s = given lengths known σ forms forms' s h.of_known x (reads_within base known h.within x reads) new is gives in
    let w = risen lengths σ forms g.values forms' tag origin stood x known true t left s rises
    (record {
      scoped = h.scoped;
      reads = reads_within base known h.within x reads;
      new = h.new;
      same_but = record { name = name; is = refl };
      same_forms = subst (λ (d : Option ℕ). SameForms d σ forms g.values forms') is g.same_forms;
      of_known = h.of_known;
      defines = h.defines;
    }) ok in
    record {
      values = g.values;
      same_forms = g.same_forms;
      still = record { same = w.same; defines = (g.writes_form, w.defines); no_longer = w.no_longer; no_later = w.no_later };
    }
entered lengths base σ forms forms' new known comes from to s (Lands_test tag origin on t p q reads none same divides) h ok =
    let w : (b : Bool) → holds (operand_value s.names on) ≡ b
    → Still (walk lengths t s) (walk lengths (Undecided tag origin on p q) s) (DefinedHold σ forms lengths (Undecided tag origin on p q) s) (walk_length lengths t s)
    (behind_length lengths (Split tag origin on (Unfinished p) (Unfinished q)) s) (shown lengths t s) (front_shown lengths (Split tag origin on (Unfinished p) (Unfinished q)) s) =
    λ b. elim b as (λ b. holds (operand_value s.names on) ≡ b
    → Still (walk lengths t s) (walk lengths (Undecided tag origin on p q) s) (DefinedHold σ forms lengths (Undecided tag origin on p q) s) (walk_length lengths t s)
    (behind_length lengths (Split tag origin on (Unfinished p) (Unfinished q)) s) (shown lengths t s) (front_shown lengths (Split tag origin on (Unfinished p) (Unfinished q)) s)) [
      | true ↦ λ e. (let k = divided lengths σ forms tag origin on true known t p q s divides e (known_within base known h.within on reads) h.scoped h.defines in record {
        same = ap (λ (c : Bool). if c then walk lengths p s else walk lengths q s) e ∙ k.same;
        defines = subst (λ (c : Bool). Side c (DefinedHold σ forms lengths p s) (DefinedHold σ forms lengths q s)) (sym e) k.defines;
        no_longer = (let l = k.no_longer in let f = ap (λ (c : Bool). if c then walk_length lengths p s else walk_length lengths q s) e in omega arith);
        no_later = λ n. subst (λ (c : Bool). Begins (shown lengths t s n) (if c then shown lengths p s n else shown lengths q s n)) (sym e) (k.no_later n);
      })
      | false ↦ λ e. (let k = divided lengths σ forms tag origin on false known t p q s divides e (known_within base known h.within on reads) h.scoped h.defines in record {
        same = ap (λ (c : Bool). if c then walk lengths p s else walk lengths q s) e ∙ k.same;
        defines = subst (λ (c : Bool). Side c (DefinedHold σ forms lengths p s) (DefinedHold σ forms lengths q s)) (sym e) k.defines;
        no_longer = (let l = k.no_longer in let f = ap (λ (c : Bool). if c then walk_length lengths p s else walk_length lengths q s) e in omega arith);
        no_later = λ n. subst (λ (c : Bool). Begins (shown lengths t s n) (if c then shown lengths p s n else shown lengths q s n)) (sym e) (k.no_later n);
      })
    ] in
    let k = w (holds (operand_value s.names on)) refl in
    record {
      values = σ;
      same_forms = λ y d v m. subst (λ (f : ℕ → Form). Means σ (f y) v) (sym same) m;
      still = record { same = k.same; defines = same_forms_all lengths σ forms forms' (Undecided tag origin on p q) s same k.defines; no_longer = k.no_longer; no_later = k.no_later };
    }
entered lengths base σ forms forms' new known comes from to s (Lands_once t o on tag origin tag' origin' name stood other c c' p q l m equal reads isnew is gives rises rises') h ok =
    let x = with_dest name stood in
    let xreads : ReadsKnown known x = reads_within base known h.within x reads in
    let g : Given lengths σ forms forms' x new s = given lengths known σ forms forms' s h.of_known x xreads new is gives in
    let same_forms : SameForms (dest_of x) σ forms g.values forms' = subst (λ (d : Option ℕ). SameForms d σ forms g.values forms') is g.same_forms in
    let k = still_at_test (holds (operand_value s.names on)) (holds (operand_value (after_item lengths x s).names on))
    (walk lengths p s) (walk lengths q s) (walk lengths (Pending tag origin x l) s) (walk lengths (Pending tag origin x m) s)
    (DefinedHold σ forms lengths p s) (DefinedHold σ forms lengths q s) (DefinedHold g.values forms' lengths l (after_item lengths x s))
    (DefinedHold g.values forms' lengths m (after_item lengths x s))
    (walk_length lengths p s) (walk_length lengths q s) (walk_length lengths l (after_item lengths x s)) (walk_length lengths m (after_item lengths x s))
    (shown lengths p s) (shown lengths q s) (λ n. prints_of s (x ∷ []) ++ shown lengths l (after_item lengths x s) n) (λ n. prints_of s (x ∷ []) ++ shown lengths m (after_item lengths x s) n)
    (ap holds (operand-after lengths known x s on h.new h.scoped.0))
    (λ ok' d. risen lengths σ forms g.values forms' tag origin stood x known c p l s rises
    (record { scoped = h.scoped.1; reads = xreads; new = h.new; same_but = record { name = name; is = refl }; same_forms = same_forms; of_known = h.of_known; defines = d }) ok')
    (λ ok' d. risen lengths σ forms g.values forms' tag' origin' other x known c' q m s rises'
    (record { scoped = h.scoped.2; reads = xreads; new = h.new; same_but = record { name = name; is = sym equal }; same_forms = same_forms; of_known = h.of_known; defines = d }) ok')
    ok h.defines in
    record {
      values = g.values;
      same_forms = g.same_forms;
      still = record {
        same = item_before_test (fault_of lengths s (x ∷ [])) (prints_of s (x ∷ [])) (holds (operand_value (after_item lengths x s).names on))
            (walk lengths l (after_item lengths x s)) (walk lengths m (after_item lengths x s)) ∙ k.same;
        defines = (g.writes_form, k.defines);
        no_longer = k.no_longer;
        no_later = λ n. subst (λ (y : List ℤ). Begins (if holds (operand_value s.names on) then shown lengths p s n else shown lengths q s n) y)
            (prints_before_test (prints_of s (x ∷ [])) (holds (operand_value (after_item lengths x s).names on)) (shown lengths l (after_item lengths x s) n)
            (shown lengths m (after_item lengths x s) n)) (k.no_later n);
      };
    }
entered lengths base σ forms forms' new known comes from to s (Behind_item t o y c rest rest' may apart enters) h ok =
    let w : Entered lengths σ forms forms' new rest rest' (after_item lengths y s) =
    entered lengths base σ forms forms' new (and_dest known y) c rest rest' (after_item lengths y s) enters
    (record {
      within = λ x is. or_second (writes (dest_of y) x) (known x) (h.within x is);
      scoped = h.scoped.2;
      new = new_below forms known y c may h.new;
      of_known = known_forms_after lengths known σ forms y s h.of_known h.defines.0;
      defines = h.defines.1;
    })
    (whole_below (fault_of lengths s (y ∷ [])) (prints_of s (y ∷ [])) (walk lengths (whole rest) (after_item lengths y s)) ok) in
    record {
      values = w.values;
      same_forms = w.same_forms;
      still = record {
        same = ap (λ (u : Walked). unless_fault (fault_of lengths s (y ∷ [])) (printing (prints_of s (y ∷ [])) u)) w.still.same;
        defines = (writes_carried new σ forms w.values forms' w.same_forms (dest_of y) (value_of lengths s y) apart h.defines.0, w.still.defines);
        no_longer = w.still.no_longer;
        no_later = λ n. Begins-after (prints_of s (y ∷ [])) _ _ (w.still.no_later n);
      };
    }
entered lengths base σ forms forms' new known comes from to s (On_yes t o on c p q p' apart enters) h ok =
    outcome_at_test σ forms forms' new (holds (operand_value s.names on))
    (walk lengths (whole p) s) (walk lengths (whole q) s) (walk lengths (whole p') s) (walk lengths (whole q) s)
    (DefinedHold σ forms lengths (whole p) s) (DefinedHold σ forms lengths (whole q) s) (λ v. DefinedHold v forms' lengths (whole p') s) (λ v. DefinedHold v forms' lengths (whole q) s)
    (behind_length lengths p s) (behind_length lengths q s) (behind_length lengths p' s) (behind_length lengths q s)
    (front_shown lengths p s) (front_shown lengths q s) (front_shown lengths p' s) (front_shown lengths q s)
    (λ ok' d. entered lengths base σ forms forms' new known c p p' s enters
    (record { within = h.within; scoped = h.scoped.1; new = h.new; of_known = h.of_known; defines = d }) ok')
    (λ ok' d. untouched lengths σ forms forms' new q s (λ y e v m. subst (λ (f : Form). Means σ f v) (sym (entered_forms base forms forms' new c p p' enters y e)) m) apart d)
    ok h.defines
entered lengths base σ forms forms' new known comes from to s (On_no t o on c p q q' apart enters) h ok =
    outcome_at_test σ forms forms' new (holds (operand_value s.names on))
    (walk lengths (whole p) s) (walk lengths (whole q) s) (walk lengths (whole p) s) (walk lengths (whole q') s)
    (DefinedHold σ forms lengths (whole p) s) (DefinedHold σ forms lengths (whole q) s) (λ v. DefinedHold v forms' lengths (whole p) s) (λ v. DefinedHold v forms' lengths (whole q') s)
    (behind_length lengths p s) (behind_length lengths q s) (behind_length lengths p s) (behind_length lengths q' s)
    (front_shown lengths p s) (front_shown lengths q s) (front_shown lengths p s) (front_shown lengths q' s)
    (λ ok' d. untouched lengths σ forms forms' new p s (λ y e v m. subst (λ (f : Form). Means σ f v) (sym (entered_forms base forms forms' new c q q' enters y e)) m) apart d)
    (λ ok' d. entered lengths base σ forms forms' new known c q q' s enters
    (record { within = h.within; scoped = h.scoped.2; new = h.new; of_known = h.of_known; defines = d }) ok')
    ok h.defines
