-- Forms rewritten, and bases.
use Rattle.std.proofs.Common.{◌≡◌, ℕ, zero, suc, ◌+◌, ◌<◌, ◌≤◌, List, [], ◌∷◌, Option, Some, None, length, drop, refl, sym, ◌∙◌, ap, subst, arith}
use Rattle.std.specs.Prelude.{ℤ, pos, negsuc, Bool, true, false, if◌then◌else◌, nat_eq, nat_lt, slice_index_or}
use Rattle.std.specs.List.{AllByRecursion}
use Rattle.std.specs.Int.{w32, int_wrap}
use Rattle.std.proofs.lemmas.List.{at_drop_more}
use Rattle.pc_linear.specs.Form.{Form, most_terms, factor_of}
use Rattle.pc_linear.specs.Combine.{plus, variable_form, fitting}
use Rattle.pc_window.specs.declared.names.NameTable.{NameTable}
use Rattle.pc_window.specs.Opening.{Supply, FormBelow, FormsBelow}
use Rattle.pc_window.specs.Rebasing.{with_form, with_variable, settled, rewritten_by, rewritten, rewrite_all, one_variable_more, make_base}
use Rattle.pc_window.specs.StoredWindow.{forms_in, supply_in}
use Rattle.pc_window.proofs.Forms.{plus-below, TermsBelow-later}
use Rattle.pc_rebase.specs.models.Rewriting.{settled_as}

-- ---- what is new stays new

-- form variables from a number on are new, and some of these are taken
record Grown (m : ℕ) (names : Supply) : Type 0 where
  more : m ≤ names.next_variable
  below : FormsBelow names

variable_grown : (m : ℕ) (names : Supply) (n : ℕ) → Grown m names → Grown m (with_variable names n)
variable_grown m names n g = let le = g.more in record {
  more = omega arith;
  below = record { form = λ x. by x (nat_eq n x) (TermsBelow-later names.next_variable (suc names.next_variable) (names.forms x).terms (omega arith) (g.below.form x)) };
}
  where
    by : (x : ℕ) (b : Bool) → FormBelow (suc names.next_variable) (names.forms x) → FormBelow (suc names.next_variable) (if b then variable_form names.next_variable else names.forms x)
    by x true h = (omega arith, tt)
    by x false h = h

form_grown : (m : ℕ) (names : Supply) (n : ℕ) (f : Form) → FormBelow m f → Grown m names → Grown m (with_form names n f)
form_grown m names n f fb g = record {
  more = g.more;
  below = record { form = λ x. by x (nat_eq n x) (TermsBelow-later m names.next_variable f.terms g.more fb) (g.below.form x) };
}
  where
    by : (x : ℕ) (b : Bool) → FormBelow names.next_variable f → FormBelow names.next_variable (names.forms x) → FormBelow names.next_variable (if b then f else names.forms x)
    by x true h k = h
    by x false h k = k

settled_grown : (m : ℕ) (names : Supply) (n : ℕ) (f : Form) → FormBelow m f → Grown m names → Grown m (settled names n f)
settled_grown m names n f fb g = by (nat_lt most_terms (length f.terms))
  where
    by : (b : Bool) → Grown m (if b then with_variable names n else with_form names n f)
    by true = variable_grown m names n g
    by false = form_grown m names n f fb g

rewritten-below : (m : ℕ) (k : ℤ) (d f : Form) → FormBelow m d → FormBelow m f → FormBelow m (rewritten_by k d f)
rewritten-below m (pos zero) d f db fb = fb
rewritten-below m (pos (suc n)) d f db fb = plus-below m f (pos (suc n)) d fb db
rewritten-below m (negsuc n) d f db fb = plus-below m f (negsuc n) d fb db

rewrite_all_grown : (m x : ℕ) (d : Form) (old : ℕ → Form) (ns : List ℕ) (names : Supply) → FormBelow m d → ((n : ℕ) → FormBelow m (old n)) → Grown m names
    → Grown m (rewrite_all x d old ns names)
rewrite_all_grown m x d old [] names db ob g = g
rewrite_all_grown m x d old (n ∷ ns) names db ob g =
    rewrite_all_grown m x d old ns (settled names n (rewritten x d (old n))) db ob
    (settled_grown m names n (rewritten x d (old n)) (rewritten-below m (int_wrap w32 (factor_of (old n).terms x)) d (old n) db (ob n)) g)

-- a new base leaves new what is new
pub make_base-below : (all : List ℕ) (p x : ℕ) (names : Supply) → FormsBelow names → FormsBelow (make_base all p x names)
make_base-below all p x names b =
    let y = names.next_variable in
    let later : (n : ℕ) → FormBelow (suc y) (names.forms n) = λ n. TermsBelow-later y (suc y) (names.forms n).terms (omega arith) (b.form n) in
    let g = rewrite_all_grown (suc y) x (plus (variable_form y) (negsuc 0) (names.forms p)) names.forms all (one_variable_more names)
    (plus-below (suc y) (variable_form y) (negsuc 0) (names.forms p) (omega arith, tt) (later p)) later (record { more = omega arith; below = record { form = later } }) in
    g.below

pub with_variable-below : (names : Supply) (n : ℕ) → FormsBelow names → FormsBelow (with_variable names n)
with_variable-below names n b = let g = variable_grown names.next_variable names n (record { more = omega arith; below = b }) in g.below

-- ---- as many names

settled-next : (names : Supply) (n : ℕ) (f : Form) → (settled names n f).next ≡ names.next
settled-next names n f = by (nat_lt most_terms (length f.terms))
  where
    by : (b : Bool) → (if b then with_variable names n else with_form names n f).next ≡ names.next
    by true = refl
    by false = refl

rewrite_all-next : (x : ℕ) (d : Form) (old : ℕ → Form) (ns : List ℕ) (names : Supply) → (rewrite_all x d old ns names).next ≡ names.next
rewrite_all-next x d old [] names = refl
rewrite_all-next x d old (n ∷ ns) names =
    rewrite_all-next x d old ns (settled names n (rewritten x d (old n))) ∙ settled-next names n (rewritten x d (old n))

pub make_base-next : (all : List ℕ) (p x : ℕ) (names : Supply) → (make_base all p x names).next ≡ names.next
make_base-next all p x names =
    rewrite_all-next x (plus (variable_form names.next_variable) (negsuc 0) (names.forms p)) names.forms all (one_variable_more names)

-- ---- one name after another

-- what is settled as a form that fits, or else by a variable
settled_fitting : (names : Supply) (n : ℕ) (f : Form) → settled_as names n (fitting f) ≡ settled names n f
settled_fitting names n f = by (nat_lt most_terms (length f.terms))
  where
    by : (b : Bool) → settled_as names n (if b then None else Some f) ≡ (if b then with_variable names n else with_form names n f)
    by true = refl
    by false = refl

pub one_settled : (x : ℕ) (d : Form) (old : ℕ → Form) (n : ℕ) (names new : Supply) (found : Option Form) → found ≡ fitting (rewritten x d (old n)) → new ≡ settled_as names n found
    → new ≡ settled names n (rewritten x d (old n))
one_settled x d old n names new found is made = made ∙ ap (settled_as names n) is ∙ settled_fitting names n (rewritten x d (old n))

-- a name at a place is below, as all are
pub below_at : (m : ℕ) (ns : List ℕ) (at d : ℕ) → at < length ns → AllByRecursion (λ (n : ℕ). n < m) ns → slice_index_or ns at d < m
below_at m [] at d there h = absurd (omega arith)
below_at m (n ∷ ns) zero d there h = h.0
below_at m (n ∷ ns) (suc at) d there h = below_at m ns at d (omega arith) h.1

pub all_rewritten : (whole : Supply) (x : ℕ) (d : Form) (old : ℕ → Form) (ns : List ℕ) (at : ℕ) (names new : Supply) → at < length ns
    → whole ≡ rewrite_all x d old (drop at ns) names → new ≡ settled names (slice_index_or ns at 0) (rewritten x d (old (slice_index_or ns at 0)))
    → whole ≡ rewrite_all x d old (drop (at + 1) ns) new
all_rewritten whole x d old ns at names new there so_far made =
    so_far ∙ at_drop_more (λ (list : List ℕ). rewrite_all x d old list names) ns at 0 there ∙ ap (rewrite_all x d old (drop (at + 1) ns)) (sym made)

settled_as-next : (names : Supply) (n : ℕ) (found : Option Form) → (settled_as names n found).next ≡ names.next
settled_as-next names n None = refl
settled_as-next names n (Some f) = refl

pub as_many_settled : (names new : NameTable) (n : ℕ) (found : Option Form) → supply_in new ≡ settled_as (supply_in names) n found → length new.forms ≡ length names.forms
as_many_settled names new n found is = ap (λ (s : Supply). s.next) is ∙ settled_as-next (supply_in names) n found

pub ruleset rewriting = (as_many_settled)

-- ---- a new base

module _ (all : List ℕ) (p x : ℕ) (names mid new : NameTable) (old : List Form) (y : ℕ) where
  pub old_below : FormsBelow (supply_in names) → old ≡ names.forms → y ≡ names.next_variable → (n : ℕ) → FormBelow y (forms_in old n)
  old_below b is at n = subst (λ (m : ℕ). FormBelow m (forms_in old n)) (sym at) (subst (λ (forms : List Form). FormBelow names.next_variable (forms_in forms n)) (sym is) (b.form n))

  pub base_made : (f : Form) → old ≡ names.forms → y ≡ names.next_variable → supply_in mid ≡ one_variable_more (supply_in names) → f ≡ forms_in old p
      → supply_in new ≡ rewrite_all x (plus (variable_form y) (negsuc 0) f) (forms_in old) all (supply_in mid) → supply_in new ≡ make_base all p x (supply_in names)
  base_made f is at more form made =
      made ∙ (λ i. rewrite_all x (plus (variable_form (at i)) (negsuc 0) (form i)) (forms_in old) all (more i))
      ∙ (λ i. rewrite_all x (plus (variable_form names.next_variable) (negsuc 0) (forms_in (is i) p)) (forms_in (is i)) all (one_variable_more (supply_in names)))

pub ruleset bases = (old_below, base_made)
