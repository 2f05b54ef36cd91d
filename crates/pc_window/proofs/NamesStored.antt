-- Forms in a list by name.
use Rattle.std.proofs.Common.{◌≡◌, ℕ, zero, suc, List, [], ◌∷◌, ◌++◌, length, Some, None, refl, sym, ◌∙◌, ap, arith}
use Rattle.std.specs.Prelude.{pos, Bool, true, false, if◌then◌else◌, nat_eq, nat_lt}
use Rattle.pc_linear.specs.Form.{Form}
use Rattle.pc_linear.specs.Combine.{constant_form, variable_form}
use Rattle.pc_window.specs.Opening.{with_name, first_supply, first_new}
use Rattle.pc_window.specs.StoredWindow.{forms_in}
use Rattle.pc_window.specs.models.Stored.{variable_forms}

-- a list that is one form longer
forms-more : (forms : List Form) (f : Form) (x : ℕ) → forms_in (forms ++ f ∷ []) x ≡ (if nat_eq (length forms) x then f else forms_in forms x)
forms-more [] f zero = refl
forms-more [] f (suc x) = ap (λ (b : Bool). if b then f else constant_form (pos 0)) (apart x)
  where
    apart : (x : ℕ) → false ≡ nat_eq 0 (suc x)
    apart x = grind arith
forms-more (g ∷ forms) f zero = ap (λ (b : Bool). if b then f else g) (apart (length forms))
  where
    apart : (n : ℕ) → false ≡ nat_eq (suc n) 0
    apart n = grind arith
forms-more (g ∷ forms) f (suc x) = forms-more forms f x ∙ ap (λ (b : Bool). if b then f else forms_in forms x) (below (length forms) x)
  where
    below : (n x : ℕ) → nat_eq n x ≡ nat_eq (suc n) (suc x)
    below n x = by_test (nat_eq n x) refl
      where
        by_test : (b : Bool) → nat_eq n x ≡ b → b ≡ nat_eq (suc n) (suc x)
        by_test true e = grind arith
        by_test false e = grind arith

length-more : (forms : List Form) (f : Form) → length (forms ++ f ∷ []) ≡ suc (length forms)
length-more [] f = refl
length-more (g ∷ forms) f = ap suc (length-more forms f)

-- one more name, with a form
pub one_given : (forms : List Form) (variable : ℕ) (f : Form)
    → (record { forms = forms_in (forms ++ f ∷ []); next = length (forms ++ f ∷ []); next_variable = variable })
    ≡ with_name (record { forms = forms_in forms; next = length forms; next_variable = variable }) (Some f)
one_given forms variable f = λ i. record { forms = λ x. forms-more forms f x i; next = length-more forms f i; next_variable = variable }

-- and with a new form variable
pub one_new : (forms : List Form) (variable : ℕ)
    → (record { forms = forms_in (forms ++ variable_form variable ∷ []); next = length (forms ++ variable_form variable ∷ []); next_variable = suc variable })
    ≡ with_name (record { forms = forms_in forms; next = length forms; next_variable = variable }) None
one_new forms variable =
    λ i. record { forms = λ x. forms-more forms (variable_form variable) x i; next = length-more forms (variable_form variable) i; next_variable = suc variable }

-- the first names
variable_forms-length : (n : ℕ) → length (variable_forms n) ≡ n
variable_forms-length zero = refl
variable_forms-length (suc n) = length-more (variable_forms n) (variable_form n) ∙ ap suc (variable_forms-length n)

variable_forms-at : (n x : ℕ) → forms_in (variable_forms n) x ≡ (if nat_lt x n then variable_form x else constant_form (pos 0))
variable_forms-at zero x = ap (λ (b : Bool). if b then variable_form x else constant_form (pos 0)) (none x)
  where
    none : (x : ℕ) → false ≡ nat_lt x zero
    none x = grind arith
variable_forms-at (suc n) x =
    forms-more (variable_forms n) (variable_form n) x
    ∙ ap (λ (k : ℕ). if nat_eq k x then variable_form n else forms_in (variable_forms n) x) (variable_forms-length n)
    ∙ ap (λ (f : Form). if nat_eq n x then variable_form n else f) (variable_forms-at n x)
    ∙ by_test (nat_eq n x) refl
  where
    same : nat_eq n x ≡ true → (n ≡ x) × (nat_lt x (suc n) ≡ true)
    same e = let s : n ≡ x = grind arith in (s, grind arith)

    other : nat_eq n x ≡ false → nat_lt x n ≡ nat_lt x (suc n)
    other e = by_order (nat_lt x n) refl
      where
        by_order : (b : Bool) → nat_lt x n ≡ b → b ≡ nat_lt x (suc n)
        by_order true p = grind arith
        by_order false p = grind arith

    by_test : (b : Bool) → nat_eq n x ≡ b
        → (if b then variable_form n else if nat_lt x n then variable_form x else constant_form (pos 0)) ≡ (if nat_lt x (suc n) then variable_form x else constant_form (pos 0))
    by_test true e = let s = same e in ap variable_form s.0 ∙ ap (λ (c : Bool). if c then variable_form x else constant_form (pos 0)) (sym s.1)
    by_test false e = ap (λ (c : Bool). if c then variable_form x else constant_form (pos 0)) (other e)

-- the table of the first names
pub first_names : (record { forms = forms_in (variable_forms first_new); next = length (variable_forms first_new); next_variable = first_new }) ≡ first_supply
first_names = λ i. record { forms = λ x. variable_forms-at first_new x i; next = variable_forms-length first_new i; next_variable = first_new }

pub first_stored : (forms : List Form) → forms ≡ variable_forms first_new
    → (record { forms = forms_in forms; next = length forms; next_variable = first_new }) ≡ first_supply
first_stored forms is = rw is (first_names)

pub ruleset names = (one_given, one_new, first_stored)
