-- Forms in a list by name: reading one, and writing one.
use Rattle.std.proofs.Common.{◌≡◌, ℕ, zero, suc, ◌<◌, List, [], ◌∷◌, length, refl, sym, ◌∙◌, ap, arith}
use Rattle.std.specs.Prelude.{Bool, true, false, if◌then◌else◌, nat_eq, slice_set, slice_index_or}
use Rattle.std.proofs.lemmas.Option.{slice_get-get_or}
use Rattle.pc_linear.specs.Form.{Form}
use Rattle.pc_linear.specs.Combine.{variable_form}
use Rattle.pc_window.specs.declared.names.NameTable.{NameTable}
use Rattle.pc_window.specs.Opening.{changed}
use Rattle.pc_window.specs.Rebasing.{with_form, with_variable, one_variable_more}
use Rattle.pc_window.specs.StoredWindow.{form_or_none, forms_in, supply_in}

-- a form that is read
pub form_read : (forms : List Form) (n : ℕ) (blank : Form) → n < length forms → slice_index_or forms n blank ≡ forms_in forms n
form_read forms n blank there = sym (ap form_or_none (slice_get-get_or forms n blank there))

pub ruleset reading = (form_read)

-- a form that is written
form_set : (forms : List Form) (n : ℕ) (f : Form) (x : ℕ) → n < length forms → forms_in (slice_set forms n f) x ≡ changed (forms_in forms) n f x
form_set [] n f x there = absurd (omega arith)
form_set (g ∷ forms) zero f zero there = refl
form_set (g ∷ forms) zero f (suc x) there = ap (λ (b : Bool). if b then f else forms_in forms x) (apart x)
  where
    apart : (x : ℕ) → false ≡ nat_eq 0 (suc x)
    apart x = grind arith
form_set (g ∷ forms) (suc n) f zero there = ap (λ (b : Bool). if b then f else g) (apart n)
  where
    apart : (n : ℕ) → false ≡ nat_eq (suc n) 0
    apart n = grind arith
form_set (g ∷ forms) (suc n) f (suc x) there = form_set forms n f x (omega arith) ∙ ap (λ (b : Bool). if b then f else forms_in forms x) (below n x)
  where
    below : (n x : ℕ) → nat_eq n x ≡ nat_eq (suc n) (suc x)
    below n x = by (nat_eq n x) refl
      where
        by : (b : Bool) → nat_eq n x ≡ b → b ≡ nat_eq (suc n) (suc x)
        by true e = grind arith
        by false e = grind arith

as_many : (forms : List Form) (n : ℕ) (f : Form) → length (slice_set forms n f) ≡ length forms
as_many [] n f = refl
as_many (g ∷ forms) zero f = refl
as_many (g ∷ forms) (suc n) f = ap suc (as_many forms n f)

module _ (forms : List Form) (n : ℕ) (there : n < length forms) where
  -- a name's form, given anew
  pub form_given : (variable : ℕ) (f : Form)
      → (record { forms = forms_in (slice_set forms n f); next = length (slice_set forms n f); next_variable = variable })
      ≡ with_form (record { forms = forms_in forms; next = length forms; next_variable = variable }) n f
  form_given variable f = λ i. record { forms = λ x. form_set forms n f x there i; next = as_many forms n f i; next_variable = variable }

  -- a new variable in its place
  pub variable_given : (names mid new : NameTable) (v : ℕ) → names.forms ≡ forms → mid.forms ≡ names.forms → supply_in mid ≡ one_variable_more (supply_in names)
      → v ≡ names.next_variable → new.forms ≡ slice_set mid.forms n (variable_form v) → new.next_variable ≡ mid.next_variable → supply_in new ≡ with_variable (supply_in names) n
  variable_given names mid new v is same more at written next =
      let forms_are : new.forms ≡ slice_set forms n (variable_form names.next_variable) = written ∙ (λ i. slice_set ((same ∙ is) i) n (variable_form (at i))) in
      let next_is : new.next_variable ≡ suc names.next_variable = next ∙ ap (λ s. s.next_variable) more in
      (λ i. record { forms = forms_in (forms_are i); next = length (forms_are i); next_variable = next_is i })
      ∙ (λ i. record {
        forms = λ x. form_set forms n (variable_form names.next_variable) x there i;
        next = as_many forms n (variable_form names.next_variable) i;
        next_variable = suc names.next_variable;
      })
      ∙ (λ i. record {
        forms = λ x. if nat_eq n x then variable_form names.next_variable else forms_in (sym is i) x;
        next = length (sym is i);
        next_variable = suc names.next_variable;
      })

pub ruleset writing = (form_given, variable_given)
