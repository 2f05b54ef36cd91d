-- Forms of which all variables are below a number: their values do not hang on the variables above.
use Rattle.std.proofs.Common.{◌≡◌, ℕ, zero, suc, ◌<◌, ◌≤◌, List, [], ◌∷◌, Bool, true, false, length, Option, Some, None, refl, ◌∙◌, ap, subst, arith}
use Rattle.std.specs.Prelude.{ℤ, pos, negsuc, ◌+ℤ◌, ◌*ℤ◌, if◌then◌else◌, nat_eq, nat_lt, IfSome}
use Rattle.std.specs.Int.{w32, int_wrap}
use Rattle.std.specs.List.{AllByRecursion}
use Rattle.pc_word.specs.declared.item.OpCode.{OpCode}
use Rattle.pc_word.specs.Word.{IsWord}
use Rattle.pc_word.proofs.Lists.{all_imply}
use Rattle.pc_linear.specs.declared.term.Term.{Term}
use Rattle.pc_linear.specs.Form.{Form, most_terms, IsForm, HasFactor, sum_of, form_value}
use Rattle.pc_linear.specs.Combine.{prepended, add_term, add_times, constant_form, variable_form, combine}
use Rattle.pc_linear.specs.Laws.{HasValueOf}
use Rattle.pc_linear.proofs.Forms.{variable_means, combine_keeps}
use Rattle.pc_linear.proofs.Normal.{constant-normal}
use Rattle.pc_linear.proofs.Values.{word_meant, combined_value, combined_form}

-- all variables of terms, of a form, are below a number
abbrev pub TermsBelow : ℕ → List Term → Type 0
TermsBelow n ts = AllByRecursion (λ (t : Term). t.variable < n) ts

-- a form as every one is kept, with variables below a number
pub record IsBelow (n : ℕ) (f : Form) : Type 0 where
  pub form : IsForm f
  pub below : TermsBelow n f.terms

-- ---- values

sum_agrees : (n : ℕ) (σ τ : ℕ → ℤ) (ts : List Term) → ((v : ℕ) → v < n → σ v ≡ τ v) → TermsBelow n ts → sum_of σ ts ≡ sum_of τ ts
sum_agrees n σ τ [] same below = refl
sum_agrees n σ τ (t ∷ ts) same below =
    ap (λ (z : ℤ). (t.factor *ℤ z) +ℤ sum_of σ ts) (same t.variable below.0) ∙ ap (λ (z : ℤ). (t.factor *ℤ τ t.variable) +ℤ z) (sum_agrees n σ τ ts same below.1)

-- values that agree below a number give such a form one value
pub value_agrees : (n : ℕ) (σ τ : ℕ → ℤ) (f : Form) → ((v : ℕ) → v < n → σ v ≡ τ v) → IsBelow n f → form_value σ f ≡ form_value τ f
value_agrees n σ τ f same below = ap (λ (z : ℤ). int_wrap w32 (z +ℤ f.constant)) (sum_agrees n σ τ f.terms same below.below)

-- a constant's value is the constant, and a variable's the variable's
pub constant_value : (σ : ℕ → ℤ) (c : ℤ) → IsWord c → form_value σ (constant_form c) ≡ c
constant_value σ c word = word_meant σ (constant_form c) c word refl

pub variable_value : (σ : ℕ → ℤ) (v : ℕ) → IsWord (σ v) → form_value σ (variable_form v) ≡ σ v
variable_value σ v word = word_meant σ (variable_form v) (σ v) word (variable_means σ v (σ v) refl)

-- ---- which forms are below

pub below_more : (n m : ℕ) (f : Form) → n ≤ m → IsBelow n f → IsBelow m f
below_more n m f low h = record { form = h.form; below = all_imply (λ (t : Term). t.variable < n) (λ (t : Term). t.variable < m) f.terms (λ t less. omega (arith, less, low)) h.below }

pub constant_below : (n : ℕ) (c : ℤ) → IsWord c → IsBelow n (constant_form c)
constant_below n c word = record { form = record { normal = constant-normal c word; few = omega arith }; below = tt }

pub variable_below : (n v : ℕ) → v < n → IsBelow n (variable_form v)
variable_below n v low = record {
  form = record {
    normal = record {
      rising = ((let e : 0 ≤ v = omega arith in e), tt);
      factors = ((let h : HasFactor (record { variable = v; factor = pos 1 }) = record { word = record { sfits = omega arith }; nonzero = λ e. cc } in h), tt);
      constant = record { sfits = omega arith };
    };
    few = omega arith;
  };
  below = (low, tt);
}

prepended_below : (n v : ℕ) (factor : ℤ) (ts : List Term) → v < n → TermsBelow n ts → TermsBelow n (prepended v factor ts)
prepended_below n v (pos zero) ts low below = below
prepended_below n v (pos (suc k)) ts low below = (low, below)
prepended_below n v (negsuc k) ts low below = (low, below)

add_term_below : (n v : ℕ) (factor : ℤ) (ts : List Term) → v < n → TermsBelow n ts → TermsBelow n (add_term v factor ts)
add_term_below n v factor [] low below = prepended_below n v (int_wrap w32 factor) [] low tt
add_term_below n v factor (t ∷ ts) low below = by_order (nat_lt v t.variable) (nat_eq v t.variable) (add_term_below n v factor ts low below.1)
  where
    by_order : (less equal : Bool) → TermsBelow n (add_term v factor ts)
        → TermsBelow n (if less then prepended v (int_wrap w32 factor) (t ∷ ts) else if equal then prepended v (int_wrap w32 (factor +ℤ t.factor)) ts else t ∷ add_term v factor ts)
    by_order true equal h = prepended_below n v (int_wrap w32 factor) (t ∷ ts) low below
    by_order false true h = prepended_below n v (int_wrap w32 (factor +ℤ t.factor)) ts low below.1
    by_order false false h = (below.0, h)

add_times_below : (n : ℕ) (k : ℤ) (ts us : List Term) → TermsBelow n ts → TermsBelow n us → TermsBelow n (add_times k ts us)
add_times_below n k [] us below also = also
add_times_below n k (t ∷ ts) us below also = add_times_below n k ts (add_term t.variable (k *ℤ t.factor) us) below.1 (add_term_below n t.variable (k *ℤ t.factor) us below.0 also)

-- a form that was combined
combined_terms : (n : ℕ) (op : OpCode) (f g : Form) → TermsBelow n f.terms → TermsBelow n g.terms → IfSome (combine op f g) (λ h. TermsBelow n h.terms)
combined_terms n op f g p q =
    combine_keeps (λ h. TermsBelow n h.terms) (λ h. TermsBelow n h.terms) tt (λ f k g a b. add_times_below n k g.terms f.terms b a)
    (λ h below. fits h below (nat_lt most_terms (length h.terms))) op f g p q tt
  where
    fits : (h : Form) → TermsBelow n h.terms → (b : Bool) → IfSome (let o : Option Form = if b then None else Some h in o) (λ h. TermsBelow n h.terms)
    fits h below true = tt
    fits h below false = below

-- what a combined form is: it is below, and has the operator's value
pub record IsCombined (n : ℕ) (op : OpCode) (f g h : Form) : Type 0 where
  pub below : IsBelow n h
  pub value : HasValueOf op f g h

pub combined_is : (n : ℕ) (op : OpCode) (f g h : Form) → IsBelow n f → IsBelow n g → combine op f g ≡ Some h → IsCombined n op f g h
combined_is n op f g h p q e = record {
  below = record {
    form = subst (λ (o : Option Form). IfSome o IsForm) e (combined_form op f g p.form q.form);
    below = subst (λ (o : Option Form). IfSome o (λ h. TermsBelow n h.terms)) e (combined_terms n op f g p.below q.below);
  };
  value = subst (λ (o : Option Form). IfSome o (λ h. HasValueOf op f g h)) e (combined_value op f g p.form.normal q.form.normal);
}
