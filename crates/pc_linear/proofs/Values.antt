-- The values of forms, and of combined forms.
use Rattle.std.proofs.Common.{◌≡◌, ℕ, List, [], ◌∷◌, Option, Some, None, refl, sym, ◌∙◌, arith}
use Rattle.std.specs.Prelude.{ℤ, pos, ◌*ℤ◌, IfSome}
use Rattle.std.specs.Int.{w32}
use Rattle.std.proofs.lemmas.Int.{SFits-int_wrap, int_wrap_fits}
use Rattle.pc_word.specs.declared.item.OpCode.{OpCode}
use Rattle.pc_word.specs.Word.{IsWord, word_apply}
use Rattle.pc_word.proofs.Words.{IsWord-apply}
use Rattle.pc_linear.specs.declared.term.Term.{Term}
use Rattle.pc_linear.specs.Form.{Form, IsNormal, IsForm, sum_of, ◌≈◌, form_number, form_value, Means}
use Rattle.pc_linear.specs.Combine.{combine}
use Rattle.pc_linear.specs.Laws.{HasValueOf}
use Rattle.pc_linear.proofs.Words.{wrap_same, add_same, times_same}
use Rattle.pc_linear.proofs.Forms.{means_number, word_means, combine_means, combine_keeps}
use Rattle.pc_linear.proofs.Normal.{constant-normal, plus-normal, fitting-form}

-- a form's value is a word
pub IsWord-value : (σ : ℕ → ℤ) (f : Form) → IsWord (form_value σ f)
IsWord-value σ f = SFits-int_wrap w32 (form_number σ f)

-- a form means its value
pub value-means : (σ : ℕ → ℤ) (f : Form) → IsNormal f → Means σ f (form_value σ f)
value-means σ f h = word_means σ f (form_number σ f) refl (int_wrap_fits w32 f.constant h.constant)

-- a number that a form means is its value modulo 2^32
pub means-value : (σ : ℕ → ℤ) (f : Form) (number : ℤ) → Means σ f number → number ≈ form_value σ f
means-value σ f number h = means_number σ f number h ∙ sym (wrap_same (form_number σ f))

-- so a word that it means is its value
pub word_meant : (σ : ℕ → ℤ) (f : Form) (number : ℤ) → IsWord number → Means σ f number → form_value σ f ≡ number
word_meant σ f number w h = sym (means_number σ f number h) ∙ int_wrap_fits w32 number w

-- the sums of values that are equal modulo 2^32
sum-same : (σ τ : ℕ → ℤ) (ts : List Term) → ((v : ℕ) → σ v ≈ τ v) → sum_of σ ts ≈ sum_of τ ts
sum-same σ τ [] h = refl
sum-same σ τ (t ∷ ts) h =
    add_same (t.factor *ℤ σ t.variable) (t.factor *ℤ τ t.variable) (sum_of σ ts) (sum_of τ ts)
    (times_same t.factor t.factor (σ t.variable) (τ t.variable) refl (h t.variable)) (sum-same σ τ ts h)

-- values of variables count modulo 2^32
pub value-same : (σ τ : ℕ → ℤ) (f : Form) → ((v : ℕ) → σ v ≈ τ v) → form_value σ f ≡ form_value τ f
value-same σ τ f h = add_same (sum_of σ f.terms) (sum_of τ f.terms) f.constant f.constant (sum-same σ τ f.terms h) refl

-- a combined form has the operator's value
pub combined_value : (op : OpCode) (f g : Form) → IsNormal f → IsNormal g → IfSome (combine op f g) (λ h. HasValueOf op f g h)
combined_value op f g p q = by_result (combine op f g) (λ σ. combine_means σ op f g (form_value σ f) (form_value σ g) (value-means σ f p) (value-means σ g q))
  where
    by_result : (o : Option Form) → ((σ : ℕ → ℤ) → IfSome o (λ h. Means σ h (word_apply op (form_value σ f) (form_value σ g)))) → IfSome o (λ h. HasValueOf op f g h)
    by_result None all = tt
    by_result (Some h) all = λ σ. word_meant σ h (word_apply op (form_value σ f) (form_value σ g))
        (IsWord-apply op (form_value σ f) (form_value σ g) (IsWord-value σ f) (IsWord-value σ g)) (all σ)

-- a combined form means the operator's result of whatever its sides mean
pub combined_means : (op : OpCode) (f g : Form) → IfSome (combine op f g) (λ h. (σ : ℕ → ℤ) (a b : ℤ) → Means σ f a → Means σ g b → Means σ h (word_apply op a b))
combined_means op f g = by_result (combine op f g) (λ σ a b p q. combine_means σ op f g a b p q)
  where
    by_result : (o : Option Form) → ((σ : ℕ → ℤ) (a b : ℤ) → Means σ f a → Means σ g b → IfSome o (λ h. Means σ h (word_apply op a b)))
        → IfSome o (λ h. (σ : ℕ → ℤ) (a b : ℤ) → Means σ f a → Means σ g b → Means σ h (word_apply op a b))
    by_result None all = tt
    by_result (Some h) all = all

-- a combined form is a form
pub combined_form : (op : OpCode) (f g : Form) → IsForm f → IsForm g → IfSome (combine op f g) IsForm
combined_form op f g p q =
    let c = IsWord-apply op f.constant g.constant p.normal.constant q.normal.constant in
    combine_keeps IsNormal IsForm (constant-normal (pos 0) zero_is_word) (λ f n g h _. plus-normal f n g h) fitting-form op f g p.normal q.normal
    (record { normal = constant-normal (word_apply op f.constant g.constant) c; few = omega arith })
  where
    zero_is_word : IsWord (pos 0)
    zero_is_word = record { sfits = omega arith }
