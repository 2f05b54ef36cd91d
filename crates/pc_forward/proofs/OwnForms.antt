-- The forms with which a trail begins.
use Rattle.std.proofs.Common.{◌≡◌, ℕ, zero, suc, ◌+◌, List, [], ◌∷◌, ◌++◌, length, Some, refl, sym, ◌∙◌, ap, arith}
use Rattle.std.specs.Prelude.{slice_get}
use Rattle.pc_linear.specs.Form.{Form}
use Rattle.pc_linear.specs.Combine.{variable_form}
use Rattle.pc_forward.specs.Trail.{own_forms}

-- one more at the end
own_more : (first many : ℕ) → own_forms first many ++ variable_form (first + many) ∷ [] ≡ own_forms first (suc many)
own_more first zero = ap (λ (n : ℕ). variable_form n ∷ []) (let e : first + zero ≡ first = omega arith in e)
own_more first (suc many) =
    let e : first + suc many ≡ (first + 1) + many = omega arith in
    ap (λ (n : ℕ). variable_form first ∷ (own_forms (first + 1) many ++ variable_form n ∷ [])) e ∙ ap (λ (l : List Form). variable_form first ∷ l) (own_more (first + 1) many)

pub own_next : (forms : List Form) (many : ℕ) → forms ≡ own_forms 0 many → forms ++ variable_form many ∷ [] ≡ own_forms 0 (many + 1)
own_next forms many is =
    let start : 0 + many ≡ many = omega arith in
    let next : suc many ≡ many + 1 = omega arith in
    ap (λ (l : List Form). l ++ variable_form many ∷ []) is ∙ ap (λ (n : ℕ). own_forms 0 many ++ variable_form n ∷ []) (sym start) ∙ own_more 0 many
    ∙ ap (own_forms 0) next

-- as many as are asked for
pub own_length : (first many : ℕ) → length (own_forms first many) ≡ many
own_length first zero = refl
own_length first (suc many) = ap suc (own_length (first + 1) many)

-- each is the variable of its place
pub own_at : (first many x : ℕ) (form : Form) → slice_get (own_forms first many) x ≡ Some form → form ≡ variable_form (first + x)
own_at first zero x form e = absurd (cc)
own_at first (suc many) zero form e =
    let is : first + zero ≡ first = omega arith in
    let same : variable_form first ≡ form = (cc) in
    sym same ∙ ap variable_form (sym is)
own_at first (suc many) (suc x) form e =
    let is : (first + 1) + x ≡ first + suc x = omega arith in
    own_at (first + 1) many x form e ∙ ap variable_form is
