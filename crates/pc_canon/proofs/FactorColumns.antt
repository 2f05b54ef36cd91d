-- The columns of form variables: what a column tells of each form.
use Rattle.std.proofs.Common.{◌≡◌, ℕ, zero, suc, ◌<◌, ◌≤◌, List, [], ◌∷◌, refl, sym, ◌∙◌, ap, subst, arith}
use Rattle.std.specs.Prelude.{ℤ, pos, negsuc, ◌+ℤ◌, Bool, false, if◌then◌else◌, nat_eq, max}
use Rattle.pc_linear.specs.declared.term.Term.{Term}
use Rattle.pc_linear.specs.Form.{Form, factor_of}
use Rattle.pc_canon.specs.Canonical.{with_factor, column, above_terms, above_forms}

-- ---- where a column begins

-- the first place of a column is above a number
abbrev pub BeginsAbove : ℕ → List ℤ → Type 0
BeginsAbove place [] = Unit {0}
BeginsAbove place (z ∷ zs) = (later : ℕ) × (z ≡ pos later) × (place < later)

with_factor-begins : (place later : ℕ) (factor : ℤ) (more : List ℤ) → place < later → BeginsAbove place more → BeginsAbove place (with_factor later factor more)
with_factor-begins place later (pos zero) more h m = m
with_factor-begins place later (pos (suc n)) more h m = (later, refl, h)
with_factor-begins place later (negsuc n) more h m = (later, refl, h)

pub column-begins : (place later : ℕ) (forms : List Form) (x : ℕ) → place < later → BeginsAbove place (column later forms x)
column-begins place later [] x h = tt
column-begins place later (form ∷ forms) x h =
    with_factor-begins place later (factor_of form.terms x) (column (suc later) forms x) h (column-begins place (suc later) forms x (omega arith))

same_place : (m n : ℕ) → pos m ≡ pos n → m ≡ n
same_place m n e = cc

not_here : (place : ℕ) (more rest : List ℤ) → BeginsAbove place more → more ≡ pos place ∷ rest → ⊥
not_here place more rest h e =
    let later = subst (BeginsAbove place) e h in
    let same = same_place place later.0 later.1 in
    omega (arith, same, later.2)

both_same : (place : ℕ) (a b : ℤ) (more others : List ℤ) → pos place ∷ a ∷ more ≡ pos place ∷ b ∷ others → (a ≡ b) × (more ≡ others)
both_same place a b more others e = (cc, cc)

-- equal columns have the same factor at each place
pub with_factor-same : (place : ℕ) (a b : ℤ) (more others : List ℤ) → BeginsAbove place more → BeginsAbove place others
    → with_factor place a more ≡ with_factor place b others → (a ≡ b) × (more ≡ others)
with_factor-same place (pos zero) (pos zero) more others h k e = (refl, e)
with_factor-same place (pos zero) (pos (suc n)) more others h k e = absurd (not_here place more (pos (suc n) ∷ others) h e)
with_factor-same place (pos zero) (negsuc n) more others h k e = absurd (not_here place more (negsuc n ∷ others) h e)
with_factor-same place (pos (suc m)) (pos zero) more others h k e = absurd (not_here place others (pos (suc m) ∷ more) k (sym e))
with_factor-same place (negsuc m) (pos zero) more others h k e = absurd (not_here place others (negsuc m ∷ more) k (sym e))
with_factor-same place (pos (suc m)) (pos (suc n)) more others h k e = both_same place (pos (suc m)) (pos (suc n)) more others e
with_factor-same place (pos (suc m)) (negsuc n) more others h k e = both_same place (pos (suc m)) (negsuc n) more others e
with_factor-same place (negsuc m) (pos (suc n)) more others h k e = both_same place (negsuc m) (pos (suc n)) more others e
with_factor-same place (negsuc m) (negsuc n) more others h k e = both_same place (negsuc m) (negsuc n) more others e

-- an empty column has the factor 0 at each place
pub with_factor-none : (place : ℕ) (a : ℤ) (more : List ℤ) → with_factor place a more ≡ [] → (a ≡ pos 0) × (more ≡ [])
with_factor-none place (pos zero) more e = (refl, e)
with_factor-none place (pos (suc n)) more e = absurd (cc)
with_factor-none place (negsuc n) more e = absurd (cc)

-- ---- variables above all others

max_left : (m n x : ℕ) → max m n ≤ x → m ≤ x
max_left m n x h = omega (arith, h)

max_right : (m n x : ℕ) → max m n ≤ x → n ≤ x
max_right m n x h = omega (arith, h)

above_variable : (x y : ℕ) → suc y ≤ x → nat_eq x y ≡ false
above_variable x y h = grind arith

-- a variable above those of terms has the factor 0
factor_of-above : (terms : List Term) (x : ℕ) → above_terms terms ≤ x → factor_of terms x ≡ pos 0
factor_of-above [] x h = refl
factor_of-above (term ∷ terms) x h =
    ap (λ (b : Bool). (if b then term.factor else pos 0) +ℤ factor_of terms x)
    (above_variable x term.variable (max_left (suc term.variable) (above_terms terms) x h))
    ∙ ap (λ (z : ℤ). pos 0 +ℤ z) (factor_of-above terms x (max_right (suc term.variable) (above_terms terms) x h))

-- and an empty column
pub column-above : (place : ℕ) (forms : List Form) (x : ℕ) → above_forms forms ≤ x → column place forms x ≡ []
column-above place [] x h = refl
column-above place (form ∷ forms) x h =
    ap (λ (z : ℤ). with_factor place z (column (suc place) forms x))
    (factor_of-above form.terms x (max_left (above_terms form.terms) (above_forms forms) x h))
    ∙ column-above (suc place) forms x (max_right (above_terms form.terms) (above_forms forms) x h)
