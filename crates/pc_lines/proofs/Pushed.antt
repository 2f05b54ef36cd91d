-- Lists that were appended to, part by part.
use Rattle.std.proofs.Common.{◌≡◌, ℕ, List, [], ◌++◌, refl, sym, ap, ◌∙◌, append-nil, append_assoc}
use Rattle.std.specs.Prelude.{Result, Ok, Err, OnOk}

-- a fact of what was given leads to another
pub on_ok : {A E P Q : Type 0} (result : Result A E) → (P → Q) → OnOk result P → OnOk result Q
on_ok (Ok value) f p = f p
on_ok (Err error) f p = tt

-- nothing is appended
pub none : {x : List ℕ} (old : List ℕ) → x ≡ [] → old ≡ old ++ x
none old is = sym (ap (λ (l : List ℕ). old ++ l) is ∙ append-nil old)

-- two parts are appended
pub both : {mid new : List ℕ} (old a b : List ℕ) → mid ≡ old ++ a → new ≡ mid ++ b → new ≡ old ++ (a ++ b)
both old a b first second = second ∙ ap (λ (l : List ℕ). l ++ b) first ∙ append_assoc old a b

-- and they are what is to be appended
pub as_said : {new x : List ℕ} (old a : List ℕ) → x ≡ a → new ≡ old ++ a → new ≡ old ++ x
as_said old a is h = h ∙ ap (λ (l : List ℕ). old ++ l) (sym is)

-- what two parts are together is appended, and then a third
pub condition : {mid new : List ℕ} (old a b c : List ℕ) → mid ≡ old ++ (a ++ b) → new ≡ mid ++ c → new ≡ old ++ (a ++ (b ++ c))
condition old a b c first second = both old (a ++ b) c first second ∙ ap (λ (l : List ℕ). old ++ l) (append_assoc a b c)
