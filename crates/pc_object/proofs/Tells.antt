-- Parts of a text are read as their values, or as the first of their flaws.
use Rattle.std.proofs.Common.{◌≡◌, ℕ, List, [], ◌∷◌, ◌++◌, length, Result, Ok, Err, refl, sym, ap, ◌∙◌, subst}
use Rattle.pc_word.specs.Exact.{checked}
use Rattle.pc_machine.specs.declared.code.Flaw.{Flaw}
use Rattle.pc_object.specs.declared.refusal.Refusal.{Refusal}
use Rattle.pc_object.specs.declared.refusal.Refusal.TheVariants.{Flawed}
use Rattle.pc_object.specs.Reading.{◌>>=◌, ◌>>◌, at_field, unflawed}

-- ---- what is told

-- a reading refuses a field for this flaw
abbrev pub Refuses : {A : Type 0} → Flaw → Result A Refusal → Type 0
Refuses flaw read = (left : ℕ) × (read ≡ Err (Flawed left flaw))

-- a reading gives this value where there is no flaw, and else refuses for the first
abbrev pub Tells : {A : Type 0} → List Flaw → A → Result A Refusal → Type 0
Tells [] x read = read ≡ Ok x
Tells (flaw ∷ flaws) x read = Refuses flaw read

-- the same, where nothing is said of the value
abbrev pub Stops : {A : Type 0} → List Flaw → Result A Refusal → Type 0
Stops [] read = Unit {0}
Stops (flaw ∷ flaws) read = Refuses flaw read

-- one reading after another: flaws after flaws
pub tells_then : {A B : Type 0} (fs gs : List Flaw) (x : A) (y : B) (m : Result A Refusal) (k : A → Result B Refusal) → Tells fs x m → (fs ≡ [] → Tells gs y (k x)) → Tells (fs ++ gs) y (m >>= k)
tells_then [] gs x y m k h g = subst (λ (r : Result _ Refusal). Tells gs y (r >>= k)) (sym h) (g refl)
tells_then (f ∷ fs) gs x y m k h g = (h.0, ap (λ (r : Result _ Refusal). r >>= k) h.1)

-- a last one that only puts values together
pub tells_last : {A B : Type 0} (fs : List Flaw) (x : A) (y : B) (m : Result A Refusal) (k : A → Result B Refusal) → Tells fs x m → k x ≡ Ok y → Tells fs y (m >>= k)
tells_last [] x y m k h g = ap (λ (r : Result _ Refusal). r >>= k) h ∙ g
tells_last (f ∷ fs) x y m k h g = (h.0, ap (λ (r : Result _ Refusal). r >>= k) h.1)

-- a first one that cannot be flawed
pub tells_next : {A B : Type 0} (gs : List Flaw) (x : A) (y : B) (m : Result A Refusal) (k : A → Result B Refusal) → m ≡ Ok x → Tells gs y (k x) → Tells gs y (m >>= k)
tells_next gs x y m k h g = subst (λ (r : Result _ Refusal). Tells gs y (r >>= k)) (sym h) g

pub stops_then : {A B : Type 0} (fs gs : List Flaw) (x : A) (m : Result A Refusal) (k : A → Result B Refusal) → Tells fs x m → (fs ≡ [] → Stops gs (k x)) → Stops (fs ++ gs) (m >>= k)
stops_then [] gs x m k h g = subst (λ (r : Result _ Refusal). Stops gs (r >>= k)) (sym h) (g refl)
stops_then (f ∷ fs) gs x m k h g = (h.0, ap (λ (r : Result _ Refusal). r >>= k) h.1)

pub stops_here : {A B : Type 0} (fs : List Flaw) (x : A) (m : Result A Refusal) (k : A → Result B Refusal) → Tells fs x m → Stops fs (m >>= k)
stops_here [] x m k h = tt
stops_here (f ∷ fs) x m k h = (h.0, ap (λ (r : Result _ Refusal). r >>= k) h.1)

-- ---- fields

-- a check of a field
pub field_tells : {A : Type 0} (bytes : List ℕ) (fs : List Flaw) (x : A) → Tells fs x (at_field bytes (checked fs x))
field_tells bytes [] x = refl
field_tells bytes (f ∷ fs) x = (length bytes, refl)

-- a value that is checked
pub passes_tells : {A : Type 0} (bytes : List ℕ) (fs : List Flaw) (x : A) → Tells fs x (unflawed bytes fs >> Ok x)
passes_tells bytes [] x = refl
passes_tells bytes (f ∷ fs) x = (length bytes, refl)
