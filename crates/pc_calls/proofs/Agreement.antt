-- What is known of the scalars of a frame and of those of the whole program: they are the same where the frame's are in scope; and
-- what stands below the frame's slots is as it was when the frame was entered.
use Rattle.std.proofs.Common.{◌≡◌, ℕ, ◌<◌, ◌≤◌, ◌⊎◌, inl, inr, Bool, true, false, cond, List, [], ◌∷◌, Option, Some, None, option_map, refl, sym, ap, ◌∙◌, subst, arith, nat_eq, nat_lt}
use Rattle.std.specs.Prelude.{ℤ, if◌then◌else◌, is_some}
use Rattle.std.specs.Option.{option_or}
use Rattle.std.proofs.lemmas.Bool.Decides.{nat_tests}
use Rattle.pc_word.proofs.Truth.{less_of}
use Rattle.pc_check.specs.declared.error.CheckError.{CheckError}
use Rattle.pc_check.specs.declared.slot.Slot.{Slot}
use Rattle.pc_check.specs.declared.slot.Slot.TheVariants as slot
use Rattle.pc_check.specs.Names as names
use Rattle.pc_check.specs.Names.{Names, declared_in, found_in, found, is_declared_here, entered, with_scalar, with_array}
use Rattle.pc_check.specs.Faults.{scalar_use, array_use, scalar_faults, fault_or}
use Rattle.pc_check.specs.Resolution.{number_in_slot, slot_number}
use Rattle.pc_meaning.specs.ProgramState.{set_scalar}
use Rattle.pc_meaning.specs.Statement.{assign}
use Rattle.pc_calls.specs.Inline.{copied}
use Rattle.pc_calls.proofs.Values.{Reads}
use Rattle.pc_calls.proofs.Matching.{Relation, Simulates, goes}
use Rattle.pc_calls.proofs.Standing.{Arrays, InScopes, scopes, image, extended, extended-old, Fits, Stands, found-faces, found_in-known, known-more, known-split, declared-more}

-- ---- numbers

pub eq_of : (a b : ℕ) → nat_eq a b ≡ true → a ≡ b
eq_of a b h = grind (arith, nat_tests)

pub ne_of : (a b : ℕ) → nat_eq a b ≡ false → a ≡ b → ⊥
ne_of a b h e = grind (arith, nat_tests)

pub eq_made : (a b : ℕ) → a ≡ b → nat_eq a b ≡ true
eq_made a b e = grind (arith, nat_tests)

pub ne_made : (a b : ℕ) → (a ≡ b → ⊥) → nat_eq a b ≡ false
ne_made a b apart = by (nat_eq a b) refl
  where
    by : (c : Bool) → nat_eq a b ≡ c → c ≡ false
    by true is = absurd (apart (eq_of a b is))
    by false is = refl

-- ---- what is looked up

pub found-other : (n : Names) (symbol x : ℕ) → nat_eq x symbol ≡ false → found (with_scalar n symbol) x ≡ found n x
found-other n symbol x other =
    ap (λ (o : Option Slot). option_or o (found_in n.outer x))
    (declared-more n.innermost symbol x (slot.Scalar n.scalars)
    ∙ ap (λ (b : Bool). option_or (declared_in n.innermost x) (cond b (Some (slot.Scalar n.scalars)) None)) other
    ∙ or_none (declared_in n.innermost x))
  where
    or_none : (o : Option Slot) → option_or o None ≡ o
    or_none None = refl
    or_none (Some x) = refl

-- a name that was not declared in its scope is the slot that it is given
pub declared-slot : (m : Names) (symbol line : ℕ) → scalar_faults m symbol line ≡ [] → slot_number (with_scalar m symbol) symbol ≡ m.scalars
declared-slot m symbol line none =
    ap (λ (o : Option Slot). number_in_slot (option_or o (found_in m.outer symbol)))
    (declared-more m.innermost symbol symbol (slot.Scalar m.scalars)
    ∙ ap (λ (b : Bool). option_or (declared_in m.innermost symbol) (cond b (Some (slot.Scalar m.scalars)) None)) (eq_made symbol symbol refl)
    ∙ ap (λ (o : Option Slot). option_or o (Some (slot.Scalar m.scalars))) (by (declared_in m.innermost symbol) _ _ none))
  where
    by : (o : Option Slot) (x : CheckError) (more : List CheckError) → fault_or (is_some o) x more ≡ [] → o ≡ None
    by None x more none = refl
    by (Some s) x more none = cc

-- a name that is used as a scalar without a fault is one
pub scalar-read : (slots : ℕ → ℕ) (g f : ℕ → ℤ) (o o' : Option Slot) (line : ℕ) → o' ≡ option_map (image slots) o → scalar_use o' line ≡ [] →
    ((i : ℕ) → o ≡ Some (slot.Scalar i) → g i ≡ f (slots i)) → f (number_in_slot o') ≡ g (number_in_slot o)
scalar-read slots g f None o' line is none known = let e : scalar_use None line ≡ [] = subst (λ (z : Option Slot). scalar_use z line ≡ []) is none in absurd (cc)
scalar-read slots g f (Some (slot.Scalar i)) o' line is none known = ap (λ (z : Option Slot). f (number_in_slot z)) is ∙ sym (known i refl)
scalar-read slots g f (Some (slot.Array i)) o' line is none known =
    let e : scalar_use (Some (slot.Array i)) line ≡ [] = subst (λ (z : Option Slot). scalar_use z line ≡ []) is none in absurd (cc)

pub array-read : (slots : ℕ → ℕ) (o o' : Option Slot) (line : ℕ) → o' ≡ option_map (image slots) o → array_use o' line ≡ [] → number_in_slot o' ≡ number_in_slot o
array-read slots None o' line is none = ap number_in_slot is
array-read slots (Some (slot.Scalar i)) o' line is none =
    let e : array_use (Some (slot.Scalar (slots i))) line ≡ [] = subst (λ (z : Option Slot). array_use z line ≡ []) is none in absurd (cc)
array-read slots (Some (slot.Array i)) o' line is none = ap number_in_slot is

-- a name that is assigned
pub record Written (slots : ℕ → ℕ) (n : Names) (o o' : Option Slot) : Type 0 where
  pub at : ℕ
  pub known : InScopes (scopes n) at
  pub here : number_in_slot o ≡ at
  pub there : number_in_slot o' ≡ slots at

pub written-by : (slots : ℕ → ℕ) (n : Names) (o o' : Option Slot) (line : ℕ) → o' ≡ option_map (image slots) o → scalar_use o' line ≡ [] →
    ((i : ℕ) → o ≡ Some (slot.Scalar i) → InScopes (scopes n) i) → Written slots n o o'
written-by slots n None o' line is none known = let e : scalar_use None line ≡ [] = subst (λ (z : Option Slot). scalar_use z line ≡ []) is none in absurd (cc)
written-by slots n (Some (slot.Scalar i)) o' line is none known = record { at = i; known = known i refl; here = refl; there = ap number_in_slot is }
written-by slots n (Some (slot.Array i)) o' line is none known =
    let e : scalar_use (Some (slot.Array i)) line ≡ [] = subst (λ (z : Option Slot). scalar_use z line ≡ []) is none in absurd (cc)

module _ (base depth : ℕ) (in_function : Bool) (low : ℕ) (saved : ℕ → ℤ) (watch : ℕ → ℕ → Type 0) (high : ℕ) (fixed : Arrays) where
  -- what is known of the scalars `g` of a frame and `f` of the whole program
  pub record Agrees (slots : ℕ → ℕ) (n : Names) (g f : ℕ → ℤ) : Type 0 where
    pub live : (i : ℕ) → InScopes (scopes n) i → g i ≡ f (slots i)
    pub kept : (j : ℕ) → j < low → f j ≡ saved j
    pub above : (j : ℕ) → high ≤ j → f j ≡ saved j
    pub stale : (i j : ℕ) → watch i j → g i ≡ f j

  abbrev pub StandsHere : (ℕ → ℕ) → Names → Names → Type 0
  StandsHere = Stands base depth in_function low watch fixed

  -- the same scopes
  pub agrees-moved : (slots : ℕ → ℕ) (n n' : Names) → n'.innermost ≡ n.innermost → n'.outer ≡ n.outer → (g f : ℕ → ℤ) → Agrees slots n g f → Agrees slots n' g f
  agrees-moved slots n n' a b g f is = record {
    live = λ i known. is.live i (subst (λ (all : List names.Scope). InScopes all i) (ap (λ (x : names.Scope). x ∷ n'.outer) a ∙ ap (λ (x : List names.Scope). n.innermost ∷ x) b) known);
    kept = is.kept;
    above = is.above;
    stale = is.stale;
  }

  -- what is in scope is known
  pub reads-known : (slots : ℕ → ℕ) (n m : Names) → StandsHere slots n m → (g f : ℕ → ℤ) → Agrees slots n g f → Reads (λ x. nat_lt x base) (copied base depth) n m g f
  reads-known slots n m stands g f is = record {
    scalar = λ x line fits none. scalar-read slots g f (found n x) (found m (copied base depth x)) line
        (found-faces base depth in_function low watch fixed slots n m stands x (less_of x base fits)) none
        (λ i at. is.live i (found_in-known (scopes n) x i at));
    array = λ x line fits none. array-read slots (found n x) (found m (copied base depth x)) line (found-faces base depth in_function low watch fixed slots n m stands x (less_of x base fits)) none;
  }

  -- a name that is used as a scalar is in scope
  pub written-known : (slots : ℕ → ℕ) (n m : Names) → StandsHere slots n m → (x line : ℕ) → x < base → scalar_use (found m (copied base depth x)) line ≡ [] →
      Written slots n (found n x) (found m (copied base depth x))
  written-known slots n m stands x line fits none =
      written-by slots n (found n x) (found m (copied base depth x)) line (found-faces base depth in_function low watch fixed slots n m stands x fits) none
      (λ i at. found_in-known (scopes n) x i at)

  -- ---- writes

  set-same : (b : Bool) (v x : ℤ) → b ≡ true → (if b then v else x) ≡ v
  set-same b v x is = ap (λ (c : Bool). if c then v else x) is

  set-other : (b : Bool) (v x : ℤ) → b ≡ false → (if b then v else x) ≡ x
  set-other b v x is = ap (λ (c : Bool). if c then v else x) is

  -- a pair is written at once or not at all
  pair : {a b k j : ℕ} {x y : ℤ} → Fits a b k j → (v : ℤ) → x ≡ y → (if nat_eq a k then v else x) ≡ (if nat_eq b j then v else y)
  pair {a = a} {b = b} {k = k} {j = j} {x = x} {y = y} fits v same = by (nat_eq a k) refl
    where
      by : (c : Bool) → nat_eq a k ≡ c → (if nat_eq a k then v else x) ≡ (if nat_eq b j then v else y)
      by true is = set-same (nat_eq a k) v x is ∙ sym (set-same (nat_eq b j) v y (eq_made b j (fits.0 (eq_of a k is))))
      by false is = set-other (nat_eq a k) v x is ∙ same ∙ sym (set-other (nat_eq b j) v y (ne_made b j (λ e. ne_of a k is (fits.1 e))))

  -- a scalar in scope is set
  pub agrees-set : (slots : ℕ → ℕ) (n m : Names) → StandsHere slots n m → m.scalars ≤ high → (i : ℕ) → InScopes (scopes n) i → (v : ℤ) (g f : ℕ → ℤ) → Agrees slots n g f →
      Agrees slots n (λ x. if nat_eq i x then v else g x) (λ x. if nat_eq (slots i) x then v else f x)
  agrees-set slots n m stands bound i known v g f is = record {
    live = λ k other. by k other (nat_eq i k) refl;
    kept = λ j less. let at = (stands.below i known).1 in set-other (nat_eq (slots i) j) v (f j) (ne_made (slots i) j (λ e. omega (arith, at, less, e))) ∙ is.kept j less;
    above = λ j more. let at = (stands.below i known).2 in set-other (nat_eq (slots i) j) v (f j) (ne_made (slots i) j (λ e. omega (arith, at, more, bound, e))) ∙ is.above j more;
    stale = λ k j w. pair (stands.paired i known k j w) v (is.stale k j w);
  }
    where
      by : (k : ℕ) → InScopes (scopes n) k → (b : Bool) → nat_eq i k ≡ b → (if nat_eq i k then v else g k) ≡ (if nat_eq (slots i) (slots k) then v else f (slots k))
      by k other true same = set-same (nat_eq i k) v (g k) same ∙ sym (set-same (nat_eq (slots i) (slots k)) v (f (slots k)) (eq_made (slots i) (slots k) (ap slots (eq_of i k same))))
      by k other false apart =
          set-other (nat_eq i k) v (g k) apart ∙ is.live k other
          ∙ sym (set-other (nat_eq (slots i) (slots k)) v (f (slots k)) (ne_made (slots i) (slots k) (λ e. ne_of i k apart (stands.apart i k known other e))))

  pub assign-simulates : {J : Relation} (slots : ℕ → ℕ) (n m : Names) → StandsHere slots n m → m.scalars ≤ high → (i : ℕ) → InScopes (scopes n) i → (v : ℤ) →
      Simulates (Agrees slots n) (Agrees slots n) J (assign i v) (assign (slots i) v)
  assign-simulates slots n m stands bound i known v = record {
    same = λ a f is. goes (set_scalar i v a) (λ x. if nat_eq (slots i) x then v else f x)
        (agrees-set slots n m stands bound i known v a.scalars f is);
  }

  -- a scalar that is declared has the same value here and there
  pub agrees-more : (slots : ℕ → ℕ) (n m : Names) (symbol : ℕ) → StandsHere slots n m → (g f : ℕ → ℤ) → Agrees slots n g f → g n.scalars ≡ f m.scalars →
      Agrees (extended slots n.scalars m.scalars) (with_scalar n symbol) g f
  agrees-more slots n m symbol stands g f is same = record {
    live = λ k known. by k (known-split n.innermost n.outer symbol k (slot.Scalar n.scalars) known);
    kept = is.kept;
    above = is.above;
    stale = is.stale;
  }
    where
      by : (k : ℕ) → InScopes (scopes n) k ⊎ (slot.Scalar n.scalars ≡ slot.Scalar k) → g k ≡ f (extended slots n.scalars m.scalars k)
      by k (inl known) = is.live k known ∙ ap f (sym (extended-old base depth in_function low watch fixed slots n.scalars m.scalars k (stands.below k known).0))
      by k (inr new) =
          let at : n.scalars ≡ k = cc in
          subst (λ (z : ℕ). g z ≡ f (extended slots n.scalars m.scalars z)) at (same ∙ ap f (sym (ap (λ (b : Bool). if b then m.scalars else slots n.scalars) (eq_made n.scalars n.scalars refl))))

  -- writes to the slots that come next are not seen
  pub agrees-next : (slots : ℕ → ℕ) (n m : Names) → StandsHere slots n m → ((i j : ℕ) → watch i j → Fits n.scalars m.scalars i j) → m.scalars < high → (v : ℤ) (g f : ℕ → ℤ) → Agrees slots n g f →
      Agrees slots n (λ x. if nat_eq n.scalars x then v else g x) (λ x. if nat_eq m.scalars x then v else f x)
  agrees-next slots n m stands fresh bound v g f is = record {
    live = λ k known. let at = stands.below k known in
        set-other (nat_eq n.scalars k) v (g k) (ne_made n.scalars k (λ e. omega (arith, at.0, e))) ∙ is.live k known
        ∙ sym (set-other (nat_eq m.scalars (slots k)) v (f (slots k)) (ne_made m.scalars (slots k) (λ e. omega (arith, at.2, e))));
    kept = λ j less. let at = stands.grown in set-other (nat_eq m.scalars j) v (f j) (ne_made m.scalars j (λ e. omega (arith, at, less, e))) ∙ is.kept j less;
    above = λ j more. set-other (nat_eq m.scalars j) v (f j) (ne_made m.scalars j (λ e. omega (arith, more, bound, e))) ∙ is.above j more;
    stale = λ k j w. pair (fresh k j w) v (is.stale k j w);
  }

  pub declare-simulates : {J : Relation} (slots : ℕ → ℕ) (n m : Names) (symbol : ℕ) → StandsHere slots n m → ((i j : ℕ) → watch i j → Fits n.scalars m.scalars i j) → m.scalars < high → (v : ℤ) →
      Simulates (Agrees slots n) (Agrees (extended slots n.scalars m.scalars) (with_scalar n symbol)) J (assign n.scalars v) (assign m.scalars v)
  declare-simulates slots n m symbol stands fresh bound v = record {
    same = λ a f is. goes (set_scalar n.scalars v a) (λ x. if nat_eq m.scalars x then v else f x)
        (agrees-more slots n m symbol stands _ _ (agrees-next slots n m stands fresh bound v a.scalars f is)
        (set-same (nat_eq n.scalars n.scalars) v (a.scalars n.scalars) (eq_made n.scalars n.scalars refl)
        ∙ sym (set-same (nat_eq m.scalars m.scalars) v (f m.scalars) (eq_made m.scalars m.scalars refl))));
  }

  -- what is known of more scopes is known of fewer
  pub agrees-less : (slots : ℕ → ℕ) (n m : Names) (symbol : ℕ) → StandsHere slots n m → (g f : ℕ → ℤ) → Agrees (extended slots n.scalars m.scalars) (with_scalar n symbol) g f → Agrees slots n g f
  agrees-less slots n m symbol stands g f is = record {
    live = λ i known. is.live i (known-more n.innermost n.outer symbol i (slot.Scalar n.scalars) known)
        ∙ ap f (extended-old base depth in_function low watch fixed slots n.scalars m.scalars i (stands.below i known).0);
    kept = is.kept;
    above = is.above;
    stale = is.stale;
  }
