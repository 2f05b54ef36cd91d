-- How the names of a frame stand to those of the whole program.
use Rattle.std.proofs.Common.{◌≡◌, ℕ, zero, suc, ◌+◌, ◌<◌, ◌≤◌, ◌⊎◌, inl, inr, Bool, true, false, cond, List, [], ◌∷◌, ◌++◌, Option, Some, None, option_map, refl, sym}
use Rattle.std.proofs.Common.{ap, ◌∙◌, subst, arith, nat_eq, length}
use Rattle.std.specs.Prelude.{ℤ, if◌then◌else◌, is_some}
use Rattle.std.specs.Option.{option_or}
use Rattle.std.specs.Map.{lookup}
use Rattle.std.proofs.lemmas.Bool.Decides.{nat_tests}
use Rattle.pc_check.specs.declared.slot.Slot.{Slot}
use Rattle.pc_check.specs.declared.slot.Slot.TheVariants as slot
use Rattle.pc_check.specs.Names as names
use Rattle.pc_check.specs.Names.{Names, no_names, declared_in, found_in, found, entered, left, with_scalar, with_array}
use Rattle.pc_check.specs.declared.error.CheckError.{CheckError}
use Rattle.pc_check.specs.Faults.{scalar_faults, fault_or}
use Rattle.pc_calls.specs.Inline.{copied}

-- ---- symbols of copies

copied-eq : (base d x y : ℕ) → nat_eq (copied base d x) (copied base d y) ≡ nat_eq x y
copied-eq base zero x y = refl
copied-eq base (suc d) x y = shifted base (copied base d x) (copied base d y) ∙ copied-eq base d x y
  where
    shifted : (k a b : ℕ) → nat_eq (k + a) (k + b) ≡ nat_eq a b
    shifted k a b = grind (arith, nat_tests)

copied-low : (base d x : ℕ) → x ≤ copied base d x
copied-low base zero x = omega arith
copied-low base (suc d) x = let e = copied-low base d x in omega (arith, e)

copied-less : (base d e x y : ℕ) → d < e → x < base → copied base d x < copied base e y
copied-less base d zero x y less fits = absurd (omega (arith, less))
copied-less base zero (suc e) x y less fits = omega (arith, fits)
copied-less base (suc d) (suc e) x y less fits = let under : d < e = omega (arith, less) in let is = copied-less base d e x y under fits in omega (arith, is)

-- one depth is not the other
abbrev pub Apart : ℕ → ℕ → Type 0
Apart e d = (e < d) ⊎ (d < e)

different : (a b : ℕ) → (a < b) ⊎ (b < a) → nat_eq a b ≡ false
different a b apart = grind (arith, nat_tests, apart)

pub copied-apart : (base e d x y : ℕ) → Apart e d → x < base → y < base → nat_eq (copied base e x) (copied base d y) ≡ false
copied-apart base e d x y (inl less) fits fit = different (copied base e x) (copied base d y) (inl (copied-less base e d x y less fits))
copied-apart base e d x y (inr less) fits fit = different (copied base e x) (copied base d y) (inr (copied-less base d e y x less fit))

-- ---- lookups

pub lookup-snoc : (test : ℕ → Bool) (scope : names.Scope) (entry : ℕ × Slot) →
    lookup test (scope ++ entry ∷ []) ≡ option_or (lookup test scope) (lookup test (entry ∷ []))
lookup-snoc test [] entry = refl
lookup-snoc test (first ∷ others) entry = by (test first.0) (lookup-snoc test others entry)
  where
    by : (b : Bool) → lookup test (others ++ entry ∷ []) ≡ option_or (lookup test others) (lookup test (entry ∷ [])) →
        cond b (Some first.1) (lookup test (others ++ entry ∷ []))
        ≡ option_or (cond b (Some first.1) (lookup test others)) (lookup test (entry ∷ []))
    by true rest = refl
    by false rest = rest

-- where a new entry is looked up
pub declared-more : (scope : names.Scope) (symbol x : ℕ) (s : Slot) → declared_in (scope ++ (symbol, s) ∷ []) x ≡ option_or (declared_in scope x) (cond (nat_eq x symbol) (Some s) None)
declared-more scope symbol x s = lookup-snoc (nat_eq x) scope (symbol, s)

-- ---- slots in scope

-- a scalar of a scope
abbrev pub InScope : names.Scope → ℕ → Type 0
InScope scope i = (x : ℕ) × (declared_in scope x ≡ Some (slot.Scalar i))

abbrev pub InScopes : List names.Scope → ℕ → Type 0
InScopes [] i = ⊥
InScopes (scope ∷ outer) i = InScope scope i ⊎ InScopes outer i

-- the scopes of names
abbrev pub scopes : Names → List names.Scope
scopes n = n.innermost ∷ n.outer

pub found_in-known : (all : List names.Scope) (x i : ℕ) → found_in all x ≡ Some (slot.Scalar i) → InScopes all i
found_in-known [] x i is = cc
found_in-known (scope ∷ outer) x i is = by (declared_in scope x) refl is (found_in-known outer x i)
  where
    by : (o : Option Slot) → declared_in scope x ≡ o → option_or o (found_in outer x) ≡ Some (slot.Scalar i) → (found_in outer x ≡ Some (slot.Scalar i) → InScopes outer i) →
        InScope scope i ⊎ InScopes outer i
    by (Some y) at is more = inl (x, at ∙ is)
    by None at is more = inr (more is)

-- a slot that is in scope once a name is declared was so before, or is the new one
in_scope-split : (scope : names.Scope) (symbol i : ℕ) (s : Slot) → InScope (scope ++ (symbol, s) ∷ []) i → InScope scope i ⊎ (s ≡ slot.Scalar i)
in_scope-split scope symbol i s known = by (declared_in scope known.0) refl (nat_eq known.0 symbol) (sym (declared-more scope symbol known.0 s) ∙ known.1)
  where
    by : (o : Option Slot) → declared_in scope known.0 ≡ o → (b : Bool) → option_or o (cond b (Some s) None) ≡ Some (slot.Scalar i) → InScope scope i ⊎ (s ≡ slot.Scalar i)
    by (Some y) at b is = inl (known.0, at ∙ is)
    by None at true is = inr (cc)
    by None at false is = cc

in_scope-more : (scope : names.Scope) (symbol i : ℕ) (s : Slot) → InScope scope i → InScope (scope ++ (symbol, s) ∷ []) i
in_scope-more scope symbol i s known =
    (known.0, declared-more scope symbol known.0 s ∙ ap (λ (o : Option Slot). option_or o (cond (nat_eq known.0 symbol) (Some s) None)) known.1)

pub known-more : (scope : names.Scope) (outer : List names.Scope) (symbol i : ℕ) (s : Slot) → InScopes (scope ∷ outer) i → InScopes ((scope ++ (symbol, s) ∷ []) ∷ outer) i
known-more scope outer symbol i s (inl known) = inl (in_scope-more scope symbol i s known)
known-more scope outer symbol i s (inr known) = inr known

pub known-split : (scope : names.Scope) (outer : List names.Scope) (symbol i : ℕ) (s : Slot) → InScopes ((scope ++ (symbol, s) ∷ []) ∷ outer) i → InScopes (scope ∷ outer) i ⊎ (s ≡ slot.Scalar i)
known-split scope outer symbol i s (inl known) = by (in_scope-split scope symbol i s known)
  where
    by : InScope scope i ⊎ (s ≡ slot.Scalar i) → InScopes (scope ∷ outer) i ⊎ (s ≡ slot.Scalar i)
    by (inl one) = inl (inl one)
    by (inr new) = inr new
known-split scope outer symbol i s (inr known) = inl (inr known)

-- ---- how names stand

-- the slot of the whole program for a slot of the frame
abbrev pub image : (ℕ → ℕ) → Slot → Slot
image slots (slot.Scalar i) = slot.Scalar (slots i)
image slots (slot.Array i) = slot.Array i

-- one more slot of the frame
abbrev pub extended : (ℕ → ℕ) → ℕ → ℕ → ℕ → ℕ
extended slots new at i = if nat_eq i new then at else slots i

-- two slots are a pair, or neither is one of it
abbrev pub Fits : ℕ → ℕ → ℕ → ℕ → Type 0
Fits a b i j = (a ≡ i → b ≡ j) × (b ≡ j → a ≡ i)

-- the lengths of the arrays that are declared, and their data
abbrev pub Arrays : Type 0
Arrays = List ℕ × List (List ℤ)

abbrev pub arrays : Names → Arrays
arrays n = (n.lengths, n.initial)

-- what is known of the arrays: a function declares none
abbrev pub ArraysAgree : Bool → Arrays → Arrays → Arrays → Type 0
ArraysAgree true fixed ours theirs = theirs ≡ fixed
ArraysAgree false fixed ours theirs = theirs ≡ ours

module _ (base depth : ℕ) (in_function : Bool) (low : ℕ) (watch : ℕ → ℕ → Type 0) (fixed : Arrays) where
  -- the names `n` of a frame, whose slots are these, stand so to the names `m` of the whole program
  pub record Stands (slots : ℕ → ℕ) (n m : Names) : Type 0 where
    pub inner : (x : ℕ) → x < base → declared_in m.innermost (copied base depth x) ≡ option_map (image slots) (declared_in n.innermost x)
    pub outer : (x : ℕ) → x < base → found_in m.outer (copied base depth x) ≡ option_map (image slots) (found_in n.outer x)
    pub own : (e x : ℕ) → Apart e depth → x < base → declared_in m.innermost (copied base e x) ≡ None
    pub clear : (e x : ℕ) → depth < e → x < base → found_in m.outer (copied base e x) ≡ None
    pub below : (i : ℕ) → InScopes (scopes n) i → (i < n.scalars) × (low ≤ slots i) × (slots i < m.scalars)
    pub apart : (i j : ℕ) → InScopes (scopes n) i → InScopes (scopes n) j → slots i ≡ slots j → i ≡ j
    pub paired : (a : ℕ) → InScopes (scopes n) a → (i j : ℕ) → watch i j → Fits a (slots a) i j
    pub grown : low ≤ m.scalars
    pub lengths : ArraysAgree in_function fixed (arrays n) (arrays m)

  -- a name is found here as there
  either-faces : (slots : ℕ → ℕ) (o p o' p' : Option Slot) → o' ≡ option_map (image slots) o → p' ≡ option_map (image slots) p → option_or o' p' ≡ option_map (image slots) (option_or o p)
  either-faces slots (Some x) p o' p' one other = ap (λ (y : Option Slot). option_or y p') one
  either-faces slots None p o' p' one other = ap (λ (y : Option Slot). option_or y p') one ∙ other

  pub found-faces : (slots : ℕ → ℕ) (n m : Names) → Stands slots n m → (x : ℕ) → x < base → found m (copied base depth x) ≡ option_map (image slots) (found n x)
  found-faces slots n m stands x fits =
      either-faces slots (declared_in n.innermost x) (found_in n.outer x) _ _ (stands.inner x fits) (stands.outer x fits)

  -- no name of a deeper copy is found
  pub found-clear : (slots : ℕ → ℕ) (n m : Names) → Stands slots n m → (e x : ℕ) → depth < e → x < base → found m (copied base e x) ≡ None
  found-clear slots n m stands e x deeper fits =
      ap (λ (y : Option Slot). option_or y (found_in m.outer (copied base e x))) (stands.own e x (inr deeper) fits) ∙ stands.clear e x deeper fits

  -- ---- scopes that are entered and left

  pub stands-entered : (slots : ℕ → ℕ) (n m : Names) → Stands slots n m → Stands slots (entered n) (entered m)
  stands-entered slots n m stands = record {
    inner = λ x fits. refl;
    outer = λ x fits. found-faces slots n m stands x fits;
    own = λ e x far fits. refl;
    clear = λ e x deeper fits. found-clear slots n m stands e x deeper fits;
    below = λ i known. stands.below i (inside i known);
    apart = λ i j known other. stands.apart i j (inside i known) (inside j other);
    paired = λ a known i j w. stands.paired a (inside a known) i j w;
    grown = stands.grown;
    lengths = stands.lengths;
  }
    where
      inside : (i : ℕ) → InScopes ([] ∷ scopes n) i → InScopes (scopes n) i
      inside i (inl known) = let is = known.1 in cc
      inside i (inr known) = known

  -- the same scopes, with more slots after them
  pub stands-left : (slots : ℕ → ℕ) (n m n' m' : Names) → Stands slots n m → n.scalars ≤ n'.scalars → m.scalars ≤ m'.scalars → ArraysAgree in_function fixed (arrays n') (arrays m') →
      n'.innermost ≡ n.innermost → n'.outer ≡ n.outer → m'.innermost ≡ m.innermost → m'.outer ≡ m.outer → Stands slots n' m'
  stands-left slots n m n' m' stands more others lengths a b c d =
      let back : (i : ℕ) → InScopes (scopes n') i → InScopes (scopes n) i =
      λ i known. subst (λ (all : List names.Scope). InScopes all i) (ap (λ (x : names.Scope). x ∷ n'.outer) a ∙ ap (λ (x : List names.Scope). n.innermost ∷ x) b) known in
      record {
        inner = λ x fits. ap (λ (z : names.Scope). declared_in z (copied base depth x)) c ∙ stands.inner x fits ∙ ap (λ (z : names.Scope). option_map (image slots) (declared_in z x)) (sym a);
        outer = λ x fits. ap (λ (z : List names.Scope). found_in z (copied base depth x)) d ∙ stands.outer x fits ∙ ap (λ (z : List names.Scope). option_map (image slots) (found_in z x)) (sym b);
        own = λ e x far fits. ap (λ (z : names.Scope). declared_in z (copied base e x)) c ∙ stands.own e x far fits;
        clear = λ e x deeper fits. ap (λ (z : List names.Scope). found_in z (copied base e x)) d ∙ stands.clear e x deeper fits;
        below = λ i known. let is = stands.below i (back i known) in (omega (arith, is.0, more), is.1, omega (arith, is.2, others));
        apart = λ i j known other. stands.apart i j (back i known) (back j other);
        paired = λ a known i j w. stands.paired a (back a known) i j w;
        grown = omega (arith, stands.grown, others);
        lengths = lengths;
      }

  -- ---- a scalar that is declared

  extended-new : (slots : ℕ → ℕ) (k at : ℕ) → extended slots k at k ≡ at
  extended-new slots k at = grind (arith, nat_tests)

  pub extended-old : (slots : ℕ → ℕ) (k at i : ℕ) → i < k → extended slots k at i ≡ slots i
  extended-old slots k at i less = ap (λ (b : Bool). if b then at else slots i) (different i k (inl less))

  image-old : (slots : ℕ → ℕ) (k at : ℕ) (o : Option Slot) → ((i : ℕ) → o ≡ Some (slot.Scalar i) → i < k) → option_map (image slots) o ≡ option_map (image (extended slots k at)) o
  image-old slots k at None less = refl
  image-old slots k at (Some (slot.Array i)) less = refl
  image-old slots k at (Some (slot.Scalar i)) less = ap (λ (j : ℕ). Some (slot.Scalar j)) (sym (extended-old slots k at i (less i refl)))

  new-faces : (slots : ℕ → ℕ) (b : Bool) (s : Slot) → cond b (Some (image slots s)) None ≡ option_map (image slots) (cond b (Some s) None)
  new-faces slots true s = refl
  new-faces slots false s = refl

  pub stands-scalar : (slots : ℕ → ℕ) (n m : Names) (symbol : ℕ) → symbol < base → Stands slots n m → ((i j : ℕ) → watch i j → Fits n.scalars m.scalars i j) →
      Stands (extended slots n.scalars m.scalars) (with_scalar n symbol) (with_scalar m (copied base depth symbol))
  stands-scalar slots n m symbol fit stands fresh =
      let slots' = extended slots n.scalars m.scalars in
      let new : slots' n.scalars ≡ m.scalars = extended-new slots n.scalars m.scalars in
      let old : (i : ℕ) → InScopes (scopes n) i → slots' i ≡ slots i = λ i known. extended-old slots n.scalars m.scalars i (stands.below i known).0 in
      let split : (i : ℕ) → InScopes (scopes (with_scalar n symbol)) i → InScopes (scopes n) i ⊎ (slot.Scalar n.scalars ≡ slot.Scalar i) = λ i known.
      known-split n.innermost n.outer symbol i (slot.Scalar n.scalars) known in
      record {
        inner = λ x fits.
            declared-more m.innermost (copied base depth symbol) (copied base depth x) (slot.Scalar m.scalars)
            ∙ ap (λ (b : Bool). option_or (declared_in m.innermost (copied base depth x)) (cond b (Some (slot.Scalar m.scalars)) None)) (copied-eq base depth x symbol)
            ∙ either-faces slots' (declared_in n.innermost x) (cond (nat_eq x symbol) (Some (slot.Scalar n.scalars)) None) _ _
            (stands.inner x fits ∙ image-old slots n.scalars m.scalars (declared_in n.innermost x) (λ i is. (stands.below i (inl (x, is))).0))
            (ap (λ (j : ℕ). cond (nat_eq x symbol) (Some (slot.Scalar j)) None) (sym new) ∙ new-faces slots' (nat_eq x symbol) (slot.Scalar n.scalars))
            ∙ ap (option_map (image slots')) (sym (declared-more n.innermost symbol x (slot.Scalar n.scalars)));
        outer = λ x fits. stands.outer x fits ∙ image-old slots n.scalars m.scalars (found_in n.outer x) (λ i is. (stands.below i (inr (found_in-known n.outer x i is))).0);
        own = λ e x far fits.
            declared-more m.innermost (copied base depth symbol) (copied base e x) (slot.Scalar m.scalars)
            ∙ ap (λ (b : Bool). option_or (declared_in m.innermost (copied base e x)) (cond b (Some (slot.Scalar m.scalars)) None)) (copied-apart base e depth x symbol far fits fit)
            ∙ ap (λ (o : Option Slot). option_or o None) (stands.own e x far fits);
        clear = λ e x deeper fits. stands.clear e x deeper fits;
        below = λ i known. below_by i (split i known) new old;
        apart = λ i j known other same. apart_by i j (split i known) (split j other) new old same;
        paired = λ a known i j w. paired_by a (split a known) i j w new old;
        grown = omega (arith, stands.grown);
        lengths = stands.lengths;
      }
    where
      below_by : (i : ℕ) → InScopes (scopes n) i ⊎ (slot.Scalar n.scalars ≡ slot.Scalar i) → extended slots n.scalars m.scalars n.scalars ≡ m.scalars →
          ((i : ℕ) → InScopes (scopes n) i → extended slots n.scalars m.scalars i ≡ slots i) →
          (i < n.scalars + 1) × (low ≤ extended slots n.scalars m.scalars i) × (extended slots n.scalars m.scalars i < m.scalars + 1)
      below_by i (inl known) new old = let is = stands.below i known in let e = old i known in (omega (arith, is.0), omega (arith, is.1, e), omega (arith, is.2, e))
      below_by i (inr is) new old =
          let same : n.scalars ≡ i = cc in
          let P : ℕ → Type 0 = λ k. (k < n.scalars + 1) × (low ≤ extended slots n.scalars m.scalars k) × (extended slots n.scalars m.scalars k < m.scalars + 1) in
          subst P same (omega arith, omega (arith, new, stands.grown), omega (arith, new))

      paired_by : (a : ℕ) → InScopes (scopes n) a ⊎ (slot.Scalar n.scalars ≡ slot.Scalar a) → (i j : ℕ) → watch i j → extended slots n.scalars m.scalars n.scalars ≡ m.scalars →
          ((i : ℕ) → InScopes (scopes n) i → extended slots n.scalars m.scalars i ≡ slots i) → Fits a (extended slots n.scalars m.scalars a) i j
      paired_by a (inl known) i j w new old = subst (λ (z : ℕ). Fits a z i j) (sym (old a known)) (stands.paired a known i j w)
      paired_by a (inr is) i j w new old =
          let same : n.scalars ≡ a = cc in
          subst (λ (z : ℕ). Fits z (extended slots n.scalars m.scalars z) i j) same (subst (λ (z : ℕ). Fits n.scalars z i j) (sym new) (fresh i j w))

      apart_by : (i j : ℕ) → InScopes (scopes n) i ⊎ (slot.Scalar n.scalars ≡ slot.Scalar i) → InScopes (scopes n) j ⊎ (slot.Scalar n.scalars ≡ slot.Scalar j) →
          extended slots n.scalars m.scalars n.scalars ≡ m.scalars → ((i : ℕ) → InScopes (scopes n) i → extended slots n.scalars m.scalars i ≡ slots i) →
          extended slots n.scalars m.scalars i ≡ extended slots n.scalars m.scalars j → i ≡ j
      apart_by i j (inl known) (inl other) new old same = stands.apart i j known other (sym (old i known) ∙ same ∙ old j other)
      apart_by i j (inl known) (inr is) new old same =
          let at : n.scalars ≡ j = cc in
          let less = (stands.below i known).2 in
          let e : slots i ≡ m.scalars = sym (old i known) ∙ same ∙ ap (extended slots n.scalars m.scalars) (sym at) ∙ new in
          absurd (omega (arith, less, e))
      apart_by i j (inr is) (inl other) new old same =
          let at : n.scalars ≡ i = cc in
          let less = (stands.below j other).2 in
          let e : slots j ≡ m.scalars = sym (old j other) ∙ sym same ∙ ap (extended slots n.scalars m.scalars) (sym at) ∙ new in
          absurd (omega (arith, less, e))
      apart_by i j (inr is) (inr also) new old same = cc

-- an array that `main` declares
pub stands-array : (base depth : ℕ) (in_function : Bool) (low : ℕ) (watch : ℕ → ℕ → Type 0) (fixed : Arrays) (slots : ℕ → ℕ) (n m : Names) (symbol size : ℕ) (words : List ℤ) →
    in_function ≡ false → symbol < base →
    Stands base depth in_function low watch fixed slots n m → Stands base depth in_function low watch fixed slots (with_array n symbol size words) (with_array m (copied base depth symbol) size words)
stands-array base depth true low watch fixed slots n m symbol size words main fit stands = cc
stands-array base depth false low watch fixed slots n m symbol size words main fit stands =
    let back : (i : ℕ) → InScopes (scopes (with_array n symbol size words)) i → InScopes (scopes n) i = λ i known.
    before i (known-split n.innermost n.outer symbol i (slot.Array (length n.lengths)) known) in
    record {
      inner = λ x fits.
          declared-more m.innermost (copied base depth symbol) (copied base depth x) (slot.Array (length m.lengths))
          ∙ ap (λ (b : Bool). option_or (declared_in m.innermost (copied base depth x)) (cond b (Some (slot.Array (length m.lengths))) None)) (copied-eq base depth x symbol)
          ∙ faces (declared_in n.innermost x) (declared_in m.innermost (copied base depth x)) (nat_eq x symbol) (stands.inner x fits)
          ∙ ap (option_map (image slots)) (sym (declared-more n.innermost symbol x (slot.Array (length n.lengths))));
      outer = stands.outer;
      own = λ e x far fits.
          declared-more m.innermost (copied base depth symbol) (copied base e x) (slot.Array (length m.lengths))
          ∙ ap (λ (b : Bool). option_or (declared_in m.innermost (copied base e x)) (cond b (Some (slot.Array (length m.lengths))) None)) (copied-apart base e depth x symbol far fits fit)
          ∙ ap (λ (o : Option Slot). option_or o None) (stands.own e x far fits);
      clear = stands.clear;
      below = λ i known. stands.below i (back i known);
      apart = λ i j known other. stands.apart i j (back i known) (back j other);
      paired = λ a known i j w. stands.paired a (back a known) i j w;
      grown = stands.grown;
      lengths = ap (λ (l : Arrays). (l.0 ++ size ∷ [], l.1 ++ words ∷ [])) stands.lengths;
    }
  where
    before : (i : ℕ) → InScopes (scopes n) i ⊎ (slot.Array (length n.lengths) ≡ slot.Scalar i) → InScopes (scopes n) i
    before i (inl known) = known
    before i (inr is) = cc

    faces : (o o' : Option Slot) (b : Bool) → o' ≡ option_map (image slots) o →
        option_or o' (cond b (Some (slot.Array (length m.lengths))) None) ≡ option_map (image slots) (option_or o (cond b (Some (slot.Array (length n.lengths))) None))
    faces (Some x) o' b is = ap (λ (y : Option Slot). option_or y (cond b (Some (slot.Array (length m.lengths))) None)) is
    faces None o' true is = ap (λ (y : Option Slot). option_or y (Some (slot.Array (length m.lengths)))) is ∙ ap (λ (l : Arrays). Some (slot.Array (length l.0))) stands.lengths
    faces None o' false is = ap (λ (y : Option Slot). option_or y None) is

-- a name that its scope did not declare is in scope once it is declared
pub new-known : (base depth : ℕ) (in_function : Bool) (low : ℕ) (watch : ℕ → ℕ → Type 0) (fixed : Arrays) (slots : ℕ → ℕ) (n m : Names) (symbol line : ℕ) →
    Stands base depth in_function low watch fixed slots n m → symbol < base →
    scalar_faults m (copied base depth symbol) line ≡ [] → InScopes (scopes (with_scalar n symbol)) n.scalars
new-known base depth in_function low watch fixed slots n m symbol line stands fit none =
    inl (
      symbol,
      declared-more n.innermost symbol symbol (slot.Scalar n.scalars)
          ∙ ap (λ (b : Bool). option_or (declared_in n.innermost symbol) (cond b (Some (slot.Scalar n.scalars)) None)) (same symbol)
          ∙ ap (λ (o : Option Slot). option_or o (Some (slot.Scalar n.scalars)))
          (unimaged (declared_in n.innermost symbol) (sym (stands.inner symbol fit) ∙ undeclared (declared_in m.innermost (copied base depth symbol)) _ _ none)),
    )
  where
    same : (a : ℕ) → nat_eq a a ≡ true
    same a = grind (arith, nat_tests)

    undeclared : (o : Option Slot) (x : CheckError) (more : List CheckError) → fault_or (is_some o) x more ≡ [] → o ≡ None
    undeclared None x more none = refl
    undeclared (Some s) x more none = cc

    unimaged : (o : Option Slot) → option_map (image slots) o ≡ None → o ≡ None
    unimaged None is = refl
    unimaged (Some s) is = cc
