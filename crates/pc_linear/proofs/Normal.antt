-- Sums are in normal form, and a sum in normal form is known by its factors.
use Rattle.std.proofs.Common.{◌≡◌, ℕ, zero, suc, ◌<◌, ◌≤◌, List, [], ◌∷◌, length, Some, None, refl, sym, ◌∙◌, ap, subst, arith, ◌⊎◌, inl, inr}
use Rattle.std.proofs.lemmas.Bool.Decides.{nat_tests}
use Rattle.std.specs.Prelude.{ℤ, pos, negsuc, ◌+ℤ◌, ◌*ℤ◌, Bool, true, false, if◌then◌else◌, nat_eq, nat_lt, IfSome}
use Rattle.std.specs.List.{AllByRecursion}
use Rattle.std.specs.Int.{w32, int_wrap}
use Rattle.std.proofs.lemmas.Int.{ints, SFits-int_wrap, int_wrap_fits}
use lib.IntN.{+ℤ_idl, +ℤ_idr, *ℤ_comm, *ℤ-zero}
use Rattle.pc_word.specs.Word.{IsWord}
use Rattle.pc_linear.specs.declared.term.Term.{Term}
use Rattle.pc_linear.specs.Form.{Form, most_terms, Rising, HasFactor, IsNormal, IsForm, sum_of, ◌≈◌, factor_in, factor_of}
use Rattle.pc_linear.specs.Combine.{prepended, add_term, add_times, plus, constant_form, fitting}
use Rattle.pc_linear.proofs.Words.{one_times, add_same, times_same}
use Rattle.pc_linear.proofs.Forms.{add_times-sum}

-- ---- variables rise

Rising-less : (m n : ℕ) (ts : List Term) → m ≤ n → Rising n ts → Rising m ts
Rising-less m n [] le r = tt
Rising-less m n (t ∷ ts) le r = let p = r.0 in (omega arith, r.1)

prepended-rising : (least v : ℕ) (factor : ℤ) (ts : List Term) → least ≤ v → Rising (suc v) ts → Rising least (prepended v factor ts)
prepended-rising least v (pos zero) ts le r = Rising-less least (suc v) ts (omega arith) r
prepended-rising least v (pos (suc n)) ts le r = (le, r)
prepended-rising least v (negsuc n) ts le r = (le, r)

pub add_term-rising : (least v : ℕ) (factor : ℤ) (ts : List Term) → least ≤ v → Rising least ts → Rising least (add_term v factor ts)
add_term-rising least v factor [] le r = prepended-rising least v (int_wrap w32 factor) [] le tt
add_term-rising least v factor (t ∷ ts) le r = by_order (nat_lt v t.variable) (nat_eq v t.variable) refl refl (λ lt. add_term-rising (suc t.variable) v factor ts lt r.1)
  where
    less_tells : nat_lt v t.variable ≡ true → v < t.variable
    less_tells e = grind (arith, nat_tests)

    same_tells : nat_eq v t.variable ≡ true → t.variable ≡ v
    same_tells e = grind arith

    more_tells : nat_lt v t.variable ≡ false → nat_eq v t.variable ≡ false → t.variable < v
    more_tells e d = grind (arith, nat_tests)

    by_order : (less equal : Bool) → nat_lt v t.variable ≡ less → nat_eq v t.variable ≡ equal → (suc t.variable ≤ v → Rising (suc t.variable) (add_term v factor ts))
        → Rising least (if less then prepended v (int_wrap w32 factor) (t ∷ ts) else if equal then prepended v (int_wrap w32 (factor +ℤ t.factor)) ts else t ∷ add_term v factor ts)
    by_order true equal e d next = prepended-rising least v (int_wrap w32 factor) (t ∷ ts) le (less_tells e, r.1)
    by_order false true e d next = prepended-rising least v (int_wrap w32 (factor +ℤ t.factor)) ts le (subst (λ (x : ℕ). Rising (suc x) ts) (same_tells d) r.1)
    by_order false false e d next = (r.0, next (more_tells e d))

pub add_times-rising : (n : ℤ) (ts us : List Term) → Rising 0 us → Rising 0 (add_times n ts us)
add_times-rising n [] us r = r
add_times-rising n (t ∷ ts) us r = add_times-rising n ts (add_term t.variable (n *ℤ t.factor) us) (add_term-rising 0 t.variable (n *ℤ t.factor) us (omega arith) r)

-- ---- factors are words other than 0

prepended-factors : (v : ℕ) (factor : ℤ) (ts : List Term) → IsWord factor → AllByRecursion HasFactor ts → AllByRecursion HasFactor (prepended v factor ts)
prepended-factors v (pos zero) ts w h = h
prepended-factors v (pos (suc n)) ts w h = (record { word = w; nonzero = λ e. omega (arith, ints) }, h)
prepended-factors v (negsuc n) ts w h = (record { word = w; nonzero = λ e. omega (arith, ints) }, h)

add_term-factors : (v : ℕ) (factor : ℤ) (ts : List Term) → AllByRecursion HasFactor ts → AllByRecursion HasFactor (add_term v factor ts)
add_term-factors v factor [] h = prepended-factors v (int_wrap w32 factor) [] (SFits-int_wrap w32 factor) tt
add_term-factors v factor (t ∷ ts) h = by_order (nat_lt v t.variable) (nat_eq v t.variable) (add_term-factors v factor ts h.1)
  where
    by_order : (less equal : Bool) → AllByRecursion HasFactor (add_term v factor ts)
        → AllByRecursion HasFactor (if less then prepended v (int_wrap w32 factor) (t ∷ ts) else if equal then prepended v (int_wrap w32 (factor +ℤ t.factor)) ts else t ∷ add_term v factor ts)
    by_order true equal next = prepended-factors v (int_wrap w32 factor) (t ∷ ts) (SFits-int_wrap w32 factor) h
    by_order false true next = prepended-factors v (int_wrap w32 (factor +ℤ t.factor)) ts (SFits-int_wrap w32 (factor +ℤ t.factor)) h.1
    by_order false false next = (h.0, next)

add_times-factors : (n : ℤ) (ts us : List Term) → AllByRecursion HasFactor us → AllByRecursion HasFactor (add_times n ts us)
add_times-factors n [] us h = h
add_times-factors n (t ∷ ts) us h = add_times-factors n ts (add_term t.variable (n *ℤ t.factor) us) (add_term-factors t.variable (n *ℤ t.factor) us h)

-- a sum is in normal form
pub plus-normal : (f : Form) (n : ℤ) (g : Form) → IsNormal f → IsNormal (plus f n g)
plus-normal f n g h = record {
  rising = add_times-rising n g.terms f.terms h.rising;
  factors = add_times-factors n g.terms f.terms h.factors;
  constant = SFits-int_wrap w32 (f.constant +ℤ (n *ℤ g.constant));
}

-- a number alone is in normal form where it is a word
pub constant-normal : (c : ℤ) → IsWord c → IsNormal (constant_form c)
constant-normal c w = record { rising = tt; factors = tt; constant = w }

-- a sum that fits is a form
pub fitting-form : (f : Form) → IsNormal f → IfSome (fitting f) IsForm
fitting-form f h = by_length (nat_lt most_terms (length f.terms)) refl
  where
    few : nat_lt most_terms (length f.terms) ≡ false → length f.terms ≤ most_terms
    few e = grind (arith, nat_tests)

    by_length : (b : Bool) → nat_lt most_terms (length f.terms) ≡ b → IfSome (if b then None else Some f) IsForm
    by_length true e = tt
    by_length false e = record { normal = h; few = few e }

-- ---- lengths

prepended-length : (v : ℕ) (factor : ℤ) (ts : List Term) → length (prepended v factor ts) ≤ suc (length ts)
prepended-length v (pos zero) ts = omega arith
prepended-length v (pos (suc n)) ts = omega arith
prepended-length v (negsuc n) ts = omega arith

-- one more term at most
pub add_term-length : (v : ℕ) (factor : ℤ) (ts : List Term) → length (add_term v factor ts) ≤ suc (length ts)
add_term-length v factor [] = prepended-length v (int_wrap w32 factor) []
add_term-length v factor (t ∷ ts) = by_order (nat_lt v t.variable) (nat_eq v t.variable) (add_term-length v factor ts)
  where
    by_order : (less equal : Bool) → length (add_term v factor ts) ≤ suc (length ts)
        → length (if less then prepended v (int_wrap w32 factor) (t ∷ ts)
        else if equal then prepended v (int_wrap w32 (factor +ℤ t.factor)) ts else t ∷ add_term v factor ts) ≤ suc (suc (length ts))
    by_order true equal next = prepended-length v (int_wrap w32 factor) (t ∷ ts)
    by_order false true next = let le = prepended-length v (int_wrap w32 (factor +ℤ t.factor)) ts in omega arith
    by_order false false next = omega arith

-- ---- factors of variables

-- 1 at one variable, and else 0
abbrev pub only : ℕ → ℕ → ℤ
only x v = if nat_eq x v then pos 1 else pos 0

-- a variable's factor is the sum of the terms where that variable alone is 1
pub factor-sum : (x : ℕ) (ts : List Term) → factor_of ts x ≡ sum_of (only x) ts
factor-sum x [] = refl
factor-sum x (t ∷ ts) = λ i. in_term (nat_eq x t.variable) i +ℤ factor-sum x ts i
  where
    in_term : (b : Bool) → (if b then t.factor else pos 0) ≡ t.factor *ℤ (if b then pos 1 else pos 0)
    in_term true = sym (*ℤ_comm t.factor (pos 1) ∙ one_times t.factor)
    in_term false = sym (*ℤ-zero t.factor)

-- below the first variable there is no factor
pub factor-below : (x least : ℕ) (ts : List Term) → x < least → Rising least ts → factor_of ts x ≡ pos 0
factor-below x least [] lt r = refl
factor-below x least (t ∷ ts) lt r =
    let le = r.0 in
    (λ i. (if other (omega arith) i then t.factor else pos 0) +ℤ factor-below x (suc t.variable) ts (omega arith) r.1 i) ∙ +ℤ_idl (pos 0)
  where
    other : x < t.variable → nat_eq x t.variable ≡ false
    other lt = grind arith

-- a variable's factor is a word
pub factor-word : (x least : ℕ) (ts : List Term) → Rising least ts → AllByRecursion HasFactor ts → IsWord (factor_of ts x)
factor-word x least [] r h = record { sfits = omega arith }
factor-word x least (t ∷ ts) r h = by_test (nat_eq x t.variable) refl (factor-word x (suc t.variable) ts r.1 h.1)
  where
    within : nat_eq x t.variable ≡ true → x < suc t.variable
    within e = grind arith

    by_test : (b : Bool) → nat_eq x t.variable ≡ b → IsWord (factor_of ts x) → IsWord ((if b then t.factor else pos 0) +ℤ factor_of ts x)
    by_test true e w = subst (λ (z : ℤ). IsWord z) (sym (ap (λ (z : ℤ). t.factor +ℤ z) (factor-below x (suc t.variable) ts (within e) r.1) ∙ +ℤ_idr t.factor)) h.0.word
    by_test false e w = subst (λ (z : ℤ). IsWord z) (sym (+ℤ_idl (factor_of ts x))) w

-- a variable's factor in a sum is the sum of its factors, as a word
pub plus-factor : (f : Form) (n : ℤ) (g : Form) (x : ℕ) → IsNormal f → factor_of (plus f n g).terms x ≡ int_wrap w32 (factor_of f.terms x +ℤ (n *ℤ factor_of g.terms x))
plus-factor f n g x h =
    let k = plus-normal f n g h in
    sym (int_wrap_fits w32 (factor_of (plus f n g).terms x) (factor-word x 0 (plus f n g).terms k.rising k.factors))
    ∙ ap (int_wrap w32) (factor-sum x (plus f n g).terms)
    ∙ add_times-sum (only x) n g.terms f.terms
    ∙ ap (int_wrap w32) (flip (n *ℤ sum_of (only x) g.terms) (sum_of (only x) f.terms) ∙ (λ i. sym (factor-sum x f.terms) i +ℤ (n *ℤ sym (factor-sum x g.terms) i)))
  where
    flip : (a b : ℤ) → a +ℤ b ≡ b +ℤ a
    flip a b = omega (arith, ints)

-- the first term's factor is its variable's
factor-first : (t : Term) (ts : List Term) → Rising (suc t.variable) ts → factor_of (t ∷ ts) t.variable ≡ t.factor
factor-first t ts r = (λ i. (if same i then t.factor else pos 0) +ℤ factor-below t.variable (suc t.variable) ts (omega arith) r i) ∙ +ℤ_idr t.factor
  where
    same : nat_eq t.variable t.variable ≡ true
    same = grind arith

-- of two numbers one is less, or they are equal
compare : (n m : ℕ) → (n < m) ⊎ ((n ≡ m) ⊎ (m < n))
compare n m = grind arith

-- terms with the same factors at each variable are the same
same_terms : (n m : ℕ) (ts us : List Term) → Rising n ts → Rising m us → AllByRecursion HasFactor ts
    → AllByRecursion HasFactor us → ((x : ℕ) → factor_of ts x ≡ factor_of us x) → ts ≡ us
same_terms n m [] [] r s p q h = refl
same_terms n m [] (u ∷ us) r s p q h = absurd (q.0.nonzero (sym (factor-first u us s.1) ∙ sym (h u.variable)))
same_terms n m (t ∷ ts) [] r s p q h = absurd (p.0.nonzero (sym (factor-first t ts r.1) ∙ h t.variable))
same_terms n m (t ∷ ts) (u ∷ us) r s p q h = by_order (compare t.variable u.variable) (same_terms (suc t.variable) (suc u.variable) ts us r.1 s.1 p.1 q.1)
  where
    from_first : (v : Term) (vs : List Term) → Rising (suc v.variable) vs → Rising v.variable (v ∷ vs)
    from_first v vs r = (omega arith, r)

    cancel : (a b c d : ℤ) → a ≡ b → a +ℤ c ≡ b +ℤ d → c ≡ d
    cancel a b c d e f = omega (arith, ints)

    rest : t.variable ≡ u.variable → t.factor ≡ u.factor → (x : ℕ) → factor_of ts x ≡ factor_of us x
    rest e f x = cancel (factor_in t x) (factor_in u x) (factor_of ts x) (factor_of us x) (λ i. if nat_eq x (e i) then f i else pos 0) (h x)

    by_order : (t.variable < u.variable) ⊎ ((t.variable ≡ u.variable) ⊎ (u.variable < t.variable)) → (((x : ℕ) → factor_of ts x ≡ factor_of us x) → ts ≡ us) → t ∷ ts ≡ u ∷ us
    by_order (inl lt) next = absurd (p.0.nonzero (sym (factor-first t ts r.1) ∙ h t.variable ∙ factor-below t.variable u.variable (u ∷ us) lt (from_first u us s.1)))
    by_order (inr (inr lt)) next = absurd (q.0.nonzero (sym (factor-first u us s.1) ∙ sym (h u.variable) ∙ factor-below u.variable t.variable (t ∷ ts) lt (from_first t ts r.1)))
    by_order (inr (inl e)) next =
        let f : t.factor ≡ u.factor = sym (factor-first t ts r.1) ∙ h t.variable ∙ ap (λ (x : ℕ). factor_of (u ∷ us) x) e ∙ factor-first u us s.1 in
        λ i. record { variable = e i; factor = f i } ∷ next (rest e f) i

-- a sum in normal form is known by its factors and its constant
pub same_form : (f g : Form) → IsNormal f → IsNormal g → ((x : ℕ) → factor_of f.terms x ≡ factor_of g.terms x) → f.constant ≡ g.constant → f ≡ g
same_form f g p q h e = λ i. record { terms = same_terms 0 0 f.terms g.terms p.rising q.rising p.factors q.factors h i; constant = e i }

-- ---- factors count modulo 2^32

-- a factor added, or one that is equal to it modulo 2^32
pub add_term-same : (v : ℕ) (k l : ℤ) (ts : List Term) → k ≈ l → add_term v k ts ≡ add_term v l ts
add_term-same v k l [] e = ap (λ (z : ℤ). prepended v z []) e
add_term-same v k l (t ∷ ts) e = by_order (nat_lt v t.variable) (nat_eq v t.variable) (add_term-same v k l ts e)
  where
    by_order : (less equal : Bool) → add_term v k ts ≡ add_term v l ts
        → (if less then prepended v (int_wrap w32 k) (t ∷ ts) else if equal then prepended v (int_wrap w32 (k +ℤ t.factor)) ts else t ∷ add_term v k ts)
        ≡ (if less then prepended v (int_wrap w32 l) (t ∷ ts) else if equal then prepended v (int_wrap w32 (l +ℤ t.factor)) ts else t ∷ add_term v l ts)
    by_order true equal next = ap (λ (z : ℤ). prepended v z (t ∷ ts)) e
    by_order false true next = ap (λ (z : ℤ). prepended v z ts) (add_same k l t.factor t.factor e refl)
    by_order false false next = ap (λ (us : List Term). t ∷ us) next

add_times-same : (m n : ℤ) (ts us : List Term) → m ≈ n → add_times m ts us ≡ add_times n ts us
add_times-same m n [] us e = refl
add_times-same m n (t ∷ ts) us e =
    ap (λ (vs : List Term). add_times m ts vs) (add_term-same t.variable (m *ℤ t.factor) (n *ℤ t.factor) us (times_same m n t.factor t.factor e refl))
    ∙ add_times-same m n ts (add_term t.variable (n *ℤ t.factor) us) e

-- a form and so many times another, or so many modulo 2^32
pub plus-same : (f : Form) (m n : ℤ) (g : Form) → m ≈ n → plus f m g ≡ plus f n g
plus-same f m n g e = λ i. record {
  terms = add_times-same m n g.terms f.terms e i;
  constant = add_same f.constant f.constant (m *ℤ g.constant) (n *ℤ g.constant) refl (times_same m n g.constant g.constant e refl) i;
}
