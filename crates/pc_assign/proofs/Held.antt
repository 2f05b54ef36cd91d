-- Registers of parameters, one after the other.
use Rattle.std.proofs.Common.{◌≡◌, ℕ, zero, suc, ◌+◌, ◌<◌, ◌≤◌, ◌⊎◌, Bool, true, false, ◌&&◌, ◌||◌, List, [], ◌∷◌, ◌++◌, length, take, Option, Some}
use Rattle.std.proofs.Common.{refl, sym, ◌∙◌, ap, subst, inl, inr, arith, get_or}
use Rattle.std.specs.Prelude.{nat_eq, slice_get}
use Rattle.std.specs.List.{list_any}
use Rattle.pc_window.specs.declared.home.Home.{Home}
use Rattle.pc_window.specs.Names.{homes_use}
use Rattle.pc_window.specs.Rebasing.{is_in}
use Rattle.pc_automaton.specs.declared.automaton.AutomatonLeaf.{AutomatonLeaf}
use Rattle.pc_automaton.specs.declared.automaton.AutomatonLeaf.TheVariants.{Out}
use Rattle.pc_assign.specs.Uses.{leaf_uses}
use Rattle.pc_assign.specs.Assigned.{passed_at}
use Rattle.pc_assign.specs.declared.register_set.RegisterSet.{RegisterSet}
use Rattle.pc_assign.specs.models.Choosing.{member, AreMost, IsParameterTaken, AreParameters, used_holds}
use Rattle.pc_word.specs.Items.{reads_name}
use Rattle.pc_window.proofs.Scopes.{or_exchange}

-- ---- uses

-- whether a home reads a name, as a search
pub homes_any : (homes : List Home) (name : ℕ) → list_any (λ (home : Home). reads_name home.value name) homes ≡ homes_use homes name
homes_any [] name = refl
homes_any (home ∷ homes) name = ap (λ (b : Bool). reads_name home.value name || b) (homes_any homes name)

-- what a leaf out uses
pub out_uses : (leaf : AutomatonLeaf) (region : ℕ) (homes : List Home) (name : ℕ) (found : Bool) → leaf ≡ Out region homes
    → found ≡ list_any (λ (home : Home). reads_name home.value name) homes → found ≡ leaf_uses leaf name
out_uses leaf region homes name found is any = any ∙ homes_any homes name ∙ ap (λ (l : AutomatonLeaf). leaf_uses l name) (sym is)

-- ---- one more at the end

-- whether a number is in a list with one number more
pub in_more : (x r : ℕ) (rs : List ℕ) → is_in x (rs ++ r ∷ []) ≡ (nat_eq x r || is_in x rs)
in_more x r [] = refl
in_more x r (s ∷ rs) = ap (λ (b : Bool). nat_eq x s || b) (in_more x r rs) ∙ or_exchange (nat_eq x s) (nat_eq x r) (is_in x rs)

-- what stands at a place of it
pub get_more : (xs : List ℕ) (r k x : ℕ) → slice_get (xs ++ r ∷ []) k ≡ Some x
    → ((k < length xs) × (slice_get xs k ≡ Some x)) ⊎ ((k ≡ length xs) × (x ≡ r))
get_more [] r zero x e = let same : r ≡ x = (cc) in inr (refl, sym same)
get_more [] r (suc k) x e = absurd (cc)
get_more (y ∷ xs) r zero x e = inl (omega arith, e)
get_more (y ∷ xs) r (suc k) x e = elim (get_more xs r k x e) [
  | inl h ↦ inl (omega (arith, h.0), h.1)
  | inr h ↦ inr (ap suc h.0, h.1)
]

-- its front
pub take_front : (xs : List ℕ) (r k : ℕ) → k ≤ length xs → take k (xs ++ r ∷ []) ≡ take k xs
take_front [] r zero h = refl
take_front [] r (suc k) h = absurd (omega arith)
take_front (y ∷ xs) r zero h = refl
take_front (y ∷ xs) r (suc k) h = ap (λ (ys : List ℕ). y ∷ ys) (take_front xs r k (omega arith))

pub take_whole : (xs : List ℕ) → take (length xs) xs ≡ xs
take_whole [] = refl
take_whole (x ∷ xs) = ap (λ (ys : List ℕ). x ∷ ys) (take_whole xs)

-- a number more from a list
in_suc : (xs : List ℕ) (i x : ℕ) → i < length xs → is_in x (take (suc i) xs) ≡ (nat_eq x (get_or xs i 0) || is_in x (take i xs))
in_suc [] i x h = absurd (omega arith)
in_suc (y ∷ xs) zero x h = refl
in_suc (y ∷ xs) (suc i) x h =
    ap (λ (b : Bool). nat_eq x y || b) (in_suc xs i x (omega arith)) ∙ or_exchange (nat_eq x y) (nat_eq x (get_or xs i 0)) (is_in x (take i xs))

pub in_taken : (xs : List ℕ) (i j x : ℕ) → i < length xs → j ≡ i + 1 → is_in x (take j xs) ≡ (nat_eq x (get_or xs i 0) || is_in x (take i xs))
in_taken xs i j x h is = let same : j ≡ suc i = omega (arith, is) in ap (λ (k : ℕ). is_in x (take k xs)) same ∙ in_suc xs i x h

-- a parameter more and its register
used_suc : (used : ℕ → Bool) (names held : List ℕ) (i x : ℕ) → i < length names → i < length held
    → used_holds used (take (suc i) names) (take (suc i) held) x
    ≡ ((used (get_or names i 0) && nat_eq x (get_or held i 0)) || used_holds used (take i names) (take i held) x)
used_suc used [] held i x h k = absurd (omega arith)
used_suc used (name ∷ names) [] i x h k = absurd (omega arith)
used_suc used (name ∷ names) (r ∷ held) zero x h k = refl
used_suc used (name ∷ names) (r ∷ held) (suc i) x h k =
    ap (λ (b : Bool). (used name && nat_eq x r) || b) (used_suc used names held i x (omega arith) (omega arith))
    ∙ or_exchange (used name && nat_eq x r) (used (get_or names i 0) && nat_eq x (get_or held i 0)) (used_holds used (take i names) (take i held) x)

pub used_taken : (used : ℕ → Bool) (names held : List ℕ) (i j x : ℕ) → i < length names → length held ≡ length names → j ≡ i + 1
    → used_holds used (take j names) (take j held) x
    ≡ ((used (get_or names i 0) && nat_eq x (get_or held i 0)) || used_holds used (take i names) (take i held) x)
used_taken used names held i j x h as_many is =
    let same : j ≡ suc i = omega (arith, is) in
    ap (λ (k : ℕ). used_holds used (take k names) (take k held) x) same ∙ used_suc used names held i x h (omega (arith, as_many))

-- ---- parameters

-- the parameters so far have registers
pub record SoFar (scratch : ℕ) (passed : List (Option ℕ)) (held : List ℕ) (taken : RegisterSet) (at : ℕ) : Type 0 where
  pub count : length held ≡ at
  pub most : AreMost scratch held
  pub chosen : AreParameters scratch passed held
  pub set : (register : ℕ) → member taken register ≡ is_in register held

pub length_more : (xs : List ℕ) (r : ℕ) → length (xs ++ r ∷ []) ≡ suc (length xs)
length_more [] r = refl
length_more (x ∷ xs) r = ap suc (length_more xs r)

-- none has, to begin with
pub none_so_far : (scratch : ℕ) (passed : List (Option ℕ)) (taken : RegisterSet) → ((register : ℕ) → member taken register ≡ false) → SoFar scratch passed [] taken 0
none_so_far scratch passed taken none = record { count = refl; most = λ at r e. absurd (cc); chosen = λ at r e. absurd (cc); set = none }

-- and one more
pub one_so_far : (scratch : ℕ) (passed : List (Option ℕ)) (held : List ℕ) (taken later : RegisterSet) (at next r : ℕ) → SoFar scratch passed held taken at → next ≡ at + 1
    → IsParameterTaken scratch (member taken) (passed_at (slice_get passed at)) r → r ≤ scratch
    → ((x : ℕ) → member later x ≡ (nat_eq x r || member taken x)) → SoFar scratch passed (held ++ r ∷ []) later next
one_so_far scratch passed held taken later at next r h is takes few set = record {
  count = length_more held r ∙ omega (arith, is, h.count);
  most = λ k x e. elim (get_more held r k x e) [
    | inl old ↦ h.most k x old.1
    | inr new ↦ subst (λ (y : ℕ). y ≤ scratch) (sym new.1) few
  ];
  chosen = λ k x e. elim (get_more held r k x e) [
    | inl old ↦
        subst (λ (front : List ℕ). IsParameterTaken scratch (λ other. is_in other front) (passed_at (slice_get passed k)) x)
        (sym (take_front held r k (omega (arith, old.0)))) (h.chosen k x old.1)
    | inr new ↦
        let here : k ≡ at = new.0 ∙ h.count in
        let front : take k (held ++ r ∷ []) ≡ held = take_front held r k (omega (arith, new.0)) ∙ ap (λ (n : ℕ). take n held) new.0
        ∙ take_whole held in
        let same : (λ (other : ℕ). is_in other (take k (held ++ r ∷ []))) ≡ member taken = λ i other.
        (ap (is_in other) front ∙ sym (h.set other)) i in
        subst (λ (these : ℕ → Bool). IsParameterTaken scratch these (passed_at (slice_get passed k)) x) (sym same)
        (subst (λ (n : ℕ). IsParameterTaken scratch (member taken) (passed_at (slice_get passed n)) x) (sym here)
        (subst (λ (y : ℕ). IsParameterTaken scratch (member taken) (passed_at (slice_get passed at)) y) (sym new.1) takes))
  ];
  set = λ x. set x ∙ ap (λ (b : Bool). nat_eq x r || b) (h.set x) ∙ sym (in_more x r held);
}

-- a parameter more is used, or is not
pub used_then : (used : ℕ → Bool) (names held : List ℕ) (i x : ℕ) (found : Bool) → i < length names → length held ≡ length names
    → used (get_or names i 0) ≡ true → found ≡ used_holds used (take i names) (take i held) x
    → (nat_eq x (get_or held i 0) || found) ≡ used_holds used (take (i + 1) names) (take (i + 1) held) x
used_then used names held i x found h as_many is so =
    ap (λ (b : Bool). nat_eq x (get_or held i 0) || b) so
    ∙ ap (λ (b : Bool). (b && nat_eq x (get_or held i 0)) || used_holds used (take i names) (take i held) x) (sym is)
    ∙ sym (used_taken used names held i (i + 1) x h as_many refl)

pub used_else : (used : ℕ → Bool) (names held : List ℕ) (i x : ℕ) (found : Bool) → i < length names → length held ≡ length names
    → used (get_or names i 0) ≡ false → found ≡ used_holds used (take i names) (take i held) x
    → found ≡ used_holds used (take (i + 1) names) (take (i + 1) held) x
used_else used names held i x found h as_many is so =
    so ∙ ap (λ (b : Bool). (b && nat_eq x (get_or held i 0)) || used_holds used (take i names) (take i held) x) (sym is)
    ∙ sym (used_taken used names held i (i + 1) x h as_many refl)
