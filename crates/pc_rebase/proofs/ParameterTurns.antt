-- The turns of parameters.
use Rattle.std.proofs.Common.{◌≡◌, ℕ, ◌+◌, ◌<◌, List, [], ◌∷◌, ◌++◌, Option, Some, None, length, drop, refl, sym, ◌∙◌, ap, subst}
use Rattle.std.specs.Prelude.{pos, Bool, true, false, not, ◌&&◌, ◌||◌, if◌then◌else◌, nat_eq, slice_index_or}
use Rattle.std.specs.List.{AllByRecursion}
use Rattle.std.specs.Ordering.{int_eq}
use Rattle.std.proofs.lemmas.List.{at_drop_more}
use Rattle.pc_word.proofs.Lists.{all_both}
use Rattle.pc_linear.specs.declared.term.Term.{Term}
use Rattle.pc_linear.specs.Form.{Form}
use Rattle.pc_window.specs.declared.names.NameTable.{NameTable}
use Rattle.pc_window.specs.Opening.{FormsBelow}
use Rattle.pc_window.specs.Rebasing.{is_in, with_variable, make_base, Turned, new_base, first_base, first_turn, first_turns, free_terms, second_choice, second_turn, second_turns, after_first}
use Rattle.pc_window.specs.StoredWindow.{forms_in, supply_in}
use Rattle.pc_rebase.specs.declared.terms.FewTerms.{FewTerms}
use Rattle.pc_rebase.specs.declared.terms.FewTerms.TheVariants.{Nothing, One, Several}
use Rattle.pc_rebase.specs.declared.turns.Turning.{Turning}
use Rattle.pc_rebase.specs.models.Turning.{few_of, reversed, turned, unturned, second_turned}
use Rattle.pc_window.proofs.Listed.{in_more}
use Rattle.pc_rebase.proofs.MadeBases.{make_base-below, make_base-next, with_variable-below}

-- ---- bases from the newest on

pub reversed-more : (xs : List ℕ) (y : ℕ) → reversed (xs ++ y ∷ []) ≡ y ∷ reversed xs
reversed-more [] y = refl
reversed-more (x ∷ xs) y = ap (λ (list : List ℕ). list ++ x ∷ []) (reversed-more xs y)

in_reversed : (x : ℕ) (xs : List ℕ) → is_in x (reversed xs) ≡ is_in x xs
in_reversed x [] = refl
in_reversed x (y ∷ xs) = in_more x y (reversed xs) ∙ ap (λ (b : Bool). b || nat_eq x y) (in_reversed x xs) ∙ flip (is_in x xs) (nat_eq x y)
  where
    flip : (a b : Bool) → (a || b) ≡ (b || a)
    flip true true = refl
    flip true false = refl
    flip false true = refl
    flip false false = refl

new_base-reversed : (bases : List ℕ) (t : Term) → new_base (reversed bases) t ≡ new_base bases t
new_base-reversed bases t = ap (λ (b : Bool). if int_eq t.factor (pos 1) && not b then Some t.variable else None) (in_reversed t.variable bases)

free_terms-reversed : (bases : List ℕ) (ts : List Term) → free_terms (reversed bases) ts ≡ free_terms bases ts
free_terms-reversed bases [] = refl
free_terms-reversed bases (t ∷ ts) =
    (λ i. if in_reversed t.variable bases i then free_terms-reversed bases ts i else t ∷ free_terms-reversed bases ts i)

-- ---- the second turn of a parameter

module _ (all : List ℕ) (p : ℕ) (old : Turning) (form : Form) (is : form ≡ forms_in old.names.forms p) where
  module _ (new : Turning) (x : ℕ) (names : supply_in new.names ≡ make_base all p x (supply_in old.names)) (bases : new.bases ≡ old.bases ++ old.names.next_variable ∷ []) where
    -- it becomes a base
    based : (left : List ℕ) → turned new left ≡ (record { names = make_base all p x (supply_in old.names); bases = old.names.next_variable ∷ reversed old.bases; left = left })
    based left = λ i. record { names = names i; bases = (ap reversed bases ∙ reversed-more old.bases old.names.next_variable) i; left = left }

  -- by few terms
  abbrev second_few : FewTerms → Turned → Turned
  second_few Nothing t = t
  second_few (One term) t = second_choice all p (new_base t.bases term) t
  second_few Several t = second_choice all p None t

  second_by_few : (ts : List Term) (t : Turned) → second_turn all p ts t ≡ second_few (few_of ts) t
  second_by_few [] t = refl
  second_by_few (u ∷ []) t = refl
  second_by_few (u ∷ v ∷ ts) t = refl

  second_is : (few : FewTerms) → few ≡ few_of (free_terms old.bases (drop 0 form.terms)) → (left : List ℕ) → second_turned all p (turned old left) ≡ second_few few (turned old left)
  second_is few made left =
      second_by_few (free_terms (reversed old.bases) (forms_in old.names.forms p).terms) (turned old left)
      ∙ ap (λ (ts : List Term). second_few (few_of ts) (turned old left))
      (free_terms-reversed old.bases (forms_in old.names.forms p).terms ∙ ap (λ (f : Form). free_terms old.bases f.terms) (sym is))
      ∙ ap (λ (few : FewTerms). second_few few (turned old left)) (sym made)

  pub second_nothing : Nothing ≡ few_of (free_terms old.bases (drop 0 form.terms)) → (left : List ℕ) → turned old left ≡ second_turned all p (turned old left)
  second_nothing made left = sym (second_is Nothing made left)

  module _ (new : Turning) where
    module _ (names : supply_in new.names ≡ with_variable (supply_in old.names) p) (bases : new.bases ≡ old.bases) where
      given : (left : List ℕ) → turned new left ≡ second_choice all p None (turned old left)
      given left = λ i. record { names = names i; bases = reversed (bases i); left = left }

      pub second_several : Several ≡ few_of (free_terms old.bases (drop 0 form.terms)) → (left : List ℕ) → turned new left ≡ second_turned all p (turned old left)
      second_several made left = given left ∙ sym (second_is Several made left)

      pub second_given : (term : Term) → One term ≡ few_of (free_terms old.bases (drop 0 form.terms)) → None ≡ new_base old.bases term → (left : List ℕ)
          → turned new left ≡ second_turned all p (turned old left)
      second_given term made none left =
          given left
          ∙ sym (second_is (One term) made left
          ∙ ap (λ (found : Option ℕ). second_choice all p found (turned old left)) (new_base-reversed old.bases term ∙ sym none))

    pub second_based : (x : ℕ) (term : Term) → supply_in new.names ≡ make_base all p x (supply_in old.names) → new.bases ≡ old.bases ++ old.names.next_variable ∷ []
        → One term ≡ few_of (free_terms old.bases (drop 0 form.terms)) → Some x ≡ new_base old.bases term → (left : List ℕ)
        → turned new left ≡ second_turned all p (turned old left)
    second_based x term names bases made some left =
        based new x names bases left
        ∙ sym (second_is (One term) made left
        ∙ ap (λ (found : Option ℕ). second_choice all p found (turned old left)) (new_base-reversed old.bases term ∙ sym some))

pub ruleset second = (second_nothing, second_several, second_given, second_based)

-- ---- what is kept

module _ (all : List ℕ) (p : ℕ) where
  pub first_below : (found : Option ℕ) (t : Turned) → FormsBelow t.names → FormsBelow (first_turn all p found t).names
  first_below None t b = b
  first_below (Some x) t b = make_base-below all p x t.names b

  first_next : (found : Option ℕ) (t : Turned) → (first_turn all p found t).names.next ≡ t.names.next
  first_next None t = refl
  first_next (Some x) t = make_base-next all p x t.names

  choice_below : (found : Option ℕ) (t : Turned) → FormsBelow t.names → FormsBelow (second_choice all p found t).names
  choice_below None t b = with_variable-below t.names p b
  choice_below (Some x) t b = make_base-below all p x t.names b

  choice_next : (found : Option ℕ) (t : Turned) → (second_choice all p found t).names.next ≡ t.names.next
  choice_next None t = refl
  choice_next (Some x) t = make_base-next all p x t.names

  second_below : (ts : List Term) (t : Turned) → FormsBelow t.names → FormsBelow (second_turn all p ts t).names
  second_below [] t b = b
  second_below (u ∷ ts) t b = choice_below (first_base t.bases (u ∷ ts)) t b

  second_next : (ts : List Term) (t : Turned) → (second_turn all p ts t).names.next ≡ t.names.next
  second_next [] t = refl
  second_next (u ∷ ts) t = choice_next (first_base t.bases (u ∷ ts)) t

-- what a loop over parameters keeps: there are as many names, and no form has a variable that is new
pub record Keeps (n : ℕ) (turning : Turning) : Type 0 where
  pub as_many : length turning.names.forms ≡ n
  pub below : FormsBelow (supply_in turning.names)

keeps_by : (n : ℕ) (new : Turning) (left : List ℕ) (t : Turned) → turned new left ≡ t → t.names.next ≡ n → FormsBelow t.names → Keeps n new
keeps_by n new left t is many below = record {
  as_many = ap (λ (s : Turned). s.names.next) is ∙ many;
  below = subst (λ (s : Turned). FormsBelow s.names) (sym is) below;
}

module _ (n : ℕ) (all : List ℕ) (p : ℕ) (old new : Turning) (keeps : Keeps n old) where
  pub second_keeps : ((left : List ℕ) → turned new left ≡ second_turned all p (turned old left)) → Keeps n new
  second_keeps is =
      let ts = free_terms (reversed old.bases) (forms_in old.names.forms p).terms in
      keeps_by n new [] (second_turned all p (turned old [])) (is []) (second_next all p ts (turned old []) ∙ keeps.as_many) (second_below all p ts (turned old []) keeps.below)

-- ---- one parameter after another

module _ (all ps : List ℕ) (at : ℕ) (there : at < length ps) where
  pub second_turns-more : (whole s t : Turned) → whole ≡ second_turns all (drop at ps) s → t ≡ second_turned all (slice_index_or ps at 0) s
      → whole ≡ second_turns all (drop (at + 1) ps) t
  second_turns-more whole s t so_far made = so_far ∙ at_drop_more (λ (list : List ℕ). second_turns all list s) ps at 0 there ∙ ap (second_turns all (drop (at + 1) ps)) (sym made)

pub still_all : (n : ℕ) (turning : Turning) (xs : List ℕ) → Keeps n turning → AllByRecursion (λ (x : ℕ). x < n) xs → AllByRecursion (λ (x : ℕ). x < length turning.names.forms) xs
still_all n turning xs keeps h = subst (λ (m : ℕ). AllByRecursion (λ (x : ℕ). x < m) xs) (sym keeps.as_many) h

pub still_one : (n : ℕ) (turning : Turning) (x : ℕ) → Keeps n turning → x < n → x < length turning.names.forms
still_one n turning x keeps h = subst (λ (m : ℕ). x < m) (sym keeps.as_many) h

-- ---- all turns

first_turns-left : (n : ℕ) (all ps : List ℕ) (t : Turned) → AllByRecursion (λ (x : ℕ). x < n) ps → AllByRecursion (λ (x : ℕ). x < n) t.left
    → AllByRecursion (λ (x : ℕ). x < n) (first_turns all ps t).left
first_turns-left n all [] t below h = h
first_turns-left n all (p ∷ ps) t below h =
    let found = first_base t.bases (t.names.forms p).terms in
    first_turns-left n all ps (first_turn all p found t) below.1 (by found)
  where
    by : (found : Option ℕ) → AllByRecursion (λ (x : ℕ). x < n) (first_turn all p found t).left
    by None = all_both (λ (x : ℕ). x < n) t.left (p ∷ []) h (below.0, tt)
    by (Some x) = h

first_turns-below : (all ps : List ℕ) (t : Turned) → FormsBelow t.names → FormsBelow (first_turns all ps t).names
first_turns-below all [] t b = b
first_turns-below all (p ∷ ps) t b =
    let found = first_base t.bases (t.names.forms p).terms in
    first_turns-below all ps (first_turn all p found t) (first_below all p found t b)

first_turns-next : (all ps : List ℕ) (t : Turned) → (first_turns all ps t).names.next ≡ t.names.next
first_turns-next all [] t = refl
first_turns-next all (p ∷ ps) t =
    let found = first_base t.bases (t.names.forms p).terms in
    first_turns-next all ps (first_turn all p found t) ∙ first_next all p found t

module _ (all ps left : List ℕ) (names : NameTable) (turning : Turning) (is : turned turning left ≡ first_turns all ps (unturned (supply_in names))) where
  many : length turning.names.forms ≡ length names.forms
  many = ap (λ (t : Turned). t.names.next) is ∙ first_turns-next all ps (unturned (supply_in names))

  pub later_all : AllByRecursion (λ (x : ℕ). x < length names.forms) all → AllByRecursion (λ (x : ℕ). x < length turning.names.forms) all
  later_all h = subst (λ (m : ℕ). AllByRecursion (λ (x : ℕ). x < m) all) (sym many) h

  pub later_left : AllByRecursion (λ (x : ℕ). x < length names.forms) ps → AllByRecursion (λ (x : ℕ). x < length turning.names.forms) left
  later_left h =
      subst (λ (m : ℕ). AllByRecursion (λ (x : ℕ). x < m) left) (sym many)
      (subst (λ (t : Turned). AllByRecursion (λ (x : ℕ). x < length names.forms) t.left) (sym is) (first_turns-left (length names.forms) all ps (unturned (supply_in names)) h tt))

  pub later_below : FormsBelow (supply_in names) → FormsBelow (supply_in turning.names)
  later_below b = subst (λ (t : Turned). FormsBelow t.names) (sym is) (first_turns-below all ps (unturned (supply_in names)) b)

  pub all_turned : (last : Turning) → ((l : List ℕ) → turned last l ≡ second_turns all left (turned turning l))
      → supply_in last.names ≡ after_first all (first_turns all ps (unturned (supply_in names)))
  all_turned last second = ap (λ (t : Turned). t.names) (second left) ∙ ap (λ (t : Turned). (second_turns all t.left t).names) is

pub ruleset turns = (later_all, later_left, later_below, all_turned)
