-- What variables stand for, as it lies in memory, and the sums that forms are written by.
use Rattle.std.proofs.Common.{◌≡◌, ℕ, suc, ◌+◌, ◌-◌, ◌<◌, ◌≤◌, List, [], ◌∷◌, ◌++◌, Some, None, length, drop, refl, sym, ◌∙◌, ap, arith}
use Rattle.std.specs.Prelude.{ℤ, pos, ◌*ℤ◌, Bool, true, false, ◌&&◌, nat_eq, Option, slice_get}
use Rattle.std.specs.Ordering.{int_eq}
use Rattle.std.proofs.lemmas.Bool.Decides.{Decides-int_eq}
use Rattle.std.specs.Int.{w32, int_wrap}
use Rattle.std.proofs.lemmas.Int.{int_wrap_fits}
use lib.IntN.{+ℤ_idl}
use Rattle.pc_word.specs.declared.item.OpCode.TheVariants.{Add, Mul}
use Rattle.pc_word.specs.Word.{IsWord}
use Rattle.pc_word.proofs.Places.{drop_at}
use Rattle.pc_linear.specs.declared.term.Term.{Term}
use Rattle.pc_linear.specs.Form.{Form, IsNormal, IsForm, factor_of}
use Rattle.pc_linear.specs.Combine.{plus, constant_form, variable_form, times_form, combine}
use Rattle.pc_linear.proofs.Words.{one_times}
use Rattle.pc_linear.proofs.Normal.{plus-normal, factor-word, plus-factor, same_form}
use Rattle.pc_rebase.specs.declared.standing.Standing.{Standing}
use Rattle.pc_rebase.specs.models.Standing.{shifted, standing_or, stands_in, is_same, is_itself, all_stay, and_terms, written_by, itself_from, each_itself}
use Rattle.pc_rebase.proofs.Replacing.{zero_normal, fitting_few, combine_add, times_few}
use Rattle.pc_rebase.proofs.Substituting.{and_times-length, written-itself}
use Rattle.pc_linear.proofs.FewPlaces.{few_places, fewer_places, none_from}

-- ---- one term more

pub part_made : (k : ℤ) (g : Form) → length g.terms ≤ 1 → combine Mul (constant_form k) g ≡ Some (times_form g k)
part_made k g one = times_few k g (omega arith)

pub sum_made : (sum : Form) (k : ℤ) (g : Form) → length sum.terms < 4 → length g.terms ≤ 1 → combine Add sum (times_form g k) ≡ Some (plus sum (pos 1) (times_form g k))
sum_made sum k g room one =
    combine_add sum (times_form g k) ∙ fitting_few (plus sum (pos 1) (times_form g k)) (let le = and_times-length sum k g in omega arith)

pub sum_longer : (sum : Form) (k : ℤ) (g : Form) → length g.terms ≤ 1 → length (plus sum (pos 1) (times_form g k)).terms ≤ length sum.terms + 1
sum_longer sum k g one = let le = and_times-length sum k g in omega arith

pub shifted_made : (v : ℕ) (c : ℤ) → IsWord c → combine Add (variable_form v) (constant_form c) ≡ Some (shifted v c)
shifted_made v c word =
    combine_add (variable_form v) (constant_form c) ∙ fitting_few (plus (variable_form v) (pos 1) (constant_form c)) (omega arith)
    ∙ ap (λ (z : ℤ). Some (shifted v z)) (ap (int_wrap w32) (+ℤ_idl (pos 1 *ℤ c) ∙ one_times c) ∙ int_wrap_fits w32 c word)

-- what is unwrapped of a product
pub part_unwrapped : (k : ℤ) (g number part : Form) → length g.terms ≤ 1 → number ≡ constant_form k → combine Mul number g ≡ Some part → part ≡ times_form g k
part_unwrapped k g number part one is made =
    let product : Some (times_form g k) ≡ Some part = sym (part_made k g one) ∙ ap (λ (f : Form). combine Mul f g) (sym is) ∙ made in
    (cc)

-- of a sum
pub sum_unwrapped : (sum : Form) (k : ℤ) (g part last : Form) → length sum.terms < 4 → length g.terms ≤ 1 → part ≡ times_form g k → combine Add sum part ≡ Some last
    → last ≡ plus sum (pos 1) (times_form g k)
sum_unwrapped sum k g part last room one is made =
    let more : Some (plus sum (pos 1) (times_form g k)) ≡ Some last = sym (sum_made sum k g room one) ∙ ap (combine Add sum) (sym is) ∙ made in
    (cc)

-- and of a variable with a constant
pub shifted_unwrapped : (v : ℕ) (c : ℤ) (variable number last : Form) → IsWord c → variable ≡ variable_form v → number ≡ constant_form c → combine Add variable number ≡ Some last
    → last ≡ shifted v c
shifted_unwrapped v c variable number last word one other made =
    let more : Some (shifted v c) ≡ Some last = sym (shifted_made v c word) ∙ (λ i. combine Add (sym one i) (sym other i)) ∙ made in
    (cc)

-- a form once
pub once : (g : Form) (k : ℤ) → IsForm g → k ≡ pos 1 → g ≡ times_form g k
once g k kept is = sym (ap (times_form g) is ∙ by kept.normal)
  where
    by : IsNormal g → times_form g (pos 1) ≡ g
    by h =
        same_form (times_form g (pos 1)) g (plus-normal (constant_form (pos 0)) (pos 1) g zero_normal) h
        (λ x.
        plus-factor (constant_form (pos 0)) (pos 1) g x zero_normal
        ∙ ap (int_wrap w32) (+ℤ_idl (pos 1 *ℤ factor_of g.terms x) ∙ one_times (factor_of g.terms x))
        ∙ int_wrap_fits w32 (factor_of g.terms x) (factor-word x 0 g.terms h.rising h.factors))
        (ap (int_wrap w32) (+ℤ_idl (pos 1 *ℤ g.constant) ∙ one_times g.constant) ∙ int_wrap_fits w32 g.constant h.constant)

pub ruleset parts = (once, part_made, sum_made, sum_longer, shifted_made)

-- ---- the terms from a place on

module _ (f : Form) (kept : IsForm f) (at : ℕ) (stands : ℕ → Form) where
  pub sum_ends : (sum : Form) → slice_get f.terms at ≡ None → sum ≡ and_terms stands (drop at f.terms) sum
  sum_ends sum none = ap (λ (ts : List Term). and_terms stands ts sum) (sym (none_from f.terms at none))

  pub sum_goes_on : (t : Term) (s : Form) (sum mid last : Form) → slice_get f.terms at ≡ Some t → s ≡ stands t.variable → mid ≡ plus sum (pos 1) (times_form s t.factor)
      → last ≡ and_terms stands (drop (at + 1) f.terms) mid → last ≡ and_terms stands (drop at f.terms) sum
  sum_goes_on t s sum mid last there stood more later =
      let next : at + 1 ≡ suc at = omega arith in
      later ∙ ap (λ (n : ℕ). and_terms stands (drop n f.terms) mid) next
      ∙ (λ i. and_terms stands (drop (suc at) f.terms) ((more ∙ ap (λ (g : Form). plus sum (pos 1) (times_form g t.factor)) stood) i))
      ∙ sym (ap (λ (ts : List Term). and_terms stands ts sum) (drop_at f.terms at t there))

pub ruleset sums = (sum_ends, sum_goes_on, few_places, fewer_places)

-- ---- forms that stay as they are

module _ (f : Form) (kept : IsForm f) (at : ℕ) (stands : List Standing) where
  pub all_stayed : slice_get f.terms at ≡ None → true ≡ all_stay stands (drop at f.terms)
  all_stayed none = ap (all_stay stands) (sym (none_from f.terms at none))

  pub one_stayed : (t : Term) (rest : Bool) → slice_get f.terms at ≡ Some t → is_itself stands t.variable ≡ true → rest ≡ all_stay stands (drop (at + 1) f.terms)
      → rest ≡ all_stay stands (drop at f.terms)
  one_stayed t rest there same later =
      let next : at + 1 ≡ suc at = omega arith in
      later ∙ ap (λ (n : ℕ). all_stay stands (drop n f.terms)) next
      ∙ sym (ap (all_stay stands) (drop_at f.terms at t there) ∙ ap (λ (b : Bool). b && all_stay stands (drop (suc at) f.terms)) same)

  pub one_changed : (t : Term) → slice_get f.terms at ≡ Some t → is_itself stands t.variable ≡ false → false ≡ all_stay stands (drop at f.terms)
  one_changed t there other = sym (ap (all_stay stands) (drop_at f.terms at t there) ∙ ap (λ (b : Bool). b && all_stay stands (drop (suc at) f.terms)) other)

pub ruleset stays = (all_stayed, one_stayed, one_changed, few_places, fewer_places)

itself_stands : (v : ℕ) (o : Option Standing) → is_same v o ≡ true → standing_or v o ≡ variable_form v
itself_stands v None same = refl
itself_stands v (Some s) same = by (nat_eq s.variable v) (int_eq s.offset (pos 0)) refl refl same
  where
    by : (one other : Bool) → nat_eq s.variable v ≡ one → int_eq s.offset (pos 0) ≡ other → (one && other) ≡ true → shifted s.variable s.offset ≡ variable_form v
    by true true e k h =
        let variable : s.variable ≡ v = grind arith in
        let offset = (Decides-int_eq s.offset (pos 0)).0 k in
        λ i. shifted (variable i) (offset i)
    by true false e k h = absurd (cc)
    by false other e k h = absurd (cc)

stay_terms : (stands : List Standing) (ts : List Term) (sum : Form) → all_stay stands ts ≡ true → and_terms (stands_in stands) ts sum ≡ and_terms variable_form ts sum
stay_terms stands [] sum h = refl
stay_terms stands (t ∷ ts) sum h = by (is_itself stands t.variable) refl h (λ rest s. stay_terms stands ts s rest)
  where
    by : (b : Bool) → is_itself stands t.variable ≡ b → (b && all_stay stands ts) ≡ true
        → (all_stay stands ts ≡ true → (s : Form) → and_terms (stands_in stands) ts s ≡ and_terms variable_form ts s)
        → and_terms (stands_in stands) (t ∷ ts) sum ≡ and_terms variable_form (t ∷ ts) sum
    by true e h later =
        ap (λ (f : Form). and_terms (stands_in stands) ts (plus sum (pos 1) (times_form f t.factor))) (itself_stands t.variable (slice_get stands t.variable) e)
        ∙ later h (plus sum (pos 1) (times_form (variable_form t.variable) t.factor))
    by false e h later = absurd (cc)

-- a form whose variables all stand for themselves
pub form_stays : (f : Form) (stands : List Standing) → IsForm f → all_stay stands (drop 0 f.terms) ≡ true → f ≡ written_by (stands_in stands) f
form_stays f stands kept same = sym (stay_terms stands f.terms (constant_form f.constant) same ∙ written-itself f kept.normal)

pub ruleset wholes = (form_stays)

-- ---- variables that stand for themselves

pub one_itself : (stands : List Standing) (v n : ℕ) → v < n
    → (stands ++ record { variable = v; offset = pos 0 } ∷ []) ++ itself_from (v + 1) (n - (v + 1)) ≡ stands ++ itself_from v (n - v)
one_itself stands v n lt = append stands ∙ ap (λ (list : List Standing). stands ++ list) (sym from)
  where
    append : (list : List Standing) → (list ++ record { variable = v; offset = pos 0 } ∷ []) ++ itself_from (v + 1) (n - (v + 1))
        ≡ list ++ record { variable = v; offset = pos 0 } ∷ itself_from (v + 1) (n - (v + 1))
    append [] = refl
    append (s ∷ list) = ap (λ (l : List Standing). s ∷ l) (append list)

    from : itself_from v (n - v) ≡ record { variable = v; offset = pos 0 } ∷ itself_from (v + 1) (n - (v + 1))
    from =
        let left : n - v ≡ suc (n - (v + 1)) = omega arith in
        let next : suc v ≡ v + 1 = omega arith in
        ap (itself_from v) left ∙ ap (λ (x : ℕ). record { variable = v; offset = pos 0 } ∷ itself_from x (n - (v + 1))) next

pub all_themselves : (stands : List Standing) (n : ℕ) → stands ++ itself_from n (n - n) ≡ each_itself n → stands ≡ each_itself n
all_themselves stands n is =
    let none : n - n ≡ 0 = omega arith in
    sym (ap (λ (m : ℕ). stands ++ itself_from n m) none ∙ nothing stands) ∙ is
  where
    nothing : (list : List Standing) → list ++ [] ≡ list
    nothing [] = refl
    nothing (s ∷ list) = ap (λ (l : List Standing). s ∷ l) (nothing list)

pub ruleset entries = (one_itself, all_themselves)
