-- First turns whose bases are all found before any form is written anew come to what they come to one after the other.
use Rattle.std.proofs.Common.{◌≡◌, ◌≢◌, ◌⊎◌, inl, inr, ℕ, zero, suc, ◌+◌, ◌<◌, ◌≤◌, List, [], ◌∷◌, Option, Some, None, length, refl, sym, ◌∙◌, ap, subst, arith}
use Rattle.std.specs.Prelude.{ℤ, pos, negsuc, Bool, true, false, not, ◌||◌, ◌&&◌, if◌then◌else◌, nat_eq, nat_lt, slice_get}
use Rattle.std.specs.List.{AllByRecursion}
use Rattle.std.specs.Ordering.{int_eq}
use Rattle.std.proofs.lemmas.Bool.Decides.{eqb_tells, nat_tests, Decides-int_eq}
use Rattle.pc_word.specs.Word.{word_sub}
use Rattle.pc_word.proofs.Lists.{set_length}
use Rattle.pc_linear.specs.declared.term.Term.{Term}
use Rattle.pc_linear.specs.Form.{Form, most_terms, IsForm, factor_of}
use Rattle.pc_linear.specs.Combine.{plus, variable_form}
use Rattle.pc_window.specs.declared.names.NameTable.{NameTable}
use Rattle.pc_window.specs.Opening.{Supply, TermsBelow, FormBelow, FormsBelow}
use Rattle.pc_window.specs.Rebasing.{is_in, rewritten, rewrite_all, one_variable_more, make_base, Turned, first_base, first_turn, first_turns}
use Rattle.pc_window.specs.StoredWindow.{forms_in, supply_in}
use Rattle.pc_rebase.specs.declared.finding.Found.{Found}
use Rattle.pc_rebase.specs.declared.standing.Standing.{Standing}
use Rattle.pc_rebase.specs.models.Finding.{old_variable, nothing_found, base_found, found_by, found_all, all_written, shown}
use Rattle.pc_rebase.specs.models.Standing.{shifted, standing_or, stands_in, written_by, itself_from, each_itself}
use Rattle.pc_rebase.specs.models.Turning.{reversed, turned, unturned}
use Rattle.pc_window.proofs.Listed.{or_false}
use Rattle.pc_rebase.proofs.ParameterTurns.{reversed-more, first_below}
use Rattle.pc_rebase.proofs.Substituting.{rewritten-same, form_rewritten, written-few, written-without, written-itself}
use Rattle.pc_rebase.proofs.Entries.{factor_own, less-word, taken_out, StandsForBase, Stands, stands-normal, stands-one, stands-without, base-without, set_stands, set_stands-other}
use Rattle.pc_rebase.proofs.GivenForms.{given_in, rewritten_at_once, written_at_once}

-- ---- one parameter's turn

-- what holds after some first turns: what each old variable stands for, that bases are the variables that are not old, and that no form has a variable that is new
pub record IsFound (all : List ℕ) (old : Supply) (found : Found) : Type 0 where
  many : length found.stands ≡ old.next_variable
  later : old.next_variable ≤ found.next_variable
  stands : (v : ℕ) → Stands old.next_variable v (stands_in found.stands v)
  before : (x : ℕ) → x < old.next_variable → is_in x (reversed found.bases) ≡ false
  based : (x : ℕ) → old.next_variable ≤ x → x < found.next_variable → is_in x (reversed found.bases) ≡ true
  below : FormsBelow (shown all old found).names

-- the form of a parameter, which is a variable with a constant
record IsAlone (first x : ℕ) (f : Form) : Type 0 where
  is : f ≡ shifted x f.constant
  old : x < first

alone : (first x : ℕ) (f : Form) → old_variable first f.terms ≡ Some x → IsAlone first x f
alone first x f made = by f.terms f.constant made
  where
    by_tests : (t : Term) (c : ℤ) (one less : Bool) → int_eq t.factor (pos 1) ≡ one → nat_lt t.variable first ≡ less
        → (if one && less then Some t.variable else None) ≡ Some x → IsAlone first x (record { terms = t ∷ []; constant = c })
    by_tests t c true true e l s =
        let factor : t.factor ≡ pos 1 = (Decides-int_eq t.factor (pos 1)).0 e in
        let same : t.variable ≡ x = (cc) in
        let lt : t.variable < first = grind (arith, nat_tests) in
        record {
          is = λ i. record { terms = record { variable = same i; factor = factor i } ∷ []; constant = c };
          old = omega arith;
        }
    by_tests t c true false e l s = absurd (cc)
    by_tests t c false less e l s = absurd (cc)

    by : (ts : List Term) (c : ℤ) → old_variable first ts ≡ Some x → IsAlone first x (record { terms = ts; constant = c })
    by [] c s = absurd (cc)
    by (t ∷ []) c s = by_tests t c (int_eq t.factor (pos 1)) (nat_lt t.variable first) refl refl s
    by (t ∷ u ∷ ts) c s = absurd (cc)

module _ (all : List ℕ) (old : Supply) (kept : (n : ℕ) → is_in n all ≡ true → IsForm (old.forms n)) (found : Found) (so_far : IsFound all old found) where
  abbrev now : ℕ → Form
  now n = written_by (stands_in found.stands) (old.forms n)

  shown_form : (n : ℕ) → is_in n all ≡ true → (shown all old found).names.forms n ≡ now n
  shown_form n there = ap (λ (b : Bool). if b then now n else old.forms n) there

  -- a variable that there is is no base exactly where it was there before
  no_base : (x : ℕ) → x < found.next_variable → not (is_in x (reversed found.bases)) ≡ nat_lt x (length found.stands)
  no_base x there = by (nat_lt x (length found.stands)) refl
    where
      by : (b : Bool) → nat_lt x (length found.stands) ≡ b → not (is_in x (reversed found.bases)) ≡ b
      by true e = let many = so_far.many in let lt : x < length found.stands = grind (arith, nat_tests) in ap not (so_far.before x (omega arith))
      by false e = let many = so_far.many in let le : length found.stands ≤ x = grind (arith, nat_tests) in ap not (so_far.based x (omega arith) there)

  choice : (p : ℕ) → is_in p all ≡ true → first_base (reversed found.bases) ((shown all old found).names.forms p).terms ≡ old_variable (length found.stands) (now p).terms
  choice p there =
      ap (λ (f : Form). first_base (reversed found.bases) f.terms) (shown_form p there)
      ∙ by (now p).terms (subst (λ (f : Form). FormBelow found.next_variable f) (shown_form p there) (so_far.below.form p))
    where
      by : (ts : List Term) → TermsBelow found.next_variable ts → first_base (reversed found.bases) ts ≡ old_variable (length found.stands) ts
      by [] b = refl
      by (t ∷ []) b = ap (λ (free : Bool). if int_eq t.factor (pos 1) && free then Some t.variable else None) (no_base t.variable b.0)
      by (t ∷ u ∷ ts) b = refl

  module _ (p x : ℕ) (among : is_in p all ≡ true) (made : old_variable (length found.stands) (now p).terms ≡ Some x) where
    abbrev constant : ℤ
    constant = (now p).constant

    abbrev next : Found
    next = base_found x constant found

    abbrev entry : Standing
    entry = record { variable = found.next_variable; offset = word_sub (pos 0) constant }

    its : IsAlone (length found.stands) x (now p)
    its = alone (length found.stands) x (now p) made

    abbrev taken : Form
    taken = plus (variable_form found.next_variable) (negsuc 0) (shifted x constant)

    was_old : x < old.next_variable
    was_old = let lt = its.old in let many = so_far.many in omega arith

    new_apart : x ≢ found.next_variable
    new_apart e = let lt = was_old in let le = so_far.later in omega (arith, e)

    -- the variable stands for itself so far, or it would have no factor in the form
    stood : stands_in found.stands x ≡ variable_form x
    stood = by (so_far.stands x)
      where
        none : StandsForBase old.next_variable (stands_in found.stands x) → (v : ℕ) → factor_of (stands_in found.stands v).terms x ≡ pos 0
        none other v = by_same (eqb_tells x v)
          where
            by_same : ((nat_eq x v ≡ true) × (x ≡ v)) ⊎ ((nat_eq x v ≡ false) × (x ≢ v)) → factor_of (stands_in found.stands v).terms x ≡ pos 0
            by_same (inl same) = subst (λ (u : ℕ). factor_of (stands_in found.stands u).terms x ≡ pos 0) same.1 (base-without old.next_variable x (stands_in found.stands x) was_old other)
            by_same (inr apart) = stands-without old.next_variable v x (stands_in found.stands v) was_old apart.1 (so_far.stands v)

        by : Stands old.next_variable x (stands_in found.stands x) → stands_in found.stands x ≡ variable_form x
        by (inl itself) = itself
        by (inr other) =
            let k = kept p among in
            let no_factor : factor_of (now p).terms x ≡ pos 0 = written-without (stands_in found.stands) x (none other) (old.forms p) k.normal in
            let factor : factor_of (now p).terms x ≡ pos 1 = ap (λ (f : Form). factor_of f.terms x) its.is ∙ factor_own x constant x refl in
            let clash : pos 0 ≡ pos 1 = sym no_factor ∙ factor in
            absurd (cc)

    -- each variable stands for what it stood for, with the variable taken out
    stands_rewritten : (v : ℕ) → rewritten x taken (stands_in found.stands v) ≡ stands_in next.stands v
    stands_rewritten v = by (eqb_tells v x)
      where
        by : ((nat_eq v x ≡ true) × (v ≡ x)) ⊎ ((nat_eq v x ≡ false) × (v ≢ x)) → rewritten x taken (stands_in found.stands v) ≡ stands_in next.stands v
        by (inl same) =
            subst (λ (u : ℕ). rewritten x taken (stands_in found.stands u) ≡ stands_in next.stands u) (sym same.1)
            (ap (rewritten x taken) stood ∙ taken_out x found.next_variable constant new_apart ∙ sym (set_stands found.stands x entry its.old))
        by (inr apart) =
            rewritten-same x taken (stands_in found.stands v)
            (stands-without old.next_variable v x (stands_in found.stands v) was_old (λ e. apart.1 (sym e)) (so_far.stands v))
            ∙ sym (set_stands-other found.stands x v entry apart.1)

    stands_later : (v : ℕ) → Stands old.next_variable v (stands_in next.stands v)
    stands_later v = by (eqb_tells v x)
      where
        by : ((nat_eq v x ≡ true) × (v ≡ x)) ⊎ ((nat_eq v x ≡ false) × (v ≢ x)) → Stands old.next_variable v (stands_in next.stands v)
        by (inl same) =
            subst (λ (u : ℕ). Stands old.next_variable u (stands_in next.stands u)) (sym same.1)
            (inr (record { base = found.next_variable; constant = word_sub (pos 0) constant; is = set_stands found.stands x entry its.old; word = less-word constant; later = so_far.later }))
        by (inr apart) = subst (λ (f : Form). Stands old.next_variable v f) (sym (set_stands-other found.stands x v entry apart.1)) (so_far.stands v)

    form_next : (n : ℕ) → is_in n all ≡ true → rewritten x taken (now n) ≡ written_by (stands_in next.stands) (old.forms n)
    form_next n there =
        let k = kept n there in
        form_rewritten x taken (stands_in found.stands) (λ v. stands-normal old.next_variable v (stands_in found.stands v) (so_far.stands v)) (old.forms n) k.normal
        ∙ ap (λ (σ : ℕ → Form). written_by σ (old.forms n)) (λ i v. stands_rewritten v i)

    few_next : (n : ℕ) → is_in n all ≡ true → length (rewritten x taken (now n)).terms ≤ most_terms
    few_next n there =
        let k = kept n there in
        let few = k.few in
        let le = written-few (stands_in next.stands) (λ v. stands-one old.next_variable v (stands_in next.stands v) (stands_later v)) (old.forms n) in
        subst (λ (f : Form). length f.terms ≤ most_terms) (sym (form_next n there)) (omega arith)

    -- all forms rewritten by one base more
    names_next : make_base all p x (shown all old found).names ≡ (shown all old next).names
    names_next =
        ap (λ (f : Form). rewrite_all x (plus (variable_form found.next_variable) (negsuc 0) f) (shown all old found).names.forms all (one_variable_more (shown all old found).names))
        (shown_form p among ∙ its.is)
        ∙ rewritten_at_once x taken (shown all old found).names.forms all (one_variable_more (shown all old found).names)
        (λ n there. subst (λ (f : Form). length (rewritten x taken f).terms ≤ most_terms) (sym (shown_form n there)) (few_next n there))
        ∙ (λ i. record { forms = λ n. by n (is_in n all) refl i; next = old.next; next_variable = suc found.next_variable })
      where
        by : (n : ℕ) (b : Bool) → is_in n all ≡ b → (if b then rewritten x taken (if b then now n else old.forms n) else (if b then now n else old.forms n))
            ≡ (if b then written_by (stands_in next.stands) (old.forms n) else old.forms n)
        by n true there = form_next n there
        by n false there = refl

    turn_based : shown all old next ≡ first_turn all p (Some x) (shown all old found)
    turn_based = λ i. record { names = sym names_next i; bases = reversed-more found.bases found.next_variable i; left = found.left }

    found_next : IsFound all old next
    found_next = record {
      many = set_length found.stands x entry ∙ so_far.many;
      later = let le = so_far.later in omega arith;
      stands = stands_later;
      before = λ y lt. in_next y ∙ ap (λ (b : Bool). nat_eq y found.next_variable || b) (so_far.before y lt) ∙ or_false (nat_eq y found.next_variable) ∙ smaller y lt;
      based = λ y le lt. in_next y ∙ by y le lt (nat_eq y found.next_variable) refl;
      below = subst (λ (t : Turned). FormsBelow t.names) (sym turn_based) (first_below all p (Some x) (shown all old found) so_far.below);
    }
      where
        in_next : (y : ℕ) → is_in y (reversed next.bases) ≡ (nat_eq y found.next_variable || is_in y (reversed found.bases))
        in_next y = ap (is_in y) (reversed-more found.bases found.next_variable)

        smaller : (y : ℕ) → y < old.next_variable → nat_eq y found.next_variable ≡ false
        smaller y lt = let le = so_far.later in let less : y < found.next_variable = omega arith in grind arith

        by : (y : ℕ) → old.next_variable ≤ y → y < suc found.next_variable → (b : Bool) → nat_eq y found.next_variable ≡ b → (b || is_in y (reversed found.bases)) ≡ true
        by y le lt true e = refl
        by y le lt false e = so_far.based y le (smaller_yet e)
          where
            smaller_yet : nat_eq y found.next_variable ≡ false → y < found.next_variable
            smaller_yet e = grind arith

  -- a parameter that is left
  module _ (p : ℕ) where
    abbrev with_left : Found
    with_left = found_by p (now p) None found

    found_left : IsFound all old with_left
    found_left = record { many = so_far.many; later = so_far.later; stands = so_far.stands; before = so_far.before; based = so_far.based; below = so_far.below }

-- ---- all of them

module _ (all : List ℕ) (old : Supply) (kept : (n : ℕ) → is_in n all ≡ true → IsForm (old.forms n)) where
  turns_found : (ps : List ℕ) (found : Found) → IsFound all old found → AllByRecursion (λ p. is_in p all ≡ true) ps
      → shown all old (found_all old.forms ps found) ≡ first_turns all ps (shown all old found)
  turns_found [] found so_far among = refl
  turns_found (p ∷ ps) found so_far among =
      by (λ next so_later. turns_found ps next so_later among.1) (old_variable (length found.stands) form.terms) refl
      ∙ ap (λ (o : Option ℕ). first_turns all ps (first_turn all p o (shown all old found))) (sym (choice all old kept found so_far p among.0))
    where
      form : Form
      form = written_by (stands_in found.stands) (old.forms p)

      by : ((next : Found) → IsFound all old next → shown all old (found_all old.forms ps next) ≡ first_turns all ps (shown all old next)) → (o : Option ℕ)
          → old_variable (length found.stands) form.terms ≡ o
          → shown all old (found_all old.forms ps (found_by p form o found)) ≡ first_turns all ps (first_turn all p o (shown all old found))
      by rest None e = rest (found_by p form None found) (found_left all old kept found so_far p)
      by rest (Some x) e =
          rest (base_found x form.constant found) (found_next all old kept found so_far p x among.0 e)
          ∙ ap (first_turns all ps) (turn_based all old kept found so_far p x among.0 e)

  itself : (k n v w : ℕ) → w ≡ k + v → standing_or w (slice_get (itself_from k n) v) ≡ variable_form w
  itself k zero v w is = refl
  itself k (suc n) zero w is = let same : k ≡ w = omega arith in ap (λ (u : ℕ). variable_form u) same
  itself k (suc n) (suc v) w is = itself (suc k) n v w (omega arith)

  each_stands : (n v : ℕ) → stands_in (each_itself n) v ≡ variable_form v
  each_stands n v = itself 0 n v v (omega arith)

  as_many_themselves : (k n : ℕ) → length (itself_from k n) ≡ n
  as_many_themselves k zero = refl
  as_many_themselves k (suc n) = ap suc (as_many_themselves (suc k) n)

  -- before the first turn
  abbrev nothing : Found
  nothing = nothing_found old.next_variable

  nothing_shown : shown all old nothing ≡ unturned old
  nothing_shown = λ i. record { names = record { forms = λ n. form n (is_in n all) refl i; next = old.next; next_variable = old.next_variable }; bases = []; left = [] }
    where
      form : (n : ℕ) (b : Bool) → is_in n all ≡ b → (if b then written_by (stands_in nothing.stands) (old.forms n) else old.forms n) ≡ old.forms n
      form n true there =
          let k = kept n there in
          ap (λ (σ : ℕ → Form). written_by σ (old.forms n)) (λ i v. each_stands old.next_variable v i) ∙ written-itself (old.forms n) k.normal
      form n false there = refl

  nothing_yet : FormsBelow old → IsFound all old nothing
  nothing_yet below = record {
    many = as_many_themselves 0 old.next_variable;
    later = omega arith;
    stands = λ v. inl (each_stands old.next_variable v);
    before = λ x lt. refl;
    based = λ x le lt. absurd (omega arith);
    below = subst (λ (t : Turned). FormsBelow t.names) (sym nothing_shown) below;
  }

  -- first turns come to what was found
  pub all_found : (ps : List ℕ) → FormsBelow old → AllByRecursion (λ p. is_in p all ≡ true) ps → shown all old (found_all old.forms ps nothing) ≡ first_turns all ps (unturned old)
  all_found ps below among = turns_found ps nothing (nothing_yet below) among ∙ ap (first_turns all ps) nothing_shown

-- ---- in memory

-- what holds of all names holds of each
of_each : (P : ℕ → Type 0) (names : List ℕ) → AllByRecursion P names → (n : ℕ) → is_in n names ≡ true → P n
of_each P [] h n there = absurd (cc)
of_each P (m ∷ names) h n there = by (of_each P names h.1 n) (nat_eq n m) refl
  where
    by : (is_in n names ≡ true → P n) → (b : Bool) → nat_eq n m ≡ b → P n
    by later true e = let same : m ≡ n = grind (arith, nat_tests) in subst P same h.0
    by later false e = later (sym (ap (λ (b : Bool). b || is_in n names) e) ∙ there)

module _ (all ps : List ℕ) (names later : NameTable) (found : Found) (old : List Form) where
  pub names_turned : AllByRecursion (λ (name : ℕ). IsForm (forms_in old name)) all → old ≡ names.forms → FormsBelow (supply_in names) → AllByRecursion (λ p. is_in p all ≡ true) ps
      → found ≡ found_all (forms_in names.forms) ps (nothing_found names.next_variable)
      → supply_in later ≡ all_written (stands_in found.stands) (forms_in names.forms) all (supply_in names)
      → turned (record { names = record { forms = later.forms; next_variable = found.next_variable }; bases = found.bases }) found.left ≡ first_turns all ps (unturned (supply_in names))
  names_turned read same below among is written =
      let kept : AllByRecursion (λ (name : ℕ). IsForm (forms_in names.forms name)) all =
      subst (λ (forms : List Form). AllByRecursion (λ (name : ℕ). IsForm (forms_in forms name)) all) same read in
      let once : supply_in later ≡ given_in (λ n. written_by (stands_in found.stands) (forms_in names.forms n)) all (supply_in names) =
      written ∙ written_at_once (stands_in found.stands) (forms_in names.forms) all (supply_in names) in
      (λ i. record { names = record { forms = (once i).forms; next = (once i).next; next_variable = found.next_variable }; bases = reversed found.bases; left = found.left })
      ∙ ap (shown all (supply_in names)) is
      ∙ all_found all (supply_in names) (of_each (λ (name : ℕ). IsForm (forms_in names.forms name)) all kept) ps below among
