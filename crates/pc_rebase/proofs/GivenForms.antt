-- New forms for some names, one after the other and at once.
use Rattle.std.proofs.Common.{◌≡◌, ℕ, ◌<◌, ◌≤◌, List, [], ◌∷◌, length, refl, sym, ◌∙◌, ap, arith}
use Rattle.std.specs.Prelude.{Bool, true, false, ◌||◌, if◌then◌else◌, nat_eq, nat_lt}
use Rattle.std.proofs.lemmas.Bool.Decides.{nat_tests}
use Rattle.pc_linear.specs.Form.{Form, most_terms}
use Rattle.pc_window.specs.Opening.{Supply}
use Rattle.pc_window.specs.Rebasing.{is_in, with_form, with_variable, rewritten, rewrite_all}
use Rattle.pc_rebase.specs.models.Finding.{all_written}
use Rattle.pc_rebase.specs.models.Standing.{written_by}
use Rattle.pc_window.proofs.Listed.{or_true, flipped}

-- names with new forms for some of them
module _ (form : ℕ → Form) where
  abbrev pub given_in : List ℕ → Supply → Supply
  given_in ns names = record {
    forms = λ n. if is_in n ns then form n else names.forms n;
    next = names.next;
    next_variable = names.next_variable;
  }

  one_given : (m : ℕ) (ns : List ℕ) (names : Supply) → given_in ns (with_form names m (form m)) ≡ given_in (m ∷ ns) names
  one_given m ns names = λ i. record { forms = λ n. by n (nat_eq m n) (is_in n ns) refl i; next = names.next; next_variable = names.next_variable }
    where
      by : (n : ℕ) (here there : Bool) → nat_eq m n ≡ here
          → (if there then form n else if here then form m else names.forms n) ≡ (if nat_eq n m || there then form n else names.forms n)
      by n here true e = sym (ap (λ (b : Bool). if b then form n else names.forms n) (or_true (nat_eq n m)))
      by n true false e =
          let same : m ≡ n = grind arith in
          ap form same ∙ sym (ap (λ (b : Bool). if b || false then form n else names.forms n) (flipped n m ∙ e))
      by n false false e = sym (ap (λ (b : Bool). if b || false then form n else names.forms n) (flipped n m ∙ e))

-- rewriting them, where none comes to have too many terms
pub rewritten_at_once : (x : ℕ) (d : Form) (old : ℕ → Form) (ns : List ℕ) (names : Supply) → ((n : ℕ) → is_in n ns ≡ true → length (rewritten x d (old n)).terms ≤ most_terms)
    → rewrite_all x d old ns names ≡ given_in (λ n. rewritten x d (old n)) ns names
rewritten_at_once x d old [] names few = refl
rewritten_at_once x d old (m ∷ ns) names few =
    ap (rewrite_all x d old ns) (fits (nat_lt most_terms (length (rewritten x d (old m)).terms)) refl)
    ∙ rewritten_at_once x d old ns (with_form names m (rewritten x d (old m))) (λ n there. few n (in_rest n there))
    ∙ one_given (λ n. rewritten x d (old n)) m ns names
  where
    itself : nat_eq m m ≡ true
    itself = grind arith

    fits : (b : Bool) → nat_lt most_terms (length (rewritten x d (old m)).terms) ≡ b
        → (if b then with_variable names m else with_form names m (rewritten x d (old m))) ≡ with_form names m (rewritten x d (old m))
    fits true e =
        let le = few m (ap (λ (b : Bool). b || is_in m ns) itself) in
        let lt : most_terms < length (rewritten x d (old m)).terms = grind (arith, nat_tests) in
        absurd (omega arith)
    fits false e = refl

    in_rest : (n : ℕ) → is_in n ns ≡ true → (nat_eq n m || is_in n ns) ≡ true
    in_rest n there = ap (λ (b : Bool). nat_eq n m || b) there ∙ or_true (nat_eq n m)

-- writing them with what variables stand for
pub written_at_once : (stands old : ℕ → Form) (ns : List ℕ) (names : Supply) → all_written stands old ns names ≡ given_in (λ n. written_by stands (old n)) ns names
written_at_once stands old [] names = refl
written_at_once stands old (m ∷ ns) names = written_at_once stands old ns (with_form names m (written_by stands (old m))) ∙ one_given (λ n. written_by stands (old n)) m ns names
