-- Whether the parameters of the first state are variables.
use Rattle.std.proofs.Common.{◌≡◌, ◌↔◌, ℕ, ◌<◌, Bool, true, List, [], ◌∷◌, Some, refl, sym, ◌∙◌, subst, arith}
use Rattle.std.specs.Prelude.{nat_lt, slice_get}
use Rattle.std.specs.List.{AllByRecursion, list_all}
use Rattle.std.proofs.lemmas.Bool.Decides.{nat_tests}
use Rattle.pc_word.proofs.Truth.{and_true, and_made, less_of}
use Rattle.pc_automaton.specs.declared.automaton.AutomatonState.{AutomatonState as StoredState}
use Rattle.pc_automaton.specs.Automaton.{AutomatonState, state_in, states_in}
use Rattle.pc_assign.specs.Assigned.{BeginsWithVariables}
use Rattle.pc_assign.proofs.AllGiven.{stored_at}

all_true : (names : List ℕ) → list_all (λ name. nat_lt name 96) names ≡ true → AllByRecursion (λ name. name < 96) names
all_true [] h = tt
all_true (x ∷ names) h = let parts = and_true (nat_lt x 96) (list_all (λ name. nat_lt name 96) names) h in
    (less_of x 96 parts.0, all_true names parts.1)

of_less : (a b : ℕ) → a < b → nat_lt a b ≡ true
of_less a b h = grind (arith, nat_tests)

all_made : (names : List ℕ) → AllByRecursion (λ name. name < 96) names → list_all (λ name. nat_lt name 96) names ≡ true
all_made [] h = refl
all_made (x ∷ names) h = and_made (nat_lt x 96) (list_all (λ name. nat_lt name 96) names) (of_less x 96 h.0) (all_made names h.1)

pub begins : (states : List StoredState) (first : StoredState) (names : List ℕ) (found : Bool) → slice_get states 0 ≡ Some first
    → names ≡ first.parameters
    → found ≡ list_all (λ name. nat_lt name 96) names → (found ≡ true) ↔ BeginsWithVariables (states_in states)
begins states first names found here same is = (
  (λ h. record {
    below = λ state there.
        let both : Some (state_in first) ≡ Some state = sym (stored_at states 0 first here) ∙ there in
        let alike : state_in first ≡ state = (cc) in
        subst (λ (s : AutomatonState). AllByRecursion (λ name. name < 96) s.parameters) alike
        (subst (λ (xs : List ℕ). AllByRecursion (λ name. name < 96) xs) same (all_true names (sym is ∙ h)));
  }),
  (λ h. is ∙ all_made names (subst (λ (xs : List ℕ). AllByRecursion (λ name. name < 96) xs) (sym same)
      (h.below (state_in first) (stored_at states 0 first here)))),
)
