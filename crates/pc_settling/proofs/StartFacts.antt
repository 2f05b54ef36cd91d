-- The facts that hold at the start are those that are listed.
use Rattle.std.proofs.Common.{◌≡◌, ℕ, suc, ◌<◌, inl, inr, List, [], ◌∷◌, ◌++◌, map, refl, sym, ◌∙◌, ap, subst}
use Rattle.std.specs.Prelude.{ℤ, pos}
use Rattle.std.specs.List.{flat_map}
use Rattle.std.proofs.lemmas.List.{map-append}
use Rattle.pc_word.specs.declared.item.Operand.{Operand}
use Rattle.pc_word.specs.declared.item.Operand.TheVariants.{Name, Lit}
use Rattle.pc_window.specs.Opening.{first_new}
use Rattle.pc_certified.specs.Facts.{Fact, OperandsMatch}
use Rattle.pc_certified.specs.Shows.{HoldsAtStart}
use Rattle.pc_matching.specs.FactsAfter.{that}
use Rattle.pc_matching.proofs.Elements.{In, in_of, of_in, in_front, in_back, in_either, in_map, of_map, in_flat, of_flat}
use Rattle.pc_settling.specs.Remaining.{have_value_of}
use Rattle.pc_settling.specs.Begun.{numbers_below}
use Rattle.pc_settling.specs.Start.{registers_below, facts_at_start}
use Rattle.pc_settling.specs.Laws.{ListedAtStartHold, AllAtStartAreListed}
use Rattle.pc_settling.proofs.FactLists.{below_listed, of_listed}

-- ---- in memory

-- one register more
pub one_register : (registers : ℕ) (operand : Operand)
    → map (λ (source : Operand). that source operand) (registers_below (suc registers))
    ≡ map (λ (source : Operand). that source operand) (registers_below registers) ++ (that (Name registers) operand ∷ [])
one_register registers operand =
    ap (map (λ (source : Operand). that source operand)) (map-append (λ (register : ℕ). Name register) (numbers_below registers) (registers ∷ []))
    ∙ map-append (λ (source : Operand). that source operand) (registers_below registers) (Name registers ∷ [])

pub ruleset start = (one_register)

-- ---- what is listed

abbrev pub at_variable : ℕ → ℕ → List Fact
at_variable registers variable = have_value_of variable (Lit (pos 0) ∷ registers_below registers)

module _ (registers : ℕ) where
  register_holds : (operand : Operand) (fact : Fact) → HoldsAtStart (that (Lit (pos 0)) operand) → In (map (λ (source : Operand). that source operand) (registers_below registers)) fact
      → HoldsAtStart fact
  register_holds operand fact zero_is h =
      let from = in_map (λ (source : Operand). that source operand) (registers_below registers) fact h in
      let number = in_map (λ (register : ℕ). Name register) (numbers_below registers) from.0 from.1 in
      subst HoldsAtStart from.2 (subst (λ (source : Operand). HoldsAtStart (that source operand)) number.2 zero_is)

  variable_holds : (variable : ℕ) (fact : Fact) → In (at_variable registers variable) fact → HoldsAtStart fact
  variable_holds variable fact (inl e) = subst HoldsAtStart e refl
  variable_holds variable fact (inr h) = register_holds (Name variable) fact refl h

  pub listed_hold : (fact : Fact) → In (facts_at_start registers) fact → HoldsAtStart fact
  listed_hold fact h =
      elim (in_either (flat_map (at_variable registers) (numbers_below first_new)) (map (λ (source : Operand). that source (Lit (pos 0))) (registers_below registers)) fact h) [
        | inl k ↦ let there = in_flat (at_variable registers) (numbers_below first_new) fact k in variable_holds there.0 fact there.2
        | inr k ↦ register_holds (Lit (pos 0)) fact refl k
      ]

  register_listed : (register : ℕ) → register < registers → In (registers_below registers) (Name register)
  register_listed register below = of_map (λ (r : ℕ). Name r) (numbers_below registers) register (below_listed registers register below)

  at_listed : (variable : ℕ) (source : Operand) → variable < first_new → In (Lit (pos 0) ∷ registers_below registers) source
      → OperandsMatch (facts_at_start registers) source (Name variable)
  at_listed variable source below h =
      of_listed (facts_at_start registers) source variable (
      in_front (flat_map (at_variable registers) (numbers_below first_new)) (map (λ (s : Operand). that s (Lit (pos 0))) (registers_below registers)) (that source (Name variable)) (
      of_flat (at_variable registers) (numbers_below first_new) variable (that source (Name variable)) (below_listed first_new variable below) (
      of_map (λ (s : Operand). that s (Name variable)) (Lit (pos 0) ∷ registers_below registers) source h
      )
      )
      )

pub listed_at_start_hold : ListedAtStartHold
listed_at_start_hold registers fact h = listed_hold registers fact (in_of (facts_at_start registers) fact h)

pub all_at_start_are_listed : AllAtStartAreListed
all_at_start_are_listed registers (Name register) (Name variable) below_registers below_variables h =
    at_listed registers variable (Name register) below_variables (inr (register_listed registers register below_registers))
all_at_start_are_listed registers (Lit value) (Name variable) below_registers below_variables h =
    at_listed registers variable (Lit value) below_variables (inl (ap Lit (sym h)))
all_at_start_are_listed registers (Lit value) (Lit other) below_registers below_variables h = h
all_at_start_are_listed registers (Name register) (Lit value) below_registers below_variables h =
    let zero_is : pos 0 ≡ value = h in
    of_in (facts_at_start registers) (that (Name register) (Lit value)) (
    in_back (flat_map (at_variable registers) (numbers_below first_new)) (map (λ (s : Operand). that s (Lit (pos 0))) (registers_below registers))
    (that (Name register) (Lit value)) (
    subst (λ (z : ℤ). In (map (λ (s : Operand). that s (Lit (pos 0))) (registers_below registers)) (that (Name register) (Lit z))) zero_is (
    of_map (λ (s : Operand). that s (Lit (pos 0))) (registers_below registers) (Name register) (register_listed registers register below_registers)
    )
    )
    )
