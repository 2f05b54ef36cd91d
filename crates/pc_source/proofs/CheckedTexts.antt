-- What follows where a text is read as a program.
use Rattle.std.proofs.Common.{◌≡◌, ℕ, ℤ, ◌<◌, ◌≤◌, List, [], ◌∷◌, ◌++◌, refl, sym, ◌∙◌, ap, subst, arith}
use Rattle.std.specs.Prelude.{min}
use Rattle.pc_word.specs.Run.{Run, AgreeOnInputs}
use Rattle.pc_word.specs.SourceLimits.{most_nodes}
use Rattle.pc_word.proofs.Runs.{Agree-equal, AgreeOnInputs-trans}
use Rattle.pc_syntax.specs.Source.{ResolvedProgram}
use Rattle.pc_calls.specs.Inlining.{inlined_unit, symbol_bound}
use Rattle.pc_calls.specs.Refusals.{Refusal, refusals}
use Rattle.pc_calls.proofs.Functions.{inlined-same}
use Rattle.pc_check.specs.Sizes.{size, resolved_size}
use Rattle.pc_check.proofs.ResolvedSizes.{size-resolved}
use Rattle.pc_meaning.specs.SourceRun.{source_run}
use Rattle.pc_report.specs.declared.fault.SourceFault.TheVariants.{TooLarge}
use Rattle.pc_source.specs.Meaning.{meaning_of}
use Rattle.pc_source.specs.Reading.{IsChecked}
use Rattle.pc_source.specs.Source.{IsSource}
use Rattle.pc_source.specs.SourceFaults.{HasFault, Large}

module _ (text : List ℕ) (checked : ResolvedProgram) (it : IsChecked text checked) where
  -- ---- its size

  -- it has as many nodes as with numbers for names
  pub sized : resolved_size checked ≡ size (inlined_unit it.unit)
  sized = ap resolved_size (sym it.is_resolved) ∙ size-resolved (inlined_unit it.unit)

  -- with no more nodes than it may have it is a source
  pub is_source : resolved_size checked ≤ most_nodes → IsSource text it.unit
  is_source few =
      let same = sized in
      record { read = it.read; callable = it.callable; faultless = it.faultless; few_nodes = omega (arith, same, few) }

  -- with more it is too large
  pub is_too_large : most_nodes < resolved_size checked → HasFault text (TooLarge (min (resolved_size checked) 4294967295))
  is_too_large many =
      let same = sized in
      Large it.read it.callable it.faultless (subst (λ (n : ℕ). most_nodes < n) same many) (ap (λ (n : ℕ). min n 4294967295) same)

  -- ---- its runs

  -- what comes before the end of no refusals is none
  front_none : (front rest : List Refusal) → front ++ rest ≡ [] → front ≡ []
  front_none [] rest none = refl
  front_none (first ∷ front) rest none = absurd cc

  -- the program runs as the text means
  pub runs_same : (input : List ℤ) (n : ℕ) → meaning_of it.unit input n ≡ source_run checked input n
  runs_same input n =
      sym (inlined-same symbol_bound it.unit it.proper (front_none (refusals it.unit) _ it.callable) it.faultless input n)
      ∙ ap (λ (program : ResolvedProgram). source_run program input n) it.is_resolved

  -- what agrees with the program agrees with what the text means
  pub agrees : (run : List ℤ → Run) → AgreeOnInputs (source_run checked) run → AgreeOnInputs (meaning_of it.unit) run
  agrees run agree =
      AgreeOnInputs-trans (meaning_of it.unit) (source_run checked) run
      (λ input words. Agree-equal (meaning_of it.unit input) (source_run checked input) (runs_same input)) agree
