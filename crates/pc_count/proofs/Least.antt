-- The cycles of a run are the least number with which it has ended.
use Rattle.std.proofs.Common.{◌≡◌, ℕ, zero, suc, ◌<◌, ◌≤◌, ◌∷◌, length, Option, Some, None, refl, ap, ◌∙◌, arith}
use Rattle.pc_word.specs.declared.item.End.{End}
use Rattle.pc_word.specs.Run.{Step, Goes, Stops, run_from, seen_of}
use Rattle.pc_machine.specs.MachineCode.{RowCode}
use Rattle.pc_machine.specs.MachineRun.{Cycle, machine_step}
use Rattle.pc_count.specs.Passages.{passage_at, passages, passages_after}
use Rattle.pc_count.specs.Laws.{AreItsCycles, CyclesAreLeast}

-- what holds of the run that goes on from a first step
module _ (code : RowCode) (here : Cycle) where
  -- the end of the run by its first step
  abbrev end_by : Step Cycle → ℕ → Option End
  end_by step n = (seen_of step (run_from (machine_step code) n)).end

  -- the cycles by the first step
  abbrev many_by : Step Cycle → ℕ → ℕ
  many_by step n = length (passage_at code here ∷ passages_after step (passages code n))

  -- what is to hold of them
  record AreBy (step : Step Cycle) (n : ℕ) : Type 0 where
    few : many_by step n ≤ suc n
    going : end_by step n ≡ None → many_by step n ≡ suc n
    ended : (end : End) → end_by step n ≡ Some end → (fewer : ℕ) → suc fewer ≡ many_by step n → end_by step fewer ≡ Some end
    least : (fewer : ℕ) → suc fewer < many_by step n → end_by step fewer ≡ None

  are_by : (step : Step Cycle) (n : ℕ) → ((next : Cycle) → AreItsCycles code n next (length (passages code n next))) → AreBy step n
  are_by (Goes printed next) n are = record {
    few = let h = (are next).few in omega (arith, h);
    going = λ none. ap suc ((are next).going none);
    ended = λ end some fewer is.
        let same : fewer ≡ length (passages code n next) = omega (arith, is) in
        ap (λ k. (run_from (machine_step code) k next).end) same ∙ (are next).ended end some;
    least = λ fewer h. (are next).least fewer (omega (arith, h));
  }
  are_by (Stops printed e) n are = record {
    few = omega arith;
    going = λ none. absurd (cc);
    ended = λ end some fewer is. some;
    least = λ fewer h. absurd (omega (arith, h));
  }

pub cycles-least : CyclesAreLeast
cycles-least code zero here = record {
  few = omega arith;
  going = λ none. refl;
  ended = λ end some. some;
  least = λ fewer h. absurd (omega (arith, h));
}
cycles-least code (suc n) here =
    let are = are_by code here (machine_step code here) n (λ next. cycles-least code n next) in
    record {
      few = are.few;
      going = are.going;
      ended = λ end some. are.ended end some _ refl;
      least = λ fewer h. by fewer h are.least;
    }
  where
    by : (fewer : ℕ) → fewer < length (passages code (suc n) here)
        → ((k : ℕ) → suc k < length (passages code (suc n) here) → (run_from (machine_step code) (suc k) here).end ≡ None)
        → (run_from (machine_step code) fewer here).end ≡ None
    by zero h least = refl
    by (suc k) h least = least k h
