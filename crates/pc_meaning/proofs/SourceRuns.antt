-- What a source program shows is a run.
use Rattle.std.proofs.Common.{◌≡◌, ℕ, ◌+◌, ◌-◌, ◌≤◌, List, Some, refl, sym, ap, subst, arith}
use Rattle.std.specs.Prelude.{ℤ, ◌≢◌}
use Rattle.pc_word.specs.declared.item.End.{End}
use Rattle.pc_word.specs.declared.item.End.TheVariants.{Fault}
use Rattle.pc_word.specs.declared.item.MachineFault.{MachineFault}
use Rattle.pc_word.specs.Run.{Begins, Grows}
use Rattle.pc_word.proofs.Runs.{Begins-refl}
use Rattle.pc_syntax.specs.Source.{ResolvedProgram}
use Rattle.pc_meaning.specs.ProgramState.{source_start}
use Rattle.pc_meaning.specs.Statement.{Completion, GoesOn, Breaks, Continues, Returns, Traps, Spent, state_at_end}
use Rattle.pc_meaning.specs.SourceRun.{shown, outcome_of, source_run}
use Rattle.pc_meaning.proofs.Statements.{Extends, execute_list-steady}

-- what was printed at a statement's end is what is seen
pub shown-printed : (x : Completion) → (shown x).printed ≡ (state_at_end x).printed
shown-printed (GoesOn s) = refl
shown-printed (Breaks s) = refl
shown-printed (Continues s) = refl
shown-printed (Returns s) = refl
shown-printed (Traps kind line s) = refl
shown-printed (Spent s) = refl

-- equal outcomes but for the turns show the same
Extends-same : (k : ℕ) (x y : Completion) (e : End) → Extends k x y → (shown x).end ≡ Some e → shown y ≡ shown x
Extends-same k (GoesOn s) y e p q = ap shown p
Extends-same k (Breaks s) y e p q = ap shown p
Extends-same k (Continues s) y e p q = ap shown p
Extends-same k (Returns s) y e p q = ap shown p
Extends-same k (Traps kind line s) y e p q = ap shown p
Extends-same k (Spent s) y e p q = cc

-- more turns show no less printed
Extends-begins : (k : ℕ) (x y : Completion) → Extends k x y → Begins (shown x).printed (shown y).printed
Extends-begins k (GoesOn s) y p = rw p (Begins-refl s.printed)
Extends-begins k (Breaks s) y p = rw p (Begins-refl s.printed)
Extends-begins k (Continues s) y p = rw p (Begins-refl s.printed)
Extends-begins k (Returns s) y p = rw p (Begins-refl s.printed)
Extends-begins k (Traps kind line s) y p = rw p (Begins-refl s.printed)
Extends-begins k (Spent s) y p = subst (λ (l : List ℤ). Begins s.printed l) (sym (shown-printed y)) p

-- the outcome with more turns
pub outcome_of-extends : (program : ResolvedProgram) (input : List ℤ) (n m : ℕ) → n ≤ m
    → Extends (m - n) (outcome_of program input n) (outcome_of program input m)
unfolding outcome_of
outcome_of-extends program input n m le =
    let e : n + (m - n) ≡ m = omega arith in
    subst (λ (k : ℕ). Extends (m - n) (outcome_of program input n) (outcome_of program input k)) e
    ((execute_list-steady program.arrays program.body).extends (m - n) (source_start program.initial input n))

-- with more turns the printed list only grows, and an end stays
pub source_run-grows : (program : ResolvedProgram) (input : List ℤ) → Grows (source_run program input)
unfolding source_run
source_run-grows program input =
    let at = outcome_of program input in
    record {
      prints_more = λ n m le. Extends-begins (m - n) (at n) (at m) (outcome_of-extends program input n m le);
      stays_ended = λ n m e le ended. Extends-same (m - n) (at n) (at m) e (outcome_of-extends program input n m le) ended;
    }

-- no outcome is a machine's fault
shown-faultless : (x : Completion) (fault : MachineFault) → (shown x).end ≢ Some (Fault fault)
shown-faultless (GoesOn s) fault p = cc
shown-faultless (Breaks s) fault p = cc
shown-faultless (Continues s) fault p = cc
shown-faultless (Returns s) fault p = cc
shown-faultless (Traps kind line s) fault p = cc
shown-faultless (Spent s) fault p = cc

-- no program comes to a machine's fault
pub source_run-faultless : (program : ResolvedProgram) (input : List ℤ) (n : ℕ) (fault : MachineFault) → (source_run program input n).end ≢ Some (Fault fault)
unfolding source_run
source_run-faultless program input n fault = shown-faultless (outcome_of program input n) fault
