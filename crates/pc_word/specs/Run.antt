-- Runs: what a program shows as it goes on, and when two of them agree.
use Rattle.std.specs.Prelude.{◌≡◌, ◌≢◌, ℕ, zero, suc, ◌≤◌, ℤ, List, [], ◌++◌, All, Option, Some, None}
use Rattle.pc_word.specs.declared.item.End.{End}
use Rattle.pc_word.specs.declared.item.End.TheVariants.{Fault}
use Rattle.pc_word.specs.declared.item.MachineFault.{MachineFault}
use Rattle.pc_word.specs.Word.{IsWord}

-- what is seen of a run: the numbers printed so far, and how it ended, if it has
pub record Seen : Type 0 where
  pub printed : List ℤ
  pub end : Option End

-- what is seen, for each number of steps that are allowed
abbrev pub Run : Type 0
Run = ℕ → Seen

-- one list is the beginning of another
abbrev pub Begins : List ℤ → List ℤ → Type 0
Begins xs ys = (rest : List ℤ) × (xs ++ rest ≡ ys)

-- with more steps the printed list only grows, and an end stays
pub record Grows (X : Run) : Type 0 where
  pub prints_more : (n m : ℕ) → n ≤ m → Begins (X n).printed (X m).printed
  pub stays_ended : (n m : ℕ) (e : End) → n ≤ m → (X n).end ≡ Some e → X m ≡ X n

-- no fault of the machine ends the run
abbrev pub NeverFaults : Run → Type 0
NeverFaults X = (n : ℕ) (fault : MachineFault) → (X n).end ≢ Some (Fault fault)

-- where x has ended, y has printed the same and ended alike; where x goes on, what y has printed begins with what x has
abbrev pub Answers : Seen → Seen → Option End → Type 0
Answers x y (Some e) = (y.printed ≡ x.printed) × (y.end ≡ Some e)
Answers x y None = Begins x.printed y.printed

-- whatever X shows, Y comes to answer
abbrev pub Follows : Run → Run → Type 0
Follows X Y = (n : ℕ) → (m : ℕ) × Answers (X n) (Y m) (X n).end

-- the runs end alike with the same printed, or both go on for ever and neither prints what the other does not come to print
pub record Agree (X Y : Run) : Type 0 where
  pub forth : Follows X Y
  pub back : Follows Y X

-- for every input of words, the runs on it agree
abbrev pub AgreeOnInputs : (List ℤ → Run) → (List ℤ → Run) → Type 0
AgreeOnInputs X Y = (input : List ℤ) → All IsWord input → Agree (X input) (Y input)

-- one step of something that runs: it prints and goes on, or it prints and ends
pub data Step (S : Type 0) : Type 0 where
  Goes : (printed : List ℤ) → (next : S) → Step S
  Stops : (printed : List ℤ) → (end : End) → Step S

-- what is seen, with numbers printed before it
abbrev pub after_printing : List ℤ → Seen → Seen
after_printing out seen = record { printed = out ++ seen.printed; end = seen.end }

-- what is seen of a step and of what comes after it
abbrev pub seen_of : {S : Type 0} → Step S → (S → Seen) → Seen
seen_of (Goes out next) rest = after_printing out (rest next)
seen_of (Stops out end) rest = record { printed = out; end = Some end }

-- the run from a state: at most n steps
abbrev pub run_from : {S : Type 0} → (S → Step S) → ℕ → S → Seen
run_from step zero s = record { printed = []; end = None }
run_from step (suc n) s = seen_of (step s) (run_from step n)

-- where something has come to after some steps: to a state, or to its end
pub data Reached (S : Type 0) : Type 0 where
  At : (printed : List ℤ) → (state : S) → Reached S
  Over : (printed : List ℤ) → (end : End) → Reached S

-- the same place, with numbers printed before it
abbrev pub reached_after : {S : Type 0} → List ℤ → Reached S → Reached S
reached_after out (At printed s) = At (out ++ printed) s
reached_after out (Over printed end) = Over (out ++ printed) end

-- where a step leads to, with the steps after it
abbrev pub reached_of : {S : Type 0} → Step S → (S → Reached S) → Reached S
reached_of (Goes out next) rest = reached_after out (rest next)
reached_of (Stops out end) rest = Over out end

-- where at most n steps lead to
abbrev pub reach : {S : Type 0} → (S → Step S) → ℕ → S → Reached S
reach step zero s = At [] s
reach step (suc n) s = reached_of (step s) (reach step n)

-- what is seen of a place that was reached, and of what comes after it
abbrev pub seen_from : {S : Type 0} → Reached S → (S → Seen) → Seen
seen_from (At out s) rest = after_printing out (rest s)
seen_from (Over out end) rest = record { printed = out; end = Some end }

-- the run that has printed these numbers and ended from the start
abbrev pub ended_run : List ℤ → End → Run
ended_run printed end n = record { printed = printed; end = Some end }
