-- Changes that keep a window's run and forms, one after the other.
use Rattle.std.proofs.Common.{suc, List}
use Rattle.std.specs.Prelude.{ℤ}
use Rattle.pc_word.specs.Run.{Run, Follows, after_printing, NeverFaults}
use Rattle.pc_word.specs.State.{State}
use Rattle.pc_word.proofs.Runs.{Follows-trans, Answers-after}
use Rattle.pc_table.specs.Table.{Table}
use Rattle.pc_table.specs.TableKeeps.{TableKeeps}
use Rattle.pc_window.specs.WindowRun.{Window, window_run}
use Rattle.pc_window.specs.Kept.{KeepsPace, KeptIn, WindowKeeps, RestKept}
use Rattle.pc_window.specs.Steps.{IsProper}
use Rattle.pc_window.proofs.Paces.{answer_of_answer, NeverFaults-follows}
use Rattle.pc_window.proofs.Proper.{unwinds_proper, tidies_proper, rebases_proper}
use Rattle.pc_window.proofs.Settling.{unwinds_keep, tidies_keep, rebases_keep}
use Rattle.pc_pattern.specs.Searches.{Rules, Settles, BringsOn}

-- runs after the same list follow if the runs do
Follows-after : (out : List ℤ) (X Y : Run) → Follows X Y → Follows (λ n. after_printing out (X n)) (λ n. after_printing out (Y n))
Follows-after out X Y follows n = let m = follows n in (m.0, Answers-after out (X n) (Y m.0) (X n).end m.1)

KeepsPace-trans : (X Y Z : Run) → KeepsPace X Y → KeepsPace Y Z → KeepsPace X Z
KeepsPace-trans X Y Z p q n = answer_of_answer (X n) (Y n) (Z n) (p n) (q n)

-- what a kept window never does
pub never_kept : (table : Table) (w v : Window) (s : State) → KeptIn table w v s → NeverFaults (window_run table w s)
    → NeverFaults (window_run table v s)
never_kept table w v s k never = NeverFaults-follows (window_run table v s) (window_run table w s) k.back never

WindowKeeps-trans : (table : Table) (w v u : Window) → WindowKeeps table w v → WindowKeeps table v u → WindowKeeps table w u
WindowKeeps-trans table w v u p q s forms never =
    let k = p s forms never in
    let m = q s k.forms (never_kept table w v s k never) in
    record {
      pace = KeepsPace-trans (window_run table w s) (window_run table v s) (window_run table u s) k.pace m.pace;
      back = Follows-trans (window_run table u s) (window_run table v s) (window_run table w s) m.back k.back;
      forms = m.forms;
    }

-- what is unwound and tidied is proper and keeps run and forms, and so is what is brought on
pub settles_keep : (rules : Rules) → TableKeeps rules.table → (w v : Window) → Settles rules w v → IsProper w
    → IsProper v × WindowKeeps rules.table w v
settles_keep rules keeps w v h p =
    let one = unwinds_proper rules.table rules.number w h.unwound h.unwinds p in (
      tidies_proper h.unwound v h.tidies one,
      WindowKeeps-trans rules.table w h.unwound v (unwinds_keep rules.table keeps rules.number w h.unwound h.unwinds p)
          (tidies_keep rules.table h.unwound v h.tidies),
    )

pub brings_on_keeps : (rules : Rules) → TableKeeps rules.table → (w v : Window) → BringsOn rules w v → IsProper w
    → IsProper v × WindowKeeps rules.table w v
brings_on_keeps rules keeps w v h p =
    let one = rebases_proper w h.rebased h.rebases p in
    let two = settles_keep rules keeps h.rebased v h.settles one in
    (two.0, WindowKeeps-trans rules.table w h.rebased v (rebases_keep rules.table w h.rebased h.rebases p) two.1)

-- a row that gains a unit, and a window that keeps pace with what is left
pub rest_kept_on : (table : Table) (w v u : Window) (s t : State) (out : List ℤ) → RestKept table w s out t v → NeverFaults (window_run table w s)
    → WindowKeeps table v u
    → RestKept table w s out t u
rest_kept_on table w v u s t out r never keeps =
    let never_left : NeverFaults (window_run table v t) = NeverFaults-follows (λ n. after_printing out (window_run table v t n))
    (window_run table w s) r.back never in
    let k = keeps t r.forms never_left in
    record {
      pace = λ n. answer_of_answer (window_run table w s (suc n)) (after_printing out (window_run table v t n))
          (after_printing out (window_run table u t n)) (r.pace n)
          (Answers-after out (window_run table v t n) (window_run table u t n) (window_run table v t n).end (k.pace n));
      back = Follows-trans (λ n. after_printing out (window_run table u t n)) (λ n. after_printing out (window_run table v t n))
          (window_run table w s)
          (Follows-after out (window_run table u t) (window_run table v t) k.back) r.back;
      forms = k.forms;
    }

-- what is left never faults
pub never_left : (table : Table) (w v : Window) (s t : State) (out : List ℤ) → RestKept table w s out t v → NeverFaults (window_run table w s)
    → NeverFaults (window_run table v t)
never_left table w v s t out r never = NeverFaults-follows (λ n. after_printing out (window_run table v t n)) (window_run table w s) r.back never
