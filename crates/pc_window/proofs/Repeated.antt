-- Unwinding again and again: the window runs as before, forms that held still hold, and it stays sound.
use Rattle.std.proofs.Common.{◌≡◌, ℕ, ◌+◌, Option, Some, None}
use Rattle.std.specs.Prelude.{Bool, true, false, if◌then◌else◌, nat_lt}
use Rattle.pc_word.specs.Run.{Agree}
use Rattle.pc_word.proofs.Runs.{Agree-refl, Agree-trans}
use Rattle.pc_word.specs.State.{State}
use Rattle.pc_table.specs.Table.{Table}
use Rattle.pc_table.specs.TableKeeps.{TableKeeps}
use Rattle.pc_window.specs.WindowRun.{free_run}
use Rattle.pc_window.specs.Hold.{TreeHolds}
use Rattle.pc_window.specs.Opening.{Grafted, unwound_at}
use Rattle.pc_window.proofs.Once.{Sound}
use Rattle.pc_window.specs.Unwinding.{most_unwound, within_size, unwound_below, unwound_once, Unwinds, unwinds_no_more, unwinds_once, least_inside, front_tag}
use Rattle.pc_window.specs.Tree.{tree_size}
use Rattle.pc_window.proofs.Unwinding.{unwound_agrees, unwound_holds}
use Rattle.pc_window.proofs.Soundness.{unwound-sound}

-- a step of unwinding unwinds a stub
pub record AtTag (table : Table) (loop : Option ℕ) (g h : Grafted) : Type 0 where
  pub least : ℕ
  pub is : unwound_at table loop least g.names g.tree ≡ Some h

size_is : (r : Option Grafted) (h : Grafted) → within_size r ≡ Some h → r ≡ Some h
size_is None h e = absurd (cc)
size_is (Some g) h e = by_test (nat_lt most_unwound (tree_size g.tree)) e
  where
    by_test : (b : Bool) → (if b then None else Some g) ≡ Some h → Some g ≡ Some h
    by_test true e = absurd (cc)
    by_test false e = e

below_is : (table : Table) (loop : Option ℕ) (bound : ℕ) (tag : Option ℕ) (g h : Grafted) → unwound_below table loop bound tag g ≡ Some h → AtTag table loop g h
below_is table loop bound None g h e = absurd (cc)
below_is table loop bound (Some tag) g h e = by_test (nat_lt tag bound) e
  where
    by_test : (b : Bool) → (if b then within_size (unwound_at table loop tag g.names g.tree) else None) ≡ Some h → AtTag table loop g h
    by_test true e = record { least = tag; is = size_is (unwound_at table loop tag g.names g.tree) h e }
    by_test false e = absurd (cc)

pub once_is : (table : Table) (loop : Option ℕ) (window : ℕ) (g h : Grafted) → unwound_once table loop window g ≡ Some h → AtTag table loop g h
once_is table loop window g h e = by_test (nat_lt window 2) e
  where
    by_test : (b : Bool) → (if b then None else unwound_below table loop (front_tag g.tree + window) (least_inside table loop g.tree) g) ≡ Some h → AtTag table loop g h
    by_test true e = absurd (cc)
    by_test false e = below_is table loop (front_tag g.tree + window) (least_inside table loop g.tree) g h e

pub unwinds-sound : (table : Table) (loop : Option ℕ) (window : ℕ) (g k : Grafted) → Unwinds table loop window g k → Sound g → Sound k
unwinds-sound table loop window a b (unwinds_no_more g e) s = s
unwinds-sound table loop window a b (unwinds_once g h k e u) s =
    let at = once_is table loop window g h e in
    unwinds-sound table loop window h k u (unwound-sound table loop at.least g h at.is s)

pub unwinds_agrees : (table : Table) → TableKeeps table → (loop : Option ℕ) (window : ℕ) (g k : Grafted) → Unwinds table loop window g k → Sound g → (s : State)
    → Agree (free_run table k.tree s) (free_run table g.tree s)
unwinds_agrees table keeps loop window a b (unwinds_no_more g e) sound s = Agree-refl (free_run table g.tree s)
unwinds_agrees table keeps loop window a b (unwinds_once g h k e u) sound s =
    let at = once_is table loop window g h e in
    Agree-trans (free_run table k.tree s) (free_run table h.tree s) (free_run table g.tree s)
    (unwinds_agrees table keeps loop window h k u (unwound-sound table loop at.least g h at.is sound) s)
    (unwound_agrees table keeps loop at.least g.names g.tree h at.is sound.names_below s)

pub unwinds_holds : (table : Table) (loop : Option ℕ) (window : ℕ) (g k : Grafted) → Unwinds table loop window g k → Sound g → (s : State)
    → TreeHolds g.names.forms table.arrays g.tree s → TreeHolds k.names.forms table.arrays k.tree s
unwinds_holds table loop window a b (unwinds_no_more g e) sound s h = h
unwinds_holds table loop window a b (unwinds_once g m k e u) sound s h =
    let at = once_is table loop window g m e in
    unwinds_holds table loop window m k u (unwound-sound table loop at.least g m at.is sound) s
    (unwound_holds table loop at.least g.names g.tree m at.is sound.forms_below sound.names_below s h)
