-- A window in which a stub was unwound keeps pace.
use Rattle.std.proofs.Common.{ℕ, zero, suc, [], ◌∷◌, Option, refl, sym, subst}
use Rattle.std.specs.Prelude.{Bool, true, false, if◌then◌else◌}
use Rattle.pc_word.specs.Word.{holds}
use Rattle.pc_word.specs.Run.{Seen, Answers, run_from}
use Rattle.pc_word.proofs.Runs.{Answers-equal}
use Rattle.pc_word.specs.State.{State}
use Rattle.pc_word.specs.Items.{operand_value}
use Rattle.pc_table.specs.Table.{Next, Table}
use Rattle.pc_word.specs.Commit.{fault_of, prints_of}
use Rattle.pc_window.specs.Walk.{after_item}
use Rattle.pc_table.specs.RegionRun.{place_at}
use Rattle.pc_table.specs.TableKeeps.{TableKeeps}
use Rattle.pc_window.specs.Tree.{Tree, Pending, home_of, state_at}
use Rattle.pc_window.specs.WindowRun.{enter, window_step, tree_run, seen_first}
use Rattle.pc_window.specs.Opening.{Supply, TreeBelow}
use Rattle.pc_window.proofs.Units.{beyond_is_region, led, first_answers}
use Rattle.pc_window.proofs.Unwinding.{Unwound, at_stub, below, at_yes, at_no, homes-below}
use Rattle.pc_window.proofs.GraftPaces.{PacedAt, region_pace}

test_pace : (table : Table) (b : Bool) (one other one' other' : Tree) (s : State) (n : ℕ)
    → Answers (tree_run table one s n) (tree_run table one' s n) (tree_run table one s n).end → Answers (tree_run table other s n) (tree_run table other' s n) (tree_run table other s n).end
    → Answers (run_from (window_step table) n (enter table (if b then one else other) s)) (run_from (window_step table) n (enter table (if b then one' else other') s))
    (run_from (window_step table) n (enter table (if b then one else other) s)).end
test_pace table true one other one' other' s n p q = p
test_pace table false one other one' other' s n p q = q

-- where a stub was unwound, n units show what they showed
pub unwound_pace : (table : Table) → TableKeeps table → (loop : Option ℕ) (names after : Supply) {t u : Tree}
    → Unwound table loop names after t u → TreeBelow names.next t → (s : State) (n : ℕ)
    → Answers (tree_run table t s n) (tree_run table u s n) (tree_run table t s n).end
unwound_pace table keeps loop names after (at_stub region tag homes tree is kept) b s n =
    subst (λ (x : Seen). Answers x (tree_run table tree s n) x.end) (sym (beyond_is_region table n (place_at table (Next region) (state_at (home_of homes) s))))
    (subst (λ (u : Tree). PacedAt table (Next region) (state_at (home_of homes) s) u s n) is (region_pace table keeps loop tag region names (home_of homes) s (homes-below names.next homes b) n))
unwound_pace table keeps loop names after (below tag origin item {rest = rest} {new = new} u) b s zero = ([], refl)
unwound_pace table keeps loop names after (below tag origin item {rest = rest} {new = new} u) b s (suc n) =
    subst (λ (x : Seen). Answers x (tree_run table (Pending tag origin item new) s (suc n)) x.end) (sym (led table n item rest s (fault_of table.arrays s (item ∷ []))))
    (subst (λ (y : Seen). Answers (seen_first (fault_of table.arrays s (item ∷ [])) (prints_of s (item ∷ [])) (tree_run table rest (after_item table.arrays item s) n)) y
    (seen_first (fault_of table.arrays s (item ∷ [])) (prints_of s (item ∷ [])) (tree_run table rest (after_item table.arrays item s) n)).end)
    (sym (led table n item new s (fault_of table.arrays s (item ∷ []))))
    (first_answers table (fault_of table.arrays s (item ∷ [])) (prints_of s (item ∷ [])) (tree_run table rest (after_item table.arrays item s) n)
    (tree_run table new (after_item table.arrays item s) n) (unwound_pace table keeps loop names after u b.1 (after_item table.arrays item s) n)))
unwound_pace table keeps loop names after (at_yes tag origin on {one = one} {new = new} other u) b s zero = ([], refl)
unwound_pace table keeps loop names after (at_yes tag origin on {one = one} {new = new} other u) b s (suc n) =
    test_pace table (holds (operand_value s.names on)) one other new other s n (unwound_pace table keeps loop names after u b.1 s n)
    (Answers-equal (tree_run table other s n) (tree_run table other s n) refl)
unwound_pace table keeps loop names after (at_no tag origin on one {other = other} {new = new} u) b s zero = ([], refl)
unwound_pace table keeps loop names after (at_no tag origin on one {other = other} {new = new} u) b s (suc n) =
    test_pace table (holds (operand_value s.names on)) one other one new s n (Answers-equal (tree_run table one s n) (tree_run table one s n) refl)
    (unwound_pace table keeps loop names after u b.2 s n)
