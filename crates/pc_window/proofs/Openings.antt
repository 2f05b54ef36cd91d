-- An opened region runs as the region does, and its forms hold on every state.
use Rattle.std.proofs.Common.{◌≡◌, ℕ, ◌+◌, ◌<◌, ◌≤◌, Option, refl, sym, ◌∙◌, ap, subst, arith}
use Rattle.std.specs.Prelude.{pos, Bool, true, false, if◌then◌else◌, nat_lt}
use Rattle.pc_word.specs.declared.item.Operand.{Operand}
use Rattle.pc_word.specs.declared.item.Operand.TheVariants.{Name, Lit}
use Rattle.pc_word.specs.Run.{Run, Agree, Grows, Answers, Seen, run_from}
use Rattle.pc_word.proofs.Runs.{Answers-equal, run_from-grows, Grows-answers}
use Rattle.pc_word.specs.State.{State}
use Rattle.pc_word.specs.Items.{operand_value}
use Rattle.pc_linear.specs.Combine.{variable_form, constant_form}
use Rattle.pc_linear.specs.Form.{Means}
use Rattle.pc_window.specs.Opening.{first_new, FormBelow, Supply, first_form, first_supply, first_home, opened, graft, OperandBelow, FormsBelow}
use Rattle.pc_table.specs.Table.{TableTree, Next, Table, region_tree}
use Rattle.pc_table.specs.RegionRun.{place_at, region_step, region_run}
use Rattle.pc_table.specs.TableKeeps.{TableKeeps}
use Rattle.pc_window.specs.Tree.{state_at}
use Rattle.pc_window.specs.Walk.{walk}
use Rattle.pc_window.specs.WindowRun.{free_run}
use Rattle.pc_window.specs.Hold.{TreeHolds}
use Rattle.pc_linear.proofs.Forms.{variable_means}
use Rattle.pc_table.proofs.Live.{run_same}
use Rattle.pc_window.proofs.Grafts.{HomesBelow, Extends-refl}
use Rattle.pc_window.proofs.Follows.{Later, FollowsRun, followed, graft-extends}
use Rattle.pc_window.proofs.GraftForms.{HomesMean, HomesMean-later, GraftHolds, graft_holds, OperandMeans}
use Rattle.pc_window.proofs.Uses.{graft-uses}

-- a run that shows what another shows some steps later agrees with it
pub Agree-later : (X Y : Run) (k : ℕ) → Grows Y → ((n : ℕ) → X n ≡ Y (k + n)) → Agree X Y
Agree-later X Y k grows same = record {
  forth = λ n. (k + n, Answers-equal (X n) (Y (k + n)) (same n));
  back = λ n. (n, let le : n ≤ k + n = omega arith in subst (λ (x : Seen). Answers (Y n) x (Y n).end) (sym (same n)) (Grows-answers Y grows n (k + n) le));
}

pub below_tells : (m n : ℕ) → nat_lt m n ≡ true → m < n
below_tells m n h = grind arith

pub below_is : (m n : ℕ) → m < n → nat_lt m n ≡ true
below_is m n h = grind arith

-- ---- the first names

pub first_home-below : HomesBelow first_new first_home
unfolding HomesBelow
first_home-below v = by_test (nat_lt v first_new) refl
  where
    by_test : (b : Bool) → nat_lt v first_new ≡ b → OperandBelow first_new (if b then Name v else Lit (pos 0))
    by_test true e = below_tells v first_new e
    by_test false e = tt

pub first_names-below : FormsBelow first_supply
first_names-below = record { form = λ x. by_test x (nat_lt x first_new) refl }
  where
    by_test : (x : ℕ) (b : Bool) → nat_lt x first_new ≡ b → FormBelow first_new (if b then variable_form x else constant_form (pos 0))
    by_test x true e = (below_tells x first_new e, tt)
    by_test x false e = tt

first_home-means : (s : State) → HomesMean s.names first_supply.forms s.names first_home
first_home-means s = record { home = λ v. by_test v (nat_lt v first_new) refl }
  where
    by_test : (v : ℕ) (b : Bool) → nat_lt v first_new ≡ b → OperandMeans s.names first_form s.names (if b then Name v else Lit (pos 0))
    by_test v true e = subst (λ (c : Bool). Means s.names (if c then variable_form v else constant_form (pos 0)) (s.names v)) (sym e) (variable_means s.names v (s.names v) refl)
    by_test v false e = refl

-- ---- the run

-- the tree that is grafted for a stub runs as the region does from the values of its homes
pub grafted_region : (table : Table) → TableKeeps table → (loop : Option ℕ) (tag region : ℕ) (names : Supply) (homes : ℕ → Operand) (s : State) → HomesBelow names.next homes
    → Later table (walk table.arrays (graft table loop tag (region_tree table region) names homes).tree s) (Next region) (state_at homes s)
unfolding FollowsRun
grafted_region table keeps loop tag region names homes s below =
    let later = followed table keeps loop tag (region_tree table region) names homes s below in
    record {
      units = later.units;
      same = λ n. later.same n ∙ ap (λ (t : TableTree). run_from (region_step table) (later.units + n) (record { tree = t; state = state_at homes s })) (keeps.begins region);
    }

-- a region does not tell a state from the one in which each variable has the value of its first home
pub first_same : (table : Table) → TableKeeps table → (region n : ℕ) (s : State)
    → region_run table (Next region) (state_at first_home s) n ≡ region_run table (Next region) s n
first_same table keeps region n s =
    run_same table keeps n (region_tree table region) (state_at first_home s) s
    (λ x h. ap (λ (b : Bool). operand_value s.names (if b then Name x else Lit (pos 0))) (below_is x first_new (keeps.small region x (keeps.live region x h)))) refl

-- an opened region runs as the region does, from every state
pub opened_agrees : (table : Table) → TableKeeps table → (loop : Option ℕ) (region : ℕ) (s : State)
    → Agree (free_run table (opened table loop region).tree s) (region_run table (Next region) s)
opened_agrees table keeps loop region s =
    let later = grafted_region table keeps loop 0 region first_supply first_home s first_home-below in
    Agree-later (free_run table (opened table loop region).tree s) (region_run table (Next region) s) later.units (run_from-grows (region_step table) (place_at table (Next region) s))
    (λ n. later.same n ∙ first_same table keeps region (later.units + n) s)

-- its forms hold on every state
pub opened_holds : (table : Table) (loop : Option ℕ) (region : ℕ) (s : State) → TreeHolds (opened table loop region).names.forms table.arrays (opened table loop region).tree s
unfolding GraftHolds HomesBelow
opened_holds table loop region s =
    let tree = region_tree table region in
    let after = (opened table loop region).names in
    let held = graft_holds table loop 0 tree first_supply first_home s s.names after first_names-below first_home-below (first_home-means s) (Extends-refl after) in
    let means = HomesMean-later first_supply after s.names held.values s.names s.names first_home (graft-extends table loop 0 tree first_supply first_home) held.goes_on
    first_names-below (λ x h. refl) first_home-below (first_home-means s) in (
      held.values,
      record {
        parameters = λ x h.
            let home = graft-uses table loop 0 tree first_supply first_home x h in
            subst (λ (o : Operand). OperandMeans held.values after.forms s.names o) home.is (means.home home.variable);
        defined = held.defined;
      },
    )
