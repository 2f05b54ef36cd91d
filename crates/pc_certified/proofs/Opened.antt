-- A region that is entered: its opened window goes on as the region does, one unit on at least.
use Rattle.std.proofs.Common.{◌≡◌, ℕ, ◌+◌, ◌≤◌, refl, sym, ◌∙◌, ap, subst}
use Rattle.pc_word.specs.declared.item.Limits.{Limits}
use Rattle.pc_word.specs.State.{State}
use Rattle.pc_table.specs.Table.{Table, Next}
use Rattle.pc_table.specs.RegionRun.{region_run}
use Rattle.pc_table.specs.TableKeeps.{TableKeeps}
use Rattle.pc_table.specs.Loops.{innermost_loop}
use Rattle.pc_window.specs.Tree.{Tree, whole}
use Rattle.pc_window.specs.Walk.{walk}
use Rattle.pc_window.specs.Hold.{TreeHolds}
use Rattle.pc_window.specs.WindowRun.{follow, FormsHold}
use Rattle.pc_window.specs.Opening.{opened, first_supply, first_home}
use Rattle.pc_window.specs.Steps.{opened_window, IsProper, Positive}
use Rattle.pc_window.proofs.Openings.{first_home-below, first_same, opened_holds}
use Rattle.pc_window.proofs.CutRows.{whole_front_of}
use Rattle.pc_window.proofs.Proper.{opens_proper}
use Rattle.pc_certified.proofs.Units.{grafted_on}

module _ (table : Table) (keeps : TableKeeps table) (limits : Limits) (room : Positive limits) where
  -- a region's window, from the state in which each variable has its value
  pub record OpenedAt (region : ℕ) (t : State) : Type 0 where
    pub units : ℕ
    pub one : 1 ≤ units
    pub same : (n : ℕ) → follow table (walk table.arrays (whole (opened_window table limits region).front) t) n ≡ region_run table (Next region) t (units + n)
    pub proper : IsProper (opened_window table limits region)
    pub forms : FormsHold table (opened_window table limits region) t

  pub opened_at : (region : ℕ) (t : State) → OpenedAt region t
  opened_at region t =
      let loop = innermost_loop table region in
      let tree = (opened table loop region).tree in
      let later = grafted_on table keeps loop 0 region first_supply first_home t first_home-below in
      let same_tree = sym (whole_front_of tree) in
      record {
        units = later.units;
        one = later.one;
        same = λ n. ap (λ (u : Tree). follow table (walk table.arrays u t) n) (whole_front_of tree) ∙ later.same n ∙ first_same table keeps region (later.units + n) t;
        proper = opens_proper table limits region (opened_window table limits region) room refl;
        forms = subst (λ (u : Tree). TreeHolds (opened table loop region).names.forms table.arrays u t) same_tree (opened_holds table loop region t);
      }
