-- The walk of a region's tree with homes in place of variables is the region's run, one unit later at least.
use Rattle.std.proofs.Common.{◌≡◌, ℕ, suc, ◌+◌, [], ◌∷◌, Option, refl, sym, ◌∙◌, ap, subst, arith}
use Rattle.std.specs.Prelude.{ℤ, Bool, true, false, if◌then◌else◌, ◌≤◌}
use Rattle.pc_word.specs.declared.item.Item.{Item}
use Rattle.pc_word.specs.declared.item.Item.TheVariants.{Copy}
use Rattle.pc_word.specs.declared.item.Operand.{Operand}
use Rattle.pc_word.specs.declared.item.Operand.TheVariants.{Name}
use Rattle.pc_word.specs.declared.item.MachineFault.{MachineFault}
use Rattle.pc_word.specs.Run.{run_from}
use Rattle.pc_word.specs.Word.{holds}
use Rattle.pc_word.specs.State.{State}
use Rattle.pc_word.specs.Items.{operand_value}
use Rattle.pc_word.specs.Commit.{prints_of, fault_of, state_after}
use Rattle.pc_word.proofs.Evaluated.{Alike-prints, Alike-fault}
use Rattle.pc_table.specs.Table.{TableTree, Does, Asks, Next, Stops_here, Traps_here, Table, region_tree}
use Rattle.pc_table.specs.RegionRun.{Place, place_at, side_of, region_step, region_run, arrive}
use Rattle.pc_table.specs.TableKeeps.{TableKeeps, untested, By_one}
use Rattle.pc_window.specs.Tree.{Tree, Pending, Undecided, state_at}
use Rattle.pc_window.specs.Walk.{Walked, done_first, walk}
use Rattle.pc_window.specs.WindowRun.{follow}
use Rattle.pc_window.specs.Opening.{Supply, changed, with_name, at_home, Brought, Moves_home, Gets_name, Stays_plain, brought, graft_item, graft}
use Rattle.pc_window.proofs.Grafts.{HomesBelow, Does_same, brought_same, HomesBelow-later, HomesBelow-changed, HomesBelow-new, at_home_below}
use Rattle.pc_window.proofs.Grafts.{after_gives, after_plain, after_copy, stepped, one_more, at_home_value}
use Rattle.pc_window.proofs.Follows.{graft-extends, Later, FollowsRun, followed}

-- what follows a walk is what is seen some units later, one at least
pub record LaterOn (table : Table) (w : Walked) (tree : TableTree) (t : State) : Type 0 where
  pub units : ℕ
  pub one : 1 ≤ units
  pub same : (n : ℕ) → follow table w n ≡ region_run table tree t (units + n)

-- a tree begins with an item, a test, an end or a trap
abbrev pub BeginsHere : TableTree → Type 0
BeginsHere (Next region) = ⊥
BeginsHere tree = Unit {0}

module _ (table : Table) (keeps : TableKeeps table) (loop : Option ℕ) (tag : ℕ) where
  later_item : (origin : ℕ) (item given : Item) (rest : TableTree) (below : Tree) (s t : State)
      → fault_of table.arrays s (given ∷ []) ≡ fault_of table.arrays t (item ∷ [])
      → prints_of s (given ∷ []) ≡ prints_of t (item ∷ [])
      → Later table (walk table.arrays below (state_after table.arrays s (given ∷ []))) rest (state_after table.arrays t (item ∷ []))
      → LaterOn table (walk table.arrays (Pending tag origin given below) s) (Does origin item rest) t
  later_item origin item given rest below s t fault prints later = record {
    units = suc later.units;
    one = omega arith;
    same = λ n.
        let w = walk table.arrays below (state_after table.arrays s (given ∷ [])) in
        let place : Place = record { tree = Does origin item rest; state = t } in
        ap (λ (f : Option MachineFault). follow table (done_first f (prints_of s (given ∷ [])) w) n) fault
        ∙ stepped table item t rest (prints_of s (given ∷ [])) w later.units (fault_of table.arrays t (item ∷ [])) prints later.same n
        ∙ sym (one_more table place later.units n);
  }

  followed_copy : (origin variable : ℕ) (source : Operand) (rest : TableTree) (names : Supply) (homes : ℕ → Operand) (s : State)
      → HomesBelow names.next homes → FollowsRun table loop tag rest
      → LaterOn table (walk table.arrays (graft table loop tag rest names (changed homes variable (at_home homes source))).tree s) (Does origin (Copy variable source) rest) (state_at homes s)
  unfolding FollowsRun
  followed_copy origin variable source rest names homes s below follows =
      let homes' = changed homes variable (at_home homes source) in
      let w = walk table.arrays (graft table loop tag rest names homes').tree s in
      let later = follows names homes' s (HomesBelow-changed names.next homes variable (at_home homes source) (at_home_below names.next homes source below) below) in
      record {
        units = suc later.units;
        one = omega arith;
        same = λ n.
            let place : Place = record { tree = Does origin (Copy variable source) rest; state = state_at homes s } in
            later.same n
            ∙ ap (λ (t : State). region_run table rest t (later.units + n)) (after_copy table.arrays homes s variable source)
            ∙ sym (one_more table place later.units n);
      }

  followed_item : (origin : ℕ) (item : Item) (rest : TableTree) (names : Supply) (homes : ℕ → Operand) (s : State) → HomesBelow names.next homes
      → (b : Brought) → Does_same table.arrays names homes s item b → FollowsRun table loop tag rest
      → LaterOn table (walk table.arrays (graft_item tag origin b names homes (graft table loop tag rest)).tree s) (Does origin item rest) (state_at homes s)
  unfolding FollowsRun
  followed_item origin item rest names homes s below (Moves_home variable from) g follows =
      subst (λ (i : Item). LaterOn table (walk table.arrays (graft table loop tag rest names (changed homes variable from)).tree s) (Does origin i rest) (state_at homes s)) (sym g.item_is)
      (subst (λ (o : Operand). LaterOn table (walk table.arrays (graft table loop tag rest names (changed homes variable o)).tree s)
      (Does origin (Copy variable g.source) rest) (state_at homes s)) (sym g.from_is)
      (followed_copy origin variable g.source rest names homes s below follows))
  followed_item origin item rest names homes s below (Gets_name variable given form) g follows =
      let names' = with_name names form in
      let homes' = changed homes variable (Name names.next) in
      let s' = state_after table.arrays s (given ∷ []) in
      let later = follows names' homes' s' (HomesBelow-new names form homes variable below) in
      later_item origin item given rest (graft table loop tag rest names' homes').tree s (state_at homes s)
      (Alike-fault table.arrays s given (state_at homes s) item g.alike) (Alike-prints s given (state_at homes s) item g.alike)
      (subst (λ (t : State). Later table (walk table.arrays (graft table loop tag rest names' homes').tree s') rest t) (after_gives table.arrays names homes s item variable given below g) later)
  followed_item origin item rest names homes s below (Stays_plain given) g follows =
      let s' = state_after table.arrays s (given ∷ []) in
      let later = follows names homes s' below in
      later_item origin item given rest (graft table loop tag rest names homes).tree s (state_at homes s)
      (Alike-fault table.arrays s given (state_at homes s) item g.alike) (Alike-prints s given (state_at homes s) item g.alike)
      (subst (λ (t : State). Later table (walk table.arrays (graft table loop tag rest names homes).tree s') rest t) (after_plain table.arrays names homes s item given g) later)

  followed_test : (origin : ℕ) (on : Operand) (one other : TableTree) (at : Operand) (one_below other_below : Tree) (s t : State)
      → operand_value s.names at ≡ operand_value t.names on → (b : Bool) → holds (operand_value t.names on) ≡ b
      → Later table (walk table.arrays one_below s) one t → Later table (walk table.arrays other_below s) other t
      → LaterOn table (walk table.arrays (Undecided tag origin at one_below other_below) s) (Asks origin on one other) t
  followed_test origin on one other at one_below other_below s t value true e l m = record {
    units = suc l.units;
    one = omega arith;
    same = λ n.
        let place : Place = record { tree = Asks origin on one other; state = t } in
        ap (λ (z : ℤ). follow table (side_of z (walk table.arrays one_below s) (walk table.arrays other_below s)) n) value
        ∙ ap (λ (c : Bool). follow table (if c then walk table.arrays one_below s else walk table.arrays other_below s) n) e
        ∙ l.same n
        ∙ ap (λ (c : Bool). run_from (region_step table) (l.units + n) (place_at table (if c then one else other) t)) (sym e)
        ∙ sym (one_more table place l.units n);
  }
  followed_test origin on one other at one_below other_below s t value false e l m = record {
    units = suc m.units;
    one = omega arith;
    same = λ n.
        let place : Place = record { tree = Asks origin on one other; state = t } in
        ap (λ (z : ℤ). follow table (side_of z (walk table.arrays one_below s) (walk table.arrays other_below s)) n) value
        ∙ ap (λ (c : Bool). follow table (if c then walk table.arrays one_below s else walk table.arrays other_below s) n) e
        ∙ m.same n
        ∙ ap (λ (c : Bool). run_from (region_step table) (m.units + n) (place_at table (if c then one else other) t)) (sym e)
        ∙ sym (one_more table place m.units n);
  }

  pub followed_on : (tree : TableTree) → BeginsHere tree → (names : Supply) (homes : ℕ → Operand) (s : State) → HomesBelow names.next homes
      → LaterOn table (walk table.arrays (graft table loop tag tree names homes).tree s) tree (state_at homes s)
  unfolding FollowsRun
  followed_on (Does origin item rest) here names homes s below =
      followed_item origin item rest names homes s below (brought names homes item) (brought_same table.arrays names homes s item) (followed table keeps loop tag rest)
  followed_on (Asks origin on on_yes on_no) here names homes s below =
      let after = (graft table loop tag on_yes names homes).names in
      followed_test origin on on_yes on_no (at_home homes on) (graft table loop tag on_yes names homes).tree (graft table loop tag on_no after homes).tree s (state_at homes s)
      (at_home_value homes s on) (holds (operand_value (state_at homes s).names on)) refl
      (followed table keeps loop tag on_yes names homes s below)
      (followed table keeps loop tag on_no after homes s (HomesBelow-later names.next after.next homes (graft-extends table loop tag on_yes names homes).next below))
  followed_on (Next region) here names homes s below = absurd here
  followed_on Stops_here here names homes s below = record {
    units = 1;
    one = omega arith;
    same = λ n. let place : Place = record { tree = Stops_here; state = state_at homes s } in sym (one_more table place 0 n);
  }
  followed_on (Traps_here kind line) here names homes s below = record {
    units = 1;
    one = omega arith;
    same = λ n. let place : Place = record { tree = Traps_here kind line; state = state_at homes s } in sym (one_more table place 0 n);
  }

  -- no region's tree is a bare lead: where one led on, it would lead to itself
  begins_here : (tree : TableTree) → ((region : ℕ) → tree ≡ Next region → ⊥) → BeginsHere tree
  begins_here (Does origin item rest) h = tt
  begins_here (Asks origin on p q) h = tt
  begins_here (Next region) h = h region refl
  begins_here Stops_here h = tt
  begins_here (Traps_here kind line) h = tt

  pub region_begins : (region : ℕ) → BeginsHere (region_tree table region)
  region_begins region = begins_here (region_tree table region) (λ to e. itself to (ap (λ (t : TableTree). arrive table t) (sym e) ∙ keeps.begins region ∙ e))
    where
      itself : (to : ℕ) → region_tree table to ≡ Next to → ⊥
      itself to e = keeps.tested to (By_one (ap (λ (t : TableTree). untested t) e))

  -- the same of a region by its number
  pub grafted_on : (region : ℕ) (names : Supply) (homes : ℕ → Operand) (s : State) → HomesBelow names.next homes
      → LaterOn table (walk table.arrays (graft table loop tag (region_tree table region) names homes).tree s) (Next region) (state_at homes s)
  grafted_on region names homes s below =
      let later = followed_on (region_tree table region) (region_begins region) names homes s below in
      record {
        units = later.units;
        one = later.one;
        same = λ n. later.same n ∙ ap (λ (t : TableTree). run_from (region_step table) (later.units + n) (record { tree = t; state = state_at homes s })) (keeps.begins region);
      }
