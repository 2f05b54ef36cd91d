-- A region's tree with homes in place of variables walks as the region runs.
use Rattle.std.proofs.Common.{◌≡◌, ℕ, suc, ◌+◌, List, [], ◌∷◌, Option, refl, sym, ◌∙◌, ap, subst, arith, zero-add}
use Rattle.std.specs.Prelude.{ℤ, Bool, true, false, if◌then◌else◌, nat_eq, ◌||◌}
use Rattle.std.specs.List.{list_any}
use Rattle.pc_word.specs.declared.item.Item.{Item}
use Rattle.pc_word.specs.declared.item.Item.TheVariants.{Copy}
use Rattle.pc_word.specs.declared.item.Operand.{Operand}
use Rattle.pc_word.specs.declared.item.Operand.TheVariants.{Name}
use Rattle.pc_word.specs.declared.item.MachineFault.{MachineFault}
use Rattle.pc_word.specs.Run.{run_from}
use Rattle.pc_word.specs.Word.{holds}
use Rattle.pc_word.specs.State.{State}
use Rattle.pc_word.specs.Items.{operand_value}
use Rattle.pc_word.specs.Commit.{prints_of, fault_of, state_after}
use Rattle.pc_table.specs.Table.{TableTree, Does, Asks, Next, Stops_here, Traps_here, Table, region_tree, region_live}
use Rattle.pc_table.specs.RegionRun.{Place, place_at, side_of, region_step, region_run}
use Rattle.pc_table.specs.TableKeeps.{TableKeeps}
use Rattle.pc_window.specs.Tree.{Tree, Pending, Undecided, home_of, state_at}
use Rattle.pc_window.specs.Walk.{Walked, done_first, walk}
use Rattle.pc_window.specs.WindowRun.{follow}
use Rattle.pc_window.specs.Opening.{Supply, changed, with_name, at_home, Brought, Moves_home, Gets_name, Stays_plain, brought, Grafted, graft_item, homes_at, graft}
use Rattle.pc_table.proofs.Live.{run_same}
use Rattle.pc_window.proofs.Grafts.{HomesBelow, Does_same, brought_same, Extends, Extends-refl, Extends-trans, with_name-extends, HomesBelow-later, HomesBelow-changed}
use Rattle.pc_window.proofs.Grafts.{HomesBelow-new, at_home_below, after_gives, after_plain, after_copy, stepped, one_more, at_home_value}
use Rattle.pc_word.proofs.Evaluated.{Alike-prints, Alike-fault}

-- the home of a live variable is among the homes of a stub
pub home_of-homes_at : (homes : ℕ → Operand) (vs : List ℕ) (x : ℕ) → list_any (nat_eq x) vs ≡ true → home_of (homes_at homes vs) x ≡ homes x
home_of-homes_at homes [] x h = absurd (cc)
home_of-homes_at homes (v ∷ vs) x h = at_first (nat_eq v x) refl (λ p. home_of-homes_at homes vs x p)
  where
    same : nat_eq v x ≡ true → v ≡ x
    same e = grind arith

    other : nat_eq v x ≡ false → nat_eq x v ≡ false
    other e = grind arith

    further : (b : Bool) → b ≡ false → (b || list_any (nat_eq x) vs) ≡ true → list_any (nat_eq x) vs ≡ true
    further true e p = absurd (cc)
    further false e p = p

    at_first : (b : Bool) → nat_eq v x ≡ b → (list_any (nat_eq x) vs ≡ true → home_of (homes_at homes vs) x ≡ homes x)
        → (if b then homes v else home_of (homes_at homes vs) x) ≡ homes x
    at_first true e next = ap homes (same e)
    at_first false e next = next (further (nat_eq x v) (other e) h)

-- ---- names only grow

module _ (table : Table) (loop : Option ℕ) (tag : ℕ) where
  graft_item-extends : (origin : ℕ) (b : Brought) (names : Supply) (homes : ℕ → Operand) (rest : Supply → (ℕ → Operand) → Grafted)
      → ((names : Supply) (homes : ℕ → Operand) → Extends names (rest names homes).names) → Extends names (graft_item tag origin b names homes rest).names
  graft_item-extends origin (Moves_home variable from) names homes rest h = h names (changed homes variable from)
  graft_item-extends origin (Gets_name variable item form) names homes rest h =
      Extends-trans names (with_name names form) (rest (with_name names form) (changed homes variable (Name names.next))).names
      (with_name-extends names form) (h (with_name names form) (changed homes variable (Name names.next)))
  graft_item-extends origin (Stays_plain item) names homes rest h = h names homes

  pub graft-extends : (tree : TableTree) (names : Supply) (homes : ℕ → Operand) → Extends names (graft table loop tag tree names homes).names
  graft-extends (Does origin item rest) names homes = graft_item-extends origin (brought names homes item) names homes (graft table loop tag rest) (graft-extends rest)
  graft-extends (Asks origin on on_yes on_no) names homes =
      let after = (graft table loop tag on_yes names homes).names in
      Extends-trans names after (graft table loop tag on_no after homes).names (graft-extends on_yes names homes) (graft-extends on_no after homes)
  graft-extends (Next region) names homes = Extends-refl names
  graft-extends Stops_here names homes = Extends-refl names
  graft-extends (Traps_here kind line) names homes = Extends-refl names

-- ---- the walk is the run

-- what follows a walk is what is seen some units later
pub record Later (table : Table) (w : Walked) (tree : TableTree) (t : State) : Type 0 where
  pub units : ℕ
  pub same : (n : ℕ) → follow table w n ≡ region_run table tree t (units + n)

-- the walk of a grafted tree is the region's run from the values of the homes
unfoldable pub FollowsRun : Table → Option ℕ → ℕ → TableTree → Type 0
FollowsRun table loop tag tree =
    (names : Supply) (homes : ℕ → Operand) (s : State) → HomesBelow names.next homes
    → Later table (walk table.arrays (graft table loop tag tree names homes).tree s) tree (state_at homes s)

module _ (table : Table) (keeps : TableKeeps table) (loop : Option ℕ) (tag : ℕ) where
  later_item : (origin : ℕ) (item given : Item) (rest : TableTree) (below : Tree) (s t : State)
      → fault_of table.arrays s (given ∷ []) ≡ fault_of table.arrays t (item ∷ [])
      → prints_of s (given ∷ []) ≡ prints_of t (item ∷ [])
      → Later table (walk table.arrays below (state_after table.arrays s (given ∷ []))) rest (state_after table.arrays t (item ∷ []))
      → Later table (walk table.arrays (Pending tag origin given below) s) (Does origin item rest) t
  later_item origin item given rest below s t fault prints later = record {
    units = suc later.units;
    same = λ n.
        let w = walk table.arrays below (state_after table.arrays s (given ∷ [])) in
        let place : Place = record { tree = Does origin item rest; state = t } in
        ap (λ (f : Option MachineFault). follow table (done_first f (prints_of s (given ∷ [])) w) n) fault
        ∙ stepped table item t rest (prints_of s (given ∷ [])) w later.units (fault_of table.arrays t (item ∷ [])) prints later.same n
        ∙ sym (one_more table place later.units n);
  }

  followed_copy : (origin variable : ℕ) (source : Operand) (rest : TableTree) (names : Supply) (homes : ℕ → Operand) (s : State)
      → HomesBelow names.next homes → FollowsRun table loop tag rest
      → Later table (walk table.arrays (graft table loop tag rest names (changed homes variable (at_home homes source))).tree s) (Does origin (Copy variable source) rest) (state_at homes s)
  unfolding FollowsRun
  followed_copy origin variable source rest names homes s below follows =
      let homes' = changed homes variable (at_home homes source) in
      let w = walk table.arrays (graft table loop tag rest names homes').tree s in
      let later = follows names homes' s (HomesBelow-changed names.next homes variable (at_home homes source) (at_home_below names.next homes source below) below) in
      record {
        units = suc later.units;
        same = λ n.
            let place : Place = record { tree = Does origin (Copy variable source) rest; state = state_at homes s } in
            later.same n
            ∙ ap (λ (t : State). region_run table rest t (later.units + n)) (after_copy table.arrays homes s variable source)
            ∙ sym (one_more table place later.units n);
      }

  followed_item : (origin : ℕ) (item : Item) (rest : TableTree) (names : Supply) (homes : ℕ → Operand) (s : State) → HomesBelow names.next homes
      → (b : Brought) → Does_same table.arrays names homes s item b → FollowsRun table loop tag rest
      → Later table (walk table.arrays (graft_item tag origin b names homes (graft table loop tag rest)).tree s) (Does origin item rest) (state_at homes s)
  unfolding FollowsRun
  followed_item origin item rest names homes s below (Moves_home variable from) g follows =
      subst (λ (i : Item). Later table (walk table.arrays (graft table loop tag rest names (changed homes variable from)).tree s) (Does origin i rest) (state_at homes s)) (sym g.item_is)
      (subst (λ (o : Operand). Later table (walk table.arrays (graft table loop tag rest names (changed homes variable o)).tree s)
      (Does origin (Copy variable g.source) rest) (state_at homes s)) (sym g.from_is)
      (followed_copy origin variable g.source rest names homes s below follows))
  followed_item origin item rest names homes s below (Gets_name variable given form) g follows =
      let names' = with_name names form in
      let homes' = changed homes variable (Name names.next) in
      let s' = state_after table.arrays s (given ∷ []) in
      let later = follows names' homes' s' (HomesBelow-new names form homes variable below) in
      later_item origin item given rest (graft table loop tag rest names' homes').tree s (state_at homes s)
      (Alike-fault table.arrays s given (state_at homes s) item g.alike) (Alike-prints s given (state_at homes s) item g.alike)
      (subst (λ (t : State). Later table (walk table.arrays (graft table loop tag rest names' homes').tree s') rest t) (after_gives table.arrays names homes s item variable given below g) later)
  followed_item origin item rest names homes s below (Stays_plain given) g follows =
      let s' = state_after table.arrays s (given ∷ []) in
      let later = follows names homes s' below in
      later_item origin item given rest (graft table loop tag rest names homes).tree s (state_at homes s)
      (Alike-fault table.arrays s given (state_at homes s) item g.alike) (Alike-prints s given (state_at homes s) item g.alike)
      (subst (λ (t : State). Later table (walk table.arrays (graft table loop tag rest names homes).tree s') rest t) (after_plain table.arrays names homes s item given g) later)

  followed_test : (origin : ℕ) (on : Operand) (one other : TableTree) (at : Operand) (one_below other_below : Tree) (s t : State)
      → operand_value s.names at ≡ operand_value t.names on → (b : Bool) → holds (operand_value t.names on) ≡ b
      → Later table (walk table.arrays one_below s) one t → Later table (walk table.arrays other_below s) other t
      → Later table (walk table.arrays (Undecided tag origin at one_below other_below) s) (Asks origin on one other) t
  followed_test origin on one other at one_below other_below s t value true e l m = record {
    units = suc l.units;
    same = λ n.
        let place : Place = record { tree = Asks origin on one other; state = t } in
        ap (λ (z : ℤ). follow table (side_of z (walk table.arrays one_below s) (walk table.arrays other_below s)) n) value
        ∙ ap (λ (c : Bool). follow table (if c then walk table.arrays one_below s else walk table.arrays other_below s) n) e
        ∙ l.same n
        ∙ ap (λ (c : Bool). run_from (region_step table) (l.units + n) (place_at table (if c then one else other) t)) (sym e)
        ∙ sym (one_more table place l.units n);
  }
  followed_test origin on one other at one_below other_below s t value false e l m = record {
    units = suc m.units;
    same = λ n.
        let place : Place = record { tree = Asks origin on one other; state = t } in
        ap (λ (z : ℤ). follow table (side_of z (walk table.arrays one_below s) (walk table.arrays other_below s)) n) value
        ∙ ap (λ (c : Bool). follow table (if c then walk table.arrays one_below s else walk table.arrays other_below s) n) e
        ∙ m.same n
        ∙ ap (λ (c : Bool). run_from (region_step table) (m.units + n) (place_at table (if c then one else other) t)) (sym e)
        ∙ sym (one_more table place m.units n);
  }

  -- the walk of a grafted tree is the region's run from the values of the homes
  pub followed : (tree : TableTree) → FollowsRun table loop tag tree
  unfolding FollowsRun
  followed (Does origin item rest) names homes s below =
      followed_item origin item rest names homes s below (brought names homes item) (brought_same table.arrays names homes s item) (followed rest)
  followed (Asks origin on on_yes on_no) names homes s below =
      let after = (graft table loop tag on_yes names homes).names in
      followed_test origin on on_yes on_no (at_home homes on) (graft table loop tag on_yes names homes).tree (graft table loop tag on_no after homes).tree s (state_at homes s)
      (at_home_value homes s on) (holds (operand_value (state_at homes s).names on)) refl
      (followed on_yes names homes s below)
      (followed on_no after homes s (HomesBelow-later names.next after.next homes (graft-extends table loop tag on_yes names homes).next below))
  followed (Next region) names homes s below = record {
    units = 0;
    same = λ n.
        run_same table keeps n (region_tree table region) (state_at (home_of (homes_at homes (region_live table region))) s) (state_at homes s)
        (λ x p. ap (operand_value s.names) (home_of-homes_at homes (region_live table region) x (keeps.live region x p))) refl
        ∙ ap (λ (k : ℕ). run_from (region_step table) k (place_at table (Next region) (state_at homes s))) (sym (zero-add n));
  }
  followed Stops_here names homes s below = record {
    units = 1;
    same = λ n. let place : Place = record { tree = Stops_here; state = state_at homes s } in sym (one_more table place 0 n);
  }
  followed (Traps_here kind line) names homes s below = record {
    units = 1;
    same = λ n. let place : Place = record { tree = Traps_here kind line; state = state_at homes s } in sym (one_more table place 0 n);
  }
