-- The search from a region that is a trap alone: one window, in which nothing is left to do.
use Rattle.std.proofs.Common.{◌≡◌, ℕ, zero, suc, ◌+◌, ◌≤◌, List, [], ◌∷◌, length, refl, sym, ◌∙◌, ap, subst, arith}
use Rattle.std.specs.Prelude.{Bool, true, false, if◌then◌else◌, nat_lt, Option, Some, None, slice_get}
use Rattle.pc_word.specs.declared.item.Item.{Item}
use Rattle.pc_word.specs.declared.item.Limits.{Limits}
use Rattle.pc_word.specs.declared.item.Operand.{Operand}
use Rattle.pc_word.specs.declared.item.TrapKind.{TrapKind}
use Rattle.pc_word.specs.Row.{Row, At_leaf, leaves_of}
use Rattle.pc_linear.specs.Form.{Form}
use Rattle.pc_table.specs.Table.{TableTree, Traps_here, Table, region_tree}
use Rattle.pc_window.specs.Tree.{Tree, Trap_exit, Front, Unfinished}
use Rattle.pc_window.specs.Opening.{first_supply, first_home, graft}
use Rattle.pc_window.specs.Jump.{Rises, Root, Past_item, Past_yes, Past_no, DividesTree, Root_test, Past}
use Rattle.pc_window.specs.Jump.{EntersFront, Lands, Lands_renamed, Lands_test, Lands_once, Behind_item, On_yes, On_no}
use Rattle.pc_window.specs.Filled.{Full}
use Rattle.pc_window.specs.Unwinding.{unwound_below, unwinds_no_more}
use Rattle.pc_window.specs.WindowRun.{Window}
use Rattle.pc_window.specs.Kept.{Left, Rest, Trapped_at}
use Rattle.pc_table.specs.Loops.{innermost_loop}
use Rattle.pc_window.specs.Steps.{grafted_of, Opens, opened_window, window_of}
use Rattle.pc_automaton.specs.declared.automaton.AutomatonLeaf.{AutomatonLeaf}
use Rattle.pc_automaton.specs.declared.automaton.AutomatonLeaf.TheVariants.{Trap}
use Rattle.pc_automaton.specs.Automaton.{AutomatonState}
use Rattle.pc_pattern.specs.NamedRow.{RowsNamed, named_leaf}
use Rattle.pc_pattern.specs.Searches.{Rules, RowFor, Settles, LeafFor, to_trap, StateFor, Search, begins, takes, looks, IsPattern, HasNoPattern}
use Rattle.pc_pattern.specs.Searches.{Looks, looks_new, looks_known, looks_bare, looks_out, looks_end, looks_trap}
use Rattle.pc_pattern.specs.Laws.{trap_state, TrapsHaveOneState}
use Rattle.pc_pattern.proofs.Determinism.{settles_one, row_one}

-- nothing comes out of a trap
never_rises : {forms : ℕ → Form} {tag origin : ℕ} {stood x : Item} {crosses : Bool} {from left : Tree} (kind : TrapKind) (line : ℕ)
    → Rises forms tag origin stood x crosses from left → from ≡ Trap_exit kind line → ⊥
never_rises kind line (Root rest unwritten) e = cc
never_rises kind line (Past_item t o y crosses rest left clear apart rises) e = cc
never_rises kind line (Past_yes t o on crosses on_yes on_no left is unwritten rises) e = cc
never_rises kind line (Past_no t o on crosses on_yes on_no left is unwritten rises) e = cc

never_divides : {tag origin : ℕ} {on : Operand} {from on_yes on_no : Tree} (kind : TrapKind) (line : ℕ)
    → DividesTree tag origin on from on_yes on_no → from ≡ Trap_exit kind line → ⊥
never_divides kind line (Root_test on_yes on_no) e = cc
never_divides kind line (Past t o y rest on_yes on_no divides) e = cc

-- so nothing comes into a front that is a trap alone
no_entry : {known : ℕ → Bool} {forms forms' : ℕ → Form} {new : Option ℕ} {comes : Option Item} {from to : Front} (kind : TrapKind) (line : ℕ)
    → EntersFront known forms forms' new comes from to → from ≡ Unfinished (Trap_exit kind line) → ⊥
no_entry kind line (Lands tag origin x from left reads isnew none same rises) e =
    never_rises kind line rises (let inner : from ≡ Trap_exit kind line = cc in inner)
no_entry kind line (Lands_renamed tag origin name stood from left reads isnew is gives rises) e =
    never_rises kind line rises (let inner : from ≡ Trap_exit kind line = cc in inner)
no_entry kind line (Lands_test tag origin on from on_yes on_no reads none same divides) e =
    never_divides kind line divides (let inner : from ≡ Trap_exit kind line = cc in inner)
no_entry kind line (Lands_once t o on tag origin tag' origin' name stood other crosses crosses' on_yes on_no yes_left no_left equal reads isnew is gives rises rises') e = cc
no_entry kind line (Behind_item t o y comes rest rest' may apart enters) e = cc
no_entry kind line (On_yes t o on comes on_yes on_no on_yes' apart enters) e = cc
no_entry kind line (On_no t o on comes on_yes on_no on_no' apart enters) e = cc

module _ (rules : Rules) (region : ℕ) (kind : TrapKind) (line : ℕ) (is : region_tree rules.table region ≡ Traps_here kind line) where
  abbrev table : Table
  table = rules.table

  abbrev limits : Limits
  limits = rules.limits

  -- the window of the trap
  abbrev trap_window : Window
  trap_window = window_of (Trap_exit kind line) first_supply limits (innermost_loop table region)

  opened_is : opened_window table limits region ≡ trap_window
  opened_is = ap (λ (t : TableTree). window_of (graft table (innermost_loop table region) 0 t first_supply first_home).tree
      (graft table (innermost_loop table region) 0 t first_supply first_home).names limits (innermost_loop table region)) is

  -- its row is the trap
  trap_row : RowFor rules trap_window (At_leaf (Trapped_at kind line))
  trap_row = record {
    filled = trap_window;
    fills = Full trap_window (λ v jump. no_entry kind line jump.enters refl);
    cuts = refl;
  }

  -- a search from it has no other window, and looks at no other leaf
  record OnlyTrap (members : List Window) (lefts : List Left) : Type 0 where
    alone : members ≡ trap_window ∷ []
    leaves : length lefts ≤ 1
    trapped : (left : Left) (rest : List Left) → lefts ≡ left ∷ rest → left ≡ Trapped_at kind line

  none_left : (members : List Window) → members ≡ trap_window ∷ [] → OnlyTrap members []
  none_left members alone = record { alone = alone; leaves = omega arith; trapped = λ left rest e. absurd (cc) }

  one_left : (members : List Window) (lefts : List Left) → members ≡ trap_window ∷ [] → lefts ≡ Trapped_at kind line ∷ [] → OnlyTrap members lefts
  one_left members lefts alone e = record {
    alone = alone;
    leaves = (let n = ap (λ (l : List Left). length l) e in omega (arith, n));
    trapped = λ left rest same. (let both : left ∷ rest ≡ Trapped_at kind line ∷ [] = sym same ∙ e in cc);
  }

  -- nothing is unwound in it
  no_step : (b : Bool) → (if b then None else unwound_below table (innermost_loop table region) (0 + rules.number) None (grafted_of trap_window)) ≡ None
  no_step true = refl
  no_step false = refl

  trap_settles : Settles rules (opened_window table limits region) trap_window
  trap_settles = subst (λ (w : Window). Settles rules w trap_window) (sym opened_is) (record {
    unwound = trap_window;
    unwinds = record { unwound = grafted_of trap_window; unwinds = unwinds_no_more (grafted_of trap_window) (no_step (nat_lt rules.number 2)); is = refl };
    tidies = refl;
  })

  first_is : (opened first : Window) → Opens table limits region opened → Settles rules opened first → first ≡ trap_window
  first_is opened first opens settles =
      settles_one rules (opened_window table limits region) first trap_window
      (subst (λ (w : Window). Settles rules w first) opens settles) trap_settles

  member_is : (members : List Window) (number : ℕ) (w : Window) → members ≡ trap_window ∷ [] → slice_get members number ≡ Some w → w ≡ trap_window
  member_is members number w alone at = by number (ap (λ (l : List Window). slice_get l number) (sym alone) ∙ at)
    where
      by : (number : ℕ) → slice_get (trap_window ∷ []) number ≡ Some w → w ≡ trap_window
      by zero e = cc
      by (suc number) e = absurd (cc)

  adds_none : (members more : List Window) (left : Left) → left ≡ Trapped_at kind line → Looks rules members left more → more ≡ members
  adds_none members more left e (looks_new {rest} p items new renumbers) = absurd (let f : Rest rest ≡ Trapped_at kind line = e in cc)
  adds_none members more left e (looks_known p items known) = refl
  adds_none members more left e (looks_bare p bare) = refl
  adds_none members more left e looks_out = refl
  adds_none members more left e looks_end = refl
  adds_none members more left e looks_trap = refl

  only_trap : {steps number : ℕ} {members : List Window} {lefts : List Left} → Search rules region steps members number lefts
      → OnlyTrap members lefts
  only_trap (begins {opened} {first} opens settles) = none_left (first ∷ []) (ap (λ (w : Window). w ∷ []) (first_is opened first opens settles))
  only_trap (takes {number} {members} {w} {row} search at row_for) =
      let h = only_trap search in
      let same = member_is members number w h.alone at in
      let row_is = row_one rules trap_window row (At_leaf (Trapped_at kind line))
      (subst (λ (v : Window). RowFor rules v row) same row_for) trap_row in
      one_left members (leaves_of row) h.alone (ap (λ (r : Row Left). leaves_of r) row_is)
  only_trap (looks {members} {more} {left} {lefts} search adds) =
      let h = only_trap search in
      let few = h.leaves in
      let same = adds_none members more left (h.trapped left lefts refl) adds in
      subst (λ (l : List Left). OnlyTrap more l) (sym (none_of lefts (omega (arith, few)))) (none_left more (same ∙ h.alone))
    where
      none_of : (xs : List Left) → length xs ≤ 0 → xs ≡ []
      none_of [] le = refl
      none_of (x ∷ xs) le = absurd (omega (arith, le))

  -- so there are never more members than one
  never_many : (rows : ℕ) → 1 ≤ rows → HasNoPattern rules region rows → ⊥
  never_many rows some p =
      let h = only_trap p.reached.3 in
      let n = ap (λ (l : List Window). length l) h.alone in
      let many = p.many in
      omega (arith, some, n, many)

  -- and the state of the one is the trap
  state_is : (members : List Window) (state : AutomatonState) → StateFor rules members trap_window state → state ≡ trap_state kind line
  state_is members state for_w =
      let cut_is = row_one rules trap_window for_w.cut (At_leaf (Trapped_at kind line)) for_w.row_for trap_row in
      let row_is = row_of_trap state.row (subst (λ (r : Row Left). RowsNamed (LeafFor rules members) [] r state.row) cut_is for_w.matches) in
      λ i. record { parameters = for_w.parameters i; row = row_is i }
    where
      leaf_of_trap : (leaf : AutomatonLeaf) → LeafFor rules members [] (Trapped_at kind line) leaf → leaf ≡ Trap kind line
      leaf_of_trap leaf to_trap = refl

      row_of_trap : (row : Row AutomatonLeaf) → RowsNamed (LeafFor rules members) [] (At_leaf (Trapped_at kind line)) row
          → row ≡ At_leaf (Trap kind line)
      row_of_trap row (named_leaf {other} leads) = ap (λ (l : AutomatonLeaf). At_leaf l) (leaf_of_trap other leads)

  states_are : (rows : ℕ) (states : List AutomatonState) → IsPattern rules region rows states → states ≡ trap_state kind line ∷ []
  states_are rows states p =
      let alone = (only_trap p.closed.1).alone in
      let one = ap (λ (l : List Window). length l) alone in
      let many = p.automates.as_many in
      let first = p.automates.each 0 trap_window (ap (λ (l : List Window). slice_get l 0) alone) in
      by states (omega (arith, one, many)) first.0 first.1 (state_is p.members first.0 first.2)
    where
      by : (states : List AutomatonState) → length states ≡ 1 → (state : AutomatonState) → slice_get states 0 ≡ Some state
          → state ≡ trap_state kind line → states ≡ trap_state kind line ∷ []
      by [] n state at same = absurd (omega (arith, n))
      by (s ∷ []) n state at same = ap (λ (x : AutomatonState). x ∷ []) (let e : s ≡ state = cc in e ∙ same)
      by (s ∷ t ∷ more) n state at same = absurd (omega (arith, n))

pub traps_have_one_state : TrapsHaveOneState
traps_have_one_state rules region line kind is rows some =
    (never_many rules region kind line is rows some, states_are rules region kind line is rows)
