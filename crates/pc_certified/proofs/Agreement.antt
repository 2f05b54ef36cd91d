-- A code that claims show agrees with its table.
use Rattle.std.proofs.Common.{◌≡◌, ℕ, ◌+◌, ◌≤◌, List, [], ◌∷◌, ◌++◌, Option, Some, None, refl, sym, ◌∙◌, ap, subst, ◌⊎◌, inl, inr, arith}
use Rattle.std.specs.Prelude.{ℤ, pos, Contains}
use Rattle.pc_word.specs.declared.item.Item.{Item}
use Rattle.pc_word.specs.declared.item.End.TheVariants.{Ended, Trapped}
use Rattle.pc_word.specs.Run.{Seen, Run, NeverFaults, Agree, after_printing, run_from}
use Rattle.pc_word.proofs.Runs.{Agree-trans, Agree-sym, run_from-grows}
use Rattle.pc_word.specs.State.{State, start_state}
use Rattle.pc_word.specs.Commit.{prints_of, state_after}
use Rattle.pc_word.specs.Row.{RowOutcome, path_of, row_step}
use Rattle.pc_word.specs.declared.item.Item.TheVariants.{Copy}
use Rattle.pc_table.specs.Table.{Table, Next}
use Rattle.pc_table.specs.RegionRun.{table_run, region_step, place_at}
use Rattle.pc_table.specs.TableKeeps.{TableKeeps}
use Rattle.pc_machine.specs.declared.tree.Leaf.{Leaf}
use Rattle.pc_machine.specs.declared.tree.Leaf.TheVariants.{Goto}
use Rattle.pc_machine.specs.MachineCode.{CodeRow, RowCode}
use Rattle.pc_machine.specs.MachineRun.{Cycle, follow_leaf, after_row, run_row, machine_step, machine_run}
use Rattle.pc_window.specs.declared.home.Home.{Home}
use Rattle.pc_window.specs.Tree.{Exit, Tree, whole, home_state}
use Rattle.pc_window.specs.Walk.{Walked, IsWhole, walk, after_item}
use Rattle.pc_window.specs.WindowRun.{Window, follow, FormsHold}
use Rattle.pc_window.specs.Unwinding.{front_tag}
use Rattle.pc_window.specs.Steps.{IsProper, Positive, opened_window, front_row}
use Rattle.pc_window.proofs.Openings.{Agree-later}
use Rattle.pc_certified.specs.Facts.{Fact, StatesMatch, EachFact}
use Rattle.pc_certified.specs.Claims.{Claim, ArrivesAt, MakesProgress}
use Rattle.pc_certified.specs.LeafAgrees.{FactInRegion, LeafAgreesInRegion, LeafAgrees, leaf_ends, leaf_traps, leaf_arrives, leaf_changes, leaf_copies, leaf_enters}
use Rattle.pc_certified.specs.Shows.{AgreesAtLeaf, Shows}
use Rattle.pc_certified.specs.Laws.{ShownCodesAgree, ShownCodesAgreeOnInputs}
use Rattle.pc_certified.proofs.Progress.{Nearer, OneCycle, ends, goes, Progresses, agrees}
use Rattle.pc_certified.proofs.OneRow.{row_done}
use Rattle.pc_certified.proofs.MarkedWalks.{printed_in, level_in, MarkedWalk, marked_walk}
use Rattle.pc_certified.proofs.Onward.{follow_grows, follow_whole}
use Rattle.pc_certified.proofs.WindowChanges.{change_kept, marks}
use Rattle.pc_certified.proofs.Bases.{tags_positive, tags_from_front}
use Rattle.pc_certified.proofs.Opened.{OpenedAt, opened_at}
use Rattle.pc_certified.proofs.Nearer.{first_shown, shown_first, none_shown, seen_before, pending_nearer, level_nearer}
use Rattle.pc_certified.proofs.Leaving.{Behind, nil_first, behind_going, behind_then, copy_kept, behind_copy, left_on}
use Rattle.pc_certified.proofs.InRegion.{copy_alike, region_alike, ends_there, region_leads}
use Rattle.pc_certified.proofs.Arrivals.{own_marks, free_none, none_free, Arrived, arrived}

module _ (table : Table) (keeps : TableKeeps table) (initial : List (List ℤ)) (code : RowCode) (claims : List Claim) (room : Positive code.limits)
    (shows : Shows table initial code claims) where
  -- where the machine is at a claim, and its state matches one of the claim's window
  record Place : Type 0 where
    claim : Claim
    among : Contains claims claim
    machine : State
    window : State
    alike : StatesMatch claim.facts machine window
    forms : FormsHold table claim.window window
    never : NeverFaults (follow table (walk table.arrays (whole claim.window.front) window))

  abbrev tree_of : Place → Tree
  tree_of p = whole p.claim.window.front

  abbrev base_of : Place → ℕ
  base_of p = front_tag (tree_of p)

  abbrev cycle : Place → Cycle
  cycle p = record { row = p.claim.row; state = p.machine }

  abbrev free : Place → Run
  free p = follow table (walk table.arrays (tree_of p) p.window)

  abbrev shown : Place → Walked
  shown p = own_marks table p.claim.window p.window

  abbrev pending : Place → Option ℕ
  pending p = first_shown (printed_in (shown p))

  abbrev level : Place → ℕ
  level p = level_in (shown p)

  abbrev rank : Place → ℕ
  rank p = p.claim.rank

  abbrev CycleAt : Place → Type 0
  CycleAt p = OneCycle (machine_step code) cycle free pending level rank p

  -- ---- what is pending, and what is printed at once

  ok : (p : Place) → IsWhole (walk table.arrays (tree_of p) p.window)
  ok p = follow_whole table (walk table.arrays (tree_of p) p.window) p.never

  marked_ok : (p : Place) → MarkedWalk (walk table.arrays (tree_of p) p.window) (shown p)
  marked_ok p = marked_walk table.arrays (base_of p) 0 (tree_of p) p.window (ok p)

  none_pending : (p : Place) → pending p ≡ None → (free p 0).printed ≡ []
  none_pending p e =
      free_none table (walk table.arrays (tree_of p) p.window)
      ((marked_ok p).only (none_shown (printed_in (shown p)) (tags_positive table.arrays (base_of p) 0 (tree_of p) p.window (tags_from_front (tree_of p))) e))

  some_pending : (p : Place) (t : ℕ) → pending p ≡ Some t → (free p 0).printed ≡ [] → ⊥
  some_pending p t e none =
      let empty = (marked_ok p).none (none_free table (walk table.arrays (tree_of p) p.window) none) in
      let bad : first_shown [] ≡ Some t = sym (ap first_shown empty) ∙ e in
      cc

  -- ---- a leaf leads on

  module _ (p : Place) (out : List ℤ) (machine : State) where
    abbrev here : Tree
    here = tree_of p

    abbrev base : ℕ
    base = base_of p

    abbrev IsBehind : Window → State → Type 0
    IsBehind w s = Behind table keeps base here p.window out s (whole w.front)

    abbrev StepIs : Leaf → Type 0
    StepIs leaf = machine_step code (cycle p) ≡ follow_leaf out machine leaf

    -- a place from what a claim's window goes on as
    place_at_entry : (target : Claim) (t : State) (units : ℕ) → Contains claims target → StatesMatch target.facts machine t → FormsHold table target.window t
        → ((n : ℕ) → free p (units + n) ≡ after_printing out (follow table (walk table.arrays (whole target.window.front) t) n)) → Place
    place_at_entry target t units among alike forms same = record {
      claim = target;
      among = among;
      machine = machine;
      window = t;
      alike = alike;
      forms = forms;
      never = λ n fault e. p.never (units + n) fault (ap (λ (x : Seen). x.end) (same n) ∙ e);
    }

    -- to a claim at which the window arrives
    module _ (w : Window) (s : State) (held : List Fact) (target : Claim) (among : Contains claims target) (near : MakesProgress p.claim w target) (arrives : ArrivesAt w held target)
        (forms : FormsHold table w s) (alike : StatesMatch held machine s) (b : IsBehind w s) where
      arrives_there : Arrived table w s target machine
      arrives_there = arrived table w s target machine held forms alike arrives

      same_there : (n : ℕ) → free p (b.units + n) ≡ after_printing out (follow table (walk table.arrays (whole target.window.front) arrives_there.state) n)
      same_there n = b.same n ∙ ap (λ (v : Walked). after_printing out (follow table v n)) (sym arrives_there.same)

      next_place : Place
      next_place = place_at_entry target arrives_there.state b.units among arrives_there.alike arrives_there.forms same_there

      abbrev to : Tree
      to = whole w.front

      never_w : NeverFaults (follow table (walk table.arrays to s))
      never_w n fault e = p.never (b.units + n) fault (ap (λ (x : Seen). x.end) (b.same n) ∙ e)

      next_printing : out ≡ [] → (t : ℕ) → pending p ≡ Some t → (u : ℕ) × (pending next_place ≡ Some u) × Nearer t u (rank p) (rank next_place)
      unfolding next_place place_at_entry
      next_printing none t e =
          let k = shown_first (printed_in (shown p)) t e in
          let before : printed_in (seen_before table.arrays here to s (rank p) (rank next_place)) ≡ pos t ∷ (k.0 ++ b.more) =
          b.tags none ∙ ap (λ (l : List ℤ). l ++ b.more) k.1 in
          let h = pending_nearer table.arrays here to s (rank p) (rank next_place) near b.from t (k.0 ++ b.more) before in
          (h.0, ap (λ (v : Walked). first_shown (printed_in v)) arrives_there.marks_same ∙ h.1, h.2)

      next_levels : ((1 ≤ b.units) × ((free p 0).end ≡ None)) ⊎ Nearer (level p) (level next_place) (rank p) (rank next_place)
      unfolding next_place place_at_entry
      next_levels = by_level b.level
        where
          by_level : (level_in (marks table keeps base to s) ≤ level p) ⊎ ((1 ≤ b.units) × ((free p 0).end ≡ None))
              → ((1 ≤ b.units) × ((free p 0).end ≡ None)) ⊎ Nearer (level p) (level next_place) (rank p) (rank next_place)
          by_level (inr f) = inl f
          by_level (inl f) =
              let h = level_nearer table.arrays here to s (rank p) (rank next_place) near b.from (follow_whole table (walk table.arrays to s) never_w) (level p) f in
              inr (subst (λ (k : ℕ). Nearer (level p) k (rank p) (rank next_place)) (sym (ap level_in arrives_there.marks_same)) h)

      to_entry : StepIs (Goto target.row) → CycleAt p
      unfolding next_place place_at_entry
      to_entry step = goes out next_place b.units step same_there next_printing next_levels

    -- to what a region comes to that is entered
    module _ (w : Window) (s : State) (held entered : List Fact) (leaf : Leaf) (region tag : ℕ) (homes : List Home) (is : whole w.front ≡ Exit region tag homes)
        (each : EachFact entered (FactInRegion held homes)) (more : LeafAgreesInRegion table code.limits claims entered leaf (opened_window table code.limits region))
        (alike : StatesMatch held machine s) (b : IsBehind w s) where
      abbrev t : State
      t = home_state s homes

      o : OpenedAt table keeps code.limits room region t
      o = opened_at table keeps code.limits room region t

      nothing_pending : out ≡ [] → (k : ℕ) → pending p ≡ Some k → ⊥
      nothing_pending none k e =
          let marks_none : printed_in (marks table keeps base (whole w.front) s) ≡ [] = ap (λ (u : Tree). printed_in (marks table keeps base u s)) is in
          let empty = nil_first table keeps base (printed_in (shown p)) b.more (sym marks_none ∙ b.tags none) in
          let bad : first_shown [] ≡ Some k = sym (ap first_shown empty) ∙ e in cc

      going : (free p 0).end ≡ None
      going = behind_going table keeps base here p.window out s (whole w.front) b.units b.same (ap (λ (u : Tree). (follow table (walk table.arrays u s) 0).end) is)

      same_region : (n : ℕ) → free p ((b.units + o.units) + n) ≡ after_printing out (follow table (walk table.arrays (whole (opened_window table code.limits region).front) t) n)
      same_region n =
          let i = b.units in
          let j = o.units in
          ap (free p) (let e : (i + j) + n ≡ i + (j + n) = omega arith in e) ∙ b.same (j + n)
          ∙ ap (λ (u : Tree). after_printing out (follow table (walk table.arrays u s) (j + n))) is ∙ ap (λ (x : Seen). after_printing out x) (sym (o.same n))

      at_entry : (target : Claim) (u : State) (units : ℕ) → Contains claims target → StatesMatch target.facts machine u → FormsHold table target.window u → 1 ≤ units
          → ((n : ℕ) → free p (units + n) ≡ after_printing out (follow table (walk table.arrays (whole target.window.front) u) n)) → StepIs (Goto target.row) → CycleAt p
      unfolding place_at_entry
      at_entry target u units among alike forms one same step =
          goes out (place_at_entry target u units among alike forms same) units step same (λ none k e. absurd (nothing_pending none k e)) (inl (one, going))

      to_region : StepIs leaf → CycleAt p
      to_region =
          let one = o.one in
          region_leads table keeps code.limits room claims (free p) p.never out machine (λ (l : Leaf). StepIs l → CycleAt p)
          (λ units same step. ends out Ended units step same)
          (λ kind line units same step. ends out (Trapped kind line) units step same)
          at_entry more t o.proper o.forms (region_alike table.arrays held entered homes machine s alike each) (b.units + o.units) (omega (arith, one)) same_region

    leads : {held : List Fact} {leaf : Leaf} {w : Window} → LeafAgrees table code.limits claims p.claim held leaf w → (s : State) → IsProper w → FormsHold table w s
        → StatesMatch held machine s → IsBehind w s → StepIs leaf → CycleAt p
    leads (leaf_ends {w} is) s proper forms alike b step =
        ends out Ended b.units step (λ n. b.same n ∙ ends_there table out Ended (walk table.arrays (whole w.front) s) (ap (λ (u : Tree). walk table.arrays u s) is) n)
    leads (leaf_traps {w} {kind} {line} is) s proper forms alike b step =
        ends out (Trapped kind line) b.units step (λ n. b.same n ∙ ends_there table out (Trapped kind line) (walk table.arrays (whole w.front) s) (ap (λ (u : Tree). walk table.arrays u s) is) n)
    leads (leaf_arrives {held} {w} target among near arrives) s proper forms alike b step = to_entry w s held target among near arrives forms alike b step
    leads (leaf_changes {w} {v} one more) s proper forms alike b step =
        let k = change_kept table keeps base w v s one proper forms (λ n fault e. p.never (b.units + n) fault (ap (λ (x : Seen). x.end) (b.same n) ∙ e)) in
        leads more s k.proper k.forms alike (behind_then table keeps base here p.window out s w v b k) step
    leads (leaf_copies {held} {after} {w} tag origin name from rest is each more) s proper forms alike b step =
        let k = copy_kept table keeps base w s tag origin name from rest is proper forms in
        leads more (after_item table.arrays (Copy name from) s) k.proper k.forms (copy_alike table.arrays held after name from machine s alike each)
        (behind_copy table keeps base here p.window out s w name from rest b k) step
    leads (leaf_enters {held} {inside} {leaf} {w} region tag homes is each more) s proper forms alike b step =
        to_region w s held inside leaf region tag homes is each more alike b step

  -- ---- one cycle

  one_cycle : (p : Place) → CycleAt p
  one_cycle p =
      let is = shows.each p.claim p.among in
      let against = front_row (λ (tree : Tree). tree) p.claim.arranged.front in
      let left = left_on table keeps (base_of p) p.claim p.window is.proper p.forms p.never (tags_from_front (tree_of p)) is.changes in
      let AtLeaf = λ (items others : List Item) (leaf : Leaf) (rest : Tree). AgreesAtLeaf table code.limits claims p.claim items others leaf rest in
      let done = row_done p.claim.facts AtLeaf table.arrays p.machine p.window p.alike is.row against is.does left.no_fault in
      let items = path_of p.machine.names is.row in
      let others = path_of p.window.names against in
      let after = done.after in
      let at = done.at in
      leads p (prints_of p.window others) (state_after table.arrays p.machine items) at.2 (state_after table.arrays p.window others) left.proper left.forms
      (record { held = λ fact among. after.held fact (at.1 fact among); cells = after.cells; input = after.input }) left.behind
      (ap (λ (o : Option CodeRow). run_row code.arrays p.machine o) is.at
      ∙ ap (λ (lengths : List ℕ). after_row (row_step lengths is.row p.machine)) shows.arrays
      ∙ ap (λ (o : RowOutcome Leaf). after_row o) done.outcome)

  goes_on : Progresses (machine_step code) cycle free pending level rank
  goes_on = record {
    one_cycle = one_cycle;
    grows = λ p. follow_grows table (walk table.arrays (tree_of p) p.window);
    none = none_pending;
    some = some_pending;
  }

  -- ---- from the start

  module _ (input : List ℤ) (never : NeverFaults (table_run table initial input)) where
    abbrev start : State
    start = start_state initial input

    opened_start : OpenedAt table keeps code.limits room 0 start
    opened_start = opened_at table keeps code.limits room 0 start

    abbrev AgreeFrom : Leaf → Type 0
    AgreeFrom leaf = leaf ≡ Goto 0 → Agree (table_run table initial input) (machine_run code input)

    from_entry : (target : Claim) (t : State) (units : ℕ) → Contains claims target → StatesMatch target.facts start t → FormsHold table target.window t → 1 ≤ units
        → ((n : ℕ) → table_run table initial input (units + n) ≡ after_printing [] (follow table (walk table.arrays (whole target.window.front) t) n)) → AgreeFrom (Goto target.row)
    from_entry target t units among alike forms one same is =
        let p : Place = record {
          claim = target;
          among = among;
          machine = start;
          window = t;
          alike = alike;
          forms = forms;
          never = λ n fault e. never (units + n) fault (ap (λ (x : Seen). x.end) (same n) ∙ e);
        } in
        let later : Agree (free p) (table_run table initial input) =
        Agree-later (free p) (table_run table initial input) units (run_from-grows (region_step table) (place_at table (Next 0) (start_state initial input))) (λ n. sym (same n)) in
        let runs : Agree (free p) (λ n. run_from (machine_step code) n (cycle p)) = agrees (machine_step code) cycle free pending level rank goes_on p in
        let at_row : target.row ≡ 0 = cc in
        subst (λ (words : List (List ℤ)). Agree (table_run table initial input) (λ n. run_from (machine_step code) n (record { row = 0; state = start_state words input })))
        (sym shows.initial)
        (subst (λ (r : ℕ). Agree (table_run table initial input) (λ n. run_from (machine_step code) n (record { row = r; state = start_state initial input }))) at_row
        (Agree-trans (table_run table initial input) (free p) (λ n. run_from (machine_step code) n (cycle p)) (Agree-sym (free p) (table_run table initial input) later) runs))

    pub agree_on : Agree (table_run table initial input) (machine_run code input)
    agree_on =
        region_leads table keeps code.limits room claims (table_run table initial input) never [] start AgreeFrom
        (λ units same is. absurd (cc)) (λ kind line units same is. absurd (cc)) from_entry
        shows.begins start opened_start.proper opened_start.forms (record { held = λ fact among. shows.start fact among; cells = refl; input = refl })
        opened_start.units opened_start.one (λ n. sym (opened_start.same n)) refl

pub shown_codes_agree : ShownCodesAgree
shown_codes_agree table initial code claims keeps room shows input never = agree_on table keeps initial code claims room shows input never

pub shown_on_inputs : ShownCodesAgreeOnInputs
shown_on_inputs table words code claims keeps formed shows never input are_words =
    let limits = formed.limits in
    let room : Positive code.limits = record { ops = limits.ops.0; tests = limits.tests.0; mem = limits.mem.0 } in
    Agree-sym (table_run table words input) (machine_run code input) (shown_codes_agree table words code claims keeps room shows input (never input are_words))
