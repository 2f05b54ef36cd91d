-- What holds of the members of a search, and what the automaton of a closed one does.
use Rattle.std.proofs.Common.{◌≡◌, ℕ, zero, suc, ◌<◌, List, [], ◌∷◌, ◌++◌, length, refl, sym, ◌∙◌, ap, subst, arith}
use Rattle.std.specs.Prelude.{Option, Some, None, slice_get}
use Rattle.std.specs.List.{AllByRecursion}
use Rattle.std.proofs.lemmas.Option.{slice_get_within}
use Rattle.pc_word.specs.Run.{Answers, Agree, NeverFaults}
use Rattle.pc_word.proofs.Runs.{Agree-trans}
use Rattle.pc_word.proofs.Lists.{all_both, all_at}
use Rattle.pc_word.specs.State.{State}
use Rattle.pc_word.specs.Row.{Row, Then, Either, At_leaf, leaves_of}
use Rattle.pc_table.specs.Table.{Next}
use Rattle.pc_table.specs.TableKeeps.{TableKeeps}
use Rattle.pc_table.specs.RegionRun.{region_run}
use Rattle.std.specs.Prelude.{Bool, true, false}
use Rattle.pc_word.specs.declared.item.Item.{Item}
use Rattle.pc_word.specs.declared.item.Operand.{Operand}
use Rattle.pc_linear.specs.Form.{Form}
use Rattle.pc_window.specs.Jump.{Rises, Root, Past_item, Past_yes, Past_no, DividesTree, Root_test, Past, EntersFront, Lands, Lands_renamed, Lands_test}
use Rattle.pc_window.specs.Jump.{Lands_once, Behind_item, On_yes, On_no}
use Rattle.pc_window.specs.Filled.{Filled, Full, Goes_on}
use Rattle.pc_window.specs.Tree.{Tree, Pending, Undecided, Exit, Stop_exit, Trap_exit, Front, Issued, Split, Unfinished, whole}
use Rattle.pc_window.specs.WindowRun.{Window, window_run}
use Rattle.pc_window.specs.Kept.{Left, KeepsPace, IsBare, IsRooted, HasFront, HasItems}
use Rattle.pc_window.specs.Steps.{LeftIs, EachLeft, Positive, IsProper, opened_window}
use Rattle.pc_window.proofs.Paces.{answer_of_answer, NeverFaults-follows}
use Rattle.pc_window.proofs.Proper.{opens_proper, fills_proper, cuts_proper}
use Rattle.pc_window.proofs.Settling.{opens_alike, tidies_roots, fills_front, cuts_front}
use Rattle.pc_automaton.specs.declared.automaton.AutomatonLeaf.{AutomatonLeaf}
use Rattle.pc_automaton.specs.Automaton.{AutomatonState}
use Rattle.pc_automaton.specs.AutomatonRun.{automaton_run}
use Rattle.pc_canon.specs.Pairs.{Pair}
use Rattle.pc_pattern.specs.NamedRow.{RowsNamed, named_item, named_test, named_leaf}
use Rattle.pc_pattern.specs.Searches.{Rules, Settles, bare_leaf, Looks, looks_new, looks_known, looks_bare, looks_out, looks_end, looks_trap}
use Rattle.pc_pattern.specs.Searches.{Search, begins, takes, looks, IsClosed, LeafFor, to_member, to_bare, to_region, to_end, to_trap}
use Rattle.pc_pattern.specs.Searches.{StateFor, Automates}
use Rattle.pc_canon.specs.Canonical.{parameter_pairs}
use Rattle.pc_pattern.proofs.Shifts.{shifted_goes_on}
use Rattle.pc_pattern.proofs.Brought.{member_rooted, member_proper, member_shifted}
use Rattle.pc_pattern.proofs.Keeping.{settles_keep, brings_on_keeps, never_kept}
use Rattle.pc_pattern.proofs.Closing.{state_agrees}
use Rattle.pc_word.specs.Naming.{with_dest}

-- ---- what holds of each member

one_more : (P : Window → Type 0) (members : List Window) (v : Window) → AllByRecursion P members → P v → AllByRecursion P (members ++ (v ∷ []))
one_more P members v h p = all_both P members (v ∷ []) h (p, tt)

-- ---- windows that are left

pub EachLeft-leaves : (P : Window → Type 0) (row : Row Left) → EachLeft P row → AllByRecursion (LeftIs P) (leaves_of row)
EachLeft-leaves P (Then item rest) h = EachLeft-leaves P rest h
EachLeft-leaves P (Either on on_yes on_no) h =
    all_both (LeftIs P) (leaves_of on_yes) (leaves_of on_no) (EachLeft-leaves P on_yes h.0) (EachLeft-leaves P on_no h.1)
EachLeft-leaves P (At_leaf leaf) h = (h, tt)

-- ---- rows that match

pub matched_items : {L M : Type 0} {R : List Pair → L → M → Type 0} {names : List Pair} {row : Row L} {other : Row M} → RowsNamed R names row other → HasItems row → HasItems other
matched_items (named_item name h) items = tt
matched_items (named_test h k) items = tt
matched_items (named_leaf h) items = items

-- ---- windows without items and tests

risen_items : (forms : ℕ → Form) (tag origin : ℕ) (stood x : Item) (crosses : Bool) (from left : Tree) → Rises forms tag origin stood x crosses from left → IsBare from → ⊥
risen_items forms tag origin stood x crosses from left (Root rest unwritten) bare = bare
risen_items forms tag origin stood x crosses from left (Past_item t o y c rest left' clear apart rises) bare = bare
risen_items forms tag origin stood x crosses from left (Past_yes t o on c p q left' is unwritten rises) bare = bare
risen_items forms tag origin stood x crosses from left (Past_no t o on c p q left' is unwritten rises) bare = bare

divided_items : (tag origin : ℕ) (on : Operand) (from p q : Tree) → DividesTree tag origin on from p q → IsBare from → ⊥
divided_items tag origin on from p q (Root_test p' q') bare = bare
divided_items tag origin on from p q (Past t o y rest p' q' divides) bare = bare

entered_items : (known : ℕ → Bool) (forms forms' : ℕ → Form) (new : Option ℕ) (comes : Option Item) (from to : Front) → EntersFront known forms forms' new comes from to
    → IsBare (whole from) → ⊥
entered_items known forms forms' new comes from to (Lands tag origin x t left reads isnew none same rises) bare = risen_items forms tag origin x x false t left rises bare
entered_items known forms forms' new comes from to (Lands_renamed tag origin name stood t left reads isnew is gives rises) bare =
    risen_items forms tag origin stood (with_dest name stood) true t left rises bare
entered_items known forms forms' new comes from to (Lands_test tag origin on t p q reads none same divides) bare = divided_items tag origin on t p q divides bare
entered_items known forms forms' new comes from to (Lands_once t o on tag origin tag' origin' name stood other c c' p q l m equal reads isnew is gives rises rises') bare = bare
entered_items known forms forms' new comes from to (Behind_item t o y c rest rest' may apart enters) bare = bare
entered_items known forms forms' new comes from to (On_yes t o on c p q p' apart enters) bare = bare
entered_items known forms forms' new comes from to (On_no t o on c p q q' apart enters) bare = bare

-- filling leaves such a window as it is
pub bare_fills : (known : ℕ → Bool) (w v : Window) → Filled known w v → IsBare (whole w.front) → v ≡ w
bare_fills known w v (Full w' none) bare = refl
bare_fills known w v (Goes_on w' v' u jump first filled) bare = absurd (entered_items known w'.forms v'.forms jump.new jump.comes w'.front v'.front jump.enters bare)

module _ (rules : Rules) (keeps : TableKeeps rules.table) (room : Positive rules.limits) (region : ℕ) where
  abbrev Rooted : Window → Type 0
  Rooted w = IsRooted w.front

  rooted_more : {members more : List Window} {left : Left} → Looks rules members left more → AllByRecursion Rooted members
      → AllByRecursion Rooted more
  rooted_more {members} (looks_new {rest} {brought} {member} brings items new renumbers) h =
      one_more Rooted members member h (member_rooted rules rest brought member brings renumbers)
  rooted_more (looks_known brings items known) h = h
  rooted_more (looks_bare brings bare) h = h
  rooted_more looks_out h = h
  rooted_more looks_end h = h
  rooted_more looks_trap h = h

  -- the front of each member has its first item or test
  pub members_rooted : {steps number : ℕ} {members : List Window} {lefts : List Left} → Search rules region steps members number lefts
      → AllByRecursion Rooted members
  members_rooted (begins {first} opens settles) = (tidies_roots settles.unwound first settles.tidies, tt)
  members_rooted (takes search at row) = members_rooted search
  members_rooted (looks search adds) = rooted_more adds (members_rooted search)

  proper_more : {members more : List Window} {left : Left} → Looks rules members left more → LeftIs IsProper left → AllByRecursion IsProper members
      → AllByRecursion IsProper more
  proper_more {members} (looks_new {rest} {brought} {member} brings items new renumbers) p h =
      one_more IsProper members member h
      (member_proper rules rest brought member brings renumbers (brings_on_keeps rules keeps rest brought brings p).0)
  proper_more (looks_known brings items known) p h = h
  proper_more (looks_bare brings bare) p h = h
  proper_more looks_out p h = h
  proper_more looks_end p h = h
  proper_more looks_trap p h = h

  -- each member is proper, and so is each window that is still to be looked at
  pub members_proper : {steps number : ℕ} {members : List Window} {lefts : List Left} → Search rules region steps members number lefts
      → AllByRecursion IsProper members × AllByRecursion (LeftIs IsProper) lefts
  members_proper (begins {opened} {first} opens settles) =
      (((settles_keep rules keeps opened first settles (opens_proper rules.table rules.limits region opened room opens)).0, tt), tt)
  members_proper (takes {number} {members} {w} {row} search at row_for) =
      let h = members_proper search in
      let p = fills_proper w row_for.filled row_for.fills (all_at IsProper members number w h.0 at) in
      (h.0, EachLeft-leaves IsProper row (cuts_proper rules.table row_for.filled row row_for.cuts p))
  members_proper (looks search adds) = let h = members_proper search in (proper_more adds h.1.0 h.0, h.1.1)

  -- something is left to do in a window
  abbrev pub GoesOn : Window → Type 0
  GoesOn w = bare_leaf (whole w.front) ≡ None

  -- the first member is the region's window, opened, unwound and tidied, and in each other one something is left to do
  pub record BeginsWith (members : List Window) : Type 0 where
    pub opened : Window
    pub first : Window
    pub others : List Window
    pub opens : opened ≡ opened_window rules.table rules.limits region
    pub settles : Settles rules opened first
    pub at : members ≡ first ∷ others
    pub others_go_on : AllByRecursion GoesOn others

  begins_more : {members more : List Window} {left : Left} → Looks rules members left more → LeftIs IsProper left → BeginsWith members
      → BeginsWith more
  begins_more (looks_new {rest} {brought} {member} brings items new renumbers) p h =
      let proper = (brings_on_keeps rules keeps rest brought brings p).0 in
      let shifted = member_shifted rules rest brought member brings renumbers proper in
      record {
        opened = h.opened;
        first = h.first;
        others = h.others ++ (member ∷ []);
        opens = h.opens;
        settles = h.settles;
        at = ap (λ (ws : List Window). ws ++ (member ∷ [])) h.at;
        others_go_on = one_more GoesOn h.others member h.others_go_on
            (shifted_goes_on (parameter_pairs brought member) brought member shifted items);
      }
  begins_more (looks_known brings items known) p h = h
  begins_more (looks_bare brings bare) p h = h
  begins_more looks_out p h = h
  begins_more looks_end p h = h
  begins_more looks_trap p h = h

  pub begins_with : {steps number : ℕ} {members : List Window} {lefts : List Left} → Search rules region steps members number lefts
      → BeginsWith members
  begins_with (begins {opened} {first} opens settles) =
      record { opened = opened; first = first; others = []; opens = opens; settles = settles; at = refl; others_go_on = tt }
  begins_with (takes search at row) = begins_with search
  begins_with (looks search adds) = begins_more adds (members_proper search).1.0 (begins_with search)

  -- an element that is found is one
  same_found : {X : Type 0} (a b : X) → Some a ≡ Some b → a ≡ b
  same_found a b e = cc

  -- the run of a closed search's automaton beside that of the region and that of the first member
  pub record ClosedRuns (first : Window) (states : List AutomatonState) (s : State) : Type 0 where
    pub agree : Agree (automaton_run rules.table states s) (region_run rules.table (Next region) s)
    pub level : KeepsPace (region_run rules.table (Next region) s) (window_run rules.table first s)
    pub pace : (IsBare (whole first.front) → ⊥) → KeepsPace (window_run rules.table first s) (automaton_run rules.table states s)
    pub behind : (n : ℕ) → Answers (window_run rules.table first s n) (automaton_run rules.table states s (suc n)) (window_run rules.table first s n).end

  -- where a search is closed, its automaton does what the region does, in every state from which the region's run never faults
  pub closed_runs : (members : List Window) (states : List AutomatonState) → (closed : IsClosed rules region members) → Automates rules members states
      → (s : State) → NeverFaults (region_run rules.table (Next region) s) → ClosedRuns (begins_with closed.1).first states s
  closed_runs members states closed auto s never =
      let b = begins_with closed.1 in
      let o = opens_alike rules.table keeps rules.limits region b.opened b.opens s in
      let p = opens_proper rules.table rules.limits region b.opened room b.opens in
      let never_opened : NeverFaults (window_run rules.table b.opened s) =
      NeverFaults-follows (window_run rules.table b.opened s) (region_run rules.table (Next region) s) o.agree.forth never in
      let k = (settles_keep rules keeps b.opened b.first b.settles p).1 s o.forms never_opened in
      let at : slice_get members 0 ≡ Some b.first = ap (λ (ws : List Window). slice_get ws 0) b.at in
      let r = state_agrees rules keeps members states auto (λ number w here. all_at Rooted members number w (members_rooted closed.1) here)
      (λ number w here. all_at IsProper members number w (members_proper closed.1).0 here) 0 b.first s at k.forms (never_kept rules.table b.opened b.first s k never_opened) in
      let X = region_run rules.table (Next region) s in
      record {
        agree = Agree-trans (automaton_run rules.table states s) (window_run rules.table b.first s) X r.agree
            (Agree-trans (window_run rules.table b.first s) (window_run rules.table b.opened s) X (record { forth = k.back; back = λ n. (n, k.pace n) }) o.agree);
        level = λ n. answer_of_answer (X n) (window_run rules.table b.opened s n) (window_run rules.table b.first s n) (o.pace n) (k.pace n);
        pace = r.pace;
        behind = r.behind;
      }

  -- a front that is rooted has an item or a test, where something is left to do
  pub rooted_front : (front : Front) → IsRooted front → bare_leaf (whole front) ≡ None → HasFront front
  rooted_front (Issued tag origin item rest) rooted left = tt
  rooted_front (Split tag origin on on_yes on_no) rooted left = tt
  rooted_front (Unfinished (Pending tag origin item rest)) rooted left = absurd rooted
  rooted_front (Unfinished (Undecided tag origin on on_yes on_no)) rooted left = absurd rooted
  rooted_front (Unfinished (Exit to tag homes)) rooted left = absurd (cc)
  rooted_front (Unfinished Stop_exit) rooted left = absurd (cc)
  rooted_front (Unfinished (Trap_exit kind line)) rooted left = absurd (cc)

  -- each state but the first has a row with an item or a test
  no_empty_state : (members : List Window) (states : List AutomatonState) → IsClosed rules region members → Automates rules members states
      → (number : ℕ) (w : Window) → slice_get members (suc number) ≡ Some w
      → (state : AutomatonState) × (slice_get states (suc number) ≡ Some state) × HasItems state.row
  no_empty_state members states closed auto number w at =
      let b = begins_with closed.1 in
      let e = auto.each (suc number) w at in
      let goes_on : GoesOn w = all_at GoesOn b.others number w b.others_go_on
      (sym (ap (λ (ws : List Window). slice_get ws (suc number)) b.at) ∙ at) in
      let front = rooted_front w.front (all_at Rooted members (suc number) w (members_rooted closed.1) at) goes_on in
      let row = e.2.row_for in
      (e.0, e.1, matched_items e.2.matches (cuts_front rules.table row.filled e.2.cut row.cuts (fills_front w row.filled row.fills front)))

  -- ---- from states to members

  -- an element at a place within a list
  element_within : {X : Type 0} (xs : List X) (number : ℕ) → number < length xs → (x : X) × (slice_get xs number ≡ Some x)
  element_within [] number h = absurd (let k : number < 0 = h in omega arith)
  element_within (x ∷ xs) zero h = (x, refl)
  element_within (x ∷ xs) (suc number) h = element_within xs number (omega (arith, h))

  -- each state is that of a member
  pub state_of : (members : List Window) (states : List AutomatonState) → Automates rules members states → (number : ℕ) (state : AutomatonState)
      → slice_get states number ≡ Some state → (w : Window) × (slice_get members number ≡ Some w) × StateFor rules members w state
  state_of members states auto number state at =
      let within : number < length states = slice_get_within states number state at in
      let many = auto.as_many in
      let m = element_within members number (omega (arith, within, many)) in
      let e = auto.each number m.0 m.1 in
      (m.0, m.1, subst (λ (x : AutomatonState). StateFor rules members m.0 x) (same_found e.0 state (sym e.1 ∙ at)) e.2)

  pub no_empty_states : (members : List Window) (states : List AutomatonState) → IsClosed rules region members → Automates rules members states
      → (number : ℕ) (state : AutomatonState) → slice_get states (suc number) ≡ Some state → HasItems state.row
  no_empty_states members states closed auto number state at =
      let m = state_of members states auto (suc number) state at in
      let e = no_empty_state members states closed auto number m.0 m.1 in
      subst (λ (x : AutomatonState). HasItems x.row) (same_found e.0 state (sym e.1 ∙ at)) e.2

-- ---- states that were made stay right while members are added

-- what stands in a list stands in a longer one
pub slice_get_more : {X : Type 0} (xs more : List X) (i : ℕ) (x : X) → slice_get xs i ≡ Some x → slice_get (xs ++ more) i ≡ Some x
slice_get_more [] more i x at = absurd (cc)
slice_get_more (y ∷ xs) more zero x at = at
slice_get_more (y ∷ xs) more (suc i) x at = slice_get_more xs more i x at

leads_more : {rules : Rules} {members : List Window} {names : List Pair} {left : Left} {leaf : AutomatonLeaf} (more : List Window)
    → LeafFor rules members names left leaf → LeafFor rules (members ++ more) names left leaf
leads_more {members} more (to_member {number} brought member brings items at shifted arguments) =
    to_member brought member brings items (slice_get_more members more number member at) shifted arguments
leads_more more (to_bare brought leaf brings bare alike) = to_bare brought leaf brings bare alike
leads_more more (to_region alike) = to_region alike
leads_more more to_end = to_end
leads_more more to_trap = to_trap

pub match_more : {L M : Type 0} {R S : List Pair → L → M → Type 0} {names : List Pair} {row : Row L} {other : Row M}
    → ((ns : List Pair) (l : L) (m : M) → R ns l m → S ns l m)
    → RowsNamed R names row other → RowsNamed S names row other
match_more f (named_item name h) = named_item name (match_more f h)
match_more f (named_test h k) = named_test (match_more f h) (match_more f k)
match_more f (named_leaf {names} {leaf} {other} h) = named_leaf (f names leaf other h)

-- rows that lead on among some members lead on among more
pub rows_more : (rules : Rules) (members more : List Window) {names : List Pair} {row : Row Left} {other : Row AutomatonLeaf}
    → RowsNamed (LeafFor rules members) names row other → RowsNamed (LeafFor rules (members ++ more)) names row other
rows_more rules members more h = match_more (λ ns l m k. leads_more more k) h

-- the state of a member is its state too where there are more members
pub state_more : (rules : Rules) (members more : List Window) (w : Window) (state : AutomatonState) → StateFor rules members w state
    → StateFor rules (members ++ more) w state
state_more rules members more w state h = record {
  parameters = h.parameters;
  cut = h.cut;
  row_for = h.row_for;
  matches = rows_more rules members more h.matches;
  ordered = h.ordered;
  once = h.once;
}
