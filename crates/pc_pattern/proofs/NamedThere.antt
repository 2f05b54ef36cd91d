-- What the states of a closed search name is there in the table, and the first is passed variables that are live at its region.
use Rattle.std.proofs.Common.{◌≡◌, ℕ, ◌+◌, List, [], ◌∷◌, length, map, Some, refl, sym, ◌∙◌, ap, subst}
use Rattle.std.specs.Prelude.{nat_eq, true, slice_get}
use Rattle.std.specs.List.{AllByRecursion, list_any}
use Rattle.pc_word.specs.declared.item.Item.{Item}
use Rattle.pc_word.specs.declared.item.Item.TheVariants.{Bin, Copy, Load, Store, Print, Read, More}
use Rattle.pc_word.specs.Row.{Row, items_of, leaves_of}
use Rattle.pc_word.proofs.Lists.{all_front, all_back, all_both, all_at, all_imply}
use Rattle.pc_table.specs.Table.{region_live}
use Rattle.pc_table.specs.TableKeeps.{TableKeeps}
use Rattle.pc_window.specs.declared.home.Home.{Home}
use Rattle.pc_window.specs.Tree.{Tree, Pending, Undecided, Exit, Stop_exit, Trap_exit, whole}
use Rattle.pc_window.specs.Names.{uses, parameters_of}
use Rattle.pc_window.specs.WindowRun.{Window}
use Rattle.pc_window.specs.Kept.{Left, Rest}
use Rattle.pc_window.specs.Steps.{Positive}
use Rattle.pc_window.specs.There.{ArrayIsThere, StubIsThere, PartsAreThere, LeftIsThere}
use Rattle.pc_window.proofs.There.{opened_there, opened_live, tidies_there, tidies_fewer, rebases_there, fills_there, cuts_there}
use Rattle.pc_window.proofs.Proper.{opens_proper}
use Rattle.pc_unwind.proofs.Grown.{has_grown}
use Rattle.pc_renumber.specs.Renumbering.{Renumbers}
use Rattle.pc_renumber.proofs.Renumbered.{renumbered_parts}
use Rattle.pc_automaton.specs.declared.automaton.AutomatonLeaf.{AutomatonLeaf}
use Rattle.pc_automaton.specs.declared.automaton.AutomatonLeaf.TheVariants.{To, Out, Stop, Trap}
use Rattle.pc_automaton.specs.Automaton.{AutomatonState}
use Rattle.pc_automaton.specs.There.{LeafIsThere, StateIsThere}
use Rattle.pc_canon.specs.Pairs.{Pair, HomesAlike}
use Rattle.pc_pattern.specs.NamedRow.{RowsNamed, named_item, named_test, named_leaf, LeavesAlike}
use Rattle.pc_pattern.specs.Searches.{Rules, Settles, BringsOn, bare_leaf, Looks, looks_new, looks_known, looks_bare, looks_out, looks_end, looks_trap}
use Rattle.pc_pattern.specs.Searches.{Search, begins, takes, looks, LeafFor, to_member, to_bare, to_region, to_end, to_trap, StateFor}
use Rattle.pc_pattern.specs.Laws.{PatternsNameWhatIsThere, PatternsBeginWithLiveVariables}
use Rattle.pc_pattern.proofs.Members.{begins_with, state_of}
use Rattle.pc_pattern.proofs.Automata.{all_from_places}
use Rattle.pc_pattern.proofs.Ends.{unwinds_fewer}
use Rattle.pc_pattern.proofs.FirstRows.{same_state}
use Rattle.pc_canon.proofs.ParameterLists.{parameters_used}
use Rattle.pc_word.specs.Naming.{with_dest}

module _ (rules : Rules) (keeps : TableKeeps rules.table) (room : Positive rules.limits) where
  -- what a window names is there, and its tags are at most some number
  abbrev Named : Window → Type 0
  Named w = (most : ℕ) × PartsAreThere rules.table most (whole w.front)

  abbrev LeftNamed : Left → Type 0
  LeftNamed left = (most : ℕ) × LeftIsThere rules.table most left

  settled_named : (w v : Window) → Settles rules w v → Named w → Named v
  settled_named w v s h =
      let most = h.0 + (length rules.table.regions + rules.number) in
      (most, tidies_there rules.table most s.unwound v s.tidies ((has_grown rules.table keeps rules.number w s.unwound s.unwinds).parts h.0 h.1))

  brought_named : (w v : Window) → BringsOn rules w v → Named w → Named v
  brought_named w v b h = settled_named b.rebased v b.settles (h.0, rebases_there rules.table h.0 w b.rebased b.rebases h.1)

  -- ---- members and leaves that are still to be looked at

  member_named : (brought member : Window) → Renumbers brought member → Named brought → Named member
  member_named brought member renumbers h = subst Named (sym renumbers) (h.0, renumbered_parts rules.table h.0 brought h.1)

  rest_named : (w : Window) → LeftNamed (Rest w) → Named w
  rest_named w h = (h.0, h.1)

  named_more : {members more : List Window} {left : Left} → Looks rules members left more → LeftNamed left → AllByRecursion Named members
      → AllByRecursion Named more
  named_more {members} (looks_new {rest} {brought} {member} brings items new renumbers) p h =
      all_both Named members (member ∷ []) h (member_named brought member renumbers (brought_named rest brought brings (rest_named rest p)), tt)
  named_more (looks_known brings items known) p h = h
  named_more (looks_bare brings bare) p h = h
  named_more looks_out p h = h
  named_more looks_end p h = h
  named_more looks_trap p h = h

  members_named : {region steps number : ℕ} {members : List Window} {lefts : List Left} → Search rules region steps members number lefts
      → AllByRecursion Named members × AllByRecursion LeftNamed lefts
  members_named {region} (begins {opened} {first} opens settles) =
      ((settled_named opened first settles (subst Named (sym opens) (1, opened_there rules.table keeps rules.limits region)), tt), tt)
  members_named (takes {number} {members} {w} {row} search at row_for) =
      let h = members_named search in
      let named = all_at Named members number w h.0 at in
      let filled = fills_there rules.table named.0 w row_for.filled row_for.fills named.1 in
      let leaves = (cuts_there rules.table named.0 row_for.filled row row_for.cuts filled).leaves in
      (h.0, all_imply (LeftIsThere rules.table named.0) LeftNamed (leaves_of row) (λ left there. (named.0, there)) leaves)
  members_named (looks search adds) = let h = members_named search in (named_more adds h.1.0 h.0, h.1.1)

  -- ---- states

  array_named : (name : ℕ) (item : Item) → ArrayIsThere rules.table item → ArrayIsThere rules.table (with_dest name item)
  array_named name (Bin op dest left right) h = tt
  array_named name (Copy dest from) h = tt
  array_named name (Load dest array index) h = h
  array_named name (Store array index value) h = h
  array_named name (Print value) h = tt
  array_named name (Read dest) h = tt
  array_named name (More dest) h = tt

  homes_same : (names : List Pair) (homes others : List Home) → HomesAlike names homes others
      → map (λ (home : Home). home.variable) others ≡ map (λ (home : Home). home.variable) homes
  homes_same names [] [] h = refl
  homes_same names (a ∷ homes) (b ∷ others) h = λ i. sym h.0 i ∷ homes_same names homes others h.2 i
  homes_same names [] (b ∷ others) h = absurd h
  homes_same names (a ∷ homes) [] h = absurd h

  stub_alike : (names : List Pair) (region other : ℕ) (homes others : List Home) → region ≡ other → HomesAlike names homes others → StubIsThere rules.table region homes
      → StubIsThere rules.table other others
  stub_alike names region other homes others same alike h =
      subst (λ (r : ℕ). StubIsThere rules.table r others) same (record { leads = h.leads; live = homes_same names homes others alike ∙ h.live })

  leaf_alike : (names : List Pair) (leaf other : AutomatonLeaf) → LeavesAlike names leaf other → LeafIsThere rules.table leaf → LeafIsThere rules.table other
  leaf_alike names leaf (To number arguments) alike h = tt
  leaf_alike names (Out region homes) (Out other others) alike h = stub_alike names region other homes others alike.0 alike.1 h
  leaf_alike names (To number arguments) (Out other others) alike h = absurd alike
  leaf_alike names Stop (Out other others) alike h = absurd alike
  leaf_alike names (Trap kind line) (Out other others) alike h = absurd alike
  leaf_alike names leaf Stop alike h = tt
  leaf_alike names leaf (Trap kind line) alike h = tt

  bare_there : (most : ℕ) (tree : Tree) (leaf : AutomatonLeaf) → bare_leaf tree ≡ Some leaf → PartsAreThere rules.table most tree → LeafIsThere rules.table leaf
  bare_there most (Pending tag origin item rest) leaf is h = absurd (cc)
  bare_there most (Undecided tag origin on p q) leaf is h = absurd (cc)
  bare_there most (Exit region tag homes) leaf is h = let same : Out region homes ≡ leaf = cc in subst (LeafIsThere rules.table) same h.1
  bare_there most Stop_exit leaf is h = let same : Stop ≡ leaf = cc in subst (LeafIsThere rules.table) same tt
  bare_there most (Trap_exit kind line) leaf is h = let same : Trap kind line ≡ leaf = cc in subst (LeafIsThere rules.table) same tt

  led_there : {members : List Window} {names : List Pair} {left : Left} {leaf : AutomatonLeaf} → LeafFor rules members names left leaf → LeftNamed left
      → LeafIsThere rules.table leaf
  led_there (to_member brought member brings items at shifted args) h = tt
  led_there {names} (to_bare {rest} {other} brought leaf brings bare alike) h =
      (let named = brought_named rest brought brings (rest_named rest h) in leaf_alike names leaf other alike (bare_there named.0 (whole brought.front) leaf bare named.1))
  led_there {names} (to_region {region} {homes} {homes'} alike) h = stub_alike names region region homes homes' refl alike h.1
  led_there to_end h = tt
  led_there to_trap h = tt

  row_items : {members : List Window} {names : List Pair} {cut : Row Left} {row : Row AutomatonLeaf} → RowsNamed (LeafFor rules members) names cut row
      → AllByRecursion (ArrayIsThere rules.table) (items_of cut) → AllByRecursion (ArrayIsThere rules.table) (items_of row)
  row_items (named_item {item} name h) all = (array_named name item all.0, row_items h all.1)
  row_items (named_test {on_yes} {on_no} {other_yes} {other_no} h k) all =
      all_both (ArrayIsThere rules.table) (items_of other_yes) (items_of other_no)
      (row_items h (all_front (ArrayIsThere rules.table) (items_of on_yes) (items_of on_no) all)) (row_items k (all_back (ArrayIsThere rules.table) (items_of on_yes) (items_of on_no) all))
  row_items (named_leaf h) all = tt

  row_leaves : {members : List Window} {names : List Pair} {cut : Row Left} {row : Row AutomatonLeaf} → RowsNamed (LeafFor rules members) names cut row
      → AllByRecursion LeftNamed (leaves_of cut) → AllByRecursion (LeafIsThere rules.table) (leaves_of row)
  row_leaves (named_item name h) all = row_leaves h all
  row_leaves (named_test {on_yes} {on_no} {other_yes} {other_no} h k) all =
      all_both (LeafIsThere rules.table) (leaves_of other_yes) (leaves_of other_no)
      (row_leaves h (all_front LeftNamed (leaves_of on_yes) (leaves_of on_no) all)) (row_leaves k (all_back LeftNamed (leaves_of on_yes) (leaves_of on_no) all))
  row_leaves (named_leaf h) all = (led_there h all.0, tt)

  state_there : {members : List Window} (w : Window) (state : AutomatonState) → Named w → StateFor rules members w state → StateIsThere rules.table state
  state_there w state h f =
      let filled = fills_there rules.table h.0 w f.row_for.filled f.row_for.fills h.1 in
      let row = cuts_there rules.table h.0 f.row_for.filled f.cut f.row_for.cuts filled in
      let leaves = all_imply (LeftIsThere rules.table h.0) LeftNamed (leaves_of f.cut) (λ left there. (h.0, there)) row.leaves in
      record { items = row_items f.matches row.items; leaves = row_leaves f.matches leaves }

pub patterns_there : PatternsNameWhatIsThere
patterns_there rules keeps room region rows states p =
    all_from_places (StateIsThere rules.table) states
    (λ i state at.
    let m = state_of rules keeps room region p.members states p.automates i state at in
    state_there rules keeps room m.0 state (all_at (Named rules keeps room) p.members i m.0 (members_named rules keeps room p.closed.1).0 m.1) m.2)

-- the first window's parameters are among those of the opened one
pub patterns_live : PatternsBeginWithLiveVariables
patterns_live rules keeps room region rows states p first here =
    let b = begins_with rules keeps room region p.closed.1 in
    let e = p.automates.each 0 b.first (ap (λ (ws : List Window). slice_get ws 0) b.at) in
    let opened_proper = opens_proper rules.table rules.limits region b.opened room b.opens in
    let is : first.parameters ≡ parameters_of (whole b.first.front) =
    ap (λ (s : AutomatonState). s.parameters) (sym (same_state e.0 first (sym e.1 ∙ here))) ∙ e.2.parameters in
    subst (AllByRecursion (λ (x : ℕ). list_any (nat_eq x) (region_live rules.table region) ≡ true)) (sym is)
    (all_imply (λ (x : ℕ). uses (whole b.first.front) x ≡ true) (λ (x : ℕ). list_any (nat_eq x) (region_live rules.table region) ≡ true)
    (parameters_of (whole b.first.front))
    (λ x used. opened_live rules.table keeps rules.limits region x
    (sym (ap (λ (w : Window). uses (whole w.front) x) b.opens)
    ∙ unwinds_fewer rules.table rules.number x b.opened b.settles.unwound b.settles.unwinds opened_proper
    (tidies_fewer b.settles.unwound b.first b.settles.tidies x used)))
    (parameters_used (whole b.first.front)))
