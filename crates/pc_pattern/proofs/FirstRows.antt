-- Where the first row leads that a search finds, if it has neither item nor test.
use Rattle.std.proofs.Common.{◌≡◌, ℕ, List, Some, refl, sym, ◌∙◌, ap, subst}
use Rattle.std.specs.Prelude.{slice_get}
use Rattle.pc_word.specs.declared.item.TrapKind.{TrapKind}
use Rattle.pc_word.specs.Row.{Row, Then, Either, At_leaf}
use Rattle.pc_table.specs.Table.{Table}
use Rattle.pc_table.specs.TableKeeps.{TableKeeps, ComesUntested}
use Rattle.pc_window.specs.declared.home.Home.{Home}
use Rattle.pc_window.specs.Tree.{Tree, Pending, Undecided, Exit, Stop_exit, Trap_exit, Front, whole, front_of}
use Rattle.pc_window.specs.Names.{uses, parameters_of}
use Rattle.pc_window.specs.WindowRun.{Window}
use Rattle.pc_window.specs.Tidying.{tidied}
use Rattle.pc_window.specs.Kept.{Left, Gone, Finished, Trapped_at, IsBare, HasFront, HasItems}
use Rattle.pc_window.specs.Steps.{Positive, UnwindsTo, cut_row}
use Rattle.pc_window.proofs.Settling.{fills_front, cuts_front}
use Rattle.pc_automaton.specs.declared.automaton.AutomatonLeaf.{AutomatonLeaf}
use Rattle.pc_automaton.specs.declared.automaton.AutomatonLeaf.TheVariants.{Stop, Trap}
use Rattle.pc_automaton.specs.Automaton.{AutomatonState}
use Rattle.pc_automaton.specs.RunsAsRegion.{LeadsUntested}
use Rattle.pc_canon.specs.Pairs.{Pair, themselves}
use Rattle.pc_pattern.specs.NamedRow.{RowsNamed, named_leaf}
use Rattle.pc_pattern.specs.Searches.{Rules, IsClosed, LeafFor, to_region, to_end, to_trap, StateFor, Automates}
use Rattle.pc_pattern.proofs.Ends.{ends_in, tidied_ends, unwound_untested}
use Rattle.pc_pattern.proofs.Members.{bare_fills, matched_items, begins_with}

-- ---- leaves

items_lead : (table : Table) (region : ℕ) (row : Row AutomatonLeaf) → HasItems row → LeadsUntested table region row
items_lead table region (Then item rest) items = tt
items_lead table region (Either on p q) items = tt
items_lead table region (At_leaf leaf) items = absurd items

module _ (rules : Rules) (members : List Window) (table : Table) (region : ℕ) where
  out_leads : (to : ℕ) (homes : List Home) {names : List Pair} {row : Row AutomatonLeaf} → RowsNamed (LeafFor rules members) names (At_leaf (Gone to homes)) row
      → ComesUntested table region to → LeadsUntested table region row
  out_leads to homes (named_leaf (to_region alike)) comes = comes

  end_leads : {names : List Pair} {row : Row AutomatonLeaf} → RowsNamed (LeafFor rules members) names (At_leaf Finished) row → LeadsUntested table region row
  end_leads (named_leaf to_end) = tt

  trap_leads : (kind : TrapKind) (line : ℕ) {names : List Pair} {row : Row AutomatonLeaf} → RowsNamed (LeafFor rules members) names (At_leaf (Trapped_at kind line)) row
      → LeadsUntested table region row
  trap_leads kind line (named_leaf to_trap) = tt

-- a row that is the end alone, and one that is a trap alone
module _ (rules : Rules) (members : List Window) where
  end_row : {names : List Pair} {row : Row AutomatonLeaf} → RowsNamed (LeafFor rules members) names (At_leaf Finished) row → row ≡ At_leaf Stop
  end_row (named_leaf to_end) = refl

  trap_row : (kind : TrapKind) (line : ℕ) {names : List Pair} {row : Row AutomatonLeaf} → RowsNamed (LeafFor rules members) names (At_leaf (Trapped_at kind line)) row
      → row ≡ At_leaf (Trap kind line)
  trap_row kind line (named_leaf to_trap) = refl

-- ---- the first row

module _ (rules : Rules) (members : List Window) (region : ℕ) (w : Window) (first : AutomatonState) (f : StateFor rules members w first) where
  -- a window with an item or test has a row with one
  with_front : HasFront w.front → LeadsUntested rules.table region first.row
  with_front front =
      items_lead rules.table region first.row
      (matched_items f.matches (cuts_front rules.table f.row_for.filled f.cut f.row_for.cuts (fills_front w f.row_for.filled f.row_for.fills front)))

  -- one without is cut as it is
  cut_is : (tree : Tree) → w.front ≡ front_of tree → IsBare (whole w.front) → f.cut ≡ cut_row rules.table w (front_of tree)
  cut_is tree is bare =
      f.row_for.cuts ∙ ap (λ (v : Window). cut_row rules.table v v.front) (bare_fills (uses (whole w.front)) w f.row_for.filled f.row_for.fills bare)
      ∙ ap (cut_row rules.table w) is

  abbrev Matches : Row Left → Type 0
  Matches row = RowsNamed (LeafFor rules members) (themselves (parameters_of (whole w.front))) row first.row

  first_leads : (tree : Tree) → w.front ≡ front_of tree → ((to tag : ℕ) (homes : List Home) → tree ≡ Exit to tag homes → ComesUntested rules.table region to)
      → LeadsUntested rules.table region first.row
  first_leads (Pending tag origin item rest) is comes = with_front (subst HasFront (sym is) tt)
  first_leads (Undecided tag origin on p q) is comes = with_front (subst HasFront (sym is) tt)
  first_leads (Exit to tag homes) is comes =
      out_leads rules members rules.table region to homes
      (subst Matches (cut_is (Exit to tag homes) is (subst (λ (front : Front). IsBare (whole front)) (sym is) tt)) f.matches) (comes to tag homes refl)
  first_leads Stop_exit is comes =
      end_leads rules members rules.table region (subst Matches (cut_is Stop_exit is (subst (λ (front : Front). IsBare (whole front)) (sym is) tt)) f.matches)
  first_leads (Trap_exit kind line) is comes =
      trap_leads rules members rules.table region kind line
      (subst Matches (cut_is (Trap_exit kind line) is (subst (λ (front : Front). IsBare (whole front)) (sym is) tt)) f.matches)

  -- a window that is an end has a row that is that end
  pub first_ends : w.front ≡ front_of Stop_exit → first.row ≡ At_leaf Stop
  first_ends is = end_row rules members (subst Matches (cut_is Stop_exit is (subst (λ (front : Front). IsBare (whole front)) (sym is) tt)) f.matches)

  pub first_traps : (kind : TrapKind) (line : ℕ) → w.front ≡ front_of (Trap_exit kind line) → first.row ≡ At_leaf (Trap kind line)
  first_traps kind line is =
      trap_row rules members kind line (subst Matches (cut_is (Trap_exit kind line) is (subst (λ (front : Front). IsBare (whole front)) (sym is) tt)) f.matches)

pub same_state : (a b : AutomatonState) → Some a ≡ Some b → a ≡ b
same_state a b e = cc

pub first_untested : (rules : Rules) → TableKeeps rules.table → Positive rules.limits → (region : ℕ) (members : List Window) (states : List AutomatonState)
    → IsClosed rules region members → Automates rules members states → (first : AutomatonState) → slice_get states 0 ≡ Some first
    → LeadsUntested rules.table region first.row
first_untested rules keeps room region members states closed auto first here =
    let b = begins_with rules keeps room region closed.1 in
    let e = auto.each 0 b.first (ap (λ (ws : List Window). slice_get ws 0) b.at) in
    let unwound = b.settles.unwound in
    let tree = tidied (whole unwound.front) in
    let unwinds = subst (λ (w : Window). UnwindsTo rules.table rules.number w unwound) b.opens b.settles.unwinds in
    first_leads rules members region b.first first
    (subst (λ (x : AutomatonState). StateFor rules members b.first x) (same_state e.0 first (sym e.1 ∙ here)) e.2)
    tree (ap (λ (w : Window). w.front) b.settles.tidies)
    (λ to tag homes is. unwound_untested rules.table rules.limits rules.number region to unwound unwinds
    (sym (tidied_ends (whole unwound.front)) ∙ ap ends_in is))
