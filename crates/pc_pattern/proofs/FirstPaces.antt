-- A region's first window that is a stub is a unit ahead of its region: the region passes an item at least, and the window none.
use Rattle.std.proofs.Common.{◌≡◌, ℕ, suc, ◌+◌, ◌≤◌, List, Option, refl, sym, ◌∙◌, ap, subst, arith}
use Rattle.pc_word.specs.declared.item.Item.{Item}
use Rattle.pc_word.specs.declared.item.Item.TheVariants.{Copy}
use Rattle.pc_word.specs.declared.item.Operand.{Operand}
use Rattle.pc_word.specs.State.{State}
use Rattle.pc_word.specs.Run.{Seen, Answers, run_from, NeverFaults}
use Rattle.pc_word.proofs.Runs.{run_from-answers}
use Rattle.pc_table.specs.Table.{TableTree, Does, Asks, Next, Stops_here, Traps_here, Table, region_tree}
use Rattle.pc_table.specs.RegionRun.{arrive, region_step, region_run}
use Rattle.pc_table.specs.TableKeeps.{TableKeeps, By_one, untested}
use Rattle.pc_table.specs.Loops.{innermost_loop}
use Rattle.pc_window.specs.declared.home.Home.{Home}
use Rattle.pc_window.specs.Tree.{Tree, Pending, Undecided, Exit, Stop_exit, Trap_exit, whole, state_at}
use Rattle.pc_window.specs.Walk.{Walked, IsWhole}
use Rattle.pc_window.specs.WindowRun.{Window, enter, window_step, tree_run, window_run}
use Rattle.pc_window.specs.Opening.{Supply, changed, at_home, Brought, Moves_home, Gets_name, Stays_plain, brought, Grafted, graft_item, graft, first_supply, first_home, opened}
use Rattle.pc_window.specs.Unwinding.{Unwinds, unwinds_no_more, unwinds_once}
use Rattle.pc_window.specs.Tidying.{tidied}
use Rattle.pc_window.specs.Kept.{GainsUnit, IsBare}
use Rattle.pc_window.specs.Steps.{grafted_of, Opens, IsProper}
use Rattle.pc_window.proofs.CutRows.{whole_front_of}
use Rattle.pc_window.proofs.GraftPaces.{GraftPace, graft_pace}
use Rattle.pc_window.proofs.Grafts.{HomesBelow, HomesBelow-changed, at_home_below, Does_same, brought_same, after_copy}
use Rattle.pc_window.proofs.Openings.{first_home-below, first_same}
use Rattle.pc_window.proofs.Paces.{answer_of_answer, NeverFaults-follows}
use Rattle.pc_window.proofs.Repeated.{once_is}
use Rattle.pc_window.proofs.Settling.{opens_alike, unwinds_keep, tidies_keep}
use Rattle.pc_window.proofs.Shown.{walk_length}
use Rattle.pc_window.proofs.Tidying.{tidied_tidy}
use Rattle.pc_window.proofs.Units.{counted, tree_late, never_whole}
use Rattle.pc_window.proofs.Unwinding.{Unwound, at_stub, below, at_yes, at_no, IsUnwound, unwound_is}
use Rattle.pc_pattern.specs.Searches.{Rules, Settles}
use Rattle.pc_pattern.proofs.Keeping.{never_kept}

-- ---- opening

-- a tree that is no name of a region
abbrev pub IsRoot : TableTree → Type 0
IsRoot (Next region) = ⊥
IsRoot tree = Unit {0}

-- as no region's tree is
pub region_root : (table : Table) → TableKeeps table → (region : ℕ) → IsRoot (region_tree table region)
region_root table keeps region = by_tree (region_tree table region) refl
  where
    by_tree : (tree : TableTree) → region_tree table region ≡ tree → IsRoot tree
    by_tree (Does origin item rest) is = tt
    by_tree (Asks origin on on_yes on_no) is = tt
    by_tree (Next next) is =
        let again : region_tree table next ≡ Next next = sym (ap (arrive table) is) ∙ keeps.begins region ∙ is in
        absurd (keeps.tested next (By_one (ap untested again)))
    by_tree Stops_here is = tt
    by_tree (Traps_here kind line) is = tt

module _ (table : Table) (keeps : TableKeeps table) (loop : Option ℕ) (tag to at : ℕ) (stub : List Home) where
  -- n units of the window's tree show what a unit more of the region's shows
  abbrev IsAhead : TableTree → State → Tree → State → ℕ → Type 0
  IsAhead tree t grafted s n = Answers (region_run table tree t (suc n)) (tree_run table grafted s n) (region_run table tree t (suc n)).end

  copy_ahead : (origin variable : ℕ) (source : Operand) (rest : TableTree) (names : Supply) (homes : ℕ → Operand) (s : State) → HomesBelow names.next homes → (n : ℕ)
      → IsAhead (Does origin (Copy variable source) rest) (state_at homes s) (graft table loop tag rest names (changed homes variable (at_home homes source))).tree s n
  unfolding GraftPace
  copy_ahead origin variable source rest names homes s known n =
      let homes' = changed homes variable (at_home homes source) in
      let tree = (graft table loop tag rest names homes').tree in
      subst (λ (t : State). Answers (region_run table rest t n) (tree_run table tree s n) (region_run table rest t n).end) (after_copy table.arrays homes s variable source)
      (graft_pace table keeps loop tag rest names homes' s
      (HomesBelow-changed names.next homes variable (at_home homes source) (at_home_below names.next homes source known) known) n)

  item_ahead : (origin : ℕ) (item : Item) (rest : TableTree) (names : Supply) (homes : ℕ → Operand) (s : State) → HomesBelow names.next homes
      → (b : Brought) → Does_same table.arrays names homes s item b
      → (graft_item tag origin b names homes (graft table loop tag rest)).tree ≡ Exit to at stub → (n : ℕ)
      → IsAhead (Does origin item rest) (state_at homes s) (graft_item tag origin b names homes (graft table loop tag rest)).tree s n
  item_ahead origin item rest names homes s known (Moves_home variable from) g is n =
      subst (λ (i : Item). IsAhead (Does origin i rest) (state_at homes s) (graft table loop tag rest names (changed homes variable from)).tree s n) (sym g.item_is)
      (subst (λ (o : Operand). IsAhead (Does origin (Copy variable g.source) rest) (state_at homes s) (graft table loop tag rest names (changed homes variable o)).tree s n) (sym g.from_is)
      (copy_ahead origin variable g.source rest names homes s known n))
  item_ahead origin item rest names homes s known (Gets_name variable given form) g is n = absurd (cc)
  item_ahead origin item rest names homes s known (Stays_plain given) g is n = absurd (cc)

  -- a region's tree that comes to a stub passes an item first, and the stub passes none
  graft_ahead : (tree : TableTree) → IsRoot tree → (names : Supply) (homes : ℕ → Operand) (s : State) → HomesBelow names.next homes
      → (graft table loop tag tree names homes).tree ≡ Exit to at stub → (n : ℕ) → IsAhead tree (state_at homes s) (graft table loop tag tree names homes).tree s n
  graft_ahead (Does origin item rest) root names homes s known is n =
      item_ahead origin item rest names homes s known (brought names homes item) (brought_same table.arrays names homes s item) is n
  graft_ahead (Asks origin on on_yes on_no) root names homes s known is n = absurd (cc)
  graft_ahead (Next region) root names homes s known is n = absurd root
  graft_ahead Stops_here root names homes s known is n = absurd (cc)
  graft_ahead (Traps_here kind line) root names homes s known is n = absurd (cc)

-- so does a region that opens as a stub
opened_ahead : (table : Table) → TableKeeps table → (region to at : ℕ) (stub : List Home) (s : State)
    → (opened table (innermost_loop table region) region).tree ≡ Exit to at stub
    → GainsUnit (region_run table (Next region) s) (tree_run table (opened table (innermost_loop table region) region).tree s)
opened_ahead table keeps region to at stub s is n =
    let loop = innermost_loop table region in
    let tree = (opened table loop region).tree in
    subst (λ (x : Seen). Answers x (tree_run table tree s n) x.end) (first_same table keeps region (suc n) s)
    (subst (λ (r : TableTree). Answers (run_from (region_step table) (suc n) (record { tree = r; state = state_at first_home s })) (tree_run table tree s n)
    (run_from (region_step table) (suc n) (record { tree = r; state = state_at first_home s })).end)
    (keeps.begins region)
    (graft_ahead table keeps loop 0 to at stub (region_tree table region) (region_root table keeps region) first_supply first_home s first_home-below is n))

-- ---- unwinding

-- a tree that is an end
abbrev IsEnd : Tree → Type 0
IsEnd Stop_exit = Unit {0}
IsEnd (Trap_exit kind line) = Unit {0}
IsEnd tree = ⊥

module _ (table : Table) (loop : Option ℕ) where
  -- what had an item or a test still has one where a stub was unwound
  unwound_bare : {names after : Supply} {t u : Tree} → Unwound table loop names after t u → IsBare u → IsBare t
  unwound_bare (at_stub region tag homes tree is kept) bare = tt
  unwound_bare (below tag origin item u) bare = bare
  unwound_bare (at_yes tag origin on other u) bare = bare
  unwound_bare (at_no tag origin on one u) bare = bare

  -- and in an end there is none to be unwound
  unwound_end : {names after : Supply} {t u : Tree} → Unwound table loop names after t u → IsEnd t → ⊥
  unwound_end (at_stub region tag homes tree is kept) ends = ends
  unwound_end (below tag origin item u) ends = ends
  unwound_end (at_yes tag origin on other u) ends = ends
  unwound_end (at_no tag origin on one u) ends = ends

  unwinds_bare : (window : ℕ) (g k : Grafted) → Unwinds table loop window g k → IsBare k.tree → IsBare g.tree
  unfolding IsUnwound
  unwinds_bare window a b (unwinds_no_more g e) bare = bare
  unwinds_bare window a b (unwinds_once g h k e u) bare =
      let at = once_is table loop window g h e in
      unwound_bare (unwound_is table loop at.least g.names g.tree h at.is) (unwinds_bare window h k u bare)

  unwinds_end : (window : ℕ) (g k : Grafted) → Unwinds table loop window g k → IsEnd g.tree → IsEnd k.tree
  unfolding IsUnwound
  unwinds_end window a b (unwinds_no_more g e) ends = ends
  unwinds_end window a b (unwinds_once g h k e u) ends =
      let at = once_is table loop window g h e in
      absurd (unwound_end (unwound_is table loop at.least g.names g.tree h at.is) ends)

-- ---- tidying

-- a walk passes something where there is an item or a test
walks_some : (lengths : List ℕ) (tree : Tree) (s : State) → (IsBare tree → ⊥) → 1 ≤ walk_length lengths tree s
walks_some lengths (Pending tag origin item rest) s items = omega arith
walks_some lengths (Undecided tag origin on on_yes on_no) s items = omega arith
walks_some lengths (Exit region tag homes) s items = absurd (items tt)
walks_some lengths Stop_exit s items = absurd (items tt)
walks_some lengths (Trap_exit kind line) s items = absurd (items tt)

-- a tree with an item that is tidied to a stub passes that item, and the stub passes none
tidied_ahead : (table : Table) (tree : Tree) (to at : ℕ) (stub : List Home) (s : State) → NeverFaults (tree_run table tree s) → (IsBare tree → ⊥)
    → tidied tree ≡ Exit to at stub → GainsUnit (tree_run table tree s) (tree_run table (tidied tree) s)
tidied_ahead table tree to at stub s never items is n =
    let ok = never_whole table tree s never in
    let long = walk_length table.arrays tree s in
    let some = walks_some table.arrays tree s items in
    let walks = (tidied_tidy table.arrays tree).walks s in
    let none : walk_length table.arrays (tidied tree) s ≡ 0 = ap (λ (t : Tree). walk_length table.arrays t s) is in
    let late : tree_run table tree s (long + n) ≡ tree_run table (tidied tree) s n =
    tree_late table tree s (long + n) n ok refl ∙ ap (λ (w : Walked). counted table w n) (sym walks)
    ∙ sym (tree_late table (tidied tree) s n n (subst IsWhole (sym walks) ok) (omega (arith, none))) in
    let more : suc n ≤ long + n = omega (arith, some) in
    subst (λ (y : Seen). Answers (tree_run table tree s (suc n)) y (tree_run table tree s (suc n)).end) late
    (run_from-answers (window_step table) (suc n) (long + n) (enter table tree s) more)

tidied_end : (tree : Tree) → IsEnd tree → IsEnd (tidied tree)
tidied_end (Pending tag origin item rest) ends = absurd ends
tidied_end (Undecided tag origin on on_yes on_no) ends = absurd ends
tidied_end (Exit region tag homes) ends = absurd ends
tidied_end Stop_exit ends = tt
tidied_end (Trap_exit kind line) ends = tt

-- ---- the first window

module _ (rules : Rules) (keeps : TableKeeps rules.table) (region : ℕ) (first_opened first : Window) (opens : Opens rules.table rules.limits region first_opened)
    (settles : Settles rules first_opened first) (proper : IsProper first_opened) (to at : ℕ) (stub : List Home) (is_stub : whole first.front ≡ Exit to at stub)
    (s : State) (never : NeverFaults (region_run rules.table (Next region) s)) where
  abbrev table : Table
  table = rules.table

  abbrev unwound : Window
  unwound = settles.unwound

  abbrev grown : Grafted
  grown = settles.unwinds.unwound

  unwound_tree : whole unwound.front ≡ grown.tree
  unwound_tree = ap (λ (w : Window). whole w.front) settles.unwinds.is ∙ whole_front_of grown.tree

  tidied_tree : whole first.front ≡ tidied (whole unwound.front)
  tidied_tree = ap (λ (w : Window). whole w.front) settles.tidies ∙ whole_front_of (tidied (whole unwound.front))

  never_opened : NeverFaults (window_run table first_opened s)
  never_opened =
      NeverFaults-follows (window_run table first_opened s) (region_run table (Next region) s)
      (opens_alike table keeps rules.limits region first_opened opens s).agree.forth never

  -- the region's window, opened, is not behind it, and neither is what it is unwound to
  opened_level : (n : ℕ) → Answers (region_run table (Next region) s n) (window_run table first_opened s n) (region_run table (Next region) s n).end
  opened_level n = (opens_alike table keeps rules.limits region first_opened opens s).pace n

  -- where it has an item or a test, the stub is a unit ahead of what it is unwound to
  by_items : (IsBare (whole first_opened.front) → ⊥) → GainsUnit (region_run table (Next region) s) (window_run table first s)
  by_items items n =
      let o = opens_alike table keeps rules.limits region first_opened opens s in
      let k = unwinds_keep table keeps rules.number first_opened unwound settles.unwinds proper s o.forms never_opened in
      let has : IsBare (whole unwound.front) → ⊥ =
      λ bare. items (unwinds_bare table first_opened.inside rules.number (grafted_of first_opened) grown settles.unwinds.unwinds (subst IsBare unwound_tree bare)) in
      let ahead = tidied_ahead table (whole unwound.front) to at stub s (never_kept table first_opened unwound s k never_opened) has (sym tidied_tree ∙ is_stub) n in
      let X = region_run table (Next region) s (suc n) in
      answer_of_answer X (window_run table first_opened s (suc n)) (window_run table first s n) (opened_level (suc n))
      (answer_of_answer (window_run table first_opened s (suc n)) (window_run table unwound s (suc n)) (window_run table first s n) (k.pace (suc n))
      (subst (λ (t : Tree). Answers (window_run table unwound s (suc n)) (tree_run table t s n) (window_run table unwound s (suc n)).end) (sym tidied_tree) ahead))

  -- where it is a stub itself, it is a unit ahead of the region
  by_stub : (to' at' : ℕ) (stub' : List Home) → whole first_opened.front ≡ Exit to' at' stub' → GainsUnit (region_run table (Next region) s) (window_run table first s)
  by_stub to' at' stub' is n =
      let o = opens_alike table keeps rules.limits region first_opened opens s in
      let k = unwinds_keep table keeps rules.number first_opened unwound settles.unwinds proper s o.forms never_opened in
      let m = tidies_keep table unwound first settles.tidies s k.forms (never_kept table first_opened unwound s k never_opened) in
      let X = region_run table (Next region) s (suc n) in
      let tree_is : whole first_opened.front ≡ (opened table (innermost_loop table region) region).tree =
      ap (λ (w : Window). whole w.front) opens ∙ whole_front_of (opened table (innermost_loop table region) region).tree in
      let ahead : Answers X (window_run table first_opened s n) X.end =
      subst (λ (t : Tree). Answers X (tree_run table t s n) X.end) (sym tree_is) (opened_ahead table keeps region to' at' stub' s (sym tree_is ∙ is) n) in
      answer_of_answer X (window_run table first_opened s n) (window_run table first s n) ahead
      (answer_of_answer (window_run table first_opened s n) (window_run table unwound s n) (window_run table first s n) (k.pace n) (m.pace n))

  -- it is no end
  by_end : IsEnd (whole first_opened.front) → ⊥
  by_end ends =
      let end = tidied_end (whole unwound.front) (subst IsEnd (sym unwound_tree)
      (unwinds_end table first_opened.inside rules.number (grafted_of first_opened) grown settles.unwinds.unwinds ends)) in
      subst IsEnd (sym tidied_tree ∙ is_stub) end

  -- so the stub is a unit ahead of the region
  pub first_ahead : GainsUnit (region_run table (Next region) s) (window_run table first s)
  first_ahead = by_tree (whole first_opened.front) refl
    where
      by_tree : (tree : Tree) → whole first_opened.front ≡ tree → GainsUnit (region_run table (Next region) s) (window_run table first s)
      by_tree (Pending tag origin item rest) is = by_items (λ bare. subst IsBare is bare)
      by_tree (Undecided tag origin on on_yes on_no) is = by_items (λ bare. subst IsBare is bare)
      by_tree (Exit to' at' stub') is = by_stub to' at' stub' is
      by_tree Stop_exit is = absurd (by_end (subst IsEnd (sym is) tt))
      by_tree (Trap_exit kind line) is = absurd (by_end (subst IsEnd (sym is) tt))
