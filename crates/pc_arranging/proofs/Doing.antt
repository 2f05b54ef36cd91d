-- Steps as code does them, in windows in memory.
use Rattle.std.proofs.lemmas.List.{drop_more}
use Rattle.std.proofs.Math.ListN.{get_or}
use Rattle.std.proofs.Common.{◌≡◌, ◌↔◌, ℕ, zero, suc, drop, ◌+◌, ◌<◌, ◌≤◌, ◌^◌, Bool, true, false, List, ◌∷◌, [], Option, Some, None, Result, Ok, Err, length, refl, sym, ◌∙◌, ap, subst, arith}
use Rattle.std.specs.Prelude.{IfOk}
use Rattle.pc_word.proofs.Truth.{failed, held}
use Rattle.pc_table.specs.declared.table.RegionTable.{RegionTable}
use Rattle.pc_table.specs.StoredTable.{table_of}
use Rattle.pc_table.specs.Table.{Table}
use Rattle.pc_window.specs.declared.names.NameTable.{NameTable}
use Rattle.pc_window.specs.declared.tree.WindowTree.{WindowTree}
use Rattle.pc_window.specs.declared.window.Window.{Window as StoredWindow}
use Rattle.pc_window.specs.Tree.{Tree, whole, tree_size}
use Rattle.pc_window.specs.There.{PartsAreThere}
use Rattle.pc_window.specs.Opening.{Grafted}
use Rattle.pc_window.specs.WindowRun.{Window}
use Rattle.pc_window.specs.StoredWindow.{tree_in, front_in, supply_in, window_in, InNodes, NodesBehind}
use Rattle.pc_window.proofs.WindowsStored.{whole_in, below_behind}
use Rattle.pc_fill.specs.Bringing.{IsBrought, BringsOrNot}
use Rattle.pc_cert.specs.declared.certificate.Step.{Step}
use Rattle.pc_cert.specs.declared.certificate.Step.TheVariants.{Bring, Join, Open, Enter, Use}
use Rattle.pc_arranging.specs.Numbering.{place_across}
use Rattle.pc_arranging.specs.Stubs.{opened_at}
use Rattle.pc_arranging.specs.Exchanging.{used_at}
use Rattle.pc_arranging.specs.Naming.{entered_at}
use Rattle.pc_arranging.specs.Arranging as steps
use Rattle.pc_arranging.specs.Arranging.{most_names, begun, over_tree, Does, brings, joins, IsSmall, IsStepped, AreDone, none_left, one_done, ArrangesOrNot}
use Rattle.pc_arranging.specs.CanArrange.{most_tag, CanArrange, IsArrangedIn, ArrangedIn}
use Rattle.pc_arranging.specs.models.Doing.{made_if, tree_if, DoesOrNot, StepsOrNot, GoesOn}
use Rattle.pc_arranging.proofs.Begun.{unfinished_in}
use Rattle.pc_arranging.proofs.Kept.{step_kept, begun_kept}
use Rattle.pc_arranging.proofs.Once.{does_once}

-- ---- room

module _ (table : Table) (w : StoredWindow) (it : IsArrangedIn table w) where
  same_size : tree_size (whole (front_in w.tree)) ≡ tree_size (tree_in w.tree)
  same_size = ap tree_size (whole_in w.tree)

  pub room_for_counts : tree_size (tree_in w.tree) < 1073741824
  room_for_counts = let s = it.can.small.size in let same = same_size in omega arith

  pub room_to_bring : tree_size (tree_in w.tree) < 2147483648
  room_to_bring = let s = it.can.small.size in let same = same_size in omega arith

  pub room_for_names : length w.names.forms < 2147483648
  room_for_names = let s = it.can.small.names in omega arith

  pub room_for_variables : w.names.next_variable < 2147483648
  room_for_variables = let s = it.can.small.variables in omega arith

  -- the same of its tree, taken apart
  module _ (tree : WindowTree) (same : tree_in tree ≡ tree_in w.tree) where
    pub parts_in : PartsAreThere table most_tag (tree_in tree)
    parts_in = subst (PartsAreThere table most_tag) (whole_in w.tree ∙ sym same) it.can.parts

    pub counts_in : tree_size (tree_in tree) < 1073741824
    counts_in = let a = room_for_counts in let b : tree_size (tree_in tree) ≡ tree_size (tree_in w.tree) = ap tree_size same in omega arith

    pub few_in : tree_size (tree_in tree) < 536870912
    few_in =
        let s = it.can.small.size in let same_whole = same_size in
        let b : tree_size (tree_in tree) ≡ tree_size (tree_in w.tree) = ap tree_size same in omega arith

pub ruleset room = (room_for_counts, room_to_bring, room_for_names, room_for_variables, parts_in, counts_in)

-- ---- each step

module _ (table : Table) (w : StoredWindow) where
  -- what is brought
  pub bring_tried : {E : Type 0} (step : Step) (place : ℕ) (r : Result (Option StoredWindow) E) → step ≡ Bring place → IfOk r (λ it. BringsOrNot place None (window_in w) it)
      → IfOk r (λ it. DoesOrNot table step (window_in w) it)
  bring_tried step place (Ok it) e h = subst (λ (s : Step). DoesOrNot table s (window_in w) it) (sym e) (by_it it h)
    where
      never : ((v : Window) → IsBrought place None (window_in w) v → ⊥) → (v : Window) → Does table (Bring place) (window_in w) v → ⊥
      never f v (brings place' b) = f v b

      by_it : (it : Option StoredWindow) → BringsOrNot place None (window_in w) it → DoesOrNot table (Bring place) (window_in w) it
      by_it (Some later) k = (brings place k.0, k.1)
      by_it None k = never k
  bring_tried step place (Err e') e h = tt

  module _ (test one other : ℕ) where
    pub join_none : None ≡ place_across (front_in w.tree) test one other → DoesOrNot table (Join test one other) (window_in w) None
    join_none none v (joins test' one' other' across at b) = absurd (let e : None ≡ Some across = none ∙ at in cc)

    pub join_some : {E : Type 0} (k : ℕ) (r : Result (Option StoredWindow) E) → Some k ≡ place_across (front_in w.tree) test one other
        → IfOk r (λ it. BringsOrNot one (Some k) (window_in w) it) → IfOk r (λ it. DoesOrNot table (Join test one other) (window_in w) it)
    join_some k (Ok it) some h = by_it it h
      where
        at_k : place_across (front_in w.tree) test one other ≡ Some k
        at_k = sym some

        one_place : (m n : ℕ) → Some m ≡ Some n → m ≡ n
        one_place m n e = cc

        never : ((v : Window) → IsBrought one (Some k) (window_in w) v → ⊥) → (v : Window) → Does table (Join test one other) (window_in w) v → ⊥
        never f v (joins test' one' other' across at b) =
            f v (subst (λ (n : ℕ). IsBrought one (Some n) (window_in w) v) (one_place across k (sym at ∙ at_k)) b)

        by_it : (it : Option StoredWindow) → BringsOrNot one (Some k) (window_in w) it → DoesOrNot table (Join test one other) (window_in w) it
        by_it (Some later) h = (joins test one other k at_k h.0, h.1)
        by_it None h = never h
    join_some k (Err e) some h = tt

  -- what is opened
  module _ (leaf : ℕ) (tree : WindowTree) (same : tree_in tree ≡ tree_in w.tree) where
    whole_same : whole (front_in w.tree) ≡ tree_in tree
    whole_same = whole_in w.tree ∙ sym same

    pub open_none : (made : Grafted) (done : Bool) → opened_at table false w.inside (supply_in w.names) (tree_in tree) leaf ≡ made_if done made → done ≡ false
        → DoesOrNot table (Open leaf) (window_in w) None
    open_none made done is e v (steps.opens leaf' made' is' same') =
        let there = ap (λ (t : Tree). opened_at table false w.inside (supply_in w.names) t leaf) (sym whole_same) ∙ is' in
        absurd (let f : None ≡ Some made' = ap (λ (b : Bool). made_if b made) (sym e) ∙ sym is ∙ there in cc)

    pub open_some : (new : WindowTree) (names : NameTable) (done : Bool)
        → opened_at table false w.inside (supply_in w.names) (tree_in tree) leaf ≡ made_if done (record { tree = tree_in new; names = supply_in names })
        → done ≡ true → InNodes false new → DoesOrNot table (Open leaf) (window_in w) (Some (record { tree = new; names = names; limits = w.limits; inside = w.inside }))
    open_some new names done is e single =
        let made : Grafted = record { tree = tree_in new; names = supply_in names } in (
          steps.opens leaf made
              (ap (λ (t : Tree). opened_at table false w.inside (supply_in w.names) t leaf) whole_same ∙ is ∙ ap (λ (b : Bool). made_if b made) e)
              (unfinished_in new names w.limits w.inside single),
          below_behind new single,
        )

  -- what is exchanged
  module _ (copy part : ℕ) (tree : WindowTree) (same : tree_in tree ≡ tree_in w.tree) where
    whole_used : whole (front_in w.tree) ≡ tree_in tree
    whole_used = whole_in w.tree ∙ sym same

    pub use_none : (made : Tree) (done : Bool) → used_at (tree_in tree) copy part ≡ tree_if done made → done ≡ false → DoesOrNot table (Use copy part) (window_in w) None
    use_none made done is e v (steps.uses_copy copy' part' made' is' same') =
        absurd (let f : None ≡ Some made' = ap (λ (b : Bool). tree_if b made) (sym e) ∙ sym is ∙ ap (λ (t : Tree). used_at t copy part) (sym whole_used) ∙ is' in cc)

    pub use_some : (new : WindowTree) (done : Bool) → used_at (tree_in tree) copy part ≡ tree_if done (tree_in new) → done ≡ true → InNodes false new
        → DoesOrNot table (Use copy part) (window_in w) (Some (record { tree = new; names = w.names; limits = w.limits; inside = w.inside }))
    use_some new done is e single = (
      steps.uses_copy copy part (tree_in new) (ap (λ (t : Tree). used_at t copy part) whole_used ∙ is ∙ ap (λ (b : Bool). tree_if b (tree_in new)) e)
          (unfinished_in new w.names w.limits w.inside single),
      below_behind new single,
    )

  pub as_step : (step s : Step) (it : Option StoredWindow) → step ≡ s → DoesOrNot table s (window_in w) it → DoesOrNot table step (window_in w) it
  as_step step s it e h = subst (λ (x : Step). DoesOrNot table x (window_in w) it) (sym e) h

  pub join_tried : {E : Type 0} (step s : Step) (r : Result (Option StoredWindow) E) → step ≡ s → IfOk r (λ it. DoesOrNot table s (window_in w) it)
      → IfOk r (λ it. DoesOrNot table step (window_in w) it)
  join_tried step s (Ok it) e h = as_step step s it e h
  join_tried step s (Err e') e h = tt

  -- what is entered
  module _ (leaf : ℕ) (tree : WindowTree) (same : tree_in tree ≡ tree_in w.tree) where
    whole_entered : whole (front_in w.tree) ≡ tree_in tree
    whole_entered = whole_in w.tree ∙ sym same

    abbrev entering_of : Tree → Option Grafted
    entering_of t = entered_at table w.inside (record { tree = t; names = supply_in w.names }) leaf

    pub enter_none : (made : Grafted) (done : Bool) → entered_at table w.inside (record { tree = tree_in tree; names = supply_in w.names }) leaf ≡ made_if done made → done ≡ false
        → DoesOrNot table (Enter leaf) (window_in w) None
    enter_none made done is e v (steps.enters leaf' made' is' same') =
        let there = ap entering_of (sym whole_entered) ∙ is' in
        absurd (let f : None ≡ Some made' = ap (λ (b : Bool). made_if b made) (sym e) ∙ sym is ∙ there in cc)

    pub enter_some : (new : WindowTree) (names : NameTable) (done : Bool)
        → entered_at table w.inside (record { tree = tree_in tree; names = supply_in w.names }) leaf ≡ made_if done (record { tree = tree_in new; names = supply_in names })
        → done ≡ true → InNodes false new → DoesOrNot table (Enter leaf) (window_in w) (Some (record { tree = new; names = names; limits = w.limits; inside = w.inside }))
    enter_some new names done is e single =
        let made : Grafted = record { tree = tree_in new; names = supply_in names } in (
          steps.enters leaf made (ap entering_of whole_entered ∙ is ∙ ap (λ (b : Bool). made_if b made) e) (unfinished_in new names w.limits w.inside single),
          below_behind new single,
        )

pub ruleset joining = (room, join_none, join_some)

pub ruleset opening = (room, open_none, open_some)

pub ruleset entering = (room, enter_none, enter_some)

pub ruleset exchanging = (room, use_none, use_some)

pub ruleset trying = (room, bring_tried, join_tried, as_step)

-- ---- one step, and all

module _ (table : RegionTable) (w : StoredWindow) (step : Step) where
  pub steps_none : DoesOrNot (table_of table) step (window_in w) None → StepsOrNot (table_of table) step w None
  steps_none never v h = never v h.does

  module _ (later : StoredWindow) (does : DoesOrNot (table_of table) step (window_in w) (Some later)) (b : Bool) (iff : (b ≡ true) ↔ IsSmall (window_in later)) where
    pub steps_large : b ≡ false → StepsOrNot (table_of table) step w None
    steps_large e v h =
        let same : v ≡ window_in later = does_once (table_of table) step (window_in w) v (window_in later) h.does does.0 in
        failed iff e (subst IsSmall same h.small)

    pub steps_on : b ≡ true → IsArrangedIn (table_of table) w → StepsOrNot (table_of table) step w (Some later)
    steps_on e it =
        let s : IsStepped (table_of table) step (window_in w) (window_in later) = record { does = does.0; small = held iff e } in
        (s, record { can = step_kept (table_of table) table.kept step (window_in w) (window_in later) it.can s; nodes = does.1 })

pub ruleset stepping = (steps_none, steps_large, steps_on)

pub begins_arranged : (table : Table) (w now : StoredWindow) → CanArrange table (window_in w) → window_in now ≡ begun (window_in w) → NodesBehind now.tree → IsArrangedIn table now
begins_arranged table w now can is nodes = record { can = subst (CanArrange table) (sym is) (begun_kept table (window_in w) can); nodes = nodes }

pub goes_from_start : (table : Table) (all : List Step) (w now : StoredWindow) → window_in now ≡ begun (window_in w) → GoesOn table all (begun (window_in w)) all (window_in now)
goes_from_start table all w now is = record {
  on = λ v h. subst (λ (x : Window). AreDone table all x v) is h;
  back = λ v h. subst (λ (x : Window). AreDone table all x v) (sym is) h;
}

module _ (table : Table) (all : List Step) (start : Window) (now : StoredWindow) (step : Step) (rest : List Step) (on : GoesOn table all start (step ∷ rest) (window_in now)) where
  inverted : (v : Window) → AreDone table (step ∷ rest) (window_in now) v → (u : Window) × IsStepped table step (window_in now) u × AreDone table rest u v
  inverted v (one_done {v = u} first more) = (u, first, more)

  pub goes_further : (later : StoredWindow) → IsStepped table step (window_in now) (window_in later) → GoesOn table all start rest (window_in later)
  goes_further later s = record {
    on = λ v h. on.on v (one_done s h);
    back = λ v h.
        let k = inverted v (on.back v h) in
        subst (λ (x : Window). AreDone table rest x v) (does_once table step (window_in now) k.0 (window_in later) k.1.does s.does) k.2;
  }

  pub goes_nowhere : ((v : Window) → IsStepped table step (window_in now) v → ⊥) → (v : Window) → AreDone table all start v → ⊥
  goes_nowhere never v h = let k = inverted v (on.back v h) in never k.0 k.1

pub goes_to_end : (table : Table) (all : List Step) (start : Window) (now : StoredWindow) → GoesOn table all start [] (window_in now) → AreDone table all start (window_in now)
goes_to_end table all start now on = on.on (window_in now) none_left

-- nothing is left past the end
past : (xs : List Step) (i : ℕ) → length xs ≤ i → drop i xs ≡ []
past [] zero le = refl
past [] (suc i) le = refl
past (x ∷ xs) zero le = absurd (omega arith)
past (x ∷ xs) (suc i) le = past xs i (omega arith)

-- the loop over the steps
module _ (table : RegionTable) (all : List Step) (start : Window) (now : StoredWindow) (i : ℕ) (on : GoesOn (table_of table) all start (drop i all) (window_in now)) where
  module _ (d : Step) (it : Option StoredWindow) (within : i < length all) (done : StepsOrNot (table_of table) (get_or all i d) now it) where
    here : GoesOn (table_of table) all start (get_or all i d ∷ drop (i + 1) all) (window_in now)
    here = subst (λ (rest : List Step). GoesOn (table_of table) all start rest (window_in now)) (drop_more all i d within) on

    pub loop_on : (later : StoredWindow) → it ≡ Some later
        → GoesOn (table_of table) all start (drop (i + 1) all) (window_in later) × IsArrangedIn (table_of table) later
    loop_on later is =
        let k : StepsOrNot (table_of table) (get_or all i d) now (Some later) = subst (StepsOrNot (table_of table) (get_or all i d) now) is done in
        (goes_further (table_of table) all start now (get_or all i d) (drop (i + 1) all) here later k.0, k.1)

    pub loop_stops : it ≡ None → (v : Window) → AreDone (table_of table) all start v → ⊥
    loop_stops is =
        goes_nowhere (table_of table) all start now (get_or all i d) (drop (i + 1) all) here (subst (StepsOrNot (table_of table) (get_or all i d) now) is done)

  pub loop_ends : length all ≤ i → AreDone (table_of table) all start (window_in now)
  loop_ends end =
      goes_to_end (table_of table) all start now (subst (λ (rest : List Step). GoesOn (table_of table) all start rest (window_in now)) (past all i end) on)

pub ruleset arranging = (begins_arranged, goes_from_start)
