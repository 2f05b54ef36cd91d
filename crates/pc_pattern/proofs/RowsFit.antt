-- The rows of a search's states are within its limits.
use Rattle.std.proofs.Common.{◌≡◌, ℕ, suc, ◌+◌, ◌≤◌, List, [], ◌∷◌, ◌++◌, length, map, length-append, refl, sym, ◌∙◌, ap, subst, arith}
use Rattle.std.specs.Prelude.{Bool, true, false, cond, if◌then◌else◌, slice_get, Some}
use Rattle.std.specs.List.{AllByRecursion, count_by}
use Rattle.pc_word.specs.declared.item.Item.{Item}
use Rattle.pc_word.specs.declared.item.Item.TheVariants.{Bin, Copy, Load, Store, Print, Read, More}
use Rattle.pc_word.specs.declared.item.Limits.{Limits}
use Rattle.pc_word.specs.Items.{is_memory, is_effect}
use Rattle.pc_word.specs.Row.{Row, Then, Either, At_leaf, items_of, tests_of, paths_of}
use Rattle.pc_word.proofs.Lists.{all_both, all_at, count_more, count_both}
use Rattle.pc_table.specs.Table.{Table}
use Rattle.pc_table.specs.TableKeeps.{TableKeeps}
use Rattle.pc_window.specs.Tree.{Tree, Pending, Undecided, Exit, Stop_exit, Trap_exit, Front, Issued, Split, Unfinished, whole, tree_size}
use Rattle.pc_table.specs.Loops.{is_inside}
use Rattle.pc_window.specs.WindowRun.{Window}
use Rattle.pc_window.specs.Filled.{MostBehind}
use Rattle.pc_window.specs.Kept.{Left, Rest, Gone}
use Rattle.pc_window.specs.Steps.{LeftIs, EachLeft, Positive, IsProper, Cuts, with_tree, left_of, front_row, cut_row}
use Rattle.pc_window.proofs.CutRows.{whole_front_of}
use Rattle.pc_window.proofs.Filling.{filling_limits}
use Rattle.pc_window.proofs.LegalRows.{rows_are_legal}
use Rattle.pc_window.proofs.Proper.{fills_proper}
use Rattle.pc_window.specs.Names.{uses}
use Rattle.pc_renumber.proofs.Renumbered.{renumbered_limits}
use Rattle.pc_automaton.specs.Automaton.{AutomatonState}
use Rattle.pc_automaton.specs.RowFits.{RowFits}
use Rattle.pc_canon.specs.Pairs.{Pair}
use Rattle.pc_pattern.specs.NamedRow.{RowsNamed, named_item, named_test, named_leaf}
use Rattle.pc_pattern.specs.Searches.{Rules, Settles, BringsOn, Looks, looks_new, looks_known, looks_bare, looks_out, looks_end, looks_trap, Search}
use Rattle.pc_pattern.specs.Searches.{begins, takes, looks, IsClosed, Automates}
use Rattle.pc_pattern.proofs.Members.{EachLeft-leaves, members_proper, state_of}
use Rattle.pc_word.specs.Naming.{with_dest}

-- ---- rows that differ in names alone

same_memory : (name : ℕ) (item : Item) → is_memory (with_dest name item) ≡ is_memory item
same_memory name (Bin op d l r) = refl
same_memory name (Copy d from) = refl
same_memory name (Load d a i) = refl
same_memory name (Store a i v) = refl
same_memory name (Print v) = refl
same_memory name (Read d) = refl
same_memory name (More d) = refl

same_effect : (name : ℕ) (item : Item) → is_effect (with_dest name item) ≡ is_effect item
same_effect name (Bin op d l r) = refl
same_effect name (Copy d from) = refl
same_effect name (Load d a i) = refl
same_effect name (Store a i v) = refl
same_effect name (Print v) = refl
same_effect name (Read d) = refl
same_effect name (More d) = refl

-- as many prints, reads and mores, place by place in two lists of paths
abbrev SameEffects : List (List Item) → List (List Item) → Type 0
SameEffects [] [] = Unit {0}
SameEffects (xs ∷ one) (ys ∷ other) = (count_by is_effect ys ≡ count_by is_effect xs) × SameEffects one other
SameEffects _ _ = ⊥

effects_both : (one other one' other' : List (List Item)) → SameEffects one other → SameEffects one' other'
    → SameEffects (one ++ one') (other ++ other')
effects_both [] [] one' other' h k = k
effects_both (xs ∷ one) (ys ∷ other) one' other' h k = (h.0, effects_both one other one' other' h.1 k)
effects_both [] (ys ∷ other) one' other' h k = absurd h
effects_both (xs ∷ one) [] one' other' h k = absurd h

effects_below : (x y : Item) → is_effect y ≡ is_effect x → (one other : List (List Item)) → SameEffects one other
    → SameEffects (map (λ path. x ∷ path) one) (map (λ path. y ∷ path) other)
effects_below x y e [] [] h = tt
effects_below x y e (xs ∷ one) (ys ∷ other) h = (
  count_more is_effect y ys ∙ (λ i. cond (e i) 1 0 + h.0 i) ∙ sym (count_more is_effect x xs),
  effects_below x y e one other h.1,
)
effects_below x y e [] (ys ∷ other) h = absurd h
effects_below x y e (xs ∷ one) [] h = absurd h

effects_all : (one other : List (List Item)) → SameEffects one other → AllByRecursion (λ path. count_by is_effect path ≤ 1) one
    → AllByRecursion (λ path. count_by is_effect path ≤ 1) other
effects_all [] [] h k = tt
effects_all (xs ∷ one) (ys ∷ other) h k = ((let e = h.0 in let le = k.0 in omega (arith, e, le)), effects_all one other h.1 k.1)
effects_all [] (ys ∷ other) h k = absurd h
effects_all (xs ∷ one) [] h k = absurd h

-- the same counts
record SameCounts {L M : Type 0} (row : Row L) (other : Row M) : Type 0 where
  items : length (items_of other) ≡ length (items_of row)
  tests : length (tests_of other) ≡ length (tests_of row)
  memory : count_by is_memory (items_of other) ≡ count_by is_memory (items_of row)
  effects : SameEffects (paths_of row) (paths_of other)

named_counts : {L M : Type 0} {R : List Pair → L → M → Type 0} {names : List Pair} {row : Row L} {other : Row M} → RowsNamed R names row other
    → SameCounts row other
named_counts (named_item {item} {rest} {other} name h) =
    let k = named_counts h in
    record {
      items = ap (λ (n : ℕ). suc n) k.items;
      tests = k.tests;
      memory = count_more is_memory (with_dest name item) (items_of other) ∙ (λ i. cond (same_memory name item i) 1 0 + k.memory i)
          ∙ sym (count_more is_memory item (items_of rest));
      effects = effects_below item (with_dest name item) (same_effect name item) (paths_of rest) (paths_of other) k.effects;
    }
named_counts (named_test {on} {on_yes} {on_no} {other_yes} {other_no} h g) =
    let k = named_counts h in
    let m = named_counts g in
    record {
      items = length-append (items_of other_yes) (items_of other_no) ∙ (λ i. k.items i + m.items i)
          ∙ sym (length-append (items_of on_yes) (items_of on_no));
      tests = ap (λ (n : ℕ). suc n) (length-append (tests_of other_yes) (tests_of other_no) ∙ (λ i. k.tests i + m.tests i)
          ∙ sym (length-append (tests_of on_yes) (tests_of on_no)));
      memory = count_both is_memory (items_of other_yes) (items_of other_no) ∙ (λ i. k.memory i + m.memory i)
          ∙ sym (count_both is_memory (items_of on_yes) (items_of on_no));
      effects = effects_both (paths_of on_yes) (paths_of other_yes) (paths_of on_no) (paths_of other_no) k.effects m.effects;
    }
named_counts (named_leaf h) = record { items = refl; tests = refl; memory = refl; effects = (refl, tt) }

-- ---- the limits of a search

-- what a window that is left has of the window that is cut
pub record LeftFrom (w : Window) (n : ℕ) (v : Window) : Type 0 where
  pub limits : v.limits ≡ w.limits
  pub next : v.next ≡ w.next
  pub size : tree_size (whole v.front) ≤ n

left_from : (w : Window) (n : ℕ) (tree : Tree) → tree_size tree ≤ n → LeftFrom w n (with_tree w tree)
left_from w n tree le = record { limits = refl; next = refl; size = subst (λ (t : Tree). tree_size t ≤ n) (sym (whole_front_of tree)) le }

part_from : (table : Table) (w : Window) (n : ℕ) (tree : Tree) → tree_size tree ≤ n → LeftIs (LeftFrom w n) (left_of table w tree)
part_from table w n (Pending t o x rest) le = left_from w n (Pending t o x rest) le
part_from table w n (Undecided t o on p q) le = left_from w n (Undecided t o on p q) le
part_from table w n (Exit region tag homes) le = by_loop (is_inside table w.inside region)
  where
    by_loop : (c : Bool) → LeftIs (LeftFrom w n) (if c then Rest (with_tree w (Exit region tag homes)) else Gone region homes)
    by_loop true = left_from w n (Exit region tag homes) le
    by_loop false = tt
part_from table w n Stop_exit le = tt
part_from table w n (Trap_exit kind line) le = tt

parts_from : (table : Table) (w : Window) (n : ℕ) (front : Front) → MostBehind n front → EachLeft (LeftFrom w n) (front_row (left_of table w) front)
parts_from table w n (Issued t o x rest) h = parts_from table w n rest h
parts_from table w n (Split t o on p q) h = (parts_from table w n p h.0, parts_from table w n q h.1)
parts_from table w n (Unfinished tree) h = part_from table w n tree h

cut_from : (table : Table) (w : Window) (n : ℕ) (front : Front) → MostBehind n front → EachLeft (LeftFrom w n) (cut_row table w front)
cut_from table w n (Issued t o x rest) h = parts_from table w n (Issued t o x rest) h
cut_from table w n (Split t o on p q) h = parts_from table w n (Split t o on p q) h
cut_from table w n (Unfinished (Pending t o x rest)) h = part_from table w n (Pending t o x rest) h
cut_from table w n (Unfinished (Undecided t o on p q)) h = part_from table w n (Undecided t o on p q) h
cut_from table w n (Unfinished (Exit region tag homes)) h = tt
cut_from table w n (Unfinished Stop_exit) h = tt
cut_from table w n (Unfinished (Trap_exit kind line)) h = tt

-- each window that is left has the limits and names of the window that is cut, and no more stands in it than stood below a leaf
pub cuts_from : (table : Table) (w : Window) (n : ℕ) (row : Row Left) → Cuts table w row → MostBehind n w.front → EachLeft (LeftFrom w n) row
cuts_from table w n row is h = subst (λ (r : Row Left). EachLeft (LeftFrom w n) r) (sym is) (cut_from table w n w.front h)

more_behind : (n m : ℕ) (front : Front) → n ≤ m → MostBehind n front → MostBehind m front
more_behind n m (Issued t o x rest) le h = more_behind n m rest le h
more_behind n m (Split t o on p q) le h = (more_behind n m p le h.0, more_behind n m q le h.1)
more_behind n m (Unfinished tree) le h = omega (arith, h, le)

-- some bound on what stands below the leaves
most_behind : (front : Front) → (n : ℕ) × MostBehind n front
most_behind (Issued t o x rest) = most_behind rest
most_behind (Split t o on p q) =
    let a = most_behind p in
    let b = most_behind q in
    (a.0 + b.0, (more_behind a.0 (a.0 + b.0) p (omega arith) a.1, more_behind b.0 (a.0 + b.0) q (omega arith) b.1))
most_behind (Unfinished tree) = (tree_size tree, omega arith)

settles_limits : (rules : Rules) (w v : Window) → Settles rules w v → v.limits ≡ w.limits
settles_limits rules w v h = ap (λ (u : Window). u.limits) h.tidies ∙ ap (λ (u : Window). u.limits) h.unwinds.is

brings_limits : (rules : Rules) (w v : Window) → BringsOn rules w v → v.limits ≡ w.limits
brings_limits rules w v h = settles_limits rules h.rebased v h.settles ∙ ap (λ (u : Window). u.limits) h.rebases

each_left : (P Q : Window → Type 0) → ((v : Window) → P v → Q v) → (row : Row Left) → EachLeft P row → EachLeft Q row
each_left P Q f (Then item rest) h = each_left P Q f rest h
each_left P Q f (Either on on_yes on_no) h = (each_left P Q f on_yes h.0, each_left P Q f on_no h.1)
each_left P Q f (At_leaf (Rest w)) h = f w h
each_left P Q f (At_leaf left) h = h

module _ (rules : Rules) (region : ℕ) where
  abbrev pub Limited : Window → Type 0
  Limited w = w.limits ≡ rules.limits

  limited_more : {members more : List Window} {left : Left} → Looks rules members left more → LeftIs Limited left → AllByRecursion Limited members
      → AllByRecursion Limited more
  limited_more {members} (looks_new {rest} {brought} {member} brings items new renumbers) p h =
      all_both Limited members (member ∷ []) h
      (ap (λ (u : Window). u.limits) renumbers ∙ renumbered_limits brought ∙ brings_limits rules rest brought brings ∙ p, tt)
  limited_more (looks_known brings items known) p h = h
  limited_more (looks_bare brings bare) p h = h
  limited_more looks_out p h = h
  limited_more looks_end p h = h
  limited_more looks_trap p h = h

  -- each member has the limits of the search
  pub members_limited : {steps number : ℕ} {members : List Window} {lefts : List Left} → Search rules region steps members number lefts
      → AllByRecursion Limited members × AllByRecursion (LeftIs Limited) lefts
  members_limited (begins {opened} {first} opens settles) =
      ((settles_limits rules opened first settles ∙ ap (λ (u : Window). u.limits) opens, tt), tt)
  members_limited (takes {number} {members} {w} {row} search at row_for) =
      let h = members_limited search in
      let same : row_for.filled.limits ≡ rules.limits = filling_limits (uses (whole w.front)) w row_for.filled row_for.fills
      ∙ all_at Limited members number w h.0 at in
      let n = most_behind row_for.filled.front in
      let parts = cuts_from rules.table row_for.filled n.0 row row_for.cuts n.1 in
      (h.0, EachLeft-leaves Limited row (each_left (LeftFrom row_for.filled n.0) Limited (λ v k. k.limits ∙ same) row parts))
  members_limited (looks search adds) = let h = members_limited search in (limited_more adds h.1.0 h.0, h.1.1)

  -- the row of each state is within the limits
  pub states_fit : TableKeeps rules.table → Positive rules.limits → (members : List Window) (states : List AutomatonState)
      → IsClosed rules region members
      → Automates rules members states → (number : ℕ) (state : AutomatonState) → slice_get states number ≡ Some state → RowFits rules.limits state.row
  states_fit keeps room members states closed auto number state at =
      let m = state_of rules keeps room region members states auto number state at in
      let f = m.2 in
      let w = m.0 in
      let p = all_at IsProper members number w (members_proper rules keeps room region closed.1).0 m.1 in
      let legal = rows_are_legal rules.table f.row_for.filled f.cut f.row_for.cuts (fills_proper w f.row_for.filled f.row_for.fills p) in
      let same : f.row_for.filled.limits ≡ rules.limits =
      filling_limits (uses (whole w.front)) w f.row_for.filled f.row_for.fills ∙ all_at Limited members number w (members_limited closed.1).0 m.1 in
      let k = named_counts f.matches in
      let ops = ap (λ (l : Limits). l.ops) same in
      let tests = ap (λ (l : Limits). l.tests) same in
      let mem = ap (λ (l : Limits). l.mem) same in
      let a = legal.items in
      let b = legal.tests in
      let c = legal.memory in
      let d = k.items in
      let e = k.tests in
      let g = k.memory in
      record {
        items = omega (arith, ops, a, d);
        tests = omega (arith, tests, b, e);
        memory = omega (arith, mem, c, g);
        one_effect = effects_all (paths_of f.cut) (paths_of state.row) k.effects legal.one_effect;
      }
