-- How large the windows of a search are.
use Rattle.std.proofs.Common.{◌≡◌, ℕ, suc, ◌+◌, ◌*◌, ◌≤◌, ◌^◌, List, [], ◌∷◌, length, sym, ◌∙◌, ap, subst, arith}
use Rattle.std.specs.Prelude.{Bool, true, false, if◌then◌else◌}
use Rattle.std.specs.List.{AllByRecursion}
use Rattle.pc_word.specs.declared.item.Item.{Item}
use Rattle.pc_word.specs.declared.item.Item.TheVariants.{Bin, Copy, Load, Store, Print, Read, More}
use Rattle.pc_word.specs.MachineLimits.{most_window}
use Rattle.pc_word.specs.SourceLimits.{most_nodes}
use Rattle.pc_word.specs.Row.{Row, Then, Either, At_leaf, leaves_of}
use Rattle.pc_word.proofs.Lists.{all_front, all_back, all_both, all_imply}
use Rattle.pc_table.specs.Table.{Table}
use Rattle.pc_table.specs.TableKeeps.{TableKeeps, most_region_nodes}
use Rattle.pc_window.specs.Tree.{Tree, Pending, Undecided, Exit, Stop_exit, Trap_exit, Front, Issued, Split, Unfinished, whole, tree_size}
use Rattle.pc_window.specs.Names.{uses}
use Rattle.pc_window.specs.Opening.{first_new}
use Rattle.pc_window.specs.Unwinding.{most_unwound}
use Rattle.pc_window.specs.Tidying.{above, tidied}
use Rattle.pc_window.specs.Filled.{MostBehind, Filled, Full, Goes_on, Jump}
use Rattle.pc_window.specs.Opening.{Supply}
use Rattle.pc_window.specs.WindowRun.{Window, supply_of}
use Rattle.pc_window.specs.Kept.{Left, Rest, Gone, Finished, Trapped_at}
use Rattle.pc_window.specs.Steps.{LeftIs, EachLeft, IsProper, FillsTo, Cuts, Tidies, Rebases, opened_window}
use Rattle.pc_window.specs.There.{PartsAreThere, LeftIsThere}
use Rattle.pc_window.proofs.CutRows.{whole_front_of}
use Rattle.pc_window.proofs.Sizes.{filling_bounded}
use Rattle.pc_window.proofs.Proper.{given_next}
use Rattle.pc_window.proofs.Rebasing.{rebased-kept}
use Rattle.pc_window.proofs.There.{opened_there, tidies_there, rebases_there, fills_there, cuts_there}
use Rattle.pc_unwind.specs.Unwindable.{CanUnwind}
use Rattle.pc_unwind.proofs.Grown.{has_grown}
use Rattle.pc_unwind.proofs.PartsThere.{parts_higher}
use Rattle.pc_canon.specs.Pairs.{Pair}
use Rattle.pc_renumber.specs.Renumbering.{Renumbers}
use Rattle.pc_renumber.proofs.Renumbered.{renumbered_size, renumbered_names, renumbered_parts}
use Rattle.pc_automaton.specs.declared.automaton.AutomatonLeaf.{AutomatonLeaf}
use Rattle.pc_shifts.specs.Alike.{HasNormalForms}
use Rattle.pc_pattern.specs.Searches.{Rules, Settles, BringsOn}
use Rattle.pc_pattern.specs.models.Pools.{Pool, numbered_known, numbered_new, CanBringOn, names_a_turn, tags_a_turn, IsSmall}
use Rattle.pc_pattern.specs.models.Leading.{WindowLeads, leads_member, leads_bare, LeftLeads, leads_rest, leads_region, leads_end, leads_trap}
use Rattle.pc_pattern.specs.models.Leading.{RowLeads, leads_plain, leads_written, leads_test, leads_leaf, most_in_front}
use Rattle.pc_pattern.proofs.Keeping.{brings_on_keeps}
use Rattle.pc_pattern.proofs.RowsFit.{LeftFrom, cuts_from}

-- ---- trees

-- below each leaf of a front stands no more than in the whole
behind_whole : (n : ℕ) (front : Front) → tree_size (whole front) ≤ n → MostBehind n front
behind_whole n (Issued t o x rest) h = behind_whole n rest (omega (arith, h))
behind_whole n (Split t o on p q) h = (behind_whole n p (omega (arith, h)), behind_whole n q (omega (arith, h)))
behind_whole n (Unfinished tree) h = h

-- tidying makes no tree larger
kept_size : (b : Bool) (tag origin : ℕ) (item : Item) (rest : Tree)
    → tree_size (if b then Pending tag origin item rest else rest) ≤ suc (tree_size rest)
kept_size true tag origin item rest = omega arith
kept_size false tag origin item rest = omega arith

above_size : (tag origin : ℕ) (item : Item) (rest : Tree) → tree_size (above tag origin item rest) ≤ suc (tree_size rest)
above_size tag origin (Bin op d l r) rest = kept_size (uses rest d) tag origin (Bin op d l r) rest
above_size tag origin (Copy d from) rest = omega arith
above_size tag origin (Load d a i) rest = kept_size (uses rest d) tag origin (Load d a i) rest
above_size tag origin (Store a i v) rest = omega arith
above_size tag origin (Print v) rest = omega arith
above_size tag origin (Read d) rest = omega arith
above_size tag origin (More d) rest = kept_size (uses rest d) tag origin (More d) rest

tidied_size : (tree : Tree) → tree_size (tidied tree) ≤ tree_size tree
tidied_size (Pending tag origin item rest) =
    let one = above_size tag origin item (tidied rest) in let other = tidied_size rest in omega (arith, one, other)
tidied_size (Undecided tag origin on one other) = let a = tidied_size one in let b = tidied_size other in omega (arith, a, b)
tidied_size (Exit region tag homes) = omega arith
tidied_size Stop_exit = omega arith
tidied_size (Trap_exit kind line) = omega arith

-- ---- names only grow while a window is filled

jump_next : (known : ℕ → Bool) (w v : Window) → Jump known w v → w.next ≤ v.next
jump_next known w v jump =
    let same = ap (λ (s : Supply). s.next) jump.names in
    let grows = given_next (supply_of w) jump.new jump.comes in
    omega (arith, same, grows)

pub filled_next : (known : ℕ → Bool) (w v : Window) → Filled known w v → w.next ≤ v.next
filled_next known w v (Full u none) = omega arith
filled_next known w v (Goes_on a b c jump first filled) =
    let one = jump_next known a b jump in let other = filled_next known b c filled in omega (arith, one, other)

-- ---- windows that wait

module _ (table : Table) where
  -- what is small after some turns is small after more
  pub later_small : (n m : ℕ) (w : Window) → n ≤ m → IsSmall table n w → IsSmall table m w
  later_small n m w le small = record {
    size = small.size;
    names = (let names = small.names in omega (arith, names, le));
    parts = parts_higher table (tags_a_turn * n) (tags_a_turn * m) (whole w.front) (omega (arith, le)) small.parts;
  }

  pub all_later_small : (n m : ℕ) (ws : List Window) → n ≤ m → AllByRecursion (IsSmall table n) ws → AllByRecursion (IsSmall table m) ws
  all_later_small n m ws le all = all_imply (IsSmall table n) (IsSmall table m) ws (λ w small. later_small n m w le small) all

  -- a window that is left once the front of a small one was filled and cut
  pub record IsRest (turns : ℕ) (w : Window) : Type 0 where
    pub size : tree_size (whole w.front) ≤ most_unwound
    pub names : w.next ≤ names_a_turn * turns + most_in_front
    pub parts : PartsAreThere table (tags_a_turn * turns) (whole w.front)

  -- it may be brought on, if it is proper, for as many turns as there may be
  pub can_bring_on : (turns : ℕ) (w : Window) → turns ≤ 512 → IsProper w → HasNormalForms w → IsRest turns w → CanBringOn table w
  can_bring_on turns w le proper normal rest = record {
    proper = proper;
    normal = normal;
    size = rest.size;
    names = (let names = rest.names in omega (arith, names, le));
    parts = parts_higher table (tags_a_turn * turns) (2 ^ 30) (whole w.front) (omega (arith, le)) rest.parts;
  }

-- ---- each window that is left

-- what holds of all leaves holds of each window that is left
pub leaves-EachLeft : (P : Window → Type 0) (row : Row Left) → AllByRecursion (LeftIs P) (leaves_of row) → EachLeft P row
leaves-EachLeft P (Then item rest) h = leaves-EachLeft P rest h
leaves-EachLeft P (Either on one other) h =
    (leaves-EachLeft P one (all_front (LeftIs P) (leaves_of one) (leaves_of other) h), leaves-EachLeft P other (all_back (LeftIs P) (leaves_of one) (leaves_of other) h))
leaves-EachLeft P (At_leaf left) h = h.0

left_and : (P Q R : Window → Type 0) → ((v : Window) → P v → Q v → R v) → (left : Left) → LeftIs P left → LeftIs Q left → LeftIs R left
left_and P Q R f (Rest w) p q = f w p q
left_and P Q R f (Gone region homes) p q = tt
left_and P Q R f Finished p q = tt
left_and P Q R f (Trapped_at kind line) p q = tt

-- two things that hold of each give a third
pub each_and : (P Q R : Window → Type 0) → ((v : Window) → P v → Q v → R v) → (row : Row Left) → EachLeft P row → EachLeft Q row → EachLeft R row
each_and P Q R f (Then item rest) p q = each_and P Q R f rest p q
each_and P Q R f (Either on one other) p q = (each_and P Q R f one p.0 q.0, each_and P Q R f other p.1 q.1)
each_and P Q R f (At_leaf left) p q = left_and P Q R f left p q

-- what is left of a small window once its front was filled and cut
pub cut_rests : (table : Table) (turns : ℕ) (w filled : Window) (cut : Row Left) → FillsTo w filled → Cuts table filled cut → IsSmall table turns w
    → filled.next ≤ w.next + most_in_front → EachLeft (IsRest table turns) cut
cut_rests table turns w filled cut fills cuts small grown =
    let behind = filling_bounded (uses (whole w.front)) w filled fills most_unwound (behind_whole most_unwound w.front small.size) in
    let from = cuts_from table filled most_unwound cut cuts behind in
    let parts = (cuts_there table (tags_a_turn * turns) filled cut cuts (fills_there table (tags_a_turn * turns) w filled fills small.parts)).leaves in
    let there = all_imply (LeftIsThere table (tags_a_turn * turns)) (LeftIs (λ v. PartsAreThere table (tags_a_turn * turns) (whole v.front))) (leaves_of cut)
    (λ left h. left_there left h) parts in
    each_and (LeftFrom filled most_unwound) (λ v. PartsAreThere table (tags_a_turn * turns) (whole v.front)) (IsRest table turns)
    (λ v f p. record { size = f.size; names = (let next = f.next in let names = small.names in omega (arith, next, names, grown)); parts = p })
    cut from (leaves-EachLeft (λ v. PartsAreThere table (tags_a_turn * turns) (whole v.front)) cut there)
  where
    left_there : (left : Left) → LeftIsThere table (tags_a_turn * turns) left → LeftIs (λ v. PartsAreThere table (tags_a_turn * turns) (whole v.front)) left
    left_there (Rest v) h = h
    left_there (Gone region homes) h = tt
    left_there Finished h = tt
    left_there (Trapped_at kind line) h = tt

-- ---- what is brought on

-- a rebased window has the same tree and as many names
pub rebased_same : (w v : Window) → Rebases w v → IsProper w → (whole v.front ≡ whole w.front) × (v.next ≡ w.next)
rebased_same w v rebases proper = (
  ap (λ (u : Window). whole u.front) rebases ∙ whole_front_of (whole w.front),
  ap (λ (u : Window). u.next) rebases ∙ (rebased-kept (whole w.front) (supply_of w) proper.forms_below proper.names_below).0,
)

-- a tidied window is no larger and has as many names
pub tidied_same : (w v : Window) → Tidies w v → (tree_size (whole v.front) ≤ tree_size (whole w.front)) × (v.next ≡ w.next)
tidied_same w v tidies =
    let less = tidied_size (whole w.front) in
    let same : tree_size (whole v.front) ≡ tree_size (tidied (whole w.front)) =
    ap (λ (u : Window). tree_size (whole u.front)) tidies ∙ ap (λ (t : Tree). tree_size t) (whole_front_of (tidied (whole w.front))) in
    (omega (arith, less, same), ap (λ (u : Window). u.next) tidies)

-- a window that was rebased may be unwound
pub can_unwind : (table : Table) (w v : Window) → CanBringOn table w → Rebases w v → v.next_variable ≤ 2 ^ 30 → CanUnwind table v
can_unwind table w v can rebases variables =
    let same = rebased_same w v rebases can.proper in
    let names = can.names in
    let size = can.size in
    let equal = same.1 in
    record {
      parts = rebases_there table (2 ^ 30) w v rebases can.parts;
      size = subst (λ (t : Tree). tree_size t ≤ 2 ^ 20) (sym same.0) (omega (arith, size));
      names = omega (arith, equal, names);
      variables = variables;
    }

module _ (rules : Rules) (keeps : TableKeeps rules.table) (few : length rules.table.regions ≤ most_nodes) (number : rules.number ≤ most_window) where
  -- unwinding and tidying add no more than a turn may
  pub settled_small : (names tags : ℕ) (w v : Window) → Settles rules w v → tree_size (whole w.front) ≤ most_unwound → w.next ≤ names
      → PartsAreThere rules.table tags (whole w.front)
      → (tree_size (whole v.front) ≤ most_unwound) × (v.next ≤ names + most_unwound)
      × PartsAreThere rules.table (tags + (length rules.table.regions + rules.number)) (whole v.front)
  settled_small names tags w v settles size next parts =
      let grown = has_grown rules.table keeps rules.number w settles.unwound settles.unwinds in
      let tidied = tidied_same settles.unwound v settles.tidies in
      let larger = grown.size in
      let more = grown.names in
      let smaller = tidied.0 in
      let same = tidied.1 in (
        omega (arith, size, larger, smaller),
        omega (arith, size, larger, more, same, next),
        tidies_there rules.table (tags + (length rules.table.regions + rules.number)) settles.unwound v settles.tidies (grown.parts tags parts),
      )

  pub member_small : (turns : ℕ) (rest brought member : Window) → IsProper rest → IsRest rules.table turns rest → BringsOn rules rest brought
      → Renumbers brought member → IsSmall rules.table (suc turns) member
  member_small turns rest brought member proper is brings renumbers =
      let brought_proper = (brings_on_keeps rules keeps rest brought brings proper).0 in
      let rebased = brings.rebased in
      let same = rebased_same rest rebased brings.rebases proper in
      let tags = tags_a_turn * turns in
      let rest_size = is.size in
      let rest_names = is.names in
      let equal = same.1 in
      let settled = settled_small (names_a_turn * turns + most_in_front) tags rebased brought brings.settles
      (subst (λ (t : Tree). tree_size t ≤ most_unwound) (sym same.0) rest_size) (omega (arith, equal, rest_names))
      (rebases_there rules.table tags rest rebased brings.rebases is.parts) in
      let size = settled.0 in
      let names = settled.1 in
      let as_large = renumbered_size brought in
      let no_more = renumbered_names brought brought_proper in
      subst (IsSmall rules.table (suc turns)) (sym renumbers) (record {
        size = omega (arith, size, as_large);
        names = omega (arith, names, no_more);
        parts = renumbered_parts rules.table (tags_a_turn * suc turns) brought
            (parts_higher rules.table (tags + (length rules.table.regions + rules.number)) (tags_a_turn * suc turns) (whole brought.front)
            (omega (arith, few, number)) settled.2);
      })

  -- the region's window
  pub first_small : (region : ℕ) (first : Window) → tree_size (whole (opened_window rules.table rules.limits region).front) ≤ most_region_nodes
      → (opened_window rules.table rules.limits region).next ≤ first_new + most_region_nodes
      → Settles rules (opened_window rules.table rules.limits region) first → IsSmall rules.table 1 first
  first_small region first size names settles =
      let opened = opened_window rules.table rules.limits region in
      let settled = settled_small (first_new + most_region_nodes) 1 opened first settles (omega (arith, size)) names
      (opened_there rules.table keeps rules.limits region) in
      let more = settled.1 in
      record {
        size = settled.0;
        names = omega (arith, more);
        parts = parts_higher rules.table (1 + (length rules.table.regions + rules.number)) (tags_a_turn * 1) (whole first.front)
            (omega (arith, few, number)) settled.2;
      }

  -- ---- what comes to wait

  -- a window that is left, is proper, and may be brought on
  abbrev pub IsNext : ℕ → Window → Type 0
  IsNext turns w = IsProper w × IsRest rules.table turns w

  module _ (turns : ℕ) where
    abbrev AreSmall : Pool → Type 0
    AreSmall pool = AllByRecursion (IsSmall rules.table (suc turns)) pool.waiting

    window_small : {written : List Pair} {pool later : Pool} {brought : Window} {leaf : AutomatonLeaf} (rest : Window) → IsNext turns rest
        → BringsOn rules rest brought → WindowLeads written pool brought leaf later → AreSmall pool → AreSmall later
    window_small rest is brings (leads_member none (numbered_known at)) small = small
    window_small {pool} {brought} rest is brings (leads_member none (numbered_new {member} new renumbers)) small =
        all_both (IsSmall rules.table (suc turns)) pool.waiting (member ∷ []) small (member_small turns rest brought member is.0 is.1 brings renumbers, tt)
    window_small rest is brings (leads_bare some) small = small

    left_small : {written : List Pair} {pool later : Pool} {left : Left} {leaf : AutomatonLeaf} → LeftIs (IsNext turns) left
        → LeftLeads rules written pool left leaf later → AreSmall pool → AreSmall later
    left_small is (leads_rest {rest} brings leads) small = window_small rest is brings leads small
    left_small is leads_region small = small
    left_small is leads_end small = small
    left_small is leads_trap small = small

    -- all that wait stay small
    pub row_small : {written : List Pair} {next later : ℕ} {pool after : Pool} {row : Row Left} {other : Row AutomatonLeaf} → EachLeft (IsNext turns) row
        → RowLeads rules written next pool row other later after → AreSmall pool → AreSmall after
    row_small is (leads_plain none leads) small = row_small is leads small
    row_small is (leads_written some leads) small = row_small is leads small
    row_small is (leads_test one other) small = row_small is.1 other (row_small is.0 one small)
    row_small is (leads_leaf leads) small = left_small is leads small
