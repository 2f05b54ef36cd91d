-- What a walk of a whole window leaves, for the tags that follow.
use Rattle.std.proofs.Common.{◌≡◌, ℕ, suc, ◌+◌, ◌<◌, ◌≤◌, Option, Some, None, List, length, sym, ◌∙◌, ap, subst, arith}
use Rattle.std.specs.Prelude.{Bool, true, false, if◌then◌else◌, ◌-◌, ◌^◌}
use Rattle.pc_table.specs.Table.{Table}
use Rattle.pc_table.specs.TableKeeps.{TableKeeps}
use Rattle.pc_window.specs.declared.home.Home.{Home}
use Rattle.pc_window.specs.declared.tree.WindowTree.{WindowTree}
use Rattle.pc_window.specs.Tree.{Tree, Pending, Undecided, Exit, Stop_exit, Trap_exit, tree_size}
use Rattle.pc_table.specs.Loops.{is_inside}
use Rattle.pc_window.specs.Opening.{Supply, Grafted}
use Rattle.pc_window.specs.Unwinding.{lesser_tag, least_inside, least_tag, or_zero, front_tag, Unwinds, unwinds_no_more}
use Rattle.pc_window.specs.StoredWindow.{tree_in, supply_in}
use Rattle.pc_window.proofs.Ranking.{rank_most}
use Rattle.pc_unwind.specs.declared.growth.Growth.{Growth}
use Rattle.pc_unwind.specs.models.Named.{TagsAtMost}
use Rattle.pc_unwind.specs.models.Walking.{with_growth, Replaces, MayReplace, Replacements, replaces_no_more, replaces_once, Walks, AtMostLeast, RootAtMost, RootStaysAtMost, tags_from}
use Rattle.pc_unwind.proofs.Replaced.{replaced_at, inside_kept, root_kept}
use Rattle.pc_unwind.proofs.Reaching.{replaces_unwind, done_high, done_full, none_rises}
use Rattle.pc_unwind.proofs.Walks.{unwound_stub, too_large}

-- ---- the least tag

pub lesser_most : (a : ℕ) (b : Option ℕ) → or_zero (lesser_tag (Some a) b) ≤ a
lesser_most a None = omega arith
lesser_most a (Some b) = omega arith

-- is not above that of the first item or test
pub front_most : (most : ℕ) (tree : Tree) → RootAtMost most tree → front_tag tree ≤ most
front_most most (Pending t o item rest) h = let le = lesser_most t (least_tag rest) in omega arith
front_most most (Undecided t o on one other) h = let le = lesser_most t (lesser_tag (least_tag one) (least_tag other)) in omega arith
front_most most (Exit region t homes) h = absurd h
front_most most Stop_exit h = absurd h
front_most most (Trap_exit kind line) h = absurd h

-- the least one is not above itself
pub least_itself : (tag : ℕ) (a : Option ℕ) → a ≡ Some tag → AtMostLeast tag a
least_itself tag a is = let le : tag ≤ tag = omega arith in subst (AtMostLeast tag) (sym is) le

-- fewer tags are left behind one
pub fewer_tags : (tag : ℕ) (a : Option ℕ) → tag < 2 ^ 31 → AtMostLeast (suc tag) a → tags_from a < 2 ^ 31 - tag
fewer_tags tag None small h = omega arith
fewer_tags tag (Some least) small h = omega arith

-- what the tags of a window say of its first item or test
pub tags_stay : (table : Table) → TableKeeps table → (most : ℕ) (tree : Tree) → TagsAtMost most tree → RootStaysAtMost table (most + length table.regions) tree
tags_stay table keeps most (Pending t o item rest) h = let first = h.0 in omega arith
tags_stay table keeps most (Undecided t o on one other) h = let first = h.0 in omega arith
tags_stay table keeps most (Exit region t homes) h = let le = rank_most table keeps region in omega arith
tags_stay table keeps most Stop_exit h = tt
tags_stay table keeps most (Trap_exit kind line) h = tt

pub root_stays : (table : Table) (most more : ℕ) (tree : Tree) → most ≤ more → RootStaysAtMost table most tree → RootStaysAtMost table more tree
root_stays table most more (Pending t o item rest) le h = omega arith
root_stays table most more (Undecided t o on one other) le h = omega arith
root_stays table most more (Exit region t homes) le h = omega arith
root_stays table most more Stop_exit le h = tt
root_stays table most more (Trap_exit kind line) le h = tt

-- ---- the stubs of a tag

module _ (table : Table) (loop : Option ℕ) (tag : ℕ) where
  replaces_root : (most : ℕ) {g h : Grafted} → Replacements table loop tag 0 g h → RootAtMost most g.tree → RootAtMost most h.tree
  replaces_root most (replaces_no_more g) root = root
  replaces_root most (replaces_once g h k is le p) root = replaces_root most p (root_kept table loop tag most (replaced_at table loop tag g.names g.tree h is) root)

  replaces_least : {g h : Grafted} → Replacements table loop tag 0 g h → AtMostLeast tag (least_inside table loop g.tree) → AtMostLeast tag (least_inside table loop h.tree)
  replaces_least (replaces_no_more g) least = least
  replaces_least (replaces_once g h k is le p) least = replaces_least p (inside_kept table loop tag tag (omega arith) (replaced_at table loop tag g.names g.tree h is) least)

  module _ (before after : Tree) (old new : Growth) (size : old.size ≡ tree_size before) where
    whole_size : old.size ≡ 0 + tree_size before
    whole_size = omega arith

    pub walked_size : (full : Bool) → Walks table loop tag before old after new full → new.size ≡ tree_size after
    walked_size full walks = let w = walks 0 whole_size in let e = w.size in omega arith

    pub walked_root : (most : ℕ) (full : Bool) → Walks table loop tag before old after new full → RootAtMost most before → RootAtMost most after
    walked_root most full walks root = replaces_root most (walks 0 whole_size).replacements root

    -- tags are higher, where it came to an end
    pub walked_least : Walks table loop tag before old after new false → AtMostLeast tag (least_inside table loop before) → AtMostLeast (suc tag) (least_inside table loop after)
    walked_least walks least = let w = walks 0 whole_size in none_rises table loop tag (supply_in new.names) after w.ends (replaces_least w.replacements least)

    module _ (number : ℕ) (several : 2 ≤ number) (near : tag < front_tag before + number) (least : AtMostLeast tag (least_inside table loop before)) where
      -- unwinding stops, where the next one would be too large
      pub walked_full : Walks table loop tag before old after new true → Unwinds table loop number (with_growth before old) (with_growth after new)
      walked_full walks =
          let w = walks 0 whole_size in
          replaces_unwind table loop number several tag near w.replacements least (with_growth after new)
          (unwinds_no_more (with_growth after new) (done_full table loop number tag (with_growth after new) w.ends (replaces_least w.replacements least)))

      -- and else goes on
      pub walked_on : (full : Bool) → Walks table loop tag before old after new full → (k : Grafted) → Unwinds table loop number (with_growth after new) k
          → Unwinds table loop number (with_growth before old) k
      walked_on full walks k u = replaces_unwind table loop number several tag near (walks 0 whole_size).replacements least k u

-- ---- a window that is a stub

module _ (table : Table) (loop : Option ℕ) (number : ℕ) where
  -- it leads out of the loop
  pub unwinds_out : (region tag : ℕ) (homes : List Home) (names : Supply) → is_inside table loop region ≡ false
      → (let g : Grafted = record { tree = Exit region tag homes; names = names } in Unwinds table loop number g g)
  unwinds_out region tag homes names out =
      unwinds_no_more (record { tree = Exit region tag homes; names = names }) (done_high table loop number (tag + number) (record { tree = Exit region tag homes; names = names }) (omega arith)
      (subst (λ (b : Bool). AtMostLeast (tag + number) (if b then Some tag else None)) (sym out) tt))

  stub_least : (region tag : ℕ) (homes : List Home) → AtMostLeast tag (least_inside table loop (Exit region tag homes))
  stub_least region tag homes = by_test (is_inside table loop region)
    where
      by_test : (b : Bool) → AtMostLeast tag (if b then Some tag else None)
      by_test true = omega arith
      by_test false = tt

  -- it would be too large
  pub unwinds_large : (region tag : ℕ) (homes : List Home) (old new : Growth) → is_inside table loop region ≡ true → MayReplace table loop tag region homes old new None → old.size ≡ 0
      → Unwinds table loop number (with_growth (Exit region tag homes) old) (with_growth (Exit region tag homes) new)
  unwinds_large region tag homes old new within large none =
      let w = too_large table loop tag region homes old new within large 0 (omega arith) in
      subst (λ (g : Growth). Unwinds table loop number (with_growth (Exit region tag homes) g) (with_growth (Exit region tag homes) new)) large.0
      (unwinds_no_more (with_growth (Exit region tag homes) new) (done_full table loop number tag (with_growth (Exit region tag homes) new) w.ends (stub_least region tag homes)))

  -- it is unwound
  pub unwinds_stub : 2 ≤ number → (region tag : ℕ) (homes : List Home) (old mid : Growth) (tree : WindowTree) → is_inside table loop region ≡ true
      → Replaces table loop tag region homes old mid tree → old.size ≡ 0 → (k : Grafted) → Unwinds table loop number (with_growth (tree_in tree) mid) k
      → Unwinds table loop number (with_growth (Exit region tag homes) old) k
  unwinds_stub several region tag homes old mid tree within replaces none k u =
      let grown = replaces.size in
      let small = replaces.within in
      let least = stub_least region tag homes in
      replaces_unwind table loop number several tag (omega arith)
      (replaces_once (with_growth (Exit region tag homes) old) (with_growth (tree_in tree) mid) (with_growth (tree_in tree) mid)
      (unwound_stub table loop tag region homes (supply_in old.names) within ∙ ap (λ (g : Grafted). Some g) (sym replaces.grafts)) (omega arith) (replaces_no_more (with_growth (tree_in tree) mid)))
      least k u

  -- a window that ends at once
  pub unwinds_none : (tree : Tree) (names : Supply) → least_inside table loop tree ≡ None → (let g : Grafted = record { tree = tree; names = names } in Unwinds table loop number g g)
  unwinds_none tree names none =
      let g : Grafted = record { tree = tree; names = names } in
      unwinds_no_more g (done_high table loop number (front_tag tree + number) g (omega arith) (subst (AtMostLeast (front_tag tree + number)) (sym none) tt))
