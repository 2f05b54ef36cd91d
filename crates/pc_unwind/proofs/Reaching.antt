-- From the replacements of one tag to unwinding.
use Rattle.std.proofs.Common.{◌≡◌, ℕ, suc, ◌+◌, ◌<◌, ◌≤◌, Option, Some, None, refl, ◌∙◌, ap, subst, arith}
use Rattle.std.specs.Prelude.{Bool, true, false, if◌then◌else◌, nat_eq, nat_lt, ◌&&◌}
use Rattle.pc_table.specs.Table.{Table}
use Rattle.pc_window.specs.Tree.{Tree, Pending, Undecided, Exit, Stop_exit, Trap_exit, tree_size}
use Rattle.pc_table.specs.Loops.{is_inside}
use Rattle.pc_window.specs.Opening.{Supply, Grafted, unwound_at}
use Rattle.pc_window.specs.Unwinding.{least_inside, least_tag, or_zero, front_tag, most_unwound, within_size, unwound_below, unwound_once, Unwinds, unwinds_no_more, unwinds_once}
use Rattle.pc_unwind.specs.models.Walking.{AtMostLeast, Replacements, replaces_no_more, replaces_once, IsFull, replacement}
use Rattle.pc_unwind.proofs.Parts.{item_none, test_none}
use Rattle.pc_unwind.proofs.Replaced.{replaced_at, HasAtMost, least_first, least_second, inside_has, stub_there, least_kept, inside_kept}
use Rattle.pc_unwind.proofs.Bringing.{least_of_two}

is_least : (tag : ℕ) (a : Option ℕ) → AtMostLeast tag a → HasAtMost tag a → a ≡ Some tag
is_least tag None p q = absurd q
is_least tag (Some a) p q = let e : a ≡ tag = omega arith in ap (λ (n : ℕ). Some n) e

front_is : (tag : ℕ) (a : Option ℕ) → AtMostLeast tag a → HasAtMost (or_zero a) a → tag ≤ or_zero a
front_is tag None p q = absurd q
front_is tag (Some a) p q = p

has_itself : (most : ℕ) (a : Option ℕ) → HasAtMost most a → HasAtMost (or_zero a) a × (or_zero a ≤ most)
has_itself most None h = absurd h
has_itself most (Some a) h = (omega arith, h)

pub front_least : (tree : Tree) → AtMostLeast (front_tag tree) (least_tag tree)
front_least tree = by_least (least_tag tree)
  where
    by_least : (a : Option ℕ) → AtMostLeast (or_zero a) a
    by_least None = tt
    by_least (Some a) = omega arith

module _ (table : Table) (loop : Option ℕ) (number : ℕ) where
  -- a step of unwinding, by what makes it
  pub record IsOnce (g h : Grafted) : Type 0 where
    pub tag : ℕ
    pub first : least_inside table loop g.tree ≡ Some tag
    pub near : tag < front_tag g.tree + number
    pub unwound : unwound_at table loop tag g.names g.tree ≡ Some h
    pub small : tree_size h.tree ≤ most_unwound

  within : (r : Option Grafted) (h : Grafted) → within_size r ≡ Some h → (r ≡ Some h) × (tree_size h.tree ≤ most_unwound)
  within None h e = absurd (cc)
  within (Some k) h e = by_test (nat_lt most_unwound (tree_size k.tree)) refl e
    where
      by_test : (b : Bool) → nat_lt most_unwound (tree_size k.tree) ≡ b → (if b then None else Some k) ≡ Some h → (Some k ≡ Some h) × (tree_size h.tree ≤ most_unwound)
      by_test true p q = absurd (cc)
      by_test false p q =
          let same : k ≡ h = cc in
          let le : tree_size k.tree ≤ most_unwound = grind arith in
          (q, subst (λ (x : Grafted). tree_size x.tree ≤ most_unwound) same le)

  pub once_is : (g h : Grafted) → unwound_once table loop number g ≡ Some h → IsOnce g h
  once_is g h e = by_number (nat_lt number 2) e
    where
      by_tag : (a : Option ℕ) → least_inside table loop g.tree ≡ a → unwound_below table loop (front_tag g.tree + number) a g ≡ Some h → IsOnce g h
      by_tag None p q = absurd (cc)
      by_tag (Some tag) p q = by_bound (nat_lt tag (front_tag g.tree + number)) refl q
        where
          by_bound : (b : Bool) → nat_lt tag (front_tag g.tree + number) ≡ b → (if b then within_size (unwound_at table loop tag g.names g.tree) else None) ≡ Some h → IsOnce g h
          by_bound true r s = let both = within (unwound_at table loop tag g.names g.tree) h s in
              record { tag = tag; first = p; near = grind arith; unwound = both.0; small = both.1 }
          by_bound false r s = absurd (cc)

      by_number : (b : Bool) → (if b then None else unwound_below table loop (front_tag g.tree + number) (least_inside table loop g.tree) g) ≡ Some h → IsOnce g h
      by_number true q = absurd (cc)
      by_number false q = by_tag (least_inside table loop g.tree) refl q

  module _ (several : 2 ≤ number) where
    not_one : nat_lt number 2 ≡ false
    not_one = grind arith

    makes_once : (tag : ℕ) (g h : Grafted) → least_inside table loop g.tree ≡ Some tag → tag < front_tag g.tree + number → unwound_at table loop tag g.names g.tree ≡ Some h
        → tree_size h.tree ≤ most_unwound → unwound_once table loop number g ≡ Some h
    makes_once tag g h first near is small =
        let below : nat_lt tag (front_tag g.tree + number) ≡ true = grind arith in
        let fits : nat_lt most_unwound (tree_size h.tree) ≡ false = grind arith in
        ap (λ (b : Bool). if b then None else unwound_below table loop (front_tag g.tree + number) (least_inside table loop g.tree) g) not_one
        ∙ ap (λ (a : Option ℕ). unwound_below table loop (front_tag g.tree + number) a g) first
        ∙ ap (λ (b : Bool). if b then within_size (unwound_at table loop tag g.names g.tree) else None) below
        ∙ ap within_size is
        ∙ ap (λ (b : Bool). if b then None else Some h) fits

    -- where all have tags from a number on
    replaces_from : (tag from : ℕ) → from ≤ tag → tag < from + number → {g h : Grafted} → Replacements table loop tag 0 g h → AtMostLeast tag (least_inside table loop g.tree)
        → AtMostLeast from (least_tag g.tree) → (k : Grafted) → Unwinds table loop number h k → Unwinds table loop number g k
    replaces_from tag from le near (replaces_no_more g) least all k u = u
    replaces_from tag from le near (replaces_once g h l is small p) least all k u =
        let r = replaced_at table loop tag g.names g.tree h is in
        let has = stub_there table loop tag r in
        let itself = has_itself tag (least_tag g.tree) (inside_has table loop tag g.tree has) in
        let front = front_is from (least_tag g.tree) all itself.0 in
        let step = makes_once tag g h (is_least tag (least_inside table loop g.tree) least has) (omega arith) is (omega arith) in
        unwinds_once g h k step
        (replaces_from tag from le near p (inside_kept table loop tag tag (omega arith) r least) (least_kept table loop tag from le r all) k u)

    -- replacements of the least tag inside the loop, below the bound
    pub replaces_unwind : (tag : ℕ) {g h : Grafted} → tag < front_tag g.tree + number → Replacements table loop tag 0 g h → AtMostLeast tag (least_inside table loop g.tree)
        → (k : Grafted) → Unwinds table loop number h k → Unwinds table loop number g k
    replaces_unwind tag near (replaces_no_more g) least k u = u
    replaces_unwind tag near (replaces_once g h l is small p) least k u =
        let has = stub_there table loop tag (replaced_at table loop tag g.names g.tree h is) in
        let itself = has_itself tag (least_tag g.tree) (inside_has table loop tag g.tree has) in
        replaces_from tag (front_tag g.tree) itself.1 near (replaces_once g h l is small p) least (front_least g.tree) k u

  -- ---- ends

  none_below : (bound : ℕ) (g : Grafted) (a : Option ℕ) → AtMostLeast bound a → unwound_below table loop bound a g ≡ None
  none_below bound g None h = refl
  none_below bound g (Some tag) h =
      let far : nat_lt tag bound ≡ false = grind arith in ap (λ (b : Bool). if b then within_size (unwound_at table loop tag g.names g.tree) else None) far

  by_number : (g : Grafted) (b : Bool) → unwound_below table loop (front_tag g.tree + number) (least_inside table loop g.tree) g ≡ None
      → (if b then None else unwound_below table loop (front_tag g.tree + number) (least_inside table loop g.tree) g) ≡ None
  by_number g true h = refl
  by_number g false h = h

  -- all tags inside the loop are too high
  pub done_high : (tag : ℕ) (g : Grafted) → front_tag g.tree + number ≤ tag → AtMostLeast tag (least_inside table loop g.tree) → unwound_once table loop number g ≡ None
  done_high tag g far least = by_number g (nat_lt number 2) (none_below (front_tag g.tree + number) g (least_inside table loop g.tree) (lower (least_inside table loop g.tree) least))
    where
      lower : (a : Option ℕ) → AtMostLeast tag a → AtMostLeast (front_tag g.tree + number) a
      lower None h = tt
      lower (Some a) h = omega arith

  -- the next one would be too large
  pub done_full : (tag : ℕ) (g : Grafted) → IsFull table loop tag 0 g → AtMostLeast tag (least_inside table loop g.tree) → unwound_once table loop number g ≡ None
  done_full tag g full least =
      let has = stub_there table loop tag (replaced_at table loop tag g.names g.tree full.too_large full.next) in
      let first = is_least tag (least_inside table loop g.tree) least has in
      let above = full.above in
      let large : nat_lt most_unwound (tree_size full.too_large.tree) ≡ true = grind arith in
      by_number g (nat_lt number 2)
      (ap (λ (a : Option ℕ). unwound_below table loop (front_tag g.tree + number) a g) first
      ∙ by_bound (nat_lt tag (front_tag g.tree + number)) (ap within_size full.next ∙ ap (λ (b : Bool). if b then None else Some full.too_large) large))
    where
      by_bound : (b : Bool) → within_size (unwound_at table loop tag g.names g.tree) ≡ None → (if b then within_size (unwound_at table loop tag g.names g.tree) else None) ≡ None
      by_bound true h = h
      by_bound false h = refl

  -- a window number below 2
  pub done_few : (g : Grafted) → number < 2 → unwound_once table loop number g ≡ None
  done_few g few = let one : nat_lt number 2 ≡ true = grind arith in
      ap (λ (b : Bool). if b then None else unwound_below table loop (front_tag g.tree + number) (least_inside table loop g.tree) g) one

  -- so nothing is unwound
  pub unwinds_few : (g : Grafted) → number < 2 → Unwinds table loop number g g
  unwinds_few g less = unwinds_no_more g (done_few g less)

pub ruleset few = (unwinds_few)

module _ (table : Table) (loop : Option ℕ) where
  -- where none of a tag is left, tags are higher
  pub none_rises : (tag : ℕ) (names : Supply) (tree : Tree) → unwound_at table loop tag names tree ≡ None → AtMostLeast tag (least_inside table loop tree)
      → AtMostLeast (suc tag) (least_inside table loop tree)
  none_rises tag names (Pending t o item rest) none h = none_rises tag names rest (item_none table loop tag t o item (unwound_at table loop tag names rest) none) h
  none_rises tag names (Undecided t o on one other) none h =
      let parts = test_none table loop tag t o on one other (unwound_at table loop tag names one) (unwound_at table loop tag names other) none in
      least_of_two (suc tag) _ _ (none_rises tag names one parts.0 (least_first tag (least_inside table loop one) (least_inside table loop other) h))
      (none_rises tag names other parts.1 (least_second tag (least_inside table loop one) (least_inside table loop other) h))
  none_rises tag names (Exit region at homes) none h = by_tests (is_inside table loop region) (nat_eq at tag) refl none h
    where
      by_tests : (b c : Bool) → nat_eq at tag ≡ c → (if b && c then Some (replacement table loop at region homes names) else None) ≡ None
          → AtMostLeast tag (if b then Some at else None) → AtMostLeast (suc tag) (if b then Some at else None)
      by_tests false c e p q = tt
      by_tests true true e p q = absurd (cc)
      by_tests true false e p q = grind arith
  none_rises tag names Stop_exit none h = tt
  none_rises tag names (Trap_exit kind line) none h = tt
