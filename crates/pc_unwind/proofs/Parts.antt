-- Replacements in a part of a tree are replacements in the whole.
use Rattle.std.proofs.Common.{◌≡◌, ℕ, suc, ◌+◌, Option, Some, None, refl, ap, arith}
use Rattle.std.specs.Prelude.{Bool, true, false, if◌then◌else◌, nat_eq, ◌&&◌}
use Rattle.pc_word.specs.declared.item.Item.{Item}
use Rattle.pc_word.specs.declared.item.Operand.{Operand}
use Rattle.pc_table.specs.Table.{Table}
use Rattle.pc_window.specs.Tree.{Tree, Pending, Undecided, Exit, Stop_exit, Trap_exit, tree_size}
use Rattle.pc_table.specs.Loops.{is_inside}
use Rattle.pc_window.specs.Opening.{Supply, Grafted, below_item, under_item, under_test, unwound_at}
use Rattle.pc_unwind.specs.models.Walking.{Replacements, replaces_no_more, replaces_once, IsFull, EndsReplacements}

-- a tree below a test, with the other side
abbrev pub on_yes_side : ℕ → ℕ → Operand → Tree → Grafted → Grafted
on_yes_side tag origin on other g = record { tree = Undecided tag origin on g.tree other; names = g.names }

abbrev pub on_no_side : ℕ → ℕ → Operand → Tree → Grafted → Grafted
on_no_side tag origin on one g = record { tree = Undecided tag origin on one g.tree; names = g.names }

module _ (table : Table) (loop : Option ℕ) (tag : ℕ) where
  pub replaces_again : {elsewhere : ℕ} {g h k : Grafted} → Replacements table loop tag elsewhere g h → Replacements table loop tag elsewhere h k → Replacements table loop tag elsewhere g k
  replaces_again (replaces_no_more g) q = q
  replaces_again (replaces_once g h k is le p) q = replaces_once g h _ is le (replaces_again p q)

  -- whether a stub is left does not hang on the names
  pub item_none : (t o : ℕ) (item : Item) (r : Option Grafted) → under_item t o item r ≡ None → r ≡ None
  item_none t o item None e = refl
  item_none t o item (Some g) e = absurd (cc)

  pub test_none : (t o : ℕ) (on : Operand) (one other : Tree) (r q : Option Grafted) → under_test t o on one other r q ≡ None → (r ≡ None) × (q ≡ None)
  test_none t o on one other (Some g) q e = absurd (cc)
  test_none t o on one other None (Some g) e = absurd (cc)
  test_none t o on one other None None e = (refl, refl)

  stub_none : (b : Bool) (g h : Grafted) → (if b then Some g else None) ≡ None → (if b then Some h else None) ≡ None
  stub_none true g h e = absurd (cc)
  stub_none false g h e = refl

  pub none_left : (t : Tree) (names other : Supply) → unwound_at table loop tag names t ≡ None → unwound_at table loop tag other t ≡ None
  none_left (Pending t o item rest) names other e = ap (under_item t o item) (none_left rest names other (item_none t o item _ e))
  none_left (Undecided t o on one two) names other e =
      let parts = test_none t o on one two (unwound_at table loop tag names one) (unwound_at table loop tag names two) e in
      λ i. under_test t o on one two (none_left one names other parts.0 i) (none_left two names other parts.1 i)
  none_left (Exit region at homes) names other e = stub_none (is_inside table loop region && nat_eq at tag) _ _ e
  none_left Stop_exit names other e = refl
  none_left (Trap_exit kind line) names other e = refl

  module _ (elsewhere t o : ℕ) where
    -- below an item
    pub replaces_below : (item : Item) {g h : Grafted} → Replacements table loop tag (suc elsewhere) g h → Replacements table loop tag elsewhere (below_item t o item g) (below_item t o item h)
    replaces_below item (replaces_no_more g) = replaces_no_more (below_item t o item g)
    replaces_below item (replaces_once g h k is le p) =
        replaces_once (below_item t o item g) (below_item t o item h) (below_item t o item k) (ap (under_item t o item) is) (omega arith) (replaces_below item p)

    pub ends_below : (item : Item) (full : Bool) (g : Grafted) → EndsReplacements table loop tag (suc elsewhere) full g → EndsReplacements table loop tag elsewhere full (below_item t o item g)
    ends_below item true g e = let above = e.above in record { too_large = below_item t o item e.too_large; next = ap (under_item t o item) e.next; above = omega arith }
    ends_below item false g e = ap (under_item t o item) e

    -- on the yes side of a test
    pub replaces_yes : (on : Operand) (two : Tree) {g h : Grafted} → Replacements table loop tag (suc (elsewhere + tree_size two)) g h
        → Replacements table loop tag elsewhere (on_yes_side t o on two g) (on_yes_side t o on two h)
    replaces_yes on two (replaces_no_more g) = replaces_no_more (on_yes_side t o on two g)
    replaces_yes on two (replaces_once g h k is le p) =
        replaces_once (on_yes_side t o on two g) (on_yes_side t o on two h) (on_yes_side t o on two k)
        (ap (λ (r : Option Grafted). under_test t o on g.tree two r (unwound_at table loop tag g.names two)) is) (omega arith) (replaces_yes on two p)

    pub full_yes : (on : Operand) (two : Tree) (g : Grafted) → IsFull table loop tag (suc (elsewhere + tree_size two)) g → IsFull table loop tag elsewhere (on_yes_side t o on two g)
    full_yes on two g e =
        let above = e.above in
        record {
          too_large = on_yes_side t o on two e.too_large;
          next = ap (λ (r : Option Grafted). under_test t o on g.tree two r (unwound_at table loop tag g.names two)) e.next;
          above = omega arith;
        }

    -- on the no side, where none is left on the yes side
    pub replaces_no : (on : Operand) (one : Tree) → ((names : Supply) → unwound_at table loop tag names one ≡ None) → {g h : Grafted}
        → Replacements table loop tag (suc (elsewhere + tree_size one)) g h → Replacements table loop tag elsewhere (on_no_side t o on one g) (on_no_side t o on one h)
    replaces_no on one none (replaces_no_more g) = replaces_no_more (on_no_side t o on one g)
    replaces_no on one none (replaces_once g h k is le p) =
        replaces_once (on_no_side t o on one g) (on_no_side t o on one h) (on_no_side t o on one k)
        (λ i. under_test t o on one g.tree (none g.names i) (is i)) (omega arith) (replaces_no on one none p)

    pub ends_no : (on : Operand) (one : Tree) → ((names : Supply) → unwound_at table loop tag names one ≡ None) → (full : Bool) (g : Grafted)
        → EndsReplacements table loop tag (suc (elsewhere + tree_size one)) full g → EndsReplacements table loop tag elsewhere full (on_no_side t o on one g)
    ends_no on one none true g e =
        let above = e.above in
        let is = e.next in
        record { too_large = on_no_side t o on one e.too_large; next = λ i. under_test t o on one g.tree (none g.names i) (is i); above = omega arith }
    ends_no on one none false g e = λ i. under_test t o on one g.tree (none g.names i) (e i)
