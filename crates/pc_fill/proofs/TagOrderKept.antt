-- Tags that never fall on the way down: what comes later is passed over, and filling leaves it so.
use Rattle.std.proofs.Common.{◌≡◌, ◌∙◌, ℕ, zero, suc, ◌+◌, ◌-◌, ◌<◌, ◌≤◌, inl, inr, Bool, true, false, List, [], ◌∷◌, ◌++◌, Option, Some, None, sym, ap, subst, arith}
use Rattle.std.specs.Prelude.{if◌then◌else◌, nat_eq, nat_lt, slice_get}
use Rattle.std.proofs.lemmas.Bool.{ltb-true}
use Rattle.pc_word.proofs.Truth.{and_true, decide_le}
use Rattle.pc_word.specs.declared.item.Item.{Item}
use Rattle.pc_word.specs.declared.item.Operand.{Operand}
use Rattle.pc_word.specs.Items.{dest_of}
use Rattle.pc_window.specs.Rename.{mapped}
use Rattle.pc_window.specs.Tree.{Tree, Pending, Undecided, Exit, Stop_exit, Trap_exit, Front, Issued, Split, Unfinished, whole, tree_size}
use Rattle.pc_window.specs.Ready.{ReadyPlace}
use Rattle.pc_window.specs.StoredWindow.{front_in, window_in}
use Rattle.pc_window.proofs.WindowsStored.{whole_in}
use Rattle.pc_fill.specs.declared.walk.Found.{Found}
use Rattle.pc_fill.specs.declared.walk.Setting.{Setting}
use Rattle.pc_fill.specs.declared.landing.Coming.{Coming}
use Rattle.pc_fill.specs.models.Places.{Node, nodes_of, known_in}
use Rattle.pc_fill.specs.models.Search.{StandsAt, BestBefore}
use Rattle.pc_fill.specs.models.Taking.{taken_out, divided_yes, divided_no}
use Rattle.pc_fill.specs.models.Landing.{joins, place_or_root}
use Rattle.pc_fill.specs.models.Way.{taken_along, leaf_along, above_along, landed_along}
use Rattle.pc_fill.specs.models.Walk.{all_in, forms_of, placed}
use Rattle.pc_fill.specs.models.TagOrder.{TagsInOrder, TagsInOrderBehind, comes_later}
use Rattle.pc_fill.proofs.Nodes.{OfSides, Of_yes, Of_no, of_sides, node_on_yes, node_on_no, StandsFree, stands_free}
use Rattle.pc_word.specs.Naming.{renamed}

-- ---- tags

pub order_from : (least more : ℕ) (tree : Tree) → least ≤ more → TagsInOrder more tree → TagsInOrder least tree
order_from least more (Pending t o x rest) le h = let a = h.0 in (omega arith, h.1)
order_from least more (Undecided t o on p q) le h = let a = h.0 in (omega arith, h.1, h.2)
order_from least more (Exit region tag homes) le h = tt
order_from least more Stop_exit le h = tt
order_from least more (Trap_exit kind line) le h = tt

one_tag : (a b : Node) → Some a ≡ Some b → a.tag ≡ b.tag
one_tag a b e = ap (λ (n : Node). n.tag) (same a b e)
  where
    same : (a b : Node) → Some a ≡ Some b → a ≡ b
    same a b e = cc

-- where no tag of a tree is less than `least`, none of its items and tests has a lesser one
tag_at : (least : ℕ) (tree : Tree) → TagsInOrder least tree → (k : ℕ) (node : Node) → slice_get (nodes_of tree) k ≡ Some node → least ≤ node.tag
tag_at least (Pending t o x rest) h zero node e = let a = h.0 in let b = one_tag _ node e in omega arith
tag_at least (Pending t o x rest) h (suc k) node e = let a = h.0 in let b = tag_at t rest h.1 k node e in omega arith
tag_at least (Undecided t o on p q) h zero node e = let a = h.0 in let b = one_tag _ node e in omega arith
tag_at least (Undecided t o on p q) h (suc k) node e =
    let a = h.0 in let b = by_side (λ j f. tag_at t p h.1 j node f) (λ j f. tag_at t q h.2 j node f) k (of_sides (tree_size p) k) e in omega arith
  where
    by_side : ((j : ℕ) → slice_get (nodes_of p) j ≡ Some node → t ≤ node.tag) → ((j : ℕ) → slice_get (nodes_of q) j ≡ Some node → t ≤ node.tag)
        → (j : ℕ) → OfSides (tree_size p) j → slice_get (nodes_of p ++ nodes_of q) j ≡ Some node → t ≤ node.tag
    by_side on_p on_q j (Of_yes i less) f = on_p j (sym (node_on_yes p q j less) ∙ f)
    by_side on_p on_q j (Of_no i) f = on_q i (sym (node_on_no p q i) ∙ f)
tag_at least (Exit region tag homes) h k node e = absurd (cc)
tag_at least Stop_exit h k node e = absurd (cc)
tag_at least (Trap_exit kind line) h k node e = absurd (cc)

-- ---- what comes later than what was found

module _ (s : Setting) (place : ℕ) (tree : Tree) (stands : StandsAt tree place (all_in s)) where
  later_tag : (least : ℕ) → TagsInOrder least tree → (r : ReadyPlace (known_in s.known.now) (window_in s.window.now)) → place ≤ r.place → r.place < place + tree_size tree → least ≤ r.tag
  later_tag least in_order r from to =
      let free : StandsFree (known_in s.known.now) (forms_of s) r.tag r.origin r.place r.what (front_in s.window.now.tree) =
      stands_free (known_in s.known.now) (forms_of s) r.tag r.origin r.place r.what (front_in s.window.now.tree) r.ready in
      let k = r.place - place in
      let e : place + k ≡ r.place = omega arith in
      let at = sym (stands.at k (omega arith)) ∙ ap (slice_get (nodes_of (all_in s))) e ∙ ap (λ (t : Tree). slice_get (nodes_of t) r.place) (sym (whole_in s.window.now.tree)) ∙ free.at in
      tag_at least tree in_order k (record { tag = r.tag; origin = r.origin; what = r.what; operands = free.operands }) at

  -- the first stays the first
  pub later_stays : (found : Option Found) (at tag : ℕ) → comes_later s.in_order found tag ≡ true → (s.in_order ≡ true → TagsInOrder tag tree)
      → BestBefore (known_in s.known.now) (window_in s.window.now) place (placed found at)
      → BestBefore (known_in s.known.now) (window_in s.window.now) (place + tree_size tree) (placed found at)
  later_stays None at tag e in_order before = absurd (cc)
  later_stays (Some it) at tag e in_order before =
      let parts = and_true s.in_order (nat_lt it.tag tag) e in
      let less = ltb-true it.tag tag parts.1 in
      let earlier = before.is.1 in
      record {
        is = (
          before.is.0,
          omega arith,
          λ r lt. elim (decide_le place r.place) [
            | inl le ↦ let a = later_tag tag (in_order parts.0) r le lt in inl (omega arith)
            | inr near ↦ before.is.2 r near
          ],
        );
      }

-- ---- what filling leaves

order_mapped : (f : Operand → Operand) (least : ℕ) (tree : Tree) → TagsInOrder least tree → TagsInOrder least (mapped f tree)
order_mapped f least (Pending t o x rest) h = (h.0, order_mapped f t rest h.1)
order_mapped f least (Undecided t o on p q) h = (h.0, order_mapped f t p h.1, order_mapped f t q h.2)
order_mapped f least (Exit region tag homes) h = tt
order_mapped f least Stop_exit h = tt
order_mapped f least (Trap_exit kind line) h = tt

either : (P : Tree → Type 0) (b : Bool) (x y : Tree) → P x → P y → P (if b then x else y)
either P true x y h k = h
either P false x y h k = k

order_along : (name : Option ℕ) (least : ℕ) (tree : Tree) (sides : List Bool) (depth : ℕ) → TagsInOrder least tree → TagsInOrder least (taken_along name tree sides depth)
order_along name least (Pending t o x rest) sides depth h =
    let a = h.0 in
    either (TagsInOrder least) (nat_eq depth 0) _ _ (order_from least t (mapped (renamed (dest_of x) name) rest) a (order_mapped (renamed (dest_of x) name) t rest h.1))
    (h.0, order_along name t rest sides (depth - 1) h.1)
order_along name least (Undecided t o on p q) [] depth h = h
order_along name least (Undecided t o on p q) (side ∷ sides) depth h =
    either (TagsInOrder least) side _ _ (h.0, order_along name t p sides depth h.1, h.2) (h.0, h.1, order_along name t q sides depth h.2)
order_along name least (Exit region tag homes) sides depth h = tt
order_along name least Stop_exit sides depth h = tt
order_along name least (Trap_exit kind line) sides depth h = tt

order_out : (name : Option ℕ) (least : ℕ) (tree : Tree) (place : ℕ) → TagsInOrder least tree → TagsInOrder least (taken_out name tree place)
order_out name least (Pending t o x rest) place h =
    either (TagsInOrder least) (nat_eq place 0) _ _ (order_from least t (mapped (renamed (dest_of x) name) rest) h.0 (order_mapped (renamed (dest_of x) name) t rest h.1))
    (h.0, order_out name t rest (place - 1) h.1)
order_out name least (Undecided t o on p q) place h =
    either (TagsInOrder least) (nat_eq place 0) _ _ h
    (either (TagsInOrder least) (nat_lt (place - 1) (tree_size p)) _ _ (h.0, order_out name t p (place - 1) h.1, h.2) (h.0, h.1, order_out name t q (place - 1 - tree_size p) h.2))
order_out name least (Exit region tag homes) place h = tt
order_out name least Stop_exit place h = tt
order_out name least (Trap_exit kind line) place h = tt

order_yes : (least : ℕ) (tree : Tree) → TagsInOrder least tree → TagsInOrder least (divided_yes tree)
order_yes least (Pending t o x rest) h = (h.0, order_yes t rest h.1)
order_yes least (Undecided t o on p q) h = order_from least t p h.0 h.1
order_yes least (Exit region tag homes) h = tt
order_yes least Stop_exit h = tt
order_yes least (Trap_exit kind line) h = tt

order_no : (least : ℕ) (tree : Tree) → TagsInOrder least tree → TagsInOrder least (divided_no tree)
order_no least (Pending t o x rest) h = (h.0, order_no t rest h.1)
order_no least (Undecided t o on p q) h = order_from least t q h.0 h.2
order_no least (Exit region tag homes) h = tt
order_no least Stop_exit h = tt
order_no least (Trap_exit kind line) h = tt

module _ (c : Coming) where
  leaf_in_order : (what : Option Item) (tree : Tree) (sides : List Bool) (depth : ℕ) → TagsInOrder 0 tree → TagsInOrderBehind (leaf_along c what tree sides depth)
  leaf_in_order (Some x) tree sides depth h = order_along (dest_of x) 0 tree sides depth h
  leaf_in_order None tree sides depth h = (order_yes 0 tree h, order_no 0 tree h)

  above_in_order : (what : Option Item) (tag origin : ℕ) (on : Operand) (p q : Tree) (sides : List Bool) (depth twin : ℕ) → TagsInOrder 0 p → TagsInOrder 0 q
      → TagsInOrderBehind (above_along c what tag origin on p q sides depth twin)
  above_in_order (Some x) tag origin on p q sides depth twin h k = (order_along (dest_of x) 0 p sides depth h, order_out (dest_of x) 0 q twin k)
  above_in_order None tag origin on p q sides depth twin h k = (h, k)

  chosen : (b : Bool) (x y : Front) → TagsInOrderBehind x → TagsInOrderBehind y → TagsInOrderBehind (if b then x else y)
  chosen true x y h k = h
  chosen false x y h k = k

  -- an item and its twin, where neither side has finished items or tests
  joined_in_order : (twin : Option ℕ) (tag origin : ℕ) (on : Operand) (p q p' : Front) (sides : List Bool) (depth n : ℕ) → TagsInOrderBehind p → TagsInOrderBehind q → TagsInOrderBehind p'
      → TagsInOrderBehind (if joins twin p q then above_along c c.item tag origin on (whole p) (whole q) sides depth n else Split tag origin on p' q)
  joined_in_order None tag origin on p q p' sides depth n h k h' = (h', k)
  joined_in_order (Some twin) tag origin on (Issued t o x p) q p' sides depth n h k h' = (h', k)
  joined_in_order (Some twin) tag origin on (Split t o on' p p2) q p' sides depth n h k h' = (h', k)
  joined_in_order (Some twin) tag origin on (Unfinished p) (Issued t o x q) p' sides depth n h k h' = (h', k)
  joined_in_order (Some twin) tag origin on (Unfinished p) (Split t o on' q q2) p' sides depth n h k h' = (h', k)
  joined_in_order (Some twin) tag origin on (Unfinished p) (Unfinished q) p' sides depth n h k h' = above_in_order c.item tag origin on p q sides depth n h k

  pub landed_in_order : (front : Front) (sides : List Bool) (depth : ℕ) → TagsInOrderBehind front → TagsInOrderBehind (landed_along c front sides depth)
  landed_in_order (Issued t o x rest) sides depth h = landed_in_order rest sides depth h
  landed_in_order (Split t o on p q) [] depth h = h
  landed_in_order (Split t o on p q) (side ∷ sides) depth h =
      chosen side _ _ (joined_in_order c.twin t o on p q (landed_along c p sides depth) sides depth (place_or_root c.twin) h.0 h.1 (landed_in_order p sides depth h.0))
      (h.0, landed_in_order q sides depth h.1)
  landed_in_order (Unfinished from) sides depth h = leaf_in_order c.item from sides depth h

-- as code sees it
pub come_in_order : (c : Coming) (before later : Front) (sides : List Bool) (depth : ℕ) → later ≡ landed_along c before sides depth → TagsInOrderBehind before → TagsInOrderBehind later
come_in_order c before later sides depth is h = subst TagsInOrderBehind (sym is) (landed_in_order c before sides depth h)
