-- The walk through a window: trees behind the front.
use Rattle.std.proofs.Common.{◌≡◌, ◌∙◌, ◌↔◌, ℕ, suc, ◌+◌, ◌-◌, ◌<◌, ◌≤◌, inl, inr, Bool, true}
use Rattle.std.proofs.Common.{false, List, [], ◌∷◌, ◌++◌, Option, Some, None, refl, sym, ap, subst, arith}
use Rattle.std.specs.Prelude.{nat_lt}
use Rattle.std.proofs.lemmas.List.{append_assoc, append-nil}
use Rattle.pc_word.proofs.Truth.{decide_le, failed}
use Rattle.pc_word.specs.declared.item.Item.{Item}
use Rattle.pc_word.specs.declared.item.Limits.{Limits}
use Rattle.pc_word.specs.declared.item.Operand.{Operand}
use Rattle.pc_word.specs.Items.{operands_of}
use Rattle.pc_window.specs.Hold.{Side}
use Rattle.pc_window.specs.Tree.{Tree, Pending, Undecided, Front, tree_size}
use Rattle.pc_window.specs.Filled.{HasSpace}
use Rattle.pc_window.specs.Ready.{ReadyPlace}
use Rattle.pc_window.specs.StoredWindow.{front_in, window_in}
use Rattle.pc_fill.specs.declared.walk.Setting.{Setting}
use Rattle.pc_fill.specs.declared.first.ReadyNode.{ReadyNode}
use Rattle.pc_fill.specs.declared.walk.Search.{Search}
use Rattle.pc_fill.specs.declared.path.Path.{Path}
use Rattle.pc_fill.specs.declared.room.Counts.{Counts}
use Rattle.pc_fill.specs.models.Path.{is_plain, MayComeAlong, sides_of, LeadsOn}
use Rattle.pc_fill.specs.models.Places.{known_in, MayPass, MayCross, MayRise}
use Rattle.pc_fill.specs.models.Search.{AreCounts, BestBefore}
use Rattle.pc_fill.specs.models.Way.{Leads, To_item, To_test, Below_item, On_yes_side, On_no_side, Reaches}
use Rattle.pc_fill.specs.models.Walk.{all_in, forms_of, MayComeHere, IsSetting, StandsThere, ComesBehind}
use Rattle.pc_fill.specs.models.Walk.{placed, BestSoFar, LooksAt, LooksBehind, LooksBelow}
use Rattle.pc_fill.proofs.Sides.{to_below, from_below, to_yes, from_yes, to_no, from_no}
use Rattle.pc_fill.proofs.Nodes.{stands_free}
use Rattle.pc_fill.proofs.Searching.{best_behind, item_stands, rest_stands, test_stands, yes_stands, no_stands}
use Rattle.pc_fill.specs.models.TagOrder.{TagsInOrder, comes_later}
use Rattle.pc_fill.proofs.Plain.{passed_plain}
use Rattle.pc_fill.proofs.TagOrderKept.{order_from, later_stays}

-- ---- behind the front

module _ (s : Setting) (way : Path) (depth place : ℕ) where
  -- an item or test at the root
  root_way : (tree : Tree) (what : Option Item) → 0 < tree_size tree → MayRise (forms_of s) what tree 0 → ComesBehind s way depth place tree
      → MayComeHere s what place ↔ MayComeAlong (forms_of s) way what
  root_way tree what some in_order h =
      let e : place + 0 ≡ place = omega arith in
      (λ m. ((h.way what 0 some).0 (subst (MayComeHere s what) (sym e) m)).0, λ m. subst (MayComeHere s what) e ((h.way what 0 some).1 (m, in_order)))

  root_leads : (tree : Tree) → Leads tree [] 0 0 → ComesBehind s way depth place tree → Reaches (front_in s.window.now.tree) (sides_of way) depth place
  root_leads tree leads h =
      let e : place + 0 ≡ place = omega arith in
      let d : depth + 0 ≡ depth = omega arith in
      let l : sides_of way ++ [] ≡ sides_of way = append-nil (sides_of way) in
      subst (λ (k : ℕ). Reaches (front_in s.window.now.tree) (sides_of way) depth k) e
      (subst (λ (k : ℕ). Reaches (front_in s.window.now.tree) (sides_of way) k (place + 0)) d
      (subst (λ (sides : List Bool). Reaches (front_in s.window.now.tree) sides (depth + 0) (place + 0)) l (h.leads [] 0 0 leads)))

  item_there : (tag origin : ℕ) (x : Item) (rest : Tree) → ComesBehind s way depth place (Pending tag origin x rest)
      → StandsThere s way depth place (record { tag = tag; origin = origin; what = Some x; operands = operands_of x })
  item_there tag origin x rest h = record {
    at = item_stands tag origin x rest place (all_in s) h.stands;
    way = root_way (Pending tag origin x rest) (Some x) (omega arith) tt h;
    leads = root_leads (Pending tag origin x rest) (To_item tag origin x rest) h;
  }

  test_there : (tag origin : ℕ) (on : Operand) (p q : Tree) → ComesBehind s way depth place (Undecided tag origin on p q)
      → StandsThere s way depth place (record { tag = tag; origin = origin; what = None; operands = on ∷ [] })
  test_there tag origin on p q h = record {
    at = test_stands tag origin on p q place (all_in s) h.stands;
    way = root_way (Undecided tag origin on p q) None (omega arith) tt h;
    leads = root_leads (Undecided tag origin on p q) (To_test tag origin on p q) h;
  }

  -- below an item
  past_item : (tag origin : ℕ) (x : Item) (rest : Tree) (below : Path) → LeadsOn (forms_of s) (MayPass (forms_of s) x) way below → sides_of below ≡ sides_of way
      → ComesBehind s way depth place (Pending tag origin x rest) → ComesBehind s below (suc depth) (suc place) rest
  past_item tag origin x rest below leads same h = record {
    stands = rest_stands tag origin x rest place (suc place) (all_in s) (omega arith) h.stands;
    way = λ what n less.
        let e : place + suc n ≡ suc place + n = omega arith in
        let at = h.way what (suc n) (omega arith) in (
          λ m.
              let r = at.0 (subst (MayComeHere s what) (sym e) m) in
              let b = from_below (Unit {0}) (λ j. MayPass (forms_of s) x what × MayRise (forms_of s) what rest j) n r.1 in
              ((leads what).1 (b.0, r.0), b.1),
          λ m.
              let a = (leads what).0 m.0 in
              subst (MayComeHere s what) e (at.1 (a.1, to_below (Unit {0}) (λ j. MayPass (forms_of s) x what × MayRise (forms_of s) what rest j) n (a.0, m.1))),
        );
    leads = λ sides d n l.
        let e : place + suc n ≡ suc place + n = omega arith in
        let f : depth + suc d ≡ suc depth + d = omega arith in
        subst (λ (it : List Bool). Reaches (front_in s.window.now.tree) (it ++ sides) (suc depth + d) (suc place + n)) (sym same)
        (subst (λ (k : ℕ). Reaches (front_in s.window.now.tree) (sides_of way ++ sides) (suc depth + d) k) e
        (subst (λ (k : ℕ). Reaches (front_in s.window.now.tree) (sides_of way ++ sides) k (place + suc n)) f
        (h.leads sides (suc d) (suc n) (Below_item tag origin x rest sides d n l))));
    in_order = λ e. order_from 0 tag rest (omega arith) (h.in_order e).1;
  }

pub is_full : (b : Bool) (m n : ℕ) → (b ≡ true) ↔ (m < n) → b ≡ false → n ≤ m
is_full b m n iff e = elim (decide_le n m) [
  | inl le ↦ le
  | inr less ↦ absurd (failed iff e less)
]

-- what crosses a test has no room where items have none
no_room : (limits : Limits) (what : Option Item) (front : Front) (counts : Counts) → AreCounts counts front → limits.ops ≤ counts.items → HasSpace limits what front → MayCross what → ⊥
no_room limits None front counts are full room cross = cross
no_room limits (Some x) front counts are full room cross = let a = are.items in let b = room.0 in omega arith

-- a side goes behind the sides above it
pub turned : (sides above more : List Bool) (side : Bool) → sides ≡ above ++ (side ∷ []) → above ++ (side ∷ more) ≡ sides ++ more
turned sides above more side e = sym (ap (λ (l : List Bool). l ++ more) e ∙ append_assoc above (side ∷ []) more)

-- below a test
module _ (s : Setting) (way : Path) (depth place : ℕ) (tag origin : ℕ) (on : Operand) (p q : Tree) (h : ComesBehind s way depth place (Undecided tag origin on p q)) where
  Sides : Option Item → ℕ → Type 0
  Sides what j = MayCross what × Side (nat_lt j (tree_size p)) (MayRise (forms_of s) what p j) (MayRise (forms_of s) what q (j - tree_size p))

  -- on its yes side
  past_test_yes : (below : Path) → LeadsOn (forms_of s) MayCross way below → sides_of below ≡ sides_of way ++ (true ∷ []) → ComesBehind s below depth (suc place) p
  unfolding Sides
  past_test_yes below leads turns = record {
    stands = yes_stands tag origin on p q place (suc place) (all_in s) (omega arith) h.stands;
    way = λ what n less.
        let e : place + suc n ≡ suc place + n = omega arith in
        let at = h.way what (suc n) (omega arith) in (
          λ m.
              let r = at.0 (subst (MayComeHere s what) (sym e) m) in
              let b = from_below (Unit {0}) (Sides what) n r.1 in
              ((leads what).1 (b.0, r.0), from_yes (MayRise (forms_of s) what p) (MayRise (forms_of s) what q) n (tree_size p) less b.1),
          λ m.
              let a = (leads what).0 m.0 in
              subst (MayComeHere s what) e
              (at.1 (a.1, to_below (Unit {0}) (Sides what) n (a.0, to_yes (MayRise (forms_of s) what p) (MayRise (forms_of s) what q) n (tree_size p) less m.1))),
        );
    leads = λ sides d n l.
        let e : place + suc n ≡ suc place + n = omega arith in
        subst (λ (it : List Bool). Reaches (front_in s.window.now.tree) it (depth + d) (suc place + n)) (turned (sides_of below) (sides_of way) sides true turns)
        (subst (λ (k : ℕ). Reaches (front_in s.window.now.tree) (sides_of way ++ (true ∷ sides)) (depth + d) k) e
        (h.leads (true ∷ sides) d (suc n) (On_yes_side tag origin on p q sides d n l)));
    in_order = λ e. order_from 0 tag p (omega arith) (h.in_order e).1;
  }

  -- on its no side
  past_test_no : (below : Path) → LeadsOn (forms_of s) MayCross way below → sides_of below ≡ sides_of way ++ (false ∷ []) → ComesBehind s below depth (suc place + tree_size p) q
  unfolding Sides
  past_test_no below leads turns = record {
    stands = no_stands tag origin on p q place (suc place) (suc place + tree_size p) (all_in s) (omega arith) refl h.stands;
    way = λ what n less.
        let e : place + suc (tree_size p + n) ≡ suc place + tree_size p + n = omega arith in
        let at = h.way what (suc (tree_size p + n)) (omega arith) in (
          λ m.
              let r = at.0 (subst (MayComeHere s what) (sym e) m) in
              let b = from_below (Unit {0}) (Sides what) (tree_size p + n) r.1 in
              ((leads what).1 (b.0, r.0), from_no (MayRise (forms_of s) what p) (MayRise (forms_of s) what q) n (tree_size p) b.1),
          λ m.
              let a = (leads what).0 m.0 in
              subst (MayComeHere s what) e
              (at.1 (a.1, to_below (Unit {0}) (Sides what) (tree_size p + n) (a.0, to_no (MayRise (forms_of s) what p) (MayRise (forms_of s) what q) n (tree_size p) m.1))),
        );
    leads = λ sides d n l.
        let e : place + suc (tree_size p + n) ≡ suc place + tree_size p + n = omega arith in
        subst (λ (it : List Bool). Reaches (front_in s.window.now.tree) it (depth + d) (suc place + tree_size p + n)) (turned (sides_of below) (sides_of way) sides false turns)
        (subst (λ (k : ℕ). Reaches (front_in s.window.now.tree) (sides_of way ++ (false ∷ sides)) (depth + d) k) e
        (h.leads (false ∷ sides) d (suc (tree_size p + n)) (On_no_side tag origin on p q sides d n l)));
    in_order = λ e. order_from 0 tag q (omega arith) (h.in_order e).2;
  }

  -- nothing is ready there where items have no room
  none_below : IsSetting s → s.window.now.limits.ops ≤ s.counts.items → (r : ReadyPlace (known_in s.known.now) (window_in s.window.now))
      → (n : ℕ) → suc place + n ≡ r.place → n < tree_size p + tree_size q → ⊥
  unfolding Sides
  none_below set full r n at less =
      let free = stands_free (known_in s.known.now) (forms_of s) r.tag r.origin r.place r.what (front_in s.window.now.tree) r.ready in
      let e : r.place ≡ place + suc n = omega arith in
      let m = (h.way r.what (suc n) (omega arith)).0 (subst (MayComeHere s r.what) e free.way) in
      let b = from_below (Unit {0}) (Sides r.what) n m.1 in
      no_room s.window.now.limits r.what (front_in s.window.now.tree) s.counts set.counts full r.room b.0

  test_passed_over : IsSetting s → s.window.now.limits.ops ≤ s.counts.items → (best : Option ReadyNode)
      → BestBefore (known_in s.known.now) (window_in s.window.now) (suc place) best
      → BestBefore (known_in s.known.now) (window_in s.window.now) (place + suc (tree_size p + tree_size q)) best
  test_passed_over set full best before =
      best_behind (known_in s.known.now) (window_in s.window.now) (suc place) (place + suc (tree_size p + tree_size q)) best (omega arith)
      (λ r from to. none_below set full r (r.place - suc place) (omega arith) (omega arith)) before

-- ---- a tree behind the front, as code looks at it

pub moved : (s : Setting) (search : Search) (m n : ℕ) → m ≡ n → BestSoFar s m search → BestSoFar s n search
moved s search m n e h = subst (λ (k : ℕ). BestSoFar s k search) e h

-- nothing stands there
pub looked_at_none : (s : Setting) (way : Path) (depth : ℕ) (tree : Tree) (search : Search) → tree_size tree ≡ 0 → LooksBehind s way depth tree search search
looked_at_none s way depth tree search none = record { on = λ set place comes best. moved s search place (place + tree_size tree) (omega arith) best }

-- all of it comes later than what was found
module _ (s : Setting) (way : Path) (depth : ℕ) (tree : Tree) (tag origin : ℕ) (search : Search) (b : Bool) (is_later : b ≡ comes_later s.in_order search.best tag) (later : b ≡ true) where
  left_out : (place : ℕ) → ComesBehind s way depth place tree → (s.in_order ≡ true → TagsInOrder tag tree) → BestSoFar s place search → BestSoFar s (place + tree_size tree) search
  left_out place comes in_order best = record {
    at = best.at;
    best = later_stays s place tree comes.stands search.best best.at tag (sym is_later ∙ later) in_order best.best;
    way = best.way;
  }

  pub item_left_out : (x : Item) (rest : Tree) → tree ≡ Pending tag origin x rest → LooksBehind s way depth tree search search
  item_left_out x rest is = record {
    on = λ set place comes best.
        left_out place comes (λ e. subst (TagsInOrder tag) (sym is) (omega arith, (subst (TagsInOrder 0) is (comes.in_order e)).1)) best;
  }

  pub test_left_out : (on : Operand) (p q : Tree) → tree ≡ Undecided tag origin on p q → LooksBehind s way depth tree search search
  test_left_out on p q is = record {
    on = λ set place comes best.
        left_out place comes (λ e. let h = subst (TagsInOrder 0) is (comes.in_order e) in subst (TagsInOrder tag) (sym is) (omega arith, h.1, h.2)) best;
  }

-- below an item
module _ (s : Setting) (way : Path) (x : Item) (depth : ℕ) (tree : Tree) (before after : Search) where
  pub below_item : (below : Path) → LeadsOn (forms_of s) (MayPass (forms_of s) x) way below → sides_of below ≡ sides_of way → LooksBehind s below depth tree before after
      → LooksBelow s way (MayPass (forms_of s) x) [] depth tree before after
  below_item below leads same looks = record { below = below; leads = leads; sides = same ∙ sym (append-nil (sides_of way)); looks = looks }

  pub below_plain : is_plain x ≡ true → LooksBehind s way depth tree before after → LooksBelow s way (MayPass (forms_of s) x) [] depth tree before after
  below_plain e looks = below_item way (passed_plain (forms_of s) x way e) refl looks

-- at an item
pub looked_past : (s : Setting) (way : Path) (depth : ℕ) (tree : Tree) (tag origin : ℕ) (x : Item) (rest : Tree) (before middle after : Search) → tree ≡ Pending tag origin x rest
    → LooksAt s way depth (record { tag = tag; origin = origin; what = Some x; operands = operands_of x }) before middle
    → LooksBelow s way (MayPass (forms_of s) x) [] (depth + 1) rest middle after → LooksBehind s way depth tree before after
looked_past s way depth tree tag origin x rest before middle after is at looks =
    let one : depth + 1 ≡ suc depth = omega arith in
    let size : tree_size tree ≡ suc (tree_size rest) = ap tree_size is in
    record {
      on = λ set place comes best.
          let here = subst (ComesBehind s way depth place) is comes in
          moved s after (suc place + tree_size rest) (place + tree_size tree) (omega arith)
          (looks.looks.on set (suc place)
          (subst (λ (d : ℕ). ComesBehind s looks.below d (suc place) rest) (sym one)
          (past_item s way depth place tag origin x rest looks.below looks.leads (looks.sides ∙ append-nil (sides_of way)) here))
          (at.on set place (item_there s way depth place tag origin x rest here) best));
    }

-- at a test
module _ (s : Setting) (way : Path) (depth : ℕ) (tree : Tree) (tag origin : ℕ) (on : Operand) (p q : Tree) (is : tree ≡ Undecided tag origin on p q) (before middle : Search)
    (at : LooksAt s way depth (record { tag = tag; origin = origin; what = None; operands = on ∷ [] }) before middle) where
  size_is : tree_size tree ≡ suc (tree_size p + tree_size q)
  size_is = ap tree_size is

  -- nothing is ready below it
  pub looked_over : (b : Bool) → (b ≡ true) ↔ (s.counts.items < s.window.now.limits.ops) → b ≡ false → LooksBehind s way depth tree before middle
  looked_over b iff e = record {
    on = λ set place comes best.
        let here = subst (ComesBehind s way depth place) is comes in
        let later = at.on set place (test_there s way depth place tag origin on p q here) best in
        let size = size_is in
        moved s middle (place + suc (tree_size p + tree_size q)) (place + tree_size tree) (omega arith)
        (record {
          at = later.at;
          best = test_passed_over s way depth place tag origin on p q here set (is_full b s.counts.items s.window.now.limits.ops iff e) (placed middle.best later.at) later.best;
          way = later.way;
        });
  }

  -- both sides were looked at
  pub looked_at_sides : (between after : Search) → LooksBelow s way MayCross (true ∷ []) depth p middle between → LooksBelow s way MayCross (false ∷ []) depth q between after
      → LooksBehind s way depth tree before after
  looked_at_sides between after on_yes on_no = record {
    on = λ set place comes best.
        let here = subst (ComesBehind s way depth place) is comes in
        let size = size_is in
        moved s after (suc place + tree_size p + tree_size q) (place + tree_size tree) (omega arith)
        (on_no.looks.on set (suc place + tree_size p) (past_test_no s way depth place tag origin on p q here on_no.below on_no.leads on_no.sides)
        (on_yes.looks.on set (suc place) (past_test_yes s way depth place tag origin on p q here on_yes.below on_yes.leads on_yes.sides)
        (at.on set place (test_there s way depth place tag origin on p q here) best)));
  }

pub ruleset walking = (looked_at_none, item_left_out, test_left_out, below_plain, looked_past, looked_over, looked_at_sides)
