-- The search for the first ready item or test, place by place.
use Rattle.std.proofs.Common.{◌≡◌, ◌↔◌, ℕ, suc, ◌+◌, ◌<◌, ◌≤◌, ◌⊎◌, ◌^◌, inl, inr, Bool, true}
use Rattle.std.proofs.Common.{false, [], ◌∷◌, Option, Some, None, refl, sym, ◌∙◌, ap, subst, arith}
use Rattle.std.specs.Prelude.{nat_eq, nat_lt, ◌||◌, ◌&&◌, slice_get, IfSome}
use Rattle.std.proofs.lemmas.Bool.{eqb-true, ltb-true}
use Rattle.std.proofs.lemmas.Bool.Decides.{nat_tests}
use Rattle.pc_word.proofs.Truth.{or_false, and_true, decide_le, most_of, failed, held}
use Rattle.pc_word.specs.declared.item.Item.{Item}
use Rattle.pc_word.specs.declared.item.Limits.{Limits}
use Rattle.pc_word.specs.declared.item.Operand.{Operand}
use Rattle.pc_word.specs.Items.{operands_of}
use Rattle.pc_window.specs.Tree.{Tree, Pending, Undecided, Front, whole, tree_size}
use Rattle.pc_window.specs.declared.window.Window.{Window as StoredWindow}
use Rattle.pc_window.specs.StoredWindow.{tree_in, front_in, window_in}
use Rattle.pc_window.specs.WindowRun.{Window}
use Rattle.pc_window.specs.Filled.{HasSpace}
use Rattle.pc_window.specs.Ready.{ReadyPlace, NotBehind}
use Rattle.pc_fill.specs.declared.room.Counts.{Counts}
use Rattle.pc_fill.specs.declared.first.ReadyNode.{ReadyNode}
use Rattle.pc_fill.specs.FirstReady.{StandsReady, IsFirstReady}
use Rattle.pc_fill.specs.models.Places.{Node, nodes_of, MayComeFrom, IsReadyHere}
use Rattle.pc_fill.specs.models.Search.{AreCounts, HasRoom, StandsAt, comes_before, BestBefore}
use Rattle.pc_window.proofs.WindowsStored.{whole_in}
use Rattle.pc_fill.proofs.Nodes.{node_on_yes, node_on_no, node_within, StandsFree, stands_free, free_ready}

-- ---- room by counts

pub room_here : (limits : Limits) (what : Option Item) (counts : Counts) (front : Front) → AreCounts counts front → HasRoom limits what counts → HasSpace limits what front
room_here limits (Some x) counts front are h = (let a = are.items in let b = h.0 in omega arith, λ is. let a = are.memory in let b = h.1 is in omega arith)
room_here limits None counts front are h = let a = are.tests in omega arith

pub here_room : (limits : Limits) (what : Option Item) (counts : Counts) (front : Front) → AreCounts counts front → HasSpace limits what front → HasRoom limits what counts
here_room limits (Some x) counts front are h = (let a = are.items in let b = h.0 in omega arith, λ is. let a = are.memory in let b = h.1 is in omega arith)
here_room limits None counts front are h = let a = are.tests in omega arith

-- ---- one place more

-- what is ready and stands at a place
some_node : (n m : Node) → Some n ≡ Some m → n ≡ m
some_node n m e = cc

module _ (known : ℕ → Bool) (w : Window) (place : ℕ) (node : Node) (at : slice_get (nodes_of (whole w.front)) place ≡ Some node) where
  -- what is ready at this place is this item or test
  pub ready_at_place : (r : ReadyPlace known w) → r.place ≡ place → (r.tag ≡ node.tag) × (r.origin ≡ node.origin) × IsReadyHere known w place node.what node.operands
  ready_at_place r e =
      let k : StandsFree known w.forms r.tag r.origin r.place r.what w.front = stands_free known w.forms r.tag r.origin r.place r.what w.front r.ready in
      let that : Node = record { tag = r.tag; origin = r.origin; what = r.what; operands = k.operands } in
      let same : that ≡ node = some_node that node (sym k.at ∙ ap (slice_get (nodes_of (whole w.front))) e ∙ at) in
      let here : IsReadyHere known w place r.what k.operands = record { reads = k.reads; room = r.room; way = subst (MayComeFrom w.forms r.what w.front) e k.way } in
      (ap (λ (n : Node). n.tag) same, ap (λ (n : Node). n.origin) same, subst (λ (n : Node). IsReadyHere known w place n.what n.operands) same here)

  pub here_stands : IsReadyHere known w place node.what node.operands → StandsReady known w (record { tag = node.tag; origin = node.origin; place = place; item = node.what })
  here_stands h = record { ready = free_ready known w.forms w.front place node at h.reads h.way; room = h.room }

  -- where it is not ready, the first stays the first
  pub stays_best : (best : Option ReadyNode) → (IsReadyHere known w place node.what node.operands → ⊥) → BestBefore known w place best → BestBefore known w (suc place) best
  stays_best None never h = record {
    is = λ r less. elim (decide_le place r.place) [
      | inl le ↦ let e : r.place ≡ place = omega arith in never (ready_at_place r e).2
      | inr lt ↦ h.is r lt
    ];
  }
  stays_best (Some best) never h =
      let earlier = h.is.1 in
      record {
        is = (
          h.is.0,
          omega arith,
          λ r less. elim (decide_le place r.place) [
            | inl le ↦ let e : r.place ≡ place = omega arith in absurd (never (ready_at_place r e).2)
            | inr lt ↦ h.is.2 r lt
          ],
        );
      }

  -- where it does not come before the first, the first stays the first
  pub still_best : (best : Option ReadyNode) → comes_before node.tag node.origin best ≡ false → BestBefore known w place best → BestBefore known w (suc place) best
  still_best None e h = absurd (cc)
  still_best (Some best) e h =
      let earlier = h.is.1 in
      record {
        is = (
          h.is.0,
          omega arith,
          λ r less. elim (decide_le place r.place) [
            | inl le ↦
                let same : r.place ≡ place = omega arith in
                let k = ready_at_place r same in
                behind r.tag r.origin r.place k.0 k.1 (omega arith)
            | inr lt ↦ h.is.2 r lt
          ],
        );
      }
    where
      behind : (tag origin later : ℕ) → tag ≡ node.tag → origin ≡ node.origin → best.place ≤ later → NotBehind best.tag best.origin best.place tag origin later
      behind tag origin later p q le =
          let parts = or_false (nat_lt node.tag best.tag) (nat_eq node.tag best.tag && nat_lt node.origin best.origin) e in
          let not_less = most_of node.tag best.tag parts.0 in
          elim (decide_le node.tag best.tag) [
            | inr lt ↦ inl (omega arith)
            | inl most ↦
                let same : node.tag ≡ best.tag = omega arith in
                let not_before = same_tag same parts.1 in
                elim (decide_le node.origin best.origin) [
                  | inr lt ↦ inr (sym same ∙ sym p, inl (omega arith))
                  | inl le' ↦ let same' : best.origin ≡ origin = omega arith in inr (sym same ∙ sym p, inr (same', le))
                ]
          ]
        where
          same_tag : node.tag ≡ best.tag → (nat_eq node.tag best.tag && nat_lt node.origin best.origin) ≡ false → best.origin ≤ node.origin
          same_tag s f = grind (arith, nat_tests)

  -- where it comes before the first and is ready, it is the first
  pub becomes_best : (best : Option ReadyNode) → comes_before node.tag node.origin best ≡ true → IsReadyHere known w place node.what node.operands → BestBefore known w place best
      → BestBefore known w (suc place) (Some (record { tag = node.tag; origin = node.origin; place = place; item = node.what }))
  becomes_best None e here h = record {
    is = (
      here_stands here,
      omega arith,
      λ r less. elim (decide_le place r.place) [
        | inl le ↦ let same : r.place ≡ place = omega arith in let k = ready_at_place r same in inr (sym k.0, inr (sym k.1, omega arith))
        | inr lt ↦ absurd (h.is r lt)
      ],
    );
  }
  becomes_best (Some best) e here h = record {
    is = (
      here_stands here,
      omega arith,
      λ r less. elim (decide_le place r.place) [
        | inl le ↦ let same : r.place ≡ place = omega arith in let k = ready_at_place r same in inr (sym k.0, inr (sym k.1, omega arith))
        | inr lt ↦ before_all r.tag r.origin r.place (before (nat_lt node.tag best.tag) refl e) (h.is.2 r lt)
      ],
    );
  }
    where
      before : (b : Bool) → nat_lt node.tag best.tag ≡ b → (b || (nat_eq node.tag best.tag && nat_lt node.origin best.origin)) ≡ true
          → (node.tag < best.tag) ⊎ ((node.tag ≡ best.tag) × (node.origin < best.origin))
      before true k f = inl (ltb-true node.tag best.tag k)
      before false k f = let parts = and_true (nat_eq node.tag best.tag) (nat_lt node.origin best.origin) f in inr (eqb-true node.tag best.tag parts.0, ltb-true node.origin best.origin parts.1)

      before_all : (tag origin later : ℕ) → (node.tag < best.tag) ⊎ ((node.tag ≡ best.tag) × (node.origin < best.origin)) → NotBehind best.tag best.origin best.place tag origin later
          → NotBehind node.tag node.origin place tag origin later
      before_all tag origin later (inl p) (inl q) = inl (omega arith)
      before_all tag origin later (inl p) (inr q) = let a = q.0 in inl (omega arith)
      before_all tag origin later (inr p) (inl q) = let a = p.0 in inl (omega arith)
      before_all tag origin later (inr p) (inr (q, inl r)) = let a = p.1 in inr (p.0 ∙ q, inl (omega arith))
      before_all tag origin later (inr p) (inr (q, inr r)) = let a = p.1 in let b = r.0 in inr (p.0 ∙ q, inl (omega arith))

-- where nothing that stands before the next place is ready, the first stays the first
pub best_behind : (known : ℕ → Bool) (w : Window) (place next : ℕ) (best : Option ReadyNode) → place ≤ next
    → ((r : ReadyPlace known w) → place ≤ r.place → r.place < next → ⊥) → BestBefore known w place best → BestBefore known w next best
best_behind known w place next None le never h = record {
  is = λ r less. elim (decide_le place r.place) [
    | inl from ↦ never r from less
    | inr lt ↦ h.is r lt
  ];
}
best_behind known w place next (Some best) le never h =
    let earlier = h.is.1 in
    record {
      is = (
        h.is.0,
        omega arith,
        λ r less. elim (decide_le place r.place) [
          | inl from ↦ absurd (never r from less)
          | inr lt ↦ h.is.2 r lt
        ],
      );
    }

-- the same in memory
module _ (known : ℕ → Bool) (w : StoredWindow) (place next : ℕ) (node : Node)
    (at : slice_get (nodes_of (tree_in w.tree)) place ≡ Some node) (step : next ≡ place + 1) (best : Option ReadyNode)
    (before : BestBefore known (window_in w) place best) where
  stands_there : slice_get (nodes_of (whole (front_in w.tree))) place ≡ Some node
  stands_there = ap (λ (t : Tree). slice_get (nodes_of t) place) (whole_in w.tree) ∙ at

  one_on : (later : Option ReadyNode) → BestBefore known (window_in w) (suc place) later → BestBefore known (window_in w) next later
  one_on later h = let e : suc place ≡ next = omega arith in subst (λ (n : ℕ). BestBefore known (window_in w) n later) e h

  pub look_behind : comes_before node.tag node.origin best ≡ false → BestBefore known (window_in w) next best
  look_behind e = one_on best (still_best known (window_in w) place node stands_there best e before)

  pub look_unready : (b : Bool) → (b ≡ true) ↔ IsReadyHere known (window_in w) place node.what node.operands → b ≡ false → BestBefore known (window_in w) next best
  look_unready b iff e = one_on best (stays_best known (window_in w) place node stands_there best (failed iff e) before)

  pub look_found : (b : Bool) → comes_before node.tag node.origin best ≡ true → (b ≡ true) ↔ IsReadyHere known (window_in w) place node.what node.operands → b ≡ true
      → BestBefore known (window_in w) next (Some (record { tag = node.tag; origin = node.origin; place = place; item = node.what }))
  look_found b e iff f = one_on _ (becomes_best known (window_in w) place node stands_there best e (held iff f) before)

-- ---- trees in a tree

pub item_stands : (tag origin : ℕ) (item : Item) (rest : Tree) (place : ℕ) (all : Tree) → StandsAt (Pending tag origin item rest) place all
    → slice_get (nodes_of all) place ≡ Some (record { tag = tag; origin = origin; what = Some item; operands = operands_of item })
item_stands tag origin item rest place all h = let e : place ≡ place + 0 = omega arith in ap (slice_get (nodes_of all)) e ∙ h.at 0 (omega arith)

pub rest_stands : (tag origin : ℕ) (item : Item) (rest : Tree) (place next : ℕ) (all : Tree) → next ≡ place + 1 → StandsAt (Pending tag origin item rest) place all → StandsAt rest next all
rest_stands tag origin item rest place next all is h = record { at = λ k less. let e : next + k ≡ place + suc k = omega arith in ap (slice_get (nodes_of all)) e ∙ h.at (suc k) (omega arith) }

pub test_stands : (tag origin : ℕ) (on : Operand) (p q : Tree) (place : ℕ) (all : Tree) → StandsAt (Undecided tag origin on p q) place all
    → slice_get (nodes_of all) place ≡ Some (record { tag = tag; origin = origin; what = None; operands = on ∷ [] })
test_stands tag origin on p q place all h = let e : place ≡ place + 0 = omega arith in ap (slice_get (nodes_of all)) e ∙ h.at 0 (omega arith)

pub yes_stands : (tag origin : ℕ) (on : Operand) (p q : Tree) (place next : ℕ) (all : Tree) → next ≡ place + 1 → StandsAt (Undecided tag origin on p q) place all → StandsAt p next all
yes_stands tag origin on p q place next all is h =
    record { at = λ k less. let e : next + k ≡ place + suc k = omega arith in ap (slice_get (nodes_of all)) e ∙ h.at (suc k) (omega arith) ∙ node_on_yes p q k less }

pub no_stands : (tag origin : ℕ) (on : Operand) (p q : Tree) (place next after : ℕ) (all : Tree) → next ≡ place + 1 → after ≡ next + tree_size p
    → StandsAt (Undecided tag origin on p q) place all → StandsAt q after all
no_stands tag origin on p q place next after all is is' h = record {
  at = λ k less.
      let e : after + k ≡ place + suc (tree_size p + k) = omega arith in
      ap (slice_get (nodes_of all)) e ∙ h.at (suc (tree_size p + k)) (omega arith) ∙ node_on_no p q k;
}

-- the same where a tree is known to be so
pub below_item : (tree rest : Tree) (tag origin : ℕ) (item : Item) (place next : ℕ) (all : Tree)
    → tree ≡ Pending tag origin item rest → next ≡ place + 1 → place + tree_size tree < 2 ^ 31
    → StandsAt tree place all → (next + tree_size rest < 2 ^ 31) × StandsAt rest next all
below_item tree rest tag origin item place next all is step small h =
    let size : tree_size tree ≡ suc (tree_size rest) = ap tree_size is in
    (omega arith, rest_stands tag origin item rest place next all step (subst (λ (t : Tree). StandsAt t place all) is h))

pub below_test : (tree p q : Tree) (tag origin : ℕ) (on : Operand) (place next : ℕ) (all : Tree) → tree ≡ Undecided tag origin on p q → next ≡ place + 1 → place + tree_size tree < 2 ^ 31
    → StandsAt tree place all → (next + tree_size p < 2 ^ 31) × StandsAt p next all
below_test tree p q tag origin on place next all is step small h =
    let size : tree_size tree ≡ suc (tree_size p + tree_size q) = ap tree_size is in
    (omega arith, yes_stands tag origin on p q place next all step (subst (λ (t : Tree). StandsAt t place all) is h))

pub behind_yes : (tree p q : Tree) (tag origin : ℕ) (on : Operand) (place next after : ℕ) (all : Tree)
    → tree ≡ Undecided tag origin on p q → next ≡ place + 1 → after ≡ next + tree_size p
    → place + tree_size tree < 2 ^ 31 → StandsAt tree place all → (after + tree_size q < 2 ^ 31) × StandsAt q after all
behind_yes tree p q tag origin on place next after all is step step' small h =
    let size : tree_size tree ≡ suc (tree_size p + tree_size q) = ap tree_size is in
    (omega arith, no_stands tag origin on p q place next after all step step' (subst (λ (t : Tree). StandsAt t place all) is h))

pub all_stands : (tree : Tree) → StandsAt tree 0 tree
all_stands tree = record { at = λ k less. let e : 0 + k ≡ k = omega arith in ap (slice_get (nodes_of tree)) e }

-- ---- the end

pub nothing_before : (known : ℕ → Bool) (w : Window) → BestBefore known w 0 None
nothing_before known w = record { is = λ r less. omega arith }

ready_within : (known : ℕ → Bool) (w : Window) (r : ReadyPlace known w) → r.place < tree_size (whole w.front)
ready_within known w r =
    let k : StandsFree known w.forms r.tag r.origin r.place r.what w.front = stands_free known w.forms r.tag r.origin r.place r.what w.front r.ready in
    node_within (whole w.front) r.place _ k.at

-- nothing is ready where nothing was found
pub none_ready : (known : ℕ → Bool) (w : Window) (place : ℕ) → place ≡ tree_size (whole w.front) → BestBefore known w place None → ReadyPlace known w → ⊥
none_ready known w place is h r = let a = ready_within known w r in h.is r (omega arith)

-- what was found is the first of all
pub first_of_all : (known : ℕ → Bool) (w : Window) (place : ℕ) (best : ReadyNode) → place ≡ tree_size (whole w.front) → BestBefore known w place (Some best) → IsFirstReady known w best
first_of_all known w place best is h = record { stands = h.is.0; first = λ r. let a = ready_within known w r in h.is.2 r (omega arith) }

-- the same in memory
module _ (known : ℕ → Bool) (w : StoredWindow) (place : ℕ) (best : Option ReadyNode) (is : place ≡ 0 + tree_size (tree_in w.tree)) (h : BestBefore known (window_in w) place best) where
  at_end : place ≡ tree_size (whole (front_in w.tree))
  at_end = let size : tree_size (whole (front_in w.tree)) ≡ tree_size (tree_in w.tree) = ap tree_size (whole_in w.tree) in omega arith

  pub none_found : best ≡ None → ReadyPlace known (window_in w) → ⊥
  none_found e r = none_ready known (window_in w) place at_end (subst (BestBefore known (window_in w) place) e h) r

  pub first_found : IfSome best (IsFirstReady known (window_in w))
  first_found = by_case best h
    where
      by_case : (found : Option ReadyNode) → BestBefore known (window_in w) place found → IfSome found (IsFirstReady known (window_in w))
      by_case None k = tt
      by_case (Some it) k = first_of_all known (window_in w) place it at_end k
