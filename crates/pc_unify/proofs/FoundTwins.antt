-- What is told of two items on the two sides of a test.
use Rattle.std.proofs.Common.{◌≡◌, ◌↔◌, ℕ, ◌+◌, ◌<◌, ◌^◌, Bool, true, false, List, [], Option, Some, None, refl, sym, ◌∙◌, ap, subst, arith}
use Rattle.std.specs.Prelude.{IsSome}
use Rattle.pc_word.specs.declared.item.Item.{Item}
use Rattle.pc_window.specs.declared.window.Window.{Window as StoredWindow}
use Rattle.pc_moveop.specs.declared.error.MoveError.{MoveError}
use Rattle.pc_moveop.specs.declared.error.MoveError.TheVariants.{NotThere}
use Rattle.pc_moveop.specs.NodeTree.{NodeTree, nodes_in, node_at}
use Rattle.pc_moveop.specs.Climbing.{Passed, Mover, passing, mover_at}
use Rattle.pc_moveop.specs.Refusing.{IsWhyNot}
use Rattle.pc_unify.specs.declared.twins.Standing.{Standing}
use Rattle.pc_unify.specs.Unifying.{are_sides, TwinsBehind, AreThere, IsWhyNotUnify, Not_there, As_on_yes, As_on_no}
use Rattle.pc_unify.specs.models.Twins.{IsStanding, FindsItem, FindsTwins}
use Rattle.pc_word.specs.Naming.{AreAlike}

-- ---- one item

pub started : (tag origin : ℕ) (item : Item) → FindsItem (Some (record { tag = tag; origin = origin; item = item; way = [] })) (Some (record { tag = tag; origin = origin; item = item }))
started tag origin item = record { is = record { tag = refl; origin = refl; item = refl } }

pub passed : (what : Passed) (m : Option Mover) (s : Option Standing) → FindsItem m s → FindsItem (passing what m) s
passed what (Some m) (Some s) h = let k = h.is in record { is = record { tag = k.tag; origin = k.origin; item = k.item } }
passed what None None h = h
passed what (Some m) None h = absurd (h.is)
passed what None (Some s) h = absurd (h.is)

pub none_found : FindsItem None None
none_found = record { is = tt }

pub ruleset standing = (started, passed, none_found)

-- ---- two items

no_mover : (m : Option Mover) → FindsItem m None → m ≡ None
no_mover None found = refl
no_mover (Some m) found = absurd (found.is)

item_found : (m : Option Mover) (s : Standing) → FindsItem m (Some s) → (k : Mover) × (m ≡ Some k) × IsStanding k s
item_found (Some k) s found = (k, refl, found.is)
item_found None s found = absurd (found.is)

module _ (node : NodeTree) (leaf yes_place no_place : ℕ) where
  -- they are there
  pub both_found : (s r : Standing) (same : Bool) → leaf + 1 < 2 ^ 16 → are_sides leaf node ≡ true → FindsItem (mover_at leaf yes_place node) (Some s)
      → FindsItem (mover_at (leaf + 1) no_place node) (Some r) → (same ≡ true) ↔ AreAlike s.item r.item → same ≡ true → FindsTwins leaf yes_place no_place (Some node) (Some s)
  both_found s r same numbered sides found other iff is =
      let m = item_found (mover_at leaf yes_place node) s found in
      let k = item_found (mover_at (leaf + 1) no_place node) r other in
      record {
        is = (
          record {
            sides = sides;
            numbered = numbered;
            on_yes = m.0;
            on_no = k.0;
            is_yes = m.1;
            is_no = k.1;
            alike = subst (λ (x : Item). AreAlike x k.0.item) m.2.item (subst (λ (x : Item). AreAlike s.item x) k.2.item (iff.0 is));
          },
          found,
        );
      }

  -- or they are not
  pub no_number : leaf ≡ 65535 → FindsTwins leaf yes_place no_place (Some node) None
  no_number last = record { is = λ twins. absurd (let n = twins.numbered in omega (arith, last)) }

  pub no_sides : are_sides leaf node ≡ false → FindsTwins leaf yes_place no_place (Some node) None
  no_sides none = record { is = λ twins. absurd (let s = twins.sides in cc) }

  pub no_yes_item : FindsItem (mover_at leaf yes_place node) None → FindsTwins leaf yes_place no_place (Some node) None
  no_yes_item none = record { is = λ twins. absurd (let e = no_mover (mover_at leaf yes_place node) none in let s = twins.is_yes in cc) }

  pub no_no_item : FindsItem (mover_at (leaf + 1) no_place node) None → FindsTwins leaf yes_place no_place (Some node) None
  no_no_item none = record { is = λ twins. absurd (let e = no_mover (mover_at (leaf + 1) no_place node) none in let s = twins.is_no in cc) }

  pub not_alike : (s r : Standing) (same : Bool) → FindsItem (mover_at leaf yes_place node) (Some s) → FindsItem (mover_at (leaf + 1) no_place node) (Some r)
      → (same ≡ true) ↔ AreAlike s.item r.item → same ≡ false → FindsTwins leaf yes_place no_place (Some node) None
  not_alike s r same found other iff is = record {
    is = λ twins.
        let m = item_found (mover_at leaf yes_place node) s found in
        let k = item_found (mover_at (leaf + 1) no_place node) r other in
        let yes_same : Some m.0 ≡ Some twins.on_yes = sym m.1 ∙ twins.is_yes in
        let no_same : Some k.0 ≡ Some twins.on_no = sym k.1 ∙ twins.is_no in
        let a : twins.on_yes ≡ m.0 = cc in
        let b : twins.on_no ≡ k.0 = cc in
        let alike : AreAlike s.item r.item = subst (λ (x : Item). AreAlike x r.item) (ap (λ (n : Mover). n.item) a ∙ sym m.2.item)
        (subst (λ (x : Item). AreAlike twins.on_yes.item x) (ap (λ (n : Mover). n.item) b ∙ sym k.2.item) twins.alike) in
        let t = iff.1 alike in absurd (cc);
  }

pub no_node : (leaf yes_place no_place : ℕ) → FindsTwins leaf yes_place no_place None None
no_node leaf yes_place no_place = record { is = λ twins. twins }

pub ruleset twins = (both_found, no_number, no_sides, no_yes_item, no_no_item, not_alike, no_node)

-- ---- refusals

module _ (w : StoredWindow) (parent : List ℕ) (leaf yes_place no_place : ℕ) where
  pub nothing_there : FindsTwins leaf yes_place no_place (node_at parent (nodes_in w.tree)) None → IsWhyNotUnify w parent leaf yes_place no_place (Some NotThere)
  nothing_there found = Not_there found.is

  pub yes_refused : (of_yes : Option MoveError) (why : MoveError) → AreThere w parent leaf yes_place no_place → IsWhyNot w parent leaf yes_place of_yes → of_yes ≡ Some why
      → IsWhyNotUnify w parent leaf yes_place no_place (Some why)
  yes_refused of_yes why there refuses is = As_on_yes why there (subst (IsWhyNot w parent leaf yes_place) is refuses)

  pub no_refused : (of_yes why : Option MoveError) → AreThere w parent leaf yes_place no_place → IsWhyNot w parent leaf yes_place of_yes → of_yes ≡ None
      → IsWhyNot w parent (leaf + 1) no_place why → IsWhyNotUnify w parent leaf yes_place no_place why
  no_refused of_yes why there refuses is other = As_on_no why there (subst (IsWhyNot w parent leaf yes_place) is refuses) other

  pub are_there : (s : Standing) → FindsTwins leaf yes_place no_place (node_at parent (nodes_in w.tree)) (Some s) → AreThere w parent leaf yes_place no_place
  are_there s found = found.is.0

  pub are_numbered : (s : Standing) → FindsTwins leaf yes_place no_place (node_at parent (nodes_in w.tree)) (Some s) → leaf + 1 < 2 ^ 16
  are_numbered s found = by_node (node_at parent (nodes_in w.tree)) found.is.0
    where
      by_node : (n : Option NodeTree) → TwinsBehind leaf yes_place no_place n → leaf + 1 < 2 ^ 16
      by_node (Some n) twins = twins.numbered
      by_node None none = absurd none

pub ruleset refusing = (nothing_there, yes_refused, no_refused, are_there, are_numbered)

-- ---- what is made one

module _ (leaf yes_place no_place : ℕ) where
  -- they were found in a node that is there
  pub is_there : (node : Option NodeTree) (s : Standing) → FindsTwins leaf yes_place no_place node (Some s) → IsSome node
  is_there (Some n) s found = refl
  is_there None s found = absurd (found.is.0)

pub ruleset carrying = (is_there)
