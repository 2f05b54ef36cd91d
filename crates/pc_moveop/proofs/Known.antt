-- What stands in a scoped node: what it reads is known above what it passes, and its name is new there.
use Rattle.std.proofs.Common.{ℕ, Bool, true, false, List, [], ◌∷◌, Option, Some, None, sym, ◌∙◌, ap}
use Rattle.std.specs.Prelude.{◌-◌, ◌||◌, if◌then◌else◌, nat_eq, nat_lt}
use Rattle.std.specs.List.{AllByRecursion}
use Rattle.pc_word.specs.declared.item.Item.{Item}
use Rattle.pc_word.specs.declared.item.Operand.{Operand}
use Rattle.pc_word.specs.declared.item.Operand.TheVariants.{Name, Lit}
use Rattle.pc_word.specs.Items.{dest_of, operands_of}
use Rattle.pc_linear.specs.Form.{Form}
use Rattle.pc_window.specs.Tree.{Tree, Pending, Undecided}
use Rattle.pc_window.specs.Names.{IsKnown, ReadsKnown, IsNew, and_dest, Scoped}
use Rattle.pc_moveop.specs.NodeTree.{NodeTree, Item_node, Test_node, Leads_to, Leads_out, whole_tree, node_size, leaf_count}
use Rattle.pc_moveop.specs.Climbing.{Passed_item, Passed_test, Mover, passing, mover_in, mover_at}
use Rattle.pc_moveop.proofs.Legal.{NotDefined, ClearWay}
use Rattle.pc_window.proofs.Rising.{new_to_either}

-- ---- names

-- what is known and not defined by an item is known above it
pub known_above : (known : ℕ → Bool) (y : Item) (os : List Operand) → AllByRecursion (IsKnown (and_dest known y)) os → AllByRecursion (NotDefined y) os → AllByRecursion (IsKnown known) os
known_above known y [] h n = tt
known_above known y (Lit v ∷ os) h n = (tt, known_above known y os h.1 n.1)
known_above known y (Name x ∷ os) h n = (sym (ap (λ (b : Bool). b || known x) n.0) ∙ h.0, known_above known y os h.1 n.1)

-- ---- what is found

module _ (forms : ℕ → Form) where
  -- of what is found: what it reads is known, and its name is new, above all that it passes
  abbrev pub IsKnownMover : (ℕ → Bool) → Tree → Option Mover → Type 0
  IsKnownMover known from None = Unit {0}
  IsKnownMover known from (Some m) = ClearWay forms m.item m.way → Scoped known from → ReadsKnown known m.item × IsNew known (dest_of m.item)

  past_item : (known : ℕ → Bool) (t o : ℕ) (y : Item) (rest : Tree) (finished : Bool) (found : Option Mover) → IsKnownMover (and_dest known y) rest found
      → IsKnownMover known (Pending t o y rest) (passing (Passed_item finished o y) found)
  past_item known t o y rest finished None h = tt
  past_item known t o y rest finished (Some m) h = λ clear scoped. (
      let k = h clear.1 scoped.2 in
      (known_above known y (operands_of m.item) k.0 clear.0.reads, (new_to_either known y (dest_of m.item) k.1).0)
      )

  past_yes : (known : ℕ → Bool) (t o : ℕ) (on : Operand) (p q : Tree) (found : Option Mover) → IsKnownMover known p found
      → IsKnownMover known (Undecided t o on p q) (passing Passed_test found)
  past_yes known t o on p q None h = tt
  past_yes known t o on p q (Some m) h = λ clear scoped. h clear.1 scoped.1

  past_no : (known : ℕ → Bool) (t o : ℕ) (on : Operand) (p q : Tree) (found : Option Mover) → IsKnownMover known q found
      → IsKnownMover known (Undecided t o on p q) (passing Passed_test found)
  past_no known t o on p q None h = tt
  past_no known t o on p q (Some m) h = λ clear scoped. h clear.1 scoped.2

  pub known_in : (known : ℕ → Bool) (place : ℕ) (t : NodeTree) → IsKnownMover known (whole_tree t) (mover_in place t)
  known_in known place (Item_node t o y rest) =
      elim (nat_eq place 0) as (λ b. IsKnownMover known (Pending t o y (whole_tree rest))
      (if b then Some (record { tag = t; origin = o; item = y; way = [] }) else passing (Passed_item false o y) (mover_in (place - 1) rest))) [
        | true ↦ λ clear scoped. (scoped.0, scoped.1)
        | false ↦ past_item known t o y (whole_tree rest) false (mover_in (place - 1) rest) (known_in (and_dest known y) (place - 1) rest)
      ]
  known_in known place (Test_node t o on p q) =
      elim (nat_eq place 0) as (λ b. IsKnownMover known (Undecided t o on (whole_tree p) (whole_tree q))
      (if b then None else (if nat_lt (place - 1) (node_size p) then passing Passed_test (mover_in (place - 1) p) else passing Passed_test (mover_in (place - 1 - node_size p) q)))) [
        | true ↦ tt
        | false ↦ (elim (nat_lt (place - 1) (node_size p)) as (λ b. IsKnownMover known (Undecided t o on (whole_tree p) (whole_tree q))
            (if b then passing Passed_test (mover_in (place - 1) p) else passing Passed_test (mover_in (place - 1 - node_size p) q))) [
              | true ↦ past_yes known t o on (whole_tree p) (whole_tree q) (mover_in (place - 1) p) (known_in known (place - 1) p)
              | false ↦ past_no known t o on (whole_tree p) (whole_tree q) (mover_in (place - 1 - node_size p) q) (known_in known (place - 1 - node_size p) q)
            ])
      ]
  known_in known place (Leads_to below) = tt
  known_in known place (Leads_out out) = tt

  on_yes : (known : ℕ → Bool) (t o : ℕ) (on : Operand) (p q : Tree) (found : Option Mover) → IsKnownMover known p found → IsKnownMover known (Undecided t o on p q) found
  on_yes known t o on p q None h = tt
  on_yes known t o on p q (Some m) h = λ clear scoped. h clear scoped.1

  on_no : (known : ℕ → Bool) (t o : ℕ) (on : Operand) (p q : Tree) (found : Option Mover) → IsKnownMover known q found → IsKnownMover known (Undecided t o on p q) found
  on_no known t o on p q None h = tt
  on_no known t o on p q (Some m) h = λ clear scoped. h clear scoped.2

  pub known_at : (known : ℕ → Bool) (leaf place : ℕ) (t : NodeTree) → IsKnownMover known (whole_tree t) (mover_at leaf place t)
  known_at known leaf place (Item_node t o y rest) = past_item known t o y (whole_tree rest) true (mover_at leaf place rest) (known_at (and_dest known y) leaf place rest)
  known_at known leaf place (Test_node t o on p q) =
      elim (nat_lt leaf (leaf_count p)) as (λ b. IsKnownMover known (Undecided t o on (whole_tree p) (whole_tree q)) (if b then mover_at leaf place p else mover_at (leaf - leaf_count p) place q)) [
        | true ↦ on_yes known t o on (whole_tree p) (whole_tree q) (mover_at leaf place p) (known_at known leaf place p)
        | false ↦ on_no known t o on (whole_tree p) (whole_tree q) (mover_at (leaf - leaf_count p) place q) (known_at known (leaf - leaf_count p) place q)
      ]
  known_at known leaf place (Leads_to below) =
      elim (nat_eq leaf 0) as (λ b. IsKnownMover known (whole_tree below) (if b then mover_in place below else None)) [
        | true ↦ known_in known place below
        | false ↦ tt
      ]
  known_at known leaf place (Leads_out out) = tt
