-- A test that may move enters the node above.
use Rattle.std.proofs.Common.{◌≡◌, ℕ, Bool, true, false, List, [], ◌∷◌, Option, Some, None, refl, sym, ◌∙◌, ap, subst}
use Rattle.std.specs.Prelude.{◌-◌, not, if◌then◌else◌, nat_eq, nat_lt}
use Rattle.std.proofs.lemmas.Bool.{ltb-true}
use Rattle.pc_word.specs.declared.item.Item.{Item}
use Rattle.pc_word.specs.declared.item.Limits.{Limits}
use Rattle.pc_word.specs.declared.item.Operand.{Operand}
use Rattle.pc_linear.specs.Form.{Form}
use Rattle.pc_window.specs.declared.window.Window.{Window as StoredWindow}
use Rattle.pc_window.specs.StoredWindow.{forms_in, supply_in, window_in}
use Rattle.pc_window.specs.Tree.{Tree, Pending, Undecided, Front, Split, Unfinished}
use Rattle.pc_window.specs.Names.{IsKnown, and_dest, Scoped}
use Rattle.pc_window.specs.Jump.{DividesTree, Root_test, Past, Lands_test, Behind_item, On_yes, On_no}
use Rattle.pc_window.specs.Filled.{test_count}
use Rattle.pc_window.specs.Steps.{IsProper}
use Rattle.pc_moveop.specs.declared.error.MoveError.TheVariants.{Full}
use Rattle.pc_moveop.specs.declared.error.RoomKind.TheVariants.{Tests}
use Rattle.pc_moveop.specs.NodeTree.{NodeTree, Item_node, Test_node, Leads_to, Leads_out, nodes_in, whole_tree, node_front, leaf_count}
use Rattle.pc_moveop.specs.Climbing.{Passed_item, first_defined}
use Rattle.pc_moveop.specs.Refusing.{depends_on}
use Rattle.pc_moveop.specs.Taking.{leaf_to}
use Rattle.pc_moveop.proofs.Comes.{Enters}
use Rattle.pc_moveop.proofs.Known.{known_above}
use Rattle.pc_moveop.proofs.Legal.{first_item, both_none, no_name}
use Rattle.pc_moveop.proofs.Moved.{RoomAt}
use Rattle.pc_moveop.proofs.Rising.{leaf_front}
use Rattle.pc_moveop.proofs.Windows.{Keeps, stored_moves}
use Rattle.pc_movecj.specs.Dividing.{MovingTest, passing_test, first_test, moving_test_at, yes_part, no_part, divided}
use Rattle.pc_movecj.specs.MovingTest.{no_room_for_test, test_behind, refusal_of_test, IsWhyNotTest, TestHasMoved}

-- ---- its operand is known above

-- nothing on the way defines the operand
abbrev pub Undefined : MovingTest → Type 0
Undefined m = first_defined (m.on ∷ []) m.way ≡ None

abbrev pub IsKnownTest : (ℕ → Bool) → Tree → Option MovingTest → Type 0
IsKnownTest known from None = Unit {0}
IsKnownTest known from (Some m) = Undefined m → Scoped known from → IsKnown known m.on

known_past : (known : ℕ → Bool) (t o : ℕ) (y : Item) (rest : Tree) (finished : Bool) (found : Option MovingTest) → IsKnownTest (and_dest known y) rest found
    → IsKnownTest known (Pending t o y rest) (passing_test (Passed_item finished o y) found)
known_past known t o y rest finished None h = tt
known_past known t o y rest finished (Some m) h = λ undefined scoped. (
    let d = first_item finished o y m.way (m.on ∷ []) undefined in
    (known_above known y (m.on ∷ []) (h d.1 scoped.2, tt) d.0).0
    )

known_in : (known : ℕ → Bool) (t : NodeTree) → IsKnownTest known (whole_tree t) (first_test t)
known_in known (Item_node t o y rest) = known_past known t o y (whole_tree rest) false (first_test rest) (known_in (and_dest known y) rest)
known_in known (Test_node t o on p q) = λ undefined scoped. scoped.0
known_in known (Leads_to below) = tt
known_in known (Leads_out out) = tt

known_yes : (known : ℕ → Bool) (t o : ℕ) (on : Operand) (p q : Tree) (found : Option MovingTest) → IsKnownTest known p found → IsKnownTest known (Undecided t o on p q) found
known_yes known t o on p q None h = tt
known_yes known t o on p q (Some m) h = λ undefined scoped. h undefined scoped.1

known_no : (known : ℕ → Bool) (t o : ℕ) (on : Operand) (p q : Tree) (found : Option MovingTest) → IsKnownTest known q found → IsKnownTest known (Undecided t o on p q) found
known_no known t o on p q None h = tt
known_no known t o on p q (Some m) h = λ undefined scoped. h undefined scoped.2

known_at : (known : ℕ → Bool) (leaf : ℕ) (t : NodeTree) → IsKnownTest known (whole_tree t) (moving_test_at leaf t)
known_at known leaf (Item_node t o y rest) = known_past known t o y (whole_tree rest) true (moving_test_at leaf rest) (known_at (and_dest known y) leaf rest)
known_at known leaf (Test_node t o on p q) =
    elim (nat_lt leaf (leaf_count p)) as (λ b. IsKnownTest known (Undecided t o on (whole_tree p) (whole_tree q)) (if b then moving_test_at leaf p else moving_test_at (leaf - leaf_count p) q)) [
      | true ↦ known_yes known t o on (whole_tree p) (whole_tree q) (moving_test_at leaf p) (known_at known leaf p)
      | false ↦ known_no known t o on (whole_tree p) (whole_tree q) (moving_test_at (leaf - leaf_count p) q) (known_at known (leaf - leaf_count p) q)
    ]
known_at known leaf (Leads_to below) =
    elim (nat_eq leaf 0) as (λ b. IsKnownTest known (whole_tree below) (if b then first_test below else None)) [ true ↦ known_in known below | false ↦ tt ]
known_at known leaf (Leads_out out) = tt

-- ---- it enters

abbrev pub Divides : NodeTree → Option MovingTest → Type 0
Divides t None = Unit {0}
Divides t (Some m) = DividesTree m.tag m.origin m.on (whole_tree t) (whole_tree (yes_part t)) (whole_tree (no_part t))

divides_past : (t o : ℕ) (y : Item) (rest : NodeTree) (found : Option MovingTest) → Divides rest found → Divides (Item_node t o y rest) (passing_test (Passed_item false o y) found)
divides_past t o y rest None h = tt
divides_past t o y rest (Some m) h = Past t o y (whole_tree rest) (whole_tree (yes_part rest)) (whole_tree (no_part rest)) h

divides_in : (t : NodeTree) → Divides t (first_test t)
divides_in (Item_node t o y rest) = divides_past t o y rest (first_test rest) (divides_in rest)
divides_in (Test_node t o on p q) = Root_test (whole_tree p) (whole_tree q)
divides_in (Leads_to below) = tt
divides_in (Leads_out out) = tt

-- where it goes, by its tag, origin and operand
abbrev pub Placed : Type 0
Placed = (tag origin : ℕ) → Operand → NodeTree

module _ (forms : ℕ → Form) (base : ℕ → Bool) where
  abbrev pub EntersTest : NodeTree → Placed → Option MovingTest → Type 0
  EntersTest from to None = Unit {0}
  EntersTest from to (Some m) = IsKnown base m.on → Enters base forms forms None None (node_front from) (node_front (to m.tag m.origin m.on))

  enters_behind : (t o : ℕ) (y : Item) (rest : NodeTree) (to : Placed) (found : Option MovingTest) → EntersTest rest to found
      → EntersTest (Item_node t o y rest) (λ tag origin on. Item_node t o y (to tag origin on)) (passing_test (Passed_item true o y) found)
  enters_behind t o y rest to None h = tt
  enters_behind t o y rest to (Some m) h = λ known. (
      let k = h known in
      record { enters = Behind_item t o y None (node_front rest) (node_front (to m.tag m.origin m.on)) tt tt k.enters; twins = k.twins }
      )

  enters_yes : (t o : ℕ) (other : Operand) (p q : NodeTree) (to : Placed) (found : Option MovingTest) → EntersTest p to found
      → EntersTest (Test_node t o other p q) (λ tag origin on. Test_node t o other (to tag origin on) q) found
  enters_yes t o other p q to None h = tt
  enters_yes t o other p q to (Some m) h = λ known. (
      let k = h known in
      record { enters = On_yes t o other None (node_front p) (node_front q) (node_front (to m.tag m.origin m.on)) tt k.enters; twins = k.twins }
      )

  enters_no : (t o : ℕ) (other : Operand) (p q : NodeTree) (to : Placed) (found : Option MovingTest) → EntersTest q to found
      → EntersTest (Test_node t o other p q) (λ tag origin on. Test_node t o other p (to tag origin on)) found
  enters_no t o other p q to None h = tt
  enters_no t o other p q to (Some m) h = λ known. (
      let k = h known in
      record { enters = On_no t o other None (node_front p) (node_front q) (node_front (to m.tag m.origin m.on)) tt k.enters; twins = k.twins }
      )

  enters_here : (below : NodeTree) (found : Option MovingTest) → Divides below found
      → EntersTest (Leads_to below) (λ tag origin on. Test_node tag origin on (leaf_to (yes_part below)) (leaf_to (no_part below))) found
  enters_here below None h = tt
  enters_here below (Some m) h = λ known.
      subst (λ (f : Front). Enters base forms forms None None (Unfinished (whole_tree below)) (Split m.tag m.origin m.on f (node_front (leaf_to (no_part below))))) (sym (leaf_front (yes_part below)))
      (subst (λ (f : Front). Enters base forms forms None None (Unfinished (whole_tree below)) (Split m.tag m.origin m.on (Unfinished (whole_tree (yes_part below))) f))
      (sym (leaf_front (no_part below)))
      (record { enters = Lands_test m.tag m.origin m.on (whole_tree below) (whole_tree (yes_part below)) (whole_tree (no_part below)) known refl refl h; twins = tt }))

  enters : (leaf : ℕ) (t : NodeTree) → EntersTest t (λ tag origin on. divided tag origin on leaf t) (moving_test_at leaf t)
  enters leaf (Item_node t o y rest) = enters_behind t o y rest (λ tag origin on. divided tag origin on leaf rest) (moving_test_at leaf rest) (enters leaf rest)
  enters leaf (Test_node t o other p q) =
      elim (nat_lt leaf (leaf_count p)) as (λ b. EntersTest (Test_node t o other p q)
      (λ tag origin on. if b then Test_node t o other (divided tag origin on leaf p) q else Test_node t o other p (divided tag origin on (leaf - leaf_count p) q))
      (if b then moving_test_at leaf p else moving_test_at (leaf - leaf_count p) q)) [
        | true ↦ enters_yes t o other p q (λ tag origin on. divided tag origin on leaf p) (moving_test_at leaf p) (enters leaf p)
        | false ↦ enters_no t o other p q (λ tag origin on. divided tag origin on (leaf - leaf_count p) q) (moving_test_at (leaf - leaf_count p) q) (enters (leaf - leaf_count p) q)
      ]
  enters leaf (Leads_to below) =
      elim (nat_eq leaf 0) as (λ b. EntersTest (Leads_to below)
      (λ tag origin on. if b then Test_node tag origin on (leaf_to (yes_part below)) (leaf_to (no_part below)) else Leads_to below)
      (if b then first_test below else None)) [
        | true ↦ enters_here below (first_test below) (divides_in below)
        | false ↦ tt
      ]
  enters leaf (Leads_out out) = tt

-- ---- the window

room_for_test : (path : List ℕ) (limits : Limits) (front : Front) → no_room_for_test path limits front ≡ None → RoomAt path limits None front
room_for_test (leaf ∷ path) limits front e = tt
room_for_test [] limits front e = ltb-true (test_count front) limits.tests (not_full (nat_lt (test_count front) limits.tests) e)
  where
    not_full : (b : Bool) → (if not b then Some (Full Tests) else None) ≡ None → b ≡ true
    not_full true e = refl
    not_full false e = absurd (cc)

-- a move of a test that is not refused keeps all
pub moved : (w v : StoredWindow) (parent : List ℕ) (leaf : ℕ) → TestHasMoved w v parent leaf → IsWhyNotTest w parent leaf None → IsProper (window_in w) → Keeps w v
moved w v parent leaf h why proper =
    let m = h.test in
    let n = h.changes.node in
    let found : moving_test_at leaf n ≡ Some m = sym (ap (test_behind leaf) h.changes.at) ∙ h.is_test in
    let refuses : refusal_of_test w parent (Some m) ≡ None = sym (why ∙ ap (refusal_of_test w parent) h.is_test) in
    let nothing = both_none (depends_on (first_defined (m.on ∷ []) m.way)) (no_room_for_test parent w.limits (node_front (nodes_in w.tree))) refuses in
    let undefined : Undefined m = no_name (first_defined (m.on ∷ []) m.way) nothing.0 in
    stored_moves w v parent (divided m.tag m.origin m.on leaf) None None h.changes (ap supply_in h.names) h.bounds proper tt
    (room_for_test parent w.limits (node_front (nodes_in w.tree)) nothing.1)
    (λ known s. (subst (EntersTest (forms_in w.names.forms) known n (λ tag origin on. divided tag origin on leaf n)) found (enters (forms_in w.names.forms) known leaf n))
    ((subst (IsKnownTest known (whole_tree n)) found (known_at known leaf n)) undefined s.scoped))
