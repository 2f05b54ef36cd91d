-- What is told of a test on its way up.
use Rattle.std.proofs.Common.{◌≡◌, ℕ, Bool, true, false, List, [], ◌∷◌, Option, Some, None, refl, sym, ◌∙◌, ap}
use Rattle.std.specs.Prelude.{ℤ, ◌||◌, IsSome}
use Rattle.std.specs.List.{list_any}
use Rattle.pc_word.specs.declared.item.Item.{Item}
use Rattle.pc_word.specs.declared.item.Operand.{Operand}
use Rattle.pc_word.specs.declared.item.Operand.TheVariants.{Name, Lit}
use Rattle.pc_window.specs.declared.window.Window.{Window as StoredWindow}
use Rattle.pc_moveop.specs.declared.error.MoveError.{MoveError}
use Rattle.pc_moveop.specs.declared.error.MoveError.TheVariants.{NotThere, Depends}
use Rattle.pc_moveop.specs.NodeTree.{NodeTree, nodes_in, node_at, node_front}
use Rattle.pc_moveop.specs.Refusing.{refused_first, depends_on}
use Rattle.pc_moveop.specs.Climbing.{Passed, Passed_item, defines_operand, first_defined}
use Rattle.pc_movecj.specs.Dividing.{MovingTest, passing_test}
use Rattle.pc_movecj.specs.MovingTest.{no_room_for_test, test_behind, test_of, refusal_of_test}
use Rattle.pc_movecj.specs.models.TestClimbs.{FindsTest}
use Rattle.pc_movecj.specs.declared.climbing.TestClimb.{TestClimb}

-- it has passed nothing
pub started : (tag origin : ℕ) (on : Operand) → FindsTest (Some (record { tag = tag; origin = origin; on = on; way = [] }))
    (Some (record { tag = tag; origin = origin; on = on; defined = false }))
started tag origin on = record { is = record { tag = refl; origin = refl; on = refl; defined = refl } }

-- it has passed an item
pub passed : (m : Option MovingTest) (c : TestClimb) (finished : Bool) (origin : ℕ) (above : Item) (defined : Bool)
    → defined ≡ (defines_operand (Some c.on) (Passed_item finished origin above) || c.defined) → FindsTest m (Some c)
    → FindsTest (passing_test (Passed_item finished origin above) m) (Some (record c { defined = defined }))
passed (Some m) c finished origin above defined is found =
    let h = found.is in
    record {
      is = record {
        tag = h.tag;
        origin = h.origin;
        on = h.on;
        defined = is ∙ (λ i. defines_operand (Some (h.on i)) (Passed_item finished origin above) || h.defined i);
      };
    }
passed None c finished origin above defined is found = absurd (found.is)

-- there is none
pub none_passed : (what : Passed) (m : Option MovingTest) → FindsTest m None → FindsTest (passing_test what m) None
none_passed what None found = found
none_passed what (Some m) found = absurd (found.is)

pub none_found : FindsTest None None
none_found = record { is = tt }

-- ---- refusals

-- the first refusal, by what is told of a test
pub depends : (w : StoredWindow) (parent : List ℕ) (m : Option MovingTest) (c : TestClimb) (name : ℕ) → c.defined ≡ true → c.on ≡ Name name → FindsTest m (Some c)
    → Some (Depends name) ≡ refusal_of_test w parent m
depends w parent (Some m) c name defined on found =
    let h = found.is in
    let is : m.on ≡ Name name = sym h.on ∙ on in
    let any : list_any (defines_operand (Some (Name name))) m.way ≡ true = ap (λ (o : Operand). list_any (defines_operand (Some o)) m.way) (sym is) ∙ sym h.defined ∙ defined in
    rw (is, any) refl
depends w parent None c name defined on found = absurd (found.is)

-- otherwise there is no room, or nothing is refused
pub no_name : (w : StoredWindow) (parent : List ℕ) (m : Option MovingTest) (c : TestClimb) (why : Option MoveError) → c.defined ≡ false → FindsTest m (Some c)
    → why ≡ no_room_for_test parent w.limits (node_front (nodes_in w.tree)) → why ≡ refusal_of_test w parent m
no_name w parent (Some m) c why defined found is = is ∙ none m.on (sym found.is.defined ∙ defined)
  where
    none : (o : Operand) → list_any (defines_operand (Some o)) m.way ≡ false
        → no_room_for_test parent w.limits (node_front (nodes_in w.tree)) ≡ refused_first
        (depends_on (first_defined (o ∷ []) m.way)) (no_room_for_test parent w.limits (node_front (nodes_in w.tree)))
    none (Name x) e = rw e refl
    none (Lit v) e = refl
no_name w parent None c why defined found is = absurd (found.is)

pub literal : (w : StoredWindow) (parent : List ℕ) (m : Option MovingTest) (c : TestClimb) (value : ℤ) (why : Option MoveError) → c.on ≡ Lit value → FindsTest m (Some c)
    → why ≡ no_room_for_test parent w.limits (node_front (nodes_in w.tree)) → why ≡ refusal_of_test w parent m
literal w parent (Some m) c value why on found is =
    let lit : m.on ≡ Lit value = sym found.is.on ∙ on in
    is ∙ sym (ap (λ (o : Operand). refused_first (depends_on (first_defined (o ∷ []) m.way)) (no_room_for_test parent w.limits (node_front (nodes_in w.tree)))) lit)
literal w parent None c value why on found is = absurd (found.is)

-- there is nothing to move
pub nothing_found : (w : StoredWindow) (parent : List ℕ) (m : Option MovingTest) → FindsTest m None → Some NotThere ≡ refusal_of_test w parent m
nothing_found w parent None found = refl
nothing_found w parent (Some m) found = absurd (found.is)

-- a test was found in a node that is there
pub is_there : (w : StoredWindow) (parent : List ℕ) (leaf : ℕ) (c : TestClimb) → FindsTest (test_of w parent leaf) (Some c) → IsSome (node_at parent (nodes_in w.tree))
is_there w parent leaf c found = by_node (node_at parent (nodes_in w.tree)) found
  where
    by_node : (n : Option NodeTree) → FindsTest (test_behind leaf n) (Some c) → IsSome n
    by_node (Some n) f = refl
    by_node None f = absurd (f.is)

pub ruleset climbs = (passed)

pub ruleset searches = (started, none_passed, none_found)

pub ruleset refusing = (depends, no_name, literal, nothing_found)

pub ruleset carrying = (is_there)
