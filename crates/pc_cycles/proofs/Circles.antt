-- What stands on ways that lead back.
use Rattle.std.proofs.Common.{Bool, ◌≡◌, ℕ, ◌*◌, ◌≤◌, ◌<◌, ◌^◌, List, length, ◌∙◌, ap, subst, arith}
use Rattle.std.specs.Prelude.{IfSome}
use Rattle.std.specs.List.{count_by}
use Rattle.std.proofs.lemmas.Nat.{mul-le}
use Rattle.pc_word.specs.declared.item.Limits.{Limits}
use Rattle.pc_word.specs.declared.item.Item.{Item}
use Rattle.pc_word.specs.declared.item.Operand.{Operand}
use Rattle.pc_word.specs.Items.{is_memory}
use Rattle.pc_automaton.specs.Automaton.{AutomatonState}
use Rattle.pc_told.specs.Resources.{IsLeastRoom}
use Rattle.pc_told.specs.Tellings.{Telling}
use Rattle.pc_waiting.specs.declared.obstacle.Waiting.{Waiting}
use Rattle.pc_told.proofs.Rooms.{paths_have_room, paths_take_rows}
use Rattle.pc_cycles.specs.declared.cycle.Cycle.{Cycle}
use Rattle.pc_cycles.specs.declared.transition.Transition.{Transition}
use Rattle.pc_cycles.specs.Chains.{IsChain}
use Rattle.pc_cycles.specs.Transitions.{items_along, tests_along, taken_along, origins_along}
use Rattle.pc_cycles.specs.Cycles.{IsCycle, IsGreatestCount, NeedsRows, iteration_origins}
use Rattle.pc_cycles.specs.models.Circles.{IsCircle, AreThere, HaveFewLeaves}
use Rattle.pc_cycles.specs.models.Walking.{IsGround}
use Rattle.pc_cycles.proofs.Ways.{way_is_path, way_is_there, few_origins_along, few_taken_along, few_leaves}

module _ (limits : Limits) (states : List AutomatonState) (ground : IsGround limits states) where
  pub leaves_are_few : HaveFewLeaves states
  leaves_are_few = let few = ground.limited.tests.1 in few_leaves limits states (omega (arith, few)) ground.scheduled.fits

  pub circle_is_there : (way : List Transition) → IsCircle states way → AreThere states way
  circle_is_there way circle = way_is_there circle.closed

  few_in : (count each most : ℕ) (way : List Transition) → IsCircle states way → count ≤ length way * each → each ≤ most → count ≤ 512 * most
  few_in count each most way circle fits each_few =
      let few = circle.few in
      let states_few = ground.scheduled.few in
      let product = mul-le (length way) each 512 most (omega (arith, few, states_few)) each_few in
      omega (arith, fits, product)

  -- no more stands on it than can be counted
  pub few_items : (way : List Transition) → IsCircle states way → length (items_along states way) < 2 ^ 31
  few_items way circle =
      let room = paths_have_room limits states ground.scheduled.fits _ _ _ _ (way_is_path circle.closed) in
      let few = few_in (length (items_along states way)) limits.ops 32 way circle room.items_fit ground.limited.ops.1 in
      omega (arith, few)

  pub few_tests : (way : List Transition) → IsCircle states way → length (tests_along states way) < 2 ^ 31
  few_tests way circle =
      let room = paths_have_room limits states ground.scheduled.fits _ _ _ _ (way_is_path circle.closed) in
      let few = few_in (length (tests_along states way)) limits.tests 7 way circle room.tests_fit ground.limited.tests.1 in
      omega (arith, few)

  pub few_taken : (way : List Transition) → IsCircle states way → length (taken_along states way) < 2 ^ 31
  few_taken way circle =
      let tests = few_tests way circle in
      let taken = few_taken_along states way in
      omega (arith, tests, taken)

  pub few_told : (of_items : Bool) (tellings : List Telling) (way : List Transition) → IsCircle states way → length (origins_along of_items states tellings way) < 2 ^ 32
  few_told of_items tellings way circle =
      let items = few_items way circle in
      let tests = few_tests way circle in
      let origins = few_origins_along of_items states tellings way in
      omega (arith, items, tests, origins)

  -- so many rows are no more than it has
  pub rows_taken : (way : List Transition) (items tests memory least : ℕ) → IsCircle states way → items ≡ length (items_along states way)
      → tests ≡ length (tests_along states way) → memory ≡ count_by is_memory (items_along states way) → IsLeastRoom limits items tests memory least → least ≤ length way
  rows_taken way items tests memory least circle items_are tests_are memory_is is_least =
      paths_take_rows limits states ground.scheduled.fits _ _ _ _ (way_is_path circle.closed) least (rw (items_are, tests_are, memory_is) at is_least)

  -- with these counts it is a cycle
  pub is_cycle : (tellings : List Telling) (waits : List (List Waiting)) (cycle : Cycle) (items : List Item) (tests taken : List Operand)
      (origins : List ℕ) → IsCircle states cycle.transitions
      → items ≡ items_along states cycle.transitions → tests ≡ tests_along states cycle.transitions → taken ≡ taken_along states cycle.transitions
      → origins ≡ iteration_origins states tellings cycle.transitions
      → cycle.items ≡ length items → cycle.tests ≡ length tests → cycle.taken ≡ length taken → cycle.memory ≡ count_by is_memory items → IsGreatestCount origins cycle.iterations
      → IsLeastRoom limits cycle.items cycle.tests cycle.memory cycle.least_rows
      → NeedsRows limits cycle.items cycle.tests cycle.memory cycle.resource cycle.least_rows → IfSome cycle.chain (IsChain states tellings waits cycle.transitions)
      → IsCycle limits states tellings waits cycle
  is_cycle tellings waits cycle items tests taken origins circle items_are tests_are taken_are origins_are item_count test_count taken_count memory_count iterations least needed chain =
      let items_counted : cycle.items ≡ length (items_along states cycle.transitions) = item_count ∙ ap (λ (l : List Item). length l) items_are in
      let tests_counted : cycle.tests ≡ length (tests_along states cycle.transitions) = test_count ∙ ap (λ (l : List Operand). length l) tests_are in
      let memory_counted : cycle.memory ≡ count_by is_memory (items_along states cycle.transitions) = memory_count ∙ ap (count_by is_memory) items_are in
      record {
        start = circle.start;
        closed = circle.closed;
        some = circle.some;
        once = circle.once;
        iterations = subst (λ (l : List ℕ). IsGreatestCount l cycle.iterations) origins_are iterations;
        items = items_counted;
        tests = tests_counted;
        taken = taken_count ∙ ap (λ (l : List Operand). length l) taken_are;
        memory = memory_counted;
        least = least;
        needed = needed;
        takes = rows_taken cycle.transitions cycle.items cycle.tests cycle.memory cycle.least_rows circle items_counted tests_counted memory_counted least;
        chain = chain;
      }

  -- its states can be counted
  pub states_are_few : length states < 2 ^ 32
  states_are_few = let few = ground.scheduled.few in omega (arith, few)
