use Rattle.std.proofs.Common.{ℕ, nat_eq, List, length, ◌∙◌, ap, arith}
use Rattle.pc_word.specs.declared.item.Operand.{Operand}
use Rattle.pc_word.specs.Items.{is_memory}
use Rattle.std.specs.List.{count_by}
use Rattle.std.proofs.lemmas.List.{length-map}
use Rattle.pc_automaton.specs.Automaton.{state_in, states_in}
use Rattle.pc_told.specs.Tellings.{tellings_in}
use Rattle.pc_cycles.specs.Transitions.{items_along, tests_along, taken_along, origins_along}
use Rattle.pc_cycles.proofs.Circles.{leaves_are_few, circle_is_there, few_items, few_tests, few_taken, few_told, is_cycle, states_are_few}
use Rattle.pc_cycles.proofs.cycle.Cycle.along.Goals as goal

pub items_along-requires-clause-there : goal.items_along-requires-clause-there
items_along-requires-clause-there c =
    rw c.as_slice.ensures (circle_is_there c.args.limits (states_in c.args.told.now.automaton) c.requires.ground c.args.transitions c.requires.circle)

pub items_along-requires-clause-few : goal.items_along-requires-clause-few
items_along-requires-clause-few c = leaves_are_few c.args.limits (states_in c.args.told.now.automaton) c.requires.ground

pub tests_along-requires-clause-there : goal.tests_along-requires-clause-there
tests_along-requires-clause-there c =
    rw c.as_slice-2.ensures (circle_is_there c.args.limits (states_in c.args.told.now.automaton) c.requires.ground c.args.transitions c.requires.circle)

pub tests_along-requires-clause-few : goal.tests_along-requires-clause-few
tests_along-requires-clause-few c = leaves_are_few c.args.limits (states_in c.args.told.now.automaton) c.requires.ground

pub origins_along-requires-clause-there : goal.origins_along-requires-clause-there
origins_along-requires-clause-there c =
    rw c.as_slice-5.ensures (circle_is_there c.args.limits (states_in c.args.told.now.automaton) c.requires.ground c.args.transitions c.requires.circle)

pub origins_along-requires-clause-few : goal.origins_along-requires-clause-few
origins_along-requires-clause-few c = leaves_are_few c.args.limits (states_in c.args.told.now.automaton) c.requires.ground

pub taken_along-requires-clause-there : goal.taken_along-requires-clause-there
taken_along-requires-clause-there c =
    rw c.as_slice-3.ensures (circle_is_there c.args.limits (states_in c.args.told.now.automaton) c.requires.ground c.args.transitions c.requires.circle)

pub taken_along-requires-clause-few : goal.taken_along-requires-clause-few
taken_along-requires-clause-few c = leaves_are_few c.args.limits (states_in c.args.told.now.automaton) c.requires.ground

pub memory_count-memory-requires : goal.memory_count-memory-requires
memory_count-memory-requires c =
    let few = few_items c.args.limits (states_in c.args.told.now.automaton) c.requires.ground c.args.transitions c.requires.circle in
    rw (c.as_slice-4.ensures, c.in_ok-items.ensures, c.as_slice.ensures) (omega (arith, few))

pub overflow_cast-items : goal.overflow_cast-items
overflow_cast-items c =
    let few = few_items c.args.limits (states_in c.args.told.now.automaton) c.requires.ground c.args.transitions c.requires.circle in
    rw (c.len-items.ensures, c.in_ok-items.ensures, c.as_slice.ensures) (omega (arith, few))

pub overflow_cast-tests : goal.overflow_cast-tests
overflow_cast-tests c =
    let few = few_tests c.args.limits (states_in c.args.told.now.automaton) c.requires.ground c.args.transitions c.requires.circle in
    rw (c.len-tests.ensures, c.in_ok-tests.ensures, c.as_slice-2.ensures) (omega (arith, few))

pub overflow_cast-taken : goal.overflow_cast-taken
overflow_cast-taken c =
    let few = few_taken c.args.limits (states_in c.args.told.now.automaton) c.requires.ground c.args.transitions c.requires.circle in
    rw (c.len-taken.ensures, c.in_ok-taken.ensures, c.as_slice-3.ensures) (omega (arith, few))

pub recurrence-requires-clause-there : goal.recurrence-requires-clause-there
recurrence-requires-clause-there c =
    rw c.as_slice-6.ensures (circle_is_there c.args.limits (states_in c.args.told.now.automaton) c.requires.ground c.args.transitions c.requires.circle)

pub recurrence-requires-clause-few : goal.recurrence-requires-clause-few
recurrence-requires-clause-few c = leaves_are_few c.args.limits (states_in c.args.told.now.automaton) c.requires.ground

pub recurrence-requires-clause-count : goal.recurrence-requires-clause-count
recurrence-requires-clause-count c =
    rw (length-map c.args.told.now.automaton state_in) at (states_are_few c.args.limits (states_in c.args.told.now.automaton) c.requires.ground)

pub greatest_count-requires : goal.greatest_count-requires
greatest_count-requires c =
    let few = few_told c.args.limits (states_in c.args.told.now.automaton) c.requires.ground (nat_eq c.len-tests.result 0) (tellings_in c.args.told.now.rows) c.args.transitions c.requires.circle in
    rw (c.as_slice-7.ensures, c.in_ok-origins.ensures, c.as_slice-5.ensures) (omega (arith, few))

pub returns-clause-is : goal.returns-clause-is
returns-clause-is c =
    let states = states_in c.args.told.now.automaton in
    let tellings = tellings_in c.args.told.now.rows in
    let tests = c.in_ok-tests.ensures ∙ ap (tests_along states) c.as_slice-2.ensures in
    let count = c.len-tests.ensures ∙ ap (λ (l : List Operand). length l) tests in
    is_cycle c.args.limits states c.requires.ground tellings c.args.told.now.waiting _ c.in_ok-items.items c.in_ok-tests.tests c.in_ok-taken.taken c.in_ok-origins.origins c.requires.circle
    (c.in_ok-items.ensures ∙ ap (items_along states) c.as_slice.ensures)
    tests
    (c.in_ok-taken.ensures ∙ ap (taken_along states) c.as_slice-3.ensures)
    (c.in_ok-origins.ensures ∙ ap (origins_along _ states tellings) c.as_slice-5.ensures
    ∙ ap (λ (n : ℕ). origins_along (nat_eq n 0) states tellings c.args.transitions) count)
    c.len-items.ensures c.len-tests.ensures c.len-taken.ensures (c.memory_count-memory.ensures ∙ ap (count_by is_memory) c.as_slice-4.ensures)
    (rw c.as_slice-7.ensures at c.greatest_count.ensures) c.resource_bound-least_rows.ensures c.scarcest.ensures
    (rw c.as_slice-6.ensures at c.in_ok-chain.ensures)
