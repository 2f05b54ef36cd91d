-- Once round a cycle takes no fewer rows than its bound.
use Rattle.std.proofs.Common.{◌≡◌, ℕ, ◌+◌, ◌*◌, ◌/◌, ◌%◌, ◌<◌, ◌≤◌, List, length, max, min, Option, Some, None, subst, arith}
use Rattle.std.specs.Prelude.{IfSome, is_some}
use Rattle.std.specs.Int.{div_ceil}
use Rattle.std.proofs.Math.Nat.{lt_of_mul-lt-mul_right}
use Rattle.std.proofs.lemmas.Grind.{div_ceil_times}
use Rattle.std.proofs.lemmas.List.Sums.{count_by-le-length}
use Rattle.pc_automaton.specs.Automaton.{AutomatonState}
use Rattle.pc_told.specs.Tellings.{Telling}
use Rattle.pc_waiting.specs.declared.obstacle.Waiting.{Waiting}
use Rattle.pc_cycles.specs.declared.chain.Chain.{Chain}
use Rattle.pc_cycles.specs.declared.chain.Link.{Link}
use Rattle.pc_cycles.specs.declared.transition.Transition.{Transition}
use Rattle.pc_cycles.specs.Bounds.{chain_bound, recurrence_bound}
use Rattle.pc_cycles.specs.Chains.{IsChain}
use Rattle.pc_cycles.specs.Laws.{BoundsAreKept}

-- what is divided among so many, rounded up, is no more than what is enough for each
share_fits : (items rounds rows : ℕ) → 1 ≤ rounds → items ≤ rows * rounds → div_ceil items rounds ≤ rows
share_fits items rounds rows some fits =
    let share = items / rounds + min 1 (items % rounds) in
    let less : share * rounds < items + rounds = (div_ceil_times items rounds some).1 in
    let beyond : share * rounds < (rows + 1) * rounds = omega (arith, less, fits) in
    let found : share < rows + 1 = lt_of_mul-lt-mul_right rounds beyond in
    omega (arith, found)

-- each item of a chain has a row of its own
chain_kept : (states : List AutomatonState) (tellings : List Telling) (waits : List (List Waiting)) (transitions : List Transition) (chain : Chain) → IsChain states tellings waits transitions chain
    → chain_bound chain ≤ length transitions
chain_kept states tellings waits transitions chain is =
    let some = is.some_rounds in
    let same : chain.rounds ≡ max 1 chain.rounds = omega (arith, some) in
    let few = count_by-le-length (λ (link : Link). is_some link.item) chain.links in
    let all = is.rounds in
    let items = is.items in
    subst (λ (rounds : ℕ). div_ceil chain.items rounds ≤ length transitions) same
    (share_fits chain.items chain.rounds (length transitions) some (omega (arith, few, all, items)))

recurrence_kept : (states : List AutomatonState) (tellings : List Telling) (waits : List (List Waiting)) (transitions : List Transition) (chain : Option Chain)
    → IfSome chain (IsChain states tellings waits transitions)
    → recurrence_bound chain ≤ length transitions
recurrence_kept states tellings waits transitions None is = omega arith
recurrence_kept states tellings waits transitions (Some chain) is = chain_kept states tellings waits transitions chain is

pub bounds_are_kept : BoundsAreKept
bounds_are_kept limits states tellings waits cycle is =
    let room = is.takes in
    let chain = recurrence_kept states tellings waits cycle.transitions cycle.chain is.chain in
    omega (arith, room, chain)
