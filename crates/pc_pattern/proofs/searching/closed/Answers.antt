use Rattle.std.proofs.Common.{◌++◌, ◌∷◌, [], sym, subst, rules}
use Rattle.std.specs.Prelude.{◌≡◌, Err}
use Rattle.pc_pattern.specs.Recording.{took_none, took_one_more}
use Rattle.pc_table.specs.StoredTable.{table_of}
use Rattle.pc_pattern.specs.declared.seen.Seen.{Seen}
use Rattle.pc_pattern.specs.models.Pools.{keys_in, IsSettled}
use Rattle.pc_pattern.specs.models.Leading.{rules_within}
use Rattle.pc_pattern.specs.models.Seen.{AreSeen}
use Rattle.pc_pattern.proofs.Turns.{all_of_one, all_of_more, begun, turn_proper, turn_limits, turn_small, turn_refused, turn_on, turn_smaller, turned}
use Rattle.pc_pattern.proofs.searching.closed.Goals as goal

pub loop-window-init : goal.loop-window-init
loop-window-init g c = (
  (
    [],
    begun c.args.table.now c.args.bounds c.requires.limits c.requires.extent c.args.region c.in_ok-first.first c.in_ok-pool.pool
        c.new-states.result c.new-states.ensures c.in_ok-pool.ensures.keys c.in_ok-pool.ensures.waiting c.in_ok-first.ensures.first,
    took_none,
  ),
  all_of_one IsSettled c.in_ok-pool.pool.waiting.items c.in_ok-first.first c.in_ok-pool.ensures.waiting c.in_ok-first.ensures.settled,
  c.in_ok-pool.ensures.seen (rules_within (table_of c.args.table.now) c.args.bounds),
)

pub state-requires-clause-proper : goal.state-requires-clause-proper
state-requires-clause-proper g c =
    let so_far = c.loop-window.invariant.0 in
    turn_proper c.args.table.now c.args.bounds c.requires.limits c.requires.extent c.args.region c.loop-window.states so_far.0
    c.loop-window.pool c.next_waiting.new.self c.in-Some.window c.in-Some.ensures.first c.in-Some.ensures.keys so_far.1

pub state-requires-clause-limits : goal.state-requires-clause-limits
state-requires-clause-limits g c =
    let so_far = c.loop-window.invariant.0 in
    turn_limits c.args.table.now c.args.bounds c.requires.limits c.requires.extent c.args.region c.loop-window.states so_far.0
    c.loop-window.pool c.next_waiting.new.self c.in-Some.window c.in-Some.ensures.first c.in-Some.ensures.keys so_far.1

pub state-requires-clause-small : goal.state-requires-clause-small
state-requires-clause-small g c =
    let so_far = c.loop-window.invariant.0 in
    turn_small c.args.table.now c.args.bounds c.requires.limits c.requires.extent c.args.region c.loop-window.states so_far.0
    c.loop-window.pool c.next_waiting.new.self c.in-Some.window c.in-Some.ensures.first c.in-Some.ensures.keys so_far.1

pub state-requires-clause-seen : goal.state-requires-clause-seen
state-requires-clause-seen g c =
    let rules = rules_within (table_of c.args.table.now) c.args.bounds in
    subst (λ (s : Seen). AreSeen rules (keys_in c.next_waiting.new.self.keys.keys) s) (sym c.in-Some.ensures.seen)
    (rw c.in-Some.ensures.keys c.loop-window.invariant.2)

pub returns-in_err-state-clause-not_found : goal.returns-in_err-state-clause-not_found
returns-in_err-state-clause-not_found g c =
    let so_far = c.loop-window.invariant.0 in
    let is : c.from_residual-in_err-state.result ≡ Err c.in_err-state.field-0.0 = search rules in
    turn_refused c.args.table.now c.args.bounds c.requires.limits c.requires.extent c.args.region c.loop-window.states so_far.0
    c.loop-window.pool c.next_waiting.new.self c.in-Some.window c.in-Some.ensures.first c.in-Some.ensures.keys so_far.1 _ _ is
    c.in_err-state.ensures.unmade

pub loop-window-smaller : goal.loop-window-smaller
loop-window-smaller g c =
    let so_far = c.loop-window.invariant.0 in
    turn_smaller c.args.table.now c.args.bounds c.requires.limits c.requires.extent c.args.region c.loop-window.states so_far.0
    c.loop-window.pool c.next_waiting.new.self c.in-Some.window c.in-Some.ensures.first c.in-Some.ensures.keys so_far.1 c.in_ok-state.state
    c.put_state.new.states c.in_ok-put_state.ensures

-- the state's window is one more that was taken
pub loop-window-preserved : goal.loop-window-preserved
loop-window-preserved g c =
    let so_far = c.loop-window.invariant.0 in
    let made = c.in_ok-state.ensures.made in (
      (
        so_far.0 ++ (made.0.filled ∷ []),
        turn_on c.args.table.now c.args.bounds c.requires.limits c.requires.extent c.args.region c.loop-window.states so_far.0
            c.loop-window.pool c.next_waiting.new.self c.in-Some.window c.in-Some.ensures.first c.in-Some.ensures.keys so_far.1 c.in_ok-state.state
            c.state.new.pool _ c.in_ok-put_state.ensures made.0 c.in_ok-state.ensures.room,
        took_one_more so_far.2 made.1,
      ),
      c.in_ok-state.ensures.settled
          (all_of_more IsSettled c.loop-window.pool.waiting.items c.next_waiting.new.self.waiting.items c.in-Some.window c.in-Some.ensures.first
          c.loop-window.invariant.1).1,
      c.in_ok-state.ensures.seen,
    )

pub returns-clause-recorded : goal.returns-clause-recorded
returns-clause-recorded g c =
    let so_far = c.loop-window.invariant.0 in
    (turned c.args.table.now c.args.bounds c.requires.limits c.requires.extent c.args.region g.R.Recorder.takes c.args.recorder.now
    c.loop-window.recorder c.loop-window.states so_far.0 c.loop-window.pool c.in_default.ensures.none so_far.1 so_far.2).0

pub returns-clause-led : goal.returns-clause-led
returns-clause-led g c =
    let so_far = c.loop-window.invariant.0 in
    (turned c.args.table.now c.args.bounds c.requires.limits c.requires.extent c.args.region g.R.Recorder.takes c.args.recorder.now
    c.loop-window.recorder c.loop-window.states so_far.0 c.loop-window.pool c.in_default.ensures.none so_far.1 so_far.2).1
