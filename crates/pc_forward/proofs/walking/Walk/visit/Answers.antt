use Rattle.std.proofs.Common.{◌≡◌, List, Bool, true, false, Some, length, sym, ◌∙◌, ap, subst, arith}
use Rattle.std.specs.Prelude.{slice_get, slice_set}
use Rattle.pc_flow.specs.declared.node.FlowNode.{FlowNode}
use Rattle.pc_forward.specs.models.Walking.{Walked, StaysDone, weight}
use Rattle.pc_forward.proofs.GoingOn.{on_ok}
use Rattle.pc_forward.proofs.Walks.{flag_read, writes_there, next_waits, next_there, next_room, skipped, visited, visited_still, visited_done, visited_lighter}
use Rattle.pc_forward.proofs.walking.Walk.visit.Goals as goal

pub bounds-as_slice-at : goal.bounds-as_slice-at
bounds-as_slice-at c = let long = ap length c.as_slice.ensures in omega (
  arith,
  long,
  next_there c.args.flow.now c.args.self.now.left c.args.self.now.nodes c.args.self.now.waiting
      (record { at = c.args.at; trail = c.args.trail }) c.requires.walked,
)

pub returns-then-not-as_slice-at-clause-walked : goal.returns-then-not-as_slice-at-clause-walked
returns-then-not-as_slice-at-clause-walked c =
    skipped c.args.flow.now c.args.self.now.left c.args.self.now.nodes c.args.self.now.waiting
    (record { at = c.args.at; trail = c.args.trail }) c.requires.walked
    (flag_read c.args.self.now.left c.as_slice.result.now c.args.at false c.as_slice.ensures (next_there c.args.flow.now c.args.self.now.left c.args.self.now.nodes c.args.self.now.waiting
    (record { at = c.args.at; trail = c.args.trail }) c.requires.walked) c.if-not-as_slice-at.true)

pub returns-then-not-as_slice-at-clause-done : goal.returns-then-not-as_slice-at-clause-done
returns-then-not-as_slice-at-clause-done c =
    flag_read c.args.self.now.left c.as_slice.result.now c.args.at false c.as_slice.ensures (next_there c.args.flow.now c.args.self.now.left c.args.self.now.nodes c.args.self.now.waiting
    (record { at = c.args.at; trail = c.args.trail }) c.requires.walked) c.if-not-as_slice-at.true

pub node-requires : goal.node-requires
node-requires c = (next_waits c.args.flow.now c.args.self.now.left c.args.self.now.nodes c.args.self.now.waiting
    (record { at = c.args.at; trail = c.args.trail }) c.requires.walked).there

pub forwarded-node-requires : goal.forwarded-node-requires
forwarded-node-requires c = (next_waits c.args.flow.now c.args.self.now.left c.args.self.now.nodes c.args.self.now.waiting
    (record { at = c.args.at; trail = c.args.trail }) c.requires.walked).long

pub go_past-requires-clause-room : goal.go_past-requires-clause-room
go_past-requires-clause-room c = next_room c.args.flow.now c.args.self.now.left c.args.self.now.nodes c.args.self.now.waiting
    (record { at = c.args.at; trail = c.args.trail }) c.requires.walked

pub go_past-requires-clause-writes : goal.go_past-requires-clause-writes
go_past-requires-clause-writes c =
    writes_there c.args.flow.now c.args.at c.args.trail c.node.result c.forwarded-node.result c.requires.walked.is_flow c.node.ensures
    (next_waits c.args.flow.now c.args.self.now.left c.args.self.now.nodes c.args.self.now.waiting
    (record { at = c.args.at; trail = c.args.trail }) c.requires.walked).long c.forwarded-node.ensures

pub set-requires : goal.set-requires
set-requires c = next_there c.args.flow.now c.args.self.now.left c.args.self.now.nodes c.args.self.now.waiting
    (record { at = c.args.at; trail = c.args.trail }) c.requires.walked

pub set-requires-2 : goal.set-requires-2
set-requires-2 c = let there = (next_waits c.args.flow.now c.args.self.now.left c.args.self.now.nodes c.args.self.now.waiting
    (record { at = c.args.at; trail = c.args.trail }) c.requires.walked).there in omega (arith, there, c.requires.walked.as_many)

pub go_on-requires-clause-kept : goal.go_on-requires-clause-kept
go_on-requires-clause-kept c = c.requires.walked.is_flow

pub go_on-requires-clause-there : goal.go_on-requires-clause-there
go_on-requires-clause-there c = (next_waits c.args.flow.now c.args.self.now.left c.args.self.now.nodes c.args.self.now.waiting
    (record { at = c.args.at; trail = c.args.trail }) c.requires.walked).there

pub returns-clause-walked : goal.returns-clause-walked
returns-clause-walked c = on_ok c.go_on.result (λ adds.
    subst (λ (l : List Bool). Walked c.args.flow.now l c.go_on.new.self.nodes c.go_on.new.self.waiting) (sym (c.go_on.ensures.left ∙ c.set.ensures))
    (subst (λ (n : List FlowNode). Walked c.args.flow.now (slice_set c.args.self.now.left c.args.at false) n c.go_on.new.self.waiting) (sym (c.go_on.ensures.nodes ∙ c.set-2.ensures))
    (visited c.args.flow.now c.args.self.now.left c.args.self.now.nodes c.args.self.now.waiting
    (record { at = c.args.at; trail = c.args.trail }) c.requires.walked c.node.result c.forwarded-node.result
    c.go_past.new.self c.go_on.new.self.waiting
    (flag_read c.args.self.now.left c.as_slice.result.now c.args.at true c.as_slice.ensures (next_there c.args.flow.now c.args.self.now.left c.args.self.now.nodes c.args.self.now.waiting
    (record { at = c.args.at; trail = c.args.trail }) c.requires.walked) c.if-not-as_slice-at.false)
    c.node.ensures c.forwarded-node.ensures c.go_past.ensures.words c.in_ok-go_past.ensures.behind adds)))
    c.go_on.ensures.goes_on

pub returns-clause-still : goal.returns-clause-still
returns-clause-still c = on_ok c.go_on.result (λ adds.
    subst (λ (l : List Bool). StaysDone c.args.self.now.left l) (sym (c.go_on.ensures.left ∙ c.set.ensures))
    (visited_still c.args.flow.now c.args.self.now.left c.args.self.now.nodes c.args.self.now.waiting
    (record { at = c.args.at; trail = c.args.trail }) c.requires.walked c.node.result c.forwarded-node.result
    c.go_past.new.self c.go_on.new.self.waiting
    (flag_read c.args.self.now.left c.as_slice.result.now c.args.at true c.as_slice.ensures (next_there c.args.flow.now c.args.self.now.left c.args.self.now.nodes c.args.self.now.waiting
    (record { at = c.args.at; trail = c.args.trail }) c.requires.walked) c.if-not-as_slice-at.false)
    c.node.ensures c.forwarded-node.ensures c.go_past.ensures.words c.in_ok-go_past.ensures.behind adds))
    c.go_on.ensures.goes_on

pub returns-clause-done : goal.returns-clause-done
returns-clause-done c = on_ok c.go_on.result (λ adds.
    subst (λ (l : List Bool). slice_get l c.args.at ≡ Some false) (sym (c.go_on.ensures.left ∙ c.set.ensures))
    (visited_done c.args.flow.now c.args.self.now.left c.args.self.now.nodes c.args.self.now.waiting
    (record { at = c.args.at; trail = c.args.trail }) c.requires.walked c.node.result c.forwarded-node.result
    c.go_past.new.self c.go_on.new.self.waiting
    (flag_read c.args.self.now.left c.as_slice.result.now c.args.at true c.as_slice.ensures (next_there c.args.flow.now c.args.self.now.left c.args.self.now.nodes c.args.self.now.waiting
    (record { at = c.args.at; trail = c.args.trail }) c.requires.walked) c.if-not-as_slice-at.false)
    c.node.ensures c.forwarded-node.ensures c.go_past.ensures.words c.in_ok-go_past.ensures.behind adds))
    c.go_on.ensures.goes_on

pub returns-clause-lighter : goal.returns-clause-lighter
returns-clause-lighter c = on_ok c.go_on.result (λ adds.
    let lighter = visited_lighter c.args.flow.now c.args.self.now.left c.args.self.now.nodes c.args.self.now.waiting
    (record { at = c.args.at; trail = c.args.trail }) c.requires.walked c.node.result c.forwarded-node.result
    c.go_past.new.self c.go_on.new.self.waiting
    (flag_read c.args.self.now.left c.as_slice.result.now c.args.at true c.as_slice.ensures (next_there c.args.flow.now c.args.self.now.left c.args.self.now.nodes c.args.self.now.waiting
    (record { at = c.args.at; trail = c.args.trail }) c.requires.walked) c.if-not-as_slice-at.false)
    c.node.ensures c.forwarded-node.ensures c.go_past.ensures.words c.in_ok-go_past.ensures.behind adds in
    let same = ap (λ (l : List Bool). weight l c.go_on.new.self.waiting) (c.go_on.ensures.left ∙ c.set.ensures) in
    omega (arith, lighter, same))
    c.go_on.ensures.goes_on
