use Rattle.std.proofs.Common.{inl, inr, refl, List, ℕ, subst}
use Rattle.pc_flow.specs.declared.node.FlowNode.TheVariants.{Op, Test, Stop, Trap}
use Rattle.pc_forward.specs.declared.trail.Trail.{Trail}
use Rattle.pc_forward.specs.models.Walking.{Adds, Not_so, AddsAll, Nothing_added, Node_added}
use Rattle.pc_forward.proofs.GoingOn.{targets, edges_are, on_ok}
use Rattle.pc_forward.proofs.walking.Walk.go_on.Goals as goal

pub go_to-requires-clause-there : goal.go_to-requires-clause-there
go_to-requires-clause-there c = targets c.args.flow.now c.args.at (Op c.in-Op.item c.in-Op.next) c.in-Op.next c.requires.kept c.in-Op.ensures refl

pub leads_on-requires-clause-there : goal.leads_on-requires-clause-there
leads_on-requires-clause-there c = targets c.args.flow.now c.args.at (Test c.in-Test.on c.in-Test.yes c.in-Test.no c.in-Test.turn) c.in-Test.no c.requires.kept c.in-Test.ensures (inr refl)

pub go_to-requires-then-not-leads_on-clause-there : goal.go_to-requires-then-not-leads_on-clause-there
go_to-requires-then-not-leads_on-clause-there c =
    targets c.args.flow.now c.args.at (Test c.in-Test.on c.in-Test.yes c.in-Test.no c.in-Test.turn) c.in-Test.yes c.requires.kept c.in-Test.ensures (inl refl)

pub leads_on-requires-in-Test-clause-there : goal.leads_on-requires-in-Test-clause-there
leads_on-requires-in-Test-clause-there c =
    targets c.args.flow.now c.args.at (Test c.in-Test.on c.in-Test.yes c.in-Test.no c.in-Test.turn) c.in-Test.yes c.requires.kept c.in-Test.ensures (inl refl)

pub go_to-requires-then-not-leads_on-2-clause-there : goal.go_to-requires-then-not-leads_on-2-clause-there
go_to-requires-then-not-leads_on-2-clause-there c =
    targets c.args.flow.now c.args.at (Test c.in-Test.on c.in-Test.yes c.in-Test.no c.in-Test.turn) c.in-Test.no c.requires.kept c.in-Test.ensures (inr refl)

pub go_to-requires-in-Test-clause-there : goal.go_to-requires-in-Test-clause-there
go_to-requires-in-Test-clause-there c =
    targets c.args.flow.now c.args.at (Test c.in-Test.on c.in-Test.yes c.in-Test.no c.in-Test.turn) c.in-Test.yes c.requires.kept c.in-Test.ensures (inl refl)

pub go_to-requires-in-Test-2-clause-there : goal.go_to-requires-in-Test-2-clause-there
go_to-requires-in-Test-2-clause-there c =
    targets c.args.flow.now c.args.at (Test c.in-Test.on c.in-Test.yes c.in-Test.no c.in-Test.turn) c.in-Test.no c.requires.kept c.in-Test.ensures (inr refl)

pub returns-then-not-leads_on-clause-goes_on : goal.returns-then-not-leads_on-clause-goes_on
returns-then-not-leads_on-clause-goes_on c = on_ok c.go_to-then-not-leads_on.result (λ adds.
    edges_are c.args.flow.now c.args.at (Test c.in-Test.on c.in-Test.yes c.in-Test.no c.in-Test.turn)
    (λ (nodes : List ℕ). AddsAll c.args.flow.now c.args.at c.args.trail nodes c.args.self.now.waiting c.go_to-then-not-leads_on.new.self.waiting) c.in-Test.ensures
    (Node_added adds (Node_added (Not_so (c.leads_on.ensures.ends c.if-not-leads_on.true)) Nothing_added)))
    c.go_to-then-not-leads_on.ensures.adds

pub returns-then-not-leads_on-2-clause-goes_on : goal.returns-then-not-leads_on-2-clause-goes_on
returns-then-not-leads_on-2-clause-goes_on c = on_ok c.go_to-then-not-leads_on-2.result (λ adds.
    edges_are c.args.flow.now c.args.at (Test c.in-Test.on c.in-Test.yes c.in-Test.no c.in-Test.turn)
    (λ (nodes : List ℕ). AddsAll c.args.flow.now c.args.at c.args.trail nodes c.args.self.now.waiting c.go_to-then-not-leads_on-2.new.self.waiting) c.in-Test.ensures
    (Node_added (Not_so (c.leads_on-in-Test.ensures.ends c.if-not-leads_on-2.true)) (Node_added adds Nothing_added)))
    c.go_to-then-not-leads_on-2.ensures.adds

pub returns-in-Op-clause-goes_on : goal.returns-in-Op-clause-goes_on
returns-in-Op-clause-goes_on c = on_ok c.go_to.result (λ adds.
    edges_are c.args.flow.now c.args.at (Op c.in-Op.item c.in-Op.next)
    (λ (nodes : List ℕ). AddsAll c.args.flow.now c.args.at c.args.trail nodes c.args.self.now.waiting c.go_to.new.self.waiting) c.in-Op.ensures (Node_added adds Nothing_added))
    c.go_to.ensures.adds

pub returns-in_ok-go_to-in-Test-clause-goes_on : goal.returns-in_ok-go_to-in-Test-clause-goes_on
returns-in_ok-go_to-in-Test-clause-goes_on c = on_ok c.go_to-in-Test-2.result (λ adds.
    edges_are c.args.flow.now c.args.at (Test c.in-Test.on c.in-Test.yes c.in-Test.no c.in-Test.turn)
    (λ (nodes : List ℕ). AddsAll c.args.flow.now c.args.at c.args.trail nodes c.args.self.now.waiting c.go_to-in-Test-2.new.self.waiting) c.in-Test.ensures
    (Node_added (subst (λ (t : Trail). Adds c.args.flow.now c.args.at t c.in-Test.yes c.args.self.now.waiting c.go_to-in-Test.new.self.waiting)
    c.in_ok-copy-in-Test.ensures c.in_ok-go_to-in-Test.ensures.adds)
    (Node_added adds Nothing_added)))
    c.go_to-in-Test-2.ensures.adds

pub returns-in-Stop-clause-goes_on : goal.returns-in-Stop-clause-goes_on
returns-in-Stop-clause-goes_on c =
    edges_are c.args.flow.now c.args.at Stop (λ (nodes : List ℕ). AddsAll c.args.flow.now c.args.at c.args.trail nodes c.args.self.now.waiting c.args.self.now.waiting) c.in-Stop.ensures Nothing_added

pub returns-in-Trap-clause-goes_on : goal.returns-in-Trap-clause-goes_on
returns-in-Trap-clause-goes_on c =
    edges_are c.args.flow.now c.args.at (Trap c.in-Trap.kind c.in-Trap.line) (λ (nodes : List ℕ). AddsAll c.args.flow.now c.args.at c.args.trail nodes c.args.self.now.waiting c.args.self.now.waiting)
    c.in-Trap.ensures Nothing_added
