use Rattle.pc_cycles.proofs.Needs.{because_of_items, because_of_tests, because_of_memory}
use Rattle.pc_cycles.proofs.resource.scarcest.Goals as goal

pub resource_bound-requires : goal.resource_bound-requires
resource_bound-requires c = c.requires.limits

pub returns-then-resource_bound-least : goal.returns-then-resource_bound-least
returns-then-resource_bound-least c =
    because_of_items c.args.limits c.args.items c.args.tests c.args.memory c.args.least c.requires.least c.resource_bound.result c.resource_bound.ensures
    c.if-resource_bound-least.true

pub resource_bound-requires-2 : goal.resource_bound-requires-2
resource_bound-requires-2 c = c.requires.limits

pub returns-then-resource_bound-least-2 : goal.returns-then-resource_bound-least-2
returns-then-resource_bound-least-2 c =
    because_of_tests c.args.limits c.args.items c.args.tests c.args.memory c.args.least c.requires.least c.resource_bound-2.result c.resource_bound-2.ensures
    c.if-resource_bound-least-2.true

pub returns : goal.returns
returns c =
    because_of_memory c.args.limits c.args.items c.args.tests c.args.memory c.args.least c.requires.least c.resource_bound.result c.resource_bound-2.result
    c.resource_bound.ensures c.resource_bound-2.ensures c.if-resource_bound-least.false c.if-resource_bound-least-2.false
