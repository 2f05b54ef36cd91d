use Rattle.pc_syntax.specs.Erasure.{list_of}
use Rattle.pc_lower.proofs.Wholes.{whole_spot, each_tested, is_laid}
use Rattle.pc_lower.proofs.program.lower_body.Goals as goal

pub lower_list-requires-clause-spot : goal.lower_list-requires-clause-spot
lower_list-requires-clause-spot c =
    whole_spot c.args.last c.list_loops.result (list_of c.args.body.now) c.requires.first c.requires.last c.place.ensures.laid c.list_loops.ensures

pub returns-clause-laid : goal.returns-clause-laid
returns-clause-laid c =
    is_laid c.args.last c.list_loops.result (list_of c.args.body.now) c.requires.first c.place.ensures.laid c.lower_list.ensures.laid
    c.lower_list.ensures.begins c.list_loops.ensures

pub returns-clause-tested : goal.returns-clause-tested
returns-clause-tested c =
    each_tested c.list_loops.result (list_of c.args.body.now) c.requires.first c.place.ensures.laid c.lower_list.ensures.laid c.list_loops.ensures
    c.lower_list.ensures.tested
