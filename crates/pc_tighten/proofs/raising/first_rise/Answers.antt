use Rattle.std.proofs.Common.{sym}
use Rattle.pc_tighten.proofs.Raised.{may_rise, settled_by}
use Rattle.pc_tighten.proofs.raising.first_rise.Goals as goal

pub returns-in-Some-first_free : goal.returns-in-Some-first_free
returns-in-Some-first_free c =
    may_rise c.args.limits c.args.rows.now c.args.parents.now c.in-Some.above c.args.row c.in-Some-first_free.at c.index-rows-above.result c.index-rows-row.result
    (sym c.in-Some.ensures.value) c.in-Some.ensures.within c.requires.there c.index-rows-above.is c.index-rows-row.is c.in-Some-first_free.ensures

pub returns-in-None : goal.returns-in-None
returns-in-None c =
    settled_by c.args.limits c.args.rows.now c.args.parents.now c.in-Some.above c.args.row c.index-rows-above.result c.index-rows-row.result
    (sym c.in-Some.ensures.value) c.in-Some.ensures.within c.requires.there c.index-rows-above.is c.index-rows-row.is c.in-None.ensures
