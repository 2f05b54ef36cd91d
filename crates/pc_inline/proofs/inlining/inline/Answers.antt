use Rattle.pc_syntax.specs.UnitErasure.{unit_of}
use Rattle.pc_calls.specs.Refusals.{refusals}
use Rattle.pc_calls.specs.Counted.{unit_size}
use Rattle.pc_inline.proofs.Firsts.{IsFirst-front}
use Rattle.pc_inline.proofs.Answer.{given, refused_exact, first_for_size}
use Rattle.pc_inline.proofs.inlining.inline.Goals as goal

-- what is refused in the text
pub returns-in_err-refuse_unit-clause-exact : goal.returns-in_err-refuse_unit-clause-exact
returns-in_err-refuse_unit-clause-exact c =
    refused_exact _ c.in_err-refuse_unit.field-0.0 _ _ c.from_residual.ensures.1
    (IsFirst-front c.in_err-refuse_unit.field-0.0 (refusals (unit_of c.args.unit.now)) _ c.in_err-refuse_unit.ensures.refused)

-- what is refused for its size
pub returns-in_err-refuse_size-clause-exact : goal.returns-in_err-refuse_size-clause-exact
returns-in_err-refuse_size-clause-exact c =
    refused_exact _ c.in_err-refuse_size.field-0.0 _ _ c.from_residual-in_err-refuse_size.ensures.1
    (first_for_size c.in_err-refuse_size.field-0.0 c.args.unit.now c.requires c.in_ok-refuse_unit.ensures.passed
    (c.in_err-refuse_size.ensures.refused (unit_size (unit_of c.args.unit.now)) c.in_ok-size.ensures))

-- nothing is built of a unit that is too large
pub inlined_items-requires : goal.inlined_items-requires
inlined_items-requires c = c.in_ok-refuse_size.ensures.passed (unit_size (unit_of c.args.unit.now)) c.in_ok-size.ensures

-- the program that is made
pub returns-clause-exact : goal.returns-clause-exact
returns-clause-exact c =
    (given c.args.unit.now c.in_ok-items.items c.requires c.in_ok-refuse_unit.ensures.passed
    (c.in_ok-refuse_size.ensures.passed (unit_size (unit_of c.args.unit.now)) c.in_ok-size.ensures) c.in_ok-items.ensures).exact

pub returns-clause-plain : goal.returns-clause-plain
returns-clause-plain c =
    (given c.args.unit.now c.in_ok-items.items c.requires c.in_ok-refuse_unit.ensures.passed
    (c.in_ok-refuse_size.ensures.passed (unit_size (unit_of c.args.unit.now)) c.in_ok-size.ensures) c.in_ok-items.ensures).plain

pub returns-clause-same : goal.returns-clause-same
returns-clause-same c =
    (given c.args.unit.now c.in_ok-items.items c.requires c.in_ok-refuse_unit.ensures.passed
    (c.in_ok-refuse_size.ensures.passed (unit_size (unit_of c.args.unit.now)) c.in_ok-size.ensures) c.in_ok-items.ensures).same
