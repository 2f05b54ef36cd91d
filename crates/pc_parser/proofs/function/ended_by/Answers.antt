use Rattle.std.proofs.Common.{sym}
use Rattle.pc_syntax.specs.Erasure.{expression_of}
use Rattle.pc_syntax.specs.UnitErasure.{unit_statement_of, unit_list_of}
use Rattle.pc_parser.proofs.Results.{returned-value, value-taken, returned-none, statement-kept}
use Rattle.pc_parser.proofs.function.ended_by.Goals as goal

-- a `return` is the result
pub returns-in-Return : goal.returns-in-Return
returns-in-Return c =
    let value = returned-value c.args.last c.in-Return.line c.in-Return.value c.in-Return.is in
    (value-taken (unit_list_of c.args.items) (unit_statement_of c.args.last) (expression_of c.in-Return.value) value, sym value)

-- another statement stays
pub returns : goal.returns
returns c =
    let none = returned-none c.args.last c.in_default.not-Return in
    (statement-kept c.args.items c.push.new.self c.args.last c.in_ok-push.ensures.ok none, sym none)
