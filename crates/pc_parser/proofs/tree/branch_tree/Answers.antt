use Rattle.std.proofs.Common.{ap}
use Rattle.std.specs.Prelude.{Some, None}
use Rattle.pc_syntax.proofs.UnitLaws.{unit_statement_of-made_If, unit_optional_of-made_None, unit_optional_of-made_Some}
use Rattle.pc_parser.specs.models.Parsing.{optional_tree}
use Rattle.pc_parser.proofs.tree.branch_tree.Goals as goal

-- an `if` without `else`
pub returns-in-None : goal.returns-in-None
returns-in-None c =
    let made = unit_statement_of-made_If c.args.line c.args.test c.in_ok-yes.yes None in
    let none = unit_optional_of-made_None in
    let absent = ap optional_tree c.in-None.is in
    let boxed = c.in_ok-yes.ensures.ok in
    cc

-- an `if` with its `else`
pub returns-in_ok-no-in-Some : goal.returns-in_ok-no-in-Some
returns-in_ok-no-in-Some c =
    let made = unit_statement_of-made_If c.args.line c.args.test c.in_ok-yes.yes (Some c.in_ok-no-in-Some.no) in
    let some = unit_optional_of-made_Some c.in_ok-no-in-Some.no in
    let present = ap optional_tree c.in-Some.is in
    let boxed = c.in_ok-yes.ensures.ok in
    let other = c.in_ok-no-in-Some.ensures.ok in
    cc
