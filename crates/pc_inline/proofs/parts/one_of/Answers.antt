use Rattle.std.proofs.Common.{rules, ◌≡◌, ◌∙◌, [], ◌∷◌, ◌++◌, length}
use Rattle.pc_syntax.proofs.UnitLaws.{unit_statement_of-made_Empty, unit_statement_of-made_Block}
use Rattle.pc_inline.proofs.Lists.{one_of-none, one_of-only, one_of-several, only_one}
use Rattle.pc_inline.proofs.parts.one_of.Goals as goal

pub returns-then-is_empty : goal.returns-then-is_empty
returns-then-is_empty c = λ l is. unit_statement_of-made_Empty ∙ one_of-none c.args.items l (search rules) is

pub returns-else-is_empty : goal.returns-else-is_empty
returns-else-is_empty c = λ l is. unit_statement_of-made_Block c.args.items ∙ one_of-several c.args.items l (search rules) (search rules) is

pub returns-in-Some : goal.returns-in-Some
returns-in-Some c =
    let split : c.args.items ≡ c.pop.new.self ++ c.in-Some.only ∷ [] = search rules in
    let one : length c.args.items ≡ 1 = search rules in
    λ l is. one_of-only c.args.items c.in-Some.only l (only_one c.args.items c.pop.new.self c.in-Some.only split one) is
