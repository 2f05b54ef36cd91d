-- What falls at each step of a copy: the statements that are left, in the tree and in the functions that it may call.
use Rattle.std.specs.Prelude.{ℕ, ◌+◌, List, [], ◌∷◌}
use Rattle.pc_syntax.specs.Unit.{UnitStatement, UnitOptional, UnitList, Block, If, While, Do, For, Without, With, Finish, Item, UnitFunction}

unfoldable mutual
  -- how many parts a statement has
  pub weight : UnitStatement → ℕ
  weight (Block items) = 1 + weight_of_list items
  weight (If line test body otherwise) = 1 + (weight body + weight_of_optional otherwise)
  weight (While line test body) = 1 + weight body
  weight (Do line body test) = 1 + weight body
  weight (For line first test step body) = 1 + (weight_of_list first + (weight_of_optional step + weight body))
  weight _ = 1

  -- the same of a statement that may be left out
  pub weight_of_optional : UnitOptional → ℕ
  weight_of_optional Without = 1
  weight_of_optional (With statement) = 1 + weight statement

  -- the same of statements in order
  pub weight_of_list : UnitList → ℕ
  weight_of_list Finish = 1
  weight_of_list (Item first rest) = 1 + (weight first + weight_of_list rest)

-- the same of functions
unfoldable pub weight_of_functions : List UnitFunction → ℕ
weight_of_functions [] = 0
weight_of_functions (last ∷ earlier) = 1 + (weight_of_list last.items + weight_of_functions earlier)
