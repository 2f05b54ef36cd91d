-- Why a translation unit is refused before anything is put in the place of a call, in the order of the text.
use Rattle.std.specs.Prelude.{ℕ, Bool, true, false, not, ◌&&◌, Option, Some, None, is_some, List, [], ◌∷◌, ◌++◌, if◌then◌else◌, nat_eq, length, reverse}
use Rattle.pc_syntax.specs.Unit.{UnitStatement, UnitOptional, UnitList, Block, Scalar, Array, Assign, Print, Eval, If, While, Do, For}
use Rattle.pc_syntax.specs.Unit.{Break, Continue, Return, Empty, Call, Without, With, Finish, Item, UnitFunction, TranslationUnit}

-- why a unit is refused, with the line; the last two are looked for after the others
pub data Refusal : Type 0 where
  FunctionTwice : (line : ℕ) → Refusal
  EarlyReturn : (line : ℕ) → Refusal
  ArrayInFunction : (line : ℕ) → Refusal
  LooseJump : (line : ℕ) → Refusal
  NoFunction : (line : ℕ) → Refusal
  Arguments : (line : ℕ) → Refusal
  TooBig : Refusal
  TooHigh : Refusal

-- one refusal where a test holds
abbrev pub refused_if : Bool → Refusal → List Refusal
refused_if true e = e ∷ []
refused_if false e = []

-- how many parameters the function of a name among these has, of which the last comes first
unfoldable pub arity : List UnitFunction → ℕ → Option ℕ
arity [] symbol = None
arity (last ∷ earlier) symbol = if nat_eq symbol last.symbol then Some (length last.parameters) else arity earlier symbol

-- a call needs a function that was completed before, and as many arguments as it has parameters
abbrev pub call_refusals : Option ℕ → ℕ → ℕ → List Refusal
call_refusals None count at = NoFunction at ∷ []
call_refusals (Some wanted) count at = refused_if (not (nat_eq wanted count)) (Arguments at)

unfoldable mutual
  -- the refusals of a statement, in a function or not, inside the body of a loop of it or not
  pub statement_refusals : (ℕ → Option ℕ) → Bool → Bool → UnitStatement → List Refusal
  statement_refusals known in_function in_loop (Block items) = list_refusals known in_function in_loop items
  statement_refusals known in_function in_loop (Scalar symbol line initial) = []
  statement_refusals known in_function in_loop (Array symbol line at length values) = refused_if in_function (ArrayInFunction line)
  statement_refusals known in_function in_loop (Assign symbol line index bracket op at value) = []
  statement_refusals known in_function in_loop (Print line value) = []
  statement_refusals known in_function in_loop (Eval line value) = []
  statement_refusals known in_function in_loop (If line test body otherwise) =
      statement_refusals known in_function in_loop body ++ optional_refusals known in_function in_loop otherwise
  statement_refusals known in_function in_loop (While line test body) = statement_refusals known in_function true body
  statement_refusals known in_function in_loop (Do line body test) = statement_refusals known in_function true body
  statement_refusals known in_function in_loop (For line first test step body) =
      list_refusals known in_function in_loop first ++ (optional_refusals known in_function in_loop step
      ++ statement_refusals known in_function true body)
  statement_refusals known in_function in_loop (Break line) = refused_if (in_function && not in_loop) (LooseJump line)
  statement_refusals known in_function in_loop (Continue line) = refused_if (in_function && not in_loop) (LooseJump line)
  statement_refusals known in_function in_loop (Return line value) = refused_if in_function (EarlyReturn line)
  statement_refusals known in_function in_loop Empty = []
  statement_refusals known in_function in_loop (Call line target function at arguments) =
      call_refusals (known function) (length arguments) at

  pub optional_refusals : (ℕ → Option ℕ) → Bool → Bool → UnitOptional → List Refusal
  optional_refusals known in_function in_loop Without = []
  optional_refusals known in_function in_loop (With statement) = statement_refusals known in_function in_loop statement

  pub list_refusals : (ℕ → Option ℕ) → Bool → Bool → UnitList → List Refusal
  list_refusals known in_function in_loop Finish = []
  list_refusals known in_function in_loop (Item first rest) =
      statement_refusals known in_function in_loop first ++ list_refusals known in_function in_loop rest

-- the refusals of a function that may call these
abbrev pub function_refusals : List UnitFunction → UnitFunction → List Refusal
function_refusals earlier function =
    refused_if (is_some (arity earlier function.symbol)) (FunctionTwice function.line)
    ++ list_refusals (arity earlier) true false function.items

-- the refusals of functions, of which the last comes first
unfoldable pub functions_refusals : List UnitFunction → List Refusal
functions_refusals [] = []
functions_refusals (last ∷ earlier) = functions_refusals earlier ++ function_refusals earlier last

-- the refusals of a unit but for the two counts
abbrev pub refusals : TranslationUnit → List Refusal
refusals unit = functions_refusals (reverse unit.functions) ++ list_refusals (arity (reverse unit.functions)) false false unit.main
