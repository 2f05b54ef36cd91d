-- How the tokens of a list are read as statements: one case a rule, with the places and the heights of
-- `Expressions`. A declarator, a simple statement, `break`, `continue`, `return` and `;` are one higher
-- than their highest expression, or 1, and the constants of an initialiser are none; a block, `if` or loop is one higher than
-- its highest part, or 1.
use Rattle.std.specs.Prelude.{◌≡◌, ℕ, ℤ, pos, ◌+◌, max, Bool, true, false, Option, Some, None, List, [], ◌∷◌}
use Rattle.pc_word.specs.Word.{word_sub}
use Rattle.pc_lexer.specs.declared.token.Token.{Token}
use Rattle.pc_lexer.specs.declared.token.TokenKind.TheVariants as kinds
use Rattle.pc_lexer.specs.declared.mark.Mark.{Mark}
use Rattle.pc_lexer.specs.declared.mark.Mark.TheVariants as marks
use Rattle.pc_lexer.specs.declared.keyword.Keyword.{Keyword}
use Rattle.pc_lexer.specs.declared.keyword.Keyword.TheVariants as keys
use Rattle.pc_syntax.specs.declared.operator.BinaryOp.{BinaryOp}
use Rattle.pc_syntax.specs.declared.constant.Const.{Const}
use Rattle.pc_syntax.specs.Source.{SourceExpression, SourceProgram, Literal}
use Rattle.pc_syntax.specs.Unit.{UnitStatement, UnitList, UnitOptional, Block, Scalar, Array, Assign, Print}
use Rattle.pc_syntax.specs.Unit.{Eval, If, While, Do, For, Break, Continue, Return, Empty, Call, Without, With, Finish, Item, unit_appended}
use Rattle.pc_syntax.specs.Plain.{plain_list}
use Rattle.pc_parser.specs.declared.calls.Calls.{Calls}
use Rattle.pc_parser.specs.declared.calls.Calls.TheVariants.{Allowed, Refused}
use Rattle.pc_parser.specs.declared.storage.Storage.{Storage}
use Rattle.pc_parser.specs.declared.storage.Storage.TheVariants.{Automatic, Static}
use Rattle.pc_parser.specs.Places.{kind_at, line_at}
use Rattle.pc_parser.specs.Operators.{assignment_of, step_of}
use Rattle.pc_parser.specs.Expressions.{HasMark, HasName, HasNumber, ReadsExpression}
use Rattle.pc_parser.specs.Calls.{ReadsCall}

-- the token at a place is this keyword
abbrev pub HasKeyword : List Token → ℕ → Keyword → Type 0
HasKeyword tokens place key = kind_at tokens place ≡ Some (kinds.Key key)

-- what is assigned to: a name, with an index where it is an element, whose bracket's line is `bracket`
pub record Lvalue : Type 0 where
  pub symbol : ℕ
  pub line : ℕ
  pub index : Option SourceExpression
  pub bracket : ℕ

-- an assignment to an lvalue, compound where there is an operator
abbrev pub assigned : Lvalue → Option BinaryOp → ℕ → SourceExpression → UnitStatement
assigned lvalue op at value = Assign lvalue.symbol lvalue.line lvalue.index lvalue.bracket op at value

-- lvalue: name, or name `[` expr `]`; its height is that of the element as an expression, and 0 for a name
pub data ReadsLvalue (tokens : List Token) : (from : ℕ) → (lvalue : Lvalue) → (height to : ℕ) → Type 0 where
  name : {from symbol : ℕ} →
      HasName tokens from symbol →
      ReadsLvalue tokens from record { symbol = symbol; line = line_at tokens from; index = None; bracket = line_at tokens from } 0 (from + 1)
  element : {from symbol height q : ℕ} {index : SourceExpression} →
      HasName tokens from symbol →
      HasMark tokens (from + 1) marks.LeftBracket →
      ReadsExpression tokens (from + 2) index height q →
      HasMark tokens q marks.RightBracket →
      ReadsLvalue tokens from record { symbol = symbol; line = line_at tokens from; index = Some index; bracket = line_at tokens (from + 1) } (height + 1) (q + 1)

-- `(` expr `)`
pub data ReadsTest (tokens : List Token) : (from : ℕ) → (tree : SourceExpression) → (height to : ℕ) → Type 0 where
  tested : {from height q : ℕ} {tree : SourceExpression} →
      HasMark tokens from marks.LeftParen →
      ReadsExpression tokens (from + 1) tree height q →
      HasMark tokens q marks.RightParen →
      ReadsTest tokens from tree height (q + 1)

-- simple: lvalue assign expr; lvalue `++` or `--`; `++` or `--` lvalue; `print` `(` expr `)`; expr; where calls are allowed also
-- call, or name `=` call
pub data ReadsSimple (tokens : List Token) (calls : Calls) : (from : ℕ) → (tree : UnitStatement) → (height to : ℕ) → Type 0 where
  assignment : {from i q j to : ℕ} {lvalue : Lvalue} {mark : Mark} {op : Option BinaryOp} {value : SourceExpression} →
      ReadsLvalue tokens from lvalue i q →
      HasMark tokens q mark →
      assignment_of mark ≡ Some op →
      ReadsExpression tokens (q + 1) value j to →
      ReadsSimple tokens calls from (assigned lvalue op (line_at tokens q) value) (max i j + 1) to
  step_behind : {from height q : ℕ} {lvalue : Lvalue} {mark : Mark} {op : BinaryOp} →
      ReadsLvalue tokens from lvalue height q →
      HasMark tokens q mark →
      step_of mark ≡ Some op →
      ReadsSimple tokens calls from (assigned lvalue (Some op) (line_at tokens q) (Literal (pos 1))) (height + 1) (q + 1)
  step_before : {from height to : ℕ} {lvalue : Lvalue} {mark : Mark} {op : BinaryOp} →
      HasMark tokens from mark →
      step_of mark ≡ Some op →
      ReadsLvalue tokens (from + 1) lvalue height to →
      ReadsSimple tokens calls from (assigned lvalue (Some op) (line_at tokens from) (Literal (pos 1))) (height + 1) to
  print : {from height to : ℕ} {value : SourceExpression} →
      HasKeyword tokens from keys.Print →
      ReadsTest tokens (from + 1) value height to →
      ReadsSimple tokens calls from (Print (line_at tokens from) value) (height + 1) to
  evaluation : {from height to : ℕ} {value : SourceExpression} →
      ReadsExpression tokens from value height to →
      ReadsSimple tokens calls from (Eval (line_at tokens from) value) (height + 1) to
  call : {from function height to : ℕ} {arguments : List SourceExpression} →
      calls ≡ Allowed →
      ReadsCall tokens from function arguments height to →
      ReadsSimple tokens calls from (Call (line_at tokens from) None function (line_at tokens from) arguments) (height + 1) to
  assigned_call : {from symbol function height to : ℕ} {arguments : List SourceExpression} →
      calls ≡ Allowed →
      HasName tokens from symbol →
      HasMark tokens (from + 1) marks.Assign →
      ReadsCall tokens (from + 2) function arguments height to →
      ReadsSimple tokens calls from
      (Call (line_at tokens from) (Some record { symbol = symbol; line = line_at tokens from; declared = false }) function (line_at tokens (from + 2)) arguments)
      (height + 1) to

-- constant: [`-`] number, and its line is that of its first token
pub data ReadsConstant (tokens : List Token) : (from : ℕ) → (tree : Const) → (to : ℕ) → Type 0 where
  number : {from : ℕ} {value : ℤ} →
      HasNumber tokens from value →
      ReadsConstant tokens from record { line = line_at tokens from; value = value } (from + 1)
  negated : {from : ℕ} {value : ℤ} →
      HasMark tokens from marks.Minus →
      HasNumber tokens (from + 1) value →
      ReadsConstant tokens from record { line = line_at tokens from; value = word_sub (pos 0) value } (from + 2)

-- constant {`,` constant} [`,`] `}`
pub data ReadsConstants (tokens : List Token) : (from : ℕ) → (trees : List Const) → (to : ℕ) → Type 0 where
  last : {from q : ℕ} {tree : Const} →
      ReadsConstant tokens from tree q →
      HasMark tokens q marks.RightBrace →
      ReadsConstants tokens from (tree ∷ []) (q + 1)
  last_with_comma : {from q : ℕ} {tree : Const} →
      ReadsConstant tokens from tree q →
      HasMark tokens q marks.Comma →
      HasMark tokens (q + 1) marks.RightBrace →
      ReadsConstants tokens from (tree ∷ []) (q + 2)
  comma : {from q to : ℕ} {tree : Const} {rest : List Const} →
      ReadsConstant tokens from tree q →
      HasMark tokens q marks.Comma →
      ReadsConstants tokens (q + 1) rest to →
      ReadsConstants tokens from (tree ∷ rest) to

-- declarator: name [`=` expr], or name `[` number `]`, where calls are allowed also name `=` call; of a static declaration name `[` number `]` [`=` `{` constants `}`]
pub data ReadsDeclarator (tokens : List Token) (calls : Calls) : (storage : Storage) → (from : ℕ) → (tree : UnitStatement) → (height to : ℕ) → Type 0 where
  scalar : {from symbol : ℕ} →
      HasName tokens from symbol →
      ReadsDeclarator tokens calls Automatic from (Scalar symbol (line_at tokens from) None) 1 (from + 1)
  initialised : {from symbol height to : ℕ} {value : SourceExpression} →
      HasName tokens from symbol →
      HasMark tokens (from + 1) marks.Assign →
      ReadsExpression tokens (from + 2) value height to →
      ReadsDeclarator tokens calls Automatic from (Scalar symbol (line_at tokens from) (Some value)) (height + 1) to
  called : {from symbol function height to : ℕ} {arguments : List SourceExpression} →
      calls ≡ Allowed →
      HasName tokens from symbol →
      HasMark tokens (from + 1) marks.Assign →
      ReadsCall tokens (from + 2) function arguments height to →
      ReadsDeclarator tokens calls Automatic from
      (Call (line_at tokens from) (Some record { symbol = symbol; line = line_at tokens from; declared = true }) function (line_at tokens (from + 2)) arguments)
      (height + 1) to
  array : {storage : Storage} {from symbol length : ℕ} →
      HasName tokens from symbol →
      HasMark tokens (from + 1) marks.LeftBracket →
      HasNumber tokens (from + 2) (pos length) →
      HasMark tokens (from + 3) marks.RightBracket →
      ReadsDeclarator tokens calls storage from (Array symbol (line_at tokens from) (line_at tokens (from + 2)) length []) 1 (from + 4)
  initialised_array : {from symbol length to : ℕ} {values : List Const} →
      HasName tokens from symbol →
      HasMark tokens (from + 1) marks.LeftBracket →
      HasNumber tokens (from + 2) (pos length) →
      HasMark tokens (from + 3) marks.RightBracket →
      HasMark tokens (from + 4) marks.Assign →
      HasMark tokens (from + 5) marks.LeftBrace →
      ReadsConstants tokens (from + 6) values to →
      ReadsDeclarator tokens calls Static from (Array symbol (line_at tokens from) (line_at tokens (from + 2)) length values) 1 to

-- declarator {`,` declarator} `;`
pub data ReadsDeclarators (tokens : List Token) (calls : Calls) : (storage : Storage) → (from : ℕ) → (trees : UnitList) → (height to : ℕ) → Type 0 where
  last : {storage : Storage} {from height q : ℕ} {tree : UnitStatement} →
      ReadsDeclarator tokens calls storage from tree height q →
      HasMark tokens q marks.Semicolon →
      ReadsDeclarators tokens calls storage from (Item tree Finish) height (q + 1)
  comma : {storage : Storage} {from i q j to : ℕ} {tree : UnitStatement} {rest : UnitList} →
      ReadsDeclarator tokens calls storage from tree i q →
      HasMark tokens q marks.Comma →
      ReadsDeclarators tokens calls storage (q + 1) rest j to →
      ReadsDeclarators tokens calls storage from (Item tree rest) (max i j) to

-- declaration: [`static`] `int` declarator {`,` declarator} `;`
pub data ReadsDeclaration (tokens : List Token) (calls : Calls) : (storage : Storage) → (from : ℕ) → (trees : UnitList) → (height to : ℕ) → Type 0 where
  automatic : {from height to : ℕ} {trees : UnitList} →
      HasKeyword tokens from keys.Int →
      ReadsDeclarators tokens calls Automatic (from + 1) trees height to →
      ReadsDeclaration tokens calls Automatic from trees height to
  static : {from height to : ℕ} {trees : UnitList} →
      HasKeyword tokens from keys.Static →
      HasKeyword tokens (from + 1) keys.Int →
      ReadsDeclarators tokens calls Static (from + 2) trees height to →
      ReadsDeclaration tokens calls Static from trees height to

-- first: declaration without `static` (C17 6.8.5), or [simple] `;`
pub data ReadsFirst (tokens : List Token) (calls : Calls) : (from : ℕ) → (trees : UnitList) → (height to : ℕ) → Type 0 where
  declared : {from height to : ℕ} {trees : UnitList} →
      ReadsDeclaration tokens calls Automatic from trees height to →
      ReadsFirst tokens calls from trees height to
  simple : {from height q : ℕ} {tree : UnitStatement} →
      ReadsSimple tokens calls from tree height q →
      HasMark tokens q marks.Semicolon →
      ReadsFirst tokens calls from (Item tree Finish) height (q + 1)
  none : {from : ℕ} →
      HasMark tokens from marks.Semicolon →
      ReadsFirst tokens calls from Finish 0 (from + 1)

-- [expr] `;`, where a condition that is left out is 1
pub data ReadsCondition (tokens : List Token) : (from : ℕ) → (tree : SourceExpression) → (height to : ℕ) → Type 0 where
  given : {from height q : ℕ} {tree : SourceExpression} →
      ReadsExpression tokens from tree height q →
      HasMark tokens q marks.Semicolon →
      ReadsCondition tokens from tree height (q + 1)
  none : {from : ℕ} →
      HasMark tokens from marks.Semicolon →
      ReadsCondition tokens from (Literal (pos 1)) 0 (from + 1)

-- [simple] `)`
pub data ReadsStep (tokens : List Token) (calls : Calls) : (from : ℕ) → (tree : UnitOptional) → (height to : ℕ) → Type 0 where
  given : {from height q : ℕ} {tree : UnitStatement} →
      ReadsSimple tokens calls from tree height q →
      HasMark tokens q marks.RightParen →
      ReadsStep tokens calls from (With tree) height (q + 1)
  none : {from : ℕ} →
      HasMark tokens from marks.RightParen →
      ReadsStep tokens calls from Without 0 (from + 1)

-- whether a statement ends in an `if` without `else`
abbrev pub ends_open : UnitStatement → Bool
ends_open (If line test body Without) = true
ends_open (If line test body (With other)) = ends_open other
ends_open (While line test body) = ends_open body
ends_open (For line first test step body) = ends_open body
ends_open (Block items) = false
ends_open (Scalar symbol line initial) = false
ends_open (Array symbol line at length values) = false
ends_open (Assign symbol line index bracket op at value) = false
ends_open (Print line value) = false
ends_open (Eval line value) = false
ends_open (Do line body test) = false
ends_open (Break line) = false
ends_open (Continue line) = false
ends_open (Return line value) = false
ends_open Empty = false
ends_open (Call line target function at arguments) = false

mutual
  -- statement: one case for each form
  pub data ReadsStatement (tokens : List Token) (calls : Calls) : (from : ℕ) → (tree : UnitStatement) → (height to : ℕ) → Type 0 where
    block : {from height to : ℕ} {items : UnitList} →
        HasMark tokens from marks.LeftBrace →
        ReadsItems tokens calls (from + 1) items height to →
        ReadsStatement tokens calls from (Block items) (height + 1) to
    empty : {from : ℕ} →
        HasMark tokens from marks.Semicolon →
        ReadsStatement tokens calls from Empty 1 (from + 1)
    simple : {from height q : ℕ} {tree : UnitStatement} →
        ReadsSimple tokens calls from tree height q →
        HasMark tokens q marks.Semicolon →
        ReadsStatement tokens calls from tree height (q + 1)
    branch : {from i q j to : ℕ} {test : SourceExpression} {body : UnitStatement} →
        HasKeyword tokens from keys.If →
        ReadsTest tokens (from + 1) test i q →
        ReadsStatement tokens calls q body j to →
        ReadsStatement tokens calls from (If (line_at tokens from) test body Without) (max i j + 1) to
    branch_else : {from i q j r k to : ℕ} {test : SourceExpression} {body other : UnitStatement} →
        HasKeyword tokens from keys.If →
        ReadsTest tokens (from + 1) test i q →
        ReadsStatement tokens calls q body j r →
        ends_open body ≡ false →
        HasKeyword tokens r keys.Else →
        ReadsStatement tokens calls (r + 1) other k to →
        ReadsStatement tokens calls from (If (line_at tokens from) test body (With other)) (max i (max j k) + 1) to
    while_loop : {from i q j to : ℕ} {test : SourceExpression} {body : UnitStatement} →
        HasKeyword tokens from keys.While →
        ReadsTest tokens (from + 1) test i q →
        ReadsStatement tokens calls q body j to →
        ReadsStatement tokens calls from (While (line_at tokens from) test body) (max i j + 1) to
    do_loop : {from i q j r : ℕ} {body : UnitStatement} {test : SourceExpression} →
        HasKeyword tokens from keys.Do →
        ReadsStatement tokens calls (from + 1) body i q →
        HasKeyword tokens q keys.While →
        ReadsTest tokens (q + 1) test j r →
        HasMark tokens r marks.Semicolon →
        ReadsStatement tokens calls from (Do (line_at tokens from) body test) (max i j + 1) (r + 1)
    for_loop : {from i q j r k s l to : ℕ} {first : UnitList} {test : SourceExpression} {step : UnitOptional} {body : UnitStatement} →
        HasKeyword tokens from keys.For →
        HasMark tokens (from + 1) marks.LeftParen →
        ReadsFirst tokens calls (from + 2) first i q →
        ReadsCondition tokens q test j r →
        ReadsStep tokens calls r step k s →
        ReadsStatement tokens calls s body l to →
        ReadsStatement tokens calls from (For (line_at tokens from) first test step body) (max (max i (max j k)) l + 1) to
    break_out : {from : ℕ} →
        HasKeyword tokens from keys.Break →
        HasMark tokens (from + 1) marks.Semicolon →
        ReadsStatement tokens calls from (Break (line_at tokens from)) 1 (from + 2)
    continue_on : {from : ℕ} →
        HasKeyword tokens from keys.Continue →
        HasMark tokens (from + 1) marks.Semicolon →
        ReadsStatement tokens calls from (Continue (line_at tokens from)) 1 (from + 2)
    return_from : {from height q : ℕ} {value : SourceExpression} →
        HasKeyword tokens from keys.Return →
        ReadsExpression tokens (from + 1) value height q →
        HasMark tokens q marks.Semicolon →
        ReadsStatement tokens calls from (Return (line_at tokens from) value) (height + 1) (q + 1)

  -- {declaration or statement} `}`: the height is that of the highest item, and 0 where there is none
  pub data ReadsItems (tokens : List Token) (calls : Calls) : (from : ℕ) → (trees : UnitList) → (height to : ℕ) → Type 0 where
    close : {from : ℕ} →
        HasMark tokens from marks.RightBrace →
        ReadsItems tokens calls from Finish 0 (from + 1)
    declared : {storage : Storage} {from i q j to : ℕ} {trees rest : UnitList} →
        ReadsDeclaration tokens calls storage from trees i q →
        ReadsItems tokens calls q rest j to →
        ReadsItems tokens calls from (unit_appended trees rest) (max i j) to
    stated : {from i q j to : ℕ} {tree : UnitStatement} {rest : UnitList} →
        ReadsStatement tokens calls from tree i q →
        ReadsItems tokens calls q rest j to →
        ReadsItems tokens calls from (Item tree rest) (max i j) to

-- `main` `(` [`void`] `)` block, and nothing after it
pub data ReadsMain (tokens : List Token) (calls : Calls) : (from : ℕ) → (items : UnitList) → (height : ℕ) → Type 0 where
  without_void : {from height to : ℕ} {items : UnitList} →
      HasKeyword tokens from keys.Main →
      HasMark tokens (from + 1) marks.LeftParen →
      HasMark tokens (from + 2) marks.RightParen →
      HasMark tokens (from + 3) marks.LeftBrace →
      ReadsItems tokens calls (from + 4) items height to →
      kind_at tokens to ≡ None →
      ReadsMain tokens calls from items (height + 1)
  with_void : {from height to : ℕ} {items : UnitList} →
      HasKeyword tokens from keys.Main →
      HasMark tokens (from + 1) marks.LeftParen →
      HasKeyword tokens (from + 2) keys.Void →
      HasMark tokens (from + 3) marks.RightParen →
      HasMark tokens (from + 4) marks.LeftBrace →
      ReadsItems tokens calls (from + 5) items height to →
      kind_at tokens to ≡ None →
      ReadsMain tokens calls from items (height + 1)

-- program: `int` and `main`, without calls
pub data ReadsProgram (tokens : List Token) : (program : SourceProgram) → (height : ℕ) → Type 0 where
  program : {program : SourceProgram} {height : ℕ} →
      HasKeyword tokens 0 keys.Int →
      ReadsMain tokens Refused 1 (plain_list program.items) height →
      ReadsProgram tokens program height
