-- With what a reading begins.
use Rattle.std.proofs.Common.{◌≡◌, refl, sym, subst, ℕ, ℤ, ◌+◌, ◌⊎◌, inl, inr, false, List}
use Rattle.std.specs.Prelude.{Option, Some}
use Rattle.pc_lexer.specs.declared.token.Token.{Token}
use Rattle.pc_lexer.specs.declared.token.TokenKind.{TokenKind}
use Rattle.pc_lexer.specs.declared.token.TokenKind.TheVariants as kinds
use Rattle.pc_lexer.specs.declared.mark.Mark.{Mark}
use Rattle.pc_lexer.specs.declared.mark.Mark.TheVariants as marks
use Rattle.pc_lexer.specs.declared.keyword.Keyword.TheVariants as keys
use Rattle.pc_syntax.specs.declared.operator.UnaryOp.{UnaryOp}
use Rattle.pc_syntax.specs.declared.operator.BinaryOp.{BinaryOp}
use Rattle.pc_syntax.specs.Source.{SourceExpression}
use Rattle.pc_syntax.specs.Unit.{UnitStatement}
use Rattle.pc_parser.specs.declared.calls.Calls.{Calls}
use Rattle.pc_parser.specs.Places.{kind_at}
use Rattle.pc_parser.specs.models.Tests.{is_mark, is_key}
use Rattle.pc_parser.specs.Operators.{prefix_of, step_of}
use Rattle.pc_parser.specs.Expressions.{ReadsExpression, ReadsLevel, ReadsUnary, ReadsPrimary}
use Rattle.pc_parser.specs.Calls.{ReadsCall}
use Rattle.pc_parser.specs.Statements.{Lvalue, ReadsLvalue, ReadsSimple, ReadsStatement}
use Rattle.pc_parser.specs.models.Outcome.{ParseOutcome}
use Rattle.pc_parser.specs.models.StatementParser.{simple_on, marked, evaluation, ended_at, keyed, started, statement_on}

-- a token that begins no `else`, declaration or end of a block
pub record CanBegin (kind : Option TokenKind) : Type 0 where
  pub else_not : is_key keys.Else kind ≡ false
  pub int_not : is_key keys.Int kind ≡ false
  pub static_not : is_key keys.Static kind ≡ false
  pub brace_not : is_mark marks.RightBrace kind ≡ false

-- a token that begins a simple statement
pub record BeginsSimple (kind : Option TokenKind) : Type 0 where
  pub begins : CanBegin kind
  pub semicolon_not : is_mark marks.Semicolon kind ≡ false
  pub paren_not : is_mark marks.RightParen kind ≡ false
  pub ended : (tokens : List Token) (calls : Calls) (inner : (from : ℕ) → ParseOutcome UnitStatement) (budget from : ℕ) →
      statement_on tokens calls inner budget kind from ≡ ended_at tokens calls budget from

-- a token that begins an expression: a name, or one that an evaluation begins with
pub record BeginsExpression (kind : Option TokenKind) : Type 0 where
  pub simple : BeginsSimple kind
  pub route : ((symbol : ℕ) × (kind ≡ Some (kinds.Name symbol))) ⊎ ((tokens : List Token) (calls : Calls) (budget from : ℕ) → simple_on tokens calls budget kind from ≡ evaluation tokens budget from)

begins-name : (symbol : ℕ) → BeginsExpression (Some (kinds.Name symbol))
unfolding statement_on
begins-name symbol =
    record {
      simple = record {
        begins = record { else_not = refl; int_not = refl; static_not = refl; brace_not = refl };
        semicolon_not = refl;
        paren_not = refl;
        ended =
            λ tokens calls inner budget from. refl;
      };
      route = inl (symbol, refl);
    }

begins-number : (value : ℤ) → BeginsExpression (Some (kinds.Number value))
unfolding statement_on simple_on
begins-number value =
    record {
      simple = record {
        begins = record { else_not = refl; int_not = refl; static_not = refl; brace_not = refl };
        semicolon_not = refl;
        paren_not = refl;
        ended =
            λ tokens calls inner budget from. refl;
      };
      route = inr (λ tokens calls budget from. refl);
    }

begins-read : BeginsExpression (Some (kinds.Key keys.Read))
unfolding statement_on keyed simple_on
begins-read = record {
  simple =
      record { begins = record { else_not = refl; int_not = refl; static_not = refl; brace_not = refl }; semicolon_not = refl; paren_not = refl; ended = λ tokens calls inner budget from. refl };
  route = inr (λ tokens calls budget from. refl);
}

begins-paren : BeginsExpression (Some (kinds.Mark marks.LeftParen))
unfolding statement_on started simple_on marked step_of
begins-paren = record {
  simple =
      record { begins = record { else_not = refl; int_not = refl; static_not = refl; brace_not = refl }; semicolon_not = refl; paren_not = refl; ended = λ tokens calls inner budget from. refl };
  route = inr (λ tokens calls budget from. refl);
}

begins-sign : (mark : Mark) (sign : Option UnaryOp) → prefix_of mark ≡ Some sign → BeginsExpression (Some (kinds.Mark mark))
unfolding statement_on started simple_on marked step_of prefix_of
begins-sign marks.Plus sign is =
    record {
      simple = record {
        begins = record { else_not = refl; int_not = refl; static_not = refl; brace_not = refl };
        semicolon_not = refl;
        paren_not = refl;
        ended =
            λ tokens calls inner budget from. refl;
      };
      route = inr (λ tokens calls budget from. refl);
    }
begins-sign marks.Minus sign is =
    record {
      simple = record {
        begins = record { else_not = refl; int_not = refl; static_not = refl; brace_not = refl };
        semicolon_not = refl;
        paren_not = refl;
        ended =
            λ tokens calls inner budget from. refl;
      };
      route = inr (λ tokens calls budget from. refl);
    }
begins-sign marks.Tilde sign is =
    record {
      simple = record {
        begins = record { else_not = refl; int_not = refl; static_not = refl; brace_not = refl };
        semicolon_not = refl;
        paren_not = refl;
        ended =
            λ tokens calls inner budget from. refl;
      };
      route = inr (λ tokens calls budget from. refl);
    }
begins-sign marks.Not sign is =
    record {
      simple = record {
        begins = record { else_not = refl; int_not = refl; static_not = refl; brace_not = refl };
        semicolon_not = refl;
        paren_not = refl;
        ended =
            λ tokens calls inner budget from. refl;
      };
      route = inr (λ tokens calls budget from. refl);
    }
begins-sign mark sign is = cc

begins-step : (mark : Mark) (op : BinaryOp) → step_of mark ≡ Some op → BeginsSimple (Some (kinds.Mark mark))
unfolding statement_on started step_of
begins-step marks.PlusPlus op is =
    record { begins = record { else_not = refl; int_not = refl; static_not = refl; brace_not = refl }; semicolon_not = refl; paren_not = refl; ended = λ tokens calls inner budget from. refl }
begins-step marks.MinusMinus op is =
    record { begins = record { else_not = refl; int_not = refl; static_not = refl; brace_not = refl }; semicolon_not = refl; paren_not = refl; ended = λ tokens calls inner budget from. refl }
begins-step mark op is = cc

begins-print : BeginsSimple (Some (kinds.Key keys.Print))
unfolding statement_on keyed
begins-print =
    record { begins = record { else_not = refl; int_not = refl; static_not = refl; brace_not = refl }; semicolon_not = refl; paren_not = refl; ended = λ tokens calls inner budget from. refl }

module _ (tokens : List Token) where
  mutual
    pub expression-begins : (p : ℕ) (t : SourceExpression) (h q : ℕ) → ReadsExpression tokens p t h q → BeginsExpression (kind_at tokens p)
    expression-begins p t h q (ReadsExpression.plain d) = level-begins 1 p t h q d
    expression-begins p t h q (ReadsExpression.choice {i = i} {q = r} {test = test} d question one colon other) = level-begins 1 p test i r d

    pub level-begins : (level p : ℕ) (t : SourceExpression) (h q : ℕ) → ReadsLevel tokens level p t h q → BeginsExpression (kind_at tokens p)
    level-begins level p t h q (ReadsLevel.unary d) = unary-begins p t h q d
    level-begins level p t h q (ReadsLevel.tighter d) = level-begins (level + 1) p t h q d
    level-begins level p t h q (ReadsLevel.binary {i = i} {q = r} {left = left} d mark operator e) = level-begins level p left i r d

    pub unary-begins : (p : ℕ) (t : SourceExpression) (h q : ℕ) → ReadsUnary tokens p t h q → BeginsExpression (kind_at tokens p)
    unary-begins p t h q (ReadsUnary.primary d) = primary-begins p t h q d
    unary-begins p t h q (ReadsUnary.signed {mark = mark} {sign = sign} is prefix d) = subst BeginsExpression (sym is) (begins-sign mark sign prefix)

    pub primary-begins : (p : ℕ) (t : SourceExpression) (h q : ℕ) → ReadsPrimary tokens p t h q → BeginsExpression (kind_at tokens p)
    primary-begins p t h q (ReadsPrimary.number {value = value} is) = subst BeginsExpression (sym is) (begins-number value)
    primary-begins p t h q (ReadsPrimary.name {symbol = symbol} is) = subst BeginsExpression (sym is) (begins-name symbol)
    primary-begins p t h q (ReadsPrimary.element {symbol = symbol} is open' d close') = subst BeginsExpression (sym is) (begins-name symbol)
    primary-begins p t h q (ReadsPrimary.input is open' close') = subst BeginsExpression (sym is) begins-read
    primary-begins p t h q (ReadsPrimary.grouped is d close') = subst BeginsExpression (sym is) begins-paren

  lvalue-begins : (p : ℕ) (t : Lvalue) (h q : ℕ) → ReadsLvalue tokens p t h q → BeginsSimple (kind_at tokens p)
  lvalue-begins p t h q (ReadsLvalue.name {symbol = symbol} is) = (subst BeginsExpression (sym is) (begins-name symbol)).simple
  lvalue-begins p t h q (ReadsLvalue.element {symbol = symbol} is open' d close') = (subst BeginsExpression (sym is) (begins-name symbol)).simple

  module _ (calls : Calls) where
    pub simple-begins : (p : ℕ) (s : UnitStatement) (h q : ℕ) → ReadsSimple tokens calls p s h q → BeginsSimple (kind_at tokens p)
    simple-begins p s h q (ReadsSimple.assignment {i = i} {q = r} {lvalue = lvalue} d mark op e) = lvalue-begins p lvalue i r d
    simple-begins p s h q (ReadsSimple.step_behind {height = i} {q = r} {lvalue = lvalue} d mark op) = lvalue-begins p lvalue i r d
    simple-begins p s h q (ReadsSimple.step_before {mark = mark} {op = op} is step d) = subst BeginsSimple (sym is) (begins-step mark op step)
    simple-begins p s h q (ReadsSimple.print is d) = subst BeginsSimple (sym is) begins-print
    simple-begins p s h q (ReadsSimple.evaluation {height = i} {value = value} d) = (expression-begins p value i q d).simple
    simple-begins p s h q (ReadsSimple.call {function = function} may (ReadsCall.call is open' d)) = (subst BeginsExpression (sym is) (begins-name function)).simple
    simple-begins p s h q (ReadsSimple.assigned_call {symbol = symbol} may is assign d) = (subst BeginsExpression (sym is) (begins-name symbol)).simple

    pub statement-begins : (p : ℕ) (s : UnitStatement) (h q : ℕ) → ReadsStatement tokens calls p s h q → CanBegin (kind_at tokens p)
    statement-begins p s h q (ReadsStatement.block is d) = subst CanBegin (sym is) record { else_not = refl; int_not = refl; static_not = refl; brace_not = refl }
    statement-begins p s h q (ReadsStatement.empty is) = subst CanBegin (sym is) record { else_not = refl; int_not = refl; static_not = refl; brace_not = refl }
    statement-begins p s h q (ReadsStatement.simple {height = i} {q = r} {tree = tree} d is) = (simple-begins p tree i r d).begins
    statement-begins p s h q (ReadsStatement.branch is d e) = subst CanBegin (sym is) record { else_not = refl; int_not = refl; static_not = refl; brace_not = refl }
    statement-begins p s h q (ReadsStatement.branch_else is d e closed is' f) = subst CanBegin (sym is) record { else_not = refl; int_not = refl; static_not = refl; brace_not = refl }
    statement-begins p s h q (ReadsStatement.while_loop is d e) = subst CanBegin (sym is) record { else_not = refl; int_not = refl; static_not = refl; brace_not = refl }
    statement-begins p s h q (ReadsStatement.do_loop is d is' e close') = subst CanBegin (sym is) record { else_not = refl; int_not = refl; static_not = refl; brace_not = refl }
    statement-begins p s h q (ReadsStatement.for_loop is open' d e f g) = subst CanBegin (sym is) record { else_not = refl; int_not = refl; static_not = refl; brace_not = refl }
    statement-begins p s h q (ReadsStatement.break_out is close') = subst CanBegin (sym is) record { else_not = refl; int_not = refl; static_not = refl; brace_not = refl }
    statement-begins p s h q (ReadsStatement.continue_on is close') = subst CanBegin (sym is) record { else_not = refl; int_not = refl; static_not = refl; brace_not = refl }
    statement-begins p s h q (ReadsStatement.return_from is d close') = subst CanBegin (sym is) record { else_not = refl; int_not = refl; static_not = refl; brace_not = refl }
