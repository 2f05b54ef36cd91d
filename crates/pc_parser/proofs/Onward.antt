-- A reading ends after its beginning, which is among the tokens.
use Rattle.std.proofs.Common.{◌≡◌, ℕ, zero, suc, ◌+◌, ◌<◌, List, [], ◌∷◌, length, arith}
use Rattle.std.specs.Prelude.{Some}
use Rattle.pc_lexer.specs.declared.token.Token.{Token}
use Rattle.pc_lexer.specs.declared.token.TokenKind.{TokenKind}
use Rattle.pc_syntax.specs.declared.constant.Const.{Const}
use Rattle.pc_syntax.specs.Source.{SourceExpression}
use Rattle.pc_syntax.specs.Unit.{UnitStatement, UnitList, UnitOptional}
use Rattle.pc_parser.specs.declared.calls.Calls.{Calls}
use Rattle.pc_parser.specs.declared.storage.Storage.{Storage}
use Rattle.pc_parser.specs.declared.storage.Storage.TheVariants.{Automatic}
use Rattle.pc_parser.specs.Places.{kind_at}
use Rattle.pc_parser.specs.Expressions.{ReadsExpression, ReadsLevel, ReadsUnary, ReadsPrimary}
use Rattle.pc_parser.specs.Calls.{ReadsArgumentList, ReadsArguments, ReadsCall}
use Rattle.pc_parser.specs.Statements.{Lvalue, ReadsLvalue, ReadsTest, ReadsSimple, ReadsConstant, ReadsConstants, ReadsDeclarator}
use Rattle.pc_parser.specs.Statements.{ReadsDeclarators, ReadsDeclaration, ReadsFirst, ReadsCondition, ReadsStep}
use Rattle.pc_parser.specs.Statements.{ReadsStatement, ReadsItems}

-- where there is a token, there is a place
pub inside : (tokens : List Token) (p : ℕ) (kind : TokenKind) → kind_at tokens p ≡ Some kind → p < length tokens
unfolding kind_at
inside [] p kind is = cc
inside (token ∷ tokens) zero kind is = omega arith
inside (token ∷ tokens) (suc p) kind is = let below = inside tokens p kind is in omega arith

module _ (tokens : List Token) where
  mutual
    pub expression-onward : (p : ℕ) (t : SourceExpression) (h q : ℕ) → ReadsExpression tokens p t h q → p < q
    expression-onward p t h q (ReadsExpression.plain d) = level-onward 1 p t h q d
    expression-onward p t h q (ReadsExpression.choice {i = i} {q = q'} {j = j} {r = r} {k = k'} {test = test} {one = one} {other = other} d question e colon f) =
        let a = level-onward 1 p test i q' d in let b = expression-onward (q' + 1) one j r e in let c = expression-onward (r + 1) other k' q f in omega arith

    level-onward : (level p : ℕ) (t : SourceExpression) (h q : ℕ) → ReadsLevel tokens level p t h q → p < q
    level-onward level p t h q (ReadsLevel.unary d) = unary-onward p t h q d
    level-onward level p t h q (ReadsLevel.tighter d) = level-onward (level + 1) p t h q d
    level-onward level p t h q (ReadsLevel.binary {i = i} {q = r} {j = j} {left = left} {right = right} d mark operator e) =
        let a = level-onward level p left i r d in let b = level-onward (level + 1) (r + 1) right j q e in omega arith

    unary-onward : (p : ℕ) (t : SourceExpression) (h q : ℕ) → ReadsUnary tokens p t h q → p < q
    unary-onward p t h q (ReadsUnary.primary d) = primary-onward p t h q d
    unary-onward p t h q (ReadsUnary.signed {height = i} {tree = tree} is prefix d) = let a = unary-onward (p + 1) tree i q d in omega arith

    primary-onward : (p : ℕ) (t : SourceExpression) (h q : ℕ) → ReadsPrimary tokens p t h q → p < q
    primary-onward p t h q (ReadsPrimary.number is) = omega arith
    primary-onward p t h q (ReadsPrimary.name is) = omega arith
    primary-onward p t h q (ReadsPrimary.element {height = i} {q = r} {index = index} is open' d close') = let a = expression-onward (p + 2) index i r d in omega arith
    primary-onward p t h q (ReadsPrimary.input is open' close') = omega arith
    primary-onward p t h q (ReadsPrimary.grouped {height = i} {q = r} {tree = tree} is d close') = let a = expression-onward (p + 1) tree i r d in omega arith

  pub lvalue-onward : (p : ℕ) (t : Lvalue) (h q : ℕ) → ReadsLvalue tokens p t h q → p < q
  lvalue-onward p t h q (ReadsLvalue.name is) = omega arith
  lvalue-onward p t h q (ReadsLvalue.element {height = i} {q = r} {index = index} is open' d close') = let a = expression-onward (p + 2) index i r d in omega arith

  pub test-onward : (p : ℕ) (t : SourceExpression) (h q : ℕ) → ReadsTest tokens p t h q → p < q
  test-onward p t h q (ReadsTest.tested {q = r} is d close') = let a = expression-onward (p + 1) t h r d in omega arith

  pub constant-onward : (p : ℕ) (t : Const) (q : ℕ) → ReadsConstant tokens p t q → p < q
  constant-onward p t q (ReadsConstant.number is) = omega arith
  constant-onward p t q (ReadsConstant.negated minus is) = omega arith

  pub constants-onward : (p : ℕ) (t : List Const) (q : ℕ) → ReadsConstants tokens p t q → p < q
  constants-onward p t q (ReadsConstants.last {q = r} {tree = tree} d close') = let a = constant-onward p tree r d in omega arith
  constants-onward p t q (ReadsConstants.last_with_comma {q = r} {tree = tree} d comma close') = let a = constant-onward p tree r d in omega arith
  constants-onward p t q (ReadsConstants.comma {q = r} {tree = tree} {rest = rest} d comma e) = let a = constant-onward p tree r d in
      let b = constants-onward (r + 1) rest q e in omega arith

  argument_list-onward : (p : ℕ) (t : List SourceExpression) (h q : ℕ) → ReadsArgumentList tokens p t h q → p < q
  argument_list-onward p t h q (ReadsArgumentList.last {q = r} {tree = tree} d close') = let a = expression-onward p tree h r d in omega arith
  argument_list-onward p t h q (ReadsArgumentList.comma {i = i} {q = r} {j = j} {tree = tree} {rest = rest} d comma e) = let a = expression-onward p tree i r d in
      let b = argument_list-onward (r + 1) rest j q e in omega arith

  pub call-onward : (p function : ℕ) (t : List SourceExpression) (h q : ℕ) → ReadsCall tokens p function t h q → p < q
  call-onward p function t h q (ReadsCall.call is open' (ReadsArguments.none close')) = omega arith
  call-onward p function t h q (ReadsCall.call is open' (ReadsArguments.some d)) = let a = argument_list-onward (p + 2) t h q d in omega arith

  module _ (calls : Calls) where
    pub simple-onward : (p : ℕ) (s : UnitStatement) (h q : ℕ) → ReadsSimple tokens calls p s h q → p < q
    simple-onward p s h q (ReadsSimple.assignment {i = i} {q = r} {j = j} {lvalue = lvalue} {value = value} d is found e) = let a = lvalue-onward p lvalue i r d in
        let b = expression-onward (r + 1) value j q e in omega arith
    simple-onward p s h q (ReadsSimple.step_behind {height = i} {q = r} {lvalue = lvalue} d is found) = let a = lvalue-onward p lvalue i r d in omega arith
    simple-onward p s h q (ReadsSimple.step_before {height = i} {lvalue = lvalue} is found d) = let a = lvalue-onward (p + 1) lvalue i q d in omega arith
    simple-onward p s h q (ReadsSimple.print {height = i} {value = value} is d) = let a = test-onward (p + 1) value i q d in omega arith
    simple-onward p s h q (ReadsSimple.evaluation {height = i} {value = value} d) = expression-onward p value i q d
    simple-onward p s h q (ReadsSimple.call {function = function} {height = i} {arguments = arguments} may d) = call-onward p function arguments i q d
    simple-onward p s h q (ReadsSimple.assigned_call {function = function} {height = i} {arguments = arguments} may is assign d) =
        let a = call-onward (p + 2) function arguments i q d in omega arith

    pub declarator-onward : (storage : Storage) (p : ℕ) (s : UnitStatement) (h q : ℕ) → ReadsDeclarator tokens calls storage p s h q → p < q
    declarator-onward storage p s h q (ReadsDeclarator.scalar is) = omega arith
    declarator-onward storage p s h q (ReadsDeclarator.initialised {height = i} {value = value} is assign d) = let a = expression-onward (p + 2) value i q d in omega arith
    declarator-onward storage p s h q (ReadsDeclarator.called {function = function} {height = i} {arguments = arguments} may is assign d) =
        let a = call-onward (p + 2) function arguments i q d in omega arith
    declarator-onward storage p s h q (ReadsDeclarator.array is open' number close') = omega arith
    declarator-onward storage p s h q (ReadsDeclarator.initialised_array {values = values} is open' number close' assign brace d) = let a = constants-onward (p + 6) values q d in omega arith

    pub declarators-onward : (storage : Storage) (p : ℕ) (trees : UnitList) (h q : ℕ) → ReadsDeclarators tokens calls storage p trees h q → p < q
    declarators-onward storage p trees h q (ReadsDeclarators.last {q = r} {tree = tree} d close') = let a = declarator-onward storage p tree h r d in omega arith
    declarators-onward storage p trees h q (ReadsDeclarators.comma {i = i} {q = r} {j = j} {tree = tree} {rest = rest} d comma e) = let a = declarator-onward storage p tree i r d in
        let b = declarators-onward storage (r + 1) rest j q e in omega arith

    pub declaration-onward : (storage : Storage) (p : ℕ) (trees : UnitList) (h q : ℕ) → ReadsDeclaration tokens calls storage p trees h q → p < q
    declaration-onward storage p trees h q (ReadsDeclaration.automatic is d) = let a = declarators-onward storage (p + 1) trees h q d in omega arith
    declaration-onward storage p trees h q (ReadsDeclaration.static is int d) = let a = declarators-onward storage (p + 2) trees h q d in omega arith

    pub first-onward : (p : ℕ) (trees : UnitList) (h q : ℕ) → ReadsFirst tokens calls p trees h q → p < q
    first-onward p trees h q (ReadsFirst.declared d) = declaration-onward Automatic p trees h q d
    first-onward p trees h q (ReadsFirst.simple {q = r} {tree = tree} d close') = let a = simple-onward p tree h r d in omega arith
    first-onward p trees h q (ReadsFirst.none is) = omega arith

    pub condition-onward : (p : ℕ) (t : SourceExpression) (h q : ℕ) → ReadsCondition tokens p t h q → p < q
    condition-onward p t h q (ReadsCondition.given {q = r} d close') = let a = expression-onward p t h r d in omega arith
    condition-onward p t h q (ReadsCondition.none is) = omega arith

    pub step-onward : (p : ℕ) (t : UnitOptional) (h q : ℕ) → ReadsStep tokens calls p t h q → p < q
    step-onward p t h q (ReadsStep.given {q = r} {tree = tree} d close') = let a = simple-onward p tree h r d in omega arith
    step-onward p t h q (ReadsStep.none is) = omega arith

    mutual
      pub statement-onward : (p : ℕ) (s : UnitStatement) (h q : ℕ) → ReadsStatement tokens calls p s h q → p < q
      statement-onward p s h q (ReadsStatement.block {height = i} {items = items} is d) = let a = items-onward (p + 1) items i q d in omega arith
      statement-onward p s h q (ReadsStatement.empty is) = omega arith
      statement-onward p s h q (ReadsStatement.simple {q = r} d is) = let a = simple-onward p s h r d in omega arith
      statement-onward p s h q (ReadsStatement.branch {i = i} {q = r} {j = j} {test = test} {body = body} is d e) = let a = test-onward (p + 1) test i r d in
          let b = statement-onward r body j q e in omega arith
      statement-onward p s h q (ReadsStatement.branch_else {i = i} {q = r} {j = j} {r = t} {k = k'} {test = test} {body = body} {other = other} is d e closed is' f) =
          let a = test-onward (p + 1) test i r d in let b = statement-onward r body j t e in let c = statement-onward (t + 1) other k' q f in omega arith
      statement-onward p s h q (ReadsStatement.while_loop {i = i} {q = r} {j = j} {test = test} {body = body} is d e) = let a = test-onward (p + 1) test i r d in
          let b = statement-onward r body j q e in omega arith
      statement-onward p s h q (ReadsStatement.do_loop {i = i} {q = r} {j = j} {r = t} {body = body} {test = test} is d is' e close') = let a =
          statement-onward (p + 1) body i r d in let b = test-onward (r + 1) test j t e in omega arith
      statement-onward p s h q (ReadsStatement.for_loop {i = i} {q = r} {j = j} {r = t} {k = k'} {s = u} {l = l} {first = first} {test = test} {step = step} {body = body} is open' d e f g) =
          let a = first-onward (p + 2) first i r d in let b = condition-onward r test j t e in let c = step-onward t step k' u f in let c' = statement-onward u body l q g in omega arith
      statement-onward p s h q (ReadsStatement.break_out is close') = omega arith
      statement-onward p s h q (ReadsStatement.continue_on is close') = omega arith
      statement-onward p s h q (ReadsStatement.return_from {height = i} {q = r} {value = value} is d close') = let a = expression-onward (p + 1) value i r d in omega arith

      pub items-onward : (p : ℕ) (trees : UnitList) (h q : ℕ) → ReadsItems tokens calls p trees h q → p < q
      items-onward p trees h q (ReadsItems.close is) = omega arith
      items-onward p trees h q (ReadsItems.declared {storage = storage} {i = i} {q = r} {j = j} {trees = some} {rest = rest} d e) = let a = declaration-onward storage p some i r d in
          let b = items-onward r rest j q e in omega arith
      items-onward p trees h q (ReadsItems.stated {i = i} {q = r} {j = j} {tree = tree} {rest = rest} d e) = let a = statement-onward p tree i r d in let b = items-onward r rest j q e in omega arith
