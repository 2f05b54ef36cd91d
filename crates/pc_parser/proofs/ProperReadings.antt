-- What is read is as the text of a unit gives it: its declarators stand in lists, and its symbols are those of the tokens.
use Rattle.std.proofs.Common.{◌≡◌, refl, ap, ◌∙◌, ℕ, pos, ◌+◌, Bool, true, false, ◌&&◌, List}
use Rattle.std.specs.Prelude.{Option, Some, None, nat_lt}
use Rattle.std.proofs.lemmas.Bool.{lt-ltb}
use Rattle.pc_lexer.specs.declared.token.Token.{Token}
use Rattle.pc_syntax.specs.declared.operator.UnaryOp.{UnaryOp}
use Rattle.pc_syntax.specs.declared.unit.Param.{Param}
use Rattle.pc_syntax.specs.Source.{SourceExpression, Literal}
use Rattle.pc_syntax.specs.Unit.{UnitStatement, UnitList, UnitOptional, UnitFunction, TranslationUnit}
use Rattle.pc_syntax.specs.Unit.{Return, Finish, Item, unit_appended}
use Rattle.pc_syntax.specs.Proper.{uses_only, is_below, optional_is_below, all_below, parameters_below, declares_nothing, is_proper, optional_is_proper, list_is_proper, function_is_proper}
use Rattle.pc_syntax.specs.Proper.{functions_are_proper, unit_is_proper}
use Rattle.pc_parser.specs.declared.calls.Calls.{Calls}
use Rattle.pc_parser.specs.declared.calls.Calls.TheVariants.{Allowed}
use Rattle.pc_parser.specs.declared.storage.Storage.{Storage}
use Rattle.pc_parser.specs.declared.operator.Operator.{Operator}
use Rattle.pc_parser.specs.declared.operator.Operator.TheVariants as joins
use Rattle.pc_parser.specs.Operators.{infixed, prefixed}
use Rattle.pc_parser.specs.Expressions.{HasName, ReadsExpression, ReadsLevel, ReadsUnary, ReadsPrimary}
use Rattle.pc_parser.specs.Calls.{ReadsArgumentList, ReadsArguments, ReadsCall}
use Rattle.pc_parser.specs.Statements.{Lvalue, ReadsLvalue, ReadsTest, ReadsSimple, ReadsDeclarator, ReadsDeclarators, ReadsDeclaration, ReadsFirst, ReadsCondition, ReadsStep}
use Rattle.pc_parser.specs.Statements.{ReadsStatement, ReadsItems, ReadsMain}
use Rattle.pc_parser.specs.Units.{result_of, without_result, ReadsParameter, ReadsParameterList, ReadsParameters, ReadsFunction, ReadsFunctions, HasNamesBelow}

-- two tests that hold, hold together, and the other way round
both : (x y : Bool) → x ≡ true → y ≡ true → (x && y) ≡ true
both x y one other = ap (λ t. t && y) one ∙ other

first-of : (x y : Bool) → (x && y) ≡ true → x ≡ true
first-of true y is = refl
first-of false y is = cc

second-of : (x y : Bool) → (x && y) ≡ true → y ≡ true
second-of true y is = is
second-of false y is = cc

-- a list without its result is proper, and so is the result
result-proper : (base : ℕ) (l : UnitList) → list_is_proper base l ≡ true → (list_is_proper base (without_result l) ≡ true) × (optional_is_below base (result_of l) ≡ true)
unfolding is_proper
result-proper base Finish is = (refl, refl)
result-proper base (Item (Return line value) Finish) is = (refl, first-of (is_below base value) true is)
result-proper base (Item last Finish) is = (is, refl)
result-proper base (Item first (Item next rest)) is =
    let others = result-proper base (Item next rest) (second-of (is_proper base first) (list_is_proper base (Item next rest)) is) in
    (both (is_proper base first) (list_is_proper base (without_result (Item next rest))) (first-of (is_proper base first) (list_is_proper base (Item next rest)) is) others.0, others.1)

append-proper : (base : ℕ) (l rest : UnitList) → list_is_proper base l ≡ true → list_is_proper base rest ≡ true → list_is_proper base (unit_appended l rest) ≡ true
unfolding is_proper
append-proper base Finish rest one other = other
append-proper base (Item first l) rest one other =
    both (is_proper base first) (list_is_proper base (unit_appended l rest)) (first-of (is_proper base first) (list_is_proper base l) one)
    (append-proper base l rest (second-of (is_proper base first) (list_is_proper base l) one) other)

module _ (tokens : List Token) (base : ℕ) (names : HasNamesBelow base tokens) where
  name-below : (p symbol : ℕ) → HasName tokens p symbol → nat_lt symbol base ≡ true
  name-below p symbol is = lt-ltb symbol base (names p symbol is)

  infixed-below : (operator : Operator) (at : ℕ) (left right : SourceExpression) → is_below base left ≡ true → is_below base right ≡ true → is_below base (infixed operator at left right) ≡ true
  unfolding uses_only
  infixed-below (joins.Binary op) at left right one other = both (is_below base left) (is_below base right) one other
  infixed-below joins.Both at left right one other = both (is_below base left) (is_below base right) one other
  infixed-below joins.Either at left right one other = both (is_below base left) (is_below base right) one other

  prefixed-below : (sign : Option UnaryOp) (operand : SourceExpression) → is_below base operand ≡ true → is_below base (prefixed sign operand) ≡ true
  unfolding uses_only
  prefixed-below None operand is = is
  prefixed-below (Some op) operand is = is

  mutual
    unfolding uses_only

    expression-below : (p : ℕ) (t : SourceExpression) (h q : ℕ) → ReadsExpression tokens p t h q → is_below base t ≡ true
    expression-below p t h q (ReadsExpression.plain d) = level-below 1 p t h q d
    expression-below p t h q (ReadsExpression.choice {i = i} {q = r} {j = j} {r = u} {k = l} {test = test} {one = one} {other = other} d question e colon f) =
        both (is_below base test) (is_below base one && is_below base other) (level-below 1 p test i r d)
        (both (is_below base one) (is_below base other) (expression-below (r + 1) one j u e) (expression-below (u + 1) other l q f))

    level-below : (level p : ℕ) (t : SourceExpression) (h q : ℕ) → ReadsLevel tokens level p t h q → is_below base t ≡ true
    level-below level p t h q (ReadsLevel.unary d) = unary-below p t h q d
    level-below level p t h q (ReadsLevel.tighter d) = level-below (level + 1) p t h q d
    level-below level p t h q (ReadsLevel.binary {i = i} {q = r} {j = j} {left = left} {right = right} {operator = operator} d mark found e) =
        infixed-below operator _ left right (level-below level p left i r d) (level-below (level + 1) (r + 1) right j q e)

    unary-below : (p : ℕ) (t : SourceExpression) (h q : ℕ) → ReadsUnary tokens p t h q → is_below base t ≡ true
    unary-below p t h q (ReadsUnary.primary d) = primary-below p t h q d
    unary-below p t h q (ReadsUnary.signed {height = i} {tree = tree} {sign = sign} is prefix d) = prefixed-below sign tree (unary-below (p + 1) tree i q d)

    primary-below : (p : ℕ) (t : SourceExpression) (h q : ℕ) → ReadsPrimary tokens p t h q → is_below base t ≡ true
    primary-below p t h q (ReadsPrimary.number is) = refl
    primary-below p t h q (ReadsPrimary.name {symbol = symbol} is) = name-below p symbol is
    primary-below p t h q (ReadsPrimary.element {symbol = symbol} {height = i} {q = r} {index = index} is open' d close') =
        both (nat_lt symbol base) (is_below base index) (name-below p symbol is) (expression-below (p + 2) index i r d)
    primary-below p t h q (ReadsPrimary.input is open' close') = refl
    primary-below p t h q (ReadsPrimary.grouped {height = i} {q = r} {tree = tree} is d close') = expression-below (p + 1) tree i r d

  test-below : (p : ℕ) (t : SourceExpression) (h q : ℕ) → ReadsTest tokens p t h q → is_below base t ≡ true
  test-below p t h q (ReadsTest.tested {q = r} is d close') = expression-below (p + 1) t h r d

  lvalue-below : (p : ℕ) (t : Lvalue) (h q : ℕ) → ReadsLvalue tokens p t h q → (nat_lt t.symbol base ≡ true) × (optional_is_below base t.index ≡ true)
  lvalue-below p t h q (ReadsLvalue.name {symbol = symbol} is) = (name-below p symbol is, refl)
  lvalue-below p t h q (ReadsLvalue.element {symbol = symbol} {height = i} {q = r} {index = index} is open' d close') = (name-below p symbol is, expression-below (p + 2) index i r d)

  argument_list-below : (p : ℕ) (t : List SourceExpression) (h q : ℕ) → ReadsArgumentList tokens p t h q → all_below base t ≡ true
  argument_list-below p t h q (ReadsArgumentList.last {q = r} {tree = tree} d close') = both (is_below base tree) true (expression-below p tree h r d) refl
  argument_list-below p t h q (ReadsArgumentList.comma {i = i} {q = r} {j = j} {tree = tree} {rest = rest} d comma e) =
      both (is_below base tree) (all_below base rest) (expression-below p tree i r d) (argument_list-below (r + 1) rest j q e)

  call-below : (p function : ℕ) (t : List SourceExpression) (h q : ℕ) → ReadsCall tokens p function t h q → all_below base t ≡ true
  call-below p function t h q (ReadsCall.call is open' (ReadsArguments.none close')) = refl
  call-below p function t h q (ReadsCall.call is open' (ReadsArguments.some d)) = argument_list-below (p + 2) t h q d

  module _ (calls : Calls) where
    -- a statement that is proper, and declares nothing for those after it
    record IsProper (s : UnitStatement) : Type 0 where
      pub proper : is_proper base s ≡ true
      pub nothing : declares_nothing s ≡ true

    assigned-proper : (p : ℕ) (t : Lvalue) (h q : ℕ) → ReadsLvalue tokens p t h q → (value : SourceExpression) → is_below base value ≡ true →
        (nat_lt t.symbol base && (optional_is_below base t.index && is_below base value)) ≡ true
    assigned-proper p t h q d value is =
        let w = lvalue-below p t h q d in
        both (nat_lt t.symbol base) (optional_is_below base t.index && is_below base value) w.0 (both (optional_is_below base t.index) (is_below base value) w.1 is)

    simple-proper : (p : ℕ) (s : UnitStatement) (h q : ℕ) → ReadsSimple tokens calls p s h q → IsProper s
    unfolding is_proper uses_only
    simple-proper p s h q (ReadsSimple.assignment {i = i} {q = r} {j = j} {lvalue = lvalue} {value = value} d is found e) =
        record { proper = assigned-proper p lvalue i r d value (expression-below (r + 1) value j q e); nothing = refl }
    simple-proper p s h q (ReadsSimple.step_behind {height = i} {q = r} {lvalue = lvalue} d is found) = record { proper = assigned-proper p lvalue i r d (Literal (pos 1)) refl; nothing = refl }
    simple-proper p s h q (ReadsSimple.step_before {height = i} {lvalue = lvalue} is found d) = record { proper = assigned-proper (p + 1) lvalue i q d (Literal (pos 1)) refl; nothing = refl }
    simple-proper p s h q (ReadsSimple.print {height = i} {value = value} is d) = record { proper = test-below (p + 1) value i q d; nothing = refl }
    simple-proper p s h q (ReadsSimple.evaluation {height = i} {value = value} d) = record { proper = expression-below p value i q d; nothing = refl }
    simple-proper p s h q (ReadsSimple.call {function = function} {height = i} {arguments = arguments} may d) = record { proper = call-below p function arguments i q d; nothing = refl }
    simple-proper p s h q (ReadsSimple.assigned_call {symbol = symbol} {function = function} {height = i} {arguments = arguments} may is assign d) =
        record { proper = both (nat_lt symbol base) (all_below base arguments) (name-below p symbol is) (call-below (p + 2) function arguments i q d); nothing = refl }

    declarator-proper : (storage : Storage) (p : ℕ) (s : UnitStatement) (h q : ℕ) → ReadsDeclarator tokens calls storage p s h q → is_proper base s ≡ true
    unfolding is_proper
    declarator-proper storage p s h q (ReadsDeclarator.scalar {symbol = symbol} is) = both (nat_lt symbol base) true (name-below p symbol is) refl
    declarator-proper storage p s h q (ReadsDeclarator.initialised {symbol = symbol} {height = i} {value = value} is assign d) =
        both (nat_lt symbol base) (is_below base value) (name-below p symbol is) (expression-below (p + 2) value i q d)
    declarator-proper storage p s h q (ReadsDeclarator.called {symbol = symbol} {function = function} {height = i} {arguments = arguments} may is assign d) =
        both (nat_lt symbol base) (all_below base arguments) (name-below p symbol is) (call-below (p + 2) function arguments i q d)
    declarator-proper storage p s h q (ReadsDeclarator.array {symbol = symbol} is open' number close') = name-below p symbol is
    declarator-proper storage p s h q (ReadsDeclarator.initialised_array {symbol = symbol} is open' number close' assign brace d) = name-below p symbol is

    declarators-proper : (storage : Storage) (p : ℕ) (l : UnitList) (h q : ℕ) → ReadsDeclarators tokens calls storage p l h q → list_is_proper base l ≡ true
    unfolding is_proper
    declarators-proper storage p l h q (ReadsDeclarators.last {q = r} {tree = tree} d close') = both (is_proper base tree) true (declarator-proper storage p tree h r d) refl
    declarators-proper storage p l h q (ReadsDeclarators.comma {i = i} {q = r} {j = j} {tree = tree} {rest = rest} d comma e) =
        both (is_proper base tree) (list_is_proper base rest) (declarator-proper storage p tree i r d) (declarators-proper storage (r + 1) rest j q e)

    declaration-proper : (storage : Storage) (p : ℕ) (l : UnitList) (h q : ℕ) → ReadsDeclaration tokens calls storage p l h q → list_is_proper base l ≡ true
    declaration-proper storage p l h q (ReadsDeclaration.automatic is d) = declarators-proper storage (p + 1) l h q d
    declaration-proper storage p l h q (ReadsDeclaration.static is int d) = declarators-proper storage (p + 2) l h q d

    first-proper : (p : ℕ) (l : UnitList) (h q : ℕ) → ReadsFirst tokens calls p l h q → list_is_proper base l ≡ true
    unfolding is_proper
    first-proper p l h q (ReadsFirst.declared d) = declaration-proper _ p l h q d
    first-proper p l h q (ReadsFirst.simple {q = r} {tree = tree} d close') = both (is_proper base tree) true (simple-proper p tree h r d).proper refl
    first-proper p l h q (ReadsFirst.none is) = refl

    condition-proper : (p : ℕ) (t : SourceExpression) (h q : ℕ) → ReadsCondition tokens p t h q → is_below base t ≡ true
    unfolding uses_only
    condition-proper p t h q (ReadsCondition.given {q = r} d close') = expression-below p t h r d
    condition-proper p t h q (ReadsCondition.none is) = refl

    step-proper : (p : ℕ) (o : UnitOptional) (h q : ℕ) → ReadsStep tokens calls p o h q → optional_is_proper base o ≡ true
    unfolding is_proper
    step-proper p o h q (ReadsStep.given {q = r} {tree = tree} d close') =
        let w = simple-proper p tree h r d in both (declares_nothing tree) (is_proper base tree) w.nothing w.proper
    step-proper p o h q (ReadsStep.none is) = refl

    nothing-proper : (s : UnitStatement) → IsProper s → (declares_nothing s && is_proper base s) ≡ true
    nothing-proper s is = both (declares_nothing s) (is_proper base s) is.nothing is.proper

    mutual
      unfolding is_proper

      statement-proper : (p : ℕ) (s : UnitStatement) (h q : ℕ) → ReadsStatement tokens calls p s h q → IsProper s
      statement-proper p s h q (ReadsStatement.block {height = i} {items = items} is d) = record { proper = items-proper (p + 1) items i q d; nothing = refl }
      statement-proper p s h q (ReadsStatement.empty is) = record { proper = refl; nothing = refl }
      statement-proper p s h q (ReadsStatement.simple {q = r} d is) = simple-proper p s h r d
      statement-proper p s h q (ReadsStatement.branch {i = i} {q = r} {j = j} {test = test} {body = body} is d e) =
          record {
            proper = both (is_below base test) ((declares_nothing body && is_proper base body) && true) (test-below (p + 1) test i r d)
                (both (declares_nothing body && is_proper base body) true (nothing-proper body (statement-proper r body j q e)) refl);
            nothing = refl;
          }
      statement-proper p s h q (ReadsStatement.branch_else {i = i} {q = r} {j = j} {r = t} {k = l} {test = test} {body = body} {other = other} is d e closed is' f) =
          record {
            proper = both (is_below base test) ((declares_nothing body && is_proper base body) && (declares_nothing other && is_proper base other)) (test-below (p + 1) test i r d)
                (both (declares_nothing body && is_proper base body) (declares_nothing other && is_proper base other) (nothing-proper body (statement-proper r body j t e))
                (nothing-proper other (statement-proper (t + 1) other l q f)));
            nothing = refl;
          }
      statement-proper p s h q (ReadsStatement.while_loop {i = i} {q = r} {j = j} {test = test} {body = body} is d e) =
          record {
            proper = both (is_below base test) (declares_nothing body && is_proper base body) (test-below (p + 1) test i r d)
                (nothing-proper body (statement-proper r body j q e));
            nothing = refl;
          }
      statement-proper p s h q (ReadsStatement.do_loop {i = i} {q = r} {j = j} {r = t} {body = body} {test = test} is d is' e close') =
          record {
            proper = both (declares_nothing body && is_proper base body) (is_below base test) (nothing-proper body (statement-proper (p + 1) body i r d))
                (test-below (r + 1) test j t e);
            nothing = refl;
          }
      statement-proper p s h q (ReadsStatement.for_loop {i = i} {q = r} {j = j} {r = t} {k = l} {s = u} {l = m} {first = first} {test = test} {step = step} {body = body} is open' d e f g) =
          record {
            proper = both (list_is_proper base first) (is_below base test && (optional_is_proper base step && (declares_nothing body && is_proper base body))) (first-proper (p + 2) first i r d)
                (both (is_below base test) (optional_is_proper base step && (declares_nothing body && is_proper base body)) (condition-proper r test j t e)
                (both (optional_is_proper base step) (declares_nothing body && is_proper base body) (step-proper t step l u f) (nothing-proper body (statement-proper u body m q g))));
            nothing = refl;
          }
      statement-proper p s h q (ReadsStatement.break_out is close') = record { proper = refl; nothing = refl }
      statement-proper p s h q (ReadsStatement.continue_on is close') = record { proper = refl; nothing = refl }
      statement-proper p s h q (ReadsStatement.return_from {height = i} {q = r} {value = value} is d close') = record { proper = expression-below (p + 1) value i r d; nothing = refl }

      items-proper : (p : ℕ) (l : UnitList) (h q : ℕ) → ReadsItems tokens calls p l h q → list_is_proper base l ≡ true
      items-proper p l h q (ReadsItems.close is) = refl
      items-proper p l h q (ReadsItems.declared {storage = storage} {i = i} {q = r} {j = j} {trees = some} {rest = rest} d e) =
          append-proper base some rest (declaration-proper storage p some i r d) (items-proper r rest j q e)
      items-proper p l h q (ReadsItems.stated {i = i} {q = r} {j = j} {tree = tree} {rest = rest} d e) =
          both (is_proper base tree) (list_is_proper base rest) (statement-proper p tree i r d).proper (items-proper r rest j q e)

    main-proper : (p : ℕ) (l : UnitList) (h : ℕ) → ReadsMain tokens calls p l h → list_is_proper base l ≡ true
    main-proper p l h (ReadsMain.without_void {height = i} {to = to} main open' close' brace d end') = items-proper (p + 4) l i to d
    main-proper p l h (ReadsMain.with_void {height = i} {to = to} main open' void close' brace d end') = items-proper (p + 5) l i to d

  parameter-below : (p : ℕ) (t : Param) (q : ℕ) → ReadsParameter tokens p t q → nat_lt t.symbol base ≡ true
  parameter-below p t q (ReadsParameter.parameter {symbol = symbol} int name) = name-below (p + 1) symbol name

  parameter_list-below : (p : ℕ) (t : List Param) (q : ℕ) → ReadsParameterList tokens p t q → parameters_below base t ≡ true
  parameter_list-below p t q (ReadsParameterList.last {q = r} {parameter = first} d close') = both (nat_lt first.symbol base) true (parameter-below p first r d) refl
  parameter_list-below p t q (ReadsParameterList.comma {q = r} {parameter = first} {rest = rest} d comma e) =
      both (nat_lt first.symbol base) (parameters_below base rest) (parameter-below p first r d) (parameter_list-below (r + 1) rest q e)

  parameters-below : (p : ℕ) (t : List Param) (q : ℕ) → ReadsParameters tokens p t q → parameters_below base t ≡ true
  parameters-below p t q (ReadsParameters.none close') = refl
  parameters-below p t q (ReadsParameters.void void close') = refl
  parameters-below p t q (ReadsParameters.some d) = parameter_list-below p t q d

  function-proper : (p : ℕ) (f : UnitFunction) (h q : ℕ) → ReadsFunction tokens p f h q → function_is_proper base f ≡ true
  function-proper p f h q (ReadsFunction.function {q = r} {height = i} {parameters = parameters} {items = items} int name open' d brace e) =
      let w = result-proper base items (items-proper Allowed (r + 1) items i q e) in
      both (parameters_below base parameters) (list_is_proper base (without_result items) && optional_is_below base (result_of items)) (parameters-below (p + 3) parameters r d)
      (both (list_is_proper base (without_result items)) (optional_is_below base (result_of items)) w.0 w.1)

  pub functions-proper : (p : ℕ) (u : TranslationUnit) (h : ℕ) → ReadsFunctions tokens p u h → unit_is_proper base u ≡ true
  unfolding functions_are_proper
  functions-proper p u h (ReadsFunctions.main {items = items} int d) = main-proper Allowed (p + 1) items h d
  functions-proper p u h (ReadsFunctions.function {i = i} {q = r} {j = j} {function = function} {rest = rest} d e) =
      let others = functions-proper r rest j e in
      both (function_is_proper base function && functions_are_proper base rest.functions) (list_is_proper base rest.main)
      (both (function_is_proper base function) (functions_are_proper base rest.functions) (function-proper p function i r d)
      (first-of (functions_are_proper base rest.functions) (list_is_proper base rest.main) others))
      (second-of (functions_are_proper base rest.functions) (list_is_proper base rest.main) others)
