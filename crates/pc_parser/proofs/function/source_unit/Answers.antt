use Rattle.std.proofs.Common.{◌≡◌, sym, ap, ◌+◌, ◌-◌, ◌<◌, List, length, arith}
use Rattle.std.specs.Prelude.{max, map}
use Rattle.std.proofs.lemmas.Result.{err_from_is_err_and}
use Rattle.pc_word.specs.SourceLimits.{most_height}
use Rattle.pc_syntax.specs.declared.unit.Function.{Function}
use Rattle.pc_syntax.specs.UnitErasure.{function_of, unit_list_of}
use Rattle.pc_parser.proofs.Functions.{pushed, functions-init, functions-more, functions-fail, functions-fail_int, functions-fail_main, functions-main}
use Rattle.pc_parser.proofs.Further.{function-further}
use Rattle.pc_parser.proofs.function.source_unit.Goals as goal

-- before the first function
pub loop-symbol-init : goal.loop-symbol-init
loop-symbol-init c =
    let tokens = c.args.tokens.now in
    record {
      turns = length tokens + 1;
      enough = omega arith;
      same = functions-init tokens most_height (map function_of c.new-functions.result) (ap (λ (l : List Function). map function_of l) c.new-functions.ensures);
      low = omega arith;
      inside = omega arith;
    }

-- a failure of a function
pub returns-in_err-more : goal.returns-in_err-more
returns-in_err-more c =
    let p = err_from_is_err_and c.from_residual.result c.from_residual.ensures.1 in
    let so_far = c.loop-symbol.invariant in
    let enough = so_far.enough in
    let inside = so_far.inside in
    rw (p.1, p.2) (functions-fail c.args.tokens.now most_height _ (map function_of c.loop-symbol.functions) c.loop-symbol.height so_far.turns c.loop-symbol.place so_far.same (omega arith)
    c.in-Some.symbol _ (sym c.in-Some.ensures.value) c.in_err-more.ensures.gives)

-- one function more
pub loop-symbol-preserved : goal.loop-symbol-preserved
loop-symbol-preserved c =
    let tokens = c.args.tokens.now in
    let so_far = c.loop-symbol.invariant in
    let enough = so_far.enough in
    let inside = so_far.inside in
    let low = so_far.low in
    let more = c.in_ok-more.more in
    let ends = c.in_ok-more.ensures.ends in
    let more_low = ends.low in
    let further : c.loop-symbol.place + 2 < more.next =
    function-further tokens most_height c.in-Some.symbol c.loop-symbol.place (function_of more.tree) more.height more.next c.in_ok-more.ensures.gives in
    let high : c.max-height.result ≡ max c.loop-symbol.height more.height = c.max-height.ensures in
    record {
      turns = so_far.turns - 1;
      enough = omega arith;
      same = functions-more tokens most_height _ (map function_of c.loop-symbol.functions) c.loop-symbol.height so_far.turns c.loop-symbol.place so_far.same (omega arith)
          (map function_of c.push.new.self) c.in-Some.symbol (function_of more.tree) more.height more.next c.max-height.result (sym c.in-Some.ensures.value) c.in_ok-more.ensures.gives
          (pushed c.loop-symbol.functions c.push.new.self more.tree c.in_ok-push.ensures.ok) high;
      low = omega arith;
      inside = ends.inside;
    }

-- each function is read further on
pub loop-symbol-smaller : goal.loop-symbol-smaller
loop-symbol-smaller c =
    let inside = c.loop-symbol.invariant.inside in
    let more = c.in_ok-more.more in
    let ends = c.in_ok-more.ensures.ends in
    let within = ends.inside in
    let further : c.loop-symbol.place + 2 < more.next =
    function-further c.args.tokens.now most_height c.in-Some.symbol c.loop-symbol.place (function_of more.tree) more.height more.next c.in_ok-more.ensures.gives in
    omega arith

-- no `int`
pub returns-in_err-expect_key : goal.returns-in_err-expect_key
returns-in_err-expect_key c =
    let p = err_from_is_err_and c.from_residual-in_err-expect_key.result c.from_residual-in_err-expect_key.ensures.1 in
    let so_far = c.loop-symbol.invariant in
    let enough = so_far.enough in
    let inside = so_far.inside in
    rw (p.1, p.2) (functions-fail_int c.args.tokens.now most_height _ (map function_of c.loop-symbol.functions) c.loop-symbol.height so_far.turns c.loop-symbol.place so_far.same (omega arith)
    (sym c.in_default.ensures.value) _ c.in_err-expect_key.ensures.test.0 c.in_err-expect_key.ensures.test.1)

-- a failure of `main`
pub returns-in_err-main : goal.returns-in_err-main
returns-in_err-main c =
    let p = err_from_is_err_and c.from_residual-in_err-main.result c.from_residual-in_err-main.ensures.1 in
    let so_far = c.loop-symbol.invariant in
    let enough = so_far.enough in
    let inside = so_far.inside in
    rw (p.1, p.2) (functions-fail_main c.args.tokens.now most_height _ (map function_of c.loop-symbol.functions) c.loop-symbol.height so_far.turns c.loop-symbol.place so_far.same (omega arith)
    (sym c.in_default.ensures.value) _ c.in_ok-expect_key.ensures.test c.in_err-main.ensures)

-- `main` after the functions
pub returns : goal.returns
returns c =
    let so_far = c.loop-symbol.invariant in
    let enough = so_far.enough in
    let inside = so_far.inside in
    let main = c.in_ok-main.main in
    functions-main c.args.tokens.now most_height _ (map function_of c.loop-symbol.functions) c.loop-symbol.height so_far.turns c.loop-symbol.place so_far.same (omega arith)
    (sym c.in_default.ensures.value) (unit_list_of main.tree) main.height main.next c.max.result c.in_ok-expect_key.ensures.test c.in_ok-main.ensures c.max.ensures
