use Rattle.std.proofs.Common.{List, [], sym, subst}
use Rattle.pc_inline.specs.declared.counting.FunctionSize.{FunctionSize}
use Rattle.pc_inline.specs.models.Sized.{AreSizes}
use Rattle.pc_inline.proofs.TableLaws.{no_functions, table_more}
use Rattle.pc_inline.proofs.tables.function_sizes.Goals as goal

pub loop-at-init : goal.loop-at-init
loop-at-init c = subst (λ (l : List FunctionSize). AreSizes [] l) (sym c.new-sizes.ensures) no_functions

-- one more function
pub loop-at-preserved : goal.loop-at-preserved
loop-at-preserved c =
    table_more c.args.functions.now c.loop-at.sizes c.push.new.self c.loop-at.at c.index-functions-at.result c.function_size-size.result c.loop-at-test.true c.index-functions-at.is
    c.loop-at.invariant c.in_ok-push.ensures.ok c.function_size-size.ensures.parameters (rw c.as_slice.ensures at c.function_size-size.ensures.items) c.function_size-size.ensures.value
