-- The faults of trees with several parts, in terms of their parts.
use Rattle.std.proofs.Common.{◌≡◌, ap, ℕ, ◌++◌}
use Rattle.std.specs.declared.boxed.Box.{Box}
use Rattle.std.specs.declared.alloc.Global.{Global}
use Rattle.pc_syntax.specs.declared.operator.BinaryOp.{BinaryOp}
use Rattle.pc_syntax.specs.declared.expression.Expr.{Expr, Binary, Both, Either, Choose}
use Rattle.pc_syntax.specs.Erasure.{expression_of}
use Rattle.pc_syntax.proofs.ErasureLaws.{expression_of-Binary, expression_of-Both, expression_of-Either, expression_of-Choose}
use Rattle.pc_check.specs.Names.{Names}
use Rattle.pc_check.specs.Faults.{expression_faults}

module _ (names : Names) (e : Expr) where
  pub faults_of-Binary : (op : BinaryOp) (at : ℕ) (left right : Box Expr Global) → e ≡ Binary op at left right →
      expression_faults names (expression_of e)
      ≡ expression_faults names (expression_of left.value) ++ expression_faults names (expression_of right.value)
  unfolding expression_faults
  faults_of-Binary op at left right is = ap (expression_faults names) (expression_of-Binary e op at left right is)

  pub faults_of-Both : (left right : Box Expr Global) → e ≡ Both left right →
      expression_faults names (expression_of e)
      ≡ expression_faults names (expression_of left.value) ++ expression_faults names (expression_of right.value)
  unfolding expression_faults
  faults_of-Both left right is = ap (expression_faults names) (expression_of-Both e left right is)

  pub faults_of-Either : (left right : Box Expr Global) → e ≡ Either left right →
      expression_faults names (expression_of e)
      ≡ expression_faults names (expression_of left.value) ++ expression_faults names (expression_of right.value)
  unfolding expression_faults
  faults_of-Either left right is = ap (expression_faults names) (expression_of-Either e left right is)

  pub faults_of-Choose : (test one other : Box Expr Global) → e ≡ Choose test one other →
      expression_faults names (expression_of e)
      ≡ expression_faults names (expression_of test.value)
      ++ (expression_faults names (expression_of one.value) ++ expression_faults names (expression_of other.value))
  unfolding expression_faults
  faults_of-Choose test one other is = ap (expression_faults names) (expression_of-Choose e test one other is)
