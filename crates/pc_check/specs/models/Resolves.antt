-- What the answers of the checks of a program's parts say.
use Rattle.std.specs.Prelude.{◌≡◌, ℕ, Bool, Option, Some, List, [], slice_get}
use Rattle.pc_syntax.specs.Source.{SourceExpression, SourceStatement, SourceList, OptionalStatement}
use Rattle.pc_check.specs.declared.error.CheckError.{CheckError}
use Rattle.pc_check.specs.declared.error.CheckError.TheVariants as fault
use Rattle.pc_check.specs.Names.{Names}
use Rattle.pc_check.specs.Faults.{expression_faults, measured_faults, optional_faults, statement_faults, branch_faults, list_faults, names_behind, names_behind_optional, names_behind_list}
use Rattle.pc_check.specs.Resolution.{resolved_expression, resolved_optional, resolved_statement, resolved_branch, resolved_list}

-- an answer with an error: it is the first of the faults; want of memory says nothing of the program
abbrev pub IsFirst : CheckError → List CheckError → Type 0
IsFirst fault.Memory found = Unit {0}
IsFirst e found = slice_get found 0 ≡ Some e

-- an answer without an error, of an expression among the names that are declared: it has no faults, and this is what it is
-- resolved to
pub record ExpressionResolves (names : Names) (e answer : SourceExpression) : Type 0 where
  pub faultless : expression_faults names e ≡ []
  pub is_resolved : resolved_expression names e ≡ answer

-- the same of an expression that is measured by itself
pub record MeasuredResolves (names : Names) (line : ℕ) (e answer : SourceExpression) : Type 0 where
  pub faultless : measured_faults names line e ≡ []
  pub is_resolved : resolved_expression names e ≡ answer

-- the same of an expression that may be left out
pub record OptionalResolves (names : Names) (e answer : Option SourceExpression) : Type 0 where
  pub faultless : optional_faults names e ≡ []
  pub is_resolved : resolved_optional names e ≡ answer

-- the same of a statement, and these names are declared after it
pub record StatementResolves (in_loop : Bool) (s : SourceStatement) (before after : Names) (answer : SourceStatement) : Type 0 where
  pub faultless : statement_faults in_loop s before ≡ []
  pub behind : names_behind s before ≡ after
  pub is_resolved : resolved_statement s before ≡ answer

-- the same of a statement that may be left out
pub record BranchResolves (in_loop : Bool) (s : OptionalStatement) (before after : Names) (answer : OptionalStatement) : Type 0 where
  pub faultless : branch_faults in_loop s before ≡ []
  pub behind : names_behind_optional s before ≡ after
  pub is_resolved : resolved_branch s before ≡ answer

-- the same of statements in order
pub record ListResolves (in_loop : Bool) (s : SourceList) (before after : Names) (answer : SourceList) : Type 0 where
  pub faultless : list_faults in_loop s before ≡ []
  pub behind : names_behind_list s before ≡ after
  pub is_resolved : resolved_list s before ≡ answer
