-- What statements leave of the names: the scopes round the innermost, and lists of statements in a row.
use Rattle.std.proofs.Common.{◌≡◌, refl, ap, ◌∙◌, sym, Bool, List, ◌∷◌, ◌++◌, append_assoc}
use Rattle.pc_syntax.specs.Source.{SourceStatement, Scope, ScalarDeclaration, ArrayDeclaration, Assignment, Printing, Evaluation, Branch, WhileLoop}
use Rattle.pc_syntax.specs.Source.{DoLoop, ForLoop, BreakOut, ContinueOn, ReturnFrom, Nothing, OptionalStatement, Absent, Present, SourceList}
use Rattle.pc_syntax.specs.Source.{No_more, More, appended}
use Rattle.pc_check.specs.declared.error.CheckError.{CheckError}
use Rattle.pc_check.specs.Names as names
use Rattle.pc_check.specs.Names.{Names, entered, left}
use Rattle.pc_check.specs.Faults.{names_behind, names_behind_optional, names_behind_list, list_faults, statement_faults}
use Rattle.pc_check.specs.Resolution.{resolved_list, resolved_statement}
use Rattle.pc_check.specs.models.View.{among, outwards}

mutual
  unfolding names_behind

  -- a statement leaves the scopes round the innermost as they are
  pub names_behind-outer : (s : SourceStatement) (n : Names) → (names_behind s n).outer ≡ n.outer
  names_behind-outer (Scope items) n = refl
  names_behind-outer (ScalarDeclaration symbol line initial) n = refl
  names_behind-outer (ArrayDeclaration symbol line at size values) n = refl
  names_behind-outer (Assignment symbol line index bracket op at value) n = refl
  names_behind-outer (Printing line value) n = refl
  names_behind-outer (Evaluation line value) n = refl
  names_behind-outer (Branch line test body otherwise) n =
      names_behind_optional-outer otherwise (names_behind body n) ∙ names_behind-outer body n
  names_behind-outer (WhileLoop line test body) n = names_behind-outer body n
  names_behind-outer (DoLoop line body test) n = names_behind-outer body n
  names_behind-outer (ForLoop line first test step body) n = refl
  names_behind-outer (BreakOut line) n = refl
  names_behind-outer (ContinueOn line) n = refl
  names_behind-outer (ReturnFrom line value) n = refl
  names_behind-outer Nothing n = refl

  pub names_behind_optional-outer : (s : OptionalStatement) (n : Names) → (names_behind_optional s n).outer ≡ n.outer
  names_behind_optional-outer Absent n = refl
  names_behind_optional-outer (Present s) n = names_behind-outer s n

  pub names_behind_list-outer : (s : SourceList) (n : Names) → (names_behind_list s n).outer ≡ n.outer
  names_behind_list-outer No_more n = refl
  names_behind_list-outer (More first rest) n = names_behind_list-outer rest (names_behind first n) ∙ names_behind-outer first n

-- a scope that is left gives back the names before it, with what it declared counted
pub outwards-left : (before inside : Names) → inside.outer ≡ before.innermost ∷ before.outer → outwards inside ≡ left before inside
outwards-left before inside same = ap (λ (scopes : List names.Scope). among scopes inside) same

-- the names after two lists in a row
pub names_behind_list-appended : (front rest : SourceList) (n : Names) →
    names_behind_list (appended front rest) n ≡ names_behind_list rest (names_behind_list front n)
unfolding names_behind
names_behind_list-appended No_more rest n = refl
names_behind_list-appended (More first others) rest n = names_behind_list-appended others rest (names_behind first n)

-- the faults of two lists in a row
pub list_faults-appended : (in_loop : Bool) (front rest : SourceList) (n : Names) →
    list_faults in_loop (appended front rest) n ≡ list_faults in_loop front n ++ list_faults in_loop rest (names_behind_list front n)
unfolding names_behind statement_faults
list_faults-appended in_loop No_more rest n = refl
list_faults-appended in_loop (More first others) rest n =
    ap (λ (found : List CheckError). statement_faults in_loop first n ++ found) (list_faults-appended in_loop others rest (names_behind first n))
    ∙ sym (append_assoc (statement_faults in_loop first n) (list_faults in_loop others (names_behind first n)) _)

-- the resolved form of two lists in a row
pub resolved_list-appended : (front rest : SourceList) (n : Names) →
    resolved_list (appended front rest) n ≡ appended (resolved_list front n) (resolved_list rest (names_behind_list front n))
unfolding names_behind resolved_statement
resolved_list-appended No_more rest n = refl
resolved_list-appended (More first others) rest n =
    ap (More (resolved_statement first n)) (resolved_list-appended others rest (names_behind first n))
