-- A unit without functions inlines to its own program.
use Rattle.std.proofs.Common.{◌≡◌, ℕ, false, [], Option, Some, None, refl, ap, ◌∙◌}
use Rattle.pc_syntax.specs.Source.{SourceExpression, SourceStatement, Scope, ScalarDeclaration, ArrayDeclaration, Assignment, Printing, Evaluation, Branch, WhileLoop}
use Rattle.pc_syntax.specs.Source.{Literal, Variable, Input, Indexed, Prefixed, Combined, Conjunction, Disjunction, Conditional}
use Rattle.pc_syntax.specs.Source.{DoLoop, ForLoop, BreakOut, ContinueOn, ReturnFrom, Nothing, OptionalStatement, Absent, Present, SourceList}
use Rattle.pc_syntax.specs.Source.{No_more, More, SourceProgram}
use Rattle.pc_calls.specs.Inline.{copied, renamed, renamed_optional, Copy, Site, inlined, inlined_optional, inlined_list, copies, inlined_program}
use Rattle.pc_syntax.specs.Plain.{plain_statement, plain_optional, plain_list, plain_unit}

module _ (base : ℕ) (known : ℕ → Option Copy) where
  abbrev r : ℕ → ℕ
  r = copied base 0

  abbrev site : Site
  site = record { copies = known; rename = copied base 0; in_function = false }

  same : (e : SourceExpression) → renamed r e ≡ e
  unfolding renamed
  same (Literal value) = refl
  same (Variable symbol line) = refl
  same (Input line) = refl
  same (Indexed symbol line at index) = ap (Indexed symbol line at) (same index)
  same (Prefixed op operand) = ap (Prefixed op) (same operand)
  same (Combined op at left right) = ap (λ (x : SourceExpression). Combined op at x (renamed r right)) (same left) ∙ ap (Combined op at left) (same right)
  same (Conjunction left right) = ap (λ (x : SourceExpression). Conjunction x (renamed r right)) (same left) ∙ ap (Conjunction left) (same right)
  same (Disjunction left right) = ap (λ (x : SourceExpression). Disjunction x (renamed r right)) (same left) ∙ ap (Disjunction left) (same right)
  same (Conditional test one other) =
      ap (λ (x : SourceExpression). Conditional x (renamed r one) (renamed r other)) (same test)
      ∙ ap (λ (x : SourceExpression). Conditional test x (renamed r other)) (same one) ∙ ap (Conditional test one) (same other)

  same_optional : (e : Option SourceExpression) → renamed_optional r e ≡ e
  same_optional None = refl
  same_optional (Some e) = ap (λ (x : SourceExpression). Some x) (same e)

  mutual
    unfolding plain_statement inlined

    kept : (s : SourceStatement) → inlined site (plain_statement s) ≡ s
    kept (Scope items) = ap Scope (kept_list items)
    kept (ScalarDeclaration symbol line None) = refl
    kept (ScalarDeclaration symbol line (Some e)) = ap (λ (x : SourceExpression). ScalarDeclaration symbol line (Some x)) (same e)
    kept (ArrayDeclaration symbol line at length values) = refl
    kept (Assignment symbol line index bracket op at value) =
        ap (λ (x : Option SourceExpression). Assignment symbol line x bracket op at (renamed r value)) (same_optional index) ∙ ap (Assignment symbol line index bracket op at) (same value)
    kept (Printing line value) = ap (Printing line) (same value)
    kept (Evaluation line value) = ap (Evaluation line) (same value)
    kept (Branch line test body otherwise) =
        ap (λ (x : SourceExpression). Branch line x (inlined site (plain_statement body)) (inlined_optional site (plain_optional otherwise))) (same test)
        ∙ ap (λ (x : SourceStatement). Branch line test x (inlined_optional site (plain_optional otherwise))) (kept body) ∙ ap (Branch line test body) (kept_optional otherwise)
    kept (WhileLoop line test body) = ap (λ (x : SourceExpression). WhileLoop line x (inlined site (plain_statement body))) (same test) ∙ ap (WhileLoop line test) (kept body)
    kept (DoLoop line body test) = ap (λ (x : SourceStatement). DoLoop line x (renamed r test)) (kept body) ∙ ap (DoLoop line body) (same test)
    kept (ForLoop line first test step body) =
        ap (λ (x : SourceList). ForLoop line x (renamed r test) (inlined_optional site (plain_optional step)) (inlined site (plain_statement body))) (kept_list first)
        ∙ ap (λ (x : SourceExpression). ForLoop line first x (inlined_optional site (plain_optional step)) (inlined site (plain_statement body))) (same test)
        ∙ ap (λ (x : OptionalStatement). ForLoop line first test x (inlined site (plain_statement body))) (kept_optional step) ∙ ap (ForLoop line first test step) (kept body)
    kept (BreakOut line) = refl
    kept (ContinueOn line) = refl
    kept (ReturnFrom line value) = ap (ReturnFrom line) (same value)
    kept Nothing = refl

    kept_optional : (s : OptionalStatement) → inlined_optional site (plain_optional s) ≡ s
    kept_optional Absent = refl
    kept_optional (Present s) = ap Present (kept s)

    pub kept_list : (items : SourceList) → inlined_list site (plain_list items) ≡ items
    kept_list No_more = refl
    kept_list (More (ScalarDeclaration symbol line None) rest) = ap (More (ScalarDeclaration symbol line None)) (kept_list rest)
    kept_list (More (ScalarDeclaration symbol line (Some e)) rest) =
        ap (λ (x : SourceExpression). More (ScalarDeclaration symbol line (Some x)) (inlined_list site (plain_list rest))) (same e)
        ∙ ap (More (ScalarDeclaration symbol line (Some e))) (kept_list rest)
    kept_list (More s rest) = ap (λ (x : SourceStatement). More x (inlined_list site (plain_list rest))) (kept s) ∙ ap (More s) (kept_list rest)

pub plain-inlined : (base : ℕ) (program : SourceProgram) → inlined_program base (plain_unit program) ≡ program
plain-inlined base program = ap {B = SourceProgram} (λ (x : SourceList). record { items = x }) (kept_list base (copies base [] 1) program.items)
