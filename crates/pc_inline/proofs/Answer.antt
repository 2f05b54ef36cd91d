-- What `inline` answers, by what its parts give.
use Rattle.std.proofs.Common.{◌≡◌, refl, sym, ap, subst, ◌∙◌, ℕ, ℤ, ◌+◌, ◌≤◌, Bool, true, false, ◌||◌, List, [], ◌∷◌, ◌++◌, reverse, Option, Some, Result}
use Rattle.std.proofs.Common.{Ok, Err, IsErrAnd, arith, nat_lt, slice_get}
use Rattle.std.proofs.lemmas.Bool.Decides.{nat_tests}
use Rattle.pc_word.specs.Exact.{checked, IsRefusal, IsExact}
use Rattle.pc_word.proofs.Truth.{and_true}
use Rattle.pc_syntax.specs.declared.statement.Stmt.{Stmt}
use Rattle.pc_syntax.specs.declared.program.Program.{Program}
use Rattle.pc_syntax.specs.declared.unit.SourceUnit.{SourceUnit}
use Rattle.pc_syntax.specs.Source.{SourceStatement, OptionalStatement, SourceList, SourceProgram, Scope, ScalarDeclaration, ArrayDeclaration, Assignment, Printing, Evaluation, Branch}
use Rattle.pc_syntax.specs.Source.{WhileLoop, DoLoop, ForLoop, BreakOut, ContinueOn, ReturnFrom, Nothing, Absent, Present, No_more, More}
use Rattle.pc_syntax.specs.Erasure.{list_of, program_of}
use Rattle.pc_syntax.specs.UnitErasure.{unit_list_of, unit_of}
use Rattle.pc_syntax.specs.Plain.{plain_statement, plain_optional, plain_list}
use Rattle.pc_syntax.specs.Proper.{unit_is_proper, functions_are_proper, list_is_proper}
use Rattle.pc_syntax.proofs.WithoutCalls.{without_calls, optional_without_calls, list_without_calls, trees_without_calls}
use Rattle.pc_check.specs.Faults.{faults}
use Rattle.pc_check.specs.Resolution.{resolved}
use Rattle.pc_meaning.specs.SourceRun.{source_run}
use Rattle.pc_calls.specs.CallRun.{call_run}
use Rattle.pc_calls.specs.Inline.{inlined_list, inlined_program}
use Rattle.pc_calls.specs.Refusals.{Refusal, TooBig, TooHigh, refused_if, refusals}
use Rattle.pc_calls.specs.Measures.{Size, list_measure}
use Rattle.pc_calls.specs.Counted.{unit_size}
use Rattle.pc_calls.specs.Inlining.{size_refusals, inlining}
use Rattle.pc_calls.proofs.Measured.{unit-measured, reverse-proper}
use Rattle.pc_calls.proofs.Functions.{inlined-same}
use Rattle.pc_inline.specs.declared.error.InlineError.{InlineError}
use Rattle.pc_inline.specs.declared.error.InlineError.TheVariants.{Memory}
use Rattle.pc_inline.specs.Inlined.{inline_cause}
use Rattle.pc_inline.specs.models.First.{IsFirst}
use Rattle.pc_inline.proofs.Firsts.{IsFirst-rest}
use Rattle.pc_inline.specs.models.Sites.{site_at}
use Rattle.pc_inline.proofs.Offsets.{main-same}

-- ---- programs without calls

mutual
  unfolding plain_statement without_calls

  plain_again : (s : SourceStatement) → without_calls (plain_statement s) ≡ s
  plain_again (Scope items) = ap Scope (list_again items)
  plain_again (ScalarDeclaration symbol line initial) = refl
  plain_again (ArrayDeclaration symbol line at length values) = refl
  plain_again (Assignment symbol line index bracket op at value) = refl
  plain_again (Printing line value) = refl
  plain_again (Evaluation line value) = refl
  plain_again (Branch line test body otherwise) =
      ap (λ (x : SourceStatement). Branch line test x (optional_without_calls (plain_optional otherwise))) (plain_again body) ∙ ap (Branch line test body) (optional_again otherwise)
  plain_again (WhileLoop line test body) = ap (WhileLoop line test) (plain_again body)
  plain_again (DoLoop line body test) = ap (λ (x : SourceStatement). DoLoop line x test) (plain_again body)
  plain_again (ForLoop line first test step body) =
      ap (λ (x : SourceList). ForLoop line x test (optional_without_calls (plain_optional step)) (without_calls (plain_statement body))) (list_again first)
      ∙ ap (λ (x : OptionalStatement). ForLoop line first test x (without_calls (plain_statement body))) (optional_again step)
      ∙ ap (ForLoop line first test step) (plain_again body)
  plain_again (BreakOut line) = refl
  plain_again (ContinueOn line) = refl
  plain_again (ReturnFrom line value) = refl
  plain_again Nothing = refl

  optional_again : (s : OptionalStatement) → optional_without_calls (plain_optional s) ≡ s
  optional_again Absent = refl
  optional_again (Present s) = ap Present (plain_again s)

  list_again : (items : SourceList) → list_without_calls (plain_list items) ≡ items
  list_again No_more = refl
  list_again (More first rest) = ap (λ (x : SourceStatement). More x (list_without_calls (plain_list rest))) (plain_again first) ∙ ap (More first) (list_again rest)

-- trees that stand for statements without calls
plain_trees : (items : List Stmt) (l : SourceList) → unit_list_of items ≡ plain_list l → list_of items ≡ l
plain_trees items l is = sym (trees_without_calls items) ∙ ap list_without_calls is ∙ list_again l

-- ---- sizes

-- what is not refused for its size is not too high
not_too_high : (size : Size) → size_refusals size ≡ [] → size.height + 0 ≤ 256
not_too_high size none = by (nat_lt 65536 size.count || nat_lt 262144 size.nodes) (nat_lt 256 (1 + size.height)) refl none
  where
    high : nat_lt 256 (1 + size.height) ≡ false → size.height + 0 ≤ 256
    high is = grind (arith, nat_tests, is)

    by : (big tall : Bool) → nat_lt 256 (1 + size.height) ≡ tall → refused_if big TooBig ++ refused_if tall TooHigh ≡ [] → size.height + 0 ≤ 256
    by true tall is none = absurd (cc)
    by false true is none = absurd (cc)
    by false false is none = high is

-- ---- the answer

-- what is known of a unit that is not refused, and of the program that was made of it
pub record Given (unit : SourceUnit) (items : List Stmt) : Type 0 where
  pub exact : inlining (unit_of unit) ≡ Ok (record { items = list_of items })
  pub plain : unit_list_of items ≡ plain_list (list_of items)
  pub same : faults (record { items = list_of items }) ≡ [] → (input : List ℤ) (n : ℕ) → source_run (resolved (record { items = list_of items })) input n ≡ call_run (unit_of unit) input n

nothing_refused : (found more : List Refusal) (program : SourceProgram) → found ≡ [] → more ≡ [] → checked (found ++ more) program ≡ Ok program
nothing_refused found more program one other = ap (λ (x : List Refusal). checked (x ++ more) program) one ∙ ap (λ (x : List Refusal). checked x program) other

pub given : (unit : SourceUnit) (items : List Stmt) → unit_is_proper 65536 (unit_of unit) ≡ true → refusals (unit_of unit) ≡ [] → size_refusals (unit_size (unit_of unit)) ≡ [] →
    unit_list_of items ≡ plain_list (inlined_list (site_at unit.functions 0 false) (unit_list_of unit.main.items)) → Given unit items
given unit items proper allowed sized made =
    let u = unit_of unit in
    let both = and_true (functions_are_proper 65536 u.functions) (list_is_proper 65536 u.main) proper in
    let fs = reverse u.functions in
    let alike = main-same fs u.main (reverse-proper 65536 u.functions both.0) both.1 (not_too_high (unit_size u) sized) in
    let trees : list_of items ≡ (inlined_program 65536 u).items = plain_trees items _ made ∙ alike in
    let program : inlined_program 65536 u ≡ record { items = list_of items } = (λ i. record { items = sym trees i }) in
    let measured = unit-measured 65536 u proper in
    let fits : size_refusals (list_measure (inlined_program 65536 u).items) ≡ [] = ap size_refusals measured ∙ sized in
    record {
      exact = nothing_refused (refusals u) (size_refusals (list_measure (inlined_program 65536 u).items)) (inlined_program 65536 u) allowed fits ∙ ap (λ (x : SourceProgram). Ok x) program;
      plain = made ∙ ap plain_list (sym (plain_trees items _ made));
      same = λ none input n.
          ap (λ (x : SourceProgram). source_run (resolved x) input n) (sym program) ∙ inlined-same 65536 u proper allowed (ap faults program ∙ none) input n;
    }

-- ---- refusals

-- the first refusal is the answer
refused_answer : (e : InlineError) (refusal : Refusal) (found : List Refusal) (program : SourceProgram) → inline_cause e ≡ Some refusal → slice_get found 0 ≡ Some refusal →
    IsRefusal (inline_cause e) (checked found program)
refused_answer e refusal [] program told first = absurd (cc)
refused_answer e refusal (one ∷ others) program told first =
    let same : one ≡ refusal = cc in
    subst (λ (o : Option Refusal). IsRefusal o (checked (one ∷ others) program)) (sym told) (ap (λ (x : Refusal). Err x) same)

pub refused_exact : (r : Result Program InlineError) (e : InlineError) (found : List Refusal) (program : SourceProgram) → IsErrAnd r (λ x. x ≡ e) → IsFirst e found →
    IsExact program_of inline_cause r (checked found program)
refused_exact (Ok value) e found program same is = absurd same
refused_exact (Err x) e found program same is =
    subst (λ (y : InlineError). IsRefusal (inline_cause y) (checked found program)) (sym same) (refused_answer e is.refusal found program is.told is.first)

-- want of memory is free to come
pub memory_exact : (r : Result Program InlineError) (answer : Result SourceProgram Refusal) → IsErrAnd r (λ x. x ≡ Memory) → IsExact program_of inline_cause r answer
memory_exact (Ok value) answer same = absurd same
memory_exact (Err x) answer same = subst (λ (y : InlineError). IsRefusal (inline_cause y) answer) (sym same) tt

-- the first refusal for the size is that of the unit, where nothing in the text is refused
pub first_for_size : (e : InlineError) (unit : SourceUnit) → unit_is_proper 65536 (unit_of unit) ≡ true → refusals (unit_of unit) ≡ [] → IsFirst e (size_refusals (unit_size (unit_of unit))) →
    IsFirst e (refusals (unit_of unit) ++ size_refusals (list_measure (inlined_program 65536 (unit_of unit)).items))
first_for_size e unit proper allowed is =
    IsFirst-rest e (refusals (unit_of unit)) _ allowed (subst (λ (s : Size). IsFirst e (size_refusals s)) (sym (unit-measured 65536 (unit_of unit) proper)) is)
