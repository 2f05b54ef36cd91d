-- Declarations in order, and their numbers.
use Rattle.std.proofs.Common.{◌≡◌, refl, sym, ap, ◌∙◌, ℕ, zero, suc, ◌+◌, ◌<◌, List, [], ◌∷◌, ◌++◌, length, take, get_or, Bool, true, false, nat_lt, arith}
use Rattle.std.specs.Prelude.{Option, Some, slice_get}
use Rattle.std.proofs.Math.ListN.{get_or-append}
use Rattle.std.proofs.lemmas.Bool.Decides.{nat_tests}
use Rattle.std.proofs.lemmas.List.{length_push, get_or_push}
use Rattle.std.proofs.lemmas.Option.{slice_get-get_or}
use Rattle.std.specs.declared.boxed.Box.{Box}
use Rattle.std.specs.declared.alloc.Global.{Global}
use Rattle.pc_syntax.specs.declared.expression.Expr.{Expr}
use Rattle.pc_syntax.specs.declared.statement.Stmt.{Stmt, For}
use Rattle.pc_syntax.proofs.ErasureLaws.{statement_of-For}
use Rattle.pc_syntax.specs.Source.{SourceStatement, Scope, ScalarDeclaration, ArrayDeclaration, Assignment, Printing, Evaluation}
use Rattle.pc_syntax.specs.Source.{Branch, WhileLoop, DoLoop, ForLoop, BreakOut, ContinueOn, ReturnFrom, Nothing}
use Rattle.pc_syntax.specs.Source.{OptionalStatement, Absent, Present, SourceList, No_more, More, appended}
use Rattle.pc_syntax.specs.Erasure.{list_of, optional_of, statement_of}
use Rattle.pc_check.specs.Names.{Names, no_names, entered}
use Rattle.pc_check.specs.Faults.{names_behind, names_behind_optional, names_behind_list}
use Rattle.pc_check.specs.Resolution.{resolved_statement, resolved_branch, resolved_list}
use Rattle.pc_check.proofs.Rows.{list_of-more}
use Rattle.pc_names.specs.declared.declared.DeclaredSymbols.{DeclaredSymbols}
use Rattle.pc_names.specs.Declarations.{with_declared, with_branch, with_list}
use Rattle.pc_names.specs.Laws.{AsManyAreDeclared, PlacesAreNumbers}

-- ---- of a `for`, and of one statement more

pub with_declared-for : (s : Stmt) (line : ℕ) (first : List Stmt) (test : Expr) (step : Option (Box Stmt Global)) (body : Box Stmt Global) (symbols : DeclaredSymbols)
    → s ≡ For line first test step body
    → with_declared (statement_of s) symbols ≡ with_declared (statement_of body.value) (with_branch (optional_of step) (with_list (list_of first) symbols))
unfolding with_declared
with_declared-for s line first test step body symbols is =
    ap (λ (t : SourceStatement). with_declared t symbols) (statement_of-For s line first test step body is)

with_list-appended : (items others : SourceList) (symbols : DeclaredSymbols) → with_list (appended items others) symbols ≡ with_list others (with_list items symbols)
unfolding with_declared
with_list-appended No_more others symbols = refl
with_list-appended (More first rest) others symbols = with_list-appended rest others (with_declared first symbols)

pub one_more : (items : List Stmt) (i : ℕ) (item : Stmt) (initial : DeclaredSymbols) {before after : DeclaredSymbols} → i < length items → item ≡ get_or items i item
    → before ≡ with_list (list_of (take i items)) initial → after ≡ with_declared (statement_of item) before
    → after ≡ with_list (list_of (take (i + 1) items)) initial
unfolding with_declared
one_more items i item initial below read so_far is =
    is ∙ ap (with_declared (statement_of item)) so_far
    ∙ sym (with_list-appended (list_of (take i items)) (More (statement_of item) No_more) initial)
    ∙ ap (λ (l : SourceList). with_list l initial) (sym (list_of-more items i item below read))

-- ---- as many as are numbered

-- these are as many scalars and as many arrays as are numbered so far
abbrev AreCounted : DeclaredSymbols → Names → Type 0
AreCounted symbols n = (length symbols.scalars ≡ n.scalars) × (length symbols.arrays ≡ length n.lengths)

one_more_of_both : (symbols : List ℕ) (symbol : ℕ) (lengths : List ℕ) (size : ℕ) → length symbols ≡ length lengths
    → length (symbols ++ symbol ∷ []) ≡ length (lengths ++ size ∷ [])
one_more_of_both symbols symbol lengths size same = length_push symbols symbol ∙ ap (λ (k : ℕ). k + 1) same ∙ sym (length_push lengths size)

mutual
  unfolding with_declared names_behind

  counted : (s : SourceStatement) (n : Names) (symbols : DeclaredSymbols) → AreCounted symbols n → AreCounted (with_declared s symbols) (names_behind s n)
  counted (Scope items) n symbols same = counted_list items (entered n) symbols same
  counted (ScalarDeclaration symbol line initial) n symbols same =
      (length_push symbols.scalars symbol ∙ ap (λ (k : ℕ). k + 1) same.0, same.1)
  counted (ArrayDeclaration symbol line at size values) n symbols same =
      (same.0, one_more_of_both symbols.arrays symbol n.lengths size same.1)
  counted (Assignment symbol line index bracket op at value) n symbols same = same
  counted (Printing line value) n symbols same = same
  counted (Evaluation line value) n symbols same = same
  counted (Branch line test body otherwise) n symbols same =
      counted_branch otherwise (names_behind body n) (with_declared body symbols) (counted body n symbols same)
  counted (WhileLoop line test body) n symbols same = counted body n symbols same
  counted (DoLoop line body test) n symbols same = counted body n symbols same
  counted (ForLoop line first test step body) n symbols same =
      let inside = names_behind_list first (entered n) in
      counted body (names_behind_optional step inside) (with_branch step (with_list first symbols))
      (counted_branch step inside (with_list first symbols) (counted_list first (entered n) symbols same))
  counted (BreakOut line) n symbols same = same
  counted (ContinueOn line) n symbols same = same
  counted (ReturnFrom line value) n symbols same = same
  counted Nothing n symbols same = same

  counted_branch : (s : OptionalStatement) (n : Names) (symbols : DeclaredSymbols) → AreCounted symbols n → AreCounted (with_branch s symbols) (names_behind_optional s n)
  counted_branch Absent n symbols same = same
  counted_branch (Present s) n symbols same = counted s n symbols same

  counted_list : (s : SourceList) (n : Names) (symbols : DeclaredSymbols) → AreCounted symbols n → AreCounted (with_list s symbols) (names_behind_list s n)
  counted_list No_more n symbols same = same
  counted_list (More first rest) n symbols same = counted_list rest (names_behind first n) (with_declared first symbols) (counted first n symbols same)

pub as_many : AsManyAreDeclared
as_many program = counted_list program.items no_names (record { scalars = []; arrays = [] }) (refl, refl)

-- ---- in the order of their numbers

-- the first numbers, so many of them
first_numbers : ℕ → List ℕ
first_numbers zero = []
first_numbers (suc n) = first_numbers n ++ n ∷ []

one_number : (n : ℕ) → first_numbers n ++ n ∷ [] ≡ first_numbers (n + 1)
unfolding first_numbers
one_number n = let e : suc n ≡ n + 1 = omega arith in ap first_numbers e

-- the first numbers of scalars and of arrays, as many as are numbered so far
numbers : Names → DeclaredSymbols
numbers n = record { scalars = first_numbers n.scalars; arrays = first_numbers (length n.lengths) }

mutual
  unfolding with_declared names_behind resolved_statement first_numbers numbers

  numbered : (s : SourceStatement) (n : Names) → with_declared (resolved_statement s n) (numbers n) ≡ numbers (names_behind s n)
  numbered (Scope items) n = numbered_list items (entered n)
  numbered (ScalarDeclaration symbol line initial) n = λ i. record { scalars = one_number n.scalars i; arrays = first_numbers (length n.lengths) }
  numbered (ArrayDeclaration symbol line at size values) n =
      let more = one_number (length n.lengths) ∙ ap first_numbers (sym (length_push n.lengths size)) in
      λ i. record { scalars = first_numbers n.scalars; arrays = more i }
  numbered (Assignment symbol line index bracket op at value) n = refl
  numbered (Printing line value) n = refl
  numbered (Evaluation line value) n = refl
  numbered (Branch line test body otherwise) n =
      ap (with_branch (resolved_branch otherwise (names_behind body n))) (numbered body n) ∙ numbered_branch otherwise (names_behind body n)
  numbered (WhileLoop line test body) n = numbered body n
  numbered (DoLoop line body test) n = numbered body n
  numbered (ForLoop line first test step body) n =
      let inside = names_behind_list first (entered n) in
      let later = names_behind_optional step inside in
      ap (λ (l : DeclaredSymbols). with_declared (resolved_statement body later) (with_branch (resolved_branch step inside) l)) (numbered_list first (entered n))
      ∙ ap (with_declared (resolved_statement body later)) (numbered_branch step inside)
      ∙ numbered body later
  numbered (BreakOut line) n = refl
  numbered (ContinueOn line) n = refl
  numbered (ReturnFrom line value) n = refl
  numbered Nothing n = refl

  numbered_branch : (s : OptionalStatement) (n : Names) → with_branch (resolved_branch s n) (numbers n) ≡ numbers (names_behind_optional s n)
  numbered_branch Absent n = refl
  numbered_branch (Present s) n = numbered s n

  numbered_list : (s : SourceList) (n : Names) → with_list (resolved_list s n) (numbers n) ≡ numbers (names_behind_list s n)
  numbered_list No_more n = refl
  numbered_list (More first rest) n =
      ap (with_list (resolved_list rest (names_behind first n))) (numbered first n) ∙ numbered_list rest (names_behind first n)

first_numbers-length : (n : ℕ) → length (first_numbers n) ≡ n
unfolding first_numbers
first_numbers-length zero = refl
first_numbers-length (suc n) = let e = first_numbers-length n in let p = length_push (first_numbers n) n in omega (arith, e, p)

number_at : (n place : ℕ) → place < n → get_or (first_numbers n) place 0 ≡ place
unfolding first_numbers
number_at zero place below = absurd (omega arith)
number_at (suc n) place below = by (nat_lt place n) refl (number_at n place)
  where
    size : length (first_numbers n) ≡ n
    size = first_numbers-length n

    by : (t : Bool) → nat_lt place n ≡ t → (place < n → get_or (first_numbers n) place 0 ≡ place) → get_or (first_numbers n ++ n ∷ []) place 0 ≡ place
    by true e earlier =
        let less : place < n = grind (arith, nat_tests) in
        get_or-append (first_numbers n) (n ∷ []) 0 place (omega (arith, less, size)) ∙ earlier less
    by false e earlier =
        let same : n ≡ place = grind (arith, nat_tests) in
        get_or_push (first_numbers n) n 0 place (size ∙ same) ∙ same

number_found : (n place : ℕ) → place < n → slice_get (first_numbers n) place ≡ Some place
number_found n place below =
    let size = first_numbers-length n in
    slice_get-get_or (first_numbers n) place 0 (omega (arith, size, below)) ∙ ap Some (number_at n place below)

pub places : PlacesAreNumbers
unfolding numbers first_numbers
places program place =
    let n = names_behind_list program.items no_names in
    let all = numbered_list program.items no_names in (
      (λ below. ap (λ (l : DeclaredSymbols). slice_get l.scalars place) all ∙ number_found n.scalars place below),
      (λ below. ap (λ (l : DeclaredSymbols). slice_get l.arrays place) all ∙ number_found (length n.lengths) place below),
    )
