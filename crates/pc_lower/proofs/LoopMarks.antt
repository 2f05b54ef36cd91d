-- The marks of loops, in the order of their keywords.
use Rattle.std.proofs.Math.Numerals.{add-one}
use Rattle.std.proofs.Common.{◌≡◌, ℕ, zero, suc, ◌+◌, ◌<◌, ◌≤◌, inl, inr, List, [], ◌∷◌, ◌++◌, length, drop, get_or, Option, Some, None, refl, sym, ◌∙◌, ap, subst, arith}
use Rattle.std.specs.Prelude.{IfSome, slice_get, option_map}
use Rattle.std.proofs.lemmas.List.{length-map, length-append, map-append}
use Rattle.std.proofs.lemmas.Option.{slice_get-map}
use Rattle.std.proofs.Math.Seq.{drop-cons}
use Rattle.std.proofs.Math.ListN.{set}
use Rattle.pc_word.specs.declared.loop_mark.LoopMark.{LoopMark}
use Rattle.pc_syntax.specs.declared.statement.Stmt.{Stmt}
use Rattle.pc_syntax.specs.Source.{SourceExpression, SourceStatement, Scope, ScalarDeclaration, ArrayDeclaration, Assignment, Printing, Evaluation, Branch, WhileLoop}
use Rattle.pc_syntax.specs.Source.{DoLoop, ForLoop, BreakOut, ContinueOn, ReturnFrom, Nothing, OptionalStatement, Absent, Present, SourceList, No_more, More}
use Rattle.pc_syntax.specs.Erasure.{statement_of, list_of}
use Rattle.pc_syntax.proofs.ErasureLaws.{statement_forms}
use Rattle.pc_lower.specs.SourceLoops.{SourceLoop, source_loop, source_loops, with_loop, with_loops, with_branch_loops, with_list_loops, loop_count, list_loops}
use Rattle.pc_lower.proofs.Weights.{statement_weight, list_weight}
use Rattle.pc_lower.specs.models.Drafts.{with_header}
use Rattle.pc_word.proofs.Places.{get_more}

-- ---- one more mark

-- there are as many loops as marks
pub as_many_marks : (marks : List LoopMark) → length (source_loops marks) ≡ length marks
as_many_marks marks = length-map marks source_loop

-- one more mark is one more loop
pub one_more_mark : (marks : List LoopMark) (mark : LoopMark) → source_loops (marks ++ mark ∷ []) ≡ with_loop mark.line mark.outer (source_loops marks)
one_more_mark marks mark = map-append source_loop marks (mark ∷ [])

-- and adds one
pub length_more : (marks : List LoopMark) (mark : LoopMark) → length (marks ++ mark ∷ []) ≡ length marks + 1
length_more marks mark = length-append marks (mark ∷ [])

pub ruleset marks = (as_many_marks, one_more_mark, length_more)

pub ruleset statements = (statement_forms, as_many_marks)

-- ---- `for`

-- the loops of a `for` are itself and those of its parts
pub marked_for : (old one two three : List LoopMark) (line : ℕ) (f : SourceList) (x : SourceExpression) (o : OptionalStatement) (s : SourceStatement) (outer : Option ℕ) (own : ℕ)
    → own ≡ length (source_loops old) → source_loops one ≡ with_loop line outer (source_loops old) → source_loops two ≡ with_list_loops f outer (source_loops one)
    → source_loops three ≡ with_branch_loops o (Some own) (source_loops two)
    → with_loops (ForLoop line f x o s) outer (source_loops old) ≡ with_loops s (Some own) (source_loops three)
unfolding with_loops
marked_for old one two three line f x o s outer own number first second third = rw (third, second, first, number)

-- ---- statements in order

-- the statement at a place, and those after it
pub statements_from : (items : List Stmt) (i : ℕ) (item : Stmt) → i < length items → item ≡ get_or items i item
    → list_of (drop i items) ≡ More (statement_of item) (list_of (drop (suc i) items))
unfolding list_of
statements_from items i item below read = ap list_of (drop-cons items i item below ∙ ap (λ (x : Stmt). x ∷ drop (suc i) items) (sym read))

-- those from a place on weigh no more than all
weights_from : (items : List Stmt) (i : ℕ) → list_weight (list_of (drop i items)) ≤ list_weight (list_of items)
unfolding list_of
weights_from items zero = omega arith
weights_from [] (suc i) = omega arith
weights_from (first ∷ others) (suc i) = let rest = weights_from others i in omega (arith, rest)

-- nothing is left after all
drop_past : (items : List Stmt) (i : ℕ) → length items ≤ i → drop i items ≡ []
drop_past [] zero past = refl
drop_past [] (suc i) past = refl
drop_past (first ∷ others) zero past = absurd (omega arith)
drop_past (first ∷ others) (suc i) past = drop_past others i (omega arith)

-- the statements before a place were marked
pub record Marked (items : List Stmt) (outer : Option ℕ) (old new : List LoopMark) (i : ℕ) : Type 0 where
  pub loops : with_list_loops (list_of (drop i items)) outer (source_loops new) ≡ with_list_loops (list_of items) outer (source_loops old)
  pub counted : length new + list_loops (list_of (drop i items)) ≡ length old + list_loops (list_of items)

module _ {items : List Stmt} {outer : Option ℕ} {old mid : List LoopMark} {i : ℕ} (item : Stmt) (so_far : Marked items outer old mid i)
    (below : i < length items) (read : item ≡ get_or items i item) where
  -- one more
  pub marked_more : {new : List LoopMark} → source_loops new ≡ with_loops (statement_of item) outer (source_loops mid) → length new ≡ length mid + loop_count (statement_of item)
      → Marked items outer old new (i + 1)
  unfolding with_loops loop_count
  marked_more {new} marked counted =
      let there = statements_from items i item below read in
      let loops = sym (ap (λ (l : SourceList). with_list_loops l outer (source_loops mid)) there) ∙ so_far.loops in
      let count = ap list_loops there in
      let before = so_far.counted in
      record {
        loops = rw add-one (ap (λ (l : List SourceLoop). with_list_loops (list_of (drop (suc i) items)) outer l) marked ∙ loops);
        counted = rw add-one (omega (arith, count, before, counted));
      }

  -- and there is room for it
  pub marked_room : (most : ℕ) → length old + list_loops (list_of items) ≤ most → length mid + loop_count (statement_of item) ≤ most
  unfolding loop_count
  marked_room most fits =
      let count = ap list_loops (statements_from items i item below read) in
      let before = so_far.counted in
      omega (arith, count, before, fits)

  -- it is a part of all
  pub marked_lighter : statement_weight (statement_of item) < list_weight (list_of items)
  marked_lighter = let part = weights_from items i in let here = ap list_weight (statements_from items i item below read) in omega (arith, part, here)

-- all were marked
pub marked_all : {items : List Stmt} {outer : Option ℕ} {old new : List LoopMark} {i : ℕ} → Marked items outer old new i → length items ≤ i
    → (source_loops new ≡ with_list_loops (list_of items) outer (source_loops old)) × (length new ≡ length old + list_loops (list_of items))
unfolding list_of with_loops loop_count
marked_all {items} {outer} {old} {new} {i} all past =
    let none = ap list_of (drop_past items i past) in
    let loops = ap (λ (l : SourceList). with_list_loops l outer (source_loops new)) none in
    let count = ap list_loops none in
    let counted = all.counted in
    (sym loops ∙ all.loops, omega (arith, count, counted))

-- ---- the loop round a loop has a smaller number

-- of each loop
abbrev pub OuterFirst : List SourceLoop → Type 0
OuterFirst loops = (i : ℕ) (loop : SourceLoop) → slice_get loops i ≡ Some loop → IfSome loop.outer (λ outer. outer < i)

-- loops after others, of which the loop round each has a smaller number
pub record Ordered (old new : List SourceLoop) : Type 0 where
  pub longer : length old ≤ length new
  pub first : OuterFirst new

-- one more loop
loop-ordered : (line : ℕ) (outer : Option ℕ) (loops : List SourceLoop) → OuterFirst loops → IfSome outer (λ o. o < length loops)
    → Ordered loops (with_loop line outer loops)
loop-ordered line outer loops h inside =
    let new : SourceLoop = record { line = line; outer = outer } in
    let more = length-append loops (new ∷ []) in
    record {
      longer = omega (arith, more);
      first = λ i loop at. elim (get_more loops new i loop at) [
        | inl before ↦ h i loop before
        | inr last ↦ subst (λ (n : ℕ). IfSome loop.outer (λ o. o < n)) (sym last.0) (subst (λ (l : SourceLoop). IfSome l.outer (λ o. o < length loops)) last.1 inside)
      ];
    }

-- the loop is within
loop-within : (line : ℕ) (outer : Option ℕ) (loops : List SourceLoop) → length loops < length (with_loop line outer loops)
loop-within line outer loops =
    let new : SourceLoop = record { line = line; outer = outer } in
    let more = length-append loops (new ∷ []) in omega (arith, more)

-- what holds of a number that there is or none
pub if_some : (o : Option ℕ) {P Q : ℕ → Type 0} → ((x : ℕ) → P x → Q x) → IfSome o P → IfSome o Q
if_some None f h = tt
if_some (Some x) f h = f x h

later : (outer : Option ℕ) {a b : ℕ} → a ≤ b → IfSome outer (λ o. o < a) → IfSome outer (λ o. o < b)
later outer le h = if_some outer (λ x lt. omega (arith, lt, le)) h

mutual
  unfolding with_loops

  ordered : (s : SourceStatement) (outer : Option ℕ) (loops : List SourceLoop) → OuterFirst loops → IfSome outer (λ o. o < length loops)
      → Ordered loops (with_loops s outer loops)
  ordered (Scope items) outer loops h inside = list-ordered items outer loops h inside
  ordered (ScalarDeclaration name line initial) outer loops h inside = record { longer = omega arith; first = h }
  ordered (ArrayDeclaration name line at size values) outer loops h inside = record { longer = omega arith; first = h }
  ordered (Assignment name line index bracket op at value) outer loops h inside = record { longer = omega arith; first = h }
  ordered (Printing line value) outer loops h inside = record { longer = omega arith; first = h }
  ordered (Evaluation line value) outer loops h inside = record { longer = omega arith; first = h }
  ordered (Branch line test body otherwise) outer loops h inside =
      let b = ordered body outer loops h inside in
      let l = b.longer in
      let o = branch-ordered otherwise outer (with_loops body outer loops) b.first (later outer l inside) in
      let m = o.longer in
      record { longer = omega (arith, l, m); first = o.first }
  ordered (WhileLoop line test body) outer loops h inside =
      let n = loop-ordered line outer loops h inside in
      let b = ordered body (Some (length loops)) (with_loop line outer loops) n.first (loop-within line outer loops) in
      let l = n.longer in
      let m = b.longer in
      record { longer = omega (arith, l, m); first = b.first }
  ordered (DoLoop line body test) outer loops h inside =
      let n = loop-ordered line outer loops h inside in
      let b = ordered body (Some (length loops)) (with_loop line outer loops) n.first (loop-within line outer loops) in
      let l = n.longer in
      let m = b.longer in
      record { longer = omega (arith, l, m); first = b.first }
  ordered (ForLoop line first test step body) outer loops h inside =
      let n = loop-ordered line outer loops h inside in
      let l = n.longer in
      let w = loop-within line outer loops in
      let f = list-ordered first outer (with_loop line outer loops) n.first (later outer l inside) in
      let k = f.longer in
      let s = branch-ordered step (Some (length loops)) (with_list_loops first outer (with_loop line outer loops)) f.first (omega (arith, w, k)) in
      let j = s.longer in
      let b = ordered body (Some (length loops)) (with_branch_loops step (Some (length loops)) (with_list_loops first outer (with_loop line outer loops))) s.first
      (omega (arith, w, k, j)) in
      let m = b.longer in
      record { longer = omega (arith, l, k, j, m); first = b.first }
  ordered (BreakOut line) outer loops h inside = record { longer = omega arith; first = h }
  ordered (ContinueOn line) outer loops h inside = record { longer = omega arith; first = h }
  ordered (ReturnFrom line value) outer loops h inside = record { longer = omega arith; first = h }
  ordered Nothing outer loops h inside = record { longer = omega arith; first = h }

  branch-ordered : (o : OptionalStatement) (outer : Option ℕ) (loops : List SourceLoop) → OuterFirst loops → IfSome outer (λ o. o < length loops)
      → Ordered loops (with_branch_loops o outer loops)
  branch-ordered Absent outer loops h inside = record { longer = omega arith; first = h }
  branch-ordered (Present s) outer loops h inside = ordered s outer loops h inside

  list-ordered : (items : SourceList) (outer : Option ℕ) (loops : List SourceLoop) → OuterFirst loops → IfSome outer (λ o. o < length loops)
      → Ordered loops (with_list_loops items outer loops)
  list-ordered No_more outer loops h inside = record { longer = omega arith; first = h }
  list-ordered (More first rest) outer loops h inside =
      let f = ordered first outer loops h inside in
      let l = f.longer in
      let r = list-ordered rest outer (with_loops first outer loops) f.first (later outer l inside) in
      let m = r.longer in
      record { longer = omega (arith, l, m); first = r.first }

-- the loop round a loop has a smaller number in the marks of all
abbrev pub MarksOuterFirst : List LoopMark → Type 0
MarksOuterFirst marks = (i : ℕ) (mark : LoopMark) → slice_get marks i ≡ Some mark → IfSome mark.outer (λ outer. outer < i)

-- what holds of the loops holds of their marks
marks_as_loops : (marks : List LoopMark) → OuterFirst (source_loops marks) → MarksOuterFirst marks
marks_as_loops marks h i mark at = h i (source_loop mark) (slice_get-map source_loop marks i ∙ ap (option_map source_loop) at)

-- the marks of a program
pub marks_of_program : (marks : List LoopMark) (items : SourceList) → source_loops marks ≡ with_list_loops items None [] → MarksOuterFirst marks
marks_of_program marks items e =
    let none : OuterFirst [] = λ i loop at. absurd (cc) in
    marks_as_loops marks (subst OuterFirst (sym e) (list-ordered items None [] none tt).first)

-- ---- the header of a loop

-- the loops stay
pub loops_with_header : (marks : List LoopMark) (number header : ℕ) → source_loops (with_header marks number header) ≡ source_loops marks
loops_with_header [] number header = refl
loops_with_header (mark ∷ marks) zero header = refl
loops_with_header (mark ∷ marks) (suc number) header = ap (λ (loops : List SourceLoop). source_loop mark ∷ loops) (loops_with_header marks number header)

-- as many
pub header_length : (marks : List LoopMark) (number header : ℕ) → length (with_header marks number header) ≡ length marks
header_length [] number header = refl
header_length (mark ∷ marks) zero header = refl
header_length (mark ∷ marks) (suc number) header = ap suc (header_length marks number header)

-- the loop round each stays
pub header_outer : (marks : List LoopMark) (number header i : ℕ) (mark : LoopMark) → slice_get (with_header marks number header) i ≡ Some mark
    → (old : LoopMark) × (slice_get marks i ≡ Some old) × (old.outer ≡ mark.outer)
header_outer [] number header i mark e = absurd (cc)
header_outer (old ∷ marks) zero header zero mark e =
    let same : record old { header = header } ≡ mark = (cc) in (old, refl, ap (λ (m : LoopMark). m.outer) same)
header_outer (old ∷ marks) zero header (suc i) mark e = (mark, e, refl)
header_outer (old ∷ marks) (suc number) header zero mark e = let same : old ≡ mark = (cc) in (old, refl, ap (λ (m : LoopMark). m.outer) same)
header_outer (old ∷ marks) (suc number) header (suc i) mark e = header_outer marks number header i mark e

-- the mark of that loop has the header
pub header_there : (marks : List LoopMark) (number header : ℕ) → number < length marks
    → (mark : LoopMark) × (slice_get (with_header marks number header) number ≡ Some mark) × (mark.header ≡ header)
header_there [] number header lt = absurd (omega arith)
header_there (mark ∷ marks) zero header lt = (record mark { header = header }, refl, refl)
header_there (mark ∷ marks) (suc number) header lt = header_there marks number header (omega arith)

-- and the mark of another stays
pub header_elsewhere : (marks : List LoopMark) (number header i : ℕ) → (i ≡ number → ⊥)
    → slice_get (with_header marks number header) i ≡ slice_get marks i
header_elsewhere [] number header i other = refl
header_elsewhere (mark ∷ marks) zero header zero other = absurd (other refl)
header_elsewhere (mark ∷ marks) zero header (suc i) other = refl
header_elsewhere (mark ∷ marks) (suc number) header zero other = refl
header_elsewhere (mark ∷ marks) (suc number) header (suc i) other = header_elsewhere marks number header i (λ e. other (ap suc e))

-- a mark with another header, put back in its place
pub header_put_at : (marks : List LoopMark) (number header : ℕ) (d : LoopMark) → number < length marks
    → set marks number (record { line = (get_or marks number d).line; header = header; outer = (get_or marks number d).outer }) ≡ with_header marks number header
header_put_at [] number header d lt = absurd (omega arith)
header_put_at (mark ∷ marks) zero header d lt = refl
header_put_at (mark ∷ marks) (suc number) header d lt = ap (λ (rest : List LoopMark). mark ∷ rest) (header_put_at marks number header d (omega arith))
