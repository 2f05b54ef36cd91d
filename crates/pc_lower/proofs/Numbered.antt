-- Loops that are marked: those of a construct's parts, and a loop itself.
use Rattle.std.proofs.Common.{◌≡◌, ℕ, ◌+◌, List, [], ◌∷◌, ◌++◌, length, Option, Some, refl, sym, ◌∙◌, ap, subst, append-nil, append_assoc, arith}
use Rattle.std.specs.Prelude.{slice_get, option_map}
use Rattle.std.proofs.lemmas.List.{length-append}
use Rattle.std.proofs.lemmas.Option.{slice_get-map}
use Rattle.pc_word.specs.declared.loop_mark.LoopMark.{LoopMark}
use Rattle.pc_word.proofs.Places.{get_front, get_last}
use Rattle.pc_syntax.specs.Source.{SourceExpression, SourceStatement, Scope, ScalarDeclaration, ArrayDeclaration, Assignment, Printing, Evaluation, Branch, WhileLoop}
use Rattle.pc_syntax.specs.Source.{DoLoop, ForLoop, BreakOut, ContinueOn, ReturnFrom, Nothing, OptionalStatement, Absent, Present, SourceList, No_more, More}
use Rattle.pc_flow.specs.FlowGraph.{FlowGraph}
use Rattle.pc_lower.specs.Lowers.{IsLoop}
use Rattle.pc_lower.specs.SourceLoops.{SourceLoop, source_loop, source_loops, with_loop, with_loops, with_branch_loops, with_list_loops, loop_count, branch_loops, list_loops}
use Rattle.pc_lower.specs.models.LowersStatement.{HasHeader, AreMarked}

-- ---- loops that are added

-- so many loops are added after others
pub record Adds (old new : List SourceLoop) (many : ℕ) : Type 0 where
  pub more : List SourceLoop
  pub is : new ≡ old ++ more
  pub many_more : length more ≡ many

adds_none : (loops : List SourceLoop) → Adds loops loops 0
adds_none loops = record { more = []; is = sym (append-nil loops); many_more = refl }

adds_loop : (line : ℕ) (outer : Option ℕ) (loops : List SourceLoop) → Adds loops (with_loop line outer loops) 1
adds_loop line outer loops = record { more = record { line = line; outer = outer } ∷ []; is = refl; many_more = refl }

-- one after the other
adds_both : {a b c : List SourceLoop} {n m : ℕ} (total : ℕ) → Adds a b n → Adds b c m → n + m ≡ total → Adds a c total
adds_both {a} total f g sum =
    let both = length-append f.more g.more in
    let first = f.many_more in
    let second = g.many_more in
    record {
      more = f.more ++ g.more;
      is = g.is ∙ ap (λ (l : List SourceLoop). l ++ g.more) f.is ∙ append_assoc a f.more g.more;
      many_more = omega (arith, both, first, second, sum);
    }

mutual
  unfolding with_loops loop_count

  -- a statement adds its loops
  pub adds_loops : (s : SourceStatement) (outer : Option ℕ) (loops : List SourceLoop) → Adds loops (with_loops s outer loops) (loop_count s)
  adds_loops (Scope items) outer loops = adds_list_loops items outer loops
  adds_loops (ScalarDeclaration name line initial) outer loops = adds_none loops
  adds_loops (ArrayDeclaration name line at size values) outer loops = adds_none loops
  adds_loops (Assignment name line index bracket op at value) outer loops = adds_none loops
  adds_loops (Printing line value) outer loops = adds_none loops
  adds_loops (Evaluation line value) outer loops = adds_none loops
  adds_loops (Branch line test body otherwise) outer loops =
      adds_both _ (adds_loops body outer loops) (adds_branch_loops otherwise outer (with_loops body outer loops)) refl
  adds_loops (WhileLoop line test body) outer loops =
      adds_both _ (adds_loop line outer loops) (adds_loops body (Some (length loops)) (with_loop line outer loops)) (omega arith)
  adds_loops (DoLoop line body test) outer loops =
      adds_both _ (adds_loop line outer loops) (adds_loops body (Some (length loops)) (with_loop line outer loops)) (omega arith)
  adds_loops (ForLoop line first test step body) outer loops =
      let before = adds_both (1 + list_loops first) (adds_loop line outer loops) (adds_list_loops first outer (with_loop line outer loops)) refl in
      let turn = adds_branch_loops step (Some (length loops)) (with_list_loops first outer (with_loop line outer loops)) in
      let inner = adds_loops body (Some (length loops)) (with_branch_loops step (Some (length loops)) (with_list_loops first outer (with_loop line outer loops))) in
      adds_both _ (adds_both (1 + list_loops first + branch_loops step) before turn refl) inner (omega arith)
  adds_loops (BreakOut line) outer loops = adds_none loops
  adds_loops (ContinueOn line) outer loops = adds_none loops
  adds_loops (ReturnFrom line value) outer loops = adds_none loops
  adds_loops Nothing outer loops = adds_none loops

  pub adds_branch_loops : (o : OptionalStatement) (outer : Option ℕ) (loops : List SourceLoop) → Adds loops (with_branch_loops o outer loops) (branch_loops o)
  adds_branch_loops Absent outer loops = adds_none loops
  adds_branch_loops (Present s) outer loops = adds_loops s outer loops

  pub adds_list_loops : (items : SourceList) (outer : Option ℕ) (loops : List SourceLoop) → Adds loops (with_list_loops items outer loops) (list_loops items)
  adds_list_loops No_more outer loops = adds_none loops
  adds_list_loops (More first rest) outer loops =
      adds_both _ (adds_loops first outer loops) (adds_list_loops rest outer (with_loops first outer loops)) refl

-- so there are as many as before, and its own
pub loops_counted : (items : SourceList) (outer : Option ℕ) (loops : List SourceLoop)
    → length (with_list_loops items outer loops) ≡ length loops + list_loops items
loops_counted items outer loops =
    let adds = adds_list_loops items outer loops in
    let many = adds.many_more in
    let whole = ap (λ (l : List SourceLoop). length l) adds.is ∙ length-append loops adds.more in
    omega (arith, many, whole)

-- ---- marks of parts

-- two functions that add loops, one after the other
module _ {flow : FlowGraph} {k : ℕ} (first second : List SourceLoop → List SourceLoop) {n : ℕ} (marked : AreMarked flow k (λ before. second (first before))) where
  -- the loops of the first are marked
  pub marked_first : ((loops : List SourceLoop) → Adds loops (second loops) n) → AreMarked flow k first
  marked_first adds =
      let more = adds (first marked.before) in
      record {
        before = marked.before;
        rest = more.more ++ marked.rest;
        number_is = marked.number_is;
        marks = marked.marks ∙ ap (λ (l : List SourceLoop). l ++ marked.rest) more.is ∙ append_assoc (first marked.before) more.more marked.rest;
      }

  -- and so are those of the second
  pub marked_second : ((loops : List SourceLoop) → Adds loops (first loops) n) → AreMarked flow (k + n) second
  marked_second adds =
      let more = adds marked.before in
      let many = more.many_more in
      let number = marked.number_is in
      let whole = ap (λ (l : List SourceLoop). length l) more.is ∙ length-append marked.before more.more in
      record { before = first marked.before; rest = marked.rest; number_is = omega (arith, whole, many, number); marks = marked.marks }

-- a loop before the loops in it
module _ {flow : FlowGraph} {k : ℕ} (line : ℕ) (outer : Option ℕ) (inner : List SourceLoop → List SourceLoop) {n : ℕ}
    (marked : AreMarked flow k (λ before. inner (with_loop line outer before))) (adds : (loops : List SourceLoop) → Adds loops (inner loops) n) where
  -- the loops in it are marked
  pub marked_inner : AreMarked flow (k + 1) inner
  marked_inner = marked_second (with_loop line outer) inner marked (adds_loop line outer)

  -- and so is the loop itself
  pub marked_loop : {header : ℕ} → HasHeader flow k header → IsLoop flow k line header outer
  marked_loop {header} has =
      let here : AreMarked flow k (with_loop line outer) = marked_first (with_loop line outer) inner marked adds in
      let loop : SourceLoop = record { line = line; outer = outer } in
      let read : slice_get (source_loops flow.loops) (length here.before) ≡ Some loop =
      ap (λ (l : List SourceLoop). slice_get l (length here.before)) here.marks
      ∙ get_front (with_loop line outer here.before) here.rest (length here.before) loop (get_last here.before loop) in
      let at : slice_get (source_loops flow.loops) k ≡ Some loop =
      subst (λ (i : ℕ). slice_get (source_loops flow.loops) i ≡ Some loop) here.number_is read in
      let same : Some (source_loop has.mark) ≡ Some loop = ap (option_map source_loop) (sym has.marked) ∙ sym (slice_get-map source_loop flow.loops k) ∙ at in
      has.marked ∙ as_mark has.mark loop header same has.header
    where
      as_mark : (mark : LoopMark) (loop : SourceLoop) (header : ℕ) → ◌≡◌ {A = Option SourceLoop} (Some (source_loop mark)) (Some loop) → mark.header ≡ header
          → ◌≡◌ {A = Option LoopMark} (Some mark) (Some (record { line = loop.line; header = header; outer = loop.outer }))
      as_mark mark loop header e h =
          let same : source_loop mark ≡ loop = cc in
          ap (λ (l : SourceLoop). let made : LoopMark = record { line = l.line; header = mark.header; outer = l.outer } in Some made) same
          ∙ ap (λ (n : ℕ). let made : LoopMark = record { line = loop.line; header = n; outer = loop.outer } in Some made) h

-- ---- loops

pub while_marked : {flow : FlowGraph} {k : ℕ} (line : ℕ) (x : SourceExpression) (s : SourceStatement) (outer : Option ℕ)
    → AreMarked flow k (with_loops (WhileLoop line x s) outer) → AreMarked flow k (λ before. with_loops s (Some k) (with_loop line outer before))
unfolding with_loops
while_marked {flow} line x s outer h = record {
  before = h.before;
  rest = h.rest;
  number_is = h.number_is;
  marks = subst (λ (n : ℕ). source_loops flow.loops ≡ with_loops s (Some n) (with_loop line outer h.before) ++ h.rest) h.number_is h.marks;
}

pub do_marked : {flow : FlowGraph} {k : ℕ} (line : ℕ) (x : SourceExpression) (s : SourceStatement) (outer : Option ℕ)
    → AreMarked flow k (with_loops (DoLoop line s x) outer) → AreMarked flow k (λ before. with_loops s (Some k) (with_loop line outer before))
unfolding with_loops
do_marked {flow} line x s outer h = record {
  before = h.before;
  rest = h.rest;
  number_is = h.number_is;
  marks = subst (λ (n : ℕ). source_loops flow.loops ≡ with_loops s (Some n) (with_loop line outer h.before) ++ h.rest) h.number_is h.marks;
}

-- the loops of a `for` after itself, where its number is known
abbrev pub within_for : (own : ℕ) → SourceList → OptionalStatement → SourceStatement → Option ℕ → List SourceLoop → List SourceLoop
within_for own f o s outer loops = with_loops s (Some own) (with_branch_loops o (Some own) (with_list_loops f outer loops))

pub for_marked : {flow : FlowGraph} {k : ℕ} (line : ℕ) (f : SourceList) (x : SourceExpression) (o : OptionalStatement) (s : SourceStatement) (outer : Option ℕ)
    → AreMarked flow k (with_loops (ForLoop line f x o s) outer) → AreMarked flow k (λ before. within_for k f o s outer (with_loop line outer before))
unfolding with_loops
for_marked {flow} line f x o s outer h = record {
  before = h.before;
  rest = h.rest;
  number_is = h.number_is;
  marks = subst (λ (n : ℕ). source_loops flow.loops ≡ within_for n f o s outer (with_loop line outer h.before) ++ h.rest) h.number_is h.marks;
}

-- the step and the body add theirs
pub adds_round : (own : ℕ) (o : OptionalStatement) (s : SourceStatement) (loops : List SourceLoop)
    → Adds loops (with_loops s (Some own) (with_branch_loops o (Some own) loops)) (branch_loops o + loop_count s)
adds_round own o s loops = adds_both _ (adds_branch_loops o (Some own) loops) (adds_loops s (Some own) (with_branch_loops o (Some own) loops)) refl

-- and with the first part they are all
pub adds_within_for : (own : ℕ) (f : SourceList) (o : OptionalStatement) (s : SourceStatement) (outer : Option ℕ) (loops : List SourceLoop)
    → Adds loops (within_for own f o s outer loops) (list_loops f + (branch_loops o + loop_count s))
adds_within_for own f o s outer loops =
    adds_both _ (adds_list_loops f outer loops) (adds_round own o s (with_list_loops f outer loops)) refl
