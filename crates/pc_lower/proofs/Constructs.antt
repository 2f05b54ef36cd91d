-- Statements that are lowered part by part: what each part may take for granted, and what the parts together give.
use Rattle.std.proofs.Common.{◌≡◌, ℕ, zero, suc, ◌+◌, ◌<◌, ◌≤◌, true, ◌&&◌, List, [], ◌∷◌, length, drop, get_or, Option, Some, None, refl, sym, ◌∙◌, ap, subst, arith}
use Rattle.std.specs.Prelude.{nat_le}
use Rattle.std.proofs.Math.Seq.{drop-cons, drop-length}
use Rattle.pc_word.specs.SourceLimits.{most_scalars, most_temporaries}
use Rattle.pc_word.proofs.Truth.{and_true}
use Rattle.std.proofs.lemmas.Bool.Decides.{nat_tests}
use Rattle.pc_syntax.specs.declared.statement.Stmt.{Stmt}
use Rattle.pc_syntax.specs.declared.operator.BinaryOp.{BinaryOp}
use Rattle.pc_syntax.specs.declared.constant.Const.{Const}
use Rattle.pc_syntax.specs.Source.{SourceExpression, SourceStatement, Scope, ScalarDeclaration, ArrayDeclaration, Assignment, Printing, Evaluation}
use Rattle.pc_syntax.specs.Source.{Branch, WhileLoop, DoLoop, ForLoop, BreakOut, ContinueOn, ReturnFrom, Nothing, OptionalStatement, Absent, Present}
use Rattle.pc_syntax.specs.Source.{SourceList, No_more, More}
use Rattle.pc_syntax.specs.Erasure.{statement_of, list_of}
use Rattle.pc_check.specs.Needs.{need}
use Rattle.pc_check.specs.Sizes.{expression_size, optional_size, target_size, statement_size, branch_size, list_size}
use Rattle.pc_check.specs.Sound.{has_slots, is_measured, is_sound, branch_is_sound, list_is_sound}
use Rattle.pc_flow.specs.FlowGraph.{FlowGraph}
use Rattle.pc_word.specs.declared.item.Item.TheVariants.{Print}
use Rattle.pc_lower.specs.Lowers.{held, Does, Gives, Begins, Assigns, Declares}
use Rattle.pc_lower.specs.declared.spot.Spot.{Spot}
use Rattle.pc_lower.specs.declared.spot.Laid.{Laid}
use Rattle.pc_lower.specs.models.Drafts.{Draft, IsPlaced}
use Rattle.pc_lower.specs.models.Fills.{IsOwn, Lays, LaysLoops}
use Rattle.pc_lower.specs.models.LowersExpression.{IsHeld}
use Rattle.pc_lower.specs.SourceLoops.{with_loops, with_list_loops, loop_count, branch_loops, list_loops}
use Rattle.pc_lower.specs.models.LowersStatement.{IsSpot, AreTested, LaysList}
use Rattle.pc_lower.specs.models.LowersStatement.{StatementNodes, OptionalNodes, ListNodes}
use Rattle.pc_lower.proofs.Weights.{statement_weight, list_weight}
use Rattle.pc_lower.proofs.Fills.{lays_as, lays_more}
use Rattle.pc_lower.proofs.Spots.{lays_nothing, spot_before}
use Rattle.pc_lower.proofs.Compounds.{lays_numbered}
use Rattle.pc_lower.proofs.Numbered.{adds_loops, adds_list_loops, marked_first, marked_second}
use Rattle.pc_lower.proofs.Tested.{tested_none, tested_both, all_still}

-- ---- parts in general

le_of : (a b : ℕ) → nat_le a b ≡ true → a ≤ b
le_of a b is = grind (arith, nat_tests)

-- an expression that is measured by itself
pub held_of : {arrays : List ℕ} (x : SourceExpression) → is_measured most_scalars (length arrays) x ≡ true → IsHeld arrays x 0
held_of {arrays} x is =
    let both = and_true (nat_le (need x) most_temporaries) (has_slots most_scalars (length arrays) x) is in
    let few = le_of (need x) most_temporaries both.0 in
    record { slots = both.1; temporaries = omega (arith, few) }

-- an assignment has a node
pub target_some : (index : Option SourceExpression) (op : Option BinaryOp) → 1 ≤ target_size index op
target_some None op = omega arith
target_some (Some index) None = omega arith
target_some (Some index) (Some op) = omega arith

-- ---- each statement, by what was laid of its parts

-- no node tells the line of an assignment's name
any_line : (flow : FlowGraph) (inside : Option ℕ) (name line : ℕ) (index : Option SourceExpression) (bracket : ℕ) (op : Option BinaryOp) (at : ℕ) (value : SourceExpression)
    (p q : ℕ) → Assigns flow inside name 0 index bracket op at value p q → Assigns flow inside name line index bracket op at value p q
any_line flow inside name line None bracket None at value p q h = h
any_line flow inside name line None bracket (Some op) at value p q h = h
any_line flow inside name line (Some index) bracket None at value p q h = h
any_line flow inside name line (Some index) bracket (Some op) at value p q h = h

module _ {a b : Draft} {start to : ℕ} {inside : Option ℕ} {ends : ℕ} (b' c' r p q : ℕ) where
  pub lays_scope : (items : SourceList) → LaysLoops a b (list_size items) start to (IsOwn (list_loops items) ends) (ListNodes items inside ends start to b' c' r p q)
      → LaysLoops a b (statement_size (Scope items)) start to (IsOwn (loop_count (Scope items)) ends) (StatementNodes (Scope items) inside ends start to b' c' r p q)
  unfolding statement_size loop_count with_loops
  lays_scope items l = lays_as (list_size items) (StatementNodes (Scope items) inside ends start to b' c' r p q) l refl (λ flow h. record { is = h.is })

  pub lays_evaluation : (line : ℕ) (value : SourceExpression)
      → Lays a b (expression_size value) start to (λ flow. Begins (expression_size value) p start to × Gives flow inside value 0 p q)
      → LaysLoops a b (statement_size (Evaluation line value)) start to (IsOwn (loop_count (Evaluation line value)) ends)
      (StatementNodes (Evaluation line value) inside ends start to b' c' r p q)
  unfolding statement_size
  lays_evaluation line value l =
      lays_as (expression_size value) (StatementNodes (Evaluation line value) inside ends start to b' c' r p q) (lays_more l) refl
      (λ flow h. record { is = λ k n marked. (h.0, h.1) })

  pub lays_return : (line : ℕ) (value : SourceExpression)
      → Lays a b (expression_size value) start to (λ flow. Begins (expression_size value) p start to × Gives flow inside value 0 p r)
      → LaysLoops a b (statement_size (ReturnFrom line value)) start to (IsOwn (loop_count (ReturnFrom line value)) ends)
      (StatementNodes (ReturnFrom line value) inside ends start to b' c' r p q)
  unfolding statement_size
  lays_return line value l =
      lays_as (expression_size value) (StatementNodes (ReturnFrom line value) inside ends start to b' c' r p q) (lays_more l) refl
      (λ flow h. record { is = λ k n marked. (h.0, h.1) })

  pub lays_branch_of : (line : ℕ) (x : SourceExpression) (s : SourceStatement) (o : OptionalStatement)
      → LaysLoops a b (expression_size x + statement_size s + branch_size o + 1) start to (IsOwn (loop_count s + branch_loops o) ends)
      (StatementNodes (Branch 0 x s o) inside ends start to b' c' r p q)
      → LaysLoops a b (statement_size (Branch line x s o)) start to (IsOwn (loop_count (Branch line x s o)) ends)
      (StatementNodes (Branch line x s o) inside ends start to b' c' r p q)
  unfolding statement_size loop_count with_loops
  lays_branch_of line x s o l =
      lays_as (expression_size x + statement_size s + branch_size o + 1) (StatementNodes (Branch line x s o) inside ends start to b' c' r p q) l refl
      (λ flow h. record { is = h.is })

  pub lays_while_of : (line : ℕ) (x : SourceExpression) (s : SourceStatement)
      → LaysLoops a b (expression_size x + statement_size s + 1) start to (IsOwn (loop_count s + 1) ends)
      (StatementNodes (WhileLoop line x s) inside ends start to b' c' r p q)
      → LaysLoops a b (statement_size (WhileLoop line x s)) start to (IsOwn (loop_count (WhileLoop line x s)) ends)
      (StatementNodes (WhileLoop line x s) inside ends start to b' c' r p q)
  unfolding statement_size loop_count
  lays_while_of line x s l =
      lays_as (expression_size x + statement_size s + 1) (StatementNodes (WhileLoop line x s) inside ends start to b' c' r p q) l refl (λ flow h. record { is = h.is })

  pub lays_do_of : (line : ℕ) (x : SourceExpression) (s : SourceStatement)
      → LaysLoops a b (statement_size s + expression_size x + 1) start to (IsOwn (loop_count s + 1) ends)
      (StatementNodes (DoLoop line s x) inside ends start to b' c' r p q)
      → LaysLoops a b (statement_size (DoLoop line s x)) start to (IsOwn (loop_count (DoLoop line s x)) ends)
      (StatementNodes (DoLoop line s x) inside ends start to b' c' r p q)
  unfolding statement_size loop_count
  lays_do_of line x s l =
      lays_as (statement_size s + expression_size x + 1) (StatementNodes (DoLoop line s x) inside ends start to b' c' r p q) l refl (λ flow h. record { is = h.is })

  pub lays_for_of : (line : ℕ) (f : SourceList) (x : SourceExpression) (o : OptionalStatement) (s : SourceStatement)
      → LaysLoops a b (list_size f + expression_size x + branch_size o + statement_size s + 1) start to
      (IsOwn (list_loops f + (branch_loops o + loop_count s) + 1) ends) (StatementNodes (ForLoop line f x o s) inside ends start to b' c' r p q)
      → LaysLoops a b (statement_size (ForLoop line f x o s)) start to (IsOwn (loop_count (ForLoop line f x o s)) ends)
      (StatementNodes (ForLoop line f x o s) inside ends start to b' c' r p q)
  unfolding statement_size loop_count
  lays_for_of line f x o s l =
      lays_as (list_size f + expression_size x + branch_size o + statement_size s + 1) (StatementNodes (ForLoop line f x o s) inside ends start to b' c' r p q) l refl
      (λ flow h. record { is = h.is })

  pub lays_present : (s : SourceStatement)
      → LaysLoops a b (statement_size s) start to (IsOwn (loop_count s) ends) (StatementNodes s inside ends start to b' c' r p q)
      → LaysLoops a b (branch_size (Present s)) start to (IsOwn (branch_loops (Present s)) ends) (OptionalNodes (Present s) inside ends start to b' c' r p q)
  unfolding statement_size loop_count with_loops
  lays_present s l = lays_as (statement_size s) (OptionalNodes (Present s) inside ends start to b' c' r p q) l refl (λ flow h. record { is = h.is })

-- statements that begin with their first node
module _ {a b : Draft} {start to : ℕ} {inside : Option ℕ} {ends : ℕ} (b' c' r q : ℕ) where
  pub lays_declaration : (name line : ℕ) (initial : Option SourceExpression)
      → Lays a b (optional_size initial + 1) start to (λ flow. Declares flow inside name initial start q)
      → LaysLoops a b (statement_size (ScalarDeclaration name line initial)) start to (IsOwn (loop_count (ScalarDeclaration name line initial)) ends)
      (StatementNodes (ScalarDeclaration name line initial) inside ends start to b' c' r start q)
  unfolding statement_size
  lays_declaration name line initial l =
      lays_as (optional_size initial + 1) (StatementNodes (ScalarDeclaration name line initial) inside ends start to b' c' r start q) (lays_more l) refl
      (λ flow h. record { is = λ k n marked. (refl, h) })

  pub lays_assignment : (name line : ℕ) (index : Option SourceExpression) (bracket : ℕ) (op : Option BinaryOp) (at : ℕ) (value : SourceExpression)
      → Lays a b (optional_size index + expression_size value + target_size index op) start to (λ flow. Assigns flow inside name 0 index bracket op at value start q)
      → LaysLoops a b (statement_size (Assignment name line index bracket op at value)) start to (IsOwn (loop_count (Assignment name line index bracket op at value)) ends)
      (StatementNodes (Assignment name line index bracket op at value) inside ends start to b' c' r start q)
  unfolding statement_size
  lays_assignment name line index bracket op at value l =
      lays_as (optional_size index + expression_size value + target_size index op)
      (StatementNodes (Assignment name line index bracket op at value) inside ends start to b' c' r start q) (lays_more l) refl
      (λ flow h. record { is = λ k n marked. (refl, any_line flow inside name line index bracket op at value start q h) })

  pub lays_printing : (line : ℕ) (value : SourceExpression)
      → Lays a b (expression_size value + 1) start to (λ flow. (m : ℕ) × Gives flow inside value 0 start m × Does flow inside m (Print (held value 0)) q)
      → LaysLoops a b (statement_size (Printing line value)) start to (IsOwn (loop_count (Printing line value)) ends)
      (StatementNodes (Printing line value) inside ends start to b' c' r start q)
  unfolding statement_size
  lays_printing line value l =
      lays_as (expression_size value + 1) (StatementNodes (Printing line value) inside ends start to b' c' r start q) (lays_more l) refl
      (λ flow h. record { is = λ k n marked. (h.0, refl, h.1, h.2) })

-- the parts of a `for`
module _ (line : ℕ) (f : SourceList) (x : SourceExpression) (o : OptionalStatement) (s : SourceStatement) where
  pub for_spot : {d : Draft} {spot : Spot} → IsSpot d (statement_size (ForLoop line f x o s)) (loop_count (ForLoop line f x o s)) spot
      → IsSpot d (list_size f + expression_size x + branch_size o + statement_size s + 1) (list_loops f + (branch_loops o + loop_count s) + 1) spot
  unfolding statement_size loop_count
  for_spot is = is

  pub for_sound : (n : ℕ) → is_sound most_scalars n true (ForLoop line f x o s) ≡ true
      → (list_is_sound most_scalars n true f ≡ true) × ((is_measured most_scalars n x ≡ true) × ((branch_is_sound most_scalars n true o ≡ true) × (is_sound most_scalars n true s ≡ true)))
  unfolding is_sound
  for_sound n sound =
      let turn = branch_is_sound most_scalars n true o && is_sound most_scalars n true s in
      let first = and_true (list_is_sound most_scalars n true f) (is_measured most_scalars n x && turn) sound in
      let second = and_true (is_measured most_scalars n x) turn first.1 in
      (first.0, (second.0, and_true (branch_is_sound most_scalars n true o) (is_sound most_scalars n true s) second.1))

-- statements without nodes, which begin where they lead to
module _ (d : Draft) (to : ℕ) (inside : Option ℕ) (ends b' c' r q : ℕ) where
  pub lays_break : (line : ℕ) → LaysLoops d d (statement_size (BreakOut line)) to to (IsOwn (loop_count (BreakOut line)) ends)
      (StatementNodes (BreakOut line) inside ends to to b' c' r b' q)
  unfolding statement_size
  lays_break line = lays_nothing d to (StatementNodes (BreakOut line) inside ends to to b' c' r b' q) (λ final. record { is = λ k n marked. (refl, refl) })

  pub lays_continue : (line : ℕ) → LaysLoops d d (statement_size (ContinueOn line)) to to (IsOwn (loop_count (ContinueOn line)) ends)
      (StatementNodes (ContinueOn line) inside ends to to b' c' r c' q)
  unfolding statement_size
  lays_continue line = lays_nothing d to (StatementNodes (ContinueOn line) inside ends to to b' c' r c' q) (λ final. record { is = λ k n marked. (refl, refl) })

  pub lays_array : (name line at size : ℕ) (values : List Const) → LaysLoops d d (statement_size (ArrayDeclaration name line at size values)) to to
      (IsOwn (loop_count (ArrayDeclaration name line at size values)) ends) (StatementNodes (ArrayDeclaration name line at size values) inside ends to to b' c' r q q)
  unfolding statement_size
  lays_array name line at size values =
      lays_nothing d to (StatementNodes (ArrayDeclaration name line at size values) inside ends to to b' c' r q q) (λ final. record { is = λ k n marked. (refl, refl) })

  pub lays_empty : LaysLoops d d (statement_size Nothing) to to (IsOwn (loop_count Nothing) ends) (StatementNodes Nothing inside ends to to b' c' r q q)
  unfolding statement_size
  lays_empty = lays_nothing d to (StatementNodes Nothing inside ends to to b' c' r q q) (λ final. record { is = λ k n marked. (refl, refl) })

  pub lays_absent : LaysLoops d d (branch_size Absent) to to (IsOwn (branch_loops Absent) ends) (OptionalNodes Absent inside ends to to b' c' r q q)
  unfolding statement_size
  lays_absent = lays_nothing d to (OptionalNodes Absent inside ends to to b' c' r q q) (λ final. record { is = λ k n marked. (refl, refl) })

pub ruleset endings = (lays_break, lays_continue, lays_array, lays_empty, lays_absent)

pub ruleset arms = (lays_scope, lays_declaration, lays_assignment, lays_printing, lays_evaluation, lays_return, lays_branch_of, lays_while_of, lays_do_of, lays_for_of, lays_present, endings)

-- ---- statements in order

-- the statements from one on are a part of all
pub record IsPart (rest whole : SourceList) : Type 0 where
  pub size : list_size rest ≤ list_size whole
  pub loops : list_loops rest ≤ list_loops whole
  pub weight : list_weight rest ≤ list_weight whole
  pub sound : (n : ℕ) → list_is_sound most_scalars n true whole ≡ true → list_is_sound most_scalars n true rest ≡ true

is_part : (items : List Stmt) (i : ℕ) → IsPart (list_of (drop i items)) (list_of items)
unfolding list_of list_size loop_count is_sound
is_part items zero = record { size = omega arith; loops = omega arith; weight = omega arith; sound = λ n h. h }
is_part [] (suc i) = record { size = omega arith; loops = omega arith; weight = omega arith; sound = λ n h. h }
is_part (first ∷ others) (suc i) =
    let part = is_part others i in
    let size = part.size in
    let loops = part.loops in
    let weight = part.weight in
    record {
      size = omega (arith, size);
      loops = omega (arith, loops);
      weight = omega (arith, weight);
      sound = λ n h. part.sound n (and_true (is_sound most_scalars n true (statement_of first)) (list_is_sound most_scalars n true (list_of others)) h).1;
    }

-- the statement at a place, and those after it
list_at : (items : List Stmt) (i : ℕ) (item : Stmt) → i < length items → item ≡ get_or items i item
    → list_of (drop i items) ≡ More (statement_of item) (list_of (drop (suc i) items))
unfolding list_of
list_at items i item below read = ap list_of (drop-cons items i item below ∙ ap (λ (x : Stmt). x ∷ drop (suc i) items) (sym read))

-- what was laid of statements: those from one on
pub record ListLaid (old new : Draft) (spot : Spot) (rest : SourceList) (laid : Laid) (loops_end : ℕ) : Type 0 where
  pub lays : LaysList rest spot laid old new
  pub begins : IsPlaced new.graph laid.entry
  pub numbers : loops_end + list_loops rest ≡ spot.loops_end
  pub tested : AreTested new (list_loops rest) spot.loops_end

-- nothing yet
pub none_laid : (d : Draft) (spot : Spot) (items : List Stmt) {laid : Laid} → IsPlaced d.graph spot.next → laid ≡ record { start = spot.end; entry = spot.next }
    → ListLaid d d spot (list_of (drop (length items) items)) laid spot.loops_end
unfolding list_of list_size loop_count
none_laid d spot items placed e = rw (drop-length items, e) (made)
  where
    made : ListLaid d d spot No_more (record { start = spot.end; entry = spot.next }) spot.loops_end
    made = record {
      lays = lays_nothing d spot.end
          (ListNodes No_more spot.inside spot.loops_end spot.end spot.end spot.break_to spot.continue_to spot.return_to spot.next spot.next)
          (λ final. record { is = λ k n marked. (refl, refl) });
      begins = placed;
      numbers = omega arith;
      tested = tested_none;
    }

-- a statement before those that were laid
module _ {d d1 : Draft} {spot : Spot} (items : List Stmt) (i at : ℕ) (item : Stmt) {loops_end : ℕ} {laid : Laid}
    (is : IsSpot d (list_size (list_of items)) (list_loops (list_of items)) spot) (sound : list_is_sound most_scalars (length d.graph.arrays) true (list_of items) ≡ true)
    (so_far : ListLaid d d1 spot (list_of (drop at items)) laid loops_end) (follows : at ≡ suc i) (below : i < length items) (read : item ≡ get_or items i item) where
  laid-so_far : ListLaid d d1 spot (list_of (drop (suc i) items)) laid loops_end
  laid-so_far = subst (λ (n : ℕ). ListLaid d d1 spot (list_of (drop n items)) laid loops_end) follows so_far

  item-size : statement_size (statement_of item) + list_size (list_of (drop (suc i) items)) ≤ list_size (list_of items)
  unfolding list_size
  item-size = let e = ap list_size (list_at items i item below read) in let part = (is_part items i).size in omega (arith, e, part)

  item-loops : loop_count (statement_of item) + list_loops (list_of (drop (suc i) items)) ≤ list_loops (list_of items)
  unfolding loop_count
  item-loops = let e = ap list_loops (list_at items i item below read) in let part = (is_part items i).loops in omega (arith, e, part)

  pub item_weight : statement_weight (statement_of item) < list_weight (list_of items)
  item_weight = let e = ap list_weight (list_at items i item below read) in let part = (is_part items i).weight in omega (arith, e, part)

  pub item_sound : is_sound most_scalars (length d1.graph.arrays) true (statement_of item) ≡ true
  unfolding is_sound
  item_sound =
      let n = length d.graph.arrays in
      let rest = (is_part items i).sound n sound in
      let here = sym (ap (list_is_sound most_scalars n true) (list_at items i item below read)) ∙ rest in
      rw laid-so_far.lays.fills.arrays (and_true (is_sound most_scalars n true (statement_of item)) (list_is_sound most_scalars n true (list_of (drop (suc i) items))) here).0

  pub item_spot : IsSpot d1 (statement_size (statement_of item)) (loop_count (statement_of item)) (record spot { end = laid.start; next = laid.entry; loops_end = loops_end })
  item_spot = spot_before (statement_size (statement_of item)) (loop_count (statement_of item)) (list_loops (list_of (drop (suc i) items))) loops_end
      is laid-so_far.lays laid-so_far.begins item-size item-loops laid-so_far.numbers

  pub item_numbers : loop_count (statement_of item) ≤ loops_end
  item_numbers = item_spot.numbers

  pub item_laid : {d2 : Draft} {new : Laid} {ends : ℕ}
      → LaysLoops d1 d2 (statement_size (statement_of item)) new.start laid.start (IsOwn (loop_count (statement_of item)) loops_end)
      (StatementNodes (statement_of item) spot.inside loops_end new.start laid.start spot.break_to spot.continue_to spot.return_to new.entry laid.entry)
      → IsPlaced d2.graph new.entry → ends + loop_count (statement_of item) ≡ loops_end
      → AreTested d2 (loop_count (statement_of item)) loops_end → ListLaid d d2 spot (list_of (drop i items)) new ends
  unfolding list_size loop_count with_loops
  item_laid {d2} {new} {ends} l begins e tested =
      let numbers = laid-so_far.numbers in
      let made : ListLaid d d2 spot (More (statement_of item) (list_of (drop (suc i) items))) new ends = record {
        lays = lays_as (statement_size (statement_of item) + list_size (list_of (drop (suc i) items)))
            (ListNodes (More (statement_of item) (list_of (drop (suc i) items))) spot.inside spot.loops_end new.start spot.end
            spot.break_to spot.continue_to spot.return_to new.entry spot.next)
            (lays_numbered (loop_count (statement_of item) + list_loops (list_of (drop (suc i) items))) laid-so_far.lays l numbers refl) refl
            (λ flow h. record {
              is = λ k n marked.
                  let first = with_loops (statement_of item) spot.inside in
                  let second = with_list_loops (list_of (drop (suc i) items)) spot.inside in (
                    laid.entry,
                    laid.start,
                    h.1.is k (omega (arith, n, numbers)) (marked_first first second marked (adds_list_loops (list_of (drop (suc i) items)) spot.inside)),
                    h.0.is (k + loop_count (statement_of item)) (omega (arith, n)) (marked_second first second marked (adds_loops (statement_of item) spot.inside)),
                  );
            });
        begins = begins;
        numbers = omega (arith, numbers, e);
        tested = tested_both _ tested (all_still l.fills laid-so_far.tested) numbers refl;
      } in
      subst (λ (rest : SourceList). ListLaid d d2 spot rest new ends) (sym (list_at items i item below read)) made
