-- The parser of statements depends on the tokens up to where it stops.
use Rattle.std.proofs.Common.{◌≡◌, refl, sym, ap, ◌∙◌, ℕ, zero, suc, pos, ◌+◌, ◌-◌, ◌<◌, ◌≤◌, Bool, true, false, List, length, arith, cond}
use Rattle.std.specs.Prelude.{Option, Some, None, max}
use Rattle.pc_lexer.specs.declared.token.Token.{Token}
use Rattle.pc_lexer.specs.declared.token.TokenKind.{TokenKind}
use Rattle.pc_lexer.specs.declared.token.TokenKind.TheVariants as kinds
use Rattle.pc_lexer.specs.declared.mark.Mark.{Mark}
use Rattle.pc_lexer.specs.declared.mark.Mark.TheVariants as marks
use Rattle.pc_lexer.specs.declared.keyword.Keyword.{Keyword}
use Rattle.pc_lexer.specs.declared.keyword.Keyword.TheVariants as keys
use Rattle.pc_syntax.specs.declared.operator.BinaryOp.{BinaryOp}
use Rattle.pc_syntax.specs.Source.{SourceExpression, Literal}
use Rattle.pc_syntax.specs.Unit.{UnitStatement, UnitList, UnitOptional, Scalar, Print, Eval, While, Do}
use Rattle.pc_syntax.specs.Unit.{Break, Continue, Return, Item, unit_appended}
use Rattle.pc_parser.specs.declared.calls.Calls.{Calls}
use Rattle.pc_parser.specs.declared.storage.Storage.{Storage}
use Rattle.pc_parser.specs.declared.storage.Storage.TheVariants.{Automatic, Static}
use Rattle.pc_parser.specs.Places.{kind_at, line_at}
use Rattle.pc_parser.specs.models.Tests.{is_mark, is_key, mark_is, key_is, symbol_of}
use Rattle.pc_parser.specs.Operators.{step_of}
use Rattle.pc_parser.specs.Statements.{Lvalue, assigned}
use Rattle.pc_parser.specs.models.Outcome.{ParseOutcome, Parsed, TooHigh, after, allowed, expect, expect_key}
use Rattle.pc_parser.specs.models.ExpressionParser.{lvalue_tree, lvalue_height, climb, choice, expression_at, below}
use Rattle.pc_parser.specs.models.StatementParser.{assignment_from, step_from, length_of, name_budget, parenthesized_at, closed_behind, closed, lvalue_on, lvalue_at, evaluation}
use Rattle.pc_parser.specs.models.StatementParser.{evaluation_from, print_at, step_before, assignment, behind_lvalue, assigning, on_lvalue}
use Rattle.pc_parser.specs.models.StatementParser.{after_lvalue, named, marked, simple_on, simple_at, ended_at, array}
use Rattle.pc_parser.specs.models.StatementParser.{initialising, initialised, declarator_on, declarator_at, last_declarator, fixed_on}
use Rattle.pc_parser.specs.models.StatementParser.{declarators_at, declaration_at, static_at, first_at, condition_at, step_at, item_at}
use Rattle.pc_parser.specs.models.StatementParser.{items_at, block_at, otherwise_at, branch_at, while_at, do_at, for_body, for_at, lone, return_at, keyed, started, statement_on}
use Rattle.pc_parser.specs.models.StatementParser.{statement_from, statement_at, statement_below, nothing_behind, main_block, main_at}
use Rattle.pc_parser.specs.models.CallParser.{callable, opens_call, right_side_at}
use Rattle.pc_parser.proofs.Local.{Budgets, Budgets-less, Goes, Goes-stop, Goes-from, Goes-after, Goes-cond, Local, parsed, unreadable, too_high, earlier, after-local, allowed-local, look}
use Rattle.pc_parser.proofs.Local.{look_line, if-local, expect-local, expect_key-local}
use Rattle.pc_parser.proofs.LocalArrays.{array-local, fixed_on-local}
use Rattle.pc_parser.proofs.LocalCalls.{call_at-local, right_side_at-local}
use Rattle.pc_parser.proofs.LocalExpressions.{lvalue_named-local, choice-local, climb-local, expression_at-local, below-local}

module _ (k : ℕ) (E : Type 0) (ts ws : List Token) (calls : Calls) (kinds_agree : (i : ℕ) → i ≤ k → kind_at ws i ≡ kind_at ts i) (lines_agree : (i : ℕ) → i ≤ k → line_at ws i ≡ line_at ts i) where
  -- the combinators at these two lists
  mark_then : {A : Type 0} (mark : Mark) (from : ℕ) {x y : ParseOutcome A} → Local k E 0 (from + 1) x y → Local k E 1 from (expect ts mark from x) (expect ws mark from y)
  mark_then mark from {x} {y} rest = expect-local k E ts ws kinds_agree lines_agree mark from x y rest

  key_then : {A : Type 0} (key : Keyword) (from : ℕ) {x y : ParseOutcome A} → Local k E 0 (from + 1) x y → Local k E 1 from (expect_key ts key from x) (expect_key ws key from y)
  key_then key from {x} {y} rest = expect_key-local k E ts ws kinds_agree lines_agree key from x y rest

  on_mark : {A : Type 0} (mark : Mark) (by from : ℕ) {x y z w : ParseOutcome A} → Local k E by from x y → Local k E by from z w →
      Local k E by from (cond (is_mark mark (kind_at ts from)) x z) (cond (is_mark mark (kind_at ws from)) y w)
  on_mark mark by from {x} {y} {z} {w} one other = if-local k E ts ws kinds_agree lines_agree (is_mark mark) by from x y z w one other

  on_key : {A : Type 0} (key : Keyword) (by from : ℕ) {x y z w : ParseOutcome A} → Local k E by from x y → Local k E by from z w →
      Local k E by from (cond (is_key key (kind_at ts from)) x z) (cond (is_key key (kind_at ws from)) y w)
  on_key key by from {x} {y} {z} {w} one other = if-local k E ts ws kinds_agree lines_agree (is_key key) by from x y z w one other

  by_kind : {A : Type 0} (by from : ℕ) (F G : Option TokenKind → ParseOutcome A) → ((kind : Option TokenKind) → Local k E by from (F kind) (G kind)) →
      Local k E by from (F (kind_at ts from)) (G (kind_at ws from))
  by_kind by from F G each = look k E ts ws kinds_agree lines_agree by from F G each

  by_line : {A : Type 0} (by from : ℕ) (F G : ℕ → ParseOutcome A) → ((line : ℕ) → Local k E by from (F line) (G line)) → Local k E by from (F (line_at ts from)) (G (line_at ws from))
  by_line by from F G each = look_line k E ts ws kinds_agree lines_agree by from F G each

  next : {A B : Type 0} {by more from : ℕ} {x y : ParseOutcome A} (f g : A → ℕ → ℕ → ParseOutcome B) → Local k E by from x y →
      ((tree : A) (height to : ℕ) → from + by ≤ to → Local k E more to (f tree height to) (g tree height to)) → Local k E by from (after x f) (after y g)
  next {by = by} {more = more} {from = from} {x = x} {y = y} f g first rest = after-local k E by more from x y f g first rest

  within : {A : Type 0} (least b c at by from : ℕ) {x y : ParseOutcome A} → Budgets E b c → from ≤ at → Local k E by from x y → Local k E by from (allowed least b at x) (allowed least c at y)
  within least b c at by from {x} {y} budgets inside rest = allowed-local k E least b c at by from x y budgets inside rest

  up : {A : Type 0} (by from less before : ℕ) {x y : ParseOutcome A} → before + less ≤ from + by → before ≤ from → Local k E by from x y → Local k E less before x y
  up by from less before {x} {y} h g local = earlier k E by from less before x y h g local

  done : {A : Type 0} (by from : ℕ) {tree : A} {height to : ℕ} → from + by ≤ to → Local k E by from (Parsed tree height to) (Parsed tree height to)
  done by from {tree} {height} {to} goes = parsed k E by from tree height to goes

  whole : (b c : ℕ) → Budgets E b c → (from : ℕ) → Local k E 1 from (expression_at ts b 0 from) (expression_at ws c 0 from)
  whole b c budgets from = expression_at-local k E ts ws kinds_agree lines_agree b c budgets 0 from

  Budgets-name : (b c : ℕ) → Budgets E b c → Budgets E (name_budget b) (name_budget c)
  Budgets-name b c h = let low = h.low in record { low = omega arith; same = λ e. ap name_budget (h.same e) }

  pub parenthesized_at-local : (b c : ℕ) → Budgets E b c → (from : ℕ) → Local k E 1 from (parenthesized_at ts b from) (parenthesized_at ws c from)
  unfolding parenthesized_at
  parenthesized_at-local b c budgets from =
      mark_then marks.LeftParen from (up 1 (from + 1) 0 (from + 1) (omega arith) (omega arith)
      (next _ _ (whole b c budgets (from + 1)) (λ tree height to onward. mark_then marks.RightParen to (done 0 (to + 1) (omega arith)))))

  pub closed_behind-local : (mark : Mark) (b c : ℕ) → Budgets E b c → (tree : UnitStatement) (height to : ℕ) →
      Local k E 1 to (closed_behind ts mark b tree height to) (closed_behind ws mark c tree height to)
  unfolding closed_behind
  closed_behind-local mark b c budgets tree height to =
      on_mark mark 1 to (within height b c to 1 to budgets (omega arith) (done 1 to (omega arith))) (unreadable k E 1 to to (omega arith))

  pub closed-local : (mark : Mark) (b c by from : ℕ) → Budgets E b c → (x y : ParseOutcome UnitStatement) → Local k E by from x y → Local k E by from (closed ts mark b x) (closed ws mark c y)
  unfolding closed
  closed-local mark b c by from budgets x y local = next _ _ local (λ tree height to onward. closed_behind-local mark b c budgets tree height to)

  module _ (b c : ℕ) (budgets : Budgets E b c) where
    pub lvalue_at-local : (from : ℕ) → Local k E 1 from (lvalue_at ts b from) (lvalue_at ws c from)
    unfolding lvalue_at lvalue_on
    lvalue_at-local from = by_kind 1 from (λ kind. lvalue_on ts b (symbol_of kind) from) (λ kind. lvalue_on ws c (symbol_of kind) from) (λ kind. on (symbol_of kind))
      where
        on : (symbol : Option ℕ) → Local k E 1 from (lvalue_on ts b symbol from) (lvalue_on ws c symbol from)
        on (Some symbol) = lvalue_named-local k E ts ws kinds_agree lines_agree _ _ (name_budget b) (name_budget c) (Budgets-name b c budgets)
            (below-local k E ts ws kinds_agree lines_agree (name_budget b) (name_budget c) (Budgets-name b c budgets)) symbol from
        on None = unreadable k E 1 from from (omega arith)

    abbrev evaluated : ℕ → SourceExpression → (height to : ℕ) → ParseOutcome UnitStatement
    evaluated line value height to = Parsed (Eval line value) (height + 1) to

    pub evaluation-local : (from : ℕ) → Local k E 1 from (evaluation ts b from) (evaluation ws c from)
    unfolding evaluation
    evaluation-local from = by_line 1 from (λ line. after (expression_at ts (b - 1) 0 from) (evaluated line)) (λ line. after (expression_at ws (c - 1) 0 from) (evaluated line)) (λ line.
        next _ _ (whole (b - 1) (c - 1) (Budgets-less budgets) from) (λ value height to onward. done 0 to (omega arith)))

    abbrev evaluation_with : List Token → ℕ → ℕ → Lvalue → (height at : ℕ) → ParseOutcome UnitStatement
    evaluation_with tokens budget line lvalue height at =
        after (climb tokens (below tokens (name_budget budget)) (name_budget budget) 1 (name_budget budget) (lvalue_tree lvalue) (lvalue_height lvalue height) at) (λ left i q.
        after (choice tokens (below tokens (name_budget budget)) (name_budget budget) left i q) (evaluated line))

    -- the line of a place that was passed
    behind_line : {A : Type 0} (by from at : ℕ) (F G : ℕ → ParseOutcome A) → from ≤ at → ((line : ℕ) → Local k E by at (F line) (G line)) → Local k E by at (F (line_at ts from)) (G (line_at ws from))
    behind_line by from at F G inside each =
        let here = each (line_at ts from) in
        let onward = Goes-stop by at (F (line_at ts from)) here.goes in
        record { goes = here.goes; carries = λ s e. ap G (lines_agree from (omega arith)) ∙ here.carries s e }

    pub evaluation_from-local : (from : ℕ) (lvalue : Lvalue) (height at : ℕ) → from ≤ at → Local k E 0 at (evaluation_from ts b from lvalue height at) (evaluation_from ws c from lvalue height at)
    unfolding evaluation_from
    evaluation_from-local from lvalue height at inside =
        behind_line 0 from at (λ line. evaluation_with ts b line lvalue height at) (λ line. evaluation_with ws c line lvalue height at) inside (λ line.
        next _ _ (climb-local k E ts ws kinds_agree lines_agree _ _ (name_budget b) (name_budget c) (Budgets-name b c budgets)
        (below-local k E ts ws kinds_agree lines_agree (name_budget b) (name_budget c) (Budgets-name b c budgets)) 1 (name_budget b) (name_budget c) (lvalue_tree lvalue)
        (lvalue_height lvalue height) at (Budgets-name b c budgets)) (λ left i q onward.
        next _ _ (choice-local k E ts ws kinds_agree lines_agree _ _ (name_budget b) (name_budget c) (Budgets-name b c budgets)
        (below-local k E ts ws kinds_agree lines_agree (name_budget b) (name_budget c) (Budgets-name b c budgets)) left i q)
        (λ value j to behind. done 0 to (omega arith))))

    abbrev printed : ℕ → SourceExpression → (height to : ℕ) → ParseOutcome UnitStatement
    printed line value height to = Parsed (Print line value) (height + 1) to

    pub print_at-local : (from : ℕ) → Local k E 1 from (print_at ts b from) (print_at ws c from)
    unfolding print_at
    print_at-local from =
        by_line 1 from (λ line. allowed 2 b from (after (parenthesized_at ts (b - 1) (from + 1)) (printed line)))
        (λ line. allowed 2 c from (after (parenthesized_at ws (c - 1) (from + 1)) (printed line))) (λ line.
        within 2 b c from 1 from budgets (omega arith) (up 1 (from + 1) 1 from (omega arith) (omega arith)
        (next _ _ (parenthesized_at-local (b - 1) (c - 1) (Budgets-less budgets) (from + 1)) (λ value height to onward. done 0 to (omega arith)))))

    abbrev stepped : BinaryOp → ℕ → Lvalue → (height to : ℕ) → ParseOutcome UnitStatement
    stepped op line lvalue height to = Parsed (assigned lvalue (Some op) line (Literal (pos 1))) (height + 1) to

    pub step_before-local : (op : BinaryOp) (from : ℕ) → Local k E 1 from (step_before ts b op from) (step_before ws c op from)
    unfolding step_before
    step_before-local op from =
        by_line 1 from (λ line. allowed 1 b from (after (lvalue_at ts b (from + 1)) (stepped op line)))
        (λ line. allowed 1 c from (after (lvalue_at ws c (from + 1)) (stepped op line))) (λ line.
        within 1 b c from 1 from budgets (omega arith) (up 1 (from + 1) 1 from (omega arith) (omega arith)
        (next _ _ (lvalue_at-local (from + 1)) (λ lvalue height to onward. done 0 to (omega arith)))))

    pub behind_lvalue-local : (from : ℕ) (lvalue : Lvalue) (height at : ℕ) (op : Option BinaryOp) → from ≤ at →
        Local k E 0 at (behind_lvalue ts b from lvalue height at op) (behind_lvalue ws c from lvalue height at op)
    unfolding behind_lvalue
    behind_lvalue-local from lvalue height at (Some op) inside =
        by_line 0 at (λ line. stepped op line lvalue height (at + 1)) (λ line. stepped op line lvalue height (at + 1)) (λ line. done 0 at (omega arith))
    behind_lvalue-local from lvalue height at None inside = evaluation_from-local from lvalue height at inside

    pub last_declarator-local : (tree : UnitStatement) (height at : ℕ) → Local k E 1 at (last_declarator ts tree height at) (last_declarator ws tree height at)
    unfolding last_declarator
    last_declarator-local tree height at = mark_then marks.Semicolon at (done 0 (at + 1) (omega arith))

    pub condition_at-local : (from : ℕ) → Local k E 1 from (condition_at ts b from) (condition_at ws c from)
    unfolding condition_at
    condition_at-local from =
        on_mark marks.Semicolon 1 from (done 1 from (omega arith))
        (next _ _ (whole b c budgets from) (λ tree height to onward. up 1 to 0 to (omega arith) (omega arith) (mark_then marks.Semicolon to (done 0 (to + 1) (omega arith)))))

    -- the list of tokens that is gone on with is long enough
    module _ (few : k < length ts + 1) (fewer : k < length ws + 1) where
      pub assignment-local : (lvalue : Lvalue) (op : Option BinaryOp) (height at : ℕ) → Local k E 0 at (assignment ts calls b lvalue op height at) (assignment ws calls c lvalue op height at)
      unfolding assignment
      assignment-local lvalue op height at =
          right_side_at-local k E ts ws kinds_agree lines_agree b c budgets few fewer (record { symbol = lvalue.symbol; line = lvalue.line; declared = false }) at (at + 1) refl
          (assigning ts lvalue op height at) (assigning ws lvalue op height at) (λ value other to onward.
          behind_line 0 at to (λ line. Parsed (assigned lvalue op line value) (max height other + 1) to) (λ line. Parsed (assigned lvalue op line value) (max height other + 1) to) onward
          (λ line. done 0 to (omega arith))) (callable calls op lvalue.index)

      pub on_lvalue-local : (from : ℕ) (lvalue : Lvalue) (height at : ℕ) (op : Option (Option BinaryOp)) → from ≤ at →
          Local k E 0 at (on_lvalue ts calls b from lvalue height at op) (on_lvalue ws calls c from lvalue height at op)
      unfolding on_lvalue
      on_lvalue-local from lvalue height at (Some op) inside = assignment-local lvalue op height at
      on_lvalue-local from lvalue height at None inside =
          by_kind 0 at (λ kind. behind_lvalue ts b from lvalue height at (step_from kind)) (λ kind. behind_lvalue ws c from lvalue height at (step_from kind))
          (λ kind. behind_lvalue-local from lvalue height at (step_from kind) inside)

      pub after_lvalue-local : (from : ℕ) (lvalue : Lvalue) (height at : ℕ) → from ≤ at →
          Local k E 0 at (after_lvalue ts calls b from lvalue height at) (after_lvalue ws calls c from lvalue height at)
      unfolding after_lvalue
      after_lvalue-local from lvalue height at inside =
          if-local k E ts ws kinds_agree lines_agree (opens_call (callable calls None lvalue.index)) 0 at _ _ _ _
          (up 1 (at + 1) 0 at (omega arith) (omega arith)
          (call_at-local k E ts ws kinds_agree lines_agree b c budgets few fewer lvalue.line None lvalue.symbol lvalue.line (at + 1)))
          (by_kind 0 at (λ kind. on_lvalue ts calls b from lvalue height at (assignment_from kind)) (λ kind. on_lvalue ws calls c from lvalue height at (assignment_from kind))
          (λ kind. on_lvalue-local from lvalue height at (assignment_from kind) inside))

      pub named-local : (from : ℕ) → Local k E 1 from (named ts calls b from) (named ws calls c from)
      unfolding named
      named-local from = within 1 b c from 1 from budgets (omega arith)
          (next _ _ (lvalue_at-local from) (λ lvalue height at onward. after_lvalue-local from lvalue height at (omega arith)))

      pub simple_at-local : (from : ℕ) → Local k E 1 from (simple_at ts calls b from) (simple_at ws calls c from)
      unfolding simple_at simple_on marked
      simple_at-local from = by_kind 1 from (λ kind. simple_on ts calls b kind from) (λ kind. simple_on ws calls c kind from) on
        where
          by_op : (op : Option BinaryOp) → Local k E 1 from (marked ts b op from) (marked ws c op from)
          by_op (Some op) = step_before-local op from
          by_op None = evaluation-local from

          chosen : (t : Bool) → Local k E 1 from (cond t (print_at ts b from) (evaluation ts b from)) (cond t (print_at ws c from) (evaluation ws c from))
          chosen true = print_at-local from
          chosen false = evaluation-local from

          on : (kind : Option TokenKind) → Local k E 1 from (simple_on ts calls b kind from) (simple_on ws calls c kind from)
          on (Some (kinds.Name symbol)) = named-local from
          on (Some (kinds.Number value)) = evaluation-local from
          on (Some (kinds.Key key)) = chosen (key_is key keys.Print)
          on (Some (kinds.Mark mark)) = by_op (step_of mark)
          on None = evaluation-local from

      pub ended_at-local : (from : ℕ) → Local k E 1 from (ended_at ts calls b from) (ended_at ws calls c from)
      unfolding ended_at
      ended_at-local from = closed-local marks.Semicolon b c 1 from budgets (simple_at ts calls b from) (simple_at ws calls c from) (simple_at-local from)

      pub initialised-local : (symbol from : ℕ) → Local k E 0 (from + 1) (initialised ts calls b symbol from) (initialised ws calls c symbol from)
      unfolding initialised
      initialised-local symbol from =
          behind_line 0 from (from + 1) (λ line. right_side_at ts b calls (record { symbol = symbol; line = line; declared = true }) (from + 1) (from + 2) (initialising ts symbol from))
          (λ line. right_side_at ws c calls (record { symbol = symbol; line = line; declared = true }) (from + 1) (from + 2) (initialising ws symbol from)) (omega arith) (λ line.
          right_side_at-local k E ts ws kinds_agree lines_agree b c budgets few fewer (record { symbol = symbol; line = line; declared = true }) (from + 1) (from + 2) (omega arith)
          (initialising ts symbol from) (initialising ws symbol from) (λ value height to onward.
          behind_line 0 from to (λ line'. Parsed (Scalar symbol line' (Some value)) (height + 1) to) (λ line'. Parsed (Scalar symbol line' (Some value)) (height + 1) to) (omega arith)
          (λ line'. done 0 to (omega arith))) calls)

      pub declarator_at-local : (storage : Storage) (from : ℕ) → Local k E 1 from (declarator_at ts calls b storage from) (declarator_at ws calls c storage from)
      unfolding declarator_at declarator_on
      declarator_at-local Static from = by_kind 1 from (λ kind. fixed_on ts (symbol_of kind) from) (λ kind. fixed_on ws (symbol_of kind) from)
          (λ kind. fixed_on-local k E ts ws kinds_agree lines_agree few fewer from (symbol_of kind))
      declarator_at-local Automatic from =
          by_kind 1 from (λ kind. declarator_on ts calls b (symbol_of kind) from) (λ kind. declarator_on ws calls c (symbol_of kind) from) (λ kind. on (symbol_of kind))
        where
          on : (symbol : Option ℕ) → Local k E 1 from (declarator_on ts calls b symbol from) (declarator_on ws calls c symbol from)
          on (Some symbol) = up 0 (from + 1) 1 from (omega arith) (omega arith)
              (on_mark marks.Assign 0 (from + 1) (initialised-local symbol from)
              (on_mark marks.LeftBracket 0 (from + 1)
              (up 0 (from + 2) 0 (from + 1) (omega arith) (omega arith)
              (by_kind 0 (from + 2) (λ kind. array ts symbol from (length_of kind)) (λ kind. array ws symbol from (length_of kind))
              (λ kind. array-local k E ts ws kinds_agree lines_agree symbol from (length_of kind))))
              (behind_line 0 from (from + 1) (λ line. Parsed (Scalar symbol line None) 1 (from + 1))
              (λ line. Parsed (Scalar symbol line None) 1 (from + 1)) (omega arith) (λ line. done 0 (from + 1) (omega arith)))))
          on None = unreadable k E 1 from from (omega arith)

      declarators_at-goes : (storage : Storage) (n from : ℕ) → Goes 1 from (declarators_at ts calls b storage n from)
      unfolding declarators_at
      declarators_at-goes storage zero from = omega arith
      declarators_at-goes storage (suc n) from = Goes-after 1 from (declarator_at ts calls b storage from) _ (declarator_at-local storage from).goes (λ tree height at onward.
          Goes-cond 0 at (is_mark marks.Comma (kind_at ts at)) _ _
          (Goes-from 1 (at + 1) 0 at _ (omega arith) (omega arith)
          (Goes-after 1 (at + 1) (declarators_at ts calls b storage n (at + 1)) (λ rest other to. Parsed (Item tree rest) (max height other) to) (declarators_at-goes storage n (at + 1))
          (λ rest other to behind. omega arith)))
          (Goes-from 1 at 0 at _ (omega arith) (omega arith) (last_declarator-local tree height at).goes))

      pub declarators_at-local : (storage : Storage) (n m from : ℕ) → k < from + n → k < from + m →
          Local k E 1 from (declarators_at ts calls b storage n from) (declarators_at ws calls c storage m from)
      unfolding declarators_at
      declarators_at-local storage zero m from little less = record { goes = omega arith; carries = λ s e. absurd (omega arith) }
      declarators_at-local storage (suc n) zero from little less =
          let goes = declarators_at-goes storage (suc n) from in
          let onward = Goes-stop 1 from (declarators_at ts calls b storage (suc n) from) goes in
          record { goes = goes; carries = λ s e. absurd (omega arith) }
      declarators_at-local storage (suc n) (suc m) from little less =
          next _ _ (declarator_at-local storage from) (λ tree height at onward.
          on_mark marks.Comma 0 at
          (up 1 (at + 1) 0 at (omega arith) (omega arith) (next _ _ (declarators_at-local storage n m (at + 1) (omega arith) (omega arith)) (λ rest other to behind. done 0 to (omega arith))))
          (up 1 at 0 at (omega arith) (omega arith) (last_declarator-local tree height at)))

      pub declaration_at-local : (from : ℕ) → Local k E 1 from (declaration_at ts calls b from) (declaration_at ws calls c from)
      unfolding declaration_at
      declaration_at-local from = within 1 b c from 1 from budgets (omega arith) (up 1 (from + 1) 1 from (omega arith) (omega arith)
          (declarators_at-local Automatic (length ts + 1) (length ws + 1) (from + 1) (omega arith) (omega arith)))

      pub static_at-local : (from : ℕ) → Local k E 1 from (static_at ts calls b from) (static_at ws calls c from)
      unfolding static_at
      static_at-local from = within 1 b c from 1 from budgets (omega arith) (up 1 (from + 1) 1 from (omega arith) (omega arith)
          (key_then keys.Int (from + 1) (up 1 (from + 2) 0 (from + 1 + 1) (omega arith) (omega arith)
          (declarators_at-local Static (length ts + 1) (length ws + 1) (from + 2) (omega arith) (omega arith)))))

      pub first_at-local : (from : ℕ) → Local k E 1 from (first_at ts calls b from) (first_at ws calls c from)
      unfolding first_at
      first_at-local from =
          on_key keys.Int 1 from (declaration_at-local from)
          (on_mark marks.Semicolon 1 from (done 1 from (omega arith))
          (next _ _ (ended_at-local from) (λ tree height to onward. done 0 to (omega arith))))

      pub step_at-local : (from : ℕ) → Local k E 1 from (step_at ts calls b from) (step_at ws calls c from)
      unfolding step_at
      step_at-local from =
          on_mark marks.RightParen 1 from (done 1 from (omega arith))
          (next _ _ (closed-local marks.RightParen b c 1 from budgets (simple_at ts calls b from) (simple_at ws calls c from) (simple_at-local from))
          (λ tree height to onward. done 0 to (omega arith)))

  -- what is inside of a statement
  module _ (b c : ℕ) (budgets : Budgets E b c) (few : k < length ts + 1) (fewer : k < length ws + 1)
      (inner other : (from : ℕ) → ParseOutcome UnitStatement) (inners : (from : ℕ) → Local k E 1 from (inner from) (other from)) where
    pub item_at-local : (from : ℕ) → Local k E 1 from (item_at ts calls inner b from) (item_at ws calls other c from)
    unfolding item_at
    item_at-local from =
        on_key keys.Int 1 from (declaration_at-local (b - 1) (c - 1) (Budgets-less budgets) few fewer from)
        (on_key keys.Static 1 from (static_at-local (b - 1) (c - 1) (Budgets-less budgets) few fewer from)
        (next _ _ (inners from) (λ tree height to onward. done 0 to (omega arith))))

    items_at-goes : (n from : ℕ) → Goes 1 from (items_at ts calls inner b n from)
    unfolding items_at
    items_at-goes zero from = omega arith
    items_at-goes (suc n) from = Goes-cond 1 from (is_mark marks.RightBrace (kind_at ts from)) _ _ (omega arith)
        (Goes-after 1 from (item_at ts calls inner b from) _ (item_at-local from).goes (λ trees height at onward.
        Goes-from 1 at 0 at _ (omega arith) (omega arith)
        (Goes-after 1 at (items_at ts calls inner b n at) (λ rest raised to. Parsed (unit_appended trees rest) (max height raised) to) (items_at-goes n at)
        (λ rest raised to behind. omega arith))))

    pub items_at-local : (n m from : ℕ) → k < from + n → k < from + m → Local k E 1 from (items_at ts calls inner b n from) (items_at ws calls other c m from)
    unfolding items_at
    items_at-local zero m from little less = record { goes = omega arith; carries = λ s e. absurd (omega arith) }
    items_at-local (suc n) zero from little less =
        let goes = items_at-goes (suc n) from in
        let onward = Goes-stop 1 from (items_at ts calls inner b (suc n) from) goes in
        record { goes = goes; carries = λ s e. absurd (omega arith) }
    items_at-local (suc n) (suc m) from little less =
        on_mark marks.RightBrace 1 from (done 1 from (omega arith))
        (next _ _ (item_at-local from) (λ trees height at onward.
        up 1 at 0 at (omega arith) (omega arith) (next _ _ (items_at-local n m at (omega arith) (omega arith)) (λ rest raised to behind. done 0 to (omega arith)))))

    pub block_at-local : (from : ℕ) → Local k E 1 from (block_at ts calls inner b from) (block_at ws calls other c from)
    unfolding block_at
    block_at-local from = within 1 b c from 1 from budgets (omega arith) (up 1 (from + 1) 1 from (omega arith) (omega arith)
        (next _ _ (items_at-local (length ts + 1) (length ws + 1) (from + 1) (omega arith) (omega arith)) (λ trees height to onward. done 0 to (omega arith))))

    pub otherwise_at-local : (line : ℕ) (test : SourceExpression) (body : UnitStatement) (i j at : ℕ) →
        Local k E 0 at (otherwise_at ts inner b line test body i j at) (otherwise_at ws other c line test body i j at)
    unfolding otherwise_at
    otherwise_at-local line test body i j at =
        on_key keys.Else 0 at (up 1 (at + 1) 0 at (omega arith) (omega arith) (next _ _ (inners (at + 1)) (λ last l to onward. done 0 to (omega arith)))) (done 0 at (omega arith))

    abbrev branch_with : List Token → ((from : ℕ) → ParseOutcome UnitStatement) → ℕ → (from line : ℕ) → ParseOutcome UnitStatement
    branch_with tokens deep budget from line = allowed 2 budget from (after (parenthesized_at tokens (budget - 1) (from + 1)) (λ test i q.
        after (deep q) (λ body j at. otherwise_at tokens deep budget line test body i j at)))

    pub branch_at-local : (from : ℕ) → Local k E 1 from (branch_at ts inner b from) (branch_at ws other c from)
    unfolding branch_at
    branch_at-local from = by_line 1 from (branch_with ts inner b from) (branch_with ws other c from) (λ line.
        within 2 b c from 1 from budgets (omega arith) (up 1 (from + 1) 1 from (omega arith) (omega arith)
        (next _ _ (parenthesized_at-local (b - 1) (c - 1) (Budgets-less budgets) (from + 1)) (λ test i q onward.
        up 1 q 0 q (omega arith) (omega arith) (next _ _ (inners q) (λ body j at behind. otherwise_at-local line test body i j at))))))

    abbrev while_with : List Token → ((from : ℕ) → ParseOutcome UnitStatement) → ℕ → (from line : ℕ) → ParseOutcome UnitStatement
    while_with tokens deep budget from line = allowed 2 budget from (after (parenthesized_at tokens (budget - 1) (from + 1)) (λ test i q.
        after (deep q) (λ body j to. Parsed (While line test body) (max i j + 1) to)))

    pub while_at-local : (from : ℕ) → Local k E 1 from (while_at ts inner b from) (while_at ws other c from)
    unfolding while_at
    while_at-local from = by_line 1 from (while_with ts inner b from) (while_with ws other c from) (λ line.
        within 2 b c from 1 from budgets (omega arith) (up 1 (from + 1) 1 from (omega arith) (omega arith)
        (next _ _ (parenthesized_at-local (b - 1) (c - 1) (Budgets-less budgets) (from + 1)) (λ test i q onward.
        up 1 q 0 q (omega arith) (omega arith) (next _ _ (inners q) (λ body j to behind. done 0 to (omega arith)))))))

    abbrev do_with : List Token → ((from : ℕ) → ParseOutcome UnitStatement) → ℕ → (from line : ℕ) → ParseOutcome UnitStatement
    do_with tokens deep budget from line = allowed 2 budget from (after (deep (from + 1)) (λ body i q.
        expect_key tokens keys.While q (after (parenthesized_at tokens (budget - 1) (q + 1)) (λ test j r.
        expect tokens marks.Semicolon r (Parsed (Do line body test) (max i j + 1) (r + 1))))))

    pub do_at-local : (from : ℕ) → Local k E 1 from (do_at ts inner b from) (do_at ws other c from)
    unfolding do_at
    do_at-local from = by_line 1 from (do_with ts inner b from) (do_with ws other c from) (λ line.
        within 2 b c from 1 from budgets (omega arith) (up 1 (from + 1) 1 from (omega arith) (omega arith)
        (next _ _ (inners (from + 1)) (λ body i q onward.
        up 1 q 0 q (omega arith) (omega arith) (key_then keys.While q
        (up 1 (q + 1) 0 (q + 1) (omega arith) (omega arith) (next _ _ (parenthesized_at-local (b - 1) (c - 1) (Budgets-less budgets) (q + 1)) (λ test j r behind.
        up 1 r 0 r (omega arith) (omega arith) (mark_then marks.Semicolon r (done 0 (r + 1) (omega arith)))))))))))

    pub for_body-local : (line : ℕ) (first : UnitList) (test : SourceExpression) (step : UnitOptional) (height at : ℕ) →
        Local k E 1 at (for_body ts inner b line first test step height at) (for_body ws other c line first test step height at)
    unfolding for_body
    for_body-local line first test step height at = next _ _ (inners at) (λ body raised to onward. done 0 to (omega arith))

    abbrev for_with : List Token → ((from : ℕ) → ParseOutcome UnitStatement) → ℕ → (from line : ℕ) → ParseOutcome UnitStatement
    for_with tokens deep budget from line = allowed 2 budget from (expect tokens marks.LeftParen (from + 1)
        (after (first_at tokens calls (budget - 1) (from + 2)) (λ first i q.
        after (condition_at tokens (budget - 1) q) (λ test j r.
        after (step_at tokens calls (budget - 1) r) (λ step l s.
        for_body tokens deep budget line first test step (max i (max j l)) s)))))

    pub for_at-local : (from : ℕ) → Local k E 1 from (for_at ts calls inner b from) (for_at ws calls other c from)
    unfolding for_at
    for_at-local from = by_line 1 from (for_with ts inner b from) (for_with ws other c from) (λ line.
        within 2 b c from 1 from budgets (omega arith) (up 1 (from + 1) 1 from (omega arith) (omega arith)
        (mark_then marks.LeftParen (from + 1)
        (up 1 (from + 2) 0 (from + 1 + 1) (omega arith) (omega arith) (next _ _ (first_at-local (b - 1) (c - 1) (Budgets-less budgets) few fewer (from + 2)) (λ first i q onward.
        up 1 q 0 q (omega arith) (omega arith) (next _ _ (condition_at-local (b - 1) (c - 1) (Budgets-less budgets) q) (λ test j r behind.
        up 1 r 0 r (omega arith) (omega arith) (next _ _ (step_at-local (b - 1) (c - 1) (Budgets-less budgets) few fewer r) (λ step l s further.
        up 1 s 0 s (omega arith) (omega arith) (for_body-local line first test step (max i (max j l)) s)))))))))))

    pub lone-local : (tree : UnitStatement) (from : ℕ) → Local k E 1 from (lone ts b tree from) (lone ws c tree from)
    unfolding lone
    lone-local tree from = within 1 b c from 1 from budgets (omega arith) (up 1 (from + 1) 1 from (omega arith) (omega arith)
        (mark_then marks.Semicolon (from + 1) (done 0 (from + 1 + 1) (omega arith))))

    abbrev return_with : List Token → ℕ → (from line : ℕ) → ParseOutcome UnitStatement
    return_with tokens budget from line = allowed 2 budget from (after (expression_at tokens (budget - 1) 0 (from + 1)) (λ value height to.
        expect tokens marks.Semicolon to (Parsed (Return line value) (height + 1) (to + 1))))

    pub return_at-local : (from : ℕ) → Local k E 1 from (return_at ts b from) (return_at ws c from)
    unfolding return_at
    return_at-local from = by_line 1 from (return_with ts b from) (return_with ws c from) (λ line.
        within 2 b c from 1 from budgets (omega arith) (up 1 (from + 1) 1 from (omega arith) (omega arith)
        (next _ _ (whole (b - 1) (c - 1) (Budgets-less budgets) (from + 1)) (λ value height to onward.
        up 1 to 0 to (omega arith) (omega arith) (mark_then marks.Semicolon to (done 0 (to + 1) (omega arith)))))))

    either : (t : Bool) (from : ℕ) {x y z w : ParseOutcome UnitStatement} → Local k E 1 from x y → Local k E 1 from z w → Local k E 1 from (cond t x z) (cond t y w)
    either true from one other = one
    either false from one other = other

    pub keyed-local : (key : Keyword) (from : ℕ) → Local k E 1 from (keyed ts calls inner b key from) (keyed ws calls other c key from)
    unfolding keyed
    keyed-local key from =
        either (key_is key keys.If) from (branch_at-local from)
        (either (key_is key keys.While) from (while_at-local from)
        (either (key_is key keys.Do) from (do_at-local from)
        (either (key_is key keys.For) from (for_at-local from)
        (either (key_is key keys.Break) from (by_line 1 from (λ line. lone ts b (Break line) from) (λ line. lone ws c (Break line) from) (λ line. lone-local (Break line) from))
        (either (key_is key keys.Continue) from
        (by_line 1 from (λ line. lone ts b (Continue line) from) (λ line. lone ws c (Continue line) from) (λ line. lone-local (Continue line) from))
        (either (key_is key keys.Return) from (return_at-local from) (ended_at-local b c budgets few fewer from)))))))

    pub started-local : (mark : Mark) (from : ℕ) → Local k E 1 from (started ts calls inner b mark from) (started ws calls other c mark from)
    unfolding started
    started-local mark from =
        either (mark_is mark marks.LeftBrace) from (next _ _ (block_at-local from) (λ items height to onward. done 0 to (omega arith)))
        (either (mark_is mark marks.Semicolon) from (within 1 b c from 1 from budgets (omega arith) (done 1 from (omega arith))) (ended_at-local b c budgets few fewer from))

    pub statement_from-local : (from : ℕ) → Local k E 1 from (statement_from ts calls inner b from) (statement_from ws calls other c from)
    unfolding statement_from statement_on
    statement_from-local from = by_kind 1 from (λ kind. statement_on ts calls inner b kind from) (λ kind. statement_on ws calls other c kind from) on
      where
        on : (kind : Option TokenKind) → Local k E 1 from (statement_on ts calls inner b kind from) (statement_on ws calls other c kind from)
        on (Some (kinds.Key key)) = keyed-local key from
        on (Some (kinds.Mark mark)) = started-local mark from
        on (Some (kinds.Name symbol)) = ended_at-local b c budgets few fewer from
        on (Some (kinds.Number value)) = ended_at-local b c budgets few fewer from
        on None = ended_at-local b c budgets few fewer from

  high-local : (c : ℕ) (y : (from : ℕ) → ParseOutcome UnitStatement) → Budgets E 0 c → ((from : ℕ) → c ≡ 0 → y from ≡ TooHigh from) → (from : ℕ) → Local k E 1 from (TooHigh from) (y from)
  high-local c y budgets none from = record { goes = omega arith; carries = λ s e. none from (sym (budgets.same (e refl))) }

  module _ (few : k < length ts + 1) (fewer : k < length ws + 1) where
    pub statement_at-local : (b c : ℕ) → Budgets E b c → (from : ℕ) → Local k E 1 from (statement_at ts calls b from) (statement_at ws calls c from)
    unfolding statement_at
    statement_at-local zero zero budgets from =
        statement_from-local 0 0 budgets few fewer _ _ (λ from'. too_high k E 1 from' from' (omega arith)) from
    statement_at-local zero (suc c) budgets from =
        statement_from-local 0 (suc c) budgets few fewer _ _ (λ from'. high-local (suc c) (statement_at ws calls c) budgets (λ from'' none. cc) from') from
    statement_at-local (suc b) zero budgets from = let low = budgets.low in absurd (omega arith)
    statement_at-local (suc b) (suc c) budgets from =
        statement_from-local (suc b) (suc c) budgets few fewer _ _ (λ from'. statement_at-local b c (less b c budgets) from') from
      where
        less : (n m : ℕ) → Budgets E (suc n) (suc m) → Budgets E n m
        less n m turns = let low = turns.low in record { low = omega arith; same = λ e. let same = turns.same e in omega arith }

    pub statement_below-local : (b c : ℕ) → Budgets E b c → (from : ℕ) → Local k E 1 from (statement_below ts calls b from) (statement_below ws calls c from)
    unfolding statement_below
    statement_below-local zero zero budgets from = too_high k E 1 from from (omega arith)
    statement_below-local zero (suc c) budgets from = high-local (suc c) (statement_at ws calls c) budgets (λ from' none. cc) from
    statement_below-local (suc b) zero budgets from = let low = budgets.low in absurd (omega arith)
    statement_below-local (suc b) (suc c) budgets from = let low = budgets.low in
        statement_at-local b c (record { low = omega arith; same = λ e. let same = budgets.same e in omega arith }) from

    pub main_block-local : (b c : ℕ) → Budgets E b c → (from : ℕ) → Local k E 1 from (main_block ts calls b from) (main_block ws calls c from)
    unfolding main_block nothing_behind
    main_block-local b c budgets from =
        mark_then marks.RightParen from
        (up 1 (from + 1) 0 (from + 1) (omega arith) (omega arith)
        (on_mark marks.LeftBrace 1 (from + 1)
        (next _ _ (block_at-local b c budgets few fewer (statement_below ts calls b) (statement_below ws calls c) (statement_below-local b c budgets) (from + 1)) (λ items height to onward.
        by_kind 0 to (λ kind. nothing_behind items height to kind) (λ kind. nothing_behind items height to kind) (λ kind. none items height to kind)))
        (unreadable k E 1 (from + 1) (from + 1) (omega arith))))
      where
        none : (items : UnitList) (height to : ℕ) (kind : Option TokenKind) → Local k E 0 to (nothing_behind items height to kind) (nothing_behind items height to kind)
        none items height to None = done 0 to (omega arith)
        none items height to (Some kind) = unreadable k E 0 to to (omega arith)

    pub main_at-local : (b c : ℕ) → Budgets E b c → (from : ℕ) → Local k E 1 from (main_at ts calls b from) (main_at ws calls c from)
    unfolding main_at
    main_at-local b c budgets from =
        key_then keys.Main from (up 1 (from + 1) 0 (from + 1) (omega arith) (omega arith) (mark_then marks.LeftParen (from + 1)
        (up 0 (from + 2) 0 (from + 1 + 1) (omega arith) (omega arith)
        (on_key keys.Void 0 (from + 2) (up 1 (from + 3) 0 (from + 2) (omega arith) (omega arith) (main_block-local b c budgets (from + 3)))
        (up 1 (from + 2) 0 (from + 2) (omega arith) (omega arith) (main_block-local b c budgets (from + 2)))))))
