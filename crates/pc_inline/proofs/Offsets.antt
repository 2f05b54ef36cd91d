-- Where the tree is not too high, the symbols that the code gives to copies are those of the definitions.
use Rattle.std.proofs.Common.{◌≡◌, refl, sym, ap, subst, ◌∙◌, ℕ, zero, suc, ◌+◌, ◌*◌, ◌<◌, ◌≤◌, Bool, true, false, List, [], ◌∷◌, map, Option, Some, None}
use Rattle.std.proofs.Common.{option_map, arith, nat_eq, length}
use Rattle.std.specs.Prelude.{if◌then◌else◌}
use Rattle.pc_word.proofs.Truth.{and_true, less_of}
use Rattle.pc_syntax.specs.declared.unit.Target.{Target}
use Rattle.pc_syntax.specs.declared.unit.Param.{Param}
use Rattle.pc_syntax.specs.Source.{SourceExpression, Literal, Variable, Input, Indexed, Prefixed, Combined, Conjunction, Disjunction, Conditional}
use Rattle.pc_syntax.specs.Source.{SourceStatement, OptionalStatement, SourceList, Scope, ScalarDeclaration, ArrayDeclaration, Assignment, Printing, Evaluation, Branch}
use Rattle.pc_syntax.specs.Source.{WhileLoop, DoLoop, ForLoop, ReturnFrom, Present, No_more, More, appended}
use Rattle.pc_syntax.specs.Unit.{UnitStatement, UnitOptional, UnitList, Block, Scalar, Array, Assign, Print, Eval, If, While, Do, For}
use Rattle.pc_syntax.specs.Unit.{Break, Continue, Return, Empty, Call, Without, With, Finish, Item, UnitFunction}
use Rattle.pc_syntax.specs.Proper.{uses_only, is_below, optional_is_below, all_below, target_is_below, parameters_below, is_proper, optional_is_proper, list_is_proper}
use Rattle.pc_syntax.specs.Proper.{function_is_proper, functions_are_proper}
use Rattle.pc_calls.specs.Inline.{copied, renamed, renamed_optional, renamed_parameter, Copy, Site, declarator_list, parameters_list, result_list, call_block, call_list}
use Rattle.pc_calls.specs.Inline.{in_one, inlined, inlined_optional, inlined_list, copies, copy_of}
use Rattle.pc_calls.specs.Measures.{Size, no_size, together, no_extent, around, extent}
use Rattle.pc_calls.specs.Counted.{FunctionSize, block_size, counted, counted_optional, counted_list, function_sizes}
use Rattle.pc_inline.specs.models.Sites.{shifted, next_offset, copies_at}

-- ---- symbols

-- the offset of a depth
pub offset_of : ℕ → ℕ
offset_of zero = 0
offset_of (suc depth) = next_offset (offset_of depth)

shifted-small : (offset symbol : ℕ) → offset + symbol < 4294967296 → shifted offset symbol ≡ offset + symbol
unfolding shifted
shifted-small offset symbol small = omega (arith, small)

offset-counted : (depth : ℕ) → depth < 65536 → offset_of depth ≡ 65536 * depth
unfolding offset_of
offset-counted zero small = refl
offset-counted (suc depth) small =
    let before = offset-counted depth (omega (arith, small)) in
    let is = shifted-small (offset_of depth) 65536 (omega (arith, before, small)) in
    omega (arith, is, before)

copied-counted : (depth symbol : ℕ) → copied 65536 depth symbol ≡ 65536 * depth + symbol
copied-counted zero symbol = omega arith
copied-counted (suc depth) symbol = let before = copied-counted depth symbol in omega (arith, before)

-- the symbols of a copy at a depth
symbols-same : (depth symbol : ℕ) → depth < 65536 → symbol < 65536 → shifted (offset_of depth) symbol ≡ copied 65536 depth symbol
symbols-same depth symbol small below =
    let at = offset-counted depth small in
    let is = shifted-small (offset_of depth) symbol (omega (arith, at, small, below)) in
    let want = copied-counted depth symbol in
    omega (arith, is, at, want)

-- a call's block and what comes after it are no higher than both
declared-room : (d : Bool) (block rest : Size) (depth : ℕ) → (together (if d then together (around no_extent no_size) block else block) rest).height + depth ≤ 256 →
    (block.height + depth ≤ 256) × (rest.height + depth ≤ 256)
declared-room true block rest depth room = (omega (arith, room), omega (arith, room))
declared-room false block rest depth room = (omega (arith, room), omega (arith, room))

-- ---- expressions

module _ (r r' : ℕ → ℕ) (same : (symbol : ℕ) → symbol < 65536 → r symbol ≡ r' symbol) where
  renamed-same : (e : SourceExpression) → is_below 65536 e ≡ true → renamed r e ≡ renamed r' e
  unfolding renamed uses_only
  renamed-same (Literal value) below = refl
  renamed-same (Variable symbol line) below = ap (λ (x : ℕ). Variable x line) (same symbol (less_of symbol 65536 below))
  renamed-same (Input line) below = refl
  renamed-same (Indexed symbol line at index) below =
      let both = and_true _ _ below in
      ap (λ (x : ℕ). Indexed x line at (renamed r index)) (same symbol (less_of symbol 65536 both.0)) ∙ ap (Indexed (r' symbol) line at) (renamed-same index both.1)
  renamed-same (Prefixed op operand) below = ap (Prefixed op) (renamed-same operand below)
  renamed-same (Combined op at left right) below =
      let both = and_true _ _ below in
      ap (λ (x : SourceExpression). Combined op at x (renamed r right)) (renamed-same left both.0) ∙ ap (Combined op at (renamed r' left)) (renamed-same right both.1)
  renamed-same (Conjunction left right) below =
      let both = and_true _ _ below in
      ap (λ (x : SourceExpression). Conjunction x (renamed r right)) (renamed-same left both.0) ∙ ap (Conjunction (renamed r' left)) (renamed-same right both.1)
  renamed-same (Disjunction left right) below =
      let both = and_true _ _ below in
      ap (λ (x : SourceExpression). Disjunction x (renamed r right)) (renamed-same left both.0) ∙ ap (Disjunction (renamed r' left)) (renamed-same right both.1)
  renamed-same (Conditional test one other) below =
      let first = and_true _ _ below in
      let both = and_true _ _ first.1 in
      ap (λ (x : SourceExpression). Conditional x (renamed r one) (renamed r other)) (renamed-same test first.0)
      ∙ ap (λ (x : SourceExpression). Conditional (renamed r' test) x (renamed r other)) (renamed-same one both.0)
      ∙ ap (Conditional (renamed r' test) (renamed r' one)) (renamed-same other both.1)

  optional-same : (e : Option SourceExpression) → optional_is_below 65536 e ≡ true → renamed_optional r e ≡ renamed_optional r' e
  optional-same None below = refl
  optional-same (Some e) below = ap (λ (x : SourceExpression). Some x) (renamed-same e below)

  all-same : (es : List SourceExpression) → all_below 65536 es ≡ true → map (renamed r) es ≡ map (renamed r') es
  all-same [] below = refl
  all-same (e ∷ es) below =
      let both = and_true _ _ below in
      ap (λ (x : SourceExpression). x ∷ map (renamed r) es) (renamed-same e both.0) ∙ ap (λ (x : List SourceExpression). renamed r' e ∷ x) (all-same es both.1)

  parameters-same : (ps : List Param) → parameters_below 65536 ps ≡ true → map (renamed_parameter r) ps ≡ map (renamed_parameter r') ps
  parameters-same [] below = refl
  parameters-same (p ∷ ps) below =
      let both = and_true _ _ below in
      ap (λ (x : ℕ). record p { symbol = x } ∷ map (renamed_parameter r) ps) (same p.symbol (less_of p.symbol 65536 both.0))
      ∙ ap (λ (x : List Param). renamed_parameter r' p ∷ x) (parameters-same ps both.1)

  result_list-same : (line : ℕ) (target : Option Target) (result : Option SourceExpression) → target_is_below 65536 target ≡ true →
      result_list r line target result ≡ result_list r' line target result
  result_list-same line None None below = refl
  result_list-same line None (Some e) below = refl
  result_list-same line (Some target) result below = ap (λ (x : ℕ). result_list (λ symbol. x) line (Some target) result) (same target.symbol (less_of target.symbol 65536 below))

  -- ---- calls

  module _ (k : Bool) (c c' : ℕ → Option Copy) (known : ℕ → Option FunctionSize) (depth : ℕ)
      (none : (symbol : ℕ) → known symbol ≡ None → c symbol ≡ c' symbol)
      (some : (symbol : ℕ) (size : FunctionSize) → known symbol ≡ Some size → size.items.height + suc depth ≤ 256 → c symbol ≡ c' symbol) where
    abbrev ours : Site
    ours = record { copies = c; rename = r; in_function = k }

    abbrev theirs : Site
    theirs = record { copies = c'; rename = r'; in_function = k }

    copy-same : (function : ℕ) (target : Option Target) (arguments : List SourceExpression) → (block_size target (known function) arguments).height + depth ≤ 256 → c function ≡ c' function
    copy-same function target arguments room = by (known function) refl room
      where
        by : (o : Option FunctionSize) → known function ≡ o → (block_size target o arguments).height + depth ≤ 256 → c function ≡ c' function
        by None is room = none function is
        by (Some size) is room = some function size is (omega (arith, room))

    block-same : (line : ℕ) (target : Option Target) (o : Option Copy) (arguments : List SourceExpression) → target_is_below 65536 target ≡ true → all_below 65536 arguments ≡ true →
        call_block ours line target o arguments ≡ call_block theirs line target o arguments
    block-same line target None arguments below fits = refl
    block-same line target (Some copy) arguments below fits =
        ap (λ (es : List SourceExpression). Scope (appended (parameters_list copy.parameters es) (appended copy.items (result_list r line target copy.result)))) (all-same arguments fits)
        ∙ ap (λ (l : SourceList). Scope (appended (parameters_list copy.parameters (map (renamed r') arguments)) (appended copy.items l))) (result_list-same line target copy.result below)

    call_list-same : (target : Option Target) (block : SourceStatement) → target_is_below 65536 target ≡ true → call_list ours target block ≡ call_list theirs target block
    call_list-same None block below = refl
    call_list-same (Some target) block below =
        ap (λ (x : ℕ). if target.declared then More (ScalarDeclaration x target.line None) (More block No_more) else More block No_more) (same target.symbol (less_of target.symbol 65536 below))

    call-same : (line : ℕ) (target : Option Target) (function : ℕ) (arguments : List SourceExpression) → target_is_below 65536 target ≡ true → all_below 65536 arguments ≡ true →
        (block_size target (known function) arguments).height + depth ≤ 256 →
        call_list ours target (call_block ours line target (c function) arguments) ≡ call_list theirs target (call_block theirs line target (c' function) arguments)
    call-same line target function arguments below fits room =
        ap (λ (o : Option Copy). call_list ours target (call_block ours line target o arguments)) (copy-same function target arguments room)
        ∙ ap (call_list ours target) (block-same line target (c' function) arguments below fits)
        ∙ call_list-same target (call_block theirs line target (c' function) arguments) below

    declarator-same : (symbol line : ℕ) (initial : Option SourceExpression) → symbol < 65536 → optional_is_below 65536 initial ≡ true →
        declarator_list k (r symbol) line (renamed_optional r initial) ≡ declarator_list k (r' symbol) line (renamed_optional r' initial)
    declarator-same symbol line initial below fits =
        ap (λ (x : ℕ). declarator_list k x line (renamed_optional r initial)) (same symbol below) ∙ ap (declarator_list k (r' symbol) line) (optional-same initial fits)

    -- ---- statements

    mutual
      unfolding inlined is_proper counted

      part-same : (s : UnitStatement) → is_proper 65536 s ≡ true → (counted known k s).height + depth ≤ 256 → inlined ours s ≡ inlined theirs s
      part-same (Block items) proper room = ap Scope (list-same items proper (omega (arith, room)))
      part-same (Scalar symbol line initial) proper room = let both = and_true _ _ proper in ap in_one (declarator-same symbol line initial (less_of symbol 65536 both.0) both.1)
      part-same (Array symbol line at length values) proper room = ap (λ (x : ℕ). ArrayDeclaration x line at length values) (same symbol (less_of symbol 65536 proper))
      part-same (Assign symbol line index bracket op at value) proper room =
          let one = and_true _ _ proper in
          let two = and_true _ _ one.1 in
          ap (λ (x : ℕ). Assignment x line (renamed_optional r index) bracket op at (renamed r value)) (same symbol (less_of symbol 65536 one.0))
          ∙ ap (λ (x : Option SourceExpression). Assignment (r' symbol) line x bracket op at (renamed r value)) (optional-same index two.0)
          ∙ ap (Assignment (r' symbol) line (renamed_optional r' index) bracket op at) (renamed-same value two.1)
      part-same (Print line value) proper room = ap (Printing line) (renamed-same value proper)
      part-same (Eval line value) proper room = ap (Evaluation line) (renamed-same value proper)
      part-same (If line test body otherwise) proper room =
          let one = and_true _ _ proper in
          let two = and_true _ _ one.1 in
          let three = and_true _ _ two.0 in
          ap (λ (x : SourceExpression). Branch line x (inlined ours body) (inlined_optional ours otherwise)) (renamed-same test one.0)
          ∙ ap (λ (x : SourceStatement). Branch line (renamed r' test) x (inlined_optional ours otherwise)) (part-same body three.1 (omega (arith, room)))
          ∙ ap (Branch line (renamed r' test) (inlined theirs body)) (held-same otherwise two.1 (omega (arith, room)))
      part-same (While line test body) proper room =
          let one = and_true _ _ proper in
          let two = and_true _ _ one.1 in
          ap (λ (x : SourceExpression). WhileLoop line x (inlined ours body)) (renamed-same test one.0) ∙ ap (WhileLoop line (renamed r' test)) (part-same body two.1 (omega (arith, room)))
      part-same (Do line body test) proper room =
          let one = and_true _ _ proper in
          let two = and_true _ _ one.0 in
          ap (λ (x : SourceStatement). DoLoop line x (renamed r test)) (part-same body two.1 (omega (arith, room))) ∙ ap (DoLoop line (inlined theirs body)) (renamed-same test one.1)
      part-same (For line first test step body) proper room =
          let one = and_true _ _ proper in
          let two = and_true _ _ one.1 in
          let three = and_true _ _ two.1 in
          let four = and_true _ _ three.1 in
          ap (λ (x : SourceList). ForLoop line x (renamed r test) (inlined_optional ours step) (inlined ours body)) (list-same first one.0 (omega (arith, room)))
          ∙ ap (λ (x : SourceExpression). ForLoop line (inlined_list theirs first) x (inlined_optional ours step) (inlined ours body)) (renamed-same test two.0)
          ∙ ap (λ (x : OptionalStatement). ForLoop line (inlined_list theirs first) (renamed r' test) x (inlined ours body)) (held-same step three.0 (omega (arith, room)))
          ∙ ap (ForLoop line (inlined_list theirs first) (renamed r' test) (inlined_optional theirs step)) (part-same body four.1 (omega (arith, room)))
      part-same (Break line) proper room = refl
      part-same (Continue line) proper room = refl
      part-same (Return line value) proper room = ap (ReturnFrom line) (renamed-same value proper)
      part-same Empty proper room = refl
      part-same (Call line target function at arguments) proper room = let both = and_true _ _ proper in ap in_one (call-same line target function arguments both.0 both.1 room)

      held-same : (s : UnitOptional) → optional_is_proper 65536 s ≡ true → (counted_optional known k s).height + depth ≤ 256 → inlined_optional ours s ≡ inlined_optional theirs s
      held-same Without proper room = refl
      held-same (With s) proper room = let both = and_true _ _ proper in ap Present (part-same s both.1 room)

      pub list-same : (items : UnitList) → list_is_proper 65536 items ≡ true → (counted_list known k items).height + depth ≤ 256 → inlined_list ours items ≡ inlined_list theirs items
      list-same Finish proper room = refl
      list-same (Item (Scalar symbol line initial) rest) proper room =
          let both = and_true _ _ proper in
          let own = and_true _ _ both.0 in
          ap (λ (l : SourceList). appended l (inlined_list ours rest)) (declarator-same symbol line initial (less_of symbol 65536 own.0) own.1)
          ∙ ap (appended (declarator_list k (r' symbol) line (renamed_optional r' initial))) (list-same rest both.1 (omega (arith, room)))
      list-same (Item (Call line None function at arguments) rest) proper room =
          let both = and_true _ _ proper in
          let own = and_true _ _ both.0 in
          ap (λ (l : SourceList). appended l (inlined_list ours rest)) (call-same line None function arguments own.0 own.1 (omega (arith, room)))
          ∙ ap (appended (call_list theirs None (call_block theirs line None (c' function) arguments))) (list-same rest both.1 (omega (arith, room)))
      list-same (Item (Call line (Some target) function at arguments) rest) proper room =
          let both = and_true _ _ proper in
          let own = and_true _ _ both.0 in
          let height = declared-room target.declared (block_size (Some target) (known function) arguments) (counted_list known k rest) depth room in
          ap (λ (l : SourceList). appended l (inlined_list ours rest)) (call-same line (Some target) function arguments own.0 own.1 height.0)
          ∙ ap (appended (call_list theirs (Some target) (call_block theirs line (Some target) (c' function) arguments))) (list-same rest both.1 height.1)
      list-same (Item s rest) proper room =
          let both = and_true _ _ proper in
          ap (λ (x : SourceStatement). More x (inlined_list ours rest)) (part-same s both.0 (omega (arith, room))) ∙ ap (More (inlined theirs s)) (list-same rest both.1 (omega (arith, room)))

-- ---- functions

-- the copies of functions that the code makes at a depth are those of the definitions, where they are not too high
pub record Copies (fs : List UnitFunction) (depth symbol : ℕ) : Type 0 where
  pub none : function_sizes fs symbol ≡ None → copies_at (offset_of (suc depth)) fs symbol ≡ copies 65536 fs (suc depth) symbol
  pub some : (size : FunctionSize) → function_sizes fs symbol ≡ Some size → size.items.height + suc depth ≤ 256 →
      copies_at (offset_of (suc depth)) fs symbol ≡ copies 65536 fs (suc depth) symbol

-- one function more, which has the name or not
module _ (last : UnitFunction) (earlier : List UnitFunction) (depth symbol : ℕ) where
  abbrev size_of_last : FunctionSize
  size_of_last = record { parameters = length last.parameters; items = counted_list (function_sizes earlier) true last.items; result = option_map extent last.result }

  abbrev mine : Copy
  mine = copy_of (shifted (offset_of (suc depth))) (copies_at (offset_of (suc (suc depth))) earlier) last

  abbrev wanted : Copy
  wanted = copy_of (copied 65536 (suc depth)) (copies 65536 earlier (suc (suc depth))) last

  last-same : ((symbol : ℕ) → Copies earlier (suc depth) symbol) → function_is_proper 65536 last ≡ true → size_of_last.items.height + suc depth ≤ 256 → mine ≡ wanted
  last-same inner proper room =
      let one = and_true (parameters_below 65536 last.parameters) _ proper in
      let two = and_true (list_is_proper 65536 last.items) _ one.1 in
      let small : suc depth < 65536 = omega (arith, room) in
      let r = shifted (offset_of (suc depth)) in
      let r' = copied 65536 (suc depth) in
      let same : (symbol : ℕ) → symbol < 65536 → r symbol ≡ r' symbol = λ symbol below. symbols-same (suc depth) symbol small below in
      let items = list-same r r' same true (copies_at (offset_of (suc (suc depth))) earlier) (copies 65536 earlier (suc (suc depth))) (function_sizes earlier) (suc depth)
      (λ symbol is. (inner symbol).none is) (λ symbol size is room. (inner symbol).some size is room) last.items two.0 room in
      let first = parameters-same r r' same last.parameters one.0 in
      let result = optional-same r r' same last.result two.1 in
      λ i. record { parameters = first i; items = items i; result = result i }

  none-by : (b : Bool) (A B : Option Copy) (known : Option FunctionSize) → (known ≡ None → A ≡ B) → (if b then Some size_of_last else known) ≡ None →
      (if b then Some mine else A) ≡ (if b then Some wanted else B)
  none-by true A B known more is = absurd (cc)
  none-by false A B known more is = more is

  some-by : (b : Bool) (A B : Option Copy) (known : Option FunctionSize) (size : FunctionSize) → (size_of_last.items.height + suc depth ≤ 256 → mine ≡ wanted) →
      (known ≡ Some size → size.items.height + suc depth ≤ 256 → A ≡ B) → (if b then Some size_of_last else known) ≡ Some size → size.items.height + suc depth ≤ 256 →
      (if b then Some mine else A) ≡ (if b then Some wanted else B)
  some-by true A B known size first more is room =
      let same : size_of_last ≡ size = cc in
      ap (λ (x : Copy). Some x) (first (subst (λ (s : FunctionSize). s.items.height + suc depth ≤ 256) (sym same) room))
  some-by false A B known size first more is room = more is room

pub copies-same : (fs : List UnitFunction) → functions_are_proper 65536 fs ≡ true → (depth symbol : ℕ) → Copies fs depth symbol
unfolding function_sizes copies copies_at functions_are_proper offset_of
copies-same [] proper depth symbol = record { none = λ is. refl; some = λ size is room. refl }
copies-same (last ∷ earlier) proper depth symbol =
    let both = and_true (function_is_proper 65536 last) (functions_are_proper 65536 earlier) proper in
    let more = copies-same earlier both.1 depth symbol in
    let first = last-same last earlier depth symbol (copies-same earlier both.1 (suc depth)) both.0 in
    record {
      none = λ is. none-by last earlier depth symbol (nat_eq symbol last.symbol) _ _ (function_sizes earlier symbol) more.none is;
      some = λ size is room. some-by last earlier depth symbol (nat_eq symbol last.symbol) _ _ (function_sizes earlier symbol) size first (more.some size) is room;
    }

-- the statements of `main`
pub main-same : (fs : List UnitFunction) (items : UnitList) → functions_are_proper 65536 fs ≡ true → list_is_proper 65536 items ≡ true →
    (counted_list (function_sizes fs) false items).height + 0 ≤ 256 →
    inlined_list (record { copies = copies_at (next_offset 0) fs; rename = shifted 0; in_function = false }) items
    ≡ inlined_list (record { copies = copies 65536 fs 1; rename = copied 65536 0; in_function = false }) items
unfolding offset_of
main-same fs items proper fits room =
    list-same (shifted 0) (copied 65536 0) (λ symbol below. symbols-same 0 symbol (omega arith) below) false (copies_at (next_offset 0) fs) (copies 65536 fs 1) (function_sizes fs) 0
    (λ symbol is. (copies-same fs proper 0 symbol).none is) (λ symbol size is room. (copies-same fs proper 0 symbol).some size is room) items fits room
