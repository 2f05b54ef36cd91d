-- What is counted of a unit is the size of its inlined program.
use Rattle.std.proofs.Common.{◌≡◌, ℕ, suc, ◌+◌, max, Bool, true, false, List, [], ◌∷◌, ◌++◌, map, Option, Some, None, option_map, refl, sym, ap, ◌∙◌, subst, arith, nat_eq, length}
use Rattle.std.specs.Prelude.{if◌then◌else◌, reverse}
use Rattle.std.proofs.lemmas.List.{reverse-append}
use Rattle.pc_word.proofs.Truth.{and_true, and_made, not_true}
use Rattle.pc_syntax.specs.declared.operator.BinaryOp.{BinaryOp}
use Rattle.pc_syntax.specs.declared.operator.BinaryOp.TheVariants.{Add, Sub, Mul, Div, Rem, Shl, Shr, Less, LessEq, Greater, GreaterEq, Equal, Unequal, BitAnd, BitXor, BitOr}
use Rattle.pc_syntax.specs.Source.{SourceExpression, Literal, Variable, Input, Indexed, Prefixed, Combined, Conjunction, Disjunction, Conditional, SourceList, No_more}
use Rattle.pc_syntax.specs.Source.{More, appended, ScalarDeclaration}
use Rattle.pc_syntax.specs.declared.unit.Target.{Target}
use Rattle.pc_syntax.specs.declared.unit.Param.{Param}
use Rattle.pc_syntax.specs.Unit.{UnitStatement, UnitOptional, UnitList, Block, Scalar, Array, Assign, Print, Eval, If, While, Do, For}
use Rattle.pc_syntax.specs.Unit.{Break, Continue, Return, Empty, Call, Without, With, Finish, Item, UnitFunction, TranslationUnit}
use Rattle.pc_calls.specs.Inline.{copied, renamed, renamed_optional, renamed_parameter, Copy, Site, declarator_list, parameters_list, result_list, call_block, call_list}
use Rattle.pc_calls.specs.Inline.{in_one, inlined, inlined_optional, inlined_list, copies, copy_of, main_site, inlined_program}
use Rattle.pc_syntax.specs.Proper.{declares_nothing, is_proper, optional_is_proper, list_is_proper, function_is_proper, functions_are_proper, unit_is_proper}
use Rattle.pc_calls.specs.Measures.{Size, is_one, no_size, together, Extent, no_extent, leaf, beside, raised, indexed, around, extent}
use Rattle.pc_calls.specs.Measures.{optional_extent, changed_extent, assignment_extent, statement_measure, branch_measure, list_measure}
use Rattle.pc_calls.specs.Counted.{FunctionSize, arguments_size, result_size, block_size, declarator_size, placed_size, counted, counted_optional, counted_list, function_sizes, unit_size}

max-assoc : (a b c : ℕ) → max (max a b) c ≡ max a (max b c)
max-assoc a b c = grind arith

together-none : (z : Size) → together no_size z ≡ z
together-none z = λ i. record { count = zero_plus z.count i; nodes = zero_plus z.nodes i; height = zero_max z.height i }
  where
    zero_max : (a : ℕ) → max 0 a ≡ a
    zero_max a = grind arith

    zero_plus : (a : ℕ) → 0 + a ≡ a
    zero_plus a = omega arith

together-assoc : (a b c : Size) → together (together a b) c ≡ together a (together b c)
together-assoc a b c =
    λ i. record { count = plus a.count b.count c.count i; nodes = plus a.nodes b.nodes c.nodes i; height = max-assoc a.height b.height c.height i }
  where
    plus : (a b c : ℕ) → a + b + c ≡ a + (b + c)
    plus a b c = omega arith

measure-appended : (front rest : SourceList) → list_measure (appended front rest) ≡ together (list_measure front) (list_measure rest)
unfolding statement_measure
measure-appended No_more rest = sym (together-none (list_measure rest))
measure-appended (More first others) rest =
    ap (together (statement_measure first)) (measure-appended others rest) ∙ sym (together-assoc (statement_measure first) (list_measure others) (list_measure rest))

-- ---- expressions

both : {a b c d : Extent} → a ≡ b → c ≡ d → raised (beside a c) ≡ raised (beside b d)
both one other = λ i. raised (beside (one i) (other i))

module _ (r : ℕ → ℕ) where
  extent-renamed : (e : SourceExpression) → extent (renamed r e) ≡ extent e
  unfolding renamed extent
  extent-renamed (Literal value) = refl
  extent-renamed (Variable symbol line) = refl
  extent-renamed (Input line) = refl
  extent-renamed (Indexed symbol line at index) = ap raised (extent-renamed index)
  extent-renamed (Prefixed op operand) = ap raised (extent-renamed operand)
  extent-renamed (Combined op at left right) = both (extent-renamed left) (extent-renamed right)
  extent-renamed (Conjunction left right) = both (extent-renamed left) (extent-renamed right)
  extent-renamed (Disjunction left right) = both (extent-renamed left) (extent-renamed right)
  extent-renamed (Conditional test one other) =
      ap raised (ap (λ (x : Extent). beside x (beside (extent (renamed r one)) (extent (renamed r other)))) (extent-renamed test)
      ∙ ap (λ (x : Extent). beside (extent test) (beside x (extent (renamed r other)))) (extent-renamed one)
      ∙ ap (λ (x : Extent). beside (extent test) (beside (extent one) x)) (extent-renamed other))

  optional-renamed : (e : Option SourceExpression) → optional_extent (renamed_optional r e) ≡ optional_extent e
  optional-renamed None = refl
  optional-renamed (Some e) = extent-renamed e

  one-renamed : (e : SourceExpression) → is_one (renamed r e) ≡ is_one e
  unfolding renamed
  one-renamed (Literal value) = refl
  one-renamed (Variable symbol line) = refl
  one-renamed (Input line) = refl
  one-renamed (Indexed symbol line at index) = refl
  one-renamed (Prefixed op operand) = refl
  one-renamed (Combined op at left right) = refl
  one-renamed (Conjunction left right) = refl
  one-renamed (Disjunction left right) = refl
  one-renamed (Conditional test one other) = refl

  stepped-renamed : (e : SourceExpression) →
      (if is_one (renamed r e) then (record { nodes = 1; high = 0 }) else extent (renamed r e)) ≡ (if is_one e then (record { nodes = 1; high = 0 }) else extent e)
  stepped-renamed e =
      ap (λ (b : Bool). if b then (record { nodes = 1; high = 0 }) else extent (renamed r e)) (one-renamed e)
      ∙ ap (λ (h : Extent). if is_one e then (record { nodes = 1; high = 0 }) else h) (extent-renamed e)

  changed-renamed : (op : BinaryOp) (e : SourceExpression) → changed_extent op (renamed r e) ≡ changed_extent op e
  changed-renamed Add e = stepped-renamed e
  changed-renamed Sub e = stepped-renamed e
  changed-renamed Mul e = extent-renamed e
  changed-renamed Div e = extent-renamed e
  changed-renamed Rem e = extent-renamed e
  changed-renamed Shl e = extent-renamed e
  changed-renamed Shr e = extent-renamed e
  changed-renamed Less e = extent-renamed e
  changed-renamed LessEq e = extent-renamed e
  changed-renamed Greater e = extent-renamed e
  changed-renamed GreaterEq e = extent-renamed e
  changed-renamed Equal e = extent-renamed e
  changed-renamed Unequal e = extent-renamed e
  changed-renamed BitAnd e = extent-renamed e
  changed-renamed BitXor e = extent-renamed e
  changed-renamed BitOr e = extent-renamed e

  assignment-renamed : (index : Option SourceExpression) (op : Option BinaryOp) (value : SourceExpression) →
      assignment_extent (renamed_optional r index) op (renamed r value) ≡ assignment_extent index op value
  assignment-renamed None None value = extent-renamed value
  assignment-renamed None (Some op) value = changed-renamed op value
  assignment-renamed (Some index) op value =
      ap (λ (h : Extent). beside (indexed h) (extent (renamed r value))) (extent-renamed index)
      ∙ ap (λ (h : Extent). beside (indexed (extent index)) h) (extent-renamed value)

-- ---- calls

-- what is known of a function's size is that of its copies
abbrev pub Agree : Option FunctionSize → Option Copy → Type 0
Agree None None = Unit {0}
Agree None (Some copy) = ⊥
Agree (Some size) None = ⊥
Agree (Some size) (Some copy) = (size.parameters ≡ length copy.parameters) × (size.items ≡ list_measure copy.items) × (size.result ≡ option_map extent copy.result)

arguments-measured : (r : ℕ → ℕ) (ps : List Param) (arguments : List SourceExpression) → list_measure (parameters_list ps (map (renamed r) arguments)) ≡ arguments_size (length ps) arguments
unfolding statement_measure
arguments-measured r [] arguments = refl
arguments-measured r (p ∷ ps) [] = refl
arguments-measured r (p ∷ ps) (e ∷ arguments) =
    ap (λ (h : Extent). together (around h no_size) (list_measure (parameters_list ps (map (renamed r) arguments)))) (extent-renamed r e)
    ∙ ap (together (around (extent e) no_size)) (arguments-measured r ps arguments)

-- one statement alone
alone : (z : Size) → together z no_size ≡ z
alone z = λ i. record { count = plus_zero z.count i; nodes = plus_zero z.nodes i; height = max_zero z.height i }
  where
    plus_zero : (a : ℕ) → a + 0 ≡ a
    plus_zero a = omega arith

    max_zero : (a : ℕ) → max a 0 ≡ a
    max_zero a = grind arith

result-measured : (r : ℕ → ℕ) (line : ℕ) (target : Option Target) (result : Option SourceExpression) → list_measure (result_list r line target result) ≡ result_size target (option_map extent result)
unfolding statement_measure extent
result-measured r line None None = refl
result-measured r line None (Some e) = alone (around (extent e) no_size)
result-measured r line (Some target) None = alone (around leaf no_size)
result-measured r line (Some target) (Some e) = alone (around (extent e) no_size)

block-measured : (site : Site) (line : ℕ) (target : Option Target) (size : Option FunctionSize) (copy : Option Copy) (arguments : List SourceExpression) → Agree size copy →
    statement_measure (call_block site line target copy arguments) ≡ block_size target size arguments
unfolding statement_measure
block-measured site line target None None arguments agree = refl
block-measured site line target None (Some copy) arguments agree = absurd agree
block-measured site line target (Some size) None arguments agree = absurd agree
block-measured site line target (Some size) (Some copy) arguments agree =
    ap (around no_extent) (measure-appended (parameters_list copy.parameters (map (renamed site.rename) arguments)) (appended copy.items (result_list site.rename line target copy.result))
    ∙ ap (λ (z : Size). together z (list_measure (appended copy.items (result_list site.rename line target copy.result))))
    (arguments-measured site.rename copy.parameters arguments ∙ ap (λ (k : ℕ). arguments_size k arguments) (sym agree.0))
    ∙ ap (together (arguments_size size.parameters arguments)) (measure-appended copy.items (result_list site.rename line target copy.result)
    ∙ ap (λ (z : Size). together z (list_measure (result_list site.rename line target copy.result))) (sym agree.1)
    ∙ ap (together size.items) (result-measured site.rename line target copy.result ∙ ap (result_size target) (sym agree.2))))

-- ---- statements

module _ (base : ℕ) (site : Site) (known : ℕ → Option FunctionSize) (agree : (function : ℕ) → Agree (known function) (site.copies function)) where
  declarator-measured : (kind : Bool) (symbol line : ℕ) (initial : Option SourceExpression) →
      list_measure (declarator_list kind (site.rename symbol) line (renamed_optional site.rename initial)) ≡ declarator_size kind initial
  unfolding statement_measure
  declarator-measured true symbol line None = alone (around no_extent no_size)
  declarator-measured false symbol line None = alone (around no_extent no_size)
  declarator-measured false symbol line (Some e) = alone (around (extent (renamed site.rename e)) no_size) ∙ ap (λ (h : Extent). around h no_size) (extent-renamed site.rename e)
  declarator-measured true symbol line (Some e) =
      ap (together (around no_extent no_size)) (alone (around (extent (renamed site.rename e)) no_size) ∙ ap (λ (h : Extent). around h no_size) (extent-renamed site.rename e))

  call-measured : (line : ℕ) (target : Option Target) (function at : ℕ) (arguments : List SourceExpression) →
      list_measure (call_list site target (call_block site line target (site.copies function) arguments))
      ≡ placed_size known site.in_function (Call line target function at arguments) (block_size target (known function) arguments)
  unfolding statement_measure
  call-measured line None function at arguments = alone _ ∙ block-measured site line None (known function) (site.copies function) arguments (agree function)
  call-measured line (Some target) function at arguments = by target.declared (block-measured site line (Some target) (known function) (site.copies function) arguments (agree function))
    where
      by : (d : Bool) → statement_measure (call_block site line (Some target) (site.copies function) arguments) ≡ block_size (Some target) (known function) arguments →
          list_measure (if d then More (ScalarDeclaration (site.rename target.symbol) target.line None) (More (call_block site line (Some target) (site.copies function) arguments) No_more)
          else More (call_block site line (Some target) (site.copies function) arguments) No_more)
          ≡ (if d then together (around no_extent no_size) (block_size (Some target) (known function) arguments) else block_size (Some target) (known function) arguments)
      by true same = ap (together (around no_extent no_size)) (alone _ ∙ same)
      by false same = alone _ ∙ same

  mutual
    unfolding inlined is_proper statement_measure counted

    part-measured : (s : UnitStatement) → declares_nothing s ≡ true → is_proper base s ≡ true → statement_measure (inlined site s) ≡ counted known site.in_function s
    part-measured (Block items) part proper = ap (around no_extent) (list-measured items proper)
    part-measured (Scalar symbol line initial) part proper = cc
    part-measured (Array symbol line at length values) part proper = cc
    part-measured (Assign symbol line index bracket op at value) part proper = ap (λ (h : Extent). around h no_size) (assignment-renamed site.rename index op value)
    part-measured (Print line value) part proper = ap (λ (h : Extent). around h no_size) (extent-renamed site.rename value)
    part-measured (Eval line value) part proper = ap (λ (h : Extent). around h no_size) (extent-renamed site.rename value)
    part-measured (If line test body otherwise) part proper =
        let one = and_true _ _ proper in
        let two = and_true _ _ one.1 in
        let three = and_true _ _ two.0 in
        ap (λ (h : Extent). around h (together (statement_measure (inlined site body)) (branch_measure (inlined_optional site otherwise)))) (extent-renamed site.rename test)
        ∙ ap (λ (z : Size). around (extent test) (together z (branch_measure (inlined_optional site otherwise)))) (part-measured body three.0 three.1)
        ∙ ap (λ (z : Size). around (extent test) (together (counted known site.in_function body) z)) (optional-measured otherwise two.1)
    part-measured (While line test body) part proper =
        let one = and_true _ _ proper in
        let two = and_true _ _ one.1 in
        ap (λ (h : Extent). around h (statement_measure (inlined site body))) (extent-renamed site.rename test) ∙ ap (around (extent test)) (part-measured body two.0 two.1)
    part-measured (Do line body test) part proper =
        let one = and_true _ _ proper in
        let two = and_true _ _ one.0 in
        ap (λ (h : Extent). around h (statement_measure (inlined site body))) (extent-renamed site.rename test) ∙ ap (around (extent test)) (part-measured body two.0 two.1)
    part-measured (For line first test step body) part proper =
        let one = and_true _ _ proper in
        let two = and_true _ _ one.1 in
        let three = and_true _ _ two.1 in
        let four = and_true _ _ three.1 in
        ap (λ (h : Extent). around h (together (list_measure (inlined_list site first))
        (together (branch_measure (inlined_optional site step)) (statement_measure (inlined site body))))) (extent-renamed site.rename test)
        ∙ ap (λ (z : Size). around (extent test) (together z (together (branch_measure (inlined_optional site step)) (statement_measure (inlined site body))))) (list-measured first one.0)
        ∙ ap (λ (z : Size). around (extent test) (together (counted_list known site.in_function first) (together z (statement_measure (inlined site body))))) (optional-measured step three.0)
        ∙ ap (λ (z : Size). around (extent test) (together (counted_list known site.in_function first) (together (counted_optional known site.in_function step) z))) (part-measured body four.0 four.1)
    part-measured (Break line) part proper = refl
    part-measured (Continue line) part proper = refl
    part-measured (Return line value) part proper = ap (λ (h : Extent). around h no_size) (extent-renamed site.rename value)
    part-measured Empty part proper = refl
    part-measured (Call line None function at arguments) part proper = block-measured site line None (known function) (site.copies function) arguments (agree function)
    part-measured (Call line (Some target) function at arguments) part proper =
        by target.declared (not_true target.declared part) (block-measured site line (Some target) (known function) (site.copies function) arguments (agree function))
      where
        by : (d : Bool) → d ≡ false → statement_measure (call_block site line (Some target) (site.copies function) arguments) ≡ block_size (Some target) (known function) arguments →
            statement_measure (in_one (if d then More (ScalarDeclaration (site.rename target.symbol) target.line None)
            (More (call_block site line (Some target) (site.copies function) arguments) No_more)
            else More (call_block site line (Some target) (site.copies function) arguments) No_more))
            ≡ block_size (Some target) (known function) arguments
        by true is same = cc
        by false is same = same

    optional-measured : (s : UnitOptional) → optional_is_proper base s ≡ true → branch_measure (inlined_optional site s) ≡ counted_optional known site.in_function s
    optional-measured Without proper = refl
    optional-measured (With s) proper = let both = and_true _ _ proper in part-measured s both.0 both.1

    pub list-measured : (items : UnitList) → list_is_proper base items ≡ true → list_measure (inlined_list site items) ≡ counted_list known site.in_function items
    list-measured Finish proper = refl
    list-measured (Item (Scalar symbol line initial) rest) proper =
        let both = and_true _ _ proper in
        measure-appended (declarator_list site.in_function (site.rename symbol) line (renamed_optional site.rename initial)) (inlined_list site rest)
        ∙ ap (λ (z : Size). together z (list_measure (inlined_list site rest))) (declarator-measured site.in_function symbol line initial)
        ∙ ap (together (declarator_size site.in_function initial)) (list-measured rest both.1)
    list-measured (Item (Array symbol line at length values) rest) proper =
        let both = and_true _ _ proper in ap (together (around no_extent no_size)) (list-measured rest both.1)
    list-measured (Item (Call line target function at arguments) rest) proper =
        let both = and_true _ _ proper in
        measure-appended (call_list site target (call_block site line target (site.copies function) arguments)) (inlined_list site rest)
        ∙ ap (λ (z : Size). together z (list_measure (inlined_list site rest))) (call-measured line target function at arguments)
        ∙ ap (together (placed_size known site.in_function (Call line target function at arguments) (block_size target (known function) arguments))) (list-measured rest both.1)
    list-measured (Item s rest) proper =
        let both = and_true _ _ proper in
        ap (λ (z : Size). together z (list_measure (inlined_list site rest))) (part-measured s refl both.0)
        ∙ ap (together (counted known site.in_function s)) (list-measured rest both.1)

-- ---- functions

parameters-length : (r : ℕ → ℕ) (ps : List Param) → length ps ≡ length (map (renamed_parameter r) ps)
parameters-length r [] = refl
parameters-length r (p ∷ ps) = let e = parameters-length r ps in omega (arith, e)

result-renamed : (r : ℕ → ℕ) (result : Option SourceExpression) → option_map extent result ≡ option_map extent (renamed_optional r result)
result-renamed r None = refl
result-renamed r (Some e) = ap (λ (h : Extent). Some h) (sym (extent-renamed r e))

functions-measured : (base : ℕ) (fs : List UnitFunction) → functions_are_proper base fs ≡ true → (depth symbol : ℕ) → Agree (function_sizes fs symbol) (copies base fs depth symbol)
unfolding function_sizes copies functions_are_proper
functions-measured base [] proper depth symbol = tt
functions-measured base (last ∷ earlier) proper depth symbol =
    let both = and_true _ _ proper in
    let r = copied base depth in
    let one = and_true _ _ both.0 in
    let two = and_true _ _ one.1 in
    let site : Site = record { copies = copies base earlier (suc depth); rename = r; in_function = true } in
    by (nat_eq symbol last.symbol)
    (parameters-length r last.parameters, sym (list-measured base site (function_sizes earlier) (functions-measured base earlier both.1 (suc depth)) last.items two.0), result-renamed r last.result)
    (functions-measured base earlier both.1 depth symbol)
  where
    by : (b : Bool) → Agree (Some (record { parameters = length last.parameters; items = counted_list (function_sizes earlier) true last.items; result = option_map extent last.result }))
        (Some (copy_of (copied base depth) (copies base earlier (suc depth)) last)) → Agree (function_sizes earlier symbol) (copies base earlier depth symbol) →
        Agree (if b then Some (record { parameters = length last.parameters; items = counted_list (function_sizes earlier) true last.items; result = option_map extent last.result })
        else function_sizes earlier symbol)
        (if b then Some (copy_of (copied base depth) (copies base earlier (suc depth)) last) else copies base earlier depth symbol)
    by true here more = here
    by false here more = more

-- the list of functions the other way round
proper-append : (base : ℕ) (fs gs : List UnitFunction) → functions_are_proper base fs ≡ true → functions_are_proper base gs ≡ true →
    functions_are_proper base (fs ++ gs) ≡ true
unfolding functions_are_proper
proper-append base [] gs one other = other
proper-append base (f ∷ fs) gs one other =
    let both = and_true (function_is_proper base f) (functions_are_proper base fs) one in
    and_made (function_is_proper base f) (functions_are_proper base (fs ++ gs)) both.0 (proper-append base fs gs both.1 other)

pub reverse-proper : (base : ℕ) (fs : List UnitFunction) → functions_are_proper base fs ≡ true → functions_are_proper base (reverse fs) ≡ true
unfolding functions_are_proper
reverse-proper base [] proper = refl
reverse-proper base (f ∷ fs) proper =
    let both = and_true (function_is_proper base f) (functions_are_proper base fs) proper in
    subst (λ (x : List UnitFunction). functions_are_proper base x ≡ true) (sym (reverse-append (f ∷ []) fs))
    (proper-append base (reverse fs) (f ∷ []) (reverse-proper base fs both.1) (and_made (function_is_proper base f) true both.0 refl))

-- what is counted of a unit is the size of its inlined program
pub unit-measured : (base : ℕ) (unit : TranslationUnit) → unit_is_proper base unit ≡ true → list_measure (inlined_program base unit).items ≡ unit_size unit
unit-measured base unit proper =
    let both = and_true (functions_are_proper base unit.functions) (list_is_proper base unit.main) proper in
    let fs = reverse unit.functions in
    list-measured base (main_site base fs) (function_sizes fs) (functions-measured base fs (reverse-proper base unit.functions both.0) 1) unit.main both.1
