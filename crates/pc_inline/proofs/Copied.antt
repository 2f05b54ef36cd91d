-- What stands in the place of statements in order, and of calls of functions that are found.
use Rattle.std.proofs.Common.{◌≡◌, refl, sym, ap, subst, ◌∙◌, ℕ, ◌+◌, ◌<◌, ◌≤◌, Bool, true, false, List, [], ◌∷◌, ◌++◌, map, Option, Some, None, Result, Ok}
use Rattle.std.proofs.Common.{Err, IfOk, option_map, arith, nat_eq, length, take, get_or}
use Rattle.std.specs.Prelude.{if◌then◌else◌}
use Rattle.pc_word.specs.declared.out_of_memory.OutOfMemory.{OutOfMemory}
use Rattle.pc_syntax.specs.declared.statement.Stmt.{Stmt}
use Rattle.pc_syntax.specs.declared.unit.Function.{Function}
use Rattle.pc_syntax.specs.declared.unit.Target.{Target}
use Rattle.pc_syntax.specs.Source.{SourceExpression, SourceStatement, SourceList, No_more, More, appended}
use Rattle.pc_syntax.specs.Unit.{UnitStatement, UnitOptional, UnitList, Block, Scalar, If, While, Do, For, unit_appended}
use Rattle.pc_syntax.specs.Unit.{Empty, Call, With, Finish, Item, UnitFunction}
use Rattle.pc_syntax.specs.declared.expression.Expr.{Expr}
use Rattle.pc_syntax.specs.Erasure.{expression_of}
use Rattle.pc_syntax.specs.Plain.{plain_statement, plain_optional, plain_list}
use Rattle.pc_syntax.specs.UnitErasure.{unit_statement_of, unit_list_of, function_of}
use Rattle.pc_inline.proofs.Lists.{plain_appended}
use Rattle.pc_calls.specs.Inline.{Copy, Site, copy_of, renamed, renamed_optional, renamed_parameter, parameters_list, result_list, call_block}
use Rattle.pc_calls.specs.Inline.{put, inlined, inlined_optional, inlined_list}
use Rattle.pc_inline.specs.models.Finding.{place_among}
use Rattle.pc_inline.specs.models.Sites.{shifted, next_offset, copies_at, site_at}
use Rattle.pc_inline.specs.models.Weights.{weight, weight_of_optional, weight_of_list, weight_of_functions}
use Rattle.pc_inline.proofs.Rows.{last_first, unit_list_of-more, unit_list_of-split}
use Rattle.pc_inline.proofs.Finds.{Misses, found-at}

-- what is known of a copy is known of what is the same
pub copied_as : (r : Result Stmt OutOfMemory) (a b : UnitStatement) → IfOk r (λ copy. unit_statement_of copy ≡ a) → a ≡ b → IfOk r (λ copy. unit_statement_of copy ≡ b)
copied_as (Ok copy) a b is same = is ∙ same
copied_as (Err e) a b is same = tt

-- what was put after nothing
pub put_first : (old : List Stmt) (new l : UnitList) → old ≡ [] → new ≡ unit_appended (unit_list_of old) l → new ≡ l
unfolding unit_list_of
put_first old new l none is = is ∙ ap (λ (x : List Stmt). unit_appended (unit_list_of x) l) none

-- ---- lists

appended_nothing : (l : SourceList) → appended l No_more ≡ l
appended_nothing No_more = refl
appended_nothing (More first rest) = ap (More first) (appended_nothing rest)

appended_twice : (front middle rest : SourceList) → appended (appended front middle) rest ≡ appended front (appended middle rest)
appended_twice No_more middle rest = refl
appended_twice (More first others) middle rest = ap (More first) (appended_twice others middle rest)

-- a statement in front of others
put-before : (site : Site) (s : UnitStatement) (done : SourceStatement) (rest : SourceList) → put site s done rest ≡ appended (put site s done No_more) rest
put-before site (Scalar symbol line initial) done rest = ap (λ (l : SourceList). appended l rest) (sym (appended_nothing _))
put-before site (Call line target function at arguments) done rest = ap (λ (l : SourceList). appended l rest) (sym (appended_nothing _))
put-before site s done rest = refl

module _ (site : Site) where
  inlined-appended : (front rest : UnitList) → inlined_list site (unit_appended front rest) ≡ appended (inlined_list site front) (inlined_list site rest)
  unfolding inlined
  inlined-appended Finish rest = refl
  inlined-appended (Item first others) rest =
      ap (put site first (inlined site first)) (inlined-appended others rest)
      ∙ put-before site first (inlined site first) (appended (inlined_list site others) (inlined_list site rest))
      ∙ sym (appended_twice (put site first (inlined site first) No_more) (inlined_list site others) (inlined_list site rest))
      ∙ ap (λ (l : SourceList). appended l (inlined_list site rest)) (sym (put-before site first (inlined site first) (inlined_list site others)))

  -- one more statement
  pub inlined-more : (items : List Stmt) (i : ℕ) (item : Stmt) → i < length items → item ≡ get_or items i item →
      inlined_list site (unit_list_of (take (i + 1) items))
      ≡ appended (inlined_list site (unit_list_of (take i items))) (put site (unit_statement_of item) (inlined site (unit_statement_of item)) No_more)
  unfolding inlined
  inlined-more items i item below read =
      ap (inlined_list site) (unit_list_of-more items i item below read) ∙ inlined-appended (unit_list_of (take i items)) (Item (unit_statement_of item) Finish)

-- ---- functions

pub copies-unfound : (offset : ℕ) (functions : List UnitFunction) (symbol : ℕ) → place_among functions symbol ≡ None → copies_at offset functions symbol ≡ None
unfolding place_among copies_at
copies-unfound offset [] symbol none = refl
copies-unfound offset (last ∷ earlier) symbol none = by (nat_eq symbol last.symbol) none (copies-unfound offset earlier symbol)
  where
    by : (b : Bool) → (if b then Some (length earlier) else place_among earlier symbol) ≡ None → (place_among earlier symbol ≡ None → copies_at offset earlier symbol ≡ None) →
        (if b then Some (copy_of (shifted offset) (copies_at (next_offset offset) earlier) last) else copies_at offset earlier symbol) ≡ None
    by true none more = absurd (cc)
    by false none more = more none

copies-hit : (offset : ℕ) (after earlier : List UnitFunction) (function : UnitFunction) (symbol : ℕ) → Misses after symbol → nat_eq symbol function.symbol ≡ true →
    copies_at offset (after ++ function ∷ earlier) symbol ≡ Some (copy_of (shifted offset) (copies_at (next_offset offset) earlier) function)
unfolding copies_at
copies-hit offset [] earlier function symbol misses hits =
    ap (λ (b : Bool). if b then Some (copy_of (shifted offset) (copies_at (next_offset offset) earlier) function) else copies_at offset earlier symbol) hits
copies-hit offset (first ∷ others) earlier function symbol misses hits =
    ap (λ (b : Bool). if b then Some (copy_of (shifted offset) (copies_at (next_offset offset) (others ++ function ∷ earlier)) first) else copies_at offset
    (others ++ function ∷ earlier) symbol) misses.0
    ∙ copies-hit offset others earlier function symbol misses.1 hits

pub copies-found : (offset : ℕ) (functions : List Function) (symbol place : ℕ) (d : Function) → place_among (last_first functions) symbol ≡ Some place →
    copies_at offset (last_first functions) symbol
    ≡ Some (copy_of (shifted offset) (copies_at (next_offset offset) (last_first (take place functions))) (function_of (get_or functions place d)))
copies-found offset functions symbol place d at =
    let found = found-at functions symbol place d at in
    ap (λ (x : List UnitFunction). copies_at offset x symbol) found.is
    ∙ copies-hit offset found.after (last_first (take place functions)) (function_of (get_or functions place d)) symbol found.misses found.hits

-- ---- weights

weight-after : (after earlier : List UnitFunction) (function : UnitFunction) →
    weight_of_list function.items + weight_of_functions earlier < weight_of_functions (after ++ function ∷ earlier)
unfolding weight_of_functions
weight-after [] earlier function = omega arith
weight-after (first ∷ others) earlier function = let less = weight-after others earlier function in omega (arith, less)

-- a function and those before it weigh less than all
pub lighter_function : (functions : List Function) (symbol place : ℕ) (d : Function) → place_among (last_first functions) symbol ≡ Some place →
    weight_of_list (unit_list_of (get_or functions place d).items) + weight_of_functions (last_first (take place functions)) < weight_of_functions (last_first functions)
lighter_function functions symbol place d at =
    let found = found-at functions symbol place d at in
    subst (λ (x : List UnitFunction). weight_of_list (unit_list_of (get_or functions place d).items) + weight_of_functions (last_first (take place functions)) < weight_of_functions x) (sym found.is)
    (weight-after found.after (last_first (take place functions)) (function_of (get_or functions place d)))

weight-part : (front : UnitList) (s : UnitStatement) (rest : UnitList) → weight s < weight_of_list (unit_appended front (Item s rest))
unfolding weight
weight-part Finish s rest = omega arith
weight-part (Item first others) s rest = let less = weight-part others s rest in omega (arith, less)

-- a statement of a list weighs less than the list
pub lighter_item : (items : List Stmt) (i : ℕ) (item : Stmt) → i < length items → item ≡ get_or items i item → weight (unit_statement_of item) < weight_of_list (unit_list_of items)
lighter_item items i item below read =
    subst (λ (l : UnitList). weight (unit_statement_of item) < weight_of_list l) (sym (unit_list_of-split items i item below read)) (weight-part _ (unit_statement_of item) _)

module _ (s : UnitStatement) where
  pub some_weight : 1 ≤ weight s
  unfolding weight
  some_weight = by s
    where
      by : (s : UnitStatement) → 1 ≤ weight s
      by (Block items) = omega arith
      by (If line test body otherwise) = omega arith
      by (While line test body) = omega arith
      by (Do line body test) = omega arith
      by (For line first test step body) = omega arith
      by s = omega arith

  pub lighter_Block : (items : UnitList) → s ≡ Block items → weight_of_list items < weight s
  unfolding weight
  lighter_Block items is = let whole = ap weight is in omega (arith, whole)

  pub lighter_If : (line : ℕ) (test : SourceExpression) (body : UnitStatement) (other : UnitOptional) → s ≡ If line test body other → (weight body < weight s) × (weight_of_optional other < weight s)
  unfolding weight
  lighter_If line test body other is = let whole = ap weight is in (omega (arith, whole), omega (arith, whole))

  pub lighter_While : (line : ℕ) (test : SourceExpression) (body : UnitStatement) → s ≡ While line test body → weight body < weight s
  unfolding weight
  lighter_While line test body is = let whole = ap weight is in omega (arith, whole)

  pub lighter_Do : (line : ℕ) (body : UnitStatement) (test : SourceExpression) → s ≡ Do line body test → weight body < weight s
  unfolding weight
  lighter_Do line body test is = let whole = ap weight is in omega (arith, whole)

  pub lighter_For : (line : ℕ) (first : UnitList) (test : SourceExpression) (step : UnitOptional) (body : UnitStatement) → s ≡ For line first test step body →
      (weight_of_list first < weight s) × (weight_of_optional step < weight s) × (weight body < weight s)
  unfolding weight
  lighter_For line first test step body is = let whole = ap weight is in (omega (arith, whole), omega (arith, whole), omega (arith, whole))

pub lighter_With : (o : UnitOptional) (s : UnitStatement) → o ≡ With s → weight s < weight_of_optional o
unfolding weight
lighter_With o s is = let whole = ap weight_of_optional is in omega (arith, whole)

-- ---- what is made of a `for` and of a call

pub for_copied : (site : Site) (s : UnitStatement) (line : ℕ) (first : UnitList) (test : SourceExpression) (step : UnitOptional) (body : UnitStatement) → s ≡ For line first test step body →
    (copies : UnitList) (held : UnitOptional) (b : UnitStatement) → copies ≡ plain_list (inlined_list site first) → held ≡ plain_optional (inlined_optional site step) → b ≡ body →
    For line copies (renamed site.rename test) held (plain_statement (inlined site b)) ≡ plain_statement (inlined site s)
unfolding inlined plain_statement
for_copied site s line first test step body is copies held b one two three =
    ap (λ (x : UnitList). For line x (renamed site.rename test) held (plain_statement (inlined site b))) one
    ∙ ap (λ (x : UnitOptional). For line (plain_list (inlined_list site first)) (renamed site.rename test) x (plain_statement (inlined site b))) two
    ∙ ap (λ (x : UnitStatement). For line (plain_list (inlined_list site first)) (renamed site.rename test) (plain_optional (inlined_optional site step)) (plain_statement (inlined site x))) three
    ∙ sym (ap (λ (x : UnitStatement). plain_statement (inlined site x)) is)

-- a call of no function
pub block_missing : (site : Site) (line : ℕ) (target : Option Target) (o : Option Copy) (arguments : List SourceExpression) → o ≡ None →
    Empty ≡ plain_statement (call_block site line target o arguments)
unfolding plain_statement
block_missing site line target o arguments none = sym (ap (λ (x : Option Copy). plain_statement (call_block site line target x arguments)) none)

pub block_copied : (functions : List Function) (offset inner : ℕ) (k : Bool) (line : ℕ) (target : Option Target) (symbol place : ℕ) (f : Function) (args : List Expr)
    (into0 into1 into2 into3 : List Stmt) →
    place_among (last_first functions) symbol ≡ Some place → f ≡ get_or functions place f → inner ≡ shifted offset 65536 → unit_list_of into0 ≡ Finish →
    unit_list_of into1 ≡ unit_appended (unit_list_of into0) (plain_list
    (parameters_list (map (renamed_parameter (shifted inner)) f.params) (map (renamed (shifted offset)) (map expression_of args)))) →
    unit_list_of into2 ≡ unit_appended (unit_list_of into1) (plain_list (inlined_list (site_at (take place functions) inner true) (unit_list_of f.items))) →
    unit_list_of into3 ≡ unit_appended (unit_list_of into2) (plain_list (result_list (shifted offset) line target (renamed_optional (shifted inner) (option_map expression_of f.result)))) →
    Block (unit_list_of into3) ≡ plain_statement (call_block (site_at functions offset k) line target (copies_at (next_offset offset) (last_first functions) symbol) (map expression_of args))
unfolding plain_statement
block_copied functions offset inner k line target symbol place f args into0 into1 into2 into3 at read there start one two three =
    let r' = shifted inner in
    let P = parameters_list (map (renamed_parameter r') f.params) (map (renamed (shifted offset)) (map expression_of args)) in
    let I = inlined_list (site_at (take place functions) inner true) (unit_list_of f.items) in
    let R = result_list (shifted offset) line target (renamed_optional r' (option_map expression_of f.result)) in
    let first : unit_list_of into1 ≡ plain_list P = one ∙ ap (λ (x : UnitList). unit_appended x (plain_list P)) start in
    let second : unit_list_of into2 ≡ plain_list (appended P I) = two ∙ ap (λ (x : UnitList). unit_appended x (plain_list I)) first ∙ sym (plain_appended P I) in
    let third : unit_list_of into3 ≡ plain_list (appended P (appended I R)) =
    three ∙ ap (λ (x : UnitList). unit_appended x (plain_list R)) second ∙ sym (plain_appended (appended P I) R) ∙ ap plain_list (appended_twice P I R) in
    let copy_at : ℕ → Copy = λ o. copy_of (shifted o) (copies_at (next_offset o) (last_first (take place functions))) (function_of f) in
    let found : copies_at (next_offset offset) (last_first functions) symbol ≡ Some (copy_at inner) =
    copies-found (next_offset offset) functions symbol place f at
    ∙ ap (λ (g : Function). Some (copy_of (shifted (next_offset offset)) (copies_at (next_offset (next_offset offset)) (last_first (take place functions))) (function_of g))) (sym read)
    ∙ ap (λ (o : ℕ). Some (copy_at o)) (sym there) in
    ap Block third ∙ sym (ap (λ (x : Option Copy). plain_statement (call_block (site_at functions offset k) line target x (map expression_of args))) found)
