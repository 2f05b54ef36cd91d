-- Lists of statements in a row, and what stands in a place for one statement.
use Rattle.std.proofs.Common.{◌≡◌, refl, ap, ◌∙◌, sym, ℕ, ◌+◌, ◌<◌, List, [], ◌∷◌, ◌++◌, length, take, get_or, map, Option, Some, arith, slice_get}
use Rattle.std.proofs.lemmas.List.{take_more, map-append, length-map, length-take}
use Rattle.std.proofs.lemmas.Option.{slice_get-map}
use Rattle.pc_syntax.specs.declared.statement.Stmt.{Stmt}
use Rattle.pc_syntax.specs.declared.expression.Expr.{Expr}
use Rattle.pc_syntax.specs.declared.unit.Param.{Param}
use Rattle.pc_syntax.specs.Source.{SourceExpression, SourceList, No_more, More, appended, ScalarDeclaration}
use Rattle.pc_syntax.specs.Unit as unit
use Rattle.pc_syntax.specs.Unit.{UnitStatement, UnitList, Finish, Item, unit_appended}
use Rattle.pc_syntax.specs.Plain.{plain_statement, plain_list}
use Rattle.pc_syntax.specs.UnitErasure.{unit_statement_of, unit_list_of}
use Rattle.std.specs.Prelude.{option_map}
use Rattle.pc_syntax.specs.Erasure.{expression_of}
use Rattle.pc_calls.specs.Inline.{in_one, parameters_list, renamed, renamed_parameter}
use Rattle.pc_inline.specs.models.Sites.{argument_list}

-- nothing more
pub appended_none : (front : UnitList) → unit_appended front Finish ≡ front
appended_none Finish = refl
appended_none (Item first rest) = ap (Item first) (appended_none rest)

-- in a row, however they are grouped
pub appended_again : (front middle rest : UnitList) → unit_appended (unit_appended front middle) rest ≡ unit_appended front (unit_appended middle rest)
appended_again Finish middle rest = refl
appended_again (Item first others) middle rest = ap (Item first) (appended_again others middle rest)

-- lists without calls in a row
pub plain_appended : (front rest : SourceList) → plain_list (appended front rest) ≡ unit_appended (plain_list front) (plain_list rest)
unfolding plain_statement
plain_appended No_more rest = refl
plain_appended (More first others) rest = ap (Item (plain_statement first)) (plain_appended others rest)

-- no statement, one, or several, in a place for one
pub one_of-none : (items : List Stmt) (l : SourceList) → items ≡ [] → unit_list_of items ≡ plain_list l → unit.Empty ≡ plain_statement (in_one l)
unfolding plain_statement unit_list_of
one_of-none items No_more none is = refl
one_of-none items (More first rest) none is = let there = sym (ap unit_list_of none) ∙ is in absurd (cc)

pub one_of-only : (items : List Stmt) (only : Stmt) (l : SourceList) → items ≡ only ∷ [] → unit_list_of items ≡ plain_list l →
    unit_statement_of only ≡ plain_statement (in_one l)
unfolding plain_statement unit_list_of
one_of-only items only No_more one is = let there = sym (ap unit_list_of one) ∙ is in absurd (cc)
one_of-only items only (More first No_more) one is = let there = sym (ap unit_list_of one) ∙ is in cc
one_of-only items only (More first (More second rest)) one is = let there = sym (ap unit_list_of one) ∙ is in absurd (cc)

pub one_of-several : (items : List Stmt) (l : SourceList) → (length items ≡ 1 → ⊥) → (items ≡ [] → ⊥) → unit_list_of items ≡ plain_list l →
    unit.Block (unit_list_of items) ≡ plain_statement (in_one l)
unfolding plain_statement unit_list_of
one_of-several [] l other none is = absurd (none refl)
one_of-several (only ∷ []) l other none is = absurd (other refl)
one_of-several (first ∷ second ∷ rest) No_more other none is = absurd (cc)
one_of-several (first ∷ second ∷ rest) (More one No_more) other none is = absurd (cc)
one_of-several (first ∷ second ∷ rest) (More one (More two more)) other none is = ap unit.Block is

-- ---- parameters

-- one more parameter
parameters-more : (ps : List Param) (p : Param) (es : List SourceExpression) →
    parameters_list (ps ++ p ∷ []) es ≡ appended (parameters_list ps es) (argument_list p (slice_get es (length ps)))
parameters-more [] p [] = refl
parameters-more [] p (e ∷ es) = refl
parameters-more (q ∷ ps) p [] = refl
parameters-more (q ∷ ps) p (e ∷ es) = ap (More (ScalarDeclaration q.symbol q.line (Some e))) (parameters-more ps p es)

-- the same of the parameters of a copy and the trees of the arguments
pub parameter_more : (r q : ℕ → ℕ) (params : List Param) (args : List Expr) (i : ℕ) (d : Param) (argument : Option Expr) → i < length params →
    argument ≡ slice_get args i →
    parameters_list (map (renamed_parameter q) (take (i + 1) params)) (map (renamed r) (map expression_of args))
    ≡ appended (parameters_list (map (renamed_parameter q) (take i params)) (map (renamed r) (map expression_of args)))
    (argument_list (renamed_parameter q (get_or params i d)) (option_map (renamed r) (option_map expression_of argument)))
parameter_more r q params args i d argument below there =
    let param = get_or params i d in
    let es = map (renamed r) (map expression_of args) in
    let front = map (renamed_parameter q) (take i params) in
    let long : length front ≡ i = length-map (take i params) (renamed_parameter q) ∙ length-take i params ∙ omega (arith, below) in
    let at : slice_get es (length front) ≡ option_map (renamed r) (option_map expression_of argument) =
    ap (slice_get es) long ∙ slice_get-map (renamed r) (map expression_of args) i ∙ ap (option_map (renamed r)) (slice_get-map expression_of args i ∙ ap (option_map expression_of) (sym there)) in
    ap (λ (x : List Param). parameters_list x es)
    (ap (map (renamed_parameter q)) (take_more params i d below) ∙ map-append (renamed_parameter q) (take i params) (param ∷ []))
    ∙ parameters-more front (renamed_parameter q param) es
    ∙ ap (λ (o : Option SourceExpression). appended (parameters_list front es) (argument_list (renamed_parameter q param) o)) at

-- ---- what is put after others

-- what was put after others, and more after it
pub put_after : (old now new : UnitList) (l more whole : SourceList) → now ≡ unit_appended old (plain_list l) → new ≡ unit_appended now (plain_list more) →
    whole ≡ appended l more → new ≡ unit_appended old (plain_list whole)
put_after old now new l more whole first second is =
    second ∙ ap (λ (x : UnitList). unit_appended x (plain_list more)) first ∙ appended_again old (plain_list l) (plain_list more)
    ∙ ap (unit_appended old) (sym (plain_appended l more)) ∙ ap (λ (x : SourceList). unit_appended old (plain_list x)) (sym is)

-- the only one of a list
pub only_one : (items front : List Stmt) (last : Stmt) → items ≡ front ++ last ∷ [] → length items ≡ 1 → items ≡ last ∷ []
only_one items [] last is one = is
only_one items (first ∷ []) last is one = let long = ap (λ (x : List Stmt). length x) is in absurd (omega (arith, long, one))
only_one items (first ∷ second ∷ rest) last is one = let long = ap (λ (x : List Stmt). length x) is in absurd (omega (arith, long, one))

pub ruleset more_statements = (appended_none, appended_again)
