-- The result of a function, from the items of its block.
use Rattle.std.proofs.Common.{◌≡◌, refl, sym, ap, ◌∙◌, ℕ, List, [], ◌∷◌, ◌++◌}
use Rattle.std.specs.Prelude.{Some, None, option_map, Result, Ok, Err, MatchResult}
use Rattle.pc_syntax.specs.declared.expression.Expr.{Expr}
use Rattle.pc_syntax.specs.declared.statement.Stmt.{Stmt, Block', Scalar, Array, Assign, Print, Eval, If', While', Do', For', Break, Continue, Return, Empty, Call}
use Rattle.pc_syntax.specs.Source.{SourceExpression}
use Rattle.pc_syntax.specs.Unit.{UnitStatement, UnitList, Finish, Item, unit_appended}
use Rattle.pc_syntax.specs.Erasure.{expression_of}
use Rattle.pc_syntax.specs.UnitErasure.{unit_statement_of, unit_list_of}
use Rattle.pc_syntax.proofs.UnitLaws.{unit_statement_of-Return, unit_list_of-empty, unit_list_of-push}
use Rattle.pc_parser.specs.declared.function.FunctionBody.{FunctionBody}
use Rattle.pc_parser.specs.declared.outcome.Failure.{Failure}
use Rattle.pc_parser.specs.declared.outcome.Failure.TheVariants.{Memory}
use Rattle.pc_parser.specs.Units.{returned, kept, result_of, without_result}

nothing-behind : (l : UnitList) → unit_appended l Finish ≡ l
nothing-behind Finish = refl
nothing-behind (Item first rest) = ap (Item first) (nothing-behind rest)

-- a `return` gives its value, and leaves the items before it
pub returned-value : (last : Stmt) (line : ℕ) (value : Expr) → last ≡ Return line value → returned (unit_statement_of last) ≡ Some (expression_of value)
returned-value last line value is = ap returned (unit_statement_of-Return last line value is)

pub value-taken : (items : UnitList) (s : UnitStatement) (value : SourceExpression) → returned s ≡ Some value → items ≡ unit_appended items (kept s (returned s))
value-taken items s value is = sym (ap (λ r. unit_appended items (kept s r)) is ∙ nothing-behind items)

-- another statement gives none, and stays
pub returned-none : (last : Stmt) → ((line : ℕ) (value : Expr) → last ≡ Return line value → ⊥) → returned (unit_statement_of last) ≡ None
unfolding unit_statement_of
returned-none (Block' n items) no' = refl
returned-none (Scalar symbol line init) no' = refl
returned-none (Array symbol line at length values) no' = refl
returned-none (Assign symbol line index bracket op at value) no' = refl
returned-none (Print line value) no' = refl
returned-none (Eval line value) no' = refl
returned-none (If' line test p body other) no' = refl
returned-none (While' line test p body) no' = refl
returned-none (Do' line p body test) no' = refl
returned-none (For' line n first test step p body) no' = refl
returned-none (Break line) no' = refl
returned-none (Continue line) no' = refl
returned-none (Return line value) no' = absurd (no' line value refl)
returned-none Empty no' = refl
returned-none (Call line target function at arguments) no' = refl

pub statement-kept : (items list : List Stmt) (last : Stmt) → list ≡ items ++ last ∷ [] → returned (unit_statement_of last) ≡ None →
    unit_list_of list ≡ unit_appended (unit_list_of items) (kept (unit_statement_of last) (returned (unit_statement_of last)))
statement-kept items list last is none =
    ap unit_list_of is ∙ unit_list_of-push items last ∙ ap (λ r. unit_appended (unit_list_of items) (kept (unit_statement_of last) r)) (sym none)

-- no items have no result
pub no-items : (items rest : List Stmt) → items ≡ [] → rest ≡ [] → (unit_list_of rest ≡ without_result (unit_list_of items)) × (None ≡ result_of (unit_list_of items))
no-items items rest is rest_is =
    let none : unit_list_of items ≡ Finish = ap unit_list_of is ∙ unit_list_of-empty in
    (ap unit_list_of rest_is ∙ unit_list_of-empty ∙ ap without_result (sym none), ap result_of (sym none))

-- the last item tells the result
last-kept : (l : UnitList) (s : UnitStatement) → without_result (unit_appended l (Item s Finish)) ≡ unit_appended l (kept s (returned s))
last-kept Finish s = refl
last-kept (Item first Finish) s = refl
last-kept (Item first (Item next rest)) s = ap (Item first) (last-kept (Item next rest) s)

last-told : (l : UnitList) (s : UnitStatement) → result_of (unit_appended l (Item s Finish)) ≡ returned s
last-told Finish s = refl
last-told (Item first Finish) s = refl
last-told (Item first (Item next rest)) s = last-told (Item next rest) s

pub body-ended : (items rest : List Stmt) (last : Stmt) (result : Result FunctionBody Failure) → items ≡ rest ++ last ∷ [] →
    MatchResult result (λ body. (unit_list_of body.items ≡ unit_appended (unit_list_of rest) (kept (unit_statement_of last) (returned (unit_statement_of last))))
    × (option_map expression_of body.result ≡ returned (unit_statement_of last))) (λ failure. failure ≡ Memory) →
    MatchResult result (λ body. (unit_list_of body.items ≡ without_result (unit_list_of items)) × (option_map expression_of body.result ≡ result_of (unit_list_of items))) (λ failure. failure ≡ Memory)
body-ended items rest last (Ok body) is told =
    let whole = ap unit_list_of is ∙ unit_list_of-push rest last in (
      told.0 ∙ sym (last-kept (unit_list_of rest) (unit_statement_of last)) ∙ ap without_result (sym whole),
      told.1 ∙ sym (last-told (unit_list_of rest) (unit_statement_of last)) ∙ ap result_of (sym whole),
    )
body-ended items rest last (Err failure) is told = told
