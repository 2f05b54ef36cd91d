-- What is told of a block and of a `for` by what is told of their parts.
use Rattle.std.proofs.Common.{◌≡◌, ap, ◌∙◌, sym, subst, ℕ, Bool, true, []}
use Rattle.pc_syntax.specs.Source.{SourceExpression, SourceStatement, SourceList, OptionalStatement, Scope, ForLoop}
use Rattle.pc_check.specs.declared.error.CheckError.{CheckError}
use Rattle.pc_check.specs.Names.{Names, entered, left}
use Rattle.pc_check.specs.Faults.{measured_faults, statement_faults, branch_faults, list_faults, names_behind, names_behind_optional, names_behind_list}
use Rattle.pc_check.specs.Resolution.{resolved_expression, resolved_statement, resolved_branch, resolved_list}
use Rattle.pc_check.specs.models.Resolves.{IsFirst, MeasuredResolves, StatementResolves, BranchResolves, ListResolves}
use Rattle.pc_check.specs.models.View.{outwards}
use Rattle.pc_check.proofs.FaultLaws.{IsFirst-front, IsFirst-rest, none_in_both}
use Rattle.pc_check.proofs.NameLaws.{names_behind-outer, names_behind_optional-outer, names_behind_list-outer, outwards-left}

-- a block, whose names are left after it
pub Scope-resolves : (in_loop : Bool) (items out : SourceList) (before opened inside after : Names) → opened ≡ entered before →
    ListResolves in_loop items opened inside out → after ≡ outwards inside →
    StatementResolves in_loop (Scope items) before after (Scope out)
unfolding statement_faults names_behind resolved_statement
Scope-resolves in_loop items out before opened inside after opening some closed =
    let at = ap (names_behind_list items) (sym opening) ∙ some.behind in
    record {
      faultless = ap (list_faults in_loop items) (sym opening) ∙ some.faultless;
      behind = ap (λ (n : Names). left before n) at
          ∙ sym (outwards-left before inside (ap (λ (n : Names). n.outer) (sym at) ∙ names_behind_list-outer items (entered before)))
          ∙ sym closed;
      is_resolved = ap Scope (ap (resolved_list items) (sym opening) ∙ some.is_resolved);
    }

module _ (in_loop : Bool) (s : SourceStatement) (line : ℕ) (first : SourceList) (test : SourceExpression) (step : OptionalStatement) (body : SourceStatement)
    (is : s ≡ ForLoop line first test step body) (before opened : Names) (opening : opened ≡ entered before) where
  -- a fault of a `for` is one of the statement that is that `for`
  of_for : (e : CheckError) → IsFirst e (statement_faults in_loop (ForLoop line first test step body) before) → IsFirst e (statement_faults in_loop s before)
  of_for e first = let P : SourceStatement → Type 0 = λ x. IsFirst e (statement_faults in_loop x before) in subst P (sym is) first

  -- the first part of a `for` comes first
  pub For-first : (e : CheckError) → IsFirst e (list_faults in_loop first opened) →
      IsFirst e (statement_faults in_loop s before)
  unfolding statement_faults
  For-first e refused =
      let P : Names → Type 0 = λ n. IsFirst e (list_faults in_loop first n) in
      of_for e (IsFirst-front e _ _ (subst P opening refused))

  module _ (inside : Names) (first' : SourceList) (starts : ListResolves in_loop first opened inside first') where
    -- the names after the first part
    begun : names_behind_list first (entered before) ≡ inside
    begun = ap (names_behind_list first) (sym opening) ∙ starts.behind

    -- the first part has no fault
    clean : list_faults in_loop first (entered before) ≡ []
    clean = ap (list_faults in_loop first) (sym opening) ∙ starts.faultless

    -- then comes the condition
    pub For-test : (e : CheckError) → IsFirst e (measured_faults inside line test) →
        IsFirst e (statement_faults in_loop s before)
    unfolding statement_faults
    For-test e refused =
        let P : Names → Type 0 = λ n. IsFirst e (measured_faults n line test) in
        of_for e (IsFirst-rest e _ _ clean (IsFirst-front e _ _ (subst P (sym begun) refused)))

    module _ (test' : SourceExpression) (tests : MeasuredResolves inside line test test') where
      tested : measured_faults (names_behind_list first (entered before)) line test ≡ []
      tested = ap (λ (n : Names). measured_faults n line test) begun ∙ tests.faultless

      -- then the step
      pub For-step : (e : CheckError) → IsFirst e (branch_faults in_loop step inside) →
          IsFirst e (statement_faults in_loop s before)
      unfolding statement_faults
      For-step e refused =
          let P : Names → Type 0 = λ n. IsFirst e (branch_faults in_loop step n) in
          of_for e (IsFirst-rest e _ _ clean (IsFirst-rest e _ _ tested (IsFirst-front e _ _ (subst P (sym begun) refused))))

      module _ (stepped : Names) (step' : OptionalStatement) (steps : BranchResolves in_loop step inside stepped step') where
        behind_step : names_behind_optional step (names_behind_list first (entered before)) ≡ stepped
        behind_step = ap (names_behind_optional step) begun ∙ steps.behind

        stepping : branch_faults in_loop step (names_behind_list first (entered before)) ≡ []
        stepping = ap (branch_faults in_loop step) begun ∙ steps.faultless

        -- and then the body
        pub For-body : (e : CheckError) → IsFirst e (statement_faults true body stepped) →
            IsFirst e (statement_faults in_loop s before)
        unfolding statement_faults
        For-body e refused =
            let P : Names → Type 0 = λ n. IsFirst e (statement_faults true body n) in
            of_for e (IsFirst-rest e _ _ clean (IsFirst-rest e _ _ tested (IsFirst-rest e _ _ stepping (subst P (sym behind_step) refused))))

        -- a `for`, whose names are left after it
        pub For-resolves : (ended after : Names) (body' out : SourceStatement) → StatementResolves true body stepped ended body' →
            after ≡ outwards ended → out ≡ ForLoop line first' test' step' body' → StatementResolves in_loop s before after out
        unfolding statement_faults names_behind resolved_statement
        For-resolves ended after body' out turns closed made =
            let at = ap (names_behind body) behind_step ∙ turns.behind in
            let outer = names_behind-outer body _ ∙ names_behind_optional-outer step _ ∙ names_behind_list-outer first (entered before) in
            record {
              faultless = ap (λ (x : SourceStatement). statement_faults in_loop x before) is ∙ none_in_both _ _ clean (none_in_both _ _ tested (none_in_both _ _ stepping
                  (ap (statement_faults true body) behind_step ∙ turns.faultless)));
              behind = ap (λ (x : SourceStatement). names_behind x before) is ∙ ap (λ (n : Names). left before n) at
                  ∙ sym (outwards-left before ended (ap (λ (n : Names). n.outer) (sym at) ∙ outer))
                  ∙ sym closed;
              is_resolved = ap (λ (x : SourceStatement). resolved_statement x before) is ∙
                  ap (λ (x : SourceList). ForLoop line x (resolved_expression (names_behind_list first (entered before)) test)
                  (resolved_branch step (names_behind_list first (entered before)))
                  (resolved_statement body (names_behind_optional step (names_behind_list first (entered before)))))
                  (ap (resolved_list first) (sym opening) ∙ starts.is_resolved)
                  ∙ ap (λ (x : SourceExpression). ForLoop line first' x
                  (resolved_branch step (names_behind_list first (entered before)))
                  (resolved_statement body (names_behind_optional step (names_behind_list first (entered before)))))
                  (ap (λ (n : Names). resolved_expression n test) begun ∙ tests.is_resolved)
                  ∙ ap (λ (x : OptionalStatement). ForLoop line first' test' x
                  (resolved_statement body (names_behind_optional step (names_behind_list first (entered before)))))
                  (ap (resolved_branch step) begun ∙ steps.is_resolved)
                  ∙ ap (λ (x : SourceStatement). ForLoop line first' test' step' x)
                  (ap (resolved_statement body) behind_step ∙ turns.is_resolved) ∙ sym made;
            }
