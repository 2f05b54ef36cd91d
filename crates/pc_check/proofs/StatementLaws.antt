-- What is told of a statement by what is told of its parts.
use Rattle.std.proofs.Common.{◌≡◌, refl, ap, ◌∙◌, sym, subst, ℕ, suc, Bool, List, [], ◌∷◌, ◌++◌, ◌+◌, ◌<◌, length, take, drop, get_or}
use Rattle.pc_syntax.specs.declared.statement.Stmt.{Stmt}
use Rattle.pc_syntax.specs.Source.{SourceStatement, SourceList, No_more, More, appended}
use Rattle.pc_syntax.specs.Erasure.{list_of, statement_of}
use Rattle.pc_syntax.proofs.ErasureLaws.{list_of-push}
use Rattle.pc_check.specs.declared.error.CheckError.{CheckError}
use Rattle.pc_check.specs.Names.{Names}
use Rattle.pc_check.specs.Faults.{statement_faults, list_faults, names_behind, names_behind_list}
use Rattle.pc_check.specs.Resolution.{resolved_statement}
use Rattle.pc_check.specs.models.Resolves.{IsFirst, StatementResolves, ListResolves}
use Rattle.pc_check.proofs.Rows.{list_of-more, list_of-split}
use Rattle.pc_check.proofs.FaultLaws.{IsFirst-front, IsFirst-rest, none_in_both}
use Rattle.pc_check.proofs.NameLaws.{names_behind_list-appended, list_faults-appended, resolved_list-appended}

-- no statements have no fault, and leave the names as they are
pub ListResolves-none : (in_loop : Bool) (n : Names) → ListResolves in_loop No_more n n No_more
unfolding statement_faults names_behind resolved_statement
ListResolves-none in_loop n = record { faultless = refl; behind = refl; is_resolved = refl }

-- a list, and a statement after it
pub ListResolves-snoc : (in_loop : Bool) (front : SourceList) (s : SourceStatement) (before middle after : Names) (out : SourceList) (one : SourceStatement) →
    ListResolves in_loop front before middle out → StatementResolves in_loop s middle after one →
    ListResolves in_loop (appended front (More s No_more)) before after (appended out (More one No_more))
unfolding statement_faults names_behind resolved_statement
ListResolves-snoc in_loop front s before middle after out one some next =
    let at = some.behind in
    let last : statement_faults in_loop s (names_behind_list front before) ≡ [] =
    ap (λ (n : Names). statement_faults in_loop s n) at ∙ next.faultless in
    record {
      faultless = list_faults-appended in_loop front (More s No_more) before
          ∙ none_in_both (list_faults in_loop front before) _ some.faultless (none_in_both _ [] last refl);
      behind = names_behind_list-appended front (More s No_more) before ∙ ap (names_behind s) at ∙ next.behind;
      is_resolved = resolved_list-appended front (More s No_more) before
          ∙ ap (λ (x : SourceList). appended x (More (resolved_statement s (names_behind_list front before)) No_more)) some.is_resolved
          ∙ ap (λ (n : Names). appended out (More (resolved_statement s n) No_more)) at
          ∙ ap (λ (x : SourceStatement). appended out (More x No_more)) next.is_resolved;
    }

-- one more tree in front of a place
pub ListResolves-more : (in_loop : Bool) (items out longer : List Stmt) (i : ℕ) (item one : Stmt) (before middle after : Names) →
    i < length items → item ≡ get_or items i item →
    ListResolves in_loop (list_of (take i items)) before middle (list_of out) →
    StatementResolves in_loop (statement_of item) middle after (statement_of one) → longer ≡ out ++ one ∷ [] →
    ListResolves in_loop (list_of (take (i + 1) items)) before after (list_of longer)
ListResolves-more in_loop items out longer i item one before middle after below read some next pushed =
    let P : SourceList → Type 0 = λ x. ListResolves in_loop x before after (list_of longer) in
    let Q : SourceList → Type 0 = λ x. ListResolves in_loop (appended (list_of (take i items)) (More (statement_of item) No_more)) before after x in
    subst P (sym (list_of-more items i item below read))
    (subst Q (sym (ap list_of pushed ∙ list_of-push out one))
    (ListResolves-snoc in_loop (list_of (take i items)) (statement_of item) before middle after (list_of out) (statement_of one) some next))

-- the first fault of a list, after statements without faults
pub IsFirst-list : (e : CheckError) (in_loop : Bool) (items out : List Stmt) (i : ℕ) (item : Stmt) (before middle : Names) →
    i < length items → item ≡ get_or items i item →
    ListResolves in_loop (list_of (take i items)) before middle (list_of out) →
    IsFirst e (statement_faults in_loop (statement_of item) middle) → IsFirst e (list_faults in_loop (list_of items) before)
unfolding statement_faults
IsFirst-list e in_loop items out i item before middle below read some is =
    let front = list_of (take i items) in
    let rest = More (statement_of item) (list_of (drop (suc i) items)) in
    let split = list_of-split items i item below read in
    let P : List CheckError → Type 0 = λ x. IsFirst e x in
    let at : IsFirst e (statement_faults in_loop (statement_of item) (names_behind_list front before)) =
    (let Q : Names → Type 0 = λ n. IsFirst e (statement_faults in_loop (statement_of item) n) in subst Q (sym some.behind) is) in
    subst P (sym (ap (λ (x : SourceList). list_faults in_loop x before) split ∙ list_faults-appended in_loop front rest before))
    (IsFirst-rest e (list_faults in_loop front before) _ some.faultless (IsFirst-front e _ _ at))
