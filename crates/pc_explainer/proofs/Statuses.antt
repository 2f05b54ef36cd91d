-- What follows from the explainer's promise.
use Rattle.std.proofs.Common.{◌≡◌, ℕ, ◌≤◌, ◌⊎◌, inl, inr, List, Option, Some, None, refl, sym, subst, arith}
use Rattle.std.specs.Option.{IsSomeAnd}
use Rattle.pc_syntax.specs.Unit.{TranslationUnit}
use Rattle.pc_flow.specs.FlowGraph.{FlowGraph}
use Rattle.pc_command.specs.Requests.{ExplainRequest}
use Rattle.pc_report.specs.declared.fault.ToolFault.{ToolFault}
use Rattle.pc_driver.specs.Due.{Told}
use Rattle.pc_driver.proofs.Choices.{either_first, third_first, last_first}
use Rattle.pc_driver.proofs.Statuses.{due_status, status_of}
use Rattle.pc_source.specs.Files.{HoldsSource, IsTold}
use Rattle.pc_source.specs.Source.{IsSource, IsNoSource}
use Rattle.pc_source.specs.SourceFaults.{HasFault}
use Rattle.pc_source.proofs.Files.{source_map, source_told, text_told}
use Rattle.pc_source.proofs.Sources.{fault_is_none, read_once}
use Rattle.pc_explainer.specs.Explainer.{ExplainerEnds, Explained, Misused, Unread, Refused, Broke, Lacking, ExplainerLacks, ExplainerPromise}
use Rattle.pc_explainer.specs.ExplainerLaws.{SendsExplanation, BreaksOff, HasExplained, HasBroken, HasReadFault, ExplainerStatuses}
use Rattle.pc_explainer.specs.Explanations.{Explains}
use Rattle.pc_explainer.specs.Outside.{Surroundings, HasErrorFault}

-- ---- what is due, by how it ended

module _ (Passed : FlowGraph → FlowGraph → Type 0) (old new : Surroundings) where
  -- how it ended, with what was due
  abbrev Ends : Option ExplainRequest → Option ToolFault → Type 0
  Ends given due = ExplainerEnds Passed old.shelf new.shelf old.out new.out given due

  explained_of : (given : Option ExplainRequest) (due : Option ToolFault) (code : ℕ) → Ends given due → Told due old.err new.err code → due_status due ≡ 0
      → IsSomeAnd given (HasExplained Passed old new)
  explained_of given due code (Explained {request} {unit} {text} it sent) told e =
      record { unit = unit; sends = record { text = text; explains = it; sent = sent }; silent = told.1 }
  explained_of given due code _ told e = absurd cc

  lacking_of : (given : Option ExplainRequest) (due : Option ToolFault) → Ends given due → due_status due ≡ 1
      → ExplainerLacks Passed old.shelf old.out new.out given
  lacking_of given due (Lacking lacks) e = lacks
  lacking_of given due _ e = absurd cc

  misused_of : (given : Option ExplainRequest) (due : Option ToolFault) → Ends given due → due_status due ≡ 2 → (given ≡ None) × (new.shelf ≡ old.shelf)
  misused_of given due (Misused same silent) e = (refl, same)
  misused_of given due _ e = absurd cc

  unread_of : (given : Option ExplainRequest) (due : Option ToolFault) → Ends given due → due_status due ≡ 3 → IsSomeAnd given (HasReadFault old new)
  unread_of given due (Unread {request} {name} is failed silent) e = record { name = name.now; file = is; fault = failed }
  unread_of given due _ e = absurd cc

  refused_of : (given : Option ExplainRequest) (due : Option ToolFault) → Ends given due → due_status due ≡ 4
      → IsSomeAnd given (λ request. HoldsSource old.shelf.held request.source IsNoSource)
  refused_of given due (Refused {request} {what} source silent) e =
      source_map old.shelf.held request.source (λ text. HasFault text what) IsNoSource (λ text. fault_is_none text what) source
  refused_of given due _ e = absurd cc

  failed_of : (given : Option ExplainRequest) (due : Option ToolFault) → Ends given due → due_status due ≡ 5 → IsSomeAnd given (HasBroken Passed old new)
  failed_of given due (Broke {request} {unit} {text} it rose part) e = (unit, record { text = text; explains = it; fault = rose; part = part })
  failed_of given due _ e = absurd cc

  known_of : (given : Option ExplainRequest) (due : Option ToolFault) → Ends given due → due_status due ≤ 5
  known_of given due (Explained it sent) = omega arith
  known_of given due (Misused same silent) = omega arith
  known_of given due (Unread is failed silent) = omega arith
  known_of given due (Refused source silent) = omega arith
  known_of given due (Broke it rose part) = omega arith
  known_of given due (Lacking lacks) = omega arith

  silent_of : (given : Option ExplainRequest) (due : Option ToolFault) → Ends given due → 2 ≤ due_status due → due_status due ≤ 4 → new.out ≡ old.out
  silent_of given due (Explained it sent) low high = absurd (omega arith)
  silent_of given due (Misused same silent) low high = silent
  silent_of given due (Unread is failed silent) low high = silent
  silent_of given due (Refused source silent) low high = silent
  silent_of given due (Broke it rose part) low high = absurd (omega arith)
  silent_of given due (Lacking lacks) low high = absurd (omega arith)

  -- ---- for each command, and for each text

  usage_of : (due : Option ToolFault) → Ends None due → (due_status due ≡ 2) ⊎ (due_status due ≡ 1)
  usage_of due (Misused same silent) = inl refl
  usage_of due (Lacking lacks) = inr refl

  -- a source that is told is that of one unit, which is the one that is explained
  of_told : (request : ExplainRequest) (source : List ℕ) (unit found : TranslationUnit) (text : List ℕ) → IsTold old.shelf.held request.source source
      → IsSource source unit → Explains Passed old.shelf.held request found text → Explains Passed old.shelf.held request unit text
  of_told request source unit found text told is it =
      let same_text : it.source ≡ source = text_told old.shelf.held request.source source it.source told it.in_source in
      let here : IsSource source found = subst (λ s. IsSource s found) same_text it.is_source in
      let same : found ≡ unit = read_once source found unit here.read is.read in
      subst (λ (u : TranslationUnit). Explains Passed old.shelf.held request u text) same it

  complete_of : (request : ExplainRequest) (source : List ℕ) (unit : TranslationUnit) (due : Option ToolFault) → Ends (Some request) due
      → IsTold old.shelf.held request.source source → IsSource source unit
      → ((due_status due ≡ 0) × SendsExplanation Passed old new request unit)
      ⊎ (due_status due ≡ 1) ⊎ ((due_status due ≡ 3) × HasReadFault old new request) ⊎ ((due_status due ≡ 5) × BreaksOff Passed old new request unit)
  complete_of request source unit due (Explained {unit = found} {text} it sent) told is =
      inl (refl, record { text = text; explains = of_told request source unit found text told is it; sent = sent })
  complete_of request source unit due (Unread {name} is_file failed silent) told is =
      inr (inr (inl (refl, record { name = name.now; file = is_file; fault = failed })))
  complete_of request source unit due (Refused {what} faulty silent) told is =
      absurd (fault_is_none source what (source_told old.shelf.held request.source source (λ text. HasFault text what) told faulty) unit is)
  complete_of request source unit due (Broke {unit = found} {text} it rose part) told is =
      inr (inr (inr (refl, record { text = text; explains = of_told request source unit found text told is it; fault = rose; part = part })))
  complete_of request source unit due (Lacking lacks) told is = inr (inl refl)

  -- what is explained is a source
  not_explained : (request : ExplainRequest) (source : List ℕ) (found : TranslationUnit) (text : List ℕ) → IsTold old.shelf.held request.source source
      → IsNoSource source → Explains Passed old.shelf.held request found text → ⊥
  not_explained request source found text told none it =
      let same_text : it.source ≡ source = text_told old.shelf.held request.source source it.source told it.in_source in
      none found (subst (λ s. IsSource s found) same_text it.is_source)

  strict_of : (request : ExplainRequest) (source : List ℕ) (due : Option ToolFault) → Ends (Some request) due
      → IsTold old.shelf.held request.source source → IsNoSource source
      → (due_status due ≡ 4) ⊎ (due_status due ≡ 1) ⊎ ((due_status due ≡ 3) × HasReadFault old new request)
  strict_of request source due (Explained {unit} {text} it sent) told none = absurd (not_explained request source unit text told none it)
  strict_of request source due (Unread {name} is failed silent) told none = inr (inr (refl, record { name = name.now; file = is; fault = failed }))
  strict_of request source due (Refused faulty silent) told none = inl refl
  strict_of request source due (Broke {unit} {text} it rose part) told none = absurd (not_explained request source unit text told none it)
  strict_of request source due (Lacking lacks) told none = inr (inl refl)

  -- ---- of the status itself, which is that of what was due, or 5 for a fault of the error output

  module _ (given : Option ExplainRequest) (code : ℕ) (promise : ExplainerPromise given Passed old new code) where
    abbrev due : Option ToolFault
    due = promise.due

    by_status : (P : ℕ → Type 0) → P (due_status due) → ((code ≡ 5) × HasErrorFault old new → P code) → P code
    by_status P due_says broken = elim (status_of due old.err new.err code promise.told) [
      | inl same ↦ subst P (sym same) due_says
      | inr part ↦ broken part
    ]

    to_some : (request : ExplainRequest) → given ≡ Some request → Ends (Some request) due
    to_some request is = subst (λ (g : Option ExplainRequest). Ends g due) is promise.ends

    pub statuses : ExplainerStatuses given Passed old new code
    statuses = record {
      explained = by_status (λ code. code ≡ 0 → IsSomeAnd given (HasExplained Passed old new)) (λ e. explained_of given due code promise.ends promise.told e)
          (λ part e. absurd (omega (arith, part.0, e)));
      lacking = by_status (λ code. code ≡ 1 → ExplainerLacks Passed old.shelf old.out new.out given) (lacking_of given due promise.ends)
          (λ part e. absurd (omega (arith, part.0, e)));
      misused = by_status (λ code. code ≡ 2 → (given ≡ None) × (new.shelf ≡ old.shelf)) (misused_of given due promise.ends)
          (λ part e. absurd (omega (arith, part.0, e)));
      unread = by_status (λ code. code ≡ 3 → IsSomeAnd given (HasReadFault old new)) (unread_of given due promise.ends)
          (λ part e. absurd (omega (arith, part.0, e)));
      refused = by_status (λ code. code ≡ 4 → IsSomeAnd given (λ request. HoldsSource old.shelf.held request.source IsNoSource)) (refused_of given due promise.ends)
          (λ part e. absurd (omega (arith, part.0, e)));
      failed = by_status (λ code. code ≡ 5 → IsSomeAnd given (HasBroken Passed old new) ⊎ HasErrorFault old new)
          (λ e. inl (failed_of given due promise.ends e)) (λ part e. inr part.1);
      known = by_status (λ code. code ≤ 5) (known_of given due promise.ends) (λ part. omega (arith, part.0));
      silent = by_status (λ code. (2 ≤ code) → (code ≤ 4) → new.out ≡ old.out) (silent_of given due promise.ends)
          (λ part low high. absurd (omega (arith, part.0, high)));
      kept = promise.shelf;
      usage = λ none. by_status (λ code. (code ≡ 2) ⊎ (code ≡ 1) ⊎ ((code ≡ 5) × HasErrorFault old new))
          (either_first (usage_of due (subst (λ (g : Option ExplainRequest). Ends g due) none promise.ends))) (λ part. inr (inr part));
      complete = λ request text unit is told source. by_status
          (λ code. ((code ≡ 0) × SendsExplanation Passed old new request unit)
          ⊎ (code ≡ 1) ⊎ ((code ≡ 3) × HasReadFault old new request) ⊎ ((code ≡ 5) × (BreaksOff Passed old new request unit ⊎ HasErrorFault old new)))
          (last_first (complete_of request text unit due (to_some request is) told source)) (λ part. inr (inr (inr (part.0, inr part.1))));
      strict = λ request text is told none. by_status
          (λ code. (code ≡ 4) ⊎ (code ≡ 1) ⊎ ((code ≡ 3) × HasReadFault old new request) ⊎ ((code ≡ 5) × HasErrorFault old new))
          (third_first (strict_of request text due (to_some request is) told none)) (λ part. inr (inr (inr part)));
    }

-- the promise says all this
pub statuses_of : (Passed : FlowGraph → FlowGraph → Type 0) (given : Option ExplainRequest) (old new : Surroundings) (code : ℕ)
    → ExplainerPromise given Passed old new code → ExplainerStatuses given Passed old new code
statuses_of Passed given old new code promise = statuses Passed old new given code promise
