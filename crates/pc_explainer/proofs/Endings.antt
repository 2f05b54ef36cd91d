-- How the explainer ends, put together from what its steps leave.
use Rattle.std.proofs.Common.{◌≡◌, ℕ, ◌⊎◌, inl, inr, List, Option, Some, None, refl, sym, ◌∙◌, subst, arith}
use Rattle.std.specs.Prelude.{IfNone, IsSome}
use Rattle.pc_flow.specs.FlowGraph.{FlowGraph}
use Rattle.pc_outside.specs.Shelf.{Shelved, ReadKeeps}
use Rattle.pc_command.specs.Requests.{ExplainRequest}
use Rattle.pc_report.specs.declared.fault.Speaker.TheVariants.{Pexplain}
use Rattle.pc_report.specs.declared.fault.ToolFault.{ToolFault}
use Rattle.pc_report.specs.declared.fault.ToolFault.TheVariants as fault
use Rattle.pc_driver.specs.Due.{Told}
use Rattle.pc_driver.specs.Sending.{SendsAll, Sent_whole, Sent_part}
use Rattle.pc_driver.specs.Streams.{Streamed}
use Rattle.pc_driver.proofs.Statuses.{due_status, status_of}
use Rattle.pc_driver.proofs.Streams.{sends_all, sends_part}
use Rattle.pc_explainer.specs.Explainer.{ExplainerEnds, Explained, Misused, Unread, Refused, Broke, Lacking, ExplainerLacks, Early, Sending, ExplainerPromise}
use Rattle.pc_explainer.specs.Outside.{Surroundings}
use Rattle.pc_explainer.specs.models.Explaining.{ExplainsSource, StopsAtSource, Source_lacks, Source_unread, Source_faulty}

-- ---- each step

-- nothing was touched, for want of memory
pub no_memory_ends : (Passed : FlowGraph → FlowGraph → Type 0) (given : Option ExplainRequest) (old : Shelved) (out : Streamed)
    → ExplainerEnds Passed old old out out given (Some (fault.NoMemory Pexplain))
no_memory_ends Passed given old out = Lacking (Early refl)

-- the words are no command
pub no_command_ends : (Passed : FlowGraph → FlowGraph → Type 0) (given : Option ExplainRequest) (old : Shelved) (out : Streamed) → given ≡ None
    → ExplainerEnds Passed old old out out given (Some (fault.Usage Pexplain))
no_command_ends Passed given old out none =
    subst (λ (g : Option ExplainRequest). ExplainerEnds Passed old old out out g (Some (fault.Usage Pexplain))) (sym none) (Misused refl refl)

-- nothing explains the source
pub stop_ends : (Passed : FlowGraph → FlowGraph → Type 0) (request : ExplainRequest) (old new : Shelved) (out : Streamed) (why : ToolFault)
    → StopsAtSource request.source old new why → ExplainerEnds Passed old new out out (Some request) (Some why)
stop_ends Passed request old new out why Source_lacks = Lacking (Early refl)
stop_ends Passed request old new out why (Source_unread {name} is failed) = Unread is failed refl
stop_ends Passed request old new out why (Source_faulty {what} faulty) = Refused faulty refl

-- a text does
pub text_ends : (Passed : FlowGraph → FlowGraph → Type 0) (request : ExplainRequest) (old new : Shelved) (out out_now : Streamed) (text : List ℕ)
    (due : Option ToolFault) → ExplainsSource Passed old.held request text → SendsAll Pexplain text out out_now due
    → ExplainerEnds Passed old new out out_now (Some request) due
text_ends Passed request old new out out_now text due it (Sent_whole sent) = Explained it.explains sent
text_ends Passed request old new out out_now text due it (Sent_part rose part) = Broke it.explains rose part

pub ruleset explainer_endings = (no_memory_ends, no_command_ends, stop_ends, text_ends)

-- ---- the line of what is due

module _ (Passed : FlowGraph → FlowGraph → Type 0) (old new : Surroundings) where
  -- how it ended, with what was due
  abbrev Ends : Option ExplainRequest → Option ToolFault → Type 0
  Ends given due = ExplainerEnds Passed old.shelf new.shelf old.out new.out given due

  -- what was due is told, or that there is no memory for its line
  abbrev IsTold : Option ToolFault → ℕ → Type 0
  IsTold due code = Told due old.err new.err code ⊎ (IsSome due × Told (Some (fault.NoMemory Pexplain)) old.err new.err code)

  -- where something is due, what stands is what may stand where memory ran out
  ends_lacking : (given : Option ExplainRequest) (due : Option ToolFault) → Ends given due → ExplainerLacks Passed old.shelf old.out new.out given
  ends_lacking given due (Explained {request} {unit} {text} it sent) = Sending it (sends_all old.out new.out text sent)
  ends_lacking given due (Misused same silent) = Early silent
  ends_lacking given due (Unread is failed silent) = Early silent
  ends_lacking given due (Refused faulty silent) = Early silent
  ends_lacking given due (Broke {request} {unit} {text} it rose part) = Sending it (sends_part old.out new.out text part)
  ends_lacking given due (Lacking lacks) = lacks

  -- what the explainer came to is what it promises, once it is reported
  pub explainer_promise : (given : Option ExplainRequest) (due : Option ToolFault) (code : ℕ) → Ends given due → ReadKeeps old.shelf new.shelf → IsTold due code
      → ExplainerPromise given Passed old new code
  explainer_promise given due code ends shelf (inl told) = record { due = due; ends = ends; told = told; shelf = shelf }
  explainer_promise given due code ends shelf (inr told) = record {
    due = Some (fault.NoMemory Pexplain);
    ends = Lacking (ends_lacking given due ends);
    told = told.1;
    shelf = shelf;
  }

  -- ---- the status 0

  -- what is due has another status
  nothing_due : (given : Option ExplainRequest) (due : Option ToolFault) → Ends given due → due_status due ≡ 0 → due ≡ None
  nothing_due given due (Explained it sent) e = refl
  nothing_due given due _ e = absurd cc

  -- with the status 0 nothing was due, so there is what is said of this case
  pub with_success : (P : Type 0) (given : Option ExplainRequest) (due : Option ToolFault) (code : ℕ) → Ends given due → IsTold due code → code ≡ 0
      → IfNone due P → P
  with_success P given due code ends (inl told) zero p = elim (status_of due old.err new.err code told) [
    | inl same ↦ subst (λ (d : Option ToolFault). IfNone d P) (nothing_due given due ends (sym same ∙ zero)) p
    | inr part ↦ absurd (omega (arith, part.0, zero))
  ]
  with_success P given due code ends (inr told) zero p = elim (status_of (Some (fault.NoMemory Pexplain)) old.err new.err code told.1) [
    | inl same ↦ absurd (omega (arith, same, zero))
    | inr part ↦ absurd (omega (arith, part.0, zero))
  ]
