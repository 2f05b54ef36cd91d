-- What follows from the explainer's promise for each status, for each command and for each text.
use Rattle.std.specs.Prelude.{◌≡◌, ℕ, ◌≤◌, ◌⊎◌, List, Option, Some, None}
use Rattle.std.specs.Io.KnownBytes.{Appends}
use Rattle.std.specs.Option.{IsSomeAnd}
use Rattle.pc_word.specs.Count.{Rose}
use Rattle.pc_syntax.specs.Unit.{TranslationUnit}
use Rattle.pc_flow.specs.FlowGraph.{FlowGraph}
use Rattle.pc_outside.specs.Shelf.{ReadFaultOf, ReadKeeps}
use Rattle.pc_outside.specs.Stream.{AppendsPart}
use Rattle.pc_command.specs.Requests.{ExplainRequest, OfFile}
use Rattle.pc_source.specs.Files.{HoldsSource, IsTold}
use Rattle.pc_source.specs.Source.{IsSource, IsNoSource}
use Rattle.pc_explainer.specs.Explainer.{ExplainerLacks, ExplainerPromise}
use Rattle.pc_explainer.specs.Explanations.{Explains}
use Rattle.pc_explainer.specs.Outside.{Surroundings, HasErrorFault}

-- what explains the source of this unit was sent
pub record SendsExplanation (Passed : FlowGraph → FlowGraph → Type 0) (old new : Surroundings) (request : ExplainRequest) (unit : TranslationUnit) : Type 0 where
  pub text : List ℕ
  pub explains : Explains Passed old.shelf.held request unit text
  pub sent : Appends old.out.told new.out.told text

-- a proper prefix of it was sent before the output failed
pub record BreaksOff (Passed : FlowGraph → FlowGraph → Type 0) (old new : Surroundings) (request : ExplainRequest) (unit : TranslationUnit) : Type 0 where
  pub text : List ℕ
  pub explains : Explains Passed old.shelf.held request unit text
  pub fault : Rose old.out.faults new.out.faults
  pub part : AppendsPart old.out.told new.out.told text

-- SRC is the source of some unit, what explains it was sent, and nothing was told
pub record HasExplained (Passed : FlowGraph → FlowGraph → Type 0) (old new : Surroundings) (request : ExplainRequest) : Type 0 where
  pub unit : TranslationUnit
  pub sends : SendsExplanation Passed old new request unit
  pub silent : new.err ≡ old.err

-- SRC is the source of some unit, and the output failed on what explains it
abbrev pub HasBroken : (Passed : FlowGraph → FlowGraph → Type 0) (old new : Surroundings) → ExplainRequest → Type 0
HasBroken Passed old new request = (unit : TranslationUnit) × BreaksOff Passed old new request unit

-- the source is a file, of which the shelf had a read fault
pub record HasReadFault (old new : Surroundings) (request : ExplainRequest) : Type 0 where
  pub name : List ℕ
  pub file : request.source ≡ OfFile name
  pub fault : ReadFaultOf old.shelf new.shelf name

-- what follows
pub record ExplainerStatuses (given : Option ExplainRequest) (Passed : FlowGraph → FlowGraph → Type 0) (old new : Surroundings) (code : ℕ) : Type 0 where
  -- what each status says
  pub explained : code ≡ 0 → IsSomeAnd given (HasExplained Passed old new)
  pub lacking : code ≡ 1 → ExplainerLacks Passed old.shelf old.out new.out given
  pub misused : code ≡ 2 → (given ≡ None) × (new.shelf ≡ old.shelf)
  pub unread : code ≡ 3 → IsSomeAnd given (HasReadFault old new)
  pub refused : code ≡ 4 → IsSomeAnd given (λ request. HoldsSource old.shelf.held request.source IsNoSource)
  pub failed : code ≡ 5 → IsSomeAnd given (HasBroken Passed old new) ⊎ HasErrorFault old new
  pub known : code ≤ 5
  -- with 2, 3 and 4 nothing was sent to the output
  pub silent : (2 ≤ code) → (code ≤ 4) → new.out ≡ old.out
  -- whatever the status, no file differs
  pub kept : ReadKeeps old.shelf new.shelf
  -- what is no command is reported so, but for want of memory and a fault of the error output
  pub usage : given ≡ None → (code ≡ 2) ⊎ (code ≡ 1) ⊎ ((code ≡ 5) × HasErrorFault old new)
  -- what explains a source is sent, but for want of memory and faults
  pub complete : (request : ExplainRequest) (text : List ℕ) (unit : TranslationUnit) →
      given ≡ Some request → IsTold old.shelf.held request.source text → IsSource text unit →
      ((code ≡ 0) × SendsExplanation Passed old new request unit)
      ⊎ (code ≡ 1) ⊎ ((code ≡ 3) × HasReadFault old new request) ⊎ ((code ≡ 5) × (BreaksOff Passed old new request unit ⊎ HasErrorFault old new))
  -- and another text is refused
  pub strict : (request : ExplainRequest) (text : List ℕ) →
      given ≡ Some request → IsTold old.shelf.held request.source text → IsNoSource text →
      (code ≡ 4) ⊎ (code ≡ 1) ⊎ ((code ≡ 3) × HasReadFault old new request) ⊎ ((code ≡ 5) × HasErrorFault old new)

-- the law: the promise says all this
abbrev pub ExplainerPromisesSay : (FlowGraph → FlowGraph → Type 0) → Type 0
ExplainerPromisesSay Passed =
    (given : Option ExplainRequest) (old new : Surroundings) (code : ℕ) → ExplainerPromise given Passed old new code
    → ExplainerStatuses given Passed old new code
