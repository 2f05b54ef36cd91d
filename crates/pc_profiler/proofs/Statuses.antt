-- What follows from the profiler's promise.
use Rattle.std.proofs.Common.{◌≡◌, ℕ, ◌≤◌, ◌⊎◌, inl, inr, List, Option, Some, None, refl, sym, subst, arith}
use Rattle.std.specs.Prelude.{ℤ}
use Rattle.std.specs.Option.{IsSomeAnd}
use Rattle.pc_object.specs.ObjectText.{CodeWithNotes}
use Rattle.pc_outside.specs.Shelf.{ReadFaultOf}
use Rattle.pc_command.specs.Requests.{StatRequest}
use Rattle.pc_report.specs.declared.fault.ToolFault.{ToolFault}
use Rattle.pc_driver.specs.Due.{Told}
use Rattle.pc_driver.specs.Files.{HoldsText}
use Rattle.pc_driver.specs.Input.{HasInputFault, IsInputOf, IsNoInput, SpellsInput, Loaded}
use Rattle.pc_driver.specs.Objects.{IsTextOf, IsNoObject, Holds, HoldsObject, HasObjectFault}
use Rattle.pc_driver.specs.Outside.{Outside, HasErrorFault}
use Rattle.pc_driver.proofs.Choices.{either_first, third_first, last_first}
use Rattle.pc_driver.proofs.Files.{held_map, told_holds}
use Rattle.pc_driver.proofs.Inputs.{faulty_input, given_input, if_some_map, loaded_text, same_numbers, same_object, told_input}
use Rattle.pc_driver.proofs.Objects.{faulty_object}
use Rattle.pc_driver.proofs.Statuses.{due_status, status_of}
use Rattle.pc_profiler.specs.Profiler.{ProfilerEnds, Profiled, Misused, Unread, Refused, Untaken, Misspelt, Broke, Lacking, ProfilerLacks, ProfilerPromise}
use Rattle.pc_profiler.specs.ProfilerLaws.{SendsCost, BreaksOff, HasProfiled, HasBroken, FailsToTake, RefusesBytes, IsToldObject, ProfilerStatuses}

-- ---- what is due, by how it ended

module _ (old new : Outside) where
  -- how it ended, with what was due
  abbrev Ends : Option StatRequest → Option ToolFault → Type 0
  Ends given due = ProfilerEnds old.shelf new.shelf old.input new.input old.out new.out given due

  profiled_of : (given : Option StatRequest) (due : Option ToolFault) → Ends given due → due_status due ≡ 0 → IsSomeAnd given (HasProfiled old new)
  profiled_of given due (Profiled {request} {object} {numbers} loaded sent) e = record { object = object; numbers = numbers; loaded = loaded; sent = sent }
  profiled_of given due _ e = absurd cc

  lacking_of : (given : Option StatRequest) (due : Option ToolFault) → Ends given due → due_status due ≡ 1
      → ProfilerLacks old.shelf old.input new.input old.out new.out given
  lacking_of given due (Lacking lacks) e = lacks
  lacking_of given due _ e = absurd cc

  misused_of : (given : Option StatRequest) (due : Option ToolFault) → Ends given due → due_status due ≡ 2
      → (given ≡ None) × (new.shelf ≡ old.shelf) × (new.input ≡ old.input)
  misused_of given due (Misused same quiet silent) e = (refl, same, quiet)
  misused_of given due _ e = absurd cc

  unread_of : (given : Option StatRequest) (due : Option ToolFault) → Ends given due → due_status due ≡ 3 → IsSomeAnd given (FailsToTake old new)
  unread_of given due (Unread {request} {name} is failed quiet silent) e =
      inl (subst (λ name. ReadFaultOf old.shelf new.shelf name) (sym is) failed, quiet)
  unread_of given due (Untaken object failed silent) e = inr (object, failed)
  unread_of given due _ e = absurd cc

  refused_of : (given : Option StatRequest) (due : Option ToolFault) → Ends given due → due_status due ≡ 4 → IsSomeAnd given (RefusesBytes old new)
  refused_of given due (Refused {request} {what} faulty quiet silent) e =
      inl (held_map old.shelf.held request.object (λ bytes. HasObjectFault bytes what) IsNoObject (λ bytes. faulty_object bytes what) faulty, quiet)
  refused_of given due (Misspelt {request} {what} object faulty silent) e =
      inr (object, if_some_map old.input.told (λ bytes. HasInputFault bytes what) IsNoInput (λ bytes. faulty_input bytes what) faulty)
  refused_of given due _ e = absurd cc

  broken : (request : StatRequest) (object : CodeWithNotes) (numbers : List ℤ) → Loaded request.object old.shelf.held old.input.told object numbers
      → BreaksOff old new request object numbers → HasBroken old new request
  broken request object numbers loaded breaks = record { object = object; numbers = numbers; loaded = loaded; breaks_off = breaks }

  failed_of : (given : Option StatRequest) (due : Option ToolFault) → Ends given due → due_status due ≡ 5 → IsSomeAnd given (HasBroken old new)
  failed_of given due (Broke {request} {object} {numbers} loaded rose part) e = broken request object numbers loaded (record { fault = rose; part = part })
  failed_of given due _ e = absurd cc

  known_of : (given : Option StatRequest) (due : Option ToolFault) → Ends given due → due_status due ≤ 5
  known_of given due (Profiled loaded sent) = omega arith
  known_of given due (Misused same quiet silent) = omega arith
  known_of given due (Unread is failed quiet silent) = omega arith
  known_of given due (Refused faulty quiet silent) = omega arith
  known_of given due (Untaken object failed silent) = omega arith
  known_of given due (Misspelt object faulty silent) = omega arith
  known_of given due (Broke loaded rose part) = omega arith
  known_of given due (Lacking lacks) = omega arith

  silent_of : (given : Option StatRequest) (due : Option ToolFault) → Ends given due → 2 ≤ due_status due → due_status due ≤ 4 → new.out ≡ old.out
  silent_of given due (Profiled loaded sent) low high = absurd (omega arith)
  silent_of given due (Misused same quiet silent) low high = silent
  silent_of given due (Unread is failed quiet silent) low high = silent
  silent_of given due (Refused faulty quiet silent) low high = silent
  silent_of given due (Untaken object failed silent) low high = silent
  silent_of given due (Misspelt object faulty silent) low high = silent
  silent_of given due (Broke loaded rose part) low high = absurd (omega arith)
  silent_of given due (Lacking lacks) low high = absurd (omega arith)

  usage_of : (due : Option ToolFault) → Ends None due → (due_status due ≡ 2) ⊎ (due_status due ≡ 1)
  usage_of due (Misused same quiet silent) = inl refl
  usage_of due (Lacking lacks) = inr refl

  -- ---- an object and an input that are told

  file_told : (request : StatRequest) (text : List ℕ) (P : List ℕ → Type 0) → IsToldObject old request text
      → HoldsText old.shelf.held request.object P → P text
  file_told request text P file h = told_holds old.shelf.held file.files request.object text P file.held file.here h

  -- the file has the text of this object, and the input, which is told too, is one of these numbers
  record ToldRun (request : StatRequest) (object : CodeWithNotes) (numbers : List ℤ) : Type 0 where
    pub text : List ℕ
    pub file : IsToldObject old request text
    pub is : IsTextOf text object
    pub left : List ℕ
    pub rest : old.input.told ≡ Some left
    pub input : IsInputOf left numbers

  -- the object that was loaded is the one that is told, and so are the numbers
  same_loaded : (request : StatRequest) (object : CodeWithNotes) (numbers : List ℤ) → ToldRun request object numbers
      → (loaded : CodeWithNotes) → Holds old.shelf.held request.object loaded → loaded ≡ object
  same_loaded request object numbers t loaded h =
      same_object t.text loaded object (loaded_text old.shelf.held t.file.files request.object t.text loaded t.file.held t.file.here h) t.is

  same_given : (request : StatRequest) (object : CodeWithNotes) (numbers : List ℤ) → ToldRun request object numbers
      → (given : List ℤ) → SpellsInput old.input.told given → given ≡ numbers
  same_given request object numbers t given s = same_numbers t.left given numbers (given_input old.input.told t.left given t.rest s) t.input

  -- what holds of the object and the numbers that were loaded holds of those that are told
  of_told : (P : CodeWithNotes → List ℤ → Type 0) (request : StatRequest) (object : CodeWithNotes) (numbers : List ℤ) → ToldRun request object numbers
      → (loaded : CodeWithNotes) (given : List ℤ) → Loaded request.object old.shelf.held old.input.told loaded given → P loaded given → P object numbers
  of_told P request object numbers t loaded given l p =
      subst (λ (o : CodeWithNotes). P o numbers) (same_loaded request object numbers t loaded l.in_file)
      (subst (λ (ns : List ℤ). P loaded ns) (same_given request object numbers t given l.in_input) p)

  complete_of : (request : StatRequest) (object : CodeWithNotes) (numbers : List ℤ) (due : Option ToolFault) → ToldRun request object numbers
      → Ends (Some request) due
      → ((due_status due ≡ 0) × SendsCost old new request object numbers)
      ⊎ (due_status due ≡ 1) ⊎ ((due_status due ≡ 3) × FailsToTake old new request) ⊎ ((due_status due ≡ 5) × BreaksOff old new request object numbers)
  complete_of request told_object told_numbers due t (Profiled {object} {numbers} loaded sent) =
      inl (refl, of_told (λ o ns. SendsCost old new request o ns) request told_object told_numbers t object numbers loaded sent)
  complete_of request object numbers due t (Unread {name} is failed quiet silent) =
      inr (inr (inl (refl, inl (subst (λ name. ReadFaultOf old.shelf new.shelf name) (sym is) failed, quiet))))
  complete_of request object numbers due t (Refused {what} faulty quiet silent) =
      absurd (faulty_object t.text what (file_told request t.text (λ bytes. HasObjectFault bytes what) t.file faulty) object t.is)
  complete_of request object numbers due t (Untaken held failed silent) = inr (inr (inl (refl, inr (held, failed))))
  complete_of request object numbers due t (Misspelt {what} held faulty silent) =
      absurd (faulty_input t.left what (told_input old.input.told t.left (λ bytes. HasInputFault bytes what) t.rest faulty) numbers t.input)
  complete_of request told_object told_numbers due t (Broke {object} {numbers} loaded rose part) =
      let breaks : BreaksOff old new request object numbers = record { fault = rose; part = part } in
      inr (inr (inr (refl, of_told (λ o ns. BreaksOff old new request o ns) request told_object told_numbers t object numbers loaded breaks)))
  complete_of request object numbers due t (Lacking lacks) = inr (inl refl)

  -- ---- a file that is no object, an input that is none

  -- a file that is no object was not loaded
  no_object : (request : StatRequest) (text : List ℕ) (object : CodeWithNotes) → IsToldObject old request text
      → IsNoObject text → Holds old.shelf.held request.object object → ⊥
  no_object request text object file none h =
      none object (loaded_text old.shelf.held file.files request.object text object file.held file.here h)

  no_held_object : (request : StatRequest) (text : List ℕ) → IsToldObject old request text → IsNoObject text → HoldsObject old.shelf.held request.object → ⊥
  no_held_object request text file none h =
      let held = file_told request text (λ bytes. (o : CodeWithNotes) × IsTextOf bytes o) file h in
      none held.0 held.1

  strict_object : (request : StatRequest) (text : List ℕ) (due : Option ToolFault) → IsToldObject old request text → IsNoObject text → Ends (Some request) due
      → (due_status due ≡ 4) ⊎ (due_status due ≡ 1) ⊎ ((due_status due ≡ 3) × ReadFaultOf old.shelf new.shelf request.object)
  strict_object request text due file none (Profiled {object} loaded sent) = absurd (no_object request text object file none loaded.in_file)
  strict_object request text due file none (Unread {name} is failed quiet silent) =
      inr (inr (refl, subst (λ name. ReadFaultOf old.shelf new.shelf name) (sym is) failed))
  strict_object request text due file none (Refused faulty quiet silent) = inl refl
  strict_object request text due file none (Untaken held failed silent) = absurd (no_held_object request text file none held)
  strict_object request text due file none (Misspelt held faulty silent) = absurd (no_held_object request text file none held)
  strict_object request text due file none (Broke {object} loaded rose part) = absurd (no_object request text object file none loaded.in_file)
  strict_object request text due file none (Lacking lacks) = inr (inl refl)

  -- an input that is none gave no numbers
  no_numbers : (left : List ℕ) (numbers : List ℤ) → old.input.told ≡ Some left → IsNoInput left → SpellsInput old.input.told numbers → ⊥
  no_numbers left numbers rest none s = none numbers (given_input old.input.told left numbers rest s)

  strict_input : (request : StatRequest) (text left : List ℕ) (object : CodeWithNotes) (due : Option ToolFault) → IsToldObject old request text
      → IsTextOf text object → old.input.told ≡ Some left → IsNoInput left → Ends (Some request) due
      → (due_status due ≡ 4) ⊎ (due_status due ≡ 1) ⊎ ((due_status due ≡ 3) × FailsToTake old new request)
  strict_input request text left object due file is rest none (Profiled {numbers} loaded sent) = absurd (no_numbers left numbers rest none loaded.in_input)
  strict_input request text left object due file is rest none (Unread {name} e failed quiet silent) =
      inr (inr (refl, inl (subst (λ name. ReadFaultOf old.shelf new.shelf name) (sym e) failed, quiet)))
  strict_input request text left object due file is rest none (Refused faulty quiet silent) = inl refl
  strict_input request text left object due file is rest none (Untaken held failed silent) = inr (inr (refl, inr (held, failed)))
  strict_input request text left object due file is rest none (Misspelt held faulty silent) = inl refl
  strict_input request text left object due file is rest none (Broke {numbers} loaded rose part) = absurd (no_numbers left numbers rest none loaded.in_input)
  strict_input request text left object due file is rest none (Lacking lacks) = inr (inl refl)

  -- ---- of the status itself, which is that of what was due, or 5 for a fault of the error output

  module _ (given : Option StatRequest) (due : Option ToolFault) (code : ℕ) (ends : Ends given due) (told : Told due old.err new.err code) where
    by_status : (P : ℕ → Type 0) → P (due_status due) → ((code ≡ 5) × HasErrorFault old new → P code) → P code
    by_status P due_says broken = elim (status_of due old.err new.err code told) [
      | inl same ↦ subst P (sym same) due_says
      | inr part ↦ broken part
    ]

    to_some : (request : StatRequest) → given ≡ Some request → Ends (Some request) due
    to_some request is = subst (λ (g : Option StatRequest). Ends g due) is ends

    pub statuses : ProfilerStatuses given old new code
    statuses = record {
      profiled = by_status (λ code. code ≡ 0 → IsSomeAnd given (HasProfiled old new)) (profiled_of given due ends)
          (λ part e. absurd (omega (arith, part.0, e)));
      lacking = by_status (λ code. code ≡ 1 → ProfilerLacks old.shelf old.input new.input old.out new.out given)
          (lacking_of given due ends) (λ part e. absurd (omega (arith, part.0, e)));
      misused = by_status (λ code. code ≡ 2 → (given ≡ None) × (new.shelf ≡ old.shelf) × (new.input ≡ old.input))
          (misused_of given due ends) (λ part e. absurd (omega (arith, part.0, e)));
      unread = by_status (λ code. code ≡ 3 → IsSomeAnd given (FailsToTake old new)) (unread_of given due ends) (λ part e. absurd (omega (arith, part.0, e)));
      refused = by_status (λ code. code ≡ 4 → IsSomeAnd given (RefusesBytes old new)) (refused_of given due ends) (λ part e. absurd (omega (arith, part.0, e)));
      failed = by_status (λ code. code ≡ 5 → IsSomeAnd given (HasBroken old new) ⊎ HasErrorFault old new) (λ e. inl (failed_of given due ends e)) (λ part e. inr part.1);
      known = by_status (λ code. code ≤ 5) (known_of given due ends) (λ part. omega (arith, part.0));
      silent = by_status (λ code. (2 ≤ code) → (code ≤ 4) → new.out ≡ old.out) (silent_of given due ends) (λ part low high. absurd (omega (arith, part.0, high)));
      usage = λ none. by_status (λ code. (code ≡ 2) ⊎ (code ≡ 1) ⊎ ((code ≡ 5) × HasErrorFault old new))
          (either_first (usage_of due (subst (λ (g : Option StatRequest). Ends g due) none ends))) (λ part. inr (inr part));
      complete = λ request text left object numbers given_is file is rest input. by_status
          (λ code. ((code ≡ 0) × SendsCost old new request object numbers)
          ⊎ (code ≡ 1) ⊎ ((code ≡ 3) × FailsToTake old new request) ⊎ ((code ≡ 5) × (BreaksOff old new request object numbers ⊎ HasErrorFault old new)))
          (last_first (complete_of request object numbers due (record { text = text; file = file; is = is; left = left; rest = rest; input = input }) (to_some request given_is)))
          (λ part. inr (inr (inr (part.0, inr part.1))));
      strict_of_object = λ request text given_is file none. by_status
          (λ code. (code ≡ 4) ⊎ (code ≡ 1) ⊎ ((code ≡ 3) × ReadFaultOf old.shelf new.shelf request.object) ⊎ ((code ≡ 5) × HasErrorFault old new))
          (third_first (strict_object request text due file none (to_some request given_is))) (λ part. inr (inr (inr part)));
      strict_of_input = λ request text left object given_is file is rest none. by_status
          (λ code. (code ≡ 4) ⊎ (code ≡ 1) ⊎ ((code ≡ 3) × FailsToTake old new request) ⊎ ((code ≡ 5) × HasErrorFault old new))
          (third_first (strict_input request text left object due file is rest none (to_some request given_is))) (λ part. inr (inr (inr part)));
    }

-- the promise says all this
pub statuses_of : (given : Option StatRequest) (old new : Outside) (code : ℕ) → ProfilerPromise given old new code → ProfilerStatuses given old new code
statuses_of given old new code promise = statuses old new given promise.due code promise.ends promise.told
