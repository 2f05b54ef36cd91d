-- What follows from the viewer's promise.
use Rattle.std.proofs.Common.{◌≡◌, ℕ, ◌≤◌, ◌⊎◌, inl, inr, List, Option, Some, None, refl, sym, ◌∙◌, subst}
use Rattle.std.proofs.Common.{arith}
use Rattle.std.specs.Option.{IsSomeAnd}
use Rattle.pc_word.specs.Count.{Rose}
use Rattle.pc_object.specs.ObjectText.{CodeWithNotes, object_text}
use Rattle.pc_object.proofs.ReadingLaws.{one_object}
use Rattle.pc_outside.specs.Shelf.{ReadFaultOf}
use Rattle.pc_command.specs.Requests.{ViewRequest}
use Rattle.pc_viewer.specs.Laws.{SendsText, BreaksOff, HasViewed, HasBroken, HasReadFault, HasErrorFault, IsToldObject, ViewerStatuses}
use Rattle.pc_driver.specs.Files.{HoldsText}
use Rattle.pc_driver.specs.Objects.{HasObjectFault, Holds, IsNoObject, IsTextOf}
use Rattle.pc_driver.specs.Streams.{Streamed}
use Rattle.pc_driver.proofs.Choices.{either_first, third_first, last_first}
use Rattle.pc_driver.proofs.Files.{held_map, told_holds, told_text}
use Rattle.pc_driver.proofs.Objects.{faulty_object}
use Rattle.pc_viewer.specs.Outside.{Surroundings}
use Rattle.pc_viewer.specs.Told.{Told, view_status}
use Rattle.pc_viewer.specs.Viewer.{ViewerEnds, Viewed, Misused, Unread, Refused, Broke, Lacking, ViewerLacks, ViewerPromise}
use Rattle.pc_viewer.specs.declared.fault.ViewFault.{ViewFault}

-- ---- a file that is told

module _ (old new : Surroundings) (request : ViewRequest) (text : List ℕ) (file : IsToldObject old request text) where
  -- what is held of a file that is told
  file_told : (P : List ℕ → Type 0) → HoldsText old.shelf.held request.object P → P text
  file_told P h = told_holds old.shelf.held file.files request.object text P file.held file.here h

  -- the object that was loaded from it has its text
  loaded_text : (object : CodeWithNotes) → Holds old.shelf.held request.object object → IsTextOf text object
  loaded_text object h =
      record { loads = h.loads; text = sym (told_text old.shelf.held file.files request.object text (object_text object) file.held file.here h.text) }

  -- so it is the object of that text
  same_object : (a b : CodeWithNotes) → Holds old.shelf.held request.object a → IsTextOf text b → a ≡ b
  same_object a b h q =
      let p = loaded_text a h in
      one_object a b p.loads.is_object q.loads.is_object p.loads.has_words q.loads.has_words (sym p.text ∙ q.text)

-- ---- the status

-- that of what is due: 0 where nothing is
abbrev due_status : Option ViewFault → ℕ
due_status None = 0
due_status (Some fault) = view_status fault

-- the status is that of what is due, or 5 where the error output failed
status_of : (due : Option ViewFault) (old new : Streamed) (code : ℕ) → Told due old new code
    → (code ≡ due_status due) ⊎ ((code ≡ 5) × Rose old.faults new.faults)
status_of None old new code told = inl told.0
status_of (Some fault) old new code (inl whole) = inl whole.ended
status_of (Some fault) old new code (inr part) = inr (part.ended, part.failed)

-- ---- what is due, by how it ended

module _ (old new : Surroundings) where
  -- how it ended, with what was due
  abbrev Ends : Option ViewRequest → Option ViewFault → Type 0
  Ends given due = ViewerEnds old.shelf new.shelf old.out new.out given due

  viewed_of : (given : Option ViewRequest) (due : Option ViewFault) → Ends given due → due_status due ≡ 0 → IsSomeAnd given (HasViewed old new)
  viewed_of given due (Viewed {request} {object} held sent) e = record { object = object; in_file = held; sent = sent }
  viewed_of given due _ e = absurd (cc)

  lacking_of : (given : Option ViewRequest) (due : Option ViewFault) → Ends given due → due_status due ≡ 1
      → ViewerLacks old.shelf old.out new.out given
  lacking_of given due (Lacking lacks) e = lacks
  lacking_of given due _ e = absurd (cc)

  misused_of : (given : Option ViewRequest) (due : Option ViewFault) → Ends given due → due_status due ≡ 2 → (given ≡ None) × (new.shelf ≡ old.shelf)
  misused_of given due (Misused same silent) e = (refl, same)
  misused_of given due _ e = absurd (cc)

  unread_of : (given : Option ViewRequest) (due : Option ViewFault) → Ends given due → due_status due ≡ 3 → IsSomeAnd given (HasReadFault old new)
  unread_of given due (Unread {request} {name} is failed silent) e = subst (λ name. ReadFaultOf old.shelf new.shelf name) (sym is) failed
  unread_of given due _ e = absurd (cc)

  refused_of : (given : Option ViewRequest) (due : Option ViewFault) → Ends given due → due_status due ≡ 4
      → IsSomeAnd given (λ request. HoldsText old.shelf.held request.object IsNoObject)
  refused_of given due (Refused {request} {what} faulty silent) e =
      held_map old.shelf.held request.object (λ bytes. HasObjectFault bytes what) IsNoObject (λ bytes. faulty_object bytes what) faulty
  refused_of given due _ e = absurd (cc)

  failed_of : (given : Option ViewRequest) (due : Option ViewFault) → Ends given due → due_status due ≡ 5 → IsSomeAnd given (HasBroken old new)
  failed_of given due (Broke {request} {object} held rose part) e =
      record { object = object; in_file = held; breaks_off = record { fault = rose; part = part } }
  failed_of given due _ e = absurd (cc)

  known_of : (given : Option ViewRequest) (due : Option ViewFault) → Ends given due → due_status due ≤ 5
  known_of given due (Viewed held sent) = omega arith
  known_of given due (Misused same silent) = omega arith
  known_of given due (Unread is failed silent) = omega arith
  known_of given due (Refused faulty silent) = omega arith
  known_of given due (Broke held rose part) = omega arith
  known_of given due (Lacking lacks) = omega arith

  silent_of : (given : Option ViewRequest) (due : Option ViewFault) → Ends given due → 2 ≤ due_status due → due_status due ≤ 4 → new.out ≡ old.out
  silent_of given due (Viewed held sent) low high = absurd (omega arith)
  silent_of given due (Misused same silent) low high = silent
  silent_of given due (Unread is failed silent) low high = silent
  silent_of given due (Refused faulty silent) low high = silent
  silent_of given due (Broke held rose part) low high = absurd (omega arith)
  silent_of given due (Lacking lacks) low high = absurd (omega arith)

  usage_of : (due : Option ViewFault) → Ends None due → (due_status due ≡ 2) ⊎ (due_status due ≡ 1)
  usage_of due (Misused same silent) = inl refl
  usage_of due (Lacking lacks) = inr refl

  complete_of : (request : ViewRequest) (text : List ℕ) (object : CodeWithNotes) (due : Option ViewFault) → IsToldObject old request text
      → IsTextOf text object
      → Ends (Some request) due
      → ((due_status due ≡ 0) × SendsText old new request object)
      ⊎ (due_status due ≡ 1) ⊎ ((due_status due ≡ 3) × HasReadFault old new request) ⊎ ((due_status due ≡ 5) × BreaksOff old new request object)
  complete_of request text object due file is (Viewed {object = loaded} held sent) =
      inl (refl, subst (λ (o : CodeWithNotes). SendsText old new request o) (same_object old new request text file loaded object held is) sent)
  complete_of request text object due file is (Unread {name} named failed silent) =
      inr (inr (inl (refl, subst (λ name. ReadFaultOf old.shelf new.shelf name) (sym named) failed)))
  complete_of request text object due file is (Refused {what} faulty silent) =
      absurd (faulty_object text what (file_told old new request text file (λ bytes. HasObjectFault bytes what) faulty) object is)
  complete_of request text object due file is (Broke {object = loaded} held rose part) =
      let breaks : BreaksOff old new request loaded = record { fault = rose; part = part } in
      inr (inr (inr (refl, subst (λ (o : CodeWithNotes). BreaksOff old new request o) (same_object old new request text file loaded object held is) breaks)))
  complete_of request text object due file is (Lacking lacks) = inr (inl refl)

  strict_of : (request : ViewRequest) (text : List ℕ) (due : Option ViewFault) → IsToldObject old request text → IsNoObject text
      → Ends (Some request) due
      → (due_status due ≡ 4) ⊎ (due_status due ≡ 1) ⊎ ((due_status due ≡ 3) × HasReadFault old new request)
  strict_of request text due file none (Viewed {object} held sent) = absurd (none object (loaded_text old new request text file object held))
  strict_of request text due file none (Unread {name} named failed silent) =
      inr (inr (refl, subst (λ name. ReadFaultOf old.shelf new.shelf name) (sym named) failed))
  strict_of request text due file none (Refused faulty silent) = inl refl
  strict_of request text due file none (Broke {object} held rose part) = absurd (none object (loaded_text old new request text file object held))
  strict_of request text due file none (Lacking lacks) = inr (inl refl)

  -- ---- of the status itself, which is that of what was due, or 5 for a fault of the error output

  module _ (given : Option ViewRequest) (due : Option ViewFault) (code : ℕ) (ends : Ends given due) (told : Told due old.err new.err code) where
    by_status : (P : ℕ → Type 0) → P (due_status due) → ((code ≡ 5) × HasErrorFault old new → P code) → P code
    by_status P due_says broken = elim (status_of due old.err new.err code told) [
      | inl same ↦ subst P (sym same) due_says
      | inr part ↦ broken part
    ]

    to_some : (request : ViewRequest) → given ≡ Some request → Ends (Some request) due
    to_some request is = subst (λ (g : Option ViewRequest). Ends g due) is ends

    pub statuses : ViewerStatuses given old new code
    statuses = record {
      viewed = by_status (λ code. code ≡ 0 → IsSomeAnd given (HasViewed old new)) (viewed_of given due ends)
          (λ part e. absurd (omega (arith, part.0, e)));
      lacking = by_status (λ code. code ≡ 1 → ViewerLacks old.shelf old.out new.out given) (lacking_of given due ends)
          (λ part e. absurd (omega (arith, part.0, e)));
      misused = by_status (λ code. code ≡ 2 → (given ≡ None) × (new.shelf ≡ old.shelf)) (misused_of given due ends)
          (λ part e. absurd (omega (arith, part.0, e)));
      unread = by_status (λ code. code ≡ 3 → IsSomeAnd given (HasReadFault old new)) (unread_of given due ends)
          (λ part e. absurd (omega (arith, part.0, e)));
      refused = by_status (λ code. code ≡ 4 → IsSomeAnd given (λ request. HoldsText old.shelf.held request.object IsNoObject))
          (refused_of given due ends) (λ part e. absurd (omega (arith, part.0, e)));
      failed = by_status (λ code. code ≡ 5 → IsSomeAnd given (HasBroken old new) ⊎ HasErrorFault old new) (λ e. inl (failed_of given due ends e))
          (λ part e. inr part.1);
      known = by_status (λ code. code ≤ 5) (known_of given due ends) (λ part. omega (arith, part.0));
      silent = by_status (λ code. (2 ≤ code) → (code ≤ 4) → new.out ≡ old.out) (silent_of given due ends)
          (λ part low high. absurd (omega (arith, part.0, high)));
      usage = λ none. by_status (λ code. (code ≡ 2) ⊎ (code ≡ 1) ⊎ ((code ≡ 5) × HasErrorFault old new))
          (either_first (usage_of due (subst (λ (g : Option ViewRequest). Ends g due) none ends))) (λ part. inr (inr part));
      complete = λ request text object given_is file is. by_status
          (λ code. ((code ≡ 0) × SendsText old new request object)
          ⊎ (code ≡ 1) ⊎ ((code ≡ 3) × HasReadFault old new request) ⊎ ((code ≡ 5) × (BreaksOff old new request object ⊎ HasErrorFault old new)))
          (last_first (complete_of request text object due file is (to_some request given_is))) (λ part. inr (inr (inr (part.0, inr part.1))));
      strict = λ request text given_is file none. by_status
          (λ code. (code ≡ 4) ⊎ (code ≡ 1) ⊎ ((code ≡ 3) × HasReadFault old new request) ⊎ ((code ≡ 5) × HasErrorFault old new))
          (third_first (strict_of request text due file none (to_some request given_is))) (λ part. inr (inr (inr part)));
    }

-- the promise says all this
pub statuses_of : (given : Option ViewRequest) (old new : Surroundings) (code : ℕ) → ViewerPromise given old new code
    → ViewerStatuses given old new code
statuses_of given old new code promise = statuses old new given promise.due code promise.ends promise.told
