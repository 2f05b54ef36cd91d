-- What follows from the assembler's promise.
use Rattle.std.proofs.Common.{◌≡◌, ℕ, ◌≤◌, ◌⊎◌, inl, inr, List, Option, Some, None, refl, sym, ap, subst, length}
use Rattle.std.proofs.Common.{arith}
use Rattle.std.specs.Prelude.{Ok, Err}
use Rattle.std.specs.Option.{IsSomeAnd}
use Rattle.pc_word.specs.Count.{Rose}
use Rattle.pc_object.specs.ObjectText.{CodeWithNotes, object_text}
use Rattle.pc_outside.specs.Shelf.{HoldsFile, OnlyFileDiffers, ReadFaultOf, ReadKeeps, Shelved, WriteFaultOf}
use Rattle.pc_command.specs.Requests.{AssembleRequest}
use Rattle.pc_assembly.specs.Object.{listing_reading}
use Rattle.pc_driver.specs.Files.{HoldsText}
use Rattle.pc_driver.specs.Streams.{Streamed}
use Rattle.pc_driver.proofs.Choices.{either_first, last_first, third_first}
use Rattle.pc_driver.proofs.Files.{held_map, told_holds, told_text}
use Rattle.pc_driver.proofs.Results.{ok_same}
use Rattle.pc_assembler.specs.Assembler.{AssemblerEnds, Assembled, Misused, Unread, Refused, Unwritten, Lacking, AssemblerLacks, Early, Writing, AssemblerPromise, WritesObject}
use Rattle.pc_assembler.specs.Faults.{HasTextFault, Long_text, Unread_text, IsListingOf, IsNoListing, IsSomeListing, most_text}
use Rattle.pc_assembler.specs.Laws.{AssemblerStatuses, HasAssembled, HasErrorFault, HasReadFault, HasWriteFault, IsToldText, KeepsOthers}
use Rattle.pc_assembler.specs.Outside.{Surroundings}
use Rattle.pc_assembler.specs.Told.{Told, assembler_status}
use Rattle.pc_assembler.specs.declared.fault.AssemblerFault.{AssemblerFault}
use Rattle.pc_assembler.specs.declared.fault.TextFault.{TextFault}
use Rattle.pc_assembler.proofs.Shelves.{kept_differs, written_differs}

-- ---- texts

-- a text with a fault is no listing
faulty_text : (text : List ℕ) (what : TextFault) → HasTextFault text what → IsNoListing text
faulty_text text what (Long_text long) object is = let few : length text ≤ most_text = is.few_bytes in omega arith
faulty_text text what (Unread_text {why} few first told) object is =
    let ok : listing_reading text ≡ Ok object = is.read in
    let err : listing_reading text ≡ Err why = first in
    cc

-- a text is a listing of one object
one_listed : (text : List ℕ) (a b : CodeWithNotes) → IsListingOf text a → IsListingOf text b → a ≡ b
one_listed text a b p q = ok_same a b (listing_reading text) p.read q.read

-- a listing of none is one of no object
none_is_some : (text : List ℕ) → IsNoListing text → IsSomeListing text → ⊥
none_is_some text none some = none some.0 some.1

module _ (old new : Surroundings) (request : AssembleRequest) (text : List ℕ) (file : IsToldText old request text) where
  -- what is held of a file that is told
  file_told : (P : List ℕ → Type 0) → HoldsText old.shelf.held request.text P → P text
  file_told P h = told_holds old.shelf.held file.files request.text text P file.held file.here h

  -- what was written is the object of its text
  listing_told : (object : CodeWithNotes) → WritesObject request object old.shelf new.shelf → IsListingOf text object
  listing_told object it =
      subst (λ text. IsListingOf text object) (told_text old.shelf.held file.files request.text text it.text file.held file.here it.in_file) it.listing

-- ---- the status

-- that of what is due: 0 where nothing is
abbrev due_status : Option AssemblerFault → ℕ
due_status None = 0
due_status (Some fault) = assembler_status fault

-- the status is that of what is due, or 5 where the error output failed
status_of : (due : Option AssemblerFault) (old new : Streamed) (code : ℕ) → Told due old new code
    → (code ≡ due_status due) ⊎ ((code ≡ 5) × Rose old.faults new.faults)
status_of None old new code told = inl told.0
status_of (Some fault) old new code (inl whole) = inl whole.ended
status_of (Some fault) old new code (inr part) = inr (part.ended, part.failed)

-- ---- what is due, by how it ended

module _ (old new : Surroundings) where
  -- how it ended, with what was due
  abbrev Ends : Option AssembleRequest → Option AssemblerFault → Type 0
  Ends given due = AssemblerEnds old.shelf new.shelf given due

  assembled_of : (given : Option AssembleRequest) (due : Option AssemblerFault) (code : ℕ) → Told due old.err new.err code → Ends given due → due_status due ≡ 0
      → IsSomeAnd given (HasAssembled old new)
  assembled_of given due code told (Assembled {request} {object} it) e = record { object = object; written = it; silent = told.1 }
  assembled_of given due code told _ e = absurd (cc)

  lacking_of : (given : Option AssembleRequest) (due : Option AssemblerFault) → Ends given due → due_status due ≡ 1 → AssemblerLacks old.shelf new.shelf given
  lacking_of given due (Lacking lacks) e = lacks
  lacking_of given due _ e = absurd (cc)

  misused_of : (given : Option AssembleRequest) (due : Option AssemblerFault) → Ends given due → due_status due ≡ 2 → (given ≡ None) × (new.shelf ≡ old.shelf)
  misused_of given due (Misused same) e = (refl, same)
  misused_of given due _ e = absurd (cc)

  unread_of : (given : Option AssembleRequest) (due : Option AssemblerFault) → Ends given due → due_status due ≡ 3 → IsSomeAnd given (HasReadFault old new)
  unread_of given due (Unread {request} {name} is keeps failed) e = subst (λ name. ReadFaultOf old.shelf new.shelf name) (sym is) failed
  unread_of given due _ e = absurd (cc)

  refused_of : (given : Option AssembleRequest) (due : Option AssemblerFault) → Ends given due → due_status due ≡ 4
      → IsSomeAnd given (λ request. HoldsText old.shelf.held request.text IsNoListing)
  refused_of given due (Refused {request} {what} keeps faulty) e =
      held_map old.shelf.held request.text (λ text. HasTextFault text what) IsNoListing (λ text. faulty_text text what) faulty
  refused_of given due _ e = absurd (cc)

  failed_of : (given : Option AssembleRequest) (due : Option AssemblerFault) → Ends given due → due_status due ≡ 5 → IsSomeAnd given (HasWriteFault old new)
  failed_of given due (Unwritten {request} {name} is listing differs failed) e = subst (λ name. WriteFaultOf old.shelf new.shelf name) (sym is) failed
  failed_of given due _ e = absurd (cc)

  known_of : (given : Option AssembleRequest) (due : Option AssemblerFault) → Ends given due → due_status due ≤ 5
  known_of given due (Assembled it) = omega arith
  known_of given due (Misused same) = omega arith
  known_of given due (Unread is keeps failed) = omega arith
  known_of given due (Refused keeps faulty) = omega arith
  known_of given due (Unwritten is listing differs failed) = omega arith
  known_of given due (Lacking lacks) = omega arith

  untouched : new.shelf ≡ old.shelf → ReadKeeps old.shelf new.shelf
  untouched same = subst (λ (now : Shelved). ReadKeeps old.shelf now) (sym same) (record { held = refl; counted = omega arith; write_faults = refl; write_name = refl })

  kept_of : (given : Option AssembleRequest) (due : Option AssemblerFault) → Ends given due → 2 ≤ due_status due → due_status due ≤ 4
      → ReadKeeps old.shelf new.shelf
  kept_of given due (Assembled it) low high = absurd (omega arith)
  kept_of given due (Misused same) low high = untouched same
  kept_of given due (Unread is keeps failed) low high = keeps
  kept_of given due (Refused keeps faulty) low high = keeps
  kept_of given due (Unwritten is listing differs failed) low high = absurd (omega arith)
  kept_of given due (Lacking lacks) low high = absurd (omega arith)

  read_keeps_others : (given : Option AssembleRequest) → ReadKeeps old.shelf new.shelf → KeepsOthers given old new
  read_keeps_others None keeps = keeps.held
  read_keeps_others (Some request) keeps = kept_differs old.shelf.held new.shelf.held request.object keeps.held

  others_lacking : (given : Option AssembleRequest) → AssemblerLacks old.shelf new.shelf given → KeepsOthers given old new
  others_lacking given (Early keeps) = read_keeps_others given keeps
  others_lacking given (Writing listing differs) = differs

  others_of : (given : Option AssembleRequest) (due : Option AssemblerFault) → Ends given due → KeepsOthers given old new
  others_of given due (Assembled {request} it) = written_differs old.shelf.held new.shelf.held request.object _ it.written
  others_of given due (Misused same) = ap (λ (shelf : Shelved). shelf.held) same
  others_of given due (Unread {request} is keeps failed) = read_keeps_others (Some request) keeps
  others_of given due (Refused {request} keeps faulty) = read_keeps_others (Some request) keeps
  others_of given due (Unwritten {request} {name} is listing differs failed) =
      subst (λ name. OnlyFileDiffers old.shelf.held new.shelf.held name) (sym is) differs
  others_of given due (Lacking lacks) = others_lacking given lacks

  usage_of : (due : Option AssemblerFault) → Ends None due → (due_status due ≡ 2) ⊎ (due_status due ≡ 1)
  usage_of due (Misused same) = inl refl
  usage_of due (Lacking lacks) = inr refl

  complete_of : (request : AssembleRequest) (text : List ℕ) (object : CodeWithNotes) (due : Option AssemblerFault) → IsToldText old request text
      → IsListingOf text object
      → Ends (Some request) due
      → ((due_status due ≡ 0) × HoldsFile old.shelf.held new.shelf.held request.object (object_text object))
      ⊎ (due_status due ≡ 1) ⊎ ((due_status due ≡ 3) × HasReadFault old new request) ⊎ ((due_status due ≡ 5) × HasWriteFault old new request)
  complete_of request text object due file is (Assembled {object = written} it) =
      inl (
        refl,
        subst (λ (o : CodeWithNotes). HoldsFile old.shelf.held new.shelf.held request.object (object_text o))
            (one_listed text written object (listing_told old new request text file written it) is) it.written,
      )
  complete_of request text object due file is (Unread {name} named keeps failed) =
      inr (inr (inl (refl, subst (λ name. ReadFaultOf old.shelf new.shelf name) (sym named) failed)))
  complete_of request text object due file is (Refused {what} keeps faulty) =
      absurd (faulty_text text what (file_told old new request text file (λ text. HasTextFault text what) faulty) object is)
  complete_of request text object due file is (Unwritten {name} named listing differs failed) =
      inr (inr (inr (refl, subst (λ name. WriteFaultOf old.shelf new.shelf name) (sym named) failed)))
  complete_of request text object due file is (Lacking lacks) = inr (inl refl)

  strict_of : (request : AssembleRequest) (text : List ℕ) (due : Option AssemblerFault) → IsToldText old request text → IsNoListing text
      → Ends (Some request) due
      → (due_status due ≡ 4) ⊎ (due_status due ≡ 1) ⊎ ((due_status due ≡ 3) × HasReadFault old new request)
  strict_of request text due file none (Assembled {object} it) = absurd (none object (listing_told old new request text file object it))
  strict_of request text due file none (Unread {name} named keeps failed) =
      inr (inr (refl, subst (λ name. ReadFaultOf old.shelf new.shelf name) (sym named) failed))
  strict_of request text due file none (Refused keeps faulty) = inl refl
  strict_of request text due file none (Unwritten named listing differs failed) =
      absurd (none_is_some text none (file_told old new request text file IsSomeListing listing))
  strict_of request text due file none (Lacking lacks) = inr (inl refl)

  -- ---- of the status itself, which is that of what was due, or 5 for a fault of the error output

  module _ (given : Option AssembleRequest) (due : Option AssemblerFault) (code : ℕ) (ends : Ends given due) (told : Told due old.err new.err code) where
    by_status : (P : ℕ → Type 0) → P (due_status due) → ((code ≡ 5) × HasErrorFault old new → P code) → P code
    by_status P due_says broken = elim (status_of due old.err new.err code told) [
      | inl same ↦ subst P (sym same) due_says
      | inr part ↦ broken part
    ]

    to_some : (request : AssembleRequest) → given ≡ Some request → Ends (Some request) due
    to_some request is = subst (λ (g : Option AssembleRequest). Ends g due) is ends

    pub statuses : AssemblerStatuses given old new code
    statuses = record {
      assembled = by_status (λ code. code ≡ 0 → IsSomeAnd given (HasAssembled old new)) (assembled_of given due code told ends)
          (λ part e. absurd (omega (arith, part.0, e)));
      lacking = by_status (λ code. code ≡ 1 → AssemblerLacks old.shelf new.shelf given) (lacking_of given due ends)
          (λ part e. absurd (omega (arith, part.0, e)));
      misused = by_status (λ code. code ≡ 2 → (given ≡ None) × (new.shelf ≡ old.shelf)) (misused_of given due ends)
          (λ part e. absurd (omega (arith, part.0, e)));
      unread = by_status (λ code. code ≡ 3 → IsSomeAnd given (HasReadFault old new)) (unread_of given due ends)
          (λ part e. absurd (omega (arith, part.0, e)));
      refused = by_status (λ code. code ≡ 4 → IsSomeAnd given (λ request. HoldsText old.shelf.held request.text IsNoListing))
          (refused_of given due ends) (λ part e. absurd (omega (arith, part.0, e)));
      failed = by_status (λ code. code ≡ 5 → IsSomeAnd given (HasWriteFault old new) ⊎ HasErrorFault old new) (λ e. inl (failed_of given due ends e))
          (λ part e. inr part.1);
      known = by_status (λ code. code ≤ 5) (known_of given due ends) (λ part. omega (arith, part.0));
      kept = by_status (λ code. (2 ≤ code) → (code ≤ 4) → ReadKeeps old.shelf new.shelf) (kept_of given due ends)
          (λ part low high. absurd (omega (arith, part.0, high)));
      others = others_of given due ends;
      usage = λ none. by_status (λ code. (code ≡ 2) ⊎ (code ≡ 1) ⊎ ((code ≡ 5) × HasErrorFault old new))
          (either_first (usage_of due (subst (λ (g : Option AssembleRequest). Ends g due) none ends))) (λ part. inr (inr part));
      complete = λ request text object given_is file is. by_status
          (λ code. ((code ≡ 0) × HoldsFile old.shelf.held new.shelf.held request.object (object_text object))
          ⊎ (code ≡ 1) ⊎ ((code ≡ 3) × HasReadFault old new request) ⊎ ((code ≡ 5) × (HasWriteFault old new request ⊎ HasErrorFault old new)))
          (last_first (complete_of request text object due file is (to_some request given_is))) (λ part. inr (inr (inr (part.0, inr part.1))));
      strict = λ request text given_is file none. by_status
          (λ code. (code ≡ 4) ⊎ (code ≡ 1) ⊎ ((code ≡ 3) × HasReadFault old new request) ⊎ ((code ≡ 5) × HasErrorFault old new))
          (third_first (strict_of request text due file none (to_some request given_is))) (λ part. inr (inr (inr part)));
    }

-- the promise says all this
pub statuses_of : (given : Option AssembleRequest) (old new : Surroundings) (code : ℕ) → AssemblerPromise given old new code
    → AssemblerStatuses given old new code
statuses_of given old new code promise = statuses old new given promise.due code promise.ends promise.told
