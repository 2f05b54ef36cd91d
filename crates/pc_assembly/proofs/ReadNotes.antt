-- Notes, as they are printed, are read back.
use Rattle.std.proofs.Common.{ℕ, zero, suc, ◌+◌, ◌^◌, ◌<◌, ◌≤◌, ◌≡◌, true, arith, nat_lt}
use Rattle.std.proofs.Common.{List, [], ◌∷◌, ◌++◌, map, length, refl, subst, codes, decimal, Ok}
use Rattle.std.specs.List.{prefix_len, AllByRecursion}
use Rattle.std.proofs.lemmas.Bool.Decides.{nat_tests}
use Rattle.pc_object.specs.declared.object.Note.{Note}
use Rattle.pc_object.specs.ObjectText.{IsChoice}
use Rattle.pc_object.specs.Numbers.{NoteFits}
use Rattle.pc_report.specs.Report.{choice_text, note_words}
use Rattle.pc_assembly.specs.declared.bytes.Class.TheVariants as class
use Rattle.pc_assembly.specs.declared.error.Expected.TheVariants as expect
use Rattle.pc_assembly.specs.declared.line.Stage.{Stage}
use Rattle.pc_assembly.specs.declared.line.Stage.TheVariants as stage
use Rattle.pc_assembly.specs.declared.line.Content.TheVariants as content
use Rattle.pc_assembly.specs.Bytes.{is_in}
use Rattle.pc_assembly.specs.Names.{Names, is_named}
use Rattle.pc_assembly.specs.Notes.{pipelined_reason, packed_reason, plain_reason, choice_here, note_here}
use Rattle.pc_assembly.specs.Lines.{note_line, is_note, line_here}
use Rattle.pc_assembly.specs.Laws.{ReadAs}
use Rattle.pc_assembly.proofs.ReadNumbers.{decimal_begins, no_blanks, no_colon}
use Rattle.pc_assembly.proofs.ReadParts.{last_number}
use Rattle.pc_assembly.proofs.ReadHeadings.{number_behind}

-- ---- the form of a loop and what decided it

choice_read : (choice : ℕ) (rest : List ℕ) → choice ≤ 7
    → choice_here (choice_text choice ++ (codes " " ++ rest)) ≡ Ok (choice, codes " " ++ rest)
unfolding choice_here pipelined_reason packed_reason plain_reason
choice_read zero rest h = refl
choice_read (suc zero) rest h = refl
choice_read (suc (suc zero)) rest h = refl
choice_read (suc (suc (suc zero))) rest h = refl
choice_read (suc (suc (suc (suc zero)))) rest h = refl
choice_read (suc (suc (suc (suc (suc zero))))) rest h = refl
choice_read (suc (suc (suc (suc (suc (suc zero)))))) rest h = refl
choice_read (suc (suc (suc (suc (suc (suc (suc zero))))))) rest h = refl
choice_read (suc (suc (suc (suc (suc (suc (suc (suc more)))))))) rest h = absurd (omega (arith, h))

choice_unblank : (choice : ℕ) (rest : List ℕ) → choice ≤ 7 → prefix_len (is_in class.Blank) (choice_text choice ++ (codes " " ++ rest)) ≡ 0
choice_unblank zero rest h = refl
choice_unblank (suc zero) rest h = refl
choice_unblank (suc (suc zero)) rest h = refl
choice_unblank (suc (suc (suc zero))) rest h = refl
choice_unblank (suc (suc (suc (suc zero)))) rest h = refl
choice_unblank (suc (suc (suc (suc (suc zero))))) rest h = refl
choice_unblank (suc (suc (suc (suc (suc (suc zero)))))) rest h = refl
choice_unblank (suc (suc (suc (suc (suc (suc (suc zero))))))) rest h = refl
choice_unblank (suc (suc (suc (suc (suc (suc (suc (suc more)))))))) rest h = absurd (omega (arith, h))

-- ---- a note

pub note_read : (note : Note) → IsChoice note → NoteFits note → note_here (note_words note) ≡ Ok (note, [])
unfolding note_here
note_read note known fits =
    let line = fits.line in
    let number = fits.number in
    let third = codes " of " ++ decimal note.limit in
    let second = codes " " ++ (decimal note.number ++ third) in
    rw (
      number_behind 4294967295 note.line expect.Number (codes ": " ++ (choice_text note.choice ++ second)) (omega (arith, line))
          (omega (arith, line)) refl,
      choice_unblank note.choice (decimal note.number ++ third) known,
      choice_read note.choice (decimal note.number ++ third) known,
      number_behind 4294967295 note.number expect.Number third (omega (arith, number)) (omega (arith, number)) refl,
      last_number note.limit expect.Number fits.limit,
    ) refl

note_line_read : (rows notes : ℕ) (note : Note) → IsChoice note → NoteFits note → notes < 65535
    → note_line rows notes (note_words note) ≡ Ok (stage.Note rows (notes + 1), content.Note note)
unfolding note_line
note_line_read rows notes note known fits room =
    let few : nat_lt notes 65535 ≡ true = grind (arith, nat_tests, room) in
    rw (note_read note known fits, few) refl

-- ---- several

-- after notes
later_notes : (names : Names) (lengths : List ℕ) (rows before : ℕ) (notes : List Note) → AllByRecursion IsChoice notes → AllByRecursion NoteFits notes
    → before + length notes ≤ 65535
    → ReadAs names lengths (stage.Note rows before) (map note_words notes) (map (λ note. content.Note note) notes)
    (stage.Note rows (before + length notes))
unfolding line_here
later_notes names lengths rows before [] known fit room = let e : before + 0 ≡ before = omega arith in rw e refl
later_notes names lengths rows before (note ∷ notes) known fit room =
    let few : before < 65535 = omega (arith, room) in
    let more_room : suc before + length notes ≤ 65535 = omega (arith, room) in
    let more = later_notes names lengths rows (suc before) notes known.1 fit.1 more_room in
    let one : before + 1 ≡ suc before = omega arith in
    let ended : suc before + length notes ≡ before + suc (length notes) = omega arith in (
      stage.Note rows (before + 1),
      refl,
      note_line_read rows before note known.0 fit.0 few,
      rw one (subst (λ n. ReadAs names lengths (stage.Note rows (suc before)) (map note_words notes) (map (λ note. content.Note note) notes)
          (stage.Note rows n)) ended more),
    )

-- what is due after rows and these notes
abbrev pub behind_notes : ℕ → List Note → Stage
behind_notes rows [] = stage.Row rows
behind_notes rows (note ∷ notes) = stage.Note rows (1 + length notes)

-- a note is no row with a name
note_is_next : (note : Note) → NoteFits note → is_note (note_words note) ≡ true
unfolding is_named
note_is_next note fits =
    let line = fits.line in
    let large : note.line < 2 ^ 64 = omega (arith, line) in
    let begins = decimal_begins note.line large in
    rw (no_blanks (decimal note.line) _ begins, no_colon (decimal note.line) _ begins) refl

-- behind the rows
pub notes_read : (names : Names) (lengths : List ℕ) (rows : ℕ) (notes : List Note) → AllByRecursion IsChoice notes → AllByRecursion NoteFits notes
    → length notes ≤ 65535
    → ReadAs names lengths (stage.Row rows) (map note_words notes) (map (λ note. content.Note note) notes) (behind_notes rows notes)
unfolding line_here
notes_read names lengths rows [] known fit room = refl
notes_read names lengths rows (note ∷ notes) known fit room = (
  stage.Note rows 1,
  refl,
  rw (note_is_next note fit.0) (note_line_read rows 0 note known.0 fit.0 (omega arith)),
  later_notes names lengths rows 1 notes known.1 fit.1
      (omega (arith, room)),
)
