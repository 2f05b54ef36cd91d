-- A listing is read back as the object that was listed.
use Rattle.std.proofs.Common.{ℕ, ◌+◌, ◌≤◌, ◌≡◌, inr, false, arith, nat_lt, one-add}
use Rattle.std.proofs.Common.{List, [], ◌∷◌, ◌++◌, map, length, refl, ap, subst, ◌∙◌, length-append, None, Ok}
use Rattle.std.specs.List.{flat_map}
use Rattle.std.proofs.lemmas.Bool.Decides.{nat_tests}
use Rattle.pc_word.specs.MachineLimits.{most_object}
use Rattle.pc_object.specs.declared.object.Note.{Note}
use Rattle.pc_object.specs.ObjectText.{CodeWithNotes, IsObject, object_text, header_text, row_text, note_text, notes_text}
use Rattle.pc_object.specs.Numbers.{HasWords}
use Rattle.pc_object.proofs.Ranges.{length-rows, registers_below, as_many_lists}
use Rattle.pc_object.proofs.ReadingLaws.{reads_text}
use Rattle.pc_report.specs.Report.{note_words}
use Rattle.pc_view.specs.DataLines.{all_data_lines}
use Rattle.pc_view.specs.Listing.{rows_lines, listing_text}
use Rattle.pc_assembly.specs.declared.line.Line.{Line}
use Rattle.pc_assembly.specs.declared.line.Stage.TheVariants as stage
use Rattle.pc_assembly.specs.declared.line.Content.{Content}
use Rattle.pc_assembly.specs.declared.line.Totals.{Totals}
use Rattle.pc_assembly.specs.Assembled.{content_rows, content_notes, header_bytes, rows_bytes, notes_bytes, initial_from, data_offset}
use Rattle.pc_assembly.specs.Names.{Names, names_of}
use Rattle.pc_assembly.specs.Listing.{no_lines, first_line, ended, body_read}
use Rattle.pc_assembly.specs.Object.{loaded, assembled, listing_reading}
use Rattle.pc_assembly.specs.Laws.{ReadAs}
use Rattle.pc_assembly.proofs.ReadRows.{read_both}
use Rattle.pc_assembly.proofs.ReadData.{told_data, data_read}
use Rattle.pc_assembly.proofs.ReadNotes.{behind_notes, notes_read}
use Rattle.pc_assembly.proofs.ReadLimits.{header_of, header_read, limits_line_starts}
use Rattle.pc_assembly.proofs.ReadListing.{told_rows, told_of, rows_read, rows_print_back, lines_kept}
use Rattle.pc_assembly.proofs.ReadBytes.{told_notes, told_body, flat_told, body_rows, body_notes, initial_again}
use Rattle.pc_assembly.proofs.ReadText.{listing_cut}

-- ---- the lines behind the first one

-- how many rows and notes there are
abbrev totals_of : ℕ → List Note → Totals
totals_of rows notes = record { rows = rows; notes = length notes }

ended_is : (number rows : ℕ) (notes : List Note) → ended number (behind_notes rows notes) ≡ Ok (totals_of rows notes)
ended_is number rows [] = refl
ended_is number rows (note ∷ notes) = rw (one-add (length notes)) refl

-- what is read of lines that are read as rows and notes
abbrev BodyKept : Names → List ℕ → List (List ℕ) → List Content → ℕ → List Note → Type 0
BodyKept names lengths lines contents rows notes =
    (kept : List Line) × (told_of kept ≡ contents) × (body_read names lengths 2 lines ≡ Ok (kept, totals_of rows notes))

body_kept : (names : Names) (lengths : List ℕ) (lines : List (List ℕ)) (contents : List Content) (rows : ℕ) (notes : List Note)
    → ReadAs names lengths (stage.Data 0 0) lines contents (behind_notes rows notes) → BodyKept names lengths lines contents rows notes
unfolding body_read
body_kept names lengths lines contents rows notes h =
    let kept = lines_kept names lengths no_lines 2 lines contents (behind_notes rows notes) h in
    (kept.0, kept.1, rw (kept.2, ended_is (2 + length lines) rows notes) refl)

-- there are at most as many rows as bytes
few_rows : (object : CodeWithNotes) → IsObject object → length object.code.rows ≤ most_object
few_rows object h =
    let rows = object.code.rows in
    omega (
      arith,
      h.few_bytes,
      length-append (header_text object.code) (flat_map row_text rows ++ notes_text object.notes),
      length-append (flat_map row_text rows) (notes_text object.notes),
      length-rows rows,
    )

-- the lines of an object behind the first one
abbrev body_lines : CodeWithNotes → List (List ℕ)
body_lines object = all_data_lines 0 object.code.initial ++ (rows_lines None object.code 0 object.code.rows ++ map note_words object.notes)

body_reads : (names : Names) (object : CodeWithNotes) → IsObject object → HasWords object
    → ReadAs names object.code.arrays (stage.Data 0 0) (body_lines object) (told_body object.code.initial object.code.rows object.notes)
    (behind_notes (length object.code.rows) object.notes)
body_reads names object is words =
    let code = object.code in
    let few_arrays = is.code.arrays.count in
    let few = few_rows object is in
    let registers = registers_below code.registers is.code.registers in
    let printed = rows_print_back code.limits code.registers (length code.arrays) (length code.rows) code.rows is.code.limits
    (omega (arith, registers))
    (omega (arith, few_arrays)) (omega (arith, few)) is.code.rows words.rows in
    let first = data_read names [] code.arrays 0 0 code.initial (inr (refl, refl))
    (omega (arith, few_arrays)) is.code.initial is.code.arrays.each words.initial in
    let rows = rows_read names code.arrays code first.0 first.1 code.rows printed is.code.entry few in
    let notes = notes_read names code.arrays (length code.rows) object.notes is.choices words.notes is.few_notes in
    let behind = behind_notes (length code.rows) object.notes in
    let later = read_both names code.arrays (stage.Data first.0 first.1) (stage.Row (length code.rows)) behind
    (rows_lines None code 0 code.rows) (map note_words object.notes) (told_rows code.rows) (told_notes object.notes) rows notes in
    read_both names code.arrays (stage.Data 0 0) (stage.Data first.0 first.1) behind (all_data_lines 0 code.initial)
    (rows_lines None code 0 code.rows ++ map note_words object.notes) (told_data 0 code.initial)
    (told_rows code.rows ++ told_notes object.notes) first.2 later

-- ---- the object

-- the text of an object that loads
loaded_is : (number data_at rows_at : ℕ) (lines : List Line) (bytes : List ℕ) (object : CodeWithNotes) → IsObject object → HasWords object
    → bytes ≡ object_text object → loaded number data_at rows_at lines bytes ≡ Ok object
loaded_is number data_at rows_at lines bytes object is words same =
    let few = is.few_bytes in
    let short : nat_lt most_object (length (object_text object)) ≡ false = grind (arith, nat_tests, few) in
    rw (same, short, reads_text object is words) refl

-- lines that tell what an object has stand for its text
assembled_is : (object : CodeWithNotes) (kept : List Line) → IsObject object → HasWords object
    → told_of kept ≡ told_body object.code.initial object.code.rows object.notes
    → assembled 1 (header_of object.code) kept (totals_of (length object.code.rows) object.notes) ≡ Ok object
unfolding assembled header_bytes
assembled_is object kept is words told =
    let code = object.code in
    let lists = as_many_lists code.arrays code.initial is.code.initial in
    let initial : initial_from (length code.arrays) [] kept ≡ code.initial =
    subst (λ n. initial_from n [] kept ≡ code.initial) lists (initial_again [] code.initial code.rows object.notes kept told) in
    let rows : rows_bytes kept ≡ flat_map row_text code.rows =
    flat_told content_rows kept ∙ ap (λ contents. flat_map content_rows contents) told ∙ body_rows code.initial code.rows object.notes in
    let notes : flat_map (λ line. content_notes line.content) kept ≡ flat_map note_text object.notes =
    flat_told content_notes kept ∙ ap (λ contents. flat_map content_notes contents) told ∙ body_notes code.initial code.rows object.notes in
    let whole : header_bytes (header_of code) kept (length code.rows) ++ (rows_bytes kept ++ notes_bytes kept (length object.notes))
    ≡ object_text object =
    rw (initial, rows, notes) refl in
    loaded_is 1 (data_offset (length code.arrays)) (length (header_bytes (header_of code) kept (length code.rows))) kept _ object is words whole

-- ---- the listing

pub listing_read : (object : CodeWithNotes) → IsObject object → HasWords object → listing_reading (listing_text object) ≡ Ok object
unfolding listing_reading first_line
listing_read object is words =
    let code = object.code in
    let arrays = is.code.arrays in
    let names = names_of (body_lines object) in
    let body = body_kept names code.arrays (body_lines object) (told_body code.initial code.rows object.notes) (length code.rows) object.notes
    (body_reads names object is words) in
    rw (
      listing_cut object,
      limits_line_starts code,
      header_read code is.code.limits is.code.registers arrays.count arrays.each,
      body.2,
      assembled_is object body.0 is words body.1,
    ) refl
