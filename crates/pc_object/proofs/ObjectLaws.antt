-- The two laws of objects: what is read is an object whose text the bytes are, and the text of an object is read as it.
use Rattle.std.proofs.Common.{◌≡◌, ℕ, zero, suc, ◌^◌, ◌<◌, ◌≤◌, Bool, true, false, ltb, List, [], ◌∷◌, ◌++◌, length}
use Rattle.std.proofs.Common.{Ok, refl, sym, ap, subst, ◌∙◌, append_assoc, arith}
use Rattle.std.specs.Int.{w16, w32}
use Rattle.std.specs.List.{flat_map, AllByRecursion}
use Rattle.std.proofs.lemmas.Bool.{ltb-false, le-ltb}
use Rattle.std.proofs.lemmas.List.{append-nil}
use Rattle.pc_machine.specs.declared.code.Flaw.{Flaw}
use Rattle.pc_machine.specs.declared.code.Flaw.TheVariants as flaws
use Rattle.pc_machine.specs.declared.check.Bounds.{Bounds}
use Rattle.pc_machine.specs.MachineCode.{CodeRow, RowCode}
use Rattle.pc_machine.specs.Flaws.{flaw_where, row_count_flaws, header_flaws, nothing_above, no_counts, row_flaws, bounds_of, flaws_of}
use Rattle.pc_machine.proofs.Flaws.{well_formed_without_flaw, no_flaw_well_formed}
use Rattle.pc_object.specs.declared.object.Note.{Note}
use Rattle.pc_object.specs.ObjectText.{CodeWithNotes, u16_text, u32_text, row_text, version_of, header_text, note_text, notes_text, object_text, IsChoice, IsObject}
use Rattle.pc_object.specs.Numbers.{RowNumbersFit, NoteFits, HasWords}
use Rattle.pc_object.specs.Reading.{◌>>=◌, ◌>>◌, number_at, choice_at, note_at, notes_at, row_at, rows_at, deepest, header_at, header_bounds}
use Rattle.pc_object.specs.Reading.{code_with, end_at, object_at}
use Rattle.pc_object.proofs.FieldLaws.{IsBytes, Takes, Takes-then, bind_ok, ok_is, wide16, wide32, number_takes, number_again}
use Rattle.pc_object.proofs.FieldLaws.{checked_byte_takes, checked_byte_again}
use Rattle.pc_object.proofs.Ranges.{rows_below, registers_below, lengths_below, as_many_lists, few_words_of}
use Rattle.pc_object.proofs.RowLaws.{nil_parts, nil_joined, room, row_takes, row_again}
use Rattle.pc_object.proofs.HeaderLaws.{shape_text, header_takes}
use Rattle.pc_object.proofs.Tells.{Tells}
use Rattle.pc_object.proofs.HeaderTells.{HasStorageText, shape_of, header_tells}

-- ---- rows

abbrev Rows : Bounds → ℕ → List ℕ → (List CodeRow × List ℕ) → Type 0
Rows bounds count bytes read =
    Takes bytes (flat_map row_text read.0) read.1 × (length read.0 ≡ count) × (flat_map (row_flaws bounds no_counts nothing_above) read.0 ≡ []) × AllByRecursion RowNumbersFit read.0

rows_take : (bounds : Bounds) (count : ℕ) (bytes : List ℕ) (read : List CodeRow × List ℕ) → IsBytes bytes → rows_at bounds count bytes ≡ Ok read → Rows bounds count bytes read
unfolding rows_at
rows_take bounds zero bytes read fits e = subst (Rows bounds 0 bytes) (ok_is ([], bytes) read e) (record { parts = refl; rest_fits = fits }, refl, refl, tt)
rows_take bounds (suc count) bytes read fits e =
    let a = bind_ok (row_at bounds deepest no_counts nothing_above bytes) (λ row. rows_at bounds count row.2 >>= λ others. Ok (row.0 ∷ others.0, others.1)) read e in
    let b = bind_ok (rows_at bounds count a.0.2) (λ others. Ok (a.0.0 ∷ others.0, others.1)) read a.2 in
    let t = row_takes bounds deepest no_counts nothing_above bytes a.0 fits a.1 in
    let o = rows_take bounds count a.0.2 b.0 t.takes.rest_fits b.1 in
    let made : List CodeRow × List ℕ = (a.0.0 ∷ b.0.0, b.0.1) in
    subst (Rows bounds (suc count) bytes) (ok_is made read b.2) (
      Takes-then bytes (row_text a.0.0) a.0.2 (flat_map row_text b.0.0) b.0.1 t.takes o.0,
      ap suc o.1,
      nil_joined (row_flaws bounds no_counts nothing_above a.0.0) (flat_map (row_flaws bounds no_counts nothing_above) b.0.0) t.sound o.2,
      (t.fits, o.3),
    )

rows_again : (bounds : Bounds) (rows : List CodeRow) (rest : List ℕ) → bounds.rows ≤ 2 ^ 32 → room bounds no_counts < deepest → flat_map (row_flaws bounds no_counts nothing_above) rows ≡ []
    → AllByRecursion RowNumbersFit rows
    → rows_at bounds (length rows) (flat_map row_text rows ++ rest) ≡ Ok (rows, rest)
unfolding rows_at
rows_again bounds [] rest few deep none fits = refl
rows_again bounds (row ∷ rows) rest few deep none fits =
    let p = nil_parts (row_flaws bounds no_counts nothing_above row) (flat_map (row_flaws bounds no_counts nothing_above) rows) none in
    let regrouped : flat_map row_text (row ∷ rows) ++ rest ≡ row_text row ++ (flat_map row_text rows ++ rest) = append_assoc (row_text row) (flat_map row_text rows) rest in
    ap (rows_at bounds (suc (length rows))) regrouped
    ∙ rw (row_again bounds row deepest no_counts nothing_above (flat_map row_text rows ++ rest) few p.0 fits.0 deep, rows_again bounds rows rest few deep p.1 fits.1) refl

-- ---- notes

abbrev choice_flaws : ℕ → List Flaw
choice_flaws choice = flaw_where (ltb 7 choice) flaws.Choice

choice_takes : (bytes : List ℕ) (n : ℕ) (rest : List ℕ) → IsBytes bytes → choice_at bytes ≡ Ok (n, rest) → Takes bytes (n ∷ []) rest × (choice_flaws n ≡ []) × (n < 256)
unfolding choice_at
choice_takes bytes n rest fits e = checked_byte_takes choice_flaws bytes n rest fits e

few_choices : (n : ℕ) → choice_flaws n ≡ [] → n ≤ 7
few_choices n e = below (ltb 7 n) refl e
  where
    below : (b : Bool) → ltb 7 n ≡ b → flaw_where b flaws.Choice ≡ [] → n ≤ 7
    below true lt none = absurd cc
    below false lt none = ltb-false _ _ lt

choice_again : (n : ℕ) (rest : List ℕ) → n ≤ 7 → choice_at (n ∷ rest) ≡ Ok (n, rest)
unfolding choice_at
choice_again n rest le = checked_byte_again choice_flaws n rest (rw (le-ltb 7 n le) refl)

abbrev NoteRead : List ℕ → (Note × List ℕ) → Type 0
NoteRead bytes read = Takes bytes (note_text read.0) read.1 × IsChoice read.0 × NoteFits read.0

note_takes : (bytes : List ℕ) (read : Note × List ℕ) → IsBytes bytes → note_at bytes ≡ Ok read → NoteRead bytes read
unfolding note_at
note_takes bytes read fits e =
    let a = bind_ok (choice_at bytes) (λ choice. number_at w32 choice.1 >>= λ line. number_at w32 line.1 >>= λ number. number_at w32 number.1 >>= λ limit.
    Ok (record { choice = choice.0; line = line.0; number = number.0; limit = limit.0 }, limit.1)) read e in
    let b = bind_ok (number_at w32 a.0.1) (λ line. number_at w32 line.1 >>= λ number. number_at w32 number.1 >>= λ limit. Ok
    (record { choice = a.0.0; line = line.0; number = number.0; limit = limit.0 }, limit.1)) read a.2 in
    let c = bind_ok (number_at w32 b.0.1) (λ number. number_at w32 number.1 >>= λ limit. Ok (record { choice = a.0.0; line = b.0.0; number = number.0; limit = limit.0 }, limit.1)) read b.2 in
    let d = bind_ok (number_at w32 c.0.1) (λ limit. Ok (record { choice = a.0.0; line = b.0.0; number = c.0.0; limit = limit.0 }, limit.1)) read c.2 in
    let ta = choice_takes bytes a.0.0 a.0.1 fits a.1 in
    let tb = number_takes w32 (2 ^ 32) wide32 a.0.1 b.0.0 b.0.1 ta.0.rest_fits b.1 in
    let tc = number_takes w32 (2 ^ 32) wide32 b.0.1 c.0.0 c.0.1 tb.0.rest_fits c.1 in
    let td = number_takes w32 (2 ^ 32) wide32 c.0.1 d.0.0 d.0.1 tc.0.rest_fits d.1 in
    let tcd = Takes-then b.0.1 (u32_text c.0.0) c.0.1 (u32_text d.0.0) d.0.1 tc.0 td.0 in
    let tbd = Takes-then a.0.1 (u32_text b.0.0) b.0.1 (u32_text c.0.0 ++ u32_text d.0.0) d.0.1 tb.0 tcd in
    let made : Note × List ℕ = (record { choice = a.0.0; line = b.0.0; number = c.0.0; limit = d.0.0 }, d.0.1) in
    subst (NoteRead bytes) (ok_is made read d.2) (
      Takes-then bytes (a.0.0 ∷ []) a.0.1 (u32_text b.0.0 ++ (u32_text c.0.0 ++ u32_text d.0.0)) d.0.1 ta.0 tbd,
      few_choices a.0.0 ta.1,
      record { line = tb.1; number = tc.1; limit = td.1 },
    )

note_again : (note : Note) (rest : List ℕ) → IsChoice note → NoteFits note → note_at (note_text note ++ rest) ≡ Ok (note, rest)
unfolding note_at
note_again note rest choice fits =
    let last = u32_text note.limit ++ rest in
    let regrouped : note_text note ++ rest ≡ note.choice ∷ (u32_text note.line ++ (u32_text note.number ++ last)) =
    ap (λ (t : List ℕ). note.choice ∷ t) (append_assoc (u32_text note.line) (u32_text note.number ++ u32_text note.limit) rest
    ∙ ap (λ (t : List ℕ). u32_text note.line ++ t) (append_assoc (u32_text note.number) (u32_text note.limit) rest)) in
    ap note_at regrouped ∙ rw (
      choice_again note.choice (u32_text note.line ++ (u32_text note.number ++ last)) choice,
      number_again w32 (2 ^ 32) wide32 note.line (u32_text note.number ++ last) fits.line,
      number_again w32 (2 ^ 32) wide32 note.number last fits.number,
      number_again w32 (2 ^ 32) wide32 note.limit rest fits.limit,
    ) refl

abbrev Notes : ℕ → List ℕ → (List Note × List ℕ) → Type 0
Notes count bytes read = Takes bytes (flat_map note_text read.0) read.1 × (length read.0 ≡ count) × AllByRecursion IsChoice read.0 × AllByRecursion NoteFits read.0

notes_take : (count : ℕ) (bytes : List ℕ) (read : List Note × List ℕ) → IsBytes bytes → notes_at count bytes ≡ Ok read → Notes count bytes read
unfolding notes_at
notes_take zero bytes read fits e = subst (Notes 0 bytes) (ok_is ([], bytes) read e) (record { parts = refl; rest_fits = fits }, refl, tt, tt)
notes_take (suc count) bytes read fits e =
    let a = bind_ok (note_at bytes) (λ note. notes_at count note.1 >>= λ others. Ok (note.0 ∷ others.0, others.1)) read e in
    let b = bind_ok (notes_at count a.0.1) (λ others. Ok (a.0.0 ∷ others.0, others.1)) read a.2 in
    let t = note_takes bytes a.0 fits a.1 in
    let o = notes_take count a.0.1 b.0 t.0.rest_fits b.1 in
    let made : List Note × List ℕ = (a.0.0 ∷ b.0.0, b.0.1) in
    subst (Notes (suc count) bytes) (ok_is made read b.2) (Takes-then bytes (note_text a.0.0) a.0.1 (flat_map note_text b.0.0) b.0.1 t.0 o.0, ap suc o.1, (t.1, o.2), (t.2, o.3))

notes_again : (notes : List Note) (rest : List ℕ) → AllByRecursion IsChoice notes → AllByRecursion NoteFits notes → notes_at (length notes) (flat_map note_text notes ++ rest) ≡ Ok (notes, rest)
unfolding notes_at
notes_again [] rest choices fits = refl
notes_again (note ∷ notes) rest choices fits =
    let regrouped : flat_map note_text (note ∷ notes) ++ rest ≡ note_text note ++ (flat_map note_text notes ++ rest) = append_assoc (note_text note) (flat_map note_text notes) rest in
    ap (notes_at (suc (length notes))) regrouped ∙ rw (note_again note (flat_map note_text notes ++ rest) choices.0 fits.0, notes_again notes rest choices.1 fits.1) refl

-- ---- the whole

ended : {A : Type 0} (rest : List ℕ) (x y : A) → (end_at rest >> Ok x) ≡ Ok y → (rest ≡ []) × (x ≡ y)
ended [] x y e = (refl, cc)
ended (b ∷ rest) x y e = absurd cc

-- what a read object is
record IsReadObject (bytes : List ℕ) (object : CodeWithNotes) : Type 0 where
  text : bytes ≡ object_text object
  sound : flaws_of object.code ≡ []
  words : HasWords object
  choices : AllByRecursion IsChoice object.notes
  few_notes : length object.notes ≤ 65535

object_takes : (bytes : List ℕ) (object : CodeWithNotes) → IsBytes bytes → object_at bytes ≡ Ok object → IsReadObject bytes object
unfolding object_at
object_takes bytes object fits e =
    let a = bind_ok (header_at bytes) (λ header. rows_at (header_bounds header.0) header.0.rows header.1 >>= λ rows. number_at w16 rows.1 >>= λ count. notes_at count.0 count.1 >>= λ notes.
    end_at notes.1
    >> Ok (record { code = code_with header.0 rows.0; notes = notes.0 })) object e in
    let header = a.0.0 in
    let b = bind_ok (rows_at (header_bounds header) header.rows a.0.1) (λ rows. number_at w16 rows.1 >>= λ count. notes_at count.0 count.1 >>= λ notes. end_at notes.1
    >> Ok (record { code = code_with header rows.0; notes = notes.0 })) object a.2 in
    let c = bind_ok (number_at w16 b.0.1) (λ count. notes_at count.0 count.1 >>= λ notes. end_at notes.1 >> Ok
    (record { code = code_with header b.0.0; notes = notes.0 })) object b.2 in
    let d = bind_ok (notes_at c.0.0 c.0.1) (λ notes. end_at notes.1 >> Ok (record { code = code_with header b.0.0; notes = notes.0 })) object c.2 in
    let code : RowCode = code_with header b.0.0 in
    let made : CodeWithNotes = record { code = code; notes = d.0.0 } in
    let f = ended d.0.1 made object d.2 in
    let ta = header_takes bytes a.0 fits a.1 in
    let tb = rows_take (header_bounds header) header.rows a.0.1 b.0 ta.takes.rest_fits b.1 in
    let tc = number_takes w16 (2 ^ 16) wide16 b.0.1 c.0.0 c.0.1 tb.0.rest_fits c.1 in
    let td = notes_take c.0.0 c.0.1 d.0 tc.0.rest_fits d.1 in
    let count_text : Takes b.0.1 (u16_text (length d.0.0)) c.0.1 = subst (λ (n : ℕ). Takes b.0.1 (u16_text n) c.0.1) (sym td.1) tc.0 in
    let head_text : Takes bytes (header_text code) a.0.1 =
    subst (λ (n : ℕ). Takes bytes (shape_text (version_of code) (record { limits = header.limits; storage = header.storage; rows = n })) a.0.1) (sym tb.1) ta.takes in
    let tcd = Takes-then b.0.1 (u16_text (length d.0.0)) c.0.1 (flat_map note_text d.0.0) d.0.1 count_text td.0 in
    let tbd = Takes-then a.0.1 (flat_map row_text b.0.0) b.0.1 (notes_text d.0.0) d.0.1 tb.0 tcd in
    let tad = Takes-then bytes (header_text code) a.0.1 (flat_map row_text b.0.0 ++ notes_text d.0.0) d.0.1 head_text tbd in
    let bounds : Bounds = header_bounds header in
    let rows_sound : flat_map (row_flaws (bounds_of code) no_counts nothing_above) b.0.0 ≡ [] =
    subst (λ (n : ℕ). flat_map (row_flaws (record bounds { rows = n }) no_counts nothing_above) b.0.0 ≡ []) (sym tb.1) tb.2 in
    let count_sound : row_count_flaws (length b.0.0) ≡ [] = subst (λ (n : ℕ). row_count_flaws n ≡ []) (sym tb.1) ta.rows in
    let head_sound : header_flaws code ≡ [] = rw (ta.limits, ta.count, ta.registers, ta.lengths, ta.initial, count_sound) refl in
    subst (IsReadObject bytes) f.1 (record {
      text = tad.parts ∙ ap (λ (r : List ℕ). object_text made ++ r) f.0 ∙ append-nil (object_text made);
      sound = nil_joined (header_flaws code) (flat_map (row_flaws (bounds_of code) no_counts nothing_above) b.0.0) head_sound rows_sound;
      words = record { initial = ta.words; rows = tb.3; notes = td.3 };
      choices = td.2;
      few_notes = omega (arith, td.1, tc.1);
    })

pub is_object : (bytes : List ℕ) (object : CodeWithNotes) → IsBytes bytes → length bytes ≤ 16777216 → object_at bytes ≡ Ok object → IsObject object × HasWords object × (bytes ≡ object_text object)
is_object bytes object fits few e =
    let t = object_takes bytes object fits e in
    (record { code = well_formed_without_flaw object.code t.sound; choices = t.choices; few_notes = t.few_notes; few_bytes = subst (λ (b : List ℕ). length b ≤ 16777216) t.text few }, t.words, t.text)

-- what an object says of its registers and arrays has a text
storage_text_of : (object : CodeWithNotes) → IsObject object → HasWords object → HasStorageText object.code.registers object.code.arrays object.code.initial
storage_text_of object h words =
    let most = registers_below object.code.registers h.code.registers in
    record {
      few_registers = omega (arith, most);
      lengths = lengths_below object.code.arrays h.code.arrays.each;
      lists = as_many_lists object.code.arrays object.code.initial h.code.initial;
      counts = few_words_of object.code.arrays object.code.initial h.code.arrays.each h.code.initial;
      words = words.initial;
    }

-- its header is read
header_again : (object : CodeWithNotes) (rest : List ℕ) → IsObject object → HasWords object → header_at (header_text object.code ++ rest) ≡ Ok (shape_of object.code, rest)
header_again object rest h words =
    let code = object.code in
    let none = (nil_parts (header_flaws code) (flat_map (row_flaws (bounds_of code) no_counts nothing_above) code.rows) (no_flaw_well_formed code h.code)).0 in
    subst (λ (fs : List Flaw). Tells fs (shape_of code, rest) (header_at (header_text code ++ rest))) none
    (header_tells code rest (storage_text_of object h words) (rows_below object h))

-- the text of an object, and bytes after it
pub object_again : (object : CodeWithNotes) (rest : List ℕ) → IsObject object → HasWords object → object_at (object_text object ++ rest) ≡ (end_at rest >> Ok object)
unfolding object_at
object_again object rest h words =
    let code = object.code in
    let none = no_flaw_well_formed code h.code in
    let p = nil_parts (header_flaws code) (flat_map (row_flaws (bounds_of code) no_counts nothing_above) code.rows) none in
    let few = rows_below object h in
    let notes = flat_map note_text object.notes ++ rest in
    let count = u16_text (length object.notes) in
    let rows = flat_map row_text code.rows in
    let regrouped : object_text object ++ rest ≡ header_text code ++ (rows ++ (count ++ notes)) =
    append_assoc (header_text code) (rows ++ notes_text object.notes) rest
    ∙ ap (λ (t : List ℕ). header_text code ++ t) (append_assoc rows (notes_text object.notes) rest ∙ ap (λ (t : List ℕ). rows ++ t) (append_assoc count (flat_map note_text object.notes) rest)) in
    let deep : room (bounds_of code) no_counts < deepest = omega (arith, h.code.limits.ops.1, h.code.limits.tests.1) in
    ap object_at regrouped
    ∙ rw (
      header_again object (rows ++ (count ++ notes)) h words,
      rows_again (bounds_of code) code.rows (count ++ notes) (omega (arith, few)) deep p.1 words.rows,
      number_again w16 (2 ^ 16) wide16 (length object.notes) notes (omega (arith, h.few_notes)),
      notes_again object.notes rest h.choices words.notes,
    ) refl
