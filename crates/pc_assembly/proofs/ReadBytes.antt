-- The bytes that the lines of a listing stand for are those of the object that was listed.
use Rattle.std.proofs.Common.{ℕ, suc, ◌+◌, ◌<◌, ◌≡◌, ℤ, true, false, arith, nat_eq}
use Rattle.std.proofs.Common.{List, [], ◌∷◌, ◌++◌, map, length, refl, sym, ap, ap₂, ◌∙◌, append_assoc, append-nil}
use Rattle.std.specs.List.{flat_map}
use Rattle.std.proofs.lemmas.Bool.Decides.{nat_tests}
use Rattle.pc_word.specs.Row.{Then, Either, At_leaf}
use Rattle.pc_machine.specs.MachineCode.{CodeRow}
use Rattle.pc_object.specs.declared.object.Note.{Note}
use Rattle.pc_object.specs.ObjectText.{operand_text, item_text, leaf_text, row_text, note_text}
use Rattle.pc_assembly.specs.declared.part.Part.{Part}
use Rattle.pc_assembly.specs.declared.line.Line.{Line}
use Rattle.pc_assembly.specs.declared.line.Content.{Content}
use Rattle.pc_assembly.specs.declared.line.Content.TheVariants as content
use Rattle.pc_assembly.specs.Assembled.{content_rows, content_notes, content_words, array_words, initial_from}
use Rattle.pc_assembly.specs.Laws.{parts_of}
use Rattle.pc_assembly.proofs.ReadRows.{told_parts, told_both}
use Rattle.pc_assembly.proofs.ReadData.{told_words, told_data}
use Rattle.pc_assembly.proofs.ReadListing.{told_rows, told_of}

-- ---- lists of lists

flat_both : {X Y : Type 0} (f : X → List Y) (a b : List X) → flat_map f (a ++ b) ≡ flat_map f a ++ flat_map f b
flat_both f [] b = refl
flat_both f (x ∷ a) b = ap (λ rest. f x ++ rest) (flat_both f a b) ∙ sym (append_assoc (f x) (flat_map f a) (flat_map f b))

-- what lines give is what their contents give
pub flat_told : {Y : Type 0} (f : Content → List Y) (lines : List Line)
    → flat_map (λ line. f line.content) lines ≡ flat_map f (told_of lines)
flat_told f [] = refl
flat_told f (line ∷ lines) = ap (λ rest. f line.content ++ rest) (flat_told f lines)

-- notes as what lines tell
abbrev pub told_notes : List Note → List Content
told_notes notes = map (λ note. content.Note note) notes

-- all that the lines behind the first one tell
abbrev pub told_body : List (List ℤ) → List CodeRow → List Note → List Content
told_body initial rows notes = told_data 0 initial ++ (told_rows rows ++ told_notes notes)

flat_body : {Y : Type 0} (f : Content → List Y) (initial : List (List ℤ)) (rows : List CodeRow) (notes : List Note)
    → flat_map f (told_body initial rows notes)
    ≡ flat_map f (told_data 0 initial) ++ (flat_map f (told_rows rows) ++ flat_map f (told_notes notes))
flat_body f initial rows notes =
    flat_both f (told_data 0 initial) (told_rows rows ++ told_notes notes)
    ∙ ap (λ rest. flat_map f (told_data 0 initial) ++ rest) (flat_both f (told_rows rows) (told_notes notes))

-- ---- rows

words_no_rows : (array : ℕ) (words : List ℤ) → flat_map content_rows (told_words array words) ≡ []
words_no_rows array [] = refl
words_no_rows array (word ∷ words) = words_no_rows array words

data_no_rows : (array : ℕ) (initial : List (List ℤ)) → flat_map content_rows (told_data array initial) ≡ []
data_no_rows array [] = refl
data_no_rows array (words ∷ initial) =
    flat_both content_rows (told_words array words) (told_data (suc array) initial)
    ∙ ap₂ (λ (a b : List ℕ). a ++ b) (words_no_rows array words) (data_no_rows (suc array) initial)

notes_no_rows : (notes : List Note) → flat_map content_rows (told_notes notes) ≡ []
notes_no_rows [] = refl
notes_no_rows (note ∷ notes) = notes_no_rows notes

row_bytes : (row : CodeRow) → flat_map content_rows (told_parts row) ≡ row_text row
row_bytes (Then item rest) = ap (λ bytes. item_text item ++ bytes) (row_bytes rest)
row_bytes (Either on on_yes on_no) =
    ap (λ (bytes : List ℕ). 0x10 ∷ (operand_text on ++ bytes))
    (ap (λ contents. flat_map content_rows contents) (told_both (parts_of on_yes) (parts_of on_no))
    ∙ flat_both content_rows (told_parts on_yes) (told_parts on_no)
    ∙ ap₂ (λ (a b : List ℕ). a ++ b) (row_bytes on_yes) (row_bytes on_no))
row_bytes (At_leaf leaf) = append-nil (leaf_text leaf)

rows_bytes_told : (rows : List CodeRow) → flat_map content_rows (told_rows rows) ≡ flat_map row_text rows
rows_bytes_told [] = refl
rows_bytes_told (row ∷ rest) =
    flat_both content_rows (told_parts row) (told_rows rest) ∙ ap₂ (λ (a b : List ℕ). a ++ b) (row_bytes row) (rows_bytes_told rest)

-- the rows of what the lines tell
pub body_rows : (initial : List (List ℤ)) (rows : List CodeRow) (notes : List Note)
    → flat_map content_rows (told_body initial rows notes) ≡ flat_map row_text rows
body_rows initial rows notes =
    flat_body content_rows initial rows notes
    ∙ rw (data_no_rows 0 initial, rows_bytes_told rows, notes_no_rows notes, append-nil (flat_map row_text rows)) refl

-- ---- notes

words_no_notes : (array : ℕ) (words : List ℤ) → flat_map content_notes (told_words array words) ≡ []
words_no_notes array [] = refl
words_no_notes array (word ∷ words) = words_no_notes array words

data_no_notes : (array : ℕ) (initial : List (List ℤ)) → flat_map content_notes (told_data array initial) ≡ []
data_no_notes array [] = refl
data_no_notes array (words ∷ initial) =
    flat_both content_notes (told_words array words) (told_data (suc array) initial)
    ∙ ap₂ (λ (a b : List ℕ). a ++ b) (words_no_notes array words) (data_no_notes (suc array) initial)

parts_no_notes : (parts : List Part) → flat_map content_notes (map (λ part. content.Part part) parts) ≡ []
parts_no_notes [] = refl
parts_no_notes (part ∷ parts) = parts_no_notes parts

rows_no_notes : (rows : List CodeRow) → flat_map content_notes (told_rows rows) ≡ []
rows_no_notes [] = refl
rows_no_notes (row ∷ rest) =
    flat_both content_notes (told_parts row) (told_rows rest)
    ∙ ap₂ (λ (a b : List ℕ). a ++ b) (parts_no_notes (parts_of row)) (rows_no_notes rest)

notes_bytes_told : (notes : List Note) → flat_map content_notes (told_notes notes) ≡ flat_map note_text notes
notes_bytes_told [] = refl
notes_bytes_told (note ∷ notes) = ap (λ bytes. note_text note ++ bytes) (notes_bytes_told notes)

-- the notes of what the lines tell
pub body_notes : (initial : List (List ℤ)) (rows : List CodeRow) (notes : List Note)
    → flat_map content_notes (told_body initial rows notes) ≡ flat_map note_text notes
body_notes initial rows notes =
    flat_body content_notes initial rows notes
    ∙ rw (data_no_notes 0 initial, rows_no_notes rows, notes_bytes_told notes) refl

-- ---- data

-- the words of an array
own_words : (array : ℕ) (words : List ℤ) → flat_map (content_words array) (told_words array words) ≡ words
own_words array [] = refl
own_words array (word ∷ words) =
    let same : nat_eq array array ≡ true = grind (arith, nat_tests) in
    rw (same, own_words array words) refl

-- another array has none of them
other_words : (array other : ℕ) (words : List ℤ) → (array ≡ other → ⊥) → flat_map (content_words array) (told_words other words) ≡ []
other_words array other [] h = refl
other_words array other (word ∷ words) h =
    let apart : nat_eq other array ≡ false = grind (arith, nat_tests, h) in
    rw (apart, other_words array other words h) refl

later_words : (array from : ℕ) (initial : List (List ℤ)) → array < from → flat_map (content_words array) (told_data from initial) ≡ []
later_words array from [] h = refl
later_words array from (words ∷ initial) h =
    flat_both (content_words array) (told_words from words) (told_data (suc from) initial)
    ∙ ap₂ (λ (a b : List ℤ). a ++ b) (other_words array from words (λ e. omega (arith, e, h)))
    (later_words array (suc from) initial (omega (arith, h)))

words_at : (array from : ℕ) (before : List (List ℤ)) (words : List ℤ) (rest : List (List ℤ)) → array ≡ from + length before
    → flat_map (content_words array) (told_data from (before ++ words ∷ rest)) ≡ words
words_at array from [] words rest e =
    let here : from ≡ array = omega (arith, e) in
    let own : flat_map (content_words array) (told_words from words) ≡ words = rw here (own_words array words) in
    flat_both (content_words array) (told_words from words) (told_data (suc from) rest)
    ∙ ap₂ (λ (a b : List ℤ). a ++ b) own (later_words array (suc from) rest (omega (arith, here))) ∙ append-nil words
words_at array from (first ∷ before) words rest e =
    flat_both (content_words array) (told_words from first) (told_data (suc from) (before ++ words ∷ rest))
    ∙ ap₂ (λ (a b : List ℤ). a ++ b) (other_words array from first (λ same. omega (arith, e, same)))
    (words_at array (suc from) before words rest (omega (arith, e)))

parts_no_words : (array : ℕ) (parts : List Part) → flat_map (content_words array) (map (λ part. content.Part part) parts) ≡ []
parts_no_words array [] = refl
parts_no_words array (part ∷ parts) = parts_no_words array parts

rows_no_words : (array : ℕ) (rows : List CodeRow) → flat_map (content_words array) (told_rows rows) ≡ []
rows_no_words array [] = refl
rows_no_words array (row ∷ rest) =
    flat_both (content_words array) (told_parts row) (told_rows rest)
    ∙ ap₂ (λ (a b : List ℤ). a ++ b) (parts_no_words array (parts_of row)) (rows_no_words array rest)

notes_no_words : (array : ℕ) (notes : List Note) → flat_map (content_words array) (told_notes notes) ≡ []
notes_no_words array [] = refl
notes_no_words array (note ∷ notes) = notes_no_words array notes

-- the words of one array of what the lines tell
body_words : (array : ℕ) (initial : List (List ℤ)) (rows : List CodeRow) (notes : List Note)
    → flat_map (content_words array) (told_body initial rows notes) ≡ flat_map (content_words array) (told_data 0 initial)
body_words array initial rows notes =
    flat_body (content_words array) initial rows notes
    ∙ rw (rows_no_words array rows, notes_no_words array notes, append-nil (flat_map (content_words array) (told_data 0 initial))) refl

-- the data of all arrays
pub initial_again : (before rest : List (List ℤ)) (rows : List CodeRow) (notes : List Note) (lines : List Line)
    → told_of lines ≡ told_body (before ++ rest) rows notes → initial_from (length rest) before lines ≡ before ++ rest
unfolding initial_from
initial_again before [] rows notes lines told = sym (append-nil before)
initial_again before (words ∷ rest) rows notes lines told =
    let array = length before in
    let here : array ≡ 0 + array = omega arith in
    let found : array_words array lines ≡ words =
    flat_told (content_words array) lines ∙ ap (λ contents. flat_map (content_words array) contents) told
    ∙ body_words array (before ++ words ∷ rest) rows notes ∙ words_at array 0 before words rest here in
    let same : (before ++ words ∷ []) ++ rest ≡ before ++ words ∷ rest = append_assoc before (words ∷ []) rest in
    let more = initial_again (before ++ words ∷ []) rest rows notes lines (rw same told) in
    ap (λ first. initial_from (length rest) (before ++ first ∷ []) lines) found ∙ more ∙ same
