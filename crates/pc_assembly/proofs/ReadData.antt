-- The words with which arrays begin, as they are printed, are read back.
use Rattle.std.proofs.Common.{ℕ, suc, ◌+◌, ◌^◌, ◌<◌, ◌≤◌, ◌≡◌, ◌⊎◌, inl, inr, true, false, arith}
use Rattle.std.proofs.Common.{nat_eq, nat_lt}
use Rattle.std.proofs.Common.{List, [], ◌∷◌, ◌++◌, map, length, refl, sym, subst, append_assoc, append-nil}
use Rattle.std.proofs.Common.{length-append, codes, decimal, Ok, ℤ, w32, FitsSigned}
use Rattle.std.specs.Prelude.{slice_index}
use Rattle.std.specs.Fmt.{signed_decimal}
use Rattle.std.specs.List.{AllByRecursion}
use Rattle.std.proofs.lemmas.Bool.Decides.{nat_tests}
use Rattle.std.proofs.lemmas.List.{get_or_at}
use Rattle.pc_word.specs.Data.{AreData}
use Rattle.pc_word.specs.MachineLimits.{most_length}
use Rattle.pc_word.specs.Ranges.{IsBetween}
use Rattle.pc_object.specs.Numbers.{WordsFit}
use Rattle.pc_view.specs.DataLines.{data_line, data_lines, all_data_lines}
use Rattle.pc_assembly.specs.declared.bytes.Class.TheVariants as class
use Rattle.pc_assembly.specs.declared.error.Expected.TheVariants as expect
use Rattle.pc_assembly.specs.declared.line.Stage.TheVariants as stage
use Rattle.pc_assembly.specs.declared.line.Content.{Content}
use Rattle.pc_assembly.specs.declared.line.Content.TheVariants as content
use Rattle.pc_assembly.specs.Bytes.{after_run}
use Rattle.pc_assembly.specs.Words.{unblank, is_end}
use Rattle.pc_assembly.specs.Names.{Names}
use Rattle.pc_assembly.specs.Operands.{literal_here}
use Rattle.pc_assembly.specs.Lines.{is_in_turn, word_line, line_here}
use Rattle.pc_assembly.specs.Laws.{ReadAs}
use Rattle.pc_assembly.proofs.ReadNumbers.{decimal_begins, no_letters}
use Rattle.pc_assembly.proofs.ReadParts.{array_read, literal_read, literal_front}
use Rattle.pc_assembly.proofs.ReadHeadings.{number_there}
use Rattle.pc_assembly.proofs.ReadRows.{read_both}

-- ---- a line

-- a word after a blank, at the end of a line
last_literal : (word : ℤ) → FitsSigned w32 word → literal_here expect.Literal (unblank (codes " " ++ signed_decimal word)) ≡ Ok (word, [])
last_literal word fits =
    let is : literal_here expect.Literal (unblank (codes " " ++ (signed_decimal word ++ []))) ≡ Ok (word, []) =
    rw ((literal_front word [] fits).0, literal_read expect.Literal word [] fits refl) refl in
    subst (λ bytes. literal_here expect.Literal (unblank (codes " " ++ bytes)) ≡ Ok (word, [])) (append-nil (signed_decimal word)) is

-- an element and its word, where they are in turn
element_words : ℕ → ℕ → ℤ → List ℕ
element_words array place word = codes "a" ++ (decimal array ++ (codes "[" ++ (decimal place ++ (codes "] = " ++ signed_decimal word))))

word_read : (lengths : List ℕ) (due_array due_element array place : ℕ) (word : ℤ) → array < 256 → place < 2 ^ 32 → FitsSigned w32 word
    → is_in_turn lengths due_array due_element array place ≡ true
    → word_line lengths due_array due_element (element_words array place word) ≡ Ok (stage.Data array (place + 1), content.Word array word)
unfolding word_line element_words
word_read lengths due_array due_element array place word small fits word_fits turn =
    let behind = codes "] = " ++ signed_decimal word in
    rw (
      array_read array (codes "[" ++ (decimal place ++ behind)) small refl,
      number_there 4294967295 place expect.Element behind (omega (arith, fits)) (omega (arith, fits)) refl,
      turn,
      last_literal word word_fits,
    ) refl

line_read : (names : Names) (lengths : List ℕ) (due_array due_element array place : ℕ) (word : ℤ) → array < 256 → place < 2 ^ 32 → FitsSigned w32 word
    → is_in_turn lengths due_array due_element array place ≡ true
    → (is_end (after_run class.Indent (data_line array place word)) ≡ false)
    × (line_here names lengths (stage.Data due_array due_element) (after_run class.Indent (data_line array place word))
    ≡ Ok (stage.Data array (place + 1), content.Word array word))
unfolding line_here data_line element_words
line_read names lengths due_array due_element array place word small fits word_fits turn =
    let large : array < 2 ^ 64 = omega (arith, small) in
    let is = word_read lengths due_array due_element array place word small fits word_fits turn in (
      refl,
      rw (no_letters (decimal array) (codes "[" ++ (decimal place ++ (codes "] = " ++ signed_decimal word)))
          (decimal_begins array large)) is,
    )

-- ---- an array

-- the element that follows is in turn
next_in_turn : (lengths : List ℕ) (array place : ℕ) → place < slice_index lengths array → is_in_turn lengths array place array place ≡ true
next_in_turn lengths array place below =
    let same_array : nat_eq array array ≡ true = grind (arith, nat_tests) in
    let same_place : nat_eq place place ≡ true = grind (arith, nat_tests) in
    let within : nat_lt place (slice_index lengths array) ≡ true = grind (arith, nat_tests, below) in
    rw (same_array, same_place, within) refl

-- and so is the first of a later array
later_in_turn : (lengths : List ℕ) (due_array due_element array : ℕ) → due_array < array → 0 < slice_index lengths array
    → is_in_turn lengths due_array due_element array 0 ≡ true
later_in_turn lengths due_array due_element array later some =
    let other : nat_eq array due_array ≡ false = grind (arith, nat_tests, later) in
    let after : nat_lt due_array array ≡ true = grind (arith, nat_tests, later) in
    let within : nat_lt 0 (slice_index lengths array) ≡ true = grind (arith, nat_tests, some) in
    rw (other, after, within) refl

-- words as what lines tell
abbrev pub told_words : ℕ → List ℤ → List Content
told_words array words = map (λ word. content.Word array word) words

-- the words of an array, from a place on
words_read : (names : Names) (lengths : List ℕ) (array place : ℕ) (words : List ℤ) → array < 256 → place + length words ≤ slice_index lengths array
    → slice_index lengths array < 2 ^ 32 → AllByRecursion (FitsSigned w32) words
    → ReadAs names lengths (stage.Data array place) (data_lines array place words) (told_words array words)
    (stage.Data array (place + length words))
words_read names lengths array place [] small room fits words_fit = let e : place + 0 ≡ place = omega arith in rw e refl
words_read names lengths array place (word ∷ words) small room fits words_fit =
    let below : place < slice_index lengths array = omega (arith, room) in
    let place_fits : place < 2 ^ 32 = omega (arith, below, fits) in
    let read = line_read names lengths array place array place word small place_fits words_fit.0 (next_in_turn lengths array place below) in
    let more_room : suc place + length words ≤ slice_index lengths array = omega (arith, room) in
    let more = words_read names lengths array (suc place) words small more_room fits words_fit.1 in
    let one : place + 1 ≡ suc place = omega arith in
    let ended : suc place + length words ≡ place + suc (length words) = omega arith in (
      stage.Data array (place + 1),
      read.0,
      read.1,
      rw one (subst (λ n. ReadAs names lengths (stage.Data array (suc place)) (data_lines array (suc place) words) (told_words array words)
          (stage.Data array n)) ended more),
    )

-- ---- all arrays

-- the data of arrays, numbered from `array` on, as what lines tell
abbrev pub told_data : ℕ → List (List ℤ) → List Content
told_data array [] = []
told_data array (words ∷ initial) = told_words array words ++ told_data (suc array) initial

-- an array before this one is due, or the first element of this one
abbrev pub IsBefore : (due_array due_element array : ℕ) → Type 0
IsBefore due_array due_element array = (due_array < array) ⊎ ((due_array ≡ array) × (due_element ≡ 0))

-- the first word of an array is in turn
first_in_turn : (lengths : List ℕ) (due_array due_element array : ℕ) → IsBefore due_array due_element array → 0 < slice_index lengths array
    → is_in_turn lengths due_array due_element array 0 ≡ true
first_in_turn lengths due_array due_element array (inl later) some = later_in_turn lengths due_array due_element array later some
first_in_turn lengths due_array due_element array (inr same) some = rw (same.0, same.1) (next_in_turn lengths array 0 some)

-- the lines of an array are read back, and leave due what a later array may follow
abbrev OneArray : Names → List ℕ → (due_array due_element array : ℕ) → List ℤ → Type 0
OneArray names lengths due_array due_element array words =
    (next_array : ℕ) × (next_element : ℕ) × IsBefore next_array next_element (suc array)
    × ReadAs names lengths (stage.Data due_array due_element) (data_lines array 0 words) (told_words array words)
    (stage.Data next_array next_element)

one_array : (names : Names) (lengths : List ℕ) (due_array due_element array : ℕ) (words : List ℤ) → IsBefore due_array due_element array → array < 256
    → length words ≤ slice_index lengths array → slice_index lengths array < 2 ^ 32 → AllByRecursion (FitsSigned w32) words
    → OneArray names lengths due_array due_element array words
one_array names lengths due_array due_element array [] before small room fits words_fit = (due_array, due_element, inl (earlier before), refl)
  where
    earlier : IsBefore due_array due_element array → due_array < suc array
    earlier (inl later) = omega (arith, later)
    earlier (inr same) = let e = same.0 in omega (arith, e)
one_array names lengths due_array due_element array (word ∷ words) before small room fits words_fit =
    let some : 0 < slice_index lengths array = omega (arith, room) in
    let read = line_read names lengths due_array due_element array 0 word small (omega arith) words_fit.0
    (first_in_turn lengths due_array due_element array before some) in
    let more_room : 1 + length words ≤ slice_index lengths array = omega (arith, room) in (
      array,
      1 + length words,
      inl (omega arith),
      (stage.Data array 1, read.0, read.1, words_read names lengths array 1 words small more_room fits words_fit.1),
    )

-- the lines of arrays, numbered from `array` on, are read back, and leave an element due
abbrev pub DataReads : Names → List ℕ → (due_array due_element array : ℕ) → List (List ℤ) → Type 0
DataReads names lengths due_array due_element array initial =
    (next_array : ℕ) × (next_element : ℕ)
    × ReadAs names lengths (stage.Data due_array due_element) (all_data_lines array initial) (told_data array initial)
    (stage.Data next_array next_element)

-- the arrays from one on
pub data_read : (names : Names) (before arrays : List ℕ) (due_array due_element : ℕ) (initial : List (List ℤ))
    → IsBefore due_array due_element (length before)
    → length (before ++ arrays) ≤ 256 → AreData arrays initial → AllByRecursion (IsBetween 1 most_length) arrays
    → AllByRecursion WordsFit initial
    → DataReads names (before ++ arrays) due_array due_element (length before) initial
data_read names before [] due_array due_element [] first few are lengths fit = (due_array, due_element, refl)
data_read names before [] due_array due_element (words ∷ initial) first few are lengths fit = absurd are
data_read names before (elements ∷ arrays) due_array due_element [] first few are lengths fit = absurd are
data_read names before (elements ∷ arrays) due_array due_element (words ∷ initial) first few are lengths fit =
    let all = before ++ (elements ∷ arrays) in
    let here : slice_index all (length before) ≡ elements = get_or_at before elements arrays 0 (length before) refl in
    let longer = length-append before (elements ∷ arrays) in
    let small : length before < 256 = omega (arith, few, longer) in
    let room : length words ≤ slice_index all (length before) = rw here are.0.fits in
    let bound = lengths.0.1 in
    let fits : slice_index all (length before) < 2 ^ 32 = rw here (omega (arith, bound)) in
    let one = one_array names all due_array due_element (length before) words first small room fits fit.0 in
    let same : (before ++ elements ∷ []) ++ arrays ≡ all = append_assoc before (elements ∷ []) arrays in
    let next : length (before ++ elements ∷ []) ≡ suc (length before) = omega (arith, length-append before (elements ∷ [])) in
    let due : IsBefore one.0 one.1 (length (before ++ elements ∷ [])) = subst (λ n. IsBefore one.0 one.1 n) (sym next) one.2 in
    let short : length ((before ++ elements ∷ []) ++ arrays) ≤ 256 = subst (λ (l : List ℕ). length l ≤ 256) (sym same) few in
    let rest = data_read names (before ++ elements ∷ []) arrays one.0 one.1 initial due short are.1 lengths.1 fit.1 in
    let renamed : DataReads names all one.0 one.1 (length (before ++ elements ∷ [])) initial =
    subst (λ l. DataReads names l one.0 one.1 (length (before ++ elements ∷ [])) initial) same rest in
    joined all one (subst (λ n. DataReads names all one.0 one.1 n initial) next renamed)
  where
    joined : (all : List ℕ) (one : OneArray names all due_array due_element (length before) words)
        → DataReads names all one.0 one.1 (suc (length before)) initial → DataReads names all due_array due_element (length before) (words ∷ initial)
    joined all one rest =
        let due = stage.Data due_array due_element in
        let both = read_both names all due (stage.Data one.0 one.1) (stage.Data rest.0 rest.1)
        (data_lines (length before) 0 words) (all_data_lines (suc (length before)) initial)
        (told_words (length before) words) (told_data (suc (length before)) initial) one.3 rest.2 in
        (rest.0, rest.1, both)
