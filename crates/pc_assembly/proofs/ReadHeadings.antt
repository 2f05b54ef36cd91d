-- The first lines of rows, as they are printed, are read back.
use Rattle.std.proofs.Common.{ℕ, ◌+◌, ◌^◌, ◌<◌, ◌≤◌, ◌≡◌, ◌==◌, true, false, arith, nat_eq, nat_lt}
use Rattle.std.proofs.Common.{List, [], ◌∷◌, ◌++◌, length, refl, append_assoc, codes, decimal, None, Ok}
use Rattle.std.specs.List.{prefix_len, count_by}
use Rattle.std.proofs.lemmas.Bool.Decides.{nat_tests}
use Rattle.pc_word.specs.Items.{is_memory}
use Rattle.pc_word.specs.Row.{items_of, tests_of}
use Rattle.pc_word.specs.declared.item.Limits.{Limits}
use Rattle.pc_machine.specs.MachineCode.{CodeRow}
use Rattle.pc_view.specs.Listing.{leading_words, count_words, heading}
use Rattle.pc_assembly.specs.declared.bytes.Class.TheVariants as class
use Rattle.pc_assembly.specs.declared.error.Expected.{Expected}
use Rattle.pc_assembly.specs.declared.error.Expected.TheVariants as expect
use Rattle.pc_assembly.specs.declared.line.Side.TheVariants as side
use Rattle.pc_assembly.specs.declared.line.Stage.TheVariants as stage
use Rattle.pc_assembly.specs.declared.line.Content.TheVariants as content
use Rattle.pc_assembly.specs.Bytes.{is_in, after_run}
use Rattle.pc_assembly.specs.Words.{is_end, number_at, number_is, end_at}
use Rattle.pc_assembly.specs.Names.{Names, most_row}
use Rattle.pc_assembly.specs.Limits.{memory_at}
use Rattle.pc_assembly.specs.Lines.{used_at, usage_at, usage_here, numbered_at, row_here, row_line, line_here}
use Rattle.pc_assembly.proofs.ReadNumbers.{Begins, decimal_begins, no_blanks, number_read}
use Rattle.pc_assembly.proofs.ReadParts.{NoDigit}

-- ---- numbers

-- a number right here
pub number_there : (most n : ℕ) (expected : Expected) (rest : List ℕ) → n ≤ most → n < 2 ^ 64 → NoDigit rest
    → number_at most expected (decimal n ++ rest) ≡ Ok (n, rest)
number_there most n expected rest small fits ends = rw
    (no_blanks (decimal n) rest (decimal_begins n fits), number_read most n expected rest small fits ends) refl

-- and after a blank
pub number_behind : (most n : ℕ) (expected : Expected) (rest : List ℕ) → n ≤ most → n < 2 ^ 64 → NoDigit rest
    → number_at most expected (codes " " ++ (decimal n ++ rest)) ≡ Ok (n, rest)
number_behind most n expected rest small fits ends = rw
    (no_blanks (decimal n) rest (decimal_begins n fits), number_read most n expected rest small fits ends) refl

-- no line ends in front of a number
begins_goes_on : (bytes rest : List ℕ) → Begins bytes → is_end (bytes ++ rest) ≡ false
begins_goes_on [] rest h = absurd h
begins_goes_on (byte ∷ bytes) rest h =
    let comment : (byte == 59) ≡ false = grind (arith, nat_tests, h.0, h.1) in
    let slash : nat_eq 47 byte ≡ false = grind (arith, nat_tests, h.0, h.1) in
    rw (comment, slash) refl

same_number : (n : ℕ) → nat_eq n n ≡ true
same_number n = grind (arith, nat_tests)

-- the number that is due
pub due_read : (most n : ℕ) (expected : Expected) (rest : List ℕ) → n ≤ most → n < 2 ^ 64 → NoDigit rest
    → number_is most n expected (decimal n ++ rest) ≡ Ok rest
unfolding number_is
due_read most n expected rest small fits ends = rw (number_read most n expected rest small fits ends, same_number n) refl

-- ---- what a row has of what it may have

-- a number of four bytes
IsNumber : ℕ → Type 0
IsNumber n = n < 2 ^ 32

used_read : (some all : ℕ) (rest : List ℕ) → IsNumber some → IsNumber all → NoDigit rest
    → used_at (decimal some ++ (codes " of " ++ (decimal all ++ rest))) ≡ Ok rest
unfolding used_at IsNumber
used_read some all rest p q ends =
    rw (
      number_there 4294967295 some expect.Number (codes " of " ++ (decimal all ++ rest)) (omega (arith, p)) (omega (arith, p)) refl,
      number_behind 4294967295 all expect.Number rest (omega (arith, q)) (omega (arith, q)) ends,
    ) refl

-- the same after a blank
used_behind : (some all : ℕ) (rest : List ℕ) → IsNumber some → IsNumber all → NoDigit rest
    → used_at (codes " " ++ (decimal some ++ (codes " of " ++ (decimal all ++ rest)))) ≡ Ok rest
unfolding used_at IsNumber
used_behind some all rest p q ends =
    rw (
      number_behind 4294967295 some expect.Number (codes " of " ++ (decimal all ++ rest)) (omega (arith, p)) (omega (arith, p)) refl,
      number_behind 4294967295 all expect.Number rest (omega (arith, q)) (omega (arith, q)) ends,
    ) refl

-- six numbers in words
usage_words : (a b c d e f : ℕ) → List ℕ → List ℕ
usage_words a b c d e f rest =
    decimal a ++ (codes " of " ++ (decimal b ++ (codes " items, " ++ (decimal c ++ (codes " of " ++ (decimal d ++ (codes " tests, "
    ++ (decimal e ++ (codes " of " ++ (decimal f ++ (codes " loads and stores" ++ rest)))))))))))

-- they begin with a number
usage_unblank : (a b c d e f : ℕ) (rest : List ℕ) → IsNumber a → prefix_len (is_in class.Blank) (usage_words a b c d e f rest) ≡ 0
unfolding usage_words IsNumber
usage_unblank a b c d e f rest h = no_blanks (decimal a) _ (decimal_begins a (omega (arith, h)))

usage_goes_on : (a b c d e f : ℕ) (rest : List ℕ) → IsNumber a → is_end (usage_words a b c d e f rest) ≡ false
unfolding usage_words IsNumber
usage_goes_on a b c d e f rest h = begins_goes_on (decimal a) _ (decimal_begins a (omega (arith, h)))

usage_read : (a b c d e f : ℕ) (rest : List ℕ) → IsNumber a → IsNumber b → IsNumber c → IsNumber d → IsNumber e → IsNumber f
    → prefix_len (is_in class.Letter) rest ≡ 0 → usage_at (usage_words a b c d e f rest) ≡ Ok rest
unfolding usage_at memory_at usage_words
usage_read a b c d e f rest p q r s t u ends =
    let mem = decimal e ++ (codes " of " ++ (decimal f ++ (codes " loads and stores" ++ rest))) in
    let tests = decimal c ++ (codes " of " ++ (decimal d ++ (codes " tests, " ++ mem))) in
    rw (
      used_read a b (codes " items, " ++ tests) p q refl,
      used_behind c d (codes " tests, " ++ mem) r s refl,
      used_behind e f (codes " loads and stores" ++ rest) t u refl,
      ends,
    ) refl

-- ---- the whole line

-- its number, and what it has of what it may have, before what follows
row_words : (number a b c d e f : ℕ) → List ℕ → List ℕ
row_words number a b c d e f rest = codes "row " ++ (decimal number ++ (codes ": " ++ usage_words a b c d e f rest))

row_line_is : (names : Names) (number a b c d e f : ℕ) (rest : List ℕ) → number ≤ most_row → IsNumber a → IsNumber b → IsNumber c → IsNumber d → IsNumber e
    → IsNumber f
    → prefix_len (is_in class.Letter) rest ≡ 0 → end_at rest ≡ Ok tt
    → row_line names number (row_words number a b c d e f rest) ≡ Ok (stage.Part side.Neither 0 (number + 1), content.Row)
unfolding row_line row_here numbered_at row_words usage_here IsNumber
row_line_is names number a b c d e f rest small p q r s t u letters ends =
    let fits : number < 2 ^ 64 = omega (arith, small) in
    let behind = codes ": " ++ usage_words a b c d e f rest in
    let within : nat_lt most_row number ≡ false = grind (arith, nat_tests, small) in
    rw (
      within,
      no_blanks (decimal number) behind (decimal_begins number fits),
      due_read most_row number expect.RowNumber behind small fits refl,
      usage_unblank a b c d e f rest p,
      usage_goes_on a b c d e f rest p,
      usage_read a b c d e f rest p q r s t u letters,
      ends,
    ) refl

-- the printed words are these
heading_words : (limits : Limits) (number : ℕ) (row : CodeRow) (rest : List ℕ)
    → count_words limits number row ++ rest
    ≡ row_words number (length (items_of row)) limits.ops (length (tests_of row)) limits.tests
    (count_by is_memory (items_of row)) limits.mem rest
unfolding count_words row_words usage_words
heading_words limits number row rest = simp append_assoc refl

-- a limit of a row, and what a row has, have their text
pub record UsageFits (limits : Limits) (row : CodeRow) : Type 0 where
  pub ops : limits.ops < 2 ^ 32
  pub tests : limits.tests < 2 ^ 32
  pub mem : limits.mem < 2 ^ 32
  pub few_ops : length (items_of row) < 2 ^ 32
  pub few_tests : length (tests_of row) < 2 ^ 32
  pub few_mem : count_by is_memory (items_of row) < 2 ^ 32

-- what stands behind is a comment
leading_ends : (leading : List ℕ) → (prefix_len (is_in class.Letter) (leading_words leading ++ []) ≡ 0)
    × (end_at (leading_words leading ++ []) ≡ Ok tt)
leading_ends [] = (refl, refl)
leading_ends (number ∷ rest) = (refl, refl)

pub heading_read : (names : Names) (limits : Limits) (number : ℕ) (row : CodeRow) (leading : List ℕ) → number ≤ most_row → UsageFits limits row
    → row_line names number (heading None limits number row leading) ≡ Ok (stage.Part side.Neither 0 (number + 1), content.Row)
unfolding IsNumber
heading_read names limits number row leading small h =
    let rest = leading_words leading ++ [] in
    rw (heading_words limits number row rest)
    (row_line_is names number (length (items_of row)) limits.ops (length (tests_of row)) limits.tests
    (count_by is_memory (items_of row)) limits.mem rest
    small h.few_ops h.ops h.few_tests h.tests h.few_mem h.mem (leading_ends leading).0 (leading_ends leading).1)

-- it begins with the word `row`
heading_starts : (limits : Limits) (number : ℕ) (row : CodeRow) (leading : List ℕ)
    → (is_end (after_run class.Indent (heading None limits number row leading)) ≡ false)
    × (after_run class.Indent (heading None limits number row leading) ≡ heading None limits number row leading)
unfolding count_words
heading_starts limits number row leading = (refl, refl)

-- behind a row
pub later_heading_read : (names : Names) (lengths : List ℕ) (limits : Limits) (number : ℕ) (row : CodeRow) (leading : List ℕ) → number ≤ most_row
    → UsageFits limits row
    → (is_end (after_run class.Indent (heading None limits number row leading)) ≡ false)
    × (line_here names lengths (stage.Row number) (after_run class.Indent (heading None limits number row leading))
    ≡ Ok (stage.Part side.Neither 0 (number + 1), content.Row))
unfolding line_here count_words
later_heading_read names lengths limits number row leading small h =
    ((heading_starts limits number row leading).0, heading_read names limits number row leading small h)

-- and in front of the rows
pub first_heading_read : (names : Names) (lengths : List ℕ) (array element : ℕ) (limits : Limits) (row : CodeRow) (leading : List ℕ) → UsageFits limits row
    → (is_end (after_run class.Indent (heading None limits 0 row leading)) ≡ false)
    × (line_here names lengths (stage.Data array element) (after_run class.Indent (heading None limits 0 row leading))
    ≡ Ok (stage.Part side.Neither 0 1, content.Row))
unfolding line_here count_words
first_heading_read names lengths array element limits row leading h =
    ((heading_starts limits 0 row leading).0, heading_read names limits 0 row leading (omega arith) h)
