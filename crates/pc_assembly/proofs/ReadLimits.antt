-- The first line of a listing, as it is printed, is read back.
use Rattle.std.proofs.Common.{ℕ, zero, suc, ◌+◌, ◌^◌, ◌<◌, ◌≤◌, ◌≡◌, inl, inr, false, arith}
use Rattle.std.proofs.Common.{List, [], ◌∷◌, ◌++◌, length, refl, ap, ◌∙◌, append_assoc, length-append}
use Rattle.std.proofs.Common.{codes, decimal, Ok}
use Rattle.std.specs.Fmt.{digits}
use Rattle.std.specs.List.{prefix_len, AllByRecursion}
use Rattle.pc_word.specs.declared.item.Limits.{Limits}
use Rattle.pc_word.specs.Ranges.{AreLimits, IsBetween}
use Rattle.pc_word.specs.MachineLimits.{most_length}
use Rattle.pc_machine.specs.MachineCode.{RowCode}
use Rattle.pc_machine.specs.Registers.{IsRegisterCount}
use Rattle.pc_view.specs.Listing.{arrays_from, array_words, limit_words, register_words, limits_line}
use Rattle.pc_assembly.specs.declared.bytes.Class.TheVariants as class
use Rattle.pc_assembly.specs.declared.error.Expected.TheVariants as expect
use Rattle.pc_assembly.specs.declared.spelling.Mark.TheVariants as mark
use Rattle.pc_assembly.specs.Bytes.{is_in}
use Rattle.pc_assembly.specs.declared.spelling.Word.TheVariants as word
use Rattle.pc_assembly.specs.Words.{unblank, is_end, is_next, is_mark}
use Rattle.pc_assembly.specs.Limits.{title_at, memory_at, limit_at, limits_at, length_at, lengths_from, lengths_here, arrays_at}
use Rattle.pc_assembly.specs.Limits.{stated_registers, registers_here, Header, header_at}
use Rattle.pc_assembly.proofs.ReadNumbers.{decimal_begins, no_letters}
use Rattle.pc_assembly.proofs.ReadHeadings.{number_there, number_behind, due_read}

-- ---- the limits

limits_read : (limits : Limits) (rest : List ℕ) → AreLimits limits → prefix_len (is_in class.Letter) rest ≡ 0
    → limits_at (limit_words limits ++ rest) ≡ Ok (limits, rest)
unfolding limits_at title_at memory_at limit_at limit_words
limits_read limits rest are ends =
    let ops = are.ops.1 in
    let tests = are.tests.1 in
    let mem = are.mem.1 in
    let third = codes " loads and stores" ++ rest in
    let second = codes " tests, " ++ (decimal limits.mem ++ third) in
    let first = codes " items, " ++ (decimal limits.tests ++ second) in
    let whole : limit_words limits ++ rest ≡ codes "limits of a row: " ++ (decimal limits.ops ++ first) = simp append_assoc refl in
    ap limits_at whole
    ∙ rw (
      number_behind 255 limits.ops expect.Limit first (omega (arith, ops)) (omega (arith, ops)) refl,
      number_behind 255 limits.tests expect.Limit second (omega (arith, tests)) (omega (arith, tests)) refl,
      number_behind 255 limits.mem expect.Limit third (omega (arith, mem)) (omega (arith, mem)) refl,
      ends,
    ) refl

-- ---- the arrays

-- what may stand behind the arrays: the number of registers, or nothing
pub record Follows (rest : List ℕ) : Type 0 where
  pub letters : prefix_len (is_in class.Letter) rest ≡ 0
  pub blanks : prefix_len (is_in class.Blank) rest ≡ 0
  pub comma : is_mark mark.Comma rest ≡ false

-- one array
length_read : (number elements : ℕ) (rest : List ℕ) → number ≤ 255 → elements < 2 ^ 32
    → length_at number (codes " a" ++ (decimal number ++ (codes "[" ++ (decimal elements ++ (codes "]" ++ rest))))) ≡ Ok (elements, rest)
unfolding length_at
length_read number elements rest small fits =
    let behind = codes "[" ++ (decimal elements ++ (codes "]" ++ rest)) in
    let number_fits : number < 2 ^ 64 = omega (arith, small) in
    rw (
      no_letters (decimal number) behind (decimal_begins number number_fits),
      due_read 255 number expect.Array behind small number_fits refl,
      number_there 4294967295 elements expect.Number (codes "]" ++ rest) (omega (arith, fits)) (omega (arith, fits)) refl,
    ) refl

-- an array and those behind it, after a blank
array_list : ℕ → ℕ → List ℕ → List ℕ → List ℕ
array_list number elements lengths rest = codes " a" ++
    (decimal number ++ (codes "[" ++ (decimal elements ++ (codes "]" ++ (arrays_from (suc number) lengths ++ rest)))))

lengths_read : (room : ℕ) (before : List ℕ) (elements : ℕ) (lengths : List ℕ) (rest : List ℕ) → Follows rest
    → length lengths < room → length before + length lengths ≤ 255 → AllByRecursion (IsBetween 1 most_length) (elements ∷ lengths)
    → lengths_from room before (array_list (length before) elements lengths rest) ≡ Ok (before ++ elements ∷ lengths, rest)
unfolding lengths_from array_list
lengths_read zero before elements lengths rest follows some few are = absurd (omega (arith, some))
lengths_read (suc room) before elements [] rest follows some few are =
    let bound = are.0.1 in
    rw (length_read (length before) elements rest (omega (arith, few)) (omega (arith, bound)), follows.blanks, follows.comma) refl
lengths_read (suc room) before elements (next ∷ lengths) rest follows some few are =
    let bound = are.0.1 in
    let longer : length (before ++ elements ∷ []) ≡ suc (length before) = omega (arith, length-append before (elements ∷ [])) in
    let behind = array_list (suc (length before)) next lengths rest in
    let more = lengths_read room (before ++ elements ∷ []) next lengths rest follows (omega (arith, some))
    (omega (arith, few, longer)) are.1 in
    let goes : lengths_from room (before ++ elements ∷ []) behind
    ≡ Ok ((before ++ elements ∷ []) ++ next ∷ lengths, rest) = rw longer at more in
    let text : arrays_from (suc (length before)) (next ∷ lengths) ++ rest ≡ codes "," ++ behind = simp append_assoc refl in
    rw (
      text,
      length_read (length before) elements (codes "," ++ behind) (omega (arith, few))
          (omega (arith, bound)),
      goes,
      append_assoc before (elements ∷ []) (next ∷ lengths),
    ) refl

-- the arrays as a list that begins with the first
listed_words : (elements : ℕ) (arrays rest : List ℕ)
    → array_words (elements ∷ arrays) ++ rest ≡ codes "; arrays:" ++ array_list 0 elements arrays rest
unfolding array_list
listed_words elements arrays rest = simp append_assoc refl

-- the blank in front of the first is passed before
unblanked : (room : ℕ) (before : List ℕ) (number elements : ℕ) (lengths rest : List ℕ)
    → lengths_from (suc room) before (unblank (array_list number elements lengths rest))
    ≡ lengths_from (suc room) before (array_list number elements lengths rest)
unfolding lengths_from length_at array_list
unblanked room before number elements lengths rest = refl

-- no list of arrays begins with the word `none`
is_listed : (elements : ℕ) (arrays rest : List ℕ) → is_next word.None (unblank (array_list 0 elements arrays rest)) ≡ false
unfolding array_list
is_listed elements arrays rest =
    let fits : 0 < 2 ^ 64 = omega arith in
    rw (no_letters (decimal 0) (codes "[" ++ (decimal elements ++ (codes "]" ++ (arrays_from 1 arrays ++ rest))))
    (decimal_begins 0 fits)) refl

listed_read : (elements : ℕ) (arrays rest : List ℕ) → Follows rest → length (elements ∷ arrays) ≤ 32
    → AllByRecursion (IsBetween 1 most_length) (elements ∷ arrays)
    → lengths_here (unblank (array_list 0 elements arrays rest)) ≡ Ok (elements ∷ arrays, rest)
unfolding lengths_here
listed_read elements arrays rest follows few are =
    rw (is_listed elements arrays rest)
    (unblanked 254 [] 0 elements arrays rest
    ∙ lengths_read 255 [] elements arrays rest follows (omega (arith, few)) (omega (arith, few)) are)

no_arrays_read : (rest : List ℕ) → Follows rest → arrays_at (array_words [] ++ rest) ≡ Ok ([], rest)
unfolding arrays_at lengths_here
no_arrays_read rest follows = rw follows.letters refl

some_arrays_read : (elements : ℕ) (arrays rest : List ℕ)
    → lengths_here (unblank (array_list 0 elements arrays rest)) ≡ Ok (elements ∷ arrays, rest)
    → arrays_at (codes "; arrays:" ++ array_list 0 elements arrays rest) ≡ Ok (elements ∷ arrays, rest)
unfolding arrays_at
some_arrays_read elements arrays rest listed = rw listed refl

arrays_read : (arrays : List ℕ) (rest : List ℕ) → Follows rest → length arrays ≤ 32 → AllByRecursion (IsBetween 1 most_length) arrays
    → arrays_at (array_words arrays ++ rest) ≡ Ok (arrays, rest)
arrays_read [] rest follows few are = no_arrays_read rest follows
arrays_read (elements ∷ arrays) rest follows few are =
    ap arrays_at (listed_words elements arrays rest)
    ∙ some_arrays_read elements arrays rest (listed_read elements arrays rest follows few are)

-- ---- the registers

-- how many registers there are stands behind the arrays
registers_follow : (registers : ℕ) → IsRegisterCount registers → Follows (register_words registers)
registers_follow registers (inl few) = rw few (record { letters = refl; blanks = refl; comma = refl })
registers_follow registers (inr most) = rw most (record { letters = refl; blanks = refl; comma = refl })

registers_read : (registers : ℕ) → IsRegisterCount registers
    → (prefix_len (is_in class.Blank) (register_words registers) ≡ 0) × (registers_here (register_words registers) ≡ Ok (registers, []))
unfolding registers_here stated_registers digits
registers_read registers (inl few) = rw few (refl, refl)
registers_read registers (inr most) = rw most (refl, refl)

-- ---- the whole line

-- the registers and the arrays begin with no letter
no_letter_follows : (arrays : List ℕ) (rest : List ℕ) → prefix_len (is_in class.Letter) (array_words arrays ++ rest) ≡ 0
no_letter_follows [] rest = refl
no_letter_follows (elements ∷ arrays) rest = refl

-- what the first line of a code's listing says
abbrev pub header_of : RowCode → Header
header_of code = record { limits = code.limits; arrays = code.arrays; registers = code.registers }

pub header_read : (code : RowCode) → AreLimits code.limits → IsRegisterCount code.registers → length code.arrays ≤ 32
    → AllByRecursion (IsBetween 1 most_length) code.arrays → header_at (limits_line code) ≡ Ok (header_of code)
unfolding header_at
header_read code limits registers few are =
    let rest = register_words code.registers in
    let follows = registers_follow code.registers registers in
    let read = registers_read code.registers registers in
    rw (
      limits_read code.limits (array_words code.arrays ++ rest) limits (no_letter_follows code.arrays rest),
      arrays_read code.arrays rest follows few are,
      read.0,
      read.1,
    ) refl

-- and it is no comment
pub limits_line_starts : (code : RowCode) → is_end (unblank (limits_line code)) ≡ false
unfolding limit_words
limits_line_starts code = refl
