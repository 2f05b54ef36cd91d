-- How often each row of a code ran, and each of its leaves was taken, where a text tells it.
use Rattle.std.specs.Prelude.{ℕ, ◌*◌, ◌/◌, ◌%◌, if◌then◌else◌, nat_eq, List, [], ◌++◌, codes, Option, Some, None, slice_index_or}
use Rattle.std.specs.Fmt.{decimal}
use Rattle.pc_view.specs.declared.tally.Tally.{Tally}

-- how many cycles a run took; for each row, how many of them began in it, and how many left it by each of its leaves, in preorder
pub record RunTally : Type 0 where
  pub cycles : ℕ
  pub rows : List ℕ
  pub leaves : List (List ℕ)

-- the same in memory
abbrev pub tallied : Tally → RunTally
tallied tally = record { cycles = tally.cycles; rows = tally.rows.now; leaves = tally.leaves.now }

-- a number of hundredths, with its two decimals
unfoldable pub hundredths_words : ℕ → List ℕ
hundredths_words n = decimal (n / 100) ++ (codes "." ++ (decimal (n / 10 % 10) ++ decimal (n % 10)))

-- what part some things are of all, in so many parts of the whole, cut off; nothing is no part of nothing
abbrev pub part_of : (whole some all : ℕ) → ℕ
part_of whole some all = if nat_eq all 0 then 0 else some * whole / all

-- how many hundredths of the cycles ran a row
abbrev pub row_share : RunTally → ℕ → ℕ
row_share tally number = part_of 100 (slice_index_or tally.rows number 0) tally.cycles

-- how often a row ran, where it is told
abbrev pub cycle_words : Option RunTally → ℕ → List ℕ
cycle_words None number = []
cycle_words (Some tally) number = codes "; cycles: " ++ decimal (slice_index_or tally.rows number 0)

-- how many cycles left a row by a leaf, by the number of the row and that of the leaf in it
abbrev pub times_taken : RunTally → (number leaf : ℕ) → ℕ
times_taken tally number leaf = slice_index_or (slice_index_or tally.leaves number []) leaf 0

-- how often a leaf was taken, where it is told
abbrev pub taken_words : Option RunTally → (number leaf : ℕ) → List ℕ
taken_words None number leaf = []
taken_words (Some tally) number leaf = codes "; taken: " ++ decimal (times_taken tally number leaf)
