-- The lines of a listing, one by one and how many.
use Rattle.std.proofs.Common.{◌≡◌, ℕ, suc, ◌+◌, List, [], ◌∷◌, ◌++◌, length, map, refl, ap, arith, codes, Option}
use Rattle.std.proofs.Common.{length-append}
use Rattle.std.specs.Prelude.{ℤ}
use Rattle.std.specs.List.{sum_by}
use Rattle.std.proofs.lemmas.List.{length-map}
use Rattle.std.proofs.lemmas.List.Sums.{sum_by-cons}
use Rattle.pc_word.specs.Row.{Then, Either, At_leaf, items_of, tests_of, leaves_of}
use Rattle.pc_machine.specs.MachineCode.{CodeRow, RowCode}
use Rattle.pc_object.specs.ObjectText.{CodeWithNotes}
use Rattle.pc_report.specs.Report.{note_words}
use Rattle.pc_view.specs.Tally.{RunTally}
use Rattle.pc_view.specs.Tree.{tree_lines}
use Rattle.pc_view.specs.DataLines.{data_lines, all_data_lines}
use Rattle.pc_view.specs.Listing.{row_lines, rows_lines, listing_lines}
use Rattle.pc_view.specs.Laws.{words_of, EndWith, part_count, line_count}

-- ---- what the lines of a tree end with

ends_both : (a b c d : List (List ℕ)) → EndWith a b → EndWith c d → EndWith (a ++ c) (b ++ d)
ends_both [] [] c d h k = k
ends_both (x ∷ a) (y ∷ b) c d h k = (h.0, ends_both a b c d h.1 k)
ends_both [] (y ∷ b) c d h k = absurd h
ends_both (x ∷ a) [] c d h k = absurd h

pub tree_ends : (told : Option RunTally) (number leaf : ℕ) (first below : List ℕ) (row : CodeRow)
    → EndWith (tree_lines told number leaf first below row) (words_of told number leaf row)
tree_ends told number leaf first below (Then item rest) = ((first, refl), tree_ends told number leaf below below rest)
tree_ends told number leaf first below (Either on on_yes on_no) =
    let later = leaf + length (leaves_of on_yes) in
    ((first, refl), ends_both _ (words_of told number leaf on_yes) _ (words_of told number later on_no) (tree_ends told number leaf _ _ on_yes) (tree_ends told number later _ _ on_no))
tree_ends told number leaf first below (At_leaf to) = ((first, refl), tt)

-- ---- how many lines

length-tree_lines : (told : Option RunTally) (number leaf : ℕ) (first below : List ℕ) (row : CodeRow)
    → length (tree_lines told number leaf first below row) ≡ part_count row
length-tree_lines told number leaf first below (Then item rest) = omega (arith, length-tree_lines told number leaf below below rest)
length-tree_lines told number leaf first below (Either on on_yes on_no) =
    let later = leaf + length (leaves_of on_yes) in
    two (tree_lines told number leaf (below ++ codes "yes ") (below ++ codes "|   ") on_yes)
    (tree_lines told number later (below ++ codes "no  ") (below ++ codes "    ") on_no)
    (length-tree_lines told number leaf (below ++ codes "yes ") (below ++ codes "|   ") on_yes)
    (length-tree_lines told number later (below ++ codes "no  ") (below ++ codes "    ") on_no)
  where
    two : (a b : List (List ℕ)) → length a ≡ part_count on_yes → length b ≡ part_count on_no
        → suc (length (a ++ b)) ≡ part_count (Either on on_yes on_no)
    two a b p q =
        omega (
          arith,
          p,
          q,
          length-append a b,
          length-append (items_of on_yes) (items_of on_no),
          length-append (tests_of on_yes) (tests_of on_no),
          length-append (leaves_of on_yes) (leaves_of on_no),
        )
length-tree_lines told number leaf first below (At_leaf to) = refl

length-rows_lines : (told : Option RunTally) (code : RowCode) (number : ℕ) (rows : List CodeRow)
    → length (rows_lines told code number rows) ≡ sum_by (λ row. 1 + part_count row) rows
length-rows_lines told code number [] = refl
length-rows_lines told code number (row ∷ rest) =
    omega (
      arith,
      length-append (row_lines told code number row) (rows_lines told code (suc number) rest),
      length-tree_lines told number 0 (codes "    ") (codes "    ") row,
      length-rows_lines told code (suc number) rest,
      sum_by-cons (λ (row : CodeRow). 1 + part_count row) row rest,
    )

length-data_lines : (array place : ℕ) (words : List ℤ) → length (data_lines array place words) ≡ length words
length-data_lines array place [] = refl
length-data_lines array place (word ∷ words) = ap suc (length-data_lines array (suc place) words)

length-all_data_lines : (array : ℕ) (initial : List (List ℤ)) → length (all_data_lines array initial) ≡ sum_by length initial
length-all_data_lines array [] = refl
length-all_data_lines array (words ∷ initial) =
    omega (
      arith,
      length-append (data_lines array 0 words) (all_data_lines (suc array) initial),
      length-data_lines array 0 words,
      length-all_data_lines (suc array) initial,
      sum_by-cons length words initial,
    )

pub length-listing_lines : (told : Option RunTally) (object : CodeWithNotes) → length (listing_lines told object) ≡ line_count object
length-listing_lines told object =
    omega (
      arith,
      length-append (all_data_lines 0 object.code.initial) (rows_lines told object.code 0 object.code.rows ++ map note_words object.notes),
      length-append (rows_lines told object.code 0 object.code.rows) (map note_words object.notes),
      length-all_data_lines 0 object.code.initial,
      length-rows_lines told object.code 0 object.code.rows,
      length-map object.notes note_words,
    )
