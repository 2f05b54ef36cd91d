-- A row drawn as the tree that it is: a line for each item, test and leaf, in preorder.
use Rattle.std.specs.Prelude.{ℕ, ◌+◌, List, [], ◌∷◌, ◌++◌, codes, length, Option}
use Rattle.pc_word.specs.Row.{Then, Either, At_leaf, leaves_of}
use Rattle.pc_machine.specs.MachineCode.{CodeRow}
use Rattle.pc_view.specs.Tally.{RunTally, taken_words}
use Rattle.pc_view.specs.Words.{operator_words, item_words, test_words, leaf_words}

-- The lines of a tree; `first` stands in front of the first, `below` in front of the others. Under a test its yes side comes first:
-- `yes` and `no` begin the sides, and a bar goes down from `yes`. After a leaf stands how often it was taken, where that is told; the
-- tree stands in the row with this number, of whose leaves its first has the number `leaf`.
abbrev pub tree_lines : Option RunTally → (number leaf : ℕ) → (first below : List ℕ) → CodeRow → List (List ℕ)
tree_lines told number leaf first below (Then item rest) = (first ++ item_words operator_words item) ∷ tree_lines told number leaf below below rest
tree_lines told number leaf first below (Either on on_yes on_no) =
    (first ++ test_words on)
    ∷ (tree_lines told number leaf (below ++ codes "yes ") (below ++ codes "|   ") on_yes
    ++ tree_lines told number (leaf + length (leaves_of on_yes)) (below ++ codes "no  ") (below ++ codes "    ") on_no)
tree_lines told number leaf first below (At_leaf to) = (first ++ (leaf_words to ++ taken_words told number leaf)) ∷ []
