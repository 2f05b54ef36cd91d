-- How many bytes rows have, part by part.
use Rattle.std.proofs.Common.{◌≡◌, ℕ, ◌+◌, length, length-append, ap, arith}
use Rattle.pc_word.specs.declared.item.Item.{Item}
use Rattle.pc_word.specs.declared.item.Operand.{Operand}
use Rattle.pc_word.specs.declared.item.TrapKind.{TrapKind}
use Rattle.pc_word.specs.declared.row_tree.RowTree.{RowTree}
use Rattle.pc_word.specs.Row.{Then, Either, At_leaf}
use Rattle.pc_machine.specs.declared.tree.Leaf.{Leaf}
use Rattle.pc_machine.specs.declared.tree.Leaf.TheVariants.{Goto, Stop, Trap}
use Rattle.pc_machine.specs.MachineCode.{CodeRow, row_of}
use Rattle.pc_object.specs.ObjectText.{item_text, leaf_text, row_text}
use Rattle.pc_object.specs.Sizes.{item_bytes, test_bytes, goto_bytes, end_bytes, trap_bytes}
use Rattle.pc_object.proofs.Lengths.{sizes_are_lengths}

pub goto_length : (row : ℕ) → length (leaf_text (Goto row)) ≡ goto_bytes
goto_length = sizes_are_lengths.goto

pub end_length : length (leaf_text Stop) ≡ end_bytes
end_length = sizes_are_lengths.end

pub trap_length : (kind : TrapKind) (line : ℕ) → length (leaf_text (Trap kind line)) ≡ trap_bytes
trap_length = sizes_are_lengths.trap

-- what is left behind an item, and then behind the rest of the row
pub left_behind_item : (tree next : RowTree Leaf) (item : Item) (left rest last : ℕ) → row_of tree ≡ Then item (row_of next)
    → left ≡ rest + item_bytes item → length (row_text (row_of next)) + last ≡ rest → length (row_text (row_of tree)) + last ≡ left
left_behind_item tree next item left rest last is first then_left =
    let both = length-append (item_text item) (row_text (row_of next)) in
    let one = sizes_are_lengths.item item in
    let here : length (row_text (row_of tree)) ≡ length (row_text (Then item (row_of next))) = ap (λ (r : CodeRow). length (row_text r)) is in
    omega (arith, both, one, here, first, then_left)

-- what is left behind a test, and then behind one side and the other
pub left_behind_test : (tree yes_side no_side : RowTree Leaf) (on : Operand) (left sides rest last : ℕ) → row_of tree ≡ Either on (row_of yes_side) (row_of no_side)
    → left ≡ sides + test_bytes on → length (row_text (row_of yes_side)) + rest ≡ sides → length (row_text (row_of no_side)) + last ≡ rest
    → length (row_text (row_of tree)) + last ≡ left
left_behind_test tree yes_side no_side on left sides rest last is first yes_left no_left =
    let all = sizes_are_lengths.test on (row_of yes_side) (row_of no_side) in
    let here : length (row_text (row_of tree)) ≡ length (row_text (Either on (row_of yes_side) (row_of no_side))) = ap (λ (r : CodeRow). length (row_text r)) is in
    omega (arith, all, here, first, yes_left, no_left)

-- what is left behind a leaf
pub left_behind_leaf : (tree : RowTree Leaf) (leaf : Leaf) (left last : ℕ) → row_of tree ≡ At_leaf leaf → left ≡ last + length (leaf_text leaf)
    → length (row_text (row_of tree)) + last ≡ left
left_behind_leaf tree leaf left last is first =
    let here : length (row_text (row_of tree)) ≡ length (leaf_text leaf) = ap (λ (r : CodeRow). length (row_text r)) is in
    omega (arith, here, first)

pub ruleset leaf_laws = (goto_length, end_length, trap_length)

pub ruleset row_laws = (left_behind_item, left_behind_test, left_behind_leaf)
