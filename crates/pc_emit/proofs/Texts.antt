-- Texts of rows are no longer than was counted.
use Rattle.std.proofs.Common.{◌≡◌, ℕ, ◌+◌, ◌≤◌, List, [], ◌∷◌, ◌++◌, length, refl, arith}
use Rattle.std.specs.List.{flat_map}
use Rattle.std.proofs.lemmas.List.{length-append}
use Rattle.pc_word.specs.declared.item.Item.{Item}
use Rattle.pc_word.specs.declared.item.Item.TheVariants.{Bin, Copy, Load, Store, Print, Read, More}
use Rattle.pc_word.specs.declared.item.Operand.{Operand}
use Rattle.pc_word.specs.declared.item.Operand.TheVariants.{Name, Lit}
use Rattle.pc_machine.specs.declared.tree.Leaf.{Leaf}
use Rattle.pc_machine.specs.declared.tree.Leaf.TheVariants.{Goto, Stop, Trap}
use Rattle.pc_machine.specs.MachineCode.{CodeRow}
use Rattle.pc_object.specs.ObjectText.{operand_text, item_text, leaf_text, row_text}
use Rattle.pc_emit.specs.models.Output.{bytes_of}
use Rattle.pc_word.specs.Naming.{map_name, map_names}
use Rattle.pc_object.proofs.Lengths.{sizes_are_lengths}
use Rattle.pc_object.specs.Sizes.{operand_bytes, item_bytes}

pub operand_short : (operand : Operand) → length (operand_text operand) ≤ operand_bytes operand
operand_short operand = let same = sizes_are_lengths.operand operand in omega (arith, same)

pub item_short : (item : Item) → length (item_text item) ≤ item_bytes item
item_short item = let same = sizes_are_lengths.item item in omega (arith, same)

pub leaf_short : (leaf : Leaf) → length (leaf_text leaf) ≤ 6
leaf_short (Goto row) = omega arith
leaf_short Stop = omega arith
leaf_short (Trap kind line) = omega arith

-- registers in place of names change no length
pub operand_same : (of : ℕ → ℕ) (operand : Operand) → operand_bytes (map_name of operand) ≡ operand_bytes operand
operand_same of (Name name) = refl
operand_same of (Lit value) = refl

pub item_same : (of : ℕ → ℕ) (item : Item) → item_bytes (map_names of item) ≡ item_bytes item
item_same of (Bin op dest left right) = let one = operand_same of left in let other = operand_same of right in omega (arith, one, other)
item_same of (Copy dest from) = let one = operand_same of from in omega (arith, one)
item_same of (Load dest array index) = let one = operand_same of index in omega (arith, one)
item_same of (Store array index value) = let one = operand_same of index in let other = operand_same of value in omega (arith, one, other)
item_same of (Print value) = let one = operand_same of value in omega (arith, one)
item_same of (Read dest) = refl
item_same of (More dest) = refl

-- bytes of rows, and of one row more
pub bytes_more : (rows : List CodeRow) (row : CodeRow) → bytes_of (rows ++ row ∷ []) ≡ bytes_of rows + length (row_text row)
bytes_more [] row = let both = length-append (row_text row) [] in omega (arith, both)
bytes_more (first ∷ rows) row =
    let one = length-append (row_text first) (flat_map row_text (rows ++ row ∷ [])) in
    let other = length-append (row_text first) (flat_map row_text rows) in
    let rest = bytes_more rows row in
    omega (arith, one, other, rest)

-- bytes of rows, and of others after them
pub bytes_both : (rows more : List CodeRow) → bytes_of (rows ++ more) ≡ bytes_of rows + bytes_of more
bytes_both [] more = omega arith
bytes_both (first ∷ rows) more =
    let one = length-append (row_text first) (flat_map row_text (rows ++ more)) in
    let other = length-append (row_text first) (flat_map row_text rows) in
    let rest = bytes_both rows more in
    omega (arith, one, other, rest)
