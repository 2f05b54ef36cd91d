-- The parts of a row, as they are printed, are read back.
use Rattle.std.proofs.Common.{ℕ, suc, ◌^◌, ◌<◌, ◌≤◌, ◌≡◌, ◌==◌, false, arith}
use Rattle.std.proofs.Common.{List, [], ◌∷◌, ◌++◌, refl, ap, subst, ◌∙◌, append-nil, codes}
use Rattle.std.proofs.Common.{decimal, ℤ, pos, negsuc, w32, FitsSigned, Ok}
use Rattle.std.specs.List.{prefix_len}
use Rattle.std.specs.Fmt.{signed_decimal}
use Rattle.std.proofs.lemmas.Bool.Decides.{nat_tests}
use Rattle.pc_word.specs.declared.item.OpCode.{OpCode}
use Rattle.pc_word.specs.declared.item.OpCode.TheVariants.{Add, Sub, Mul, Div, Rem, Shl, Shr, And, Or, Xor, Less, LessEq, Equal}
use Rattle.pc_word.specs.declared.item.OpCode.TheVariants.{Unequal, Below}
use Rattle.pc_word.specs.declared.item.Operand.{Operand}
use Rattle.pc_word.specs.declared.item.Operand.TheVariants.{Name, Lit}
use Rattle.pc_word.specs.declared.item.Item.{Item}
use Rattle.pc_word.specs.declared.item.Item.TheVariants.{Bin, Copy, Load, Store, Print, Read, More}
use Rattle.pc_word.specs.declared.item.TrapKind.TheVariants.{DivideByZero, OutOfBounds, EndOfInput}
use Rattle.pc_machine.specs.declared.tree.Leaf.{Leaf}
use Rattle.pc_machine.specs.declared.tree.Leaf.TheVariants.{Goto, Stop, Trap}
use Rattle.pc_view.specs.Words.{operator_words, operand_words, item_words, test_words, leaf_words}
use Rattle.pc_assembly.specs.declared.bytes.Class.TheVariants as class
use Rattle.pc_assembly.specs.declared.error.Expected.{Expected}
use Rattle.pc_assembly.specs.declared.error.Expected.TheVariants as expect
use Rattle.pc_assembly.specs.declared.part.Part.{Part}
use Rattle.pc_assembly.specs.declared.part.Part.TheVariants as part
use Rattle.pc_assembly.specs.Bytes.{is_in}
use Rattle.pc_assembly.specs.Words.{is_end, number_at}
use Rattle.pc_assembly.specs.Names.{Names}
use Rattle.pc_assembly.specs.Operands.{register_here, array_here, negative_here, positive_here, literal_here, operand_here}
use Rattle.pc_assembly.specs.Operands.{operand_at, operator_of, operator_here}
use Rattle.pc_assembly.specs.Items.{element_here, call_at, computed_on, computed_here, load_here, source_here, assignment_here}
use Rattle.pc_assembly.specs.Items.{store_here, print_at}
use Rattle.pc_assembly.specs.Parts.{most_number, test_at, numbered_row, target_here, goto_at, trap_kind_here, trap_at, leaf_here, item_part, part_here}
use Rattle.pc_assembly.specs.Laws.{OperandHasText, ItemHasText, LeafHasText, PartHasText, part_words}
use Rattle.pc_assembly.proofs.ReadNumbers.{Begins, decimal_begins, no_blanks, no_letters, number_read}

-- no digit stands at the beginning
abbrev pub NoDigit : List ℕ → Type 0
NoDigit bytes = prefix_len (is_in class.Digit) bytes ≡ 0

-- ---- registers and arrays

pub register_read : (n : ℕ) (rest : List ℕ) → n < 256 → NoDigit rest → register_here (codes "r" ++ (decimal n ++ rest)) ≡ Ok (n, rest)
unfolding register_here
register_read n rest small ends =
    let fits : n < 2 ^ 64 = omega (arith, small) in
    let most : n ≤ 255 = omega (arith, small) in
    rw (no_letters (decimal n) rest (decimal_begins n fits), number_read 255 n expect.Register rest most fits ends) refl

pub array_read : (n : ℕ) (rest : List ℕ) → n < 256 → NoDigit rest → array_here (codes "a" ++ (decimal n ++ rest)) ≡ Ok (n, rest)
unfolding array_here
array_read n rest small ends =
    let fits : n < 2 ^ 64 = omega (arith, small) in
    let most : n ≤ 255 = omega (arith, small) in
    rw (no_letters (decimal n) rest (decimal_begins n fits), number_read 255 n expect.Array rest most fits ends) refl

-- ---- literals

-- what begins with a digit is no negative literal
begins_positive : (expected : Expected) (bytes rest : List ℕ) → Begins bytes
    → literal_here expected (bytes ++ rest) ≡ positive_here expected (bytes ++ rest)
unfolding literal_here
begins_positive expected [] rest h = absurd h
begins_positive expected (byte ∷ bytes) rest h =
    let other : (byte == 45) ≡ false = grind (arith, nat_tests, h.0) in
    rw other refl

pub literal_read : (expected : Expected) (value : ℤ) (rest : List ℕ) → FitsSigned w32 value → NoDigit rest
    → literal_here expected (signed_decimal value ++ rest) ≡ Ok (value, rest)
unfolding literal_here negative_here positive_here
literal_read expected (pos n) rest h ends =
    let small : n < 2 ^ 31 = h.sfits in
    let fits : n < 2 ^ 64 = omega (arith, small) in
    let most : n ≤ 2147483647 = omega (arith, small) in
    begins_positive expected (decimal n) rest (decimal_begins n fits) ∙ rw (number_read 2147483647 n expected rest most fits ends) refl
literal_read expected (negsuc n) rest h ends =
    let small : n < 2 ^ 31 = h.sfits in
    let fits : suc n < 2 ^ 64 = omega (arith, small) in
    let most : suc n ≤ 2147483648 = omega (arith, small) in
    rw (number_read 2147483648 (suc n) expected rest most fits ends) refl

-- a literal begins with no blank and no letter
pub literal_front : (value : ℤ) (rest : List ℕ) → FitsSigned w32 value
    → (prefix_len (is_in class.Blank) (signed_decimal value ++ rest) ≡ 0)
    × (prefix_len (is_in class.Letter) (signed_decimal value ++ rest) ≡ 0)
literal_front (pos n) rest h =
    let small : n < 2 ^ 31 = h.sfits in
    let fits : n < 2 ^ 64 = omega (arith, small) in
    (no_blanks (decimal n) rest (decimal_begins n fits), no_letters (decimal n) rest (decimal_begins n fits))
literal_front (negsuc n) rest h = (refl, refl)

-- ---- operands

pub operand_read : (operand : Operand) (rest : List ℕ) → OperandHasText operand → NoDigit rest
    → operand_here (operand_words operand ++ rest) ≡ Ok (operand, rest)
unfolding operand_here
operand_read (Name register) rest h ends =
    let fits : register < 2 ^ 64 = omega (arith, h.0) in
    rw (no_letters (decimal register) rest (decimal_begins register fits), register_read register rest h.0 ends) refl
operand_read (Lit value) rest h ends =
    rw ((literal_front value rest h.1).1, literal_read expect.Operand value rest h.1 ends) refl

-- no blank stands before it
pub operand_unblank : (operand : Operand) (rest : List ℕ) → OperandHasText operand
    → prefix_len (is_in class.Blank) (operand_words operand ++ rest) ≡ 0
operand_unblank (Name register) rest h = refl
operand_unblank (Lit value) rest h = (literal_front value rest h.1).0

-- ---- operators

-- the signs that stand in front of a blank
pub operator_read : (op : OpCode) (rest : List ℕ) → operator_here (operator_words op ++ (codes " " ++ rest)) ≡ Ok (op, codes " " ++ rest)
unfolding operator_here operator_of
operator_read Add rest = refl
operator_read Sub rest = refl
operator_read Mul rest = refl
operator_read Div rest = refl
operator_read Rem rest = refl
operator_read Shl rest = refl
operator_read Shr rest = refl
operator_read And rest = refl
operator_read Or rest = refl
operator_read Xor rest = refl
operator_read Less rest = refl
operator_read LessEq rest = refl
operator_read Equal rest = refl
operator_read Unequal rest = refl
operator_read Below rest = refl

-- nor a blank stands before one, and no line ends there
operator_unblank : (op : OpCode) (rest : List ℕ) → prefix_len (is_in class.Blank) (operator_words op ++ (codes " " ++ rest)) ≡ 0
operator_unblank Add rest = refl
operator_unblank Sub rest = refl
operator_unblank Mul rest = refl
operator_unblank Div rest = refl
operator_unblank Rem rest = refl
operator_unblank Shl rest = refl
operator_unblank Shr rest = refl
operator_unblank And rest = refl
operator_unblank Or rest = refl
operator_unblank Xor rest = refl
operator_unblank Less rest = refl
operator_unblank LessEq rest = refl
operator_unblank Equal rest = refl
operator_unblank Unequal rest = refl
operator_unblank Below rest = refl

operator_goes_on : (op : OpCode) (rest : List ℕ) → is_end (operator_words op ++ (codes " " ++ rest)) ≡ false
operator_goes_on Add rest = refl
operator_goes_on Sub rest = refl
operator_goes_on Mul rest = refl
operator_goes_on Div rest = refl
operator_goes_on Rem rest = refl
operator_goes_on Shl rest = refl
operator_goes_on Shr rest = refl
operator_goes_on And rest = refl
operator_goes_on Or rest = refl
operator_goes_on Xor rest = refl
operator_goes_on Less rest = refl
operator_goes_on LessEq rest = refl
operator_goes_on Equal rest = refl
operator_goes_on Unequal rest = refl
operator_goes_on Below rest = refl

-- ---- items

-- an operand after a blank
operand_behind_blank : (operand : Operand) (rest : List ℕ) → OperandHasText operand → NoDigit rest
    → operand_at (codes " " ++ (operand_words operand ++ rest)) ≡ Ok (operand, rest)
operand_behind_blank operand rest h ends = rw (operand_unblank operand rest h, operand_read operand rest h ends) refl

-- the same right here
operand_right_here : (operand : Operand) (rest : List ℕ) → OperandHasText operand → NoDigit rest
    → operand_at (operand_words operand ++ rest) ≡ Ok (operand, rest)
operand_right_here operand rest h ends = rw (operand_unblank operand rest h, operand_read operand rest h ends) refl

-- and at the end of a line
last_operand : (operand : Operand) → OperandHasText operand → operand_at (codes " " ++ operand_words operand) ≡ Ok (operand, [])
last_operand operand h = subst (λ bytes. operand_at (codes " " ++ bytes) ≡ Ok (operand, [])) (append-nil (operand_words operand))
    (operand_behind_blank operand [] h refl)

-- an element
element_read : (array : ℕ) (index : Operand) (rest : List ℕ) → array < 256 → OperandHasText index
    → element_here (codes "a" ++ (decimal array ++ (codes "[" ++ (operand_words index ++ (codes "]" ++ rest))))) ≡ Ok (array, index, rest)
unfolding element_here
element_read array index rest small h =
    rw (
      array_read array (codes "[" ++ (operand_words index ++ (codes "]" ++ rest))) small refl,
      operand_right_here index (codes "]" ++ rest) h refl,
    ) refl

-- what an operator gives
computed_binary : (op : OpCode) (dest : ℕ) (left right : Operand) → OperandHasText left → OperandHasText right
    → computed_here dest (operand_words left ++ (codes " " ++ (operator_words op ++ (codes " " ++ operand_words right))))
    ≡ Ok (Bin op dest left right, [])
unfolding computed_here computed_on
computed_binary op dest left right p q =
    let behind = codes " " ++ operand_words right in
    rw (
      operand_read left (codes " " ++ (operator_words op ++ behind)) p refl,
      operator_unblank op (operand_words right),
      operator_goes_on op (operand_words right),
      operator_read op (operand_words right),
      last_operand right q,
    ) refl

-- a copy
computed_copy : (dest : ℕ) (from : Operand) → OperandHasText from → computed_here dest (operand_words from ++ []) ≡ Ok (Copy dest from, [])
unfolding computed_here computed_on
computed_copy dest from h = rw (operand_read from [] h refl) refl

-- what begins with an operand is computed
source_computed : (dest : ℕ) (operand : Operand) (rest : List ℕ) → OperandHasText operand
    → source_here dest (operand_words operand ++ rest) ≡ computed_here dest (operand_words operand ++ rest)
unfolding source_here
source_computed dest (Name register) rest h =
    let fits : register < 2 ^ 64 = omega (arith, h.0) in
    rw (no_letters (decimal register) rest (decimal_begins register fits)) refl
source_computed dest (Lit value) rest h = rw ((literal_front value rest h.1).1) refl

-- an item that writes a register, by what stands behind its mark
assigned : (dest : ℕ) (source : List ℕ) → dest < 256 → prefix_len (is_in class.Blank) source ≡ 0
    → assignment_here (codes "r" ++ (decimal dest ++ (codes " = " ++ source))) ≡ source_here dest source
unfolding assignment_here
assigned dest source small h = rw (register_read dest (codes " = " ++ source) small refl, h) refl

part_assigned : (names : Names) (dest : ℕ) (source : List ℕ) → dest < 256 → prefix_len (is_in class.Blank) source ≡ 0
    → part_here names (codes "r" ++ (decimal dest ++ (codes " = " ++ source))) ≡ item_part (source_here dest source)
unfolding part_here
part_assigned names dest source small h =
    let fits : dest < 2 ^ 64 = omega (arith, small) in
    let is = assigned dest source small h in
    rw (no_letters (decimal dest) (codes " = " ++ source) (decimal_begins dest fits), is) refl

-- a store
stored : (array : ℕ) (index value : Operand) → array < 256 → OperandHasText index → OperandHasText value
    → store_here (codes "a" ++ (decimal array ++ (codes "[" ++ (operand_words index ++ (codes "] = " ++ operand_words value)))))
    ≡ Ok (Store array index value, [])
unfolding store_here
stored array index value small p q =
    rw (element_read array index (codes " = " ++ operand_words value) small p, last_operand value q) refl

part_stored : (names : Names) (array : ℕ) (rest : List ℕ) → array < 256
    → part_here names (codes "a" ++ (decimal array ++ rest)) ≡ item_part (store_here (codes "a" ++ (decimal array ++ rest)))
unfolding part_here
part_stored names array rest small =
    let fits : array < 2 ^ 64 = omega (arith, small) in
    rw (no_letters (decimal array) rest (decimal_begins array fits)) refl

-- a load
loaded : (dest array : ℕ) (index : Operand) → array < 256 → OperandHasText index
    → source_here dest (codes "a" ++ (decimal array ++ (codes "[" ++ (operand_words index ++ codes "]")))) ≡ Ok (Load dest array index, [])
unfolding source_here load_here
loaded dest array index small h =
    let fits : array < 2 ^ 64 = omega (arith, small) in
    rw (
      no_letters (decimal array) (codes "[" ++ (operand_words index ++ codes "]"))
          (decimal_begins array fits),
      element_read array index [] small h,
    ) refl

-- an item that is printed
pub item_read : (names : Names) (item : Item) → ItemHasText item → part_here names (item_words operator_words item) ≡ Ok (part.Item item, [])
unfolding part_here print_at source_here call_at
item_read names (Bin op dest left right) h =
    let p : OperandHasText left = (h.0.1, h.1.0) in
    let q : OperandHasText right = (h.0.2, h.1.1) in
    let behind = codes " " ++ (operator_words op ++ (codes " " ++ operand_words right)) in
    part_assigned names dest (operand_words left ++ behind) h.0.0 (operand_unblank left behind p)
    ∙ ap item_part (source_computed dest left behind p ∙ computed_binary op dest left right p q)
item_read names (Copy dest from) h =
    let p : OperandHasText from = (h.0.1, h.1) in
    subst (λ bytes. part_here names (codes "r" ++ (decimal dest ++ (codes " = " ++ bytes))) ≡ Ok (part.Item (Copy dest from), []))
    (append-nil (operand_words from))
    (part_assigned names dest (operand_words from ++ []) h.0.0 (operand_unblank from [] p)
    ∙ ap item_part (source_computed dest from [] p ∙ computed_copy dest from p))
item_read names (Load dest array index) h =
    let p : OperandHasText index = (h.0.2, h.1) in
    part_assigned names dest (codes "a" ++ (decimal array ++ (codes "[" ++ (operand_words index ++ codes "]")))) h.0.0 refl
    ∙ ap item_part (loaded dest array index h.0.1 p)
item_read names (Store array index value) h =
    let p : OperandHasText index = (h.0.1, h.1.0) in
    let q : OperandHasText value = (h.0.2, h.1.1) in
    part_stored names array (codes "[" ++ (operand_words index ++ (codes "] = " ++ operand_words value))) h.0.0
    ∙ ap item_part (stored array index value h.0.0 p q)
item_read names (Print value) h = rw (operand_right_here value (codes ")") h refl) refl
item_read names (Read dest) h = part_assigned names dest (codes "read()") h.0 refl
item_read names (More dest) h = part_assigned names dest (codes "more()") h.0 refl

-- ---- tests and leaves

-- a test that is printed
pub test_read : (names : Names) (on : Operand) → OperandHasText on → part_here names (test_words on) ≡ Ok (part.Test on, [])
unfolding part_here test_at
test_read names on h = rw (last_operand on h) refl

-- a number after a blank, at the end of a line
pub last_number : (n : ℕ) (expected : Expected) → n < 2 ^ 32 → number_at most_number expected (codes " " ++ decimal n) ≡ Ok (n, [])
last_number n expected small =
    let fits : n < 2 ^ 64 = omega (arith, small) in
    let most : n ≤ 4294967295 = omega (arith, small) in
    let is : number_at most_number expected (codes " " ++ (decimal n ++ [])) ≡ Ok (n, []) =
    rw (no_blanks (decimal n) [] (decimal_begins n fits), number_read 4294967295 n expected [] most fits refl) refl in
    subst (λ bytes. number_at most_number expected (codes " " ++ bytes) ≡ Ok (n, [])) (append-nil (decimal n)) is

-- a leaf that is printed
pub leaf_read : (names : Names) (leaf : Leaf) → LeafHasText leaf → part_here names (leaf_words leaf) ≡ Ok (part.Leaf leaf, [])
unfolding part_here leaf_here goto_at target_here numbered_row trap_at trap_kind_here
leaf_read names (Goto row) h = rw (last_number row expect.Number h.0) refl
leaf_read names Stop h = refl
leaf_read names (Trap DivideByZero line) h = rw (last_number line expect.Number h.1) refl
leaf_read names (Trap OutOfBounds line) h = rw (last_number line expect.Number h.1) refl
leaf_read names (Trap EndOfInput line) h = rw (last_number line expect.Number h.1) refl

-- each part
pub part_read : (names : Names) (part : Part) → PartHasText part → part_here names (part_words part) ≡ Ok (part, [])
part_read names (part.Item item) h = item_read names item h
part_read names (part.Test on) h = test_read names on h
part_read names (part.Leaf leaf) h = leaf_read names leaf h
