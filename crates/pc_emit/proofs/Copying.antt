-- Rows of copies keep the limits, and are not long.
use Rattle.std.proofs.Common.{◌≡◌, inl, inr, ℕ, ◌+◌, ◌*◌, ◌<◌, ◌≤◌, Bool, true, List, [], ◌∷◌, length, map, refl, sym, ◌∙◌, ap, subst, arith}
use Rattle.std.specs.List.{AllByRecursion, count_by}
use Rattle.std.proofs.lemmas.List.{length-append, length-map}
use Rattle.pc_word.specs.declared.item.Item.{Item}
use Rattle.pc_word.specs.declared.item.Operand.{Operand}
use Rattle.pc_word.specs.declared.item.Operand.TheVariants.{Name, Lit}
use Rattle.pc_word.specs.declared.item.Limits.{Limits}
use Rattle.pc_word.specs.Items.{is_effect, is_memory}
use Rattle.pc_word.specs.Row.{items_of, tests_of, leaves_of, paths_of}
use Rattle.pc_word.proofs.Lists.{count_more}
use Rattle.pc_machine.specs.declared.tree.Leaf.{Leaf}
use Rattle.pc_machine.specs.WellFormed.{IsOperand, IsItem, IsLeaf, IsPath, IsRow}
use Rattle.pc_object.specs.ObjectText.{operand_text, item_text, leaf_text, row_text}
use Rattle.pc_copies.specs.declared.moves.Move.{Move}
use Rattle.pc_copies.specs.Moves.{copy_of, IsRegister, IsReadable, IsCopy, IsCopyRow}
use Rattle.pc_copies.specs.Laws.{copy_row}

-- ---- what a row of copies has

copies_are : (copies : List Move) (leaf : Leaf) → items_of (copy_row copies leaf) ≡ map copy_of copies
copies_are [] leaf = refl
copies_are (copy ∷ copies) leaf = ap (λ (l : List Item). copy_of copy ∷ l) (copies_are copies leaf)

no_tests : (copies : List Move) (leaf : Leaf) → tests_of (copy_row copies leaf) ≡ []
no_tests [] leaf = refl
no_tests (copy ∷ copies) leaf = no_tests copies leaf

pub one_leaf : (copies : List Move) (leaf : Leaf) → leaves_of (copy_row copies leaf) ≡ leaf ∷ []
one_leaf [] leaf = refl
one_leaf (copy ∷ copies) leaf = one_leaf copies leaf

one_path : (copies : List Move) (leaf : Leaf) → paths_of (copy_row copies leaf) ≡ map copy_of copies ∷ []
one_path [] leaf = refl
one_path (copy ∷ copies) leaf = ap (λ (l : List (List Item)). map (λ path. copy_of copy ∷ path) l) (one_path copies leaf)

no_memory : (copies : List Move) → count_by is_memory (map copy_of copies) ≡ 0
no_memory [] = refl
no_memory (copy ∷ copies) = let one = count_more is_memory (copy_of copy) (map copy_of copies) in let rest = no_memory copies in omega (arith, one, rest)

no_effect : (copies : List Move) → count_by is_effect (map copy_of copies) ≡ 0
no_effect [] = refl
no_effect (copy ∷ copies) = let one = count_more is_effect (copy_of copy) (map copy_of copies) in let rest = no_effect copies in omega (arith, one, rest)

-- ---- it keeps the limits

-- where all registers that the moves name are below so many, and scratch is, those of the copies are
module _ (registers : ℕ) (named : ℕ → Bool) (scratch : ℕ) (below : (register : ℕ) → named register ≡ true → register < registers) (left : scratch < registers) where
  register_fits : (register : ℕ) → IsRegister named scratch register → register < registers
  register_fits register is = elim is [ inl one ↦ below register one | inr same ↦ omega (arith, same, left) ]

  operand_fits : (operand : Operand) → IsReadable named scratch operand → IsOperand registers operand
  operand_fits (Name register) is = register_fits register is
  operand_fits (Lit value) is = tt

  items_fit : (arrays : ℕ) (copies : List Move) → AllByRecursion (IsCopy named scratch) copies → AllByRecursion (IsItem registers arrays) (map copy_of copies)
  items_fit arrays [] all = tt
  items_fit arrays (copy ∷ copies) all = ((register_fits copy.dest all.0.dest, operand_fits copy.from all.0.from), items_fit arrays copies all.1)

  pub copies_fit : (limits : Limits) (arrays rows : ℕ) (copies : List Move) (leaf : Leaf) → IsCopyRow named limits.ops scratch copies → IsLeaf rows leaf
      → IsRow limits registers arrays rows (copy_row copies leaf)
  copies_fit limits arrays rows copies leaf row leads = record {
    ops =
        let few = row.few in
        let many = length-map copies copy_of in
        let are = ap (λ (l : List Item). length l) (copies_are copies leaf) in
        omega (arith, few, many, are);
    tests = let none = ap (λ (l : List Operand). length l) (no_tests copies leaf) in omega (arith, none);
    mem = let none = ap (count_by is_memory) (copies_are copies leaf) ∙ no_memory copies in omega (arith, none);
    items = subst (AllByRecursion (IsItem registers arrays)) (sym (copies_are copies leaf)) (items_fit arrays copies row.copies);
    operands = subst (AllByRecursion (IsOperand registers)) (sym (no_tests copies leaf)) tt;
    leaves = subst (AllByRecursion (IsLeaf rows)) (sym (one_leaf copies leaf)) (leads, tt);
    paths = subst (AllByRecursion IsPath) (sym (one_path copies leaf))
        (record { writes_once = row.once; one_effect = let none = no_effect copies in omega (arith, none) }, tt);
  }

-- ---- it is short

operand_short : (operand : Operand) → length (operand_text operand) ≤ 5
operand_short (Name register) = omega arith
operand_short (Lit value) = omega arith

-- at most twelve bytes a copy, where it has one, and its leaf is no trap
pub copies_short : (copies : List Move) (leaf : Leaf) → 1 ≤ length copies → length (leaf_text leaf) ≤ 5 → length (row_text (copy_row copies leaf)) ≤ 12 * length copies
copies_short copies leaf some short = let each = seven copies in omega (arith, each, some, short)
  where
    seven : (copies : List Move) → length (row_text (copy_row copies leaf)) ≤ 7 * length copies + length (leaf_text leaf)
    seven [] = omega arith
    seven (copy ∷ copies) =
        let rest = seven copies in
        let one = operand_short copy.from in
        let both = length-append (item_text (copy_of copy)) (row_text (copy_row copies leaf)) in
        omega (arith, rest, one, both)
