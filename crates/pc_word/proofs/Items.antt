-- What an item does by itself and reads, and operators by their numbers.
use Rattle.std.proofs.Common.{◌≡◌, ℕ, Bool, true, false, ◌||◌, List, [], ◌∷◌, Option, Some, None, refl, sym, ap, ◌∙◌}
use Rattle.std.specs.Prelude.{ℤ, slice_get, slice_index}
use Rattle.std.specs.List.{list_any}
use Rattle.pc_word.specs.declared.item.Item.{Item}
use Rattle.pc_word.specs.declared.item.Item.TheVariants.{Bin, Copy, Load, Store, Print, Read, More}
use Rattle.pc_word.specs.declared.item.OpCode.{OpCode}
use Rattle.pc_word.specs.declared.item.OpCode.TheVariants.{Add, Sub, Mul, Div, Rem, Shl, Shr, And, Or, Xor, Less, LessEq, Equal, Unequal, Below}
use Rattle.pc_word.specs.declared.item.Operand.{Operand}
use Rattle.pc_word.specs.State.{State}
use Rattle.pc_word.specs.Items.{operand_value, place_in, op_number, operands_of, reads_name, reads}
use Rattle.pc_word.specs.Row.{item_step}
use Rattle.pc_word.specs.Laws.{does_alone, stores_alone, reads_alone}

-- a store, by the place that its index names
item_step-store : {L : Type 0} (lengths : List ℕ) (array : ℕ) (index value : Operand) (leaf : L) (s : State) (place : Option ℕ)
    → place_in (slice_index lengths array) (operand_value s.names index) ≡ place
    → item_step lengths (Store array index value) leaf s ≡ stores_alone array place (operand_value s.names value) leaf s
item_step-store lengths array index value leaf s (Some place) e = simp e
item_step-store lengths array index value leaf s None e = simp e

-- a read, by the input that is left
item_step-read : {L : Type 0} (lengths : List ℕ) (dest : ℕ) (leaf : L) (names : ℕ → ℤ) (cells : ℕ → ℕ → ℤ) (input : List ℤ)
    → item_step lengths (Read dest) leaf (record { names = names; cells = cells; input = input })
    ≡ reads_alone dest input leaf (record { names = names; cells = cells; input = input })
item_step-read lengths dest leaf names cells [] = refl
item_step-read lengths dest leaf names cells (word ∷ words) = refl

-- an item by itself does what its kind says
pub item_step-is : {L : Type 0} (lengths : List ℕ) (item : Item) (leaf : L) (s : State) → item_step lengths item leaf s ≡ does_alone lengths item leaf s
item_step-is lengths (Bin op dest left right) leaf s = refl
item_step-is lengths (Copy dest from) leaf s = refl
item_step-is lengths (Load dest array index) leaf s = refl
item_step-is lengths (Store array index value) leaf s =
    item_step-store lengths array index value leaf s (place_in (slice_index lengths array) (operand_value s.names index)) refl
item_step-is lengths (Print value) leaf s = refl
item_step-is lengths (Read dest) leaf s = item_step-read lengths dest leaf s.names s.cells s.input
item_step-is lengths (More dest) leaf s = refl

-- ---- the names that an item reads

nothing_more : (b : Bool) → b ≡ (b || false)
nothing_more true = refl
nothing_more false = refl

-- they are those of its operands
pub reads_operands : (item : Item) (x : ℕ) → reads item x ≡ list_any (λ o. reads_name o x) (operands_of item)
reads_operands (Bin op dest left right) x = ap (λ b. reads_name left x || b) (nothing_more (reads_name right x))
reads_operands (Copy dest from) x = nothing_more (reads_name from x)
reads_operands (Load dest array index) x = nothing_more (reads_name index x)
reads_operands (Store array index value) x = ap (λ b. reads_name index x || b) (nothing_more (reads_name value x))
reads_operands (Print value) x = nothing_more (reads_name value x)
reads_operands (Read dest) x = refl
reads_operands (More dest) x = refl

-- ---- operators

abbrev operators : List OpCode
operators = Add ∷ Sub ∷ Mul ∷ Div ∷ Rem ∷ Shl ∷ Shr ∷ And ∷ Or ∷ Xor ∷ Less ∷ LessEq ∷ Equal ∷ Unequal ∷ Below ∷ []

operator_at : (op : OpCode) → slice_get operators (op_number op) ≡ Some op
operator_at Add = refl
operator_at Sub = refl
operator_at Mul = refl
operator_at Div = refl
operator_at Rem = refl
operator_at Shl = refl
operator_at Shr = refl
operator_at And = refl
operator_at Or = refl
operator_at Xor = refl
operator_at Less = refl
operator_at LessEq = refl
operator_at Equal = refl
operator_at Unequal = refl
operator_at Below = refl

-- an operator is known by its number
pub same_operator : (one other : OpCode) → op_number one ≡ op_number other → one ≡ other
same_operator one other e =
    let both : Some one ≡ Some other = sym (operator_at one) ∙ ap (slice_get operators) e ∙ operator_at other in
    (cc)
