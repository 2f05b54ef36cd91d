-- The rows of a well-formed code write none but the registers that a machine may have.
use Rattle.std.proofs.Common.{ℕ, ◌≤◌, length, inl, inr, arith}
use Rattle.std.specs.List.{AllByRecursion}
use Rattle.pc_word.specs.declared.item.Item.{Item}
use Rattle.pc_word.specs.declared.item.Item.TheVariants.{Bin, Copy, Load, Store, Print, Read, More}
use Rattle.pc_word.specs.Row.{Then, Either, At_leaf, items_of}
use Rattle.pc_word.proofs.Lists.{all_front, all_back, all_imply}
use Rattle.pc_machine.specs.MachineCode.{CodeRow}
use Rattle.pc_machine.specs.Registers.{most_registers, IsRegisterCount}
use Rattle.pc_machine.specs.WellFormed.{IsItem, IsRow}
use Rattle.pc_renaming.specs.Writes.{ItemWritesBelow, RowWritesBelow}
use Rattle.pc_renaming.specs.Laws.{FormKeepsRegisters}
use Rattle.pc_renaming.proofs.Choices.{one_dest}

few_or_most : (registers : ℕ) → IsRegisterCount registers → registers ≤ most_registers
few_or_most registers (inl few) = omega (arith, few)
few_or_most registers (inr most) = omega (arith, most)

item_within : (registers arrays : ℕ) → registers ≤ most_registers → (x : Item) → IsItem registers arrays x → ItemWritesBelow most_registers x
item_within registers arrays most (Bin op made left right) there dest is = let below = there.0 in let same = one_dest is in omega (arith, below, same, most)
item_within registers arrays most (Copy made from) there dest is = let below = there.0 in let same = one_dest is in omega (arith, below, same, most)
item_within registers arrays most (Load made array index) there dest is = let below = there.0 in let same = one_dest is in omega (arith, below, same, most)
item_within registers arrays most (Store array index value) there dest is = absurd (cc)
item_within registers arrays most (Print value) there dest is = absurd (cc)
item_within registers arrays most (Read made) there dest is = let same = one_dest is in omega (arith, there, same, most)
item_within registers arrays most (More made) there dest is = let same = one_dest is in omega (arith, there, same, most)

row_within : (registers arrays : ℕ) → registers ≤ most_registers → (row : CodeRow) → AllByRecursion (IsItem registers arrays) (items_of row) → RowWritesBelow most_registers row
row_within registers arrays most (Then x row) all = (item_within registers arrays most x all.0, row_within registers arrays most row all.1)
row_within registers arrays most (Either on row other) all = (
  row_within registers arrays most row (all_front (IsItem registers arrays) (items_of row) (items_of other) all),
  row_within registers arrays most other (all_back (IsItem registers arrays) (items_of row) (items_of other) all),
)
row_within registers arrays most (At_leaf leaf) all = tt

pub form_keeps_registers : FormKeepsRegisters
form_keeps_registers code well =
    let most = few_or_most code.registers well.registers in (
      most,
      all_imply (IsRow code.limits code.registers (length code.arrays) (length code.rows)) (RowWritesBelow most_registers) code.rows
          (λ row is. row_within code.registers (length code.arrays) most row is.items) well.rows,
    )
