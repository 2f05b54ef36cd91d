-- How many registers rows need, and codes that have as many.
use Rattle.std.specs.Prelude.{ℕ, ℤ, Bool, true, ◌&&◌, if◌then◌else◌, nat_lt, List}
use Rattle.std.specs.List.{list_all}
use Rattle.pc_word.specs.declared.item.Item.{Item}
use Rattle.pc_word.specs.declared.item.Item.TheVariants.{Bin, Copy, Load, Store, Print, Read, More}
use Rattle.pc_word.specs.declared.item.Limits.{Limits}
use Rattle.pc_word.specs.declared.item.Operand.{Operand}
use Rattle.pc_word.specs.declared.item.Operand.TheVariants.{Name, Lit}
use Rattle.pc_word.specs.Row.{Then, Either, At_leaf}
use Rattle.pc_table.specs.Table.{Table}
use Rattle.pc_machine.specs.MachineCode.{CodeRow, RowCode}
use Rattle.pc_machine.specs.Registers.{few_registers, most_registers}

-- whether an operand names no other register than so many first ones
abbrev pub operand_below : ℕ → Operand → Bool
operand_below count (Name register) = nat_lt register count
operand_below count (Lit value) = true

-- whether an item does
abbrev pub item_below : ℕ → Item → Bool
item_below count (Bin op dest left right) = nat_lt dest count && (operand_below count left && operand_below count right)
item_below count (Copy dest from) = nat_lt dest count && operand_below count from
item_below count (Load dest array index) = nat_lt dest count && operand_below count index
item_below count (Store array index value) = operand_below count index && operand_below count value
item_below count (Print value) = operand_below count value
item_below count (Read dest) = nat_lt dest count
item_below count (More dest) = nat_lt dest count

-- whether a row does
abbrev pub row_below : ℕ → CodeRow → Bool
row_below count (Then item rest) = item_below count item && row_below count rest
row_below count (Either on on_yes on_no) = operand_below count on && (row_below count on_yes && row_below count on_no)
row_below count (At_leaf leaf) = true

-- the registers that rows need: the fewer, if they name no others
abbrev pub registers_for : List CodeRow → ℕ
registers_for rows = if list_all (row_below few_registers) rows then few_registers else most_registers

-- a code with as many registers as its rows need
abbrev pub fitted : RowCode → RowCode
fitted code = record code { registers = registers_for code.rows }

-- the code of rows that were emitted, over a table's arrays, which begin with these data
abbrev pub loose_code : Limits → Table → (initial : List (List ℤ)) → List CodeRow → RowCode
loose_code limits table initial rows =
    record { limits = limits; registers = most_registers; arrays = table.arrays; initial = initial; rows = rows }
