-- Which registers rows need. A row reads before it writes: what an item or a test of it reads stood there when the row began.
use Rattle.std.specs.Prelude.{ℕ, ◌≡◌, true, false, List, Some, slice_get}
use Rattle.pc_word.specs.declared.item.Item.{Item}
use Rattle.pc_word.specs.declared.item.Operand.{Operand}
use Rattle.pc_word.specs.Items.{dest_of, only_computes, reads, reads_name}
use Rattle.pc_word.specs.Commit.{writes}
use Rattle.pc_word.specs.Row.{Then, Either, At_leaf}
use Rattle.pc_machine.specs.declared.tree.Leaf.TheVariants.{Goto}
use Rattle.pc_machine.specs.MachineCode.{CodeRow}

mutual
  -- the row with this number needs a register when it begins: it reads it, or passes on what the register has
  pub data Needs (rows : List CodeRow) : (number register : ℕ) → Type 0 where
    To_read : {number register : ℕ} {row : CodeRow} →
        slice_get rows number ≡ Some row →
        Reads rows row register →
        Needs rows number register
    To_pass : {number register to : ℕ} {row : CodeRow} →
        slice_get rows number ≡ Some row →
        Passes rows row register to →
        Needs rows number register

  -- a path of a row, or of what is left of one, passes on what a register has to the row with the number `to`, which needs
  -- it: no item of the path writes it
  pub data Passes (rows : List CodeRow) : (row : CodeRow) → (register to : ℕ) → Type 0 where
    Past : {item : Item} {row : CodeRow} {register to : ℕ} →
        writes (dest_of item) register ≡ false →
        Passes rows row register to →
        Passes rows (Then item row) register to
    Yes_passes : {on : Operand} {on_yes on_no : CodeRow} {register to : ℕ} →
        Passes rows on_yes register to →
        Passes rows (Either on on_yes on_no) register to
    No_passes : {on : Operand} {on_yes on_no : CodeRow} {register to : ℕ} →
        Passes rows on_no register to →
        Passes rows (Either on on_yes on_no) register to
    By_goto : {register to : ℕ} →
        Needs rows to register →
        Passes rows (At_leaf (Goto to)) register to

  -- a row, or what is left of one, reads a register: by a test, or by an item that counts
  pub data Reads (rows : List CodeRow) : (row : CodeRow) → (register : ℕ) → Type 0 where
    By_item : {item : Item} {row : CodeRow} {register : ℕ} →
        reads item register ≡ true →
        Counts rows item row →
        Reads rows (Then item row) register
    Below : {item : Item} {row : CodeRow} {register : ℕ} →
        Reads rows row register →
        Reads rows (Then item row) register
    By_test : {on : Operand} {on_yes on_no : CodeRow} {register : ℕ} →
        reads_name on register ≡ true →
        Reads rows (Either on on_yes on_no) register
    Yes_reads : {on : Operand} {on_yes on_no : CodeRow} {register : ℕ} →
        Reads rows on_yes register →
        Reads rows (Either on on_yes on_no) register
    No_reads : {on : Operand} {on_yes on_no : CodeRow} {register : ℕ} →
        Reads rows on_no register →
        Reads rows (Either on on_yes on_no) register

  -- an item above what is left of a row counts: it does more than give its register a word, or that word is passed on
  pub data Counts (rows : List CodeRow) : (item : Item) → (row : CodeRow) → Type 0 where
    Does_more : {item : Item} {row : CodeRow} →
        only_computes item ≡ false →
        Counts rows item row
    Is_passed : {item : Item} {row : CodeRow} {dest to : ℕ} →
        dest_of item ≡ Some dest →
        Passes rows row dest to →
        Counts rows item row
