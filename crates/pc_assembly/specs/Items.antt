-- The reading of items, in the notation of listings.
use Rattle.std.specs.Prelude.{ℕ, if◌then◌else◌, List, Result, Ok}
use Rattle.pc_word.specs.declared.item.Item.{Item}
use Rattle.pc_word.specs.declared.item.Item.TheVariants.{Bin, Copy, Load, Store, Print, Read, More}
use Rattle.pc_word.specs.declared.item.Operand.{Operand}
use Rattle.pc_assembly.specs.declared.bytes.Class.TheVariants as class
use Rattle.pc_assembly.specs.declared.spelling.Word.TheVariants as word
use Rattle.pc_assembly.specs.declared.spelling.Mark.TheVariants as mark
use Rattle.pc_assembly.specs.declared.error.Complaint.{Complaint}
use Rattle.pc_assembly.specs.Bytes.{after_run}
use Rattle.pc_assembly.specs.Words.{◌>>=◌, unblank, is_next, is_end, mark_at}
use Rattle.pc_assembly.specs.Operands.{register_here, array_here, operand_here, operand_at, operator_here}

-- an element, `a0[r1]`: an array and its index
unfoldable pub element_here : List ℕ → Result (ℕ × Operand × List ℕ) Complaint
element_here bytes = do
  array ← array_here bytes
  bracket ← mark_at mark.OpenBracket array.1
  index ← operand_at bracket
  rest ← mark_at mark.CloseBracket index.1
  Ok (array.0, index.0, rest)

-- the `()` of `read()` and `more()`
unfoldable pub call_at : List ℕ → Result (List ℕ) Complaint
call_at bytes = do
  rest ← mark_at mark.OpenParenthesis bytes
  mark_at mark.CloseParenthesis rest

-- an operator and its right operand, after the left one
abbrev pub binary_here : ℕ → Operand → List ℕ → Result (Item × List ℕ) Complaint
binary_here dest left bytes = do
  op ← operator_here bytes
  right ← operand_at op.1
  Ok (Bin op.0 dest left right.0, right.1)

-- what a register is computed of, after the first operand: nothing more, or an operator and another operand
unfoldable pub computed_on : ℕ → Operand → List ℕ → Result (Item × List ℕ) Complaint
computed_on dest left bytes = if is_end bytes then Ok (Copy dest left, bytes) else binary_here dest left bytes

-- a copy, or an operator on two operands
unfoldable pub computed_here : ℕ → List ℕ → Result (Item × List ℕ) Complaint
computed_here dest bytes = do
  left ← operand_here bytes
  computed_on dest left.0 (unblank left.1)

-- a load
unfoldable pub load_here : ℕ → List ℕ → Result (Item × List ℕ) Complaint
load_here dest bytes = do
  element ← element_here bytes
  Ok (Load dest element.0 element.1, element.2)

-- an item that is written as a call, by the word that names it
abbrev pub called : Item → List ℕ → Result (Item × List ℕ) Complaint
called item bytes = do
  rest ← call_at (after_run class.Letter bytes)
  Ok (item, rest)

-- what a register is given
unfoldable pub source_here : ℕ → List ℕ → Result (Item × List ℕ) Complaint
source_here dest bytes =
    if is_next word.Read bytes then called (Read dest) bytes
    else (if is_next word.More bytes then called (More dest) bytes
    else (if is_next word.A bytes then load_here dest bytes
    else computed_here dest bytes))

-- an item that writes a register
unfoldable pub assignment_here : List ℕ → Result (Item × List ℕ) Complaint
assignment_here bytes = do
  dest ← register_here bytes
  rest ← mark_at mark.Equals dest.1
  source_here dest.0 (unblank rest)

-- a store
unfoldable pub store_here : List ℕ → Result (Item × List ℕ) Complaint
store_here bytes = do
  element ← element_here bytes
  rest ← mark_at mark.Equals element.2
  value ← operand_at rest
  Ok (Store element.0 element.1 value.0, value.1)

-- what stands after `print`
unfoldable pub print_at : List ℕ → Result (Item × List ℕ) Complaint
print_at bytes = do
  parenthesis ← mark_at mark.OpenParenthesis bytes
  value ← operand_at parenthesis
  rest ← mark_at mark.CloseParenthesis value.1
  Ok (Print value.0, rest)
