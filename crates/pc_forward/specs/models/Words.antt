-- Literals are words, and what nodes write.
use Rattle.std.specs.Prelude.{ℕ, Option, None}
use Rattle.pc_word.specs.declared.item.Item.{Item}
use Rattle.pc_word.specs.declared.item.Item.TheVariants.{Bin, Copy, Load, Store, Print, Read, More}
use Rattle.pc_word.specs.declared.item.Operand.{Operand}
use Rattle.pc_word.specs.declared.item.Operand.TheVariants.{Name, Lit}
use Rattle.pc_word.specs.Items.{dest_of}
use Rattle.pc_word.specs.Word.{IsWord}
use Rattle.pc_flow.specs.declared.node.FlowNode.{FlowNode}
use Rattle.pc_flow.specs.declared.node.FlowNode.TheVariants.{Op, Test, Stop, Trap}

-- a literal is a word
abbrev pub IsWordOperand : Operand → Type 0
IsWordOperand (Name x) = Unit {0}
IsWordOperand (Lit value) = IsWord value

-- so are those whose values an item gives to variables or elements
abbrev pub ItemTakesWords : Item → Type 0
ItemTakesWords (Bin op dest left right) = IsWordOperand left × IsWordOperand right
ItemTakesWords (Copy dest from) = IsWordOperand from
ItemTakesWords (Load dest array index) = IsWordOperand index
ItemTakesWords (Store array index value) = IsWordOperand index × IsWordOperand value
ItemTakesWords (Print value) = Unit {0}
ItemTakesWords (Read dest) = Unit {0}
ItemTakesWords (More dest) = Unit {0}

abbrev pub TakesWords : FlowNode → Type 0
TakesWords (Op item to) = ItemTakesWords item
TakesWords (Test on on_yes on_no turn) = Unit {0}
TakesWords Stop = Unit {0}
TakesWords (Trap kind line) = Unit {0}

-- the variable that a node writes
abbrev pub node_writes : FlowNode → Option ℕ
node_writes (Op item to) = dest_of item
node_writes (Test on on_yes on_no turn) = None
node_writes Stop = None
node_writes (Trap kind line) = None
