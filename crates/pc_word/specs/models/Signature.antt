-- What an item is but for the name that it writes.
use Rattle.std.specs.Prelude.{ℕ, pos}
use Rattle.pc_word.specs.declared.item.Item.{Item}
use Rattle.pc_word.specs.declared.item.Item.TheVariants.{Bin, Copy, Load, Store, Print, Read, More}
use Rattle.pc_word.specs.declared.item.OpCode.TheVariants.{Add}
use Rattle.pc_word.specs.declared.item.Operand.{Operand}
use Rattle.pc_word.specs.declared.item.Operand.TheVariants.{Lit}
use Rattle.pc_word.specs.declared.alike.Signature.{Signature}

-- of an item that has no operator: the parts that it has, and the same for all others
abbrev pub without_operator : (kind array : ℕ) → (one other : Operand) → Signature
without_operator kind array one other = record { kind = kind; op = Add; array = array; one = one; other = other }

-- of each item
abbrev pub signature_of : Item → Signature
signature_of (Bin op dest left right) = record { kind = 0; op = op; array = 0; one = left; other = right }
signature_of (Copy dest from) = without_operator 1 0 from (Lit (pos 0))
signature_of (Load dest array index) = without_operator 2 array index (Lit (pos 0))
signature_of (Store array index value) = without_operator 3 array index value
signature_of (Print value) = without_operator 4 0 value (Lit (pos 0))
signature_of (Read dest) = without_operator 5 0 (Lit (pos 0)) (Lit (pos 0))
signature_of (More dest) = without_operator 6 0 (Lit (pos 0)) (Lit (pos 0))
