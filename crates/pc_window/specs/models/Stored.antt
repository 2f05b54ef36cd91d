-- What is said on the way to a window in memory.
use Rattle.std.specs.Prelude.{if◌then◌else◌, nat_lt, ℕ, zero, suc, pos, List, [], ◌∷◌, ◌++◌}
use Rattle.pc_word.specs.declared.item.Operand.{Operand}
use Rattle.pc_word.specs.declared.item.Operand.TheVariants.{Name, Lit}
use Rattle.pc_linear.specs.Form.{Form}
use Rattle.pc_linear.specs.Combine.{variable_form}
use Rattle.pc_window.specs.declared.bring.Brought.{Brought as StoredBrought}
use Rattle.pc_window.specs.declared.bring.Brought.TheVariants as brings
use Rattle.pc_window.specs.Opening.{Brought, Moves_home, Gets_name, Stays_plain}

-- what becomes of an item, as it lies in memory
abbrev pub brought_in : StoredBrought → Brought
brought_in (brings.MovesHome variable from) = Moves_home variable from
brought_in (brings.GetsName variable item form) = Gets_name variable item form
brought_in (brings.StaysPlain item) = Stays_plain item

-- the forms of the first variables, each a form variable alone
abbrev pub variable_forms : ℕ → List Form
variable_forms zero = []
variable_forms (suc n) = variable_forms n ++ variable_form n ∷ []

-- the homes of the first variables, each a name alone
abbrev pub homes_before : ℕ → ℕ → Operand
homes_before n variable = if nat_lt variable n then Name variable else Lit (pos 0)
