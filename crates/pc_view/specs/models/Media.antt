-- How operators are written by what an item is written for.
use Rattle.std.specs.Prelude.{ℕ, List}
use Rattle.pc_word.specs.declared.item.OpCode.{OpCode}
use Rattle.pc_view.specs.declared.words.Medium.{Medium}
use Rattle.pc_view.specs.declared.words.Medium.TheVariants.{Line, Field}
use Rattle.pc_view.specs.Words.{operator_words}
use Rattle.pc_view.specs.Graph.{field_operator}

-- plainly in a line, and with backslashes in a field
abbrev pub operator_in : Medium → OpCode → List ℕ
operator_in Line op = operator_words op
operator_in Field op = field_operator op
