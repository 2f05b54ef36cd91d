-- The lines of the code's table of options.
use Rattle.pc_command.specs.Options.{NumberOption, number_option}
use Rattle.pc_command.specs.declared.number_option.OptionLine.{OptionLine}

-- what a line of the code's table says
abbrev pub option_of : OptionLine → NumberOption
option_of line = number_option line.name.now line.least line.greatest line.default
