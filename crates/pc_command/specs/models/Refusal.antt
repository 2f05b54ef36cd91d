-- How the code answers an error of `clap`.
use Rattle.clap.specs.declared.error.kind.ErrorKind.{ErrorKind}
use Rattle.clap.specs.declared.error.kind.ErrorKind.TheVariants as kind
use Rattle.pc_command.specs.declared.error.CommandError.{CommandError}
use Rattle.pc_command.specs.declared.error.CommandError.TheVariants.{NoCommand, Memory}

-- want of memory, or words that are no command
abbrev pub refusal_for : ErrorKind → CommandError
refusal_for kind.OutOfMemory = Memory
refusal_for _ = NoCommand
