-- What the refusals of a step are to a program that runs an object. Want of memory stays want of memory.
use Rattle.std.specs.Prelude.{Option, Some, None}
use Rattle.pc_word.specs.declared.number_text.NumbersError.{NumbersError}
use Rattle.pc_word.specs.declared.number_text.NumbersError.TheVariants as numbers
use Rattle.pc_object.specs.declared.refusal.ObjectError.{ObjectError}
use Rattle.pc_outside.specs.declared.error.TakeError.{TakeError}
use Rattle.pc_outside.specs.declared.error.TakeError.TheVariants as take
use Rattle.pc_report.specs.declared.fault.ObjectFault.{ObjectFault}
use Rattle.pc_report.specs.declared.fault.ObjectFault.TheVariants as object
use Rattle.pc_report.specs.declared.fault.InputFault.TheVariants as input
use Rattle.pc_driver.specs.Objects.{told_of_object}
use Rattle.pc_driver.specs.declared.file.FileError.{FileError}
use Rattle.pc_driver.specs.declared.file.FileError.TheVariants as file
use Rattle.pc_driver.specs.declared.stop.Stop.{Stop}
use Rattle.pc_driver.specs.declared.stop.Stop.TheVariants as stop

-- the stop at an object with a fault, if it has one, and else want of memory
abbrev pub stop_at : Option ObjectFault → Stop
stop_at (Some fault) = stop.Object fault
stop_at None = stop.Memory

-- a refusal of a file
abbrev pub stop_of_file : FileError → Stop
stop_of_file file.Failed = stop.ReadObject
stop_of_file file.TooLong = stop.Object object.TooLong
stop_of_file file.Memory = stop.Memory

-- a refusal of the loader
abbrev pub stop_of_object : ObjectError → Stop
stop_of_object error = stop_at (told_of_object error)

-- a refusal of the input
abbrev pub stop_of_take : TakeError → Stop
stop_of_take take.Failed = stop.ReadInput
stop_of_take take.Memory = stop.Memory

-- a refusal of the reader of numbers
abbrev pub stop_of_numbers : NumbersError → Stop
stop_of_numbers (numbers.NotNumber offset) = stop.Input (input.NotNumber offset)
stop_of_numbers numbers.Memory = stop.Memory
