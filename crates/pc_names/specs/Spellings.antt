-- How a text spells the names of a program's scalars and arrays.
use Rattle.std.specs.Prelude.{ℕ, ◌%◌, List, [], map, unwrap_or, slice_get, string_bytes}
use Rattle.std.specs.Borrow.{Bor}
use Rattle.std.specs.Str.Lossy.{utf8_lossy}
use Rattle.pc_syntax.specs.Source.{SourceProgram}
use Rattle.pc_names.specs.Declarations.{declared_by}
use Rattle.pc_names.specs.declared.names.SourceNames.{SourceNames}

-- names that are borrowed from a text, as lists of bytes
abbrev pub name_bytes : List (Bor (List ℕ)) → List (List ℕ)
name_bytes names = map (λ name. name.now) names

-- the symbol in the text of a symbol of the inlined program; each copy of a function adds a multiple of the bound below which those
-- of the text are
abbrev pub text_symbol : ℕ → ℕ
text_symbol symbol = symbol % 65536

-- the name that a symbol of the program stands for, as a string, where the text's names are these; a symbol beyond them has no name
abbrev pub name_of : List (List ℕ) → ℕ → List ℕ
name_of names symbol = utf8_lossy (unwrap_or (slice_get names (text_symbol symbol)) [])

-- the names of the scalars and of the arrays of a program, by their numbers
pub record ProgramNames : Type 0 where
  pub scalars : List (List ℕ)
  pub arrays : List (List ℕ)

-- those that a text gives its inlined program, where the text's names are these
abbrev pub names_of : List (List ℕ) → SourceProgram → ProgramNames
names_of names program =
    let declared = declared_by program.items in
    record { scalars = map (name_of names) declared.scalars; arrays = map (name_of names) declared.arrays }

-- those that stand in memory
abbrev pub names_in : SourceNames → ProgramNames
names_in found = record { scalars = map string_bytes found.scalars; arrays = map string_bytes found.arrays }
