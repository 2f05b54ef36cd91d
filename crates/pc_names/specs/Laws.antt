-- The laws of names. Each is the contract of a function of laws.rt, which does nothing.
use Rattle.std.specs.Prelude.{◌≡◌, ℕ, ◌<◌, length, Some, slice_get}
use Rattle.pc_syntax.specs.Source.{SourceProgram}
use Rattle.pc_check.specs.Resolution.{resolved}
use Rattle.pc_names.specs.Declarations.{declared_by}

-- a program declares as many scalars and as many arrays as it is resolved to have
abbrev pub AsManyAreDeclared : Type 0
AsManyAreDeclared = (program : SourceProgram) →
    (length (declared_by program.items).scalars ≡ (resolved program).scalars)
    × (length (declared_by program.items).arrays ≡ length (resolved program).arrays)

-- once names are resolved, the declarations have their own places for symbols: the first scalar is 0, the next one 1; and so of arrays
abbrev pub PlacesAreNumbers : Type 0
PlacesAreNumbers = (program : SourceProgram) (place : ℕ) →
    (place < (resolved program).scalars → slice_get (declared_by (resolved program).body).scalars place ≡ Some place)
    × (place < length (resolved program).arrays → slice_get (declared_by (resolved program).body).arrays place ≡ Some place)
