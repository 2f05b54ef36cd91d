-- What tables in memory tell.
use Rattle.std.specs.Prelude.{ℕ, Bool, false, Option, None, slice_index_or}
use Rattle.pc_renaming.specs.declared.kept.Kept.{Kept}
use Rattle.pc_renaming.specs.declared.kept.Kept.TheVariants.{Before}
use Rattle.pc_renaming.specs.declared.homes.Homes.{Homes}
use Rattle.pc_renaming.specs.declared.path.Path.{Path}

-- which registers have the values of registers of the code before
abbrev pub homes_in : Homes → ℕ → Option ℕ
homes_in homes register = slice_index_or homes.table register None

-- where the values of registers of the code before stand
abbrev pub kept_in : Path → ℕ → Kept
kept_in path register = slice_index_or path.kept register Before

-- which registers of the code after are written
abbrev pub written_in : Path → ℕ → Bool
written_in path place = slice_index_or path.written place false
