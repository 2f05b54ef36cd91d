-- Where functions are found.
use Rattle.std.specs.Prelude.{ℕ, Option, Some, None, List, [], ◌∷◌, length, if◌then◌else◌, nat_eq}
use Rattle.pc_syntax.specs.Unit.{UnitFunction}

-- how many functions stand before the one of a name among these, of which the last comes first
unfoldable pub place_among : List UnitFunction → ℕ → Option ℕ
place_among [] symbol = None
place_among (last ∷ earlier) symbol = if nat_eq symbol last.symbol then Some (length earlier) else place_among earlier symbol
