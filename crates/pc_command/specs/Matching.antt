-- The matches that `clap` gives of words.
use Rattle.std.specs.Prelude.{List}
use Rattle.clap.specs.Walk.{Row, rows_of}
use Rattle.clap.specs.Matches.{found_of}
use Rattle.clap.specs.declared.parser.matches.ArgMatches.{ArgMatches}

-- the matches of words: for each argument that was found its name and its values, as `clap`'s definitions have it
abbrev pub Matches : Type 0
Matches = List Row

-- those of a parse
abbrev pub matches_in : ArgMatches → Matches
matches_in parse = rows_of (found_of parse)
