-- The limits of source programs.
use Rattle.std.specs.Prelude.{ℕ}

-- bytes of a source text
abbrev pub most_source : ℕ
most_source = 1048576

-- tokens of a source text
abbrev pub most_tokens : ℕ
most_tokens = 65536

-- the height of a program
abbrev pub most_height : ℕ
most_height = 256

-- scalars, and the variables of a flow graph that stand for them: 0 to 63
abbrev pub most_scalars : ℕ
most_scalars = 64

-- temporaries of an expression, and the variables of a flow graph that stand for them: 64 to 95
abbrev pub most_temporaries : ℕ
most_temporaries = 32

-- nodes of a flow graph
abbrev pub most_nodes : ℕ
most_nodes = 16384
