-- The words of a command line, as bytes.
use Rattle.std.specs.Prelude.{ℕ, List, map, String, string_bytes}
use Rattle.std.specs.declared.alloc.Global.{Global}

-- the bytes of each word
abbrev pub spelled : List (String Global) → List (List ℕ)
spelled words = map string_bytes words
