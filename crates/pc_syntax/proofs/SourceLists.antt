-- Lists of statements as programs are written in proofs.
use Rattle.std.proofs.Common.{List, [], ◌∷◌}
use Rattle.pc_syntax.specs.Source.{SourceStatement, SourceList, No_more, More}

-- the list of statements as the tree has it
abbrev pub source_list : List SourceStatement → SourceList
source_list [] = No_more
source_list (first ∷ rest) = More first (source_list rest)
