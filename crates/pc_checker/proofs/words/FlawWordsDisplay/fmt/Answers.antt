use Rattle.std.proofs.Common.{sym}
use Rattle.pc_checker.proofs.words.FlawWordsDisplay.fmt.Goals as goal

-- the leaf is told by its number
pub returns-in-Leaf-clause-writes : goal.returns-in-Leaf-clause-writes
returns-in-Leaf-clause-writes g c = λ plain ok. rw (c.in-Leaf.is, sym c.leaf_words-why-in-Leaf.ensures) (c.write-in-Leaf.ensures.writes plain ok)
