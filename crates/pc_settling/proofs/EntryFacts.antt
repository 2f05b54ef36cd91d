-- Facts of an entry that are found one after the other.
use Rattle.std.proofs.Common.{◌≡◌, List, [], ◌∷◌, ◌++◌, Option, Some, None, refl, sym, ap, append_assoc}
use Rattle.std.proofs.lemmas.List.{append-nil}
use Rattle.pc_word.specs.declared.item.Operand.{Operand}
use Rattle.pc_certified.specs.Facts.{Fact}
use Rattle.pc_matching.specs.FactsAfter.{that}
use Rattle.pc_settling.specs.Arrives.{and_fact}
use Rattle.pc_settling.specs.models.Finding.{behind}

-- one fact more is found
pub one_more : (found : List Fact) (source operand : Operand) (rest : Option (List Fact))
    → behind found (and_fact source (Some operand) rest) ≡ behind (found ++ (that source operand ∷ [])) rest
one_more found source operand (Some facts) = ap Some (sym (append_assoc found (that source operand ∷ []) facts))
one_more found source operand None = refl

-- none is there
pub none_there : (found : List Fact) (source : Operand) (rest : Option (List Fact)) → behind found (and_fact source None rest) ≡ None
none_there found source rest = refl

-- no more are asked for
pub no_more : (found : List Fact) → behind found (Some []) ≡ Some found
no_more found = ap Some (append-nil found)

pub ruleset facts = (one_more, none_there, no_more)
