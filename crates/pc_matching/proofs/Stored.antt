-- Lists of facts as they are stored.
use Rattle.std.proofs.Common.{◌≡◌, Bool, true, false, List, [], ◌∷◌, ◌++◌, Option, Some, None, refl, ap, append_assoc, ◌∙◌}
use Rattle.std.specs.Prelude.{◌||◌, if◌then◌else◌}
use Rattle.std.specs.List.{list_any}
use Rattle.pc_certified.specs.Facts.{Fact}
use Rattle.pc_word.specs.declared.item.Item.{Item}
use Rattle.pc_word.specs.declared.item.Operand.{Operand}
use Rattle.pc_matching.specs.declared.fact.Fact as stored
use Rattle.pc_matching.specs.Facts.{fact_of, facts_of, helds_of}
use Rattle.pc_matching.specs.Matching.{says_that, effects_match}
use Rattle.pc_matching.specs.FactsAfter.{facts_after}
use Rattle.pc_matching.specs.RowMatch.{facts_at_leaf, both_sides}
use Rattle.pc_matching.specs.models.Searching.{IsPut, is_put, is_none}

-- whether one of some stored facts says that a source has an operand's value
pub any_said : (source operand : Operand) (facts : List stored.Fact)
    → list_any (says_that source operand) (facts_of facts) ≡ list_any (λ fact. says_that source operand (fact_of fact)) facts
any_said source operand [] = refl
any_said source operand (fact ∷ facts) = ap (λ b. says_that source operand (fact_of fact) || b) (any_said source operand facts)

-- what is put behind what was put is put behind
pub put_both : (old middle new : List (List Fact)) (one other : Option (List (List Fact))) (found : Bool) → IsPut old middle one true → IsPut middle new other found
    → IsPut old new (both_sides one other) found
put_both old middle new None other found h k = elim h [ ]
put_both old middle new (Some helds) None true h k = elim k [ ]
put_both old middle new (Some helds) None false h k = is_none
put_both old middle new (Some helds) (Some helds') false h k = elim k [ ]
put_both old middle new (Some helds) (Some helds') true (is_put e) (is_put e') =
    is_put (e' ∙ ap (λ (l : List (List Fact)). l ++ helds') e ∙ append_assoc old helds helds')

-- nothing is put where the first side has nothing
pub put_not_first : (old middle new : List (List Fact)) (one other : Option (List (List Fact))) → IsPut old middle one false → IsPut old new (both_sides one other) false
put_not_first old middle new (Some helds) other h = elim h [ ]
put_not_first old middle new None other h = is_none

-- a list more
more_facts : (old : List (List stored.Fact)) (held : List stored.Fact) → helds_of (old ++ (held ∷ [])) ≡ helds_of old ++ (facts_of held ∷ [])
more_facts [] held = refl
more_facts (one ∷ old) held = ap (λ (l : List (List Fact)). facts_of one ∷ l) (more_facts old held)

-- the facts after two paths whose effects match are put
pub put_facts : (facts : List Fact) (items others : List Item) (old new : List (List stored.Fact)) (held : List stored.Fact) → effects_match facts items others ≡ true
    → facts_of held ≡ facts_after facts items others → new ≡ old ++ (held ∷ []) → IsPut (helds_of old) (helds_of new) (facts_at_leaf facts items others) true
put_facts facts items others old new held same is e =
    let behind : helds_of new ≡ helds_of old ++ (facts_after facts items others ∷ []) =
    ap helds_of e ∙ more_facts old held ∙ ap (λ (h : List Fact). helds_of old ++ (h ∷ [])) is in
    at (effects_match facts items others) same behind where
      at : (b : Bool) → b ≡ true → helds_of new ≡ helds_of old ++ (facts_after facts items others ∷ [])
          → IsPut (helds_of old) (helds_of new) (if b then Some (facts_after facts items others ∷ []) else None) true
      at true e k = is_put k
      at false e k = absurd (cc)

-- and where they do not match, nothing is
pub put_no_facts : (facts : List Fact) (items others : List Item) (old new : List (List Fact)) → effects_match facts items others ≡ false
    → IsPut old new (facts_at_leaf facts items others) false
put_no_facts facts items others old new same = at (effects_match facts items others) same where
  at : (b : Bool) → b ≡ false → IsPut old new (if b then Some (facts_after facts items others ∷ []) else None) false
  at false e = is_none
  at true e = absurd (cc)

pub ruleset put = (put_both, put_not_first, put_facts, put_no_facts, is_put, is_none)
