-- Whether a row of a code does what the front of a window does, and which facts hold at each leaf.
use Rattle.std.specs.Prelude.{if◌then◌else◌, List, [], ◌∷◌, ◌++◌, Option, Some, None}
use Rattle.pc_word.specs.declared.item.Item.{Item}
use Rattle.pc_word.specs.declared.item.Operand.{Operand}
use Rattle.pc_word.specs.Row.{Row, Then, Either, At_leaf}
use Rattle.pc_certified.specs.Facts.{Fact}
use Rattle.pc_matching.specs.Matching.{operands_match, effects_match}
use Rattle.pc_matching.specs.FactsAfter.{facts_after}

-- the items above the first test or leaf of a row
abbrev pub first_items : {L : Type 0} → Row L → List Item
first_items (Then item rest) = item ∷ first_items rest
first_items (Either on on_yes on_no) = []
first_items (At_leaf leaf) = []

-- that test with its sides, or that leaf
abbrev pub below_items : {L : Type 0} → Row L → Row L
below_items (Then item rest) = below_items rest
below_items (Either on on_yes on_no) = Either on on_yes on_no
below_items (At_leaf leaf) = At_leaf leaf

-- the lists of both sides, if there are both
abbrev pub both_sides : Option (List (List Fact)) → Option (List (List Fact)) → Option (List (List Fact))
both_sides (Some one) (Some other) = Some (one ++ other)
both_sides _ _ = None

-- a test of a row against what stands below the items of a front: a test that it matches, with the same sides
abbrev pub test_match : {M : Type 0} → List Fact → Operand → (on_yes on_no : Row M → Option (List (List Fact))) → Row M → Option (List (List Fact))
test_match facts on on_yes on_no (Either other yes_front no_front) =
    if operands_match facts on other then both_sides (on_yes yes_front) (on_no no_front) else None
test_match facts on on_yes on_no _ = None

-- the facts at a leaf to which two paths lead whose effects match
abbrev pub facts_at_leaf : List Fact → List Item → List Item → Option (List (List Fact))
facts_at_leaf facts items others = if effects_match facts items others then Some (facts_after facts items others ∷ []) else None

-- a leaf of a row against what stands below the items of a front: a leaf, where the effects of both paths match
abbrev pub leaf_match : {M : Type 0} → List Fact → List Item → List Item → Row M → Option (List (List Fact))
leaf_match facts items others (At_leaf left) = facts_at_leaf facts items others
leaf_match facts items others _ = None

-- the facts at each leaf, in preorder, of a row that does what a front does, where these items of each stand above
abbrev pub match_below : {L M : Type 0} → List Fact → List Item → List Item → Row L → Row M → Option (List (List Fact))
match_below facts items others (Then item rest) front = match_below facts (items ++ item ∷ []) others rest front
match_below facts items others (Either on on_yes on_no) front =
    let above = others ++ first_items front in
    test_match facts on (match_below facts items above on_yes) (match_below facts items above on_no) (below_items front)
match_below facts items others (At_leaf leaf) front = leaf_match facts items (others ++ first_items front) (below_items front)

-- the facts at each leaf of a row that does what a front does
abbrev pub row_match : {L M : Type 0} → List Fact → Row L → Row M → Option (List (List Fact))
row_match facts row front = match_below facts [] [] row front
