-- The laws of matching. Each is the contract of a function of laws.rt, which does nothing.
use Rattle.std.specs.Prelude.{◌≡◌, ℕ, true, List, [], Some, length, slice_get}
use Rattle.pc_word.specs.declared.item.Item.{Item}
use Rattle.pc_word.specs.declared.item.Limits.{Limits}
use Rattle.pc_word.specs.Row.{Row, leaves_of}
use Rattle.pc_table.specs.Table.{Table}
use Rattle.pc_machine.specs.MachineCode.{CodeRow}
use Rattle.pc_window.specs.Steps.{with_tree, front_row}
use Rattle.pc_certified.specs.Facts.{Fact, EachFact, OperandsMatch}
use Rattle.pc_certified.specs.Paths.{EffectsMatch, FactAfter}
use Rattle.pc_certified.specs.RowMatches.{RowMatches}
use Rattle.pc_certified.specs.Claims.{Claim}
use Rattle.pc_certified.specs.LeafAgrees.{LeafAgrees}
use Rattle.pc_certified.specs.Shows.{AgreesAtLeaf}
use Rattle.pc_matching.specs.Matching.{effects_match}
use Rattle.pc_matching.specs.FactsAfter.{facts_after}
use Rattle.pc_matching.specs.RowMatch.{row_match}

-- paths whose effects are found to match have effects that match
abbrev pub FoundEffectsMatch : Type 0
FoundEffectsMatch = (facts : List Fact) (items others : List Item) → effects_match facts items others ≡ true → EffectsMatch facts items others

-- each of the facts after two paths holds after them
abbrev pub ListedFactsHold : Type 0
ListedFactsHold = (facts : List Fact) (items others : List Item) → EachFact (facts_after facts items others) (FactAfter facts items others)

-- and each fact that holds after them is listed, unless it says of a literal that it is itself
abbrev pub AllFactsAreListed : Type 0
AllFactsAreListed = (facts : List Fact) (items others : List Item) (fact : Fact) → FactAfter facts items others fact
    → OperandsMatch (facts_after facts items others) fact.source fact.operand

-- what is to hold at the leaves of a row and a front holds where the facts of each leaf are those of a list
abbrev pub HoldsAtLeaves : {L M : Type 0} → (List Fact → L → M → Type 0) → List (List Fact) → List L → List M → Type 0
HoldsAtLeaves {L} {M} Agrees helds leaves lefts =
    (place : ℕ) (held : List Fact) (leaf : L) (left : M) → slice_get helds place ≡ Some held → slice_get leaves place ≡ Some leaf
    → slice_get lefts place ≡ Some left → Agrees held leaf left

-- from facts that hold after the items above them, a leaf agrees with a leaf of a front
abbrev pub AgreesFromFacts : {L M : Type 0} → (List Fact → L → M → Type 0) → List Fact → List Item → List Item → L → M → Type 0
AgreesFromFacts Agrees facts items others leaf left = (held : List Fact) × EachFact held (FactAfter facts items others) × Agrees held leaf left

-- a row that is found to match matches, and agrees at its leaves, where each leaf agrees with that of the front from the facts of its list
abbrev pub FoundRowsMatch : (L M : Type 0) → (List Fact → L → M → Type 0) → Type 0
FoundRowsMatch L M Agrees = (facts : List Fact) (row : Row L) (front : Row M) (helds : List (List Fact)) → row_match facts row front ≡ Some helds
    → HoldsAtLeaves Agrees helds (leaves_of row) (leaves_of front) → RowMatches facts (AgreesFromFacts Agrees facts) [] [] row front

-- there is one list of facts for each leaf of the row, and one for each leaf of the front
abbrev pub EachLeafHasFacts : (L M : Type 0) → Type 0
EachLeafHasFacts L M = (facts : List Fact) (row : Row L) (front : Row M) (helds : List (List Fact)) → row_match facts row front ≡ Some helds
    → (length helds ≡ length (leaves_of row)) × (length helds ≡ length (leaves_of front))

-- so it is of the row of a claim and the front of its arranged window, where each leaf agrees with the tree that is left from the facts
-- of its list
abbrev pub FoundRowsOfClaimsMatch : Type 0
FoundRowsOfClaimsMatch = (table : Table) (limits : Limits) (claims : List Claim) (claim : Claim) (row : CodeRow) (helds : List (List Fact))
    → row_match claim.facts row (front_row (λ tree. tree) claim.arranged.front) ≡ Some helds
    → HoldsAtLeaves (λ held leaf rest. LeafAgrees table limits claims claim held leaf (with_tree claim.arranged rest)) helds (leaves_of row)
    (leaves_of (front_row (λ tree. tree) claim.arranged.front))
    → RowMatches claim.facts (AgreesAtLeaf table limits claims claim) [] [] row (front_row (λ tree. tree) claim.arranged.front)
