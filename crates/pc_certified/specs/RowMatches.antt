-- A row against a front: the same tests on the same sides, and paths that match.
use Rattle.std.specs.Prelude.{List, [], ◌∷◌, ◌++◌}
use Rattle.pc_word.specs.declared.item.Item.{Item}
use Rattle.pc_word.specs.declared.item.Operand.{Operand}
use Rattle.pc_word.specs.Row.{Row, Then, Either, At_leaf}
use Rattle.pc_certified.specs.Facts.{Fact, OperandsMatch}
use Rattle.pc_certified.specs.Paths.{EffectsMatch}

-- a row matches a front, which is a row whose leaves are of another kind, where these items of each stand above: tests match on the same
-- sides, the effects of each path match, whatever the order of its items, and what is asked at a leaf is there
pub data RowMatches {L M : Type 0} (facts : List Fact) (AtLeaf : List Item → List Item → L → M → Type 0)
    : List Item → List Item → Row L → Row M → Type 0 where
  row_item : {items others : List Item} {item : Item} {row : Row L} {front : Row M}
      → RowMatches facts AtLeaf (items ++ (item ∷ [])) others row front → RowMatches facts AtLeaf items others (Then item row) front
  front_item : {items others : List Item} {item : Item} {row : Row L} {front : Row M}
      → RowMatches facts AtLeaf items (others ++ (item ∷ [])) row front → RowMatches facts AtLeaf items others row (Then item front)
  both_test : {items others : List Item} {on on' : Operand} {yes_row no_row : Row L} {yes_front no_front : Row M} → OperandsMatch facts on on'
      → RowMatches facts AtLeaf items others yes_row yes_front → RowMatches facts AtLeaf items others no_row no_front
      → RowMatches facts AtLeaf items others (Either on yes_row no_row) (Either on' yes_front no_front)
  both_leaf : {items others : List Item} {leaf : L} {left : M} → EffectsMatch facts items others → AtLeaf items others leaf left
      → RowMatches facts AtLeaf items others (At_leaf leaf) (At_leaf left)
