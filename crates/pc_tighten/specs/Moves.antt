-- A move: an item goes one row up.
use Rattle.std.specs.Prelude.{◌≡◌, ℕ, false, if◌then◌else◌, List, [], ◌∷◌, ◌++◌, slice_set}
use Rattle.std.specs.List.{AllByRecursion}
use Rattle.pc_word.specs.declared.item.Item.{Item}
use Rattle.pc_machine.specs.MachineCode.{CodeRow, RowCode, is_goto}
use Rattle.pc_word.specs.Row.{Then, Either, At_leaf, items_of, tests_of}
use Rattle.pc_tighten.specs.Compact.{stays, paths_to, IsPair}

-- a row that stands below these items
abbrev pub below : List Item → CodeRow → CodeRow
below [] row = row
below (item ∷ items) row = Then item (below items row)

-- the item x, which stands in t below xs and above rest, has no reason to stay: it may go to the end of the path of m
pub record MayMove (code : RowCode) (m t : ℕ) (above : CodeRow) (xs : List Item) (x : Item) (rest : CodeRow) : Type 0 where
  pub pair : IsPair code m t above (below xs (Then x rest))
  pub free : AllByRecursion (λ path. stays code.limits above path x (xs ++ items_of rest) (tests_of rest) ≡ false) (paths_to t above)

-- a row with an item more at the end of each path to t
abbrev pub with_item : ℕ → Item → CodeRow → CodeRow
with_item t x (Then item rest) = Then item (with_item t x rest)
with_item t x (Either on on_yes on_no) = Either on (with_item t x on_yes) (with_item t x on_no)
with_item t x (At_leaf leaf) = if is_goto t leaf then Then x (At_leaf leaf) else At_leaf leaf

-- the code once x has moved from t to m
abbrev pub moved : RowCode → ℕ → ℕ → CodeRow → List Item → Item → CodeRow → RowCode
moved code m t above xs x rest =
    record code { rows = slice_set (slice_set code.rows m (with_item t x above)) t (below xs rest) }
