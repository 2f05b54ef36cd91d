-- What moves and removals make of the room that a code takes.
use Rattle.std.proofs.Common.{◌≡◌, ℕ, zero, suc, ◌+◌, ◌*◌, ◌≤◌, Bool, true, false, cond, List, [], ◌∷◌, map, Some, refl, ◌∙◌, ap, arith}
use Rattle.std.specs.Prelude.{if◌then◌else◌, slice_get, slice_set}
use Rattle.std.specs.List.{count_by}
use Rattle.std.proofs.Math.Nat.{suc-mul}
use Rattle.std.proofs.lemmas.List.Sums.{sum_by-cons}
use Rattle.pc_word.specs.declared.item.Item.{Item}
use Rattle.pc_word.specs.Row.{Then, Either, At_leaf, leaves_of}
use Rattle.pc_word.proofs.Lists.{count_more, count_both}
use Rattle.pc_machine.specs.declared.tree.Leaf.TheVariants.{Goto, Stop, Trap}
use Rattle.pc_machine.specs.MachineCode.{CodeRow, RowCode, is_goto}
use Rattle.pc_tighten.specs.Moves.{below, with_item, moved, MayMove}
use Rattle.pc_tighten.specs.Removals.{sent, sent_row, without_row}
use Rattle.pc_tighten.specs.Sizes.{Room, row_room, rows_room}
use Rattle.pc_tighten.specs.Tightened.{ByMoves, No_move, Move, ByRemovals, No_removal, Removal, Tightens}
use Rattle.pc_tighten.proofs.Rows.{set_elsewhere}

grow : (a b c : ℕ) → (a + b) * c ≡ a * c + b * c
grow zero b c = let e : zero + b ≡ b = omega arith in ap (λ (n : ℕ). n * c) e ∙ omega arith
grow (suc a) b c =
    let e : suc a + b ≡ suc (a + b) = omega arith in
    let h = grow a b c in
    let p = suc-mul (a + b) c in
    let q = suc-mul a c in
    let r = ap (λ (n : ℕ). n * c) e in
    omega arith

module _ (room : Room) where
  more : (row : CodeRow) (rows : List CodeRow) → rows_room room (row ∷ rows) ≡ row_room room row + rows_room room rows
  more row rows = sum_by-cons (row_room room) row rows

  -- ---- moves

  room-with_item : (t : ℕ) (x : Item) (row : CodeRow)
      → row_room room (with_item t x row) ≡ row_room room row + count_by (is_goto t) (leaves_of row) * room.of_item x
  room-with_item t x (Then item rest) = let h = room-with_item t x rest in omega arith
  room-with_item t x (Either on on_yes on_no) =
      let a = room-with_item t x on_yes in
      let b = room-with_item t x on_no in
      let c = ap (λ (n : ℕ). n * room.of_item x) (count_both (is_goto t) (leaves_of on_yes) (leaves_of on_no)) in
      let d = grow (count_by (is_goto t) (leaves_of on_yes)) (count_by (is_goto t) (leaves_of on_no)) (room.of_item x) in
      omega arith
  room-with_item t x (At_leaf leaf) = by_test (is_goto t leaf) (count_more (is_goto t) leaf [])
    where
      by_test : (b : Bool) → count_by (is_goto t) (leaf ∷ []) ≡ cond b 1 0 + count_by (is_goto t) []
          → row_room room (if b then Then x (At_leaf leaf) else At_leaf leaf) ≡ room.of_leaf leaf + count_by (is_goto t) (leaf ∷ []) * room.of_item x
      by_test true e =
          let nil : count_by (is_goto t) [] ≡ 0 = refl in
          let one : count_by (is_goto t) (leaf ∷ []) ≡ 1 = omega arith in
          let c = ap (λ (n : ℕ). n * room.of_item x) one in
          omega arith
      by_test false e =
          let nil : count_by (is_goto t) [] ≡ 0 = refl in
          let none : count_by (is_goto t) (leaf ∷ []) ≡ 0 = omega arith in
          let c = ap (λ (n : ℕ). n * room.of_item x) none in
          omega arith

  room-below : (xs : List Item) (x : Item) (rest : CodeRow) → row_room room (below xs (Then x rest)) ≡ room.of_item x + row_room room (below xs rest)
  room-below [] x rest = refl
  room-below (y ∷ xs) x rest = let h = room-below xs x rest in omega arith

  -- a row in place of another
  room-set : (j : ℕ) (row other : CodeRow) (rows : List CodeRow) → slice_get rows j ≡ Some other
      → rows_room room (slice_set rows j row) + row_room room other ≡ rows_room room rows + row_room room row
  room-set j row other [] e = absurd (cc)
  room-set zero row other (r ∷ rows) e =
      let same : r ≡ other = (cc) in
      let a = ap (row_room room) same in
      let b = more row rows in
      let c = more r rows in
      omega arith
  room-set (suc j) row other (r ∷ rows) e =
      let h = room-set j row other rows e in
      let b = more r (slice_set rows j row) in
      let c = more r rows in
      omega arith

  -- a move leaves it as it was
  move_keeps_room : (code : RowCode) (m t : ℕ) (above : CodeRow) (xs : List Item) (x : Item) (rest : CodeRow) → MayMove code m t above xs x rest
      → rows_room room (moved code m t above xs x rest).rows ≡ rows_room room code.rows
  move_keeps_room code m t above xs x rest may =
      let at = set_elsewhere m t (with_item t x above) code.rows may.pair.not_itself ∙ may.pair.at_t in
      let a = room-set t (below xs rest) (below xs (Then x rest)) (slice_set code.rows m (with_item t x above)) at in
      let b = room-set m (with_item t x above) above code.rows may.pair.at_m in
      let c = room-with_item t x above in
      let d = room-below xs x rest in
      let once = ap (λ (n : ℕ). n * room.of_item x) may.pair.only.once in
      let one : 1 * room.of_item x ≡ room.of_item x = omega arith in
      omega arith

  -- ---- removals

  room-sent : (t u : ℕ) (row : CodeRow) → row_room room (sent_row t u row) ≡ row_room room row
  room-sent t u (Then item rest) = ap (λ (n : ℕ). room.of_item item + n) (room-sent t u rest)
  room-sent t u (Either on on_yes on_no) = let a = room-sent t u on_yes in let b = room-sent t u on_no in omega arith
  room-sent t u (At_leaf (Goto row)) = room.alike (sent t u row) row
  room-sent t u (At_leaf Stop) = refl
  room-sent t u (At_leaf (Trap kind line)) = refl

  rooms-sent : (t u : ℕ) (rows : List CodeRow) → rows_room room (map (sent_row t u) rows) ≡ rows_room room rows
  rooms-sent t u [] = refl
  rooms-sent t u (r ∷ rows) =
      let a = room-sent t u r in
      let b = rooms-sent t u rows in
      let c = more (sent_row t u r) (map (sent_row t u) rows) in
      let d = more r rows in
      omega arith

  rooms-without : (t : ℕ) (rows : List CodeRow) → rows_room room (without_row t rows) ≤ rows_room room rows
  rooms-without t [] = omega arith
  rooms-without zero (r ∷ rows) = let a = more r rows in omega arith
  rooms-without (suc t) (r ∷ rows) =
      let a = more r (without_row t rows) in
      let b = more r rows in
      let h = rooms-without t rows in
      omega arith

  -- as many as there are
  moves_take_no_more_room : {code after : RowCode} → ByMoves code after → rows_room room after.rows ≤ rows_room room code.rows
  moves_take_no_more_room No_move = omega arith
  moves_take_no_more_room {code} (Move m t above xs x rest may steps) =
      let h = moves_take_no_more_room steps in
      let a = move_keeps_room code m t above xs x rest may in
      omega arith

  removals_take_no_more_room : {code after : RowCode} → ByRemovals code after → rows_room room after.rows ≤ rows_room room code.rows
  removals_take_no_more_room No_removal = omega arith
  removals_take_no_more_room {code} (Removal t u may steps) =
      let h = removals_take_no_more_room steps in
      let a = rooms-sent t u (without_row t code.rows) in
      let b = rooms-without t code.rows in
      omega arith

  -- both together
  pub tightening_takes_no_more_room : {code after : RowCode} → Tightens code after → rows_room room after.rows ≤ rows_room room code.rows
  tightening_takes_no_more_room steps =
      let a = removals_take_no_more_room steps.first_removals in
      let b = moves_take_no_more_room steps.moves in
      let c = removals_take_no_more_room steps.removals in
      omega arith
