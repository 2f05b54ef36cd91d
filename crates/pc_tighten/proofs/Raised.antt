-- Items that go up are moves.
use Rattle.std.proofs.Common.{◌≡◌, ◌≢◌, ℕ, zero, suc, ◌+◌, ◌*◌, ◌<◌, ◌≤◌, Bool, true, false, List, []}
use Rattle.std.proofs.Common.{◌∷◌, ◌++◌, map, length, take, drop, get_or, Option, Some, None, refl, sym, ◌∙◌, ap}
use Rattle.std.proofs.Common.{subst, length-append, arith}
use Rattle.std.specs.Prelude.{◌||◌, slice_get, slice_set}
use Rattle.std.specs.List.{count_by, list_any, remove}
use Rattle.std.specs.Option.{option_map, IfSome}
use Rattle.std.specs.Prelude.{Result, Ok, Err}
use Rattle.std.specs.Result.{OnOk}
use Rattle.std.proofs.Math.Nat.{suc-mul}
use Rattle.std.proofs.lemmas.Option.{slice_get-map, slice_get_read, slice_get_within}
use Rattle.std.proofs.lemmas.List.{length-map}
use Rattle.pc_word.proofs.Lists.{all_at, set_length}
use Rattle.pc_word.specs.declared.item.Item.{Item}
use Rattle.pc_word.specs.declared.item.Operand.{Operand}
use Rattle.pc_word.specs.declared.item.Limits.{Limits}
use Rattle.pc_word.specs.Items.{dest_of}
use Rattle.pc_word.specs.Row.{Then, items_of, tests_of, leaves_of}
use Rattle.pc_word.specs.declared.row_tree.RowTree.{RowTree}
use Rattle.pc_machine.specs.declared.tree.Leaf.{Leaf}
use Rattle.pc_machine.specs.MachineCode.{CodeRow, RowCode, row_of, is_goto}
use Rattle.pc_tighten.specs.declared.draft.Draft.{Draft}
use Rattle.pc_tighten.specs.declared.parents.Parents.{Parents}
use Rattle.pc_tighten.specs.Compact.{is_dest, is_full, comes_after, is_awaited_by, stays, paths_to, IsPair}
use Rattle.pc_tighten.specs.Moves.{below, with_item, MayMove}
use Rattle.pc_tighten.specs.Tightened.{ByMoves, No_move, Move}
use Rattle.pc_tighten.specs.models.Drafts.{draft_row, draft_rows, BeginsWithNoItem, IsSplit, held, items_but, FirstStay, MayGoUp}
use Rattle.pc_tighten.specs.models.Parents.{HasParent, StandAbove, parent_of}
use Rattle.pc_tighten.specs.models.Raising.{place_by, place_of, weigh, code_with, Raises, CanRise, MovesUp, MayRise, IsSettled}
use Rattle.pc_tighten.proofs.Drafting.{below_append, items_below}
use Rattle.pc_tighten.proofs.Ends.{paths-count, each_alone}
use Rattle.pc_tighten.proofs.Rows.{below-leaves, set_elsewhere}
use Rattle.pc_tighten.proofs.Tightened.{moves_on}
use Rattle.pc_tighten.proofs.WellMoved.{set_all, with_item-leaves, with_item-length, below-tests}
use Rattle.pc_word.proofs.Places.{set_elsewhere as set_other}

-- ---- one path alone

or_last : (b : Bool) → (b || false) ≡ b
or_last true = refl
or_last false = refl

-- where one path leads to the row, an item is held there as it stays
pub held_is : (limits : Limits) (above : CodeRow) (t : ℕ) (x : Item) (others : List Item) (tests : List Operand) (path : List Item) → paths_to t above ≡ path ∷ []
    → held limits above t x others tests ≡ stays limits above path x others tests
held_is limits above t x others tests path e =
    let later = list_any (is_awaited_by x) others || list_any (λ on. is_dest on (dest_of x)) tests in
    ap (λ (paths : List (List Item)). is_full limits above x || (list_any (λ p. list_any (comes_after x) p) paths || later)) e
    ∙ ap (λ (b : Bool). is_full limits above x || (b || later)) (or_last (list_any (comes_after x) path))

-- ---- an item of a list

-- a list with an element taken out and put in again
pub parted : {X : Type 0} (xs : List X) (i : ℕ) (x : X) → slice_get xs i ≡ Some x → take i xs ++ (x ∷ drop (i + 1) xs) ≡ xs
parted [] i x e = absurd (cc)
parted (y ∷ xs) zero x e = let same : y ≡ x = (cc) in ap (λ z. z ∷ xs) (sym same)
parted (y ∷ xs) (suc i) x e =
    let next : suc i + 1 ≡ suc (i + 1) = omega arith in
    ap (λ (k : ℕ). y ∷ (take i xs ++ (x ∷ drop k (y ∷ xs)))) next ∙ ap (λ l. y ∷ l) (parted xs i x e)

removed_is : {X : Type 0} (xs : List X) (i : ℕ) → remove xs i ≡ take i xs ++ drop (i + 1) xs
removed_is xs i = let next : suc i ≡ i + 1 = omega arith in ap (λ (k : ℕ). take i xs ++ drop k xs) next

-- ---- weights

module _ (place : ℕ → ℕ) where
  weigh-set : (i j : ℕ) (row other : CodeRow) (rows : List CodeRow) → slice_get rows j ≡ Some other
      → weigh place i (slice_set rows j row) + place (i + j) * length (items_of other) ≡ weigh place i rows + place (i + j) * length (items_of row)
  weigh-set i j row other [] e = absurd (cc)
  weigh-set i zero row other (r ∷ rows) e =
      let same : r ≡ other = (cc) in
      let a : i + 0 ≡ i = omega arith in
      subst (λ (k : ℕ). weigh place i (row ∷ rows) + place k * length (items_of other) ≡ weigh place i (r ∷ rows) + place k * length (items_of row)) (sym a)
      (subst (λ (o : CodeRow). weigh place i (row ∷ rows) + place i * length (items_of o) ≡ weigh place i (r ∷ rows) + place i * length (items_of row)) same (omega arith))
  weigh-set i (suc j) row other (r ∷ rows) e =
      let h = weigh-set (suc i) j row other rows e in
      let a : suc i + j ≡ i + suc j = omega arith in
      let k = subst (λ (n : ℕ). weigh place (suc i) (slice_set rows j row) + place n * length (items_of other) ≡ weigh place (suc i) rows + place n * length (items_of row)) a h in
      omega arith

  times_more : (c a : ℕ) → c * (a + 1) ≡ c * a + c
  times_more zero a = omega arith
  times_more (suc c) a =
      let h = times_more c a in
      let p = suc-mul c (a + 1) in
      let q = suc-mul c a in
      omega arith

  -- an item goes from the row t to the row m, whose place is lower
  weigh-moved : (rows : List CodeRow) (m t : ℕ) (above now_above under now_under : CodeRow) → m ≢ t → slice_get rows m ≡ Some above → slice_get rows t ≡ Some under
      → length (items_of now_above) ≡ length (items_of above) + 1 → length (items_of under) ≡ length (items_of now_under) + 1 → place m < place t
      → weigh place 0 (slice_set (slice_set rows m now_above) t now_under) + 1 ≤ weigh place 0 rows
  weigh-moved rows m t above now_above under now_under apart at_m at_t one_more one_less lower =
      let zm : 0 + m ≡ m = omega arith in
      let zt : 0 + t ≡ t = omega arith in
      let first = slice_set rows m now_above in
      let a = subst (λ (k : ℕ). weigh place 0 first + place k * length (items_of above) ≡ weigh place 0 rows + place k * length (items_of now_above)) zm
      (weigh-set 0 m now_above above rows at_m) in
      let at_t_then = set_elsewhere m t now_above rows (λ e. apart (sym e)) ∙ at_t in
      let b = subst (λ (k : ℕ). weigh place 0 (slice_set first t now_under) + place k * length (items_of under) ≡ weigh place 0 first + place k * length (items_of now_under)) zt
      (weigh-set 0 t now_under under first at_t_then) in
      let c = ap (λ (n : ℕ). place m * n) one_more ∙ times_more (place m) (length (items_of above)) in
      let d = ap (λ (n : ℕ). place t * n) one_less ∙ times_more (place t) (length (items_of now_under)) in
      omega arith

-- ---- leaves

map_set : {X Y : Type 0} (f : X → Y) (xs : List X) (i : ℕ) (x y : X) → slice_get xs i ≡ Some y → f x ≡ f y → map f (slice_set xs i x) ≡ map f xs
map_set f [] i x y e same = absurd (cc)
map_set f (z ∷ xs) zero x y e same = let is : z ≡ y = (cc) in ap (λ v. v ∷ map f xs) (same ∙ ap f (sym is))
map_set f (z ∷ xs) (suc i) x y e same = ap (λ l. f z ∷ l) (map_set f xs i x y e same)

-- ---- a move

module _ (limits : Limits) (places : List (Option ℕ)) (old new : List Draft) (m t i : ℕ) (moves : MovesUp old new m t i)
    (parent : HasParent (draft_rows old) places m t) (can : CanRise limits old m t i) where
  abbrev xs : List Item
  xs = take i can.under.items.items

  abbrev rest : CodeRow
  rest = below (drop (i + 1) can.under.items.items) (row_of can.under.rest)

  abbrev above : CodeRow
  above = draft_row can.above

  at_m : slice_get (draft_rows old) m ≡ Some above
  at_m = slice_get-map draft_row old m ∙ ap (option_map draft_row) can.at_m

  is_under : draft_row can.under ≡ below xs (Then can.free.0 rest)
  is_under =
      ap (λ (l : List Item). below l (row_of can.under.rest)) (sym (parted can.under.items.items i can.free.0 can.free.1))
      ∙ below_append xs (can.free.0 ∷ drop (i + 1) can.under.items.items) (row_of can.under.rest)

  at_t : slice_get (draft_rows old) t ≡ Some (below xs (Then can.free.0 rest))
  at_t = slice_get-map draft_row old t ∙ ap (option_map draft_row) can.at_t ∙ ap (λ (r : CodeRow). Some r) is_under

  same_above : parent.parent.row ≡ above
  same_above = let a = parent.parent.at in let b = at_m in cc

  once : count_by (is_goto t) (leaves_of above) ≡ 1
  once = subst (λ (r : CodeRow). count_by (is_goto t) (leaves_of r) ≡ 1) same_above parent.parent.once

  is_pair : (like : RowCode) → IsPair (code_with limits like (draft_rows old)) m t above (below xs (Then can.free.0 rest))
  is_pair arrays = record {
    at_m = at_m;
    at_t = at_t;
    only = record { once = once; alone = parent.parent.alone };
    not_entry = parent.parent.not_entry;
    not_itself = parent.parent.not_itself;
  }

  may_move : (like : RowCode) → MayMove (code_with limits like (draft_rows old)) m t above xs can.free.0 rest
  may_move like = record {
    pair = is_pair like;
    free = each_alone (paths_to t above) (λ path. stays limits above path can.free.0 (xs ++ items_of rest) (tests_of rest) ≡ false) (paths-count t above ∙ once)
        (λ path alone.
        subst (λ (l : List Item). stays limits above path can.free.0 (xs ++ l) (tests_of rest) ≡ false) (sym (items_below (drop (i + 1) can.under.items.items) (row_of can.under.rest)))
        (subst (λ (l : List Operand). stays limits above path can.free.0 (items_but can.under i) l ≡ false) (sym (below-tests (drop (i + 1) can.under.items.items) (row_of can.under.rest)))
        (sym (held_is limits above t can.free.0 (items_but can.under i) (tests_of (row_of can.under.rest)) path alone) ∙ can.free.2)));
  }

  new_is : draft_rows new ≡ slice_set (slice_set (draft_rows old) m (with_item t can.free.0 above)) t (below xs rest)
  new_is =
      moves.rows can.above can.under can.free.0 can.at_m can.at_t can.free.1
      ∙ ap (λ (r : CodeRow). slice_set (slice_set (draft_rows old) m (with_item t can.free.0 above)) t r)
      (ap (λ (l : List Item). below l (row_of can.under.rest)) (removed_is can.under.items.items i)
      ∙ below_append xs (drop (i + 1) can.under.items.items) (row_of can.under.rest))

  at_t_then : slice_get (slice_set (draft_rows old) m (with_item t can.free.0 above)) t ≡ Some (below xs (Then can.free.0 rest))
  at_t_then = set_elsewhere m t (with_item t can.free.0 above) (draft_rows old) parent.parent.not_itself ∙ at_t

  lengths_less : length (items_of (below xs (Then can.free.0 rest))) ≡ length (items_of (below xs rest)) + 1
  lengths_less =
      let p = ap length (items_below xs (Then can.free.0 rest)) ∙ length-append xs (can.free.0 ∷ items_of rest) in
      let q = ap length (items_below xs rest) ∙ length-append xs (items_of rest) in
      omega arith

  lower_place : place_of places m < place_of places t
  lower_place =
      let a = ap place_by parent.at_m in
      let b = ap place_by parent.at_t in
      let h = parent.before in
      omega arith

  pub move_raises : Raises limits places 1 old new
  move_raises = record {
    moves_up = λ like.
        subst (λ (rows : List CodeRow). ByMoves (code_with limits like (draft_rows old)) (code_with limits like rows)) (sym new_is)
        (Move m t above xs can.free.0 rest (may_move like) No_move);
    leaves =
        ap (map leaves_of) new_is
        ∙ map_set leaves_of (slice_set (draft_rows old) m (with_item t can.free.0 above)) t (below xs rest) (below xs (Then can.free.0 rest)) at_t_then
        (below-leaves xs rest ∙ sym (below-leaves xs (Then can.free.0 rest)))
        ∙ map_set leaves_of (draft_rows old) m (with_item t can.free.0 above) above at_m (with_item-leaves t can.free.0 above);
    lower = subst (λ (rows : List CodeRow). weigh (place_of places) 0 rows + 1 ≤ weigh (place_of places) 0 (draft_rows old)) (sym new_is)
        (weigh-moved (place_of places) (draft_rows old) m t above (with_item t can.free.0 above) (below xs (Then can.free.0 rest)) (below xs rest)
        (λ e. parent.parent.not_itself (sym e)) at_m at_t (let h = with_item-length t can.free.0 above in let e = once in omega arith) lengths_less lower_place);
    split = moves.split;
  }

-- ---- one after another

pub raises_none : (limits : Limits) (places : List (Option ℕ)) (rows : List Draft) → Raises limits places 0 rows rows
raises_none limits places rows = record { moves_up = λ like. No_move; leaves = refl; lower = omega arith; split = λ all. all }

-- ---- rows with the same leaves

pub record SameLeaves (rows : List CodeRow) (i : ℕ) (row : CodeRow) : Type 0 where
  pub now : CodeRow
  pub at : slice_get rows i ≡ Some now
  pub same : leaves_of now ≡ leaves_of row

pub same_leaves : (old new : List CodeRow) (i : ℕ) (row : CodeRow) → map leaves_of new ≡ map leaves_of old → slice_get old i ≡ Some row → SameLeaves new i row
same_leaves old new i row e at = by_entry (slice_get new i) refl
    (sym (slice_get-map leaves_of new i) ∙ ap (λ (l : List (List Leaf)). slice_get l i) e ∙ slice_get-map leaves_of old i ∙ ap (option_map leaves_of) at)
  where
    by_entry : (r : Option CodeRow) → slice_get new i ≡ r → option_map leaves_of r ≡ Some (leaves_of row) → SameLeaves new i row
    by_entry (Some now) there h = record { now = now; at = there; same = (cc) }
    by_entry None there h = absurd (cc)

pub still_above : (old new : List CodeRow) (it : Parents) → map leaves_of new ≡ map leaves_of old → StandAbove old it → StandAbove new it
still_above old new it e stand m t is =
    let was = stand m t is in
    let now = same_leaves old new m was.parent.row e was.parent.at in
    record {
      parent = record {
        row = now.now;
        at = now.at;
        once = ap (count_by (is_goto t)) now.same ∙ was.parent.once;
        alone = λ i other at apart.
            let before = same_leaves new old i other (sym e) at in
            ap (list_any (is_goto t)) (sym before.same) ∙ was.parent.alone i before.now before.at apart;
        not_entry = was.parent.not_entry;
        not_itself = was.parent.not_itself;
      };
      place = was.place;
      other = was.other;
      at_m = was.at_m;
      at_t = was.at_t;
      before = was.before;
    }

-- ---- a move in memory

map_of_set : {X Y : Type 0} (f : X → Y) (ys : List X) (i : ℕ) (x : X) → map f (slice_set ys i x) ≡ slice_set (map f ys) i (f x)
map_of_set f [] i x = refl
map_of_set f (y ∷ ys) zero x = refl
map_of_set f (y ∷ ys) (suc i) x = ap (λ l. f y ∷ l) (map_of_set f ys i x)

-- the item has been put above and taken out below
pub record IsMoved (old : List Draft) (m t i : ℕ) (above under then_under put left : Draft) (item : Item) : Type 0 where
  pub apart : m ≢ t
  pub low_m : m < length old
  pub low_t : t < length old
  pub low_i : i < length under.items.items
  pub above_is : above ≡ get_or old m above
  pub under_is : under ≡ get_or old t under
  pub item_is : item ≡ get_or under.items.items i item
  pub put_is : draft_row put ≡ with_item t item (draft_row above)
  pub put_split : IsSplit above → IsSplit put
  pub then_is : then_under ≡ get_or (slice_set old m put) t then_under
  pub left_is : left.items.items ≡ remove then_under.items.items i
  pub rest_is : left.rest ≡ then_under.rest

pub moved_up : (old : List Draft) (m t i : ℕ) (above under then_under put left : Draft) (item : Item) → IsMoved old m t i above under then_under put left item
    → MovesUp old (slice_set (slice_set old m put) t left) m t i
moved_up old m t i above under then_under put left item h = record {
  rows = λ first second x at_m at_t at_i.
      let one = above_there in
      let two = under_there in
      let three = then_there in
      let four = set_other old m t put h.apart in
      let five = slice_get_read under.items.items (length under.items.items) i item refl h.low_i h.item_is in
      let same_m : above ≡ first = (cc) in
      let same_t : under ≡ second = (cc) in
      let same_then : then_under ≡ second = (cc) in
      let at_item : slice_get under.items.items i ≡ Some x = ap (λ (d : Draft). slice_get d.items.items i) same_t ∙ at_i in
      let same_x : item ≡ x = (cc) in
      map_of_set draft_row (slice_set old m put) t left
      ∙ ap (λ (l : List CodeRow). slice_set l t (draft_row left)) (map_of_set draft_row old m put)
      ∙ ap (λ (r : CodeRow). slice_set (slice_set (draft_rows old) m r) t (draft_row left)) (h.put_is ∙ ap (λ (y : Item). with_item t y (draft_row above)) same_x
      ∙ ap (λ (d : Draft). with_item t x (draft_row d)) same_m)
      ∙ ap (λ (r : CodeRow). slice_set (slice_set (draft_rows old) m (with_item t x (draft_row first))) t r)
      (ap (λ (l : List Item). below l (row_of left.rest)) (h.left_is ∙ ap (λ (d : Draft). remove d.items.items i) same_then)
      ∙ ap (λ (r : CodeRow). below (remove second.items.items i) r) (ap row_of (h.rest_is ∙ ap (λ (d : Draft). d.rest) same_then)));
  split = λ all.
      let put_split = set_all IsSplit m put old (h.put_split (all_at IsSplit old m above all above_there)) all in
      let left_split = subst (λ (tree : RowTree Leaf). BeginsWithNoItem (row_of tree)) (sym h.rest_is) (all_at IsSplit (slice_set old m put) t then_under put_split then_there) in
      set_all IsSplit t left (slice_set old m put) left_split put_split;
}
  where
    above_there : slice_get old m ≡ Some above
    above_there = slice_get_read old (length old) m above refl h.low_m h.above_is

    under_there : slice_get old t ≡ Some under
    under_there = slice_get_read old (length old) t under refl h.low_t h.under_is

    then_there : slice_get (slice_set old m put) t ≡ Some then_under
    then_there = slice_get_read (slice_set old m put) (length old) t then_under (sym (set_length old m put)) h.low_t h.then_is

-- ---- what may rise

-- a row above is there
pub above_within : (rows : List Draft) (it : Parents) (m t : ℕ) → StandAbove (draft_rows rows) it → parent_of it t ≡ Some m → m < length rows
above_within rows it m t stand is =
    let within = slice_get_within (draft_rows rows) m (stand m t is).parent.row (stand m t is).parent.at in
    omega (arith, within, length-map rows draft_row)

pub some_within : (rows : List Draft) (it : Parents) (t : ℕ) (result : Option ℕ) → StandAbove (draft_rows rows) it → result ≡ parent_of it t
    → IfSome result (λ m. m < length rows)
some_within rows it t None stand is = tt
some_within rows it t (Some m) stand is = above_within rows it m t stand (sym is)

-- a row above is another one
pub above_apart : (rows : List Draft) (it : Parents) (m t : ℕ) → StandAbove (draft_rows rows) it → parent_of it t ≡ Some m → m ≢ t
above_apart rows it m t stand is e = (stand m t is).parent.not_itself (sym e)

-- an item that is not held may rise
pub may_rise : (limits : Limits) (rows : List Draft) (it : Parents) (m t i : ℕ) (above under : Draft) → parent_of it t ≡ Some m
    → m < length rows → t < length rows → above ≡ get_or rows m above → under ≡ get_or rows t under → MayGoUp limits above t under i → MayRise limits it rows m t i
may_rise limits rows it m t i above under is low_m low_t above_is under_is free = (
  is,
  record {
    above = above;
    under = under;
    at_m = slice_get_read rows (length rows) m above refl low_m above_is;
    at_t = slice_get_read rows (length rows) t under refl low_t under_is;
    free = free;
  },
)

-- where all items of a row stay, it is settled
pub settled_by : (limits : Limits) (rows : List Draft) (it : Parents) (m t : ℕ) (above under : Draft) → parent_of it t ≡ Some m
    → m < length rows → t < length rows → above ≡ get_or rows m above → under ≡ get_or rows t under → FirstStay limits above t under (length under.items.items)
    → IsSettled limits it rows t
settled_by limits rows it m t above under is low_m low_t above_is under_is stay k first second other at_k at_t =
    let same : m ≡ k = (cc) in
    let at_m = slice_get_read rows (length rows) m above refl low_m above_is in
    let there = slice_get_read rows (length rows) t under refl low_t under_is in
    let e = ap (λ (n : ℕ). slice_get rows n) same in
    let one : above ≡ first = (cc) in
    let two : under ≡ second = (cc) in
    subst (λ (d : Draft). FirstStay limits first t d (length d.items.items)) two (subst (λ (d : Draft). FirstStay limits d t under (length under.items.items)) one stay)

-- ---- what a move needs and gives

pub may_within : (limits : Limits) (it : Parents) (rows : List Draft) (m t i : ℕ) → MayRise limits it rows m t i → (m < length rows) × (t < length rows)
may_within limits it rows m t i may = (slice_get_within rows m may.1.above may.1.at_m, slice_get_within rows t may.1.under may.1.at_t)

pub may_there : (limits : Limits) (it : Parents) (rows : List Draft) (m t i : ℕ) (draft : Draft) → MayRise limits it rows m t i → slice_get rows t ≡ Some draft
    → i < length draft.items.items
may_there limits it rows m t i draft may at =
    let at_t = may.1.at_t in
    let same : may.1.under ≡ draft = (cc) in
    subst (λ (d : Draft). i < length d.items.items) same (slice_get_within may.1.under.items.items i may.1.free.0 may.1.free.1)

pub may_raises : (limits : Limits) (it : Parents) (old new : List Draft) (m t i : ℕ) → StandAbove (draft_rows old) it → MayRise limits it old m t i → MovesUp old new m t i
    → Raises limits it.listing.places.items 1 old new
may_raises limits it old new m t i stand may moves = move_raises limits it.listing.places.items old new m t i moves (stand m t may.0) may.1

pub as_many_rows : (limits : Limits) (places : List (Option ℕ)) (n : ℕ) (old new : List Draft) → Raises limits places n old new → length new ≡ length old
as_many_rows limits places n old new raises =
    let a = ap length raises.leaves in
    let b = length-map (draft_rows new) leaves_of in
    let c = length-map (draft_rows old) leaves_of in
    omega (arith, a, b, c, length-map new draft_row, length-map old draft_row)

pub stand_then : (limits : Limits) (it : Parents) (places : List (Option ℕ)) (n : ℕ) (old new : List Draft) → Raises limits places n old new
    → StandAbove (draft_rows old) it → StandAbove (draft_rows new) it
stand_then limits it places n old new raises stand = still_above (draft_rows old) (draft_rows new) it raises.leaves stand

-- what follows from what holds of an Ok
pub ok_then : {T E : Type 0} (r : Result T E) (P Q : Type 0) → (P → Q) → OnOk r P → OnOk r Q
ok_then (Ok x) P Q f h = f h
ok_then (Err e) P Q f h = tt

-- at least as many moves
pub raises_more : (limits : Limits) (places : List (Option ℕ)) (n k : ℕ) (old mid new : List Draft) → Raises limits places n old mid → Raises limits places k mid new
    → Raises limits places n old new
raises_more limits places n k old mid new first more = record {
  moves_up = λ like. moves_on (first.moves_up like) (more.moves_up like);
  leaves = more.leaves ∙ first.leaves;
  split = λ all. more.split (first.split all);
  lower = (let a = first.lower in let b = more.lower in omega arith);
}
