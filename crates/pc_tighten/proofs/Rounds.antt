-- Round after round, until the code is compact.
use Rattle.std.proofs.Common.{◌≡◌, ℕ, suc, ◌+◌, ◌<◌, ◌≤◌, Bool, true, false, List, [], ◌∷◌}
use Rattle.std.proofs.Common.{◌++◌, map, length, take, drop, get_or, Option, Some, None, refl, sym, ◌∙◌, ap}
use Rattle.std.proofs.Common.{subst, append_assoc, inl, inr, length-append, arith}
use Rattle.std.specs.Prelude.{◌||◌, slice_get}
use Rattle.std.specs.List.{AllByRecursion, count_by, list_any}
use Rattle.std.specs.Option.{option_map}
use Rattle.std.proofs.lemmas.Option.{slice_get-get_or, slice_get-map, slice_get_within}
use Rattle.std.proofs.lemmas.List.{length-map}
use Rattle.pc_word.proofs.Lists.{all_at}
use Rattle.pc_word.specs.declared.item.Item.{Item}
use Rattle.pc_word.specs.declared.item.Operand.{Operand}
use Rattle.pc_word.specs.declared.item.Limits.{Limits}
use Rattle.pc_word.specs.Row.{Then, Either, At_leaf, items_of, tests_of, leaves_of}
use Rattle.pc_machine.specs.MachineCode.{CodeRow, RowCode, row_of, is_goto}
use Rattle.pc_tighten.specs.declared.draft.Draft.{Draft}
use Rattle.pc_tighten.specs.declared.parents.Parents.{Parents}
use Rattle.pc_tighten.specs.Compact.{paths_to, EachStays, Compact}
use Rattle.pc_tighten.specs.Moves.{below}
use Rattle.pc_tighten.specs.models.Drafts.{draft_row, draft_rows, BeginsWithNoItem, IsSplit, held, items_but, FirstStay}
use Rattle.pc_tighten.specs.models.Listing.{listed_of}
use Rattle.pc_tighten.specs.models.Parents.{IsParent, StandAbove, AreParents}
use Rattle.pc_tighten.proofs.Named.{has_parent, parent_has}
use Rattle.pc_tighten.proofs.Moves.{same_or_apart}
use Rattle.pc_tighten.proofs.Reaches.{any_of_goto, goto_of_any}
use Rattle.pc_machine.specs.Reachable.{IsReachable, Entry, Behind}
use Rattle.pc_tighten.specs.models.Raising.{place_of, weigh, code_with, Raises, IsSettled, HasRaised, AreSettledIf, IsAmongFirst, AreWithin, IsRaised}
use Rattle.pc_tighten.proofs.Drafting.{items_below}
use Rattle.pc_tighten.proofs.Ends.{paths-count, each_alone}
use Rattle.pc_tighten.proofs.WellMoved.{below-tests}
use Rattle.pc_tighten.proofs.Raised.{as_many_rows, held_is, raises_more, same_leaves, stand_then}

-- ---- rounds

pub has_raised_stands : (limits : Limits) (it : Parents) (old new : List Draft) (moved : Bool) → HasRaised limits it old new moved → StandAbove (draft_rows old) it
    → StandAbove (draft_rows new) it
has_raised_stands limits it old new true raised stand = stand_then limits it it.listing.places.items 1 old new raised stand
has_raised_stands limits it old new false same stand = subst (λ (rows : List Draft). StandAbove (draft_rows rows) it) (sym same) stand

pub has_raised_count : (limits : Limits) (it : Parents) (old new : List Draft) (moved : Bool) → HasRaised limits it old new moved → length new ≡ length old
has_raised_count limits it old new true raised = as_many_rows limits it.listing.places.items 1 old new raised
has_raised_count limits it old new false same = ap length same

pub has_raised_more : (limits : Limits) (it : Parents) (old mid new : List Draft) (moved : Bool) → HasRaised limits it old mid moved
    → Raises limits it.listing.places.items 1 mid new → Raises limits it.listing.places.items 1 old new
has_raised_more limits it old mid new true raised more = raises_more limits it.listing.places.items 1 1 old mid new raised more
has_raised_more limits it old mid new false same more =
    subst (λ (rows : List Draft). Raises limits it.listing.places.items 1 rows new) same more

pub has_raised_both : (limits : Limits) (it : Parents) (old mid new : List Draft) (first second both : Bool) → both ≡ (first || second)
    → HasRaised limits it old mid first → HasRaised limits it mid new second → HasRaised limits it old new both
has_raised_both limits it old mid new first true both is one two =
    subst (HasRaised limits it old new) (sym (is ∙ or_true first)) (has_raised_more limits it old mid new first one two)
  where
    or_true : (b : Bool) → (b || true) ≡ true
    or_true true = refl
    or_true false = refl
has_raised_both limits it old mid new true false both is one two =
    subst (HasRaised limits it old new) (sym is) (subst (λ (rows : List Draft). HasRaised limits it old rows true) (sym two) one)
has_raised_both limits it old mid new false false both is one two = subst (HasRaised limits it old new) (sym is) (two ∙ one)

pub settled_both : (limits : Limits) (it : Parents) (mid new : List Draft) (first second both : Bool) (n t : ℕ) → both ≡ (first || second)
    → HasRaised limits it mid new second → slice_get it.listing.order.items n ≡ Some t
    → AreSettledIf limits it (IsAmongFirst it.listing.order.items n) mid first → IsSettled limits it new t
    → AreSettledIf limits it (IsAmongFirst it.listing.order.items (n + 1)) new both
settled_both limits it mid new true second both n t is two at before this = subst (AreSettledIf limits it (IsAmongFirst it.listing.order.items (n + 1)) new) (sym is) tt
settled_both limits it mid new false true both n t is two at before this = subst (AreSettledIf limits it (IsAmongFirst it.listing.order.items (n + 1)) new) (sym is) tt
settled_both limits it mid new false false both n t is two at before this = subst (AreSettledIf limits it (IsAmongFirst it.listing.order.items (n + 1)) new) (sym is) each
  where
    each : (row : ℕ) → IsAmongFirst it.listing.order.items (n + 1) row → IsSettled limits it new row
    each row among = elim (same_or_apart among.0 n) [
      | inl same ↦
          let e = ap (λ (k : ℕ). slice_get it.listing.order.items k) same in
          let f = among.2 in
          let is_t : t ≡ row = (cc) in
          subst (λ (k : ℕ). IsSettled limits it new k) is_t this
      | inr apart ↦
          let low = among.1 in
          subst (λ (rows : List Draft). IsSettled limits it rows row) (sym two) (before row (among.0, omega arith, among.2))
    ]

-- ---- compact

-- where each item of a row before its first test stays, as it is said of places, each stays
each_stays_below : (limits : Limits) (above : CodeRow) (path before : List Item) (rest : CodeRow) → BeginsWithNoItem rest → EachStays limits above path before rest
each_stays_below limits above path before (Then item rest) none = absurd none
each_stays_below limits above path before (Either on on_yes on_no) none = tt
each_stays_below limits above path before (At_leaf leaf) none = tt

module _ (limits : Limits) (above : Draft) (t : ℕ) (path : List Item) (alone : paths_to t (draft_row above) ≡ path ∷ []) where
  each_stays_from : (under : Draft) (before items : List Item) → IsSplit under → under.items.items ≡ before ++ items → FirstStay limits above t under (length under.items.items)
      → EachStays limits (draft_row above) path before (below items (row_of under.rest))
  each_stays_from under before [] split is stay = each_stays_below limits (draft_row above) path before (row_of under.rest) split
  each_stays_from under before (x ∷ items) split is stay = (
    sym (held_is limits (draft_row above) t x (before ++ items_of (below items (row_of under.rest))) (tests_of (below items (row_of under.rest))) path alone)
        ∙ ap (λ (l : List Item). held limits (draft_row above) t x (before ++ l) (tests_of (below items (row_of under.rest)))) (items_below items (row_of under.rest))
        ∙ ap (λ (l : List Operand). held limits (draft_row above) t x (before ++ (items ++ items_of (row_of under.rest))) l) (below-tests items (row_of under.rest))
        ∙ ap (λ (l : List Item). held limits (draft_row above) t x l (tests_of (row_of under.rest))) others
        ∙ stay (length before) x low there,
    each_stays_from under (before ++ (x ∷ [])) items split (is ∙ sym (append_assoc before (x ∷ []) items)) stay,
  )
    where
      low : length before < length under.items.items
      low = let size = ap length is ∙ length-append before (x ∷ items) in omega arith

      there : slice_get under.items.items (length before) ≡ Some x
      there = ap (λ (l : List Item). slice_get l (length before)) is ∙ get_behind before x items
        where
          get_behind : (xs : List Item) (y : Item) (ys : List Item) → slice_get (xs ++ (y ∷ ys)) (length xs) ≡ Some y
          get_behind [] y ys = refl
          get_behind (z ∷ xs) y ys = get_behind xs y ys

      others : before ++ (items ++ items_of (row_of under.rest)) ≡ items_but under (length before)
      others =
          ap (λ (l : List Item). l ++ (items ++ items_of (row_of under.rest))) (sym (take_front before (x ∷ items)))
          ∙ ap (λ (l : List Item). take (length before) (before ++ (x ∷ items)) ++ (l ++ items_of (row_of under.rest))) (sym (drop_front before x items))
          ∙ ap (λ (l : List Item). take (length before) l ++ (drop (length before + 1) l ++ items_of (row_of under.rest))) (sym is)
        where
          take_front : (xs ys : List Item) → take (length xs) (xs ++ ys) ≡ xs
          take_front [] ys = refl
          take_front (z ∷ xs) ys = ap (λ l. z ∷ l) (take_front xs ys)

          drop_front : (xs : List Item) (y : Item) (ys : List Item) → drop (length xs + 1) (xs ++ (y ∷ ys)) ≡ ys
          drop_front [] y ys = refl
          drop_front (z ∷ xs) y ys =
              let next : suc (length xs) + 1 ≡ suc (length xs + 1) = omega arith in
              ap (λ (k : ℕ). drop k (z ∷ (xs ++ (y ∷ ys)))) next ∙ drop_front xs y ys

  pub each_stays : (under : Draft) → IsSplit under → FirstStay limits above t under (length under.items.items) → EachStays limits (draft_row above) path [] (draft_row under)
  each_stays under split stay = each_stays_from under [] under.items.items split refl stay

-- rows with the same leaves have the same reachable rows
still_reachable : (old new : List CodeRow) → map leaves_of new ≡ map leaves_of old → {i : ℕ} → IsReachable old i → IsReachable new i
still_reachable old new e Entry = Entry
still_reachable old new e (Behind {from = k} {number = i} {row = row} reached at leads) =
    let now = same_leaves old new k row e at in
    Behind (still_reachable old new e reached) now.at (goto_of_any i now.now (ap (list_any (is_goto i)) now.same ∙ any_of_goto i row leads))

-- a draft of a row that is there
draft_there : (rows : List Draft) (i : ℕ) (row : CodeRow) → slice_get (draft_rows rows) i ≡ Some row → (draft : Draft) × (slice_get rows i ≡ Some draft) × (draft_row draft ≡ row)
draft_there rows i row at = by_entry (slice_get rows i) refl (sym (slice_get-map draft_row rows i) ∙ at)
  where
    by_entry : (d : Option Draft) → slice_get rows i ≡ d → option_map draft_row d ≡ Some row → (draft : Draft) × (slice_get rows i ≡ Some draft) × (draft_row draft ≡ row)
    by_entry (Some d) there h = (d, there, (cc))
    by_entry None there h = absurd (cc)

-- where all rows of the list are settled the code is compact
pub settled_compact : (limits : Limits) (like : RowCode) (it : Parents) (old new : List Draft)
    → AreParents (draft_rows old) it → map leaves_of (draft_rows new) ≡ map leaves_of (draft_rows old)
    → AllByRecursion IsSplit new → AreSettledIf limits it (IsAmongFirst it.listing.order.items (length it.listing.order.items)) new false → Compact (code_with limits like (draft_rows new))
settled_compact limits like it old new are e split settled m t above under reached pair =
    let one = draft_there new m above pair.at_m in
    let two = draft_there new t under pair.at_t in
    let was = same_leaves (draft_rows new) (draft_rows old) m above (sym e) pair.at_m in
    let was_t = same_leaves (draft_rows new) (draft_rows old) t under (sym e) pair.at_t in
    let reached_then = still_reachable (draft_rows new) (draft_rows old) (sym e) reached in
    let parent : IsParent (draft_rows old) m t = record {
      row = was.now;
      at = was.at;
      once = ap (count_by (is_goto t)) was.same ∙ pair.only.once;
      alone = λ i other at apart.
          let now = same_leaves (draft_rows old) (draft_rows new) i other e at in
          ap (list_any (is_goto t)) (sym now.same) ∙ pair.only.alone i now.now now.at apart;
      not_entry = pair.not_entry;
      not_itself = pair.not_itself;
    } in
    let is = has_parent (draft_rows old) it.names.items are.0 (listed_of it.listing) m t are.1 reached_then (slice_get_within (draft_rows old) t was_t.now was_t.at) parent in
    let has = parent_has (draft_rows old) it.names.items are.0 it.listing.places.items m t is in
    let in_list = are.1.place_there t has.other has.at_t in
    let stay = settled t (has.other, slice_get_within it.listing.order.items has.other t in_list, in_list) m one.0 two.0 is one.1 two.1 in
    each_alone (paths_to t above) (λ path. EachStays limits above path [] under) (paths-count t above ∙ pair.only.once)
    (λ path alone.
    subst (λ (r : CodeRow). EachStays limits r path [] under) one.2
    (subst (λ (r : CodeRow). EachStays limits (draft_row one.0) path [] r) two.2
    (each_stays limits one.0 t path (ap (λ (r : CodeRow). paths_to t r) one.2 ∙ alone) two.0 (all_at IsSplit new t two.0 split two.1) stay)))

-- the rows in the list are there
pub listed_are_within : (rows : List Draft) (it : Parents) → AreParents (draft_rows rows) it → AreWithin it.listing.order.items (length rows)
listed_are_within rows it are k row at =
    let within = slice_get_within it.listing.places.items row (Some k) (are.1.row_there k row at) in
    let size = are.1.size in
    omega (arith, within, size, length-map rows draft_row)

-- what the parents say is so
pub parents_stand : (rows : List Draft) (it : Parents) → AreParents (draft_rows rows) it → StandAbove (draft_rows rows) it
parents_stand rows it are m t is = parent_has (draft_rows rows) it.names.items are.0 it.listing.places.items m t is

-- the row at a place of the list
pub row_there : (order items : List ℕ) (k : ℕ) → items ≡ order → k < length items → slice_get order k ≡ Some (get_or items k 0)
row_there order items k is low = ap (λ (l : List ℕ). slice_get l k) (sym is) ∙ slice_get-get_or items k 0 low

pub settled_more : (limits : Limits) (it : Parents) (rows : List Draft) (moved : Bool) (n k : ℕ) → n ≤ k → AreSettledIf limits it (IsAmongFirst it.listing.order.items k) rows moved
    → AreSettledIf limits it (IsAmongFirst it.listing.order.items n) rows moved
settled_more limits it rows true n k le settled = tt
settled_more limits it rows false n k le settled = λ t among. settled t (among.0, (let low = among.1 in omega arith), among.2)

-- ---- round after round

pub round_goes_on : (limits : Limits) (it : Parents) (old mid new : List Draft) (moved : Bool) → moved ≡ true → Raises limits it.listing.places.items 0 old mid
    → HasRaised limits it mid new moved → Raises limits it.listing.places.items 0 old new
round_goes_on limits it old mid new true is raises more = raises_more limits it.listing.places.items 0 1 old mid new raises more
round_goes_on limits it old mid new false is raises more = absurd (cc)

pub round_lowers : (limits : Limits) (it : Parents) (mid new : List Draft) (moved : Bool) → moved ≡ true → HasRaised limits it mid new moved
    → weigh (place_of it.listing.places.items) 0 (draft_rows new) < weigh (place_of it.listing.places.items) 0 (draft_rows mid)
round_lowers limits it mid new true is more = let lower = more.lower in omega arith
round_lowers limits it mid new false is more = absurd (cc)

pub round_ends : (limits : Limits) (it : Parents) (old mid new : List Draft) (moved : Bool) → moved ≡ false → AreParents (draft_rows old) it → AllByRecursion IsSplit old
    → Raises limits it.listing.places.items 0 old mid → HasRaised limits it mid new moved
    → AreSettledIf limits it (IsAmongFirst it.listing.order.items (length it.listing.order.items)) new moved → IsRaised limits (draft_rows old) (draft_rows new)
round_ends limits it old mid new true is are split raises same settled = absurd (cc)
round_ends limits it old mid new false is are split raises same settled =
    let now = subst (λ (rows : List Draft). Raises limits it.listing.places.items 0 old rows) (sym same) raises in
    record { moves_up = now.moves_up; compact = λ like. settled_compact limits like it old new are now.leaves (now.split split) settled }

pub rounds_within : (limits : Limits) (it : Parents) (old mid : List Draft) → AreParents (draft_rows old) it → Raises limits it.listing.places.items 0 old mid
    → AreWithin it.listing.order.items (length mid)
rounds_within limits it old mid are raises k row at =
    let within = listed_are_within old it are k row at in
    let count = as_many_rows limits it.listing.places.items 0 old mid raises in
    omega arith

pub rounds_stand : (limits : Limits) (it : Parents) (old mid : List Draft) → AreParents (draft_rows old) it → Raises limits it.listing.places.items 0 old mid
    → StandAbove (draft_rows mid) it
rounds_stand limits it old mid are raises = stand_then limits it it.listing.places.items 0 old mid raises (parents_stand old it are)
