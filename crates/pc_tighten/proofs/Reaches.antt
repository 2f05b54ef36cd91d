-- Rows that are reachable stay reachable.
use Rattle.std.proofs.Common.{◌≡◌, ℕ, zero, suc, Bool, true, false, List, [], ◌∷◌, Option, Some, None, refl, sym, ◌∙◌, ap, subst, inl, inr, arith}
use Rattle.std.specs.Prelude.{Contains, ◌≢◌, ◌||◌, if◌then◌else◌, nat_eq, slice_get, slice_set}
use Rattle.std.specs.List.{list_any}
use Rattle.std.specs.Option.{option_map}
use Rattle.std.proofs.lemmas.Option.{slice_get-map}
use Rattle.std.proofs.lemmas.List.Folds.{list_any-append, list_any_at}
use Rattle.pc_word.specs.declared.item.Item.{Item}
use Rattle.pc_word.proofs.Lists.{set_at}
use Rattle.pc_machine.specs.Reachable.{HasLeafTo, IsReachable, Entry, Behind}
use Rattle.pc_machine.specs.declared.tree.Leaf.{Leaf}
use Rattle.pc_machine.specs.declared.tree.Leaf.TheVariants.{Goto, Stop, Trap}
use Rattle.pc_machine.specs.MachineCode.{CodeRow, RowCode, is_goto}
use Rattle.pc_word.specs.Row.{Then, Either, At_leaf, leaves_of}
use Rattle.pc_tighten.specs.Tightened.{EachIsReachable}
use Rattle.pc_tighten.specs.Moves.{below, with_item, moved, MayMove}
use Rattle.pc_tighten.specs.Removals.{shifted, sent, sent_row, without_row, removed, IsGotoAlone}
use Rattle.pc_tighten.proofs.Lists.{nat_eq-refl, nat_eq-sound, nat_eq-apart}
use Rattle.pc_tighten.proofs.Rows.{below-leaves, set_here, set_elsewhere}
use Rattle.pc_tighten.proofs.WellMoved.{with_item-leaves}
use Rattle.pc_tighten.proofs.Moves.{same_or_apart}
use Rattle.pc_tighten.proofs.Removals.{without-at, entry_stays}

-- ---- a leaf that leads to a row

pub goto_leaf : (t : ℕ) (leaf : Leaf) → is_goto t leaf ≡ true → leaf ≡ Goto t
goto_leaf t (Goto row) e = ap Goto (nat_eq-sound row t e)
goto_leaf t Stop e = absurd (cc)
goto_leaf t (Trap kind line) e = absurd (cc)

-- where a leaf leads to a row, one of the leaves is that goto
pub any_of_goto : (t : ℕ) (row : CodeRow) → HasLeafTo row t → list_any (is_goto t) (leaves_of row) ≡ true
any_of_goto t row among = list_any_at (is_goto t) (leaves_of row) among.0 (Goto t) among.1 (ap (is_goto t) among.2 ∙ nat_eq-refl t)

among_leaves : (t : ℕ) (leaves : List Leaf) → list_any (is_goto t) leaves ≡ true → Contains leaves (Goto t)
among_leaves t [] e = absurd (cc)
among_leaves t (leaf ∷ leaves) e = by_test (is_goto t leaf) refl e (λ h. among_leaves t leaves h)
  where
    by_test : (b : Bool) → is_goto t leaf ≡ b → (b || list_any (is_goto t) leaves) ≡ true
        → (list_any (is_goto t) leaves ≡ true → Contains leaves (Goto t)) → Contains (leaf ∷ leaves) (Goto t)
    by_test true is h next = (0, omega arith, goto_leaf t leaf is)
    by_test false is h next = let there = next h in (suc there.0, (let low = there.1 in omega arith), there.2)

pub goto_of_any : (t : ℕ) (row : CodeRow) → list_any (is_goto t) (leaves_of row) ≡ true → HasLeafTo row t
goto_of_any t row e = among_leaves t (leaves_of row) e

-- ---- moves

record HasLeaves (rows : List CodeRow) (i : ℕ) (row : CodeRow) : Type 0 where
  now : CodeRow
  at : slice_get rows i ≡ Some now
  same : leaves_of now ≡ leaves_of row

module _ (code : RowCode) (m t : ℕ) (above : CodeRow) (xs : List Item) (x : Item) (rest : CodeRow) (may : MayMove code m t above xs x rest) where
  abbrev after : RowCode
  after = moved code m t above xs x rest

  leaves_stay : (i : ℕ) (row : CodeRow) → slice_get code.rows i ≡ Some row → HasLeaves after.rows i row
  leaves_stay i row at = elim (same_or_apart i t) [
    | inl here ↦
        let is = ap (λ (k : ℕ). slice_get code.rows k) here in
        let same : below xs (Then x rest) ≡ row = (let a = may.pair.at_t in cc) in
        record {
          now = below xs rest;
          at = ap (λ (k : ℕ). slice_get after.rows k) here ∙ set_here t (below xs rest) (below xs (Then x rest)) (slice_set code.rows m (with_item t x above)) (set_elsewhere m t
              (with_item t x above) code.rows may.pair.not_itself ∙ may.pair.at_t);
          same = below-leaves xs rest ∙ sym (below-leaves xs (Then x rest)) ∙ ap leaves_of same;
        }
    | inr not_t ↦ elim (same_or_apart i m) [
      | inl here ↦
          let is = ap (λ (k : ℕ). slice_get code.rows k) here in
          let same : above ≡ row = (let a = may.pair.at_m in cc) in
          record {
            now = with_item t x above;
            at = set_elsewhere t i (below xs rest) (slice_set code.rows m (with_item t x above)) not_t ∙ ap (λ (k : ℕ). slice_get (slice_set code.rows m (with_item t x above)) k) here
                ∙ set_here m (with_item t x above) above code.rows may.pair.at_m;
            same = with_item-leaves t x above ∙ ap leaves_of same;
          }
      | inr not_m ↦ record {
        now = row;
        at = set_elsewhere t i (below xs rest) (slice_set code.rows m (with_item t x above)) not_t ∙ set_elsewhere m i (with_item t x above) code.rows not_m ∙ at;
        same = refl;
      }
    ]
  ]

  pub move_keeps_reached : {i : ℕ} → IsReachable code.rows i → IsReachable after.rows i
  move_keeps_reached Entry = Entry
  move_keeps_reached (Behind {from = k} {number = i} {row = row} reached at leads) =
      let now = leaves_stay k row at in
      Behind (move_keeps_reached reached) now.at (goto_of_any i now.now (ap (list_any (is_goto i)) now.same ∙ any_of_goto i row leads))

-- ---- removals

module _ (t u : ℕ) where
  sent-leads : (i : ℕ) (row : CodeRow) → list_any (is_goto i) (leaves_of row) ≡ true → list_any (is_goto (sent t u i)) (leaves_of (sent_row t u row)) ≡ true
  sent-leads i (Then item rest) h = sent-leads i rest h
  sent-leads i (Either on on_yes on_no) h =
      list_any-append (is_goto (sent t u i)) (leaves_of (sent_row t u on_yes)) (leaves_of (sent_row t u on_no))
      ∙ either (list_any (is_goto i) (leaves_of on_yes)) refl (λ a. sent-leads i on_yes a)
      (λ b. sent-leads i on_no b) (sym (list_any-append (is_goto i) (leaves_of on_yes) (leaves_of on_no)) ∙ h)
    where
      right : (a b : Bool) → b ≡ true → (a || b) ≡ true
      right true b e = refl
      right false b e = e

      either : (a : Bool) → list_any (is_goto i) (leaves_of on_yes) ≡ a
          → (list_any (is_goto i) (leaves_of on_yes) ≡ true → list_any (is_goto (sent t u i)) (leaves_of (sent_row t u on_yes)) ≡ true)
          → (list_any (is_goto i) (leaves_of on_no) ≡ true → list_any (is_goto (sent t u i)) (leaves_of (sent_row t u on_no)) ≡ true)
          → (a || list_any (is_goto i) (leaves_of on_no)) ≡ true
          → (list_any (is_goto (sent t u i)) (leaves_of (sent_row t u on_yes)) || list_any (is_goto (sent t u i)) (leaves_of (sent_row t u on_no))) ≡ true
      either true is first second e = ap (λ (b : Bool). b || list_any (is_goto (sent t u i)) (leaves_of (sent_row t u on_no))) (first is)
      either false is first second e = right (list_any (is_goto (sent t u i)) (leaves_of (sent_row t u on_yes))) (list_any (is_goto (sent t u i)) (leaves_of (sent_row t u on_no))) (second e)
  sent-leads i (At_leaf (Goto row)) h =
      let same : row ≡ i = nat_eq-sound row i (left (nat_eq row i) h) in
      ap (λ (b : Bool). b || false) (ap (λ (k : ℕ). nat_eq (sent t u row) (sent t u k)) (sym same) ∙ nat_eq-refl (sent t u row))
    where
      left : (a : Bool) → (a || false) ≡ true → a ≡ true
      left true e = refl
      left false e = e
  sent-leads i (At_leaf Stop) h = absurd (cc)
  sent-leads i (At_leaf (Trap kind line)) h = absurd (cc)

module _ (code : RowCode) (t u : ℕ) (may : IsGotoAlone code.rows t u) where
  sent-at : (i : ℕ) (row : CodeRow) → i ≢ t → slice_get code.rows i ≡ Some row → slice_get (removed code t u).rows (sent t u i) ≡ Some (sent_row t u row)
  sent-at i row apart at =
      let e : sent t u i ≡ shifted t i = ap (λ (b : Bool). if b then shifted t u else shifted t i) (nat_eq-apart i t apart) in
      ap (λ (k : ℕ). slice_get (removed code t u).rows k) e
      ∙ slice_get-map (sent_row t u) (without_row t code.rows) (shifted t i)
      ∙ ap (option_map (sent_row t u)) (without-at t i code.rows apart ∙ at)

  -- where a row was reached, the row that its number is sent to is
  pub removal_keeps_reached : {i : ℕ} → IsReachable code.rows i → IsReachable (removed code t u).rows (sent t u i)
  removal_keeps_reached Entry = subst (λ (k : ℕ). IsReachable (removed code t u).rows k) (sym (entry_stays t u may.not_entry)) Entry
  removal_keeps_reached (Behind {from = k} {number = i} {row = row} reached at leads) = elim (same_or_apart k t) [
    | inl here ↦
        let is = ap (λ (n : ℕ). slice_get code.rows n) here in
        let same : row ≡ At_leaf (Goto u) = (let a = may.at in cc) in
        let to : u ≡ i = only (subst (λ (r : CodeRow). list_any (is_goto i) (leaves_of r) ≡ true) same (any_of_goto i row leads)) in
        let e : sent t u k ≡ sent t u i =
        ap (λ (n : ℕ). sent t u n) here ∙ ap (λ (b : Bool). if b then shifted t u else shifted t t) (nat_eq-refl t)
        ∙ sym (ap (λ (b : Bool). if b then shifted t u else shifted t u) (nat_eq-apart u t may.not_itself)) ∙ ap (λ (n : ℕ). sent t u n) to in
        subst (λ (n : ℕ). IsReachable (removed code t u).rows n) e (removal_keeps_reached reached)
    | inr apart ↦ Behind (removal_keeps_reached reached) (sent-at k row apart at) (goto_of_any (sent t u i) (sent_row t u row) (sent-leads t u i row (any_of_goto i row leads)))
  ]
    where
      left : (a : Bool) → (a || false) ≡ true → a ≡ true
      left true e = refl
      left false e = e

      only : list_any (is_goto i) (leaves_of (At_leaf (Goto u))) ≡ true → u ≡ i
      only h = nat_eq-sound u i (left (nat_eq u i) h)

-- each row that is left is one that was there
pub unshifted : (t j : ℕ) → (i : ℕ) × (i ≢ t) × (shifted t i ≡ j)
unshifted zero j = (suc j, (λ e. absurd (cc)), refl)
unshifted (suc t) zero = (0, (λ e. absurd (cc)), refl)
unshifted (suc t) (suc j) = let h = unshifted t j in (suc h.0, (λ e. h.1 (cc)), ap suc h.2)

module _ (code : RowCode) (t u : ℕ) where
  -- a row that is left was there
  pub record WasRow (j : ℕ) (now : CodeRow) : Type 0 where
    pub was : ℕ
    pub apart : was ≢ t
    pub is : shifted t was ≡ j
    pub row : CodeRow
    pub at : slice_get code.rows was ≡ Some row
    pub same : sent_row t u row ≡ now

  pub was_row : (j : ℕ) (now : CodeRow) → slice_get (removed code t u).rows j ≡ Some now → WasRow j now
  was_row j now at =
      let h = unshifted t j in
      find h.0 h.1 h.2 (slice_get code.rows h.0) refl
    where
      find : (i : ℕ) → i ≢ t → shifted t i ≡ j → (r : Option CodeRow) → slice_get code.rows i ≡ r → WasRow j now
      find i apart is r e = pick r e (sym (ap (option_map (sent_row t u)) (without-at t i code.rows apart ∙ e))
          ∙ sym (slice_get-map (sent_row t u) (without_row t code.rows) (shifted t i)) ∙ ap (λ (k : ℕ). slice_get (removed code t u).rows k) is ∙ at)
        where
          pick : (r : Option CodeRow) → slice_get code.rows i ≡ r → option_map (sent_row t u) r ≡ Some now → WasRow j now
          pick (Some row) e f = record { was = i; apart = apart; is = is; row = row; at = e; same = (cc) }
          pick None e f = absurd (cc)

-- ---- all rows

-- a row that stands where one was replaced stood there before, or another did
stood : (rows : List CodeRow) (k i : ℕ) (new old row : CodeRow) → slice_get rows k ≡ Some old → slice_get (slice_set rows k new) i ≡ Some row
    → (was : CodeRow) × (slice_get rows i ≡ Some was)
stood rows k i new old row at h = elim (set_at rows k i new row h) [
  | inl here ↦ (old, ap (λ (n : ℕ). slice_get rows n) here.0 ∙ at)
  | inr other ↦ (row, other.1)
]

pub move_keeps_all_reached : (code : RowCode) (m t : ℕ) (above : CodeRow) (xs : List Item) (x : Item) (rest : CodeRow) → MayMove code m t above xs x rest
    → EachIsReachable code.rows → EachIsReachable (moved code m t above xs x rest).rows
move_keeps_all_reached code m t above xs x rest may all i row at =
    let first = slice_set code.rows m (with_item t x above) in
    let at_t = set_elsewhere m t (with_item t x above) code.rows may.pair.not_itself ∙ may.pair.at_t in
    let later = stood first t i (below xs rest) (below xs (Then x rest)) row at_t at in
    let was = stood code.rows m i (with_item t x above) above later.0 may.pair.at_m later.1 in
    move_keeps_reached code m t above xs x rest may (all i was.0 was.1)

pub removal_keeps_all_reached : (code : RowCode) (t u : ℕ) → IsGotoAlone code.rows t u → EachIsReachable code.rows → EachIsReachable (removed code t u).rows
removal_keeps_all_reached code t u may all j now at =
    let h = was_row code t u j now at in
    let e : sent t u h.was ≡ j = ap (λ (b : Bool). if b then shifted t u else shifted t h.was) (nat_eq-apart h.was t h.apart) ∙ h.is in
    subst (λ (n : ℕ). IsReachable (removed code t u).rows n) e (removal_keeps_reached code t u may (all h.was h.row h.at))
