-- Lists of reachable rows in the making.
use Rattle.std.proofs.Common.{◌≡◌, ◌≢◌, ℕ, zero, suc, ◌+◌, ◌<◌, ◌≤◌, ◌⊎◌, inl, inr, Bool, true, false}
use Rattle.std.proofs.Common.{List, [], ◌∷◌, ◌++◌, length, Option, Some, None, refl, sym, ◌∙◌, ap, subst, arith}
use Rattle.std.specs.Prelude.{◌||◌, is_some, slice_get, slice_set, replicate}
use Rattle.std.specs.List.{count_by, list_any}
use Rattle.std.proofs.lemmas.Option.{slice_get_within, slice_get-get_or}
use Rattle.std.proofs.lemmas.List.Sums.{count_by-le-length}
use Rattle.std.proofs.lemmas.List.{get_or-replicate, length-replicate}
use Rattle.pc_word.proofs.Lists.{count_more, set_at, set_length}
use Rattle.pc_word.specs.Row.{leaves_of}
use Rattle.pc_machine.specs.declared.tree.Leaf.{Leaf}
use Rattle.pc_machine.specs.declared.tree.Leaf.TheVariants.{Goto, Stop, Trap}
use Rattle.pc_machine.specs.MachineCode.{CodeRow, is_goto}
use Rattle.pc_machine.specs.Reachable.{Entry, Behind}
use Rattle.pc_tighten.specs.models.Listing.{Listed, put_row, with_listed, with_target, with_targets, LeadsFrom, IsBehind, IsListing, IsList, AreListed, nothing_listed, AllListed}
use Rattle.pc_tighten.proofs.Lists.{nat_eq-refl}
use Rattle.pc_tighten.proofs.Reaches.{goto_leaf, any_of_goto}
use Rattle.pc_word.proofs.Places.{get_front, get_last, get_more, length_more, set_there, set_elsewhere}

pub with_targets_append : (xs ys : List Leaf) (it : Listed) → with_targets (xs ++ ys) it ≡ with_targets ys (with_targets xs it)
with_targets_append [] ys it = refl
with_targets_append (leaf ∷ xs) ys it = with_targets_append xs ys (with_target leaf it)

pub ruleset targets = (with_targets_append)

-- ---- tables

-- a row that gets a place is counted
count_set : (xs : List (Option ℕ)) (i x : ℕ) → slice_get xs i ≡ Some None → count_by is_some (slice_set xs i (Some x)) ≡ suc (count_by is_some xs)
count_set [] i x e = absurd (cc)
count_set (None ∷ xs) zero x e =
    let more = count_more is_some (Some x) xs in
    let before = count_more is_some None xs in
    omega (arith, more, before)
count_set (Some y ∷ xs) zero x e = absurd (cc)
count_set (y ∷ xs) (suc i) x e =
    let more = count_more is_some y (slice_set xs i (Some x)) in
    let before = count_more is_some y xs in
    let rest = count_set xs i x e in
    omega (arith, more, before, rest)

-- in a table of nothing nothing is found
none_there : (count i x : ℕ) → slice_get (replicate count None) i ≡ Some (Some x) → ⊥
none_there count i x e =
    let nothing : Option ℕ = None in
    let within = slice_get_within (replicate count None) i (Some x) e in
    let fewer : i < count = omega (arith, within, length-replicate count nothing) in
    let there = slice_get-get_or (replicate count None) i None within ∙ ap Some (get_or-replicate count i None None fewer) in
    cc

-- and nothing is counted
none_counted : (count : ℕ) → count_by is_some (replicate count (let nothing : Option ℕ = None in nothing)) ≡ 0
none_counted zero = refl
none_counted (suc count) =
    let nothing : Option ℕ = None in
    let more = count_more is_some nothing (replicate count nothing) in
    let rest = none_counted count in
    omega (arith, more, rest)

-- ---- a row more

-- what had a place still has it
abbrev Keeps : Listed → Listed → Type 0
Keeps old new = (row place : ℕ) → slice_get old.places row ≡ Some (Some place) → slice_get new.places row ≡ Some (Some place)

-- the list with a row after the others
abbrev next_listed : Listed → ℕ → Listed
next_listed it t = record { places = slice_set it.places t (Some (length it.order)); order = it.order ++ (t ∷ []) }

module _ (rows : List CodeRow) where
  keeps_next : (it : Listed) (t : ℕ) → slice_get it.places t ≡ Some None → Keeps it (next_listed it t)
  keeps_next it t none row place there = set_elsewhere it.places t row (Some (length it.order)) apart ∙ there
    where
      apart : t ≢ row
      apart same = let e : slice_get it.places row ≡ Some None = subst (λ (n : ℕ). slice_get it.places n ≡ Some None) same none in cc

  -- why the row may stand there
  abbrev MayStand : Listed → ℕ → Type 0
  MayStand it t = (t ≡ 0) ⊎ ((m : ℕ) × (k : ℕ) × (slice_get it.places m ≡ Some (Some k)) × (k < length it.order) × LeadsFrom rows m t)

  behind_keeps : (old new : Listed) (row place : ℕ) → Keeps old new → IsBehind rows old row place → IsBehind rows new row place
  behind_keeps old new row place keeps (inl e) = inl e
  behind_keeps old new row place keeps (inr h) = inr (h.0, h.1, keeps h.0 h.1 h.2, h.3, h.4)

  next_is_listing : (it : Listed) (done t : ℕ) → IsListing rows it done → slice_get it.places t ≡ Some None → MayStand it t → IsListing rows (next_listed it t) done
  next_is_listing it done t is none may =
      let keeps = keeps_next it t none in
      let last = length it.order in
      record {
        size = set_length it.places t (Some last) ∙ is.size;
        few = (let a = is.few in let b = length_more it.order t in omega arith);
        as_many = length_more it.order t ∙ ap suc is.as_many ∙ sym (count_set it.places t last none);
        place_there = λ row place e. elim (set_at it.places t row (Some last) (Some place) e) [
          | inl h ↦
              let is_place : last ≡ place = (cc) in
              subst (λ (n : ℕ). slice_get (it.order ++ (t ∷ [])) n ≡ Some row) is_place (get_last it.order t ∙ ap (λ (n : ℕ). Some n) (sym h.0))
          | inr h ↦ get_front it.order (t ∷ []) place row (is.place_there row place h.1)
        ];
        row_there = λ place row e. elim (get_more it.order t place row e) [
          | inl h ↦ keeps row place (is.row_there place row h)
          | inr h ↦
              subst (λ (n : ℕ). slice_get (slice_set it.places t (Some last)) n ≡ Some (Some place)) h.1
              (set_there it.places t (Some last) (slice_get_within it.places t None none) ∙ ap (λ (n : ℕ). Some (Some n)) (sym h.0))
        ];
        behind = λ row place e. elim (set_at it.places t row (Some last) (Some place) e) [
          | inl h ↦
              let is_place : last ≡ place = (cc) in
              behind_keeps it (next_listed it t) row place keeps
              (subst (λ (n : ℕ). IsBehind rows it n place) (sym h.0) (subst (λ (n : ℕ). IsBehind rows it t n) is_place may))
          | inr h ↦ behind_keeps it (next_listed it t) row place keeps (is.behind row place h.1)
        ];
        closed = λ place m to low at leads inside. elim (get_more it.order t place m at) [
          | inl h ↦ (let led = is.closed place m to low h leads inside in (led.0, keeps to led.0 led.1))
          | inr h ↦ (let a = h.0 in let b = is.few in absurd (omega arith))
        ];
      }

  -- a list with a row more or as it was
  record Grows (it new : Listed) (done : ℕ) : Type 0 where
    is : IsListing rows new done
    keeps : Keeps it new

  with_listed_grows : (it : Listed) (done t : ℕ) → IsListing rows it done → MayStand it t
      → Grows it (with_listed t it) done × (t < length rows → (k : ℕ) × (slice_get (with_listed t it).places t ≡ Some (Some k)))
  with_listed_grows it done t is may = by_entry (slice_get it.places t) refl
    where
      by_entry : (e : Option (Option ℕ)) → slice_get it.places t ≡ e
          → Grows it (put_row e t it) done × (t < length rows → (k : ℕ) × (slice_get (put_row e t it).places t ≡ Some (Some k)))
      by_entry (Some None) e = (
        record { is = next_is_listing it done t is e may; keeps = keeps_next it t e },
        (λ inside. (length it.order, set_there it.places t (Some (length it.order)) (slice_get_within it.places t None e))),
      )
      by_entry (Some (Some k)) e = (record { is = is; keeps = λ row place there. there }, (λ inside. (k, e)))
      by_entry None e = (
        record { is = is; keeps = λ row place there. there },
        (λ inside.
            let size = is.size in
            let within : t < length it.places = omega arith in
            let nothing : Option ℕ = None in
            let there = slice_get-get_or it.places t nothing within in
            absurd (cc)),
      )

  -- ---- the targets of a row

  module _ (m done : ℕ) (row : CodeRow) (at_m : slice_get rows m ≡ Some row) where
    -- with the targets of these leaves, of which each is a leaf of the row
    targets_grow : (leaves : List Leaf) (it : Listed) → ((t : ℕ) → list_any (is_goto t) leaves ≡ true → list_any (is_goto t) (leaves_of row) ≡ true)
        → IsListing rows it done → slice_get it.places m ≡ Some (Some done) → done < length it.order
        → Grows it (with_targets leaves it) done
        × ((t : ℕ) → list_any (is_goto t) leaves ≡ true → t < length rows → (k : ℕ) × (slice_get (with_targets leaves it).places t ≡ Some (Some k)))
    targets_grow [] it among is there low = (record { is = is; keeps = λ r place e. e }, (λ t e inside. absurd (cc)))
    targets_grow (Goto to ∷ leaves) it among is there low =
        let leads : list_any (is_goto to) (leaves_of row) ≡ true = among to (ap (λ (b : Bool). b || list_any (is_goto to) leaves) (nat_eq-refl to)) in
        let first = with_listed_grows it done to is (inr (m, done, there, low, record { row = row; at = at_m; leads = leads })) in
        let kept = first.0.keeps m done there in
        let low_then = slice_get_within (with_listed to it).order done m (first.0.is.place_there m done kept) in
        let rest = targets_grow leaves (with_listed to it) (λ t e. among t (later (is_goto t (Goto to)) (list_any (is_goto t) leaves) e)) first.0.is kept low_then in (
          record { is = rest.0.is; keeps = λ r place e. rest.0.keeps r place (first.0.keeps r place e) },
          (λ t e inside. by_test t (is_goto t (Goto to)) refl e first.1 rest.1 rest.0.keeps inside),
        )
      where
        later : (a b : Bool) → b ≡ true → (a || b) ≡ true
        later true b e = refl
        later false b e = e

        by_test : (t : ℕ) (b : Bool) → is_goto t (Goto to) ≡ b → (b || list_any (is_goto t) leaves) ≡ true
            → (to < length rows → (k : ℕ) × (slice_get (with_listed to it).places to ≡ Some (Some k)))
            → ((u : ℕ) → list_any (is_goto u) leaves ≡ true → u < length rows → (k : ℕ) × (slice_get (with_targets leaves (with_listed to it)).places u ≡ Some (Some k)))
            → Keeps (with_listed to it) (with_targets leaves (with_listed to it)) → t < length rows
            → (k : ℕ) × (slice_get (with_targets leaves (with_listed to it)).places t ≡ Some (Some k))
        by_test t true e h here more keeps inside =
            let is_to : Goto to ≡ Goto t = goto_leaf t (Goto to) e in
            let same : to ≡ t = (cc) in
            subst (λ (n : ℕ). (k : ℕ) × (slice_get (with_targets leaves (with_listed to it)).places n ≡ Some (Some k))) same
            (let led = here (subst (λ (n : ℕ). n < length rows) (sym same) inside) in (led.0, keeps to led.0 led.1))
        by_test t false e h here more keeps inside = more t h inside
    targets_grow (Stop ∷ leaves) it among is there low = targets_grow leaves it among is there low
    targets_grow (Trap kind line ∷ leaves) it among is there low = targets_grow leaves it among is there low

  -- ---- the loop

  nothing_is_listing : IsListing rows (nothing_listed (length rows)) 0
  nothing_is_listing = record {
    size = length-replicate (length rows) None;
    few = omega arith;
    as_many = sym (none_counted (length rows));
    place_there = λ row place e. absurd (none_there (length rows) row place e);
    row_there = λ place row e. absurd (cc);
    behind = λ row place e. absurd (none_there (length rows) row place e);
    closed = λ place m t low at leads inside. absurd (omega arith);
  }

  pub list_begins : (it : Listed) → it ≡ with_listed 0 (nothing_listed (length rows)) → IsList rows it 0
  list_begins it is =
      let first = with_listed_grows (nothing_listed (length rows)) 0 0 nothing_is_listing (inl refl) in
      subst (λ (l : Listed). IsList rows l 0) (sym is) (record { listing = first.0.is; entry = first.1 })

  listing_goes_on : (it : Listed) (done m : ℕ) (row : CodeRow) → IsListing rows it done → slice_get it.order done ≡ Some m → slice_get rows m ≡ Some row
      → IsListing rows (with_targets (leaves_of row) it) (suc done)
  listing_goes_on it done m row is here at =
      let there = is.row_there done m here in
      let grown = targets_grow m done row at (leaves_of row) it (λ t e. e) is there (slice_get_within it.order done m here) in
      let new = with_targets (leaves_of row) it in
      let now = grown.0.is in
      let here_now = now.place_there m done (grown.0.keeps m done there) in
      record {
        size = now.size;
        few = slice_get_within new.order done m here_now;
        as_many = now.as_many;
        place_there = now.place_there;
        row_there = now.row_there;
        behind = now.behind;
        closed = λ place k t low found leads inside. last place k t low found leads inside now.closed grown.1 here_now;
      }
    where
      last : (place k t : ℕ) → place < suc done → slice_get (with_targets (leaves_of row) it).order place ≡ Some k → LeadsFrom rows k t → t < length rows
          → ((p n u : ℕ) → p < done → slice_get (with_targets (leaves_of row) it).order p ≡ Some n → LeadsFrom rows n u → u < length rows
          → (j : ℕ) × (slice_get (with_targets (leaves_of row) it).places u ≡ Some (Some j)))
          → ((u : ℕ) → list_any (is_goto u) (leaves_of row) ≡ true → u < length rows → (j : ℕ) × (slice_get (with_targets (leaves_of row) it).places u ≡ Some (Some j)))
          → slice_get (with_targets (leaves_of row) it).order done ≡ Some m
          → (j : ℕ) × (slice_get (with_targets (leaves_of row) it).places t ≡ Some (Some j))
      last place k t low found leads inside before these here_now = elim (decide place done low) [
        | inl less ↦ before place k t less found leads inside
        | inr same ↦
            let e = ap (λ (n : ℕ). slice_get (with_targets (leaves_of row) it).order n) same in
            let is_m : k ≡ m = (cc) in
            let f = ap (λ (n : ℕ). slice_get rows n) is_m in
            let at_k = leads.at in
            let is_row : leads.row ≡ row = (cc) in
            these t (subst (λ (r : CodeRow). list_any (is_goto t) (leaves_of r) ≡ true) is_row leads.leads) inside
      ]
        where
          decide : (a b : ℕ) → a < suc b → (a < b) ⊎ (a ≡ b)
          decide a b h = grind arith

  -- from the parts of what stands in memory
  pub list_begins_with : (it : Listed) (places : List (Option ℕ)) (order : List ℕ) (count : ℕ) → count ≡ length rows → places ≡ replicate count None → order ≡ []
      → it ≡ with_listed 0 (record { places = places; order = order }) → IsList rows it 0
  list_begins_with it places order count size none empty is =
      let first = ap (λ (n : ℕ). replicate n (let nothing : Option ℕ = None in nothing)) size in
      list_begins it (is ∙ ap (λ (l : List (Option ℕ)). with_listed 0 (record { places = l; order = order })) (none ∙ first)
      ∙ ap (λ (l : List ℕ). with_listed 0 (record { places = replicate (length rows) None; order = l })) empty)

  pub list_goes_on : (it new : Listed) (done m : ℕ) (row : CodeRow) → IsList rows it done → slice_get it.order done ≡ Some m → slice_get rows m ≡ Some row
      → new ≡ with_targets (leaves_of row) it → IsList rows new (done + 1)
  list_goes_on it new done m row list here at is =
      let there = list.listing.row_there done m here in
      let grown = targets_grow m done row at (leaves_of row) it (λ t e. e) list.listing there (slice_get_within it.order done m here) in
      let next : suc done ≡ done + 1 = omega arith in
      subst (λ (l : Listed). IsList rows l (done + 1)) (sym is) (subst (λ (n : ℕ). IsList rows (with_targets (leaves_of row) it) n) next (record {
        listing = listing_goes_on it done m row list.listing here at;
        entry = λ some. let was = list.entry some in (was.0, grown.0.keeps 0 was.0 was.1);
      }))

  -- once all rows in the list are done, each reachable row is there
  pub all_listed : (it : Listed) (done : ℕ) → IsListing rows it done → length it.order ≤ done
      → (0 < length rows → (k : ℕ) × (slice_get it.places 0 ≡ Some (Some k))) → AllListed rows it
  all_listed it done is all entry _ Entry inside = entry inside
  all_listed it done is all entry at (Behind {from} {number} {row} reached here leads) inside =
      let before = all_listed it done is all entry from reached (slice_get_within rows from row here) in
      let found = is.place_there from before.0 before.1 in
      let low = slice_get_within it.order before.0 from found in
      is.closed before.0 from at (omega (arith, low, all)) found (record { row = row; at = here; leads = any_of_goto at row leads }) inside

  pub are_listed : (it : Listed) (done : ℕ) → IsList rows it done → length it.order ≤ done → AreListed rows it
  are_listed it done list all = record {
    size = list.listing.size;
    place_there = list.listing.place_there;
    row_there = list.listing.row_there;
    behind = list.listing.behind;
    all = all_listed it done list.listing all list.entry;
  }

  -- a row in the list is one of the code
  pub listed_within : (it : Listed) (done place m : ℕ) → IsList rows it done → slice_get it.order place ≡ Some m → m < length rows
  listed_within it done place m list at =
      let within = slice_get_within it.places m (Some place) (list.listing.row_there place m at) in
      let size = list.listing.size in
      omega arith

  -- there are no more rows in the list than in the code
  pub done_within : (it : Listed) (done : ℕ) → IsList rows it done → length it.order ≤ length rows
  done_within it done list =
      let counted = count_by-le-length is_some it.places in
      let as_many = list.listing.as_many in
      let size = list.listing.size in
      omega (arith, counted, as_many, size)
