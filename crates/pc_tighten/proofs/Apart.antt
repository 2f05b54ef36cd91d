-- Stores that are apart, and items without fault.
use Rattle.std.proofs.Common.{◌≡◌, ℕ, Bool, true, false, List, [], ◌∷◌, ◌++◌, Option, Some, None, refl, sym, ◌∙◌, ap, subst, append-nil, arith}
use Rattle.std.specs.Prelude.{ℤ, if◌then◌else◌, ◌&&◌, nat_eq, slice_index}
use Rattle.std.proofs.lemmas.Bool.Decides.{nat_tests}
use Rattle.std.specs.List.{AllByRecursion, list_any}
use Rattle.pc_word.specs.declared.item.Item.{Item}
use Rattle.pc_word.specs.declared.item.Item.TheVariants.{Bin, Copy, Load, Store, Print, Read, More}
use Rattle.pc_word.specs.declared.item.Operand.{Operand}
use Rattle.pc_word.specs.declared.item.MachineFault.{MachineFault}
use Rattle.pc_word.specs.declared.item.MachineFault.TheVariants.{StoreOutOfRange, StoredTwice, ReadPastEnd}
use Rattle.pc_word.specs.State.{State}
use Rattle.pc_word.specs.Items.{operand_value, place_in, is_effect}
use Rattle.pc_word.specs.Commit.{Stored, stores_of, prints_of, reads_of, writes, is_at, cells_after, is_outside, meets_at, some_meet, reads_past_end, fault_of}
use Rattle.pc_word.proofs.Lists.{all_front, all_back, all_both, all_imply}
use Rattle.pc_tighten.specs.Compact.{stores, stores_under}
use Rattle.pc_tighten.proofs.Lists.{or_left, or_right, none_of, any_none, nat_eq-sound, and_first, and_second}
use Rattle.pc_word.proofs.Truth.{or_made_false}

-- ---- elements

-- two stores that are never in one element
abbrev pub AreApart : Stored → Stored → Type 0
AreApart s q = (a i : ℕ) → is_at s a i ≡ true → is_at q a i ≡ false

pub cells-append : (c : ℕ → ℕ → ℤ) (ps qs : List Stored) (a i : ℕ) → cells_after c (ps ++ qs) a i ≡ cells_after (cells_after c qs) ps a i
cells-append c [] qs a i = refl
cells-append c (p ∷ ps) qs a i = ap (λ (v : ℤ). if is_at p a i then p.word else v) (cells-append c ps qs a i)

pub cells-swap : (c : ℕ → ℕ → ℤ) (s : Stored) (qs : List Stored) (a i : ℕ) → AllByRecursion (AreApart s) qs
    → cells_after (cells_after c qs) (s ∷ []) a i ≡ cells_after (cells_after c (s ∷ [])) qs a i
cells-swap c s [] a i h = refl
cells-swap c s (q ∷ qs) a i h =
    let go = cells-swap c s qs a i h.1 in
    elim (is_at s a i) as (λ b. is_at s a i ≡ b
    → (if b then s.word else cells_after c qs a i) ≡ cells_after (cells_after c (s ∷ [])) qs a i
    → (if b then s.word else (if is_at q a i then q.word else cells_after c qs a i)) ≡ (if is_at q a i then q.word else cells_after (cells_after c (s ∷ [])) qs a i)) [
      | true ↦ λ at g. let e = h.0 a i at in rw e g
      | false ↦ λ at g. ap (λ (v : ℤ). if is_at q a i then q.word else v) g
    ] refl go

pub cells-swaps : (c : ℕ → ℕ → ℤ) (ss qs : List Stored) (a i : ℕ) → AllByRecursion (λ s. AllByRecursion (AreApart s) qs) ss
    → cells_after (cells_after c qs) ss a i ≡ cells_after (cells_after c ss) qs a i
cells-swaps c [] qs a i h = refl
cells-swaps c (s ∷ ss) qs a i h =
    ap (λ (v : ℤ). if is_at s a i then s.word else v) (cells-swaps c ss qs a i h.1) ∙ cells-swap (cells_after c ss) s qs a i h.0

-- ---- faults

pub record IsFaultless (lengths : List ℕ) (old : State) (items : List Item) : Type 0 where
  pub inside : list_any is_outside (stores_of lengths old items) ≡ false
  pub apart : some_meet (stores_of lengths old items) ≡ false
  pub left : reads_past_end old items ≡ false

record AreFalse (a b c : Bool) : Type 0 where
  first : a ≡ false
  second : b ≡ false
  third : c ≡ false

three_tests : (x y z : MachineFault) (a b c : Bool) → (if a then Some x else (if b then Some y else (if c then Some z else None))) ≡ None → AreFalse a b c
three_tests x y z true b c e = absurd (cc)
three_tests x y z false true c e = absurd (cc)
three_tests x y z false false true e = absurd (cc)
three_tests x y z false false false e = record { first = refl; second = refl; third = refl }

pub faultless : (lengths : List ℕ) (old : State) (items : List Item) → fault_of lengths old items ≡ None → IsFaultless lengths old items
faultless lengths old items e =
    let h = three_tests StoreOutOfRange StoredTwice ReadPastEnd (list_any is_outside (stores_of lengths old items)) (some_meet (stores_of lengths old items)) (reads_past_end old items) e in
    record { inside = h.first; apart = h.second; left = h.third }

pub no_fault : (lengths : List ℕ) (old : State) (items : List Item) → IsFaultless lengths old items → fault_of lengths old items ≡ None
no_fault lengths old items h = rw (h.inside, h.apart, h.left) refl

pub any-append-left : {X : Type 0} (p : X → Bool) (xs ys : List X) → list_any p (xs ++ ys) ≡ false → list_any p xs ≡ false
any-append-left p xs ys e = any_none p xs (all_front (λ x. p x ≡ false) xs ys (none_of p (xs ++ ys) e))

pub any-append-right : {X : Type 0} (p : X → Bool) (xs ys : List X) → list_any p (xs ++ ys) ≡ false → list_any p ys ≡ false
any-append-right p xs ys e = any_none p ys (all_back (λ x. p x ≡ false) xs ys (none_of p (xs ++ ys) e))

pub any-append : {X : Type 0} (p : X → Bool) (xs ys : List X) → list_any p xs ≡ false → list_any p ys ≡ false → list_any p (xs ++ ys) ≡ false
any-append p xs ys d e = any_none p (xs ++ ys) (all_both (λ x. p x ≡ false) xs ys (none_of p xs d) (none_of p ys e))

pub any-without : {X : Type 0} (p : X → Bool) (xs ys zs : List X) → list_any p (xs ++ (ys ++ zs)) ≡ false → list_any p (xs ++ zs) ≡ false
any-without p xs ys zs e = any-append p xs zs (any-append-left p xs (ys ++ zs) e) (any-append-right p ys zs (any-append-right p xs (ys ++ zs) e))

-- stores that do not meet, without some of them
pub meet-right : (ps qs : List Stored) → some_meet (ps ++ qs) ≡ false → some_meet qs ≡ false
meet-right [] qs e = e
meet-right (p ∷ ps) qs e = meet-right ps qs (or_right (list_any (meets_at p.array p.place) (ps ++ qs)) (some_meet (ps ++ qs)) e)

pub meet-without : (ps ss qs : List Stored) → some_meet (ps ++ (ss ++ qs)) ≡ false → some_meet (ps ++ qs) ≡ false
meet-without [] ss qs e = meet-right ss qs e
meet-without (p ∷ ps) ss qs e =
    let first = or_left (list_any (meets_at p.array p.place) (ps ++ (ss ++ qs))) (some_meet (ps ++ (ss ++ qs))) e in
    let rest = or_right (list_any (meets_at p.array p.place) (ps ++ (ss ++ qs))) (some_meet (ps ++ (ss ++ qs))) e in
    or_made_false (list_any (meets_at p.array p.place) (ps ++ qs)) (some_meet (ps ++ qs)) (any-without (meets_at p.array p.place) ps ss qs first) (meet-without ps ss qs rest)

-- a store that meets none after it is apart from them
apart_from : (array : ℕ) (place : Option ℕ) (q : Stored) → meets_at array place q ≡ false → (a i : ℕ) → (nat_eq array a && writes place i) ≡ true → is_at q a i ≡ false
apart_from array None q e a i at = let no = and_second (nat_eq array a) false at in absurd (cc)
apart_from array (Some place) q e a i at =
    let p = nat_eq-sound array a (and_first (nat_eq array a) (nat_eq place i) at) in
    let r = nat_eq-sound place i (and_second (nat_eq array a) (nat_eq place i) at) in
    subst (λ (k : ℕ). is_at q a k ≡ false) r (subst (λ (k : ℕ). is_at q k place ≡ false) p e)

meets-apart : (s : Stored) (qs : List Stored) → list_any (meets_at s.array s.place) qs ≡ false → AllByRecursion (AreApart s) qs
meets-apart s qs e = all_imply (λ q. meets_at s.array s.place q ≡ false) (AreApart s) qs (λ q d. apart_from s.array s.place q d) (none_of (meets_at s.array s.place) qs e)

-- a store is apart from those to other arrays, and meets none of them
other_arrays : (lengths : List ℕ) (old : State) (s : Stored) (items : List Item)
    → AllByRecursion (λ y. stores s.array y ≡ false) items → AllByRecursion (AreApart s) (stores_of lengths old items)
other_arrays lengths old s [] h = tt
other_arrays lengths old s (Bin op d left right ∷ items) h = other_arrays lengths old s items h.1
other_arrays lengths old s (Copy d from ∷ items) h = other_arrays lengths old s items h.1
other_arrays lengths old s (Load d a at ∷ items) h = other_arrays lengths old s items h.1
other_arrays lengths old s (Store a at value ∷ items) h = (
  (λ b i is. let e = nat_eq-sound s.array b (and_first (nat_eq s.array b) (writes s.place i) is) in rw (subst (λ (k : ℕ). nat_eq a k ≡ false) e h.0) refl),
  other_arrays lengths old s items h.1,
)
other_arrays lengths old s (Print value ∷ items) h = other_arrays lengths old s items h.1
other_arrays lengths old s (Read d ∷ items) h = other_arrays lengths old s items h.1
other_arrays lengths old s (More d ∷ items) h = other_arrays lengths old s items h.1

-- neither is met by it
not_met : (array : ℕ) (place : Option ℕ) (s : Stored) → nat_eq s.array array ≡ false → meets_at array place s ≡ false
not_met array None s e = refl
not_met array (Some place) s e = rw e refl

meet-last : (lengths : List ℕ) (old : State) (s : Stored) (items : List Item) → AllByRecursion (λ y. stores s.array y ≡ false) items
    → some_meet (stores_of lengths old items) ≡ false → some_meet (stores_of lengths old items ++ (s ∷ [])) ≡ false
meet-last lengths old s [] h e = refl
meet-last lengths old s (Bin op d left right ∷ items) h e = meet-last lengths old s items h.1 e
meet-last lengths old s (Copy d from ∷ items) h e = meet-last lengths old s items h.1 e
meet-last lengths old s (Load d a at ∷ items) h e = meet-last lengths old s items h.1 e
meet-last lengths old s (Store a at value ∷ items) h e =
    let place = place_in (slice_index lengths a) (operand_value old.names at) in
    let qs = stores_of lengths old items in
    let p = or_left (list_any (meets_at a place) qs) (some_meet qs) e in
    let r = or_right (list_any (meets_at a place) qs) (some_meet qs) e in
    let this : nat_eq a s.array ≡ false = h.0 in
    let apart : nat_eq s.array a ≡ false = grind (arith, nat_tests) in
    let none : list_any (meets_at a place) (s ∷ []) ≡ false = or_made_false (meets_at a place s) false (not_met a place s apart) refl in
    or_made_false (list_any (meets_at a place) (qs ++ (s ∷ []))) (some_meet (qs ++ (s ∷ []))) (any-append (meets_at a place) qs (s ∷ []) p none) (meet-last lengths old s items h.1 r)
meet-last lengths old s (Print value ∷ items) h e = meet-last lengths old s items h.1 e
meet-last lengths old s (Read d ∷ items) h e = meet-last lengths old s items h.1 e
meet-last lengths old s (More d ∷ items) h e = meet-last lengths old s items h.1 e

-- stores that do not meet are apart
pub all_apart : (ss qs : List Stored) → some_meet (ss ++ qs) ≡ false → AllByRecursion (λ s. AllByRecursion (AreApart s) qs) ss
all_apart [] qs e = tt
all_apart (s ∷ ss) qs e = (
  meets-apart s qs (any-append-right (meets_at s.array s.place) ss qs (or_left (list_any (meets_at s.array s.place) (ss ++ qs)) (some_meet (ss ++ qs)) e)),
  all_apart ss qs (or_right (list_any (meets_at s.array s.place) (ss ++ qs)) (some_meet (ss ++ qs)) e),
)

-- the arrays of a store that is under no store
under_none : (a : ℕ) (at value : Operand) (items : List Item) → AllByRecursion (λ y. stores_under y (Store a at value) ≡ false) items → AllByRecursion (λ y. stores a y ≡ false) items
under_none a at value items h = h

pub store_apart : (lengths : List ℕ) (old : State) (path : List Item) (x : Item) → AllByRecursion (λ y. stores_under y x ≡ false) path
    → AllByRecursion (λ s. AllByRecursion (AreApart s) (stores_of lengths old path)) (stores_of lengths old (x ∷ []))
store_apart lengths old path (Bin op d left right) h = tt
store_apart lengths old path (Copy d from) h = tt
store_apart lengths old path (Load d a at) h = tt
store_apart lengths old path (Store a at value) h = (
  other_arrays lengths old (record { array = a; place = place_in (slice_index lengths a) (operand_value old.names at); word = operand_value old.names value }) path
      (under_none a at value path h),
  tt,
)
store_apart lengths old path (Print value) h = tt
store_apart lengths old path (Read d) h = tt
store_apart lengths old path (More d) h = tt

meet_nil : (ps : List Stored) → some_meet ps ≡ false → some_meet (ps ++ []) ≡ false
meet_nil ps e = subst (λ (l : List Stored). some_meet l ≡ false) (sym (append-nil ps)) e

pub meet_end : (lengths : List ℕ) (old : State) (path : List Item) (x : Item) → AllByRecursion (λ y. stores_under y x ≡ false) path
    → some_meet (stores_of lengths old path) ≡ false → some_meet (stores_of lengths old path ++ stores_of lengths old (x ∷ [])) ≡ false
meet_end lengths old path (Bin op d left right) h e = meet_nil (stores_of lengths old path) e
meet_end lengths old path (Copy d from) h e = meet_nil (stores_of lengths old path) e
meet_end lengths old path (Load d a at) h e = meet_nil (stores_of lengths old path) e
meet_end lengths old path (Store a at value) h e =
    meet-last lengths old (record { array = a; place = place_in (slice_index lengths a) (operand_value old.names at); word = operand_value old.names value }) path (under_none a at value path h) e
meet_end lengths old path (Print value) h e = meet_nil (stores_of lengths old path) e
meet_end lengths old path (Read d) h e = meet_nil (stores_of lengths old path) e
meet_end lengths old path (More d) h e = meet_nil (stores_of lengths old path) e

-- ---- paths without print, read and more

pub no_reads : (items : List Item) → AllByRecursion (λ y. is_effect y ≡ false) items → reads_of items ≡ 0
no_reads [] h = refl
no_reads (Bin op d left right ∷ items) h = no_reads items h.1
no_reads (Copy d from ∷ items) h = no_reads items h.1
no_reads (Load d a at ∷ items) h = no_reads items h.1
no_reads (Store a at value ∷ items) h = no_reads items h.1
no_reads (Print value ∷ items) h = let e = h.0 in absurd (cc)
no_reads (Read d ∷ items) h = let e = h.0 in absurd (cc)
no_reads (More d ∷ items) h = let e = h.0 in absurd (cc)

pub no_prints : (old : State) (items : List Item) → AllByRecursion (λ y. is_effect y ≡ false) items → prints_of old items ≡ []
no_prints old [] h = refl
no_prints old (Bin op d left right ∷ items) h = no_prints old items h.1
no_prints old (Copy d from ∷ items) h = no_prints old items h.1
no_prints old (Load d a at ∷ items) h = no_prints old items h.1
no_prints old (Store a at value ∷ items) h = no_prints old items h.1
no_prints old (Print value ∷ items) h = let e = h.0 in absurd (cc)
no_prints old (Read d ∷ items) h = let e = h.0 in absurd (cc)
no_prints old (More d ∷ items) h = let e = h.0 in absurd (cc)

pub state_equal : (s t : State) → s.names ≡ t.names → s.cells ≡ t.cells → s.input ≡ t.input → s ≡ t
state_equal s t p q r =
    ap (λ (f : ℕ → ℤ). let u : State = record { names = f; cells = s.cells; input = s.input } in u) p
    ∙ ap (λ (f : ℕ → ℕ → ℤ). let u : State = record { names = t.names; cells = f; input = s.input } in u) q
    ∙ ap (λ (l : List ℤ). let u : State = record { names = t.names; cells = t.cells; input = l } in u) r
