-- What was found to be a table keeps what tables keep.
use Rattle.std.proofs.Common.{◌≡◌, ℕ, zero, suc, ◌+◌, ◌<◌, ◌≤◌, ◌⊎◌, inl, inr, List, [], ◌∷◌, Option, Some, None, length, refl, sym, ◌∙◌, ap, subst, arith}
use Rattle.std.specs.Prelude.{Bool, true, false, not, ◌||◌, ◌&&◌, nat_eq, nat_lt, nat_le, map, is_none, slice_get, slice_index, IfSome}
use Rattle.std.specs.List.{list_all, list_any, AllByRecursion}
use Rattle.std.specs.List.Sorted.{IsStrictlyIncreasing}
use Rattle.std.proofs.lemmas.Bool.{eqb-true, leb-true}
use Rattle.pc_word.proofs.Truth.{and_true, or_true, not_true, less_of, most_of}
use Rattle.pc_word.specs.declared.item.Item.{Item}
use Rattle.pc_word.specs.declared.item.Item.TheVariants.{Bin, Copy, Load, Store, Print, Read, More}
use Rattle.pc_word.specs.declared.item.Operand.{Operand}
use Rattle.pc_word.specs.declared.item.Operand.TheVariants.{Name, Lit}
use Rattle.pc_word.specs.declared.loop_mark.LoopMark.{LoopMark}
use Rattle.pc_word.specs.Items.{operands_of, dest_of, array_of, reads, reads_name}
use Rattle.pc_word.specs.Commit.{writes}
use Rattle.pc_table.specs.declared.table.Region.{Region}
use Rattle.pc_table.specs.RegionRun.{arrive}
use Rattle.pc_table.specs.Table.{Table, TableTree, TableRegion, Does, Asks, Next, Stops_here, Traps_here, table_region, tree_of, live_of, region_tree, region_live}
use Rattle.pc_table.specs.TableKeeps.{NamesVariable, ItemIsThere, TreeIsThere, needs, units, untested, ComesUntested, By_one, By_more, RegionKeeps, TableKeeps}
use Rattle.pc_table.proofs.StoredRegions.{as_many}
use Rattle.pc_window_specimen.specs.declared.checking.Draft.{Draft}
use Rattle.pc_window_specimen.specs.models.Checking.{drafted, is_below, is_variable, are_variables, item_is_there, tree_is_there, is_small, begins_here, may_follow, leads_on}
use Rattle.pc_window_specimen.specs.models.Checking.{knows, knows_item, and_written, covers, starts_above, rises, is_tree, is_live, is_region, is_outermost, is_table}

-- ---- what is there

below : (count : ℕ) (found : Option ℕ) → is_below count found ≡ true → IfSome found (λ n. n < count)
below count None h = tt
below count (Some n) h = less_of n count h

variable_there : (o : Operand) → is_variable o ≡ true → NamesVariable o
variable_there (Name name) h = less_of name 96 h
variable_there (Lit value) h = tt

variables_there : (os : List Operand) → list_all is_variable os ≡ true → AllByRecursion NamesVariable os
variables_there [] h = tt
variables_there (o ∷ os) h = let parts = and_true (is_variable o) (list_all is_variable os) h in (variable_there o parts.0, variables_there os parts.1)

item_there : (arrays : ℕ) (item : Item) → item_is_there arrays item ≡ true → ItemIsThere arrays item
item_there arrays item h =
    let parts = and_true (are_variables item && is_below 96 (dest_of item)) (is_below arrays (array_of item)) h in
    let names = and_true (are_variables item) (is_below 96 (dest_of item)) parts.0 in
    record {
      reads = variables_there (operands_of item) names.0;
      writes = below 96 (dest_of item) names.1;
      array = below arrays (array_of item) parts.1;
    }

tree_there : (arrays regions : ℕ) (tree : TableTree) → tree_is_there arrays regions tree ≡ true → TreeIsThere arrays regions tree
tree_there arrays regions (Does origin item rest) h =
    let parts = and_true (item_is_there arrays item) (tree_is_there arrays regions rest) h in
    (item_there arrays item parts.0, tree_there arrays regions rest parts.1)
tree_there arrays regions (Asks origin on on_yes on_no) h =
    let parts = and_true (is_variable on && tree_is_there arrays regions on_yes) (tree_is_there arrays regions on_no) h in
    let first = and_true (is_variable on) (tree_is_there arrays regions on_yes) parts.0 in
    (variable_there on first.0, tree_there arrays regions on_yes first.1, tree_there arrays regions on_no parts.1)
tree_there arrays regions (Next region) h = less_of region regions h
tree_there arrays regions Stops_here h = tt
tree_there arrays regions (Traps_here kind line) h = tt

-- ---- how a tree begins, and where it leads without a test

begins_true : (table : Table) (tree : TableTree) → begins_here tree ≡ true → arrive table tree ≡ tree
begins_true table (Does origin item rest) h = refl
begins_true table (Asks origin on on_yes on_no) h = refl
begins_true table (Next region) h = absurd (cc)
begins_true table Stops_here h = refl
begins_true table (Traps_here kind line) h = refl

none_of : (found : Option ℕ) → is_none found ≡ true → found ≡ None
none_of None h = refl
none_of (Some n) h = absurd (cc)

module _ (table : Table) (ends : (region next : ℕ) → untested (region_tree table region) ≡ Some next → untested (region_tree table next) ≡ None) where
  -- where one comes to so, nothing leads on so
  ended : (from to : ℕ) → ComesUntested table from to → untested (region_tree table to) ≡ None
  ended from to (By_one e) = ends from to e
  ended from to (By_more {mid = mid} c e) = ends mid to e

  no_cycle : (from to : ℕ) → ComesUntested table from to → untested (region_tree table from) ≡ None → ⊥
  no_cycle from to (By_one e) none = absurd (let h : None ≡ Some to = sym none ∙ e in cc)
  no_cycle from to (By_more {mid = mid} c e) none = no_cycle from mid c none

-- ---- what is live

either_reads : (known : ℕ → Bool) (o : Operand) (x : ℕ) → knows known o ≡ true → reads_name o x ≡ true → known x ≡ true
either_reads known (Name y) x h e = subst (λ (z : ℕ). known z ≡ true) (eqb-true y x e) h
either_reads known (Lit value) x h e = absurd (cc)

one_reads : (known : ℕ → Bool) (o : Operand) (x : ℕ) → list_all (knows known) (o ∷ []) ≡ true → reads_name o x ≡ true → known x ≡ true
one_reads known o x h e = either_reads known o x (and_true (knows known o) true h).0 e

two_read : (known : ℕ → Bool) (o p : Operand) (x : ℕ) → list_all (knows known) (o ∷ p ∷ []) ≡ true → (reads_name o x || reads_name p x) ≡ true → known x ≡ true
two_read known o p x h e =
    let parts = and_true (knows known o) (list_all (knows known) (p ∷ [])) h in
    by (or_true (reads_name o x) (reads_name p x) e) parts.0 parts.1
  where
    by : (reads_name o x ≡ true) ⊎ (reads_name p x ≡ true) → knows known o ≡ true → list_all (knows known) (p ∷ []) ≡ true → known x ≡ true
    by (inl r) k l = either_reads known o x k r
    by (inr r) k l = one_reads known p x l r

item_reads : (known : ℕ → Bool) (item : Item) (x : ℕ) → knows_item known item ≡ true → reads item x ≡ true → known x ≡ true
item_reads known (Bin op dest left right) x h e = two_read known left right x h e
item_reads known (Copy dest from) x h e = one_reads known from x h e
item_reads known (Load dest array index) x h e = one_reads known index x h e
item_reads known (Store array index value) x h e = two_read known index value x h e
item_reads known (Print value) x h e = one_reads known value x h e
item_reads known (Read dest) x h e = absurd (cc)
item_reads known (More dest) x h e = absurd (cc)

list_reads : (known : ℕ → Bool) (names : List ℕ) (x : ℕ) → list_all known names ≡ true → list_any (nat_eq x) names ≡ true → known x ≡ true
list_reads known [] x h e = absurd (cc)
list_reads known (y ∷ ys) x h e =
    let parts = and_true (known y) (list_all known ys) h in
    by (or_true (nat_eq x y) (list_any (nat_eq x) ys) e) parts.0 (list_reads known ys x parts.1)
  where
    by : (nat_eq x y ≡ true) ⊎ (list_any (nat_eq x) ys ≡ true) → known y ≡ true → (list_any (nat_eq x) ys ≡ true → known x ≡ true) → known x ≡ true
    by (inl r) k l = subst (λ (z : ℕ). known z ≡ true) (sym (eqb-true x y r)) k
    by (inr r) k l = l r

unwritten : (a b : Bool) → (a || b) ≡ true → not a ≡ true → b ≡ true
unwritten true b h k = absurd (cc)
unwritten false b h k = h

-- what is needed is known
needed : (table : Table) (known : ℕ → Bool) (tree : TableTree) (x : ℕ) → covers table known tree ≡ true → needs table tree x ≡ true → known x ≡ true
needed table known (Does origin item rest) x h e =
    let parts = and_true (knows_item known item) (covers table (and_written known item) rest) h in
    by (or_true (reads item x) (not (writes (dest_of item) x) && needs table rest x) e) parts.0 (needed table (and_written known item) rest x parts.1)
  where
    by : (reads item x ≡ true) ⊎ ((not (writes (dest_of item) x) && needs table rest x) ≡ true) → knows_item known item ≡ true
        → (needs table rest x ≡ true → and_written known item x ≡ true) → known x ≡ true
    by (inl r) k l = item_reads known item x k r
    by (inr r) k l =
        let below = and_true (not (writes (dest_of item) x)) (needs table rest x) r in
        unwritten (writes (dest_of item) x) (known x) (l below.1) below.0
needed table known (Asks origin on on_yes on_no) x h e =
    let parts = and_true (knows known on && covers table known on_yes) (covers table known on_no) h in
    let first = and_true (knows known on) (covers table known on_yes) parts.0 in
    by (or_true (reads_name on x) (needs table on_yes x || needs table on_no x) e) first.0 (needed table known on_yes x first.1) (needed table known on_no x parts.1)
  where
    sides : (needs table on_yes x ≡ true) ⊎ (needs table on_no x ≡ true) → (needs table on_yes x ≡ true → known x ≡ true) → (needs table on_no x ≡ true → known x ≡ true)
        → known x ≡ true
    sides (inl r) on_one on_other = on_one r
    sides (inr r) on_one on_other = on_other r

    by : (reads_name on x ≡ true) ⊎ ((needs table on_yes x || needs table on_no x) ≡ true) → knows known on ≡ true
        → (needs table on_yes x ≡ true → known x ≡ true) → (needs table on_no x ≡ true → known x ≡ true) → known x ≡ true
    by (inl r) k on_one on_other = either_reads known on x k r
    by (inr r) k on_one on_other = sides (or_true (needs table on_yes x) (needs table on_no x) r) on_one on_other
needed table known (Next region) x h e = list_reads known (region_live table region) x h e
needed table known Stops_here x h e = absurd (cc)
needed table known (Traps_here kind line) x h e = absurd (cc)

rises_true : (xs : List ℕ) → rises xs ≡ true → IsStrictlyIncreasing xs
rises_true [] h k lt = absurd (omega (arith, lt))
rises_true (x ∷ []) h k lt = absurd (omega (arith, lt))
rises_true (x ∷ y ∷ zs) h zero lt = less_of x y (and_true (nat_lt x y) (rises (y ∷ zs)) h).0
rises_true (x ∷ y ∷ zs) h (suc k) lt =
    let one : suc (k + 1) ≡ suc k + 1 = omega arith in
    let rest = rises_true (y ∷ zs) (and_true (nat_lt x y) (rises (y ∷ zs)) h).1 k (omega (arith, lt)) in
    subst (λ (n : ℕ). slice_index (y ∷ zs) k < slice_index (x ∷ y ∷ zs) n) one rest

-- ---- regions, and the whole

follows : (table : Table) (found : Option ℕ) → may_follow table found ≡ true → (next : ℕ) → found ≡ Some next → untested (region_tree table next) ≡ None
follows table None h next e = absurd (cc)
follows table (Some region) h next e =
    let same : region ≡ next = (cc) in
    subst (λ (n : ℕ). untested (region_tree table n) ≡ None) same (none_of (untested (region_tree table region)) h)

outermost : (marks : List LoopMark) → list_all is_outermost marks ≡ true → (loop : ℕ) (mark : LoopMark) → slice_get marks loop ≡ Some mark → mark.outer ≡ None
outermost [] h loop mark e = absurd (cc)
outermost (own ∷ marks) h zero mark e =
    let same : own ≡ mark = (cc) in
    subst (λ (m : LoopMark). m.outer ≡ None) same (none_of own.outer (and_true (is_none own.outer) (list_all is_outermost marks) h).0)
outermost (own ∷ marks) h (suc loop) mark e = outermost marks (and_true (is_none own.outer) (list_all is_outermost marks) h).1 loop mark e

-- what holds of no region, and of each that was found to be one, holds at each number
module _ (draft : Draft) (P : Option TableRegion → Type 0) (none : P None) (some : (region : Region) → is_region draft region ≡ true → P (Some (table_region region))) where
  each_at : (regions : List Region) → list_all (is_region draft) regions ≡ true → (number : ℕ) → P (slice_get (map table_region regions) number)
  each_at [] h number = none
  each_at (region ∷ regions) h zero = some region (and_true (is_region draft region) (list_all (is_region draft) regions) h).0
  each_at (region ∷ regions) h (suc number) = each_at regions (and_true (is_region draft region) (list_all (is_region draft) regions) h).1 number

-- what was found of a region
record Found (draft : Draft) (region : Region) : Type 0 where
  there : tree_is_there (length draft.arrays) (length draft.regions) (table_region region).tree ≡ true
  small : is_small (table_region region).tree ≡ true
  begins : begins_here (table_region region).tree ≡ true
  leads : leads_on (drafted draft) (table_region region).tree ≡ true
  rising : rises region.live ≡ true
  named : list_all (λ x. nat_lt x 96) region.live ≡ true
  covered : covers (drafted draft) (λ x. list_any (nat_eq x) region.live) (table_region region).tree ≡ true
  inside : is_below (length draft.loops) region.inside ≡ true
  heads : is_below (length draft.loops) region.heads ≡ true

tree_found : (there small begins leads : Bool) → (((there && small) && begins) && leads) ≡ true → (there ≡ true) × (small ≡ true) × (begins ≡ true) × (leads ≡ true)
tree_found true true true true h = (refl, refl, refl, refl)
tree_found true true true false h = absurd (cc)
tree_found true true false leads h = absurd (cc)
tree_found true false begins leads h = absurd (cc)
tree_found false small begins leads h = absurd (cc)

region_found : (draft : Draft) (region : Region) → is_region draft region ≡ true → Found draft region
region_found draft region h =
    let table = drafted draft in
    let tree = (table_region region).tree in
    let parts = tree_found (is_tree draft tree) (is_live table (table_region region)) (is_below (length draft.loops) region.inside) (is_below (length draft.loops) region.heads) h in
    let below = tree_found (tree_is_there (length draft.arrays) (length draft.regions) tree) (is_small tree) (begins_here tree) (leads_on table tree) parts.0 in
    let live = and_true (rises region.live && list_all (λ x. nat_lt x 96) region.live) (covers table (λ x. list_any (nat_eq x) region.live) tree) parts.1 in
    let names = and_true (rises region.live) (list_all (λ x. nat_lt x 96) region.live) live.0 in
    record {
      there = below.0;
      small = below.1;
      begins = below.2;
      leads = below.3;
      rising = names.0;
      named = names.1;
      covered = live.1;
      inside = parts.2;
      heads = parts.3;
    }

region_keeps : (draft : Draft) (region : Region) → is_region draft region ≡ true → RegionKeeps (drafted draft) (table_region region)
region_keeps draft region h =
    let found = region_found draft region h in
    let tree = (table_region region).tree in
    record {
      there =
          subst (λ (regions : ℕ). TreeIsThere (length draft.arrays) regions tree) (sym (as_many draft.regions))
          (tree_there (length draft.arrays) (length draft.regions) tree found.there);
      few = most_of 128 (units tree) (not_true (nat_lt 128 (units tree)) found.small);
      rising = rises_true region.live found.rising;
      inside_there = below (length draft.loops) region.inside found.inside;
      heads_there = below (length draft.loops) region.heads found.heads;
    }

module _ (draft : Draft) (sized : (nat_lt 0 (length draft.regions) && nat_le (length draft.arrays) 32) ≡ true) (outer : list_all is_outermost draft.loops ≡ true)
    (each : list_all (is_region draft) draft.regions ≡ true) where
  at_each : (P : Option TableRegion → Type 0) → P None → ((region : Region) → is_region draft region ≡ true → P (Some (table_region region))) → (number : ℕ)
      → P (slice_get (drafted draft).regions number)
  at_each P none some number = each_at draft P none some draft.regions each number

  abbrev KeepsAt : Option TableRegion → Type 0
  KeepsAt found = (region : TableRegion) → found ≡ Some region → RegionKeeps (drafted draft) region

  keeps_at : (region : Region) → is_region draft region ≡ true → KeepsAt (Some (table_region region))
  keeps_at own h region e =
      let same : table_region own ≡ region = (cc) in
      subst (RegionKeeps (drafted draft)) same (region_keeps draft own h)

  abbrev NeedsAt : Option TableRegion → Type 0
  NeedsAt found = (x : ℕ) → needs (drafted draft) (tree_of found) x ≡ true → list_any (nat_eq x) (live_of found) ≡ true

  needs_at : (region : Region) → is_region draft region ≡ true → NeedsAt (Some (table_region region))
  needs_at region h x e = needed (drafted draft) (λ y. list_any (nat_eq y) region.live) (table_region region).tree x (region_found draft region h).covered e

  abbrev SmallAt : Option TableRegion → Type 0
  SmallAt found = (x : ℕ) → list_any (nat_eq x) (live_of found) ≡ true → x < 96

  small_at : (region : Region) → is_region draft region ≡ true → SmallAt (Some (table_region region))
  small_at region h x e = less_of x 96 (list_reads (λ y. nat_lt y 96) region.live x (region_found draft region h).named e)

  abbrev BeginsAt : Option TableRegion → Type 0
  BeginsAt found = arrive (drafted draft) (tree_of found) ≡ tree_of found

  begins_at : (region : Region) → is_region draft region ≡ true → BeginsAt (Some (table_region region))
  begins_at region h = begins_true (drafted draft) (table_region region).tree (region_found draft region h).begins

  abbrev EndsAt : Option TableRegion → Type 0
  EndsAt found = (next : ℕ) → untested (tree_of found) ≡ Some next → untested (region_tree (drafted draft) next) ≡ None

  ends_at : (region : Region) → is_region draft region ≡ true → EndsAt (Some (table_region region))
  ends_at region h next e = follows (drafted draft) (untested (table_region region).tree) (region_found draft region h).leads next e

  ends : (region next : ℕ) → untested (region_tree (drafted draft) region) ≡ Some next → untested (region_tree (drafted draft) next) ≡ None
  ends = at_each EndsAt (λ next e. absurd (cc)) ends_at

  draft_keeps : TableKeeps (drafted draft)
  draft_keeps =
      let counts = and_true (nat_lt 0 (length draft.regions)) (nat_le (length draft.arrays) 32) sized in
      let some = less_of 0 (length draft.regions) counts.0 in
      let many = as_many draft.regions in
      record {
        some_region = omega (arith, some, many);
        few_arrays = leb-true (length draft.arrays) 32 counts.1;
        each = at_each KeepsAt (λ region e. absurd (cc)) keeps_at;
        outer_first = λ loop mark e. subst (λ (found : Option ℕ). IfSome found (λ n. n < loop)) (sym (outermost draft.loops outer loop mark e)) tt;
        live = at_each NeedsAt (λ x e. absurd (cc)) needs_at;
        small = at_each SmallAt (λ x e. absurd (cc)) small_at;
        begins = at_each BeginsAt refl begins_at;
        tested = λ region c. no_cycle (drafted draft) ends region region c (ended (drafted draft) ends region region c);
      }

-- what was found to be a table keeps what tables keep
pub found_table : (draft : Draft) → is_table draft ≡ true → TableKeeps (drafted draft)
found_table draft h =
    let parts = and_true ((nat_lt 0 (length draft.regions) && nat_le (length draft.arrays) 32) && list_all is_outermost draft.loops) (list_all (is_region draft) draft.regions) h in
    let counts = and_true (nat_lt 0 (length draft.regions) && nat_le (length draft.arrays) 32) (list_all is_outermost draft.loops) parts.0 in
    draft_keeps draft counts.0 counts.1 parts.1
