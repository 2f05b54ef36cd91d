-- A cut keeps what every region table keeps.
use Rattle.std.proofs.Common.{◌≡◌, inl, inr, ℕ, zero, suc, ◌+◌, ◌<◌, ◌≤◌, Bool, true, false, not, ◌||◌, ◌&&◌, List, [], ◌∷◌, length, Option, Some, None, refl, sym, ap, subst, arith}
use Rattle.std.specs.Prelude.{nat_eq, IfSome, slice_get, slice_index}
use Rattle.std.specs.List.{AllByRecursion, list_any}
use Rattle.pc_word.specs.declared.item.Item.{Item}
use Rattle.pc_word.specs.declared.item.Item.TheVariants.{Bin, Copy, Load, Store, Print, Read, More}
use Rattle.pc_word.specs.declared.item.Operand.{Operand}
use Rattle.pc_word.specs.declared.item.Operand.TheVariants.{Name, Lit}
use Rattle.pc_word.specs.declared.loop_mark.LoopMark.{LoopMark}
use Rattle.pc_word.specs.MachineLimits.{most_arrays}
use Rattle.pc_word.specs.Items.{operands_of, dest_of, array_of, reads_name, reads}
use Rattle.pc_word.specs.Commit.{writes}
use Rattle.pc_word.proofs.Lists.{all_imply}
use Rattle.pc_word.proofs.Truth.{and_true, not_true, or_true}
use Rattle.pc_flow.specs.declared.node.FlowNode.{FlowNode}
use Rattle.pc_flow.specs.declared.node.FlowNode.TheVariants.{Op, Test, Stop, Trap}
use Rattle.pc_flow.specs.FlowGraph.{FlowGraph, IsVariable, ItemFits, NodeFits, IsFlow, variables}
use Rattle.pc_live.specs.Live.{node_reads, IsLive, Read_here, Read_later}
use Rattle.pc_live.proofs.Logic.{place_within}
use Rattle.pc_table.specs.Table.{TableTree, TableRegion, Table, tree_of, live_of, region_live}
use Rattle.pc_table.specs.RegionRun.{arrive}
use Rattle.pc_table.specs.TableKeeps.{NamesVariable, ItemIsThere, TreeIsThere, needs, units, untested, ComesUntested, By_one, By_more, RegionKeeps, TableKeeps}
use Rattle.pc_regions.specs.Loops.{IsWithin, Same, Deeper, BelongsTo, IsEntered, Begins, Led_into, HeadsLoop}
use Rattle.pc_regions.specs.Cut.{IsTreeOf, An_item, A_test, A_stop, A_trap, IsBehind, Taken, Not_taken, IsRegionOf, IsCutOf, heads_of}
use Rattle.pc_regions.proofs.CutRuns.{region_at, arrive_tree}
use Rattle.pc_word.proofs.Places.{same_number}

-- ---- what items read

-- an operand reads the variable that it is
operand_reads : (operand : Operand) (x : ℕ) → reads_name operand x ≡ true → reads_name operand x ≡ true
operand_reads (Name name) x h = h
operand_reads (Lit value) x h = h

-- one operand of a list
in_list : (operand : Operand) (x : ℕ) → reads_name operand x ≡ true → (rest : List Operand) → list_any (λ o. reads_name o x) (operand ∷ rest) ≡ true
in_list operand x h rest = first (reads_name operand x) (list_any (λ o. reads_name o x) rest) (operand_reads operand x h)
  where
    first : (a b : Bool) → a ≡ true → (a || b) ≡ true
    first true b e = refl
    first false b e = cc

-- or of what is after it
behind_list : (operand : Operand) (x : ℕ) (rest : List Operand) → list_any (λ o. reads_name o x) rest ≡ true → list_any (λ o. reads_name o x) (operand ∷ rest) ≡ true
behind_list operand x rest h = second (reads_name operand x) (list_any (λ o. reads_name o x) rest) h
  where
    second : (a b : Bool) → b ≡ true → (a || b) ≡ true
    second true b e = refl
    second false b e = e

-- of two operands one
one_of_two : (one other : Operand) (x : ℕ) → (reads_name one x || reads_name other x) ≡ true → list_any (λ o. reads_name o x) (one ∷ other ∷ []) ≡ true
one_of_two one other x h = elim (or_true (reads_name one x) (reads_name other x) h) [
  | inl e ↦ in_list one x e (other ∷ [])
  | inr e ↦ behind_list one x (other ∷ []) (in_list other x e [])
]

-- an item reads a variable where an operand of its is that variable
item_reads : (item : Item) (next x : ℕ) → reads item x ≡ true → node_reads (Op item next) x ≡ true
item_reads (Bin op dest left right) next x h = one_of_two left right x h
item_reads (Copy dest from) next x h = in_list from x h []
item_reads (Load dest array index) next x h = in_list index x h []
item_reads (Store array index value) next x h = one_of_two index value x h
item_reads (Print value) next x h = in_list value x h []
item_reads (Read dest) next x h = absurd (cc)
item_reads (More dest) next x h = absurd (cc)

-- ---- variables that are live are variables

read_small : (operand : Operand) (x : ℕ) → IsVariable operand → reads_name operand x ≡ true → x < variables
read_small (Name name) x fits h = subst (λ (y : ℕ). y < variables) (same_number name x h) fits
read_small (Lit value) x fits h = absurd (cc)

list_small : (operands : List Operand) (x : ℕ) → AllByRecursion IsVariable operands → list_any (λ o. reads_name o x) operands ≡ true → x < variables
list_small [] x fits h = absurd (cc)
list_small (operand ∷ operands) x fits h = elim (or_true (reads_name operand x) (list_any (λ o. reads_name o x) operands) h) [
  | inl e ↦ read_small operand x fits.0 e
  | inr e ↦ list_small operands x fits.1 e
]

node_small : (flow : FlowGraph) (at x : ℕ) (node : FlowNode) → NodeFits flow at node → node_reads node x ≡ true → x < variables
node_small flow at x (Op item next) fits h = list_small (operands_of item) x fits.0.reads h
node_small flow at x (Test on on_yes on_no turn) fits h = read_small on x fits.0 h
node_small flow at x Stop fits h = absurd (cc)
node_small flow at x (Trap kind line) fits h = absurd (cc)

pub live_small : (flow : FlowGraph) (x at : ℕ) → IsFlow flow → IsLive flow x at → x < variables
live_small flow x at is (Read_here {node} there h) = node_small flow at x node (is.nodes_fit at node there) h
live_small flow x at is (Read_later there passed leads live) = live_small flow x _ is live

-- ---- what a node needs

item_needs : (flow : FlowGraph) (at next : ℕ) (item : Item) (x : ℕ) → slice_get flow.nodes at ≡ Some (Op item next) → (rest : Bool)
    → (rest ≡ true → IsLive flow x next) → (reads item x || (not (writes (dest_of item) x) && rest)) ≡ true → IsLive flow x at
item_needs flow at next item x here rest later h = elim (or_true (reads item x) (not (writes (dest_of item) x) && rest) h) [
  | inl e ↦ Read_here here (item_reads item next x e)
  | inr e ↦
      let both = and_true (not (writes (dest_of item) x)) rest e in
      Read_later here (not_true (writes (dest_of item) x) both.0) refl (later both.1)
]

test_needs : (flow : FlowGraph) (at yes_side no_side : ℕ) (on : Operand) (turn : Option ℕ) (x : ℕ) → slice_get flow.nodes at ≡ Some (Test on yes_side no_side turn)
    → (one other : Bool) → (one ≡ true → IsLive flow x yes_side) → (other ≡ true → IsLive flow x no_side)
    → (reads_name on x || (one || other)) ≡ true → IsLive flow x at
test_needs flow at yes_side no_side on turn x here one other p q h = elim (or_true (reads_name on x) (one || other) h) [
  | inl e ↦ Read_here here (operand_reads on x e)
  | inr e ↦ elim (or_true one other e) [
    | inl d ↦ Read_later here refl (inl refl) (p d)
    | inr d ↦ Read_later here refl (inr refl) (q d)
  ]
]

-- ---- what an item names

operand_there : (operand : Operand) → IsVariable operand → NamesVariable operand
operand_there (Name name) h = h
operand_there (Lit value) h = tt

item_there : (lengths others : List ℕ) (item : Item) → lengths ≡ others → ItemFits (length others) item → ItemIsThere (length lengths) item
item_there lengths others item same fits = record {
  reads = all_imply IsVariable NamesVariable (operands_of item) operand_there fits.reads;
  writes = fits.writes;
  array = subst (λ (ls : List ℕ). IfSome (array_of item) (λ array. array < length ls)) (sym same) fits.array;
}

-- ---- loops

-- a loop round another has no greater number, so it is there where that is
within_there : (flow : FlowGraph) → IsFlow flow → (inner outer : ℕ) → IsWithin flow.loops inner outer → outer ≤ inner
within_there flow is inner outer Same = omega arith
within_there flow is inner outer (Deeper {round} {mark} at round_is within) =
    let below = within_there flow is round outer within in
    let less = round_below mark.outer round round_is (is.outer_first inner mark at) in
    omega (arith, below, less)
  where
    round_below : (found : Option ℕ) (round : ℕ) → found ≡ Some round → IfSome found (λ outer. outer < inner) → round < inner
    round_below None round e h = absurd (cc)
    round_below (Some x) round e h = let same : x ≡ round = (cc) in subst (λ (n : ℕ). n < inner) same h

inside_there : (flow : FlowGraph) → IsFlow flow → (at : ℕ) (inside : Option ℕ) → slice_get flow.inside at ≡ Some inside
    → IfSome inside (λ loop. loop < length flow.loops)
inside_there flow is at None e = tt
inside_there flow is at (Some loop) e = is.loops_there at loop e

-- a node that is the header of a loop belongs to it
pub entered_belongs : (flow : FlowGraph) (loop at : ℕ) → IsEntered flow loop at → BelongsTo flow loop at
entered_belongs flow loop at (Begins belongs) = belongs
entered_belongs flow loop at (Led_into from here leads outside belongs) = belongs

heads_there : (flow : FlowGraph) → IsFlow flow → (at : ℕ) (heads : Option ℕ) → HeadsLoop flow at heads → IfSome heads (λ loop. loop < length flow.loops)
heads_there flow is at None h = tt
heads_there flow is at (Some loop) h =
    let belongs = entered_belongs flow loop at h.0.entered in
    let below = within_there flow is belongs.inner loop belongs.within in
    let there = is.loops_there at belongs.inner belongs.inside in
    omega (arith, below, there)

-- ---- heads

-- the head of a region that is there
pub head_at : (regions : List TableRegion) (number : ℕ) (region : TableRegion) → slice_get regions number ≡ Some region
    → slice_get (heads_of regions) number ≡ Some region.head
head_at [] number region e = absurd (cc)
head_at (other ∷ regions) zero region e = let same : other ≡ region = (cc) in ap (λ (r : TableRegion). Some r.head) same
head_at (other ∷ regions) (suc number) region e = head_at regions number region e

-- where there is a head there is a region
regions_there : (regions : List TableRegion) (head : ℕ) → slice_get (heads_of regions) 0 ≡ Some head → 1 ≤ length regions
regions_there [] head e = absurd (cc)
regions_there (region ∷ regions) head e = omega arith

-- ---- trees

module _ (flow : FlowGraph) (is_flow : IsFlow flow) (Head : ℕ → Type 0) (table : Table) (same_arrays : table.arrays ≡ flow.arrays)
    (each : (number : ℕ) (region : TableRegion) → slice_get table.regions number ≡ Some region → IsRegionOf flow Head (heads_of table.regions) region) where
  abbrev heads : List ℕ
  heads = heads_of table.regions

  -- what is live at the head of a region
  named_live : (region head x : ℕ) → slice_get heads region ≡ Some head → list_any (nat_eq x) (region_live table region) ≡ true → IsLive flow x head
  named_live region head x there h =
      let found = region_at table.regions region head there in
      let is = each region found.0 found.1 in
      subst (λ (n : ℕ). IsLive flow x n) found.2
      ((is.live x).0 (subst (λ (r : Option TableRegion). list_any (nat_eq x) (live_of r) ≡ true) found.1 h))

  mutual
    -- what a tree needs is live at its node
    tree_needs : (room at left : ℕ) (tree : TableTree) → IsTreeOf flow Head heads room at tree left → (x : ℕ) → needs table tree x ≡ true → IsLive flow x at
    tree_needs _ at left _ (An_item {room} {next} {item} {rest} here behind) x h =
        item_needs flow at next item x here (needs table rest x) (λ e. behind_needs room next left rest behind x e) h
    tree_needs _ at left _ (A_test {room} {yes_side} {no_side} {mid} {on} {turn} {on_yes} {on_no} here one other) x h =
        test_needs flow at yes_side no_side on turn x here (needs table on_yes x) (needs table on_no x) (λ e. behind_needs room yes_side mid on_yes one x e)
        (λ e. behind_needs mid no_side left on_no other x e) h
    tree_needs _ at left _ (A_stop here) x h = absurd (cc)
    tree_needs _ at left _ (A_trap here) x h = absurd (cc)

    behind_needs : (room to left : ℕ) (tree : TableTree) → IsBehind flow Head heads room to tree left → (x : ℕ) → needs table tree x ≡ true → IsLive flow x to
    behind_needs room to left tree (Taken no_head is) x h = tree_needs room to left tree is x h
    behind_needs room to left _ (Not_taken {region} head there) x h = named_live region to x there h

  mutual
    -- all that a tree names is there
    tree_is_there : (room at left : ℕ) (tree : TableTree) → IsTreeOf flow Head heads room at tree left → TreeIsThere (length table.arrays) (length table.regions) tree
    tree_is_there _ at left _ (An_item {room} {next} {item} {rest} here behind) =
        (item_there table.arrays flow.arrays item same_arrays (is_flow.nodes_fit at (Op item next) here).0, behind_is_there room next left rest behind)
    tree_is_there _ at left _ (A_test {room} {yes_side} {no_side} {mid} {on} {turn} {on_yes} {on_no} here one other) = (
      operand_there on (is_flow.nodes_fit at (Test on yes_side no_side turn) here).0,
      behind_is_there room yes_side mid on_yes one,
      behind_is_there mid no_side left on_no other,
    )
    tree_is_there _ at left _ (A_stop here) = tt
    tree_is_there _ at left _ (A_trap here) = tt

    behind_is_there : (room to left : ℕ) (tree : TableTree) → IsBehind flow Head heads room to tree left → TreeIsThere (length table.arrays) (length table.regions) tree
    behind_is_there room to left tree (Taken no_head is) = tree_is_there room to left tree is
    behind_is_there room to left _ (Not_taken {region} head there) =
        let found = region_at table.regions region to there in place_within table.regions region found.0 found.1

  mutual
    -- a tree has as many items and tests as nodes were taken, or fewer
    tree_is_small : (room at left : ℕ) (tree : TableTree) → IsTreeOf flow Head heads room at tree left → units tree + left ≤ room
    tree_is_small _ at left _ (An_item {room} {next} {item} {rest} here behind) = let few = behind_is_small room next left rest behind in omega (arith, few)
    tree_is_small _ at left _ (A_test {room} {yes_side} {no_side} {mid} {on} {turn} {on_yes} {on_no} here one other) =
        let few = behind_is_small room yes_side mid on_yes one in
        let fewer = behind_is_small mid no_side left on_no other in
        omega (arith, few, fewer)
    tree_is_small _ at left _ (A_stop here) = omega arith
    tree_is_small _ at left _ (A_trap here) = omega arith

    behind_is_small : (room to left : ℕ) (tree : TableTree) → IsBehind flow Head heads room to tree left → units tree + left ≤ room
    behind_is_small room to left tree (Taken no_head is) = tree_is_small room to left tree is
    behind_is_small room to left _ (Not_taken head there) = omega arith

  -- the rank of a node
  abbrev rank : ℕ → ℕ
  rank at = slice_index flow.ranks at

  mutual
    -- the region to which a tree without a test leads has a head of a smaller rank
    tree_descends : (room at left : ℕ) (tree : TableTree) → IsTreeOf flow Head heads room at tree left → (region : ℕ) → untested tree ≡ Some region
        → (to : ℕ) × (slice_get heads region ≡ Some to) × (rank to < rank at)
    tree_descends _ at left _ (An_item {room} {next} {item} {rest} here behind) region h =
        let found = behind_descends room next left rest behind region h in
        let lower = (is_flow.nodes_fit at (Op item next) here).1.lower in
        (found.0, found.1, let least = found.2 in omega (arith, lower, least))
    tree_descends _ at left _ (A_test here one other) region h = absurd (cc)
    tree_descends _ at left _ (A_stop here) region h = absurd (cc)
    tree_descends _ at left _ (A_trap here) region h = absurd (cc)

    behind_descends : (room to left : ℕ) (tree : TableTree) → IsBehind flow Head heads room to tree left → (region : ℕ) → untested tree ≡ Some region
        → (last : ℕ) × (slice_get heads region ≡ Some last) × (rank last ≤ rank to)
    behind_descends room to left tree (Taken no_head is) region h =
        let found = tree_descends room to left tree is region h in
        (found.0, found.1, let lower = found.2 in omega (arith, lower))
    behind_descends room to left _ (Not_taken {region = named} head there) region h =
        let same : named ≡ region = (cc) in
        (to, subst (λ (n : ℕ). slice_get heads n ≡ Some to) same there, omega arith)

  -- ---- regions

  -- the head of a region that is there
  record Leads (from to : ℕ) : Type 0 where
    head : ℕ
    last : ℕ
    from_head : slice_get heads from ≡ Some head
    to_head : slice_get heads to ≡ Some last
    lower : rank last < rank head

  leads_on : (from to : ℕ) (found : Option TableRegion) → slice_get table.regions from ≡ found → untested (tree_of found) ≡ Some to → Leads from to
  leads_on from to None e h = absurd (cc)
  leads_on from to (Some region) e h =
      let is = each from region e in
      let found = tree_descends _ region.head is.left region.tree is.tree to h in
      record { head = region.head; last = found.0; from_head = head_at table.regions from region e; to_head = found.1; lower = found.2 }

  leads_by : (from to : ℕ) → ComesUntested table from to → Leads from to
  leads_by from to (By_one h) = leads_on from to (slice_get table.regions from) refl h
  leads_by from to (By_more {mid} before h) =
      let one = leads_by from mid before in
      let other = leads_on mid to (slice_get table.regions mid) refl h in
      let same : one.last ≡ other.head = same_head one.to_head other.from_head in
      record {
        head = one.head;
        last = other.last;
        from_head = one.from_head;
        to_head = other.to_head;
        lower =
            let first : rank other.head < rank one.head = subst (λ (n : ℕ). rank n < rank one.head) same one.lower in
            let second = other.lower in
            omega (arith, first, second);
      }
    where
      same_head : {x y : ℕ} → slice_get heads mid ≡ Some x → slice_get heads mid ≡ Some y → x ≡ y
      same_head p q = cc

  -- each cycle of regions passes a test
  cut_tested : (region : ℕ) → ComesUntested table region region → ⊥
  cut_tested region cycle =
      let round = leads_by region region cycle in
      let same : round.last ≡ round.head = same_head round.to_head round.from_head in
      let lower : rank round.head < rank round.head = subst (λ (n : ℕ). rank n < rank round.head) same round.lower in
      omega (arith, lower)
    where
      same_head : {x y : ℕ} → slice_get heads region ≡ Some x → slice_get heads region ≡ Some y → x ≡ y
      same_head p q = cc

  -- what a region needs is live there
  region_needs : (number x : ℕ) (found : Option TableRegion) → slice_get table.regions number ≡ found → needs table (tree_of found) x ≡ true
      → list_any (nat_eq x) (live_of found) ≡ true
  region_needs number x None e h = absurd (cc)
  region_needs number x (Some region) e h =
      let is = each number region e in
      (is.live x).1 (tree_needs _ region.head is.left region.tree is.tree x h)

  -- and is a variable
  region_small : (number x : ℕ) (found : Option TableRegion) → slice_get table.regions number ≡ found → list_any (nat_eq x) (live_of found) ≡ true
      → x < variables
  region_small number x None e h = absurd (cc)
  region_small number x (Some region) e h = let is = each number region e in live_small flow x region.head is_flow ((is.live x).0 h)

  -- a region's tree comes next in itself
  region_begins : (number : ℕ) (found : Option TableRegion) → slice_get table.regions number ≡ found → arrive table (tree_of found) ≡ tree_of found
  region_begins number None e = refl
  region_begins number (Some region) e =
      let is = each number region e in arrive_tree flow Head heads table _ region.head is.left region.tree is.tree

  -- the loops of a region are there
  region_keeps : table.loops ≡ flow.loops → (number : ℕ) (region : TableRegion) → slice_get table.regions number ≡ Some region → RegionKeeps table region
  region_keeps same_loops number region e =
      let is = each number region e in record {
        there = tree_is_there _ region.head is.left region.tree is.tree;
        few = let small = tree_is_small _ region.head is.left region.tree is.tree in omega (arith, small);
        rising = is.rising;
        inside_there = subst (λ (loops : List LoopMark). IfSome region.inside (λ loop. loop < length loops)) (sym same_loops)
            (inside_there flow is_flow region.head region.inside is.inside);
        heads_there = subst (λ (loops : List LoopMark). IfSome region.heads (λ loop. loop < length loops)) (sym same_loops)
            (heads_there flow is_flow region.head region.heads is.heads_loop);
      }

-- a cut keeps all of it
pub cut_keeps : (flow : FlowGraph) (table : Table) → IsFlow flow → IsCutOf flow table → TableKeeps table
cut_keeps flow table is cut = record {
  some_region = regions_there table.regions flow.entry cut.entry;
  few_arrays = subst (λ (lengths : List ℕ). length lengths ≤ most_arrays) (sym cut.arrays) is.few_arrays;
  each = region_keeps flow is _ table cut.arrays cut.each cut.loops;
  outer_first = λ loop mark e. is.outer_first loop mark (subst (λ (loops : List LoopMark). slice_get loops loop ≡ Some mark) cut.loops e);
  live = λ region x h. region_needs flow is _ table cut.arrays cut.each region x (slice_get table.regions region) refl h;
  small = λ region x h. region_small flow is _ table cut.arrays cut.each region x (slice_get table.regions region) refl h;
  begins = λ region. region_begins flow is _ table cut.arrays cut.each region (slice_get table.regions region) refl;
  tested = cut_tested flow is _ table cut.arrays cut.each;
}
