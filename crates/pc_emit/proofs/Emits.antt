-- The rows of all regions, one region after the other.
use Rattle.std.proofs.Common.{◌≡◌, inl, inr, ℕ, zero, suc, ◌+◌, ◌-◌, ◌<◌, ◌≤◌, ◌^◌, List, [], ◌∷◌, ◌++◌, length, Option, Some, None, refl, sym, ◌∙◌, ap, subst, drop, get_or, arith}
use Rattle.std.specs.Prelude.{slice_get, slice_index}
use Rattle.std.specs.List.{AllByRecursion}
use Rattle.std.proofs.lemmas.List.{length-append, length-map}
use Rattle.std.proofs.lemmas.Option.{slice_get_within, slice_get-get_or}
use Rattle.pc_word.proofs.Truth.{decide_le}
use Rattle.pc_word.specs.declared.item.Limits.{Limits}
use Rattle.pc_word.specs.Row.{Row, Then, Either, At_leaf}
use Rattle.pc_table.specs.Table.{TableTree, Does, Asks, Next, Stops_here, Traps_here, TableRegion, tree_of, table_tree, table_region, table_regions, region_tree}
use Rattle.pc_table.specs.StoredTable.{table_of}
use Rattle.pc_table.specs.declared.table.RegionTable.{RegionTable}
use Rattle.pc_table.specs.declared.table.Region.{Region}
use Rattle.pc_table.specs.TableKeeps.{units}
use Rattle.pc_automaton.specs.declared.automaton.AutomatonLeaf.{AutomatonLeaf}
use Rattle.pc_automaton.specs.declared.automaton.AutomatonLeaf.TheVariants.{To, Out, Stop, Trap}
use Rattle.pc_automaton.specs.Automaton.{AutomatonState}
use Rattle.pc_assign.specs.Assigned.{Registers}
use Rattle.pc_word.specs.declared.row_tree.RowTree.{RowTree}
use Rattle.pc_machine.specs.declared.tree.Leaf.{Leaf}
use Rattle.pc_machine.specs.declared.tree.Leaf.TheVariants as machine
use Rattle.pc_machine.specs.MachineCode.{CodeRow, row_of, rows_of}
use Rattle.pc_machine.specs.WellFormed.{IsLeaf, IsRow}
use Rattle.pc_machine.specs.Reachable.{IsReachable}
use Rattle.pc_emit.specs.declared.form.RegionForm.{RegionForm as StoredForm}
use Rattle.pc_emit.specs.Bytes.{tree_bytes, row_bytes, states_bytes, form_bytes, regions_bytes}
use Rattle.pc_emit.specs.Emitted.{RegionForm, Plain, ByAutomaton, root_leaf, form_leaf, BeginsAt, at_first_row, by_leaf_alone, BeginsAtFirstRow, IsEmitted}
use Rattle.pc_emit.specs.Emitting.{form_in, region_forms, AreEnough, CanHave, AreEmitted, AreForms}
use Rattle.pc_emit.specs.declared.output.Output.{Output}
use Rattle.pc_emit.specs.declared.plan.Plan.{Plan}
use Rattle.pc_emit.specs.models.Output.{bytes_of, Stays, OutputGrows, EachCopy}
use Rattle.pc_emit.specs.models.Layout.{rows_in, leaf_alone, front_rows, all_rows, entries_from, AreEntries, table_in, forms_at, emission_in, rows_end, IsPlan}
use Rattle.pc_emit.specs.models.Making.{bytes_in, IsOnTheWay, RowsReached, RegionMade, RegionsMade}
use Rattle.pc_emit.proofs.Entries.{form_within, region_target}
use Rattle.pc_emit.proofs.PlainRuns.{IsRoot, roots}
use Rattle.pc_emit.proofs.AllRows.{all_reached, all_fit}
use Rattle.pc_emit.proofs.Leads.{tree_is}
use Rattle.pc_emit.proofs.Passings.{nothing_grows, grows_more}
use Rattle.pc_emit.proofs.Texts.{bytes_both}
use Rattle.pc_emit.proofs.Ways.{same_copies}
use Rattle.pc_emit.proofs.States.{bytes_made}

-- ---- entries

-- each row of a state has a byte
row_some : (row : Row AutomatonLeaf) → 1 ≤ row_bytes row
row_some (Then item rest) = let some = row_some rest in omega (arith, some)
row_some (Either on on_yes on_no) = omega arith
row_some (At_leaf (To state arguments)) = omega arith
row_some (At_leaf (Out region homes)) = omega arith
row_some (At_leaf Stop) = omega arith
row_some (At_leaf (Trap kind line)) = omega arith

-- so a region has no more rows than bytes
states_few : (states : List AutomatonState) → length states ≤ states_bytes states
states_few [] = omega arith
states_few (state ∷ states) = let one = row_some state.row in let rest = states_few states in omega (arith, one, rest)

tree_few : (tree : TableTree) → units tree ≤ tree_bytes tree
tree_few (Does origin item rest) = let few = tree_few rest in omega (arith, few)
tree_few (Asks origin on on_yes on_no) = let one = tree_few on_yes in let other = tree_few on_no in omega (arith, one, other)
tree_few (Next region) = omega arith
tree_few Stops_here = omega arith
tree_few (Traps_here kind line) = omega arith

rows_few : (tree : TableTree) (form : Option RegionForm) → rows_in tree form ≤ form_bytes tree form
rows_few tree None = omega arith
rows_few tree (Some Plain) = let few = tree_few tree in omega (arith, few)
rows_few tree (Some (ByAutomaton states registers)) = states_few states

-- and all have no more rows than were counted
all_few : (f : ℕ → Option RegionForm) (number : ℕ) (regions : List Region) (forms : List (Option StoredForm)) → ((at : ℕ) → f (number + at) ≡ form_in (slice_get forms at))
    → all_rows regions forms ≤ regions_bytes f number (table_regions regions)
all_few f number [] forms same = omega arith
all_few f number (region ∷ regions) [] same = omega arith
all_few f number (region ∷ regions) (form ∷ forms) same =
    let here : f number ≡ form_in (Some form) = (let at : number ≡ number + 0 = omega arith in ap f at ∙ same 0) in
    let one = rows_few (table_tree region.tree) (form_in (Some form)) in
    let counted = ap (form_bytes (table_tree region.tree)) here in
    let rest = all_few f (1 + number) regions forms (λ at. (let next : 1 + number + at ≡ number + suc at = omega arith in ap f next ∙ same (suc at))) in
    omega (arith, one, counted, rest)

many_entries : (row : ℕ) (regions : List Region) (forms : List (Option StoredForm)) → length forms ≡ length regions
    → length (entries_from row regions forms) ≡ suc (length regions)
many_entries row [] forms same = refl
many_entries row (region ∷ regions) [] same = absurd (omega (arith, same))
many_entries row (region ∷ regions) (form ∷ forms) same =
    ap suc (many_entries (row + rows_in (table_tree region.tree) (form_in (Some form))) regions forms (omega (arith, same)))

first_entry : (row : ℕ) (regions : List Region) (forms : List (Option StoredForm)) → slice_index (entries_from row regions forms) 0 ≡ row
first_entry row [] forms = refl
first_entry row (region ∷ regions) [] = refl
first_entry row (region ∷ regions) (form ∷ forms) = refl

next_entry : (row : ℕ) (regions : List Region) (forms : List (Option StoredForm)) → length forms ≡ length regions → (region : ℕ) → region < length regions
    → slice_index (entries_from row regions forms) (suc region)
    ≡ slice_index (entries_from row regions forms) region + rows_in (tree_of (slice_get (table_regions regions) region)) (form_in (slice_get forms region))
next_entry row [] forms same region lt = absurd (omega (arith, lt))
next_entry row (first ∷ regions) [] same region lt = absurd (omega (arith, same))
next_entry row (first ∷ regions) (form ∷ forms) same zero lt = first_entry (row + rows_in (table_tree first.tree) (form_in (Some form))) regions forms
next_entry row (first ∷ regions) (form ∷ forms) same (suc region) lt =
    next_entry (row + rows_in (table_tree first.tree) (form_in (Some form))) regions forms (omega (arith, same)) region (omega (arith, lt))

last_entry : (row : ℕ) (regions : List Region) (forms : List (Option StoredForm)) → length forms ≡ length regions
    → slice_index (entries_from row regions forms) (length regions) ≡ row + all_rows regions forms
last_entry row [] forms same = omega arith
last_entry row (region ∷ regions) [] same = absurd (omega (arith, same))
last_entry row (region ∷ regions) (form ∷ forms) same =
    let rest = last_entry (row + rows_in (table_tree region.tree) (form_in (Some form))) regions forms (omega (arith, same)) in
    omega (arith, rest)

-- no table has as many rows as there are numbers
pub rows_below : (table : RegionTable) (forms : List (Option StoredForm)) (limits : Limits) (first : ℕ) → AreForms (table_of table) limits (region_forms forms)
    → first ≡ length (front_rows (region_tree (table_of table) 0) (region_forms forms 0)) → first + all_rows table.regions forms < 2 ^ 32
rows_below table forms limits first are begins =
    let few = all_few (region_forms forms) 0 table.regions forms (λ at. (let none : 0 + at ≡ at = omega arith in ap (region_forms forms) none)) in
    let short = are.short in
    let one = front_few (region_tree (table_of table) 0) (region_forms forms 0) in
    omega (arith, few, short, one, begins)
  where
    alone_few : (tree : TableTree) → length (leaf_alone tree) ≤ 1
    alone_few (Does origin item rest) = omega arith
    alone_few (Asks origin on on_yes on_no) = omega arith
    alone_few (Next region) = omega arith
    alone_few Stops_here = omega arith
    alone_few (Traps_here kind line) = omega arith

    front_few : (tree : TableTree) (form : Option RegionForm) → length (front_rows tree form) ≤ 1
    front_few tree None = omega arith
    front_few tree (Some Plain) = alone_few tree
    front_few tree (Some (ByAutomaton states registers)) = omega arith

-- the entries that are found are those of the plan
pub are_entries : (table : RegionTable) (forms : List (Option StoredForm)) (limits : Limits) (entries : List ℕ) (first : ℕ) → length forms ≡ length table.regions
    → AreForms (table_of table) limits (region_forms forms) → first ≡ length (front_rows (region_tree (table_of table) 0) (region_forms forms 0))
    → entries ≡ entries_from first table.regions forms → AreEntries (table_of table) (region_forms forms) entries
are_entries table forms limits entries first same are begins found = record {
  as_many =
      let many = ap (λ (l : List ℕ). length l) found in
      let each = many_entries first table.regions forms same in
      let regions = length-map table.regions table_region in
      omega (arith, many, each, regions);
  first = ap (λ (l : List ℕ). slice_index l 0) found ∙ first_entry first table.regions forms ∙ begins;
  next = λ region lt.
      let regions = length-map table.regions table_region in
      let at = next_entry first table.regions forms same region (omega (arith, lt, regions)) in
      let now = ap (λ (l : List ℕ). slice_index l (suc region)) found in
      let before = ap (λ (l : List ℕ). slice_index l region) found in
      omega (arith, at, now, before);
  few =
      let all = ap (λ (l : List ℕ). slice_index l (length table.regions)) found in
      let last = last_entry first table.regions forms same in
      let regions = ap (slice_index entries) (length-map table.regions table_region) in
      let few = rows_below table forms limits first are begins in
      omega (arith, all, last, regions, few);
}

-- ---- bytes

-- the bytes of regions' rows, without a leaf alone in front of them
abbrev pub bare_bytes : (ℕ → Option RegionForm) → (number : ℕ) → List TableRegion → ℕ
bare_bytes f number [] = zero
bare_bytes f number (region ∷ regions) = bytes_in region.tree (f number) + bare_bytes f (suc number) regions

bare_less : (f : ℕ → Option RegionForm) (number : ℕ) (regions : List TableRegion) → bare_bytes f number regions ≤ regions_bytes f number regions
bare_less f number [] = omega arith
bare_less f number (region ∷ regions) =
    let one = of_form region.tree (f number) in
    let rest = bare_less f (suc number) regions in
    let next : suc number ≡ 1 + number = omega arith in
    let same = ap (λ (n : ℕ). regions_bytes f n regions) next in
    omega (arith, one, rest, same)
  where
    of_form : (tree : TableTree) (form : Option RegionForm) → bytes_in tree form ≤ form_bytes tree form
    of_form tree None = omega arith
    of_form tree (Some Plain) = omega arith
    of_form tree (Some (ByAutomaton states registers)) = omega arith

-- a leaf alone is counted with region 0
front_less : (f : ℕ → Option RegionForm) (regions : List TableRegion) → 1 ≤ length regions
    → bytes_of (front_rows (tree_of (slice_get regions 0)) (f 0)) + bare_bytes f 0 regions ≤ regions_bytes f 0 regions
front_less f [] some = absurd (omega (arith, some))
front_less f (region ∷ regions) some =
    let one = of_form region.tree (f 0) in
    let rest = bare_less f 1 regions in
    omega (arith, one, rest)
  where
    of_tree : (tree : TableTree) → bytes_of (leaf_alone tree) ≤ 6
    of_tree (Does origin item rest) = omega arith
    of_tree (Asks origin on on_yes on_no) = omega arith
    of_tree (Next region) = omega arith
    of_tree Stops_here = omega arith
    of_tree (Traps_here kind line) = omega arith

    of_form : (tree : TableTree) (form : Option RegionForm) → bytes_of (front_rows tree form) + bytes_in tree form ≤ form_bytes tree form
    of_form tree None = omega arith
    of_form tree (Some Plain) = let few = of_tree tree in omega (arith, few)
    of_form tree (Some (ByAutomaton states registers)) = omega arith

-- ---- region by region

-- the rows of the first regions were put after the row in front
pub record RegionsSoFar (plan : Plan) (old new : Output) (count : ℕ) : Type 0 where
  pub grows : OutputGrows old new
  pub count_is : length new.rows ≡ slice_index plan.entries.now count
  pub made : RegionsMade plan new count
  pub ways : EachCopy (IsOnTheWay plan (RowsReached 0 (length new.rows))) old new
  pub short : bytes_made new + bare_bytes (forms_at plan) count (drop count (table_in plan).regions) ≤ bytes_made old + bare_bytes (forms_at plan) 0 (table_in plan).regions

module _ (plan : Plan) (is : IsPlan plan) (old : Output) where
  -- at first none was
  pub no_regions : length old.rows ≡ slice_index plan.entries.now 0 → RegionsSoFar plan old old 0
  no_regions begins = record {
    grows = nothing_grows old;
    count_is = begins;
    made = record { each = λ region lt. absurd (omega (arith, lt)) };
    ways = same_copies old old refl;
    short = omega arith;
  }

  -- and one region more
  pub one_more_region : (mid new : Output) (region : ℕ) → region < length (table_in plan).regions → RegionsSoFar plan old mid region → OutputGrows mid new
      → length new.rows ≡ length mid.rows + rows_in (region_tree (table_in plan) region) (forms_at plan region) → RegionMade plan new region
      → EachCopy (IsOnTheWay plan (RowsReached (length mid.rows) (length new.rows))) mid new
      → bytes_made new ≤ bytes_made mid + bytes_in (region_tree (table_in plan) region) (forms_at plan region)
      → RegionsSoFar plan old new (region + 1)
  one_more_region mid new region within so_far grows count_more made ways short = record {
    grows = grows_more old mid new so_far.grows grows;
    count_is =
        let next = is.entries.next region within in
        let before = so_far.count_is in
        let one : region + 1 ≡ suc region = omega arith in
        let at = ap (slice_index plan.entries.now) one in
        omega (arith, next, before, at, count_more);
    made = record {
      each = λ other lt. elim (decide_le (suc other) region) [
        | inl below ↦ record { stands = λ form has final stays. (so_far.made.each other below).stands form has final (grows.stays final stays) }
        | inr above ↦ let same : region ≡ other = omega (arith, lt, above) in subst (RegionMade plan new) same made
      ];
    };
    ways = record {
      each = λ final stays at low high. elim (decide_le (suc at) (length mid.copies.items)) [
        | inl below ↦
            let way = so_far.ways.each final (grows.stays final stays) at low below in
            subst (λ (b : ℕ). IsOnTheWay plan (RowsReached 0 (length new.rows)) final (b + at)) (sym grows.base)
            (record { fits = way.fits; reached = λ reached. way.reached (λ row from to. reached row from (omega (arith, to, count_more))) })
        | inr above ↦
            let way = ways.each final stays at (omega (arith, above)) high in
            record { fits = way.fits; reached = λ reached. way.reached (λ row from to. reached row (omega arith) to) }
      ];
    };
    short =
        let before = so_far.short in
        let left = next_left (table_in plan).regions region (forms_at plan) region within in
        omega (arith, before, left, short);
  }
    where
      next_left : (regions : List TableRegion) (at : ℕ) (f : ℕ → Option RegionForm) (number : ℕ) → at < length regions
          → bare_bytes f number (drop at regions) ≡ bytes_in (tree_of (slice_get regions at)) (f number) + bare_bytes f (number + 1) (drop (at + 1) regions)
      next_left [] at f number lt = absurd (omega (arith, lt))
      next_left (first ∷ regions) zero f number lt =
          let next : suc number ≡ number + 1 = omega arith in
          ap (λ (n : ℕ). bytes_in first.tree (f number) + bare_bytes f n regions) next
      next_left (first ∷ regions) (suc at) f number lt =
          let next : suc at + 1 ≡ suc (at + 1) = omega arith in
          next_left regions at f number (omega (arith, lt))
          ∙ ap (λ (n : ℕ). bytes_in (tree_of (slice_get regions at)) (f number) + bare_bytes f (number + 1) (drop n (first ∷ regions))) (sym next)

-- ---- all rows

module _ (plan : Plan) (is : IsPlan plan) (old new : Output) (rows : List CodeRow) (so_far : RegionsSoFar plan old new (length plan.table.now.regions))
    (base : old.base ≡ rows_end plan) (no_copies : length old.copies.items ≡ 0)
    (front : rows_of old.rows ≡ front_rows (region_tree (table_in plan) 0) (forms_at plan 0)) (are : rows ≡ rows_of new.rows ++ rows_of new.copies.items) where
  rows_many : length (rows_of new.rows) ≡ rows_end plan
  rows_many = length-map new.rows row_of ∙ so_far.count_is

  base_is : new.base ≡ rows_end plan
  base_is = so_far.grows.base ∙ base

  -- all that was made has its place
  all_stays : Stays new rows
  all_stays = record {
    rows_stay = λ at row there. subst (λ (l : List CodeRow). slice_get l at ≡ Some row) (sym are) (in_front_part (rows_of new.rows) (rows_of new.copies.items) at row there);
    copies_stay = λ at row there.
        subst (λ (l : List CodeRow). slice_get l (new.base + at) ≡ Some row) (sym are)
        (in_back_part (rows_of new.rows) (rows_of new.copies.items) (new.base + at) at row (let many = rows_many in let base = base_is in omega (arith, many, base)) there);
  }
    where
      in_front_part : (xs ys : List CodeRow) (at : ℕ) (row : CodeRow) → slice_get xs at ≡ Some row → slice_get (xs ++ ys) at ≡ Some row
      in_front_part [] ys at row e = absurd (cc)
      in_front_part (x ∷ xs) ys zero row e = e
      in_front_part (x ∷ xs) ys (suc at) row e = in_front_part xs ys at row e

      in_back_part : (xs ys : List CodeRow) (place at : ℕ) (row : CodeRow) → place ≡ length xs + at → slice_get ys at ≡ Some row → slice_get (xs ++ ys) place ≡ Some row
      in_back_part [] ys place at row is e = let same : place ≡ at = omega (arith, is) in ap (slice_get ys) same ∙ e
      in_back_part (x ∷ xs) ys zero at row is e = absurd (omega (arith, is))
      in_back_part (x ∷ xs) ys (suc place) at row is e = in_back_part xs ys place at row (omega (arith, is)) e

  rows_in_all : length rows ≡ rows_end plan + length new.copies.items
  rows_in_all =
      let all = ap (λ (l : List CodeRow). length l) are in
      let both = length-append (rows_of new.rows) (rows_of new.copies.items) in
      let one = rows_many in
      let other = length-map new.copies.items row_of in
      omega (arith, all, both, one, other)

  -- nothing stands in front of region 0 where it is packed
  first_row : BeginsAtFirstRow (emission_in plan)
  first_row states registers e =
      let first = is.entries.first ∙ ap (λ (f : Option RegionForm). length (front_rows (region_tree (table_in plan) 0) f)) e in
      omega (arith, first)

  pub all_emitted : IsEmitted (emission_in plan) rows
  all_emitted = record {
    first = form_leaf (emission_in plan) 0 is.forms.first.form;
    leads = record { form = is.forms.first.form; has = is.forms.first.has; is = refl };
    begins = begins is.forms.first.form is.forms.first.has;
    stands = λ region form has.
        (so_far.made.each region (let within = form_within plan is region form has in let many = length-map plan.table.now.regions table_region in omega (arith, within, many))).stands
        form has rows all_stays;
  }
    where
      -- the row in front, if there is one
      in_front_is : (leaf : CodeRow) → front_rows (region_tree (table_in plan) 0) (forms_at plan 0) ≡ leaf ∷ [] → slice_get rows 0 ≡ Some leaf
      in_front_is leaf e = (so_far.grows.stays rows all_stays).rows_stay 0 leaf (ap (λ (l : List CodeRow). slice_get l 0) (front ∙ e))

      entry : ℕ
      entry = slice_index plan.entries.now 0

      by_tree : (tree : TableTree) → region_tree (table_in plan) 0 ≡ tree → IsRoot tree → forms_at plan 0 ≡ Some Plain → BeginsAt rows (root_leaf entry tree)
      by_tree (Does origin item rest) t root e =
          let none : entry ≡ 0 = is.entries.first ∙ ap (λ (f : Option RegionForm). length (front_rows (region_tree (table_in plan) 0) f)) e ∙ ap (λ (it : TableTree). length (leaf_alone it)) t in
          subst (λ (n : ℕ). BeginsAt rows (machine.Goto n)) (sym none) at_first_row
      by_tree (Asks origin on on_yes on_no) t root e =
          let none : entry ≡ 0 = is.entries.first ∙ ap (λ (f : Option RegionForm). length (front_rows (region_tree (table_in plan) 0) f)) e ∙ ap (λ (it : TableTree). length (leaf_alone it)) t in
          subst (λ (n : ℕ). BeginsAt rows (machine.Goto n)) (sym none) at_first_row
      by_tree (Next region) t root e = absurd root
      by_tree Stops_here t root e = by_leaf_alone (in_front_is (At_leaf machine.Stop) (ap (front_rows (region_tree (table_in plan) 0)) e ∙ ap leaf_alone t))
      by_tree (Traps_here kind line) t root e = by_leaf_alone (in_front_is (At_leaf (machine.Trap kind line)) (ap (front_rows (region_tree (table_in plan) 0)) e ∙ ap leaf_alone t))

      begins : (form : RegionForm) → forms_at plan 0 ≡ Some form → BeginsAt rows (form_leaf (emission_in plan) 0 form)
      begins Plain e = by_tree (region_tree (table_in plan) 0) refl (roots (table_in plan) is.kept 0) e
      begins (ByAutomaton states registers) e = subst (λ (n : ℕ). BeginsAt rows (machine.Goto n)) (sym (first_row states registers e)) at_first_row

  -- a row is one of a region, or of copies
  by_part : (P : ℕ → Type 0) → ((number : ℕ) → number < rows_end plan → P number)
      → ((at : ℕ) → at < length new.copies.items → P (new.base + at)) → (number : ℕ) → number < length rows → P number
  by_part P own copies number lt = elim (decide_le (suc number) (rows_end plan)) [
    | inl below ↦ own number below
    | inr above ↦
        let many = rows_in_all in
        let base = base_is in
        let at = number - rows_end plan in
        let is : new.base + at ≡ number = omega (arith, above, base) in
        subst P is (copies at (omega (arith, above, lt, many)))
  ]

  way : (at : ℕ) → at < length new.copies.items → IsOnTheWay plan (RowsReached 0 (length new.rows)) rows (new.base + at)
  way at lt = so_far.ways.each rows all_stays at (omega (arith, no_copies)) lt

  reached : (number : ℕ) → number < length rows → IsReachable rows number
  reached = by_part (λ number. IsReachable rows number) (all_reached plan is rows all_emitted)
      (λ at lt. (way at lt).reached (λ row low high. all_reached plan is rows all_emitted row (let many = so_far.count_is in omega (arith, high, many))))

  fit : (count : ℕ) → AreEnough count (forms_at plan) → AllByRecursion (IsRow plan.limits count (length plan.table.now.arrays) (length rows)) rows
  fit count enough = at_each (IsRow plan.limits count (length plan.table.now.arrays) (length rows)) rows
      (λ at row there. by_part (λ number. (row : CodeRow) → slice_get rows number ≡ Some row → IsRow plan.limits count (length plan.table.now.arrays) (length rows) row)
      (all_fit plan is rows all_emitted count enough within) (λ at lt. (way at lt).fits count enough within) at (slice_get_within rows at row there) row there)
    where
      within : rows_end plan ≤ length rows
      within = let many = rows_in_all in omega (arith, many)

      at_each : {X : Type 0} (P : X → Type 0) (xs : List X) → ((at : ℕ) (x : X) → slice_get xs at ≡ Some x → P x) → AllByRecursion P xs
      at_each P [] h = tt
      at_each P (x ∷ xs) h = (h 0 x refl, at_each P xs (λ at y e. h (suc at) y e))

  some : 1 ≤ length rows
  some = by_leaf all_emitted.begins (region_target plan is 0 all_emitted.first all_emitted.leads).within
    where
      by_leaf : {leaf : Leaf} → BeginsAt rows leaf → IsLeaf (rows_end plan) leaf → 1 ≤ length rows
      by_leaf at_first_row within = let many = rows_in_all in omega (arith, many, within)
      by_leaf (by_leaf_alone there) within = let less = slice_get_within rows 0 _ there in omega (arith, less)

  short : bytes_of rows ≤ regions_bytes (forms_at plan) 0 (table_in plan).regions
  short =
      let made = so_far.short in
      let all = ap bytes_of are ∙ bytes_both (rows_of new.rows) (rows_of new.copies.items) in
      let first = ap bytes_of front in
      let none = empty old.copies.items no_copies in
      let counted = front_less (forms_at plan) (table_in plan).regions is.kept.some_region in
      omega (arith, made, all, first, none, counted)
    where
      empty : (trees : List (RowTree Leaf)) → length trees ≡ 0 → bytes_of (rows_of trees) ≡ 0
      empty [] e = refl
      empty (tree ∷ trees) e = absurd (omega (arith, e))

  pub are_emitted : AreEmitted (table_in plan) plan.forms.now plan.limits rows
  are_emitted = record { entries = plan.entries.now; are = all_emitted; first_row = first_row; some = some; fit = fit; reached = reached; short = short }

-- ---- what the code reads

-- the rows of regions begin after the leaf alone of region 0
pub begins_behind : (table : RegionTable) (forms : List (Option StoredForm)) (regions : List Region) (region : Region) (form : Option StoredForm) (front : List (RowTree Leaf)) (first : ℕ)
    → regions ≡ table.regions → 1 ≤ length (table_of table).regions → length forms ≡ length table.regions → form ≡ get_or forms 0 form
    → rows_of front ≡ front_rows (table_tree (get_or regions 0 region).tree) (form_in (Some form)) → first ≡ length front
    → first ≡ length (front_rows (region_tree (table_of table) 0) (region_forms forms 0))
begins_behind table forms regions region form front first same some count of_form is begins =
    let many = length-map table.regions table_region in
    let some_region : 0 < length regions = (let long = ap (λ (l : List Region). length l) same in omega (arith, some, many, long)) in
    let some_form : 0 < length forms = omega (arith, some, many, count) in
    let there = ap (λ (l : List Region). slice_get l 0) (sym same) ∙ slice_get-get_or regions 0 region some_region in
    let tree = tree_is table 0 (get_or regions 0 region) there in
    let has = ap form_in (slice_get-get_or forms 0 form some_form ∙ ap (λ (f : Option StoredForm). Some f) (sym of_form)) in
    begins ∙ sym (length-map front row_of)
    ∙ ap (λ (l : List CodeRow). length l) (is ∙ ap (λ (t : TableTree). front_rows t (form_in (Some form))) tree ∙ ap (front_rows (region_tree (table_of table) 0)) (sym has))

-- there are fewer regions than numbers
pub regions_few : (plan : Plan) → IsPlan plan → length plan.table.now.regions < 2 ^ 32
regions_few plan is =
    let few = each_some (table_in plan).regions 0 (λ region states registers has.
    let can : CanHave (table_in plan) plan.limits (forms_at plan) (region_tree (table_in plan) region) (ByAutomaton states registers) = is.forms.each region (ByAutomaton states registers) has in
    can.automaton.some) in
    let short = is.forms.short in
    let many = length-map plan.table.now.regions table_region in
    omega (arith, few, short, many)
  where
    one : (tree : TableTree) (form : Option RegionForm) → ((states : List AutomatonState) (registers : Registers) → form ≡ Some (ByAutomaton states registers) → 1 ≤ length states)
        → 1 ≤ form_bytes tree form
    one tree None some = omega arith
    one tree (Some Plain) some = omega arith
    one tree (Some (ByAutomaton states registers)) some = let few = states_few states in let first = some states registers refl in omega (arith, few, first)

    each_some : (regions : List TableRegion) (number : ℕ)
        → ((region : ℕ) (states : List AutomatonState) (registers : Registers) → forms_at plan region ≡ Some (ByAutomaton states registers) → 1 ≤ length states)
        → length regions ≤ regions_bytes (forms_at plan) number regions
    each_some [] number some = omega arith
    each_some (region ∷ regions) number some =
        let first = one region.tree (forms_at plan number) (some number) in
        let rest = each_some regions (1 + number) some in
        omega (arith, first, rest)
