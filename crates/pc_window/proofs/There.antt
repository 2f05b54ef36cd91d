-- What a window names stays there in its table, and its tags stay as low, as it is opened, tidied, rebased, filled and cut.
use Rattle.std.proofs.Common.{◌≡◌, ℕ, suc, ◌≤◌, List, [], ◌∷◌, length, map, Option, Some, None, refl, sym, ◌∙◌, ap, subst, arith}
use Rattle.std.specs.Prelude.{Bool, true, false, if◌then◌else◌, nat_eq, nat_lt, pos, slice_get}
use Rattle.std.specs.List.{AllByRecursion, list_any}
use Rattle.pc_word.specs.declared.item.Item.{Item}
use Rattle.pc_word.specs.declared.item.Item.TheVariants.{Bin, Copy, Load, Store, Print, Read, More}
use Rattle.pc_word.specs.declared.item.Operand.{Operand}
use Rattle.pc_word.specs.declared.item.Operand.TheVariants.{Name, Lit}
use Rattle.pc_word.specs.Row.{items_of, leaves_of}
use Rattle.pc_word.proofs.Lists.{all_both}
use Rattle.pc_linear.specs.Form.{Form}
use Rattle.pc_table.specs.Table.{TableTree, Does, Asks, Next, Stops_here, Traps_here, TableRegion, Table, tree_of, region_tree, region_live}
use Rattle.pc_table.specs.TableKeeps.{TableKeeps, TreeIsThere}
use Rattle.pc_window.specs.declared.home.Home.{Home}
use Rattle.pc_window.specs.Tree.{Tree, Pending, Undecided, Exit, Stop_exit, Trap_exit, Front, Issued, Split, Unfinished, whole, front_of}
use Rattle.pc_window.specs.Names.{uses}
use Rattle.pc_window.specs.Opening.{Supply, Brought, Moves_home, Gets_name, Stays_plain, brought, Grafted, graft_item, homes_at, graft, opened}
use Rattle.pc_table.specs.Loops.{is_inside, innermost_loop}
use Rattle.pc_window.specs.Opening.{first_new, first_home, first_supply}
use Rattle.pc_window.specs.Tidying.{tidied}
use Rattle.pc_window.specs.Rename.{map_homes, mapped}
use Rattle.pc_window.specs.Jump.{Rises, Root, Past_item, Past_yes, Past_no, DividesTree, Root_test, Past, EntersFront, Lands, Lands_renamed, Lands_test}
use Rattle.pc_window.specs.Jump.{Lands_once, Behind_item, On_yes, On_no}
use Rattle.pc_window.specs.Filled.{Filled, Full, Goes_on}
use Rattle.pc_window.specs.WindowRun.{Window}
use Rattle.pc_window.specs.Kept.{Left, Rest, Gone}
use Rattle.pc_window.specs.Steps.{left_of, left_at_root, front_row, cut_row, with_tree}
use Rattle.pc_window.specs.There.{ArrayIsThere, PartsAreThere, LeftIsThere, RowIsThere}
use Rattle.pc_window.specs.Laws.{OpenedPartsAreThere, OpenedParametersAreLive, TidiedPartsAreThere, TidyingAddsNoParameter, RebasedPartsAreThere, FilledPartsAreThere, CutPartsAreThere}
use Rattle.pc_window.proofs.CutRows.{whole_front_of}
use Rattle.pc_window.proofs.Tidying.{tidied_tidy}
use Rattle.pc_window.proofs.Uses.{graft-uses}
use Rattle.pc_word.specs.Naming.{map_operands, with_dest}

-- ---- opening

module _ (table : Table) where
  -- what becomes of an item has its array
  abbrev GivesThere : Brought → Type 0
  GivesThere (Moves_home variable from) = Unit {0}
  GivesThere (Gets_name variable item form) = ArrayIsThere table item
  GivesThere (Stays_plain item) = ArrayIsThere table item

  brought_there : (names : Supply) (homes : ℕ → Operand) (item : Item) → ArrayIsThere table item → GivesThere (brought names homes item)
  brought_there names homes (Bin op dest left right) h = tt
  brought_there names homes (Copy dest from) h = tt
  brought_there names homes (Load dest array index) h = h
  brought_there names homes (Store array index value) h = h
  brought_there names homes (Print value) h = tt
  brought_there names homes (Read dest) h = tt
  brought_there names homes (More dest) h = tt

  -- a stub has the homes of the variables that are live
  pub homes_live : (homes : ℕ → Operand) (variables : List ℕ) → map (λ (home : Home). home.variable) (homes_at homes variables) ≡ variables
  homes_live homes [] = refl
  homes_live homes (v ∷ variables) = ap (λ (vs : List ℕ). v ∷ vs) (homes_live homes variables)

  module _ (loop : Option ℕ) (tag : ℕ) where
    stub_tag_most : (b : Bool) → (if b then suc tag else tag) ≤ suc tag
    stub_tag_most true = omega arith
    stub_tag_most false = omega arith

    item_grafted : (origin : ℕ) (b : Brought) (names : Supply) (homes : ℕ → Operand) (rest : Supply → (ℕ → Operand) → Grafted) → GivesThere b
        → ((names : Supply) (homes : ℕ → Operand) → PartsAreThere table (suc tag) (rest names homes).tree)
        → PartsAreThere table (suc tag) (graft_item tag origin b names homes rest).tree
    item_grafted origin (Moves_home variable from) names homes rest gives h = h names _
    item_grafted origin (Gets_name variable item form) names homes rest gives h = (omega arith, gives, h _ _)
    item_grafted origin (Stays_plain item) names homes rest gives h = (omega arith, gives, h names homes)

    -- no tag is more than one higher
    pub graft_there : (tree : TableTree) (names : Supply) (homes : ℕ → Operand) → TreeIsThere (length table.arrays) (length table.regions) tree
        → PartsAreThere table (suc tag) (graft table loop tag tree names homes).tree
    graft_there (Does origin item rest) names homes h =
        item_grafted origin (brought names homes item) names homes (graft table loop tag rest) (brought_there names homes item h.0.array)
        (λ names' homes'. graft_there rest names' homes' h.1)
    graft_there (Asks origin on on_yes on_no) names homes h = (omega arith, graft_there on_yes names homes h.1, graft_there on_no _ homes h.2)
    graft_there (Next region) names homes h =
        (stub_tag_most _, record { leads = h; live = homes_live homes (region_live table region) })
    graft_there Stops_here names homes h = tt
    graft_there (Traps_here kind line) names homes h = tt

-- what a region's tree names is there
pub tree_there : (table : Table) → TableKeeps table → (region : ℕ) → TreeIsThere (length table.arrays) (length table.regions) (region_tree table region)
tree_there table keeps region = by_region (slice_get table.regions region) refl
  where
    by_region : (r : Option TableRegion) → slice_get table.regions region ≡ r → TreeIsThere (length table.arrays) (length table.regions) (tree_of r)
    by_region None at = tt
    by_region (Some r) at = (keeps.each region r at).there

pub opened_there : OpenedPartsAreThere
opened_there table keeps limits region =
    let loop = innermost_loop table region in
    subst (PartsAreThere table 1) (sym (whole_front_of (opened table loop region).tree))
    (graft_there table loop 0 (region_tree table region) first_supply first_home (tree_there table keeps region))

-- the parameters of an opened window are the variables that the region's tree needs
pub opened_live : OpenedParametersAreLive
opened_live table keeps limits region x used =
    let loop = innermost_loop table region in
    let tree = region_tree table region in
    let home = graft-uses table loop 0 tree first_supply first_home x
    (sym (ap (λ (t : Tree). uses t x) (whole_front_of (opened table loop region).tree)) ∙ used) in
    let live = keeps.live region home.variable home.needed in
    let same : home.variable ≡ x = name_is home.variable x (nat_lt home.variable first_new) home.is in
    subst (λ (y : ℕ). list_any (nat_eq y) (region_live table region) ≡ true) same live
  where
    name_is : (v x : ℕ) (b : Bool) → (if b then Name v else Lit (pos 0)) ≡ Name x → v ≡ x
    name_is v x true is = cc
    name_is v x false is = absurd (cc)

-- ---- other operands and names

module _ (table : Table) (most : ℕ) where
  array_named : (name : ℕ) (item : Item) → ArrayIsThere table item → ArrayIsThere table (with_dest name item)
  array_named name (Bin op dest left right) h = tt
  array_named name (Copy dest from) h = tt
  array_named name (Load dest array index) h = h
  array_named name (Store array index value) h = h
  array_named name (Print value) h = tt
  array_named name (Read dest) h = tt
  array_named name (More dest) h = tt

  array_mapped : (f : Operand → Operand) (item : Item) → ArrayIsThere table item → ArrayIsThere table (map_operands f item)
  array_mapped f (Bin op dest left right) h = tt
  array_mapped f (Copy dest from) h = tt
  array_mapped f (Load dest array index) h = h
  array_mapped f (Store array index value) h = h
  array_mapped f (Print value) h = tt
  array_mapped f (Read dest) h = tt
  array_mapped f (More dest) h = tt

  homes_mapped : (f : Operand → Operand) (homes : List Home) → map (λ (home : Home). home.variable) (map_homes f homes) ≡ map (λ (home : Home). home.variable) homes
  homes_mapped f [] = refl
  homes_mapped f (home ∷ homes) = ap (λ (vs : List ℕ). home.variable ∷ vs) (homes_mapped f homes)

  there_mapped : (f : Operand → Operand) (tree : Tree) → PartsAreThere table most tree → PartsAreThere table most (mapped f tree)
  there_mapped f (Pending t o x rest) h = (h.0, array_mapped f x h.1, there_mapped f rest h.2)
  there_mapped f (Undecided t o on p q) h = (h.0, there_mapped f p h.1, there_mapped f q h.2)
  there_mapped f (Exit region t homes) h = (h.0, record { leads = h.1.leads; live = homes_mapped f homes ∙ h.1.live })
  there_mapped f Stop_exit h = tt
  there_mapped f (Trap_exit kind line) h = tt

  -- ---- filling

  -- an item that rises, and what it leaves
  risen_there : (forms : ℕ → Form) (tag origin : ℕ) (stood x : Item) (crosses : Bool) (from left : Tree) → Rises forms tag origin stood x crosses from left
      → PartsAreThere table most from → (tag ≤ most) × ArrayIsThere table stood × PartsAreThere table most left
  risen_there forms tag origin stood x crosses from left (Root rest unwritten) h = (h.0, h.1, there_mapped _ rest h.2)
  risen_there forms tag origin stood x crosses from left (Past_item t o y c rest left' clear apart rises) h =
      let r = risen_there forms tag origin stood x c rest left' rises h.2 in (r.0, r.1, (h.0, h.1, r.2))
  risen_there forms tag origin stood x crosses from left (Past_yes t o on c p q left' is unwritten rises) h =
      let r = risen_there forms tag origin stood x c p left' rises h.1 in (r.0, r.1, (h.0, r.2, h.2))
  risen_there forms tag origin stood x crosses from left (Past_no t o on c p q left' is unwritten rises) h =
      let r = risen_there forms tag origin stood x c q left' rises h.2 in (r.0, r.1, (h.0, h.1, r.2))

  -- a test that divides a tree, and both sides
  divided_there : (tag origin : ℕ) (on : Operand) (from p q : Tree) → DividesTree tag origin on from p q
      → PartsAreThere table most from → (tag ≤ most) × PartsAreThere table most p × PartsAreThere table most q
  divided_there tag origin on from p q (Root_test p' q') h = h
  divided_there tag origin on from p q (Past t o y rest p' q' divides) h =
      let d = divided_there tag origin on rest p' q' divides h.2 in (d.0, (h.0, h.1, d.1), (h.0, h.1, d.2))

  entered_there : (known : ℕ → Bool) (forms forms' : ℕ → Form) (new : Option ℕ) (comes : Option Item) (from to : Front) → EntersFront known forms forms' new comes from to
      → PartsAreThere table most (whole from) → PartsAreThere table most (whole to)
  entered_there known forms forms' new comes from to (Lands tag origin x t left reads isnew none same rises) h = risen_there forms tag origin x x false t left rises h
  entered_there known forms forms' new comes from to (Lands_renamed tag origin name stood t left reads isnew is gives rises) h =
      let r = risen_there forms tag origin stood (with_dest name stood) true t left rises h in (r.0, array_named name stood r.1, r.2)
  entered_there known forms forms' new comes from to (Lands_test tag origin on t p q reads none same divides) h = divided_there tag origin on t p q divides h
  entered_there known forms forms' new comes from to (Lands_once t o on tag origin tag' origin' name stood other c c' p q l m equal reads isnew is gives rises rises') h =
      let r = risen_there forms tag origin stood (with_dest name stood) c p l rises h.1 in
      let s = risen_there forms tag' origin' other (with_dest name stood) c' q m rises' h.2 in
      (r.0, array_named name stood r.1, (h.0, r.2, s.2))
  entered_there known forms forms' new comes from to (Behind_item t o y c rest rest' may apart enters) h =
      (h.0, h.1, entered_there known forms forms' new c rest rest' enters h.2)
  entered_there known forms forms' new comes from to (On_yes t o on c p q p' apart enters) h = (h.0, entered_there known forms forms' new c p p' enters h.1, h.2)
  entered_there known forms forms' new comes from to (On_no t o on c p q q' apart enters) h = (h.0, h.1, entered_there known forms forms' new c q q' enters h.2)

  pub filled_there : (known : ℕ → Bool) (w v : Window) → Filled known w v → PartsAreThere table most (whole w.front) → PartsAreThere table most (whole v.front)
  filled_there known w v (Full w' none) h = h
  filled_there known w v (Goes_on w' v' u jump first filled) h =
      filled_there known v' u filled (entered_there known w'.forms v'.forms jump.new jump.comes w'.front v'.front jump.enters h)

  -- ---- tidying

  kept_there : (b : Bool) (tag origin : ℕ) (item : Item) (rest : Tree) → tag ≤ most → ArrayIsThere table item → PartsAreThere table most rest
      → PartsAreThere table most (if b then Pending tag origin item rest else rest)
  kept_there true tag origin item rest low array h = (low, array, h)
  kept_there false tag origin item rest low array h = h

  tidied_there : (tree : Tree) → PartsAreThere table most tree → PartsAreThere table most (tidied tree)
  tidied_there (Pending t o (Bin op dest left right) rest) h = kept_there (uses (tidied rest) dest) t o (Bin op dest left right) (tidied rest) h.0 h.1 (tidied_there rest h.2)
  tidied_there (Pending t o (Copy dest from) rest) h = (h.0, h.1, tidied_there rest h.2)
  tidied_there (Pending t o (Load dest array index) rest) h = kept_there (uses (tidied rest) dest) t o (Load dest array index) (tidied rest) h.0 h.1 (tidied_there rest h.2)
  tidied_there (Pending t o (Store array index value) rest) h = (h.0, h.1, tidied_there rest h.2)
  tidied_there (Pending t o (Print value) rest) h = (h.0, h.1, tidied_there rest h.2)
  tidied_there (Pending t o (Read dest) rest) h = (h.0, h.1, tidied_there rest h.2)
  tidied_there (Pending t o (More dest) rest) h = kept_there (uses (tidied rest) dest) t o (More dest) (tidied rest) h.0 h.1 (tidied_there rest h.2)
  tidied_there (Undecided t o on p q) h = (h.0, tidied_there p h.1, tidied_there q h.2)
  tidied_there (Exit region t homes) h = h
  tidied_there Stop_exit h = tt
  tidied_there (Trap_exit kind line) h = tt

  -- a tree that becomes a window
  pub becomes_there : (tree : Tree) → PartsAreThere table most tree → PartsAreThere table most (whole (front_of tree))
  becomes_there tree h = subst (PartsAreThere table most) (sym (whole_front_of tree)) h

  pub window_tidied_there : (w v : Window) → v ≡ with_tree w (tidied (whole w.front)) → PartsAreThere table most (whole w.front) → PartsAreThere table most (whole v.front)
  window_tidied_there w v is h =
      subst (λ (u : Window). PartsAreThere table most (whole u.front)) (sym is) (becomes_there (tidied (whole w.front)) (tidied_there (whole w.front) h))

  -- ---- cutting

  module _ (w : Window) where
    stub_left : (b : Bool) (region tag : ℕ) (homes : List Home) → PartsAreThere table most (Exit region tag homes)
        → LeftIsThere table most (if b then Rest (with_tree w (Exit region tag homes)) else Gone region homes)
    stub_left true region tag homes h = h
    stub_left false region tag homes h = h.1

    left_there : (tree : Tree) → PartsAreThere table most tree → LeftIsThere table most (left_of table w tree)
    left_there (Pending t o x rest) h = h
    left_there (Undecided t o on p q) h = h
    left_there (Exit region t homes) h = stub_left (is_inside table w.inside region) region t homes h
    left_there Stop_exit h = tt
    left_there (Trap_exit kind line) h = tt

    root_left_there : (tree : Tree) → PartsAreThere table most tree → LeftIsThere table most (left_at_root table w tree)
    root_left_there (Pending t o x rest) h = h
    root_left_there (Undecided t o on p q) h = h
    root_left_there (Exit region t homes) h = h.1
    root_left_there Stop_exit h = tt
    root_left_there (Trap_exit kind line) h = tt

    items_there : (left : Tree → Left) (front : Front) → PartsAreThere table most (whole front) → AllByRecursion (ArrayIsThere table) (items_of (front_row left front))
    items_there left (Issued t o x rest) h = (h.1, items_there left rest h.2)
    items_there left (Split t o on p q) h =
        all_both (ArrayIsThere table) (items_of (front_row left p)) (items_of (front_row left q)) (items_there left p h.1) (items_there left q h.2)
    items_there left (Unfinished rest) h = tt

    leaves_there : (front : Front) → PartsAreThere table most (whole front) → AllByRecursion (LeftIsThere table most) (leaves_of (front_row (left_of table w) front))
    leaves_there (Issued t o x rest) h = leaves_there rest h.2
    leaves_there (Split t o on p q) h =
        all_both (LeftIsThere table most) (leaves_of (front_row (left_of table w) p)) (leaves_of (front_row (left_of table w) q)) (leaves_there p h.1) (leaves_there q h.2)
    leaves_there (Unfinished rest) h = (left_there rest h, tt)

    pub cut_there : (front : Front) → PartsAreThere table most (whole front) → RowIsThere table most (cut_row table w front)
    cut_there (Issued t o x rest) h = record { items = items_there (left_of table w) (Issued t o x rest) h; leaves = leaves_there (Issued t o x rest) h }
    cut_there (Split t o on p q) h = record { items = items_there (left_of table w) (Split t o on p q) h; leaves = leaves_there (Split t o on p q) h }
    cut_there (Unfinished rest) h = record { items = tt; leaves = (root_left_there rest h, tt) }

-- ---- the laws

pub tidies_there : TidiedPartsAreThere
tidies_there table most w v tidies h = window_tidied_there table most w v tidies h

pub tidies_fewer : TidyingAddsNoParameter
tidies_fewer w v tidies x used =
    let tree = whole w.front in
    (tidied_tidy [] tree).fewer x
    (sym (ap (λ (t : Tree). uses t x) (whole_front_of (tidied tree))) ∙ sym (ap (λ (u : Window). uses (whole u.front) x) tidies) ∙ used)

pub rebases_there : RebasedPartsAreThere
rebases_there table most w v rebases h =
    subst (λ (u : Window). PartsAreThere table most (whole u.front)) (sym rebases) (becomes_there table most (whole w.front) h)

pub fills_there : FilledPartsAreThere
fills_there table most w v fills h = filled_there table most (uses (whole w.front)) w v fills h

pub cuts_there : CutPartsAreThere
cuts_there table most w row cuts h = subst (RowIsThere table most) (sym cuts) (cut_there table most w w.front h)
