-- What a window names stays there in each step, and its tags stay low. (What comes into a front stands in pc_window's proofs too, for its
-- own use.)
use Rattle.std.proofs.Common.{◌≡◌, ℕ, zero, suc, ◌-◌, ◌≤◌, ◌^◌, Bool, true, false, List, [], ◌∷◌, Option, Some, None, refl, sym, ◌∙◌, ap, subst, map, arith}
use Rattle.std.specs.Prelude.{if◌then◌else◌, nat_eq, nat_le, nat_lt, slice_get, ◌&&◌, ◌||◌}
use Rattle.std.proofs.lemmas.Bool.Decides.{nat_tests}
use Rattle.pc_word.proofs.Truth.{and_true}
use Rattle.pc_word.specs.declared.item.Item.{Item}
use Rattle.pc_word.specs.declared.item.Item.TheVariants.{Bin, Copy, Load, Store, Print, Read, More}
use Rattle.pc_word.specs.declared.item.Operand.{Operand}
use Rattle.pc_word.specs.Items.{reads, reads_name}
use Rattle.pc_word.specs.Naming.{with_dest, map_operands}
use Rattle.pc_linear.specs.Form.{Form}
use Rattle.pc_table.specs.Table.{Table, region_tree}
use Rattle.pc_table.specs.Loops.{is_inside}
use Rattle.pc_table.specs.TableKeeps.{TableKeeps}
use Rattle.pc_window.specs.declared.home.Home.{Home}
use Rattle.pc_window.specs.Tree.{Tree, Pending, Undecided, Exit, Stop_exit, Trap_exit, Front, Issued, Split, Unfinished, whole, home_of}
use Rattle.pc_window.specs.There.{ArrayIsThere, StubIsThere, PartsAreThere}
use Rattle.pc_window.specs.Rename.{map_homes, mapped}
use Rattle.pc_window.specs.Names.{homes_use}
use Rattle.pc_window.specs.Opening.{Supply, Grafted, graft, under_item, under_test, below_item}
use Rattle.pc_window.specs.Jump.{Rises, Root, Past_item, Past_yes, Past_no, DividesTree, Root_test, Past, EntersFront, Lands, Lands_renamed, Lands_test, Lands_once}
use Rattle.pc_window.specs.Jump.{Behind_item, On_yes, On_no}
use Rattle.pc_window.specs.WindowRun.{Window, supply_of}
use Rattle.pc_window.proofs.There.{graft_there, tree_there}
use Rattle.pc_unwind.proofs.PartsThere.{parts_higher}
use Rattle.pc_certified.specs.Somewhere.{Somewhere, here, behind_item, in_yes_side, in_no_side}
use Rattle.pc_certified.specs.Copies.{ItemsExchanged, in_bin, in_copy, in_load, in_store, in_print, in_read, in_more, HomesExchanged, no_home, one_home}
use Rattle.pc_certified.specs.Copies.{TreesExchanged, in_item, in_test, in_stub, in_stop, in_trap, ExchangedHere, below_copy}
use Rattle.pc_cert.specs.declared.certificate.Step.{Step}
use Rattle.pc_arranging.specs.Numbering.{leaf_count}
use Rattle.pc_arranging.specs.Stubs.{most_opened_tag, loop_within, may_open, opened_at}
use Rattle.pc_word.specs.declared.item.Operand.TheVariants.{Name}
use Rattle.pc_word.specs.Items.{dest_of}
use Rattle.pc_window.specs.Opening.{first_new, with_name}
use Rattle.pc_arranging.specs.declared.naming.FoundHome.{FoundHome}
use Rattle.pc_arranging.specs.Exchanging.{on_yes_side, on_no_side}
use Rattle.pc_arranging.specs.Naming.{found_home, home_at, with_value, with_home, writes_operand, copied_at_item, copied_below, or_at_root, named_home, then_next, named_homes, home_count, entered_at}
use Rattle.pc_arranging.specs.Arranging.{grafted}
use Rattle.pc_arranging.specs.Arranging as steps
use Rattle.pc_arranging.specs.Arranging.{begun, Does, brings, joins, IsStepped}
use Rattle.pc_arranging.specs.CanArrange.{most_tag, CanArrange}
use Rattle.pc_arranging.proofs.Lawful.{LeadsTo, does_change, unfinished_proper, wide}
use Rattle.pc_arranging.proofs.Uses.{used_somewhere}

-- ---- what comes into the front

module _ (table : Table) (most : ℕ) where
  array_named : (name : ℕ) (item : Item) → ArrayIsThere table item → ArrayIsThere table (with_dest name item)
  array_named name (Bin op dest left right) h = tt
  array_named name (Copy dest from) h = tt
  array_named name (Load dest array index) h = h
  array_named name (Store array index value) h = h
  array_named name (Print value) h = tt
  array_named name (Read dest) h = tt
  array_named name (More dest) h = tt

  pub array_mapped : (f : Operand → Operand) (item : Item) → ArrayIsThere table item → ArrayIsThere table (map_operands f item)
  array_mapped f (Bin op dest left right) h = tt
  array_mapped f (Copy dest from) h = tt
  array_mapped f (Load dest array index) h = h
  array_mapped f (Store array index value) h = h
  array_mapped f (Print value) h = tt
  array_mapped f (Read dest) h = tt
  array_mapped f (More dest) h = tt

  pub homes_mapped : (f : Operand → Operand) (homes : List Home) → map (λ (home : Home). home.variable) (map_homes f homes) ≡ map (λ (home : Home). home.variable) homes
  homes_mapped f [] = refl
  homes_mapped f (home ∷ homes) = ap (λ (vs : List ℕ). home.variable ∷ vs) (homes_mapped f homes)

  pub there_mapped : (f : Operand → Operand) (tree : Tree) → PartsAreThere table most tree → PartsAreThere table most (mapped f tree)
  there_mapped f (Pending t o x rest) h = (h.0, array_mapped f x h.1, there_mapped f rest h.2)
  there_mapped f (Undecided t o on p q) h = (h.0, there_mapped f p h.1, there_mapped f q h.2)
  there_mapped f (Exit region t homes) h = (h.0, record { leads = h.1.leads; live = homes_mapped f homes ∙ h.1.live })
  there_mapped f Stop_exit h = tt
  there_mapped f (Trap_exit kind line) h = tt

  -- ---- filling

  -- an item that rises, and what it leaves
  risen_there : (forms : ℕ → Form) (tag origin : ℕ) (stood x : Item) (crosses : Bool) (from left : Tree) → Rises forms tag origin stood x crosses from left
      → PartsAreThere table most from → (tag ≤ most) × ArrayIsThere table stood × PartsAreThere table most left
  risen_there forms tag origin stood x crosses from left (Root rest unwritten) h = (h.0, h.1, there_mapped _ rest h.2)
  risen_there forms tag origin stood x crosses from left (Past_item t o y c rest left' clear apart rises) h =
      let r = risen_there forms tag origin stood x c rest left' rises h.2 in (r.0, r.1, (h.0, h.1, r.2))
  risen_there forms tag origin stood x crosses from left (Past_yes t o on c p q left' is unwritten rises) h =
      let r = risen_there forms tag origin stood x c p left' rises h.1 in (r.0, r.1, (h.0, r.2, h.2))
  risen_there forms tag origin stood x crosses from left (Past_no t o on c p q left' is unwritten rises) h =
      let r = risen_there forms tag origin stood x c q left' rises h.2 in (r.0, r.1, (h.0, h.1, r.2))

  -- a test that divides a tree, and both sides
  divided_there : (tag origin : ℕ) (on : Operand) (from p q : Tree) → DividesTree tag origin on from p q
      → PartsAreThere table most from → (tag ≤ most) × PartsAreThere table most p × PartsAreThere table most q
  divided_there tag origin on from p q (Root_test p' q') h = h
  divided_there tag origin on from p q (Past t o y rest p' q' divides) h =
      let d = divided_there tag origin on rest p' q' divides h.2 in (d.0, (h.0, h.1, d.1), (h.0, h.1, d.2))

  pub entered_there : (known : ℕ → Bool) (forms forms' : ℕ → Form) (new : Option ℕ) (comes : Option Item) (from to : Front) → EntersFront known forms forms' new comes from to
      → PartsAreThere table most (whole from) → PartsAreThere table most (whole to)
  entered_there known forms forms' new comes from to (Lands tag origin x t left reads isnew none same rises) h = risen_there forms tag origin x x false t left rises h
  entered_there known forms forms' new comes from to (Lands_renamed tag origin name stood t left reads isnew is gives rises) h =
      let r = risen_there forms tag origin stood (with_dest name stood) true t left rises h in (r.0, array_named name stood r.1, r.2)
  entered_there known forms forms' new comes from to (Lands_test tag origin on t p q reads none same divides) h = divided_there tag origin on t p q divides h
  entered_there known forms forms' new comes from to (Lands_once t o on tag origin tag' origin' name stood other c c' p q l m equal reads isnew is gives rises rises') h =
      let r = risen_there forms tag origin stood (with_dest name stood) c p l rises h.1 in
      let s = risen_there forms tag' origin' other (with_dest name stood) c' q m rises' h.2 in
      (r.0, array_named name stood r.1, (h.0, r.2, s.2))
  entered_there known forms forms' new comes from to (Behind_item t o y c rest rest' may apart enters) h =
      (h.0, h.1, entered_there known forms forms' new c rest rest' enters h.2)
  entered_there known forms forms' new comes from to (On_yes t o on c p q p' apart enters) h = (h.0, entered_there known forms forms' new c p p' enters h.1, h.2)
  entered_there known forms forms' new comes from to (On_no t o on c p q q' apart enters) h = (h.0, h.1, entered_there known forms forms' new c q q' enters h.2)

-- ---- a stub that is opened

one_made : (g h : Grafted) → Some g ≡ Some h → g ≡ h
one_made g h e = cc

-- what holds of what was made, below an item or a test
module _ (P Q : Grafted → Type 0) where
  grafted_below : (t o : ℕ) (x : Item) (r : Option Grafted) (made : Grafted) → ((h : Grafted) → r ≡ Some h → P h) → ((h : Grafted) → P h → Q (below_item t o x h))
      → under_item t o x r ≡ Some made → Q made
  grafted_below t o x None made f g e = absurd (cc)
  grafted_below t o x (Some h) made f g e = subst Q (one_made (below_item t o x h) made e) (g h (f h refl))

  grafted_yes : (t o : ℕ) (on : Operand) (p q : Tree) (r : Option Grafted) (made : Grafted) → ((h : Grafted) → r ≡ Some h → P h)
      → ((h : Grafted) → P h → Q (record { tree = Undecided t o on h.tree q; names = h.names })) → under_test t o on p q r None ≡ Some made → Q made
  grafted_yes t o on p q None made f g e = absurd (cc)
  grafted_yes t o on p q (Some h) made f g e = subst Q (one_made (record { tree = Undecided t o on h.tree q; names = h.names }) made e) (g h (f h refl))

  grafted_no : (t o : ℕ) (on : Operand) (p q : Tree) (r : Option Grafted) (made : Grafted) → ((h : Grafted) → r ≡ Some h → P h)
      → ((h : Grafted) → P h → Q (record { tree = Undecided t o on p h.tree; names = h.names })) → under_test t o on p q None r ≡ Some made → Q made
  grafted_no t o on p q None made f g e = absurd (cc)
  grafted_no t o on p q (Some h) made f g e = subst Q (one_made (record { tree = Undecided t o on p h.tree; names = h.names }) made e) (g h (f h refl))

either : (b : Bool) (x y : Option Grafted) (made : Grafted) (Q : Type 0) → (x ≡ Some made → Q) → (y ≡ Some made → Q) → (if b then x else y) ≡ Some made → Q
either true x y made Q f g e = f e
either false x y made Q f g e = g e

module _ (table : Table) (keeps : TableKeeps table) (enters : Bool) (inside : Option ℕ) (names : Supply) where
  stub_there : (region tag : ℕ) (homes : List Home) (made : Grafted) (b c : Bool) → c ≡ true → (b && nat_le tag most_opened_tag) ≡ c
      → Some (graft table (loop_within table enters inside region) tag (region_tree table region) names (home_of homes)) ≡ Some made → PartsAreThere table most_tag made.tree
  stub_there region tag homes made b c is_true may e =
      let low : tag ≤ 1073741823 = (let t = (and_true b (nat_le tag most_opened_tag) (may ∙ is_true)).1 in grind (arith, nat_tests)) in
      let g = graft table (loop_within table enters inside region) tag (region_tree table region) names (home_of homes) in
      subst (λ (h : Grafted). PartsAreThere table most_tag h.tree) (one_made g made e)
      (parts_higher table (suc tag) most_tag g.tree (omega arith)
      (graft_there table (loop_within table enters inside region) tag (region_tree table region) names (home_of homes) (tree_there table keeps region)))

  stub_opened : (region tag : ℕ) (homes : List Home) (made : Grafted) (a c : Bool) → may_open table enters inside region tag ≡ c
      → (if a && c then Some (graft table (loop_within table enters inside region) tag (region_tree table region) names (home_of homes)) else None) ≡ Some made
      → PartsAreThere table most_tag made.tree
  stub_opened region tag homes made true true may e = stub_there region tag homes made (enters || is_inside table inside region) true refl may e
  stub_opened region tag homes made true false may e = absurd (cc)
  stub_opened region tag homes made false c may e = absurd (cc)

  pub opened_there : (tree : Tree) (leaf : ℕ) (made : Grafted) → opened_at table enters inside names tree leaf ≡ Some made → PartsAreThere table most_tag tree → PartsAreThere table most_tag made.tree
  opened_there (Pending t o x rest) leaf made e h =
      grafted_below (λ g. PartsAreThere table most_tag g.tree) (λ g. PartsAreThere table most_tag g.tree) t o x (opened_at table enters inside names rest leaf) made
      (λ g f. opened_there rest leaf g f h.2) (λ g k. (h.0, h.1, k)) e
  opened_there (Undecided t o on p q) leaf made e h =
      either (nat_lt leaf (leaf_count p)) (under_test t o on p q (opened_at table enters inside names p leaf) None)
      (under_test t o on p q None (opened_at table enters inside names q (leaf - leaf_count p))) made (PartsAreThere table most_tag made.tree)
      (grafted_yes (λ g. PartsAreThere table most_tag g.tree) (λ g. PartsAreThere table most_tag g.tree) t o on p q (opened_at table enters inside names p leaf) made
      (λ g f. opened_there p leaf g f h.1) (λ g k. (h.0, k, h.2)))
      (grafted_no (λ g. PartsAreThere table most_tag g.tree) (λ g. PartsAreThere table most_tag g.tree) t o on p q (opened_at table enters inside names q (leaf - leaf_count p)) made
      (λ g f. opened_there q (leaf - leaf_count p) g f h.2) (λ g k. (h.0, h.1, k))) e
  opened_there (Exit region tag homes) leaf made e h = stub_opened region tag homes made (nat_eq leaf 0) (may_open table enters inside region tag) refl e
  opened_there Stop_exit leaf made e h = absurd (cc)
  opened_there (Trap_exit kind line) leaf made e h = absurd (cc)

-- ---- a Copy that is used

module _ (table : Table) (most : ℕ) where
  array_exchanged : (name : ℕ) (from : Operand) (x y : Item) → ItemsExchanged name from x y → ArrayIsThere table x → ArrayIsThere table y
  array_exchanged name from x y (in_bin op dest l r) h = tt
  array_exchanged name from x y (in_copy dest l) h = tt
  array_exchanged name from x y (in_load dest array i) h = h
  array_exchanged name from x y (in_store array i v) h = h
  array_exchanged name from x y (in_print v) h = tt
  array_exchanged name from x y (in_read dest) h = tt
  array_exchanged name from x y (in_more dest) h = tt

  variables_exchanged : (name : ℕ) (from : Operand) (homes others : List Home) → HomesExchanged name from homes others
      → map (λ (home : Home). home.variable) others ≡ map (λ (home : Home). home.variable) homes
  variables_exchanged name from homes others no_home = refl
  variables_exchanged name from homes others (one_home variable s more) = ap (λ (vs : List ℕ). variable ∷ vs) (variables_exchanged name from _ _ more)

  exchanged_there : (name : ℕ) (from : Operand) (t u : Tree) → TreesExchanged name from t u → PartsAreThere table most t → PartsAreThere table most u
  exchanged_there name from t u (in_item tag origin {item = x} {item' = y} {rest = r} {rest' = s} i rest) h = (h.0, array_exchanged name from x y i h.1, exchanged_there name from r s rest h.2)
  exchanged_there name from t u (in_test tag origin {on_yes = p} {on_yes' = p'} {on_no = q} {on_no' = q'} on one other) h =
      (h.0, exchanged_there name from p p' one h.1, exchanged_there name from q q' other h.2)
  exchanged_there name from t u (in_stub region tag {homes = a} {homes' = b} homes) h = (h.0, record { leads = h.1.leads; live = variables_exchanged name from a b homes ∙ h.1.live })
  exchanged_there name from t u in_stop h = tt
  exchanged_there name from t u (in_trap kind line) h = tt

  used_there : (t u : Tree) → Somewhere ExchangedHere t u → PartsAreThere table most t → PartsAreThere table most u
  used_there t u (here (below_copy tag origin name from {rest = r} {rest' = s} e)) h = (h.0, h.1, exchanged_there name from r s e h.2)
  used_there t u (behind_item tag origin item {old = r} {new = s} more) h = (h.0, h.1, used_there r s more h.2)
  used_there t u (in_yes_side tag origin on {old = r} {new = s} other more) h = (h.0, used_there r s more h.1, h.2)
  used_there t u (in_no_side tag origin on one {old = r} {new = s} more) h = (h.0, h.1, used_there r s more h.2)

-- ---- a stub that is entered

one_tree : (t u : Tree) → Some t ≡ Some u → t ≡ u
one_tree t u e = cc

one_found : (a b : FoundHome) → Some a ≡ Some b → a ≡ b
one_found a b e = cc

either_tree : (b : Bool) (x y : Option Tree) (made : Tree) (Q : Type 0) → (x ≡ Some made → Q) → (y ≡ Some made → Q) → (if b then x else y) ≡ Some made → Q
either_tree true x y made Q f g e = f e
either_tree false x y made Q f g e = g e

either_found : (b : Bool) (x y : Option FoundHome) (found : FoundHome) (Q : Type 0) → (x ≡ Some found → Q) → (y ≡ Some found → Q) → (if b then x else y) ≡ Some found → Q
either_found true x y found Q f g e = f e
either_found false x y found Q f g e = g e

module _ (table : Table) (most : ℕ) where
  variables_kept : (value : Operand) (homes : List Home) (home : ℕ) → map (λ (h : Home). h.variable) (with_value value homes home) ≡ map (λ (h : Home). h.variable) homes
  variables_kept value [] home = refl
  variables_kept value (h ∷ homes) home = by_place (nat_eq home 0) (variables_kept value homes (home - 1))
    where
      by_place : (b : Bool) → map (λ (h : Home). h.variable) (with_value value homes (home - 1)) ≡ map (λ (h : Home). h.variable) homes
          → map (λ (h : Home). h.variable) (if b then record { variable = h.variable; value = value } ∷ homes else h ∷ with_value value homes (home - 1))
          ≡ h.variable ∷ map (λ (h : Home). h.variable) homes
      by_place true k = refl
      by_place false k = ap (λ (vs : List ℕ). h.variable ∷ vs) k

  given_there : (value : Operand) (tree : Tree) (leaf home : ℕ) → PartsAreThere table most tree → PartsAreThere table most (with_home value tree leaf home)
  given_there value (Pending t o x rest) leaf home h = (h.0, h.1, given_there value rest leaf home h.2)
  given_there value (Undecided t o on p q) leaf home h = by_side (nat_lt leaf (leaf_count p)) (given_there value p leaf home h.1) (given_there value q (leaf - leaf_count p) home h.2)
    where
      by_side : (b : Bool) → PartsAreThere table most (with_home value p leaf home) → PartsAreThere table most (with_home value q (leaf - leaf_count p) home)
          → PartsAreThere table most (if b then Undecided t o on (with_home value p leaf home) q else Undecided t o on p (with_home value q (leaf - leaf_count p) home))
      by_side true k l = (h.0, k, h.2)
      by_side false k l = (h.0, h.1, l)
  given_there value (Exit region tag homes) leaf home h = (h.0, record { leads = h.1.leads; live = variables_kept value homes home ∙ h.1.live })
  given_there value Stop_exit leaf home h = tt
  given_there value (Trap_exit kind line) leaf home h = tt

  -- a stub's tag is low
  found_low : (tree : Tree) (leaf home : ℕ) (found : FoundHome) → home_at tree leaf home ≡ Some found → PartsAreThere table most tree → found.tag ≤ most
  found_low (Pending t o x rest) leaf home found e h = found_low rest leaf home found e h.2
  found_low (Undecided t o on p q) leaf home found e h =
      either_found (nat_lt leaf (leaf_count p)) (home_at p leaf home) (home_at q (leaf - leaf_count p) home) found (found.tag ≤ most)
      (λ e. found_low p leaf home found e h.1) (λ e. found_low q (leaf - leaf_count p) home found e h.2) e
  found_low (Exit region tag homes) leaf home found e h =
      either_found (nat_eq leaf 0) (found_home tag (slice_get homes home)) None found (found.tag ≤ most) (λ e. by_home (slice_get homes home) e) (λ e. absurd (cc)) e
    where
      by_home : (o : Option Home) → found_home tag o ≡ Some found → found.tag ≤ most
      by_home None e = absurd (cc)
      by_home (Some k) e =
          let same : tag ≡ found.tag = ap (λ (f : FoundHome). f.tag) (one_found (record { tag = tag; operand = k.value }) found e) in let le = h.0 in omega arith
  found_low Stop_exit leaf home found e h = absurd (cc)
  found_low (Trap_exit kind line) leaf home found e h = absurd (cc)

  module _ (tag name : ℕ) (from : Operand) (low : tag ≤ most) where
    at_item_there : (t o : ℕ) (x : Item) (rest : Tree) (r : Option Tree) (made : Tree) → ((u : Tree) → r ≡ Some u → PartsAreThere table most u) → PartsAreThere table most (Pending t o x rest)
        → copied_at_item t o x rest tag name from r ≡ Some made → PartsAreThere table most made
    at_item_there t o x rest (Some u) made f h e = subst (PartsAreThere table most) (one_tree (Pending t o x u) made e) (h.0, h.1, f u refl)
    at_item_there t o x rest None made f h e = by_test (writes_operand (dest_of x) from) e
      where
        by_test : (b : Bool) → (if b then Some (Pending t o x (Pending tag 0 (Copy name from) rest)) else None) ≡ Some made → PartsAreThere table most made
        by_test false e = absurd (cc)
        by_test true e = subst (PartsAreThere table most) (one_tree (Pending t o x (Pending tag 0 (Copy name from) rest)) made e) (h.0, h.1, (low, tt, h.2))

    yes_there : (t o : ℕ) (on : Operand) (q : Tree) (r : Option Tree) (made : Tree) → ((u : Tree) → r ≡ Some u → PartsAreThere table most (Undecided t o on u q))
        → on_yes_side t o on r q ≡ Some made → PartsAreThere table most made
    yes_there t o on q None made f e = absurd (cc)
    yes_there t o on q (Some u) made f e = subst (PartsAreThere table most) (one_tree (Undecided t o on u q) made e) (f u refl)

    no_there : (t o : ℕ) (on : Operand) (p : Tree) (r : Option Tree) (made : Tree) → ((u : Tree) → r ≡ Some u → PartsAreThere table most (Undecided t o on p u))
        → on_no_side t o on p r ≡ Some made → PartsAreThere table most made
    no_there t o on p None made f e = absurd (cc)
    no_there t o on p (Some u) made f e = subst (PartsAreThere table most) (one_tree (Undecided t o on p u) made e) (f u refl)

    copied_there : (tree : Tree) (leaf : ℕ) (made : Tree) → copied_below tag name from tree leaf ≡ Some made → PartsAreThere table most tree → PartsAreThere table most made
    copied_there (Pending t o x rest) leaf made e h = at_item_there t o x rest (copied_below tag name from rest leaf) made (λ u f. copied_there rest leaf u f h.2) h e
    copied_there (Undecided t o on p q) leaf made e h =
        either_tree (nat_lt leaf (leaf_count p)) (on_yes_side t o on (copied_below tag name from p leaf) q) (on_no_side t o on p (copied_below tag name from q (leaf - leaf_count p))) made
        (PartsAreThere table most made)
        (yes_there t o on q (copied_below tag name from p leaf) made (λ u f. (h.0, copied_there p leaf u f h.1, h.2)))
        (no_there t o on p (copied_below tag name from q (leaf - leaf_count p)) made (λ u f. (h.0, h.1, copied_there q (leaf - leaf_count p) u f h.2))) e
    copied_there (Exit region t homes) leaf made e h = absurd (cc)
    copied_there Stop_exit leaf made e h = absurd (cc)
    copied_there (Trap_exit kind line) leaf made e h = absurd (cc)

    placed_there : (tree : Tree) (leaf : ℕ) → PartsAreThere table most tree → PartsAreThere table most (or_at_root tag name from tree (copied_below tag name from tree leaf))
    placed_there tree leaf h = by_place (copied_below tag name from tree leaf) refl
      where
        by_place : (r : Option Tree) → copied_below tag name from tree leaf ≡ r → PartsAreThere table most (or_at_root tag name from tree r)
        by_place None e = (low, tt, h)
        by_place (Some u) e = copied_there tree leaf u e h

  -- all homes have names
  pub named_there : (count : ℕ) (g : Grafted) (leaf home : ℕ) (made : Grafted) → named_homes count g leaf home ≡ Some made → PartsAreThere table most g.tree → PartsAreThere table most made.tree
  named_there zero g leaf home made e h = subst (λ (m : Grafted). PartsAreThere table most m.tree) (one_made g made e) h
  named_there (suc n) g leaf home made e h = by_found (λ k f l. named_there n k leaf (suc home) made f l) (home_at g.tree leaf home) refl e
    where
      by_found : ((k : Grafted) → named_homes n k leaf (suc home) ≡ Some made → PartsAreThere table most k.tree → PartsAreThere table most made.tree)
          → (f : Option FoundHome) → home_at g.tree leaf home ≡ f → then_next (named_home g leaf home f) (λ k. named_homes n k leaf (suc home)) ≡ Some made → PartsAreThere table most made.tree
      by_found further None at e = absurd (cc)
      by_found further (Some found) at e =
          let low = found_low g.tree leaf home found at h in
          let copied = or_at_root found.tag g.names.next found.operand g.tree (copied_below found.tag g.names.next found.operand g.tree leaf) in
          further (record { tree = with_home (Name g.names.next) copied leaf home; names = with_name g.names None }) e
          (given_there (Name g.names.next) copied leaf home (placed_there found.tag g.names.next found.operand low g.tree leaf h))

entered_parts : (table : Table) → TableKeeps table → (inside : Option ℕ) (g : Grafted) (leaf : ℕ) (made : Grafted) → entered_at table inside g leaf ≡ Some made
    → PartsAreThere table most_tag g.tree → PartsAreThere table most_tag made.tree
entered_parts table keeps inside g leaf made is h = by_count (nat_le (home_count g.tree leaf) first_new) is
  where
    by_named : (r : Option Grafted) → named_homes (home_count g.tree leaf) g leaf 0 ≡ r → then_next r (λ k. opened_at table true inside k.names k.tree leaf) ≡ Some made
        → PartsAreThere table most_tag made.tree
    by_named None named e = absurd (cc)
    by_named (Some k) named e = opened_there table keeps true inside k.names k.tree leaf made e (named_there table most_tag (home_count g.tree leaf) g leaf 0 k named h)

    by_count : (b : Bool) → (if b then then_next (named_homes (home_count g.tree leaf) g leaf 0) (λ k. opened_at table true inside k.names k.tree leaf) else None) ≡ Some made
        → PartsAreThere table most_tag made.tree
    by_count true e = by_named (named_homes (home_count g.tree leaf) g leaf 0) refl e
    by_count false e = absurd (cc)

-- ---- one step

does_there : (table : Table) → TableKeeps table → (step : Step) (w v : Window) → Does table step w v → PartsAreThere table most_tag (whole w.front) → PartsAreThere table most_tag (whole v.front)
does_there table keeps step w v (brings place b) h =
    let j = b.jump in entered_there table most_tag _ w.forms v.forms j.new j.comes w.front v.front j.enters h
does_there table keeps step w v (joins test on_yes on_no across at b) h =
    let j = b.jump in entered_there table most_tag _ w.forms v.forms j.new j.comes w.front v.front j.enters h
does_there table keeps step w v (steps.opens leaf made is same) h =
    subst (λ (u : Window). PartsAreThere table most_tag (whole u.front)) (sym same) (opened_there table keeps false w.inside (supply_of w) (whole w.front) leaf made is h)
does_there table keeps step w v (steps.enters leaf made is same) h =
    subst (λ (u : Window). PartsAreThere table most_tag (whole u.front)) (sym same) (entered_parts table keeps w.inside (grafted w) leaf made is h)
does_there table keeps step w v (steps.uses_copy copy part made is same) h =
    subst (λ (u : Window). PartsAreThere table most_tag (whole u.front)) (sym same) (used_there table most_tag (whole w.front) made (used_somewhere (whole w.front) copy part made is) h)

pub step_kept : (table : Table) → TableKeeps table → (step : Step) (w v : Window) → CanArrange table w → IsStepped table step w v → CanArrange table v
step_kept table keeps step w v can h =
    record { proper = (does_change table step w v can.proper h.does).proper; small = h.small; parts = does_there table keeps step w v h.does can.parts }

pub begun_kept : (table : Table) (w : Window) → CanArrange table w → CanArrange table (begun w)
begun_kept table w can = record {
  proper = unfinished_proper w _ wide can.proper;
  small = record { size = can.small.size; names = can.small.names; variables = can.small.variables };
  parts = can.parts;
}
