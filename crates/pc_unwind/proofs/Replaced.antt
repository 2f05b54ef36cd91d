-- What a tree in which a stub was unwound has, by what it had.
use Rattle.std.proofs.Common.{◌≡◌, ℕ, suc, ◌+◌, ◌<◌, ◌≤◌, Option, Some, None, List, refl, sym, subst, arith, inl, inr}
use Rattle.std.specs.Prelude.{Bool, true, false, if◌then◌else◌, nat_eq, nat_le, ◌&&◌, ◌⊎◌}
use Rattle.pc_word.specs.declared.item.Item.{Item}
use Rattle.pc_word.specs.declared.item.Operand.{Operand}
use Rattle.pc_table.specs.Table.{Table, region_tree}
use Rattle.pc_table.specs.TableKeeps.{TableKeeps}
use Rattle.pc_window.specs.declared.home.Home.{Home}
use Rattle.pc_window.specs.Tree.{Tree, Pending, Undecided, Exit, Stop_exit, Trap_exit, tree_size, home_of}
use Rattle.pc_table.specs.Loops.{is_inside}
use Rattle.pc_window.specs.Opening.{Supply, Grafted, below_item, under_item, under_test, unwound_at}
use Rattle.pc_window.specs.Unwinding.{lesser_tag, least_inside, least_tag}
use Rattle.pc_window.specs.models.Ranks.{rank}
use Rattle.pc_unwind.specs.models.Named.{TagsAtMost, ArraysAreThere, StubsAreThere}
use Rattle.pc_unwind.specs.models.Walking.{replacement, AtMostLeast, RootAtMost, RootStaysAtMost}
use Rattle.pc_unwind.proofs.Bringing.{Brings, graft_brings, brought_names, brought_tags, brought_least, brought_root, brought_there, brought_arrays, least_of_two}
use Rattle.pc_window.proofs.There.{tree_there}
use Rattle.pc_window.proofs.Ranking.{rank_falls}

-- in a tree a stub of this tag inside the loop is replaced by what its region brings
pub data Replaced (table : Table) (loop : Option ℕ) (tag : ℕ) (old new : Supply) : Tree → Tree → Type 0 where
  at_stub : (region : ℕ) (homes : List Home) {tree : Tree} → is_inside table loop region ≡ true → Brings table loop tag (region_tree table region) old tree new
      → Replaced table loop tag old new (Exit region tag homes) tree
  below : (t o : ℕ) (item : Item) {rest later : Tree} → Replaced table loop tag old new rest later → Replaced table loop tag old new (Pending t o item rest) (Pending t o item later)
  at_yes : (t o : ℕ) (on : Operand) {one later : Tree} (other : Tree) → Replaced table loop tag old new one later
      → Replaced table loop tag old new (Undecided t o on one other) (Undecided t o on later other)
  at_no : (t o : ℕ) (on : Operand) (one : Tree) {other later : Tree} → Replaced table loop tag old new other later
      → Replaced table loop tag old new (Undecided t o on one other) (Undecided t o on one later)

module _ (table : Table) (loop : Option ℕ) (tag : ℕ) (names : Supply) where
  unfoldable pub IsReplaced : Tree → Grafted → Type 0
  IsReplaced tree g = Replaced table loop tag names g.names tree g.tree

  item_replaced : (t o : ℕ) (item : Item) (rest : Tree) (r : Option Grafted) (g : Grafted) → ((h : Grafted) → r ≡ Some h → IsReplaced rest h) → under_item t o item r ≡ Some g
      → IsReplaced (Pending t o item rest) g
  unfolding IsReplaced
  item_replaced t o item rest None g more e = absurd (cc)
  item_replaced t o item rest (Some h) g more e =
      let same : below_item t o item h ≡ g = cc in
      subst (λ (k : Grafted). Replaced table loop tag names k.names (Pending t o item rest) k.tree) same (below t o item (more h refl))

  test_replaced : (t o : ℕ) (on : Operand) (one other : Tree) (r q : Option Grafted) (g : Grafted) → ((h : Grafted) → r ≡ Some h → IsReplaced one h)
      → ((h : Grafted) → q ≡ Some h → IsReplaced other h) → under_test t o on one other r q ≡ Some g → IsReplaced (Undecided t o on one other) g
  unfolding IsReplaced
  test_replaced t o on one other (Some h) q g more more' e =
      let k : Grafted = record { tree = Undecided t o on h.tree other; names = h.names } in
      let same : k ≡ g = cc in
      subst (λ (k : Grafted). Replaced table loop tag names k.names (Undecided t o on one other) k.tree) same (at_yes t o on other (more h refl))
  test_replaced t o on one other None (Some h) g more more' e =
      let k : Grafted = record { tree = Undecided t o on one h.tree; names = h.names } in
      let same : k ≡ g = cc in
      subst (λ (k : Grafted). Replaced table loop tag names k.names (Undecided t o on one other) k.tree) same (at_no t o on one (more' h refl))
  test_replaced t o on one other None None g more more' e = absurd (cc)

  stub_replaced : (region at : ℕ) (homes : List Home) (g : Grafted) (b c : Bool) → is_inside table loop region ≡ b → nat_eq at tag ≡ c
      → (if b && c then Some (replacement table loop at region homes names) else None) ≡ Some g → IsReplaced (Exit region at homes) g
  unfolding IsReplaced
  stub_replaced region at homes g true true within here e =
      let same : replacement table loop at region homes names ≡ g = cc in
      let tags : at ≡ tag = grind arith in
      subst (λ (n : ℕ). Replaced table loop tag names g.names (Exit region n homes) g.tree) (sym tags)
      (at_stub region homes within
      (subst (λ (n : ℕ). Brings table loop n (region_tree table region) names g.tree g.names) tags
      (subst (λ (k : Grafted). Brings table loop at (region_tree table region) names k.tree k.names) same (graft_brings table loop at (region_tree table region) names (home_of homes)))))
  stub_replaced region at homes g true false within here e = absurd (cc)
  stub_replaced region at homes g false c within here e = absurd (cc)

  replaced_is : (tree : Tree) (g : Grafted) → unwound_at table loop tag names tree ≡ Some g → IsReplaced tree g
  replaced_is (Pending t o item rest) g e = item_replaced t o item rest (unwound_at table loop tag names rest) g (λ h p. replaced_is rest h p) e
  replaced_is (Undecided t o on one other) g e =
      test_replaced t o on one other (unwound_at table loop tag names one) (unwound_at table loop tag names other) g (λ h p. replaced_is one h p) (λ h p. replaced_is other h p) e
  replaced_is (Exit region at homes) g e = stub_replaced region at homes g (is_inside table loop region) (nat_eq at tag) refl refl e
  replaced_is Stop_exit g e = absurd (cc)
  replaced_is (Trap_exit kind line) g e = absurd (cc)

  pub replaced_at : (tree : Tree) (g : Grafted) → unwound_at table loop tag names tree ≡ Some g → Replaced table loop tag names g.names tree g.tree
  unfolding IsReplaced
  replaced_at tree g e = replaced_is tree g e

-- ---- the least tags

-- parts of a lesser tag
pub least_first : (tag : ℕ) (a b : Option ℕ) → AtMostLeast tag (lesser_tag a b) → AtMostLeast tag a
least_first tag None b h = tt
least_first tag (Some a) None h = h
least_first tag (Some a) (Some b) h = omega arith

pub least_second : (tag : ℕ) (a b : Option ℕ) → AtMostLeast tag (lesser_tag a b) → AtMostLeast tag b
least_second tag None b h = h
least_second tag (Some a) None h = tt
least_second tag (Some a) (Some b) h = omega arith

lower : (tag most : ℕ) (a : Option ℕ) → tag ≤ most → AtMostLeast most a → AtMostLeast tag a
lower tag most None le h = tt
lower tag most (Some a) le h = omega arith

-- there is a tag that is at most this one
abbrev pub HasAtMost : ℕ → Option ℕ → Type 0
HasAtMost most None = ⊥
HasAtMost most (Some tag) = tag ≤ most

has_first : (most : ℕ) (a b : Option ℕ) → HasAtMost most a → HasAtMost most (lesser_tag a b)
has_first most None b h = absurd h
has_first most (Some a) None h = h
has_first most (Some a) (Some b) h = omega arith

has_second : (most : ℕ) (a b : Option ℕ) → HasAtMost most b → HasAtMost most (lesser_tag a b)
has_second most None b h = h
has_second most (Some a) None h = absurd h
has_second most (Some a) (Some b) h = omega arith

has_either : (most : ℕ) (a b : Option ℕ) → HasAtMost most (lesser_tag a b) → HasAtMost most a ⊎ HasAtMost most b
has_either most None b h = inr h
has_either most (Some a) None h = inl h
has_either most (Some a) (Some b) h = by_order (nat_le a b) refl
  where
    by_order : (c : Bool) → nat_le a b ≡ c → (a ≤ most) ⊎ (b ≤ most)
    by_order true e = let le : a ≤ b = grind arith in inl (omega arith)
    by_order false e = let less : b < a = grind arith in inr (omega arith)

module _ (table : Table) (loop : Option ℕ) where
  -- stubs inside the loop are among all that have tags
  pub inside_least : (n : ℕ) (tree : Tree) → AtMostLeast n (least_tag tree) → AtMostLeast n (least_inside table loop tree)
  inside_least n (Pending t o item rest) h = inside_least n rest (least_second n (Some t) (least_tag rest) h)
  inside_least n (Undecided t o on one other) h =
      let both = least_second n (Some t) (lesser_tag (least_tag one) (least_tag other)) h in
      least_of_two n _ _ (inside_least n one (least_first n (least_tag one) (least_tag other) both)) (inside_least n other (least_second n (least_tag one) (least_tag other) both))
  inside_least n (Exit region t homes) h = by_test (is_inside table loop region)
    where
      by_test : (b : Bool) → AtMostLeast n (if b then Some t else None)
      by_test true = h
      by_test false = tt
  inside_least n Stop_exit h = tt
  inside_least n (Trap_exit kind line) h = tt

  pub inside_has : (most : ℕ) (tree : Tree) → HasAtMost most (least_inside table loop tree) → HasAtMost most (least_tag tree)
  inside_has most (Pending t o item rest) h = has_second most (Some t) (least_tag rest) (inside_has most rest h)
  inside_has most (Undecided t o on one other) h =
      has_second most (Some t) (lesser_tag (least_tag one) (least_tag other)) (elim (has_either most (least_inside table loop one) (least_inside table loop other) h) [
        | inl p ↦ has_first most (least_tag one) (least_tag other) (inside_has most one p)
        | inr p ↦ has_second most (least_tag one) (least_tag other) (inside_has most other p)
      ])
  inside_has most (Exit region t homes) h = by_test (is_inside table loop region) h
    where
      by_test : (b : Bool) → HasAtMost most (if b then Some t else None) → t ≤ most
      by_test true p = p
      by_test false p = absurd p
  inside_has most Stop_exit h = absurd h
  inside_has most (Trap_exit kind line) h = absurd h

-- ---- what is kept

module _ (table : Table) (loop : Option ℕ) (tag : ℕ) {old new : Supply} where
  -- the stub was there
  pub stub_there : {tree later : Tree} → Replaced table loop tag old new tree later → HasAtMost tag (least_inside table loop tree)
  stub_there (at_stub region homes within b) =
      let here : HasAtMost tag (Some tag) = omega arith in
      subst (λ (c : Bool). HasAtMost tag (if c then Some tag else None)) (sym within) here
  stub_there (below t o item r) = stub_there r
  stub_there (at_yes t o on {one = one} other r) = has_first tag (least_inside table loop one) (least_inside table loop other) (stub_there r)
  stub_there (at_no t o on one {other = other} r) = has_second tag (least_inside table loop one) (least_inside table loop other) (stub_there r)

  -- no tag is less than before
  pub least_kept : (n : ℕ) → n ≤ tag → {tree later : Tree} → Replaced table loop tag old new tree later → AtMostLeast n (least_tag tree) → AtMostLeast n (least_tag later)
  least_kept n le (at_stub region homes within b) h = lower n tag _ le (brought_least table loop tag b)
  least_kept n le (below t o item {rest = rest} r) h =
      least_of_two n (Some t) _ (least_first n (Some t) (least_tag rest) h) (least_kept n le r (least_second n (Some t) (least_tag rest) h))
  least_kept n le (at_yes t o on {one = one} other r) h =
      let both = least_second n (Some t) (lesser_tag (least_tag one) (least_tag other)) h in
      least_of_two n (Some t) _ (least_first n (Some t) (lesser_tag (least_tag one) (least_tag other)) h)
      (least_of_two n _ _ (least_kept n le r (least_first n (least_tag one) (least_tag other) both)) (least_second n (least_tag one) (least_tag other) both))
  least_kept n le (at_no t o on one {other = other} r) h =
      let both = least_second n (Some t) (lesser_tag (least_tag one) (least_tag other)) h in
      least_of_two n (Some t) _ (least_first n (Some t) (lesser_tag (least_tag one) (least_tag other)) h)
      (least_of_two n _ _ (least_first n (least_tag one) (least_tag other) both) (least_kept n le r (least_second n (least_tag one) (least_tag other) both)))

  pub inside_kept : (n : ℕ) → n ≤ tag → {tree later : Tree} → Replaced table loop tag old new tree later → AtMostLeast n (least_inside table loop tree)
      → AtMostLeast n (least_inside table loop later)
  inside_kept n le (at_stub region homes {tree = tree} within b) h = inside_least table loop n tree (lower n tag _ le (brought_least table loop tag b))
  inside_kept n le (below t o item r) h = inside_kept n le r h
  inside_kept n le (at_yes t o on {one = one} other r) h =
      least_of_two n _ _ (inside_kept n le r (least_first n (least_inside table loop one) (least_inside table loop other) h))
      (least_second n (least_inside table loop one) (least_inside table loop other) h)
  inside_kept n le (at_no t o on one {other = other} r) h =
      least_of_two n _ _ (least_first n (least_inside table loop one) (least_inside table loop other) h)
      (inside_kept n le r (least_second n (least_inside table loop one) (least_inside table loop other) h))

  -- the first item or test stays
  pub root_kept : (most : ℕ) {tree later : Tree} → Replaced table loop tag old new tree later → RootAtMost most tree → RootAtMost most later
  root_kept most (at_stub region homes within b) h = absurd h
  root_kept most (below t o item r) h = h
  root_kept most (at_yes t o on other r) h = h
  root_kept most (at_no t o on one r) h = h

  -- names and form variables grow by no more than items and tests
  pub names_kept : {tree later : Tree} → Replaced table loop tag old new tree later
      → (new.next + tree_size tree ≤ old.next + tree_size later) × (new.next_variable + tree_size tree ≤ old.next_variable + tree_size later)
  names_kept (at_stub region homes within b) = let more = brought_names table loop tag b in let p = more.names in let q = more.variables in (omega arith, omega arith)
  names_kept (below t o item r) = let p = names_kept r in let a = p.0 in let b = p.1 in (omega arith, omega arith)
  names_kept (at_yes t o on other r) = let p = names_kept r in let a = p.0 in let b = p.1 in (omega arith, omega arith)
  names_kept (at_no t o on one r) = let p = names_kept r in let a = p.0 in let b = p.1 in (omega arith, omega arith)

  -- a tag is at most one higher than that of the stub
  pub tags_kept : (most : ℕ) → suc tag ≤ most → {tree later : Tree} → Replaced table loop tag old new tree later → TagsAtMost most tree → TagsAtMost most later
  tags_kept most le (at_stub region homes within b) h = brought_tags table loop tag most le b
  tags_kept most le (below t o item r) h = (h.0, tags_kept most le r h.1)
  tags_kept most le (at_yes t o on other r) h = (h.0, tags_kept most le r h.1, h.2)
  tags_kept most le (at_no t o on one r) h = (h.0, h.1, tags_kept most le r h.2)

  module _ (keeps : TableKeeps table) where
    pub stubs_kept : {tree later : Tree} → Replaced table loop tag old new tree later → StubsAreThere table tree → StubsAreThere table later
    stubs_kept (at_stub region homes within b) h = brought_there table keeps loop tag (tree_there table keeps region) b
    stubs_kept (below t o item r) h = stubs_kept r h
    stubs_kept (at_yes t o on other r) h = (stubs_kept r h.0, h.1)
    stubs_kept (at_no t o on one r) h = (h.0, stubs_kept r h.1)

    pub arrays_kept : {tree later : Tree} → Replaced table loop tag old new tree later → ArraysAreThere table tree → ArraysAreThere table later
    arrays_kept (at_stub region homes within b) h = brought_arrays table keeps loop tag (tree_there table keeps region) b
    arrays_kept (below t o item r) h = (h.0, arrays_kept r h.1)
    arrays_kept (at_yes t o on other r) h = (arrays_kept r h.0, h.1)
    arrays_kept (at_no t o on one r) h = (h.0, arrays_kept r h.1)

    -- a window that is a stub comes to have a tag that is not higher than the rank allows
    pub stays_kept : (most : ℕ) {tree later : Tree} → Replaced table loop tag old new tree later → StubsAreThere table tree → RootStaysAtMost table most tree → RootStaysAtMost table most later
    stays_kept most (at_stub region homes within b) there h =
        brought_root table loop tag most (rank table region) h (λ following is. rank_falls table keeps region following there.leads is) b
    stays_kept most (below t o item r) there h = h
    stays_kept most (at_yes t o on other r) there h = h
    stays_kept most (at_no t o on one r) there h = h
