-- What a tree becomes once all names are given: each name is known before it is read, and given once on a path; and the front stays one.
use Rattle.std.proofs.Common.{◌≡◌, ℕ, suc, ◌+◌, ◌<◌, ◌≤◌, List, [], ◌∷◌, Option, Some, None, refl, sym, ◌∙◌, ap, subst, arith}
use Rattle.std.specs.Prelude.{Bool, true, false, ◌&&◌, ◌||◌, if◌then◌else◌, nat_eq, map}
use Rattle.pc_word.specs.declared.item.Item.{Item}
use Rattle.pc_word.specs.declared.item.Item.TheVariants.{Bin, Copy, Load, Store, Print, Read, More}
use Rattle.pc_word.specs.declared.item.Operand.{Operand}
use Rattle.pc_word.specs.declared.item.Operand.TheVariants.{Name, Lit}
use Rattle.pc_word.specs.Items.{dest_of, is_memory, is_effect}
use Rattle.pc_word.specs.Commit.{writes}
use Rattle.pc_word.specs.Naming.{map_name, with_dest}
use Rattle.pc_word.proofs.Truth.{or_second}
use Rattle.pc_linear.specs.Form.{Form}
use Rattle.pc_linear.specs.Equality.{NeverEqual}
use Rattle.pc_table.specs.Table.{Table}
use Rattle.pc_window.specs.declared.home.Home.{Home}
use Rattle.pc_window.specs.Tree.{tree_size}
use Rattle.pc_window.specs.Hold.{operand_form}
use Rattle.pc_window.specs.Names.{IsKnown, ReadsKnown, IsNew, HomesKnown, Scoped, named}
use Rattle.pc_window.specs.Opening.{OperandBelow, ItemBelow, StubBelow, TreeBelow}
use Rattle.pc_window.specs.Conflict.{MayFollow, NoStoreDependence, touch_of}
use Rattle.pc_window.specs.Filled.{AllItems, Independent, item_count, memory_count, test_count}
use Rattle.pc_window.specs.There.{ArrayIsThere, PartsAreThere}
use Rattle.pc_window.specs.Rename.{map_homes}
use Rattle.pc_canon.specs.Pairs.{Pair, others}
use Rattle.pc_shared.specs.NodeTree.{NodeTree, plain_tree, plain_front}
use Rattle.pc_shared.specs.Merging.{Defined, OfDefined, EachDefined}
use Rattle.pc_shared.specs.models.Renaming.{renamed_name, renamed_item}
use Rattle.pc_shared.specs.models.Merges.{Giving, FirstFree}
use Rattle.pc_shared.proofs.Renamed.{scope, new_scope, Renamed, renamed_plain, renamed_given, renamed_test, renamed_leaf, renamed_stub, renamed_end, renamed_trap}
use Rattle.pc_shared.proofs.Renamed.{AllGiven, in_new_scope, renamed_below, dest_renamed, dest_kept, without_name, after_plain, after_given}

module _ (forms : ℕ → Form) (known : ℕ → Bool) (last : Giving) where
  abbrev Becomes : List Pair → NodeTree → NodeTree → Type 0
  Becomes = Renamed forms known last

  abbrev Given : List Pair → Type 0
  Given = AllGiven forms known last

  -- ---- scopes

  operand_known : (pairs : List Pair) (o : Operand) → IsKnown (scope forms known last pairs) o → IsKnown (new_scope forms known last pairs) (map_name (renamed_name pairs) o)
  operand_known pairs (Name x) h = in_new_scope forms known last pairs x h
  operand_known pairs (Lit value) h = tt

  item_known : (pairs : List Pair) (item : Item) → ReadsKnown (scope forms known last pairs) item → ReadsKnown (new_scope forms known last pairs) (renamed_item pairs item)
  item_known pairs (Bin op dest left right) h = (operand_known pairs left h.0, (operand_known pairs right h.1.0, tt))
  item_known pairs (Copy dest from) h = (operand_known pairs from h.0, tt)
  item_known pairs (Load dest array index) h = (operand_known pairs index h.0, tt)
  item_known pairs (Store array index value) h = (operand_known pairs index h.0, (operand_known pairs value h.1.0, tt))
  item_known pairs (Print value) h = (operand_known pairs value h.0, tt)
  item_known pairs (Read dest) h = tt
  item_known pairs (More dest) h = tt

  reads_the_same : (scope : ℕ → Bool) (name : ℕ) (item : Item) → ReadsKnown scope item → ReadsKnown scope (with_dest name item)
  reads_the_same scope name (Bin op dest left right) h = h
  reads_the_same scope name (Copy dest from) h = h
  reads_the_same scope name (Load dest array index) h = h
  reads_the_same scope name (Store array index value) h = h
  reads_the_same scope name (Print value) h = h
  reads_the_same scope name (Read dest) h = h
  reads_the_same scope name (More dest) h = h

  stub_known : (pairs : List Pair) (homes : List Home) → HomesKnown (scope forms known last pairs) homes
      → HomesKnown (new_scope forms known last pairs) (map_homes (map_name (renamed_name pairs)) homes)
  stub_known pairs [] h = tt
  stub_known pairs (home ∷ homes) h = (operand_known pairs home.value h.0, stub_known pairs homes h.1)

  pub becomes_scoped : {pairs : List Pair} {t t' : NodeTree} → Becomes pairs t t' → Scoped (scope forms known last pairs) (plain_tree t)
      → Scoped (new_scope forms known last pairs) (plain_tree t')
  becomes_scoped (renamed_plain {pairs} {tag} {origin} {item} {rest} {rest'} e r) h =
      let none : dest_of (renamed_item pairs item) ≡ None = dest_kept (map_name (renamed_name pairs)) item ∙ e in (
        item_known pairs item h.0,
        subst (IsNew (new_scope forms known last pairs)) (sym none) tt,
        subst (λ (d : Option ℕ). Scoped (λ x. writes d x || new_scope forms known last pairs x) (plain_tree rest')) (sym none)
            (becomes_scoped r (after_plain forms known last (dest_of item) (plain_tree rest) pairs e h.2)),
      )
  becomes_scoped (renamed_given {pairs} {tag} {origin} {item} {rest} {rest'} {old} {name} e is r) h =
      let some : dest_of (with_dest name (renamed_item pairs item)) ≡ Some name = dest_renamed name old (map_name (renamed_name pairs)) item e in (
        reads_the_same _ name (renamed_item pairs item) (item_known pairs item h.0),
        subst (IsNew (new_scope forms known last pairs)) (sym some) is.apart,
        subst (λ (d : Option ℕ). Scoped (λ x. writes d x || new_scope forms known last pairs x) (plain_tree rest')) (sym some)
            (becomes_scoped r (after_given forms known last (dest_of item) (plain_tree rest) pairs old name e h.2)),
      )
  becomes_scoped (renamed_test {pairs} {tag} {origin} {on} p q) h = (operand_known pairs on h.0, becomes_scoped p h.1, becomes_scoped q h.2)
  becomes_scoped (renamed_leaf r) h = becomes_scoped r h
  becomes_scoped (renamed_stub {pairs} {region} {tag} {homes}) h = stub_known pairs homes h
  becomes_scoped renamed_end h = tt
  becomes_scoped renamed_trap h = tt

  -- ---- below

  module _ (next : ℕ) (least : next ≤ last.names.next) where
    operand_below : (pairs : List Pair) → Given pairs → (o : Operand) → OperandBelow next o → OperandBelow last.names.next (map_name (renamed_name pairs) o)
    operand_below pairs given (Name x) h = renamed_below forms known last pairs given x (omega (arith, h, least))
    operand_below pairs given (Lit value) h = tt

    -- an item that writes another name
    item_below : (pairs : List Pair) → Given pairs → (name : ℕ) → name < last.names.next → (item : Item) → ItemBelow next item
        → ItemBelow last.names.next (with_dest name (renamed_item pairs item))
    item_below pairs given name lt (Bin op dest left right) h = (lt, operand_below pairs given left h.1, operand_below pairs given right h.2)
    item_below pairs given name lt (Copy dest from) h = (lt, operand_below pairs given from h.1)
    item_below pairs given name lt (Load dest array index) h = (lt, operand_below pairs given index h.1)
    item_below pairs given name lt (Store array index value) h = (operand_below pairs given index h.0, operand_below pairs given value h.1)
    item_below pairs given name lt (Print value) h = operand_below pairs given value h
    item_below pairs given name lt (Read dest) h = lt
    item_below pairs given name lt (More dest) h = lt

    plain_below : (pairs : List Pair) → Given pairs → (item : Item) → dest_of item ≡ None → ItemBelow next item → ItemBelow last.names.next (renamed_item pairs item)
    plain_below pairs given (Bin op dest left right) e h = absurd (cc)
    plain_below pairs given (Copy dest from) e h = absurd (cc)
    plain_below pairs given (Load dest array index) e h = absurd (cc)
    plain_below pairs given (Store array index value) e h = (operand_below pairs given index h.0, operand_below pairs given value h.1)
    plain_below pairs given (Print value) e h = operand_below pairs given value h
    plain_below pairs given (Read dest) e h = absurd (cc)
    plain_below pairs given (More dest) e h = absurd (cc)

    stub_below : (pairs : List Pair) → Given pairs → (homes : List Home) → StubBelow next homes → StubBelow last.names.next (map_homes (map_name (renamed_name pairs)) homes)
    stub_below pairs given [] h = tt
    stub_below pairs given (home ∷ homes) h = (operand_below pairs given home.value h.0, stub_below pairs given homes h.1)

    pub becomes_below : {pairs : List Pair} {t t' : NodeTree} → Becomes pairs t t' → Given pairs → TreeBelow next (plain_tree t) → TreeBelow last.names.next (plain_tree t')
    becomes_below (renamed_plain {pairs} {tag} {origin} {item} e r) given h = (plain_below pairs given item e h.0, becomes_below r given h.1)
    becomes_below (renamed_given {pairs} {tag} {origin} {item} {rest} {rest'} {old} {name} e is r) given h =
        (item_below pairs given name is.below item h.0, becomes_below r (is.apart, is.below, given) h.1)
    becomes_below (renamed_test {pairs} {tag} {origin} {on} p q) given h = (operand_below pairs given on h.0, becomes_below p given h.1, becomes_below q given h.2)
    becomes_below (renamed_leaf r) given h = becomes_below r given h
    becomes_below (renamed_stub {pairs} {region} {tag} {homes}) given h = stub_below pairs given homes h
    becomes_below renamed_end given h = tt
    becomes_below renamed_trap given h = tt

  -- ---- each name is the first that is free

  abbrev IsFirst : Defined → Type 0
  IsFirst p = FirstFree p.above p.definition last.given (Some p.name)

  pub becomes_first : {pairs : List Pair} {t t' : NodeTree} → Becomes pairs t t' → EachDefined IsFirst last.names.forms (others pairs) (plain_tree t')
  becomes_first (renamed_plain {pairs} {tag} {origin} {item} {rest} {rest'} e r) =
      let none : dest_of (renamed_item pairs item) ≡ None = dest_kept (map_name (renamed_name pairs)) item ∙ e in
      subst (λ (d : Option ℕ). OfDefined IsFirst last.names.forms (others pairs) tag origin (renamed_item pairs item) d
      × EachDefined IsFirst last.names.forms (named d (others pairs)) (plain_tree rest'))
      (sym none) (tt, becomes_first r)
  becomes_first (renamed_given {pairs} {tag} {origin} {item} {rest} {rest'} {old} {name} e is r) =
      let some : dest_of (with_dest name (renamed_item pairs item)) ≡ Some name = dest_renamed name old (map_name (renamed_name pairs)) item e in
      let first = subst (λ (x : Item). FirstFree (others pairs) (record { tag = tag; origin = origin; item = x; form = last.names.forms name }) last.given (Some name))
      (sym (without_name name (renamed_item pairs item))) is.free in
      subst (λ (d : Option ℕ). OfDefined IsFirst last.names.forms (others pairs) tag origin (with_dest name (renamed_item pairs item)) d
      × EachDefined IsFirst last.names.forms (named d (others pairs)) (plain_tree rest'))
      (sym some) (first, becomes_first r)
  becomes_first (renamed_test p q) = (becomes_first p, becomes_first q)
  becomes_first (renamed_leaf r) = becomes_first r
  becomes_first renamed_stub = tt
  becomes_first renamed_end = tt
  becomes_first renamed_trap = tt

  -- ---- the front

  -- no parameter is defined on a path
  abbrev pub Clear : List Pair → Type 0
  Clear [] = Unit {0}
  Clear (pair ∷ pairs) = (known pair.one ≡ false) × Clear pairs

  stays_itself : (pairs : List Pair) → Clear pairs → (x : ℕ) → known x ≡ true → renamed_name pairs x ≡ x
  stays_itself [] clear x k = refl
  stays_itself (pair ∷ pairs) clear x k = ap (λ (b : Bool). if b then pair.other else renamed_name pairs x) (apart (nat_eq pair.one x) refl) ∙ stays_itself pairs clear.1 x k
    where
      apart : (b : Bool) → nat_eq pair.one x ≡ b → b ≡ false
      apart false e = refl
      apart true e = absurd (let same : pair.one ≡ x = grind (arith, e) in let none : known x ≡ false = subst (λ (y : ℕ). known y ≡ false) same clear.0 in cc)

  operand_itself : (pairs : List Pair) → Clear pairs → (o : Operand) → IsKnown known o → map_name (renamed_name pairs) o ≡ o
  operand_itself pairs clear (Name x) h = ap Name (stays_itself pairs clear x h)
  operand_itself pairs clear (Lit value) h = refl

  item_itself : (pairs : List Pair) → Clear pairs → (item : Item) → ReadsKnown known item → renamed_item pairs item ≡ item
  item_itself pairs clear (Bin op dest left right) h = λ i. Bin op dest (operand_itself pairs clear left h.0 i) (operand_itself pairs clear right h.1.0 i)
  item_itself pairs clear (Copy dest from) h = ap (Copy dest) (operand_itself pairs clear from h.0)
  item_itself pairs clear (Load dest array index) h = ap (Load dest array) (operand_itself pairs clear index h.0)
  item_itself pairs clear (Store array index value) h = λ i. Store array (operand_itself pairs clear index h.0 i) (operand_itself pairs clear value h.1.0 i)
  item_itself pairs clear (Print value) h = ap Print (operand_itself pairs clear value h.0)
  item_itself pairs clear (Read dest) h = refl
  item_itself pairs clear (More dest) h = refl

  -- parameters keep their forms
  module _ (same_forms : (x : ℕ) → known x ≡ true → last.names.forms x ≡ forms x) where
    same_operand : (o : Operand) → IsKnown known o → operand_form last.names.forms o ≡ operand_form forms o
    same_operand (Name x) h = same_forms x h
    same_operand (Lit value) h = refl

    never_moved : (i j : Operand) → IsKnown known i → IsKnown known j → NeverEqual (operand_form forms i) (operand_form forms j)
        → NeverEqual (operand_form last.names.forms i) (operand_form last.names.forms j)
    never_moved i j p q never =
        subst (λ (f : Form). NeverEqual f (operand_form last.names.forms j)) (sym (same_operand i p))
        (subst (NeverEqual (operand_form forms i)) (sym (same_operand j q)) never)

    same_touches : (x y : Item) → ReadsKnown known x → ReadsKnown known y → NoStoreDependence forms (touch_of x) (touch_of y)
        → NoStoreDependence last.names.forms (touch_of x) (touch_of y)
    same_touches (Load d a i) (Load d' a' i') p q h = λ e s. never_moved i i' p.0 q.0 (h e s)
    same_touches (Load d a i) (Store a' i' v') p q h = λ e s. never_moved i i' p.0 q.0 (h e s)
    same_touches (Store a i v) (Load d' a' i') p q h = λ e s. never_moved i i' p.0 q.0 (h e s)
    same_touches (Store a i v) (Store a' i' v') p q h = λ e s. never_moved i i' p.0 q.0 (h e s)
    same_touches (Load d a i) (Bin op d' l' r') p q h = tt
    same_touches (Load d a i) (Copy d' f') p q h = tt
    same_touches (Load d a i) (Print v') p q h = tt
    same_touches (Load d a i) (Read d') p q h = tt
    same_touches (Load d a i) (More d') p q h = tt
    same_touches (Store a i v) (Bin op d' l' r') p q h = tt
    same_touches (Store a i v) (Copy d' f') p q h = tt
    same_touches (Store a i v) (Print v') p q h = tt
    same_touches (Store a i v) (Read d') p q h = tt
    same_touches (Store a i v) (More d') p q h = tt
    same_touches (Bin op d l r) y p q h = tt
    same_touches (Copy d f) y p q h = tt
    same_touches (Print v) y p q h = tt
    same_touches (Read d) y p q h = tt
    same_touches (More d) y p q h = tt

    same_touch : (name : ℕ) (x : Item) → touch_of (with_dest name x) ≡ touch_of x
    same_touch name (Bin op dest left right) = refl
    same_touch name (Copy dest from) = refl
    same_touch name (Load dest array index) = refl
    same_touch name (Store array index value) = refl
    same_touch name (Print value) = refl
    same_touch name (Read dest) = refl
    same_touch name (More dest) = refl

    same_effect : (name : ℕ) (x : Item) → is_effect (with_dest name x) ≡ is_effect x
    same_effect name (Bin op dest left right) = refl
    same_effect name (Copy dest from) = refl
    same_effect name (Load dest array index) = refl
    same_effect name (Store array index value) = refl
    same_effect name (Print value) = refl
    same_effect name (Read dest) = refl
    same_effect name (More dest) = refl

    -- an old name is no parameter
    old_clear : (pairs : List Pair) (item : Item) (old : ℕ) → dest_of item ≡ Some old → IsNew (scope forms known last pairs) (dest_of item) → known old ≡ false
    old_clear pairs item old e new = by (known old) refl
      where
        here : scope forms known last pairs old ≡ false
        here = subst (IsNew (scope forms known last pairs)) e new

        within : (pairs : List Pair) → known old ≡ true → scope forms known last pairs old ≡ true
        within [] k = k
        within (pair ∷ pairs) k = or_second (nat_eq pair.one old) (scope forms known last pairs old) (within pairs k)

        by : (b : Bool) → known old ≡ b → b ≡ false
        by false k = refl
        by true k = absurd (let there = within pairs k in let none = here in cc)

    -- two items with other names, which read parameters alone, may follow as they might
    follows : (x x' y y' : Item) → ReadsKnown known x → ReadsKnown known y → touch_of x' ≡ touch_of x → touch_of y' ≡ touch_of y
        → is_effect x' ≡ is_effect x → is_effect y' ≡ is_effect y → MayFollow forms x y → MayFollow last.names.forms x' y'
    follows x x' y y' p q tx ty ex ey may = record {
      no_store_dependence = subst (λ t. NoStoreDependence last.names.forms t (touch_of y')) (sym tx)
          (subst (NoStoreDependence last.names.forms (touch_of x)) (sym ty) (same_touches x y p q may.no_store_dependence));
      one_effect = (λ i. ex i && ey i) ∙ may.one_effect;
    }

    all_follow : {pairs : List Pair} {t t' : NodeTree} → Becomes pairs t t' → Clear pairs → Scoped (scope forms known last pairs) (plain_tree t)
        → (x x' : Item) → ReadsKnown known x → touch_of x' ≡ touch_of x → is_effect x' ≡ is_effect x
        → Independent forms known (plain_front t) → AllItems (MayFollow forms x) (plain_front t) → AllItems (MayFollow last.names.forms x') (plain_front t')
    all_follow (renamed_plain {pairs} {tag} {origin} {item} {rest} e r) clear h x x' p tx ex ind all =
        let same = item_itself pairs clear item ind.0 in (
          follows x x' item (renamed_item pairs item) p ind.0 tx (ap touch_of same) ex (ap is_effect same) all.0,
          all_follow r clear (after_plain forms known last (dest_of item) (plain_tree rest) pairs e h.2) x x' p tx ex ind.2 all.1,
        )
    all_follow (renamed_given {pairs} {tag} {origin} {item} {rest} {rest'} {old} {name} e is r) clear h x x' p tx ex ind all =
        let same = item_itself pairs clear item ind.0 in (
          follows x x' item (with_dest name (renamed_item pairs item)) p ind.0 tx (same_touch name (renamed_item pairs item) ∙ ap touch_of same) ex
              (same_effect name (renamed_item pairs item) ∙ ap is_effect same) all.0,
          all_follow r (old_clear pairs item old e h.1, clear) (after_given forms known last (dest_of item) (plain_tree rest) pairs old name e h.2) x x' p tx ex ind.2 all.1,
        )
    all_follow (renamed_test q r) clear h x x' p tx ex ind all = (all_follow q clear h.1 x x' p tx ex ind.1 all.0, all_follow r clear h.2 x x' p tx ex ind.2 all.1)
    all_follow (renamed_leaf r) clear h x x' p tx ex ind all = tt
    all_follow renamed_stub clear h x x' p tx ex ind all = tt
    all_follow renamed_end clear h x x' p tx ex ind all = tt
    all_follow renamed_trap clear h x x' p tx ex ind all = tt

    pub becomes_independent : {pairs : List Pair} {t t' : NodeTree} → Becomes pairs t t' → Clear pairs → Scoped (scope forms known last pairs) (plain_tree t)
        → Independent forms known (plain_front t) → Independent last.names.forms known (plain_front t')
    becomes_independent (renamed_plain {pairs} {tag} {origin} {item} {rest} e r) clear h ind =
        let same = item_itself pairs clear item ind.0 in
        let below = after_plain forms known last (dest_of item) (plain_tree rest) pairs e h.2 in (
          subst (ReadsKnown known) (sym same) ind.0,
          all_follow r clear below item (renamed_item pairs item) ind.0 (ap touch_of same) (ap is_effect same) ind.2 ind.1,
          becomes_independent r clear below ind.2,
        )
    becomes_independent (renamed_given {pairs} {tag} {origin} {item} {rest} {rest'} {old} {name} e is r) clear h ind =
        let same = item_itself pairs clear item ind.0 in
        let below = after_given forms known last (dest_of item) (plain_tree rest) pairs old name e h.2 in
        let still : Clear (record { one = old; other = name } ∷ pairs) = (old_clear pairs item old e h.1, clear) in (
          reads_the_same known name (renamed_item pairs item) (subst (ReadsKnown known) (sym same) ind.0),
          all_follow r still below item (with_dest name (renamed_item pairs item)) ind.0 (same_touch name (renamed_item pairs item) ∙ ap touch_of same)
              (same_effect name (renamed_item pairs item) ∙ ap is_effect same) ind.2 ind.1,
          becomes_independent r still below ind.2,
        )
    becomes_independent (renamed_test {pairs} {tag} {origin} {on} q r) clear h ind =
        (subst (IsKnown known) (sym (operand_itself pairs clear on ind.0)) ind.0, becomes_independent q clear h.1 ind.1, becomes_independent r clear h.2 ind.2)
    becomes_independent (renamed_leaf r) clear h ind = tt
    becomes_independent renamed_stub clear h ind = tt
    becomes_independent renamed_end clear h ind = tt
    becomes_independent renamed_trap clear h ind = tt

  -- ---- sizes, and what is there

  same_memory : (pairs : List Pair) (item : Item) → is_memory (renamed_item pairs item) ≡ is_memory item
  same_memory pairs (Bin op dest left right) = refl
  same_memory pairs (Copy dest from) = refl
  same_memory pairs (Load dest array index) = refl
  same_memory pairs (Store array index value) = refl
  same_memory pairs (Print value) = refl
  same_memory pairs (Read dest) = refl
  same_memory pairs (More dest) = refl

  named_memory : (name : ℕ) (item : Item) → is_memory (with_dest name item) ≡ is_memory item
  named_memory name (Bin op dest left right) = refl
  named_memory name (Copy dest from) = refl
  named_memory name (Load dest array index) = refl
  named_memory name (Store array index value) = refl
  named_memory name (Print value) = refl
  named_memory name (Read dest) = refl
  named_memory name (More dest) = refl

  -- a tree, and its front, are as large
  pub record AsLarge (t t' : NodeTree) : Type 0 where
    pub size : tree_size (plain_tree t') ≡ tree_size (plain_tree t)
    pub items : item_count (plain_front t') ≡ item_count (plain_front t)
    pub memory : memory_count (plain_front t') ≡ memory_count (plain_front t)
    pub tests : test_count (plain_front t') ≡ test_count (plain_front t)

  larger : (b b' : Bool) (m m' : ℕ) → b' ≡ b → m' ≡ m → (if b' then 1 else 0) + m' ≡ (if b then 1 else 0) + m
  larger b b' m m' e f = λ i. (if e i then 1 else 0) + f i

  pub as_large : {pairs : List Pair} {t t' : NodeTree} → Becomes pairs t t' → AsLarge t t'
  as_large (renamed_plain {pairs} {tag} {origin} {item} e r) =
      let k = as_large r in record { size = ap suc k.size; items = ap suc k.items; memory = larger _ _ _ _ (same_memory pairs item) k.memory; tests = k.tests }
  as_large (renamed_given {pairs} {tag} {origin} {item} {rest} {rest'} {old} {name} e is r) =
      let k = as_large r in record {
        size = ap suc k.size;
        items = ap suc k.items;
        memory = larger _ _ _ _ (named_memory name (renamed_item pairs item) ∙ same_memory pairs item) k.memory;
        tests = k.tests;
      }
  as_large (renamed_test p q) =
      let k = as_large p in let l = as_large q in record {
        size = λ i. suc (k.size i + l.size i);
        items = λ i. k.items i + l.items i;
        memory = λ i. k.memory i + l.memory i;
        tests = λ i. suc (k.tests i + l.tests i);
      }
  as_large (renamed_leaf r) = let k = as_large r in record { size = k.size; items = refl; memory = refl; tests = refl }
  as_large renamed_stub = record { size = refl; items = refl; memory = refl; tests = refl }
  as_large renamed_end = record { size = refl; items = refl; memory = refl; tests = refl }
  as_large renamed_trap = record { size = refl; items = refl; memory = refl; tests = refl }

  same_array : (table : Table) (pairs : List Pair) (item : Item) → ArrayIsThere table item → ArrayIsThere table (renamed_item pairs item)
  same_array table pairs (Bin op dest left right) h = h
  same_array table pairs (Copy dest from) h = h
  same_array table pairs (Load dest array index) h = h
  same_array table pairs (Store array index value) h = h
  same_array table pairs (Print value) h = h
  same_array table pairs (Read dest) h = h
  same_array table pairs (More dest) h = h

  named_array : (table : Table) (name : ℕ) (item : Item) → ArrayIsThere table item → ArrayIsThere table (with_dest name item)
  named_array table name (Bin op dest left right) h = h
  named_array table name (Copy dest from) h = h
  named_array table name (Load dest array index) h = h
  named_array table name (Store array index value) h = h
  named_array table name (Print value) h = h
  named_array table name (Read dest) h = h
  named_array table name (More dest) h = h

  same_variables : (pairs : List Pair) (homes : List Home) → map (λ home. home.variable) (map_homes (map_name (renamed_name pairs)) homes) ≡ map (λ home. home.variable) homes
  same_variables pairs [] = refl
  same_variables pairs (home ∷ homes) = ap (λ (list : List ℕ). home.variable ∷ list) (same_variables pairs homes)

  -- arrays and stubs are there as before
  pub parts_there : {pairs : List Pair} {t t' : NodeTree} → Becomes pairs t t' → (table : Table) (most : ℕ)
      → PartsAreThere table most (plain_tree t) → PartsAreThere table most (plain_tree t')
  parts_there (renamed_plain {pairs} {tag} {origin} {item} e r) table most h = (h.0, same_array table pairs item h.1, parts_there r table most h.2)
  parts_there (renamed_given {pairs} {tag} {origin} {item} {rest} {rest'} {old} {name} e is r) table most h =
      (h.0, named_array table name (renamed_item pairs item) (same_array table pairs item h.1), parts_there r table most h.2)
  parts_there (renamed_test p q) table most h = (h.0, parts_there p table most h.1, parts_there q table most h.2)
  parts_there (renamed_leaf r) table most h = parts_there r table most h
  parts_there (renamed_stub {pairs} {region} {tag} {homes}) table most h = (h.0, record { leads = h.1.leads; live = same_variables pairs homes ∙ h.1.live })
  parts_there renamed_end table most h = tt
  parts_there renamed_trap table most h = tt
