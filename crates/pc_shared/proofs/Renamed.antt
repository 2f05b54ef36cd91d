-- What a tree becomes once all names are given: on each path other names, each of them new there.
use Rattle.std.proofs.Common.{◌≡◌, ℕ, ◌+◌, ◌<◌, List, [], ◌∷◌, Option, Some, None, refl, sym, ◌∙◌, ap, subst, arith}
use Rattle.std.specs.Prelude.{Bool, true, false, not, ◌&&◌, ◌||◌, if◌then◌else◌, nat_eq, ◌++◌}
use Rattle.pc_word.specs.declared.item.Item.{Item}
use Rattle.pc_word.specs.declared.item.Item.TheVariants.{Bin, Copy, Load, Store, Print, Read, More}
use Rattle.pc_word.specs.declared.item.Operand.{Operand}
use Rattle.pc_word.specs.declared.item.Operand.TheVariants.{Name, Lit}
use Rattle.pc_word.specs.declared.item.TrapKind.{TrapKind}
use Rattle.pc_word.specs.Items.{dest_of}
use Rattle.pc_word.specs.Commit.{writes}
use Rattle.pc_word.specs.Naming.{map_name, map_operands, with_dest}
use Rattle.pc_word.proofs.Truth.{or_first, or_second}
use Rattle.pc_linear.specs.Form.{Form}
use Rattle.pc_window.specs.declared.home.Home.{Home}
use Rattle.pc_window.specs.Tree.{Tree}
use Rattle.pc_window.specs.Names.{IsKnown, ReadsKnown, HomesKnown, Scoped}
use Rattle.pc_window.specs.Rename.{map_homes}
use Rattle.pc_window.proofs.Grafts.{nat_eq-same}
use Rattle.pc_canon.specs.Pairs.{Pair, others, corresponds, defined, OperandsAlike, HomesAlike}
use Rattle.pc_canon.specs.Shift.{Maps, TagsAlike, FormsAlike, DestsAlike, ItemsAlike, TreesAlike, SameFront}
use Rattle.pc_canon.specs.Shift.{both_bin, both_copy, both_load, both_store, both_print, both_read, both_more, both_then, both_either, both_exit, both_stop, both_trap}
use Rattle.pc_shared.specs.NodeTree.{NodeTree, Doing, Asking, Leading, Leaving, Ending, Trapping, plain_tree, plain_front}
use Rattle.pc_shared.specs.Merging.{definition_of}
use Rattle.pc_shared.specs.models.Renaming.{renamed_name, renamed_item}
use Rattle.pc_shared.specs.models.Merges.{Giving, FirstFree}

-- ---- items

pub dest_renamed : (name old : ℕ) (f : Operand → Operand) (item : Item) → dest_of item ≡ Some old → dest_of (with_dest name (map_operands f item)) ≡ Some name
dest_renamed name old f (Bin op dest left right) e = refl
dest_renamed name old f (Copy dest from) e = refl
dest_renamed name old f (Load dest array index) e = refl
dest_renamed name old f (Store array index value) e = absurd (cc)
dest_renamed name old f (Print value) e = absurd (cc)
dest_renamed name old f (Read dest) e = refl
dest_renamed name old f (More dest) e = refl

pub dest_kept : (f : Operand → Operand) (item : Item) → dest_of (map_operands f item) ≡ dest_of item
dest_kept f (Bin op dest left right) = refl
dest_kept f (Copy dest from) = refl
dest_kept f (Load dest array index) = refl
dest_kept f (Store array index value) = refl
dest_kept f (Print value) = refl
dest_kept f (Read dest) = refl
dest_kept f (More dest) = refl

pub without_name : (name : ℕ) (item : Item) → with_dest 0 (with_dest name item) ≡ with_dest 0 item
without_name name (Bin op dest left right) = refl
without_name name (Copy dest from) = refl
without_name name (Load dest array index) = refl
without_name name (Store array index value) = refl
without_name name (Print value) = refl
without_name name (Read dest) = refl
without_name name (More dest) = refl

-- ---- a tree and what it becomes

module _ (forms : ℕ → Form) (known : ℕ → Bool) (last : Giving) where
  -- whether a name is known on a path, and whether one is in the stead of one that is
  abbrev pub scope : List Pair → ℕ → Bool
  scope [] x = known x
  scope (pair ∷ pairs) x = nat_eq pair.one x || scope pairs x

  abbrev pub new_scope : List Pair → ℕ → Bool
  new_scope [] x = known x
  new_scope (pair ∷ pairs) x = nat_eq pair.other x || new_scope pairs x

  -- a name that is given to an item in the stead of an old one
  pub record IsGiven (pairs : List Pair) (tag origin : ℕ) (item : Item) (old name : ℕ) : Type 0 where
    pub free : FirstFree (others pairs) (definition_of last.names.forms tag origin (renamed_item pairs item) name) last.given (Some name)
    pub form : last.names.forms name ≡ forms old
    pub below : name < last.names.next
    pub apart : new_scope pairs name ≡ false

  pub data Renamed : List Pair → NodeTree → NodeTree → Type 0 where
    renamed_plain : {pairs : List Pair} {tag origin : ℕ} {item : Item} {rest rest' : NodeTree} → dest_of item ≡ None
        → Renamed pairs rest rest' → Renamed pairs (Doing tag origin item rest) (Doing tag origin (renamed_item pairs item) rest')
    renamed_given : {pairs : List Pair} {tag origin : ℕ} {item : Item} {rest rest' : NodeTree} {old name : ℕ} → dest_of item ≡ Some old
        → IsGiven pairs tag origin item old name → Renamed (record { one = old; other = name } ∷ pairs) rest rest'
        → Renamed pairs (Doing tag origin item rest) (Doing tag origin (with_dest name (renamed_item pairs item)) rest')
    renamed_test : {pairs : List Pair} {tag origin : ℕ} {on : Operand} {on_yes on_no on_yes' on_no' : NodeTree}
        → Renamed pairs on_yes on_yes' → Renamed pairs on_no on_no'
        → Renamed pairs (Asking tag origin on on_yes on_no) (Asking tag origin (map_name (renamed_name pairs) on) on_yes' on_no')
    renamed_leaf : {pairs : List Pair} {below below' : NodeTree} → Renamed pairs below below' → Renamed pairs (Leading below) (Leading below')
    renamed_stub : {pairs : List Pair} {region tag : ℕ} {homes : List Home}
        → Renamed pairs (Leaving region tag homes) (Leaving region tag (map_homes (map_name (renamed_name pairs)) homes))
    renamed_end : {pairs : List Pair} → Renamed pairs Ending Ending
    renamed_trap : {pairs : List Pair} {kind : TrapKind} {line : ℕ} → Renamed pairs (Trapping kind line) (Trapping kind line)

  -- ---- names on a path

  -- each new name was new where it was given, and its form is that of the old one
  abbrev pub AllGiven : List Pair → Type 0
  AllGiven [] = Unit {0}
  AllGiven (pair ∷ pairs) = (new_scope pairs pair.other ≡ false) × (pair.other < last.names.next) × AllGiven pairs

  pub in_new_scope : (pairs : List Pair) (x : ℕ) → scope pairs x ≡ true → new_scope pairs (renamed_name pairs x) ≡ true
  in_new_scope [] x h = h
  in_new_scope (pair ∷ pairs) x h = by (nat_eq pair.one x) h (in_new_scope pairs x)
    where
      by : (b : Bool) → (b || scope pairs x) ≡ true → (scope pairs x ≡ true → new_scope pairs (renamed_name pairs x) ≡ true)
          → (nat_eq pair.other (if b then pair.other else renamed_name pairs x) || new_scope pairs (if b then pair.other else renamed_name pairs x)) ≡ true
      by true h next = or_first (nat_eq pair.other pair.other) _ (nat_eq-same pair.other)
      by false h next = or_second (nat_eq pair.other (renamed_name pairs x)) _ (next h)

  pub renamed_below : (pairs : List Pair) → AllGiven pairs → (x : ℕ) → x < last.names.next → renamed_name pairs x < last.names.next
  renamed_below [] given x h = h
  renamed_below (pair ∷ pairs) given x h = by (nat_eq pair.one x) (renamed_below pairs given.2 x h)
    where
      by : (b : Bool) → renamed_name pairs x < last.names.next → (if b then pair.other else renamed_name pairs x) < last.names.next
      by true next = given.1
      by false next = next

  -- what follows an item that writes no name, or one
  pub after_plain : (d : Option ℕ) (tree : Tree) (pairs : List Pair) → d ≡ None → Scoped (λ x. writes d x || scope pairs x) tree → Scoped (scope pairs) tree
  after_plain d tree pairs e h = subst (λ (d : Option ℕ). Scoped (λ x. writes d x || scope pairs x) tree) e h

  pub after_given : (d : Option ℕ) (tree : Tree) (pairs : List Pair) (old name : ℕ) → d ≡ Some old → Scoped (λ x. writes d x || scope pairs x) tree
      → Scoped (scope (record { one = old; other = name } ∷ pairs)) tree
  after_given d tree pairs old name e h = subst (λ (d : Option ℕ). Scoped (λ x. writes d x || scope pairs x) tree) e h

  -- a name that is given corresponds to the old one
  module _ (params : List Pair) (base : (x : ℕ) → known x ≡ true → corresponds params x x ≡ true) where
    apart_from : (pairs : List Pair) (x y : ℕ) → new_scope pairs x ≡ false → new_scope pairs y ≡ true → nat_eq x y ≡ false
    apart_from pairs x y none there = by (nat_eq x y) refl
      where
        by : (b : Bool) → nat_eq x y ≡ b → b ≡ false
        by false e = refl
        by true e = absurd (let same : x ≡ y = grind (arith, e) in let moved : new_scope pairs y ≡ false = subst (λ (z : ℕ). new_scope pairs z ≡ false) same none in cc)

    pub all_correspond : (pairs : List Pair) → AllGiven pairs → (x : ℕ) → scope pairs x ≡ true → corresponds (pairs ++ params) x (renamed_name pairs x) ≡ true
    all_correspond [] given x h = base x h
    all_correspond (pair ∷ pairs) given x h = by (nat_eq pair.one x) h (all_correspond pairs given.2 x)
      where
        further : (b c : Bool) → b ≡ false → c ≡ true → (not b && c) ≡ true
        further false true e f = refl
        further true c e f = absurd (cc)
        further false false e f = absurd (cc)

        by : (b : Bool) → (b || scope pairs x) ≡ true → (scope pairs x ≡ true → corresponds (pairs ++ params) x (renamed_name pairs x) ≡ true)
            → (if b then nat_eq pair.other (if b then pair.other else renamed_name pairs x)
            else (not (nat_eq pair.other (if b then pair.other else renamed_name pairs x)) && corresponds (pairs ++ params) x (if b then pair.other else renamed_name pairs x))) ≡ true
        by true h next = nat_eq-same pair.other
        by false h next =
            further (nat_eq pair.other (renamed_name pairs x)) _ (apart_from pairs pair.other (renamed_name pairs x) given.0 (in_new_scope pairs x h)) (next h)

    -- ---- alike

    operand_alike : (pairs : List Pair) → AllGiven pairs → (o : Operand) → IsKnown (scope pairs) o → OperandsAlike (pairs ++ params) o (map_name (renamed_name pairs) o)
    operand_alike pairs given (Name x) h = all_correspond pairs given x h
    operand_alike pairs given (Lit value) h = refl

    plain_alike : (pairs : List Pair) → AllGiven pairs → (item : Item) → ReadsKnown (scope pairs) item → ItemsAlike (pairs ++ params) item (renamed_item pairs item)
    plain_alike pairs given (Bin op dest left right) h = both_bin (operand_alike pairs given left h.0) (operand_alike pairs given right h.1.0)
    plain_alike pairs given (Copy dest from) h = both_copy (operand_alike pairs given from h.0)
    plain_alike pairs given (Load dest array index) h = both_load (operand_alike pairs given index h.0)
    plain_alike pairs given (Store array index value) h = both_store (operand_alike pairs given index h.0) (operand_alike pairs given value h.1.0)
    plain_alike pairs given (Print value) h = both_print (operand_alike pairs given value h.0)
    plain_alike pairs given (Read dest) h = both_read
    plain_alike pairs given (More dest) h = both_more

    named_alike : (names : List Pair) (name : ℕ) (item other : Item) → ItemsAlike names item other → ItemsAlike names item (with_dest name other)
    named_alike names name _ _ (both_bin p q) = both_bin p q
    named_alike names name _ _ (both_copy p) = both_copy p
    named_alike names name _ _ (both_load p) = both_load p
    named_alike names name _ _ (both_store p q) = both_store p q
    named_alike names name _ _ (both_print p) = both_print p
    named_alike names name _ _ both_read = both_read
    named_alike names name _ _ both_more = both_more

    stub_alike : (pairs : List Pair) → AllGiven pairs → (homes : List Home) → HomesKnown (scope pairs) homes
        → HomesAlike (pairs ++ params) homes (map_homes (map_name (renamed_name pairs)) homes)
    stub_alike pairs given [] h = tt
    stub_alike pairs given (home ∷ homes) h = (refl, operand_alike pairs given home.value h.0, stub_alike pairs given homes h.1)

    module _ (maps : Maps) (tags : maps.shift ≡ maps.other_shift) (alike : (x y : ℕ) → last.names.forms y ≡ forms x → FormsAlike maps.variables (forms x) (last.names.forms y)) where
      same_tag : (tag : ℕ) → TagsAlike maps tag tag
      same_tag tag = ap (λ (n : ℕ). tag + n) tags

      pub trees_alike : {pairs : List Pair} {t t' : NodeTree} → Renamed pairs t t' → AllGiven pairs → Scoped (scope pairs) (plain_tree t)
          → TreesAlike maps forms last.names.forms (pairs ++ params) (plain_tree t) (plain_tree t')
      trees_alike (renamed_plain {pairs} {tag} {origin} {item} {rest} {rest'} e r) given h =
          let none : dest_of (renamed_item pairs item) ≡ None = dest_kept (map_name (renamed_name pairs)) item ∙ e in
          both_then (same_tag tag) (plain_alike pairs given item h.0)
          (subst (λ (d : Option ℕ). DestsAlike maps forms last.names.forms d (dest_of (renamed_item pairs item))) (sym e) tt)
          (subst (λ (d : Option ℕ). TreesAlike maps forms last.names.forms (defined (pairs ++ params) d (dest_of (renamed_item pairs item))) (plain_tree rest) (plain_tree rest')) (sym e)
          (trees_alike r given (after_plain (dest_of item) (plain_tree rest) pairs e h.2)))
      trees_alike (renamed_given {pairs} {tag} {origin} {item} {rest} {rest'} {old} {name} e is r) given h =
          let some : dest_of (with_dest name (renamed_item pairs item)) ≡ Some name = dest_renamed name old (map_name (renamed_name pairs)) item e in
          let below = trees_alike r (is.apart, is.below, given) (after_given (dest_of item) (plain_tree rest) pairs old name e h.2) in
          both_then (same_tag tag) (named_alike (pairs ++ params) name item (renamed_item pairs item) (plain_alike pairs given item h.0))
          (subst (λ (d : Option ℕ). DestsAlike maps forms last.names.forms d (dest_of (with_dest name (renamed_item pairs item)))) (sym e)
          (subst (λ (d : Option ℕ). DestsAlike maps forms last.names.forms (Some old) d) (sym some) (alike old name is.form)))
          (subst (λ (d : Option ℕ). TreesAlike maps forms last.names.forms (defined (pairs ++ params) d (dest_of (with_dest name (renamed_item pairs item))))
          (plain_tree rest) (plain_tree rest')) (sym e)
          (subst (λ (d : Option ℕ). TreesAlike maps forms last.names.forms (defined (pairs ++ params) (Some old) d) (plain_tree rest) (plain_tree rest')) (sym some) below))
      trees_alike (renamed_test {pairs} {tag} {origin} {on} p q) given h =
          both_either (same_tag tag) (operand_alike pairs given on h.0) (trees_alike p given h.1) (trees_alike q given h.2)
      trees_alike (renamed_leaf r) given h = trees_alike r given h
      trees_alike (renamed_stub {pairs} {region} {tag} {homes}) given h = both_exit (same_tag tag) (stub_alike pairs given homes h)
      trees_alike renamed_end given h = both_stop
      trees_alike renamed_trap given h = both_trap

  pub fronts_same : {pairs : List Pair} {t t' : NodeTree} → Renamed pairs t t' → SameFront (plain_front t) (plain_front t')
  fronts_same (renamed_plain e r) = fronts_same r
  fronts_same (renamed_given e is r) = fronts_same r
  fronts_same (renamed_test p q) = (fronts_same p, fronts_same q)
  fronts_same (renamed_leaf r) = tt
  fronts_same renamed_stub = tt
  fronts_same renamed_end = tt
  fronts_same renamed_trap = tt
