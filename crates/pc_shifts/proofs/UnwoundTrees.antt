-- One stub of two alike trees unwound leaves them alike.
use Rattle.std.proofs.Common.{◌≡◌, ℕ, ◌+◌, ◌<◌, List, [], ◌∷◌, Option, Some, None, refl, ap, subst, arith}
use Rattle.std.specs.Prelude.{ℤ, Bool, true, false, ◌&&◌, if◌then◌else◌, nat_eq}
use Rattle.std.proofs.lemmas.Bool.{eqb-true, eq-eqb}
use Rattle.pc_word.specs.declared.item.Item.{Item}
use Rattle.pc_word.specs.declared.item.Operand.{Operand}
use Rattle.pc_word.specs.declared.item.Operand.TheVariants.{Name, Lit}
use Rattle.pc_word.specs.Items.{dest_of}
use Rattle.pc_word.proofs.Truth.{same_test}
use Rattle.pc_linear.specs.Combine.{constant_form}
use Rattle.pc_table.specs.Table.{Table, region_tree}
use Rattle.pc_table.specs.Loops.{is_inside}
use Rattle.pc_window.specs.declared.home.Home.{Home}
use Rattle.pc_window.specs.Tree.{Tree, home_of}
use Rattle.pc_window.specs.Opening.{Supply, Grafted, graft, under_item, under_test, unwound_at, ItemBelow, StubBelow, TreeBelow}
use Rattle.pc_window.proofs.Unwinding.{homes-below}
use Rattle.pc_canon.specs.Pairs.{Pair, defined, OperandsAlike, HomesAlike}
use Rattle.pc_canon.specs.Shift.{EachPair, FormsAlike, ItemsAlike, both_bin, both_copy, both_load, both_store, both_print, both_read, both_more, Maps, DestsAlike, TagsAlike}
use Rattle.pc_canon.specs.Shift.{TreesAlike, both_then, both_either, both_exit, both_stop, both_trap}
use Rattle.pc_canon.proofs.ShiftForms.{each_corresponds}
use Rattle.pc_shifts.proofs.Combined.{constants_alike}
use Rattle.pc_shifts.specs.Supplies.{SuppliesAlike}
use Rattle.pc_shifts.proofs.Supplies.{SuppliesGrow, forms_later}
use Rattle.pc_shifts.proofs.LaterTrees.{dests_later, tree_later}
use Rattle.pc_shifts.proofs.StubHomes.{OperandForms, HomesMatch}
use Rattle.pc_shifts.proofs.GraftedTrees.{GraftsMatch, GraftsAlike, grafts_alike}

-- ---- names that correspond

-- names that correspond are there, and have forms that are alike
abbrev pub NamesMatch : List Pair → List Pair → Supply → Supply → Type 0
NamesMatch variables pairs names names' = EachPair pairs (λ x y. (x < names.next) × (y < names'.next) × FormsAlike variables (names.forms x) (names'.forms y))

-- with more names
pub names_later : (xs ys : List Pair) (a a' b b' : Supply) → SuppliesAlike xs a a' → SuppliesGrow xs a a' ys b b' → (pairs : List Pair) → NamesMatch xs pairs a a' → NamesMatch ys pairs b b'
names_later xs ys a a' b b' s g [] h = tt
names_later xs ys a a' b b' s g (pair ∷ pairs) h =
    let lt = h.0.0 in
    let lt' = h.0.1 in
    let le = g.extends.next in
    let le' = g.others_extend.next in
    ((omega (arith, lt, le), omega (arith, lt', le'), forms_later xs ys a a' b b' s g pair.one pair.other lt lt' h.0.2), names_later xs ys a a' b b' s g pairs h.1)

-- below two items
names_below : (maps : Maps) (pairs : List Pair) (names names' : Supply) {item item' : Item} → ItemsAlike pairs item item' → ItemBelow names.next item → ItemBelow names'.next item'
    → DestsAlike maps names.forms names'.forms (dest_of item) (dest_of item') → NamesMatch maps.variables pairs names names'
    → NamesMatch maps.variables (defined pairs (dest_of item) (dest_of item')) names names'
names_below maps pairs names names' (both_bin h k) b b' a m = ((b.0, b'.0, a), m)
names_below maps pairs names names' (both_copy h) b b' a m = ((b.0, b'.0, a), m)
names_below maps pairs names names' (both_load h) b b' a m = ((b.0, b'.0, a), m)
names_below maps pairs names names' (both_store h k) b b' a m = m
names_below maps pairs names names' (both_print h) b b' a m = m
names_below maps pairs names names' both_read b b' a m = ((b, b', a), m)
names_below maps pairs names names' both_more b b' a m = ((b, b', a), m)

-- ---- homes of stubs

operand_forms : (variables pairs : List Pair) (names names' : Supply) → NamesMatch variables pairs names names' → (a b : Operand) → OperandsAlike pairs a b → OperandForms variables names names' a b
operand_forms variables pairs names names' m (Name x) (Name y) h =
    (each_corresponds pairs (λ x y. (x < names.next) × (y < names'.next) × FormsAlike variables (names.forms x) (names'.forms y)) x y m h).2
operand_forms variables pairs names names' m (Lit a) (Lit b) h = subst (λ (z : ℤ). FormsAlike variables (constant_form a) (constant_form z)) h (constants_alike variables a)
operand_forms variables pairs names names' m (Name x) (Lit b) h = absurd h
operand_forms variables pairs names names' m (Lit a) (Name y) h = absurd h

homes_of_alike : (pairs : List Pair) (homes homes' : List Home) → HomesAlike pairs homes homes' → (v : ℕ) → OperandsAlike pairs (home_of homes v) (home_of homes' v)
homes_of_alike pairs [] [] h v = refl
homes_of_alike pairs (home ∷ homes) (home' ∷ homes') h v =
    by_variable (nat_eq home.variable v) (nat_eq home'.variable v) (ap (λ (x : ℕ). nat_eq x v) h.0) (homes_of_alike pairs homes homes' h.2 v)
  where
    by_variable : (b b' : Bool) → b ≡ b' → OperandsAlike pairs (home_of homes v) (home_of homes' v)
        → OperandsAlike pairs (if b then home.value else home_of homes v) (if b' then home'.value else home_of homes' v)
    by_variable true true e next = h.1
    by_variable false false e next = next
    by_variable true false e next = absurd (cc)
    by_variable false true e next = absurd (cc)
homes_of_alike pairs [] (home' ∷ homes') h v = absurd h
homes_of_alike pairs (home ∷ homes) [] h v = absurd h

stub_match : (variables pairs : List Pair) (names names' : Supply) (homes homes' : List Home) → NamesMatch variables pairs names names' → HomesAlike pairs homes homes'
    → StubBelow names.next homes → StubBelow names'.next homes' → HomesMatch variables pairs names names' (home_of homes) (home_of homes')
stub_match variables pairs names names' homes homes' m h b b' = record {
  home = homes_of_alike pairs homes homes' h;
  form = λ v. operand_forms variables pairs names names' m (home_of homes v) (home_of homes' v) (homes_of_alike pairs homes homes' h v);
  below = homes-below names.next homes b;
  others_below = homes-below names'.next homes' b';
}

-- ---- unwound

-- two trees that are alike, or none in both
abbrev pub BothMatch : Maps → List Pair → List Pair → Supply → Supply → Option Grafted → Option Grafted → Type 0
BothMatch maps variables pairs names names' (Some g) (Some g') = GraftsMatch maps variables pairs names names' g g'
BothMatch maps variables pairs names names' None None = Unit {0}
BothMatch maps variables pairs names names' _ _ = ⊥

tag_tests : (a b c d s s' : ℕ) → a + s ≡ b + s' → c + s ≡ d + s' → nat_eq a c ≡ nat_eq b d
tag_tests a b c d s s' p q = same_test (nat_eq a c) (nat_eq b d)
    (λ e. eq-eqb b d (let k = eqb-true a c e in omega (arith, p, q, k)))
    (λ e. eq-eqb a c (let k = eqb-true b d e in omega (arith, p, q, k)))

module _ (maps : Maps) (table : Table) (loop : Option ℕ) (least least' : ℕ) (leasts : TagsAlike maps least least') (names names' : Supply)
    (s : SuppliesAlike maps.variables names names') where
  item_both : (tag tag' origin : ℕ) {pairs : List Pair} {item item' : Item} → TagsAlike maps tag tag' → ItemsAlike pairs item item'
      → ItemBelow names.next item → ItemBelow names'.next item' → DestsAlike maps names.forms names'.forms (dest_of item) (dest_of item') → (r r' : Option Grafted)
      → BothMatch maps maps.variables (defined pairs (dest_of item) (dest_of item')) names names' r r'
      → BothMatch maps maps.variables pairs names names' (under_item tag origin item r) (under_item tag' origin item' r')
  item_both tag tag' origin tags items b b' dests (Some g) (Some g') m = record {
    more = m.more;
    grow = m.grow;
    trees = both_then tags items
        (dests_later maps names.forms names'.forms m.more g.names.forms g'.names.forms names.next names'.next
        (forms_later maps.variables m.more names names' g.names g'.names s m.grow) items b b' dests) m.trees;
  }
  item_both tag tag' origin tags items b b' dests None None m = tt
  item_both tag tag' origin tags items b b' dests (Some g) None m = absurd m
  item_both tag tag' origin tags items b b' dests None (Some g') m = absurd m

  test_both : (tag tag' origin : ℕ) (on on' : Operand) {pairs : List Pair} {one one' other other' : Tree} → TagsAlike maps tag tag' → OperandsAlike pairs on on'
      → TreeBelow names.next one → TreeBelow names'.next one' → TreeBelow names.next other → TreeBelow names'.next other'
      → TreesAlike maps names.forms names'.forms pairs one one' → TreesAlike maps names.forms names'.forms pairs other other' → (r r' q q' : Option Grafted)
      → BothMatch maps maps.variables pairs names names' r r' → BothMatch maps maps.variables pairs names names' q q'
      → BothMatch maps maps.variables pairs names names' (under_test tag origin on one other r q) (under_test tag' origin on' one' other' r' q')
  test_both tag tag' origin on on' tags test a a' b b' one other (Some g) (Some g') q q' m k = record {
    more = m.more;
    grow = m.grow;
    trees = both_either tags test m.trees
        (tree_later maps names.forms names'.forms m.more g.names.forms g'.names.forms names.next names'.next
        (forms_later maps.variables m.more names names' g.names g'.names s m.grow) b b' other);
  }
  test_both tag tag' origin on on' tags test a a' b b' one other None None (Some g) (Some g') m k = record {
    more = k.more;
    grow = k.grow;
    trees = both_either tags test
        (tree_later maps names.forms names'.forms k.more g.names.forms g'.names.forms names.next names'.next
        (forms_later maps.variables k.more names names' g.names g'.names s k.grow) a a' one) k.trees;
  }
  test_both tag tag' origin on on' tags test a a' b b' one other None None None None m k = tt
  test_both tag tag' origin on on' tags test a a' b b' one other None None (Some g) None m k = absurd k
  test_both tag tag' origin on on' tags test a a' b b' one other None None None (Some g') m k = absurd k
  test_both tag tag' origin on on' tags test a a' b b' one other (Some g) None q q' m k = absurd m
  test_both tag tag' origin on on' tags test a a' b b' one other None (Some g') q q' m k = absurd m

  stub_both : (pairs : List Pair) (region tag tag' : ℕ) (homes homes' : List Home) → TagsAlike maps tag tag' → HomesMatch maps.variables pairs names names' (home_of homes) (home_of homes')
      → (b b' : Bool) → b ≡ b'
      → BothMatch maps maps.variables pairs names names' (if b then Some (graft table loop tag (region_tree table region) names (home_of homes)) else None)
      (if b' then Some (graft table loop tag' (region_tree table region) names' (home_of homes')) else None)
  unfolding GraftsAlike
  stub_both pairs region tag tag' homes homes' tags h true true e =
      grafts_alike maps table loop tag tag' tags (region_tree table region) maps.variables pairs names names' (home_of homes) (home_of homes') s h
  stub_both pairs region tag tag' homes homes' tags h false false e = tt
  stub_both pairs region tag tag' homes homes' tags h true false e = absurd (cc)
  stub_both pairs region tag tag' homes homes' tags h false true e = absurd (cc)

  pub unwound_alike : {pairs : List Pair} {t u : Tree} → NamesMatch maps.variables pairs names names' → TreeBelow names.next t → TreeBelow names'.next u
      → TreesAlike maps names.forms names'.forms pairs t u
      → BothMatch maps maps.variables pairs names names' (unwound_at table loop least names t) (unwound_at table loop least' names' u)
  unwound_alike {pairs} n b b' (both_then {tag} {tag'} {origin} {item} {item'} {rest} {rest'} tags items dests below) =
      item_both tag tag' origin tags items b.0 b'.0 dests (unwound_at table loop least names rest) (unwound_at table loop least' names' rest')
      (unwound_alike (names_below maps pairs names names' items b.0 b'.0 dests n) b.1 b'.1 below)
  unwound_alike n b b' (both_either {tag} {tag'} {origin} {on} {on'} {on_yes} {on_yes'} {on_no} {on_no'} tags test yes_side no_side) =
      test_both tag tag' origin on on' tags test b.1 b'.1 b.2 b'.2 yes_side no_side
      (unwound_at table loop least names on_yes) (unwound_at table loop least' names' on_yes') (unwound_at table loop least names on_no) (unwound_at table loop least' names' on_no')
      (unwound_alike n b.1 b'.1 yes_side) (unwound_alike n b.2 b'.2 no_side)
  unwound_alike {pairs} n b b' (both_exit {region} {tag} {tag'} {homes} {homes'} tags h) =
      stub_both pairs region tag tag' homes homes' tags (stub_match maps.variables pairs names names' homes homes' n h b b')
      (is_inside table loop region && nat_eq tag least) (is_inside table loop region && nat_eq tag' least')
      (ap (λ (c : Bool). is_inside table loop region && c) (tag_tests tag tag' least least' maps.shift maps.other_shift tags leasts))
  unwound_alike n b b' both_stop = tt
  unwound_alike n b b' both_trap = tt
