-- The rows of packed states keep the limits.
use Rattle.std.proofs.Common.{◌≡◌, ◌≢◌, ℕ, ◌<◌, ◌≤◌, List, [], ◌∷◌, ◌++◌, length, map, refl, sym, ◌∙◌, ap, subst, arith}
use Rattle.std.specs.Prelude.{Bool, true, false, cond, nat_eq}
use Rattle.std.specs.List.{AllByRecursion, IsDistinct, filter_map, count_by}
use Rattle.std.proofs.lemmas.List.{length-append, length-map, map-append}
use Rattle.pc_word.specs.declared.item.Item.{Item}
use Rattle.pc_word.specs.declared.item.Item.TheVariants.{Bin, Copy, Load, Store, Print, Read, More}
use Rattle.pc_word.specs.declared.item.Operand.{Operand}
use Rattle.pc_word.specs.declared.item.Operand.TheVariants.{Name, Lit}
use Rattle.pc_word.specs.declared.item.Limits.{Limits}
use Rattle.pc_word.specs.Items.{dest_of, is_effect, is_memory}
use Rattle.pc_word.specs.Row.{Row, Then, Either, At_leaf, items_of, tests_of, leaves_of, paths_of}
use Rattle.pc_word.proofs.Lists.{all_both, count_more}
use Rattle.pc_table.specs.Table.{Table}
use Rattle.pc_window.specs.Names.{named}
use Rattle.pc_window.specs.There.{ArrayIsThere}
use Rattle.pc_window.proofs.Uses.{nat_eq-tells}
use Rattle.pc_automaton.specs.declared.automaton.AutomatonLeaf.{AutomatonLeaf}
use Rattle.pc_automaton.specs.RowFits.{RowFits}
use Rattle.pc_machine.specs.declared.tree.Leaf.{Leaf}
use Rattle.pc_machine.specs.MachineCode.{CodeRow}
use Rattle.pc_machine.specs.WellFormed.{IsOperand, IsItem, IsLeaf, IsPath, IsRow}
use Rattle.pc_emit.specs.Emitted.{RowStands, item_stands, test_stands, leaf_stands}
use Rattle.pc_emit.proofs.Undisturbed.{IsUndisturbed, StaysUndisturbed}
use Rattle.pc_word.specs.Naming.{map_name, map_names}

module _ (of : ℕ → ℕ) where
  -- ---- items in registers are of their kinds

  abbrev moved : Item → Item
  moved item = map_names of item

  memory_same : (item : Item) → is_memory (moved item) ≡ is_memory item
  memory_same (Bin op dest left right) = refl
  memory_same (Copy dest from) = refl
  memory_same (Load dest array index) = refl
  memory_same (Store array index value) = refl
  memory_same (Print value) = refl
  memory_same (Read dest) = refl
  memory_same (More dest) = refl

  effect_same : (item : Item) → is_effect (moved item) ≡ is_effect item
  effect_same (Bin op dest left right) = refl
  effect_same (Copy dest from) = refl
  effect_same (Load dest array index) = refl
  effect_same (Store array index value) = refl
  effect_same (Print value) = refl
  effect_same (Read dest) = refl
  effect_same (More dest) = refl

  count_same : (p : Item → Bool) → ((item : Item) → p (moved item) ≡ p item) → (items : List Item) → count_by p (map moved items) ≡ count_by p items
  count_same p same [] = refl
  count_same p same (item ∷ items) =
      let one = count_more p (moved item) (map moved items) in
      let other = count_more p item items in
      let kind : cond (p (moved item)) 1 0 ≡ cond (p item) 1 0 = ap {B = ℕ} (λ (b : Bool). cond b 1 0) (same item) in
      let rest = count_same p same items in
      omega (arith, one, other, kind, rest)

  -- ---- a row in registers has the items, tests and paths of its row of names

  module _ {Related : AutomatonLeaf → Leaf → Type 0} where
    items_same : {row : Row AutomatonLeaf} {made : CodeRow} → RowStands Related of row made → items_of made ≡ map moved (items_of row)
    items_same (item_stands item h) = ap (λ (l : List Item). moved item ∷ l) (items_same h)
    items_same (test_stands on {on_yes} {on_no} {yes_below} {no_below} h k) =
        let both : List Item → List Item → List Item = λ xs ys. xs ++ ys in
        (λ i. both (items_same h i) (items_same k i)) ∙ sym (map-append moved (items_of on_yes) (items_of on_no))
    items_same (leaf_stands related) = refl

    tests_same : {row : Row AutomatonLeaf} {made : CodeRow} → RowStands Related of row made → length (tests_of made) ≡ length (tests_of row)
    tests_same (item_stands item h) = tests_same h
    tests_same (test_stands on {on_yes} {on_no} {yes_below} {no_below} h k) =
        let one = tests_same h in
        let other = tests_same k in
        let made = length-append (tests_of yes_below) (tests_of no_below) in
        let row = length-append (tests_of on_yes) (tests_of on_no) in
        omega (arith, one, other, made, row)
    tests_same (leaf_stands related) = refl

    tests_in : (P : Operand → Type 0) → ((on : Operand) → P (map_name of on)) → {row : Row AutomatonLeaf} {made : CodeRow} → RowStands Related of row made
        → AllByRecursion P (tests_of made)
    tests_in P each (item_stands item h) = tests_in P each h
    tests_in P each (test_stands on {yes_below} {no_below} h k) = (each on, all_both P (tests_of yes_below) (tests_of no_below) (tests_in P each h) (tests_in P each k))
    tests_in P each (leaf_stands related) = tt

    leaves_in : (P : Leaf → Type 0) → ((leaf : AutomatonLeaf) (below : Leaf) → Related leaf below → P below) → {row : Row AutomatonLeaf} {made : CodeRow}
        → RowStands Related of row made → AllByRecursion P (leaves_of made)
    leaves_in P each (item_stands item h) = leaves_in P each h
    leaves_in P each (test_stands on {yes_below} {no_below} h k) = all_both P (leaves_of yes_below) (leaves_of no_below) (leaves_in P each h) (leaves_in P each k)
    leaves_in P each (leaf_stands {leaf} {below} related) = (each leaf below related, tt)

    paths_same : {row : Row AutomatonLeaf} {made : CodeRow} → RowStands Related of row made → paths_of made ≡ map (λ path. map moved path) (paths_of row)
    paths_same (item_stands item {rest} h) = ap (λ (l : List (List Item)). map (λ path. moved item ∷ path) l) (paths_same h) ∙ behind (paths_of rest)
      where
        behind : (paths : List (List Item)) → map (λ path. moved item ∷ path) (map (λ path. map moved path) paths) ≡ map (λ path. map moved path) (map (λ path. item ∷ path) paths)
        behind [] = refl
        behind (path ∷ paths) = ap (λ (l : List (List Item)). (moved item ∷ map moved path) ∷ l) (behind paths)
    paths_same (test_stands on {on_yes} {on_no} {yes_below} {no_below} h k) =
        let both : List (List Item) → List (List Item) → List (List Item) = λ xs ys. xs ++ ys in
        (λ i. both (paths_same h i) (paths_same k i)) ∙ sym (map-append (λ path. map moved path) (paths_of on_yes) (paths_of on_no))
    paths_same (leaf_stands related) = refl

  -- ---- no path writes a register twice

  abbrev dests : List Item → List ℕ
  dests path = filter_map dest_of (map moved path)

  -- the registers that a path writes are others than those of some names, and differ
  record WritesApart (above : List ℕ) (path : List Item) : Type 0 where
    once : IsDistinct nat_eq (dests path)
    apart : AllByRecursion (λ dest. AllByRecursion (λ name. of name ≢ dest) above) (dests path)

  none_written : (above : List ℕ) → WritesApart above []
  unfolding IsDistinct
  none_written above = record { once = tt; apart = tt }

  no_test : (m n : ℕ) → m ≢ n → nat_eq m n ≡ false
  no_test m n other = by_test (nat_eq m n) refl
    where
      by_test : (b : Bool) → nat_eq m n ≡ b → b ≡ false
      by_test true e = absurd (other (nat_eq-tells m n e))
      by_test false e = refl

  -- one more name above
  without_first : (name : ℕ) (above dests : List ℕ) → AllByRecursion (λ dest. AllByRecursion (λ other. of other ≢ dest) (name ∷ above)) dests
      → AllByRecursion (λ dest. nat_eq (of name) dest ≡ false) dests × AllByRecursion (λ dest. AllByRecursion (λ other. of other ≢ dest) above) dests
  without_first name above [] all = (tt, tt)
  without_first name above (dest ∷ dests) all =
      let rest = without_first name above dests all.1 in
      ((no_test (of name) dest all.0.0, rest.0), (all.0.1, rest.1))

  one_written : (above : List ℕ) (dest : ℕ) (dests : List ℕ) → AllByRecursion (λ name. of name ≢ of dest) above → IsDistinct nat_eq dests
      → AllByRecursion (λ other. AllByRecursion (λ name. of name ≢ other) (dest ∷ above)) dests
      → IsDistinct nat_eq (of dest ∷ dests) × AllByRecursion (λ other. AllByRecursion (λ name. of name ≢ other) above) (of dest ∷ dests)
  unfolding IsDistinct
  one_written above dest dests defined once apart =
      let parts = without_first dest above dests apart in
      ((parts.0, once), (defined, parts.1))

  both : {above : List ℕ} {path : List Item} → IsDistinct nat_eq (dests path) × AllByRecursion (λ dest. AllByRecursion (λ name. of name ≢ dest) above) (dests path)
      → WritesApart above path
  both parts = record { once = parts.0; apart = parts.1 }

  item_writes : (parameters above : List ℕ) (rest : Row AutomatonLeaf) (item : Item) (path : List Item) → IsUndisturbed of parameters above rest (dest_of item)
      → WritesApart (named (dest_of item) above) path → WritesApart above (item ∷ path)
  item_writes parameters above rest (Bin op dest left right) path is writes = both (one_written above dest (dests path) is.defined writes.once writes.apart)
  item_writes parameters above rest (Copy dest from) path is writes = both (one_written above dest (dests path) is.defined writes.once writes.apart)
  item_writes parameters above rest (Load dest array index) path is writes = both (one_written above dest (dests path) is.defined writes.once writes.apart)
  item_writes parameters above rest (Store array index value) path is writes = record { once = writes.once; apart = writes.apart }
  item_writes parameters above rest (Print value) path is writes = record { once = writes.once; apart = writes.apart }
  item_writes parameters above rest (Read dest) path is writes = both (one_written above dest (dests path) is.defined writes.once writes.apart)
  item_writes parameters above rest (More dest) path is writes = both (one_written above dest (dests path) is.defined writes.once writes.apart)

  paths_write : (parameters above : List ℕ) (row : Row AutomatonLeaf) → StaysUndisturbed of parameters above row → AllByRecursion (WritesApart above) (paths_of row)
  paths_write parameters above (Then item rest) apart = each (paths_of rest) (paths_write parameters (named (dest_of item) above) rest apart.1)
    where
      each : (paths : List (List Item)) → AllByRecursion (WritesApart (named (dest_of item) above)) paths → AllByRecursion (WritesApart above) (map (λ path. item ∷ path) paths)
      each [] all = tt
      each (path ∷ paths) all = (item_writes parameters above rest item path apart.0 all.0, each paths all.1)
  paths_write parameters above (Either on p q) apart =
      all_both (WritesApart above) (paths_of p) (paths_of q) (paths_write parameters above p apart.0) (paths_write parameters above q apart.1)
  paths_write parameters above (At_leaf leaf) apart = (none_written above, tt)

  paths_fit : (paths : List (List Item)) → AllByRecursion (WritesApart []) paths → AllByRecursion (λ path. count_by is_effect path ≤ 1) paths
      → AllByRecursion IsPath (map (λ path. map moved path) paths)
  paths_fit [] writes effects = tt
  paths_fit (path ∷ paths) writes effects = (
    record { writes_once = writes.0.once; one_effect = let same = count_same is_effect effect_same path in let one = effects.0 in omega (arith, same, one) },
    paths_fit paths writes.1 effects.1,
  )

  -- ---- the row of a state

  module _ (registers : ℕ) (below : (name : ℕ) → of name < registers) where
    operand_fits : (operand : Operand) → IsOperand registers (map_name of operand)
    operand_fits (Name name) = below name
    operand_fits (Lit value) = tt

    dest_fits : (dest : ℕ) → of dest < registers
    dest_fits dest = below dest

    item_fits : (table : Table) (item : Item) → ArrayIsThere table item → IsItem registers (length table.arrays) (moved item)
    item_fits table (Bin op dest left right) there = (dest_fits dest, operand_fits left, operand_fits right)
    item_fits table (Copy dest from) there = (dest_fits dest, operand_fits from)
    item_fits table (Load dest array index) there = (dest_fits dest, there, operand_fits index)
    item_fits table (Store array index value) there = (there, operand_fits index, operand_fits value)
    item_fits table (Print value) there = operand_fits value
    item_fits table (Read dest) there = dest_fits dest
    item_fits table (More dest) there = dest_fits dest

    items_fit : (table : Table) (items : List Item) → AllByRecursion (ArrayIsThere table) items → AllByRecursion (IsItem registers (length table.arrays)) (map moved items)
    items_fit table [] there = tt
    items_fit table (item ∷ items) there = (item_fits table item there.0, items_fit table items there.1)

    -- a row that stands keeps the limits that its row of names keeps
    pub state_fits : {Related : AutomatonLeaf → Leaf → Type 0} (limits : Limits) (table : Table) (rows : ℕ) (parameters : List ℕ) (row : Row AutomatonLeaf) (made : CodeRow)
        → RowStands Related of row made → RowFits limits row → AllByRecursion (ArrayIsThere table) (items_of row) → StaysUndisturbed of parameters [] row
        → ((leaf : AutomatonLeaf) (below : Leaf) → Related leaf below → IsLeaf rows below) → IsRow limits registers (length table.arrays) rows made
    state_fits limits table rows parameters row made stands fits there apart leads =
        let same = items_same stands in record {
          ops =
              let many = ap (λ (l : List Item). length l) same in
              let kept = length-map (items_of row) moved in
              let few = fits.items in
              omega (arith, many, kept, few);
          tests = let many = tests_same stands in let few = fits.tests in omega (arith, many, few);
          mem =
              let many = ap (count_by is_memory) same in
              let kept = count_same is_memory memory_same (items_of row) in
              let few = fits.memory in
              omega (arith, many, kept, few);
          items = subst (AllByRecursion (IsItem registers (length table.arrays))) (sym same) (items_fit table (items_of row) there);
          operands = tests_in (IsOperand registers) operand_fits stands;
          leaves = leaves_in (IsLeaf rows) leads stands;
          paths = subst (AllByRecursion IsPath) (sym (paths_same stands)) (paths_fit (paths_of row) (paths_write parameters [] row apart) fits.one_effect);
        }
