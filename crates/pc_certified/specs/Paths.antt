-- One path of a row against one of a front: whether they store, print and read the same, and which facts hold after them.
use Rattle.std.specs.Prelude.{◌≡◌, ℕ, Bool, true, false, List, [], ◌∷◌, ◌++◌, Some}
use Rattle.std.specs.List.{AllByRecursion}
use Rattle.pc_word.specs.declared.item.Item.{Item}
use Rattle.pc_word.specs.declared.item.Item.TheVariants.{Copy, Store, Print, Read}
use Rattle.pc_word.specs.declared.item.Operand.{Operand}
use Rattle.pc_word.specs.declared.item.Operand.TheVariants.{Name, Lit}
use Rattle.pc_word.specs.Items.{dest_of}
use Rattle.pc_word.specs.Commit.{writes}
use Rattle.pc_certified.specs.Facts.{Fact, OperandsMatch, ItemsMatch}

-- ---- stores, prints and reads

-- whether an item does more than give its name a word: it stores, prints or reads
abbrev pub has_side_effect : Item → Bool
has_side_effect (Store array index value) = true
has_side_effect (Print value) = true
has_side_effect (Read dest) = true
has_side_effect _ = false

-- whether its place among others of its kind matters: it prints or reads
abbrev pub is_ordered : Item → Bool
is_ordered (Print value) = true
is_ordered (Read dest) = true
is_ordered _ = false

-- an item may be left above one that is matched: above a print or read no other print or read
abbrev pub MayPrecede : Item → Item → Type 0
MayPrecede item above = is_ordered item ≡ true → is_ordered above ≡ false

-- the stores, prints and reads of a row's path match those of a front's path one to one; stores in any order
pub data EffectsMatch (facts : List Fact) : List Item → List Item → Type 0 where
  all_matched : {others : List Item} → AllByRecursion (λ item. has_side_effect item ≡ false) others → EffectsMatch facts [] others
  passes : {item : Item} {items others : List Item} → has_side_effect item ≡ false → EffectsMatch facts items others → EffectsMatch facts (item ∷ items) others
  matches : {item other : Item} {items : List Item} (before after : List Item) → has_side_effect item ≡ true → AllByRecursion (MayPrecede item) before
      → ItemsMatch facts item other → EffectsMatch facts items (before ++ after) → EffectsMatch facts (item ∷ items) (before ++ (other ∷ after))

-- ---- facts after a path

-- the item of a path that writes a name: the first, and on a legal path the only one
pub data IsWriter (name : ℕ) (item : Item) : List Item → Type 0 where
  writes_here : {items : List Item} → dest_of item ≡ Some name → IsWriter name item (item ∷ items)
  writes_later : {first : Item} {items : List Item} → writes (dest_of first) name ≡ false → IsWriter name item items → IsWriter name item (first ∷ items)

-- no item of a path writes a name
abbrev pub NoneWrites : ℕ → List Item → Type 0
NoneWrites name items = AllByRecursion (λ item. writes (dest_of item) name ≡ false) items

-- no item of a path writes the name that an operand is, if it is one
abbrev pub IsUnchanged : Operand → List Item → Type 0
IsUnchanged (Name name) items = NoneWrites name items
IsUnchanged (Lit value) items = Unit {0}

-- the facts that hold after a row's path and a front's path: those of before whose source and operand are not written; what a Copy of the
-- row, or of the front, copies has its name's value; and destinations of items that match have one value
pub data FactAfter (facts : List Fact) (items others : List Item) : Fact → Type 0 where
  unchanged : {source operand : Operand} → OperandsMatch facts source operand
      → IsUnchanged source items → IsUnchanged operand others → FactAfter facts items others (record { source = source; operand = operand })
  copied_by_row : {register : ℕ} {from operand : Operand} → IsWriter register (Copy register from) items → OperandsMatch facts from operand
      → IsUnchanged operand others → FactAfter facts items others (record { source = Name register; operand = operand })
  copied_by_front : {name : ℕ} {source from : Operand} → IsWriter name (Copy name from) others → OperandsMatch facts source from
      → IsUnchanged source items → FactAfter facts items others (record { source = source; operand = Name name })
  computed : {register name : ℕ} {item other : Item} → IsWriter register item items → IsWriter name other others
      → ItemsMatch facts item other → FactAfter facts items others (record { source = Name register; operand = Name name })
