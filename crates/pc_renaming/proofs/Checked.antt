-- What is found to do the same does the same.
use Rattle.std.proofs.Common.{◌≡◌, ℕ, zero, suc, ◌+◌, ◌<◌, ◌≤◌, map, arith, Bool, true, false, nat_eq, List, [], ◌∷◌, length, Option, Some, None, refl, sym, ◌∙◌, ap, subst}
use Rattle.std.specs.Prelude.{ℤ, ◌↔◌, slice_get}
use Rattle.pc_word.specs.declared.item.Item.{Item}
use Rattle.pc_word.specs.declared.item.Item.TheVariants.{Bin, Copy, Load, Store, Print, Read, More}
use Rattle.pc_word.specs.declared.item.OpCode.{OpCode}
use Rattle.pc_word.specs.declared.item.Operand.{Operand}
use Rattle.pc_word.specs.declared.item.Operand.TheVariants.{Name, Lit}
use Rattle.pc_word.specs.declared.item.TrapKind.{TrapKind}
use Rattle.pc_word.specs.declared.row_tree.RowTree.{RowTree}
use Rattle.pc_word.specs.Items.{dest_of}
use Rattle.pc_word.specs.Row.{Then, Either, At_leaf}
use Rattle.std.proofs.lemmas.Bool.Decides.{nat_tests}
use Rattle.pc_word.proofs.Places.{same_number, map_at, map_length}
use Rattle.pc_machine.specs.declared.tree.Leaf.{Leaf}
use Rattle.pc_machine.specs.declared.tree.Leaf.TheVariants.{Goto, Stop, Trap}
use Rattle.pc_machine.specs.MachineCode.{CodeRow, row_of, rows_of}
use Rattle.pc_renaming.specs.declared.kept.Kept.{Kept}
use Rattle.pc_renaming.specs.declared.kept.Kept.TheVariants.{Before, Was, Made, Lost}
use Rattle.pc_renaming.specs.declared.witness.RowWitness.{RowWitness}
use Rattle.pc_renaming.specs.Renaming.{Renaming, all_before, none_written, with_kept, with_written, StandsIn}
use Rattle.pc_renaming.specs.Witness.{home_of, origin_in, holds_in, renaming_of}
use Rattle.pc_renaming.specs.ItemRenames.{OperandRenames, Same_value, Same_literal, ItemRenames, Same_bin, Same_copy, Same_load, Same_store, Same_print, Same_read, Same_more, only_gives}
use Rattle.pc_renaming.specs.RowRenames.{ItemGoes, Unneeded, Copied, ItemStays, Writes_none, Writes_one, LeafRenames, Ends, Leads, RowRenames, Without, With, Both_sides, At_end}
use Rattle.pc_renaming.specs.IsRenamed.{DoesItsOrigin, AreRenamed}
use Rattle.pc_renaming.specs.models.Wanted.{NeverBoth, MadeIsWritten}
use Rattle.pc_renaming.proofs.Choices.{one_dest}

module _ (registers : ℕ) (home : ℕ → Option ℕ) where
  pub same_value : (register place : ℕ) → home register ≡ Some place → place < registers → OperandRenames registers home (Name register) (Name place)
  same_value register place at below = Same_value at below

  pub same_literal : (value : ℤ) → OperandRenames registers home (Lit value) (Lit value)
  same_literal value = Same_literal

  pub same_bin : (op : OpCode) (dest made : ℕ) (left right one other : Operand) → OperandRenames registers home left one
      → OperandRenames registers home right other → ItemRenames registers home (Bin op dest left right) (Bin op made one other)
  same_bin op dest made left right one other l r = Same_bin l r

  pub same_copy : (dest made : ℕ) (from one : Operand) → OperandRenames registers home from one → ItemRenames registers home (Copy dest from) (Copy made one)
  same_copy dest made from one f = Same_copy f

  pub same_load : (dest made array : ℕ) (index one : Operand) → OperandRenames registers home index one → ItemRenames registers home (Load dest array index) (Load made array one)
  same_load dest made array index one i = Same_load i

  pub same_store : (array : ℕ) (index value one other : Operand) → OperandRenames registers home index one → OperandRenames registers home value other
      → ItemRenames registers home (Store array index value) (Store array one other)
  same_store array index value one other i v = Same_store i v

  pub same_print : (value one : Operand) → OperandRenames registers home value one → ItemRenames registers home (Print value) (Print one)
  same_print value one v = Same_print v

  pub same_read : (dest made : ℕ) → ItemRenames registers home (Read dest) (Read made)
  same_read dest made = Same_read

  pub same_more : (dest made : ℕ) → ItemRenames registers home (More dest) (More made)
  same_more dest made = Same_more

  pub value_parts : (register place : ℕ) → OperandRenames registers home (Name register) (Name place) → (home register ≡ Some place) × (place < registers)
  value_parts register place (Same_value at below) = (at, below)

  pub literal_same : (value other : ℤ) → OperandRenames registers home (Lit value) (Lit other) → value ≡ other
  literal_same value other Same_literal = refl

  pub no_literal : (register : ℕ) (value : ℤ) → OperandRenames registers home (Name register) (Lit value) → ⊥
  no_literal register value same = elim same [ ]

  pub no_value : (value : ℤ) (place : ℕ) → OperandRenames registers home (Lit value) (Name place) → ⊥
  no_value value place same = elim same [ ]

  pub bin_parts : (op another : OpCode) (dest made : ℕ) (left right one other : Operand) → ItemRenames registers home (Bin op dest left right) (Bin another made one other)
      → (op ≡ another) × OperandRenames registers home left one × OperandRenames registers home right other
  bin_parts op another dest made left right one other (Same_bin l r) = (refl, l, r)

  pub copy_parts : (dest made : ℕ) (from one : Operand) → ItemRenames registers home (Copy dest from) (Copy made one) → OperandRenames registers home from one
  copy_parts dest made from one (Same_copy f) = f

  pub load_parts : (dest made array another : ℕ) (index one : Operand) → ItemRenames registers home (Load dest array index) (Load made another one)
      → (array ≡ another) × OperandRenames registers home index one
  load_parts dest made array another index one (Same_load i) = (refl, i)

  pub store_parts : (array another : ℕ) (index value one other : Operand) → ItemRenames registers home (Store array index value) (Store another one other)
      → (array ≡ another) × OperandRenames registers home index one × OperandRenames registers home value other
  store_parts array another index value one other (Same_store i v) = (refl, i, v)

  pub print_parts : (value one : Operand) → ItemRenames registers home (Print value) (Print one) → OperandRenames registers home value one
  print_parts value one (Same_print v) = v

  pub bin_only : (op : OpCode) (dest : ℕ) (left right : Operand) (y : Item) → ItemRenames registers home (Bin op dest left right) y
      → ((another : OpCode) (made : ℕ) (one other : Operand) → y ≡ Bin another made one other → ⊥) → ⊥
  bin_only op dest left right y (Same_bin {made = made} {one = one} {other = other} l r) none = none op made one other refl

  pub copy_only : (dest : ℕ) (from : Operand) (y : Item) → ItemRenames registers home (Copy dest from) y → ((made : ℕ) (one : Operand) → y ≡ Copy made one → ⊥) → ⊥
  copy_only dest from y (Same_copy {made = made} {one = one} f) none = none made one refl

  pub load_only : (dest array : ℕ) (index : Operand) (y : Item) → ItemRenames registers home (Load dest array index) y
      → ((made another : ℕ) (one : Operand) → y ≡ Load made another one → ⊥) → ⊥
  load_only dest array index y (Same_load {made = made} {one = one} i) none = none made array one refl

  pub store_only : (array : ℕ) (index value : Operand) (y : Item) → ItemRenames registers home (Store array index value) y
      → ((another : ℕ) (one other : Operand) → y ≡ Store another one other → ⊥) → ⊥
  store_only array index value y (Same_store {one = one} {other = other} i v) none = none array one other refl

  pub print_only : (value : Operand) (y : Item) → ItemRenames registers home (Print value) y → ((one : Operand) → y ≡ Print one → ⊥) → ⊥
  print_only value y (Same_print {one = one} v) none = none one refl

  pub read_only : (dest : ℕ) (y : Item) → ItemRenames registers home (Read dest) y → ((made : ℕ) → y ≡ Read made → ⊥) → ⊥
  read_only dest y (Same_read {made = made}) none = none made refl

  pub more_only : (dest : ℕ) (y : Item) → ItemRenames registers home (More dest) y → ((made : ℕ) → y ≡ More made → ⊥) → ⊥
  more_only dest y (Same_more {made = made}) none = none made refl

-- ---- items

module _ (home : ℕ → Option ℕ) (kept then_kept : ℕ → Kept) where
  pub goes_unneeded : (item : Item) (dest : ℕ) → dest_of item ≡ Some dest → only_gives item ≡ true → then_kept ≡ with_kept dest Lost kept → ItemGoes home kept item then_kept
  goes_unneeded item dest is only then_is = Unneeded is only then_is

  pub goes_copied : (dest from place : ℕ) → kept dest ≡ Before → home from ≡ Some place → then_kept ≡ with_kept dest (Was place) kept
      → ItemGoes home kept (Copy dest (Name from)) then_kept
  goes_copied dest from place before at then_is = Copied before at then_is

  module _ (registers : ℕ) (written then_written : ℕ → Bool) (item other : Item) (same : ItemRenames registers home item other) where
    pub stays_none : dest_of item ≡ None → then_kept ≡ kept → then_written ≡ written → ItemStays registers home kept written item other then_kept then_written
    stays_none none kept_is written_is = Writes_none same none kept_is written_is

    pub stays_one : (dest made : ℕ) → dest_of item ≡ Some dest → dest_of other ≡ Some made → kept dest ≡ Before → made < registers → written made ≡ false
        → then_kept ≡ with_kept dest (Made made) kept → then_written ≡ with_written made written
        → ItemStays registers home kept written item other then_kept then_written
    stays_one dest made is other_is before below free kept_is written_is = Writes_one same is other_is before below free kept_is written_is

-- what an item writes that stays, and where it could
record OneWritten (registers : ℕ) (kept : ℕ → Kept) (written : ℕ → Bool) (other : Item) (dest : ℕ) : Type 0 where
  made : ℕ
  is : dest_of other ≡ Some made
  before : kept dest ≡ Before
  below : made < registers
  free : written made ≡ false

-- of items that stay, what is known of them
module _ {home : ℕ → Option ℕ} {kept then_kept : ℕ → Kept} {registers : ℕ} {written then_written : ℕ → Bool} {item other : Item} where
  stays_same : ItemStays registers home kept written item other then_kept then_written → ItemRenames registers home item other
  stays_same (Writes_none same none kept_is written_is) = same
  stays_same (Writes_one same is other_is before below free kept_is written_is) = same

  stays_parts : ItemStays registers home kept written item other then_kept then_written → (dest : ℕ) → dest_of item ≡ Some dest
      → OneWritten registers kept written other dest
  stays_parts (Writes_none same none kept_is written_is) dest is = let clash = sym none ∙ is in absurd (cc)
  stays_parts (Writes_one {made = made} same at other_is before below free kept_is written_is) dest is =
      record { made = made; is = other_is; before = subst (λ d. kept d ≡ Before) (one_dest (sym at ∙ is)) before; below = below; free = free }

module _ (home : ℕ → Option ℕ) (kept : ℕ → Kept) (registers : ℕ) (written : ℕ → Bool) (item other : Item) where
  pub never_same : (ItemRenames registers home item other → ⊥) → NeverBoth registers home kept written item other
  never_same never then_kept then_written stays = never (stays_same stays)

  pub never_written : (dest : ℕ) → dest_of item ≡ Some dest → dest_of other ≡ None → NeverBoth registers home kept written item other
  never_written dest is none then_kept then_written stays = let parts = stays_parts stays dest is in let clash = sym none ∙ parts.is in absurd (cc)

  pub never_beyond : (dest made : ℕ) → dest_of item ≡ Some dest → dest_of other ≡ Some made → registers ≤ made → NeverBoth registers home kept written item other
  never_beyond dest made is other_is beyond then_kept then_written stays =
      let parts = stays_parts stays dest is in
      let same : parts.made ≡ made = one_dest (sym parts.is ∙ other_is) in
      let below : parts.made < registers = parts.below in
      absurd (omega (arith, same, below, beyond))

  pub never_twice : (dest made : ℕ) → dest_of item ≡ Some dest → dest_of other ≡ Some made → written made ≡ true → NeverBoth registers home kept written item other
  never_twice dest made is other_is twice then_kept then_written stays =
      let parts = stays_parts stays dest is in
      let free : written made ≡ false = subst (λ p. written p ≡ false) (one_dest (sym parts.is ∙ other_is)) parts.free in
      absurd (cc)

  pub never_again : (dest : ℕ) → dest_of item ≡ Some dest → (kept dest ≡ Before → ⊥) → NeverBoth registers home kept written item other
  never_again dest is never then_kept then_written stays = let parts = stays_parts stays dest is in never parts.before

-- ---- leaves and rows

-- what a row that is led to is to find, is found
found_there : {rows : ℕ} {renaming : Renaming} {home : ℕ → Option ℕ} {kept : ℕ → Kept} {written : ℕ → Bool} (target to : ℕ)
    → LeafRenames rows renaming home kept written (Goto target) (Goto to)
    → (register place : ℕ) → renaming.holds to register ≡ Some place → StandsIn home written register place (kept register)
found_there target to (Ends none) register place there = absurd (cc)
found_there target to (Leads below is found) register place there = found register place there

module _ (told : List RowWitness) (home : ℕ → Option ℕ) (kept : ℕ → Kept) (written : ℕ → Bool) where
  pub leads : (target to : ℕ) (row : RowWitness) (b : Bool) → slice_get told to ≡ Some row → to < length told → row.origin ≡ target
      → (b ≡ true) ↔ ((register place : ℕ) → home_of row.held register ≡ Some place → StandsIn home written register place (kept register))
      → (b ≡ true) ↔ LeafRenames (length told) (renaming_of told) home kept written (Goto target) (Goto to)
  leads target to row b at below is each = (
    λ found. Leads below (ap origin_in at ∙ is) (λ register place there. each.0 found register place (ap (λ (o : Option RowWitness). holds_in o register) (sym at) ∙ there)),
    λ both. each.1 (λ register place there. found_there target to both register place (ap (λ (o : Option RowWitness). holds_in o register) at ∙ there)),
  )

  pub ends_stop : LeafRenames (length told) (renaming_of told) home kept written Stop Stop
  ends_stop = Ends refl

  pub ends_trap : (kind : TrapKind) (line : ℕ) → LeafRenames (length told) (renaming_of told) home kept written (Trap kind line) (Trap kind line)
  ends_trap kind line = Ends refl

  module _ (registers : ℕ) where
    pub row_at_end : (old new : RowTree Leaf) (leaf other : Leaf) → row_of old ≡ At_leaf leaf → row_of new ≡ At_leaf other
        → LeafRenames (length told) (renaming_of told) home kept written leaf other
        → RowRenames registers (length told) (renaming_of told) home kept written (row_of old) (row_of new)
    row_at_end old new leaf other is other_is both = rw (is, other_is) (At_end both)

    pub row_both_sides : (old new old_yes old_no new_yes new_no : RowTree Leaf) (on one : Operand)
        → row_of old ≡ Either on (row_of old_yes) (row_of old_no) → row_of new ≡ Either one (row_of new_yes) (row_of new_no)
        → OperandRenames registers home on one
        → RowRenames registers (length told) (renaming_of told) home kept written (row_of old_yes) (row_of new_yes)
        → RowRenames registers (length told) (renaming_of told) home kept written (row_of old_no) (row_of new_no)
        → RowRenames registers (length told) (renaming_of told) home kept written (row_of old) (row_of new)
    row_both_sides old new old_yes old_no new_yes new_no on one is other_is same on_yes on_no = rw (is, other_is) (Both_sides same on_yes on_no)

    pub row_with : (old new next rest : RowTree Leaf) (item other : Item) (then_kept : ℕ → Kept) (then_written : ℕ → Bool)
        → row_of old ≡ Then item (row_of next) → row_of new ≡ Then other (row_of rest)
        → ItemStays registers home kept written item other then_kept then_written
        → RowRenames registers (length told) (renaming_of told) home then_kept then_written (row_of next) (row_of rest)
        → RowRenames registers (length told) (renaming_of told) home kept written (row_of old) (row_of new)
    row_with old new next rest item other then_kept then_written is other_is stays both = rw (is, other_is) (With stays both)

    pub row_without : (old new next : RowTree Leaf) (item : Item) (then_kept : ℕ → Kept) (then_written : ℕ → Bool)
        → row_of old ≡ Then item (row_of next) → ItemGoes home kept item then_kept → then_written ≡ written
        → RowRenames registers (length told) (renaming_of told) home then_kept then_written (row_of next) (row_of new)
        → RowRenames registers (length told) (renaming_of told) home kept written (row_of old) (row_of new)
    row_without old new next item then_kept then_written is goes written_is both =
        rw is (Without goes (subst (λ (w : ℕ → Bool). RowRenames registers (length told) (renaming_of told) home then_kept w (row_of next) (row_of new)) written_is both))

-- a row that is told to do a row that is there, and does it
pub does_origin : (told : List RowWitness) (before : List (RowTree Leaf)) (registers number : ℕ) (here : RowWitness) (old new : RowTree Leaf)
    (home : ℕ → Option ℕ) (kept : ℕ → Kept) (written : ℕ → Bool)
    → slice_get told number ≡ Some here → slice_get before here.origin ≡ Some old
    → home ≡ home_of here.held → kept ≡ all_before → written ≡ none_written
    → RowRenames registers (length told) (renaming_of told) home kept written (row_of old) (row_of new)
    → DoesItsOrigin registers (renaming_of told) (rows_of before) (length told) number (row_of new)
does_origin told before registers number here old new home kept written at there home_is kept_is written_is does = (
  row_of old,
  ap (λ (o : Option RowWitness). slice_get (rows_of before) (origin_in o)) at ∙ map_at row_of before here.origin old there,
  subst (λ (h : ℕ → Option ℕ). RowRenames registers (length told) (renaming_of told) h all_before none_written (row_of old) (row_of new))
      (home_is ∙ ap holds_in (sym at))
      (subst (λ (k : ℕ → Kept). RowRenames registers (length told) (renaming_of told) home k none_written (row_of old) (row_of new)) kept_is
      (subst (λ (w : ℕ → Bool). RowRenames registers (length told) (renaming_of told) home kept w (row_of old) (row_of new)) written_is does)),
)

-- and where it is told to do a row that is there, it does that one
pub origin_does : (told : List RowWitness) (before : List (RowTree Leaf)) (registers number : ℕ) (here : RowWitness) (old new : RowTree Leaf)
    (home : ℕ → Option ℕ) (kept : ℕ → Kept) (written : ℕ → Bool)
    → slice_get told number ≡ Some here → slice_get before here.origin ≡ Some old
    → home ≡ home_of here.held → kept ≡ all_before → written ≡ none_written
    → DoesItsOrigin registers (renaming_of told) (rows_of before) (length told) number (row_of new)
    → RowRenames registers (length told) (renaming_of told) home kept written (row_of old) (row_of new)
origin_does told before registers number here old new home kept written at there home_is kept_is written_is does =
    subst (λ (h : ℕ → Option ℕ). RowRenames registers (length told) (renaming_of told) h kept written (row_of old) (row_of new)) (ap holds_in at ∙ sym home_is)
    (subst (λ (k : ℕ → Kept). RowRenames registers (length told) (renaming_of told) (holds_in (slice_get told number)) k written (row_of old) (row_of new)) (sym kept_is)
    (subst (λ (w : ℕ → Bool). RowRenames registers (length told) (renaming_of told) (holds_in (slice_get told number)) all_before w (row_of old) (row_of new)) (sym written_is)
    (subst (λ (r : CodeRow). RowRenames registers (length told) (renaming_of told) (holds_in (slice_get told number)) all_before none_written r (row_of new)) same does.2)))
  where
    some_row : {r s : CodeRow} → ◌≡◌ {A = Option CodeRow} (Some r) (Some s) → r ≡ s
    some_row e = (cc)

    same : does.0 ≡ row_of old
    same = some_row (sym does.1 ∙ ap (λ (o : Option RowWitness). slice_get (rows_of before) (origin_in o)) at ∙ map_at row_of before here.origin old there)

-- no value was made before a row
pub none_made : (kept : ℕ → Kept) (written : ℕ → Bool) → kept ≡ all_before → MadeIsWritten kept written
none_made kept written is register place made = let clash = sym (ap (λ (k : ℕ → Kept). k register) is) ∙ made in absurd (cc)

-- what is there lies in the list
pub slice_get_below : {X : Type 0} (xs : List X) (i : ℕ) (x : X) → slice_get xs i ≡ Some x → i < length xs
slice_get_below [] i x is = absurd (cc)
slice_get_below (y ∷ xs) zero x is = omega arith
slice_get_below (y ∷ xs) (suc i) x is = let below = slice_get_below xs i x is in omega arith

-- an element of a mapped list is what an element of the list is mapped to
unmapped : {X Y : Type 0} (f : X → Y) (xs : List X) (i : ℕ) (y : Y) → slice_get (map f xs) i ≡ Some y → (x : X) × (slice_get xs i ≡ Some x) × (f x ≡ y)
unmapped f [] i y is = absurd (cc)
unmapped f (x ∷ xs) zero y is = let same : f x ≡ y = (cc) in (x, refl, same)
unmapped f (x ∷ xs) (suc i) y is = unmapped f xs i y is

-- where each row that is there does its origin, the rows do the others
pub are_renamed : (told : List RowWitness) (before after : List (RowTree Leaf)) (registers number : ℕ) → 1 ≤ length after → length told ≡ length after
    → origin_in (slice_get told 0) ≡ 0 → length after ≤ number
    → ((k : ℕ) (tree : RowTree Leaf) → k < number → slice_get after k ≡ Some tree → DoesItsOrigin registers (renaming_of told) (rows_of before) (length told) k (row_of tree))
    → AreRenamed registers (renaming_of told) (rows_of before) (rows_of after)
are_renamed told before after registers number some as_many first all each = record {
  entry = let long = map_length row_of after in omega arith;
  first = first;
  each = λ k row at.
      let found = unmapped row_of after k row at in
      let below : k < length after = slice_get_below after k found.0 found.1 in
      let does = each k found.0 (omega arith) found.1 in
      subst (λ (r : CodeRow). DoesItsOrigin registers (renaming_of told) (rows_of before) (length (rows_of after)) k r) found.2
      (subst (λ n. DoesItsOrigin registers (renaming_of told) (rows_of before) n k (row_of found.0)) (as_many ∙ sym (map_length row_of after)) does);
}

-- one row more that does its origin
pub row_more : (told : List RowWitness) (before after : List (RowTree Leaf)) (registers number : ℕ) (new : RowTree Leaf) → slice_get after number ≡ Some new
    → ((k : ℕ) (tree : RowTree Leaf) → k < number → slice_get after k ≡ Some tree → DoesItsOrigin registers (renaming_of told) (rows_of before) (length told) k (row_of tree))
    → DoesItsOrigin registers (renaming_of told) (rows_of before) (length told) number (row_of new)
    → (k : ℕ) (tree : RowTree Leaf) → k < number + 1 → slice_get after k ≡ Some tree → DoesItsOrigin registers (renaming_of told) (rows_of before) (length told) k (row_of tree)
row_more told before after registers number new at so_far does k tree below is =
    elim (nat_eq k number) as (λ b. nat_eq k number ≡ b → DoesItsOrigin registers (renaming_of told) (rows_of before) (length told) k (row_of tree)) [
      | true ↦ λ e.
          let same : k ≡ number = same_number k number e in
          let tree_is : new ≡ tree = some_tree (sym at ∙ ap (λ n. slice_get after n) (sym same) ∙ is) in
          subst (λ n. DoesItsOrigin registers (renaming_of told) (rows_of before) (length told) n (row_of tree)) (sym same)
          (subst (λ (t : RowTree Leaf). DoesItsOrigin registers (renaming_of told) (rows_of before) (length told) number (row_of t)) tree_is does)
      | false ↦ λ e. so_far k tree (grind (arith, nat_tests)) is
    ] refl
  where
    some_tree : {r s : RowTree Leaf} → ◌≡◌ {A = Option (RowTree Leaf)} (Some r) (Some s) → r ≡ s
    some_tree e = (cc)

-- each row that is there does its origin
pub row_of_renamed : (told : List RowWitness) (before after : List (RowTree Leaf)) (registers number : ℕ) (new : RowTree Leaf) → length told ≡ length after
    → slice_get after number ≡ Some new → AreRenamed registers (renaming_of told) (rows_of before) (rows_of after)
    → DoesItsOrigin registers (renaming_of told) (rows_of before) (length told) number (row_of new)
row_of_renamed told before after registers number new as_many at renamed =
    subst (λ n. DoesItsOrigin registers (renaming_of told) (rows_of before) n number (row_of new)) (map_length row_of after ∙ sym as_many)
    (renamed.each number (row_of new) (map_at row_of after number new at))

pub ruleset operand_laws = (same_value, same_literal, value_parts, literal_same, no_literal, no_value)

pub ruleset item_laws = (
  same_bin,
  same_copy,
  same_load,
  same_store,
  same_print,
  same_read,
  same_more,
  bin_parts,
  copy_parts,
  load_parts,
  store_parts,
  print_parts,
  bin_only,
  copy_only,
  load_only,
  store_only,
  print_only,
  read_only,
  more_only,
)

pub ruleset goes_laws = (goes_unneeded, goes_copied)

pub ruleset stays_laws = (stays_none, stays_one, never_same, never_written, never_beyond, never_twice, never_again)

pub ruleset leaf_laws = (leads, ends_stop, ends_trap)

pub ruleset row_laws = (row_at_end, row_both_sides, row_with, row_without)

pub ruleset origin_laws = (does_origin)
