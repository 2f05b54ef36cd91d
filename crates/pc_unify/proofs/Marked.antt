-- Marks of names.
use Rattle.std.proofs.Common.{◌≡◌, ◌≢◌, ◌⊎◌, inl, inr, ℕ, zero, suc, ◌+◌, ◌<◌, List, [], ◌∷◌, Option, Some, None, length, refl, sym, ◌∙◌, ap, subst, arith}
use Rattle.std.specs.Prelude.{Bool, true, false, not, ◌||◌, ◌&&◌, nat_eq, slice_set, slice_index_or, take}
use Rattle.std.specs.List.{list_any}
use Rattle.std.proofs.lemmas.List.{length-set, get_or-set_same, get_or-set_other}
use Rattle.std.proofs.lemmas.Bool.Decides.{eqb_tells}
use Rattle.pc_word.specs.declared.item.Item.{Item}
use Rattle.pc_word.specs.declared.item.Operand.{Operand}
use Rattle.pc_word.specs.declared.item.Operands.{Operands}
use Rattle.pc_word.specs.declared.item.Operands.TheVariants as listed
use Rattle.pc_word.specs.Items.{operands_of, operand_list, dest_of, reads, reads_name}
use Rattle.pc_word.proofs.Items.{reads_operands}
use Rattle.pc_word.specs.Commit.{writes}
use Rattle.pc_window.specs.declared.home.Home.{Home}
use Rattle.pc_window.specs.Names.{homes_use}
use Rattle.pc_window.specs.Opening.{OperandBelow, OperandsBelow, ItemBelow, StubBelow}
use Rattle.pc_window.proofs.Walked.{dest_below, operands_below}
use Rattle.pc_unify.specs.models.Marks.{is_marked, Marks, PassesItem}

-- ---- or

right_false : (a : Bool) → a ≡ (a || false)
right_false true = refl
right_false false = refl

right_true : (a : Bool) → true ≡ (a || true)
right_true true = refl
right_true false = refl

joined : (a b c : Bool) → ((a || b) || c) ≡ (a || (b || c))
joined true b c = refl
joined false b c = refl

exchanged : (a b : Bool) → (a || b) ≡ (b || a)
exchanged true true = refl
exchanged true false = refl
exchanged false true = refl
exchanged false false = refl

-- ---- what is marked

-- nothing more is marked
pub none_more : (marks : List Bool) (more : ℕ → Bool) → ((name : ℕ) → more name ≡ false) → Marks marks marks more
none_more marks more none =
    record { as_many = refl; marked = λ name. right_false (is_marked marks name) ∙ ap (λ (b : Bool). is_marked marks name || b) (sym (none name)) }

-- a mark in a list that was set
set_at : (marks : List Bool) (name other : ℕ) (value : Bool) → name < length marks
    → ((nat_eq name other ≡ true) × (is_marked (slice_set marks name value) other ≡ value))
    ⊎ ((nat_eq name other ≡ false) × (is_marked (slice_set marks name value) other ≡ is_marked marks other))
set_at marks name other value there = by (eqb_tells name other)
  where
    by : ((nat_eq name other ≡ true) × (name ≡ other)) ⊎ ((nat_eq name other ≡ false) × (name ≢ other))
        → ((nat_eq name other ≡ true) × (is_marked (slice_set marks name value) other ≡ value))
        ⊎ ((nat_eq name other ≡ false) × (is_marked (slice_set marks name value) other ≡ is_marked marks other))
    by (inl same) = inl (same.0, subst (λ (n : ℕ). is_marked (slice_set marks name value) n ≡ value) same.1 (get_or-set_same marks name value false there))
    by (inr other_one) = inr (other_one.0, get_or-set_other marks name other value false (λ is. other_one.1 (sym is)))

-- one name more is marked
pub one_more : (marks : List Bool) (name : ℕ) → name < length marks → Marks marks (slice_set marks name true) (nat_eq name)
one_more marks name there = record { as_many = length-set marks name true; marked = λ other. by other (set_at marks name other true there) }
  where
    by : (other : ℕ)
        → ((nat_eq name other ≡ true) × (is_marked (slice_set marks name true) other ≡ true))
        ⊎ ((nat_eq name other ≡ false) × (is_marked (slice_set marks name true) other ≡ is_marked marks other))
        → is_marked (slice_set marks name true) other ≡ (is_marked marks other || nat_eq name other)
    by other (inl same) = same.1 ∙ right_true (is_marked marks other) ∙ ap (λ (b : Bool). is_marked marks other || b) (sym same.0)
    by other (inr apart) = apart.1 ∙ right_false (is_marked marks other) ∙ ap (λ (b : Bool). is_marked marks other || b) (sym apart.0)

-- one step after another
pub then_more : (old mid new : List Bool) (f g h : ℕ → Bool) → Marks old mid f → Marks mid new g → ((name : ℕ) → h name ≡ (f name || g name)) → Marks old new h
then_more old mid new f g h first second is = record {
  as_many = second.as_many ∙ first.as_many;
  marked = λ name.
      second.marked name ∙ ap (λ (b : Bool). b || g name) (first.marked name) ∙ joined (is_marked old name) (f name) (g name)
      ∙ ap (λ (b : Bool). is_marked old name || b) (sym (is name));
}

-- what an item reads
module _ (item : Item) (operands : Operands) (are : operand_list operands ≡ operands_of item) where
  reads_are : (these : List Operand) → operand_list operands ≡ these → (name : ℕ) → reads item name ≡ list_any (λ o. reads_name o name) these
  reads_are these is name = reads_operands item name ∙ ap (list_any (λ o. reads_name o name)) (sym are ∙ is)

  pub none_read : (marks : List Bool) → operands ≡ listed.None → Marks marks marks (reads item)
  none_read marks is = none_more marks (reads item) (reads_are [] (ap operand_list is))

  pub one_read : (old new : List Bool) (one : Operand) → operands ≡ listed.One one → Marks old new (reads_name one) → Marks old new (reads item)
  one_read old new one is h = record {
    as_many = h.as_many;
    marked = λ name.
        h.marked name
        ∙ ap (λ (b : Bool). is_marked old name || b) (right_false (reads_name one name) ∙ sym (reads_are (one ∷ []) (ap operand_list is) name));
  }

  pub two_read : (old mid new : List Bool) (one other : Operand) → operands ≡ listed.Two one other → Marks old mid (reads_name one) → Marks mid new (reads_name other)
      → Marks old new (reads item)
  two_read old mid new one other is first second =
      then_more old mid new (reads_name one) (reads_name other) (reads item) first second
      (λ name. reads_are (one ∷ other ∷ []) (ap operand_list is) name ∙ ap (λ (b : Bool). reads_name one name || b) (sym (right_false (reads_name other name))))

  -- their names are below the number of marks
  pub one_below : (marks : List Bool) (one : Operand) → operands ≡ listed.One one → ItemBelow (length marks) item → OperandBelow (length marks) one
  one_below marks one is h =
      subst (λ (these : List Operand). OperandsBelow (length marks) these) (sym are ∙ ap operand_list is) (operands_below (length marks) item h)

  pub first_below : (marks : List Bool) (one other : Operand) → operands ≡ listed.Two one other → ItemBelow (length marks) item → OperandBelow (length marks) one
  first_below marks one other is h =
      (subst (λ (these : List Operand). OperandsBelow (length marks) these) (sym are ∙ ap operand_list is) (operands_below (length marks) item h)).0

  pub second_below : (old mid : List Bool) (more : ℕ → Bool) (one other : Operand) → operands ≡ listed.Two one other → ItemBelow (length old) item → Marks old mid more
      → OperandBelow (length mid) other
  second_below old mid more one other is h marked =
      subst (λ (n : ℕ). OperandBelow n other) (sym marked.as_many)
      (subst (λ (these : List Operand). OperandsBelow (length old) these) (sym are ∙ ap operand_list is) (operands_below (length old) item h)).1

pub ruleset marks = (none_more, one_more, none_read, one_read, two_read, one_below, first_below, second_below)

-- ---- homes

module _ (default : Home) where
  homes_more : (homes : List Home) (at : ℕ) (name : ℕ) → at < length homes
      → homes_use (take (suc at) homes) name ≡ (homes_use (take at homes) name || reads_name (slice_index_or homes at default).value name)
  homes_more [] at name there = absurd (omega arith)
  homes_more (first ∷ homes) zero name there = sym (right_false (reads_name first.value name))
  homes_more (first ∷ homes) (suc at) name there =
      ap (λ (b : Bool). reads_name first.value name || b) (homes_more homes at name (omega arith))
      ∙ sym (joined (reads_name first.value name) (homes_use (take at homes) name) (reads_name (slice_index_or homes at default).value name))

  stub_below : (n : ℕ) (homes : List Home) (at : ℕ) → at < length homes → StubBelow n homes → OperandBelow n (slice_index_or homes at default).value
  stub_below n [] at there h = absurd (omega arith)
  stub_below n (first ∷ homes) zero there h = h.0
  stub_below n (first ∷ homes) (suc at) there h = stub_below n homes at (omega arith) h.1

  pub home_below : (old mid : List Bool) (more : ℕ → Bool) (homes : List Home) (at : ℕ) → Marks old mid more → at < length homes → StubBelow (length old) homes
      → OperandBelow (length mid) (slice_index_or homes at default).value
  home_below old mid more homes at h there below =
      subst (λ (n : ℕ). OperandBelow n (slice_index_or homes at default).value) (sym h.as_many) (stub_below (length old) homes at there below)

  pub home_more : (old mid new : List Bool) (homes : List Home) (at : ℕ) → Marks old mid (homes_use (take at homes)) → at < length homes
      → Marks mid new (reads_name (slice_index_or homes at default).value) → Marks old new (homes_use (take (at + 1) homes))
  home_more old mid new homes at first there second =
      let next : suc at ≡ at + 1 = omega arith in
      subst (λ (n : ℕ). Marks old new (homes_use (take n homes))) next
      (then_more old mid new (homes_use (take at homes)) (reads_name (slice_index_or homes at default).value) (homes_use (take (suc at) homes)) first second
      (λ name. homes_more homes at name there))

pub ruleset homes = (home_below, home_more)

-- ---- past an item

-- its own name is no longer marked, and then what it reads is
pub past_writing : (old new : List Bool) (item : Item) (dest : ℕ) → ItemBelow (length old) item → dest_of item ≡ Some dest
    → Marks (slice_set old dest false) new (reads item) → PassesItem old new item
past_writing old new item dest below is then = record {
  as_many = then.as_many ∙ length-set old dest false;
  marked = λ name.
      then.marked name ∙ by name (set_at old dest name false (dest_below (length old) item dest below is))
      ∙ ap (λ (d : Option ℕ). reads item name || (not (writes d name) && is_marked old name)) (sym is);
}
  where
    by : (name : ℕ)
        → ((nat_eq dest name ≡ true) × (is_marked (slice_set old dest false) name ≡ false))
        ⊎ ((nat_eq dest name ≡ false) × (is_marked (slice_set old dest false) name ≡ is_marked old name))
        → (is_marked (slice_set old dest false) name || reads item name) ≡ (reads item name || (not (nat_eq dest name) && is_marked old name))
    by name (inl same) =
        ap (λ (b : Bool). b || reads item name) same.1 ∙ right_false (reads item name)
        ∙ ap (λ (b : Bool). reads item name || (not b && is_marked old name)) (sym same.0)
    by name (inr apart) =
        ap (λ (b : Bool). b || reads item name) apart.1 ∙ exchanged (is_marked old name) (reads item name)
        ∙ ap (λ (b : Bool). reads item name || (not b && is_marked old name)) (sym apart.0)

-- what writes no name
pub past_unwriting : (old new : List Bool) (item : Item) → dest_of item ≡ None → Marks old new (reads item) → PassesItem old new item
past_unwriting old new item is then = record {
  as_many = then.as_many;
  marked = λ name.
      then.marked name ∙ exchanged (is_marked old name) (reads item name)
      ∙ ap (λ (d : Option ℕ). reads item name || (not (writes d name) && is_marked old name)) (sym is);
}

-- names are below the number of marks where it is the same
pub item_below : (old mid : List Bool) (item : Item) → ItemBelow (length old) item → length mid ≡ length old → ItemBelow (length mid) item
item_below old mid item h is = subst (λ (n : ℕ). ItemBelow n item) (sym is) h

pub set_below : (old : List Bool) (dest : ℕ) (value : Bool) (item : Item) → ItemBelow (length old) item → ItemBelow (length (slice_set old dest value)) item
set_below old dest value item h = item_below old (slice_set old dest value) item h (length-set old dest value)

pub ruleset items = (dest_below, past_writing, past_unwriting, set_below)
