-- The facts that are listed after two paths are those that hold after them.
use Rattle.std.proofs.Common.{◌≡◌, ℕ, inl, inr, true, false, List, [], ◌++◌, map, Option, Some, None, refl, sym, ap, subst}
use Rattle.std.specs.Prelude.{not, ◌&&◌, ℤ, filter}
use Rattle.std.specs.List.{flat_map}
use Rattle.pc_word.specs.declared.item.Item.{Item}
use Rattle.pc_word.specs.declared.item.Item.TheVariants.{Bin, Copy, Load, Store, Print, Read, More}
use Rattle.pc_word.specs.declared.item.Operand.{Operand}
use Rattle.pc_word.specs.declared.item.Operand.TheVariants.{Name, Lit}
use Rattle.pc_word.specs.Items.{dest_of}
use Rattle.pc_word.proofs.Truth.{and_true, and_made}
use Rattle.pc_certified.specs.Facts.{Fact, OperandsMatch, ItemsMatch, same_bin, same_copy, same_load, same_store, same_print, same_read, same_more}
use Rattle.pc_certified.specs.Paths.{IsWriter, IsUnchanged, FactAfter, unchanged, copied_by_row, copied_by_front, computed as by_items}
use Rattle.pc_matching.specs.Matching.{items_match}
use Rattle.pc_matching.specs.FactsAfter.{that, first_writers, same_after, some_name, is_of_name, copied_literal, facts_before, carried, same_names, is_copy, computed_by, computed, facts_after}
use Rattle.pc_matching.specs.Laws.{ListedFactsHold, AllFactsAreListed}
use Rattle.pc_matching.proofs.Tests.{items_of_test, test_of_items}
use Rattle.pc_matching.proofs.Elements.{In, in_of, of_in, in_front, in_back, in_either, in_if, of_if, in_filter, of_filter, in_map, of_map, in_flat, of_flat}
use Rattle.pc_matching.proofs.FirstWriters.{IsFirstWriter, is_first_writer, writer_there, writer_dest, IsSameAfter, stays, by_copy, is_same_after, same_after_is}

-- a fact is that its source has its operand's value
whole : (fact : Fact) → that fact.source fact.operand ≡ fact
whole fact = refl

module _ (facts : List Fact) (items others : List Item) where
  abbrev writers : List Item
  writers = first_writers items

  abbrev front_writers : List Item
  front_writers = first_writers others

  abbrev before : List Fact
  before = facts_before facts writers front_writers

  -- ---- what is listed holds

  -- what had one value before the paths has one value after them
  holds : (source operand source' operand' : Operand) → OperandsMatch facts source operand → IsSameAfter items source source' → IsSameAfter others operand operand'
      → FactAfter facts items others (that source' operand')
  holds source operand source' operand' h (stays k) (stays j) = unchanged h k j
  holds source operand source' operand' h (by_copy k) (stays j) = copied_by_row k h j
  holds source operand source' operand' h (stays k) (by_copy j) = copied_by_front j h k
  holds source operand source' operand' h (by_copy k) (by_copy j) = by_items k j (same_copy h)

  -- a fact that says something of a name is one of those that are given
  given : (source operand : Operand) → some_name source operand ≡ true → In facts (that source operand) → OperandsMatch facts source operand
  given (Lit v) (Lit w) e h = absurd (cc)
  given (Lit v) (Name y) e h = of_in facts (that (Lit v) (Name y)) h
  given (Name x) operand e h = of_in facts (that (Name x) operand) h

  literal : (item : Item) (fact : Fact) → In (copied_literal item) fact → OperandsMatch facts fact.source fact.operand
  literal (Copy name (Lit v)) fact (inl e) = subst (λ (f : Fact). OperandsMatch facts f.source f.operand) e refl
  literal (Copy name (Lit v)) fact (inr never) = absurd never
  literal (Copy name (Name x)) fact h = absurd h
  literal (Bin op dest left right) fact h = absurd h
  literal (Load dest array index) fact h = absurd h
  literal (Store array index value) fact h = absurd h
  literal (Print value) fact h = absurd h
  literal (Read dest) fact h = absurd h
  literal (More dest) fact h = absurd h

  a_literal : (path : List Item) (fact : Fact) → In (flat_map copied_literal path) fact → OperandsMatch facts fact.source fact.operand
  a_literal path fact h = let there = in_flat copied_literal path fact h in literal there.0 fact there.2

  -- each of the facts before the paths holds
  before_holds : (fact : Fact) → In before fact → OperandsMatch facts fact.source fact.operand
  before_holds fact h = elim (in_either (filter is_of_name facts) (flat_map copied_literal writers ++ flat_map copied_literal front_writers) fact h) [
    | inl k ↦ let there = in_filter is_of_name facts fact k in given fact.source fact.operand there.1 there.0
    | inr k ↦ elim (in_either (flat_map copied_literal writers) (flat_map copied_literal front_writers) fact k) [
      | inl j ↦ a_literal writers fact j
      | inr j ↦ a_literal front_writers fact j
    ]
  ]

  carried_holds : (fact after : Fact) → OperandsMatch facts fact.source fact.operand → In (carried writers front_writers fact) after → FactAfter facts items others after
  carried_holds fact after h k =
      let one = in_flat (λ source. map (that source) (same_after front_writers fact.operand)) (same_after writers fact.source) after k in
      let other = in_map (that one.0) (same_after front_writers fact.operand) after one.2 in
      subst (FactAfter facts items others) other.2
      (holds fact.source fact.operand one.0 other.0 h (is_same_after items fact.source one.0 one.1) (is_same_after others fact.operand other.0 other.1))

  names_hold : (item other : Item) (d d' : Option ℕ) (after : Fact) → dest_of item ≡ d → dest_of other ≡ d' → IsFirstWriter [] items item → IsFirstWriter [] others other
      → ItemsMatch facts item other → In (same_names d d') after → FactAfter facts items others after
  names_hold item other (Some register) (Some name) after is is' h k match (inl e) =
      let one : h.name ≡ register = let d = h.dest in (cc) in
      let two : k.name ≡ name = let d = k.dest in (cc) in
      subst (FactAfter facts items others) e
      (by_items (subst (λ (n : ℕ). IsWriter n item items) one h.writer) (subst (λ (n : ℕ). IsWriter n other others) two k.writer) match)
  names_hold item other (Some register) (Some name) after is is' h k match (inr never) = absurd never
  names_hold item other (Some register) None after is is' h k match never = absurd never
  names_hold item other None d' after is is' h k match never = absurd never

  both_first : (item other : Item) (after : Fact) → In writers item → In front_writers other → ItemsMatch facts item other
      → In (same_names (dest_of item) (dest_of other)) after → FactAfter facts items others after
  both_first item other after h k match j = elim (is_first_writer [] items item h) [
    | inl never ↦ absurd never
    | inr one ↦ elim (is_first_writer [] others other k) [
      | inl never ↦ absurd never
      | inr two ↦ names_hold item other (dest_of item) (dest_of other) after refl refl one two match j
    ]
  ]

  computed_holds : (after : Fact) → In (computed facts writers front_writers) after → FactAfter facts items others after
  computed_holds after h =
      let one = in_flat (λ item. flat_map (computed_by facts item) front_writers) writers after h in
      let other = in_flat (computed_by facts one.0) front_writers after one.2 in
      let same = in_if (not (is_copy one.0) && items_match facts one.0 other.0) (same_names (dest_of one.0) (dest_of other.0)) after other.2 in
      let match = (and_true (not (is_copy one.0)) (items_match facts one.0 other.0) same.0).1 in
      both_first one.0 other.0 after one.1 other.1 (items_of_test facts one.0 other.0 match) same.1

  pub listed_holds : (after : Fact) → In (facts_after facts items others) after → FactAfter facts items others after
  listed_holds after h = elim (in_either (flat_map (carried writers front_writers) before) (computed facts writers front_writers) after h) [
    | inl k ↦ let there = in_flat (carried writers front_writers) before after k in
        carried_holds there.0 after (before_holds there.0 there.1) there.2
    | inr k ↦ computed_holds after k
  ]

  -- ---- what holds is listed

  -- what is listed of a name matches
  matches_name : (source operand : Operand) → In (facts_after facts items others) (that source operand) → some_name source operand ≡ true
      → OperandsMatch (facts_after facts items others) source operand
  matches_name (Lit v) (Lit w) h e = absurd (cc)
  matches_name (Lit v) (Name y) h e = of_in (facts_after facts items others) (that (Lit v) (Name y)) h
  matches_name (Name x) operand h e = of_in (facts_after facts items others) (that (Name x) operand) h

  -- a fact before the paths leads to a fact after them
  carry : (source operand source' operand' : Operand) → In before (that source operand) → IsSameAfter items source source' → IsSameAfter others operand operand'
      → In (facts_after facts items others) (that source' operand')
  carry source operand source' operand' h k j =
      in_front (flat_map (carried writers front_writers) before) (computed facts writers front_writers) (that source' operand')
      (of_flat (carried writers front_writers) before (that source operand) (that source' operand') h
      (of_flat (λ one. map (that one) (same_after front_writers operand)) (same_after writers source) source' (that source' operand') (same_after_is items source source' k)
      (of_map (that source') (same_after front_writers operand) operand' (same_after_is others operand operand' j))))

  -- what matches by a fact, or is the same literal, which is listed then, is a fact before the paths
  known : (source operand : Operand) → OperandsMatch facts source operand
      → ((value : ℤ) → source ≡ Lit value → operand ≡ Lit value → In before (that (Lit value) (Lit value))) → In before (that source operand)
  known (Lit v) (Lit w) h copied = subst (λ (z : ℤ). In before (that (Lit v) (Lit z))) h (copied v refl (ap Lit (sym h)))
  known (Lit v) (Name y) h copied =
      in_front (filter is_of_name facts) (flat_map copied_literal writers ++ flat_map copied_literal front_writers) (that (Lit v) (Name y))
      (of_filter is_of_name facts (that (Lit v) (Name y)) refl (in_of facts (that (Lit v) (Name y)) h))
  known (Name x) operand h copied =
      in_front (filter is_of_name facts) (flat_map copied_literal writers ++ flat_map copied_literal front_writers) (that (Name x) operand)
      (of_filter is_of_name facts (that (Name x) operand) refl (in_of facts (that (Name x) operand) h))

  -- a literal that is copied is known
  literal_of : (path : List Item) (name : ℕ) (from : Operand) (value : ℤ) → In path (Copy name from) → from ≡ Lit value
      → In (flat_map copied_literal path) (that (Lit value) (Lit value))
  literal_of path name from value h is =
      let there : In path (Copy name (Lit value)) = subst (λ (o : Operand). In path (Copy name o)) is h in
      of_flat copied_literal path (Copy name (Lit value)) (that (Lit value) (Lit value)) there (inl refl)

  behind_given : (fact : Fact) → In (flat_map copied_literal writers ++ flat_map copied_literal front_writers) fact → In before fact
  behind_given fact h = in_back (filter is_of_name facts) (flat_map copied_literal writers ++ flat_map copied_literal front_writers) fact h

  row_literal : (name : ℕ) (from : Operand) (value : ℤ) → IsWriter name (Copy name from) items → from ≡ Lit value → In before (that (Lit value) (Lit value))
  row_literal name from value h is =
      behind_given (that (Lit value) (Lit value))
      (in_front (flat_map copied_literal writers) (flat_map copied_literal front_writers) (that (Lit value) (Lit value))
      (literal_of writers name from value (writer_there [] h refl) is))

  front_literal : (name : ℕ) (from : Operand) (value : ℤ) → IsWriter name (Copy name from) others → from ≡ Lit value → In before (that (Lit value) (Lit value))
  front_literal name from value h is =
      behind_given (that (Lit value) (Lit value))
      (in_back (flat_map copied_literal writers) (flat_map copied_literal front_writers) (that (Lit value) (Lit value))
      (literal_of front_writers name from value (writer_there [] h refl) is))

  unchanged_listed : (source operand : Operand) → OperandsMatch facts source operand → IsUnchanged source items → IsUnchanged operand others
      → OperandsMatch (facts_after facts items others) source operand
  unchanged_listed (Lit v) (Lit w) h k j = h
  unchanged_listed (Lit v) (Name y) h k j =
      matches_name (Lit v) (Name y) (carry (Lit v) (Name y) (Lit v) (Name y) (known (Lit v) (Name y) h (λ value e e'. absurd (cc))) (stays k) (stays j)) refl
  unchanged_listed (Name x) operand h k j =
      matches_name (Name x) operand (carry (Name x) operand (Name x) operand (known (Name x) operand h (λ value e e'. absurd (cc))) (stays k) (stays j)) refl

  name_last : (source : Operand) (name : ℕ) → some_name source (Name name) ≡ true
  name_last (Lit v) name = refl
  name_last (Name x) name = refl

  copies_listed : (register name dest dest' : ℕ) (from from' : Operand) → Some dest ≡ Some register → Some dest' ≡ Some name
      → IsWriter register (Copy dest from) items → IsWriter name (Copy dest' from') others → OperandsMatch facts from from'
      → In (facts_after facts items others) (that (Name register) (Name name))
  copies_listed register name dest dest' from from' is is' h k match =
      let one : dest ≡ register = (cc) in
      let two : dest' ≡ name = (cc) in
      let first : IsWriter register (Copy register from) items = subst (λ (n : ℕ). IsWriter register (Copy n from) items) one h in
      let second : IsWriter name (Copy name from') others = subst (λ (n : ℕ). IsWriter name (Copy n from') others) two k in
      carry from from' (Name register) (Name name) (known from from' match (λ value e e'. row_literal register from value first e)) (by_copy first) (by_copy second)

  computed_listed : (register name : ℕ) (item other : Item) → is_copy item ≡ false → IsWriter register item items → IsWriter name other others → ItemsMatch facts item other
      → In (facts_after facts items others) (that (Name register) (Name name))
  computed_listed register name item other none h k match =
      let names : In (same_names (dest_of item) (dest_of other)) (that (Name register) (Name name)) =
      subst (λ (d : Option ℕ). In (same_names d (dest_of other)) (that (Name register) (Name name))) (sym (writer_dest h))
      (subst (λ (d : Option ℕ). In (same_names (Some register) d) (that (Name register) (Name name))) (sym (writer_dest k)) (inl refl)) in
      in_back (flat_map (carried writers front_writers) before) (computed facts writers front_writers) (that (Name register) (Name name))
      (of_flat (λ one. flat_map (computed_by facts one) front_writers) writers item (that (Name register) (Name name)) (writer_there [] h refl)
      (of_flat (computed_by facts item) front_writers other (that (Name register) (Name name)) (writer_there [] k refl)
      (of_if (not (is_copy item) && items_match facts item other) (same_names (dest_of item) (dest_of other)) (that (Name register) (Name name))
      (and_made (not (is_copy item)) (items_match facts item other) (ap not none) (test_of_items facts match)) names)))

  -- of items that match, copies have what they copy, and the others are listed
  matching_listed : (register name : ℕ) {item other : Item} → IsWriter register item items → IsWriter name other others → ItemsMatch facts item other
      → In (facts_after facts items others) (that (Name register) (Name name))
  matching_listed register name h k (same_copy {dest} {dest'} {from} {from'} match) =
      copies_listed register name dest dest' from from' (writer_dest h) (writer_dest k) h k match
  matching_listed register name h k (same_bin {op} {dest} {dest'} {left} {left'} {right} {right'} one two) =
      computed_listed register name (Bin op dest left right) (Bin op dest' left' right') refl h k (same_bin one two)
  matching_listed register name h k (same_load {array} {dest} {dest'} {index} {index'} match) =
      computed_listed register name (Load dest array index) (Load dest' array index') refl h k (same_load match)
  matching_listed register name h k (same_store {array} {index} {index'} {value} {value'} one two) =
      computed_listed register name (Store array index value) (Store array index' value') refl h k (same_store one two)
  matching_listed register name h k (same_print {value} {value'} match) =
      computed_listed register name (Print value) (Print value') refl h k (same_print match)
  matching_listed register name h k (same_read {dest} {dest'}) = computed_listed register name (Read dest) (Read dest') refl h k same_read
  matching_listed register name h k (same_more {dest} {dest'}) = computed_listed register name (More dest) (More dest') refl h k same_more

  pub all_listed : (fact : Fact) → FactAfter facts items others fact → OperandsMatch (facts_after facts items others) fact.source fact.operand
  all_listed fact (unchanged {source} {operand} h k j) = unchanged_listed source operand h k j
  all_listed fact (copied_by_row {register} {from} {operand} k h j) =
      matches_name (Name register) operand
      (carry from operand (Name register) operand (known from operand h (λ value e e'. row_literal register from value k e)) (by_copy k) (stays j)) refl
  all_listed fact (copied_by_front {name} {source} {from} j h k) =
      matches_name source (Name name)
      (carry source from source (Name name) (known source from h (λ value e e'. front_literal name from value j e')) (stays k) (by_copy j)) (name_last source name)
  all_listed fact (by_items {register} {name} h k match) = matches_name (Name register) (Name name) (matching_listed register name h k match) refl

pub listed_facts_hold : ListedFactsHold
listed_facts_hold facts items others fact h = listed_holds facts items others fact (in_of (facts_after facts items others) fact h)

pub all_facts_are_listed : AllFactsAreListed
all_facts_are_listed facts items others fact h = all_listed facts items others fact h
