-- What is known of variables holds, and rewriting by it changes nothing.
use Rattle.std.proofs.Common.{◌≡◌, inl, inr, ℕ, suc, Bool, true, false, not, ◌&&◌, ◌||◌, List, [], ◌∷◌, map, Option, Some, None, refl, sym, ◌∙◌, ap, subst, eq-eqb, eqb-true, true≢false}
use Rattle.std.specs.Prelude.{ℤ, if◌then◌else◌, nat_eq, slice_get, slice_set, slice_index}
use Rattle.std.specs.List.{list_any}
use Rattle.std.proofs.lemmas.Bool.Decides.{Decides-int_eq}
use Rattle.pc_word.specs.Naming.{map_operands}
use Rattle.pc_word.specs.declared.item.Item.{Item}
use Rattle.pc_word.specs.declared.item.Item.TheVariants.{Bin, Copy, Load, Store, Print, Read, More}
use Rattle.pc_word.specs.declared.item.OpCode.{OpCode}
use Rattle.pc_word.specs.declared.item.Operand.{Operand}
use Rattle.pc_word.specs.declared.item.Operand.TheVariants.{Name, Lit}
use Rattle.pc_word.specs.Word.{word_of_test, word_apply}
use Rattle.pc_word.specs.State.{State, set_name, set_cell, set_input}
use Rattle.pc_word.specs.Items.{operand_value, place_in, element_at, some_left, operands_of, dest_of, value_of, reads_name, op_number}
use Rattle.pc_word.specs.Commit.{writes}
use Rattle.pc_word.specs.Row.{RowOutcome, Commits, item_step}
use Rattle.pc_word.specs.Laws.{does_alone, stores_alone, reads_alone}
use Rattle.pc_word.proofs.Items.{item_step-is, same_operator}
use Rattle.pc_word.proofs.Lists.{set_at}
use Rattle.pc_word.proofs.Truth.{and_true, or_false, not_true}
use Rattle.pc_scalar.specs.declared.rule.Rule.{Rule}
use Rattle.pc_scalar.specs.declared.rule.Rule.TheVariants.{CopiedNames, KnownValues}
use Rattle.pc_scalar.specs.Chain.{touches}
use Rattle.pc_scalar.specs.models.Known.{kept, after_write, after, stays_true, source, copied}
use Rattle.pc_scalar.specs.models.Known.{same_operand, computes, holder, reused, valued_item, rewritten_item, rewritten_operand}
use Rattle.pc_scalar.proofs.Tables.{mapped_from}

-- a variable has the value of the item that it stands for
pub record IsFact (s : State) (x : ℕ) (item : Item) : Type 0 where
  pub dest : dest_of item ≡ Some x
  pub lasts : stays_true item ≡ true
  pub value : s.names x ≡ value_of [] s item

-- what is known holds
pub record KnownHolds (known : List (Option Item)) (s : State) : Type 0 where
  pub holds : (x : ℕ) (item : Item) → slice_get known x ≡ Some (Some item) → IsFact s x item

-- ---- what an item does to names

-- the names after an item
record NamesAfter (item : Item) (s after_it : State) : Type 0 where
  others : (x : ℕ) → writes (dest_of item) x ≡ false → after_it.names x ≡ s.names x
  own : stays_true item ≡ true → (d : ℕ) → dest_of item ≡ Some d → after_it.names d ≡ value_of [] s item

chosen_other : (b : Bool) (v old : ℤ) → b ≡ false → (if b then v else old) ≡ old
chosen_other true v old e = absurd (cc)
chosen_other false v old e = refl

chosen_own : (b : Bool) (v old : ℤ) → b ≡ true → (if b then v else old) ≡ v
chosen_own true v old e = refl
chosen_own false v old e = absurd (cc)

-- an item that sets one name
names_set : (item : Item) (s after_it : State) (d : ℕ) (v : ℤ) → dest_of item ≡ Some d → ((x : ℕ) → after_it.names x ≡ (if nat_eq d x then v else s.names x))
    → (stays_true item ≡ true → v ≡ value_of [] s item) → NamesAfter item s after_it
names_set item s after_it d v dest is value = record {
  others = λ x e. is x ∙ chosen_other (nat_eq d x) v (s.names x) (sym (ap (λ (o : Option ℕ). writes o x) dest) ∙ e);
  own = λ lasts other e.
      let same : d ≡ other = (cc) in
      is other ∙ chosen_own (nat_eq d other) v (s.names other) (eq-eqb d other same) ∙ value lasts;
}

names_kept : (item : Item) (s after_it : State) → stays_true item ≡ false → ((x : ℕ) → after_it.names x ≡ s.names x) → NamesAfter item s after_it
names_kept item s after_it off is = record { others = λ x e. is x; own = λ lasts d e. absurd (true≢false (sym lasts ∙ off)) }

stored_names : (item : Item) (array : ℕ) (place : Option ℕ) (v : ℤ) (to : ℕ) (s after_it : State) (printed : List ℤ) → stays_true item ≡ false
    → stores_alone array place v to s ≡ Commits printed after_it to → NamesAfter item s after_it
stored_names item array None v to s after_it printed off e = absurd (cc)
stored_names item array (Some place) v to s after_it printed off e =
    let same : set_cell array place v s ≡ after_it = (cc) in
    names_kept item s after_it off (λ x. ap (λ (t : State). t.names x) (sym same))

read_names : (dest : ℕ) (input : List ℤ) (to : ℕ) (s after_it : State) (printed : List ℤ) → reads_alone dest input to s ≡ Commits printed after_it to
    → NamesAfter (Read dest) s after_it
read_names dest [] to s after_it printed e = absurd (cc)
read_names dest (word ∷ words) to s after_it printed e =
    let same : set_input words (set_name dest word s) ≡ after_it = (cc) in
    names_set (Read dest) s after_it dest word refl (λ x. ap (λ (t : State). t.names x) (sym same)) (λ lasts. absurd (cc))

alone_names : (lengths : List ℕ) (item : Item) (to : ℕ) (s after_it : State) (printed : List ℤ) → does_alone lengths item to s ≡ Commits printed after_it to
    → NamesAfter item s after_it
alone_names lengths (Bin op dest left right) to s after_it printed e =
    let same : set_name dest (word_apply op (operand_value s.names left) (operand_value s.names right)) s ≡ after_it = (cc) in
    names_set (Bin op dest left right) s after_it dest (word_apply op (operand_value s.names left) (operand_value s.names right)) refl (λ x. ap (λ (t : State). t.names x) (sym same)) (λ lasts. refl)
alone_names lengths (Copy dest from) to s after_it printed e =
    let same : set_name dest (operand_value s.names from) s ≡ after_it = (cc) in
    names_set (Copy dest from) s after_it dest (operand_value s.names from) refl (λ x. ap (λ (t : State). t.names x) (sym same)) (λ lasts. refl)
alone_names lengths (Load dest array index) to s after_it printed e =
    let v : ℤ = element_at (s.cells array) (place_in (slice_index lengths array) (operand_value s.names index)) in
    let same : set_name dest (element_at (s.cells array) (place_in (slice_index lengths array) (operand_value s.names index))) s ≡ after_it = (cc) in
    names_set (Load dest array index) s after_it dest (element_at (s.cells array) (place_in (slice_index lengths array) (operand_value s.names index))) refl
    (λ x. ap (λ (t : State). t.names x) (sym same)) (λ lasts. absurd (cc))
alone_names lengths (Store array index value) to s after_it printed e =
    stored_names (Store array index value) array (place_in (slice_index lengths array) (operand_value s.names index)) (operand_value s.names value) to s after_it printed refl e
alone_names lengths (Print value) to s after_it printed e =
    let same : s ≡ after_it = (cc) in names_kept (Print value) s after_it refl (λ x. ap (λ (t : State). t.names x) (sym same))
alone_names lengths (Read dest) to s after_it printed e = read_names dest s.input to s after_it printed e
alone_names lengths (More dest) to s after_it printed e =
    let same : set_name dest (word_of_test (some_left s.input)) s ≡ after_it = (cc) in
    names_set (More dest) s after_it dest (word_of_test (some_left s.input)) refl (λ x. ap (λ (t : State). t.names x) (sym same)) (λ lasts. absurd (cc))

-- ---- facts

-- an operand keeps its value
operand_kept : (operand : Operand) (d : ℕ) (s t : State) → reads_name operand d ≡ false → ((x : ℕ) → nat_eq d x ≡ false → t.names x ≡ s.names x)
    → operand_value t.names operand ≡ operand_value s.names operand
operand_kept (Name name) d s t e others = others name (flipped (nat_eq d name) refl)
  where
    flipped : (b : Bool) → nat_eq d name ≡ b → b ≡ false
    flipped true h = absurd (true≢false (sym (eq-eqb name d (sym (eqb-true d name h))) ∙ e))
    flipped false h = refl
operand_kept (Lit value) d s t e others = refl

-- the value of an item whose operands keep theirs
value_kept : (item : Item) (d : ℕ) (s t : State) → stays_true item ≡ true → list_any (λ operand. reads_name operand d) (operands_of item) ≡ false
    → ((x : ℕ) → nat_eq d x ≡ false → t.names x ≡ s.names x) → value_of [] t item ≡ value_of [] s item
value_kept (Bin op dest left right) d s t lasts apart others =
    let first = or_false (reads_name left d) (reads_name right d || false) apart in
    let second = or_false (reads_name right d) false first.1 in
    ap (λ (z : ℤ). word_apply op z (operand_value t.names right)) (operand_kept left d s t first.0 others)
    ∙ ap (λ (z : ℤ). word_apply op (operand_value s.names left) z) (operand_kept right d s t second.0 others)
value_kept (Copy dest from) d s t lasts apart others = operand_kept from d s t (or_false (reads_name from d) false apart).0 others
value_kept (Load dest array index) d s t lasts apart others = absurd (cc)
value_kept (Store array index value) d s t lasts apart others = absurd (cc)
value_kept (Print value) d s t lasts apart others = absurd (cc)
value_kept (Read dest) d s t lasts apart others = absurd (cc)
value_kept (More dest) d s t lasts apart others = absurd (cc)

-- an item that lasts does not read what it writes
own_apart : (item : Item) (d : ℕ) → stays_true item ≡ true → dest_of item ≡ Some d → list_any (λ operand. reads_name operand d) (operands_of item) ≡ false
own_apart (Bin op dest left right) d lasts e =
    let same : dest ≡ d = (cc) in
    let both = and_true (not (reads_name left dest)) (not (reads_name right dest)) lasts in
    subst (λ (n : ℕ). (reads_name left n || (reads_name right n || false)) ≡ false) same
    (none_of (reads_name left dest) (reads_name right dest) (not_true (reads_name left dest) both.0) (not_true (reads_name right dest) both.1))
  where
    none_of : (a b : Bool) → a ≡ false → b ≡ false → (a || (b || false)) ≡ false
    none_of false false p q = refl
    none_of true b p q = absurd (cc)
    none_of false true p q = absurd (cc)
own_apart (Copy dest from) d lasts e =
    let same : dest ≡ d = (cc) in
    subst (λ (n : ℕ). (reads_name from n || false) ≡ false) same (alone (reads_name from dest) (not_true (reads_name from dest) lasts))
  where
    alone : (a : Bool) → a ≡ false → (a || false) ≡ false
    alone false p = refl
    alone true p = absurd (cc)
own_apart (Load dest array index) d lasts e = absurd (cc)
own_apart (Store array index value) d lasts e = absurd (cc)
own_apart (Print value) d lasts e = absurd (cc)
own_apart (Read dest) d lasts e = absurd (cc)
own_apart (More dest) d lasts e = absurd (cc)

-- a fact that is not touched
fact_kept : (item : Item) (x d : ℕ) (s t : State) → IsFact s x item → touches item d ≡ false → ((y : ℕ) → nat_eq d y ≡ false → t.names y ≡ s.names y) → IsFact t x item
fact_kept item x d s t fact apart others =
    let both = or_false (writes (dest_of item) d) (list_any (λ operand. reads_name operand d) (operands_of item)) apart in
    let own : nat_eq x d ≡ false = sym (ap (λ (o : Option ℕ). writes o d) fact.dest) ∙ both.0 in
    record {
      dest = fact.dest;
      lasts = fact.lasts;
      value = operand_kept (Name x) d s t own others ∙ fact.value ∙ sym (value_kept item d s t fact.lasts both.1 others);
    }

-- what is left when a name is written
kept_fact : (d : ℕ) (fact : Option Item) (item : Item) → kept d fact ≡ Some item → (fact ≡ Some item) × (touches item d ≡ false)
kept_fact d None item e = absurd (cc)
kept_fact d (Some other) item e = left (touches other d) refl
  where
    left : (b : Bool) → touches other d ≡ b → (Some other ≡ Some item) × (touches item d ≡ false)
    left true h = absurd (let gone : kept d (Some other) ≡ None = ap (λ (b : Bool). if b then None else Some other) h in cc)
    left false h =
        let same : kept d (Some other) ≡ Some other = ap (λ (b : Bool). if b then None else Some other) h in
        let is : other ≡ item = (cc) in
        (ap (λ (i : Item). Some i) is, ap (λ (i : Item). touches i d) (sym is) ∙ h)

-- ---- what is known after an item

-- where a thing stands that is known after an item: it was known and is not touched, or it is the item itself
pub data FromAfter (item : Item) (known : List (Option Item)) (x : ℕ) (fact : Item) : Type 0 where
  Was_known : slice_get known x ≡ Some (Some fact) → ((d : ℕ) → dest_of item ≡ Some d → touches fact d ≡ false) → FromAfter item known x fact
  Is_new : dest_of item ≡ Some x → stays_true item ≡ true → fact ≡ item → FromAfter item known x fact

kept_from : (item : Item) (d : ℕ) (known : List (Option Item)) (x : ℕ) (fact : Item) → dest_of item ≡ Some d → slice_get (map (kept d) known) x ≡ Some (Some fact)
    → FromAfter item known x fact
kept_from item d known x fact dest e =
    let from = mapped_from (kept d) known x (Some fact) e in
    let was = kept_fact d from.0 fact from.2 in
    Was_known (from.1 ∙ ap (λ (f : Option Item). Some f) was.0) (λ other h. let same : d ≡ other = (cc) in subst (λ (n : ℕ). touches fact n ≡ false) same was.1)

learnt_from : (b : Bool) (item : Item) (d : ℕ) (known : List (Option Item)) (x : ℕ) (fact : Item) → stays_true item ≡ b → dest_of item ≡ Some d
    → slice_get (if b then slice_set (map (kept d) known) d (Some item) else map (kept d) known) x ≡ Some (Some fact) → FromAfter item known x fact
learnt_from true item d known x fact lasts dest e = elim (set_at (map (kept d) known) d x (Some item) (Some fact) e) [
  | inl h ↦ let same : fact ≡ item = (let f = h.1 in cc) in Is_new (dest ∙ ap (λ (n : ℕ). Some n) (sym h.0)) lasts same
  | inr h ↦ kept_from item d known x fact dest h.1
]
learnt_from false item d known x fact lasts dest e = kept_from item d known x fact dest e

after_from_write : (item : Item) (o : Option ℕ) (known : List (Option Item)) (x : ℕ) (fact : Item) → dest_of item ≡ o → slice_get (after_write item o known) x ≡ Some (Some fact)
    → FromAfter item known x fact
after_from_write item None known x fact dest e = Was_known e (λ d h. absurd (cc))
after_from_write item (Some d) known x fact dest e = learnt_from (stays_true item) item d known x fact refl dest e

pub after_from : (item : Item) (known : List (Option Item)) (x : ℕ) (fact : Item) → slice_get (after item known) x ≡ Some (Some fact) → FromAfter item known x fact
after_from item known x fact e = after_from_write item (dest_of item) known x fact refl e

operand_same : (operand : Operand) (s t : State) → ((x : ℕ) → t.names x ≡ s.names x) → operand_value t.names operand ≡ operand_value s.names operand
operand_same (Name name) s t same = same name
operand_same (Lit value) s t same = refl

-- equal names give an item an equal value
value_same : (item : Item) (s t : State) → stays_true item ≡ true → ((x : ℕ) → t.names x ≡ s.names x) → value_of [] t item ≡ value_of [] s item
value_same (Bin op dest left right) s t lasts same =
    ap (λ (z : ℤ). word_apply op z (operand_value t.names right)) (operand_same left s t same)
    ∙ ap (λ (z : ℤ). word_apply op (operand_value s.names left) z) (operand_same right s t same)
value_same (Copy dest from) s t lasts same = operand_same from s t same
value_same (Load dest array index) s t lasts same = absurd (cc)
value_same (Store array index value) s t lasts same = absurd (cc)
value_same (Print value) s t lasts same = absurd (cc)
value_same (Read dest) s t lasts same = absurd (cc)
value_same (More dest) s t lasts same = absurd (cc)

-- where nothing is written, all facts are kept
names_all : (item : Item) (o : Option ℕ) (s t : State) → dest_of item ≡ o → NamesAfter item s t → o ≡ None → (x : ℕ) → t.names x ≡ s.names x
names_all item o s t dest names none x = names.others x (ap (λ (p : Option ℕ). writes p x) (dest ∙ none))

fact_stays : (item : Item) (o : Option ℕ) (known : List (Option Item)) (s t : State) (x : ℕ) (fact : Item) → dest_of item ≡ o → NamesAfter item s t → IsFact s x fact
    → ((d : ℕ) → dest_of item ≡ Some d → touches fact d ≡ false) → IsFact t x fact
fact_stays item None known s t x fact dest names was apart =
    let same = names_all item None s t dest names refl in
    record { dest = was.dest; lasts = was.lasts; value = same x ∙ was.value ∙ sym (value_same fact s t was.lasts same) }
fact_stays item (Some d) known s t x fact dest names was apart =
    fact_kept fact x d s t was (apart d dest) (λ y e. names.others y (ap (λ (p : Option ℕ). writes p y) dest ∙ e))

after_holds_one : (item : Item) (known : List (Option Item)) (s t : State) (x : ℕ) (fact : Item) → KnownHolds known s → NamesAfter item s t → FromAfter item known x fact → IsFact t x fact
after_holds_one item known s t x fact before names (Was_known there apart) =
    fact_stays item (dest_of item) known s t x fact refl names (before.holds x fact there) apart
after_holds_one item known s t x fact before names (Is_new dest lasts same) = subst (IsFact t x) (sym same) (record {
  dest = dest;
  lasts = lasts;
  value = names.own lasts x dest ∙ sym (value_kept item x s t lasts (own_apart item x lasts dest) (λ y e. names.others y (ap (λ (p : Option ℕ). writes p y) dest ∙ e)));
})

-- what is known after an item holds then
pub after_holds : (lengths : List ℕ) (item : Item) (known : List (Option Item)) (to : ℕ) (s t : State) (printed : List ℤ) → KnownHolds known s
    → item_step lengths item to s ≡ Commits printed t to → KnownHolds (after item known) t
after_holds lengths item known to s t printed before e =
    let names = alone_names lengths item to s t printed (sym (item_step-is lengths item to s) ∙ e) in
    record { holds = λ x fact stands. after_holds_one item known s t x fact before names (after_from item known x fact stands) }

-- ---- operators and operands

-- operands that are the same have one value
same_values : (one other : Operand) (names : ℕ → ℤ) → same_operand one other ≡ true → operand_value names one ≡ operand_value names other
same_values (Name one) (Name other) names e = ap names (eqb-true one other e)
same_values (Lit one) (Lit other) names e = (Decides-int_eq one other).0 e
same_values (Name one) (Lit other) names e = absurd (cc)
same_values (Lit one) (Name other) names e = absurd (cc)

-- the value of an item that computes this
computed_value : (op : OpCode) (left right : Operand) (item : Item) (s : State) → computes op left right item ≡ true
    → value_of [] s item ≡ word_apply op (operand_value s.names left) (operand_value s.names right)
computed_value op left right (Bin other dest first second) s e =
    let parts = and_true (nat_eq (op_number op) (op_number other)) (same_operand left first && same_operand right second) e in
    let sides = and_true (same_operand left first) (same_operand right second) parts.1 in
    let same : op ≡ other = same_operator op other (eqb-true (op_number op) (op_number other) parts.0) in
    ap (λ (o : OpCode). word_apply o (operand_value s.names first) (operand_value s.names second)) (sym same)
    ∙ ap (λ (z : ℤ). word_apply op z (operand_value s.names second)) (sym (same_values left first s.names sides.0))
    ∙ ap (λ (z : ℤ). word_apply op (operand_value s.names left) z) (sym (same_values right second s.names sides.1))
computed_value op left right (Copy dest from) s e = absurd (cc)
computed_value op left right (Load dest array index) s e = absurd (cc)
computed_value op left right (Store array index value) s e = absurd (cc)
computed_value op left right (Print value) s e = absurd (cc)
computed_value op left right (Read dest) s e = absurd (cc)
computed_value op left right (More dest) s e = absurd (cc)

-- the variable that stands for a value
pub record Holder (op : OpCode) (left right : Operand) (known : List (Option Item)) (name : ℕ) : Type 0 where
  pub at : ℕ
  pub item : Item
  pub there : slice_get known at ≡ Some (Some item)
  pub computes : computes op left right item ≡ true
  pub dest : dest_of item ≡ Some name

holder_behind : (op : OpCode) (left right : Operand) (fact : Option Item) (known : List (Option Item)) (name : ℕ) → Holder op left right known name → Holder op left right (fact ∷ known) name
holder_behind op left right fact known name it = record { at = suc it.at; item = it.item; there = it.there; computes = it.computes; dest = it.dest }

holder_first : (op : OpCode) (left right : Operand) (item : Item) (known : List (Option Item)) (name : ℕ) (b : Bool) → computes op left right item ≡ b
    → (if b then dest_of item else holder op left right known) ≡ Some name → (holder op left right known ≡ Some name → Holder op left right known name)
    → Holder op left right (Some item ∷ known) name
holder_first op left right item known name true is e rest = record { at = 0; item = item; there = refl; computes = is; dest = e }
holder_first op left right item known name false is e rest = holder_behind op left right (Some item) known name (rest e)

pub holder_found : (op : OpCode) (left right : Operand) (known : List (Option Item)) (name : ℕ) → holder op left right known ≡ Some name → Holder op left right known name
holder_found op left right [] name e = absurd (cc)
holder_found op left right (None ∷ known) name e = holder_behind op left right None known name (holder_found op left right known name e)
holder_found op left right (Some item ∷ known) name e = holder_first op left right item known name (computes op left right item) refl e (λ h. holder_found op left right known name h)

-- ---- copies

module _ (known : List (Option Item)) (s : State) (holds : KnownHolds known s) where
  source_value : (name : ℕ) (fact : Option (Option Item)) → slice_get known name ≡ fact → operand_value s.names (source fact name) ≡ s.names name
  source_value name None e = refl
  source_value name (Some None) e = refl
  source_value name (Some (Some (Copy dest from))) e = sym (holds.holds name (Copy dest from) e).value
  source_value name (Some (Some (Bin op dest left right))) e = refl
  source_value name (Some (Some (Load dest array index))) e = refl
  source_value name (Some (Some (Store array index value))) e = refl
  source_value name (Some (Some (Print value))) e = refl
  source_value name (Some (Some (Read dest))) e = refl
  source_value name (Some (Some (More dest))) e = refl

  -- an operand has the value of what it was copied from
  copied_value : (operand : Operand) → operand_value s.names (copied known operand) ≡ operand_value s.names operand
  copied_value (Name name) = source_value name (slice_get known name) refl
  copied_value (Lit value) = refl

  copied_alone : (lengths : List ℕ) (item : Item) (to : ℕ) → does_alone lengths (map_operands (copied known) item) to s ≡ does_alone lengths item to s
  copied_alone lengths (Bin op dest left right) to =
      ap (λ (z : ℤ). let done : RowOutcome ℕ = Commits [] (set_name dest (word_apply op z (operand_value s.names (copied known right))) s) to in done) (copied_value left)
      ∙ ap (λ (z : ℤ). let done : RowOutcome ℕ = Commits [] (set_name dest (word_apply op (operand_value s.names left) z) s) to in done) (copied_value right)
  copied_alone lengths (Copy dest from) to = ap (λ (z : ℤ). let done : RowOutcome ℕ = Commits [] (set_name dest z s) to in done) (copied_value from)
  copied_alone lengths (Load dest array index) to =
      ap (λ (z : ℤ). let done : RowOutcome ℕ = Commits [] (set_name dest (element_at (s.cells array) (place_in (slice_index lengths array) z)) s) to in done) (copied_value index)
  copied_alone lengths (Store array index value) to =
      ap (λ (z : ℤ). let done : RowOutcome ℕ = stores_alone array (place_in (slice_index lengths array) z) (operand_value s.names (copied known value)) to s in done) (copied_value index)
      ∙ ap (λ (z : ℤ). let done : RowOutcome ℕ = stores_alone array (place_in (slice_index lengths array) (operand_value s.names index)) z to s in done) (copied_value value)
  copied_alone lengths (Print value) to = ap (λ (z : ℤ). let done : RowOutcome ℕ = Commits (z ∷ []) s to in done) (copied_value value)
  copied_alone lengths (Read dest) to = refl
  copied_alone lengths (More dest) to = refl

  -- ---- values

  -- the item of the variable that stands for a value
  reused_alone : (lengths : List ℕ) (op : OpCode) (dest : ℕ) (left right : Operand) (to : ℕ) (found : Option ℕ) → holder op left right known ≡ found
      → does_alone lengths (reused found (Bin op dest left right) dest) to s ≡ does_alone lengths (Bin op dest left right) to s
  reused_alone lengths op dest left right to None e = refl
  reused_alone lengths op dest left right to (Some name) e =
      let it = holder_found op left right known name e in
      let fact = holds.holds it.at it.item it.there in
      let at_name : it.at ≡ name = (let a = fact.dest in let b = it.dest in let both : Some it.at ≡ Some name = sym a ∙ b in cc) in
      let value : s.names name ≡ word_apply op (operand_value s.names left) (operand_value s.names right) =
      sym (ap s.names at_name) ∙ fact.value ∙ computed_value op left right it.item s it.computes in
      ap (λ (z : ℤ). let done : RowOutcome ℕ = Commits [] (set_name dest z s) to in done) value

  valued_alone : (lengths : List ℕ) (item : Item) (to : ℕ) → does_alone lengths (valued_item known item) to s ≡ does_alone lengths item to s
  valued_alone lengths (Bin op dest left right) to = reused_alone lengths op dest left right to (holder op left right known) refl
  valued_alone lengths (Copy dest from) to = refl
  valued_alone lengths (Load dest array index) to = refl
  valued_alone lengths (Store array index value) to = refl
  valued_alone lengths (Print value) to = refl
  valued_alone lengths (Read dest) to = refl
  valued_alone lengths (More dest) to = refl

  rewritten_alone : (lengths : List ℕ) (rule : Rule) (item : Item) (to : ℕ) → does_alone lengths (rewritten_item rule known item) to s ≡ does_alone lengths item to s
  rewritten_alone lengths CopiedNames item to = copied_alone lengths item to
  rewritten_alone lengths KnownValues item to = valued_alone lengths item to

  -- a rewritten item does the same
  pub rewritten_does : (lengths : List ℕ) (rule : Rule) (item : Item) (to : ℕ) → item_step lengths (rewritten_item rule known item) to s ≡ item_step lengths item to s
  rewritten_does lengths rule item to =
      item_step-is lengths (rewritten_item rule known item) to s ∙ rewritten_alone lengths rule item to ∙ sym (item_step-is lengths item to s)

  -- a rewritten operand has the same value
  pub rewritten_value : (rule : Rule) (operand : Operand) → operand_value s.names (rewritten_operand rule known operand) ≡ operand_value s.names operand
  rewritten_value CopiedNames operand = copied_value operand
  rewritten_value KnownValues operand = refl
