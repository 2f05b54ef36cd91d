-- The first writers of the names that a path writes, and what a value is in after it.
use Rattle.std.proofs.Common.{◌≡◌, ℕ, ◌⊎◌, inl, inr, Bool, true, false, List, [], ◌∷◌, ◌++◌, Option, Some, None, refl, sym, ◌∙◌, ap, subst}
use Rattle.std.specs.Prelude.{if◌then◌else◌, nat_eq}
use Rattle.std.specs.List.{flat_map}
use Rattle.std.proofs.lemmas.Bool.{eqb-true}
use Rattle.pc_word.specs.declared.item.Item.{Item}
use Rattle.pc_word.specs.declared.item.Item.TheVariants.{Bin, Copy, Load, Store, Print, Read, More}
use Rattle.pc_word.specs.declared.item.Operand.{Operand}
use Rattle.pc_word.specs.declared.item.Operand.TheVariants.{Name, Lit}
use Rattle.pc_word.specs.Items.{dest_of}
use Rattle.pc_word.specs.Commit.{writes}
use Rattle.pc_word.proofs.Truth.{or_false, or_made_false}
use Rattle.pc_certified.specs.Paths.{IsWriter, writes_here, writes_later, NoneWrites, IsUnchanged}
use Rattle.pc_matching.specs.Matching.{same_operand}
use Rattle.pc_matching.specs.FactsAfter.{some_writes, with_writer, writers_below, first_writers, if_unchanged, copy_of, same_after}
use Rattle.pc_matching.proofs.Tests.{operand_of, same_operand_itself}
use Rattle.pc_matching.proofs.Elements.{In, in_front, in_back, in_either, of_if, in_flat, of_flat}

-- ---- one item more

-- what the first writers write, with an item more, no item before it and not this one writes
writes_none : (above : List Item) (item : Item) (name : ℕ) → some_writes (above ++ (item ∷ [])) name ≡ false
    → (some_writes above name ≡ false) × (writes (dest_of item) name ≡ false)
writes_none [] item name e = (refl, (or_false (writes (dest_of item) name) false e).0)
writes_none (one ∷ above) item name e =
    let both = or_false (writes (dest_of one) name) (some_writes (above ++ (item ∷ [])) name) e in
    let there = writes_none above item name both.1 in
    (or_made_false (writes (dest_of one) name) (some_writes above name) both.0 there.0, there.1)

none_of_both : (above : List Item) (item : Item) (name : ℕ) → some_writes above name ≡ false → writes (dest_of item) name ≡ false
    → some_writes (above ++ (item ∷ [])) name ≡ false
none_of_both [] item name e k = or_made_false (writes (dest_of item) name) false k refl
none_of_both (one ∷ above) item name e k =
    let both = or_false (writes (dest_of one) name) (some_writes above name) e in
    or_made_false (writes (dest_of one) name) (some_writes (above ++ (item ∷ [])) name) both.0 (none_of_both above item name both.1 k)

-- an item that writes a name which is written above writes none that is not
other_name : (above : List Item) (dest name : ℕ) → some_writes above dest ≡ true → some_writes above name ≡ false → nat_eq dest name ≡ false
other_name above dest name here not_here = by (nat_eq dest name) refl where
  by : (b : Bool) → nat_eq dest name ≡ b → nat_eq dest name ≡ false
  by false e = e
  by true e = let same : some_writes above dest ≡ some_writes above name = ap (some_writes above) (eqb-true dest name e) in absurd (cc)

-- the first writers with an item more
module _ (above : List Item) (item : Item) where
  -- they write a name just where they, or the item, did
  forth_if : (b : Bool) (dest name : ℕ) → some_writes above dest ≡ b → dest_of item ≡ Some dest
      → some_writes (if b then above else above ++ (item ∷ [])) name ≡ false → (some_writes above name ≡ false) × (writes (dest_of item) name ≡ false)
  forth_if true dest name written is e =
      (e, subst (λ (d : Option ℕ). writes d name ≡ false) (sym is) (other_name above dest name written e))
  forth_if false dest name written is e = writes_none above item name e

  forth : (d : Option ℕ) (name : ℕ) → dest_of item ≡ d → some_writes (with_writer above item d) name ≡ false
      → (some_writes above name ≡ false) × (writes (dest_of item) name ≡ false)
  forth None name is e = (e, subst (λ (d : Option ℕ). writes d name ≡ false) (sym is) refl)
  forth (Some dest) name is e = forth_if (some_writes above dest) dest name refl is e

  back_if : (b : Bool) (name : ℕ) → some_writes above name ≡ false → writes (dest_of item) name ≡ false
      → some_writes (if b then above else above ++ (item ∷ [])) name ≡ false
  back_if true name e k = e
  back_if false name e k = none_of_both above item name e k

  back : (d : Option ℕ) (name : ℕ) → some_writes above name ≡ false → writes (dest_of item) name ≡ false → some_writes (with_writer above item d) name ≡ false
  back None name e k = e
  back (Some dest) name e k = back_if (some_writes above dest) name e k

  -- what is among them is one of them, or the item, which then writes a name that none of them writes
  among_if : (b : Bool) (dest : ℕ) (one : Item) → some_writes above dest ≡ b → dest_of item ≡ Some dest
      → In (if b then above else above ++ (item ∷ [])) one → In above one ⊎ ((name : ℕ) × (dest_of item ≡ Some name) × (some_writes above name ≡ false) × (item ≡ one))
  among_if true dest one written is h = inl h
  among_if false dest one written is h = elim (in_either above (item ∷ []) one h) [
    | inl k ↦ inl k
    | inr k ↦ elim k [
      | inl e ↦ inr (dest, is, written, e)
      | inr never ↦ absurd never
    ]
  ]

  among : (d : Option ℕ) (one : Item) → dest_of item ≡ d → In (with_writer above item d) one
      → In above one ⊎ ((name : ℕ) × (dest_of item ≡ Some name) × (some_writes above name ≡ false) × (item ≡ one))
  among None one is h = inl h
  among (Some dest) one is h = among_if (some_writes above dest) dest one refl is h

  kept_if : (b : Bool) (one : Item) → In above one → In (if b then above else above ++ (item ∷ [])) one
  kept_if true one h = h
  kept_if false one h = in_front above (item ∷ []) one h

  kept : (d : Option ℕ) (one : Item) → In above one → In (with_writer above item d) one
  kept None one h = h
  kept (Some dest) one h = kept_if (some_writes above dest) one h

  new_if : (b : Bool) → b ≡ false → In (if b then above else above ++ (item ∷ [])) item
  new_if true e = absurd (cc)
  new_if false e = in_back above (item ∷ []) item (inl refl)

  new : (name : ℕ) → dest_of item ≡ Some name → some_writes above name ≡ false → In (with_writer above item (dest_of item)) item
  new name is e = subst (λ (d : Option ℕ). In (with_writer above item d) item) (sym is) (new_if (some_writes above name) e)

-- ---- whole paths

-- the first writers write no name that the path does not
pub none_written : (above items : List Item) (name : ℕ) → some_writes (writers_below above items) name ≡ false → (some_writes above name ≡ false) × NoneWrites name items
none_written above [] name e = (e, tt)
none_written above (item ∷ items) name e =
    let there = none_written (with_writer above item (dest_of item)) items name e in
    let here = forth above item (dest_of item) name refl there.0 in
    (here.0, (here.1, there.1))

pub write_none : (above items : List Item) (name : ℕ) → some_writes above name ≡ false → NoneWrites name items → some_writes (writers_below above items) name ≡ false
write_none above [] name e h = e
write_none above (item ∷ items) name e h =
    write_none (with_writer above item (dest_of item)) items name (back above item (dest_of item) name e h.0) h.1

-- an item of a path that writes a name first
pub record IsFirstWriter (above items : List Item) (item : Item) : Type 0 where
  pub name : ℕ
  pub dest : dest_of item ≡ Some name
  pub unwritten : some_writes above name ≡ false
  pub writer : IsWriter name item items

first_below : (above items : List Item) (one item : Item) → IsFirstWriter (with_writer above one (dest_of one)) items item → IsFirstWriter above (one ∷ items) item
first_below above items one item h =
    let there = forth above one (dest_of one) h.name refl h.unwritten in
    record { name = h.name; dest = h.dest; unwritten = there.0; writer = writes_later there.1 h.writer }

-- what is among the first writers is one of those above, or the first writer of a name
pub is_first_writer : (above items : List Item) (item : Item) → In (writers_below above items) item → In above item ⊎ IsFirstWriter above items item
is_first_writer above [] item h = inl h
is_first_writer above (one ∷ items) item h = elim (is_first_writer (with_writer above one (dest_of one)) items item h) [
  | inr k ↦ inr (first_below above items one item k)
  | inl k ↦ elim (among above one (dest_of one) item refl k) [
    | inl j ↦ inl j
    | inr j ↦ inr (record {
      name = j.0;
      dest = ap dest_of (sym j.3) ∙ j.1;
      unwritten = j.2;
      writer = subst (λ (it : Item). IsWriter j.0 it (one ∷ items)) j.3 (writes_here j.1);
    })
  ]
]

pub still_there : (above items : List Item) (item : Item) → In above item → In (writers_below above items) item
still_there above [] item h = h
still_there above (one ∷ items) item h = still_there (with_writer above one (dest_of one)) items item (kept above one (dest_of one) item h)

-- the writer of a name is among them
pub writer_there : {name : ℕ} {item : Item} {items : List Item} (above : List Item) → IsWriter name item items → some_writes above name ≡ false
    → In (writers_below above items) item
writer_there {name} {item} above (writes_here {items} is) e = still_there (with_writer above item (dest_of item)) items item (new above item name is e)
writer_there {name} above (writes_later {first} {items} other h) e =
    writer_there (with_writer above first (dest_of first)) h (back above first (dest_of first) name e other)

-- the item that writes a name writes it
pub writer_dest : {name : ℕ} {item : Item} {items : List Item} → IsWriter name item items → dest_of item ≡ Some name
writer_dest (writes_here is) = is
writer_dest (writes_later other h) = writer_dest h

-- ---- what a value is in

-- after a path, an operand has the value that another one had before it: it is the same one, which is not written, or a Copy of it
pub data IsSameAfter (items : List Item) (from : Operand) : Operand → Type 0 where
  stays : IsUnchanged from items → IsSameAfter items from from
  by_copy : {name : ℕ} → IsWriter name (Copy name from) items → IsSameAfter items from (Name name)

-- of one Copy
module _ (items : List Item) (from to : Operand) where
  copies_if : (b : Bool) (name : ℕ) (copied : Operand) → same_operand copied from ≡ b → IsWriter name (Copy name copied) items
      → In (if b then Name name ∷ [] else []) to → IsSameAfter items from to
  copies_if true name copied same h (inl e) =
      let is : copied ≡ from = operand_of copied from same in
      subst (IsSameAfter items from) e (by_copy (subst (λ (o : Operand). IsWriter name (Copy name o) items) is h))
  copies_if true name copied same h (inr never) = absurd never
  copies_if false name copied same h never = absurd never

  copies : (item : Item) → IsFirstWriter [] items item → In (copy_of from item) to → IsSameAfter items from to
  copies (Copy name copied) h k =
      let same : h.name ≡ name = let is = h.dest in (cc) in
      copies_if (same_operand copied from) name copied refl (subst (λ (n : ℕ). IsWriter n (Copy name copied) items) same h.writer) k
  copies (Bin op dest left right) h k = absurd k
  copies (Load dest array index) h k = absurd k
  copies (Store array index value) h k = absurd k
  copies (Print value) h k = absurd k
  copies (Read dest) h k = absurd k
  copies (More dest) h k = absurd k

  a_copy : (item : Item) × In (first_writers items) item × In (copy_of from item) to → IsSameAfter items from to
  a_copy (item, h, k) = elim (is_first_writer [] items item h) [
    | inl never ↦ absurd never
    | inr first ↦ copies item first k
  ]

unchanged_if : (items : List Item) (b : Bool) (name : ℕ) (to : Operand) → some_writes (first_writers items) name ≡ b
    → In (if b then [] else Name name ∷ []) to → IsSameAfter items (Name name) to
unchanged_if items true name to is never = absurd never
unchanged_if items false name to is (inl e) = subst (IsSameAfter items (Name name)) e (stays (none_written [] items name is).1)
unchanged_if items false name to is (inr never) = absurd never

is_unchanged : (items : List Item) (from to : Operand) → In (if_unchanged (first_writers items) from) to → IsSameAfter items from to
is_unchanged items (Name name) to h = unchanged_if items (some_writes (first_writers items) name) name to refl h
is_unchanged items (Lit value) to (inl e) = subst (IsSameAfter items (Lit value)) e (stays tt)
is_unchanged items (Lit value) to (inr never) = absurd never

-- each of these operands has the value
pub is_same_after : (items : List Item) (from to : Operand) → In (same_after (first_writers items) from) to → IsSameAfter items from to
is_same_after items from to h = elim (in_either (if_unchanged (first_writers items) from) (flat_map (copy_of from) (first_writers items)) to h) [
  | inl k ↦ is_unchanged items from to k
  | inr k ↦ a_copy items from to (in_flat (copy_of from) (first_writers items) to k)
]

there_if : (b : Bool) (name : ℕ) → b ≡ false → In (if b then [] else Name name ∷ []) (Name name)
there_if true name e = absurd (cc)
there_if false name e = inl refl

there : (items : List Item) (from : Operand) → IsUnchanged from items → In (if_unchanged (first_writers items) from) from
there items (Name name) h = there_if (some_writes (first_writers items) name) name (write_none [] items name refl h)
there items (Lit value) h = inl refl

-- and each operand that has it is one of these
pub same_after_is : (items : List Item) (from to : Operand) → IsSameAfter items from to → In (same_after (first_writers items) from) to
same_after_is items from to (stays h) = in_front (if_unchanged (first_writers items) from) (flat_map (copy_of from) (first_writers items)) from (there items from h)
same_after_is items from to (by_copy {name} h) =
    in_back (if_unchanged (first_writers items) from) (flat_map (copy_of from) (first_writers items)) (Name name)
    (of_flat (copy_of from) (first_writers items) (Copy name from) (Name name) (writer_there [] h refl)
    (of_if (same_operand from from) (Name name ∷ []) (Name name) (same_operand_itself from) (inl refl)))
