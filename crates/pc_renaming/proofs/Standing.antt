-- Where the values of registers stand on the way down two rows of which one does the other.
use Rattle.std.proofs.Common.{◌≡◌, ℕ, Bool, true, false, nat_eq, List, ◌∷◌, Option, Some, None, refl, sym, ◌∙◌, ap, subst}
use Rattle.std.specs.Prelude.{ℤ, if◌then◌else◌}
use Rattle.pc_word.specs.declared.item.Item.{Item}
use Rattle.pc_word.specs.declared.item.Operand.TheVariants.{Name}
use Rattle.pc_word.specs.declared.item.Item.TheVariants.{Copy}
use Rattle.pc_word.specs.State.{State}
use Rattle.pc_word.specs.Items.{dest_of, value_of}
use Rattle.pc_word.specs.Commit.{writes, names_after}
use Rattle.pc_word.proofs.Truth.{or_false}
use Rattle.pc_word.proofs.Places.{same_number, own_number}
use Rattle.pc_renaming.specs.declared.kept.Kept.{Kept}
use Rattle.pc_renaming.specs.declared.kept.Kept.TheVariants.{Before, Was, Made, Lost}
use Rattle.pc_renaming.specs.Renaming.{with_kept, StandsIn}
use Rattle.pc_renaming.specs.RowRenames.{ItemGoes, Unneeded, Copied, ItemStays, Writes_none, Writes_one}
use Rattle.pc_renaming.proofs.Alike.{Agrees, value_same, no_dest}

-- ---- what a path has given a register so far

-- a word, or else another
abbrev pub or_else : Option ℤ → ℤ → ℤ
or_else (Some word) other = word
or_else None other = other

-- the first of two words that is there
abbrev first_of_two : Option ℤ → Option ℤ → Option ℤ
first_of_two (Some word) other = Some word
first_of_two None other = other

-- with the word that one more item gives
abbrev pub given : List ℕ → State → Item → (ℕ → Option ℤ) → ℕ → Option ℤ
given lengths s x so_far register = first_of_two (so_far register) (if writes (dest_of x) register then Some (value_of lengths s x) else None)

chosen : (so_far : Option ℤ) (b : Bool) (word other : ℤ) → or_else so_far (if b then word else other) ≡ or_else (first_of_two so_far (if b then Some word else None)) other
chosen (Some one) b word other = refl
chosen None true word other = refl
chosen None false word other = refl

pub given_names : (lengths : List ℕ) (s : State) (x : Item) (xs : List Item) (so_far : ℕ → Option ℤ) (register : ℕ)
    → or_else (so_far register) (names_after lengths s (x ∷ xs) register) ≡ or_else (given lengths s x so_far register) (names_after lengths s xs register)
given_names lengths s x xs so_far register = chosen (so_far register) (writes (dest_of x) register) (value_of lengths s x) (names_after lengths s xs register)

none_more : (so_far : Option ℤ) → first_of_two so_far None ≡ so_far
none_more (Some word) = refl
none_more None = refl

-- an item that writes no register, or another one, changes nothing
pub given_none : (lengths : List ℕ) (s : State) (x : Item) (so_far : ℕ → Option ℤ) (register : ℕ) → dest_of x ≡ None → given lengths s x so_far register ≡ so_far register
given_none lengths s x so_far register none =
    ap (λ (d : Option ℕ). first_of_two (so_far register) (if writes d register then Some (value_of lengths s x) else None)) none ∙ none_more (so_far register)

pub given_other : (lengths : List ℕ) (s : State) (x : Item) (so_far : ℕ → Option ℤ) (dest register : ℕ) → dest_of x ≡ Some dest → nat_eq dest register ≡ false
    → given lengths s x so_far register ≡ so_far register
given_other lengths s x so_far dest register is apart =
    ap (λ (d : Option ℕ). first_of_two (so_far register) (if writes d register then Some (value_of lengths s x) else None)) is
    ∙ ap (λ (b : Bool). first_of_two (so_far register) (if b then Some (value_of lengths s x) else None)) apart
    ∙ none_more (so_far register)

-- what is given stays
pub given_stays : (lengths : List ℕ) (s : State) (x : Item) (so_far : ℕ → Option ℤ) (register : ℕ) (word : ℤ) → so_far register ≡ Some word → given lengths s x so_far register ≡ Some word
given_stays lengths s x so_far register word is =
    ap (λ (o : Option ℤ). first_of_two o (if writes (dest_of x) register then Some (value_of lengths s x) else None)) is

-- an item gives its register its word
pub given_here : (lengths : List ℕ) (s : State) (x : Item) (so_far : ℕ → Option ℤ) (dest : ℕ) → dest_of x ≡ Some dest → so_far dest ≡ None
    → given lengths s x so_far dest ≡ Some (value_of lengths s x)
given_here lengths s x so_far dest is none =
    ap (λ (o : Option ℤ). first_of_two o (if writes (dest_of x) dest then Some (value_of lengths s x) else None)) none
    ∙ ap (λ (d : Option ℕ). if writes d dest then Some (value_of lengths s x) else None) is
    ∙ ap (λ (b : Bool). if b then Some (value_of lengths s x) else None) (own_number dest)

-- ---- what `kept` and `written` tell

-- of the words that two paths have given so far
pub record Stands (new : State) (kept : ℕ → Kept) (written : ℕ → Bool) (before after : ℕ → Option ℤ) : Type 0 where
  pub untouched : (register : ℕ) → kept register ≡ Before → before register ≡ None
  pub as_was : (register place : ℕ) → kept register ≡ Was place → before register ≡ Some (new.names place)
  pub as_made : (register place : ℕ) → kept register ≡ Made place → (word : ℤ) × (before register ≡ Some word) × (after place ≡ Some word)
  pub free : (place : ℕ) → written place ≡ false → after place ≡ None

-- where a value stands once another one stands elsewhere
kept_other : (dest : ℕ) (k : Kept) (kept : ℕ → Kept) (register : ℕ) → nat_eq dest register ≡ false → with_kept dest k kept register ≡ kept register
kept_other dest k kept register apart = ap (λ (b : Bool). if b then k else kept register) apart

kept_here : (dest : ℕ) (k : Kept) (kept : ℕ → Kept) (register : ℕ) → nat_eq dest register ≡ true → with_kept dest k kept register ≡ k
kept_here dest k kept register same = ap (λ (b : Bool). if b then k else kept register) same

module _ {home : ℕ → Option ℕ} (lengths : List ℕ) (old new : State) (agrees : Agrees home old new) where
  -- one more register whose value stands in some way: what is known of the others stays
  one_more : (x : Item) (dest : ℕ) (k : Kept) {kept : ℕ → Kept} {written : ℕ → Bool} {before after : ℕ → Option ℤ} → dest_of x ≡ Some dest
      → (k ≡ Before → ⊥) → ((place : ℕ) → k ≡ Was place → given lengths old x before dest ≡ Some (new.names place))
      → ((place : ℕ) → k ≡ Made place → (word : ℤ) × (given lengths old x before dest ≡ Some word) × (after place ≡ Some word))
      → Stands new kept written before after → Stands new (with_kept dest k kept) written (given lengths old x before) after
  one_more x dest k {kept} {written} {before} {after} is not_before was made stands = record {
    untouched = λ r. elim (nat_eq dest r) as (λ b. nat_eq dest r ≡ b → with_kept dest k kept r ≡ Before → given lengths old x before r ≡ None) [
      | true ↦ λ same e. absurd (not_before (sym (kept_here dest k kept r same) ∙ e))
      | false ↦ λ apart e. given_other lengths old x before dest r is apart ∙ stands.untouched r (sym (kept_other dest k kept r apart) ∙ e)
    ] refl;
    as_was = λ r place. elim (nat_eq dest r) as (λ b. nat_eq dest r ≡ b → with_kept dest k kept r ≡ Was place → given lengths old x before r ≡ Some (new.names place)) [
      | true ↦ λ same e. subst (λ q. given lengths old x before q ≡ Some (new.names place)) (same_number dest r same) (was place (sym (kept_here dest k kept r same) ∙ e))
      | false ↦ λ apart e. given_other lengths old x before dest r is apart ∙ stands.as_was r place (sym (kept_other dest k kept r apart) ∙ e)
    ] refl;
    as_made = λ r place. elim (nat_eq dest r) as (λ b. nat_eq dest r ≡ b → with_kept dest k kept r ≡ Made place
        → (word : ℤ) × (given lengths old x before r ≡ Some word) × (after place ≡ Some word)) [
          | true ↦ λ same e. subst (λ q. (word : ℤ) × (given lengths old x before q ≡ Some word) × (after place ≡ Some word)) (same_number dest r same)
              (made place (sym (kept_here dest k kept r same) ∙ e))
          | false ↦ λ apart e.
              let was_made = stands.as_made r place (sym (kept_other dest k kept r apart) ∙ e) in
              (was_made.0, given_other lengths old x before dest r is apart ∙ was_made.1, was_made.2)
        ] refl;
    free = stands.free;
  }

  pub goes_stands : {kept then_kept : ℕ → Kept} {written : ℕ → Bool} {x : Item} {before after : ℕ → Option ℤ} → ItemGoes home kept x then_kept
      → Stands new kept written before after → Stands new then_kept written (given lengths old x before) after
  goes_stands {kept} {then_kept} {written} {x} {before} {after} (Unneeded {item} {dest} is only then_is) stands =
      subst (λ (k : ℕ → Kept). Stands new k written (given lengths old x before) after) (sym then_is)
      (one_more x dest Lost is (λ e. absurd (cc)) (λ place e. absurd (cc)) (λ place e. absurd (cc)) stands)
  goes_stands {kept} {then_kept} {written} {x} {before} {after} (Copied {dest} {from} {place} was_before at then_is) stands =
      subst (λ (k : ℕ → Kept). Stands new k written (given lengths old (Copy dest (Name from)) before) after) (sym then_is)
      (one_more (Copy dest (Name from)) dest (Was place) refl (λ e. absurd (cc))
      (λ p e. given_here lengths old (Copy dest (Name from)) before dest refl (stands.untouched dest was_before) ∙ ap Some (agrees.names from place at ∙ ap new.names (was_register e)))
      (λ p e. absurd (cc)) stands)
    where
      was_register : {a b : ℕ} → Was a ≡ Was b → a ≡ b
      was_register e = (cc)

  pub stays_stands : {registers : ℕ} {kept then_kept : ℕ → Kept} {written then_written : ℕ → Bool} {x y : Item} {before after : ℕ → Option ℤ}
      → ItemStays registers home kept written x y then_kept then_written → Stands new kept written before after
      → Stands new then_kept then_written (given lengths old x before) (given lengths new y after)
  stays_stands {kept} {then_kept} {written} {then_written} {x} {y} {before} {after} (Writes_none same none kept_is written_is) stands =
      subst (λ (k : ℕ → Kept). Stands new k then_written (given lengths old x before) (given lengths new y after)) (sym kept_is)
      (subst (λ (w : ℕ → Bool). Stands new kept w (given lengths old x before) (given lengths new y after)) (sym written_is) (record {
        untouched = λ r e. given_none lengths old x before r none ∙ stands.untouched r e;
        as_was = λ r place e. given_none lengths old x before r none ∙ stands.as_was r place e;
        as_made = λ r place e.
            let made = stands.as_made r place e in (made.0, given_none lengths old x before r none ∙ made.1, given_stays lengths new y after place made.0 made.2);
        free = λ place e. given_none lengths new y after place (no_dest same none) ∙ stands.free place e;
      }))
  stays_stands {kept} {then_kept} {written} {then_written} {x} {y} {before} {after} (Writes_one {item} {other} {dest} {made} same is other_is was_before below fresh kept_is written_is) stands =
      subst (λ (k : ℕ → Kept). Stands new k then_written (given lengths old x before) (given lengths new y after)) (sym kept_is)
      (subst (λ (w : ℕ → Bool). Stands new (with_kept dest (Made made) kept) w (given lengths old x before) (given lengths new y after)) (sym written_is)
      (one_more x dest (Made made) is (λ e. absurd (cc)) (λ place e. absurd (cc))
      (λ place e. (
        value_of lengths old x,
        given_here lengths old x before dest is (stands.untouched dest was_before),
        subst (λ p. given lengths new y after p ≡ Some (value_of lengths old x)) (made_register e)
            (given_here lengths new y after made other_is (stands.free made fresh) ∙ ap Some (sym (value_same lengths old new agrees same))),
      ))
      (record {
        untouched = stands.untouched;
        as_was = stands.as_was;
        as_made = λ r place e. let was_made = stands.as_made r place e in (was_made.0, was_made.1, given_stays lengths new y after place was_made.0 was_made.2);
        free = λ place e.
            let both = or_false (nat_eq made place) (written place) e in given_other lengths new y after made place other_is both.0 ∙ stands.free place both.1;
      })))
    where
      made_register : {a b : ℕ} → Made a ≡ Made b → a ≡ b
      made_register e = (cc)

  -- a value that stands so is in that register once the rows are done
  pub stands_in : (kept : ℕ → Kept) (written : ℕ → Bool) (before after : ℕ → Option ℤ) (register place : ℕ) → Stands new kept written before after
      → (k : Kept) → kept register ≡ k → StandsIn home written register place k → or_else (before register) (old.names register) ≡ or_else (after place) (new.names place)
  stands_in kept written before after register place stands Before is in_it =
      ap (λ (o : Option ℤ). or_else o (old.names register)) (stands.untouched register is) ∙ agrees.names register place in_it.0
      ∙ ap (λ (o : Option ℤ). or_else o (new.names place)) (sym (stands.free place in_it.1))
  stands_in kept written before after register place stands (Was other) is in_it =
      ap (λ (o : Option ℤ). or_else o (old.names register)) (stands.as_was register other is) ∙ ap new.names in_it.0
      ∙ ap (λ (o : Option ℤ). or_else o (new.names place)) (sym (stands.free place in_it.1))
  stands_in kept written before after register place stands (Made other) is in_it =
      let made = stands.as_made register other is in
      ap (λ (o : Option ℤ). or_else o (old.names register)) made.1 ∙ ap (λ (o : Option ℤ). or_else o (new.names place)) (sym made.2)
      ∙ ap (λ p. or_else (after p) (new.names place)) in_it
  stands_in kept written before after register place stands Lost is in_it = absurd in_it
