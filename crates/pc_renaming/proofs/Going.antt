-- What is found of an item on the way down two rows: it stays, goes, or neither.
use Rattle.std.proofs.Common.{◌≡◌, ℕ, Bool, true, false, Option, Some, None, refl, sym, ◌∙◌, ap, subst}
use Rattle.std.specs.Prelude.{IfSome}
use Rattle.pc_word.specs.declared.item.Item.{Item}
use Rattle.pc_word.specs.Items.{dest_of}
use Rattle.pc_word.specs.Row.{Then}
use Rattle.pc_machine.specs.MachineCode.{CodeRow}
use Rattle.pc_renaming.specs.declared.kept.Kept.{Kept}
use Rattle.pc_renaming.specs.declared.kept.Kept.TheVariants.{Was, Made, Lost}
use Rattle.pc_renaming.specs.Renaming.{Renaming, with_kept}
use Rattle.pc_renaming.specs.ItemRenames.{only_gives}
use Rattle.pc_renaming.specs.RowRenames.{ItemGoes, Unneeded, Copied, ItemStays, Writes_none, Writes_one, RowRenames, Without, With}
use Rattle.pc_renaming.specs.models.Wanted.{IsWanted, AreWantedAlike, AreWantedApart, MadeIsWritten, WriteAlike, WriteApart, IsCopyOf, NeverBoth, StaysBeside, NeverStays, GoesBeside, NeverGoes}
use Rattle.pc_renaming.proofs.Choices.{gone_so, goes_wanted, goes_unwanted, goes_or_stays, stays_apart, stays_once, gives_too, one_dest}

-- what two facts of a value that may be there say together
pub both_some : {X : Type 0} {P Q R : X → Type 0} (found : Option X) → ((x : X) → P x → Q x → R x) → IfSome found P → IfSome found Q → IfSome found R
both_some (Some x) both p q = both x p q
both_some None both p q = tt

-- ---- what both write

module _ (renaming : Renaming) (item other : Item) (row : CodeRow) where
  pub first_writes_none : dest_of item ≡ None → WriteAlike renaming item other row
  first_writes_none none register place first second = let clash = sym none ∙ first in absurd (cc)

  pub second_writes_none : dest_of other ≡ None → WriteAlike renaming item other row
  second_writes_none none register place first second = let clash = sym none ∙ second in absurd (cc)

  pub written_alike : (register place : ℕ) → dest_of item ≡ Some register → dest_of other ≡ Some place → AreWantedAlike renaming register place row → WriteAlike renaming item other row
  written_alike register place first second alike one another is is_another =
      subst (λ r. AreWantedAlike renaming r another row) (one_dest (sym first ∙ is)) (subst (λ p. AreWantedAlike renaming register p row) (one_dest (sym second ∙ is_another)) alike)

  pub written_apart : (register place : ℕ) → dest_of item ≡ Some register → dest_of other ≡ Some place → AreWantedApart renaming register place row → WriteApart renaming item other row
  written_apart register place first second apart = record { register = register; place = place; first = first; second = second; apart = apart }

-- ---- an item that goes

goes_nothing : {home : ℕ → Option ℕ} {kept then_kept : ℕ → Kept} {x : Item} → ItemGoes home kept x then_kept → dest_of x ≡ None → ⊥
goes_nothing (Unneeded is only then_is) none = let clash = sym none ∙ is in absurd (cc)
goes_nothing (Copied was_before at then_is) none = absurd (cc)

module _ (rows : ℕ) (renaming : Renaming) (home : ℕ → Option ℕ) (kept : ℕ → Kept) (written : ℕ → Bool) (item : Item) (new : CodeRow) where
  pub goes_as_copy : (dest place : ℕ) (then_kept : ℕ → Kept) → dest_of item ≡ Some dest → IsWanted renaming dest place new → IsCopyOf home kept item dest place
      → then_kept ≡ with_kept dest (Was place) kept → GoesBeside rows renaming home kept written item new then_kept
  goes_as_copy dest place then_kept is wanted copy then_is = record {
    goes = subst (λ (x : Item). ItemGoes home kept x then_kept) (sym copy.is) (Copied copy.before copy.there then_is);
    leaves = λ registers next other goes below. subst (λ (k : ℕ → Kept). RowRenames registers rows renaming home k written next new)
        ((goes_wanted dest place goes is wanted below).then_kept_is ∙ sym then_is) below;
  }

  pub goes_not_as_copy : (dest place : ℕ) → dest_of item ≡ Some dest → IsWanted renaming dest place new → (IsCopyOf home kept item dest place → ⊥)
      → NeverGoes rows renaming home kept written item new
  goes_not_as_copy dest place is wanted never registers next other goes below =
      never (goes_wanted dest place goes is wanted below).copy

  pub goes_unneeded : (dest : ℕ) (then_kept : ℕ → Kept) → dest_of item ≡ Some dest → ((place : ℕ) → IsWanted renaming dest place new → ⊥) → only_gives item ≡ true
      → then_kept ≡ with_kept dest Lost kept → GoesBeside rows renaming home kept written item new then_kept
  goes_unneeded dest then_kept is none only then_is = record {
    goes = Unneeded is only then_is;
    leaves = λ registers next other goes below. subst (λ (k : ℕ → Kept). RowRenames registers rows renaming home k written next new) (sym then_is)
        (goes_unwanted dest (gone_so dest goes is) none below);
  }

  pub goes_not_unneeded : (dest : ℕ) → dest_of item ≡ Some dest → only_gives item ≡ false → NeverGoes rows renaming home kept written item new
  goes_not_unneeded dest is more registers next other goes below = let gone = gone_so dest goes is in let only = gone.only in absurd (cc)

  pub goes_not_without_dest : dest_of item ≡ None → NeverGoes rows renaming home kept written item new
  goes_not_without_dest none registers next other goes below = goes_nothing goes none

-- ---- an item that stays

module _ (registers rows : ℕ) (renaming : Renaming) (home : ℕ → Option ℕ) (kept : ℕ → Kept) (written : ℕ → Bool) (item : Item) where
  pub stays_not_at_all : (other : Item) (rest : CodeRow) → NeverBoth registers home kept written item other → NeverStays registers rows renaming home kept written item (Then other rest)
  stays_not_at_all other rest never next one row then_kept then_written is stays below =
      never then_kept then_written (subst (λ (x : Item). ItemStays registers home kept written item x then_kept then_written) (sym (then_item is)) stays)
    where
      then_item : {x y : Item} {r s : CodeRow} → ◌≡◌ {A = CodeRow} (Then x r) (Then y s) → x ≡ y
      then_item e = (cc)

  pub stays_not_apart : (other : Item) (rest : CodeRow) → MadeIsWritten kept written → WriteApart renaming item other rest → NeverStays registers rows renaming home kept written item (Then other rest)
  stays_not_apart other rest marked apart next one row then_kept then_written is stays below =
      stays_apart apart.register apart.place marked stays apart.first (sym (ap dest_of (then_item is)) ∙ apart.second)
      (subst (λ (r : CodeRow). AreWantedApart renaming apart.register apart.place r) (then_row is) apart.apart) below
    where
      then_item : {x y : Item} {r s : CodeRow} → ◌≡◌ {A = CodeRow} (Then x r) (Then y s) → x ≡ y
      then_item e = (cc)

      then_row : {x y : Item} {r s : CodeRow} → ◌≡◌ {A = CodeRow} (Then x r) (Then y s) → r ≡ s
      then_row e = (cc)

-- ---- what is left of the rows

-- below an item that stays
pub stays_on : {registers rows : ℕ} {renaming : Renaming} {home : ℕ → Option ℕ} {kept then_kept : ℕ → Kept} {written then_written : ℕ → Bool} {item : Item} {new : CodeRow}
    → StaysBeside registers rows renaming home kept written item new then_kept then_written → (next : CodeRow) (other : Item) (rest : CodeRow) → new ≡ Then other rest
    → RowRenames registers rows renaming home kept written (Then item next) new → RowRenames registers rows renaming home then_kept then_written next rest
stays_on {registers} {rows} {renaming} {home} {kept} {then_kept} {written} {then_written} {item} {new} beside next other rest is does =
    subst (λ (r : CodeRow). RowRenames registers rows renaming home then_kept then_written next r) (then_row (sym beside.is ∙ is))
    (below (subst (λ (r : CodeRow). RowRenames registers rows renaming home kept written (Then item next) r) beside.is does))
  where
    then_row : {x y : Item} {r s : CodeRow} → ◌≡◌ {A = CodeRow} (Then x r) (Then y s) → r ≡ s
    then_row e = (cc)

    below : RowRenames registers rows renaming home kept written (Then item next) (Then beside.other beside.rest)
        → RowRenames registers rows renaming home then_kept then_written next beside.rest
    below (With {then_kept = later} stays after) =
        let once = stays_once stays beside.stays in
        subst (λ (k : ℕ → Kept). RowRenames registers rows renaming home k then_written next beside.rest) once.0
        (subst (λ (w : ℕ → Bool). RowRenames registers rows renaming home later w next beside.rest) once.1 after)
    below (Without goes after) = instead beside.stays beside.alike
      where
        instead : ItemStays registers home kept written item beside.other then_kept then_written → WriteAlike renaming item beside.other beside.rest
            → RowRenames registers rows renaming home then_kept then_written next beside.rest
        instead (Writes_none same none kept_is written_is) alike = absurd (goes_nothing goes none)
        instead (Writes_one {dest = dest} {made = made} same first second was_before there free kept_is written_is) alike =
            let gone = gone_so dest goes first in
            subst (λ (k : ℕ → Kept). RowRenames registers rows renaming home k then_written next beside.rest) (sym kept_is)
            (subst (λ (w : ℕ → Bool). RowRenames registers rows renaming home (with_kept dest (Made made) kept) w next beside.rest) (sym written_is)
            (goes_or_stays dest made gone (gives_too same ∙ gone.only) second (alike dest made first second) after))

-- below an item that goes
pub goes_on : {registers rows : ℕ} {renaming : Renaming} {home : ℕ → Option ℕ} {kept then_kept : ℕ → Kept} {written : ℕ → Bool} {item : Item} {next new : CodeRow}
    → GoesBeside rows renaming home kept written item new then_kept → NeverStays registers rows renaming home kept written item new
    → RowRenames registers rows renaming home kept written (Then item next) new → RowRenames registers rows renaming home then_kept written next new
goes_on {registers} {next = next} beside never (With {other = other} {after = rest} stays after) = absurd (never next other rest _ _ refl stays after)
goes_on {registers} {next = next} beside never (Without goes after) = beside.leaves registers next _ goes after

pub ruleset writing_laws = (first_writes_none, second_writes_none, written_alike, written_apart)

pub ruleset goes_laws = (goes_as_copy, goes_not_as_copy, goes_unneeded, goes_not_unneeded, goes_not_without_dest)

pub ruleset both_laws = (stays_not_at_all, stays_not_apart)
