-- Of two rows one does the other in one way at most, which what is wanted below decides.
use Rattle.std.proofs.Common.{◌≡◌, ◌⊎◌, ℕ, Bool, true, false, nat_eq, Option, Some, refl, sym, ◌∙◌, ap, subst, inl, inr}
use Rattle.std.specs.Prelude.{if◌then◌else◌, ◌||◌, ⊤}
use Rattle.pc_word.specs.declared.item.Item.{Item}
use Rattle.pc_word.specs.declared.item.Item.TheVariants.{Copy}
use Rattle.pc_word.specs.declared.item.Operand.TheVariants.{Name}
use Rattle.pc_word.specs.Items.{dest_of}
use Rattle.pc_word.specs.Row.{Then}
use Rattle.pc_word.proofs.Truth.{or_false, or_second}
use Rattle.pc_word.proofs.Places.{same_number, own_number}
use Rattle.pc_machine.specs.MachineCode.{CodeRow}
use Rattle.pc_renaming.specs.declared.kept.Kept.{Kept}
use Rattle.pc_renaming.specs.declared.kept.Kept.TheVariants.{Before, Was, Made, Lost}
use Rattle.pc_renaming.specs.Renaming.{Renaming, with_kept, with_written, StandsIn}
use Rattle.pc_renaming.specs.ItemRenames.{ItemRenames, Same_bin, Same_copy, Same_load, Same_store, Same_print, Same_read, Same_more, only_gives}
use Rattle.pc_renaming.specs.RowRenames.{ItemGoes, Unneeded, Copied, ItemStays, Writes_none, Writes_one, Ends, Leads, RowRenames, Without, With, Both_sides, At_end}
use Rattle.pc_renaming.specs.models.Wanted.{IsWanted, AreWantedAlike, Wanted_there, Not_wanted, AreWantedApart, Elsewhere, As_another, MadeIsWritten, IsCopyOf}
use Rattle.pc_renaming.proofs.Alike.{no_dest}

pub one_dest : {a b : ℕ} → ◌≡◌ {A = Option ℕ} (Some a) (Some b) → a ≡ b
one_dest e = (cc)

-- ---- where a value may stand above a leaf that leads to where it is wanted

abbrev MayStand : (ℕ → Bool) → ℕ → Kept → Type 0
MayStand written place Before = written place ≡ false
MayStand written place (Was other) = (other ≡ place) × (written place ≡ false)
MayStand written place (Made other) = other ≡ place
MayStand written place Lost = ⊥

stands_so : (home : ℕ → Option ℕ) (written : ℕ → Bool) (register place : ℕ) (k : Kept) → StandsIn home written register place k → MayStand written place k
stands_so home written register place Before is = is.1
stands_so home written register place (Was other) is = is
stands_so home written register place (Made other) is = is
stands_so home written register place Lost is = is

-- so it may with fewer registers written
freer : (written : ℕ → Bool) (made place : ℕ) (k : Kept) → MayStand (with_written made written) place k → MayStand written place k
freer written made place Before is = (or_false (nat_eq made place) (written place) is).1
freer written made place (Was other) is = (is.0, (or_false (nat_eq made place) (written place) is.1).1)
freer written made place (Made other) is = is
freer written made place Lost is = is

-- in a place that is written there is what was made
is_made : (written : ℕ → Bool) (place : ℕ) (k : Kept) → MayStand written place k → written place ≡ true → k ≡ Made place
is_made written place Before is at = absurd (cc)
is_made written place (Was other) is at = let free = is.1 in absurd (cc)
is_made written place (Made other) is at = ap Made is
is_made written place Lost is at = absurd is

now_written : (made : ℕ) (written : ℕ → Bool) → with_written made written made ≡ true
now_written made written = ap (λ (b : Bool). b || written made) (own_number made)

module _ {home : ℕ → Option ℕ} {kept then_kept : ℕ → Kept} where
  above_gone : {x : Item} → ItemGoes home kept x then_kept → (written : ℕ → Bool) (register there : ℕ) → MayStand written there (then_kept register) → MayStand written there (kept register)
  above_gone (Unneeded {item} {dest} is only then_is) written register there may =
      elim (nat_eq dest register) as (λ b. MayStand written there (if b then Lost else kept register) → MayStand written there (kept register)) [
        | true ↦ λ m. absurd m
        | false ↦ λ m. m
      ] (subst (λ (k : ℕ → Kept). MayStand written there (k register)) then_is may)
  above_gone (Copied {dest} {from} {place} was_before at then_is) written register there may =
      elim (nat_eq dest register) as (λ b. nat_eq dest register ≡ b → MayStand written there (if b then Was place else kept register) → MayStand written there (kept register)) [
        | true ↦ λ same m. subst (λ r. MayStand written there (kept r)) (same_number dest register same) (subst (λ (k : Kept). MayStand written there k) (sym was_before) m.1)
        | false ↦ λ apart m. m
      ] refl (subst (λ (k : ℕ → Kept). MayStand written there (k register)) then_is may)

module _ {registers : ℕ} {home : ℕ → Option ℕ} {kept then_kept : ℕ → Kept} {written then_written : ℕ → Bool} {x y : Item} where
  above_stays : ItemStays registers home kept written x y then_kept then_written → (register place : ℕ) → MayStand then_written place (then_kept register) → MayStand written place (kept register)
  above_stays (Writes_none same none kept_is written_is) register place may =
      subst (λ (k : ℕ → Kept). MayStand written place (k register)) kept_is (subst (λ (w : ℕ → Bool). MayStand w place (then_kept register)) written_is may)
  above_stays (Writes_one {item} {other} {dest} {made} same is other_is was_before below free kept_is written_is) register place may =
      elim (nat_eq dest register) as (λ b. nat_eq dest register ≡ b → MayStand (with_written made written) place (if b then Made made else kept register) → MayStand written place (kept register)) [
        | true ↦ λ at m. subst (λ r. MayStand written place (kept r)) (same_number dest register at)
            (subst (λ (k : Kept). MayStand written place k) (sym was_before) (subst (λ p. written p ≡ false) m free))
        | false ↦ λ apart m. freer written made place (kept register) m
      ] refl
      (subst (λ (k : ℕ → Kept). MayStand (with_written made written) place (k register)) kept_is (subst (λ (w : ℕ → Bool). MayStand w place (then_kept register)) written_is may))

module _ {registers rows : ℕ} {renaming : Renaming} {home : ℕ → Option ℕ} where
  -- what is wanted below may stand so above
  may_stand : {kept : ℕ → Kept} {written : ℕ → Bool} {row other : CodeRow} → RowRenames registers rows renaming home kept written row other
      → (register place : ℕ) → IsWanted renaming register place other → MayStand written place (kept register)
  may_stand {kept} {written} (Without goes rest) register place wanted = above_gone goes written register place (may_stand rest register place wanted)
  may_stand (With stays rest) register place wanted = above_stays stays register place (may_stand rest register place wanted)
  may_stand (Both_sides same on_yes on_no) register place (inl wanted) = may_stand on_yes register place wanted
  may_stand (Both_sides same on_yes on_no) register place (inr wanted) = may_stand on_no register place wanted
  may_stand (At_end (Ends none)) register place wanted = let some = wanted.1 in absurd (cc)
  may_stand {kept} {written} (At_end (Leads {target} {to} below is found)) register place wanted =
      stands_so home written register place (kept register) (found register place (subst (λ t. renaming.holds t register ≡ Some place) (sym (one_dest wanted.1)) wanted.2))

-- ---- where a place is still to be written, no value stands that was there

not_gone : {home : ℕ → Option ℕ} {kept then_kept : ℕ → Kept} {x : Item} → ItemGoes home kept x then_kept → (register : ℕ) (k : Kept)
    → (k ≡ Lost → ⊥) → ((place : ℕ) → k ≡ Was place → ⊥) → then_kept register ≡ k → kept register ≡ k
not_gone {kept = kept} (Unneeded {item} {dest} is only then_is) register k not_lost not_was at =
    elim (nat_eq dest register) as (λ b. (if b then Lost else kept register) ≡ k → kept register ≡ k) [
      | true ↦ λ e. absurd (not_lost (sym e))
      | false ↦ λ e. e
    ] (sym (ap (λ (k : ℕ → Kept). k register) then_is) ∙ at)
not_gone {kept = kept} (Copied {dest} {from} {place} was_before there then_is) register k not_lost not_was at =
    elim (nat_eq dest register) as (λ b. (if b then Was place else kept register) ≡ k → kept register ≡ k) [
      | true ↦ λ e. absurd (not_was place (sym e))
      | false ↦ λ e. e
    ] (sym (ap (λ (k : ℕ → Kept). k register) then_is) ∙ at)

module _ {registers rows : ℕ} {renaming : Renaming} {home : ℕ → Option ℕ} where
  written_later : {kept : ℕ → Kept} {written : ℕ → Bool} {row rest : CodeRow} {y : Item} → RowRenames registers rows renaming home kept written row (Then y rest)
      → (made : ℕ) → dest_of y ≡ Some made → (register : ℕ) → IsWanted renaming register made rest → (kept register ≡ Before) ⊎ (kept register ≡ Made made)
  written_later (Without goes below) made is register wanted = elim (written_later below made is register wanted) [
    | inl e ↦ inl (not_gone goes register Before (λ c. absurd (cc)) (λ p c. absurd (cc)) e)
    | inr e ↦ inr (not_gone goes register (Made made) (λ c. absurd (cc)) (λ p c. absurd (cc)) e)
  ]
  written_later (With (Writes_none same none kept_is written_is) below) made is register wanted = let clash = no_dest same none in absurd (cc)
  written_later {kept} {written} (With {then_kept = later} {then_written = later_written}
      (Writes_one {item} {other} {dest} {made = place} same item_is other_is was_before there free kept_is written_is) below) made is register wanted =
      let one : place ≡ made = one_dest (sym other_is ∙ is) in
      let at : later_written made ≡ true = ap (λ (w : ℕ → Bool). w made) written_is ∙ subst (λ p. with_written p written made ≡ true) (sym one) (now_written made written) in
      let made_at : later register ≡ Made made = is_made later_written made (later register) (may_stand below register made wanted) at in
      elim (nat_eq dest register) as (λ b. nat_eq dest register ≡ b → (if b then Made place else kept register) ≡ Made made → (kept register ≡ Before) ⊎ (kept register ≡ Made made)) [
        | true ↦ λ e c. inl (subst (λ r. kept r ≡ Before) (same_number dest register e) was_before)
        | false ↦ λ e c. inr c
      ] refl (sym (ap (λ (k : ℕ → Kept). k register) kept_is) ∙ made_at)

-- ---- where values stand that nothing wants does not matter

abbrev pub NotBefore : Kept → Type 0
NotBefore Before = ⊥
NotBefore (Was place) = ⊤
NotBefore (Made place) = ⊤
NotBefore Lost = ⊤

abbrev Alike : Renaming → (ℕ → Kept) → (ℕ → Kept) → CodeRow → Type 0
Alike renaming kept other row =
    (register : ℕ) → (kept register ≡ other register) ⊎ (NotBefore (kept register) × NotBefore (other register) × ((place : ℕ) → IsWanted renaming register place row → ⊥))

module _ (renaming : Renaming) (row : CodeRow) {kept other : ℕ → Kept} (alike : Alike renaming kept other row) where
  alike_before : (register : ℕ) → kept register ≡ Before → other register ≡ Before
  alike_before register is = elim (alike register) [
    | inl same ↦ sym same ∙ is
    | inr apart ↦ absurd (subst NotBefore is apart.0)
  ]

  alike_more : (dest : ℕ) (k : Kept) → Alike renaming (with_kept dest k kept) (with_kept dest k other) row
  alike_more dest k register =
      elim (nat_eq dest register) as (λ b. ((if b then k else kept register) ≡ (if b then k else other register))
      ⊎ (NotBefore (if b then k else kept register) × NotBefore (if b then k else other register) × ((place : ℕ) → IsWanted renaming register place row → ⊥))) [
        | true ↦ inl refl
        | false ↦ alike register
      ]

  alike_goes : {home : ℕ → Option ℕ} {x : Item} {then_kept : ℕ → Kept} → ItemGoes home kept x then_kept
      → (then_other : ℕ → Kept) × ItemGoes home other x then_other × Alike renaming then_kept then_other row
  alike_goes (Unneeded {item} {dest} is only then_is) = (
    with_kept dest Lost other,
    Unneeded is only refl,
    subst (λ (k : ℕ → Kept). Alike renaming k (with_kept dest Lost other) row) (sym then_is) (alike_more dest Lost),
  )
  alike_goes (Copied {dest} {from} {place} was_before at then_is) = (
    with_kept dest (Was place) other,
    Copied (alike_before dest was_before) at refl,
    subst (λ (k : ℕ → Kept). Alike renaming k (with_kept dest (Was place) other) row) (sym then_is) (alike_more dest (Was place)),
  )

  alike_stays : {registers : ℕ} {home : ℕ → Option ℕ} {written then_written : ℕ → Bool} {x y : Item} {then_kept : ℕ → Kept} → ItemStays registers home kept written x y then_kept then_written
      → (then_other : ℕ → Kept) × ItemStays registers home other written x y then_other then_written × Alike renaming then_kept then_other row
  alike_stays (Writes_none same none kept_is written_is) =
      (other, Writes_none same none refl written_is, subst (λ (k : ℕ → Kept). Alike renaming k other row) (sym kept_is) alike)
  alike_stays (Writes_one {item} {other = one} {dest} {made} same is other_is was_before below free kept_is written_is) = (
    with_kept dest (Made made) other,
    Writes_one same is other_is (alike_before dest was_before) below free refl written_is,
    subst (λ (k : ℕ → Kept). Alike renaming k (with_kept dest (Made made) other) row) (sym kept_is) (alike_more dest (Made made)),
  )

module _ {registers rows : ℕ} {renaming : Renaming} {home : ℕ → Option ℕ} where
  also_renames : {kept : ℕ → Kept} {written : ℕ → Bool} {row new : CodeRow} → RowRenames registers rows renaming home kept written row new
      → (other : ℕ → Kept) → Alike renaming kept other new → RowRenames registers rows renaming home other written row new
  also_renames {new = new} (Without goes rest) other alike = let more = alike_goes renaming new alike goes in Without more.1 (also_renames rest more.0 more.2)
  also_renames {new = Then y new} (With stays rest) other alike = let more = alike_stays renaming new alike stays in With more.1 (also_renames rest more.0 more.2)
  also_renames {kept} (Both_sides {before_yes = row_yes} {before_no = row_no} {after_yes = new_yes} {after_no = new_no} same on_yes on_no) other alike = Both_sides same
      (also_renames on_yes other (λ q. elim (alike q) [ inl e ↦ inl e | inr apart ↦ inr (apart.0, apart.1, λ p w. apart.2 p (inl w)) ]))
      (also_renames on_no other (λ q. elim (alike q) [ inl e ↦ inl e | inr apart ↦ inr (apart.0, apart.1, λ p w. apart.2 p (inr w)) ]))
  also_renames (At_end (Ends none)) other alike = At_end (Ends none)
  also_renames {kept} {written} (At_end (Leads {target} {to} below is found)) other alike = At_end {kept = other} (Leads below is
      (λ register place there. elim (alike register) [
        | inl same ↦ subst (λ (k : Kept). StandsIn home written register place k) same (found register place there)
        | inr apart ↦ absurd (apart.2 place (to, refl, there))
      ]))

-- ---- an item that is wanted nowhere may be the first that could be it

pub gives_too : {registers : ℕ} {home : ℕ → Option ℕ} {x y : Item} → ItemRenames registers home x y → only_gives y ≡ only_gives x
gives_too (Same_bin l r) = refl
gives_too (Same_copy from) = refl
gives_too (Same_load i) = refl
gives_too (Same_store i v) = refl
gives_too (Same_print v) = refl
gives_too Same_read = refl
gives_too Same_more = refl

module _ {registers rows : ℕ} {renaming : Renaming} {home : ℕ → Option ℕ} where
  earlier : {kept : ℕ → Kept} {written : ℕ → Bool} {row rest : CodeRow} {y : Item} → RowRenames registers rows renaming home kept written row (Then y rest)
      → (other : ℕ → Kept) (made : ℕ) → dest_of y ≡ Some made → only_gives y ≡ true → ((register : ℕ) → IsWanted renaming register made rest → ⊥)
      → Alike renaming kept other rest → RowRenames registers rows renaming home other (with_written made written) row rest
  earlier {rest = rest} (Without goes below) other made is only none alike =
      let more = alike_goes renaming rest alike goes in Without more.1 (earlier below more.0 made is only none more.2)
  earlier (With (Writes_none same none_is kept_is written_is) below) other made is only none alike = let clash = no_dest same none_is in absurd (cc)
  earlier {kept} {written} {rest = rest} (With {then_kept = later} {before = next}
      (Writes_one {item} {other = one} {dest} {made = place} same item_is other_is was_before there free kept_is written_is) below) other made is only none alike =
      Without (Unneeded item_is (sym (gives_too same) ∙ only) refl) (also_renames left (with_kept dest Lost other) still)
    where
      at : place ≡ made
      at = one_dest (sym other_is ∙ is)

      left : RowRenames registers rows renaming home (with_kept dest (Made made) kept) (with_written made written) next rest
      left =
          subst (λ p. RowRenames registers rows renaming home (with_kept dest (Made p) kept) (with_written p written) next rest) at
          (subst (λ (k : ℕ → Kept). RowRenames registers rows renaming home k (with_written place written) next rest) kept_is
          (subst (λ (w : ℕ → Bool). RowRenames registers rows renaming home later w next rest) written_is below))

      none_at : (register : ℕ) → nat_eq dest register ≡ true → (p : ℕ) → IsWanted renaming register p rest → ⊥
      none_at register e p wanted =
          let may : MayStand (with_written made written) p (if nat_eq dest register then Made made else kept register) = may_stand left register p wanted in
          let there_is : made ≡ p = subst (λ b. MayStand (with_written made written) p (if b then Made made else kept register)) e may in
          none register (subst (λ q. IsWanted renaming register q rest) (sym there_is) wanted)

      still : Alike renaming (with_kept dest (Made made) kept) (with_kept dest Lost other) rest
      still register =
          elim (nat_eq dest register) as (λ b. nat_eq dest register ≡ b → ((if b then Made made else kept register) ≡ (if b then Lost else other register))
          ⊎ (NotBefore (if b then Made made else kept register) × NotBefore (if b then Lost else other register) × ((p : ℕ) → IsWanted renaming register p rest → ⊥))) [
            | true ↦ λ e. inr (tt, tt, none_at register e)
            | false ↦ λ e. alike register
          ] refl

-- ---- the choice

-- what an item that stays leads to is determined
pub stays_once : {registers : ℕ} {home : ℕ → Option ℕ} {kept first second : ℕ → Kept} {written first_written second_written : ℕ → Bool} {x y : Item}
    → ItemStays registers home kept written x y first first_written → ItemStays registers home kept written x y second second_written
    → (first ≡ second) × (first_written ≡ second_written)
stays_once (Writes_none same none kept_is written_is) (Writes_none also also_none also_kept also_written) = (kept_is ∙ sym also_kept, written_is ∙ sym also_written)
stays_once (Writes_none same none kept_is written_is) (Writes_one also is other_is was_before below free also_kept also_written) = let clash = sym none ∙ is in absurd (cc)
stays_once (Writes_one also is other_is was_before below free also_kept also_written) (Writes_none same none kept_is written_is) = let clash = sym none ∙ is in absurd (cc)
stays_once {kept = kept} {written = written} (Writes_one {dest} {made} same is other_is was_before below free kept_is written_is)
    (Writes_one {dest = dest'} {made = made'} same' is' other_is' was_before' below' free' kept_is' written_is') =
    let one : dest ≡ dest' = one_dest (sym is ∙ is') in
    let place : made ≡ made' = one_dest (sym other_is ∙ other_is') in (
      kept_is ∙ ap (λ d. with_kept d (Made made) kept) one ∙ ap (λ m. with_kept dest' (Made m) kept) place ∙ sym kept_is',
      written_is ∙ ap (λ m. with_written m written) place ∙ sym written_is',
    )

here : (dest : ℕ) (k : Kept) (kept : ℕ → Kept) → with_kept dest k kept dest ≡ k
here dest k kept = ap (λ (b : Bool). if b then k else kept dest) (own_number dest)

-- where the value stands of a register whose item goes
pub record Gone (kept : ℕ → Kept) (x : Item) (dest : ℕ) (then_kept : ℕ → Kept) : Type 0 where
  pub stands : Kept
  pub only : only_gives x ≡ true
  pub not_before : NotBefore stands
  pub not_made : (place : ℕ) → stands ≡ Made place → ⊥
  pub is : then_kept ≡ with_kept dest stands kept

pub gone_so : {home : ℕ → Option ℕ} {kept then_kept : ℕ → Kept} {x : Item} (dest : ℕ) → ItemGoes home kept x then_kept → dest_of x ≡ Some dest → Gone kept x dest then_kept
gone_so {kept = kept} dest (Unneeded {dest = at} at_is only then_is) is = record {
  stands = Lost;
  only = only;
  not_before = tt;
  not_made = λ place e. absurd (cc);
  is = then_is ∙ ap (λ d. with_kept d Lost kept) (one_dest (sym at_is ∙ is));
}
gone_so {kept = kept} dest (Copied {dest = at} {from} {place} was_before there then_is) is = record {
  stands = Was place;
  only = refl;
  not_before = tt;
  not_made = λ other e. absurd (cc);
  is = then_is ∙ ap (λ d. with_kept d (Was place) kept) (one_dest is);
}

pub record GoneAsCopy (home : ℕ → Option ℕ) (kept : ℕ → Kept) (x : Item) (dest place : ℕ) (then_kept : ℕ → Kept) : Type 0 where
  pub copy : IsCopyOf home kept x dest place
  pub then_kept_is : then_kept ≡ with_kept dest (Was place) kept

-- where no leaf leads to where the value is wanted, it does not matter where it stands
unwanted_alike : (renaming : Renaming) (row : CodeRow) (kept : ℕ → Kept) (dest : ℕ) (one other : Kept) → NotBefore one → NotBefore other
    → ((place : ℕ) → IsWanted renaming dest place row → ⊥) → Alike renaming (with_kept dest one kept) (with_kept dest other kept) row
unwanted_alike renaming row kept dest one other not_one not_other none register =
    elim (nat_eq dest register) as (λ b. nat_eq dest register ≡ b → ((if b then one else kept register) ≡ (if b then other else kept register))
    ⊎ (NotBefore (if b then one else kept register) × NotBefore (if b then other else kept register) × ((p : ℕ) → IsWanted renaming register p row → ⊥))) [
      | true ↦ λ e. inr (not_one, not_other, λ p wanted. none p (subst (λ r. IsWanted renaming r p row) (sym (same_number dest register e)) wanted))
      | false ↦ λ e. inl refl
    ] refl

module _ {registers rows : ℕ} {renaming : Renaming} {home : ℕ → Option ℕ} {kept then_kept : ℕ → Kept} {written : ℕ → Bool} where
  -- where an item goes though the next one of the row after may be it, that one is another item's, which may go in its stead
  pub goes_or_stays : {x y : Item} {next rest : CodeRow} (dest made : ℕ) → Gone kept x dest then_kept → only_gives y ≡ true → dest_of y ≡ Some made → AreWantedAlike renaming dest made rest
      → RowRenames registers rows renaming home then_kept written next (Then y rest)
      → RowRenames registers rows renaming home (with_kept dest (Made made) kept) (with_written made written) next rest
  goes_or_stays dest made gone only is (Wanted_there wanted) below =
      let at : then_kept dest ≡ gone.stands = ap (λ (k : ℕ → Kept). k dest) gone.is ∙ here dest gone.stands kept in
      elim (written_later below made is dest wanted) [
        | inl e ↦ absurd (subst NotBefore (sym at ∙ e) gone.not_before)
        | inr e ↦ absurd (gone.not_made made (sym at ∙ e))
      ]
  goes_or_stays {rest = rest} dest made gone only is (Not_wanted none none_other) below =
      earlier below (with_kept dest (Made made) kept) made is only none_other
      (subst (λ (k : ℕ → Kept). Alike renaming k (with_kept dest (Made made) kept) rest) (sym gone.is)
      (unwanted_alike renaming rest kept dest gone.stands (Made made) gone.not_before tt none))

  -- an item that goes whose value is wanted is a copy of what stands there
  pub goes_wanted : {x : Item} {next new : CodeRow} (dest place : ℕ) → ItemGoes home kept x then_kept → dest_of x ≡ Some dest → IsWanted renaming dest place new
      → RowRenames registers rows renaming home then_kept written next new
      → GoneAsCopy home kept x dest place then_kept
  goes_wanted dest place (Unneeded {dest = at} at_is only then_is) is wanted below =
      let one : at ≡ dest = one_dest (sym at_is ∙ is) in
      let stands : then_kept dest ≡ Lost = ap (λ (k : ℕ → Kept). k dest) then_is ∙ ap (λ d. with_kept d Lost kept dest) one ∙ here dest Lost kept in
      absurd (subst (MayStand written place) stands (may_stand below dest place wanted))
  goes_wanted dest place (Copied {dest = at} {from} {place = was} was_before there then_is) is wanted below =
      let one : at ≡ dest = one_dest is in
      let stands : then_kept dest ≡ Was was = ap (λ (k : ℕ → Kept). k dest) then_is ∙ ap (λ d. with_kept d (Was was) kept dest) one ∙ here dest (Was was) kept in
      let same : was ≡ place = (subst (MayStand written place) stands (may_stand below dest place wanted)).0 in
      record {
        copy = record { from = from; is = ap (λ d. Copy d (Name from)) one; before = subst (λ d. kept d ≡ Before) one was_before; there = there ∙ ap Some same };
        then_kept_is = then_is ∙ ap (λ d. with_kept d (Was was) kept) one ∙ ap (λ p. with_kept dest (Was p) kept) same;
      }

  -- and one whose value is not wanted leaves it nowhere
  pub goes_unwanted : {x : Item} {next new : CodeRow} (dest : ℕ) → Gone kept x dest then_kept → ((place : ℕ) → IsWanted renaming dest place new → ⊥)
      → RowRenames registers rows renaming home then_kept written next new → RowRenames registers rows renaming home (with_kept dest Lost kept) written next new
  goes_unwanted {new = new} dest gone none below =
      also_renames below (with_kept dest Lost kept)
      (subst (λ (k : ℕ → Kept). Alike renaming k (with_kept dest Lost kept) new) (sym gone.is) (unwanted_alike renaming new kept dest gone.stands Lost gone.not_before tt none))

  -- an item stays only where what the two write is wanted alike
  pub stays_apart : {then_written : ℕ → Bool} {x y : Item} {next rest : CodeRow} (dest made : ℕ) → MadeIsWritten kept written → ItemStays registers home kept written x y then_kept then_written
      → dest_of x ≡ Some dest → dest_of y ≡ Some made → AreWantedApart renaming dest made rest → RowRenames registers rows renaming home then_kept then_written next rest → ⊥
  stays_apart dest made marked (Writes_none same none kept_is written_is) is other_is apart below = let clash = sym none ∙ is in cc
  stays_apart {then_written} dest made marked (Writes_one {dest = at} {made = put} same at_is put_is was_before there free kept_is written_is) is other_is (Elsewhere other wanted elsewhere) below =
      let one : at ≡ dest = one_dest (sym at_is ∙ is) in
      let place : put ≡ made = one_dest (sym put_is ∙ other_is) in
      let stands : then_kept dest ≡ Made put = ap (λ (k : ℕ → Kept). k dest) kept_is ∙ ap (λ d. with_kept d (Made put) kept dest) one ∙ here dest (Made put) kept in
      elsewhere (sym (subst (MayStand then_written other) stands (may_stand below dest other wanted)) ∙ place)
  stays_apart {then_written} {rest = rest} dest made marked (Writes_one {dest = at} {made = put} same at_is put_is was_before there free kept_is written_is) is other_is
      (As_another other none wanted) below =
      let place : put ≡ made = one_dest (sym put_is ∙ other_is) in
      let now : then_written made ≡ true = ap (λ (w : ℕ → Bool). w made) written_is ∙ subst (λ p. with_written p written made ≡ true) (sym place) (now_written made written) in
      let stands : then_kept other ≡ Made made = is_made then_written made (then_kept other) (may_stand below other made wanted) now in
      elim (nat_eq at other) as (λ b. nat_eq at other ≡ b → (if b then Made put else kept other) ≡ Made made → ⊥) [
        | true ↦ λ e c.
            let it : dest ≡ other = sym (one_dest (sym at_is ∙ is)) ∙ same_number at other e in
            none made (subst (λ r. IsWanted renaming r made rest) (sym it) wanted)
        | false ↦ λ e c. let t = marked other made c in let f : written made ≡ false = subst (λ p. written p ≡ false) place free in absurd (cc)
      ] refl (sym (ap (λ (k : ℕ → Kept). k other) kept_is) ∙ stands)

-- ---- what is made is written, all the way down

pub marked_goes : {home : ℕ → Option ℕ} {kept then_kept : ℕ → Kept} {written : ℕ → Bool} {x : Item} → ItemGoes home kept x then_kept → MadeIsWritten kept written → MadeIsWritten then_kept written
marked_goes goes marked register place made = marked register place (not_gone goes register (Made place) (λ c. absurd (cc)) (λ p c. absurd (cc)) made)

pub marked_stays : {registers : ℕ} {home : ℕ → Option ℕ} {kept then_kept : ℕ → Kept} {written then_written : ℕ → Bool} {x y : Item}
    → ItemStays registers home kept written x y then_kept then_written → MadeIsWritten kept written → MadeIsWritten then_kept then_written
marked_stays (Writes_none same none kept_is written_is) marked register place made =
    ap (λ (w : ℕ → Bool). w place) written_is ∙ marked register place (sym (ap (λ (k : ℕ → Kept). k register) kept_is) ∙ made)
marked_stays {kept = kept} {written = written} (Writes_one {dest} {made = put} same is other_is was_before below free kept_is written_is) marked register place made =
    ap (λ (w : ℕ → Bool). w place) written_is ∙ elim (nat_eq dest register) as (λ b. (if b then Made put else kept register) ≡ Made place → with_written put written place ≡ true) [
      | true ↦ λ c. let same_place : put ≡ place = (cc) in subst (λ p. with_written p written place ≡ true) (sym same_place) (now_written place written)
      | false ↦ λ c. or_second (nat_eq put place) (written place) (marked register place c)
    ] (sym (ap (λ (k : ℕ → Kept). k register) kept_is) ∙ made)
