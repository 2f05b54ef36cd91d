-- The search by which a region got its form finds states, and finds them again.
use Rattle.std.proofs.Common.{◌≡◌, ℕ, zero, suc, ◌<◌, List, [], ◌∷◌, length, Option, sym, subst, arith}
use Rattle.std.specs.Prelude.{ℤ, slice_index_or}
use Rattle.std.specs.List.{AllByRecursion}
use Rattle.pc_word.specs.declared.item.Extent.{Extent}
use Rattle.pc_word.specs.declared.item.Limits.{Limits}
use Rattle.pc_word.proofs.Lists.{all_both}
use Rattle.pc_table.specs.Table.{Table}
use Rattle.pc_emit.specs.Emitted.{RegionForm}
use Rattle.pc_compile.specs.declared.choice.Cause.{Cause}
use Rattle.pc_compile.specs.declared.choice.Choice.{Choice}
use Rattle.pc_compile.specs.declared.choice.Form.{Form}
use Rattle.pc_compile.specs.Choosing.{Gets, Gets_pipelined, Gets_packed, Gets_plain, choice_of, Choosing, Begins, Takes}
use Rattle.pc_explain.specs.Explained.{search_extent, HasChosen}
use Rattle.pc_explain.specs.models.Searched.{IsSearched}

-- ---- what was chosen

module _ (table : Table) (limits : Limits) (extent : Extent) where
  -- the search of a choice's form finds states
  abbrev pub ChoiceIsSearched : Choice → Type 0
  ChoiceIsSearched choice = IsSearched table limits choice.region (search_extent extent choice.form)

  -- so does that of a form that a region gets
  gets_searched : (region : ℕ) (bytes : RegionForm → ℕ) (chosen : RegionForm) (kind : Form) (causes : List Cause)
      → Gets table limits extent region bytes chosen kind causes → IsSearched table limits region (search_extent extent kind)
  gets_searched region bytes chosen kind causes (Gets_pipelined {states} may has short) = (states, has.found.pattern)
  gets_searched region bytes chosen kind causes (Gets_packed {states} passed has short) = (states, has.found.pattern)
  gets_searched region bytes chosen kind causes (Gets_plain passed refused) = tt

  each_searched : (initial : List (List ℤ)) (found : List ℕ) (choices : List Choice) (forms : ℕ → Option RegionForm)
      → Choosing table initial limits extent found choices forms → AllByRecursion ChoiceIsSearched choices
  each_searched initial found choices forms Begins = tt
  each_searched initial found choices forms (Takes {found = before} {choices = earlier} {forms = had} {region} {chosen} {kind} {causes} choosing next gets) =
      all_both ChoiceIsSearched earlier (choice_of region kind causes ∷ []) (each_searched initial before earlier had choosing)
      (gets_searched region _ chosen kind causes gets, tt)

  pub choices_searched : (choices : List Choice) → HasChosen table limits extent choices → AllByRecursion ChoiceIsSearched choices
  choices_searched choices has = each_searched has.initial has.chosen.found choices has.forms has.chosen.choosing

-- ---- places

-- what holds of each element of a list holds of the one at a place
pub all_item : {X : Type 0} (P : X → Type 0) (xs : List X) (at : ℕ) (x : X) → AllByRecursion P xs → at < length xs → x ≡ slice_index_or xs at x → P x
all_item P [] at x all within is = absurd (omega arith)
all_item P (y ∷ ys) zero x all within is = subst P (sym is) all.0
all_item P (y ∷ ys) (suc at) x all within is = all_item P ys at x all.1 (omega arith) is
