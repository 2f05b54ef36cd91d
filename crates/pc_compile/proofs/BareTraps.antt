-- A region that is a trap alone is never refused, so it is never plain.
use Rattle.std.specs.Prelude.{ℤ}
use Rattle.std.proofs.Common.{◌≡◌, ℕ, zero, suc, ◌<◌, ◌≤◌, List, [], ◌∷◌, length, Option, Some, None, refl, sym, ◌∙◌, ap, subst, arith}
use Rattle.pc_word.specs.declared.item.Limits.{Limits}
use Rattle.pc_word.specs.declared.item.Extent.{Extent}
use Rattle.pc_word.specs.declared.item.TrapKind.{TrapKind}
use Rattle.pc_word.specs.MachineLimits.{most_object, most_rows}
use Rattle.pc_table.specs.Table.{Table, Traps_here, region_tree}
use Rattle.pc_automaton.specs.Automaton.{AutomatonState}
use Rattle.pc_assign.specs.Pressure.{pressure_of, IsFirstHigh}
use Rattle.pc_pattern.specs.Searches.{HasNoPattern}
use Rattle.pc_pattern.specs.Pattern.{IsFound}
use Rattle.pc_pattern.specs.Laws.{trap_state}
use Rattle.pc_assign.specs.Assigned.{Registers}
use Rattle.pc_emit.specs.Emitted.{RegionForm, Plain, ByAutomaton}
use Rattle.pc_emit.specs.Bytes.{states_bytes, plain_bytes, object_bytes}
use Rattle.pc_compile.specs.declared.choice.Cause.{Cause}
use Rattle.pc_compile.specs.declared.choice.Form.{Form}
use Rattle.pc_compile.specs.Choosing.{bytes_with, packs, IsFormRefused, Many_rows, High_pressure, Many_bytes, Gets, Gets_plain}
use Rattle.pc_compile.proofs.Counting.{counted_with, plain_within}

-- the pressure of the state of a trap alone is low
trap_is_low : (kind : TrapKind) (line number live : ℕ) → IsFirstHigh (trap_state kind line ∷ []) number live → ⊥
trap_is_low kind line zero live high =
    let is : trap_state kind line ≡ high.state = (let there : Some (trap_state kind line) ≡ Some high.state = high.there in cc) in
    let none : live ≡ 0 = high.is_live ∙ ap pressure_of (sym is) in
    let above = high.high in
    omega (arith, none, above)
trap_is_low kind line (suc number) live high = let there : None ≡ Some high.state = high.there in cc

-- and it is no longer than a plain region
trap_is_short : (kind : TrapKind) (line : ℕ) → states_bytes (trap_state kind line ∷ []) ≡ plain_bytes (Traps_here kind line)
trap_is_short kind line = refl

module _ (table : Table) (initial : List (List ℤ)) (limits : Limits) (extent : Extent) (region line : ℕ) (kind : TrapKind) (is : region_tree table region ≡ Traps_here kind line)
    (never : HasNoPattern (packs table limits) region most_rows → ⊥)
    (alone : (states : List AutomatonState) → IsFound (packs table limits) region most_rows states → states ≡ trap_state kind line ∷ [])
    (forms : ℕ → Option RegionForm) (there : region < length table.regions) (free : forms region ≡ None) (short : object_bytes table initial forms ≤ most_object) where
  no_longer : (states : List AutomatonState) (registers : Registers) → states ≡ trap_state kind line ∷ []
      → bytes_with table initial forms region (ByAutomaton states registers) ≡ object_bytes table initial forms
  no_longer states registers one =
      let counted = counted_with table initial forms region there free (ByAutomaton states registers) in
      let within = plain_within table initial forms region there free in
      let same : states_bytes states ≡ plain_bytes (region_tree table region) = ap states_bytes one ∙ trap_is_short kind line ∙ ap plain_bytes (sym is) in
      omega (arith, counted, within, same)

  not_refused : (cause : Cause) → IsFormRefused (packs table limits) region most_rows (bytes_with table initial forms region) cause → ⊥
  not_refused cause (Many_rows none) = never none
  not_refused cause (High_pressure {states} {number} {live} found high) =
      trap_is_low kind line number live (subst (λ (s : List AutomatonState). IsFirstHigh s number live) (alone states found) high)
  not_refused cause (Many_bytes {states} {registers} has many) =
      let same = no_longer states registers (alone states has.found) in omega (arith, many, same, short)

  pub trap_not_plain : (form : Form) (causes : List Cause) → Gets table limits extent region (bytes_with table initial forms region) Plain form causes → ⊥
  trap_not_plain form causes (Gets_plain {cause = cause} passed refused) = not_refused cause refused
