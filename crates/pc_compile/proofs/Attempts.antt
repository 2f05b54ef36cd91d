-- What the states of a search keep, and what comes of trying the form of one.
use Rattle.std.proofs.Common.{◌≡◌, ℕ, suc, ◌+◌, ◌*◌, ◌^◌, ◌<◌, ◌≤◌, List, length, sym, ◌∙◌, ap, subst, arith}
use Rattle.std.specs.Prelude.{nat_eq, true, Result, Ok, Err, IfOk}
use Rattle.std.specs.List.{list_any}
use Rattle.pc_word.specs.declared.item.Limits.{Limits}
use Rattle.pc_word.specs.declared.item.Extent.{Extent}
use Rattle.pc_word.specs.Ranges.{AreLimits}
use Rattle.pc_word.specs.MachineLimits.{most_object, most_rows}
use Rattle.pc_word.proofs.Lists.{all_imply}
use Rattle.pc_table.specs.Table.{Table, region_live}
use Rattle.pc_table.specs.TableKeeps.{TableKeeps}
use Rattle.pc_automaton.specs.declared.automaton.AutomatonState.{AutomatonState as StoredState}
use Rattle.pc_automaton.specs.Automaton.{AutomatonState, state_in, states_in}
use Rattle.pc_assign.specs.Pressure.{most_scratch, IsFirstHigh, LowBefore}
use Rattle.pc_assign.specs.Assigned.{Registers, IsAssigned, BeginsWithVariables}
use Rattle.pc_assign.specs.declared.assigned.Assigned.{Assigned}
use Rattle.pc_assign.specs.Stored.{registers_in}
use Rattle.pc_pattern.specs.Searches.{Rules, HasNoPattern}
use Rattle.pc_pattern.specs.Pattern.{IsFound, rules_for}
use Rattle.pc_emit.specs.Emitted.{RegionForm, ByAutomaton}
use Rattle.pc_emit.specs.Bytes.{states_bytes}
use Rattle.pc_word.specs.declared.out_of_memory.OutOfMemory.{OutOfMemory}
use Rattle.pc_compile.specs.declared.choice.Form.{Form}
use Rattle.pc_compile.specs.declared.choice.Cause.{Cause}
use Rattle.pc_compile.specs.declared.choice.Cause.TheVariants.{Rows, Live, Bytes}
use Rattle.pc_compile.specs.declared.trying.Attempt.{Attempt}
use Rattle.pc_compile.specs.declared.trying.Attempt.TheVariants.{Fits, Refused}
use Rattle.pc_compile.specs.Choosing.{HasRegisters, Gets, Gets_pipelined, Gets_packed, Many_rows, High_pressure, Many_bytes}
use Rattle.pc_compile.specs.models.Giving.{bytes_of, IsAttempt}
use Rattle.pc_compile.proofs.StateBytes.{states_short}
use Rattle.pc_word.proofs.Places.{map_length}

-- ---- what the states of a search keep

-- states that have a low pressure, one and all
low_all : (automaton : List StoredState) → LowBefore most_scratch (states_in automaton) (length automaton) → LowBefore most_scratch (states_in automaton) (length (states_in automaton))
low_all automaton low = subst (λ (n : ℕ). LowBefore most_scratch (states_in automaton) n) (sym (map_length state_in automaton)) low

module _ (rules : Rules) (keeps : TableKeeps rules.table) (region rows : ℕ) where
  pub found_begins : (states : List AutomatonState) → IsFound rules region rows states → BeginsWithVariables states
  found_begins states found = record {
    below = λ first is.
        all_imply (λ variable. list_any (nat_eq variable) (region_live rules.table region) ≡ true) (λ variable. variable < 96) first.parameters
        (λ variable live. keeps.small region variable live) (found.live first is);
  }

  -- low states of a search have few bytes
  pub found_short : AreLimits rules.limits → rows ≤ most_rows → (automaton : List StoredState) → IsFound rules region rows (states_in automaton)
      → LowBefore most_scratch (states_in automaton) (length automaton) → states_bytes (states_in automaton) ≤ 2 * most_object
  found_short ranges most automaton found low =
      let few = found.few in
      states_short rules.table keeps rules.limits ranges (states_in automaton) found.automaton (low_all automaton low) found.there found.fits
      (omega (arith, few, most))

-- there are few of them
pub found_few : (rules : Rules) (region rows : ℕ) → rows ≤ most_rows → (automaton : List StoredState) → IsFound rules region rows (states_in automaton)
    → length automaton < 2 ^ 32
found_few rules region rows most automaton found =
    let few = found.few in let same = map_length state_in automaton in omega (arith, few, same, most)

-- ---- what comes of trying

module _ (rules : Rules) (region rows : ℕ) where
  -- states that registers were given to
  registers_given : (automaton : List StoredState) (registers : Assigned) → IsFound rules region rows (states_in automaton)
      → LowBefore most_scratch (states_in automaton) (length automaton) → IsAssigned (states_in automaton) (registers_in registers)
      → HasRegisters rules region rows (states_in automaton) (registers_in registers)
  registers_given automaton registers found low assigned = record { found = found; low = low_all automaton low; assigned = assigned }

  module _ (counts : RegionForm → ℕ) where
    pub tried_rows : (attempt : Attempt) → HasNoPattern rules region rows → attempt ≡ Refused (Rows (suc rows) rows)
        → IsAttempt rules region rows counts attempt
    tried_rows attempt none refused = subst (IsAttempt rules region rows counts) (sym refused) (Many_rows none)

    pub tried_live : (answer : Result Attempt OutOfMemory) (automaton : List StoredState) (number live : ℕ)
        → IsFound rules region rows (states_in automaton) → IsFirstHigh (states_in automaton) number live
        → IfOk answer (λ attempt. attempt ≡ Refused (Live live most_scratch)) → IfOk answer (IsAttempt rules region rows counts)
    tried_live (Ok attempt) automaton number live found high refused = subst (IsAttempt rules region rows counts) (sym refused) (High_pressure found high)
    tried_live (Err error) automaton number live found high refused = tt

  -- where all else has so many bytes
  module _ (others : ℕ) where
    pub tried_bytes : (table : Table) (attempt : Attempt) (automaton : List StoredState) (registers : Assigned) (bytes : ℕ)
        → IsFound rules region rows (states_in automaton) → LowBefore most_scratch (states_in automaton) (length automaton)
        → IsAssigned (states_in automaton) (registers_in registers) → bytes ≡ others + states_bytes (states_in automaton)
        → most_object < bytes → attempt ≡ Refused (Bytes bytes most_object) → IsAttempt rules region rows (bytes_of table region others) attempt
    tried_bytes table attempt automaton registers bytes found low assigned is many refused =
        subst (IsAttempt rules region rows (bytes_of table region others)) (sym (refused ∙ ap (λ (n : ℕ). Refused (Bytes n most_object)) is))
        (Many_bytes (registers_given automaton registers found low assigned) (subst (λ (n : ℕ). most_object < n) is many))

    pub tried_fits : (table : Table) (automaton : List StoredState) (registers : Assigned) (bytes : ℕ)
        → IsFound rules region rows (states_in automaton) → LowBefore most_scratch (states_in automaton) (length automaton)
        → IsAssigned (states_in automaton) (registers_in registers) → bytes ≡ others + states_bytes (states_in automaton)
        → bytes ≤ most_object → length automaton < 2 ^ 32
        → IsAttempt rules region rows (bytes_of table region others) (Fits automaton registers bytes)
    tried_fits table automaton registers bytes found low assigned is short few = record {
      has = registers_given automaton registers found low assigned;
      counted = is;
      short = short;
      numbers = few;
    }

-- the states of a form were found by a search, within its number of rows
pub form_found : (table : Table) (limits : Limits) (extent : Extent) (region : ℕ) (bytes : RegionForm → ℕ) (states : List AutomatonState)
    (registers : Registers) (kind : Form) (causes : List Cause) → Gets table limits extent region bytes (ByAutomaton states registers) kind causes
    → (number : ℕ) × (rows : ℕ) × HasRegisters (rules_for table limits number) region rows states registers
form_found table limits extent region bytes states registers kind causes (Gets_pipelined may has short) = (extent.window, extent.rows, has)
form_found table limits extent region bytes states registers kind causes (Gets_packed passed has short) = (1, most_rows, has)

-- what `try_form` needs besides its answers
pub ruleset trying = (found_few, tried_rows)
