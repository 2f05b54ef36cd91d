-- The form that a region gets comes of the searches that were tried.
use Rattle.std.proofs.Common.{◌≡◌, ℕ, ◌+◌, ◌≤◌, true, false, List, [], ◌∷◌, ◌++◌, length, sym, ◌∙◌, ap, subst}
use Rattle.pc_word.specs.declared.item.Limits.{Limits}
use Rattle.pc_word.specs.declared.item.Extent.{Extent}
use Rattle.pc_word.specs.MachineLimits.{most_object, most_rows}
use Rattle.pc_table.specs.Table.{Table, region_tree}
use Rattle.pc_automaton.specs.declared.automaton.AutomatonState.{AutomatonState as StoredState}
use Rattle.pc_automaton.specs.Automaton.{state_in, states_in}
use Rattle.pc_assign.specs.declared.assigned.Assigned.{Assigned}
use Rattle.pc_assign.specs.Stored.{registers_in}
use Rattle.pc_emit.specs.declared.form.RegionForm.TheVariants as stored
use Rattle.pc_emit.specs.Emitted.{RegionForm, Plain, ByAutomaton}
use Rattle.pc_emit.specs.Bytes.{plain_bytes}
use Rattle.pc_compile.specs.declared.choice.Cause.{Cause}
use Rattle.pc_compile.specs.declared.choice.Form.{Form}
use Rattle.pc_compile.specs.declared.choice.Form.TheVariants as kind
use Rattle.pc_compile.specs.declared.trying.Attempt.{Attempt}
use Rattle.pc_compile.specs.declared.trying.Attempt.TheVariants.{Fits, Refused}
use Rattle.pc_compile.specs.Choosing.{pipelines, packs, may_pipeline, PassesOver, Is_not_tried, Is_refused, Gets, Gets_pipelined, Gets_packed, Gets_plain}
use Rattle.pc_compile.specs.models.Giving.{bytes_of, IsAttempt, IsGiven}
use Rattle.pc_word.proofs.Places.{map_length}

module _ (table : Table) (limits : Limits) (extent : Extent) (region others : ℕ) where
  -- what is counted for a form
  abbrev counts : RegionForm → ℕ
  counts = bytes_of table region others

  pub given_pipelined : (causes : List Cause) (attempt : Attempt) (automaton : List StoredState) (registers : Assigned) (form : Form) (bytes : ℕ)
      → may_pipeline table extent region ≡ true → causes ≡ [] → attempt ≡ Fits automaton registers bytes → form ≡ kind.Pipelined (length automaton) extent.rows
      → IsAttempt (pipelines table limits extent) region extent.rows counts attempt
      → IsGiven table limits extent region others
      (record { form = stored.ByAutomaton automaton registers; kind = form; causes = causes; bytes = bytes })
  given_pipelined causes attempt automaton registers form bytes may none is told tried =
      let fits = subst (IsAttempt (pipelines table limits extent) region extent.rows counts) is tried in
      let found : RegionForm = ByAutomaton (states_in automaton) (registers_in registers) in
      record {
        gets =
            subst (λ (k : Form). Gets table limits extent region counts found k causes)
            (ap (λ (n : ℕ). kind.Pipelined n extent.rows) (map_length state_in automaton) ∙ sym told)
            (subst (λ (cs : List Cause). Gets table limits extent region counts found (kind.Pipelined (length (states_in automaton)) extent.rows) cs) (sym none)
            (Gets_pipelined may fits.has (subst (λ (n : ℕ). n ≤ most_object) fits.counted fits.short)));
        counted = fits.counted;
        short = fits.short;
        numbers = fits.numbers;
      }

  pub passed_over : (causes told : List Cause) (cause : Cause) (attempt : Attempt) → may_pipeline table extent region ≡ true → causes ≡ []
      → told ≡ causes ++ cause ∷ [] → attempt ≡ Refused cause
      → IsAttempt (pipelines table limits extent) region extent.rows counts attempt → PassesOver table limits extent region counts told
  passed_over causes told cause attempt may none is refused tried =
      subst (PassesOver table limits extent region counts) (sym (is ∙ ap (λ (cs : List Cause). cs ++ cause ∷ []) none))
      (Is_refused may (subst (IsAttempt (pipelines table limits extent) region extent.rows counts) refused tried))

  pub not_tried : (causes : List Cause) → may_pipeline table extent region ≡ false → causes ≡ [] → PassesOver table limits extent region counts causes
  not_tried causes may none = subst (PassesOver table limits extent region counts) (sym none) (Is_not_tried may)

  -- where a pipelined form is passed over
  module _ (causes : List Cause) (passed : PassesOver table limits extent region counts causes) (attempt : Attempt)
      (tried : IsAttempt (packs table limits) region most_rows counts attempt) where
    pub given_packed : (automaton : List StoredState) (registers : Assigned) (bytes : ℕ) → attempt ≡ Fits automaton registers bytes
        → IsGiven table limits extent region others (record { form = stored.ByAutomaton automaton registers; kind = kind.Packed; causes = causes; bytes = bytes })
    given_packed automaton registers bytes is =
        let fits = subst (IsAttempt (packs table limits) region most_rows counts) is tried in
        record {
          gets = Gets_packed passed fits.has (subst (λ (n : ℕ). n ≤ most_object) fits.counted fits.short);
          counted = fits.counted;
          short = fits.short;
          numbers = fits.numbers;
        }

    pub given_plain : (told : List Cause) (cause : Cause) (bytes : ℕ) → told ≡ causes ++ cause ∷ [] → attempt ≡ Refused cause
        → bytes ≡ others + plain_bytes (region_tree table region) → bytes ≤ most_object
        → IsGiven table limits extent region others (record { form = stored.Plain; kind = kind.Plain; causes = told; bytes = bytes })
    given_plain told cause bytes is refused counted short = record {
      gets =
          subst (λ (cs : List Cause). Gets table limits extent region counts Plain kind.Plain cs) (sym is)
          (Gets_plain passed (subst (IsAttempt (packs table limits) region most_rows counts) refused tried));
      counted = counted;
      short = short;
      numbers = tt;
    }
