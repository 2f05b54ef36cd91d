-- What is known holds behind an item, and what stands for a load's value gives the same.
use Rattle.std.proofs.Common.{◌≡◌, ℕ, List, [], ◌∷◌, Option, Some, None, refl, sym, ◌∙◌, ap, subst}
use Rattle.std.specs.Prelude.{ℤ, slice_index}
use Rattle.std.specs.List.{AllByRecursion}
use Rattle.std.proofs.lemmas.List.Elements.{All-head}
use Rattle.std.specs.Prelude.{All}
use Rattle.pc_word.specs.declared.item.Item.{Item}
use Rattle.pc_word.specs.declared.item.Item.TheVariants.{Bin, Copy, Load, Store, Print, Read, More}
use Rattle.pc_word.specs.declared.item.Operand.{Operand}
use Rattle.pc_word.specs.Word.{IsWord, word_of_test, word_apply}
use Rattle.pc_word.specs.State.{State, set_name, set_input}
use Rattle.pc_word.specs.Items.{operand_value, place_in, element_at, some_left, operands_of}
use Rattle.pc_word.specs.Row.{RowOutcome, Commits, item_step}
use Rattle.pc_word.specs.Laws.{does_alone, reads_alone}
use Rattle.pc_word.proofs.Items.{item_step-is}
use Rattle.pc_word.proofs.Words.{IsWord-apply}
use Rattle.pc_flow.specs.FlowGraph.{IsVariable}
use Rattle.pc_linear.specs.Form.{Form, form_value}
use Rattle.pc_linear.specs.Combine.{constant_form, variable_form, combine}
use Rattle.pc_forward.specs.declared.access.AccessKind.TheVariants as kind
use Rattle.pc_forward.specs.declared.trail.Trail.{Trail}
use Rattle.pc_forward.specs.Trail.{operand_form, renewed, combined, behind_item}
use Rattle.pc_forward.specs.Forwarded.{StandsFor, Is_constant, Is_least}
use Rattle.pc_forward.specs.models.Words.{IsWordOperand, ItemTakesWords}
use Rattle.pc_forward.specs.models.Walking.{IsKnownAs}
use Rattle.pc_forward.proofs.Below.{IsBelow, value_agrees, constant_value, variable_value, combined_is}
use Rattle.pc_forward.proofs.Telling.{WordsIn, test_word, operand_word, element_word, IsKept, operand_below}
use Rattle.pc_forward.proofs.Telling.{Tells, Holds, operand_told, with_value, with_value_there, below_same, tells_given, tells_renewed, tells_loaded, tells_stored}

-- a new form variable has the value that it got
fresh_value : (n : ℕ) (v : ℤ) (σ : ℕ → ℤ) → IsWord v → v ≡ form_value (with_value n v σ) (variable_form n)
fresh_value n v σ word =
    let there = with_value_there n v σ in
    sym (variable_value (with_value n v σ) n (subst IsWord (sym there) word) ∙ there)

-- ---- behind an item

module _ (lengths : List ℕ) (trail : Trail) (s : State) (kept : IsKept trail) (held : Holds lengths trail s) where
  -- a variable gets a value of which nothing is known
  renewed_holds : (dest : ℕ) (v : ℤ) → IsWord v → Holds lengths (renewed dest trail) (set_name dest v s)
  renewed_holds dest v word = record { values = with_value trail.next v held.values; tells = tells_renewed lengths held.values trail s dest v kept word held.tells }

  -- or one whose form was combined
  combined_holds : (dest : ℕ) (v : ℤ) (o : Option Form) → IsWord v → ((form : Form) → o ≡ Some form → form_value held.values form ≡ v) → Holds lengths (combined dest o trail) (set_name dest v s)
  combined_holds dest v None word value = renewed_holds dest v word
  combined_holds dest v (Some form) word value = record { values = held.values; tells = tells_given lengths held.values trail s dest form v (value form refl) held.tells }

  -- a read
  read_holds : (dest : ℕ) (input : List ℤ) (to : ℕ) (t : State) (printed : List ℤ) → All IsWord input → reads_alone dest input to s ≡ Commits printed t to → Holds lengths (renewed dest trail) t
  read_holds dest [] to t printed all e = absurd (cc)
  read_holds dest (word ∷ rest) to t printed all e =
      let same : set_input rest (set_name dest word s) ≡ t = (cc) in
      let after = renewed_holds dest word (All-head IsWord word rest all) in
      subst (Holds lengths (renewed dest trail)) same
      (record { values = after.values; tells = record { words = after.tells.words; names = after.tells.names; elements = after.tells.elements } })

  -- a load
  loaded_holds : (dest array : ℕ) (index : Operand) → IsVariable index → IsWordOperand index → WordsIn s
      → Holds lengths (behind_item (Load dest array index) trail) (set_name dest (element_at (s.cells array) (place_in (slice_index lengths array) (operand_value s.names index))) s)
  loaded_holds dest array index there own words =
      let f = operand_form trail.forms index in
      let v = element_at (s.cells array) (place_in (slice_index lengths array) (operand_value s.names index)) in
      let after = tells_renewed lengths held.values trail s dest (element_at (s.cells array) (place_in (slice_index lengths array) (operand_value s.names index))) kept
      (element_word s array (place_in (slice_index lengths array) (operand_value s.names index)) words) held.tells in
      let τ = with_value trail.next (element_at (s.cells array) (place_in (slice_index lengths array) (operand_value s.names index))) held.values in
      let is_index : form_value τ (operand_form trail.forms index) ≡ operand_value s.names index =
      sym (value_agrees trail.next held.values τ (operand_form trail.forms index) (below_same trail.next v held.values) (operand_below trail index kept own))
      ∙ sym (operand_told lengths held.values trail s index kept held.tells there own) in
      let is_value : element_at (s.cells array) (place_in (slice_index lengths array) (operand_value s.names index)) ≡ form_value τ (variable_form trail.next) =
      fresh_value trail.next v held.values (element_word s array (place_in (slice_index lengths array) (operand_value s.names index)) words) in
      record {
        values = τ;
        tells = tells_loaded lengths τ (renewed dest trail) (set_name dest v s)
            (record { kind = kind.Load; array = array; index = operand_form trail.forms index; value = variable_form trail.next }) after
            (ap (λ (z : ℤ). element_at (s.cells array) (place_in (slice_index lengths array) z)) is_index ∙ is_value);
      }

-- what is known behind an item holds
pub holds_behind : (lengths : List ℕ) (item : Item) (trail : Trail) (s t : State) (to : ℕ) (printed : List ℤ) → IsKept trail → ItemTakesWords item → AllByRecursion IsVariable (operands_of item)
    → WordsIn s → Holds lengths trail s → does_alone lengths item to s ≡ Commits printed t to → Holds lengths (behind_item item trail) t
holds_behind lengths (Bin op dest left right) trail s t to printed kept own there words held e =
    let same : set_name dest (word_apply op (operand_value s.names left) (operand_value s.names right)) s ≡ t = (cc) in
    let one = operand_told lengths held.values trail s left kept held.tells there.0 own.0 in
    let other = operand_told lengths held.values trail s right kept held.tells there.1.0 own.1 in
    subst (Holds lengths (behind_item (Bin op dest left right) trail)) same
    (combined_holds lengths trail s kept held dest (word_apply op (operand_value s.names left) (operand_value s.names right))
    (combine op (operand_form trail.forms left) (operand_form trail.forms right))
    (IsWord-apply op (operand_value s.names left) (operand_value s.names right) (operand_word s left words own.0) (operand_word s right words own.1))
    (λ form made.
    (combined_is trail.next op (operand_form trail.forms left) (operand_form trail.forms right) form
    (operand_below trail left kept own.0) (operand_below trail right kept own.1) made).value held.values
    ∙ ap (λ (z : ℤ). word_apply op z (form_value held.values (operand_form trail.forms right))) (sym one) ∙ ap (word_apply op (operand_value s.names left)) (sym other)))
holds_behind lengths (Copy dest from) trail s t to printed kept own there words held e =
    let same : set_name dest (operand_value s.names from) s ≡ t = (cc) in
    subst (Holds lengths (behind_item (Copy dest from) trail)) same (record {
      values = held.values;
      tells = tells_given lengths held.values trail s dest (operand_form trail.forms from) (operand_value s.names from)
          (sym (operand_told lengths held.values trail s from kept held.tells there.0 own)) held.tells;
    })
holds_behind lengths (Load dest array index) trail s t to printed kept own there words held e =
    let same : set_name dest (element_at (s.cells array) (place_in (slice_index lengths array) (operand_value s.names index))) s ≡ t = (cc) in
    subst (Holds lengths (behind_item (Load dest array index) trail)) same (loaded_holds lengths trail s kept held dest array index there.0 own words)
holds_behind lengths (Store array index value) trail s t to printed kept own there words held e = record {
  values = held.values;
  tells = tells_stored lengths held.values trail s t array (operand_form trail.forms index) (operand_form trail.forms value) (operand_value s.names index) (operand_value s.names value)
      (place_in (slice_index lengths array) (operand_value s.names index)) to printed (operand_told lengths held.values trail s index kept held.tells there.0 own.0)
      (operand_told lengths held.values trail s value kept held.tells there.1.0 own.1) held.tells refl e;
}
holds_behind lengths (Print value) trail s t to printed kept own there words held e = let same : s ≡ t = (cc) in subst (Holds lengths trail) same held
holds_behind lengths (Read dest) trail s t to printed kept own there words held e = read_holds lengths trail s kept held dest s.input to t printed words.input e
holds_behind lengths (More dest) trail s t to printed kept own there words held e =
    let same : set_name dest (word_of_test (some_left s.input)) s ≡ t = (cc) in
    subst (Holds lengths (renewed dest trail)) same (renewed_holds lengths trail s kept held dest (word_of_test (some_left s.input)) (test_word (some_left s.input)))

-- ---- what stands for a value

no_terms : (value : Form) → value.terms ≡ [] → value ≡ constant_form value.constant
no_terms value none = ap (λ ts. let f : Form = record { terms = ts; constant = value.constant } in f) none

-- it has that value
stand_value : (lengths : List ℕ) (σ : ℕ → ℤ) (trail : Trail) (s : State) (value : Form) (from : Operand) → Tells lengths σ trail s → IsBelow trail.next value → StandsFor trail.forms value from
    → operand_value s.names from ≡ form_value σ value
stand_value lengths σ trail s value _ tells below (Is_constant none) =
    sym (constant_value σ value.constant below.form.normal.constant) ∙ ap (form_value σ) (sym (no_terms value none))
stand_value lengths σ trail s value _ tells below (Is_least {x = x} some least) = tells.names x least.holds.form least.holds.there ∙ least.holds.same σ

-- a copy of what stands for a load's value does what the load does
pub forwarded_does : (lengths : List ℕ) (trail : Trail) (s : State) (dest array : ℕ) (index from : Operand) (to : ℕ) → IsKept trail → Holds lengths trail s → IsVariable index
    → IsKnownAs trail array index from → item_step lengths (Copy dest from) to s ≡ item_step lengths (Load dest array index) to s
forwarded_does lengths trail s dest array index from to kept held there known =
    let h = known.element in
    let below : IsBelow trail.next known.value = subst (IsBelow trail.next) h.is (kept.accesses h.latest.place h.access h.latest.there).1 in
    let value : operand_value s.names from ≡ element_at (s.cells array) (place_in (slice_index lengths array) (operand_value s.names index)) =
    stand_value lengths held.values trail s known.value from held.tells below known.stands_for
    ∙ sym (held.tells.elements array (operand_form trail.forms index) known.value h)
    ∙ ap (λ (z : ℤ). element_at (s.cells array) (place_in (slice_index lengths array) z)) (sym (operand_told lengths held.values trail s index kept held.tells there known.word)) in
    item_step-is lengths (Copy dest from) to s
    ∙ ap (λ (z : ℤ). let done : RowOutcome ℕ = Commits [] (set_name dest z s) to in done) value
    ∙ sym (item_step-is lengths (Load dest array index) to s)
