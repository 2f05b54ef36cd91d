-- What is known along a trail holds of the state.
use Rattle.std.proofs.Common.{◌≡◌, ◌≢◌, ◌⊎◌, inl, inr, ℕ, ◌+◌, ◌<◌, Bool, true, false, ◌&&◌, List, [], ◌∷◌, ◌++◌, length, Option, Some, None, refl, sym, ◌∙◌, ap, subst, arith}
use Rattle.std.specs.Prelude.{ℤ, pos, negsuc, if◌then◌else◌, nat_eq, nat_lt, All, slice_get, slice_index}
use Rattle.std.proofs.lemmas.List.Elements.{All-head, All-tail}
use Rattle.std.proofs.lemmas.Option.{slice_get_within}
use Rattle.pc_word.specs.declared.item.Item.{Item}
use Rattle.pc_word.specs.declared.item.Item.TheVariants.{Bin, Copy, Load, Store, Print, Read, More}
use Rattle.pc_word.specs.declared.item.Operand.{Operand}
use Rattle.pc_word.specs.declared.item.Operand.TheVariants.{Name, Lit}
use Rattle.pc_word.specs.Word.{IsWord, word_of_test, word_apply}
use Rattle.pc_word.specs.State.{State, set_name, set_cell, set_input}
use Rattle.pc_word.specs.Items.{operand_value, place_in, element_at, some_left}
use Rattle.pc_word.specs.Row.{Commits}
use Rattle.pc_word.specs.Laws.{does_alone, stores_alone, reads_alone}
use Rattle.pc_word.proofs.Lists.{set_at, set_length}
use Rattle.pc_word.proofs.Places.{get_front, get_last, get_more, found_within, same_number, own_number, number_apart}
use Rattle.pc_word.proofs.Words.{IsWord-apply}
use Rattle.pc_flow.specs.FlowGraph.{IsVariable, variables}
use Rattle.pc_linear.specs.Form.{Form, form_value}
use Rattle.pc_linear.specs.Combine.{variable_form, combine}
use Rattle.pc_linear.specs.Equality.{NeverEqual, AlwaysEqual}
use Rattle.pc_forward.specs.declared.access.Access.{Access}
use Rattle.pc_forward.specs.declared.access.AccessKind.TheVariants as kind
use Rattle.pc_forward.specs.declared.trail.Trail.{Trail}
use Rattle.pc_forward.specs.Trail.{form_or_zero, operand_form, given, renewed, combined, accessed, behind_item}
use Rattle.pc_forward.specs.Forwardable.{Decides, HasElement}
use Rattle.pc_forward.specs.models.Words.{IsWordOperand, ItemTakesWords}
use Rattle.pc_forward.proofs.Below.{IsBelow, value_agrees, constant_value, variable_value, below_more, constant_below, variable_below, combined_is}

-- ---- states of words

pub record WordsIn (s : State) : Type 0 where
  pub names : (x : ℕ) → IsWord (s.names x)
  pub cells : (array place : ℕ) → IsWord (s.cells array place)
  pub input : All IsWord s.input

pub zero_word : IsWord (pos 0)
zero_word = record { sfits = omega arith }

pub test_word : (b : Bool) → IsWord (word_of_test b)
test_word true = record { sfits = omega arith }
test_word false = record { sfits = omega arith }

pub operand_word : (s : State) (o : Operand) → WordsIn s → IsWordOperand o → IsWord (operand_value s.names o)
operand_word s (Name x) words own = words.names x
operand_word s (Lit value) words own = own

pub element_word : (s : State) (array : ℕ) (place : Option ℕ) → WordsIn s → IsWord (element_at (s.cells array) place)
element_word s array None words = zero_word
element_word s array (Some place) words = words.cells array place

chosen_word : (b : Bool) (v old : ℤ) → IsWord v → IsWord old → IsWord (if b then v else old)
chosen_word true v old p q = p
chosen_word false v old p q = q

name_words : (dest : ℕ) (v : ℤ) (s : State) → IsWord v → WordsIn s → WordsIn (set_name dest v s)
name_words dest v s word words = record { names = λ x. chosen_word (nat_eq dest x) v (s.names x) word (words.names x); cells = words.cells; input = words.input }

stored_words : (array : ℕ) (place : Option ℕ) (v : ℤ) (to : ℕ) (s t : State) (printed : List ℤ) → IsWord v → WordsIn s → stores_alone array place v to s ≡ Commits printed t to → WordsIn t
stored_words array None v to s t printed word words e = absurd (cc)
stored_words array (Some place) v to s t printed word words e =
    let same : set_cell array place v s ≡ t = (cc) in
    subst WordsIn same (record { names = words.names; cells = λ a i. chosen_word (nat_eq array a && nat_eq place i) v (s.cells a i) word (words.cells a i); input = words.input })

read_words : (dest : ℕ) (input : List ℤ) (to : ℕ) (s t : State) (printed : List ℤ) → All IsWord input → WordsIn s → reads_alone dest input to s ≡ Commits printed t to → WordsIn t
read_words dest [] to s t printed all words e = absurd (cc)
read_words dest (word ∷ rest) to s t printed all words e =
    let same : set_input rest (set_name dest word s) ≡ t = (cc) in
    let named = name_words dest word s (All-head IsWord word rest all) words in
    subst WordsIn same (record { names = named.names; cells = words.cells; input = All-tail IsWord word rest all })

-- an item whose literals are words leaves words
pub words_behind : (lengths : List ℕ) (item : Item) (to : ℕ) (s t : State) (printed : List ℤ) → ItemTakesWords item → WordsIn s → does_alone lengths item to s ≡ Commits printed t to → WordsIn t
words_behind lengths (Bin op dest left right) to s t printed own words e =
    let same : set_name dest (word_apply op (operand_value s.names left) (operand_value s.names right)) s ≡ t = (cc) in
    subst WordsIn same (name_words dest (word_apply op (operand_value s.names left) (operand_value s.names right)) s
    (IsWord-apply op (operand_value s.names left) (operand_value s.names right) (operand_word s left words own.0) (operand_word s right words own.1)) words)
words_behind lengths (Copy dest from) to s t printed own words e =
    let same : set_name dest (operand_value s.names from) s ≡ t = (cc) in
    subst WordsIn same (name_words dest (operand_value s.names from) s (operand_word s from words own) words)
words_behind lengths (Load dest array index) to s t printed own words e =
    let same : set_name dest (element_at (s.cells array) (place_in (slice_index lengths array) (operand_value s.names index))) s ≡ t = (cc) in
    subst WordsIn same (name_words dest (element_at (s.cells array) (place_in (slice_index lengths array) (operand_value s.names index))) s
    (element_word s array (place_in (slice_index lengths array) (operand_value s.names index)) words) words)
words_behind lengths (Store array index value) to s t printed own words e =
    stored_words array (place_in (slice_index lengths array) (operand_value s.names index)) (operand_value s.names value) to s t printed (operand_word s value words own.1) words e
words_behind lengths (Print value) to s t printed own words e = let same : s ≡ t = (cc) in subst WordsIn same words
words_behind lengths (Read dest) to s t printed own words e = read_words dest s.input to s t printed words.input words e
words_behind lengths (More dest) to s t printed own words e =
    let same : set_name dest (word_of_test (some_left s.input)) s ≡ t = (cc) in
    subst WordsIn same (name_words dest (word_of_test (some_left s.input)) s (test_word (some_left s.input)) words)

-- ---- forms stay below the number of the next form variable

pub record IsKept (trail : Trail) : Type 0 where
  pub long : length trail.forms ≡ variables
  pub forms : (x : ℕ) (form : Form) → slice_get trail.forms x ≡ Some form → IsBelow trail.next form
  pub accesses : (place : ℕ) (access : Access) → slice_get trail.accesses place ≡ Some access → IsBelow trail.next access.index × IsBelow trail.next access.value

or_zero_below : (n : ℕ) (o : Option Form) → ((form : Form) → o ≡ Some form → IsBelow n form) → IsBelow n (form_or_zero o)
or_zero_below n None h = constant_below n (pos 0) zero_word
or_zero_below n (Some form) h = h form refl

pub operand_below : (trail : Trail) (o : Operand) → IsKept trail → IsWordOperand o → IsBelow trail.next (operand_form trail.forms o)
operand_below trail (Name x) kept own = or_zero_below trail.next (slice_get trail.forms x) (λ form e. kept.forms x form e)
operand_below trail (Lit value) kept own = constant_below trail.next value own

kept_given : (trail : Trail) (dest : ℕ) (form : Form) → IsKept trail → IsBelow trail.next form → IsKept (given dest form trail)
kept_given trail dest form kept below = record {
  long = set_length trail.forms dest form ∙ kept.long;
  forms = λ x f e. elim (set_at trail.forms dest x form f e) [
    | inl h ↦ subst (IsBelow trail.next) (sym h.1) below
    | inr h ↦ kept.forms x f h.1
  ];
  accesses = kept.accesses;
}

pub kept_renewed : (trail : Trail) (dest : ℕ) → IsKept trail → IsKept (renewed dest trail)
kept_renewed trail dest kept = record {
  long = set_length trail.forms dest (variable_form trail.next) ∙ kept.long;
  forms = λ x f e. elim (set_at trail.forms dest x (variable_form trail.next) f e) [
    | inl h ↦ subst (IsBelow (trail.next + 1)) (sym h.1) (variable_below (trail.next + 1) trail.next (omega arith))
    | inr h ↦ below_more trail.next (trail.next + 1) f (omega arith) (kept.forms x f h.1)
  ];
  accesses = λ place access e.
      let h = kept.accesses place access e in
      (below_more trail.next (trail.next + 1) access.index (omega arith) h.0, below_more trail.next (trail.next + 1) access.value (omega arith) h.1);
}

kept_combined : (trail : Trail) (dest : ℕ) (o : Option Form) → IsKept trail → ((form : Form) → o ≡ Some form → IsBelow trail.next form) → IsKept (combined dest o trail)
kept_combined trail dest None kept below = kept_renewed trail dest kept
kept_combined trail dest (Some form) kept below = kept_given trail dest form kept (below form refl)

kept_accessed : (trail : Trail) (access : Access) → IsKept trail → IsBelow trail.next access.index → IsBelow trail.next access.value → IsKept (accessed access trail)
kept_accessed trail access kept index value = record {
  long = kept.long;
  forms = kept.forms;
  accesses = λ place other e. elim (get_more trail.accesses access place other e) [
    | inl h ↦ kept.accesses place other h
    | inr h ↦ subst (λ (a : Access). IsBelow trail.next a.index × IsBelow trail.next a.value) h.1 (index, value)
  ];
}

pub kept_behind : (item : Item) (trail : Trail) → ItemTakesWords item → IsKept trail → IsKept (behind_item item trail)
kept_behind (Bin op dest left right) trail own kept =
    kept_combined trail dest (combine op (operand_form trail.forms left) (operand_form trail.forms right)) kept (λ form e.
    (combined_is trail.next op (operand_form trail.forms left) (operand_form trail.forms right) form (operand_below trail left kept own.0) (operand_below trail right kept own.1) e).below)
kept_behind (Copy dest from) trail own kept = kept_given trail dest (operand_form trail.forms from) kept (operand_below trail from kept own)
kept_behind (Load dest array index) trail own kept =
    kept_accessed (renewed dest trail) (record { kind = kind.Load; array = array; index = operand_form trail.forms index; value = variable_form trail.next }) (kept_renewed trail dest kept)
    (below_more trail.next (trail.next + 1) (operand_form trail.forms index) (omega arith) (operand_below trail index kept own)) (variable_below (trail.next + 1) trail.next (omega arith))
kept_behind (Store array index value) trail own kept =
    kept_accessed trail (record { kind = kind.Store; array = array; index = operand_form trail.forms index; value = operand_form trail.forms value }) kept
    (operand_below trail index kept own.0) (operand_below trail value kept own.1)
kept_behind (Print value) trail own kept = kept
kept_behind (Read dest) trail own kept = kept_renewed trail dest kept
kept_behind (More dest) trail own kept = kept_renewed trail dest kept

-- ---- values of the form variables under which all that is known holds

pub record Tells (lengths : List ℕ) (σ : ℕ → ℤ) (trail : Trail) (s : State) : Type 0 where
  pub words : (v : ℕ) → IsWord (σ v)
  pub names : (x : ℕ) (form : Form) → slice_get trail.forms x ≡ Some form → s.names x ≡ form_value σ form
  pub elements : (array : ℕ) (index value : Form) → HasElement trail.accesses array index value
      → element_at (s.cells array) (place_in (slice_index lengths array) (form_value σ index)) ≡ form_value σ value

pub record Holds (lengths : List ℕ) (trail : Trail) (s : State) : Type 0 where
  pub values : ℕ → ℤ
  pub tells : Tells lengths values trail s

or_zero_told : (σ : ℕ → ℤ) (forms : List Form) (x : ℕ) (v : ℤ) → x < length forms → ((form : Form) → slice_get forms x ≡ Some form → v ≡ form_value σ form)
    → v ≡ form_value σ (operand_form forms (Name x))
or_zero_told σ forms x v low h =
    let found = found_within forms x low in
    h found.0 found.1 ∙ ap (λ (o : Option Form). form_value σ (form_or_zero o)) (sym found.1)

-- an operand has the value of its form
pub operand_told : (lengths : List ℕ) (σ : ℕ → ℤ) (trail : Trail) (s : State) (o : Operand) → IsKept trail → Tells lengths σ trail s → IsVariable o → IsWordOperand o
    → operand_value s.names o ≡ form_value σ (operand_form trail.forms o)
operand_told lengths σ trail s (Name x) kept tells there own = or_zero_told σ trail.forms x (s.names x) (omega (arith, there, kept.long)) (λ form e. tells.names x form e)
operand_told lengths σ trail s (Lit value) kept tells there own = sym (constant_value σ value own)

-- ---- a new form variable

abbrev pub with_value : ℕ → ℤ → (ℕ → ℤ) → ℕ → ℤ
with_value n v σ u = if nat_eq n u then v else σ u

chosen_is : (b : Bool) (v old : ℤ) → b ≡ true → (if b then v else old) ≡ v
chosen_is true v old e = refl
chosen_is false v old e = absurd (cc)

chosen_not : (b : Bool) (v old : ℤ) → b ≡ false → (if b then v else old) ≡ old
chosen_not true v old e = absurd (cc)
chosen_not false v old e = refl

pub below_same : (n : ℕ) (v : ℤ) (σ : ℕ → ℤ) (u : ℕ) → u < n → σ u ≡ with_value n v σ u
below_same n v σ u low = sym (chosen_not (nat_eq n u) v (σ u) (number_apart n u (λ e. absurd (omega (arith, low, e)))))

pub with_value_there : (n : ℕ) (v : ℤ) (σ : ℕ → ℤ) → with_value n v σ n ≡ v
with_value_there n v σ = chosen_is (nat_eq n n) v (σ n) (own_number n)

-- the access that tells of an element
its_access : (trail : Trail) (array : ℕ) (index value : Form) → IsKept trail → (h : HasElement trail.accesses array index value) → IsBelow trail.next h.access.index × IsBelow trail.next h.access.value
its_access trail array index value kept h = kept.accesses h.latest.place h.access h.latest.there

tells_more : (lengths : List ℕ) (σ : ℕ → ℤ) (trail : Trail) (s : State) (v : ℤ) → IsKept trail → IsWord v → Tells lengths σ trail s → Tells lengths (with_value trail.next v σ) trail s
tells_more lengths σ trail s v kept word tells =
    let τ = with_value trail.next v σ in
    let same : (u : ℕ) → u < trail.next → σ u ≡ τ u = below_same trail.next v σ in
    record {
      words = λ u. chosen_word (nat_eq trail.next u) v (σ u) word (tells.words u);
      names = λ x form e. tells.names x form e ∙ value_agrees trail.next σ τ form same (kept.forms x form e);
      elements = λ array index value h.
          let below = its_access trail array index value kept h in
          let index_same : form_value τ index ≡ form_value σ index = sym (h.same_index τ) ∙ sym (value_agrees trail.next σ τ h.access.index same below.0) ∙ h.same_index σ in
          let value_same : form_value σ value ≡ form_value τ value =
          ap (form_value σ) (sym h.is) ∙ value_agrees trail.next σ τ h.access.value same below.1 ∙ ap (form_value τ) h.is in
          ap (λ (z : ℤ). element_at (s.cells array) (place_in (slice_index lengths array) z)) index_same ∙ tells.elements array index value h ∙ value_same;
    }

-- a variable gets a value, and a form that has it
pub tells_given : (lengths : List ℕ) (σ : ℕ → ℤ) (trail : Trail) (s : State) (dest : ℕ) (form : Form) (v : ℤ) → form_value σ form ≡ v → Tells lengths σ trail s
    → Tells lengths σ (given dest form trail) (set_name dest v s)
tells_given lengths σ trail s dest form v is tells = record {
  words = tells.words;
  names = λ x f e. elim (set_at trail.forms dest x form f e) [
    | inl h ↦ chosen_is (nat_eq dest x) v (s.names x) (subst (λ (n : ℕ). nat_eq dest n ≡ true) (sym h.0) (own_number dest)) ∙ sym is ∙ ap (form_value σ) (sym h.1)
    | inr h ↦ chosen_not (nat_eq dest x) v (s.names x) (number_apart dest x (λ same. h.0 (sym same))) ∙ tells.names x f h.1
  ];
  elements = tells.elements;
}

-- a variable gets a value of which nothing is known
pub tells_renewed : (lengths : List ℕ) (σ : ℕ → ℤ) (trail : Trail) (s : State) (dest : ℕ) (v : ℤ) → IsKept trail → IsWord v → Tells lengths σ trail s
    → Tells lengths (with_value trail.next v σ) (renewed dest trail) (set_name dest v s)
tells_renewed lengths σ trail s dest v kept word tells =
    let τ = with_value trail.next v σ in
    let more = tells_more lengths σ trail s v kept word tells in
    let there = with_value_there trail.next v σ in
    let done = tells_given lengths τ trail s dest (variable_form trail.next) v (variable_value τ trail.next (more.words trail.next) ∙ there) more in
    record { words = done.words; names = done.names; elements = done.elements }

-- ---- an access more

-- what the accesses tell with one more: what they told, where that does not decide, and what it tells
element_more : (accesses : List Access) (access : Access) (array : ℕ) (index value : Form) → HasElement (accesses ++ access ∷ []) array index value
    → (HasElement accesses array index value × (Decides array index access → ⊥)) ⊎ ((access.array ≡ array) × AlwaysEqual access.index index × (access.value ≡ value))
element_more accesses access array index value h = elim (get_more accesses access h.latest.place h.access h.latest.there) [
  | inl there ↦
      let low = slice_get_within accesses h.latest.place h.access there in
      inl (
        record {
          access = h.access;
          latest = record {
            place = h.latest.place;
            there = there;
            decides = h.latest.decides;
            none_later = λ later other less stands d. h.latest.none_later later other less (get_front accesses (access ∷ []) later other stands) d;
          };
          same_index = h.same_index;
          is = h.is;
        },
        λ d. h.latest.none_later (length accesses) access low (get_last accesses access) d,
      )
  | inr last ↦ inr (
    ap (λ (a : Access). a.array) last.1 ∙ h.latest.decides.same_array,
    subst (λ (a : Access). AlwaysEqual a.index index) (sym last.1) h.same_index,
    ap (λ (a : Access). a.value) last.1 ∙ h.is,
  )
]

-- what a load tells
module _ (lengths : List ℕ) (σ : ℕ → ℤ) (trail : Trail) (s : State) (access : Access) (tells : Tells lengths σ trail s)
    (is : element_at (s.cells access.array) (place_in (slice_index lengths access.array) (form_value σ access.index)) ≡ form_value σ access.value) where
  accessed_element : (array : ℕ) (index value : Form) → (access.array ≡ array) × AlwaysEqual access.index index × (access.value ≡ value)
      → element_at (s.cells array) (place_in (slice_index lengths array) (form_value σ index)) ≡ form_value σ value
  accessed_element array index value h =
      subst (λ (a : ℕ). element_at (s.cells a) (place_in (slice_index lengths a) (form_value σ index)) ≡ form_value σ value) h.0
      (ap (λ (z : ℤ). element_at (s.cells access.array) (place_in (slice_index lengths access.array) z)) (sym (h.1 σ)) ∙ is ∙ ap (form_value σ) h.2)

  pub tells_loaded : Tells lengths σ (accessed access trail) s
  tells_loaded = record {
    words = tells.words;
    names = tells.names;
    elements = λ array index value h. elim (element_more trail.accesses access array index value h) [
      | inl old ↦ tells.elements array index value old.0
      | inr new ↦ accessed_element array index value new
    ];
  }

-- ---- a store

pub placed_number : (length : ℕ) (i : ℤ) (place : ℕ) → place_in length i ≡ Some place → i ≡ pos place
placed_number length (pos i) place e = by_test (nat_lt i length) e
  where
    by_test : (b : Bool) → (let o : Option ℕ = if b then Some i else None in o) ≡ Some place → pos i ≡ pos place
    by_test true e = let same : i ≡ place = (cc) in ap pos same
    by_test false e = absurd (cc)
placed_number length (negsuc i) place e = absurd (cc)

both_not : (a b : Bool) → (a ≡ true → b ≡ true → ⊥) → (a && b) ≡ false
both_not true true h = absurd (h refl refl)
both_not true false h = refl
both_not false b h = refl

module _ (lengths : List ℕ) (σ : ℕ → ℤ) (s : State) (array : ℕ) (index : Form) (i : ℤ) (place : ℕ) (v : ℤ) (is_index : i ≡ form_value σ index)
    (placed : place_in (slice_index lengths array) i ≡ Some place) where
  -- the element that was stored
  stored_there : element_at ((set_cell array place v s).cells array) (place_in (slice_index lengths array) i) ≡ v
  stored_there =
      ap (element_at ((set_cell array place v s).cells array)) placed
      ∙ chosen_is (nat_eq array array && nat_eq place place) v (s.cells array place) (let one = own_number array in let two = own_number place in rw one two)

  -- one of which the store does not decide
  module _ (other : ℕ) (at : Form) (off : (array ≡ other → (NeverEqual index at → ⊥) → ⊥)) where
    apart : array ≡ other → i ≢ form_value σ at
    apart same e = off same (λ never. never σ (sym is_index ∙ e))

    kept_place : (o : Option ℕ) → place_in (slice_index lengths other) (form_value σ at) ≡ o → element_at ((set_cell array place v s).cells other) o ≡ element_at (s.cells other) o
    kept_place None e = refl
    kept_place (Some q) e = chosen_not (nat_eq array other && nat_eq place q) v (s.cells other q) (both_not (nat_eq array other) (nat_eq place q) (λ one two.
        apart (same_number array other one) (placed_number (slice_index lengths array) i place placed ∙ ap pos (same_number place q two)
        ∙ sym (placed_number (slice_index lengths other) (form_value σ at) q e))))

    stored_elsewhere : element_at ((set_cell array place v s).cells other) (place_in (slice_index lengths other) (form_value σ at))
        ≡ element_at (s.cells other) (place_in (slice_index lengths other) (form_value σ at))
    stored_elsewhere = kept_place (place_in (slice_index lengths other) (form_value σ at)) refl

-- what a store tells
pub tells_stored : (lengths : List ℕ) (σ : ℕ → ℤ) (trail : Trail) (s t : State) (array : ℕ) (index value : Form) (i v : ℤ) (o : Option ℕ) (to : ℕ) (printed : List ℤ)
    → i ≡ form_value σ index → v ≡ form_value σ value → Tells lengths σ trail s → place_in (slice_index lengths array) i ≡ o → stores_alone array o v to s ≡ Commits printed t to
    → Tells lengths σ (accessed (record { kind = kind.Store; array = array; index = index; value = value }) trail) t
tells_stored lengths σ trail s t array index value i v None to printed is_index is_value tells placed e = absurd (cc)
tells_stored lengths σ trail s t array index value i v (Some place) to printed is_index is_value tells placed e =
    let same : set_cell array place v s ≡ t = (cc) in
    let access : Access = record { kind = kind.Store; array = array; index = index; value = value } in
    subst (Tells lengths σ (accessed (record { kind = kind.Store; array = array; index = index; value = value }) trail)) same (record {
      words = tells.words;
      names = tells.names;
      elements = λ other at held h. elim (element_more trail.accesses (record { kind = kind.Store; array = array; index = index; value = value }) other at held h) [
        | inl old ↦
            stored_elsewhere lengths σ s array index i place v is_index placed other at (λ same_array meets. old.1 (record { same_array = same_array; meets = meets }))
            ∙ tells.elements other at held old.0
        | inr new ↦
            let now = set_cell array place v s in
            subst (λ (a : ℕ). element_at ((set_cell array place v s).cells a) (place_in (slice_index lengths a) (form_value σ at)) ≡ form_value σ held) new.0
            (ap (λ (z : ℤ). element_at ((set_cell array place v s).cells array) (place_in (slice_index lengths array) z)) (sym (new.1 σ) ∙ sym is_index)
            ∙ stored_there lengths σ s array index i place v is_index placed ∙ is_value ∙ ap (form_value σ) new.2)
      ];
    })
