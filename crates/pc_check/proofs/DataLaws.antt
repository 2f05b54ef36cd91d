-- The data of arrays: they have room, they do not end in 0, and how they are found from the front.
use Rattle.std.proofs.Common.{◌≡◌, refl, ap, ◌∙◌, sym, ℕ, ℤ, zero, suc, ◌+◌, ◌<◌, ◌≤◌, zero-le, Bool, true, false, List, [], ◌∷◌, ◌++◌, length, take, get_or, pos, arith}
use Rattle.std.specs.Prelude.{slice_get, if◌then◌else◌}
use Rattle.std.specs.Ordering.{int_eq}
use Rattle.std.proofs.lemmas.List.{length-map, map_more, take-map, take_all}
use Rattle.std.proofs.lemmas.Int.{to_z-of_z}
use Rattle.std.proofs.lemmas.Bool.Decides.{Decides-int_eq}
use mir.Val.{SFits, of_z, to_z}
use mir.Syntax.{w32}
use Rattle.pc_word.specs.Data.{ends_in_zero, IsData, AreData}
use Rattle.pc_syntax.specs.declared.constant.Const.{Const}
use Rattle.pc_check.specs.Faults.{surplus_faults}
use Rattle.pc_check.specs.InitialData.{word_before, without_last_zeros, values_of, data_of}

-- ---- zeros at the end

-- what is left does not end in 0
no_last_zero : (words : List ℤ) → ends_in_zero (without_last_zeros words) ≡ false
no_last_zero [] = refl
no_last_zero (word ∷ words) = before word (without_last_zeros words) (no_last_zero words)
  where
    alone : (word : ℤ) (b : Bool) → int_eq word (pos 0) ≡ b → ends_in_zero (if b then [] else word ∷ []) ≡ false
    alone word true is = refl
    alone word false is = is

    before : (word : ℤ) (words : List ℤ) → ends_in_zero words ≡ false → ends_in_zero (word_before word words) ≡ false
    before word [] is = alone word (int_eq word (pos 0)) refl
    before word (next ∷ words) is = is

-- and is no longer
no_longer : (words : List ℤ) → length (without_last_zeros words) ≤ length words
no_longer [] = zero-le
no_longer (word ∷ words) = before word (without_last_zeros words) (length words) (no_longer words)
  where
    alone : (word : ℤ) (n : ℕ) (b : Bool) → length (if b then [] else word ∷ []) ≤ suc n
    alone word n true = zero-le
    alone word n false = omega arith

    before : (word : ℤ) (words : List ℤ) (n : ℕ) → length words ≤ n → length (word_before word words) ≤ suc n
    before word [] n is = alone word n (int_eq word (pos 0))
    before word (next ∷ words) n is = omega arith

-- a 0 at the end changes nothing
zero_at_the_end : (words : List ℤ) (last : ℤ) → int_eq last (pos 0) ≡ true → without_last_zeros (words ++ last ∷ []) ≡ without_last_zeros words
zero_at_the_end [] last is = ap (λ (b : Bool). if b then [] else last ∷ []) is
zero_at_the_end (word ∷ words) last is = ap (word_before word) (zero_at_the_end words last is)

-- before another word all stay
word_at_the_end : (words : List ℤ) (last : ℤ) → int_eq last (pos 0) ≡ false → without_last_zeros (words ++ last ∷ []) ≡ words ++ last ∷ []
word_at_the_end [] last is = ap (λ (b : Bool). if b then [] else last ∷ []) is
word_at_the_end (word ∷ words) last is = ap (word_before word) (word_at_the_end words last is) ∙ before word words last
  where
    before : (word : ℤ) (words : List ℤ) (last : ℤ) → word_before word (words ++ last ∷ []) ≡ word ∷ (words ++ last ∷ [])
    before word [] last = refl
    before word (next ∷ words) last = refl

-- ---- found from the front

-- a word of which the bits are 0 is 0
no_bits : (word : ℤ) → SFits w32 word → of_z w32 word ≡ 0 → int_eq word (pos 0) ≡ true
no_bits word fits none =
    let is : word ≡ pos 0 = sym (to_z-of_z w32 word fits) ∙ ap (to_z w32) none in
    ap (λ (x : ℤ). int_eq x (pos 0)) is

-- and no other is
some_bits : (word : ℤ) → (of_z w32 word ≡ 0 → ⊥) → int_eq word (pos 0) ≡ false
some_bits word others = by (int_eq word (pos 0)) (λ is. others (ap (of_z w32) ((Decides-int_eq word (pos 0)).0 is)))
  where
    by : (b : Bool) → (b ≡ true → ⊥) → b ≡ false
    by false no_zero = refl
    by true no_zero = absurd (no_zero refl)

module _ (values : List Const) (i : ℕ) (d : Const) where
  -- the values up to a place are those before it, and the value there
  values_more : i < length values → values_of (take (i + 1) values) ≡ values_of (take i values) ++ (get_or values i d).value ∷ []
  values_more below = map_more (λ (constant : Const). constant.value) values i d below

  -- where the value at a place is 0, what is kept up to it is what is kept before it
  pub kept_before_zero : (kept : ℕ) → i < length values → SFits w32 (get_or values i d).value → of_z w32 (get_or values i d).value ≡ 0 →
      without_last_zeros (values_of (take i values)) ≡ take kept (values_of values) →
      without_last_zeros (values_of (take (i + 1) values)) ≡ take kept (values_of values)
  kept_before_zero kept below fits none so_far =
      ap without_last_zeros (values_more below)
      ∙ zero_at_the_end (values_of (take i values)) (get_or values i d).value (no_bits (get_or values i d).value fits none) ∙ so_far

  -- and where it is another, all up to it is kept
  pub kept_to_value : i < length values → (of_z w32 (get_or values i d).value ≡ 0 → ⊥) →
      without_last_zeros (values_of (take (i + 1) values)) ≡ take (i + 1) (values_of values)
  kept_to_value below others =
      ap without_last_zeros (values_more below)
      ∙ word_at_the_end (values_of (take i values)) (get_or values i d).value (some_bits (get_or values i d).value others)
      ∙ sym (values_more below) ∙ sym (take-map (λ (constant : Const). constant.value) (i + 1) values)

-- the values in front of the zeros at the end, once all of them are found
pub data_found : (values : List Const) (kept found : ℕ) (words : List ℤ) → words ≡ values_of (take found (take kept values)) →
    length (take kept values) ≤ found → without_last_zeros (values_of values) ≡ take kept (values_of values) → words ≡ data_of values
unfolding data_of
data_found values kept found words so_far all same =
    let value : Const → ℤ = λ constant. constant.value in
    so_far ∙ ap values_of (take_all found (take kept values) all) ∙ sym (take-map value kept values) ∙ sym same

-- ---- room

-- without a surplus there are no more constants than elements
room : (values : List Const) (size : ℕ) → surplus_faults (slice_get values size) ≡ [] → length values ≤ size
room [] size none = zero-le
room (value ∷ values) zero none = absurd (cc)
room (value ∷ values) (suc size) none = let shorter = room values size none in omega arith

-- the values of an initialiser without a surplus are the data of an array
pub data_of-fits : (values : List Const) (size : ℕ) → surplus_faults (slice_get values size) ≡ [] → IsData size (data_of values)
unfolding data_of
data_of-fits values size none =
    let few = room values size none in
    let mapped = length-map values (λ (constant : Const). constant.value) in
    let cut = no_longer (values_of values) in
    record { fits = omega (arith, few, mapped, cut); tail = no_last_zero (values_of values) }

-- one array more, with its data
pub AreData-more : (arrays : List ℕ) (initial : List (List ℤ)) (size : ℕ) (words : List ℤ) → AreData arrays initial → IsData size words →
    AreData (arrays ++ size ∷ []) (initial ++ words ∷ [])
AreData-more [] [] size words are is = (is, tt)
AreData-more (elements ∷ arrays) (others ∷ initial) size words are is = (are.0, AreData-more arrays initial size words are.1 is)
AreData-more [] (others ∷ initial) size words are is = absurd are
AreData-more (elements ∷ arrays) [] size words are is = absurd are
