-- A graph starts with words alone.
use Rattle.std.proofs.Common.{ℕ, zero, suc, List, [], ◌∷◌, arith}
use Rattle.std.specs.Prelude.{ℤ, pos, All, slice_index_or}
use Rattle.std.proofs.lemmas.List.Elements.{All-head, All-tail}
use Rattle.pc_word.specs.Word.{IsWord}
use Rattle.pc_word.specs.State.{start_state}
use Rattle.pc_forward.proofs.Telling.{WordsIn, zero_word}

-- what holds of each element and of the default holds at every place
at_any_place : {X : Type 0} (P : X → Type 0) (xs : List X) (place : ℕ) (default : X) → All P xs → P default → P (slice_index_or xs place default)
at_any_place P [] place default all own = own
at_any_place P (x ∷ xs) zero default all own = All-head P x xs all
at_any_place P (x ∷ xs) (suc place) default all own = at_any_place P xs place default (All-tail P x xs all) own

no_words : All IsWord []
no_words place other h = absurd (omega (arith, h))

-- the variables are 0, and data and input are words
pub start_words : (initial : List (List ℤ)) (input : List ℤ) → All (All IsWord) initial → All IsWord input → WordsIn (start_state initial input)
start_words initial input data_words all = record {
  names = λ x. zero_word;
  cells = λ array place.
      at_any_place IsWord (slice_index_or initial array []) place (pos 0) (at_any_place (All IsWord) initial array [] data_words no_words) zero_word;
  input = all;
}
