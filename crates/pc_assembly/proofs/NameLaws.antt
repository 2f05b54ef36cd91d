-- How a name of a row begins.
use Rattle.std.proofs.Common.{ℕ, ◌≡◌, Bool, true, false, not, ◌&&◌, ◌||◌, arith}
use Rattle.std.proofs.Common.{List, [], ◌∷◌, refl}
use Rattle.std.specs.List.{prefix_len}
use Rattle.std.proofs.lemmas.Bool.Decides.{nat_tests}
use Rattle.pc_assembly.specs.declared.bytes.Class.TheVariants as class
use Rattle.pc_assembly.specs.declared.spelling.Word.TheVariants as word
use Rattle.pc_assembly.specs.Bytes.{is_in, is_blank, is_letter}
use Rattle.pc_assembly.specs.Words.{is_next}
use Rattle.pc_assembly.specs.Names.{is_name}

-- ---- the first word

pub first_of : (a b : Bool) → a && b ≡ true → a ≡ true
first_of true b h = refl
first_of false b h = h

pub second_of : (a b : Bool) → a && b ≡ true → b ≡ true
second_of true b h = h
second_of false b h = cc

-- none of two is true
first_free : (a b : Bool) → not (a || b) ≡ true → a ≡ false
first_free true b h = cc
first_free false b h = refl

others_free : (a b : Bool) → not (a || b) ≡ true → not b ≡ true
others_free true b h = cc
others_free false b h = h

-- a name begins with none of these words
pub record IsFree (bytes : List ℕ) : Type 0 where
  pub register : is_next word.R bytes ≡ false
  pub array : is_next word.A bytes ≡ false
  pub row : is_next word.Row bytes ≡ false
  pub test : is_next word.If bytes ≡ false
  pub yes_side : is_next word.Yes bytes ≡ false
  pub no_side : is_next word.No bytes ≡ false
  pub to : is_next word.Goto bytes ≡ false
  pub stop : is_next word.Stop bytes ≡ false
  pub trap : is_next word.Trap bytes ≡ false
  pub print : is_next word.Print bytes ≡ false

pub name_is_free : (bytes : List ℕ) → is_name bytes ≡ true → IsFree bytes
unfolding is_name
name_is_free bytes h =
    let register = second_of _ _ h in
    let array = others_free (is_next word.R bytes) _ register in
    let row = others_free (is_next word.A bytes) _ array in
    let test = others_free (is_next word.Row bytes) _ row in
    let yes_side = others_free (is_next word.If bytes) _ test in
    let no_side = others_free (is_next word.Yes bytes) _ yes_side in
    let to = others_free (is_next word.No bytes) _ no_side in
    let stop = others_free (is_next word.Goto bytes) _ to in
    let trap = others_free (is_next word.Stop bytes) _ stop in
    let print = others_free (is_next word.Trap bytes) _ trap in
    record {
      register = first_free (is_next word.R bytes) _ register;
      array = first_free (is_next word.A bytes) _ array;
      row = first_free (is_next word.Row bytes) _ row;
      test = first_free (is_next word.If bytes) _ test;
      yes_side = first_free (is_next word.Yes bytes) _ yes_side;
      no_side = first_free (is_next word.No bytes) _ no_side;
      to = first_free (is_next word.Goto bytes) _ to;
      stop = first_free (is_next word.Stop bytes) _ stop;
      trap = first_free (is_next word.Trap bytes) _ trap;
      print = first_free (is_next word.Print bytes) _ print;
    }

-- ---- the first byte

letter_no_blank : (byte : ℕ) → is_letter byte ≡ true → is_blank byte ≡ false
letter_no_blank byte h = grind (arith, nat_tests)

-- no blank stands in front of a name
pub unblank_name : (bytes : List ℕ) → is_name bytes ≡ true → prefix_len (is_in class.Blank) bytes ≡ 0
unfolding is_name
unblank_name [] h = cc
unblank_name (byte ∷ bytes) h = rw (letter_no_blank byte (first_of (is_letter byte) _ h)) refl
