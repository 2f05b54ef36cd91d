-- A field that is read is the field that was written, without a flaw; and such a field that was written is read again.
use Rattle.std.proofs.Common.{◌≡◌, ℕ, zero, suc, ◌+◌, ◌^◌, ◌<◌, ◌≤◌, ℤ, Bool, true, false, cond, ltb, eqb, List, [], ◌∷◌, ◌++◌, length, get_or, take}
use Rattle.std.proofs.Common.{drop, Option, Some, None, Result, Ok, Err, Fits, refl, sym, ap, subst, ◌∙◌, append_assoc, arith, inl, inr}
use Rattle.std.specs.Prelude.{find, FitsSigned}
use Rattle.std.specs.Int.{Width, w16, w32, byte_len, from_be_bytes, to_be_bytes, cast_signed, cast_unsigned}
use Rattle.std.proofs.Math.Facts.{sfits_to_z, Fits-of_z}
use Rattle.std.proofs.lemmas.Bool.{cases_lt, ltb-false, le-ltb, eqb-true}
use Rattle.std.proofs.lemmas.Int.{of_z-to_z, to_z-of_z}
use Rattle.std.proofs.lemmas.List.{take_at, drop_at, take-append-drop, length-append, length-take, get_or-drop, get_or-take, get_or_past}
use Rattle.std.proofs.lemmas.Nat.{be_bytes_2, be_bytes_4, from_be_bytes-to_be_bytes_2, from_be_bytes-to_be_bytes_4}
use Rattle.pc_word.specs.declared.item.OpCode.{OpCode}
use Rattle.pc_word.specs.declared.item.OpCode.TheVariants.{Add, Sub, Mul, Div, Rem, Shl, Shr, And, Or, Xor, Less, LessEq, Equal, Unequal, Below}
use Rattle.pc_word.specs.declared.item.Operand.{Operand}
use Rattle.pc_word.specs.declared.item.Operand.TheVariants.{Name, Lit}
use Rattle.pc_word.specs.declared.item.TrapKind.{TrapKind}
use Rattle.pc_word.specs.declared.item.TrapKind.TheVariants.{DivideByZero, OutOfBounds, EndOfInput}
use Rattle.pc_machine.specs.declared.code.Flaw.{Flaw}
use Rattle.pc_machine.specs.declared.code.Flaw.TheVariants as flaws
use Rattle.pc_machine.specs.Flaws.{Above, register_flaws, dest_flaws, operand_flaws, array_flaws}
use Rattle.pc_word.specs.Exact.{checked}
use Rattle.pc_object.specs.declared.refusal.Refusal.{Refusal}
use Rattle.pc_object.specs.declared.refusal.Refusal.TheVariants.{Short}
use Rattle.pc_object.specs.declared.tag.ItemKind.TheVariants as kinds
use Rattle.pc_object.specs.declared.tag.Tag.{Tag}
use Rattle.pc_object.specs.declared.tag.Tag.TheVariants as tags
use Rattle.pc_object.specs.ObjectText.{operator_byte, trap_byte, operand_text, word_text}
use Rattle.pc_object.specs.Numbers.{OperandFits}
use Rattle.pc_object.specs.Reading.{◌>>=◌, ◌>>◌, at_field, unflawed, known, byte_at, number_at, word_at, operators, operator_of_byte, trap_kinds, trap_of}
use Rattle.pc_object.specs.Reading.{operator_at, trap_at, register_at, dest_at, array_at, operand_at, tag_byte, all_tags, tag_of, tag_at}

-- ---- bytes

-- each is below 256
abbrev pub IsBytes : List ℕ → Type 0
IsBytes bytes = (i : ℕ) → get_or bytes i 0 < 256

IsBytes-drop : (n : ℕ) (bytes : List ℕ) → IsBytes bytes → IsBytes (drop n bytes)
IsBytes-drop n bytes h i = rw get_or-drop (h (n + i))

IsBytes-take : (n : ℕ) (bytes : List ℕ) → IsBytes bytes → IsBytes (take n bytes)
IsBytes-take n bytes h i =
    elim (cases_lt i n) [
      | inl lt ↦ rw (get_or-take n bytes i 0 lt) (h i)
      | inr le ↦ rw (get_or_past (take n bytes) i 0 (omega (arith, length-take n bytes))) (omega arith)
    ]

pub IsBytes-rest : (b : ℕ) (bytes : List ℕ) → IsBytes (b ∷ bytes) → IsBytes bytes
IsBytes-rest b bytes h i = h (suc i)

-- what a reader took from the front
pub record Takes (bytes text rest : List ℕ) : Type 0 where
  pub parts : bytes ≡ text ++ rest
  pub rest_fits : IsBytes rest

pub Takes-then : (a x b y c : List ℕ) → Takes a x b → Takes b y c → Takes a (x ++ y) c
Takes-then a x b y c p q = record { parts = p.parts ∙ ap (λ (t : List ℕ). x ++ t) q.parts ∙ sym (append_assoc x y c); rest_fits = q.rest_fits }

-- ---- steps

-- the value of a step that did not fail
pub bind_ok : {A B : Type 0} (r : Result A Refusal) (f : A → Result B Refusal) (y : B) → (r >>= f) ≡ Ok y → (x : A) × (r ≡ Ok x) × (f x ≡ Ok y)
bind_ok (Ok x) f y e = (x, refl, e)
bind_ok (Err d) f y e = absurd cc

abbrev done : {A : Type 0} → A → Result A Refusal
done x = Ok x

pub ok_is : {A : Type 0} (x y : A) → done x ≡ done y → x ≡ y
ok_is x y e = cc

-- a check that gave a value found no flaw, and gave its own
pub checked_ok : {X : Type 0} (bytes : List ℕ) (told : List Flaw) (x y : X) → at_field bytes (checked told x) ≡ Ok y → (told ≡ []) × (x ≡ y)
checked_ok bytes [] x y e = (refl, cc)
checked_ok bytes (flaw ∷ told) x y e = absurd cc

pub passes_then : {A : Type 0} (bytes : List ℕ) (told : List Flaw) (x y : A) → (unflawed bytes told >> Ok x) ≡ Ok y → (told ≡ []) × (x ≡ y)
passes_then bytes [] x y e = (refl, cc)
passes_then bytes (flaw ∷ told) x y e = absurd cc

known_then : {A B : Type 0} (bytes : List ℕ) (flaw : Flaw) (o : Option A) (f : A → B) (y : B) → (known bytes flaw o >>= λ a. Ok (f a)) ≡ Ok y → (a : A) × (o ≡ Some a) × (f a ≡ y)
known_then bytes flaw (Some a) f y e = (a, refl, cc)
known_then bytes flaw None f y e = absurd cc

-- ---- numbers

pub byte_takes : (bytes : List ℕ) (b : ℕ) (rest : List ℕ) → IsBytes bytes → byte_at bytes ≡ Ok (b, rest) → Takes bytes (b ∷ []) rest × (b < 256)
byte_takes [] b rest fits e = absurd cc
byte_takes (x ∷ bytes) b rest fits e =
    subst (λ (y : ℕ × List ℕ). Takes (x ∷ bytes) (y.0 ∷ []) y.1 × (y.0 < 256)) (ok_is (x, bytes) (b, rest) e) (record { parts = refl; rest_fits = IsBytes-rest x bytes fits }, fits 0)

-- a test that did not fail
guard_ok : {A : Type 0} (b : Bool) (d : Refusal) (x y : A) → cond b (Err d) (Ok x) ≡ Ok y → (b ≡ false) × (x ≡ y)
guard_ok true d x y e = absurd cc
guard_ok false d x y e = (refl, cc)

pub record IsWide (w : Width) (limit : ℕ) : Type 0 where
  pub len : (n : ℕ) → length (to_be_bytes w n) ≡ byte_len w
  pub back : (bytes : List ℕ) → length bytes ≡ byte_len w → IsBytes bytes → to_be_bytes w (from_be_bytes w bytes) ≡ bytes
  pub again : (n : ℕ) → n < limit → from_be_bytes w (to_be_bytes w n) ≡ n
  pub below : (bytes : List ℕ) → IsBytes bytes → from_be_bytes w bytes < limit

pub wide16 : IsWide w16 (2 ^ 16)
wide16 = record {
  len = λ n. refl;
  back = λ bytes len fits. be_bytes_2 bytes _ len fits refl;
  again = λ n lt. from_be_bytes-to_be_bytes_2 n lt;
  below = λ bytes fits. omega (arith, fits 0, fits 1);
}

pub wide32 : IsWide w32 (2 ^ 32)
wide32 = record {
  len = λ n. refl;
  back = λ bytes len fits. be_bytes_4 bytes _ len fits refl;
  again = λ n lt. from_be_bytes-to_be_bytes_4 n lt;
  below = λ bytes fits. omega (arith, fits 0, fits 1, fits 2, fits 3);
}

pub number_takes : (w : Width) (limit : ℕ) (wide : IsWide w limit) (bytes : List ℕ) (n : ℕ) (rest : List ℕ) → IsBytes bytes → number_at w bytes ≡ Ok (n, rest)
    → Takes bytes (to_be_bytes w n) rest × (n < limit)
number_takes w limit wide bytes n rest fits e =
    let g = guard_ok (ltb (length bytes) (byte_len w)) Short (from_be_bytes w (take (byte_len w) bytes), drop (byte_len w) bytes) (n, rest) e in
    let long : byte_len w ≤ length bytes = ltb-false _ _ g.0 in
    let n-is : from_be_bytes w (take (byte_len w) bytes) ≡ n = ap (λ (p : ℕ × List ℕ). p.0) g.1 in
    let rest-is : drop (byte_len w) bytes ≡ rest = ap (λ (p : ℕ × List ℕ). p.1) g.1 in
    let front : to_be_bytes w n ≡ take (byte_len w) bytes =
    rw (← n-is) (wide.back (take (byte_len w) bytes) (omega (arith, length-take (byte_len w) bytes)) (IsBytes-take (byte_len w) bytes fits)) in (
      record { parts = rw (front, ← rest-is) (sym (take-append-drop (byte_len w) bytes)); rest_fits = rw (← rest-is) (IsBytes-drop (byte_len w) bytes fits) },
      rw (← n-is)
          (wide.below (take (byte_len w) bytes) (IsBytes-take (byte_len w) bytes fits)),
    )

pub number_again : (w : Width) (limit : ℕ) (wide : IsWide w limit) (n : ℕ) (rest : List ℕ) → n < limit → number_at w (to_be_bytes w n ++ rest) ≡ Ok (n, rest)
number_again w limit wide n rest lt =
    let len = wide.len n in
    let long : ltb (length (to_be_bytes w n ++ rest)) (byte_len w) ≡ false = le-ltb _ _ (omega (arith, length-append (to_be_bytes w n) rest)) in
    rw (long, take_at (to_be_bytes w n) rest (byte_len w) len, drop_at (to_be_bytes w n) rest (byte_len w) len, wide.again n lt) refl

pub word_takes : (bytes : List ℕ) (z : ℤ) (rest : List ℕ) → IsBytes bytes → word_at bytes ≡ Ok (z, rest) → Takes bytes (word_text z) rest × FitsSigned w32 z
unfolding word_at
word_takes bytes z rest fits e =
    let b = bind_ok (number_at w32 bytes) (λ n. Ok (cast_signed w32 n.0, n.1)) (z, rest) e in
    let t = number_takes w32 (2 ^ 32) wide32 bytes b.0.0 b.0.1 fits b.1 in
    let f : Fits w32 b.0.0 = omega (arith, t.1) in
    let made : ℤ × List ℕ = (cast_signed w32 b.0.0, b.0.1) in
    let text : Takes bytes (word_text (cast_signed w32 b.0.0)) b.0.1 = subst (λ (n : ℕ). Takes bytes (to_be_bytes w32 n) b.0.1) (sym (of_z-to_z w32 b.0.0 t.1)) t.0 in
    subst (λ (y : ℤ × List ℕ). Takes bytes (word_text y.0) y.1 × FitsSigned w32 y.0) (ok_is made (z, rest) b.2) (text, sfits_to_z f)

pub word_again : (z : ℤ) (rest : List ℕ) → FitsSigned w32 z → word_at (word_text z ++ rest) ≡ Ok (z, rest)
unfolding word_at
word_again z rest fits =
    let f : Fits w32 (cast_unsigned w32 z) = Fits-of_z fits in
    rw (number_again w32 (2 ^ 32) wide32 (cast_unsigned w32 z) rest (omega (arith, f)), to_z-of_z w32 z fits) refl

-- ---- a byte that is checked

pub checked_byte_takes : (told : ℕ → List Flaw) (bytes : List ℕ) (n : ℕ) (rest : List ℕ) → IsBytes bytes → (byte_at bytes >>= λ x. unflawed bytes (told x.0) >> Ok x) ≡ Ok (n, rest)
    → Takes bytes (n ∷ []) rest × (told n ≡ []) × (n < 256)
checked_byte_takes told bytes n rest fits e =
    let b = bind_ok (byte_at bytes) (λ x. unflawed bytes (told x.0) >> Ok x) (n, rest) e in
    let p = passes_then bytes (told b.0.0) b.0 (n, rest) b.2 in
    let t = byte_takes bytes b.0.0 b.0.1 fits b.1 in
    subst (λ (y : ℕ × List ℕ). Takes bytes (y.0 ∷ []) y.1 × (told y.0 ≡ []) × (y.0 < 256)) p.1 (t.0, p.0, t.1)

pub checked_byte_again : (told : ℕ → List Flaw) (n : ℕ) (rest : List ℕ) → told n ≡ [] → (byte_at (n ∷ rest) >>= λ x. unflawed (n ∷ rest) (told x.0) >> Ok x) ≡ Ok (n, rest)
checked_byte_again told n rest none = rw none refl

-- ---- a byte of a table

named : {A : Type 0} (name : A → ℕ) (b : ℕ) (all : List A) (x : A) → find (λ a. eqb (name a) b) all ≡ Some x → name x ≡ b
named name b [] x e = absurd cc
named name b (a ∷ all) x e =
    elim (eqb (name a) b) as (λ t. eqb (name a) b ≡ t → cond t (Some a) (find (λ y. eqb (name y) b) all) ≡ Some x → name x ≡ b) [
      | true ↦ λ hit found. let is : a ≡ x = cc in ap name (sym is) ∙ eqb-true _ _ hit
      | false ↦ λ miss found. named name b all x found
    ] refl e

abbrev with_rest : {A : Type 0} → List ℕ → A → Result (A × List ℕ) Refusal
with_rest rest a = Ok (a, rest)

table_takes : {A : Type 0} (name : A → ℕ) (all : List A) (flaw : Flaw) (bytes : List ℕ) (x : A) (rest : List ℕ) → IsBytes bytes
    → (byte_at bytes >>= λ b. known bytes flaw (find (λ a. eqb (name a) b.0) all) >>= with_rest b.1) ≡ with_rest rest x → Takes bytes (name x ∷ []) rest
table_takes {A} name all flaw bytes x rest fits e =
    let b = bind_ok (byte_at bytes) (λ b. known bytes flaw (find (λ a. eqb (name a) b.0) all) >>= with_rest b.1) (x, rest) e in
    let k = known_then bytes flaw (find (λ a. eqb (name a) b.0.0) all) (λ (a : A). (a, b.0.1)) (x, rest) b.2 in
    let t = (byte_takes bytes b.0.0 b.0.1 fits b.1).0 in
    let is : name k.0 ≡ b.0.0 = named name b.0.0 all k.0 k.1 in
    let text : Takes bytes (name k.0 ∷ []) b.0.1 = subst (λ (n : ℕ). Takes bytes (n ∷ []) b.0.1) (sym is) t in
    subst (λ (y : A × List ℕ). Takes bytes (name y.0 ∷ []) y.1) k.2 text

pub operator_takes : (bytes : List ℕ) (op : OpCode) (rest : List ℕ) → IsBytes bytes → operator_at bytes ≡ Ok (op, rest) → Takes bytes (operator_byte op ∷ []) rest
unfolding operator_at operator_of_byte
operator_takes bytes op rest fits e = table_takes operator_byte operators flaws.Operator bytes op rest fits e

pub operator_again : (op : OpCode) (rest : List ℕ) → operator_at (operator_byte op ∷ rest) ≡ Ok (op, rest)
unfolding operator_at operator_of_byte
operator_again Add rest = refl
operator_again Sub rest = refl
operator_again Mul rest = refl
operator_again Div rest = refl
operator_again Rem rest = refl
operator_again Shl rest = refl
operator_again Shr rest = refl
operator_again And rest = refl
operator_again Or rest = refl
operator_again Xor rest = refl
operator_again Less rest = refl
operator_again LessEq rest = refl
operator_again Equal rest = refl
operator_again Unequal rest = refl
operator_again Below rest = refl

pub trap_takes : (bytes : List ℕ) (kind : TrapKind) (rest : List ℕ) → IsBytes bytes → trap_at bytes ≡ Ok (kind, rest) → Takes bytes (trap_byte kind ∷ []) rest
unfolding trap_at trap_of
trap_takes bytes kind rest fits e = table_takes trap_byte trap_kinds flaws.Trap bytes kind rest fits e

pub trap_again : (kind : TrapKind) (rest : List ℕ) → trap_at (trap_byte kind ∷ rest) ≡ Ok (kind, rest)
unfolding trap_at trap_of
trap_again DivideByZero rest = refl
trap_again OutOfBounds rest = refl
trap_again EndOfInput rest = refl

pub tag_takes : (bytes : List ℕ) (tag : Tag) (rest : List ℕ) → IsBytes bytes → tag_at bytes ≡ Ok (tag, rest) → Takes bytes (tag_byte tag ∷ []) rest
unfolding tag_at tag_of
tag_takes bytes tag rest fits e = table_takes tag_byte all_tags flaws.Tag bytes tag rest fits e

pub tag_again : (tag : Tag) (rest : List ℕ) → tag_at (tag_byte tag ∷ rest) ≡ Ok (tag, rest)
unfolding tag_at tag_of
tag_again tags.Goto rest = refl
tag_again tags.Stop rest = refl
tag_again tags.Trap rest = refl
tag_again tags.Test rest = refl
tag_again (tags.Item kinds.Bin) rest = refl
tag_again (tags.Item kinds.Copy) rest = refl
tag_again (tags.Item kinds.Load) rest = refl
tag_again (tags.Item kinds.Store) rest = refl
tag_again (tags.Item kinds.Print) rest = refl
tag_again (tags.Item kinds.Read) rest = refl
tag_again (tags.Item kinds.More) rest = refl

-- ---- registers, arrays, operands

register_takes : (registers : ℕ) (bytes : List ℕ) (n : ℕ) (rest : List ℕ) → IsBytes bytes → register_at registers bytes ≡ Ok (n, rest)
    → Takes bytes (n ∷ []) rest × (register_flaws registers n ≡ []) × (n < 256)
unfolding register_at
register_takes registers bytes n rest fits e = checked_byte_takes (register_flaws registers) bytes n rest fits e

register_again : (registers n : ℕ) (rest : List ℕ) → register_flaws registers n ≡ [] → register_at registers (n ∷ rest) ≡ Ok (n, rest)
unfolding register_at
register_again registers n rest none = checked_byte_again (register_flaws registers) n rest none

pub dest_takes : (registers : ℕ) (above : Above) (bytes : List ℕ) (n : ℕ) (rest : List ℕ) → IsBytes bytes → dest_at registers above bytes ≡ Ok (n, rest)
    → Takes bytes (n ∷ []) rest × (dest_flaws registers above n ≡ []) × (n < 256)
unfolding dest_at
dest_takes registers above bytes n rest fits e = checked_byte_takes (dest_flaws registers above) bytes n rest fits e

pub dest_again : (registers : ℕ) (above : Above) (n : ℕ) (rest : List ℕ) → dest_flaws registers above n ≡ [] → dest_at registers above (n ∷ rest) ≡ Ok (n, rest)
unfolding dest_at
dest_again registers above n rest none = checked_byte_again (dest_flaws registers above) n rest none

pub array_takes : (arrays : ℕ) (bytes : List ℕ) (n : ℕ) (rest : List ℕ) → IsBytes bytes → array_at arrays bytes ≡ Ok (n, rest) → Takes bytes (n ∷ []) rest × (array_flaws arrays n ≡ []) × (n < 256)
unfolding array_at
array_takes arrays bytes n rest fits e = checked_byte_takes (array_flaws arrays) bytes n rest fits e

pub array_again : (arrays n : ℕ) (rest : List ℕ) → array_flaws arrays n ≡ [] → array_at arrays (n ∷ rest) ≡ Ok (n, rest)
unfolding array_at
array_again arrays n rest none = checked_byte_again (array_flaws arrays) n rest none

-- what a read operand is
abbrev pub IsRead : ℕ → List ℕ → Operand → List ℕ → Type 0
IsRead registers bytes operand rest = Takes bytes (operand_text operand) rest × (operand_flaws registers operand ≡ []) × OperandFits operand

Takes-after : (b : ℕ) (bytes text rest : List ℕ) → Takes bytes text rest → Takes (b ∷ bytes) (b ∷ text) rest
Takes-after b bytes text rest t = record { parts = ap (λ (w : List ℕ). b ∷ w) t.parts; rest_fits = t.rest_fits }

pub operand_takes : (registers : ℕ) (bytes : List ℕ) (operand : Operand) (rest : List ℕ) → IsBytes bytes → operand_at registers bytes ≡ Ok (operand, rest) → IsRead registers bytes operand rest
unfolding operand_at
operand_takes registers [] operand rest fits e = absurd cc
operand_takes registers (zero ∷ bytes) operand rest fits e =
    let b = bind_ok (register_at registers bytes) (λ n. Ok (Name n.0, n.1)) (operand, rest) e in
    let t = register_takes registers bytes b.0.0 b.0.1 (IsBytes-rest 0 bytes fits) b.1 in
    subst (λ (y : Operand × List ℕ). IsRead registers (0 ∷ bytes) y.0 y.1) (ok_is (Name b.0.0, b.0.1) (operand, rest) b.2) (Takes-after 0 bytes (b.0.0 ∷ []) b.0.1 t.0, t.1, tt)
operand_takes registers (suc zero ∷ bytes) operand rest fits e =
    let b = bind_ok (word_at bytes) (λ n. Ok (Lit n.0, n.1)) (operand, rest) e in
    let t = word_takes bytes b.0.0 b.0.1 (IsBytes-rest 1 bytes fits) b.1 in
    subst (λ (y : Operand × List ℕ). IsRead registers (1 ∷ bytes) y.0 y.1) (ok_is (Lit b.0.0, b.0.1) (operand, rest) b.2) (Takes-after 1 bytes (word_text b.0.0) b.0.1 t.0, refl, t.1)
operand_takes registers (suc (suc b) ∷ bytes) operand rest fits e = absurd cc

pub operand_again : (registers : ℕ) (operand : Operand) (rest : List ℕ) → operand_flaws registers operand ≡ [] → OperandFits operand
    → operand_at registers (operand_text operand ++ rest) ≡ Ok (operand, rest)
unfolding operand_at
operand_again registers (Name n) rest none fits = rw (register_again registers n rest none) refl
operand_again registers (Lit z) rest none fits = rw (word_again z rest fits) refl
