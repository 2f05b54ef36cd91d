-- Numbers in bytes: how they are written, and that they are told by their bytes.
use Rattle.std.proofs.Common.{◌≡◌, ℕ, zero, suc, ◌+◌, ◌-◌, ◌*◌, ◌<◌, ◌≤◌, List, [], ◌∷◌, ◌++◌, refl, sym, ◌∙◌, ap, length, take, arith}
use Rattle.std.proofs.lemmas.Bool.Decides.{nat_tests}
use Rattle.std.proofs.lemmas.List.{append_assoc, append-nil, take-append-le}
use Rattle.std.specs.Prelude.{◌/◌, ◌%◌, ℤ, pos, negsuc, Bool, true, false, if◌then◌else◌, nat_eq, nat_lt}
use Rattle.std.proofs.Math.Nat.{mod-add-div, mul-add, mul_assoc}
use Rattle.pc_word.proofs.Truth.{most_of, of_most}
use Rattle.pc_canon.specs.Bytes.{zigzag, digits_within, natural_bytes, number_bytes, bytes_of}
use Rattle.pc_canon.specs.models.Kept.{unzigzag, numbers_from, numbers_in}

-- ---- the digits of a number

-- where "less than" passes, as it follows
of_less : (a b : ℕ) → a < b → nat_lt a b ≡ true
of_less a b h = grind (arith, nat_tests)

-- digits do not depend on how many there may be, where these are enough
enough : (m k n : ℕ) → n ≤ m → n ≤ k → digits_within m n ≡ digits_within k n
enough zero zero n p q = refl
enough zero (suc k) n p q = sym (ap (λ (b : Bool). if b then n ∷ [] else (128 + n % 128) ∷ digits_within k (n / 128)) (of_less n 128 (omega (arith, p))))
enough (suc m) zero n p q = ap (λ (b : Bool). if b then n ∷ [] else (128 + n % 128) ∷ digits_within m (n / 128)) (of_less n 128 (omega (arith, q)))
enough (suc m) (suc k) n p q = by (nat_lt n 128) refl (λ large. enough m k (n / 128) (omega (arith, p, large)) (omega (arith, q, large)))
  where
    by : (b : Bool) → nat_lt n 128 ≡ b → (128 ≤ n → digits_within m (n / 128) ≡ digits_within k (n / 128))
        → (if b then n ∷ [] else (128 + n % 128) ∷ digits_within m (n / 128)) ≡ (if b then n ∷ [] else (128 + n % 128) ∷ digits_within k (n / 128))
    by true e next = refl
    by false e next = ap (λ (l : List ℕ). (128 + n % 128) ∷ l) (next (most_of n 128 e))

pub one_byte : (n : ℕ) → n < 128 → natural_bytes n ≡ n ∷ []
unfolding natural_bytes
one_byte zero h = refl
one_byte (suc n) h = ap (λ (b : Bool). if b then suc n ∷ [] else (128 + suc n % 128) ∷ digits_within n (suc n / 128)) (of_less (suc n) 128 h)

pub more_bytes : (n : ℕ) → 128 ≤ n → natural_bytes n ≡ (128 + n % 128) ∷ natural_bytes (n / 128)
unfolding natural_bytes
more_bytes zero h = absurd (omega (arith, h))
more_bytes (suc n) h =
    ap (λ (b : Bool). if b then suc n ∷ [] else (128 + suc n % 128) ∷ digits_within n (suc n / 128)) (of_most (suc n) 128 h)
    ∙ ap (λ (l : List ℕ). (128 + suc n % 128) ∷ l) (enough n (suc n / 128) (suc n / 128) (omega (arith, h)) (omega arith))

-- ---- numbers are read from their bytes

read_again : (z : ℤ) → unzigzag (zigzag z) ≡ z
read_again (pos n) =
    let even : (2 * n) % 2 ≡ 0 = omega arith in
    let half : (2 * n) / 2 ≡ n = omega arith in
    (λ i. if nat_eq (even i) 0 then pos (half i) else negsuc (half i))
read_again (negsuc n) =
    let odd : (2 * n + 1) % 2 ≡ 1 = omega arith in
    let half : (2 * n + 1) / 2 ≡ n = omega arith in
    (λ i. if nat_eq (odd i) 0 then pos (half i) else negsuc (half i))

-- what a digit counts, and what those behind it do
counted : (sum times digit more : ℕ) → sum + times * (128 + digit - 128) + times * 128 * more ≡ sum + times * (digit + 128 * more)
counted sum times digit more =
    let low : 128 + digit - 128 ≡ digit = omega arith in
    let high = mul_assoc times 128 more in
    let both = mul-add times digit (128 * more) in
    ap (λ (d : ℕ). sum + times * d + times * 128 * more) low ∙ omega (arith, high, both)

digits_read : (most sum times n : ℕ) (rest : List ℕ) → n ≤ most
    → numbers_from sum times (digits_within most n ++ rest) ≡ unzigzag (sum + times * n) ∷ numbers_from 0 1 rest
digits_read zero sum times n rest h =
    ap (λ (b : Bool). if b then unzigzag (sum + times * n) ∷ numbers_from 0 1 rest else numbers_from (sum + times * (n - 128)) (times * 128) rest)
    (of_less n 128 (omega (arith, h)))
digits_read (suc most) sum times n rest h =
    by (nat_lt n 128) refl (λ large. digits_read most (sum + times * (128 + n % 128 - 128)) (times * 128) (n / 128) rest (omega (arith, h, large)))
  where
    by : (b : Bool) → nat_lt n 128 ≡ b
        → (128 ≤ n → numbers_from (sum + times * (128 + n % 128 - 128)) (times * 128) (digits_within most (n / 128) ++ rest)
        ≡ unzigzag (sum + times * (128 + n % 128 - 128) + times * 128 * (n / 128)) ∷ numbers_from 0 1 rest)
        → numbers_from sum times ((if b then n ∷ [] else (128 + n % 128) ∷ digits_within most (n / 128)) ++ rest) ≡ unzigzag (sum + times * n) ∷ numbers_from 0 1 rest
    by true e next =
        ap (λ (b : Bool). if b then unzigzag (sum + times * n) ∷ numbers_from 0 1 rest else numbers_from (sum + times * (n - 128)) (times * 128) rest) e
    by false e next =
        let not_last : nat_lt (128 + n % 128) 128 ≡ false = of_most (128 + n % 128) 128 (omega arith) in
        let all = counted sum times (n % 128) (n / 128) ∙ ap (λ (m : ℕ). sum + times * m) (mod-add-div n 128) in
        ap (λ (b : Bool). if b then unzigzag (sum + times * (128 + n % 128)) ∷ numbers_from 0 1 (digits_within most (n / 128) ++ rest)
        else numbers_from (sum + times * (128 + n % 128 - 128)) (times * 128) (digits_within most (n / 128) ++ rest)) not_last
        ∙ next (most_of n 128 e)
        ∙ ap (λ (m : ℕ). unzigzag m ∷ numbers_from 0 1 rest) all

-- the numbers that are written in bytes are those that stand there
pub numbers_again : (zs : List ℤ) → numbers_in (bytes_of zs) ≡ zs
unfolding natural_bytes numbers_in
numbers_again [] = refl
numbers_again (z ∷ zs) =
    let one : 0 + 1 * zigzag z ≡ zigzag z = omega arith in
    digits_read (zigzag z) 0 1 (zigzag z) (bytes_of zs) (omega arith)
    ∙ ap (λ (n : ℕ). unzigzag n ∷ numbers_from 0 1 (bytes_of zs)) one
    ∙ (λ i. read_again z i ∷ numbers_again zs i)

-- so no two lists of numbers have the same bytes
pub same_numbers : (xs ys : List ℤ) → bytes_of xs ≡ bytes_of ys → xs ≡ ys
same_numbers xs ys e = sym (numbers_again xs) ∙ ap numbers_in e ∙ numbers_again ys

-- ---- more numbers

bytes_of-append : (xs ys : List ℤ) → bytes_of (xs ++ ys) ≡ bytes_of xs ++ bytes_of ys
bytes_of-append [] ys = refl
bytes_of-append (x ∷ xs) ys = ap (λ (l : List ℕ). number_bytes x ++ l) (bytes_of-append xs ys) ∙ sym (append_assoc (number_bytes x) (bytes_of xs) (bytes_of ys))

-- bytes with those of numbers behind them
behind : (before after : List ℕ) (zs : List ℤ) → bytes_of (numbers_in before) ≡ before → after ≡ before ++ bytes_of zs → after ≡ bytes_of (numbers_in before ++ zs)
behind before after zs kept is = is ∙ (λ i. sym kept i ++ bytes_of zs) ∙ sym (bytes_of-append (numbers_in before) zs)

-- hold these numbers more
added_in : (before after : List ℕ) (zs : List ℤ) → bytes_of (numbers_in before) ≡ before → after ≡ before ++ bytes_of zs → numbers_in after ≡ numbers_in before ++ zs
added_in before after zs kept is = ap numbers_in (behind before after zs kept is) ∙ numbers_again (numbers_in before ++ zs)

-- and nothing else
kept_in : (before after : List ℕ) (zs : List ℤ) → bytes_of (numbers_in before) ≡ before → after ≡ before ++ bytes_of zs → bytes_of (numbers_in after) ≡ after
kept_in before after zs kept is = ap bytes_of (added_in before after zs kept is) ∙ sym (behind before after zs kept is)

-- the bytes of a number alone
one_number : (before : List ℕ) (z : ℤ) → before ++ number_bytes z ≡ before ++ bytes_of (z ∷ [])
one_number before z = ap (λ (l : List ℕ). before ++ l) (sym (append-nil (number_bytes z)))

module _ (before after : List ℕ) (z : ℤ) where
  -- a number of any size
  pub number_added : bytes_of (numbers_in before) ≡ before → after ≡ before ++ natural_bytes (zigzag z) → numbers_in after ≡ numbers_in before ++ z ∷ []
  number_added kept is = added_in before after (z ∷ []) kept (is ∙ one_number before z)

  pub number_kept : bytes_of (numbers_in before) ≡ before → after ≡ before ++ natural_bytes (zigzag z) → bytes_of (numbers_in after) ≡ after
  number_kept kept is = kept_in before after (z ∷ []) kept (is ∙ one_number before z)

  -- a number of one byte
  pub short_added : bytes_of (numbers_in before) ≡ before → zigzag z < 128 → after ≡ before ++ zigzag z ∷ [] → numbers_in after ≡ numbers_in before ++ z ∷ []
  short_added kept short is = number_added kept (is ∙ ap (λ (l : List ℕ). before ++ l) (sym (one_byte (zigzag z) short)))

  pub short_kept : bytes_of (numbers_in before) ≡ before → zigzag z < 128 → after ≡ before ++ zigzag z ∷ [] → bytes_of (numbers_in after) ≡ after
  short_kept kept short is = number_kept kept (is ∙ ap (λ (l : List ℕ). before ++ l) (sym (one_byte (zigzag z) short)))

pub ruleset added = (number_added, number_kept, short_added, short_kept)

-- the bytes of numbers of one byte
one_short : (z : ℤ) (rest : List ℕ) → zigzag z < 128 → zigzag z ∷ rest ≡ number_bytes z ++ rest
one_short z rest short = ap (λ (l : List ℕ). l ++ rest) (sym (one_byte (zigzag z) short))

module _ (before one two : List ℕ) (y z : ℤ) where
  two_bytes : zigzag y < 128 → zigzag z < 128 → one ≡ before ++ zigzag y ∷ [] → two ≡ one ++ zigzag z ∷ [] → two ≡ before ++ bytes_of (y ∷ z ∷ [])
  two_bytes p q first second =
      second ∙ ap (λ (l : List ℕ). l ++ zigzag z ∷ []) first ∙ append_assoc before (zigzag y ∷ []) (zigzag z ∷ [])
      ∙ ap (λ (l : List ℕ). before ++ zigzag y ∷ l) (one_short z [] q) ∙ ap (λ (l : List ℕ). before ++ l) (one_short y (bytes_of (z ∷ [])) p)

  -- two numbers of one byte each
  pub two_added : bytes_of (numbers_in before) ≡ before → zigzag y < 128 → zigzag z < 128 → one ≡ before ++ zigzag y ∷ [] → two ≡ one ++ zigzag z ∷ []
      → numbers_in two ≡ numbers_in before ++ y ∷ z ∷ []
  two_added kept p q first second = added_in before two (y ∷ z ∷ []) kept (two_bytes p q first second)

  pub two_kept : bytes_of (numbers_in before) ≡ before → zigzag y < 128 → zigzag z < 128 → one ≡ before ++ zigzag y ∷ [] → two ≡ one ++ zigzag z ∷ []
      → bytes_of (numbers_in two) ≡ two
  two_kept kept p q first second = kept_in before two (y ∷ z ∷ []) kept (two_bytes p q first second)

pub ruleset two = (two_added, two_kept)

module _ (before one two three : List ℕ) (x y z : ℤ) where
  three_bytes : zigzag x < 128 → zigzag y < 128 → zigzag z < 128 → one ≡ before ++ zigzag x ∷ [] → two ≡ one ++ zigzag y ∷ [] → three ≡ two ++ zigzag z ∷ []
      → three ≡ before ++ bytes_of (x ∷ y ∷ z ∷ [])
  three_bytes o p q first second third =
      two_bytes one two three y z p q second third ∙ ap (λ (l : List ℕ). l ++ bytes_of (y ∷ z ∷ [])) first
      ∙ append_assoc before (zigzag x ∷ []) (bytes_of (y ∷ z ∷ [])) ∙ ap (λ (l : List ℕ). before ++ l) (one_short x (bytes_of (y ∷ z ∷ [])) o)

  -- three numbers of one byte each
  pub three_added : bytes_of (numbers_in before) ≡ before → zigzag x < 128 → zigzag y < 128 → zigzag z < 128
      → one ≡ before ++ zigzag x ∷ [] → two ≡ one ++ zigzag y ∷ [] → three ≡ two ++ zigzag z ∷ [] → numbers_in three ≡ numbers_in before ++ x ∷ y ∷ z ∷ []
  three_added kept o p q first second third = added_in before three (x ∷ y ∷ z ∷ []) kept (three_bytes o p q first second third)

  pub three_kept : bytes_of (numbers_in before) ≡ before → zigzag x < 128 → zigzag y < 128 → zigzag z < 128
      → one ≡ before ++ zigzag x ∷ [] → two ≡ one ++ zigzag y ∷ [] → three ≡ two ++ zigzag z ∷ [] → bytes_of (numbers_in three) ≡ three
  three_kept kept o p q first second third = kept_in before three (x ∷ y ∷ z ∷ []) kept (three_bytes o p q first second third)

pub ruleset three = (three_added, three_kept)

-- three numbers that are put behind others one by one are a list behind them
pub one_by_one : (before one two three : List ℤ) (x y z : ℤ) → one ≡ before ++ x ∷ [] → two ≡ one ++ y ∷ [] → three ≡ two ++ z ∷ [] → three ≡ before ++ x ∷ y ∷ z ∷ []
one_by_one before one two three x y z first second third =
    third ∙ ap (λ (l : List ℤ). l ++ z ∷ []) (second ∙ ap (λ (l : List ℤ). l ++ y ∷ []) first ∙ append_assoc before (x ∷ []) (y ∷ []))
    ∙ append_assoc before (x ∷ y ∷ []) (z ∷ [])

-- ---- writing

-- a digit is written, and the others stay to be written
pub digit_written : (before bytes whole : List ℕ) (n : ℕ) → bytes ≡ before ++ (128 + n % 128) ∷ [] → 128 ≤ n → before ++ natural_bytes n ≡ whole
    → bytes ++ natural_bytes (n / 128) ≡ whole
digit_written before bytes whole n more large is =
    ap (λ (l : List ℕ). l ++ natural_bytes (n / 128)) more ∙ append_assoc before ((128 + n % 128) ∷ []) (natural_bytes (n / 128))
    ∙ ap (λ (l : List ℕ). before ++ l) (sym (more_bytes n large)) ∙ is

-- the last digit is written
pub last_written : (before bytes whole : List ℕ) (n : ℕ) → bytes ≡ before ++ n ∷ [] → n < 128 → before ++ natural_bytes n ≡ whole → bytes ≡ whole
last_written before bytes whole n more small is = more ∙ ap (λ (l : List ℕ). before ++ l) (sym (one_byte n small)) ∙ is

-- a number of one digit is written
pub one_written : (before bytes : List ℕ) (n : ℕ) → bytes ≡ before ++ n ∷ [] → n < 128 → bytes ≡ before ++ natural_bytes n
one_written before bytes n more small = last_written before bytes (before ++ natural_bytes n) n more small refl

-- two digits are written
pub two_written : (before one two : List ℕ) (n : ℕ) → one ≡ before ++ (128 + n % 128) ∷ [] → two ≡ one ++ (n / 128) ∷ [] → 128 ≤ n → n < 16384
    → two ≡ before ++ natural_bytes n
two_written before one two n first second large short =
    let small : n / 128 < 128 = omega (arith, short) in
    second ∙ ap (λ (l : List ℕ). one ++ l) (sym (one_byte (n / 128) small)) ∙ digit_written before one (before ++ natural_bytes n) n first large refl

-- what stands before a byte that is put behind stays
pub before_stays : (start bytes after : List ℕ) (byte : ℕ) → take (length start) bytes ≡ start → length start ≤ length bytes → after ≡ bytes ++ byte ∷ []
    → take (length start) after ≡ start
before_stays start bytes after byte is long more = ap (take (length start)) more ∙ take-append-le (length start) bytes (byte ∷ []) long ∙ is

pub ruleset short = (one_written, two_written)

pub ruleset digits = (before_stays)
