-- Which bytes are marks, and that the longest one is found.
use Rattle.std.proofs.Common.{◌≡◌, ℕ, ◌<◌, ◌≤◌, List, [], ◌∷◌, Bool, true, false, ◌&&◌, ◌||◌, cond, nat_eq, Some, None, take, length, get_or, refl, sym, ap, ◌∙◌, arith}
use Rattle.std.specs.Prelude.{bytes_eq, codes, ◌==◌, nat_le}
use Rattle.std.specs.List.{list_any, list_all, find, starts_with}
use Rattle.std.specs.Cmp.Lexicographic.{same_text}
use Rattle.std.proofs.lemmas.Bool.Decides.{nat_tests}
use Rattle.std.proofs.lemmas.List.{take-take, length-take-le}
use Rattle.pc_lexer.specs.Bytes.{is_blank, is_letter, is_digit}
use Rattle.pc_lexer.specs.Spelling.{mark_spelling, marks, mark_at}
use Rattle.pc_lexer.specs.Laws.{is_mark}
use Rattle.pc_lexer.specs.declared.mark.Mark.{Mark}
use Rattle.pc_lexer.specs.declared.mark.Mark.TheVariants as mark
use Rattle.pc_word.proofs.Truth.{and_true}

-- a test that cannot pass fails
pub fails : (t : Bool) → (t ≡ true → ⊥) → t ≡ false
fails true h = absurd (h refl)
fails false h = refl

-- an element that passes
any_found : {X : Type 0} (p : X → Bool) (xs : List X) → list_any p xs ≡ true → (x : X) × (p x ≡ true)
any_found p [] h = cc
any_found {X = X} p (x ∷ xs) h = by (p x) refl h (any_found p xs)
  where
    by : (t : Bool) → p x ≡ t → (t || list_any p xs) ≡ true → (list_any p xs ≡ true → (y : X) × (p y ≡ true)) → (y : X) × (p y ≡ true)
    by true e h rest = (x, e)
    by false e h rest = rest h

pub mark_found : (bytes : List ℕ) → is_mark bytes ≡ true → (m : Mark) × (mark_spelling m ≡ bytes)
mark_found bytes h =
    let f = any_found (λ mark. bytes_eq (mark_spelling mark) bytes) marks h in
    (f.0, same_text (mark_spelling f.0) bytes (sym f.1))

-- whether a byte begins something else than a mark
abbrev pub begins_other : ℕ → Bool
begins_other b = is_blank b || is_letter b || is_digit b || b == 35

mark_first : (m : Mark) → begins_other (get_or (mark_spelling m) 0 0) ≡ false
mark_first mark.Not = refl
mark_first _ = refl

pub no_mark_behind : (b : ℕ) (bytes : List ℕ) → begins_other b ≡ true → is_mark (b ∷ bytes) ≡ false
no_mark_behind b bytes other = fails (is_mark (b ∷ bytes)) (λ h.
    let f = mark_found (b ∷ bytes) h in
    let e : begins_other b ≡ false = sym (ap (λ l. begins_other (get_or l 0 0)) f.1) ∙ mark_first f.0 in
    cc)

mark_opens : (m : Mark) → (starts_with nat_eq (mark_spelling m) (codes "//") || starts_with nat_eq (mark_spelling m) (codes "/*")) ≡ false
mark_opens mark.Not = refl
mark_opens _ = refl

-- a front of a comment of two bytes or more is no mark
pub no_mark_in_comment : (text : List ℕ) (k : ℕ) → 2 ≤ k → (starts_with nat_eq text (codes "//") || starts_with nat_eq text (codes "/*")) ≡ true → is_mark (take k text) ≡ false
no_mark_in_comment text k two opens = fails (is_mark (take k text)) (λ h.
    let f = mark_found (take k text) h in
    let e : (starts_with nat_eq (take k text) (codes "//") || starts_with nat_eq (take k text) (codes "/*")) ≡ false
    = sym (ap (λ l. starts_with nat_eq l (codes "//") || starts_with nat_eq l (codes "/*")) f.1) ∙ mark_opens f.0 in
    let same : take 2 (take k text) ≡ take 2 text = take-take 2 k text two in
    let t : (starts_with nat_eq (take k text) (codes "//") || starts_with nat_eq (take k text) (codes "/*")) ≡ true
    = ap (λ l. bytes_eq (codes "//") l || bytes_eq (codes "/*") l) same ∙ opens in
    cc)

-- each element is at least as large as those after it
pub descends : {X : Type 0} → (X → ℕ) → List X → Bool
descends size [] = true
descends size (x ∷ xs) = list_all (λ y. nat_le (size y) (size x)) xs && descends size xs

marks_descend : descends (λ mark. length (mark_spelling mark)) marks ≡ true
unfolding descends
marks_descend = refl

-- in such a list, what passes a narrower test is no larger than the first
module _ {X : Type 0} (size : X → ℕ) (p q : X → Bool) (k : ℕ) (narrow : (x : X) → q x ≡ true → (p x ≡ true) × (size x ≡ k)) where
  below_first : (n : ℕ) (xs : List X) → list_all (λ y. nat_le (size y) n) xs ≡ true → list_any q xs ≡ true → k ≤ n
  below_first n [] h any = cc
  below_first n (x ∷ xs) h any = by (q x) refl any (below_first n xs (and_true (nat_le (size x) n) _ h).1)
    where
      by : (t : Bool) → q x ≡ t → (t || list_any q xs) ≡ true → (list_any q xs ≡ true → k ≤ n) → k ≤ n
      by true e any rest = let s = (narrow x e).1 in let le = (and_true (nat_le (size x) n) _ h).0 in grind (arith, nat_tests)
      by false e any rest = rest any

  pub find-largest : (xs : List X) (found : X) → descends size xs ≡ true → find p xs ≡ Some found → list_any q xs ≡ true → k ≤ size found
  unfolding descends
  find-largest [] found d f any = cc
  find-largest (x ∷ xs) found d f any =
      let parts = and_true (list_all (λ y. nat_le (size y) (size x)) xs) (descends size xs) d in
      by (p x) refl (q x) refl f any (find-largest xs found parts.1) (below_first (size x) xs parts.0)
    where
      by : (t : Bool) → p x ≡ t → (s : Bool) → q x ≡ s → cond t (Some x) (find p xs) ≡ Some found → (s || list_any q xs) ≡ true
          → (find p xs ≡ Some found → list_any q xs ≡ true → k ≤ size found) → (list_any q xs ≡ true → k ≤ size x) → k ≤ size found
      by true e true g f any rest first = let same : x ≡ found = cc in let s = (narrow x g).1 in let z = ap size same in omega arith
      by true e false g f any rest first = let same : x ≡ found = cc in let z = ap size same in let le = first any in omega arith
      by false e true g f any rest first = let t = (narrow x g).0 in cc
      by false e false g f any rest first = rest f any

  pub find-none : (xs : List X) → find p xs ≡ None → list_any q xs ≡ true → ⊥
  find-none [] f any = cc
  find-none (x ∷ xs) f any = by (p x) refl (q x) refl f any (find-none xs)
    where
      by : (t : Bool) → p x ≡ t → (s : Bool) → q x ≡ s → cond t (Some x) (find p xs) ≡ None → (s || list_any q xs) ≡ true
          → (find p xs ≡ None → list_any q xs ≡ true → ⊥) → ⊥
      by true e s g f any rest = cc
      by false e true g f any rest = let t = (narrow x g).0 in cc
      by false e false g f any rest = rest f any

-- a mark that is a front of the text is one that the text begins with
front_narrow : (text : List ℕ) (k : ℕ) → k ≤ length text → (m : Mark) → bytes_eq (mark_spelling m) (take k text) ≡ true
    → (starts_with nat_eq text (mark_spelling m) ≡ true) × (length (mark_spelling m) ≡ k)
front_narrow text k within m h =
    let is = same_text (mark_spelling m) (take k text) (sym h) in
    let size : length (mark_spelling m) ≡ k = ap length is ∙ length-take-le k text within in
    (ap (λ n. bytes_eq (mark_spelling m) (take n text)) size ∙ h, size)

-- no front that is longer than the mark found is a mark
pub no_longer_mark : (text : List ℕ) (m : Mark) (k : ℕ) → mark_at text ≡ Some m → length (mark_spelling m) < k → k ≤ length text → is_mark (take k text) ≡ false
unfolding mark_at
no_longer_mark text m k found longer within = fails (is_mark (take k text)) (λ h.
    let le = find-largest (λ mark. length (mark_spelling mark)) (λ mark. starts_with nat_eq text (mark_spelling mark))
    (λ mark. bytes_eq (mark_spelling mark) (take k text)) k (front_narrow text k within) marks m marks_descend found h in
    omega arith)

pub no_mark : (text : List ℕ) (k : ℕ) → mark_at text ≡ None → k ≤ length text → is_mark (take k text) ≡ false
unfolding mark_at
no_mark text k none within = fails (is_mark (take k text)) (λ h.
    find-none (λ mark. length (mark_spelling mark)) (λ mark. starts_with nat_eq text (mark_spelling mark))
    (λ mark. bytes_eq (mark_spelling mark) (take k text)) k (front_narrow text k within) marks none h)
