-- A parser's answer depends on the tokens up to where it stops, and, unless it is too high, a greater
-- budget gives the same answer.
use Rattle.std.proofs.Common.{◌≡◌, refl, sym, ap, ◌∙◌, ℕ, ◌+◌, ◌-◌, ◌≤◌, Bool, true, false, List, arith, cond}
use Rattle.std.specs.Prelude.{Option, nat_le}
use Rattle.std.proofs.lemmas.Bool.{leb-true}
use Rattle.std.proofs.lemmas.Bool.Decides.{nat_tests}
use Rattle.pc_lexer.specs.declared.token.Token.{Token}
use Rattle.pc_lexer.specs.declared.token.TokenKind.{TokenKind}
use Rattle.pc_lexer.specs.declared.mark.Mark.{Mark}
use Rattle.pc_lexer.specs.declared.keyword.Keyword.{Keyword}
use Rattle.pc_parser.specs.Places.{kind_at, line_at}
use Rattle.pc_parser.specs.models.Tests.{is_mark, is_key}
use Rattle.pc_parser.specs.models.Outcome.{ParseOutcome, Parsed, Unreadable, TooHigh, after, allowed, expect, expect_key}

-- where a parser stops
abbrev pub stop : {A : Type 0} → ParseOutcome A → ℕ
stop (Parsed tree height to) = to
stop (Unreadable at) = at
stop (TooHigh at) = at

-- whether it stops for the height
abbrev pub is_high : {A : Type 0} → ParseOutcome A → Bool
is_high (Parsed tree height to) = false
is_high (Unreadable at) = false
is_high (TooHigh at) = true

-- it stops at its place or after it, and a tree ends so much after it
abbrev pub Goes : {A : Type 0} → (by from : ℕ) → ParseOutcome A → Type 0
Goes by from (Parsed tree height to) = from + by ≤ to
Goes by from (Unreadable at) = from ≤ at
Goes by from (TooHigh at) = from ≤ at

pub Goes-stop : {A : Type 0} (by from : ℕ) (o : ParseOutcome A) → Goes by from o → from ≤ stop o
Goes-stop by from (Parsed tree height to) goes = omega arith
Goes-stop by from (Unreadable at) goes = goes
Goes-stop by from (TooHigh at) goes = goes

pub Goes-from : {A : Type 0} (by from less before : ℕ) (o : ParseOutcome A) → before + less ≤ from + by → before ≤ from → Goes by from o → Goes less before o
Goes-from by from less before (Parsed tree height to) h g goes = omega arith
Goes-from by from less before (Unreadable at) h g goes = omega arith
Goes-from by from less before (TooHigh at) h g goes = omega arith

pub Goes-after : {A B : Type 0} (by from : ℕ) (x : ParseOutcome A) (f : A → ℕ → ℕ → ParseOutcome B) → Goes by from x →
    ((tree : A) (height to : ℕ) → from + by ≤ to → Goes 0 to (f tree height to)) → Goes by from (after x f)
Goes-after by from (Parsed tree height to) f goes each = Goes-from 0 to by from (f tree height to) (omega arith) (omega arith) (each tree height to goes)
Goes-after by from (Unreadable at) f goes each = goes
Goes-after by from (TooHigh at) f goes each = goes

pub Goes-cond : {A : Type 0} (by from : ℕ) (t : Bool) (x y : ParseOutcome A) → Goes by from x → Goes by from y → Goes by from (cond t x y)
Goes-cond by from true x y one other = one
Goes-cond by from false x y one other = other

-- the second budget is not lower, and where height matters it is the same
pub record Budgets (E : Type 0) (b c : ℕ) : Type 0 where
  pub low : b ≤ c
  pub same : E → b ≡ c

pub Budgets-less : {E : Type 0} {b c : ℕ} → Budgets E b c → Budgets E (b - 1) (c - 1)
Budgets-less h = let low = h.low in record { low = omega arith; same = λ e. ap (λ n. n - 1) (h.same e) }

-- The one answer is the other where it stops at k at most, and where E holds if it stops for the height.
pub record Local (k : ℕ) (E : Type 0) {A : Type 0} (by from : ℕ) (x y : ParseOutcome A) : Type 0 where
  pub goes : Goes by from x
  pub carries : stop x ≤ k → (is_high x ≡ true → E) → y ≡ x

module _ (k : ℕ) (E : Type 0) where
  pub parsed : {A : Type 0} (by from : ℕ) (tree : A) (height to : ℕ) → from + by ≤ to → Local k E by from (Parsed tree height to) (Parsed tree height to)
  parsed by from tree height to goes = record { goes = goes; carries = λ s e. refl }

  pub unreadable : {A : Type 0} (by from at : ℕ) → from ≤ at → Local k E {A = A} by from (Unreadable at) (Unreadable at)
  unreadable by from at goes = record { goes = goes; carries = λ s e. refl }

  pub too_high : {A : Type 0} (by from at : ℕ) → from ≤ at → Local k E {A = A} by from (TooHigh at) (TooHigh at)
  too_high by from at goes = record { goes = goes; carries = λ s e. refl }

  -- seen from an earlier place
  pub earlier : {A : Type 0} (by from less before : ℕ) (x y : ParseOutcome A) → before + less ≤ from + by → before ≤ from → Local k E by from x y → Local k E less before x y
  earlier by from less before x y h g local = record { goes = Goes-from by from less before x h g local.goes; carries = local.carries }

  -- one parser after another
  pub after-local : {A B : Type 0} (by more from : ℕ) (x y : ParseOutcome A) (f g : A → ℕ → ℕ → ParseOutcome B) → Local k E by from x y →
      ((tree : A) (height to : ℕ) → from + by ≤ to → Local k E more to (f tree height to) (g tree height to)) →
      Local k E by from (after x f) (after y g)
  after-local by more from (Parsed tree height to) y f g first next =
      let rest = next tree height to first.goes in
      let onward = Goes-stop more to (f tree height to) rest.goes in
      let behind = first.goes in
      record {
        goes = Goes-from more to by from (f tree height to) (omega arith) (omega arith) rest.goes;
        carries = λ s e. ap (λ o. after o g) (first.carries (omega arith) (λ h. cc)) ∙ rest.carries s e;
      }
  after-local by more from (Unreadable at) y f g first next = record { goes = first.goes; carries = λ s e. ap (λ o. after o g) (first.carries s (λ h. cc)) }
  after-local by more from (TooHigh at) y f g first next = record { goes = first.goes; carries = λ s e. ap (λ o. after o g) (first.carries s e) }

  -- what is allowed by the one budget and by the other
  pub allowed_low-local : {A : Type 0} (least b c at by from : ℕ) (x y : ParseOutcome A) → Budgets E b c → from ≤ at → (least ≤ b → Local k E by from x y) →
      Local k E by from (allowed least b at x) (allowed least c at y)
  allowed_low-local least b c at by from x y budgets inside each = chosen (nat_le least b) refl
    where
      chosen : (t : Bool) → nat_le least b ≡ t → Local k E by from (cond t x (TooHigh at)) (allowed least c at y)
      chosen true is = let low = budgets.low in let also : nat_le least c ≡ true = grind (arith, nat_tests) in
          let rest = each (leb-true least b is) in
          record { goes = rest.goes; carries = λ s e. ap (λ t. cond t y (TooHigh at)) also ∙ rest.carries s e }
      chosen false is = record { goes = inside; carries = λ s e. ap (λ n. cond (nat_le least n) y (TooHigh at)) (sym (budgets.same (e refl))) ∙ ap (λ t. cond t y (TooHigh at)) is }

  pub allowed-local : {A : Type 0} (least b c at by from : ℕ) (x y : ParseOutcome A) → Budgets E b c → from ≤ at → Local k E by from x y →
      Local k E by from (allowed least b at x) (allowed least c at y)
  allowed-local least b c at by from x y budgets inside rest = allowed_low-local least b c at by from x y budgets inside (λ low. rest)

  -- two lists of tokens, of which the one begins with the other's up to k
  module _ (ts ws : List Token) (kinds : (i : ℕ) → i ≤ k → kind_at ws i ≡ kind_at ts i) (lines : (i : ℕ) → i ≤ k → line_at ws i ≡ line_at ts i) where
    -- what depends on a token
    pub look : {A : Type 0} (by from : ℕ) (F G : Option TokenKind → ParseOutcome A) → ((kind : Option TokenKind) → Local k E by from (F kind) (G kind)) →
        Local k E by from (F (kind_at ts from)) (G (kind_at ws from))
    look by from F G each =
        let here = each (kind_at ts from) in
        let onward = Goes-stop by from (F (kind_at ts from)) here.goes in
        record { goes = here.goes; carries = λ s e. ap G (kinds from (omega arith)) ∙ here.carries s e }

    -- the same, where it is known which token it is
    pub look_is : {A : Type 0} (by from : ℕ) (F G : Option TokenKind → ParseOutcome A) → ((kind : Option TokenKind) → kind_at ts from ≡ kind → Local k E by from (F kind) (G kind)) →
        Local k E by from (F (kind_at ts from)) (G (kind_at ws from))
    look_is by from F G each =
        let here = each (kind_at ts from) refl in
        let onward = Goes-stop by from (F (kind_at ts from)) here.goes in
        record { goes = here.goes; carries = λ s e. ap G (kinds from (omega arith)) ∙ here.carries s e }

    -- what depends on the line of a token
    pub look_line : {A : Type 0} (by from : ℕ) (F G : ℕ → ParseOutcome A) → ((line : ℕ) → Local k E by from (F line) (G line)) →
        Local k E by from (F (line_at ts from)) (G (line_at ws from))
    look_line by from F G each =
        let here = each (line_at ts from) in
        let onward = Goes-stop by from (F (line_at ts from)) here.goes in
        record { goes = here.goes; carries = λ s e. ap G (lines from (omega arith)) ∙ here.carries s e }

    -- a choice by a test of a token
    pub if-local : {A : Type 0} (test : Option TokenKind → Bool) (by from : ℕ) (x y z w : ParseOutcome A) → Local k E by from x y → Local k E by from z w →
        Local k E by from (cond (test (kind_at ts from)) x z) (cond (test (kind_at ws from)) y w)
    if-local test by from x y z w one other = look by from (λ kind. cond (test kind) x z) (λ kind. cond (test kind) y w) (λ kind. chosen (test kind))
      where
        chosen : (t : Bool) → Local k E by from (cond t x z) (cond t y w)
        chosen true = one
        chosen false = other

    -- what follows a mark
    pub expect-local : {A : Type 0} (mark : Mark) (from : ℕ) (x y : ParseOutcome A) → Local k E 0 (from + 1) x y →
        Local k E 1 from (expect ts mark from x) (expect ws mark from y)
    expect-local mark from x y rest = if-local (is_mark mark) 1 from x y (Unreadable from) (Unreadable from)
        (earlier 0 (from + 1) 1 from x y (omega arith) (omega arith) rest) (unreadable 1 from from (omega arith))

    -- what follows a keyword
    pub expect_key-local : {A : Type 0} (key : Keyword) (from : ℕ) (x y : ParseOutcome A) → Local k E 0 (from + 1) x y →
        Local k E 1 from (expect_key ts key from x) (expect_key ws key from y)
    expect_key-local key from x y rest = if-local (is_key key) 1 from x y (Unreadable from) (Unreadable from)
        (earlier 0 (from + 1) 1 from x y (omega arith) (omega arith) rest) (unreadable 1 from from (omega arith))
