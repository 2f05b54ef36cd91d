-- Items that are equal but for their names.
use Rattle.std.proofs.Common.{◌≡◌, ◌≢◌, ◌↔◌, ℕ, Bool, true, false, refl, sym, ◌∙◌, ap}
use Rattle.std.specs.Prelude.{ℤ, if◌then◌else◌, nat_eq}
use Rattle.pc_word.specs.declared.item.Item.{Item}
use Rattle.pc_word.specs.declared.item.Item.TheVariants.{Bin, Copy, Load, Store, Print, Read, More}
use Rattle.pc_word.specs.declared.item.Operand.{Operand}
use Rattle.pc_word.specs.declared.item.Operand.TheVariants.{Name, Lit}
use Rattle.pc_word.specs.Naming.{with_dest, AreAlike}
use Rattle.pc_word.proofs.Truth.{holds_here, fails_here, failed, held, same_fact}
use Rattle.pc_word.specs.declared.alike.Signature.{Signature}
use Rattle.pc_word.specs.models.Signature.{signature_of}

-- ---- operands

one_name : (x y : ℕ) → Name x ≡ Name y → x ≡ y
one_name x y e = cc

one_literal : (x y : ℤ) → Lit x ≡ Lit y → x ≡ y
one_literal x y e = cc

pub other_name : (x y : ℕ) (o : Operand) → o ≡ Name y → x ≢ y → (false ≡ true) ↔ (Name x ≡ o)
other_name x y o is ne = fails_here (Name x ≡ o) (λ e. ne (one_name x y (e ∙ is)))

pub same_name : (x y : ℕ) (o : Operand) → o ≡ Name y → x ≡ y → (true ≡ true) ↔ (Name x ≡ o)
same_name x y o is e = holds_here (Name x ≡ o) (ap Name e ∙ sym is)

pub other_literal : (x y : ℤ) (o : Operand) → o ≡ Lit y → x ≢ y → (false ≡ true) ↔ (Lit x ≡ o)
other_literal x y o is ne = fails_here (Lit x ≡ o) (λ e. ne (one_literal x y (e ∙ is)))

pub same_literal : (x y : ℤ) (o : Operand) → o ≡ Lit y → x ≡ y → (true ≡ true) ↔ (Lit x ≡ o)
same_literal x y o is e = holds_here (Lit x ≡ o) (ap Lit e ∙ sym is)

pub name_no_literal : (x : ℕ) (y : ℤ) (o : Operand) → o ≡ Lit y → (false ≡ true) ↔ (Name x ≡ o)
name_no_literal x y o is = fails_here (Name x ≡ o) (λ e. absurd (cc))

pub literal_no_name : (x : ℤ) (y : ℕ) (o : Operand) → o ≡ Name y → (false ≡ true) ↔ (Lit x ≡ o)
literal_no_name x y o is = fails_here (Lit x ≡ o) (λ e. absurd (cc))

pub as_operand : (b : Bool) (o p q : Operand) → p ≡ o → (b ≡ true) ↔ (o ≡ q) → (b ≡ true) ↔ (p ≡ q)
as_operand b o p q e iff = same_fact b (o ≡ q) (p ≡ q) (λ h. e ∙ h) (λ h. sym e ∙ h) iff

pub ruleset operands = (other_name, same_name, other_literal, same_literal, name_no_literal, literal_no_name, as_operand)

-- ---- signatures

module _ (a b : Signature) where
  pub other_kind : a.kind ≢ b.kind → (false ≡ true) ↔ (a ≡ b)
  other_kind ne = fails_here (a ≡ b) (λ e. ne (ap (λ (s : Signature). s.kind) e))

  pub other_op : a.op ≢ b.op → (false ≡ true) ↔ (a ≡ b)
  other_op ne = fails_here (a ≡ b) (λ e. ne (ap (λ (s : Signature). s.op) e))

  pub other_array : a.array ≢ b.array → (false ≡ true) ↔ (a ≡ b)
  other_array ne = fails_here (a ≡ b) (λ e. ne (ap (λ (s : Signature). s.array) e))

  pub other_one : (c : Bool) → (c ≡ true) ↔ (a.one ≡ b.one) → c ≡ false → (false ≡ true) ↔ (a ≡ b)
  other_one c iff f = fails_here (a ≡ b) (λ e. failed iff f (ap (λ (s : Signature). s.one) e))

  pub same_parts : (c d : Bool) → a.kind ≡ b.kind → a.op ≡ b.op → a.array ≡ b.array → (c ≡ true) ↔ (a.one ≡ b.one)
      → c ≡ true → (d ≡ true) ↔ (a.other ≡ b.other) → (d ≡ true) ↔ (a ≡ b)
  same_parts c d k o r iff f iff' =
      same_fact d (a.other ≡ b.other) (a ≡ b) (λ h. λ i. record { kind = k i; op = o i; array = r i; one = held iff f i; other = h i }) (λ h. ap (λ (s : Signature). s.other) h) iff'

pub ruleset signatures = (other_kind, other_op, other_array, other_one, same_parts)

-- ---- items

-- the item with a name and a signature
item_of : ℕ → Signature → Item
item_of n s =
    if nat_eq s.kind 0 then Bin s.op n s.one s.other
    else if nat_eq s.kind 1 then Copy n s.one
    else if nat_eq s.kind 2 then Load n s.array s.one
    else if nat_eq s.kind 3 then Store s.array s.one s.other
    else if nat_eq s.kind 4 then Print s.one
    else if nat_eq s.kind 5 then Read n
    else More n

item_again : (n : ℕ) (x : Item) → item_of n (signature_of x) ≡ with_dest n x
unfolding item_of
item_again n (Bin o d l r) = refl
item_again n (Copy d from) = refl
item_again n (Load d a index) = refl
item_again n (Store a index v) = refl
item_again n (Print v) = refl
item_again n (Read d) = refl
item_again n (More d) = refl

same_signature : (n : ℕ) (x : Item) → signature_of (with_dest n x) ≡ signature_of x
same_signature n (Bin o d l r) = refl
same_signature n (Copy d from) = refl
same_signature n (Load d a index) = refl
same_signature n (Store a index v) = refl
same_signature n (Print v) = refl
same_signature n (Read d) = refl
same_signature n (More d) = refl

-- items that are equal with one name are so with each
pub alike_by_one : (n : ℕ) (x y : Item) → with_dest n x ≡ with_dest n y → AreAlike x y
alike_by_one n x y h m = sym (item_again m x) ∙ ap (item_of m) (sym (same_signature n x) ∙ ap signature_of h ∙ same_signature n y) ∙ item_again m y

pub alike_items : (x y : Item) (a b : Signature) (c : Bool) → a ≡ signature_of x → b ≡ signature_of y → (c ≡ true) ↔ (a ≡ b) → (c ≡ true) ↔ AreAlike x y
alike_items x y a b c p q iff =
    same_fact c (a ≡ b) (AreAlike x y) (λ h n. sym (item_again n x) ∙ ap (item_of n) (sym p ∙ h ∙ q) ∙ item_again n y)
    (λ h. p ∙ sym (same_signature 0 x) ∙ ap signature_of (h 0) ∙ same_signature 0 y ∙ sym q) iff

pub ruleset alike = (alike_items)
