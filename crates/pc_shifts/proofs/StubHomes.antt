-- Homes of variables that are alike: the same literals or names that correspond, with forms that are alike.
use Rattle.std.proofs.Common.{◌≡◌, ℕ, List, [], ◌∷◌, refl}
use Rattle.std.specs.Prelude.{Bool, true, false, not, ◌&&◌, if◌then◌else◌, nat_eq}
use Rattle.std.proofs.lemmas.Bool.{eq-eqb}
use Rattle.pc_word.specs.declared.item.Operand.{Operand}
use Rattle.pc_word.specs.declared.item.Operand.TheVariants.{Name, Lit}
use Rattle.pc_window.specs.Hold.{operand_form}
use Rattle.pc_window.specs.Opening.{Supply, changed, at_home, homes_at, OperandBelow}
use Rattle.pc_window.proofs.Grafts.{HomesBelow, HomesBelow-later, HomesBelow-changed, nat_eq-less}
use Rattle.pc_canon.specs.Pairs.{Pair, corresponds, OperandsAlike, HomesAlike}
use Rattle.pc_canon.specs.Shift.{FormsAlike}
use Rattle.pc_shifts.proofs.Combined.{constants_alike}
use Rattle.pc_shifts.specs.Supplies.{SuppliesAlike}
use Rattle.pc_shifts.proofs.Supplies.{SuppliesGrow, forms_later}

-- the forms of two operands are alike
abbrev pub OperandForms : List Pair → Supply → Supply → Operand → Operand → Type 0
OperandForms variables names names' a b = FormsAlike variables (operand_form names.forms a) (operand_form names'.forms b)

-- homes that are alike, of names that are there, with forms that are alike
pub record HomesMatch (variables pairs : List Pair) (names names' : Supply) (homes homes' : ℕ → Operand) : Type 0 where
  pub home : (v : ℕ) → OperandsAlike pairs (homes v) (homes' v)
  pub form : (v : ℕ) → OperandForms variables names names' (homes v) (homes' v)
  pub below : HomesBelow names.next homes
  pub others_below : HomesBelow names'.next homes'

module _ (variables pairs : List Pair) (names names' : Supply) (homes homes' : ℕ → Operand) (h : HomesMatch variables pairs names names' homes homes') where
  pub at_home_alike : (o : Operand) → OperandsAlike pairs (at_home homes o) (at_home homes' o)
  at_home_alike (Name v) = h.home v
  at_home_alike (Lit value) = refl

  pub at_home_forms : (o : Operand) → OperandForms variables names names' (at_home homes o) (at_home homes' o)
  at_home_forms (Name v) = h.form v
  at_home_forms (Lit value) = constants_alike variables value

  pub homes_listed : (vs : List ℕ) → HomesAlike pairs (homes_at homes vs) (homes_at homes' vs)
  homes_listed [] = tt
  homes_listed (v ∷ vs) = (refl, h.home v, homes_listed vs)

  -- with another home of a variable
  pub homes_changed : (v : ℕ) (from from' : Operand) → OperandsAlike pairs from from' → OperandForms variables names names' from from'
      → OperandBelow names.next from → OperandBelow names'.next from' → HomesMatch variables pairs names names' (changed homes v from) (changed homes' v from')
  homes_changed v from from' a f b b' = record {
    home = λ x. alike x (nat_eq v x);
    form = λ x. formed x (nat_eq v x);
    below = HomesBelow-changed names.next homes v from b h.below;
    others_below = HomesBelow-changed names'.next homes' v from' b' h.others_below;
  }
    where
      alike : (x : ℕ) (c : Bool) → OperandsAlike pairs (if c then from else homes x) (if c then from' else homes' x)
      alike x true = a
      alike x false = h.home x

      formed : (x : ℕ) (c : Bool) → OperandForms variables names names' (if c then from else homes x) (if c then from' else homes' x)
      formed x true = f
      formed x false = h.form x

-- ---- with more names

operand_forms_later : (xs ys : List Pair) (a a' b b' : Supply) → SuppliesAlike xs a a' → SuppliesGrow xs a a' ys b b' → (o o' : Operand) → OperandBelow a.next o → OperandBelow a'.next o'
    → (pairs : List Pair) → OperandsAlike pairs o o' → OperandForms xs a a' o o' → OperandForms ys b b' o o'
operand_forms_later xs ys a a' b b' s g (Name x) (Name y) lt lt' pairs h f = forms_later xs ys a a' b b' s g x y lt lt' f
operand_forms_later xs ys a a' b b' s g (Lit p) (Lit q) lt lt' pairs h f = g.still _ _ tt tt f
operand_forms_later xs ys a a' b b' s g (Name x) (Lit q) lt lt' pairs h f = absurd h
operand_forms_later xs ys a a' b b' s g (Lit p) (Name y) lt lt' pairs h f = absurd h

pub homes_later : (xs ys pairs : List Pair) (a a' b b' : Supply) (homes homes' : ℕ → Operand) → SuppliesAlike xs a a' → SuppliesGrow xs a a' ys b b'
    → HomesMatch xs pairs a a' homes homes' → HomesMatch ys pairs b b' homes homes'
unfolding HomesBelow
homes_later xs ys pairs a a' b b' homes homes' s g h = record {
  home = h.home;
  form = λ v. operand_forms_later xs ys a a' b b' s g (homes v) (homes' v) (h.below v) (h.others_below v) pairs (h.home v) (h.form v);
  below = HomesBelow-later a.next b.next homes g.extends.next h.below;
  others_below = HomesBelow-later a'.next b'.next homes' g.others_extend.next h.others_below;
}

corresponds_later : (b b' c : Bool) → b ≡ false → b' ≡ false → c ≡ true → (if b then b' else (not b' && c)) ≡ true
corresponds_later false false c e e' h = h
corresponds_later true b' c e e' h = absurd (cc)
corresponds_later false true c e e' h = absurd (cc)

operands_later : (pairs : List Pair) (n n' : ℕ) (a b : Operand) → OperandBelow n a → OperandBelow n' b → OperandsAlike pairs a b
    → OperandsAlike ((record { one = n; other = n' }) ∷ pairs) a b
operands_later pairs n n' (Name x) (Name y) lt lt' h = corresponds_later (nat_eq n x) (nat_eq n' y) (corresponds pairs x y) (nat_eq-less n x lt) (nat_eq-less n' y lt') h
operands_later pairs n n' (Lit a) (Lit b) lt lt' h = h
operands_later pairs n n' (Name x) (Lit b) lt lt' h = absurd h
operands_later pairs n n' (Lit a) (Name y) lt lt' h = absurd h

-- two new names correspond
pub new_corresponds : (pairs : List Pair) (n n' : ℕ) → corresponds ((record { one = n; other = n' }) ∷ pairs) n n' ≡ true
new_corresponds pairs n n' = both (nat_eq n n) (nat_eq n' n') (corresponds pairs n n') (eq-eqb n n refl) (eq-eqb n' n' refl)
  where
    both : (b b' c : Bool) → b ≡ true → b' ≡ true → (if b then b' else (not b' && c)) ≡ true
    both true true c e e' = refl
    both true false c e e' = absurd (cc)
    both false b' c e e' = absurd (cc)

-- where the next two names correspond too
pub homes_paired : (xs pairs : List Pair) (a a' : Supply) (homes homes' : ℕ → Operand)
    → HomesMatch xs pairs a a' homes homes' → HomesMatch xs ((record { one = a.next; other = a'.next }) ∷ pairs) a a' homes homes'
unfolding HomesBelow
homes_paired xs pairs a a' homes homes' h = record {
  home = λ v. operands_later pairs a.next a'.next (homes v) (homes' v) (h.below v) (h.others_below v) (h.home v);
  form = h.form;
  below = h.below;
  others_below = h.others_below;
}
