-- The form of an operator's result, where that is linear.
use Rattle.std.specs.Prelude.{ℕ, zero, suc, ℤ, pos, negsuc, ◌+ℤ◌, ◌*ℤ◌, ◌^◌, ◌%◌, if◌then◌else◌, nat_eq, nat_lt, List, [], ◌∷◌, length, Option, Some, None}
use Rattle.std.specs.Int.{w32, int_wrap, cast_unsigned}
use Rattle.pc_word.specs.declared.item.OpCode.{OpCode}
use Rattle.pc_word.specs.declared.item.OpCode.TheVariants.{Add, Sub, Mul, Shl}
use Rattle.pc_word.specs.Word.{word_apply}
use Rattle.pc_linear.specs.declared.term.Term.{Term}
use Rattle.pc_linear.specs.Form.{Form, most_terms}

-- ---- sums

-- a term in front of terms, where its factor is not 0
abbrev pub prepended : ℕ → ℤ → List Term → List Term
prepended variable (pos zero) ts = ts
prepended variable (pos (suc n)) ts = record { variable = variable; factor = pos (suc n) } ∷ ts
prepended variable (negsuc n) ts = record { variable = variable; factor = negsuc n } ∷ ts

-- a factor times a variable, added to terms with rising variables
abbrev pub add_term : ℕ → ℤ → List Term → List Term
add_term variable factor [] = prepended variable (int_wrap w32 factor) []
add_term variable factor (t ∷ ts) =
    if nat_lt variable t.variable then prepended variable (int_wrap w32 factor) (t ∷ ts)
    else if nat_eq variable t.variable then prepended variable (int_wrap w32 (factor +ℤ t.factor)) ts
    else t ∷ add_term variable factor ts

-- so many times each of these terms, added to terms
abbrev pub add_times : ℤ → List Term → List Term → List Term
add_times number [] us = us
add_times number (t ∷ ts) us = add_times number ts (add_term t.variable (number *ℤ t.factor) us)

-- a form and so many times another, term by term
abbrev pub plus : Form → ℤ → Form → Form
plus f number g = record {
  terms = add_times number g.terms f.terms;
  constant = int_wrap w32 (f.constant +ℤ (number *ℤ g.constant));
}

-- a form less another
abbrev pub difference : Form → Form → Form
difference f g = plus f (negsuc 0) g

-- the form that is a number alone
abbrev pub constant_form : ℤ → Form
constant_form number = record { terms = []; constant = number }

-- the form that is a variable alone
abbrev pub variable_form : ℕ → Form
variable_form variable = record { terms = record { variable = variable; factor = pos 1 } ∷ []; constant = pos 0 }

-- a form, so many times
abbrev pub times_form : Form → ℤ → Form
times_form f number = plus (constant_form (pos 0)) number f

-- ---- operators

-- a sum, where it has at most four terms
abbrev pub fitting : Form → Option Form
fitting f = if nat_lt most_terms (length f.terms) then None else Some f

-- the number that a form with these terms and this constant is, where it has no term
abbrev pub constant_by : List Term → ℤ → Option ℤ
constant_by [] constant = Some constant
constant_by (t ∷ ts) constant = None

abbrev pub constant_of : Form → Option ℤ
constant_of f = constant_by f.terms f.constant

-- what a left shift by a count multiplies by: 2^(count mod 32)
abbrev pub shift_factor : ℤ → ℤ
shift_factor count = pos (2 ^ (cast_unsigned w32 count % 32))

-- the result of an operator on two forms, given the numbers that they are, where they are constants: every operator gives
-- the constant of two constants; Add and Sub go term by term; Mul is linear where one side is a constant; Shl by a
-- constant is Mul by 2^(count mod 32); no other case is linear
abbrev pub combine_by : OpCode → Option ℤ → Option ℤ → Form → Form → Option Form
combine_by op (Some a) (Some b) f g = Some (constant_form (word_apply op a b))
combine_by Add a b f g = fitting (plus f (pos 1) g)
combine_by Sub a b f g = fitting (difference f g)
combine_by Mul a (Some number) f g = fitting (times_form f number)
combine_by Mul (Some number) b f g = fitting (times_form g number)
combine_by Shl a (Some count) f g = fitting (times_form f (shift_factor count))
combine_by _ a b f g = None

-- the form of an operator's result, where it is linear and has at most four terms
abbrev pub combine : OpCode → Form → Form → Option Form
combine op f g = combine_by op (constant_of f) (constant_of g) f g
