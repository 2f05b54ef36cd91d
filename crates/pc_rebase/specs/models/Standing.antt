-- What form variables stand for while parameters become bases, and forms with that in their place.
use Rattle.std.specs.Prelude.{ℕ, zero, suc, ℤ, pos, Bool, true, nat_eq, ◌&&◌, List, [], ◌∷◌, Option, Some, None, slice_get}
use Rattle.std.specs.Ordering.{int_eq}
use Rattle.pc_linear.specs.declared.term.Term.{Term}
use Rattle.pc_linear.specs.Form.{Form}
use Rattle.pc_linear.specs.Combine.{plus, constant_form, variable_form, times_form}
use Rattle.pc_rebase.specs.declared.standing.Standing.{Standing}

-- a variable and a constant
abbrev pub shifted : ℕ → ℤ → Form
shifted variable constant = record { terms = record { variable = variable; factor = pos 1 } ∷ []; constant = constant }

-- what a variable stands for: itself, where there is no entry
abbrev pub standing_or : ℕ → Option Standing → Form
standing_or v None = variable_form v
standing_or v (Some s) = shifted s.variable s.offset

-- what each variable stands for, by a list
abbrev pub stands_in : List Standing → ℕ → Form
stands_in stands v = standing_or v (slice_get stands v)

-- whether a variable stands for itself
abbrev pub is_same : ℕ → Option Standing → Bool
is_same v None = true
is_same v (Some s) = nat_eq s.variable v && int_eq s.offset (pos 0)

abbrev pub is_itself : List Standing → ℕ → Bool
is_itself stands v = is_same v (slice_get stands v)

-- whether the variables of these terms all do
abbrev pub all_stay : List Standing → List Term → Bool
all_stay stands [] = true
all_stay stands (t ∷ ts) = is_itself stands t.variable && all_stay stands ts

-- a sum, and each of these terms with what its variable stands for in the variable's place
abbrev pub and_terms : (ℕ → Form) → List Term → Form → Form
and_terms stands [] sum = sum
and_terms stands (t ∷ ts) sum = and_terms stands ts (plus sum (pos 1) (times_form (stands t.variable) t.factor))

-- a form with what each of its variables stands for in the variable's place
abbrev pub written_by : (ℕ → Form) → Form → Form
written_by stands f = and_terms stands f.terms (constant_form f.constant)

-- the variables from one on, so many, each of which stands for itself
abbrev pub itself_from : ℕ → ℕ → List Standing
itself_from v zero = []
itself_from v (suc n) = record { variable = v; offset = pos 0 } ∷ itself_from (suc v) n

-- the variables below a number, each of which stands for itself
abbrev pub each_itself : ℕ → List Standing
each_itself n = itself_from 0 n
