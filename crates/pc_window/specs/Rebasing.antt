-- Rebasing a window: parameters, in the order of first use, become the variables in which all forms are written.
use Rattle.std.specs.Prelude.{ℕ, zero, suc, ℤ, pos, negsuc, Bool, if◌then◌else◌, nat_eq, nat_lt, not, ◌&&◌, List, [], ◌∷◌, ◌++◌, length, Option, Some, None}
use Rattle.std.specs.List.{list_any}
use Rattle.std.specs.Int.{w32, int_wrap}
use Rattle.std.specs.Ordering.{int_eq}
use Rattle.pc_linear.specs.declared.term.Term.{Term}
use Rattle.pc_linear.specs.Form.{most_terms, Form, factor_of}
use Rattle.pc_linear.specs.Combine.{plus, variable_form}
use Rattle.pc_window.specs.Tree.{Tree}
use Rattle.pc_window.specs.Names.{first_uses, parameters_of, definitions_of}
use Rattle.pc_window.specs.Opening.{Supply, changed}

-- whether a number is in a list
abbrev pub is_in : ℕ → List ℕ → Bool
is_in x xs = list_any (nat_eq x) xs

-- ---- one base

-- a name's form, given anew
abbrev pub with_form : Supply → ℕ → Form → Supply
with_form names n f = record { forms = changed names.forms n f; next = names.next; next_variable = names.next_variable }

-- a name with a new variable in place of its form
abbrev pub with_variable : Supply → ℕ → Supply
with_variable names n = record {
  forms = changed names.forms n (variable_form names.next_variable);
  next = names.next;
  next_variable = suc names.next_variable;
}

-- a name's form given anew, or a new variable in its place where it would have more than four terms
abbrev pub settled : Supply → ℕ → Form → Supply
settled names n f = if nat_lt most_terms (length f.terms) then with_variable names n else with_form names n f

-- a form in which a variable has a factor, with so many times a difference added, where it has one
abbrev pub rewritten_by : ℤ → Form → Form → Form
rewritten_by (pos zero) difference f = f
rewritten_by (pos (suc k)) difference f = plus f (pos (suc k)) difference
rewritten_by (negsuc k) difference f = plus f (negsuc k) difference

-- the same by the factor that a variable has in the form
abbrev pub rewritten : ℕ → Form → Form → Form
rewritten x difference f = rewritten_by (int_wrap w32 (factor_of f.terms x)) difference f

-- the forms of these names rewritten, from the forms that they had
abbrev pub rewrite_all : ℕ → Form → (ℕ → Form) → List ℕ → Supply → Supply
rewrite_all x difference old [] names = names
rewrite_all x difference old (n ∷ ns) names = rewrite_all x difference old ns (settled names n (rewritten x difference (old n)))

-- the names with one more form variable
abbrev pub one_variable_more : Supply → Supply
one_variable_more names = record { forms = names.forms; next = names.next; next_variable = suc names.next_variable }

-- a parameter's form becomes a new variable alone: where variable x stands with factor 1 in its form, each x is that new variable less the rest of that form
abbrev pub make_base : List ℕ → ℕ → ℕ → Supply → Supply
make_base all parameter x names =
    rewrite_all x (plus (variable_form names.next_variable) (negsuc 0) (names.forms parameter)) names.forms all (one_variable_more names)

-- ---- the two turns

-- the names, the variables that are bases, and the parameters that are left
pub record Turned : Type 0 where
  pub names : Supply
  pub bases : List ℕ
  pub left : List ℕ

-- a variable with factor 1 that is no base
abbrev pub new_base : List ℕ → Term → Option ℕ
new_base bases t = if int_eq t.factor (pos 1) && not (is_in t.variable bases) then Some t.variable else None

-- one variable with factor 1 plus a constant, where the variable is no base
abbrev pub first_base : List ℕ → List Term → Option ℕ
first_base bases [] = None
first_base bases (t ∷ []) = new_base bases t
first_base bases (t ∷ u ∷ ts) = None

-- the first turn of a parameter: it becomes a base, or it is left for the second
abbrev pub first_turn : List ℕ → ℕ → Option ℕ → Turned → Turned
first_turn all p None turned = record { names = turned.names; bases = turned.bases; left = turned.left ++ (p ∷ []) }
first_turn all p (Some x) turned =
    record { names = make_base all p x turned.names; bases = turned.names.next_variable ∷ turned.bases; left = turned.left }

-- the first turns of these parameters, in order
abbrev pub first_turns : List ℕ → List ℕ → Turned → Turned
first_turns all [] turned = turned
first_turns all (p ∷ ps) turned = first_turns all ps (first_turn all p (first_base turned.bases (turned.names.forms p).terms) turned)

-- the terms whose variables are no bases
abbrev pub free_terms : List ℕ → List Term → List Term
free_terms bases [] = []
free_terms bases (t ∷ ts) = if is_in t.variable bases then free_terms bases ts else t ∷ free_terms bases ts

-- the parameter gets a new variable in place of its form, or a base
abbrev pub second_choice : List ℕ → ℕ → Option ℕ → Turned → Turned
second_choice all p None turned = record { names = with_variable turned.names p; bases = turned.bases; left = turned.left }
second_choice all p (Some x) turned =
    record { names = make_base all p x turned.names; bases = turned.names.next_variable ∷ turned.bases; left = turned.left }

-- the second turn of a parameter, by the terms of its form whose variables are no bases: nothing, where there is none
abbrev pub second_turn : List ℕ → ℕ → List Term → Turned → Turned
second_turn all p [] turned = turned
second_turn all p (t ∷ ts) turned = second_choice all p (first_base turned.bases (t ∷ ts)) turned

-- the second turns of these parameters, in order
abbrev pub second_turns : List ℕ → List ℕ → Turned → Turned
second_turns all [] turned = turned
second_turns all (p ∷ ps) turned = second_turns all ps (second_turn all p (free_terms turned.bases (turned.names.forms p).terms) turned)

-- the names of a tree, each once: parameters in the order of first use, and then definitions in preorder
abbrev pub all_names : Tree → List ℕ
all_names tree = parameters_of tree ++ first_uses (definitions_of tree)

-- after the first turn, the second for those that are left
abbrev pub after_first : List ℕ → Turned → Supply
after_first all turned = (second_turns all turned.left turned).names

-- the forms of a window, rebased
abbrev pub rebased : Tree → Supply → Supply
rebased tree names = after_first (all_names tree) (first_turns (all_names tree) (parameters_of tree) (record { names = names; bases = []; left = [] }))
