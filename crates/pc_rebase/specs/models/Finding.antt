-- The bases that first turns make, found one after the other, with the forms of names as they were.
use Rattle.std.specs.Prelude.{ℕ, suc, ℤ, pos, if◌then◌else◌, nat_lt, ◌&&◌, List, [], ◌∷◌, ◌++◌, length, Option, Some, None, slice_set}
use Rattle.std.specs.Ordering.{int_eq}
use Rattle.pc_word.specs.Word.{word_sub}
use Rattle.pc_linear.specs.declared.term.Term.{Term}
use Rattle.pc_linear.specs.Form.{Form}
use Rattle.pc_window.specs.Opening.{Supply}
use Rattle.pc_window.specs.Rebasing.{is_in, with_form, Turned}
use Rattle.pc_rebase.specs.declared.finding.Found.{Found}
use Rattle.pc_rebase.specs.models.Standing.{stands_in, written_by, each_itself}
use Rattle.pc_rebase.specs.models.Turning.{reversed}

-- nothing is found, and the variables below a number stand for themselves
abbrev pub nothing_found : ℕ → Found
nothing_found next = record { stands = each_itself next; next_variable = next; bases = []; left = [] }

-- a variable with factor 1, where it is below a number
abbrev pub variable_below : ℕ → Term → Option ℕ
variable_below first t = if int_eq t.factor (pos 1) && nat_lt t.variable first then Some t.variable else None

-- one variable with factor 1 plus a constant, where the variable is below a number
abbrev pub old_variable : ℕ → List Term → Option ℕ
old_variable first [] = None
old_variable first (t ∷ []) = variable_below first t
old_variable first (t ∷ u ∷ ts) = None

-- one more base, for which a variable stands, less a constant
abbrev pub base_found : ℕ → ℤ → Found → Found
base_found x c found = record {
  stands = slice_set found.stands x (record { variable = found.next_variable; offset = word_sub (pos 0) c });
  next_variable = suc found.next_variable;
  bases = found.bases ++ found.next_variable ∷ [];
  left = found.left;
}

-- the turn of a parameter with a form, by the variable that its base replaces
abbrev pub found_by : ℕ → Form → Option ℕ → Found → Found
found_by p f None found = record { stands = found.stands; next_variable = found.next_variable; bases = found.bases; left = found.left ++ p ∷ [] }
found_by p f (Some x) found = base_found x f.constant found

-- the turn of a parameter with a form
abbrev pub found_after : ℕ → Form → Found → Found
found_after p f found = found_by p f (old_variable (length found.stands) f.terms) found

-- the turns of these parameters, in order
abbrev pub found_all : (ℕ → Form) → List ℕ → Found → Found
found_all old [] found = found
found_all old (p ∷ ps) found = found_all old ps (found_after p (written_by (stands_in found.stands) (old p)) found)

-- the forms of these names, from the forms that they had, with what variables stand for
abbrev pub all_written : (ℕ → Form) → (ℕ → Form) → List ℕ → Supply → Supply
all_written stands old [] names = names
all_written stands old (n ∷ ns) names = all_written stands old ns (with_form names n (written_by stands (old n)))

-- names whose forms are to be written so, with what was found
abbrev pub shown : List ℕ → Supply → Found → Turned
shown all old found = record {
  names = record {
    forms = λ n. if is_in n all then written_by (stands_in found.stands) (old.forms n) else old.forms n;
    next = old.next;
    next_variable = found.next_variable;
  };
  bases = reversed found.bases;
  left = found.left;
}
