-- How a form lies in memory: four places for terms, of which the first are used.
use Rattle.std.specs.Prelude.{◌≡◌, pos, List, [], ◌∷◌, ◌++◌, take, drop, length}
use Rattle.pc_linear.specs.declared.term.Term.{Term}
use Rattle.pc_linear.specs.declared.form.LinForm.TheInside.{Inside}
use Rattle.pc_linear.specs.Form.{Form, IsForm}

-- what stands in a place that is not used
abbrev pub unused : Term
unused = record { variable = 0; factor = pos 0 }

-- four places: these terms, and after them unused ones
abbrev pub places : List Term → List Term
places ts = ts ++ drop (length ts) (unused ∷ unused ∷ unused ∷ unused ∷ [])

-- the form that is stored
abbrev pub form_of : Inside → Form
form_of it = record { terms = take it.count it.terms; constant = it.constant }

-- how a form is stored
abbrev pub stored : Form → Inside
stored f = record { terms = places f.terms; count = length f.terms; constant = f.constant }

-- what is stored is a form, stored in the one way there is
pub record IsStored (it : Inside) : Type 0 where
  pub form : IsForm (form_of it)
  pub only : stored (form_of it) ≡ it
