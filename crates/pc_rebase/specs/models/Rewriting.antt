-- A form with a new variable in place of another, step by step.
use Rattle.std.specs.Prelude.{ℕ, ℤ, Option, Some, None}
use Rattle.pc_word.specs.declared.item.OpCode.TheVariants.{Add, Sub, Mul}
use Rattle.pc_linear.specs.Form.{Form}
use Rattle.pc_linear.specs.Combine.{combine, constant_form, variable_form}
use Rattle.pc_window.specs.Opening.{Supply}
use Rattle.pc_window.specs.Rebasing.{with_form, with_variable}

-- what follows from a form, where there is one
abbrev pub then_form : Option Form → (Form → Option Form) → Option Form
then_form None next = None
then_form (Some f) next = next f

-- a form less so many times another, and as many times a variable more, where each step has at most four terms
abbrev pub replaced : Form → ℤ → ℕ → Form → Option Form
replaced f factor base g =
    then_form (combine Mul (constant_form factor) g) (λ goes. then_form (combine Mul (constant_form factor) (variable_form base))
    (λ comes. then_form (combine Sub f goes) (λ rest. combine Add rest comes)))

-- a name with a form, or with a new variable where there is none
abbrev pub settled_as : Supply → ℕ → Option Form → Supply
settled_as names n None = with_variable names n
settled_as names n (Some f) = with_form names n f
