use Rattle.std.proofs.Common.{List, sym, subst}
use Rattle.pc_linear.specs.Form.{Form}
use Rattle.pc_forward.specs.declared.access.Access.{Access}
use Rattle.pc_forward.specs.Forwardable.{HasElement}
use Rattle.pc_forward.proofs.forwarding.known_operand.Goals as goal

pub returns-in-None : goal.returns-in-None
returns-in-None c = λ value h hand.
    c.in-None.ensures value (subst (λ (accesses : List Access). HasElement accesses c.args.array c.form-index.result value) (sym c.as_slice.ensures)
    (subst (λ (f : Form). HasElement c.args.trail.now.accesses c.args.array f value) (sym c.form-index.ensures.form) h))
