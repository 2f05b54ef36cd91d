use Rattle.std.proofs.Common.{sym, ◌∙◌, subst}
use Rattle.std.specs.Prelude.{ℤ}
use Rattle.std.specs.Int.{w32}
use Rattle.std.proofs.lemmas.Int.{to_z-of_z}
use Rattle.pc_word.specs.declared.item.Operand.TheVariants.{Lit}
use Rattle.pc_word.specs.Word.{IsWord}
use Rattle.pc_forward.specs.Forwarded.{StandsFor, Is_constant, Is_least}
use Rattle.pc_forward.proofs.Holders.{not_at_hand, no_first, some_first}
use Rattle.pc_forward.proofs.forwarding.at_hand.Goals as goal

pub returns-in-None : goal.returns-in-None
returns-in-None c =
    let is = c.offset.ensures.value in
    let word = subst IsWord (sym is) c.offset.ensures.kept.normal.constant in
    subst (λ (z : ℤ). StandsFor c.args.forms.now c.args.value.now (Lit z)) (sym (to_z-of_z w32 c.offset.result word ∙ is))
    (Is_constant (no_first c.args.value.now.terms (sym c.term.ensures.value ∙ c.in-None.is)))

pub returns-in-Some-holder : goal.returns-in-Some-holder
returns-in-Some-holder c = Is_least (some_first c.args.value.now.terms c.in-Some.field-0 (sym c.term.ensures.value ∙ c.in-Some.is)) c.in-Some-holder.ensures

pub returns-in-None-holder : goal.returns-in-None-holder
returns-in-None-holder c = not_at_hand c.args.forms.now c.args.value.now (some_first c.args.value.now.terms c.in-Some.field-0 (sym c.term.ensures.value ∙ c.in-Some.is)) c.in-None-holder.ensures
