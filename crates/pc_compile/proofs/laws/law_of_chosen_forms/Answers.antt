use Rattle.pc_compile.proofs.Emittable.{are_forms, form_is}
use Rattle.pc_compile.proofs.laws.law_of_chosen_forms.Goals as goal

pub returns : goal.returns
returns c table keeps initial limits extent small choices forms chosen =
    (are_forms table keeps initial limits extent small choices forms chosen, form_is table keeps initial limits extent small choices forms chosen)
