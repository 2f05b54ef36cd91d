use Rattle.pc_canon.proofs.FormsKept.{forms_kept}
use Rattle.pc_canon.proofs.FormsTell.{forms_tell}
use Rattle.pc_canon.proofs.laws.laws_of_canonical_forms.Goals as goal

pub returns-clause-kept : goal.returns-clause-kept
returns-clause-kept c = forms_kept

pub returns-clause-told : goal.returns-clause-told
returns-clause-told c = forms_tell
