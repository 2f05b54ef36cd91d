use Rattle.std.proofs.lemmas.Bool.Decides.{Decides-int_eq}
use Rattle.std.proofs.lemmas.Slice.Eq.{slice_eq-Decides}
use Rattle.pc_checking.proofs.data.same_words.Goals as goal

pub returns : goal.returns
returns c = slice_eq-Decides Decides-int_eq c.args.words.now c.args.others.now c.eq.result c.eq.ensures
