use Rattle.pc_word.proofs.Signatures.{alike_items}
use Rattle.pc_word.proofs.item.Item.is_alike.Goals as goal

pub returns : goal.returns
returns c = alike_items c.args.self c.args.other c.signature_of.result c.signature_of-2.result c.is_same.result c.signature_of.ensures c.signature_of-2.ensures c.is_same.ensures
