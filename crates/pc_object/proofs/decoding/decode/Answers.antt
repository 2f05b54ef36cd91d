use Rattle.std.proofs.Common.{arith}
use Rattle.pc_object.proofs.ReadingLaws.{found_it, found_words, found_text, only_it}
use Rattle.pc_object.proofs.decoding.decode.Goals as goal

pub returns-clause-object : goal.returns-clause-object
returns-clause-object c = found_it c.args.bytes.now c.told_object.result (λ i. omega (arith, c.type_inv.bytes i)) c.requires c.told_object.ensures

pub returns-clause-words : goal.returns-clause-words
returns-clause-words c = found_words c.args.bytes.now c.told_object.result (λ i. omega (arith, c.type_inv.bytes i)) c.requires c.told_object.ensures

pub returns-clause-text : goal.returns-clause-text
returns-clause-text c = found_text c.args.bytes.now c.told_object.result (λ i. omega (arith, c.type_inv.bytes i)) c.requires c.told_object.ensures

pub returns-clause-only : goal.returns-clause-only
returns-clause-only c = λ object h words e. only_it c.args.bytes.now c.told_object.result object c.told_object.ensures h words e
