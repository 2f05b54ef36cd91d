-- One byte more than there may be was asked for.
use Rattle.std.proofs.Common.{arith, ltb-true, ltb-false}
use Rattle.pc_assembler.specs.Faults.{most_text}
use Rattle.pc_assembler.proofs.Endings.{long_file, long_stops, whole_file}
use Rattle.pc_assembler.proofs.loading.read_text.Goals as goal

pub returns-in-Ok-clause-text : goal.returns-in-Ok-clause-text
returns-in-Ok-clause-text g c =
    let old = g.H.Shelf.state c.args.shelf.now in
    let name = c.args.name.now in
    long_stops name old (g.H.Shelf.state c.read_file.new.self)
    (long_file most_text old.held name c.in-Ok.text.items c.in-Ok.ensures.file (omega (arith, ltb-true, c.if-len-gt-MOST_TEXT.true, c.len.ensures)))

pub returns-in-Ok-2-clause-text : goal.returns-in-Ok-2-clause-text
returns-in-Ok-2-clause-text g c =
    whole_file most_text (g.H.Shelf.state c.args.shelf.now).held c.args.name.now c.in-Ok.text.items c.in-Ok.ensures.file
    (omega (arith, ltb-false, c.if-len-gt-MOST_TEXT.false, c.len.ensures))
