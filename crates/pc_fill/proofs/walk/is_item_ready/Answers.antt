use Rattle.pc_word.specs.Items.{operands_of}
use Rattle.pc_fill.proofs.Looked.{plain_there}
use Rattle.pc_fill.proofs.walk.is_item_ready.Goals as goal

pub returns-then-is_plain : goal.returns-then-is_plain
returns-then-is_plain c =
    plain_there c.args.setting.now c.args.path.now c.args.item (operands_of c.args.item) c.reads_known.result c.has_room.result c.is_plain.result c.reads_known.ensures c.if-not-reads_known.false
    c.has_room.ensures c.if-not-has_room.false c.is_plain.ensures c.if-is_plain.true
