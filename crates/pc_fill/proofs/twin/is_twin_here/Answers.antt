use Rattle.std.proofs.Common.{length}
use Rattle.pc_window.specs.StoredWindow.{tree_in, forms_in}
use Rattle.pc_fill.proofs.TwinPlaces.{item_there}
use Rattle.pc_fill.proofs.twin.is_twin_here.Goals as goal

pub returns : goal.returns
returns c =
    let s = c.args.seeker in
    item_there (forms_in c.args.names.now.forms) (length c.args.names.now.forms) s.tag s.origin s.item (tree_in c.args.all.now) c.args.place c.in-Some.it c.in-Some-item.other c.is_twin.result
    c.in-Some-item.is c.in-Some.ensures c.is_twin.ensures
