use Rattle.pc_viewer.proofs.Endings.{no_memory_stops}
use Rattle.pc_viewer.proofs.loading.text_asked.Goals as goal

pub returns-clause-text : goal.returns-clause-text
returns-clause-text g c = no_memory_stops c.args.command.object.now (g.H.Shelf.state c.args.shelf.now) (g.H.Shelf.state c.load.new.shelf)
