use Rattle.std.proofs.Common.{ap, ◌∙◌, string_bytes}
use Rattle.std.specs.FinMap as map
use Rattle.pc_outside.proofs.HeldLemmas.{files_of-insert}
use Rattle.pc_outside.proofs.files.HeldFiles.put.Goals as goal

pub returns-clause-ok : goal.returns-clause-ok
returns-clause-ok c =
    files_of-insert c.self.inside.by_name c.insert.new.self c.args.name c.in_ok-copied.copied c.in_ok-insert.ensures.updates
    ∙ ap (λ m. map.insert m (string_bytes c.args.name) c.in_ok-copied.copied.items) c.self.view_is
    ∙ ap (λ bytes. map.insert c.args.self.now (string_bytes c.args.name) bytes) c.in_ok-copied.ensures.items
