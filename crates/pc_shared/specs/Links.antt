-- What a shared node names.
use Rattle.std.specs.Prelude.{ℕ, Bool, true, false, Option, Some, None}
use Rattle.pc_shared.specs.declared.node.SharedNode.{SharedNode}
use Rattle.pc_shared.specs.declared.node.SharedNode.TheVariants as shared

-- what a node names on a side; only a test tells its sides apart
abbrev pub link_of : Option SharedNode → Bool → Option ℕ
link_of None side = None
link_of (Some (shared.Step tag origin item rest)) side = Some rest
link_of (Some (shared.Test tag origin on on_yes on_no)) true = Some on_yes
link_of (Some (shared.Test tag origin on on_yes on_no)) false = Some on_no
link_of (Some (shared.Node below)) side = Some below
link_of (Some (shared.Exit region tag listed)) side = None
link_of (Some shared.Stop) side = None
link_of (Some (shared.Trap kind line)) side = None

-- a node that names another number on a side
abbrev pub relinked : Option SharedNode → Bool → ℕ → Option SharedNode
relinked None side other = None
relinked (Some (shared.Step tag origin item rest)) side other = Some (shared.Step tag origin item other)
relinked (Some (shared.Test tag origin on on_yes on_no)) true other = Some (shared.Test tag origin on other on_no)
relinked (Some (shared.Test tag origin on on_yes on_no)) false other = Some (shared.Test tag origin on on_yes other)
relinked (Some (shared.Node below)) side other = Some (shared.Node other)
relinked (Some (shared.Exit region tag listed)) side other = Some (shared.Exit region tag listed)
relinked (Some shared.Stop) side other = Some shared.Stop
relinked (Some (shared.Trap kind line)) side other = Some (shared.Trap kind line)
