use Rattle.std.proofs.Common.{◌≡◌, drop}
use Rattle.pc_window.specs.Names.{names_in_homes}
use Rattle.pc_window.specs.models.Listing.{and_names, unmarked}
use Rattle.pc_window.proofs.listing.add_homes.Given as goal

-- what is done so far, and then what is left, is the whole
abbrev pub invariant-loop-home : goal.invariant-loop-home
invariant-loop-home l =
    and_names l.fn.found (unmarked l.on_path (names_in_homes l.homes)) ≡ and_names l.found (unmarked l.on_path (names_in_homes (drop l.home-index l.homes)))
