use Rattle.std.proofs.Common.{◌≡◌, ◌++◌, drop, string_bytes}
use Rattle.pc_view.specs.Listing.{arrays_from}
use Rattle.pc_view.proofs.listing.push_each_array.Given as goal

-- the text with the arrays from here on is the text at the start with all of them
abbrev pub invariant-loop-number : goal.invariant-loop-number
invariant-loop-number l =
    string_bytes l.text ++ arrays_from l.number-counter (drop l.number-counter l.lengths) ≡ string_bytes l.initial.text ++ arrays_from 0 l.lengths
