use Rattle.std.proofs.Common.{◌≡◌, ◌++◌, drop, string_bytes}
use Rattle.pc_view.specs.Listing.{row_numbers_from}
use Rattle.pc_view.proofs.listing.push_each_number.Given as goal

-- the text with the numbers from here on is the text at the start with all of them
abbrev pub invariant-loop-place : goal.invariant-loop-place
invariant-loop-place l =
    string_bytes l.text ++ row_numbers_from l.place (drop l.place l.numbers) ≡ string_bytes l.initial.text ++ row_numbers_from 0 l.numbers
