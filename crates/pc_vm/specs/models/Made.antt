-- What a machine is made with: lists of the lengths that its code asks for, which begin with its data.
use Rattle.std.specs.Prelude.{ℕ, ℤ, pos, List, [], ◌∷◌, ◌++◌, drop, map, length, replicate}
use Rattle.pc_machine.specs.Registers.{most_registers}
use Rattle.pc_vm.specs.Contents.{Contents}

-- the length of each array
abbrev pub lengths_of : List (List ℤ) → List ℕ
lengths_of cells = map length cells

-- an array of so many elements that begins with these words and goes on with 0
abbrev pub new_array : ℕ → List ℤ → List ℤ
new_array elements words = words ++ drop (length words) (replicate elements (pos 0))

-- arrays of these lengths, each with its data
abbrev pub new_arrays : List ℕ → List (List ℤ) → List (List ℤ)
new_arrays (elements ∷ lengths) (words ∷ initial) = new_array elements words ∷ new_arrays lengths initial
new_arrays _ _ = []

-- all registers are 0, arrays of these lengths begin with their data, and the whole input is left
abbrev pub new_contents : List ℕ → List (List ℤ) → List ℤ → Contents
new_contents lengths initial input =
    record { registers = replicate most_registers (pos 0); cells = new_arrays lengths initial; input = input }
