-- The limits of the machine, of its objects and their input.
use Rattle.std.specs.Prelude.{ℕ}

-- items, tests, and loads and stores that a row's limits may allow
abbrev pub most_ops : ℕ
most_ops = 32

abbrev pub most_tests : ℕ
most_tests = 7

abbrev pub most_mem : ℕ
most_mem = 32

-- arrays, the elements of one, and of all together
abbrev pub most_arrays : ℕ
most_arrays = 32

abbrev pub most_length : ℕ
most_length = 65536

abbrev pub most_elements : ℕ
most_elements = 1048576

-- bytes of an object
abbrev pub most_object : ℕ
most_object = 16777216

-- bytes of an input
abbrev pub most_input : ℕ
most_input = 16777216

-- turns of a loop that a window may hold, and rows that its schedule may have
abbrev pub most_window : ℕ
most_window = 8

abbrev pub most_rows : ℕ
most_rows = 512

-- cycles of a run
abbrev pub most_cycles : ℕ
most_cycles = 1000000000000
