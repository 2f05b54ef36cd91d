-- How files and shelves in memory are written as codes, which the toolchain asks for.
use Rattle.std.specs.Prelude.{ℕ, List, refl}
use Rattle.std.specs.Coded.{Coded, code_by, coded×, coded_ℕ, coded_list}
use Rattle.std.specs.FinMap as map
use Rattle.pc_outside.specs.InMemory.{ShelfState, SureShelfState}
use Rattle.pc_outside.specs.Shelf.{Files}

-- how bytes are stored
abbrev pub bytes_code : Coded (List ℕ)
bytes_code = coded_list coded_ℕ

-- how files are stored
abbrev pub files_code : Coded Files
files_code = map.code bytes_code bytes_code

-- how a shelf is stored
abbrev pub shelf_code : Coded ShelfState
shelf_code =
    code_by ((Files × ℕ) × ((List ℕ × ℕ) × ((List ℕ × ℕ) × List ℕ)))
    (coded× (coded× files_code coded_ℕ) (coded× (coded× bytes_code coded_ℕ) (coded× (coded× bytes_code coded_ℕ) bytes_code)))
    (λ s. ((s.files, s.read_faults), ((s.read_name, s.write_faults), ((s.write_name, s.calls), s.failing))))
    (λ p. record { files = p.0.0; read_faults = p.0.1; read_name = p.1.0.0; write_faults = p.1.0.1; write_name = p.1.1.0.0; calls = p.1.1.0.1; failing = p.1.1.1 })
    (λ _. refl)

-- how a shelf without a list of failures is stored
abbrev pub sure_shelf_code : Coded SureShelfState
sure_shelf_code =
    code_by (Files × (ℕ × List ℕ)) (coded× files_code (coded× coded_ℕ bytes_code))
    (λ s. (s.files, (s.read_faults, s.read_name)))
    (λ p. record { files = p.0; read_faults = p.1.0; read_name = p.1.1 })
    (λ _. refl)
