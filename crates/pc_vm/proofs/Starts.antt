-- A new machine stands at the start of its code's run.
use Rattle.std.proofs.Common.{◌≡◌, ℕ, zero, suc, ◌+◌, ◌<◌, ◌≤◌, false, List, [], ◌∷◌, ◌++◌, length, map, take, drop, replicate, get_or, refl, sym, ap, ◌∙◌, arith}
use Rattle.std.proofs.Common.{length-append}
use Rattle.std.proofs.lemmas.List.{length-map, length-replicate, length-drop}
use Rattle.std.specs.Prelude.{ℤ, pos}
use Rattle.pc_machine.specs.declared.code.Code.{Code}
use Rattle.pc_word.specs.Data.{first_cells}
use Rattle.pc_machine.specs.MachineCode.{row_of, code_of}
use Rattle.pc_machine.specs.MachineRun.{Cycle, machine_start}
use Rattle.pc_machine.specs.Registers.{most_registers}
use Rattle.pc_machine.specs.WellFormed.{WellFormed}
use Rattle.pc_word.specs.Data.{IsData, AreData}
use Rattle.pc_vm.specs.Contents.{Contents, cells_of, state_of}
use Rattle.pc_vm.specs.models.Made.{lengths_of, new_array, new_arrays, new_contents}
use Rattle.pc_vm.specs.models.Planned.{Planned, nothing_planned}
use Rattle.pc_vm.specs.models.Sound.{IsSound}

-- ---- lists of data

-- the words of each array have room in it
pub data_fits : (lengths : List ℕ) (initial : List (List ℤ)) (at : ℕ) → AreData lengths initial → length (get_or initial at []) ≤ get_or lengths at 0
data_fits [] [] at are = omega arith
data_fits (n ∷ lengths) (words ∷ initial) zero are = are.0.fits
data_fits (n ∷ lengths) (words ∷ initial) (suc at) are = data_fits lengths initial at are.1
data_fits [] (words ∷ initial) at are = absurd are
data_fits (n ∷ lengths) [] at are = absurd are

-- one array more
one_more : (lengths : List ℕ) (initial : List (List ℤ)) (at : ℕ) → AreData lengths initial → at < length lengths
    → new_arrays (take at lengths) (take at initial) ++ new_array (get_or lengths at 0) (get_or initial at []) ∷ []
    ≡ new_arrays (take (suc at) lengths) (take (suc at) initial)
one_more (n ∷ lengths) (words ∷ initial) zero are lt = refl
one_more (n ∷ lengths) (words ∷ initial) (suc at) are lt =
    ap (λ (l : List (List ℤ)). new_array n words ∷ l) (one_more lengths initial at are.1 (omega (arith, lt)))
one_more [] initial at are lt = absurd (omega (arith, lt))
one_more (n ∷ lengths) [] at are lt = absurd are

pub arrays_with : (lengths : List ℕ) (initial : List (List ℤ)) (at : ℕ) → AreData lengths initial → at < length lengths
    → new_arrays (take at lengths) (take at initial) ++ new_array (get_or lengths at 0) (get_or initial at []) ∷ []
    ≡ new_arrays (take (at + 1) lengths) (take (at + 1) initial)
arrays_with lengths initial at are lt =
    one_more lengths initial at are lt
    ∙ ap (λ (many : ℕ). new_arrays (take many lengths) (take many initial)) (let e : suc at ≡ at + 1 = omega arith in e)

-- all arrays
pub arrays_all : (lengths : List ℕ) (initial : List (List ℤ)) (many : ℕ) → AreData lengths initial → length lengths ≤ many
    → new_arrays (take many lengths) (take many initial) ≡ new_arrays lengths initial
arrays_all [] [] zero are le = refl
arrays_all [] [] (suc many) are le = refl
arrays_all (n ∷ lengths) (words ∷ initial) zero are le = absurd (omega (arith, le))
arrays_all (n ∷ lengths) (words ∷ initial) (suc many) are le =
    ap (λ (l : List (List ℤ)). new_array n words ∷ l) (arrays_all lengths initial many are.1 (omega (arith, le)))
arrays_all [] (words ∷ initial) many are le = absurd are
arrays_all (n ∷ lengths) [] many are le = absurd are

-- ---- elements

zeros : (n x : ℕ) → get_or (replicate n (pos 0)) x (pos 0) ≡ pos 0
zeros zero x = refl
zeros (suc n) zero = refl
zeros (suc n) (suc x) = zeros n x

zeros_left : (m n x : ℕ) → get_or (drop m (replicate n (pos 0))) x (pos 0) ≡ pos 0
zeros_left zero n x = zeros n x
zeros_left (suc m) zero x = refl
zeros_left (suc m) (suc n) x = zeros_left m n x

-- what follows the words changes no element, if it is 0 throughout
ends_in_zeros : (words rest : List ℤ) (x : ℕ) → ((at : ℕ) → get_or rest at (pos 0) ≡ pos 0) → get_or (words ++ rest) x (pos 0) ≡ get_or words x (pos 0)
ends_in_zeros [] rest x zero_there = zero_there x
ends_in_zeros (word ∷ words) rest zero zero_there = refl
ends_in_zeros (word ∷ words) rest (suc x) zero_there = ends_in_zeros words rest x zero_there

-- new arrays have the elements with which a run starts
new-cells : (lengths : List ℕ) (initial : List (List ℤ)) → AreData lengths initial → (array place : ℕ)
    → cells_of (new_arrays lengths initial) array place ≡ first_cells initial array place
new-cells [] [] are array place = refl
new-cells (n ∷ lengths) (words ∷ initial) are zero place =
    ends_in_zeros words (drop (length words) (replicate n (pos 0))) place (λ at. zeros_left (length words) n at)
new-cells (n ∷ lengths) (words ∷ initial) are (suc array) place = new-cells lengths initial are.1 array place
new-cells [] (words ∷ initial) are array place = absurd are
new-cells (n ∷ lengths) [] are array place = absurd are

-- and their lengths
new-length : (n : ℕ) (words : List ℤ) → length words ≤ n → length (new_array n words) ≡ n
new-length n words fits =
    let whole = length-append words (drop (length words) (replicate n (pos 0))) in
    let rest = length-drop (length words) (replicate n (pos 0)) in
    omega (arith, whole, rest, length-replicate n (pos 0), fits)

new-lengths : (lengths : List ℕ) (initial : List (List ℤ)) → AreData lengths initial → lengths_of (new_arrays lengths initial) ≡ lengths
new-lengths [] [] are = refl
new-lengths (n ∷ lengths) (words ∷ initial) are =
    ap (λ (k : ℕ). k ∷ lengths_of (new_arrays lengths initial)) (new-length n words are.0.fits)
    ∙ ap (λ (ls : List ℕ). n ∷ ls) (new-lengths lengths initial are.1)
new-lengths [] (words ∷ initial) are = absurd are
new-lengths (n ∷ lengths) [] are = absurd are

-- ---- the machine

-- new contents are the start
pub start-state : (code : Code) (lengths : List ℕ) (initial : List (List ℤ)) (input : List ℤ) (held : Contents) → WellFormed (code_of code)
    → lengths ≡ code.arrays → initial ≡ code.initial → held ≡ new_contents lengths initial input
    → ◌≡◌ {A = Cycle} (record { row = 0; state = state_of held }) (machine_start (code_of code) input)
start-state code lengths initial input held well same begins is =
    let first : ◌≡◌ {A = Cycle} (record { row = 0; state = state_of (new_contents code.arrays code.initial input) }) (machine_start (code_of code) input) =
    λ i. record {
      row = 0;
      state = record { names = λ x. zeros most_registers x i; cells = λ a p. new-cells code.arrays code.initial well.initial a p i; input = input };
    } in
    let made : held ≡ new_contents code.arrays code.initial input =
    is ∙ ap (λ (ls : List ℕ). new_contents ls initial input) same ∙ ap (λ (ds : List (List ℤ)). new_contents code.arrays ds input) begins in
    ap (λ (c : Contents). let it : Cycle = record { row = 0; state = state_of c } in it) made ∙ first

-- and sound
pub start-sound : (code : Code) (lengths : List ℕ) (initial : List (List ℤ)) (input : List ℤ) (held : Contents) (plan : Planned) → WellFormed (code_of code)
    → lengths ≡ code.arrays → initial ≡ code.initial → held ≡ new_contents lengths initial input → plan ≡ nothing_planned
    → IsSound (record { code = code; row = 0; values = held; pending = plan; over = false })
start-sound code lengths initial input held plan well same begins is none =
    let some : 1 ≤ length (map row_of code.rows) = well.entry in
    let made : held ≡ new_contents code.arrays code.initial input =
    is ∙ ap (λ (ls : List ℕ). new_contents ls initial input) same ∙ ap (λ (ds : List (List ℤ)). new_contents code.arrays ds input) begins in
    record {
      well = well;
      row = omega (arith, some, length-map code.rows row_of);
      registers = ap (λ (c : Contents). length c.registers) made ∙ length-replicate most_registers (pos 0);
      lengths = ap (λ (c : Contents). lengths_of c.cells) made ∙ new-lengths code.arrays code.initial well.initial;
      planned = none;
    }
