-- How a call's answer is said to be exact but for want of memory.
use Rattle.std.specs.Prelude.{◌≡◌, List, [], ◌∷◌, Option, Some, None, Result, Ok, Err}

-- a value that was checked, or the first of its faults
abbrev pub checked : {X F : Type 0} → List F → X → Result X F
checked [] x = Ok x
checked (fault ∷ faults) x = Err fault

-- an error has a cause, and then it is the answer; without a cause it is want of memory, which is free to come in place of any
abbrev pub IsRefusal : {Y F : Type 0} → Option F → Result Y F → Type 0
IsRefusal (Some fault) answer = answer ≡ Err fault
IsRefusal None answer = Unit {0}

-- what a call gave is this answer, its value seen by `view` and its error by `cause`; want of memory, which has no cause, is
-- free to come in place of any answer
abbrev pub IsExact : {X Y E F : Type 0} → (X → Y) → (E → Option F) → Result X E → Result Y F → Type 0
IsExact view cause (Ok x) answer = answer ≡ Ok (view x)
IsExact view cause (Err error) answer = IsRefusal (cause error) answer
