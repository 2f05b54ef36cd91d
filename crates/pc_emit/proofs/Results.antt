-- What holds where a call succeeded.
use Rattle.std.specs.Prelude.{Result, Ok, Err, OnOk}

-- facts that hold where it did give another that does
pub on_ok_all : {A E : Type 0} {P Q R : Type 0} (result : Result A E) → (P → Q → R) → OnOk result P → OnOk result Q → OnOk result R
on_ok_all (Ok value) f p q = f p q
on_ok_all (Err error) f p q = tt
