use Rattle.std.proofs.Common.{◌≡◌, nat_eq, true, subst}
use Rattle.pc_word.proofs.Places.{own_number}
use Rattle.pc_word.proofs.Truth.{not_true}
use Rattle.pc_renaming.proofs.Wanting.{not_false}
use Rattle.pc_renaming.specs.models.Wanted.{Not_wanted, Elsewhere, As_another}
use Rattle.pc_renaming.proofs.checking.are_wanted_alike.Goals as goal

pub returns-in-Some-clause-apart : goal.returns-in-Some-clause-apart
returns-in-Some-clause-apart c apart = Elsewhere c.in-Some.wanted c.in-Some.ensures.some (λ same.
    let is : nat_eq c.in-Some.wanted c.args.place ≡ true = subst (λ place. nat_eq c.in-Some.wanted place ≡ true) same (own_number c.in-Some.wanted) in
    absurd (cc))

pub returns-in-None-clause-alike : goal.returns-in-None-clause-alike
returns-in-None-clause-alike c alike =
    let none = not_true c.is_wanted_below.result alike in
    Not_wanted (λ place wanted. let some = c.in-None.ensures.none place wanted in absurd (cc)) (λ other wanted. let is = c.is_wanted_below.ensures.1 (other, wanted) in absurd (cc))

pub returns-in-None-clause-apart : goal.returns-in-None-clause-apart
returns-in-None-clause-apart c apart =
    let some = c.is_wanted_below.ensures.0 (not_false c.is_wanted_below.result apart) in
    As_another some.0 (λ place wanted. let there = c.in-None.ensures.none place wanted in absurd (cc)) some.1
