-- Chains of items round a cycle, link by link.
use Rattle.std.proofs.Common.{◌≡◌, ℕ, ◌+◌, ◌%◌, ◌<◌, ◌≤◌, Bool, true, false, cond, List, [], ◌∷◌, ◌++◌, length, take, drop, get_or, refl, sym, ◌∙◌, ap, subst, arith}
use Rattle.std.specs.Prelude.{nat_eq, Option, Some, None, slice_get}
use Rattle.std.proofs.lemmas.Nat.{mod_below}
use Rattle.std.proofs.lemmas.List.{take_more, drop_more, drop_all, length-take-le}
use Rattle.std.proofs.lemmas.Option.{slice_get-get_or}
use Rattle.pc_word.specs.declared.item.Operand.TheVariants.{Name}
use Rattle.pc_word.proofs.Places.{number_apart}
use Rattle.pc_automaton.specs.Automaton.{AutomatonState}
use Rattle.pc_told.specs.Tellings.{Telling}
use Rattle.pc_waiting.specs.declared.obstacle.Waiting.{Waiting}
use Rattle.pc_cycles.specs.declared.carrier.Carrier.{Carrier}
use Rattle.pc_cycles.specs.declared.chain.Link.{Link}
use Rattle.pc_cycles.specs.declared.told_item.ToldItem.{ToldItem}
use Rattle.pc_cycles.specs.declared.transition.Transition.{Transition}
use Rattle.pc_cycles.specs.Chains.{argument_for, takes_up, brings, GoesThrough, as_it_is, by_item, Carries, Carry, by_no_link, by_link}
use Rattle.pc_word.specs.declared.item.Operand.{Operand}

-- ---- through a row

-- where no item is told it stays as it is
pub stays : (items : List ToldItem) (entries : Option (List Waiting)) (from to : Carrier) (item : Option ℕ) → item ≡ None → from ≡ to → GoesThrough items entries from item to
stays items entries from to item none same =
    subst (λ (o : Option ℕ). GoesThrough items entries from o to) (sym none) (subst (λ (carrier : Carrier). GoesThrough items entries from None carrier) same as_it_is)

-- else the item takes it up and brings the other
pub is_brought : (items : List ToldItem) (entries : Option (List Waiting)) (from to : Carrier) (item : Option ℕ) (place : ℕ) (it : ToldItem) → item ≡ Some place
    → slice_get items place ≡ Some it → takes_up it from ≡ true → brings entries it to ≡ true → GoesThrough items entries from item to
is_brought items entries from to item place it some there taken brought =
    subst (λ (o : Option ℕ). GoesThrough items entries from o to) (sym some) (by_item there taken brought)

-- ---- links

-- a link more
pub carry_last : {states : List AutomatonState} {tellings : List Telling} {waits : List (List Waiting)} {transitions : List Transition} {at : ℕ} {carrier mid : Carrier} {links : List Link}
    → Carry states tellings waits transitions at carrier links mid
    → (place : ℕ) → place ≡ at + length links → (transition : Transition) → slice_get transitions (place % length transitions) ≡ Some transition
    → (link : Link) → Carries states tellings waits transition mid link → Carry states tellings waits transitions at carrier (links ++ link ∷ []) link.to
carry_last {states} {tellings} {waits} {transitions} (by_no_link {at} {carrier}) place is transition there link carries =
    let here : place ≡ at = omega (arith, is) in
    by_link (subst (λ (n : ℕ). slice_get transitions (n % length transitions) ≡ Some transition) here there) carries by_no_link
carry_last (by_link first_there first_carries further) place is transition there link carries =
    by_link first_there first_carries (carry_last further place (omega (arith, is)) transition there link carries)

pub carry_next : (states : List AutomatonState) (tellings : List Telling) (waits : List (List Waiting)) (transitions : List Transition) (links : List Link)
    (carrier mid : Carrier) (at : ℕ) (d : Link) (transition : Transition)
    → at < length links → Carry states tellings waits transitions 0 carrier (take at links) mid → slice_get transitions (at % length transitions) ≡ Some transition
    → Carries states tellings waits transition mid (get_or links at d) → Carry states tellings waits transitions 0 carrier (take (at + 1) links) (get_or links at d).to
carry_next states tellings waits transitions links carrier mid at d transition below so_far there carries =
    let long = length-take-le at links (omega (arith, below)) in
    rw (take_more links at d below) (carry_last so_far at (omega (arith, long)) transition there (get_or links at d) carries)

-- a place on the way round
pub there_round : (transitions : List Transition) (at : ℕ) (d : Transition) → false ≡ nat_eq (length transitions) 0
    → slice_get transitions (at % length transitions) ≡ Some (get_or transitions (at % length transitions) d)
there_round [] at d some = absurd (cc)
there_round (first ∷ others) at d some =
    slice_get-get_or (first ∷ others) (at % length (first ∷ others)) d (mod_below at (length (first ∷ others)) (omega arith))

-- ---- arguments

-- the argument for a parameter among those from a place on
pub argument_next : (parameters : List ℕ) (arguments : List Operand) (parameter at : ℕ) (d : Operand) → at < length parameters → at < length arguments
    → argument_for (drop at parameters) (drop at arguments) parameter
    ≡ cond (nat_eq (get_or parameters at 0) parameter) (Some (get_or arguments at d)) (argument_for (drop (at + 1) parameters) (drop (at + 1) arguments) parameter)
argument_next parameters arguments parameter at d below below_too =
    λ i. argument_for (drop_more parameters at 0 below i) (drop_more arguments at d below_too i) parameter

-- it is among those from the next place on, where the parameter at this place is another
pub argument_passed : (parameters : List ℕ) (arguments : List Operand) (parameter at : ℕ) → at < length parameters → at < length arguments
    → (get_or parameters at 0 ≡ parameter → ⊥)
    → argument_for (drop at parameters) (drop at arguments) parameter ≡ argument_for (drop (at + 1) parameters) (drop (at + 1) arguments) parameter
argument_passed parameters arguments parameter at below below_too differ =
    argument_next parameters arguments parameter at (Name 0) below below_too
    ∙ ap (λ (b : Bool). cond b (Some (get_or arguments at (Name 0))) (argument_for (drop (at + 1) parameters) (drop (at + 1) arguments) parameter))
    (number_apart (get_or parameters at 0) parameter differ)

no_argument : (parameters : List ℕ) (parameter : ℕ) → argument_for parameters [] parameter ≡ None
no_argument [] parameter = refl
no_argument (first ∷ others) parameter = refl

-- where none is left there is none
pub no_arguments_left : (parameters : List ℕ) (arguments : List Operand) (parameter at : ℕ) → length arguments ≤ at
    → argument_for (drop at parameters) (drop at arguments) parameter ≡ None
no_arguments_left parameters arguments parameter at ended =
    ap (λ (l : List Operand). argument_for (drop at parameters) l parameter) (drop_all at arguments ended) ∙ no_argument (drop at parameters) parameter

pub no_parameters_left : (parameters : List ℕ) (arguments : List Operand) (parameter at : ℕ) → length parameters ≤ at
    → argument_for (drop at parameters) (drop at arguments) parameter ≡ None
no_parameters_left parameters arguments parameter at ended = ap (λ (l : List ℕ). argument_for l (drop at arguments) parameter) (drop_all at parameters ended)
