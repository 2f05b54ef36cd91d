-- Where functions are found, and how many parameters they have.
use Rattle.std.proofs.Common.{◌≡◌, refl, sym, ap, ◌∙◌, ℕ, suc, ◌+◌, ◌<◌, ◌≤◌, Bool, true, false, Option, Some, None, IfSome, List, [], ◌∷◌, ◌++◌, map}
use Rattle.std.proofs.Common.{length, take, get_or, reverse, arith, nat_eq, append_assoc}
use Rattle.std.specs.Prelude.{if◌then◌else◌}
use Rattle.std.proofs.lemmas.List.{length-reverse, length-map, length-take, length-append, reverse-reverse, reverse-append, get_or-map, get_or_at, take-map}
use Rattle.std.proofs.Math.Seq.{take-append_seam}
use Rattle.std.proofs.lemmas.Bool.Decides.{nat_tests}
use Rattle.pc_syntax.specs.declared.unit.Function.{Function}
use Rattle.pc_syntax.specs.Unit.{UnitFunction}
use Rattle.pc_syntax.specs.UnitErasure.{function_of}
use Rattle.pc_calls.specs.Refusals.{arity}
use Rattle.pc_inline.specs.models.Finding.{place_among}
use Rattle.pc_inline.proofs.Rows.{last_first, last_first-more}

-- as many functions stand in front of a place as its number says
pub front-length : (functions : List Function) (i : ℕ) → i ≤ length functions → length (last_first (take i functions)) ≡ i
front-length functions i within =
    length-reverse (map function_of (take i functions)) ∙ length-map (take i functions) function_of
    ∙ (let e = length-take i functions in omega (arith, e, within))

-- one more function, which has the name
pub place_among-here : (functions : List Function) (i symbol : ℕ) (function : Function) → i < length functions → function ≡ get_or functions i function →
    function.symbol ≡ symbol → Some i ≡ place_among (last_first (take (i + 1) functions)) symbol
unfolding place_among
place_among-here functions i symbol function below read same =
    let front = front-length functions i (omega (arith, below)) in
    let equal : nat_eq symbol function.symbol ≡ true = grind (arith, nat_tests, same) in
    sym (ap (λ (x : List UnitFunction). place_among x symbol) (last_first-more functions i function below read)
    ∙ ap (λ (b : Bool). if b then Some (length (last_first (take i functions))) else place_among (last_first (take i functions)) symbol) equal
    ∙ ap (λ (n : ℕ). Some n) front)

-- one more function, which has another name
pub place_among-passed : (functions : List Function) (i symbol : ℕ) (function : Function) (found : Option ℕ) → i < length functions → function ≡ get_or functions i function →
    (function.symbol ≡ symbol → ⊥) → found ≡ place_among (last_first (take i functions)) symbol → found ≡ place_among (last_first (take (i + 1) functions)) symbol
unfolding place_among
place_among-passed functions i symbol function found below read other so_far =
    let different : nat_eq symbol function.symbol ≡ false = grind (arith, nat_tests, other) in
    so_far ∙ sym (ap (λ (x : List UnitFunction). place_among x symbol) (last_first-more functions i function below read)
    ∙ ap (λ (b : Bool). if b then Some (length (last_first (take i functions))) else place_among (last_first (take i functions)) symbol) different)

-- what is known where no function is found
pub arity-unfound : (functions : List UnitFunction) (symbol : ℕ) → place_among functions symbol ≡ None → arity functions symbol ≡ None
unfolding place_among arity
arity-unfound [] symbol none = refl
arity-unfound (last ∷ earlier) symbol none = by (nat_eq symbol last.symbol) none (arity-unfound earlier symbol)
  where
    by : (b : Bool) → (if b then Some (length earlier) else place_among earlier symbol) ≡ None → (place_among earlier symbol ≡ None → arity earlier symbol ≡ None) →
        (if b then Some (length last.parameters) else arity earlier symbol) ≡ None
    by true none more = absurd (cc)
    by false none more = more none

-- these functions have other names
abbrev pub Misses : List UnitFunction → ℕ → Type 0
Misses [] symbol = Unit {0}
Misses (first ∷ others) symbol = (nat_eq symbol first.symbol ≡ false) × Misses others symbol

-- the first function of a name among these, with those after it
pub record Split (functions : List UnitFunction) (symbol place : ℕ) : Type 0 where
  front : List UnitFunction
  function : UnitFunction
  earlier : List UnitFunction
  misses : Misses front symbol
  hits : nat_eq symbol function.symbol ≡ true
  counted : length earlier ≡ place
  is : functions ≡ front ++ function ∷ earlier

split-at : (functions : List UnitFunction) (symbol place : ℕ) → place_among functions symbol ≡ Some place → Split functions symbol place
unfolding place_among
split-at [] symbol place at = absurd (cc)
split-at (last ∷ earlier) symbol place at = by (nat_eq symbol last.symbol) refl at (split-at earlier symbol place)
  where
    by : (b : Bool) → nat_eq symbol last.symbol ≡ b → (if b then Some (length earlier) else place_among earlier symbol) ≡ Some place →
        (place_among earlier symbol ≡ Some place → Split earlier symbol place) → Split (last ∷ earlier) symbol place
    by true hit at more = record { front = []; function = last; earlier = earlier; misses = tt; hits = hit; counted = cc; is = refl }
    by false miss at more =
        let rest = more at in
        record {
          front = last ∷ rest.front;
          function = rest.function;
          earlier = rest.earlier;
          misses = (miss, rest.misses);
          hits = rest.hits;
          counted = rest.counted;
          is = ap (λ (x : List UnitFunction). last ∷ x) rest.is;
        }

-- the last function of a name, with those before it and those after it
pub record Found (functions : List Function) (symbol place : ℕ) (d : Function) : Type 0 where
  pub within : place < length functions
  pub after : List UnitFunction
  pub misses : Misses after symbol
  pub hits : nat_eq symbol (get_or functions place d).symbol ≡ true
  pub is : last_first functions ≡ after ++ function_of (get_or functions place d) ∷ last_first (take place functions)

pub found-at : (functions : List Function) (symbol place : ℕ) (d : Function) → place_among (last_first functions) symbol ≡ Some place →
    Found functions symbol place d
found-at functions symbol place d at =
    let split = split-at (last_first functions) symbol place at in
    let all = map function_of functions in
    let turned : all ≡ reverse split.earlier ++ split.function ∷ reverse split.front =
    sym (reverse-reverse all) ∙ ap (λ (x : List UnitFunction). reverse x) split.is
    ∙ reverse-append split.front (split.function ∷ split.earlier)
    ∙ ap (λ (x : List UnitFunction). x ++ reverse split.front) (reverse-append (split.function ∷ []) split.earlier)
    ∙ append_assoc (reverse split.earlier) (split.function ∷ []) (reverse split.front) in
    let long : length (reverse split.earlier) ≡ place = length-reverse split.earlier ∙ split.counted in
    let count : length functions ≡ place + suc (length (reverse split.front)) =
    sym (length-map functions function_of) ∙ ap (λ (x : List UnitFunction). length x) turned
    ∙ length-append (reverse split.earlier) (split.function ∷ reverse split.front)
    ∙ ap (λ (n : ℕ). n + suc (length (reverse split.front))) long in
    let within : place < length functions = omega (arith, count) in
    let there : function_of (get_or functions place d) ≡ split.function =
    sym (get_or-map function_of functions place d split.function within)
    ∙ ap (λ (x : List UnitFunction). get_or x place split.function) turned
    ∙ get_or_at (reverse split.earlier) split.function (reverse split.front) split.function place long in
    let before : last_first (take place functions) ≡ split.earlier =
    ap (λ (x : List UnitFunction). reverse x) (sym (take-map function_of place functions) ∙ ap (take place) turned
    ∙ ap (λ (n : ℕ). take n (reverse split.earlier ++ split.function ∷ reverse split.front)) (sym long)
    ∙ take-append_seam (reverse split.earlier) (split.function ∷ reverse split.front))
    ∙ reverse-reverse split.earlier in
    record {
      within = within;
      after = split.front;
      misses = split.misses;
      hits = ap (λ (f : UnitFunction). nat_eq symbol f.symbol) there ∙ split.hits;
      is = split.is ∙ ap (λ (f : UnitFunction). split.front ++ f ∷ split.earlier) (sym there)
          ∙ ap (λ (x : List UnitFunction). split.front ++ function_of (get_or functions place d) ∷ x) (sym before);
    }

-- how many parameters it has
arity-hit : (after earlier : List UnitFunction) (function : UnitFunction) (symbol : ℕ) → Misses after symbol → nat_eq symbol function.symbol ≡ true →
    arity (after ++ function ∷ earlier) symbol ≡ Some (length function.parameters)
unfolding arity
arity-hit [] earlier function symbol misses hits = ap (λ (b : Bool). if b then Some (length function.parameters) else arity earlier symbol) hits
arity-hit (first ∷ others) earlier function symbol misses hits =
    ap (λ (b : Bool). if b then Some (length first.parameters) else arity (others ++ function ∷ earlier) symbol) misses.0
    ∙ arity-hit others earlier function symbol misses.1 hits

pub arity-found : (functions : List Function) (symbol place : ℕ) (d : Function) → place_among (last_first functions) symbol ≡ Some place →
    arity (last_first functions) symbol ≡ Some (length (get_or functions place d).params)
arity-found functions symbol place d at =
    let found = found-at functions symbol place d at in
    ap (λ (x : List UnitFunction). arity x symbol) found.is
    ∙ arity-hit found.after (last_first (take place functions)) (function_of (get_or functions place d)) symbol found.misses found.hits

-- a place that is found is one of the list
pub found-within : (functions : List Function) (symbol : ℕ) (found : Option ℕ) → found ≡ place_among (last_first functions) symbol → IfSome found (λ place. place < length functions)
found-within functions symbol None is = tt
found-within [] symbol (Some place) is = let at = split-at [] symbol place (sym is) in absurd (no_split symbol place at)
  where
    no_split : (symbol place : ℕ) → Split [] symbol place → ⊥
    no_split symbol place split = let long = ap (λ (x : List UnitFunction). length x) split.is ∙ length-append split.front (split.function ∷ split.earlier) in omega (arith, long)
found-within (first ∷ others) symbol (Some place) is = (found-at (first ∷ others) symbol place first (sym is)).within
