-- The table of sizes, a function at a time.
use Rattle.std.proofs.Common.{◌≡◌, refl, sym, ap, subst, ◌∙◌, ℕ, zero, suc, ◌+◌, ◌<◌, ◌≤◌, Bool, true, false, ◌||◌, List, [], ◌∷◌, ◌++◌, Option, Some}
use Rattle.std.proofs.Common.{None, IfSome, option_map, arith, nat_eq, nat_lt, length, take, get_or, slice_get}
use Rattle.std.specs.Prelude.{if◌then◌else◌}
use Rattle.std.specs.Option.{option_and_then}
use Rattle.std.proofs.lemmas.List.{length-take, length-append}
use Rattle.std.proofs.lemmas.Bool.Decides.{nat_tests}
use Rattle.pc_syntax.specs.declared.unit.Function.{Function}
use Rattle.pc_syntax.specs.Unit.{UnitFunction}
use Rattle.pc_syntax.specs.Erasure.{expression_of}
use Rattle.pc_syntax.specs.UnitErasure.{unit_list_of}
use Rattle.pc_calls.specs.Measures as of
use Rattle.pc_calls.specs.Counted as counted
use Rattle.pc_inline.specs.declared.counting.FunctionSize.{FunctionSize}
use Rattle.pc_inline.specs.declared.size.Size.{Size}
use Rattle.pc_inline.specs.models.Finding.{place_among}
use Rattle.pc_inline.specs.models.Sized.{IsSize, Alike, AlikeExtents, Like, AreSizes, extent_seen, function_seen, seen}
use Rattle.pc_inline.proofs.Rows.{last_first, last_first-more}
use Rattle.pc_inline.proofs.Finds.{front-length, found-within}
use Rattle.pc_calls.specs.Refusals.{Refusal, TooBig, TooHigh, refused_if}
use Rattle.pc_calls.specs.Inlining.{size_refusals}
use Rattle.pc_inline.specs.declared.error.InlineError.TheVariants as told
use Rattle.pc_inline.specs.models.First.{IsFirst}
use Rattle.pc_inline.proofs.Firsts.{IsFirst-made}
use Rattle.pc_inline.proofs.Alike.{list-alike}

-- sizes that are told of one count are told of one that is the same up to the greatest number
pub sized_alike : (z : Size) (a b : of.Size) → IsSize z a → Alike a b → IsSize z b
sized_alike z a b is alike = (is.0 ∙ alike.0, is.1 ∙ alike.1, is.2 ∙ alike.2)

at_end : (sizes : List FunctionSize) (new : FunctionSize) → slice_get (sizes ++ new ∷ []) (length sizes) ≡ Some new
at_end [] new = refl
at_end (first ∷ others) new = at_end others new

before_end : (sizes : List FunctionSize) (new : FunctionSize) (i : ℕ) → i < length sizes → slice_get (sizes ++ new ∷ []) i ≡ slice_get sizes i
before_end [] new i below = absurd (omega (arith, below))
before_end (first ∷ others) new zero below = refl
before_end (first ∷ others) new (suc i) below = before_end others new i (omega (arith, below))

-- no function
pub no_functions : AreSizes [] []
unfolding counted.function_sizes place_among
no_functions = record { many = refl; like = λ symbol. tt }

-- one more function
pub table_more : (functions : List Function) (sizes longer : List FunctionSize) (i : ℕ) (function : Function) (new : FunctionSize) → i < length functions → function ≡ get_or functions i function →
    AreSizes (take i functions) sizes → longer ≡ sizes ++ new ∷ [] →
    new.parameters ≡ length function.params → IsSize new.items (counted.counted_list (seen (take i functions) sizes) true (unit_list_of function.items)) →
    AlikeExtents (option_map extent_seen new.result) (option_map of.extent (option_map expression_of function.result)) →
    AreSizes (take (i + 1) functions) longer
unfolding counted.function_sizes place_among
table_more functions sizes longer i function new below read are pushed parameters items value =
    let earlier = last_first (take i functions) in
    let here = length-take i functions in
    let next = length-take (i + 1) functions in
    let many = are.many in
    let added = ap (λ (x : List FunctionSize). length x) pushed ∙ length-append sizes (new ∷ []) in
    let long : length earlier ≡ length sizes = front-length functions i (omega (arith, below)) ∙ omega (arith, many, here, below) in
    let alike = list-alike true (seen (take i functions) sizes) (counted.function_sizes earlier) are.like (unit_list_of function.items) in
    record {
      many = omega (arith, added, next, many, here, below);
      like = λ symbol. subst (λ (x : List UnitFunction). Like (option_map function_seen (option_and_then (slice_get longer) (place_among x symbol))) (counted.function_sizes x symbol))
          (sym (last_first-more functions i function below read))
          (by symbol (nat_eq symbol function.symbol) (place_among earlier symbol) refl (are.like symbol)
          (subst (λ (x : List FunctionSize). Like (option_map function_seen (slice_get x (length earlier))) (Some (counted_of earlier)))
          (sym pushed) (subst (λ (n : ℕ). Like (option_map function_seen (slice_get (sizes ++ new ∷ []) n)) (Some (counted_of earlier))) (sym long)
          (subst (λ (o : Option FunctionSize). Like (option_map function_seen o) (Some (counted_of earlier))) (sym (at_end sizes new))
          (parameters, (omega (arith, items.0, alike.0), omega (arith, items.1, alike.1), omega (arith, items.2, alike.2)), value))))
          (found-within (take i functions) symbol (place_among earlier symbol) refl));
    }
  where
    counted_of : List UnitFunction → counted.FunctionSize
    counted_of earlier = record {
      parameters = length function.params;
      items = counted.counted_list (counted.function_sizes earlier) true (unit_list_of function.items);
      result = option_map of.extent (option_map expression_of function.result);
    }

    by : (symbol : ℕ) (b : Bool) (o : Option ℕ) → place_among (last_first (take i functions)) symbol ≡ o →
        Like (option_map function_seen (option_and_then (slice_get sizes) (place_among (last_first (take i functions)) symbol))) (counted.function_sizes (last_first (take i functions)) symbol) →
        Like (option_map function_seen (slice_get longer (length (last_first (take i functions))))) (Some (counted_of (last_first (take i functions)))) →
        IfSome (place_among (last_first (take i functions)) symbol) (λ place. place < length (take i functions)) →
        Like (option_map function_seen (option_and_then (slice_get longer) (if b then Some (length (last_first (take i functions))) else place_among (last_first (take i functions)) symbol)))
        (if b then Some (counted_of (last_first (take i functions))) else counted.function_sizes (last_first (take i functions)) symbol)
    by symbol true o at before new_one within = new_one
    by symbol false None at before new_one within = subst (λ (z : Option ℕ). Like (option_map function_seen (option_and_then (slice_get longer) z))
        (counted.function_sizes (last_first (take i functions)) symbol)) (sym at)
        (subst (λ (z : Option ℕ). Like (option_map function_seen (option_and_then (slice_get sizes) z)) (counted.function_sizes (last_first (take i functions)) symbol)) at before)
    by symbol false (Some place) at before new_one within =
        let inside = subst (λ (z : Option ℕ). IfSome z (λ place. place < length (take i functions))) at within in
        let many = are.many in
        subst (λ (z : Option ℕ). Like (option_map function_seen (option_and_then (slice_get longer) z)) (counted.function_sizes (last_first (take i functions)) symbol)) (sym at)
        (subst (λ (z : Option FunctionSize). Like (option_map function_seen z) (counted.function_sizes (last_first (take i functions)) symbol))
        (sym (ap (λ (x : List FunctionSize). slice_get x place) pushed ∙ before_end sizes new place (omega (arith, inside, many))))
        (subst (λ (z : Option ℕ). Like (option_map function_seen (option_and_then (slice_get sizes) z)) (counted.function_sizes (last_first (take i functions)) symbol)) at before))

-- ---- refusals for the size

-- one test more that holds
tests_first : (b : Bool) (others : List Refusal) → b ≡ true → IsFirst told.TooBig (refused_if b TooBig ++ others)
tests_first true others is = IsFirst-made told.TooBig TooBig others refl
tests_first false others is = absurd (cc)

pub too_many_statements : (z : Size) (a : of.Size) → IsSize z a → 65536 < z.count → IsFirst told.TooBig (size_refusals a)
too_many_statements z a is many =
    let more : 65536 < a.count = omega (arith, is.0, many) in
    let test : nat_lt 65536 a.count ≡ true = grind (arith, nat_tests, more) in
    tests_first (nat_lt 65536 a.count || nat_lt 262144 a.nodes) _ (ap (λ (b : Bool). b || nat_lt 262144 a.nodes) test)

either : (b c : Bool) → c ≡ true → (b || c) ≡ true
either true c is = refl
either false c is = is

pub too_many_nodes : (z : Size) (a : of.Size) → IsSize z a → 262144 < z.nodes → IsFirst told.TooBig (size_refusals a)
too_many_nodes z a is many =
    let more : 262144 < a.nodes = omega (arith, is.1, many) in
    let test : nat_lt 262144 a.nodes ≡ true = grind (arith, nat_tests, more) in
    tests_first (nat_lt 65536 a.count || nat_lt 262144 a.nodes) _ (either (nat_lt 65536 a.count) (nat_lt 262144 a.nodes) test)

tests_last : (b c d : Bool) → b ≡ false → c ≡ false → d ≡ true → IsFirst told.TooHigh (refused_if (b || c) TooBig ++ refused_if d TooHigh)
tests_last false false true one two three = IsFirst-made told.TooHigh TooHigh [] refl
tests_last true c d one two three = absurd (cc)
tests_last false true d one two three = absurd (cc)
tests_last false false false one two three = absurd (cc)

pub too_high : (z : Size) (a : of.Size) → IsSize z a → z.count ≤ 65536 → z.nodes ≤ 262144 → 256 ≤ z.height → IsFirst told.TooHigh (size_refusals a)
too_high z a is few little high =
    let one : a.count ≤ 65536 = omega (arith, is.0, few) in
    let two : a.nodes ≤ 262144 = omega (arith, is.1, little) in
    let three : 256 < 1 + a.height = omega (arith, is.2, high) in
    tests_last (nat_lt 65536 a.count) (nat_lt 262144 a.nodes) (nat_lt 256 (1 + a.height)) (grind (arith, nat_tests, one)) (grind (arith, nat_tests, two)) (grind (arith, nat_tests, three))
