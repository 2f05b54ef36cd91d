-- Because of which resource so many rows are needed.
use Rattle.std.proofs.Common.{◌≡◌, ◌≢◌, ℕ, ◌*◌, ◌≤◌, ◌<◌, true, false, Bool, refl, arith}
use Rattle.std.specs.Prelude.{nat_lt, max}
use Rattle.std.proofs.Math.Nat.{le-max_left, le-max_right}
use Rattle.std.proofs.lemmas.Nat.{mul-le}
use Rattle.std.proofs.lemmas.Bool.Decides.{nat_tests}
use Rattle.pc_word.specs.declared.item.Limits.{Limits}
use Rattle.pc_told.specs.Resources.{HasRoom, IsLeastRoom}
use Rattle.pc_waiting.specs.declared.obstacle.Resource.TheVariants.{Items, Tests, Memory}
use Rattle.pc_cycles.specs.Cycles.{NeedsRows}

module _ (limits : Limits) (items tests memory least : ℕ) (is_least : IsLeastRoom limits items tests memory least) where
  -- the items alone need as many
  pub because_of_items : (alone : ℕ) → IsLeastRoom limits items 0 0 alone → alone ≡ least → NeedsRows limits items tests memory Items least
  because_of_items alone is same =
      λ rows fits. let few = is.least rows (record { items_fit = fits; tests_fit = omega arith; memory_fits = omega arith }) in omega (arith, few, same)

  -- the tests alone do
  pub because_of_tests : (alone : ℕ) → IsLeastRoom limits 0 tests 0 alone → alone ≡ least → NeedsRows limits items tests memory Tests least
  because_of_tests alone is same =
      λ rows fits. let few = is.least rows (record { items_fit = omega arith; tests_fit = fits; memory_fits = omega arith }) in omega (arith, few, same)

  -- where neither do, the loads and stores do: else the greatest of the three would have room for all
  pub because_of_memory : (one other : ℕ) → IsLeastRoom limits items 0 0 one → IsLeastRoom limits 0 tests 0 other → one ≢ least → other ≢ least
      → NeedsRows limits items tests memory Memory least
  because_of_memory one other is_one is_other one_less other_less rows fits = by (nat_lt rows least) refl
    where
      fewer_items : one < least
      fewer_items = let few = is_one.least least (record { items_fit = is_least.room.items_fit; tests_fit = omega arith; memory_fits = omega arith }) in omega (arith, few, one_less)

      fewer_tests : other < least
      fewer_tests = let few = is_other.least least (record { items_fit = omega arith; tests_fit = is_least.room.tests_fit; memory_fits = omega arith }) in omega (arith, few, other_less)

      wider : (count each few many : ℕ) → count ≤ few * each → few ≤ many → count ≤ many * each
      wider count each few many fits more = let grown = mul-le few each many each more (omega arith) in omega (arith, fits, grown)

      by : (b : Bool) → nat_lt rows least ≡ b → least ≤ rows
      by false e = grind (arith, nat_tests)
      by true e =
          let fewer : rows < least = grind (arith, nat_tests) in
          let most = max rows (max one other) in
          let rows_few = le-max_left rows (max one other) in
          let others_few = le-max_right rows (max one other) in
          let one_few = le-max_left one other in
          let other_few = le-max_right one other in
          let room : HasRoom limits items tests memory most = record {
            items_fit = wider items limits.ops one most is_one.room.items_fit (omega (arith, others_few, one_few));
            tests_fit = wider tests limits.tests other most is_other.room.tests_fit (omega (arith, others_few, other_few));
            memory_fits = wider memory limits.mem rows most fits rows_few;
          } in
          let all = is_least.least most room in
          let three : max rows (max one other) < least = omega (arith, fewer, fewer_items, fewer_tests) in
          absurd (omega (arith, all, three))
