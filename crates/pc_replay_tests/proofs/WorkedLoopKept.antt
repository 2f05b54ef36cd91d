-- What the worked loop's table keeps.
use Rattle.std.proofs.Common.{◌≡◌, ℕ, zero, suc, ◌≤◌, ◌<◌, length, ◌⊎◌, inl, inr, Some, None, refl, sym, ◌∙◌, ap, subst, arith}
use Rattle.std.specs.Prelude.{pos, Bool, true, false, nat_eq, [], ◌∷◌, ◌||◌, IfSome, slice_get}
use Rattle.std.specs.List.{list_any}
use Rattle.std.specs.List.Sorted.{IsStrictlyIncreasing}
use Rattle.std.proofs.lemmas.Bool.{eqb-true}
use Rattle.pc_word.specs.declared.item.Item.TheVariants.{Bin, Copy, Load, Print}
use Rattle.pc_word.specs.declared.item.OpCode.TheVariants.{Add, Mul, Less}
use Rattle.pc_word.specs.declared.item.Operand.TheVariants.{Name, Lit}
use Rattle.pc_word.specs.declared.loop_mark.LoopMark.{LoopMark}
use Rattle.pc_table.specs.RegionRun.{arrive}
use Rattle.pc_table.specs.Table.{Table, TableRegion, region_tree, region_live}
use Rattle.pc_table.specs.TableKeeps.{ItemIsThere, TreeIsThere, RegionKeeps, TableKeeps, ComesUntested, By_one, By_more, untested, needs}
use Rattle.pc_replay_tests.specs.WorkedLoop.{body_tree, loop_tree, loop_region, loop_table}

no_next : (region : ℕ) → untested (region_tree loop_table region) ≡ None
no_next zero = refl
no_next (suc region) = refl

no_cycle : (from to : ℕ) → ComesUntested loop_table from to → ⊥
no_cycle from to (By_one e) = absurd (let none : None ≡ Some to = sym (no_next from) ∙ e in cc)
no_cycle from to (By_more {mid = mid} c e) = absurd (let none : None ≡ Some to = sym (no_next mid) ∙ e in cc)

false_is_not_true : false ≡ true → ⊥
false_is_not_true h = absurd (cc)

apart : (m n : ℕ) → m < n → nat_eq m n ≡ false
apart m n h = grind arith

apart_after : (m n : ℕ) → n < m → nat_eq m n ≡ false
apart_after m n h = grind arith

none_above : (y : ℕ) → 5 < y → needs loop_table loop_tree y ≡ true → ⊥
none_above y lt h =
    let e0 = apart 0 y (omega arith) in
    let e1 = apart 1 y (omega arith) in
    let e2 = apart 2 y (omega arith) in
    let e3 = apart 3 y (omega arith) in
    let e4 = apart 4 y (omega arith) in
    let e5 = apart 5 y (omega arith) in
    let f0 = apart_after y 0 (omega arith) in
    let f3 = apart_after y 3 (omega arith) in
    false_is_not_true (simp (e0, e1, e2, e3, e4, e5, f0, f3) at h)

-- the counter and the sum are needed
needed : (x : ℕ) → needs loop_table loop_tree x ≡ true → (x ≡ 0) ⊎ (x ≡ 3)
needed zero h = inl refl
needed (suc zero) h = absurd (cc)
needed (suc (suc zero)) h = absurd (cc)
needed (suc (suc (suc zero))) h = inr refl
needed (suc (suc (suc (suc zero)))) h = absurd (cc)
needed (suc (suc (suc (suc (suc zero))))) h = absurd (cc)
needed (suc (suc (suc (suc (suc (suc x)))))) h = absurd (none_above (suc (suc (suc (suc (suc (suc x)))))) (omega arith) h)

both_live : (x : ℕ) → (x ≡ 0) ⊎ (x ≡ 3) → list_any (nat_eq x) (0 ∷ 3 ∷ []) ≡ true
both_live x (inl e) = subst (λ (y : ℕ). list_any (nat_eq y) (0 ∷ 3 ∷ []) ≡ true) (sym e) refl
both_live x (inr e) = subst (λ (y : ℕ). list_any (nat_eq y) (0 ∷ 3 ∷ []) ≡ true) (sym e) refl

live : (region x : ℕ) → needs loop_table (region_tree loop_table region) x ≡ true → list_any (nat_eq x) (region_live loop_table region) ≡ true
live zero x h = both_live x (needed x h)
live (suc region) x h = absurd (cc)

small : (region x : ℕ) → list_any (nat_eq x) (region_live loop_table region) ≡ true → x < 96
small zero x e = by (nat_eq x 0) (nat_eq x 3) refl refl e
  where
    by : (b c : Bool) → nat_eq x 0 ≡ b → nat_eq x 3 ≡ c → (b || (c || false)) ≡ true → x < 96
    by true c p q h = let same = eqb-true x 0 p in omega (arith, same)
    by false true p q h = let same = eqb-true x 3 q in omega (arith, same)
    by false false p q h = absurd (cc)
small (suc region) x e = absurd (cc)

-- all that the loop names is there
body_there : TreeIsThere 1 1 body_tree
body_there =
    let product : ItemIsThere 1 (Bin Mul 4 (Lit (pos 2)) (Name 0)) = record { reads = (tt, (omega arith, tt)); writes = omega arith; array = tt } in
    let element : ItemIsThere 1 (Load 2 0 (Name 4)) = record { reads = (omega arith, tt); writes = omega arith; array = omega arith } in
    let sum : ItemIsThere 1 (Bin Add 3 (Name 3) (Name 2)) = record { reads = (omega arith, (omega arith, tt)); writes = omega arith; array = tt } in
    let copy : ItemIsThere 1 (Copy 5 (Name 0)) = record { reads = (omega arith, tt); writes = omega arith; array = tt } in
    let step : ItemIsThere 1 (Bin Add 0 (Name 5) (Lit (pos 1))) = record { reads = (omega arith, (tt, tt)); writes = omega arith; array = tt } in
    (product, (element, (sum, (copy, (step, omega arith)))))

loop_there : TreeIsThere 1 1 loop_tree
loop_there =
    let less : ItemIsThere 1 (Bin Less 1 (Name 0) (Lit (pos 50))) = record { reads = (omega arith, (tt, tt)); writes = omega arith; array = tt } in
    let print : ItemIsThere 1 (Print (Name 3)) = record { reads = (omega arith, tt); writes = tt; array = tt } in
    (less, (omega arith, body_there, (print, tt)))

region_keeps : (number : ℕ) (region : TableRegion) → slice_get loop_table.regions number ≡ Some region → RegionKeeps loop_table region
region_keeps zero region e =
    let same : loop_region ≡ region = (cc) in
    subst (RegionKeeps loop_table) same
    (record {
      there = loop_there;
      few = omega arith;
      rising = rises;
      inside_there = omega arith;
      heads_there = omega arith;
    })
  where
    rises : IsStrictlyIncreasing (0 ∷ 3 ∷ [])
    rises zero lt = omega arith
    rises (suc k) lt = absurd (omega (arith, lt))
region_keeps (suc number) region e = absurd (cc)

outer : (loop : ℕ) (mark : LoopMark) → slice_get loop_table.loops loop ≡ Some mark → IfSome mark.outer (λ outer. suc outer ≤ loop)
outer zero mark e =
    let one : LoopMark = record { line = 1; header = 0; outer = None } in
    let same : one ≡ mark = (cc) in
    subst (λ (m : LoopMark). IfSome m.outer (λ outer. suc outer ≤ 0)) same tt
outer (suc loop) mark e = absurd (cc)

pub loop_keeps : TableKeeps loop_table
loop_keeps = record {
  some_region = omega arith;
  few_arrays = omega arith;
  each = region_keeps;
  outer_first = outer;
  live = live;
  small = small;
  begins = begins;
  tested = λ region. no_cycle region region;
}
  where
    begins : (region : ℕ) → arrive loop_table (region_tree loop_table region) ≡ region_tree loop_table region
    begins zero = refl
    begins (suc region) = refl

-- and so does one that is equal to it
pub worked_made : (table : Table) → table ≡ loop_table → TableKeeps table
worked_made table is = subst TableKeeps (sym is) loop_keeps

pub ruleset worked = (worked_made)
