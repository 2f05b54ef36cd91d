-- Homes in a list by variable.
use Rattle.std.proofs.Common.{◌≡◌, ℕ, zero, suc, ◌+◌, ◌<◌, List, [], ◌∷◌, ◌++◌, length, refl, sym, ◌∙◌, ap, arith, get_or-set_same, get_or-set_other}
use Rattle.std.specs.Prelude.{pos, Bool, true, false, if◌then◌else◌, nat_eq, nat_lt, replicate, slice_index, slice_index_or, slice_set, take}
use Rattle.std.proofs.lemmas.List.{set-set, set-get_or}
use Rattle.pc_word.specs.declared.item.Operand.{Operand}
use Rattle.pc_word.specs.declared.item.Operand.TheVariants.{Name, Lit}
use Rattle.pc_window.specs.declared.home.Home.{Home}
use Rattle.pc_window.specs.Opening.{changed, homes_at}
use Rattle.pc_window.specs.StoredWindow.{homes_in}
use Rattle.pc_window.specs.models.Stored.{homes_before}

-- one home that is moved
pub home_moved : (homes : List Operand) (variable : ℕ) (home : Operand) → variable < length homes
    → homes_in (slice_set homes variable home) ≡ changed (homes_in homes) variable home
home_moved homes variable home within = λ i x. at x i
  where
    at : (x : ℕ) → homes_in (slice_set homes variable home) x ≡ changed (homes_in homes) variable home x
    at x = by_test (nat_eq variable x) refl
      where
        same : nat_eq variable x ≡ true → variable ≡ x
        same e = grind arith

        other : nat_eq variable x ≡ false → x ≡ variable → ⊥
        other e f = absurd (grind arith)

        by_test : (b : Bool) → nat_eq variable x ≡ b → homes_in (slice_set homes variable home) x ≡ (if b then home else homes_in homes x)
        by_test true e = ap (homes_in (slice_set homes variable home)) (sym (same e)) ∙ get_or-set_same homes variable home (Lit (pos 0)) within
        by_test false e = get_or-set_other homes variable x home (Lit (pos 0)) (other e)

-- a home that comes back
pub home_put_back : (homes : List Operand) (variable : ℕ) (home other : Operand) → slice_set (slice_set homes variable home) variable (slice_index_or homes variable other) ≡ homes
home_put_back homes variable home other = set-set homes variable home (slice_index_or homes variable other) ∙ set-get_or homes variable other

-- the homes of one variable more
pub homes_more : (homes : ℕ → Operand) (variables : List ℕ) (at : ℕ) → at < length variables
    → homes_at homes (take at variables) ++ (record { variable = slice_index variables at; value = homes (slice_index variables at) }) ∷ []
    ≡ homes_at homes (take (suc at) variables)
homes_more homes [] at within = absurd (omega arith)
homes_more homes (v ∷ variables) zero within = refl
homes_more homes (v ∷ variables) (suc at) within =
    ap (λ (list : List Home). record { variable = v; value = homes v } ∷ list) (homes_more homes variables at (omega arith))

-- the same where the list is written
pub home_added : (homes : List Operand) (variables : List ℕ) (at : ℕ) (list new : List Home) (value : Operand) → list ≡ homes_at (homes_in homes) (take at variables)
    → value ≡ homes_in homes (slice_index variables at) → new ≡ list ++ (record { variable = slice_index variables at; value = value }) ∷ []
    → at < length variables → new ≡ homes_at (homes_in homes) (take (at + 1) variables)
home_added homes variables at list new value is here pushed within =
    let next : suc at ≡ at + 1 = omega arith in
    pushed
    ∙ (λ i. is i ++ (record { variable = slice_index variables at; value = here i }) ∷ [])
    ∙ homes_more (homes_in homes) variables at within
    ∙ ap (λ (n : ℕ). homes_at (homes_in homes) (take n variables)) next

-- the homes of all variables
pub homes_all : (list : List Home) (homes : ℕ → Operand) (variables : List ℕ) → list ≡ homes_at homes (take (length variables) variables) → list ≡ homes_at homes variables
homes_all list homes variables is = is ∙ ap (homes_at homes) (whole variables)
  where
    whole : (xs : List ℕ) → take (length xs) xs ≡ xs
    whole [] = refl
    whole (x ∷ xs) = ap (λ (ys : List ℕ). x ∷ ys) (whole xs)

-- ---- the first homes

-- at first no variable has a name
pub none_yet : (n : ℕ) → homes_in (replicate n (Lit (pos 0))) ≡ homes_before 0
none_yet n = λ i x. at n x i
  where
    above : (x : ℕ) → false ≡ nat_lt x 0
    above x = grind arith

    at : (n x : ℕ) → homes_in (replicate n (Lit (pos 0))) x ≡ homes_before 0 x
    at zero x = ap (λ (b : Bool). if b then Name x else Lit (pos 0)) (above x)
    at (suc n) zero = ap (λ (b : Bool). if b then Name zero else Lit (pos 0)) (above zero)
    at (suc n) (suc x) = at n x ∙ ap (λ (b : Bool). if b then Name x else Lit (pos 0)) (sym (above x)) ∙ ap (λ (b : Bool). if b then Name (suc x) else Lit (pos 0)) (above (suc x))

-- one variable more
pub named_more : (homes : List Operand) (n : ℕ) → n < length homes → homes_in homes ≡ homes_before n → homes_in (slice_set homes n (Name n)) ≡ homes_before (n + 1)
named_more homes n within is = home_moved homes n (Name n) within ∙ (λ i x. at x i)
  where
    at : (x : ℕ) → (if nat_eq n x then Name n else homes_in homes x) ≡ homes_before (n + 1) x
    at x = ap (λ (h : ℕ → Operand). if nat_eq n x then Name n else h x) is ∙ by_test (nat_eq n x) refl
      where
        same : nat_eq n x ≡ true → (n ≡ x) × (true ≡ nat_lt x (n + 1))
        same e = let s : n ≡ x = grind arith in (s, grind arith)

        other : nat_eq n x ≡ false → nat_lt x n ≡ nat_lt x (n + 1)
        other e = by_order (nat_lt x n) refl
          where
            by_order : (b : Bool) → nat_lt x n ≡ b → b ≡ nat_lt x (n + 1)
            by_order true p = grind arith
            by_order false p = grind arith

        by_test : (b : Bool) → nat_eq n x ≡ b → (if b then Name n else if nat_lt x n then Name x else Lit (pos 0)) ≡ (if nat_lt x (n + 1) then Name x else Lit (pos 0))
        by_test true e = let s = same e in ap Name s.0 ∙ ap (λ (b : Bool). if b then Name x else Lit (pos 0)) s.1
        by_test false e = ap (λ (b : Bool). if b then Name x else Lit (pos 0)) (other e)

pub ruleset first_homes = (none_yet, named_more)

pub ruleset homes = (home_moved, home_put_back, homes_more, homes_all)
