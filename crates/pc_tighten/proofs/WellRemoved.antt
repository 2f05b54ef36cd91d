-- A removal keeps a code well formed.
use Rattle.std.proofs.Common.{◌≡◌, ℕ, zero, suc, ◌≤◌, ◌<◌, Bool, true, false, List, [], ◌∷◌, ◌++◌, map, length, Some, refl, sym, ◌∙◌, ap, subst, arith}
use Rattle.std.specs.Prelude.{◌≢◌, if◌then◌else◌, nat_eq, slice_get}
use Rattle.std.specs.List.{AllByRecursion, count_by}
use Rattle.std.proofs.lemmas.Bool.Decides.{nat_tests}
use Rattle.pc_word.specs.declared.item.Item.{Item}
use Rattle.pc_word.specs.declared.item.Operand.{Operand}
use Rattle.pc_machine.specs.declared.tree.Leaf.TheVariants.{Goto, Stop, Trap}
use Rattle.pc_machine.specs.MachineCode.{CodeRow, RowCode}
use Rattle.pc_word.specs.Row.{Then, Either, At_leaf, items_of, tests_of, leaves_of, paths_of}
use Rattle.pc_word.specs.Items.{is_memory}
use Rattle.pc_machine.specs.WellFormed.{IsOperand, IsItem, IsLeaf, IsPath, IsRow, WellFormed}
use Rattle.pc_word.proofs.Lists.{all_front, all_back, all_both, all_imply, map_of_all, all_at}
use Rattle.pc_tighten.specs.Removals.{shifted, sent, sent_row, without_row, removed, IsGotoAlone}

shifted-below : (t row n : ℕ) → row ≢ t → row < suc n → t < suc n → shifted t row < n
shifted-below zero zero n apart a b = absurd (apart refl)
shifted-below zero (suc row) n apart a b = omega arith
shifted-below (suc t) zero n apart a b = omega arith
shifted-below (suc t) (suc row) zero apart a b = absurd (omega arith)
shifted-below (suc t) (suc row) (suc n) apart a b =
    let h = shifted-below t row n (λ e. apart (ap suc e)) (omega arith) (omega arith) in omega arith

sent-below : (t u row n : ℕ) → u ≢ t → u < suc n → t < suc n → row < suc n → sent t u row < n
sent-below t u row n apart a b c = by_test (nat_eq row t) refl
  where
    by_test : (e : Bool) → nat_eq row t ≡ e → (if e then shifted t u else shifted t row) < n
    by_test true is = shifted-below t u n apart a b
    by_test false is = let other : row ≢ t = grind (arith, nat_tests) in shifted-below t row n other c b

pub sent-items : (t u : ℕ) (row : CodeRow) → items_of (sent_row t u row) ≡ items_of row
sent-items t u (Then item rest) = ap (λ (l : List Item). item ∷ l) (sent-items t u rest)
sent-items t u (Either on on_yes on_no) = ap (λ (l : List Item). l ++ items_of (sent_row t u on_no)) (sent-items t u on_yes) ∙ ap (λ (l : List Item). items_of on_yes ++ l) (sent-items t u on_no)
sent-items t u (At_leaf leaf) = refl

pub sent-tests : (t u : ℕ) (row : CodeRow) → tests_of (sent_row t u row) ≡ tests_of row
sent-tests t u (Then item rest) = sent-tests t u rest
sent-tests t u (Either on on_yes on_no) = ap (λ (l : List Operand). on ∷ (l ++ tests_of (sent_row t u on_no))) (sent-tests t u on_yes)
    ∙ ap (λ (l : List Operand). on ∷ (tests_of on_yes ++ l)) (sent-tests t u on_no)
sent-tests t u (At_leaf leaf) = refl

sent-paths : (t u : ℕ) (row : CodeRow) → paths_of (sent_row t u row) ≡ paths_of row
sent-paths t u (Then item rest) = ap (λ (l : List (List Item)). map (λ path. item ∷ path) l) (sent-paths t u rest)
sent-paths t u (Either on on_yes on_no) = ap (λ (l : List (List Item)). l ++ paths_of (sent_row t u on_no)) (sent-paths t u on_yes)
    ∙ ap (λ (l : List (List Item)). paths_of on_yes ++ l) (sent-paths t u on_no)
sent-paths t u (At_leaf leaf) = refl

sent-leaves : (t u n : ℕ) (row : CodeRow) → ((i : ℕ) → i < suc n → sent t u i < n)
    → AllByRecursion (IsLeaf (suc n)) (leaves_of row) → AllByRecursion (IsLeaf n) (leaves_of (sent_row t u row))
sent-leaves t u n (Then item rest) low h = sent-leaves t u n rest low h
sent-leaves t u n (Either on on_yes on_no) low h =
    all_both (IsLeaf n) (leaves_of (sent_row t u on_yes)) (leaves_of (sent_row t u on_no))
    (sent-leaves t u n on_yes low (all_front (IsLeaf (suc n)) (leaves_of on_yes) (leaves_of on_no) h))
    (sent-leaves t u n on_no low (all_back (IsLeaf (suc n)) (leaves_of on_yes) (leaves_of on_no) h))
sent-leaves t u n (At_leaf (Goto row)) low h = (low row h.0, tt)
sent-leaves t u n (At_leaf Stop) low h = (tt, tt)
sent-leaves t u n (At_leaf (Trap kind line)) low h = (tt, tt)

without-length : (t : ℕ) (row : CodeRow) (rows : List CodeRow) → slice_get rows t ≡ Some row → length rows ≡ suc (length (without_row t rows))
without-length t row [] e = absurd (cc)
without-length zero row (r ∷ rows) e = refl
without-length (suc t) row (r ∷ rows) e = ap suc (without-length t row rows e)

within : (t : ℕ) (row : CodeRow) (rows : List CodeRow) → slice_get rows t ≡ Some row → t < length rows
within t row [] e = absurd (cc)
within zero row (r ∷ rows) e = omega arith
within (suc t) row (r ∷ rows) e = let h = within t row rows e in omega arith

without-all : (P : CodeRow → Type 0) (t : ℕ) (rows : List CodeRow) → AllByRecursion P rows → AllByRecursion P (without_row t rows)
without-all P t [] h = tt
without-all P zero (r ∷ rows) h = h.1
without-all P (suc t) (r ∷ rows) h = (h.0, without-all P t rows h.1)

module _ (code : RowCode) (well : WellFormed code) (t u : ℕ) (may : IsGotoAlone code.rows t u) where
  abbrev left : ℕ
  left = length (without_row t code.rows)

  one_less : length code.rows ≡ suc left
  one_less = without-length t (At_leaf (Goto u)) code.rows may.at

  leads_inside : u < length code.rows
  leads_inside = (all_at (IsRow code.limits code.registers (length code.arrays) (length code.rows)) code.rows t (At_leaf (Goto u)) well.rows may.at).leaves.0

  stays_inside : (i : ℕ) → i < suc left → sent t u i < left
  stays_inside i low =
      let a = leads_inside in
      let b = within t (At_leaf (Goto u)) code.rows may.at in
      let c = one_less in
      sent-below t u i left may.not_itself (omega arith) (omega arith) low

  is_sent : (row : CodeRow) → IsRow code.limits code.registers (length code.arrays) (suc left) row → IsRow code.limits code.registers (length code.arrays) left (sent_row t u row)
  is_sent row is = record {
    ops = subst (λ (l : List Item). length l ≤ code.limits.ops) (sym (sent-items t u row)) is.ops;
    tests = subst (λ (l : List Operand). length l ≤ code.limits.tests) (sym (sent-tests t u row)) is.tests;
    mem = subst (λ (l : List Item). count_by is_memory l ≤ code.limits.mem) (sym (sent-items t u row)) is.mem;
    items = subst (λ (l : List Item). AllByRecursion (IsItem code.registers (length code.arrays)) l) (sym (sent-items t u row)) is.items;
    operands = subst (λ (l : List Operand). AllByRecursion (IsOperand code.registers) l) (sym (sent-tests t u row)) is.operands;
    leaves = sent-leaves t u left row stays_inside is.leaves;
    paths = subst (λ (l : List (List Item)). AllByRecursion IsPath l) (sym (sent-paths t u row)) is.paths;
  }

  same_length : length (removed code t u).rows ≡ left
  same_length = map_length (without_row t code.rows)
    where
      map_length : (rows : List CodeRow) → length (map (sent_row t u) rows) ≡ length rows
      map_length [] = refl
      map_length (r ∷ rows) = ap suc (map_length rows)

  pub removal_keeps_form : WellFormed (removed code t u)
  removal_keeps_form = record {
    limits = well.limits;
    registers = well.registers;
    arrays = well.arrays;
    initial = well.initial;
    entry = (
        let a = within t (At_leaf (Goto u)) code.rows may.at in
        let b = one_less in
        let c = same_length in
        let d = may.not_entry in
        omega arith);
    rows = subst (λ (n : ℕ). AllByRecursion (IsRow code.limits code.registers (length code.arrays) n) (removed code t u).rows) (sym same_length)
        (map_of_all (IsRow code.limits code.registers (length code.arrays) left) (sent_row t u) (without_row t code.rows)
        (all_imply (IsRow code.limits code.registers (length code.arrays) (suc left))
        (λ row. IsRow code.limits code.registers (length code.arrays) left (sent_row t u row)) (without_row t code.rows) is_sent
        (without-all (IsRow code.limits code.registers (length code.arrays) (suc left)) t code.rows
        (subst (λ (n : ℕ). AllByRecursion (IsRow code.limits code.registers (length code.arrays) n) code.rows) one_less well.rows))));
  }
