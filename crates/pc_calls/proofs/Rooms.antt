-- Which slots the declarators of a frame are given, here and in the whole program: in the order of the text, and apart from those of
-- the copies that stand between them.
use Rattle.std.proofs.Common.{◌≡◌, ℕ, ◌+◌, ◌<◌, ◌≤◌, ◌⊎◌, inl, inr, Bool, true, false, Option, Some, None, refl, sym, subst, arith}
use Rattle.std.specs.Prelude.{if◌then◌else◌}
use Rattle.pc_word.proofs.Truth.{and_true, not_true}
use Rattle.pc_syntax.specs.Source.{SourceExpression, SourceStatement, SourceList, No_more, More, ScalarDeclaration}
use Rattle.pc_check.specs.Names.{Names, entered, with_scalar}
use Rattle.pc_check.specs.Faults.{names_behind, names_behind_optional, names_behind_list}
use Rattle.pc_syntax.specs.declared.unit.Target.{Target}
use Rattle.pc_syntax.specs.Unit.{UnitStatement, UnitOptional, UnitList, Block, Scalar, Array, Assign, Print, Eval, If, While, Do, For}
use Rattle.pc_syntax.specs.Unit.{Break, Continue, Return, Empty, Call, Without, With, Finish, Item}
use Rattle.pc_calls.specs.UnitNames.{with_target, unit_names_after, unit_names_after_optional, unit_names_after_list}
use Rattle.pc_calls.specs.Inline.{Site, in_one, renamed_optional, declarator_list, call_block, call_list, inlined, inlined_optional, inlined_list}
use Rattle.pc_syntax.specs.Proper.{declares_nothing, is_proper, optional_is_proper, list_is_proper}
use Rattle.pc_calls.proofs.Standing.{Fits}
use Rattle.pc_calls.proofs.AppendedLists.{names-appended, slots-grow}

-- ---- pairs of slots

-- pairs that are given between two places of the text
pub record Span (D : ℕ → ℕ → Type 0) (a b a' b' : ℕ) : Type 0 where
  pub more : a ≤ a'
  pub others : b ≤ b'
  pub range : (i j : ℕ) → D i j → (a ≤ i) × (i < a') × (b ≤ j) × (j < b')

pub span-none : (a b b' : ℕ) → b ≤ b' → Span (λ i j. ⊥) a b a b'
span-none a b b' less = record { more = omega arith; others = less; range = λ i j d. absurd d }

pub span-pair : (a b b' : ℕ) → b < b' → Span (λ i j. (i ≡ a) × (j ≡ b)) a b (a + 1) b'
span-pair a b b' less = record {
  more = omega arith;
  others = omega (arith, less);
  range = λ i j d. let e = d.0 in let e' = d.1 in (omega (arith, e), omega (arith, e), omega (arith, e'), omega (arith, e', less));
}

pub span-join : (A B : ℕ → ℕ → Type 0) (a b c d a' b' : ℕ) → Span A a b c d → Span B c d a' b' → Span (λ i j. A i j ⊎ B i j) a b a' b'
span-join A B a b c d a' b' one other =
    let x = one.more in let y = other.more in let z = one.others in let u = other.others in
    record { more = omega (arith, x, y); others = omega (arith, z, u); range = λ i j p. by i j x y z u p }
  where
    by : (i j : ℕ) → a ≤ c → c ≤ a' → b ≤ d → d ≤ b' → A i j ⊎ B i j → (a ≤ i) × (i < a') × (b ≤ j) × (j < b')
    by i j x y z u (inl p) = let r = one.range i j p in (r.0, omega (arith, r.1, y), r.2, omega (arith, r.3, u))
    by i j x y z u (inr p) = let r = other.range i j p in (omega (arith, r.0, x), r.1, omega (arith, r.2, z), r.3)

-- The watched pairs stand before these places of the text, between them or after them; in `main` what is given between them is watched.
pub record Room (in_function : Bool) (watch : ℕ → ℕ → Type 0) (high : ℕ) (D : ℕ → ℕ → Type 0) (a b a' b' : ℕ) : Type 0 where
  pub bound : b' ≤ high
  pub placed : (i j : ℕ) → watch i j → ((i < a) × (j < b)) ⊎ (D i j ⊎ ((a' ≤ i) × (b' ≤ j)))
  pub told : in_function ≡ false → (i j : ℕ) → D i j → watch i j

module _ (in_function : Bool) (watch : ℕ → ℕ → Type 0) (high : ℕ) where
  pub room-first : (A B : ℕ → ℕ → Type 0) (a b c d a' b' : ℕ) → Room in_function watch high (λ i j. A i j ⊎ B i j) a b a' b' → Span B c d a' b' → Room in_function watch high A a b c d
  room-first A B a b c d a' b' room span =
      let y = span.more in let u = span.others in let z = room.bound in
      record { bound = omega (arith, u, z); placed = λ i j w. by i j y u (room.placed i j w); told = λ main i j p. room.told main i j (inl p) }
    where
      by : (i j : ℕ) → c ≤ a' → d ≤ b' → ((i < a) × (j < b)) ⊎ ((A i j ⊎ B i j) ⊎ ((a' ≤ i) × (b' ≤ j))) → ((i < a) × (j < b)) ⊎ (A i j ⊎ ((c ≤ i) × (d ≤ j)))
      by i j y u (inl before) = inl before
      by i j y u (inr (inl (inl p))) = inr (inl p)
      by i j y u (inr (inl (inr p))) = let r = span.range i j p in inr (inr (r.0, r.2))
      by i j y u (inr (inr p)) = inr (inr (omega (arith, y, p.0), omega (arith, u, p.1)))

  pub room-rest : (A B : ℕ → ℕ → Type 0) (a b c d a' b' : ℕ) → Room in_function watch high (λ i j. A i j ⊎ B i j) a b a' b' → Span A a b c d → Room in_function watch high B c d a' b'
  room-rest A B a b c d a' b' room span =
      let y = span.more in let u = span.others in
      record { bound = room.bound; placed = λ i j w. by i j y u (room.placed i j w); told = λ main i j p. room.told main i j (inr p) }
    where
      by : (i j : ℕ) → a ≤ c → b ≤ d → ((i < a) × (j < b)) ⊎ ((A i j ⊎ B i j) ⊎ ((a' ≤ i) × (b' ≤ j))) → ((i < c) × (j < d)) ⊎ (B i j ⊎ ((a' ≤ i) × (b' ≤ j)))
      by i j y u (inl p) = inl (omega (arith, y, p.0), omega (arith, u, p.1))
      by i j y u (inr (inl (inl p))) = let r = span.range i j p in inl (r.1, r.3)
      by i j y u (inr (inl (inr p))) = inr (inl p)
      by i j y u (inr (inr p)) = inr (inr p)

  -- a declarator's slots are a pair of their own
  pub room-fresh : (a b b' : ℕ) → b < b' → Room in_function watch high (λ i j. (i ≡ a) × (j ≡ b)) a b (a + 1) b' → (i j : ℕ) → watch i j → Fits a b i j
  room-fresh a b b' less room i j w = by (room.placed i j w)
    where
      by : ((i < a) × (j < b)) ⊎ (((i ≡ a) × (j ≡ b)) ⊎ ((a + 1 ≤ i) × (b' ≤ j))) → Fits a b i j
      by (inl p) = (λ e. absurd (omega (arith, e, p.0)), λ e. absurd (omega (arith, e, p.1)))
      by (inr (inl p)) = (λ e. sym p.1, λ e. sym p.0)
      by (inr (inr p)) = (λ e. absurd (omega (arith, e, p.0)), λ e. absurd (omega (arith, e, p.1, less)))

  -- after a declarator
  pub room-after : (a b b' : ℕ) → Room in_function watch high (λ i j. (i ≡ a) × (j ≡ b)) a b (a + 1) b' → Room in_function watch high (λ i j. ⊥) (a + 1) (b + 1) (a + 1) b'
  room-after a b b' room = record { bound = room.bound; placed = λ i j w. by i j (room.placed i j w); told = λ main i j p. absurd p }
    where
      by : (i j : ℕ) → ((i < a) × (j < b)) ⊎ (((i ≡ a) × (j ≡ b)) ⊎ ((a + 1 ≤ i) × (b' ≤ j))) → ((i < a + 1) × (j < b + 1)) ⊎ (⊥ ⊎ ((a + 1 ≤ i) × (b' ≤ j)))
      by i j (inl p) = inl (omega (arith, p.0), omega (arith, p.1))
      by i j (inr (inl p)) = let e = p.0 in let e' = p.1 in inl (omega (arith, e), omega (arith, e'))
      by i j (inr (inr p)) = inr (inr p)

  -- a copy's slots are none of the watched ones
  pub room-avoid : (a b b' : ℕ) → Room in_function watch high (λ i j. ⊥) a b a b' → (i j : ℕ) → watch i j → (j < b) ⊎ (b' ≤ j)
  room-avoid a b b' room i j w = by (room.placed i j w)
    where
      by : ((i < a) × (j < b)) ⊎ (⊥ ⊎ ((a ≤ i) × (b' ≤ j))) → (j < b) ⊎ (b' ≤ j)
      by (inl p) = inl p.1
      by (inr (inl p)) = absurd p
      by (inr (inr p)) = inr p.1

-- ---- statements

-- what stands in a list in the place of a statement
abbrev pub placed_list : Site → UnitStatement → SourceList
placed_list site (Scalar symbol line initial) = declarator_list site.in_function (site.rename symbol) line (renamed_optional site.rename initial)
placed_list site (Call line target function at arguments) = call_list site target (call_block site line target (site.copies function) arguments)
placed_list site s = More (inlined site s) No_more

abbrev pub DeclaredPair : Bool → ℕ → ℕ → ℕ → ℕ → Type 0
DeclaredPair true a b i j = (i ≡ a) × (j ≡ b)
DeclaredPair false a b i j = ⊥

abbrev pub TargetPair : Option Target → ℕ → ℕ → ℕ → ℕ → Type 0
TargetPair None a b i j = ⊥
TargetPair (Some target) a b i j = DeclaredPair target.declared a b i j

unfoldable mutual
  -- the slots that a statement's declarators are given
  pub Declares : Site → UnitStatement → Names → Names → ℕ → ℕ → Type 0
  Declares site (Block items) n m i j = Declares_list site items (entered n) (entered m) i j
  Declares site (Scalar symbol line initial) n m i j = (i ≡ n.scalars) × (j ≡ m.scalars)
  Declares site (Array symbol line at length values) n m i j = ⊥
  Declares site (Assign symbol line index bracket op at value) n m i j = ⊥
  Declares site (Print line value) n m i j = ⊥
  Declares site (Eval line value) n m i j = ⊥
  Declares site (If line test body otherwise) n m i j =
      Declares site body n m i j ⊎ Declares_optional site otherwise (unit_names_after body n) (names_behind (inlined site body) m) i j
  Declares site (While line test body) n m i j = Declares site body n m i j
  Declares site (Do line body test) n m i j = Declares site body n m i j
  Declares site (For line first test step body) n m i j =
      Declares_list site first (entered n) (entered m) i j
      ⊎ (Declares_optional site step (unit_names_after_list first (entered n)) (names_behind_list (inlined_list site first) (entered m)) i j
      ⊎ Declares site body (unit_names_after_optional step (unit_names_after_list first (entered n)))
      (names_behind_optional (inlined_optional site step) (names_behind_list (inlined_list site first) (entered m))) i j)
  Declares site (Break line) n m i j = ⊥
  Declares site (Continue line) n m i j = ⊥
  Declares site (Return line value) n m i j = ⊥
  Declares site Empty n m i j = ⊥
  Declares site (Call line target function at arguments) n m i j = TargetPair target n.scalars m.scalars i j

  pub Declares_optional : Site → UnitOptional → Names → Names → ℕ → ℕ → Type 0
  Declares_optional site Without n m i j = ⊥
  Declares_optional site (With s) n m i j = Declares site s n m i j

  pub Declares_list : Site → UnitList → Names → Names → ℕ → ℕ → Type 0
  Declares_list site Finish n m i j = ⊥
  Declares_list site (Item first rest) n m i j =
      Declares site first n m i j ⊎ Declares_list site rest (unit_names_after first n) (names_behind_list (placed_list site first) m) i j

module _ (base : ℕ) (kind : Bool) (site : Site) where
  pub declarator-names : (flag : Bool) (symbol line : ℕ) (initial : Option SourceExpression) (m : Names) → (names_behind_list (declarator_list flag symbol line initial) m).scalars ≡ m.scalars + 1
  unfolding names_behind
  declarator-names true symbol line None m = refl
  declarator-names false symbol line None m = refl
  declarator-names true symbol line (Some e) m = refl
  declarator-names false symbol line (Some e) m = refl

  pub call-span : (target : Option Target) (block : SourceStatement) (n m : Names) →
      Span (TargetPair target n.scalars m.scalars) n.scalars m.scalars (with_target target n).scalars (names_behind_list (call_list site target block) m).scalars
  unfolding names_behind
  call-span None block n m = span-none n.scalars m.scalars _ (slots-grow block m)
  call-span (Some target) block n m = by target.declared
    where
      by : (d : Bool) → Span (DeclaredPair d n.scalars m.scalars) n.scalars m.scalars (if d then with_scalar n target.symbol else n).scalars
          (names_behind_list (if d then More (ScalarDeclaration (site.rename target.symbol) target.line None) (More block No_more) else More block No_more) m).scalars
      by true = let grow = slots-grow block (with_scalar m (site.rename target.symbol)) in span-pair n.scalars m.scalars _ (omega (arith, grow))
      by false = span-none n.scalars m.scalars _ (slots-grow block m)

  mutual
    unfolding Declares unit_names_after names_behind inlined is_proper

    pub part-span : (s : UnitStatement) → declares_nothing s ≡ true → is_proper base s ≡ true → (n m : Names) →
        Span (Declares site s n m) n.scalars m.scalars (unit_names_after s n).scalars (names_behind (inlined site s) m).scalars
    part-span (Block items) part proper n m = let is = list-span items proper (entered n) (entered m) in record { more = is.more; others = is.others; range = is.range }
    part-span (Scalar symbol line initial) part proper n m = cc
    part-span (Array symbol line at length values) part proper n m = cc
    part-span (Assign symbol line index bracket op at value) part proper n m = span-none n.scalars m.scalars m.scalars (omega arith)
    part-span (Print line value) part proper n m = span-none n.scalars m.scalars m.scalars (omega arith)
    part-span (Eval line value) part proper n m = span-none n.scalars m.scalars m.scalars (omega arith)
    part-span (If line test body otherwise) part proper n m =
        let one = and_true _ _ proper in
        let two = and_true _ _ one.1 in
        let three = and_true _ _ two.0 in
        span-join _ _ _ _ _ _ _ _ (part-span body three.0 three.1 n m) (optional-span otherwise two.1 (unit_names_after body n) (names_behind (inlined site body) m))
    part-span (While line test body) part proper n m = let one = and_true _ _ proper in let two = and_true _ _ one.1 in part-span body two.0 two.1 n m
    part-span (Do line body test) part proper n m = let one = and_true _ _ proper in let two = and_true _ _ one.0 in part-span body two.0 two.1 n m
    part-span (For line first test step body) part proper n m =
        let one = and_true _ _ proper in
        let two = and_true _ _ one.1 in
        let three = and_true _ _ two.1 in
        let four = and_true _ _ three.1 in
        let n1 = unit_names_after_list first (entered n) in
        let m1 = names_behind_list (inlined_list site first) (entered m) in
        let is = span-join _ _ _ _ _ _ _ _ (list-span first one.0 (entered n) (entered m)) (span-join _ _ _ _ _ _ _ _ (optional-span step three.0 n1 m1)
        (part-span body four.0 four.1 (unit_names_after_optional step n1) (names_behind_optional (inlined_optional site step) m1))) in
        record { more = is.more; others = is.others; range = is.range }
    part-span (Break line) part proper n m = span-none n.scalars m.scalars m.scalars (omega arith)
    part-span (Continue line) part proper n m = span-none n.scalars m.scalars m.scalars (omega arith)
    part-span (Return line value) part proper n m = span-none n.scalars m.scalars m.scalars (omega arith)
    part-span Empty part proper n m = span-none n.scalars m.scalars m.scalars (omega arith)
    part-span (Call line None function at arguments) part proper n m = call-span None (call_block site line None (site.copies function) arguments) n m
    part-span (Call line (Some target) function at arguments) part proper n m = by target.declared (not_true target.declared part)
      where
        by : (d : Bool) → d ≡ false → Span (DeclaredPair d n.scalars m.scalars) n.scalars m.scalars (if d then with_scalar n target.symbol else n).scalars
            (names_behind (in_one (if d then More (ScalarDeclaration (site.rename target.symbol) target.line None) (More (call_block site line (Some target) (site.copies function) arguments) No_more)
            else More (call_block site line (Some target) (site.copies function) arguments) No_more)) m).scalars
        by true is = cc
        by false is = span-none n.scalars m.scalars _ (slots-grow (call_block site line (Some target) (site.copies function) arguments) m)

    pub optional-span : (s : UnitOptional) → optional_is_proper base s ≡ true → (n m : Names) →
        Span (Declares_optional site s n m) n.scalars m.scalars (unit_names_after_optional s n).scalars (names_behind_optional (inlined_optional site s) m).scalars
    optional-span Without proper n m = span-none n.scalars m.scalars m.scalars (omega arith)
    optional-span (With s) proper n m = let both = and_true _ _ proper in part-span s both.0 both.1 n m

    pub list-span : (items : UnitList) → list_is_proper base items ≡ true → (n m : Names) →
        Span (Declares_list site items n m) n.scalars m.scalars (unit_names_after_list items n).scalars (names_behind_list (inlined_list site items) m).scalars
    list-span Finish proper n m = span-none n.scalars m.scalars m.scalars (omega arith)
    list-span (Item (Scalar symbol line initial) rest) proper n m =
        let both = and_true _ _ proper in
        let front = declarator_list site.in_function (site.rename symbol) line (renamed_optional site.rename initial) in
        let names = declarator-names site.in_function (site.rename symbol) line (renamed_optional site.rename initial) m in
        let D = Declares_list site (Item (Scalar symbol line initial) rest) n m in
        subst (λ (z : Names). Span D n.scalars m.scalars (unit_names_after_list rest (with_scalar n symbol)).scalars z.scalars) (sym (names-appended front (inlined_list site rest) m))
        (span-join _ _ _ _ _ _ _ _ (span-pair n.scalars m.scalars (names_behind_list front m).scalars (omega (arith, names)))
        (list-span rest both.1 (with_scalar n symbol) (names_behind_list front m)))
    list-span (Item (Array symbol line at length values) rest) proper n m =
        let both = and_true _ _ proper in
        span-join _ _ _ _ _ _ _ _ (span-none n.scalars m.scalars m.scalars (omega arith))
        (list-span rest both.1 (unit_names_after (Array symbol line at length values) n) (names_behind (inlined site (Array symbol line at length values)) m))
    list-span (Item (Call line target function at arguments) rest) proper n m =
        let both = and_true _ _ proper in
        let block = call_block site line target (site.copies function) arguments in
        let front = call_list site target block in
        let D = Declares_list site (Item (Call line target function at arguments) rest) n m in
        subst (λ (z : Names). Span D n.scalars m.scalars (unit_names_after_list rest (with_target target n)).scalars z.scalars) (sym (names-appended front (inlined_list site rest) m))
        (span-join _ _ _ _ _ _ _ _ (call-span target block n m) (list-span rest both.1 (with_target target n) (names_behind_list front m)))
    list-span (Item s rest) proper n m =
        let both = and_true _ _ proper in
        span-join _ _ _ _ _ _ _ _ (part-span s refl both.0 n m) (list-span rest both.1 (unit_names_after s n) (names_behind (inlined site s) m))
