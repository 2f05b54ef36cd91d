-- Each change leads to one window, so two searches that went as many steps are the same, and at most one of "closed within so
-- many" and "more than so many" is so.
use Rattle.std.proofs.Common.{◌≡◌, ℕ, suc, ◌≤◌, List, [], ◌∷◌, ◌++◌, length, length-append, ◌⊎◌, inl, inr, refl, sym, ◌∙◌, ap, subst, arith}
use Rattle.std.specs.Prelude.{Some, None, slice_get}
use Rattle.std.proofs.lemmas.Option.{slice_get_within}
use Rattle.pc_word.specs.Row.{Row, leaves_of}
use Rattle.pc_window.specs.Tree.{whole}
use Rattle.pc_window.specs.Names.{uses}
use Rattle.pc_window.specs.WindowRun.{Window}
use Rattle.pc_window.specs.Kept.{Left}
use Rattle.pc_window.specs.Steps.{Cuts, Tidies}
use Rattle.pc_window.proofs.FirstJumps.{filled_one, unwinding_one}
use Rattle.pc_canon.specs.Shift.{Shifted}
use Rattle.pc_renumber.specs.Renumbering.{renumbered}
use Rattle.pc_automaton.specs.declared.automaton.AutomatonLeaf.{AutomatonLeaf}
use Rattle.pc_automaton.specs.Automaton.{AutomatonState}
use Rattle.pc_pattern.specs.Searches.{Rules, RowFor, Settles, BringsOn, bare_leaf, IsMember, IsNoMember, Looks, looks_new, looks_known, looks_bare}
use Rattle.pc_pattern.specs.Searches.{looks_out, looks_end, looks_trap}
use Rattle.pc_pattern.specs.Searches.{Search, begins, takes, looks, IsClosed, IsReached, IsPattern, HasNoPattern}

-- ---- one after the other

module _ (rules : Rules) where
  pub settles_one : (w a b : Window) → Settles rules w a → Settles rules w b → a ≡ b
  settles_one w a b p q =
      let same = unwinding_one rules.table rules.number w p.unwound q.unwound p.unwinds q.unwinds in
      p.tidies ∙ sym (subst (λ (u : Window). Tidies u b) (sym same) q.tidies)

  pub brings_one : (w a b : Window) → BringsOn rules w a → BringsOn rules w b → a ≡ b
  brings_one w a b p q =
      let same : p.rebased ≡ q.rebased = p.rebases ∙ sym q.rebases in
      settles_one p.rebased a b p.settles (subst (λ (u : Window). Settles rules u b) (sym same) q.settles)

  pub row_one : (w : Window) (a b : Row Left) → RowFor rules w a → RowFor rules w b → a ≡ b
  row_one w a b p q =
      let same = filled_one (uses (whole w.front)) w p.filled q.filled p.fills q.fills in
      p.cuts ∙ sym (subst (λ (u : Window). Cuts rules.table u b) (sym same) q.cuts)

  known_or_new : (members : List Window) (a b : Window) → a ≡ b → IsNoMember members a → IsMember members b → ⊥
  known_or_new members a b same new known =
      new known.0 known.1 known.2 (subst (λ (u : Window). Shifted u known.1) (sym same) known.3)

  pub bare_or_not : (a b : Window) (leaf : AutomatonLeaf) → a ≡ b → bare_leaf (whole a.front) ≡ None → bare_leaf (whole b.front) ≡ Some leaf → ⊥
  bare_or_not a b leaf same items bare = let e : None ≡ Some leaf = sym items ∙ ap (λ (u : Window). bare_leaf (whole u.front)) same ∙ bare in cc

  looks_one : {members more more' : List Window} {left : Left} → Looks rules members left more → Looks rules members left more' → more ≡ more'
  looks_one {members} (looks_new {rest} {brought = a} p items new renumbers) (looks_new {brought = b} q items' new' renumbers') =
      ap (λ (u : Window). members ++ (u ∷ [])) (renumbers ∙ ap renumbered (brings_one rest a b p q) ∙ sym renumbers')
  looks_one {members} (looks_new {rest} {brought = a} p items new renumbers) (looks_known {brought = b} q items' known) =
      absurd (known_or_new members a b (brings_one rest a b p q) new known)
  looks_one {members} (looks_new {rest} {brought = a} p items new renumbers) (looks_bare {brought = b} {leaf} q bare) =
      absurd (bare_or_not a b leaf (brings_one rest a b p q) items bare)
  looks_one {members} (looks_known {rest} {brought = a} p items known) (looks_new {brought = b} q items' new renumbers) =
      absurd (known_or_new members b a (sym (brings_one rest a b p q)) new known)
  looks_one (looks_known p items known) (looks_known q items' known') = refl
  looks_one (looks_known p items known) (looks_bare q bare) = refl
  looks_one {members} (looks_bare {rest} {brought = a} {leaf} p bare) (looks_new {brought = b} q items new renumbers) =
      absurd (bare_or_not b a leaf (sym (brings_one rest a b p q)) items bare)
  looks_one (looks_bare p bare) (looks_known q items known) = refl
  looks_one (looks_bare p bare) (looks_bare q bare') = refl
  looks_one looks_out looks_out = refl
  looks_one looks_end looks_end = refl
  looks_one looks_trap looks_trap = refl

  -- two searches after as many steps
  pub record SameSearch (members others : List Window) (number number' : ℕ) (lefts lefts' : List Left) : Type 0 where
    pub windows : members ≡ others
    pub taken : number ≡ number'
    pub leaves : lefts ≡ lefts'

  same_window : (a b : Window) → Some a ≡ Some b → a ≡ b
  same_window a b e = cc

  first_same : (a b : Left) (xs ys : List Left) → a ∷ xs ≡ b ∷ ys → (a ≡ b) × (xs ≡ ys)
  first_same a b xs ys e = (cc, cc)

  pub search_one : {region steps number number' : ℕ} {members others : List Window} {lefts lefts' : List Left}
      → Search rules region steps members number lefts → Search rules region steps others number' lefts'
      → SameSearch members others number number' lefts lefts'
  search_one {region} (begins {opened} {first} p q) (begins {opened = opened'} {first = first'} p' q') =
      let same : opened ≡ opened' = p ∙ sym p' in
      record {
        windows = ap (λ (u : Window). u ∷ []) (settles_one opened first first' q (subst (λ (u : Window). Settles rules u first') (sym same) q'));
        taken = refl;
        leaves = refl;
      }
  search_one (takes {number} {members} {w} {row} s at for_w) (takes {number = number'} {members = others} {w = v} {row = row'} s' at' for_v) =
      let h = search_one s s' in
      let same = same_window w v (sym at ∙ (λ i. slice_get (h.windows i) (h.taken i)) ∙ at') in
      record {
        windows = h.windows;
        taken = ap (λ (k : ℕ). suc k) h.taken;
        leaves = ap (λ (r : Row Left). leaves_of r) (row_one w row row' for_w (subst (λ (u : Window). RowFor rules u row') (sym same) for_v));
      }
  search_one (takes s at for_w) (looks {left} {lefts} s' adds) = absurd (let e : [] ≡ left ∷ lefts = (search_one s s').leaves in cc)
  search_one (looks {left} {lefts} s adds) (takes s' at for_w) = absurd (let e : left ∷ lefts ≡ [] = (search_one s s').leaves in cc)
  search_one (looks {members} {more} {left} {lefts} s adds) (looks {members = others} {more = more'} {left = left'} {lefts = lefts'} s' adds') =
      let h = search_one s s' in
      let parts = first_same left left' lefts lefts' h.leaves in
      record {
        windows = looks_one adds (subst (λ (l : Left). Looks rules members l more') (sym parts.0)
            (subst (λ (ws : List Window). Looks rules ws left' more') (sym h.windows) adds'));
        taken = h.taken;
        leaves = parts.1;
      }

-- ---- searches grow

length_one_more : (ws : List Window) (v : Window) → length ws ≤ length (ws ++ (v ∷ []))
length_one_more ws v = omega (arith, length-append ws (v ∷ []))

looks_grows : {rules : Rules} {members more : List Window} {left : Left} → Looks rules members left more → length members ≤ length more
looks_grows {members} (looks_new {member} p items new renumbers) = length_one_more members member
looks_grows (looks_known p items known) = omega arith
looks_grows (looks_bare p bare) = omega arith
looks_grows looks_out = omega arith
looks_grows looks_end = omega arith
looks_grows looks_trap = omega arith

-- a search, some steps before, has no more members
pub record Before (rules : Rules) (region steps : ℕ) (members : List Window) : Type 0 where
  pub earlier : List Window
  pub number : ℕ
  pub lefts : List Left
  pub search : Search rules region steps earlier number lefts
  pub fewer : length earlier ≤ length members

before_of : {rules : Rules} {region : ℕ} (n : ℕ) (earlier members : List Window) → Before rules region n earlier → length earlier ≤ length members
    → Before rules region n members
before_of n earlier members b le =
    record { earlier = b.earlier; number = b.number; lefts = b.lefts; search = b.search; fewer = omega (arith, le, b.fewer) }

pub decide_less : (n m : ℕ) → (n ≤ m) ⊎ (suc m ≤ n)
decide_less n m = grind arith

before_same : {rules : Rules} {region steps number : ℕ} {members : List Window} {lefts : List Left} (n : ℕ)
    → Search rules region steps members number lefts → steps ≡ n → Before rules region n members
before_same {rules} {region} {number} {members} {lefts} n s e = record {
  earlier = members;
  number = number;
  lefts = lefts;
  search = subst (λ (k : ℕ). Search rules region k members number lefts) e s;
  fewer = omega arith;
}

pub before : {rules : Rules} {region steps number : ℕ} {members : List Window} {lefts : List Left} (n : ℕ)
    → Search rules region steps members number lefts → n ≤ steps → Before rules region n members
before n (begins p q) le = before_same n (begins p q) (omega arith)
before n (takes {steps} s at row) le = elim (decide_less n steps) [
  | inl within ↦ before n s within
  | inr beyond ↦ before_same n (takes s at row) (omega arith)
]
before n (looks {steps} {members} {more} s adds) le = elim (decide_less n steps) [
  | inl within ↦ before_of n members more (before n s within) (looks_grows adds)
  | inr beyond ↦ before_same n (looks s adds) (omega arith)
]

module _ (rules : Rules) (region : ℕ) where
  -- from where a search is closed no step leads on
  pub no_step : {steps number : ℕ} {members others : List Window} {lefts : List Left} → Search rules region steps members (length members) []
      → Search rules region (suc steps) others number lefts → ⊥
  no_step {members} closed (takes {number} {members = others} {w} s at row) =
      let h = search_one rules closed s in
      let same = ap (λ (ws : List Window). length ws) h.windows in
      let within = slice_get_within others number w at in
      omega (arith, h.taken, same, within)
  no_step closed (looks {left} {lefts} s adds) = absurd (let e : [] ≡ left ∷ lefts = (search_one rules closed s).leaves in cc)

  -- no search comes to have more members than a closed one
  closed_is_most : (members others : List Window) → IsClosed rules region members → IsReached rules region others → length others ≤ length members
  closed_is_most members others closed reached = elim (decide_less reached.0 closed.0) [
    | inl within ↦
        let b = before reached.0 closed.1 within in
        let same = ap (λ (ws : List Window). length ws) (search_one rules reached.3 b.search).windows in
        omega (arith, same, b.fewer)
    | inr beyond ↦
        let b = before (suc closed.0) reached.3 beyond in
        absurd (no_step closed.1 b.search)
  ]

  -- a search that finds a pattern within so many rows is not one that finds none
  pub one_answer : (rows : ℕ) (states : List AutomatonState) → IsPattern rules region rows states → HasNoPattern rules region rows → ⊥
  one_answer rows states p q = let most = closed_is_most p.members q.members p.closed q.reached in omega (arith, most, p.few, q.many)
