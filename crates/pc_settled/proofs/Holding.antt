-- What is found to be held at places is held there.
use Rattle.std.proofs.Common.{◌≡◌, ◌≢◌, ℕ, zero, suc, ◌+◌, ◌<◌, ◌≤◌, ◌⊎◌, inl, inr, Bool, true, false, List, [], ◌∷◌, length, Some, refl, sym, ◌∙◌, ap, subst, arith}
use Rattle.std.specs.Prelude.{slice_get}
use Rattle.pc_word.specs.declared.item.Item.{Item}
use Rattle.pc_word.specs.declared.item.Operand.{Operand}
use Rattle.pc_word.specs.declared.row_tree.RowTree.{RowTree}
use Rattle.pc_word.specs.Items.{dest_of}
use Rattle.pc_word.specs.Row.{Then, Either, At_leaf}
use Rattle.std.proofs.lemmas.Bool.{cases_eq}
use Rattle.pc_word.proofs.Places.{map_at, map_length}
use Rattle.pc_machine.specs.declared.tree.Leaf.{Leaf}
use Rattle.pc_machine.specs.MachineCode.{CodeRow, row_of, rows_of, target_of}
use Rattle.pc_settled.specs.declared.liveness.Home.{Home}
use Rattle.pc_settled.specs.declared.settling.Found.{Found}
use Rattle.pc_settled.specs.declared.settling.Pair.{Pair}
use Rattle.pc_settled.specs.declared.settling.HeldAbove.{HeldAbove}
use Rattle.pc_settled.specs.Needed.{Needs}
use Rattle.pc_settled.specs.Webs.{Value, At, AreOneWeb, Turned, Joined}
use Rattle.pc_settled.specs.Settled.{Path, Down, Yes_side, No_side, Ends, HoldsAtEnd, Led_to, Written, Lower, Yes_holds, No_holds}
use Rattle.pc_settled.specs.Settled.{is_row_of_copies, AreItemsDue, Settled, Place, Entry, End, IsWebHeld, IsDue}
use Rattle.pc_settled.specs.models.Sets.{member, set_at}
use Rattle.pc_settled.specs.models.Found.{LeadsTo, FindsBelow, value_in}
use Rattle.pc_settled.specs.models.Holding.{IsFound, web_in, NeedsOf, HoldsAtEntry, GivesWeb, LeafHolds, EndHolds, HoldBoth, HeldTogether}
use Rattle.pc_settled.proofs.Needs.{leads_by_goto}

-- a node of a row
pub node_holds : (found : Found) (number node web : ℕ) (home : Home) → value_in found.live.homes.items node ≡ At home.row home.register → home.row ≡ number
    → home.register < 256 → true ≡ member (set_at found.live.rows.items number) home.register
    → LeadsTo found.sets.up.items node web → HoldsAtEntry found number web
node_holds found number node web home is of_row small has leads = record {
  holds = λ rows good. record {
    register = home.register;
    needs = good.needed.needed number home.register small (sym has);
    one_web = subst (λ (v : Value). AreOneWeb rows v (web_in found web)) (is ∙ ap (λ n. At n home.register) of_row) (leads.leads rows found.live.homes.items good.joined);
  };
}

-- what an item gives
pub item_gives : (found : Found) (item : Item) (below : CodeRow) (dest node web : ℕ) → dest_of item ≡ Some dest → FindsBelow found.live below dest node
    → LeadsTo found.sets.up.items node web → GivesWeb found item below web
item_gives found item below dest node web is given leads = record {
  gives = λ rows good.
      let there = given.found rows good.needed in
      record {
        dest = dest;
        to = there.to;
        is = is;
        passes = there.passes;
        one_web = subst (λ (v : Value). AreOneWeb rows v (web_in found web)) there.is (leads.leads rows found.live.homes.items good.joined);
      };
}

-- what the row behind a leaf needs
pub leaf_needs : (found : Found) (leaf : Leaf) (to web : ℕ) → target_of leaf ≡ Some to → HoldsAtEntry found to web → LeafHolds found leaf web
leaf_needs found leaf to web leads holds = record { to = to; leads = leads; holds = holds }

-- ---- at the end of a path

-- a web that is held by an item above, or by what is left
abbrev HeldBy : Found → (row : CodeRow) → Path row → Bool → ℕ → Type 0
HeldBy found row path above web = (above ≡ true) ⊎ ((rows : List CodeRow) → IsFound rows found → EndHolds rows row path (web_in found web))

module _ (found : Found) where
  -- past an item
  held_past : (item : Item) (row : CodeRow) (path : Path row) (above with_item : Bool) (web : ℕ)
      → (with_item ≡ true → (above ≡ true) ⊎ GivesWeb found item row web) → HeldBy found row path with_item web → HeldBy found (Then item row) (Down path) above web
  held_past item row path above with_item web tells (inl is) = elim (tells is) [
    | inl before ↦ inl before
    | inr given ↦ inr (λ rows good.
        let gives = given.gives rows good in
        record { value = At gives.to gives.dest; held = Written gives.is gives.passes; one_web = gives.one_web })
  ]
  held_past item row path above with_item web tells (inr held) = inr (λ rows good.
      let lower = held rows good in
      record { value = lower.value; held = Lower lower.held; one_web = lower.one_web })

  held_yes : (on : Operand) (on_yes on_no : CodeRow) (path : Path on_yes) (above : Bool) (web : ℕ) → HeldBy found on_yes path above web
      → HeldBy found (Either on on_yes on_no) (Yes_side path) above web
  held_yes on on_yes on_no path above web (inl is) = inl is
  held_yes on on_yes on_no path above web (inr held) = inr (λ rows good.
      let lower = held rows good in
      record { value = lower.value; held = Yes_holds lower.held; one_web = lower.one_web })

  held_no : (on : Operand) (on_yes on_no : CodeRow) (path : Path on_no) (above : Bool) (web : ℕ) → HeldBy found on_no path above web
      → HeldBy found (Either on on_yes on_no) (No_side path) above web
  held_no on on_yes on_no path above web (inl is) = inl is
  held_no on on_yes on_no path above web (inr held) = inr (λ rows good.
      let lower = held rows good in
      record { value = lower.value; held = No_holds lower.held; one_web = lower.one_web })

  -- a leaf that leads somewhere holds what is needed there
  leaf_ends : (rows : List CodeRow) (leaf : Leaf) (to register : ℕ) → target_of leaf ≡ Some to → Needs rows to register
      → HoldsAtEnd rows (At_leaf leaf) Ends (At to register)
  leaf_ends rows leaf to register leads needs =
      subst (λ (l : Leaf). HoldsAtEnd rows (At_leaf l) Ends (At to register)) (sym (leads_by_goto leaf to leads)) (Led_to needs)

  held_leaf : (leaf : Leaf) (above : Bool) (web : ℕ) → (above ≡ true) ⊎ LeafHolds found leaf web → HeldBy found (At_leaf leaf) Ends above web
  held_leaf leaf above web (inl is) = inl is
  held_leaf leaf above web (inr holds) = inr (λ rows good.
      let needs = holds.holds.holds rows good in
      record { value = At holds.to needs.register; held = leaf_ends rows leaf holds.to needs.register holds.leads needs.needs; one_web = needs.one_web })

  pub both_past : (tree next : RowTree Leaf) (item : Item) (pair : Pair) (above : HeldAbove) (one other : Bool) → row_of tree ≡ Then item (row_of next)
      → (one ≡ true → (above.one ≡ true) ⊎ GivesWeb found item (row_of next) pair.one)
      → (other ≡ true → (above.other ≡ true) ⊎ GivesWeb found item (row_of next) pair.other)
      → HoldBoth found (row_of next) pair (record { one = one; other = other }) → HoldBoth found (row_of tree) pair above
  both_past tree next item pair above one other is first second both = rw is (record {
    path = Down both.path;
    one = held_past item (row_of next) both.path above.one one pair.one first both.one;
    other = held_past item (row_of next) both.path above.other other pair.other second both.other;
  })

  pub both_yes : (tree yes_side no_side : RowTree Leaf) (on : Operand) (pair : Pair) (above : HeldAbove) → row_of tree ≡ Either on (row_of yes_side) (row_of no_side)
      → HoldBoth found (row_of yes_side) pair above → HoldBoth found (row_of tree) pair above
  both_yes tree yes_side no_side on pair above is both = rw is (record {
    path = Yes_side both.path;
    one = held_yes on (row_of yes_side) (row_of no_side) both.path above.one pair.one both.one;
    other = held_yes on (row_of yes_side) (row_of no_side) both.path above.other pair.other both.other;
  })

  pub both_no : (tree yes_side no_side : RowTree Leaf) (on : Operand) (pair : Pair) (above : HeldAbove) → row_of tree ≡ Either on (row_of yes_side) (row_of no_side)
      → HoldBoth found (row_of no_side) pair above → HoldBoth found (row_of tree) pair above
  both_no tree yes_side no_side on pair above is both = rw is (record {
    path = No_side both.path;
    one = held_no on (row_of yes_side) (row_of no_side) both.path above.one pair.one both.one;
    other = held_no on (row_of yes_side) (row_of no_side) both.path above.other pair.other both.other;
  })

  pub both_leaf : (tree : RowTree Leaf) (leaf : Leaf) (pair : Pair) (above : HeldAbove) → row_of tree ≡ At_leaf leaf
      → (above.one ≡ true) ⊎ LeafHolds found leaf pair.one → (above.other ≡ true) ⊎ LeafHolds found leaf pair.other → HoldBoth found (row_of tree) pair above
  both_leaf tree leaf pair above is first second = rw is (record {
    path = Ends;
    one = held_leaf leaf above.one pair.one first;
    other = held_leaf leaf above.other pair.other second;
  })

  -- ---- at one place

  -- at the beginning of a row
  pub held_at_entry : (rows : List CodeRow) (number : ℕ) (pair : Pair) → HoldsAtEntry found number pair.one → HoldsAtEntry found number pair.other
      → HeldTogether rows found pair
  held_at_entry rows number pair first second = record {
    held = λ good. record {
      place = Entry number;
      first = at (web_in found pair.one) (first.holds rows good);
      second = at (web_in found pair.other) (second.holds rows good);
    };
  }
    where
      at : (web : Value) → NeedsOf rows number web → IsWebHeld rows (Entry number) web
      at web needs = record { other = At number needs.register; held = (refl, needs.needs); one_web = needs.one_web }

  -- at the end of a path
  pub held_at_end : (trees : List (RowTree Leaf)) (number : ℕ) (tree : RowTree Leaf) (pair : Pair) → slice_get trees number ≡ Some tree
      → HoldBoth found (row_of tree) pair (record { one = false; other = false }) → HeldTogether (rows_of trees) found pair
  held_at_end trees number tree pair there both = record {
    held = λ good. record {
      place = End number (row_of tree) (map_at row_of trees number tree there) both.path;
      first = at good (web_in found pair.one) both.one;
      second = at good (web_in found pair.other) both.other;
    };
  }
    where
      at : IsFound (rows_of trees) found → (web : Value)
          → (false ≡ true) ⊎ ((rows : List CodeRow) → IsFound rows found → EndHolds rows (row_of tree) both.path web)
          → IsWebHeld (rows_of trees) (End number (row_of tree) (map_at row_of trees number tree there) both.path) web
      at good web (inl never) = absurd (cc)
      at good web (inr holds) = let held = holds (rows_of trees) good in record { other = held.value; held = held.held; one_web = held.one_web }

  -- ---- a copy

  -- a web is held where another value of it is
  held_alike : (rows : List CodeRow) (place : Place rows) (web value : Value) → AreOneWeb rows value web → IsWebHeld rows place web → IsWebHeld rows place value
  held_alike rows place web value alike held = record { other = held.other; held = held.held; one_web = Joined held.one_web (Turned alike) }

  pub copy_is_due : (rows : List CodeRow) (number dest from made source : ℕ) (below : CodeRow) (pair : Pair) → dest ≢ from
      → FindsBelow found.live below dest made → value_in found.live.homes.items source ≡ At number from
      → LeadsTo found.sets.up.items made pair.one → LeadsTo found.sets.up.items source pair.other
      → HeldTogether rows found pair → IsFound rows found → IsDue rows number dest from below
  copy_is_due rows number dest from made source below pair apart given source_is made_leads source_leads together good =
      let there = given.found rows good.needed in
      let held = together.held good in
      let of_dest : AreOneWeb rows (At there.to dest) (web_in found pair.one) =
      subst (λ (v : Value). AreOneWeb rows v (web_in found pair.one)) there.is (made_leads.leads rows found.live.homes.items good.joined) in
      let of_source : AreOneWeb rows (At number from) (web_in found pair.other) =
      subst (λ (v : Value). AreOneWeb rows v (web_in found pair.other)) source_is (source_leads.leads rows found.live.homes.items good.joined) in
      record {
        apart = apart;
        to = there.to;
        given = there.passes;
        place = held.place;
        source = held_alike rows held.place (web_in found pair.other) (At number from) of_source held.second;
        destination = held_alike rows held.place (web_in found pair.one) (At there.to dest) of_dest held.first;
      }

-- ---- the rows

-- the rows below a number are settled
abbrev pub SettledBelow : List CodeRow → ℕ → Type 0
SettledBelow rows count = (number : ℕ) (row : CodeRow) → number < count → slice_get rows number ≡ Some row → is_row_of_copies row ≡ true → AreItemsDue rows number row

-- one row more
pub one_more_settled : (trees : List (RowTree Leaf)) (at row : ℕ) (tree : RowTree Leaf) → slice_get trees at ≡ Some tree → row ≡ at
    → (is_row_of_copies (row_of tree) ≡ true → AreItemsDue (rows_of trees) row (row_of tree)) → SettledBelow (rows_of trees) at → SettledBelow (rows_of trees) (at + 1)
one_more_settled trees at row tree there same due before number code below stands copies = either (cases_eq number at)
  where
    either : (number ≡ at) ⊎ (number ≢ at) → AreItemsDue (rows_of trees) number code
    either (inl is) =
        let here : slice_get (rows_of trees) at ≡ Some code = subst (λ (n : ℕ). slice_get (rows_of trees) n ≡ Some code) is stands in
        let both : Some (row_of tree) ≡ Some code = sym (map_at row_of trees at tree there) ∙ here in
        let code_is : row_of tree ≡ code = (cc) in
        subst (λ (n : ℕ). AreItemsDue (rows_of trees) n code) (same ∙ sym is)
        (subst (λ (r : CodeRow). AreItemsDue (rows_of trees) row r) code_is (due (subst (λ (r : CodeRow). is_row_of_copies r ≡ true) (sym code_is) copies)))
    either (inr other) = before number code (omega (arith, other, below)) stands copies

-- what stands in a list stands within it
within : {X : Type 0} (xs : List X) (at : ℕ) (x : X) → slice_get xs at ≡ Some x → at < length xs
within [] at x e = absurd (cc)
within (y ∷ xs) zero x e = omega arith
within (y ∷ xs) (suc at) x e = let rest = within xs at x e in omega (arith, rest)

-- all rows
pub all_settled : (trees : List (RowTree Leaf)) (count : ℕ) → length trees ≤ count → SettledBelow (rows_of trees) count → Settled (rows_of trees)
all_settled trees count all below number row stands copies =
    let there = within (rows_of trees) number row stands in
    let long = map_length row_of trees in
    below number row (omega (arith, there, long, all)) stands copies

pub ruleset both_laws = (both_past, both_yes, both_no, both_leaf)

pub ruleset place_laws = (held_at_entry, held_at_end)
