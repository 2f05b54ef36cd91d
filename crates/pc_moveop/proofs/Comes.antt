-- An item that may move enters the node above.
use Rattle.std.proofs.Common.{◌≡◌, ℕ, Bool, true, false, List, [], ◌∷◌, Option, Some, None, refl, sym, subst}
use Rattle.std.specs.Prelude.{◌-◌, if◌then◌else◌, nat_eq, nat_lt}
use Rattle.std.specs.List.{AllByRecursion}
use Rattle.pc_word.specs.declared.item.Item.{Item}
use Rattle.pc_word.specs.declared.item.Operand.{Operand}
use Rattle.pc_word.specs.Items.{dest_of}
use Rattle.pc_word.specs.Commit.{writes}
use Rattle.pc_linear.specs.Form.{Form}
use Rattle.pc_linear.specs.Combine.{variable_form}
use Rattle.pc_window.specs.Tree.{Tree, Front, Issued, Unfinished}
use Rattle.pc_window.specs.Names.{IsKnown, IsNew, ReadsKnown, and_dest, Scoped, Unwritten, NotWritten}
use Rattle.pc_window.specs.Conflict.{MayFollow}
use Rattle.pc_window.specs.Jump.{combined, NewForm, Without, GivesForm, Rises, EntersFront, Lands, Lands_renamed, Behind_item, On_yes, On_no}
use Rattle.pc_window.specs.Opening.{Supply, with_name, changed}
use Rattle.pc_window.specs.Filled.{given_supply, TwinsAlike}
use Rattle.pc_window.proofs.Readiness.{alike, dest_named, not_written_named}
use Rattle.pc_moveop.specs.NodeTree.{NodeTree, Item_node, Test_node, Leads_to, Leads_out, whole_tree, node_front, leaf_count}
use Rattle.pc_moveop.specs.Climbing.{Passed_item, Mover, passing, mover_in, mover_at, crosses_test}
use Rattle.pc_moveop.specs.Taking.{Coming, node_without, leaf_to, landed}
use Rattle.pc_moveop.specs.Moving.{moved_item, moved_name, coming_of}
use Rattle.pc_moveop.proofs.Legal.{ClearItem, ClearWay, clear_alike}
use Rattle.pc_moveop.proofs.Known.{IsKnownMover, known_at}
use Rattle.pc_moveop.proofs.Rising.{leaf_front, RisesKept, rises_kept, RisesNamed, rises_named}
use Rattle.pc_moveop.proofs.Paths.{whole_front}
use Rattle.pc_word.specs.Naming.{with_dest}
use Rattle.pc_window.proofs.Rising.{new_to_either}

-- it enters, and what becomes one has one tag and origin
pub record Enters (known : ℕ → Bool) (forms forms' : ℕ → Form) (new : Option ℕ) (comes : Option Item) (from to : Front) : Type 0 where
  pub enters : EntersFront known forms forms' new comes from to
  pub twins : TwinsAlike enters

follows : (forms : ℕ → Form) (x y : Item) → ClearItem forms x true y → MayFollow forms y x
follows forms x y h = record { no_store_dependence = h.order; one_effect = h.one_effect }

-- ---- with its own name

-- an item as it stands
abbrev own : Mover → Coming
own m = record { tag = m.tag; origin = m.origin; item = m.item }

module _ (forms : ℕ → Form) (base : ℕ → Bool) where
  abbrev pub EntersKept : (ℕ → Bool) → NodeTree → (Coming → NodeTree) → Option Mover → Type 0
  EntersKept known from to None = Unit {0}
  EntersKept known from to (Some m) = ClearWay forms m.item m.way → crosses_test m ≡ false → ReadsKnown base m.item → IsNew base (dest_of m.item) → Scoped known (whole_tree from)
      → Enters base forms forms None (Some m.item) (node_front from) (node_front (to (own m))) × IsNew known (dest_of m.item)

  kept_behind : (known : ℕ → Bool) (t o : ℕ) (y : Item) (rest : NodeTree) (to : Coming → NodeTree) (found : Option Mover) → EntersKept (and_dest known y) rest to found
      → EntersKept known (Item_node t o y rest) (λ c. Item_node t o y (to c)) (passing (Passed_item true o y) found)
  kept_behind known t o y rest to None h = tt
  kept_behind known t o y rest to (Some m) h = λ clear crosses reads isnew scoped. (
      let k = h clear.1 crosses reads isnew scoped.2 in
      let new = new_to_either known y (dest_of m.item) k.1 in
      (record { enters = Behind_item t o y (Some m.item) (node_front rest) (node_front (to (own m))) (follows forms m.item y clear.0, new.1) tt k.0.enters; twins = k.0.twins }, new.0)
      )

  kept_yes : (known : ℕ → Bool) (t o : ℕ) (on : Operand) (p q : NodeTree) (to : Coming → NodeTree) (found : Option Mover) → EntersKept known p to found
      → EntersKept known (Test_node t o on p q) (λ c. Test_node t o on (to c) q) found
  kept_yes known t o on p q to None h = tt
  kept_yes known t o on p q to (Some m) h = λ clear crosses reads isnew scoped. (
      let k = h clear crosses reads isnew scoped.1 in
      (record { enters = On_yes t o on (Some m.item) (node_front p) (node_front q) (node_front (to (own m))) tt k.0.enters; twins = k.0.twins }, k.1)
      )

  kept_no : (known : ℕ → Bool) (t o : ℕ) (on : Operand) (p q : NodeTree) (to : Coming → NodeTree) (found : Option Mover) → EntersKept known q to found
      → EntersKept known (Test_node t o on p q) (λ c. Test_node t o on p (to c)) found
  kept_no known t o on p q to None h = tt
  kept_no known t o on p q to (Some m) h = λ clear crosses reads isnew scoped. (
      let k = h clear crosses reads isnew scoped.2 in
      (record { enters = On_no t o on (Some m.item) (node_front p) (node_front q) (node_front (to (own m))) tt k.0.enters; twins = k.0.twins }, k.1)
      )

  kept_found : (known : ℕ → Bool) (place : ℕ) (below : NodeTree) (found : Option Mover) → RisesKept forms known (whole_tree below) (λ d. whole_tree (node_without d place below)) found
      → EntersKept known (Leads_to below) (λ c. Item_node c.tag c.origin c.item (leaf_to (node_without (dest_of c.item) place below))) found
  kept_found known place below None h = tt
  kept_found known place below (Some m) h = λ clear crosses reads isnew scoped. (
      let k = h clear crosses scoped in (
        subst (λ (f : Front). Enters base forms forms None (Some m.item) (Unfinished (whole_tree below)) (Issued m.tag m.origin m.item f))
            (sym (leaf_front (node_without (dest_of m.item) place below)))
            (record { enters = Lands m.tag m.origin m.item (whole_tree below) (whole_tree (node_without (dest_of m.item) place below)) reads isnew refl refl k.0; twins = tt }),
        k.1,
      )
      )

  pub enters_kept : (known : ℕ → Bool) (leaf place : ℕ) (t : NodeTree) → EntersKept known t (λ c. landed c leaf place t) (mover_at leaf place t)
  enters_kept known leaf place (Item_node t o y rest) =
      kept_behind known t o y rest (λ c. landed c leaf place rest) (mover_at leaf place rest) (enters_kept (and_dest known y) leaf place rest)
  enters_kept known leaf place (Test_node t o on p q) =
      elim (nat_lt leaf (leaf_count p)) as (λ b. EntersKept known (Test_node t o on p q)
      (λ c. if b then Test_node t o on (landed c leaf place p) q else Test_node t o on p (landed c (leaf - leaf_count p) place q))
      (if b then mover_at leaf place p else mover_at (leaf - leaf_count p) place q)) [
        | true ↦ kept_yes known t o on p q (λ c. landed c leaf place p) (mover_at leaf place p) (enters_kept known leaf place p)
        | false ↦ kept_no known t o on p q (λ c. landed c (leaf - leaf_count p) place q) (mover_at (leaf - leaf_count p) place q) (enters_kept known (leaf - leaf_count p) place q)
      ]
  enters_kept known leaf place (Leads_to below) =
      elim (nat_eq leaf 0) as (λ b. EntersKept known (Leads_to below)
      (λ c. if b then Item_node c.tag c.origin c.item (leaf_to (node_without (dest_of c.item) place below)) else Leads_to below)
      (if b then mover_in place below else None)) [
        | true ↦ kept_found known place below (mover_in place below) (rises_kept forms known place below)
        | false ↦ tt
      ]
  enters_kept known leaf place (Leads_out out) = tt

-- ---- with the next name

-- an item with another name
abbrev renamed_as : ℕ → Mover → Coming
renamed_as n m = record { tag = m.tag; origin = m.origin; item = with_dest n m.item }

module _ (forms forms' : ℕ → Form) (base : ℕ → Bool) (n : ℕ) where
  abbrev pub EntersNamed : NodeTree → (Coming → NodeTree) → Option Mover → Type 0
  EntersNamed from to None = Unit {0}
  EntersNamed from to (Some m) = ClearWay forms m.item m.way → crosses_test m ≡ true
      → ReadsKnown base (with_dest n m.item) → IsNew base (dest_of (with_dest n m.item)) → Unwritten n (whole_tree from)
      → GivesForm forms forms' (with_dest n m.item) (dest_of (with_dest n m.item))
      → Enters base forms forms' (dest_of (with_dest n m.item)) (Some (with_dest n m.item)) (node_front from) (node_front (to (renamed_as n m)))

  named_behind : (t o : ℕ) (y : Item) (rest : NodeTree) (to : Coming → NodeTree) (found : Option Mover) → EntersNamed rest to found
      → EntersNamed (Item_node t o y rest) (λ c. Item_node t o y (to c)) (passing (Passed_item true o y) found)
  named_behind t o y rest to None h = tt
  named_behind t o y rest to (Some m) h = λ clear crosses reads isnew free gives.
      let z = with_dest n m.item in
      let apart : IsNew (writes (dest_of y)) (dest_of z) = dest_named n m.item (IsNew (writes (dest_of y))) free.0 tt in
      let k = h clear.1 crosses reads isnew free.1 gives in
      let may = follows forms z y (clear_alike forms m.item z (alike n m.item) (Passed_item true o y ∷ []) (clear.0, tt)).0 in
      record { enters = Behind_item t o y (Some z) (node_front rest) (node_front (to (renamed_as n m))) (may, apart) apart k.enters; twins = k.twins }

  named_yes : (t o : ℕ) (on : Operand) (p q : NodeTree) (to : Coming → NodeTree) (found : Option Mover) → EntersNamed p to found
      → EntersNamed (Test_node t o on p q) (λ c. Test_node t o on (to c) q) found
  named_yes t o on p q to None h = tt
  named_yes t o on p q to (Some m) h = λ clear crosses reads isnew free gives.
      let k = h clear crosses reads isnew free.0 gives in
      let apart = subst (λ (u : Tree). NotWritten (dest_of (with_dest n m.item)) u) (sym (whole_front q)) (not_written_named n m.item (whole_tree q) free.1) in
      record { enters = On_yes t o on (Some (with_dest n m.item)) (node_front p) (node_front q) (node_front (to (renamed_as n m))) apart k.enters; twins = k.twins }

  named_no : (t o : ℕ) (on : Operand) (p q : NodeTree) (to : Coming → NodeTree) (found : Option Mover) → EntersNamed q to found
      → EntersNamed (Test_node t o on p q) (λ c. Test_node t o on p (to c)) found
  named_no t o on p q to None h = tt
  named_no t o on p q to (Some m) h = λ clear crosses reads isnew free gives.
      let k = h clear crosses reads isnew free.1 gives in
      let apart = subst (λ (u : Tree). NotWritten (dest_of (with_dest n m.item)) u) (sym (whole_front p)) (not_written_named n m.item (whole_tree p) free.0) in
      record { enters = On_no t o on (Some (with_dest n m.item)) (node_front p) (node_front q) (node_front (to (renamed_as n m))) apart k.enters; twins = k.twins }

  named_found : (place : ℕ) (below : NodeTree) (found : Option Mover) → RisesNamed forms n (whole_tree below) (λ d. whole_tree (node_without d place below)) found
      → EntersNamed (Leads_to below) (λ c. Item_node c.tag c.origin c.item (leaf_to (node_without (dest_of c.item) place below))) found
  named_found place below None h = tt
  named_found place below (Some m) h = λ clear crosses reads isnew free gives.
      let z = with_dest n m.item in
      subst (λ (f : Front). Enters base forms forms' (dest_of z) (Some z) (Unfinished (whole_tree below)) (Issued m.tag m.origin z f)) (sym (leaf_front (node_without (dest_of z) place below)))
      (record {
        enters = Lands_renamed m.tag m.origin n m.item (whole_tree below) (whole_tree (node_without (dest_of z) place below)) reads isnew refl gives
            (subst (λ (b : Bool). Rises forms m.tag m.origin m.item z b (whole_tree below) (whole_tree (node_without (dest_of z) place below))) crosses (h clear free));
        twins = tt;
      })

  pub enters_named : (leaf place : ℕ) (t : NodeTree) → EntersNamed t (λ c. landed c leaf place t) (mover_at leaf place t)
  enters_named leaf place (Item_node t o y rest) = named_behind t o y rest (λ c. landed c leaf place rest) (mover_at leaf place rest) (enters_named leaf place rest)
  enters_named leaf place (Test_node t o on p q) =
      elim (nat_lt leaf (leaf_count p)) as (λ b. EntersNamed (Test_node t o on p q)
      (λ c. if b then Test_node t o on (landed c leaf place p) q else Test_node t o on p (landed c (leaf - leaf_count p) place q))
      (if b then mover_at leaf place p else mover_at (leaf - leaf_count p) place q)) [
        | true ↦ named_yes t o on p q (λ c. landed c leaf place p) (mover_at leaf place p) (enters_named leaf place p)
        | false ↦ named_no t o on p q (λ c. landed c (leaf - leaf_count p) place q) (mover_at (leaf - leaf_count p) place q) (enters_named (leaf - leaf_count p) place q)
      ]
  enters_named leaf place (Leads_to below) =
      elim (nat_eq leaf 0) as (λ b. EntersNamed (Leads_to below)
      (λ c. if b then Item_node c.tag c.origin c.item (leaf_to (node_without (dest_of c.item) place below)) else Leads_to below)
      (if b then mover_in place below else None)) [
        | true ↦ named_found place below (mover_in place below) (rises_named forms n place below)
        | false ↦ tt
      ]
  enters_named leaf place (Leads_out out) = tt

-- ---- either way

-- the form of the next name
pub gives_next : (names : Supply) → ((y : ℕ) → Without names.next_variable (names.forms y)) → (x : Item) → dest_of x ≡ Some names.next
    → GivesForm names.forms (given_supply names (Some names.next) (Some x)).forms x (Some names.next)
gives_next names without x e = by_form (combined names.forms x)
  where
    by_form : (c : Option Form) → (form : Form) × NewForm names.forms c form × ((with_name names c).forms ≡ changed names.forms names.next form)
    by_form (Some given) = (given, refl, refl)
    by_form None = (variable_form names.next_variable, (names.next_variable, refl, without), refl)

pub gives_named : (names : Supply) → ((y : ℕ) → Without names.next_variable (names.forms y)) → (x : Item)
    → GivesForm names.forms (given_supply names (dest_of (with_dest names.next x)) (Some (with_dest names.next x))).forms (with_dest names.next x) (dest_of (with_dest names.next x))
gives_named names without x =
    let z = with_dest names.next x in
    dest_named names.next x (λ d. dest_of z ≡ d → GivesForm names.forms (given_supply names d (Some z)).forms z d) (λ e. gives_next names without z e) (λ e. refl) refl

-- what may move enters the node above, where names are known and the next name and form variable are new
pub enters : (names : Supply) (known : ℕ → Bool) (leaf place : ℕ) (t : NodeTree) (m : Mover)
    → mover_at leaf place t ≡ Some m → ClearWay names.forms m.item m.way → Scoped known (whole_tree t)
    → known names.next ≡ false → Unwritten names.next (whole_tree t) → ((y : ℕ) → Without names.next_variable (names.forms y))
    → Enters known names.forms (given_supply names (moved_name names.next m) (Some (moved_item names.next m))).forms (moved_name names.next m) (Some (moved_item names.next m))
    (node_front t) (node_front (landed (coming_of names.next m) leaf place t))
enters names known leaf place t m found clear scoped unknown free without = by_test (crosses_test m) refl
  where
    forms : ℕ → Form
    forms = names.forms

    facts : ReadsKnown known m.item × IsNew known (dest_of m.item)
    facts = (subst (IsKnownMover forms known (whole_tree t)) found (known_at forms known leaf place t)) clear scoped

    by_test : (b : Bool) → crosses_test m ≡ b
        → Enters known forms (given_supply names (if b then dest_of (with_dest names.next m.item) else None) (Some (if b then with_dest names.next m.item else m.item))).forms
        (if b then dest_of (with_dest names.next m.item) else None) (Some (if b then with_dest names.next m.item else m.item))
        (node_front t) (node_front (landed (record { tag = m.tag; origin = m.origin; item = if b then with_dest names.next m.item else m.item }) leaf place t))
    by_test true e =
        (subst (EntersNamed forms (given_supply names (dest_of (with_dest names.next m.item)) (Some (with_dest names.next m.item))).forms known names.next t (λ c. landed c leaf place t)) found
        (enters_named forms (given_supply names (dest_of (with_dest names.next m.item)) (Some (with_dest names.next m.item))).forms known names.next leaf place t))
        clear e (reads_alike facts.0) (dest_named names.next m.item (IsNew known) unknown tt) free (gives_named names without m.item)
      where
        reads_alike : ReadsKnown known m.item → ReadsKnown known (with_dest names.next m.item)
        reads_alike h = subst (λ (os : List Operand). AllByRecursion (IsKnown known) os) (sym (alike names.next m.item).operands) h
    by_test false e = ((subst (EntersKept forms known known t (λ c. landed c leaf place t)) found (enters_kept forms known known leaf place t)) clear e facts.0 facts.1 scoped).0
