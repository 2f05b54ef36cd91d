-- The row that the code makes of a cut row is the row of a state: its leaves lead on, and each place that writes a name has one
-- of its own.
use Rattle.std.proofs.Common.{◌≡◌, ℕ, suc, ◌+◌, ◌≤◌, ◌<◌, List, [], ◌∷◌, ◌++◌, length, length-append, ◌⊎◌, inl, inr, refl, sym, ◌∙◌, ap, zero-add}
use Rattle.std.proofs.Common.{subst, arith}
use Rattle.std.specs.Prelude.{Bool, true, false, not, ◌&&◌, ◌||◌, if◌then◌else◌, nat_eq, Option, Some, None, IfSome}
use Rattle.std.specs.List.{AllByRecursion, IsDistinct, cons_option}
use Rattle.std.proofs.lemmas.Bool.{eqb-true, eq-eqb}
use Rattle.std.proofs.lemmas.List.Elements.{filter_map-append}
use Rattle.pc_word.specs.declared.item.Item.{Item}
use Rattle.pc_word.specs.declared.item.Item.TheVariants.{Bin, Copy, Load, Store, Print, Read, More}
use Rattle.pc_word.specs.declared.item.Operand.{Operand}
use Rattle.pc_word.specs.declared.item.Operand.TheVariants.{Name, Lit}
use Rattle.pc_word.specs.Items.{dest_of}
use Rattle.pc_word.specs.Commit.{writes}
use Rattle.pc_word.specs.Row.{Row, Then, Either, At_leaf, items_of}
use Rattle.pc_word.proofs.Lists.{all_both, all_imply}
use Rattle.pc_table.specs.Table.{Table}
use Rattle.pc_table.specs.TableKeeps.{TableKeeps}
use Rattle.pc_window.specs.declared.home.Home.{Home}
use Rattle.pc_window.specs.Tree.{Tree, Pending, Undecided, Exit, Stop_exit, Trap_exit, Front, Issued, Split, Unfinished, whole}
use Rattle.pc_window.specs.Names.{uses, IsKnown, HomesKnown, and_dest, Scoped, parameters_of}
use Rattle.pc_table.specs.Loops.{is_inside}
use Rattle.pc_window.specs.Rebasing.{is_in}
use Rattle.pc_window.specs.WindowRun.{Window}
use Rattle.pc_window.specs.Kept.{Left, Rest, Gone, Finished, Trapped_at}
use Rattle.pc_window.specs.Steps.{LeftIs, EachLeft, IsProper, with_tree, left_of, front_row, cut_row}
use Rattle.pc_window.proofs.CutRows.{whole_front_of}
use Rattle.pc_window.proofs.Parameters.{parameters_known, known_homes}
use Rattle.pc_window.proofs.There.{tidies_fewer}
use Rattle.pc_window.proofs.Proper.{rebases_proper}
use Rattle.pc_canon.specs.Key.{key_of}
use Rattle.pc_canon.proofs.Keys.{keys_pair}
use Rattle.pc_automaton.specs.declared.automaton.AutomatonLeaf.{AutomatonLeaf}
use Rattle.pc_automaton.specs.declared.automaton.AutomatonLeaf.TheVariants.{Out, Stop, Trap}
use Rattle.pc_automaton.specs.Automaton.{names_written}
use Rattle.pc_canon.specs.Pairs.{Pair, corresponds, others, themselves, defined, operands_for, OperandsAlike, ArgumentsAlike, HomesAlike}
use Rattle.pc_pattern.specs.NamedRow.{RowsNamed, named_item, named_test, named_leaf, LeavesAlike, WritesInOrder}
use Rattle.pc_pattern.specs.Searches.{Rules, BringsOn, bare_leaf, LeafFor, to_member, to_bare, to_region, to_end, to_trap}
use Rattle.pc_pattern.specs.models.Renaming.{renamed_name, renamed_operand, renamed_homes, renamed_leaf, renamed_bare, arguments_for}
use Rattle.pc_pattern.specs.models.Pools.{Pool}
use Rattle.pc_pattern.specs.models.Leading.{WindowLeads, leads_member, leads_bare, LeftLeads, leads_rest, leads_region, leads_end, leads_trap}
use Rattle.pc_pattern.specs.models.Leading.{RowLeads, leads_plain, leads_written, leads_test, leads_leaf}
use Rattle.pc_pattern.proofs.Automata.{other_there, others_themselves}
use Rattle.pc_pattern.proofs.Closing.{same_leaf}
use Rattle.pc_canon.proofs.ParameterLists.{parameters_used}
use Rattle.pc_pattern.proofs.Ends.{unwinds_fewer}
use Rattle.pc_pattern.proofs.Keeping.{brings_on_keeps}
use Rattle.pc_pattern.proofs.Pools.{KeysStand, number_there, row_keys}
use Rattle.pc_word.specs.Naming.{with_dest}

-- ---- what the leaves of a cut row use

-- what is left uses what is known
abbrev pub LeftScoped : (ℕ → Bool) → Left → Type 0
LeftScoped known (Rest w) = Scoped known (whole w.front)
LeftScoped known (Gone region homes) = HomesKnown known homes
LeftScoped known Finished = Unit {0}
LeftScoped known (Trapped_at kind line) = Unit {0}

-- at each leaf, with what is written on the way
abbrev pub LeavesScoped : (ℕ → Bool) → Row Left → Type 0
LeavesScoped known (Then item rest) = LeavesScoped (and_dest known item) rest
LeavesScoped known (Either on on_yes on_no) = LeavesScoped known on_yes × LeavesScoped known on_no
LeavesScoped known (At_leaf left) = LeftScoped known left

rest_scoped : (known : ℕ → Bool) (w : Window) (tree : Tree) → Scoped known tree → LeftScoped known (Rest (with_tree w tree))
rest_scoped known w tree h = subst (λ (t : Tree). Scoped known t) (sym (whole_front_of tree)) h

left_scoped : (known : ℕ → Bool) (table : Table) (w : Window) (tree : Tree) → Scoped known tree → LeftScoped known (left_of table w tree)
left_scoped known table w (Pending t o x rest) h = rest_scoped known w (Pending t o x rest) h
left_scoped known table w (Undecided t o on p q) h = rest_scoped known w (Undecided t o on p q) h
left_scoped known table w (Exit region tag homes) h = by_loop (is_inside table w.inside region)
  where
    by_loop : (c : Bool) → LeftScoped known (if c then Rest (with_tree w (Exit region tag homes)) else Gone region homes)
    by_loop true = rest_scoped known w (Exit region tag homes) h
    by_loop false = h
left_scoped known table w Stop_exit h = tt
left_scoped known table w (Trap_exit kind line) h = tt

row_scoped : (known : ℕ → Bool) (table : Table) (w : Window) (front : Front) → Scoped known (whole front)
    → LeavesScoped known (front_row (left_of table w) front)
row_scoped known table w (Issued t o x rest) h = row_scoped (and_dest known x) table w rest h.2
row_scoped known table w (Split t o on p q) h = (row_scoped known table w p h.1, row_scoped known table w q h.2)
row_scoped known table w (Unfinished tree) h = left_scoped known table w tree h

pub cut_scoped : (known : ℕ → Bool) (table : Table) (w : Window) (front : Front) → Scoped known (whole front)
    → LeavesScoped known (cut_row table w front)
cut_scoped known table w (Issued t o x rest) h = row_scoped known table w (Issued t o x rest) h
cut_scoped known table w (Split t o on p q) h = row_scoped known table w (Split t o on p q) h
cut_scoped known table w (Unfinished (Pending t o x rest)) h = left_scoped known table w (Pending t o x rest) h
cut_scoped known table w (Unfinished (Undecided t o on p q)) h = left_scoped known table w (Undecided t o on p q) h
cut_scoped known table w (Unfinished (Exit region tag homes)) h = h
cut_scoped known table w (Unfinished Stop_exit) h = tt
cut_scoped known table w (Unfinished (Trap_exit kind line)) h = tt

-- ---- names that correspond on the way

-- each known name corresponds to the one in its place, and all of these are below the next that is new
pub record Renames (known : ℕ → Bool) (pairs written : List Pair) (next : ℕ) : Type 0 where
  pub told : (x : ℕ) → known x ≡ true → corresponds pairs x (renamed_name written x) ≡ true
  pub below : AllByRecursion (λ y. y < next) (others pairs)

-- both items write a name, the second the next one, or neither does
abbrev WriteNext : ℕ → Option ℕ → Option ℕ → Type 0
WriteNext next d d' = ((x : ℕ) × (d ≡ Some x) × (d' ≡ Some next)) ⊎ ((d ≡ None) × (d' ≡ None))

write_next : (next : ℕ) (item : Item) → WriteNext next (dest_of item) (dest_of (with_dest next item))
write_next next (Bin op d l r) = inl (d, refl, refl)
write_next next (Copy d from) = inl (d, refl, refl)
write_next next (Load d a i) = inl (d, refl, refl)
write_next next (Store a i v) = inr (refl, refl)
write_next next (Print v) = inr (refl, refl)
write_next next (Read d) = inl (d, refl, refl)
write_next next (More d) = inl (d, refl, refl)

below_apart : (next : ℕ) (ys : List ℕ) (y : ℕ) → AllByRecursion (λ y. y < next) ys → is_in y ys ≡ true → nat_eq next y ≡ false
below_apart next [] y h k = absurd (cc)
below_apart next (z ∷ ys) y h k = by (nat_eq y z) refl k (below_apart next ys y h.1)
  where
    by : (b : Bool) → nat_eq y z ≡ b → (b || is_in y ys) ≡ true → (is_in y ys ≡ true → nat_eq next y ≡ false) → nat_eq next y ≡ false
    by true e k step = (let same = eqb-true y z e in let lt = h.0 in grind arith)
    by false e k step = step k

told_more : (known : ℕ → Bool) (pairs written : List Pair) (next x y : ℕ) → Renames known pairs written next → (nat_eq x y || known y) ≡ true
    → corresponds (record { one = x; other = next } ∷ pairs) y (renamed_name (record { one = x; other = next } ∷ written) y) ≡ true
told_more known pairs written next x y r h = by (nat_eq x y) refl h
  where
    both : (b c : Bool) → b ≡ false → c ≡ true → (not b && c) ≡ true
    both false true e k = refl
    both false false e k = absurd (cc)
    both true c e k = absurd (cc)

    by : (b : Bool) → nat_eq x y ≡ b → (b || known y) ≡ true
        → (if b then nat_eq next (if b then next else renamed_name written y) else
        (not (nat_eq next (if b then next else renamed_name written y)) && corresponds pairs y
        (if b then next else renamed_name written y))) ≡ true
    by true e k = eq-eqb next next refl
    by false e k =
        let there = r.told y k in
        both (nat_eq next (renamed_name written y)) (corresponds pairs y (renamed_name written y))
        (below_apart next (others pairs) (renamed_name written y) r.below (other_there pairs y (renamed_name written y) there)) there

below_more : (next : ℕ) (ys : List ℕ) → AllByRecursion (λ y. y < next) ys → AllByRecursion (λ y. y < suc next) ys
below_more next ys h = all_imply (λ y. y < next) (λ y. y < suc next) ys (λ y k. omega (arith, k)) h

renames_below : (known : ℕ → Bool) (pairs written : List Pair) (next : ℕ) (d d' : Option ℕ) → WriteNext next d d' → Renames known pairs written next
    → Renames (λ x. writes d x || known x) (defined pairs d d') (defined written d d') (suc next)
renames_below known pairs written next None None e r = record { told = r.told; below = below_more next (others pairs) r.below }
renames_below known pairs written next (Some x) (Some n) (inl e) r =
    subst (λ (m : ℕ). Renames (λ y. nat_eq x y || known y) (record { one = x; other = m } ∷ pairs) (record { one = x; other = m } ∷ written)
    (suc next)) (same next n e.2)
    (record { told = λ y h. told_more known pairs written next x y r h; below = (omega arith, below_more next (others pairs) r.below) })
  where
    same : (a b : ℕ) → Some b ≡ Some a → a ≡ b
    same a b p = cc
renames_below known pairs written next (Some x) (Some n) (inr e) r = absurd (let k : Some x ≡ None = e.0 in cc)
renames_below known pairs written next (Some x) None (inl e) r = absurd (let k : None ≡ Some next = e.2 in cc)
renames_below known pairs written next (Some x) None (inr e) r = absurd (let k : Some x ≡ None = e.0 in cc)
renames_below known pairs written next None (Some n) (inl e) r = absurd (let k : None ≡ Some e.0 = e.1 in cc)
renames_below known pairs written next None (Some n) (inr e) r = absurd (let k : Some n ≡ None = e.1 in cc)

later_below : (known : ℕ → Bool) (pairs written : List Pair) (next later : ℕ) → next ≤ later → Renames known pairs written next
    → Renames known pairs written later
later_below known pairs written next later le r = record {
  told = r.told;
  below = all_imply (λ y. y < next) (λ y. y < later) (others pairs) (λ y k. omega (arith, le, k)) r.below;
}

-- before a row its parameters correspond to themselves
itself_there : (xs : List ℕ) (x : ℕ) → is_in x xs ≡ true → corresponds (themselves xs) x x ≡ true
itself_there [] x h = absurd (cc)
itself_there (y ∷ xs) x h = by (nat_eq y x) (nat_eq x y) refl refl h (itself_there xs x)
  where
    clash : (b : Bool) → b ≡ true → b ≡ false → ⊥
    clash b p q = cc

    by : (b c : Bool) → nat_eq y x ≡ b → nat_eq x y ≡ c → (c || is_in x xs) ≡ true → (is_in x xs ≡ true → corresponds (themselves xs) x x ≡ true)
        → (if b then b else (not b && corresponds (themselves xs) x x)) ≡ true
    by true c e e' k step = refl
    by false true e e' k step = absurd (clash (nat_eq y x) (eq-eqb y x (sym (eqb-true x y e'))) e)
    by false false e e' k step = step k

pub renames_parameters : (known : ℕ → Bool) (ps : List ℕ) (next : ℕ) → ((x : ℕ) → known x ≡ true → is_in x ps ≡ true)
    → AllByRecursion (λ y. y < next) ps
    → Renames known (themselves ps) [] next
renames_parameters known ps next listed below = record {
  told = λ x h. itself_there ps x (listed x h);
  below = subst (λ (l : List ℕ). AllByRecursion (λ y. y < next) l) (sym (others_themselves ps)) below;
}

-- ---- leaves

-- a leaf that a window is, renamed
pub none_bare : (written : List Pair) (o : Option AutomatonLeaf) → renamed_bare written o ≡ None → o ≡ None
none_bare written None e = refl
none_bare written (Some leaf) e = absurd (cc)

pub some_bare : (written : List Pair) (o : Option AutomatonLeaf) (leaf : AutomatonLeaf) → renamed_bare written o ≡ Some leaf
    → (bare : AutomatonLeaf) × (o ≡ Some bare) × (renamed_leaf written bare ≡ leaf)
some_bare written None leaf e = absurd (cc)
some_bare written (Some bare) leaf e = (bare, refl, same_leaf (renamed_leaf written bare) leaf e)

module _ (known : ℕ → Bool) (pairs written : List Pair) (next : ℕ) (r : Renames known pairs written next) where
  operand_alike : (o : Operand) → IsKnown known o → OperandsAlike pairs o (renamed_operand written o)
  operand_alike (Name x) h = r.told x h
  operand_alike (Lit value) h = refl

  homes_alike : (homes : List Home) → HomesKnown known homes → HomesAlike pairs homes (renamed_homes written homes)
  homes_alike [] h = tt
  homes_alike (home ∷ homes) h = (refl, operand_alike home.value h.0, homes_alike homes h.1)

  arguments_alike : (ps : List ℕ) → AllByRecursion (λ x. known x ≡ true) ps → ArgumentsAlike pairs (operands_for ps) (arguments_for written ps)
  arguments_alike [] h = tt
  arguments_alike (x ∷ ps) h = (r.told x h.0, arguments_alike ps h.1)

  bare_alike : (tree : Tree) (leaf : AutomatonLeaf) → ((x : ℕ) → uses tree x ≡ true → known x ≡ true) → bare_leaf tree ≡ Some leaf
      → LeavesAlike pairs leaf (renamed_leaf written leaf)
  bare_alike (Exit region tag homes) leaf f e =
      subst (λ (l : AutomatonLeaf). LeavesAlike pairs l (renamed_leaf written l)) (same_leaf (Out region homes) leaf e)
      (refl, homes_alike homes (known_homes known homes f))
  bare_alike Stop_exit leaf f e = subst (λ (l : AutomatonLeaf). LeavesAlike pairs l (renamed_leaf written l)) (same_leaf Stop leaf e) tt
  bare_alike (Trap_exit kind line) leaf f e =
      subst (λ (l : AutomatonLeaf). LeavesAlike pairs l (renamed_leaf written l)) (same_leaf (Trap kind line) leaf e) (refl, refl)
  bare_alike (Pending t o x rest) leaf f e = absurd (cc)
  bare_alike (Undecided t o on p q) leaf f e = absurd (cc)

  -- what a window uses that was brought on was known before
  brought_known : (rules : Rules) (rest brought : Window) → BringsOn rules rest brought → IsProper rest → Scoped known (whole rest.front)
      → (x : ℕ) → uses (whole brought.front) x ≡ true → known x ≡ true
  brought_known rules rest brought brings proper scoped x used =
      let rebased = brings.rebased in
      let unwound = brings.settles.unwound in
      let old = unwinds_fewer rules.table rules.number x rebased unwound brings.settles.unwinds (rebases_proper rest rebased brings.rebases proper)
      (tidies_fewer unwound brought brings.settles.tidies x used) in
      parameters_known (whole rest.front) known scoped x
      (sym (ap (λ (t : Tree). uses t x) (ap (λ (u : Window). whole u.front) brings.rebases ∙ whole_front_of (whole rest.front))) ∙ old)

  -- a window that is a leaf leads on among the members
  window_leads : (rules : Rules) (final : List Window) (pool later : Pool) (rest brought : Window) (leaf : AutomatonLeaf)
      → BringsOn rules rest brought → IsProper rest → IsProper brought → Scoped known (whole rest.front)
      → WindowLeads written pool brought leaf later → KeysStand final later.keys → LeafFor rules final pairs (Rest rest) leaf
  window_leads rules final pool later rest brought leaf brings old proper scoped (leads_member {number} none numbered) stand =
      let member = stand number (key_of brought) (number_there pool later brought number numbered) in
      to_member brought member.0 brings (none_bare written (bare_leaf (whole brought.front)) none) member.1
      (keys_pair brought member.0 (sym member.2))
      (arguments_alike (parameters_of (whole brought.front))
      (all_imply (λ x. uses (whole brought.front) x ≡ true) (λ x. known x ≡ true) (parameters_of (whole brought.front))
      (λ x used. brought_known rules rest brought brings old scoped x used) (parameters_used (whole brought.front))))
  window_leads rules final pool later rest brought leaf brings old proper scoped (leads_bare some) stand =
      let bare = some_bare written (bare_leaf (whole brought.front)) leaf some in
      subst (λ (l : AutomatonLeaf). LeafFor rules final pairs (Rest rest) l) bare.2
      (to_bare brought bare.0 brings bare.1
      (bare_alike (whole brought.front) bare.0 (λ x used. brought_known rules rest brought brings old scoped x used) bare.1))

  left_leads : (rules : Rules) → TableKeeps rules.table → (final : List Window) (pool later : Pool) (left : Left) (leaf : AutomatonLeaf)
      → LeftIs IsProper left → LeftScoped known left → LeftLeads rules written pool left leaf later → KeysStand final later.keys
      → LeafFor rules final pairs left leaf
  left_leads rules keeps final pool later left leaf proper scoped (leads_rest {rest} {brought} brings leads) stand =
      window_leads rules final pool later rest brought leaf brings proper (brings_on_keeps rules keeps rest brought brings proper).0 scoped leads stand
  left_leads rules keeps final pool later left leaf proper scoped (leads_region {homes}) stand = to_region (homes_alike homes scoped)
  left_leads rules keeps final pool later left leaf proper scoped leads_end stand = to_end
  left_leads rules keeps final pool later left leaf proper scoped leads_trap stand = to_trap

-- ---- rows

pub row_next : {rules : Rules} {written : List Pair} {next later : ℕ} {pool after : Pool} {row : Row Left} {other : Row AutomatonLeaf}
    → RowLeads rules written next pool row other later after → next ≤ later
row_next (leads_plain none leads) = let h = row_next leads in omega (arith, h)
row_next (leads_written some leads) = let h = row_next leads in omega (arith, h)
row_next (leads_test one other) = let h = row_next one in let k = row_next other in omega (arith, h, k)
row_next (leads_leaf leads) = omega arith

dest_some : (next one : ℕ) (item : Item) → dest_of item ≡ Some one → dest_of (with_dest next item) ≡ Some next
dest_some next one item some = elim (write_next next item) [ inl e ↦ e.2 | inr e ↦ absurd (let k : Some one ≡ None = sym some ∙ e.0 in cc) ]

-- what is written below an item
defined_none : (pairs : List Pair) (d d' : Option ℕ) → d ≡ None → defined pairs d d' ≡ pairs
defined_none pairs d d' e = ap (λ (o : Option ℕ). defined pairs o d') e

defined_some : (pairs : List Pair) (d d' : Option ℕ) (x y : ℕ) → d ≡ Some x → d' ≡ Some y → defined pairs d d' ≡ record { one = x; other = y } ∷ pairs
defined_some pairs d d' x y e e' = (λ i. defined pairs (e i) (e' i))

-- the row leads on among the members, wherever these stand with their keys in the end
pub row_leads : {rules : Rules} {written : List Pair} {next later : ℕ} {pool after : Pool} {row : Row Left} {other : Row AutomatonLeaf}
    → TableKeeps rules.table → (final : List Window) (known : ℕ → Bool) (pairs : List Pair)
    → Renames known pairs written next → EachLeft IsProper row → LeavesScoped known row
    → RowLeads rules written next pool row other later after → KeysStand final after.keys → RowsNamed (LeafFor rules final) pairs row other
row_leads {rules} {written} {next} keeps final known pairs r proper scoped (leads_plain {item} none leads) stand =
    named_item next
    (row_leads keeps final (and_dest known item) (defined pairs (dest_of item) (dest_of (with_dest next item)))
    (subst (λ (l : List Pair). Renames (and_dest known item) (defined pairs (dest_of item) (dest_of (with_dest next item))) l (suc next))
    (defined_none written (dest_of item) (dest_of (with_dest next item)) none)
    (renames_below known pairs written next (dest_of item) (dest_of (with_dest next item)) (write_next next item) r))
    proper scoped leads stand)
row_leads {rules} {written} {next} keeps final known pairs r proper scoped (leads_written {one} {item} some leads) stand =
    named_item next
    (row_leads keeps final (and_dest known item) (defined pairs (dest_of item) (dest_of (with_dest next item)))
    (subst (λ (l : List Pair). Renames (and_dest known item) (defined pairs (dest_of item) (dest_of (with_dest next item))) l (suc next))
    (defined_some written (dest_of item) (dest_of (with_dest next item)) one next some (dest_some next one item some))
    (renames_below known pairs written next (dest_of item) (dest_of (with_dest next item)) (write_next next item) r))
    proper scoped leads stand)
row_leads {written} {next} keeps final known pairs r proper scoped (leads_test {mid} {middle} one other) stand =
    named_test
    (row_leads keeps final known pairs r proper.0 scoped.0 one (λ number key at. stand number key (row_keys other number key at)))
    (row_leads keeps final known pairs (later_below known pairs written next mid (row_next one) r) proper.1 scoped.1 other stand)
row_leads {rules} {written} {next} {pool} {after} keeps final known pairs r proper scoped (leads_leaf {left} {leaf} leads) stand =
    named_leaf (left_leads known pairs written next r rules keeps final pool after left leaf proper scoped leads stand)

-- ---- names that are written

-- these numbers are from one number on and below another, each once
pub record Fresh (from to : ℕ) (xs : List ℕ) : Type 0 where
  pub inside : AllByRecursion (λ x. (from ≤ x) × (x < to)) xs
  pub once : IsDistinct nat_eq xs

-- lists of numbers that are apart have each once together
apart_head : (x m : ℕ) (ys : List ℕ) → x < m → AllByRecursion (λ y. m ≤ y) ys → AllByRecursion (λ y. nat_eq x y ≡ false) ys
apart_head x m ys lt h = all_imply (λ y. m ≤ y) (λ y. nat_eq x y ≡ false) ys (λ y le. differ x y (omega (arith, lt, le))) h
  where
    differ : (x y : ℕ) → x < y → nat_eq x y ≡ false
    differ x y lt = grind arith

pub distinct_apart : (m : ℕ) (xs ys : List ℕ) → AllByRecursion (λ x. x < m) xs → AllByRecursion (λ y. m ≤ y) ys → IsDistinct nat_eq xs
    → IsDistinct nat_eq ys → IsDistinct nat_eq (xs ++ ys)
unfolding IsDistinct
distinct_apart m [] ys h k p q = q
distinct_apart m (x ∷ xs) ys h k p q = (all_both (λ y. nat_eq x y ≡ false) xs ys p.0 (apart_head x m ys h.0 k), distinct_apart m xs ys h.1 k p.1 q)

fresh_none : (from to : ℕ) → Fresh from to []
unfolding IsDistinct
fresh_none from to = record { inside = tt; once = tt }

single : (next : ℕ) → Fresh next (suc next) (next ∷ [])
unfolding IsDistinct
single next = record { inside = ((omega arith, omega arith), tt); once = (tt, tt) }

fresh_wider : (from from' to to' : ℕ) (xs : List ℕ) → from' ≤ from → to ≤ to' → Fresh from to xs → Fresh from' to' xs
fresh_wider from from' to to' xs lower upper f = record {
  inside = all_imply (λ x. (from ≤ x) × (x < to)) (λ x. (from' ≤ x) × (x < to')) xs
      (λ x h. ((let a = h.0 in omega (arith, a, lower)), (let b = h.1 in omega (arith, b, upper)))) f.inside;
  once = f.once;
}

fresh_both : (from mid to : ℕ) (xs ys : List ℕ) → from ≤ mid → mid ≤ to → Fresh from mid xs → Fresh mid to ys → Fresh from to (xs ++ ys)
fresh_both from mid to xs ys lower upper f g = record {
  inside = all_both (λ x. (from ≤ x) × (x < to)) xs ys (fresh_wider from from mid to xs (omega arith) upper f).inside
      (fresh_wider mid from to to ys lower (omega arith) g).inside;
  once = distinct_apart mid xs ys (all_imply (λ x. (from ≤ x) × (x < mid)) (λ x. x < mid) xs (λ x h. h.1) f.inside)
      (all_imply (λ x. (mid ≤ x) × (x < to)) (λ y. mid ≤ y) ys (λ x h. h.0) g.inside) f.once g.once;
}

fresh_one : (next to : ℕ) (d : Option ℕ) (xs : List ℕ) → ((d ≡ Some next) ⊎ (d ≡ None)) → suc next ≤ to → Fresh (suc next) to xs
    → Fresh next to (cons_option d xs)
fresh_one next to (Some x) xs (inl e) le f =
    subst (λ (n : ℕ). Fresh next to (n ∷ xs)) (same next x (sym e)) (fresh_both next (suc next) to (next ∷ []) xs (omega arith) le (single next) f)
  where
    same : (a b : ℕ) → Some a ≡ Some b → a ≡ b
    same a b p = cc
fresh_one next to (Some x) xs (inr e) le f = absurd (cc)
fresh_one next to None xs e le f = fresh_wider (suc next) next to to xs (omega arith) (omega arith) f

dest_next : (next : ℕ) (item : Item) → (dest_of (with_dest next item) ≡ Some next) ⊎ (dest_of (with_dest next item) ≡ None)
dest_next next item = elim (write_next next item) [ inl e ↦ inl e.2 | inr e ↦ inr e.1 ]

-- a row writes names from the next one on, each once
pub row_fresh : {rules : Rules} {written : List Pair} {next later : ℕ} {pool after : Pool} {row : Row Left} {other : Row AutomatonLeaf}
    → RowLeads rules written next pool row other later after → Fresh next later (names_written other)
row_fresh {next} {later} (leads_plain {item} {below} none leads) =
    fresh_one next later (dest_of (with_dest next item)) (names_written below) (dest_next next item) (row_next leads) (row_fresh leads)
row_fresh {next} {later} (leads_written {item} {below} some leads) =
    fresh_one next later (dest_of (with_dest next item)) (names_written below) (dest_next next item) (row_next leads) (row_fresh leads)
row_fresh {next} {later} (leads_test {mid} {yes_row} {no_row} one other) =
    subst (λ (l : List ℕ). Fresh next later l) (sym (filter_map-append dest_of (items_of yes_row) (items_of no_row)))
    (fresh_both next mid later (names_written yes_row) (names_written no_row) (row_next one) (row_next other) (row_fresh one) (row_fresh other))
row_fresh {next} (leads_leaf leads) = fresh_none next next

-- ---- the order of names

-- an item that writes this name, if any
dest_is_next : (next : ℕ) (item : Item) → IfSome (dest_of (with_dest next item)) (λ name. name ≡ next)
dest_is_next next item = elim (write_next next item) [
  | inl e ↦ subst (λ (d : Option ℕ). IfSome d (λ name. name ≡ next)) (sym e.2) refl
  | inr e ↦ subst (λ (d : Option ℕ). IfSome d (λ name. name ≡ next)) (sym e.1) tt
]

order_both : (next : ℕ) (xs ys : List Item) → WritesInOrder next xs → WritesInOrder (length xs + next) ys → WritesInOrder next (xs ++ ys)
order_both next [] ys h k = subst (λ (n : ℕ). WritesInOrder n ys) (zero-add next) k
order_both next (x ∷ xs) ys h k =
    let same : suc (length xs) + next ≡ length xs + suc next = omega arith in
    (h.0, order_both (suc next) xs ys h.1 (subst (λ (n : ℕ). WritesInOrder n ys) same k))

-- a row takes a number for each of its items
row_counts : {rules : Rules} {written : List Pair} {next later : ℕ} {pool after : Pool} {row : Row Left} {other : Row AutomatonLeaf}
    → RowLeads rules written next pool row other later after → later ≡ length (items_of other) + next
row_counts (leads_plain none leads) = let h = row_counts leads in omega (arith, h)
row_counts (leads_written some leads) = let h = row_counts leads in omega (arith, h)
row_counts (leads_test {yes_row} {no_row} one other) =
    let h = row_counts one in
    let k = row_counts other in
    let both = length-append (items_of yes_row) (items_of no_row) in
    omega (arith, h, k, both)
row_counts {next} (leads_leaf leads) = sym (zero-add next)

-- and its names are those numbers in order
pub row_ordered : {rules : Rules} {written : List Pair} {next later : ℕ} {pool after : Pool} {row : Row Left} {other : Row AutomatonLeaf}
    → RowLeads rules written next pool row other later after → WritesInOrder next (items_of other)
row_ordered {next} (leads_plain {item} none leads) = (dest_is_next next item, row_ordered leads)
row_ordered {next} (leads_written {item} some leads) = (dest_is_next next item, row_ordered leads)
row_ordered {next} (leads_test {yes_row} {no_row} one other) =
    order_both next (items_of yes_row) (items_of no_row) (row_ordered one)
    (subst (λ (n : ℕ). WritesInOrder n (items_of no_row)) (row_counts one) (row_ordered other))
row_ordered (leads_leaf leads) = tt
