-- What is left of a claim's window behind its row.
use Rattle.std.proofs.Common.{◌≡◌, ℕ, ◌+◌, ◌≤◌, Bool, true, false, List, [], ◌∷◌, ◌++◌, None, refl, sym, ◌∙◌, ap, subst, ◌⊎◌, inl, inr, append_assoc, arith}
use Rattle.std.specs.Prelude.{ℤ, if◌then◌else◌}
use Rattle.pc_word.specs.declared.item.Item.{Item}
use Rattle.pc_word.specs.declared.item.Item.TheVariants.{Copy}
use Rattle.pc_word.specs.declared.item.Operand.{Operand}
use Rattle.pc_word.specs.Word.{holds}
use Rattle.pc_word.specs.Run.{Seen, NeverFaults, after_printing}
use Rattle.pc_word.specs.State.{State}
use Rattle.pc_word.specs.Items.{operand_value}
use Rattle.pc_word.specs.Commit.{prints_of, fault_of, state_after}
use Rattle.pc_word.specs.Row.{path_of, leaf_of}
use Rattle.pc_table.specs.Table.{Table}
use Rattle.pc_table.specs.TableKeeps.{TableKeeps}
use Rattle.pc_window.specs.Tree.{Tree, Pending, Front, Issued, Split, Unfinished, whole}
use Rattle.pc_window.specs.Walk.{Walked, Leaves, Finishes, printing, after_item}
use Rattle.pc_window.specs.Hold.{TreeHolds}
use Rattle.pc_window.specs.Names.{uses, and_dest, Scoped}
use Rattle.pc_window.specs.Opening.{TreeBelow}
use Rattle.pc_window.specs.WindowRun.{Window, follow, FormsHold, supply_of}
use Rattle.pc_window.specs.Steps.{IsProper, with_tree, front_row}
use Rattle.pc_window.proofs.Grafts.{follow-after}
use Rattle.pc_window.proofs.CutRows.{row_items, row_leaf, whole_front_of, becomes_holds}
use Rattle.pc_window.proofs.Cutting.{rest_of, front_path}
use Rattle.pc_window.proofs.Proper.{becomes_proper}
use Rattle.pc_window.proofs.Unwinding.{HoldUnder-after}
use Rattle.pc_certified.specs.Changes.{ChangesTo}
use Rattle.pc_certified.specs.Claims.{Claim}
use Rattle.pc_certified.proofs.MarkedWalks.{printed_in, level_in}
use Rattle.pc_certified.proofs.Onward.{follow_whole, not_ended}
use Rattle.pc_certified.proofs.Bases.{TagsFrom}
use Rattle.pc_certified.proofs.Tags.{from_rest}
use Rattle.pc_certified.proofs.WindowChanges.{ChangeKept, changes_kept, never_on, walked, marks}
use Rattle.pc_certified.proofs.CutMarks.{cut_on}

module _ (table : Table) (keeps : TableKeeps table) (base : ℕ) where
  -- ---- from a tree to what is left, after numbers were printed

  abbrev pub end_none : Tree → State → Type 0
  end_none t s = (follow table (walked table keeps base t s) 0).end ≡ None

  -- onwards to a tree, as far on
  pub record Behind (t : Tree) (s : State) (out : List ℤ) (new : State) (rest : Tree) : Type 0 where
    pub units : ℕ
    pub same : (n : ℕ) → follow table (walked table keeps base t s) (units + n) ≡ after_printing out (follow table (walked table keeps base rest new) n)
    pub more : List ℤ
    pub tags : out ≡ [] → printed_in (marks table keeps base rest new) ≡ printed_in (marks table keeps base t s) ++ more
    pub level : (level_in (marks table keeps base rest new) ≤ level_in (marks table keeps base t s)) ⊎ ((1 ≤ units) × end_none t s)
    pub from : TagsFrom base rest

  pub nil_first : (xs ys : List ℤ) → [] ≡ xs ++ ys → xs ≡ []
  nil_first [] ys h = refl
  nil_first (x ∷ xs) ys h = absurd (cc)

  -- what is behind does not end yet, and so there is no end before
  pub behind_going : (t : Tree) (s : State) (out : List ℤ) (new : State) (rest : Tree) → (units : ℕ)
      → ((n : ℕ) → follow table (walked table keeps base t s) (units + n) ≡ after_printing out (follow table (walked table keeps base rest new) n))
      → end_none rest new → end_none t s
  behind_going t s out new rest units same none =
      let w = walked table keeps base t s in
      let v = walked table keeps base rest new in
      not_ended table w (printing out v) units (λ n. follow-after table out v n ∙ sym (same n)) (ap (λ (x : Seen). x.end) (follow-after table out v 0) ∙ none) (follow table w 0).end refl

  -- a change further
  pub behind_then : (t : Tree) (s : State) (out : List ℤ) (new : State) (w v : Window) → Behind t s out new (whole w.front) → ChangeKept table keeps base w v new
      → Behind t s out new (whole v.front)
  behind_then t s out new w v b k =
      let i = b.units in
      let j = k.on.units in
      record {
        units = i + j;
        same = λ n. ap (follow table (walked table keeps base t s)) (let e : (i + j) + n ≡ i + (j + n) = omega arith in e) ∙ b.same (j + n)
            ∙ ap (λ (x : Seen). after_printing out x) (sym (k.on.same n));
        more = b.more ++ k.on.more;
        tags = λ none. k.on.tags ∙ ap (λ (l : List ℤ). l ++ k.on.more) (b.tags none) ∙ append_assoc (printed_in (marks table keeps base t s)) b.more k.on.more;
        level = levels b.level k.on.level;
        from = k.tags b.from;
      }
    where
      levels : (level_in (marks table keeps base (whole w.front) new) ≤ level_in (marks table keeps base t s)) ⊎ ((1 ≤ b.units) × end_none t s)
          → (level_in (marks table keeps base (whole v.front) new) ≤ level_in (marks table keeps base (whole w.front) new)) ⊎ ((1 ≤ k.on.units) × end_none (whole w.front) new)
          → (level_in (marks table keeps base (whole v.front) new) ≤ level_in (marks table keeps base t s)) ⊎ ((1 ≤ b.units + k.on.units) × end_none t s)
      levels (inl f) (inl g) = inl (omega (arith, f, g))
      levels (inr f) g = inr (let one = f.0 in omega (arith, one), f.1)
      levels (inl f) (inr g) = inr (let one = g.0 in omega (arith, one), behind_going t s out new (whole w.front) b.units b.same g.1)

  -- ---- a Copy at the root that the row need not do

  printing_nothing : (w : Walked) → printing [] w ≡ w
  printing_nothing (Leaves p region t) = refl
  printing_nothing (Finishes p end) = refl

  -- the window without it, in the state after it
  pub record CopyKept (w : Window) (s : State) (name : ℕ) (from : Operand) (rest : Tree) : Type 0 where
    pub proper : IsProper (with_tree w rest)
    pub forms : FormsHold table (with_tree w rest) (after_item table.arrays (Copy name from) s)
    pub same : walked table keeps base (whole (with_tree w rest).front) (after_item table.arrays (Copy name from) s) ≡ walked table keeps base (whole w.front) s
    pub marks_same : marks table keeps base (whole (with_tree w rest).front) (after_item table.arrays (Copy name from) s) ≡ marks table keeps base (whole w.front) s
    pub tags : TagsFrom base (whole w.front) → TagsFrom base (whole (with_tree w rest).front)

  pub copy_kept : (w : Window) (s : State) (tag origin name : ℕ) (from : Operand) (rest : Tree) → whole w.front ≡ Pending tag origin (Copy name from) rest
      → IsProper w → FormsHold table w s → CopyKept w s name from rest
  copy_kept w s tag origin name from rest is proper forms =
      let x = Copy name from in
      let t = after_item table.arrays x s in
      let same_tree = whole_front_of rest in
      let scoped = subst (λ (u : Tree). Scoped (uses (whole w.front)) u) is proper.window.scoped in
      let below = subst (TreeBelow w.next) is proper.names_below in
      let holds_here = subst (λ (u : Tree). TreeHolds w.forms table.arrays u s) is forms in
      record {
        proper = becomes_proper rest (supply_of w) w.limits w.inside (and_dest (uses (whole w.front)) x) below.1 proper.forms_below proper.room scoped.2;
        forms = becomes_holds table w rest t holds_here.0 (HoldUnder-after holds_here.0 w.forms table.arrays tag origin x rest s holds_here.1);
        same = ap (λ (u : Tree). walked table keeps base u t) same_tree ∙ sym (printing_nothing (walked table keeps base rest t)) ∙ ap (λ (u : Tree). walked table keeps base u s) (sym is);
        marks_same = ap (λ (u : Tree). marks table keeps base u t) same_tree ∙ sym (printing_nothing (marks table keeps base rest t)) ∙ ap (λ (u : Tree). marks table keeps base u s) (sym is);
        tags = λ h. subst (TagsFrom base) (sym same_tree) (subst (TagsFrom base) is h).1;
      }

  pub behind_copy : (t : Tree) (s : State) (out : List ℤ) (new : State) (w : Window) (name : ℕ) (from : Operand) (rest : Tree) → Behind t s out new (whole w.front)
      → CopyKept w new name from rest → Behind t s out (after_item table.arrays (Copy name from) new) (whole (with_tree w rest).front)
  behind_copy t s out new w name from rest b k = record {
    units = b.units;
    same = λ n. b.same n ∙ ap (λ (v : Walked). after_printing out (follow table v n)) (sym k.same);
    more = b.more;
    tags = λ none. ap printed_in k.marks_same ∙ b.tags none;
    level = subst (λ (m : Walked). (level_in m ≤ level_in (marks table keeps base t s)) ⊎ ((1 ≤ b.units) × end_none t s)) (sym k.marks_same) b.level;
    from = k.tags b.from;
  }

  -- ---- behind the front

  rest_below : (n : ℕ) (names : ℕ → ℤ) (front : Front) → TreeBelow n (whole front) → TreeBelow n (rest_of names front)
  rest_below n names (Issued tag o x rest) h = rest_below n names rest h.1
  rest_below n names (Split tag o on p q) h = by_side (holds (operand_value names on)) (rest_below n names p h.1) (rest_below n names q h.2)
    where
      by_side : (c : Bool) → TreeBelow n (rest_of names p) → TreeBelow n (rest_of names q) → TreeBelow n (if c then rest_of names p else rest_of names q)
      by_side true h k = h
      by_side false h k = k
  rest_below n names (Unfinished rest) h = h

  rest_scoped : (known : ℕ → Bool) (names : ℕ → ℤ) (front : Front) → Scoped known (whole front) → (known' : ℕ → Bool) × Scoped known' (rest_of names front)
  rest_scoped known names (Issued tag o x rest) h = rest_scoped (and_dest known x) names rest h.2
  rest_scoped known names (Split tag o on p q) h = by_side (holds (operand_value names on)) (rest_scoped known names p h.1) (rest_scoped known names q h.2)
    where
      by_side : (c : Bool) → (known' : ℕ → Bool) × Scoped known' (rest_of names p) → (known' : ℕ → Bool) × Scoped known' (rest_of names q)
          → (known' : ℕ → Bool) × Scoped known' (if c then rest_of names p else rest_of names q)
      by_side true h k = h
      by_side false h k = k
  rest_scoped known names (Unfinished rest) h = (known, h)

  -- the row of the front does not fault, and what is left at its leaf
  pub record LeftOn (t : Tree) (s : State) (w : Window) : Type 0 where
    pub no_fault : fault_of table.arrays s (path_of s.names (front_row (λ (tree : Tree). tree) w.front)) ≡ None
    pub proper : IsProper (with_tree w (leaf_of s.names (front_row (λ (tree : Tree). tree) w.front)))
    pub forms : FormsHold table (with_tree w (leaf_of s.names (front_row (λ (tree : Tree). tree) w.front))) (state_after table.arrays s (path_of s.names (front_row (λ (tree : Tree). tree) w.front)))
    pub behind : Behind t s (prints_of s (path_of s.names (front_row (λ (tree : Tree). tree) w.front))) (state_after table.arrays s (path_of s.names (front_row (λ (tree : Tree). tree) w.front)))
        (whole (with_tree w (leaf_of s.names (front_row (λ (tree : Tree). tree) w.front))).front)

  module _ (claim : Claim) (s : State) (proper : IsProper claim.window) (forms : FormsHold table claim.window s)
      (never : NeverFaults (follow table (walked table keeps base (whole claim.window.front) s))) (started : TagsFrom base (whole claim.window.front)) where
    abbrev here : Tree
    here = whole claim.window.front

    abbrev w : Window
    w = claim.arranged

    -- with the path and the rest by their names
    record LeftWith (path : List Item) (rest : Tree) : Type 0 where
      path_whole : fault_of table.arrays s path ≡ None
      left_proper : IsProper (with_tree w rest)
      left_forms : FormsHold table (with_tree w rest) (state_after table.arrays s path)
      left_behind : Behind here s (prints_of s path) (state_after table.arrays s path) (whole (with_tree w rest).front)

    left_with : ChangeKept table keeps base claim.window w s → LeftWith (front_path s.names w.front) (rest_of s.names w.front)
    left_with k =
        let on = k.on in
        let arranged = whole w.front in
        let never' = never_on table keeps base here arranged s on never in
        let c = cut_on table.arrays base w s k.proper k.forms (follow_whole table (walked table keeps base arranged s) never') in
        let path = front_path s.names w.front in
        let out = prints_of s path in
        let new = state_after table.arrays s path in
        let rest = rest_of s.names w.front in
        let scoped = rest_scoped (uses arranged) s.names w.front k.proper.window.scoped in
        let b : Behind here s out new rest = record {
          units = on.units;
          same = λ n. sym (on.same n) ∙ ap (λ (v : Walked). follow table v n) c.same ∙ follow-after table out (walked table keeps base rest new) n;
          more = on.more;
          tags = λ e. c.tags e ∙ on.tags;
          level = levels on.level c.level;
          from = from_rest base s.names w.front (k.tags started);
        } in
        record {
          path_whole = c.no_fault;
          left_proper = becomes_proper rest (supply_of w) w.limits w.inside scoped.0 (rest_below w.next s.names w.front k.proper.names_below) k.proper.forms_below k.proper.room scoped.1;
          left_forms = becomes_holds table w rest new c.forms.0 c.forms.1;
          left_behind = subst (Behind here s out new) (sym (whole_front_of rest)) b;
        }
      where
        levels : (level_in (marks table keeps base (whole claim.arranged.front) s) ≤ level_in (marks table keeps base (whole claim.window.front) s))
            ⊎ ((1 ≤ k.on.units) × end_none (whole claim.window.front) s)
            → level_in (marks table keeps base (rest_of s.names claim.arranged.front) (state_after table.arrays s (front_path s.names claim.arranged.front)))
            ≤ level_in (marks table keeps base (whole claim.arranged.front) s)
            → (level_in (marks table keeps base (rest_of s.names claim.arranged.front) (state_after table.arrays s (front_path s.names claim.arranged.front)))
            ≤ level_in (marks table keeps base (whole claim.window.front) s))
            ⊎ ((1 ≤ k.on.units) × end_none (whole claim.window.front) s)
        levels (inl p) q = inl (omega (arith, p, q))
        levels (inr p) q = inr p

    pub left_on : ChangesTo table claim.window claim.arranged → LeftOn here s w
    left_on steps =
        let l = left_with (changes_kept table keeps base claim.window w s steps proper forms never) in
        let m = subst (λ (rest : Tree). LeftWith (path_of s.names (front_row (λ (tree : Tree). tree) w.front)) rest) (sym (row_leaf (λ (tree : Tree). tree) w.front s.names))
        (subst (λ (path : List Item). LeftWith path (rest_of s.names w.front)) (sym (row_items (λ (tree : Tree). tree) w.front s.names)) l) in
        record { no_fault = m.path_whole; proper = m.left_proper; forms = m.left_forms; behind = m.left_behind }
