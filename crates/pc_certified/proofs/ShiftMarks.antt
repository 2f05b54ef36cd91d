-- Windows that are equal up to a shift walk the same, and what is pending in them is as far above their least tags.
use Rattle.std.proofs.Common.{◌≡◌, ℕ, ◌+◌, Bool, true, false, List, [], ◌∷◌, Option, Some, None, refl, sym, ◌∙◌, ap, arith}
use Rattle.std.specs.Prelude.{ℤ, pos, max, not, ◌&&◌, nat_eq, if◌then◌else◌}
use Rattle.std.proofs.lemmas.Bool.{eqb-true}
use Rattle.pc_word.specs.declared.item.Item.{Item}
use Rattle.pc_word.specs.declared.item.Operand.{Operand}
use Rattle.pc_word.specs.declared.item.Operand.TheVariants.{Name, Lit}
use Rattle.pc_word.specs.declared.item.MachineFault.{MachineFault}
use Rattle.pc_word.specs.Word.{holds}
use Rattle.pc_word.specs.State.{State}
use Rattle.pc_word.specs.Items.{operand_value}
use Rattle.pc_word.specs.Commit.{prints_of, fault_of, state_after}
use Rattle.pc_linear.specs.Form.{Form}
use Rattle.pc_window.specs.Tree.{Tree, Undecided, home_state}
use Rattle.pc_window.specs.Walk.{Walked, Leaves, done_first, after_item, walk}
use Rattle.pc_window.specs.Unwinding.{lesser_tag, least_tag}
use Rattle.pc_canon.specs.Pairs.{Pair, corresponds, Correspond, OperandsAlike}
use Rattle.pc_canon.specs.Shift.{ItemsAlike, both_bin, both_copy, both_load, both_store, both_print, both_read, both_more, Maps, TreesAlike, both_then, both_either, both_exit, both_stop, both_trap}
use Rattle.pc_canon.proofs.Alike.{operands_alike, home_states_alike}
use Rattle.pc_canon.proofs.ShiftRuns.{items_alike, fault_alike, states_alike}
use Rattle.pc_certified.proofs.Maxima.{min_shift}
use Rattle.pc_certified.proofs.Marked.{counted, mark, marked}
use Rattle.pc_certified.proofs.MarkedWalks.{walk_marked}

-- ---- walks

if_walks : (b c : Bool) (w v w' v' : Walked) → b ≡ c → w ≡ w' → v ≡ v' → (if b then w else v) ≡ (if c then w' else v')
if_walks true true w v w' v' e p q = p
if_walks false false w v w' v' e p q = q
if_walks true false w v w' v' e p q = absurd (cc)
if_walks false true w v w' v' e p q = absurd (cc)

first_same : (f g : Option MachineFault) (p q : List ℤ) (w v : Walked) → f ≡ g → p ≡ q → w ≡ v → done_first f p w ≡ done_first g q v
first_same f g p q w v a b c = λ i. done_first (a i) (b i) (c i)

pub walks_alike : {maps : Maps} {forms forms' : ℕ → Form} {names : List Pair} {one other : Tree} (lengths : List ℕ) (s t : State) → Correspond names s t
    → TreesAlike maps forms forms' names one other → walk lengths one s ≡ walk lengths other t
walks_alike lengths s t c (both_then {names} {item = item} {item'} {rest} {rest'} tags items dests below) =
    let e = items_alike lengths s t c items in
    first_same (fault_of lengths s (item ∷ [])) (fault_of lengths t (item' ∷ [])) (prints_of s (item ∷ [])) (prints_of t (item' ∷ [])) (walk lengths rest (state_after lengths s (item ∷ [])))
    (walk lengths rest' (state_after lengths t (item' ∷ []))) (fault_alike lengths s t item item' c.same_input e) e.prints
    (walks_alike lengths (state_after lengths s (item ∷ [])) (state_after lengths t (item' ∷ [])) (states_alike lengths s t c items) below)
walks_alike lengths s t c (both_either {names} {on = on} {on'} {on_yes} {on_yes'} {on_no} {on_no'} tags test p q) =
    if_walks (holds (operand_value s.names on)) (holds (operand_value t.names on')) (walk lengths on_yes s) (walk lengths on_no s) (walk lengths on_yes' t) (walk lengths on_no' t)
    (ap holds (operands_alike names s t on on' c test)) (walks_alike lengths s t c p) (walks_alike lengths s t c q)
walks_alike lengths s t c (both_exit {names} {region} {homes = homes} {homes'} tags h) = ap (λ (u : State). Leaves [] region u) (home_states_alike names s t homes homes' c h)
walks_alike lengths s t c both_stop = refl
walks_alike lengths s t c both_trap = refl

-- ---- marks

counted_alike : (base base' tag tag' i j : ℕ) → base + i ≡ base' + j → tag + i ≡ tag' + j → counted base tag ≡ counted base' tag'
counted_alike base base' tag tag' i j p q = omega (arith, p, q)

prints_alike : (base base' tag tag' : ℕ) → counted base tag ≡ counted base' tag' → {names : List Pair} {item other : Item} → ItemsAlike names item other → (s t : State)
    → prints_of s (mark base tag item ∷ []) ≡ prints_of t (mark base' tag' other ∷ [])
prints_alike base base' tag tag' e (both_bin h k) s t = refl
prints_alike base base' tag tag' e (both_copy h) s t = refl
prints_alike base base' tag tag' e (both_load h) s t = refl
prints_alike base base' tag tag' e (both_store h k) s t = refl
prints_alike base base' tag tag' e (both_print h) s t = ap (λ (k : ℕ). pos k ∷ []) e
prints_alike base base' tag tag' e both_read s t = refl
prints_alike base base' tag tag' e both_more s t = refl

pub marks_alike : {maps : Maps} {forms forms' : ℕ → Form} {names : List Pair} {one other : Tree} (lengths : List ℕ) (base base' top : ℕ) (s t : State)
    → base + maps.shift ≡ base' + maps.other_shift → Correspond names s t → TreesAlike maps forms forms' names one other
    → walk lengths (marked base top one) s ≡ walk lengths (marked base' top other) t
marks_alike {maps} lengths base base' top s t bases c (both_then {names} {tag} {tag'} {origin} {item} {item'} {rest} {rest'} tags items dests below) =
    let e = items_alike lengths s t c items in
    let k = counted_alike base base' tag tag' maps.shift maps.other_shift bases tags in
    walk_marked lengths base top tag origin item rest s
    ∙ first_same (fault_of lengths s (item ∷ [])) (fault_of lengths t (item' ∷ [])) (prints_of s (mark base tag item ∷ [])) (prints_of t (mark base' tag' item' ∷ []))
    (walk lengths (marked base top rest) (after_item lengths item s)) (walk lengths (marked base' top rest') (after_item lengths item' t))
    (fault_alike lengths s t item item' c.same_input e) (prints_alike base base' tag tag' k items s t)
    (marks_alike lengths base base' top (state_after lengths s (item ∷ [])) (state_after lengths t (item' ∷ [])) bases (states_alike lengths s t c items) below)
    ∙ sym (walk_marked lengths base' top tag' origin item' rest' t)
marks_alike {maps} lengths base base' top s t bases c (both_either {names} {tag} {tag'} {origin} {on} {on'} {on_yes} {on_yes'} {on_no} {on_no'} tags test p q) =
    let k = counted_alike base base' tag tag' maps.shift maps.other_shift bases tags in
    let m = max top (counted base tag) in
    if_walks (holds (operand_value s.names on)) (holds (operand_value t.names on')) (walk lengths (marked base m on_yes) s) (walk lengths (marked base m on_no) s)
    (walk lengths (marked base' m on_yes') t) (walk lengths (marked base' m on_no') t)
    (ap holds (operands_alike names s t on on' c test)) (marks_alike lengths base base' m s t bases c p) (marks_alike lengths base base' m s t bases c q)
    ∙ ap (λ (n : ℕ). walk lengths (Undecided tag' origin on' (marked base' (max top n) on_yes') (marked base' (max top n) on_no')) t) k
marks_alike {maps} lengths base base' top s t bases c (both_exit {names} {region} {tag} {tag'} {homes} {homes'} tags h) =
    ap (λ (n : ℕ). Leaves [] n (home_state s [])) (counted_alike base base' tag tag' maps.shift maps.other_shift bases tags)
    ∙ ap (λ (u : State). Leaves [] (counted base' tag') u) (home_states_alike names s t [] [] c tt)
marks_alike {maps} {names = names} lengths base base' top s t bases c both_stop = ap (λ (u : State). Leaves [] top u) (home_states_alike names s t [] [] c tt)
marks_alike {maps} {names = names} lengths base base' top s t bases c both_trap = ap (λ (u : State). Leaves [] top u) (home_states_alike names s t [] [] c tt)

-- ---- least tags

-- both have a least tag, with the shift between them, or neither has one
abbrev pub LeastAlike : (i j : ℕ) → Option ℕ → Option ℕ → Type 0
LeastAlike i j (Some a) (Some b) = a + i ≡ b + j
LeastAlike i j None None = Unit {0}
LeastAlike i j _ _ = ⊥

lesser_alike : (i j : ℕ) (a b c d : Option ℕ) → LeastAlike i j a b → LeastAlike i j c d → LeastAlike i j (lesser_tag a c) (lesser_tag b d)
lesser_alike i j None None c d h k = k
lesser_alike i j (Some a) (Some b) None None h k = h
lesser_alike i j (Some a) (Some b) (Some c) (Some d) h k = min_shift a c b d i j h k
lesser_alike i j (Some a) (Some b) None (Some d) h k = absurd k
lesser_alike i j (Some a) (Some b) (Some c) None h k = absurd k
lesser_alike i j None (Some b) c d h k = absurd h
lesser_alike i j (Some a) None c d h k = absurd h

pub least_alike : {maps : Maps} {forms forms' : ℕ → Form} {names : List Pair} {one other : Tree} → TreesAlike maps forms forms' names one other
    → LeastAlike maps.shift maps.other_shift (least_tag one) (least_tag other)
least_alike {maps} (both_then {tag = tag} {tag' = tag'} {rest = rest} {rest' = rest'} tags items dests below) =
    lesser_alike maps.shift maps.other_shift (Some tag) (Some tag') (least_tag rest) (least_tag rest') tags (least_alike below)
least_alike {maps} (both_either {tag = tag} {tag' = tag'} {on_yes = p} {on_yes' = p'} {on_no = q} {on_no' = q'} tags test yes_side no_side) =
    lesser_alike maps.shift maps.other_shift (Some tag) (Some tag') (lesser_tag (least_tag p) (least_tag q)) (lesser_tag (least_tag p') (least_tag q')) tags
    (lesser_alike maps.shift maps.other_shift (least_tag p) (least_tag p') (least_tag q) (least_tag q') (least_alike yes_side) (least_alike no_side))
least_alike (both_exit tags h) = tags
least_alike both_stop = tt
least_alike both_trap = tt

-- ---- the state of the other window

-- the name that corresponds to one on the other side
abbrev partner : List Pair → ℕ → ℕ
partner [] y = 0
partner (pair ∷ pairs) y = if nat_eq pair.other y then pair.one else partner pairs y

-- the state in which names have the values of those that correspond to them
abbrev pub partner_state : List Pair → State → State
partner_state pairs s = record { names = λ y. s.names (partner pairs y); cells = s.cells; input = s.input }

partner_is : (pairs : List Pair) (x y : ℕ) → corresponds pairs x y ≡ true → partner pairs y ≡ x
partner_is [] x y h = absurd (cc)
partner_is (pair ∷ pairs) x y h = by_one (nat_eq pair.one x) refl (nat_eq pair.other y) refl h (partner_is pairs x y)
  where
    by_one : (b : Bool) → nat_eq pair.one x ≡ b → (c : Bool) → nat_eq pair.other y ≡ c → (if b then c else (not c && corresponds pairs x y)) ≡ true
        → (corresponds pairs x y ≡ true → partner pairs y ≡ x) → (if c then pair.one else partner pairs y) ≡ x
    by_one true e true d k next = eqb-true pair.one x e
    by_one true e false d k next = absurd (cc)
    by_one false e true d k next = absurd (cc)
    by_one false e false d k next = next k

pub partner_corresponds : (pairs : List Pair) (s : State) → Correspond pairs s (partner_state pairs s)
partner_corresponds pairs s = record {
  same_names = λ x y h. ap s.names (sym (partner_is pairs x y h));
  same_cells = refl;
  same_input = refl;
}

-- operands that are alike have the same value
pub operands_alike_valued : (pairs : List Pair) (s t : State) → Correspond pairs s t → (a b : Operand) → OperandsAlike pairs a b → operand_value s.names a ≡ operand_value t.names b
operands_alike_valued pairs s t c (Name x) (Name y) h = c.same_names x y h
operands_alike_valued pairs s t c (Lit a) (Lit b) h = h
operands_alike_valued pairs s t c (Name x) (Lit b) h = absurd h
operands_alike_valued pairs s t c (Lit a) (Name y) h = absurd h
