-- The laws of what waits: what has no obstacle is ready and has room, and the other way round; and once a window was filled there is
-- nothing like that.
use Rattle.std.proofs.Common.{◌≡◌, ℕ, zero, suc, ◌+◌, ◌-◌, ◌<◌, ◌≤◌, Bool, true, false, List, [], ◌∷◌, ◌++◌, length, Option, Some, None, refl, sym, ap, ◌∙◌, subst, arith}
use Rattle.std.specs.Prelude.{if◌then◌else◌, nat_eq, slice_get}
use Rattle.pc_word.proofs.Lists.{all_at, all_imply}
use Rattle.pc_word.proofs.Places.{get_front}
use Rattle.std.proofs.lemmas.Bool.Decides.{nat_tests}
use Rattle.pc_word.specs.declared.item.Item.{Item}
use Rattle.pc_word.specs.declared.item.Limits.{Limits}
use Rattle.pc_word.specs.declared.item.Operand.{Operand}
use Rattle.pc_word.specs.declared.item.Operand.TheVariants.{Name, Lit}
use Rattle.pc_word.specs.Items.{is_memory, operands_of}
use Rattle.pc_linear.specs.Form.{Form}
use Rattle.pc_window.specs.Tree.{Tree, Front, whole, tree_size}
use Rattle.pc_window.specs.Names.{IsKnown, uses}
use Rattle.pc_window.specs.Opening.{Supply}
use Rattle.pc_window.specs.Ready.{CanRise, Stands_here, Stands_below, Stands_on_yes, Stands_on_no, CanDivide, Divides_here, Divides_below, IsReadyAt, Item_ready, Test_ready, HasFresh}
use Rattle.pc_window.specs.Ready.{Ready_below, Ready_on_yes, Ready_on_no, ReadyPlace}
use Rattle.pc_window.specs.Filled.{item_count, memory_count, test_count, HasSpace, Jump, Filled, Full, Goes_on}
use Rattle.pc_window.specs.WindowRun.{Window, supply_of}
use Rattle.pc_window.specs.Steps.{IsProper, FillsTo}
use Rattle.pc_window.proofs.Filling.{filling_window}
use Rattle.pc_window.proofs.Parameters.{parameters_known}
use Rattle.pc_window.proofs.Proper.{StaysNew, jump_below, given_next, fills_proper, tree_new, without_new}
use Rattle.pc_window.proofs.Readiness.{ready_jumps}
use Rattle.pc_window.proofs.Unwinding.{used_below}
use Rattle.pc_waiting.specs.declared.obstacle.Obstacle.{Obstacle}
use Rattle.pc_waiting.specs.declared.obstacle.Resource.{Resource}
use Rattle.pc_waiting.specs.declared.obstacle.Resource.TheVariants.{Items, Tests, Memory}
use Rattle.pc_waiting.specs.declared.obstacle.Waiting.{Waiting}
use Rattle.pc_waiting.specs.declared.path.Kind.TheVariants as kind
use Rattle.pc_waiting.specs.declared.path.Above.{Above}
use Rattle.pc_waiting.specs.Waiting.{Standing, standing_in, standing_behind, standing_of, no_room, lacking, room_of, needed, FirstObstacle, Is_needed, Is_in_way, Is_room}
use Rattle.pc_waiting.specs.Waiting.{HasObstacle, waits_for, AreWaiting, No_more, One_waits, One_is_free}
use Rattle.pc_waiting.specs.Laws.{IsReady, ReadyMeansFree, FreeMeansReady, StandsAmong, WhatIsReadyStands, Tells, NothingWaitsWithoutReason}
use Rattle.pc_waiting.proofs.Needs.{neither, NeedsWhatIsUnknown, front_needs}
use Rattle.pc_waiting.proofs.Ways.{AllPass, all_pass, none_stops}
use Rattle.pc_waiting.proofs.Standing.{StandsBehind, all_stand_behind}

-- ---- room

some_room : (left : ℕ) (resource : Resource) → no_room left resource ≡ None → 0 < left
some_room zero resource e = absurd (cc)
some_room (suc n) resource e = omega arith

has_room : (left : ℕ) (resource : Resource) → 0 < left → no_room left resource ≡ None
has_room zero resource h = absurd (omega arith)
has_room (suc n) resource h = let e : nat_eq (suc n) 0 ≡ false = grind (arith, nat_tests) in rw e refl

module _ (limits : Limits) (front : Front) where
  space_left : (what : Option Item) → lacking (room_of limits front) what ≡ None → HasSpace limits what front
  space_left None e = let h = some_room (limits.tests - test_count front) Tests e in omega arith
  space_left (Some x) e =
      let both = neither (no_room (limits.ops - item_count front) Items) (if is_memory x then no_room (limits.mem - memory_count front) Memory else None) e in
      let h = some_room (limits.ops - item_count front) Items both.0 in (
        omega arith,
        λ touches.
            let none : no_room (limits.mem - memory_count front) Memory ≡ None = rw touches at both.1 in
            let k = some_room (limits.mem - memory_count front) Memory none in
            omega arith,
      )

  nothing_lacks : (what : Option Item) → HasSpace limits what front → lacking (room_of limits front) what ≡ None
  nothing_lacks None h = has_room (limits.tests - test_count front) Tests (omega arith)
  nothing_lacks (Some x) h =
      let items = h.0 in
      rw (has_room (limits.ops - item_count front) Items (omega arith)) (by (is_memory x) h.1)
    where
      by : (b : Bool) → (b ≡ true → memory_count front < limits.mem)
          → (if b then no_room (limits.mem - memory_count front) Memory else (let none : Option Obstacle = None in none)) ≡ None
      by true memory = let m = memory refl in has_room (limits.mem - memory_count front) Memory (omega arith)
      by false memory = refl

-- ---- what has no obstacle

module _ (first : ℕ) (w : Window) (proper : IsProper w) (n : ℕ) (it : Standing) (there : slice_get (standing_of w.front) n ≡ Some it) where
  needs_here : NeedsWhatIsUnknown (uses (whole w.front)) first it
  needs_here =
      all_at (NeedsWhatIsUnknown (uses (whole w.front)) first) (standing_of w.front) n it (front_needs (uses (whole w.front)) first w.front [] 0 tt proper.window.scoped) there

  stands_here : StandsBehind w.forms (uses (whole w.front)) [] 0 w.front it
  stands_here =
      all_at (StandsBehind w.forms (uses (whole w.front)) [] 0 w.front) (standing_of w.front) n it (all_stand_behind w.forms (uses (whole w.front)) w.front [] 0) there

  free_is_ready : (found : Option Obstacle) → FirstObstacle w.forms first (room_of w.limits w.front) it.above it.what it.operands found → found ≡ None → IsReady w it
  free_is_ready found (Is_needed obstacle e) f = absurd (cc)
  free_is_ready found (Is_in_way obstacle e h) f = absurd (cc)
  free_is_ready found (Is_room e h) f =
      let s = stands_here in
      let r = s.out (needs_here.free e) (all_pass w.forms first it.what it.above None h refl) in
      let same : s.k ≡ it.place = (let at = s.at in omega arith) in
      record {
        ready = subst (λ (k : ℕ). IsReadyAt (uses (whole w.front)) w.forms it.tag it.origin k it.what w.front) same r.0;
        room = space_left w.limits w.front it.what f;
      }

  ready_is_free : IsReady w it → (found : Option Obstacle) → FirstObstacle w.forms first (room_of w.limits w.front) it.above it.what it.operands found → found ≡ None
  ready_is_free ready found h =
      let s = stands_here in
      let same : it.place ≡ s.k = (let at = s.at in omega arith) in
      let r = s.into (subst (λ (k : ℕ). IsReadyAt (uses (whole w.front)) w.forms it.tag it.origin k it.what w.front) same ready.ready) tt in
      by found h (needs_here.known r.0) r.1
    where
      by : (found : Option Obstacle) → FirstObstacle w.forms first (room_of w.limits w.front) it.above it.what it.operands found → needed first it.above it.operands ≡ None
          → AllPass w.forms it.what it.above → found ≡ None
      by found (Is_needed obstacle e) none pass = absurd (cc)
      by found (Is_in_way obstacle e h) none pass = none_stops w.forms first it.what it.above (Some obstacle) h pass
      by found (Is_room e h) none pass = nothing_lacks w.limits w.front it.what ready.room

pub free_means_ready : FreeMeansReady
free_means_ready first w proper n it there h = free_is_ready first w proper n it there None h refl

pub ready_means_free : ReadyMeansFree
ready_means_free first w proper n it there ready obstacle h = let e = ready_is_free first w proper n it there ready (Some obstacle) h in cc

-- ---- what is ready stands behind the front

-- what stands behind a list
get_behind : (xs ys : List Standing) (i : ℕ) → slice_get (xs ++ ys) (length xs + i) ≡ slice_get ys i
get_behind [] ys i = let e : 0 + i ≡ i = omega arith in ap (slice_get ys) e
get_behind (x ∷ xs) ys i = let e : suc (length xs) + i ≡ suc (length xs + i) = omega arith in ap (slice_get (x ∷ xs ++ ys)) e ∙ get_behind xs ys i

module _ (tag origin : ℕ) (what : Option Item) where
  in_more : (one : Standing) (standing : List Standing) (m n : ℕ) → m ≡ n → StandsAmong standing tag origin m what → StandsAmong (one ∷ standing) tag origin n what
  in_more one standing m n e h = record {
    number = suc h.number;
    it = h.it;
    there = h.there;
    same_tag = h.same_tag;
    same_origin = h.same_origin;
    same_place = h.same_place ∙ e;
    same_what = h.same_what;
  }

  in_front : (xs ys : List Standing) (m n : ℕ) → m ≡ n → StandsAmong xs tag origin m what → StandsAmong (xs ++ ys) tag origin n what
  in_front xs ys m n e h = record {
    number = h.number;
    it = h.it;
    there = get_front xs ys h.number h.it h.there;
    same_tag = h.same_tag;
    same_origin = h.same_origin;
    same_place = h.same_place ∙ e;
    same_what = h.same_what;
  }

  in_back : (xs ys : List Standing) (m n : ℕ) → m ≡ n → StandsAmong ys tag origin m what → StandsAmong (xs ++ ys) tag origin n what
  in_back xs ys m n e h = record {
    number = length xs + h.number;
    it = h.it;
    there = get_behind xs ys h.number ∙ h.there;
    same_tag = h.same_tag;
    same_origin = h.same_origin;
    same_place = h.same_place ∙ e;
    same_what = h.same_what;
  }

  in_place : (xs : List Standing) (m n : ℕ) → m ≡ n → StandsAmong xs tag origin m what → StandsAmong xs tag origin n what
  in_place xs m n e h = subst (λ (k : ℕ). StandsAmong xs tag origin k what) e h

riser_stands : (forms : ℕ → Form) (x : Item) (tag origin k : ℕ) (c : Bool) (tree : Tree) → CanRise forms x tag origin k c tree → (above : List Above) (place : ℕ)
    → StandsAmong (standing_in above place tree) tag origin (place + k) (Some x)
riser_stands forms x tag origin k c tree (Stands_here rest) above place =
    record { number = 0; it = _; there = refl; same_tag = refl; same_origin = refl; same_place = omega arith; same_what = refl }
riser_stands forms x tag origin k c tree (Stands_below t o y j d rest clear can) above place =
    let last : Above = record { tag = t; origin = o; kind = kind.Pending y } in
    in_more tag origin (Some x) _ (standing_in (last ∷ above) (suc place) rest) (suc place + j) (place + suc j) (omega arith)
    (riser_stands forms x tag origin j d rest can (last ∷ above) (suc place))
riser_stands forms x tag origin k c tree (Stands_on_yes t o on j d p q quiet can) above place =
    let last : Above = record { tag = t; origin = o; kind = kind.Undecided } in
    in_more tag origin (Some x) _ _ (place + suc j) (place + suc j) refl
    (in_front tag origin (Some x) (standing_in (last ∷ above) (suc place) p) (standing_in (last ∷ above) (suc (place + tree_size p)) q) (suc place + j) (place + suc j) (omega arith)
    (riser_stands forms x tag origin j d p can (last ∷ above) (suc place)))
riser_stands forms x tag origin k c tree (Stands_on_no t o on j d p q quiet can) above place =
    let last : Above = record { tag = t; origin = o; kind = kind.Undecided } in
    in_more tag origin (Some x) _ _ (place + suc (tree_size p + j)) (place + suc (tree_size p + j)) refl
    (in_back tag origin (Some x) (standing_in (last ∷ above) (suc place) p) (standing_in (last ∷ above) (suc (place + tree_size p)) q) (suc (place + tree_size p) + j)
    (place + suc (tree_size p + j)) (omega arith) (riser_stands forms x tag origin j d q can (last ∷ above) (suc (place + tree_size p))))

test_stands : (on : Operand) (tag origin k : ℕ) (tree : Tree) → CanDivide on tag origin k tree → (above : List Above) (place : ℕ)
    → StandsAmong (standing_in above place tree) tag origin (place + k) None
test_stands on tag origin k tree (Divides_here p q) above place =
    record { number = 0; it = _; there = refl; same_tag = refl; same_origin = refl; same_place = omega arith; same_what = refl }
test_stands on tag origin k tree (Divides_below t o y j rest can) above place =
    let last : Above = record { tag = t; origin = o; kind = kind.Pending y } in
    in_more tag origin None _ (standing_in (last ∷ above) (suc place) rest) (suc place + j) (place + suc j) (omega arith)
    (test_stands on tag origin j rest can (last ∷ above) (suc place))

ready_stands : (known : ℕ → Bool) (forms : ℕ → Form) (tag origin k : ℕ) (what : Option Item) (front : Front) → IsReadyAt known forms tag origin k what front
    → (above : List Above) (place : ℕ) → StandsAmong (standing_behind above place front) tag origin (place + k) what
ready_stands known forms tag origin k what front (Item_ready x j c from reads can) above place = riser_stands forms x tag origin j c from can above place
ready_stands known forms tag origin k what front (Test_ready on j from reads can) above place = test_stands on tag origin j from can above place
ready_stands known forms tag origin k what front (Ready_below t o y j w rest may ready) above place =
    let last : Above = record { tag = t; origin = o; kind = kind.Issued y } in
    in_place tag origin what (standing_behind (last ∷ above) (suc place) rest) (suc place + j) (place + suc j) (omega arith)
    (ready_stands known forms tag origin j w rest ready (last ∷ above) (suc place))
ready_stands known forms tag origin k what front (Ready_on_yes t o on j w p q ready) above place =
    in_front tag origin what (standing_behind above (suc place) p) (standing_behind above (suc (place + tree_size (whole p))) q) (suc place + j) (place + suc j) (omega arith)
    (ready_stands known forms tag origin j w p ready above (suc place))
ready_stands known forms tag origin k what front (Ready_on_no t o on j w p q ready) above place =
    in_back tag origin what (standing_behind above (suc place) p) (standing_behind above (suc (place + tree_size (whole p))) q) (suc (place + tree_size (whole p)) + j)
    (place + suc (tree_size (whole p) + j)) (omega arith) (ready_stands known forms tag origin j w q ready above (suc (place + tree_size (whole p))))

pub what_is_ready_stands : WhatIsReadyStands
what_is_ready_stands known w r =
    in_place r.tag r.origin r.what (standing_of w.front) (0 + r.place) r.place (omega arith) (ready_stands known w.forms r.tag r.origin r.place r.what w.front r.ready [] 0)

-- ---- windows that were filled

-- nothing jumps any more
full : (known : ℕ → Bool) (w v u : Window) → Filled known w v → Jump known v u → ⊥
full known w v u (Full w' none) jump = none u jump
full known w v u (Goes_on w' x v' first is filled) jump = full known x v' u filled jump

-- new names stay new
later_names : (known : ℕ → Bool) (w v : Window) → Filled known w v → StaysNew w → StaysNew v × (w.next ≤ v.next)
later_names known w v (Full w' none) new = (new, omega arith)
later_names known w v (Goes_on w' x v' jump is filled) new =
    let h = later_names known x v' filled (jump_below known w' x jump new) in
    let rest = h.1 in
    let one : w'.next ≤ x.next = subst (λ (names : Supply). w'.next ≤ names.next) (sym jump.names) (given_next (supply_of w') jump.new jump.comes) in
    (h.0, omega arith)

fresh_later : (w v : Window) → IsProper w → FillsTo w v → HasFresh (uses (whole w.front)) v
fresh_later w v proper filled =
    let h = later_names (uses (whole w.front)) w v filled (record { names_below = proper.names_below; forms_below = proper.forms_below }) in
    let later = h.1 in
    record {
      unknown = elim (uses (whole w.front) v.next) as (λ b. uses (whole w.front) v.next ≡ b → b ≡ false) [
        | false ↦ λ e. refl
        | true ↦ λ e. absurd (let less = used_below w.next (whole w.front) v.next proper.names_below e in omega arith)
      ] refl;
      unwritten = tree_new v.next (whole v.front) h.0.names_below;
      without = λ x. without_new v.next_variable (v.forms x).terms (h.0.forms_below.form x);
    }

-- what is ready stays so where more is known
operand_more : (few more : ℕ → Bool) → ((x : ℕ) → few x ≡ true → more x ≡ true) → (o : Operand) → IsKnown few o → IsKnown more o
operand_more few more within (Name x) h = within x h
operand_more few more within (Lit value) h = tt

ready_more : (few more : ℕ → Bool) → ((x : ℕ) → few x ≡ true → more x ≡ true) → (forms : ℕ → Form) (tag origin place : ℕ) (what : Option Item) (front : Front)
    → IsReadyAt few forms tag origin place what front → IsReadyAt more forms tag origin place what front
ready_more few more within forms tag origin place what front (Item_ready x n c from reads can) =
    Item_ready x n c from (all_imply (IsKnown few) (IsKnown more) (operands_of x) (operand_more few more within) reads) can
ready_more few more within forms tag origin place what front (Test_ready on n from reads can) = Test_ready on n from (operand_more few more within on reads) can
ready_more few more within forms tag origin place what front (Ready_below t o y n w rest may ready) =
    Ready_below t o y n w rest may (ready_more few more within forms tag origin n w rest ready)
ready_more few more within forms tag origin place what front (Ready_on_yes t o on n w p q ready) =
    Ready_on_yes t o on n w p q (ready_more few more within forms tag origin n w p ready)
ready_more few more within forms tag origin place what front (Ready_on_no t o on n w p q ready) =
    Ready_on_no t o on n w p q (ready_more few more within forms tag origin n w q ready)

-- so nothing is ready and has room
none_ready : (w v : Window) → IsProper w → FillsTo w v → (it : Standing) → IsReady v it → ⊥
none_ready w v proper filled it ready =
    let known = uses (whole w.front) in
    let is = filling_window known w v filled proper.window in
    let r : ReadyPlace known v = record {
      tag = it.tag;
      origin = it.origin;
      place = it.place;
      what = it.what;
      ready = ready_more (uses (whole v.front)) known (parameters_known (whole v.front) known is.scoped) v.forms it.tag it.origin it.place it.what v.front ready.ready;
      room = ready.room;
    } in
    let jump = ready_jumps known v is (fresh_later w v proper filled) r in
    full known w v jump.0 filled jump.1

-- each of a list has its entry where none of it is free
each_told : (first : ℕ) (v : Window) (standing : List Standing) (found : List Waiting) → AreWaiting v.forms first (room_of v.limits v.front) standing found
    → ((n : ℕ) (it : Standing) → slice_get standing n ≡ Some it → HasObstacle first v it None → ⊥)
    → (n : ℕ) (it : Standing) → slice_get standing n ≡ Some it → (entry : Waiting) × (slice_get found n ≡ Some entry) × Tells first v it entry
each_told first v standing found No_more none n it there = absurd (cc)
each_told first v standing found (One_waits one others obstacle more holds rest) none zero it there =
    let same : one ≡ it = cc in
    (waits_for first one obstacle, refl, subst (λ (it : Standing). Tells first v it (waits_for first one obstacle)) same (record { obstacle = obstacle; is = refl; keeps = holds }))
each_told first v standing found (One_waits one others obstacle more holds rest) none (suc n) it there = each_told first v others more rest (λ k. none (suc k)) n it there
each_told first v standing found (One_is_free one others more free rest) none n it there = absurd (none 0 one refl free)

pub nothing_waits_without_reason : NothingWaitsWithoutReason
nothing_waits_without_reason first w v proper filled found waits n it there =
    each_told first v (standing_of v.front) found waits
    (λ k one stands free. none_ready w v proper filled one (free_means_ready first v (fills_proper w v filled proper) k one stands free)) n it there
