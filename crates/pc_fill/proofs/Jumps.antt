-- Filling goes on from jump to jump, and ends.
use Rattle.std.proofs.Common.{◌≡◌, ℕ, suc, ◌+◌, ◌-◌, ◌*◌, ◌<◌, ◌≤◌, ◌^◌, Bool, Option, Some, None, length, sym, ◌∙◌, ap, subst, arith}
use Rattle.pc_word.specs.declared.item.Item.{Item}
use Rattle.pc_word.specs.declared.item.Limits.{Limits}
use Rattle.pc_linear.specs.Form.{Form}
use Rattle.pc_window.specs.declared.window.Window.{Window as StoredWindow}
use Rattle.pc_window.specs.Tree.{Tree, Front, Issued, Split, Unfinished, whole, tree_size}
use Rattle.pc_window.specs.Names.{uses}
use Rattle.pc_window.specs.Jump.{Rises, Root, Past_item, Past_yes, Past_no}
use Rattle.pc_window.specs.Filled.{item_count, test_count, MostBehind, front_size, HasSpace, IsWindow, Filled, Full, Goes_on}
use Rattle.pc_window.specs.Ready.{HasFresh, ReadyPlace}
use Rattle.pc_window.specs.Steps.{IsProper, FillsTo}
use Rattle.pc_window.specs.StoredWindow.{tree_in, front_in, window_in, NodesBehind}
use Rattle.pc_window.proofs.Filling.{jump_window}
use Rattle.pc_window.proofs.Proper.{fills_proper}
use Rattle.pc_window.proofs.Readiness.{jumps_were_ready}
use Rattle.pc_window.proofs.Sizes.{filling_bounded, jumps_count, size_mapped, most_entered}
use Rattle.pc_window.proofs.Unwinding.{used_below}
use Rattle.pc_fill.specs.declared.first.ReadyNode.{ReadyNode}
use Rattle.pc_fill.specs.FirstReady.{IsFirstReady}
use Rattle.pc_fill.specs.Fillable.{most_filled, IsFillable, FilledFrom}
use Rattle.pc_fill.specs.models.Landing.{HasCome}
use Rattle.pc_fill.specs.models.CanFill.{CanFill, GrowsTo}
use Rattle.pc_window.proofs.WindowsStored.{whole_in}
use Rattle.pc_fill.proofs.Coming.{FirstJumpTo, come_first}
use Rattle.pc_window.proofs.Proper.{StaysNew, jump_below}
use Rattle.pc_fill.proofs.StaysNew.{fresh_names, next_grows}

-- ---- sizes

size_risen : (forms : ℕ → Form) (tag origin : ℕ) (stood x : Item) (c : Bool) (from left : Tree) → Rises forms tag origin stood x c from left → suc (tree_size left) ≡ tree_size from
size_risen forms tag origin stood x c from left (Root rest unwritten) = ap suc (size_mapped _ rest)
size_risen forms tag origin stood x c from left (Past_item t o y d rest left' clear apart rises) = ap suc (size_risen forms tag origin stood x d rest left' rises)
size_risen forms tag origin stood x c from left (Past_yes t o on d p q left' is unwritten rises) = let a = size_risen forms tag origin stood x d p left' rises in omega arith
size_risen forms tag origin stood x c from left (Past_no t o on d p q left' is unwritten rises) = let a = size_risen forms tag origin stood x d q left' rises in omega arith

-- no leaf has more behind it than the whole
behind_whole : (n : ℕ) (f : Front) → tree_size (whole f) ≤ n → MostBehind n f
behind_whole n (Issued t o x rest) le = behind_whole n rest (omega arith)
behind_whole n (Split t o on p q) le = (behind_whole n p (omega arith), behind_whole n q (omega arith))
behind_whole n (Unfinished rest) le = le

-- and the whole is bounded by what stands behind the leaves
whole_size : (f : Front) → MostBehind 2048 f → tree_size (whole f) ≤ item_count f + test_count f + 2048 * suc (test_count f)
whole_size (Issued t o x rest) h = let a = whole_size rest h in omega arith
whole_size (Split t o on p q) h = let a = whole_size p h.0 in let b = whole_size q h.1 in omega arith
whole_size (Unfinished rest) h = omega arith

-- ---- from jump to jump

module _ (known : ℕ → Bool) (w : StoredWindow) (can : CanFill known w) where
  pub filling_small : tree_size (tree_in w.tree) < 2 ^ 31
  filling_small =
      let size = whole_size (front_in w.tree) can.most in
      let same : tree_size (whole (front_in w.tree)) ≡ tree_size (tree_in w.tree) = ap tree_size (whole_in w.tree) in
      let items = can.window.within.items in let tests = can.window.within.tests in let a = can.few in
      omega arith

  -- what has room leaves numbers for a name and a form variable
  has_left : (what : Option Item) → HasSpace w.limits what (front_in w.tree) → front_size (front_in w.tree) < w.limits.ops + w.limits.tests
  has_left (Some x) h = let a = h.0 in let b = can.window.within.tests in omega arith
  has_left None h = let a = can.window.within.items in omega arith

  pub names_left : (r : ReadyNode) → IsFirstReady known (window_in w) r → (length w.names.forms < 2 ^ 31) × (w.names.next_variable < 2 ^ 31)
  names_left r first = let a = has_left r.item first.stands.room in let b = can.names in let c = can.variables in (omega arith, omega arith)

  fresh_here : HasFresh known (window_in w)
  fresh_here = fresh_names known (window_in w) can.known_below (record { names_below = can.names_below; forms_below = can.forms_below })

  -- where nothing is ready, it is filled
  pub is_full : (ReadyPlace known (window_in w) → ⊥) → Filled known (window_in w) (window_in w)
  is_full never = Full (window_in w) (λ v jump. never (jumps_were_ready known (window_in w) v jump).0)

  module _ (r : ReadyNode) (first : IsFirstReady known (window_in w) r) (v : StoredWindow) (come : HasCome (window_in w) r (window_in v)) where
    pub jumps : FirstJumpTo known (window_in w) (window_in v)
    jumps = come_first known (window_in w) can.window fresh_here r first (window_in v) come

    one_more : front_size (front_in v.tree) ≡ suc (front_size (front_in w.tree))
    one_more = jumps_count known (window_in w) (window_in v) jumps.jump

    same_limits : v.limits ≡ w.limits
    same_limits = jumps.jump.limits

    -- it goes on with less room
    pub less_room : {t : ℕ} → w.limits.ops + w.limits.tests - front_size (front_in w.tree) ≡ t → v.limits.ops + v.limits.tests - front_size (front_in v.tree) < t
    less_room e =
        let a = has_left r.item first.stands.room in
        let b = one_more in
        let c : v.limits.ops ≡ w.limits.ops = ap (λ (l : Limits). l.ops) same_limits in
        let d : v.limits.tests ≡ w.limits.tests = ap (λ (l : Limits). l.tests) same_limits in
        omega arith

    pub can_go_on : NodesBehind v.tree → length v.names.forms ≤ length w.names.forms + 1 → v.names.next_variable ≤ w.names.next_variable + 1 → CanFill known v
    can_go_on nodes names variables =
        let j = jumps.jump in
        let b = one_more in
        let c : v.limits.ops ≡ w.limits.ops = ap (λ (l : Limits). l.ops) same_limits in
        let d : v.limits.tests ≡ w.limits.tests = ap (λ (l : Limits). l.tests) same_limits in
        let n = can.names in let m = can.variables in let x = can.few in
        let stays : StaysNew (window_in v) = jump_below known (window_in w) (window_in v) j (record { names_below = can.names_below; forms_below = can.forms_below }) in
        let later : length w.names.forms ≤ length v.names.forms = next_grows known (window_in w) (window_in v) j in
        record {
          window = jump_window known (window_in w) (window_in v) j can.window;
          names_below = stays.names_below;
          forms_below = stays.forms_below;
          known_below = λ z is. let less = can.known_below z is in omega arith;
          most = most_entered known (window_in w).forms (window_in v).forms j.new most_filled j.comes (front_in w.tree) (front_in v.tree) j.enters can.most;
          nodes = nodes;
          few = omega arith;
          names = omega arith;
          variables = omega arith;
        }

    pub fills_on : (u : StoredWindow) → Filled known (window_in v) (window_in u) → Filled known (window_in w) (window_in u)
    fills_on u filled = Goes_on (window_in w) (window_in v) (window_in u) jumps.jump jumps.first filled

    pub grows_on : length v.names.forms ≤ length w.names.forms + 1 → v.names.next_variable ≤ w.names.next_variable + 1 → (u : StoredWindow) → GrowsTo v u → GrowsTo w u
    grows_on names variables u h = let b = one_more in let n = h.names in let m = h.variables in record { nodes = h.nodes; names = omega arith; variables = omega arith }

-- ---- the whole

module _ (w : StoredWindow) (proper : IsProper (window_in w)) (fillable : IsFillable w) where
  first_whole : tree_size (whole (front_in w.tree)) ≡ tree_size (tree_in w.tree)
  first_whole = ap tree_size (whole_in w.tree)

  pub can_begin : (known : ℕ → Bool) → known ≡ uses (whole (front_in w.tree)) → w.limits.ops + w.limits.tests < 511 → CanFill known w
  can_begin known is few =
      let size = fillable.size in let same = first_whole in let n = fillable.names in let m = fillable.variables in
      record {
        window = subst (λ (k : ℕ → Bool). IsWindow k (window_in w)) (sym is) proper.window;
        names_below = proper.names_below;
        forms_below = proper.forms_below;
        known_below = λ x e. used_below (length w.names.forms) (whole (front_in w.tree)) x proper.names_below (sym (ap (λ (k : ℕ → Bool). k x) is) ∙ e);
        most = behind_whole most_filled (front_in w.tree) (omega arith);
        nodes = fillable.nodes;
        few = few;
        names = omega arith;
        variables = omega arith;
      }

  pub fills_whole : (known : ℕ → Bool) → known ≡ uses (whole (front_in w.tree)) → (v : StoredWindow) → Filled known (window_in w) (window_in v) → FillsTo (window_in w) (window_in v)
  fills_whole known is v filled = subst (λ (k : ℕ → Bool). Filled k (window_in w) (window_in v)) is filled

  pub proper_after : (known : ℕ → Bool) → known ≡ uses (whole (front_in w.tree)) → (v : StoredWindow) → Filled known (window_in w) (window_in v) → IsProper (window_in v)
  proper_after known is v filled = fills_proper (window_in w) (window_in v) (fills_whole known is v filled) proper

  pub filled_from : (known : ℕ → Bool) (v : StoredWindow) → Filled known (window_in w) (window_in v) → GrowsTo w v → FilledFrom w v
  filled_from known v filled h =
      let same = first_whole in
      record {
        nodes = h.nodes;
        behind = filling_bounded known (window_in w) (window_in v) filled (tree_size (tree_in w.tree)) (behind_whole (tree_size (tree_in w.tree)) (front_in w.tree) (omega arith));
        names = h.names;
        variables = h.variables;
      }
