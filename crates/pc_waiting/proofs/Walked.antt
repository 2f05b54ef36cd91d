-- The walk through a window, part by part.
use Rattle.std.proofs.Common.{◌≡◌, ℕ, suc, ◌+◌, List, [], ◌∷◌, ◌++◌, Some, None, sym, ◌∙◌, ap, append-nil, append_assoc}
use Rattle.pc_word.specs.declared.item.Item.{Item}
use Rattle.pc_word.specs.declared.item.Operand.{Operand}
use Rattle.pc_word.specs.Items.{operands_of}
use Rattle.pc_linear.specs.Form.{Form}
use Rattle.pc_window.specs.Tree.{Tree, Pending, Undecided, Exit, Stop_exit, Trap_exit, Front, Issued, Split, Unfinished, whole, tree_size}
use Rattle.pc_waiting.specs.declared.obstacle.Waiting.{Waiting}
use Rattle.pc_waiting.specs.declared.path.Kind.TheVariants as kind
use Rattle.pc_waiting.specs.declared.path.Above.{Above}
use Rattle.pc_waiting.specs.declared.room.Room.{Room}
use Rattle.pc_waiting.specs.declared.walk.Setting.{Setting}
use Rattle.pc_waiting.specs.Waiting.{Standing, AreWaiting, No_more, One_waits, One_is_free}
use Rattle.pc_waiting.specs.models.Walk.{forms_of, LooksAt, LooksBehind, LooksThrough}

-- entries of two lists are entries of both
pub both_wait : (forms : ℕ → Form) (first : ℕ) (room : Room) (a b : List Standing) (x y : List Waiting) → AreWaiting forms first room a x → AreWaiting forms first room b y
    → AreWaiting forms first room (a ++ b) (x ++ y)
both_wait forms first room a b x y No_more k = k
both_wait forms first room a b x y (One_waits it others obstacle found holds h) k =
    One_waits it (others ++ b) obstacle (found ++ y) holds (both_wait forms first room others b found y h k)
both_wait forms first room a b x y (One_is_free it others found free h) k = One_is_free it (others ++ b) (x ++ y) free (both_wait forms first room others b x y h k)

-- two lists appended one after the other
both_appended : (before mid after x y : List Waiting) → mid ≡ before ++ x → after ≡ mid ++ y → after ≡ before ++ (x ++ y)
both_appended before mid after x y p q = q ∙ ap (λ (l : List Waiting). l ++ y) p ∙ append_assoc before x y

module _ (s : Setting) (above : List Above) where
  -- ---- behind the front

  pub item_behind : (tag origin : ℕ) (item : Item) (rest : Tree) (before mid after : List Waiting)
      → LooksAt s above tag origin (Some item) (operands_of item) before mid
      → LooksBehind s (record { tag = tag; origin = origin; kind = kind.Pending item } ∷ above) rest mid after
      → LooksBehind s above (Pending tag origin item rest) before after
  item_behind tag origin item rest before mid after h k = record {
    more = h.more ++ k.more;
    appends = both_appended before mid after h.more k.more h.appends k.appends;
    waits = λ place. both_wait (forms_of s) s.first s.room _ _ h.more k.more (h.waits place) (k.waits (suc place));
  }

  pub test_behind : (tag origin : ℕ) (on : Operand) (on_yes on_no : Tree) (before mid then_yes after : List Waiting)
      → LooksAt s above tag origin None (on ∷ []) before mid
      → LooksBehind s (record { tag = tag; origin = origin; kind = kind.Undecided } ∷ above) on_yes mid then_yes
      → LooksBehind s (record { tag = tag; origin = origin; kind = kind.Undecided } ∷ above) on_no then_yes after
      → LooksBehind s above (Undecided tag origin on on_yes on_no) before after
  test_behind tag origin on on_yes on_no before mid then_yes after h k l = record {
    more = h.more ++ (k.more ++ l.more);
    appends = both_appended before mid after h.more (k.more ++ l.more) h.appends (both_appended mid then_yes after k.more l.more k.appends l.appends);
    waits = λ place. both_wait (forms_of s) s.first s.room _ _ h.more (k.more ++ l.more) (h.waits place)
        (both_wait (forms_of s) s.first s.room _ _ k.more l.more (k.waits (suc place)) (l.waits (suc (place + tree_size on_yes))));
  }

  pub exit_behind : (region tag : ℕ) (homes : _) (before : List Waiting) → LooksBehind s above (Exit region tag homes) before before
  exit_behind region tag homes before = record { more = []; appends = sym (append-nil before); waits = λ place. No_more }

  pub stop_behind : (before : List Waiting) → LooksBehind s above Stop_exit before before
  stop_behind before = record { more = []; appends = sym (append-nil before); waits = λ place. No_more }

  pub trap_behind : (what : _) (line : ℕ) (before : List Waiting) → LooksBehind s above (Trap_exit what line) before before
  trap_behind what line before = record { more = []; appends = sym (append-nil before); waits = λ place. No_more }

  -- ---- in the front

  pub item_through : (tag origin : ℕ) (item : Item) (rest : Front) (before after : List Waiting)
      → LooksThrough s (record { tag = tag; origin = origin; kind = kind.Issued item } ∷ above) rest before after
      → LooksThrough s above (Issued tag origin item rest) before after
  item_through tag origin item rest before after h = record { more = h.more; appends = h.appends; waits = λ place. h.waits (suc place) }

  pub test_through : (tag origin : ℕ) (on : Operand) (on_yes on_no : Front) (before mid after : List Waiting)
      → LooksThrough s above on_yes before mid → LooksThrough s above on_no mid after → LooksThrough s above (Split tag origin on on_yes on_no) before after
  test_through tag origin on on_yes on_no before mid after h k = record {
    more = h.more ++ k.more;
    appends = both_appended before mid after h.more k.more h.appends k.appends;
    waits = λ place. both_wait (forms_of s) s.first s.room _ _ h.more k.more (h.waits (suc place)) (k.waits (suc (place + tree_size (whole on_yes))));
  }

  pub leaf_through : (rest : Tree) (before after : List Waiting) → LooksBehind s above rest before after → LooksThrough s above (Unfinished rest) before after
  leaf_through rest before after h = record { more = h.more; appends = h.appends; waits = h.waits }

pub ruleset walking = (item_behind, test_behind, exit_behind, stop_behind, trap_behind)

pub ruleset going = (item_through, test_through, leaf_through, exit_behind, stop_behind, trap_behind)
