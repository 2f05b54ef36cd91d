-- Two items that become one, as if they had one tag and origin: these matter neither to what is read below nor to what is left.
use Rattle.std.proofs.Common.{ℕ, suc, Bool, Option, Some, None, refl, arith}
use Rattle.pc_word.specs.declared.item.Item.{Item}
use Rattle.pc_linear.specs.Form.{Form}
use Rattle.pc_window.specs.Tree.{Tree, Pending, Undecided, Front, Issued, Split, Unfinished, whole}
use Rattle.pc_window.specs.Opening.{Supply, TreeBelow, FormsBelow}
use Rattle.pc_window.specs.WindowRun.{Window}
use Rattle.pc_window.specs.Filled.{Jump, TwinsAlike, given_supply, IsNext, HasSpace, item_count, memory_count, test_count}
use Rattle.pc_window.specs.Jump.{Rises, Root, Past_item, Past_yes, Past_no, EntersFront, Lands, Lands_renamed, Lands_test, Lands_once, Behind_item, On_yes, On_no}
use Rattle.pc_window.proofs.Proper.{StaysNew, jump_below}

module _ (n : ℕ) (forms : ℕ → Form) (tag origin tag' origin' : ℕ) (stood x : Item) where
  -- the same with another tag and origin
  pub record RisesAlike (crosses : Bool) (from left : Tree) : Type 0 where
    pub tree : Tree
    pub rises : Rises forms tag origin stood x crosses tree left
    pub below : TreeBelow n from → TreeBelow n tree

  rises_alike : (crosses : Bool) (from left : Tree) → Rises forms tag' origin' stood x crosses from left → RisesAlike crosses from left
  rises_alike crosses from left (Root rest unwritten) = record { tree = Pending tag origin stood rest; rises = Root rest unwritten; below = λ b. b }
  rises_alike crosses from left (Past_item t o y c rest l clear apart rises) =
      let k = rises_alike c rest l rises in
      record { tree = Pending t o y k.tree; rises = Past_item t o y c k.tree l clear apart k.rises; below = λ b. (b.0, k.below b.1) }
  rises_alike crosses from left (Past_yes t o on c p q l is unwritten rises) =
      let k = rises_alike c p l rises in
      record { tree = Undecided t o on k.tree q; rises = Past_yes t o on c k.tree q l is unwritten k.rises; below = λ b. (b.0, k.below b.1, b.2) }
  rises_alike crosses from left (Past_no t o on c p q l is unwritten rises) =
      let k = rises_alike c q l rises in
      record { tree = Undecided t o on p k.tree; rises = Past_no t o on c p k.tree l is unwritten k.rises; below = λ b. (b.0, b.1, k.below b.2) }

module _ (n : ℕ) (known : ℕ → Bool) (forms forms' : ℕ → Form) (new : Option ℕ) where
  pub record EntersAlike (comes : Option Item) (from to : Front) : Type 0 where
    pub front : Front
    pub enters : EntersFront known forms forms' new comes front to
    pub twins : TwinsAlike enters
    pub below : TreeBelow n (whole from) → TreeBelow n (whole front)

  enters_alike : (comes : Option Item) (from to : Front) → EntersFront known forms forms' new comes from to → EntersAlike comes from to
  enters_alike comes from to (Lands tag origin x t left reads isnew none same rises) =
      record { front = Unfinished t; enters = Lands tag origin x t left reads isnew none same rises; twins = tt; below = λ b. b }
  enters_alike comes from to (Lands_renamed tag origin name stood t left reads isnew is gives rises) =
      record { front = Unfinished t; enters = Lands_renamed tag origin name stood t left reads isnew is gives rises; twins = tt; below = λ b. b }
  enters_alike comes from to (Lands_test tag origin on t p q reads none same divides) =
      record { front = Unfinished t; enters = Lands_test tag origin on t p q reads none same divides; twins = tt; below = λ b. b }
  enters_alike comes from to (Lands_once t o on tag origin tag' origin' name stood other c c' p q l k equal reads isnew is gives rises rises') =
      let r = rises_alike n forms tag origin tag' origin' other _ c' q k rises' in
      record {
        front = Split t o on (Unfinished p) (Unfinished r.tree);
        enters = Lands_once t o on tag origin tag origin name stood other c c' p r.tree l k equal reads isnew is gives rises r.rises;
        twins = (refl, refl);
        below = λ b. (b.0, b.1, r.below b.2);
      }
  enters_alike comes from to (Behind_item t o y c rest rest' may apart enters) =
      let k = enters_alike c rest rest' enters in
      record { front = Issued t o y k.front; enters = Behind_item t o y c k.front rest' may apart k.enters; twins = k.twins; below = λ b. (b.0, k.below b.1) }
  enters_alike comes from to (On_yes t o on c p q p' apart enters) =
      let k = enters_alike c p p' enters in
      record { front = Split t o on k.front q; enters = On_yes t o on c k.front q p' apart k.enters; twins = k.twins; below = λ b. (b.0, k.below b.1, b.2) }
  enters_alike comes from to (On_no t o on c p q q' apart enters) =
      let k = enters_alike c q q' enters in
      record { front = Split t o on p k.front; enters = On_no t o on c p k.front q' apart k.enters; twins = k.twins; below = λ b. (b.0, b.1, k.below b.2) }

-- ---- what is new stays new

-- a window of a front
front_window : Front → Supply → Window
front_window front names = record {
  front = front;
  forms = names.forms;
  next = names.next;
  next_variable = names.next_variable;
  limits = record { ops = suc (item_count front); tests = suc (test_count front); mem = suc (memory_count front) };
  inside = None;
}

-- its limits leave room
wide_space : (comes : Option Item) (front : Front) (names : Supply) → HasSpace (front_window front names).limits comes front
unfolding front_window
wide_space (Some x) front names = (omega arith, λ is. omega arith)
wide_space None front names = omega arith

-- what a window with the same limits is afterwards
after_window : Front → Front → Supply → Window
after_window front to names = record {
  front = to;
  forms = names.forms;
  next = names.next;
  next_variable = names.next_variable;
  limits = (front_window front names).limits;
  inside = None;
}

pub stays_new : (names : Supply) (new : Option ℕ) (comes : Option Item) (known : ℕ → Bool) (from to : Front) → IsNext names.next new
    → EntersFront known names.forms (given_supply names new comes).forms new comes from to → FormsBelow names → TreeBelow names.next (whole from)
    → TreeBelow (given_supply names new comes).next (whole to) × FormsBelow (given_supply names new comes)
unfolding front_window after_window
stays_new names new comes known from to next enters forms_below below =
    let after = given_supply names new comes in
    let k = enters_alike names.next known names.forms after.forms new comes from to enters in
    let jump : Jump known (front_window k.front names) (after_window k.front to after) = record {
      new = new;
      comes = comes;
      enters = k.enters;
      next = next;
      names = refl;
      twins = k.twins;
      room = wide_space comes k.front names;
      limits = refl;
      inside = refl;
    } in
    let stays : StaysNew (after_window k.front to after) =
    jump_below known (front_window k.front names) (after_window k.front to after) jump (record { names_below = k.below below; forms_below = forms_below }) in
    (stays.names_below, stays.forms_below)
