-- What is ready can come into the front, and what comes was ready.
use Rattle.std.proofs.Common.{◌≡◌, ℕ, suc, Bool, true, false, List, Option, Some, None, refl, sym, ◌∙◌, ap, subst, ◌⊎◌, inl, inr, ◌+◌, arith}
use Rattle.std.specs.Prelude.{◌||◌, ◌&&◌, nat_eq}
use Rattle.std.specs.List.{AllByRecursion}
use Rattle.std.proofs.lemmas.Bool.{eqb-true, eq-eqb}
use Rattle.pc_word.specs.declared.item.Item.{Item}
use Rattle.pc_word.specs.declared.item.Item.TheVariants.{Bin, Copy, Load, Store, Print, Read, More}
use Rattle.pc_word.specs.declared.item.Limits.{Limits}
use Rattle.pc_word.specs.declared.item.Operand.{Operand}
use Rattle.pc_word.specs.Items.{dest_of, is_effect, is_memory, operands_of, only_computes, reads}
use Rattle.pc_word.specs.Commit.{writes}
use Rattle.pc_window.specs.Filled.{given_supply, IsNext, HasSpace, TwinsAlike, risen_place, divided_place, priority_of, Priority, InOrder}
use Rattle.pc_window.specs.Opening.{with_name, changed}
use Rattle.pc_window.specs.WindowRun.{supply_of}
use Rattle.pc_window.specs.Tree.{Tree, Pending, Undecided, Exit, Stop_exit, Trap_exit, Front, Issued, Split, Unfinished, whole, tree_size}
use Rattle.pc_linear.specs.Form.{Form}
use Rattle.pc_linear.specs.Combine.{variable_form}
use Rattle.pc_window.specs.Names.{IsKnown, IsNew, ReadsKnown, and_dest, Scoped, Unwritten, NotWritten}
use Rattle.pc_window.specs.Rename.{mapped}
use Rattle.pc_window.specs.declared.conflict.Touch.{Touch}
use Rattle.pc_window.specs.Conflict.{touch_of, NoDependence, NoStoreDependence, NoConflict, MayFollow}
use Rattle.pc_window.specs.Jump.{combined, Without, NewForm, Rises, Root, Past_item, Past_yes, Past_no, DividesTree, Root_test, Past, MayComeBehind, EntersFront, Lands}
use Rattle.pc_window.specs.Jump.{Lands_renamed, Lands_test, Lands_once, Behind_item, On_yes, On_no}
use Rattle.pc_window.specs.Ready.{CanRise, Stands_here, Stands_below, Stands_on_yes, Stands_on_no, CanDivide, Divides_here, Divides_below, MayStandBehind, IsReadyAt, Item_ready}
use Rattle.pc_window.specs.Ready.{Test_ready, Ready_below, Ready_on_yes, Ready_on_no, NotBehind}
use Rattle.pc_window.specs.Laws.{ReadyJumps, JumpsWereReady, FirstJumpsAreFirst}
use Rattle.pc_window.proofs.Rising.{SameBut, new_to_either}
use Rattle.pc_window.proofs.Entering.{same_as}
use Rattle.pc_word.specs.Naming.{with_dest, renamed}

-- ---- another name changes nothing but the name

-- what does not depend on the name
pub record Alike (x y : Item) : Type 0 where
  pub operands : operands_of y ≡ operands_of x
  pub touch : touch_of y ≡ touch_of x
  pub effect : is_effect y ≡ is_effect x
  pub memory : is_memory y ≡ is_memory x
  pub quiet : only_computes y ≡ only_computes x

pub alike : (n : ℕ) (x : Item) → Alike x (with_dest n x)
alike n (Bin op d l r) = record { operands = refl; touch = refl; effect = refl; memory = refl; quiet = refl }
alike n (Copy d f) = record { operands = refl; touch = refl; effect = refl; memory = refl; quiet = refl }
alike n (Load d a i) = record { operands = refl; touch = refl; effect = refl; memory = refl; quiet = refl }
alike n (Store a i v) = record { operands = refl; touch = refl; effect = refl; memory = refl; quiet = refl }
alike n (Print v) = record { operands = refl; touch = refl; effect = refl; memory = refl; quiet = refl }
alike n (Read d) = record { operands = refl; touch = refl; effect = refl; memory = refl; quiet = refl }
alike n (More d) = record { operands = refl; touch = refl; effect = refl; memory = refl; quiet = refl }

-- it writes the new name or nothing
pub dest_named : (n : ℕ) (x : Item) → (P : Option ℕ → Type 0) → P (Some n) → P None → P (dest_of (with_dest n x))
dest_named n (Bin op d l r) P some none = some
dest_named n (Copy d f) P some none = some
dest_named n (Load d a i) P some none = some
dest_named n (Store a i v) P some none = none
dest_named n (Print v) P some none = none
dest_named n (Read d) P some none = some
dest_named n (More d) P some none = some

pub clear_alike : (forms : ℕ → Form) (y x z : Item) → Alike x z → NoConflict forms y x → NoConflict forms y z
clear_alike forms y x z a h = record {
  no_dependence = subst (λ (t : Option Touch). NoDependence forms (touch_of y) t) (sym a.touch) h.no_dependence;
  one_effect = ap (λ (b : Bool). is_effect y && b) a.effect ∙ h.one_effect;
}

pub follows_alike : (forms : ℕ → Form) (y x z : Item) → Alike x z → MayFollow forms y x → MayFollow forms y z
follows_alike forms y x z a h = record {
  no_store_dependence = subst (λ (t : Option Touch). NoStoreDependence forms (touch_of y) t) (sym a.touch) h.no_store_dependence;
  one_effect = ap (λ (b : Bool). is_effect y && b) a.effect ∙ h.one_effect;
}

alike_turned : (x z : Item) → Alike x z → Alike z x
alike_turned x z a = record { operands = sym a.operands; touch = sym a.touch; effect = sym a.effect; memory = sym a.memory; quiet = sym a.quiet }

pub reads_alike : (known : ℕ → Bool) (x z : Item) → Alike x z → ReadsKnown known x → ReadsKnown known z
reads_alike known x z a h = subst (λ (l : List Operand). AllByRecursion (IsKnown known) l) (sym a.operands) h

room_alike : (limits : Limits) (front : Front) (x z : Item) → Alike x z → HasSpace limits (Some x) front → HasSpace limits (Some z) front
room_alike limits front x z a h = (h.0, λ is. h.1 (sym a.memory ∙ is))

-- ---- names

-- a known name is written nowhere
pub known_unwritten : (tree : Tree) (known : ℕ → Bool) (d : ℕ) → known d ≡ true → Scoped known tree → Unwritten d tree
known_unwritten (Pending t o x rest) known d is h = (here (dest_of x) h.1, known_unwritten rest (and_dest known x) d (or_comes (writes (dest_of x) d) (known d) is) h.2)
  where
    or_comes : (a b : Bool) → b ≡ true → (a || b) ≡ true
    or_comes true b e = refl
    or_comes false b e = e

    here : (e : Option ℕ) → IsNew known e → writes e d ≡ false
    here None new = refl
    here (Some e) new = elim (nat_eq e d) as (λ b. nat_eq e d ≡ b → b ≡ false) [
      | false ↦ λ k. refl
      | true ↦ λ k. absurd (let same : e ≡ d = eqb-true e d k in let m : known d ≡ false = sym (ap known same) ∙ new in cc)
    ] refl
known_unwritten (Undecided t o on p q) known d is h = (known_unwritten p known d is h.1, known_unwritten q known d is h.2)
known_unwritten (Exit region tag homes) known d is h = tt
known_unwritten Stop_exit known d is h = tt
known_unwritten (Trap_exit kind line) known d is h = tt

pub not_written_known : (x : Item) (rest : Tree) (known : ℕ → Bool) → Scoped (and_dest known x) rest → NotWritten (dest_of x) rest
not_written_known x rest known h = by_dest (dest_of x) refl
  where
    by_dest : (d : Option ℕ) → dest_of x ≡ d → NotWritten d rest
    by_dest None e = tt
    by_dest (Some d) e = known_unwritten rest (and_dest known x) d (ap (λ (o : Option ℕ). writes o d || known d) e ∙ (rw (eq-eqb d d refl) refl)) h

-- an item before which no test stands writes a new name
rise_new : (forms : ℕ → Form) (x : Item) (tag origin place : ℕ) (crosses : Bool) (from : Tree) (known : ℕ → Bool) → CanRise forms x tag origin place crosses from
    → crosses ≡ false → Scoped known from → IsNew known (dest_of x)
rise_new forms x tag origin place crosses from known (Stands_here rest) e h = h.1
rise_new forms x tag origin place crosses from known (Stands_below t o y p c rest clear can) e h =
    (new_to_either known y (dest_of x) (rise_new forms x tag origin p c rest (and_dest known y) can e h.2)).0
rise_new forms x tag origin place crosses from known (Stands_on_yes t o on n c p q is can) e h = absurd (cc)
rise_new forms x tag origin place crosses from known (Stands_on_no t o on n c p q is can) e h = absurd (cc)

-- ---- it rises

-- an item rises from a place, and leaves a tree
pub record Risen (forms : ℕ → Form) (stood x : Item) (tag origin place : ℕ) (crosses : Bool) (from : Tree) : Type 0 where
  pub left : Tree
  pub rises : Rises forms tag origin stood x crosses from left
  pub at : risen_place rises ≡ place

-- with its own name where no test stands before it
rise_kept : (forms : ℕ → Form) (x : Item) (tag origin place : ℕ) (crosses : Bool) (from : Tree) (known : ℕ → Bool) → CanRise forms x tag origin place crosses from
    → crosses ≡ false → Scoped known from → Risen forms x x tag origin place crosses from
rise_kept forms x tag origin place crosses from known (Stands_here rest) e h =
    record { left = mapped (renamed (dest_of x) (dest_of x)) rest; rises = Root rest (not_written_known x rest known h.2); at = refl }
rise_kept forms x tag origin place crosses from known (Stands_below t o y p c rest clear can) e h =
    let k : Risen forms x x tag origin p c rest = rise_kept forms x tag origin p c rest (and_dest known y) can e h.2 in
    record {
      at = ap suc k.at;
      left = Pending t o y k.left;
      rises = Past_item t o y c rest k.left clear (new_to_either known y (dest_of x) (rise_new forms x tag origin p c rest (and_dest known y) can e h.2)).1 k.rises;
    }
rise_kept forms x tag origin place crosses from known (Stands_on_yes t o on n c p q is can) e h = absurd (cc)
rise_kept forms x tag origin place crosses from known (Stands_on_no t o on n c p q is can) e h = absurd (cc)

-- with any name that is written nowhere
pub not_written_named : (n : ℕ) (x : Item) (tree : Tree) → Unwritten n tree → NotWritten (dest_of (with_dest n x)) tree
not_written_named n x tree h = dest_named n x (λ d. NotWritten d tree) h tt

rise_renamed : (forms : ℕ → Form) (m : ℕ) (x : Item) (tag origin place : ℕ) (crosses : Bool) (from : Tree) → CanRise forms x tag origin place crosses from
    → Unwritten m from → Risen forms x (with_dest m x) tag origin place crosses from
rise_renamed forms m x tag origin place crosses from (Stands_here rest) h =
    record { left = mapped (renamed (dest_of x) (dest_of (with_dest m x))) rest; rises = Root rest (not_written_named m x rest h.1); at = refl }
rise_renamed forms m x tag origin place crosses from (Stands_below t o y p c rest clear can) h =
    let k : Risen forms x (with_dest m x) tag origin p c rest = rise_renamed forms m x tag origin p c rest can h.1 in
    record {
      at = ap suc k.at;
      left = Pending t o y k.left;
      rises = Past_item t o y c rest k.left (clear_alike forms y x (with_dest m x) (alike m x) clear) (dest_named m x (IsNew (writes (dest_of y))) h.0 tt) k.rises;
    }
rise_renamed forms m x tag origin place crosses from (Stands_on_yes t o on n c p q is can) h =
    let k : Risen forms x (with_dest m x) tag origin n c p = rise_renamed forms m x tag origin n c p can h.0 in
    record {
      at = ap suc k.at;
      left = Undecided t o on k.left q;
      rises = Past_yes t o on c p q k.left ((alike m x).quiet ∙ is) (not_written_named m x q h.1) k.rises;
    }
rise_renamed forms m x tag origin place crosses from (Stands_on_no t o on n c p q is can) h =
    let k : Risen forms x (with_dest m x) tag origin n c q = rise_renamed forms m x tag origin n c q can h.1 in
    record {
      at = ap (λ (z : ℕ). suc (tree_size p + z)) k.at;
      left = Undecided t o on p k.left;
      rises = Past_no t o on c p q k.left ((alike m x).quiet ∙ is) (not_written_named m x p h.0) k.rises;
    }

-- and what rises could
could_rise : (forms : ℕ → Form) (tag origin : ℕ) (stood x : Item) (crosses : Bool) (from left : Tree) → (rises : Rises forms tag origin stood x crosses from left)
    → SameBut stood x → CanRise forms stood tag origin (risen_place rises) crosses from
could_rise forms tag origin stood x crosses from left (Root rest unwritten) same = Stands_here rest
could_rise forms tag origin stood x crosses from left (Past_item t o y c rest left' clear apart rises) same =
    Stands_below t o y (risen_place rises) c rest (clear_alike forms y x stood (alike_turned stood x (subst (Alike stood) (sym same.is) (alike same.name stood))) clear)
    (could_rise forms tag origin stood x c rest left' rises same)
could_rise forms tag origin stood x crosses from left (Past_yes t o on c p q left' is unwritten rises) same =
    Stands_on_yes t o on (risen_place rises) c p q (sym (subst (Alike stood) (sym same.is) (alike same.name stood)).quiet ∙ is) (could_rise forms tag origin stood x c p left' rises same)
could_rise forms tag origin stood x crosses from left (Past_no t o on c p q left' is unwritten rises) same =
    Stands_on_no t o on (risen_place rises) c p q (sym (subst (Alike stood) (sym same.is) (alike same.name stood)).quiet ∙ is) (could_rise forms tag origin stood x c q left' rises same)

-- a test divides
pub record Divided (on : Operand) (tag origin place : ℕ) (from : Tree) : Type 0 where
  pub on_yes : Tree
  pub on_no : Tree
  pub divides : DividesTree tag origin on from on_yes on_no
  pub at : divided_place divides ≡ place

divide : (on : Operand) (tag origin place : ℕ) (from : Tree) → CanDivide on tag origin place from → Divided on tag origin place from
divide on tag origin place from (Divides_here p q) = record { on_yes = p; on_no = q; divides = Root_test p q; at = refl }
divide on tag origin place from (Divides_below t o y n rest can) =
    let k = divide on tag origin n rest can in record { on_yes = Pending t o y k.on_yes; on_no = Pending t o y k.on_no; divides = Past t o y rest k.on_yes k.on_no k.divides; at = ap suc k.at }

could_divide : (tag origin : ℕ) (on : Operand) (from p q : Tree) → (divides : DividesTree tag origin on from p q) → CanDivide on tag origin (divided_place divides) from
could_divide tag origin on from p q (Root_test p' q') = Divides_here p' q'
could_divide tag origin on from p q (Past t o y rest p' q' divides) = Divides_below t o y (divided_place divides) rest (could_divide tag origin on rest p' q' divides)

-- ---- the front

-- what comes is what was ready, but for its name
abbrev pub SameThing : Option Item → Option Item → Type 0
SameThing (Some x) (Some y) = Alike x y
SameThing None None = Unit {0}
SameThing (Some x) None = ⊥
SameThing None (Some y) = ⊥

abbrev pub NewToAll : (ℕ → Bool) → Option Item → Type 0
NewToAll known (Some x) = IsNew known (dest_of x)
NewToAll known None = Unit {0}

pub record Comes (base known : ℕ → Bool) (forms : ℕ → Form) (n variable : ℕ) (tag origin place : ℕ) (what : Option Item) (from : Front) : Type 0 where
  pub forms_after : ℕ → Form
  pub new : Option ℕ
  pub comes : Option Item
  pub to : Front
  pub enters : EntersFront base forms forms_after new comes from to
  pub twins : TwinsAlike enters
  pub from_tag : tag ≡ (priority_of enters).0
  pub from_origin : origin ≡ (priority_of enters).1
  pub from_place : place ≡ (priority_of enters).2
  pub same : SameThing what comes
  pub new_to : NewToAll known comes
  pub fresh : (new ≡ None) ⊎ (new ≡ Some n)
  pub given : forms_after ≡ (given_supply (record { forms = forms; next = n; next_variable = variable }) new comes).forms

-- the form of a new name
pub gives_next : (forms : ℕ → Form) (n variable : ℕ) (c : Option Form) → ((y : ℕ) → Without variable (forms y))
    → (form : Form) × NewForm forms c form × ((with_name (record { forms = forms; next = n; next_variable = variable }) c).forms ≡ changed forms n form)
gives_next forms n variable (Some given) without = (given, refl, refl)
gives_next forms n variable None without = (variable_form variable, (variable, refl, without), refl)

new_down : (base known : ℕ → Bool) → ((x : ℕ) → base x ≡ true → known x ≡ true) → (d : Option ℕ) → IsNew known d → IsNew base d
new_down base known within None h = tt
new_down base known within (Some d) h = elim (base d) as (λ b. base d ≡ b → b ≡ false) [
  | false ↦ λ e. refl
  | true ↦ λ e. absurd (let k : known d ≡ true = within d e in cc)
] refl

new_below_all : (known : ℕ → Bool) (y : Item) (comes : Option Item) → NewToAll (and_dest known y) comes → NewToAll known comes
new_below_all known y (Some x) h = (new_to_either known y (dest_of x) h).0
new_below_all known y None h = tt

may_come : (known : ℕ → Bool) (forms : ℕ → Form) (y : Item) (what comes : Option Item) → SameThing what comes → MayStandBehind forms y what
    → NewToAll (and_dest known y) comes → MayComeBehind forms y comes
may_come known forms y (Some x) (Some z) same may new = (follows_alike forms y x z same may, (new_to_either known y (dest_of z) new).1)
may_come known forms y None None same may new = tt
may_come known forms y (Some x) None same may new = absurd same
may_come known forms y None (Some z) same may new = absurd same

fresh_name : (n : ℕ) (P : Option ℕ → Type 0) (new : Option ℕ) → (new ≡ None) ⊎ (new ≡ Some n) → P None → P (Some n) → P new
fresh_name n P new (inl e) none some = subst P (sym e) none
fresh_name n P new (inr e) none some = subst P (sym e) some

-- an item that comes with a new name
comes_renamed : (base known : ℕ → Bool) (forms : ℕ → Form) (n variable : ℕ) (tag origin place : ℕ) (x : Item) (from : Tree)
    → ((z : ℕ) → base z ≡ true → known z ≡ true) → known n ≡ false → Unwritten n from
    → ((y : ℕ) → Without variable (forms y)) → ReadsKnown base x → CanRise forms x tag origin place true from
    → Comes base known forms n variable tag origin place (Some x) (Unfinished from)
comes_renamed base known forms n variable tag origin place x from within unknown unwritten without reads can =
    let z = with_dest n x in
    let r : Risen forms x z tag origin place true from = rise_renamed forms n x tag origin place true from can unwritten in
    let form = gives_next forms n variable (combined forms z) without in
    let isnew : IsNew known (dest_of z) = dest_named n x (IsNew known) unknown tt in
    dest_named n x (λ d. dest_of z ≡ d → Comes base known forms n variable tag origin place (Some x) (Unfinished from))
    (λ e. record {
      forms_after = (with_name (record { forms = forms; next = n; next_variable = variable }) (combined forms z)).forms;
      new = Some n;
      comes = Some z;
      to = Issued tag origin z (Unfinished r.left);
      enters = Lands_renamed tag origin n x from r.left (reads_alike base x z (alike n x) reads) (new_down base known within (dest_of z) isnew) (sym e) form r.rises;
      twins = tt;
      from_tag = refl;
      from_origin = refl;
      from_place = sym r.at;
      same = alike n x;
      new_to = isnew;
      fresh = inr refl;
      given = refl;
    })
    (λ e. record {
      forms_after = forms;
      new = None;
      comes = Some z;
      to = Issued tag origin z (Unfinished r.left);
      enters = Lands_renamed tag origin n x from r.left (reads_alike base x z (alike n x) reads) (new_down base known within (dest_of z) isnew) (sym e) refl r.rises;
      twins = tt;
      from_tag = refl;
      from_origin = refl;
      from_place = sym r.at;
      same = alike n x;
      new_to = isnew;
      fresh = inl refl;
      given = refl;
    }) refl

-- what is ready comes into the front
pub ready_comes : (base : ℕ → Bool) (forms : ℕ → Form) (n variable : ℕ) → ((y : ℕ) → Without variable (forms y))
    → (tag origin : ℕ) (known : ℕ → Bool) (place : ℕ) (what : Option Item) (from : Front) → IsReadyAt base forms tag origin place what from
    → ((z : ℕ) → base z ≡ true → known z ≡ true) → known n ≡ false → Unwritten n (whole from) → Scoped known (whole from)
    → Comes base known forms n variable tag origin place what from
ready_comes base forms n variable without tag origin known place what from (Item_ready x m true t reads can) within unknown unwritten scoped =
    comes_renamed base known forms n variable tag origin m x t within unknown unwritten without reads can
ready_comes base forms n variable without tag origin known place what from (Item_ready x m false t reads can) within unknown unwritten scoped =
    let r : Risen forms x x tag origin m false t = rise_kept forms x tag origin m false t known can refl scoped in
    let isnew : IsNew known (dest_of x) = rise_new forms x tag origin m false t known can refl scoped in
    record {
      forms_after = forms;
      new = None;
      comes = Some x;
      to = Issued tag origin x (Unfinished r.left);
      enters = Lands tag origin x t r.left reads (new_down base known within (dest_of x) isnew) refl refl r.rises;
      twins = tt;
      from_tag = refl;
      from_origin = refl;
      from_place = sym r.at;
      same = record { operands = refl; touch = refl; effect = refl; memory = refl; quiet = refl };
      new_to = isnew;
      fresh = inl refl;
      given = refl;
    }
ready_comes base forms n variable without tag origin known place what from (Test_ready on m t reads can) within unknown unwritten scoped =
    let d : Divided on tag origin m t = divide on tag origin m t can in
    record {
      forms_after = forms;
      new = None;
      comes = None;
      to = Split tag origin on (Unfinished d.on_yes) (Unfinished d.on_no);
      enters = Lands_test tag origin on t d.on_yes d.on_no reads refl refl d.divides;
      twins = tt;
      from_tag = refl;
      from_origin = refl;
      from_place = sym d.at;
      same = tt;
      new_to = tt;
      fresh = inl refl;
      given = refl;
    }
ready_comes base forms n variable without tag origin known place what from (Ready_below t o y m w rest may ready) within unknown unwritten scoped =
    let k : Comes base (and_dest known y) forms n variable tag origin m w rest = ready_comes base forms n variable without tag origin (and_dest known y) m w rest ready
    (λ z is. or_comes (writes (dest_of y) z) (known z) (within z is)) (rw (unwritten.0, unknown) refl) unwritten.1 scoped.2 in
    record {
      forms_after = k.forms_after;
      new = k.new;
      comes = k.comes;
      to = Issued t o y k.to;
      enters = Behind_item t o y k.comes rest k.to (may_come known forms y w k.comes k.same may k.new_to) (fresh_name n (IsNew (writes (dest_of y))) k.new k.fresh tt unwritten.0) k.enters;
      twins = k.twins;
      from_tag = k.from_tag;
      from_origin = k.from_origin;
      from_place = (let e = k.from_place in omega arith);
      same = k.same;
      new_to = new_below_all known y k.comes k.new_to;
      fresh = k.fresh;
      given = k.given;
    }
  where
    or_comes : (a b : Bool) → b ≡ true → (a || b) ≡ true
    or_comes true b e = refl
    or_comes false b e = e
ready_comes base forms n variable without tag origin known place what from (Ready_on_yes t o on m w p q ready) within unknown unwritten scoped =
    let k : Comes base known forms n variable tag origin m w p = ready_comes base forms n variable without tag origin known m w p ready within unknown unwritten.0 scoped.1 in
    record {
      forms_after = k.forms_after;
      new = k.new;
      comes = k.comes;
      to = Split t o on k.to q;
      enters = On_yes t o on k.comes p q k.to (fresh_name n (λ d. NotWritten d (whole q)) k.new k.fresh tt unwritten.1) k.enters;
      twins = k.twins;
      from_tag = k.from_tag;
      from_origin = k.from_origin;
      from_place = (let e = k.from_place in omega arith);
      same = k.same;
      new_to = k.new_to;
      fresh = k.fresh;
      given = k.given;
    }
ready_comes base forms n variable without tag origin known place what from (Ready_on_no t o on m w p q ready) within unknown unwritten scoped =
    let k : Comes base known forms n variable tag origin m w q = ready_comes base forms n variable without tag origin known m w q ready within unknown unwritten.1 scoped.2 in
    record {
      forms_after = k.forms_after;
      new = k.new;
      comes = k.comes;
      to = Split t o on p k.to;
      enters = On_no t o on k.comes p q k.to (fresh_name n (λ d. NotWritten d (whole p)) k.new k.fresh tt unwritten.0) k.enters;
      twins = k.twins;
      from_tag = k.from_tag;
      from_origin = k.from_origin;
      from_place = (let e = k.from_place in omega arith);
      same = k.same;
      new_to = k.new_to;
      fresh = k.fresh;
      given = k.given;
    }

room_same : (limits : Limits) (front : Front) (what comes : Option Item) → SameThing what comes → HasSpace limits what front → HasSpace limits comes front
room_same limits front (Some x) (Some z) same room = room_alike limits front x z same room
room_same limits front None None same room = room
room_same limits front (Some x) None same room = absurd same
room_same limits front None (Some z) same room = absurd same

-- so there is a jump from where something is ready and has room
pub ready_jumps : ReadyJumps
ready_jumps known w is fresh r =
    let k : Comes known known w.forms w.next w.next_variable r.tag r.origin r.place r.what w.front =
    ready_comes known w.forms w.next w.next_variable fresh.without r.tag r.origin known r.place r.what w.front r.ready (λ z h. h) fresh.unknown fresh.unwritten is.scoped in
    let given = given_supply (supply_of w) k.new k.comes in (
      record { front = k.to; forms = k.forms_after; next = given.next; next_variable = given.next_variable; limits = w.limits; inside = w.inside },
      record {
        new = k.new;
        comes = k.comes;
        enters = k.enters;
        next = fresh_name w.next (IsNext w.next) k.new k.fresh tt refl;
        names =
            λ i. record { forms = k.given i; next = given.next; next_variable = given.next_variable };
        twins =
            k.twins;
        room = room_same w.limits w.front r.what k.comes k.same r.room;
        limits = refl;
        inside = refl;
      },
      (k.from_tag, k.from_origin, k.from_place),
    )

-- ---- and back

pub record WasReady (base : ℕ → Bool) (forms : ℕ → Form) (tag origin place : ℕ) (comes : Option Item) (from : Front) : Type 0 where
  pub what : Option Item
  pub ready : IsReadyAt base forms tag origin place what from
  pub same : SameThing comes what

alike_same : (x : Item) → Alike x x
alike_same x = record { operands = refl; touch = refl; effect = refl; memory = refl; quiet = refl }

may_stand : (forms : ℕ → Form) (y : Item) (comes what : Option Item) → SameThing comes what → MayComeBehind forms y comes → MayStandBehind forms y what
may_stand forms y (Some x) (Some z) same may = follows_alike forms y x z same may.0
may_stand forms y None None same may = tt
may_stand forms y (Some x) None same may = absurd same
may_stand forms y None (Some z) same may = absurd same

cast_place : {base : ℕ → Bool} {forms : ℕ → Form} {tag origin m n : ℕ} {what : Option Item} {front : Front} → m ≡ n → IsReadyAt base forms tag origin m what front
    → IsReadyAt base forms tag origin n what front
cast_place {base = base} {forms = forms} {tag = tag} {origin = origin} {what = what} {front = front} e h = subst (λ (k : ℕ). IsReadyAt base forms tag origin k what front) e h

pub comes_ready : (base : ℕ → Bool) (forms forms' : ℕ → Form) (new : Option ℕ) (comes : Option Item) (from to : Front)
    → (enters : EntersFront base forms forms' new comes from to) → WasReady base forms (priority_of enters).0 (priority_of enters).1 (priority_of enters).2 comes from
comes_ready base forms forms' new comes from to (Lands tag origin x t left reads isnew none same rises) =
    record { what = Some x; ready = Item_ready x (risen_place rises) false t reads (could_rise forms tag origin x x false t left rises (same_as x)); same = alike_same x }
comes_ready base forms forms' new comes from to (Lands_renamed tag origin name x t left reads isnew is gives rises) =
    let back = alike_turned x (with_dest name x) (alike name x) in
    record {
      what = Some x;
      ready = Item_ready x (risen_place rises) true t (reads_alike base (with_dest name x) x back reads)
          (could_rise forms tag origin x (with_dest name x) true t left rises (record { name = name; is = refl }));
      same = back;
    }
comes_ready base forms forms' new comes from to (Lands_test tag origin on t p q reads none same divides) =
    record { what = None; ready = Test_ready on (divided_place divides) t reads (could_divide tag origin on t p q divides); same = tt }
comes_ready base forms forms' new comes from to (Lands_once t o on tag origin tag' origin' name x other c c' p q l m equal reads isnew is gives rises rises') =
    let back = alike_turned x (with_dest name x) (alike name x) in
    record {
      what = Some x;
      ready = Ready_on_yes t o on (risen_place rises) (Some x) (Unfinished p) (Unfinished q)
          (Item_ready x (risen_place rises) c p (reads_alike base (with_dest name x) x back reads)
          (could_rise forms tag origin x (with_dest name x) c p l rises (record { name = name; is = refl })));
      same = back;
    }
comes_ready base forms forms' new comes from to (Behind_item t o y c rest rest' may apart enters) =
    let k : WasReady base forms (priority_of enters).0 (priority_of enters).1 (priority_of enters).2 c rest = comes_ready base forms forms' new c rest rest' enters in
    record { what = k.what; ready = cast_place (omega arith) (Ready_below t o y (priority_of enters).2 k.what rest (may_stand forms y c k.what k.same may) k.ready); same = k.same }
comes_ready base forms forms' new comes from to (On_yes t o on c p q p' apart enters) =
    let k : WasReady base forms (priority_of enters).0 (priority_of enters).1 (priority_of enters).2 c p = comes_ready base forms forms' new c p p' enters in
    record { what = k.what; ready = cast_place (omega arith) (Ready_on_yes t o on (priority_of enters).2 k.what p q k.ready); same = k.same }
comes_ready base forms forms' new comes from to (On_no t o on c p q q' apart enters) =
    let k : WasReady base forms (priority_of enters).0 (priority_of enters).1 (priority_of enters).2 c q = comes_ready base forms forms' new c q q' enters in
    record { what = k.what; ready = cast_place (omega arith) (Ready_on_no t o on (priority_of enters).2 k.what p q k.ready); same = k.same }

pub jumps_were_ready : JumpsWereReady
jumps_were_ready known w v jump =
    let k = comes_ready known w.forms v.forms jump.new jump.comes w.front v.front jump.enters in (
      record {
        tag = (priority_of jump.enters).0;
        origin =
            (priority_of jump.enters).1;
        place = (priority_of jump.enters).2;
        what = k.what;
        ready = k.ready;
        room = room_same w.limits w.front jump.comes k.what k.same jump.room;
      },
      (refl, refl, refl),
    )

-- the order of priorities is that of tag, origin and place first
in_order_places : (a b : Priority) (tag origin place : ℕ) → InOrder a b → tag ≡ b.0 → origin ≡ b.1 → place ≡ b.2 → NotBehind a.0 a.1 a.2 tag origin place
in_order_places a b tag origin place (inl less) p q r = inl (omega arith)
in_order_places a b tag origin place (inr (same, inl less)) p q r = inr (same ∙ sym p, inl (omega arith))
in_order_places a b tag origin place (inr (same, inr (same', inl less))) p q r = inr (same ∙ sym p, inr (same' ∙ sym q, omega arith))
in_order_places a b tag origin place (inr (same, inr (same', inr (same'', last)))) p q r = inr (same ∙ sym p, inr (same' ∙ sym q, omega arith))

pub first_jumps_first : FirstJumpsAreFirst
first_jumps_first known w v is fresh jump first r =
    let k = ready_jumps known w is fresh r in
    in_order_places (priority_of jump.enters) (priority_of k.1.enters) r.tag r.origin r.place (first k.0 k.1) k.2.0 k.2.1 k.2.2
