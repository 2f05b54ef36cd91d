-- What is first of all that is ready jumps first, with its first twin where it has one.
use Rattle.std.proofs.Common.{◌≡◌, ℕ, suc, ◌+◌, ◌-◌, ◌<◌, ◌⊎◌, inl, inr, Bool, false, Option, Some, None, refl, sym, ◌∙◌, ap, subst, lt-ltb, arith}
use Rattle.std.specs.Prelude.{nat_lt, slice_get}
use Rattle.pc_word.specs.declared.item.Item.{Item}
use Rattle.pc_word.specs.declared.item.Operand.{Operand}
use Rattle.pc_word.specs.Items.{dest_of, operands_of}
use Rattle.pc_word.specs.Commit.{writes}
use Rattle.pc_linear.specs.Form.{Form}
use Rattle.pc_window.specs.Hold.{Side}
use Rattle.pc_window.specs.Tree.{Tree, Pending, Undecided, Front, Issued, Split, Unfinished, whole, tree_size}
use Rattle.pc_window.specs.Rename.{mapped}
use Rattle.pc_window.specs.Names.{IsNew, ReadsKnown, Unwritten, NotWritten}
use Rattle.pc_window.specs.Opening.{with_name}
use Rattle.pc_window.specs.Conflict.{MayFollow}
use Rattle.pc_window.specs.Jump.{combined, Without, Root, Past_item, Past_yes, Past_no, EntersFront, Lands, Lands_renamed, Lands_test, Lands_once, Behind_item, On_yes, On_no}
use Rattle.pc_window.specs.Filled.{risen_place, priority_of, deeper, TwinsAlike, given_supply}
use Rattle.pc_window.specs.Ready.{CanRise, Stands_here, Stands_below, Stands_on_yes, Stands_on_no, MayStandBehind, IsReadyAt, Item_ready, Test_ready, Ready_below, Ready_on_yes, Ready_on_no}
use Rattle.pc_window.proofs.Readiness.{Alike, alike, dest_named, clear_alike, Risen, not_written_named, follows_alike, reads_alike, gives_next}
use Rattle.pc_fill.specs.models.Places.{Node, nodes_of}
use Rattle.pc_fill.specs.models.Landing.{both_unfinished, TwinHere, TwinIn, TwinFor}
use Rattle.pc_fill.proofs.Sides.{to_below, from_below, to_no, from_no, side_first, first_only, side_second, second_only}
use Rattle.pc_fill.proofs.Nodes.{node_on_yes, node_on_no, node_within, stands_free, StandsFree, comes_up}
use Rattle.pc_fill.proofs.Entered.{rises_at, rises_free, risen_within, renamed_again, twin_above}
use Rattle.pc_word.specs.Naming.{with_dest, renamed}

-- ---- another name changes nothing but the name

alike_turned : (x z : Item) → Alike x z → Alike z x
alike_turned x z a = record { operands = sym a.operands; touch = sym a.touch; effect = sym a.effect; memory = sym a.memory; quiet = sym a.quiet }

-- an item rises with any name that is written nowhere
rise_renamed : (forms : ℕ → Form) (m : ℕ) (x : Item) (tag origin place : ℕ) (c : Bool) (from : Tree) → CanRise forms x tag origin place c from
    → Unwritten m from → Risen forms x (with_dest m x) tag origin place c from
rise_renamed forms m x tag origin place c from (Stands_here rest) h =
    record { left = mapped (renamed (dest_of x) (dest_of (with_dest m x))) rest; rises = Root rest (not_written_named m x rest h.1); at = refl }
rise_renamed forms m x tag origin place c from (Stands_below t o y p d rest clear can) h =
    let k : Risen forms x (with_dest m x) tag origin p d rest = rise_renamed forms m x tag origin p d rest can h.1 in
    record {
      at = ap suc k.at;
      left = Pending t o y k.left;
      rises = Past_item t o y d rest k.left (clear_alike forms y x (with_dest m x) (alike m x) clear) (dest_named m x (IsNew (writes (dest_of y))) h.0 tt) k.rises;
    }
rise_renamed forms m x tag origin place c from (Stands_on_yes t o on n d p q is can) h =
    let k : Risen forms x (with_dest m x) tag origin n d p = rise_renamed forms m x tag origin n d p can h.0 in
    record {
      at = ap suc k.at;
      left = Undecided t o on k.left q;
      rises = Past_yes t o on d p q k.left ((alike m x).quiet ∙ is) (not_written_named m x q h.1) k.rises;
    }
rise_renamed forms m x tag origin place c from (Stands_on_no t o on n d p q is can) h =
    let k : Risen forms x (with_dest m x) tag origin n d q = rise_renamed forms m x tag origin n d q can h.1 in
    record {
      at = ap (λ (z : ℕ). suc (tree_size p + z)) k.at;
      left = Undecided t o on p k.left;
      rises = Past_no t o on d p q k.left ((alike m x).quiet ∙ is) (not_written_named m x p h.0) k.rises;
    }

-- ---- what has come with a twin had one

pub record HadTwin (forms : ℕ → Form) (next tag origin place k : ℕ) (from : Front) : Type 0 where
  pub item : Item
  pub at : slice_get (nodes_of (whole from)) place ≡ Some (record { tag = tag; origin = origin; what = Some item; operands = operands_of item })
  pub twin : TwinIn forms next tag origin item from place k

module _ (forms : ℕ → Form) (next tag origin n k : ℕ) where
  had_below : (t o : ℕ) (y : Item) (rest : Front) (place : ℕ) → suc n ≡ place → HadTwin forms next tag origin n k rest → HadTwin forms next tag origin place k (Issued t o y rest)
  had_below t o y rest place e h = record {
    item = h.item;
    at = ap (slice_get (nodes_of (whole (Issued t o y rest)))) (sym e) ∙ h.at;
    twin = subst (λ (j : ℕ). TwinIn forms next tag origin h.item (Issued t o y rest) j k) e (to_below ⊥ (λ j. TwinIn forms next tag origin h.item rest j k) n h.twin);
  }

  had_yes : (t o : ℕ) (on : Operand) (p q : Front) (place : ℕ) → suc n ≡ place → both_unfinished p q ≡ false → HadTwin forms next tag origin n k p
      → HadTwin forms next tag origin place k (Split t o on p q)
  had_yes t o on p q place e apart h =
      let s = tree_size (whole p) in
      let less : n < s = node_within (whole p) n _ h.at in
      let here : Type 0 = TwinHere forms next tag origin h.item (whole q) k in
      record {
        item = h.item;
        at = ap (slice_get (nodes_of (whole (Split t o on p q)))) (sym e) ∙ node_on_yes (whole p) (whole q) n less ∙ h.at;
        twin = subst (λ (j : ℕ). TwinIn forms next tag origin h.item (Split t o on p q) j k) e
            (to_below ⊥ (λ j. Side (nat_lt j s) (Side (both_unfinished p q) here (TwinIn forms next tag origin h.item p j k)) (TwinIn forms next tag origin h.item q (j - s) k)) n
            (side_first (nat_lt n s) _ _ (lt-ltb n s less) (side_second (both_unfinished p q) _ _ apart h.twin)));
      }

  had_no : (t o : ℕ) (on : Operand) (p q : Front) (place : ℕ) → suc (tree_size (whole p) + n) ≡ place
      → HadTwin forms next tag origin n k q → HadTwin forms next tag origin place k (Split t o on p q)
  had_no t o on p q place e h =
      let s = tree_size (whole p) in
      let here : Type 0 = TwinHere forms next tag origin h.item (whole q) k in
      record {
        item = h.item;
        at = ap (slice_get (nodes_of (whole (Split t o on p q)))) (sym e) ∙ node_on_no (whole p) (whole q) n ∙ h.at;
        twin = subst (λ (j : ℕ). TwinIn forms next tag origin h.item (Split t o on p q) j k) e
            (to_below ⊥ (λ j. Side (nat_lt j s) (Side (both_unfinished p q) here (TwinIn forms next tag origin h.item p j k)) (TwinIn forms next tag origin h.item q (j - s) k)) (s + n)
            (to_no (λ j. Side (both_unfinished p q) here (TwinIn forms next tag origin h.item p j k)) (λ j. TwinIn forms next tag origin h.item q j k) n s h.twin));
      }

pub had_twin : (known : ℕ → Bool) (forms forms' : ℕ → Form) (new : Option ℕ) (comes : Option Item) (from to : Front) → (e : EntersFront known forms forms' new comes from to)
    → TwinsAlike e → (priority_of e).3 ≡ 0 → (next : ℕ) → HadTwin forms next (priority_of e).0 (priority_of e).1 (priority_of e).2 (priority_of e).4 from
had_twin known forms forms' new comes from to (Lands tag origin x t left reads isnew none same rises) twins h next = absurd (omega arith)
had_twin known forms forms' new comes from to (Lands_renamed tag origin name stood t left reads isnew is gives rises) twins h next = absurd (omega arith)
had_twin known forms forms' new comes from to (Lands_test tag origin on t p q reads none same divides) twins h next = absurd (omega arith)
had_twin known forms forms' new comes from to (Lands_once t o on tag origin tag' origin' name stood other c c' p q l m equal reads isnew is gives rises rises') twins h next =
    let x = with_dest name stood in
    let n = risen_place rises in
    let less = risen_within forms tag origin stood x c p l rises in
    let back : Alike x other = subst (λ (z : Item). Alike z other) equal (alike_turned other (with_dest name other) (alike name other)) in
    let here : TwinHere forms next tag origin stood q (risen_place rises') = record {
      other = other;
      at = rises_at forms tag' origin' other x c' q m rises' ∙ (λ i. Some (record { tag = twins.0 i; origin = twins.1 i; what = Some other; operands = operands_of other }));
      alike = sym (renamed_again next name other) ∙ ap (with_dest next) equal ∙ renamed_again next name stood;
      way = rises_free forms tag' origin' other x c' q m back rises';
    } in
    record {
      item = stood;
      at = node_on_yes p q n less ∙ rises_at forms tag origin stood x c p l rises;
      twin = to_below ⊥ (λ j. Side (nat_lt j (tree_size p)) (TwinHere forms next tag origin stood q (risen_place rises')) ⊥) n
          (side_first (nat_lt n (tree_size p)) _ _ (lt-ltb n (tree_size p) less) here);
    }
had_twin known forms forms' new comes from to (Behind_item t o y c rest rest' may apart enters) twins h next =
    had_below forms next (priority_of enters).0 (priority_of enters).1 (priority_of enters).2 (priority_of enters).4 t o y rest (1 + (priority_of enters).2) (omega arith)
    (had_twin known forms forms' new c rest rest' enters twins h next)
had_twin known forms forms' new comes from to (On_yes t o on c p q p' apart enters) twins h next =
    had_yes forms next (priority_of enters).0 (priority_of enters).1 (priority_of enters).2 (priority_of enters).4 t o on p q (1 + (priority_of enters).2) (omega arith)
    (twin_above known forms forms' new c p p' enters q h) (had_twin known forms forms' new c p p' enters twins h next)
had_twin known forms forms' new comes from to (On_no t o on c p q q' apart enters) twins h next =
    had_no forms next (priority_of enters).0 (priority_of enters).1 (priority_of enters).2 (priority_of enters).4 t o on p q (suc (tree_size (whole p)) + (priority_of enters).2) (omega arith)
    (had_twin known forms forms' new c q q' enters twins h next)

-- with a twin, or without
pub kinds : (known : ℕ → Bool) (forms forms' : ℕ → Form) (new : Option ℕ) (comes : Option Item) (from to : Front) → (e : EntersFront known forms forms' new comes from to)
    → (((priority_of e).3 ≡ 1) × ((priority_of e).4 ≡ 0)) ⊎ ((priority_of e).3 ≡ 0)
kinds known forms forms' new comes from to (Lands tag origin x t left reads isnew none same rises) = inl (refl, refl)
kinds known forms forms' new comes from to (Lands_renamed tag origin name stood t left reads isnew is gives rises) = inl (refl, refl)
kinds known forms forms' new comes from to (Lands_test tag origin on t p q reads none same divides) = inl (refl, refl)
kinds known forms forms' new comes from to (Lands_once t o on tag origin tag' origin' name stood other c c' p q l m equal reads isnew is gives rises rises') = inr refl
kinds known forms forms' new comes from to (Behind_item t o y c rest rest' may apart enters) = kinds known forms forms' new c rest rest' enters
kinds known forms forms' new comes from to (On_yes t o on c p q p' apart enters) = kinds known forms forms' new c p p' enters
kinds known forms forms' new comes from to (On_no t o on c p q q' apart enters) = kinds known forms forms' new c q q' enters

-- ---- what has a twin comes with it

pub record ComesTwice (base : ℕ → Bool) (forms : ℕ → Form) (n variable tag origin place k : ℕ) (what : Option Item) (from : Front) : Type 0 where
  pub item : Item
  pub is : what ≡ Some item
  pub new : Option ℕ
  pub new_is : new ≡ dest_of (with_dest n item)
  pub forms_after : ℕ → Form
  pub to : Front
  pub enters : EntersFront base forms forms_after new (Some (with_dest n item)) from to
  pub twins : TwinsAlike enters
  pub priority : priority_of enters ≡ (tag, origin, place, 0, k)
  pub given : forms_after ≡ (given_supply (record { forms = forms; next = n; next_variable = variable }) new (Some (with_dest n item))).forms

module _ (base : ℕ → Bool) (forms : ℕ → Form) (n variable : ℕ) (unknown : base n ≡ false) (without : (y : ℕ) → Without variable (forms y)) (tag origin k : ℕ) where
  joins_here : (t o : ℕ) (on : Operand) (m : ℕ) (p q : Tree) (x : Item) (c : Bool) → ReadsKnown base x → CanRise forms x tag origin m c p → Unwritten n p → Unwritten n q
      → TwinHere forms n tag origin x q k → ComesTwice base forms n variable tag origin (suc m) k (Some x) (Split t o on (Unfinished p) (Unfinished q))
  joins_here t o on m p q x c reads can un_p un_q here =
      let z = with_dest n x in
      let r : Risen forms x z tag origin m c p = rise_renamed forms n x tag origin m c p can un_p in
      let node : Node = record { tag = tag; origin = origin; what = Some here.other; operands = operands_of here.other } in
      let up = comes_up forms q k node here.at here.way in
      let r' : Risen forms here.other z tag origin k up.1.0 q =
      subst (λ (y : Item). Risen forms here.other y tag origin k up.1.0 q) here.alike (rise_renamed forms n here.other tag origin k up.1.0 q up.1.1 un_q) in
      let isnew : IsNew base (dest_of z) = dest_named n x (IsNew base) unknown tt in
      let form = gives_next forms n variable (combined forms z) without in
      dest_named n x (λ d. dest_of z ≡ d → ComesTwice base forms n variable tag origin (suc m) k (Some x) (Split t o on (Unfinished p) (Unfinished q)))
      (λ e. record {
        item = x;
        is = refl;
        new = Some n;
        new_is = sym e;
        forms_after = (with_name (record { forms = forms; next = n; next_variable = variable }) (combined forms z)).forms;
        to = Issued tag origin z (Split t o on (Unfinished r.left) (Unfinished r'.left));
        enters = Lands_once t o on tag origin tag origin n x here.other c up.1.0 p q r.left r'.left here.alike (reads_alike base x z (alike n x) reads) isnew (sym e) form r.rises r'.rises;
        twins = (refl, refl);
        priority = λ i. (tag, origin, suc (r.at i), 0, r'.at i);
        given = refl;
      })
      (λ e. record {
        item = x;
        is = refl;
        new = None;
        new_is = sym e;
        forms_after = forms;
        to = Issued tag origin z (Split t o on (Unfinished r.left) (Unfinished r'.left));
        enters = Lands_once t o on tag origin tag origin n x here.other c up.1.0 p q r.left r'.left here.alike (reads_alike base x z (alike n x) reads) isnew (sym e) refl r.rises r'.rises;
        twins = (refl, refl);
        priority = λ i. (tag, origin, suc (r.at i), 0, r'.at i);
        given = refl;
      }) refl

  down_item : (t o : ℕ) (y : Item) (rest : Front) (m : ℕ) (what : Option Item) → TwinFor forms n tag origin what (Issued t o y rest) (suc m) k → TwinFor forms n tag origin what rest m k
  down_item t o y rest m (Some x) h = from_below ⊥ (λ j. TwinIn forms n tag origin x rest j k) m h
  down_item t o y rest m None h = h

  down_yes : (t o : ℕ) (on : Operand) (p q : Front) (m : ℕ) (what : Option Item) → m < tree_size (whole p) → both_unfinished p q ≡ false
      → TwinFor forms n tag origin what (Split t o on p q) (suc m) k → TwinFor forms n tag origin what p m k
  down_yes t o on p q m (Some x) less apart h =
      let s = tree_size (whole p) in
      let here : Type 0 = TwinHere forms n tag origin x (whole q) k in
      second_only (both_unfinished p q) _ _ apart (first_only (nat_lt m s) _ _ (lt-ltb m s less)
      (from_below ⊥ (λ j. Side (nat_lt j s) (Side (both_unfinished p q) here (TwinIn forms n tag origin x p j k)) (TwinIn forms n tag origin x q (j - s) k)) m h))
  down_yes t o on p q m None less apart h = h

  down_no : (t o : ℕ) (on : Operand) (p q : Front) (m : ℕ) (what : Option Item)
      → TwinFor forms n tag origin what (Split t o on p q) (suc (tree_size (whole p) + m)) k → TwinFor forms n tag origin what q m k
  down_no t o on p q m (Some x) h =
      let s = tree_size (whole p) in
      let here : Type 0 = TwinHere forms n tag origin x (whole q) k in
      from_no (λ j. Side (both_unfinished p q) here (TwinIn forms n tag origin x p j k)) (λ j. TwinIn forms n tag origin x q j k) m s
      (from_below ⊥ (λ j. Side (nat_lt j s) (Side (both_unfinished p q) here (TwinIn forms n tag origin x p j k)) (TwinIn forms n tag origin x q (j - s) k)) (s + m) h)
  down_no t o on p q m None h = h

  across : (t o : ℕ) (on : Operand) (p q : Tree) (m : ℕ) (x : Item) → m < tree_size p → TwinIn forms n tag origin x (Split t o on (Unfinished p) (Unfinished q)) (suc m) k
      → TwinHere forms n tag origin x q k
  across t o on p q m x less h =
      first_only (nat_lt m (tree_size p)) _ _ (lt-ltb m (tree_size p) less) (from_below ⊥ (λ j. Side (nat_lt j (tree_size p)) (TwinHere forms n tag origin x q k) ⊥) m h)

  pass_item : (t o : ℕ) (y : Item) (m : ℕ) (what : Option Item) (rest : Front) → MayStandBehind forms y what
      → writes (dest_of y) n ≡ false → ComesTwice base forms n variable tag origin m k what rest
      → ComesTwice base forms n variable tag origin (suc m) k what (Issued t o y rest)
  pass_item t o y m what rest may apart h =
      let z = with_dest n h.item in
      let follows : MayFollow forms y h.item = subst (MayStandBehind forms y) h.is may in
      let isnew : IsNew (writes (dest_of y)) (dest_of z) = dest_named n h.item (IsNew (writes (dest_of y))) apart tt in
      let step : 1 + m ≡ suc m = omega arith in
      record {
        item = h.item;
        is = h.is;
        new = h.new;
        new_is = h.new_is;
        forms_after = h.forms_after;
        to = Issued t o y h.to;
        enters = Behind_item t o y (Some z) rest h.to (follows_alike forms y h.item z (alike n h.item) follows, isnew) (subst (IsNew (writes (dest_of y))) (sym h.new_is) isnew) h.enters;
        twins = h.twins;
        priority = ap (deeper 1) h.priority ∙ (λ i. (tag, origin, step i, 0, k));
        given = h.given;
      }

  pass_yes : (t o : ℕ) (on : Operand) (m : ℕ) (what : Option Item) (p q : Front) → Unwritten n (whole q) → ComesTwice base forms n variable tag origin m k what p
      → ComesTwice base forms n variable tag origin (suc m) k what (Split t o on p q)
  pass_yes t o on m what p q un h =
      let step : 1 + m ≡ suc m = omega arith in
      record {
        item = h.item;
        is = h.is;
        new = h.new;
        new_is = h.new_is;
        forms_after = h.forms_after;
        to = Split t o on h.to q;
        enters = On_yes t o on (Some (with_dest n h.item)) p q h.to (subst (λ (d : Option ℕ). NotWritten d (whole q)) (sym h.new_is) (not_written_named n h.item (whole q) un)) h.enters;
        twins = h.twins;
        priority = ap (deeper 1) h.priority ∙ (λ i. (tag, origin, step i, 0, k));
        given = h.given;
      }

  pass_no : (t o : ℕ) (on : Operand) (m : ℕ) (what : Option Item) (p q : Front) → Unwritten n (whole p) → ComesTwice base forms n variable tag origin m k what q
      → ComesTwice base forms n variable tag origin (suc (tree_size (whole p) + m)) k what (Split t o on p q)
  pass_no t o on m what p q un h =
      let step : suc (tree_size (whole p)) + m ≡ suc (tree_size (whole p) + m) = omega arith in
      record {
        item = h.item;
        is = h.is;
        new = h.new;
        new_is = h.new_is;
        forms_after = h.forms_after;
        to = Split t o on p h.to;
        enters = On_no t o on (Some (with_dest n h.item)) p q h.to (subst (λ (d : Option ℕ). NotWritten d (whole p)) (sym h.new_is) (not_written_named n h.item (whole p) un)) h.enters;
        twins = h.twins;
        priority = ap (deeper (suc (tree_size (whole p)))) h.priority ∙ (λ i. (tag, origin, step i, 0, k));
        given = h.given;
      }

  place_within : (place : ℕ) (what : Option Item) (front : Front) → IsReadyAt base forms tag origin place what front → place < tree_size (whole front)
  place_within place what front ready = let s : StandsFree base forms tag origin place what front = stands_free base forms tag origin place what front ready in node_within (whole front) place _ s.at

  pub comes_twice : (place : ℕ) (what : Option Item) (from : Front) → IsReadyAt base forms tag origin place what from → Unwritten n (whole from) → TwinFor forms n tag origin what from place k
      → ComesTwice base forms n variable tag origin place k what from
  comes_twice place what from (Item_ready x m c t reads can) un h = absurd h
  comes_twice place what from (Test_ready on m t reads can) un h = absurd h
  comes_twice place what from (Ready_below t o y m w rest may ready) un h =
      pass_item t o y m w rest may un.0 (comes_twice m w rest ready un.1 (down_item t o y rest m w h))
  comes_twice place what from (Ready_on_yes t o on m w (Unfinished p) (Unfinished q) (Item_ready x m' c t' reads can)) un h =
      joins_here t o on m p q x c reads can un.0 un.1 (across t o on p q m x (place_within m (Some x) (Unfinished p) (Item_ready x m c p reads can)) h)
  comes_twice place what from (Ready_on_yes t o on m w (Unfinished p) (Unfinished q) (Test_ready on' m' t' reads can)) un h = absurd h
  comes_twice place what from (Ready_on_yes t o on m w p q ready) un h =
      pass_yes t o on m w p q un.1 (comes_twice m w p ready un.0 (down_yes t o on p q m w (place_within m w p ready) refl h))
  comes_twice place what from (Ready_on_no t o on m w p q ready) un h =
      pass_no t o on m w p q un.0 (comes_twice m w q ready un.1 (down_no t o on p q m w h))
