-- What is ready comes into the front by a jump, alone or with a twin that it has; and to the window that code makes.
use Rattle.std.proofs.Common.{◌≡◌, ℕ, Bool, List, Option, Some, None, refl, sym, ◌∙◌, ap, subst}
use Rattle.std.specs.Prelude.{◌||◌, is_some, slice_get}
use Rattle.pc_word.specs.declared.item.Item.{Item}
use Rattle.pc_word.specs.declared.item.Limits.{Limits}
use Rattle.pc_word.specs.declared.item.Operand.{Operand}
use Rattle.pc_window.specs.Tree.{Front, whole}
use Rattle.pc_window.specs.WindowRun.{Window, supply_of}
use Rattle.pc_window.specs.Filled.{Priority, priority_of, given_supply, IsNext, IsWindow, HasSpace, Jump}
use Rattle.pc_window.specs.Ready.{HasFresh}
use Rattle.pc_window.proofs.Readiness.{Alike, SameThing, alike, dest_named}
use Rattle.pc_fill.specs.declared.first.ReadyNode.{ReadyNode}
use Rattle.pc_fill.specs.Bringing.{IsTwin}
use Rattle.pc_fill.specs.FirstReady.{StandsReady}
use Rattle.pc_fill.specs.models.Places.{Node, nodes_of}
use Rattle.pc_fill.specs.models.Landing.{landed, crosses, came, new_name, TwinIn, TwinFor, ComesWith, renames, coming_of, supply_after, landed_window}
use Rattle.pc_fill.proofs.Alone.{ComesAlone, fresh_name, ready_alone}
use Rattle.pc_fill.proofs.Nodes.{stands_free, StandsFree}
use Rattle.pc_fill.proofs.Entered.{EnteredAs, entered_as}
use Rattle.pc_fill.proofs.FirstJump.{HadTwin, had_twin, ComesTwice, comes_twice}
use Rattle.pc_word.specs.Naming.{with_dest}

some_node : (a b : Node) → Some a ≡ Some b → a ≡ b
some_node a b e = cc

room_named : (limits : Limits) (front : Front) (n : ℕ) (what : Option Item) (x : Item) → what ≡ Some x → HasSpace limits what front → HasSpace limits (Some (with_dest n x)) front
room_named limits front n what x is h =
    let room : HasSpace limits (Some x) front = subst (λ (w : Option Item). HasSpace limits w front) is h in
    (room.0, λ m. room.1 (sym (alike n x).memory ∙ m))

room_alike : (limits : Limits) (front : Front) (x z : Item) → Alike x z → HasSpace limits (Some x) front → HasSpace limits (Some z) front
room_alike limits front x z a room = (room.0, λ m. room.1 (sym a.memory ∙ m))

room_same : (limits : Limits) (front : Front) (what comes : Option Item) → SameThing what comes → HasSpace limits what front → HasSpace limits comes front
room_same limits front (Some x) (Some z) same room = room_alike limits front x z same room
room_same limits front None None same room = room
room_same limits front (Some x) None same room = absurd same
room_same limits front None (Some z) same room = absurd same

-- ---- what stands there

module _ (known : ℕ → Bool) (w : Window) (r : ReadyNode) (stands : StandsReady known w r) where
  stood : StandsFree known w.forms r.tag r.origin r.place r.item w.front
  stood = stands_free known w.forms r.tag r.origin r.place r.item w.front stands.ready

  -- it is the item or test that stands there
  pub stood_same : (tag origin place : ℕ) (what : Option Item) (operands : List Operand)
      → slice_get (nodes_of (whole w.front)) place ≡ Some (record { tag = tag; origin = origin; what = what; operands = operands }) → place ≡ r.place
      → (tag ≡ r.tag) × (origin ≡ r.origin) × (what ≡ r.item)
  stood_same tag origin place what operands at e =
      let s = stood in
      let mine : Node = record { tag = r.tag; origin = r.origin; what = r.item; operands = s.operands } in
      let that : Node = record { tag = tag; origin = origin; what = what; operands = operands } in
      let same : that ≡ mine = some_node that mine (sym at ∙ ap (slice_get (nodes_of (whole w.front))) e ∙ s.at) in
      (ap (λ (n : Node). n.tag) same, ap (λ (n : Node). n.origin) same, ap (λ (n : Node). n.what) same)

  -- what comes from there with a twin had one
  pub twin_there : (v : Window) (jump : Jump known w v) → (priority_of jump.enters).2 ≡ r.place → (priority_of jump.enters).3 ≡ 0
      → TwinFor w.forms w.next r.tag r.origin r.item w.front r.place (priority_of jump.enters).4
  twin_there v jump e side =
      let p = priority_of jump.enters in
      let h : HadTwin w.forms w.next p.0 p.1 p.2 p.4 w.front = had_twin known w.forms v.forms jump.new jump.comes w.front v.front jump.enters jump.twins side w.next in
      let same = stood_same p.0 p.1 p.2 (Some h.item) _ h.at e in
      let moved : TwinFor w.forms w.next r.tag r.origin (Some h.item) w.front r.place p.4 =
      subst (λ (k : ℕ). TwinIn w.forms w.next r.tag r.origin h.item w.front k p.4) e
      (subst (λ (o : ℕ). TwinIn w.forms w.next r.tag o h.item w.front p.2 p.4) same.1 (subst (λ (t : ℕ). TwinIn w.forms w.next t p.1 h.item w.front p.2 p.4) same.0 h.twin)) in
      subst (λ (what : Option Item). TwinFor w.forms w.next r.tag r.origin what w.front r.place p.4) same.2 moved

-- a jump that brings it, alone or with this twin
pub record FoundJump (known : ℕ → Bool) (w : Window) (r : ReadyNode) (twin : Option ℕ) : Type 0 where
  pub v : Window
  pub jump : Jump known w v
  pub tag_is : (priority_of jump.enters).0 ≡ r.tag
  pub origin_is : (priority_of jump.enters).1 ≡ r.origin
  pub place_is : (priority_of jump.enters).2 ≡ r.place
  pub twins : IsTwin twin (priority_of jump.enters).3 (priority_of jump.enters).4

module _ (known : ℕ → Bool) (w : Window) (is : IsWindow known w) (fresh : HasFresh known w) (r : ReadyNode) (stands : StandsReady known w r) (twin : Option ℕ)
    (comes : ComesWith w.forms w.next r.tag r.origin r.item w.front r.place twin) where
  jump_alone : twin ≡ None → FoundJump known w r twin
  jump_alone none =
      let a : ComesAlone known known w.forms w.next w.next_variable r.tag r.origin r.place r.item w.front =
      ready_alone known w.forms w.next w.next_variable fresh.without r.tag r.origin known r.place r.item w.front stands.ready (λ z h. h) fresh.unknown fresh.unwritten is.scoped in
      let k = a.coming in
      let given = given_supply (supply_of w) k.new k.comes in
      record {
        v = record { front = k.to; forms = k.forms_after; next = given.next; next_variable = given.next_variable; limits = w.limits; inside = w.inside };
        jump = record {
          new = k.new;
          comes = k.comes;
          enters = k.enters;
          next = fresh_name w.next (IsNext w.next) k.new k.fresh tt refl;
          names = λ i. record { forms = k.given i; next = given.next; next_variable = given.next_variable };
          twins = k.twins;
          room = room_same w.limits w.front r.item k.comes k.same stands.room;
          limits = refl;
          inside = refl;
        };
        tag_is = sym k.from_tag;
        origin_is = sym k.from_origin;
        place_is = sym k.from_place;
        twins = subst (λ (t : Option ℕ). IsTwin t (priority_of k.enters).3 (priority_of k.enters).4) (sym none) a.alone;
      }

  jump_twice : (k : ℕ) → twin ≡ Some k → FoundJump known w r twin
  jump_twice k some =
      let t : TwinFor w.forms w.next r.tag r.origin r.item w.front r.place k = subst (ComesWith w.forms w.next r.tag r.origin r.item w.front r.place) some comes in
      let c : ComesTwice known w.forms w.next w.next_variable r.tag r.origin r.place k r.item w.front =
      comes_twice known w.forms w.next w.next_variable fresh.unknown fresh.without r.tag r.origin k r.place r.item w.front stands.ready fresh.unwritten t in
      let z = with_dest w.next c.item in
      let given = given_supply (supply_of w) c.new (Some z) in
      let v : Window = record { front = c.to; forms = c.forms_after; next = given.next; next_variable = given.next_variable; limits = w.limits; inside = w.inside } in
      let jump : Jump known w v = record {
        new = c.new;
        comes = Some z;
        enters = c.enters;
        next = subst (IsNext w.next) (sym c.new_is) (dest_named w.next c.item (IsNext w.next) refl tt);
        names = λ i. record { forms = c.given i; next = given.next; next_variable = given.next_variable };
        twins = c.twins;
        room = room_named w.limits w.front w.next r.item c.item c.is stands.room;
        limits = refl;
        inside = refl;
      } in
      record {
        v = v;
        jump = jump;
        tag_is = ap (λ (p : Priority). p.0) c.priority;
        origin_is = ap (λ (p : Priority). p.1) c.priority;
        place_is = ap (λ (p : Priority). p.2) c.priority;
        twins = subst (λ (o : Option ℕ). IsTwin o (priority_of c.enters).3 (priority_of c.enters).4) (sym some) (ap (λ (p : Priority). p.3) c.priority, ap (λ (p : Priority). p.4) c.priority);
      }

  pub found_jump : FoundJump known w r twin
  found_jump = by_twin twin refl
    where
      by_twin : (t : Option ℕ) → twin ≡ t → FoundJump known w r twin
      by_twin None e = jump_alone e
      by_twin (Some k) e = jump_twice k e

-- ---- where it comes to

module _ (known : ℕ → Bool) (w : Window) (r : ReadyNode) (stands : StandsReady known w r) (twin : Option ℕ) where
  -- and comes to the window that code makes
  pub is_landed : (j : FoundJump known w r twin) → j.v ≡ landed_window w r twin
  is_landed j =
      let jump = j.jump in
      let p = priority_of jump.enters in
      let e : EnteredAs w.next twin jump.new jump.comes w.front j.v.front p.0 p.1 p.2 =
      entered_as known w.forms j.v.forms jump.new jump.comes w.front j.v.front jump.enters w.next jump.next twin j.twins in
      let what_is : e.what ≡ r.item = (stood_same known w r stands p.0 p.1 p.2 e.what e.operands e.at j.place_is).2 in
      let comes_is : jump.comes ≡ came w.next (renames w r twin) r.item = e.comes_is ∙ (λ i. came w.next (is_some twin || crosses w.front (j.place_is i)) (what_is i)) in
      let new_is : jump.new ≡ new_name w.next (renames w r twin) r.item = e.new_is ∙ (λ i. new_name w.next (is_some twin || crosses w.front (j.place_is i)) (what_is i)) in
      let front_is : j.v.front ≡ landed (coming_of w r twin) w.front r.place =
      e.lands ∙ (λ i. landed (record { tag = j.tag_is i; origin = j.origin_is i; item = comes_is i; twin = twin }) w.front (j.place_is i)) in
      let names_is : supply_of j.v ≡ supply_after w r twin = jump.names ∙ (λ i. given_supply (supply_of w) (new_is i) (comes_is i)) in
      λ i. record {
        front = front_is i;
        forms = (names_is i).forms;
        next = (names_is i).next;
        next_variable = (names_is i).next_variable;
        limits = jump.limits i;
        inside = jump.inside i;
      }
