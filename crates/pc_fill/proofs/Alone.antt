-- What is ready comes into the front alone, whether it has a twin or not.
use Rattle.std.proofs.Common.{◌≡◌, ℕ, Bool, true, false, ◌||◌, Option, Some, None, ◌⊎◌, inl, inr, refl, sym, subst, arith}
use Rattle.pc_word.specs.declared.item.Item.{Item}
use Rattle.pc_word.specs.Items.{dest_of}
use Rattle.pc_word.specs.Commit.{writes}
use Rattle.pc_linear.specs.Form.{Form}
use Rattle.pc_window.specs.Tree.{Tree, Front, Issued, Split, Unfinished, whole}
use Rattle.pc_window.specs.Names.{and_dest, IsNew, Scoped, Unwritten, NotWritten}
use Rattle.pc_window.specs.Jump.{Without, MayComeBehind, EntersFront, Lands, Lands_renamed, Lands_test, Behind_item, On_yes, On_no}
use Rattle.pc_window.specs.Filled.{priority_of}
use Rattle.pc_window.specs.Ready.{MayStandBehind, IsReadyAt, Item_ready, Test_ready, Ready_below, Ready_on_yes, Ready_on_no}
use Rattle.pc_window.proofs.Rising.{new_to_either}
use Rattle.pc_window.proofs.Readiness.{SameThing, NewToAll, Comes, follows_alike, ready_comes}

-- from behind a leaf nothing comes with a twin
leaf_alone : (known : ℕ → Bool) (forms forms' : ℕ → Form) (new : Option ℕ) (comes : Option Item) (tree : Tree) (to : Front)
    → (e : EntersFront known forms forms' new comes (Unfinished tree) to) → (priority_of e).3 ≡ 1
leaf_alone known forms forms' new comes tree to (Lands tag origin x t left reads isnew none same rises) = refl
leaf_alone known forms forms' new comes tree to (Lands_renamed tag origin name stood t left reads isnew is gives rises) = refl
leaf_alone known forms forms' new comes tree to (Lands_test tag origin on t p q reads none same divides) = refl

may_come : (known : ℕ → Bool) (forms : ℕ → Form) (y : Item) (what comes : Option Item) → SameThing what comes → MayStandBehind forms y what
    → NewToAll (and_dest known y) comes → MayComeBehind forms y comes
may_come known forms y (Some x) (Some z) same may new = (follows_alike forms y x z same may, (new_to_either known y (dest_of z) new).1)
may_come known forms y None None same may new = tt
may_come known forms y (Some x) None same may new = absurd same
may_come known forms y None (Some z) same may new = absurd same

new_below_all : (known : ℕ → Bool) (y : Item) (comes : Option Item) → NewToAll (and_dest known y) comes → NewToAll known comes
new_below_all known y (Some x) h = (new_to_either known y (dest_of x) h).0
new_below_all known y None h = tt

pub fresh_name : (n : ℕ) (P : Option ℕ → Type 0) (new : Option ℕ) → (new ≡ None) ⊎ (new ≡ Some n) → P None → P (Some n) → P new
fresh_name n P new (inl e) none some = subst P (sym e) none
fresh_name n P new (inr e) none some = subst P (sym e) some

or_comes : (a b : Bool) → b ≡ true → (a || b) ≡ true
or_comes true b e = refl
or_comes false b e = e

-- it comes, and alone
pub record ComesAlone (base known : ℕ → Bool) (forms : ℕ → Form) (n variable : ℕ) (tag origin place : ℕ) (what : Option Item) (from : Front) : Type 0 where
  pub coming : Comes base known forms n variable tag origin place what from
  pub alone : (priority_of coming.enters).3 ≡ 1

pub ready_alone : (base : ℕ → Bool) (forms : ℕ → Form) (n variable : ℕ) → ((y : ℕ) → Without variable (forms y))
    → (tag origin : ℕ) (known : ℕ → Bool) (place : ℕ) (what : Option Item) (from : Front) → IsReadyAt base forms tag origin place what from
    → ((z : ℕ) → base z ≡ true → known z ≡ true) → known n ≡ false → Unwritten n (whole from) → Scoped known (whole from)
    → ComesAlone base known forms n variable tag origin place what from
ready_alone base forms n variable without tag origin known place what from (Item_ready x m c t reads can) within unknown unwritten scoped =
    let k : Comes base known forms n variable tag origin m (Some x) (Unfinished t) =
    ready_comes base forms n variable without tag origin known m (Some x) (Unfinished t) (Item_ready x m c t reads can) within unknown unwritten scoped in
    record { coming = k; alone = leaf_alone base forms k.forms_after k.new k.comes t k.to k.enters }
ready_alone base forms n variable without tag origin known place what from (Test_ready on m t reads can) within unknown unwritten scoped =
    let k : Comes base known forms n variable tag origin m None (Unfinished t) =
    ready_comes base forms n variable without tag origin known m None (Unfinished t) (Test_ready on m t reads can) within unknown unwritten scoped in
    record { coming = k; alone = leaf_alone base forms k.forms_after k.new k.comes t k.to k.enters }
ready_alone base forms n variable without tag origin known place what from (Ready_below t o y m w rest may ready) within unknown unwritten scoped =
    let a : ComesAlone base (and_dest known y) forms n variable tag origin m w rest = ready_alone base forms n variable without tag origin (and_dest known y) m w rest ready
    (λ z is. or_comes (writes (dest_of y) z) (known z) (within z is)) (rw (unwritten.0, unknown) refl) unwritten.1 scoped.2 in
    let k = a.coming in
    record {
      coming = record {
        forms_after = k.forms_after;
        new = k.new;
        comes = k.comes;
        to = Issued t o y k.to;
        enters = Behind_item t o y k.comes rest k.to (may_come known forms y w k.comes k.same may k.new_to) (fresh_name n (IsNew (writes (dest_of y))) k.new k.fresh tt unwritten.0) k.enters;
        twins = k.twins;
        from_tag = k.from_tag;
        from_origin = k.from_origin;
        from_place = (let e = k.from_place in omega arith);
        same = k.same;
        new_to = new_below_all known y k.comes k.new_to;
        fresh = k.fresh;
        given = k.given;
      };
      alone = a.alone;
    }
ready_alone base forms n variable without tag origin known place what from (Ready_on_yes t o on m w p q ready) within unknown unwritten scoped =
    let a : ComesAlone base known forms n variable tag origin m w p = ready_alone base forms n variable without tag origin known m w p ready within unknown unwritten.0 scoped.1 in
    let k = a.coming in
    record {
      coming = record {
        forms_after = k.forms_after;
        new = k.new;
        comes = k.comes;
        to = Split t o on k.to q;
        enters = On_yes t o on k.comes p q k.to (fresh_name n (λ d. NotWritten d (whole q)) k.new k.fresh tt unwritten.1) k.enters;
        twins = k.twins;
        from_tag = k.from_tag;
        from_origin = k.from_origin;
        from_place = (let e = k.from_place in omega arith);
        same = k.same;
        new_to = k.new_to;
        fresh = k.fresh;
        given = k.given;
      };
      alone = a.alone;
    }
ready_alone base forms n variable without tag origin known place what from (Ready_on_no t o on m w p q ready) within unknown unwritten scoped =
    let a : ComesAlone base known forms n variable tag origin m w q = ready_alone base forms n variable without tag origin known m w q ready within unknown unwritten.1 scoped.2 in
    let k = a.coming in
    record {
      coming = record {
        forms_after = k.forms_after;
        new = k.new;
        comes = k.comes;
        to = Split t o on p k.to;
        enters = On_no t o on k.comes p q k.to (fresh_name n (λ d. NotWritten d (whole p)) k.new k.fresh tt unwritten.0) k.enters;
        twins = k.twins;
        from_tag = k.from_tag;
        from_origin = k.from_origin;
        from_place = (let e = k.from_place in omega arith);
        same = k.same;
        new_to = k.new_to;
        fresh = k.fresh;
        given = k.given;
      };
      alone = a.alone;
    }
