-- Windows that were left at leaves, as the code keeps them: what a look among them finds, and what a search keeps of it.
use Rattle.std.proofs.Common.{◌≡◌, ℕ, zero, suc, Bool, true, false, List, [], ◌∷◌, ◌++◌, length, map, inl, inr, refl, sym, ◌∙◌, ap, subst, arith}
use Rattle.std.specs.Prelude.{nat_eq, Option, Some, None, slice_get, slice_set}
use Rattle.std.proofs.lemmas.Option.{slice_get_within}
use Rattle.pc_word.proofs.Places.{get_front, get_last, get_more, length_more, set_there, set_elsewhere, same_number, other_number}
use Rattle.pc_window.specs.Tree.{whole}
use Rattle.pc_window.specs.Names.{parameters_of}
use Rattle.pc_window.specs.WindowRun.{Window}
use Rattle.pc_canon.specs.Key.{key_of}
use Rattle.pc_pattern.specs.declared.member_key.MemberKey.{MemberKey}
use Rattle.pc_pattern.specs.declared.seen.Met.{Met}
use Rattle.pc_pattern.specs.declared.seen.Seen.{Seen}
use Rattle.pc_pattern.specs.declared.seen.SeenMember.{SeenMember}
use Rattle.pc_pattern.specs.Searches.{Rules, bare_leaf}
use Rattle.pc_pattern.specs.declared.pool.Pool.{Pool as StoredPool}
use Rattle.pc_pattern.specs.models.Pools.{Pool, pool_in, keys_in, IsPlaced, IsNumbered, numbered_known, numbered_new}
use Rattle.pc_pattern.specs.models.Seen.{CameTo, AreSeen, KeepsSeen, HasPlace, IsMet, WasMet, Keeps, MayKeep, keeps_none, keeps_one}
use Rattle.pc_pattern.proofs.Placed.{is_known, is_last, many_in}

-- ---- no window

pub nothing_seen : (rules : Rules) (keys : List (List ℕ)) (seen : Seen) → keys_in seen.keys.keys ≡ [] → seen.members.items ≡ [] → AreSeen rules keys seen
nothing_seen rules keys seen no_keys no_members =
    let n = many_in seen.keys.keys in
    let none = ap (λ (l : List (List ℕ)). length l) no_keys in
    let none_too = ap (λ (l : List (Option SeenMember)). length l) no_members in
    record {
      as_many = omega (arith, n, none, none_too);
      each = λ place key member there kept.
          let within = slice_get_within (keys_in seen.keys.keys) place key there in
          absurd (omega (arith, within, none));
    }

-- ---- places

-- a key that had a place
pub known_place : (key : List ℕ) (place : ℕ) (is_new : Bool) (before after : Seen) → is_new ≡ false
    → IsPlaced (keys_in before.keys.keys) key place is_new (keys_in after.keys.keys) → after.members.items ≡ before.members.items
    → HasPlace key place before after
known_place key place is_new before after old placed same =
    let h = is_known (keys_in before.keys.keys) (keys_in after.keys.keys) key place is_new old placed in
    let count = ap (λ (l : List (List ℕ)). length l) h.0 in
    let members = ap (λ (l : List (Option SeenMember)). length l) same in
    let n = many_in before.keys.keys in
    let m = many_in after.keys.keys in
    record {
      there = subst (λ (ks : List (List ℕ)). slice_get ks place ≡ Some key) (sym h.0) h.1;
      kept = λ rules keys are. record {
        as_many = let are_many = are.as_many in omega (arith, count, members, n, m, are_many);
        each = λ at k member there kept. are.each at k member (subst (λ (ks : List (List ℕ)). slice_get ks at ≡ Some k) h.0 there)
            (subst (λ (ms : List (Option SeenMember)). slice_get ms at ≡ Some (Some member)) same kept);
      };
    }

-- a key that is new, for which nothing is kept
pub new_place : (key : List ℕ) (place : ℕ) (is_new : Bool) (before after : Seen) → is_new ≡ true
    → IsPlaced (keys_in before.keys.keys) key place is_new (keys_in after.keys.keys) → after.members.items ≡ before.members.items ++ None ∷ []
    → HasPlace key place before after
new_place key place is_new before after new placed more =
    let h = is_last (keys_in before.keys.keys) (keys_in after.keys.keys) key place is_new new placed in
    let n = many_in before.keys.keys in
    let m = many_in after.keys.keys in
    let count = ap (λ (l : List (List ℕ)). length l) h.2 in
    let longer = length_more (keys_in before.keys.keys) key in
    let members = ap (λ (l : List (Option SeenMember)). length l) more in
    let longer_too = length_more before.members.items None in
    record {
      there = subst (λ (ks : List (List ℕ)). slice_get ks place ≡ Some key) (sym h.2)
          (subst (λ (i : ℕ). slice_get (keys_in before.keys.keys ++ key ∷ []) i ≡ Some key) (sym h.1) (get_last (keys_in before.keys.keys) key));
      kept = λ rules keys are. record {
        as_many = let are_many = are.as_many in omega (arith, count, members, longer, longer_too, n, m, are_many);
        each = λ at k member there kept.
            elim (get_more before.members.items None at (Some member) (subst (λ (ms : List (Option SeenMember)). slice_get ms at ≡ Some (Some member)) more kept)) [
              | inl in_front ↦ elim (get_more (keys_in before.keys.keys) key at k (subst (λ (ks : List (List ℕ)). slice_get ks at ≡ Some k) h.2 there)) [
                | inl before_there ↦ are.each at k member before_there in_front
                | inr last ↦
                    let where_last = last.0 in
                    let within = slice_get_within before.members.items at (Some member) in_front in
                    let are_many = are.as_many in
                    absurd (omega (arith, where_last, within, are_many, n))
              ]
              | inr last ↦ absurd (let e = last.1 in cc)
            ];
      };
    }

pub ruleset places = (known_place, new_place)

-- ---- members that are kept

set_long : {X : Type 0} (xs : List X) (i : ℕ) (x : X) → length (slice_set xs i x) ≡ length xs
set_long [] i x = refl
set_long (y ∷ xs) zero x = refl
set_long (y ∷ xs) (suc i) x = ap suc (set_long xs i x)

-- a member is kept for a window that was met
pub kept_one : (met : Met) (number : ℕ) (parameters places : List ℕ) (before after : Seen)
    → map (λ place. slice_get met.parameters place) places ≡ map (λ name. Some name) parameters → after.keys.keys ≡ before.keys.keys
    → after.members.items ≡ slice_set before.members.items met.place (Some (record { number = number; places = places }))
    → MayKeep met number parameters before after
kept_one met number parameters places before after there keys members =
    keeps_one (record { member = record { number = number; places = places }; has_number = refl; places = there; same_keys = keys; members = members })

pub ruleset keeping = (keeps_none, kept_one)

-- ---- windows that are met

pub met_so : (seen : Seen) (place : ℕ) (parameters key : List ℕ) (before : Seen) (w : Window) → HasPlace key place before seen → key ≡ key_of w
    → parameters ≡ parameters_of (whole w.front) → IsMet seen (record { place = place; parameters = parameters }) w
met_so seen place parameters key before w has is are = record {
  there = subst (λ (k : List ℕ). slice_get (keys_in seen.keys.keys) place ≡ Some k) is has.there;
  parameters = are;
}

pub ruleset meeting = (met_so)

-- ---- what is kept lasts

-- keys of one list stand at their numbers in another, too
abbrev pub StandThere : List (List ℕ) → List (List ℕ) → Type 0
StandThere keys later = (number : ℕ) (key : List ℕ) → slice_get keys number ≡ Some key → slice_get later number ≡ Some key

-- a numbered window keeps the keys, and its own has that number
pub numbered_stands : (pool later : Pool) (w : Window) (number : ℕ) → IsNumbered pool w number later
    → StandThere pool.keys later.keys × (slice_get later.keys number ≡ Some (key_of w))
numbered_stands pool later w number (numbered_known at) = (λ n key e. e, at)
numbered_stands pool later w number (numbered_new none renumbers) =
    (λ n key e. get_front pool.keys (key_of w ∷ []) n key e, get_last pool.keys (key_of w))

came_later : (rules : Rules) (keys later : List (List ℕ)) (key : List ℕ) (member : SeenMember) → StandThere keys later → CameTo rules keys key member
    → CameTo rules later key member
came_later rules keys later key member stand came = record {
  before = came.before;
  proper = came.proper;
  normal = came.normal;
  has_key = came.has_key;
  after = came.after;
  settles = came.settles;
  to_do = came.to_do;
  is_member = stand member.number (key_of came.after) came.is_member;
  parameters = came.parameters;
}

pub seen_later : (rules : Rules) (keys later : List (List ℕ)) (seen : Seen) → StandThere keys later → AreSeen rules keys seen → AreSeen rules later seen
seen_later rules keys later seen stand are = record {
  as_many = are.as_many;
  each = λ place key member there kept. came_later rules keys later key member stand (are.each place key member there kept);
}

-- and where the member is kept to which a window came
pub seen_with : (rules : Rules) (keys later : List (List ℕ)) (seen after : Seen) (met : Met) (number : ℕ) (parameters : List ℕ) (w : Window)
    → StandThere keys later → slice_get later number ≡ Some (key_of w) → WasMet rules seen met w → parameters ≡ parameters_of (whole w.front)
    → bare_leaf (whole w.front) ≡ None → MayKeep met number parameters seen after → AreSeen rules keys seen → AreSeen rules later after
seen_with rules keys later seen after met number parameters w stand there was are_parameters to_do (keeps_none same) are =
    subst (AreSeen rules later) (sym same) (seen_later rules keys later seen stand are)
seen_with rules keys later seen after met number parameters w stand there was are_parameters to_do (keeps_one keeps) are = record {
  as_many = let are_many = are.as_many in
      let set = set_long seen.members.items met.place (Some keeps.member) in
      let members = ap (λ (ms : List (Option SeenMember)). length ms) keeps.members in
      let keys_same = ap (λ (ks : List MemberKey). length ks) keeps.same_keys in
      omega (arith, are_many, set, members, keys_same);
  each = λ place key member at kept. by place key member (subst (λ (ks : List MemberKey). slice_get (keys_in ks) place ≡ Some key) keeps.same_keys at)
      (subst (λ (ms : List (Option SeenMember)). slice_get ms place ≡ Some (Some member)) keeps.members kept) (nat_eq met.place place) refl;
}
  where
    by : (place : ℕ) (key : List ℕ) (member : SeenMember) → slice_get (keys_in seen.keys.keys) place ≡ Some key
        → slice_get (slice_set seen.members.items met.place (Some keeps.member)) place ≡ Some (Some member) → (b : Bool) → nat_eq met.place place ≡ b
        → CameTo rules later key member
    by place key member at kept false e =
        came_later rules keys later key member stand
        (are.each place key member at (sym (set_elsewhere seen.members.items met.place place (Some keeps.member) (other_number met.place place e)) ∙ kept))
    by place key member at kept true e =
        let here : met.place ≡ place = same_number met.place place e in
        let within_set = slice_get_within (slice_set seen.members.items met.place (Some keeps.member)) place (Some member) kept in
        let set = set_long seen.members.items met.place (Some keeps.member) in
        let own : slice_get (slice_set seen.members.items met.place (Some keeps.member)) place ≡ Some (Some keeps.member) =
        subst (λ (i : ℕ). slice_get (slice_set seen.members.items met.place (Some keeps.member)) i ≡ Some (Some keeps.member)) here
        (set_there seen.members.items met.place (Some keeps.member) (omega (arith, here, within_set, set))) in
        let both : Some (Some keeps.member) ≡ Some (Some member) = sym own ∙ kept in
        let is : keeps.member ≡ member = cc in
        let key_there : Some key ≡ Some (key_of was.before) =
        sym at ∙ subst (λ (i : ℕ). slice_get (keys_in seen.keys.keys) i ≡ Some (key_of was.before)) here was.met_so.there in
        subst (CameTo rules later key) is (record {
          before = was.before;
          proper = was.proper;
          normal = was.normal;
          has_key = (let same : key ≡ key_of was.before = cc in same);
          after = w;
          settles = was.settles;
          to_do = to_do;
          is_member = subst (λ (n : ℕ). slice_get later n ≡ Some (key_of w)) (sym keeps.has_number) there;
          parameters = subst (λ (ps : List ℕ). map (λ place. slice_get ps place) keeps.member.places ≡ map (λ name. Some name) (parameters_of (whole w.front)))
              was.met_so.parameters (keeps.places ∙ ap (map (λ (name : ℕ). Some name)) are_parameters);
        })

-- ---- pools

-- the pool that a search has after a window was numbered
pub keeps_numbered : (rules : Rules) (before after : StoredPool) (w : Window) (number : ℕ) → IsNumbered (pool_in before) w number (pool_in after)
    → after.seen ≡ before.seen → KeepsSeen rules before after
keeps_numbered rules before after w number numbered same are =
    subst (AreSeen rules (keys_in after.keys.keys)) (sym same)
    (seen_later rules (keys_in before.keys.keys) (keys_in after.keys.keys) before.seen
    (numbered_stands (pool_in before) (pool_in after) w number numbered).0 are)

-- and where it was met, and its member is kept
pub keeps_met : (rules : Rules) (before middle after : StoredPool) (met : Met) (number : ℕ) (parameters : List ℕ) (w : Window)
    → IsNumbered (pool_in before) w number (pool_in middle) → middle.seen ≡ before.seen → after.keys.keys ≡ middle.keys.keys
    → MayKeep met number parameters middle.seen after.seen → parameters ≡ parameters_of (whole w.front) → bare_leaf (whole w.front) ≡ None
    → WasMet rules before.seen met w → KeepsSeen rules before after
keeps_met rules before middle after met number parameters w numbered same keys may are_parameters to_do was are =
    let stands = numbered_stands (pool_in before) (pool_in middle) w number numbered in
    let kept = subst (λ (s : Seen). MayKeep met number parameters s after.seen) same may in
    subst (λ (ks : List MemberKey). AreSeen rules (keys_in ks) after.seen) (sym keys)
    (seen_with rules (keys_in before.keys.keys) (keys_in middle.keys.keys) before.seen after.seen met number parameters w stands.0 stands.1 was
    are_parameters to_do kept are)
