-- A rebased window that is found among those that were met comes to the member which is kept there.
use Rattle.std.proofs.Common.{◌≡◌, ℕ, zero, suc, Bool, true, false, List, [], ◌∷◌, map, refl, sym, ◌∙◌, ap, subst}
use Rattle.std.specs.Prelude.{Option, Some, None, if◌then◌else◌, nat_eq, slice_get}
use Rattle.std.specs.List.{IsDistinct}
use Rattle.pc_window.specs.Tree.{Tree, whole}
use Rattle.pc_window.specs.Names.{parameters_of}
use Rattle.pc_word.proofs.Lists.{all_at}
use Rattle.pc_word.proofs.Places.{own_number}
use Rattle.pc_window.specs.WindowRun.{Window}
use Rattle.pc_window.specs.Steps.{IsProper}
use Rattle.pc_linear.specs.Form.{Form}
use Rattle.pc_canon.specs.Pairs.{Pair}
use Rattle.pc_canon.specs.Shift.{Maps, TreesAlike, both_then, both_either, both_exit, both_stop, both_trap}
use Rattle.pc_canon.specs.Canonical.{place_of}
use Rattle.pc_canon.specs.Key.{key_of}
use Rattle.pc_canon.proofs.Keys.{keys_tell}
use Rattle.pc_canon.proofs.ParameterLists.{parameters_distinct}
use Rattle.pc_shifts.specs.Alike.{HasNormalForms}
use Rattle.pc_shifts.proofs.Windows.{settling_shifts}
use Rattle.pc_canon.specs.Canonical.{parameter_pairs}
use Rattle.pc_automaton.specs.declared.automaton.AutomatonLeaf.{AutomatonLeaf}
use Rattle.pc_automaton.specs.declared.automaton.AutomatonLeaf.TheVariants.{To}
use Rattle.pc_pattern.specs.declared.seen.Met.{Met}
use Rattle.pc_pattern.specs.declared.seen.Seen.{Seen}
use Rattle.pc_pattern.specs.Searches.{Rules, bare_leaf}
use Rattle.pc_pattern.specs.models.Renaming.{renamed_bare, arguments_for}
use Rattle.pc_pattern.specs.models.Pools.{Pool, numbered_known}
use Rattle.pc_pattern.specs.models.Leading.{WindowLeads, leads_member}
use Rattle.pc_pattern.specs.models.Seen.{AreSeen, IsMet, LeadsToKept, RebasedLeads}

-- trees that are alike are leaves both or neither
to_do_too : {maps : Maps} {forms forms' : ℕ → Form} {names : List Pair} {one other : Tree} → TreesAlike maps forms forms' names one other
    → bare_leaf one ≡ None → bare_leaf other ≡ None
to_do_too (both_then tags items dests rest) e = refl
to_do_too (both_either tags on on_yes on_no) e = refl
to_do_too (both_exit tags homes) e = absurd (cc)
to_do_too both_stop e = absurd (cc)
to_do_too both_trap e = absurd (cc)

-- ---- parameters

-- a number that stands at a place of a list without repetitions first stands there
first_place : (xs : List ℕ) (place x : ℕ) → IsDistinct nat_eq xs → slice_get xs place ≡ Some x → place_of xs x ≡ place
unfolding IsDistinct
first_place [] place x distinct at = absurd (cc)
first_place (y ∷ ys) zero x distinct at =
    let same : y ≡ x = cc in
    ap (λ (b : Bool). if b then 0 else suc (place_of ys x)) (subst (λ (z : ℕ). nat_eq y z ≡ true) same (own_number y))
first_place (y ∷ ys) (suc place) x distinct at =
    let other : nat_eq y x ≡ false = all_at (λ (z : ℕ). nat_eq y z ≡ false) ys place x distinct.0 at in
    ap (λ (b : Bool). if b then 0 else suc (place_of ys x)) other ∙ ap (λ (n : ℕ). suc n) (first_place ys place x distinct.1 at)

-- numbers that stand at places of one list without repetitions: what stands at the same places of another, and at theirs
places_too : (places xs befores others : List ℕ) → IsDistinct nat_eq befores → map (λ place. slice_get befores place) places ≡ map (λ x. Some x) xs
    → map (λ place. slice_get others place) places ≡ map (λ x. slice_get others (place_of befores x)) xs
places_too [] [] befores others distinct at = refl
places_too [] (x ∷ xs) befores others distinct at = absurd (cc)
places_too (place ∷ places) [] befores others distinct at = absurd (cc)
places_too (place ∷ places) (x ∷ xs) befores others distinct at =
    let first : slice_get befores place ≡ Some x = cc in
    let more : map (λ p. slice_get befores p) places ≡ map (λ z. Some z) xs = cc in
    let here : slice_get others place ≡ slice_get others (place_of befores x) =
    ap (λ (p : ℕ). slice_get others p) (sym (first_place befores place x distinct first)) in
    let rest = places_too places xs befores others distinct more in
    cc

-- lists are equal where their images are
somes_equal : (xs ys : List ℕ) → map (λ x. Some x) xs ≡ map (λ y. Some y) ys → xs ≡ ys
somes_equal [] [] e = refl
somes_equal [] (y ∷ ys) e = absurd (cc)
somes_equal (x ∷ xs) [] e = absurd (cc)
somes_equal (x ∷ xs) (y ∷ ys) e =
    let first : x ≡ y = cc in
    let rest = somes_equal xs ys (let more : map (λ z. Some z) xs ≡ map (λ z. Some z) ys = cc in more) in
    cc

-- ---- the leaf

none_renamed : (written : List Pair) (leaf : Option AutomatonLeaf) → leaf ≡ None → renamed_bare written leaf ≡ None
none_renamed written None e = refl
none_renamed written (Some leaf) e = absurd (cc)

pub kept_leads : (rules : Rules) (written : List Pair) (pool : Pool) (seen : Seen) (met : Met) (w : Window) (leaf : AutomatonLeaf) → IsProper w → HasNormalForms w
    → AreSeen rules pool.keys seen → IsMet seen met w → LeadsToKept written met seen leaf → RebasedLeads rules written pool w leaf pool
kept_leads rules written pool seen met w leaf proper normal are is_met leads =
    let came = are.each met.place (key_of w) leads.member is_met.there leads.kept in
    let same_key : key_of came.before ≡ key_of w = sym came.has_key in
    let too = settling_shifts rules.table rules.number came.before w came.settles.unwound came.after came.proper proper came.normal normal
    ((keys_tell came.before w).0 same_key) came.settles.unwinds came.settles.tidies in
    let still = too.still in
    let key_after : key_of came.after ≡ key_of too.settled =
    (keys_tell came.after too.settled).1 (parameter_pairs came.after too.settled, still.shifted) in
    let to_do : bare_leaf (whole too.settled.front) ≡ None = to_do_too still.shifted.1.trees came.to_do in
    let there = places_too leads.member.places (parameters_of (whole came.after.front)) (parameters_of (whole came.before.front)) (parameters_of (whole w.front))
    (parameters_distinct (whole came.before.front)) came.parameters ∙ still.places in
    let named : leads.parameters ≡ parameters_of (whole too.settled.front) =
    somes_equal leads.parameters (parameters_of (whole too.settled.front))
    (sym leads.there ∙ subst (λ (ps : List ℕ). map (λ place. slice_get ps place) leads.member.places ≡ map (λ y. Some y) (parameters_of (whole too.settled.front)))
    (sym is_met.parameters) there) in
    record {
      brought = too.settled;
      settles = record { unwound = too.unwound; unwinds = too.unwinds; tidies = too.tidies };
      leads = subst (λ (l : AutomatonLeaf). WindowLeads written pool too.settled l pool)
          (sym (leads.leads ∙ ap (λ (ps : List ℕ). To leads.member.number (arguments_for written ps)) named))
          (leads_member (none_renamed written (bare_leaf (whole too.settled.front)) to_do)
          (numbered_known (came.is_member ∙ ap (λ (k : List ℕ). Some k) key_after)));
    }
