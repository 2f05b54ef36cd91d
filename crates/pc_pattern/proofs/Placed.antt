-- The number of a key that is put into an ordered set of keys.
use Rattle.std.proofs.Common.{◌≡◌, ℕ, zero, suc, ◌+◌, ◌≤◌, ◌<◌, List, [], ◌∷◌, ◌++◌, length, length-append, refl, sym, ◌∙◌, ap, subst, arith}
use Rattle.std.specs.Prelude.{nat_eq, Bool, true, false, not, ◌||◌, if◌then◌else◌, cond, None, Some, slice_get}
use Rattle.std.specs.List.{list_any, position_or_len}
use Rattle.std.specs.Cmp.Lexicographic.{pointwise, bytes_decides}
use Rattle.std.proofs.lemmas.List.{length-map, map-append}
use Rattle.std.proofs.lemmas.Option.{slice_get_within}
use Rattle.pc_window.specs.declared.window.Window.{Window as StoredWindow}
use Rattle.pc_window.specs.Tree.{whole}
use Rattle.pc_window.specs.WindowRun.{Window}
use Rattle.pc_window.specs.Steps.{IsProper}
use Rattle.pc_window.specs.StoredWindow.{window_in, InNodes}
use Rattle.pc_canon.specs.Key.{key_of}
use Rattle.pc_renumber.specs.Renumbering.{renumbered, Renumbers}
use Rattle.pc_renumber.proofs.Renumbered.{renumbered_variables}
use Rattle.pc_pattern.specs.declared.member_key.MemberKey.{MemberKey}
use Rattle.pc_pattern.specs.declared.error.SearchError.{SearchError}
use Rattle.pc_pattern.specs.declared.error.SearchError.TheVariants.{Memory, NoPattern}
use Rattle.pc_pattern.specs.Searches.{bare_leaf}
use Rattle.pc_pattern.proofs.Keys.{map_at}
use Rattle.pc_shifts.proofs.Renumbered.{renumbering_normal}
use Rattle.pc_pattern.specs.models.Pools.{Pool, keys_in, IsNowhere, IsPlaced, placed_known, placed_new, Joins, IsNumbered, numbered_known, numbered_new, IsSettled}
use Rattle.pc_pattern.specs.models.Leading.{KeyRefused, key_memory, key_many, WindowRefused, refused_memory, refused_many}

-- whether a key is this one
abbrev is_key : MemberKey → MemberKey → Bool
is_key key other = pointwise nat_eq key.bytes.items other.bytes.items

same_bytes : (xs ys : List ℕ) → pointwise nat_eq xs ys ≡ true → xs ≡ ys
same_bytes xs ys e = (bytes_decides xs ys).0 e

bytes_same : (xs ys : List ℕ) → xs ≡ ys → pointwise nat_eq xs ys ≡ true
bytes_same xs ys e = (bytes_decides xs ys).1 e

either_false : (b c : Bool) → (b || c) ≡ false → (b ≡ false) × (c ≡ false)
either_false true c e = absurd (cc)
either_false false c e = (refl, e)

-- a key that none of a list is stands nowhere in it
nowhere : (key : MemberKey) (keys : List MemberKey) → list_any (is_key key) keys ≡ false → IsNowhere (keys_in keys) key.bytes.items
nowhere key [] none i at = absurd (cc)
nowhere key (k ∷ keys) none zero at =
    let parts = either_false (is_key key k) (list_any (is_key key) keys) none in
    let same : k.bytes.items ≡ key.bytes.items = cc in
    let is : is_key key k ≡ true = bytes_same key.bytes.items k.bytes.items (sym same) in
    absurd (let e : true ≡ false = sym is ∙ parts.0 in cc)
nowhere key (k ∷ keys) none (suc i) at =
    nowhere key keys (either_false (is_key key k) (list_any (is_key key) keys) none).1 i at

-- and its index is the length
last_index : (key : MemberKey) (keys : List MemberKey) → list_any (is_key key) keys ≡ false → position_or_len (is_key key) keys ≡ length keys
last_index key [] none = refl
last_index key (k ∷ keys) none =
    let parts = either_false (is_key key k) (list_any (is_key key) keys) none in
    let step : position_or_len (is_key key) (k ∷ keys) ≡ 1 + position_or_len (is_key key) keys =
    ap (λ (b : Bool). cond (not b) (1 + position_or_len (is_key key) keys) 0) parts.0 in
    let next = last_index key keys parts.1 in
    omega (arith, step, next)

pub placed_of : (key : MemberKey) (olds news : List MemberKey) (number : ℕ) (is_new : Bool) → is_new ≡ not (list_any (is_key key) olds)
    → news ≡ (if list_any (is_key key) olds then olds else olds ++ key ∷ []) → number ≡ position_or_len (is_key key) olds
    → (k : MemberKey) × (slice_get news number ≡ Some k) × (is_key key k ≡ true) → IsPlaced (keys_in olds) key.bytes.items number is_new (keys_in news)
placed_of key olds news number is_new new are at stored = by (list_any (is_key key) olds) refl new are
  where
    by : (b : Bool) → list_any (is_key key) olds ≡ b → is_new ≡ not b → news ≡ (if b then olds else olds ++ key ∷ [])
        → IsPlaced (keys_in olds) key.bytes.items number is_new (keys_in news)
    by true e n are =
        let there : slice_get (keys_in olds) number ≡ Some key.bytes.items =
        sym (ap (λ (ks : List MemberKey). slice_get (keys_in ks) number) are) ∙ map_at (λ (k : MemberKey). k.bytes.items) news number stored.0 stored.1
        ∙ ap (λ (xs : List ℕ). Some xs) (sym (same_bytes key.bytes.items stored.0.bytes.items stored.2)) in
        subst (λ (b : Bool). IsPlaced (keys_in olds) key.bytes.items number b (keys_in news)) (sym n)
        (subst (λ (ks : List MemberKey). IsPlaced (keys_in olds) key.bytes.items number false (keys_in ks)) (sym are) (placed_known there))
    by false e n are =
        let last : length (keys_in olds) ≡ number = length-map olds (λ (k : MemberKey). k.bytes.items) ∙ sym (last_index key olds e) ∙ sym at in
        subst (λ (b : Bool). IsPlaced (keys_in olds) key.bytes.items number b (keys_in news)) (sym n)
        (subst (λ (ks : List MemberKey). IsPlaced (keys_in olds) key.bytes.items number true (keys_in ks)) (sym are)
        (subst (λ (ks : List (List ℕ)). IsPlaced (keys_in olds) key.bytes.items number true ks)
        (sym (map-append (λ (k : MemberKey). k.bytes.items) olds (key ∷ [])))
        (subst (λ (i : ℕ). IsPlaced (keys_in olds) key.bytes.items i true (keys_in olds ++ key.bytes.items ∷ [])) last
        (placed_new (nowhere key olds e)))))

pub ruleset placed = (placed_of)

-- the first key is alone
pub placed_first : (keys more : List (List ℕ)) (key : List ℕ) (number : ℕ) (is_new : Bool) → keys ≡ [] → IsPlaced keys key number is_new more
    → more ≡ key ∷ []
placed_first [] more key number is_new none (placed_known at) = absurd (cc)
placed_first [] more key number is_new none (placed_new nowhere) = refl
placed_first (k ∷ keys) more key number is_new none placed = absurd (cc)

-- ---- how many keys there are

-- a known key is one of them
pub is_known : (keys more : List (List ℕ)) (key : List ℕ) (number : ℕ) (is_new : Bool) → is_new ≡ false → IsPlaced keys key number is_new more
    → (more ≡ keys) × (slice_get keys number ≡ Some key)
is_known keys more key number false e (placed_known at) = (refl, at)
is_known keys more key number true e placed = absurd (cc)

-- a new key stands behind them
pub is_last : (keys more : List (List ℕ)) (key : List ℕ) (number : ℕ) (is_new : Bool) → is_new ≡ true → IsPlaced keys key number is_new more
    → IsNowhere keys key × (number ≡ length keys) × (more ≡ keys ++ key ∷ [])
is_last keys more key number true e (placed_new none) = (none, refl, refl)
is_last keys more key number false e placed = absurd (cc)

pub many_in : (keys : List MemberKey) → length (keys_in keys) ≡ length keys
many_in keys = length-map keys (λ (k : MemberKey). k.bytes.items)

-- where a number is within the rows, so are the keys
pub placed_within : (olds news : List MemberKey) (key : List ℕ) (number : ℕ) (is_new : Bool) (rows : ℕ) → length olds ≤ rows → number < rows
    → IsPlaced (keys_in olds) key number is_new (keys_in news) → length news ≤ rows
placed_within olds news key number false rows room within placed =
    let h = is_known (keys_in olds) (keys_in news) key number false refl placed in
    let same = ap (λ (l : List (List ℕ)). length l) h.0 in
    let n = many_in olds in
    let m = many_in news in
    omega (arith, same, n, m, room)
placed_within olds news key number true rows room within placed =
    let h = is_last (keys_in olds) (keys_in news) key number true refl placed in
    let last = h.1 in
    let same = ap (λ (l : List (List ℕ)). length l) h.2 in
    let more = length-append (keys_in olds) (key ∷ []) in
    let n = many_in olds in
    let m = many_in news in
    omega (arith, same, more, last, n, m, within)

-- where it is not, the key is one too many
pub placed_beyond : (olds news reached : List MemberKey) (key : List ℕ) (number : ℕ) (is_new : Bool) (rows : ℕ) → length olds ≤ rows → rows ≤ number
    → IsPlaced (keys_in olds) key number is_new (keys_in news) → keys_in reached ≡ keys_in news → KeyRefused rows (keys_in olds) key (NoPattern reached)
placed_beyond olds news reached key number false rows room beyond placed are =
    let h = is_known (keys_in olds) (keys_in news) key number false refl placed in
    let within = slice_get_within (keys_in olds) number key h.1 in
    let n = many_in olds in
    absurd (omega (arith, within, n, room, beyond))
placed_beyond olds news reached key number true rows room beyond placed are =
    let h = is_last (keys_in olds) (keys_in news) key number true refl placed in
    let last = h.1 in
    let n = many_in olds in
    key_many h.0 (omega (arith, n, last, room, beyond)) (are ∙ h.2)

pub key_out : (rows : ℕ) (keys : List (List ℕ)) (key : List ℕ) (error : SearchError) → error ≡ Memory → KeyRefused rows keys key error
key_out rows keys key error is = subst (KeyRefused rows keys key) (sym is) key_memory

pub ruleset numbers = (placed_within, placed_beyond, key_out)

-- ---- members

-- a window that was renumbered is settled as before
pub settled_again : (w later : StoredWindow) → IsProper (window_in w) → Renumbers (window_in w) (window_in later) → IsSettled w → InNodes true later.tree
    → IsSettled later
settled_again w later proper renumbers settled nodes =
    let same : later.names.next_variable ≡ (renumbered (window_in w)).next_variable = ap (λ (u : Window). u.next_variable) renumbers in
    let fewer = renumbered_variables (window_in w) proper in
    let variables = settled.variables in
    record {
      normal = renumbering_normal (window_in w) (window_in later) renumbers settled.normal;
      nodes = nodes;
      variables = omega (arith, same, fewer, variables);
    }

pub member_known : (keys news : List (List ℕ)) (waiting : List Window) (w : Window) (key : List ℕ) (number : ℕ) (is_new : Bool) → is_new ≡ false
    → IsPlaced keys key number is_new news → key ≡ key_of w
    → IsNumbered (record { keys = keys; waiting = waiting }) w number (record { keys = news; waiting = waiting })
member_known keys news waiting w key number false e (placed_known at) is =
    numbered_known (at ∙ ap (λ (k : List ℕ). Some k) is)
member_known keys news waiting w key number true e placed is = absurd (cc)

pub member_new : (keys news : List (List ℕ)) (waiting later : List Window) (w : Window) (key : List ℕ) (number : ℕ) (is_new : Bool) → is_new ≡ true
    → IsPlaced keys key number is_new news → key ≡ key_of w → Joins waiting w later
    → IsNumbered (record { keys = keys; waiting = waiting }) w number (record { keys = news; waiting = later })
member_new keys news waiting later w key number is_new e placed is joins =
    let h = is_last keys news key number is_new e placed in
    let new : IsNumbered (record { keys = keys; waiting = waiting }) w (length keys) (record { keys = keys ++ key_of w ∷ []; waiting = waiting ++ joins.member ∷ [] }) =
    numbered_new (subst (IsNowhere keys) is h.0) joins.renumbers in
    let after : record { keys = keys ++ key_of w ∷ []; waiting = waiting ++ joins.member ∷ [] } ≡ record { keys = news; waiting = later } =
    λ i. record { keys = sym (h.2 ∙ ap (λ (k : List ℕ). keys ++ k ∷ []) is) i; waiting = sym joins.waits i } in
    subst (IsNumbered (record { keys = keys; waiting = waiting }) w number) after
    (subst (λ (n : ℕ). IsNumbered (record { keys = keys; waiting = waiting }) w n (record { keys = keys ++ key_of w ∷ []; waiting = waiting ++ joins.member ∷ [] }))
    (sym h.1) new)

pub member_many : (rows : ℕ) (keys : List (List ℕ)) (waiting : List Window) (w : Window) (key : List ℕ) (error : SearchError) → KeyRefused rows keys key error
    → key ≡ key_of w → bare_leaf (whole w.front) ≡ None → WindowRefused rows (record { keys = keys; waiting = waiting }) w error
member_many rows keys waiting w key error key_memory is bare = refused_memory
member_many rows keys waiting w key error (key_many {reached} none many are) is bare =
    refused_many bare (subst (IsNowhere keys) is none) many (are ∙ ap (λ (k : List ℕ). keys ++ k ∷ []) is)

pub member_out : (rows : ℕ) (pool : Pool) (w : Window) (error : SearchError) → error ≡ Memory → WindowRefused rows pool w error
member_out rows pool w error is = subst (WindowRefused rows pool w) (sym is) refused_memory

pub ruleset members = (member_known, member_new, member_many, member_out)
