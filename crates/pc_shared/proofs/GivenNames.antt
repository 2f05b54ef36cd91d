-- Names that are given one after the other: what was given stays, and what a tree becomes.
use Rattle.std.proofs.Common.{◌≡◌, ℕ, suc, ◌+◌, ◌<◌, ◌≤◌, List, [], ◌∷◌, Option, Some, None, refl, sym, ◌∙◌, ap, subst, arith}
use Rattle.std.specs.Prelude.{Bool, true, false, if◌then◌else◌, nat_eq, ◌++◌}
use Rattle.std.specs.List.{AllByRecursion}
use Rattle.std.proofs.lemmas.List.{append-nil}
use Rattle.pc_word.specs.declared.item.Item.{Item}
use Rattle.pc_word.specs.declared.item.Item.TheVariants.{Bin, Copy, Load, Store, Print, Read, More}
use Rattle.pc_word.specs.Items.{dest_of}
use Rattle.pc_word.specs.Commit.{writes}
use Rattle.pc_word.proofs.Lists.{all_both, all_imply}
use Rattle.pc_word.proofs.Truth.{or_made_false, or_first, or_second, or_false}
use Rattle.pc_linear.specs.Form.{Form}
use Rattle.pc_window.specs.Names.{IsNew, Scoped, and_dest}
use Rattle.pc_window.specs.Opening.{Supply, FormBelow, ItemBelow, TreeBelow}
use Rattle.pc_window.specs.Tree.{tree_size}
use Rattle.pc_window.specs.Rebasing.{is_in}
use Rattle.pc_window.proofs.Grafts.{nat_eq-same, nat_eq-less}
use Rattle.pc_canon.specs.Pairs.{Pair, others}
use Rattle.pc_shared.specs.declared.merging.Definition.{Definition}
use Rattle.pc_shared.specs.declared.merging.Given.{Given}
use Rattle.pc_shared.specs.NodeTree.{NodeTree, plain_tree}
use Rattle.pc_shared.specs.Merging.{definition_of}
use Rattle.pc_shared.specs.models.Renaming.{renamed_item}
use Rattle.pc_shared.specs.models.Merges.{FirstFree, none_given, this_one, a_later, Giving, one_more, Chooses, its_own, a_new, GivesName, given_before, given_now}
use Rattle.pc_shared.specs.models.Merges.{is_taken, Merges, merges_item, merges_definition, merges_test, merges_leaf, merges_stub, merges_end, merges_trap}
use Rattle.pc_shared.proofs.Renamed.{Renamed, renamed_plain, renamed_given, renamed_test, renamed_leaf, renamed_stub, renamed_end, renamed_trap, new_scope}

-- ---- what is given later

-- no name has gone, and no form of a name changed
pub record IsLater (g h : Giving) : Type 0 where
  pub next : g.names.next ≤ h.names.next
  pub forms : (x : ℕ) → x < g.names.next → h.names.forms x ≡ g.names.forms x
  pub more : List Given
  pub given : h.given ≡ g.given ++ more

pub later_same : (g : Giving) → IsLater g g
later_same g = record { next = omega arith; forms = λ x lt. refl; more = []; given = sym (append-nil g.given) }

appended : {X : Type 0} (xs ys zs : List X) → (xs ++ ys) ++ zs ≡ xs ++ (ys ++ zs)
appended [] ys zs = refl
appended (x ∷ xs) ys zs = ap (λ (list : List _). x ∷ list) (appended xs ys zs)

later_again : (g m h : Giving) → IsLater g m → IsLater m h → IsLater g h
later_again g m h one other = record {
  next = let a = one.next in let b = other.next in omega (arith, a, b);
  forms = λ x lt. (let a = one.next in other.forms x (omega (arith, a, lt))) ∙ one.forms x lt;
  more = one.more ++ other.more;
  given = other.given ∙ ap (λ (list : List Given). list ++ other.more) one.given ∙ appended g.given one.more other.more;
}

chosen_next : {given : List Given} {above : List ℕ} {old : ℕ} {form : Form} {names : Supply} {name : ℕ} {names' : Supply} → Chooses given above old form names name names'
    → (names.next ≤ names'.next) × ((x : ℕ) → x < names.next → names'.forms x ≡ names.forms x)
chosen_next (its_own taken apart) = (omega arith, λ x lt. refl)
chosen_next {given} {above} {old} {form} {names} a_new =
    (omega arith, λ x lt. ap (λ (b : Bool). if b then form else names.forms x) (nat_eq-less names.next x lt))

gives_later : {pairs : List Pair} {old : ℕ} {d : Definition} {g : Giving} {name : ℕ} {h : Giving} → GivesName pairs old d g name h → IsLater g h
gives_later {pairs} {old} {d} {g} (given_before free) = later_same g
gives_later {pairs} {old} {d} {g} {name} (given_now none chosen) =
    let c = chosen_next chosen in record { next = c.0; forms = c.1; more = record { definition = d; name = name } ∷ []; given = refl }

pub merges_later : {pairs : List Pair} {g h : Giving} {t t' : NodeTree} → Merges pairs g t h t' → IsLater g h
merges_later (merges_item e m) = merges_later m
merges_later (merges_definition {pairs} {g} {m} {h} e gives below) = later_again g m h (gives_later gives) (merges_later below)
merges_later (merges_test {pairs} {g} {m} {h} p q) = later_again g m h (merges_later p) (merges_later q)
merges_later (merges_leaf m) = merges_later m
merges_later (merges_stub {pairs} {g}) = later_same g
merges_later (merges_end {pairs} {g}) = later_same g
merges_later (merges_trap {pairs} {g}) = later_same g

-- no more names are new than there are items and tests
gives_next : {pairs : List Pair} {old : ℕ} {d : Definition} {g : Giving} {name : ℕ} {h : Giving} → GivesName pairs old d g name h → h.names.next ≤ suc g.names.next
gives_next (given_before free) = omega arith
gives_next (given_now none (its_own taken apart)) = omega arith
gives_next (given_now none a_new) = omega arith

pub few_new : {pairs : List Pair} {g h : Giving} {t t' : NodeTree} → Merges pairs g t h t' → h.names.next ≤ g.names.next + tree_size (plain_tree t)
few_new (merges_item e m) = let le = few_new m in omega (arith, le)
few_new (merges_definition e gives m) = let le = few_new m in let one = gives_next gives in omega (arith, le, one)
few_new (merges_test p q) = let le = few_new p in let one = few_new q in omega (arith, le, one)
few_new (merges_leaf m) = few_new m
few_new merges_stub = omega arith
few_new merges_end = omega arith
few_new merges_trap = omega arith

-- what was free first is so in a longer list
still_free : {above : List ℕ} {d : Definition} {given : List Given} {found : Option ℕ} (more : List Given) (name : ℕ) → FirstFree above d given found
    → found ≡ Some name → FirstFree above d (given ++ more) found
still_free more name none_given e = absurd (cc)
still_free more name (this_one same apart) e = this_one same apart
still_free more name (a_later taken free) e = a_later taken (still_free more name free e)

-- what is given where nothing was free is free first
now_free : {above : List ℕ} {d : Definition} {given : List Given} {found : Option ℕ} (name : ℕ) → FirstFree above d given found → found ≡ None
    → is_in name above ≡ false → FirstFree above d (one_more given d name) (Some name)
now_free name none_given e apart = this_one refl apart
now_free name (this_one same free) e apart = absurd (cc)
now_free name (a_later taken free) e apart = a_later taken (now_free name free e apart)

-- ---- each name is given once

abbrev pub AreOnce : List Given → Type 0
AreOnce [] = Unit {0}
AreOnce (one ∷ more) = (is_taken one.name more ≡ false) × AreOnce more

turned : (x y : ℕ) → nat_eq x y ≡ false → nat_eq y x ≡ false
turned x y e = grind (arith, e)

not_more_taken : (x : ℕ) (given : List Given) (d : Definition) (name : ℕ) → is_taken x given ≡ false → nat_eq x name ≡ false → is_taken x (one_more given d name) ≡ false
not_more_taken x [] d name none apart = or_made_false (nat_eq x name) false apart refl
not_more_taken x (one ∷ more) d name none apart =
    let p = or_false (nat_eq x one.name) (is_taken x more) none in
    or_made_false (nat_eq x one.name) (is_taken x (one_more more d name)) p.0 (not_more_taken x more d name p.1 apart)

once_more : (given : List Given) (d : Definition) (name : ℕ) → AreOnce given → is_taken name given ≡ false → AreOnce (one_more given d name)
once_more [] d name once none = (refl, tt)
once_more (one ∷ more) d name once none =
    let p = or_false (nat_eq name one.name) (is_taken name more) none in
    (not_more_taken one.name more d name once.0 (turned name one.name p.0), once_more more d name once.1 p.1)

found_taken : {above : List ℕ} {d : Definition} {given : List Given} {found : Option ℕ} (name : ℕ) → FirstFree above d given found → found ≡ Some name → is_taken name given ≡ true
found_taken name none_given e = absurd (cc)
found_taken name (this_one {one} {more} same apart) e =
    let is : name ≡ one.name = cc in or_first (nat_eq name one.name) (is_taken name more) (ap (λ (n : ℕ). nat_eq name n) (sym is) ∙ nat_eq-same name)
found_taken name (a_later {one} {more} taken free) e = or_second (nat_eq name one.name) (is_taken name more) (found_taken name free e)

-- what was given one name is one definition
pub one_definition : {above other : List ℕ} {d d' : Definition} {given : List Given} {found found' : Option ℕ} (name : ℕ) → AreOnce given → FirstFree above d given found
    → FirstFree other d' given found' → found ≡ Some name → found' ≡ Some name → d ≡ d'
one_definition name once none_given free' e e' = absurd (cc)
one_definition name once (this_one same apart) (this_one same' apart') e e' = sym same ∙ same'
one_definition name once (this_one {one} {more} same apart) (a_later taken free) e e' =
    let is : name ≡ one.name = cc in absurd (let there = found_taken name free e' in let none = ap (λ (n : ℕ). is_taken n more) is ∙ once.0 in cc)
one_definition name once (a_later {one} {more} taken free) (this_one same apart) e e' =
    let is : name ≡ one.name = cc in absurd (let there = found_taken name free e in let none = ap (λ (n : ℕ). is_taken n more) is ∙ once.0 in cc)
one_definition name once (a_later taken free) (a_later taken' free') e e' = one_definition name once.1 free free' e e'

-- ---- names that are given are sound

module _ (forms : ℕ → Form) (next variables : ℕ) (known : ℕ → Bool) (known_below : (x : ℕ) → known x ≡ true → x < next) where
  -- a given name is below the next one, has the form of what defines it, and is no parameter
  pub record IsSound (names : Supply) (one : Given) : Type 0 where
    pub form : names.forms one.name ≡ one.definition.form
    pub below : one.name < names.next
    pub unknown : known one.name ≡ false

  -- no old name has another form, and each name that was given is sound
  pub record AreSound (g : Giving) : Type 0 where
    pub least : next ≤ g.names.next
    pub kept : (x : ℕ) → x < next → g.names.forms x ≡ forms x
    pub supply : g.names.next_variable ≡ variables
    pub forms_below : (x : ℕ) → FormBelow variables (g.names.forms x)
    pub given : AllByRecursion (IsSound g.names) g.given
    pub once : AreOnce g.given

  -- a name on a path is below the next one
  abbrev AllBelow : ℕ → List Pair → Type 0
  AllBelow n [] = Unit {0}
  AllBelow n (pair ∷ pairs) = (pair.other < n) × AllBelow n pairs

  still_below : (n m : ℕ) → n ≤ m → (pairs : List Pair) → AllBelow n pairs → AllBelow m pairs
  still_below n m le [] all = tt
  still_below n m le (pair ∷ pairs) all = ((let lt = all.0 in omega (arith, lt, le)), still_below n m le pairs all.1)

  not_among : (n : ℕ) (pairs : List Pair) → AllBelow n pairs → is_in n (others pairs) ≡ false
  not_among n [] all = refl
  not_among n (pair ∷ pairs) all =
      or_made_false (nat_eq n pair.other) (is_in n (others pairs)) (nat_eq-less n pair.other all.0) (not_among n pairs all.1)

  -- a name that is no parameter and not given on a path is new there
  new_there : (last : Giving) (pairs : List Pair) (name : ℕ) → is_in name (others pairs) ≡ false → known name ≡ false → new_scope forms known last pairs name ≡ false
  new_there last [] name apart unknown = unknown
  new_there last (pair ∷ pairs) name apart unknown =
      let p = or_false (nat_eq name pair.other) (is_in name (others pairs)) apart in
      or_made_false (nat_eq pair.other name) (new_scope forms known last pairs name) (turned name pair.other p.0) (new_there last pairs name p.1 unknown)

  sound_later : (g h : Giving) → IsLater g h → (given : List Given) → AllByRecursion (IsSound g.names) given → AllByRecursion (IsSound h.names) given
  sound_later g h later given all =
      all_imply (IsSound g.names) (IsSound h.names) given (λ one s. record {
        form = later.forms one.name s.below ∙ s.form;
        below = let a = s.below in let b = later.next in omega (arith, a, b);
        unknown = s.unknown;
      }) all

  -- the next name was not given
  next_not_taken : (names : Supply) (given : List Given) → AllByRecursion (IsSound names) given → is_taken names.next given ≡ false
  next_not_taken names [] all = refl
  next_not_taken names (one ∷ more) all =
      or_made_false (nat_eq names.next one.name) (is_taken names.next more) (nat_eq-less names.next one.name all.0.below) (next_not_taken names more all.1)

  chosen_not_taken : {given : List Given} {above : List ℕ} {old : ℕ} {form : Form} {names : Supply} {name : ℕ} {names' : Supply} → Chooses given above old form names name names'
      → AllByRecursion (IsSound names) given → is_taken name given ≡ false
  chosen_not_taken (its_own taken apart) all = taken
  chosen_not_taken {given} {above} {old} {form} {names} a_new all = next_not_taken names given all

  -- what is found is sound, and does not stand above
  found_sound : {above : List ℕ} {d : Definition} {given : List Given} {found : Option ℕ} (names : Supply) (name : ℕ) → FirstFree above d given found → found ≡ Some name
      → AllByRecursion (IsSound names) given → IsSound names (record { definition = d; name = name }) × (is_in name above ≡ false)
  found_sound names name none_given e all = absurd (cc)
  found_sound {above} {d} names name (this_one {one} same apart) e all =
      let is : one.name ≡ name = cc in (
        record { form = ap names.forms (sym is) ∙ all.0.form ∙ ap (λ d. d.form) same; below = subst (λ (n : ℕ). n < names.next) is all.0.below; unknown = ap known (sym is) ∙ all.0.unknown },
        ap (λ n. is_in n above) (sym is) ∙ apart,
      )
  found_sound names name (a_later taken free) e all = found_sound names name free e all.1

  -- a name that is given
  pub record NowGiven (pairs : List Pair) (d : Definition) (name : ℕ) (h : Giving) : Type 0 where
    pub sound : AreSound h
    pub one : IsSound h.names (record { definition = d; name = name })
    pub apart : is_in name (others pairs) ≡ false
    pub free : FirstFree (others pairs) d h.given (Some name)

  chosen_sound : {given : List Given} {above : List ℕ} {old : ℕ} {form : Form} {names : Supply} {name : ℕ} {names' : Supply} → Chooses given above old form names name names'
      → next ≤ names.next → is_in names.next above ≡ false → names.forms old ≡ form → old < names.next → known old ≡ false
      → (names'.forms name ≡ form) × (name < names'.next) × (known name ≡ false) × (is_in name above ≡ false)
  chosen_sound (its_own taken apart) least fresh same lt unknown = (same, lt, unknown, apart)
  chosen_sound {given} {above} {old} {form} {names} a_new least fresh same lt unknown = (
    ap (λ (b : Bool). if b then form else names.forms names.next) (nat_eq-same names.next),
    omega arith,
    not_known (known names.next) refl,
    fresh,
  )
    where
      not_known : (b : Bool) → known names.next ≡ b → b ≡ false
      not_known false e = refl
      not_known true e = absurd (let lt = known_below names.next e in omega (arith, lt, least))

  chosen_forms : {given : List Given} {above : List ℕ} {old : ℕ} {form : Form} {names : Supply} {name : ℕ} {names' : Supply} → Chooses given above old form names name names'
      → FormBelow variables form → ((x : ℕ) → FormBelow variables (names.forms x))
      → (names'.next_variable ≡ names.next_variable) × ((x : ℕ) → FormBelow variables (names'.forms x))
  chosen_forms (its_own taken apart) below all = (refl, all)
  chosen_forms {given} {above} {old} {form} {names} a_new below all = (refl, λ x. by (nat_eq names.next x) x)
    where
      by : (b : Bool) (x : ℕ) → FormBelow variables (if b then form else names.forms x)
      by true x = below
      by false x = all x

  now_given : {pairs : List Pair} {old : ℕ} {d : Definition} {g : Giving} {x : ℕ} {h : Giving} → GivesName pairs old d g x h → AreSound g
      → AllBelow g.names.next pairs → g.names.forms old ≡ d.form → old < next → known old ≡ false → NowGiven pairs d x h
  now_given {pairs} {old} {d} {g} (given_before {name} free) sound below same lt unknown =
      let f = found_sound g.names name free refl sound.given in record { sound = sound; one = f.0; apart = f.1; free = free }
  now_given {pairs} {old} {d} {g} {h} (given_now {name} {names} none chosen) sound below same lt unknown =
      let least = sound.least in
      let c = chosen_sound chosen least (not_among g.names.next pairs below) same (omega (arith, lt, least)) unknown in
      let k = chosen_next chosen in
      let gives : GivesName pairs old d g name h = given_now none chosen in
      let later = gives_later gives in
      let one : IsSound names (record { definition = d; name = name }) = record { form = c.0; below = c.1; unknown = c.2 } in record {
        sound = record {
          least = let a = k.0 in omega (arith, least, a);
          kept = λ x lt. k.1 x (omega (arith, lt, least)) ∙ sound.kept x lt;
          supply = (chosen_forms chosen (subst (FormBelow variables) same (sound.forms_below old)) sound.forms_below).0 ∙ sound.supply;
          forms_below = (chosen_forms chosen (subst (FormBelow variables) same (sound.forms_below old)) sound.forms_below).1;
          given = all_both (IsSound names) g.given (record { definition = d; name = name } ∷ []) (sound_later g h later g.given sound.given) (one, tt);
          once = once_more g.given d name sound.once (chosen_not_taken chosen sound.given);
        };
        one = one;
        apart = c.3;
        free = now_free name none refl c.3;
      }

  -- ---- what a tree becomes

  dest_below : (item : Item) (old : ℕ) → dest_of item ≡ Some old → ItemBelow next item → old < next
  dest_below (Bin op dest left right) old e h = let same : dest ≡ old = cc in subst (λ (n : ℕ). n < next) same h.0
  dest_below (Copy dest from) old e h = let same : dest ≡ old = cc in subst (λ (n : ℕ). n < next) same h.0
  dest_below (Load dest array index) old e h = let same : dest ≡ old = cc in subst (λ (n : ℕ). n < next) same h.0
  dest_below (Store array index value) old e h = absurd (cc)
  dest_below (Print value) old e h = absurd (cc)
  dest_below (Read dest) old e h = let same : dest ≡ old = cc in subst (λ (n : ℕ). n < next) same h
  dest_below (More dest) old e h = let same : dest ≡ old = cc in subst (λ (n : ℕ). n < next) same h

  -- what is known at first is known
  abbrev Covers : (ℕ → Bool) → Type 0
  Covers scope = (x : ℕ) → known x ≡ true → scope x ≡ true

  unknown_there : (scope : ℕ → Bool) → Covers scope → (d : Option ℕ) (old : ℕ) → d ≡ Some old → IsNew scope d → known old ≡ false
  unknown_there scope covers d old e new = by (known old) refl
    where
      here : scope old ≡ false
      here = subst (IsNew scope) e new

      by : (b : Bool) → known old ≡ b → b ≡ false
      by false k = refl
      by true k = absurd (let there = covers old k in let none = here in cc)

  more_covered : (scope : ℕ → Bool) (item : Item) → Covers scope → Covers (and_dest scope item)
  more_covered scope item covers x k = or_second (writes (dest_of item) x) (scope x) (covers x k)

  -- the names that are given are sound, and once all names are given a tree has become what it is
  pub record HasBecome (pairs : List Pair) (h : Giving) (t t' : NodeTree) : Type 0 where
    pub sound : AreSound h
    pub renamed : (last : Giving) → IsLater h last → Renamed forms known last pairs t t'

  pub becomes : {pairs : List Pair} {g h : Giving} {t t' : NodeTree} → Merges pairs g t h t' → AreSound g → AllBelow g.names.next pairs
      → (scope : ℕ → Bool) → Covers scope → Scoped scope (plain_tree t) → TreeBelow next (plain_tree t) → HasBecome pairs h t t'
  becomes (merges_item {pairs} {g} {h} {tag} {origin} {item} e m) sound all scope covers scoped below =
      let r = becomes m sound all (and_dest scope item) (more_covered scope item covers) scoped.2 below.1 in
      record { sound = r.sound; renamed = λ last later. renamed_plain e (r.renamed last later) }
  becomes (merges_definition {pairs} {g} {m} {h} {tag} {origin} {item} {rest} {rest'} {old} {name} e gives more) sound all scope covers scoped below =
      let lt = dest_below item old e below.0 in
      let unknown = unknown_there scope covers (dest_of item) old e scoped.1 in
      let now = now_given gives sound all refl lt unknown in
      let first = gives_later gives in
      let r = becomes more now.sound (now.one.below, still_below g.names.next m.names.next first.next pairs all) (and_dest scope item) (more_covered scope item covers) scoped.2 below.1 in
      let after = merges_later more in
      let d = definition_of g.names.forms tag origin (renamed_item pairs item) old in record {
        sound = r.sound;
        renamed = λ last later.
            let k = later_again m h last after later in
            let form = k.forms name now.one.below ∙ now.one.form in
            renamed_given e (record {
              free = subst (λ (f : Form). FirstFree (others pairs) (record { tag = tag; origin = origin; item = d.item; form = f }) last.given (Some name))
                  (sym form)
                  (subst (λ (list : List Given). FirstFree (others pairs) d list (Some name))
                  (sym k.given) (still_free k.more name now.free refl));
              form = form ∙ sound.kept old lt;
              below = let a = now.one.below in let b = k.next in omega (arith, a, b);
              apart = new_there last pairs name now.apart now.one.unknown;
            }) (r.renamed last later);
      }
  becomes (merges_test {pairs} {g} {m} {h} p q) sound all scope covers scoped below =
      let one = becomes p sound all scope covers scoped.1 below.1 in
      let first = merges_later p in
      let other = becomes q one.sound (still_below g.names.next m.names.next first.next pairs all) scope covers scoped.2 below.2 in
      let after = merges_later q in
      record { sound = other.sound; renamed = λ last later. renamed_test (one.renamed last (later_again m h last after later)) (other.renamed last later) }
  becomes (merges_leaf m) sound all scope covers scoped below =
      let r = becomes m sound all scope covers scoped below in record { sound = r.sound; renamed = λ last later. renamed_leaf (r.renamed last later) }
  becomes merges_stub sound all scope covers scoped below = record { sound = sound; renamed = λ last later. renamed_stub }
  becomes merges_end sound all scope covers scoped below = record { sound = sound; renamed = λ last later. renamed_end }
  becomes merges_trap sound all scope covers scoped below = record { sound = sound; renamed = λ last later. renamed_trap }
