-- Rebasing keeps what forms say: the new variables have values with which each name still has the value of its form.
use Rattle.std.proofs.Common.{◌≡◌, ℕ, zero, suc, ◌<◌, ◌≤◌, List, [], ◌∷◌, ◌++◌, length, Option, Some, None, refl, sym, ◌∙◌, ap, subst, arith}
use Rattle.std.specs.Prelude.{ℤ, pos, negsuc, ◌+ℤ◌, ◌*ℤ◌, neg_ℤ, Bool, true, false, if◌then◌else◌, nat_eq, nat_lt}
use Rattle.std.specs.Int.{w32, int_wrap}
use Rattle.std.proofs.lemmas.Int.{ints}
use lib.IntN.{+ℤ_idr, *ℤ-zero, *ℤ_comm}
use Rattle.pc_word.specs.declared.item.Item.{Item}
use Rattle.pc_word.specs.declared.item.Item.TheVariants.{Bin, Copy, Load, Store, Print, Read, More}
use Rattle.pc_word.specs.declared.item.Operand.{Operand}
use Rattle.pc_word.specs.declared.item.Operand.TheVariants.{Name, Lit}
use Rattle.pc_word.specs.Word.{holds}
use Rattle.pc_word.specs.State.{State}
use Rattle.pc_word.specs.Items.{operand_value, dest_of, value_of}
use Rattle.pc_word.specs.Commit.{state_after, writes}
use Rattle.pc_linear.specs.declared.term.Term.{Term}
use Rattle.pc_linear.specs.Form.{most_terms, Form, sum_of, ◌≈◌, form_number, says, Means, factor_of}
use Rattle.pc_linear.specs.Combine.{plus, variable_form}
use Rattle.pc_window.specs.Opening.{FormBelow, Supply, changed, OperandBelow, ItemBelow, StubBelow, TreeBelow, FormsBelow}
use Rattle.pc_window.specs.declared.home.Home.{Home}
use Rattle.pc_window.specs.Tree.{Tree, Pending, Undecided, Exit, Stop_exit, Trap_exit}
use Rattle.pc_window.specs.Hold.{DefinedMeans, DefinedHold, TreeHolds}
use Rattle.pc_window.specs.Rebasing.{with_form, with_variable, settled, rewritten_by, rewritten, rewrite_all, one_variable_more, make_base, Turned, first_base, first_turn}
use Rattle.pc_window.specs.Rebasing.{first_turns, free_terms, second_choice, second_turn, second_turns, rebased, all_names}
use Rattle.pc_window.specs.Names.{parameters_of, name_in, names_read, names_in_homes, without_name, free_uses, first_uses}
use Rattle.pc_linear.proofs.Words.{wrap_zero, wrap_same, add_same, times_same, one_times, minus_one, distribute_left}
use Rattle.pc_linear.proofs.Forms.{plus-number, means_number}
use Rattle.pc_window.proofs.Forms.{TermsBelow-later, plus-below, sum_of-agree, Means-agree}
use Rattle.pc_window.proofs.Grafts.{nat_eq-same, nat_eq-less}
use Rattle.pc_window.proofs.GraftForms.{GoesOn, GoesOn-trans}
use Rattle.pc_window.proofs.Uses.{nat_eq-tells}
use Rattle.pc_window.proofs.Unwinding.{Side-map, used_below}

-- a value that is a form's number, as words, is what a form with a term says
number_says : (σ : ℕ → ℤ) (f : Form) (value : ℤ) → (f.terms ≡ [] → ⊥) → value ≈ form_number σ f → Means σ f value
number_says σ f value some h = by_terms f.terms some h
  where
    by_terms : (ts : List Term) → (ts ≡ [] → ⊥) → value ≈ (sum_of σ ts +ℤ f.constant) → says σ ts f.constant value
    by_terms [] some h = absurd (some refl)
    by_terms (t ∷ ts) some h = h

-- a form's number depends on its variables alone
number-agree : (m : ℕ) (σ τ : ℕ → ℤ) (f : Form) → ((v : ℕ) → v < m → τ v ≡ σ v) → FormBelow m f → form_number τ f ≡ form_number σ f
number-agree m σ τ f same b = ap (λ (z : ℤ). z +ℤ f.constant) (sum_of-agree m σ τ f.terms same b)

-- the number of a variable alone
variable-number : (σ : ℕ → ℤ) (v : ℕ) → form_number σ (variable_form v) ≡ σ v
variable-number σ v = +ℤ_idr ((pos 1 *ℤ σ v) +ℤ pos 0) ∙ +ℤ_idr (pos 1 *ℤ σ v) ∙ one_times (σ v)

-- the number of a difference between a variable and a form
pub difference-number : (σ : ℕ → ℤ) (y : ℕ) (form : Form) → form_number σ (plus (variable_form y) (negsuc 0) form) ≈ (σ y +ℤ neg_ℤ (form_number σ form))
difference-number σ y form = plus-number σ (variable_form y) (negsuc 0) form ∙ ap (int_wrap w32) (λ i. variable-number σ y i +ℤ minus_one (form_number σ form) i)

-- ---- a rewritten form has a term

cancel_left : (a k b : ℤ) → (a +ℤ (k *ℤ (pos 1 +ℤ b))) ≈ (a +ℤ (k *ℤ (pos 0 +ℤ b))) → k ≈ pos 0
cancel_left a k b h =
    let c = neg_ℤ (a +ℤ (k *ℤ (pos 0 +ℤ b))) in
    let both = add_same (a +ℤ (k *ℤ (pos 1 +ℤ b))) (a +ℤ (k *ℤ (pos 0 +ℤ b))) c c h refl in
    ap (int_wrap w32) (sym (ap (λ (z : ℤ). (a +ℤ z) +ℤ neg_ℤ (a +ℤ (k *ℤ (pos 0 +ℤ b)))) (distribute_left (pos 1) b k)
    ∙ ap (λ (z : ℤ). (a +ℤ ((k *ℤ pos 1) +ℤ (k *ℤ b))) +ℤ neg_ℤ (a +ℤ z)) (distribute_left (pos 0) b k) ∙ rest (k *ℤ b)))
    ∙ both ∙ ap (int_wrap w32) (none (a +ℤ (k *ℤ (pos 0 +ℤ b))))
  where
    none : (z : ℤ) → z +ℤ neg_ℤ z ≡ pos 0
    none z = omega (arith, ints)

    rest : (z : ℤ) → (a +ℤ ((k *ℤ pos 1) +ℤ z)) +ℤ neg_ℤ (a +ℤ ((k *ℤ pos 0) +ℤ z)) ≡ k
    rest z = ap (λ (y : ℤ). (a +ℤ (y +ℤ z)) +ℤ neg_ℤ (a +ℤ ((k *ℤ pos 0) +ℤ z))) (*ℤ_comm k (pos 1) ∙ one_times k)
        ∙ ap (λ (y : ℤ). (a +ℤ (k +ℤ z)) +ℤ neg_ℤ (a +ℤ (y +ℤ z))) (*ℤ-zero k) ∙ last a k z
      where
        last : (a k z : ℤ) → (a +ℤ (k +ℤ z)) +ℤ neg_ℤ (a +ℤ (pos 0 +ℤ z)) ≡ k
        last a k z = omega (arith, ints)

module _ (y : ℕ) (f form : Form) (fb : FormBelow y f) (gb : FormBelow y form) where
  -- the number of what is rewritten
  rewritten-number : (σ : ℕ → ℤ) (k : ℤ) → form_number σ (plus f k (plus (variable_form y) (negsuc 0) form)) ≈ (form_number σ f +ℤ (k *ℤ (σ y +ℤ neg_ℤ (form_number σ form))))
  rewritten-number σ k =
      plus-number σ f k (plus (variable_form y) (negsuc 0) form)
      ∙ add_same (form_number σ f) (form_number σ f) (k *ℤ form_number σ (plus (variable_form y) (negsuc 0) form)) (k *ℤ (σ y +ℤ neg_ℤ (form_number σ form))) refl
      (times_same k k (form_number σ (plus (variable_form y) (negsuc 0) form)) (σ y +ℤ neg_ℤ (form_number σ form)) refl (difference-number σ y form))

  -- it has a term, the new variable's: with another value of that variable alone its number is another
  rewritten_has_term : (k : ℤ) → (k ≈ pos 0 → ⊥) → (plus f k (plus (variable_form y) (negsuc 0) form)).terms ≡ [] → ⊥
  rewritten_has_term k some e =
      let σ : ℕ → ℤ = λ v. pos 0 in
      let τ : ℕ → ℤ = changed σ y (pos 1) in
      let same : (v : ℕ) → v < y → τ v ≡ σ v = λ v lt. ap (λ (b : Bool). if b then pos 1 else pos 0) (nat_eq-less y v lt) in
      let at_y : τ y ≡ pos 1 = ap (λ (b : Bool). if b then pos 1 else pos 0) (nat_eq-same y) in
      let whole = plus f k (plus (variable_form y) (negsuc 0) form) in
      let equal : form_number τ whole ≡ form_number σ whole =
      ap (λ (ts : List Term). sum_of τ ts +ℤ whole.constant) e ∙ sym (ap (λ (ts : List Term). sum_of σ ts +ℤ whole.constant) e) in
      let a = form_number σ f in
      let b = neg_ℤ (form_number σ form) in
      let left : form_number τ whole ≈ (a +ℤ (k *ℤ (pos 1 +ℤ b))) =
      rewritten-number τ k ∙ (λ i. int_wrap w32 (number-agree y σ τ f same fb i +ℤ (k *ℤ (at_y i +ℤ neg_ℤ (number-agree y σ τ form same gb i))))) in
      some (cancel_left a k b (sym left ∙ ap (int_wrap w32) equal ∙ rewritten-number σ k))

  -- where the new variable has the value of the parameter's form, a rewritten form says the same
  rewritten_number_same : (σ : ℕ → ℤ) (k value : ℤ) → σ y ≡ form_number σ form → value ≈ form_number σ f → value ≈ form_number σ (plus f k (plus (variable_form y) (negsuc 0) form))
  rewritten_number_same σ k value at h =
      h ∙ ap (int_wrap w32) (sym (
      ap (λ (z : ℤ). form_number σ f +ℤ (k *ℤ (z +ℤ neg_ℤ (form_number σ form)))) at
      ∙ ap (λ (z : ℤ). form_number σ f +ℤ (k *ℤ z)) (none (form_number σ form))
      ∙ ap (λ (z : ℤ). form_number σ f +ℤ z) (*ℤ-zero k)
      ∙ +ℤ_idr (form_number σ f)))
      ∙ sym (rewritten-number σ k)
    where
      none : (z : ℤ) → z +ℤ neg_ℤ z ≡ pos 0
      none z = omega (arith, ints)

  rewritten_by-means : (σ : ℕ → ℤ) (k value : ℤ) → int_wrap w32 k ≡ k → σ y ≡ form_number σ form → Means σ f value
      → Means σ (rewritten_by k (plus (variable_form y) (negsuc 0) form) f) value
  rewritten_by-means σ (pos zero) value word at h = h
  rewritten_by-means σ (pos (suc n)) value word at h =
      number_says σ (plus f (pos (suc n)) (plus (variable_form y) (negsuc 0) form)) value
      (rewritten_has_term (pos (suc n)) (λ e. let z = zero_word in absurd (cc)))
      (rewritten_number_same σ (pos (suc n)) value at (means_number σ f value h))
    where
      zero_word : int_wrap w32 (pos 0) ≡ pos 0
      zero_word = wrap_zero
  rewritten_by-means σ (negsuc n) value word at h =
      number_says σ (plus f (negsuc n) (plus (variable_form y) (negsuc 0) form)) value
      (rewritten_has_term (negsuc n) (λ e. let z = zero_word in absurd (cc)))
      (rewritten_number_same σ (negsuc n) value at (means_number σ f value h))
    where
      zero_word : int_wrap w32 (pos 0) ≡ pos 0
      zero_word = wrap_zero

rewritten_by-below : (m : ℕ) (k : ℤ) (difference f : Form) → FormBelow m difference → FormBelow m f → FormBelow m (rewritten_by k difference f)
rewritten_by-below m (pos zero) difference f p q = q
rewritten_by-below m (pos (suc k)) difference f p q = plus-below m f (pos (suc k)) difference q p
rewritten_by-below m (negsuc k) difference f p q = plus-below m f (negsuc k) difference q p

-- ---- how far the names have come

-- names that have come from forms under some values: there are values that go on from those, with which each form says what the old one said
pub record Stage (next : ℕ) (old : ℕ → Form) (m : ℕ) (σ : ℕ → ℤ) (names : Supply) : Type 0 where
  pub next_is : names.next ≡ next
  pub more : m ≤ names.next_variable
  pub below : FormsBelow names
  pub values : ℕ → ℤ
  pub goes_on : GoesOn m σ values
  pub carries : (x : ℕ) → x < next → (value : ℤ) → Means σ (old x) value → Means values (names.forms x) value

Stage-refl : (names : Supply) (σ : ℕ → ℤ) → FormsBelow names → Stage names.next names.forms names.next_variable σ names
Stage-refl names σ b = record {
  next_is = refl;
  more = omega arith;
  below = b;
  values = σ;
  goes_on = record { same = λ v h. refl };
  carries = λ x lt value h. h;
}

-- one name's form given anew
Stage-form : (next : ℕ) (old : ℕ → Form) (m : ℕ) (σ : ℕ → ℤ) (names : Supply) (n : ℕ) (f : Form) → Stage next old m σ names
    → FormBelow m f → (n < next → (value : ℤ) → Means σ (old n) value → Means σ f value) → Stage next old m σ (with_form names n f)
Stage-form next old m σ names n f s below means =
    let le = s.more in
    let same = s.next_is in
    record {
      next_is = s.next_is;
      more = s.more;
      below = record {
        form = λ x. by_test x (nat_eq n x) (λ e. TermsBelow-later m names.next_variable f.terms le below) (s.below.form x) refl;
      };
      values = s.values;
      goes_on = s.goes_on;
      carries = λ x lt value h. to_test x value (nat_eq n x) refl
          (λ e. let is = nat_eq-tells n x e in let here : n < next =
          omega arith in Means-agree m σ s.values f value s.goes_on.same below (means here value (subst (λ (z : ℕ). Means σ (old z) value) (sym is) h)))
          (s.carries x lt value h);
    }
  where
    by_test : (x : ℕ) (b : Bool) → (nat_eq n x ≡ true → FormBelow names.next_variable f) → FormBelow names.next_variable (names.forms x) → nat_eq n x ≡ b
        → FormBelow names.next_variable (if b then f else names.forms x)
    by_test x true p q e = p e
    by_test x false p q e = q

    to_test : (x : ℕ) (value : ℤ) (b : Bool) → nat_eq n x ≡ b → (nat_eq n x ≡ true → Means s.values f value) → Means s.values (names.forms x) value
        → Means s.values (if b then f else names.forms x) value
    to_test x value true e p q = p e
    to_test x value false e p q = q

-- one name with a new variable in place of its form
Stage-variable : (next : ℕ) (old : ℕ → Form) (m : ℕ) (σ : ℕ → ℤ) (names : Supply) (n : ℕ) → Stage next old m σ names → Stage next old m σ (with_variable names n)
Stage-variable next old m σ names n s =
    let z = names.next_variable in
    let τ : ℕ → ℤ = changed s.values z (form_number σ (old n)) in
    let le = s.more in
    let same_next = s.next_is in
    let at_z : τ z ≡ form_number σ (old n) = ap (λ (b : Bool). if b then form_number σ (old n) else s.values z) (nat_eq-same z) in
    let earlier : (v : ℕ) → v < z → τ v ≡ s.values v = λ v lt. ap (λ (b : Bool). if b then form_number σ (old n) else s.values v) (nat_eq-less z v lt) in
    record {
      next_is = s.next_is;
      more = omega arith;
      below = record {
        form = λ x. by_test x (nat_eq n x) (TermsBelow-later z (suc z) (names.forms x).terms (omega arith) (s.below.form x));
      };
      values = τ;
      goes_on = GoesOn-trans m z σ s.values τ le s.goes_on (record { same = earlier });
      carries = λ x lt value h. to_test τ x value (nat_eq n x) refl
          (λ e. let is = nat_eq-tells n x e in
          means_number σ (old n) value (subst (λ (w : ℕ). Means σ (old w) value) (sym is) h) ∙ ap (int_wrap w32) (sym (variable-number τ z ∙ at_z)))
          (Means-agree z s.values τ (names.forms x) value earlier (s.below.form x) (s.carries x lt value h));
    }
  where
    by_test : (x : ℕ) (b : Bool) → FormBelow (suc names.next_variable) (names.forms x) → FormBelow (suc names.next_variable) (if b then variable_form names.next_variable else names.forms x)
    by_test x true q = (omega arith, tt)
    by_test x false q = q

    to_test : (τ : ℕ → ℤ) (x : ℕ) (value : ℤ) (b : Bool) → nat_eq n x ≡ b
        → (nat_eq n x ≡ true → Means τ (variable_form names.next_variable) value) → Means τ (names.forms x) value
        → Means τ (if b then variable_form names.next_variable else names.forms x) value
    to_test τ x value true e p q = p e
    to_test τ x value false e p q = q

Stage-settled : (next : ℕ) (old : ℕ → Form) (m : ℕ) (σ : ℕ → ℤ) (names : Supply) (n : ℕ) (f : Form) → Stage next old m σ names
    → FormBelow m f → (n < next → (value : ℤ) → Means σ (old n) value → Means σ f value) → Stage next old m σ (settled names n f)
Stage-settled next old m σ names n f s below means = by_length (nat_lt most_terms (length f.terms))
  where
    by_length : (b : Bool) → Stage next old m σ (if b then with_variable names n else with_form names n f)
    by_length true = Stage-variable next old m σ names n s
    by_length false = Stage-form next old m σ names n f s below means

-- all names rewritten by a new variable that has the value of a form
Stage-rewrite_all : (next y x : ℕ) (form : Form) (old : ℕ → Form) (σ : ℕ → ℤ) → FormBelow y form → ((n : ℕ) → FormBelow y (old n)) → σ y ≡ form_number σ form
    → (ns : List ℕ) (names : Supply) → Stage next old (suc y) σ names → Stage next old (suc y) σ (rewrite_all x (plus (variable_form y) (negsuc 0) form) old ns names)
Stage-rewrite_all next y x form old σ gb fb at [] names s = s
Stage-rewrite_all next y x form old σ gb fb at (n ∷ ns) names s =
    let difference = plus (variable_form y) (negsuc 0) form in
    let k = int_wrap w32 (factor_of (old n).terms x) in
    let db : FormBelow (suc y) difference = plus-below (suc y) (variable_form y) (negsuc 0) form (omega arith, tt) (TermsBelow-later y (suc y) form.terms (omega arith) gb) in
    Stage-rewrite_all next y x form old σ gb fb at ns (settled names n (rewritten x difference (old n)))
    (Stage-settled next old (suc y) σ names n (rewritten x difference (old n)) s
    (rewritten_by-below (suc y) k difference (old n) db (TermsBelow-later y (suc y) (old n).terms (omega arith) (fb n)))
    (λ lt value h. rewritten_by-means y (old n) form (fb n) gb σ k value (wrap_same (factor_of (old n).terms x)) at h))

-- a new base
Stage-make_base : (next : ℕ) (old : ℕ → Form) (m : ℕ) (σ : ℕ → ℤ) (all : List ℕ) (p x : ℕ) (names : Supply)
    → p < next → Stage next old m σ names → Stage next old m σ (make_base all p x names)
Stage-make_base next old m σ all p x names lt s =
    let y = names.next_variable in
    let form = names.forms p in
    let σ' : ℕ → ℤ = changed s.values y (form_number s.values form) in
    let le = s.more in
    let same_next = s.next_is in
    let fb : (n : ℕ) → FormBelow y (names.forms n) = λ n. s.below.form n in
    let earlier : (v : ℕ) → v < y → σ' v ≡ s.values v = λ v h. ap (λ (b : Bool). if b then form_number s.values form else s.values v) (nat_eq-less y v h) in
    let at_y : σ' y ≡ form_number s.values form = ap (λ (b : Bool). if b then form_number s.values form else s.values y) (nat_eq-same y) in
    let at : σ' y ≡ form_number σ' form = at_y ∙ sym (number-agree y s.values σ' form earlier (fb p)) in
    let start : Stage next names.forms (suc y) σ' (one_variable_more names) = record {
      next_is = s.next_is;
      more = omega arith;
      below = record { form = λ n. TermsBelow-later y (suc y) (names.forms n).terms (omega arith) (s.below.form n) };
      values = σ';
      goes_on = record { same = λ v h. refl };
      carries = λ n h value q. q;
    } in
    let done = Stage-rewrite_all next y x form names.forms σ' (fb p) fb at all (one_variable_more names) start in
    let further = done.more in
    record {
      next_is = done.next_is;
      more = omega arith;
      below = done.below;
      values = done.values;
      goes_on = GoesOn-trans m y σ s.values done.values le s.goes_on (GoesOn-trans y (suc y) s.values σ' done.values (omega arith) (record { same = earlier }) done.goes_on);
      carries = λ n h value q. done.carries n h value (Means-agree y s.values σ' (names.forms n) value earlier (fb n) (s.carries n h value q));
    }

-- ---- the turns

-- all of some numbers are below one
abbrev pub AllBelow : ℕ → List ℕ → Type 0
AllBelow n [] = Unit
AllBelow n (x ∷ xs) = (x < n) × AllBelow n xs

AllBelow-append : (n : ℕ) (xs ys : List ℕ) → AllBelow n xs → AllBelow n ys → AllBelow n (xs ++ ys)
AllBelow-append n [] ys p q = q
AllBelow-append n (x ∷ xs) ys p q = (p.0, AllBelow-append n xs ys p.1 q)

record TurnedStage (next : ℕ) (old : ℕ → Form) (m : ℕ) (σ : ℕ → ℤ) (turned : Turned) : Type 0 where
  stage : Stage next old m σ turned.names
  left : AllBelow next turned.left

module _ (next : ℕ) (old : ℕ → Form) (m : ℕ) (σ : ℕ → ℤ) (all : List ℕ) where
  first_turn-stage : (p : ℕ) (choice : Option ℕ) (turned : Turned) → p < next → TurnedStage next old m σ turned → TurnedStage next old m σ (first_turn all p choice turned)
  first_turn-stage p None turned lt s = record { stage = s.stage; left = AllBelow-append next turned.left (p ∷ []) s.left (lt, tt) }
  first_turn-stage p (Some x) turned lt s = record { stage = Stage-make_base next old m σ all p x turned.names lt s.stage; left = s.left }

  first_turns-stage : (ps : List ℕ) (turned : Turned) → AllBelow next ps → TurnedStage next old m σ turned → TurnedStage next old m σ (first_turns all ps turned)
  first_turns-stage [] turned lt s = s
  first_turns-stage (p ∷ ps) turned lt s =
      let choice = first_base turned.bases (turned.names.forms p).terms in
      first_turns-stage ps (first_turn all p choice turned) lt.1 (first_turn-stage p choice turned lt.0 s)

  second_choice-stage : (p : ℕ) (choice : Option ℕ) (turned : Turned) → p < next → Stage next old m σ turned.names → Stage next old m σ (second_choice all p choice turned).names
  second_choice-stage p None turned lt s = Stage-variable next old m σ turned.names p s
  second_choice-stage p (Some x) turned lt s = Stage-make_base next old m σ all p x turned.names lt s

  second_turn-stage : (p : ℕ) (ts : List Term) (turned : Turned) → p < next → Stage next old m σ turned.names → Stage next old m σ (second_turn all p ts turned).names
  second_turn-stage p [] turned lt s = s
  second_turn-stage p (t ∷ ts) turned lt s = second_choice-stage p (first_base turned.bases (t ∷ ts)) turned lt s

  second_turns-stage : (ps : List ℕ) (turned : Turned) → AllBelow next ps → Stage next old m σ turned.names → Stage next old m σ (second_turns all ps turned).names
  second_turns-stage [] turned lt s = s
  second_turns-stage (p ∷ ps) turned lt s =
      let ts = free_terms turned.bases (turned.names.forms p).terms in
      second_turns-stage ps (second_turn all p ts turned) lt.1 (second_turn-stage p ts turned lt.0 s)

-- rebasing: whatever the old forms said under some values, the new ones say under values that go on from them
pub rebased-stage : (tree : Tree) (names : Supply) (σ : ℕ → ℤ) → FormsBelow names → AllBelow names.next (parameters_of tree)
    → Stage names.next names.forms names.next_variable σ (rebased tree names)
rebased-stage tree names σ b lt =
    let all = all_names tree in
    let start : Turned = record { names = names; bases = []; left = [] } in
    let first = first_turns-stage names.next names.forms names.next_variable σ all (parameters_of tree) start lt (record { stage = Stage-refl names σ b; left = tt }) in
    let turned = first_turns all (parameters_of tree) start in
    second_turns-stage names.next names.forms names.next_variable σ all turned.left turned first.left first.stage

-- ---- parameters are below

module _ (n : ℕ) where
  name_in-below : (o : Operand) → OperandBelow n o → AllBelow n (name_in o)
  name_in-below (Lit value) b = tt
  name_in-below (Name x) b = (b, tt)

  names_read-below : (item : Item) → ItemBelow n item → AllBelow n (names_read item)
  names_read-below (Bin op dest left right) b = AllBelow-append n (name_in left) (name_in right) (name_in-below left b.1) (name_in-below right b.2)
  names_read-below (Copy dest from) b = name_in-below from b.1
  names_read-below (Load dest array index) b = name_in-below index b.1
  names_read-below (Store array index value) b = AllBelow-append n (name_in index) (name_in value) (name_in-below index b.0) (name_in-below value b.1)
  names_read-below (Print value) b = name_in-below value b
  names_read-below (Read dest) b = tt
  names_read-below (More dest) b = tt

  homes-names-below : (homes : List Home) → StubBelow n homes → AllBelow n (names_in_homes homes)
  homes-names-below [] b = tt
  homes-names-below (home ∷ homes) b = AllBelow-append n (name_in home.value) (names_in_homes homes) (name_in-below home.value b.0) (homes-names-below homes b.1)

  without_name-below : (d : Option ℕ) (xs : List ℕ) → AllBelow n xs → AllBelow n (without_name d xs)
  without_name-below d [] h = tt
  without_name-below d (x ∷ xs) h = by_test (writes d x) (without_name-below d xs h.1)
    where
      by_test : (c : Bool) → AllBelow n (without_name d xs) → AllBelow n (if c then without_name d xs else (x ∷ without_name d xs))
      by_test true k = k
      by_test false k = (h.0, k)

  free_uses-below : (tree : Tree) → TreeBelow n tree → AllBelow n (free_uses tree)
  free_uses-below (Pending tag origin item rest) b =
      AllBelow-append n (names_read item) (without_name (dest_of item) (free_uses rest)) (names_read-below item b.0) (without_name-below (dest_of item) (free_uses rest) (free_uses-below rest b.1))
  free_uses-below (Undecided tag origin on one other) b =
      AllBelow-append n (name_in on) (free_uses one ++ free_uses other) (name_in-below on b.0)
      (AllBelow-append n (free_uses one) (free_uses other) (free_uses-below one b.1) (free_uses-below other b.2))
  free_uses-below (Exit region tag homes) b = homes-names-below homes b
  free_uses-below Stop_exit b = tt
  free_uses-below (Trap_exit kind line) b = tt

  first_uses-below : (xs : List ℕ) → AllBelow n xs → AllBelow n (first_uses xs)
  first_uses-below [] h = tt
  first_uses-below (x ∷ xs) h = (h.0, without_name-below (Some x) (first_uses xs) (first_uses-below xs h.1))

  parameters-below : (tree : Tree) → TreeBelow n tree → AllBelow n (parameters_of tree)
  parameters-below tree b = first_uses-below (free_uses tree) (free_uses-below tree b)

-- ---- forms of the tree

-- whatever forms of names below n say is carried on
abbrev pub Carries : ℕ → (ℕ → ℤ) → (ℕ → Form) → (ℕ → ℤ) → (ℕ → Form) → Type 0
Carries n σ old τ new = (x : ℕ) → x < n → (value : ℤ) → Means σ (old x) value → Means τ (new x) value

carried_item : (n : ℕ) (σ τ : ℕ → ℤ) (old new : ℕ → Form) (item : Item) (value : ℤ) → Carries n σ old τ new → ItemBelow n item → DefinedMeans σ old (dest_of item) value
    → DefinedMeans τ new (dest_of item) value
carried_item n σ τ old new (Bin op dest left right) value c b h = c dest b.0 value h
carried_item n σ τ old new (Copy dest from) value c b h = c dest b.0 value h
carried_item n σ τ old new (Load dest array index) value c b h = c dest b.0 value h
carried_item n σ τ old new (Store array index word) value c b h = tt
carried_item n σ τ old new (Print word) value c b h = tt
carried_item n σ τ old new (Read dest) value c b h = c dest b value h
carried_item n σ τ old new (More dest) value c b h = c dest b value h

carried_defined : (n : ℕ) (σ τ : ℕ → ℤ) (old new : ℕ → Form) (lengths : List ℕ) (tree : Tree) (s : State) → Carries n σ old τ new → TreeBelow n tree
    → DefinedHold σ old lengths tree s → DefinedHold τ new lengths tree s
carried_defined n σ τ old new lengths (Pending tag origin item rest) s c b h =
    (carried_item n σ τ old new item (value_of lengths s item) c b.0 h.0, carried_defined n σ τ old new lengths rest (state_after lengths s (item ∷ [])) c b.1 h.1)
carried_defined n σ τ old new lengths (Undecided tag origin on one other) s c b h =
    Side-map (holds (operand_value s.names on)) (DefinedHold σ old lengths one s) (DefinedHold σ old lengths other s) (DefinedHold τ new lengths one s) (DefinedHold τ new lengths other s)
    (λ p. carried_defined n σ τ old new lengths one s c b.1 p) (λ p. carried_defined n σ τ old new lengths other s c b.2 p) h
carried_defined n σ τ old new lengths (Exit region tag homes) s c b h = tt
carried_defined n σ τ old new lengths Stop_exit s c b h = tt
carried_defined n σ τ old new lengths (Trap_exit kind line) s c b h = tt

-- forms that hold still hold after rebasing
pub rebased_holds : (tree : Tree) (names : Supply) (lengths : List ℕ) (s : State) → FormsBelow names → TreeBelow names.next tree → TreeHolds names.forms lengths tree s
    → TreeHolds (rebased tree names).forms lengths tree s
rebased_holds tree names lengths s b lt h =
    let stage = rebased-stage tree names h.0 b (parameters-below names.next tree lt) in (
      stage.values,
      record {
        parameters = λ x used. stage.carries x (used_below names.next tree x lt used) (s.names x) (h.1.parameters x used);
        defined = carried_defined names.next h.0 stage.values names.forms (rebased tree names).forms lengths tree s stage.carries lt h.1.defined;
      },
    )

-- the names are those that were there, and forms stay below
pub rebased-kept : (tree : Tree) (names : Supply) → FormsBelow names → TreeBelow names.next tree → ((rebased tree names).next ≡ names.next) × FormsBelow (rebased tree names)
rebased-kept tree names b lt =
    let stage = rebased-stage tree names (λ v. pos 0) b (parameters-below names.next tree lt) in
    (stage.next_is, stage.below)
