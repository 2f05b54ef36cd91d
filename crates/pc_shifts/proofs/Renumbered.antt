-- A window that is numbered anew keeps the terms of its forms in normal form.
use Rattle.std.proofs.Common.{◌≡◌, ℕ, zero, suc, List, [], ◌∷◌, map, sym, subst, arith}
use Rattle.std.specs.Prelude.{pos, Bool, true}
use Rattle.std.specs.List.{AllByRecursion}
use Rattle.pc_linear.specs.declared.term.Term.{Term}
use Rattle.pc_linear.specs.Form.{Form, Rising, HasFactor, terms_in_variables, in_variables}
use Rattle.pc_window.specs.Rebasing.{all_names}
use Rattle.pc_window.specs.StoredWindow.{forms_in}
use Rattle.pc_window.specs.Tree.{whole}
use Rattle.pc_window.specs.WindowRun.{Window}
use Rattle.pc_renumber.specs.Renumbering.{stands_in_any, how_many_below, new_variable, forms_of_names, renumbered, Renumbers}
use Rattle.pc_renumber.proofs.NewVariables.{Among, rises, each_stands}
use Rattle.pc_shifts.specs.Alike.{HasNormalTerms, HasNormalForms}
use Rattle.pc_shifts.proofs.Combined.{constant_normal}

module _ (among : ℕ → Bool) where
  rising_behind : (t : Term) (ts : List Term) → among t.variable ≡ true → Among among ts → Rising (suc t.variable) ts
      → Rising (suc (how_many_below among t.variable)) (terms_in_variables (how_many_below among) ts)
  rising_behind t [] is a r = tt
  rising_behind t (u ∷ ts) is a r = (rises among t.variable u.variable is r.0, rising_behind u ts a.0 a.1 r.1)

  rising_new : (ts : List Term) → Among among ts → Rising 0 ts → Rising 0 (terms_in_variables (how_many_below among) ts)
  rising_new [] a r = tt
  rising_new (t ∷ ts) a r = (omega arith, rising_behind t ts a.0 a.1 r.1)

  same_factors : (ts : List Term) → AllByRecursion HasFactor ts → AllByRecursion HasFactor (terms_in_variables (how_many_below among) ts)
  same_factors [] h = tt
  same_factors (t ∷ ts) h = (record { word = h.0.word; nonzero = h.0.nonzero }, same_factors ts h.1)

  all_new : (fs : List Form) → AllByRecursion HasNormalTerms fs → AllByRecursion (λ (f : Form). Among among f.terms) fs
      → AllByRecursion HasNormalTerms (map (in_variables (how_many_below among)) fs)
  all_new [] h a = tt
  all_new (f ∷ fs) h a = (record { rising = rising_new f.terms a.0 h.0.rising; factors = same_factors f.terms h.0.factors }, all_new fs h.1 a.1)

found_normal : (fs : List Form) → AllByRecursion HasNormalTerms fs → (x : ℕ) → HasNormalTerms (forms_in fs x)
found_normal [] h x = constant_normal (pos 0)
found_normal (f ∷ fs) h zero = h.0
found_normal (f ∷ fs) h (suc x) = found_normal fs h.1 x

all_normal : (forms : ℕ → Form) (xs : List ℕ) → ((x : ℕ) → HasNormalTerms (forms x)) → AllByRecursion HasNormalTerms (map forms xs)
all_normal forms [] h = tt
all_normal forms (x ∷ xs) h = (h x, all_normal forms xs h)

pub renumbering_normal : (w v : Window) → Renumbers w v → HasNormalForms w → HasNormalForms v
unfolding renumbered
renumbering_normal w v is h =
    let forms = forms_of_names w in
    subst HasNormalForms (sym is)
    (record {
      form = found_normal (map (in_variables (new_variable forms)) forms)
          (all_new (stands_in_any forms) forms (all_normal w.forms (all_names (whole w.front)) h.form) (each_stands forms));
    })
