-- Which variables forms have, and what a form means where values of other variables change.
use Rattle.std.proofs.Common.{◌≡◌, ℕ, ◌<◌, ◌≤◌, List, [], ◌∷◌, length, refl, sym, ◌∙◌, ap, arith}
use Rattle.std.specs.Prelude.{ℤ, pos, negsuc, zero, suc, ◌+ℤ◌, ◌*ℤ◌, Bool, true, false, if◌then◌else◌, nat_eq, nat_lt, Some, None, IfSome}
use Rattle.std.specs.Int.{w32, int_wrap}
use Rattle.pc_word.specs.declared.item.OpCode.{OpCode}
use Rattle.pc_linear.specs.declared.term.Term.{Term}
use Rattle.pc_linear.specs.Form.{Form, most_terms, sum_of, says, Means}
use Rattle.pc_linear.specs.Combine.{prepended, add_term, add_times, plus, fitting, combine}
use Rattle.pc_linear.proofs.Forms.{combine_keeps}
use Rattle.pc_window.specs.Opening.{TermsBelow, FormBelow}

-- ---- variables below a number

prepended-below : (m v : ℕ) (factor : ℤ) (ts : List Term) → v < m → TermsBelow m ts → TermsBelow m (prepended v factor ts)
prepended-below m v (pos zero) ts p q = q
prepended-below m v (pos (suc n)) ts p q = (p, q)
prepended-below m v (negsuc n) ts p q = (p, q)

add_term-below : (m v : ℕ) (factor : ℤ) (ts : List Term) → v < m → TermsBelow m ts → TermsBelow m (add_term v factor ts)
add_term-below m v factor [] p q = prepended-below m v (int_wrap w32 factor) [] p q
add_term-below m v factor (t ∷ ts) p q = by_order (nat_lt v t.variable) (nat_eq v t.variable) (add_term-below m v factor ts p q.1)
  where
    by_order : (less equal : Bool) → TermsBelow m (add_term v factor ts)
        → TermsBelow m (if less then prepended v (int_wrap w32 factor) (t ∷ ts) else if equal then prepended v (int_wrap w32 (factor +ℤ t.factor)) ts else t ∷ add_term v factor ts)
    by_order true equal h = prepended-below m v (int_wrap w32 factor) (t ∷ ts) p q
    by_order false true h = prepended-below m v (int_wrap w32 (factor +ℤ t.factor)) ts p q.1
    by_order false false h = (q.0, h)

add_times-below : (m : ℕ) (n : ℤ) (ts us : List Term) → TermsBelow m ts → TermsBelow m us → TermsBelow m (add_times n ts us)
add_times-below m n [] us p q = q
add_times-below m n (t ∷ ts) us p q = add_times-below m n ts (add_term t.variable (n *ℤ t.factor) us) p.1 (add_term-below m t.variable (n *ℤ t.factor) us p.0 q)

pub plus-below : (m : ℕ) (f : Form) (n : ℤ) (g : Form) → FormBelow m f → FormBelow m g → FormBelow m (plus f n g)
plus-below m f n g p q = add_times-below m n g.terms f.terms q p

-- what has at most four terms is what it was
fitting-below : (m : ℕ) (f : Form) → FormBelow m f → IfSome (fitting f) (FormBelow m)
fitting-below m f h = by_length (nat_lt most_terms (length f.terms))
  where
    by_length : (b : Bool) → IfSome (if b then None else Some f) (FormBelow m)
    by_length true = tt
    by_length false = h

pub combine-below : (m : ℕ) (op : OpCode) (f g : Form) → FormBelow m f → FormBelow m g → IfSome (combine op f g) (FormBelow m)
combine-below m op f g p q = combine_keeps (FormBelow m) (FormBelow m) tt (plus-below m) (fitting-below m) op f g p q tt

pub TermsBelow-later : (m n : ℕ) (ts : List Term) → m ≤ n → TermsBelow m ts → TermsBelow n ts
TermsBelow-later m n [] le h = tt
TermsBelow-later m n (t ∷ ts) le h = let lt : t.variable < m = h.0 in (omega arith, TermsBelow-later m n ts le h.1)

-- ---- values of other variables

-- the values of variables that a form has not do not matter
pub sum_of-agree : (m : ℕ) (σ τ : ℕ → ℤ) (ts : List Term) → ((v : ℕ) → v < m → τ v ≡ σ v) → TermsBelow m ts → sum_of τ ts ≡ sum_of σ ts
sum_of-agree m σ τ [] same h = refl
sum_of-agree m σ τ (t ∷ ts) same h = λ i. (t.factor *ℤ same t.variable h.0 i) +ℤ sum_of-agree m σ τ ts same h.1 i

pub Means-agree : (m : ℕ) (σ τ : ℕ → ℤ) (f : Form) (value : ℤ) → ((v : ℕ) → v < m → τ v ≡ σ v) → FormBelow m f → Means σ f value → Means τ f value
Means-agree m σ τ f value same below h = by_terms f.terms below h
  where
    by_terms : (ts : List Term) → TermsBelow m ts → says σ ts f.constant value → says τ ts f.constant value
    by_terms [] b h = h
    by_terms (t ∷ ts) b h = h ∙ ap (λ (z : ℤ). int_wrap w32 (z +ℤ f.constant)) (sym (sum_of-agree m σ τ (t ∷ ts) same b))
