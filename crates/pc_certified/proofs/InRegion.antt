-- From a region on: where a leaf agrees with a window, it ends as the region's run does, or leads to a claim's window.
use Rattle.std.proofs.Common.{append-nil, ◌≡◌, ℕ, ◌+◌, ◌≤◌, List, [], Some, refl, sym, ◌∙◌, ap, arith}
use Rattle.std.specs.Prelude.{ℤ, Bool, true, false, if◌then◌else◌, nat_eq, Contains}
use Rattle.pc_word.specs.declared.item.Item.TheVariants.{Copy}
use Rattle.pc_word.specs.declared.item.Operand.{Operand}
use Rattle.pc_word.specs.declared.item.Operand.TheVariants.{Name, Lit}
use Rattle.pc_word.specs.declared.item.Limits.{Limits}
use Rattle.pc_word.specs.declared.item.TrapKind.{TrapKind}
use Rattle.pc_word.specs.declared.item.End.{End}
use Rattle.pc_word.specs.declared.item.End.TheVariants.{Ended, Trapped}
use Rattle.pc_word.specs.Run.{Seen, Run, NeverFaults, after_printing}
use Rattle.pc_word.specs.State.{State}
use Rattle.pc_word.specs.Items.{operand_value}
use Rattle.pc_table.specs.Table.{Table}
use Rattle.pc_table.specs.TableKeeps.{TableKeeps}
use Rattle.pc_machine.specs.declared.tree.Leaf.{Leaf}
use Rattle.pc_machine.specs.declared.tree.Leaf.TheVariants.{Goto, Stop, Trap}
use Rattle.pc_window.specs.declared.home.Home.{Home}
use Rattle.pc_window.specs.Tree.{Tree, whole, home_state}
use Rattle.pc_window.specs.Walk.{Walked, Finishes, walk, after_item}
use Rattle.pc_window.specs.WindowRun.{Window, follow, FormsHold}
use Rattle.pc_window.specs.Steps.{IsProper, Positive}
use Rattle.pc_window.proofs.Grafts.{nat_eq-same}
use Rattle.pc_window.proofs.Uses.{nat_eq-tells}
use Rattle.pc_certified.specs.Facts.{Fact, FactHolds, StatesMatch, EachFact}
use Rattle.pc_certified.specs.Claims.{Claim}
use Rattle.pc_certified.specs.LeafAgrees.{FactAfterCopy, other_operand, copied_name, FactInRegion, LeafAgreesInRegion, region_ends, region_traps}
use Rattle.pc_certified.specs.LeafAgrees.{region_arrives, region_changes, region_copies, region_enters}
use Rattle.pc_certified.proofs.OnePath.{operands_same}
use Rattle.pc_certified.proofs.WindowChanges.{change_kept}
use Rattle.pc_certified.proofs.Opened.{opened_at}
use Rattle.pc_certified.proofs.Leaving.{copy_kept}
use Rattle.pc_certified.proofs.Arrivals.{arrived}

-- ---- facts on the way

-- behind a Copy that the row need not do
pub copy_alike : (lengths : List ℕ) (held after : List Fact) (name : ℕ) (from : Operand) (machine s : State) → StatesMatch held machine s
    → EachFact after (FactAfterCopy held name from) → StatesMatch after machine (after_item lengths (Copy name from) s)
copy_alike lengths held after name from machine s alike each = record {
  held = λ fact among. by_case (each fact among);
  cells = alike.cells;
  input = alike.input;
}
  where
    kept : (source operand : Operand) → (operand ≡ Name name → ⊥) → operand_value machine.names source ≡ operand_value s.names operand
        → operand_value machine.names source ≡ operand_value (after_item lengths (Copy name from) s).names operand
    kept source (Name x) other e = by_test (nat_eq name x) refl
      where
        by_test : (b : Bool) → nat_eq name x ≡ b → operand_value machine.names source ≡ (if b then operand_value s.names from else s.names x)
        by_test true d = absurd (other (ap (λ (z : ℕ). Name z) (sym (nat_eq-tells name x d))))
        by_test false d = e
    kept source (Lit value) other e = e

    by_case : {fact : Fact} → FactAfterCopy held name from fact → FactHolds machine.names (after_item lengths (Copy name from) s).names fact
    by_case (other_operand {source} {operand} claims other) = kept source operand other (operands_same lengths held machine s alike source operand claims)
    by_case (copied_name {source} claims) =
        operands_same lengths held machine s alike source from claims
        ∙ sym (ap (λ (b : Bool). if b then operand_value s.names from else s.names name) (nat_eq-same name))

-- in a region's window
pub region_alike : (lengths : List ℕ) (held at : List Fact) (homes : List Home) (machine s : State) → StatesMatch held machine s
    → EachFact at (FactInRegion held homes) → StatesMatch at machine (home_state s homes)
region_alike lengths held at homes machine s alike each = record {
  held = λ fact among. let h = each fact among in
      operands_same lengths held machine s alike fact.source _ h.2 ∙ sym (ap (λ (o : Operand). operand_value (home_state s homes).names o) h.1);
  cells = alike.cells;
  input = alike.input;
}

-- a walk that ends at once
pub ends_there : (table : Table) (out : List ℤ) (end : End) (v : Walked) → v ≡ Finishes [] end → (n : ℕ)
    → after_printing out (follow table v n) ≡ record { printed = out; end = Some end }
ends_there table out end v e n =
    ap (λ (w : Walked). after_printing out (follow table w n)) e ∙ ap (λ (l : List ℤ). let x : Seen = record { printed = l; end = Some end } in x) (append-nil out)

-- ---- from a region on

module _ (table : Table) (keeps : TableKeeps table) (limits : Limits) (room : Positive limits) (claims : List Claim)
    (X : Run) (never : NeverFaults X) (out : List ℤ) (machine : State) (Done : Leaf → Type 0)
    (done_end : (units : ℕ) → ((n : ℕ) → X (units + n) ≡ record { printed = out; end = Some Ended }) → Done Stop)
    (done_trap : (kind : TrapKind) (line units : ℕ) → ((n : ℕ) → X (units + n) ≡ record { printed = out; end = Some (Trapped kind line) }) → Done (Trap kind line))
    (done_at : (target : Claim) (t : State) (units : ℕ) → Contains claims target → StatesMatch target.facts machine t → FormsHold table target.window t → 1 ≤ units
    → ((n : ℕ) → X (units + n) ≡ after_printing out (follow table (walk table.arrays (whole target.window.front) t) n)) → Done (Goto target.row)) where
  pub region_leads : {held : List Fact} {leaf : Leaf} {w : Window} → LeafAgreesInRegion table limits claims held leaf w → (s : State) → IsProper w → FormsHold table w s
      → StatesMatch held machine s → (units : ℕ) → 1 ≤ units → ((n : ℕ) → X (units + n) ≡ after_printing out (follow table (walk table.arrays (whole w.front) s) n)) → Done leaf
  region_leads (region_ends {w} is) s proper forms alike units one same =
      done_end units (λ n. same n ∙ ends_there table out Ended (walk table.arrays (whole w.front) s) (ap (λ (t : Tree). walk table.arrays t s) is) n)
  region_leads (region_traps {w} {kind} {line} is) s proper forms alike units one same =
      done_trap kind line units (λ n. same n ∙ ends_there table out (Trapped kind line) (walk table.arrays (whole w.front) s) (ap (λ (t : Tree). walk table.arrays t s) is) n)
  region_leads (region_arrives {held} {w} target among arrives) s proper forms alike units one same =
      let a = arrived table w s target machine held forms alike arrives in
      done_at target a.state units among a.alike a.forms one (λ n. same n ∙ ap (λ (v : Walked). after_printing out (follow table v n)) (sym a.same))
  region_leads (region_changes {w} {v} step more) s proper forms alike units one same =
      let k = change_kept table keeps 0 w v s step proper forms
      (λ n fault e. never (units + n) fault (ap (λ (x : Seen). x.end) (same n) ∙ e)) in
      let j = k.on.units in
      region_leads more s k.proper k.forms alike (units + j) (omega (arith, one))
      (λ n. ap X (let e : (units + j) + n ≡ units + (j + n) = omega arith in e) ∙ same (j + n) ∙ ap (λ (x : Seen). after_printing out x) (sym (k.on.same n)))
  region_leads (region_copies {held} {after} {w} tag origin name from rest is each more) s proper forms alike units one same =
      let k = copy_kept table keeps 0 w s tag origin name from rest is proper forms in
      region_leads more (after_item table.arrays (Copy name from) s) k.proper k.forms (copy_alike table.arrays held after name from machine s alike each) units one
      (λ n. same n ∙ ap (λ (v : Walked). after_printing out (follow table v n)) (sym k.same))
  region_leads (region_enters {held} {inside} {w} region tag homes is each more) s proper forms alike units one same =
      let t = home_state s homes in
      let o = opened_at table keeps limits room region t in
      let j = o.units in
      region_leads more t o.proper o.forms (region_alike table.arrays held inside homes machine s alike each) (units + j) (omega (arith, one))
      (λ n. ap X (let e : (units + j) + n ≡ units + (j + n) = omega arith in e) ∙ same (j + n)
      ∙ ap (λ (u : Tree). after_printing out (follow table (walk table.arrays u s) (j + n))) is ∙ ap (λ (x : Seen). after_printing out x) (sym (o.same n)))
