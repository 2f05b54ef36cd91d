-- Codes with other registers, or as they were, and tightened then.
use Rattle.std.proofs.Common.{◌≡◌, ℕ, ◌≤◌, List, length, refl, sym, subst, inl, inr, arith}
use Rattle.std.specs.List.{flat_map}
use Rattle.pc_word.specs.declared.row_tree.RowTree.{RowTree}
use Rattle.pc_machine.specs.declared.tree.Leaf.{Leaf}
use Rattle.pc_machine.specs.MachineCode.{CodeRow, RowCode, rows_of}
use Rattle.pc_machine.specs.WellFormed.{WellFormed}
use Rattle.pc_object.specs.ObjectText.{row_text}
use Rattle.pc_tighten.specs.Tightened.{EachIsReachable, IsTightened}
use Rattle.pc_renaming.specs.declared.witness.RowWitness.{RowWitness}
use Rattle.pc_renaming.specs.Witness.{renaming_of}
use Rattle.pc_renaming.specs.IsRenamed.{AreRenamed, IsRenamed}
use Rattle.pc_settled.specs.Settled.{Settled}
use Rattle.pc_recolor.specs.Recolored.{IsRecolored, IsRecoloredAndTightened}
use Rattle.pc_recolor.specs.models.Recoloring.{AreAnew, with_rows}
use Rattle.pc_renaming.proofs.Steps.{renaming_keeps_the_run}
use Rattle.pc_renaming.proofs.Form.{renaming_keeps_form}

-- rows that were made, and of which this is found; `after` are read of what was made
pub rows_are_anew : (registers most : ℕ) (told : List RowWitness) (before after made : List (RowTree Leaf)) → after ≡ made
    → AreRenamed registers (renaming_of told) (rows_of before) (rows_of after) → EachIsReachable (rows_of after)
    → length (flat_map row_text (rows_of after)) ≤ most → Settled (rows_of after) → AreAnew registers most (rows_of before) (rows_of made)
rows_are_anew registers most told before after made same renamed reachable short settled =
    subst (λ (rows : List (RowTree Leaf)). AreAnew registers most (rows_of before) (rows_of rows)) same
    (record { renaming = renaming_of told; renamed = renamed; reachable = reachable; short = short; settled = settled })

-- a code as it was
left_as_it_was : (most : ℕ) (code : RowCode) → IsRecolored most code code
left_as_it_was most code = record {
  does = inl refl;
  limits = refl;
  registers = refl;
  arrays = refl;
  initial = refl;
  runs = λ input n. refl;
  form = λ well. well;
  reachable = λ each. each;
  short = omega arith;
}

-- a code with rows that were made
pub code_is_recolored : (most : ℕ) (before after : RowCode) (rows : List CodeRow) → after ≡ with_rows before rows → AreAnew before.registers most before.rows rows
    → IsRecolored most before after
code_is_recolored most before after rows is anew =
    subst (λ (code : RowCode). IsRecolored most before code) (sym is) (record {
      does = inr (anew.renaming, renamed, anew.settled);
      limits = refl;
      registers = refl;
      arrays = refl;
      initial = refl;
      runs = renaming_keeps_the_run anew.renaming before made renamed;
      form = renaming_keeps_form anew.renaming before made renamed;
      reachable = λ each. anew.reachable;
      short = let short = anew.short in omega (arith, short);
    })
  where
    made : RowCode
    made = with_rows before rows

    renamed : IsRenamed anew.renaming before made
    renamed = record { limits = refl; registers = refl; arrays = refl; initial = refl; rows = anew.renamed }

pub tightened_as_it_was : (most : ℕ) (before after : RowCode) → IsTightened before after → IsRecoloredAndTightened most before after
tightened_as_it_was most before after tightened = record { between = before; recolored = left_as_it_was most before; tightened = tightened }

pub tightened_anew : (most : ℕ) (before between after : RowCode) → IsRecolored most before between → IsTightened between after → IsRecoloredAndTightened most before after
tightened_anew most before between after recolored tightened = record { between = between; recolored = recolored; tightened = tightened }

-- what is to be tightened is well formed
pub recolored_is_well_formed : (most : ℕ) (before between : RowCode) → IsRecolored most before between → WellFormed before → WellFormed between
recolored_is_well_formed most before between recolored well = recolored.form well

pub ruleset made_laws = (rows_are_anew)

pub ruleset code_laws = (code_is_recolored)

pub ruleset tightened_laws = (tightened_as_it_was, tightened_anew, recolored_is_well_formed)
