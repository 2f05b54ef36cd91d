-- Windows that are arranged, in memory, and their fronts as rows.
use Rattle.std.proofs.Common.{◌≡◌, ◌≤◌, List, [], ◌∷◌, ◌++◌, Option, Some, None, refl, sym, ◌∙◌, ap, subst, length}
use Rattle.std.specs.Prelude.{if◌then◌else◌, Ok, Err}
use Rattle.std.proofs.lemmas.List.{length-map}
use Rattle.pc_word.specs.declared.item.Item.{Item}
use Rattle.pc_word.specs.declared.item.Operand.{Operand}
use Rattle.pc_word.specs.declared.row_tree.RowTree.{RowTree}
use Rattle.pc_word.specs.Row.{Row, Then, Either, At_leaf, leaves_of}
use Rattle.pc_word.specs.StoredRow.{row_in}
use Rattle.pc_table.specs.Table.{Table}
use Rattle.pc_machine.specs.MachineCode.{CodeRow}
use Rattle.pc_cert.specs.declared.certificate.Step.{Step}
use Rattle.pc_window.specs.declared.window.Window.{Window as StoredWindow}
use Rattle.pc_window.specs.Tree.{Tree, Front, Issued, Split, Unfinished, tree_size}
use Rattle.pc_window.specs.WindowRun.{Window}
use Rattle.pc_window.specs.Steps.{front_row}
use Rattle.pc_window.specs.StoredWindow.{front_in, window_in}
use Rattle.pc_window.proofs.WindowsStored.{whole_in}
use Rattle.pc_certified.specs.Facts.{Fact}
use Rattle.pc_matching.specs.declared.fact.Fact as stored_fact
use Rattle.pc_matching.specs.Facts.{facts_of, helds_of}
use Rattle.pc_matching.specs.Matching.{operands_match}
use Rattle.pc_matching.specs.RowMatch.{first_items, below_items, both_sides, test_match, leaf_match, match_below, row_match}
use Rattle.pc_matching.proofs.FoundRows.{each_leaf_has_facts}
use Rattle.pc_arranging.specs.Arranging.{Arranges}
use Rattle.pc_arranging.specs.CanArrange.{CanArrange}
use Rattle.pc_settling.specs.Stored.{IsBegun}
use Rattle.pc_accepted.specs.declared.flaw.Flaw.TheVariants.{IllegalStep, OtherRow}
use Rattle.pc_accepted.specs.Arrivals.{FirstArrival}
use Rattle.pc_checking.specs.declared.arranged.Arranged as stored_arranged
use Rattle.pc_checking.specs.models.Going.{ArrangesFor, is_illegal, is_other, is_arranged}

-- a copy of a window with which an entry may begin can be arranged
pub can_arrange : (table : Table) (w copy : StoredWindow) → IsBegun table w → window_in copy ≡ window_in w → CanArrange table (window_in copy)
can_arrange table w copy begun same =
    subst (CanArrange table) (sym same) (record {
      proper = begun.left.proper;
      small = record {
        size = subst (λ (t : Tree). tree_size t ≤ 4096) (sym (whole_in w.tree)) begun.left.size;
        names = begun.names;
        variables = begun.variables;
      };
      parts = begun.parts;
    })

-- ---- the leaves of a front do not matter

module _ {M N : Type 0} (f : Tree → M) (g : Tree → N) where
  same_first : (front : Front) → first_items (front_row f front) ≡ first_items (front_row g front)
  same_first (Issued tag origin item rest) = ap (λ (items : List Item). item ∷ items) (same_first rest)
  same_first (Split tag origin on p q) = refl
  same_first (Unfinished rest) = refl

  module _ (facts : List Fact) (items above : List Item) where
    same_leaf : (front : Front) → leaf_match facts items above (below_items (front_row f front)) ≡ leaf_match facts items above (below_items (front_row g front))
    same_leaf (Issued tag origin item rest) = same_leaf rest
    same_leaf (Split tag origin on p q) = refl
    same_leaf (Unfinished rest) = refl

    module _ {L : Type 0} (on : Operand) (p q : Row L)
        (on_yes : (front : Front) → match_below facts items above p (front_row f front) ≡ match_below facts items above p (front_row g front))
        (on_no : (front : Front) → match_below facts items above q (front_row f front) ≡ match_below facts items above q (front_row g front)) where
      same_test : (front : Front) → test_match facts on (match_below facts items above p) (match_below facts items above q) (below_items (front_row f front))
          ≡ test_match facts on (match_below facts items above p) (match_below facts items above q) (below_items (front_row g front))
      same_test (Issued tag origin item rest) = same_test rest
      same_test (Split tag origin other a b) = λ i. if operands_match facts on other then both_sides (on_yes a i) (on_no b i) else None
      same_test (Unfinished rest) = refl

  same_match : {L : Type 0} (facts : List Fact) (items others : List Item) (row : Row L) (front : Front)
      → match_below facts items others row (front_row f front) ≡ match_below facts items others row (front_row g front)
  same_match facts items others (Then item rest) front = same_match facts (items ++ item ∷ []) others rest front
  same_match facts items others (Either on p q) front =
      ap (λ (first : List Item). test_match facts on (match_below facts items (others ++ first) p) (match_below facts items (others ++ first) q) (below_items (front_row f front)))
      (same_first front)
      ∙ same_test facts items (others ++ first_items (front_row g front)) on p q
      (λ fr. same_match facts items (others ++ first_items (front_row g front)) p fr) (λ fr. same_match facts items (others ++ first_items (front_row g front)) q fr) front
  same_match facts items others (At_leaf leaf) front =
      ap (λ (first : List Item). leaf_match facts items (others ++ first) (below_items (front_row f front))) (same_first front)
      ∙ same_leaf facts items (others ++ first_items (front_row g front)) front

-- a row against a front that is stored with nothing at its leaves
pub row_found : (facts : List Fact) (row : CodeRow) (stored : RowTree (Unit {0})) (front : Front) (found : Option (List (List Fact)))
    → row_in (λ leaf. leaf) stored ≡ front_row (λ rest. tt) front → found ≡ row_match facts row (row_in (λ leaf. leaf) stored)
    → row_match facts row (front_row (λ tree. tree) front) ≡ found
row_found facts row stored front found same is =
    same_match (λ tree. tree) (λ rest. tt) facts [] [] row front ∙ ap (λ (r : Row (Unit {0})). row_match facts row r) (sym same) ∙ sym is

-- each leaf of such a row has facts, and each of the front
pub leaves_have : (facts : List Fact) (row : CodeRow) (stored : RowTree (Unit {0})) (helds : List (List stored_fact.Fact))
    → Some (helds_of helds) ≡ row_match facts row (row_in (λ leaf. leaf) stored) → length helds ≡ length (leaves_of row)
leaves_have facts row stored helds found =
    sym (length-map helds facts_of) ∙ (each_leaf_has_facts facts row (row_in (λ leaf. leaf) stored) (helds_of helds) (sym found)).0

pub rests_have : (facts : List Fact) (row : CodeRow) (stored : RowTree (Unit {0})) (front : Front) (helds : List (List stored_fact.Fact))
    → row_in (λ leaf. leaf) stored ≡ front_row (λ rest. tt) front → Some (helds_of helds) ≡ row_match facts row (row_in (λ leaf. leaf) stored)
    → length helds ≡ length (leaves_of (front_row (λ tree. tree) front))
rests_have facts row stored front helds same found =
    sym (length-map helds facts_of)
    ∙ (each_leaf_has_facts facts row (front_row (λ tree. tree) front) (helds_of helds) (row_found facts row stored front (Some (helds_of helds)) same found)).1

-- ---- what comes of arranging

module _ (table : Table) (steps : List Step) (arrived : FirstArrival) (row : CodeRow) (copy : StoredWindow) (same : window_in copy ≡ arrived.window) where
  pub arranged_not : ((v : Window) → Arranges table steps (window_in copy) v → ⊥) → ArrangesFor table steps arrived row (Err IllegalStep)
  arranged_not never = is_illegal (λ v arranges. never v (subst (λ (u : Window). Arranges table steps u v) (sym same) arranges))

  module _ (later : StoredWindow) (stored : RowTree (Unit {0})) (front_is : row_in (λ leaf. leaf) stored ≡ front_row (λ rest. tt) (front_in later.tree))
      (arranges : Arranges table steps (window_in copy) (window_in later)) where
    arranges_it : Arranges table steps arrived.window (window_in later)
    arranges_it = subst (λ (u : Window). Arranges table steps u (window_in later)) same arranges

    pub arranged_other : None ≡ row_match arrived.facts row (row_in (λ leaf. leaf) stored) → ArrangesFor table steps arrived row (Err OtherRow)
    arranged_other none = is_other arranges_it (row_found arrived.facts row stored (front_in later.tree) None front_is none)

    pub arranged_so : (helds : List (List stored_fact.Fact)) → Some (helds_of helds) ≡ row_match arrived.facts row (row_in (λ leaf. leaf) stored)
        → ArrangesFor table steps arrived row (Ok (let it : stored_arranged.Arranged = record { window = later; helds = helds } in it))
    arranged_so helds found = is_arranged arranges_it (row_found arrived.facts row stored (front_in later.tree) (Some (helds_of helds)) front_is found)

pub ruleset arranging = (leaves_have, rests_have, arranged_not, arranged_other, arranged_so)
