-- What is taken out of a tree.
use Rattle.std.proofs.Common.{◌≡◌, ℕ, List, [], ◌∷◌, Option, Some, None, refl, sym, ◌∙◌, ap}
use Rattle.pc_word.specs.declared.item.Operand.{Operand}
use Rattle.pc_word.specs.declared.item.Item.{Item}
use Rattle.pc_word.specs.declared.item.Item.TheVariants.{Bin, Copy, Load, Store, Print, Read, More}
use Rattle.pc_window.specs.declared.home.Home.{Home}
use Rattle.pc_window.specs.Tree.{Tree, Pending, Undecided, Exit, Stop_exit, Trap_exit}
use Rattle.pc_window.specs.Rename.{map_homes, mapped}
use Rattle.pc_word.specs.Naming.{map_operands, renamed}

-- where every operand stays, a tree does
item_stays : (f : Operand → Operand) → ((o : Operand) → f o ≡ o) → (x : Item) → map_operands f x ≡ x
item_stays f h (Bin op d l r) = λ i. Bin op d (h l i) (h r i)
item_stays f h (Copy d from) = ap (Copy d) (h from)
item_stays f h (Load d a index) = ap (Load d a) (h index)
item_stays f h (Store a index v) = λ i. Store a (h index i) (h v i)
item_stays f h (Print v) = ap Print (h v)
item_stays f h (Read d) = refl
item_stays f h (More d) = refl

homes_stay : (f : Operand → Operand) → ((o : Operand) → f o ≡ o) → (homes : List Home) → map_homes f homes ≡ homes
homes_stay f h [] = refl
homes_stay f h (home ∷ homes) = λ i. record { variable = home.variable; value = h home.value i } ∷ homes_stay f h homes i

stays : (f : Operand → Operand) → ((o : Operand) → f o ≡ o) → (tree : Tree) → mapped f tree ≡ tree
stays f h (Pending t o x rest) = λ i. Pending t o (item_stays f h x i) (stays f h rest i)
stays f h (Undecided t o on p q) = λ i. Undecided t o (h on i) (stays f h p i) (stays f h q i)
stays f h (Exit region tag homes) = ap (Exit region tag) (homes_stay f h homes)
stays f h Stop_exit = refl
stays f h (Trap_exit kind line) = refl

pub unnamed_rest : (old : Option ℕ) (new : Option ℕ) (tree : Tree) → old ≡ None → tree ≡ mapped (renamed old new) tree
unnamed_rest old new tree e = sym (stays (renamed old new) (λ o. ap (λ (d : Option ℕ). renamed d new o) e) tree)

pub kept_rest : (old : Option ℕ) (new : Option ℕ) (tree : Tree) → new ≡ None → tree ≡ mapped (renamed old new) tree
kept_rest old new tree e = sym (stays (renamed old new) (λ o. ap (λ (d : Option ℕ). renamed old d o) e ∙ as_it_is old o) tree)
  where
    as_it_is : (d : Option ℕ) (o : Operand) → renamed d None o ≡ o
    as_it_is (Some d) o = refl
    as_it_is None o = refl

pub ruleset taking = (unnamed_rest, kept_rest)
