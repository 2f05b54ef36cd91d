-- What `==` says of nodes and homes.
use Rattle.std.proofs.Common.{◌≡◌, Bool, true, false, ◌&&◌, List, [], ◌∷◌, refl, ap, rules}
use Rattle.std.proofs.lemmas.Bool.Decides.{Decides-int_eq}
use Rattle.std.proofs.lemmas.Map.Views.{exact_unsigned_eq}
use Rattle.std.specs.Cmp.Lexicographic.{pointwise}
use Rattle.pc_word.specs.declared.item.OpCode.{OpCode}
use Rattle.pc_word.specs.declared.item.Operand.{Operand}
use Rattle.pc_word.specs.declared.item.Operand.TheVariants.{Name, Lit}
use Rattle.pc_word.specs.declared.item.Item.{Item}
use Rattle.pc_word.specs.declared.item.Item.TheVariants.{Bin, Copy, Load, Store, Print, Read, More}
use Rattle.pc_word.specs.declared.item.TrapKind.{TrapKind}
use Rattle.pc_word.specs.contracts.item.OpCodePartialEq.TheImpl as op_eq
use Rattle.pc_word.specs.contracts.item.OperandPartialEq.TheImpl as operand_eq
use Rattle.pc_word.specs.contracts.item.ItemPartialEq.TheImpl as item_eq
use Rattle.pc_word.specs.contracts.item.TrapKindPartialEq.TheImpl as trap_eq
use Rattle.pc_window.specs.declared.home.Home.{Home}
use Rattle.pc_window.specs.contracts.home.HomePartialEq.TheImpl as home_eq
use Rattle.pc_shared.specs.declared.node.SharedNode.{SharedNode}
use Rattle.pc_shared.specs.declared.node.SharedNode.TheVariants as shared
use Rattle.pc_shared.specs.contracts.node.SharedNodePartialEq.TheImpl as node_eq

both : (a b : Bool) → (a && b) ≡ true → (a ≡ true) × (b ≡ true)
both true b e = (refl, e)
both false b e = absurd (cc)

op_tells : (x y : OpCode) → op_eq.eq-value.it x y ≡ true → x ≡ y
op_tells x y e = search rules

trap_tells : (x y : TrapKind) → trap_eq.eq-value.it x y ≡ true → x ≡ y
trap_tells x y e = search rules

operand_tells : (x y : Operand) → operand_eq.eq-value.it x y ≡ true → x ≡ y
operand_tells (Name a) (Name b) e = ap Name (exact_unsigned_eq a b e)
operand_tells (Lit a) (Lit b) e = ap Lit ((Decides-int_eq a b).0 e)
operand_tells _ _ e = absurd (cc)

home_tells : (x y : Home) → home_eq.eq-value.it x y ≡ true → x ≡ y
home_tells x y e =
    let h = both _ _ e in
    let p = exact_unsigned_eq x.variable y.variable h.0 in
    let q = operand_tells x.value y.value h.1 in
    λ i. record { variable = p i; value = q i }

-- lists of homes that are equal home by home
pub homes_tell : (xs ys : List Home) → pointwise home_eq.eq-value.it xs ys ≡ true → xs ≡ ys
homes_tell [] [] e = refl
homes_tell (x ∷ xs) (y ∷ ys) e =
    let h = both _ _ e in
    λ i. home_tells x y h.0 i ∷ homes_tell xs ys h.1 i
homes_tell _ _ e = absurd (cc)

pub item_tells : (x y : Item) → item_eq.eq-value.it x y ≡ true → x ≡ y
item_tells (Bin op d l r) (Bin op' d' l' r') e =
    let h = both _ _ e in
    let k = both _ _ h.1 in
    let m = both _ _ k.1 in
    let p = op_tells op op' h.0 in
    let q = exact_unsigned_eq d d' k.0 in
    let s = operand_tells l l' m.0 in
    let t = operand_tells r r' m.1 in
    λ z. Bin (p z) (q z) (s z) (t z)
item_tells (Copy d f) (Copy d' f') e =
    let h = both _ _ e in
    let p = exact_unsigned_eq d d' h.0 in
    let q = operand_tells f f' h.1 in
    λ z. Copy (p z) (q z)
item_tells (Load d a i) (Load d' a' i') e =
    let h = both _ _ e in
    let k = both _ _ h.1 in
    let p = exact_unsigned_eq d d' h.0 in
    let q = exact_unsigned_eq a a' k.0 in
    let s = operand_tells i i' k.1 in
    λ z. Load (p z) (q z) (s z)
item_tells (Store a i v) (Store a' i' v') e =
    let h = both _ _ e in
    let k = both _ _ h.1 in
    let p = exact_unsigned_eq a a' h.0 in
    let q = operand_tells i i' k.0 in
    let s = operand_tells v v' k.1 in
    λ z. Store (p z) (q z) (s z)
item_tells (Print v) (Print v') e = ap Print (operand_tells v v' e)
item_tells (Read d) (Read d') e = ap Read (exact_unsigned_eq d d' e)
item_tells (More d) (More d') e = ap More (exact_unsigned_eq d d' e)
item_tells _ _ e = absurd (cc)

pub node_tells : (x y : SharedNode) → node_eq.eq-value.it x y ≡ true → x ≡ y
node_tells (shared.Step t o i r) (shared.Step t' o' i' r') e =
    let h = both _ _ e in
    let k = both _ _ h.1 in
    let m = both _ _ k.1 in
    let p = exact_unsigned_eq t t' h.0 in
    let q = exact_unsigned_eq o o' k.0 in
    let s = item_tells i i' m.0 in
    let u = exact_unsigned_eq r r' m.1 in
    λ z. shared.Step (p z) (q z) (s z) (u z)
node_tells (shared.Test t o n a b) (shared.Test t' o' n' a' b') e =
    let h = both _ _ e in
    let k = both _ _ h.1 in
    let m = both _ _ k.1 in
    let v = both _ _ m.1 in
    let p = exact_unsigned_eq t t' h.0 in
    let q = exact_unsigned_eq o o' k.0 in
    let s = operand_tells n n' m.0 in
    let u = exact_unsigned_eq a a' v.0 in
    let w = exact_unsigned_eq b b' v.1 in
    λ z. shared.Test (p z) (q z) (s z) (u z) (w z)
node_tells (shared.Node a) (shared.Node a') e = ap shared.Node (exact_unsigned_eq a a' e)
node_tells (shared.Exit r t h) (shared.Exit r' t' h') e =
    let v = both _ _ e in
    let k = both _ _ v.1 in
    let p = exact_unsigned_eq r r' v.0 in
    let q = exact_unsigned_eq t t' k.0 in
    let s = exact_unsigned_eq h h' k.1 in
    λ z. shared.Exit (p z) (q z) (s z)
node_tells shared.Stop shared.Stop e = refl
node_tells (shared.Trap k l) (shared.Trap k' l') e =
    let h = both _ _ e in
    let p = trap_tells k k' h.0 in
    let q = exact_unsigned_eq l l' h.1 in
    λ z. shared.Trap (p z) (q z)
node_tells _ _ e = absurd (cc)
