-- Whether items of a row match items of a front, and whether paths store, print and read the same. Each is looked for in one order.
use Rattle.std.specs.Prelude.{Bool, true, false, not, ◌&&◌, if◌then◌else◌, nat_eq, List, [], ◌∷◌, Option, Some, None}
use Rattle.std.specs.Ordering.{int_eq}
use Rattle.std.specs.List.{list_any, list_all}
use Rattle.pc_word.specs.declared.item.Item.{Item}
use Rattle.pc_word.specs.declared.item.Item.TheVariants.{Bin, Copy, Load, Store, Print, Read, More}
use Rattle.pc_word.specs.declared.item.OpCode.{OpCode}
use Rattle.pc_word.specs.declared.item.Operand.{Operand}
use Rattle.pc_word.specs.declared.item.Operand.TheVariants.{Name, Lit}
use Rattle.pc_word.specs.Items.{op_number, operands_of}
use Rattle.pc_certified.specs.Facts.{Fact}
use Rattle.pc_certified.specs.Paths.{has_side_effect, is_ordered}

-- ---- operands and items

-- the same operand
abbrev pub same_operand : Operand → Operand → Bool
same_operand (Name name) (Name other) = nat_eq name other
same_operand (Lit value) (Lit other) = int_eq value other
same_operand _ _ = false

-- the same operator
abbrev pub same_operator : OpCode → OpCode → Bool
same_operator op other = nat_eq (op_number op) (op_number other)

-- whether a fact says that a source has an operand's value
abbrev pub says_that : Operand → Operand → Fact → Bool
says_that source operand fact = same_operand fact.source source && same_operand fact.operand operand

-- whether an operand of a row matches one of a front: the same literal, or a fact says that they have the same value
abbrev pub operands_match : List Fact → Operand → Operand → Bool
operands_match facts (Lit value) (Lit other) = int_eq value other
operands_match facts source operand = list_any (says_that source operand) facts

-- whether operands of a row match those of a front one by one
abbrev pub each_matches : List Fact → List Operand → List Operand → Bool
each_matches facts [] [] = true
each_matches facts (source ∷ sources) (operand ∷ operands) = operands_match facts source operand && each_matches facts sources operands
each_matches facts _ _ = false

-- whether items are of one kind, with the same operator and array
abbrev pub same_kind : Item → Item → Bool
same_kind (Bin op dest left right) (Bin op' dest' left' right') = same_operator op op'
same_kind (Copy dest from) (Copy dest' from') = true
same_kind (Load dest array index) (Load dest' array' index') = nat_eq array array'
same_kind (Store array index value) (Store array' index' value') = nat_eq array array'
same_kind (Print value) (Print value') = true
same_kind (Read dest) (Read dest') = true
same_kind (More dest) (More dest') = true
same_kind _ _ = false

-- whether an item of a row matches one of a front: the same kind, operator and array, and operands that match
abbrev pub items_match : List Fact → Item → Item → Bool
items_match facts item other = same_kind item other && each_matches facts (operands_of item) (operands_of other)

-- ---- stores, prints and reads

-- an item above what is left of a path
abbrev pub with_above : Item → Option (List Item) → Option (List Item)
with_above item None = None
with_above item (Some left) = Some (item ∷ left)

-- what is left of a front's path without the first item that matches this one; a print or read passes no other print or read
abbrev pub without_match : List Fact → Item → List Item → Option (List Item)
without_match facts item [] = None
without_match facts item (other ∷ others) =
    if items_match facts item other then Some others
    else if is_ordered item && is_ordered other then None
    else with_above other (without_match facts item others)

-- the stores, prints and reads of a row's path are taken from a front's path one after the other, and it is left without any
abbrev pub effects_taken : List Fact → List Item → Option (List Item) → Bool
effects_taken facts items None = false
effects_taken facts [] (Some others) = list_all (λ other. not (has_side_effect other)) others
effects_taken facts (item ∷ items) (Some others) =
    effects_taken facts items (if has_side_effect item then without_match facts item others else Some others)

-- whether the stores, prints and reads of a row's path match those of a front's path
abbrev pub effects_match : List Fact → List Item → List Item → Bool
effects_match facts items others = effects_taken facts items (Some others)
