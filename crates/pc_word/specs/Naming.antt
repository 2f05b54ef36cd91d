-- Other names and operands in place of those that an item has.
use Rattle.std.specs.Prelude.{◌≡◌, ℕ, if◌then◌else◌, nat_eq, Option, Some, None}
use Rattle.pc_word.specs.declared.item.Item.{Item}
use Rattle.pc_word.specs.declared.item.Item.TheVariants.{Bin, Copy, Load, Store, Print, Read, More}
use Rattle.pc_word.specs.declared.item.Operand.{Operand}
use Rattle.pc_word.specs.declared.item.Operand.TheVariants.{Name, Lit}

-- ---- operands

-- an operand with another name
abbrev pub map_name : (ℕ → ℕ) → Operand → Operand
map_name f (Name x) = Name (f x)
map_name f (Lit value) = Lit value

-- one name in place of another
abbrev pub renamed : Option ℕ → Option ℕ → Operand → Operand
renamed (Some old) (Some new) (Name x) = Name (if nat_eq old x then new else x)
renamed (Some old) (Some new) (Lit value) = Lit value
renamed (Some old) None o = o
renamed None new o = o

-- ---- items

-- an item that writes another name
abbrev pub with_dest : ℕ → Item → Item
with_dest name (Bin op dest left right) = Bin op name left right
with_dest name (Copy dest from) = Copy name from
with_dest name (Load dest array index) = Load name array index
with_dest name (Store array index value) = Store array index value
with_dest name (Print value) = Print value
with_dest name (Read dest) = Read name
with_dest name (More dest) = More name

-- an item that reads other operands
abbrev pub map_operands : (Operand → Operand) → Item → Item
map_operands f (Bin op dest left right) = Bin op dest (f left) (f right)
map_operands f (Copy dest from) = Copy dest (f from)
map_operands f (Load dest array index) = Load dest array (f index)
map_operands f (Store array index value) = Store array (f index) (f value)
map_operands f (Print value) = Print (f value)
map_operands f (Read dest) = Read dest
map_operands f (More dest) = More dest

-- an item that reads and writes other names
abbrev pub map_names : (ℕ → ℕ) → Item → Item
map_names f (Bin op dest left right) = Bin op (f dest) (map_name f left) (map_name f right)
map_names f (Copy dest from) = Copy (f dest) (map_name f from)
map_names f (Load dest array index) = Load (f dest) array (map_name f index)
map_names f (Store array index value) = Store array (map_name f index) (map_name f value)
map_names f (Print value) = Print (map_name f value)
map_names f (Read dest) = Read (f dest)
map_names f (More dest) = More (f dest)

-- two items are equal but for the names that they write
abbrev pub AreAlike : Item → Item → Type 0
AreAlike x y = (name : ℕ) → with_dest name x ≡ with_dest name y

-- ---- by what is related to each name or operand

-- the one has what F relates to the name of the other
abbrev pub MapsName : (ℕ → ℕ → Type 0) → Operand → Operand → Type 0
MapsName F (Name x) o = (y : ℕ) × F x y × (o ≡ Name y)
MapsName F (Lit value) o = o ≡ Lit value

-- the one writes what F relates to the name that the other writes
abbrev pub MapsDest : (ℕ → ℕ → Type 0) → Item → Item → Type 0
MapsDest F (Bin op dest left right) x = (d : ℕ) × F dest d × (x ≡ Bin op d left right)
MapsDest F (Copy dest from) x = (d : ℕ) × F dest d × (x ≡ Copy d from)
MapsDest F (Load dest array index) x = (d : ℕ) × F dest d × (x ≡ Load d array index)
MapsDest F (Store array index value) x = x ≡ Store array index value
MapsDest F (Print value) x = x ≡ Print value
MapsDest F (Read dest) x = (d : ℕ) × F dest d × (x ≡ Read d)
MapsDest F (More dest) x = (d : ℕ) × F dest d × (x ≡ More d)

-- the one reads what F relates to each operand of the other
abbrev pub MapsOperands : (Operand → Operand → Type 0) → Item → Item → Type 0
MapsOperands F (Bin op dest left right) x = (l r : Operand) × F left l × F right r × (x ≡ Bin op dest l r)
MapsOperands F (Copy dest from) x = (o : Operand) × F from o × (x ≡ Copy dest o)
MapsOperands F (Load dest array index) x = (o : Operand) × F index o × (x ≡ Load dest array o)
MapsOperands F (Store array index value) x = (i v : Operand) × F index i × F value v × (x ≡ Store array i v)
MapsOperands F (Print value) x = (o : Operand) × F value o × (x ≡ Print o)
MapsOperands F (Read dest) x = x ≡ Read dest
MapsOperands F (More dest) x = x ≡ More dest
