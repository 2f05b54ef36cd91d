-- Names once per path in other words: a name is defined nowhere below where it is defined, and a parameter nowhere.
use Rattle.std.specs.Prelude.{◌≡◌, ℕ, Bool, true, false, ◌||◌, Option, Some, None}
use Rattle.pc_word.specs.Items.{dest_of}
use Rattle.pc_word.specs.Commit.{writes}
use Rattle.pc_window.specs.Tree.{Tree, Pending, Undecided, Exit, Stop_exit, Trap_exit}
use Rattle.pc_window.specs.Names.{uses}
use Rattle.pc_window.specs.Opening.{Grafted, TreeBelow, FormsBelow}

-- whether a name is defined somewhere in a tree
abbrev pub defines : Tree → ℕ → Bool
defines (Pending tag origin item rest) x = writes (dest_of item) x || defines rest x
defines (Undecided tag origin on on_yes on_no) x = defines on_yes x || defines on_no x
defines (Exit region tag homes) x = false
defines Stop_exit x = false
defines (Trap_exit kind line) x = false

-- a name, if there is one, is not defined in a tree
abbrev pub Undefined : Option ℕ → Tree → Type 0
Undefined None tree = Unit {0}
Undefined (Some x) tree = defines tree x ≡ false

-- every name is defined once on a path
abbrev pub OncePerPath : Tree → Type 0
OncePerPath (Pending tag origin item rest) = Undefined (dest_of item) rest × OncePerPath rest
OncePerPath (Undecided tag origin on on_yes on_no) = OncePerPath on_yes × OncePerPath on_no
OncePerPath (Exit region tag homes) = Unit {0}
OncePerPath Stop_exit = Unit {0}
OncePerPath (Trap_exit kind line) = Unit {0}

-- the names that are used and not defined above are defined nowhere
abbrev pub ParametersApart : Tree → Type 0
ParametersApart tree = (x : ℕ) → uses tree x ≡ true → defines tree x ≡ false

-- a tree and its names: every name is below the next, every form variable below the next one, every name is defined once on a path, and a parameter nowhere
pub record Sound (g : Grafted) : Type 0 where
  pub names_below : TreeBelow g.names.next g.tree
  pub forms_below : FormsBelow g.names
  pub once : OncePerPath g.tree
  pub apart : ParametersApart g.tree
