-- How keywords and marks are spelled, and which one a text spells.
use Rattle.std.specs.Prelude.{ℕ, List, [], ◌∷◌, Option, codes, bytes_eq, nat_eq}
use Rattle.std.specs.List.{find, starts_with}
use Rattle.pc_lexer.specs.declared.keyword.Keyword.{Keyword}
use Rattle.pc_lexer.specs.declared.keyword.Keyword.TheVariants as key
use Rattle.pc_lexer.specs.declared.mark.Mark.{Mark}
use Rattle.pc_lexer.specs.declared.mark.Mark.TheVariants as mark

-- the 44 keywords of C17 6.4.1, and `main`, `print` and `read`
abbrev pub keyword_spelling : Keyword → List ℕ
keyword_spelling key.Auto = codes "auto"
keyword_spelling key.Break = codes "break"
keyword_spelling key.Case = codes "case"
keyword_spelling key.Char = codes "char"
keyword_spelling key.Const = codes "const"
keyword_spelling key.Continue = codes "continue"
keyword_spelling key.Default = codes "default"
keyword_spelling key.Do = codes "do"
keyword_spelling key.Double = codes "double"
keyword_spelling key.Else = codes "else"
keyword_spelling key.Enum = codes "enum"
keyword_spelling key.Extern = codes "extern"
keyword_spelling key.Float = codes "float"
keyword_spelling key.For = codes "for"
keyword_spelling key.Goto = codes "goto"
keyword_spelling key.If = codes "if"
keyword_spelling key.Inline = codes "inline"
keyword_spelling key.Int = codes "int"
keyword_spelling key.Long = codes "long"
keyword_spelling key.Register = codes "register"
keyword_spelling key.Restrict = codes "restrict"
keyword_spelling key.Return = codes "return"
keyword_spelling key.Short = codes "short"
keyword_spelling key.Signed = codes "signed"
keyword_spelling key.Sizeof = codes "sizeof"
keyword_spelling key.Static = codes "static"
keyword_spelling key.Struct = codes "struct"
keyword_spelling key.Switch = codes "switch"
keyword_spelling key.Typedef = codes "typedef"
keyword_spelling key.Union = codes "union"
keyword_spelling key.Unsigned = codes "unsigned"
keyword_spelling key.Void = codes "void"
keyword_spelling key.Volatile = codes "volatile"
keyword_spelling key.While = codes "while"
keyword_spelling key.AlignAs = codes "_Alignas"
keyword_spelling key.AlignOf = codes "_Alignof"
keyword_spelling key.Atomic = codes "_Atomic"
keyword_spelling key.Bool = codes "_Bool"
keyword_spelling key.Complex = codes "_Complex"
keyword_spelling key.Generic = codes "_Generic"
keyword_spelling key.Imaginary = codes "_Imaginary"
keyword_spelling key.NoReturn = codes "_Noreturn"
keyword_spelling key.StaticAssert = codes "_Static_assert"
keyword_spelling key.ThreadLocal = codes "_Thread_local"
keyword_spelling key.Main = codes "main"
keyword_spelling key.Print = codes "print"
keyword_spelling key.Read = codes "read"

-- each keyword once
abbrev pub keywords : List Keyword
keywords =
    key.Auto ∷ key.Break ∷ key.Case ∷ key.Char ∷ key.Const ∷ key.Continue ∷ key.Default ∷ key.Do ∷
    key.Double ∷ key.Else ∷ key.Enum ∷ key.Extern ∷ key.Float ∷ key.For ∷ key.Goto ∷ key.If ∷ key.Inline ∷
    key.Int ∷ key.Long ∷ key.Register ∷ key.Restrict ∷ key.Return ∷ key.Short ∷ key.Signed ∷ key.Sizeof ∷
    key.Static ∷ key.Struct ∷ key.Switch ∷ key.Typedef ∷ key.Union ∷ key.Unsigned ∷ key.Void ∷ key.Volatile ∷
    key.While ∷ key.AlignAs ∷ key.AlignOf ∷ key.Atomic ∷ key.Bool ∷ key.Complex ∷ key.Generic ∷
    key.Imaginary ∷ key.NoReturn ∷ key.StaticAssert ∷ key.ThreadLocal ∷ key.Main ∷ key.Print ∷ key.Read ∷ []

-- the keyword that a word spells, if it spells one
unfoldable pub keyword_of : List ℕ → Option Keyword
keyword_of word = find (λ key. bytes_eq (keyword_spelling key) word) keywords

-- the punctuators of C17 6.4.6 that this language has
abbrev pub mark_spelling : Mark → List ℕ
mark_spelling mark.ShiftLeftAssign = codes "<<="
mark_spelling mark.ShiftRightAssign = codes ">>="
mark_spelling mark.AddAssign = codes "+="
mark_spelling mark.SubAssign = codes "-="
mark_spelling mark.MulAssign = codes "*="
mark_spelling mark.DivAssign = codes "/="
mark_spelling mark.RemAssign = codes "%="
mark_spelling mark.AndAssign = codes "&="
mark_spelling mark.XorAssign = codes "^="
mark_spelling mark.OrAssign = codes "|="
mark_spelling mark.PlusPlus = codes "++"
mark_spelling mark.MinusMinus = codes "--"
mark_spelling mark.OrOr = codes "||"
mark_spelling mark.AndAnd = codes "&&"
mark_spelling mark.EqualEqual = codes "=="
mark_spelling mark.NotEqual = codes "!="
mark_spelling mark.LessEqual = codes "<="
mark_spelling mark.GreaterEqual = codes ">="
mark_spelling mark.ShiftLeft = codes "<<"
mark_spelling mark.ShiftRight = codes ">>"
mark_spelling mark.LeftParen = codes "("
mark_spelling mark.RightParen = codes ")"
mark_spelling mark.LeftBrace = codes "{"
mark_spelling mark.RightBrace = codes "}"
mark_spelling mark.LeftBracket = codes "["
mark_spelling mark.RightBracket = codes "]"
mark_spelling mark.Semicolon = codes ";"
mark_spelling mark.Comma = codes ","
mark_spelling mark.Question = codes "?"
mark_spelling mark.Colon = codes ":"
mark_spelling mark.Assign = codes "="
mark_spelling mark.Or = codes "|"
mark_spelling mark.Xor = codes "^"
mark_spelling mark.And = codes "&"
mark_spelling mark.Less = codes "<"
mark_spelling mark.Greater = codes ">"
mark_spelling mark.Plus = codes "+"
mark_spelling mark.Minus = codes "-"
mark_spelling mark.Star = codes "*"
mark_spelling mark.Slash = codes "/"
mark_spelling mark.Percent = codes "%"
mark_spelling mark.Tilde = codes "~"
mark_spelling mark.Not = codes "!"

-- each mark once, longer ones before shorter ones
abbrev pub marks : List Mark
marks =
    mark.ShiftLeftAssign ∷ mark.ShiftRightAssign ∷ mark.AddAssign ∷ mark.SubAssign ∷ mark.MulAssign ∷
    mark.DivAssign ∷ mark.RemAssign ∷ mark.AndAssign ∷ mark.XorAssign ∷ mark.OrAssign ∷ mark.PlusPlus ∷
    mark.MinusMinus ∷ mark.OrOr ∷ mark.AndAnd ∷ mark.EqualEqual ∷ mark.NotEqual ∷ mark.LessEqual ∷
    mark.GreaterEqual ∷ mark.ShiftLeft ∷ mark.ShiftRight ∷ mark.LeftParen ∷ mark.RightParen ∷ mark.LeftBrace ∷
    mark.RightBrace ∷ mark.LeftBracket ∷ mark.RightBracket ∷ mark.Semicolon ∷ mark.Comma ∷ mark.Question ∷
    mark.Colon ∷ mark.Assign ∷ mark.Or ∷ mark.Xor ∷ mark.And ∷ mark.Less ∷ mark.Greater ∷ mark.Plus ∷
    mark.Minus ∷ mark.Star ∷ mark.Slash ∷ mark.Percent ∷ mark.Tilde ∷ mark.Not ∷ []

-- the longest mark that the text begins with
unfoldable pub mark_at : List ℕ → Option Mark
mark_at text = find (λ mark. starts_with nat_eq text (mark_spelling mark)) marks
