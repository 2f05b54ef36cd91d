-- How the code numbers the symbols of copies: by an offset in 32 bits.
use Rattle.std.specs.Prelude.{ℕ, ◌+◌, ◌%◌, ◌^◌, Bool, Option, Some, None, List, [], ◌∷◌, map, reverse, if◌then◌else◌, nat_eq}
use Rattle.pc_syntax.specs.declared.unit.Function.{Function}
use Rattle.pc_syntax.specs.Unit.{UnitFunction}
use Rattle.pc_syntax.specs.UnitErasure.{function_of}
use Rattle.pc_syntax.specs.declared.unit.Target.{Target}
use Rattle.pc_syntax.specs.declared.unit.Param.{Param}
use Rattle.pc_syntax.specs.Source.{SourceExpression, SourceList, No_more, More, ScalarDeclaration}
use Rattle.pc_calls.specs.Inline.{Copy, copy_of}
use Rattle.pc_calls.specs.Inline as inline
use Rattle.pc_inline.specs.declared.site.Site.{Site}

-- the symbol of a copy with this offset
unfoldable pub shifted : ℕ → ℕ → ℕ
shifted offset symbol = (offset + symbol) % 2 ^ 32

-- the offset of the copies that stand in it
abbrev pub next_offset : ℕ → ℕ
next_offset offset = shifted offset 65536

-- the copy of the function of a name among these, of which the last comes first, with this offset
unfoldable pub copies_at : ℕ → List UnitFunction → ℕ → Option Copy
copies_at offset [] symbol = None
copies_at offset (last ∷ earlier) symbol =
    if nat_eq symbol last.symbol then Some (copy_of (shifted offset) (copies_at (next_offset offset) earlier) last)
    else copies_at offset earlier symbol

-- where statements stand: with these functions, at this offset, in a function or in `main`
abbrev pub site_at : List Function → ℕ → Bool → inline.Site
site_at functions offset in_function = record {
  copies = copies_at (next_offset offset) (reverse (map function_of functions));
  rename = shifted offset;
  in_function = in_function;
}

-- where the code says that they stand
abbrev pub site_in : Site → inline.Site
site_in site = site_at site.functions.now site.offset site.in_function

-- the declaration of a call's target, where the call declares it
abbrev pub target_list : (ℕ → ℕ) → Option Target → SourceList
target_list r None = No_more
target_list r (Some target) = if target.declared then More (ScalarDeclaration (r target.symbol) target.line None) No_more else No_more

-- the declaration of a parameter with its argument, where there is one
abbrev pub argument_list : Param → Option SourceExpression → SourceList
argument_list parameter None = No_more
argument_list parameter (Some argument) = More (ScalarDeclaration parameter.symbol parameter.line (Some argument)) No_more
