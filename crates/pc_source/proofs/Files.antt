-- What a shelf tells of a source.
use Rattle.std.proofs.Common.{◌≡◌, ℕ, List, Option, sym, ◌∙◌, subst}
use Rattle.pc_outside.specs.Shelf.{Files}
use Rattle.pc_command.specs.Requests.{SourcePlace, OfFile, OfSample}
use Rattle.pc_sample.specs.SampleText.{sample_text}
use Rattle.pc_driver.proofs.Files.{holds, held_map, told_holds, told_text}
use Rattle.pc_source.specs.Files.{HasSource, HoldsSource, IsTold}

-- of the text that a source has, P holds
pub has_holds : (held : Option Files) (source : SourcePlace) (text : List ℕ) (P : List ℕ → Type 0) → HasSource held source text → P text → HoldsSource held source P
has_holds held (OfFile name) text P h p = holds held name text P h p
has_holds held (OfSample number) text P h p = subst P h p

-- P holds of a source's text, and so does Q
pub source_map : (held : Option Files) (source : SourcePlace) (P Q : List ℕ → Type 0) → ((text : List ℕ) → P text → Q text) → HoldsSource held source P → HoldsSource held source Q
source_map held (OfFile name) P Q f h = held_map held name P Q f h
source_map held (OfSample number) P Q f h = f (sample_text number) h

-- what is held of a source whose text is told
pub source_told : (held : Option Files) (source : SourcePlace) (text : List ℕ) (P : List ℕ → Type 0) → IsTold held source text → HoldsSource held source P → P text
source_told held (OfFile name) text P (files, is, here) h = told_holds held files name text P is here h
source_told held (OfSample number) text P is h = subst P (sym is) h

-- the text of a source that is told is that which it has
pub text_told : (held : Option Files) (source : SourcePlace) (text other : List ℕ) → IsTold held source text → HasSource held source other → other ≡ text
text_told held (OfFile name) text other (files, is, here) h = told_text held files name text other is here h
text_told held (OfSample number) text other is h = h ∙ sym is
