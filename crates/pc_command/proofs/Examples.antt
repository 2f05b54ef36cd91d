-- Words that are a command or none, as the definitions compute them.
use Rattle.std.proofs.Common.{◌≡◌, ℕ, Bool, true, List, [], ◌∷◌, refl, codes}
use Rattle.std.specs.Prelude.{Option, Some, None}
use Rattle.clap.proofs.OnLiterals.{clap_on_literals}
use Rattle.pc_command.specs.Arguments.{flag_in, matches_taken, word_in}
use Rattle.pc_command.specs.Laws.{plain_request}
use Rattle.pc_command.specs.Options.{number_in}
use Rattle.pc_command.specs.Requests.{CheckRequest, CompileRequest, OfFile, OfSample, SourcePlace, behind_at, compile_command_of, compile_request_in}
use Rattle.pc_command.specs.Requests.{explain_command_of, explain_request_in, source_place_of, simulate_command_of, simulate_request_in}
use Rattle.pc_command.specs.Requests.{check_command_of, check_request_in}
use Rattle.pc_command.specs.Requests.{assemble_command_of, assemble_request_in, stat_command_of, stat_request_in, view_command_of, view_request_in}
use Rattle.pc_command.specs.declared.explain.ExplainMode.TheVariants as form
use Rattle.pc_command.specs.declared.stat.StatMode.TheVariants as mode
use Rattle.pc_command.proofs.Programs.{argument_tables}

-- what is asked of the compiler with the defaults
abbrev plain : SourcePlace → CompileRequest
plain source = plain_request source (codes "y")

-- what is opened to compute them
unfoldable requests : Unit {0}
unfolding compile_command_of compile_request_in simulate_command_of simulate_request_in view_command_of view_request_in stat_command_of stat_request_in
requests = tt

unfoldable sources : Unit {0}
unfolding check_command_of check_request_in explain_command_of explain_request_in source_place_of behind_at
sources = tt

unfoldable commands : Unit {0}
unfolding clap_on_literals argument_tables requests sources assemble_command_of assemble_request_in matches_taken flag_in word_in number_in
commands = tt

-- words that the compiler is asked with
abbrev asked : List (List ℕ) → Option CompileRequest
asked more = compile_command_of (codes "x.c" ∷ (codes "-o" ∷ (codes "y" ∷ more)))

-- the defaults
defaults : asked [] ≡ Some (plain (OfFile (codes "x.c")))
unfolding commands
defaults = refl

-- each option at the ends of its range
ops-ends : asked (codes "--ops" ∷ (codes "1" ∷ [])) ≡ Some (record (plain (OfFile (codes "x.c"))) { limits = record { ops = 1; tests = 3; mem = 2 } })
unfolding commands
ops-ends = refl

greatest : asked (codes "--ops=32" ∷ (codes "--tests=7" ∷ (codes "--mem=32" ∷ (codes "--window=8" ∷ (codes "--rows=512" ∷ (codes "--report" ∷ []))))))
    ≡ Some (record {
      source = OfFile (codes "x.c");
      object = codes "y";
      limits = record { ops = 32; tests = 7; mem = 32 };
      extent = record { window = 8; rows = 512 };
      report = true;
    })
unfolding commands
greatest = refl

-- numbers outside of it
ops-below : asked (codes "--ops" ∷ (codes "0" ∷ [])) ≡ None
unfolding commands
ops-below = refl

ops-above : asked (codes "--ops" ∷ (codes "33" ∷ [])) ≡ None
unfolding commands
ops-above = refl

rows-above : asked (codes "--rows" ∷ (codes "513" ∷ [])) ≡ None
unfolding commands
rows-above = refl

-- what `clap` takes besides
attached : compile_command_of (codes "-oy" ∷ (codes "x.c" ∷ (codes "--ops=+8" ∷ (codes "--tests" ∷ (codes "003" ∷ []))))) ≡ Some (plain (OfFile (codes "x.c")))
unfolding commands
attached = refl

-- words that lack what they need, have too much, or ask for help
bare : compile_command_of (codes "x.c" ∷ []) ≡ None
unfolding commands
bare = refl

empty : compile_command_of [] ≡ None
unfolding commands
empty = refl

twice : asked (codes "--mem" ∷ (codes "1" ∷ (codes "--mem" ∷ (codes "1" ∷ [])))) ≡ None
unfolding commands
twice = refl

valueless : asked (codes "--mem" ∷ []) ≡ None
unfolding commands
valueless = refl

unknown : asked (codes "--fast" ∷ []) ≡ None
unfolding commands
unknown = refl

help : asked (codes "--help" ∷ []) ≡ None
unfolding commands
help = refl

-- samples, and what spells none
sampled : compile_command_of (codes "@4294967295" ∷ (codes "-o" ∷ (codes "y" ∷ []))) ≡ Some (plain (OfSample 4294967295))
unfolding commands
sampled = refl

past : compile_command_of (codes "@4294967296" ∷ (codes "-o" ∷ (codes "y" ∷ []))) ≡ None
unfolding commands
past = refl

signed : compile_command_of (codes "@+7" ∷ (codes "-o" ∷ (codes "y" ∷ []))) ≡ None
unfolding commands
signed = refl

-- the simulator's
cycles-default : simulate_command_of (codes "y" ∷ []) ≡ Some (record { object = codes "y"; cycles = 100000000 })
unfolding commands
cycles-default = refl

cycles-greatest : simulate_command_of (codes "y" ∷ (codes "--cycles" ∷ (codes "1000000000000" ∷ []))) ≡ Some (record { object = codes "y"; cycles = 1000000000000 })
unfolding commands
cycles-greatest = refl

cycles-below : simulate_command_of (codes "y" ∷ (codes "--cycles" ∷ (codes "0" ∷ []))) ≡ None
unfolding commands
cycles-below = refl

-- the assembler's
object_first : assemble_command_of (codes "-o" ∷ (codes "y" ∷ (codes "x" ∷ []))) ≡ Some (record { text = codes "x"; object = codes "y" })
unfolding commands
object_first = refl

no_object : assemble_command_of (codes "x" ∷ []) ≡ None
unfolding commands
no_object = refl

-- the viewer's
dot-given : view_command_of (codes "--dot" ∷ (codes "y" ∷ [])) ≡ Some (record { object = codes "y"; dot = true })
unfolding commands
dot-given = refl

dot-twice : view_command_of (codes "y" ∷ (codes "--dot" ∷ (codes "--dot" ∷ []))) ≡ None
unfolding commands
dot-twice = refl

-- the profiler's
trace-given : stat_command_of (codes "y" ∷ (codes "--trace" ∷ (codes "+05" ∷ (codes "--cycles=9" ∷ []))))
    ≡ Some (record { object = codes "y"; cycles = 9; mode = mode.Trace 5 })
unfolding commands
trace-given = refl

json-given : stat_command_of (codes "--json" ∷ (codes "y" ∷ [])) ≡ Some (record { object = codes "y"; cycles = 100000000; mode = mode.Json })
unfolding commands
json-given = refl

trace-below : stat_command_of (codes "y" ∷ (codes "--trace" ∷ (codes "0" ∷ []))) ≡ None
unfolding commands
trace-below = refl

modes-twice : stat_command_of (codes "y" ∷ (codes "--rows" ∷ (codes "--dot" ∷ []))) ≡ None
unfolding commands
modes-twice = refl

trace-and-rows : stat_command_of (codes "--rows" ∷ (codes "y" ∷ (codes "--trace=5" ∷ []))) ≡ None
unfolding commands
trace-and-rows = refl

-- the checker's
abbrev checking : SourcePlace → (make why : Bool) → Option CheckRequest
checking source make why = Some (record { source = source; object = codes "y"; certificate = codes "z"; make = make; why = why })

flags-first : check_command_of (codes "--why" ∷ (codes "@7" ∷ (codes "--make" ∷ (codes "y" ∷ (codes "z" ∷ []))))) ≡ checking (OfSample 7) true true
unfolding commands
flags-first = refl

no-certificate : check_command_of (codes "x.c" ∷ (codes "y" ∷ (codes "--make" ∷ []))) ≡ None
unfolding commands
no-certificate = refl

make-twice : check_command_of (codes "x.c" ∷ (codes "--make" ∷ (codes "y" ∷ (codes "z" ∷ (codes "--make" ∷ []))))) ≡ None
unfolding commands
make-twice = refl

no-sample : check_command_of (codes "@" ∷ (codes "y" ∷ (codes "z" ∷ []))) ≡ None
unfolding commands
no-sample = refl

-- the explainer's
line-given : explain_command_of (codes "--loop" ∷ (codes "1048577" ∷ (codes "x.c" ∷ (codes "--rows=1" ∷ []))))
    ≡ Some (record {
      source = OfFile (codes "x.c");
      limits = record { ops = 8; tests = 3; mem = 2 };
      extent = record { window = 4; rows = 1 };
      line = Some 1048577;
      mode = form.Text;
    })
unfolding commands
line-given = refl

graph-given : explain_command_of (codes "--dot" ∷ (codes "x.c" ∷ []))
    ≡ Some (record {
      source = OfFile (codes "x.c");
      limits = record { ops = 8; tests = 3; mem = 2 };
      extent = record { window = 4; rows = 256 };
      line = None;
      mode = form.Dot;
    })
unfolding commands
graph-given = refl

two-forms : explain_command_of (codes "--dot" ∷ (codes "x.c" ∷ (codes "--json" ∷ []))) ≡ None
unfolding commands
two-forms = refl

line-below : explain_command_of (codes "x.c" ∷ (codes "--loop" ∷ (codes "0" ∷ []))) ≡ None
unfolding commands
line-below = refl

line-above : explain_command_of (codes "x.c" ∷ (codes "--loop" ∷ (codes "1048578" ∷ []))) ≡ None
unfolding commands
line-above = refl

line-twice : explain_command_of (codes "--loop=1" ∷ (codes "x.c" ∷ (codes "--loop=2" ∷ []))) ≡ None
unfolding commands
line-twice = refl
