-- What the run of an object cost, as the text that is asked for.
use Rattle.std.specs.Prelude.{ℕ, ℤ, List, min}
use Rattle.pc_machine.specs.MachineRun.{machine_start}
use Rattle.pc_object.specs.ObjectText.{CodeWithNotes}
use Rattle.pc_command.specs.Requests.{StatRequest}
use Rattle.pc_command.specs.declared.stat.StatMode.{StatMode}
use Rattle.pc_command.specs.declared.stat.StatMode.TheVariants.{Summary, Rows, Trace, Dot, Json}
use Rattle.pc_count.specs.Counts.{RunProfile, run_profile}
use Rattle.pc_stat.specs.Json.{json_text}
use Rattle.pc_stat.specs.Summary.{summary_text}
use Rattle.pc_trace.specs.TraceText.{trace_text}
use Rattle.pc_view.specs.Graph.{tallied_graph_text}
use Rattle.pc_view.specs.Listing.{tallied_listing_text}
use Rattle.pc_view.specs.Tally.{RunTally}

-- the profile of the run of an object on numbers, for at most so many cycles
abbrev pub profile_on : ℕ → CodeWithNotes → List ℤ → RunProfile
profile_on cycles object numbers = run_profile object.code cycles (machine_start object.code numbers)

-- the counts of a profile, as a listing and a graph tell them
abbrev pub tally_of : RunProfile → RunTally
tally_of profile = record { cycles = profile.cycles; rows = profile.rows; leaves = profile.leaves }

-- what the run of an object on numbers cost, for at most so many cycles; a trace tells no more cycles than the run may take
abbrev pub text_in : StatMode → ℕ → CodeWithNotes → List ℤ → List ℕ
text_in Summary cycles object numbers = summary_text object.code (profile_on cycles object numbers)
text_in Rows cycles object numbers = tallied_listing_text (tally_of (profile_on cycles object numbers)) object
text_in (Trace most) cycles object numbers = trace_text object.code (min most cycles) (machine_start object.code numbers)
text_in Dot cycles object numbers = tallied_graph_text (tally_of (profile_on cycles object numbers)) object
text_in Json cycles object numbers = json_text object.code (profile_on cycles object numbers)

-- the text that is asked for
abbrev pub cost_text : StatRequest → CodeWithNotes → List ℤ → List ℕ
cost_text request object numbers = text_in request.mode request.cycles object numbers
