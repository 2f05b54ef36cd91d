use Rattle.pc_window.specs.Steps.{IsProper}
use Rattle.pc_window.specs.StoredWindow.{window_in}
use Rattle.pc_shared.specs.SharedWindows.{shared_window}
use Rattle.pc_replay_tests.proofs.both_ways.take_both_ways.Given as goal

-- both windows are proper
abbrev pub invariant-loop-step : goal.invariant-loop-step
invariant-loop-step l = IsProper (window_in l.pair.plain) × IsProper (shared_window l.pair.shared)
