use Rattle.rx5c348a.specs.Part.{seen}
use Rattle.host_runs.specs.Hosts.{standing}
use Rattle.host_runs.proofs.Rows.{Filled}
use Rattle.host_runs.proofs.work.work_in_turn.Given as goal

abbrev pub invariant-loop-place : goal.invariant-loop-place
invariant-loop-place l =
    Filled (standing l.initial.sessions (seen l.initial.part) l.initial.buffer) (standing l.sessions (seen l.part) l.buffer) l.calls l.initial.answers l.answers l.place
