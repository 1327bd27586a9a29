use Rattle.std.proofs.Common.{◌≡◌, ◌-◌}
use Rattle.rx5c348a.specs.Part.{seen}
use Rattle.host_wires.specs.Record.{wired}
use Rattle.host_wires.proofs.Clocks.{spelt_on}
use Rattle.host_wires.proofs.record.PinRecord.shift_out.Given as goal

-- the bits that are left, from here, spell what all of them spell from the start
abbrev pub invariant-loop : goal.invariant-loop
invariant-loop l = spelt_on (8 - l.counter) l.gathered (wired l.self (seen l.part)) ≡ spelt_on 8 0 (wired l.initial.self (seen l.initial.part))
