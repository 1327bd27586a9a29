use Rattle.std.proofs.Common.{◌≡◌, ◌*◌, ◌^◌, ◌<◌, ◌≤◌, drop}
use Rattle.tape.specs.Records.{groups_after}
use Rattle.tape.proofs.Numbers.{above}
use Rattle.tape.proofs.record.read_number.Given as goal

abbrev pub invariant-loop-place : goal.invariant-loop-place
invariant-loop-place l = (above l.number (2 ^ (7 * l.place)) (groups_after l.place (drop l.place l.tape)) ≡ groups_after 0 l.tape) × (l.place ≤ 4) × (l.number < 2 ^ (7 * l.place))
