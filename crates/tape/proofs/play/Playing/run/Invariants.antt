use Rattle.std.proofs.Common.{length}
use Rattle.tape.proofs.Stepping.{StillPlays}
use Rattle.rx5c348a.specs.Part.{seen}
use Rattle.tape.proofs.play.Playing.run.Given as goal

abbrev pub invariant-loop-self : goal.invariant-loop-self
invariant-loop-self l =
    StillPlays l.total l.self.rest.now l.initial.self.rest.now (seen l.part) (seen l.initial.part) l.self.printed l.initial.self.printed

abbrev pub decreases-loop-self : goal.decreases-loop-self
decreases-loop-self l = length l.self.rest.now
