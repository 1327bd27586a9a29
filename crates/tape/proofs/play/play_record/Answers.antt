use Rattle.std.proofs.Common.{Err, ap, ◌∙◌}
use Rattle.std.proofs.lemmas.Result.{err_from_is_err_and}
use Rattle.rx5c348a.specs.Part.{seen}
use Rattle.tape.specs.declared.fault.RecordFault.{RecordFault}
use Rattle.tape.specs.Playing.{RecordPlayed, step_view}
use Rattle.tape.proofs.Stepping.{record_handed_on}
use Rattle.tape.proofs.play.play_record.Goals as goal

pub returns-in_err-printed-clause-does : goal.returns-in_err-printed-clause-does
returns-in_err-printed-clause-does c =
    let result = c.from_residual-in_err-printed in
    let p = err_from_is_err_and result.result result.ensures.1 in
    let after = seen c.perform.new.part in
    let line = c.perform.new.line in
    ap {B = RecordPlayed} (λ r. (step_view r, after, line)) p.1 ∙ ap {B = RecordPlayed} (λ (f : RecordFault). (Err f, after, line)) p.2 ∙ record_handed_on c.args.tape.now c.in_ok-record.rest.now c.in_ok-record.record (seen c.args.part.now) after c.args.line.now line _ c.in_ok-record.ensures.reads c.in_err-printed.ensures.does
