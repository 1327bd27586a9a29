use Rattle.std.proofs.Common.{Ok, Err, Result, List, vec_items, ap, ◌∙◌}
use Rattle.std.proofs.lemmas.Result.{err_from_is_err_and}
use Rattle.rx5c348a.specs.Part.{seen}
use Rattle.tape.specs.declared.fault.RecordFault.{RecordFault}
use Rattle.tape.specs.Playing.{Stepped, bench, rest_after_step}
use Rattle.tape.proofs.Stepping.{step_done, step_refused}
use Rattle.tape.proofs.play.Playing.step.Goals as goal

pub returns-in_err-length-clause-does : goal.returns-in_err-length-clause-does
returns-in_err-length-clause-does c =
    let p = err_from_is_err_and c.from_residual.result c.from_residual.ensures.1 in
    let tape = c.args.self.now.rest.now in
    let printed = vec_items c.args.self.now.printed in
    let after = seen c.play_record.new.part in
    ap {B = Stepped} (λ (r : Result (Unit {0}) RecordFault). (rest_after_step r tape, bench after printed)) p.1 ∙ ap {B = Stepped} (λ (f : RecordFault). (Err f, bench after printed)) p.2 ∙ step_refused tape (seen c.args.part.now) after printed _ c.play_record.new.line _ c.in_err-length.ensures.does

pub returns-clause-does : goal.returns-clause-does
returns-clause-does c =
    let tape = c.args.self.now.rest.now in
    let printed = vec_items c.args.self.now.printed in
    let after = seen c.play_record.new.part in
    let rest = c.in_ok-length.rest.now in
    let line = c.play_record.new.line in
    ap {B = Stepped} (λ (l : List _). (Ok rest, bench after l)) c.append_reserved.ensures.items ∙ step_done tape (seen c.args.part.now) after printed _ line c.in_ok-length.length rest c.in_ok-length.ensures.does
