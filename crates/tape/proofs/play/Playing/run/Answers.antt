use Rattle.std.proofs.Common.{length, Err, vec_items, Result, sym, ap, ◌∙◌, arith}
use Rattle.std.proofs.lemmas.Result.{err_from_is_err_and}
use Rattle.rx5c348a.specs.Part.{seen}
use Rattle.tape.specs.declared.fault.TapeFault.{TapeFault}
use Rattle.tape.specs.Playing.{Outcome, bench, then_on, play_rest}
use Rattle.tape.proofs.Stepping.{plays_on, plays_out, some_left, none_left}
use Rattle.tape.proofs.play.Playing.run.Goals as goal

pub loop-self-preserved : goal.loop-self-preserved
loop-self-preserved c =
    let total = length c.args.self.now.rest.now in
    let before = bench (seen c.loop-self.part) (vec_items c.loop-self.self.printed) in
    let told = c.in_ok-step_at.ensures in
    record {
      goes_on = ap (then_on (play_rest total)) told.does ∙ sym (plays_on total c.loop-self.self.rest.now before (some_left _ _ c.is_empty.ensures c.loop-self-test.true)) ∙ c.loop-self.invariant.goes_on;
      shorter = omega (arith, told.shorter, c.loop-self.invariant.shorter);
      room = told.room ∙ c.loop-self.invariant.room;
    }

pub returns-in_err-step_at-clause-does : goal.returns-in_err-step_at-clause-does
returns-in_err-step_at-clause-does c =
    let total = length c.args.self.now.rest.now in
    let before = bench (seen c.loop-self.part) (vec_items c.loop-self.self.printed) in
    let after = bench (seen c.step_at.new.part) (vec_items c.step_at.new.self.printed) in
    let p = err_from_is_err_and c.from_residual.result c.from_residual.ensures.1 in
    ap {B = Outcome} (λ (r : Result (Unit {0}) TapeFault). (r, after)) p.1 ∙ ap {B = Outcome} (λ (f : TapeFault). (Err f, after)) p.2 ∙ ap (then_on (play_rest total)) c.in_err-step_at.ensures.does ∙ sym (plays_on total c.loop-self.self.rest.now before (some_left _ _ c.is_empty.ensures c.loop-self-test.true)) ∙ c.loop-self.invariant.goes_on

pub returns-clause-does : goal.returns-clause-does
returns-clause-does c = sym (plays_out _ _ _ (none_left _ _ c.is_empty.ensures c.loop-self-test.false)) ∙ c.loop-self.invariant.goes_on
