use Rattle.std.proofs.Common.{◌+◌, ◌-◌, drop, length, Ok, ◌∙◌, arith}
use Rattle.std.proofs.lemmas.List.{take_all, length-drop}
use Rattle.tape.proofs.Numbers.{broken_off, number_ends, padded, too_many_groups, number_goes_on, stays_below}
use Rattle.tape.proofs.record.read_number.Goals as goal

pub returns-then-place-gt0 : goal.returns-then-place-gt0
returns-then-place-gt0 c = padded _ _ _ _ c.loop-place.invariant.0 (omega arith) (omega arith) (omega arith)

pub returns-then-group-lt128 : goal.returns-then-group-lt128
returns-then-group-lt128 c =
    let place = c.loop-place.place in
    let rest = drop (place + 1) c.args.tape.now in
    let whole_rest = take_all (length c.args.tape.now - (place + 1)) rest (omega (arith, length-drop (place + 1) c.args.tape.now)) in
    (λ i. Ok (c.loop-place.number + c.weighed-number.ensures i, whole_rest i)) ∙ number_ends _ _ _ _ c.loop-place.invariant.0 (omega arith) (omega arith) (omega arith)

pub returns-then-place-eq4 : goal.returns-then-place-eq4
returns-then-place-eq4 c = too_many_groups _ _ _ _ c.loop-place.invariant.0 (omega arith) (omega arith) (omega arith)

pub loop-place-preserved : goal.loop-place-preserved
loop-place-preserved c = (
  rw c.weighed-number.ensures (number_goes_on _ _ _ _ c.loop-place.invariant.0 (omega arith) (omega arith) (omega arith)),
  omega arith,
  rw c.weighed-number.ensures (stays_below _ _ _ (omega arith) c.loop-place.invariant.2),
)

pub returns : goal.returns
returns c = broken_off _ _ _ _ c.loop-place.invariant.0 (omega arith)
