use Rattle.std.proofs.Common.{Ok, ap, ◌∙◌, rules}
use Rattle.tape.specs.declared.record.Record.{Record}
use Rattle.tape.specs.Records.{RecordRead}
use Rattle.tape.proofs.Reading.{number_read, rest_shorter}
use Rattle.tape.proofs.record.read_record.Goals as goal

pub returns : goal.returns
returns c =
    let rest = c.in_ok-number.rest.now in
    let reads = ap {B = RecordRead} (λ (r : Record). Ok (r, rest)) c.with.ensures ∙ number_read c.args.tape.now (search rules) c.in_ok-kind.kind c.in_ok-kind.ensures c.in_ok-number.number rest c.in_ok-number.ensures in
    record { reads = reads; shorter = rest_shorter c.args.tape.now c.with.result rest reads }
