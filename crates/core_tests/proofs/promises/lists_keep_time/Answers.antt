use Rattle.core_tests.proofs.promises.lists_keep_time.Goals as goal

pub returns : goal.returns
returns g c = λ start calls. c.keeps_time.ensures start tt calls
