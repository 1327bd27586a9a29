use Rattle.host_runs.proofs.work.work_host_calls.Goals as goal

pub returns-clause-heard : goal.returns-clause-heard
returns-clause-heard c = λ rest. c.lists_keep_time.ensures.heard _ rest _
