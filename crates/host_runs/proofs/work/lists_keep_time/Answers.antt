use Rattle.std.proofs.Common.{sym, ◌∙◌}
use Rattle.rx5c348a_runs.proofs.Runs.{part_law}
use Rattle.host_runs.specs.Levels.{on_wires}
use Rattle.host_runs.proofs.SessionReads.{read_is_heard, read_agrees}
use Rattle.host_runs.proofs.Wires.{run_on_wires, ends_at, levels_after_each_call}
use Rattle.host_runs.proofs.work.lists_keep_time.Goals as goal

pub returns : goal.returns
returns c =
    record {
      levels = λ s calls. run_on_wires s calls ∙ sym (ends_at s.part (on_wires s calls));
      each_call = levels_after_each_call;
      law = part_law;
      heard = read_is_heard;
      reads = λ s rest calls new premises cell byte given. read_agrees s rest calls new cell byte given premises;
    }
