-- Where the law begins: a part that was loaded.
use Rattle.std.specs.Prelude.{◌≡◌, ℕ, Ok}
use Rattle.digit_map.specs.Cells.{digit_chart}
use Rattle.clock_core.specs.Core.{CoreState, Accepted}
use Rattle.msm62x42.specs.Part.{load_part}
use Rattle.timekeeping.specs.Law.{NewlyMade}

-- Every accepted load leaves a newly made core.
abbrev pub LoadedIsNew : Type 0
LoadedIsNew =
    (s : CoreState) (moment weekday mode : ℕ) → ◌≡◌ {A = Accepted} (load_part s moment weekday mode).0 (Ok tt) → NewlyMade digit_chart (load_part s moment weekday mode).1
