-- Where the law begins: a part that was loaded.
use Rattle.std.specs.Prelude.{◌≡◌, ℕ, false, Ok}
use Rattle.byte_map.specs.Cells.{byte_chart}
use Rattle.clock_core.specs.Core.{Accepted}
use Rattle.serial_transfer.specs.declared.phase.Phase.TheVariants.{Idle}
use Rattle.rx5c348a.specs.Part.{PartState, load_part}
use Rattle.timekeeping.specs.Law.{NewlyMade}

-- A part at rest: its pins are low, and no transfer is under way.
pub record AtRest (p : PartState) : Type 0 where
  pub unselected : p.ce ≡ false
  pub low : p.sclk ≡ false
  pub quiet : p.phase ≡ Idle

-- what an accepted load leaves
pub record Loaded (p : PartState) : Type 0 where
  pub at_rest : AtRest p
  pub new : NewlyMade byte_chart p.file.core

-- Every accepted load leaves a part at rest with a newly made core.
abbrev pub LoadedIsNew : Type 0
LoadedIsNew =
    (p : PartState) (moment weekday trim mode : ℕ) → ◌≡◌ {A = Accepted} (load_part p moment weekday trim mode).0 (Ok tt) → Loaded (load_part p moment weekday trim mode).1
