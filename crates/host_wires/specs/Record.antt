-- The host's pin record, and the two ends of the wires together.
use Rattle.std.specs.Prelude.{ℕ, ◌+◌, Bool}
use Rattle.rx5c_registers.specs.File.{bit_if}
use Rattle.rx5c348a.specs.Part.{PartState}
use Rattle.host_wires.specs.declared.record.PinRecord.{PinRecord}

-- Levels as one number, the weights being those of the part: CE 4, SCLK 2, SI 1.
abbrev pub levels_of : Bool → Bool → Bool → ℕ
levels_of ce sclk si = bit_if ce 4 + bit_if sclk 2 + bit_if si 1

-- the record of a number
abbrev pub recorded : ℕ → PinRecord
recorded levels = record { levels = levels }

abbrev pub pin_record : Bool → Bool → Bool → PinRecord
pin_record ce sclk si = recorded (levels_of ce sclk si)

-- The host's end and the part's.
pub record Wired : Type 0 where
  pub pins : PinRecord
  pub part : PartState

abbrev pub wired : PinRecord → PartState → Wired
wired pins part = record { pins = pins; part = part }
