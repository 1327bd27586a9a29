-- The 348A: its state, and what power-on, load, halt, pulses and look answer and leave.
use Rattle.std.specs.Prelude.{ℕ, Bool, false, cond, List, Ok, Err}
use Rattle.clock_core.specs.Core.{Accepted}
use Rattle.serial_transfer.specs.declared.phase.Phase.{Phase}
use Rattle.serial_transfer.specs.declared.phase.Phase.TheVariants.{Idle}
use Rattle.rx5c_registers.specs.File.{FileState, file_seen, look_at}
use Rattle.rx5c_registers.specs.Clock as clock
use Rattle.rx5c348a.specs.declared.part.Rx5c348a.{Rx5c348a}

-- A part: its registers, the levels that CE and SCLK were given last, and where its transfer stands.
pub record PartState : Type 0 where
  pub file : FileState
  pub ce : Bool
  pub sclk : Bool
  pub phase : Phase

abbrev pub seen : Rx5c348a → PartState
seen p = record { file = file_seen p.registers; ce = p.ce; sclk = p.sclk; phase = p.transfer.phase }

-- a part with its pins low and no transfer under way
abbrev pub at_rest : FileState → PartState
at_rest f = record { file = f; ce = false; sclk = false; phase = Idle }

abbrev pub with_file : PartState → FileState → PartState
with_file p f = record { file = f; ce = p.ce; sclk = p.sclk; phase = p.phase }

-- Power-on: all registers zero but XSTP, nothing shown.
abbrev pub power_on : PartState
power_on = at_rest clock.power_on

abbrev pub after_load : PartState → Accepted × FileState → Accepted × PartState
after_load p (Ok u, f) = (Ok u, at_rest f)
after_load p (Err why, f) = (Err why, p)

-- Load lowers the pins and drops a transfer under way; a refused one leaves the part as it was.
abbrev pub loading : PartState → ℕ → ℕ → ℕ → ℕ → Accepted × PartState
loading p moment weekday trim mode = after_load p (clock.load p.file moment weekday trim mode)

-- A halt counts with CE low only.
abbrev pub halting : PartState → PartState
halting p = cond p.ce p (with_file p (clock.halted p.file))

abbrev pub pulsing : PartState → ℕ → Accepted × PartState
pulsing p count = ((clock.give_pulses p.file count).0, with_file p (clock.give_pulses p.file count).1)

-- A look copies the sixteen registers.
abbrev pub look_part : PartState → List ℕ → Accepted × List ℕ
look_part p buffer = look_at p.file buffer

-- What the contracts name. These are shut: a caller that does not compute with the part carries them whole.
unfoldable pub load_part : PartState → ℕ → ℕ → ℕ → ℕ → Accepted × PartState
load_part p moment weekday trim mode = loading p moment weekday trim mode

unfoldable pub halt_part : PartState → PartState
halt_part p = halting p

unfoldable pub pulse_part : PartState → ℕ → Accepted × PartState
pulse_part p count = pulsing p count
