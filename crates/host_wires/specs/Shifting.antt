-- Bits and bytes on the wires, as the levels that the host drives. A bit is one pulse of SCLK while CE is high.
use Rattle.std.specs.Prelude.{ℕ, zero, suc, Bool, true, false, List, [], ◌∷◌, Ok, Err, Result, ◌==◌}
use Rattle.refusals.specs.declared.Refusal.{Refusal}
use Rattle.serial_transfer.specs.declared.phase.SerialOut.{SerialOut}
use Rattle.serial_transfer.specs.declared.phase.SerialOut.TheVariants.{Off}
use Rattle.serial_transfer.specs.Levels.{bit_at}
use Rattle.serial_transfer.specs.Bytes.{spelt}
use Rattle.rx5c348a.specs.declared.pins.PinAnswer.{PinAnswer}
use Rattle.rx5c348a.specs.Pins.{pins_part}
use Rattle.host_wires.specs.declared.record.PinRecord.{PinRecord}
use Rattle.host_wires.specs.Record.{pin_record, Wired, wired}

-- SO as it is answered; a refused call leaves the host with nothing on it
abbrev pub so_heard : Result PinAnswer Refusal → SerialOut
so_heard (Ok answer) = answer.so
so_heard (Err _) = Off

-- levels driven: what the host hears on SO, and both ends then
abbrev pub driven_to : Wired → PinRecord → SerialOut × Wired
driven_to w to = (so_heard (pins_part w.part to.levels).0, wired to (pins_part w.part to.levels).1)

-- the same with CE high
abbrev pub driven : Wired → Bool → Bool → SerialOut × Wired
driven w sclk si = driven_to w (pin_record true sclk si)

-- One bit on SI.
abbrev pub bit_in : Wired → Bool → Wired
bit_in w si = (driven (driven w true si).1 false si).1

-- a bit of a byte: 7 is the highest, 0 the lowest
abbrev pub bit_set : ℕ → ℕ → Bool
bit_set byte place = bit_at byte place == 1

-- the lowest so many bits of a byte, highest first
unfoldable pub low_levels : ℕ → ℕ → List Bool
low_levels byte zero = []
low_levels byte (suc n) = bit_set byte n ∷ low_levels byte n

-- Bits on SI one after another.
unfoldable pub bits_in : List Bool → Wired → Wired
bits_in [] w = w
bits_in (si ∷ bits) w = bits_in bits (bit_in w si)

-- A byte on SI, highest bit first.
abbrev pub byte_in : ℕ → Wired → Wired
byte_in byte w = bits_in (low_levels byte 8) w

-- One bit from SO: what stands there once SCLK has risen; SI is low.
abbrev pub bit_out : Wired → SerialOut × Wired
bit_out w = ((driven w true false).0, (driven (driven w true false).1 false false).1)

abbrev pub with_level : SerialOut → List SerialOut × Wired → List SerialOut × Wired
with_level out s = (out ∷ s.0, s.1)

-- So many bits from SO.
unfoldable pub levels_out : ℕ → Wired → List SerialOut × Wired
levels_out zero w = ([], w)
levels_out (suc n) w = with_level (bit_out w).0 (levels_out n (bit_out w).1)

-- what so many levels of SO spell
abbrev pub spelt_out : ℕ → Wired → ℕ × Wired
spelt_out n w = (spelt 0 (levels_out n w).0, (levels_out n w).1)

-- A byte from SO, highest bit first.
abbrev pub byte_out : Wired → ℕ × Wired
byte_out w = spelt_out 8 w

-- Bytes on SI one after another.
unfoldable pub bytes_in : List ℕ → Wired → Wired
bytes_in [] w = w
bytes_in (byte ∷ bytes) w = bytes_in bytes (byte_in byte w)

abbrev pub with_byte : ℕ → List ℕ × Wired → List ℕ × Wired
with_byte byte s = (byte ∷ s.0, s.1)

-- So many bytes from SO one after another.
unfoldable pub bytes_out : ℕ → Wired → List ℕ × Wired
bytes_out zero w = ([], w)
bytes_out (suc n) w = with_byte (byte_out w).0 (bytes_out n (byte_out w).1)
