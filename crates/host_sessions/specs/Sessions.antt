-- The calls of a session: what each answers, and what it leaves at both ends of the wires.
use Rattle.std.specs.Prelude.{ℕ, ◌+◌, ◌*◌, Bool, true, false, cond, List, length, Ok, Err, Result, bit_and, nat_lt}
use Rattle.refusals.specs.declared.Refusal.{Refusal}
use Rattle.refusals.specs.declared.Refusal.TheVariants.{NoSuchCell, NoHeaderAwaited}
use Rattle.clock_core.specs.Core.{Accepted}
use Rattle.serial_transfer.specs.declared.phase.Format.TheVariants.{SingleWrite, BurstWrite, SingleRead, BurstRead}
use Rattle.serial_transfer.specs.Rules.{code_of}
use Rattle.rx5c348a.specs.Part.{PartState}
use Rattle.rx5c348a.specs.Pins.{awaits_header, pins_part}
use Rattle.host_wires.specs.declared.record.PinRecord.{PinRecord}
use Rattle.host_wires.specs.Record.{levels_of, recorded, pin_record, Wired, wired}
use Rattle.host_wires.specs.Shifting.{byte_in, byte_out, bytes_in, bytes_out}

-- a call with no other answer was accepted
abbrev pub accepted : Accepted
accepted = Ok tt

-- nothing is driven high
abbrev pub all_low : PinRecord
all_low = pin_record false false false

-- CE and SCLK driven with SI low: the pin record follows them
abbrev pub at_levels : Wired → Bool → Bool → Wired
at_levels w ce sclk =
    wired (pin_record ce sclk false) (pins_part w.part (levels_of ce sclk false)).1

-- Closing: SCLK low with CE as the part has it, then CE low.
abbrev pub closing : Wired → Wired
closing w = at_levels (at_levels w w.part.ce false) false false

-- Opening: the same, then CE high.
abbrev pub opening : Wired → Wired
opening w = at_levels (closing w) true false

-- The header that begins a transfer: the address in the high four bits, the format in the low.
-- An address over 15 is refused, and then a part that awaits no header.
abbrev pub header_for : PartState → ℕ → ℕ → Result ℕ Refusal
header_for p address format =
    cond (nat_lt 15 address) (Err NoSuchCell) (cond (awaits_header p) (Ok (16 * address + format)) (Err NoHeaderAwaited))

-- a pin record with SCLK and SI at rest: of its levels only CE, which weighs 4, stays
abbrev pub rested : PinRecord → PinRecord
rested pins = recorded (bit_and pins.levels 4)

-- After a transfer, refused or not, the pin record has SCLK and SI low.
abbrev pub ended : Wired → Wired
ended w = wired (rested w.pins) w.part

abbrev pub read_after : Result ℕ Refusal → Wired → Result ℕ Refusal × Wired
read_after (Err why) w = (Err why, ended w)
read_after (Ok header) w = (Ok (byte_out (byte_in header w)).0, ended (byte_out (byte_in header w)).1)

-- A single read: a header in, then a byte out.
abbrev pub reading : ℕ → Wired → Result ℕ Refusal × Wired
reading address w = read_after (header_for w.part address (code_of SingleRead)) w

abbrev pub write_after : Result ℕ Refusal → ℕ → Wired → Accepted × Wired
write_after (Err why) byte w = (Err why, ended w)
write_after (Ok header) byte w = (accepted, ended (byte_in byte (byte_in header w)))

-- A single write: a header in, then a byte in.
abbrev pub writing : ℕ → ℕ → Wired → Accepted × Wired
writing address byte w = write_after (header_for w.part address (code_of SingleWrite)) byte w

abbrev pub burst_read_after : Result ℕ Refusal → List ℕ → Wired → ℕ × List ℕ × Wired
burst_read_after (Err why) buffer w = (0, buffer, ended w)
burst_read_after (Ok header) buffer w =
    (length buffer, (bytes_out (length buffer) (byte_in header w)).0, ended (bytes_out (length buffer) (byte_in header w)).1)

-- A burst read: a header in, then bytes out until the buffer is full. It answers how many were moved.
abbrev pub burst_reading : ℕ → List ℕ → Wired → ℕ × List ℕ × Wired
burst_reading address buffer w =
    burst_read_after (header_for w.part address (code_of BurstRead)) buffer w

abbrev pub burst_write_after : Result ℕ Refusal → List ℕ → Wired → ℕ × Wired
burst_write_after (Err why) bytes w = (0, ended w)
burst_write_after (Ok header) bytes w = (length bytes, ended (bytes_in bytes (byte_in header w)))

-- A burst write: a header in, then bytes in. It answers how many were moved.
abbrev pub burst_writing : ℕ → List ℕ → Wired → ℕ × Wired
burst_writing address bytes w =
    burst_write_after (header_for w.part address (code_of BurstWrite)) bytes w

-- The calls by name. They are shut, so that a host's proofs do not compute them.
unfoldable pub closed : Wired → Wired
closed w = closing w

unfoldable pub opened : Wired → Wired
opened w = opening w

unfoldable pub single_read : ℕ → Wired → Result ℕ Refusal × Wired
single_read address w = reading address w

unfoldable pub single_write : ℕ → ℕ → Wired → Accepted × Wired
single_write address byte w = writing address byte w

unfoldable pub burst_read : ℕ → List ℕ → Wired → ℕ × List ℕ × Wired
burst_read address buffer w = burst_reading address buffer w

unfoldable pub burst_write : ℕ → List ℕ → Wired → ℕ × Wired
burst_write address bytes w = burst_writing address bytes w
