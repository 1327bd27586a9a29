-- Bits and levels: how a byte comes in and goes out bit by bit, and what stands on SO.
use Rattle.std.specs.Prelude.{ℕ, ◌+◌, ◌*◌, ◌/◌, ◌%◌, ◌^◌, cond, ◌==◌}
use Rattle.serial_transfer.specs.declared.phase.SerialOut.{SerialOut}
use Rattle.serial_transfer.specs.declared.phase.SerialOut.TheVariants.{Low, High, Off}

-- one bit more behind those that are in: the others move up, and a ninth pushes the first out
abbrev pub taken : ℕ → ℕ → ℕ
taken gathered level = (2 * gathered + level % 2) % 256

-- a bit of a byte: 7 is the highest, 0 the lowest
abbrev pub bit_at : ℕ → ℕ → ℕ
bit_at byte place = byte / 2 ^ place % 2

-- SO as a number: its level, or 2 where it is off
abbrev pub out_number : SerialOut → ℕ
out_number Low = 0
out_number High = 1
out_number Off = 2

-- a bit put on SO
abbrev pub level_out : ℕ → SerialOut
level_out bit = cond (bit == 0) Low High
