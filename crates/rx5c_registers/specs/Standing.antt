-- A written byte stands in its register.
use Rattle.std.specs.Prelude.{◌≡◌, ℕ, ◌<◌, bit_and, bit_or, slice_set}
use Rattle.rx5c_registers.specs.File.{FileState, alarm, bit_if, registers, masked, has, rows_enabled, flag_byte}

-- the bits of Fh that can read 1 after a write: the stored ones, and XSTP, WAFG and DAFG where they stand
abbrev pub standing : FileState → ℕ
standing f =
    bit_or 0xAC (bit_or (bit_if f.stopped 0x10) (bit_or (bit_if (alarm f 0).flag 0x02) (bit_if (alarm f 1).flag 0x01)))

-- What the sixteen registers read after a byte is written to one of them, its unused bits cleared.
pub record StandsIn (before : FileState) (address byte : ℕ) (after : FileState) : Type 0 where
  -- in registers 0 to Dh the byte stands; the others are as they were
  pub replaced : address < 14 → registers after ≡ slice_set (registers before) address (masked address byte)
  -- in Eh too; Fh loses the flag of a row that it disables
  pub control : address ≡ 14 → registers after ≡ slice_set (slice_set (registers before) 14 (masked 14 byte)) 15 (flag_byte (rows_enabled before (has (masked 14 byte) 0x80) (has (masked 14 byte) 0x40)))
  -- in Fh, but that XSTP, WAFG and DAFG can only be cleared
  pub flags : address ≡ 15 → registers after ≡ slice_set (registers before) 15 (bit_and (masked 15 byte) (standing before))
