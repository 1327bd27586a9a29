-- The rules of a transfer: what a header asks for, and what each edge of SCLK does.
use Rattle.std.specs.Prelude.{ℕ, ◌+◌, ◌-◌, ◌/◌, ◌%◌, Bool, true, false, cond, Some, None, Option, ◌==◌}
use Rattle.serial_transfer.specs.declared.phase.SerialOut.{SerialOut}
use Rattle.serial_transfer.specs.declared.phase.SerialOut.TheVariants.{Off}
use Rattle.serial_transfer.specs.declared.phase.Format.{Format}
use Rattle.serial_transfer.specs.declared.phase.Format.TheVariants.{SingleWrite, BurstWrite, SingleRead, BurstRead}
use Rattle.serial_transfer.specs.declared.phase.Landing.{Landing}
use Rattle.serial_transfer.specs.declared.phase.Phase.{Phase}
use Rattle.serial_transfer.specs.declared.phase.Phase.TheVariants.{Idle, Header, Write, Read, Deaf}
use Rattle.serial_transfer.specs.Levels.{taken, bit_at, level_out}

-- a header of which no bit is in yet
abbrev pub fresh_header : Phase
fresh_header = Header 0 0

-- The code of a format, as a header has it in its low four bits.
abbrev pub code_of : Format → ℕ
code_of SingleWrite = 8
code_of BurstWrite = 0
code_of SingleRead = 12
code_of BurstRead = 4

-- the format of a code; no other code is one
abbrev pub format_coded : ℕ → Option Format
format_coded code =
    cond (code == code_of SingleWrite) (Some SingleWrite)
    (cond (code == code_of BurstWrite) (Some BurstWrite)
    (cond (code == code_of SingleRead) (Some SingleRead)
    (cond (code == code_of BurstRead) (Some BurstRead) None)))

-- The data that a format begins at an address; without a known format the part is deaf.
abbrev pub data_at : ℕ → Option Format → Phase
data_at address (Some SingleWrite) = Write address false 0 0
data_at address (Some BurstWrite) = Write address true 0 0
data_at address (Some SingleRead) = Read address false 0 0 Off
data_at address (Some BurstRead) = Read address true 0 0 Off
data_at address None = Deaf

-- A whole header: the high four bits are the address, the low four the format.
abbrev pub headed : ℕ → Phase
headed header = data_at (header / 16) (format_coded (header % 16))

-- the address after this one, 0 after 15
abbrev pub next_address : ℕ → ℕ
next_address address = (address + 1) % 16

-- A whole byte is written: a burst goes on at the next address, otherwise a header follows.
abbrev pub after_write : ℕ → Bool → Phase
after_write address true = Write (next_address address) true 0 0
after_write address false = fresh_header

-- A whole byte is read: a burst goes on at the next address and SO keeps its bit, otherwise SO goes off and a header follows.
abbrev pub after_read : ℕ → Bool → SerialOut → Phase
after_read address true out = Read (next_address address) true 0 0 out
after_read address false out = fresh_header

-- What stands on SO: it is driven in read data only.
abbrev pub out_in : Phase → SerialOut
out_in Idle = Off
out_in (Header bits gathered) = Off
out_in (Write address burst bits gathered) = Off
out_in (Read address burst bits byte out) = out
out_in Deaf = Off

-- No bit of a header is in yet.
abbrev pub awaits : Phase → Bool
awaits Idle = false
awaits (Header bits gathered) = bits == 0
awaits (Write address burst bits gathered) = false
awaits (Read address burst bits byte out) = false
awaits Deaf = false

-- The address of the byte that the next rise fixes, if it fixes one.
abbrev pub due_in : Phase → Option ℕ
due_in Idle = None
due_in (Header bits gathered) = None
due_in (Write address burst bits gathered) = None
due_in (Read address burst bits byte out) = cond (bits == 0) (Some address) None
due_in Deaf = None

-- the byte that goes out: the one that is due now, or the one that was fixed at the first rise
abbrev pub fixed : ℕ → ℕ → ℕ → ℕ
fixed bits byte due = cond (bits == 0) due byte

-- SCLK rises. In read data the next bit of the byte goes on SO; elsewhere a rise does nothing.
abbrev pub risen : Phase → ℕ → Phase
risen Idle due = Idle
risen (Header bits gathered) due = Header bits gathered
risen (Write address burst bits gathered) due = Write address burst bits gathered
risen (Read address burst bits byte out) due =
    Read address burst bits (fixed bits byte due) (level_out (bit_at (fixed bits byte due) (7 - bits)))
risen Deaf due = Deaf

-- the phase once one more bit of a header is in: the eighth makes it whole
abbrev pub header_taken : ℕ → ℕ → Phase
header_taken bits gathered = cond (bits == 7) (headed gathered) (Header (bits + 1) gathered)

-- once one more bit of a written byte is in: the eighth lands it
abbrev pub write_taken : ℕ → Bool → ℕ → ℕ → Option Landing × Phase
write_taken address burst bits gathered =
    cond (bits == 7) (Some (record { address = address; byte = gathered }), after_write address burst)
    (None, Write address burst (bits + 1) gathered)

-- once one more bit of a read byte is given out
abbrev pub read_given : ℕ → Bool → ℕ → ℕ → SerialOut → Phase
read_given address burst bits byte out =
    cond (bits == 7) (after_read address burst out) (Read address burst (bits + 1) byte out)

-- SCLK falls: what has landed, if a byte has, and the phase then. SI is taken in a header and in written data.
abbrev pub fallen : Phase → ℕ → Option Landing × Phase
fallen Idle si = (None, Idle)
fallen (Header bits gathered) si = (None, header_taken bits (taken gathered si))
fallen (Write address burst bits gathered) si = write_taken address burst bits (taken gathered si)
fallen (Read address burst bits byte out) si = (None, read_given address burst bits byte out)
fallen Deaf si = (None, Deaf)
