-- Where a transfer stands, as it is saved and read back.
use Rattle.std.specs.Prelude.{ℕ, Bool, cond, ◌&&◌, ◌||◌, Some, None, Option, ◌==◌, nat_lt}
use Rattle.serial_transfer.specs.declared.phase.SerialOut.{SerialOut}
use Rattle.serial_transfer.specs.declared.phase.SerialOut.TheVariants.{Low, High, Off}
use Rattle.serial_transfer.specs.declared.phase.Phase.{Phase}
use Rattle.serial_transfer.specs.declared.phase.Phase.TheVariants.{Idle, Header, Write, Read, Deaf}
use Rattle.serial_transfer.specs.Levels.{out_number}
use Rattle.saved_parts.specs.declared.transfer.SavedTransfer.{SavedTransfer}
use Rattle.saved_parts.specs.Flags.{flag_number, flag_numbered}

abbrev pub out_numbered : ℕ → Option SerialOut
out_numbered number = cond (number == 0) (Some Low) (cond (number == 1) (Some High) (cond (number == 2) (Some Off) None))

abbrev pub saved_as : ℕ → ℕ → ℕ → ℕ → ℕ → ℕ → SavedTransfer
saved_as phase address burst bits byte out =
    record { phase = phase; address = address; burst = burst; bits = bits; byte = byte; out = out }

-- the phase by its number; what it does not have is 0
abbrev pub transfer_saved : Phase → SavedTransfer
transfer_saved Idle = saved_as 0 0 0 0 0 0
transfer_saved (Header bits gathered) = saved_as 1 0 0 bits gathered 0
transfer_saved (Write address burst bits gathered) = saved_as 2 address (flag_number burst) bits gathered 0
transfer_saved (Read address burst bits byte out) = saved_as 3 address (flag_number burst) bits byte (out_number out)
transfer_saved Deaf = saved_as 4 0 0 0 0 0

abbrev pub blank : SavedTransfer → Bool
blank r = r.address == 0 && (r.burst == 0 && (r.bits == 0 && (r.byte == 0 && r.out == 0)))

abbrev pub header_read : SavedTransfer → Option Phase
header_read r = cond (r.address == 0 && (r.burst == 0 && r.out == 0)) (Some (Header r.bits r.byte)) None

abbrev pub write_read : SavedTransfer → Option Bool → Option Phase
write_read r None = None
write_read r (Some burst) = cond (r.out == 0) (Some (Write r.address burst r.bits r.byte)) None

abbrev pub read_read : SavedTransfer → Option Bool → Option SerialOut → Option Phase
read_read r None out = None
read_read r (Some burst) None = None
read_read r (Some burst) (Some out) = Some (Read r.address burst r.bits r.byte out)

abbrev pub phase_read : SavedTransfer → Option Phase
phase_read r =
    cond (r.phase == 0) (cond (blank r) (Some Idle) None)
    (cond (r.phase == 1) (header_read r)
    (cond (r.phase == 2) (write_read r (flag_numbered r.burst))
    (cond (r.phase == 3) (read_read r (flag_numbered r.burst) (out_numbered r.out))
    (cond (r.phase == 4) (cond (blank r) (Some Deaf) None) None))))

-- a phase that a transfer may stand in
abbrev pub transfer_restored : SavedTransfer → Option Phase
transfer_restored r = cond (nat_lt 15 r.address || nat_lt 7 r.bits) None (phase_read r)
