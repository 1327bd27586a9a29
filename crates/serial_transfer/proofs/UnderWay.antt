-- Edges of SCLK neither begin a transfer nor end one.
use Rattle.std.proofs.Common.{◌≡◌, ℕ, ◌+◌, ◌%◌, ◌/◌, Bool, true, false, cond, eqb, Some, None, Option, refl}
use Rattle.serial_transfer.specs.declared.phase.SerialOut.{SerialOut}
use Rattle.serial_transfer.specs.declared.phase.Format.{Format}
use Rattle.serial_transfer.specs.declared.phase.Format.TheVariants.{SingleWrite, BurstWrite, SingleRead, BurstRead}
use Rattle.serial_transfer.specs.declared.phase.Landing.{Landing}
use Rattle.serial_transfer.specs.declared.phase.Phase.{Phase}
use Rattle.serial_transfer.specs.declared.phase.Phase.TheVariants.{Idle, Header, Write, Read, Deaf}
use Rattle.serial_transfer.specs.Levels.{taken}
use Rattle.serial_transfer.specs.Phase.{under_way}
use Rattle.serial_transfer.specs.Rules.{format_coded, data_at, headed, after_write, after_read, risen, fallen}

pub risen_under_way : (ph : Phase) (due : ℕ) → under_way (risen ph due) ≡ under_way ph
risen_under_way Idle due = refl
risen_under_way (Header bits gathered) due = refl
risen_under_way (Write address burst bits gathered) due = refl
risen_under_way (Read address burst bits byte out) due = refl
risen_under_way Deaf due = refl

data_under_way : (address : ℕ) (format : Option Format) → under_way (data_at address format) ≡ true
data_under_way address (Some SingleWrite) = refl
data_under_way address (Some BurstWrite) = refl
data_under_way address (Some SingleRead) = refl
data_under_way address (Some BurstRead) = refl
data_under_way address None = refl

header_by : (bits gathered : ℕ) (last : Bool) → under_way (cond last (headed gathered) (Header (bits + 1) gathered)) ≡ true
header_by bits gathered true = data_under_way (gathered / 16) (format_coded (gathered % 16))
header_by bits gathered false = refl

write_by : (address bits byte : ℕ) (burst last : Bool) → under_way (cond {A = Option Landing × Phase} last (Some (record { address = address; byte = byte }), after_write address burst) (None, Write address burst (bits + 1) byte)).1 ≡ true
write_by address bits byte true true = refl
write_by address bits byte false true = refl
write_by address bits byte burst false = refl

read_by : (address bits byte : ℕ) (out : SerialOut) (burst last : Bool) → under_way (cond last (after_read address burst out) (Read address burst (bits + 1) byte out)) ≡ true
read_by address bits byte out true true = refl
read_by address bits byte out false true = refl
read_by address bits byte out burst false = refl

pub fallen_under_way : (ph : Phase) (si : ℕ) → under_way (fallen ph si).1 ≡ under_way ph
fallen_under_way Idle si = refl
fallen_under_way (Header bits gathered) si = header_by bits (taken gathered si) (eqb bits 7)
fallen_under_way (Write address burst bits gathered) si = write_by address bits (taken gathered si) burst (eqb bits 7)
fallen_under_way (Read address burst bits byte out) si = read_by address bits byte out burst (eqb bits 7)
fallen_under_way Deaf si = refl
