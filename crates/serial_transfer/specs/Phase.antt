-- Where a transfer stands: two numbers that every transfer bounds, the bits of the byte under way
-- and the address, and whether one is under way.
use Rattle.std.specs.Prelude.{ℕ, Bool, true, false}
use Rattle.serial_transfer.specs.declared.phase.Phase.{Phase}
use Rattle.serial_transfer.specs.declared.phase.Phase.TheVariants.{Idle, Header, Write, Read, Deaf}

-- how many bits of the byte under way are through: fewer than eight
abbrev pub bits_through : Phase → ℕ
bits_through Idle = 0
bits_through (Header bits gathered) = bits
bits_through (Write address burst bits gathered) = bits
bits_through (Read address burst bits byte out) = bits
bits_through Deaf = 0

-- the register that the data is for: below sixteen
abbrev pub address_of : Phase → ℕ
address_of Idle = 0
address_of (Header bits gathered) = 0
address_of (Write address burst bits gathered) = address
address_of (Read address burst bits byte out) = address
address_of Deaf = 0

-- whether a transfer is under way: a header, data, or what a part is deaf to
abbrev pub under_way : Phase → Bool
under_way Idle = false
under_way (Header bits gathered) = true
under_way (Write address burst bits gathered) = true
under_way (Read address burst bits byte out) = true
under_way Deaf = true
