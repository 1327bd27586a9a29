-- Each call of a session as the levels that it drives, one after another.
use Rattle.std.specs.Prelude.{ℕ, zero, suc, Bool, true, false, List, [], ◌∷◌, ◌++◌, Ok, Err, Result}
use Rattle.refusals.specs.declared.Refusal.{Refusal}
use Rattle.serial_transfer.specs.declared.phase.Format.TheVariants.{SingleWrite, BurstWrite, SingleRead, BurstRead}
use Rattle.serial_transfer.specs.Rules.{code_of}
use Rattle.rx5c348a.specs.Part.{PartState}
use Rattle.rx5c348a.specs.Pins.{pins_part}
use Rattle.host_wires.specs.Record.{levels_of}
use Rattle.host_wires.specs.Shifting.{low_levels}
use Rattle.host_sessions.specs.Sessions.{header_for}

-- A part after levels one after another.
unfoldable pub all_driven : List ℕ → PartState → PartState
all_driven [] p = p
all_driven (l ∷ ls) p = all_driven ls (pins_part p l).1

-- One bit: a pulse of SCLK under a high CE, SI at the bit throughout.
abbrev pub bit_levels : Bool → List ℕ
bit_levels si = levels_of true true si ∷ levels_of true false si ∷ []

unfoldable pub bits_levels : List Bool → List ℕ
bits_levels [] = []
bits_levels (si ∷ bits) = bit_levels si ++ bits_levels bits

-- a byte on SI, highest bit first
abbrev pub byte_levels : ℕ → List ℕ
byte_levels byte = bits_levels (low_levels byte 8)

unfoldable pub bytes_levels : List ℕ → List ℕ
bytes_levels [] = []
bytes_levels (byte ∷ bytes) = byte_levels byte ++ bytes_levels bytes

-- so many bits of read data: SI is low
unfoldable pub clock_levels : ℕ → List ℕ
clock_levels zero = []
clock_levels (suc n) = bit_levels false ++ clock_levels n

-- so many bytes of read data
unfoldable pub read_levels : ℕ → List ℕ
read_levels zero = []
read_levels (suc n) = clock_levels 8 ++ read_levels n

-- the levels of a transfer: a header and then its data, or nothing where it is refused
abbrev pub transfer_levels : Result ℕ Refusal → List ℕ → List ℕ
transfer_levels (Err why) following = []
transfer_levels (Ok header) following = byte_levels header ++ following

abbrev pub levels_of_close : PartState → List ℕ
levels_of_close p = levels_of p.ce false false ∷ levels_of false false false ∷ []

abbrev pub levels_of_open : PartState → List ℕ
levels_of_open p = levels_of_close p ++ levels_of true false false ∷ []

abbrev pub levels_of_read : ℕ → PartState → List ℕ
levels_of_read address p =
    transfer_levels (header_for p address (code_of SingleRead)) (clock_levels 8)

abbrev pub levels_of_write : ℕ → ℕ → PartState → List ℕ
levels_of_write address byte p =
    transfer_levels (header_for p address (code_of SingleWrite)) (byte_levels byte)

abbrev pub levels_of_burst_read : ℕ → ℕ → PartState → List ℕ
levels_of_burst_read address count p =
    transfer_levels (header_for p address (code_of BurstRead)) (read_levels count)

abbrev pub levels_of_burst_write : ℕ → List ℕ → PartState → List ℕ
levels_of_burst_write address bytes p =
    transfer_levels (header_for p address (code_of BurstWrite)) (bytes_levels bytes)
