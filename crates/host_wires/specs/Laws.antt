-- What is shifted in arrives, and what is shifted out is what stands there.
use Rattle.std.specs.Prelude.{◌≡◌, ℕ, zero, suc, ◌+◌, ◌*◌, ◌%◌, ◌<◌, Bool, true, false, List, [], ◌∷◌, map, length, slice_index}
use Rattle.serial_transfer.specs.declared.phase.SerialOut.{SerialOut}
use Rattle.serial_transfer.specs.declared.phase.Phase.{Phase}
use Rattle.serial_transfer.specs.declared.phase.Phase.TheVariants.{Write, Read, Deaf}
use Rattle.serial_transfer.specs.Levels.{bit_at, level_out}
use Rattle.serial_transfer.specs.Rules.{fresh_header, format_coded, data_at, after_write, after_read}
use Rattle.serial_transfer.specs.Bytes.{bits_of}
use Rattle.rx5c_registers.specs.File.{FileState, registers, written}
use Rattle.rx5c_registers.specs.Standing.{StandsIn}
use Rattle.rx5c348a.specs.Part.{PartState}
use Rattle.host_wires.specs.Record.{Wired}
use Rattle.host_wires.specs.Shifting.{levels_out}

-- A part whose next byte can begin: CE is high and SCLK low.
pub record Ready (p : PartState) : Type 0 where
  pub selected : p.ce ≡ true
  pub low : p.sclk ≡ false

-- a part ready in a phase, with these registers
abbrev pub ready_in : FileState → Phase → PartState
ready_in f phase = record { file = f; ce = true; sclk = false; phase = phase }

-- A byte shifted into a part.
pub record Arrives (byte : ℕ) (before after : PartState) : Type 0 where
  -- where a header is awaited, its high four bits are the address and its low four the format of what follows
  pub header : (address format : ℕ) → format < 16 → byte ≡ 16 * address + format → Ready before → before.phase ≡ fresh_header → after ≡ ready_in before.file (data_at address (format_coded format))
  -- after a write header it is written to the register, by that register's rule
  pub lands : (address : ℕ) (burst : Bool) → Ready before → before.phase ≡ Write address burst 0 0 → after ≡ ready_in (written before.file address byte) (after_write address burst)
  -- so it stands there, its unused bits cleared
  pub stands : (address : ℕ) (burst : Bool) → Ready before → before.phase ≡ Write address burst 0 0 → StandsIn before.file address byte after.file
  -- the deaf hear nothing
  pub deaf : Ready before → before.phase ≡ Deaf → after ≡ ready_in before.file Deaf

-- the byte of a register: registers are bytes, and the remainder says so
abbrev pub byte_at : FileState → ℕ → ℕ
byte_at f address = slice_index (registers f) address % 256

-- A byte shifted out of a part.
pub record StandsThere (before : Wired) (byte : ℕ) (after : PartState) : Type 0 where
  -- after a read header eight rises put the bits of the register on SO, highest first
  pub levels : (address : ℕ) (burst : Bool) (old : ℕ) (out : SerialOut) → Ready before.part → before.part.phase ≡ Read address burst 0 old out → (levels_out 8 before).0 ≡ map level_out (bits_of (slice_index (registers before.part.file) address))
  -- they spell the byte that stood there
  pub stood : (address : ℕ) (burst : Bool) (old : ℕ) (out : SerialOut) → Ready before.part → before.part.phase ≡ Read address burst 0 old out → byte ≡ byte_at before.part.file address
  -- and nothing else has changed
  pub goes_on : (address : ℕ) (burst : Bool) (old : ℕ) (out : SerialOut) → Ready before.part → before.part.phase ≡ Read address burst 0 old out → after ≡ ready_in before.part.file (after_read address burst (level_out (bit_at byte 0)))

-- Bytes written in turn from an address on, round sixteen.
unfoldable pub written_in_turn : FileState → ℕ → List ℕ → FileState
written_in_turn f address [] = f
written_in_turn f address (byte ∷ bytes) = written_in_turn (written f (address % 16) byte) (address + 1) bytes

-- The bytes of so many registers in turn from an address on, round sixteen.
unfoldable pub registers_in_turn : FileState → ℕ → ℕ → List ℕ
registers_in_turn f address zero = []
registers_in_turn f address (suc n) = byte_at f (address % 16) ∷ registers_in_turn f (address + 1) n

-- Bytes shifted into a part after a burst write header.
abbrev pub AllArrive : List ℕ → PartState → PartState → Type 0
AllArrive bytes before after =
    (address : ℕ) → Ready before → before.phase ≡ Write address true 0 0 → after ≡ ready_in (written_in_turn before.file address bytes) (Write ((address + length bytes) % 16) true 0 0)

-- Bytes shifted out of a part after a burst read header.
pub record AllStandThere (n : ℕ) (before : PartState) (bytes : List ℕ) (after : PartState) : Type 0 where
  pub stood : (address old : ℕ) (out : SerialOut) → Ready before → before.phase ≡ Read address true 0 old out → bytes ≡ registers_in_turn before.file address n
  pub unchanged : (address old : ℕ) (out : SerialOut) → Ready before → before.phase ≡ Read address true 0 old out → after.file ≡ before.file
