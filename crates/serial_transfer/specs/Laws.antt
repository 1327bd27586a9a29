-- The laws of headers, bytes and bursts: what the eight clocks of a byte come to, and bytes one after another.
use Rattle.std.specs.Prelude.{◌≡◌, ℕ, ◌+◌, ◌*◌, ◌%◌, ◌<◌, Bool, true, List, [], ◌∷◌, ◌++◌, map, take, drop, replicate, Some, None, Option}
use Rattle.serial_transfer.specs.declared.phase.SerialOut.{SerialOut}
use Rattle.serial_transfer.specs.declared.phase.Landing.{Landing}
use Rattle.serial_transfer.specs.declared.phase.Phase.{Phase}
use Rattle.serial_transfer.specs.declared.phase.Phase.TheVariants.{Idle, Write, Read, Deaf}
use Rattle.serial_transfer.specs.Levels.{bit_at, level_out}
use Rattle.serial_transfer.specs.Rules.{fresh_header, format_coded, data_at, after_write, after_read, due_in, risen, fallen}
use Rattle.serial_transfer.specs.Bytes.{bits_of, levels_out}
use Rattle.serial_transfer.specs.Bursts.{in_turn, out_turn}

-- A byte shifted in, from the phase before to what landed and the phase after.
pub record ComesIn (byte : ℕ) (before : Phase) (after : Option Landing × Phase) : Type 0 where
  -- where a header is awaited, its high four bits are the address and its low four the format of what follows
  pub header : (address format : ℕ) → format < 16 → byte ≡ 16 * address + format → before ≡ fresh_header → after ≡ (None, data_at address (format_coded format))
  -- where a written byte is awaited, it lands at the address; a burst goes on, and after a single one a header is awaited
  pub lands : (address : ℕ) (burst : Bool) → before ≡ Write address burst 0 0 → after ≡ (Some (record { address = address; byte = byte }), after_write address burst)
  -- the deaf hear nothing
  pub deaf : before ≡ Deaf → after ≡ (None, Deaf)

-- A byte shifted out, from the phase before to what was given and the phase after.
pub record GoesOut (due : ℕ) (before : Phase) (after : Option ℕ × Phase) : Type 0 where
  -- eight rises put the bits of the due byte on SO, highest first
  pub levels : (address : ℕ) (burst : Bool) (byte : ℕ) (out : SerialOut) → before ≡ Read address burst 0 byte out → (levels_out 8 due before).0 ≡ map level_out (bits_of due)
  -- they spell that byte; a burst goes on with SO as the last bit left it, and after a single one a header is awaited
  pub gives : (address : ℕ) (burst : Bool) (byte : ℕ) (out : SerialOut) → before ≡ Read address burst 0 byte out → after ≡ (Some due, after_read address burst (level_out (bit_at due 0)))

-- Bytes shifted in one after another, n of them, from the phase before to the buffer of what landed and the phase after.
pub record BurstIn (bytes : List ℕ) (n : ℕ) (before : Phase) (buffer landings : List (Option Landing)) (after : Phase) : Type 0 where
  -- in a burst write they land in turn, each at the address after the last one's, round sixteen
  pub lands : (address : ℕ) → before ≡ Write address true 0 0 → landings ≡ in_turn address (take n bytes) ++ drop n buffer
  pub goes_on : (address : ℕ) → before ≡ Write address true 0 0 → after ≡ Write ((address + n) % 16) true 0 0
  -- so from the rise of CE on: behind a header of an address and format 0 they land in turn from that address
  pub from_header : (address : ℕ) (rest : List ℕ) → take n bytes ≡ 16 * address ∷ rest → before ≡ fresh_header → landings ≡ (None ∷ in_turn address rest) ++ drop n buffer
  -- deaf, none lands, and deaf it stays
  pub unheard : before ≡ Deaf → landings ≡ replicate n None ++ drop n buffer
  pub stays_deaf : before ≡ Deaf → after ≡ Deaf

-- Bytes shifted out one after another, n of them, from the phase before to what was given and the phase after.
pub record BurstOut (registers : List ℕ) (n : ℕ) (before : Phase) (given : List (Option ℕ)) (after : Phase) : Type 0 where
  -- a burst read gives the registers in turn, each after the last one, round sixteen
  pub gives : (address byte : ℕ) (out : SerialOut) → before ≡ Read address true 0 byte out → given ≡ out_turn registers address n
  pub asks_next : (address byte : ℕ) (out : SerialOut) → before ≡ Read address true 0 byte out → due_in after ≡ Some ((address + n) % 16)

-- An edge of SCLK: a rise with the byte that is due, or a fall with the level on SI.
pub data Edge : Type 0 where
  rise : ℕ → Edge
  fall : ℕ → Edge

-- the phase after an edge
abbrev pub after_edge : Phase → Edge → Phase
after_edge phase (rise due) = risen phase due
after_edge phase (fall si) = (fallen phase si).1

-- the phase after edges of SCLK, CE staying as it is
unfoldable pub after_edges : Phase → List Edge → Phase
after_edges phase [] = phase
after_edges phase (edge ∷ edges) = after_edges (after_edge phase edge) edges

-- Nothing that SCLK and SI do ends deafness, and with CE low nothing that they do begins a transfer.
pub record OnlyCeWakes : Type 0 where
  pub deaf : (edges : List Edge) → after_edges Deaf edges ≡ Deaf
  pub idle : (edges : List Edge) → after_edges Idle edges ≡ Idle
