-- Bytes one after another: what lands as they are shifted in, and what is given as they are shifted out of registers.
use Rattle.std.specs.Prelude.{ℕ, zero, suc, ◌+◌, ◌%◌, min, List, [], ◌∷◌, ◌++◌, length, take, drop, Some, None, Option, slice_index}
use Rattle.serial_transfer.specs.declared.phase.Landing.{Landing}
use Rattle.serial_transfer.specs.declared.phase.Phase.{Phase}
use Rattle.serial_transfer.specs.Rules.{due_in}
use Rattle.serial_transfer.specs.Bytes.{byte_in, byte_out}

-- a note of one byte before those that follow
abbrev pub noted : {X : Type 0} → X → List X × Phase → List X × Phase
noted x s = (x ∷ s.0, s.1)

-- Bytes shifted in: what has landed at each, and the phase then.
unfoldable pub bytes_in : List ℕ → Phase → List (Option Landing) × Phase
bytes_in [] phase = ([], phase)
bytes_in (byte ∷ bytes) phase = noted (byte_in byte phase).0 (bytes_in bytes (byte_in byte phase).1)

-- the front of a buffer filled, the rest as it was
abbrev pub filled : {X : Type 0} → ℕ → List X × Phase → List X → ℕ × List X × Phase
filled n s buffer = (n, s.0 ++ drop n buffer, s.1)

-- As many bytes as the buffer has room for: how many, the buffer and the phase then.
abbrev pub shift_bytes_in : List ℕ → Phase → List (Option Landing) → ℕ × List (Option Landing) × Phase
shift_bytes_in bytes phase landings =
    filled (min (length bytes) (length landings)) (bytes_in (take (min (length bytes) (length landings)) bytes) phase) landings

-- the byte of the register that is asked for
abbrev pub asked_out : List ℕ → Option ℕ → Phase → Option ℕ × Phase
asked_out registers None phase = (None, phase)
asked_out registers (Some address) phase = byte_out (slice_index registers address) phase

-- A byte shifted out of the register that is due, if one is.
abbrev pub register_out : List ℕ → Phase → Option ℕ × Phase
register_out registers phase = asked_out registers (due_in phase) phase

-- So many of them: what was given at each, and the phase then.
unfoldable pub registers_out : List ℕ → ℕ → Phase → List (Option ℕ) × Phase
registers_out registers zero phase = ([], phase)
registers_out registers (suc n) phase =
    noted (register_out registers phase).0 (registers_out registers n (register_out registers phase).1)

-- Bytes that land in turn from an address on, round sixteen.
unfoldable pub in_turn : ℕ → List ℕ → List (Option Landing)
in_turn address [] = []
in_turn address (byte ∷ bytes) = Some (record { address = address % 16; byte = byte }) ∷ in_turn (address + 1) bytes

-- The bytes of so many registers in turn from an address on, round sixteen.
unfoldable pub out_turn : List ℕ → ℕ → ℕ → List (Option ℕ)
out_turn registers address zero = []
out_turn registers address (suc n) = Some (slice_index registers (address % 16)) ∷ out_turn registers (address + 1) n
