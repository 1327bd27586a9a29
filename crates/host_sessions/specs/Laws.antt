-- What a host can rely on: what is written arrives, what is read is what stands there, and a refused transfer does nothing.
use Rattle.std.specs.Prelude.{◌≡◌, ℕ, ◌+◌, ◌%◌, ◌<◌, ◌≤◌, true, false, List, length, Ok, Err, Result}
use Rattle.refusals.specs.declared.Refusal.{Refusal}
use Rattle.refusals.specs.declared.Refusal.TheVariants.{NoSuchCell, NoHeaderAwaited}
use Rattle.clock_core.specs.Core.{Accepted}
use Rattle.serial_transfer.specs.declared.phase.Phase.TheVariants.{Idle, Write}
use Rattle.serial_transfer.specs.Rules.{fresh_header}
use Rattle.rx5c_registers.specs.File.{FileState, written}
use Rattle.rx5c_registers.specs.Standing.{StandsIn}
use Rattle.rx5c_registers.specs.Clock.{held, released}
use Rattle.rx5c348a.specs.Part.{PartState, at_rest}
use Rattle.rx5c348a.specs.Pins.{awaits_header, sclk_fallen}
use Rattle.host_wires.specs.Laws.{ready_in, byte_at, written_in_turn, registers_in_turn}
use Rattle.host_sessions.specs.Sessions.{accepted}

-- a selected part between transfers: CE is high, SCLK low, and no bit of a header is in
abbrev pub awaiting : FileState → PartState
awaiting f = ready_in f fresh_header

-- a part that no host has selected: CE is low and no transfer is under way
pub record Unselected (p : PartState) : Type 0 where
  pub low : p.ce ≡ false
  pub idle : p.phase ≡ Idle

-- Opening a session.
pub record Opens (before after : PartState) : Type 0 where
  -- whatever the part was doing, it awaits a header
  pub awaits : after ≡ awaiting after.file
  -- a part that no host has selected is held, and nothing else
  pub holds : Unselected before → after.file ≡ held before.file
  -- one that is selected is let go first
  pub lets_go : before.ce ≡ true → before.sclk ≡ false → after.file ≡ held (released before.file)
  -- and where SCLK was high, it falls before that, which can land a byte
  pub falls : before.ce ≡ true → before.sclk ≡ true → after.file ≡ held (released (sclk_fallen before 0).file)

-- Closing a session.
pub record Closes (before after : PartState) : Type 0 where
  -- the part is let go, and its pins are low
  pub lets_go : before.ce ≡ true → before.sclk ≡ false → after ≡ at_rest (released before.file)
  -- where SCLK was high, it falls before that, which can land a byte
  pub falls : before.ce ≡ true → before.sclk ≡ true → after ≡ at_rest (released (sclk_fallen before 0).file)
  -- a part that was let go already only has its clock lowered
  pub rests : Unselected before → after ≡ at_rest before.file

-- A single read.
pub record ReadIsWhatStands (address : ℕ) (before : PartState) (answer : Result ℕ Refusal) (after : PartState) : Type 0 where
  -- where a header is awaited, it answers the register, and leaves the part as it was
  pub stood : (f : FileState) → address ≤ 15 → before ≡ awaiting f → (answer ≡ Ok (byte_at f address)) × (after ≡ before)
  -- there are sixteen registers
  pub no_register : 15 < address → (answer ≡ Err NoSuchCell) × (after ≡ before)
  pub no_header : address ≤ 15 → awaits_header before ≡ false → (answer ≡ Err NoHeaderAwaited) × (after ≡ before)

-- A single write.
pub record WrittenArrives (address byte : ℕ) (before : PartState) (answer : Accepted) (after : PartState) : Type 0 where
  -- where a header is awaited, the byte is written by its register's rule, and a header is awaited again
  pub lands : (f : FileState) → address ≤ 15 → before ≡ awaiting f → (answer ≡ accepted) × (after ≡ awaiting (written f address byte))
  -- so it stands there, its unused bits cleared
  pub stands : (f : FileState) → address ≤ 15 → before ≡ awaiting f → StandsIn f address byte after.file
  pub no_register : 15 < address → (answer ≡ Err NoSuchCell) × (after ≡ before)
  pub no_header : address ≤ 15 → awaits_header before ≡ false → (answer ≡ Err NoHeaderAwaited) × (after ≡ before)

-- A burst read: `moved` bytes of the buffer are registers in turn.
pub record BurstIsWhatStands (address : ℕ) (buffer : List ℕ) (before : PartState) (moved : ℕ) (filled : List ℕ) (after : PartState) : Type 0 where
  -- where a header is awaited, the whole buffer is the registers from the address on, round sixteen, and none has changed
  pub stood : (f : FileState) → address ≤ 15 → before ≡ awaiting f → (moved ≡ length buffer) × (filled ≡ registers_in_turn f address moved) × (after.file ≡ f)
  -- refused, it moves nothing and leaves the buffer
  pub no_register : 15 < address → (moved ≡ 0) × (filled ≡ buffer) × (after ≡ before)
  pub no_header : awaits_header before ≡ false → (moved ≡ 0) × (filled ≡ buffer) × (after ≡ before)

-- A burst write: `moved` bytes have landed in turn.
pub record BurstArrives (address : ℕ) (bytes : List ℕ) (before : PartState) (moved : ℕ) (after : PartState) : Type 0 where
  -- where a header is awaited, all bytes are written from the address on, round sixteen, each by its register's rule
  pub lands : (f : FileState) → address ≤ 15 → before ≡ awaiting f → (moved ≡ length bytes) × (after ≡ ready_in (written_in_turn f address bytes) (Write ((address + moved) % 16) true 0 0))
  pub no_register : 15 < address → (moved ≡ 0) × (after ≡ before)
  pub no_header : awaits_header before ≡ false → (moved ≡ 0) × (after ≡ before)
