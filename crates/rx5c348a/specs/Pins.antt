-- The four wires: which move new levels are, what each move does, and what levels answer and leave.
use Rattle.std.specs.Prelude.{◌≡◌, ℕ, ◌<◌, ◌≤◌, Bool, true, false, cond, not, ◌&&◌, Some, None, Ok, Err, Option, Result, bit_and, nat_lt, slice_index}
use Rattle.refusals.specs.declared.Refusal.{Refusal}
use Rattle.refusals.specs.declared.Refusal.TheVariants.{NoSuchLevels, TwoPinsChange}
use Rattle.serial_transfer.specs.declared.phase.Phase.TheVariants.{Idle}
use Rattle.serial_transfer.specs.declared.phase.Landing.{Landing}
use Rattle.serial_transfer.specs.Rules.{fresh_header, awaits, due_in, out_in, risen, fallen}
use Rattle.rx5c_registers.specs.File.{FileState, registers, written, interrupts, has}
use Rattle.rx5c_registers.specs.Clock.{held, released}
use Rattle.rx5c348a.specs.declared.pins.Level.{Level}
use Rattle.rx5c348a.specs.declared.pins.Level.TheVariants.{Low, High}
use Rattle.rx5c348a.specs.declared.pins.PinAnswer.{PinAnswer}
use Rattle.rx5c348a.specs.declared.pins.PinMove.{PinMove}
use Rattle.rx5c348a.specs.declared.pins.PinMove.TheVariants.{Still, CeRises, CeFalls, SclkRises, SclkFalls}
use Rattle.rx5c348a.specs.Part.{PartState}

-- a level as a number
abbrev pub level_number : Level → ℕ
level_number Low = 0
level_number High = 1

-- SO as the transfer has it; /INTR is low while an alarm's flag is up.
abbrev pub answer_in : PartState → PinAnswer
answer_in p = record { so = out_in p.phase; intr = cond (interrupts p.file) Low High }

-- Selected, SCLK down, and the next bit would be the first of a header.
abbrev pub awaits_header : PartState → Bool
awaits_header p = (p.ce && awaits p.phase) && not p.sclk

-- CE rises: the core is held, and a header follows.
abbrev pub ce_risen : PartState → PartState
ce_risen p = record { file = held p.file; ce = true; sclk = p.sclk; phase = fresh_header }

-- CE falls: the core is released, an unfinished byte is dropped, and SO goes off.
abbrev pub ce_fallen : PartState → PartState
ce_fallen p = record { file = released p.file; ce = false; sclk = p.sclk; phase = Idle }

-- the byte of the register that is due, where one is
abbrev pub due_byte : FileState → Option ℕ → ℕ
due_byte f None = 0
due_byte f (Some address) = slice_index (registers f) address

-- SCLK rises: in read data one more bit goes on SO.
abbrev pub sclk_risen : PartState → PartState
sclk_risen p = record { file = p.file; ce = p.ce; sclk = true; phase = risen p.phase (due_byte p.file (due_in p.phase)) }

-- the registers once a byte has landed, where one has
abbrev pub with_landing : FileState → Option Landing → FileState
with_landing f None = f
with_landing f (Some l) = written f l.address l.byte

-- SCLK falls: a bit is taken from SI.
abbrev pub sclk_fallen : PartState → ℕ → PartState
sclk_fallen p si =
    record { file = with_landing p.file (fallen p.phase si).0; ce = p.ce; sclk = false; phase = (fallen p.phase si).1 }

-- whether two levels differ
abbrev pub differ : Bool → Bool → Bool
differ true b = not b
differ false b = b

-- CE or SCLK as it goes to a level
abbrev pub ce_to : Bool → PinMove
ce_to true = CeRises
ce_to false = CeFalls

abbrev pub sclk_to : Bool → ℕ → PinMove
sclk_to true si = SclkRises
sclk_to false si = SclkFalls si

-- What new levels do, or why they are refused.
abbrev pub Move : Type 0
Move = Result PinMove Refusal

-- the move from CE and SCLK as they stand to their new levels, with a bit on SI
abbrev pub move_between : Bool → Bool → Bool → Bool → ℕ → Move
move_between ce sclk new_ce new_sclk si =
    cond (differ new_ce ce)
    (cond (differ new_sclk sclk) (Err TwoPinsChange) (Ok (ce_to new_ce)))
    (cond (differ new_sclk sclk) (Ok (sclk_to new_sclk si)) (Ok Still))

-- The levels in one number, with CE and SCLK as they stand: CE weighs 4, SCLK 2 and SI 1.
abbrev pub move_of : Bool → Bool → ℕ → Move
move_of ce sclk levels =
    cond (nat_lt 7 levels) (Err NoSuchLevels)
    (move_between ce sclk (has levels 4) (has levels 2) (bit_and levels 1))

-- Levels that are known, with CE and SCLK as the number gives them.
pub record Gives (levels : ℕ) (ce sclk : Bool) : Type 0 where
  pub known : levels ≤ 7
  pub ce_is : has levels 4 ≡ ce
  pub sclk_is : has levels 2 ≡ sclk

-- What each move says of the levels, over CE and SCLK as they stood.
abbrev pub Tells : Bool → Bool → ℕ → Move → Type 0
Tells ce sclk levels (Ok Still) = Gives levels ce sclk
Tells ce sclk levels (Ok CeRises) = (ce ≡ false) × Gives levels true sclk
Tells ce sclk levels (Ok CeFalls) = (ce ≡ true) × Gives levels false sclk
Tells ce sclk levels (Ok SclkRises) = (sclk ≡ false) × Gives levels ce true
Tells ce sclk levels (Ok (SclkFalls si)) =
    (sclk ≡ true) × Gives levels ce false × (si ≡ bit_and levels 1)
Tells ce sclk levels (Err TwoPinsChange) = Gives levels (not ce) (not sclk)
Tells ce sclk levels (Err NoSuchLevels) = 7 < levels
Tells ce sclk levels (Err _) = ⊥

-- What a move does to a part.
abbrev pub after_move : PartState → PinMove → PartState
after_move p Still = p
after_move p CeRises = ce_risen p
after_move p CeFalls = ce_fallen p
after_move p SclkRises = sclk_risen p
after_move p (SclkFalls si) = sclk_fallen p si

-- What a part answers to a move, and the part after it. A refused one leaves it as it was.
abbrev pub move_outcome : PartState → Move → Result PinAnswer Refusal × PartState
move_outcome p (Err why) = (Err why, p)
move_outcome p (Ok pin_move) = (Ok (answer_in (after_move p pin_move)), after_move p pin_move)

-- What levels answer and leave, shut, as the contract names it.
unfoldable pub pins_part : PartState → ℕ → Result PinAnswer Refusal × PartState
pins_part p levels = move_outcome p (move_of p.ce p.sclk levels)
