-- An example: a list that meets the law's premises, with a boundary crossed while held and the seconds read on both sides of it.
use Rattle.std.specs.Prelude.{◌≡◌, ℕ, zero, suc, ◌+◌, ◌%◌, false, List, [], ◌∷◌, ◌++◌, Some, Option, ◌==◌, slice_index}
use Rattle.register_map.specs.declared.hour_mode.HourMode.{HourMode}
use Rattle.register_map.specs.declared.shown.Shown.{Shown}
use Rattle.register_map.specs.Chart.{second_of, second_after}
use Rattle.byte_map.specs.Cells.{byte_chart}
use Rattle.serial_transfer.specs.Levels.{bit_at}
use Rattle.rx5c348a.specs.Part.{PartState, power_on, load_part}
use Rattle.timekeeping.specs.Law.{NewlyMade, Timekeeping, calendar}
use Rattle.timekeeping.specs.Logs.{Sight, Gave, Log, log_of, sights_of, Undisturbed, ShortStretches}
use Rattle.rx5c348a_runs.specs.declared.call.WireCall.{WireCall}
use Rattle.rx5c348a_runs.specs.declared.call.WireCall.TheVariants.{Pulses, Pins, Look}
use Rattle.rx5c348a_runs.specs.Calls.{part_machine}
use Rattle.rx5c348a_runs.specs.Start.{Loaded}

-- the lowest so many bits of a byte on SI, highest first, CE being high: SCLK rises and falls with each
unfoldable pub bits_clocked : ℕ → ℕ → List WireCall → List WireCall
bits_clocked byte zero later = later
bits_clocked byte (suc n) later = Pins (6 + bit_at byte n) ∷ Pins (4 + bit_at byte n) ∷ bits_clocked byte n later

abbrev pub byte_clocked : ℕ → List WireCall → List WireCall
byte_clocked byte later = bits_clocked byte 8 later

-- the seconds read, CE being high: the header of a single read of register 0 goes in, and eight clocks give it out
abbrev pub seconds_clocked : List WireCall → List WireCall
seconds_clocked later = byte_clocked 0x0C (byte_clocked 0 later)

-- the same in a stretch of its own: CE rises before it and falls behind it
abbrev pub seconds_read : List WireCall → List WireCall
seconds_read later = Pins 4 ∷ seconds_clocked (Pins 0 ∷ later)

-- The seconds are read in a stretch of their own, then twice in one stretch with 300 pulses between, then again in one of
-- their own, and a look is taken. Loaded in a plain second, the boundary is pulse 32,768: it falls between the two reads
-- of the one stretch, of which the first ends at pulse 32,700 and the second begins at pulse 33,000.
abbrev pub example_calls : List WireCall
example_calls =
    Pulses 32600 ∷ seconds_read
    (Pulses 100 ∷ Pins 4 ∷ seconds_clocked (Pulses 300 ∷ seconds_clocked (Pins 0 ∷ seconds_read (Look 16 ∷ []))))

-- the part of it before the second stretch
abbrev pub before_the_stretch : List WireCall
before_the_stretch = Pulses 32600 ∷ seconds_read (Pulses 100 ∷ [])

-- what a sight adds to the seconds that were given out
abbrev pub with_seconds : Sight → List (Option ℕ) → List (Option ℕ)
with_seconds (Gave bytes) before = bytes 0 ∷ before
with_seconds _ before = before

-- the seconds, each time that these sights gave cells out, the newest first
unfoldable pub seconds_given : List Sight → List (Option ℕ)
seconds_given [] = []
seconds_given (x ∷ sights) = with_seconds x (seconds_given sights)

-- the seconds of a moment and weekday, as their cell has them
abbrev pub seconds_cell : HourMode → Shown → Option ℕ
seconds_cell mode p = Some (slice_index (byte_chart.code mode p) 0)

-- The list keeps both premises.
pub record MeetsPremises (start : PartState) (new : NewlyMade byte_chart start.file.core) : Type 0 where
  pub undisturbed : Undisturbed part_machine new.map.mode (log_of part_machine start example_calls)
  pub short_stretches : ShortStretches part_machine new.map.mode (log_of part_machine start example_calls)
  -- so the law stands, at the start and after each call
  pub keeps_time : (later log : Log part_machine) → log_of part_machine start example_calls ≡ later ++ log → Timekeeping part_machine byte_chart start new log
  -- what is shown as the second stretch begins
  pub in_the_stretch : Shown
  pub begins_at : calendar part_machine byte_chart start (log_of part_machine start before_the_stretch) ≡ Some in_the_stretch
  -- cells were given out five times: the first read gave the seconds of the start, both reads of the second stretch those
  -- that it began with, and the last read and the look those of one second on
  pub five_times_given :
      seconds_given (sights_of part_machine new.map.mode (log_of part_machine start example_calls))
      ≡ seconds_cell new.map.mode (second_after byte_chart new.shown)
      ∷ seconds_cell new.map.mode (second_after byte_chart new.shown)
      ∷ seconds_cell new.map.mode in_the_stretch
      ∷ seconds_cell new.map.mode in_the_stretch
      ∷ seconds_cell new.map.mode new.shown
      ∷ []
  -- and at the end the boundary is on the calendar
  pub one_second_on : calendar part_machine byte_chart start (log_of part_machine start example_calls) ≡ Some (second_after byte_chart new.shown)

-- a part loaded with the last second of the first minute of the year 2000, which is plain, and trim 07h
abbrev pub example_part : PartState
example_part = (load_part power_on 3155760059 6 0x07 1).1

-- the second that begins at a load is plain
abbrev pub BeginsPlain : {start : PartState} → Loaded start → Type 0
BeginsPlain loaded = (second_of loaded.new.shown % 20 == 0) ≡ false

-- On every part that a load left.
pub record PremisesCanBeMet : Type 0 where
  pub met : (start : PartState) (loaded : Loaded start) → MeetsPremises start loaded.new
  -- loaded in a plain second, the calendar is still where it began when the second stretch begins; no pulse follows its 300,
  -- and at the end the calendar is one second on: the boundary was crossed between its two reads
  pub not_before : (start : PartState) (loaded : Loaded start) → BeginsPlain loaded → calendar part_machine byte_chart start (log_of part_machine start before_the_stretch) ≡ Some loaded.new.shown
  -- and there is such a part
  pub loaded : Loaded example_part
  pub plain : BeginsPlain loaded
