-- The refusal table: each case of a refusal and its number.
use Rattle.std.specs.Prelude.{ℕ}
use Rattle.refusals.specs.declared.Refusal.{Refusal}
use Rattle.refusals.specs.declared.Refusal.TheVariants.{NoSuchMoment, NoSuchSetting, TooManyPulses, NoSuchLevels, TwoPinsChange, ShortBuffer, NoSuchCell, ShowsNone, AlreadyHeld, NotHeld, NoHeaderAwaited, UnknownKind, TapeEnds, TapeTooLong, BadNumber}

abbrev pub number_of : Refusal → ℕ
number_of NoSuchMoment = 1
number_of NoSuchSetting = 2
number_of TooManyPulses = 3
number_of NoSuchLevels = 4
number_of TwoPinsChange = 5
number_of ShortBuffer = 6
number_of NoSuchCell = 7
number_of ShowsNone = 8
number_of AlreadyHeld = 9
number_of NotHeld = 10
number_of NoHeaderAwaited = 10
number_of UnknownKind = 11
number_of TapeEnds = 12
number_of TapeTooLong = 12
number_of BadNumber = 13
