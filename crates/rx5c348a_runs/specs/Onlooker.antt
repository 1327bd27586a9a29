-- What an onlooker at the wires makes of a move of the pins: he notes SI at the falls of SCLK and
-- SO at its rises, and counts in eights.
use Rattle.std.specs.Prelude.{ℕ, ◌+◌, ◌/◌, ◌%◌, Bool, true, false, cond, List, [], ◌∷◌, length, Ok, Some, None, Option, ◌==◌, nat_lt}
use Rattle.register_map.specs.declared.hour_mode.HourMode.{HourMode}
use Rattle.serial_transfer.specs.declared.phase.Format.{Format}
use Rattle.serial_transfer.specs.declared.phase.Format.TheVariants.{SingleWrite, BurstWrite, SingleRead, BurstRead}
use Rattle.serial_transfer.specs.Levels.{taken}
use Rattle.serial_transfer.specs.Rules.{format_coded}
use Rattle.rx5c_registers.specs.File.{masked, hour_mode_in}
use Rattle.rx5c348a.specs.declared.pins.PinMove.TheVariants.{CeRises, CeFalls, SclkRises, SclkFalls}
use Rattle.rx5c348a.specs.Pins.{Move}
use Rattle.timekeeping.specs.CoreCalls.{same_mode, one_cell}
use Rattle.timekeeping.specs.Logs.{Sight, Held, Released, Wrote, Gave, Nothing}

-- What the next byte on the wires is.
pub data Next : Type 0 where
  AHeader : Next
  -- a byte for a register, and whether in a burst
  WriteTo : ℕ → Bool → Next
  -- a register's byte, and whether in a burst
  ReadFrom : ℕ → Bool → Next
  -- a part that does not listen
  Unheard : Next

-- a header's format, at its address
abbrev pub asked : ℕ → Option Format → Next
asked address (Some SingleWrite) = WriteTo address false
asked address (Some BurstWrite) = WriteTo address true
asked address (Some SingleRead) = ReadFrom address false
asked address (Some BurstRead) = ReadFrom address true
asked address None = Unheard

-- What follows a whole byte: in a burst the byte of the next register, round from Fh to 0; else a header.
abbrev pub next_after : Next → ℕ → Next
next_after AHeader byte = asked (byte / 16) (format_coded (byte % 16))
next_after (WriteTo address true) byte = WriteTo ((address + 1) % 16) true
next_after (WriteTo address false) byte = AHeader
next_after (ReadFrom address true) byte = ReadFrom ((address + 1) % 16) true
next_after (ReadFrom address false) byte = AHeader
next_after Unheard byte = Unheard

-- What he has noted: the levels of CE and SCLK, what the byte under way is, its bits on SI, and its levels on SO,
-- the newest first.
pub record Notes : Type 0 where
  pub ce : Bool
  pub sclk : Bool
  pub next : Next
  pub si : List ℕ
  pub so : List ℕ

-- all low, nothing under way
abbrev pub silent : Notes
silent = record { ce = false; sclk = false; next = AHeader; si = []; so = [] }

-- the number that bits spell, the newest lowest
unfoldable pub spelt : List ℕ → ℕ
spelt [] = 0
spelt (bit ∷ bits) = taken (spelt bits) bit

-- CE rises or falls: a byte under way is dropped, and a header follows a rise
abbrev pub ce_noted : Notes → Bool → Notes
ce_noted e ce = record { ce = ce; sclk = e.sclk; next = AHeader; si = []; so = [] }

-- SCLK rises: a level on SO
abbrev pub rise_noted : Notes → ℕ → Notes
rise_noted e so = record { ce = e.ce; sclk = true; next = e.next; si = e.si; so = cond e.ce (so ∷ e.so) e.so }

-- SCLK falls: a bit on SI, and the eighth makes a byte
abbrev pub bit_noted : Notes → ℕ → Bool → Notes
bit_noted e si true = record { ce = true; sclk = false; next = next_after e.next (spelt (si ∷ e.si)); si = []; so = [] }
bit_noted e si false = record { ce = true; sclk = false; next = e.next; si = si ∷ e.si; so = e.so }

abbrev pub fall_noted : Notes → ℕ → Notes
fall_noted e si =
    cond e.ce (bit_noted e si (length e.si == 7)) (record { ce = false; sclk = false; next = e.next; si = e.si; so = e.so })

-- A move, with what is heard on SO.
abbrev pub noted : Notes → Move → ℕ → Notes
noted e (Ok CeRises) so = ce_noted e true
noted e (Ok CeFalls) so = ce_noted e false
noted e (Ok SclkRises) so = rise_noted e so
noted e (Ok (SclkFalls si)) so = fall_noted e si
noted e _ so = e

-- A byte given out: the eighth rise of a calendar cell.
abbrev pub given_by : Next → ℕ → Sight
given_by (ReadFrom address _) byte = cond (nat_lt address 7) (Gave (one_cell address byte)) Nothing
given_by _ byte = Nothing

-- A byte that lands in a register of the timekeeping; the hour mode may be the one that stands.
abbrev pub landed_by : HourMode → Next → ℕ → Sight
landed_by mode (WriteTo address _) byte =
    cond (nat_lt address 8) Wrote
    (cond (address == 14) (cond (same_mode mode (hour_mode_in (masked 14 byte))) Nothing Wrote) Nothing)
landed_by mode _ byte = Nothing

abbrev pub rise_sight : Notes → ℕ → Sight
rise_sight e so = cond e.ce (cond (length e.si == 7) (given_by e.next (spelt (so ∷ e.so))) Nothing) Nothing

abbrev pub fall_sight : HourMode → Notes → ℕ → Sight
fall_sight mode e si = cond e.ce (cond (length e.si == 7) (landed_by mode e.next (spelt (si ∷ e.si))) Nothing) Nothing

-- What he makes of a move: a rise of CE holds, its fall releases.
abbrev pub move_sight : HourMode → Notes → Move → ℕ → Sight
move_sight mode e (Ok CeRises) so = Held
move_sight mode e (Ok CeFalls) so = Released
move_sight mode e (Ok SclkRises) so = rise_sight e so
move_sight mode e (Ok (SclkFalls si)) so = fall_sight mode e si
move_sight mode e _ so = Nothing
