-- The day map: four plain binary cells, which are the second, minute, hour and weekday, over a cycle of one day.
use Rattle.std.specs.Prelude.{ℕ, ◌+◌, ◌*◌, ◌/◌, ◌%◌, Bool, cond, ◌&&◌, List, [], ◌∷◌, length, Some, None, Option, ◌==◌, nat_lt, slice_index}
use Rattle.register_map.specs.Chart.{Chart}
use Rattle.register_map.specs.declared.shown.Shown.{Shown}
use Rattle.register_map.specs.declared.hour_mode.HourMode.{HourMode}

-- The used bits of each cell.
abbrev pub used_bits : List ℕ
used_bits = 0x3F ∷ 0x3F ∷ 0x1F ∷ 0x07 ∷ []

-- The cells of a moment and weekday; hours run from 0 to 23 in either mode.
abbrev pub code : HourMode → Shown → List ℕ
code mode p = p.moment % 60 ∷ p.moment / 60 % 60 ∷ p.moment / 3600 ∷ p.weekday ∷ []

-- Whether the cells are a second, a minute, an hour and a weekday.
abbrev pub in_range : List ℕ → Bool
in_range cells = length cells == 4 && nat_lt (slice_index cells 0) 60 && nat_lt (slice_index cells 1) 60 && nat_lt (slice_index cells 2) 24 && nat_lt (slice_index cells 3) 7

-- The moment and weekday that such cells spell.
abbrev pub spelt : List ℕ → Shown
spelt cells = record { moment = 3600 * slice_index cells 2 + 60 * slice_index cells 1 + slice_index cells 0; weekday = slice_index cells 3 }

-- What the cells show.
abbrev pub reads : HourMode → List ℕ → Option Shown
reads mode cells = cond (in_range cells) (Some (spelt cells)) None

-- What the day map states: four cells, a cycle of one day, its used bits, code and reading.
abbrev pub day_chart : Chart
day_chart = record { count = 4; cycle = 86400; used = used_bits; code = code; reads = reads }
