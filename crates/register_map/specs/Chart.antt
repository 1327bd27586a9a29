-- What a register map means: the moment and weekday that its cells are the code of, and what each call does to the cells.
use Rattle.std.specs.Prelude.{◌≡◌, ℕ, ◌+◌, ◌%◌, ◌^◌, ◌<◌, ◌≤◌, cond, List, length, Some, None, Option, ◌==◌, bit_and, slice_index, slice_set}
use Rattle.register_map.specs.declared.hour_mode.HourMode.{HourMode}
use Rattle.register_map.specs.declared.shown.Shown.{Shown}

-- What a map states: how many cells, its cycle in seconds, the used bits of each cell,
-- how its cells spell what is shown in either mode, and what they show when they stand so.
pub record Chart : Type 0 where
  pub count : ℕ
  pub cycle : ℕ
  pub used : List ℕ
  pub code : HourMode → Shown → List ℕ
  pub reads : HourMode → List ℕ → Option Shown

-- A moment and weekday that the map can show.
pub record Showable (c : Chart) (p : Shown) : Type 0 where
  pub in_cycle : p.moment < c.cycle
  pub in_week : p.weekday < 7

-- The rules that every map keeps.
pub record Lawful (c : Chart) : Type 0 where
  pub few_cells : c.count ≤ 16
  pub not_empty : 0 < c.cycle
  pub whole_days : c.cycle % 86400 ≡ 0
  pub bounded : c.cycle ≤ 2 ^ 63
  pub a_mask_each : length c.used ≡ c.count
  pub masks_are_bytes : (k : ℕ) → slice_index c.used k < 256
  pub code_length : (m : HourMode) (p : Shown) → length (c.code m p) ≡ c.count
  -- a code has no unused bit
  pub code_masked : (m : HourMode) (p : Shown) → Showable c p → (k : ℕ) → bit_and (slice_index (c.code m p) k) (slice_index c.used k) ≡ slice_index (c.code m p) k
  -- the code of a moment and weekday shows them
  pub code_shows : (m : HourMode) (p : Shown) → Showable c p → c.reads m (c.code m p) ≡ Some p
  -- what cells show has them as its code
  pub shown_is_coded : (m : HourMode) (cells : List ℕ) (p : Shown) → c.reads m cells ≡ Some p → (c.code m p ≡ cells) × Showable c p
  -- in one mode, cells spell one moment and weekday only
  pub codes_differ : (m : HourMode) (p q : Shown) → Showable c p → Showable c q → c.code m p ≡ c.code m q → p ≡ q

-- The cells and the hour mode of a map.
pub record MapState : Type 0 where
  pub cells : List ℕ
  pub mode : HourMode

abbrev pub map_state : List ℕ → HourMode → MapState
map_state cells mode = record { cells = cells; mode = mode }

abbrev pub shown_by : Chart → MapState → Option Shown
shown_by c s = c.reads s.mode s.cells

-- the seconds value of a moment, 0 to 59
abbrev pub second_of : Shown → ℕ
second_of p = p.moment % 60

-- 0 follows 6
abbrev pub weekday_after : ℕ → ℕ
weekday_after w = (w + 1) % 7

-- One second on, round the cycle; the weekday steps at midnight.
abbrev pub second_after : Chart → Shown → Shown
second_after c p =
    record {
      moment = (p.moment + 1) % c.cycle;
      weekday = cond ((p.moment + 1) % 86400 == 0) (weekday_after p.weekday) p.weekday;
    }

abbrev pub put_byte : Chart → MapState → ℕ → ℕ → MapState
put_byte c s cell byte = map_state (slice_set s.cells cell (bit_and byte (slice_index c.used cell))) s.mode

abbrev pub set_mode : MapState → HourMode → MapState
set_mode s to = map_state s.cells to

abbrev pub showing : Chart → MapState → Shown → MapState
showing c s p = map_state (c.code s.mode p) s.mode

-- nothing shown, nothing moved
abbrev pub advanced_from : Chart → MapState → Option Shown → MapState
advanced_from c s None = s
advanced_from c s (Some p) = showing c s (second_after c p)

abbrev pub advanced : Chart → MapState → MapState
advanced c s = advanced_from c s (shown_by c s)
