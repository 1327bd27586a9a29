-- The cells of a part are seven bytes, along every call.
use Rattle.std.proofs.Common.{◌≡◌, ℕ, zero, suc, ◌+◌, ◌<◌, Bool, true, false, cond, ltb, List, [], ◌∷◌, length, length-set, get_or, set, Some, None, Option, sym, refl, ◌∙◌, subst, arith}
use lib.Bits.{and_le_r}
use Rattle.register_map.specs.declared.hour_mode.HourMode.{HourMode}
use Rattle.register_map.specs.declared.shown.Shown.{Shown}
use Rattle.register_map.specs.Chart.{Showable, MapState, map_state, shown_by, put_byte, advanced, advanced_from}
use Rattle.byte_map.specs.Cells.{byte_chart}
use Rattle.byte_map.specs.RowLaws.{byte_chart_lawful}
use Rattle.clock_core.specs.Core.{CoreState, at_position, waiting, with_map, begin_second, one_pulse, many_pulses}
use Rattle.timekeeping.proofs.Moments.{showable_after}

pub record Sound (m : MapState) : Type 0 where
  pub seven : length m.cells ≡ 7
  pub bytes : (k : ℕ) → get_or m.cells k 0 < 256

pub sound_code : (mode : HourMode) (p : Shown) → Showable byte_chart p → Sound (map_state (byte_chart.code mode p) mode)
sound_code mode p ok =
    record {
      seven = byte_chart_lawful.code_length mode p;
      bytes = λ k.
          let masked = byte_chart_lawful.code_masked mode p ok k in
          let low = and_le_r (get_or (byte_chart.code mode p) k 0) (get_or byte_chart.used k 0) in
          let mask = byte_chart_lawful.masks_are_bytes k in
          omega arith;
    }

pub sound_advanced : (m : MapState) → Sound m → Sound (advanced byte_chart m)
sound_advanced m ok = by (shown_by byte_chart m) refl
  where
    by : (o : Option Shown) → shown_by byte_chart m ≡ o → Sound (advanced_from byte_chart m o)
    by None e = ok
    by (Some q) e =
        let coded = byte_chart_lawful.shown_is_coded m.mode m.cells q e in
        sound_code m.mode _ (showable_after byte_chart byte_chart_lawful q coded.1)

set_bytes : (cells : List ℕ) (k x : ℕ) → ((j : ℕ) → get_or cells j 0 < 256) → x < 256 → (j : ℕ) → get_or (set cells k x) j 0 < 256
set_bytes [] k x ok small j = ok j
set_bytes (c ∷ cells) zero x ok small zero = small
set_bytes (c ∷ cells) zero x ok small (suc j) = ok (suc j)
set_bytes (c ∷ cells) (suc k) x ok small zero = ok zero
set_bytes (c ∷ cells) (suc k) x ok small (suc j) = set_bytes cells k x (λ i. ok (suc i)) small j

pub sound_put : (m : MapState) (cell byte : ℕ) → Sound m → Sound (put_byte byte_chart m cell byte)
sound_put m cell byte ok =
    let mask = byte_chart_lawful.masks_are_bytes cell in
    let low = and_le_r byte (get_or byte_chart.used cell 0) in
    record {
      seven = length-set m.cells cell _ ∙ ok.seven;
      bytes = set_bytes m.cells cell _ ok.bytes (omega arith);
    }

-- the map after a pulse
pulse_map : (s : CoreState) (within held : Bool) → (cond within (at_position s (s.position + 1)) (begin_second byte_chart (cond held (waiting s true) (with_map s (advanced byte_chart s.map))))).map ≡ cond within s.map (cond held s.map (advanced byte_chart s.map))
pulse_map s true held = refl
pulse_map s false true = refl
pulse_map s false false = refl

sound_by : (m : MapState) (within held : Bool) → Sound m → Sound (cond within m (cond held m (advanced byte_chart m)))
sound_by m true held ok = ok
sound_by m false true ok = ok
sound_by m false false ok = sound_advanced m ok

pub sound_pulses : (n : ℕ) (s : CoreState) → Sound s.map → Sound (many_pulses byte_chart n s).map
unfolding many_pulses
sound_pulses zero s ok = ok
sound_pulses (suc n) s ok =
    sound_pulses n (one_pulse byte_chart s)
    (subst Sound (sym (pulse_map s (ltb (s.position + 1) s.second) s.held)) (sound_by s.map (ltb (s.position + 1) s.second) s.held ok))
