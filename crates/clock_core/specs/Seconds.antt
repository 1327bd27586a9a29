-- How long a second is: 32,768 pulses, or a trimmed one at the seconds values 0, 20 and 40.
use Rattle.std.specs.Prelude.{ℕ, ◌-◌, ◌*◌, ◌%◌, cond, ℤ, pos, ◌+ℤ◌, neg_ℤ, Some, None, Option, ◌==◌, nat_lt, unsigned_abs}

-- The trim in pulses. The trim byte, 0 to 127, is a signed number t of seven bits:
-- t from 2 to 63 gives 2 (t - 1), t from -62 to -1 gives 2 t, and 0, 1, -64, -63 give 0.
abbrev pub trim_pulses : ℕ → ℤ
trim_pulses byte = cond (nat_lt byte 64) (pos (2 * (byte - 1))) (cond (nat_lt byte 66) (pos 0) (neg_ℤ (pos (2 * (128 - byte)))))

-- the pulses of a trimmed second
abbrev pub trimmed_length : ℕ → ℕ
trimmed_length byte = unsigned_abs (pos 32768 +ℤ trim_pulses byte)

-- the pulses of a second that begins at a seconds value, or on a map that shows none
abbrev pub second_pulses : ℕ → Option ℕ → ℕ
second_pulses trim None = 32768
second_pulses trim (Some value) = cond (value % 20 == 0) (trimmed_length trim) 32768
