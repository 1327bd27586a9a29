-- Truth values by number.
use Rattle.std.specs.Prelude.{ℕ, Bool, true, false, cond, Some, None, Option, ◌==◌}

abbrev pub flag_number : Bool → ℕ
flag_number false = 0
flag_number true = 1

-- 0 and 1; no other number is one
abbrev pub flag_numbered : ℕ → Option Bool
flag_numbered number = cond (number == 0) (Some false) (cond (number == 1) (Some true) None)
