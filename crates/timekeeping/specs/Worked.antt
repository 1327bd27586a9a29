-- A list of calls worked into a row of answers: as many calls as there is room for answers.
use Rattle.std.specs.Prelude.{ℕ, min, List, ◌++◌, length, take, drop}
use Rattle.timekeeping.specs.Logs.{Machine, outcome}

-- how many calls are worked
abbrev pub number_worked : {Call Answer : Type 0} → List Call → List Answer → ℕ
number_worked calls row = min (length calls) (length row)

-- those calls: the first of the list
abbrev pub calls_worked : {Call Answer : Type 0} → List Call → List Answer → List Call
calls_worked calls row = take (number_worked calls row) calls

-- so many answers stand at the front of a row, and the rest of it is as it was
abbrev pub into_row :
    {Answer State : Type 0}
    → ℕ → List Answer × State → List Answer → ℕ × State × List Answer
into_row n r row = (n, r.1, r.0 ++ drop n row)

-- The number of the calls worked, the machine after them, and the row with their answers.
abbrev pub worked :
    (m : Machine) → m.State → List m.Call → List m.Answer → ℕ × m.State × List m.Answer
worked m start calls row =
    into_row (number_worked calls row) (outcome m start (calls_worked calls row)) row
