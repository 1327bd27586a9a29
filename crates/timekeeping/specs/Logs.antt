-- Lists of calls on one thing with a core in it, as an onlooker hears them: what was called, what was answered,
-- and what he makes of it.
use Rattle.std.specs.Prelude.{◌≡◌, ℕ, ◌+◌, ◌≤◌, Bool, true, false, List, [], ◌∷◌, ◌++◌, Option}
use Rattle.std.specs.List.{AllByRecursion}
use Rattle.register_map.specs.declared.hour_mode.HourMode.{HourMode}
use Rattle.clock_core.specs.Core.{CoreState}

-- What an onlooker makes of a call and its answer.
pub data Sight : Type 0 where
  -- so many pulses were taken
  Took : ℕ → Sight
  -- the core was held
  Held : Sight
  -- the core was released
  Released : Sight
  -- a cell of the calendar, the trim or the hour mode was set from outside
  Wrote : Sight
  -- bytes were given out as calendar cells: which byte as which cell
  Gave : (ℕ → Option ℕ) → Sight
  -- none of these, as of every refused call
  Nothing : Sight

-- A call with its answer.
pub record Heard (Call Answer : Type 0) : Type 0 where
  pub call : Call
  pub answer : Answer

-- A machine: its calls and answers, what a call does, the core in it, and what an onlooker who heard the calls before,
-- the newest first, makes of one call more. He knows the hour mode that stood at the start.
pub record Machine : Type 1 where
  pub Call : Type 0
  pub Answer : Type 0
  pub State : Type 0
  pub step : State → Call → Answer × State
  pub core : State → CoreState
  pub sight : HourMode → List (Heard Call Answer) → Heard Call Answer → Sight

-- the machine of these members
abbrev pub machine_of : {Call Answer State : Type 0} → (State → Call → Answer × State) → (State → CoreState) → (HourMode → List (Heard Call Answer) → Heard Call Answer → Sight) → Machine
machine_of {Call} {Answer} {State} step core sight =
    record { Call = Call; Answer = Answer; State = State; step = step; core = core; sight = sight }

-- What was heard so far, the newest first.
abbrev pub Log : Machine → Type 0
Log m = List (Heard m.Call m.Answer)

-- the machine after the calls of a log, one upon the other
unfoldable pub state_after : (m : Machine) → m.State → Log m → m.State
state_after m start [] = start
state_after m start (h ∷ log) = (m.step (state_after m start log) h.call).1

-- a call, heard after a log
abbrev pub hear : (m : Machine) → m.State → Log m → m.Call → Heard m.Call m.Answer
hear m start log call = record { call = call; answer = (m.step (state_after m start log) call).0 }

-- the log once these calls have followed
unfoldable pub log_with : (m : Machine) → m.State → Log m → List m.Call → Log m
log_with m start log [] = log
log_with m start log (call ∷ calls) = log_with m start (hear m start log call ∷ log) calls

-- the log of a list of calls
abbrev pub log_of : (m : Machine) → m.State → List m.Call → Log m
log_of m start calls = log_with m start [] calls

-- the answers of a log, in the order of the calls
unfoldable pub answers_in : (m : Machine) → Log m → List m.Answer
answers_in m [] = []
answers_in m (h ∷ log) = answers_in m log ++ (h.answer ∷ [])

-- What a list of calls answers, and the machine after it.
abbrev pub outcome : (m : Machine) → m.State → List m.Call → List m.Answer × m.State
outcome m start calls = (answers_in m (log_of m start calls), state_after m start (log_of m start calls))

-- what is made of a log, the newest first
unfoldable pub sights_of : (m : Machine) → HourMode → Log m → List Sight
sights_of m mode [] = []
sights_of m mode (h ∷ log) = m.sight mode log h ∷ sights_of m mode log

-- what is made of the calls that follow a log
unfoldable pub sights_after : (m : Machine) → HourMode → Log m → Log m → List Sight
sights_after m mode before [] = []
sights_after m mode before (h ∷ log) = m.sight mode (log ++ before) h ∷ sights_after m mode before log

abbrev pub pulses_by : Sight → ℕ
pulses_by (Took n) = n
pulses_by Held = 0
pulses_by Released = 0
pulses_by Wrote = 0
pulses_by (Gave _) = 0
pulses_by Nothing = 0

-- all pulses taken
unfoldable pub pulses_taken : List Sight → ℕ
pulses_taken [] = 0
pulses_taken (x ∷ sights) = pulses_by x + pulses_taken sights

-- held or released after one sight more
abbrev pub held_by : Sight → Bool → Bool
held_by (Took _) before = before
held_by Held before = true
held_by Released before = false
held_by Wrote before = before
held_by (Gave _) before = before
held_by Nothing before = before

-- held after all these: it was held, and not released since
unfoldable pub is_held : List Sight → Bool
is_held [] = false
is_held (x ∷ sights) = held_by x (is_held sights)

abbrev pub is_release : Sight → Bool
is_release (Took _) = false
is_release Held = false
is_release Released = true
is_release Wrote = false
is_release (Gave _) = false
is_release Nothing = false

abbrev pub is_write : Sight → Bool
is_write (Took _) = false
is_write Held = false
is_write Released = false
is_write Wrote = true
is_write (Gave _) = false
is_write Nothing = false

-- A held stretch of a log: what was heard from what holds on, up to what next releases.
pub record Stretch (m : Machine) (mode : HourMode) (log : Log m) : Type 0 where
  pub later : Log m
  pub stretch : Log m
  pub hold : Heard m.Call m.Answer
  pub before : Log m
  pub cut : log ≡ later ++ (stretch ++ (hold ∷ before))
  pub holds : m.sight mode before hold ≡ Held
  pub unreleased : AllByRecursion (λ x. is_release x ≡ false) (sights_after m mode (hold ∷ before) stretch)

-- Nothing in the log sets cells, trim or hour mode from outside.
abbrev pub Undisturbed : (m : Machine) → HourMode → Log m → Type 0
Undisturbed m mode log = AllByRecursion (λ x. is_write x ≡ false) (sights_of m mode log)

-- From each hold to its release 32,644 pulses are taken at most.
abbrev pub ShortStretches : (m : Machine) → HourMode → Log m → Type 0
ShortStretches m mode log =
    (s : Stretch m mode log) → pulses_taken (sights_after m mode (s.hold ∷ s.before) s.stretch) ≤ 32644
