-- What a fault names: the refusal, the place of its record, and who refused it.
use Rattle.std.specs.Prelude.{ℕ}
use Rattle.lines.specs.declared.origin.Origin.TheVariants.{Tape, Part}
use Rattle.refusals.specs.declared.Refusal.{Refusal}
use Rattle.tape.specs.declared.fault.RecordFault.{RecordFault}
use Rattle.tape.specs.declared.fault.TapeFault.{TapeFault}
use Rattle.tape.specs.declared.record.TapeRefusal.{TapeRefusal}
use Rattle.tape.specs.Records.{refusal_of}

-- the tape refuses
abbrev pub of_tape : TapeRefusal → RecordFault
of_tape refused = record { refusal = refusal_of refused; origin = Tape }

-- the part refuses
abbrev pub of_part : Refusal → RecordFault
of_part refusal = record { refusal = refusal; origin = Part }

-- a fault of the record whose kind byte stands at a place
abbrev pub at_place : ℕ → RecordFault → TapeFault
at_place place fault = record { refusal = fault.refusal; place = place; origin = fault.origin }
