-- A 348A as it is saved, and read back.
use Rattle.std.specs.Prelude.{ℕ, Bool, cond, ◌||◌, Some, None, Option, ◌==◌}
use Rattle.serial_transfer.specs.declared.phase.Phase.{Phase}
use Rattle.serial_transfer.specs.Phase.{under_way}
use Rattle.rx5c_registers.specs.File.{FileState}
use Rattle.rx5c348a.specs.Part.{PartState}
use Rattle.rx5c348a.specs.Pins.{differ}
use Rattle.saved_parts.specs.declared.part348.Saved348.{Saved348}
use Rattle.saved_parts.specs.Flags.{flag_number, flag_numbered}
use Rattle.saved_parts.specs.Files.{file_saved, file_restored}
use Rattle.saved_parts.specs.Transfers.{transfer_saved, transfer_restored}

-- what marks a record of this part
abbrev pub mark : ℕ
mark = 0x33343841

abbrev pub saved : PartState → Saved348
saved p =
    record {
      mark = mark;
      registers = file_saved p.file;
      ce = flag_number p.ce;
      sclk = flag_number p.sclk;
      transfer = transfer_saved p.phase;
    }

-- a transfer is under way, and the core held, exactly while CE is high: whether that fails
abbrev pub unfit : FileState → Bool → Phase → Bool
unfit file ce phase = differ (under_way phase) ce || differ file.core.held ce

abbrev pub part_of : Option FileState → Option Bool → Option Bool → Option Phase → Option PartState
part_of None ce sclk phase = None
part_of (Some file) None sclk phase = None
part_of (Some file) (Some ce) None phase = None
part_of (Some file) (Some ce) (Some sclk) None = None
part_of (Some file) (Some ce) (Some sclk) (Some phase) =
    cond (unfit file ce phase) None
    (Some (record { file = file; ce = ce; sclk = sclk; phase = phase }))

-- the part that a record is the saved state of, where it is one
abbrev pub restored : Saved348 → Option PartState
restored r =
    cond (r.mark == mark) (part_of (file_restored r.registers) (flag_numbered r.ce) (flag_numbered r.sclk) (transfer_restored r.transfer)) None
