-- What is saved is read back.
use Rattle.std.proofs.Common.{◌≡◌, ℕ, ◌<◌, ◌≤◌, Bool, true, false, not, ◌&&◌, ◌||◌, cond, eqb, IsTrue, List, [], ◌∷◌, length, get_or, Some, None, sym, refl, ap, ◌∙◌, ap₂, arith}
use Rattle.std.proofs.Math.Dec.{ltb}
use lib.Bits.{bit_and}
use Rattle.std.specs.List.{list_all}
use Rattle.std.proofs.lemmas.Bool.{eq-eqb, and_parts, ltb-true, lt-leb, le-ltb}
use Rattle.register_map.specs.declared.hour_mode.HourMode.{HourMode}
use Rattle.register_map.specs.declared.hour_mode.HourMode.TheVariants.{Twelve, TwentyFour}
use Rattle.register_map.specs.Modes.{mode_bit}
use Rattle.register_map.specs.Chart.{map_state}
use Rattle.clock_core.specs.Core.{CoreState}
use Rattle.clock_core.specs.View.{is_held, boundary_waits}
use Rattle.clock_core.specs.declared.clock.Hold.{Hold}
use Rattle.clock_core.specs.declared.clock.Hold.TheVariants.{Released, Held}
use Rattle.serial_transfer.specs.declared.phase.SerialOut.{SerialOut}
use Rattle.serial_transfer.specs.declared.phase.SerialOut.TheVariants.{Low, High, Off}
use Rattle.serial_transfer.specs.declared.phase.Phase.{Phase}
use Rattle.serial_transfer.specs.declared.phase.Phase.TheVariants.{Idle, Header, Write, Read, Deaf}
use Rattle.serial_transfer.specs.Levels.{out_number}
use Rattle.serial_transfer.specs.Phase.{bits_through, address_of, under_way}
use Rattle.rx5c_registers.specs.declared.alarm.AlarmRow.{AlarmRow}
use Rattle.rx5c_registers.specs.declared.file.RegisterFile.{RegisterFile}
use Rattle.rx5c_registers.specs.Alarms.{blank_row, every_day, row_masked}
use Rattle.rx5c_registers.specs.File.{FileState, file_seen, alarm}
use Rattle.saved_parts.specs.declared.file.SavedFile.{SavedFile}
use Rattle.rx5c348a.specs.declared.part.Rx5c348a.{Rx5c348a}
use Rattle.rx5c348a.specs.Part.{seen}
use Rattle.rx5c348a.specs.Pins.{differ}
use Rattle.saved_parts.specs.Flags.{flag_number, flag_numbered}
use Rattle.saved_parts.specs.Running.{hold_number, hold_numbered, mode_read, out_of_range, core_of, core_saved, core_restored}
use Rattle.saved_parts.specs.declared.running.SavedCore.{SavedCore}
use Rattle.saved_parts.specs.Alarms.{alarm_saved, alarm_of, has_unused_bit, alarm_restored}
use Rattle.saved_parts.specs.Transfers.{out_numbered, read_read, phase_read, transfer_saved, transfer_restored}
use Rattle.saved_parts.specs.Files.{file_saved, file_of, file_masked, file_restored}
use Rattle.saved_parts.specs.Part348.{saved, restored, part_of, unfit}
use Rattle.civil_map.specs.Masks.{all_masked}
use Rattle.digit_map.specs.Cells.{used_bits}
use Rattle.msm62x42.specs.declared.part.Msm62x42.{Msm62x42}
use Rattle.msm62x42.specs.Part.{seen as seen_62}
use Rattle.saved_parts.specs.Part62.{saved as saved_62, restored as restored_62}

pub flag_back : (b : Bool) → flag_numbered (flag_number b) ≡ Some b
flag_back false = refl
flag_back true = refl

hold_back : (h : Hold) → hold_numbered (hold_number (is_held h) (boundary_waits h)) ≡ Some h
hold_back Released = refl
hold_back (Held false) = refl
hold_back (Held true) = refl

mode_back : (m : HourMode) → mode_read (mode_bit 1 m) ≡ Some m
mode_back Twelve = refl
mode_back TwentyFour = refl

in_range : (r : SavedCore) → r.trim < 128 → r.position < r.second_length → 32644 ≤ r.second_length → r.second_length ≤ 32892 → out_of_range r ≡ false
in_range r t p s l =
    ap₂ ◌||◌ (lt-leb 128 r.trim t)
    (ap₂ ◌||◌ (lt-leb r.second_length r.position p) (ap₂ ◌||◌ (le-ltb r.second_length 32644 s) (le-ltb 32892 r.second_length l)))

-- a core as its part is seen
abbrev core_at : (position second trim : ℕ) → Hold → HourMode → List ℕ → CoreState
core_at position second trim hold mode cells =
    record {
      map = map_state cells mode;
      trim = trim;
      position = position;
      second = second;
      held = is_held hold;
      waits = boundary_waits hold;
    }

pub core_back : (position second trim : ℕ) (hold : Hold) (mode : HourMode) (cells : List ℕ) → trim < 128 → position < second → 32644 ≤ second → second ≤ 32892 → core_restored (core_saved (core_at position second trim hold mode cells)) cells ≡ Some (core_at position second trim hold mode cells)
core_back position second trim hold mode cells t p s l =
    ap₂ (core_of (core_saved (core_at position second trim hold mode cells)) cells) (hold_back hold) (mode_back mode)
    ∙ ap (λ (b : Bool). cond b None (Some (core_at position second trim hold mode cells))) (in_range (core_saved (core_at position second trim hold mode cells)) t p s l)

alarm_fields : (minute hour days : ℕ) (enabled flag : Bool) → alarm_of (alarm_saved (record { minute = minute; hour = hour; days = days; enabled = enabled; flag = flag })) (flag_numbered (flag_number enabled)) (flag_numbered (flag_number flag)) ≡ Some (record { minute = minute; hour = hour; days = days; enabled = enabled; flag = flag })
alarm_fields minute hour days false false = refl
alarm_fields minute hour days false true = refl
alarm_fields minute hour days true false = refl
alarm_fields minute hour days true true = refl

alarm_back : (row : AlarmRow) → IsTrue (row_masked row) → alarm_restored (alarm_saved row) ≡ Some row
alarm_back row masked =
    let minute = and_parts (ltb row.minute 128) (ltb row.hour 64 && ltb row.days 128) masked in
    let hour = and_parts (ltb row.hour 64) (ltb row.days 128) minute.1 in
    let none : has_unused_bit (alarm_saved row) ≡ false =
    ap₂ ◌||◌ (lt-leb 128 row.minute (ltb-true row.minute 128 minute.0))
    (ap₂ ◌||◌ (lt-leb 64 row.hour (ltb-true row.hour 64 hour.0)) (lt-leb 128 row.days (ltb-true row.days 128 hour.1))) in
    ap (λ (b : Bool). cond b None (alarm_of (alarm_saved row) (flag_numbered (flag_number row.enabled)) (flag_numbered (flag_number row.flag)))) none
    ∙ alarm_fields row.minute row.hour row.days row.enabled row.flag

out_back : (out : SerialOut) → out_numbered (out_number out) ≡ Some out
out_back Low = refl
out_back High = refl
out_back Off = refl

within : (address bits : ℕ) → address < 16 → bits < 8 → (ltb 15 address || ltb 7 bits) ≡ false
within address bits a b = ap₂ ◌||◌ (le-ltb 15 address (omega arith)) (le-ltb 7 bits (omega arith))

transfer_back : (phase : Phase) → bits_through phase < 8 → address_of phase < 16 → transfer_restored (transfer_saved phase) ≡ Some phase
transfer_back Idle b a = refl
transfer_back (Header bits gathered) b a =
    ap (λ (t : Bool). cond t None (Some (Header bits gathered))) (within 0 bits a b)
transfer_back (Write address false bits gathered) b a =
    ap (λ (t : Bool). cond t None (Some (Write address false bits gathered))) (within address bits a b)
transfer_back (Write address true bits gathered) b a =
    ap (λ (t : Bool). cond t None (Some (Write address true bits gathered))) (within address bits a b)
transfer_back (Read address burst bits byte out) b a =
    ap (λ (t : Bool). cond t None (phase_read (transfer_saved (Read address burst bits byte out)))) (within address bits a b)
    ∙ ap₂ (read_read (transfer_saved (Read address burst bits byte out))) (flag_back burst) (out_back out)
transfer_back Deaf b a = refl

two_rows : (rows : List AlarmRow) (blank : AlarmRow) → length rows ≡ 2 → get_or rows 0 blank ∷ get_or rows 1 blank ∷ [] ≡ rows
two_rows [] blank h = absurd (omega arith)
two_rows (a ∷ []) blank h = absurd (omega arith)
two_rows (a ∷ b ∷ []) blank h = refl
two_rows (a ∷ b ∷ c ∷ rows) blank h = absurd (omega arith)

rows_masked : (rows : List AlarmRow) (blank : AlarmRow) → length rows ≡ 2 → IsTrue (list_all row_masked rows) → IsTrue (row_masked (get_or rows 0 blank)) × IsTrue (row_masked (get_or rows 1 blank))
rows_masked [] blank h m = absurd (omega arith)
rows_masked (a ∷ []) blank h m = absurd (omega arith)
rows_masked (a ∷ b ∷ []) blank h m =
    let p = and_parts (row_masked a) (list_all row_masked (b ∷ [])) m in
    (p.0, (and_parts (row_masked b) true p.1).0)
rows_masked (a ∷ b ∷ c ∷ rows) blank h m = absurd (omega arith)

-- the file's pieces, each read back, make the file
file_pieces : (r : SavedFile) (f : FileState) (weekly daily : AlarmRow) → core_restored r.core r.cells ≡ Some f.core → alarm_restored r.weekly ≡ Some weekly → alarm_restored r.daily ≡ Some daily → flag_numbered r.oscillator_stopped ≡ Some f.stopped → r.stored_control ≡ f.control → r.stored_flags ≡ f.flags → weekly ∷ daily ∷ [] ≡ f.alarms → file_of r (core_restored r.core r.cells) (alarm_restored r.weekly) (alarm_restored r.daily) (flag_numbered r.oscillator_stopped) ≡ Some f
file_pieces r f weekly daily core w d stopped control flags rows =
    ap₂ (λ c a. file_of r c a (alarm_restored r.daily) (flag_numbered r.oscillator_stopped)) core w
    ∙ ap₂ (file_of r (Some f.core) (Some weekly)) d stopped
    ∙ ap₂ (λ (c g : ℕ). Some (record { core = f.core; alarms = weekly ∷ daily ∷ []; stopped = f.stopped; control = c; flags = g })) control flags
    ∙ ap (λ (l : List AlarmRow). Some (record { core = f.core; alarms = l; stopped = f.stopped; control = f.control; flags = f.flags })) rows

pub file_back : (f : RegisterFile) → file_restored (file_saved (file_seen f)) ≡ Some (file_seen f)
file_back f =
    let s = file_saved (file_seen f) in
    let rows = rows_masked f.alarms (blank_row 0) f.two_rows f.alarm_bits in
    let masked : file_masked s ≡ true =
    ap₂ ◌&&◌ f.core.map.cells.no_unused_bit
    (ap₂ ◌&&◌ (eq-eqb s.daily.days every_day f.daily_days)
    (ap₂ ◌&&◌ (eq-eqb (bit_and f.stored_control 0x17) f.stored_control f.control_bits) (eq-eqb (bit_and f.stored_flags 0xAC) f.stored_flags f.flag_bits))) in
    ap (λ (b : Bool). cond b (file_of s (core_restored s.core s.cells) (alarm_restored s.weekly) (alarm_restored s.daily) (flag_numbered s.oscillator_stopped)) None) masked
    ∙ file_pieces (file_saved (file_seen f)) (file_seen f) (alarm (file_seen f) 0) (alarm (file_seen f) 1)
    (core_back f.core.position f.core.second_length f.core.trim f.core.hold f.core.map.mode f.core.map.cells.bytes f.core.trim_in_range f.core.within_second f.core.shortest f.core.longest)
    (alarm_back (alarm (file_seen f) 0) rows.0) (alarm_back (alarm (file_seen f) 1) rows.1) (flag_back f.oscillator_stopped) refl refl
    (two_rows f.alarms (blank_row 0) f.two_rows)

-- what a part keeps of CE, its transfer and its hold
alike : (a b : Bool) → a ≡ b → differ a b ≡ false
alike false b e = sym e
alike true b e = ap not (sym e)

fit : (p : Rx5c348a) → unfit (file_seen p.registers) p.ce p.transfer.phase ≡ false
fit p =
    ap₂ ◌||◌ (alike (under_way p.transfer.phase) p.ce p.under_way_while_selected) (alike (is_held p.registers.core.hold) p.ce p.held_while_selected)

-- A part that was saved is read back.
pub part_back : (p : Rx5c348a) → restored (saved (seen p)) ≡ Some (seen p)
part_back p =
    ap₂ (λ f c. part_of f c (flag_numbered (flag_number p.sclk)) (transfer_restored (transfer_saved p.transfer.phase))) (file_back p.registers) (flag_back p.ce)
    ∙ ap₂ (part_of (Some (file_seen p.registers)) (Some p.ce)) (flag_back p.sclk) (transfer_back p.transfer.phase p.transfer.byte_unfinished p.transfer.four_bits)
    ∙ ap (λ (b : Bool). cond b None (Some (seen p))) (fit p)

pub digits_back : (p : Msm62x42) → restored_62 (saved_62 (seen_62 p)) ≡ Some (seen_62 p)
digits_back p =
    let c = p.core in
    let s = saved_62 (seen_62 p) in
    ap (λ (b : Bool). cond b (cond (all_masked used_bits s.cells) (core_restored s.core s.cells) None) None) (ap₂ (λ (t l : ℕ). eqb t 0 && eqb l 32768) p.untrimmed p.plain_second)
    ∙ ap (λ (b : Bool). cond b (core_restored s.core s.cells) None) c.map.cells.no_unused_bit
    ∙ core_back c.position c.second_length c.trim c.hold c.map.mode c.map.cells.digits c.trim_in_range c.within_second c.shortest c.longest
