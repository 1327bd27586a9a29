-- Each call of a session is the levels that it drives.
use Rattle.std.proofs.Common.{◌≡◌, ℕ, zero, suc, Bool, List, [], ◌∷◌, ◌++◌, length, Ok, Err, Result, sym, refl, ap, ◌∙◌}
use Rattle.refusals.specs.declared.Refusal.{Refusal}
use Rattle.clock_core.specs.Core.{Accepted}
use Rattle.serial_transfer.specs.declared.phase.Format.TheVariants.{SingleWrite, BurstWrite, SingleRead, BurstRead}
use Rattle.serial_transfer.specs.Rules.{code_of}
use Rattle.rx5c348a.specs.Part.{PartState}
use Rattle.rx5c348a.specs.Pins.{pins_part}
use Rattle.host_wires.specs.Record.{Wired}
use Rattle.host_wires.specs.Shifting.{bit_in, bits_in, byte_in, bit_out, levels_out, byte_out, bytes_in, bytes_out, low_levels}
use Rattle.host_sessions.specs.Sessions.{closing, opening, header_for, read_after, reading, write_after, writing, burst_read_after, burst_reading, burst_write_after, burst_writing}
use Rattle.host_sessions.specs.Driven.{all_driven, bits_levels, byte_levels, bytes_levels, clock_levels, read_levels, transfer_levels, levels_of_close, levels_of_open, levels_of_read, levels_of_write, levels_of_burst_read, levels_of_burst_write}

-- levels in two parts
pub driven_append : (xs ys : List ℕ) (p : PartState) → all_driven (xs ++ ys) p ≡ all_driven ys (all_driven xs p)
unfolding all_driven
driven_append [] ys p = refl
driven_append (x ∷ xs) ys p = driven_append xs ys (pins_part p x).1

pub bits_driven : (bits : List Bool) (w : Wired) → (bits_in bits w).part ≡ all_driven (bits_levels bits) w.part
unfolding bits_in all_driven bits_levels
bits_driven [] w = refl
bits_driven (si ∷ bits) w = bits_driven bits (bit_in w si)

pub byte_driven : (byte : ℕ) (w : Wired) → (byte_in byte w).part ≡ all_driven (byte_levels byte) w.part
byte_driven byte w = bits_driven (low_levels byte 8) w

pub bytes_driven : (bytes : List ℕ) (w : Wired) → (bytes_in bytes w).part ≡ all_driven (bytes_levels bytes) w.part
unfolding bytes_in bytes_levels all_driven
bytes_driven [] w = refl
bytes_driven (byte ∷ bytes) w =
    bytes_driven bytes (byte_in byte w)
    ∙ ap (all_driven (bytes_levels bytes)) (byte_driven byte w)
    ∙ sym (driven_append (byte_levels byte) (bytes_levels bytes) w.part)

pub clocks_driven : (n : ℕ) (w : Wired) → (levels_out n w).1.part ≡ all_driven (clock_levels n) w.part
unfolding levels_out clock_levels all_driven
clocks_driven zero w = refl
clocks_driven (suc n) w = clocks_driven n (bit_out w).1

pub reads_driven : (n : ℕ) (w : Wired) → (bytes_out n w).1.part ≡ all_driven (read_levels n) w.part
unfolding bytes_out read_levels all_driven
reads_driven zero w = refl
reads_driven (suc n) w =
    reads_driven n (byte_out w).1
    ∙ ap (all_driven (read_levels n)) (clocks_driven 8 w)
    ∙ sym (driven_append (clock_levels 8) (read_levels n) w.part)

pub close_driven : (w v : Wired) → v ≡ closing w → v.part ≡ all_driven (levels_of_close w.part) w.part
unfolding all_driven
close_driven w v e = ap (λ (u : Wired). u.part) e

pub open_driven : (w v : Wired) → v ≡ opening w → v.part ≡ all_driven (levels_of_open w.part) w.part
unfolding all_driven
open_driven w v e = ap (λ (u : Wired). u.part) e

-- a header, and then what follows it
after_header : (header : ℕ) (following : List ℕ) (w : Wired) → all_driven following (byte_in header w).part ≡ all_driven (byte_levels header ++ following) w.part
after_header header following w =
    ap (all_driven following) (byte_driven header w) ∙ sym (driven_append (byte_levels header) following w.part)

-- a refused transfer drives nothing
none_driven : (p : PartState) → p ≡ all_driven [] p
unfolding all_driven
none_driven p = refl

pub read_driven : (address : ℕ) (w v : Wired) (answer : Result ℕ Refusal) → ◌≡◌ {A = Result ℕ Refusal × Wired} (answer, v) (reading address w) → v.part ≡ all_driven (levels_of_read address w.part) w.part
read_driven address w v answer e =
    ap (λ (s : Result ℕ Refusal × Wired). s.1.part) e ∙ after (header_for w.part address (code_of SingleRead))
  where
    after : (h : Result ℕ Refusal) → (read_after h w).1.part ≡ all_driven (transfer_levels h (clock_levels 8)) w.part
    after (Err why) = none_driven w.part
    after (Ok header) = clocks_driven 8 (byte_in header w) ∙ after_header header (clock_levels 8) w

pub write_driven : (address byte : ℕ) (w v : Wired) (answer : Accepted) → ◌≡◌ {A = Accepted × Wired} (answer, v) (writing address byte w) → v.part ≡ all_driven (levels_of_write address byte w.part) w.part
write_driven address byte w v answer e =
    ap (λ (s : Accepted × Wired). s.1.part) e ∙ after (header_for w.part address (code_of SingleWrite))
  where
    after : (h : Result ℕ Refusal) → (write_after h byte w).1.part ≡ all_driven (transfer_levels h (byte_levels byte)) w.part
    after (Err why) = none_driven w.part
    after (Ok header) = byte_driven byte (byte_in header w) ∙ after_header header (byte_levels byte) w

pub burst_read_driven : (address : ℕ) (buffer : List ℕ) (w v : Wired) (moved : ℕ) (filled : List ℕ) → ◌≡◌ {A = ℕ × List ℕ × Wired} (moved, filled, v) (burst_reading address buffer w) → v.part ≡ all_driven (levels_of_burst_read address (length buffer) w.part) w.part
burst_read_driven address buffer w v moved filled e =
    ap (λ (s : ℕ × List ℕ × Wired). s.2.part) e ∙ after (header_for w.part address (code_of BurstRead))
  where
    after : (h : Result ℕ Refusal) → (burst_read_after h buffer w).2.part ≡ all_driven (transfer_levels h (read_levels (length buffer))) w.part
    after (Err why) = none_driven w.part
    after (Ok header) =
        reads_driven (length buffer) (byte_in header w) ∙ after_header header (read_levels (length buffer)) w

pub burst_write_driven : (address : ℕ) (bytes : List ℕ) (w v : Wired) (moved : ℕ) → ◌≡◌ {A = ℕ × Wired} (moved, v) (burst_writing address bytes w) → v.part ≡ all_driven (levels_of_burst_write address bytes w.part) w.part
burst_write_driven address bytes w v moved e =
    ap (λ (s : ℕ × Wired). s.1.part) e ∙ after (header_for w.part address (code_of BurstWrite))
  where
    after : (h : Result ℕ Refusal) → (burst_write_after h bytes w).1.part ≡ all_driven (transfer_levels h (bytes_levels bytes)) w.part
    after (Err why) = none_driven w.part
    after (Ok header) = bytes_driven bytes (byte_in header w) ∙ after_header header (bytes_levels bytes) w
