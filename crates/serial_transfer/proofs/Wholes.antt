-- Eight clocks make a byte.
use Rattle.std.proofs.Common.{◌≡◌, ℕ, zero, suc, ◌+◌, ◌*◌, ◌/◌, ◌%◌, ◌^◌, ◌<◌, Bool, List, [], ◌∷◌, map, Some, None, Option, refl, ap, ◌∙◌, div-one, arith}
use Rattle.std.proofs.lemmas.Nat.{div-mul-add, mod-mul-add}
use Rattle.serial_transfer.specs.declared.phase.SerialOut.{SerialOut}
use Rattle.serial_transfer.specs.declared.phase.Landing.{Landing}
use Rattle.serial_transfer.specs.declared.phase.Phase.{Phase}
use Rattle.serial_transfer.specs.declared.phase.Phase.TheVariants.{Write, Read, Deaf}
use Rattle.serial_transfer.specs.Levels.{taken, bit_at, out_number, level_out}
use Rattle.serial_transfer.specs.Rules.{fresh_header, format_coded, data_at, headed, after_write, after_read}
use Rattle.serial_transfer.specs.Bytes.{low_bits, bits_of, levels_in, byte_in, levels_out, spelt, byte_out}
use Rattle.serial_transfer.specs.Laws.{ComesIn, GoesOut}
use Rattle.serial_transfer.proofs.Shifts.{taken_more}

-- what bits gather, behind those that are in
unfoldable gathered_from : ℕ → List ℕ → ℕ
gathered_from gathered [] = gathered
gathered_from gathered (bit ∷ bits) = gathered_from (taken gathered bit) bits

-- the bits of a byte, behind its front, gather the byte
gathers : (byte n : ℕ) → byte < 256 → gathered_from (byte / 2 ^ n) (low_bits byte n) ≡ byte
unfolding gathered_from low_bits
gathers byte zero h = div-one byte
gathers byte (suc n) h = ap (λ (g : ℕ). gathered_from g (low_bits byte n)) (taken_more byte n h) ∙ gathers byte n h

gathers_all : (byte : ℕ) → byte < 256 → gathered_from 0 (bits_of byte) ≡ byte
gathers_all byte h =
    let none : 0 ≡ byte / 2 ^ 8 = omega arith in
    ap (λ (g : ℕ). gathered_from g (bits_of byte)) none ∙ gathers byte 8 h

-- eight falls from a fresh header
header_in : (byte : ℕ) → byte_in byte fresh_header ≡ (None, headed (gathered_from 0 (bits_of byte)))
unfolding levels_in low_bits gathered_from
header_in byte = refl

-- eight falls from the beginning of a written byte
data_in : (byte address : ℕ) (burst : Bool) → byte_in byte (Write address burst 0 0) ≡ (Some (record { address = address; byte = gathered_from 0 (bits_of byte) }), after_write address burst)
unfolding levels_in low_bits gathered_from
data_in byte address burst = refl

pub byte_landed : (byte address : ℕ) (burst : Bool) → byte < 256 → byte_in byte (Write address burst 0 0) ≡ (Some (record { address = address; byte = byte }), after_write address burst)
byte_landed byte address burst h =
    data_in byte address burst ∙ ap (λ (n : ℕ). (Some (record { address = address; byte = n }), after_write address burst)) (gathers_all byte h)

-- deaf
pub deaf_in : (byte : ℕ) → byte_in byte Deaf ≡ (None, Deaf)
unfolding levels_in low_bits
deaf_in byte = refl

-- eight rises from the beginning of a read byte
data_out : (due address : ℕ) (burst : Bool) (byte : ℕ) (out : SerialOut) → levels_out 8 due (Read address burst 0 byte out) ≡ (map level_out (bits_of due), after_read address burst (level_out (bit_at due 0)))
unfolding levels_out low_bits
data_out due address burst byte out = refl

-- a header that is given as its two halves
pub halves : (byte address format : ℕ) → format < 16 → byte ≡ 16 * address + format → headed byte ≡ data_at address (format_coded format)
halves byte address format h e =
    let split : byte ≡ address * 16 + format = omega arith in
    let high : byte / 16 ≡ address = ap (λ (n : ℕ). n / 16) split ∙ div-mul-add address 16 format h in
    let low : byte % 16 ≡ format = ap (λ (n : ℕ). n % 16) split ∙ mod-mul-add address 16 format h in
    ap (λ (a : ℕ). data_at a (format_coded (byte % 16))) high ∙ ap (λ (f : ℕ). data_at address (format_coded f)) low

pub header_landed : (byte address format : ℕ) → byte < 256 → format < 16 → byte ≡ 16 * address + format → byte_in byte fresh_header ≡ (None, data_at address (format_coded format))
header_landed byte address format h few is =
    header_in byte ∙ ap (λ (n : ℕ). (None, headed n)) (gathers_all byte h) ∙ ap (λ (p : Phase). (None, p)) (halves byte address format few is)

-- eight bits in
pub comes_in : (byte : ℕ) (before : Phase) (after : Option Landing × Phase) → byte < 256 → after ≡ byte_in byte before → ComesIn byte before after
comes_in byte before after h whole =
    record {
      header = λ address format few is fresh.
          whole ∙ ap (byte_in byte) fresh ∙ header_landed byte address format h few is;
      lands = λ address burst writes.
          whole ∙ ap (byte_in byte) writes ∙ byte_landed byte address burst h;
      deaf = λ is. whole ∙ ap (byte_in byte) is ∙ deaf_in byte;
    }

-- a bit on SO reads as that bit
out_level : (n : ℕ) → out_number (level_out (n % 2)) ≡ n % 2
out_level n = at (n % 2) (omega arith)
  where
    at : (b : ℕ) → b < 2 → out_number (level_out b) ≡ b
    at zero h = refl
    at (suc zero) h = refl
    at (suc (suc b)) h = absurd (omega arith)

-- levels on SO spell what their bits gather
spells : (gathered byte n : ℕ) → spelt gathered (map level_out (low_bits byte n)) ≡ gathered_from gathered (low_bits byte n)
unfolding spelt low_bits gathered_from
spells gathered byte zero = refl
spells gathered byte (suc n) =
    ap (λ (bit : ℕ). spelt (taken gathered bit) (map level_out (low_bits byte n))) (out_level (byte / 2 ^ n)) ∙ spells (taken gathered (bit_at byte n)) byte n

-- the levels of a byte's bits spell the byte
pub bits_spelt : (byte : ℕ) → byte < 256 → spelt 0 (map level_out (bits_of byte)) ≡ byte
bits_spelt byte h = spells 0 byte 8 ∙ gathers_all byte h

-- eight bits out
byte_spelt : (due address : ℕ) (burst : Bool) (byte : ℕ) (out : SerialOut) → due < 256 → spelt 0 (levels_out 8 due (Read address burst 0 byte out)).0 ≡ due
byte_spelt due address burst byte out h = ap (λ (s : List SerialOut × Phase). spelt 0 s.0) (data_out due address burst byte out) ∙ bits_spelt due h

pub byte_given : (due address : ℕ) (burst : Bool) (byte : ℕ) (out : SerialOut) → due < 256 → byte_out due (Read address burst 0 byte out) ≡ (Some due, after_read address burst (level_out (bit_at due 0)))
byte_given due address burst byte out h =
    ap (λ (n : ℕ). (Some n, (levels_out 8 due (Read address burst 0 byte out)).1)) (byte_spelt due address burst byte out h)
    ∙ ap (λ (s : List SerialOut × Phase). (Some due, s.1)) (data_out due address burst byte out)

pub goes_out : (due : ℕ) (before : Phase) (after : Option ℕ × Phase) → due < 256 → after ≡ byte_out due before → GoesOut due before after
goes_out due before after h e =
    record {
      levels = λ address burst byte out reads.
          ap (λ (p : Phase). (levels_out 8 due p).0) reads ∙ ap (λ (s : List SerialOut × Phase). s.0) (data_out due address burst byte out);
      gives = λ address burst byte out reads. e ∙ ap (byte_out due) reads ∙ byte_given due address burst byte out h;
    }
