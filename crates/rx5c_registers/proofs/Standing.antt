-- A written byte stands in its register.
use Rattle.std.proofs.Common.{◌≡◌, ℕ, zero, suc, ◌%◌, ◌<◌, Bool, true, false, cond, ◌&&◌, eqb, List, [], ◌∷◌, ◌++◌, length, get_or, set, sym, refl, ap, ◌∙◌, subst, arith, eqb-true}
use lib.Bits.{bit_and, bit_or, and_zero_r, and_le_r}
use borrow.Author.Tests.{eqb-false}
use Rattle.rx5c_registers.specs.declared.alarm.AlarmRow.{AlarmRow}
use Rattle.rx5c_registers.specs.Alarms.{blank_row}
use Rattle.register_map.specs.Modes.{mode_bit}
use Rattle.rx5c_registers.specs.File.{FileState, with_alarms, bit_if, hour_mode_in, upper_registers, registers, masked, has, rows_enabled, flag_byte, written}
use Rattle.rx5c_registers.specs.Standing.{StandsIn}

-- a rule of bytes, computed for all of them
unfoldable every : (ℕ → Bool) → ℕ → Bool
every rule zero = true
every rule (suc n) = cond (rule n) (every rule n) false

holds : (rule : ℕ → Bool) (n k : ℕ) → every rule n ≡ true → k < n → rule k ≡ true
unfolding every
holds rule zero k e h = absurd (omega arith)
holds rule (suc n) k e h = at (rule n) refl (eqb k n) refl (λ rest less. holds rule n k rest less)
  where
    at : (b : Bool) → rule n ≡ b → (same : Bool) → eqb k n ≡ same → (every rule n ≡ true → k < n → rule k ≡ true) → rule k ≡ true
    at true r true q earlier = ap rule (eqb-true _ _ q) ∙ r
    at true r false q earlier =
        let apart = eqb-false _ _ q in
        earlier (sym (ap (λ (x : Bool). cond x (every rule n) false) r) ∙ e) (omega (arith, apart))
    at false r same q earlier =
        let no : false ≡ true = sym (ap (λ (x : Bool). cond x (every rule n) false) r) ∙ e in
        let z : ◌≡◌ {A = ℕ} 0 1 = cc in
        absurd (omega arith)

-- a mask applied twice
twice : (mask : ℕ) → every (λ b. eqb (bit_and (bit_and b mask) mask) (bit_and b mask)) 256 ≡ true → (byte : ℕ) → byte < 256 → bit_and (bit_and byte mask) mask ≡ bit_and byte mask
twice mask e byte h = eqb-true _ _ (holds (λ b. eqb (bit_and (bit_and b mask) mask) (bit_and b mask)) 256 byte e h)

-- a register among the cells, and one after them
set_front : (cells rest : List ℕ) (k x : ℕ) → k < length cells → set cells k x ++ rest ≡ set (cells ++ rest) k x
set_front [] rest k x h = absurd (omega arith)
set_front (c ∷ cells) rest zero x h = refl
set_front (c ∷ cells) rest (suc k) x h = ap (λ t. c ∷ t) (set_front cells rest k x (omega arith))

set_back : (cells rest : List ℕ) (k x : ℕ) → length cells ≡ 7 → cells ++ set rest k x ≡ set (cells ++ rest) (suc (suc (suc (suc (suc (suc (suc k))))))) x
set_back [] rest k x e = absurd (omega arith)
set_back (a ∷ []) rest k x e = absurd (omega arith)
set_back (a ∷ b ∷ []) rest k x e = absurd (omega arith)
set_back (a ∷ b ∷ c ∷ []) rest k x e = absurd (omega arith)
set_back (a ∷ b ∷ c ∷ d ∷ []) rest k x e = absurd (omega arith)
set_back (a ∷ b ∷ c ∷ d ∷ f ∷ []) rest k x e = absurd (omega arith)
set_back (a ∷ b ∷ c ∷ d ∷ f ∷ g ∷ []) rest k x e = absurd (omega arith)
set_back (a ∷ b ∷ c ∷ d ∷ f ∷ g ∷ h ∷ []) rest k x e = refl
set_back (a ∷ b ∷ c ∷ d ∷ f ∷ g ∷ h ∷ i ∷ more) rest k x e = absurd (omega arith)

-- Eh reads back what was written to it
control_back : (byte : ℕ) → byte < 256 → bit_or (bit_or (bit_if (has (bit_and byte 0xF7) 0x80) 0x80) (bit_if (has (bit_and byte 0xF7) 0x40) 0x40)) (bit_or (mode_bit 0x20 (hour_mode_in (bit_and byte 0xF7))) (bit_and (bit_and byte 0xF7) 0x17)) ≡ bit_and byte 0xF7
unfolding every
control_back byte h =
    eqb-true _ _
    (holds (λ b. eqb (bit_or (bit_or (bit_if (has (bit_and b 0xF7) 0x80) 0x80) (bit_if (has (bit_and b 0xF7) 0x40) 0x40)) (bit_or (mode_bit 0x20 (hour_mode_in (bit_and b 0xF7))) (bit_and (bit_and b 0xF7) 0x17))) (bit_and b 0xF7)) 256 byte refl h)

-- Fh reads back what was written to it, as far as its flags stood
abbrev flags_of : Bool → Bool → Bool → ℕ → ℕ
flags_of stopped weekly daily m =
    bit_or (bit_or (bit_if (weekly && has m 0x02) 0x02) (bit_if (daily && has m 0x01) 0x01)) (bit_or (bit_if (stopped && has m 0x10) 0x10) (bit_and m 0xAC))

abbrev can_stand : Bool → Bool → Bool → ℕ
can_stand stopped weekly daily = bit_or 0xAC (bit_or (bit_if stopped 0x10) (bit_or (bit_if weekly 0x02) (bit_if daily 0x01)))

abbrev flags_rule : Bool → Bool → Bool → ℕ → Bool
flags_rule stopped weekly daily b = eqb (flags_of stopped weekly daily (bit_and b 0xBF)) (bit_and (bit_and b 0xBF) (can_stand stopped weekly daily))

flags_back : (stopped weekly daily : Bool) (byte : ℕ) → byte < 256 → flags_of stopped weekly daily (bit_and byte 0xBF) ≡ bit_and (bit_and byte 0xBF) (can_stand stopped weekly daily)
unfolding every
flags_back true true true byte h = eqb-true _ _ (holds (flags_rule true true true) 256 byte refl h)
flags_back true true false byte h = eqb-true _ _ (holds (flags_rule true true false) 256 byte refl h)
flags_back true false true byte h = eqb-true _ _ (holds (flags_rule true false true) 256 byte refl h)
flags_back true false false byte h = eqb-true _ _ (holds (flags_rule true false false) 256 byte refl h)
flags_back false true true byte h = eqb-true _ _ (holds (flags_rule false true true) 256 byte refl h)
flags_back false true false byte h = eqb-true _ _ (holds (flags_rule false true false) 256 byte refl h)
flags_back false false true byte h = eqb-true _ _ (holds (flags_rule false false true) 256 byte refl h)
flags_back false false false byte h = eqb-true _ _ (holds (flags_rule false false false) 256 byte refl h)

-- the registers of a file whose two rows are given
module _ (f : FileState) (w d : AlarmRow) (seven : length f.core.map.cells ≡ 7) (byte : ℕ) (small : byte < 256) where
  abbrev rows : FileState
  rows = with_alarms f (w ∷ d ∷ [])

  abbrev cells : List ℕ
  cells = f.core.map.cells

  cell_stands : (k mask : ℕ) → k < 7 → every (λ b. eqb (bit_and (bit_and b mask) mask) (bit_and b mask)) 256 ≡ true → set cells k (bit_and (bit_and byte mask) mask) ++ upper_registers rows ≡ set (registers rows) k (bit_and byte mask)
  cell_stands k mask less e =
      ap (λ (x : ℕ). set cells k x ++ upper_registers rows) (twice mask e byte small) ∙ set_front cells (upper_registers rows) k (bit_and byte mask) (omega arith)

  seven_stand : bit_and byte 0x7F % 128 ≡ bit_and byte 0x7F
  seven_stand = let low = and_le_r byte 0x7F in omega arith

  six_stand : bit_and byte 0x3F % 64 ≡ bit_and byte 0x3F
  six_stand = let low = and_le_r byte 0x3F in omega arith

  replaced : (address : ℕ) → address < 14 → registers (written rows address byte) ≡ set (registers rows) address (masked address byte)
  unfolding every
  replaced zero h = cell_stands 0 0x7F (omega arith) refl
  replaced (suc zero) h = cell_stands 1 0x7F (omega arith) refl
  replaced (suc (suc zero)) h = cell_stands 2 0x3F (omega arith) refl
  replaced (suc (suc (suc zero))) h = cell_stands 3 0x07 (omega arith) refl
  replaced (suc (suc (suc (suc zero)))) h = cell_stands 4 0x3F (omega arith) refl
  replaced (suc (suc (suc (suc (suc zero))))) h = cell_stands 5 0x9F (omega arith) refl
  replaced (suc (suc (suc (suc (suc (suc zero)))))) h = cell_stands 6 0xFF (omega arith) refl
  replaced (suc (suc (suc (suc (suc (suc (suc zero))))))) h =
      ap (λ (x : ℕ). cells ++ set (upper_registers rows) 0 x) seven_stand ∙ set_back cells (upper_registers rows) 0 _ seven
  replaced (suc (suc (suc (suc (suc (suc (suc (suc zero)))))))) h =
      ap (λ (x : ℕ). cells ++ set (upper_registers rows) 1 x) seven_stand ∙ set_back cells (upper_registers rows) 1 _ seven
  replaced (suc (suc (suc (suc (suc (suc (suc (suc (suc zero))))))))) h =
      ap (λ (x : ℕ). cells ++ set (upper_registers rows) 2 x) six_stand ∙ set_back cells (upper_registers rows) 2 _ seven
  replaced (suc (suc (suc (suc (suc (suc (suc (suc (suc (suc zero)))))))))) h =
      ap (λ (x : ℕ). cells ++ set (upper_registers rows) 3 x) seven_stand ∙ set_back cells (upper_registers rows) 3 _ seven
  replaced (suc (suc (suc (suc (suc (suc (suc (suc (suc (suc (suc zero))))))))))) h =
      ap (λ (x : ℕ). cells ++ set (upper_registers rows) 4 x) seven_stand ∙ set_back cells (upper_registers rows) 4 _ seven
  replaced (suc (suc (suc (suc (suc (suc (suc (suc (suc (suc (suc (suc zero)))))))))))) h =
      ap (λ (x : ℕ). cells ++ set (upper_registers rows) 5 x) six_stand ∙ set_back cells (upper_registers rows) 5 _ seven
  replaced (suc (suc (suc (suc (suc (suc (suc (suc (suc (suc (suc (suc (suc zero))))))))))))) h =
      ap (λ (x : ℕ). cells ++ set (upper_registers rows) 6 x) (sym (and_zero_r byte)) ∙ set_back cells (upper_registers rows) 6 _ seven
  replaced (suc (suc (suc (suc (suc (suc (suc (suc (suc (suc (suc (suc (suc (suc k)))))))))))))) h = absurd (omega arith)

  -- Fh once Eh is written
  abbrev flags_left : ℕ
  flags_left = flag_byte (rows_enabled rows (has (masked 14 byte) 0x80) (has (masked 14 byte) 0x40))

  stands : (address : ℕ) → StandsIn rows address byte (written rows address byte)
  stands address =
      record {
        replaced = replaced address;
        control = λ is.
            ap (λ (a : ℕ). registers (written rows a byte)) is
            ∙ ap (λ (x : ℕ). cells ++ set (set (upper_registers rows) 7 x) 8 flags_left) (control_back byte small)
            ∙ set_back cells (set (upper_registers rows) 7 (masked 14 byte)) 8 flags_left seven
            ∙ ap (λ (row : List ℕ). set row 15 flags_left) (set_back cells (upper_registers rows) 7 (masked 14 byte) seven);
        flags = λ is.
            ap (λ (a : ℕ). registers (written rows a byte)) is
            ∙ ap (λ (x : ℕ). cells ++ set (upper_registers rows) 8 x) (flags_back f.stopped w.flag d.flag byte small)
            ∙ set_back cells (upper_registers rows) 8 _ seven;
      }

two_rows : {A : Type 0} (list : List A) (x : A) → length list ≡ 2 → get_or list 0 x ∷ get_or list 1 x ∷ [] ≡ list
two_rows [] x e = absurd (omega arith)
two_rows (a ∷ []) x e = absurd (omega arith)
two_rows (a ∷ b ∷ []) x e = refl
two_rows (a ∷ b ∷ c ∷ more) x e = absurd (omega arith)

pub written_stands : (f : FileState) (address byte : ℕ) → length f.core.map.cells ≡ 7 → length f.alarms ≡ 2 → byte < 256 → StandsIn f address byte (written f address byte)
written_stands f address byte seven two small =
    subst (λ (g : FileState). StandsIn g address byte (written g address byte)) (ap (with_alarms f) (two_rows f.alarms (blank_row 0) two))
    (stands f (get_or f.alarms 0 (blank_row 0)) (get_or f.alarms 1 (blank_row 0)) seven byte small address)
