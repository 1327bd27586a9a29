-- What a print record leaves: the room that its line takes, and what is printed after it.
use Rattle.std.proofs.Common.{◌≡◌, ℕ, ◌*◌, ◌^◌, ◌<◌, ◌≤◌, List, [], ◌∷◌, length, IfOk, Result, sym, refl, ap, subst, ◌∙◌, arith}
use Rattle.std.specs.List.{flat_map}
use Rattle.std.proofs.lemmas.Fmt.{length-decimal-le}
use Rattle.std.proofs.lemmas.List.{length-append}
use Rattle.std.proofs.lemmas.Bool.{cond-false, le-ltb}
use Rattle.lines.specs.Lines.{record_text, record_line}
use Rattle.lines.specs.Words.{hex_byte}
use Rattle.refusals.specs.declared.Refusal.{Refusal}
use Rattle.rx5c348a.specs.Part.{PartState}
use Rattle.rx5c_registers.specs.File.{registers}
use Rattle.rx5c_registers.proofs.Rows.{sixteen_registers}
use Rattle.tape.specs.declared.record.Record.TheVariants.{Print}
use Rattle.tape.specs.Playing.{perform_record, printing}

-- two digits a byte
length_hexadecimal : (bytes : List ℕ) → length (flat_map hex_byte bytes) ≡ 2 * length bytes
length_hexadecimal [] = refl
length_hexadecimal (b ∷ bytes) = omega (arith, length_hexadecimal bytes)

-- twenty digits, a space, thirty-two digits and a line feed
pub line_length : (number : ℕ) (registers : List ℕ) → number < 2 ^ 64 → length registers ≡ 16 → length (record_text number registers) ≤ 54
line_length number registers fits sixteen = simp length-append (omega (arith, length-decimal-le 20 number (omega arith) (omega arith) fits, length_hexadecimal registers))

-- A print record's line: the record done by itself puts it at the front of a buffer of 64 bytes.
module _ (number : ℕ) (part : PartState) (here line out : List ℕ) (answer : Result ℕ Refusal) (are : here ≡ registers part.file) (whole : length line ≡ 64) (wrote : ◌≡◌ {A = Result ℕ Refusal × List ℕ} (answer, out) (record_line number here line)) where
  pub line_printed : ◌≡◌ {A = Result ℕ Refusal × PartState × List ℕ} (answer, part, out) (perform_record (Print number) part line)
  unfolding printing
  line_printed =
      ap {B = Result ℕ Refusal × PartState × List ℕ} (λ (w : Result ℕ Refusal × List ℕ). (w.0, part, w.1)) (wrote ∙ ap (λ l. record_line number l line) are ∙ cond-false _ _ _ (le-ltb (length line) 64 (omega arith)))

  pub line_short : number < 2 ^ 64 → length part.file.core.map.cells ≡ 7 → IfOk answer (λ count. count ≤ 54)
  unfolding printing
  line_short fits seven =
      let P : Result ℕ Refusal → Type 0 = λ a. IfOk a (λ count. count ≤ 54) in
      subst P (sym (ap (λ (w : Result ℕ Refusal × PartState × List ℕ). w.0) line_printed)) (line_length number (registers part.file) fits (sixteen_registers part.file seven))
