-- How a record is read from its kind byte and its number.
use Rattle.std.proofs.Common.{◌≡◌, ℕ, ◌+◌, ◌-◌, ◌<◌, ◌≤◌, List, [], ◌∷◌, length, get_or, take, drop, IfOk, Ok, Err, Result, sym, ap, ◌∙◌, subst, arith}
use Rattle.std.proofs.lemmas.Slice.{first_rest}
use Rattle.tape.specs.declared.record.Kind.{Kind}
use Rattle.tape.specs.declared.record.Record.{Record}
use Rattle.tape.specs.declared.record.TapeRefusal.{TapeRefusal}
use Rattle.tape.specs.Records.{NumberRead, RecordRead, kind_of, record_of, read_number, read_record, with_kind, with_number}
use Rattle.tape.proofs.Numbers.{number_shortens}

-- the rest of a slice after its first byte, as a slice pattern gives it
abbrev pub tail_of : List ℕ → List ℕ
tail_of xs = take (length xs - 1) (drop 1 xs)

-- At bytes of which the first is of a known kind.
module _ (xs : List ℕ) (some : 0 < length xs) (kind : Kind) (known : Ok kind ≡ kind_of (get_or xs 0 0)) where
  number_next : with_number kind (read_number (tail_of xs)) ≡ read_record xs
  number_next = ap (λ (k : Result Kind TapeRefusal). with_kind k (tail_of xs)) known ∙ ap read_record (sym (first_rest xs 0 some))

  pub number_read : (n : ℕ) (rest : List ℕ) → ◌≡◌ {A = NumberRead} (Ok (n, rest)) (read_number (tail_of xs)) → ◌≡◌ {A = RecordRead} (Ok (record_of kind n, rest)) (read_record xs)
  number_read n rest read = ap (with_number kind) read ∙ number_next

-- a record takes at least two bytes
pub record_shortens : (bytes : List ℕ) → IfOk (read_record bytes) (λ read. length read.1 + 2 ≤ length bytes)
record_shortens [] = tt
record_shortens (byte ∷ rest) = by_kind (kind_of byte)
  where
    by_number : (kind : Kind) (x : NumberRead) → IfOk x (λ read. length read.1 < length rest) → IfOk (with_number kind x) (λ read. length read.1 + 2 ≤ length (byte ∷ rest))
    by_number kind (Ok read) h = omega arith
    by_number kind (Err e) h = tt

    by_kind : (k : Result Kind TapeRefusal) → IfOk (with_kind k rest) (λ read. length read.1 + 2 ≤ length (byte ∷ rest))
    by_kind (Ok kind) = by_number kind (read_number rest) (number_shortens 0 rest)
    by_kind (Err e) = tt

pub rest_shorter : (bytes : List ℕ) (r : Record) (rest : List ℕ) → ◌≡◌ {A = RecordRead} (Ok (r, rest)) (read_record bytes) → length rest + 2 ≤ length bytes
rest_shorter bytes r rest read =
    let P : RecordRead → Type 0 = λ x. IfOk x (λ read. length read.1 + 2 ≤ length bytes) in
    subst P (sym read) (record_shortens bytes)
