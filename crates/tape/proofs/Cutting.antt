-- Every tape is some written records and a rest that begins with no record that can be read.
use Rattle.std.proofs.Common.{◌≡◌, ℕ, zero, suc, ◌+◌, ◌*◌, ◌/◌, ◌%◌, ◌^◌, ◌<◌, ◌≤◌, false, ◌&&◌, eqb, ltb, List, [], ◌∷◌, ◌++◌, length, get_or, IfOk, Ok, Err, Result, sym, refl, ap, ◌∙◌, ⊎_elim, append_assoc, pow-suc, arith}
use native.Mathlib.Nat.{pow-le-pow_right}
use Rattle.std.proofs.lemmas.List.{get_or-append-add}
use Rattle.std.proofs.lemmas.Bool.{cond_both, ltb-true, ltb-false, eqb-true, eqb-false, and_cases}
use Rattle.tape.specs.declared.record.Kind.{Kind}
use Rattle.tape.specs.declared.record.Kind.TheVariants.{LoadMoment, GivePulses, GiveLevels, PrintRegisters}
use Rattle.tape.specs.declared.record.Record.{Record}
use Rattle.tape.specs.declared.record.TapeRefusal.{TapeRefusal}
use Rattle.tape.specs.Records.{NumberRead, RecordRead, low_group, groups_after, read_number, read_record, record_of, with_kind, with_number}
use Rattle.tape.specs.Written.{groups_of, number_bytes, record_bytes, number_in, tape_of, WrittenAs, Ends}
use Rattle.tape.proofs.Coding.{one_group, several_groups}
use Rattle.tape.proofs.Reading.{record_shortens}

-- each is a byte
abbrev pub Bytes : List ℕ → Type 0
Bytes bytes = (i : ℕ) → get_or bytes i 0 < 256

-- A number that was read after `before` groups, with room for `more`: its groups stand before the rest.
record NumberStands (more before : ℕ) (bytes : List ℕ) (number : ℕ) (rest : List ℕ) : Type 0 where
  whole : bytes ≡ groups_of more number ++ rest
  fits : number < 128 ^ suc more
  some : 0 < before → 0 < number

stands_alone : (more before group : ℕ) (rest : List ℕ) → group < 128 → (eqb group 0 && ltb 0 before) ≡ false → NumberStands more before (group ∷ rest) group rest
stands_alone more before group rest small unpadded =
    record {
      whole = ap (λ l. l ++ rest) (sym (one_group more group small));
      fits = omega (arith, pow-suc 128 more, pow-le-pow_right {n = 128} (omega arith) {i = 0} {j = more} (omega arith));
      some = λ several. ⊎_elim (λ other. omega (arith, eqb-false group 0 other)) (λ first. absurd (omega (arith, ltb-false 0 before first))) (and_cases (eqb group 0) (ltb 0 before) unpadded);
    }

stands_above : (more before group : ℕ) (bytes : List ℕ) (x : NumberRead) → 128 ≤ group → group < 256 → IfOk x (λ read. NumberStands more (before + 1) bytes read.0 read.1) → IfOk (low_group (group % 128) x) (λ read. NumberStands (suc more) before (group ∷ bytes) read.0 read.1)
stands_above more before group bytes (Ok read) large byte h =
    let number = group % 128 + 128 * read.0 in
    let above = h.some (omega arith) in
    let low : 128 + number % 128 ≡ group = omega arith in
    let high : number / 128 ≡ read.0 = omega arith in
    record {
      whole = (λ i. sym low i ∷ h.whole i) ∙ ap (λ m. (128 + number % 128) ∷ groups_of more m ++ read.1) (sym high) ∙ ap (λ l. l ++ read.1) (sym (several_groups more number (omega arith)));
      fits = omega (arith, pow-suc 128 (suc more), h.fits);
      some = λ _. omega arith;
    }
stands_above more before group bytes (Err e) large byte h = tt

number_stands : (more before : ℕ) (bytes : List ℕ) → before + more ≡ 4 → Bytes bytes → IfOk (groups_after before bytes) (λ read. NumberStands more before bytes read.0 read.1)
unfolding groups_after
number_stands more before [] left are = tt
number_stands zero before (group ∷ rest) left are =
    let P : NumberRead → Type 0 = λ x. IfOk x (λ read. NumberStands 0 before (group ∷ rest) read.0 read.1) in
    cond_both (ltb group 128) _ _ P
    (λ small. cond_both (eqb group 0 && ltb 0 before) _ _ P (λ _. tt) (λ unpadded. stands_alone 0 before group rest (ltb-true group 128 small) unpadded))
    (λ _. cond_both (eqb before 4) _ _ P (λ _. tt) (λ few. absurd (eqb-false before 4 few (omega arith))))
number_stands (suc more) before (group ∷ rest) left are =
    let P : NumberRead → Type 0 = λ x. IfOk x (λ read. NumberStands (suc more) before (group ∷ rest) read.0 read.1) in
    cond_both (ltb group 128) _ _ P
    (λ small. cond_both (eqb group 0 && ltb 0 before) _ _ P (λ _. tt) (λ unpadded. stands_alone (suc more) before group rest (ltb-true group 128 small) unpadded))
    (λ large. cond_both (eqb before 4) _ _ P (λ _. tt) (λ _. stands_above more before group rest (groups_after (before + 1) rest) (ltb-false group 128 large) (are 0) (number_stands more (before + 1) rest (omega arith) (λ i. are (suc i)))))

-- A record that was read: its bytes stand before the rest.
record RecordStands (bytes : List ℕ) (r : Record) (rest : List ℕ) : Type 0 where
  whole : bytes ≡ record_bytes r ++ rest
  fits : number_in r < 2 ^ 35

record_stands : (bytes : List ℕ) → Bytes bytes → IfOk (read_record bytes) (λ read. RecordStands bytes read.0 read.1)
record_stands [] are = tt
record_stands (byte ∷ bytes) are =
    let P : Result Kind TapeRefusal → Type 0 = λ k. IfOk (with_kind k bytes) (λ read. RecordStands (byte ∷ bytes) read.0 read.1) in
    let number = number_stands 4 0 bytes refl (λ i. are (suc i)) in
    cond_both (eqb byte 0x4D) _ _ P (λ is. by_kind LoadMoment 0x4D (λ n. refl) (λ n. refl) (read_number bytes) (eqb-true byte 0x4D is) number)
    (λ _. cond_both (eqb byte 0x50) _ _ P (λ is. by_kind GivePulses 0x50 (λ n. refl) (λ n. refl) (read_number bytes) (eqb-true byte 0x50 is) number)
    (λ _. cond_both (eqb byte 0x57) _ _ P (λ is. by_kind GiveLevels 0x57 (λ n. refl) (λ n. refl) (read_number bytes) (eqb-true byte 0x57 is) number)
    (λ _. cond_both (eqb byte 0x4C) _ _ P (λ is. by_kind PrintRegisters 0x4C (λ n. refl) (λ n. refl) (read_number bytes) (eqb-true byte 0x4C is) number) (λ _. tt))))
  where
    by_kind : (kind : Kind) (letter : ℕ) → ((n : ℕ) → record_bytes (record_of kind n) ≡ letter ∷ number_bytes n) → ((n : ℕ) → number_in (record_of kind n) ≡ n) → (x : NumberRead) → byte ≡ letter → IfOk x (λ read. NumberStands 4 0 bytes read.0 read.1) → IfOk (with_number kind x) (λ read. RecordStands (byte ∷ bytes) read.0 read.1)
    by_kind kind letter written holds (Ok read) is h =
        record {
          whole = (λ i. is i ∷ h.whole i) ∙ ap (λ l. l ++ read.1) (sym (written read.0));
          fits = omega (arith, holds read.0, h.fits);
        }
    by_kind kind letter written holds (Err e) is h = tt

abbrev pub Cut : List ℕ → Type 0
Cut bytes = (records : List Record) × (rest : List ℕ) × (how : Result (Unit {0}) TapeRefusal) × WrittenAs bytes records rest × Ends rest how

cut_first : (bytes : List ℕ) (x : RecordRead) → 0 < length bytes → read_record bytes ≡ x → Bytes bytes → IfOk x (λ read. RecordStands bytes read.0 read.1) → IfOk x (λ read. length read.1 + 2 ≤ length bytes) → ((more : List ℕ) → length more + 2 ≤ length bytes → Bytes more → Cut more) → Cut bytes
cut_first bytes (Ok read) some is are stands short others =
    let before = record_bytes read.0 in
    let rest_are : Bytes read.1 = λ i. rw (sym (get_or-append-add before read.1 i 0), ← stands.whole) (are (length before + i)) in
    let o = others read.1 short rest_are in (
      read.0 ∷ o.0,
      o.1,
      o.2,
      record {
        whole = stands.whole ∙ ap (λ l. before ++ l) o.3.whole ∙ sym (append_assoc before (tape_of o.0) o.1);
        numbers = (stands.fits, o.3.numbers);
      },
      o.4,
    )
cut_first bytes (Err refused) some is are stands short others = ([], bytes, Err refused, record { whole = refl; numbers = tt }, (some, is))

cut_by : (turns : ℕ) (bytes : List ℕ) → length bytes ≤ turns → Bytes bytes → Cut bytes
cut_by zero [] few are = ([], [], Ok tt, record { whole = refl; numbers = tt }, refl)
cut_by zero (x ∷ xs) few are = absurd (omega arith)
cut_by (suc turns) [] few are = ([], [], Ok tt, record { whole = refl; numbers = tt }, refl)
cut_by (suc turns) (x ∷ xs) few are =
    cut_first (x ∷ xs) (read_record (x ∷ xs)) (omega arith) refl are (record_stands (x ∷ xs) are) (record_shortens (x ∷ xs)) (λ more short rest_are. cut_by turns more (omega arith) rest_are)

pub every_tape_is_cut : (tape : List ℕ) → Bytes tape → Cut tape
every_tape_is_cut tape are = cut_by (length tape) tape (omega arith) are
