-- A number, and a record, are read back from the bytes that write them.
use Rattle.std.proofs.Common.{◌≡◌, ℕ, zero, suc, ◌+◌, ◌/◌, ◌%◌, ◌^◌, ◌<◌, ◌≤◌, List, [], ◌∷◌, ◌++◌, Ok, refl, ap, ◌∙◌, ⊎_elim, pow-suc, arith}
use Rattle.std.proofs.lemmas.Nat.{div_below}
use Rattle.std.proofs.lemmas.Bool.{cases_lt, cond-true, cond-false, lt-ltb, le-ltb}
use Rattle.tape.specs.declared.record.Record.{Record}
use Rattle.tape.specs.declared.record.Record.TheVariants.{Load, Pulses, Levels, Print}
use Rattle.tape.specs.declared.record.Kind.{Kind}
use Rattle.tape.specs.Records.{NumberRead, low_group, groups_after, read_number, read_record, with_number}
use Rattle.tape.specs.Written.{groups_of, number_bytes, record_bytes, number_in}
use Rattle.tape.proofs.Numbers.{last_group, more_groups}

-- a number of one group, and of several
pub one_group : (more number : ℕ) → number < 128 → groups_of more number ≡ number ∷ []
unfolding groups_of
one_group zero number small = refl
one_group (suc more) number small = cond-true _ _ _ (lt-ltb number 128 small)

pub several_groups : (more number : ℕ) → 128 ≤ number → groups_of (suc more) number ≡ (128 + number % 128) ∷ groups_of more (number / 128)
unfolding groups_of
several_groups more number large = cond-false _ _ _ (le-ltb number 128 large)

-- the groups are read back as the number, whatever follows
pub groups_read_back : (more before number : ℕ) (rest : List ℕ) → before + more ≡ 4 → number < 128 ^ suc more → (number ≡ 0 → before ≡ 0) → groups_after before (groups_of more number ++ rest) ≡ Ok (number, rest)
groups_read_back zero before number rest left fits alone =
    ap (λ l. groups_after before (l ++ rest)) (one_group 0 number (omega arith)) ∙ last_group before number rest (omega arith) alone
groups_read_back (suc more) before number rest left fits alone =
    ⊎_elim
    (λ small. ap (λ l. groups_after before (l ++ rest)) (one_group (suc more) number small) ∙ last_group before number rest small alone)
    (λ large.
    let low = 128 + number % 128 in
    let above_read = groups_read_back more (before + 1) (number / 128) rest (omega arith) (div_below number 128 (128 ^ suc more) (omega arith) (omega (arith, pow-suc 128 (suc more)))) (λ none. absurd (omega arith)) in
    ap (λ l. groups_after before (l ++ rest)) (several_groups more number large) ∙ more_groups before low (groups_of more (number / 128) ++ rest) (omega arith) (omega arith) ∙ ap (low_group (low % 128)) above_read ∙ ap {B = NumberRead} (λ (n : ℕ). Ok (n, rest)) (omega arith))
    (cases_lt number 128)

number_read_back : (number : ℕ) (rest : List ℕ) → number < 2 ^ 35 → read_number (number_bytes number ++ rest) ≡ Ok (number, rest)
number_read_back number rest fits = groups_read_back 4 0 number rest refl (omega arith) (λ _. refl)

pub record_read_back : (r : Record) (rest : List ℕ) → number_in r < 2 ^ 35 → read_record (record_bytes r ++ rest) ≡ Ok (r, rest)
record_read_back (Load moment) rest fits = ap (with_number Kind.LoadMoment) (number_read_back moment rest fits)
record_read_back (Pulses count) rest fits = ap (with_number Kind.GivePulses) (number_read_back count rest fits)
record_read_back (Levels levels) rest fits = ap (with_number Kind.GiveLevels) (number_read_back levels rest fits)
record_read_back (Print number) rest fits = ap (with_number Kind.PrintRegisters) (number_read_back number rest fits)
