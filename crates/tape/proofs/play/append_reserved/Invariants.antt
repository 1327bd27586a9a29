use Rattle.std.proofs.Common.{◌≡◌, ◌+◌, ◌++◌, take, vec_len, vec_items, vec_capacity}
use Rattle.tape.proofs.play.append_reserved.Given as goal

abbrev pub invariant-loop-byte : goal.invariant-loop-byte
invariant-loop-byte l =
    (vec_items l.printed ≡ vec_items l.initial.printed ++ take l.byte-index l.bytes) × (vec_len l.printed ≡ vec_len l.initial.printed + l.byte-index) × (vec_capacity l.printed ≡ vec_capacity l.initial.printed)
