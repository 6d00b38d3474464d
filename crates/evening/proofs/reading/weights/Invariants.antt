use Rattle.std.proofs.Common.{◌≡◌, ℕ, ◌<◌, map, get_or, vec_items, vec_len, string_bytes}
use Rattle.evening.specs.Words.{IsWeight, weight_of, word_at}
use Rattle.evening.proofs.reading.weights.Given as goal

-- the words so far are read
abbrev pub invariant-loop-i : goal.invariant-loop-i
invariant-loop-i l =
    let words = map string_bytes l.words in
    (vec_len l.read ≡ l.i)
    × ((k : ℕ) → k < l.i → IsWeight (word_at words k) × (get_or (vec_items l.read) k 0 ≡ weight_of (word_at words k)))
