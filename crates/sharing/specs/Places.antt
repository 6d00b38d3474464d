-- Lists of shares by place, and sums and counts over places.
use Rattle.std.specs.Prelude.{ℕ, Bool, cond, List, map, length, ℤ, sum_by}
use Rattle.std.specs.List.{range_with_len}

-- one share for each weight, by its place
abbrev pub by_place : (ℕ → ℤ) → List ℕ → List ℤ
by_place s ws = map s (range_with_len 0 (length ws))

-- the sum of c over the places below n
abbrev pub upto : (ℕ → ℕ) → ℕ → ℕ
upto c n = sum_by c (range_with_len 0 n)

-- 1 where a test holds, so that `upto` counts the places where it does
abbrev pub one_if : Bool → ℕ
one_if b = cond b 1 0
