-- The running rule is exact, and keeps the one-cent law and its own. Assumes nothing.
use Rattle.std.specs.Prelude.{◌≡◌, ℕ, ◌+◌, ◌*◌, ◌/◌, ◌<◌, ◌≤◌, List, length, take, ℤ, pos, ◌+ℤ◌, sum, slice_index, slice_index_or, unsigned_abs}
use Rattle.std.proofs.Common.{sym, ap, ◌∙◌, mul-le-mul_left, mul-zero, mul-div_cancel, arith}
use Rattle.std.proofs.Math.Nat.{zero-div}
use Rattle.rounding.specs.Nearest.{signed}
use Rattle.rounding.proofs.Signs.{signed_add}
use Rattle.std.proofs.lemmas.Nat.{div-add-mod', le-div, mod_below}
use Rattle.std.proofs.lemmas.List.FromFn.{take-map-range_with_len}
use Rattle.std.proofs.lemmas.List.{take_all, take-take}
use Rattle.std.proofs.lemmas.Int.{ints}
use Rattle.std.proofs.lemmas.List.Sums.{fold_more, sum_by_more, sum_by-take-le}
use Rattle.sharing.specs.Sharing.{Within, OneCent, Unique, added, rest_of, share_at}
use Rattle.sharing.specs.Places.{upto}
use Rattle.sharing.specs.Running.{reached, running_cents, running_at, running, RunningShares}
use Rattle.sharing.specs.ByPlace.{Near, added-signed, by_place_is, exact, length-by_place, no_rest, signed_cent}
use Rattle.sharing.specs.Upto.{upto_steps}

module _ (m : ℕ) (ws : List ℕ) (some : 0 < sum ws) where
  pub reached_up : (i : ℕ) → reached m ws i ≤ reached m ws (i + 1)
  reached_up i =
      let a = m * sum (take i ws) in
      let b = m * sum (take (i + 1) ws) in
      let rise : sum (take i ws) ≤ sum (take (i + 1) ws) = rw (take-take i (i + 1) ws (omega arith)) at (sum_by-take-le (λ x. x) (take (i + 1) ws) i) in
      le-div (a / sum ws) b (sum ws) some (omega (arith, div-add-mod' a (sum ws), mul-le-mul_left m rise))

  -- what the first i places get adds up to what they get together
  pub running-upto : (i : ℕ) → upto (running_cents m ws) i ≡ reached m ws i
  running-upto i =
      let first : reached m ws 0 ≡ 0 = ap (λ x. x / sum ws) (mul-zero m) ∙ zero-div (sum ws) in
      omega (arith, upto_steps (reached m ws) reached_up i)

  pub running_all : upto (running_cents m ws) (length ws) ≡ m
  running_all =
      running-upto (length ws) ∙ ap (λ xs. m * sum xs / sum ws) (take_all (length ws) ws (omega arith)) ∙ mul-div_cancel m some

  pub running_near : (i : ℕ) → i < length ws → Near (running_cents m ws i * sum ws) (m * slice_index ws i) (sum ws)
  running_near i h =
      let w = sum ws in
      let d = sum (take i ws) in
      let e = sum (take (i + 1) ws) in
      let more : m * e ≡ m * d + m * slice_index_or ws i 0 = omega (arith, ap (λ x. m * x) (sum_by_more (λ x. x) ws i 0 h)) in
      let parts : reached m ws (i + 1) * w ≡ (running_cents m ws i + reached m ws i) * w = ap (λ x. x * w) (omega (arith, reached_up i)) in
      omega (arith, div-add-mod' (m * d) w, div-add-mod' (m * e) w, mod_below (m * d) w some, mod_below (m * e) w some)

pub running_exact : (f : ℤ) (ws : List ℕ) → Within f ws → rest_of f (running f ws) ≡ pos 0
unfolding running
running_exact f ws w =
    no_rest f (running f ws) (exact f (running_cents (unsigned_abs f) ws) ws (running_all (unsigned_abs f) ws w.some))

pub running_cent : (f : ℤ) (ws : List ℕ) → Within f ws → OneCent f ws (running f ws)
unfolding running
running_cent f ws w = signed_cent f (running_cents (unsigned_abs f) ws) ws (running_near (unsigned_abs f) ws w.some)

keeps : (f : ℤ) (ws : List ℕ) → Within f ws → RunningShares f ws (running f ws)
unfolding running
keeps f ws w = record {
  long = length-by_place (running_at f ws) ws;
  each = λ i h. ap added (take-map-range_with_len (running_at f ws) 0 (length ws) i h)
      ∙ added-signed f (running_cents (unsigned_abs f) ws) i
      ∙ ap (signed f) (running-upto (unsigned_abs f) ws w.some i);
}

-- two sums that are known leave one share between them
between : (a b s t : ℤ) → b ≡ a +ℤ s → a +ℤ t ≡ b → s ≡ t
between a b s t p q = omega (arith, ints)

pub running_law : (f : ℤ) (ws : List ℕ) → Within f ws → Unique (RunningShares f ws) (running f ws)
unfolding running
running_law f ws w = record {
  keeps = keeps f ws w;
  only = λ ts law. by_place_is (running_at f ws) ws ts law.long (λ i h.
      let m = unsigned_abs f in
      let before = reached m ws i in
      let after = reached m ws (i + 1) in
      let step : signed f after ≡ signed f before +ℤ share_at ts i =
      sym (law.each (i + 1) (omega arith)) ∙ fold_more ◌+ℤ◌ (pos 0) ts i (pos 0) (omega (arith, law.long)) ∙ ap (λ z. z +ℤ share_at ts i) (law.each i (omega arith)) in
      let own : signed f before +ℤ running_at f ws i ≡ signed f after =
      signed_add f before (running_cents m ws i) ∙ ap (signed f) (omega (arith, reached_up m ws w.some i)) in
      between (signed f before) (signed f after) (share_at ts i) (running_at f ws i) step own);
}
