-- The rate rule keeps the one-cent law and its own. Assumes nothing.
use Rattle.std.specs.Prelude.{ℕ, List, ℤ, pos, ◌*ℤ◌, sum, slice_index}
use Rattle.std.proofs.Common.{arith}
use Rattle.std.proofs.lemmas.Int.{ints}
use Rattle.rounding.proofs.Law.{nearest_law, nearest_only, nearest_halfway}
use Rattle.sharing.specs.Sharing.{Within, OneCent, Unique, share_at}
use Rattle.sharing.specs.Rate.{rate, rate_at, NearestShares}
use Rattle.sharing.specs.ByPlace.{by_place_at, by_place_is, length-by_place, one_cent}

pub rate_cent : (f : ℤ) (ws : List ℕ) → Within f ws → OneCent f ws (rate f ws)
unfolding rate
rate_cent f ws w =
    one_cent f ws (rate_at f ws) (λ i h. omega (arith, ints, nearest_halfway (f *ℤ pos (slice_index ws i)) (sum ws) w.some))

keeps : (f : ℤ) (ws : List ℕ) → Within f ws → NearestShares f ws (rate f ws)
unfolding rate
keeps f ws w = record {
  long = length-by_place (rate_at f ws) ws;
  each = λ i h. rw (by_place_at (rate_at f ws) ws i h) (nearest_law (f *ℤ pos (slice_index ws i)) (sum ws) w.some);
}

pub rate_law : (f : ℤ) (ws : List ℕ) → Within f ws → Unique (NearestShares f ws) (rate f ws)
unfolding rate
rate_law f ws w = record {
  keeps = keeps f ws w;
  only = λ ts law. by_place_is (rate_at f ws) ws ts law.long (λ i h.
      let n = f *ℤ pos (slice_index ws i) in
      nearest_only n (sum ws) w.some (rate_at f ws i) (nearest_law n (sum ws) w.some) (share_at ts i) (law.each i h));
}
