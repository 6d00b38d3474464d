-- The weighted price of a node's record, and the bounds inside which a record has one.
use Rattle.std.specs.Prelude.{ℕ, ◌+◌, Bool, cond, ◌&&◌, List, ℤ, pos, ◌+ℤ◌, ◌*ℤ◌, nat_le, nat_lt, slice_index_or, unsigned_abs}
use Rattle.rounding.specs.Nearest.{nearest}
use Rattle.credits.specs.declared.nodes.NodeRecord.{NodeRecord}

-- the record of a node; where there is none, one of zeros
abbrev pub node_at : List NodeRecord → ℕ → NodeRecord
node_at nodes n = slice_index_or nodes n (record { fifteen_minute_deviation = 0; dispatch_deviation = 0; fifteen_minute_price = pos 0; dispatch_price = pos 0 })

-- the sum of the deviations
abbrev pub total_deviation : NodeRecord → ℕ
total_deviation r = r.fifteen_minute_deviation + r.dispatch_deviation

-- price × deviation in one market, and the sum over both
unfoldable pub weighed : ℤ → ℕ → ℤ
weighed price deviation = price *ℤ pos deviation

abbrev pub weighted_sum : NodeRecord → ℤ
weighted_sum r = weighed r.fifteen_minute_price r.fifteen_minute_deviation +ℤ weighed r.dispatch_price r.dispatch_deviation

-- the mean of the prices, each weighted by its deviation, and their plain mean
abbrev pub weighted_mean : NodeRecord → ℤ
weighted_mean r = nearest (weighted_sum r) (total_deviation r)

abbrev pub plain_mean : NodeRecord → ℤ
plain_mean r = nearest (r.fifteen_minute_price +ℤ r.dispatch_price) 2

-- the weighted price; where nothing deviated, the plain mean
unfoldable pub weighted_price : NodeRecord → ℤ
weighted_price r = cond (nat_lt (total_deviation r) 1) (plain_mean r) (weighted_mean r)

-- a deviation of at most 1,000 MWh, and a price of at most 1,000 dollars either way
abbrev pub deviation_within : ℕ → Bool
deviation_within d = nat_le d 1000000

abbrev pub price_within : ℤ → Bool
price_within p = nat_le (unsigned_abs p) 100000000

abbrev pub within_bounds : NodeRecord → Bool
within_bounds r =
    deviation_within r.fifteen_minute_deviation && deviation_within r.dispatch_deviation && price_within r.fifteen_minute_price && price_within r.dispatch_price
