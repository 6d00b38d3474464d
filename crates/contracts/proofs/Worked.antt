-- The worked tables, by computation. Assumes nothing.
use Rattle.std.proofs.Common.{◌≡◌, ℕ, zero, suc, ◌<◌, true, List, length, Some, None, sym, refl, arith}
use Rattle.std.proofs.lemmas.Bool.{false≢true}
use Rattle.contracts.specs.declared.rows.ContractRow.{ContractRow}
use Rattle.contracts.specs.Chains.{row_at, reaches_none, Each, CapacityWithinAt, NextInTableAt, MeetsAt, Ends}
use Rattle.contracts.specs.Figures.{circle, joining, Figures}
use Rattle.contracts.proofs.Walks.{within_rows}

-- what holds of three rows, one by one
three : (P : ℕ → Type 0) → P 0 → P 1 → P 2 → (i : ℕ) → i < 3 → P i
three P a b c zero h = a
three P a b c (suc zero) h = b
three P a b c (suc (suc zero)) h = c
three P a b c (suc (suc (suc i))) h = absurd (omega arith)

leads_to : (rows : List ContractRow) (i n : ℕ) → (row_at rows i).next ≡ Some n → n < length rows → NextInTableAt rows i
leads_to rows i n e h = record { in_table = λ j d. let same : n ≡ j = cc in omega arith }

meets_at : (rows : List ContractRow) (i n : ℕ) → (row_at rows i).next ≡ Some n → (row_at rows i).delivery ≡ (row_at rows n).receipt → MeetsAt rows i
meets_at rows i n e m = record { node = λ j d. let same : n ≡ j = cc in rw (sym same) m }

none_leads : (rows : List ContractRow) (i : ℕ) → (row_at rows i).next ≡ None → NextInTableAt rows i
none_leads rows i e = record { in_table = λ j d. cc }

none_meets : (rows : List ContractRow) (i : ℕ) → (row_at rows i).next ≡ None → MeetsAt rows i
none_meets rows i e = record { node = λ j d. cc }

circle_leads : Each NextInTableAt circle
circle_leads = three (NextInTableAt circle) (leads_to circle 0 1 refl (omega arith)) (leads_to circle 1 2 refl (omega arith)) (leads_to circle 2 1 refl (omega arith))

joining_leads : Each NextInTableAt joining
joining_leads = three (NextInTableAt joining) (leads_to joining 0 2 refl (omega arith)) (leads_to joining 1 2 refl (omega arith)) (none_leads joining 2 refl)

-- none is not reached within three rows
circle_endless : Ends circle 0 → ⊥
circle_endless e = false≢true (((within_rows circle circle_leads).reaches 0 (omega arith)).1 e)

joining_ends : Each Ends joining
joining_ends = three (Ends joining) (by 0 (omega arith) refl) (by 1 (omega arith) refl) (by 2 (omega arith) refl)
  where
    by : (i : ℕ) → i < 3 → reaches_none joining 3 (Some i) ≡ true → Ends joining i
    by i h e = ((within_rows joining joining_leads).reaches i h).0 e

pub figures : Figures
figures =
    record {
      circle_refused = (
        omega arith,
        three (CapacityWithinAt circle) (omega arith) (omega arith) (omega arith),
        circle_leads,
        three (MeetsAt circle) (meets_at circle 0 1 refl refl) (meets_at circle 1 2 refl refl) (meets_at circle 2 1 refl refl),
        record { here = omega arith; fails = circle_endless; before = λ k h. absurd (omega arith) },
      );
      number_five = refl;
      joining_passes = (
        record {
          small = omega arith;
          capacities = three (CapacityWithinAt joining) (omega arith) (omega arith) (omega arith);
          leads = joining_leads;
          meets = three (MeetsAt joining) (meets_at joining 0 2 refl refl) (meets_at joining 1 2 refl refl) (none_meets joining 2 refl);
          ends = joining_ends;
        },
        refl,
      );
    }
