-- What a chain carries is the least of a quantity and its capacities. Assumes nothing.
use Rattle.std.proofs.Common.{◌≡◌, ℕ, zero, suc, ◌<◌, ◌≤◌, List, [], ◌∷◌, length, inl, inr, ⊎_elim, arith}
use Rattle.std.proofs.lemmas.Bool.{cases_lt}
use Rattle.contracts.specs.declared.rows.ContractRow.{ContractRow}
use Rattle.contracts.specs.Chains.{row_at, carried, carried_by, capacity_on, Least}

-- one row before a chain
least_cons : (rows : List ContractRow) (quantity i : ℕ) (is : List ℕ) (least : ℕ) → Least rows (carried_by rows quantity i) is least → Least rows quantity (i ∷ is) least
least_cons rows quantity i is least w =
    record {
      most = omega (arith, w.most);
      each = each;
      one_of = ⊎_elim
          (λ e. ⊎_elim (λ h. inl (omega arith)) (λ h. inr (0, omega arith, omega arith)) (cases_lt quantity (row_at rows i).capacity))
          (λ here. inr (suc here.0, omega (arith, here.1), here.2))
          w.one_of;
    }
  where
    each : (p : ℕ) → p < length (i ∷ is) → least ≤ capacity_on rows (i ∷ is) p
    each zero h = omega (arith, w.most)
    each (suc p) h = w.each p (omega arith)

pub carried_least : (rows : List ContractRow) (quantity : ℕ) (is : List ℕ) (least : ℕ) → least ≡ carried rows quantity is → Least rows quantity is least
carried_least rows quantity [] least e = record { most = omega arith; each = λ p h. absurd (omega arith); one_of = inl e }
carried_least rows quantity (i ∷ is) least e = least_cons rows quantity i is least (carried_least rows (carried_by rows quantity i) is least e)
