-- What a walk yields along a chain. Assumes nothing.
use Rattle.std.proofs.Common.{◌≡◌, ℕ, List, map, Some, None, Option, MatchOption, ap, ◌∙◌}
use Rattle.std.specs.Iterator.{AlwaysYields}
use Rattle.contracts.specs.declared.chain.ChainRows.{ChainRows}
use Rattle.contracts.specs.declared.rows.ContractRow.{ContractRow}
use Rattle.contracts.specs.Chains.{row_at, Chain, done, goes}

-- a call of a walk's `next`
abbrev pub Steps : ChainRows → Option (ℕ × ContractRow) → ChainRows → Type 0
Steps s r t = (t.rows.now ≡ s.rows.now) × MatchOption r ((s.place ≡ None) × (t.place ≡ None)) (λ x. (s.place ≡ Some x.0) × (x.1 ≡ row_at s.rows.now x.0) × (t.place ≡ x.1.next))

-- along a chain, a walk yields the chain's rows, and so their capacities
pub capacities_yielded : (rows : List ContractRow) (o : Option ℕ) (is : List ℕ) → Chain rows o is → (s : ChainRows) → s.rows.now ≡ rows → s.place ≡ o → AlwaysYields Steps (λ x. x.1.capacity) s (map (λ i. (row_at rows i).capacity) is)
capacities_yielded rows o is done s same here = λ x j step. let at_row = step.1.0 in cc
capacities_yielded rows o is (goes {i = i} {is = js} c) s same here = (
  λ j step. let at_end = step.1.0 in cc,
  λ x j step.
      let at_row = step.1.0 in
      let place : x.0 ≡ i = cc in
      let row : x.1 ≡ row_at rows i = step.1.1 ∙ ap (λ rs. row_at rs x.0) same ∙ ap (row_at rows) place in
      (ap (λ r. r.capacity) row, capacities_yielded rows _ js c j (step.0 ∙ same) (step.1.2 ∙ ap (λ r. r.next) row)),
)
