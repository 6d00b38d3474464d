-- The check has one right answer for a table. Assumes nothing.
use Rattle.std.proofs.Common.{◌≡◌, ℕ, List, Ok, Err, sym, refl, ap, ◌∙◌, ⊎_elim, arith}
use Rattle.std.proofs.lemmas.Bool.{cases_lt}
use Rattle.contracts.specs.declared.rows.ContractRow.{ContractRow}
use Rattle.contracts.specs.declared.faults.TableFault.{TableFault}
use Rattle.contracts.specs.declared.faults.TableFault.TheVariants.{TooManyRows, Capacity, NextNoRow, NodesApart, Endless, NoHead}
use Rattle.contracts.specs.Chains.{Each, Lowest, Sound}
use Rattle.contracts.specs.Check.{Fails, OneAnswer}

-- the lowest row that fails is one
lowest_one : (good : List ContractRow → ℕ → Type 0) (rows : List ContractRow) (i j : ℕ) → Lowest good rows i → Lowest good rows j → i ≡ j
lowest_one good rows i j a b =
    ⊎_elim
    (λ h. absurd (a.fails (b.before i h)))
    (λ h. ⊎_elim (λ k. absurd (b.fails (a.before j k))) (λ k. omega arith) (cases_lt j i))
    (cases_lt i j)

-- a row that fails is none where all pass
lowest_none : (good : List ContractRow → ℕ → Type 0) (rows : List ContractRow) (i : ℕ) → Lowest good rows i → Each good rows → ⊥
lowest_none good rows i a all = a.fails (all i a.here)

-- how far a table passes the tests: to what is said by this fault, or to the end
sound_fails : (rows : List ContractRow) (f : TableFault) → Sound rows → Fails rows f → ⊥
sound_fails rows TooManyRows s a = omega (arith, s.small)
sound_fails rows (Capacity i) s a = lowest_none _ rows i a.1 s.capacities
sound_fails rows (NextNoRow i) s a = lowest_none _ rows i a.2 s.leads
sound_fails rows (NodesApart i) s a = lowest_none _ rows i a.3 s.meets
sound_fails rows (Endless i) s a = lowest_none _ rows i a.4 s.ends
sound_fails rows NoHead s a = absurd a

fails_one : (rows : List ContractRow) (f g : TableFault) → Fails rows f → Fails rows g → f ≡ g
fails_one rows TooManyRows TooManyRows a b = refl
fails_one rows TooManyRows (Capacity j) a b = absurd (omega (arith, b.0))
fails_one rows TooManyRows (NextNoRow j) a b = absurd (omega (arith, b.0))
fails_one rows TooManyRows (NodesApart j) a b = absurd (omega (arith, b.0))
fails_one rows TooManyRows (Endless j) a b = absurd (omega (arith, b.0))
fails_one rows TooManyRows NoHead a b = absurd b
fails_one rows (Capacity i) TooManyRows a b = absurd (omega (arith, a.0))
fails_one rows (Capacity i) (Capacity j) a b = ap Capacity (lowest_one _ rows i j a.1 b.1)
fails_one rows (Capacity i) (NextNoRow j) a b = absurd (lowest_none _ rows i a.1 b.1)
fails_one rows (Capacity i) (NodesApart j) a b = absurd (lowest_none _ rows i a.1 b.1)
fails_one rows (Capacity i) (Endless j) a b = absurd (lowest_none _ rows i a.1 b.1)
fails_one rows (Capacity i) NoHead a b = absurd b
fails_one rows (NextNoRow i) TooManyRows a b = absurd (omega (arith, a.0))
fails_one rows (NextNoRow i) (Capacity j) a b = absurd (lowest_none _ rows j b.1 a.1)
fails_one rows (NextNoRow i) (NextNoRow j) a b = ap NextNoRow (lowest_one _ rows i j a.2 b.2)
fails_one rows (NextNoRow i) (NodesApart j) a b = absurd (lowest_none _ rows i a.2 b.2)
fails_one rows (NextNoRow i) (Endless j) a b = absurd (lowest_none _ rows i a.2 b.2)
fails_one rows (NextNoRow i) NoHead a b = absurd b
fails_one rows (NodesApart i) TooManyRows a b = absurd (omega (arith, a.0))
fails_one rows (NodesApart i) (Capacity j) a b = absurd (lowest_none _ rows j b.1 a.1)
fails_one rows (NodesApart i) (NextNoRow j) a b = absurd (lowest_none _ rows j b.2 a.2)
fails_one rows (NodesApart i) (NodesApart j) a b = ap NodesApart (lowest_one _ rows i j a.3 b.3)
fails_one rows (NodesApart i) (Endless j) a b = absurd (lowest_none _ rows i a.3 b.3)
fails_one rows (NodesApart i) NoHead a b = absurd b
fails_one rows (Endless i) TooManyRows a b = absurd (omega (arith, a.0))
fails_one rows (Endless i) (Capacity j) a b = absurd (lowest_none _ rows j b.1 a.1)
fails_one rows (Endless i) (NextNoRow j) a b = absurd (lowest_none _ rows j b.2 a.2)
fails_one rows (Endless i) (NodesApart j) a b = absurd (lowest_none _ rows j b.3 a.3)
fails_one rows (Endless i) (Endless j) a b = ap Endless (lowest_one _ rows i j a.4 b.4)
fails_one rows (Endless i) NoHead a b = absurd b
fails_one rows NoHead g a b = absurd a

pub one_answer : (rows : List ContractRow) → OneAnswer rows
one_answer rows (Ok m) (Ok n) a b = ap Ok (a.1 ∙ sym b.1)
one_answer rows (Ok m) (Err g) a b = absurd (sound_fails rows g a.0 b)
one_answer rows (Err f) (Ok n) a b = absurd (sound_fails rows f b.0 a)
one_answer rows (Err f) (Err g) a b = ap Err (fails_one rows f g a b)
