-- Sound tables: what comes out of a table's invariant, and why a walk on one ends. Assumes nothing.
use Rattle.std.proofs.Common.{◌≡◌, ℕ, zero, suc, ◌<◌, ◌≤◌, Bool, true, false, cond, List, [], length, Some, None, Option, refl, ap, arith}
use mathlib.Core.Logic.{∥∥₁_elim}
use native.Mathlib.Bridge.{le_prop}
use native.Mathlib.Nat.{ℕ_set}
use Rattle.contracts.specs.declared.rows.ContractRow.{ContractRow}
use Rattle.std.proofs.lemmas.Bool.Decides.{nat_tests}
use Rattle.contracts.specs.Chains.{row_at, head_of, Chain, done, goes, Ends, Sound, reaches_none}
use Rattle.contracts.specs.Walks.{rows_left}
use Rattle.contracts.proofs.Walks.{Inside, row_inside, chain_short, chain_from_reached, reached_from_chain, chain_next}

-- The invariant of a table is truncated. Each part comes out again, since it is an order or an equation of numbers; that
-- chains end does as the number that tells whether none is reached.
pub sound_of : (rows : List ContractRow) → ∥ Sound rows ∥₁ → Sound rows
sound_of rows t =
    record {
      small = ∥∥₁_elim t le_prop (λ s. s.small);
      capacities = λ i h. ∥∥₁_elim t le_prop (λ s. s.capacities i h);
      leads = λ i h. record { in_table = λ j l. ∥∥₁_elim t le_prop (λ s. (s.leads i h).in_table j l) };
      meets = λ i h. record { node = λ j l. ∥∥₁_elim t (ℕ_set _ _) (λ s. (s.meets i h).node j l) };
      ends = λ i h. ended i (∥∥₁_elim t (ℕ_set _ _) (λ s. within i h s));
    }
  where
    told : Bool → ℕ
    told b = cond b 1 0

    true_from_told : (b : Bool) → told b ≡ 1 → b ≡ true
    true_from_told true e = refl
    true_from_told false e = absurd (omega arith)

    within : (i : ℕ) → i < length rows → Sound rows → told (reaches_none rows (length rows) (Some i)) ≡ 1
    within i h s =
        let e = s.ends i h in
        let short = chain_short rows s.leads (Some i) e.members (row_inside rows i h) e.chain in
        ap told (reached_from_chain rows (length rows) (Some i) e.members e.chain short)

    ended : (i : ℕ) → told (reaches_none rows (length rows) (Some i)) ≡ 1 → Ends rows i
    ended i e =
        let c = chain_from_reached rows (length rows) (Some i) (true_from_told _ e) in
        record { members = c.0; chain = c.1 }

pub rows_left_chain : (rows : List ContractRow) (n : ℕ) (o : Option ℕ) (is : List ℕ) → Chain rows o is → length is ≤ n → rows_left rows n o ≡ length is
unfolding rows_left
rows_left_chain rows n o is done h = refl
rows_left_chain rows zero o is (goes c) h = absurd (omega arith)
rows_left_chain rows (suc n) o is (goes {i = i} {is = js} c) h = ap suc (rows_left_chain rows n (row_at rows i).next js c (omega arith))

-- a walk on a sound table stands inside it again after a row,
pub sound_inside : (rows : List ContractRow) → Sound rows → (i : ℕ) → i < length rows → Inside rows (row_at rows i).next
sound_inside rows s i h = (s.leads i h).in_table

-- and has fewer rows before it
pub sound_falls : (rows : List ContractRow) → Sound rows → (o : Option ℕ) (i : ℕ) → o ≡ Some i → i < length rows → rows_left rows (length rows) (row_at rows i).next < rows_left rows (length rows) o
sound_falls rows s o i here h =
    let e = s.ends i h in
    let short = chain_short rows s.leads (Some i) e.members (row_inside rows i h) e.chain in
    let next = chain_next rows i e.members e.chain in
    let longer = ap length next.2 in
    let after = rows_left_chain rows (length rows) (row_at rows i).next next.0 next.1 (omega arith) in
    rw here (omega (arith, rows_left_chain rows (length rows) (Some i) e.members e.chain short))

-- from everywhere inside, a sound table has a chain
pub sound_chain : (rows : List ContractRow) → Sound rows → (o : Option ℕ) → Inside rows o → (is : List ℕ) × Chain rows o is
sound_chain rows s None inside = ([], done)
sound_chain rows s (Some i) inside = let e = s.ends i (inside i refl) in (e.members, e.chain)

-- a chain that is to begin at row i begins inside the table
pub head_inside : (rows : List ContractRow) (i : ℕ) → Inside rows (head_of rows i)
head_inside rows i j e = grind (arith, nat_tests)
