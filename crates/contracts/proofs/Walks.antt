-- A chain has no row twice, so it has at most as many rows as the table. Assumes nothing.
use Rattle.std.proofs.Common.{◌≡◌, ℕ, zero, suc, ◌<◌, ◌≤◌, true, eqb, List, [], ◌∷◌, length, get_or, drop, Some, None, Option, refl, ap, subst, arith, length-drop}
use Rattle.std.proofs.lemmas.Bool.{false≢true}
use Rattle.std.proofs.lemmas.Bool.Decides.{nat_tests}
use Rattle.std.proofs.lemmas.List.Folds.{Any-from_list_any}
use Rattle.std.proofs.lemmas.Map.Keys.{IsDistinct-from_apart}
use Rattle.std.proofs.lemmas.Map.Steps.{length-le_from_distinct_below}
use Rattle.contracts.specs.declared.rows.ContractRow.{ContractRow}
use Rattle.contracts.specs.Chains.{row_at, Chain, done, goes, reaches_none, NextInTableAt, Each}
use Rattle.contracts.specs.Check.{WithinRows}

-- a walk stands at a row of the table, or at none
abbrev pub Inside : List ContractRow → Option ℕ → Type 0
Inside rows o = (j : ℕ) → o ≡ Some j → j < length rows

module _ (rows : List ContractRow) where
  -- from each place there is one chain at most
  pub chain_one : (o : Option ℕ) (is js : List ℕ) → Chain rows o is → Chain rows o js → is ≡ js
  chain_one o is js done done = refl
  chain_one o is js (goes {i = i} {is = ks} c) (goes {is = ls} d) = ap (λ xs. i ∷ xs) (chain_one (row_at rows i).next ks ls c d)

  -- from each row of a chain on, what is left is the chain of that row
  pub chain_drop : (o : Option ℕ) (is : List ℕ) (p d : ℕ) → Chain rows o is → p < length is → Chain rows (Some (get_or is p d)) (drop p is)
  chain_drop o is p d done h = absurd (omega arith)
  chain_drop o is zero d (goes c) h = goes c
  chain_drop o is (suc p) d (goes {i = i} {is = js} c) h = chain_drop (row_at rows i).next js p d c (omega arith)

  -- what is left after a row of a chain
  pub chain_next : (i : ℕ) (is : List ℕ) → Chain rows (Some i) is → (js : List ℕ) × Chain rows (row_at rows i).next js × (is ≡ i ∷ js)
  chain_next i is (goes {is = js} c) = (js, c, refl)

  -- the same of what a walk has before it that stands at row i, and at none
  pub chain_here : (o : Option ℕ) (i : ℕ) (is : List ℕ) → o ≡ Some i → Chain rows o is → (js : List ℕ) × Chain rows (row_at rows i).next js × (is ≡ i ∷ js)
  chain_here o i is e c = chain_next i is (subst (λ p. Chain rows p is) e c)

  pub chain_over : (o : Option ℕ) (is : List ℕ) → o ≡ None → Chain rows o is → is ≡ []
  chain_over o is e c = none is (subst (λ p. Chain rows p is) e c)
    where
      none : (js : List ℕ) → Chain rows None js → js ≡ []
      none js done = refl

  module _ (leads : Each NextInTableAt rows) where
    -- every row of a chain is a row of the table
    pub chain_rows : (o : Option ℕ) (is : List ℕ) (p d : ℕ) → Inside rows o → Chain rows o is → p < length is → get_or is p d < length rows
    chain_rows o is p d inside done h = absurd (omega arith)
    chain_rows o is zero d inside (goes {i = i} c) h = inside i refl
    chain_rows o is (suc p) d inside (goes {i = i} {is = js} c) h = chain_rows (row_at rows i).next js p d (leads i (inside i refl)).in_table c (omega arith)

    -- equal rows have equal rests, and so the same place
    pub chain_apart : (o : Option ℕ) (is : List ℕ) → Chain rows o is → (p q d : ℕ) → p < length is → q < length is → get_or is p d ≡ get_or is q d → p ≡ q
    chain_apart o is c p q d h k e =
        let here : Chain rows (Some (get_or is q d)) (drop p is) = subst (λ x. Chain rows (Some x) (drop p is)) e (chain_drop o is p d c h) in
        let same = ap length (chain_one (Some (get_or is q d)) (drop p is) (drop q is) here (chain_drop o is q d c k)) in
        omega (arith, length-drop p is, length-drop q is)

    pub chain_short : (o : Option ℕ) (is : List ℕ) → Inside rows o → Chain rows o is → length is ≤ length rows
    chain_short o is inside c =
        length-le_from_distinct_below is (length rows)
        (IsDistinct-from_apart eqb is (λ p q d h k. let apart = chain_apart o is c p q d (omega arith) k in grind (arith, nat_tests)))
        (λ i found.
        let at = Any-from_list_any (eqb i) is found in
        let inside = chain_rows o is at.0 at.1 inside c at.2 in
        grind (arith, nat_tests, at.3, at.4))

  pub reached_from_chain : (n : ℕ) (o : Option ℕ) (is : List ℕ) → Chain rows o is → length is ≤ n → reaches_none rows n o ≡ true
  reached_from_chain n o is done h = refl
  reached_from_chain zero o is (goes c) h = absurd (omega arith)
  reached_from_chain (suc n) o is (goes {i = i} {is = js} c) h = reached_from_chain n (row_at rows i).next js c (omega arith)

  pub chain_from_reached : (n : ℕ) (o : Option ℕ) → reaches_none rows n o ≡ true → (is : List ℕ) × Chain rows o is
  chain_from_reached n None e = ([], done)
  chain_from_reached zero (Some i) e = absurd (false≢true e)
  chain_from_reached (suc n) (Some i) e =
      let rest = chain_from_reached n (row_at rows i).next e in
      (i ∷ rest.0, goes rest.1)

  pub row_inside : (i : ℕ) → i < length rows → Inside rows (Some i)
  row_inside i h j e = let same : i ≡ j = cc in omega arith

  pub within_rows : Each NextInTableAt rows → WithinRows rows
  within_rows leads =
      record {
        reaches = λ i h. (
          λ e. let c = chain_from_reached (length rows) (Some i) e in record { members = c.0; chain = c.1 },
          λ e. reached_from_chain (length rows) (Some i) e.members e.chain (chain_short leads (Some i) e.members (row_inside i h) e.chain),
        );
        no_row_twice = λ i is h c p q. chain_apart leads (Some i) is c p q 0;
        short = λ i is h c. chain_short leads (Some i) is (row_inside i h) c;
      }
