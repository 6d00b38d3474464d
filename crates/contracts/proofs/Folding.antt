-- Whatever is made row by row along a chain. Assumes nothing.
use Rattle.std.proofs.Common.{◌≡◌, ℕ, List, Some, None, fold, Option, sym, refl, ap, ◌∙◌, subst}
use Rattle.contracts.specs.declared.rows.ContractRow.{ContractRow}
use Rattle.contracts.specs.Chains.{row_at, Chain}
use Rattle.contracts.proofs.Walks.{chain_here, chain_over}

module _ {A : Type 0} (f : A → ℕ → A) (rows : List ContractRow) where
  -- A walk that began at `start` with `first` stands at `here` with `so_far`: what the rows ahead make of that is what the
  -- whole chain makes of `first`.
  pub record Folding (start : Option ℕ) (first : A) (here : Option ℕ) (so_far : A) : Type 0 where
    pub rest : (whole : List ℕ) → Chain rows start whole → (ahead : List ℕ) × Chain rows here ahead × (fold f so_far ahead ≡ fold f first whole)

  pub folding_none : (start : Option ℕ) (first : A) (here : Option ℕ) → here ≡ start → Folding start first here first
  folding_none start first here at-start = record { rest = λ whole c. (whole, subst (λ o. Chain rows o whole) (sym at-start) c, refl) }

  pub folding_more : (start : Option ℕ) (first : A) (i : ℕ) (here next : Option ℕ) (so_far : A) → here ≡ Some i → next ≡ (row_at rows i).next → Folding start first here so_far → Folding start first next (f so_far i)
  folding_more start first i here next so_far at_row onward w =
      record {
        rest = λ whole c.
            let now = w.rest whole c in
            let on = chain_here rows here i now.0 at_row now.1 in
            (on.0, subst (λ o. Chain rows o on.0) (sym onward) on.1, ap (fold f so_far) (sym on.2) ∙ now.2);
      }

  pub folding_all : (start : Option ℕ) (first : A) (here : Option ℕ) (so_far : A) → here ≡ None → Folding start first here so_far → (whole : List ℕ) → Chain rows start whole → so_far ≡ fold f first whole
  folding_all start first here so_far at-end w whole c =
      let now = w.rest whole c in ap (fold f so_far) (sym (chain_over rows here now.0 at-end now.1)) ∙ now.2
