-- The credits of a chain, made row by row. Assumes nothing.
use Rattle.std.proofs.Common.{◌≡◌, ℕ, ◌+◌, ◌<◌, List, [], ◌∷◌, ◌++◌, length, ℤ, Some, None, Option, sym, refl, ap, ◌∙◌, subst, arith, length-append}
use Rattle.std.proofs.lemmas.List.{append-nil, append_assoc}
use Rattle.contracts.specs.declared.rows.ContractRow.{ContractRow}
use Rattle.contracts.specs.Chains.{row_at, Chain, Sound}
use Rattle.contracts.proofs.Walks.{Inside, chain_here, chain_over, chain_short}
use Rattle.contracts.proofs.Sounds.{sound_chain}
use Rattle.credits.specs.declared.nodes.NodeRecord.{NodeRecord}
use Rattle.credits.specs.declared.faults.PriceFault.{PriceFault}
use Rattle.credits.specs.Chains.{credits, chain_fault}
use Rattle.credits.specs.Faults.{row_fault}
use Rattle.credits.specs.Legs.{row_credit}

module _ (rows : List ContractRow) (nodes : List NodeRecord) (quantity : ℤ) where
  -- A walk on a whole chain stands at `here`, and has made some credits: with those of the rows ahead they are the credits
  -- of the whole chain, and what fault there is lies ahead.
  pub record Ahead (here : Option ℕ) (made : List ℤ) (whole : List ℕ) : Type 0 where
    pub members : List ℕ
    pub chain : Chain rows here members
    pub makes : made ++ credits rows nodes quantity members ≡ credits rows nodes quantity whole
    pub fault : chain_fault rows nodes members ≡ chain_fault rows nodes whole
    pub count : length made + length members ≡ length whole

  -- the same of the chain that begins at `start`, whichever rows it has
  pub record Crediting (start here : Option ℕ) (made : List ℤ) : Type 0 where
    pub ahead : (whole : List ℕ) → Chain rows start whole → Ahead here made whole

  pub crediting_none : (start here : Option ℕ) → here ≡ start → Crediting start here []
  crediting_none start here e =
      record {
        ahead = λ whole c. record {
          members = whole;
          chain = subst (λ o. Chain rows o whole) (sym e) c;
          makes = refl;
          fault = refl;
          count = omega arith;
        };
      }

  -- one row on
  pub crediting_more : (start : Option ℕ) (i : ℕ) (here next : Option ℕ) (made : List ℤ) (cents : ℤ) → here ≡ Some i → next ≡ (row_at rows i).next → row_fault nodes (row_at rows i) ≡ None → cents ≡ row_credit nodes quantity (row_at rows i) → Crediting start here made → Crediting start next (made ++ cents ∷ [])
  crediting_more start i here next made cents at_row onward sound value w =
      record {
        ahead = λ whole chain.
            let now = w.ahead whole chain in
            let on = chain_here rows here i now.members at_row now.chain in
            let js = on.0 in
            let makes = rw on.2 at now.makes in
            record {
              members = js;
              chain = subst (λ o. Chain rows o js) (sym onward) on.1;
              makes = append_assoc made (cents ∷ []) (credits rows nodes quantity js) ∙ ap (λ x. made ++ x ∷ credits rows nodes quantity js) value ∙ makes;
              fault = rw (on.2, sound) at now.fault;
              count = omega (arith, length-append made (cents ∷ []), ap length on.2, now.count);
            };
      }

  -- on a sound table there is room for the credit of each row
  pub crediting_room : (start : Option ℕ) (i : ℕ) (here : Option ℕ) (made : List ℤ) → Sound rows → Inside rows start → here ≡ Some i → Crediting start here made → length made < 256
  crediting_room start i here made s inside at_row w =
      let whole = sound_chain rows s start inside in
      let now = w.ahead whole.0 whole.1 in
      let short = chain_short rows s.leads start whole.0 inside whole.1 in
      let on = chain_here rows here i now.members at_row now.chain in
      omega (arith, ap length on.2, now.count, s.small)

  -- a fault here is the first of the chain
  pub crediting_fault : (start : Option ℕ) (i : ℕ) (here : Option ℕ) (made : List ℤ) (f : PriceFault) → here ≡ Some i → row_fault nodes (row_at rows i) ≡ Some f → Crediting start here made → (whole : List ℕ) → Chain rows start whole → chain_fault rows nodes whole ≡ Some f
  crediting_fault start i here made f at_row wrong w whole chain =
      let now = w.ahead whole chain in
      let on = chain_here rows here i now.members at_row now.chain in
      sym (rw (on.2, wrong) at now.fault)

  -- at the end there is no fault, and all is made
  pub crediting_all : (start here : Option ℕ) (made : List ℤ) → here ≡ None → Crediting start here made → (whole : List ℕ) → Chain rows start whole → (chain_fault rows nodes whole ≡ None) × (made ≡ credits rows nodes quantity whole)
  crediting_all start here made at-end w whole chain =
      let now = w.ahead whole chain in
      let over = chain_over rows here now.members at-end now.chain in
      (sym (rw over at now.fault), sym (append-nil made) ∙ rw over at now.makes)
