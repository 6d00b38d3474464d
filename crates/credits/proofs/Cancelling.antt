-- Inner legs cancel. Assumes nothing.
use Rattle.std.proofs.Common.{◌≡◌, ℕ, ◌<◌, List, [], ◌∷◌, length, ℤ, pos, ◌+ℤ◌, ◌-ℤ◌, IfOk, Some, None, Ok, Err, fold, Option, Result, refl, ap, ◌∙◌, subst, arith}
use Rattle.std.proofs.lemmas.Int.{ints}
use Rattle.std.proofs.lemmas.Bool.{lt-ltb}
use Rattle.std.proofs.lemmas.Bool.Decides.{nat_tests}
use Rattle.contracts.specs.declared.rows.ContractRow.{ContractRow}
use Rattle.contracts.specs.Chains.{row_at, head_of, Chain, goes, Sound}
use Rattle.credits.specs.declared.nodes.NodeRecord.{NodeRecord}
use Rattle.credits.specs.declared.schedule.Schedule.{Schedule}
use Rattle.credits.specs.declared.credited.ChainCredits.{ChainCredits}
use Rattle.credits.specs.declared.faults.CreditFault.{CreditFault}
use Rattle.credits.specs.Chains.{balanced, credit_fault, credits, head_fault, total, last_row, outer_legs, chain_fault, InnerLegsCancel, TotalWithin}
use Rattle.credits.specs.Faults.{Answers, first_fault, row_fault}
use Rattle.credits.specs.Legs.{node_leg, row_credit}
use Rattle.credits.proofs.AllLimits.{sound_row, node_leg_le}

-- a sum that begins at a is a more
total_from : (a : ℤ) (cents : List ℤ) → fold ◌+ℤ◌ a cents ≡ a +ℤ total cents
total_from a [] = omega (arith, ints)
total_from a (c ∷ cents) =
    let here = total_from (a +ℤ c) cents in
    let there = total_from (pos 0 +ℤ c) cents in
    omega (arith, ints)

pub total-cons : (c : ℤ) (cents : List ℤ) → total (c ∷ cents) ≡ c +ℤ total cents
total-cons c cents = let all = total_from (pos 0 +ℤ c) cents in omega (arith, ints)

-- where a chain of a first row and others begins, and what follows the first
chain_first : (rows : List ContractRow) (o : Option ℕ) (k : ℕ) (ks : List ℕ) → Chain rows o (k ∷ ks) → (o ≡ Some k) × Chain rows (row_at rows k).next ks
chain_first rows o k ks (goes c) = (refl, c)

module _ (rows : List ContractRow) (s : Sound rows) (nodes : List NodeRecord) (b : ℤ) where
  legs_cancel : (i : ℕ) (js : List ℕ) → i < length rows → Chain rows (row_at rows i).next js → total (credits rows nodes b (i ∷ js)) ≡ node_leg nodes b (row_at rows i).receipt -ℤ node_leg nodes b (row_at rows (last_row i js)).delivery
  legs_cancel i [] h c = omega (arith, ints)
  legs_cancel i (k ∷ ks) h c =
      let first = chain_first rows (row_at rows i).next k ks c in
      let rest = legs_cancel k ks ((s.leads i h).in_table k first.0) first.1 in
      let meet = ap (node_leg nodes b) ((s.meets i h).node k first.0) in
      let all = total-cons (row_credit nodes b (row_at rows i)) (credits rows nodes b (k ∷ ks)) in
      omega (arith, ints)

pub inner_legs_cancel : (rows : List ContractRow) → Sound rows → InnerLegsCancel rows
inner_legs_cancel rows s nodes b i is h (goes {is = js} c) = legs_cancel rows s nodes b i js h c

-- where two are judged in turn and there is no fault, neither has one
pub both_sound : {F : Type 0} (a b : Option F) → first_fault a b ≡ None → (a ≡ None) × (b ≡ None)
both_sound None b e = (refl, e)
both_sound (Some f) b e = let none : Some f ≡ None = e in cc

-- the last row of a chain without a fault has none
last_sound : (rows : List ContractRow) (nodes : List NodeRecord) (i : ℕ) (js : List ℕ) → chain_fault rows nodes (i ∷ js) ≡ None → row_fault nodes (row_at rows (last_row i js)) ≡ None
last_sound rows nodes i [] e = (both_sound _ _ e).0
last_sound rows nodes i (k ∷ ks) e = last_sound rows nodes k ks (both_sound (row_fault nodes (row_at rows i)) _ e).1

pub total_within : (rows : List ContractRow) → Sound rows → TotalWithin rows
total_within rows s nodes b i is small h (goes {is = js} c) sound =
    let first = sound_row nodes (row_at rows i) (both_sound _ _ sound).0 in
    let last = sound_row nodes (row_at rows (last_row i js)) (last_sound rows nodes i js sound) in
    let receipt = node_leg_le nodes b (row_at rows i).receipt small first.0 in
    let delivery = node_leg_le nodes b (row_at rows (last_row i js)).delivery small last.1 in
    let legs = legs_cancel rows s nodes b i js h c in
    omega (arith, ints)

-- credits that are answered add up to the outer legs
pub answer_adds_up : (rows : List ContractRow) (head : ℕ) (nodes : List NodeRecord) (s : Schedule) (is : List ℕ) (r : Result ChainCredits CreditFault) → Sound rows → Chain rows (head_of rows head) is → Answers (credit_fault rows head nodes s is) (credits rows nodes (balanced rows is s) is) r → IfOk r (λ cents. total cents ≡ outer_legs rows nodes (balanced rows is s) head is)
answer_adds_up rows head nodes s is (Err f) sound chain answer = tt
answer_adds_up rows head nodes s is (Ok c) sound chain answer =
    let here = head_row rows head (both_sound (head_fault rows head) _ answer.0).0 in
    let starts : head_of rows head ≡ Some head = rw (lt-ltb head (length rows) here) refl in
    ap total answer.1 ∙ inner_legs_cancel rows sound nodes (balanced rows is s) head is here (subst (λ o. Chain rows o is) starts chain)
  where
    head_row : (rs : List ContractRow) (i : ℕ) → head_fault rs i ≡ None → i < length rs
    head_row rs i e = grind (arith, nat_tests)
