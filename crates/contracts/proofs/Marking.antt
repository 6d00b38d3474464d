-- The check that chains end, walk by walk: what the numbers of the walks tell. Assumes nothing.
use Rattle.std.proofs.Common.{◌≡◌, ℕ, zero, suc, ◌+◌, ◌<◌, ◌⊎◌, true, false, cond, not, eqb, List, ◌∷◌, length, get_or, set, replicate, Some, None, count_by, Option, inl, inr, sym, refl, ap, subst, ⊎_elim, arith}
use Rattle.std.specs.Prelude.{IsTrue, ◌↔◌}
use Rattle.std.specs.Option.{is_none}
use Rattle.std.proofs.lemmas.List.{get_or-set_same, get_or-set_other}
use Rattle.std.proofs.lemmas.List.Sums.{sum_by-set}
use Rattle.std.proofs.lemmas.Bool.{cases_eq, false≢true}
use Rattle.std.proofs.lemmas.Bool.Decides.{nat_tests}
use Rattle.contracts.specs.declared.rows.ContractRow.{ContractRow}
use Rattle.contracts.specs.Chains.{row_at, Chain, goes, Ends}
use Rattle.contracts.specs.Walks.{Walked}
use Rattle.contracts.proofs.Walks.{chain_one}

module _ (rows : List ContractRow) where
  -- a row lies before the place where the walk stands
  pub record Before (k : ℕ) (o : Option ℕ) : Type 0 where
    pub back : (is : List ℕ) → Chain rows o is → Ends rows k
    pub forth : (is : List ℕ) → Chain rows (Some k) is → (js : List ℕ) × Chain rows o js × (length js < length is)

  before_next : (i : ℕ) → Before i (row_at rows i).next
  before_next i = record { back = λ is c. record { members = i ∷ is; chain = goes c }; forth = ahead }
    where
      ahead : (is : List ℕ) → Chain rows (Some i) is → (js : List ℕ) × Chain rows (row_at rows i).next js × (length js < length is)
      ahead is (goes {is = js} c) = (js, c, omega arith)

  before_more : (k i : ℕ) → Before k (Some i) → Before k (row_at rows i).next
  before_more k i b =
      record {
        back = λ is c. b.back (i ∷ is) (goes c);
        forth = λ is c.
            let one = b.forth is c in
            let two = (before_next i).forth one.0 one.1 in
            (two.0, two.1, omega (arith, one.2, two.2));
      }

  -- a row that lies before itself is on a circle
  pub before_itself : (k : ℕ) → Before k (Some k) → Ends rows k → ⊥
  before_itself k b e =
      let again = b.forth e.members e.chain in
      let same = ap length (chain_one rows (Some k) e.members again.0 e.chain again.1) in
      omega (arith, again.2)

  -- The walk from row `first` stands at o: earlier walks have ended, and what this one saw lies before o.
  pub record Walking (first : ℕ) (o : Option ℕ) (walks : List (Option ℕ)) : Type 0 where
    pub seen : (k walk : ℕ) → get_or walks k None ≡ Some walk → ((walk < first) × Ends rows k) ⊎ ((walk ≡ first) × Before k o)
    pub back : (is : List ℕ) → Chain rows o is → Ends rows first
    pub forth : Ends rows first → (is : List ℕ) × Chain rows o is

  -- before the first walk no row is seen
  pub walked_none : (n : ℕ) → Walked rows 0 (replicate n None)
  walked_none n = record { low = λ k walk e. absurd (nones n k walk e); ends = λ k walk e. absurd (nones n k walk e) }
    where
      nones : (m k walk : ℕ) → get_or {A = Option ℕ} (replicate m None) k None ≡ Some walk → ⊥
      nones zero k walk e = cc
      nones (suc m) zero walk e = cc
      nones (suc m) (suc k) walk e = nones m k walk e

  pub walking_none : (first : ℕ) (walks : List (Option ℕ)) → Walked rows first walks → Walking first (Some first) walks
  walking_none first walks w =
      record {
        seen = λ k walk e. inl (w.low k walk e, w.ends k walk e);
        back = λ is c. record { members = is; chain = c };
        forth = λ e. (e.members, e.chain);
      }

  pub walking_more : (first i : ℕ) (walks : List (Option ℕ)) → i < length walks → Walking first (Some i) walks → Walking first (row_at rows i).next (set walks i (Some first))
  walking_more first i walks h w =
      record {
        seen = λ k walk e. ⊎_elim
            (λ s.
            let here : get_or (set walks i (Some first)) k None ≡ Some first = rw s (get_or-set_same walks i (Some first) None h) in
            inr (cc, subst (λ x. Before x (row_at rows i).next) (sym s) (before_next i)))
            (λ n.
            let other = get_or-set_other walks i k (Some first) None n in
            ⊎_elim (λ a. inl a) (λ b. inr (b.0, before_more k i b.1)) (w.seen k walk cc))
            (cases_eq k i);
        back = λ is c. w.back (i ∷ is) (goes c);
        forth = λ e.
            let here = w.forth e in
            let next = (before_next i).forth here.0 here.1 in
            (next.0, next.1);
      }

  -- from where the walk stands, the chain ends: so do the chains of all that it saw
  pub walking_ends : (first : ℕ) (o : Option ℕ) (walks : List (Option ℕ)) (is : List ℕ) → Chain rows o is → Walking first o walks → Walked rows (first + 1) walks
  walking_ends first o walks is c w =
      record {
        low = λ k walk e. ⊎_elim (λ a. omega (arith, a.0)) (λ b. omega (arith, b.0)) (w.seen k walk e);
        ends = λ k walk e. ⊎_elim (λ a. a.1) (λ b. b.1.back is c) (w.seen k walk e);
      }

  -- what a walk tells that meets a row seen before: that it is back at a row of its own, or at one that is known to end
  pub walking_stopped : (first i walk : ℕ) (walks : List (Option ℕ)) → get_or walks i None ≡ Some walk → Walking first (Some i) walks → (IsTrue (not (eqb walk first)) ↔ Ends rows first) × (IsTrue (not (eqb walk first)) → Walked rows (first + 1) walks)
  walking_stopped first i walk walks seen w =
      ⊎_elim
      (λ a.
      let yes : not (eqb walk first) ≡ true = grind (arith, nat_tests, a.0) in
      rw yes ((λ _. w.back a.1.members a.1.chain, λ _. refl), λ _. walking_ends first (Some i) walks a.1.members a.1.chain w))
      (λ b.
      let no : not (eqb walk first) ≡ false = grind (arith, nat_tests, b.0) in
      let circle : Ends rows first → ⊥ = λ e. let here = w.forth e in before_itself i b.1 (record { members = here.0; chain = here.1 }) in
      rw no ((λ h. absurd (false≢true h), λ e. absurd (circle e)), λ h. absurd (false≢true h)))
      (w.seen i walk seen)

-- how many rows no walk has seen
abbrev pub unseen : List (Option ℕ) → ℕ
unseen walks = count_by is_none walks

pub unseen_falls : (walks : List (Option ℕ)) (i walk : ℕ) → i < length walks → get_or walks i None ≡ None → unseen (set walks i (Some walk)) < unseen walks
unseen_falls walks i walk h e =
    let changed = sum_by-set (λ w. cond (is_none w) 1 0) walks i (Some walk) None h in
    grind (arith, changed)
