use Rattle.std.proofs.Common.{◌≡◌, ℕ, ◌+◌, ◌<◌, ◌≤◌, min, Bool, true, false, refl, sum, Bor, MatchBool, ◌∙◌, ap, rules, arith}
use Rattle.std.proofs.lemmas.List.Folds.{fold_along}
use Rattle.sharing.proofs.bounds.total_weight.Goals as goal

-- a run over all weights, and one that broke off
either : {P Q G : Type 0} (whole : Bool) → MatchBool whole P Q → (whole ≡ true → P → G) → (Q → G) → G
either true m all some = all refl m
either false m all some = some m

-- The total is the fold of two steps: of the plain sum, and of the sum cut off at the limit, which never passes it.
pub returns : goal.returns
returns c =
    let run = c.try_fold.ensures.runs in
    let p = run.0 in
    let items = c.iter.ensures.runs p p.seen in
    let plain : ℕ → Bor ℕ → ℕ = λ b x. b + x.now in
    let cut : ℕ → Bor ℕ → ℕ = λ b x. min (b + x.now) 4000000000 in
    let same : sum p.from.rest.now ≡ sum c.args.weights.now = ap (λ s. sum s.rest.now) run.1 ∙ ap sum c.iter.ensures.rest in
    either p.whole run.2
    (λ whole end.
    let total = end.2 plain (λ b x v y f' k e. search rules) ∙ items.5 (λ b x. b + x) 0 whole ∙ same in
    let most = fold_along cut (λ (d : ℕ) x. d) (λ b d. b ≤ 4000000000) (λ b d x h. omega arith) 0 0 p.items (omega arith) in
    rw end.1 (total, omega (arith, end.2 cut (λ b x v y f' k e. search rules))))
    (λ broke.
    let last = broke.3 in
    let over : 4000000000 < last.1 + last.0.now = search (rules, last.7, last.8) in
    let here = last.9 plain (λ b x v y f' k e. search rules) in
    rw broke.1 (omega (arith, here.0, items.7 (λ b x. b + x) 0 (λ b x. omega arith))))
