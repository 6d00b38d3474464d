use Rattle.std.proofs.Common.{◌≡◌, ℕ, List, [], ◌∷◌, min, fold, refl, ◌∙◌, rules}
use Rattle.std.proofs.lemmas.Fn.{fold_over}
use Rattle.std.proofs.lemmas.List.Folds.{fold-map}
use Rattle.std.proofs.lemmas.List.Sums.{fold-append}
use Rattle.contracts.specs.Chains.{Chain, row_at, carried}
use Rattle.contracts.proofs.Carrying.{carried_least}
use Rattle.contracts.proofs.Sounds.{sound_of, sound_chain}
use Rattle.contracts.proofs.Yielding.{Steps, capacities_yielded}
use Rattle.contracts.proofs.table.least_along.Goals as goal

pub returns : goal.returns
returns c =
    let least : (is : List ℕ) → Chain c.args.walk.rows.now c.args.walk.place is → c.fold.result ≡ carried c.args.walk.rows.now c.args.quantity is = λ is chain.
    fold_over Steps (λ x. x.1.capacity) _ (λ capacities made. made ≡ fold min c.args.quantity capacities) _
    (λ ys a x b f' j k. let more = fold-append min c.args.quantity ys (x.1.capacity ∷ []) in search rules)
    _ _ _ _ (capacities_yielded _ _ is chain c.args.walk refl refl) refl c.fold.ensures.ran
    ∙ fold-map min (λ i. (row_at c.args.walk.rows.now i).capacity) c.args.quantity is in
    let all = sound_chain _ (sound_of _ c.args.walk.sound) _ c.args.walk.inside in
    let law = λ (is : List ℕ) (chain : Chain c.args.walk.rows.now c.args.walk.place is). carried_least c.args.walk.rows.now c.args.quantity is c.fold.result (least is chain) in
    record { most = (law all.0 all.1).most; least = least; law = law }
