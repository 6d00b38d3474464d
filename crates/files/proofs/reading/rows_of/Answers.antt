use Rattle.std.proofs.Common.{◌≡◌, [], ◌∷◌, ◌++◌, length, vec_items, sym, refl, subst, rules}
use Rattle.std.proofs.lemmas.Slice.{pushed}
use Rattle.files.specs.Fields.{Front}
use Rattle.files.proofs.LineByLine.{SoFar, one_more, shorter, all_read}
use Rattle.files.proofs.reading.rows_of.Given as given
use Rattle.files.proofs.reading.rows_of.Goals as goal

-- the line of the row that was read
here : (g : given.Over) (c : goal.In_ok-push g) → Front g.R.LineText.line g.R.LineText.writable c.loop-left.left.now c.in_ok-row.row c.in_ok-row.rest.now
here g c = search rules

pub loop-left-smaller : goal.loop-left-smaller
loop-left-smaller g c = shorter _ _ _ _ _ (here g c) (g.met.R.LineText.some c.in_ok-row.row)

pub loop-left-preserved : goal.loop-left-preserved
loop-left-preserved g c =
    let line = g.R.LineText.line in
    let Writable = g.R.LineText.writable in
    let before = vec_items c.loop-left.rows in
    let row = c.in_ok-row.row in
    let rest = c.in_ok-row.rest.now in
    let items : vec_items c.push.new.self ≡ before ++ row ∷ [] = pushed {now = vec_items c.push.new.self} {r = c.push.result} (row ∷ []) refl c.in_ok-push.was c.push.ensures.items in
    subst (λ rows. SoFar line Writable c.args.bytes.now rows rest) (sym items)
    (one_more line Writable _ before _ row rest (here g c) (g.met.R.LineText.some row) c.loop-left.invariant)

pub returns : goal.returns
returns g c =
    let none : length c.loop-left.left.now ≡ 0 = search rules in
    all_read _ _ _ _ _ none c.loop-left.invariant
