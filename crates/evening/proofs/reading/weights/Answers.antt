use Rattle.std.proofs.Common.{◌≡◌, map, get_or, is_ok, vec_items, string_bytes, ap, ◌∙◌, subst, arith, below_more, rules}
use Rattle.std.proofs.lemmas.List.{length-map}
use Rattle.std.proofs.lemmas.Result.{err_from_is_err_and}
use Rattle.evening.specs.declared.reading.TaskFault.TheVariants.{WeightNoNumber}
use Rattle.evening.specs.Words.{IsWeight, weight_of, word_at}
use Rattle.evening.proofs.Asking.{word_is}
use Rattle.evening.proofs.reading.weights.Goals as goal
use Rattle.evening.proofs.reading.weights.Goals.{After-weight}

-- the bytes that are read are the word's
here : (c : After-weight) → c.as_str.result.now ≡ word_at (map string_bytes c.args.words.now) c.loop-i.i
here c =
    c.as_str.ensures.value
    ∙ word_is string_bytes c.args.words.now c.loop-i.i c.index-words-i.result c.loop-i-test.true c.index-words-i.is

pub returns-in_err-w : goal.returns-in_err-w
returns-in_err-w c =
    let words = map string_bytes c.args.words.now in
    let p = err_from_is_err_and c.from_residual.result c.from_residual.ensures.1 in
    let place : c.in_err-w.field-0.0 ≡ WeightNoNumber c.loop-i.i = search rules in
    let none : IsWeight c.as_str.result.now → ⊥ = search rules in
    rw (p.1, p.2, place) record {
      within = omega (arith, length-map c.args.words.now string_bytes);
      before = λ k h. (c.loop-i.invariant.1 k h).0;
      wrong = subst (λ bs. IsWeight bs → ⊥) (here (goal.at.returns-in_err-w c).After-weight) none;
    }

pub loop-i-preserved : goal.loop-i-preserved
loop-i-preserved c =
    let words = map string_bytes c.args.words.now in
    let i = c.loop-i.i in
    let w = c.in_ok-w.w in
    let after = vec_items c.push.new.self in
    let count = c.loop-i.invariant.0 in
    let read : IsWeight (word_at words i) × (w ≡ weight_of (word_at words i)) =
    subst (λ bs. IsWeight bs × (w ≡ weight_of bs)) (here (goal.at.loop-i-preserved c).After-weight) (search rules) in
    let last : get_or after i 0 ≡ w = subst (λ k. get_or after k 0 ≡ w) count (c.push.ensures.by_index.1 0 (ap is_ok c.in_ok-push.was)) in (
      omega (arith, c.in_ok-push.ensures.len),
      below_more (λ k. IsWeight (word_at words k) × (get_or after k 0 ≡ weight_of (word_at words k))) i
          (λ k h. let so = c.loop-i.invariant.1 k h in (so.0, c.push.ensures.by_index.0 k 0 (omega arith) ∙ so.1))
          (read.0, last ∙ read.1),
    )
