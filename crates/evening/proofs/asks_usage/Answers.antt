use Rattle.std.proofs.Common.{◌≡◌, map, length, string_bytes, codes, Decides, subst, sym, ◌∙◌, arith}
use Rattle.std.proofs.lemmas.Slice.Eq.{bytes_eq-Decides}
use Rattle.evening.specs.Words.{word_at}
use Rattle.evening.proofs.Asking.{word_is}
use Rattle.evening.proofs.asks_usage.Goals as goal

pub returns-in-len1 : goal.returns-in-len1
returns-in-len1 c =
    let one : length c.args.words.now ≡ 1 = omega (arith, c.in-len1.len_at_least, c.in-len1.len_below) in
    let text : c.as_str.result.now ≡ word_at (map string_bytes c.args.words.now) 0 =
    c.as_str.ensures.value ∙ word_is string_bytes c.args.words.now 0 c.word-item.result (omega arith) c.word-item.is in
    let told : Decides c.eq.result (c.as_str.result.now ≡ codes "--help") =
    subst (λ b. Decides b (c.as_str.result.now ≡ codes "--help")) (sym c.eq.ensures) (bytes_eq-Decides c.as_str.result.now (codes "--help")) in
    (λ yes-r. (one, sym text ∙ told.0 yes-r), λ both. told.1 (text ∙ both.1))
