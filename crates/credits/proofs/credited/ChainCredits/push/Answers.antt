use Rattle.std.proofs.Common.{ℕ, ◌+◌, ◌-◌, ◌<◌, List, length, set, drop, replicate, ℤ, pos, ap, ◌∙◌, sym, arith}
use Rattle.std.proofs.lemmas.List.{length-set, drop-set-lt, drop-drop, drop-replicate}
use Rattle.credits.specs.Credited.{IsPadded, length-take}
use Rattle.credits.proofs.credited.ChainCredits.push.Goals as goal

padded_more : (cells : List ℤ) (count : ℕ) (cents : ℤ) → IsPadded cells count → count < 256 → IsPadded (set cells count cents) (count + 1)
padded_more cells count cents p room =
    record {
      size = length-set cells count cents ∙ p.size;
      room = omega arith;
      spare = drop-set-lt (count + 1) cells count cents (omega arith) ∙ sym (drop-drop 1 count cells) ∙ ap (drop 1) p.spare ∙ drop-replicate 1 (256 - count) (pos 0) ∙ ap (λ n. replicate n (pos 0)) (omega arith);
    }

pub invariant_of-self : goal.invariant_of-self
invariant_of-self c =
    let count = length-take _ _ c.self.invariant in
    padded_more _ _ _ c.self.invariant (omega (arith, count, ap length c.self.view_is))
