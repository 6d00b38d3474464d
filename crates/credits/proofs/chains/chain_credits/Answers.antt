use Rattle.contracts.proofs.Sounds.{sound_of, sound_chain, head_inside}
use Rattle.credits.proofs.Cancelling.{answer_adds_up, inner_legs_cancel, total_within}
use Rattle.credits.proofs.chains.chain_credits.Goals as goal

pub returns : goal.returns
returns c =
    let sound = sound_of _ c.args.table.now.sound in
    let chain = sound_chain _ sound _ (head_inside _ c.args.head) in
    let gives = c.judged_credits.ensures chain.0 chain.1 in
    record {
      credited = record { members = chain.0; chain = chain.1; gives = gives; adds_up = answer_adds_up _ _ _ _ _ _ sound chain.1 gives };
      legs = inner_legs_cancel _ sound;
      total = total_within _ sound;
    }
