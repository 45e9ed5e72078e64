use Rattle.words.proofs.Taken.{counted}
use Rattle.words.proofs.sends.store_packet.Goals as goal

pub returns : goal.returns
returns c =
    let push_entry = c.push_entry in
    counted _ _ _ _ _ _ _ push_entry.ensures c.store_counter.ensures
