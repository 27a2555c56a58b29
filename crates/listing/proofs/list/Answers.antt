-- What `list_known` says, told what `is_sound` answered.
use Rattle.listing.proofs.CallLaws.{list_told}
use Rattle.listing.proofs.list.Goals as goal

pub returns : goal.returns
returns c = list_told _ _ _ _ _ c.is_sound.ensures c.list_known.ensures
