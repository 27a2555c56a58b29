-- What stood from the position on was copied one further on.
use Rattle.lister.proofs.PutLaws.{put_within}
use Rattle.std.proofs.Common.{arith}
use Rattle.lister.proofs.parts.put_in.Goals as goal

pub returns : goal.returns
returns c =
    let e = c.copy_within.ensures in
    put_within _ _ _ c.requires.1 (omega arith) e.len e.by_index.0 e.by_index.1 e.by_index.2
