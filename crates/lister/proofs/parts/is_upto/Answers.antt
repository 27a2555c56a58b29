-- Each part lies where it starts and ends.
use Rattle.std.proofs.Common.{refl, ap₂, ◌∙◌}
use Rattle.meaning.specs.Sorted.{leq}
use Rattle.lister.specs.Cuts.{cut, part_at}
use Rattle.lister.proofs.parts.is_upto.Goals as goal

pub returns : goal.returns
unfolding part_at
returns c = c.comes_first.ensures ∙ ap₂ leq (ap₂ (cut c.args.buf.now) c.start.ensures refl) (ap₂ (cut c.args.buf.now) c.start-2.ensures refl)
