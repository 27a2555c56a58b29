-- What holds before each turn is `Remains`.
use Rattle.std.proofs.Common.{◌<◌, ◌^◌}
use Rattle.soundness.proofs.AllLeadLaws.{Remains}
use Rattle.soundness.proofs.lands.all_lead.Given as goal

abbrev pub invariant-loop-q : goal.invariant-loop-q
invariant-loop-q l = (l.q-iterator.bits < 2 ^ 64) × Remains l.fn.up l.fn.known l.initial.q-iterator l.all l.q-iterator
