-- Before turn k the text of the actions before k is written.
use Rattle.std.proofs.Common.{◌≡◌, ◌⊎◌, ◌≤◌}
use Rattle.text.specs.Wrote.{Wrote}
use Rattle.lister.proofs.RowLaws.{text_to}
use Rattle.lister.proofs.agents.write_agent.Given as goal

abbrev pub invariant-loop-k : goal.invariant-loop-k
invariant-loop-k l = (l.first ≤ l.k) × (((l.k ≤ l.end) ⊎ (l.k ≡ l.first)) × Wrote (text_to l.a l.k) l.from l.fn.buf l.buf l.at)
