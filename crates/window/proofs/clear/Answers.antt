-- The flags are what `without` says, and then the line.
use Rattle.std.proofs.Common.{ℕ, ap, ◌∙◌}
use Rattle.window.specs.Window.{with_flags, lined, clear_of}
use Rattle.window.proofs.clear.Goals as goal

pub returns : goal.returns
unfolding clear_of
returns c = c.with_line.ensures ∙ ap (λ (f : ℕ). lined (with_flags c.args.w f)) c.without.ensures
