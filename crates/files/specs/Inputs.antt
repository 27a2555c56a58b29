-- How much of a buffer a file fills.
use Rattle.std.specs.Prelude.{ℕ, ◌≤◌, Result, IfOk}
use Rattle.files.specs.declared.Unread.{Unread}

-- no more bytes were read than there is room for
abbrev pub Within : Result ℕ Unread → ℕ → Type 0
Within r room = IfOk r (λ n. n ≤ room)
