-- What program `audit` writes of a finding (document 02, W13: "It says yes exactly if ..", and else "a no"): one line.
use Rattle.std.specs.Prelude.{ℕ, ◌+◌, cond, List, ◌++◌, ltb, eqb}
use Rattle.table.specs.Base.{tab}
use Rattle.meaning.specs.Text.{ascii, decimal}
use Rattle.meaning.specs.Report.{refused_line}
use Rattle.trail.specs.declared.Finding.{Finding}
use Rattle.trail.specs.declared.Finding.TheVariants.{Upheld, Denied, BadFile}
use Rattle.trail.specs.Trail.{not_permitted, no_action_left, odd_byte}

-- a reason in words
unfoldable pub reason_text : ℕ → List ℕ
unfolding tab
reason_text reason =
    cond (eqb reason not_permitted) (ascii "not permitted")
    (cond (eqb reason no_action_left) (ascii "no action left")
    (cond (eqb reason odd_byte) (ascii "odd last byte")
    (ascii "other layout")))

-- the number of the move that is denied, counted from 1; of an odd last byte and another layout how many moves there are
unfoldable pub move_number : ℕ → ℕ → ℕ
move_number moves reason = cond (ltb reason odd_byte) (moves + 1) moves

-- `yes`; `no`, a number and the reason; a refused file as walk writes it
unfoldable pub audit_line : Finding → List ℕ
unfolding tab
audit_line Upheld = ascii "yes\n"
audit_line (Denied moves reason) = (ascii "no " ++ decimal (move_number moves reason)) ++ ((ascii " " ++ reason_text reason) ++ ascii "\n")
audit_line (BadFile number offset) = refused_line number offset
