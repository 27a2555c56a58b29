-- Texts that are copied, and a name with its keys. Assumes nothing.
use Rattle.std.specs.Prelude.{◌≡◌, ℕ, ◌≤◌}
use Rattle.std.proofs.Math.Path.{ap}
use Rattle.std.proofs.Common.{◌∙◌, arith}
use mathlib.Core.List.{List}
use Rattle.std.proofs.Math.ListN.{length, take}
use Rattle.meaning.specs.Text.{overlay}
use Rattle.meaning.proofs.SortedLaws.{Text}
use Rattle.text.specs.Wrote.{Wrote}
use Rattle.text.proofs.TextLaws.{over_start, over_length}
use Rattle.lister.specs.Marked.{barred}
use Rattle.lister.proofs.HeldLaws.{Held}

-- the first bytes of a buffer, written over another
pub copied : {texts : List Text} {buf room xs : List ℕ} {r at end : ℕ} → Held texts buf → r ≡ length (barred texts) → length (barred texts) ≤ length room
    → Wrote (take r buf) at room xs end → Held texts xs
copied {texts} {buf} {room} h e l w =
    let t = ap (λ (k : ℕ). take k buf) e ∙ h.start in
    let q = w.text ∙ ap (λ (s : Text). overlay s room) t in
    let n = ap length q ∙ over_length (barred texts) room in
    record { room = omega arith; start = ap (take (length (barred texts))) q ∙ over_start (barred texts) room l }
