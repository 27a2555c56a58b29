-- A ready agent remembers a place in use, which is below 64, and so is no sign for none.
use Rattle.std.proofs.Common.{◌≡◌, sym, ap, ◌∙◌, Bool, true, ◌&&◌, ℕ, ◌<◌, ◌^◌, arith, eqb, rules, ne_eqb}
use Rattle.sets.specs.Set.{member}
use Rattle.sets.proofs.ToldLaws.{and_left, and_right}
use Rattle.sets.proofs.WordLaws.{has_lt}
use Rattle.sets.specs.declared.Set.{Set}
use Rattle.table.specs.Cell.{none}
use Rattle.table.specs.Sound.{ready}
use Rattle.soundness.specs.Pass.{lock_is_at}
use Rattle.soundness.specs.Turn.{holds_first}
use Rattle.soundness.proofs.turns.Busy.holds_first.Goals as goal

-- the remembered place of a ready agent is in use
ready_known : (some known same : Bool) (kind : ℕ) → ready some known same kind ≡ true → known ≡ true
unfolding ready
ready_known some known same kind e = and_left known _ (and_right some _ e)

-- the lock of a place in use
lock_known : (s : Set) (q lock x : ℕ) → s.bits < 2 ^ 64 → member s q ≡ true → eqb lock x ≡ lock_is_at (member s q) q lock x
unfolding lock_is_at
lock_known s q lock x b e = let l = has_lt 64 s.bits q b e in rw (ne_eqb q none (λ z. omega (arith, l, z)), e)

held : (s : Set) (q lock x kind : ℕ) (some known same ok : Bool) → s.bits < 2 ^ 64 → known ≡ member s q → ok ≡ ready some known same kind → ok ≡ true
    → eqb lock x ≡ (ready some (member s q) same kind && lock_is_at (member s q) q lock x)
held s q lock x kind some known same ok b e o t = let r = ap (λ (k : Bool). ready some k same kind) (sym e) ∙ sym o ∙ t in
    lock_known s q lock x b (ready_known some (member s q) same kind r) ∙ ap (λ (k : Bool). k && lock_is_at (member s q) q lock x) (sym r)

pub returns-then-is_ready : goal.returns-then-is_ready
unfolding holds_first
returns-then-is_ready c =
    let b = c.args.self in
    held b.used b.agent.remembered b.first_lock b.number b.kind _ _ _ _ (search rules) c.has-known.ensures c.is_ready.ensures c.if-is_ready.true

pub returns-else-is_ready : goal.returns-else-is_ready
unfolding holds_first
returns-else-is_ready c = rw (← c.has-known.ensures, ← c.is_ready.ensures, c.if-is_ready.false)
