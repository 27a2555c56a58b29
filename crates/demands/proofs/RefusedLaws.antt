-- What the laws on refusals share.
use Rattle.std.specs.Prelude.{◌≡◌, ℕ}
use Rattle.std.proofs.Common.{subst, arith}
use Rattle.demands.specs.Refusals.{KeeperCall, Grounds}

-- two answers of different kinds are not equal: `cc` finds this equation then
pub never : {A : Type 0} → ◌≡◌ {A = ℕ} 0 1 → A
never e = absurd (omega arith)

-- a condition of the number that is answered
pub of : {k : KeeperCall} {m n : ℕ} → m ≡ n → Grounds k m 0 → Grounds k n 0
of {k} e g = subst (λ (n : ℕ). Grounds k n 0) e g
