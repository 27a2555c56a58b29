-- The agents are counted, and the number is made of them and of the moves; it is small.
use mathlib.Core.Path.{refl, sym, subst}
use Prim.Native.Nat.{ℕ, ◌+◌, ◌*◌, ◌≤◌, ◌<◌, ◌^◌}
use native.Mathlib.Omega.{arith}
use borrow.Author.Rules.{rules}
use Rattle.sets.proofs.WordLaws.{count_most}
use Rattle.limit.specs.Known.{known_ceiling}
use Rattle.limit.proofs.LimitLaws.{number_most}
use Rattle.limit.proofs.ceiling_known.Statement.{statement}
use Rattle.limit.proofs.ceiling_known.Tie as tie

-- what is counted is small, and so is the number
agents_few : (c : tie.After-count-agents) → c.count-agents.result ≤ 64
agents_few c = subst (λ (n : ℕ). n ≤ 64) (sym c.count-agents.ensures) (count_most 64 _)

moves_few : (c : tie.After-count-agents) → c.before.before.args.left < 2 ^ 16
moves_few c = c.before.before.well_formed.1.1.0.1

number_few : (c : tie.After-count-agents) → 5 * c.count-agents.result * (c.before.before.args.left + 1) + c.before.before.args.left ≤ 320 * (65535 + 1) + 65535
number_few c = let m = moves_few c in number_most _ _ 65535 (agents_few c) (omega arith)

mul_t10 : tie.Need-overflow_mul-result-then-known
mul_t10 c = let n = number_few c in omega arith

add_t11 : tie.Need-overflow_add-result-then-known
add_t11 c = let n = number_few c in omega arith

returns : tie.Need-returns-then-known
unfolding known_ceiling
returns c = rw (c.before.if-known.true, sym c.count-agents.ensures) refl

returns_2 : tie.Need-returns
unfolding known_ceiling
returns_2 c = rw c.if-known.false refl

pub ceiling_known_spec : {M : Type 1} → statement M
ceiling_known_spec =
    tie.close
    (tie.spec
    (λ c κs. search rules) (λ c. search rules) (λ c. search rules) (λ c. search rules)
    mul_t10 add_t11 returns returns_2)
