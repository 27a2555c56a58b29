-- Small laws of equivalence: chains, both sides of a parallel, moving one part past another, and what follows an action.
use Rattle.std.specs.Prelude.{◌≡◌, ℕ}
use Rattle.std.proofs.Common.{ap, subst}
use Rattle.table.proofs.KindLaws.{IsKind, enters, exits, opens, releases}
use Rattle.table.specs.declared.Name.{Name}
use Rattle.calculus.specs.Terms.{Term, amb, nil, ◌∣◌, ◌≅◌, struct_refl, struct_symm, struct_trans, struct_par_zero, struct_par_comm}
use Rattle.calculus.specs.Terms.{struct_par_assoc, struct_par, struct_enter, struct_exit, struct_open, struct_release}
use Rattle.calculus.specs.TermOf.{prefix}

infixr 30 ◌⨾◌
-- (Struct Trans), to be written in a row
pub ◌⨾◌ : {P Q R : Term} → P ≅ Q → Q ≅ R → P ≅ R
◌⨾◌ a b = struct_trans a b

-- equal terms are equivalent
pub of_path : {P Q : Term} → P ≡ Q → P ≅ Q
of_path {P} e = subst (λ x. P ≅ x) e struct_refl

-- equal names give equivalent ambients
pub renamed : {n m : Name} {P : Term} → n ≡ m → amb n P ≅ amb m P
renamed {n} {m} {P} e = of_path (ap (λ x. amb x P) e)

-- (Struct Par) on the right
pub struct_par_right : {P Q R : Term} → P ≅ Q → R ∣ P ≅ R ∣ Q
struct_par_right e = struct_par_comm ⨾ struct_par e ⨾ struct_par_comm

-- (Struct Par) on both sides
pub pars : {P Q R S : Term} → P ≅ Q → R ≅ S → P ∣ R ≅ Q ∣ S
pars a b = struct_par a ⨾ struct_par_right b

-- 0 beside P, the other way round
pub zero_par : {P : Term} → nil ∣ P ≅ P
zero_par = struct_par_comm ⨾ struct_par_zero

-- the second of three comes first
pub swap : {P Q R : Term} → P ∣ (Q ∣ R) ≅ Q ∣ (P ∣ R)
swap = struct_symm struct_par_assoc ⨾ struct_par struct_par_comm ⨾ struct_par_assoc

-- the middle two of four change places
pub swap_middle : {P Q R S : Term} → (P ∣ Q) ∣ (R ∣ S) ≅ (P ∣ R) ∣ (Q ∣ S)
swap_middle = struct_par_assoc ⨾ struct_par_right swap ⨾ struct_symm struct_par_assoc

-- what follows an action is taken up to equivalence too: (Struct Enter), (Struct Exit), 004's (Struct Action) for open, and for release. No claim
-- on trees asks for this, since there only actions follow an action
pub behind : {k : ℕ} → IsKind k → (n : ℕ) {P Q : Term} → P ≅ Q → prefix k n P ≅ prefix k n Q
unfolding prefix
behind enters n e = struct_enter e
behind exits n e = struct_exit e
behind opens n e = struct_open e
behind releases n e = struct_release e
