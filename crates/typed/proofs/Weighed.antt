-- Whether a tree fits can be told from its term: how many places and agents with actions a term has, and whether its agents' rows are short.
-- Equivalent terms have the same of each.
use Rattle.std.specs.Prelude.{◌≡◌, refl, Bool, true, false, ◌&&◌, List, [], ◌∷◌, ℕ, zero, suc, leb, length}
use Rattle.std.proofs.Math.Path.{sym}
use Rattle.std.proofs.Common.{ap, ap₂, ◌∙◌, arith, le-leb, leb-true, leb-false}
use Rattle.std.proofs.lemmas.Bool.{lt-leb}
use Rattle.table.proofs.BaseLaws.{Told, yea, nay, told}
use Rattle.table.proofs.KindLaws.{IsKind, enters, exits, opens, releases, is_kind}
use Rattle.calculus.specs.Terms.{Term, amb, nil, ◌∣◌, enter, exit, «open», release, weigh, ◌≅◌, struct_refl, struct_symm, struct_trans, struct_par_zero}
use Rattle.calculus.specs.Terms.{struct_par_comm, struct_par_assoc, struct_amb, struct_par, struct_enter, struct_exit, struct_open, struct_release}
use Rattle.calculus.specs.TermOf.{prefix, row}
use Rattle.calculus.proofs.Weights.{weigh_same}
use Rattle.language.specs.Grammar.{TypedAction, TypedAgent, Contents, nothing, agent, place, action_of}
use Rattle.language.specs.Layout.{places_in, agents_in, rows_fit, fits}
use Rattle.typed.specs.TermTyped.{actions_of, agent_term, term_typed}

-- ---- rows

-- agents have k actions at most, and those inside a place sixteen
unfoldable pub short : ℕ → Term → Bool
short k (amb n P) = short 16 P
short k nil = true
short k (P ∣ Q) = short k P && short k Q
short zero (enter n P) = false
short (suc k) (enter n P) = short k P
short zero (exit n P) = false
short (suc k) (exit n P) = short k P
short zero («open» n P) = false
short (suc k) («open» n P) = short k P
short zero (release n P) = false
short (suc k) (release n P) = short k P

-- of two tests, in either order
and_turned : (a b : Bool) → (a && b) ≡ (b && a)
and_turned true true = refl
and_turned true false = refl
and_turned false true = refl
and_turned false false = refl

-- and of three
and_grouped : (a b c : Bool) → ((a && b) && c) ≡ (a && (b && c))
and_grouped true b c = refl
and_grouped false b c = refl

-- a test that always holds
and_true : (a : Bool) → (a && true) ≡ a
and_true true = refl
and_true false = refl

-- of equivalent terms both or neither are short
pub short_same : (k : ℕ) {P Q : Term} → P ≅ Q → short k P ≡ short k Q
unfolding short
short_same k struct_refl = refl
short_same k (struct_symm e) = sym (short_same k e)
short_same k (struct_trans e f) = short_same k e ∙ short_same k f
short_same k (struct_par_zero {P}) = and_true (short k P)
short_same k (struct_par_comm {P} {Q}) = and_turned (short k P) (short k Q)
short_same k (struct_par_assoc {P} {Q} {R}) = and_grouped (short k P) (short k Q) (short k R)
short_same k (struct_amb e) = short_same 16 e
short_same k (struct_par {R = R} e) = ap (λ b. b && short k R) (short_same k e)
short_same zero (struct_enter e) = refl
short_same (suc k) (struct_enter e) = short_same k e
short_same zero (struct_exit e) = refl
short_same (suc k) (struct_exit e) = short_same k e
short_same zero (struct_open e) = refl
short_same (suc k) (struct_open e) = short_same k e
short_same zero (struct_release e) = refl
short_same (suc k) (struct_release e) = short_same k e

-- ---- of a tree

-- a typed action has one of the kinds
typed_kind : (a : TypedAction) → IsKind a.kind
typed_kind a = is_kind a.kind a.from_one a.to_last

-- an action before a term is an agent
weigh_prefix : (A B : ℕ) {k : ℕ} → IsKind k → (n : ℕ) (P : Term) → weigh A B (prefix k n P) ≡ A
unfolding weigh prefix
weigh_prefix A B enters n P = refl
weigh_prefix A B exits n P = refl
weigh_prefix A B opens n P = refl
weigh_prefix A B releases n P = refl

-- so a typed agent is one
agent_weighs : (A B : ℕ) (r : TypedAgent) → weigh A B (agent_term r) ≡ A
unfolding agent_term actions_of row action_of
agent_weighs A B r = weigh_prefix A B (typed_kind r.first) r.first.number.value (row (actions_of r.further))

-- the places of a tree
pub places_weigh : (c : Contents) → places_in c ≡ weigh 0 1 (term_typed c)
unfolding places_in term_typed weigh
places_weigh nothing = refl
places_weigh (agent r c) = omega (arith, agent_weighs 0 1 r, places_weigh c)
places_weigh (place h c e) = omega (arith, places_weigh c, places_weigh e)

-- and its agents
pub agents_weigh : (c : Contents) → agents_in c ≡ weigh 1 0 (term_typed c)
unfolding agents_in term_typed weigh
agents_weigh nothing = refl
agents_weigh (agent r c) = omega (arith, agent_weighs 1 0 r, agents_weigh c)
agents_weigh (place h c e) = omega (arith, agents_weigh c, agents_weigh e)

-- an action more
short_prefix : (j : ℕ) {k : ℕ} → IsKind k → (n : ℕ) (P : Term) → short (suc j) (prefix k n P) ≡ short j P
unfolding short prefix
short_prefix j enters n P = refl
short_prefix j exits n P = refl
short_prefix j opens n P = refl
short_prefix j releases n P = refl

-- is one too many where none may be
none_prefix : {k : ℕ} → IsKind k → (n : ℕ) (P : Term) → short 0 (prefix k n P) ≡ false
unfolding short prefix
none_prefix enters n P = refl
none_prefix exits n P = refl
none_prefix opens n P = refl
none_prefix releases n P = refl

-- both are one more
leb_suc : (n k : ℕ) → leb (suc n) (suc k) ≡ leb n k
leb_suc n k = go (told (leb n k))
  where
    go : Told (leb n k) → leb (suc n) (suc k) ≡ leb n k
    go (yea e) = le-leb (suc n) (suc k) (let l = leb-true n k e in omega arith) ∙ sym e
    go (nay e) = lt-leb (suc n) (suc k) (let l = leb-false n k e in omega arith) ∙ sym e

-- a typed row is short if it is
short_row : (ds : List TypedAction) (k : ℕ) → short k (row (actions_of ds)) ≡ leb (length ds) k
unfolding actions_of row action_of
short_row [] k = unfold short in sym (le-leb 0 k (omega arith))
short_row (a ∷ ds) zero = none_prefix (typed_kind a) a.number.value (row (actions_of ds)) ∙ sym (lt-leb (length (a ∷ ds)) 0 (omega arith))
short_row (a ∷ ds) (suc k) = short_prefix k (typed_kind a) a.number.value (row (actions_of ds)) ∙ short_row ds k ∙ sym (leb_suc (length ds) k)

-- the rows of a tree
pub rows_short : (c : Contents) → rows_fit c ≡ short 16 (term_typed c)
unfolding rows_fit term_typed short agent_term
rows_short nothing = refl
rows_short (agent r c) = ap₂ ◌&&◌ (sym (short_row (r.first ∷ r.further) 16 ∙ leb_suc (length r.further) 15)) (rows_short c)
rows_short (place h c e) = ap₂ ◌&&◌ (rows_short c) (rows_short e)

-- ---- "fits 63 places, 64 agents and sixteen actions each", of a term

-- a term that fits
unfoldable pub term_fits : Term → Bool
unfolding weigh short
term_fits P = leb (weigh 0 1 P) 63 && (leb (weigh 1 0 P) 64 && short 16 P)

-- a tree fits if its term does
pub tree_fits : (c : Contents) → fits c ≡ term_fits (term_typed c)
unfolding fits term_fits
tree_fits c = rw (places_weigh c, agents_weigh c, rows_short c)

-- so whether a text fits depends on what it says
pub fits_same : {P Q : Term} → P ≅ Q → term_fits P ≡ term_fits Q
unfolding term_fits
fits_same e = rw (weigh_same 0 1 e, weigh_same 1 0 e, short_same 16 e)
