-- What a place holds: its agents' rows and its places, and one agent or one or two places put before the rest.
-- Idea: each number adds one term; tests on where it lives or stands say which, and `parallel_first` puts it first.
use Rattle.std.specs.Prelude.{◌≡◌, refl, ◌≢◌, ◌⊎◌, List, [], ◌∷◌, ℕ, suc, ◌<◌}
use Rattle.std.proofs.Common.{sym, ◌∙◌, inl, inr, arith, eq-eqb, ne_eqb}
use Rattle.std.proofs.Math.Path.{ap}
use Rattle.std.proofs.Math.Bool.{true}
use Rattle.table.specs.Base.{upd}
use Rattle.table.proofs.BaseLaws.{Told, yea, nay, told, eq?, upd_same, upd_at, upd_other, upd_all}
use Rattle.table.specs.declared.Action.{Action}
use Rattle.meaning.specs.Calculus.{Tree, first_of, rest_of, stands_at}
use Rattle.calculus.specs.Formed.{Formed}
use Rattle.calculus.proofs.MoveCases.{Stands, stands_in, in_stands}
use Rattle.calculus.specs.Terms.{Term, amb, nil, ◌∣◌, ◌≅◌, struct_par_assoc, struct_par}
use Rattle.calculus.proofs.TermLaws.{◌⨾◌, of_path, swap, struct_par_right}
use Rattle.calculus.specs.TermOf.{prefix, row, parallel, agent_at, place_at, level, held}
use Rattle.calculus.proofs.Parallel.{parallel_first}
use Rattle.calculus.proofs.Depth.{unfolds}

-- ---- all that a place holds, and all but one or two

-- the agents of p, and all but x
abbrev pub agents_of : Tree → ℕ → Term
agents_of t p = parallel (agent_at t p) 64

abbrev pub agents_but : Tree → ℕ → ℕ → Term
agents_but t p x = parallel (upd (agent_at t p) x nil) 64

-- the places in p, all but q, and all but q and r
abbrev pub places_of : Tree → ℕ → Term
places_of t p = parallel (place_at t (held t) p) 64

abbrev pub places_but : Tree → ℕ → ℕ → Term
places_but t p q = parallel (upd (place_at t (held t) p) q nil) 64

abbrev pub places_but_two : Tree → ℕ → ℕ → ℕ → Term
places_but_two t p q r = parallel (upd (upd (place_at t (held t) p) q nil) r nil) 64

-- what the home of agent x holds beside its row
abbrev pub beside_agent : Tree → ℕ → Term
beside_agent t x = agents_but t (t.home x) x ∣ places_of t (t.home x)

-- ---- one number left out

-- two rows that agree elsewhere are the same row without it
pub upd_eq : (f g : ℕ → Term) (i : ℕ) → ((q : ℕ) → q ≢ i → f q ≡ g q) → (q : ℕ) → upd f i nil q ≡ upd g i nil q
upd_eq f g i h = upd_all f i nil (λ q v. v ≡ upd g i nil q) (sym (upd_same g i nil)) (λ q d. h q d ∙ sym (upd_other g i q nil d))

-- a row without it is a row that has nothing there
pub upd_drop : (f g : ℕ → Term) (i q : ℕ) → g i ≡ nil → (q ≢ i → f q ≡ g q) → upd f i nil q ≡ g q
upd_drop f g i q z h = go (eq? q i)
  where
    go : (q ≡ i) ⊎ (q ≢ i) → upd f i nil q ≡ g q
    go (inl e) = rw (upd_at f i q nil e) (sym z ∙ ap g (sym e))
    go (inr d) = rw (upd_other f i q nil d) (h d)

-- ---- agents

-- a row begins with its first action, of kind suc k and number n
pub row_is : (l : List Action) (k : ℕ) {n : ℕ} → (first_of l).kind ≡ suc k → n ≡ (first_of l).name → row l ≡ prefix (suc k) n (row (rest_of l))
unfolding row
row_is [] k e f = absurd (omega arith)
row_is (x ∷ l) k e f = rw (e, f)

-- an agent that lives in p adds its row there, any other nothing
pub agent_is : (t : Tree) (p x : ℕ) → t.home x ≡ p → agent_at t p x ≡ row (t.unused x)
unfolding agent_at
agent_is t p x e = rw (eq-eqb (t.home x) p e)

pub agent_not : (t : Tree) (p x : ℕ) → t.home x ≢ p → agent_at t p x ≡ nil
unfolding agent_at
agent_not t p x d = rw (ne_eqb (t.home x) p d)

-- ---- places

-- a place that stands in p adds its ambient there, any other nothing
pub place_is : (t : Tree) (g : ℕ → Term) (p q : ℕ) → Stands t q p → place_at t g p q ≡ amb (t.name q) (g q)
unfolding place_at
place_is t g p q i = rw (in_stands t q p i)

pub place_not : (t : Tree) (g : ℕ → Term) (p q : ℕ) → (Stands t q p → ⊥) → place_at t g p q ≡ nil
unfolding place_at
place_not t g p q n = go (told (stands_at t q p))
  where
    go : Told (stands_at t q p) → place_at t g p q ≡ nil
    go (yea e) = absurd (n (stands_in t q p e))
    go (nay e) = rw e

-- a place adds the same to p in one tree and to r in another
pub place_eq : (t u : Tree) (g h : ℕ → Term) (p r q : ℕ) → stands_at t q p ≡ stands_at u q r → (Stands t q p → t.name q ≡ u.name q)
    → (Stands t q p → g q ≡ h q)
    → place_at t g p q ≡ place_at u h r q
unfolding place_at
place_eq t u g h p r q e n k = go (told (stands_at t q p))
  where
    go : Told (stands_at t q p) → place_at t g p q ≡ place_at u h r q
    go (yea y) = let i = stands_in t q p y in rw (← e, y, n i, k i)
    go (nay y) = rw (← e, y)

-- ---- one or two before the rest

module _ (t : Tree) (w : Formed t) where
  -- one agent first
  pub agent_first : (x : ℕ) → x < 64 → held t (t.home x) ≅ row (t.unused x) ∣ beside_agent t x
  unfolding level
  agent_first x l =
      of_path (unfolds t w (t.home x) (w.homes x))
      ⨾ struct_par (parallel_first (agent_at t (t.home x)) x 64 l ⨾ struct_par (of_path (agent_is t (t.home x) x refl)))
      ⨾ struct_par_assoc

  -- one place first
  pub place_first : (p q : ℕ) → Stands t q p → held t p ≅ amb (t.name q) (held t q) ∣ (agents_of t p ∣ places_but t p q)
  unfolding level
  place_first p q i =
      let used : t.used p ≡ true = ap t.used (sym i.parent) ∙ w.parent_used q in
      of_path (unfolds t w p used)
      ⨾ struct_par_right (parallel_first (place_at t (held t) p) q 64 (w.small q i.used) ⨾ struct_par (of_path (place_is t (held t) p q i)))
      ⨾ swap

  -- two places first
  pub places_first : (p q r : ℕ) → Stands t q p → Stands t r p → r ≢ q
      → held t p ≅ amb (t.name q) (held t q) ∣ (amb (t.name r) (held t r) ∣ (agents_of t p ∣ places_but_two t p q r))
  places_first p q r i k n =
      place_first p q i
      ⨾ struct_par_right (struct_par_right (parallel_first (upd (place_at t (held t) p) q nil) r 64 (w.small r k.used)
      ⨾ struct_par (of_path (upd_other _ q r nil n ∙ place_is t (held t) p r k)))
      ⨾ swap)
