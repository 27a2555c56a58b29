-- What an agent keeps when places and locks change around it: the facts of its stage, and a sleeper its reason to sleep.
-- By cases on what is known of it; each fact speaks of one or two places that the change leaves alone.
use Rattle.std.specs.Prelude.{◌≡◌, ◌≢◌, ℕ, ◌≤◌, true, false, eqb}
use Rattle.std.proofs.Math.Path.{refl}
use Rattle.std.proofs.Common.{sym, ap, ◌∙◌, subst, inl, inr, arith, eqb-true}
use Rattle.std.proofs.lemmas.Bool.{eqb-false}
use Rattle.table.proofs.BaseLaws.{Told, yea, nay, told, clash}
use Rattle.table.specs.Cell.{Land, none, linked, kind_of, name_of, unused, exit_kind, open_kind, key_of, looking, found, holding, holding_both, asleep}
use Rattle.table.proofs.KindLaws.{Kind, is_enter, is_exit, is_open, is_release}
use Rattle.table.specs.declared.Agent.{Agent}
use Rattle.meaning.specs.Update.{at_stage}
use Rattle.meaning.specs.Step.{awaited, qualifies, stays, asleep_on}
use Rattle.demands.specs.Reading.{parent_in, name_in}
use Rattle.demands.proofs.ReadingLaws.{wake_agent}
use Rattle.demands.specs.Invariant.{Under, Has, Ready, Away, Travels, Sleeper, alone, stuck, full}
use Rattle.demands.specs.Invariant.{Ok, ok0, ok1, ok2, ok3_move, ok3_open, ok4, ok5, ok6, ok7, ok8}
use Rattle.demands.proofs.Stages.{SameOrReset}
use Rattle.demands.proofs.Facts.{not_yes, link_used, Child, stays_under, stays_of, stays_home}
use Rattle.demands.proofs.Facts.{enters_fits, exits_fits, opens_fits, enters_of, exits_of, opens_of}

-- ---- the facts of a stage

-- an agent that remembers a place: it has found it or sleeps on it, or holds its lock
pub data Recalls (lock : ℕ → ℕ) (x : ℕ) (a : Agent) : Type 0 where
  finds : a.stage ≡ found → Recalls lock x a
  sleeps : a.stage ≡ asleep → Recalls lock x a
  holds : holding ≤ a.stage → a.stage ≤ holding_both → Has lock a.remembered x → Recalls lock x a

-- an agent keeps its stage's facts where what it remembers stays in use, its locks of places in use stay, what is linked under a place
-- that it holds stays linked there, and its place stays on its way if it is
pub ok_frame : {l l' : Land} {lock lock' : ℕ → ℕ} {x : ℕ} {a : Agent} → l.used a.home ≡ true → l.used (parent_in l a.home) ≡ true
    → (Recalls lock x a → l.used a.remembered ≡ true → l'.used a.remembered ≡ true)
    → ((q : ℕ) → l.used q ≡ true → Has lock q x → Has lock' q x)
    → ((q p : ℕ) → Has lock p x → Under l q p → Under l' q p)
    → (Travels a → Away l a → (linked l' a.home ≡ false) × (parent_in l' a.home ≡ parent_in l a.home))
    → Ok l lock x a → Ok l' lock' x a
ok_frame {l} {l'} {lock} {lock'} {x} {a} home above known has under way = go
  where
    ready : Recalls lock x a → Ready l a → Ready l' a
    ready m r = record { some = r.some; known = known m r.known; opener = r.opener }

    away : Travels a → Away l a → Away l' a
    away t v = record { loose = (way t v).0; placed = v.placed }

    go : Ok l lock x a → Ok l' lock' x a
    go (ok0 s k) = ok0 s k
    go (ok1 s r) = ok1 s (ready (finds s) r)
    go (ok2 s r h) = ok2 s (ready (holds (omega arith) (omega arith) h) r) (has _ r.known h)
    go (ok3_move s r k h₁ h₂ v t) = ok3_move s (ready (holds (omega arith) (omega arith) h₁) r) k (has _ r.known h₁) (has _ home h₂)
        (under _ _ h₁ v) (λ e. under _ _ h₁ (t e))
    go (ok3_open s r k h₁ h₂ v) = ok3_open s (ready (holds (omega arith) (omega arith) h₁) r) k (has _ r.known h₁)
        (has _ (link_used l _ v.link) h₂)
        (under _ _ h₁ v)
    go (ok4 s v) = ok4 s (away (record { from = omega arith; to = omega arith }) v)
    go (ok5 s v h) = ok5 s (away (record { from = omega arith; to = omega arith }) v) (has _ home h)
    go (ok6 s v h₁ h₂) =
        let t : Travels a = record { from = omega arith; to = omega arith } in
        ok6 s (away t v) (has _ home h₁) (subst (λ (q : ℕ). Has lock' q x) (sym (way t v).1) (has _ above h₂))
    go (ok7 s k (inl u)) = ok7 s k (inl (known (sleeps s) u))
    go (ok7 s k (inr n)) = ok7 s k (inr n)
    go (ok8 s e) = ok8 s e

-- ---- a sleeper's reason

-- the change from l to l' opens nothing to a sleeper: it stays where it is, no place comes to qualify where it would look, and no number
-- gets unused where it waits for one
pub record Calm (l l' : Land) (a : Agent) : Type 0 where
  pub loose : linked l a.home ≡ false → a.remembered ≡ a.home → linked l' a.home ≡ false
  pub keeps : Under l a.home a.remembered → Under l' a.home a.remembered
  pub child : (q : ℕ) → Under l' q a.remembered → Under l q a.remembered
  pub names : (q : ℕ) → linked l q ≡ true → linked l' q ≡ true → name_in l' q ≡ name_in l q
  pub up : linked l' a.remembered ≡ true → linked l a.remembered ≡ true
  pub awaits : (q : ℕ) → Under l' q a.remembered → awaited l' q ≡ false → awaited l q ≡ false
  pub full : a.remembered ≡ none → (q : ℕ) → l.used q ≡ true → l'.used q ≡ true

-- a sleeper that is not woken
module _ (l l' : Land) (a : Agent) (k : Kind (kind_of a)) (m : Calm l l' a) where
  -- it stays, and what would qualify now would have before
  stays_frame : Kind (kind_of a) → stays l a ≡ true → stays l' a ≡ true
  stays_frame (is_enter k) e = stays_of l' a (m.keeps (stays_under l a (omega arith) e))
  stays_frame (is_exit k) e = stays_of l' a (m.keeps (stays_under l a (omega arith) e))
  stays_frame (is_open k) e = stays_home l' a (rw k)
  stays_frame (is_release k) e = stays_home l' a (rw k)

  child_frame : (k n q : ℕ) → Child k l' a.remembered n q → Child k l a.remembered n q
  child_frame k n q c =
      let u = m.child q c.under in
      record { under = u; name = ap (key_of k) (sym (m.names q u.link c.under.link)) ∙ c.name }

  fits_frame : (q : ℕ) → kind_of a ≤ open_kind → Kind (kind_of a) → qualifies l' (kind_of a) (name_of a) a.home a.remembered q ≡ true
      → qualifies l (kind_of a) (name_of a) a.home a.remembered q ≡ true
  fits_frame q b (is_enter k) e = let f = enters_fits l' _ _ _ _ q k e in enters_of l _ _ _ _ q k (child_frame _ _ q f.0) f.1
  fits_frame q b (is_exit k) e = let f = exits_fits l' _ _ _ _ q k e in
      exits_of l _ _ _ _ q k f.0 (m.up f.1) (ap (key_of exit_kind) (sym (m.names _ (m.up f.1) f.1)) ∙ f.2)
  fits_frame q b (is_open k) e = let f = opens_fits l' _ _ _ _ q k e in
      opens_of l _ _ _ _ q k (child_frame _ _ q f.0) (m.awaits q f.0.under f.1)
  fits_frame q b (is_release k) e = absurd (omega arith)

  -- so it keeps its reason
  pub sleeper_frame : Sleeper l a → Sleeper l' a
  sleeper_frame (alone s e o) = alone s e (m.loose o e)
  sleeper_frame (stuck b o s f) = stuck b o (stays_frame k s) (λ q. not_yes _ (λ t. clash (fits_frame q b k t) (f q)))
  sleeper_frame (full r e u) = full r e (λ q s. m.full e q (u q s))

-- ---- waking

-- an agent before and after sleepers are woken: those that stay asleep remember a place that is quiet
pub data Roused (quiet : ℕ → Type 0) (a : Agent) : Agent → Type 0 where
  woken : a.stage ≡ asleep → Roused quiet a (at_stage a looking 0 0)
  unchanged : (a.stage ≡ asleep → quiet a.remembered) → Roused quiet a a

module _ {quiet : ℕ → Type 0} {a : Agent} where
  -- it keeps home and actions, and is as it was or at stage 0
  pub roused_home : {b : Agent} → Roused quiet a b → b.home ≡ a.home
  roused_home (woken s) = refl
  roused_home (unchanged n) = refl

  pub roused_unused : {b : Agent} → Roused quiet a b → unused b ≡ unused a
  unfolding unused
  roused_unused (woken s) = refl
  roused_unused (unchanged n) = refl

  pub roused_reset : {b : Agent} → Roused quiet a b → SameOrReset a b
  roused_reset (woken s) = inr (inl refl)
  roused_reset (unchanged n) = inl refl

-- a place other than p, q and r
pub record Apart (p q r m : ℕ) : Type 0 where
  pub first : m ≢ p
  pub second : m ≢ q
  pub third : m ≢ r

-- each agent once all asleep on p, q or r are woken
pub rouses : (p q r : ℕ) (a : Agent) → Roused (Apart p q r) a (wake_agent p q r a)
unfolding wake_agent asleep_on
rouses p q r a = go (told (eqb a.stage 7)) (told (eqb a.remembered p)) (told (eqb a.remembered q)) (told (eqb a.remembered r))
  where
    go : Told (eqb a.stage 7) → Told (eqb a.remembered p) → Told (eqb a.remembered q) → Told (eqb a.remembered r)
        → Roused (Apart p q r) a (wake_agent p q r a)
    go (nay s) _ _ _ = rw s (unchanged (λ e. absurd (eqb-false _ _ s e)))
    go (yea s) (yea e) _ _ = rw (s, e) (woken (eqb-true _ _ s))
    go (yea s) (nay e) (yea f) _ = rw (s, e, f) (woken (eqb-true _ _ s))
    go (yea s) (nay e) (nay f) (yea g) = rw (s, e, f, g) (woken (eqb-true _ _ s))
    go (yea s) (nay e) (nay f) (nay g) =
        rw (s, e, f, g) (unchanged (λ _. record { first = eqb-false _ _ e; second = eqb-false _ _ f; third = eqb-false _ _ g }))
