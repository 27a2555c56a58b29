-- A release: what the agent's own place holds before and after.
-- Idea: the new place m holds nothing, since no home and no parent in use is m; all else that the agent's own place holds is as it was.
use Rattle.std.specs.Prelude.{◌≡◌, ◌≢◌, ◌⊎◌, ℕ, ◌<◌, false, not, eqb}
use Rattle.std.proofs.Math.Path.{refl, sym, ap}
use Rattle.std.proofs.Common.{◌∙◌, inl, inr}
use Rattle.std.proofs.Math.Bool.{true}
use borrow.Author.Tests.{ne_eqb}
use Rattle.table.specs.Base.{upd}
use Rattle.table.proofs.BaseLaws.{eq?, upd_same, upd_at, upd_other}
use Rattle.table.specs.Cell.{plain_name}
use Rattle.meaning.specs.Calculus.{Tree, next_of, rest_of, stands_at, put_out}
use Rattle.calculus.specs.Formed.{Formed}
use Rattle.calculus.proofs.MoveCases.{Stands, and_no}
use Rattle.calculus.proofs.MoveFormed.{new_placed, new_other}
use Rattle.calculus.specs.Terms.{amb, nil, ◌∣◌, ◌≅◌, struct_amb, struct_par_zero, struct_par_assoc}
use Rattle.calculus.proofs.TermLaws.{◌⨾◌, of_path, renamed, swap, pars, struct_par_right}
use Rattle.calculus.specs.TermOf.{row, agent_at, place_at, level, held}
use Rattle.calculus.proofs.Parallel.{parallel_same, parallel_none, parallel_first}
use Rattle.calculus.proofs.Depth.{unfolds}
use Rattle.calculus.proofs.Contents.{beside_agent, upd_eq, upd_drop, agent_is, agent_not, place_is, place_not, place_eq}
use Rattle.calculus.proofs.Near.{Local, low_same}

module _ (t : Tree) (w : Formed t) (a m : ℕ) (l : m < 64) (free : t.used m ≡ false) (v : Formed (put_out t a m)) where
  -- the tree after
  abbrev u : Tree
  u = put_out t a m

  -- a place that stands somewhere before is not the new one
  old : (q s : ℕ) → Stands t q s → q ≢ m
  old q s i = new_other t w a m l free q i.used

  -- ---- away from the agent's own place

  agent_same : (s x : ℕ) → x ≢ a → agent_at t s x ≡ agent_at u s x
  unfolding agent_at put_out
  agent_same s x n = rw (upd_other t.unused a x (rest_of (t.unused a)) n)

  agents_elsewhere : (s : ℕ) → s ≢ t.home a → (x : ℕ) → agent_at t s x ≡ agent_at u s x
  unfolding put_out
  agents_elsewhere s sp x = go (eq? x a)
    where
      go : (x ≡ a) ⊎ (x ≢ a) → agent_at t s x ≡ agent_at u s x
      go (inl e) = let n : t.home x ≢ s = λ z. sp (sym z ∙ ap t.home e) in agent_not t s x n ∙ sym (agent_not u s x n)
      go (inr n) = agent_same s x n

  place_same : (s q : ℕ) → q ≢ m → stands_at t q s ≡ stands_at u q s
  unfolding stands_at put_out
  place_same s q n = rw (upd_other t.used m q true n, upd_other t.parent m q (t.home a) n)

  places_elsewhere : (s q : ℕ) → s ≢ t.home a → stands_at t q s ≡ stands_at u q s
  unfolding stands_at put_out
  places_elsewhere s q sp = go (eq? q m)
    where
      go : (q ≡ m) ⊎ (q ≢ m) → stands_at t q s ≡ stands_at u q s
      go (inl e) = rw (
        ap t.used e ∙ free,
        upd_at t.parent m q (t.home a) e,
        ne_eqb (t.home a) s (λ z. sp (sym z)),
        and_no (upd t.used m true q) (not (eqb q 0)),
      )
      go (inr n) = place_same s q n

  name_same : (q : ℕ) → q ≢ m → t.name q ≡ u.name q
  unfolding put_out
  name_same q n = sym (upd_other t.name m q (plain_name (next_of t a).name) n)

  -- the change is near the agent's own place, and touches no other
  pub put_local : Local t u (t.home a) (λ s. ⊥)
  put_local = record {
    agents = λ s sp _. agents_elsewhere s sp;
    places = λ s q sp _. places_elsewhere s q sp;
    names = λ s q sp _ i. name_same q (old q s i);
    near = λ s q i e. absurd e;
    low = λ q e. absurd e;
  }

  -- ---- the new place

  new_used : u.used m ≡ true
  unfolding put_out
  new_used = upd_same t.used m true

  new_stands : Stands u m (t.home a)
  unfolding put_out
  new_stands = record { used = new_used; placed = new_placed t w a m l free; parent = upd_same t.parent m (t.home a) }

  -- nothing stands in it
  none_in : (q : ℕ) → Stands u q m → ⊥
  unfolding put_out
  none_in q i = go (eq? q m)
    where
      go : (q ≡ m) ⊎ (q ≢ m) → ⊥
      go (inl e) = new_other t w a m l free (t.home a) (w.homes a) (sym (upd_at t.parent m q (t.home a) e) ∙ i.parent)
      go (inr n) = new_other t w a m l free (t.parent q) (w.parent_used q) (sym (upd_other t.parent m q (t.home a) n) ∙ i.parent)

  -- it holds nothing
  new_empty : held u m ≅ nil
  unfolding level put_out
  new_empty = of_path (unfolds u v m new_used)
      ⨾ pars (parallel_none 64 (λ x. agent_not u m x (new_other t w a m l free (t.home x) (w.homes x))))
      (parallel_none 64 (λ q. place_not u (held u) m q (none_in q)))
      ⨾ struct_par_zero

  -- ---- before and after

  -- after: n[] and P beside what was beside release n. P
  pub put_after : a < 64 → held u (t.home a) ≅ row (rest_of (t.unused a)) ∣ (amb (plain_name (next_of t a).name) nil ∣ beside_agent t a)
  unfolding level put_out
  put_after la = of_path (unfolds u v (t.home a) own_used)
      ⨾ pars
      (parallel_first (agent_at u (t.home a)) a 64 la
      ⨾ pars (of_path (agent_is u (t.home a) a refl ∙ ap row (upd_same t.unused a (rest_of (t.unused a))))) (of_path (parallel_same 64 agents)))
      (parallel_first (place_at u (held u) (t.home a)) m 64 l
      ⨾ pars (of_path (place_is u (held u) (t.home a) m new_stands) ⨾ renamed (upd_same t.name m (plain_name (next_of t a).name)) ⨾ struct_amb new_empty)
      (of_path (parallel_same 64 places)))
      ⨾ struct_par_assoc ⨾ struct_par_right swap
    where
      own_used : u.used (t.home a) ≡ true
      own_used = v.homes a

      agents : (x : ℕ) → upd (agent_at u (t.home a)) a nil x ≡ upd (agent_at t (t.home a)) a nil x
      agents = upd_eq (agent_at u (t.home a)) (agent_at t (t.home a)) a (λ x n. sym (agent_same (t.home a) x n))

      places : (q : ℕ) → upd (place_at u (held u) (t.home a)) m nil q ≡ place_at t (held t) (t.home a) q
      places q = upd_drop (place_at u (held u) (t.home a)) (place_at t (held t) (t.home a)) m q
          (place_not t (held t) (t.home a) m (λ i. old m (t.home a) i refl))
          (λ n. sym (place_eq t u (held t) (held u) (t.home a) (t.home a) q (place_same (t.home a) q n) (λ i. name_same q n)
          (λ i. low_same t u w v (t.home a) (λ s. ⊥) put_local (t.home a) q (inl refl) i (λ e. e))))
