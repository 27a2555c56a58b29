-- An enter and an exit: what the place around the two places they touch holds before and after.
-- Idea: both take the agent's own place h from p or m and put it into m or p, where m stands in p; h and m are touched, all else below p is
-- as it was.
use Rattle.std.specs.Prelude.{◌≡◌, refl, ◌≢◌, ◌⊎◌, ℕ, ◌<◌}
use Rattle.std.proofs.Math.Path.{sym, ap, fun_ext}
use Rattle.std.proofs.Common.{◌∙◌, subst}
use Rattle.std.proofs.Math.Logic.{inl, inr}
use borrow.Author.Tests.{ne_eqb}
use Rattle.table.specs.Base.{upd}
use Rattle.table.proofs.BaseLaws.{eq?, upd_same, upd_at, upd_other}
use Rattle.meaning.specs.Calculus.{Tree, rest_of, stands_at, put_into}
use Rattle.calculus.specs.Formed.{Formed}
use Rattle.calculus.proofs.MoveCases.{Stands}
use Rattle.calculus.proofs.Above.{Below, below_one, below_next, below_not}
use Rattle.calculus.specs.Terms.{amb, nil, ◌∣◌, ◌≅◌, struct_amb, struct_par}
use Rattle.calculus.proofs.TermLaws.{◌⨾◌, of_path, pars, struct_par_right}
use Rattle.calculus.specs.TermOf.{row, parallel, agent_at, place_at, level, held}
use Rattle.calculus.proofs.Depth.{unfolds}
use Rattle.calculus.proofs.Contents.{agents_of, beside_agent, places_but, places_but_two, upd_eq, upd_drop, place_not, place_eq}
use Rattle.calculus.proofs.Contents.{agent_first, place_first, places_first}
use Rattle.calculus.proofs.Near.{Local, low_same}

-- ---- what the change leaves as it was

module _ (t : Tree) (a d : ℕ) where
  agents_but : (s x : ℕ) → x ≢ a → agent_at t s x ≡ agent_at (put_into t a d) s x
  unfolding agent_at put_into
  agents_but s x k = rw (upd_other t.unused a x (rest_of (t.unused a)) k)

  agents_elsewhere : (s x : ℕ) → s ≢ t.home a → agent_at t s x ≡ agent_at (put_into t a d) s x
  unfolding agent_at put_into
  agents_elsewhere s x n = go (eq? x a)
    where
      go : (x ≡ a) ⊎ (x ≢ a) → agent_at t s x ≡ agent_at (put_into t a d) s x
      go (inl e) = rw (ne_eqb (t.home x) s (λ z. n (sym z ∙ ap t.home e)))
      go (inr k) = agents_but s x k

  places_but_lem : (s q : ℕ) → q ≢ t.home a → stands_at t q s ≡ stands_at (put_into t a d) q s
  unfolding stands_at put_into
  places_but_lem s q k = rw (upd_other t.parent (t.home a) q d k)

  place_elsewhere : (s q : ℕ) → q ≡ t.home a → s ≢ t.parent (t.home a) → s ≢ d → stands_at t q s ≡ stands_at (put_into t a d) q s
  unfolding stands_at put_into
  place_elsewhere s q e n k = rw (
    upd_at t.parent (t.home a) q d e,
    ne_eqb (t.parent q) s (λ z. n (sym z ∙ ap t.parent e)),
    ne_eqb d s (λ z. k (sym z)),
  )

-- the two places that an enter or an exit touches
abbrev pub Two : ℕ → ℕ → ℕ → Type 0
Two h m s = (s ≡ h) ⊎ (s ≡ m)

-- a's own place goes to d: m stands in p, and it goes from one of these two into one of these two
pub record Travel (t : Tree) (a d m p : ℕ) : Type 0 where
  pub own : t.home a ≢ 0
  pub other : Stands t m p
  pub apart : m ≢ t.home a
  pub from : (t.parent (t.home a) ≡ p) ⊎ (t.parent (t.home a) ≡ m)
  pub to : (d ≡ p) ⊎ (d ≡ m)

module _ (t : Tree) (w : Formed t) (a d m p : ℕ) (v : Formed (put_into t a d)) (y : Travel t a d m p) where
  other_below : Below t.parent p m
  other_below = below_one y.other.placed y.other.parent

  own_below : Below t.parent p (t.home a)
  own_below = go y.from
    where
      go : (t.parent (t.home a) ≡ p) ⊎ (t.parent (t.home a) ≡ m) → Below t.parent p (t.home a)
      go (inl e) = below_one y.own e
      go (inr e) = below_next other_below (t.home a) y.own e

  own_not : t.home a ≢ p
  own_not = below_not t w own_below

  other_not : m ≢ p
  other_not = below_not t w other_below

  neither : (s q : ℕ) → (q ≡ p) ⊎ (q ≡ m) → s ≢ p → s ≢ m → s ≢ q
  neither s q (inl e) n k z = n (z ∙ e)
  neither s q (inr e) n k z = k (z ∙ e)

  places_elsewhere : (s q : ℕ) → s ≢ p → s ≢ m → stands_at t q s ≡ stands_at (put_into t a d) q s
  places_elsewhere s q n k = go (eq? q (t.home a))
    where
      go : (q ≡ t.home a) ⊎ (q ≢ t.home a) → stands_at t q s ≡ stands_at (put_into t a d) q s
      go (inl e) = place_elsewhere t a d s q e (neither s _ y.from n k) (neither s d y.to n k)
      go (inr e) = places_but_lem t a d s q e

  -- the change is near p
  pub travel_local : Local t (put_into t a d) p (Two (t.home a) m)
  unfolding put_into
  travel_local = record {
    agents = λ s n k x. agents_elsewhere t a d s x (λ e. k (inl e));
    places = λ s q n k. places_elsewhere s q n (λ e. k (inr e));
    names = λ s q n k i. refl;
    near = λ s q i. near s q i;
    low = λ q. low q;
  }
    where
      near : (s q : ℕ) → Stands t q s → Two (t.home a) m q → (s ≡ p) ⊎ Two (t.home a) m s
      near s q i (inl e) = go y.from
        where
          go : (t.parent (t.home a) ≡ p) ⊎ (t.parent (t.home a) ≡ m) → (s ≡ p) ⊎ Two (t.home a) m s
          go (inl f) = inl (sym i.parent ∙ ap t.parent e ∙ f)
          go (inr f) = inr (inr (sym i.parent ∙ ap t.parent e ∙ f))
      near s q i (inr e) = inl (sym i.parent ∙ ap t.parent e ∙ y.other.parent)

      low : (q : ℕ) → Two (t.home a) m q → Below t.parent p q
      low q (inl e) = subst (Below t.parent p) (sym e) own_below
      low q (inr e) = subst (Below t.parent p) (sym e) other_below

  -- a place in p or below it that is not touched, and stands where it stood
  place_still : (s q : ℕ) → (s ≡ p) ⊎ Below t.parent p s → stands_at t q s ≡ stands_at (put_into t a d) q s → (Stands t q s → q ≢ t.home a)
      → (Stands t q s → q ≢ m)
      → place_at t (held t) s q ≡ place_at (put_into t a d) (held (put_into t a d)) s q
  unfolding put_into
  place_still s q l e nh nm = place_eq t (put_into t a d) (held t) (held (put_into t a d)) s s q e (λ _. refl)
      (λ i. low_same t (put_into t a d) w v p (Two (t.home a) m) travel_local s q l i (go i))
    where
      go : Stands t q s → Two (t.home a) m q → ⊥
      go i (inl z) = nh i z
      go i (inr z) = nm i z

  in_p : (s q : ℕ) → s ≢ p → Stands t q s → q ≢ m
  in_p s q n i e = n (sym i.parent ∙ ap t.parent e ∙ y.other.parent)

  -- a place in m but for the traveller
  in_other : (q : ℕ) → q ≢ t.home a → place_at t (held t) m q ≡ place_at (put_into t a d) (held (put_into t a d)) m q
  in_other q n = place_still m q (inr other_below) (places_but_lem t a d m q n) (λ _. n) (in_p m q other_not)

  -- a place in p but for the two
  in_around : (q : ℕ) → q ≢ t.home a → q ≢ m → place_at t (held t) p q ≡ place_at (put_into t a d) (held (put_into t a d)) p q
  in_around q n k = place_still p q (inl refl) (places_but_lem t a d p q n) (λ _. n) (λ _. k)

  agents_around : (x : ℕ) → agent_at t p x ≡ agent_at (put_into t a d) p x
  agents_around x = agents_elsewhere t a d p x (λ e. own_not (sym e))

  -- the traveller itself: the agent's action is used up, all else is as it was
  traveller : a < 64 → held (put_into t a d) (t.home a) ≅ row (rest_of (t.unused a)) ∣ beside_agent t a
  unfolding put_into
  traveller l = agent_first (put_into t a d) v a l ⨾ pars (of_path (ap row (upd_same t.unused a (rest_of (t.unused a)))))
      (of_path (λ j. parallel (fun_ext (λ x. sym (upd_eq _ _ a (λ y n. agents_but t a d (t.home a) y n) x)) j) 64
      ∣ parallel (fun_ext (λ q. sym (inside q)) j) 64))
    where
      self : (q : ℕ) → Stands t q (t.home a) → q ≡ t.home a → ⊥
      self q i e = neither (t.home a) (t.parent (t.home a)) y.from own_not (λ z. y.apart (sym z)) (sym i.parent ∙ ap t.parent e)

      inside : (q : ℕ) → place_at t (held t) (t.home a) q ≡ place_at (put_into t a d) (held (put_into t a d)) (t.home a) q
      inside q = place_still (t.home a) q (inr own_below) (places_elsewhere (t.home a) q own_not (λ e. y.apart (sym e))) (self q)
          (in_p (t.home a) q own_not)

  -- where the two stand before and after
  own_before : (s : ℕ) → t.parent (t.home a) ≡ s → Stands t (t.home a) s
  own_before s e = record { used = w.homes a; placed = y.own; parent = e }

  own_after : Stands (put_into t a d) (t.home a) d
  unfolding put_into
  own_after = record { used = w.homes a; placed = y.own; parent = upd_same t.parent (t.home a) d }

  other_after : Stands (put_into t a d) m p
  unfolding put_into
  other_after = record {
    used = y.other.used;
    placed = y.other.placed;
    parent = upd_other t.parent (t.home a) m d y.apart ∙ y.other.parent;
  }

-- ---- enter: the home of a stands beside m in p, and goes into m

module _ (t : Tree) (w : Formed t) (a m p : ℕ) (v : Formed (put_into t a m)) (y : Travel t a m m p) (hp : t.parent (t.home a) ≡ p) (l : a < 64) where
  -- what p holds before: n[enter m. P | Q] | m[R] beside the rest
  pub enter_before : held t p
      ≅ amb (t.name (t.home a)) (row (t.unused a) ∣ beside_agent t a)
      ∣ (amb (t.name m) (held t m) ∣ (agents_of t p ∣ places_but_two t p (t.home a) m))
  enter_before = places_first t w p (t.home a) m (own_before t w a m m p v y p hp) y.other y.apart
      ⨾ struct_par (struct_amb (agent_first t w a l))

  -- m takes the traveller in
  taken_in : held (put_into t a m) m ≅ amb (t.name (t.home a)) (held (put_into t a m) (t.home a)) ∣ held t m
  unfolding level put_into
  taken_in = place_first (put_into t a m) v m (t.home a) (own_after t w a m m p v y) ⨾ struct_par_right (of_path
      ((λ j. parallel (fun_ext (λ x. sym (agents_elsewhere t a m m x y.apart)) j) 64 ∣ parallel (fun_ext rest j) 64)
      ∙ sym (unfolds t w m y.other.used)))
    where
      rest : (q : ℕ) → upd (place_at (put_into t a m) (held (put_into t a m)) m) (t.home a) nil q ≡ place_at t (held t) m q
      rest q = upd_drop (place_at (put_into t a m) (held (put_into t a m)) m) (place_at t (held t) m) (t.home a) q
          (place_not t (held t) m (t.home a) (λ i. other_not t w a m m p v y (sym i.parent ∙ hp)))
          (λ n. sym (in_other t w a m m p v y q n))

  -- and after: m[n[P | Q] | R] beside the same rest
  pub enter_after : held (put_into t a m) p
      ≅ amb (t.name m) (amb (t.name (t.home a)) (row (rest_of (t.unused a)) ∣ beside_agent t a) ∣ held t m)
      ∣ (agents_of t p ∣ places_but_two t p (t.home a) m)
  unfolding put_into
  enter_after = place_first (put_into t a m) v p m (other_after t w a m m p v y)
      ⨾ pars (struct_amb (taken_in ⨾ struct_par (struct_amb (traveller t w a m m p v y l))))
      (of_path (λ j. parallel (fun_ext (λ x. sym (agents_around t w a m m p v y x)) j) 64 ∣ parallel (fun_ext rest j) 64))
    where
      rest : (q : ℕ) → upd (place_at (put_into t a m) (held (put_into t a m)) p) m nil q ≡ upd (upd (place_at t (held t) p) (t.home a) nil) m nil q
      rest = upd_eq _ _ m (λ q n. sym (upd_drop (place_at t (held t) p) (place_at (put_into t a m) (held (put_into t a m)) p) (t.home a) q
          (place_not (put_into t a m) (held (put_into t a m)) p (t.home a)
          (λ i. other_not t w a m m p v y (sym (upd_same t.parent (t.home a) m) ∙ i.parent)))
          (λ k. in_around t w a m m p v y q k n)))

-- ---- exit: the home of a stands in m, and m in p; it goes into p

module _ (t : Tree) (w : Formed t) (a m p : ℕ) (v : Formed (put_into t a p)) (y : Travel t a p m p) (hm : t.parent (t.home a) ≡ m) (l : a < 64) where
  -- what p holds before: m[n[exit m. P | Q] | R] beside the rest
  pub exit_before : held t p
      ≅ amb (t.name m) (amb (t.name (t.home a)) (row (t.unused a) ∣ beside_agent t a) ∣ (agents_of t m ∣ places_but t m (t.home a)))
      ∣ (agents_of t p ∣ places_but t p m)
  exit_before = place_first t w p m y.other
      ⨾ struct_par (struct_amb (place_first t w m (t.home a) (own_before t w a p m p v y m hm) ⨾ struct_par (struct_amb (agent_first t w a l))))

  -- m without the traveller
  let_out : held (put_into t a p) m ≅ agents_of t m ∣ places_but t m (t.home a)
  unfolding level put_into
  let_out = of_path (unfolds (put_into t a p) v m y.other.used
      ∙ λ j. parallel (fun_ext (λ x. sym (agents_elsewhere t a p m x y.apart)) j) 64 ∣ parallel (fun_ext (λ q. sym (rest q)) j) 64)
    where
      rest : (q : ℕ) → upd (place_at t (held t) m) (t.home a) nil q ≡ place_at (put_into t a p) (held (put_into t a p)) m q
      rest q = upd_drop (place_at t (held t) m) (place_at (put_into t a p) (held (put_into t a p)) m) (t.home a) q
          (place_not (put_into t a p) (held (put_into t a p)) m (t.home a)
          (λ i. other_not t w a p m p v y (sym i.parent ∙ upd_same t.parent (t.home a) p)))
          (λ n. in_other t w a p m p v y q n)

  -- and after: n[P | Q] | m[R] beside the same rest
  pub exit_after : held (put_into t a p) p
      ≅ amb (t.name (t.home a)) (row (rest_of (t.unused a)) ∣ beside_agent t a)
      ∣ (amb (t.name m) (agents_of t m ∣ places_but t m (t.home a)) ∣ (agents_of t p ∣ places_but t p m))
  unfolding put_into
  exit_after = places_first (put_into t a p) v p (t.home a) m (own_after t w a p m p v y) (other_after t w a p m p v y) y.apart
      ⨾ pars (struct_amb (traveller t w a p m p v y l)) (pars (struct_amb let_out)
      (of_path (λ j. parallel (fun_ext (λ x. sym (agents_around t w a p m p v y x)) j) 64 ∣ parallel (fun_ext rest j) 64)))
    where
      rest : (q : ℕ) → upd (upd (place_at (put_into t a p) (held (put_into t a p)) p) (t.home a) nil) m nil q ≡ upd (place_at t (held t) p) m nil q
      rest = upd_eq _ _ m (λ q n. upd_drop (place_at (put_into t a p) (held (put_into t a p)) p) (place_at t (held t) p) (t.home a) q
          (place_not t (held t) p (t.home a) (λ i. other_not t w a p m p v y (sym hm ∙ i.parent)))
          (λ k. sym (in_around t w a p m p v y q k n)))
