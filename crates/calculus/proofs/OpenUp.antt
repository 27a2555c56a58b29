-- An opening: what the agent's own place holds before and after.
-- Idea: each number adds to the agent's own place what it added there before, beside what it added to the opened place m; the rest is reordering.
use Rattle.std.specs.Prelude.{◌≡◌, ◌≢◌, ◌⊎◌, ℕ, ◌<◌, not, eqb}
use Rattle.std.proofs.Math.Path.{refl, sym, ap}
use Rattle.std.proofs.Common.{◌∙◌, subst, inl, inr}
use Rattle.std.proofs.Math.Bool.{true, false}
use borrow.Author.Tests.{eq-eqb, ne_eqb}
use Rattle.table.specs.Base.{upd}
use Rattle.table.proofs.BaseLaws.{clash, eq?, upd_same, upd_at, upd_other}
use Rattle.table.specs.Cell.{no_name}
use Rattle.meaning.specs.Calculus.{Tree, rest_of, stands_at, open_up}
use Rattle.calculus.specs.Formed.{Formed}
use Rattle.calculus.proofs.MoveCases.{Stands, and_no}
use Rattle.calculus.proofs.Above.{Below, below_one, below_not}
use Rattle.calculus.specs.Terms.{Term, amb, nil, ◌∣◌, ◌≅◌, struct_symm, struct_par_zero, struct_par_comm, struct_par_assoc, struct_par}
use Rattle.calculus.proofs.TermLaws.{◌⨾◌, of_path, zero_par, swap, swap_middle, pars, struct_par_right}
use Rattle.calculus.specs.TermOf.{row, parallel, agent_at, place_at, level, held}
use Rattle.calculus.proofs.Parallel.{parallel_same, parallel_cong, parallel_par, parallel_first}
use Rattle.calculus.proofs.Depth.{unfolds}
use Rattle.calculus.proofs.Contents.{agents_but, places_but, upd_eq, agent_is, agent_not, place_is, place_not, place_eq, agent_first}
use Rattle.calculus.proofs.Near.{Local, low_same}

-- a term that is one of two and the other is 0
first_only : {P Q R : Term} → P ≡ Q → R ≡ nil → P ≅ Q ∣ R
first_only e z = of_path e ⨾ struct_symm struct_par_zero ⨾ struct_par_right (of_path (sym z))

second_only : {P Q R : Term} → P ≡ R → Q ≡ nil → P ≅ Q ∣ R
second_only e z = of_path e ⨾ struct_symm zero_par ⨾ struct_par (of_path (sym z))

module _ (t : Tree) (w : Formed t) (a m : ℕ) (v : Formed (open_up t a m)) (mp : Stands t m (t.home a)) where
  opened_below : Below t.parent (t.home a) m
  opened_below = below_one mp.placed mp.parent

  opened_not : m ≢ t.home a
  opened_not = below_not t w opened_below

  -- ---- homes and names after

  home_moves : (x : ℕ) → t.home x ≡ m → (open_up t a m).home x ≡ t.home a
  unfolding open_up
  home_moves x e = rw (eq-eqb (t.home x) m e)

  home_stays : (x : ℕ) → t.home x ≢ m → (open_up t a m).home x ≡ t.home x
  unfolding open_up
  home_stays x d = rw (ne_eqb (t.home x) m d)

  name_stays : (q : ℕ) → q ≢ m → t.name q ≡ (open_up t a m).name q
  unfolding open_up
  name_stays q n = sym (upd_other t.name m q no_name n)

  -- the opened place is no more
  opened_gone : (s : ℕ) → Stands (open_up t a m) m s → ⊥
  unfolding open_up
  opened_gone s i = clash i.used (upd_same t.used m false)

  -- ---- away from the two places

  agent_stays : (s x : ℕ) → x ≢ a → t.home x ≢ m → agent_at t s x ≡ agent_at (open_up t a m) s x
  unfolding agent_at open_up
  agent_stays s x n d = rw (ne_eqb (t.home x) m d, upd_other t.unused a x (rest_of (t.unused a)) n)

  agents_elsewhere : (s : ℕ) → s ≢ t.home a → s ≢ m → (x : ℕ) → agent_at t s x ≡ agent_at (open_up t a m) s x
  agents_elsewhere s sp sm x = go (eq? x a) (eq? (t.home x) m)
    where
      go : (x ≡ a) ⊎ (x ≢ a) → (t.home x ≡ m) ⊎ (t.home x ≢ m) → agent_at t s x ≡ agent_at (open_up t a m) s x
      go c (inl e) = agent_not t s x (λ z. sm (sym z ∙ e)) ∙ sym (agent_not (open_up t a m) s x (λ z. sp (sym z ∙ home_moves x e)))
      go (inl c) (inr d) =
          let n : t.home x ≢ s = λ z. sp (sym z ∙ ap t.home c) in
          agent_not t s x n ∙ sym (agent_not (open_up t a m) s x (λ z. n (sym (home_stays x d) ∙ z)))
      go (inr c) (inr d) = agent_stays s x c d

  place_stays : (s q : ℕ) → q ≢ m → t.parent q ≢ m → stands_at t q s ≡ stands_at (open_up t a m) q s
  unfolding stands_at open_up
  place_stays s q n d = rw (upd_other t.used m q false n, ne_eqb q m n, ne_eqb (t.parent q) m d)

  place_moves : (q : ℕ) → q ≢ m → t.parent q ≡ m → stands_at t q m ≡ stands_at (open_up t a m) q (t.home a)
  unfolding stands_at open_up
  place_moves q n e = rw (upd_other t.used m q false n, ne_eqb q m n, e, eq-eqb m m refl, eq-eqb (t.home a) (t.home a) refl)

  places_elsewhere : (s q : ℕ) → s ≢ t.home a → s ≢ m → stands_at t q s ≡ stands_at (open_up t a m) q s
  unfolding stands_at open_up
  places_elsewhere s q sp sm = go (eq? q m) (eq? (t.parent q) m)
    where
      go : (q ≡ m) ⊎ (q ≢ m) → (t.parent q ≡ m) ⊎ (t.parent q ≢ m) → stands_at t q s ≡ stands_at (open_up t a m) q s
      go (inl e) c = rw (
        upd_at t.used m q false e,
        ne_eqb (t.parent q) s (λ z. sp (sym z ∙ ap t.parent e ∙ mp.parent)),
        and_no (t.used q) (not (eqb q 0)),
      )
      go (inr n) (inl e) = rw (
        upd_other t.used m q false n,
        ne_eqb q m n,
        eq-eqb (t.parent q) m e,
        ne_eqb (t.parent q) s (λ z. sm (sym z ∙ e)),
        ne_eqb (t.home a) s (λ z. sp (sym z)),
      )
      go (inr n) (inr d) = place_stays s q n d

  -- the change is near the agent's own place
  pub open_local : Local t (open_up t a m) (t.home a) (λ s. s ≡ m)
  open_local = record {
    agents = agents_elsewhere;
    places = λ s q sp sm. places_elsewhere s q sp sm;
    names = λ s q sp sm i. name_stays q (λ e. sp (sym i.parent ∙ ap t.parent e ∙ mp.parent));
    near = λ s q i e. inl (sym i.parent ∙ ap t.parent e ∙ mp.parent);
    low = λ q e. subst (Below t.parent (t.home a)) (sym e) opened_below;
  }

  -- ---- each number after the opening

  agent_after : (x : ℕ) → agent_at (open_up t a m) (t.home a) x ≅ upd (agent_at t (t.home a)) a (row (rest_of (t.unused a))) x ∣ agent_at t m x
  unfolding open_up
  agent_after x = go (eq? x a) (eq? (t.home x) m)
    where
      go : (x ≡ a) ⊎ (x ≢ a) → (t.home x ≡ m) ⊎ (t.home x ≢ m)
          → agent_at (open_up t a m) (t.home a) x ≅ upd (agent_at t (t.home a)) a (row (rest_of (t.unused a))) x ∣ agent_at t m x
      go (inl c) e =
          let n : t.home x ≢ m = λ z. opened_not (sym z ∙ ap t.home c) in
          first_only (agent_is (open_up t a m) (t.home a) x (home_stays x n ∙ ap t.home c)
          ∙ ap row (upd_at t.unused a x (rest_of (t.unused a)) c)
          ∙ sym (upd_at (agent_at t (t.home a)) a x (row (rest_of (t.unused a))) c)) (agent_not t m x n)
      go (inr c) (inl e) =
          second_only (agent_is (open_up t a m) (t.home a) x (home_moves x e) ∙ ap row (upd_other t.unused a x (rest_of (t.unused a)) c)
          ∙ sym (agent_is t m x e))
          (upd_other (agent_at t (t.home a)) a x (row (rest_of (t.unused a))) c ∙ agent_not t (t.home a) x (λ z. opened_not (sym e ∙ z)))
      go (inr c) (inr d) =
          first_only (sym (agent_stays (t.home a) x c d) ∙ sym (upd_other (agent_at t (t.home a)) a x (row (rest_of (t.unused a))) c))
          (agent_not t m x d)

  -- a place that stood in m or beside it holds what it held
  inside_same : (s q : ℕ) → (s ≡ t.home a) ⊎ Below t.parent (t.home a) s → Stands t q s → q ≢ m → held t q ≡ held (open_up t a m) q
  inside_same s q l i n = low_same t (open_up t a m) w v (t.home a) (λ r. r ≡ m) open_local s q l i n

  place_after : (q : ℕ) → place_at (open_up t a m) (held (open_up t a m)) (t.home a) q ≅ upd (place_at t (held t) (t.home a)) m nil q
      ∣ place_at t (held t) m q
  place_after q = go (eq? q m) (eq? (t.parent q) m)
    where
      go : (q ≡ m) ⊎ (q ≢ m) → (t.parent q ≡ m) ⊎ (t.parent q ≢ m)
          → place_at (open_up t a m) (held (open_up t a m)) (t.home a) q ≅ upd (place_at t (held t) (t.home a)) m nil q ∣ place_at t (held t) m q
      go (inl e) c =
          first_only (place_not (open_up t a m) (held (open_up t a m)) (t.home a) q
          (λ i. opened_gone (t.home a) (subst (λ r. Stands (open_up t a m) r (t.home a)) e i))
          ∙ sym (upd_at (place_at t (held t) (t.home a)) m q nil e))
          (place_not t (held t) m q (λ i. opened_not (sym i.parent ∙ ap t.parent e ∙ mp.parent)))
      go (inr n) (inl e) =
          second_only (sym (place_eq t (open_up t a m) (held t) (held (open_up t a m)) m (t.home a) q (place_moves q n e) (λ i. name_stays q n)
          (λ i. inside_same m q (inr opened_below) i n)))
          (upd_other (place_at t (held t) (t.home a)) m q nil n ∙ place_not t (held t) (t.home a) q (λ i. opened_not (sym e ∙ i.parent)))
      go (inr n) (inr d) =
          first_only (sym (place_eq t (open_up t a m) (held t) (held (open_up t a m)) (t.home a) (t.home a) q (place_stays (t.home a) q n d)
          (λ i. name_stays q n)
          (λ i. inside_same (t.home a) q (inl refl) i n))
          ∙ sym (upd_other (place_at t (held t) (t.home a)) m q nil n)) (place_not t (held t) m q (λ i. d i.parent))

  -- ---- before and after

  -- before: open n. P | n[Q] beside the rest
  pub open_before : a < 64 → held t (t.home a) ≅ row (t.unused a)
      ∣ (amb (t.name m) (held t m) ∣ (agents_but t (t.home a) a ∣ places_but t (t.home a) m))
  open_before l = agent_first t w a l
      ⨾ struct_par_right (struct_par_right (parallel_first (place_at t (held t) (t.home a)) m 64 (w.small m mp.used) ⨾ struct_par
      (of_path (place_is t (held t) (t.home a) m mp))) ⨾ swap)

  -- after: P | Q beside the same rest
  pub open_after : a < 64 → held (open_up t a m) (t.home a) ≅ row (rest_of (t.unused a))
      ∣ (held t m ∣ (agents_but t (t.home a) a ∣ places_but t (t.home a) m))
  unfolding level open_up
  open_after l =
      of_path (unfolds (open_up t a m) v (t.home a) own_used)
      ⨾ pars (parallel_cong 64 agent_after ⨾ parallel_par spent (agent_at t m) 64 ⨾ struct_par first)
      (parallel_cong 64 place_after ⨾ parallel_par (upd (place_at t (held t) (t.home a)) m nil) (place_at t (held t) m) 64)
      ⨾ swap_middle ⨾ struct_par struct_par_assoc ⨾ struct_par_assoc ⨾ struct_par_right struct_par_comm
      ⨾ struct_par_right (struct_par (of_path (sym (unfolds t w m mp.used))))
    where
      own_used : (open_up t a m).used (t.home a) ≡ true
      own_used = upd_other t.used m (t.home a) false (λ e. opened_not (sym e)) ∙ w.homes a

      -- the agents of the place, the action used up
      spent : ℕ → Term
      spent = upd (agent_at t (t.home a)) a (row (rest_of (t.unused a)))

      twice : (x : ℕ) → upd spent a nil x ≡ upd (agent_at t (t.home a)) a nil x
      twice = upd_eq spent (agent_at t (t.home a)) a (λ x n. upd_other (agent_at t (t.home a)) a x (row (rest_of (t.unused a))) n)

      first : parallel spent 64 ≅ row (rest_of (t.unused a)) ∣ agents_but t (t.home a) a
      first = parallel_first spent a 64 l ⨾ pars (of_path (upd_same (agent_at t (t.home a)) a (row (rest_of (t.unused a)))))
          (of_path (parallel_same 64 twice))
