-- The claim of what a step changes leaves nothing open: two cells that satisfy it for one cell, call and answer are the same cell.
-- Number by number: each place, lock and agent is one of those that the word's sentence lists, or as it was.
use Rattle.std.specs.Prelude.{◌≡◌, refl, ◌≢◌, ◌⊎◌, true, false, not, cond, ℕ, eqb, ltb, Ok, Err}
use Rattle.std.proofs.Common.{sym, ap, ap₂, ◌∙◌, subst, inl, inr, eqb-true, eq-eqb, ne_eqb}
use Rattle.std.proofs.Math.Path.{fun_ext}
use Rattle.std.proofs.Math.Bool.{and-false}
use Rattle.table.proofs.BaseLaws.{Told, yea, nay, told, eq?}
use Rattle.table.specs.Cell.{Land, State, none, fresh_number}
use Rattle.table.specs.declared.Agent.{Agent}
use Rattle.meaning.specs.declared.Word.{Word}
use Rattle.meaning.specs.declared.Word.TheVariants.{Looked, Took, Held, Back, Slept, Left, Came, Opened, Put, Asleep, Done}
use Rattle.meaning.specs.Answers.{Answer, Did}
use Rattle.meaning.specs.Update.{at_stage}
use Rattle.meaning.specs.Step.{lets_go, asleep_on, dissolve_agent}
use Rattle.demands.proofs.FieldLaws.{place_same, agent_same, state_same}
use Rattle.demands.specs.ByWord.{used_after, stage_by, Stepped}
use Rattle.demands.specs.NoMore.{Untouched, Returned, OnlyAgent, OnlyPlace, needed, Waking, is_woken, is_awake, sleeps_elsewhere}
use Rattle.demands.specs.NoMore.{Dissolved, moves, moves_done, forgets, wakes, goes_on, sleeps_on}
use Rattle.demands.specs.NoMore.{ByTaking, ByOpening, ByPutting, ChangesBy, Changes, NoMore}

-- ---- one agent

-- waking makes one thing of it
waking_same : {p q r : ℕ} {a b b' : Agent} → Waking p q r a b → Waking p q r a b' → b ≡ b'
waking_same (is_woken s e) (is_woken s' e') = refl
waking_same (is_woken s e) (is_awake n) = absurd (n s)
waking_same (is_woken s (inl e)) (sleeps_elsewhere _ n m k) = absurd (n e)
waking_same (is_woken s (inr (inl e))) (sleeps_elsewhere _ n m k) = absurd (m e)
waking_same (is_woken s (inr (inr e))) (sleeps_elsewhere _ n m k) = absurd (k e)
waking_same (is_awake n) (is_woken s e) = absurd (n s)
waking_same (is_awake n) (is_awake _) = refl
waking_same (is_awake n) (sleeps_elsewhere s _ _ _) = refl
waking_same (sleeps_elsewhere _ n m k) (is_woken s (inl e)) = absurd (n e)
waking_same (sleeps_elsewhere _ n m k) (is_woken s (inr (inl e))) = absurd (m e)
waking_same (sleeps_elsewhere _ n m k) (is_woken s (inr (inr e))) = absurd (k e)
waking_same (sleeps_elsewhere s _ _ _) (is_awake n) = refl
waking_same (sleeps_elsewhere _ _ _ _) (sleeps_elsewhere _ _ _ _) = refl

-- the stage that a word says asks no more of the agent after than how many actions are left
stage_same : (word : Word) (a b b' : Agent) → b.next ≡ b'.next → b.count ≡ b'.count → stage_by word a b ≡ stage_by word a b'
stage_same Looked a b b' n k = refl
stage_same Took a b b' n k = refl
stage_same Held a b b' n k = refl
stage_same Back a b b' n k = refl
stage_same Slept a b b' n k = refl
stage_same Left a b b' n k = refl
stage_same Came a b b' n k = ap₂ (λ (u v : ℕ). cond (ltb u v) 0 8) n k
stage_same Opened a b b' n k = ap₂ (λ (u v : ℕ). cond (ltb u v) 0 8) n k
stage_same Put a b b' n k = ap₂ (λ (u v : ℕ). cond (ltb u v) 0 8) n k
stage_same Asleep a b b' n k = refl
stage_same Done a b b' n k = refl

-- a step makes one thing of the agent that steps
stepped_one : {word : Word} {l : Land} {wish : ℕ} {a b b' : Agent} → Stepped word l wish a b → Stepped word l wish a b' → b ≡ b'
stepped_one {word} {l} {wish} {a} {b} {b'} s t =
    let n = s.next ∙ sym t.next in let k = s.count ∙ sym t.count in
    agent_same (s.home ∙ sym t.home) (s.stage ∙ stage_same word a b b' n k ∙ sym t.stage) (s.remembered ∙ sym t.remembered)
    (s.chosen ∙ sym t.chosen) n k (s.actions ∙ sym t.actions)

-- dissolving makes of it what the step says
dissolved_is : {p t : ℕ} {a b : Agent} → Dissolved p t a b → b ≡ dissolve_agent p t a
unfolding dissolve_agent asleep_on
dissolved_is {p} {t} {a} (moves h s) = rw (eq-eqb a.home t h, ne_eqb a.stage 8 s)
dissolved_is {p} {t} {a} (moves_done h s) = rw (eq-eqb a.home t h, eq-eqb a.stage 8 s)
dissolved_is {p} {t} {a} (forgets h s m) = rw (ne_eqb a.home t h, eq-eqb a.stage 1 s, eq-eqb a.remembered t m)
dissolved_is {p} {t} {a} (wakes h s (inl e)) =
    rw (ne_eqb a.home t h, ap (λ (n : ℕ). eqb n 1) s, ap (λ (n : ℕ). eqb n 7) s, eq-eqb a.remembered p e)
dissolved_is {p} {t} {a} (wakes h s (inr (inl e))) = go (told (eqb a.remembered p))
  where
    go : Told (eqb a.remembered p) → at_stage a 0 0 0 ≡ dissolve_agent p t a
    go (yea f) = rw (ne_eqb a.home t h, ap (λ (n : ℕ). eqb n 1) s, ap (λ (n : ℕ). eqb n 7) s, f)
    go (nay f) = rw (ne_eqb a.home t h, ap (λ (n : ℕ). eqb n 1) s, ap (λ (n : ℕ). eqb n 7) s, f, eq-eqb a.remembered t e)
dissolved_is {p} {t} {a} (wakes h s (inr (inr e))) = go (told (eqb a.remembered p)) (told (eqb a.remembered t))
  where
    go : Told (eqb a.remembered p) → Told (eqb a.remembered t) → at_stage a 0 0 0 ≡ dissolve_agent p t a
    go (yea f) _ = rw (ne_eqb a.home t h, ap (λ (n : ℕ). eqb n 1) s, ap (λ (n : ℕ). eqb n 7) s, f)
    go (nay f) (yea j) = rw (ne_eqb a.home t h, ap (λ (n : ℕ). eqb n 1) s, ap (λ (n : ℕ). eqb n 7) s, f, j)
    go (nay f) (nay j) =
        rw (ne_eqb a.home t h, ap (λ (n : ℕ). eqb n 1) s, ap (λ (n : ℕ). eqb n 7) s, f, j, eq-eqb a.remembered none e)
dissolved_is {p} {t} {a} (goes_on h n m) = go (told (eqb a.stage 1))
  where
    go : Told (eqb a.stage 1) → a ≡ dissolve_agent p t a
    go (yea e) = rw (ne_eqb a.home t h, e, ne_eqb a.remembered t (m (eqb-true _ _ e)), ne_eqb a.stage 7 n)
    go (nay e) = rw (ne_eqb a.home t h, e, ne_eqb a.stage 7 n)
dissolved_is {p} {t} {a} (sleeps_on h s m k j) = rw (
  ne_eqb a.home t h,
  ap (λ (n : ℕ). eqb n 1) s,
  ap (λ (n : ℕ). eqb n 7) s,
  ne_eqb a.remembered p m,
  ne_eqb a.remembered t k,
  ne_eqb a.remembered none j,
)

-- ---- number by number

-- two cells with the same places, locks and agents
record Alike (d e : State) : Type 0 where
  place : (q : ℕ) → d.land.place q ≡ e.land.place q
  lock : (q : ℕ) → d.lock q ≡ e.lock q
  agent : (y : ℕ) → d.agent y ≡ e.agent y

-- nothing changed in either
alike : {c d e : State} → d ≡ c → e ≡ c → Alike d e
alike {c} {d} {e} p q =
    let r = p ∙ sym q in
    record { place = λ n. ap (λ (s : State). s.land.place n) r; lock = λ n. ap (λ (s : State). s.lock n) r; agent = λ n. ap (λ (s : State). s.agent n) r }

-- one place changed
moved_one : {c d e : State} {h to travels : ℕ} → OnlyPlace c h to travels d → OnlyPlace c h to travels e → (q : ℕ) → d.land.place q ≡ e.land.place q
moved_one {c} {d} {e} {h} a b q = go (eq? q h)
  where
    go : (q ≡ h) ⊎ (q ≢ h) → d.land.place q ≡ e.land.place q
    go (inl z) = subst (λ (n : ℕ). d.land.place n ≡ e.land.place n) (sym z)
        (place_same (a.name ∙ sym b.name) (a.parent ∙ sym b.parent) (a.way ∙ sym b.way))
    go (inr n) = a.others q n ∙ sym (b.others q n)

-- what is not in use does not come into use
abbrev NoneNew : State → State → Type 0
NoneNew c d = (q : ℕ) → c.land.used q ≡ false → d.land.used q ≡ false

module _ {c d e : State} (u : Untouched c d) (v : Untouched c e) (x : ℕ) where
  -- agent x is the same in both, and so is every other that is given
  agents : d.agent x ≡ e.agent x → ((y : ℕ) → y ≢ x → c.given y ≡ true → d.agent y ≡ e.agent y) → (y : ℕ) → d.agent y ≡ e.agent y
  agents s f y = go (eq? y x) (told (c.given y))
    where
      go : (y ≡ x) ⊎ (y ≢ x) → Told (c.given y) → d.agent y ≡ e.agent y
      go (inl z) _ = subst (λ (n : ℕ). d.agent n ≡ e.agent n) (sym z) s
      go (inr n) (yea g) = f y n g
      go (inr n) (nay g) = u.agent y g ∙ sym (v.agent y g)

  -- only agent x and locks changed
  only : OnlyAgent c x d → OnlyAgent c x e → d.agent x ≡ e.agent x → ((q : ℕ) → d.lock q ≡ e.lock q) → Alike d e
  only a b s l = record {
    place = λ q. ap (λ (z : Land). z.place q) (a.land ∙ sym b.land);
    lock = l;
    agent = agents s (λ y n g. a.others y n ∙ sym (b.others y n));
  }

  -- x has given its locks back
  returned_one : NoneNew c d → NoneNew c e → Returned c x d.lock → Returned c x e.lock → (q : ℕ) → d.lock q ≡ e.lock q
  returned_one m n a b q = go (eq? (c.lock q) x) (told (c.land.used q))
    where
      go : (c.lock q ≡ x) ⊎ (c.lock q ≢ x) → Told (c.land.used q) → d.lock q ≡ e.lock q
      go (inr k) _ = a.others q k ∙ sym (b.others q k)
      go (inl z) (yea w) = a.ours q w z ∙ sym (b.ours q w z)
      go (inl z) (nay w) = u.lock q w (m q w) ∙ sym (v.lock q w (n q w))

  -- x has taken the lock that it needs
  taken_one : ByTaking c x d → ByTaking c x e → d.agent x ≡ e.agent x → (q : ℕ) → d.lock q ≡ e.lock q
  taken_one a b s q = go (eq? q (needed c.land (c.agent x) (d.agent x).chosen))
    where
      at : needed c.land (c.agent x) (d.agent x).chosen ≡ needed c.land (c.agent x) (e.agent x).chosen
      at = ap (λ (z : Agent). needed c.land (c.agent x) z.chosen) s

      go : (q ≡ needed c.land (c.agent x) (d.agent x).chosen) ⊎ (q ≢ needed c.land (c.agent x) (d.agent x).chosen) → d.lock q ≡ e.lock q
      go (inl z) = ap d.lock z ∙ a.taken ∙ sym (ap e.lock (z ∙ at) ∙ b.taken)
      go (inr n) = a.locks q n ∙ sym (b.locks q (λ z. n (z ∙ sym at)))

  -- a place is opened
  opened_one : NoneNew c d → NoneNew c e → ByOpening c x d → ByOpening c x e → d.agent x ≡ e.agent x → Alike d e
  opened_one nd ne a b s = record {
    place = λ q. place q (eq? q t) (eq? (c.land.place q).parent t) (told (c.land.used q));
    lock = λ q. lock q (eq? (c.lock q) x) (told (lets_go c t (c.lock q))) (told (c.land.used q));
    agent = agents s (λ y n g. dissolved_is (a.others y n g) ∙ sym (dissolved_is (b.others y n g)));
  }
    where
      t : ℕ
      t = (c.agent x).chosen

      place : (q : ℕ) → (q ≡ t) ⊎ (q ≢ t) → ((c.land.place q).parent ≡ t) ⊎ ((c.land.place q).parent ≢ t) → Told (c.land.used q)
          → d.land.place q ≡ e.land.place q
      place q (inl z) _ _ = subst (λ (n : ℕ). d.land.place n ≡ e.land.place n) (sym z) (a.dissolved ∙ sym b.dissolved)
      place q (inr n) (inr m) _ = a.places q n m ∙ sym (b.places q n m)
      place q (inr n) (inl m) (yea w) = a.children q w n m ∙ sym (b.children q w n m)
      place q (inr n) (inl m) (nay w) = u.place q w (nd q w) ∙ sym (v.place q w (ne q w))

      lock : (q : ℕ) → (c.lock q ≡ x) ⊎ (c.lock q ≢ x) → Told (lets_go c t (c.lock q)) → Told (c.land.used q) → d.lock q ≡ e.lock q
      lock q _ _ (nay w) = u.lock q w (nd q w) ∙ sym (v.lock q w (ne q w))
      lock q (inl z) _ (yea w) = a.own_locks q w z ∙ sym (b.own_locks q w z)
      lock q (inr n) (yea m) (yea w) = a.moved_locks q w m ∙ sym (b.moved_locks q w m)
      lock q (inr n) (nay m) (yea w) = a.locks q n m ∙ sym (b.locks q n m)

  -- a place is put
  put_one : ((q : ℕ) → q ≢ fresh_number c.land.used → c.land.used q ≡ false → (d.land.used q ≡ false) × (e.land.used q ≡ false))
      → ByPutting c x d → ByPutting c x e → d.agent x ≡ e.agent x → Alike d e
  put_one unused a b s = record {
    place = λ q. place q (eq? q new);
    lock = λ q. lock q (eq? q new) (eq? (c.lock q) x) (told (c.land.used q));
    agent = agents s (λ y n g. waking_same (a.others y n g) (b.others y n g));
  }
    where
      new : ℕ
      new = fresh_number c.land.used

      place : (q : ℕ) → (q ≡ new) ⊎ (q ≢ new) → d.land.place q ≡ e.land.place q
      place q (inl z) = subst (λ (n : ℕ). d.land.place n ≡ e.land.place n) (sym z) (a.new_place ∙ sym b.new_place)
      place q (inr n) = a.places q n ∙ sym (b.places q n)

      lock : (q : ℕ) → (q ≡ new) ⊎ (q ≢ new) → (c.lock q ≡ x) ⊎ (c.lock q ≢ x) → Told (c.land.used q) → d.lock q ≡ e.lock q
      lock q (inl z) _ _ = subst (λ (n : ℕ). d.lock n ≡ e.lock n) (sym z) (a.new_lock ∙ sym b.new_lock)
      lock q (inr n) (inr m) _ = a.locks q n m ∙ sym (b.locks q n m)
      lock q (inr n) (inl m) (yea w) = a.own_locks q w m ∙ sym (b.own_locks q w m)
      lock q (inr n) (inl m) (nay w) = u.lock q w (unused q n w).0 ∙ sym (v.lock q w (unused q n w).1)

-- the numbers in use after an answer
abbrev UsedAfter : Answer → State → ℕ → State → Type 0
UsedAfter answer c x d = (q : ℕ) → d.land.used q ≡ used_after answer (c.agent x) c.land.used q

-- opened: none comes into use
opened_none_new : (c d : State) (x woken : ℕ) → UsedAfter (Did Opened woken) c x d → NoneNew c d
opened_none_new c d x woken m q w = m q ∙ rw w (and-false (not (eqb q (c.agent x).chosen)))

-- put: none but one
put_none_new : (c d : State) (x woken : ℕ) → UsedAfter (Did Put woken) c x d
    → (q : ℕ) → q ≢ fresh_number c.land.used → c.land.used q ≡ false → d.land.used q ≡ false
put_none_new c d x woken m q n w = m q ∙ rw (ne_eqb q (fresh_number c.land.used) n, w)

-- each word
by_word : {c d e : State} → Untouched c d → Untouched c e → (x : ℕ) (word : Word) (woken : ℕ) → UsedAfter (Did word woken) c x d
    → UsedAfter (Did word woken) c x e → ChangesBy word c x d → ChangesBy word c x e → d.agent x ≡ e.agent x → Alike d e
by_word u v x Looked woken m n a b s = only u v x a.only b.only s (λ q. ap (λ (f : ℕ → ℕ). f q) (a.locks ∙ sym b.locks))
by_word u v x Took woken m n a b s = only u v x a.only b.only s (taken_one u v x a b s)
by_word u v x Held woken m n a b s = alike a b
by_word u v x Back woken m n a b s =
    only u v x a.only b.only s (returned_one u v x (λ q w. m q ∙ w) (λ q w. n q ∙ w) a.locks b.locks)
by_word u v x Slept woken m n a b s =
    only u v x a.only b.only s (returned_one u v x (λ q w. m q ∙ w) (λ q w. n q ∙ w) a.locks b.locks)
by_word u v x Left woken m n a b s = record {
  place = moved_one a.place b.place;
  lock = returned_one u v x (λ q w. m q ∙ w) (λ q w. n q ∙ w) a.locks b.locks;
  agent = agents u v x s (λ y d g. waking_same (a.others y d g) (b.others y d g));
}
by_word u v x Came woken m n a b s = record {
  place = moved_one a.place b.place;
  lock = returned_one u v x (λ q w. m q ∙ w) (λ q w. n q ∙ w) a.locks b.locks;
  agent = agents u v x s (λ y d g. waking_same (a.others y d g) (b.others y d g));
}
by_word {c} {d} {e} u v x Opened woken m n a b s = opened_one u v x (opened_none_new c d x woken m) (opened_none_new c e x woken n) a b s
by_word {c} {d} {e} u v x Put woken m n a b s =
    put_one u v x (λ q k w. (put_none_new c d x woken m q k w, put_none_new c e x woken n q k w)) a b s
by_word u v x Asleep woken m n a b s = alike a b
by_word u v x Done woken m n a b s = alike a b

-- two cells that satisfy the claim for one cell, agent, wish and answer are the same
pub no_more_whole : {c d e : State} {x wish : ℕ} (answer : Answer) → NoMore c x wish d answer → NoMore c x wish e answer → d ≡ e
no_more_whole {c} {d} {e} {x} {wish} answer m n = go (both answer m.used n.used m.changes n.changes)
  where
    both : (w : Answer) → UsedAfter w c x d → UsedAfter w c x e → Changes w c x wish d → Changes w c x wish e → Alike d e
    both (Ok o) i j p q = by_word m.untouched n.untouched x o.word o.woken i j p.1 q.1 (stepped_one p.0 q.0)
    both (Err number) i j p q = alike p q

    go : Alike d e → d ≡ e
    go s = state_same (fun_ext s.place) (fun_ext (λ q. m.used q ∙ sym (n.used q))) (m.order ∙ sym n.order) (fun_ext s.lock)
        (fun_ext s.agent) (m.untouched.given ∙ sym n.untouched.given) (fun_ext (λ q. m.touches q ∙ sym (n.touches q)))
