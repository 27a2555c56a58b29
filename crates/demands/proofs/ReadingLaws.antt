-- What a step does to what is read of a cell: each change of places or agents is one value changed, or a plain rule for each number.
-- By cases on whether a number is in use and whether it is the one that changes.
use Rattle.std.specs.Prelude.{◌≡◌, ◌≢◌, ℕ, Bool, not, ◌&&◌, eqb}
use Rattle.std.proofs.Math.Path.{refl, sym, ap, fun_ext}
use Rattle.std.proofs.Common.{◌∙◌}
use Rattle.std.proofs.Math.Bool.{true, false, cond, and-false}
use borrow.Author.Tests.{eqb-true, ne_eqb}
use Rattle.table.specs.Base.{upd}
use Rattle.table.proofs.BaseLaws.{Told, yea, nay, told, and_right, upd_same, upd_other, upd_all}
use Rattle.table.specs.Cell.{Land, State, no_name, plain_name, no_place, fresh_agent, linked, travels, looking}
use Rattle.table.specs.declared.Name.{Name}
use Rattle.table.specs.declared.Place.{Place}
use Rattle.table.specs.declared.Agent.{Agent}
use Rattle.meaning.specs.Update.{linked_place, with_parent, at_stage, with_agent}
use Rattle.meaning.specs.Step.{send_to, link_up, put_land, dissolve_land, asleep_on, wake, dissolve_agent}
use Rattle.calculus.proofs.MoveCases.{and_no}
use Rattle.demands.specs.Reading.{parent_in, name_in, agent_in}

-- ---- what is read of a place: by its number, whether it is in use, and what it is

abbrev pub read_used : ℕ → Bool → Place → Bool
read_used q u x = u

abbrev pub read_parent : ℕ → Bool → Place → ℕ
read_parent q u x = cond u x.parent 0

abbrev pub read_name : ℕ → Bool → Place → Name
read_name q u x = cond u x.name no_name

abbrev pub read_linked : ℕ → Bool → Place → Bool
read_linked q u x = u && eqb x.way 0

abbrev pub read_travels : ℕ → Bool → Place → Bool
read_travels q u x = u && (not (eqb q 0) && not (eqb x.way 0))

-- after place h is written anew, one value of what is read is changed
pub written : {A : Type 0} (read : ℕ → Bool → Place → A) (l : Land) (used : ℕ → Bool) (h : ℕ) (new : Place) → ((q : ℕ) → q ≢ h → used q ≡ l.used q)
    → (λ q. read q (used q) (upd l.place h new q)) ≡ upd (λ q. read q (l.used q) (l.place q)) h (read h (used h) new)
written read l used h new same = fun_ext (upd_all l.place h new
    (λ q x. read q (used q) x ≡ upd (λ r. read r (l.used r) (l.place r)) h (read h (used h) new) q)
    (sym (upd_same _ h _)) (λ q n. ap (λ (u : Bool). read q u (l.place q)) (same q n) ∙ sym (upd_other _ h q _ n)))

-- a value that is written as it was changes nothing
pub upd_self : {A : Type 0} (f : ℕ → A) (i : ℕ) (v : A) → v ≡ f i → upd f i v ≡ f
upd_self f i v e = fun_ext (upd_all f i v (λ j w. w ≡ f j) e (λ j _. refl))

-- ---- place h is sent on its way to d

module _ (l : Land) (h d : ℕ) where
  pub linked_sent : linked (send_to l h d) ≡ upd (linked l) h false
  unfolding linked
  linked_sent = written read_linked l l.used h _ (λ q n. refl) ∙ ap (upd (linked l) h) (and-false (l.used h))

  pub parent_sent : l.used h ≡ true → parent_in (send_to l h d) ≡ upd (parent_in l) h d
  unfolding parent_in
  parent_sent u = written read_parent l l.used h _ (λ q n. refl) ∙ ap (λ (b : Bool). upd (parent_in l) h (cond b d 0)) u

  pub name_sent : name_in (send_to l h d) ≡ name_in l
  unfolding name_in
  name_sent = written read_name l l.used h _ (λ q n. refl) ∙ upd_self (name_in l) h _ refl

  -- it travels
  pub travels_sent : l.used h ≡ true → h ≢ 0 → travels (send_to l h d) ≡ upd (travels l) h true
  unfolding travels
  travels_sent u z = written read_travels l l.used h _ (λ q n. refl) ∙ ap (upd (travels l) h) (rw (u, ne_eqb h 0 z))

-- ---- place h is linked to where it was on its way to

module _ (l : Land) (h : ℕ) where
  pub linked_linked : l.used h ≡ true → linked (link_up l h) ≡ upd (linked l) h true
  unfolding linked
  linked_linked u = written read_linked l l.used h _ (λ q n. refl) ∙ ap (λ (b : Bool). upd (linked l) h (b && true)) u

  pub parent_linked : parent_in (link_up l h) ≡ parent_in l
  unfolding parent_in
  parent_linked = written read_parent l l.used h _ (λ q n. refl) ∙ upd_self (parent_in l) h _ refl

  pub name_linked : name_in (link_up l h) ≡ name_in l
  unfolding name_in
  name_linked = written read_name l l.used h _ (λ q n. refl) ∙ upd_self (name_in l) h _ refl

  -- it travels no more
  pub travels_linked : travels (link_up l h) ≡ upd (travels l) h false
  unfolding travels
  travels_linked = written read_travels l l.used h _ (λ q n. refl) ∙ ap (upd (travels l) h) (and_no (l.used h) (not (eqb h 0)))

-- ---- a new place q named n is put into p

module _ (l : Land) (q n p : ℕ) where
  -- one value of what is read is changed: that of a place in use
  put_read : {A : Type 0} (read : ℕ → Bool → Place → A)
      → (λ r. read r (upd l.used q true r) (upd l.place q (linked_place (plain_name n) p) r))
      ≡ upd (λ r. read r (l.used r) (l.place r)) q (read q true (linked_place (plain_name n) p))
  put_read read = written read l (upd l.used q true) q (linked_place (plain_name n) p) (λ r d. upd_other l.used q r true d)
      ∙ ap (λ (b : Bool). upd (λ r. read r (l.used r) (l.place r)) q (read q b (linked_place (plain_name n) p))) (upd_same l.used q true)

  pub linked_put : linked (put_land l q n p) ≡ upd (linked l) q true
  unfolding linked
  linked_put = put_read read_linked

  pub parent_put : parent_in (put_land l q n p) ≡ upd (parent_in l) q p
  unfolding parent_in
  parent_put = put_read read_parent

  pub name_put : name_in (put_land l q n p) ≡ upd (name_in l) q (plain_name n)
  unfolding name_in
  name_put = put_read read_name

  -- it does not travel
  pub travels_put : l.used q ≡ false → travels (put_land l q n p) ≡ travels l
  unfolding travels
  travels_put e = put_read read_travels ∙ upd_self (travels l) q _ (and_no true (not (eqb q 0)) ∙ sym (rw e))

-- ---- place t is dissolved into p

module _ (l : Land) (p t : ℕ) where
  -- what does not tell where a place stands is read as before, but for t
  gone : {A : Type 0} (read : ℕ → Bool → Place → A) → ((q : ℕ) (u : Bool) (x : Place) → read q u (with_parent x p) ≡ read q u x)
      → ((q : ℕ) (x y : Place) → read q false x ≡ read q false y)
      → (λ q. read q ((dissolve_land l p t).used q) ((dissolve_land l p t).place q)) ≡ upd (λ q. read q (l.used q) (l.place q)) t (read t false no_place)
  unfolding upd
  gone read blind unread = fun_ext λ q. go q (told (eqb q t)) (told (l.used q)) (told (eqb (l.place q).parent t))
    where
      go : (q : ℕ) → Told (eqb q t) → Told (l.used q) → Told (eqb (l.place q).parent t)
          → read q ((dissolve_land l p t).used q) ((dissolve_land l p t).place q) ≡ upd (λ r. read r (l.used r) (l.place r)) t (read t false no_place) q
      go q (yea e) (yea u) _ = rw (e, u, upd) (ap (λ (r : ℕ). read r false no_place) (eqb-true q t e))
      go q (yea e) (nay u) _ = rw (e, u, upd) (unread q (l.place q) no_place ∙ ap (λ (r : ℕ). read r false no_place) (eqb-true q t e))
      go q (nay e) (yea u) (yea f) = rw (e, u, f, upd) (blind q true (l.place q))
      go q (nay e) (yea u) (nay f) = rw (e, u, f, upd)
      go q (nay e) (nay u) _ = rw (e, u, upd)

  pub used_dissolved : (dissolve_land l p t).used ≡ upd l.used t false
  used_dissolved = gone read_used (λ q u x. refl) (λ q x y. refl)

  pub linked_dissolved : linked (dissolve_land l p t) ≡ upd (linked l) t false
  unfolding linked
  linked_dissolved = gone read_linked (λ q u x. refl) (λ q x y. refl)

  pub name_dissolved : name_in (dissolve_land l p t) ≡ upd (name_in l) t no_name
  unfolding name_in
  name_dissolved = gone read_name (λ q u x. refl) (λ q x y. refl)

  -- a linked place that is dissolved did not travel
  pub travels_dissolved : linked l t ≡ true → travels (dissolve_land l p t) ≡ travels l
  unfolding travels linked
  travels_dissolved k = gone read_travels (λ q u x. refl) (λ q x y. refl)
      ∙ upd_self (travels l) t false (sym (rw (and_right (l.used t) (eqb (l.place t).way 0) k) (and_no (l.used t) (not (eqb t 0)))))

  -- what stood in t stands in p
  pub parent_dissolved : t ≢ 0 → parent_in (dissolve_land l p t) ≡ (λ q. cond (eqb q t) 0 (cond (eqb (parent_in l q) t) p (parent_in l q)))
  unfolding parent_in
  parent_dissolved n = fun_ext λ q. go q (told (eqb q t)) (told (l.used q)) (told (eqb (l.place q).parent t))
    where
      go : (q : ℕ) → Told (eqb q t) → Told (l.used q) → Told (eqb (l.place q).parent t)
          → parent_in (dissolve_land l p t) q ≡ cond (eqb q t) 0 (cond (eqb (parent_in l q) t) p (parent_in l q))
      go q (yea e) _ _ = rw e
      go q (nay e) (yea u) (yea f) = rw (e, u, f)
      go q (nay e) (yea u) (nay f) = rw (e, u, f)
      go q (nay e) (nay u) f = rw (e, u, ne_eqb 0 t (λ z. n (sym z)))

-- ---- agents

-- an agent that is given reads as it is
pub agent_given : (c : State) (x : ℕ) → c.given x ≡ true → agent_in c x ≡ c.agent x
unfolding agent_in
agent_given c x g = rw g

-- agent x becomes a, and f says what becomes of every other agent
pub agents_changed : (c : State) (f : Agent → Agent) (agents : ℕ → Agent) (x : ℕ) (a : Agent) → c.given x ≡ true → f fresh_agent ≡ fresh_agent
    → ((y : ℕ) → c.given y ≡ true → agents y ≡ f (c.agent y))
    → (y : ℕ) → cond (c.given y) (upd agents x a y) fresh_agent ≡ upd (λ z. f (agent_in c z)) x a y
unfolding agent_in upd
agents_changed c f agents x a g fresh same y = go (told (eqb y x)) (told (c.given y))
  where
    go : Told (eqb y x) → Told (c.given y) → cond (c.given y) (upd agents x a y) fresh_agent ≡ upd (λ z. f (agent_in c z)) x a y
    go (yea e) _ = rw (e, upd, ap c.given (eqb-true y x e) ∙ g)
    go (nay e) (yea h) = rw (e, upd, h) (same y h)
    go (nay e) (nay h) = rw (e, upd, h) (sym fresh)

-- one agent changes
pub agent_turned : (c : State) (x : ℕ) (a : Agent) → c.given x ≡ true → agent_in (with_agent c x a) ≡ upd (agent_in c) x a
unfolding agent_in
agent_turned c x a g = fun_ext (agents_changed c (λ b. b) c.agent x a g refl (λ y h. refl))

-- an agent once all asleep on p, q or r are woken
unfoldable pub wake_agent : ℕ → ℕ → ℕ → Agent → Agent
wake_agent p q r a = cond (asleep_on p q r a) (at_stage a looking 0 0) a

-- sleepers are woken and one agent changes
pub agent_woken : (c : State) (p q r x : ℕ) (a : Agent) → c.given x ≡ true
    → (λ y. cond (c.given y) (upd (wake c p q r) x a y) fresh_agent) ≡ upd (λ y. wake_agent p q r (agent_in c y)) x a
unfolding wake_agent wake asleep_on
agent_woken c p q r x a g = fun_ext (agents_changed c (wake_agent p q r) (wake c p q r) x a g refl (λ y h. rw h))

-- place t is dissolved and one agent changes
pub agent_dissolved : (c : State) (p t x : ℕ) (a : Agent) → c.given x ≡ true → t ≢ 0
    → (λ y. cond (c.given y) (upd (λ z. cond (c.given z) (dissolve_agent p t (c.agent z)) (c.agent z)) x a y) fresh_agent)
    ≡ upd (λ y. dissolve_agent p t (agent_in c y)) x a
unfolding dissolve_agent asleep_on
agent_dissolved c p t x a g n = fun_ext (agents_changed c (dissolve_agent p t)
    (λ z. cond (c.given z) (dissolve_agent p t (c.agent z)) (c.agent z)) x a g
    (rw (ne_eqb 0 t (λ z. n (sym z)))) (λ y h. rw h))
