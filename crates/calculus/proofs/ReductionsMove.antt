-- Every reduction of the term of a formed tree is, up to equivalence, a move of the tree.
-- Idea: follow the spot of the reduction down from the floor; at the rule itself the parts found are an agent's next action and its places, which is
-- what the tree's move asks for, and what the tree then holds is the rule's other side; `climbs` carries the answer up again.
use Rattle.std.specs.Prelude.{◌≡◌, ◌≢◌, ℕ, ◌<◌, Bool, true}
use Rattle.std.proofs.Math.Path.{refl, ap, subst, subst₃}
use Rattle.std.proofs.Common.{sym, ◌∙◌, inl, inr, arith}
use borrow.Author.Tests.{ltb-true}
use Rattle.table.specs.Base.{upd}
use Rattle.table.proofs.BaseLaws.{upd_at}
use Rattle.table.specs.Cell.{enter_kind, exit_kind, open_kind, release_kind, key_of, plain_name, fresh_number}
use Rattle.table.specs.declared.Name.{Name}
use Rattle.meaning.specs.Calculus.{Tree, next_of, rest_of, has_room, put_into, open_up, put_out, Move}
use Rattle.calculus.specs.Formed.{Formed}
use Rattle.calculus.proofs.MoveCases.{Stands, by_enter, by_exit, by_open, by_release, case_move}
use Rattle.calculus.proofs.MoveFormed.{enter_formed, exit_formed, open_formed, put_out_formed, fresh_free}
use Rattle.calculus.proofs.Above.{above_self, below_one, below_not}
use Rattle.calculus.specs.Terms.{Term, amb, nil, ◌∣◌, enter, exit, «open», release, ◌≅◌, struct_refl, struct_symm, struct_par_assoc}
use Rattle.calculus.specs.Terms.{struct_amb, Reduces, ◌⟶◌}
use Rattle.calculus.proofs.TermLaws.{◌⨾◌, renamed, swap, pars}
use Rattle.calculus.proofs.Equivalence.{take_enter, take_exit, take_open, take_release}
use Rattle.calculus.proofs.Spots.{rule_enter, rule_exit, rule_open, rule_release, Spot, at_top, within, spot}
use Rattle.calculus.specs.TermOf.{row, agent_at, place_at, held, term}
use Rattle.calculus.proofs.Contents.{agents_of, agents_but, places_of, places_but, beside_agent}
use Rattle.calculus.proofs.Ambients.{room_ambients}
use Rattle.calculus.proofs.EnterExit.{Two, Travel, travel_local, enter_after, exit_after}
use Rattle.calculus.proofs.OpenUp.{open_local, open_after}
use Rattle.calculus.proofs.PutOut.{put_local, put_after}
use Rattle.calculus.proofs.PartsHeld.{head, some_all, some_places, some_agents, acting_enter, acting_exit, acting_open, acting_release}
use Rattle.calculus.proofs.PartsHeld.{FoundPlace, found_place}
use Rattle.calculus.proofs.Answers.{Answer, PlaceIn, AgentIn, place_in, agent_in, widen, rises}

-- agent a's own place h, named n, stands in s beside X and holds Q beside the agent
record EnterAt (t : Tree) (a s h : ℕ) (n : Name) (X Q : Term) : Type 0 where
  stands : Stands t h s
  name : t.name h ≡ n
  left : agents_of t s ∣ places_but t s h ≅ X
  inner : agents_but t h a ∣ places_of t h ≅ Q

-- agent a's own place h, named n, stands in m, named o, beside R, and m stands in s beside R₀
record ExitAt (t : Tree) (a : ℕ) (n o : Name) (Q R R₀ : Term) (h m s : ℕ) : Type 0 where
  outer : Stands t m s
  stands : Stands t h m
  name : t.name h ≡ n
  outer_name : t.name m ≡ o
  inner : agents_but t h a ∣ places_of t h ≅ Q
  left : agents_of t m ∣ places_but t m h ≅ R
  outer_left : agents_of t s ∣ places_but t s m ≅ R₀

module _ (t : Tree) (w : Formed t) where
  -- ---- Red Enter

  enter_at : (a s : ℕ) {n m : Name} {P Q R R₀ : Term} → a < 64 → (next_of t a).kind ≡ enter_kind → (next_of t a).name ≡ key_of enter_kind m
      → row (rest_of (t.unused a)) ≅ P → EnterAt t a s (t.home a) n (amb m R ∣ R₀) Q → Answer t s (amb m (amb n (P ∣ Q) ∣ R) ∣ R₀)
  enter_at a s {n} {m} {P} {Q} {R} {R₀} l k c r x =
      go (found_place t w s (agent_at t s) (upd (place_at t (held t) s) (t.home a) nil) (some_places (t.home a) (some_all t s)) x.left)
    where
      go : FoundPlace t s (agent_at t s) (upd (place_at t (held t) s) (t.home a) nil) m R R₀ → Answer t s (amb m (amb n (P ∣ Q) ∣ R) ∣ R₀)
      go y = record {
        who = a;
        after = put_into t a y.which;
        move = case_move (by_enter y.which k x.stands.placed other apart (ap (key_of enter_kind) y.name ∙ sym c));
        place = s;
        touched = Two (t.home a) y.which;
        change = travel_local t w a y.which y.which s v travel;
        above = above_self t.parent s;
        holds = enter_after t w a y.which s v travel x.stands.parent l
            ⨾ pars (renamed y.name ⨾ struct_amb (pars (renamed x.name ⨾ struct_amb (pars r x.inner)) y.holds)) y.left;
      }
        where
          apart : y.which ≢ t.home a
          apart e = y.there (upd_at (place_at t (held t) s) (t.home a) y.which nil e)

          other : Stands t y.which (t.parent (t.home a))
          other = record { used = y.stands.used; placed = y.stands.placed; parent = y.stands.parent ∙ sym x.stands.parent }

          v : Formed (put_into t a y.which)
          v = enter_formed t w a y.which x.stands.placed other apart

          travel : Travel t a y.which y.which s
          travel = record { own = x.stands.placed; other = y.stands; apart = apart; from = inl x.stands.parent; to = inr refl }

  enter_answer : (s : ℕ) {n m : Name} {P Q R R₀ : Term} → t.used s ≡ true → held t s ≅ (amb n (enter (key_of enter_kind m) P ∣ Q) ∣ amb m R) ∣ R₀
      → Answer t s (amb m (amb n (P ∣ Q) ∣ R) ∣ R₀)
  unfolding head
  enter_answer s {n} {m} {P} {Q} {R} {R₀} us e = go (place_in t w s us (e ⨾ struct_par_assoc))
    where
      go : PlaceIn t s n (enter (key_of enter_kind m) P ∣ Q) (amb m R ∣ R₀) → Answer t s (amb m (amb n (P ∣ Q) ∣ R) ∣ R₀)
      go y = at (agent_in t w y.which y.stands.used take_enter (omega arith) y.holds)
        where
          at : AgentIn t y.which (enter (key_of enter_kind m) P) Q → Answer t s (amb m (amb n (P ∣ Q) ∣ R) ∣ R₀)
          at z =
              let k = acting_enter z.acting z.like in
              enter_at z.who s z.less k.0 k.1 k.2
              (subst (λ h. EnterAt t z.who s h n (amb m R ∣ R₀) Q) (sym z.home)
              (record { stands = y.stands; name = y.name; left = y.left; inner = z.left }))

  -- ---- Red Exit

  exit_at : (a : ℕ) {n m : Name} {P Q R R₀ : Term} → a < 64 → (next_of t a).kind ≡ exit_kind → (next_of t a).name ≡ key_of exit_kind m
      → row (rest_of (t.unused a)) ≅ P → ExitAt t a n m Q R R₀ (t.home a) (t.parent (t.home a)) (t.parent (t.parent (t.home a)))
      → Answer t (t.parent (t.parent (t.home a))) ((amb n (P ∣ Q) ∣ amb m R) ∣ R₀)
  exit_at a l k c r x = record {
    who = a;
    after = put_into t a p;
    move = case_move (by_exit k x.stands.placed (ap (key_of exit_kind) x.outer_name ∙ sym c));
    place = p;
    touched = Two (t.home a) m;
    change = travel_local t w a p m p v travel;
    above = above_self t.parent p;
    holds = exit_after t w a m p v travel refl l
        ⨾ pars (renamed x.name ⨾ struct_amb (pars r x.inner)) (pars (renamed x.outer_name ⨾ struct_amb x.left) x.outer_left)
        ⨾ struct_symm struct_par_assoc;
  }
    where
      m : ℕ
      m = t.parent (t.home a)

      p : ℕ
      p = t.parent (t.parent (t.home a))

      v : Formed (put_into t a p)
      v = exit_formed t w a x.stands.placed

      travel : Travel t a p m p
      travel = record {
        own = x.stands.placed;
        other = x.outer;
        apart = λ e. below_not t w (below_one x.stands.placed refl) (sym e);
        from = inr refl;
        to = inl refl;
      }

  exit_answer : (s : ℕ) {n m : Name} {P Q R R₀ : Term} → t.used s ≡ true → held t s ≅ amb m (amb n (exit (key_of exit_kind m) P ∣ Q) ∣ R) ∣ R₀
      → Answer t s ((amb n (P ∣ Q) ∣ amb m R) ∣ R₀)
  unfolding head
  exit_answer s {n} {m} {P} {Q} {R} {R₀} us e = go (place_in t w s us e)
    where
      go : PlaceIn t s m (amb n (exit (key_of exit_kind m) P ∣ Q) ∣ R) R₀ → Answer t s ((amb n (P ∣ Q) ∣ amb m R) ∣ R₀)
      go y = on (place_in t w y.which y.stands.used y.holds)
        where
          on : PlaceIn t y.which n (exit (key_of exit_kind m) P ∣ Q) R → Answer t s ((amb n (P ∣ Q) ∣ amb m R) ∣ R₀)
          on i = at (agent_in t w i.which i.stands.used take_exit (omega arith) i.holds)
            where
              at : AgentIn t i.which (exit (key_of exit_kind m) P) Q → Answer t s ((amb n (P ∣ Q) ∣ amb m R) ∣ R₀)
              at z =
                  let k = acting_exit z.acting z.like in
                  let e₂ : t.parent (t.home z.who) ≡ y.which = ap t.parent z.home ∙ i.stands.parent in
                  let e₃ : t.parent (t.parent (t.home z.who)) ≡ s = ap t.parent e₂ ∙ y.stands.parent in
                  subst (λ r. Answer t r ((amb n (P ∣ Q) ∣ amb m R) ∣ R₀)) e₃ (exit_at z.who z.less k.0 k.1 k.2
                  (subst₃ (ExitAt t z.who n m Q R R₀) (sym z.home) (sym e₂) (sym e₃)
                  (record {
                    outer = y.stands;
                    stands = i.stands;
                    name = i.name;
                    outer_name = y.name;
                    inner = z.left;
                    left = i.left;
                    outer_left = y.left;
                  })))

  -- ---- Red Open

  open_at : (a : ℕ) {n : Name} {P Q R₀ : Term} → a < 64 → (next_of t a).kind ≡ open_kind → (next_of t a).name ≡ key_of open_kind n
      → row (rest_of (t.unused a)) ≅ P → agents_but t (t.home a) a ∣ places_of t (t.home a) ≅ amb n Q ∣ R₀ → Answer t (t.home a) ((P ∣ Q) ∣ R₀)
  open_at a {n} {P} {Q} {R₀} l k c r e =
      go (found_place t w (t.home a) (upd (agent_at t (t.home a)) a nil) (place_at t (held t) (t.home a)) (some_agents a (some_all t (t.home a))) e)
    where
      go : FoundPlace t (t.home a) (upd (agent_at t (t.home a)) a nil) (place_at t (held t) (t.home a)) n Q R₀ → Answer t (t.home a) ((P ∣ Q) ∣ R₀)
      go y =
          let v = open_formed t w a y.which y.stands in
          record {
            who = a;
            after = open_up t a y.which;
            move = case_move (by_open y.which k y.stands (ap (key_of open_kind) y.name ∙ sym c));
            place = t.home a;
            touched = λ r. r ≡ y.which;
            change = open_local t w a y.which v y.stands;
            above = above_self t.parent (t.home a);
            holds = open_after t w a y.which v y.stands l ⨾ pars r (pars y.holds y.left) ⨾ struct_symm struct_par_assoc;
          }

  open_answer : (s : ℕ) {n : Name} {P Q R₀ : Term} → t.used s ≡ true → held t s ≅ («open» (key_of open_kind n) P ∣ amb n Q) ∣ R₀
      → Answer t s ((P ∣ Q) ∣ R₀)
  unfolding head
  open_answer s {n} {P} {Q} {R₀} us e = at (agent_in t w s us take_open (omega arith) (e ⨾ struct_par_assoc))
    where
      at : AgentIn t s («open» (key_of open_kind n) P) (amb n Q ∣ R₀) → Answer t s ((P ∣ Q) ∣ R₀)
      at z =
          let k = acting_open z.acting z.like in
          subst (λ r. Answer t r ((P ∣ Q) ∣ R₀)) z.home (open_at z.who z.less k.0 k.1 k.2
          (subst (λ r. agents_but t r z.who ∣ places_of t r ≅ amb n Q ∣ R₀) (sym z.home) z.left))

  -- ---- release

  release_at : (a : ℕ) {n : ℕ} {P R₀ : Term} → has_room t ≡ true → a < 64 → (next_of t a).kind ≡ release_kind → (next_of t a).name ≡ n
      → row (rest_of (t.unused a)) ≅ P → beside_agent t a ≅ R₀ → Answer t (t.home a) ((amb (plain_name n) nil ∣ P) ∣ R₀)
  unfolding has_room
  release_at a room l k c r e =
      let m = fresh_number t.used in
      let s = ltb-true (fresh_number t.used) 64 room in
      let f = fresh_free t s refl in
      let v = put_out_formed t w a m s f in
      record {
        who = a;
        after = put_out t a m;
        move = case_move (by_release m k s refl);
        place = t.home a;
        touched = λ r. ⊥;
        change = put_local t w a m s f v;
        above = above_self t.parent (t.home a);
        holds = put_after t w a m s f v l ⨾ swap ⨾ pars (renamed (ap plain_name c)) (pars r e) ⨾ struct_symm struct_par_assoc;
      }

  release_answer : (s : ℕ) {n : ℕ} {P R₀ : Term} → has_room t ≡ true → t.used s ≡ true → held t s ≅ release n P ∣ R₀
      → Answer t s ((amb (plain_name n) nil ∣ P) ∣ R₀)
  unfolding head
  release_answer s {n} {P} {R₀} room us e = at (agent_in t w s us take_release (omega arith) e)
    where
      at : AgentIn t s (release n P) R₀ → Answer t s ((amb (plain_name n) nil ∣ P) ∣ R₀)
      at z =
          let k = acting_release z.acting z.like in
          subst (λ r. Answer t r ((amb (plain_name n) nil ∣ P) ∣ R₀)) z.home (release_at z.who room z.less k.0 k.1 k.2
          (subst (λ r. agents_but t r z.who ∣ places_of t r ≅ R₀) (sym z.home) z.left))

  -- ---- anywhere

  -- every reduction of what s holds is answered
  answer : {P Q : Term} → Spot (has_room t) P Q → (s : ℕ) → t.used s ≡ true → held t s ≅ P → Answer t s Q
  answer (at_top rule_enter e f) s us c = widen t w (enter_answer s us (c ⨾ e)) (struct_symm f)
  answer (at_top rule_exit e f) s us c = widen t w (exit_answer s us (c ⨾ e)) (struct_symm f)
  answer (at_top rule_open e f) s us c = widen t w (open_answer s us (c ⨾ e)) (struct_symm f)
  answer (at_top (rule_release room) e f) s us c = widen t w (release_answer s room us (c ⨾ e)) (struct_symm f)
  answer (within p e f) s us c =
      let y = place_in t w s us (c ⨾ e) in
      rises t w s y (answer p y.which y.stands.used y.holds) f

-- a move of some agent to a tree whose term is Q up to equivalence
pub record Matched (t : Tree) (Q : Term) : Type 0 where
  pub who : ℕ
  pub after : Tree
  pub move : Move t who after
  pub same : Q ≅ term after

-- a reduction of the term is a move of an agent
pub reduction_moves : {t : Tree} {Q : Term} → Formed t → term t ⟶ Q → Matched t Q
unfolding term
reduction_moves {t} {Q} w r = go (answer t w (spot (subst (λ (b : Bool). Reduces b (term t) Q) (sym (room_ambients t w)) r)) 0 w.floor_used struct_refl)
  where
    go : Answer t 0 Q → Matched t Q
    go z = record { who = z.who; after = z.after; move = z.move; same = struct_symm z.holds }
