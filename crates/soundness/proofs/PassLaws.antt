-- The walk over the agents given: each fits so far, what they hold is claimed, and the places that they move are noted.
-- Assumes nothing. Idea: between two agents given there is nothing to do, so the counts below i are those below the next one.
use Rattle.std.specs.Prelude.{◌≡◌, ◌⊎◌, Bool, ◌&&◌, ◌||◌, ℕ, suc, ◌+◌, ◌^◌, ◌≤◌, ◌<◌, get_or}
use Rattle.std.proofs.Math.Path.{refl, sym, ap, ap₂, subst}
use Rattle.std.proofs.Common.{◌∙◌, inl, inr, add-zero, add-one, arith, lit<}
use Rattle.std.proofs.Math.Bool.{true, false, cond}
use Rattle.std.proofs.Math.Dec.{eqb, lit≤}
use borrow.Author.Tests.{eqb-true, eq-eqb, ne_eqb}
use Rattle.sets.specs.Word.{bit, has}
use Rattle.sets.proofs.WordLaws.{has_none, has_lt, word_lt}
use Rattle.sets.specs.Set.{member, inserted, removed}
use Rattle.sets.proofs.SetLaws.{member_inserted}
use Rattle.sets.specs.Set.{empty_set}
use Rattle.sets.proofs.WalkLaws.{rest_start, rest_end, rest_lt, rest_member, rest_from, rest_skip}
use Rattle.sets.specs.Walk.{Rest, lowest_in}
use Rattle.sets.specs.declared.Set.{Set}
use Rattle.table.specs.Base.{all_below, any_below, count_below}
use Rattle.table.proofs.BaseLaws.{Told, yea, nay, told, and_left, and_right, all_at, any_rest, count_rest, count_le}
use Rattle.table.proofs.TestLaws.{Tested, tested_start, tested_end, tested_stop, tested_more}
use Rattle.table.specs.Cell.{none, no_agent, State, cell_of}
use Rattle.table.specs.Sound.{first_held, second_held_in, agent_fits, agent_sound, going_from, claims, goes, stands, travellers_fit, place_fits, place_sound, leads, core_sound}
use Rattle.soundness.specs.Pass.{quiet}
use Rattle.soundness.proofs.AgentLaws.{quiet_first, quiet_second, quiet_from, from_home}
use Rattle.table.specs.declared.Agent.{Agent}
use Rattle.table.specs.declared.Cell.{Cell}

-- what holds before each turn: the agents so far fit, claimed has what they hold, and going has the places that they move,
-- each moved by one of them only
pub record Passed (c : Cell) (claimed going rest : Set) : Type 0 where
  pub tested : Tested (has c.given.bits) (agent_sound (cell_of c)) rest
  pub held : (q : ℕ) → q < 64 → member claimed q ≡ any_below (claims (cell_of c) q) tested.i
  pub moved : (q : ℕ) → q < 64 → bit (member going q) ≡ count_below (goes (cell_of c) q) tested.i
  pub small : going.bits < 2 ^ 64

-- the same of equal sets
pub passed_are : (c : Cell) {claimed claimed' going going' rest rest' : Set} → claimed ≡ claimed' → going ≡ going' → rest ≡ rest' → Passed c claimed' going' rest' → Passed c claimed going rest
passed_are c {claimed} {claimed'} {going} {going'} {rest} {rest'} e f g p =
    subst (λ (s : Set). Passed c s going rest) (sym e) (subst (λ (s : Set). Passed c claimed' s rest) (sym f) (subst (λ (s : Set). Passed c claimed' going' s) (sym g) p))

pub passed_start : (c : Cell) → c.given.bits < 2 ^ 64 → Passed c empty_set empty_set c.given
unfolding any_below count_below
passed_start c b = record {
  tested = tested_start (has c.given.bits) (agent_sound (cell_of c)) c.given (rest_start c.given b);
  held = λ q l. has_none q;
  moved = λ q l. ap bit (has_none q);
  small = lit< tt;
}

module _ (c : Cell) (claimed going rest : Set) (p : Passed c claimed going rest) where
  abbrev w : State
  w = cell_of c

  abbrev left : Rest (has c.given.bits) p.tested.i rest
  left = p.tested.left

  not_given : (j : ℕ) → has c.given.bits j ≡ false → agent_sound w j ≡ true
  unfolding cell_of
  not_given j e = rw e

  -- ---- the agents up to some number, none of those between being given
  module _ (n : ℕ) (h : p.tested.i ≤ n) (skip : (j : ℕ) → p.tested.i ≤ j → j < n → has c.given.bits j ≡ false) where
    held_to : (q : ℕ) → q < 64 → member claimed q ≡ any_below (claims w q) n
    unfolding claims cell_of
    held_to q l = p.held q l ∙ any_rest (claims w q) p.tested.i n h (λ j a b. rw (skip j a b))

    moved_to : (q : ℕ) → q < 64 → bit (member going q) ≡ count_below (goes w q) n
    unfolding goes cell_of
    moved_to q l = p.moved q l ∙ count_rest (goes w q) p.tested.i n h (λ j a b. rw (skip j a b))

  -- ---- where nobody is left
  module _ (e : rest.bits ≡ 0) where
    pub passed_fit : all_below (agent_sound (cell_of c)) 64 ≡ true
    passed_fit = tested_end (has c.given.bits) (agent_sound w) not_given p.tested e

    pub passed_held : (q : ℕ) → q < 64 → member claimed q ≡ any_below (claims (cell_of c) q) 64
    passed_held = held_to 64 left.end (rest_end (left) e)

    pub passed_moved : (q : ℕ) → q < 64 → bit (member going q) ≡ count_below (goes (cell_of c) q) 64
    passed_moved = moved_to 64 left.end (rest_end (left) e)

  -- ---- where an agent is left: its turn
  module _ (k : 0 < rest.bits) where
    abbrev x : ℕ
    x = lowest_in rest

    abbrev a : Agent
    a = get_or c.agents x no_agent

    x_lt : x < 64
    x_lt = rest_lt (left) k

    given_x : has c.given.bits x ≡ true
    given_x = rest_member (left) k

    sound_at : agent_sound w x ≡ agent_fits w x a
    unfolding cell_of
    sound_at = rw given_x

    -- an agent that does not fit
    pub passed_stop : agent_fits (cell_of c) (lowest_in rest) (get_or c.agents (lowest_in rest) no_agent) ≡ false → false ≡ core_sound (cell_of c)
    unfolding core_sound
    passed_stop e = sym (never (w.land.used 0) (all_below (agent_sound w) 64) _ (tested_stop (has c.given.bits) (agent_sound w) not_given p.tested k (sound_at ∙ e)))
      where
        never : (b d f : Bool) → d ≡ false → (b && (d && f)) ≡ false
        never true d f e = ap (λ (y : Bool). y && f) e
        never false d f e = refl

    -- ---- the second agent that moves a place
    goes_x : (q : ℕ) → goes w q x ≡ eqb q (going_from a)
    unfolding goes cell_of
    goes_x q = rw given_x

    module _ (e : member going (going_from (get_or c.agents (lowest_in rest) no_agent)) ≡ true) where
      abbrev m : ℕ
      m = going_from a

      m_lt : m < 64
      m_lt = has_lt 64 going.bits m p.small e

      two : 2 ≤ count_below (goes w m) 64
      unfolding count_below
      two =
          let one : count_below (goes w m) x ≡ 1 = sym (moved_to x (rest_from (left) k) (rest_skip (left) k) m m_lt) ∙ ap bit e in
          let both : count_below (goes w m) (suc x) ≡ 2 = ap₂ (λ (n : ℕ) (b : Bool). n + bit b) one (goes_x m ∙ eq-eqb m m refl) in
          subst (λ (n : ℕ). n ≤ count_below (goes w m) 64) both (count_le (goes w m) (suc x) 64 x_lt)

      module _ (s : core_sound w ≡ true) where
        rest_of : (all_below (agent_sound w) 64 && (all_below (place_sound w) 64 && all_below (leads w) 64)) ≡ true
        unfolding core_sound
        rest_of = and_right (w.land.used 0) _ s

        fits : agent_fits w x a ≡ true
        fits = sym sound_at ∙ all_at (agent_sound w) 64 x x_lt (and_left (all_below (agent_sound w) 64) _ rest_of)

        is_home : m ≡ a.home
        is_home = go (from_home a)
          where
            go : (m ≡ none) ⊎ (m ≡ a.home) → m ≡ a.home
            go (inl t) = absurd (let h = m_lt in omega arith)
            go (inr t) = t

        home_used : w.land.used m ≡ true
        unfolding agent_fits
        home_used = ap w.land.used is_home ∙ and_left (w.land.used a.home) _ fits

        place : place_fits w m ≡ true
        place = sym (rw home_used) ∙ all_at (place_sound w) 64 m m_lt (and_left (all_below (place_sound w) 64) _ (and_right (all_below (agent_sound w) 64) _ rest_of))

        one_only : count_below (goes w m) 64 ≤ 1
        unfolding place_fits
        one_only =
            let way = (w.land.place m).way in
            let n = count_below (goes w m) 64 in
            let locked = eqb (w.lock m) none || any_below (claims w m) 64 in
            let standing = stands m (w.land.place m) (w.land.used (w.land.place m).parent) in
            let fit : travellers_fit m way n ≡ true = and_right standing (travellers_fit m way n) (and_right locked (standing && travellers_fit m way n) place) in
            subst (λ (k : ℕ). k ≤ 1) (sym (eqb-true n (cond (eqb m 0) 0 (cond (eqb way 0) 0 1)) fit)) (most (eqb m 0) (eqb way 0))
          where
            most : (b d : Bool) → cond b 0 (cond d 0 1) ≤ 1
            most true d = lit≤ tt
            most false true = lit≤ tt
            most false false = lit≤ tt

      pub passed_twice : false ≡ core_sound (cell_of c)
      passed_twice = go (told (core_sound w))
        where
          go : Told (core_sound w) → false ≡ core_sound w
          go (nay s) = sym s
          go (yea s) = absurd (let h = one_only s in let l = two in omega arith)

    -- ---- an agent that fits
    module _ (fits : agent_fits (cell_of c) (lowest_in rest) (get_or c.agents (lowest_in rest) no_agent) ≡ true) where
      -- with what it holds and moves added
      more : (claimed' going' : Set) → ((q : ℕ) → q < 64 → member claimed' q ≡ (claims w q x || member claimed q))
          → ((q : ℕ) → q < 64 → bit (member going' q) ≡ bit (member going q) + bit (goes w q x)) → going'.bits < 2 ^ 64 → Passed c claimed' going' (removed rest x)
      unfolding any_below count_below
      more claimed' going' f g s = record {
        tested = tested_more (has c.given.bits) (agent_sound w) not_given p.tested k (sound_at ∙ fits);
        held = λ q l. f q l ∙ ap (◌||◌ (claims w q x)) (held_to x (rest_from (left) k) (rest_skip (left) k) q l) ∙ sym (ap (any_below (claims w q)) (add-one x));
        moved = λ q l. g q l ∙ ap (λ (n : ℕ). n + bit (goes w q x)) (moved_to x (rest_from (left) k) (rest_skip (left) k) q l) ∙ sym (ap (count_below (goes w q)) (add-one x));
        small = s;
      }

      claims_x : (q : ℕ) → claims w q x ≡ (eqb q (first_held a) || eqb q (second_held_in w a))
      unfolding claims cell_of
      claims_x q = rw given_x

      -- at a quiet stage it holds and moves nothing
      pub passed_quiet : quiet (get_or c.agents (lowest_in rest) no_agent).stage ≡ true → Passed c claimed going (removed rest (lowest_in rest))
      passed_quiet t = more claimed going
          (λ q l. sym (ap (λ (b : Bool). b || member claimed q) (holds_none q l)))
          (λ q l. sym (ap (λ (b : Bool). bit (member going q) + bit b) (moves_none q l) ∙ add-zero (bit (member going q))))
          p.small
        where
          holds_none : (q : ℕ) → q < 64 → claims w q x ≡ false
          holds_none q l = claims_x q ∙ rw (quiet_first a t, quiet_second w a t, ne_eqb q none (λ e. omega arith))

          moves_none : (q : ℕ) → q < 64 → goes w q x ≡ false
          moves_none q l = goes_x q ∙ rw (quiet_from a t, ne_eqb q none (λ e. omega arith))

      -- at any stage: its locks are claimed, and the place that it moves is moved by nobody else so far
      pub passed_busy : member going (going_from (get_or c.agents (lowest_in rest) no_agent)) ≡ false
          → Passed c (inserted (inserted claimed (first_held (get_or c.agents (lowest_in rest) no_agent))) (second_held_in (cell_of c) (get_or c.agents (lowest_in rest) no_agent)))
          (inserted going (going_from (get_or c.agents (lowest_in rest) no_agent))) (removed rest (lowest_in rest))
      passed_busy t = more (inserted (inserted claimed f) g) (inserted going m)
          (λ q l. member_inserted (inserted claimed f) g q l ∙ ap (◌||◌ (eqb q g)) (member_inserted claimed f q l) ∙ turn_about (eqb q f) (eqb q g) (member claimed q) ∙ sym (ap (λ (b : Bool). b || member claimed q) (claims_x q)))
          (λ q l. ap bit (member_inserted going m q l) ∙ alone q (told (eqb q m)) ∙ sym (ap (λ (b : Bool). bit (member going q) + bit b) (goes_x q)))
          (word_lt 64 _)
        where
          f : ℕ
          f = first_held a

          g : ℕ
          g = second_held_in w a

          m : ℕ
          m = going_from a

          turn_about : (f g w : Bool) → (g || (f || w)) ≡ (f || g || w)
          turn_about true true w = refl
          turn_about true false w = refl
          turn_about false true w = refl
          turn_about false false w = refl

          alone : (q : ℕ) → Told (eqb q m) → bit (eqb q m || member going q) ≡ bit (member going q) + bit (eqb q m)
          alone q (yea e) = rw (e, ap (member going) (eqb-true q m e) ∙ t)
          alone q (nay e) = rw e (sym (add-zero (bit (member going q))))
