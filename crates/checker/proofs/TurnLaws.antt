-- One turn of the checker's loop: what a move comes to, by what is read of the table, and what becomes of it.
use Rattle.std.specs.Prelude.{◌≡◌, refl, true, false, List, [], ◌∷◌, ℕ, ◌%◌, eqb, length, set}
use Rattle.std.proofs.Math.Path.{sym, ap}
use Rattle.std.proofs.Common.{ap₂, ◌∙◌, subst, ne_eqb}
use native.Mathlib.Omega.{arith}
use Rattle.std.proofs.Math.ListN.{get_or}
use Rattle.sets.specs.Set.{member}
use Rattle.sets.specs.declared.Set.{Set}
use Rattle.table.proofs.BaseLaws.{Told, yea, nay, told, clash}
use Rattle.table.specs.Cell.{Land, State, cell_of, put_places, put_agents, no_place, no_agent, next_action}
use Rattle.table.proofs.CellLaws.{in_use}
use Rattle.table.specs.declared.Action.{Action}
use Rattle.table.specs.declared.Agent.{Agent}
use Rattle.table.specs.declared.Cell.{Cell}
use Rattle.table.specs.declared.Place.{Place}
use Rattle.meaning.specs.Calculus.{Tree, first_of, next_of, stands_at, may_enter, may_exit, may_open, has_room, may_release, permits}
use Rattle.meaning.specs.Plain.{tree_of}
use Rattle.meaning.specs.Update.{with_parent, with_next, use_up}
use Rattle.calculus.specs.Formed.{Good, none, more}
use Rattle.trail.specs.Trail.{allows, why_not}
use Rattle.checker.specs.declared.Turn.{Turn}
use Rattle.checker.specs.declared.Turn.TheVariants.{Deny, Into, Shift}
use Rattle.checker.specs.OnTable.{parent_of, one_agent, Seen, agent_at, place_at, Reads, why_if, why_kind, turn_by, turn_of, went_into, made_on, Ready, Makes, Comes}
use Rattle.checker.proofs.IntoLaws.{home_is, agent_read}
use Rattle.checker.proofs.MadeLaws.{next_is, allowed_comes}

-- what a trail may tell of an agent is read of its home and its next action alone
allows_agent : (c : State) (a b : ℕ) → allows (tree_of c) a b ≡ allows (one_agent c.land ((tree_of c).home a) (next_of (tree_of c) a)) 0 b
unfolding allows permits may_enter may_exit may_open may_release has_room stands_at tree_of
allows_agent c a b = refl

-- an agent that is not given has no action left, and may make no move
absent_none : (c : State) (a : ℕ) → c.given a ≡ false → (tree_of c).unused a ≡ []
unfolding tree_of
absent_none c a g = rw g

none_denied : (t : Tree) (a b : ℕ) → t.unused a ≡ [] → allows t a b ≡ false
unfolding allows permits
none_denied t a b e = go (told (eqb b 255))
  where
    kind : (next_of t a).kind ≡ 0
    kind = ap (λ (l : List Action). (first_of l).kind) e

    go : Told (eqb b 255) → allows t a b ≡ false
    go (yea z) = rw (kind, z)
    go (nay z) = rw (kind, z)

-- a row of actions in range is empty exactly if its first has no kind
row_kind : {l : List Action} → Good l → eqb (length l) 0 ≡ eqb (first_of l).kind 0
row_kind none = refl
row_kind (more {x} {rest} a b n g) = ne_eqb (length (x ∷ rest)) 0 (λ e. omega arith) ∙ sym (ne_eqb x.kind 0 (λ e. omega arith))

module _ (t : Cell) (r : Ready t) (x b : ℕ) where
  abbrev tree : Tree
  tree = tree_of (cell_of t)

  abbrev land : Land
  land = (cell_of t).land

  -- why a move is denied
  why_is : why_kind (next_of tree x).kind ≡ why_not tree x
  why_is = ap why_if (sym (row_kind (r.formed.good x)))

  -- it is denied where it is not allowed
  denied_turn : allows tree x b ≡ false → turn_of tree x b ≡ Deny (why_not tree x)
  unfolding turn_of
  denied_turn e = rw e

  -- an agent that is not given may make none
  absent : (cell_of t).given x ≡ false → allows tree x b ≡ false
  absent g = none_denied tree x b (absent_none (cell_of t) x g)

  -- what becomes of a move
  pub comes : Comes t x b (turn_of tree x b)
  comes = go (told (allows tree x b)) (told ((cell_of t).given x))
    where
      go : Told (allows tree x b) → Told ((cell_of t).given x) → Comes t x b (turn_of tree x b)
      go (nay e) _ = subst (Comes t x b) (sym (denied_turn e)) (record { refused = e; why = refl })
      go (yea e) (yea g) = allowed_comes t r x g b e
      go (yea e) (nay g) = clash e (absent g)

  module _ {given used : Set} {a : Agent} {around : ℕ} {p q : Place} (s : Reads t x given used a around p b q) where
    -- an agent that is not given
    pub turn_absent : member given x ≡ false → Deny 2 ≡ turn_of tree x b
    turn_absent g = sym (denied_turn (absent not_given) ∙ ap Deny (rw (ap (λ (l : List Action). eqb (length l) 0) (absent_none (cell_of t) x not_given))))
      where
        not_given : (cell_of t).given x ≡ false
        not_given = unfold cell_of in ap (λ (z : Set). member z x) s.given_set ∙ g

    module _ (g : member given x ≡ true) where
      is_there : (cell_of t).given x ≡ true
      unfolding cell_of
      is_there = ap (λ (z : Set). member z x) s.given_set ∙ g

      -- the agent that is read
      own : (cell_of t).agent x ≡ a
      own = agent_read t r x is_there ∙ s.agent

      home : tree.home x ≡ a.home
      home = home_is t r x is_there ∙ ap (λ (z : Agent). z.home) own

      next : next_of tree x ≡ next_action a
      next = next_is t r x is_there ∙ ap next_action own

      -- a place in use is read at its own number
      place_read : (m : ℕ) → land.used m ≡ true → land.place m ≡ place_at t m
      unfolding cell_of
      place_read m u = let l = in_use t r.sized m u in let e : m ≡ m % 64 = omega arith in ap (λ (k : ℕ). get_or t.places k no_place) e

      -- where its own place stands, and the place there
      home_used : land.used a.home ≡ true
      home_used = subst (λ (h : ℕ). land.used h ≡ true) home (unfold tree_of in r.formed.homes x)

      stands : parent_of land a.home ≡ around
      stands = rw home_used (ap (λ (y : Place). y.parent) (place_read a.home home_used) ∙ s.stands)

      around_used : land.used around ≡ true
      around_used = subst (λ (m : ℕ). land.used m ≡ true) stands (unfold tree_of in r.formed.parent_used a.home)

      place : land.place around ≡ p
      place = place_read around around_used ∙ s.place

      beyond : tree.parent (tree.parent (tree.home x)) ≡ p.parent
      unfolding tree_of
      beyond = ap (λ (h : ℕ). parent_of land (parent_of land h)) home ∙ ap (parent_of land) stands ∙ rw around_used (ap (λ (y : Place). y.parent) place)

      -- what is seen of the places
      pub seen : Seen land used a.home around p b q
      seen = record {
        stands = stands;
        name = rw around_used (ap (λ (y : Place). y.name) place);
        told = record { in_use = unfold cell_of in ap member s.used_set; is_place = λ u. place_read b u ∙ s.told };
      }

      -- what the code tests
      test_is : allows tree x b ≡ allows (one_agent land a.home (next_action a)) 0 b
      test_is = allows_agent (cell_of t) x b ∙ ap₂ (λ (h : ℕ) (y : Action). allows (one_agent land h y) 0 b) home next

      module _ (n : Action) (e : n ≡ next_action a) where
        -- it is allowed
        pub turn_allowed : allows (one_agent land a.home n) 0 b ≡ true → turn_by n.kind p.parent b ≡ turn_of tree x b
        unfolding turn_of
        turn_allowed o = sym (rw (test_is ∙ ap (λ (y : Action). allows (one_agent land a.home y) 0 b) (sym e) ∙ o)
            (ap₂ (λ (y : Action) (m : ℕ). turn_by y.kind m b) (next ∙ sym e) beyond))

        -- it is not
        pub turn_denied : allows (one_agent land a.home n) 0 b ≡ false → Deny (why_kind n.kind) ≡ turn_of tree x b
        turn_denied o = sym (denied_turn (test_is ∙ ap (λ (y : Action). allows (one_agent land a.home y) 0 b) (sym e) ∙ o)
            ∙ ap Deny (sym why_is ∙ ap (λ (y : Action). why_kind y.kind) (next ∙ sym e)))

-- ---- in the loop, which reads and stores the elements of the arrays at numbers modulo 64

-- w is what the move of agent x that the byte b tells comes to; k is the number of the agent, i that of its own place
pub record Decided (t : Cell) (x b k i : ℕ) (w : Turn) : Type 0 where
  pub ready : Ready t
  pub agent : k ≡ x % 64
  pub home : i ≡ (get_or t.agents k no_agent).home % 64
  pub turn : w ≡ turn_of (tree_of (cell_of t)) x b

-- by what is read at these numbers
pub decided : (t : Cell) → Ready t → (x b : ℕ) {k i o j : ℕ} {w : Turn} → k ≡ x % 64 → i ≡ (get_or t.agents k no_agent).home % 64
    → o ≡ (get_or t.places i no_place).parent % 64 → j ≡ b % 64
    → ((u : Cell) → Ready u
    → Reads u x t.given t.used (get_or t.agents k no_agent) (get_or t.places i no_place).parent (get_or t.places o no_place) b (get_or t.places j no_place)
    → w ≡ turn_of (tree_of (cell_of u)) x b)
    → Decided t x b k i w
decided t r x b e f g h says = record {
  ready = r;
  agent = e;
  home = f;
  turn = says t r (record {
    given_set = refl;
    used_set = refl;
    agent = ap (λ (n : ℕ). get_or t.agents n no_agent) (sym e);
    stands = ap (λ (n : ℕ). (get_or t.places n no_place).parent) (sym f);
    place = ap (λ (n : ℕ). get_or t.places n no_place) (sym g);
    told = ap (λ (n : ℕ). get_or t.places n no_place) (sym h);
  });
}

module _ {t : Cell} {x b k i : ℕ} {w : Turn} (s : Decided t x b k i w) where
  pub comes_told : {v : Turn} → w ≡ v → Comes t x b v
  comes_told e = subst (Comes t x b) (sym s.turn ∙ e) (comes t s.ready x b)

  -- the two stores of an enter and an exit
  abbrev stored : ℕ → ℕ → ℕ → ℕ → Cell
  stored k i d next = put_agents (put_places t (set t.places i (with_parent (get_or t.places i no_place) d))) (set t.agents k (with_next (get_or t.agents k no_agent) next))

  pub comes_into : {d next : ℕ} → w ≡ Into d → next ≡ (use_up (get_or t.agents k no_agent)).next → Makes t x b (stored k i d next)
  comes_into {d} {next} e n = subst (Makes t x b) (sym same) (comes_told e)
    where
      home : i ≡ (agent_at t x).home % 64
      home = s.home ∙ ap (λ (m : ℕ). (get_or t.agents m no_agent).home % 64) s.agent

      count : next ≡ (use_up (agent_at t x)).next
      count = n ∙ ap (λ (m : ℕ). (use_up (get_or t.agents m no_agent)).next) s.agent

      same : stored k i d next ≡ went_into t x (agent_at t x) d
      same = λ h. stored (s.agent h) (home h) d (count h)

  -- an opening and a release
  pub comes_shift : {u : Cell} → w ≡ Shift → u ≡ made_on t x (get_or t.agents k no_agent) b → Makes t x b u
  comes_shift e m = subst (Makes t x b) (sym (m ∙ ap (λ (n : ℕ). made_on t x (get_or t.agents n no_agent) b) s.agent)) (comes_told e)
