-- A part at the top of what a place holds is the row of an agent that lives there, or a place that stands there.
-- Idea: `found` names the number whose term has the part; an agent's term and a place's term have one part each, and their heads differ.
use Rattle.std.specs.Prelude.{◌≡◌, refl, ◌≢◌, ◌⊎◌, List, ◌∷◌, ℕ, ◌≤◌, ◌<◌, eqb}
use Rattle.std.proofs.Common.{sym, subst, inl, inr, arith, eqb-true}
use Rattle.std.proofs.Math.Path.{ap}
use Rattle.table.specs.Base.{upd}
use Rattle.table.proofs.BaseLaws.{Told, yea, nay, told, eq?, upd_at, upd_other}
use Rattle.table.specs.Cell.{enter_kind, exit_kind, open_kind, release_kind, last_kind}
use Rattle.table.proofs.KindLaws.{IsKind, enters, exits, opens, releases, is_kind}
use Rattle.table.specs.declared.Name.{Name}
use Rattle.table.specs.declared.Action.{Action}
use Rattle.meaning.specs.Calculus.{Tree, first_of, rest_of, stands_at}
use Rattle.calculus.specs.Formed.{Good, none, more, Formed}
use Rattle.calculus.proofs.MoveCases.{Stands, stands_in}
use Rattle.calculus.specs.Terms.{Term, amb, nil, ◌∣◌, enter, exit, «open», release, ◌≅◌, struct_symm, struct_par}
use Rattle.calculus.proofs.TermLaws.{◌⨾◌, of_path, zero_par, struct_par_right}
use Rattle.calculus.proofs.Equivalence.{Takes, take_amb, take_enter, take_exit, take_open, take_release, take_left, take_right, Like, like_amb}
use Rattle.calculus.proofs.Equivalence.{like_enter, like_exit, like_open, like_release}
use Rattle.calculus.specs.TermOf.{prefix, row, parallel, agent_at, place_at, held}
use Rattle.calculus.proofs.Parallel.{Found, in_first, in_second, found}

-- ---- 0 has no part

abbrev NotNil : Term → Type 0
NotNil (amb n P) = Unit {0}
NotNil nil = ⊥
NotNil (P ∣ Q) = Unit {0}
NotNil (enter n P) = Unit {0}
NotNil (exit n P) = Unit {0}
NotNil («open» n P) = Unit {0}
NotNil (release n P) = Unit {0}

take_not_nil : {X L Z : Term} → Takes X L Z → NotNil X
take_not_nil take_amb = tt
take_not_nil take_enter = tt
take_not_nil take_exit = tt
take_not_nil take_open = tt
take_not_nil take_release = tt
take_not_nil (take_left o) = tt
take_not_nil (take_right o) = tt

take_nil : {X L Z : Term} → X ≡ nil → Takes X L Z → ⊥
take_nil e o = subst NotNil e (take_not_nil o)

-- ---- the part of an agent

-- a row as a part, by its first action
pub data Acting (l : List Action) : Term → Type 0 where
  act_enter : (first_of l).kind ≡ enter_kind → Acting l (enter (first_of l).name (row (rest_of l)))
  act_exit : (first_of l).kind ≡ exit_kind → Acting l (exit (first_of l).name (row (rest_of l)))
  act_open : (first_of l).kind ≡ open_kind → Acting l («open» (first_of l).name (row (rest_of l)))
  act_release : (first_of l).kind ≡ release_kind → Acting l (release (first_of l).name (row (rest_of l)))

take_action : {x : Action} {l : List Action} {L Z : Term} → 1 ≤ x.kind → x.kind ≤ last_kind → Takes (row (x ∷ l)) L Z → Acting (x ∷ l) L × (Z ≡ nil)
unfolding row prefix
take_action {x} {l} {L} {Z} low high o = go (is_kind x.kind low high) refl (unfold row in o)
  where
    go : {k : ℕ} → IsKind k → x.kind ≡ k → {M W : Term} → Takes (prefix k x.name (row l)) M W → Acting (x ∷ l) M × (W ≡ nil)
    go enters e take_enter = (act_enter e, refl)
    go exits e take_exit = (act_exit e, refl)
    go opens e take_open = (act_open e, refl)
    go releases e take_release = (act_release e, refl)

take_row : {l : List Action} → Good l → {L Z : Term} → Takes (row l) L Z → Acting l L × (Z ≡ nil)
unfolding row
take_row none o = absurd (take_nil refl o)
take_row (more a b c g) o = take_action a b o

record AgentPart (t : Tree) (p x : ℕ) (L Z : Term) : Type 0 where
  home : t.home x ≡ p
  acting : Acting (t.unused x) L
  none : Z ≡ nil

take_agent : (t : Tree) (p x : ℕ) {L Z : Term} → Good (t.unused x) → Takes (agent_at t p x) L Z → AgentPart t p x L Z
unfolding agent_at
take_agent t p x {L} {Z} g o = go (told (eqb (t.home x) p))
  where
    go : Told (eqb (t.home x) p) → AgentPart t p x L Z
    go (yea e) = let v = take_row g (rw e at o) in record { home = eqb-true _ _ e; acting = v.0; none = v.1 }
    go (nay e) = absurd (take_nil (rw e) o)

-- ---- the part of a place

record PlacePart (t : Tree) (g : ℕ → Term) (p q : ℕ) (L Z : Term) : Type 0 where
  stands : Stands t q p
  is : L ≡ amb (t.name q) (g q)
  none : Z ≡ nil

take_place : (t : Tree) (g : ℕ → Term) (p q : ℕ) {L Z : Term} → Takes (place_at t g p q) L Z → PlacePart t g p q L Z
unfolding place_at
take_place t g p q {L} {Z} o = go (told (stands_at t q p))
  where
    one : {n : Name} {P M W : Term} → Takes (amb n P) M W → (M ≡ amb n P) × (W ≡ nil)
    one take_amb = (refl, refl)

    go : Told (stands_at t q p) → PlacePart t g p q L Z
    go (yea e) = let v = one (rw e at o) in record { stands = stands_in t q p e; is = v.0; none = v.1 }
    go (nay e) = absurd (take_nil (rw e) o)

-- ---- heads differ

-- the head of a part, as a number: an action's kind, 0 for an ambient
unfoldable pub head : Term → ℕ
head (amb n P) = 0
head nil = 5
head (P ∣ Q) = 6
head (enter n P) = 1
head (exit n P) = 2
head («open» n P) = 3
head (release n P) = 4

like_head : {L M : Term} → Like L M → head L ≡ head M
unfolding head
like_head (like_amb e) = refl
like_head (like_enter e) = refl
like_head (like_exit e) = refl
like_head (like_open e) = refl
like_head (like_release e) = refl

acting_head : {l : List Action} {L : Term} → Acting l L → 1 ≤ head L
unfolding head
acting_head (act_enter k) = omega arith
acting_head (act_exit k) = omega arith
acting_head (act_open k) = omega arith
acting_head (act_release k) = omega arith

like_place : {n m : Name} {P Q : Term} → Like (amb n P) (amb m Q) → (n ≡ m) × (P ≅ Q)
like_place (like_amb e) = (refl, e)

-- a row like `enter n. P`, `exit n. P`, `open n. P` or `release n. P` has that action first
pub acting_enter : {l : List Action} {M P : Term} {n : ℕ} → Acting l M → Like M (enter n P)
    → ((first_of l).kind ≡ enter_kind) × ((first_of l).name ≡ n) × (row (rest_of l) ≅ P)
acting_enter (act_enter k) (like_enter e) = (k, refl, e)
acting_enter (act_exit _) x = elim x [ ]
acting_enter (act_open _) x = elim x [ ]
acting_enter (act_release _) x = elim x [ ]

pub acting_exit : {l : List Action} {M P : Term} {n : ℕ} → Acting l M → Like M (exit n P)
    → ((first_of l).kind ≡ exit_kind) × ((first_of l).name ≡ n) × (row (rest_of l) ≅ P)
acting_exit (act_exit k) (like_exit e) = (k, refl, e)
acting_exit (act_enter _) x = elim x [ ]
acting_exit (act_open _) x = elim x [ ]
acting_exit (act_release _) x = elim x [ ]

pub acting_open : {l : List Action} {M P : Term} {n : ℕ} → Acting l M → Like M («open» n P)
    → ((first_of l).kind ≡ open_kind) × ((first_of l).name ≡ n) × (row (rest_of l) ≅ P)
acting_open (act_open k) (like_open e) = (k, refl, e)
acting_open (act_enter _) x = elim x [ ]
acting_open (act_exit _) x = elim x [ ]
acting_open (act_release _) x = elim x [ ]

pub acting_release : {l : List Action} {M P : Term} {n : ℕ} → Acting l M → Like M (release n P)
    → ((first_of l).kind ≡ release_kind) × ((first_of l).name ≡ n) × (row (rest_of l) ≅ P)
acting_release (act_release k) (like_release e) = (k, refl, e)
acting_release (act_enter _) x = elim x [ ]
acting_release (act_exit _) x = elim x [ ]
acting_release (act_open _) x = elim x [ ]

-- ---- what a place holds, or some of it

-- f and g are some of the agents and some of the places of p
pub record Some (t : Tree) (p : ℕ) (f g : ℕ → Term) : Type 0 where
  pub agents : (x : ℕ) {M Z : Term} → Takes (f x) M Z → Takes (agent_at t p x) M Z
  pub places : (q : ℕ) {M Z : Term} → Takes (g q) M Z → Takes (place_at t (held t) p q) M Z

-- all of them are some of them
pub some_all : (t : Tree) (p : ℕ) → Some t p (agent_at t p) (place_at t (held t) p)
some_all t p = record { agents = λ x o. o; places = λ q o. o }

drop_takes : (f : ℕ → Term) (i x : ℕ) {M Z : Term} → Takes (upd f i nil x) M Z → Takes (f x) M Z
drop_takes f i x {M} {Z} o = go (eq? x i)
  where
    go : (x ≡ i) ⊎ (x ≢ i) → Takes (f x) M Z
    go (inl e) = absurd (take_nil (upd_at f i x nil e) o)
    go (inr d) = rw (upd_other f i x nil d) at o

-- all but one place, all but one agent
pub some_places : {t : Tree} {p : ℕ} {f g : ℕ → Term} (q : ℕ) → Some t p f g → Some t p f (upd g q nil)
some_places {g} q r = record { agents = λ x o. r.agents x o; places = λ x o. r.places x (drop_takes g q x o) }

pub some_agents : {t : Tree} {p : ℕ} {f g : ℕ → Term} (x : ℕ) → Some t p f g → Some t p (upd f x nil) g
some_agents {f} x r = record { agents = λ y o. r.agents y (drop_takes f x y o); places = λ q o. r.places q o }

-- a place named n that holds P, beside R
pub record FoundPlace (t : Tree) (p : ℕ) (f g : ℕ → Term) (n : Name) (P R : Term) : Type 0 where
  pub which : ℕ
  pub stands : Stands t which p
  pub name : t.name which ≡ n
  pub holds : held t which ≅ P
  pub left : parallel f 64 ∣ parallel (upd g which nil) 64 ≅ R
  pub there : g which ≢ nil

-- an agent whose row is like L, beside R
pub record FoundAgent (t : Tree) (p : ℕ) (f g : ℕ → Term) (L R : Term) : Type 0 where
  pub who : ℕ
  pub less : who < 64
  pub home : t.home who ≡ p
  pub part : Term
  pub acting : Acting (t.unused who) part
  pub like : Like part L
  pub left : parallel (upd f who nil) 64 ∣ parallel g 64 ≅ R

module _ (t : Tree) (w : Formed t) (p : ℕ) (f g : ℕ → Term) (r : Some t p f g) where
  -- an ambient found is a place
  pub found_place : {n : Name} {P R : Term} → parallel f 64 ∣ parallel g 64 ≅ amb n P ∣ R → FoundPlace t p f g n P R
  unfolding head
  found_place {n} {P} {R} e = go (found f g take_amb e)
    where
      go : Found f g (amb n P) R → FoundPlace t p f g n P R
      go (in_first x l o k z) = absurd (omega (arith, like_head k, acting_head (take_agent t p x (w.good x) (r.agents x o)).acting))
      go (in_second q l o k z) =
          let v = take_place t (held t) p q (r.places q o) in
          let y = like_place (rw v.is at k) in
          record {
            which = q;
            stands = v.stands;
            name = y.0;
            holds = y.1;
            left = struct_par_right (struct_symm zero_par ⨾ struct_par (of_path (sym v.none))) ⨾ z;
            there = λ c. take_nil c o;
          }

  -- an action found is an agent's next
  pub found_agent : {L R : Term} → Takes L L nil → 1 ≤ head L → parallel f 64 ∣ parallel g 64 ≅ L ∣ R → FoundAgent t p f g L R
  unfolding head
  found_agent {L} {R} o c e = go (found f g o e)
    where
      go : Found f g L R → FoundAgent t p f g L R
      go (in_first x l o k z) =
          let v = take_agent t p x (w.good x) (r.agents x o) in
          record {
            who = x;
            less = l;
            home = v.home;
            part = _;
            acting = v.acting;
            like = k;
            left = struct_par (struct_symm zero_par ⨾ struct_par (of_path (sym v.none))) ⨾ z;
          }
      go (in_second q l o k z) =
          let v = take_place t (held t) p q (r.places q o) in
          absurd (omega (arith, like_head k, ap head v.is))
