-- Laws of a row of actions: it goes on with a stretch, never back, and the table stays that of the cell so far.
use Rattle.std.specs.Prelude.{◌≡◌, refl, Bool, true, false, ◌&&◌, ℕ, ◌+◌, ◌*◌, ◌-◌, ◌%◌, ◌≤◌, ◌<◌, leb, get_or, set}
use Rattle.std.proofs.Math.Path.{sym, ap, ap₂}
use Rattle.std.proofs.Common.{◌∙◌, subst, arith, get_or-set_same, set-set, lt-ltb}
use Rattle.std.proofs.Math.Bool.{cond}
use mathlib.Core.List.{List}
use Rattle.std.proofs.Math.ListN.{length}
use Rattle.std.proofs.lemmas.List.{set-get_or}
use Rattle.std.proofs.lemmas.Bool.{lt-leb}
use Rattle.table.proofs.BaseLaws.{length_tab}
use Rattle.table.specs.Cell.{no_agent, no_place, table_of, put_places, put_agents}
use Rattle.table.specs.declared.Agent.{Agent}
use Rattle.table.specs.declared.Place.{Place}
use Rattle.table.specs.declared.Cell.{Cell}
use Rattle.meaning.specs.File.{with_action}
use Rattle.language.specs.declared.Control.{Control}
use Rattle.language.specs.declared.Control.TheVariants.{Dot, Digits}
use Rattle.language.specs.declared.Field.{Field}
use Rattle.language.specs.declared.Field.TheVariants.{ActionNumber}
use Rattle.language.specs.declared.Event.TheVariants.{NewAction}
use Rattle.language.specs.declared.Moved.TheVariants.{To}
use Rattle.language.specs.Grammar.{Text}
use Rattle.language.specs.Machine.{is_digit, continues, follow, next}
use Rattle.parser.specs.declared.Marks.{Marks}
use Rattle.parser.specs.Site.{agent_written, agent_after, place_after, marks_after, gives_agent, gives_place, over_marks, moved_at}
use Rattle.parser.proofs.Events.{written_in, marks_in}
use Rattle.parser.specs.Stretches.{Stretch}
use Rattle.parser.specs.Stretches
use Rattle.parser.proofs.StretchLaws.{stretch_up, stretch_on, rest_stretch}
use Rattle.parser.proofs.ReadLaws.{Rest, rest_event}
use Rattle.parser.specs.Rows.{Rowed}
use Rattle.parser.specs.Rows

module _ {s : Text} {i : ℕ} {g : Agent} where
  -- the row goes on with a stretch
  pub row_on : {j l : ℕ} {k m : Control} {a : Agent} → Rowed s i g j k a → Stretch s j k l m → Rowed s i g l m a
  row_on (Rows.begun p) q = Rows.begun (stretch_on p q)
  row_on (Rows.more w low stop room p) q = Rows.more w low stop room (stretch_on p q)

  -- an action has ended in a full stop
  pub row_more : {j kind name : ℕ} {k : Control} {f : Field} {a : Agent} → Rowed s i g j k a → k ≡ Digits f name → f ≡ ActionNumber kind → j < length s
      → get_or s j 0 ≡ 46 → a.count < 16 → Rowed s i g (j + 1) Dot (with_action a kind name)
  row_more {j} {kind} {name} {a} w p q low stop room =
      Rows.more (subst (λ (c : Control). Rowed s i g j c a) (p ∙ ap (λ (f : Field). Digits f name) q) w) low stop room Stretches.still

  -- never back
  pub row_up : {j : ℕ} {k : Control} {a : Agent} → Rowed s i g j k a → i ≤ j
  row_up (Rows.begun p) = stretch_up p
  row_up (Rows.more w low stop room p) = let h = row_up w in let k = stretch_up p in omega arith

-- a full stop after the number of an action
stop_none : (v : ℕ) → continues v 46 ≡ false
unfolding continues
stop_none v = go (leb 1 v)
  where
    go : (b : Bool) → (b && (is_digit 0 46 && leb (v * 10 + (46 - 48)) 65535)) ≡ false
    go true = refl
    go false = refl

stopped : (s : Text) (j kind name d : ℕ) → j < length s → get_or s j 0 ≡ 46 → To Dot d (NewAction kind name) ≡ moved_at s j (Digits (ActionNumber kind) name) d
unfolding moved_at next follow
stopped s j kind name d low stop = rw (lt-ltb j (length s) low, stop, stop_none name)

-- ---- the table stays that of the cell so far: z is where the latest agent stands

module _ (s : Text) (i : ℕ) (c : Control) (d : ℕ) (b : Cell) (x : Marks) (r : Rest s i c d b x) (dot : c ≡ Dot) (z : ℕ) (g : Agent)
    (e : z ≡ (x.agents - 1) % 64) (f : g ≡ get_or b.agents z no_agent) where
  -- the table with the latest agent as a
  abbrev agent_in : Agent → Cell
  agent_in a = put_agents b (set b.agents z a)

  -- every table has 64 agents
  low_agent : z < length b.agents
  unfolding table_of
  low_agent =
      let n : length b.agents ≡ 64 = ap (λ (t : Cell). length t.agents) r.is ∙ length_tab r.plain.cell.agent 64 0 in
      omega (arith, e)

  -- one action more, where there is room
  module _ (a : Agent) (kind name : ℕ) (room : a.count < 16) where
    -- the agent as it is where it has sixteen actions, and else with one more
    abbrev more_in : Agent → Agent
    more_in y = cond (leb 16 y.count) y (with_action y kind name)

    there : get_or (set b.agents z a) ((x.agents - 1) % 64) no_agent ≡ a
    there = ap (λ n. get_or (set b.agents z a) n no_agent) (sym e) ∙ get_or-set_same b.agents z a no_agent low_agent

    agents_are : set (set b.agents z a) ((x.agents - 1) % 64) (more_in (get_or (set b.agents z a) ((x.agents - 1) % 64) no_agent))
        ≡ set b.agents z (with_action a kind name)
    agents_are = ap₂ (λ (n : ℕ) (y : Agent). set (set b.agents z a) n y) (sym e) (ap more_in there ∙ ap (λ t. cond t a (with_action a kind name)) (lt-leb 16 a.count room))
        ∙ set-set b.agents z a (with_action a kind name)

    table_is : agent_in (with_action a kind name) ≡ written_in (agent_in a) x (NewAction kind name)
    unfolding agent_written agent_after place_after gives_agent gives_place
    table_is = ap₂ (λ (l : List Agent) (m : List Place). put_places (put_agents b l) m) (sym agents_are)
        (sym (set-get_or b.places ((x.places + 1) % 64) no_place))

    marks_are : x ≡ marks_in (agent_in a) x (NewAction kind name)
    unfolding agent_written marks_after
    marks_are = sym (ap (λ (y : Agent). cond (leb 16 y.count) (over_marks x) x) there ∙ ap (λ t. cond t (over_marks x) x) (lt-leb 16 a.count room))

    rest_action : (j : ℕ) → Rest s j (Digits (ActionNumber kind) name) d (agent_in a) x → j < length s → get_or s j 0 ≡ 46
        → Rest s (j + 1) Dot d (agent_in (with_action a kind name)) x
    rest_action j q low stop = rest_event s j (Digits (ActionNumber kind) name) d (agent_in a) x q (omega (arith, low)) (To Dot d (NewAction kind name))
        (stopped s j kind name d low stop) Dot d (NewAction kind name) refl _ _ table_is marks_are

  same : b ≡ agent_in g
  same = ap (put_agents b) (sym (ap (set b.agents z) f ∙ set-get_or b.agents z no_agent))

  pub rest_row : {j : ℕ} {k : Control} {a : Agent} → Rowed s i g j k a → Rest s j k d (agent_in a) x
  rest_row {j} {k} (Rows.begun p) = subst (λ (t : Cell). Rest s j k d t x) same (rest_stretch s i Dot d b x (subst (λ (q : Control). Rest s i q d b x) dot r) p)
  rest_row (Rows.more {j} {kind} {name} {a} w low stop room p) =
      rest_stretch s (j + 1) Dot d (agent_in (with_action a kind name)) x (rest_action a kind name room j (rest_row w) low stop) p
