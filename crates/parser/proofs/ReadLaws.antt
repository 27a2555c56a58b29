-- One turn of the reading loop: what is read so far has brought the machine to where the code is, and the table is that of the cell so far.
use Rattle.std.specs.Prelude.{◌≡◌, Bool, cond, ℕ, ◌+◌, ◌%◌, ◌≤◌, ◌<◌, length, get_or, set}
use Rattle.std.proofs.Math.Path.{refl, ap}
use Rattle.std.proofs.Common.{sym, ap₂, ◌∙◌, subst, arith}
use Rattle.std.proofs.Math.Bool.{true, false}
use Rattle.sets.specs.declared.Set.{Set}
use Rattle.sets.specs.Set.{inserted_if}
use Rattle.order.specs.Row.{counting_row}
use Rattle.table.specs.Cell.{cell_of, bare_table, no_place, no_agent, put_places, put_agents, put_used, put_given, put_order}
use Rattle.table.proofs.CellLaws.{back, sized_bare}
use Rattle.table.specs.declared.Agent.{Agent}
use Rattle.table.specs.declared.Place.{Place}
use Rattle.table.specs.declared.Cell.{Cell}
use Rattle.meaning.specs.Refusals.{outside_language, too_many}
use Rattle.meaning.specs.Answers.{Accepted, Rejected}
use Rattle.meaning.specs.File.{accepted, refused, loaded}
use Rattle.language.specs.declared.Control.{Control}
use Rattle.language.specs.declared.Control.TheVariants.{Begin}
use Rattle.language.specs.declared.Event.{Event}
use Rattle.language.specs.declared.Event.TheVariants.{Nothing}
use Rattle.language.specs.declared.Moved.{Moved}
use Rattle.language.specs.declared.Moved.TheVariants.{To, Off}
use Rattle.language.specs.Grammar.{Text}
use Rattle.language.specs.Machine.{apply}
use Rattle.language.specs.Read.{Site, site, bare_site, read_of}
use Rattle.parser.specs.declared.Marks.{Marks}
use Rattle.parser.specs.Site.{agent_written, agent_after, place_after, marks_after, gives_agent, gives_place, moved_at, answered_with}
use Rattle.parser.proofs.SoFar.{So, so_start, so_on, so_off, so_end}
use Rattle.parser.proofs.Depth.{moved_deep}
use Rattle.parser.proofs.RowSoFar.{counted_none, rowed}
use Rattle.parser.proofs.Events.{Small, marks_of, unrowed, written_in, marks_in}
use Rattle.parser.proofs.EventLaws.{makes}

-- before the byte at i: the table without its row, the marks, and the machine
pub record Rest (s : Text) (i : ℕ) (c : Control) (d : ℕ) (b : Cell) (x : Marks) : Type 0 where
  pub plain : Site
  pub is : b ≡ unrowed plain.cell
  pub marks : x ≡ marks_of plain
  pub small : Small plain
  pub deep : d ≤ i
  pub so : So s i c d plain

-- the numbers of the bare floor
bare_small : Small bare_site
unfolding bare_site
bare_small = record { places = omega arith; agents = omega arith; here = omega arith; counted = counted_none }

-- the bare table has its row
bare_unrowed : bare_table ≡ unrowed (cell_of bare_table)
unfolding bare_table
bare_unrowed = ap (λ t. put_order t counting_row) (sym (back bare_table sized_bare))

-- nothing is read yet
pub rest_start : (s : Text) (b : Cell) (x : Marks) → b ≡ bare_table → x ≡ record { places = 0; agents = 0; here = 0; over = false }
    → Rest s 0 Begin 0 b x
rest_start s b x e q = record {
  plain = bare_site;
  is = e ∙ bare_unrowed ∙ sym (ap (λ z. unrowed z.cell) bare_is);
  marks = q ∙ (unfold bare_site in refl);
  small = bare_small;
  deep = omega arith;
  so = so_start s;
}
  where
    bare_is : bare_site ≡ record { cell = cell_of bare_table; places = 0; agents = 0; here = 0; over = false }
    bare_is = unfold bare_site in refl

-- the number of places leaves room for one more
pub rest_places : (s : Text) (i : ℕ) (c : Control) (d : ℕ) (b : Cell) (x : Marks) → Rest s i c d b x → x.places ≤ 63
rest_places s i c d b x r = let e : x.places ≡ r.plain.places = ap (λ z. z.places) r.marks in omega (arith, r.small.places)

-- ---- one turn: m is what the byte at i does, or the end of the text

module _ (s : Text) (i : ℕ) (c : Control) (d : ℕ) (b : Cell) (x : Marks) (r : Rest s i c d b x) (l : i ≤ length s) (m : Moved)
    (t : m ≡ moved_at s i c d) where
  -- no text continues so: the cell u that was there stays
  pub rest_off : (u : Cell) → m ≡ Off → record { cell = u; verdict = Rejected outside_language i } ≡ read_of u s
  rest_off u f = unfold read_of in unfold loaded in ap (loaded u) (so_off s i c d r.plain r.so l (sym f ∙ t))

  module _ (k : Control) (n : ℕ) (e : Event) (f : m ≡ To k n e) where
    -- one place more is open at most
    deeper : n ≤ i + 1
    deeper = let z = moved_deep s i c d k n e (sym f ∙ t) in omega (arith, r.deep)

    -- the machine goes on
    on : So s (i + 1) k n (apply site e r.plain)
    on = so_on s i c d r.plain k n e r.so l (sym f ∙ t)

    -- a byte that adds nothing
    pub rest_nothing : e ≡ Nothing → Rest s (i + 1) k n b x
    rest_nothing g = record {
      plain = r.plain;
      is = r.is;
      marks = r.marks;
      small = r.small;
      deep = deeper;
      so = subst (So s (i + 1) k n) (ap (λ z. apply site z r.plain) g ∙ (unfold apply in refl)) on;
    }

    -- a byte that adds something
    pub rest_event : (v : Cell) (y : Marks) → v ≡ written_in b x e → y ≡ marks_in b x e → Rest s (i + 1) k n v y
    rest_event v y g h =
        let w = makes r.plain r.small e in
        record {
          plain = apply site e r.plain;
          is = g ∙ ap₂ (λ (z : Cell) (u : Marks). written_in z u e) r.is r.marks ∙ w.table;
          marks = h ∙ ap₂ (λ (z : Cell) (u : Marks). marks_in z u e) r.is r.marks ∙ w.marks;
          small = w.small;
          deep = deeper;
          so = on;
        }

    -- as the code has it: `at h` the place whose contents are read, `which` and `at j` the agent with its record a, `at q` the place after the
    -- latest with its record p
    pub rest_written : (h which j q : ℕ) (a : Agent) (p : Place) (agent place : Bool) (given used : Set) (y : Marks)
        → h ≡ x.here % 64 → which ≡ agent_written x e → j ≡ which % 64 → a ≡ agent_after (get_or b.agents j no_agent) x e → agent ≡ gives_agent x e
        → given ≡ inserted_if b.given which agent → q ≡ (x.places + 1) % 64 → p ≡ place_after (get_or b.places q no_place) x e
        → place ≡ gives_place x e → used ≡ inserted_if b.used (x.places + 1) place
        → y ≡ marks_after x e (get_or b.agents j no_agent).count (get_or b.places h no_place).parent
        → Rest s (i + 1) k n (put_used (put_places (put_given (put_agents b (set b.agents j a)) given) (set b.places q p)) used) y
    rest_written h which j q a p agent place given used y eh es ej ea ega eg eq ep egp eu ey = rest_event _ _
        (λ z. put_used (put_places (put_given (put_agents b (agents_are z)) (given_are z)) (places_are z)) (used_are z))
        (ey ∙ ap₂ (λ (z w : ℕ). marks_after x e (get_or b.agents z no_agent).count (get_or b.places w no_place).parent) which_is eh)
      where
        which_is : j ≡ agent_written x e % 64
        which_is = ej ∙ ap (λ z. z % 64) es

        agents_are : set b.agents j a ≡ set b.agents (agent_written x e % 64) (agent_after (get_or b.agents (agent_written x e % 64) no_agent) x e)
        agents_are = ap₂ (λ (z : ℕ) (w : Agent). set b.agents z w) which_is (ea ∙ ap (λ z. agent_after (get_or b.agents z no_agent) x e) which_is)

        given_are : given ≡ inserted_if b.given (agent_written x e) (gives_agent x e)
        given_are = eg ∙ ap₂ (inserted_if b.given) es ega

        places_are : set b.places q p
            ≡ set b.places ((x.places + 1) % 64) (place_after (get_or b.places ((x.places + 1) % 64) no_place) x e)
        places_are = ap₂ (λ (z : ℕ) (w : Place). set b.places z w) eq (ep ∙ ap (λ z. place_after (get_or b.places z no_place) x e) eq)

        used_are : used ≡ inserted_if b.used (x.places + 1) (gives_place x e)
        used_are = eu ∙ ap (inserted_if b.used (x.places + 1)) egp

-- ---- the end of the text: the row is made

pub rest_end : (s : Text) (i : ℕ) (c : Control) (d : ℕ) (b : Cell) (x : Marks) → Rest s i c d b x → length s < i → (t : Cell)
    → answered_with t b x.over (length s) ≡ read_of t s
rest_end s i c d b x r l t = ap₂ (λ (u : Cell) (o : Bool). answered_with t u o (length s)) r.is (ap (λ z. z.over) r.marks)
    ∙ go r.plain.over ∙ (unfold read_of in ap (loaded t) (so_end s i c d r.plain r.so l))
  where
    go : (o : Bool) → answered_with t (unrowed r.plain.cell) o (length s)
        ≡ loaded t (cond o (refused too_many (length s)) (accepted r.plain.cell))
    go true = unfold loaded in unfold answered_with in refl
    go false = unfold loaded in unfold answered_with in
        ap (λ z. record { cell = z; verdict = Accepted }) (rowed r.plain.places r.plain.cell r.small.counted)
