-- A table and its cell determine each other: back and forth. Assumes nothing.
-- Idea: an array of 64 is the table of its elements, a word that of its members; past 63 a bounded cell has nothing to lose.
use Rattle.std.specs.Prelude.{◌≡◌, refl, Bool, true, false, ℕ, ◌≤◌, ◌<◌, ltb, set}
use Rattle.std.proofs.Math.Path.{sym, fun_ext}
use Rattle.std.proofs.Common.{◌∙◌, subst, lit<, ltb-true, ltb-false}
use mathlib.Core.List.{List}
use Rattle.std.proofs.Math.ListN.{get_or, length, get_or-eq_default}
use Rattle.sets.specs.Word.{has, word_of}
use Rattle.sets.proofs.WordLaws.{word_has, has_word, has_past, has_lt, word_lt}
use Rattle.table.specs.Base.{tab, upd}
use Rattle.table.proofs.BaseLaws.{Told, yea, nay, told, tab_get_d, get_d_tab, length_tab, set_list}
use Rattle.table.specs.Cell.{no_place, no_agent, State, cell_of, table_of, bare_table}
use Rattle.table.specs.Bounds.{Sized, Bounded}
use Rattle.table.specs.declared.Agent.{Agent}
use Rattle.table.specs.declared.Cell.{Cell}

-- ---- equality, field by field

pub table_eq : {x y : Cell} → x.places ≡ y.places → x.locks ≡ y.locks → x.agents ≡ y.agents → x.used.bits ≡ y.used.bits → x.given.bits ≡ y.given.bits
    → x.touches ≡ y.touches → x.order ≡ y.order → x ≡ y
table_eq p l a u g n o = λ i. record { places = p i; locks = l i; agents = a i; used = record { bits = u i }; given = record { bits = g i }; touches = n i; order = o i }

pub cell_eq : {x y : State} → x.land.place ≡ y.land.place → x.land.used ≡ y.land.used → x.lock ≡ y.lock → x.agent ≡ y.agent → x.given ≡ y.given
    → x.touches ≡ y.touches → x.land.order ≡ y.land.order → x ≡ y
cell_eq p u l a g n o = λ i. record { land = record { place = p i; used = u i; order = o i }; lock = l i; agent = a i; given = g i; touches = n i }

-- a table is that of a cell, field by field
pub made : (t : Cell) (c : State) → t.places ≡ tab c.land.place 64 0 → t.locks ≡ tab c.lock 64 0 → t.agents ≡ tab c.agent 64 0
    → t.used.bits ≡ word_of 64 c.land.used → t.given.bits ≡ word_of 64 c.given
    → t.touches ≡ tab c.touches 64 0 → t.order ≡ c.land.order → t ≡ table_of c
unfolding table_of
made t c p l a u g n o = table_eq p l a u g n o

-- ---- back: from a table to its cell and to the table again

module _ (t : Cell) (z : Sized t) where
  pub places_are : t.places ≡ tab (cell_of t).land.place 64 0
  unfolding cell_of
  places_are = sym (tab_get_d no_place t.places 64 z.places)

  pub locks_are : t.locks ≡ tab (cell_of t).lock 64 0
  unfolding cell_of
  locks_are = sym (tab_get_d 0 t.locks 64 z.locks)

  pub agents_are : t.agents ≡ tab (cell_of t).agent 64 0
  unfolding cell_of
  agents_are = sym (tab_get_d no_agent t.agents 64 z.agents)

  pub used_are : t.used.bits ≡ word_of 64 (cell_of t).land.used
  unfolding cell_of
  used_are = sym (word_has 64 t.used.bits z.used)

  pub given_are : t.given.bits ≡ word_of 64 (cell_of t).given
  unfolding cell_of
  given_are = sym (word_has 64 t.given.bits z.given)

  pub touches_are : t.touches ≡ tab (cell_of t).touches 64 0
  unfolding cell_of
  touches_are = sym (tab_get_d 0 t.touches 64 z.touches)

  -- a table is that of its cell
  pub back : table_of (cell_of t) ≡ t
  unfolding cell_of
  back = sym (made t (cell_of t) places_are locks_are agents_are used_are given_are touches_are refl)

  -- ---- the cell of a table reads nothing at and past 64
  pub bounded : Bounded (cell_of t)
  unfolding cell_of
  bounded = record {
    place = λ q l. past t.places no_place z.places q l;
    used = λ q l. has_past 64 t.used.bits q z.used l;
    lock = λ q l. past t.locks 0 z.locks q l;
    agent = λ x l. past t.agents no_agent z.agents x l;
    given = λ x l. has_past 64 t.given.bits x z.given l;
    touches = λ q l. past t.touches 0 z.touches q l;
  }
    where
      past : {A : Type 0} (l : List A) (d : A) → length l ≡ 64 → (q : ℕ) → 64 ≤ q → get_or l q d ≡ d
      past l d e q m = get_or-eq_default l d (subst (λ (n : ℕ). n ≤ q) (sym e) m)

  -- a place in use, and an agent given, is below 64
  pub in_use : (q : ℕ) → has t.used.bits q ≡ true → q < 64
  in_use q e = has_lt 64 t.used.bits q z.used e

  pub is_given : (x : ℕ) → has t.given.bits x ≡ true → x < 64
  is_given x e = has_lt 64 t.given.bits x z.given e

  pub agent_set : (x : ℕ) (a : Agent) → x < 64 → set t.agents x a ≡ tab (upd (cell_of t).agent x a) 64 0
  unfolding cell_of
  agent_set x a l = set_list no_agent t.agents 64 x a z.agents l

-- ---- forth: from a bounded cell to its table and to the cell again

-- a function that is d from 64 on is read back from its table
pub tab_forth : {A : Type 0} (d : A) (f : ℕ → A) → ((j : ℕ) → 64 ≤ j → f j ≡ d) → (λ j. get_or (tab f 64 0) j d) ≡ f
tab_forth d f h = fun_ext (λ j. go j (told (ltb j 64)))
  where
    go : (j : ℕ) → Told (ltb j 64) → get_or (tab f 64 0) j d ≡ f j
    go j (yea t) = get_d_tab f 64 j d (ltb-true j 64 t)
    go j (nay t) = let l = ltb-false j 64 t in get_or-eq_default (tab f 64 0) d (subst (λ (n : ℕ). n ≤ j) (sym (length_tab f 64 0)) l) ∙ sym (h j l)

-- a test that fails from 64 on is read back from its word
pub word_forth : (f : ℕ → Bool) → ((j : ℕ) → 64 ≤ j → f j ≡ false) → has (word_of 64 f) ≡ f
word_forth f h = fun_ext (λ j. go j (told (ltb j 64)))
  where
    go : (j : ℕ) → Told (ltb j 64) → has (word_of 64 f) j ≡ f j
    go j (yea t) = has_word 64 f j (ltb-true j 64 t)
    go j (nay t) = let l = ltb-false j 64 t in has_past 64 (word_of 64 f) j (word_lt 64 f) l ∙ sym (h j l)

-- the cell of a bounded cell's table is that cell
pub forth : (c : State) → Bounded c → cell_of (table_of c) ≡ c
unfolding cell_of table_of
forth c b = cell_eq
    (tab_forth no_place c.land.place b.place)
    (word_forth c.land.used b.used)
    (tab_forth 0 c.lock b.lock)
    (tab_forth no_agent c.agent b.agent)
    (word_forth c.given b.given)
    (tab_forth 0 c.touches b.touches)
    refl

-- the table of a cell has the sizes of the struct
pub sized_table : (c : State) → Sized (table_of c)
unfolding table_of
sized_table c = record {
  places = length_tab c.land.place 64 0;
  locks = length_tab c.lock 64 0;
  agents = length_tab c.agent 64 0;
  used = word_lt 64 c.land.used;
  given = word_lt 64 c.given;
  touches = length_tab c.touches 64 0;
}

-- and so has the bare floor
pub sized_bare : Sized bare_table
unfolding bare_table
sized_bare = record { places = refl; locks = refl; agents = refl; used = lit< tt; given = lit< tt; touches = refl }
