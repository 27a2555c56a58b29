-- How long a listing can be: 16,225 bytes at most for every table, since names and keys have 16 bits. Assumes nothing.
use Rattle.std.specs.Prelude.{◌≡◌, Bool, true, false, cond, eqb, leb, length, get_or}
use mathlib.Core.List.{List, [], ◌∷◌, ◌++◌}
use Prim.Native.Nat.{ℕ, zero, suc, ◌+◌, ◌*◌, ◌≤◌}
use Rattle.std.proofs.Math.Nat.{le_refl}
use native.Mathlib.Omega.{arith}
use Rattle.std.proofs.Math.ListN.{length-append}
use Rattle.std.proofs.Common.{le-leb}
use Rattle.table.specs.Base.{tab, sum_below}
use Rattle.table.specs.Cell.{State, no_action, cell_of, enter_kind, exit_kind, open_kind}
use Rattle.table.proofs.BaseLaws.{Told, yea, nay, told}
use Rattle.table.proofs.SumLaws.{sum_most}
use Rattle.table.specs.Sound.{sound}
use Rattle.table.specs.Bounds.{Name16, Names16}
use Rattle.table.specs.declared.Name.{Name}
use Rattle.table.specs.declared.Cell.{Cell}
use Rattle.meaning.specs.Refusals.{unsound_table, too_long}
use Rattle.meaning.specs.Text.{ascii, decimal}
use Rattle.meaning.specs.Sorted.{sorted}
use Rattle.meaning.specs.Listing.{kind_text, action_text, is_unused, action_turn, agent_text, lists_in, texts_of, agent_texts, stands_under, is_plain, slashed, name_text, bracketed, place_texts}
use Rattle.meaning.specs.Listing.{in_order, contents_text, listing, list_answer}
use Rattle.meaning.specs.Answers.{Length, Unlisted}
use Rattle.lengths.specs.Longest.{longest_word, longest_listing, longest_any}
use Rattle.lengths.proofs.Sums.{pick, pick_le}
use Rattle.lengths.proofs.Parts.{digits_short, digits_most, room, room_none, length_room, room_length, room_turn, room_fold, weight, sorted_weight, append_weight, texts_weight, room_all}
use Rattle.lengths.proofs.Levels.{heap, heap_floor}

-- a name and its keys are written with at most w digits each
pub record Short (w : ℕ) (x : Name) : Type 0 where
  pub name : length (decimal x.name) ≤ w
  pub entering : length (decimal x.entering) ≤ w
  pub exiting : length (decimal x.exiting) ≤ w
  pub opening : length (decimal x.opening) ≤ w

-- every name, key and number of an action in a cell is written with at most w digits
pub record Named (w : ℕ) (c : State) : Type 0 where
  pub place : (q : ℕ) → Short w (c.land.place q).name
  pub action : (x j : ℕ) → length (decimal (get_or (c.agent x).actions j no_action).name) ≤ w

-- no word of an action is longer than `release `
kind_length : (k : ℕ) → length (kind_text k) ≤ longest_word
unfolding kind_text tab
kind_length k = go (eqb k enter_kind) (eqb k exit_kind) (eqb k open_kind)
  where
    go : (a b d : Bool) → length (cond a (ascii "enter ") (cond b (ascii "exit ") (cond d (ascii "open ") (ascii "release ")))) ≤ longest_word
    go true b d = omega arith
    go false true d = omega arith
    go false false true = omega arith
    go false false false = le_refl longest_word

-- what an action takes at most with a full stop
abbrev action_room : ℕ → ℕ
action_room w = 1 + longest_word + w

-- what an agent of sixteen actions takes at most: their words and numbers, and 15 full stops
abbrev agent_length : ℕ → ℕ
agent_length w = 15 + 16 * (longest_word + w)

-- with the bar before it
abbrev agent_room : ℕ → ℕ
agent_room w = 3 + agent_length w

-- and what a place with keys and without contents takes
abbrev place_room : ℕ → ℕ
place_room w = 8 + 4 * w

-- 64 such agents and 63 such places, and no bar before the first
abbrev whole_room : ℕ → ℕ
whole_room w = agent_length w + 63 * agent_room w + 63 * place_room w

slashed_length : (key : ℕ) → length (slashed key) ≡ 1 + length (decimal key)
unfolding slashed tab
slashed_length key = length-append (ascii "/") (decimal key)

-- the keys, where they are written, take a slash and w digits each
name_length : (w : ℕ) (x : Name) → Short w x → length (name_text x) ≤ 3 + 4 * w
unfolding name_text
name_length w x n = omega (
  arith,
  n.name,
  keys (is_plain x),
  length-append (decimal x.name) (cond (is_plain x) [] (slashed x.entering ++ (slashed x.exiting ++ slashed x.opening))),
)
  where
    keys : (b : Bool) → length (cond b [] (slashed x.entering ++ (slashed x.exiting ++ slashed x.opening))) ≤ 3 + 3 * w
    keys true = omega arith
    keys false = omega (
      arith,
      n.entering,
      n.exiting,
      n.opening,
      slashed_length x.entering,
      slashed_length x.exiting,
      slashed_length x.opening,
      length-append (slashed x.entering) (slashed x.exiting ++ slashed x.opening),
      length-append (slashed x.exiting) (slashed x.opening),
    )

-- an empty floor is written with one byte
floor_length : (s : List ℕ) (m : ℕ) → 1 ≤ m → length s ≤ m → length (cond (eqb (length s) 0) (48 ∷ []) s) ≤ m
floor_length s m one l = go (told (eqb (length s) 0))
  where
    go : Told (eqb (length s) 0) → length (cond (eqb (length s) 0) (48 ∷ []) s) ≤ m
    go (yea e) = rw e one
    go (nay e) = rw e l

-- a listing for which there is room is not too long
roomy : (b : Bool) (n m : ℕ) → n ≤ m → cond b (cond (leb n m) (Length n) (Unlisted too_long)) (Unlisted unsound_table) ≡ cond b (Length n) (Unlisted unsound_table)
roomy b n m l = rw (le-leb n m l)

module _ (w : ℕ) (c : State) (n : Named w c) where
  action_length : (x j : ℕ) → length (action_text (get_or (c.agent x).actions j no_action)) ≤ longest_word + w
  unfolding action_text
  action_length x j = rw (length-append (kind_text (get_or (c.agent x).actions j no_action).kind) (decimal (get_or (c.agent x).actions j no_action).name))
      (omega (arith, kind_length (get_or (c.agent x).actions j no_action).kind, n.action x j))

  agent_length_lem : (x : ℕ) → length (agent_text (c.agent x)) ≤ agent_length w
  unfolding agent_text tab
  agent_length_lem x = room_length (ascii ".") (agent_text (c.agent x)) (agent_length w) (omega (
    arith,
    room_none (ascii "."),
    sum_most (λ j. action_room w) 16 (action_room w) (λ j l. le_refl (action_room w)),
    room_fold (ascii ".") (action_turn (c.agent x)) (λ j. action_room w)
        (λ j s. omega (
          arith,
          pick_le (is_unused (c.agent x) j) (action_room w),
          room_turn (ascii ".") (is_unused (c.agent x) j) s (action_text (get_or (c.agent x).actions j no_action)) (action_room w) (omega (arith, action_length x j)),
        )) 16 [],
  ))

  agents_weight : (p : ℕ) → weight 3 (sorted (agent_texts c p)) ≤ sum_below (λ x. pick (lists_in (c.given x) (c.agent x) p) (agent_room w)) 64
  unfolding agent_texts
  agents_weight p = omega (
    arith,
    sorted_weight 3 (texts_of (λ x. lists_in (c.given x) (c.agent x) p) (λ x. agent_text (c.agent x)) 64),
    texts_weight 3 (λ x. lists_in (c.given x) (c.agent x) p) (λ x. agent_text (c.agent x)) (λ x. agent_room w) (λ x. omega (arith, agent_length_lem x)) 64,
  )

  place_length : (q : ℕ) (s : List ℕ) → length (bracketed (c.land.place q).name s) ≤ 5 + 4 * w + length s
  unfolding bracketed tab
  place_length q s = omega (
    arith,
    name_length w (c.land.place q).name (n.place q),
    length-append (name_text (c.land.place q).name) (ascii "["),
    length-append (name_text (c.land.place q).name ++ ascii "[") s,
    length-append ((name_text (c.land.place q).name ++ ascii "[") ++ s) (ascii "]"),
  )

  places_weight : (p : ℕ) (text : ℕ → List ℕ) (f : ℕ → ℕ) → ((q : ℕ) → length (text q) ≤ f q)
      → weight 3 (sorted (place_texts c.land p text)) ≤ sum_below (λ q. pick (stands_under (c.land.used q) q (c.land.place q).parent p) (place_room w + f q)) 64
  unfolding place_texts
  places_weight p text f h = omega (
    arith,
    sorted_weight 3 (texts_of (λ q. stands_under (c.land.used q) q (c.land.place q).parent p) (λ q. bracketed (c.land.place q).name (text q)) 64),
    texts_weight 3 (λ q. stands_under (c.land.used q) q (c.land.place q).parent p) (λ q. bracketed (c.land.place q).name (text q)) (λ q. place_room w + f q)
        (λ q. omega (arith, place_length q (text q), h q)) 64,
  )

  contents_room : (depth p : ℕ) → room (ascii " | ") (contents_text depth c p) ≤ heap c (agent_room w) (place_room w) depth p
  unfolding contents_text in_order heap tab
  contents_room zero p = omega (arith, room_none (ascii " | "))
  contents_room (suc depth) p = omega (
    arith,
    room_none (ascii " | "),
    agents_weight p,
    places_weight p (contents_text depth c) (heap c (agent_room w) (place_room w) depth)
        (λ q. omega (arith, length_room (ascii " | ") (contents_text depth c q), contents_room depth q)),
    append_weight 3 (sorted (agent_texts c p)) (sorted (place_texts c.land p (contents_text depth c))),
    room_all (ascii " | ") [] (sorted (agent_texts c p) ++ sorted (place_texts c.land p (contents_text depth c))),
  )

  -- no cell has more agents and places than these
  pub listing_length : length (listing c) ≤ whole_room w
  unfolding listing tab
  listing_length = floor_length (contents_text 65 c 0) (whole_room w) (omega arith)
      (room_length (ascii " | ") (contents_text 65 c 0) (whole_room w) (omega (arith, contents_room 65 0, heap_floor c (agent_room w) (place_room w) 65)))

-- ---- every cell, and every table

-- a number of 64 bits has at most 20 digits, and no more are written
pub listing_any : (c : State) → length (listing c) ≤ longest_any
listing_any c = listing_length 20 c (record {
  place = λ q. record { name = digits_most 20 _; entering = digits_most 20 _; exiting = digits_most 20 _; opening = digits_most 20 _ };
  action = λ x j. digits_most 20 _;
})

-- a number of 16 bits has at most five
short : {x : Name} → Name16 x → Short 5 x
short n = record {
  name = digits_short 20 4 _ (omega (arith, n.name));
  entering = digits_short 20 4 _ (omega (arith, n.entering));
  exiting = digits_short 20 4 _ (omega (arith, n.exiting));
  opening = digits_short 20 4 _ (omega (arith, n.opening));
}

-- the longest listing of a table has 16,225 bytes
pub listing_longest : (t : Cell) → Names16 t → length (listing (cell_of t)) ≤ longest_listing
unfolding cell_of
listing_longest t n = omega (
  arith,
  listing_length 5 (cell_of t) (record {
    place = λ q. short (n.place q);
    action = λ x j. digits_short 20 4 _ (omega (arith, n.action x j));
  }),
)

-- a listing call that is lent 16,225 bytes is never refused by 12
pub enough_room : (t : Cell) → Names16 t → (b : List ℕ) → longest_listing ≤ length b
    → list_answer (cell_of t) b ≡ cond (sound (cell_of t)) (Length (length (listing (cell_of t)))) (Unlisted unsound_table)
unfolding list_answer
enough_room t n b l = roomy (sound (cell_of t)) (length (listing (cell_of t))) (length b) (omega (arith, listing_longest t n))
