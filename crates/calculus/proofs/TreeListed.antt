-- The listing of a tree is the listing of its term: `tree_listed`. Of formed trees whose numbers have 16 bits.
-- Idea: number by number; what an agent or a place adds to the term is what its text adds to the texts.
use Rattle.std.specs.Prelude.{◌≡◌, ◌≢◌, Bool, cond, ℕ, zero, suc, ltb, eqb, length}
use Rattle.std.proofs.Math.Path.{refl, sym, ap}
use Rattle.std.proofs.Common.{ap₂, ◌∙◌, arith, lt-ltb}
use Rattle.std.proofs.Math.Bool.{true, false}
use mathlib.Core.List.{List, [], ◌∷◌, ◌++◌, append_assoc, append-nil, cons≢nil, append-ne-nil_of_right_ne-nil}
use Rattle.table.specs.Base.{tab}
use Rattle.table.proofs.BaseLaws.{Told, yea, nay, told}
use Rattle.table.specs.declared.Action.{Action}
use Rattle.meaning.specs.Text.{ascii, gap, joined_all}
use Rattle.meaning.specs.Sorted.{sorted}
use Rattle.meaning.proofs.SortedLaws.{Text}
use Rattle.meaning.specs.Calculus.{Tree, stands_at}
use Rattle.meaning.specs.Listing.{kind_text, action_text, texts_of, stands_under, bracketed, in_order}
use Rattle.meaning.specs.TreeListing.{row_text, acts_in, tree_agents, tree_places, tree_contents, tree_listing}
use Rattle.meaning.specs.Every.{Every}
use Rattle.calculus.specs.Terms.{Term, amb, nil, ◌∣◌}
use Rattle.calculus.specs.TermOf.{row, parallel, agent_at, place_at, level, contents, term}
use Rattle.calculus.specs.Formed.{Formed}
use Rattle.calculus.proofs.Depth.{unfolds}
use Rattle.calculus.specs.TermListing.{Texts, agents_only, places_only, together, write, after, prefixed, texts, written, or_zero, listed}
use Rattle.calculus.proofs.TextParts.{gap_some}
use Rattle.calculus.proofs.Decimals.{decimal_some}
use Rattle.calculus.proofs.RowTexts.{Fine, actions_text}
use Rattle.calculus.proofs.RowTerms.{row_texts, row_texts_lem}

-- ---- the text of a row

-- an action has a text
pub action_some : (x : Action) → action_text x ≢ []
unfolding action_text
action_some x = append-ne-nil_of_right_ne-nil (kind_text x.kind) (decimal_some x.name)

-- a text that begins with one that is not empty is not
pub left_some : (x y : Text) → x ≢ [] → x ++ y ≢ []
left_some [] y d = absurd (d refl)
left_some (c ∷ x) y d = cons≢nil

-- and a full stop comes before it
pub after_some : (x : Text) → x ≢ [] → after x ≡ ascii "." ++ x
unfolding after tab
after_some [] d = absurd (d refl)
after_some (c ∷ x) d = refl

-- a row of actions after a text
row_after : (s : Text) (l : List Action) → s ≢ [] → row_text s l ≡ s ++ after (actions_text l)
unfolding row_text actions_text
row_after s [] d = unfold after in sym (append-nil s)
row_after s (x ∷ l) d =
    ap (λ (g : Text). row_text ((s ++ g) ++ action_text x) l) (gap_some (ascii ".") s d)
    ∙ row_after ((s ++ ascii ".") ++ action_text x) l (append-ne-nil_of_right_ne-nil (s ++ ascii ".") (action_some x))
    ∙ append_assoc (s ++ ascii ".") (action_text x) (after (actions_text l))
    ∙ append_assoc s (ascii ".") (action_text x ++ after (actions_text l))
    ∙ ap (λ z. s ++ z) (sym (unfold prefixed in after_some (action_text x ++ after (actions_text l)) (left_some (action_text x) (after (actions_text l)) (action_some x))))

-- and from the start
row_is : (l : List Action) → row_text [] l ≡ actions_text l
unfolding row_text actions_text gap tab
row_is [] = refl
row_is (x ∷ l) = unfold prefixed in row_after (action_text x) l (action_some x)

-- a row is listed if it has an action
row_listed : (l : List Action) → row_texts l ≡ cond (ltb 0 (length l)) (row_text [] l ∷ []) []
unfolding row_texts
row_listed [] = refl
row_listed (x ∷ l) = rw (lt-ltb 0 (length (x ∷ l)) (omega arith), row_is (x ∷ l))

-- ---- the texts of a term in parallel

-- only agents, or only places: one list after another
record Alone (only : List Text → Texts) : Type 0 where
  nothing : texts nil ≡ only []
  more : (l m : List Text) → together (only l) (only m) ≡ only (l ++ m)

-- agents
agents_alone : Alone agents_only
unfolding texts
agents_alone = record { nothing = refl; more = λ l m. refl }

-- places
places_alone : Alone places_only
unfolding texts
places_alone = record { nothing = refl; more = λ l m. refl }

-- terms that each add one text, or nothing, add the texts of those that are meant
parallel_texts : (only : List Text → Texts) → Alone only → (f : ℕ → Term) (meant : ℕ → Bool) (text : ℕ → Text)
    → ((k : ℕ) → texts (f k) ≡ only (cond (meant k) (text k ∷ []) [])) → (n : ℕ) → texts (parallel f n) ≡ only (texts_of meant text n)
unfolding parallel texts_of texts
parallel_texts only a f meant text h zero = a.nothing
parallel_texts only a f meant text h (suc n) =
    ap₂ together (h n) (parallel_texts only a f meant text h n) ∙ a.more (cond (meant n) (text n ∷ []) []) (texts_of meant text n)
    ∙ ap only (go (meant n))
  where
    go : (b : Bool) → cond b (text n ∷ []) [] ++ texts_of meant text n ≡ cond b (text n ∷ texts_of meant text n) (texts_of meant text n)
    go true = refl
    go false = refl

-- agents beside places
par_written : (P Q : Term) (l m : List Text) → texts P ≡ agents_only l → texts Q ≡ places_only m → written (P ∣ Q) ≡ in_order l m
unfolding texts write
par_written P Q l m e f = ap₂ (λ a b. write (together a b)) e f ∙ ap (λ k. in_order k m) (append-nil l)

-- ---- a tree

module _ (t : Tree) (fine : (x : ℕ) → Every Fine (t.unused x)) (p : ℕ) where
  -- what an agent adds to p
  agent_texts : (x : ℕ) → texts (agent_at t p x) ≡ agents_only (cond (acts_in t x p) (row_text [] (t.unused x) ∷ []) [])
  unfolding agent_at acts_in
  agent_texts x = go (told (eqb (t.home x) p)) (told (ltb 0 (length (t.unused x)))) (row_texts_lem (fine x) ∙ ap agents_only (row_listed (t.unused x)))
    where
      go : Told (eqb (t.home x) p) → Told (ltb 0 (length (t.unused x)))
          → texts (row (t.unused x)) ≡ agents_only (cond (ltb 0 (length (t.unused x))) (row_text [] (t.unused x) ∷ []) [])
          → texts (agent_at t p x) ≡ agents_only (cond (acts_in t x p) (row_text [] (t.unused x) ∷ []) [])
      go (yea h) (yea l) e = rw (h, l) (rw l at e)
      go (yea h) (nay l) e = rw (h, l) (rw l at e)
      go (nay h) (yea l) e = unfold texts in rw (h, l)
      go (nay h) (nay l) e = unfold texts in rw (h, l)

  -- all of them
  agents_texts : texts (parallel (agent_at t p) 64) ≡ agents_only (tree_agents t p)
  unfolding tree_agents
  agents_texts = parallel_texts agents_only agents_alone (agent_at t p) (λ x. acts_in t x p) (λ x. row_text [] (t.unused x)) agent_texts 64

  -- and what a place adds, where g is what places hold and text is what is written of it
  module _ (g : ℕ → Term) (text : ℕ → Text) (e : (q : ℕ) → written (g q) ≡ text q) where
    place_texts : (q : ℕ) → texts (place_at t g p q) ≡ places_only (cond (stands_under (t.used q) q (t.parent q) p) (bracketed (t.name q) (text q) ∷ []) [])
    unfolding place_at stands_at stands_under texts
    place_texts q = go (stands_at t q p)
      where
        go : (b : Bool) → texts (cond b (amb (t.name q) (g q)) nil) ≡ places_only (cond b (bracketed (t.name q) (text q) ∷ []) [])
        go true = ap (λ x. places_only (bracketed (t.name q) x ∷ [])) (e q)
        go false = refl

    -- all of them
    places_texts : texts (parallel (place_at t g p) 64) ≡ places_only (tree_places t p text)
    unfolding tree_places
    places_texts = parallel_texts places_only places_alone (place_at t g p) (λ q. stands_under (t.used q) q (t.parent q) p)
        (λ q. bracketed (t.name q) (text q)) place_texts 64

    -- and what is written of p
    level_written : written (level t g p) ≡ in_order (tree_agents t p) (tree_places t p text)
    unfolding level
    level_written = par_written (parallel (agent_at t p) 64) (parallel (place_at t g p) 64) (tree_agents t p) (tree_places t p text) agents_texts places_texts

-- what is written of the contents of a place, so many levels deep
contents_written : (t : Tree) → ((x : ℕ) → Every Fine (t.unused x)) → (depth p : ℕ) → written (contents t depth p) ≡ tree_contents depth t p
unfolding contents tree_contents
contents_written t fine zero p = unfold texts write in_order sorted joined_all in refl
contents_written t fine (suc depth) p = level_written t fine p (contents t depth) (tree_contents depth t) (contents_written t fine depth)

-- the listing of a tree is that of its term
pub tree_listed : (t : Tree) → Formed t → ((x : ℕ) → Every Fine (t.unused x)) → tree_listing t ≡ listed (term t)
unfolding tree_listing listed term or_zero tab
tree_listed t w fine =
    let e : contents t 65 0 ≡ contents t 64 0 = unfold contents in sym (unfolds t w 0 w.floor_used) in
    ap or_zero (sym (contents_written t fine 65 0) ∙ ap written e)
