-- The listing of a cell is that of its tree, so cells with the same tree are alike; and alike is an equivalence. Of every cell.
-- Idea: a cell and its tree differ only where nothing is in use, and there nothing is written. An agent's text goes over sixteen numbers, its
-- row over its unused actions.
use Rattle.std.specs.Prelude.{◌≡◌, true, false, not, ◌&&◌, ltb, leb, length, get_or}
use Rattle.std.proofs.Math.Path.{refl, ap, ap₂, fun_ext}
use Rattle.std.proofs.Common.{sym, ◌∙◌}
use mathlib.Core.List.{List, []}
use Prim.Native.Nat.{ℕ, zero, suc, ◌+◌, ◌-◌, ◌≤◌}
use native.Mathlib.Omega.{arith}
use Rattle.std.proofs.Math.Dec.{eqb}
use borrow.Author.Tests.{leb-true, leb-false, lt-ltb, le-ltb, ltb-true, ltb-false}
use Rattle.table.specs.Base.{tab, fold_up}
use Rattle.table.proofs.BaseLaws.{Told, yea, nay, told, and_left, and_right, length_tab}
use Rattle.table.specs.Cell.{State, no_action, has_action, row_end, unused, has_unused}
use Rattle.table.specs.declared.Action.{Action}
use Rattle.table.specs.declared.Agent.{Agent}
use Rattle.meaning.specs.Text.{ascii, joined}
use Rattle.meaning.specs.Plain.{tree_of}
use Rattle.meaning.specs.Listing.{action_text, is_unused, action_turn, agent_text, lists_in, agent_texts, stands_under, bracketed}
use Rattle.meaning.specs.Listing.{place_texts, in_order, contents_text, listing, Alike}
use Rattle.meaning.specs.TreeListing.{row_text, acts_in, tree_agents, tree_places, tree_contents, tree_listing}
use Rattle.meaning.proofs.TextsLaws.{texts_same}
use Rattle.demands.proofs.Actions.{end_most, end_past}

-- ---- an agent's text is its row of unused actions

-- one action more at the end of a row
row_more : (f : ℕ → Action) (n k : ℕ) (s : List ℕ)
    → row_text s (tab f (suc n) k) ≡ joined (ascii ".") (row_text s (tab f n k)) (action_text (f (k + n)))
unfolding row_text tab
row_more f zero k s = ap (λ (j : ℕ). joined (ascii ".") s (action_text (f j))) (omega arith)
row_more f (suc n) k s = row_more f n (suc k) (joined (ascii ".") s (action_text (f k)))
    ∙ ap (λ (j : ℕ). joined (ascii ".") (row_text (joined (ascii ".") s (action_text (f k))) (tab f n (suc k))) (action_text (f j))) (omega arith)

module _ (a : Agent) where
  abbrev at : ℕ → Action
  at j = get_or a.actions j no_action

  -- the unused actions below n
  abbrev row_to : ℕ → List Action
  row_to n = tab at (n - a.next) a.next

  row_none : (n : ℕ) → n ≤ a.next → [] ≡ row_text [] (row_to n)
  unfolding row_text tab
  row_none n l = let e : n - a.next ≡ 0 = omega arith in rw e

  row_one : (n : ℕ) → a.next ≤ n → joined (ascii ".") (row_text [] (row_to n)) (action_text (at n)) ≡ row_text [] (row_to (suc n))
  row_one n l = sym (ap (λ (k : ℕ). row_text [] (tab at k a.next)) (omega arith) ∙ row_more at (n - a.next) a.next []
      ∙ ap (λ (j : ℕ). joined (ascii ".") (row_text [] (row_to n)) (action_text (at j))) (omega arith))

  -- as far as there are actions, the numbers give the row
  text_to : (n : ℕ) → n ≤ a.count → fold_up (action_turn a) n [] ≡ row_text [] (row_to n)
  unfolding fold_up
  text_to zero l = row_none 0 (omega arith)
  text_to (suc n) l = go (told (leb a.next n)) (text_to n (omega arith))
    where
      go : Told (leb a.next n) → fold_up (action_turn a) n [] ≡ row_text [] (row_to n)
          → action_turn a n (fold_up (action_turn a) n []) ≡ row_text [] (row_to (suc n))
      go (yea e) h = rw (e, lt-ltb n a.count (omega arith), h) (row_one n (leb-true _ _ e))
      go (nay e) h = let m = leb-false a.next n e in rw (e, h) (sym (row_none n (omega arith)) ∙ row_none (suc n) (omega arith))

  -- past the last action nothing more is written
  text_past : (n : ℕ) → a.count ≤ n → fold_up (action_turn a) n [] ≡ row_text [] (row_to a.count)
  unfolding fold_up
  text_past zero l = row_none a.count (omega arith)
  text_past (suc n) l = go (told (leb a.count n)) (told (is_unused a n)) (text_past n)
    where
      go : Told (leb a.count n) → Told (is_unused a n) → (a.count ≤ n → fold_up (action_turn a) n [] ≡ row_text [] (row_to a.count))
          → action_turn a n (fold_up (action_turn a) n []) ≡ row_text [] (row_to a.count)
      go (yea e) (yea u) h = absurd (omega (arith, leb-true a.count n e, ltb-true n a.count (and_right (leb a.next n) (ltb n a.count) u)))
      go (yea e) (nay u) h = rw u (h (leb-true _ _ e))
      go (nay e) _ h = let m = leb-false a.count n e in let k : suc n ≡ a.count = omega arith in
          text_to (suc n) (omega arith) ∙ ap (λ (j : ℕ). row_text [] (row_to j)) k

  pub agent_row : agent_text a ≡ row_text [] (unused a)
  unfolding agent_text unused row_end
  agent_row = go (told (ltb a.count 16))
    where
      go : Told (ltb a.count 16) → agent_text a ≡ row_text [] (unused a)
      go (yea e) = rw e (text_past 16 (omega (arith, ltb-true a.count 16 e)))
      go (nay e) = rw e (text_to 16 (ltb-false a.count 16 e))

  -- it has an unused action exactly if the row is not empty
  row_left : has_unused a ≡ ltb 0 (length (unused a))
  row_left = go (told (ltb a.next 16)) (told (has_action a))
    where
      size : length (unused a) ≡ row_end a.count - a.next
      size = unfold unused in length_tab at (row_end a.count - a.next) a.next

      empty : row_end a.count ≤ a.next → ltb 0 (length (unused a)) ≡ false
      empty l = le-ltb 0 (length (unused a)) (omega (arith, size))

      go : Told (ltb a.next 16) → Told (has_action a) → has_unused a ≡ ltb 0 (length (unused a))
      go (yea k) (yea e) = rw (k, e) (sym (lt-ltb 0 (length (unused a))
          (omega (arith, size, end_past a.count a.next (ltb-true a.next a.count e) (ltb-true a.next 16 k)))))
      go (yea k) (nay e) = rw (k, e) (sym (empty (omega (arith, (end_most a.count).0, ltb-false a.next a.count e))))
      go (nay k) _ = rw k (sym (empty (omega (arith, (end_most a.count).1, ltb-false a.next 16 k))))

-- ---- a cell and its tree

module _ (c : State) where
  -- an agent is listed where the tree has its row,
  pub agent_both : (p x : ℕ) → lists_in (c.given x) (c.agent x) p ≡ acts_in (tree_of c) x p
  unfolding lists_in acts_in tree_of
  agent_both p x = go (told (c.given x))
    where
      go : Told (c.given x) → lists_in (c.given x) (c.agent x) p ≡ acts_in (tree_of c) x p
      go (yea g) = rw (g, row_left (c.agent x))
      go (nay g) = rw g

  -- with the same text
  agent_same : (p x : ℕ) → lists_in (c.given x) (c.agent x) p ≡ true → agent_text (c.agent x) ≡ row_text [] ((tree_of c).unused x)
  unfolding lists_in tree_of
  agent_same p x e = rw (and_left (c.given x) (has_unused (c.agent x) && eqb (c.agent x).home p) e) (agent_row (c.agent x))

  -- so of all the agents of p
  agents_same : (p : ℕ) → agent_texts c p ≡ tree_agents (tree_of c) p
  unfolding agent_texts tree_agents
  agents_same p = texts_same (λ x. lists_in (c.given x) (c.agent x) p) (λ x. acts_in (tree_of c) x p) (λ x. agent_text (c.agent x))
      (λ x. row_text [] ((tree_of c).unused x)) (agent_both p) (agent_same p) 64

  -- a place is listed where the tree has it,
  pub place_both : (p q : ℕ) → stands_under (c.land.used q) q (c.land.place q).parent p ≡ stands_under ((tree_of c).used q) q ((tree_of c).parent q) p
  unfolding stands_under tree_of
  place_both p q = go (told (c.land.used q))
    where
      go : Told (c.land.used q)
          → stands_under (c.land.used q) q (c.land.place q).parent p ≡ stands_under ((tree_of c).used q) q ((tree_of c).parent q) p
      go (yea u) = rw u
      go (nay u) = rw u

  -- with the same name
  place_same : (p q : ℕ) → stands_under (c.land.used q) q (c.land.place q).parent p ≡ true → (c.land.place q).name ≡ (tree_of c).name q
  unfolding stands_under tree_of
  place_same p q e = rw (and_left (c.land.used q) (not (eqb q 0) && eqb (c.land.place q).parent p) e)

  -- so of all the places in p
  places_same : (p : ℕ) (text : ℕ → List ℕ) → place_texts c.land p text ≡ tree_places (tree_of c) p text
  unfolding place_texts tree_places
  places_same p text = texts_same (λ q. stands_under (c.land.used q) q (c.land.place q).parent p)
      (λ q. stands_under ((tree_of c).used q) q ((tree_of c).parent q) p) (λ q. bracketed (c.land.place q).name (text q))
      (λ q. bracketed ((tree_of c).name q) (text q)) (place_both p) (λ q e. ap (λ n. bracketed n (text q)) (place_same p q e)) 64

  -- level by level
  contents_same : (depth p : ℕ) → contents_text depth c p ≡ tree_contents depth (tree_of c) p
  unfolding contents_text tree_contents
  contents_same zero p = refl
  contents_same (suc depth) p = ap₂ in_order (agents_same p)
      (places_same p (contents_text depth c) ∙ ap (tree_places (tree_of c) p) (fun_ext (contents_same depth)))

  -- so the listings are the same
  pub tree_listing_lem : listing c ≡ tree_listing (tree_of c)
  unfolding listing tree_listing
  tree_listing_lem = rw (contents_same 65 0)

-- "Two layouts are taken as alike when their listings are equal": so are two cells with the same tree
pub same_tree_alike : (c d : State) → tree_of c ≡ tree_of d → Alike c d
same_tree_alike c d e = tree_listing_lem c ∙ ap tree_listing e ∙ sym (tree_listing_lem d)

-- ---- alike is an equivalence, and SameListings says which: that of terms

pub alike_itself : (c : State) → Alike c c
alike_itself c = refl

pub alike_turned : (c d : State) → Alike c d → Alike d c
alike_turned c d e = sym e

pub alike_on : (b c d : State) → Alike b c → Alike c d → Alike b d
alike_on b c d e f = e ∙ f
