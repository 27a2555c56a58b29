-- Rows of sixteen actions: what is copied into one leaves the others as they were, and a listed agent's row makes its text. Assumes nothing.
-- Idea: an action before the first unused one, or past the last, joins nothing.
use Rattle.std.specs.Prelude.{◌≡◌, refl, ◌≢◌, ◌⊎◌, Bool, ◌&&◌, cond, ltb, leb, get_or, set}
use Rattle.std.proofs.Common.{sym, ap, ap₂, ◌∙◌, subst, inl, inr, length-set, get_or-set_same, get_or-set_other, le-leb, lt-ltb, le-ltb, leb-true, leb-false, ltb-true, ltb-false}
use Rattle.std.proofs.Math.Bool.{true, false}
use mathlib.Core.List.{List, [], ◌++◌}
use Prim.Native.Nat.{ℕ, ◌+◌, ◌*◌, ◌<◌, ◌≤◌, zero-le}
use native.Mathlib.Omega.{arith}
use Rattle.std.proofs.Math.ListN.{length}
use Rattle.std.proofs.lemmas.Bool.{lt-leb}
use Rattle.sets.specs.Set.{member}
use Rattle.sets.specs.declared.Set.{Set}
use Rattle.table.specs.Base.{fold_up}
use Rattle.table.proofs.BaseLaws.{Told, yea, nay, told, eq?, clash, cond_cong, and_left, and_right}
use Rattle.table.specs.Cell.{no_agent, has_unused}
use Rattle.table.specs.declared.Agent.{Agent}
use Rattle.meaning.specs.Text.{decimal, joined}
use Rattle.meaning.specs.Listing.{kind_text, action_text, agent_text}
use Rattle.text.specs.Wrote.{least}
use Rattle.text.proofs.TextLaws.{join, least_le}
use Rattle.lister.specs.Sheet.{dot}
use Rattle.lister.specs.Listed.{is_listed}
use Rattle.lister.proofs.PartLaws.{skipped}
use Rattle.walked.specs.ActionRows.{bounds_of, first_of, end_of, kind_of, number_of, Copied, Rows, action_on, row_from, row_text}
use Rattle.walked.proofs.TurnByTurn.{fold_ext}

-- ---- copies

pub copied_none : (f : ℕ → ℕ) (row first : ℕ) (l : List ℕ) → Copied f row first first l l
copied_none f row first l = record { inside = λ j a b. absurd (omega arith); outside = λ i h. refl; long = refl }

pub copied_more : {f : ℕ → ℕ} {row first j v : ℕ} {b l : List ℕ} → Copied f row first j b l → first ≤ j → row + j < length l → v ≡ f j → Copied f row first (j + 1) b (set l (row + j) v)
copied_more {f} {row} {first} {j} {v} {b} {l} c h k e = record {
  inside = λ i a m. go i (eq? i j) a m;
  outside = λ i o. get_or-set_other l (row + j) i v 0 (away i o) ∙ c.outside i (wider i o);
  long = length-set l (row + j) v ∙ c.long;
}
  where
    go : (i : ℕ) → (i ≡ j) ⊎ (i ≢ j) → first ≤ i → i < j + 1 → get_or (set l (row + j) v) (row + i) 0 ≡ f i
    go i (inl z) a m = ap (λ (n : ℕ). get_or (set l (row + j) v) (row + n) 0) z ∙ get_or-set_same l (row + j) v 0 k ∙ e ∙ ap f (sym z)
    go i (inr z) a m = get_or-set_other l (row + j) (row + i) v 0 (λ q. z (omega arith)) ∙ c.inside i a (omega arith)

    away : (i : ℕ) → (i < row + first) ⊎ (row + (j + 1) ≤ i) → i ≢ row + j
    away i (inl o) q = omega arith
    away i (inr o) q = omega arith

    wider : (i : ℕ) → (i < row + first) ⊎ (row + (j + 1) ≤ i) → (i < row + first) ⊎ (row + j ≤ i)
    wider i (inl o) = inl o
    wider i (inr o) = inr (omega arith)

-- the loop ends where it should, or it made no turn
pub copied_all : {f : ℕ → ℕ} {row first j end last : ℕ} {b l : List ℕ} → Copied f row first j b l → end ≤ j → (j ≤ end) ⊎ (j ≡ first) → end ≡ last → Copied f row first last b l
copied_all {f} {row} {first} {j} {end} {last} {b} {l} c h o e = subst (λ (z : ℕ). Copied f row first z b l) e (record { inside = λ i a m. c.inside i a (omega arith); outside = λ i q. go i q o; long = c.long })
  where
    go : (i : ℕ) → (i < row + first) ⊎ (row + end ≤ i) → (j ≤ end) ⊎ (j ≡ first) → get_or l i 0 ≡ get_or b i 0
    go i (inl q) _ = c.outside i (inl q)
    go i (inr q) (inl z) = c.outside i (inr (omega arith))
    go i (inr q) (inr z) = side (told (ltb i (row + first)))
      where
        side : Told (ltb i (row + first)) → get_or l i 0 ≡ get_or b i 0
        side (yea t) = c.outside i (inl (ltb-true i (row + first) t))
        side (nay t) = c.outside i (inr (let k = ltb-false i (row + first) t in omega arith))

-- ---- the rows of agents, one after another

module _ {given : Set} {crew : List Agent} where
  pub rows_none : (bounds kinds numbers : List ℕ) → Rows given crew bounds kinds numbers 0
  rows_none bounds kinds numbers = record {
    bound = λ x l e. absurd (omega arith);
    kind = λ x j l e a b. absurd (omega arith);
    number = λ x j l e a b. absurd (omega arith);
  }

  -- numbers of no listed agent
  pub rows_skip : {bounds kinds numbers : List ℕ} {i : ℕ} (m : ℕ) → ((j : ℕ) → i ≤ j → j < m → is_listed given crew j ≡ false)
      → Rows given crew bounds kinds numbers i → Rows given crew bounds kinds numbers m
  rows_skip {bounds} {kinds} {numbers} {i} m h r = record {
    bound = λ x l e. r.bound x (below x l e) e;
    kind = λ x j l e. r.kind x j (below x l e) e;
    number = λ x j l e. r.number x j (below x l e) e;
  }
    where
      below : (x : ℕ) → x < m → is_listed given crew x ≡ true → x < i
      below x l e = go (told (ltb x i))
        where
          go : Told (ltb x i) → x < i
          go (yea t) = ltb-true x i t
          go (nay t) = clash e (h x (ltb-false x i t) l)

  -- the row of one agent more
  module _ {bounds kinds numbers ks ns : List ℕ} {m : ℕ} (r : Rows given crew bounds kinds numbers m) (room : m < length bounds)
      (ck : Copied (kind_of (get_or crew m no_agent)) (16 * m) (get_or crew m no_agent).next (least (get_or crew m no_agent).count 16) kinds ks)
      (cn : Copied (number_of (get_or crew m no_agent)) (16 * m) (get_or crew m no_agent).next (least (get_or crew m no_agent).count 16) numbers ns) where
    -- the word that one turn sets
    set_to : {word : ℕ} → word ≡ bounds_of (get_or crew m no_agent) → (x : ℕ) → x < m + 1 → is_listed given crew x ≡ true → get_or (set bounds m word) x 0 ≡ bounds_of (get_or crew x no_agent)
    set_to {word} q x k e = go (eq? x m)
      where
        go : (x ≡ m) ⊎ (x ≢ m) → get_or (set bounds m word) x 0 ≡ bounds_of (get_or crew x no_agent)
        go (inl z) = ap (λ (i : ℕ). get_or (set bounds m word) i 0) z ∙ get_or-set_same bounds m word 0 room ∙ q ∙ ap (λ (i : ℕ). bounds_of (get_or crew i no_agent)) (sym z)
        go (inr z) = get_or-set_other bounds m x word 0 z ∙ r.bound x (omega arith) e

    -- the values that one turn copies
    copied_to : (old new : List ℕ) (f : Agent → ℕ → ℕ) → Copied (f (get_or crew m no_agent)) (16 * m) (get_or crew m no_agent).next (least (get_or crew m no_agent).count 16) old new
        → ((x j : ℕ) → x < m → is_listed given crew x ≡ true → (get_or crew x no_agent).next ≤ j → j < least (get_or crew x no_agent).count 16 → get_or old (16 * x + j) 0 ≡ f (get_or crew x no_agent) j)
        → (x j : ℕ) → x < m + 1 → is_listed given crew x ≡ true → (get_or crew x no_agent).next ≤ j → j < least (get_or crew x no_agent).count 16 → get_or new (16 * x + j) 0 ≡ f (get_or crew x no_agent) j
    copied_to old new f c o x j k e a b = go (eq? x m)
      where
        go : (x ≡ m) ⊎ (x ≢ m) → get_or new (16 * x + j) 0 ≡ f (get_or crew x no_agent) j
        go (inl z) =
            let p = ap (λ (i : ℕ). (get_or crew i no_agent).next) z in
            let q = ap (λ (i : ℕ). least (get_or crew i no_agent).count 16) z in
            ap (λ (i : ℕ). get_or new (16 * i + j) 0) z ∙ c.inside j (omega arith) (omega arith) ∙ ap (λ (i : ℕ). f (get_or crew i no_agent) j) (sym z)
        go (inr z) = c.outside (16 * x + j) (inl (omega (arith, (least_le _ (get_or crew x no_agent).count 16 refl).1))) ∙ o x j (omega arith) e a b

    pub rows_more : {word : ℕ} → word ≡ bounds_of (get_or crew m no_agent) → Rows given crew (set bounds m word) ks ns (m + 1)
    rows_more q = record {
      bound = set_to q;
      kind = copied_to kinds ks kind_of ck r.kind;
      number = copied_to numbers ns number_of cn r.number;
    }

-- ---- the text of a row

module _ (kinds numbers : List ℕ) (row first end : ℕ) where
  -- the action at j is one of the row's
  abbrev pub in_row : ℕ → Bool
  in_row j = leb first j && ltb j end

  before_first : (j : ℕ) → j < first → in_row j ≡ false
  before_first j l = ap (λ (b : Bool). b && ltb j end) (lt-leb first j l)

  past_last : (j : ℕ) → end ≤ j → in_row j ≡ false
  past_last j l = ap (λ (b : Bool). leb first j && b) (le-ltb j end l) ∙ none (leb first j)
    where
      none : (b : Bool) → (b && false) ≡ false
      none true = refl
      none false = refl

  pub one_unused : (j : ℕ) → first ≤ j → j < end → in_row j ≡ true
  one_unused j l m = rw (le-leb first j l, lt-ltb j end m)

  -- the text before action j
  abbrev pub text_to : ℕ → List ℕ
  text_to j = fold_up (join dot in_row (action_on kinds numbers row) []) j []

  -- nothing is joined before the first action
  pub text_start : [] ≡ text_to first
  text_start = unfold fold_up in skipped dot in_row (action_on kinds numbers row) [] 0 first zero-le (λ k _ l. before_first k l)

  -- nothing is joined past the last
  pub text_end : (j : ℕ) → end ≤ j → end ≤ 16 → (j ≤ end) ⊎ (j ≡ first) → text_to j ≡ text_to 16
  text_end j l m h = go (told (leb j 16))
    where
      go : Told (leb j 16) → text_to j ≡ text_to 16
      go (yea p) = skipped dot in_row (action_on kinds numbers row) [] j 16 (leb-true j 16 p) (λ k a _. past_last k (omega arith))
      go (nay p) = sym (skipped dot in_row (action_on kinds numbers row) [] 16 j (omega (arith, leb-false j 16 p)) (λ k _ a. before_first k (far h k a)))
        where
          far : (j ≤ end) ⊎ (j ≡ first) → (k : ℕ) → k < j → k < first
          far (inl b) k a = absurd (omega (arith, leb-false j 16 p))
          far (inr b) k a = omega arith

-- no row goes beyond its sixteenth action
row_cut : (kinds numbers : List ℕ) (row first end e : ℕ) → e ≡ least end 16 → row_from kinds numbers row first e ≡ row_from kinds numbers row first end
unfolding row_from least
row_cut kinds numbers row first end e q = fold_ext _ _ 16 [] (λ j l s. ap (λ (b : Bool). cond (leb first j && b) (joined dot s (action_on kinds numbers row j)) s) (go j l (told (ltb end 16))))
  where
    go : (j : ℕ) → j < 16 → Told (ltb end 16) → ltb j e ≡ ltb j end
    go j l (yea t) = let z : e ≡ end = q ∙ rw t in ap (ltb j) z
    go j l (nay t) = let z : e ≡ 16 = q ∙ rw t in ap (ltb j) z ∙ lt-ltb j 16 l ∙ sym (lt-ltb j end (omega (arith, ltb-false end 16 t)))

-- so a row is laid out by the word of where it begins and ends
pub row_laid : (kinds numbers : List ℕ) (row word : ℕ) {b e : ℕ} → b ≡ word → e ≡ least (end_of b) 16 → row_from kinds numbers row (first_of b) e ≡ row_from kinds numbers row (first_of word) (end_of word)
row_laid kinds numbers row word {b} {e} p q =
    ap (λ (z : ℕ). row_from kinds numbers row (first_of z) e) p ∙ row_cut kinds numbers row (first_of word) (end_of word) e (q ∙ ap (λ (z : ℕ). least (end_of z) 16) p)

-- unused actions begin at one of the sixteen
unused_early : (a : Agent) → has_unused a ≡ true → a.next < 16
unused_early a e = ltb-true a.next 16 (and_left (ltb a.next 16) (ltb a.next a.count) e)

-- the row of a listed agent makes its text
pub rows_text : {given : Set} {crew : List Agent} {bounds kinds numbers : List ℕ} → Rows given crew bounds kinds numbers 64
    → (x : ℕ) → x < 64 → is_listed given crew x ≡ true → row_text kinds numbers bounds x ≡ agent_text (get_or crew x no_agent)
unfolding row_from agent_text action_text
rows_text {given} {crew} {bounds} {kinds} {numbers} r x l e =
    ap₂ (λ (f t : ℕ). row_from kinds numbers (16 * x) f t) first end
    ∙ fold_ext _ _ 16 [] (λ j m s. cond_cong (leb a.next j && ltb j a.count) _ _ s (λ q. ap (joined dot s)
    (ap₂ (λ (k n : ℕ). kind_text k ++ decimal n) (r.kind x j l e (from j q) (to j m q)) (r.number x j l e (from j q) (to j m q)))))
  where
    a : Agent
    a = get_or crew x no_agent

    early : (get_or crew x no_agent).next < 16
    early = unused_early (get_or crew x no_agent) (and_right (member given x) (has_unused (get_or crew x no_agent)) e)

    first : first_of (get_or bounds x 0) ≡ (get_or crew x no_agent).next
    first = omega (arith, r.bound x l e, early)

    end : end_of (get_or bounds x 0) ≡ (get_or crew x no_agent).count
    end = omega (arith, r.bound x l e, early)

    from : (j : ℕ) → (leb (get_or crew x no_agent).next j && ltb j (get_or crew x no_agent).count) ≡ true → (get_or crew x no_agent).next ≤ j
    from j q = leb-true _ _ (and_left (leb (get_or crew x no_agent).next j) (ltb j (get_or crew x no_agent).count) q)

    to : (j : ℕ) → j < 16 → (leb (get_or crew x no_agent).next j && ltb j (get_or crew x no_agent).count) ≡ true → j < least (get_or crew x no_agent).count 16
    to j m q = both (told (ltb (get_or crew x no_agent).count 16))
      where
        low : j < (get_or crew x no_agent).count
        low = ltb-true _ _ (and_right (leb (get_or crew x no_agent).next j) (ltb j (get_or crew x no_agent).count) q)

        both : Told (ltb (get_or crew x no_agent).count 16) → j < least (get_or crew x no_agent).count 16
        both (yea t) = unfold least in rw t low
        both (nay t) = unfold least in rw t m
