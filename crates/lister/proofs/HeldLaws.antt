-- Texts that lie in a buffer are its parts, in a copy too, and a row of their numbers in order tells the texts in order. Assumes nothing.
-- Idea: a part ends where the texts up to it end, and starts after the bar that follows those before it.
use Rattle.std.specs.Prelude.{◌≡◌, ◌≢◌, ◌⊎◌, ℕ, zero, suc, ◌+◌, ◌-◌, ◌≤◌, ◌<◌, drop}
use Rattle.std.proofs.Math.Path.{refl, sym, ap, ap₂}
use Rattle.std.proofs.Common.{◌∙◌, inl, inr, arith, length-take-le, take-take, take-add}
use mathlib.Core.List.{List, [], ◌∷◌, ◌++◌, map, append_assoc}
use Rattle.std.proofs.Math.ListN.{length, get_or, take, length-append}
use Rattle.std.proofs.Math.Seq.{take_at, drop_at}
use Rattle.table.proofs.BaseLaws.{eq?}
use Rattle.meaning.specs.Text.{gap, joined, joined_all, overlay}
use Rattle.meaning.specs.Sorted.{sorted}
use Rattle.meaning.proofs.SortedLaws.{Text}
use Rattle.meaning.proofs.TextsLaws.{joined_last}
use Rattle.meaning.specs.Every.{every_none, every_more, Every}
use Rattle.text.proofs.TextLaws.{over_start}
use Rattle.lister.specs.Sheet.{bar}
use Rattle.lister.specs.Marked.{barred, grouped, Filled, none, more, Ends, Marked}
use Rattle.lister.specs.Cuts.{start_of, part_at, laid, counted, in_row, Inside, Row, Rewritable}
use Rattle.lister.proofs.MarkedLaws.{gap_bar, bar_length, filled_some, grouped_length}

-- texts lie at the start of a buffer, joined by bars
pub record Held (texts : List Text) (b : List ℕ) : Type 0 where
  pub room : length (barred texts) ≤ length b
  pub start : take (length (barred texts)) b ≡ barred texts

-- ---- each of them is a part

-- a text starts after those before it and a bar
starts : {marks : List ℕ} {earlier : List Text} → Filled earlier → Ends marks earlier → length (barred earlier ++ gap bar (barred earlier)) ≡ start_of marks (length earlier)
unfolding barred gap start_of
starts none none = refl
starts (more {x} {earlier} l f) (more e g) =
    let h = filled_some x l f in
    let n = ap length (gap_bar (barred (x ∷ earlier)) h) in
    length-append (barred (x ∷ earlier)) (gap bar (barred (x ∷ earlier))) ∙ omega (arith, bar_length)

module _ {marks b : List ℕ} where
  module _ {x : Text} {earlier : List Text} (f : Filled earlier) (g : Ends marks earlier) (h : Held (x ∷ earlier) b) where
    -- how long they are with it
    longer : length (barred (x ∷ earlier)) ≡ start_of marks (length earlier) + length x
    unfolding barred
    longer = length-append (barred earlier ++ gap bar (barred earlier)) x ∙ ap (λ (k : ℕ). k + length x) (starts f g)

    -- those before it lie there too
    held_earlier : Held earlier b
    unfolding barred
    held_earlier =
        let P = barred earlier in
        let G = gap bar (barred earlier) in
        let W = (barred earlier ++ gap bar (barred earlier)) ++ x in
        let l : length P ≤ length W = omega (arith, length-append (P ++ G) x, length-append P G) in
        record {
          room = omega (arith, h.room);
          start = sym (take-take (length P) (length W) b l) ∙ ap (take (length P)) (h.start ∙ append_assoc P G x) ∙ take_at P (G ++ x) (length P) refl;
        }

    -- it is the part that ends there
    held_part : get_or marks (length earlier) 0 ≡ length (barred (x ∷ earlier)) → part_at marks b (length earlier) ≡ x
    unfolding part_at barred
    held_part e =
        let s = start_of marks (length earlier) in
        let n : get_or marks (length earlier) 0 - s ≡ length x = omega (arith, longer) in
        let m : s + length x ≡ length (barred (x ∷ earlier)) = sym longer in
        ap (λ (k : ℕ). take k (drop s b)) n
        ∙ sym (drop_at (take s b) (take (length x) (drop s b)) s (length-take-le s b (omega (arith, h.room))))
        ∙ ap (drop s) (sym (take-add s (length x) b) ∙ ap (λ (k : ℕ). take k b) m ∙ h.start)
        ∙ drop_at (barred earlier ++ gap bar (barred earlier)) x s (starts f g)

  -- so are all of them
  held_laid : {texts : List Text} → Filled texts → Ends marks texts → Held texts b → laid (part_at marks b) (length texts) ≡ texts
  unfolding laid
  held_laid none none h = refl
  held_laid (more l f) (more e g) h = ap₂ ◌∷◌ (held_part f g h e) (held_laid f g (held_earlier f g h))

  -- and each lies in the buffer
  held_inside : {texts : List Text} → Filled texts → Ends marks texts → Held texts b → (i : ℕ) → i < length texts
      → (start_of marks i ≤ get_or marks i 0) × (get_or marks i 0 ≤ length b)
  held_inside none none h i l = absurd (omega arith)
  held_inside (more {x} {earlier} p f) (more e g) h i l = go (eq? i (length earlier)) (held_inside f g (held_earlier f g h) i)
    where
      go : (i ≡ length earlier) ⊎ (i ≢ length earlier) → (i < length earlier → (start_of marks i ≤ get_or marks i 0) × (get_or marks i 0 ≤ length b))
          → (start_of marks i ≤ get_or marks i 0) × (get_or marks i 0 ≤ length b)
      go (inl q) r = rw q (omega (arith, longer f g h), omega (arith, h.room))
      go (inr q) r = r (omega arith)

-- ---- of texts that are marked

module _ {texts : List Text} {marks buf : List ℕ} {n : ℕ} (m : Marked texts marks n buf) where
  pub marked_held : Held texts buf
  marked_held = record { room = m.room; start = ap (take (length (barred texts))) m.text ∙ over_start (barred texts) buf m.room }

  pub marked_laid : {b : List ℕ} → Held texts b → laid (part_at marks b) n ≡ texts
  marked_laid {b} h = ap (laid (part_at marks b)) m.many ∙ held_laid m.filled m.ends h

  pub marked_inside : {b : List ℕ} → Held texts b → Inside marks n b
  marked_inside h = record {
    few = m.few;
    after = λ i l. (held_inside m.filled m.ends h i (omega (arith, m.many))).0;
    within = λ i l. (held_inside m.filled m.ends h i (omega (arith, m.many))).1;
  }

  -- where the last ends
  pub marked_last : 0 < n → get_or marks (n - 1) 0 ≡ length (barred texts)
  marked_last l = go m.ends m.many
    where
      go : {ts : List Text} → Ends marks ts → n ≡ length ts → get_or marks (n - 1) 0 ≡ length (barred ts)
      go none e = absurd (omega arith)
      go (more {earlier} q g) e = let z : n - 1 ≡ length earlier = omega arith in ap (λ (k : ℕ). get_or marks k 0) z ∙ q

-- ---- texts that came in order

joined_counted : (text : ℕ → Text) (n : ℕ) → joined_all bar [] (counted text n) ≡ barred (laid text n)
unfolding joined_all counted laid barred
joined_counted text zero = refl
joined_counted text (suc n) = joined_last bar [] (counted text n) (text n) ∙ ap (λ (s : Text). joined bar s (text n)) (joined_counted text n)

-- nothing is to be done
pub kept_arranged : {texts : List Text} {marks buf : List ℕ} {n : ℕ} → Marked texts marks n buf
    → sorted (laid (part_at marks buf) n) ≡ counted (part_at marks buf) n → buf ≡ overlay (grouped texts) buf
unfolding grouped
kept_arranged {texts} {marks} {buf} {n} m e =
    let q = marked_laid m (marked_held m) in
    m.text ∙ ap (λ (t : Text). overlay t buf) (sym (ap (λ (l : List Text). joined_all bar [] (sorted l)) (sym q) ∙ ap (joined_all bar []) e
    ∙ joined_counted (part_at marks buf) n ∙ ap barred q))

-- ---- a copy

-- the first bytes of a buffer, copied over those of another
pub copied : {texts : List Text} {buf xs : List ℕ} {r : ℕ} (rest : List ℕ) → Held texts buf → r ≡ length (barred texts) → xs ≡ take r buf → Held texts (xs ++ rest)
copied {texts} {buf} rest h e q =
    let t = q ∙ ap (λ (k : ℕ). take k buf) e ∙ h.start in
    rw t (record { room = omega (arith, length-append (barred texts) rest); start = take_at (barred texts) rest (length (barred texts)) refl })

-- two functions that tell the same texts
laid_same : (text other : ℕ → Text) (n : ℕ) → laid text n ≡ laid other n → (k : ℕ) → k < n → text k ≡ other k
unfolding laid
laid_same text other zero e k l = absurd (omega arith)
laid_same text other (suc n) e k l = go (eq? k n) (laid_same text other n (ap (drop 1) e) k)
  where
    go : (k ≡ n) ⊎ (k ≢ n) → (k < n → text k ≡ other k) → text k ≡ other k
    go (inl q) r = ap text q ∙ ap (λ (s : List Text). get_or s 0 []) e ∙ sym (ap other q)
    go (inr q) r = r (omega arith)

row_same : (text other : ℕ → Text) {n : ℕ} → ((k : ℕ) → k < n → text k ≡ other k) → {l : List ℕ} → Every (λ k. k < n) l → map text l ≡ map other l
row_same text other h every_none = refl
row_same text other h (every_more {x} p e) = ap₂ ◌∷◌ (h x p) (row_same text other h e)

module _ {texts : List Text} {marks buf row spare : List ℕ} {n : ℕ} (m : Marked texts marks n buf) (o : Row marks buf n row) (h : Held texts spare) where
  -- the parts of the copy in the order of the row
  row_grouped : joined_all bar [] (in_row (part_at marks spare) n row) ≡ grouped texts
  unfolding grouped
  row_grouped =
      let p = marked_laid m h in
      let q = marked_laid m (marked_held m) in
      ap (joined_all bar []) (row_same (part_at marks spare) (part_at marks buf) (laid_same (part_at marks spare) (part_at marks buf) n (p ∙ sym q)) o.low ∙ o.order ∙ ap sorted q)

  -- they have room
  pub copy_rewritable : length buf ≤ 18446744073709551615 → Rewritable marks spare n row buf
  copy_rewritable l =
      let e = ap length row_grouped ∙ grouped_length m.filled in
      record { inside = marked_inside m h; full = o.full; low = o.low; fits = record { room = omega (arith, m.room); placed = omega arith } }

  -- and are the texts in byte order
  pub copy_arranged : {after : List ℕ} → after ≡ overlay (joined_all bar [] (in_row (part_at marks spare) n row)) buf → after ≡ overlay (grouped texts) buf
  copy_arranged e = e ∙ ap (λ (t : Text). overlay t buf) row_grouped

-- one text, or none, is in order
pub few_arranged : {texts : List Text} {marks : List ℕ} {n : ℕ} {b : List ℕ} → Marked texts marks n b → n < 2 → b ≡ overlay (grouped texts) b
unfolding grouped barred joined_all sorted gap overlay
few_arranged {texts = []} m l = refl
few_arranged {texts = x ∷ []} m l = m.text
few_arranged {texts = x ∷ (y ∷ ts)} m l = absurd (omega (arith, m.many, l))
