-- The checker's loop, its start and its end; and what the load answered before it.
use Rattle.std.proofs.Math.Path.{◌≡◌, refl, sym, ap, ap₂, subst}
use Rattle.std.proofs.Common.{◌∙◌, not-suc-le-zero, le_of_suc-le-suc, arith, eq-eqb, ne_eqb}
use Rattle.std.specs.Prelude.{◌≢◌, Bool, true, false, ℕ, zero, suc, ◌+◌, ◌*◌, ◌/◌, ◌%◌, ◌≤◌, ◌<◌, eqb, length, get_or, drop, Ok, Err}
use Rattle.std.proofs.Math.Bool.{cond}
use mathlib.Core.List.{List, [], ◌∷◌}
use Rattle.table.proofs.BaseLaws.{Told, yea, nay, told}
use Rattle.table.specs.Cell.{State, cell_of, table_of}
use Rattle.table.proofs.CellLaws.{sized_table}
use Rattle.table.specs.declared.Cell.{Cell}
use Rattle.meaning.specs.Calculus.{Tree}
use Rattle.meaning.specs.File.{Load, accepted, refused, load, loaded, load_of}
use Rattle.meaning.specs.Listing.{listing}
use Rattle.meaning.specs.Plain.{tree_of}
use Rattle.meaning.specs.declared.Loaded.{Loaded}
use Rattle.meaning.specs.Answers.{Verdict, Accepted, Rejected}
use Rattle.calculus.specs.Formed.{Formed}
use Rattle.demands.proofs.AgreesLaws.{tree_formed}
use Rattle.demands.specs.Invariant.{Fit}
use Rattle.demands.proofs.Layouts.{tree_listing_lem}
use Rattle.demands.proofs.LoadingFile.{accepted_fresh}
use Rattle.demands.proofs.LoadingLaws.{fresh_inv, fresh_forth}
use Rattle.demands.proofs.ReadingLaws.{agent_given}
use Rattle.text.specs.Same.{same_text}
use Rattle.trail.specs.declared.Finding.{Finding}
use Rattle.trail.specs.declared.Finding.TheVariants.{Upheld, Denied, BadFile}
use Rattle.trail.specs.Trail.{allows, moved, why_not, odd_byte, other_layout, judged, finding_of, finding}
use Rattle.checker.specs.declared.Played.{Played}
use Rattle.checker.specs.OnTable.{Ready, Makes, Denies, finding_on, by_listing, Stops, Plays}

-- ---- a trail from move n on

two_more : (k : ℕ) (s : List ℕ) → suc k < length s → drop k s ≡ get_or s k 0 ∷ get_or s (suc k) 0 ∷ drop (suc (suc k)) s
two_more k [] l = absurd (not-suc-le-zero l)
two_more zero (x ∷ []) l = absurd (not-suc-le-zero (le_of_suc-le-suc l))
two_more zero (x ∷ y ∷ s) l = refl
two_more (suc k) (x ∷ s) l = two_more k s (le_of_suc-le-suc l)

next_move : (n : ℕ) (s : List ℕ) → 2 * n + 1 < length s → drop (2 * n) s ≡ get_or s (2 * n) 0 ∷ get_or s (2 * n + 1) 0 ∷ drop (2 * (n + 1)) s
next_move n s l =
    let one : suc (2 * n) ≡ 2 * n + 1 = omega arith in
    let two : suc (suc (2 * n)) ≡ 2 * (n + 1) = omega arith in
    two_more (2 * n) s (omega arith) ∙ ap₂ (λ (i j : ℕ). get_or s (2 * n) 0 ∷ get_or s i 0 ∷ drop j s) one two

none_left : (k : ℕ) (s : List ℕ) → length s ≤ k → drop k s ≡ []
none_left zero [] l = refl
none_left zero (x ∷ s) l = absurd (not-suc-le-zero l)
none_left (suc k) [] l = refl
none_left (suc k) (x ∷ s) l = none_left k s (le_of_suc-le-suc l)

-- a move that is denied is denied for a reason
pub denied_why : {t : Cell} {x b reason : ℕ} → Denies t x b reason → reason ≢ 0
denied_why {t} {x} m z = go (told (eqb (length ((tree_of (cell_of t)).unused x)) 0)) (sym m.why ∙ z)
  where
    go : Told (eqb (length ((tree_of (cell_of t)).unused x)) 0) → why_not (tree_of (cell_of t)) x ≡ 0 → ⊥
    go (yea e) n = let k : ◌≡◌ {A = ℕ} 2 0 = rw e at n in omega arith
    go (nay e) n = let k : ◌≡◌ {A = ℕ} 1 0 = rw e at n in omega arith

-- before each turn: n moves are made, the table is ready, and what is left decides the whole
pub record Left (whole : Finding) (trail text : List ℕ) (d : Cell) (n : ℕ) : Type 0 where
  pub ready : Ready d
  pub rest : judged n (tree_of (cell_of d)) (drop (2 * n) trail) text ≡ whole

module _ {whole : Finding} {trail text : List ℕ} {d : Cell} {n : ℕ} (l : Left whole trail text d n) where
  -- a move is left
  module _ (room : 2 * n + 1 < length trail) where
    abbrev x : ℕ
    x = get_or trail (2 * n) 0

    abbrev b : ℕ
    b = get_or trail (2 * n + 1) 0

    abbrev tree : Tree
    tree = tree_of (cell_of d)

    turn_is : cond (allows tree x b) (judged (n + 1) (moved tree x b) (drop (2 * (n + 1)) trail) text) (Denied n (why_not tree x)) ≡ whole
    unfolding judged
    turn_is = sym (ap (λ (s : List ℕ). judged n tree s text) (next_move n trail room)) ∙ l.rest

    pub left_more : {u : Cell} → Makes d x b u → Left whole trail text u (n + 1)
    left_more m = record {
      ready = m.ready;
      rest = ap (λ (t : Tree). judged (n + 1) t (drop (2 * (n + 1)) trail) text) m.tree ∙ (rw m.allowed at turn_is);
    }

    pub left_denied : {reason : ℕ} → Denies d x b reason → Denied n reason ≡ whole
    left_denied m = ap (Denied n) m.why ∙ (rw m.refused at turn_is)

  -- nothing is left: the listing decides
  pub left_none : length trail ≤ 2 * n → by_listing d n text ≡ whole
  unfolding judged
  left_none m = ap (λ (s : List ℕ). cond (same_text text s) Upheld (Denied n other_layout)) (tree_listing_lem (cell_of d))
      ∙ sym (ap (λ (s : List ℕ). judged n (tree_of (cell_of d)) s text) (none_left (2 * n) trail m)) ∙ l.rest

-- the listing is the text, or it is not
module _ (t : Cell) (made : ℕ) (text : List ℕ) {whole : Finding} (e : by_listing t made text ≡ whole) (o : Bool) (says : o ≡ same_text text (listing (cell_of t))) where
  pub listing_same : o ≡ true → Upheld ≡ whole
  listing_same y = rw (sym says ∙ y) at e

  pub listing_other : o ≡ false → Denied made other_layout ≡ whole
  listing_other y = rw (sym says ∙ y) at e

-- ---- an odd trail, and an even one

pub odd_found : (c : Cell) (trail text : List ℕ) → length trail % 2 ≢ 0 → Denied (length trail / 2) odd_byte ≡ finding_on c trail text
unfolding finding_on
odd_found c trail text o = sym (rw (ne_eqb (length trail % 2) 0 o))

pub even_found : (c : Cell) (trail text : List ℕ) → length trail % 2 ≡ 0 → judged 0 (tree_of (cell_of c)) trail text ≡ finding_on c trail text
unfolding finding_on
even_found c trail text o = sym (rw (eq-eqb (length trail % 2) 0 o))

-- ---- what the load answered

-- a loaded table is ready
loaded_ready : (s : List ℕ) (c : State) → load s ≡ accepted c → Ready (table_of c)
loaded_ready s c e =
    let f = accepted_fresh s c e in
    let i = (fresh_inv c f).sound in
    record {
      sized = sized_table c;
      formed = subst (λ (d : State). Formed (tree_of d)) (sym (fresh_forth c f)) (tree_formed c i);
      fit = subst (λ (d : State). (x : ℕ) → d.given x ≡ true → Fit (d.agent x)) (sym (fresh_forth c f)) (λ x g. subst Fit (agent_given c x g) (i.fit x));
    }

-- the number and the offset with which a load is refused
number_of : Verdict → ℕ
number_of (Ok u) = 0
number_of (Err r) = r.number

offset_of : Verdict → ℕ
offset_of (Ok u) = 0
offset_of (Err r) = r.offset

module _ (t : Cell) (s : List ℕ) (z : Loaded) (e : z ≡ load_of t s) where
  -- an accepted one: its table is ready, and the finding is that on it
  pub accepted_ready : z.verdict ≡ Accepted → Ready z.cell
  unfolding load_of loaded
  accepted_ready v = go (load s) refl
    where
      go : (l : Load) → load s ≡ l → Ready z.cell
      go (accepted c) f = subst Ready (sym (ap (λ (y : Loaded). y.cell) (e ∙ ap (loaded t) f))) (loaded_ready s c f)
      go (refused n o) f = let q : z.verdict ≡ Rejected n o = ap (λ (y : Loaded). y.verdict) (e ∙ ap (loaded t) f) in
          let k : ◌≡◌ {A = ℕ} 0 1 = cc in absurd (omega arith)

  pub accepted_found : (trail text : List ℕ) → z.verdict ≡ Accepted → finding_on z.cell trail text ≡ finding s trail text
  unfolding load_of loaded finding finding_of finding_on
  accepted_found trail text v = go (load s) refl
    where
      go : (l : Load) → load s ≡ l → finding_on z.cell trail text ≡ finding s trail text
      go (accepted c) f =
          ap (λ (d : State). finding_of (accepted d) trail text) (ap (λ (y : Loaded). cell_of y.cell) (e ∙ ap (loaded t) f) ∙ fresh_forth c (accepted_fresh s c f))
          ∙ sym (ap (λ (l : Load). finding_of l trail text) f)
      go (refused n o) f = let q : z.verdict ≡ Rejected n o = ap (λ (y : Loaded). y.verdict) (e ∙ ap (loaded t) f) in
          let k : ◌≡◌ {A = ℕ} 0 1 = cc in absurd (omega arith)

  -- a refused one: "A bad file keeps its load refusal"
  pub refused_found : (trail text : List ℕ) (n o : ℕ) → z.verdict ≡ Rejected n o → BadFile n o ≡ finding s trail text
  unfolding load_of loaded finding finding_of number_of offset_of
  refused_found trail text n o v = go (load s) refl
    where
      go : (l : Load) → load s ≡ l → BadFile n o ≡ finding s trail text
      go (accepted c) f = let q : z.verdict ≡ Accepted = ap (λ (y : Loaded). y.verdict) (e ∙ ap (loaded t) f) in
          let k : ◌≡◌ {A = ℕ} 0 1 = cc in absurd (omega arith)
      go (refused m p) f =
          let q : z.verdict ≡ Rejected m p = ap (λ (y : Loaded). y.verdict) (e ∙ ap (loaded t) f) in
          let a : m ≡ n = ap number_of (sym q ∙ v) in let b : p ≡ o = ap offset_of (sym q ∙ v) in
          ap₂ BadFile (sym a) (sym b) ∙ sym (ap (λ (l : Load). finding_of l trail text) f)

  -- what the moves come to then
  module _ (trail : List ℕ) (moves : ℕ) (p : Played) where
    pub plays_on : z.verdict ≡ Accepted → p.verdict ≡ Accepted → Stops z.cell trail moves p → Plays s trail moves p
    plays_on v w stops = record {
      bad = λ n o q. let k : ◌≡◌ {A = ℕ} 0 1 = cc in absurd (omega arith);
      good = λ _. (z.cell, (λ r text. accepted_found r text v, stops));
    }

    pub plays_not : (n o : ℕ) → z.verdict ≡ Rejected n o → p.verdict ≡ Rejected n o → Plays s trail moves p
    plays_not n o v w = record {
      bad = λ m k q r text. refused_found r text m k (v ∙ sym w ∙ q);
      good = λ q. let k : ◌≡◌ {A = ℕ} 0 1 = cc in absurd (omega arith);
    }
