-- Terms whose agents are rows of actions in range and whose numbers have 16 bits, as a tree's are: such terms with one listing are equivalent.
-- Idea: a listing is taken apart into its parts' texts, agents' before places', each part's text tells the part up to equivalence, and terms
-- whose parts have the same texts in byte order are equivalent.
use Rattle.std.specs.Prelude.{◌≡◌, refl, ◌≢◌, ◌≤◌, length}
use Rattle.std.proofs.Common.{sym, ap₂, ◌∙◌, arith, ne_eqb}
use Rattle.std.proofs.Math.Path.{ap}
use mathlib.Core.List.{List, [], ◌∷◌, ◌++◌, map, head-eq_of_cons-eq, tail-eq_of_cons-eq, nil≢cons, cons≢nil}
use Rattle.table.specs.Base.{tab}
use Rattle.table.specs.Bounds.{Name16}
use Rattle.table.specs.declared.Name.{Name}
use Rattle.table.specs.declared.Action.{Action}
use Rattle.meaning.specs.Sorted.{sorted}
use Rattle.meaning.proofs.SortedLaws.{Text}
use Rattle.meaning.proofs.InsertLaws.{every_sorted}
use Rattle.meaning.specs.Listing.{in_order}
use Rattle.meaning.proofs.Every.{every_append, every_so}
use Rattle.meaning.specs.Every.{every_none, every_more, Every}
use Rattle.calculus.specs.Terms.{Term, amb, nil, ◌∣◌, ◌≅◌, struct_refl, struct_symm, struct_amb}
use Rattle.calculus.proofs.TermLaws.{◌⨾◌, of_path, renamed, pars}
use Rattle.calculus.specs.TermOf.{row}
use Rattle.calculus.specs.TermListing.{Texts, write, texts, written, or_zero, listed}
use Rattle.calculus.proofs.TermParts.{agent_parts, place_parts, part_text, agents_texts, places_texts, gather, gathered, arranged}
use Rattle.calculus.proofs.TextParts.{Deep, Whole, beside, beside_deep, joined_beside, beside_one, beside_not_zero}
use Rattle.calculus.proofs.Decimals.{lead}
use Rattle.calculus.proofs.NameTexts.{place_one, place_lead, place_whole}
use Rattle.calculus.proofs.RowTexts.{Fine, row_whole, row_lead, row_one}
use Rattle.calculus.proofs.RowTerms.{row_texts, row_texts_lem, row_text, row_parts}

-- names and keys have 16 bits, and an agent is a row of actions in range
pub data Proper : Term → Type 0 where
  proper_amb : {n : Name} {P : Term} → Name16 n → Proper P → Proper (amb n P)
  proper_nil : Proper nil
  proper_par : {P Q : Term} → Proper P → Proper Q → Proper (P ∣ Q)
  proper_row : {l : List Action} → Every Fine l → Proper (row l)

-- ---- the texts of the parts

-- an agent's text begins with a small letter
record AgentText (x : Text) : Type 0 where
  whole : Whole x
  letter : 97 ≤ lead x

-- a place's text begins with a digit
record PlaceText (x : Text) : Type 0 where
  whole : Whole x
  digit : lead x ≤ 57

-- every text of a term's parts is one of these
pub record Legible (p : Texts) : Type 0 where
  agents : Every AgentText p.agents
  places : Every PlaceText p.places

-- all of them in order are whole
legible_whole : {p : Texts} → Legible p → Every Whole (sorted p.agents ++ sorted p.places)
legible_whole t = every_append (every_so (λ x a. a.whole) (every_sorted t.agents)) (every_so (λ x a. a.whole) (every_sorted t.places))

-- so the listing joins them by bars
pub legible_write : {p : Texts} → Legible p → write p ≡ beside (sorted p.agents ++ sorted p.places)
unfolding write in_order
legible_write t = joined_beside (legible_whole t)

-- to a text as stands within a bracket
legible_deep : {p : Texts} → Legible p → Deep (write p)
legible_deep t = rw (legible_write t) (beside_deep (every_so (λ x w. w.clear) (legible_whole t)))

-- a row's text is an agent's
row_legible : {l : List Action} → Every Fine l → Every AgentText (row_texts l)
unfolding row_texts
row_legible every_none = every_none
row_legible (every_more f e) = every_more (record { whole = row_whole (every_more f e); letter = row_lead (every_more f e) }) every_none

-- the texts of such a term are so
pub legible : {P : Term} → Proper P → Legible (texts P)
unfolding texts
legible (proper_amb {n} {P} s p) = record {
  agents = every_none;
  places = every_more (record { whole = place_whole n (written P) (legible_deep (legible p)); digit = (place_lead n (written P)).high }) every_none;
}
legible proper_nil = record { agents = every_none; places = every_none }
legible (proper_par p q) = record {
  agents = every_append (legible p).agents (legible q).agents;
  places = every_append (legible p).places (legible q).places;
}
legible (proper_row e) = rw (row_texts_lem e) (record { agents = row_legible e; places = every_none })

-- agents' texts before places' are told apart
divide : {l m k n : List Text} → Every AgentText l → Every PlaceText m → Every AgentText k → Every PlaceText n → l ++ m ≡ k ++ n → (l ≡ k) × (m ≡ n)
divide every_none b every_none d e = (refl, e)
divide every_none every_none (every_more c g) d e = absurd (nil≢cons e)
divide every_none (every_more b f) (every_more c g) d e = absurd (omega (arith, b.digit, c.letter, ap lead (head-eq_of_cons-eq e)))
divide (every_more a f) b every_none every_none e = absurd (cons≢nil e)
divide (every_more a f) b every_none (every_more d g) e = absurd (omega (arith, d.digit, a.letter, ap lead (head-eq_of_cons-eq e)))
divide (every_more a f) b (every_more c g) d e =
    let k = divide f b g d (tail-eq_of_cons-eq e) in (ap₂ ◌∷◌ (head-eq_of_cons-eq e) k.0, k.1)

-- ---- the parts

-- a place, or an agent with actions
data Part : Term → Type 0 where
  part_amb : {n : Name} {P : Term} → Name16 n → Proper P → Part (amb n P)
  part_row : {x : Action} {l : List Action} → Every Fine (x ∷ l) → Part (row (x ∷ l))

-- its text tells it, up to equivalence
record Unique (L : Term) : Type 0 where
  by : (M : Term) → Part M → part_text L ≡ part_text M → L ≅ M

-- K is so of each part of a term
record Parts (K : Term → Type 0) (P : Term) : Type 0 where
  agents : Every K (agent_parts P)
  places : Every K (place_parts P)

-- of two terms side by side
parts_par : {K : Term → Type 0} {P Q : Term} → Parts K P → Parts K Q → Parts K (P ∣ Q)
unfolding agent_parts place_parts
parts_par a b = record { agents = every_append a.agents b.agents; places = every_append a.places b.places }

-- it is so, if it is so of every place in it and of every row
parts_of : {K : Term → Type 0} {P : Term} → ((n : Name) (Q : Term) → Name16 n → Proper Q → Parts K Q → K (amb n Q))
    → ((x : Action) (l : List Action) → Every Fine (x ∷ l) → K (row (x ∷ l))) → Proper P → Parts K P
unfolding agent_parts place_parts
parts_of f g (proper_amb {n} {P} s p) = record { agents = every_none; places = every_more (f n P s p (parts_of f g p)) every_none }
parts_of f g proper_nil = record { agents = every_none; places = every_none }
parts_of f g (proper_par p q) = parts_par (parts_of f g p) (parts_of f g q)
parts_of {K} f g (proper_row e) = let z = row_parts {K = K} e g in record { agents = z.0; places = z.1 }

-- each part is a place or an agent with actions
are_parts : {P : Term} → Proper P → Parts Part P
are_parts p = parts_of {K = Part} (λ n Q s q _. part_amb s q) (λ x l e. part_row e) p

-- two rows of parts with the same texts
matched : {l m : List Term} → Every Unique l → Every Part m → map part_text l ≡ map part_text m → gather l ≅ gather m
unfolding gather
matched every_none every_none e = struct_refl
matched every_none (every_more b f) e = absurd (nil≢cons e)
matched (every_more a f) every_none e = absurd (cons≢nil e)
matched (every_more a f) (every_more {x = M} b g) e = pars (a.by M b (head-eq_of_cons-eq e)) (matched f g (tail-eq_of_cons-eq e))

-- in byte order
matched_sorted : (l m : List Term) → Every Unique l → Every Part m → sorted (map part_text l) ≡ sorted (map part_text m) → gather l ≅ gather m
matched_sorted l m a b e =
    let p = arranged a in
    let q = arranged b in
    struct_symm p.same ⨾ matched p.every q.every (p.order ∙ e ∙ sym q.order) ⨾ q.same

-- ---- terms that are written alike

-- are equivalent, if each part of one is told by its text
one_term : (P Q : Term) → Parts Unique P → Proper P → Proper Q → written P ≡ written Q → P ≅ Q
one_term P Q u p q e =
    let a = legible p in
    let b = legible q in
    let s = beside_one (legible_whole a) (legible_whole b) (sym (legible_write a) ∙ e ∙ legible_write b) in
    let d = divide (every_sorted a.agents) (every_sorted a.places) (every_sorted b.agents) (every_sorted b.places) s in
    let agents = matched_sorted (agent_parts P) (agent_parts Q) u.agents (are_parts q).agents
    (ap sorted (agents_texts P) ∙ d.0 ∙ ap sorted (sym (agents_texts Q))) in
    let places = matched_sorted (place_parts P) (place_parts Q) u.places (are_parts q).places
    (ap sorted (places_texts P) ∙ d.1 ∙ ap sorted (sym (places_texts Q))) in
    gathered P ⨾ pars agents places ⨾ struct_symm (gathered Q)

-- a place is told by its text
place_unique : {n : Name} {P : Term} → Name16 n → Proper P → Parts Unique P → Unique (amb n P)
unfolding part_text
place_unique {n} {P} s p u = record { by = λ M m e. go m e }
  where
    go : {M : Term} → Part M → part_text (amb n P) ≡ part_text M → amb n P ≅ M
    go (part_amb {n = m} {P = Q} r q) e =
        let g = place_one n m (written P) (written Q) s r e in renamed g.0 ⨾ struct_amb (one_term P Q u p q g.1)
    go (part_row f) e = absurd (omega (arith, (place_lead n (written P)).high, row_lead f, ap lead (e ∙ row_text f)))

-- and so is a row
row_unique : {x : Action} {l : List Action} → Every Fine (x ∷ l) → Unique (row (x ∷ l))
row_unique {x} {l} f = record { by = λ M m e. go m e }
  where
    go : {M : Term} → Part M → part_text (row (x ∷ l)) ≡ part_text M → row (x ∷ l) ≅ M
    go (part_amb {n = m} {P = Q} r q) e =
        unfold part_text in absurd (omega (arith, (place_lead m (written Q)).high, row_lead f, ap lead (sym (row_text f) ∙ e)))
    go (part_row g) e = of_path (ap row (row_one f g (sym (row_text f) ∙ e ∙ row_text g)))

-- so terms that are written alike are equivalent
same_written : (P Q : Term) → Proper P → Proper Q → written P ≡ written Q → P ≅ Q
same_written P Q p q = one_term P Q (parts_of {K = Unique} (λ n Q s q u. place_unique s q u) (λ x l e. row_unique e) p) p q

-- ---- listings

-- an empty floor's `0` is no other text
zero_one : (x y : Text) → x ≢ 48 ∷ [] → y ≢ 48 ∷ [] → or_zero x ≡ or_zero y → x ≡ y
unfolding or_zero tab
zero_one [] [] a b e = refl
zero_one [] (d ∷ y) a b e = absurd (b (sym (rw (ne_eqb (length (d ∷ y)) 0 (omega arith)) at e)))
zero_one (c ∷ x) [] a b e = absurd (a (rw (ne_eqb (length (c ∷ x)) 0 (omega arith)) at e))
zero_one (c ∷ x) (d ∷ y) a b e = rw (ne_eqb (length (c ∷ x)) 0 (omega arith), ne_eqb (length (d ∷ y)) 0 (omega arith)) at e

-- and no term is written as `0`
not_zero : {P : Term} → Proper P → written P ≢ 48 ∷ []
not_zero p e = beside_not_zero (legible_whole (legible p)) (sym (legible_write (legible p)) ∙ e)

-- terms with one listing are equivalent
pub one_listed : (P Q : Term) → Proper P → Proper Q → listed P ≡ listed Q → P ≅ Q
unfolding listed
one_listed P Q p q e = same_written P Q p q (zero_one (written P) (written Q) (not_zero p) (not_zero q) e)
