-- Every term of rows of actions in range, with names from 1 on, can be typed: some tree of the language says it, and its text is what W7 writes
-- of the term.
-- Idea: each part of a term, an agent or a place, is typed before contents; the parts in the order of W7 make the tree.
use Rattle.std.specs.Prelude.{◌≡◌, true, ℕ, ◌≤◌, ◌<◌, eqb}
use Rattle.std.proofs.Math.Path.{refl, ap, ap₂}
use Rattle.std.proofs.Common.{sym, ◌∙◌, arith, eqb-true}
use mathlib.Core.List.{List, [], ◌∷◌, ◌++◌, map, append_assoc}
use Rattle.table.specs.Base.{tab}
use Rattle.table.proofs.BaseLaws.{Told, yea, nay, told, and_left, and_right}
use Rattle.table.specs.Bounds.{Name16}
use Rattle.table.proofs.KindLaws.{IsKind, enters, exits, opens, releases}
use Rattle.table.specs.declared.Name.{Name}
use Rattle.table.specs.declared.Action.{Action}
use Rattle.meaning.specs.Text.{decimal}
use Rattle.meaning.specs.Sorted.{sorted}
use Rattle.meaning.specs.Listing.{action_text, is_plain, name_text, bracketed}
use Rattle.meaning.proofs.Every.{every_append, every_so}
use Rattle.meaning.specs.Every.{every_none, every_more, Every}
use Rattle.calculus.specs.Terms.{Term, amb, nil, ◌∣◌, ◌≅◌, struct_refl, struct_symm, struct_amb, struct_par}
use Rattle.calculus.proofs.TermLaws.{◌⨾◌, of_path, renamed, pars, struct_par_right}
use Rattle.calculus.specs.TermOf.{prefix, row}
use Rattle.calculus.specs.TermListing.{after, prefixed, written}
use Rattle.calculus.proofs.TermParts.{agent_parts, place_parts, part_text, map_append, agents_texts, places_texts, gather, gather_append, gathered}
use Rattle.calculus.proofs.TermParts.{arranged}
use Rattle.calculus.proofs.TextParts.{barred, beside, whole_some}
use Rattle.calculus.proofs.RowTexts.{Fine, fine_kind, actions_text, row_whole}
use Rattle.calculus.proofs.RowTerms.{row_text}
use Rattle.calculus.proofs.TreeListed.{after_some}
use Rattle.calculus.proofs.ListedTerms.{Proper, proper_amb, proper_nil, proper_par, proper_row, legible, legible_write}
use Rattle.language.specs.Grammar
use Rattle.language.specs.Grammar.{Text, Number, TypedAction, TypedAgent, Keys, left_off, TypedName, Contents, nothing, agent, place, action_of}
use Rattle.language.specs.Grammar.{keyed_by, name_of}
use Rattle.language.specs.Grammar.{action_typed, further_typed, agent_typed, keys_typed, after_bar, contents_typed}
use Rattle.language.specs.Built.{is_some}
use Rattle.language.proofs.PartLaws.{bar_some}
use Rattle.typed.specs.TermTyped.{actions_of, agent_term, term_typed}

-- ---- parts before contents

-- part L as it is typed before contents
pub record Typed (L : Term) : Type 0 where
  pub before : Contents → Contents
  pub some : (c : Contents) → is_some (before c) ≡ true
  pub text : (c : Contents) → contents_typed (before c) ≡ part_text L ++ after_bar c (contents_typed c)
  pub term : (c : Contents) → term_typed (before c) ≅ L ∣ term_typed c

-- parts one before the other
assemble : {l : List Term} → Every Typed l → Contents
assemble every_none = nothing
assemble (every_more k e) = k.before (assemble e)

-- after a bar
assemble_barred : {l : List Term} (e : Every Typed l) → after_bar (assemble e) (contents_typed (assemble e)) ≡ barred (map part_text l)
unfolding assemble barred tab
assemble_barred every_none = unfold after_bar in refl
assemble_barred (every_more {x} k e) = bar_some (k.before (assemble e)) (contents_typed (k.before (assemble e))) (k.some (assemble e))
    ∙ ap (λ z. 32 ∷ (124 ∷ (32 ∷ z))) (k.text (assemble e) ∙ ap (λ z. part_text x ++ z) (assemble_barred e))

-- their text
assemble_text : {l : List Term} (e : Every Typed l) → contents_typed (assemble e) ≡ beside (map part_text l)
unfolding assemble beside
assemble_text every_none = unfold contents_typed in refl
assemble_text (every_more {x} k e) = k.text (assemble e) ∙ ap (λ z. part_text x ++ z) (assemble_barred e)

-- and their term
assemble_term : {l : List Term} (e : Every Typed l) → term_typed (assemble e) ≅ gather l
unfolding assemble gather
assemble_term every_none = unfold term_typed in struct_refl
assemble_term (every_more k e) = k.term (assemble e) ⨾ struct_par_right (assemble_term e)

-- ---- an agent

-- an action that can be typed: a kind 1 to 4 and a number 1 to 65,535
pub record Able (x : Action) : Type 0 where
  pub fine : Fine x
  pub named : 1 ≤ x.name

-- as it is typed
typed_of : {x : Action} → Able x → TypedAction
typed_of {x} a = record {
  kind = x.kind;
  from_one = a.fine.first;
  to_last = a.fine.last;
  number = record { value = x.name; low = a.named; high = let l = a.fine.small in omega arith };
}

-- a row as it is typed
row_of : {l : List Action} → Every Able l → List TypedAction
row_of every_none = []
row_of (every_more a e) = typed_of a ∷ row_of e

-- the actions are those of the row
row_back : {l : List Action} (e : Every Able l) → actions_of (row_of e) ≡ l
unfolding row_of typed_of actions_of action_of
row_back every_none = refl
row_back (every_more {x} a e) = ap (λ z. x ∷ z) (row_back e)

-- each is in range
able_fine : {l : List Action} → Every Able l → Every Fine l
able_fine = every_so (λ x a. a.fine)

-- after a full stop
row_further : {l : List Action} (e : Every Able l) → further_typed (row_of e) ≡ after (actions_text l)
unfolding row_of typed_of further_typed action_typed action_of actions_text tab
row_further every_none = unfold after in refl
row_further (every_more {x} {rest} a e) =
    ap (λ z. 46 ∷ (action_text x ++ z)) (row_further e)
    ∙ sym ((unfold prefixed in after_some (prefixed x (actions_text rest)) (some (every_more a e))))
  where
    some : Every Able (x ∷ rest) → prefixed x (actions_text rest) ≡ [] → ⊥
    some w = unfold actions_text in whole_some (row_whole (able_fine w))

-- the agent
agent_of : {x : Action} {l : List Action} → Able x → Every Able l → TypedAgent
agent_of a e = record { first = typed_of a; further = row_of e }

-- its text is that of the row
agent_text : {x : Action} {l : List Action} (a : Able x) (e : Every Able l) → agent_typed (agent_of a e) ≡ part_text (row (x ∷ l))
unfolding agent_of agent_typed action_typed typed_of action_of actions_text prefixed
agent_text {x} a e = ap (λ z. action_text x ++ z) (row_further e) ∙ sym (row_text (able_fine (every_more a e)))

-- a row with an action, before contents
agent_typed_lem : {x : Action} {l : List Action} → Able x → Every Able l → Typed (row (x ∷ l))
unfolding agent_of prefix row_of
agent_typed_lem {x} {l} a e = record {
  before = agent (agent_of a e);
  some = λ c. unfold is_some in refl;
  text = λ c. unfold contents_typed in ap (λ z. z ++ after_bar c (contents_typed c)) (agent_text a e);
  term = λ c. unfold term_typed in struct_par (of_path said);
}
  where
    said : agent_term (agent_of a e) ≡ row (x ∷ l)
    said = unfold agent_term in ap row (row_back (every_more a e))

-- it is one part
one_agent : {k : ℕ} → IsKind k → (n : ℕ) (P : Term) → Typed (prefix k n P)
    → Every Typed (agent_parts (prefix k n P)) × Every Typed (place_parts (prefix k n P))
unfolding prefix agent_parts place_parts
one_agent enters n P w = (every_more w every_none, every_none)
one_agent exits n P w = (every_more w every_none, every_none)
one_agent opens n P w = (every_more w every_none, every_none)
one_agent releases n P w = (every_more w every_none, every_none)

-- and a row without actions is none
row_typed : {l : List Action} → Every Able l → Every Typed (agent_parts (row l)) × Every Typed (place_parts (row l))
row_typed every_none = unfold row in unfold agent_parts in unfold place_parts in (every_none, every_none)
row_typed (every_more {x} {rest} a e) = unfold row in one_agent (fine_kind a.fine) x.name (row rest) (unfold row in agent_typed_lem a e)

-- ---- a place

-- a key as it is typed
key_of : {k : ℕ} → k < 65536 → Number 0
key_of {k} l = record { value = k; low = omega arith; high = omega arith }

-- the keys, left off where they equal the name
keys_of : (n : Name) → Name16 n → Told (is_plain n) → Keys
keys_of n m (yea e) = left_off
keys_of n m (nay e) = Grammar.written (key_of m.entering) (key_of m.exiting) (key_of m.opening)

-- with them the name is the same
keys_name : (n : Name) (m : Name16 n) (b : Told (is_plain n)) → keyed_by n.name (keys_of n m b) ≡ n
unfolding keyed_by keys_of key_of is_plain
keys_name n m (yea e) =
    let r = and_right (eqb n.entering n.name) _ e in
    let a = sym (eqb-true n.entering n.name (and_left _ _ e)) in
    let b = sym (eqb-true n.exiting n.name (and_left _ _ r)) in
    let c = sym (eqb-true n.opening n.name (and_right (eqb n.exiting n.name) _ r)) in
    λ j. record { name = n.name; entering = a j; exiting = b j; opening = c j }
keys_name n m (nay e) = refl

-- and so is its text
keys_text : (n : Name) (m : Name16 n) (b : Told (is_plain n)) → decimal n.name ++ keys_typed (keys_of n m b) ≡ name_text n
unfolding keys_typed keys_of key_of name_text
keys_text n m (yea e) = rw e
keys_text n m (nay e) = rw e

-- the name as it is typed
name_typed : (n : Name) → Name16 n → 1 ≤ n.name → TypedName
name_typed n m one = record {
  name = record { value = n.name; low = one; high = let l = m.name in omega arith };
  keys = keys_of n m (told (is_plain n));
}

-- a tree that says P, with the text that W7 writes of P
pub record Says (P : Term) : Type 0 where
  pub tree : Contents
  pub text : contents_typed tree ≡ written P
  pub same : term_typed tree ≅ P

-- a place before contents
regroup : (a b x r : Text) → a ++ (b ++ (91 ∷ (x ++ (93 ∷ r)))) ≡ ((((a ++ b) ++ (91 ∷ [])) ++ x) ++ (93 ∷ [])) ++ r
regroup a b x r = sym (simp append_assoc)

place_typed : {n : Name} {P : Term} → Name16 n → 1 ≤ n.name → Says P → Typed (amb n P)
unfolding name_typed
place_typed {n} {P} m one s = record {
  before = place h s.tree;
  some = λ c. unfold is_some in refl;
  text = λ c. unfold contents_typed in unfold part_text in unfold bracketed in unfold tab in
      regroup (decimal n.name) (keys_typed h.keys) (contents_typed s.tree) (after_bar c (contents_typed c))
      ∙ ap₂ (λ (x y : Text). (((x ++ (91 ∷ [])) ++ y) ++ (93 ∷ [])) ++ after_bar c (contents_typed c)) (keys_text n m (told (is_plain n))) s.text;
  term = λ c. unfold term_typed in struct_par (renamed name ⨾ struct_amb s.same);
}
  where
    h : TypedName
    h = name_typed n m one

    name : name_of h ≡ n
    name = unfold name_of in keys_name n m (told (is_plain n))

-- ---- a term

-- a term that can be typed
pub data Typable : Term → Type 0 where
  can_amb : {n : Name} {P : Term} → Name16 n → 1 ≤ n.name → Typable P → Typable (amb n P)
  can_nil : Typable nil
  can_par : {P Q : Term} → Typable P → Typable Q → Typable (P ∣ Q)
  can_row : {l : List Action} → Every Able l → Typable (row l)

-- it is one that W7's theorem is about
typable_proper : {P : Term} → Typable P → Proper P
typable_proper (can_amb m one t) = proper_amb m (typable_proper t)
typable_proper can_nil = proper_nil
typable_proper (can_par t u) = proper_par (typable_proper t) (typable_proper u)
typable_proper (can_row e) = proper_row (able_fine e)

-- its parts, agents first, then places, each in byte order of their texts
in_order : {P : Term} → Typable P → Every Typed (agent_parts P) → Every Typed (place_parts P) → Says P
in_order {P} t a b =
    let x = arranged a in
    let y = arranged b in
    let e = every_append x.every y.every in
    record {
      tree = assemble e;
      text = assemble_text e
          ∙ ap beside (map_append x.list y.list ∙ ap₂ ◌++◌ (x.order ∙ ap sorted (agents_texts P)) (y.order ∙ ap sorted (places_texts P)))
          ∙ sym (legible_write (legible (typable_proper t)));
      same = assemble_term e ⨾ gather_append x.list y.list ⨾ pars x.same y.same ⨾ struct_symm (gathered P);
    }

-- every part of it can be typed
parts_typed : {P : Term} → Typable P → Every Typed (agent_parts P) × Every Typed (place_parts P)
unfolding agent_parts place_parts
parts_typed (can_amb m one t) =
    let r = parts_typed t in (every_none, every_more (place_typed m one (in_order t r.0 r.1)) every_none)
parts_typed can_nil = (every_none, every_none)
parts_typed (can_par t u) =
    let r = parts_typed t in let q = parts_typed u in (every_append r.0 q.0, every_append r.1 q.1)
parts_typed (can_row e) = row_typed e

-- so it can
pub says : {P : Term} → Typable P → Says P
says t = in_order t (parts_typed t).0 (parts_typed t).1
