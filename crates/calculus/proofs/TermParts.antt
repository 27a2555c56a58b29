-- A term is its parts side by side, agents and places, in any order: also in byte order of their texts.
use Rattle.std.specs.Prelude.{◌≡◌, refl, List, [], ◌∷◌, ◌++◌, map}
use Rattle.std.proofs.Common.{sym, ap, ap₂, ◌∙◌}
use Rattle.table.specs.Cell.{enter_kind, exit_kind, open_kind, release_kind}
use Rattle.table.proofs.BaseLaws.{Told, yea, nay, told}
use Rattle.meaning.specs.Sorted.{leq, insert, sorted}
use Rattle.meaning.proofs.SortedLaws.{Text, insert_past, insert_here}
use Rattle.meaning.specs.Listing.{bracketed}
use Rattle.meaning.specs.Every.{every_none, every_more, Every}
use Rattle.calculus.specs.Terms.{Term, amb, nil, ◌∣◌, enter, exit, «open», release, ◌≅◌, struct_refl, struct_symm, struct_par_zero, struct_par_assoc}
use Rattle.calculus.proofs.TermLaws.{◌⨾◌, struct_par_right, zero_par, swap, swap_middle, pars}
use Rattle.calculus.specs.TermListing.{prefixed, texts, written}

-- ---- the parts

-- the agents of a term
unfoldable pub agent_parts : Term → List Term
agent_parts (amb n P) = []
agent_parts nil = []
agent_parts (P ∣ Q) = agent_parts P ++ agent_parts Q
agent_parts (enter n P) = enter n P ∷ []
agent_parts (exit n P) = exit n P ∷ []
agent_parts («open» n P) = «open» n P ∷ []
agent_parts (release n P) = release n P ∷ []

-- its places
unfoldable pub place_parts : Term → List Term
place_parts (amb n P) = amb n P ∷ []
place_parts nil = []
place_parts (P ∣ Q) = place_parts P ++ place_parts Q
place_parts (enter n P) = []
place_parts (exit n P) = []
place_parts («open» n P) = []
place_parts (release n P) = []

-- the text of a part
unfoldable pub part_text : Term → Text
part_text (amb n P) = bracketed n (written P)
part_text nil = []
part_text (P ∣ Q) = []
part_text (enter n P) = prefixed (record { kind = enter_kind; name = n }) (written P)
part_text (exit n P) = prefixed (record { kind = exit_kind; name = n }) (written P)
part_text («open» n P) = prefixed (record { kind = open_kind; name = n }) (written P)
part_text (release n P) = prefixed (record { kind = release_kind; name = n }) (written P)

-- the texts of two lists of parts
pub map_append : (l m : List Term) → map part_text (l ++ m) ≡ map part_text l ++ map part_text m
map_append [] m = refl
map_append (P ∷ l) m = ap (λ z. part_text P ∷ z) (map_append l m)

-- the texts of a term are those of its agents
pub agents_texts : (P : Term) → map part_text (agent_parts P) ≡ (texts P).agents
unfolding agent_parts texts part_text
agents_texts (amb n P) = refl
agents_texts nil = refl
agents_texts (P ∣ Q) = map_append (agent_parts P) (agent_parts Q) ∙ ap₂ ◌++◌ (agents_texts P) (agents_texts Q)
agents_texts (enter n P) = refl
agents_texts (exit n P) = refl
agents_texts («open» n P) = refl
agents_texts (release n P) = refl

-- those of its places
pub places_texts : (P : Term) → map part_text (place_parts P) ≡ (texts P).places
unfolding place_parts texts part_text
places_texts (amb n P) = refl
places_texts nil = refl
places_texts (P ∣ Q) = map_append (place_parts P) (place_parts Q) ∙ ap₂ ◌++◌ (places_texts P) (places_texts Q)
places_texts (enter n P) = refl
places_texts (exit n P) = refl
places_texts («open» n P) = refl
places_texts (release n P) = refl

-- ---- side by side

-- terms in parallel
unfoldable pub gather : List Term → Term
gather [] = nil
gather (P ∷ rest) = P ∣ gather rest

-- of two lists, one beside the other
pub gather_append : (l m : List Term) → gather (l ++ m) ≅ gather l ∣ gather m
unfolding gather
gather_append [] m = struct_symm zero_par
gather_append (P ∷ l) m = struct_par_right (gather_append l m) ⨾ struct_symm struct_par_assoc

-- a term is its agents beside its places
pub gathered : (P : Term) → P ≅ gather (agent_parts P) ∣ gather (place_parts P)
unfolding gather agent_parts place_parts
gathered (amb n P) = struct_symm (zero_par ⨾ struct_par_zero)
gathered nil = struct_symm struct_par_zero
gathered (P ∣ Q) = pars (gathered P) (gathered Q) ⨾ swap_middle
    ⨾ struct_symm (pars (gather_append (agent_parts P) (agent_parts Q)) (gather_append (place_parts P) (place_parts Q)))
gathered (enter n P) = struct_symm (struct_par_zero ⨾ struct_par_zero)
gathered (exit n P) = struct_symm (struct_par_zero ⨾ struct_par_zero)
gathered («open» n P) = struct_symm (struct_par_zero ⨾ struct_par_zero)
gathered (release n P) = struct_symm (struct_par_zero ⨾ struct_par_zero)

-- ---- in the order of their texts

-- parts with these texts, side by side the term P, and K is so of each
pub record Arranged (K : Term → Type 0) (s : List Text) (P : Term) : Type 0 where
  pub list : List Term
  pub order : map part_text list ≡ s
  pub same : gather list ≅ P
  pub every : Every K list

-- one part more, where its text is inserted
put_in : {K : Term → Type 0} (P : Term) {l : List Term} → K P → Every K l → Arranged K (insert (part_text P) (map part_text l)) (P ∣ gather l)
unfolding insert gather
put_in P k every_none = record { list = P ∷ []; order = refl; same = struct_refl; every = every_more k every_none }
put_in {K} P k (every_more {x = Q} {rest = l} q e) = go (told (leq (part_text Q) (part_text P))) (put_in P k e)
  where
    go : Told (leq (part_text Q) (part_text P)) → Arranged K (insert (part_text P) (map part_text l)) (P ∣ gather l)
        → Arranged K (insert (part_text P) (part_text Q ∷ map part_text l)) (P ∣ (Q ∣ gather l))
    go (yea t) r = record {
      list = Q ∷ r.list;
      order = ap (λ z. part_text Q ∷ z) r.order ∙ sym (insert_past (part_text P) (part_text Q) (map part_text l) t);
      same = struct_par_right r.same ⨾ swap;
      every = every_more q r.every;
    }
    go (nay t) _ = record {
      list = P ∷ (Q ∷ l);
      order = sym (insert_here (part_text P) (part_text Q) (map part_text l) t);
      same = struct_refl;
      every = every_more k (every_more q e);
    }

-- all of them
pub arranged : {K : Term → Type 0} {l : List Term} → Every K l → Arranged K (sorted (map part_text l)) (gather l)
unfolding sorted gather
arranged every_none = record { list = []; order = refl; same = struct_refl; every = every_none }
arranged {K} (every_more {x = P} {rest = l} k e) = go (arranged e)
  where
    go : Arranged K (sorted (map part_text l)) (gather l) → Arranged K (insert (part_text P) (sorted (map part_text l))) (P ∣ gather l)
    go r = let z = put_in P k r.every in record {
      list = z.list;
      order = z.order ∙ ap (insert (part_text P)) r.order;
      same = z.same ⨾ struct_par_right r.same;
      every = z.every;
    }
