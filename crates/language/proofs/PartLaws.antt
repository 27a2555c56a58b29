-- Pieces of a text put together, as the grammar has them: parts, what stands beside them, and the ends of places.
use Rattle.std.specs.Prelude.{◌≡◌, refl, [], ◌∷◌, ◌++◌, true, ℕ, suc}
use Rattle.std.proofs.Common.{sym, ap, ◌∙◌, subst, append_assoc}
use Rattle.table.specs.Base.{tab}
use Rattle.table.proofs.BaseLaws.{clash}
use Rattle.meaning.specs.Text.{decimal}
use Rattle.meaning.specs.Listing.{kind_text}
use Rattle.language.specs.declared.Field.TheVariants.{PlaceName}
use Rattle.language.specs.Grammar.{Text, Number, Contents, nothing, agent, place}
use Rattle.language.specs.Grammar.{action_typed, further_typed, agent_typed, keys_typed, after_bar, contents_typed}
use Rattle.language.specs.Machine.{least_of}
use Rattle.language.specs.Built.{is_some}
use Rattle.language.proofs.Coming.{Closings, closings_out, Beside, Inside, Further, Keyed, Next, Counted, Worded}
use Rattle.language.proofs.Coming.{Parts, an_agent, a_place}

-- contents that are not empty, and what follows them
pub record Whole (d : ℕ) (s : Text) : Type 0 where
  pub contents : Contents
  pub some : is_some contents ≡ true
  pub rest : Text
  pub same : s ≡ contents_typed contents ++ rest
  pub closings : Closings d rest

-- an agent and what stands beside it
agent_whole : (d : ℕ) (s : Text) → Worded d s → Whole d s
unfolding Next is_some contents_typed agent_typed action_typed
agent_whole d s w =
    let n = w.after in
    let f : Further d n.rest = n.after in
    let b = f.after in
    record {
      contents = agent (record {
        first = record { kind = w.kind; from_one = w.from_one; to_last = w.to_last; number = number w };
        further = f.further;
      }) b.beside;
      some = refl;
      rest = b.rest;
      same = w.same ∙ ap (λ z. kind_text w.kind ++ z) (n.same ∙ ap (λ z. decimal n.number.value ++ z)
          (f.same ∙ ap (λ z. further_typed f.further ++ z) b.same)) ∙ sym (simp append_assoc);
      closings = b.closings;
    }
  where
    number : Worded d s → Number 1
    number w = let n = w.after.number in record { value = n.value; low = unfold least_of in n.low; high = n.high }

-- a place and what stands beside it
place_whole : (d : ℕ) (s : Text) → Counted PlaceName d s → Whole d s
unfolding Next is_some contents_typed tab
place_whole d s n = let k : Keyed d n.rest = n.after in go k k.holds.closings
    (n.same ∙ ap (λ z. decimal n.number.value ++ z) (k.same ∙ ap (λ z. keys_typed k.keys ++ (91 ∷ z)) k.holds.same))
  where
    number : Number 1
    number = record { value = n.number.value; low = unfold least_of in n.number.low; high = n.number.high }

    go : (k : Keyed d n.rest) {r : Text} → Closings (suc d) r
        → s ≡ decimal n.number.value ++ (keys_typed k.keys ++ (91 ∷ (contents_typed k.holds.inside ++ r))) → Whole d s
    go k (closings_out {s = t} c q) e = record {
      contents = place (record { name = number; keys = k.keys }) k.holds.inside c;
      some = refl;
      rest = t;
      same = e ∙ sym (simp append_assoc);
      closings = q;
    }

-- either
pub parts_whole : (d : ℕ) (s : Text) → Parts d s → Whole d s
parts_whole d s (an_agent w) = agent_whole d s w
parts_whole d s (a_place n) = place_whole d s n

-- as what a place holds
pub parts_inside : (d : ℕ) (s : Text) → Parts d s → Inside d s
parts_inside d s p = let w = parts_whole d s p in record { inside = w.contents; rest = w.rest; same = w.same; closings = w.closings }

-- a part beside another
pub bar_some : (c : Contents) (t : Text) → is_some c ≡ true → after_bar c t ≡ 32 ∷ (124 ∷ (32 ∷ t))
unfolding is_some after_bar tab
bar_some nothing t e = clash e refl
bar_some (agent r c) t e = refl
bar_some (place h c e) t q = refl

-- after a bar and its spaces
pub parts_beside : (d : ℕ) (s r : Text) → s ≡ 124 ∷ (32 ∷ r) → Parts d r → Beside d (32 ∷ s)
parts_beside d s r e p =
    let w = parts_whole d r p in
    record {
      beside = w.contents;
      rest = w.rest;
      same = ap (λ z. 32 ∷ z) (e ∙ ap (λ z. 124 ∷ (32 ∷ z)) w.same)
          ∙ ap (λ z. z ++ w.rest) (sym (bar_some w.contents (contents_typed w.contents) w.some));
      closings = w.closings;
    }

-- the end of a place, with nothing more beside the part before it
pub out_beside : (d : ℕ) (s : Text) → Beside d s → Beside (suc d) (93 ∷ s)
unfolding after_bar
out_beside d s b = record {
  beside = nothing;
  rest = 93 ∷ s;
  same = refl;
  closings = subst (λ z. Closings (suc d) (93 ∷ z)) (sym b.same) (closings_out b.beside b.closings);
}

-- at the end of an action that is the agent's last
pub no_further : (d : ℕ) (s : Text) → Beside d s → Further d s
unfolding further_typed
no_further d s b = record { further = []; rest = s; same = refl; after = b }
