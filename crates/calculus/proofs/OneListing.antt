-- Equivalent terms have one listing.
-- Idea: equivalence leaves the texts of a term's parts the same but for their order, and in byte order they are the same.
use Rattle.std.specs.Prelude.{◌≡◌, refl, [], ◌∷◌}
use Rattle.std.proofs.Common.{sym, ap, ◌∙◌, append_assoc, append-nil}
use Rattle.table.specs.Cell.{enter_kind, exit_kind, open_kind, release_kind}
use Rattle.meaning.specs.Sorted.{sorted}
use Rattle.meaning.proofs.SortedLaws.{sorted_comm, sorted_cong}
use Rattle.meaning.specs.Listing.{bracketed, in_order}
use Rattle.calculus.specs.Terms.{Term, ◌≅◌, struct_refl, struct_symm, struct_trans, struct_par_zero}
use Rattle.calculus.specs.Terms.{struct_par_comm, struct_par_assoc, struct_amb, struct_par, struct_enter, struct_exit, struct_open, struct_release}
use Rattle.calculus.specs.TermListing.{Texts, places_only, write, action_then, texts, or_zero, listed}

-- the same texts in order
record InOrder (p q : Texts) : Type 0 where
  agents : sorted p.agents ≡ sorted q.agents
  places : sorted p.places ≡ sorted q.places

-- are written alike
order_written : {p q : Texts} → InOrder p q → write p ≡ write q
unfolding write in_order
order_written a = rw (a.agents, a.places)

-- equal texts are in the same order
order_same : {p q : Texts} → p ≡ q → InOrder p q
order_same e = record { agents = ap (λ p. sorted p.agents) e; places = ap (λ p. sorted p.places) e }

-- equivalent terms have the same texts in order
same_order : {P Q : Term} → P ≅ Q → InOrder (texts P) (texts Q)
unfolding texts
same_order struct_refl = order_same refl
same_order (struct_symm e) = let a = same_order e in record { agents = sym a.agents; places = sym a.places }
same_order (struct_trans e f) = let a = same_order e in let b = same_order f in record { agents = a.agents ∙ b.agents; places = a.places ∙ b.places }
same_order (struct_par_zero {P}) = record { agents = ap sorted (append-nil (texts P).agents); places = ap sorted (append-nil (texts P).places) }
same_order (struct_par_comm {P} {Q}) = record {
  agents = sorted_comm (texts P).agents (texts Q).agents;
  places = sorted_comm (texts P).places (texts Q).places;
}
same_order (struct_par_assoc {P} {Q} {R}) = record {
  agents = ap sorted (append_assoc (texts P).agents (texts Q).agents (texts R).agents);
  places = ap sorted (append_assoc (texts P).places (texts Q).places (texts R).places);
}
same_order (struct_par {P} {Q} {R} e) = record {
  agents = sorted_cong (texts P).agents (texts Q).agents (texts R).agents (same_order e).agents;
  places = sorted_cong (texts P).places (texts Q).places (texts R).places (same_order e).places;
}
same_order (struct_amb {n} e) = order_same (ap (λ x. places_only (bracketed n x ∷ [])) (order_written (same_order e)))
same_order (struct_enter {n} e) = order_same (ap (action_then enter_kind n) (order_written (same_order e)))
same_order (struct_exit {n} e) = order_same (ap (action_then exit_kind n) (order_written (same_order e)))
same_order (struct_open {n} e) = order_same (ap (action_then open_kind n) (order_written (same_order e)))
same_order (struct_release {n} e) = order_same (ap (action_then release_kind n) (order_written (same_order e)))

-- so they have one listing
pub one_listing : {P Q : Term} → P ≅ Q → listed P ≡ listed Q
unfolding listed
one_listing e = ap or_zero (order_written (same_order e))
