-- Trails are the rows of reductions of the published calculus: of a formed tree's term (`follows_calculus`), and of the term of every accepted file
-- (`upheld_reduces`), whose upheld texts are exactly the listings of the terms to which it reduces.
-- Idea: trails are rows of moves, and `published` says the rest; the listing of a tree is that of its term.
use Rattle.std.specs.Prelude.{◌≡◌, List, ℕ}
use Rattle.std.proofs.Common.{sym, ◌∙◌, subst}
use Rattle.table.specs.Cell.{State}
use Rattle.meaning.specs.Calculus.{Tree}
use Rattle.meaning.specs.File.{accepted, load}
use Rattle.meaning.specs.Plain.{plain_of, tree_of}
use Rattle.meaning.specs.TreeListing.{tree_listing}
use Rattle.calculus.specs.Formed.{Formed}
use Rattle.calculus.proofs.MoveFormed.{move_formed}
use Rattle.calculus.proofs.OneListing.{one_listing}
use Rattle.calculus.proofs.Published.{published}
use Rattle.calculus.specs.Moves.{Moves, moves_none, moves_then}
use Rattle.calculus.proofs.SameListing.{fine_rows}
use Rattle.calculus.specs.Terms.{Term, ◌⟶*◌}
use Rattle.calculus.specs.TermListing.{listed}
use Rattle.calculus.specs.TermOf.{term}
use Rattle.calculus.proofs.TreeListed.{tree_listed}
use Rattle.calculus.proofs.TreeNumbers.{moves16}
use Rattle.calculus.specs.Numbers.{Numbers16}
use Rattle.demands.proofs.AgreesLaws.{tree_formed}
use Rattle.demands.proofs.LoadingFile.{accepted_fresh}
use Rattle.demands.proofs.LoadingLaws.{fresh_inv}
use Rattle.demands.specs.SameListings.{OfBytes}
use Rattle.demands.proofs.SameListingsLaws.{accepted_numbers}
use Rattle.trail.specs.declared.Finding.TheVariants.{Upheld}
use Rattle.trail.specs.Findings.{Leads}
use Rattle.trail.proofs.FindingsLaws.{upheld_exactly}
use Rattle.trail.specs.Trail.{finding}
use Rattle.claims.specs.Claims.{TrailToTerm, FollowsCalculus, ReducesTo, UpheldBy, UpheldReduces}
use Rattle.claims.proofs.FollowsLaws.{follows_moves, moves_trail}

-- ---- of a formed tree

reached_by_trail : {t : Tree} {P : Term} → Formed t → term t ⟶* P → TrailToTerm t P
reached_by_trail w r = let z = published.reaches w r in record { after = z.after; leads = moves_trail w z.moves; same = z.same }

pub follows_calculus : FollowsCalculus
follows_calculus = record {
  moves = follows_moves;
  trails = moves_trail;
  reduces = λ w f. published.run w (follows_moves f);
  reaches = reached_by_trail;
}

-- many moves keep a tree formed
pub moves_formed : {t u : Tree} → Formed t → Moves t u → Formed u
moves_formed w moves_none = w
moves_formed w (moves_then v m) = moves_formed (move_formed w v) m

-- after many moves the listing of a tree is that of its term
moves_listed : {t u : Tree} → Formed t → Numbers16 t → Moves t u → tree_listing u ≡ listed (term u)
moves_listed {t} {u} w n m = let z = moves_formed w m in tree_listed u z (fine_rows u z (moves16 m n))

-- ---- of an accepted file

-- the tree of its cell is formed
pub accepted_formed : (file : List ℕ) (c : State) → load file ≡ accepted c → Formed (tree_of c)
accepted_formed file c e = tree_formed c (fresh_inv c (accepted_fresh file c e)).sound

-- it is accepted as one cell
accepted_once : (file : List ℕ) (c d : State) → load file ≡ accepted c → load file ≡ accepted d → d ≡ c
accepted_once file c d e f = cc

module _ (file : List ℕ) (bytes : OfBytes file) (c : State) (e : load file ≡ accepted c) where
  -- a trail that leads from its tree leads to a term to which the loaded one reduces
  leads_reduces : (trail text : List ℕ) → Leads (tree_of c) trail text → ReducesTo c text
  unfolding plain_of
  leads_reduces trail text l = record {
    after = term l.after;
    reduces = published.run (accepted_formed file c e) (follows_moves l.follows);
    listed = l.listed ∙ moves_listed (accepted_formed file c e) (accepted_numbers file bytes c e) (follows_moves l.follows);
  }

  upheld_leads : (trail text : List ℕ) → finding file trail text ≡ Upheld → Leads (tree_of c) trail text
  upheld_leads trail text f =
      let l = (upheld_exactly file trail text).upheld.0 f in
      subst (λ (d : State). Leads (tree_of d) trail text) (accepted_once file c l.cell e l.loaded) l.leads

  -- and each of these has a trail
  reached_upheld : (P : Term) → term (tree_of c) ⟶* P → UpheldBy file (listed P)
  reached_upheld P r =
      let w = accepted_formed file c e in
      let z = reached_by_trail w r in
      let s : tree_listing z.after ≡ listed (term z.after) = moves_listed w (accepted_numbers file bytes c e) (follows_moves z.leads.follows) in
      record {
        trail = z.leads.trail;
        bytes = z.leads.bytes;
        upheld = (upheld_exactly file z.leads.trail (listed P)).upheld.1
            (record { cell = c; loaded = e; leads = record { after = z.after; follows = z.leads.follows; listed = one_listing z.same ∙ sym s } });
      }

  pub upheld_reduces : UpheldReduces file c
  unfolding plain_of
  upheld_reduces = record { reduces = λ trail text f. leads_reduces trail text (upheld_leads trail text f); reaches = reached_upheld }
