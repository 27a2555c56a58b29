-- The trail of every run is upheld with the listing of the cell reached: `run_upheld`, of every accepted file and every list of calls.
-- Idea: each call makes one move of the plain tree, by the plain tree's own step, or none; the tree that a move makes tells its place; and the plain
-- tree is that of the cell reached, whose listing is that of its tree.
use Rattle.std.specs.Prelude.{◌≡◌, refl, ◌≢◌, ◌⊎◌, true, false, List, ◌++◌, ℕ, Ok, Err}
use Rattle.std.proofs.Math.Path.{sym, ap}
use Rattle.std.proofs.Common.{◌∙◌, subst, inl, inr}
use Rattle.table.proofs.BaseLaws.{Told, yea, nay, told, clash, eq?, upd_same, upd_other}
use Rattle.table.specs.Cell.{State, cell_of, enter_kind, open_kind, chooses, fresh_number}
use Rattle.table.proofs.FreshLaws.{fresh_unused}
use Rattle.table.proofs.KindLaws.{Kind, is_enter, is_exit, is_open, is_release}
use Rattle.meaning.specs.declared.Word.{Word}
use Rattle.meaning.specs.declared.Word.TheVariants.{Looked, Took, Held, Back, Slept, Left, Came, Opened, Put, Asleep, Done}
use Rattle.meaning.specs.Calculus.{Tree, next_of, permits, put_into, open_up, move, Move}
use Rattle.meaning.specs.File.{load, accepted}
use Rattle.meaning.specs.Listing.{listing}
use Rattle.meaning.specs.Plain.{Plain, tree_of, plain_of, plain_word, plain_step, plain_run, is_move, says_move}
use Rattle.meaning.specs.Run.{Call, agent_of, wish_of, Reply, step_reply, touch_reply}
use Rattle.meaning.specs.TreeListing.{tree_listing}
use Rattle.calculus.specs.Formed.{Formed}
use Rattle.calculus.proofs.MoveCases.{move_case}
use Rattle.calculus.proofs.MoveFormed.{move_formed}
use Rattle.demands.specs.AfterCalls.{reached, plain_after}
use Rattle.demands.proofs.DemandThree.{reached_beside, reached_tree}
use Rattle.demands.specs.Fresh.{Fresh}
use Rattle.demands.proofs.Layouts.{tree_listing_lem}
use Rattle.demands.proofs.LoadingFile.{accepted_fresh}
use Rattle.demands.proofs.LoadingLaws.{fresh_inv}
use Rattle.demands.proofs.AgreesLaws.{tree_formed}
use Rattle.demands.proofs.MovesMade.{MovedOrSame}
use Rattle.demands.proofs.RunKeeps.{Steps, no_step, one_step}
use Rattle.trail.specs.Findings.{Leads}
use Rattle.trail.proofs.FindingsLaws.{upheld_exactly}
use Rattle.trail.specs.Trail.{Follows, ends, goes, written_by, trail_run}
use Rattle.claims.specs.Claims.{byte_of, trail_of, RunUpheld}
use Rattle.claims.proofs.FollowsLaws.{Tells, mover_kind, move_tells, chosen_used}

-- ---- the tree that a move makes tells its place

module _ (t : Tree) (a m : ℕ) (v : Move t a (move t a m)) where
  -- enter: it tells where the agent's own place stands
  same_entered : (next_of t a).kind ≡ enter_kind → v.place ≡ m
  unfolding move put_into
  same_entered k =
      let r : put_into t a m ≡ put_into t a v.place = rw k at v.result in
      sym (sym (upd_same t.parent (t.home a) m) ∙ ap (λ (u : Tree). u.parent (t.home a)) r ∙ upd_same t.parent (t.home a) v.place)

  -- open: it tells which number is unused
  same_opened : (next_of t a).kind ≡ open_kind → t.used v.place ≡ true → v.place ≡ m
  unfolding move open_up
  same_opened k u = go (eq? v.place m)
    where
      r : open_up t a m ≡ open_up t a v.place
      r = rw k at v.result

      go : (v.place ≡ m) ⊎ (v.place ≢ m) → v.place ≡ m
      go (inl e) = e
      go (inr n) = clash u (sym (upd_other t.used m v.place false n) ∙ ap (λ (w : Tree). w.used v.place) r ∙ upd_same t.used v.place false)

  -- so an enter and an open are permitted on m itself
  same_chosen : chooses (next_of t a).kind ≡ true → Kind (next_of t a).kind → v.place ≡ m
  same_chosen c (is_enter k) = same_entered k
  same_chosen c (is_exit k) = clash c (rw k)
  same_chosen c (is_open k) = same_opened k (chosen_used t a v.place c (is_open k) v.permitted)
  same_chosen c (is_release k) = clash c (rw k)

  -- and the byte of m tells the move
  pub same_tells : Tells t a (move t a m) (byte_of t a m)
  same_tells = go (told (chooses (next_of t a).kind))
    where
      go : Told (chooses (next_of t a).kind) → Tells t a (move t a m) (byte_of t a m)
      go (yea c) = subst (λ (q : ℕ). Tells t a (move t a m) (byte_of t a q)) (same_chosen c (mover_kind (move_case v))) (move_tells v)
      go (nay c) = subst (Tells t a (move t a m)) {x = byte_of t a v.place} (rw c) (move_tells v)

  -- a move on a number that is not in use is an exit or a release
  pub unused_unchosen : t.used m ≡ false → chooses (next_of t a).kind ≡ false
  unused_unchosen f = go (told (chooses (next_of t a).kind))
    where
      go : Told (chooses (next_of t a).kind) → chooses (next_of t a).kind ≡ false
      go (yea c) =
          let k = mover_kind (move_case v) in
          clash (chosen_used t a m c k (subst (λ (q : ℕ). permits t a q ≡ true) (same_chosen c k) v.permitted)) f
      go (nay c) = c

-- ---- one call

-- what the plain tree's step makes of its tree by a word of a move: the move of the agent on its pick, or at put on the smallest unused number
data Makes (t : Tree) (a pick : ℕ) : Tree → Type 0 where
  on_pick : Makes t a pick (move t a pick)
  on_fresh : Makes t a pick (move t a (fresh_number t.used))

word_makes : (p : Plain) (a wish : ℕ) (w : Word) → is_move w ≡ true → Makes p.tree a (p.pick a) (plain_word p a wish w).tree
unfolding plain_word
word_makes p a wish Left e = on_pick
word_makes p a wish Opened e = on_pick
word_makes p a wish Put e = on_fresh
word_makes p a wish Looked e = clash e refl
word_makes p a wish Took e = clash e refl
word_makes p a wish Held e = clash e refl
word_makes p a wish Back e = clash e refl
word_makes p a wish Slept e = clash e refl
word_makes p a wish Came e = clash e refl
word_makes p a wish Asleep e = clash e refl
word_makes p a wish Done e = clash e refl

reply_makes : (p : Plain) (k : Call) (a : Reply) → says_move a ≡ true → Makes p.tree (agent_of k) (p.pick (agent_of k)) (plain_step p k a).tree
unfolding plain_step
reply_makes p k (step_reply (Ok o)) e = word_makes p (agent_of k) (wish_of k) o.word e
reply_makes p k (step_reply (Err n)) e = clash e refl
reply_makes p k (touch_reply n) e = clash e refl

-- the byte of the pick tells it, at put too, for there it is 255
makes_told : {t : Tree} (a pick : ℕ) {u : Tree} → Formed t → Makes t a pick u → Move t a u → Tells t a u (byte_of t a pick)
makes_told {t} a pick w on_pick v = same_tells t a pick v
makes_told {t} a pick w on_fresh v =
    let n : ℕ = fresh_number t.used in
    let c = unused_unchosen t a n v (fresh_out (told (t.used n))) in
    subst (Tells t a (move t a n)) {x = byte_of t a n} (rw c) (same_tells t a n v)
  where
    fresh_out : Told (t.used (fresh_number t.used)) → t.used (fresh_number t.used) ≡ false
    fresh_out (yea u) = fresh_unused t.used (w.small (fresh_number t.used) u)
    fresh_out (nay u) = u

-- what a call writes leads from the plain tree before it to the one after it
module _ (p : Plain) (k : Call) (a : Reply) (w : Formed p.tree) (m : MovedOrSame (says_move a) (agent_of k) p.tree (plain_step p k a).tree) where
  call_formed : Formed (plain_step p k a).tree
  call_formed = go (told (says_move a))
    where
      go : Told (says_move a) → Formed (plain_step p k a).tree
      go (yea e) = move_formed w (m.made e)
      go (nay e) = subst Formed (sym (m.left_alone e)) w

  call_follows : (rest : List ℕ) (u : Tree) → Follows (plain_step p k a).tree rest u → Follows p.tree (written_by p k a ++ rest) u
  call_follows rest u f = go (told (says_move a))
    where
      go : Told (says_move a) → Follows p.tree (written_by p k a ++ rest) u
      go (yea e) =
          let x = makes_told (agent_of k) (p.pick (agent_of k)) w (reply_makes p k a e) (m.made e) in
          rw e (goes x.allowed (subst (λ (t : Tree). Follows t rest u) x.makes f))
      go (nay e) = rw e (subst (λ (t : Tree). Follows t rest u) (m.left_alone e) f)

-- ---- a run

pub run_follows : {p : Plain} {calls : List Call} {answers : List Reply} → Formed p.tree → Steps p calls answers
    → Follows p.tree (trail_run p calls answers) (plain_run p calls answers).tree
unfolding trail_run plain_run
run_follows w no_step = ends
run_follows w (one_step {p} {k} {calls} {a} {rest} m s) =
    call_follows p k a w m (trail_run (plain_step p k a) calls rest) (plain_run (plain_step p k a) calls rest).tree (run_follows (call_formed p k a w m) s)

-- from a cell as a load leaves it the trail leads to the tree of the cell reached, which is listed as the cell is
pub fresh_leads : (c : State) → Fresh c → (calls : List Call) → Leads (tree_of c) (trail_of c calls) (listing (cell_of (reached c calls)))
unfolding plain_of
fresh_leads c f calls = record {
  after = (plain_after c calls).tree;
  follows = run_follows (tree_formed c (fresh_inv c f).sound) (reached_beside c f calls).steps;
  listed = tree_listing_lem (cell_of (reached c calls)) ∙ ap tree_listing (sym (reached_tree c f calls));
}

-- so from every accepted file it is upheld with that listing
pub run_upheld : (file : List ℕ) (c : State) → load file ≡ accepted c → (calls : List Call) → RunUpheld file c calls
run_upheld file c e calls = (upheld_exactly file (trail_of c calls) (listing (cell_of (reached c calls)))).upheld.1
    (record { cell = c; loaded = e; leads = fresh_leads c (accepted_fresh file c e) calls })
