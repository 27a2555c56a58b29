-- Every text of the language is read to its end, and builds what its tree says.
-- Idea: each piece of a text takes the machine from the state before it to the state after it.
use Rattle.std.specs.Prelude.{◌≡◌, true, ℕ, suc}
use Rattle.std.proofs.Math.Path.{refl, ap}
use Rattle.std.proofs.Common.{sym, ◌∙◌}
use mathlib.Core.List.{[], ◌∷◌, ◌++◌, append_assoc, append-nil}
use Rattle.table.specs.Base.{tab}
use Rattle.table.proofs.BaseLaws.{clash}
use Rattle.meaning.specs.Text.{decimal}
use Rattle.meaning.specs.Listing.{slashed}
use Rattle.language.specs.declared.Field.TheVariants.{PlaceName, EnterKey, ExitKey, OpenKey}
use Rattle.language.specs.declared.Control.{Control}
use Rattle.language.specs.declared.Control.TheVariants.{Begin, Part, Within, After, Before, Digits}
use Rattle.language.specs.Grammar.{Text, Keys, left_off, written, Contents, nothing, agent, place}
use Rattle.language.specs.Grammar.{with_keys, keyed_by, name_of, agent_typed, keys_typed, after_bar, contents_typed, floor_typed}
use Rattle.language.specs.Machine.{closed, ended, least_of, follow, next}
use Rattle.language.specs.Machine.{Builder, apply, at, done, land, step, run, end_at, end, reads}
use Rattle.language.proofs.Ways.{Opening, opening_begin, opening_part, opening_within}
use Rattle.language.specs.Built.{agent_built, built, is_some}
use Rattle.language.proofs.PieceLaws.{continues_not, Follows, follows_end, follows_bar, follows_out, reads_piece, name_run, key_run, agent_run}

module _ {B : Type 0} (o : Builder B) where
  -- ---- places

  -- a slash after a name
  pub slash_name : (v d : ℕ) (x : B) → run o (at (Digits PlaceName v) d x) (47 ∷ []) ≡ at (Before (EnterKey v)) d x
  unfolding run step next follow land apply
  slash_name v d x = rw (continues_not v 47 refl)

  -- after the first key
  pub slash_enter : (n v d : ℕ) (x : B) → run o (at (Digits (EnterKey n) v) d x) (47 ∷ []) ≡ at (Before (ExitKey n v)) d x
  unfolding run step next follow land apply
  slash_enter n v d x = rw (continues_not v 47 refl)

  -- after the second
  pub slash_exit : (n e v d : ℕ) (x : B) → run o (at (Digits (ExitKey n e) v) d x) (47 ∷ []) ≡ at (Before (OpenKey n e v)) d x
  unfolding run step next follow land apply
  slash_exit n e v d x = rw (continues_not v 47 refl)

  -- a bracket after a name
  pub open_name : (v d : ℕ) (x : B) → run o (at (Digits PlaceName v) d x) (91 ∷ []) ≡ at Within (suc d) (o.new_place (with_keys v v v v) x)
  unfolding run step next follow land apply
  open_name v d x = rw (continues_not v 91 refl)

  -- after three keys
  pub open_keys : (n e q v d : ℕ) (x : B) → run o (at (Digits (OpenKey n e q) v) d x) (91 ∷ [])
      ≡ at Within (suc d) (o.new_place (with_keys n e q v) x)
  unfolding run step next follow land apply
  open_keys n e q v d x = rw (continues_not v 91 refl)

  -- name and keys are read, then the bracket
  keys_run : (w : Keys) (n d : ℕ) (x : B) (r : Text)
      → reads o (at (Digits PlaceName n) d x) (keys_typed w ++ (91 ∷ r)) ≡ reads o (at Within (suc d) (o.new_place (keyed_by n w) x)) r
  unfolding keys_typed keyed_by slashed tab
  keys_run left_off n d x r = reads_piece o (at (Digits PlaceName n) d x) _ (91 ∷ []) r (open_name n d x)
  keys_run (written e q p) n d x r =
      reads_piece o (at (Digits PlaceName n) d x) _ (47 ∷ []) ((decimal e.value ++ (47 ∷ (decimal q.value ++ (47 ∷ decimal p.value)))) ++
      (91 ∷ r)) (slash_name n d x)
      ∙ ap (reads o (at (Before (EnterKey n)) d x)) (append_assoc (decimal e.value) _ (91 ∷ r))
      ∙ reads_piece o (at (Before (EnterKey n)) d x) _ (decimal e.value) _ (key_run o (EnterKey n) d x e (unfold least_of in refl))
      ∙ reads_piece o (at (Digits (EnterKey n) e.value) d x) _ (47 ∷ []) ((decimal q.value ++ (47 ∷ decimal p.value)) ++ (91 ∷ r))
      (slash_enter n e.value d x)
      ∙ ap (reads o (at (Before (ExitKey n e.value)) d x)) (append_assoc (decimal q.value) _ (91 ∷ r))
      ∙ reads_piece o (at (Before (ExitKey n e.value)) d x) _ (decimal q.value) _
      (key_run o (ExitKey n e.value) d x q (unfold least_of in refl))
      ∙ reads_piece o (at (Digits (ExitKey n e.value) q.value) d x) _ (47 ∷ []) (decimal p.value ++ (91 ∷ r))
      (slash_exit n e.value q.value d x)
      ∙ reads_piece o (at (Before (OpenKey n e.value q.value)) d x) _ (decimal p.value) (91 ∷ r)
      (key_run o (OpenKey n e.value q.value) d x p (unfold least_of in refl))
      ∙ reads_piece o (at (Digits (OpenKey n e.value q.value) p.value) d x) _ (91 ∷ []) r (open_keys n e.value q.value p.value d x)

  -- ---- contents

  -- contents that are not empty are read from where a part may begin
  Claim : Contents → Type 0
  Claim c = (k : Control) → Opening k → is_some c ≡ true → (d : ℕ) (x : B) (r : Text) → Follows r
      → reads o (at k d x) (contents_typed c ++ r) ≡ reads o (at After d (built o c x)) r

  -- a bar with its spaces
  pub bar_run : (d : ℕ) (x : B) → run o (at After d x) (32 ∷ (124 ∷ (32 ∷ []))) ≡ at Part d x
  unfolding run step next ended land apply
  bar_run d x = refl

  -- what stands beside a part
  beside_run : (c : Contents) → Claim c → (d : ℕ) (x : B) (r : Text) → Follows r
      → reads o (at After d x) (after_bar c (contents_typed c) ++ r) ≡ reads o (at After d (built o c x)) r
  unfolding after_bar tab Claim
  beside_run nothing h d x r t = unfold built in refl
  beside_run (agent w c) h d x r t =
      reads_piece o (at After d x) (at Part d x) (32 ∷ (124 ∷ (32 ∷ []))) (contents_typed (agent w c) ++ r) (bar_run d x)
      ∙ h Part opening_part (unfold is_some in refl) d x r t
  beside_run (place w c e) h d x r t =
      reads_piece o (at After d x) (at Part d x) (32 ∷ (124 ∷ (32 ∷ []))) (contents_typed (place w c e) ++ r) (bar_run d x)
      ∙ h Part opening_part (unfold is_some in refl) d x r t

  -- the end of a place
  pub out_run : (d : ℕ) (x : B) → run o (at After (suc d) x) (93 ∷ []) ≡ at After d (o.end_place x)
  unfolding run step next ended closed land apply
  out_run d x = refl

  -- of one that is empty
  pub empty_run : (d : ℕ) (x : B) → run o (at Within (suc d) x) (93 ∷ []) ≡ at After d (o.end_place x)
  unfolding run step next closed land apply
  empty_run d x = refl

  -- what a place holds, up to its end
  inside_run : (c : Contents) → Claim c → (d : ℕ) (x : B) (r : Text)
      → reads o (at Within (suc d) x) (contents_typed c ++ (93 ∷ r)) ≡ reads o (at After d (o.end_place (built o c x))) r
  unfolding Claim
  inside_run nothing h d x r = unfold contents_typed in unfold built in reads_piece o (at Within (suc d) x) (at After d (o.end_place x)) (93 ∷ []) r
      (empty_run d x)
  inside_run (agent w c) h d x r = h Within opening_within (unfold is_some in refl) (suc d) x (93 ∷ r) follows_out
      ∙ reads_piece o (at After (suc d) (built o (agent w c) x)) (at After d (o.end_place (built o (agent w c) x))) (93 ∷ []) r
      (out_run d (built o (agent w c) x))
  inside_run (place w c e) h d x r = h Within opening_within (unfold is_some in refl) (suc d) x (93 ∷ r) follows_out
      ∙ reads_piece o (at After (suc d) (built o (place w c e) x)) (at After d (o.end_place (built o (place w c e) x))) (93 ∷ []) r
      (out_run d (built o (place w c e) x))

  -- what stands beside a part is something that may follow one
  beside_follows : (c : Contents) (t : Text) {r : Text} → Follows r → Follows (after_bar c t ++ r)
  unfolding after_bar tab
  beside_follows nothing t h = h
  beside_follows (agent w c) t h = follows_bar
  beside_follows (place w c e) t h = follows_bar

  -- contents
  contents_run : (c : Contents) → Claim c
  unfolding Claim contents_typed built is_some name_of tab
  contents_run nothing k h s d x r t = clash s refl
  contents_run (agent w c) k h s d x r t =
      ap (reads o (at k d x)) (append_assoc (agent_typed w) (after_bar c (contents_typed c)) r)
      ∙ agent_run o h w d x (beside_follows c (contents_typed c) t)
      ∙ beside_run c (contents_run c) d (agent_built o w x) r t
  contents_run (place w c e) k h s d x r t =
      ap (reads o (at k d x)) regroup
      ∙ reads_piece o (at k d x) (at (Digits PlaceName w.name.value) d x) (decimal w.name.value) _ (name_run o h d x w.name)
      ∙ keys_run w.keys w.name.value d x _
      ∙ inside_run c (contents_run c) d (o.new_place (name_of w) x) _
      ∙ beside_run e (contents_run e) d (o.end_place (built o c (o.new_place (name_of w) x))) r t
    where
      regroup : (decimal w.name.value ++ (keys_typed w.keys ++ (91 ∷ (contents_typed c ++ (93 ∷ after_bar e (contents_typed e)))))) ++ r
          ≡ decimal w.name.value ++ (keys_typed w.keys ++ (91 ∷ (contents_typed c ++ (93 ∷ (after_bar e (contents_typed e) ++ r)))))
      regroup = simp append_assoc

  -- contents as the whole text
  whole : (c : Contents) (x : B) → is_some c ≡ true → reads o (at Begin 0 x) (contents_typed c) ≡ done (built o c x)
  unfolding Claim reads run end end_at
  whole c x s = ap (reads o (at Begin 0 x)) (sym (append-nil (contents_typed c))) ∙ contents_run c Begin opening_begin s 0 x [] follows_end

  -- `0`
  bare : (x : B) → reads o (at Begin 0 x) (48 ∷ []) ≡ done x
  unfolding reads run step next land apply end end_at
  bare x = refl

  -- a text of the language is read to its end
  pub floor_read : (c : Contents) (x : B) → reads o (at Begin 0 x) (floor_typed c) ≡ done (built o c x)
  unfolding floor_typed built tab
  floor_read nothing x = bare x
  floor_read (agent w c) x = whole (agent w c) x (unfold is_some in refl)
  floor_read (place w c e) x = whole (place w c e) x (unfold is_some in refl)
