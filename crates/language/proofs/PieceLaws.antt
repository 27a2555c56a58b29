-- The pieces of a text of the language: each takes the machine from the state before it to the state after it, numbers, words and agents
-- here. An action's number and a closed place leave states that read alike whatever may follow a part.
use Rattle.std.specs.Prelude.{◌≡◌, Bool, true, false, ◌&&◌, ltb, leb}
use Rattle.std.proofs.Math.Path.{refl, ap}
use Rattle.std.proofs.Common.{sym, ◌∙◌}
use mathlib.Core.List.{List, [], ◌∷◌, ◌++◌, append_assoc}
use Prim.Native.Nat.{ℕ, zero, suc, ◌+◌, ◌*◌, ◌-◌, ◌/◌, ◌%◌, ◌≤◌, ◌<◌}
use native.Mathlib.Omega.{arith}
use borrow.Author.Tests.{ltb-true, ltb-false, le-leb, ne_eqb}
use Rattle.table.specs.Base.{tab}
use Rattle.table.proofs.BaseLaws.{Told, yea, nay, told}
use Rattle.table.proofs.KindLaws.{IsKind, enters, exits, opens, releases, is_kind}
use Rattle.meaning.specs.Text.{decimal}
use Rattle.meaning.specs.Listing.{kind_text, action_text}
use Rattle.language.specs.declared.Field.{Field}
use Rattle.language.specs.declared.Field.TheVariants.{PlaceName, ActionNumber}
use Rattle.language.specs.declared.Control.{Control}
use Rattle.language.specs.declared.Control.TheVariants.{After, Dot, Before, Digits}
use Rattle.language.specs.Grammar.{Text, Number, TypedAction, TypedAgent}
use Rattle.language.specs.Grammar.{action_of, action_typed, further_typed, agent_typed}
use Rattle.language.specs.Machine.{is_digit, begin_word, begin_part, closed, ended, least_of, follow, continues, spelled, next}
use Rattle.language.specs.Machine.{Builder, apply, Run, at, land, step, run, end_at, end, reads}
use Rattle.language.proofs.Ways.{Opening, opening_begin, opening_part, opening_within}
use Rattle.language.specs.Built.{actions_built, agent_built}
use Rattle.language.proofs.DecimalLaws.{bound, decimal_one, decimal_more}

-- ---- tests on bytes

and_false : (a : Bool) → (a && false) ≡ false
and_false true = refl
and_false false = refl

-- a byte that is no digit continues no number
pub continues_not : (v b : ℕ) → is_digit 0 b ≡ false → continues v b ≡ false
unfolding continues
continues_not v b e = rw e (and_false (leb 1 v))

-- a digit is one
pub digit_is : (least m : ℕ) → least ≤ m → m ≤ 9 → is_digit least (48 + m) ≡ true
digit_is least m l h = rw (le-leb (48 + least) (48 + m) (omega arith), le-leb (48 + m) 57 (omega arith))

-- its value
pub less_48 : (m : ℕ) → 48 + m - 48 ≡ m
less_48 m = omega arith

-- a digit that does not lead beyond 65,535 continues a number
continues_is : (v m : ℕ) → 1 ≤ v → m ≤ 9 → v * 10 + m ≤ 65535 → continues v (48 + m) ≡ true
unfolding continues
continues_is v m l d h = rw (le-leb 1 v l, digit_is 0 m (omega arith) d, less_48 m, le-leb (v * 10 + m) 65535 h)

-- ---- what may follow a part

-- the end of the text, a bar with its space, or `]`
pub data Follows : Text → Type 0 where
  follows_end : Follows []
  follows_bar : {s : Text} → Follows (32 ∷ s)
  follows_out : {s : Text} → Follows (93 ∷ s)

module _ {B : Type 0} (o : Builder B) where
  -- two pieces one after the other
  pub run_append : (r : Run B) (s t : Text) → run o r (s ++ t) ≡ run o (run o r s) t
  unfolding run
  run_append r [] t = refl
  run_append r (b ∷ s) t = run_append (step o r b) s t

  -- and then the end
  pub reads_append : (r : Run B) (s t : Text) → reads o r (s ++ t) ≡ reads o (run o r s) t
  unfolding reads
  reads_append r s t = ap (end o) (run_append r s t)

  -- a piece that takes the machine from r to q
  pub reads_piece : (r q : Run B) (s t : Text) → run o r s ≡ q → reads o r (s ++ t) ≡ reads o q t
  reads_piece r q s t e = reads_append r s t ∙ ap (λ (z : Run B). reads o z t) e

  -- ---- numbers

  -- one digit more
  digit_step : (f : Field) (v m d : ℕ) (x : B) → 1 ≤ v → m ≤ 9 → v * 10 + m ≤ 65535
      → run o (at (Digits f v) d x) ((48 + m) ∷ []) ≡ at (Digits f (v * 10 + m)) d x
  unfolding run step next land apply
  digit_step f v m d x l h k = rw (continues_is v m l h k, less_48 m)

  -- a number from its first digit on, wherever that may stand
  module _ (f : Field) (d : ℕ) (x : B) (least : ℕ) (l1 : least ≤ 1) (r : Run B)
      (first : (m : ℕ) → least ≤ m → m ≤ 9 → step o r (48 + m) ≡ at (Digits f m) d x) where
    number_from : (k n : ℕ) → n < bound k → least ≤ n → n ≤ 65535 → run o r (decimal n) ≡ at (Digits f n) d x
    unfolding bound
    number_from zero n b l h = one
      where
        one : run o r (decimal n) ≡ at (Digits f n) d x
        one = rw (decimal_one n (omega arith)) (unfold run in first n l (omega arith))
    number_from (suc k) n b l h = go (told (ltb n 10)) (λ p q. number_from k (n / 10) p q (omega arith))
      where
        split : n ≡ n / 10 * 10 + n % 10
        split = omega arith

        more : 10 ≤ n → run o r (decimal (n / 10)) ≡ at (Digits f (n / 10)) d x → run o r (decimal n) ≡ at (Digits f n) d x
        more t e = ap (λ (z : ℕ). run o r (decimal z)) split
            ∙ ap (run o r) (decimal_more (n / 10) (n % 10) (omega arith) (omega arith) (omega arith))
            ∙ run_append r (decimal (n / 10)) ((48 + n % 10) ∷ [])
            ∙ ap (λ (z : Run B). run o z ((48 + n % 10) ∷ [])) e
            ∙ digit_step f (n / 10) (n % 10) d x (omega arith) (omega arith) (omega (arith, split))
            ∙ ap (λ (z : ℕ). at (Digits f z) d x) (sym split)

        go : Told (ltb n 10) → (n / 10 < bound k → least ≤ n / 10 → run o r (decimal (n / 10)) ≡ at (Digits f (n / 10)) d x)
            → run o r (decimal n) ≡ at (Digits f n) d x
        go (yea e) q = rw (decimal_one n (omega (arith, ltb-true n 10 e))) (unfold run in first n l (omega (arith, ltb-true n 10 e)))
        go (nay e) q = let t = ltb-false n 10 e in more t (q (omega arith) (omega arith))

    number_run : (n : Number least) → run o r (decimal n.value) ≡ at (Digits f n.value) d x
    number_run n = number_from 5 n.value (unfold bound in omega (arith, n.high)) n.low n.high

  -- ---- words

  -- the first word of an agent, where a part may begin
  word_run : {c : Control} {k : ℕ} → Opening c → IsKind k → (d : ℕ) (x : B)
      → run o (at c d x) (kind_text k) ≡ at (Before (ActionNumber k)) d (o.new_agent x)
  unfolding kind_text tab run step land apply next begin_part begin_word spelled
  word_run opening_begin enters d x = refl
  word_run opening_part enters d x = refl
  word_run opening_within enters d x = refl
  word_run opening_begin exits d x = refl
  word_run opening_part exits d x = refl
  word_run opening_within exits d x = refl
  word_run opening_begin opens d x = refl
  word_run opening_part opens d x = refl
  word_run opening_within opens d x = refl
  word_run opening_begin releases d x = refl
  word_run opening_part releases d x = refl
  word_run opening_within releases d x = refl

  -- a further word, after a full stop
  next_word_run : {k : ℕ} → IsKind k → (d : ℕ) (x : B) → run o (at Dot d x) (kind_text k) ≡ at (Before (ActionNumber k)) d x
  unfolding kind_text tab run step land apply next begin_word spelled
  next_word_run enters d x = refl
  next_word_run exits d x = refl
  next_word_run opens d x = refl
  next_word_run releases d x = refl

  -- ---- first digits

  -- the first digit where a number is due
  pub before_step : (f : Field) (d : ℕ) (x : B) (m : ℕ) → least_of f ≤ m → m ≤ 9 → step o (at (Before f) d x) (48 + m) ≡ at (Digits f m) d x
  unfolding step next land apply
  before_step f d x m l h = rw (digit_is (least_of f) m l h, less_48 m)

  -- the first digit of a name, where a part may begin
  name_step : {c : Control} → Opening c → (d : ℕ) (x : B) (m : ℕ) → 1 ≤ m → m ≤ 9 → step o (at c d x) (48 + m) ≡ at (Digits PlaceName m) d x
  unfolding step next begin_part land apply
  name_step opening_begin d x m l h = rw (ne_eqb (48 + m) 48 (λ e. omega arith), digit_is 1 m l h, less_48 m)
  name_step opening_part d x m l h = rw (digit_is 1 m l h, less_48 m)
  name_step opening_within d x m l h = rw (ne_eqb (48 + m) 93 (λ e. omega arith), digit_is 1 m l h, less_48 m)

  -- a name
  pub name_run : {c : Control} → Opening c → (d : ℕ) (x : B) (n : Number 1)
      → run o (at c d x) (decimal n.value) ≡ at (Digits PlaceName n.value) d x
  name_run h d x n = number_run PlaceName d x 1 (omega arith) (at _ d x) (name_step h d x) n

  -- an action's number
  action_number_run : (k d : ℕ) (x : B) (n : Number 1) → run o (at (Before (ActionNumber k)) d x) (decimal n.value)
      ≡ at (Digits (ActionNumber k) n.value) d x
  action_number_run k d x n = number_run (ActionNumber k) d x 1 (omega arith) (at (Before (ActionNumber k)) d x)
      (unfold least_of in before_step (ActionNumber k) d x) n

  -- a key
  pub key_run : (f : Field) (d : ℕ) (x : B) (n : Number 0) → least_of f ≡ 0
      → run o (at (Before f) d x) (decimal n.value) ≡ at (Digits f n.value) d x
  key_run f d x n e = number_run f d x 0 (omega arith) (at (Before f) d x) (λ m l h. before_step f d x m (omega arith) h) n

  -- ---- actions

  -- an agent's first action
  action_run : {c : Control} → Opening c → (a : TypedAction) (d : ℕ) (x : B)
      → run o (at c d x) (action_typed a) ≡ at (Digits (ActionNumber a.kind) a.number.value) d (o.new_agent x)
  unfolding action_typed action_text action_of
  action_run h a d x = run_append (at _ d x) (kind_text a.kind) (decimal a.number.value)
      ∙ ap (λ (z : Run B). run o z (decimal a.number.value)) (word_run h (is_kind a.kind a.from_one a.to_last) d x)
      ∙ action_number_run a.kind d (o.new_agent x) a.number

  -- a further one
  next_action_run : (a : TypedAction) (d : ℕ) (x : B)
      → run o (at Dot d x) (action_typed a) ≡ at (Digits (ActionNumber a.kind) a.number.value) d x
  unfolding action_typed action_text action_of
  next_action_run a d x = run_append (at Dot d x) (kind_text a.kind) (decimal a.number.value)
      ∙ ap (λ (z : Run B). run o z (decimal a.number.value)) (next_word_run (is_kind a.kind a.from_one a.to_last) d x)
      ∙ action_number_run a.kind d x a.number

  -- an action's number, where a part may end, reads on as a closed place does
  pub number_ends : (k v d : ℕ) (x : B) {r : Text} → Follows r → reads o (at (Digits (ActionNumber k) v) d x) r
      ≡ reads o (at After d (o.new_action k v x)) r
  unfolding reads run step next follow ended closed land apply end end_at
  number_ends k v zero x follows_end = refl
  number_ends k v (suc d) x follows_end = refl
  number_ends k v zero x follows_bar = rw (continues_not v 32 refl)
  number_ends k v (suc d) x follows_bar = rw (continues_not v 32 refl)
  number_ends k v zero x follows_out = rw (continues_not v 93 refl)
  number_ends k v (suc d) x follows_out = rw (continues_not v 93 refl)

  -- a full stop after an action
  dot_step : (k v d : ℕ) (x : B) → step o (at (Digits (ActionNumber k) v) d x) 46 ≡ at Dot d (o.new_action k v x)
  unfolding step next follow land apply
  dot_step k v d x = rw (continues_not v 46 refl)

  -- the actions after the first, and what follows the part
  further_run : (l : List TypedAction) (k v d : ℕ) (x : B) {r : Text} → Follows r
      → reads o (at (Digits (ActionNumber k) v) d x) (further_typed l ++ r) ≡ reads o (at After d (actions_built o l (o.new_action k v x))) r
  unfolding further_typed actions_built tab
  further_run [] k v d x h = number_ends k v d x h
  further_run (a ∷ l) k v d x {r} h =
      reads_piece (at (Digits (ActionNumber k) v) d x) (at Dot d y) (46 ∷ []) ((action_typed a ++ further_typed l) ++ r)
      (unfold run in dot_step k v d x)
      ∙ ap (reads o (at Dot d y)) (append_assoc (action_typed a) (further_typed l) r)
      ∙ reads_piece (at Dot d y) (at (Digits (ActionNumber a.kind) a.number.value) d y) (action_typed a) (further_typed l ++ r)
      (next_action_run a d y)
      ∙ further_run l a.kind a.number.value d y h
    where
      y : B
      y = o.new_action k v x

  -- an agent, and what follows the part
  pub agent_run : {c : Control} → Opening c → (w : TypedAgent) (d : ℕ) (x : B) {r : Text} → Follows r
      → reads o (at c d x) (agent_typed w ++ r) ≡ reads o (at After d (agent_built o w x)) r
  unfolding agent_typed agent_built actions_built
  agent_run h w d x {r} t =
      ap (reads o (at _ d x)) (append_assoc (action_typed w.first) (further_typed w.further) r)
      ∙ reads_piece (at _ d x) (at (Digits (ActionNumber w.first.kind) w.first.number.value) d (o.new_agent x)) (action_typed w.first)
      (further_typed w.further ++ r) (action_run h w.first d x)
      ∙ further_run w.further w.first.kind w.first.number.value d (o.new_agent x) t
