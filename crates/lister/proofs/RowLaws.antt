-- An agent's text, action by action. Assumes nothing.
-- Idea: an action before the first unused one, or past the last, joins nothing.
use Rattle.std.specs.Prelude.{◌≡◌, refl, ◌⊎◌, Bool, ◌&&◌, cond, eqb, ltb, leb, get_or}
use Rattle.std.proofs.Common.{sym, ap, ◌∙◌, inl, inr, length-append, le-leb, lt-ltb, le-ltb, leb-true, leb-false, ltb-true}
use Rattle.std.proofs.Math.Bool.{true, false}
use mathlib.Core.List.{List, [], ◌++◌}
use Prim.Native.Nat.{ℕ, ◌+◌, ◌<◌, ◌≤◌, zero-le}
use native.Mathlib.Omega.{arith}
use Rattle.std.proofs.Math.ListN.{length}
use Rattle.std.proofs.lemmas.Bool.{lt-leb}
use Rattle.table.specs.Base.{fold_up, tab}
use Rattle.table.proofs.BaseLaws.{Told, yea, nay, told, and_left, and_right}
use Rattle.table.specs.Cell.{no_action, has_unused, enter_kind, exit_kind, open_kind}
use Rattle.table.specs.declared.Action.{Action}
use Rattle.table.specs.declared.Agent.{Agent}
use Rattle.meaning.specs.Text.{ascii, decimal, gap}
use Rattle.meaning.specs.Listing.{kind_text, action_text, is_unused, agent_text}
use Rattle.text.specs.Wrote.{least}
use Rattle.text.proofs.TextLaws.{join, join_more, least_le}
use Rattle.lister.specs.Sheet.{dot}
use Rattle.lister.proofs.PartLaws.{skipped, grows}

module _ (a : Agent) where
  -- the text of action j
  abbrev pub text_at : ℕ → List ℕ
  text_at j = action_text (get_or a.actions j no_action)

  before_first : (j : ℕ) → j < a.next → is_unused a j ≡ false
  before_first j l = ap (λ (b : Bool). b && ltb j a.count) (lt-leb a.next j l)

  past_last : (j : ℕ) → a.count ≤ j → is_unused a j ≡ false
  past_last j l = ap (λ (b : Bool). leb a.next j && b) (le-ltb j a.count l) ∙ none (leb a.next j)
    where
      none : (b : Bool) → (b && false) ≡ false
      none true = refl
      none false = refl

  pub one_unused : (j : ℕ) → a.next ≤ j → j < a.count → is_unused a j ≡ true
  one_unused j l m = rw (le-leb a.next j l, lt-ltb j a.count m)

  -- the text before action j
  abbrev pub text_to : ℕ → List ℕ
  text_to j = fold_up (join dot (is_unused a) text_at []) j []

  -- nothing is joined before the first unused action
  pub text_start : (j : ℕ) → j ≡ a.next → [] ≡ text_to j
  text_start j e = unfold fold_up in skipped dot (is_unused a) text_at [] 0 j zero-le (λ k _ l. before_first k (omega arith))

  -- nothing is joined past the last, and there is none past the sixteenth
  pub text_end : {first count end : ℕ} (j : ℕ) → first ≡ a.next → count ≡ a.count → end ≡ least count 16 → end ≤ j → (j ≤ end) ⊎ (j ≡ first) → text_to j ≡ agent_text a
  unfolding agent_text
  text_end {first} {count} {end} j f n d l h = go (told (leb j 16)) h
    where
      e : end ≡ least a.count 16
      e = d ∙ ap (λ (k : ℕ). least k 16) n

      short : (k : ℕ) → end ≤ k → k < 16 → a.count ≤ k
      short k m n = unfold least in side (told (ltb a.count 16))
        where
          side : Told (ltb a.count 16) → a.count ≤ k
          side (yea t) = let q : end ≡ a.count = e ∙ (unfold least in rw t) in omega arith
          side (nay t) = let q : end ≡ 16 = e ∙ (unfold least in rw t) in omega arith

      go : Told (leb j 16) → (j ≤ end) ⊎ (j ≡ first) → text_to j ≡ text_to 16
      go (yea p) _ = skipped dot (is_unused a) text_at [] j 16 (leb-true j 16 p) (λ k b c. past_last k (short k (omega arith) c))
      go (nay p) (inl b) = let q = least_le end a.count 16 e in absurd (omega (arith, leb-false j 16 p))
      go (nay p) (inr b) = sym (skipped dot (is_unused a) text_at [] 16 j (omega (arith, leb-false j 16 p)) (λ k _ c. before_first k (omega arith)))

-- unused actions begin at one of the sixteen
unused_early : (a : Agent) → has_unused a ≡ true → a.next < 16
unused_early a e = ltb-true a.next 16 (and_left (ltb a.next 16) (ltb a.next a.count) e)

-- an action has a text
action_some : (x : Action) → 0 < length (action_text x)
unfolding action_text
action_some x = omega (arith, length-append (kind_text x.kind) (decimal x.name), kind_some x.kind)
  where
    kind_some : (k : ℕ) → 0 < length (kind_text k)
    kind_some k = unfold kind_text tab in go (eqb k enter_kind) (eqb k exit_kind) (eqb k open_kind)
      where
        go : (a b d : Bool) → 0 < length (cond a (ascii "enter ") (cond b (ascii "exit ") (cond d (ascii "open ") (ascii "release "))))
        go true b d = omega arith
        go false true d = omega arith
        go false false true = omega arith
        go false false false = omega arith

-- and so has an agent with an unused one
pub agent_some : (a : Agent) → has_unused a ≡ true → 0 < length (agent_text a)
unfolding agent_text tab
agent_some a e =
    let l : a.next < 16 = unused_early a e in
    let m : a.next < a.count = ltb-true a.next a.count (and_right (ltb a.next 16) (ltb a.next a.count) e) in
    let n = ap length (join_more dot (is_unused a) text [] a.next (rw (le-leb a.next a.next (omega arith), lt-ltb a.next a.count m))) in
    omega (
      arith,
      action_some (get_or a.actions a.next no_action),
      length-append (before ++ gap dot before) (text a.next),
      grows dot (is_unused a) text [] (a.next + 1) 16 (omega arith),
    )
  where
    text : ℕ → List ℕ
    text j = action_text (get_or a.actions j no_action)

    before : List ℕ
    before = fold_up (join dot (is_unused a) text []) a.next []
