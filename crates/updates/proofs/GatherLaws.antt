-- Sets of those that pass a test: what is read from one, and the walk over a set that gathers one. Assumes nothing.
-- Idea: between two members of a set there is nothing to do, so what holds below one of them holds up to the next.
use Rattle.std.specs.Prelude.{◌≡◌, Bool, ◌&&◌, ℕ, ◌+◌, ◌^◌, ◌<◌, ltb}
use Rattle.std.proofs.Common.{sym, ap, ◌∙◌, arith, ltb-true, ltb-false, lt-ltb}
use Rattle.sets.specs.Word.{upto}
use Rattle.sets.proofs.WordLaws.{has_past, word_lt}
use Rattle.sets.specs.Set.{member, set_of, inserted_if, removed}
use Rattle.sets.proofs.SetLaws.{set_ext, member_set, collect_none, collect_more}
use Rattle.sets.specs.Set.{empty_set}
use Rattle.sets.proofs.WalkLaws.{rest_start, rest_end, rest_member, rest_from, rest_skip, rest_more}
use Rattle.sets.specs.Walk.{Rest, lowest_in}
use Rattle.sets.specs.declared.Set.{Set}
use Rattle.table.proofs.BaseLaws.{Told, yea, nay, told}

-- ---- reading

-- a set of those that pass a test has the members below 64 that pass it
pub member_upto : (f : ℕ → Bool) (j : ℕ) → member (set_of f) j ≡ upto 64 f j
member_upto f j = go (told (ltb j 64))
  where
    go : Told (ltb j 64) → member (set_of f) j ≡ upto 64 f j
    go (yea t) = member_set f j (ltb-true j 64 t) ∙ sym (rw t)
    go (nay t) = has_past 64 (set_of f).bits j (word_lt 64 f) (ltb-false j 64 t) ∙ sym (rw t)

-- a set of those members of another that pass a test has just these, past 63 too
pub member_among : (s : Set) → s.bits < 2 ^ 64 → (h : ℕ → Bool) (j : ℕ) → member (set_of (λ q. member s q && h q)) j ≡ (member s j && h j)
member_among s l h j = member_upto (λ q. member s q && h q) j ∙ go (told (ltb j 64))
  where
    go : Told (ltb j 64) → upto 64 (λ q. member s q && h q) j ≡ (member s j && h j)
    go (yea t) = rw t
    go (nay t) = rw (t, has_past 64 s.bits j l (ltb-false j 64 t))

-- ---- gathering

-- what holds before each turn: those below some number that are members of g and pass h are found
pub record Gathered (g h : ℕ → Bool) (found rest : Set) : Type 0 where
  pub i : ℕ
  pub left : Rest g i rest
  pub got : found ≡ set_of (upto i (λ q. g q && h q))

unfoldable pub gathered_start : (s : Set) (h : ℕ → Bool) → s.bits < 2 ^ 64 → Gathered (member s) h empty_set s
gathered_start s h l = record { i = 0; left = rest_start s l; got = collect_none _ }

module _ {g h : ℕ → Bool} {found rest : Set} (a : Gathered g h found rest) where
  -- where nothing is left all are found
  pub gathered_end : rest.bits ≡ 0 → found ≡ set_of (λ q. g q && h q)
  gathered_end e = a.got ∙ set_ext _ _ (λ j l. go j l (told (ltb j a.i)))
    where
      go : (j : ℕ) → j < 64 → Told (ltb j a.i) → upto a.i (λ q. g q && h q) j ≡ (g j && h j)
      go j l (yea t) = rw t
      go j l (nay t) = rw (t, rest_end a.left e j (ltb-false j a.i t) l)

  module _ (k : 0 < rest.bits) where
    -- up to the lowest that is left there is nothing more to find
    pub gathered_up : found ≡ set_of (upto (lowest_in rest) (λ q. g q && h q))
    gathered_up = a.got ∙ set_ext _ _ (λ j l. go j (told (ltb j a.i)) (told (ltb j (lowest_in rest))))
      where
        go : (j : ℕ) → Told (ltb j a.i) → Told (ltb j (lowest_in rest)) → upto a.i (λ q. g q && h q) j ≡ upto (lowest_in rest) (λ q. g q && h q) j
        go j (yea s) t = rw (s, lt-ltb j (lowest_in rest) (omega (arith, ltb-true j a.i s, rest_from a.left k)))
        go j (nay s) (yea t) = rw (s, t, rest_skip a.left k j (ltb-false j a.i s) (ltb-true j (lowest_in rest) t))
        go j (nay s) (nay t) = rw (s, t)

    unfoldable pub gathered_more : (b : Bool) → b ≡ h (lowest_in rest) → Gathered g h (inserted_if found (lowest_in rest) b) (removed rest (lowest_in rest))
    gathered_more b e = record {
      i = lowest_in rest + 1;
      left = rest_more a.left k;
      got = collect_more (λ q. g q && h q) found (lowest_in rest) b (e ∙ sym (ap (λ (u : Bool). u && h (lowest_in rest)) (rest_member a.left k))) gathered_up;
    }
