-- What the agent that steps is after a step, by the word of the answer.
-- By the stage, or the kind of its action, that each way of a step asks for.
use Rattle.std.specs.Prelude.{◌≡◌, refl, true, false, cond, ℕ, ◌+◌, ◌≤◌, eqb, leb}
use Rattle.std.proofs.Common.{sym, ap, ◌∙◌, add-zero, arith, eq-eqb, ne_eqb}
use Rattle.table.proofs.BaseLaws.{Told, yea, nay, told}
use Rattle.table.specs.Cell.{Land, none, has_action, kind_of, exit_kind, open_kind, release_kind, last_kind}
use Rattle.table.proofs.KindLaws.{kind_home, kind_around}
use Rattle.table.specs.declared.Agent.{Agent}
use Rattle.meaning.specs.declared.Word.{Word}
use Rattle.meaning.specs.declared.Word.TheVariants.{Looked, Took, Held, Slept, Asleep, Done}
use Rattle.meaning.specs.Update.{at_stage, use_up}
use Rattle.meaning.specs.Step.{choice}
use Rattle.demands.specs.ByWord.{used_up, stage_by, remembered_by, chosen_by, Stepped}

module _ (word : Word) (l : Land) (wish : ℕ) (a : Agent) where
  -- at another stage, with no action used up
  pub stepped_at : (stage remembered chosen : ℕ) → used_up word ≡ 0 → stage ≡ stage_by word a (at_stage a stage remembered chosen)
      → remembered ≡ remembered_by word l a → chosen ≡ chosen_by word l a wish → Stepped word l wish a (at_stage a stage remembered chosen)
  stepped_at stage remembered chosen u s r q = record {
    home = refl;
    actions = refl;
    count = refl;
    next = sym (ap (λ (n : ℕ). a.next + n) u ∙ add-zero a.next);
    stage = s;
    remembered = r;
    chosen = q;
  }

  -- with one action used up, where it had one
  pub stepped_used : (stage : ℕ) → has_action a ≡ true → used_up word ≡ 1 → stage ≡ stage_by word a (at_stage (use_up a) stage 0 0)
      → 0 ≡ remembered_by word l a → 0 ≡ chosen_by word l a wish → Stepped word l wish a (at_stage (use_up a) stage 0 0)
  stepped_used stage h u s r q = record {
    home = refl;
    actions = refl;
    count = refl;
    next = rw (h, u);
    stage = s;
    remembered = r;
    chosen = q;
  }

module _ (l : Land) (wish : ℕ) (a : Agent) where
  -- as it was
  pub stepped_held : Stepped Held l wish a a
  stepped_held = stepped_at Held l wish a a.stage a.remembered a.chosen refl refl refl refl

  pub stepped_asleep : Stepped Asleep l wish a a
  stepped_asleep = stepped_at Asleep l wish a a.stage a.remembered a.chosen refl refl refl refl

  pub stepped_done : Stepped Done l wish a a
  stepped_done = stepped_at Done l wish a a.stage a.remembered a.chosen refl refl refl refl

  -- what it remembers and chooses
  pub looks_around : kind_of a ≤ exit_kind → remembered_by Looked l a ≡ (l.place a.home).parent
  looks_around k = rw (kind_around (kind_of a) k)

  pub looks_inside : open_kind ≤ kind_of a → kind_of a ≤ last_kind → remembered_by Looked l a ≡ a.home
  looks_inside k m = rw (kind_home (kind_of a) k m)

  pub sleeps_at_home : a.stage ≡ 0 → remembered_by Slept l a ≡ a.home
  sleeps_at_home s = rw (ap (λ (n : ℕ). eqb n 0) s)

  pub sleeps_around : a.stage ≡ 2 → kind_of a ≤ open_kind → remembered_by Slept l a ≡ a.remembered
  sleeps_around s k = rw (ap (λ (n : ℕ). eqb n 0) s, ne_eqb (kind_of a) release_kind (λ z. omega arith))

  pub sleeps_nowhere : a.stage ≡ 2 → kind_of a ≡ release_kind → remembered_by Slept l a ≡ none
  sleeps_nowhere s k = rw (ap (λ (n : ℕ). eqb n 0) s, eq-eqb (kind_of a) release_kind k)

  pub took_near : (n : ℕ) → leb n 2 ≡ true → a.stage ≡ n → remembered_by Took l a ≡ a.remembered
  took_near n e s = rw (ap (λ (m : ℕ). leb m 2) s ∙ e)

  pub took_travelling : (n : ℕ) → leb n 2 ≡ false → a.stage ≡ n → remembered_by Took l a ≡ 0
  took_travelling n e s = rw (ap (λ (m : ℕ). leb m 2) s ∙ e)

  pub took_none : (n : ℕ) → eqb n 2 ≡ false → a.stage ≡ n → chosen_by Took l a wish ≡ 0
  took_none n e s = rw (ap (λ (m : ℕ). eqb m 2) s ∙ e)

  pub took_choice : (q : ℕ) → a.stage ≡ 2 → choice l a wish ≡ q → chosen_by Took l a wish ≡ cond (eqb (kind_of a) exit_kind) 0 q
  took_choice q s e = go (told (eqb (kind_of a) exit_kind))
    where
      go : Told (eqb (kind_of a) exit_kind) → chosen_by Took l a wish ≡ cond (eqb (kind_of a) exit_kind) 0 q
      go (yea k) = rw (ap (λ (m : ℕ). eqb m 2) s, k)
      go (nay k) = rw (ap (λ (m : ℕ). eqb m 2) s, k) e
