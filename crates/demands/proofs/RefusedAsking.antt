-- An ask is refused with 10 or 11, a commit with 10, 11 or 18, each exactly under its condition.
-- Idea: by the tests of a call, and then by whether the three are what an ask tells.
use Rattle.std.specs.Prelude.{◌≡◌, refl, ◌≢◌, true, ℕ}
use Rattle.std.proofs.Common.{sym, ap, ap₂, ◌∙◌}
use Rattle.std.proofs.Math.Path.{subst}
use Rattle.table.proofs.BaseLaws.{Told, yea, nay, told, clash}
use Rattle.table.specs.Cell.{cell_of}
use Rattle.table.specs.Sound.{sound}
use Rattle.table.specs.declared.Cell.{Cell}
use Rattle.meaning.specs.Answers.{Did, Refused, Asked, Would, Unasked}
use Rattle.meaning.specs.declared.Stepped.{Stepped}
use Rattle.meaning.specs.declared.Word.{Word}
use Rattle.meaning.specs.Refusals.{unsound_table, no_such_agent, answer_differs}
use Rattle.meaning.specs.Step.{Outcome, step}
use Rattle.meaning.specs.StepCall.{made, turned_away}
use Rattle.meaning.specs.Codes.{word_number}
use Rattle.meaning.specs.Ask.{told_place, would, ask_of, agrees, commit_of}
use Rattle.meaning.proofs.AskLaws.{same_agrees, other_differs, ask_unsound, ask_unknown, ask_given, step_given}
use Rattle.meaning.proofs.AskLaws.{commit_through, commit_stopped, commit_unsound, commit_unknown}
use Rattle.demands.specs.Refusals.{ask_call, commit_call, Grounds, ask_10, ask_11, commit_10, commit_11, commit_18}
use Rattle.demands.proofs.RefusedLaws.{never, of}

module _ (t : Cell) (x wish : ℕ) where
  -- from an ask's answer to the condition
  pub ask_grounds : (number : ℕ) → ask_of t x wish ≡ Unasked number → Grounds (ask_call t x wish) number 0
  ask_grounds number e = go (told (sound (cell_of t))) (told ((cell_of t).given x))
    where
      go : Told (sound (cell_of t)) → Told ((cell_of t).given x) → Grounds (ask_call t x wish) number 0
      go (yea s) (yea g) =
          let f : would (step (cell_of t) x wish) (told_place (cell_of t) x wish) ≡ Unasked number = sym (ask_given t x wish s g) ∙ e in
          never (cc)
      go (yea s) (nay g) =
          let f : Unasked no_such_agent ≡ Unasked number = sym (ask_unknown t x wish s g) ∙ e in
          let z : no_such_agent ≡ number = cc in of z (ask_11 s g)
      go (nay s) _ =
          let f : Unasked unsound_table ≡ Unasked number = sym (ask_unsound t x wish s) ∙ e in
          let z : unsound_table ≡ number = cc in of z (ask_10 s)

  module _ (word woken place : ℕ) where
    -- an ask does not tell the three: a commit of them is refused with 18
    pub commit_different : sound (cell_of t) ≡ true → (cell_of t).given x ≡ true
        → ((w : Word) → word_number w ≡ word → ask_of t x wish ≢ Would w woken place) → commit_of t x wish word woken place ≡ turned_away t answer_differs
    commit_different s g d =
        let o : Outcome = step (cell_of t) x wish in
        commit_stopped t x wish word woken place
        (ap (λ (a : Asked). agrees a word woken place) (ask_given t x wish s g)
        ∙ other_differs o.word o.woken (told_place (cell_of t) x wish) word woken place
        (λ e m p. d o.word e (ask_given t x wish s g ∙ ap₂ (Would o.word) m p)))

    -- from a commit's answer to the condition
    pub commit_grounds : (number : ℕ) → (commit_of t x wish word woken place).answer ≡ Refused number
        → Grounds (commit_call t x wish word woken place) number 0
    unfolding made turned_away
    commit_grounds number e = go (told (sound (cell_of t))) (told ((cell_of t).given x)) (told (agrees (ask_of t x wish) word woken place))
      where
        -- what the commit is answers so
        is : {r : Stepped} → commit_of t x wish word woken place ≡ r → r.answer ≡ Refused number
        is q = subst (λ (r : Stepped). r.answer ≡ Refused number) q e

        go : Told (sound (cell_of t)) → Told ((cell_of t).given x) → Told (agrees (ask_of t x wish) word woken place)
            → Grounds (commit_call t x wish word woken place) number 0
        go (nay s) _ _ =
            let f : Refused unsound_table ≡ Refused number = is (commit_unsound t x wish word woken place s) in
            let z : unsound_table ≡ number = cc in of z (commit_10 s)
        go (yea s) (nay g) _ =
            let f : Refused no_such_agent ≡ Refused number = is (commit_unknown t x wish word woken place s g) in
            let z : no_such_agent ≡ number = cc in of z (commit_11 s g)
        go (yea s) (yea g) (yea a) =
            let f : Did (step (cell_of t) x wish).word (step (cell_of t) x wish).woken ≡ Refused number =
            is (commit_through t x wish word woken place a ∙ step_given t x wish s g) in
            never (cc)
        go (yea s) (yea g) (nay a) =
            let f : Refused answer_differs ≡ Refused number = is (commit_stopped t x wish word woken place a) in
            let z : answer_differs ≡ number = cc in
            of z (commit_18 s g (λ w e q. clash (subst (λ (b : Asked). agrees b word woken place ≡ true) (sym q)
            (same_agrees w woken place word woken place e refl refl)) a))
