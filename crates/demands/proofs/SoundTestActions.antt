-- A row of actions fits: the proposition and the test say the same, and each of the row's actions is in range.
-- Idea: a table of actions is good exactly if the action at every number is in range.
use Rattle.std.specs.Prelude.{◌≡◌, ◌≢◌, ◌⊎◌, [], false, ℕ, zero, suc, ◌+◌, ◌-◌, ◌≤◌, ◌<◌, ltb, leb}
use Rattle.std.proofs.Math.Path.{sym, ap}
use Rattle.std.proofs.Common.{◌∙◌, inl, inr, arith}
use Rattle.std.proofs.Math.Bool.{true}
use Rattle.std.proofs.Math.ListN.{get_or, length}
use borrow.Author.Tests.{ltb-true, ltb-false, lt-ltb, le-ltb, le-leb, leb-true}
use Rattle.table.specs.Base.{tab}
use Rattle.table.proofs.BaseLaws.{Told, yea, nay, told, eq?, and_left, and_right, all_yes, all_at, length_tab}
use Rattle.table.specs.Cell.{no_action, has_action, row_end, unused, last_kind}
use Rattle.table.specs.Sound.{action_fits, action_at, actions_fit}
use Rattle.table.specs.declared.Action.{Action}
use Rattle.table.specs.declared.Agent.{Agent}
use Rattle.calculus.specs.Formed.{Good, none, more}
use Rattle.demands.specs.Invariant.{Fit}
use Rattle.demands.proofs.Actions.{end_most, end_past}

-- ---- one action

-- a kind 1 to 4 and a name that is not 0
pub record InRange (x : Action) : Type 0 where
  pub low : 1 ≤ x.kind
  pub high : x.kind ≤ last_kind
  pub named : 1 ≤ x.name

range_true : (x : Action) → InRange x → action_fits x ≡ true
range_true x r = rw (le-leb 1 x.kind r.low, le-leb x.kind last_kind r.high, le-leb 1 x.name r.named)

range_holds : (x : Action) → action_fits x ≡ true → InRange x
range_holds x e =
    let rest = and_right (leb 1 x.kind) _ e in
    record {
      low = leb-true _ _ (and_left (leb 1 x.kind) _ e);
      high = leb-true _ _ (and_left (leb x.kind last_kind) _ rest);
      named = leb-true _ _ (and_right (leb x.kind last_kind) _ rest);
    }

-- ---- a row

good_tab : (f : ℕ → Action) (n k : ℕ) → ((j : ℕ) → k ≤ j → j < k + n → InRange (f j)) → Good (tab f n k)
unfolding tab
good_tab f zero k h = none
good_tab f (suc n) k h =
    let r = h k (omega arith) (omega arith) in
    more r.low r.high r.named (good_tab f n (suc k) (λ j l m. h j (omega arith) (omega arith)))

good_at : (f : ℕ → Action) (n k j : ℕ) → Good (tab f n k) → k ≤ j → j < k + n → InRange (f j)
unfolding tab
good_at f zero k j g l m = absurd (omega arith)
good_at f (suc n) k j (more a b c g) l m = go (eq? j k) (λ u v. good_at f n (suc k) j g u v)
  where
    go : (j ≡ k) ⊎ (j ≢ k) → (suc k ≤ j → j < suc k + n → InRange (f j)) → InRange (f j)
    go (inl e) r = rw e (record { low = a; high = b; named = c })
    go (inr d) r = r (omega arith) (omega arith)

module _ (a : Agent) where
  -- each unused action is in range
  pub fit_at : Fit a → (j : ℕ) → a.next ≤ j → j < a.count → InRange (get_or a.actions j no_action)
  unfolding unused
  fit_at f j l m = good_at (λ i. get_or a.actions i no_action) (row_end a.count - a.next) a.next j f.good l
      (omega (arith, f.ordered, end_past a.count j m (omega (arith, f.few))))

  -- so a row with every action in range fits
  pub fit_from : a.next ≤ a.count → a.count ≤ 16 → ((j : ℕ) → a.next ≤ j → j < a.count → InRange (get_or a.actions j no_action)) → Fit a
  unfolding unused
  fit_from o f h = record { ordered = o; few = f; good = good_tab _ _ _ (λ j l m. h j l (omega (arith, (end_most a.count).0))) }

  -- a row without actions fits
  pub fit_empty : a.next ≡ 0 → a.count ≡ 0 → Fit a
  fit_empty n k = fit_from (omega arith) (omega arith) (λ j l m. absurd (omega arith))

  -- the test says no less
  pub fit_true : Fit a → actions_fit a ≡ true
  unfolding actions_fit
  fit_true f = rw (le-leb a.next a.count f.ordered, le-leb a.count 16 f.few)
      (all_yes (action_at a) 16 (λ j _. go j (told (ltb j a.next)) (told (ltb j a.count))))
    where
      go : (j : ℕ) → Told (ltb j a.next) → Told (ltb j a.count) → action_at a j ≡ true
      go j (yea e) _ = rw e
      go j (nay e) (yea h) = rw (e, h) (range_true _ (fit_at f j (ltb-false _ _ e) (ltb-true _ _ h)))
      go j (nay e) (nay h) = rw (e, h)

  -- and no more
  pub fit_holds : actions_fit a ≡ true → Fit a
  unfolding actions_fit
  fit_holds e =
      let rest = and_right (leb a.next a.count) _ e in
      let few = leb-true a.count 16 (and_left (leb a.count 16) _ rest) in
      fit_from (leb-true _ _ (and_left (leb a.next a.count) _ e)) few
      (λ j l m. range_holds _ (rw (le-ltb j a.next l, lt-ltb j a.count m) at
      (all_at (action_at a) 16 j (omega arith) (and_right (leb a.count 16) _ rest))))

  -- an empty row has no action left
  pub none_left : Fit a → unused a ≡ [] → has_action a ≡ false
  unfolding unused
  none_left f e = go (told (has_action a))
    where
      row : row_end a.count - a.next ≡ 0
      row = sym (length_tab (λ j. get_or a.actions j no_action) (row_end a.count - a.next) a.next) ∙ ap length e

      go : Told (has_action a) → has_action a ≡ false
      go (yea h) = let l = ltb-true a.next a.count h in
          absurd (omega (arith, row, end_past a.count a.next l (omega (arith, f.few))))
      go (nay h) = h
