-- The row of unused actions of an agent: its first is the next action, using that up leaves the rest, and an action more is the last.
-- By cases on whether an action is left.
use Rattle.std.specs.Prelude.{◌≡◌, refl, List, [], ◌∷◌, ◌++◌, true, false, ℕ, zero, suc, ◌+◌, ◌-◌, ◌≤◌, ◌<◌, ltb, length, get_or, set}
use Rattle.std.proofs.Common.{sym, ap, ap₂, ◌∙◌, subst, add-one, get_or-set_same, get_or-set_other}
use native.Mathlib.Omega.{arith}
use borrow.Author.Tests.{ltb-true, ltb-false, lt-ltb}
use Rattle.table.specs.Base.{tab}
use Rattle.table.proofs.BaseLaws.{Told, yea, nay, told}
use Rattle.table.specs.Cell.{no_action, has_action, next_action, kind_of, name_of, row_end, unused, last_kind}
use Rattle.table.proofs.KindLaws.{Kind, kind_is}
use Rattle.table.specs.declared.Action.{Action}
use Rattle.table.specs.declared.Agent.{Agent}
use Rattle.meaning.specs.Update.{use_up, at_stage}
use Rattle.meaning.specs.File.{with_action}
use Rattle.meaning.specs.Calculus.{first_of, rest_of}
use Rattle.calculus.specs.Formed.{Good, none, more}
use Rattle.calculus.proofs.MoveFormed.{good_rest, good_first}
use Rattle.demands.specs.Invariant.{Fit}

-- ---- the row

-- a row of n actions from the k-th on: its first, none, and all but the first
first_tab : (f : ℕ → Action) (n k : ℕ) → 1 ≤ n → first_of (tab f n k) ≡ f k
unfolding tab
first_tab f zero k l = absurd (omega arith)
first_tab f (suc n) k l = refl

empty_tab : (f : ℕ → Action) (n k : ℕ) → n ≤ 0 → tab f n k ≡ []
unfolding tab
empty_tab f zero k l = refl
empty_tab f (suc n) k l = absurd (omega arith)

rest_tab : (f : ℕ → Action) (n m k : ℕ) → m ≡ n - 1 → tab f m (k + 1) ≡ rest_of (tab f n k)
unfolding tab
rest_tab f zero m k e = empty_tab f m (k + 1) (omega arith)
rest_tab f (suc n) m k e = ap₂ (tab f) (let z : m ≡ n = omega arith in z) (add-one k)

-- a row ends with its last action or the sixteenth, whichever is first
pub end_most : (n : ℕ) → (row_end n ≤ n) × (row_end n ≤ 16)
end_most n = go (told (ltb n 16))
  where
    go : Told (ltb n 16) → (row_end n ≤ n) × (row_end n ≤ 16)
    go (yea e) = let z : row_end n ≡ n = unfold row_end in rw e in (omega arith, omega (arith, ltb-true n 16 e))
    go (nay e) = let z : row_end n ≡ 16 = unfold row_end in rw e in (omega (arith, ltb-false n 16 e), omega arith)

pub end_past : (n j : ℕ) → j < n → j < 16 → j < row_end n
end_past n j l m = go (told (ltb n 16))
  where
    go : Told (ltb n 16) → j < row_end n
    go (yea e) = let z : row_end n ≡ n = unfold row_end in rw e in omega arith
    go (nay e) = let z : row_end n ≡ 16 = unfold row_end in rw e in omega arith

-- without an action left the row is empty
pub unused_none : (a : Agent) → has_action a ≡ false → unused a ≡ []
unfolding unused
unused_none a e = let l = ltb-false a.next a.count e in empty_tab _ (row_end a.count - a.next) a.next (omega (arith, (end_most a.count).0))

-- and the next action is none
pub next_none : (a : Agent) → has_action a ≡ false → next_action a ≡ no_action
unfolding next_action
next_none a e = rw e

-- the first unused action is the next one
pub first_unused : (a : Agent) → Fit a → first_of (unused a) ≡ next_action a
unfolding unused next_action
first_unused a f = go (told (has_action a))
  where
    go : Told (has_action a) → first_of (unused a) ≡ next_action a
    go (yea e) =
        let l = ltb-true a.next a.count e in
        let few = f.few in
        first_tab _ (row_end a.count - a.next) a.next (omega (arith, end_past a.count a.next l (omega arith)))
        ∙ sym (rw (e, lt-ltb a.next 16 (omega arith)))
    go (nay e) = ap first_of (unused_none a e) ∙ sym (next_none a e)

-- an action used up leaves the rest of the row
pub rest_unused : (a : Agent) → unused (use_up a) ≡ rest_of (unused a)
unfolding unused
rest_unused a = go (told (has_action a))
  where
    go : Told (has_action a) → unused (use_up a) ≡ rest_of (unused a)
    go (yea e) = rw e (rest_tab _ (row_end a.count - a.next) (row_end a.count - (a.next + 1)) a.next (omega arith))
    go (nay e) = rw e (unused_none a e ∙ sym (ap rest_of (unused_none a e)))

-- ---- an action more

-- a table with one more at its end
tab_more : (f g : ℕ → Action) (n k : ℕ) (x : Action) → ((j : ℕ) → j < k + n → g j ≡ f j) → g (k + n) ≡ x → tab g (suc n) k ≡ tab f n k ++ (x ∷ [])
unfolding tab
tab_more f g zero k x h e = ap (λ z. z ∷ []) (ap g (let z : k ≡ k + 0 = omega arith in z) ∙ e)
tab_more f g (suc n) k x h e =
    ap₂ ◌∷◌ (h k (omega arith)) (tab_more f g n (suc k) x (λ j l. h j (omega arith)) (ap g (let z : suc k + n ≡ k + suc n = omega arith in z) ∙ e))

-- a row of sixteen actions at most ends at its count
row_end_lem : (n : ℕ) → n ≤ 16 → row_end n ≡ n
unfolding row_end
row_end_lem n l = go (told (ltb n 16))
  where
    go : Told (ltb n 16) → row_end n ≡ n
    go (yea e) = rw e
    go (nay e) = rw e (omega (arith, ltb-false n 16 e))

-- an action more is the last of the unused ones
pub unused_more : (a : Agent) (k v : ℕ) → a.next ≤ a.count → a.count < 16 → length a.actions ≡ 16
    → unused (with_action a k v) ≡ unused a ++ (record { kind = k; name = v } ∷ [])
unfolding unused with_action
unused_more a k v l h w =
    ap (λ n. tab g n a.next) longer
    ∙ tab_more f g (a.count - a.next) a.next x
    (λ j m. get_or-set_other a.actions a.count j x no_action (λ e. omega arith))
    (ap g there ∙ get_or-set_same a.actions a.count x no_action (omega arith))
    ∙ ap (λ n. tab f n a.next ++ (x ∷ [])) before
  where
    x : Action
    x = record { kind = k; name = v }

    f : ℕ → Action
    f j = get_or a.actions j no_action

    g : ℕ → Action
    g j = get_or (set a.actions a.count x) j no_action

    longer : row_end (a.count + 1) - a.next ≡ suc (a.count - a.next)
    longer = omega (arith, row_end_lem (a.count + 1) (omega arith))

    there : a.next + (a.count - a.next) ≡ a.count
    there = omega arith

    before : a.count - a.next ≡ row_end a.count - a.next
    before = omega (arith, row_end_lem a.count (omega arith))

-- ---- kind and name of the next action

-- what a row in range says of its first action
good_kind : {l : List Action} → Good l → (first_of l).kind ≤ last_kind
good_kind none = omega arith
good_kind (more a b n g) = b

good_some : (f : ℕ → Action) (n k : ℕ) → 1 ≤ n → Good (tab f n k) → 1 ≤ (first_of (tab f n k)).kind
unfolding tab
good_some f zero k l g = absurd (omega arith)
good_some f (suc n) k l (more a b w g) = a

-- the kind of the next action is the last at most
pub kind_small : (a : Agent) → Fit a → kind_of a ≤ last_kind
kind_small a f = subst (λ (n : ℕ). n ≤ last_kind) (ap (λ (x : Action). x.kind) (first_unused a f)) (good_kind f.good)

-- and its name is not 0
pub name_some : (a : Agent) → Fit a → 1 ≤ kind_of a → 1 ≤ name_of a
name_some a f k = subst (λ (x : Action). 1 ≤ x.kind → 1 ≤ x.name) (first_unused a f) (good_first f.good) k

-- an action is left exactly if the next one has a kind
pub kind_some : (a : Agent) → Fit a → has_action a ≡ true → 1 ≤ kind_of a
unfolding unused
kind_some a f e =
    let l = ltb-true a.next a.count e in
    let few = f.few in
    subst (λ (x : Action). 1 ≤ x.kind) (first_unused a f)
    (good_some _ (row_end a.count - a.next) a.next (omega (arith, end_past a.count a.next l (omega arith))) f.good)

pub has_some : (a : Agent) → 1 ≤ kind_of a → has_action a ≡ true
has_some a k = go (told (has_action a))
  where
    go : Told (has_action a) → has_action a ≡ true
    go (yea e) = e
    go (nay e) = absurd (omega (arith, subst (λ (x : Action). 1 ≤ x.kind) (next_none a e) k))

-- it enters, exits, opens or releases
pub kind_of_lem : (a : Agent) → Fit a → 1 ≤ kind_of a → Kind (kind_of a)
kind_of_lem a f k = kind_is (kind_of a) k (kind_small a f)

-- ---- the row stays in order

-- at another stage
pub fit_stage : (a : Agent) (stage remembered chosen : ℕ) → Fit a → Fit (at_stage a stage remembered chosen)
unfolding unused
fit_stage a stage remembered chosen f = record { ordered = f.ordered; few = f.few; good = f.good }

-- with an action used up
pub fit_used : (a : Agent) → Fit a → has_action a ≡ true → Fit (use_up a)
fit_used a f e = let l = ltb-true a.next a.count e in
    record { ordered = rw e (omega arith); few = f.few; good = subst Good (sym (rest_unused a)) (good_rest f.good) }
