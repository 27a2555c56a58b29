-- Laws of a log of arrivals: each number at its last arrival, and how this goes on when some arrive again.
-- Idea: the row of the places is that of a bare floor to which the numbers of the log came in the order of their last arrivals.
use Rattle.std.specs.Prelude.{◌≡◌, refl, Bool, true, false, not, ◌&&◌, ◌||◌, List, [], ◌∷◌, ◌++◌, ℕ, suc, ◌+◌, ◌≤◌, ◌<◌, eqb, length}
use Rattle.std.proofs.Common.{sym, ap, ap₂, ◌∙◌, zero-add, arith, eqb-true, eq-eqb, ne_eqb}
use Rattle.order.specs.Row.{keep, later, latest, occurs, position_of, counting_row, loaded_row}
use Rattle.order.proofs.RowLaws.{occurs_append, occurs_keep}
use Rattle.order.proofs.RowLawsLater.{keep_ext, keep_all, keep_none, later_behind, loaded_more}
use Rattle.table.proofs.BaseLaws.{Told, yea, nay, told, clash}
use Rattle.demands.specs.FirstCome.{lasts, last_arrival}

-- ---- each number at its last arrival

pub occurs_lasts : (q : ℕ) (log : List ℕ) → occurs q (lasts log) ≡ occurs q log
unfolding occurs lasts
occurs_lasts q [] = refl
occurs_lasts q (r ∷ log) = go (told (occurs r log)) (told (eqb q r)) (occurs_lasts q log)
  where
    go : Told (occurs r log) → Told (eqb q r) → occurs q (lasts log) ≡ occurs q log → occurs q (lasts (r ∷ log)) ≡ (eqb q r || occurs q log)
    go (yea o) (yea e) h = rw (o, e) (h ∙ ap (λ (s : ℕ). occurs s log) (eqb-true q r e) ∙ o)
    go (yea o) (nay e) h = rw (o, e) h
    go (nay o) (yea e) h = rw (o, occurs, e)
    go (nay o) (nay e) h = rw (o, occurs, e) h

-- then others arrive
lasts_append : (log ns : List ℕ) → lasts (log ++ ns) ≡ keep (λ q. not (occurs q ns)) (lasts log) ++ lasts ns
unfolding lasts keep
lasts_append [] ns = refl
lasts_append (q ∷ log) ns = go (told (occurs q log)) (told (occurs q ns)) (lasts_append log ns)
  where
    go : Told (occurs q log) → Told (occurs q ns) → lasts (log ++ ns) ≡ keep (λ r. not (occurs r ns)) (lasts log) ++ lasts ns
        → lasts (q ∷ (log ++ ns)) ≡ keep (λ r. not (occurs r ns)) (lasts (q ∷ log)) ++ lasts ns
    go (yea o) _ h = rw (occurs_append q log ns, o) h
    go (nay o) (yea e) h = rw (occurs_append q log ns, o, e) h
    go (nay o) (nay e) h = rw (occurs_append q log ns, o, e) (ap (λ (r : List ℕ). q ∷ r) h)

-- those of the log that pass a test, each at its last arrival, stand there once
lasts_keep : (f : ℕ → Bool) (log : List ℕ) → lasts (keep f (lasts log)) ≡ keep f (lasts log)
unfolding lasts keep
lasts_keep f [] = refl
lasts_keep f (q ∷ log) = go (told (occurs q log)) (told (f q)) (lasts_keep f log)
  where
    go : Told (occurs q log) → Told (f q) → lasts (keep f (lasts log)) ≡ keep f (lasts log) → lasts (keep f (lasts (q ∷ log))) ≡ keep f (lasts (q ∷ log))
    go (yea o) _ h = rw o h
    go (nay o) (yea e) h = rw (o, keep, e, lasts, occurs_keep f q (lasts log), e, occurs_lasts q log, o) (ap (λ (r : List ℕ). q ∷ r) h)
    go (nay o) (nay e) h = rw (o, keep, e) h

-- one number of the log
pub keep_came : (h : ℕ) (log : List ℕ) → occurs h log ≡ true → keep (λ q. eqb q h) (lasts log) ≡ h ∷ []
unfolding lasts keep occurs
keep_came h [] o = clash o refl
keep_came h (r ∷ log) o = go (told (occurs r log)) (told (eqb h r)) (keep_came h log)
  where
    go : Told (occurs r log) → Told (eqb h r) → (occurs h log ≡ true → keep (λ q. eqb q h) (lasts log) ≡ h ∷ []) → keep (λ q. eqb q h) (lasts (r ∷ log)) ≡ h ∷ []
    go (yea p) (yea e) k = rw p (k (ap (λ (s : ℕ). occurs s log) (eqb-true h r e) ∙ p))
    go (yea p) (nay e) k = rw p (k (rw e at o))
    go (nay p) (yea e) k = rw (p, keep, eq-eqb r h (sym (eqb-true h r e))) (ap₂ (λ (x : ℕ) (s : List ℕ). x ∷ s) (sym (eqb-true h r e))
        (keep_none (λ q. eqb q h) (lasts log) (λ q m. ne_eqb q h (λ z. clash (sym (occurs_lasts q log) ∙ m) (ap (λ (s : ℕ). occurs s log) (z ∙ eqb-true h r e) ∙ p)))))
    go (nay p) (nay e) k = rw (p, keep, ne_eqb r h (λ z. clash (eq-eqb h r (sym z)) e)) (k (rw e at o))

-- ---- the row of a log

-- some of the log arrive again: they become the latest, in the order of their last arrivals
pub row_again : (f : ℕ → Bool) (log : List ℕ) → ((q : ℕ) → f q ≡ true → occurs q log ≡ true)
    → later f (loaded_row (lasts log)) ≡ loaded_row (lasts (log ++ keep f (lasts log)))
unfolding loaded_row later
row_again f log h = later_behind f (keep (λ q. not (occurs q (lasts log))) counting_row) (lasts log) away
    ∙ ap₂ (λ (a b : List ℕ). a ++ b) (keep_ext _ _ counting_row (λ q _. ap not (known q)))
    (ap₂ (λ (a b : List ℕ). a ++ b) (keep_ext _ _ (lasts log) stays) (sym (lasts_keep f log)) ∙ sym (lasts_append log (keep f (lasts log))))
  where
    -- one that has not come does not pass
    away : (q : ℕ) → occurs q (keep (λ r. not (occurs r (lasts log))) counting_row) ≡ true → f q ≡ false
    away q o = go (told (f q)) (sym (occurs_keep (λ r. not (occurs r (lasts log))) q counting_row) ∙ o)
      where
        go : Told (f q) → (not (occurs q (lasts log)) && occurs q counting_row) ≡ true → f q ≡ false
        go (nay e) m = e
        go (yea e) m = clash m (rw (occurs_lasts q log, h q e))

    -- the log has the same numbers after
    known : (q : ℕ) → occurs q (lasts log) ≡ occurs q (lasts (log ++ keep f (lasts log)))
    known q = occurs_lasts q log ∙ go (occurs q log) (f q)
        ∙ sym (occurs_lasts q (log ++ keep f (lasts log)) ∙ occurs_append q log (keep f (lasts log))
        ∙ ap (◌||◌ (occurs q log)) (occurs_keep f q (lasts log) ∙ ap (◌&&◌ (f q)) (occurs_lasts q log)))
      where
        go : (x y : Bool) → x ≡ (x || y && x)
        go true y = refl
        go false true = refl
        go false false = refl

    stays : (q : ℕ) → occurs q (lasts log) ≡ true → not (f q) ≡ not (occurs q (keep f (lasts log)))
    stays q o = ap not (sym (occurs_keep f q (lasts log) ∙ ap (◌&&◌ (f q)) o ∙ go (f q)))
      where
        go : (b : Bool) → (b && true) ≡ b
        go true = refl
        go false = refl

-- one of the log arrives again
pub row_came : (h : ℕ) (log : List ℕ) → occurs h log ≡ true → latest h (loaded_row (lasts log)) ≡ loaded_row (lasts (log ++ (h ∷ [])))
row_came h log o = row_again (λ q. eqb q h) log (λ q e. ap (λ (s : ℕ). occurs s log) (eqb-true q h e) ∙ o)
    ∙ ap (λ (s : List ℕ). loaded_row (lasts (log ++ s))) (keep_came h log o)

-- one arrives that never came
pub row_new : (m : ℕ) (log : List ℕ) → m < 64 → occurs m log ≡ false → latest m (loaded_row (lasts log)) ≡ loaded_row (lasts (log ++ (m ∷ [])))
unfolding lasts occurs
row_new m log l o = loaded_more (lasts log) m l (occurs_lasts m log ∙ o)
    ∙ ap loaded_row (sym (lasts_append log (m ∷ []) ∙ ap (λ (a : List ℕ). a ++ (m ∷ [])) (keep_all _ (lasts log) other)))
  where
    other : (q : ℕ) → occurs q (lasts log) ≡ true → not (eqb q m || false) ≡ true
    other q k = rw (ne_eqb q m (λ z. clash (sym (occurs_lasts q log) ∙ k) (ap (λ (s : ℕ). occurs s log) z ∙ o)))

-- one arrives, again or not
pub row_arrived : (m : ℕ) (log : List ℕ) → m < 64 → latest m (loaded_row (lasts log)) ≡ loaded_row (lasts (log ++ (m ∷ [])))
row_arrived m log l = go (told (occurs m log))
  where
    go : Told (occurs m log) → latest m (loaded_row (lasts log)) ≡ loaded_row (lasts (log ++ (m ∷ [])))
    go (yea o) = row_came m log o
    go (nay o) = row_new m log l o

-- ---- the first in the row is the one that came first

-- a number that came has a last arrival
pub arrival_came : (q : ℕ) (log : List ℕ) → occurs q log ≡ true → 1 ≤ last_arrival q log
unfolding occurs last_arrival
arrival_came q [] o = clash o refl
arrival_came q (r ∷ log) o = go (told (occurs q log))
  where
    go : Told (occurs q log) → 1 ≤ last_arrival q (r ∷ log)
    go (yea k) = rw k (omega arith)
    go (nay k) = rw (k, first (eqb q r) (rw k at o)) (omega arith)
      where
        first : (b : Bool) → (b || false) ≡ true → b ≡ true
        first true e = refl
        first false e = e

-- where each number stands at its last arrival only, the earlier arrival stands first
lasts_position : (q r : ℕ) (log : List ℕ) → occurs q log ≡ true → occurs r log ≡ true → position_of q (lasts log) < position_of r (lasts log)
    → last_arrival q log < last_arrival r log
unfolding occurs lasts last_arrival position_of
lasts_position q r [] o p l = clash o refl
lasts_position q r (s ∷ log) o p l = go (told (occurs s log)) (told (eqb q s)) (told (eqb r s)) (lasts_position q r log)
  where
    -- s itself came again
    again : occurs s log ≡ true → (j : ℕ) → (eqb j s || occurs j log) ≡ true → occurs j log ≡ true
    again e j m = pick (told (eqb j s))
      where
        pick : Told (eqb j s) → occurs j log ≡ true
        pick (yea k) = ap (λ (n : ℕ). occurs n log) (eqb-true j s k) ∙ e
        pick (nay k) = rw k at m

    go : Told (occurs s log) → Told (eqb q s) → Told (eqb r s)
        → (occurs q log ≡ true → occurs r log ≡ true → position_of q (lasts log) < position_of r (lasts log) → last_arrival q log < last_arrival r log)
        → last_arrival q (s ∷ log) < last_arrival r (s ∷ log)
    go (yea e) _ _ h = rw (again e q o, again e r p) (let z = h (again e q o) (again e r p) (rw e at l) in omega arith)
    go (nay e) (yea a) (yea b) h = absurd (omega (arith, rw (e, position_of, a, b) at l))
    go (nay e) (yea a) (nay b) h =
        let m : occurs r log ≡ true = rw b at p in
        rw (ap (λ (n : ℕ). occurs n log) (eqb-true q s a) ∙ e, a, m) (omega (arith, arrival_came r log m))
    go (nay e) (nay a) (yea b) h = absurd (omega (arith, rw (e, position_of, a, b) at l))
    go (nay e) (nay a) (nay b) h =
        let m : occurs q log ≡ true = rw a at o in
        let k : occurs r log ≡ true = rw b at p in
        rw (m, k) (let z = h m k (omega (arith, rw (e, position_of, a, b) at l)) in omega arith)

-- behind numbers that it is none of
position_behind : (q : ℕ) (a b : List ℕ) → occurs q a ≡ false → position_of q (a ++ b) ≡ length a + position_of q b
unfolding occurs position_of
position_behind q [] b o = sym (zero-add (position_of q b))
position_behind q (r ∷ a) b o = go (told (eqb q r)) (position_behind q a b)
  where
    go : Told (eqb q r) → (occurs q a ≡ false → position_of q (a ++ b) ≡ length a + position_of q b) → position_of q (r ∷ (a ++ b)) ≡ suc (length a) + position_of q b
    go (yea e) h = clash (rw e) o
    go (nay e) h = rw e (let z = h (rw e at o) in omega arith)

-- so what stands first behind them stands first
first_behind : (q r : ℕ) (a b : List ℕ) → occurs q a ≡ false → occurs r a ≡ false → position_of q (a ++ b) < position_of r (a ++ b) → position_of q b < position_of r b
first_behind q r a b o p l = omega (arith, position_behind q a b o, position_behind r a b p)

-- of two that came, the one that stands first in the row came first
pub row_first : (q r : ℕ) (log : List ℕ) → occurs q log ≡ true → occurs r log ≡ true
    → position_of q (loaded_row (lasts log)) < position_of r (loaded_row (lasts log)) → last_arrival q log < last_arrival r log
unfolding loaded_row
row_first q r log o p l =
    lasts_position q r log o p (first_behind q r (keep (λ j. not (occurs j (lasts log))) counting_row) (lasts log) (away q o) (away r p) l)
  where
    -- it is none of those that never came
    away : (j : ℕ) → occurs j log ≡ true → occurs j (keep (λ i. not (occurs i (lasts log))) counting_row) ≡ false
    away j k = occurs_keep (λ i. not (occurs i (lasts log))) j counting_row ∙ rw (occurs_lasts j log, k)
