-- The stage says which function answers, and each answers the change of its stages.
use Rattle.std.proofs.Common.{◌≡◌, ℕ, ◌<◌, sym, ap, ◌∙◌, arith, ne_eqb, le-leb}
use Rattle.std.proofs.lemmas.Bool.{lt-leb}
use Rattle.table.specs.Cell.{Land}
use Rattle.table.specs.declared.Agent.{Agent}
use Rattle.table.specs.declared.Place.{Place}
use Rattle.stages.specs.Changes.{own_land, looks, travels, idles, own_change}
use Rattle.stages.proofs.own_step.Goals as goal

-- the change of a stage, by its number
at_stage : (l : Land) (a : Agent) {n k : ℕ} → n ≡ k → own_change k l a ≡ own_change n l a
at_stage l a e = ap (λ (n : ℕ). own_change n l a) (sym e)

on_way : (l : Land) (a : Agent) (n : ℕ) → 1 < n → n < 7 → travels l a ≡ own_change n l a
unfolding own_change
on_way l a n low high = rw (ne_eqb n 0 (omega arith), ne_eqb n 1 (omega arith), le-leb n 6 (omega arith))

at_rest : (l : Land) (a : Agent) (n : ℕ) → 6 < n → idles n ≡ own_change n l a
unfolding own_change
at_rest l a n low = rw (ne_eqb n 0 (omega arith), ne_eqb n 1 (omega arith), lt-leb n 6 low)

pub returns-in-0 : goal.returns-in-0
unfolding own_change
returns-in-0 c = c.look.ensures ∙ ap (λ (h : Place). looks (own_land h c.args.used) c.args.a) c.own_place-h.ensures ∙ at_stage _ c.args.a c.in-0.is

pub returns-in-1 : goal.returns-in-1
unfolding own_change
returns-in-1 c = c.lock_first.ensures ∙ at_stage _ c.args.a c.in-1.is

pub returns-in-2-to-6 : goal.returns-in-2-to-6
returns-in-2-to-6 c =
    c.travel.ensures ∙ ap (λ (h : Place). travels (own_land h c.args.used) c.args.a) c.own_place-h.ensures
    ∙ on_way _ c.args.a c.args.a.stage (omega arith) (omega arith)

pub returns-in-7-to-255 : goal.returns-in-7-to-255
returns-in-7-to-255 c = c.idle.ensures ∙ at_rest _ c.args.a c.args.a.stage (omega arith)
