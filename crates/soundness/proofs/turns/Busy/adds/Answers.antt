-- Each arm is what the definition comes to at its stage.
use Rattle.std.proofs.Common.{◌∙◌, ap, arith, Bool, ◌&&◌, ℕ}
use Rattle.table.specs.Cell.{none}
use Rattle.soundness.specs.Turn.{held_with, holds_first, holds_second}
use Rattle.soundness.proofs.StageLaws.{adds_two, adds_three, adds_four, adds_five, adds_six, last_stage}
use Rattle.soundness.proofs.turns.Busy.adds.Goals as goal

pub returns-in-2 : goal.returns-in-2
returns-in-2 c =
    let a = c.args.self.agent in
    c.add.ensures ∙ ap (λ (x : Bool). held_with c.args.held x a.remembered none none) c.holds_first.ensures ∙ adds_two c.args.self c.args.held c.in-2.is

pub returns-in-3 : goal.returns-in-3
returns-in-3 c =
    let b = c.args.self in
    c.add-in-3.ensures
    ∙ ap (λ (x : Bool). held_with c.args.held x b.agent.remembered c.second.result none) c.holds_both.ensures
    ∙ ap (λ (n : ℕ). held_with c.args.held (holds_first b && holds_second b) b.agent.remembered n none) c.second.ensures
    ∙ adds_three b c.args.held c.in-3.is

pub returns-in-4 : goal.returns-in-4
returns-in-4 c = c.add-in-4.ensures ∙ adds_four c.args.self c.args.held c.in-4.is

pub returns-in-5 : goal.returns-in-5
returns-in-5 c =
    let a = c.args.self.agent in
    c.add-in-5.ensures ∙ ap (λ (x : Bool). held_with c.args.held x a.home none a.home) c.locked.ensures ∙ adds_five c.args.self c.args.held c.in-5.is

-- an agent at none of these stages is at stage 6
pub returns-in_default : goal.returns-in_default
returns-in_default c =
    let b = c.args.self in
    let six = last_stage b.agent.stage c.requires (λ e. omega arith) (λ e. omega arith) (λ e. omega arith) (λ e. omega arith) in
    c.add-in_default.ensures ∙ ap (λ (x : Bool). held_with c.args.held x b.agent.home b.home.parent b.agent.home) c.arrives.ensures ∙ adds_six b c.args.held six
