-- By the kind of the action, and by the byte for exit and release.
use Rattle.std.proofs.Common.{ap, ◌∙◌, arith}
use borrow.Author.Tests.{ne_eqb}
use Rattle.checker.specs.OnTable.{name_of}
use Rattle.checker.proofs.TestLaws.{allow_enter, allow_open, allow_exit, allow_release, allow_byte, allow_none}
use Rattle.checker.proofs.rules.allowed.Goals as goal

pub returns-in-1 : goal.returns-in-1
returns-in-1 c = λ l s. c.enters.ensures l s.stands s.told ∙ allow_enter l c.args.h c.args.x c.args.b (omega (arith, c.in-1.is))

pub returns-then-b-eq255 : goal.returns-then-b-eq255
returns-then-b-eq255 c = λ l s.
    c.exits.ensures l (ap (name_of l) s.stands ∙ s.name)
    ∙ allow_exit l c.args.h c.args.x c.args.b (omega (arith, c.in-2.is)) (omega (arith, c.if-b-eq255.true))

pub returns-else-b-eq255 : goal.returns-else-b-eq255
returns-else-b-eq255 c = λ l s.
    ne_eqb c.args.b 255 c.if-b-eq255.false
    ∙ allow_byte l c.args.h c.args.x c.args.b (λ k. omega (arith, k, c.in-2.is)) (λ k. omega (arith, k, c.in-2.is)) c.if-b-eq255.false

pub returns-in-3 : goal.returns-in-3
returns-in-3 c = λ l s. c.opens.ensures l s.told ∙ allow_open l c.args.h c.args.x c.args.b (omega (arith, c.in-3.is))

pub returns-then-b-eq255-2 : goal.returns-then-b-eq255-2
returns-then-b-eq255-2 c = λ l s.
    c.has_room.ensures l s.told.in_use c.args.h c.args.x
    ∙ allow_release l c.args.h c.args.x c.args.b (omega (arith, c.in-4.is)) (omega (arith, c.if-b-eq255-2.true))

pub returns-else-b-eq255-2 : goal.returns-else-b-eq255-2
returns-else-b-eq255-2 c = λ l s.
    ne_eqb c.args.b 255 c.if-b-eq255-2.false
    ∙ allow_byte l c.args.h c.args.x c.args.b (λ k. omega (arith, k, c.in-4.is)) (λ k. omega (arith, k, c.in-4.is)) c.if-b-eq255-2.false

pub returns-in_default : goal.returns-in_default
returns-in_default c = λ l s.
    allow_none l c.args.h c.args.x c.args.b (λ k. omega (arith, k)) (λ k. omega (arith, k)) (λ k. omega (arith, k)) (λ k. omega (arith, k))
