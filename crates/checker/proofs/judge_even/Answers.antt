-- A bad file is found bad; with another the move that is denied decides, or the listing.
use mathlib.Core.Path.{◌∙◌}
use native.Mathlib.Omega.{arith}
use Rattle.checker.proofs.JudgeLaws.{even_found, listing_same, listing_other}
use Rattle.checker.proofs.judge_even.Goals as goal

pub returns-then-p-ne0 : goal.returns-then-p-ne0
returns-then-p-ne0 c =
    let a = c.args in
    let g = c.play-p.ensures.good c.in-Ok.is in
    g.1.1.denied c.if-p-ne0.true a.text.now ∙ even_found g.0 a.trail.now a.text.now c.requires ∙ g.1.0 a.trail.now a.text.now

pub returns-then-is_listing : goal.returns-then-is_listing
returns-then-is_listing c =
    let a = c.args in
    let g = c.play-p.ensures.good c.in-Ok.is in
    listing_same c.play-p.result.cell c.play-p.result.made a.text.now (g.1.1.ended c.if-p-ne0.false (omega (arith, c.requires)) a.text.now) c.is_listing.result
    c.is_listing.ensures c.if-is_listing.true ∙ even_found g.0 a.trail.now a.text.now c.requires ∙ g.1.0 a.trail.now a.text.now

pub returns-else-is_listing : goal.returns-else-is_listing
returns-else-is_listing c =
    let a = c.args in
    let g = c.play-p.ensures.good c.in-Ok.is in
    listing_other c.play-p.result.cell c.play-p.result.made a.text.now (g.1.1.ended c.if-p-ne0.false (omega (arith, c.requires)) a.text.now) c.is_listing.result
    c.is_listing.ensures c.if-is_listing.false ∙ even_found g.0 a.trail.now a.text.now c.requires ∙ g.1.0 a.trail.now a.text.now

pub returns-in-Err : goal.returns-in-Err
returns-in-Err c = c.play-p.ensures.bad c.in-Err.r.number c.in-Err.r.offset c.in-Err.is _ _
