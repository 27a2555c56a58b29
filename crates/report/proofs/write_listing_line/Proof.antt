-- The line is the word, the listing and a line end, one after another.
use Rattle.text.proofs.TextLaws.{least_le, next, wrote_length}
use borrow.Author.Rules.{rules}
use Rattle.report.proofs.write_listing_line.Statement.{statement}
use Rattle.report.proofs.write_listing_line.Tie as tie

returns : tie.Need-returns
returns c =
    let p = c.before.before.before.before.before.before.before.before.before.before.before.before.before.before.before.before.requires in
    next p (next p c.before.before.before.before.before.before.before.before.before.before.before.before.write_bytes-said.ensures c.before.before.before.before.before.before.before.before.before.offset-i.ensures c.before.before.before.before.before.before.before.write_listing-listed.ensures) c.before.before.before.before.offset-j.ensures c.before.before.write_byte.ensures

pub write_listing_line_spec : {M : Type 1} → statement M
write_listing_line_spec =
    tie.close
    (tie.spec
    (λ c κs. search rules) (λ c κs. search rules)
    (λ c. (least_le _ _ _ c.offset-i.ensures).1) (λ c. (least_le _ _ _ c.offset-i.ensures).1) (λ c. search rules) (λ c κs. search rules) (λ c κs. search rules)
    (λ c. (least_le _ _ _ c.offset-j.ensures).1) (λ c. (least_le _ _ _ c.offset-j.ensures).1) (λ c. search rules) (λ c κs. search rules)
    (λ c. wrote_length (returns c)) returns)
