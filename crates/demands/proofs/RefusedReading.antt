-- The reading of a text is refused with 16 or 17, each exactly under its condition, which speaks of the language and not of the machine that reads.
-- Idea: what every text answers (`answers`), and that each answer is given (`read_outside`, `read_overfull`).
use Rattle.std.specs.Prelude.{◌≡◌, false, ℕ, length}
use Rattle.std.proofs.Common.{sym, ap, ◌∙◌, subst, arith}
use Rattle.table.specs.declared.Cell.{Cell}
use Rattle.meaning.specs.Refusals.{outside_language, too_many}
use Rattle.meaning.specs.File.{Load, refused}
use Rattle.language.specs.Grammar.{Text, Contents, floor_typed}
use Rattle.language.specs.Layout.{fits}
use Rattle.language.specs.Read.{read_text}
use Rattle.language.proofs.Answers.{Answers, read, says_too_many, outside, answers, read_overfull}
use Rattle.demands.specs.Refusals.{read_call, Grounds, read_16, read_17}

-- from the answer to the condition
pub reading_grounds : (t : Cell) (text : Text) (number offset : ℕ) → read_text text ≡ refused number offset → Grounds (read_call t text) number offset
reading_grounds t text number offset e = go (answers text) e
  where
    go : {r : Load} → Answers text r → r ≡ refused number offset → Grounds (read_call t text) number offset
    go (read c q f) e = let z : ◌≡◌ {A = ℕ} 0 1 = cc in absurd (omega arith)
    go (says_too_many c q f) e =
        let n : too_many ≡ number = cc in
        let o : length text ≡ offset = cc in
        subst (λ (k : ℕ). Grounds (read_call t text) k offset) n (subst (λ (i : ℕ). Grounds (read_call t text) too_many i) o (read_17 c q f))
    go (outside i b l) e =
        let n : outside_language ≡ number = cc in
        let o : i ≡ offset = cc in
        subst (λ (k : ℕ). Grounds (read_call t text) k offset) n (subst (λ (j : ℕ). Grounds (read_call t text) outside_language j) o (read_16 b l))

-- the text of a tree that does not fit
pub overfull_text : (text : Text) (c : Contents) → floor_typed c ≡ text → fits c ≡ false → read_text text ≡ refused too_many (length text)
overfull_text text c q f = ap read_text (sym q) ∙ read_overfull c f ∙ ap (λ (s : Text). refused too_many (length s)) q
