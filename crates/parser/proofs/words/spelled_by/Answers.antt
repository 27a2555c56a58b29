-- The byte is the one of the word, and it is the last or not.
use Rattle.parser.proofs.words.spelled_by.Goals as goal
use Rattle.parser.proofs.CodeLaws.{spelled_on, spelled_ends, spelled_off}

pub returns-then-b-word_byte : goal.returns-then-b-word_byte
returns-then-b-word_byte c = spelled_off _ _ _ _ _ c.word_byte.ensures c.if-b-word_byte.true

pub returns-then-i-word_last : goal.returns-then-i-word_last
returns-then-i-word_last c = spelled_on _ _ _ _ _ c.word_byte.ensures _ c.word_last.ensures.0 c.if-b-word_byte.false c.if-i-word_last.true

pub returns-else-i-word_last : goal.returns-else-i-word_last
returns-else-i-word_last c = spelled_ends _ _ _ _ _ c.word_byte.ensures _ c.word_last.ensures.0 c.if-b-word_byte.false c.if-i-word_last.false
