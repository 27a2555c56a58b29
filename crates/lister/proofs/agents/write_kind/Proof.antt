-- Each word of a kind, byte by byte.
use Rattle.std.proofs.Common.{◌≡◌, ◌≢◌, List, [], ◌∷◌, ℕ, sym, length-set, arith}
use borrow.Author.Tests.{eq-eqb, ne_eqb}
use Rattle.table.specs.Base.{tab}
use Rattle.table.specs.Cell.{enter_kind, exit_kind, open_kind}
use Rattle.meaning.specs.Listing.{kind_text}
use Rattle.text.proofs.TextLaws.{wrote_as, wrote_length}
use Rattle.text.proofs.RoomLaws.{fits_as, stores}
use Rattle.lister.proofs.agents.write_kind.Statement.{statement}
use Rattle.lister.proofs.agents.write_kind.Tie as tie

-- `enter `
abbrev enter_text : List ℕ
enter_text = 101 ∷ 110 ∷ 116 ∷ 101 ∷ 114 ∷ 32 ∷ []

-- `exit `
abbrev exit_text : List ℕ
exit_text = 101 ∷ 120 ∷ 105 ∷ 116 ∷ 32 ∷ []

-- `open `
abbrev open_text : List ℕ
open_text = 111 ∷ 112 ∷ 101 ∷ 110 ∷ 32 ∷ []

-- `release `
abbrev release_text : List ℕ
release_text = 114 ∷ 101 ∷ 108 ∷ 101 ∷ 97 ∷ 115 ∷ 101 ∷ 32 ∷ []

text_1 : (kind : ℕ) → kind ≡ 1 → kind_text kind ≡ enter_text
unfolding kind_text tab
text_1 kind e = rw (eq-eqb kind enter_kind e)

text_2 : (kind : ℕ) → kind ≢ 1 → kind ≡ 2 → kind_text kind ≡ exit_text
unfolding kind_text tab
text_2 kind n1 e = rw (ne_eqb kind enter_kind n1, eq-eqb kind exit_kind e)

text_3 : (kind : ℕ) → kind ≢ 1 → kind ≢ 2 → kind ≡ 3 → kind_text kind ≡ open_text
unfolding kind_text tab
text_3 kind n1 n2 e = rw (ne_eqb kind enter_kind n1, ne_eqb kind exit_kind n2, eq-eqb kind open_kind e)

text_4 : (kind : ℕ) → kind ≢ 1 → kind ≢ 2 → kind ≢ 3 → kind_text kind ≡ release_text
unfolding kind_text tab
text_4 kind n1 n2 n3 = rw (ne_eqb kind enter_kind n1, ne_eqb kind exit_kind n2, ne_eqb kind open_kind n3)

pub write_kind_spec : {M : Type 1} → statement M
write_kind_spec =
    tie.close
    (tie.spec
    -- `enter `
    (λ c. let e = text_1 c.before.args.kind (omega arith) in let f = fits_as e c.before.requires in omega (arith, f.room))
    (λ c. let e = text_1 c.before.args.kind (omega arith) in let f = fits_as e c.before.requires in simp length-set (omega (arith, f.room)))
    (λ c. let e = text_1 c.before.args.kind (omega arith) in let f = fits_as e c.before.requires in simp length-set (omega (arith, f.room)))
    (λ c. let e = text_1 c.before.args.kind (omega arith) in let f = fits_as e c.before.requires in simp length-set (omega (arith, f.room)))
    (λ c. let e = text_1 c.before.args.kind (omega arith) in let f = fits_as e c.before.requires in simp length-set (omega (arith, f.room)))
    (λ c. let e = text_1 c.before.args.kind (omega arith) in let f = fits_as e c.before.requires in simp length-set (omega (arith, f.room)))
    (λ c. let e = text_1 c.before.args.kind (omega arith) in let f = fits_as e c.before.requires in omega (arith, f.room, f.placed))
    (λ c. let e = text_1 c.before.args.kind (omega arith) in let f = fits_as e c.before.requires in wrote_length (stores enter_text f))
    (λ c. let e = text_1 c.before.args.kind (omega arith) in let f = fits_as e c.before.requires in wrote_as (sym e) (stores enter_text f))
    -- `exit `
    (λ c. let e = text_2 c.before.before.args.kind (omega arith) (omega arith) in let f = fits_as e c.before.before.requires in omega (arith, f.room))
    (λ c. let e = text_2 c.before.before.args.kind (omega arith) (omega arith) in let f = fits_as e c.before.before.requires in simp length-set (omega (arith, f.room)))
    (λ c. let e = text_2 c.before.before.args.kind (omega arith) (omega arith) in let f = fits_as e c.before.before.requires in simp length-set (omega (arith, f.room)))
    (λ c. let e = text_2 c.before.before.args.kind (omega arith) (omega arith) in let f = fits_as e c.before.before.requires in simp length-set (omega (arith, f.room)))
    (λ c. let e = text_2 c.before.before.args.kind (omega arith) (omega arith) in let f = fits_as e c.before.before.requires in simp length-set (omega (arith, f.room)))
    (λ c. let e = text_2 c.before.before.args.kind (omega arith) (omega arith) in let f = fits_as e c.before.before.requires in omega (arith, f.room, f.placed))
    (λ c. let e = text_2 c.before.before.args.kind (omega arith) (omega arith) in let f = fits_as e c.before.before.requires in wrote_length (stores exit_text f))
    (λ c. let e = text_2 c.before.before.args.kind (omega arith) (omega arith) in let f = fits_as e c.before.before.requires in wrote_as (sym e) (stores exit_text f))
    -- `open `
    (λ c. let e = text_3 c.before.before.before.args.kind (omega arith) (omega arith) (omega arith) in let f = fits_as e c.before.before.before.requires in omega (arith, f.room))
    (λ c. let e = text_3 c.before.before.before.args.kind (omega arith) (omega arith) (omega arith) in let f = fits_as e c.before.before.before.requires in simp length-set (omega (arith, f.room)))
    (λ c. let e = text_3 c.before.before.before.args.kind (omega arith) (omega arith) (omega arith) in let f = fits_as e c.before.before.before.requires in simp length-set (omega (arith, f.room)))
    (λ c. let e = text_3 c.before.before.before.args.kind (omega arith) (omega arith) (omega arith) in let f = fits_as e c.before.before.before.requires in simp length-set (omega (arith, f.room)))
    (λ c. let e = text_3 c.before.before.before.args.kind (omega arith) (omega arith) (omega arith) in let f = fits_as e c.before.before.before.requires in simp length-set (omega (arith, f.room)))
    (λ c. let e = text_3 c.before.before.before.args.kind (omega arith) (omega arith) (omega arith) in let f = fits_as e c.before.before.before.requires in omega (arith, f.room, f.placed))
    (λ c. let e = text_3 c.before.before.before.args.kind (omega arith) (omega arith) (omega arith) in let f = fits_as e c.before.before.before.requires in wrote_length (stores open_text f))
    (λ c. let e = text_3 c.before.before.before.args.kind (omega arith) (omega arith) (omega arith) in let f = fits_as e c.before.before.before.requires in wrote_as (sym e) (stores open_text f))
    -- `release `
    (λ c. let e = text_4 c.before.before.before.args.kind (omega arith) (omega arith) (omega arith) in let f = fits_as e c.before.before.before.requires in omega (arith, f.room))
    (λ c. let e = text_4 c.before.before.before.args.kind (omega arith) (omega arith) (omega arith) in let f = fits_as e c.before.before.before.requires in simp length-set (omega (arith, f.room)))
    (λ c. let e = text_4 c.before.before.before.args.kind (omega arith) (omega arith) (omega arith) in let f = fits_as e c.before.before.before.requires in simp length-set (omega (arith, f.room)))
    (λ c. let e = text_4 c.before.before.before.args.kind (omega arith) (omega arith) (omega arith) in let f = fits_as e c.before.before.before.requires in simp length-set (omega (arith, f.room)))
    (λ c. let e = text_4 c.before.before.before.args.kind (omega arith) (omega arith) (omega arith) in let f = fits_as e c.before.before.before.requires in simp length-set (omega (arith, f.room)))
    (λ c. let e = text_4 c.before.before.before.args.kind (omega arith) (omega arith) (omega arith) in let f = fits_as e c.before.before.before.requires in simp length-set (omega (arith, f.room)))
    (λ c. let e = text_4 c.before.before.before.args.kind (omega arith) (omega arith) (omega arith) in let f = fits_as e c.before.before.before.requires in simp length-set (omega (arith, f.room)))
    (λ c. let e = text_4 c.before.before.before.args.kind (omega arith) (omega arith) (omega arith) in let f = fits_as e c.before.before.before.requires in simp length-set (omega (arith, f.room)))
    (λ c. let e = text_4 c.before.before.before.args.kind (omega arith) (omega arith) (omega arith) in let f = fits_as e c.before.before.before.requires in omega (arith, f.room, f.placed))
    (λ c. let e = text_4 c.before.before.before.args.kind (omega arith) (omega arith) (omega arith) in let f = fits_as e c.before.before.before.requires in wrote_length (stores release_text f))
    (λ c. let e = text_4 c.before.before.before.args.kind (omega arith) (omega arith) (omega arith) in let f = fits_as e c.before.before.before.requires in wrote_as (sym e) (stores release_text f)))
