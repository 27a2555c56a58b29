-- By how many digits there are: each stands where it belongs.
use mathlib.Core.Path.{◌≡◌, refl, sym, ap}
use Prim.Native.Nat.{◌≤◌}
use native.Mathlib.Omega.{arith}
use lib.ListN.{length, length-set}
use borrow.Author.Rules.{rules}
use Rattle.meaning.specs.Text.{decimal}
use Rattle.text.proofs.TextLaws.{wrote_as, wrote_length}
use Rattle.text.proofs.RoomLaws.{fits_as, stores}
use Rattle.lister.proofs.DigitLaws.{one_digit, digit_more}
use Rattle.lister.proofs.numbers.write_number.Statement.{statement}
use Rattle.lister.proofs.numbers.write_number.Tie as tie

long_1 : (c : tie.Then-n-lt10) → length (decimal c.before.before.args.n) ≡ 1
long_1 c = ap length (one_digit 19 (omega (arith, c.if-n-lt10.true)) refl)

written_1 : tie.Need-returns-then-n-lt10
written_1 c = let e = one_digit 19 (omega (arith, c.before.if-n-lt10.true)) c.single.ensures in wrote_as (sym e) (stores _ (fits_as e c.before.before.before.requires))

long_2 : (c : tie.Then-n-lt100) → length (decimal c.before.before.before.args.n) ≡ 2
long_2 c = ap length (digit_more 19 (omega (arith, c.before.if-n-lt10.false)) refl (one_digit 18 (omega (arith, c.if-n-lt100.true)) refl))

written_2 : tie.Need-returns-then-n-lt100
written_2 c = let e = digit_more 19 (omega (arith, c.before.before.before.if-n-lt10.false)) c.digit.ensures (one_digit 18 (omega (arith, c.before.before.if-n-lt100.true)) c.before.single-then-n-lt100.ensures) in wrote_as (sym e) (stores _ (fits_as e c.before.before.before.before.before.requires))

long_3 : (c : tie.Then-n-lt1000) → length (decimal c.before.before.before.before.args.n) ≡ 3
long_3 c = ap length (digit_more 19 (omega (arith, c.before.before.if-n-lt10.false)) refl (digit_more 18 (omega (arith, c.before.if-n-lt100.false)) refl (one_digit 17 (omega (arith, c.if-n-lt1000.true)) refl)))

written_3 : tie.Need-returns-then-n-lt1000
written_3 c = let e = digit_more 19 (omega (arith, c.before.before.before.before.before.if-n-lt10.false)) c.digit-then-n-lt1000-2.ensures (digit_more 18 (omega (arith, c.before.before.before.before.if-n-lt100.false)) c.before.digit-then-n-lt1000.ensures (one_digit 17 (omega (arith, c.before.before.before.if-n-lt1000.true)) c.before.before.single-then-n-lt1000.ensures)) in wrote_as (sym e) (stores _ (fits_as e c.before.before.before.before.before.before.before.requires))

long_4 : (c : tie.Then-n-lt10000) → length (decimal c.before.before.before.before.before.args.n) ≡ 4
long_4 c = ap length (digit_more 19 (omega (arith, c.before.before.before.if-n-lt10.false)) refl (digit_more 18 (omega (arith, c.before.before.if-n-lt100.false)) refl (digit_more 17 (omega (arith, c.before.if-n-lt1000.false)) refl (one_digit 16 (omega (arith, c.if-n-lt10000.true)) refl))))

written_4 : tie.Need-returns-then-n-lt10000
written_4 c = let e = digit_more 19 (omega (arith, c.before.before.before.before.before.before.before.if-n-lt10.false)) c.digit-then-n-lt10000-3.ensures (digit_more 18 (omega (arith, c.before.before.before.before.before.before.if-n-lt100.false)) c.before.digit-then-n-lt10000-2.ensures (digit_more 17 (omega (arith, c.before.before.before.before.before.if-n-lt1000.false)) c.before.before.digit-then-n-lt10000.ensures (one_digit 16 (omega (arith, c.before.before.before.before.if-n-lt10000.true)) c.before.before.before.single-then-n-lt10000.ensures))) in wrote_as (sym e) (stores _ (fits_as e c.before.before.before.before.before.before.before.before.before.requires))

long_5 : (c : tie.Else-n-lt10000) → length (decimal c.before.before.before.before.before.args.n) ≡ 5
long_5 c = ap length (digit_more 19 (omega (arith, c.before.before.before.if-n-lt10.false)) refl (digit_more 18 (omega (arith, c.before.before.if-n-lt100.false)) refl (digit_more 17 (omega (arith, c.before.if-n-lt1000.false)) refl (digit_more 16 (omega (arith, c.if-n-lt10000.false)) refl (one_digit 15 (omega (arith, c.before.before.before.before.before.ranges)) refl)))))

written_5 : tie.Need-returns
written_5 c = let e = digit_more 19 (omega (arith, c.before.before.before.before.before.before.before.before.if-n-lt10.false)) c.digit-5.ensures (digit_more 18 (omega (arith, c.before.before.before.before.before.before.before.if-n-lt100.false)) c.before.digit-4.ensures (digit_more 17 (omega (arith, c.before.before.before.before.before.before.if-n-lt1000.false)) c.before.before.digit-3.ensures (digit_more 16 (omega (arith, c.before.before.before.before.before.if-n-lt10000.false)) c.before.before.before.digit-2.ensures (one_digit 15 (omega (arith, c.before.before.before.before.before.before.before.before.before.before.ranges)) c.before.before.before.before.single-2.ensures)))) in wrote_as (sym e) (stores _ (fits_as e c.before.before.before.before.before.before.before.before.before.before.requires))

pub write_number_spec : {M : Type 1} → statement M
write_number_spec =
    tie.close
    (tie.spec
    (λ c κs. omega (arith, c.if-n-lt10.true))
    (λ c. let h : 1 ≤ length c.before.before.before.args.buf.now = (let l = long_1 c.before in omega (arith, c.before.before.before.requires.room)) in omega arith)
    (λ c. let l = long_1 c.before in omega (arith, c.before.before.before.requires.room, c.before.before.before.requires.placed)) (λ c. wrote_length (written_1 c)) written_1
    (λ c κs. omega (arith, c.if-n-lt100.true))
    (λ c. let h : 2 ≤ length c.before.before.before.before.args.buf.now = (let l = long_2 c.before in omega (arith, c.before.before.before.before.requires.room)) in omega arith)
    (λ c κs. search rules)
    (λ c. let h : 2 ≤ length c.before.before.before.before.before.args.buf.now = (let l = long_2 c.before.before in omega (arith, c.before.before.before.before.before.requires.room)) in simp length-set (omega arith))
    (λ c. let l = long_2 c.before.before in omega (arith, c.before.before.before.before.before.requires.room, c.before.before.before.before.before.requires.placed)) (λ c. wrote_length (written_2 c)) written_2
    (λ c κs. omega (arith, c.if-n-lt1000.true))
    (λ c. let h : 3 ≤ length c.before.before.before.before.before.args.buf.now = (let l = long_3 c.before in omega (arith, c.before.before.before.before.before.requires.room)) in omega arith)
    (λ c κs. search rules)
    (λ c. let h : 3 ≤ length c.before.before.before.before.before.before.args.buf.now = (let l = long_3 c.before.before in omega (arith, c.before.before.before.before.before.before.requires.room)) in simp length-set (omega arith))
    (λ c κs. search rules)
    (λ c. let h : 3 ≤ length c.before.before.before.before.before.before.before.args.buf.now = (let l = long_3 c.before.before.before in omega (arith, c.before.before.before.before.before.before.before.requires.room)) in simp length-set (omega arith))
    (λ c. let l = long_3 c.before.before.before in omega (arith, c.before.before.before.before.before.before.before.requires.room, c.before.before.before.before.before.before.before.requires.placed)) (λ c. wrote_length (written_3 c)) written_3
    (λ c κs. omega (arith, c.if-n-lt10000.true))
    (λ c. let h : 4 ≤ length c.before.before.before.before.before.before.args.buf.now = (let l = long_4 c.before in omega (arith, c.before.before.before.before.before.before.requires.room)) in omega arith)
    (λ c κs. search rules)
    (λ c. let h : 4 ≤ length c.before.before.before.before.before.before.before.args.buf.now = (let l = long_4 c.before.before in omega (arith, c.before.before.before.before.before.before.before.requires.room)) in simp length-set (omega arith))
    (λ c κs. search rules)
    (λ c. let h : 4 ≤ length c.before.before.before.before.before.before.before.before.args.buf.now = (let l = long_4 c.before.before.before in omega (arith, c.before.before.before.before.before.before.before.before.requires.room)) in simp length-set (omega arith))
    (λ c κs. search rules)
    (λ c. let h : 4 ≤ length c.before.before.before.before.before.before.before.before.before.args.buf.now = (let l = long_4 c.before.before.before.before in omega (arith, c.before.before.before.before.before.before.before.before.before.requires.room)) in simp length-set (omega arith))
    (λ c. let l = long_4 c.before.before.before.before in omega (arith, c.before.before.before.before.before.before.before.before.before.requires.room, c.before.before.before.before.before.before.before.before.before.requires.placed)) (λ c. wrote_length (written_4 c)) written_4
    (λ c κs. omega (arith, c.before.before.before.before.before.ranges))
    (λ c. let h : 5 ≤ length c.before.before.before.before.before.before.args.buf.now = (let l = long_5 c.before in omega (arith, c.before.before.before.before.before.before.requires.room)) in omega arith)
    (λ c κs. search rules)
    (λ c. let h : 5 ≤ length c.before.before.before.before.before.before.before.args.buf.now = (let l = long_5 c.before.before in omega (arith, c.before.before.before.before.before.before.before.requires.room)) in simp length-set (omega arith))
    (λ c κs. search rules)
    (λ c. let h : 5 ≤ length c.before.before.before.before.before.before.before.before.args.buf.now = (let l = long_5 c.before.before.before in omega (arith, c.before.before.before.before.before.before.before.before.requires.room)) in simp length-set (omega arith))
    (λ c κs. search rules)
    (λ c. let h : 5 ≤ length c.before.before.before.before.before.before.before.before.before.args.buf.now = (let l = long_5 c.before.before.before.before in omega (arith, c.before.before.before.before.before.before.before.before.before.requires.room)) in simp length-set (omega arith))
    (λ c κs. search rules)
    (λ c. let h : 5 ≤ length c.before.before.before.before.before.before.before.before.before.before.args.buf.now = (let l = long_5 c.before.before.before.before.before in omega (arith, c.before.before.before.before.before.before.before.before.before.before.requires.room)) in simp length-set (omega arith))
    (λ c. let l = long_5 c.before.before.before.before.before in omega (arith, c.before.before.before.before.before.before.before.before.before.before.requires.room, c.before.before.before.before.before.before.before.before.before.before.requires.placed)) (λ c. wrote_length (written_5 c)) written_5)
