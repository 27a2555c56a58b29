-- Demand 1: on every table, file, text, agent, wish and buffer, each call is refused only with its numbers, each exactly under its condition, and a
-- refusal changes nothing.
-- Idea: a call on a table is a row of tests with a refusal in one arm each; a load is
-- refused by the fault in its file (FileFaultLaws), the reading of a text as RefusedReading says, an ask and a commit as RefusedAsking says, a
-- question where a place is as RefusedWhere says.
use Rattle.std.specs.Prelude.{◌≡◌, refl, true, [], ℕ, ◌+◌, ◌≤◌, leb, length, Ok, Err}
use Rattle.std.proofs.Common.{ap, zero-le, le_refl, arith, leb-true, leb-false, le-leb}
use Rattle.std.proofs.lemmas.Bool.{lt-leb}
use Rattle.table.proofs.BaseLaws.{Told, yea, nay, told}
use Rattle.table.specs.Cell.{cell_of}
use Rattle.table.specs.Sound.{touch_sum, most_touches, sound}
use Rattle.table.specs.Idle.{idle}
use Rattle.table.specs.declared.Cell.{Cell}
use Rattle.meaning.specs.Answers.{Verdict, Rejected, Answer, Refused, Unlisted, Untouched, Unsound, Unknown, Uncounted}
use Rattle.meaning.specs.declared.Stepped.{Stepped}
use Rattle.meaning.specs.Refusals.{place_too_large, not_yet_given, unsound_table, no_such_agent, too_long, too_many_touches}
use Rattle.meaning.specs.File.{Load, accepted, refused, load, loaded, load_of}
use Rattle.meaning.proofs.FileLaws.{refused_keeps}
use Rattle.meaning.specs.Run.{made, turned_away, step_of}
use Rattle.meaning.specs.Touch.{counted, untouched, touch_of, touches_of}
use Rattle.meaning.specs.Listing.{listing, list_answer, list_buffer}
use Rattle.meaning.specs.Codes.{check_of, idle_of}
use Rattle.meaning.specs.Limit.{ceiling_of}
use Rattle.meaning.proofs.AskLaws.{ask_unsound, ask_unknown, commit_unsound, commit_unknown}
use Rattle.meaning.proofs.WhereLaws.{nearest_unsound, nearest_large, nearest_unused, common_unsound, common_large, common_unused}
use Rattle.language.specs.Read.{read_text, read_of}
use Rattle.language.proofs.Answers.{read_outside}
use Rattle.demands.specs.Refusals.{KeeperCall, step_call, list_call, touch_call, touches_call, check_call, idle_call, ceiling_call, may_answer, Lent, before, after, RefusedRightly}
use Rattle.demands.specs.Refusals.{Refuses, load_refused, read_refused, step_refused, list_refused, touch_refused, touches_refused, check_refused, idle_refused, ceiling_refused}
use Rattle.demands.specs.Refusals.{Grounds, in_the_file, read_16, read_17, step_10, step_11, list_10, list_12, check_10, idle_10, ceiling_10}
use Rattle.demands.specs.Refusals.{ask_refused, commit_refused, ask_10, ask_11, commit_10, commit_11, commit_18}
use Rattle.demands.specs.Refusals.{touch_10, touch_3, touch_5, touch_15, touches_10, touches_3, touches_5}
use Rattle.demands.specs.Refusals.{nearest_refused, common_refused, nearest_10, nearest_3, nearest_5, common_10, common_3, common_5}
use Rattle.demands.proofs.RefusedLaws.{never, of}
use Rattle.demands.proofs.FileFaultLaws.{refused_by_fault}
use Rattle.demands.proofs.RefusedLoads.{fault_number, fault_within}
use Rattle.demands.proofs.RefusedReading.{reading_grounds, overfull_text}
use Rattle.demands.proofs.RefusedAsking.{ask_grounds, commit_different, commit_grounds}
use Rattle.demands.proofs.RefusedWhere.{nearest_grounds, common_grounds}

-- ---- each number exactly under its condition

-- the load of which this is told, where it is one that was refused
as_refused : Verdict → Load → Load
as_refused (Ok u) l = l
as_refused (Err r) l = refused r.number r.offset

-- what a load or a reading rejects, it refused
load_grounds : (t : Cell) (l : Load) (number offset : ℕ) → (loaded t l).verdict ≡ Rejected number offset → l ≡ refused number offset
unfolding loaded as_refused
load_grounds t (accepted c) number offset e = never (cc)
load_grounds t (refused n o) number offset e = ap (λ (v : Verdict). as_refused v (refused n o)) e

-- from the answer to the condition
refused_grounds : {k : KeeperCall} {number offset : ℕ} → Refuses k number offset → Grounds k number offset
unfolding load_of read_of step_of made turned_away list_answer touch_of counted untouched touches_of check_of idle_of ceiling_of
refused_grounds (load_refused {t} {file} {number} {offset} e) =
    in_the_file ((refused_by_fault file number offset).0 (load_grounds t (load file) number offset e))
refused_grounds (read_refused {t} {text} {number} {offset} e) = reading_grounds t text number offset (load_grounds t (read_text text) number offset e)
refused_grounds (step_refused {t} {agent} {wish} {number} e) = go (told (sound (cell_of t))) (told ((cell_of t).given agent))
  where
    go : Told (sound (cell_of t)) → Told ((cell_of t).given agent) → Grounds (step_call t agent wish) number 0
    go (yea s) (yea g) = let f = rw (s, g) at e in never (cc)
    go (yea s) (nay g) = let f = rw (s, g) at e in let z : no_such_agent ≡ number = cc in of z (step_11 s g)
    go (nay s) _ = let f = rw s at e in let z : unsound_table ≡ number = cc in of z (step_10 s)
refused_grounds (ask_refused {t} {agent} {wish} {number} e) = ask_grounds t agent wish number e
refused_grounds (commit_refused {t} {agent} {wish} {word} {woken} {place} {number} e) = commit_grounds t agent wish word woken place number e
refused_grounds (list_refused {t} {buffer} {number} e) = go (told (sound (cell_of t))) (told (leb (length (listing (cell_of t))) (length buffer)))
  where
    go : Told (sound (cell_of t)) → Told (leb (length (listing (cell_of t))) (length buffer)) → Grounds (list_call t buffer) number 0
    go (yea s) (yea r) = let f = rw (s, r) at e in never (cc)
    go (yea s) (nay r) = let f = rw (s, r) at e in let z : too_long ≡ number = cc in of z (list_12 s (leb-false _ _ r))
    go (nay s) _ = let f = rw s at e in let z : unsound_table ≡ number = cc in of z (list_10 s)
refused_grounds (touch_refused {t} {place} {touches} {number} e) =
    go (told (sound (cell_of t))) (told (leb 64 place)) (told ((cell_of t).land.used place)) (told (leb (touch_sum (cell_of t) + touches) most_touches))
  where
    go : Told (sound (cell_of t)) → Told (leb 64 place) → Told ((cell_of t).land.used place) → Told (leb (touch_sum (cell_of t) + touches) most_touches)
        → Grounds (touch_call t place touches) number 0
    go (nay s) _ _ _ = let f = rw s at e in let z : unsound_table ≡ number = cc in of z (touch_10 s)
    go (yea s) (yea l) _ _ = let f = rw (s, l) at e in let z : place_too_large ≡ number = cc in of z (touch_3 s (leb-true 64 place l))
    go (yea s) (nay l) (nay u) _ = let f = rw (s, l, u) at e in let z : not_yet_given ≡ number = cc in of z (touch_5 s (leb-false 64 place l) u)
    go (yea s) (nay l) (yea u) (nay m) =
        let f = rw (s, l, u, m) at e in let z : too_many_touches ≡ number = cc in of z (touch_15 s (leb-false 64 place l) u (leb-false _ _ m))
    go (yea s) (nay l) (yea u) (yea m) = let f = rw (s, l, u, m) at e in never (cc)
refused_grounds (touches_refused {t} {place} {number} e) = go (told (sound (cell_of t))) (told (leb 64 place)) (told ((cell_of t).land.used place))
  where
    go : Told (sound (cell_of t)) → Told (leb 64 place) → Told ((cell_of t).land.used place) → Grounds (touches_call t place) number 0
    go (nay s) _ _ = let f = rw s at e in let z : unsound_table ≡ number = cc in of z (touches_10 s)
    go (yea s) (yea l) _ = let f = rw (s, l) at e in let z : place_too_large ≡ number = cc in of z (touches_3 s (leb-true 64 place l))
    go (yea s) (nay l) (nay u) = let f = rw (s, l, u) at e in let z : not_yet_given ≡ number = cc in of z (touches_5 s (leb-false 64 place l) u)
    go (yea s) (nay l) (yea u) = let f = rw (s, l, u) at e in never (cc)
refused_grounds (nearest_refused {t} {place} {name} {number} e) = nearest_grounds t place name number e
refused_grounds (common_refused {t} {place} {other} {number} e) = common_grounds t place other number e
refused_grounds (check_refused {t} {number} e) = go (told (sound (cell_of t)))
  where
    go : Told (sound (cell_of t)) → Grounds (check_call t) number 0
    go (yea s) = let f = rw s at e in never (cc)
    go (nay s) = let f = rw s at e in let z : unsound_table ≡ number = cc in of z (check_10 s)
refused_grounds (idle_refused {t} {number} e) = go (told (sound (cell_of t))) (told (idle (cell_of t)))
  where
    go : Told (sound (cell_of t)) → Told (idle (cell_of t)) → Grounds (idle_call t) number 0
    go (yea s) (yea i) = let f = rw (s, i) at e in never (cc)
    go (yea s) (nay i) = let f = rw (s, i) at e in never (cc)
    go (nay s) _ = let f = rw s at e in let z : unsound_table ≡ number = cc in of z (idle_10 s)
refused_grounds (ceiling_refused {t} {number} e) = go (told (sound (cell_of t)))
  where
    go : Told (sound (cell_of t)) → Grounds (ceiling_call t) number 0
    go (yea s) = let f = rw s at e in never (cc)
    go (nay s) = let f = rw s at e in let z : unsound_table ≡ number = cc in of z (ceiling_10 s)

-- what a step call or a commit answers, and what it leaves of what a host lent
abbrev answers : Stepped → Answer
answers r = r.answer

abbrev leaves : Stepped → Lent
leaves r = record { table = r.cell; bytes = [] }

-- and from the condition to the answer
grounds_refused : {k : KeeperCall} {number offset : ℕ} → Grounds k number offset → Refuses k number offset
unfolding load_of read_of loaded step_of turned_away list_answer touch_of untouched touches_of check_of idle_of ceiling_of
grounds_refused (in_the_file {t} {file} {number} {offset} f) = load_refused (ap (λ (l : Load). (loaded t l).verdict) ((refused_by_fault file number offset).1 f))
grounds_refused (read_16 {t} {text} {offset} b l) = read_refused (ap (λ (r : Load). (loaded t r).verdict) (read_outside text offset b l))
grounds_refused (read_17 {t} {text} c q f) = read_refused (ap (λ (r : Load). (loaded t r).verdict) (overfull_text text c q f))
grounds_refused (step_10 {t} {agent} {wish} s) = let e : (step_of t agent wish).answer ≡ Refused unsound_table = rw s in step_refused e
grounds_refused (step_11 {t} {agent} {wish} s g) = let e : (step_of t agent wish).answer ≡ Refused no_such_agent = rw (s, g) in step_refused e
grounds_refused (ask_10 {t} {agent} {wish} s) = ask_refused (ask_unsound t agent wish s)
grounds_refused (ask_11 {t} {agent} {wish} s g) = ask_refused (ask_unknown t agent wish s g)
grounds_refused (commit_10 {t} {agent} {wish} {word} {woken} {place} s) = commit_refused (ap answers (commit_unsound t agent wish word woken place s))
grounds_refused (commit_11 {t} {agent} {wish} {word} {woken} {place} s g) = commit_refused (ap answers (commit_unknown t agent wish word woken place s g))
grounds_refused (commit_18 {t} {agent} {wish} {word} {woken} {place} s g d) = commit_refused (ap answers (commit_different t agent wish word woken place s g d))
grounds_refused (list_10 {t} {buffer} s) = let e : list_answer (cell_of t) buffer ≡ Unlisted unsound_table = rw s in list_refused e
grounds_refused (list_12 {t} {buffer} s l) =
    let e : list_answer (cell_of t) buffer ≡ Unlisted too_long = rw (s, lt-leb (length (listing (cell_of t))) (length buffer) l) in
    list_refused e
grounds_refused (touch_10 {t} {place} {touches} s) = let e : (touch_of t place touches).answer ≡ Untouched unsound_table = rw s in touch_refused e
grounds_refused (touch_3 {t} {place} {touches} s l) =
    let e : (touch_of t place touches).answer ≡ Untouched place_too_large = rw (s, le-leb 64 place l) in touch_refused e
grounds_refused (touch_5 {t} {place} {touches} s l u) =
    let e : (touch_of t place touches).answer ≡ Untouched not_yet_given = rw (s, lt-leb 64 place l, u) in touch_refused e
grounds_refused (touch_15 {t} {place} {touches} s l u m) =
    let e : (touch_of t place touches).answer ≡ Untouched too_many_touches = rw (s, lt-leb 64 place l, u, lt-leb (touch_sum (cell_of t) + touches) most_touches m) in
    touch_refused e
grounds_refused (touches_10 {t} {place} s) = let e : touches_of t place ≡ Untouched unsound_table = rw s in touches_refused e
grounds_refused (touches_3 {t} {place} s l) = let e : touches_of t place ≡ Untouched place_too_large = rw (s, le-leb 64 place l) in touches_refused e
grounds_refused (touches_5 {t} {place} s l u) =
    let e : touches_of t place ≡ Untouched not_yet_given = rw (s, lt-leb 64 place l, u) in touches_refused e
grounds_refused (nearest_10 {t} {place} {name} s) = nearest_refused (nearest_unsound t place name s)
grounds_refused (nearest_3 {t} {place} {name} s l) = nearest_refused (nearest_large t place name s l)
grounds_refused (nearest_5 {t} {place} {name} s l u) = nearest_refused (nearest_unused t place name s l u)
grounds_refused (common_10 {t} {place} {other} s) = common_refused (common_unsound t place other s)
grounds_refused (common_3 {t} {place} {other} s l) = common_refused (common_large t place other s l)
grounds_refused (common_5 {t} {place} {other} s l m u) = common_refused (common_unused t place other s l m u)
grounds_refused (check_10 {t} s) = let e : check_of t ≡ Unsound unsound_table = rw s in check_refused e
grounds_refused (idle_10 {t} s) = let e : idle_of t ≡ Unknown unsound_table = rw s in idle_refused e
grounds_refused (ceiling_10 {t} s) = let e : ceiling_of t ≡ Uncounted unsound_table = rw s in ceiling_refused e

-- ---- what follows from the condition

grounds_number : {k : KeeperCall} {number offset : ℕ} → Grounds k number offset → may_answer k number ≡ true
grounds_number (in_the_file f) = fault_number f
grounds_number (read_16 b l) = refl
grounds_number (read_17 c q f) = refl
grounds_number (step_10 s) = refl
grounds_number (step_11 s g) = refl
grounds_number (ask_10 s) = refl
grounds_number (ask_11 s g) = refl
grounds_number (commit_10 s) = refl
grounds_number (commit_11 s g) = refl
grounds_number (commit_18 s g d) = refl
grounds_number (list_10 s) = refl
grounds_number (list_12 s l) = refl
grounds_number (touch_10 s) = refl
grounds_number (touch_3 s l) = refl
grounds_number (touch_5 s l u) = refl
grounds_number (touch_15 s l u m) = refl
grounds_number (touches_10 s) = refl
grounds_number (touches_3 s l) = refl
grounds_number (touches_5 s l u) = refl
grounds_number (nearest_10 s) = refl
grounds_number (nearest_3 s l) = refl
grounds_number (nearest_5 s l u) = refl
grounds_number (common_10 s) = refl
grounds_number (common_3 s l) = refl
grounds_number (common_5 s l m u) = refl
grounds_number (check_10 s) = refl
grounds_number (idle_10 s) = refl
grounds_number (ceiling_10 s) = refl

grounds_within : {k : KeeperCall} {number offset : ℕ} → Grounds k number offset → offset ≤ length (before k).bytes
grounds_within (in_the_file f) = fault_within f
grounds_within (read_16 b l) = l.within
grounds_within (read_17 {t} {text} c q f) = le_refl (length text)
grounds_within (step_10 s) = zero-le
grounds_within (step_11 s g) = zero-le
grounds_within (ask_10 s) = zero-le
grounds_within (ask_11 s g) = zero-le
grounds_within (commit_10 s) = zero-le
grounds_within (commit_11 s g) = zero-le
grounds_within (commit_18 s g d) = zero-le
grounds_within (list_10 s) = zero-le
grounds_within (list_12 s l) = zero-le
grounds_within (touch_10 s) = zero-le
grounds_within (touch_3 s l) = zero-le
grounds_within (touch_5 s l u) = zero-le
grounds_within (touch_15 s l u m) = zero-le
grounds_within (touches_10 s) = zero-le
grounds_within (touches_3 s l) = zero-le
grounds_within (touches_5 s l u) = zero-le
grounds_within (nearest_10 s) = zero-le
grounds_within (nearest_3 s l) = zero-le
grounds_within (nearest_5 s l u) = zero-le
grounds_within (common_10 s) = zero-le
grounds_within (common_3 s l) = zero-le
grounds_within (common_5 s l m u) = zero-le
grounds_within (check_10 s) = zero-le
grounds_within (idle_10 s) = zero-le
grounds_within (ceiling_10 s) = zero-le

grounds_keep : {k : KeeperCall} {number offset : ℕ} → Grounds k number offset → after k ≡ before k
unfolding read_of loaded step_of turned_away list_buffer touch_of untouched
grounds_keep (in_the_file {t} {file} {number} {offset} f) = rw (refused_keeps t file number offset ((refused_by_fault file number offset).1 f))
grounds_keep (read_16 {t} {text} {offset} b l) = rw (read_outside text offset b l)
grounds_keep (read_17 {t} {text} c q f) = rw (overfull_text text c q f)
grounds_keep (step_10 s) = rw s
grounds_keep (step_11 s g) = rw (s, g)
grounds_keep (ask_10 s) = refl
grounds_keep (ask_11 s g) = refl
grounds_keep (commit_10 {t} {agent} {wish} {word} {woken} {place} s) = ap leaves (commit_unsound t agent wish word woken place s)
grounds_keep (commit_11 {t} {agent} {wish} {word} {woken} {place} s g) = ap leaves (commit_unknown t agent wish word woken place s g)
grounds_keep (commit_18 {t} {agent} {wish} {word} {woken} {place} s g d) = ap leaves (commit_different t agent wish word woken place s g d)
grounds_keep (list_10 s) = rw s
grounds_keep (list_12 {t} {buffer} s l) = rw (s, lt-leb (length (listing (cell_of t))) (length buffer) l)
grounds_keep (touch_10 s) = rw s
grounds_keep (touch_3 {t} {place} s l) = rw (s, le-leb 64 place l)
grounds_keep (touch_5 {t} {place} s l u) = rw (s, lt-leb 64 place l, u)
grounds_keep (touch_15 {t} {place} {touches} s l u m) = rw (s, lt-leb 64 place l, u, lt-leb (touch_sum (cell_of t) + touches) most_touches m)
grounds_keep (touches_10 s) = refl
grounds_keep (touches_3 s l) = refl
grounds_keep (touches_5 s l u) = refl
grounds_keep (nearest_10 s) = refl
grounds_keep (nearest_3 s l) = refl
grounds_keep (nearest_5 s l u) = refl
grounds_keep (common_10 s) = refl
grounds_keep (common_3 s l) = refl
grounds_keep (common_5 s l m u) = refl
grounds_keep (check_10 s) = refl
grounds_keep (idle_10 s) = refl
grounds_keep (ceiling_10 s) = refl

-- demand 1
pub demand_one : (k : KeeperCall) → RefusedRightly k
demand_one k = record {
  only = λ number offset r. grounds_number (refused_grounds r);
  within = λ number offset r. omega (arith, grounds_within (refused_grounds r));
  exactly = λ number offset. (refused_grounds, grounds_refused);
  keeps = λ number offset r. grounds_keep (refused_grounds r);
}
