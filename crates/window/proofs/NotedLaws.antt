-- The window after a step is told by the number of the step's answer; and what a command comes to.
-- Idea: a step wakes at most 64 and is refused with 10 or 11, so that word, number woken and refusal are read off the number.
-- Assumes nothing.
use Rattle.std.specs.Prelude.{◌≡◌, ◌≢◌, Bool, true, false, cond, List, ℕ, ◌+◌, ◌*◌, ◌/◌, ◌%◌, ◌≤◌, ◌<◌, eqb, ltb, leb, get_or, Ok, Err}
use Rattle.std.proofs.Common.{sym, ap, ap₂, ◌∙◌, arith, lit<, ne_eqb, eq-eqb}
use Rattle.sets.proofs.WordLaws.{count_most}
use Rattle.table.proofs.BaseLaws.{Told, yea, nay, told}
use Rattle.table.specs.Cell.{State, cell_of, none, fresh_number, linked, looks_home, kind_of, open_kind, release_kind}
use Rattle.table.specs.Cell.{looking, found, holding, holding_both, on_way, on_way_own, on_way_both, asleep}
use Rattle.table.specs.Sound.{sound}
use Rattle.table.specs.Idle.{idle}
use Rattle.table.specs.declared.Agent.{Agent}
use Rattle.table.specs.declared.Cell.{Cell}
use Rattle.meaning.specs.declared.Word.{Word}
use Rattle.meaning.specs.declared.Word.TheVariants.{Looked, Took, Held, Back, Slept, Left, Came, Opened, Put, Asleep, Done}
use Rattle.meaning.specs.Answers.{Answer, Did}
use Rattle.meaning.specs.Codes.{word_number, above, step_number}
use Rattle.meaning.specs.Step.{Outcome, stays, fires, choice, still, turn, take, release, look, lock_first, put, put_or_sleep, lock_second, hold, leave, dissolve, act, arrive, travel, step_at, step}
use Rattle.meaning.specs.Run.{made, turned_away, step_of}
use Rattle.window.specs.declared.Window.{Window}
use Rattle.window.specs.Window.{refused_flag, refused_base, with_flag, with_answer, lined, step_window, command_of}
use Rattle.window.specs.Noted.{did_of, refused_of, noted_of}
use Rattle.std.specs.Int.{w64, to_le_bytes}

-- ---- a step wakes at most 64

-- an outcome that wakes at most 64
abbrev Few : Outcome → Type 0
Few o = o.woken ≤ 64

few_of : (b : Bool) (o p : Outcome) → Few o → Few p → Few (cond b o p)
few_of true o p f g = f
few_of false o p f g = g

few_take : (c : State) (x q : ℕ) (a : Agent) → Few (take c x q a)
unfolding take still
few_take c x q a = few_of (eqb (c.lock q) none) _ _ (omega arith) (omega arith)

few_look : (c : State) (x : ℕ) (a : Agent) → Few (look c x a)
unfolding look turn still
few_look c x a = few_of (looks_home (kind_of a)) _ _ (omega arith) (few_of (linked c.land a.home) _ _ (omega arith) (omega arith))

few_hold : (c : State) (x : ℕ) (a : Agent) (wish : ℕ) → Few (hold c x a wish)
unfolding hold put_or_sleep put lock_second release still
few_hold c x a wish =
    few_of (stays c.land a) _ _
    (few_of (eqb (kind_of a) release_kind) _ _
    (few_of (ltb (fresh_number c.land.used) 64) _ _ (count_most 64 _) (omega arith))
    (few_of (ltb (choice c.land a wish) 64) _ _ (few_take c x _ _) (omega arith)))
    (omega arith)

few_act : (c : State) (x : ℕ) (a : Agent) → Few (act c x a)
unfolding act dissolve leave release still
few_act c x a = few_of (fires c.land a) _ _ (few_of (eqb (kind_of a) open_kind) _ _ (count_most 64 _) (count_most 64 _)) (omega arith)

few_travel : (c : State) (x : ℕ) (a : Agent) → Few (travel c x a)
unfolding travel arrive
few_travel c x a = few_of (eqb a.stage on_way) _ _ (few_take c x _ _) (few_of (eqb a.stage on_way_own) _ _ (few_take c x _ _) (count_most 64 _))

few_step : (c : State) (x wish : ℕ) → Few (step c x wish)
unfolding step step_at lock_first still
few_step c x wish =
    let a = c.agent x in
    few_of (eqb a.stage looking) _ _ (few_look c x a)
    (few_of (eqb a.stage found) _ _ (few_take c x _ _)
    (few_of (eqb a.stage holding) _ _ (few_hold c x a wish)
    (few_of (eqb a.stage holding_both) _ _ (few_act c x a)
    (few_of (leb a.stage on_way_both) _ _ (few_travel c x a)
    (few_of (eqb a.stage asleep) _ _ (omega arith) (omega arith))))))

-- ---- the number of an answer

-- number woken and refusal have their bits
abbrev Fits : Answer → Type 0
Fits (Ok o) = o.woken < 256
Fits (Err number) = (0 < number) × (number < 128)

-- a step call refuses with 10 and 11 alone
step_fits : (t : Cell) (x wish : ℕ) → Fits (step_of t x wish).answer
unfolding step_of made turned_away
step_fits t x wish = go (told (sound (cell_of t))) (told ((cell_of t).given x))
  where
    go : Told (sound (cell_of t)) → Told ((cell_of t).given x) → Fits (step_of t x wish).answer
    go (yea e) (yea g) = rw (e, g) (omega (arith, few_step (cell_of t) x wish))
    go (yea e) (nay g) = rw (e, g) (lit< tt, lit< tt)
    go (nay e) _ = rw e (lit< tt, lit< tt)

word_small : (w : Word) → word_number w < 11
word_small Looked = lit< tt
word_small Took = lit< tt
word_small Held = lit< tt
word_small Back = lit< tt
word_small Slept = lit< tt
word_small Left = lit< tt
word_small Came = lit< tt
word_small Opened = lit< tt
word_small Put = lit< tt
word_small Asleep = lit< tt
word_small Done = lit< tt

-- word and number woken are read off their number
module _ (w n : ℕ) (a : w < 256) (b : n < 256) where
  exact : above (n * 256 + w) 0 ≡ n * 65536 + w * 256
  exact = omega arith

  refusal_of : above (n * 256 + w) 0 % 256 ≡ 0
  refusal_of = ap (λ (i : ℕ). i % 256) exact ∙ omega arith

  word_of : above (n * 256 + w) 0 / 256 % 256 ≡ w
  word_of = ap (λ (i : ℕ). i / 256 % 256) exact ∙ omega arith

  woken_of : above (n * 256 + w) 0 / 65536 % 256 ≡ n
  woken_of = ap (λ (i : ℕ). i / 65536 % 256) exact ∙ omega arith

-- the window after a step, told by the number of its answer
noted_answer : (w : Window) (rest : Bool) (answer : Answer) → Fits answer → noted_of w (step_number answer) rest ≡ step_window w rest answer
unfolding noted_of
noted_answer w rest (Ok o) l =
    let s : word_number o.word < 256 = omega (arith, word_small o.word) in
    rw (eq-eqb (step_number (Did o.word o.woken) % 256) 0 (refusal_of (word_number o.word) o.woken s l))
    (ap₂ (λ (m n : ℕ). did_of w m n rest) (word_of (word_number o.word) o.woken s l) (woken_of (word_number o.word) o.woken s l))
noted_answer w rest (Err number) l =
    let low : number % 256 ≡ number = omega (arith, l.1) in
    let some : number % 256 ≢ 0 = λ e. omega (arith, e, low, l.0) in
    let same : number % 256 % 128 ≡ number = omega (arith, l.1) in
    rw (ne_eqb (number % 256) 0 some) (ap (λ (n : ℕ). lined (with_answer w (refused_base + n) 0 (with_flag refused_flag true w.flags))) same)

-- the same told by the bytes of the number, the lowest first
module _ (w : Window) (bytes : List ℕ) (number : ℕ) (rest : Bool) (e : bytes ≡ to_le_bytes w64 number) where
  pub noted_did : get_or bytes 0 0 ≡ 0 → did_of w (get_or bytes 1 0) (get_or bytes 2 0) rest ≡ noted_of w number rest
  unfolding noted_of
  noted_did z = rw (eq-eqb (number % 256) 0 (sym (ap (λ (s : List ℕ). get_or s 0 0) e) ∙ z))
      (ap₂ (λ (m n : ℕ). did_of w m n rest) (ap (λ (s : List ℕ). get_or s 1 0) e) (ap (λ (s : List ℕ). get_or s 2 0) e))

  pub noted_refused : get_or bytes 0 0 ≢ 0 → refused_of w (get_or bytes 0 0) ≡ noted_of w number rest
  unfolding noted_of
  noted_refused z = rw (ne_eqb (number % 256) 0 (λ n. z (ap (λ (s : List ℕ). get_or s 0 0) e ∙ n)))
      (ap (refused_of w) (ap (λ (s : List ℕ). get_or s 0 0) e))

-- so after any step call
pub noted_step : (t : Cell) (x wish : ℕ) (w : Window) (rest : Bool) → noted_of w (step_number (step_of t x wish).answer) rest ≡ step_window w rest (step_of t x wish).answer
noted_step t x wish w rest = noted_answer w rest (step_of t x wish).answer (step_fits t x wish)

-- ---- a command

-- a step s of this window's agent with its wish, and the window that was noted
pub command_step : (t : Cell) (w : Window) (d : Cell) (number : ℕ) (rest : Bool) (v : Window) → w.command ≡ 1 → d ≡ (step_of t w.agent w.wish).cell
    → number ≡ step_number (step_of t w.agent w.wish).answer → rest ≡ idle (cell_of d) → v ≡ noted_of w number rest
    → record { cell = d; window = v } ≡ command_of t w
unfolding command_of
command_step t w d number rest v e f g i k =
    rw (eq-eqb w.command 1 e) (λ j. record { cell = f j; window = (k ∙ ap₂ (noted_of w) g (i ∙ ap (λ (u : Cell). idle (cell_of u)) f) ∙ noted_step t w.agent w.wish w _) j })

-- any other command
pub command_other : (t : Cell) (w v : Window) → w.command ≢ 1 → v ≡ lined w → record { cell = t; window = v } ≡ command_of t w
unfolding command_of
command_other t w v e g = rw (ne_eqb w.command 1 e) (λ j. record { cell = t; window = g j })
