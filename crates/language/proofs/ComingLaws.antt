-- What may still come at a state, one byte earlier: `rest_back`.
use Rattle.std.specs.Prelude.{◌≡◌, refl, [], ◌∷◌, ◌++◌, ℕ, suc, ◌+◌, ◌*◌, ◌-◌, ◌≤◌, ◌<◌, length, get_or, drop}
use Rattle.std.proofs.Common.{sym, ap, ap₂, ◌∙◌, inl, inr, append_assoc, arith, add-one, drop-cons}
use Rattle.std.proofs.Math.Path.{subst}
use Rattle.std.proofs.Math.Seq.{drop-length}
use Rattle.table.specs.Base.{tab}
use Rattle.table.specs.Cell.{enter_kind, exit_kind, open_kind, release_kind, last_kind}
use Rattle.meaning.specs.Text.{decimal}
use Rattle.meaning.specs.Listing.{kind_text, slashed}
use Rattle.language.specs.declared.Field.{Field}
use Rattle.language.specs.declared.Field.TheVariants.{PlaceName, EnterKey, ExitKey, OpenKey, ActionNumber}
use Rattle.language.specs.declared.Control.{Control}
use Rattle.language.specs.declared.Event.{Event}
use Rattle.language.specs.declared.Moved.{Moved}
use Rattle.language.specs.declared.Moved.TheVariants.{To, Off}
use Rattle.language.specs.Grammar.{Text, Number, left_off, written, nothing}
use Rattle.language.specs.Grammar.{action_typed, further_typed, keys_typed, contents_typed}
use Rattle.language.specs.Machine.{least_of}
use Rattle.language.proofs.Ways
use Rattle.language.proofs.Ways.{Opening, opening_begin, opening_part, opening_within, Wording, wording_part, wording_dot}
use Rattle.language.proofs.Ways.{Ending, ending_place, ending_action, Digit, Way}
use Rattle.language.proofs.PartLaws.{parts_inside, parts_beside, out_beside, no_further}
use Rattle.language.proofs.DecimalLaws.{decimal_one, decimal_more}
use Rattle.language.proofs.Coming.{Closings, closings_out, Beside, Inside, Further, Keyed, Bracket, LastKey, TwoKeys, Next, Counted, Worded}
use Rattle.language.proofs.Coming.{Parts, an_agent, a_place, Rest}
use Rattle.language.proofs.Coming.{Good, good_spell, good_digits}

-- what may come after a byte
unfoldable pub RestMoved : Moved → Text → Type 0
RestMoved (To c d e) s = Rest c d s
RestMoved Off s = ⊥

-- a part, where one may begin
opening_rest : {c : Control} → Opening c → (d : ℕ) (s : Text) → Parts d s → Rest c d s
unfolding Rest
opening_rest opening_begin d s p = inr p
opening_rest opening_part d s p = p
opening_rest opening_within d s p = parts_inside d s p

-- a word, where one may begin
wording_rest : {c : Control} {e : Event} → Wording c e → (d : ℕ) (s : Text) → Worded d s → Rest c d s
unfolding Rest
wording_rest (wording_part h) d s w = opening_rest h d s (an_agent w)
wording_rest wording_dot d s w = w

-- a number that is complete
pub complete : (f : Field) (v d : ℕ) (s : Text) → least_of f ≤ v → v ≤ 65535 → Next f d s → Counted f d (decimal v ++ s)
complete f v d s l h n = record { number = record { value = v; low = l; high = h }; rest = s; same = refl; after = n }

-- what stands beside a part, where one has ended
ending_rest : {c : Control} {e f : Event} → Ending c e f → Good c → (d : ℕ) (s : Text) → Beside d s → Rest c d s
unfolding Rest Next
ending_rest ending_place g d s b = b
ending_rest (ending_action {k} {v}) (good_digits l h) d s b = complete (ActionNumber k) v d s l h (no_further d s b)

-- a digit is its value
digit_byte : {least b : ℕ} → Digit least b → 48 + (b - 48) ≡ b
digit_byte {least} {b} e = omega (arith, e.low)

-- the first digit of a number
first_byte : {least : ℕ} (b : ℕ) (s : Text) → Digit least b → decimal (b - 48) ++ s ≡ b ∷ s
first_byte b s e = ap (λ z. z ++ s) (decimal_one (b - 48) (omega (arith, e.high))) ∙ ap (λ z. z ∷ s) (digit_byte e)

-- one digit more
more_bytes : (v b : ℕ) (s : Text) → 1 ≤ v → v ≤ 65535 → Digit 0 b → decimal (v * 10 + (b - 48)) ++ s ≡ decimal v ++ (b ∷ s)
more_bytes v b s l h e = ap (λ z. z ++ s) (decimal_more v (b - 48) l h (omega (arith, e.high)))
    ∙ append_assoc (decimal v) _ s
    ∙ ap (λ z. decimal v ++ (z ∷ s)) (digit_byte e)

-- one byte more of a word
spell_byte : (k i b : ℕ) (s r : Text) → i < length (kind_text k) → b ≡ get_or (kind_text k) i 0 → s ≡ drop (suc i) (kind_text k) ++ r
    → b ∷ s ≡ drop i (kind_text k) ++ r
spell_byte k i b s r l e q = ap₂ (λ (x : ℕ) (y : Text). x ∷ y) e q ∙ ap (λ z. z ++ r) (sym (drop-cons (kind_text k) i 0 l))

-- the first bytes of a word
spelt : (k i : ℕ) (p s r : Text) → kind_text k ≡ p ++ drop i (kind_text k) → s ≡ drop i (kind_text k) ++ r → p ++ s ≡ kind_text k ++ r
spelt k i p s r e q = ap (λ z. p ++ z) q ∙ sym (append_assoc p (drop i (kind_text k)) r) ∙ ap (λ z. z ++ r) (sym e)

-- a word of which some bytes are read
worded : (k i d : ℕ) (p s : Text) → 1 ≤ k → k ≤ last_kind → kind_text k ≡ p ++ drop i (kind_text k)
    → (r : Text) × (s ≡ drop i (kind_text k) ++ r) × Counted (ActionNumber k) d r → Worded d (p ++ s)
worded k i d p s l h e q = record { kind = k; from_one = l; to_last = h; rest = q.0; same = spelt k i p s q.0 e q.1; after = q.2 }

-- `en` begins `enter`
enter_word : kind_text enter_kind ≡ 101 ∷ (110 ∷ drop 2 (kind_text enter_kind))
unfolding kind_text tab
enter_word = refl

-- `ex` begins `exit`
exit_word : kind_text exit_kind ≡ 101 ∷ (120 ∷ drop 2 (kind_text exit_kind))
unfolding kind_text tab
exit_word = refl

-- `o` begins `open`
open_word : kind_text open_kind ≡ 111 ∷ drop 1 (kind_text open_kind)
unfolding kind_text tab
open_word = refl

-- `r` begins `release`
release_word : kind_text release_kind ≡ 114 ∷ drop 1 (kind_text release_kind)
unfolding kind_text tab
release_word = refl

-- a byte put back
byte : (F : Text → Type 0) (b w : ℕ) (s : Text) → b ≡ w → F (w ∷ s) → F (b ∷ s)
byte F b w s e r = subst (λ z. F (z ∷ s)) (sym e) r

-- a bracket after a name: the keys are left off
open_keyed : (d : ℕ) (s : Text) → Inside (suc d) s → Keyed d (91 ∷ s)
unfolding keys_typed
open_keyed d s r = record { keys = left_off; rest = s; same = refl; holds = r }

-- a number as a key
any_key : {least : ℕ} → Number least → Number 0
any_key n = record { value = n.value; low = omega arith; high = n.high }

-- three keys and what follows them
three_keys : (e x o : Number 0) (r : Text)
    → keys_typed (written e x o) ++ r ≡ 47 ∷ (decimal e.value ++ (47 ∷ (decimal x.value ++ (47 ∷ (decimal o.value ++ r)))))
unfolding keys_typed slashed tab
three_keys e x o r = ap (λ z. 47 ∷ z)
    (append_assoc (decimal e.value) (47 ∷ (decimal x.value ++ (47 ∷ decimal o.value))) r
    ∙ ap (λ z. decimal e.value ++ (47 ∷ z)) (append_assoc (decimal x.value) (47 ∷ decimal o.value) r))

-- a slash after a name: three keys are written
slash_keyed : (n d : ℕ) (s : Text) → Counted (EnterKey n) d s → Keyed d (47 ∷ s)
unfolding Next any_key
slash_keyed n d s r =
    let t : TwoKeys d r.rest = r.after in
    let l = t.then in
    let b = l.then in
    record {
      keys = written (any_key r.number) t.key l.key;
      rest = b.rest;
      same = ap (λ z. 47 ∷ z) (r.same ∙ ap (λ z. decimal r.number.value ++ z) (t.same ∙ ap (λ z. 47 ∷ (decimal t.key.value ++ z)) (l.same
          ∙ ap (λ z. 47 ∷ (decimal l.key.value ++ z)) b.same))) ∙ sym (three_keys (any_key r.number) t.key l.key (91 ∷ b.rest));
      holds = b.holds;
    }

-- a full stop after an action
dot_further : (d : ℕ) (s : Text) → Worded d s → Further d (46 ∷ s)
unfolding Next further_typed action_typed tab
dot_further d s w =
    let n = w.after in
    let f : Further d n.rest = n.after in
    record {
      further = record { kind = w.kind; from_one = w.from_one; to_last = w.to_last; number = number } ∷ f.further;
      rest = f.rest;
      same = ap (λ z. 46 ∷ z) (w.same ∙ ap (λ z. kind_text w.kind ++ z) (n.same ∙ ap (λ z. decimal n.number.value ++ z) f.same))
          ∙ sym (simp append_assoc);
      after = f.after;
    }
  where
    number : Number 1
    number = let n = w.after.number in record { value = n.value; low = unfold least_of in n.low; high = n.high }

-- what may come after a byte, and the byte before it, may come where the byte is read
pub rest_back : {c : Control} {d b : ℕ} {m : Moved} → Good c → Way c d b m → (s : Text) → RestMoved m s → Rest c d (b ∷ s)
unfolding RestMoved Rest Next any_key
rest_back g Ways.stuck s r = absurd r
rest_back {b = b} g (Ways.zero_floor e) s r = inl (ap₂ (λ (x : ℕ) (y : Text). x ∷ y) e r)
rest_back {d = d} {b = b} g (Ways.name_digit h e) s r = opening_rest h d (b ∷ s) (a_place (subst (Counted PlaceName d) (first_byte b s e) r))
rest_back {d = d} {b = b} g (Ways.letter_e w e) s r = wording_rest w d (b ∷ s) (byte (Worded d) b 101 s e r)
rest_back {d = d} {b = b} g (Ways.letter_o w e) s r = wording_rest w d (b ∷ s)
    (byte (Worded d) b 111 s e (worded open_kind 1 d (111 ∷ []) s (omega arith) (omega arith) open_word r))
rest_back {d = d} {b = b} g (Ways.letter_r w e) s r = wording_rest w d (b ∷ s)
    (byte (Worded d) b 114 s e (worded release_kind 1 d (114 ∷ []) s (omega arith) (omega arith) release_word r))
rest_back {b = b} g (Ways.empty_place {d = d} e) s r = byte (Inside (suc d)) b 93 s e
    (record {
      inside = nothing;
      rest = 93 ∷ s;
      same = (unfold contents_typed in refl);
      closings = subst (λ z. Closings (suc d) (93 ∷ z)) (sym r.same) (closings_out r.beside r.closings);
    })
rest_back {d = d} {b = b} g (Ways.end_bar h e) s r = ending_rest h g d (b ∷ s) (byte (Beside d) b 32 s e (parts_beside d s r.0 r.1 r.2))
rest_back {b = b} g (Ways.end_out {d = d} h e) s r = ending_rest h g (suc d) (b ∷ s) (byte (Beside (suc d)) b 93 s e (out_beside d s r))
rest_back {b = b} g (Ways.the_bar e) s r = (r.0, ap₂ (λ (x : ℕ) (y : Text). x ∷ y) e r.1, r.2)
rest_back {b = b} g (Ways.bar_space e) s r = (s, ap (λ (x : ℕ). x ∷ s) e, r)
rest_back {d = d} {b = b} g (Ways.letter_n e) s r = subst (λ z. Worded d (101 ∷ (z ∷ s))) (sym e)
    (worded enter_kind 2 d (101 ∷ (110 ∷ [])) s (omega arith) (omega arith) enter_word r)
rest_back {d = d} {b = b} g (Ways.letter_x e) s r = subst (λ z. Worded d (101 ∷ (z ∷ s))) (sym e)
    (worded exit_kind 2 d (101 ∷ (120 ∷ [])) s (omega arith) (omega arith) exit_word r)
rest_back {b = b} (good_spell x y l) (Ways.word_on {k = k} {i = i} e n) s r =
    (r.0, spell_byte k i b s r.0 l e (r.1 ∙ ap (λ z. drop z (kind_text k) ++ r.0) (add-one i)), r.2)
rest_back {b = b} (good_spell x y l) (Ways.word_ends {k = k} {i = i} e n) s r = (
  s,
  spell_byte k i b s s l e (ap (λ z. z ++ s) (sym (ap (λ z. drop z (kind_text k)) (let q : suc i ≡ length (kind_text k) = omega arith in q)
      ∙ drop-length (kind_text k)))),
  r,
)
rest_back {d = d} {b = b} g (Ways.first_digit {f = f} e) s r = subst (Counted f d) (first_byte b s e) r
rest_back {d = d} {b = b} (good_digits l h) (Ways.more_digits {f = f} {v = v} k e t) s r = subst (Counted f d) (more_bytes v b s k h e) r
rest_back {d = d} {b = b} (good_digits l h) (Ways.open_name {v = v} e) s r = complete PlaceName v d (b ∷ s) l h
    (byte (Keyed d) b 91 s e (open_keyed d s r))
rest_back {d = d} {b = b} (good_digits l h) (Ways.open_keys {n = n} {e = k} {q = q} {v = v} e) s r =
    complete (OpenKey n k q) v d (b ∷ s) l h (byte (Bracket d) b 91 s e (record { rest = s; same = refl; holds = r }))
rest_back {d = d} {b = b} (good_digits l h) (Ways.slash_name {v = v} e) s r = complete PlaceName v d (b ∷ s) l h
    (byte (Keyed d) b 47 s e (slash_keyed v d s r))
rest_back {d = d} {b = b} (good_digits l h) (Ways.slash_enter {n = n} {v = v} e) s r =
    complete (EnterKey n) v d (b ∷ s) l h (byte (TwoKeys d) b 47 s e
    (record { key = any_key r.number; rest = r.rest; same = ap (λ z. 47 ∷ z) r.same; then = r.after }))
rest_back {d = d} {b = b} (good_digits l h) (Ways.slash_exit {n = n} {e = k} {v = v} e) s r =
    complete (ExitKey n k) v d (b ∷ s) l h (byte (LastKey d) b 47 s e
    (record { key = any_key r.number; rest = r.rest; same = ap (λ z. 47 ∷ z) r.same; then = r.after }))
rest_back {d = d} {b = b} (good_digits l h) (Ways.the_dot {k = k} {v = v} e) s r = complete (ActionNumber k) v d (b ∷ s) l h
    (byte (Further d) b 46 s e (dot_further d s r))
