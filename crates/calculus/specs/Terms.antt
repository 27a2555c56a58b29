-- The published ambient calculus: terms, structural equivalence and reduction, rule by rule.
-- Source 002, sections 2.1, 2.2 and 2.3; `open` and its two rules are source 004's (slides "Reduction" and "Structural Congruence"),
-- where 002's enter and exit are called `in` and `out` and have the same rules.
-- Left out of 004, as document 01 says: restriction (Res), replication (Repl) and messages (input, output, Red Comm, paths of capabilities).
-- The papers' ≡ is written ≅ here, because ≡ is equality.
-- "In 002 section 4.4 a name holds separate keys for entering and exiting": here it holds these and one for opening, and an action has one
-- number. "An action's number is compared with the key of its kind on the place entered, left or opened, and the calculus rules .. are read
-- with that comparison" (document 02, W6): where the papers print `enter n`, `exit n` or `open n`, the number is the key of that kind of n.
-- Added to both papers: release and its rule (document 02, W11); 000 section 4.1 writes it as an empty ambient that is put out.
use Rattle.std.specs.Prelude.{◌≡◌, Bool, true, ℕ, ◌+◌, ltb}
use Rattle.table.specs.Cell.{enter_kind, exit_kind, open_kind, key_of, plain_name}
use Rattle.table.specs.declared.Name.{Name}

-- ---- 002, 2.1 Syntax

-- P, Q ::= ; an ambient has a name with its keys, an action the number that is compared with a key
pub data Term : Type 0 where
  -- n[P]          ambient with name n, its keys in it, and content P
  amb : Name → Term → Term
  -- 0             termination
  nil : Term
  -- P | Q         parallel execution
  ◌∣◌ : Term → Term → Term
  -- enter k. P    enter an ambient whose key for entering is k, then do P
  enter : ℕ → Term → Term
  -- exit k. P     exit an ambient whose key for exiting is k, then do P
  exit : ℕ → Term → Term
  -- open k. P     (004) open an ambient whose key for opening is k, then do P
  «open» : ℕ → Term → Term
  -- release n. P  (W11) put out an empty ambient named n, all its keys n, then do P
  release : ℕ → Term → Term

-- A for each agent with actions and B for each ambient of a term
unfoldable pub weigh : ℕ → ℕ → Term → ℕ
weigh A B (amb n P) = B + weigh A B P
weigh A B nil = 0
weigh A B (P ∣ Q) = weigh A B P + weigh A B Q
weigh A B (enter n P) = A
weigh A B (exit n P) = A
weigh A B («open» n P) = A
weigh A B (release n P) = A

-- how many ambients a term has; one behind an action is not there yet and does not count
abbrev pub ambients : Term → ℕ
ambients P = weigh 0 1 P

infixr 40 ◌∣◌
infix 20 ◌≅◌ ◌⟶◌ ◌⟶*◌
-- ---- 002, 2.2 Structural equivalence relation

pub data ◌≅◌ : Term → Term → Type 0 where
  -- (Struct Refl)
  struct_refl : {P : Term} → P ≅ P
  -- (Struct Symm)
  struct_symm : {P Q : Term} → P ≅ Q → Q ≅ P
  -- (Struct Trans)
  struct_trans : {P Q R : Term} → P ≅ Q → Q ≅ R → P ≅ R
  -- (Struct Par Zero)
  struct_par_zero : {P : Term} → P ∣ nil ≅ P
  -- (Struct Par Comm)
  struct_par_comm : {P Q : Term} → P ∣ Q ≅ Q ∣ P
  -- (Struct Par Assoc)
  struct_par_assoc : {P Q R : Term} → (P ∣ Q) ∣ R ≅ P ∣ (Q ∣ R)
  -- (Struct Amb): the same name with the same keys
  struct_amb : {n : Name} {P Q : Term} → P ≅ Q → amb n P ≅ amb n Q
  -- (Struct Par)
  struct_par : {P Q R : Term} → P ≅ Q → P ∣ R ≅ Q ∣ R
  -- (Struct Enter)
  struct_enter : {n : ℕ} {P Q : Term} → P ≅ Q → enter n P ≅ enter n Q
  -- (Struct Exit)
  struct_exit : {n : ℕ} {P Q : Term} → P ≅ Q → exit n P ≅ exit n Q
  -- 004's (Struct Action), for open
  struct_open : {n : ℕ} {P Q : Term} → P ≅ Q → «open» n P ≅ «open» n Q
  -- and for release
  struct_release : {n : ℕ} {P Q : Term} → P ≅ Q → release n P ≅ release n Q

-- ---- 002, 2.3 Reduction relation

-- the rules; room says whether a number is unused, which release asks for. Without room these are the published rules alone; with room there is
-- one more, W11's
pub data Reduces (room : Bool) : Term → Term → Type 0 where
  -- (Red Enter): the number of the enter is the key for entering of the ambient m that is entered
  red_enter : {n m : Name} {P Q R : Term} → Reduces room (amb n (enter (key_of enter_kind m) P ∣ Q) ∣ amb m R) (amb m (amb n (P ∣ Q) ∣ R))
  -- (Red Exit): the number of the exit is the key for exiting of the ambient m that is left
  red_exit : {n m : Name} {P Q R : Term} → Reduces room (amb m (amb n (exit (key_of exit_kind m) P ∣ Q) ∣ R)) (amb n (P ∣ Q) ∣ amb m R)
  -- 004's (Red Open): the number of the open is the key for opening of the ambient n that is opened
  red_open : {n : Name} {P Q : Term} → Reduces room («open» (key_of open_kind n) P ∣ amb n Q) (P ∣ Q)
  -- "Release counts as a move of the calculus, permitted while a number is unused: `release n.P` becomes `n[] | P`" (document 02, W11)
  red_release : {n : ℕ} {P : Term} → room ≡ true → Reduces room (release n P) (amb (plain_name n) nil ∣ P)
  -- (Red Amb)
  red_amb : {n : Name} {P Q : Term} → Reduces room P Q → Reduces room (amb n P) (amb n Q)
  -- (Red Par)
  red_par : {P Q R : Term} → Reduces room P Q → Reduces room (P ∣ R) (Q ∣ R)
  -- (Red Struct)
  red_struct : {P' P Q Q' : Term} → P' ≅ P → Reduces room P Q → Q ≅ Q' → Reduces room P' Q'

-- "while a number is unused": of the 64 numbers the floor has one, so a whole term with room has fewer than 63 ambients
abbrev pub room : Term → Bool
room P = ltb (ambients P) 63

-- one-step reduction of a whole term
abbrev pub ◌⟶◌ : Term → Term → Type 0
◌⟶◌ P Q = Reduces (room P) P Q

-- the reflexive and transitive closure of one-step reduction
pub data ◌⟶*◌ : Term → Term → Type 0 where
  red_none : {P : Term} → P ⟶* P
  red_then : {P Q R : Term} → P ⟶ Q → Q ⟶* R → P ⟶* R
