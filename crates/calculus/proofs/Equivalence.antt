-- Equivalent terms have the same parts at the top, up to equivalence within the parts and of what is left beside them.
-- Idea: "part L stands at the top of P, and P' is left" is an inductive relation; each rule of equivalence carries it across both ways.
use Rattle.std.specs.Prelude.{ℕ}
use Rattle.table.specs.declared.Name.{Name}
use Rattle.calculus.specs.Terms.{Term, amb, nil, ◌∣◌, enter, exit, «open», release, ◌≅◌, struct_refl, struct_symm, struct_trans}
use Rattle.calculus.specs.Terms.{struct_par_zero, struct_par_comm, struct_par_assoc, struct_amb, struct_par, struct_enter}
use Rattle.calculus.specs.Terms.{struct_exit, struct_open, struct_release}

-- the part L stands at the top of P, and P' is left
pub data Takes : Term → Term → Term → Type 0 where
  take_amb : {n : Name} {P : Term} → Takes (amb n P) (amb n P) nil
  take_enter : {n : ℕ} {P : Term} → Takes (enter n P) (enter n P) nil
  take_exit : {n : ℕ} {P : Term} → Takes (exit n P) (exit n P) nil
  take_open : {n : ℕ} {P : Term} → Takes («open» n P) («open» n P) nil
  take_release : {n : ℕ} {P : Term} → Takes (release n P) (release n P) nil
  take_left : {P Q L P' : Term} → Takes P L P' → Takes (P ∣ Q) L (P' ∣ Q)
  take_right : {P Q L Q' : Term} → Takes Q L Q' → Takes (P ∣ Q) L (P ∣ Q')

-- two parts with the same head and equivalent bodies
pub data Like : Term → Term → Type 0 where
  like_amb : {n : Name} {P Q : Term} → P ≅ Q → Like (amb n P) (amb n Q)
  like_enter : {n : ℕ} {P Q : Term} → P ≅ Q → Like (enter n P) (enter n Q)
  like_exit : {n : ℕ} {P Q : Term} → P ≅ Q → Like (exit n P) (exit n Q)
  like_open : {n : ℕ} {P Q : Term} → P ≅ Q → Like («open» n P) («open» n Q)
  like_release : {n : ℕ} {P Q : Term} → P ≅ Q → Like (release n P) (release n Q)

like_symm : {L M : Term} → Like L M → Like M L
like_symm (like_amb e) = like_amb (struct_symm e)
like_symm (like_enter e) = like_enter (struct_symm e)
like_symm (like_exit e) = like_exit (struct_symm e)
like_symm (like_open e) = like_open (struct_symm e)
like_symm (like_release e) = like_release (struct_symm e)

like_trans : {L M N : Term} → Like L M → Like M N → Like L N
like_trans (like_amb e) (like_amb f) = like_amb (struct_trans e f)
like_trans (like_enter e) (like_enter f) = like_enter (struct_trans e f)
like_trans (like_exit e) (like_exit f) = like_exit (struct_trans e f)
like_trans (like_open e) (like_open f) = like_open (struct_trans e f)
like_trans (like_release e) (like_release f) = like_release (struct_trans e f)

taken_like : {P L P' : Term} → Takes P L P' → Like L L
taken_like take_amb = like_amb struct_refl
taken_like take_enter = like_enter struct_refl
taken_like take_exit = like_exit struct_refl
taken_like take_open = like_open struct_refl
taken_like take_release = like_release struct_refl
taken_like (take_left o) = taken_like o
taken_like (take_right o) = taken_like o

-- X has a part like L, and what is left is equivalent to Y
pub record Match (X L Y : Term) : Type 0 where
  pub part : Term
  pub rest : Term
  pub takes : Takes X part rest
  pub like : Like part L
  pub same : rest ≅ Y

-- the part itself
itself : {X L Y Z : Term} → Takes X L Z → Z ≅ Y → Match X L Y
itself {X} {L} {Y} {Z} o e = record { part = L; rest = Z; takes = o; like = taken_like o; same = e }

-- the parts of X and of Y match, both ways
record SameParts (X Y : Term) : Type 0 where
  back : {L Y' : Term} → Takes Y L Y' → Match X L Y'
  forth : {L X' : Term} → Takes X L X' → Match Y L X'

-- ---- one lemma for each rule of equivalence

parts_refl : {X : Term} → SameParts X X
parts_refl = record { back = λ o. itself o struct_refl; forth = λ o. itself o struct_refl }

parts_symm : {X Y : Term} → SameParts X Y → SameParts Y X
parts_symm b = record { back = b.forth; forth = b.back }

match_trans : {X Y L Z : Term} → SameParts X Y → Match Y L Z → Match X L Z
match_trans b m =
    let k = b.back m.takes in
    record { part = k.part; rest = k.rest; takes = k.takes; like = like_trans k.like m.like; same = struct_trans k.same m.same }

parts_trans : {X Y Z : Term} → SameParts X Y → SameParts Y Z → SameParts X Z
parts_trans a b = record { back = λ o. match_trans a (b.back o); forth = λ o. match_trans (parts_symm b) (a.forth o) }

zero_forth : {P L Z : Term} → Takes (P ∣ nil) L Z → Match P L Z
zero_forth (take_left o) = itself o (struct_symm struct_par_zero)
zero_forth (take_right x) = elim x [ ]

comm_forth : {P Q L Z : Term} → Takes (P ∣ Q) L Z → Match (Q ∣ P) L Z
comm_forth (take_left o) = itself (take_right o) struct_par_comm
comm_forth (take_right o) = itself (take_left o) struct_par_comm

assoc_forth : {P Q R L Z : Term} → Takes ((P ∣ Q) ∣ R) L Z → Match (P ∣ (Q ∣ R)) L Z
assoc_forth (take_left (take_left o)) = itself (take_left o) (struct_symm struct_par_assoc)
assoc_forth (take_left (take_right o)) = itself (take_right (take_left o)) (struct_symm struct_par_assoc)
assoc_forth (take_right o) = itself (take_right (take_right o)) (struct_symm struct_par_assoc)

assoc_back : {P Q R L Z : Term} → Takes (P ∣ (Q ∣ R)) L Z → Match ((P ∣ Q) ∣ R) L Z
assoc_back (take_left o) = itself (take_left (take_left o)) struct_par_assoc
assoc_back (take_right (take_left o)) = itself (take_left (take_right o)) struct_par_assoc
assoc_back (take_right (take_right o)) = itself (take_right o) struct_par_assoc

par_forth : {P Q R L Z : Term} → SameParts P Q → P ≅ Q → Takes (P ∣ R) L Z → Match (Q ∣ R) L Z
par_forth b e (take_left o) =
    let k = b.forth o in
    record { part = k.part; rest = _; takes = take_left k.takes; like = k.like; same = struct_par k.same }
par_forth b e (take_right o) = itself (take_right o) (struct_par (struct_symm e))

-- one part alone
alone_forth : {P Q L Z : Term} → Like P Q → Takes Q Q nil → Takes P L Z → Match Q L Z
alone_forth k q take_amb = record { part = _; rest = nil; takes = q; like = like_symm k; same = struct_refl }
alone_forth k q take_enter = record { part = _; rest = nil; takes = q; like = like_symm k; same = struct_refl }
alone_forth k q take_exit = record { part = _; rest = nil; takes = q; like = like_symm k; same = struct_refl }
alone_forth k q take_open = record { part = _; rest = nil; takes = q; like = like_symm k; same = struct_refl }
alone_forth k q take_release = record { part = _; rest = nil; takes = q; like = like_symm k; same = struct_refl }
alone_forth k q (take_left _) = elim k [ ]
alone_forth k q (take_right _) = elim k [ ]

alone : {P Q : Term} → Like P Q → Takes P P nil → Takes Q Q nil → SameParts P Q
alone k p q = record { back = λ o. alone_forth (like_symm k) p o; forth = λ o. alone_forth k q o }

same_parts : {X Y : Term} → X ≅ Y → SameParts X Y
same_parts struct_refl = parts_refl
same_parts (struct_symm e) = parts_symm (same_parts e)
same_parts (struct_trans e f) = parts_trans (same_parts e) (same_parts f)
same_parts struct_par_zero = record { back = λ o. itself (take_left o) struct_par_zero; forth = zero_forth }
same_parts struct_par_comm = record { back = comm_forth; forth = comm_forth }
same_parts struct_par_assoc = record { back = assoc_back; forth = assoc_forth }
same_parts (struct_amb e) = alone (like_amb e) take_amb take_amb
same_parts (struct_par e) = record { back = λ o. par_forth (parts_symm (same_parts e)) (struct_symm e) o; forth = λ o. par_forth (same_parts e) e o }
same_parts (struct_enter e) = alone (like_enter e) take_enter take_enter
same_parts (struct_exit e) = alone (like_exit e) take_exit take_exit
same_parts (struct_open e) = alone (like_open e) take_open take_open
same_parts (struct_release e) = alone (like_release e) take_release take_release

-- a part of a term stands in each equivalent term
pub inverted : {X Y L Y' : Term} → X ≅ Y → Takes Y L Y' → Match X L Y'
inverted e o = (same_parts e).back o
