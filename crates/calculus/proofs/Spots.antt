-- A reduction, by the spot where it happens: at the top beside a rest, or within an ambient beside a rest.
-- Idea: a spot keeps the rules that move something and takes up Red Par and Red Struct in its two equivalences.
use Rattle.std.specs.Prelude.{◌≡◌, Bool, true, ℕ}
use Rattle.table.specs.Cell.{enter_kind, exit_kind, open_kind, key_of, plain_name}
use Rattle.table.specs.declared.Name.{Name}
use Rattle.calculus.specs.Terms.{Term, amb, nil, ◌∣◌, enter, exit, «open», release, ◌≅◌, struct_symm, struct_par_zero, struct_par_assoc}
use Rattle.calculus.specs.Terms.{struct_par, Reduces, red_enter, red_exit, red_open, red_release, red_amb, red_par, red_struct}
use Rattle.calculus.proofs.TermLaws.{◌⨾◌}

-- the rules that move something; release asks for room
pub data Redex (room : Bool) : Term → Term → Type 0 where
  rule_enter : {n m : Name} {P Q R : Term} → Redex room (amb n (enter (key_of enter_kind m) P ∣ Q) ∣ amb m R) (amb m (amb n (P ∣ Q) ∣ R))
  rule_exit : {n m : Name} {P Q R : Term} → Redex room (amb m (amb n (exit (key_of exit_kind m) P ∣ Q) ∣ R)) (amb n (P ∣ Q) ∣ amb m R)
  rule_open : {n : Name} {P Q : Term} → Redex room («open» (key_of open_kind n) P ∣ amb n Q) (P ∣ Q)
  rule_release : {n : ℕ} {P : Term} → room ≡ true → Redex room (release n P) (amb (plain_name n) nil ∣ P)

-- P becomes Q at a spot
pub data Spot (room : Bool) : Term → Term → Type 0 where
  at_top : {P Q S S' R : Term} → Redex room S S' → P ≅ S ∣ R → Q ≅ S' ∣ R → Spot room P Q
  within : {n : Name} {P Q S S' R : Term} → Spot room S S' → P ≅ amb n S ∣ R → Q ≅ amb n S' ∣ R → Spot room P Q

beside : {P S R T : Term} → P ≅ S ∣ R → P ∣ T ≅ S ∣ (R ∣ T)
beside e = struct_par e ⨾ struct_par_assoc

no_rest : {P : Term} → P ≅ P ∣ nil
no_rest = struct_symm struct_par_zero

module _ {room : Bool} where
  spot_par : {P Q T : Term} → Spot room P Q → Spot room (P ∣ T) (Q ∣ T)
  spot_par (at_top x e f) = at_top x (beside e) (beside f)
  spot_par (within s e f) = within s (beside e) (beside f)

  spot_struct : {P' P Q Q' : Term} → P' ≅ P → Spot room P Q → Q ≅ Q' → Spot room P' Q'
  spot_struct a (at_top x e f) b = at_top x (a ⨾ e) (struct_symm b ⨾ f)
  spot_struct a (within s e f) b = within s (a ⨾ e) (struct_symm b ⨾ f)

  -- every reduction happens at a spot
  pub spot : {P Q : Term} → Reduces room P Q → Spot room P Q
  spot red_enter = at_top rule_enter no_rest no_rest
  spot red_exit = at_top rule_exit no_rest no_rest
  spot red_open = at_top rule_open no_rest no_rest
  spot (red_release e) = at_top (rule_release e) no_rest no_rest
  spot (red_amb r) = within (spot r) no_rest no_rest
  spot (red_par r) = spot_par (spot r)
  spot (red_struct a r b) = spot_struct a (spot r) b

  redex : {P Q : Term} → Redex room P Q → Reduces room P Q
  redex rule_enter = red_enter
  redex rule_exit = red_exit
  redex rule_open = red_open
  redex (rule_release e) = red_release e

  -- what happens at a spot is a reduction
  pub reduces : {P Q : Term} → Spot room P Q → Reduces room P Q
  reduces (at_top x e f) = red_struct e (red_par (redex x)) (struct_symm f)
  reduces (within s e f) = red_struct e (red_par (red_amb (reduces s))) (struct_symm f)
