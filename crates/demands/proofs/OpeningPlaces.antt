-- The places once t is dissolved into p, to which it was linked: they are one tree again.
-- By what each field reads after: t is as if never used, what stood in t stands in p, all else is as it was.
use Rattle.std.specs.Prelude.{◌≡◌, ◌≢◌, ◌⊎◌, ℕ, ◌≤◌, Bool, true, false, cond, eqb}
use Rattle.std.proofs.Common.{sym, ap, ◌∙◌, subst, inl, inr, eq-eqb, ne_eqb}
use Rattle.table.specs.Base.{iter}
use Rattle.order.proofs.RowLaws.{fits_later}
use Rattle.table.proofs.BaseLaws.{clash, eq?, upd_at, upd_other}
use Rattle.table.specs.Cell.{Land, no_name, linked}
use Rattle.table.specs.declared.Name.{Name}
use Rattle.meaning.specs.Step.{awaited, dissolve_land}
use Rattle.calculus.proofs.Up.{acyclic, opened_up}
use Rattle.calculus.specs.Up.{Up}
use Rattle.demands.specs.Reading.{parent_in, name_in}
use Rattle.demands.proofs.ReadingLaws.{linked_dissolved, name_dissolved, parent_dissolved}
use Rattle.demands.specs.Invariant.{Under, Places}
use Rattle.demands.proofs.Facts.{awaited_yes}

-- a linked place is not the floor
pub linked_not_floor : {l : Land} → Places l → {q : ℕ} → linked l q ≡ true → q ≢ 0
linked_not_floor {l} i e z = clash (ap (linked l) (sym z) ∙ e) i.floor_link

-- a place is not its own parent
pub child_not_self : {l : Land} → Places l → {p t : ℕ} → Under l t p → p ≢ t
unfolding iter
child_not_self {l} i {p} {t} u e = linked_not_floor i u.link (acyclic (parent_in l) i.floor_parent (i.tree t) 0 (u.parent ∙ e))

module _ {l : Land} (i : Places l) {p t : ℕ} (u : Under l t p) where
  -- the places after
  abbrev after : Land
  after = dissolve_land l p t

  placed : t ≢ 0
  placed = linked_not_floor i u.link

  -- ---- what is read of one place

  -- t is no longer in use; every other place reads as before, and what stood in t stands in p
  pub used_same : (q : ℕ) → q ≢ t → after.used q ≡ l.used q
  used_same q n = rw (ne_eqb q t n)

  pub used_before : (q : ℕ) → after.used q ≡ true → q ≢ t
  used_before q e z = clash e (rw (eq-eqb q t z))

  pub linked_same : (q : ℕ) → q ≢ t → linked after q ≡ linked l q
  linked_same q n = ap (λ (f : ℕ → Bool). f q) (linked_dissolved l p t) ∙ upd_other (linked l) t q false n

  pub linked_before : (q : ℕ) → linked after q ≡ true → q ≢ t
  linked_before q e z = clash e (ap (λ (f : ℕ → Bool). f q) (linked_dissolved l p t) ∙ upd_at (linked l) t q false z)

  pub name_same : (q : ℕ) → q ≢ t → name_in after q ≡ name_in l q
  name_same q n = ap (λ (f : ℕ → Name). f q) (name_dissolved l p t) ∙ upd_other (name_in l) t q no_name n

  parent_is : (q : ℕ) → parent_in after q ≡ cond (eqb q t) 0 (cond (eqb (parent_in l q) t) p (parent_in l q))
  parent_is q = ap (λ (f : ℕ → ℕ). f q) (parent_dissolved l p t placed)

  pub parent_same : (q : ℕ) → q ≢ t → parent_in l q ≢ t → parent_in after q ≡ parent_in l q
  parent_same q n m = parent_is q ∙ rw (ne_eqb q t n, ne_eqb (parent_in l q) t m)

  pub parent_up : (q : ℕ) → q ≢ t → parent_in l q ≡ t → parent_in after q ≡ p
  parent_up q n m = parent_is q ∙ rw (ne_eqb q t n, eq-eqb (parent_in l q) t m)

  pub parent_gone : (q : ℕ) → q ≡ t → parent_in after q ≡ 0
  parent_gone q e = parent_is q ∙ rw (eq-eqb q t e)

  -- ---- one tree

  -- p is still in use
  pub parent_kept : after.used p ≡ true
  parent_kept = used_same p (child_not_self i u) ∙ ap l.used (sym u.parent) ∙ i.parent_used t

  floor_kept : after.used 0 ≡ true
  floor_kept = used_same 0 (λ e. placed (sym e)) ∙ i.floor_used

  parents_used : (q : ℕ) → (q ≡ t) ⊎ (q ≢ t) → (parent_in l q ≡ t) ⊎ (parent_in l q ≢ t) → after.used (parent_in after q) ≡ true
  parents_used q (inl e) _ = ap after.used (parent_gone q e) ∙ floor_kept
  parents_used q (inr n) (inl m) = ap after.used (parent_up q n m) ∙ parent_kept
  parents_used q (inr n) (inr m) = ap after.used (parent_same q n m) ∙ used_same _ m ∙ i.parent_used q

  -- the places are one tree again
  pub places_dissolved : Places after
  places_dissolved = record {
    floor_used = floor_kept;
    floor_parent = parent_same 0 (λ e. placed (sym e)) (λ e. placed (sym e ∙ i.floor_parent)) ∙ i.floor_parent;
    floor_link = linked_same 0 (λ e. placed (sym e)) ∙ i.floor_link;
    floor_name = name_same 0 (λ e. placed (sym e)) ∙ i.floor_name;
    tree = subst (λ (f : ℕ → ℕ). (q : ℕ) → Up f q) (sym (parent_dissolved l p t placed))
        (opened_up (parent_in l) i.floor_parent t p u.parent i.tree);
    parent_used = λ q. parents_used q (eq? q t) (eq? (parent_in l q) t);
    small = λ q e. i.small q (sym (used_same q (used_before q e)) ∙ e);
    order = fits_later _ _ i.order;
    named = λ q e z. subst (λ (n : Name). 1 ≤ n.name) (sym (name_same q (used_before q e))) (i.named q (sym (used_same q (used_before q e)) ∙ e) z);
  }

  -- ---- what is on its way, where nothing is on its way to t

  -- a place on its way goes where it went
  pub away_same : awaited l t ≡ false → (q : ℕ) → l.used q ≡ true → q ≢ 0 → linked l q ≡ false
      → (linked after q ≡ false) × (parent_in after q ≡ parent_in l q)
  away_same w q e z o =
      let n : q ≢ t = λ y. clash (ap (linked l) y ∙ u.link) o in
      let m : parent_in l q ≢ t = λ m. clash (awaited_yes l t q (i.small q e) (record { used = e; placed = z; loose = o; parent = m })) w in
      (linked_same q n ∙ o, parent_same q n m)
