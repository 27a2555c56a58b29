-- A name with its keys, where they do not all equal it. Assumes nothing.
use Rattle.std.specs.Prelude.{◌≡◌, Bool, false, cond}
use Rattle.std.proofs.Common.{sym, ap, ◌∙◌}
use mathlib.Core.List.{[], ◌++◌}
use Rattle.table.specs.declared.Name.{Name}
use Rattle.meaning.specs.Text.{decimal}
use Rattle.meaning.specs.Listing.{is_plain, slashed, name_text}
use Rattle.lister.specs.Sheet.{keys_text, keyed_text}

pub keyed_text_lem : (x : Name) {y : Name} {z : Bool} → y ≡ x → z ≡ is_plain x → z ≡ false → keyed_text y ≡ name_text x
unfolding name_text keyed_text keys_text
keyed_text_lem x h e t = ap keyed_text h ∙ ap (λ (k : Bool). decimal x.name ++ cond k [] (slashed x.entering ++ (slashed x.exiting ++ slashed x.opening))) (sym t ∙ e)
