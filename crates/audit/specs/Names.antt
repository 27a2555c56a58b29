-- Which files audit reads, by how many arguments it has.
use Rattle.std.specs.Prelude.{cond, ℕ, ltb, eqb}
use Rattle.audit.specs.declared.Naming.{Naming}
use Rattle.audit.specs.declared.Naming.TheVariants.{Usual, Given, Unclear}

-- "a checker of cell file, trail and final listing": by their own names, or by three arguments beside the program's name
unfoldable pub naming_by : ℕ → Naming
naming_by count = cond (ltb count 2) Usual (cond (eqb count 4) Given Unclear)
