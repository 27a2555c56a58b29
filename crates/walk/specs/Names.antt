-- Which files walk reads, by how many arguments it has.
use Rattle.std.specs.Prelude.{Bool, cond, ℕ, ltb, eqb}
use Rattle.walk.specs.declared.Naming.{Naming}
use Rattle.walk.specs.declared.Naming.TheVariants.{Usual, Given, Typed, Unclear}

-- "Program `walk` reads file `cell` and file `order`": by their own names, or by two arguments beside the program's name; or a typed layout,
-- by the option and two arguments after it. The option and one argument are not two names: what was meant is unclear
unfoldable pub naming_by : ℕ → Bool → Naming
naming_by count option = cond (ltb count 2) Usual (cond (eqb count 3) (cond option Unclear Given) (cond (eqb count 4) (cond option Typed Unclear) Unclear))
