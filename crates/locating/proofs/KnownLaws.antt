-- Told the truth of the cell, the two questions are answered as they are defined. Assumes nothing.
use Rattle.std.specs.Prelude.{◌≡◌, Bool, ℕ}
use Rattle.std.proofs.Common.{ap}
use Rattle.table.specs.Cell.{cell_of}
use Rattle.table.specs.Sound.{sound}
use Rattle.table.specs.declared.Cell.{Cell}
use Rattle.meaning.specs.Where.{nearest_of, common_of}
use Rattle.locating.specs.Known.{known_nearest, known_common}

pub nearest_told : (t : Cell) (q n : ℕ) (b : Bool) → b ≡ sound (cell_of t) → known_nearest b t q n ≡ nearest_of t q n
unfolding known_nearest nearest_of cell_of
nearest_told t q n b h = ap (λ (k : Bool). known_nearest k t q n) h

pub common_told : (t : Cell) (q r : ℕ) (b : Bool) → b ≡ sound (cell_of t) → known_common b t q r ≡ common_of t q r
unfolding known_common common_of cell_of
common_told t q r b h = ap (λ (k : Bool). known_common k t q r) h
