-- A number with one digit more, as one number: 0 is none.
use Rattle.std.specs.Prelude.{ℕ, ◌+◌, ◌*◌, ◌-◌, cond}
use Rattle.language.specs.Machine.{continues}

-- the number v with one digit more, or 0 where the byte does not continue it
unfoldable pub longer : ℕ → ℕ → ℕ
unfolding continues
longer v b = cond (continues v b) (v * 10 + (b - 48)) 0
