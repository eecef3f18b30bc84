-- The vectors of what is watched: how wide each is declared, and its bits.
use Rattle.std.specs.Prelude.{ℕ, ◌*◌, ◌%◌, ltb}
use Rattle.bits.specs.Byte.{pick}

-- how many bits the k-th vector is declared with
unfoldable pub width_of : ℕ → ℕ
width_of k = pick (ltb k 3) 8 (pick (ltb k 5) 12 3)

-- its bits moved to the highest of twelve
unfoldable pub aligned : ℕ → ℕ → ℕ
aligned k v = pick (ltb k 3) (v % 256 * 16) (pick (ltb k 5) (v % 4096) (v % 8 * 512))
