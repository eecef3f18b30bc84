-- The version of the library.
use Rattle.std.specs.Prelude.{ℕ}

-- 1.0.0: major, minor and patch, each in a byte (10000H)
abbrev pub version : ℕ
version = 65536
