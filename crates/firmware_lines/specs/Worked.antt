-- A line of text as bytes, and registers with every flag set.
use Rattle.std.specs.Prelude.{ℕ, true, List, [], ◌∷◌}
use Prim.Native.Char.{code}
use Prim.Native.String.{String, [] as empty, ◌∷◌ as ◌then◌}
use Rattle.cpu_arithmetic.specs.declared.Flags.{Flags}

-- a text as bytes
unfoldable pub codes : String → List ℕ
codes empty = []
codes (c then s) = code c ∷ codes s

-- all flags, and none
abbrev pub all : Flags
all = record { n = true; v = true; d = true; i = true; z = true; c = true }
