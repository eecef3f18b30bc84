-- What a body is read with.
use Rattle.std.specs.Prelude.{ℕ, ◌<◌, ◌/◌, ◌≡◌, List}
use Rattle.vcd_codes.specs.Codes.{Found, variables, find}
use Rattle.vcd_body.specs.declared.Reader.{Reader}
use Rattle.vcd_body.specs.Tables.{Singles, Lists}

-- what a code stands for
abbrev pub look : Reader → List ℕ → Found
look r = find (variables r.text.now r.places.now r.pins.now 0 r.entries)

-- its tables hold what a search would find, and its limit is the greatest time in units that 64 bits hold in ps
pub record Ready (r : Reader) : Type 0 where
  pub single : Singles r.text.now r.places.now r.pins.now r.entries r.singles.now 256
  pub listed : Lists r.text.now r.places.now r.pins.now r.entries r.lists.now 32
  pub limit : 0 < r.scale → r.limit ≡ 18446744073709551615 / r.scale
