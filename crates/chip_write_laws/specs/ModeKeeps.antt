-- What a change of mode keeps of the bus.
use Rattle.std.specs.Prelude.{◌≡◌}
use Rattle.chip.specs.declared.Bus.{Bus}

-- a change of mode: II STS, II ADR and II DAT
pub record ModeKeeps (b after : Bus) : Type 0 where
  pub iists : after.iists ≡ b.iists
  pub iiadr : after.iiadr ≡ b.iiadr
  pub iidat : after.iidat ≡ b.iidat
