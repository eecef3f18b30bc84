-- What the loop of `vcd_body::Reader::run_tokens` keeps.
use mathlib.Core.Path.{◌≡◌}
use Prim.Native.Nat.{◌-◌}
use lib.ListN.{length}
use Rattle.vcd_body.specs.Reader.{look}
use Rattle.vcd_body.specs.Runs.{Leads}
use Rattle.vcd_body.proofs.Reader.run_tokens.Given as goal

abbrev pub invariant-loop-run : goal.invariant-loop-run
invariant-loop-run l = (length l.out ≡ length l.initial.out) × Leads (look l.self) l.self.scale l.self.text.now l.initial.run l.initial.out l.run l.out

abbrev pub decreases-loop-run : goal.decreases-loop-run
decreases-loop-run l = length l.self.text.now - l.run.at
