-- `vcd_codes::list_of` meets its contract.
-- Assumes nothing.
use Rattle.vcd_codes.proofs.Finding.{entry_more, entry_none, entry_all}
use mathlib.Core.Path.{refl, ◌∙◌}
use native.Mathlib.Omega.{arith}
use borrow.Author.Rules.{rules}
use Rattle.vcd_codes.proofs.list_of.Goals as goal

pub loop-k-init : goal.loop-k-init
loop-k-init c = entry_none _ _ _ _ _ _ refl

pub loop-k-preserved : goal.loop-k-preserved
loop-k-preserved c = c.with_entry-list.ensures ∙ rw c.loop-k.invariant (entry_more _ _ _ _ _ c.loop-k.k (omega arith) (omega arith))

pub returns : goal.returns
returns c = c.loop-k.invariant ∙ entry_all _ _ _ _ _ c.loop-k.k (search rules)
