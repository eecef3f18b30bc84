-- `vcd_body::perform` meets its contract.
-- Assumes nothing.
use Rattle.vcd_steps.specs.Steps.{meaning}
use Rattle.vcd_body.specs.Pieces.{placed}
use Rattle.vcd_body.proofs.Placing.{clocks_turn, pin_words_lem, silent_turn}
use mathlib.Core.Path.{refl}
use borrow.Author.Rules.{rules}
use Rattle.vcd_body.proofs.perform.Goals as goal

pub later-requires : goal.later-requires
unfolding placed meaning
later-requires c = search rules

pub clocks-requires : goal.clocks-requires
unfolding placed meaning
clocks-requires c = search rules

pub written-requires : goal.written-requires
unfolding placed meaning
written-requires c = search rules

pub pins-requires : goal.pins-requires
unfolding placed meaning
pins-requires c = search rules

pub written-requires-in-Changed : goal.written-requires-in-Changed
unfolding placed meaning
written-requires-in-Changed c = search rules

pub returns-in-Refused : goal.returns-in-Refused
unfolding placed meaning
returns-in-Refused c = rw c.in-Refused.is refl

pub returns-in-Silent : goal.returns-in-Silent
unfolding placed meaning
returns-in-Silent c = rw c.in-Silent.is (silent_turn _ c.args.done _ _)

pub returns-in-Timed : goal.returns-in-Timed
unfolding placed meaning
returns-in-Timed c = rw (c.in-Timed.is, ← c.later.ensures) (let args = c.args in clocks_turn _ args.p c.in-Timed.from c.later.result args.done args.count args.out.now _ _ _ c.clocks.ensures c.written.ensures)

pub returns-in-Changed : goal.returns-in-Changed
unfolding placed meaning
returns-in-Changed c = rw (c.in-Changed.is, pin_words_lem, ← c.pins.ensures) (simp c.written-in-Changed.ensures)
