-- `vcd_body::Reader::short_change` meets its contract.
-- Assumes nothing.
use mathlib.Core.Path.{refl, sym, ap, ◌∙◌}
use native.Mathlib.Omega.{arith}
use Rattle.vcd_text.proofs.Laws.{word_within}
use Rattle.vcd_body.specs.Reader.{look}
use Rattle.vcd_body.proofs.Running.{after_first, tail_of}
use Rattle.vcd_body.proofs.Reader.short_change.Goals as goal

pub single_change-requires : goal.single_change-requires
single_change-requires c = record { tables = c.requires.tables; p_in_bounds = omega (arith, (c.is_single.ensures c.if-is_single.true).0); bound = (c.requires.p_in_bounds.1, c.requires.p_in_bounds.2) }

pub returns-then-is_single : goal.returns-then-is_single
returns-then-is_single c =
    let a = c.args in
    let single = c.is_single.ensures c.if-is_single.true in
    let h = c.requires.p_in_bounds.0 in
    λ scale from.
    c.single_change.ensures scale (record { from = from; to = omega (arith, single.1, after_first a.self.now.text.now a.run.at a.p from h); some = h })

pub slice_bounds-found-end : goal.slice_bounds-found-end
slice_bounds-found-end c = word_within _ _ _ c.word_end-e.ensures (omega arith)

pub returns : goal.returns
returns c =
    let a = c.args in
    let h = c.requires.p_in_bounds.0 in
    λ scale from.
    c.write_change.ensures (look a.self.now) scale a.self.now.text.now a.p (record { from = from; to = c.word_end-e.ensures ∙ after_first a.self.now.text.now a.run.at a.p from h; some = h }) refl (c.found-list.ensures ∙ ap (look a.self.now) (sym (tail_of a.self.now.text.now a.p _ h (omega (arith, c.word_end-e.ensures)))))
