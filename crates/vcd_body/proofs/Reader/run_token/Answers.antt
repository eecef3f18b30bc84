-- `vcd_body::Reader::run_token` meets its contract.
-- Assumes nothing.
use Rattle.vcd_body.specs.Reader.{look}
use Rattle.vcd_body.proofs.Reader.run_token.Goals as goal

pub returns-then-text-p-eq35 : goal.returns-then-text-p-eq35
returns-then-text-p-eq35 c =
    let a = c.args in
    c.short_time.ensures (look a.self.now) c.token_from-p.ensures

pub short_change-requires : goal.short_change-requires
short_change-requires c =
    let level = c.is_level.ensures c.if-is_level.true in
    record { tables = c.requires.tables; p_in_bounds = (c.if-p-text.true, level.0, level.1) }

pub returns-then-is_level : goal.returns-then-is_level
returns-then-is_level c = c.short_change.ensures _ c.token_from-p.ensures
