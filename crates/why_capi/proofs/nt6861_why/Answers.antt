-- `why_capi::nt6861_why` meets its contract.
-- Assumes nothing.
use Rattle.why_capi.proofs.Told.{ill_formed_lem, told, refused}
use Rattle.why_capi.proofs.nt6861_why.Goals as goal

pub returns-in-Err-why : goal.returns-in-Err-why
returns-in-Err-why c = rw c.from.ensures (ill_formed_lem _ _ _ _ c.in-Ok.ensures _ c.why.ensures.0 _ c.in-Err-why.is)

pub returns-in-Ok-why : goal.returns-in-Ok-why
returns-in-Ok-why c = told _ _ _ _ c.in-Ok.ensures _ c.why.ensures.0 _ c.in-Ok-why.is _ c.numbers_of.ensures

pub returns-in-Err : goal.returns-in-Err
returns-in-Err c = rw c.from-in-Err.ensures (refused _ _ _ _ c.in-Err.ensures)
