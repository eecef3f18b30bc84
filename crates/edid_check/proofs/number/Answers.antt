-- `edid_check::number` meets its contract.
-- Assumes nothing.
use Rattle.edid_check.proofs.number.Goals as goal

pub returns-in-Accepted : goal.returns-in-Accepted
returns-in-Accepted c = simp c.in-Accepted.is

pub returns-in-Length : goal.returns-in-Length
returns-in-Length c = simp c.in-Length.is

pub returns-in-Header : goal.returns-in-Header
returns-in-Header c = simp c.in-Header.is

pub returns-in-Version : goal.returns-in-Version
returns-in-Version c = simp c.in-Version.is

pub returns-in-Sum : goal.returns-in-Sum
returns-in-Sum c = simp c.in-Sum.is

pub returns-in-Digital : goal.returns-in-Digital
returns-in-Digital c = simp c.in-Digital.is

pub returns-in-Depth : goal.returns-in-Depth
returns-in-Depth c = simp c.in-Depth.is

pub returns-in-Interface : goal.returns-in-Interface
returns-in-Interface c = simp c.in-Interface.is
