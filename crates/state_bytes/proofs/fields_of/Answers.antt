-- `state_bytes::fields_of` meets its contract.
-- Assumes nothing.
use Rattle.state_bytes.specs.Layout.{fields_of}
use borrow.Author.Rules.{rules}
use Rattle.state_bytes.proofs.fields_of.Goals as goal

pub own_number-requires : goal.own_number-requires
unfolding fields_of
own_number-requires c = search rules

pub ninth_count-requires : goal.ninth_count-requires
unfolding fields_of
ninth_count-requires c = search rules

pub own_number-requires-in-Receive : goal.own_number-requires-in-Receive
unfolding fields_of
own_number-requires-in-Receive c = search rules

pub own_number-requires-in-Transmit : goal.own_number-requires-in-Transmit
unfolding fields_of
own_number-requires-in-Transmit c = search rules

pub own_number-requires-in-Held : goal.own_number-requires-in-Held
unfolding fields_of
own_number-requires-in-Held c = search rules

pub returns-in-Idle : goal.returns-in-Idle
unfolding fields_of
returns-in-Idle c = simp c.in-Idle.is

pub returns-in-Address : goal.returns-in-Address
unfolding fields_of
returns-in-Address c = simp c.in-Address.is

pub returns-in-Addressed : goal.returns-in-Addressed
unfolding fields_of
returns-in-Addressed c = simp (c.ninth_count.ensures, c.own_number.ensures, c.in-Addressed.is)

pub returns-in-Ignoring : goal.returns-in-Ignoring
unfolding fields_of
returns-in-Ignoring c = simp c.in-Ignoring.is

pub returns-in-Receive : goal.returns-in-Receive
unfolding fields_of
returns-in-Receive c = simp (c.own_number-in-Receive.ensures, c.in-Receive.is)

pub returns-in-Transmit : goal.returns-in-Transmit
unfolding fields_of
returns-in-Transmit c = simp (c.own_number-in-Transmit.ensures, c.in-Transmit.is)

pub returns-in-Held : goal.returns-in-Held
unfolding fields_of
returns-in-Held c = simp (c.own_number-in-Held.ensures, c.in-Held.is)
