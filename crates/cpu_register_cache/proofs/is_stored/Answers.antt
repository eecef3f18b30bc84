use Rattle.cpu_register_cache.specs.Cache.{is_stored}
use Rattle.cpu_register_cache.proofs.is_stored.Goals as goal

pub returns-in-Stored : goal.returns-in-Stored
unfolding is_stored
returns-in-Stored c = simp c.in-Stored.is

pub returns-in-Mdcon : goal.returns-in-Mdcon
unfolding is_stored
returns-in-Mdcon c = simp c.in-Mdcon.is

pub returns-in-Hvcon : goal.returns-in-Hvcon
unfolding is_stored
returns-in-Hvcon c = simp c.in-Hvcon.is

pub returns-in-Clrflg : goal.returns-in-Clrflg
unfolding is_stored
returns-in-Clrflg c = simp c.in-Clrflg.is

pub returns-in-Clrwdt : goal.returns-in-Clrwdt
unfolding is_stored
returns-in-Clrwdt c = simp c.in-Clrwdt.is

pub returns-in-Iiadr : goal.returns-in-Iiadr
unfolding is_stored
returns-in-Iiadr c = simp c.in-Iiadr.is

pub returns-in-Iidat : goal.returns-in-Iidat
unfolding is_stored
returns-in-Iidat c = simp c.in-Iidat.is

pub returns-in-Iists : goal.returns-in-Iists
unfolding is_stored
returns-in-Iists c = simp c.in-Iists.is

pub returns-in-Bt : goal.returns-in-Bt
unfolding is_stored
returns-in-Bt c = simp c.in-Bt.is
