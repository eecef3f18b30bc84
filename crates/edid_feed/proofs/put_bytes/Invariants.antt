-- What the loop of `edid_feed::put_bytes` keeps.
use Rattle.edid_feed.specs.Words.{bytes_of_all}
use Rattle.edid_feed.proofs.Filled.{Filled}
use Rattle.edid_feed.proofs.put_bytes.Given as goal

abbrev pub invariant-loop-i : goal.invariant-loop-i
invariant-loop-i l = Filled (bytes_of_all l.words) l.initial.bytes l.bytes l.i
