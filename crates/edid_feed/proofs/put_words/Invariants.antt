-- What the loop of `edid_feed::put_words` keeps.
use Rattle.edid_feed.specs.Words.{feed_words}
use Rattle.edid_feed.proofs.Filled.{Filled}
use Rattle.edid_feed.proofs.put_words.Given as goal

abbrev pub invariant-loop-i : goal.invariant-loop-i
invariant-loop-i l = Filled (feed_words l.block) l.initial.words l.words l.i
