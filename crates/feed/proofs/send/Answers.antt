-- `feed::send` lends and writes what is within its arrays.
-- Assumes nothing.
use Rattle.std.proofs.Common.{sym}
use Rattle.std.proofs.lemmas.List.{length-take-le}
use Rattle.edid_feed.proofs.Filled.{placed_within}
use Rattle.feed.proofs.send.Goals as goal

pub slice_bounds-words-end : goal.slice_bounds-words-end
slice_bounds-words-end g c = placed_within _ _ _ _ c.feed-count.ensures.0 c.feed-count.ensures.1

pub slice_bounds-store-end : goal.slice_bounds-store-end
slice_bounds-store-end g c = sym (length-take-le _ _ (placed_within _ _ _ _ c.feed-count.ensures.0 c.feed-count.ensures.1))

pub slice_bounds-bytes-end : goal.slice_bounds-bytes-end
slice_bounds-bytes-end g c = placed_within _ _ _ _ c.store-size.ensures.0 c.store-size.ensures.1

pub slice_bounds-write_all-end : goal.slice_bounds-write_all-end
slice_bounds-write_all-end g c = sym (length-take-le _ _ (placed_within _ _ _ _ c.store-size.ensures.0 c.store-size.ensures.1))
