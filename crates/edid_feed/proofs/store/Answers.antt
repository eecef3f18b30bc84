-- `edid_feed::store` meets its contract.
-- Assumes nothing.
use mathlib.Core.Path.{sym}
use native.Mathlib.Omega.{arith}
use Rattle.edid_feed.specs.Words.{bytes_of_all}
use Rattle.edid_feed.proofs.Filled.{placed_short, placed_whole, placed_length}
use Rattle.edid_feed.proofs.Indexed.{length_bytes}
use Rattle.edid_feed.proofs.store.Goals as goal

pub returns-then-bytes-words : goal.returns-then-bytes-words
returns-then-bytes-words c = placed_short _ _ (omega (arith, length_bytes c.args.words.now))

pub put_bytes-requires : goal.put_bytes-requires
put_bytes-requires c = omega arith

pub overflow_mul-result : goal.overflow_mul-result
overflow_mul-result c = omega arith

pub shape_of-bytes : goal.shape_of-bytes
shape_of-bytes c = placed_length (bytes_of_all c.args.words.now) c.args.bytes.now (omega (arith, length_bytes c.args.words.now)) _ c.put_bytes.ensures

pub returns : goal.returns
returns c = placed_whole (bytes_of_all c.args.words.now) c.args.bytes.now (omega (arith, length_bytes c.args.words.now)) _ (sym (length_bytes c.args.words.now)) _ c.put_bytes.ensures
