-- The image and its lists, opened beside every definition that a firmware run goes through.
use Prim.Native.Nat.{ℕ}
use Rattle.firmware_isolation_laws.proofs.Opened.{opened}
use Rattle.recall_laws.specs.Wait.{power_up}
use Rattle.recall_laws.proofs.Computed.{traced}
use Rattle.recall_image_laws.specs.Image.{rom, waiting}
use Rattle.recall_image_laws.specs.Lists.{said, transfer, stored, is_foreign, foreign_events, own_events}

-- a proof that names this on its `unfolding` line computes runs of the image
unfoldable pub image : ℕ
unfolding opened traced power_up rom waiting said transfer stored is_foreign foreign_events own_events
image = 0
