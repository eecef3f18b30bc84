-- Demand 3 read for the bytes that two firmware calls leave (document 02, Wishes 5 and 14).
use Rattle.std.specs.Prelude.{ℕ, ◌≡◌, List}
use Rattle.isolation_laws.specs.Foreign.{compared_answers, compared_state}
use Rattle.state_area.specs.Area.{state_in}
use Rattle.firmware_isolation_laws.specs.Trace.{Entry, words_of, accesses_of}
use Rattle.firmware_isolation_laws.specs.Transfers.{compared_trace}
use Rattle.firmware_capi.specs.Call.{Left}

-- two calls that left a and b, in which s and t happened, agree: the number, the eight bytes of the CPU, all of RAM and both counts are the same; of the
-- answers and of the states that the areas hold, what is compared; answer places past the events given are not
pub record BytesAgree (a b : Left) (s t : List Entry) : Type 0 where
  pub number : a.number ≡ b.number
  pub cpu : a.cpu ≡ b.cpu
  pub ram : a.ram ≡ b.ram
  pub counts : a.counts ≡ b.counts
  pub answers : compared_answers (words_of s) a.answers ≡ compared_answers (words_of t) b.answers
  pub accesses : accesses_of s ≡ accesses_of t
  pub order : compared_trace s ≡ compared_trace t
  pub state : compared_state (state_in a.area) ≡ compared_state (state_in b.area)
