-- `rates_capi::nt6861_interval_rate` meets its contract.
use Rattle.rates_capi.proofs.nt6861_interval_rate.Goals as goal

pub returns : goal.returns
returns c = simp (c.hertz.ensures, c.line_rate-rate.ensures.0, c.latches-s.ensures)
