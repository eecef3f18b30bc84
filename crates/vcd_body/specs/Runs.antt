-- Runs of changes and times, which the reader passes with few tests: nothing but four numbers moves.
use Rattle.std.specs.Prelude.{ℕ, ◌+◌, ◌-◌, ◌<◌, ◌≤◌, false, ◌≡◌, List, length, take, drop}
use Rattle.vcd_text.specs.Token.{tokens, white_length, word_length}
use Rattle.vcd_codes.specs.Codes.{Found}
use Rattle.vcd_steps.specs.declared.Mode.TheVariants.{Plain}
use Rattle.vcd_steps.specs.declared.State.{State}
use Rattle.vcd_steps.specs.Events.{clock_events}
use Rattle.vcd_steps.specs.Steps.{proceed, at_time}
use Rattle.vcd_body.specs.declared.Run.{Run}
use Rattle.vcd_body.specs.Trace.{token_as}
use Rattle.vcd_body.specs.Pieces.{pieces}

-- the token at p, which ends before e, is the next from a place on
pub record NextToken (text : List ℕ) (at p e : ℕ) : Type 0 where
  pub from : p ≡ at + white_length (drop at text)
  pub to : e ≡ p + word_length (drop p text)
  pub some : p < length text

-- a state with the time and the clocks of a run
abbrev pub ran : State → Run → State
ran s run = at_time s run.time run.clocks

-- what is left to read after b is, in each state that a run begins in, what was left after a
pub record Leads (find : List ℕ → Found) (scale : ℕ) (text : List ℕ) (a : Run) (room : List ℕ) (b : Run) (after : List ℕ) : Type 0 where
  pub onward : a.at ≤ b.at
  pub same : (s : State) → s.mode ≡ Plain → s.inside ≡ false
      → pieces find scale (ran s b) 0 b.count after (tokens false b.at (drop b.at text)) ≡ pieces find scale (ran s a) 0 a.count room (tokens false a.at (drop a.at text))

-- the next token is a time at which so many clocks are due
pub record Advances (find : List ℕ → Found) (scale : ℕ) (text : List ℕ) (a : Run) (p e time due : ℕ) : Type 0 where
  pub next : NextToken text a.at p e
  pub effect : (s : State) → s.mode ≡ Plain → s.inside ≡ false
      → token_as find scale Plain (ran s a) (take (e - p) (drop p text)) p ≡ proceed (at_time s time due) (clock_events p a.clocks (due - a.clocks))
