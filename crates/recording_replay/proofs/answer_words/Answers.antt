-- `recording_replay::answer_words` meets its contract.
-- Assumes nothing.
use mathlib.Core.Path.{ap, ◌∙◌}
use Rattle.list_call.specs.declared.RunResult.{RunResult}
use Rattle.recording_replay.proofs.Calls.{call_chip, call_answers}
use Rattle.recording_replay.proofs.answer_words.Goals as goal

pub returns : goal.returns
returns c = (
  ap (λ (r : RunResult). r.chip) c.run.ensures.0 ∙ call_chip c.args.start c.args.words.now c.args.answers.now c.requires.0 c.requires.1,
  c.run.ensures.1 ∙ call_answers c.args.start c.args.words.now c.args.answers.now c.requires.0 c.requires.1,
)
