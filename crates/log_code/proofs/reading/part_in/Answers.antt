-- Answers of `log_code::reading::part_in`.
use Rattle.std.proofs.Common.{ap, ℕ, [], ◌∷◌}
use Rattle.prelude.specs.Answer.{gives}
use Rattle.message_log.specs.Message.{message_start}
use Rattle.log_code.proofs.reading.part_in.Goals as goal

pub returns : goal.returns
returns c =
    ap (λ (n : ℕ). gives (message_start c.args.c ∷ n ∷ [])) c.read_word-size.ensures.result
