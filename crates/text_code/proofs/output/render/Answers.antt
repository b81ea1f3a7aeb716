-- Answers of `text_code::output::render`.
use native.Mathlib.Omega.{arith}
use Rattle.text.proofs.Storing.{rendered}
use Rattle.text_code.proofs.output.render.Goals as goal

pub returns : goal.returns
returns c =
    record { result = (rendered _ _ _ _ _ (omega arith) c.store_reply.ensures) }
