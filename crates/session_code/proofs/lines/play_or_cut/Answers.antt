-- Answers of `session_code::lines::play_or_cut`.
use Rattle.text.specs.inner.Output.{reply_says}
use Rattle.session.specs.Step.{stored_with}
use Rattle.session.proofs.Steps.{played_on, list_played_on}
use borrow.Author.Rules.{rules}
use Rattle.session_code.proofs.lines.play_or_cut.Goals as goal

pub returns-in-None : goal.returns-in-None
unfolding stored_with reply_says
returns-in-None c =
    rw (
      c.in-None.is,
      ← (list_played_on _ c.args.stores.at c.args.stores.value 16 (search (rules, c.well_formed.1.1.1.0))
          (search (rules, c.well_formed.1.1.1.0)) _ _ c.play_list.ensures.result),
    )

pub returns-in-Some : goal.returns-in-Some
unfolding stored_with reply_says
returns-in-Some c =
    rw (
      c.in-Some.is,
      ← (played_on _ _ _ (search (rules, c.well_formed.1.1.1.0)) (search (rules, c.well_formed.1.1.1.0)) _ _ _ _ c.play.ensures.result),
    )
    c.recover_session.ensures
