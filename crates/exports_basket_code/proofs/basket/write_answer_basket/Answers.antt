-- Answers of `exports_basket_code::basket::write_answer_basket`.
use mathlib.Core.Path.{refl}
use borrow.Author.Rules.{rules}
use Rattle.prelude.specs.Answer.{refusal_in}
use Rattle.interface.specs.Set.{basket_says}
use Rattle.exports.specs.Basket.{basket_answered}
use Rattle.exports_basket_code.proofs.basket.write_answer_basket.Goals as goal

pub returns-in-Refused : goal.returns-in-Refused
unfolding refusal_in basket_answered basket_says
returns-in-Refused c =
    record { result = (λ taken. rw (c.in-Refused.is, c.keep_state.ensures.result) (refl, refl, refl)) }

pub returns-in-Stored : goal.returns-in-Stored
unfolding refusal_in basket_answered basket_says
returns-in-Stored c =
    record { result = (λ taken. rw (c.in-Stored.is, c.keep_state.ensures.result, c.answer_of.ensures) (refl, refl, refl)) }
