-- Answers of `session_refusal_code::refusal::count_fault`.
use mathlib.Core.Logic.{inl, inr}
use Rattle.prelude.proofs.Tests.{tests}
use Rattle.prelude.specs.Refusal.{refuse_if}
use Rattle.session.specs.Step.{count_fault}
use Rattle.session_refusal_code.proofs.refusal.count_fault.Goals as goal

pub returns-then-b-gt8 : goal.returns-then-b-gt8
unfolding count_fault refuse_if
returns-then-b-gt8 c = elim c.if-b-gt8.either [ inl above ↦ search tests | inr (few, above) ↦ search tests ]

pub returns-else-b-gt8 : goal.returns-else-b-gt8
unfolding count_fault refuse_if
returns-else-b-gt8 c = let few_a = c.if-b-gt8.false.0 in let few_b = c.if-b-gt8.false.1 in search tests
