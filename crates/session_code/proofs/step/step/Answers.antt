-- Answers of `session_code::step::step`.
use Rattle.prelude.proofs.Refusals.{refused_keeps}
use Rattle.prelude.proofs.Lists.{front_length}
use Rattle.text.specs.inner.Output.{reply_says}
use Rattle.session.specs.Step.{step_result}
use Rattle.session.proofs.Steps.{count_fits, bytes_fit, image_fits, heads_fit, next_fits, step_done}
use borrow.Author.Rules.{rules}
use Rattle.session_code.proofs.step.step.Goals as goal

-- `session_code::step::step` meets its contract. Assumes nothing.
pub returns-then-fault-ne0 : goal.returns-then-fault-ne0
unfolding step_result reply_says
returns-then-fault-ne0 c =
    record { result = (search (rules, refused_keeps, ← c.line_fault-fault.ensures.result)) }

pub overflow_add-m : goal.overflow_add-m
overflow_add-m c =
    search count_fits

pub overflow_mul-bytes : goal.overflow_mul-bytes
overflow_mul-bytes c =
    search bytes_fit

pub slice_bounds-carry_line-end : goal.slice_bounds-carry_line-end
slice_bounds-carry_line-end c =
    search image_fits

pub slice_bounds-carry_line-end-2 : goal.slice_bounds-carry_line-end-2
slice_bounds-carry_line-end-2 c =
    search (front_length, image_fits)

pub slice_bounds-carry_line-end-3 : goal.slice_bounds-carry_line-end-3
slice_bounds-carry_line-end-3 c =
    search heads_fit

pub slice_bounds-carry_line-end-4 : goal.slice_bounds-carry_line-end-4
slice_bounds-carry_line-end-4 c =
    search (front_length, heads_fit)

pub slice_bounds-carry_line-end-5 : goal.slice_bounds-carry_line-end-5
slice_bounds-carry_line-end-5 c =
    search next_fits

pub slice_bounds-carry_line-end-6 : goal.slice_bounds-carry_line-end-6
slice_bounds-carry_line-end-6 c =
    search (front_length, next_fits)

pub returns : goal.returns
returns c =
    record { result = (search step_done) }
