-- `report::read_and_report`: what was read ends inside the input, its report has room, and what is reported ends inside
-- the output.
use Rattle.std.proofs.Common.{arith}
use Rattle.prelude.proofs.Lists.{front_length}
use Rattle.report_text.proofs.Fronts.{unrefused, front_printed, buffers_next}
use Rattle.report.proofs.read_and_report.Goals as goal

pub reported-front-requires : goal.reported-front-requires
reported-front-requires g c =
    unrefused _ _ _ _ _ _ _ c.report_front-answer.ensures.answered (omega (arith, c.read_more-n.ensures.inside, c.read_more-n.auto.input))
    (omega (arith, c.requires.room, c.read_more-n.auto.input)) c.requires.held

pub slice_bounds-written-end : goal.slice_bounds-written-end
slice_bounds-written-end g c =
    front_printed _ _ _ _ _ _ _ c.report_front-answer.ensures.answered (omega (arith, c.read_more-n.ensures.inside, c.read_more-n.auto.input))
    (omega (arith, c.requires.room, c.read_more-n.auto.input)) _ c.reported-front.ensures.result

pub slice_bounds-written-end-2 : goal.slice_bounds-written-end-2
slice_bounds-written-end-2 g c = front_length _ _ (slice_bounds-written-end g c)

pub returns : goal.returns
returns g c = record {
  kept =
      buffers_next _ _ _ _ _ _ _ c.report_front-answer.ensures.answered (omega (arith, c.read_more-n.ensures.inside, c.read_more-n.auto.input))
      (omega (arith, c.requires.room, c.read_more-n.auto.input)) _ c.reported-front.ensures.result c.report_front-answer.auto.input
      c.report_front-answer.auto.out;
}
