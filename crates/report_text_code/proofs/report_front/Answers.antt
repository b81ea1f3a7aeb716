-- Answers of `report_text_code::report_front`.
use Rattle.prelude.proofs.Lists.{front_length}
use Rattle.report_text.proofs.Fronts.{front_refused, front_inside, front_lent, used_inside, front_reported}
use Rattle.std.proofs.lemmas.Bool.{not_from_true, not_from_false}
use Rattle.report_text_code.proofs.report_front.Goals as goal

pub returns-then-not-is_lent : goal.returns-then-not-is_lent
returns-then-not-is_lent c =
    record {
      answered = (front_refused c.args.input.now c.args.have c.args.p c.args.out.now _ c.is_lent.ensures.result
          (not_from_false _ c.if-not-is_lent.true));
    }

pub slice_bounds-report_block-end : goal.slice_bounds-report_block-end
slice_bounds-report_block-end c =
    front_inside c.args.input.now c.args.have c.args.p c.args.out.now _ c.is_lent.ensures.result
    (not_from_true _ c.if-not-is_lent.false)

pub slice_bounds-report_block-end-2 : goal.slice_bounds-report_block-end-2
slice_bounds-report_block-end-2 c =
    front_length _ _ (front_inside c.args.input.now c.args.have c.args.p c.args.out.now _
    c.is_lent.ensures.result (not_from_true _ c.if-not-is_lent.false))

pub report_block-block-requires : goal.report_block-block-requires
report_block-block-requires c =
    front_lent c.args.input.now c.args.have c.args.p c.args.out.now _
    c.is_lent.ensures.result (not_from_true _ c.if-not-is_lent.false)

pub slice_bounds-ends_reading-count : goal.slice_bounds-ends_reading-count
slice_bounds-ends_reading-count c =
    used_inside c.args.input.now c.args.have c.args.p c.args.out.now _ c.is_lent.ensures.result
    (not_from_true _ c.if-not-is_lent.false) _ _ c.report_block-block.ensures.reported c.report_block-block.auto.out

pub slice_bounds-ends_reading-start : goal.slice_bounds-ends_reading-start
slice_bounds-ends_reading-start c =
    used_inside c.args.input.now c.args.have c.args.p c.args.out.now _ c.is_lent.ensures.result
    (not_from_true _ c.if-not-is_lent.false) _ _ c.report_block-block.ensures.reported c.report_block-block.auto.out

pub slice_bounds-ends_reading-end : goal.slice_bounds-ends_reading-end
slice_bounds-ends_reading-end c =
    front_inside c.args.input.now c.args.have c.args.p c.args.out.now _ c.is_lent.ensures.result
    (not_from_true _ c.if-not-is_lent.false)

pub move_down-requires : goal.move_down-requires
move_down-requires c = (
  used_inside c.args.input.now c.args.have c.args.p c.args.out.now _ c.is_lent.ensures.result
      (not_from_true _ c.if-not-is_lent.false) _ _ c.report_block-block.ensures.reported c.report_block-block.auto.out,
  front_inside c.args.input.now c.args.have c.args.p c.args.out.now _ c.is_lent.ensures.result
      (not_from_true _ c.if-not-is_lent.false),
)

pub overflow_sub-result : goal.overflow_sub-result
overflow_sub-result c =
    used_inside c.args.input.now c.args.have c.args.p c.args.out.now _ c.is_lent.ensures.result
    (not_from_true _ c.if-not-is_lent.false) _ _ c.report_block-block.ensures.reported c.report_block-block.auto.out

pub returns : goal.returns
returns c =
    record {
      answered = (front_reported c.args.input.now c.args.have c.args.p c.args.out.now _ c.is_lent.ensures.result
          (not_from_true _ c.if-not-is_lent.false) _ _ c.report_block-block.ensures.reported c.report_block-block.auto.out _
          c.ends_reading-ended.ensures.result _ c.move_down.auto.input c.move_down.ensures.moved);
    }
