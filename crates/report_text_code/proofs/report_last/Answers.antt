-- Answers of `report_text_code::report_last`.
use native.Mathlib.Omega.{arith}
use Rattle.report_text.proofs.Blocks.{totals_room, last_reported}
use Rattle.report_text.proofs.Fronts.{last_refused, last_lent, last_whole}
use Rattle.std.proofs.lemmas.Bool.{not_from_true, not_from_false}
use Rattle.report_text_code.proofs.report_last.Goals as goal

pub returns-then-not-is_lent : goal.returns-then-not-is_lent
returns-then-not-is_lent c =
    record {
      printed =
          (last_refused c.args.input.now c.args.p c.args.out.now _ c.is_lent.ensures.result (not_from_false _ c.if-not-is_lent.true));
      inside = (omega arith);
    }

pub report_block-block-requires : goal.report_block-block-requires
report_block-block-requires c =
    last_lent c.args.input.now c.args.p c.args.out.now _ c.is_lent.ensures.result (not_from_true _ c.if-not-is_lent.false)

pub store_unread-end-requires : goal.store_unread-end-requires
store_unread-end-requires c =
    omega (
      arith,
      c.report_block-block.ensures.reported.thirds,
      c.report_block-block.ensures.reported.inside,
      c.report_block-block.auto.out,
      (last_lent c.args.input.now c.args.p
          c.args.out.now _ c.is_lent.ensures.result (not_from_true _ c.if-not-is_lent.false)).room,
    )

pub store_totals-requires : goal.store_totals-requires
store_totals-requires c =
    totals_room _ _ _ _ _ _ c.report_block-block.ensures.reported c.store_unread-end.ensures.result
    (omega (
      arith,
      (last_lent c.args.input.now c.args.p c.args.out.now _
          c.is_lent.ensures.result (not_from_true _ c.if-not-is_lent.false)).room,
      c.report_block-block.auto.out,
    ))
    c.store_unread-end.auto.out

pub returns : goal.returns
returns c =
    let reported = last_reported _ _ _ _ _ _ _ _ c.report_block-block.ensures.reported c.store_unread-end.ensures.result c.store_totals.ensures.result
    (omega (
      arith,
      (last_lent c.args.input.now c.args.p c.args.out.now _ c.is_lent.ensures.result
          (not_from_true _ c.if-not-is_lent.false)).room,
      c.report_block-block.auto.out,
    )) c.store_unread-end.auto.out c.store_totals.auto.out in record {
      printed = (last_whole c.args.input.now c.args.p c.args.out.now _ c.is_lent.ensures.result (not_from_true _ c.if-not-is_lent.false) _
          reported.0);
      inside = (reported.1);
    }
