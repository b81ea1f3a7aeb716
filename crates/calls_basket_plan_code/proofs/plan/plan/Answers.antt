-- Answers of `calls_basket_plan_code::plan::plan`.
use Rattle.calls.proofs.BasketPlans.{plan_given, given_some, given_few, plan_lent, plan_sized, plan_slots, plan_keys}
use borrow.Author.Rules.{rules}
use Rattle.calls_basket_plan_code.proofs.plan.plan.Goals as goal

pub returns-then-given-ne0 : goal.returns-then-given-ne0
returns-then-given-ne0 c =
    record { result = (plan_given _ _ _ _ _ c.args.state _ _ _ _ _ c.given_fault-given.ensures.result _ c.refused_plan.ensures c.if-given-ne0.true) }

pub basket_lent_fault-lent-requires : goal.basket_lent_fault-lent-requires
basket_lent_fault-lent-requires c =
    (c.requires, given_few _ _ _ _ _ _ c.given_fault-given.ensures.result c.if-given-ne0.false)

pub returns-then-lent-ne0 : goal.returns-then-lent-ne0
returns-then-lent-ne0 c =
    record {
      result = (plan_lent _ _ _ _ _ c.args.state _ _ _ _ _ c.given_fault-given.ensures.result c.if-given-ne0.false _
          c.basket_lent_fault-lent.ensures.result _ c.refused_plan-then-lent-ne0.ensures c.if-lent-ne0.true);
    }

pub plan_keys-requires : goal.plan_keys-requires
plan_keys-requires c = (
  c.requires,
  plan_sized c.args.own _ _ _ _ c.args.state _ _ _ _ _ c.given_fault-given.ensures.result c.if-given-ne0.false _
      c.basket_lent_fault-lent.ensures.result c.if-lent-ne0.false _ c.slot_count-n.ensures.result,
  given_some _ _ _ _ _ _ c.given_fault-given.ensures.result c.if-given-ne0.false,
  given_few _ _ _ _ _ _ c.given_fault-given.ensures.result c.if-given-ne0.false,
  plan_slots c.args.own _ _ c.args.heads.now c.args.next.now c.args.state _ _ _ _ _
      c.given_fault-given.ensures.result c.if-given-ne0.false _ c.basket_lent_fault-lent.ensures.result c.if-lent-ne0.false _
      c.slot_count-n.ensures.result,
)

pub returns : goal.returns
returns c =
    record {
      result = (plan_keys _ _ _ _ _ c.args.state _ _ _ _ _ c.given_fault-given.ensures.result c.if-given-ne0.false _
          c.basket_lent_fault-lent.ensures.result c.if-lent-ne0.false _ c.slot_count-n.ensures.result _
          c.plan_keys.ensures);
    }
