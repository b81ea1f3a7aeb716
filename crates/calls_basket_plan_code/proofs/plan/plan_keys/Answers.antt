-- Answers of `calls_basket_plan_code::plan::plan_keys`.
use Rattle.calls.proofs.Lookups.{sized_walkable}
use Rattle.calls.proofs.BasketPlans.{keys_chain, keys_held, keys_planned}
use borrow.Author.Rules.{rules}
use Rattle.calls_basket_plan_code.proofs.plan.plan_keys.Goals as goal

pub returns-then-found-ne0 : goal.returns-then-found-ne0
returns-then-found-ne0 c =
    keys_chain _ _ _ _ _ _ c.args.state _ _ _ c.find_olds-found.ensures.result _ c.refused_plan.ensures c.if-found-ne0.true

pub returns-then-held-ne0 : goal.returns-then-held-ne0
returns-then-held-ne0 c =
    keys_held _ _ _ _ _ _ c.args.state _ _ _ c.find_olds-found.ensures.result c.if-found-ne0.false c.requires.1 _
    c.actions_fault-held.ensures.result _ c.refused_plan-then-held-ne0.ensures c.if-held-ne0.true

pub choose_slots-fault-requires : goal.choose_slots-fault-requires
choose_slots-fault-requires c =
    (sized_walkable _ _ _ _ _ c.requires.1 c.requires.4 c.requires.0, c.requires.2, c.requires.3)

pub returns : goal.returns
returns c =
    keys_planned _ _ _ _ _ _ c.args.state _ _ _ c.find_olds-found.ensures.result c.if-found-ne0.false c.requires.1 _
    c.actions_fault-held.ensures.result c.if-held-ne0.false _
    (c.totals_of-totals.ensures.result _) _ c.choose_slots-fault.ensures.result
