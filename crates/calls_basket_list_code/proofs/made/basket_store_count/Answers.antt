-- Answers of `calls_basket_list_code::made::basket_store_count`.
use Rattle.calls.proofs.BasketLists.{too-many, all_stored, none_stored}
use Rattle.calls_basket_list_code.proofs.made.basket_store_count.Goals as goal

pub returns-then-count-gt8 : goal.returns-then-count-gt8
returns-then-count-gt8 c = too-many _ _ c.if-count-gt8.true

pub returns-in-Stored : goal.returns-in-Stored
returns-in-Stored c = all_stored _ _ _ c.in-Stored.is c.if-count-gt8.false

pub returns-in-Refused : goal.returns-in-Refused
returns-in-Refused c = none_stored _ _ _ c.in-Refused.is c.if-count-gt8.false
