-- Answers of `exports_basket_code::basket::keys_asked`.
use borrow.Author.Rules.{rules}
use Rattle.exports.proofs.Basket.{too-many, kinds_unknown, kinds_known}
use Rattle.exports_basket_code.proofs.basket.keys_asked.Goals as goal

pub returns-then-count-gt8 : goal.returns-then-count-gt8
returns-then-count-gt8 c =
    record { result = (too-many _ _ c.if-count-gt8.true) }

pub returns-then-unknown_kind : goal.returns-then-unknown_kind
returns-then-unknown_kind c =
    record { result = (kinds_unknown _ _ c.if-count-gt8.false _ c.unknown_kind.ensures c.if-unknown_kind.true) }

pub returns : goal.returns
returns c =
    record { result = (kinds_known _ _ c.if-count-gt8.false _ c.unknown_kind.ensures c.if-unknown_kind.false) }
