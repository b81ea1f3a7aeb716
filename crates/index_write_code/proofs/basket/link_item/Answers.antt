-- Answers of `index_write_code::basket::link_item`.
use borrow.Author.Rules.{rules}
use Rattle.index.proofs.BasketWrites.{inserted}
use Rattle.index_write_code.proofs.basket.link_item.Goals as goal

pub returns-in-Write-Insert : goal.returns-in-Write-Insert
returns-in-Write-Insert c =
    record { result = (inserted _ _ _ _ _ _ _ _ _ _ (search rules) c.in-Write-Insert.field-0-is c.insert_linked.ensures) }
