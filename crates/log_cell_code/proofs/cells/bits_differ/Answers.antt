-- Answers of `log_cell_code::cells::bits_differ`.
use borrow.Author.Rules.{rules}
use Rattle.message_log.proofs.CellWords.{match_start, match_hit, match_next, match_end}
use Rattle.log_cell_code.proofs.cells.bits_differ.Goals as goal

pub loop-i-init : goal.loop-i-init
loop-i-init c =
    match_start _ _ _ c.read_word-rest.ensures.result

pub returns-then-pair_differs : goal.returns-then-pair_differs
returns-then-pair_differs c =
    match_hit _ _ _ _ _ c.loop-i.invariant (search rules) c.pair_differs.ensures.result c.if-pair_differs.true

pub loop-i-preserved : goal.loop-i-preserved
loop-i-preserved c =
    match_next _ _ _ _ _ c.loop-i.invariant (search rules) c.pair_differs.ensures.result c.if-pair_differs.false

pub returns : goal.returns
returns c =
    match_end _ _ _ _ c.loop-i.invariant c.loop-i-test.false
