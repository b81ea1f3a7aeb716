-- Answers of `calls_write_layout_code::write::write_in_layout`.
use Rattle.layout.proofs.Layouts.{layout_numbered}
use Rattle.calls_write_layout_code.proofs.write.write_in_layout.Goals as goal

pub write_in-requires : goal.write_in-requires
write_in-requires c =
    rw c.layout_number.ensures.result (layout_numbered c.args.wide)

pub returns : goal.returns
returns c =
    rw c.layout_number.ensures.result at c.write_in.ensures
