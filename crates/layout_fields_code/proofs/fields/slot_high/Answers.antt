-- Answers of `layout_fields_code::fields::slot_high`.
use mathlib.Core.Path.{◌∙◌}
use Rattle.words.specs.Word.{word}
use Rattle.layout.specs.Line.{line_a}
use Rattle.layout.proofs.KeyWords.{no_high, high_at}
use Rattle.layout.proofs.RecordFields.{second_at}
use Rattle.layout_fields_code.proofs.fields.slot_high.Goals as goal

-- `layout_fields_code::fields::slot_high` meets its contract. Assumes nothing.
pub returns-then-l-eq1 : goal.returns-then-l-eq1
returns-then-l-eq1 c =
    record { result = (no_high _ _ c.if-l-eq1.true) }

pub returns-else-l-eq1 : goal.returns-else-l-eq1
returns-else-l-eq1 c =
    record {
      result = (c.read_word.ensures.result ∙ second_at (word c.args.image.now) c.args.s
          ∙ high_at c.args.l (line_a (word c.args.image.now) c.args.s) c.requires.layout c.if-l-eq1.false);
    }
