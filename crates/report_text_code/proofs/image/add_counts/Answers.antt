-- Answers of `report_text_code::image::add_counts`.
use mathlib.Core.Path.{refl}
use native.Mathlib.Omega.{arith}
use Rattle.interface.specs.Set.{count_values}
use Rattle.report_text.specs.Report.{totals_with}
use Rattle.report_text_code.proofs.image.add_counts.Goals as goal

-- `report_text_code::image::add_counts` meets its contract. Assumes nothing.
pub returns : goal.returns
unfolding totals_with count_values
returns c = (
  refl,
  λ bound h.
      record {
        live_low = omega (arith, h.live_low);
        hidden_low = omega (arith, h.hidden_low);
        removes_low = omega (arith, h.removes_low);
        void_low = omega (arith, h.void_low);
        broken_low = omega (arith, h.broken_low);
        empty_low = omega (arith, h.empty_low);
      },
)
