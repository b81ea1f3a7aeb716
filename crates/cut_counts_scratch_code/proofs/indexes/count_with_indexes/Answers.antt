-- Answers of `cut_counts_scratch_code::indexes::count_with_indexes`.
use Rattle.std.proofs.Common.{refl, sym, ◌∙◌}
use Rattle.refusals.proofs.Numbers.{not_zero}
use Rattle.cut_counts.proofs.Indexes.{mapped, not_mapped, mapped_clear}
use Rattle.cut_counts.proofs.Pairs.{copies_long, image-refused, lent_refused, counted-all}
use Rattle.cut_counts_scratch_code.proofs.indexes.count_with_indexes.Goals as goal

pub returns-in-Err : goal.returns-in-Err
returns-in-Err c =
    record {
      result = (lent_refused _ _ _ _ _ _
          (mapped_clear _ _ _ _ _ (mapped _ _ _ _ _ c.index_image-index.ensures.result _ c.in-Map.is)) _
          (c.code.ensures.result ∙ c.in-Err.ensures) (λ z. not_zero _ (sym c.code.ensures.result ∙ z)));
    }

pub tally-earlier-requires : goal.tally-earlier-requires
tally-earlier-requires c =
    let long = copies_long _ _ _ _ _ c.in-Ok.ensures refl in
    (c.requires.0, c.index_image-index.ensures.result, long.0, long.1, c.requires.2, c.requires.3)

pub returns-in-Nothing : goal.returns-in-Nothing
returns-in-Nothing c =
    record { result = (image-refused _ _ _ _ _ _ _ (not_mapped _ _ _ _ _ c.index_image-index.ensures.result _ c.in-Nothing.is)) }

pub returns-in-Ok : goal.returns-in-Ok
returns-in-Ok c =
    record {
      result = (counted-all _ _ _ _ _ _
          (mapped_clear _ _ _ _ _ (mapped _ _ _ _ _ c.index_image-index.ensures.result _ c.in-Map.is)) _
          c.in-Ok.ensures refl _ _ _
          c.tally-earlier.ensures.0 c.tally-earlier.ensures.1 c.tally-earlier.ensures.2);
    }
