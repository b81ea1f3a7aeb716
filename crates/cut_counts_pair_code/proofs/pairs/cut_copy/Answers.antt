-- Answers of `cut_counts_pair_code::pairs::cut_copy`.
use mathlib.Core.Path.{refl, ap, ◌∙◌}
use lib.ListN.{length}
use Rattle.cut_counts.proofs.Pairs.{cut_made, cut_length, fits_same}
use Rattle.cut_counts_pair_code.proofs.pairs.cut_copy.Goals as goal

pub index_image-requires : goal.index_image-requires
index_image-requires c = (
  c.requires.0,
  fits_same _ _ _ _ _ _
      (ap length (cut_made _ _ _ _ _ _ _ _ c.copy_bytes.ensures c.play.ensures.result) ∙ cut_length _ _ _ _ _) refl refl
      c.requires.2,
)

pub returns : goal.returns
returns c =
    record { result = ((cut_made _ _ _ _ _ _ _ _ c.copy_bytes.ensures c.play.ensures.result, c.index_image.ensures.result)) }
