-- Answers of `cut_counts_map_code::maps::index_image`.
use Rattle.cut_counts.proofs.Indexes.{recovery_maps, recovery_refused}
use Rattle.cut_counts_map_code.proofs.maps.index_image.Goals as goal

pub returns-in-Rebuilt : goal.returns-in-Rebuilt
returns-in-Rebuilt c =
    record {
      result = (recovery_maps _ _ _ _ c.requires.1 _ _ _ _ c.recover_in.ensures.result.result_is c.recover_in.auto.heads
          c.recover_in.auto.next _ c.in-Rebuilt.is);
    }

pub returns-in-Refused : goal.returns-in-Refused
returns-in-Refused c =
    record { result = (recovery_refused _ _ _ _ c.requires.1 _ _ _ _ c.recover_in.ensures.result.result_is _ _ c.in-Refused.is) }
