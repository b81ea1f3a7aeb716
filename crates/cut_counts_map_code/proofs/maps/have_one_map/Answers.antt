-- Answers of `cut_counts_map_code::maps::have_one_map`.
use Rattle.cut_counts.proofs.Pairs.{both_mapped, first_refused, second_refused}
use Rattle.cut_counts_map_code.proofs.maps.have_one_map.Goals as goal

pub returns-in-Map-Map : goal.returns-in-Map-Map
returns-in-Map-Map c =
    record {
      result = both_mapped _ _ _ _ _ _ _ _ _ c.requires.indexed.1 c.requires.indexed.2 _ _ c.in-Map-Map.is-0 c.in-Map-Map.is-1 _
          c.same_map.ensures;
    }

pub returns-in-Map-Nothing : goal.returns-in-Map-Nothing
returns-in-Map-Nothing c =
    record { result = second_refused _ _ _ _ _ _ _ _ _ c.requires.indexed.1 c.requires.indexed.2 _ c.in-Map-Nothing.is-1 }

pub returns-in-Nothing-default : goal.returns-in-Nothing-default
returns-in-Nothing-default c =
    record { result = first_refused _ _ _ _ _ _ _ _ _ c.requires.indexed.1 c.requires.indexed.2 _ c.in-Nothing-default.is-0 }
