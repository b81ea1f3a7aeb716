-- What recovery gives of an image, by the plain map. Document 01, "The plain map and the cut rule".
use Rattle.std.specs.Prelude.{◌≡◌, List, ℕ, ◌≤◌, length}
use Rattle.prelude.specs.Answer.{refusal_in}
use Rattle.prelude.specs.Members.{All}
use Rattle.layout.specs.Size.{slots_in}
use Rattle.table.specs.Complete.{table_of}
use Rattle.table.specs.Table.{broken_count, broken_limit, live_count}
use Rattle.prelude.specs.Keys.{Keys}
use Rattle.stores.specs.Store.{standing}
use Rattle.recovery.specs.Invalidation.{stores_in}
use Rattle.recovery.specs.Recover.{recover_result}
use Rattle.plainmap.specs.World.{recovered_world, invalidated_world, Round, after_round, after_rounds}
use Rattle.plainmap.specs.Plain.{PlainMap}
use Rattle.plainmap.specs.Accepted.{RightSize, RoundFits}
use Rattle.plainmap.specs.Claims.{slots_map, Reads}
use Rattle.interface.specs.Plays.{ListPlayLeaves}

-- "recovery refuses nothing, and both the slots and get, with that recovery's index and 80 bytes of output, give the
-- plain map's keys and bytes"; "If power fails there, recovery runs again": it gives the same, whatever the index holds
-- by then
pub record Recovers (l : ℕ) (image : List ℕ) (m : PlainMap) : Type 0 where
  pub map : (key : ℕ) → slots_map l image key ≡ m key
  pub accepts : (heads next : List ℕ) → RightSize image heads next → refusal_in (recover_result l image heads next).answer ≡ 0
  pub reads : (heads next : List ℕ) → RightSize image heads next → Reads l (recovered_world l image heads next) m
  -- document 02, A.6: "calls and cuts never lead to 25"; A.7: broken and void slots are "now eight together"
  pub few_broken : broken_count (table_of l image) (slots_in image) ≤ broken_limit
  -- there is a list of the keys that the plain map holds, and the length of every such list is the live count
  pub keys : List ℕ
  pub held : Keys m keys
  pub count : (ks : List ℕ) → Keys m ks → live_count (table_of l image) (slots_in image) ≡ length ks
  -- play takes its invalidating stores, of which there are at most eight
  pub plays_invalidations : (heads next : List ℕ) → RightSize image heads next
      → ListPlayLeaves image (stores_in (recover_result l image heads next).invalidations) (invalidated_world l image heads next).image
  -- and those that stand of them after a cut
  pub plays_some_invalidations : (round : Round) → RoundFits (slots_in image) round
      → ListPlayLeaves image (standing round.counts (stores_in (recover_result l image round.lent.heads round.lent.next).invalidations))
      (after_round l image round)
  pub few_invalidations : (heads next : List ℕ) → RightSize image heads next → length (stores_in (recover_result l image heads next).invalidations) ≤ 8
  pub again :
      (heads next heads' next' : List ℕ) → RightSize image heads next → length heads ≡ length heads' → length next ≡ length next'
      → recover_result l image heads next ≡ recover_result l image heads' next'

-- "If power fails there, recovery runs again": it gives m of every image that any number of recoveries leave, each with
-- a cut among its invalidating stores. Document 02, A.7: "a cut among them is covered"
abbrev pub RecoversAlways : (l : ℕ) → (image : List ℕ) → PlainMap → Type 0
RecoversAlways l image m = (rounds : List Round) → All (RoundFits (slots_in image)) rounds → Recovers l (after_rounds l image rounds) m
