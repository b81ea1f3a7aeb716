-- Accepted images, and an index of the right size. Document 01, "The plain map and the cut rule".
use Rattle.std.specs.Prelude.{◌≡◌, List, ℕ, length}
use Rattle.words.specs.Word.{word}
use Rattle.layout.specs.Header.{image_fault, index_fault}
use Rattle.recovery.specs.Recover.{slots_fault}
use Rattle.layout.specs.Size.{slots_in}
use Rattle.prelude.specs.Members.{All}
use Rattle.plainmap.specs.World.{Round, Restart}

-- "an accepted image, one that recovery does not refuse": neither 1, 2, 3 nor a refusal of the slots is due. 4 is about
-- the lent index
pub record Accepted (l : ℕ) (image : List ℕ) : Type 0 where
  pub header : image_fault l image ≡ 0
  pub records : slots_fault l (word image) (slots_in image) ≡ 0

-- "That index has the right size when 4 is not due"
abbrev pub RightSize : (image heads next : List ℕ) → Type 0
RightSize image heads next = index_fault (slots_in image) (length heads) (length next) ≡ 0

-- the same of a recovery that a cut strikes, in an image of n slots; "B may be another"
abbrev pub RoundFits : (n : ℕ) → Round → Type 0
RoundFits n round = index_fault n (length round.lent.heads) (length round.lent.next) ≡ 0

-- and of every recovery of a restart
pub record RestartFits (n : ℕ) (r : Restart) : Type 0 where
  pub rounds : All (RoundFits n) r.rounds
  pub size : index_fault n (length r.lent.heads) (length r.lent.next) ≡ 0
