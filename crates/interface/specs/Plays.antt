-- Play and the images of a list of events. Document 01, "The plain map and the cut rule": "A cut may strike any call:
-- play makes the counted stores, if there are any".
use Rattle.std.specs.Prelude.{◌≡◌, List, [], ℕ, ◌/◌, min, get_or}
use Rattle.stores.specs.Store.{Store, standing}
use Rattle.stores.specs.Play.{word_numbers, values, play_end, play_result, play_list_result}
use Rattle.plainmap.specs.World.{World}
use Rattle.interface.specs.Event.{Event, done, struck, Effects, image_cut, step_by}

-- the play of the list of these stores answers 0 and leaves just this image
abbrev pub ListPlayLeaves : (image : List ℕ) → List Store → (after : List ℕ) → Type 0
ListPlayLeaves image ss after = play_list_result image (word_numbers ss) (values ss) ≡ play_end 0 after

-- play of these stores with counts a and b answers 0 and leaves just this image; where there are no stores nothing is
-- played
pub record PlayLeaves (image : List ℕ) (ss : List Store) (a b : ℕ) (after : List ℕ) : Type 0 where
  pub played_by_counts : (ss ≡ [] → ⊥) → play_result image (word_numbers ss) (values ss) a b ≡ play_end 0 after
  pub unchanged_without_stores : ss ≡ [] → after ≡ image

-- how many stores play is told to make of the line of store k, where each line n holds its first `counts n`: a line has
-- eight, and play gives "14 when a count exceeds 8"
unfoldable pub play_count : (counts : ℕ → ℕ) → List Store → (k : ℕ) → ℕ
play_count counts ss k = min (counts (get_or (word_numbers ss) k 0 / 8)) 8

-- an event in world w; `leaves` is what a request leaves
module _ {A : Type 0} (l : ℕ) (leaves : World → A → Effects) (w : World) where
  -- of a single call or a book step, with 16 stores or none: with all of them played, by play with 8 and 8 or as a
  -- list, the image is that which the next request gets; where a cut struck, play with the counts of its two lines
  -- leaves the image that recovery gets
  abbrev pub PlaysSingle : Event A → Type 0
  PlaysSingle (done request) =
      ListPlayLeaves w.image (leaves w request).stores (step_by l leaves w (done request)).image
      × PlayLeaves w.image (leaves w request).stores 8 8 (step_by l leaves w (done request)).image
  PlaysSingle (struck request cut) =
      PlayLeaves w.image (leaves w request).stores (play_count cut.counts (leaves w request).stores 0)
      (play_count cut.counts (leaves w request).stores 8) (image_cut w (leaves w request) cut)

  -- of a basket, whose stores are played as a list: all of them, or those that stand
  abbrev pub PlaysList : Event A → Type 0
  PlaysList (done request) = ListPlayLeaves w.image (leaves w request).stores (step_by l leaves w (done request)).image
  PlaysList (struck request cut) =
      ListPlayLeaves w.image (standing cut.counts (leaves w request).stores) (image_cut w (leaves w request) cut)
