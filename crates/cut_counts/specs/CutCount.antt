-- Power cuts tried on paper. Document 02, A.9: "try all 81 pairs of counts for its two lines, recover each, and print
-- how many gave the earlier map and how many the later"; "for any accepted image and any sixteen stores that play
-- takes: what recovery then refuses has no map and counts for neither".
use Rattle.std.specs.Prelude.{Bool, not, ◌&&◌, List, [], ◌∷◌, ℕ, ◌+◌, ◌-◌, ◌/◌, ◌%◌, eqb, length}
use Rattle.prelude.specs.Refusal.{refuse_if, or_else, unless_refused}
use Rattle.prelude.specs.Answer.{Answer, gives, refused}
use Rattle.prelude.specs.Range.{count}
use Rattle.layout.specs.Size.{slots_in}
use Rattle.table.specs.Complete.{table_of}
use Rattle.stores.specs.Play.{play_fault, play_result}
use Rattle.recovery.specs.Recover.{recover_fault}
use Rattle.cut_counts.specs.Maps.{is_same_map}
use Rattle.cut_counts.specs.declared.CutCounts.{CutCounts}
use Rattle.cut_counts.specs.declared.CutCounts.TheVariants.{Counted, Refused}

-- the number with which recovery does not accept an image, with an index of the right size; 0 where it does
unfoldable pub acceptance_fault : (l : ℕ) → (image : List ℕ) → ℕ
acceptance_fault l image = recover_fault l image 1 (slots_in image + 1)

-- both images have a map, and it is one map: "what recovery then refuses has no map"
unfoldable pub have_one_map : (l : ℕ) → (one other : List ℕ) → Bool
have_one_map l one other =
    eqb (acceptance_fault l one) 0 && (eqb (acceptance_fault l other) 0 && is_same_map (table_of l one) (slots_in one) (table_of l other) (slots_in other))

-- the image that a cut leaves which lets the first a stores of the first half stand and the first b of the second
unfoldable pub cut_image : (image at value : List ℕ) → (a b : ℕ) → List ℕ
cut_image image at value a b = (play_result image at value a b).bytes

-- "all 81 pairs of counts": 0 to 8 for each line, pair number 9 a + b + 1 is that of a and b. A test of pair number t
unfoldable pub pair_test : (ℕ → ℕ → Bool) → (t : ℕ) → Bool
pair_test p t = p ((t - 1) / 9) ((t - 1) % 9)

-- how many of them pass a test
unfoldable pub count_pairs : (ℕ → ℕ → Bool) → ℕ
count_pairs p = count (pair_test p) 81

-- "how many gave the earlier map"
unfoldable pub earlier_count : (l : ℕ) → (image at value : List ℕ) → ℕ
earlier_count l image at value = count_pairs (λ a b. have_one_map l image (cut_image image at value a b))

-- "and how many the later": that of the image with all stores played
unfoldable pub later_count : (l : ℕ) → (image at value : List ℕ) → ℕ
later_count l image at value = count_pairs (λ a b. have_one_map l (cut_image image at value 8 8) (cut_image image at value a b))

-- ---- the call: it is lent two slices as long as the image, and leaves in both the image with all stores played

-- by what is given beside the image: play's refusal; then 1 for a slice that has not the image's length
unfoldable pub arguments_fault : (len : ℕ) → (at : List ℕ) → (copy later : ℕ) → ℕ
arguments_fault len at copy later =
    or_else (play_fault len at 8 8) (refuse_if (not (eqb copy len)) 1 (refuse_if (not (eqb later len)) 1 0))

-- recovery's refusal comes first
unfoldable pub cut_count_fault : (l : ℕ) → (image at : List ℕ) → (copy later : ℕ) → ℕ
cut_count_fault l image at copy later = or_else (acceptance_fault l image) (arguments_fault (length image) at copy later)

-- what it answers and leaves
pub record CutCountResult : Type 0 where
  pub answer : Answer
  pub copy : List ℕ
  pub later : List ℕ

-- the answer's values: the two counts
unfoldable pub cut_count_says : CutCounts → Answer
cut_count_says (Counted earlier later) = gives (earlier ∷ later ∷ [])
cut_count_says (Refused number) = refused number

-- what a call with this answer left
abbrev pub cut_count_end : CutCounts → (copy later : List ℕ) → CutCountResult
cut_count_end r copy later = record { answer = cut_count_says r; copy = copy; later = later }

-- where this number refuses it, nothing changes
abbrev pub cut_count_by : (fault l : ℕ) → (image at value copy later : List ℕ) → CutCountResult
cut_count_by fault l image at value copy later =
    unless_refused fault
    (record {
      answer = gives (earlier_count l image at value ∷ later_count l image at value ∷ []);
      copy = cut_image image at value 8 8;
      later = cut_image image at value 8 8;
    })
    (record { answer = refused fault; copy = copy; later = later })

unfoldable pub cut_count_result : (l : ℕ) → (image at value copy later : List ℕ) → CutCountResult
cut_count_result l image at value copy later =
    cut_count_by (cut_count_fault l image at (length copy) (length later)) l image at value copy later
