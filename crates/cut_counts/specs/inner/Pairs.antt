-- What the functions that go over the pairs ask and leave.
use Rattle.std.specs.Prelude.{◌≡◌, Bool, cond, List, ℕ, zero, suc, ◌+◌, ◌/◌, ◌%◌, length}
use Rattle.prelude.specs.Range.{count}
use Rattle.layout.specs.Size.{slots_in}
use Rattle.layout.specs.Header.{index_fault}
use Rattle.cut_counts.specs.CutCount.{have_one_map, cut_image, pair_test}
use Rattle.cut_counts.specs.declared.Tally.{Tally}

-- heads and next have the sizes of an index of the image
pub record FitsIndex (image heads next : List ℕ) : Type 0 where
  pub size : index_fault (slots_in image) (length heads) (length next) ≡ 0

-- one pair more, which left the earlier map, the later one, both or neither
unfoldable pub tallied : Tally → (earlier later : Bool) → Tally
tallied t earlier later =
    record { earlier = cond earlier (t.earlier + 1) t.earlier; later = cond later (t.later + 1) t.later }

-- the tally of the first n pairs; last is the image with the later map
unfoldable pub tally_of : (l : ℕ) → (image at value last : List ℕ) → (n : ℕ) → Tally
tally_of l image at value last n =
    record {
      earlier = count (pair_test (λ a b. have_one_map l image (cut_image image at value a b))) n;
      later = count (pair_test (λ a b. have_one_map l last (cut_image image at value a b))) n;
    }

-- what the copy holds before pair n
unfoldable pub copy_before : (image at value copy : List ℕ) → (n : ℕ) → List ℕ
copy_before image at value copy zero = copy
copy_before image at value copy (suc n) = cut_image image at value (n / 9) (n % 9)
