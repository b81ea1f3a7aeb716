-- The choice of several slots, as the functions make it.
use Rattle.std.specs.Prelude.{◌≡◌, Bool, true, false, cond, List, [], ◌∷◌, ℕ, zero, suc, ◌+◌, ◌-◌, ◌*◌, ◌%◌, ◌≤◌, ◌<◌, length, get_or, set}
use Rattle.prelude.specs.Range.{greatest}
use Rattle.prelude.specs.Filter.{any_in}
use Rattle.prelude.specs.Members.{Slot}
use Rattle.words.specs.Word.{word}
use Rattle.layout.specs.Line.{line_a}
use Rattle.layout.specs.Content.{contents_of}
use Rattle.table.specs.Takeable.{highest_valid, may_take_after, takeable_if}
use Rattle.index.specs.Allocation.{Allocation, taken}
use Rattle.index.specs.inner.Basket.{takens_from}
use Rattle.allocation.specs.Allocation.{allocation_by_rule, may_take_below}
use Rattle.allocation.specs.inner.Walk.{take_fault}
use Rattle.allocation.specs.inner.Takeable.{slot_version, older_left}
use Rattle.allocation.specs.declared.Progress.{Progress}
use Rattle.allocation.specs.declared.Choice.{Choice}
use Rattle.allocation.specs.declared.Told.{Told}

-- what is known of the highest version of the valid slots 1 to n, by the words m
pub record KnownTop (m : ℕ → ℕ) (n top : ℕ) (exact : Bool) : Type 0 where
  pub bounded : top ≤ greatest (slot_version m) n
  pub exactly : exact ≡ true → top ≡ greatest (slot_version m) n

-- by this version the test of slot s is that by the highest one, whether or not an older record of its key may remain
abbrev pub Decided : (image : List ℕ) → (n top s : ℕ) → Type 0
Decided image n top s =
    (l : ℕ) (older : Bool) → takeable_if top older (contents_of l image s) ≡ takeable_if (highest_valid (contents_of l image) n) older (contents_of l image s)

-- the first k slots of an array, the last one first
unfoldable pub chosen_of : (slots : List ℕ) → (k : ℕ) → List ℕ
chosen_of slots zero = []
chosen_of slots (suc k) = get_or slots k 0 ∷ chosen_of slots k

-- they are few, and are slots of the image
pub record ChosenInside (image slots : List ℕ) (k : ℕ) : Type 0 where
  pub few : k ≤ 8
  pub inside : (j : ℕ) → j < k → 128 * (get_or slots j 0 + 1) ≤ length image

-- the slot at which p is can be met
pub record Meetable (n : ℕ) (p : Progress) : Type 0 where
  pub low : 0 < p.at
  pub high : p.at ≤ n
  pub some : 0 < p.left
  pub few : p.got < 8
  pub chosen_in : (j : ℕ) → j < p.got → Slot n (get_or p.slots j 0)

-- it is taken
unfoldable pub with_slot : (next : List ℕ) → Progress → (top : ℕ) → (exact : Bool) → Progress
with_slot next p top exact =
    record {
      at = get_or next p.at 0;
      prev = p.prev;
      left = p.left - 1;
      got = p.got + 1;
      top = top;
      exact = exact;
      slots = set p.slots p.got p.at;
      prevs = set p.prevs p.got p.prev;
    }

-- or passed over
unfoldable pub past_slot : (next : List ℕ) → Progress → (top : ℕ) → (exact : Bool) → Progress
past_slot next p top exact =
    record {
      at = get_or next p.at 0;
      prev = p.at;
      left = p.left - 1;
      got = p.got;
      top = top;
      exact = exact;
      slots = p.slots;
      prevs = p.prevs;
    }

-- r is p after the slot was met, by whether it may be taken after those chosen
abbrev pub MetBy : (may : List ℕ → ℕ → Bool) → (next : List ℕ) → (p r : Progress) → Type 0
MetBy may next p r =
    r ≡ cond (may (chosen_of p.slots p.got) p.at) (with_slot next p r.top r.exact) (past_slot next p r.top r.exact)

-- by the version that p has
unfoldable pub met_below : (l : ℕ) → (image next : List ℕ) → Progress → Progress
met_below l image next p =
    cond (may_take_below l image p.top (chosen_of p.slots p.got) p.at) (with_slot next p p.top p.exact) (past_slot next p p.top p.exact)

-- by the highest valid version, of which r knows as much as it has to
pub record Met (l : ℕ) (image next : List ℕ) (n : ℕ) (p r : Progress) : Type 0 where
  pub known : KnownTop (word image) n r.top r.exact
  pub is : MetBy (may_take_after (contents_of l image) n) next p r

-- r is the refusal by the slots t, or the slots c
pub record Chosen (t c : Allocation) (wanted : ℕ) (r : Choice) : Type 0 where
  pub fault_is : r.fault ≡ take_fault t
  pub slots_are : r.fault ≡ 0 → c ≡ taken (takens_from r.slots r.prevs 0 wanted)
  pub zeros : r.fault ≡ 0 → (j : ℕ) → wanted ≤ j → get_or r.slots j 0 ≡ 0

-- ---- one pass over the image for the slots that are chosen

-- the entries of the low key words of the first k slots are 1
pub record Marked (m : ℕ → ℕ) (slots marks : List ℕ) (k : ℕ) : Type 0 where
  pub size : length marks ≡ 4096
  pub each : (j : ℕ) → j < k → get_or marks (line_a m (get_or slots j 0) 1 % 4096) 0 ≡ 1

-- slot t has no older valid record of the key of a remove record among the first k slots; where strict, its version is
-- none above `known` either
pub record ClearAt (l : ℕ) (image slots : List ℕ) (k known : ℕ) (strict : Bool) (t : ℕ) : Type 0 where
  pub none_older : any_in (λ s. older_left (contents_of l image) s t) (chosen_of slots k) ≡ false
  pub none_above : strict ≡ true → slot_version (word image) t ≤ known

-- the same of the slots 1 to n
abbrev pub Clear : (l : ℕ) → (image slots : List ℕ) → (k known : ℕ) → (strict : Bool) → (n : ℕ) → Type 0
Clear l image slots k known strict n = (t : ℕ) → Slot n t → ClearAt l image slots k known strict t

-- a call is not refused by the slots that it takes; where strict, `known` is the highest valid version
pub record Unrefused (l : ℕ) (image next : List ℕ) (n first wanted known : ℕ) (strict : Bool) : Type 0 where
  pub fine : take_fault (allocation_by_rule l image next n first wanted) ≡ 0
  pub highest : strict ≡ true → known ≡ greatest (slot_version (word image)) n

-- r is the refusal by the slots that a call takes, and what is known of the highest valid version
pub record ToldBy (l : ℕ) (image next : List ℕ) (n first wanted : ℕ) (r : Told) : Type 0 where
  pub fault_is : r.fault ≡ take_fault (allocation_by_rule l image next n first wanted)
  pub known : KnownTop (word image) n r.top r.exact
