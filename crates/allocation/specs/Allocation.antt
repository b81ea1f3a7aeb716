-- The slots that a call takes, by an image of n slots and the links of its index. Document 02, A.7: "it takes the first
-- others in the reuse chain".
use Rattle.std.specs.Prelude.{Bool, true, false, cond, List, ℕ, ltb}
use Rattle.words.specs.Word.{word}
use Rattle.prelude.specs.Filter.{any_in}
use Rattle.layout.specs.Line.{line_a, version_of}
use Rattle.layout.specs.Content.{contents_of}
use Rattle.table.specs.Takeable.{takeable_if, older, may_take, may_take_after}
use Rattle.index.specs.Allocation.{Allocation, allocate_from}

-- the first `wanted` slots of the reuse chain that may be taken; `first` is the chain's first slot
unfoldable pub allocation_by_rule : (l : ℕ) → (image next : List ℕ) → (n first wanted : ℕ) → Allocation
allocation_by_rule l image next n first wanted = allocate_from (λ chosen. may_take (contents_of l image) n) next n first wanted

-- the slots that a basket takes that the rule does not refuse: an older record of a remove record's key is looked for
-- only in the slots taken before it. Of an index that is the image's own they are those of the rule; "with an index not
-- the image's own, only refusals are fixed"
unfoldable pub allocation_chosen : (l : ℕ) → (image next : List ℕ) → (n first wanted : ℕ) → Allocation
allocation_chosen l image next n first wanted = allocate_from (may_take_after (contents_of l image) n) next n first wanted

-- ---- a call for the owner of its index

-- It is none of document 01: those refuse by the rules with any index, this one only with the image's own. It looks at
-- the slots that it meets along the reuse chain and at the one that the state names as the newest, and at no other

-- may slot s be taken after these, where no valid record of version `top` or above may? An older record of a remove
-- record's key is looked for only in them
unfoldable pub may_take_below : (l : ℕ) → (image : List ℕ) → (top : ℕ) → (chosen : List ℕ) → (s : ℕ) → Bool
may_take_below l image top chosen s = takeable_if top (any_in (older (contents_of l image) s) chosen) (contents_of l image s)

-- the version on line A of the slot that the state names as the newest, 0 where the image has no such slot
unfoldable pub named_version : (image : List ℕ) → (n newest : ℕ) → ℕ
named_version image n newest = cond (ltb n newest) 0 (version_of (line_a (word image) newest 7))

-- the first `wanted` slots of the reuse chain that may be taken by that version. Of an index that is the image's own
-- they are those of the rule
unfoldable pub own_allocation : (l : ℕ) → (image next : List ℕ) → (n first newest wanted : ℕ) → Allocation
own_allocation l image next n first newest wanted = allocate_from (may_take_below l image (named_version image n newest)) next n first wanted

-- ---- of a call of either family

-- what refuses it
unfoldable pub allocation_by : (own : Bool) → (l : ℕ) → (image next : List ℕ) → (n first newest wanted : ℕ) → Allocation
allocation_by false l image next n first newest wanted = allocation_by_rule l image next n first wanted
allocation_by true l image next n first newest wanted = own_allocation l image next n first newest wanted

-- the slots of a basket that is not refused
unfoldable pub allocation_chosen_by : (own : Bool) → (l : ℕ) → (image next : List ℕ) → (n first newest wanted : ℕ) → Allocation
allocation_chosen_by false l image next n first newest wanted = allocation_chosen l image next n first wanted
allocation_chosen_by true l image next n first newest wanted = own_allocation l image next n first newest wanted
