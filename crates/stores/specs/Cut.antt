-- What a cut leaves of a line, of a slot and of an image: the statements of the line law and of the laws on the stores
-- of one record, of several, and of invalidating stores.
use Rattle.std.specs.Prelude.{◌≡◌, false, ◌⊎◌, List, [], ℕ, ◌+◌, ◌*◌, ◌/◌, ◌^◌, ◌≤◌, ◌<◌, length}
use Rattle.words.specs.Word.{AreBytes}
use Rattle.prelude.specs.Members.{All, In}
use Rattle.layout.specs.Line.{line, whole}
use Rattle.layout.specs.Record.{Layout, limit}
use Rattle.layout.specs.Content.{Content, broken, content_of_record, content, highest_whole, highest_whole_in, size_field_in}
use Rattle.layout.specs.Fault.{record_fault}
use Rattle.stores.specs.Store.{Store, standing, played_words}
use Rattle.stores.specs.Basket.{BasketRecord, basket_slots}

-- the words after a cut that leaves `counts n` stores of line n
abbrev pub after_cut : (counts : ℕ → ℕ) → List Store → (ℕ → ℕ) → ℕ → ℕ
after_cut counts ss m = played_words (standing counts ss) m

-- what k stores make of a line: `old` before, `new` with all stores, `now` after
pub data LineCut (old new now : ℕ → ℕ) (k : ℕ) : Type 0 where
  untouched : k ≡ 0 → now ≡ old → LineCut old new now k
  torn : 0 < k → k < 8 → whole (now 0) (now 7) ≡ false → LineCut old new now k
  full : 8 ≤ k → ((i : ℕ) → i < 8 → now i ≡ new i) → LineCut old new now k

-- what a and b stores on its two lines make of a slot's content
pub data SlotCut (old new now : Content) (version a b : ℕ) : Type 0 where
  now-old : a ≡ 0 → b ≡ 0 → now ≡ old → SlotCut old new now version a b
  now-new : 8 ≤ a → 8 ≤ b → now ≡ new → SlotCut old new now version a b
  now-broken : (a ≡ 0 → b ≡ 0 → ⊥) → (8 ≤ a → 8 ≤ b → ⊥) → (t : ℕ) → t ≤ version → now ≡ broken t → SlotCut old new now version a b

-- the fields of a record fit layout l
pub record Fields (l key kind number : ℕ) (value : List ℕ) : Type 0 where
  pub layout : Layout l
  pub key_fits : key < (2 ^ 64) ^ l
  pub kind_fits : kind < 256
  pub number_fits : number < 256
  pub size : length value ≤ limit l
  pub bytes : AreBytes value

-- document 02, A.7: "a single record, or a basket of one, has 0 there", and a basket has at most 8 records
pub data LawfulNumber (number : ℕ) : Type 0 where
  alone : number ≡ 0 → LawfulNumber number
  shared : 2 ≤ number → number ≤ 8 → LawfulNumber number

-- a put, or a remove, which has no value
pub data Lawful (kind number : ℕ) (value : List ℕ) : Type 0 where
  a_put : kind ≡ 1 → LawfulNumber number → Lawful kind number value
  a_remove : kind ≡ 2 → value ≡ [] → LawfulNumber number → Lawful kind number value

-- a record was written into slot s with a stores standing on line A and b on line B, the words were m and are m': what
-- is left of that slot
pub record SlotWritten (l : ℕ) (m m' : ℕ → ℕ) (s key kind number : ℕ) (value : List ℕ) (version a b : ℕ) : Type 0 where
  pub cut : SlotCut (content l m s) (content_of_record kind version key value) (content l m' s) version a b
  pub number_old : a ≡ 0 → size_field_in l m' s ≡ size_field_in l m s
  pub number_new : 8 ≤ a → size_field_in l m' s ≡ number
  pub top_below : highest_whole m' s ≤ version
  pub top_full : (8 ≤ a) ⊎ (8 ≤ b) → highest_whole m' s ≡ version

-- the words were m and are m', and stores went only into the slots that `written` names: the other slots stay, and no
-- slot has a new fault
pub record Confined (l : ℕ) (m m' : ℕ → ℕ) (written : ℕ → Type 0) : Type 0 where
  pub others : (t : ℕ) → (written t → ⊥) → content l m' t ≡ content l m t
  pub numbers : (t : ℕ) → (written t → ⊥) → size_field_in l m' t ≡ size_field_in l m t
  pub elsewhere : (i : ℕ) → (written (i / 16) → ⊥) → m' i ≡ m i
  pub marks : (n : ℕ) → line m n 0 ≤ 1 → line m' n 0 ≤ 1
  pub faults : (t : ℕ) → record_fault l m t ≡ 0 → record_fault l m' t ≡ 0

-- the same of the whole image, where one record was written
pub record Written (l : ℕ) (m m' : ℕ → ℕ) (s key kind number : ℕ) (value : List ℕ) (version a b : ℕ) : Type 0 where
  pub here : SlotWritten l m m' s key kind number value version a b
  pub rest : Confined l m m' (λ t. t ≡ s)

-- a record of a basket may be written: its fields fit and are lawful, and its version is above those in its slot of the
-- words m
pub record LawfulRecord (l : ℕ) (m : ℕ → ℕ) (number version : ℕ) (e : BasketRecord) : Type 0 where
  pub fields : Fields l e.key e.kind number e.value
  pub lawful : Lawful e.kind number e.value
  pub above : highest_whole m e.slot < version

-- these records were written, with `counts n` of the stores of line n standing: the words were m and are m'
pub record AllWritten (l : ℕ) (m m' : ℕ → ℕ) (number version : ℕ) (records : List BasketRecord) (counts : ℕ → ℕ) : Type 0 where
  pub each :
      All (λ (e : BasketRecord). SlotWritten l m m' e.slot e.key e.kind number e.value version (counts (2 * e.slot)) (counts (2 * e.slot + 1)))
      records
  pub rest : Confined l m m' (λ t. In t (basket_slots records))

-- slot s was to be opened, with k stores standing on its line A: it is as it was, or broken with the version that it
-- had, which line B still carries
pub data SlotInvalidated (l : ℕ) (m m' : ℕ → ℕ) (s k : ℕ) : Type 0 where
  shut : k ≡ 0 → content l m' s ≡ content l m s → size_field_in l m' s ≡ size_field_in l m s → SlotInvalidated l m m' s k
  opened : 0 < k → content l m' s ≡ broken (highest_whole_in (content l m s)) → size_field_in l m' s ≡ size_field_in l m s → SlotInvalidated l m m' s k

-- these slots were to be opened, with `counts n` of the stores of line n standing: the words were m and are m'
pub record AllInvalidated (l : ℕ) (m m' : ℕ → ℕ) (slots : List ℕ) (counts : ℕ → ℕ) : Type 0 where
  pub each : (s : ℕ) → In s slots → SlotInvalidated l m m' s (counts (2 * s))
  pub rest : Confined l m m' (λ t. In t slots)
