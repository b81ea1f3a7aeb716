-- THE NUMBERS with which each call is refused, whatever image, index and state it is given. Document 01, "What each
-- operation may say no to"; document 02, A.1: "Demand 1's numbers now include those these requests give."
use Rattle.std.specs.Prelude.{◌≡◌, List, [], ◌∷◌, ◌++◌, ℕ}
use Rattle.prelude.specs.Members.{In, Slot}
use Rattle.prelude.specs.Answer.{Answer, gives, absent, refused}
use Rattle.prelude.specs.Numbers.{Numbered, ZeroOrOneOf}
use Rattle.layout.specs.Size.{slots_in}
use Rattle.stores.specs.Play.{play_result, play_list_result}
use Rattle.index.specs.declared.Mode.{Mode}
use Rattle.index.specs.declared.Mode.TheVariants.{Insert, Replace}
use Rattle.index.specs.Index.{Index}
use Rattle.recovery.specs.Recover.{recover_result}
use Rattle.slot_counts.specs.Count.{count_result}
use Rattle.cut_counts.specs.CutCount.{cut_count_result}
use Rattle.calls.specs.Format.{format_result}
use Rattle.calls.specs.Change.{write_result, remove_result}
use Rattle.calls.specs.Basket.{basket_result}
use Rattle.calls.specs.BasketItems.{KeyChange}
use Rattle.calls.specs.Locate.{locate_result}
use Rattle.calls.specs.Get.{get_result}

-- the key is as a mode asks, by the answer of a locate or of a get: absent for an insert, held for a replace
abbrev pub AnswersAsAsked : Mode → Answer → Type 0
AnswersAsAsked Insert (gives values) = ⊥
AnswersAsAsked Insert absent = Unit
AnswersAsAsked Insert (refused number) = ⊥
AnswersAsAsked Replace (gives values) = Unit
AnswersAsAsked Replace absent = ⊥
AnswersAsAsked Replace (refused number) = ⊥

-- format
abbrev pub format_refusals : List ℕ
format_refusals = 1 ∷ 32 ∷ []

-- recover: those of its refusals that name no slot
abbrev pub no_slot_refusals : List ℕ
no_slot_refusals = 1 ∷ 2 ∷ 3 ∷ 4 ∷ 5 ∷ 7 ∷ 25 ∷ 8 ∷ []

-- and those that name one
abbrev pub slot_refusals : List ℕ
slot_refusals = 6 ∷ 22 ∷ 23 ∷ 24 ∷ []

-- recover and count_slots
abbrev pub recover_refusals : List ℕ
recover_refusals = no_slot_refusals ++ slot_refusals

-- the slot that a refusal of recover with this number names: one of the slots 1 to n, or 0 for none
pub data Names (n number slot : ℕ) : Type 0 where
  a_slot : In number slot_refusals → Slot n slot → Names n number slot
  no_slot : In number no_slot_refusals → slot ≡ 0 → Names n number slot

-- insert and replace
abbrev pub write_refusals : Mode → List ℕ
write_refusals Insert = 1 ∷ 2 ∷ 3 ∷ 4 ∷ 10 ∷ 11 ∷ 20 ∷ 28 ∷ 9 ∷ []
write_refusals Replace = 1 ∷ 2 ∷ 3 ∷ 4 ∷ 10 ∷ 11 ∷ 21 ∷ 28 ∷ 9 ∷ []

-- remove; and insert and replace, where the value is short enough and the key is as the call asks
abbrev pub storing_refusals : List ℕ
storing_refusals = 1 ∷ 2 ∷ 3 ∷ 4 ∷ 11 ∷ 28 ∷ 9 ∷ []

-- a basket
abbrev pub basket_refusals : List ℕ
basket_refusals = 26 ∷ 27 ∷ 13 ∷ 1 ∷ 2 ∷ 3 ∷ 4 ∷ 10 ∷ 11 ∷ 20 ∷ 21 ∷ 28 ∷ 9 ∷ []

-- get
abbrev pub get_refusals : List ℕ
get_refusals = 1 ∷ 2 ∷ 3 ∷ 4 ∷ 11 ∷ 23 ∷ 13 ∷ []

-- get, where the output has room for any value
abbrev pub roomy_get_refusals : List ℕ
roomy_get_refusals = 1 ∷ 2 ∷ 3 ∷ 4 ∷ 11 ∷ 23 ∷ []

-- locate
abbrev pub locate_refusals : List ℕ
locate_refusals = 1 ∷ 2 ∷ 3 ∷ 4 ∷ 11 ∷ []

-- count_cuts: those of recover but 4, since no index is lent; 15 of play; 1, of a lent slice too
abbrev pub cut_count_refusals : List ℕ
cut_count_refusals = 1 ∷ 2 ∷ 3 ∷ 5 ∷ 6 ∷ 22 ∷ 23 ∷ 24 ∷ 7 ∷ 25 ∷ 8 ∷ 15 ∷ []

-- play with two counts
abbrev pub play_refusals : List ℕ
play_refusals = 1 ∷ 14 ∷ 15 ∷ []

-- play of a list, lent as two lists of numbers or as one of stores: "it tests only 15"
abbrev pub play_list_refusals : List ℕ
play_list_refusals = 15 ∷ []

-- the numbers of every call of layout l; format and the plays serve both
pub record CallNumbers (l : ℕ) : Type 0 where
  pub format : (image : List ℕ) → Numbered format_refusals (format_result l image).answer
  pub recover : (image heads next : List ℕ) → Numbered recover_refusals (recover_result l image heads next).answer
  -- document 02, A.5: "Recovery shall name the lowest slot at fault": a refusal names a slot, one of 1 to N, exactly
  -- where its number is 6, 22, 23 or 24; that it is the lowest is in `recover_result`
  pub recover-slot : (image heads next : List ℕ) (k : ℕ) → (recover_result l image heads next).answer ≡ refused k
      → Names (slots_in image) k (recover_result l image heads next).slot
  pub write : (image : List ℕ) (i : Index) (key : ℕ) (mode : Mode) (value : List ℕ)
      → Numbered (write_refusals mode) (write_result l image i mode key value).answer
  pub remove : (image : List ℕ) (i : Index) (key : ℕ) → Numbered storing_refusals (remove_result l image i key).answer
  pub get : (image heads next : List ℕ) (key : ℕ) (out : List ℕ) → Numbered get_refusals (get_result l image heads next key out).answer
  pub locate : (image heads next : List ℕ) (key : ℕ) → Numbered locate_refusals (locate_result l image heads next key).answer
  -- with the stores in two lists of numbers, of these lengths, or in one list of stores
  pub basket : (image : List ℕ) (i : Index) (changes : List KeyChange) (at words : ℕ)
      → Numbered basket_refusals (basket_result l image i changes at words).answer
  pub count_slots : (image heads next : List ℕ) → Numbered recover_refusals (count_result l image heads next).answer
  pub count_cuts : (image at value copy later : List ℕ) → Numbered cut_count_refusals (cut_count_result l image at value copy later).answer
  pub play : (image at value : List ℕ) (a b : ℕ) → ZeroOrOneOf play_refusals (play_result image at value a b).answer
  pub play_list : (image at value : List ℕ) → ZeroOrOneOf play_list_refusals (play_list_result image at value).answer
