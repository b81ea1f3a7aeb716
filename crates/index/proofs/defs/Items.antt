-- The keys of a basket as the index has them: whose slots they are before, between and after their changes.
use mathlib.Core.Path.{◌≡◌}
use mathlib.Core.Bool.{cond}
use mathlib.Core.List.{List, [], ◌∷◌, ◌++◌}
use Prim.Native.Nat.{ℕ, ◌<◌}
use lib.Dec.{eqb}
use Rattle.prelude.specs.Members.{In, Once, All, Slot}
use Rattle.prelude.proofs.defs.Among.{member}
use Rattle.index.specs.Index.{Chain, reuse, head}
use Rattle.index.specs.Linked.{Owner, free}
use Rattle.index.specs.Basket.{Item}
use Rattle.index.specs.declared.Action.{Action}
use Rattle.index.specs.declared.Action.TheVariants.{Write, Remove}
use Rattle.index.specs.declared.Mode.TheVariants.{Insert, Replace}

-- the owners with these slots given up
unfoldable pub freed : (owner : ℕ → Owner) → List ℕ → ℕ → Owner
freed owner ss x = cond (member ss x) free (owner x)

-- the slots taken for the keys
unfoldable pub item_slots : List Item → List ℕ
item_slots [] = []
item_slots (k ∷ ks) = k.slot ∷ item_slots ks

-- the slots of the old records, of the keys that have one
unfoldable pub olds_by : Action → (old : ℕ) → List ℕ
olds_by (Write Insert) old = []
olds_by (Write Replace) old = old ∷ []
olds_by Remove old = old ∷ []

unfoldable pub olds_of : List Item → List ℕ
olds_of [] = []
olds_of (k ∷ ks) = olds_by k.action k.old ++ olds_of ks

-- what the keys append to the reuse chain: "the old slot", and for a remove "then the slot just taken"
unfoldable pub appends_by : Action → (old s : ℕ) → List ℕ
appends_by (Write Insert) old s = []
appends_by (Write Replace) old s = old ∷ []
appends_by Remove old s = old ∷ s ∷ []

unfoldable pub appends_of : List Item → List ℕ
appends_of [] = []
appends_of (k ∷ ks) = appends_by k.action k.old k.slot ++ appends_of ks

-- the chain that the slot taken for a key of head h joins
unfoldable pub goes_to : Action → (h : ℕ) → Chain
goes_to (Write mode) h = head h
goes_to Remove h = reuse

-- the places after a key's change, and after all
unfoldable pub moved_one : Item → (place : ℕ → Chain) → ℕ → Chain
moved_one k place x = cond (eqb x k.slot) (goes_to k.action k.key_head) (cond (eqb x k.old) reuse (place x))

unfoldable pub moved_by : List Item → (place : ℕ → Chain) → ℕ → Chain
moved_by [] place x = place x
moved_by (k ∷ ks) place x = moved_by ks (moved_one k place) x

-- the old record of a key stands in the chain of the key's head
abbrev pub OldStands : (n : ℕ) → (place : ℕ → Chain) → Action → (h old : ℕ) → Type 0
OldStands n place (Write Insert) h old = old ≡ 0
OldStands n place (Write Replace) h old = Slot n old × (place old ≡ head h)
OldStands n place Remove h old = Slot n old × (place old ≡ head h)

pub record Ready (n b : ℕ) (place : ℕ → Chain) (k : Item) : Type 0 where
  pub head_in : k.key_head < b
  pub stands : OldStands n place k.action k.key_head k.old

-- the keys can be linked: their slots were taken from reuse
pub record Linkable (n b : ℕ) (place : ℕ → Chain) (ks : List Item) : Type 0 where
  pub slots_once : Once (item_slots ks)
  pub slots-taken : (x : ℕ) → In x (item_slots ks) → Slot n x × (place x ≡ reuse)
  pub ready : All (Ready n b place) ks
  pub olds_once : Once (olds_of ks)
