-- A basket's stores in the two lent lists: the loop over its keys. Assumes nothing.
use mathlib.Core.Path.{◌≡◌, refl, sym, ap, ap₂, ◌∙◌}
use mathlib.Core.Bool.{Bool, true, false, cond}
use mathlib.Core.List.{List, [], ◌∷◌, ◌++◌}
use Prim.Native.Nat.{ℕ, zero, suc, ◌+◌, ◌-◌, ◌*◌, ◌≤◌, ◌<◌}
use native.Mathlib.Omega.{arith}
use lib.Dec.{eqb}
use lib.ListN.{length, get_or, take, drop, length-drop}
use lib.Seq.{length-take-le, get_or-take, get_or-drop, ext_get_or}
use Rattle.words.specs.Word.{word}
use Rattle.prelude.specs.Range.{tabulate}
use Rattle.prelude.proofs.Tabulate.{tabulate-length, tabulate_get}
use Rattle.layout.specs.Record.{key_with}
use Rattle.stores.specs.Store.{Store}
use Rattle.stores.specs.Written.{run, line_stores, record_stores}
use Rattle.stores.specs.Play.{word_numbers, values}
use Rattle.stores.specs.Basket.{BasketRecord, basket_stores}
use Rattle.stores.specs.inner.Written.{pasted}
use Rattle.stores.specs.inner.Needs.{Recordable}
use Rattle.prelude.proofs.Buffers.{paste-sets, sets_first}
use Rattle.stores.proofs.Lists.{numbers-length, values_length, StoresFill, stores_begin, stores_on, stores_end, stores_room}
use Rattle.table.specs.Complete.{size_field_for}
use Rattle.index.specs.inner.Basket.{takens_from}
use Rattle.index.specs.declared.Action.{Action}
use Rattle.index.specs.declared.Action.TheVariants.{Write, Remove}
use Rattle.calls.specs.Basket.{kind_by, value_by, records_for}
use Rattle.calls.specs.BasketItems.{high_in, item_at, item_value, change_at, changes_from}
use Rattle.calls.specs.BasketBuffers.{at_front}
use Rattle.calls.specs.inner.Basket.{item_key_at, size_by, size_at, records_from, StoresInside}
use Rattle.calls.specs.declared.BasketItem.{BasketItem}
use Rattle.calls.proofs.BasketChecks.{key-at}

-- ---- the bytes of a value

value_part : (values : List ℕ) (i size from end : ℕ) → from ≡ 80 * i → end ≡ from + size → end ≤ length values
    → take (end - from) (drop from values) ≡ item_value values i size
unfolding item_value
value_part values i size from end e f h =
    let d : end - from ≡ size = omega arith in
    ext_get_or 0 _ _ (long ∙ d ∙ sym (tabulate-length _ 0 size))
    (λ j q.
    get_or-take (end - from) (drop from values) j 0 (omega (arith, long)) ∙ get_or-drop from values j 0
    ∙ same j ∙ sym (tabulate_get (λ k. get_or values (80 * i + k) 0) 0 size j (omega (arith, long))))
  where
    long : length (take (end - from) (drop from values)) ≡ end - from
    long = length-take-le (end - from) (drop from values) (omega (arith, length-drop from values))

    same : (j : ℕ) → get_or values (from + j) 0 ≡ get_or values (80 * i + (0 + j)) 0
    same j = let p : from + j ≡ 80 * i + (0 + j) = omega arith in ap (λ (k : ℕ). get_or values k 0) p

-- its record can be made
kind_small : (a : Action) → kind_by a < 256
unfolding kind_by
kind_small (Write mode) = omega arith
kind_small Remove = omega arith

number_small : (count : ℕ) → count ≤ 8 → size_field_for count < 256
unfolding size_field_for
number_small count h = go (eqb count 1)
  where
    go : (b : Bool) → cond b 0 count < 256
    go true = omega arith
    go false = omega arith

-- its bytes lie inside the 640
pub size_within : (l : ℕ) (image : List ℕ) (version count : ℕ) (items : List BasketItem) (slots : List ℕ) (at words : ℕ)
    → StoresInside l image version count items slots at words → (j : ℕ) → j < count → (r : ℕ) → r ≡ size_at items j → 80 * j + r ≤ 640
size_within l image version count items slots at words inside j h r e =
    omega (arith, e, inside.size_fits j h, inside.few, inside.layout.low, inside.layout.high)

pub value_of : (bytes : List ℕ) (j r size : ℕ) → r ≡ size → 80 * j + r ≤ length bytes
    → take (80 * j + r - 80 * j) (drop (80 * j) bytes) ≡ item_value bytes j size
value_of bytes j r size e h = value_part bytes j r (80 * j) (80 * j + r) refl refl h ∙ ap (item_value bytes j) e

-- ---- fill_basket_stores

module _ (l : ℕ) (image : List ℕ) (version count : ℕ) (items : List BasketItem) (bytes slots : List ℕ) where
  abbrev from_item : ℕ → ℕ → List Store
  from_item j n = basket_stores l (word image) (size_field_for count) version (records_from l items bytes slots j n)

  abbrev of_item : ℕ → List Store
  of_item j =
      record_stores l (word image) (get_or slots j 0) (item_key_at l items j) (kind_by (item_at items j).action) (size_field_for count)
      (item_value bytes j (size_at items j)) version

  stores_step : (j : ℕ) → j < count → from_item j (count - j) ≡ of_item j ++ from_item (j + 1) (count - (j + 1))
  unfolding records_from basket_stores
  stores_step j h =
      let d : count - j ≡ suc (count - (j + 1)) = omega arith in
      let e : suc j ≡ j + 1 = omega arith in
      ap (from_item j) d ∙ ap (λ (k : ℕ). of_item j ++ from_item k (count - (j + 1))) e

  sixteen : (j : ℕ) → length (of_item j) ≡ 16
  unfolding record_stores line_stores run
  sixteen j = refl

  pub record Storing (at₀ words₀ at words : List ℕ) (j : ℕ) : Type 0 where
    pub position : j ≤ count
    pub fill : StoresFill at₀ words₀ 0 (from_item 0 count) at words (16 * j) (from_item j (count - j))

  module _ (at₀ words₀ : List ℕ) where
    pub storing_starts : Storing at₀ words₀ at₀ words₀ 0
    storing_starts =
        record { position = omega arith; fill = stores_begin refl (ap (from_item 0) (let all : count - 0 ≡ count = omega arith in all)) }

    module _ (at words : List ℕ) (j : ℕ) (w : Storing at₀ words₀ at words j) where
      module _ (inside : StoresInside l image version count items slots (length at₀) (length words₀)) (h : j < count) where
        pub storing_on : (at' words' : List ℕ) (high kind number : ℕ) (value : List ℕ)
            → high ≡ high_in l (item_at items j).high → kind ≡ kind_by (item_at items j).action
            → number ≡ size_field_for count → value ≡ item_value bytes j (size_at items j)
            → at' ≡ pasted at (16 * j) (word_numbers
            (record_stores l (word image) (get_or slots j 0) (key_with (item_at items j).low high) kind number value version)) 16
            → words' ≡ pasted words (16 * j)
            (values (record_stores l (word image) (get_or slots j 0) (key_with (item_at items j).low high) kind number value version)) 16
            → Storing at₀ words₀ at' words' (j + 1)
        unfolding pasted
        storing_on at' words' high kind number value eh ek en ev ea ew =
            record {
              position = omega arith;
              fill =
                  stores_on w.fill (of_item j) (stores_step j h)
                  (ea ∙ ap (λ (t : List Store). pasted at (16 * j) (word_numbers t) 16) made
                  ∙ paste-sets at (word_numbers (of_item j)) (16 * j) 16 (numbers-length (of_item j) ∙ sixteen j)
                  (omega (arith, inside.at_room, w.fill.ats.size)))
                  (ew ∙ ap (λ (t : List Store). pasted words (16 * j) (values t) 16) made
                  ∙ paste-sets words (values (of_item j)) (16 * j) 16 (values_length (of_item j) ∙ sixteen j)
                  (omega (arith, inside.words_room, w.fill.vals.size)))
                  (omega (arith, sixteen j));
            }
          where
            made : record_stores l (word image) (get_or slots j 0) (key_with (item_at items j).low high) kind number value version ≡ of_item j
            made =
                ap₂ (λ (x y : ℕ). record_stores l (word image) (get_or slots j 0) x y number value version) (key-at l items j high eh) ek
                ∙ ap₂ (λ (x : ℕ) (v : List ℕ). record_stores l (word image) (get_or slots j 0) (item_key_at l items j) (kind_by (item_at items j).action) x v
                version)
                en ev

        pub recordable : (kind number : ℕ) (value : List ℕ) → kind ≡ kind_by (item_at items j).action → number ≡ size_field_for count
            → value ≡ item_value bytes j (size_at items j) → Recordable l kind number value version
        unfolding item_value
        recordable kind number value ek en ev =
            record {
              layout = inside.layout;
              kind_fits = omega (arith, ek, kind_small (item_at items j).action);
              number_fits = omega (arith, en, number_small count inside.few);
              size = omega (arith, ap length ev, tabulate-length (λ k. get_or bytes (80 * j + k) 0) 0 (size_at items j), inside.size_fits j h);
              version_fits = inside.version_fits;
            }

      pub storing_ends : StoresInside l image version count items slots (length at₀) (length words₀) → count ≤ j
          → (at ≡ at_front (word_numbers (from_item 0 count)) at₀) × (words ≡ at_front (values (from_item 0 count)) words₀)
      unfolding records_from basket_stores at_front
      storing_ends inside h =
          let none : from_item j (count - j) ≡ [] = ap (from_item j) (let z : count - j ≡ 0 = omega arith in z) in
          let all : length (from_item 0 count) ≤ 16 * count = omega (arith, stores_room w.fill, ap length none, w.position) in
          let end = stores_end w.fill none in (
            end.0 ∙ sets_first at₀ (word_numbers (from_item 0 count)) (omega (arith, all, numbers-length (from_item 0 count), inside.at_room)),
            end.1 ∙ sets_first words₀ (values (from_item 0 count)) (omega (arith, all, values_length (from_item 0 count), inside.words_room)),
          )

-- ---- the records by what is asked

value-by : (a : Action) (bytes : List ℕ) (i size : ℕ) → item_value bytes i (size_by a size) ≡ value_by a (item_value bytes i size)
unfolding value_by size_by item_value tabulate
value-by (Write mode) bytes i size = refl
value-by Remove bytes i size = refl

pub records_asked : (l : ℕ) (items : List BasketItem) (bytes slots prevs : List ℕ) (i n : ℕ)
    → records_from l items bytes slots i n ≡ records_for (changes_from l items bytes i n) (takens_from slots prevs i n)
unfolding records_from records_for changes_from change_at takens_from
records_asked l items bytes slots prevs i zero = refl
records_asked l items bytes slots prevs i (suc n) =
    ap₂ (λ (v : List ℕ) (rs : List BasketRecord). record
    { slot = get_or slots i 0; key = item_key_at l items i; kind = kind_by (item_at items i).action; value = v }
    ∷ rs)
    (value-by (item_at items i).action bytes i (item_at items i).length) (records_asked l items bytes slots prevs (suc i) n)
