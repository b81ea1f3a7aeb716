-- The pairs are gone through one by one. Assumes nothing.
use mathlib.Core.Path.{◌≡◌, refl, sym, ap, ap₂, ◌∙◌}
use mathlib.Core.Bool.{Bool, true, false, not, cond, ◌&&◌}
use mathlib.Core.List.{List, [], ◌∷◌}
use Prim.Native.Nat.{ℕ, zero, suc, ◌+◌, ◌-◌, ◌/◌, ◌%◌, ◌≤◌, ◌<◌}
use native.Mathlib.Numerals.{add-one}
use native.Mathlib.Omega.{arith}
use lib.Dec.{eqb}
use lib.ListN.{length, take, replicate, length-replicate}
use borrow.Author.Tests.{eq-eqb, ne_eqb, eqb-true, not-false}
use Rattle.prelude.specs.Refusal.{refuse_if, unless_refused}
use Rattle.prelude.specs.Answer.{gives, refused}
use Rattle.prelude.specs.Range.{count}
use Rattle.prelude.proofs.Choice.{false_left, false_right}
use Rattle.prelude.proofs.Count.{count_most}
use Rattle.prelude.proofs.Lists.{front_length}
use Rattle.prelude.proofs.Refusals.{refuse_if-true, refuse_if-false, refuse_if_zero, or_else_first, or_else_later, or_else_zero, taken_leaves, refused_keeps}
use Rattle.layout.specs.Size.{slots_of, slots_in}
use Rattle.layout.specs.Header.{index_fault}
use Rattle.table.specs.Complete.{table_of}
use Rattle.stores.specs.Store.{played, zipped}
use Rattle.stores.specs.Play.{Played, play_end, play_fault, counted, play_result}
use Rattle.stores.proofs.Bytes.{played-length}
use Rattle.cut_counts.specs.Maps.{is_same_map}
use Rattle.cut_counts.specs.CutCount.{acceptance_fault, have_one_map, cut_image, pair_test, count_pairs, earlier_count, later_count, arguments_fault}
use Rattle.cut_counts.specs.CutCount.{cut_count_fault, CutCountResult, cut_count_says, cut_count_end, cut_count_result}
use Rattle.cut_counts.specs.declared.CutCounts.TheVariants.{Counted, Refused}
use Rattle.cut_counts.specs.inner.Indexed.{IndexedBy}
use Rattle.cut_counts.specs.inner.Pairs.{FitsIndex, tallied, tally_of, copy_before}
use Rattle.cut_counts.specs.declared.Tally.{Tally}
use Rattle.cut_counts.specs.declared.Indexed.{Indexed}
use Rattle.cut_counts.specs.declared.Indexed.TheVariants.{Map, Nothing}
use Rattle.cut_counts.proofs.Indexes.{index_sizes, mapped, not_mapped, mapped_clear}

-- ---- have two images one map?

module _ (l : ℕ) (a ha na b hb nb : List ℕ) (i j : Indexed) (p : IndexedBy l a ha na i) (q : IndexedBy l b hb nb j) where
  pub first_refused : (number : ℕ) → i ≡ Nothing number → false ≡ have_one_map l a b
  unfolding have_one_map
  first_refused number e =
      let r = not_mapped l a ha na i p number e in
      sym (false_left (eqb (acceptance_fault l a) 0) _ (ne_eqb (acceptance_fault l a) 0 (λ z. r.1 (r.0 ∙ z))))

  pub second_refused : (number : ℕ) → j ≡ Nothing number → false ≡ have_one_map l a b
  unfolding have_one_map
  second_refused number e =
      let r = not_mapped l b hb nb j q number e in
      sym
      (false_right (eqb (acceptance_fault l a) 0) _ (false_left (eqb (acceptance_fault l b) 0) _ (ne_eqb (acceptance_fault l b) 0 (λ z. r.1 (r.0 ∙ z)))))

  pub both_mapped : (x y : ℕ) → i ≡ Map x → j ≡ Map y → (r : Bool) → r ≡ is_same_map (table_of l a) (slots_in a) (table_of l b) (slots_in b)
      → r ≡ have_one_map l a b
  unfolding have_one_map
  both_mapped x y d e r s =
      s
      ∙ sym
      (ap₂ (λ (u v : Bool). u && (v && is_same_map (table_of l a) (slots_in a) (table_of l b) (slots_in b)))
      (eq-eqb (acceptance_fault l a) 0 (mapped_clear l a ha na x (mapped l a ha na i p x d)))
      (eq-eqb (acceptance_fault l b) 0 (mapped_clear l b hb nb y (mapped l b hb nb j q y e))))

-- ---- the image after a cut

module _ (image at value : List ℕ) (a b : ℕ) where
  pub cut_length : length (cut_image image at value a b) ≡ length image
  unfolding cut_image play_result unless_refused
  cut_length = go (play_fault (length image) at a b)
    where
      go : (k : ℕ) → length (unless_refused k (played (counted a b (zipped at value)) image) image) ≡ length image
      go zero = played-length _ image
      go (suc k) = refl

  -- the image copied and then played on
  pub cut_made : (copy new : List ℕ) (r : ℕ) → copy ≡ image → play_end r new ≡ play_result copy at value a b → new ≡ cut_image image at value a b
  unfolding cut_image
  cut_made copy new r e d = ap (λ (x : Played). x.bytes) d ∙ ap (λ (x : List ℕ). (play_result x at value a b).bytes) e

-- an index that fits an image fits one as long
pub fits_same : (image other heads next heads' next' : List ℕ) → length other ≡ length image → length heads' ≡ length heads → length next' ≡ length next
    → FitsIndex image heads next → FitsIndex other heads' next'
fits_same image other heads next heads' next' e p q f =
    record { size = ap (λ (n : ℕ). index_fault (slots_of n) (length heads') (length next')) e ∙ ap₂ (index_fault (slots_in image)) p q ∙ f.size }

-- ---- lists of zeros for an index of n slots

abbrev zeros : ℕ → List ℕ
zeros size = replicate size 0

zeros-length : (size : ℕ) → length (zeros size) ≡ size
zeros-length size = length-replicate size 0

pub zeros_front : (size n : ℕ) → n < size → n + 1 ≡ length (take (n + 1) (zeros size))
zeros_front size n h = front_length (n + 1) (zeros size) (omega (arith, zeros-length size))

pub zeros_fit : (image : List ℕ) (size n : ℕ) → n ≡ slots_in image → n < size → size ≤ 65536 → FitsIndex image (zeros size) (take (n + 1) (zeros size))
zeros_fit image size n e h low =
    record {
      size =
          index_sizes (slots_in image) (length (zeros size)) (length (take (n + 1) (zeros size))) (omega (arith, zeros-length size))
          (omega (arith, zeros-length size)) (sym (zeros_front size n h) ∙ ap (λ (k : ℕ). k + 1) e);
    }

-- ---- the tally

pair_next : (p : ℕ → ℕ → Bool) (n : ℕ) (b : Bool) → b ≡ p (n / 9) (n % 9)
    → cond b (count (pair_test p) n + 1) (count (pair_test p) n) ≡ count (pair_test p) (n + 1)
unfolding count pair_test
pair_next p n b e =
    ap₂ (λ (x : Bool) (y : ℕ). cond x y (count (pair_test p) n)) (e ∙ ap (λ (k : ℕ). p (k / 9) (k % 9)) before) (add-one (count (pair_test p) n))
    ∙ ap (count (pair_test p)) (sym (add-one n))
  where
    before : n ≡ suc n - 1
    before = omega arith

module _ (l : ℕ) (image at value last : List ℕ) where
  tally_none : (t : Tally) → t.earlier ≡ 0 → t.later ≡ 0 → t ≡ tally_of l image at value last 0
  unfolding tally_of count
  tally_none t p q = ap₂ (λ (x y : ℕ). record { earlier = x; later = y }) p q

  tally_low : (t : Tally) (n : ℕ) → t ≡ tally_of l image at value last n → (t.earlier ≤ n) × (t.later ≤ n)
  unfolding tally_of
  tally_low t n e = (
    omega (arith, ap (λ (x : Tally). x.earlier) e, count_most (pair_test (λ a b. have_one_map l image (cut_image image at value a b))) n),
    omega (arith, ap (λ (x : Tally). x.later) e, count_most (pair_test (λ a b. have_one_map l last (cut_image image at value a b))) n),
  )

  tally_next : (t r : Tally) (n : ℕ) (x y : Bool) (copy : List ℕ) → t ≡ tally_of l image at value last n → copy ≡ cut_image image at value (n / 9) (n % 9)
      → x ≡ have_one_map l image copy → y ≡ have_one_map l last copy → r ≡ tallied t x y → r ≡ tally_of l image at value last (n + 1)
  unfolding tally_of tallied
  tally_next t r n x y copy e c p q s =
      s ∙ ap (λ (u : Tally). tallied u x y) e
      ∙ ap₂ (λ (u v : ℕ). record { earlier = u; later = v })
      (pair_next (λ a b. have_one_map l image (cut_image image at value a b)) n x (p ∙ ap (have_one_map l image) c))
      (pair_next (λ a b. have_one_map l last (cut_image image at value a b)) n y (q ∙ ap (have_one_map l last) c))

-- what the copy holds
module _ (image at value copy : List ℕ) where
  copy_first : copy ≡ copy_before image at value copy 0
  unfolding copy_before
  copy_first = refl

  copy_next : (n : ℕ) (new : List ℕ) → new ≡ cut_image image at value (n / 9) (n % 9) → new ≡ copy_before image at value copy (n + 1)
  unfolding copy_before
  copy_next n new e = e ∙ ap (copy_before image at value copy) (sym (add-one n))

  copy-length : (n : ℕ) (now : List ℕ) → length copy ≡ length image → now ≡ copy_before image at value copy n → length now ≡ length image
  unfolding copy_before
  copy-length zero now e q = ap length q ∙ e
  copy-length (suc n) now e q = ap length q ∙ cut_length image at value (n / 9) (n % 9)

  copy_last : (now : List ℕ) → now ≡ copy_before image at value copy 81 → now ≡ cut_image image at value 8 8
  unfolding copy_before
  copy_last now q = q

-- ---- pair by pair: t is the tally of the first i pairs, and copy, heads and next are what is lent for the next

pub record Going (l : ℕ) (image at value last lent lentHeads lentNext copy heads next : List ℕ) (t : Tally) (i : ℕ) : Type 0 where
  pub so_far : t ≡ tally_of l image at value last i
  pub copied : copy ≡ copy_before image at value lent i
  pub same_heads : length heads ≡ length lentHeads
  pub same_next : length next ≡ length lentNext
  pub few : i ≤ 81

pub going_first : (l : ℕ) (image at value last lent lentHeads lentNext : List ℕ) (t : Tally) → t.earlier ≡ 0 → t.later ≡ 0
    → Going l image at value last lent lentHeads lentNext lent lentHeads lentNext t 0
going_first l image at value last lent lentHeads lentNext t p q =
    record {
      so_far = tally_none l image at value last t p q;
      copied = copy_first image at value lent;
      same_heads = refl;
      same_next = refl;
      few = omega arith;
    }

module _ (l : ℕ) (image at value last lent lentHeads lentNext copy heads next : List ℕ) (t : Tally) (i : ℕ)
    (g : Going l image at value last lent lentHeads lentNext copy heads next t i) where
  pub going_copy : length lent ≡ length image → length copy ≡ length image
  going_copy e = copy-length image at value lent i copy e g.copied

  pub going_length : length lent ≡ length image → length copy ≡ length lent
  going_length e = going_copy e ∙ sym e

  pub going_fits : FitsIndex image lentHeads lentNext → FitsIndex image heads next
  going_fits f = fits_same image image lentHeads lentNext heads next refl g.same_heads g.same_next f

  pub going_low : (t.earlier ≤ i) × (t.later ≤ i)
  going_low = tally_low l image at value last t i g.so_far

  pub going_next : i < 81 → (new newHeads newNext : List ℕ) → new ≡ cut_image image at value (i / 9) (i % 9) → length newHeads ≡ length heads
      → length newNext ≡ length next → (x y : Bool) → x ≡ have_one_map l image new → y ≡ have_one_map l last new → (r : Tally) → r ≡ tallied t x y
      → Going l image at value last lent lentHeads lentNext new newHeads newNext r (i + 1)
  going_next h new newHeads newNext e p q x y d f r s =
      record {
        so_far = tally_next l image at value last t r i x y new g.so_far e d f s;
        copied = copy_next image at value lent i new e;
        same_heads = p ∙ g.same_heads;
        same_next = q ∙ g.same_next;
        few = omega arith;
      }

  pub going_last : 81 ≤ i → (t ≡ tally_of l image at value last 81) × (copy ≡ cut_image image at value 8 8)
  going_last h =
      let all : i ≡ 81 = omega (arith, g.few) in (
        g.so_far ∙ ap (tally_of l image at value last) all,
        copy_last image at value lent copy (g.copied ∙ ap (copy_before image at value lent) all),
      )

-- ---- the lent slices

module _ (len : ℕ) (at : List ℕ) (copy later fault : ℕ) (e : fault ≡ play_fault len at 8 8) where
  pub play_refuses : (fault ≡ 0 → ⊥) → fault ≡ arguments_fault len at copy later
  unfolding arguments_fault
  play_refuses ne = e ∙ sym (or_else_first (play_fault len at 8 8) _ (λ z. ne (e ∙ z)))

  module _ (z : fault ≡ 0) where
    past_play : refuse_if (not (eqb copy len)) 1 (refuse_if (not (eqb later len)) 1 0) ≡ arguments_fault len at copy later
    unfolding arguments_fault
    past_play = sym (or_else_later (play_fault len at 8 8) _ (sym e ∙ z))

    pub copy_other : (copy ≡ len → ⊥) → 1 ≡ arguments_fault len at copy later
    copy_other ne = sym (refuse_if-true (not (eqb copy len)) 1 _ (ap not (ne_eqb copy len ne))) ∙ past_play

    module _ (same : copy ≡ len) where
      past_copy : refuse_if (not (eqb later len)) 1 0 ≡ arguments_fault len at copy later
      past_copy = sym (refuse_if-false (not (eqb copy len)) 1 _ (ap not (eq-eqb copy len same))) ∙ past_play

      pub later_other : (later ≡ len → ⊥) → 1 ≡ arguments_fault len at copy later
      later_other ne = sym (refuse_if-true (not (eqb later len)) 1 _ (ap not (ne_eqb later len ne))) ∙ past_copy

      pub copies_fine : later ≡ len → 0 ≡ arguments_fault len at copy later
      copies_fine d = sym (refuse_if-false (not (eqb later len)) 1 _ (ap not (eq-eqb later len d))) ∙ past_copy

-- slices that are not refused are as long as the image
pub copies_long : (len : ℕ) (at : List ℕ) (copy later fault : ℕ) → fault ≡ arguments_fault len at copy later → fault ≡ 0 → (copy ≡ len) × (later ≡ len)
unfolding arguments_fault
copies_long len at copy later fault e z =
    let a = refuse_if_zero (not (eqb copy len)) 1 _ (or_else_zero (play_fault len at 8 8) _ (sym e ∙ z)).1 (omega arith) in
    let b = refuse_if_zero (not (eqb later len)) 1 _ a.1 (omega arith) in
    (eqb-true copy len (not-false _ a.0), eqb-true later len (not-false _ b.0))

-- ---- the answer

module _ (l : ℕ) (image at value copy later : List ℕ) where
  abbrev fault : ℕ
  fault = cut_count_fault l image at (length copy) (length later)

  denied : (number : ℕ) → number ≡ fault → (number ≡ 0 → ⊥) → cut_count_end (Refused number) copy later ≡ cut_count_result l image at value copy later
  unfolding cut_count_result cut_count_says
  denied number e ne =
      ap (λ (k : ℕ). record { answer = refused k; copy = copy; later = later }) e ∙ sym (refused_keeps _ _ fault (λ z. ne (e ∙ z)))

  pub image-refused : (number : ℕ) → (number ≡ acceptance_fault l image) × (number ≡ 0 → ⊥)
      → cut_count_end (Refused number) copy later ≡ cut_count_result l image at value copy later
  unfolding cut_count_fault
  image-refused number r = denied number (r.0 ∙ sym (or_else_first (acceptance_fault l image) _ (λ z. r.1 (r.0 ∙ z)))) r.1

  module _ (own : acceptance_fault l image ≡ 0) (number : ℕ) (e : number ≡ arguments_fault (length image) at (length copy) (length later)) where
    later_fault : number ≡ fault
    unfolding cut_count_fault
    later_fault = e ∙ sym (or_else_later (acceptance_fault l image) _ own)

    pub lent_refused : (number ≡ 0 → ⊥) → cut_count_end (Refused number) copy later ≡ cut_count_result l image at value copy later
    lent_refused ne = denied number later_fault ne

    pub counts_given : number ≡ 0 → (cut_count_result l image at value copy later).answer
        ≡ gives (earlier_count l image at value ∷ later_count l image at value ∷ [])
    unfolding cut_count_result
    counts_given z = ap (λ (r : CutCountResult). r.answer) (taken_leaves _ _ fault (sym later_fault ∙ z))

    pub counted-all : number ≡ 0 → (t : Tally) (new all : List ℕ) → t ≡ tally_of l image at value all 81 → new ≡ cut_image image at value 8 8
        → all ≡ cut_image image at value 8 8 → cut_count_end (Counted t.earlier t.later) new all ≡ cut_count_result l image at value copy later
    unfolding cut_count_result cut_count_says earlier_count later_count count_pairs tally_of
    counted-all z t new all s p q =
        ap₂ (λ (u : Tally) (x : List ℕ). record { answer = gives (u.earlier ∷ u.later ∷ []); copy = x; later = all })
        (s ∙ ap (λ (x : List ℕ). tally_of l image at value x 81) q) p
        ∙ ap
        (λ (x : List ℕ).
        record {
          answer = gives (earlier_count l image at value ∷ later_count l image at value ∷ []);
          copy = cut_image image at value 8 8;
          later = x;
        })
        q
        ∙ sym (taken_leaves _ _ fault (sym later_fault ∙ z))
