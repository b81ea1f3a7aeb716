-- THE CUTS OF A CALL: 80 of the 81 leave the earlier map and one the later, or all of them both where a replace changes
-- nothing. From the laws of the set. Assumes nothing.
use mathlib.Core.Path.{◌≡◌, refl, sym, ap, ap₂, ◌∙◌, subst}
use mathlib.Core.Bool.{Bool, true, false, cond, ◌&&◌}
use mathlib.Core.Logic.{◌⊎◌, inl, inr, by_cases}
use mathlib.Core.Option.{Option, some, none}
use mathlib.Core.List.{List, [], ◌∷◌}
use Prim.Native.Nat.{ℕ, ◌+◌, ◌-◌, ◌*◌, ◌/◌, ◌%◌, ◌≤◌}
use native.Mathlib.Decide.{ℕ_discrete}
use native.Mathlib.Omega.{arith}
use lib.Dec.{eqb}
use lib.ListN.{length, replicate, length-replicate}
use borrow.Author.Tests.{eqb-true, eq-eqb, ne_eqb}
use Rattle.words.specs.Word.{word}
use Rattle.prelude.specs.Members.{none_left}
use Rattle.prelude.specs.Answer.{gives, refuses}
use Rattle.prelude.specs.Range.{count}
use Rattle.prelude.proofs.Count.{count_same}
use Rattle.prelude.proofs.Choice.{pick_true, pick_false, split, true-false, both, both_of, is_false, same_test}
use Rattle.layout.specs.Size.{slots_of, slots_in}
use Rattle.layout.specs.Header.{index_fault}
use Rattle.layout.specs.Record.{Layout}
use Rattle.table.specs.Table.{is_held}
use Rattle.table.specs.Complete.{table_of}
use Rattle.stores.specs.Store.{Store, all_stand, on_line}
use Rattle.stores.specs.Written.{run, line_stores, record_stores}
use Rattle.stores.specs.Play.{word_numbers, values, playing, half_counts}
use Rattle.stores.proofs.AllStand.{stand_lines, lines_stand}
use Rattle.stores.proofs.Table.{record_carries, record_off}
use Rattle.cut_counts.specs.Maps.{same_value, is_same_map}
use Rattle.recovery.specs.Recover.{recover_fault}
use Rattle.cut_counts.specs.CutCount.{acceptance_fault, have_one_map, cut_image, pair_test, count_pairs, earlier_count, later_count, cut_count_result}
use Rattle.cut_counts.proofs.Maps.{decides_equal, same-value, value_same}
use Rattle.cut_counts.proofs.Indexes.{index_fine, accepted_clear}
use Rattle.cut_counts.proofs.Pairs.{cut_length, copies_fine, counts_given}
use Rattle.plainmap.specs.World.{World, Call, write, remove, get, locate, call_result, reads_only, after_rounds}
use Rattle.plainmap.specs.Plain.{PlainMap, updates, updated, plain_next, plain_step, plain_answer}
use Rattle.plainmap.specs.Claims.{Typed, slots_map, expected_refusal, CallCorrect}
use Rattle.plainmap.specs.Consistency.{Refines}
use Rattle.interface.specs.Event.{Cut, struck, effects_of, image_cut, is_whole, plain_event, map_after_event, struck_fits}
use Rattle.interface.specs.Recovers.{Recovers}
use Rattle.interface.specs.CutCount.{is_equal_replace, expected_counts, CutsCounted}
use Rattle.interface.proofs.Stored.{OneStored, none_stored, one_stored, stored_one}
use Rattle.interface.proofs.SetLaws.{set_laws, call_laws}

-- ---- which pairs leave all stores

abbrev is_full : (a b : ℕ) → Bool
is_full a b = eqb a 8 && eqb b 8

-- of one record: all eight of each line
module _ (l : ℕ) (m : ℕ → ℕ) (s key kind number : ℕ) (value : List ℕ) (version a b : ℕ) where
  abbrev record_ss : List Store
  record_ss = record_stores l m s key kind number value version

  counts_A : half_counts record_ss a b (2 * s) ≡ a
  unfolding record_stores line_stores run half_counts
  counts_A = pick_true (eqb (2 * s) ((8 * (2 * s) + 0) / 8)) a b (eq-eqb (2 * s) ((8 * (2 * s) + 0) / 8) (omega arith))

  counts_other : (n : ℕ) → (n ≡ 2 * s → ⊥) → half_counts record_ss a b n ≡ b
  unfolding record_stores line_stores run half_counts
  counts_other n ne =
      pick_false (eqb n ((8 * (2 * s) + 0) / 8)) a b (ne_eqb n ((8 * (2 * s) + 0) / 8) (λ (e : n ≡ (8 * (2 * s) + 0) / 8). ne (omega arith)))

  size_A : length (on_line (2 * s) record_ss) ≡ 8
  unfolding line_stores run
  size_A = ap length (record_carries l m s key kind number value version).line_A

  size_B : length (on_line (2 * s + 1) record_ss) ≡ 8
  unfolding line_stores run
  size_B = ap length (record_carries l m s key kind number value version).line_B

  line_size : (n : ℕ) → length (on_line n record_ss) ≤ 8
  line_size n =
      by_cases (ℕ_discrete n (2 * s)) (λ e. omega (arith, ap (λ (x : ℕ). length (on_line x record_ss)) e, size_A))
      (λ p. by_cases (ℕ_discrete n (2 * s + 1)) (λ e. omega (arith, ap (λ (x : ℕ). length (on_line x record_ss)) e, size_B))
      (λ q. omega (arith, ap length (record_off l m s key kind number value version n (λ (e : n / 2 ≡ s). between n p q e)))))
    where
      between : (n : ℕ) → (n ≡ 2 * s → ⊥) → (n ≡ 2 * s + 1 → ⊥) → n / 2 ≡ s → ⊥
      between n p q e = omega arith

  full_stands : a ≡ 8 → b ≡ 8 → all_stand (half_counts record_ss a b) record_ss ≡ true
  full_stands p q =
      lines_stand (half_counts record_ss a b) record_ss
      (λ n. by_cases (ℕ_discrete n (2 * s)) (λ e. omega (arith, line_size n, ap (half_counts record_ss a b) e, counts_A))
      (λ ne. omega (arith, line_size n, counts_other n ne)))

  stands_full : all_stand (half_counts record_ss a b) record_ss ≡ true → (8 ≤ a) × (8 ≤ b)
  stands_full e = (
    omega (arith, stand_lines (half_counts record_ss a b) record_ss e (2 * s), size_A, counts_A),
    omega (arith, stand_lines (half_counts record_ss a b) record_ss e (2 * s + 1), size_B, counts_other (2 * s + 1) (λ (z : 2 * s + 1 ≡ 2 * s). omega arith)),
  )

  record_full : a ≤ 8 → b ≤ 8 → all_stand (half_counts record_ss a b) record_ss ≡ is_full a b
  record_full p q =
      same_test _ _
      (λ e. let f = stands_full e in both (eqb a 8) (eqb b 8) (eq-eqb a 8 (omega (arith, f.0))) (eq-eqb b 8 (omega (arith, f.1))))
      (λ e. let f = both_of (eqb a 8) (eqb b 8) e in full_stands (eqb-true a 8 f.0) (eqb-true b 8 f.1))

-- ---- two images with known maps

module _ (l : ℕ) (x y : List ℕ) (fx : acceptance_fault l x ≡ 0) (fy : acceptance_fault l y ≡ 0) where
  one_map_is : have_one_map l x y ≡ is_same_map (table_of l x) (slots_in x) (table_of l y) (slots_in y)
  unfolding have_one_map
  one_map_is =
      ap₂ (λ (u v : Bool). u && (v && is_same_map (table_of l x) (slots_in x) (table_of l y) (slots_in y))) (eq-eqb (acceptance_fault l x) 0 fx)
      (eq-eqb (acceptance_fault l y) 0 fy)

  equal_one_map : ((k : ℕ) → slots_map l x k ≡ slots_map l y k) → have_one_map l x y ≡ true
  equal_one_map e = one_map_is ∙ (decides_equal (table_of l x) (slots_in x) (table_of l y) (slots_in y)).test e

  one_map_equal : have_one_map l x y ≡ true → (k : ℕ) → slots_map l x k ≡ slots_map l y k
  one_map_equal e = (decides_equal (table_of l x) (slots_in x) (table_of l y) (slots_in y)).equal (sym one_map_is ∙ e)

-- ---- what the call makes of the map

-- the later map is the earlier one exactly for a replace by an equal value
data Changes (m : PlainMap) (call : Call) : Type 0 where
  same_map : is_equal_replace m call ≡ true → ((k : ℕ) → plain_next (updates call) m k ≡ m k) → Changes m call
  other_map : is_equal_replace m call ≡ false → (((k : ℕ) → plain_next (updates call) m k ≡ m k) → ⊥) → Changes m call

module _ (l : ℕ) (w : World) (m : PlainMap) where
  -- a remove that stores drops a held key
  removed_held : (key : ℕ) → ((call_result l w (remove key)).stores ≡ [] → ⊥) → CallCorrect l w m (remove key) → expected_refusal l w m (remove key) ≡ 0
      → m key ≡ none → ⊥
  unfolding plain_answer is_held
  removed_held key some-there right fine e =
      some-there (right.absent_still (right.answer fine ∙ pick_false (is_held (m key)) _ _ (ap is_held e))).no_stores

  changes : (call : Call) → ((call_result l w call).stores ≡ [] → ⊥) → CallCorrect l w m call → expected_refusal l w m call ≡ 0 → Changes m call
  unfolding is_equal_replace updates plain_next updated call_result reads_only
  changes (write mode key value) some-there right fine = go (split (same_value (m key) (some value)))
    where
      kept : m key ≡ some value → (k : ℕ) → cond (eqb k key) (some value) (m k) ≡ m k
      kept e k = at (split (eqb k key))
        where
          at : (eqb k key ≡ true) ⊎ (eqb k key ≡ false) → cond (eqb k key) (some value) (m k) ≡ m k
          at (inl h) = pick_true (eqb k key) _ _ h ∙ sym e ∙ ap m (sym (eqb-true k key h))
          at (inr h) = pick_false (eqb k key) _ _ h

      go : (same_value (m key) (some value) ≡ true) ⊎ (same_value (m key) (some value) ≡ false) → Changes m (write mode key value)
      go (inl e) = same_map e (kept (same-value (m key) (some value) e))
      go (inr e) =
          other_map e
          (λ h.
          true-false
          (ap (λ (o : Option (List ℕ)). same_value o (some value)) (sym (sym (pick_true (eqb key key) (some value) (m key) (eq-eqb key key refl)) ∙ h key))
          ∙ value_same (some value))
          e)
  changes (remove key) some-there right fine =
      other_map refl (λ h. removed_held key some-there right fine (sym (h key) ∙ pick_true (eqb key key) none (m key) (eq-eqb key key refl)))
  changes (get key out) some-there right fine = absurd (some-there refl)
  changes (locate key) some-there right fine = absurd (some-there refl)

module _ (l : ℕ) (lay : Layout l) (w : World) (m : PlainMap) (g : Refines l w m) (call : Call) (t : Typed l call)
    (some-there : (call_result l w call).stores ≡ [] → ⊥) where
  abbrev ss : List Store
  ss = (call_result l w call).stores

  right : CallCorrect l w m call
  right = (set_laws l lay).answers w m g call t

  -- a call with stores is not refused
  not_refused : expected_refusal l w m call ≡ 0
  not_refused = by_cases (ℕ_discrete (expected_refusal l w m call) 0) (λ z. z) (λ ne. absurd (some-there (right.refused_still ne).no_stores))

  full_is : (a b : ℕ) → a ≤ 8 → b ≤ 8 → all_stand (half_counts ss a b) ss ≡ is_full a b
  full_is a b p q = go (stored_one l w m g call)
    where
      go : OneStored l w ss → all_stand (half_counts ss a b) ss ≡ is_full a b
      go (none_stored e) = absurd (some-there e)
      go (one_stored key kind value e i) =
          subst (λ (x : List Store). all_stand (half_counts x a b) x ≡ is_full a b) (sym e)
          (record_full l (word w.image) w.index.state.first key kind 0 value w.index.state.version a b p q)

  -- ---- the cut with counts a and b

  abbrev heads : List ℕ
  heads = 0 ∷ []

  abbrev next : List ℕ
  next = replicate (slots_in w.image + 1) 0

  fits : index_fault (slots_in w.image) (length heads) (length next) ≡ 0
  fits = ap (index_fault (slots_in w.image) 1) (length-replicate (slots_in w.image + 1) 0) ∙ index_fine (slots_in w.image)

  cut_at : (a b : ℕ) → Cut
  cut_at a b = record { counts = half_counts ss a b; restart = record { rounds = []; lent = record { heads = heads; next = next } } }

  abbrev left : (a b : ℕ) → List ℕ
  left a b = cut_image w.image (word_numbers ss) (values ss) a b

  module _ (a b : ℕ) (p : a ≤ 8) (q : b ≤ 8) where
    recovers : Recovers l (image_cut w (effects_of (call_result l w call)) (cut_at a b)) (map_after_event l w m (struck call (cut_at a b)))
    unfolding cut_at after_rounds
    recovers = (set_laws l lay).keeps_always w m g call (cut_at a b) (struck_fits t (record { rounds = none_left; size = fits })) [] none_left

    left_is : left a b ≡ image_cut w (effects_of (call_result l w call)) (cut_at a b)
    unfolding cut_image playing image_cut cut_at
    left_is = (set_laws l lay).plays_cut w m g call t a b p q

    left_recovers : Recovers l (left a b) (map_after_event l w m (struck call (cut_at a b)))
    left_recovers = subst (λ (x : List ℕ). Recovers l x (map_after_event l w m (struck call (cut_at a b)))) (sym left_is) recovers

    left_clear : acceptance_fault l (left a b) ≡ 0
    left_clear =
        let same : slots_in (left a b) ≡ slots_in w.image = ap slots_of (cut_length w.image (word_numbers ss) (values ss) a b) in
        let size : index_fault (slots_in (left a b)) (length heads) (length next)
        ≡ 0 = ap (λ (n : ℕ). index_fault n (length heads) (length next)) same ∙ fits in
        accepted_clear l (left a b) heads next (record { size = size }) (left_recovers.accepts heads next size)

    -- the map that it leaves
    left_map : (k : ℕ) → slots_map l (left a b) k ≡ cond (is_full a b) (plain_next (updates call) m) m k
    unfolding is_whole plain_event plain_step refuses cut_at
    left_map k =
        left_recovers.map k
        ∙ ap₂ (λ (x y : Bool). cond x (cond y m (plain_next (updates call) m)) m k) (full_is a b p q) (ap refuses not_refused)

  -- ---- each pair

  abbrev equal : Bool
  equal = is_equal_replace m call

  changed : Changes m call
  changed = changes l w m call some-there right not_refused

  image_clear : acceptance_fault l w.image ≡ 0
  unfolding acceptance_fault
  image_clear =
      ap (recover_fault l w.image 1) (sym (length-replicate (slots_in w.image + 1) 0))
      ∙ (call_laws l lay).accepts_with w.image (length heads) (length next) ((set_laws l lay).accepts w m g) fits

  later_map : (k : ℕ) → slots_map l (left 8 8) k ≡ plain_next (updates call) m k
  later_map k = left_map 8 8 (omega arith) (omega arith) k

  module _ (a b : ℕ) (p : a ≤ 8) (q : b ≤ 8) where
    -- the earlier map, by whether all stores stand
    earlier_by : (x : Bool) → is_full a b ≡ x → Changes m call → have_one_map l w.image (left a b) ≡ cond x equal true
    earlier_by x f (same_map e h) =
        equal_one_map l w.image (left a b) image_clear (left_clear a b p q)
        (λ k. g.map k ∙ sym (left_map a b p q k ∙ ap (λ (y : Bool). cond y (plain_next (updates call) m) m k) f ∙ either x k))
        ∙ sym (chosen x)
      where
        either : (y : Bool) (k : ℕ) → cond y (plain_next (updates call) m) m k ≡ m k
        either true k = h k
        either false k = refl

        chosen : (y : Bool) → cond y equal true ≡ true
        chosen true = e
        chosen false = refl
    earlier_by true f (other_map e h) =
        is_false _
        (λ s.
        h
        (λ k.
        sym (sym (g.map k) ∙ one_map_equal l w.image (left a b) image_clear (left_clear a b p q) s k
        ∙ left_map a b p q k ∙ ap (λ (y : Bool). cond y (plain_next (updates call) m) m k) f)))
        ∙ sym e
    earlier_by false f (other_map e h) =
        equal_one_map l w.image (left a b) image_clear (left_clear a b p q)
        (λ k. g.map k ∙ sym (left_map a b p q k ∙ ap (λ (y : Bool). cond y (plain_next (updates call) m) m k) f))

    later_by : (x : Bool) → is_full a b ≡ x → Changes m call → have_one_map l (left 8 8) (left a b) ≡ cond x true equal
    later_by true f c =
        equal_one_map l (left 8 8) (left a b) (left_clear 8 8 (omega arith) (omega arith)) (left_clear a b p q)
        (λ k. later_map k ∙ sym (left_map a b p q k ∙ ap (λ (y : Bool). cond y (plain_next (updates call) m) m k) f))
    later_by false f (same_map e h) =
        equal_one_map l (left 8 8) (left a b) (left_clear 8 8 (omega arith) (omega arith)) (left_clear a b p q)
        (λ k. later_map k ∙ h k ∙ sym (left_map a b p q k ∙ ap (λ (y : Bool). cond y (plain_next (updates call) m) m k) f))
        ∙ sym e
    later_by false f (other_map e h) =
        is_false _
        (λ s.
        h
        (λ k.
        sym (later_map k) ∙ one_map_equal l (left 8 8) (left a b) (left_clear 8 8 (omega arith) (omega arith)) (left_clear a b p q) s k
        ∙ left_map a b p q k ∙ ap (λ (y : Bool). cond y (plain_next (updates call) m) m k) f))
        ∙ sym e

  -- ---- all pairs

  pairs_same : (p q : ℕ → ℕ → Bool) → ((a b : ℕ) → a ≤ 8 → b ≤ 8 → p a b ≡ q a b) → count_pairs p ≡ count_pairs q
  unfolding count_pairs pair_test
  pairs_same p q h = count_same (pair_test p) (pair_test q) 81 (λ t i. h ((t - 1) / 9) ((t - 1) % 9) (omega arith) (omega arith))

  all_pairs : (x : Bool) → count_pairs (λ a b. cond (is_full a b) x true) ∷ count_pairs (λ a b. cond (is_full a b) true x) ∷ []
      ≡ cond x (81 ∷ 81 ∷ []) (80 ∷ 1 ∷ [])
  unfolding count_pairs pair_test count
  all_pairs true = refl
  all_pairs false = refl

  counted : earlier_count l w.image (word_numbers ss) (values ss) ∷ later_count l w.image (word_numbers ss) (values ss) ∷ [] ≡ expected_counts m call
  unfolding earlier_count later_count expected_counts
  counted =
      ap₂ (λ (x y : ℕ). x ∷ y ∷ []) (pairs_same _ _ (λ a b p q. earlier_by a b p q _ refl changed))
      (pairs_same _ _ (λ a b p q. later_by a b p q _ refl changed))
      ∙ all_pairs equal

  -- play takes the stores, so that nothing is refused
  answered : (copy later : List ℕ) → length copy ≡ length w.image → length later ≡ length w.image
      → (cut_count_result l w.image (word_numbers ss) (values ss) copy later).answer ≡ gives (expected_counts m call)
  answered copy later p q =
      counts_given l w.image (word_numbers ss) (values ss) copy later image_clear 0
      (copies_fine (length w.image) (word_numbers ss) (length copy) (length later) 0
      (sym ((set_laws l lay).plays w m g call t some-there 8 8 (omega arith) (omega arith))) refl p q)
      refl
      ∙ ap gives counted

-- THE CUTS OF EVERY CALL THAT STORES
pub cuts_counted : (l : ℕ) → Layout l → CutsCounted l (Refines l)
cuts_counted l lay w m g call t some-there = answered l lay w m g call t some-there
