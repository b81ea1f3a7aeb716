-- A local array of numbers that is lent as a slice for a call, for a walk of MIR by hand.
--     array-lent       the local's cell becomes a `&κ [T]`, and the lender's part
--     array_back       once κ is over, the lender's part is the local's cell again
-- Assumes `Logic`.
use mathlib.Core.Path.{◌≡◌, sym, refl}
use Prim.Native.Nat.{ℕ, ◌+◌}
use mathlib.Core.List.{List, [], ◌∷◌}
use lib.ListN.{length}
use seplogic.Ra.Ura.{Ura}
use base.Fraction.{full_share}
use mir.Syntax.{Width, ty_int, ty_array}
use mir.Val.{Val}
use base.Fml.{Lft, Share, Fml, fsep, fdead, flent, fhide}
use types.Logic.{Logic}
use types.Kit.{Goal, Soaks, Item, ‵, ◌⊛◌, later, Seq, Step, step, ◌$◌, ◌∵◌, !, qed, done, move, drop, use1, split, rewrite, await, fsplit, fjoin, fpick}
use types.Kit.{fpack, feq_i}
use types.Tokens.{lent_back}
use types.Share.{arr_parts}
use denote.Laws.{Is, shows}
use denote.Array.{Array, array_vals, Array-Tells, Array-Makes}
use denote.ArrayMemory.{Array-apart, Array-whole}
use denote.Memory.{mem, cell_at, part_at, shares, shared_of, part_of}
use denote.Plain.{UInt, uint_vals, uint_Tells, uint_Makes}
use denote.RattleType.{RattleType}
use denote.Shadow.{pure_i}
use denote.Slice.{slice_val, Room, shr_slice_at, elements_shared}
use denote.Index.{row}
use denote.Copied.{Copied, uint_Copied}
use denote.Lends.{Lent, Lent-nothing, Lent-both, Lent-map}
use denote.Steps.{owned}
use denote.Struct.Steps.{spelt}
use Rattle.mir_steps.proofs.Lent.{shown_at, OwnsShr}

-- the lender's part
abbrev pub LentArray : (w : Width) → Lft → List ℕ → ℕ → Fml
LentArray w κ xs b = flent κ ((arr_parts (shares (UInt w)) (length xs)).part full_share xs b 0)

-- the cell of a local array
abbrev pub array_cell : (w : Width) → ℕ → List ℕ → ℕ → Fml
array_cell w n xs b = cell_at full_share (ty_array (ty_int w) n ∷ []) (array_vals (uint_vals w) xs) b 0

module _ {M : Type 1} {𝓤 : Ura M} (𝓛 : Logic 𝓤) (R : RattleType) (c : Copied 𝓛 R) where
  -- elements side by side are lent as `&`, each by itself
  pub row_lends : (q : Share) (xs : List R.Denot) (b o : ℕ) → Lent 𝓛 (row R q xs b o) (elements_shared R xs b o)
  row_lends q [] b o = Lent-nothing 𝓛
  row_lends q (x ∷ xs) b o = Lent-both 𝓛 (part_at R q x b o) (row R q xs b (o + (mem R).size)) (shared_of R x b o) (elements_shared R xs b (o + (mem R).size))
      (c.lends q x b o) (row_lends q xs b (o + (mem R).size))

  pub array_lends : (q : Share) (xs : List R.Denot) (b o : ℕ) → Lent 𝓛 ((arr_parts (shares R) (length xs)).part q xs b o) (elements_shared R xs b o)
  array_lends q xs b o = Lent-map 𝓛 ((arr_parts (shares R) (length xs)).part q xs b o) (row R q xs b o) (elements_shared R xs b o)
      (qed 𝓛 (‵ ((arr_parts (shares R) (length xs)).part q xs b o) ∷ []) ∵ fsplit ! $ drop ! $ done !)
      (qed 𝓛 (‵ (row R q xs b o) ∷ []) ∵ feq_i ! ℕ (length xs) (length xs) refl $ done !)
      (row_lends q xs b o)

module _ {M : Type 1} {𝓤 : Ura M} {𝓛 : Logic 𝓤} {K : Type 0} {Γ : List (Item 𝓤)} {G : Goal 𝓤 𝓛.H} where
  pub array_lent : K → Soaks G → (w : Width) (n : ℕ) (xs : List ℕ) (b : ℕ) (κ : Lft) → Is (Array (UInt w) n) xs (array_vals (uint_vals w) xs)
      → Room (UInt w) (length xs)
      → Seq K 𝓛 (‵ (OwnsShr (UInt w) κ b 0 xs (slice_val (b, 0) (length xs) ∷ [])) ∷ ‵ (LentArray w κ xs b) ∷ Γ) G
      → Seq K 𝓛 (‵ (array_cell w n xs b) ∷ Γ) G
  unfolding part_of
  array_lent t z w n xs b κ is room k =
      owned t (Array (UInt w) n) (Is (Array (UInt w) n)) (Array-Makes 𝓛 (UInt w) (uint_Makes 𝓛 w) n) xs (array_vals (uint_vals w) xs) is $ move t
      (1 ∷ 0 ∷ []) $ fjoin t $
      fpack t (List Val) (λ us. fsep (cell_at full_share (ty_array (ty_int w) n ∷ []) us b 0) ((Array (UInt w) n).own_val xs us)) (array_vals (uint_vals w) xs)
      $
      use1 𝓛 (‵ ((arr_parts (shares (UInt w)) n).part full_share xs b 0)) (Array-apart 𝓛 (UInt w) full_share tt n xs b 0) $
      rewrite t 0 (λ (m : ℕ). ‵ ((arr_parts (shares (UInt w)) m).part full_share xs b 0)) (sym is.1.0.1) refl $
      use1 𝓛 (later (‵ (fhide (elements_shared (UInt w) xs b 0 κ)) ⊛ ‵ (LentArray w κ xs b))) (array_lends 𝓛 (UInt w) (uint_Copied 𝓛 w) full_share xs b 0 κ) $
      await t z $ split t $ pure_i t (shr_slice_at (UInt w) (shown_at (UInt w) b 0 xs) (slice_val (b, 0) (length xs) ∷ [])) (tt, (tt, tt)) (refl, room) $
      fjoin t $ k

  pub array_back : K → Soaks G → (w : Width) (n : ℕ) (xs : List ℕ) (b : ℕ) (κ : Lft) → length xs ≡ n
      → Step K 𝓛 (‵ (array_cell w n xs b) ∷ Γ) G (‵ (fdead κ) ∷ ‵ (LentArray w κ xs b) ∷ Γ) G
  unfolding part_of
  array_back t z w n xs b κ e = step (λ s. lent_back t z $ rewrite t 0 (λ (m : ℕ). ‵ ((arr_parts (shares (UInt w)) m).part full_share xs b 0)) e refl $
      use1 𝓛 (‵ (part_at (Array (UInt w) n) full_share xs b 0)) (Array-whole 𝓛 (UInt w) full_share n xs b 0) $ fpick t (λ vs. fsplit t $
      spelt t (Array (UInt w) n) (Is (Array (UInt w) n)) (shows 𝓛 (Array (UInt w) n)) (array_vals (uint_vals w))
      (Array-Tells (UInt w) (uint_vals w) (uint_Tells w) n) full_share xs vs b 0 $
      move t (1 ∷ []) $ drop t $ s))
