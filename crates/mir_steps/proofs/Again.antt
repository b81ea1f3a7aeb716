-- A `&κ mut [T]` that is lent again for a lifetime κ' of a call, and comes back, for a walk of MIR by hand.
--     LentAgain        what the holder keeps meanwhile: the lender's part at κ', and its own borrow at κ, open, with both halves of its ghost variable
--     lent_again       it is lent again; n is the length of its list
--     comes_back       once κ' is over it is owned at its last list, of the same length
-- Assumes `Logic`.
use mathlib.Core.Path.{◌≡◌, refl, sym, subst}
use Prim.Native.Nat.{ℕ}
use mathlib.Core.List.{List, [], ◌∷◌}
use lib.ListN.{length}
use seplogic.Ra.Ura.{Ura}
use base.Fraction.{full_share}
use mir.Syntax.{erased}
use mir.Val.{Val}
use base.Fml.{Lft, GName, Share, Fml, fsep, flft, fdead, fobs, fauth, flent, fobor}
use types.Logic.{Logic}
use types.Kit.{Goal, Soaks, Item, ‵, ◌⊛◌, some, later, Seq, Step, step, ◌$◌, move, use1, use3, drop, split, pick, rewrite, fsplit, fjoin, await}
use types.SemTy.{cells, Arr}
use denote.RattleType.{RattleType}
use denote.Memory.{mem}
use denote.Slice.{slice_val, heres, Room, finally, coded_holeys}
use denote.Lend.{Held, lends_slice, slice_back}
use denote.Index.{row, whole_out, whole_in}
use Rattle.mir_steps.proofs.Lent.{OwnsMut, opened, closed}

abbrev pub LentAgain : (R : RattleType) → Lft → Lft → Share → ℕ → ℕ → GName → GName → List R.Denot → Fml
LentAgain R κ κ' q b o γ γ₁ ys =
    fsep (flent κ' (Held R (length ys) b o γ₁))
    (fsep (fobor κ q (Held R (length ys) b o γ)) (fsep (fobs γ ((coded_holeys R).code (heres R ys))) (fauth γ ((coded_holeys R).code (heres R ys)))))

module _ {M : Type 1} {𝓤 : Ura M} {𝓛 : Logic 𝓤} {K : Type 0} {Γ : List (Item 𝓤)} {G : Goal 𝓤 𝓛.H} where
  pub lent_again : K → Soaks G → (R : RattleType) (κ' : Lft) {κ : Lft} {q : Share} (ys : List R.Denot) {γ : GName} (b o n : ℕ) → length ys ≡ n → Room R n
      → {vs : List Val}
      → ((γ₁ : GName) → Seq K 𝓛 (‵ (OwnsMut R κ' b o γ₁ ys (slice_val (b, o) n ∷ [])) ∷ ‵ (LentAgain R κ κ' q b o γ γ₁ ys) ∷ Γ) G)
      → Seq K 𝓛 (‵ (OwnsMut R κ b o γ ys vs) ∷ ‵ (flft κ q) ∷ Γ) G
  lent_again t z R κ' ys b o n e room k = opened t z R ys b o $ use1 𝓛 (‵ (cells (mem R) ys b o)) (whole_in 𝓛 R ys b o) $
      use1 𝓛 (later (some (λ (γ₁ : GName). ‵ (OwnsMut R κ' b o γ₁ ys (slice_val (b, o) (length ys) ∷ [])) ⊛ ‵ (flent κ' (Held R (length ys) b o γ₁)))))
      (lends_slice 𝓛 R erased κ' ys b o (subst (Room R) (sym e) room)) $ await t z $ pick t (λ γ₁. split t $
      rewrite t 0 (λ (m : ℕ). ‵ (OwnsMut R κ' b o γ₁ ys (slice_val (b, o) m ∷ []))) e refl $
      -- [the new slice; the lender's part at κ'; the open borrow at κ; obs γ; auth γ]
      move t (3 ∷ 4 ∷ []) $ fjoin t $ move t (3 ∷ 0 ∷ []) $ fjoin t $ move t (2 ∷ 0 ∷ []) $ fjoin t $ move t (1 ∷ 0 ∷ []) $ k γ₁)

  pub comes_back : K → Soaks G → (R : RattleType) (κ κ' : Lft) (q : Share) (ys zs : List R.Denot) (γ γ₁ : GName) (b o n : ℕ) → length ys ≡ n → Room R n
      → length zs ≡ length ys
      → Step K 𝓛 (‵ (OwnsMut R κ b o γ zs (slice_val (b, o) n ∷ [])) ∷ ‵ (flft κ q) ∷ Γ) G
      (‵ (fdead κ') ∷ ‵ (LentAgain R κ κ' q b o γ γ₁ ys) ∷ ‵ (finally R γ₁ zs) ∷ Γ) G
  comes_back t z R κ κ' q ys zs γ γ₁ b o n en room e = step (λ s. move t (1 ∷ []) $ fsplit t $ move t (2 ∷ 0 ∷ 3 ∷ []) $
      use3 𝓛 (later (‵ ((Arr (mem R) (length ys)).own_at zs b o))) (slice_back 𝓛 R κ' γ₁ zs (length ys) b o) $ await t z $ fsplit t $ drop t $ use1 𝓛
      (‵ (row R full_share zs b o)) (whole_out 𝓛 R zs b o) $
      move t (1 ∷ []) $ fsplit t $ move t (1 ∷ []) $ fsplit t $ move t (3 ∷ 2 ∷ 0 ∷ 1 ∷ []) $ closed t z R ys zs e (subst (Room R) (sym en) room) b o $
      rewrite t 0 (λ (m : ℕ). ‵ (OwnsMut R κ b o γ zs (slice_val (b, o) m ∷ []))) en refl $ s)
