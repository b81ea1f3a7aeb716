-- Lent slices, for a walk of MIR by hand. What is owned of a `&mut [T]` or a `&[T]` is taken apart and put together
-- whole, and an element is reached with its type's laws.
-- Element R what a walk asks of an element's type: how a value's machine values are spelled, that its relation tells
-- them, and what is taken of it as Copy
--     opened, closed   a `&κ mut [T]` is opened, which gives the row of its elements, and closed at a list of the same length
--     given-up         a `&κ mut [T]` is given up for what says its last list
--     looked           a `&κ [T]` is looked into, which gives a share of the row of its elements, for `shuts_slice` to shut again
--     taken            element i is taken out of a row
-- Assumes `Logic`.
use mathlib.Core.Path.{◌≡◌, refl, sym, ap, subst}
use Prim.Native.Nat.{ℕ, zero, suc, ◌*◌, ◌<◌, ◌^◌}
use native.Mathlib.Nat.{le_of_lt, lt_of_le_of_lt, lt_of_lt_of_le, mul-le-mul_right}
use native.Mathlib.Omega.{arith}
use mathlib.Core.List.{List, [], ◌∷◌}
use lib.ListN.{length, get_or}
use seplogic.Ra.Ura.{Ura}
use base.Fraction.{full_share}
use mir.Syntax.{erased, Width}
use mir.Val.{Val, vint, bits}
use base.Fml.{Lft, GName, Share, Fml, ftrue, fsep, flft, fobs, fauth, fobor, fres}
use types.Logic.{Logic}
use types.Kit.{Goal, Soaks, Item, ‵, Seq, Step, step, ◌$◌, move, use1, drop, fsplit, fjoin}
use denote.RattleType.{RattleType}
use denote.Shadow.{pure_i}
use denote.Copied.{Copied, uint_Copied}
use denote.Opens.{Shut}
use denote.Laws.{Is, Tells, shows}
use denote.Memory.{mem, shares, cell_at}
use denote.Plain.{UInt, uint_vals, uint_Tells, uint_Makes}
use denote.Ref.{Bor, MutBor}
use denote.Slice.{slice_val, MutSlice, ShrSlice, Room, heres, coded_holeys, mut_slice_at, finally, res-finally}
use denote.Lend.{Held}
use denote.Index.{place, others, row, elem_out, opens_slice, closes_slice, looks_slice}
use denote.Steps.{owned, nothing}

pub record Element (R : RattleType) : Type 2 where
  pub vals : R.Denot → List Val
  pub tells : Tells R (Is R) vals
  pub copies : {M : Type 1} {𝓤 : Ura M} (𝓛 : Logic 𝓤) → Copied 𝓛 R

abbrev pub number : (w : Width) → Element (UInt w)
number w = record { vals = uint_vals w; tells = uint_Tells w; copies = λ 𝓛. uint_Copied 𝓛 w }

-- the offset of element i of n, each of s bytes, fits a usize
pub offset_fits : (s i n : ℕ) → i < n → n * s < 2 ^ 63 → i * s < 2 ^ 64
offset_fits s i n l g = lt_of_le_of_lt (mul-le-mul_right s (le_of_lt l)) (lt_of_lt_of_le g (omega arith))

-- the reference at (b, o) under γ, at the list l
abbrev pub lent_at : (R : RattleType) → ℕ → ℕ → GName → List R.Denot → MutBor (List R.Denot)
lent_at R b o γ l = record { ref_ptr = (b, o); ghost_name = γ; now = l }

-- and one that is shared, which has no name
abbrev pub shown_at : (R : RattleType) → ℕ → ℕ → List R.Denot → Bor (List R.Denot)
shown_at R b o l = record { ref_ptr = (b, o); now = l }

-- what is owned of a `&mut [T]`, and of a `&[T]`, to that list; the lifetime's name in MIR is no matter
abbrev pub OwnsMut : (R : RattleType) → Lft → ℕ → ℕ → GName → List R.Denot → List Val → Fml
OwnsMut R κ b o γ l vs = (MutSlice erased κ R).own_val (lent_at R b o γ l) vs

abbrev pub OwnsShr : (R : RattleType) → Lft → ℕ → ℕ → List R.Denot → List Val → Fml
OwnsShr R κ b o l vs = (ShrSlice erased κ R).own_val (shown_at R b o l) vs

-- nothing, n times and once more
abbrev pub trues : ℕ → Fml
trues zero = ftrue
trues (suc n) = fsep ftrue (trues n)

-- what shuts a slice that was looked into
abbrev pub Shuts : {M : Type 1} {𝓤 : Ura M} (𝓛 : Logic 𝓤) (R : RattleType) → Lft → Share → Share → List R.Denot → ℕ → ℕ → Item 𝓤
Shuts 𝓛 R κ q q' ys b o = Shut 𝓛 κ q (row R q' ys b o)

module _ {M : Type 1} {𝓤 : Ura M} {𝓛 : Logic 𝓤} {K : Type 0} {Γ : List (Item 𝓤)} {G : Goal 𝓤 𝓛.H} where
  -- what a number owns is had for nothing
  pub number_owned : K → (w : Width) (n : ℕ) → n < 2 ^ bits w → Step K 𝓛 (‵ ((UInt w).own_val n (vint w n ∷ [])) ∷ Γ) G Γ G
  number_owned t w n fits = owned t (UInt w) (Is (UInt w)) (uint_Makes 𝓛 w) n (vint w n ∷ []) (refl, fits)

  -- what is had at exit of n parameters of which nothing is asked, after the last that is asked for
  pub dropped : K → (n : ℕ) → Step K 𝓛 (‵ (trues n) ∷ Γ) G Γ G
  dropped t zero = step (λ s. nothing t $ s)
  dropped t (suc n) = step (λ s. dropped t n $ nothing t $ fjoin t $ s)

  pub opened : K → Soaks G → (R : RattleType) {κ : Lft} {q : Share} (ys : List R.Denot) {γ : GName} (b o : ℕ) {vs : List Val}
      → Step K 𝓛 (‵ (row R full_share ys b o) ∷ ‵ (fobor κ q (Held R (length ys) b o γ)) ∷ ‵ (fobs γ ((coded_holeys R).code (heres R ys))) ∷ ‵
      (fauth γ ((coded_holeys R).code (heres R ys))) ∷ Γ) G
      (‵ (OwnsMut R κ b o γ ys vs) ∷ ‵ (flft κ q) ∷ Γ) G
  opened t z R ys b o = step (λ s. fsplit t $ drop t $ fsplit t $ opens_slice t z R ys b o $ s)

  pub closed : K → Soaks G → (R : RattleType) {κ : Lft} {q : Share} (ys zs : List R.Denot) → length zs ≡ length ys → Room R (length ys)
      → {γ : GName} (b o : ℕ)
      → Step K 𝓛 (‵ (OwnsMut R κ b o γ zs (slice_val (b, o) (length ys) ∷ [])) ∷ ‵ (flft κ q) ∷ Γ) G
      (‵ (row R full_share zs b o) ∷ ‵ (fobor κ q (Held R (length ys) b o γ)) ∷ ‵ (fobs γ ((coded_holeys R).code (heres R ys))) ∷ ‵
      (fauth γ ((coded_holeys R).code (heres R ys))) ∷ Γ) G
  closed t z R ys zs e room {γ} b o = step (λ s. closes_slice t z R ys zs e b o $ fjoin t $
      pure_i t (mut_slice_at R (lent_at R b o γ zs) (slice_val (b, o) (length ys) ∷ [])) (tt, (tt, tt))
      (ap (λ (m : ℕ). slice_val (b, o) m ∷ []) (sym e), subst (Room R) (sym e) room) $ fjoin t $ s)

  -- a `&mut [T]` is given up for what says its last list
  pub given_up : K → (R : RattleType) (κ : Lft) (ys : List R.Denot) (γ : GName) (b o : ℕ) {vs : List Val}
      → Step K 𝓛 (‵ (finally R γ ys) ∷ Γ) G (‵ (OwnsMut R κ b o γ ys vs) ∷ Γ) G
  given_up t R κ ys γ b o =
      step (λ s. fsplit t $ drop t $ fsplit t $ use1 𝓛 (‵ (fres γ ((coded_holeys R).code (heres R ys))))
      (𝓛.names.obs-res γ ((coded_holeys R).code (heres R ys)))
      $
      use1 𝓛 (‵ (finally R γ ys)) (res-finally 𝓛 erased κ R γ ys) $ move t (1 ∷ []) $ drop t $ s)

  pub looked : K → Soaks G → (R : RattleType) → Element R → {κ : Lft} {q : Share} (ys : List R.Denot) (b o : ℕ) {vs : List Val}
      → ((q' : Share) → Seq K 𝓛 (‵ (row R q' ys b o) ∷ Shuts 𝓛 R κ q q' ys b o ∷ Γ) G) → Seq K 𝓛 (‵ (OwnsShr R κ b o ys vs) ∷ ‵ (flft κ q) ∷ Γ) G
  looked t z R E ys b o k = fsplit t $ drop t $ looks_slice t z R (E.copies 𝓛) ys b o (λ q'. move t (2 ∷ []) $ drop t $ k q')

  pub taken : K → (R : RattleType) (E : Element R) (q : Share) (ys : List R.Denot) (i : ℕ) (d : R.Denot) (b o : ℕ) → i < length ys
      → (Is R (get_or ys i d) (E.vals (get_or ys i d))
      → Seq K 𝓛 (‵ (cell_at q R.mir (E.vals (get_or ys i d)) b (place (mem R).size o i)) ∷ ‵ (R.own_val (get_or ys i d) (E.vals (get_or ys i d))) ∷ ‵
      (others (shares R) q ys i b o) ∷ Γ) G)
      → Seq K 𝓛 (‵ (row R q ys b o) ∷ Γ) G
  taken t R E q ys i d b o l k = elem_out t R (Is R) (shows 𝓛 R) E.vals E.tells q ys i d b o l k
