-- Laws of sets of lists: how many are in them, and the lists that have something. They know nothing of how a set is
-- kept. Assumes nothing.
use Prim.Native.Nat.{ℕ, zero, suc, ◌+◌, ◌<◌, ◌≤◌}
use mathlib.Core.Path.{◌≡◌, refl, sym, ap, ◌∙◌}
use mathlib.Core.Logic.{⊎_elim}
use mathlib.Core.Bool.{Bool, true, false, cond, true≢false}
use Rattle.std.specs.declared.option.Option.{Option}
use Rattle.std.specs.declared.option.Option.TheVariants.{None, Some}
use mathlib.Core.List.{List, [], ◌∷◌}
use native.Mathlib.Omega.{arith}
use native.Mathlib.Decide.{ℕ_discrete}
use lib.Dec.{eqb}
use lib.ListN.{length, get_or, set, get_or-eq_default}
use lib.Seq.{get_or-set_same, get_or-set_other}
use borrow.Author.Tests.{eq-eqb, ne_eqb}
use Rattle.rules.specs.Piece.{there, present}
use Rattle.rules.proofs.At.{le_or_lt}
use Rattle.active_lists.specs.Active.{Set, nobody, but, has, bit, among, number, Alike, HighestIn}

module _ (f : Set) (list : ℕ) (b : Bool) where
  pub but_here : but f list b list ≡ b
  but_here = rw (eq-eqb list list refl)

  pub but_other : (i : ℕ) → (i ≡ list → ⊥) → but f list b i ≡ f i
  but_other i ne = rw (ne_eqb i list ne)

pub but_same : {f g : Set} → Alike f g → (list : ℕ) (b : Bool) → Alike (but f list b) (but g list b)
but_same h list b i l = ap (cond (eqb i list) b) (h i l)

-- the number is that of the lists in the set
among_same : (f g : Set) (n : ℕ) → ((i : ℕ) → i < n → f i ≡ g i) → among n f ≡ among n g
unfolding among
among_same f g zero h = refl
among_same f g (suc n) h = omega (arith, among_same f g n (λ i l. h i (omega arith)), ap bit (h n (omega arith)))

pub number_same : (f g : Set) → Alike f g → number f ≡ number g
number_same f g h = among_same f g 16 h

among_none : (n : ℕ) → among n nobody ≡ 0
unfolding among
among_none zero = refl
among_none (suc n) = omega (arith, among_none n)

pub number_none : number nobody ≡ 0
number_none = among_none 16

bit_upto : (b : Bool) → bit b ≤ 1
bit_upto true = omega arith
bit_upto false = omega arith

among_upto : (f : Set) (n : ℕ) → among n f ≤ n
unfolding among
among_upto f zero = omega arith
among_upto f (suc n) = omega (arith, among_upto f n, bit_upto (f n))

pub number_upto : (f : Set) → number f ≤ 16
number_upto f = among_upto f 16

-- one list changes
module _ (f : Set) (list : ℕ) (b : Bool) where
  among_but : (n : ℕ) → list < n → among n (but f list b) + bit (f list) ≡ among n f + bit b
  unfolding among
  among_but zero l = absurd (omega arith)
  among_but (suc n) l =
      elim (ℕ_discrete n list) [
        | yes e ↦ omega (
          arith,
          among_same (but f list b) f n (λ i h. but_other f list b i (omega arith)),
          ap bit (ap (but f list b) e ∙ but_here f list b),
          ap (λ i. bit (f i)) e,
        )
        | no ne ↦ omega (arith, among_but n (omega arith), ap bit (but_other f list b n ne))
      ]

  pub number_but : list < 16 → number (but f list b) + bit (f list) ≡ number f + bit b
  number_but l = among_but 16 l

-- a set that is told by what stands in a column, and one place of it changes
pub told_set : {A : Type 0} (is : A → Bool) (d : A) (xs : List A) (list : ℕ) (x : A) → list < length xs → Alike (but (λ i. is (get_or xs i d)) list (is x)) (λ i. is (get_or (set xs list x) i d))
told_set is d xs list x h i l =
    let f : Set = λ j. is (get_or xs j d) in
    elim (ℕ_discrete i list) [
      | yes e ↦ rw e (but_here f list (is x) ∙ ap is (sym (get_or-set_same xs list x d h)))
      | no ne ↦ but_other f list (is x) i ne ∙ ap is (sym (get_or-set_other xs list i x d ne))
    ]

among_front : (n : ℕ) (f : Set) → among (suc n) f ≡ bit (f 0) + among n (λ i. f (suc i))
unfolding among
among_front zero f = refl
among_front (suc n) f = omega (arith, among_front n f)

-- the lists that have something
module _ {A : Type 0} where
  among_present : (n : ℕ) (os : List (Option A)) → length os ≤ n → among n (has os) ≡ length (present os)
  among_present n [] h = among_none n
  among_present zero (o ∷ os) h = absurd (omega arith)
  among_present (suc n) (None ∷ os) h = omega (arith, among_front n (has (None ∷ os)), among_present n os (omega arith))
  among_present (suc n) (Some v ∷ os) h = omega (arith, among_front n (has (Some v ∷ os)), among_present n os (omega arith))

  pub number_present : (os : List (Option A)) → length os ≤ 16 → number (has os) ≡ length (present os)
  number_present os h = among_present 16 os h

  -- one of them comes to have something or nothing
  pub has_set : (os : List (Option A)) (list : ℕ) (o : Option A) → list < length os → Alike (but (has os) list (there o)) (has (set os list o))
  has_set = told_set there None

  absent : (o : Option A) → there o ≡ false → o ≡ None
  absent None e = refl
  absent (Some v) e = absurd (true≢false e)

  module _ (os : List (Option A)) (h : length os ≤ 16) where
    absent_at : (i : ℕ) → (i < 16 → has os i ≡ false) → get_or os i None ≡ None
    absent_at i f = ⊎_elim (λ l. get_or-eq_default os None (omega arith)) (λ l. absent (get_or os i None) (f l)) (le_or_lt 16 i)

    -- where none is active, none has anything
    pub has_none : ((i : ℕ) → i < 16 → has os i ≡ false) → (i : ℕ) → get_or os i None ≡ None
    has_none f i = absent_at i (f i)

    -- above the highest that is active, none has anything
    pub has_last : (list : ℕ) → HighestIn (has os) list → (i : ℕ) → list < i → get_or os i None ≡ None
    has_last list t i l = absent_at i (λ k. go k (has os i) refl)
      where
        go : i < 16 → (b : Bool) → has os i ≡ b → b ≡ false
        go k false e = refl
        go k true e = absurd (omega (arith, t.above i k e))
