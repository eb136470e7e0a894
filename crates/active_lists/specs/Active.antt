-- What is promised of the active lists. It speaks of the set of them alone, which is all that contracts see of a value (`seen`).
-- How the set is kept is said in `Kept`: another way to keep it changes neither this file nor any caller. Assumes nothing.
use Rattle.std.specs.Prelude.{ℕ, zero, suc, ◌+◌, ◌<◌, ◌≤◌, ◌≡◌, Bool, true, false, cond, List, eqb, get_or}
use Rattle.std.specs.declared.option.Option.{Option}
use Rattle.std.specs.declared.option.Option.TheVariants.{None, Some}
use Rattle.rules.specs.Piece.{there}

-- a set of lists: whether each is in it; only the sixteen from 0 on count
abbrev pub Set : Type 0
Set = ℕ → Bool

abbrev pub nobody : Set
nobody i = false

-- the set but for one list, which is in it or not
abbrev pub but : Set → ℕ → Bool → Set
but f list b i = cond (eqb i list) b (f i)

abbrev pub with : Set → ℕ → Set
with f list = but f list true

abbrev pub without : Set → ℕ → Set
without f list = but f list false

-- the lists that have something
abbrev pub has : {A : Type 0} → List (Option A) → Set
has os i = there (get_or os i None)

-- two sets have the same of the sixteen
abbrev pub Alike : Set → Set → Type 0
Alike f g = (i : ℕ) → i < 16 → f i ≡ g i

-- no list of the set is above this one
pub record HighestIn (f : Set) (list : ℕ) : Type 0 where
  pub small : list < 16
  pub inside : f list ≡ true
  pub above : (i : ℕ) → i < 16 → f i ≡ true → i ≤ list

-- the highest of the sixteen that is in the set, or none where none is
abbrev pub IsHighest : Set → Option ℕ → Type 0
IsHighest f (Some list) = HighestIn f list
IsHighest f None = (i : ℕ) → i < 16 → f i ≡ false

abbrev pub bit : Bool → ℕ
bit b = cond b 1 0

-- how many of the first n lists are in the set, and how many of the sixteen
unfoldable pub among : ℕ → Set → ℕ
among zero f = 0
among (suc n) f = bit (f n) + among n f

abbrev pub number : Set → ℕ
number f = among 16 f

-- what is seen of a value of the type `Active`: whether each of the sixteen is active
abbrev pub Active : Type 0
Active = List Bool

-- the set of those that are
abbrev pub members : Active → Set
members a i = get_or a i false

-- a value stands for every set that has the same of the sixteen
pub record Stands (a : Active) (f : Set) : Type 0 where
  pub same : Alike f (members a)
