-- The numbered combiners over the values of the lists present. Over no values each gives 0. Assumes nothing.
use Rattle.std.specs.Prelude.{ℕ, Bool, cond, ◌&&◌, List, [], ◌∷◌, ltb, leb, ℤ, pos, ◌+ℤ◌, length, get_or}
use Rattle.std.specs.declared.option.Option.{Option}
use Rattle.std.specs.declared.option.Option.TheVariants.{None, Some}
use Rattle.std.specs.Int.Signed.{le_z, quot_z}

abbrev pub sum_of : List ℤ → ℤ
sum_of [] = pos 0
sum_of (v ∷ vs) = v +ℤ sum_of vs

abbrev pub largest : List ℤ → ℤ
largest [] = pos 0
largest (v ∷ []) = v
largest (v ∷ u ∷ us) = let rest = largest (u ∷ us) in cond (le_z v rest) rest v

abbrev pub smallest : List ℤ → ℤ
smallest [] = pos 0
smallest (v ∷ []) = v
smallest (v ∷ u ∷ us) = let rest = smallest (u ∷ us) in cond (le_z v rest) v rest

-- the quotient is cut toward zero
abbrev pub mean : List ℤ → ℤ
mean [] = pos 0
mean (v ∷ vs) = quot_z (sum_of (v ∷ vs)) (pos (length (v ∷ vs)))

-- by its number a combiner's answer over the values present; no other number has one
abbrev pub combine : ℕ → List ℤ → Option ℤ
combine c vs = get_or (None ∷ Some (sum_of vs) ∷ Some (largest vs) ∷ Some (smallest vs) ∷ Some (pos (length vs)) ∷ Some (mean vs) ∷ []) c None

-- the number of the last combiner; the first is 1
abbrev pub last_combiner : ℕ
last_combiner = 5

abbrev pub known : ℕ → Bool
known c = ltb 0 c && leb c last_combiner
