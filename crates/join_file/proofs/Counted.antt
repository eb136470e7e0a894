-- What a printing call answers counts bytes of the buffer; columns are as long as what they lend. Assumes nothing.
use Prim.Native.Nat.{ℕ, ◌≤◌}
use mathlib.Core.Path.{◌≡◌, refl, sym, ap, ◌∙◌}
use mathlib.Core.Bool.{Bool, true, false}
use mathlib.Core.List.{List, ◌++◌, map}
use native.Mathlib.Omega.{arith}
use lib.Dec.{leb}
use lib.ListN.{length, take, drop, length-append, length-map, length-take}
use lib.Seq.{length-take-le}
use Rattle.io.specs.Counts.{IsPrefixLen}
use Rattle.answer_text.specs.Buffer.{Print, leaves, print}

pub counts : (t old new : List ℕ) (r : ℕ) → leaves r new ≡ print t old → IsPrefixLen r new
counts t old new r e = let l = go (leb (length t) (length old)) refl in (l, sym (length-take-le r new l))
  where
    go : (b : Bool) → leb (length t) (length old) ≡ b → r ≤ length new
    go true q =
        let p : leaves r new ≡ leaves (length t) (t ++ drop (length t) old) = e ∙ rw q refl in
        let n : r ≡ length t = ap (λ (x : Print). x.count) p in
        let m : new ≡ t ++ drop (length t) old = ap (λ (x : Print). x.buffer) p in
        omega (arith, n, ap length m, length-append t (drop (length t) old))
    go false q =
        let p : leaves r new ≡ leaves 0 old = e ∙ rw q refl in
        let n : r ≡ 0 = ap (λ (x : Print). x.count) p in
        omega (arith, n)

-- a front that holds so many has them
pub front_within : {A B : Type 0} (f : A → B) (xs : List A) (n : ℕ) (l : List B) → take n l ≡ map f xs → length xs ≡ n → n ≤ length l
front_within f xs n l e m = omega (arith, ap length e, length-map xs f, length-take n l, m)
