-- Numbers of at most eight bytes, and two's complement. Assumes nothing.
use Prim.Native.Nat.{ℕ, zero, suc, ◌+◌, ◌-◌, ◌*◌, ◌^◌, ◌≤◌, ◌<◌}
use mathlib.Core.Path.{◌≡◌, refl, ap, ◌∙◌}
use mathlib.Core.Bool.{Bool, true, false, cond}
use mathlib.Core.List.{List, ◌++◌, append-nil}
use native.Mathlib.Omega.{arith}
use native.Mathlib.Nat.{pow-suc, pow-le-pow_right}
use native.Mathlib.Numerals.{add-one}
use lib.Dec.{ltb}
use lib.IntN.{ℤ, pos, negsuc}
use lib.ListN.{length, get_or, take, drop, replicate, length-drop}
use lib.Seq.{drop-cons, length-take-le}
use Rattle.std.proofs.lemmas.List.{drop-replicate, drop_all, length-append, length-replicate, take-replicate}
use Rattle.std.proofs.Math.Facts.{to_z_pos, to_z-neg}
use Rattle.std.specs.Int.{w64, from_be_bytes, cast_signed}
use mir.Syntax.{Width}
use mir.Val.{SFits, hbits, bits}
use borrow.Rule.Slice.PartMut.{put_mid}
use borrow.Author.Tests.{ltb-true, ltb-false}
use Rattle.tariff_file.specs.Layout.{number, half, integer}
use Rattle.tariff_file.proofs.Number.{bits_integer}
use Rattle.tariff_file.proofs.Places.{number_more}

-- one byte more
pub byte_more : (i n b : ℕ) → n < 256 ^ i → b < 256 → n * 256 + b < 256 ^ (i + 1)
byte_more i n b h l = rw (add-one i) (omega (arith, pow-suc 256 i))

pub byte_fits : (i n b : ℕ) → i < 8 → n < 256 ^ i → b < 256 → n * 256 + b < 2 ^ 64
byte_fits i n b s h l = omega (arith, byte_more i n b h l, pow-le-pow_right {n = 256} (omega arith) {i = i + 1} {j = 8} (omega arith))

pub number_next : (s : List ℕ) (at i n place : ℕ) → at + i < length s → place ≡ at + i → n ≡ number (take i (drop at s)) → n * 256 + get_or s place 0 ≡ number (take (i + 1) (drop at s))
number_next s at i n place h p e = rw (add-one i) (omega (arith, number_more s at i h, ap (λ (k : ℕ). get_or s k 0) p))

-- the first of the bytes from place i on
number_step : (b : List ℕ) (i n : ℕ) → length b ≡ i + suc n → number (drop i b) ≡ get_or b i 0 * 256 ^ n + number (drop (suc i) b)
unfolding number
number_step b i n l =
    let e : length (drop (suc i) b) ≡ n = omega (arith, length-drop (suc i) b) in
    ap number (drop-cons b i 0 (omega arith)) ∙ ap (λ (k : ℕ). get_or b i 0 * 256 ^ k + number (drop (suc i) b)) e

number_eight : (b : List ℕ) → length b ≡ 8 → from_be_bytes w64 b ≡ number b
unfolding number
number_eight b l =
    let s = number_step b in
    let e : number (drop 8 b) ≡ 0 = ap number (drop_all 8 b (omega arith)) in
    omega (arith, s 0 7 l, s 1 6 l, s 2 5 l, s 3 4 l, s 4 3 l, s 5 2 l, s 6 1 l, s 7 0 l, e)

number_zeros : (m : ℕ) (b : List ℕ) → number (replicate m 0 ++ b) ≡ number b
unfolding number
number_zeros zero b = refl
number_zeros (suc m) b = omega (arith, number_zeros m b)

-- k bytes at the end of eight zeros
pub number_padded : (b : List ℕ) (k : ℕ) → k ≤ 8 → length b ≡ k → from_be_bytes w64 (put_mid (8 - k) (8 - (8 - k)) (replicate 8 0) b) ≡ number b
number_padded b k h l =
    let z = replicate {A = ℕ} (8 - k) 0 in
    let shape : put_mid (8 - k) (8 - (8 - k)) (replicate 8 0) b ≡ z ++ b =
    rw (take-replicate {X = ℕ} (8 - k) 8 0 (omega arith), drop-replicate {X = ℕ} (8 - k) 8 0, drop_all {X = ℕ} (8 - (8 - k)) (replicate (8 - (8 - k)) 0) (omega (arith, length-replicate {A = ℕ} (8 - (8 - k)) 0)), append-nil) refl in
    ap (from_be_bytes w64) shape ∙ number_eight (z ++ b) (omega (arith, length-append z b, length-replicate {A = ℕ} (8 - k) 0)) ∙ number_zeros (8 - k) b

-- a width of k bytes
signed_is : (w : Width) (k n : ℕ) → 256 ^ k ≡ 2 ^ bits w → half k ≡ 2 ^ hbits w → 256 ^ k ≡ half k + half k → n < 256 ^ k → cast_signed w n ≡ integer k n
unfolding integer
signed_is w k n whole low two h = go (ltb n (half k)) refl
  where
    go : (t : Bool) → ltb n (half k) ≡ t → cast_signed w n ≡ cond t (pos n) (negsuc (256 ^ k - suc n))
    go true e = to_z_pos w (omega (arith, ltb-true n (half k) e))
    go false e =
        let j = 256 ^ k - suc n in
        let z : n ≡ 2 ^ bits w - suc j = omega (arith, ltb-false n (half k) e) in
        ap (cast_signed w) z ∙ to_z-neg w j (omega (arith, ltb-false n (half k) e))

-- that of a width whose bytes stand from place i on
pub signed_at : (w : Width) (k i : ℕ) (b : List ℕ) (n : ℕ) → 256 ^ k ≡ 2 ^ bits w → half k ≡ 2 ^ hbits w → 256 ^ k ≡ half k + half k → i + k ≤ length b →
    n ≡ number (take k (drop i b)) → n < 256 ^ length (take k (drop i b)) → cast_signed w n ≡ integer k (number (take k (drop i b)))
signed_at w k i b n whole low two h e l =
    let f : length (take k (drop i b)) ≡ k = length-take-le k (drop i b) (omega (arith, length-drop i b)) in
    signed_is w k n whole low two (rw f at l) ∙ ap (integer k) e

-- a signed field fits a width that is not shorter
pub field_fits : (k n : ℕ) → 0 < k → n < 256 ^ k → (z : ℤ) → z ≡ integer k n → (w : Width) → half k ≤ 2 ^ hbits w → SFits w z
field_fits k n some below z e w enough = record { sfits = rw e (omega (arith, (bits_integer k some n below).1)) }
